use Rattle.std.proofs.Common.{◌≡◌, ◌∙◌, ◌<◌, ◌+◌, ℕ, ap, ap₂, sym, map, take, length, List, [], ◌∷◌, ◌++◌, slice_index_or}
use Rattle.std.proofs.lemmas.List.{map-append, take_more}
use Rattle.clap.specs.Words.{with_rule}
use Rattle.words.specs.declared.table.Row.{Row}
use Rattle.words.specs.Rows.{field_of}
use Rattle.words.specs.Rules.{app_by, option_rule}
use Rattle.words.proofs.parse.options_of.Goals as goal

more_rules : (rows : List Row) (i : ℕ) (d : Row) → i < length rows
    → map option_rule (map field_of (take i rows)) ++ option_rule (field_of (slice_index_or rows i d)) ∷ []
    ≡ map option_rule (map field_of (take (i + 1) rows))
more_rules rows i d lt =
    sym (map-append option_rule (map field_of (take i rows)) (field_of (slice_index_or rows i d) ∷ []))
    ∙ ap (map option_rule) (sym (map-append field_of (take i rows) (slice_index_or rows i d ∷ []))
    ∙ ap (map field_of) (sym (take_more rows i d lt)))

pub loop-row-preserved : goal.loop-row-preserved
loop-row-preserved c =
    c.in_ok-command.ensures.shape c.option_arg.ensures.local ∙ ap₂ with_rule c.loop-row.invariant c.option_arg.ensures.rule
    ∙ ap app_by (more_rules c.args.options.now c.loop-row.row-index _ c.loop-row-test.true)
