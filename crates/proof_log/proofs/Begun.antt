-- A log that is begun.
use Rattle.std.proofs.Common.{◌≡◌, Bool, ℕ, ◌+◌, ◌≤◌, List, [], ◌∷◌, ◌++◌, length, map, Option, IsTrue, refl, ap, ap₂, sym, subst, ◌∙◌, arith, append_assoc, append-nil}
use Rattle.std.proofs.lemmas.Bool.{lt-ltb}
use Rattle.std.proofs.lemmas.List.{length-append}
use Rattle.std.proofs.lemmas.Option.{none-some}
use Rattle.column_laws.proofs.LivePrefixes.{met_matching}
use Rattle.column_laws.specs.Undecided.{undecided}
use Rattle.completeness_logs.specs.declared.entry.LogEntry.{LogEntry}
use Rattle.completeness_logs.specs.Logs.{KnownBlocks, LogTree, IsTreeUnder, IsRightEntry, AreTreesUnder, after_entry, listed_along, listed_at, listed_choices, nothing_known, tree_entries, listed_by}
use Rattle.completeness_logs.specs.LogTexts.{IsLog, closing_line, entry_line, is_short_entry, most_listed, opening_line}
use Rattle.completeness_logs.proofs.Listed.{AreUnder, listed_under, listed_count}
use Rattle.completeness_logs.proofs.Trees.{follows_tree, tree_follows, tree_listed}
use Rattle.dxf_groups.specs.TextLines.{text_lines}
use Rattle.lemmas.specs.Lists.{Each}
use Rattle.lemmas.proofs.Lists.{each-append, each-from}
use Rattle.proof_log.specs.Few.{HasFewMatching}
use Rattle.proof_log.specs.Lines.{fed, text_of_lines}
use Rattle.proof_log.specs.Writing.{Counts, WritesLog}
use Rattle.proof_log.proofs.LineTexts.{log_lines_read}
use Rattle.proof_log.proofs.SomeTrees.{some_tree}
use Rattle.solid_model.specs.declared.cell.Axis.{Axis}
use Rattle.solid_model.specs.Blocks.{ProblemParts, IsBlocksOf}
use Rattle.solid_model.specs.Choices.{IsMatchingChoice}
use Rattle.solid_model.specs.GridBox.{grid_sizes}
use Rattle.solid_model.specs.Panels.{IsGrid, coordinates_of}
use Rattle.tv_base.proofs.WrittenPieces.{no_prefix, prefix_longer}
use Rattle.tv_base.specs.Pieces.{AppendsPrefix}

-- the text of a log's first line, and of some entries
abbrev pub begun_text : ProblemParts → List LogEntry → List ℕ
begun_text p entries = fed (opening_line p.blocks.count) ++ text_of_lines (map entry_line entries)

-- The text is a log's beginning, which lists so many solids: with any entries that may follow under what is to come, it has those
-- of a log's tree.
pub record IsBegun (p : ProblemParts) (coming : List KnownBlocks) (text : List ℕ) (listed : ℕ) : Type 0 where
  pub entries : List LogEntry
  pub short : Each (λ e. IsTrue (is_short_entry e)) entries
  pub follow : (rest : List LogEntry) → AreTreesUnder p coming rest → AreTreesUnder p (nothing_known ∷ []) (entries ++ rest)
  pub found : (rest : List LogEntry) → length (listed_along p (nothing_known ∷ []) (entries ++ rest)) ≡ listed + length (listed_along p coming rest)
  pub is : text ≡ begun_text p entries

entry_more : (es : List LogEntry) (e : LogEntry) → text_of_lines (map entry_line (es ++ e ∷ [])) ≡ text_of_lines (map entry_line es) ++ fed (entry_line e)
entry_more [] e = append-nil (fed (entry_line e))
entry_more (d ∷ es) e = ap (λ t. fed (entry_line d) ++ t) (entry_more es e) ∙ sym (append_assoc (fed (entry_line d)) (text_of_lines (map entry_line es)) (fed (entry_line e)))

module _ (p : ProblemParts) where
  -- by the first line
  pub begun_first : IsBegun p (nothing_known ∷ []) (fed (opening_line p.blocks.count)) 0
  begun_first = record {
    entries = [];
    short = tt;
    follow = λ rest f. f;
    found = λ rest. omega arith;
    is = sym (append-nil (fed (opening_line p.blocks.count)));
  }

  -- by an entry more
  pub begun_next : (known : KnownBlocks) (others : List KnownBlocks) (text : List ℕ) (listed : ℕ) (e : LogEntry) → IsTrue (is_short_entry e) → IsRightEntry p known e
      → IsBegun p (known ∷ others) text listed → IsBegun p (after_entry e known others) (text ++ fed (entry_line e)) (listed + listed_by e)
  begun_next known others text listed e brief right b = record {
    entries = b.entries ++ e ∷ [];
    short = each-append (λ d. IsTrue (is_short_entry d)) b.entries (e ∷ []) b.short (brief, tt);
    follow = λ rest f. subst (AreTreesUnder p (nothing_known ∷ [])) (sym (append_assoc b.entries (e ∷ []) rest)) (b.follow (e ∷ rest) (right, f));
    found = λ rest.
        let all = ap (λ es. length (listed_along p (nothing_known ∷ []) es)) (append_assoc b.entries (e ∷ []) rest) ∙ b.found (e ∷ rest) in
        let both = length-append (listed_at p known e) (listed_along p (after_entry e known others) rest) in
        let one = listed_count p known e in
        omega (arith, all, both, one);
    is = ap (λ t. t ++ fed (entry_line e)) b.is ∙ append_assoc (fed (opening_line p.blocks.count)) (text_of_lines (map entry_line b.entries)) (fed (entry_line e))
        ∙ ap (λ t. fed (opening_line p.blocks.count) ++ t) (sym (entry_more b.entries e));
  }

  -- by all that follow
  pub begun_more : (rest : List LogEntry) (coming : List KnownBlocks) (text : List ℕ) (listed : ℕ) → Each (λ e. IsTrue (is_short_entry e)) rest → AreTreesUnder p coming rest
      → IsBegun p coming text listed → (more : List ℕ) × (all : ℕ) × IsBegun p [] (text ++ more) all
  begun_more [] [] text listed short f b = ([], listed, subst (λ t. IsBegun p [] t listed) (sym (append-nil text)) b)
  begun_more [] (known ∷ others) text listed short f b = absurd f
  begun_more (e ∷ rest) [] text listed short f b = absurd f
  begun_more (e ∷ rest) (known ∷ others) text listed (brief, short) (right, f) b =
      let (more, all, done) = begun_more rest (after_entry e known others) (text ++ fed (entry_line e)) (listed + listed_by e) short f (begun_next known others text listed e brief right b) in
      (fed (entry_line e) ++ more, all, subst (λ t. IsBegun p [] t all) (append_assoc text (fed (entry_line e)) more) done)

  -- ---- the whole log

  module _ (grid : IsGrid p.grid) (blocks : IsBlocksOf p.grid p.blocks) (count : p.blocks.count ≤ 65535) (few : HasFewMatching p) where
    -- a tree lists matching choices alone, so not too many
    tree_few : (t : LogTree) → IsTreeUnder p nothing_known t → length (listed_choices p nothing_known t) ≤ most_listed
    tree_few t under =
        let choices = listed_choices p nothing_known t in
        let all : AreUnder p nothing_known choices = listed_under p t nothing_known (λ block value e. absurd (none-some value e)) under in
        let (drawing, is, of) = grid in
        few drawing is of choices
        (each-from (λ choice. (length choice ≡ p.blocks.count) × IsMatchingChoice drawing (coordinates_of p.grid) p.blocks.numbers choice) choices
        (λ choice m. (all.long choice m, met_matching drawing is p of blocks choice (all.long choice m) (all.met choice m))))
        all.once

    -- what is begun, and has nothing to come, is a log with its last line
    pub begun_log : (text : List ℕ) (listed : ℕ) → IsBegun p [] text listed
        → (listed ≤ most_listed) × (choices : List (List Bool)) × IsLog p (text ++ fed (closing_line listed)) choices
    begun_log text listed b =
        let (tree, under, same) = follows_tree p nothing_known b.entries (subst (AreTreesUnder p (nothing_known ∷ [])) (append-nil b.entries) (b.follow [] tt)) in
        let all : listed_along p (nothing_known ∷ []) b.entries ≡ listed_choices p nothing_known tree =
        ap (listed_along p (nothing_known ∷ [])) (same ∙ sym (append-nil (tree_entries tree))) ∙ tree_listed p tree nothing_known [] [] ∙ append-nil (listed_choices p nothing_known tree) in
        let many = ap (λ es. length (listed_along p (nothing_known ∷ []) es)) (sym (append-nil b.entries)) ∙ b.found [] in
        let counted : listed ≡ length (listed_choices p nothing_known tree) = let e = ap length all in omega (arith, e, many) in
        let short : Each (λ e. IsTrue (is_short_entry e)) (tree_entries tree) = subst (Each (λ e. IsTrue (is_short_entry e))) same b.short in
        let within : listed ≤ most_listed = let l = tree_few tree under in omega (arith, l, counted) in (
          within,
          listed_choices p nothing_known tree,
          record {
            tree = tree;
            under = under;
            short = short;
            few = tree_few tree under;
            lines = ap (λ t. text_lines (t ++ fed (closing_line listed))) b.is
                ∙ log_lines_read p.blocks.count listed b.entries (lt-ltb p.blocks.count 10000000000 (omega (arith, count))) (lt-ltb listed 10000000000 (omega (arith, within))) b.short
                ∙ ap₂ (λ es n. opening_line p.blocks.count ∷ map entry_line es ++ closing_line n ∷ []) same counted;
            lists = refl;
          },
        )

    -- the least sizes of a grid
    sizes : (a : Axis) → grid_sizes p.grid a ≤ 63
    sizes a = let l = grid.2.few a in omega (arith, l)

    -- some entries can follow
    some_follow : (coming : List KnownBlocks) → (rest : List LogEntry) × Each (λ e. IsTrue (is_short_entry e)) rest × AreTreesUnder p coming rest
    some_follow [] = ([], tt, tt)
    some_follow (known ∷ others) =
        let (t, is, short) = some_tree p blocks.sized sizes count (undecided known p.blocks.count) known (omega arith) in
        let (rest, brief, f) = some_follow others in
        (_, each-append (λ e. IsTrue (is_short_entry e)) (tree_entries t) rest short brief, tree_follows p t known others rest is f)

    -- so what is begun begins a log
    pub begins_log : (coming : List KnownBlocks) (text : List ℕ) (listed : ℕ) → IsBegun p coming text listed
        → (more : List ℕ) × (choices : List (List Bool)) × IsLog p (text ++ more) choices
    begins_log coming text listed b =
        let (rest, short, f) = some_follow coming in
        let (more, all, done) = begun_more rest coming text listed short f b in
        let (within, choices, log) = begun_log (text ++ more) all done in
        (more ++ fed (closing_line all), choices, subst (λ t. IsLog p t choices) (append_assoc text more (fed (closing_line all))) log)

    -- and there is one
    pub some_log : (text : List ℕ) × (choices : List (List Bool)) × IsLog p text choices
    some_log =
        let (more, choices, log) = begins_log (nothing_known ∷ []) (fed (opening_line p.blocks.count)) 0 begun_first in
        (fed (opening_line p.blocks.count) ++ more, choices, log)

    -- so a prefix of what is begun is one of a log
    pub begun_prefix : (coming : List KnownBlocks) (text : List ℕ) (listed : ℕ) → IsBegun p coming text listed → (held now : Option (List ℕ))
        → AppendsPrefix held now text → WritesLog p held now
    begun_prefix coming text listed b held now prefix =
        let (more, choices, log) = begins_log coming text listed b in (text ++ more, choices, log, prefix_longer held now text more prefix)

    -- and what is begun and has nothing to come is one with its last line, whose number counts what is listed
    pub counted_log : (text : List ℕ) (listed count : ℕ) → IsBegun p [] text listed → Counts count listed
        → (choices : List (List Bool)) × IsLog p (text ++ fed (closing_line count)) choices
    counted_log text listed count b counts =
        let (within, choices, log) = begun_log text listed b in
        (choices, subst (λ n. IsLog p (text ++ fed (closing_line n)) choices) (sym (counts within)) log)

    -- where nothing is written, nothing is a prefix of one
    pub nothing_of_log : (held : Option (List ℕ)) → WritesLog p held held
    nothing_of_log held = let (text, choices, log) = some_log in (text, choices, log, no_prefix held text)
