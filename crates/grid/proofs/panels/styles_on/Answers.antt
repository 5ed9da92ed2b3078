use Rattle.std.proofs.Common.{◌++◌, [], map, take, get_or, w64, ℤ, pos, sym, ap, ap₂, ◌∙◌, rules}
use Rattle.std.specs.List.{flat_map}
use Rattle.std.proofs.lemmas.Int.{to_z-of_z}
use Rattle.std.proofs.lemmas.List.{flat_map_more, take_more}
use Rattle.solid_model.specs.Runs.{run_style}
use Rattle.grid.proofs.panels.styles_on.Goals as goal

pub loop-line-preserved : goal.loop-line-preserved
loop-line-preserved c =
    let runs = c.args.runs.now in
    let lines = c.args.lines.now in
    let starts = c.args.starts.now in
    let i = c.loop-line.line-index in
    let line = get_or lines i (pos 0) in
    let styles = λ (l : ℤ). map (run_style runs l) starts in
    let same = ap₂ (λ rs l. map (run_style rs l) starts) c.as_slice.ensures.same (to_z-of_z w64 line (search rules)) in
    c.in_ok-styles.ensures ∙ ap₂ ◌++◌ c.loop-line.invariant same ∙ flat_map_more styles [] (take i lines) line
    ∙ ap (flat_map styles) (sym (take_more lines i (pos 0) c.loop-line-test.true))
