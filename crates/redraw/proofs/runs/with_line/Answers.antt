-- One stretch more: a run where it is drawn.
use Rattle.std.proofs.Common.{◌≡◌, ◌≢◌, w64, to_z, of_z, SFits, [], ◌∷◌, ◌++◌, ◌∙◌, arith, rules}
use Rattle.std.proofs.lemmas.Int.{to_z-of_z}
use Rattle.solid_model.specs.declared.segment.Style.TheVariants.{Blank}
use Rattle.solid_model.proofs.Gaps.{member}
use Rattle.redraw.specs.GridRuns.{cell_style}
use Rattle.redraw.proofs.LineRuns.{stretch, before_line, whole_line, blank_stretch, drawn_stretch}
use Rattle.redraw.proofs.runs.with_line.Goals as goal

pub loop-cell-init : goal.loop-cell-init
loop-cell-init c =
    let at : to_z w64 (of_z w64 c.args.at) ≡ c.args.at = to_z-of_z w64 c.args.at c.ranges.at in
    rw at (before_line c.args.at c.args.ends.now c.args.styles.now c.requires.ends c.requires.count c.args.runs.items c.requires.runs c.requires.earlier)

pub loop-cell-preserved-in_ok-push : goal.loop-cell-preserved-in_ok-push
loop-cell-preserved-in_ok-push c =
    let at : to_z w64 (of_z w64 c.args.at) ≡ c.args.at = to_z-of_z w64 c.args.at c.ranges.at in
    let from_fits : SFits w64 (member c.args.ends.now c.loop-cell.cell) = search rules in
    let to_fits : SFits w64 (member c.args.ends.now c.stretch_end-end.result) = search rules in
    let drawn : cell_style c.args.styles.now c.loop-cell.cell ≢ Blank = search rules in
    let pushed : c.push.new.self.items ≡ c.loop-cell.runs.items ++ stretch c.args.at c.args.ends.now c.args.styles.now c.loop-cell.cell c.stretch_end-end.result ∷ [] =
    c.in_ok-push.ensures.items ∙ (λ i. c.loop-cell.runs.items ++ record {
      at = at i;
      from = to_z-of_z w64 (member c.args.ends.now c.loop-cell.cell) from_fits i;
      to = to_z-of_z w64 (member c.args.ends.now c.stretch_end-end.result) to_fits i;
      style = cell_style c.args.styles.now c.loop-cell.cell;
    } ∷ []) in
    rw (at, pushed) (drawn_stretch c.args.at c.args.ends.now c.args.styles.now c.requires.ends c.requires.count c.args.runs.items
    c.loop-cell.cell c.stretch_end-end.result c.loop-cell.runs.items (rw at at c.loop-cell.invariant) c.stretch_end-end.ensures drawn)

pub loop-cell-preserved : goal.loop-cell-preserved
loop-cell-preserved c =
    let at : to_z w64 (of_z w64 c.args.at) ≡ c.args.at = to_z-of_z w64 c.args.at c.ranges.at in
    let blank : cell_style c.args.styles.now c.loop-cell.cell ≡ Blank = search rules in
    rw at (blank_stretch c.args.at c.args.ends.now c.args.styles.now c.requires.ends c.requires.count c.args.runs.items
    c.loop-cell.cell c.stretch_end-end.result c.loop-cell.runs.items (rw at at c.loop-cell.invariant) c.stretch_end-end.ensures blank)

pub returns : goal.returns
returns c =
    let at : to_z w64 (of_z w64 c.args.at) ≡ c.args.at = to_z-of_z w64 c.args.at c.ranges.at in
    whole_line c.args.at c.args.ends.now c.args.styles.now c.requires.ends c.requires.count c.args.runs.items c.loop-cell.cell c.loop-cell.runs.items
    (omega arith) (rw at at c.loop-cell.invariant)
