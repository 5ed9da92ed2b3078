-- The columns beside the line are those that are kept.
use Rattle.std.proofs.Common.{◌≡◌, List, IsTrue, subst, sym, ap, ◌∙◌}
use Rattle.solid_model.specs.Decisions.{PartialParts, decided_by}
use Rattle.solid_model.specs.Demands.{has_line}
use Rattle.solid_model.specs.declared.line_id.LineId.{LineId}
use Rattle.line_demands.specs.declared.known.KnownColumn.{KnownColumn}
use Rattle.line_demands.specs.declared.seen.SeenLine.{SeenLine}
use Rattle.line_demands.specs.Seen.{IsSeen}
use Rattle.line_demands.specs.Spans.{column_there}
use Rattle.line_demands.proofs.KeptState.{is_beside, seen_at_told}
use Rattle.line_demands.proofs.partial.Partial.seen_at.Goals as goal

pub returns-clause-line : goal.returns-clause-line
returns-clause-line c = ap (λ (s : SeenLine). s.line) c.seen_line.ensures ∙ c.beside_of-beside.ensures.line

pub returns-clause-seen : goal.returns-clause-seen
returns-clause-seen c =
    let self = c.self.inside in
    let b = c.beside_of-beside.result in
    let told = c.beside_of-beside.ensures in
    let asked : IsTrue (has_line self.problem.now.grid c.args.line) = subst (λ (v : PartialParts). IsTrue (has_line v.problem.grid c.args.line)) (sym c.self.view_is) c.requires in
    let seen : c.seen_line.result ≡ record { line = b.line; style = b.style; after = column_there self.columns.items b.after; before = column_there self.columns.items b.before } =
    subst (λ (cs : List KnownColumn). ◌≡◌ {A = SeenLine} c.seen_line.result (record { line = b.line; style = b.style; after = column_there cs b.after; before = column_there cs b.before })) c.as_slice.ensures.value c.seen_line.ensures in
    subst (λ (v : PartialParts). IsSeen v.problem (decided_by v.decisions) c.seen_line.result) c.self.view_is
    (seen_at_told self.problem.now c.grid.ensures.kept self.spans.items self.touched.items self.sides.items self.decisions.items self.columns.items self.met.items self.heights.items self.broken.items _ _ _ c.self.invariant.0
    b (is_beside self.problem.now c.grid.result.now b c.args.line c.grid.ensures.grid told.line told.cell told.style told.after told.before told.inside_after told.inside_before)
    (subst (λ (l : LineId). IsTrue (has_line self.problem.now.grid l)) (sym told.line) asked) c.seen_line.result seen)
