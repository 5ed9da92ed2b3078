-- The columns beside the line are those that are kept.
use Rattle.std.proofs.Common.{◌≡◌, ◌<◌, List, length, ap, sym, subst, ◌∙◌, arith}
use Rattle.std.proofs.lemmas.List.{length-map}
use Rattle.solid_model.specs.Decisions.{PartialParts, decided_by}
use Rattle.solid_model.specs.Demands.{lines_of}
use Rattle.line_demands.specs.declared.known.KnownColumn.{KnownColumn}
use Rattle.line_demands.specs.declared.lines.Beside.{Beside}
use Rattle.line_demands.specs.declared.seen.SeenLine.{SeenLine}
use Rattle.line_demands.specs.Seen.{IsSeen}
use Rattle.line_demands.specs.Spans.{column_there}
use Rattle.line_demands.proofs.KeptState.{seen_told}
use Rattle.line_demands.proofs.partial.Partial.seen.Goals as goal

pub returns-clause-seen : goal.returns-clause-seen
returns-clause-seen c =
    let self = c.self.inside in
    let b = c.index.result.now in
    let asked : c.args.number < length (lines_of self.problem.now.grid) = subst (λ (v : PartialParts). c.args.number < length (lines_of v.problem.grid)) (sym c.self.view_is) c.requires in
    let count : length self.sides.items ≡ length (lines_of self.problem.now.grid) = sym (length-map self.sides.items (λ (x : Beside). x.line)) ∙ ap length c.self.invariant.0.plan.lines.listed in
    let l : c.args.number < length self.sides.items = omega (arith, asked, count) in
    let seen : c.seen_line.result ≡ record { line = b.line; style = b.style; after = column_there self.columns.items b.after; before = column_there self.columns.items b.before } =
    subst (λ (cs : List KnownColumn). ◌≡◌ {A = SeenLine} c.seen_line.result (record { line = b.line; style = b.style; after = column_there cs b.after; before = column_there cs b.before })) c.as_slice.ensures.value c.seen_line.ensures in
    subst (λ (v : PartialParts). IsSeen v.problem (decided_by v.decisions) c.seen_line.result) c.self.view_is
    (seen_told self.problem.now c.self.invariant.4 self.spans.items self.touched.items self.sides.items self.decisions.items self.columns.items self.met.items self.heights.items self.broken.items _ _ _ c.self.invariant.0
    c.args.number b b l c.index.ensures c.seen_line.result seen)
