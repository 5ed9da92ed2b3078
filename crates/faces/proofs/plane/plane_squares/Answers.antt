-- One row more; and all of them.
use Rattle.std.proofs.Common.{◌≡◌, ◌≤◌, ◌&&◌, not, length, ◌∙◌, ap, sym, subst, pos, arith}
use Rattle.solid_model.specs.declared.cell.Axis.{Axis}
use Rattle.solid_model.specs.Faces.{is_boundary}
use Rattle.solid_model.specs.Marks.{is_marked}
use Rattle.solid_model.specs.PerAxis.{numbers_of}
use Rattle.solid_model.specs.Rounds.{Spot}
use Rattle.lemmas.proofs.Pushed.{holds_more}
use Rattle.faces.specs.PlaneSquares.{SquareTable, is_there}
use Rattle.faces.proofs.PlaneBoundary.{IsBoundaryRow, boundary_rows, boundary_table}
use Rattle.faces.proofs.plane.plane_squares.Goals as goal

pub loop-v-init : goal.loop-v-init
loop-v-init c = record { count = ap length c.in_ok-rows.ensures.items; each = λ p d l. absurd (omega arith) }

pub loop-v-preserved : goal.loop-v-preserved
loop-v-preserved c =
    holds_more (IsBoundaryRow c.args.cells.now c.args.out (pos c.args.at)) c.loop-v.rows.items _ _ c.boundary_row.result
    c.loop-v.invariant
    (λ u l. c.boundary_row.ensures u l ∙ (λ i. c.inner_rows-inner.ensures u c.loop-v.v l i && not (c.outer_rows-outer.ensures u c.loop-v.v l i)))
    c.in_ok-push.ensures.items

pub new-requires : goal.new-requires
new-requires c =
    let m = c.args.cells.now in
    let few : (a : Axis) → numbers_of m.sizes a ≤ 63 = subst (λ s. (a : Axis) → numbers_of s a ≤ 63) c.sizes.ensures.sizes c.sizes.ensures.few in
    let height = c.along-height.ensures ∙ (λ i. numbers_of (c.sizes.ensures.sizes i) (c.up.ensures i)) in
    let all : c.loop-v.v ≡ c.along-height.result = omega (arith, c.loop-v-test.false, c.loop-v.auto.v-end) in
    boundary_rows m c.args.out (pos c.args.at) few (record { rows = c.loop-v.rows.items }) c.loop-v.v c.loop-v.invariant (all ∙ height)

pub returns : goal.returns
returns c =
    let m = c.args.cells.now in
    let few : (a : Axis) → numbers_of m.sizes a ≤ 63 = subst (λ s. (a : Axis) → numbers_of s a ≤ 63) c.sizes.ensures.sizes c.sizes.ensures.few in
    let height = c.along-height.ensures ∙ (λ i. numbers_of (c.sizes.ensures.sizes i) (c.up.ensures i)) in
    let all : c.loop-v.v ≡ c.along-height.result = omega (arith, c.loop-v-test.false, c.loop-v.auto.v-end) in
    let t : SquareTable = record { rows = c.loop-v.rows.items } in
    subst (λ (s : SquareTable). (q : Spot) → is_there s q ≡ is_boundary (is_marked m) c.args.out (pos c.args.at) q) (sym c.new.ensures)
    (boundary_table m c.args.out (pos c.args.at) few t c.loop-v.v c.loop-v.invariant (all ∙ height))
