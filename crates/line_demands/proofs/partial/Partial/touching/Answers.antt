-- There are few lines.
use Rattle.std.proofs.Common.{◌≡◌, ◌<◌, ◌≤◌, ℕ, List, length, get_or, ap, sym, subst, ◌∙◌, arith}
use Rattle.solid_model.specs.Decisions.{PartialParts}
use Rattle.line_demands.specs.Touching.{touching}
use Rattle.line_demands.proofs.KeptState.{few_touched, touched_count}
use Rattle.line_demands.proofs.partial.Partial.touching.Goals as goal

pub overflow_cast-result : goal.overflow_cast-result
overflow_cast-result c =
    let self = c.self.inside in
    let p = self.problem.now in
    let there : c.args.block < p.blocks.count = subst (λ (v : PartialParts). c.args.block < v.problem.blocks.count) (sym c.self.view_is) c.requires in
    let of_lines : c.as_slice.result.now ≡ get_or self.touched.items c.args.block c.index.result.now = c.as_slice.ensures ∙ c.index.ensures ∙ ap (λ b. get_or self.touched.items b c.index.result.now) c.from.ensures in
    let few = few_touched p c.self.invariant.4 self.spans.items self.touched.items self.sides.items self.decisions.items self.columns.items self.met.items self.heights.items self.broken.items _ _ _ c.self.invariant.0 c.args.block c.index.result.now there in
    let l : length c.as_slice.result.now ≤ 24192 = subst (λ (xs : List ℕ). length xs ≤ 24192) (sym of_lines) few in
    omega arith

pub returns : goal.returns
returns c =
    let self = c.self.inside in
    let p = self.problem.now in
    let there : c.args.block < p.blocks.count = subst (λ (v : PartialParts). c.args.block < v.problem.blocks.count) (sym c.self.view_is) c.requires in
    let of_lines : c.as_slice.result.now ≡ get_or self.touched.items c.args.block c.index.result.now = c.as_slice.ensures ∙ c.index.ensures ∙ ap (λ b. get_or self.touched.items b c.index.result.now) c.from.ensures in
    ap length of_lines
    ∙ touched_count p c.self.invariant.4 self.spans.items self.touched.items self.sides.items self.decisions.items self.columns.items self.met.items self.heights.items self.broken.items _ _ _ c.self.invariant.0 c.args.block c.index.result.now there
    ∙ ap (λ (v : PartialParts). touching v.problem c.args.block) c.self.view_is
