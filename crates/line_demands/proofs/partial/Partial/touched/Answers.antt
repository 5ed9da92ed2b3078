-- The lines that are listed with a block are those that touch it.
use Rattle.std.proofs.Common.{◌≡◌, ◌<◌, List, ℕ, Some, length, get_or, slice_get, ap, sym, subst, ◌∙◌, arith}
use Rattle.solid_model.specs.Decisions.{PartialParts}
use Rattle.solid_model.specs.Demands.{lines_of}
use Rattle.line_demands.specs.Touching.{lines_touching, touching}
use Rattle.line_demands.proofs.KeptState.{touched_count, touched_line}
use Rattle.line_demands.proofs.partial.Partial.touched.Goals as goal

pub bounds-as_slice-at : goal.bounds-as_slice-at
bounds-as_slice-at c =
    let self = c.self.inside in
    let p = self.problem.now in
    let there : c.args.block < p.blocks.count = subst (λ (v : PartialParts). c.args.block < v.problem.blocks.count) (sym c.self.view_is) c.requires.block in
    let at : c.args.at < touching p c.args.block = subst (λ (v : PartialParts). c.args.at < touching v.problem c.args.block) (sym c.self.view_is) c.requires.at in
    let of_lines : c.as_slice.result.now ≡ get_or self.touched.items c.args.block c.index.result.now = c.as_slice.ensures ∙ c.index.ensures ∙ ap (λ b. get_or self.touched.items b c.index.result.now) c.from.ensures in
    let count = touched_count p c.self.invariant.4 self.spans.items self.touched.items self.sides.items self.decisions.items self.columns.items self.met.items self.heights.items self.broken.items _ _ _ c.self.invariant.0 c.args.block c.index.result.now there in
    subst (λ (xs : List ℕ). c.args.at < length xs) (sym of_lines) (omega (arith, count, at))

pub returns-clause-line : goal.returns-clause-line
returns-clause-line c = λ d.
    let self = c.self.inside in
    let p = self.problem.now in
    let there : c.args.block < p.blocks.count = subst (λ (v : PartialParts). c.args.block < v.problem.blocks.count) (sym c.self.view_is) c.requires.block in
    let at : c.args.at < touching p c.args.block = subst (λ (v : PartialParts). c.args.at < touching v.problem c.args.block) (sym c.self.view_is) c.requires.at in
    let of_lines : c.as_slice.result.now ≡ get_or self.touched.items c.args.block c.index.result.now = c.as_slice.ensures ∙ c.index.ensures ∙ ap (λ b. get_or self.touched.items b c.index.result.now) c.from.ensures in
    let line = touched_line p c.self.invariant.4 self.spans.items self.touched.items self.sides.items self.decisions.items self.columns.items self.met.items self.heights.items self.broken.items _ _ _ c.self.invariant.0 c.args.block c.args.at c.index.result.now 0 d there at in
    subst (λ (v : PartialParts). slice_get (lines_touching v.problem c.args.block) c.args.at ≡ Some (get_or (lines_of v.problem.grid) (get_or c.as_slice.result.now c.args.at 0) d)) c.self.view_is
    (subst (λ (xs : List ℕ). slice_get (lines_touching p c.args.block) c.args.at ≡ Some (get_or (lines_of p.grid) (get_or xs c.args.at 0) d)) (sym of_lines) line)
