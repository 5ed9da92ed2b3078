-- The last decision is one more.
use Rattle.std.proofs.Common.{◌≡◌, ◌∷◌, ◌++◌, [], ◌+◌, ◌-◌, length, take, slice_get, Some, ap, sym, subst, ◌∙◌, arith}
use Rattle.std.proofs.lemmas.List.{length_push, take_all}
use Rattle.line_demands.specs.Free.{LeavesFree}
use Rattle.propagate.specs.Doubting.{AreDoubted}
use Rattle.propagate.proofs.Doubting.{doubted_on}
use Rattle.propagate.proofs.Handled.{at_push}
use Rattle.propagate.proofs.stepping.doubt_last.Goals as goal
use Rattle.solid_model.specs.Blocks.{ProblemParts, IsBlocksOf}
use Rattle.solid_model.specs.Decisions.{decided_by}
use Rattle.solid_model.specs.Demands.{CanBeMet}

pub returns : goal.returns
returns c =
    let p = c.args.partial.now.problem in
    let ds = c.args.partial.now.decisions in
    let last = c.requires.last in
    let before = c.requires.before in
    let are : ds ≡ before ++ last ∷ [] = c.requires.are in
    let at = c.decided-count.result - 1 in
    let longer = length_push before last in
    let count = ap length are in
    let here : at ≡ length before = omega (arith, c.decided-count.ensures.count, count, longer) in
    let whole : take (at + 1) ds ≡ ds = take_all (at + 1) ds (omega (arith, here, count, longer)) in
    let there : slice_get ds at ≡ Some last = ap (λ xs. slice_get xs at) are ∙ ap (slice_get (before ++ last ∷ [])) here ∙ at_push before last in
    let blocks = c.known.ensures.blocks in
    let told = c.doubt_touching.ensures in
    let new = c.doubt_touching.new.doubted in
    subst (λ xs. AreDoubted p xs new) (sym are)
    (doubted_on p blocks before last (c.decided-count.ensures.each before [] last are).1 c.args.doubted.now new c.requires.doubted_lines told.count told.kept
    (λ k l number touch off. subst (λ xs. CanBeMet p (decided_by xs) l → LeavesFree p (decided_by xs) l) (whole ∙ are) (told.free last there k l number touch off)))
