-- One line more is looked at.
use Rattle.std.proofs.Common.{◌%◌, ap, ◌≡◌, ◌⊎◌, ◌<◌, ◌≤◌, ◌+◌, inl, inr, length, get_or, slice_get, Some, refl, sym, subst, ◌∙◌, arith}
use Rattle.line_demands.specs.Touching.{lines_touching, touching}
use Rattle.line_demands.proofs.LowestLeft.{none_set}
use Rattle.std.proofs.lemmas.Option.{slice_get-get_or}
use Rattle.propagate.proofs.Steps.{no_line}
use Rattle.propagate.specs.Closing.{IsHandled, Grows}
use Rattle.propagate.proofs.Chains.{grows_self, grows_both, grows_length}
use Rattle.propagate.proofs.Handled.{handled_past, left_after, none_left, free_handled}
use Rattle.propagate.proofs.closing.settle_touching.Goals as goal
use Rattle.solid_model.specs.Blocks.{ProblemParts, IsBlocksOf}
use Rattle.solid_model.specs.Decisions.{decided_by}
use Rattle.solid_model.specs.Demands.{lines_of, AllMet, IsFirstBroken}
use Rattle.lemmas.specs.Lists.{Member}
use Rattle.lemmas.proofs.ListPlaces.{member-place}

pub returns-then-doubts-eq0-clause-done : goal.returns-then-doubts-eq0-clause-done
returns-then-doubts-eq0-clause-done c = λ _ m has h.
    let p = c.args.partial.now.problem in
    let old = c.args.partial.now.decisions in
    let blocks = c.known.ensures.blocks in
    let (d, there, is) = c.decided_block-block.ensures.decision in
    elim (handled_past p old c.args.at d there m has h) as (λ _. IsHandled p old (c.args.at + 1) m) [
      | inl handled ↦ handled
      | inr touched ↦ (let (k, within, at) = member-place (lines_touching p d.block) m touched in
          free_handled p blocks m old c.known.ensures.decided c.requires.met c.args.at d.block c.doubts-doubts.result k c.requires.at (d, there, refl) c.doubts-doubts.ensures
          (slice_get-get_or (lines_touching p d.block) k m within ∙ ap Some (at m)) (none_set c.doubts-doubts.result c.if-doubts-eq0.true (k % 64)))
    ]

pub loop-place-init : goal.loop-place-init
loop-place-init c =
    let p = c.args.partial.now.problem in
    let old = c.args.partial.now.decisions in
    let blocks = c.known.ensures.blocks in
    let (d, there, is) = c.decided_block-block.ensures.decision in record {
      problem = refl;
      grows = grows_self p old;
      met = c.requires.met;
      end = c.touching-place-end.ensures;
      free = λ k m at off. free_handled p blocks m old c.known.ensures.decided c.requires.met c.args.at c.decided_block-block.result c.doubts-doubts.result k c.requires.at
          c.decided_block-block.ensures.decision c.doubts-doubts.ensures at off;
      left = λ m has h. subst (λ b. IsHandled p old (c.args.at + 1) m ⊎ Member (lines_touching p b) m) is (handled_past p old c.args.at d there m has h);
    }

pub touched-number-requires-clause-block : goal.touched-number-requires-clause-block
touched-number-requires-clause-block c = subst (λ (q : ProblemParts). c.decided_block-block.result < q.blocks.count) (sym c.loop-place.invariant.problem) c.decided_block-block.ensures.there

pub touched-number-requires-clause-at : goal.touched-number-requires-clause-at
touched-number-requires-clause-at c = subst (λ (q : ProblemParts). c.loop-place.place < touching q c.decided_block-block.result) (sym c.loop-place.invariant.problem)
    (omega (arith, c.loop-place.invariant.end, c.loop-place-test.true))

pub settle_line-requires-clause-met : goal.settle_line-requires-clause-met
settle_line-requires-clause-met c = subst (λ (q : ProblemParts). AllMet q (decided_by c.loop-place.partial.decisions)) (sym c.loop-place.invariant.problem) c.loop-place.invariant.met

pub returns-in-Some-clause-grows : goal.returns-in-Some-clause-grows
returns-in-Some-clause-grows c =
    let now = c.loop-place.partial.decisions in
    let new = c.settle_line.new.partial.decisions in
    grows_both c.args.partial.now.problem c.args.partial.now.decisions now new c.loop-place.invariant.grows
    (subst (λ (q : ProblemParts). Grows q now new) c.loop-place.invariant.problem c.settle_line.ensures.grows)

pub returns-in-Some-clause-lost : goal.returns-in-Some-clause-lost
returns-in-Some-clause-lost c =
    let new = c.settle_line.new.partial.decisions in
    subst (λ (q : ProblemParts). IsFirstBroken q (decided_by new) c.in-Some.line) c.loop-place.invariant.problem c.in-Some.ensures.lost

pub loop-place-preserved-then-not-has_place : goal.loop-place-preserved-then-not-has_place
loop-place-preserved-then-not-has_place c =
    let p = c.args.partial.now.problem in
    let now = c.loop-place.partial.decisions in
    let inv = c.loop-place.invariant in
    let lines = lines_touching p c.decided_block-block.result in
    let place = c.loop-place.place in
    let line = get_or lines place no_line in
    let there = slice_get-get_or lines place no_line (omega (arith, inv.end, c.loop-place-test.true)) in record {
      problem = inv.problem;
      grows = inv.grows;
      met = inv.met;
      end = inv.end;
      free = inv.free;
      left = left_after p (λ m. IsHandled p c.args.partial.now.decisions c.args.at m) now now (c.args.at + 1) place lines line there inv.left (λ m h. h)
          (inv.free place line there (sym c.has_place.ensures ∙ c.if-not-has_place.true));
    }

pub loop-place-preserved : goal.loop-place-preserved
loop-place-preserved c =
    let p = c.args.partial.now.problem in
    let old = c.args.partial.now.decisions in
    let now = c.loop-place.partial.decisions in
    let new = c.settle_line.new.partial.decisions in
    let inv = c.loop-place.invariant in
    let block = c.decided_block-block.result in
    let few : c.args.at + 1 ≤ length now = (let l = grows_length p old now inv.grows in let m = c.requires.at in omega (arith, l, m)) in
    let lines = lines_of c.loop-place.partial.problem.grid in
    let line = get_or lines c.touched-number.result no_line in record {
      problem = c.settle_line.ensures.problem ∙ inv.problem;
      grows = grows_both p old now new inv.grows (subst (λ (q : ProblemParts). Grows q now new) inv.problem c.settle_line.ensures.grows);
      met = subst (λ (q : ProblemParts). AllMet q (decided_by new)) inv.problem (c.settle_line.ensures.met c.in_default.is);
      end = inv.end;
      free = λ k m at off. subst (λ (q : ProblemParts). IsHandled q new (c.args.at + 1) m) inv.problem
          (c.settle_line.ensures.kept (c.args.at + 1) few m (subst (λ (q : ProblemParts). IsHandled q now (c.args.at + 1) m) (sym inv.problem) (inv.free k m at off)));
      left = left_after p (λ m. IsHandled p old c.args.at m) now new (c.args.at + 1) c.loop-place.place (lines_touching p block) line
          (subst (λ (q : ProblemParts). slice_get (lines_touching q block) c.loop-place.place ≡ Some line) inv.problem (c.touched-number.ensures.line no_line)) inv.left
          (λ m h. subst (λ (q : ProblemParts). IsHandled q new (c.args.at + 1) m) inv.problem
          (c.settle_line.ensures.kept (c.args.at + 1) few m (subst (λ (q : ProblemParts). IsHandled q now (c.args.at + 1) m) (sym inv.problem) h)))
          (subst (λ (q : ProblemParts). IsHandled q new (c.args.at + 1) line) inv.problem (c.settle_line.ensures.done (c.args.at + 1) no_line few));
    }

pub returns-clause-done : goal.returns-clause-done
returns-clause-done c = λ _ m has h.
    let p = c.args.partial.now.problem in
    let block = c.decided_block-block.result in
    elim (c.loop-place.invariant.left m has h) as (λ _. IsHandled p c.loop-place.partial.decisions (c.args.at + 1) m) [
      | inl handled ↦ handled
      | inr rest ↦ absurd (none_left (lines_touching p block) c.loop-place.place m (omega (arith, c.loop-place.invariant.end, c.loop-place-test.false)) rest)
    ]
