-- The first line that excludes something decides.
use Rattle.std.proofs.Common.{◌≡◌, ◌<◌, ◌∷◌, ◌++◌, [], inl, inr, not, take, drop, length, suc, get_or, slice_get, Some, IsTrue, refl, sym, subst, ap, ◌∙◌, arith}
use Rattle.std.proofs.lemmas.List.{take_all}
use Rattle.std.proofs.lemmas.Option.{slice_get-get_or}
use Rattle.column_laws.proofs.AllLines.{lines_are_listed}
use Rattle.line_demands.specs.Excluding.{ExcludesOpen}
use Rattle.propagate.specs.Forced.{IsCalm}
use Rattle.propagate.specs.Looking.{IsLeastIn, TellsLeast}
use Rattle.propagate.proofs.Handled.{excluded_there}
use Rattle.propagate.proofs.Steps.{no_line, member_take, place_parts}
use Rattle.propagate.proofs.stepping.step.Goals as goal
use Rattle.solid_model.specs.Blocks.{ProblemParts, IsBlocksOf}
use Rattle.solid_model.specs.Decisions.{decided_by, PartialParts}
use Rattle.solid_model.specs.Demands.{has_line, lines_of, CanBeMet}
use Rattle.lemmas.specs.Lists.{Member}

pub loop-number-init : goal.loop-number-init
loop-number-init c = record {
  same = refl;
  met = c.broken_line.ensures.none.0 c.in_default.is;
  end = c.line_count-number-end.ensures;
  calm = λ m h. absurd h;
}

pub seen-seen-requires : goal.seen-seen-requires
seen-seen-requires c = subst (λ (v : PartialParts). c.loop-number.number < length (lines_of v.problem.grid)) (sym c.loop-number.invariant.same)
    (omega (arith, c.loop-number.invariant.end, c.loop-number-test.true))

pub forced_by_line-requires-clause-met : goal.forced_by_line-requires-clause-met
forced_by_line-requires-clause-met c =
    let same = c.loop-number.invariant.same in
    let line = c.seen-seen.result.line in
    subst (λ (v : PartialParts). CanBeMet v.problem (decided_by v.decisions) line) (sym same)
    (c.loop-number.invariant.met line (subst (λ (v : PartialParts). IsTrue (has_line v.problem.grid line)) same c.seen-seen.ensures.seen.has))

pub decide-requires-clause-there : goal.decide-requires-clause-there
decide-requires-clause-there c =
    let same = c.loop-number.invariant.same in
    let q = c.loop-number.partial.problem in
    let d = c.in-Some-forced_by_line.decision in
    let blocks = subst (λ (v : PartialParts). IsBlocksOf v.problem.grid v.problem.blocks) (sym same) c.known.ensures.blocks in
    (excluded_there q blocks (decided_by c.loop-number.partial.decisions) c.seen-seen.result.line d.block (not d.full) c.in-Some-forced_by_line.ensures.is).0

pub decide-requires-clause-open : goal.decide-requires-clause-open
decide-requires-clause-open c = c.in-Some-forced_by_line.ensures.is.0

pub returns-in-Some-clause-step : goal.returns-in-Some-clause-step
returns-in-Some-clause-step c = (refl, c.in-Some.ensures.some)

pub returns-in-Some-forced_by_line-clause-step : goal.returns-in-Some-forced_by_line-clause-step
returns-in-Some-forced_by_line-clause-step c =
    let inv = c.loop-number.invariant in
    let p = c.args.partial.now.problem in
    let lines = lines_of p.grid in
    let line = c.seen-seen.result.line in
    let d = c.in-Some-forced_by_line.decision in
    let there : slice_get lines c.loop-number.number ≡ Some line =
    slice_get-get_or lines c.loop-number.number no_line (omega (arith, inv.end, c.loop-number-test.true))
    ∙ ap Some (sym (c.seen-seen.ensures.line no_line ∙ ap (λ (v : PartialParts). get_or (lines_of v.problem.grid) c.loop-number.number no_line) inv.same)) in (
      inv.met,
      ap (λ (v : PartialParts). v.decisions) c.decide.ensures.decided ∙ ap (λ (v : PartialParts). v.decisions ++ d ∷ []) inv.same,
      record {
        earlier = take c.loop-number.number lines;
        later = drop (suc c.loop-number.number) lines;
        place = place_parts lines c.loop-number.number line there;
        calm = inv.calm;
        least = subst (λ (v : PartialParts). IsLeastIn (ExcludesOpen v.problem (decided_by v.decisions) line) d) inv.same c.in-Some-forced_by_line.ensures;
      },
    )

pub loop-number-preserved : goal.loop-number-preserved
loop-number-preserved c =
    let inv = c.loop-number.invariant in
    let p = c.args.partial.now.problem in
    let known = decided_by c.args.partial.now.decisions in
    let lines = lines_of p.grid in
    let line = c.seen-seen.result.line in
    let there : slice_get lines c.loop-number.number ≡ Some line =
    slice_get-get_or lines c.loop-number.number no_line (omega (arith, inv.end, c.loop-number-test.true))
    ∙ ap Some (sym (c.seen-seen.ensures.line no_line ∙ ap (λ (v : PartialParts). get_or (lines_of v.problem.grid) c.loop-number.number no_line) inv.same)) in
    let told = subst (λ (v : PartialParts). TellsLeast (ExcludesOpen v.problem (decided_by v.decisions) line) c.forced_by_line.result) inv.same c.forced_by_line.ensures in
    let calm : IsCalm p known line = subst (TellsLeast (ExcludesOpen p known line)) c.in_default-forced_by_line.is told in record {
      same = inv.same;
      met = inv.met;
      end = inv.end;
      calm = λ m h. elim (member_take lines c.loop-number.number line m there h) as (λ _. IsCalm p known m) [
        | inl before ↦ inv.calm m before
        | inr here ↦ subst (IsCalm p known) here calm
      ];
    }

pub returns-clause-step : goal.returns-clause-step
returns-clause-step c =
    let inv = c.loop-number.invariant in
    let p = c.args.partial.now.problem in
    let lines = lines_of p.grid in (
      inv.met,
      ap (λ (v : PartialParts). v.decisions) inv.same,
      λ block value (none, l, has, out). inv.calm l (subst (λ ls. Member ls l) (sym (take_all c.loop-number.number lines (omega (arith, inv.end, c.loop-number-test.false)))) (lines_are_listed p.grid l has))
          block value (none, out),
    )
