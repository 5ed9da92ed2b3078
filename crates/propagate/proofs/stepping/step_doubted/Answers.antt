-- The first doubted line that excludes something decides: those before it aren't doubted, or were asked.
use Rattle.std.proofs.Common.{◌≡◌, ◌<◌, ◌∷◌, ◌++◌, [], inl, inr, false, not, take, drop, length, suc, get_or, set, slice_get, Some, IsTrue, refl, sym, subst, ap, ◌∙◌, arith}
use Rattle.std.proofs.lemmas.Bool.{cases_lt}
use Rattle.std.proofs.lemmas.List.{get_or-set_same, get_or-set_other}
use Rattle.std.proofs.lemmas.Option.{slice_get-get_or}
use Rattle.column_laws.proofs.AllLines.{lines_are_listed}
use Rattle.line_demands.specs.Excluding.{ExcludesOpen}
use Rattle.propagate.specs.Doubting.{AreDoubted, AreDoubtedBefore}
use Rattle.propagate.specs.Forced.{IsCalm}
use Rattle.propagate.specs.Looking.{IsLeastIn, TellsLeast}
use Rattle.propagate.proofs.Doubting.{asked_doubted, calm_before}
use Rattle.propagate.proofs.Handled.{excluded_there}
use Rattle.propagate.proofs.Steps.{no_line, place_parts}
use Rattle.propagate.proofs.stepping.step_doubted.Goals as goal
use Rattle.solid_model.specs.Blocks.{ProblemParts, IsBlocksOf}
use Rattle.solid_model.specs.Decisions.{decided_by, PartialParts}
use Rattle.solid_model.specs.Demands.{has_line, lines_of, CanBeMet}
use Rattle.lemmas.proofs.ListPlaces.{member-place}

pub loop-number-init : goal.loop-number-init
loop-number-init c = record {
  same = refl;
  met = c.broken_line.ensures.none.0 c.in_default.is;
  end = c.line_count-number-end.ensures;
  doubted = c.requires;
  none = c.first-number.ensures.none;
}

pub has-requires : goal.has-requires
has-requires c = omega (arith, c.loop-number.invariant.end, c.loop-number.invariant.doubted.count, c.loop-number-test.true)

pub loop-number-preserved-then-not-has : goal.loop-number-preserved-then-not-has
loop-number-preserved-then-not-has c =
    let inv = c.loop-number.invariant in record {
      same = inv.same;
      met = inv.met;
      end = inv.end;
      doubted = inv.doubted;
      none = λ k less. elim (cases_lt k c.loop-number.number) as (λ _. get_or c.loop-number.doubted k false ≡ false) [
        | inl before ↦ inv.none k before
        | inr here ↦ (let same : c.loop-number.number ≡ k = omega (arith, less, here) in
            subst (λ j. get_or c.loop-number.doubted j false ≡ false) same (sym c.has.ensures ∙ c.if-not-has.true))
      ];
    }

pub seen-asked-requires : goal.seen-asked-requires
seen-asked-requires c = subst (λ (v : PartialParts). c.loop-number.number < length (lines_of v.problem.grid)) (sym c.loop-number.invariant.same)
    (omega (arith, c.loop-number.invariant.end, c.loop-number-test.true))

pub forced_by_line-requires-clause-met : goal.forced_by_line-requires-clause-met
forced_by_line-requires-clause-met c =
    let same = c.loop-number.invariant.same in
    let line = c.seen-asked.result.line in
    subst (λ (v : PartialParts). CanBeMet v.problem (decided_by v.decisions) line) (sym same)
    (c.loop-number.invariant.met line (subst (λ (v : PartialParts). IsTrue (has_line v.problem.grid line)) same c.seen-asked.ensures.seen.has))

pub pass-requires-clause-none : goal.pass-requires-clause-none
pass-requires-clause-none c = c.loop-number.invariant.none

pub decide-requires-clause-there : goal.decide-requires-clause-there
decide-requires-clause-there c =
    let same = c.loop-number.invariant.same in
    let q = c.loop-number.partial.problem in
    let d = c.in-Some-forced_by_line.decision in
    let blocks = subst (λ (v : PartialParts). IsBlocksOf v.problem.grid v.problem.blocks) (sym same) c.known.ensures.blocks in
    (excluded_there q blocks (decided_by c.loop-number.partial.decisions) c.seen-asked.result.line d.block (not d.full) c.in-Some-forced_by_line.ensures.is).0

pub doubt_last-requires : goal.doubt_last-requires
doubt_last-requires c =
    let p = c.args.partial.now.problem in
    let ds = c.args.partial.now.decisions in
    let d = c.in-Some-forced_by_line.decision in
    let inv = c.loop-number.invariant in
    subst (λ (v : PartialParts). AreDoubtedBefore v.problem v.decisions c.pass.new.self) (sym c.decide.ensures.decided)
    (subst (λ (v : PartialParts). AreDoubtedBefore v.problem (v.decisions ++ d ∷ []) c.pass.new.self) (sym inv.same)
    (record { before = ds; last = d; are = refl; doubted_lines = subst (AreDoubted p ds) (sym c.pass.ensures) inv.doubted }))

pub returns-in-Some-forced_by_line-clause-problem : goal.returns-in-Some-forced_by_line-clause-problem
returns-in-Some-forced_by_line-clause-problem c =
    ap (λ (v : PartialParts). v.problem) c.decide.ensures.decided ∙ ap (λ (v : PartialParts). v.problem) c.loop-number.invariant.same

pub returns-in-Some-forced_by_line-clause-step : goal.returns-in-Some-forced_by_line-clause-step
returns-in-Some-forced_by_line-clause-step c =
    let inv = c.loop-number.invariant in
    let p = c.args.partial.now.problem in
    let lines = lines_of p.grid in
    let n = c.loop-number.number in
    let line = c.seen-asked.result.line in
    let d = c.in-Some-forced_by_line.decision in
    let within : n < length lines = omega (arith, inv.end, c.loop-number-test.true) in
    let there : slice_get lines n ≡ Some line = slice_get-get_or lines n no_line within
    ∙ ap Some (sym (c.seen-asked.ensures.line no_line ∙ ap (λ (v : PartialParts). get_or (lines_of v.problem.grid) n no_line) inv.same)) in (
      inv.met,
      ap (λ (v : PartialParts). v.decisions) c.decide.ensures.decided ∙ ap (λ (v : PartialParts). v.decisions ++ d ∷ []) inv.same,
      record {
        earlier = take n lines;
        later = drop (suc n) lines;
        place = place_parts lines n line there;
        calm = calm_before p c.args.partial.now.decisions c.loop-number.doubted n inv.doubted inv.met (omega (arith, within)) inv.none;
        least = subst (λ (v : PartialParts). IsLeastIn (ExcludesOpen v.problem (decided_by v.decisions) line) d) inv.same c.in-Some-forced_by_line.ensures;
      },
    )

pub loop-number-preserved : goal.loop-number-preserved
loop-number-preserved c =
    let inv = c.loop-number.invariant in
    let p = c.args.partial.now.problem in
    let ds = c.args.partial.now.decisions in
    let known = decided_by ds in
    let lines = lines_of p.grid in
    let n = c.loop-number.number in
    let marks = c.loop-number.doubted in
    let line = c.seen-asked.result.line in
    let there : slice_get lines n ≡ Some line = slice_get-get_or lines n no_line (omega (arith, inv.end, c.loop-number-test.true))
    ∙ ap Some (sym (c.seen-asked.ensures.line no_line ∙ ap (λ (v : PartialParts). get_or (lines_of v.problem.grid) n no_line) inv.same)) in
    let told = subst (λ (v : PartialParts). TellsLeast (ExcludesOpen v.problem (decided_by v.decisions) line) c.forced_by_line.result) inv.same c.forced_by_line.ensures in
    let calm : IsCalm p known line = subst (TellsLeast (ExcludesOpen p known line)) c.in_default-forced_by_line.is told in
    let new : c.clear.new.self ≡ set marks n false = c.clear.ensures in record {
      same = inv.same;
      met = inv.met;
      end = inv.end;
      doubted = subst (AreDoubted p ds) (sym new) (asked_doubted p ds marks n line inv.doubted there calm);
      none = λ k less. ap (λ xs. get_or xs k false) new ∙ elim (cases_lt k n) as (λ _. get_or (set marks n false) k false ≡ false) [
        | inl before ↦ get_or-set_other marks n k false false (λ e. omega (arith, before, e)) ∙ inv.none k before
        | inr here ↦ (let same : n ≡ k = omega (arith, less, here) in
            subst (λ j. get_or (set marks n false) j false ≡ false) same
            (get_or-set_same marks n false false (omega (arith, inv.end, inv.doubted.count, c.loop-number-test.true))))
      ];
    }

pub pass-requires-2-clause-within : goal.pass-requires-2-clause-within
pass-requires-2-clause-within c =
    let same = ap (λ (v : PartialParts). length (lines_of v.problem.grid)) c.loop-number.invariant.same in
    omega (arith, c.line_count.ensures, same, c.loop-number.invariant.doubted.count)

pub pass-requires-2-clause-none : goal.pass-requires-2-clause-none
pass-requires-2-clause-none c = λ k less.
    let same = ap (λ (v : PartialParts). length (lines_of v.problem.grid)) c.loop-number.invariant.same in
    c.loop-number.invariant.none k (omega (arith, less, c.line_count.ensures, same, c.loop-number.invariant.end, c.loop-number-test.false))

pub returns-clause-problem : goal.returns-clause-problem
returns-clause-problem c = ap (λ (v : PartialParts). v.problem) c.loop-number.invariant.same

pub returns-clause-step : goal.returns-clause-step
returns-clause-step c =
    let inv = c.loop-number.invariant in
    let lines = lines_of c.args.partial.now.problem.grid in (
      inv.met,
      ap (λ (v : PartialParts). v.decisions) inv.same,
      λ block value (none, l, has, out).
          let (k, within, at) = member-place lines l (lines_are_listed c.args.partial.now.problem.grid l has) in
          inv.doubted.calm inv.met k l (slice_get-get_or lines k l within ∙ ap Some (at l)) (inv.none k (omega (arith, within, inv.end, c.loop-number-test.false))) block value (none, out),
    )

pub returns-clause-doubted : goal.returns-clause-doubted
returns-clause-doubted c =
    let inv = c.loop-number.invariant in
    subst (λ (v : PartialParts). AreDoubted v.problem v.decisions c.pass-2.new.self) (sym inv.same)
    (subst (AreDoubted c.args.partial.now.problem c.args.partial.now.decisions) (sym c.pass-2.ensures) inv.doubted)
