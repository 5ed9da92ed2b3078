use Rattle.std.proofs.Common.{◌≢◌, ◌<◌, ℕ, None, ◌∷◌, ◌++◌, [], reverse, refl, sym, subst, ap, ◌∙◌, true}
use Rattle.completeness_logs.specs.declared.entry.LogEntry.TheVariants.{Fail, Force, Whole}
use Rattle.completeness_logs.specs.Logs.{IsRightEntry, with_block}
use Rattle.completeness_logs.specs.SplitMarks.{AreSplitMarks, all_to_come, sides_to_come}
use Rattle.completeness_logs.proofs.SplitMarks.{marks_more, standing_decided}
use Rattle.proof_log.specs.Walks.{AreStableAt, WalkParts}
use Rattle.proof_log.proofs.NextEntries.{right_fail, right_force}
use Rattle.proof_log.proofs.Walks.{stable_more}
use Rattle.solid_model.specs.declared.decision.Decision.{Decision}
use Rattle.solid_model.specs.Blocks.{ProblemParts}
use Rattle.solid_model.specs.Decisions.{decided_by, AreDecisions}
use Rattle.solid_model.specs.Forcing.{IsStable}
use Rattle.proof_log.proofs.walk.Walk.next_entry.Goals as goal

pub invariant_of-self : goal.invariant_of-self
invariant_of-self c =
    let p = c.self.inside.partial.problem in
    let ds = c.self.inside.partial.decisions in
    let ms = reverse c.self.inside.marks.items in
    let (met, now, first) = c.in-Forced.ensures.step in (
      subst (λ xs. AreSplitMarks xs ms) (sym now) (marks_more ds (_ ∷ []) ms c.self.invariant.0),
      subst (λ (q : ProblemParts). AreStableAt q c.step_doubted.new.partial.decisions ms) (sym c.step_doubted.ensures.problem)
          (subst (λ xs. AreStableAt p xs ms) (sym now) (stable_more p ds (_ ∷ []) ms c.self.invariant.0 c.self.invariant.1)),
      c.step_doubted.ensures.doubted,
    )

pub split-requires-clause-stable : goal.split-requires-clause-stable
split-requires-clause-stable c =
    let p = c.self.inside.partial.problem in
    let (met, same, none) = c.in-Stable.ensures.step in
    subst (λ (q : ProblemParts). IsStable q (decided_by c.step_doubted.new.partial.decisions)) (sym c.step_doubted.ensures.problem)
    (subst (λ xs. IsStable p (decided_by xs)) (sym same) (record { met = met; none = none }))

pub returns-in-Forced-clause-right : goal.returns-in-Forced-clause-right
returns-in-Forced-clause-right c =
    let p = c.self.inside.partial.problem in
    let ds = c.self.inside.partial.decisions in
    let d : Decision = record { block = c.in-Forced.block; full = c.in-Forced.full } in
    let (met, now, first) = c.in-Forced.ensures.step in
    let each = subst (λ (q : ProblemParts). AreDecisions q.blocks.count (ds ++ d ∷ [])) c.step_doubted.ensures.problem
    (subst (AreDecisions c.step_doubted.new.partial.problem.blocks.count) now c.known.ensures.decided) in
    let there = each ds [] d refl in
    subst (λ (w : WalkParts). IsRightEntry w.problem (decided_by w.decisions) (Force c.from.result d.full c.place_of.result)) c.self.view_is
    (subst (λ n. IsRightEntry p (decided_by ds) (Force n d.full c.place_of.result)) (sym c.from.ensures)
    (right_force p (decided_by ds) c.in-Forced.line c.place_of.result c.place_of.ensures d there.0 first))

pub returns-in-Forced-clause-coming : goal.returns-in-Forced-clause-coming
returns-in-Forced-clause-coming c =
    let ds = c.self.inside.partial.decisions in
    let ms = reverse c.self.inside.marks.items in
    let d : Decision = record { block = c.in-Forced.block; full = c.in-Forced.full } in
    let (met, now, first) = c.in-Forced.ensures.step in
    let each = subst (λ (q : ProblemParts). AreDecisions q.blocks.count (ds ++ d ∷ [])) c.step_doubted.ensures.problem
    (subst (AreDecisions c.step_doubted.new.partial.problem.blocks.count) now c.known.ensures.decided) in
    let there = each ds [] d refl in
    ap (λ xs. all_to_come true xs ms) now ∙ standing_decided ds d ms there.1 c.self.invariant.0
    ∙ ap (λ n. with_block (decided_by ds) n d.full ∷ sides_to_come ds ms) (sym c.from.ensures)
    ∙ ap (λ (w : WalkParts). with_block (decided_by w.decisions) c.from.result d.full ∷ sides_to_come w.decisions w.marks) c.self.view_is

pub returns-in-Conflict-clause-right : goal.returns-in-Conflict-clause-right
returns-in-Conflict-clause-right c =
    let p = c.self.inside.partial.problem in
    let ds = c.self.inside.partial.decisions in
    let (same, first) = c.in-Conflict.ensures.step in
    subst (λ (w : WalkParts). IsRightEntry w.problem (decided_by w.decisions) (Fail c.place_of-in-Conflict.result)) c.self.view_is
    (right_fail p (decided_by ds) c.in-Conflict.line c.place_of-in-Conflict.result c.place_of-in-Conflict.ensures first)

pub returns-in-None-clause-right : goal.returns-in-None-clause-right
returns-in-None-clause-right c =
    let ds = c.self.inside.partial.decisions in
    let (met, same, none) = c.in-Stable.ensures.step in
    let all = subst (λ (q : ProblemParts). (block : ℕ) → block < q.blocks.count → decided_by ds block ≢ None) c.step_doubted.ensures.problem
    (subst (λ xs. (block : ℕ) → block < c.step_doubted.new.partial.problem.blocks.count → decided_by xs block ≢ None) same (c.in-None.ensures.none refl)) in
    subst (λ (w : WalkParts). IsRightEntry w.problem (decided_by w.decisions) Whole) c.self.view_is (all, met)
