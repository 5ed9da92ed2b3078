-- The next value follows already, or its opposite does, or it is decided and closed.
use Rattle.std.proofs.Common.{◌≡◌, List, Bool, true, false, not, ℕ, ◌∷◌, ◌++◌, [], length, take, Some, refl, ap, sym, subst, ◌∙◌, append_assoc, length-append, arith}
use Rattle.std.proofs.lemmas.Bool.{false≢true}
use Rattle.std.proofs.lemmas.List.{take_all, length_push}
use Rattle.propagate.specs.Closing.{Grows}
use Rattle.solid_model.specs.declared.decision.Decision.{Decision}
use Rattle.solid_model.specs.Blocks.{ProblemParts}
use Rattle.solid_model.specs.Decisions.{decided_by, PartialParts}
use Rattle.solid_model.specs.Forcing.{Lives}
use Rattle.search_tree.proofs.Implied.{closed_before, dead_before, closed_next, dead_next}
use Rattle.search_tree.proofs.descent.close_next.Goals as goal
use mathlib.Core.Bool.{beq}

same_bool : (x y : Bool) → beq x y ≡ true → x ≡ y
same_bool true true e = refl
same_bool false false e = refl
same_bool true false e = absurd (false≢true e)
same_bool false true e = absurd (false≢true e)

other_bool : (x y : Bool) → beq x y ≡ false → x ≡ not y
other_bool true true e = absurd (false≢true (sym e))
other_bool false false e = absurd (false≢true (sym e))
other_bool true false e = refl
other_bool false true e = refl

-- the decisions before are the first
front_of : (ds more : List Decision) → take (length ds) (ds ++ more) ≡ ds
front_of [] more = refl
front_of (d ∷ ds) more = ap (λ xs. d ∷ xs) (front_of ds more)

module _ (p : ProblemParts) (ds : List Decision) (d : Decision) (new : List Decision) where
  front_grown : Grows p (ds ++ d ∷ []) new → take (length ds) new ≡ ds
  front_grown grows = ap (take (length ds)) (grows.longer ∙ append_assoc ds (d ∷ []) grows.chain) ∙ front_of ds (d ∷ grows.chain)

pub decide_closed-requires-clause-calm : goal.decide_closed-requires-clause-calm
decide_closed-requires-clause-calm c = λ l has block value (none, out). c.requires.stable.none block value (none, l, has, out)

pub returns-in-Some-clause-live : goal.returns-in-Some-clause-live
returns-in-Some-clause-live c = λ e prefix at closure.
    closed_before c.args.partial.now.problem prefix c.args.full (decided_by c.args.partial.now.decisions) closure
    (ap (decided_by c.args.partial.now.decisions) at ∙ sym c.value.ensures ∙ c.in-Some.is ∙ ap Some (same_bool c.in-Some.value c.args.full e))

pub returns-in-Some-clause-dead : goal.returns-in-Some-clause-dead
returns-in-Some-clause-dead c = λ e prefix at closure.
    dead_before c.args.partial.now.problem prefix c.args.full (decided_by c.args.partial.now.decisions) closure
    (ap (decided_by c.args.partial.now.decisions) at ∙ sym c.value.ensures ∙ c.in-Some.is ∙ ap Some (other_bool c.in-Some.value c.args.full e))

pub returns-in-Some-clause-front : goal.returns-in-Some-clause-front
returns-in-Some-clause-front c = take_all (length c.args.partial.now.decisions) c.args.partial.now.decisions (omega arith)

pub returns-in-Stable-clause-front : goal.returns-in-Stable-clause-front
returns-in-Stable-clause-front c =
    front_grown c.args.partial.now.problem c.args.partial.now.decisions record { block = c.args.block; full = c.args.full } c.decide_closed.new.partial.decisions c.decide_closed.ensures.grows

pub returns-in-Stable-clause-live : goal.returns-in-Stable-clause-live
returns-in-Stable-clause-live c = λ e prefix at closure.
    let p = c.args.partial.now.problem in
    let ds = c.args.partial.now.decisions in
    let full = c.args.full in
    let new = c.decide_closed.new.partial.decisions in
    closed_next p prefix full ds closure (ap (decided_by ds) at ∙ sym c.value.ensures ∙ c.in-None.is) new
    (subst (λ (b : ℕ). Grows p (ds ++ record { block = b; full = full } ∷ []) new) (sym at) c.decide_closed.ensures.grows) c.in-Stable.ensures.closed.1

pub undo_to-requires : goal.undo_to-requires
undo_to-requires c =
    let ds = c.args.partial.now.decisions in
    let d : Decision = record { block = c.args.block; full = c.args.full } in
    let longer = ap length c.decide_closed.ensures.grows.longer in
    omega (arith, longer, c.decided-mark.ensures.count, length-append (ds ++ d ∷ []) c.decide_closed.ensures.grows.chain, length_push ds d)

-- all that was taken is taken back
back_to : (p : ProblemParts) (ds : List Decision) (d : Decision) (mark : ℕ) (closed undone : PartialParts) → mark ≡ length ds → closed.problem ≡ p → Grows p (ds ++ d ∷ []) closed.decisions
    → undone ≡ record { problem = closed.problem; decisions = take mark closed.decisions } → undone ≡ record { problem = p; decisions = ds }
back_to p ds d mark closed undone is_mark same grows is_undone =
    let front : take mark closed.decisions ≡ ds = ap (λ n. take n closed.decisions) is_mark ∙ front_grown p ds d closed.decisions grows in
    is_undone ∙ (λ t. record { problem = same t; decisions = front t })

pub returns-in-Conflict-clause-back : goal.returns-in-Conflict-clause-back
returns-in-Conflict-clause-back c = λ _.
    let d : Decision = record { block = c.args.block; full = c.args.full } in
    back_to c.args.partial.now.problem c.args.partial.now.decisions d c.decided-mark.result c.decide_closed.new.partial c.undo_to.new.partial
    c.decided-mark.ensures.count c.decide_closed.ensures.problem c.decide_closed.ensures.grows c.undo_to.ensures

pub returns-in-Conflict-clause-front : goal.returns-in-Conflict-clause-front
returns-in-Conflict-clause-front c =
    let d : Decision = record { block = c.args.block; full = c.args.full } in
    let ds = c.args.partial.now.decisions in
    let back = back_to c.args.partial.now.problem ds d c.decided-mark.result c.decide_closed.new.partial c.undo_to.new.partial
    c.decided-mark.ensures.count c.decide_closed.ensures.problem c.decide_closed.ensures.grows c.undo_to.ensures in
    ap (λ (v : PartialParts). take (length ds) v.decisions) back ∙ take_all (length ds) ds (omega arith)

pub returns-in-Conflict-clause-dead : goal.returns-in-Conflict-clause-dead
returns-in-Conflict-clause-dead c = λ e prefix at closure.
    let p = c.args.partial.now.problem in
    let ds = c.args.partial.now.decisions in
    let full = c.args.full in
    dead_next p prefix full ds closure (ap (decided_by ds) at ∙ sym c.value.ensures ∙ c.in-None.is)
    (subst (λ (b : ℕ). Lives p (decided_by (ds ++ record { block = b; full = full } ∷ [])) → ⊥) (sym at) c.in-Conflict.ensures.closed.0)
