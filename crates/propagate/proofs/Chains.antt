-- Forcing chains that go on, and where they end.
use Rattle.std.proofs.Common.{◌≡◌, Bool, not, ℕ, ◌≤◌, List, [], ◌∷◌, ◌++◌, length, take, drop, slice_get, ◌<◌, Option, Some, None, IsTrue, refl, ap, sym, subst, ◌∙◌, arith, append_assoc, zero, suc, inl}
use Rattle.std.proofs.lemmas.List.{append-nil, length-append}
use Rattle.std.proofs.lemmas.Option.{none-some}
use Rattle.column_laws.proofs.AllLines.{lines_are_there}
use Rattle.propagate.specs.declared.closing.Closed.TheVariants.{Stable, Conflict}
use Rattle.propagate.specs.Closing.{Grows, TellsClosed}
use Rattle.propagate.specs.Forced.{IsCalm}
use Rattle.propagate.proofs.Steps.{place_parts}
use Rattle.solid_model.specs.declared.decision.Decision.{Decision}
use Rattle.solid_model.specs.declared.line_id.LineId.{LineId}
use Rattle.solid_model.specs.Blocks.{ProblemParts}
use Rattle.solid_model.specs.Decisions.{decided_by, AreDecisions}
use Rattle.solid_model.specs.Demands.{has_line, AllMet, CanBeMet, IsFirstBroken}
use Rattle.solid_model.specs.Forcing.{known_with, known_by, IsLess, IsExcluded, IsForced, IsStable}
use Rattle.lemmas.specs.Lists.{Member}
use Rattle.lemmas.proofs.Lists.{member-append_right}
use Rattle.solid_model.proofs.DecidedMore.{decided_push}
use Rattle.solid_model.proofs.Lives.{less_chain, lives_less, stable_lives}

pub at_before : {A : Type 0} (xs ys : List A) (k : ℕ) (x : A) → slice_get xs k ≡ Some x → slice_get (xs ++ ys) k ≡ Some x
at_before [] ys k x e = absurd (none-some x e)
at_before (y ∷ xs) ys zero x e = e
at_before (y ∷ xs) ys (suc k) x e = at_before xs ys k x e

-- a decision at a place is on a block that is there
pub decision_there : (count : ℕ) (ds : List Decision) (at : ℕ) (d : Decision) → AreDecisions count ds → slice_get ds at ≡ Some d → d.block < count
decision_there count ds at d each is = (each (take at ds) (drop (suc at) ds) d (place_parts ds at d is)).0

module _ (p : ProblemParts) where
  pub grows_self : (ds : List Decision) → Grows p ds ds
  grows_self ds = record { chain = []; longer = sym (append-nil ds); known = refl; forced = tt }

  known_on : (known : ℕ → Option Bool) (chain : List Decision) (d : Decision) → known_by known (chain ++ d ∷ []) ≡ known_with (known_by known chain) d
  known_on known [] d = refl
  known_on known (e ∷ chain) d = known_on (known_with known e) chain d

  forced_on_end : (known : ℕ → Option Bool) (chain : List Decision) (d : Decision) → IsForced p known chain → IsExcluded p (known_by known chain) d.block (not d.full) → IsForced p known (chain ++ d ∷ [])
  forced_on_end known [] d forced excluded = (excluded, tt)
  forced_on_end known (e ∷ chain) d (first, forced) excluded = (first, forced_on_end (known_with known e) chain d forced excluded)

  -- one forced decision more
  pub grows_on : (old now : List Decision) (d : Decision) → Grows p old now → decided_by now d.block ≡ None → IsExcluded p (decided_by now) d.block (not d.full) → Grows p old (now ++ d ∷ [])
  grows_on old now d grows undecided excluded = record {
    chain = grows.chain ++ d ∷ [];
    longer = ap (λ ds. ds ++ d ∷ []) grows.longer ∙ append_assoc old grows.chain (d ∷ []);
    known = decided_push now d undecided ∙ ap (λ k. known_with k d) grows.known ∙ sym (known_on (decided_by old) grows.chain d);
    forced = forced_on_end (decided_by old) grows.chain d grows.forced (subst (λ k. IsExcluded p k d.block (not d.full)) grows.known excluded);
  }

  by_both : (known : ℕ → Option Bool) (one two : List Decision) → known_by known (one ++ two) ≡ known_by (known_by known one) two
  by_both known [] two = refl
  by_both known (d ∷ one) two = by_both (known_with known d) one two

  forced_both : (known : ℕ → Option Bool) (one two : List Decision) → IsForced p known one → IsForced p (known_by known one) two → IsForced p known (one ++ two)
  forced_both known [] two forced more = more
  forced_both known (d ∷ one) two (first, forced) more = (first, forced_both (known_with known d) one two forced more)

  -- a chain after a chain
  pub grows_both : (a b c : List Decision) → Grows p a b → Grows p b c → Grows p a c
  grows_both a b c one two = record {
    chain = one.chain ++ two.chain;
    longer = two.longer ∙ ap (λ ds. ds ++ two.chain) one.longer ∙ append_assoc a one.chain two.chain;
    known = two.known ∙ ap (λ k. known_by k two.chain) one.known ∙ sym (by_both (decided_by a) one.chain two.chain);
    forced = forced_both (decided_by a) one.chain two.chain one.forced (subst (λ k. IsForced p k two.chain) one.known two.forced);
  }

  pub grows_length : (a b : List Decision) → Grows p a b → length a ≤ length b
  grows_length a b grows = omega (arith, ap length grows.longer, length-append a grows.chain)

  pub grows_at : (a b : List Decision) (k : ℕ) (d : Decision) → Grows p a b → slice_get a k ≡ Some d → slice_get b k ≡ Some d
  grows_at a b k d grows at = ap (λ ds. slice_get ds k) grows.longer ∙ at_before a grows.chain k d at

  -- ---- the end

  -- where each line can be met and excludes nothing
  pub closed_stable : (old now : List Decision) → Grows p old now → AllMet p (decided_by now) → ((l : LineId) → IsTrue (has_line p.grid l) → IsCalm p (decided_by now) l) → TellsClosed p old now Stable
  closed_stable old now grows met calm =
      let less : IsLess (decided_by old) (decided_by now) = subst (IsLess (decided_by old)) (sym grows.known) (less_chain p (decided_by old) grows.chain grows.forced) in
      let stable : IsStable p (decided_by now) = record { met = met; none = λ block value (undecided, l, has, out). calm l has block value (undecided, out) } in
      (lives_less p (decided_by old) (decided_by now) less (stable_lives p (decided_by now) stable), stable)

  -- where a line can't be met
  pub closed_conflict : (old now : List Decision) (l : LineId) → Grows p old now → IsFirstBroken p (decided_by now) l → TellsClosed p old now (Conflict l)
  closed_conflict old now l grows first =
      let has : IsTrue (has_line p.grid l) = lines_are_there p.grid l (subst (λ ls. Member ls l) (sym first.place) (member-append_right first.earlier (l ∷ first.later) l (inl refl))) in
      ((λ lives. first.broken (subst (λ k. CanBeMet p k l) (sym grows.known) (lives grows.chain grows.forced l has))), first)
