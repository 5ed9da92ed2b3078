-- What is known where a prefix is closed, with one value more.
use Rattle.std.proofs.Common.{◌≡◌, ◌==◌, Bool, true, false, not, ℕ, zero, suc, List, [], ◌∷◌, ◌++◌, length, Option, Some, None, if◌then◌else◌, refl, ap, sym, subst, ◌∙◌, arith}
use Rattle.std.proofs.lemmas.Bool.{false≢true, eqb-true, eqb-false, eq-eqb, ne_eqb}
use Rattle.std.proofs.lemmas.Option.{none-some, same_Some}
use Rattle.propagate.specs.Closing.{Grows}
use Rattle.solid_model.proofs.DecidedMore.{decided_push}
use Rattle.solid_model.specs.declared.decision.Decision.{Decision}
use Rattle.solid_model.specs.Blocks.{ProblemParts}
use Rattle.solid_model.specs.Decisions.{decided_by}
use Rattle.solid_model.specs.Demands.{said_by}
use Rattle.solid_model.specs.Forcing.{known_with, IsLess, IsImplied, IsStable, Lives}
use Rattle.solid_model.proofs.Lives.{less_self, less_on, less_with, with_less, known_new, lives_less, less_chain, stable_lives, chain_implied}
use Rattle.search_tree.specs.BlockPaths.{IsClosure}

-- ---- prefixes

-- the decision that one value more is
abbrev next : List Bool → Bool → Decision
next prefix full = record { block = length prefix; full = full }

-- a prefix says nothing of the next block,
said_last : (prefix : List Bool) → said_by prefix (length prefix) ≡ None
said_last [] = refl
said_last (x ∷ prefix) = said_last prefix

-- and with one value more it says that too
same_test : (a b : ℕ) → (a == b) ≡ (suc a == suc b)
same_test a b = by (a == b) refl
  where
    by : (t : Bool) → (a == b) ≡ t → (a == b) ≡ (suc a == suc b)
    by true e = e ∙ sym (eq-eqb (suc a) (suc b) (ap suc (eqb-true a b e)))
    by false e = e ∙ sym (ne_eqb (suc a) (suc b) (λ f. eqb-false a b e (omega arith)))

said_at : (prefix : List Bool) (full : Bool) (k : ℕ) → said_by (prefix ++ full ∷ []) k ≡ known_with (said_by prefix) (next prefix full) k
said_at [] full zero = ap (λ b. if b then Some full else None) (sym (eq-eqb 0 0 refl))
said_at [] full (suc k) = ap (λ b. if b then Some full else None) (sym (ne_eqb 0 (suc k) (λ e. omega (arith, e))))
said_at (x ∷ prefix) full zero = ap (λ b. if b then Some full else Some x) (sym (ne_eqb (suc (length prefix)) 0 (λ e. omega (arith, e))))
said_at (x ∷ prefix) full (suc k) = said_at prefix full k ∙ ap (λ b. if b then Some full else said_by prefix k) (same_test (length prefix) k)

said_push : (prefix : List Bool) (full : Bool) → said_by (prefix ++ full ∷ []) ≡ known_with (said_by prefix) (next prefix full)
said_push prefix full t k = said_at prefix full k t

module _ (p : ProblemParts) where
  -- ---- what is implied

  implied_both : (a b c : ℕ → Option Bool) → IsImplied p a b → IsImplied p b c → IsImplied p a c
  implied_both a b c f g more less lives =
      let (most, above, within, on) = f more less lives in
      let (last, up, w, l) = g most above on in
      (last, up, less_on more most last within w, l)

  -- one decision more on both sides,
  implied_with : (a b : ℕ → Option Bool) (d : Decision) → a d.block ≡ None → IsImplied p a b → IsImplied p (known_with a d) (known_with b d)
  implied_with a b d none f more less lives =
      let (most, above, within, on) = f more (less_on a (known_with a d) more (less_with a d none) less) lives in
      (most, with_less b most d above (within d.block d.full (less d.block d.full (known_new a d))), within, on)

  -- or on the left one alone
  implied_had : (a b : ℕ → Option Bool) (d : Decision) → a d.block ≡ None → IsImplied p a b → IsImplied p (known_with a d) b
  implied_had a b d none f more less lives = f more (less_on a (known_with a d) more (less_with a d none) less) lives

  -- where the opposite value is implied nothing lives,
  dead_by_value : (a b : ℕ → Option Bool) (d : Decision) → a d.block ≡ None → IsImplied p a b → b d.block ≡ Some (not d.full) → Lives p (known_with a d) → ⊥
  dead_by_value a b d none f said lives =
      let (most, above, within, on) = f (known_with a d) (less_with a d none) lives in
      other (d.full) (same_Some d.full (not d.full) (sym (within d.block d.full (known_new a d)) ∙ above d.block (not d.full) said))
    where
      other : (v : Bool) → v ≡ not v → ⊥
      other true e = false≢true (sym e)
      other false e = false≢true e

  -- nor where what is implied doesn't
  dead_by_conflict : (a b : ℕ → Option Bool) → IsImplied p a b → (Lives p b → ⊥) → Lives p a → ⊥
  dead_by_conflict a b f lost lives = let (most, above, within, on) = f a (less_self a) lives in lost (lives_less p b most above on)

  -- ---- closures

  -- a prefix that is closed lives
  pub closure_lives : (prefix : List Bool) (known : ℕ → Option Bool) → IsClosure p prefix known → Lives p (said_by prefix)
  closure_lives prefix known closure = lives_less p (said_by prefix) known closure.says (stable_lives p known closure.stable)

  -- the empty prefix
  pub closed_first : (new : List Decision) → Grows p [] new → IsStable p (decided_by new) → IsClosure p [] (decided_by new)
  closed_first new grows stable = record {
    says = λ block value e. absurd (none-some value e);
    implied = subst (IsImplied p (said_by [])) (sym grows.known) (chain_implied p (said_by []) grows.chain grows.forced);
    stable = stable;
  }

  module _ (prefix : List Bool) (full : Bool) where
    -- the next value follows already: the same is known,
    pub closed_before : (known : ℕ → Option Bool) → IsClosure p prefix known → known (length prefix) ≡ Some full → IsClosure p (prefix ++ full ∷ []) known
    closed_before known closure had = subst (λ a. IsLess a known × IsImplied p a known → IsClosure p (prefix ++ full ∷ []) known) (said_push prefix full)
        (λ both. record { says = both.0; implied = both.1; stable = closure.stable })
        (with_less (said_by prefix) known (next prefix full) closure.says had, implied_had (said_by prefix) known (next prefix full) (said_last prefix) closure.implied)

    -- its opposite follows: it isn't live,
    pub dead_before : (known : ℕ → Option Bool) → IsClosure p prefix known → known (length prefix) ≡ Some (not full) → Lives p (said_by (prefix ++ full ∷ [])) → ⊥
    dead_before known closure had lives =
        dead_by_value (said_by prefix) known (next prefix full) (said_last prefix) closure.implied had (subst (Lives p) (said_push prefix full) lives)

    -- or it is decided
    module _ (ds : List Decision) (closure : IsClosure p prefix (decided_by ds)) (undecided : decided_by ds (length prefix) ≡ None) where
      with_next : decided_by (ds ++ next prefix full ∷ []) ≡ known_with (decided_by ds) (next prefix full)
      with_next = decided_push ds (next prefix full) undecided

      implied_next : IsImplied p (said_by (prefix ++ full ∷ [])) (decided_by (ds ++ next prefix full ∷ []))
      implied_next = subst (λ a. IsImplied p a (decided_by (ds ++ next prefix full ∷ []))) (sym (said_push prefix full))
          (subst (IsImplied p (known_with (said_by prefix) (next prefix full))) (sym with_next)
          (implied_with (said_by prefix) (decided_by ds) (next prefix full) (said_last prefix) closure.implied))

      says_next : IsLess (said_by (prefix ++ full ∷ [])) (decided_by (ds ++ next prefix full ∷ []))
      says_next = subst (λ a. IsLess a (decided_by (ds ++ next prefix full ∷ []))) (sym (said_push prefix full))
          (subst (IsLess (known_with (said_by prefix) (next prefix full))) (sym with_next)
          (with_less (said_by prefix) (known_with (decided_by ds) (next prefix full)) (next prefix full)
          (less_on (said_by prefix) (decided_by ds) (known_with (decided_by ds) (next prefix full)) closure.says (less_with (decided_by ds) (next prefix full) undecided))
          (known_new (decided_by ds) (next prefix full))))

      -- and closing ends well,
      pub closed_next : (new : List Decision) → Grows p (ds ++ next prefix full ∷ []) new → IsStable p (decided_by new) → IsClosure p (prefix ++ full ∷ []) (decided_by new)
      closed_next new grows stable =
          let now = decided_by (ds ++ next prefix full ∷ []) in record {
            says = less_on (said_by (prefix ++ full ∷ [])) now (decided_by new) says_next (subst (IsLess now) (sym grows.known) (less_chain p now grows.chain grows.forced));
            implied = implied_both (said_by (prefix ++ full ∷ [])) now (decided_by new) implied_next
                (subst (IsImplied p now) (sym grows.known) (chain_implied p now grows.chain grows.forced));
            stable = stable;
          }

      -- or in a conflict
      pub dead_next : (Lives p (decided_by (ds ++ next prefix full ∷ [])) → ⊥) → Lives p (said_by (prefix ++ full ∷ [])) → ⊥
      dead_next lost lives = dead_by_conflict (said_by (prefix ++ full ∷ [])) (decided_by (ds ++ next prefix full ∷ [])) implied_next lost lives
