-- Whether a prefix is live is computed: one forcing chain that can't be longer tells it.
use Rattle.std.proofs.Common.{◌≡◌, ◌↔◌, Bool, not, nat_le, ℕ, zero, suc, ◌+◌, ◌<◌, ◌≤◌, List, [], ◌∷◌, length, Option, Some, None, IsTrue, if◌then◌else◌, inl, inr, refl, ap, ap₂, sym, subst, ◌∙◌, arith}
use Rattle.std.proofs.lemmas.Bool.{eq-eqb, ne_eqb, cases_lt, and_parts, and_from, le-leb, leb-true}
use Rattle.column_laws.specs.Undecided.{one_if_none, undecided}
use Rattle.column_laws.proofs.AllLines.{lines_are_there, lines_are_listed}
use Rattle.column_laws.proofs.ForcedDecisions.{listed_excluded, excluded_listed}
use Rattle.column_laws.proofs.MetLines.{met_computed}
use Rattle.column_laws.proofs.Prefixes.{block_below}
use Rattle.solid_model.specs.declared.decision.Decision.{Decision}
use Rattle.solid_model.specs.Blocks.{ProblemParts, IsBlocksOf}
use Rattle.solid_model.specs.Demands.{lines_of, said_by, can_be_met}
use Rattle.solid_model.specs.Forcing.{known_with, known_by, IsExcluded, IsForced, IsLive, all_forced, chain_on, forced_chain, known_closed, is_live}
use Rattle.lemmas.specs.Lists.{Member}
use Rattle.solid_model.proofs.Lives.{chain_lives}
use Rattle.lemmas.proofs.Tests.{passes_all, all_passing}

-- ---- undecided blocks

at_most : (known : ℕ → Option Bool) (n : ℕ) → undecided known n ≤ n
at_most known zero = omega arith
at_most known (suc n) = by (known n) (at_most known n)
  where
    by : (o : Option Bool) → undecided known n ≤ n → one_if_none o + undecided known n ≤ suc n
    by None l = omega arith
    by (Some v) l = omega arith

-- a decision on an undecided one leaves one less
module _ (known : ℕ → Option Bool) (d : Decision) (none : known d.block ≡ None) where
  kept_at : (n : ℕ) → (d.block ≡ n → ⊥) → one_if_none (known_with known d n) ≡ one_if_none (known n)
  kept_at n other = ap (λ b. one_if_none (if b then Some d.full else known n)) (ne_eqb d.block n other)

  same_before : (n : ℕ) → n ≤ d.block → undecided (known_with known d) n ≡ undecided known n
  same_before zero l = refl
  same_before (suc n) l = ap₂ ◌+◌ (kept_at n (λ e. omega arith)) (same_before n (omega arith))

  one_less : (n : ℕ) → d.block < n → undecided known n ≡ suc (undecided (known_with known d) n)
  one_less zero l = absurd (omega arith)
  one_less (suc n) l = elim (cases_lt d.block n) as (λ _. undecided known (suc n) ≡ suc (undecided (known_with known d) (suc n))) [
    | inl m ↦ (let kept = kept_at n (λ e. omega arith) in let rest = one_less n m in omega arith)
    | inr m ↦ (let same : d.block ≡ n = omega arith in
        let was : one_if_none (known n) ≡ 1 = ap one_if_none (ap known (sym same) ∙ none) in
        let is : one_if_none (known_with known d n) ≡ 0 = ap (λ b. one_if_none (if b then Some d.full else known n)) (eq-eqb d.block n same) in
        let rest = same_before n (omega arith) in omega arith)
  ]

module _ (p : ProblemParts) (blocks : IsBlocksOf p.grid p.blocks) where
  -- ---- the chain

  first_excluded : (known : ℕ → Option Bool) (d : Decision) (others : List Decision) → all_forced p known ≡ d ∷ others → IsExcluded p known d.block (not d.full)
  first_excluded known d others e = listed_excluded p blocks.sized known d (subst (λ ds. Member ds d) (sym e) (inl refl))

  chain_forced : (more : ℕ) (known : ℕ → Option Bool) → IsForced p known (forced_chain p more known)
  chain_forced zero known = tt
  chain_forced (suc more) known = by (all_forced p known) refl (λ d. chain_forced more (known_with known d))
    where
      by : (ds : List Decision) → all_forced p known ≡ ds → ((d : Decision) → IsForced p (known_with known d) (forced_chain p more (known_with known d)))
          → IsForced p known (chain_on (λ d. forced_chain p more (known_with known d)) ds)
      by [] e rest = tt
      by (d ∷ others) e rest = (first_excluded known d others e, rest d)

  -- a forced decision leaves fewer blocks undecided
  one_more : (known : ℕ → Option Bool) (d : Decision) → IsExcluded p known d.block (not d.full)
      → undecided known p.blocks.count ≡ suc (undecided (known_with known d) p.blocks.count)
  one_more known d (none, l, has, (of_after, k, at, out)) = one_less known d none p.blocks.count (block_below p.grid p.blocks blocks _ d.block at)

  -- so many decisions are enough
  chain_ends : (more : ℕ) (known : ℕ → Option Bool) → undecided known p.blocks.count ≤ more → all_forced p (known_by known (forced_chain p more known)) ≡ []
  chain_ends zero known few = by (all_forced p known) refl
    where
      by : (ds : List Decision) → all_forced p known ≡ ds → ds ≡ []
      by [] e = refl
      by (d ∷ others) e = absurd (let less = one_more known d (first_excluded known d others e) in omega arith)
  chain_ends (suc more) known few = by (all_forced p known) refl (λ d l. chain_ends more (known_with known d) l)
    where
      by : (ds : List Decision) → all_forced p known ≡ ds
          → ((d : Decision) → undecided (known_with known d) p.blocks.count ≤ more → all_forced p (known_by (known_with known d) (forced_chain p more (known_with known d))) ≡ [])
          → all_forced p (known_by known (chain_on (λ d. forced_chain p more (known_with known d)) ds)) ≡ []
      by [] e rest = e
      by (d ∷ others) e rest = rest d (let less = one_more known d (first_excluded known d others e) in omega arith)

  -- ---- prefixes

  -- a prefix is live exactly where the test says so
  pub live_computed : (prefix : List Bool) → IsTrue (is_live p prefix) ↔ IsLive p prefix
  live_computed prefix = (
    (λ e. let parts = and_parts (nat_le (length prefix) p.blocks.count) _ e in record {
      short = leb-true (length prefix) p.blocks.count parts.0;
      lives = chain_lives p (said_by prefix) chain forced (record {
        met = λ l has. (met_computed p blocks.sized closed l).0 (passes_all (can_be_met p closed) (lines_of p.grid) l parts.1 (lines_are_listed p.grid l has));
        none = λ block value excluded. let (d, m) = excluded_listed p blocks.sized closed block value excluded in subst (λ ds. Member ds d) ends m;
      });
    }),
    (λ live. and_from _ _ (le-leb (length prefix) p.blocks.count live.short)
        (all_passing (can_be_met p closed) (lines_of p.grid) (λ l m. (met_computed p blocks.sized closed l).1 (live.lives chain forced l (lines_are_there p.grid l m))))),
  )
    where
      chain : List Decision
      chain = forced_chain p p.blocks.count (said_by prefix)

      closed : ℕ → Option Bool
      closed = known_closed p (said_by prefix)

      forced : IsForced p (said_by prefix) chain
      forced = chain_forced p.blocks.count (said_by prefix)

      ends : all_forced p closed ≡ []
      ends = chain_ends p.blocks.count (said_by prefix) (at_most (said_by prefix) p.blocks.count)
