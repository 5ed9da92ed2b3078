-- Each entry makes less to come.
use Rattle.std.proofs.Common.{◌≡◌, ℕ, zero, suc, ◌+◌, ◌<◌, ◌≤◌, List, ◌∷◌, Some, None, Bool, true, false, if◌then◌else◌, inl, inr, refl, ap, ap₂, sym, subst, ◌∙◌, arith}
use Rattle.std.proofs.lemmas.Bool.{eq-eqb, ne_eqb, cases_lt}
use Rattle.completeness_logs.specs.declared.entry.LogEntry.{LogEntry}
use Rattle.completeness_logs.specs.declared.entry.LogEntry.TheVariants.{Fail, Whole, Force, Split}
use Rattle.completeness_logs.specs.Logs.{KnownBlocks, with_block, IsRightEntry, after_entry}
use Rattle.proof_log.specs.Weights.{triple, weight}
use Rattle.solid_model.specs.declared.decision.Decision.{Decision}
use Rattle.solid_model.specs.Blocks.{ProblemParts}
use Rattle.solid_model.specs.Forcing.{known_with}
use Rattle.column_laws.specs.Undecided.{one_if_none, undecided}

module _ (known : KnownBlocks) (d : Decision) (none : known d.block ≡ None) where
  same_before : (n : ℕ) → n ≤ d.block → undecided (known_with known d) n ≡ undecided known n
  same_before zero l = refl
  same_before (suc n) l = ap₂ ◌+◌ (ap (λ b. one_if_none (if b then Some d.full else known n)) (ne_eqb d.block n (λ e. omega arith))) (same_before n (omega arith))

  pub one_less : (n : ℕ) → d.block < n → undecided known n ≡ suc (undecided (known_with known d) n)
  one_less zero l = absurd (omega arith)
  one_less (suc n) l = elim (cases_lt d.block n) as (λ _. undecided known (suc n) ≡ suc (undecided (known_with known d) (suc n))) [
    | inl m ↦ (let kept = ap (λ b. one_if_none (if b then Some d.full else known n)) (ne_eqb d.block n (λ e. omega arith)) in let rest = one_less n m in omega arith)
    | inr m ↦ (let same : d.block ≡ n = omega arith in
        let was : one_if_none (known n) ≡ 1 = ap one_if_none (ap known (sym same) ∙ none) in
        let is : one_if_none (known_with known d n) ≡ 0 = ap (λ b. one_if_none (if b then Some d.full else known n)) (eq-eqb d.block n same) in
        let rest = same_before n (omega arith) in omega arith)
  ]

some_triple : (n : ℕ) → 0 < triple n
some_triple zero = omega arith
some_triple (suc n) = let l = some_triple n in omega (arith, l)

module _ (p : ProblemParts) where
  third : (known : KnownBlocks) (block : ℕ) (full : Bool) → block < p.blocks.count → known block ≡ None
      → triple (undecided known p.blocks.count) ≡ triple (undecided (with_block known block full) p.blocks.count) + triple (undecided (with_block known block full) p.blocks.count) + triple (undecided (with_block known block full) p.blocks.count)
  third known block full there none = ap triple (one_less known (record { block = block; full = full }) none p.blocks.count there)

  pub lighter : (known : KnownBlocks) (others : List KnownBlocks) (e : LogEntry) → IsRightEntry p known e → weight p (after_entry e known others) < weight p (known ∷ others)
  lighter known others (Fail place) right = let l = some_triple (undecided known p.blocks.count) in omega (arith, l)
  lighter known others Whole right = let l = some_triple (undecided known p.blocks.count) in omega (arith, l)
  lighter known others (Force block full place) ((there, none), shows) =
      let l = some_triple (undecided (with_block known block full) p.blocks.count) in
      let e = third known block full there none in
      omega (arith, l, e)
  lighter known others (Split block) (there, none) =
      let l = some_triple (undecided (with_block known block true) p.blocks.count) in
      let m = some_triple (undecided (with_block known block false) p.blocks.count) in
      let e = third known block true there none in
      let f = third known block false there none in
      omega (arith, l, m, e, f)

  -- so where what is to come is told otherwise
  pub lighter_next : (known : KnownBlocks) (others : List KnownBlocks) (e : LogEntry) → IsRightEntry p known e → (before now : List KnownBlocks)
      → before ≡ known ∷ others → now ≡ after_entry e known others → weight p now < weight p before
  lighter_next known others e right before now was is =
      subst (λ ks. weight p ks < weight p before) (sym is) (subst (λ ks. weight p (after_entry e known others) < weight p ks) (sym was) (lighter known others e right))
