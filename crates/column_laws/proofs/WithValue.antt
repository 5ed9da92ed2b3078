-- A value at one depth of a column, where nothing is known of it.
use Rattle.std.proofs.Common.{◌≡◌, ◌==◌, Bool, true, false, ℕ, ◌<◌, ◌≤◌, ℤ, pos, negsuc, Option, Some, None, if◌then◌else◌, refl, ap, sym, ◌∙◌, arith}
use Rattle.std.proofs.lemmas.Bool.{eqb-true, eq-eqb}
use Rattle.std.proofs.lemmas.Option.{none-some, same_Some}
use Rattle.column_laws.proofs.SettledColumns.{IsEmptyBeyond}
use Rattle.solid_model.specs.Demands.{AgreesWith}
use Rattle.solid_model.specs.Forcing.{with_value}

module _ (depth : ℕ) (value : Bool) (known : ℤ → Option Bool) where
  -- a column that agrees with it agrees with what was known, and has the value there
  pub agrees_from : (column : ℤ → Bool) → known (pos depth) ≡ None → AgreesWith (with_value depth value known) column
      → AgreesWith known column × (column (pos depth) ≡ value)
  agrees_from column none agrees = (each, agrees (pos depth) value (let same : (depth == depth) ≡ true = eq-eqb depth depth refl in rw same refl))
    where
      each : AgreesWith known column
      each (negsuc k) v e = agrees (negsuc k) v e
      each (pos k) v e = agrees (pos k) v (by (k == depth) refl)
        where
          by : (b : Bool) → (k == depth) ≡ b → (if b then Some value else known (pos k)) ≡ Some v
          by false f = e
          by true f = absurd (none-some v (sym none ∙ ap (λ (n : ℕ). known (pos n)) (sym (eqb-true k depth f)) ∙ e))

  -- and the other way round
  pub agrees_to : (column : ℤ → Bool) → AgreesWith known column → column (pos depth) ≡ value → AgreesWith (with_value depth value known) column
  agrees_to column agrees at (negsuc k) v e = agrees (negsuc k) v e
  agrees_to column agrees at (pos k) v e = by (k == depth) refl e
    where
      by : (b : Bool) → (k == depth) ≡ b → (if b then Some value else known (pos k)) ≡ Some v → column (pos k) ≡ v
      by false f g = agrees (pos k) v g
      by true f g = ap (λ (n : ℕ). column (pos n)) (eqb-true k depth f) ∙ at ∙ same_Some value v g

  -- what is beyond the box stays empty
  pub beyond_with : (n : ℕ) → depth < n → IsEmptyBeyond n known → IsEmptyBeyond n (with_value depth value known)
  beyond_with n l beyond = record {
    nearer = beyond.nearer;
    farther = λ k m. by k m (k == depth) refl;
  }
    where
      by : (k : ℕ) → n ≤ k → (b : Bool) → (k == depth) ≡ b → (if b then Some value else known (pos k)) ≡ Some false
      by k m false f = beyond.farther k m
      by k m true f = absurd (let same = eqb-true k depth f in omega arith)
