-- A column of grid cells is made depth by depth.
use Rattle.std.proofs.Common.{◌≡◌, ◌≢◌, ◌⊎◌, inl, inr, Bool, true, false, ◌&&◌, ◌==◌, nat_lt, ℕ, ◌+◌, ◌*◌, ◌%◌, ◌<◌, ◌^◌, List, slice_index_or, bit_or, ℤ, pos, negsuc, w64, refl, ap, sym, subst, ◌∙◌, arith}
use Rattle.std.proofs.lemmas.Bool.{cases_lt, lt-ltb}
use Rattle.std.proofs.lemmas.Nat.Bits.{bit_at_set_same, bit_at_set_other}
use Rattle.solid_model.specs.declared.cell.Axis.{Axis}
use Rattle.solid_model.specs.declared.frame.Frame.{Frame}
use Rattle.lemmas.specs.Bits.{bits}
use Rattle.solid_model.specs.GridPlaces.{place_in, grid_cell_in}
use Rattle.column_laws.specs.GridColumns.{column_to}

-- ---- one column

-- what is below one more and isn't the last is below
nat_lt_more : (k d : ℕ) → k ≢ d → nat_lt k d ≡ nat_lt k (d + 1)
nat_lt_more k d other = grind arith

-- a number is equal to another or isn't
same_or_other : (k d : ℕ) → (k ≡ d) ⊎ (k ≢ d)
same_or_other k d = elim (cases_lt k d) as (λ _. (k ≡ d) ⊎ (k ≢ d)) [
  | inl l ↦ inr (λ e. omega arith)
  | inr l ↦ elim (cases_lt d k) as (λ _. (k ≡ d) ⊎ (k ≢ d)) [ inl m ↦ inr (λ e. omega arith) | inr m ↦ inl (omega arith) ]
]

module _ (f : Frame) (sizes : Axis → ℕ) (chosen : List Bool) (i j : ℕ) where
  abbrev at_depth : ℕ → Bool
  at_depth k = slice_index_or chosen (place_in sizes (grid_cell_in f sizes i j k)) false

  -- the bits of the column are those of the cells down to the depth
  abbrev GoesTo : ℕ → ℕ → Type 0
  GoesTo depth n = (k : ℤ) → bits n k ≡ column_to depth f sizes chosen i j k

  module _ (depth n : ℕ) (so_far : GoesTo depth n) where
    other_depth : (k : ℕ) → k ≢ depth → bits n (pos k) ≡ column_to (depth + 1) f sizes chosen i j (pos k)
    other_depth k other = so_far (pos k) ∙ ap (λ b. b && at_depth k) (nat_lt_more k depth other)

    last_depth : column_to (depth + 1) f sizes chosen i j (pos depth) ≡ at_depth depth
    last_depth = ap (λ b. b && at_depth depth) (lt-ltb depth (depth + 1) (omega arith))

    -- a full cell more, whose bit is set,
    pub full_depth : depth < 64 → at_depth depth ≡ true → GoesTo (depth + 1) (bit_or n (1 * 2 ^ depth % 2 ^ 64))
    full_depth within full (negsuc k) = refl
    full_depth within full (pos k) = elim (same_or_other k depth) as (λ _. bits (bit_or n (1 * 2 ^ depth % 2 ^ 64)) (pos k) ≡ column_to (depth + 1) f sizes chosen i j (pos k)) [
      | inl e ↦ subst (λ m. bits (bit_or n (1 * 2 ^ depth % 2 ^ 64)) (pos m) ≡ column_to (depth + 1) f sizes chosen i j (pos m)) (sym e)
          (ap (λ b. b == 1) (bit_at_set_same w64 n depth within) ∙ sym full ∙ sym last_depth)
      | inr other ↦ ap (λ b. b == 1) (bit_at_set_other w64 n depth within k other) ∙ other_depth k other
    ]

    -- or an empty one, whose bit is left
    pub empty_depth : at_depth depth ≡ false → GoesTo (depth + 1) n
    empty_depth empty (negsuc k) = refl
    empty_depth empty (pos k) = elim (same_or_other k depth) as (λ _. bits n (pos k) ≡ column_to (depth + 1) f sizes chosen i j (pos k)) [
      | inl e ↦ subst (λ m. bits n (pos m) ≡ column_to (depth + 1) f sizes chosen i j (pos m)) (sym e)
          (so_far (pos depth) ∙ not_yet ∙ sym empty ∙ sym last_depth)
      | inr other ↦ other_depth k other
    ]
      where
        not_yet : column_to depth f sizes chosen i j (pos depth) ≡ false
        not_yet = ap (λ b. b && at_depth depth) (nat_lt_itself depth)
          where
            nat_lt_itself : (d : ℕ) → nat_lt d d ≡ false
            nat_lt_itself d = grind arith
