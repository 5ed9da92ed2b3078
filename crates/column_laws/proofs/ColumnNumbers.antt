-- Each column of grid cells is that of some number.
use Rattle.std.proofs.Common.{◌≡◌, ◌&&◌, Bool, true, false, ℕ, zero, suc, ◌+◌, ◌*◌, ◌%◌, ◌^◌, ◌≤◌, List, slice_index_or, bit_or, ℤ, pos, negsuc, inl, inr, refl, ap, sym, subst, ◌∙◌, arith}
use Rattle.std.proofs.lemmas.Bool.{cases_lt, le-ltb}
use Rattle.solid_model.specs.declared.cell.Axis.{Axis}
use Rattle.solid_model.specs.declared.frame.Frame.{Frame}
use Rattle.solid_model.specs.Frames.{across}
use Rattle.lemmas.specs.Bits.{bits}
use Rattle.solid_model.specs.GridPlaces.{place_in, grid_cell_in}
use Rattle.solid_model.specs.Segments.{across_of, along_of}
use Rattle.column_laws.specs.GridColumns.{column_to}
use Rattle.column_laws.specs.GridPanels.{IsColumnBeside, AreColumnsBeside}
use Rattle.column_laws.proofs.GridColumns.{full_depth, empty_depth}
use Rattle.column_laws.proofs.GridSegments.{empty_bits}

-- beyond the last line no column is
pub beyond_lines : (f : Frame) (sizes : Axis → ℕ) (chosen : List Bool) (upright : Bool) (start line : ℕ) → sizes (across f upright).axis ≤ line
    → IsColumnBeside f sizes chosen upright start line 0
beyond_lines f sizes chosen upright start line beyond = record { inside = λ within. absurd (omega arith); outside = λ l. refl }

module _ (f : Frame) (sizes : Axis → ℕ) (chosen : List Bool) where
  -- the number is that of the column down to a depth
  abbrev IsNumberOf : ℕ → ℕ → ℕ → ℕ → Type 0
  IsNumberOf depth i j n = (k : ℤ) → bits n k ≡ column_to depth f sizes chosen i j k

  number_to : (i j depth : ℕ) → depth ≤ 64 → (n : ℕ) × IsNumberOf depth i j n
  number_to i j zero l = (0, none)
    where
      none : IsNumberOf zero i j 0
      none (negsuc k) = refl
      none (pos k) = empty_bits (pos k) ∙ ap (λ b. b && slice_index_or chosen (place_in sizes (grid_cell_in f sizes i j k)) false) (sym (le-ltb k zero (omega arith)))
  number_to i j (suc depth) l = more (number_to i j depth (omega arith)) (slice_index_or chosen (place_in sizes (grid_cell_in f sizes i j depth)) false) refl
    where
      next : depth + 1 ≡ suc depth
      next = omega arith

      more : (n : ℕ) × IsNumberOf depth i j n → (here : Bool) → slice_index_or chosen (place_in sizes (grid_cell_in f sizes i j depth)) false ≡ here
          → (n : ℕ) × IsNumberOf (suc depth) i j n
      more (n, so_far) true e =
          let m : ℕ = bit_or n (1 * 2 ^ depth % 2 ^ 64) in
          (m, subst (λ (d : ℕ). IsNumberOf d i j m) next (full_depth f sizes chosen i j depth n so_far (omega arith) e))
      more (n, so_far) false e = (n, subst (λ (d : ℕ). IsNumberOf d i j n) next (empty_depth f sizes chosen i j depth n so_far e))

  -- and so is that of each column beside a line
  module _ (few : sizes f.away.axis ≤ 64) (upright : Bool) (start : ℕ) where
    beside : (line : ℕ) → (n : ℕ) × IsColumnBeside f sizes chosen upright start line n
    beside line = elim (cases_lt line (sizes (across f upright).axis)) as (λ _. (n : ℕ) × IsColumnBeside f sizes chosen upright start line n) [
      | inl l ↦
          let n = number_to (across_of upright line start) (along_of upright line start) (sizes f.away.axis) few in
          (n.0, record { inside = λ _. n.1; outside = λ beyond. absurd (omega arith) })
      | inr beyond ↦ (0, beyond_lines f sizes chosen upright start line beyond)
    ]

    pub columns_beside : (line : ℕ) → (after before : ℕ) × AreColumnsBeside f sizes chosen upright start line after before
    columns_beside zero = let n = beside zero in (n.0, 0, record { after_is = n.1; before_first = λ _. refl; before_is = λ l e. absurd (omega arith) })
    columns_beside (suc line) =
        let n = beside (suc line) in let m = beside line in (
          n.0,
          m.0,
          record {
            after_is = n.1;
            before_first = λ e. absurd (omega arith);
            before_is = λ l e. let same : line ≡ l = omega arith in subst (λ (x : ℕ). IsColumnBeside f sizes chosen upright start x m.0) same m.1;
          },
        )
