-- What a run covers, told by where a place lies.
use Rattle.std.proofs.Common.{◌≡◌, ◌↔◌, Bool, true, false, ◌+◌, ◌*◌, ◌<◌, ◌/◌, ◌%◌, ℕ, List, slice_index_or, IsTrue, ℤ, pos, ◌<ℤ◌, sym, subst, ◌∙◌, arith}
use Rattle.std.proofs.lemmas.Bool.{false_from_ne_true}
use Rattle.std.proofs.lemmas.Int.{ints, by_lt_z}
use Rattle.std.proofs.lemmas.Nat.{div-mul-add, mod-mul-add, mul-add-lt}
use Rattle.std.proofs.Math.Nat.{mul_comm}
use Rattle.lemmas.proofs.Pushed.{HoldsSoFar}
use Rattle.solid_model.specs.declared.runs.Run.{Run}
use Rattle.solid_model.specs.declared.segment.Style.{Style}
use Rattle.solid_model.specs.declared.segment.Style.TheVariants.{Blank}
use Rattle.solid_model.specs.Runs.{run_covers, run_style}
use Rattle.solid_model.proofs.RunStyles.{covers_parts, covers_from}
use Rattle.six_views.proofs.Turned.{same_tests}

module _ (line place : ℤ) (r : Run) where
  pub other_line : ((line ≡ r.at) → ⊥) → false ≡ run_covers line place r
  other_line other = sym (false_from_ne_true (run_covers line place r) (λ e. let p = covers_parts line place r e in other (sym p.0)))

  pub too_early : place <ℤ r.from → false ≡ run_covers line place r
  too_early early = sym (false_from_ne_true (run_covers line place r) (λ e. let p = covers_parts line place r e in omega (arith, ints, p.1)))

  pub on_it : line ≡ r.at → (place <ℤ r.from → ⊥) → (t : Bool) → (IsTrue t ↔ (place <ℤ r.to)) → t ≡ run_covers line place r
  on_it same later t told = same_tests t (run_covers line place r)
      (λ e. subst (λ j. run_covers j place r ≡ true) (sym same)
      (covers_from r place (by_lt_z place r.from (λ l. absurd (later l)) (λ m. omega (arith, ints))) (told.0 e)))
      (λ e. let p = covers_parts line place r e in told.1 p.2)

-- styles by places are those of the cells of lines
module _ (lines ends : List ℤ) (runs : List Run) (w n : ℕ) (styles : List Style) where
  pub styles_of_places : (line_count cell_count : ℕ) → n ≡ line_count * w → w ≡ cell_count
      → HoldsSoFar (λ p style. style ≡ run_style runs (slice_index_or lines (p / w) (pos 0)) (slice_index_or ends (p % w) (pos 0))) styles n
      → (line cell : ℕ) → line < line_count → cell < cell_count
      → slice_index_or styles (line * cell_count + cell) Blank ≡ run_style runs (slice_index_or lines line (pos 0)) (slice_index_or ends cell (pos 0))
  styles_of_places line_count cell_count whole wide so_far line cell l m =
      subst (λ c. cell < c → slice_index_or styles (line * c + cell) Blank ≡ run_style runs (slice_index_or lines line (pos 0)) (slice_index_or ends cell (pos 0))) wide
      (λ less. so_far.each (line * w + cell) Blank (omega (arith, whole, mul-add-lt line w cell line_count l less, mul_comm w line_count))
      ∙ (λ t. run_style runs (slice_index_or lines (div-mul-add line w cell less t) (pos 0)) (slice_index_or ends (mod-mul-add line w cell less t) (pos 0)))) m
