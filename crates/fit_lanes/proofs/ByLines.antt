-- Lists by lines, and the bytes that they have at the points of a grid.
use Rattle.std.proofs.Common.{◌≡◌, Bool, true, false, if◌then◌else◌, ℕ, zero, suc, ◌+◌, ◌*◌, ◌/◌, ◌%◌, ◌<◌, ◌≤◌, List, length, slice_index_or, ap, sym, subst, ◌∙◌, arith}
use Rattle.std.proofs.lemmas.Bool.{lt-ltb}
use Rattle.std.proofs.lemmas.List.{ext_get_or}
use Rattle.std.proofs.lemmas.Nat.{div-add-mod', div_below, mod_below}
use Rattle.std.proofs.Math.Nat.{mul_comm}
use Rattle.solid_model.specs.declared.segment.Style.{Style}
use Rattle.solid_model.specs.declared.segment.Style.TheVariants.{Blank}
use Rattle.solid_model.specs.Segments.{along_of, across_of}
use Rattle.column_lanes.specs.Styles.{style_byte}
use Rattle.column_lanes.proofs.StyleBytes.{same_style}
use Rattle.fit_lanes.specs.Points.{point_byte, ArePointBytes}

-- where there is a place in lines of so many, they have some length
some_long : (p n w : ℕ) → p < n * w → 0 < w
some_long p n zero l = absurd (omega (arith, mul_comm n 0))
some_long p n (suc w) l = omega arith

-- a place is on a line, and on it
on_line : (p n w : ℕ) → p < n * w → (p / w < n) × ((p % w < w) × (p / w * w + p % w ≡ p))
on_line p n w l =
    let long = some_long p n w l in
    (div_below p w n long l, (mod_below p w long, div-add-mod' p w))

-- lists that are the same on each line are the same
pub same_by_lines : {A : Type 0} (d : A) (xs ys : List A) (n w : ℕ) → length xs ≡ n * w → length ys ≡ n * w
    → ((line cell : ℕ) → line < n → cell < w → slice_index_or xs (line * w + cell) d ≡ slice_index_or ys (line * w + cell) d) → xs ≡ ys
same_by_lines {A} d xs ys n w long long_too same = ext_get_or d xs ys (long ∙ sym long_too) (λ p l.
    let at = on_line p n w (omega arith) in
    subst (λ q. slice_index_or xs q d ≡ slice_index_or ys q d) at.1.1 (same (p / w) (p % w) at.0 at.1.0))

module _ (w h : ℕ) (upright : Bool) (styles others : List Style) (bytes more : List ℕ)
    (of : ArePointBytes w h upright styles bytes) (of_others : ArePointBytes w h upright others more) where
  -- the same styles have the same bytes,
  pub same_bytes : styles ≡ others → bytes ≡ more
  same_bytes same = same_by_lines 0 bytes more (h + 1) (w + 1) of.count of_others.count (λ j i m l.
      of.each i j (omega arith) (omega arith) ∙ ap (λ xs. point_byte w h upright xs i j) same ∙ sym (of_others.each i j (omega arith) (omega arith)))

  -- the byte of a cell of a line is that of its style
  byte_of_cell : (xs : List Style) (u : Bool) (line cell : ℕ) → cell < along_of u w h
      → point_byte w h u xs (across_of u line cell) (along_of u line cell) ≡ style_byte (slice_index_or xs (line * along_of u w h + cell) Blank)
  byte_of_cell xs true line cell l = ap (λ (b : Bool). if b then style_byte (slice_index_or xs (line * h + cell) Blank) else 0) (lt-ltb cell h l)
  byte_of_cell xs false line cell l = ap (λ (b : Bool). if b then style_byte (slice_index_or xs (line * w + cell) Blank) else 0) (lt-ltb cell w l)

  within_right : (u : Bool) (line cell : ℕ) → line < across_of u w h + 1 → cell < along_of u w h → across_of u line cell ≤ w
  within_right true line cell m l = omega arith
  within_right false line cell m l = omega arith

  within_up : (u : Bool) (line cell : ℕ) → line < across_of u w h + 1 → cell < along_of u w h → along_of u line cell ≤ h
  within_up true line cell m l = omega arith
  within_up false line cell m l = omega arith

  -- and the same bytes are those of the same styles
  pub same_styles : length styles ≡ (across_of upright w h + 1) * along_of upright w h → length others ≡ (across_of upright w h + 1) * along_of upright w h
      → bytes ≡ more → styles ≡ others
  same_styles long long_too same = same_by_lines Blank styles others (across_of upright w h + 1) (along_of upright w h) long long_too (λ line cell m l.
      let i : ℕ = across_of upright line cell in
      let j : ℕ = along_of upright line cell in
      let right = within_right upright line cell m l in
      let up = within_up upright line cell m l in
      same_style _ _ (sym (byte_of_cell styles upright line cell l) ∙ sym (of.each i j right up)
      ∙ ap (λ bs. slice_index_or bs (j * (w + 1) + i) 0) same ∙ of_others.each i j right up ∙ byte_of_cell others upright line cell l))
