-- Drawings that stay on a grid and give its segments the same styles are the same.
use Rattle.std.proofs.Common.{◌≡◌, ◌⊎◌, inl, inr, ⊎_elim, Bool, true, false, ℕ, zero, suc, ◌-◌, List, [], ◌∷◌, ◌++◌, length, map, take, drop, ℤ, ◌<ℤ◌, int_lt, int_le, int_eq, IsTrue, refl, ap, sym, subst, ◌∙◌, arith}
use Rattle.std.specs.List.{flat_map}
use Rattle.std.proofs.Math.Seq.{take-append_seam, drop-append_seam}
use Rattle.std.proofs.lemmas.Bool.{false≢true, and_parts, and_from}
use Rattle.std.proofs.lemmas.Bool.Decides.{Decides-int_eq}
use Rattle.std.proofs.lemmas.Int.{ints}
use Rattle.std.proofs.lemmas.List.{length-map}
use Rattle.solid_model.specs.declared.cell.Axis.{Axis}
use Rattle.solid_model.specs.declared.frame.View.{View}
use Rattle.solid_model.specs.declared.segment.Segment.{Segment}
use Rattle.solid_model.specs.declared.segment.Style.{Style}
use Rattle.solid_model.specs.Frames.{frame_of, along, across}
use Rattle.solid_model.specs.Grid.{Coordinates, is_in_gap, IsInSomeGap}
use Rattle.lemmas.specs.Lists.{Member, Ascends}
use Rattle.solid_model.specs.Panels.{starts_of, grid_styles}
use Rattle.solid_model.proofs.OnGrid.{StaysOnGrid}
use Rattle.solid_model.specs.Segments.{segment_at}
use Rattle.solid_model.proofs.InGrid.{gap_or_none}

-- ---- lists

-- an integer is a member of a list or isn't
pub member_or_not : (zs : List ℤ) (z : ℤ) → Member zs z ⊎ (Member zs z → ⊥)
member_or_not [] z = inr (λ k. k)
member_or_not (a ∷ zs) z = by (int_eq a z) refl (member_or_not zs z)
  where
    by : (t : Bool) → int_eq a z ≡ t → Member zs z ⊎ (Member zs z → ⊥) → Member (a ∷ zs) z ⊎ (Member (a ∷ zs) z → ⊥)
    by true e later = inl (inl ((Decides-int_eq a z).0 e))
    by false e (inl k) = inl (inr k)
    by false e (inr none) = inr (λ k. ⊎_elim {C = ⊥} (λ same. absurd (false≢true (sym e ∙ (Decides-int_eq a z).1 same))) none k)

-- what two maps make of a list is made of each member
same_map : {A : Type 0} (f g : ℤ → A) (xs : List ℤ) → map f xs ≡ map g xs → (x : ℤ) → Member xs x → f x ≡ g x
same_map f g [] same x k = absurd k
same_map {A} f g (y ∷ xs) same x (inl e) = subst (λ z. f z ≡ g z) e (ap (first_or (f y)) same)
  where
    first_or : A → List A → A
    first_or other [] = other
    first_or other (z ∷ zs) = z
same_map f g (y ∷ xs) same x (inr k) = same_map f g xs (ap (drop 1) same) x k

-- lists of the same lengths that make one list are the same
same_parts : (f g : ℤ → List Style) → ((x : ℤ) → length (f x) ≡ length (g x)) → (xs : List ℤ) → flat_map f xs ≡ flat_map g xs
    → (x : ℤ) → Member xs x → f x ≡ g x
same_parts f g long [] same x k = absurd k
same_parts f g long (y ∷ xs) same x k = ⊎_elim {C = f x ≡ g x} (λ e. subst (λ z. f z ≡ g z) e first) (same_parts f g long xs rest x) k
  where
    first : f y ≡ g y
    first = sym (take-append_seam (f y) (flat_map f xs)) ∙ ap (take (length (f y))) same
        ∙ ap (λ n. take n (g y ++ flat_map g xs)) (long y) ∙ take-append_seam (g y) (flat_map g xs)

    rest : flat_map f xs ≡ flat_map g xs
    rest = sym (drop-append_seam (f y) (flat_map f xs)) ∙ ap (drop (length (f y))) same
        ∙ ap (λ n. drop n (g y ++ flat_map g xs)) (long y) ∙ drop-append_seam (g y) (flat_map g xs)

-- ---- where grid segments begin

-- with one coordinate more before the others one segment more begins, at it
pub starts_more : (a b : ℤ) (zs : List ℤ) → starts_of (a ∷ b ∷ zs) ≡ a ∷ starts_of (b ∷ zs)
starts_more a b zs =
    let p : length (a ∷ b ∷ zs) - 1 ≡ suc (length zs) = omega arith in
    let q : length (b ∷ zs) - 1 ≡ length zs = omega arith in
    ap (λ n. take n (a ∷ b ∷ zs)) p ∙ sym (ap (λ n. a ∷ take n (b ∷ zs)) q)

-- a gap begins at a place of its own, at which a grid segment begins
pub gap_start : (zs : List ℤ) (n : ℕ) (z : ℤ) → IsTrue (is_in_gap zs n z) → (m : ℤ) × Member (starts_of zs) m × IsTrue (is_in_gap zs n m)
gap_start [] n z e = absurd (false≢true e)
gap_start (a ∷ []) n z e = absurd (false≢true e)
gap_start (a ∷ b ∷ zs) zero z e =
    let parts = and_parts (int_le a z) (int_lt z b) e in (
      a,
      subst (λ ws. Member ws a) (sym (starts_more a b zs)) (inl refl),
      and_from (int_le a a) (int_lt a b) (grind (arith, ints)) (let p : a <ℤ b = omega (arith, ints, parts.0, parts.1) in grind (arith, ints)),
    )
gap_start (a ∷ b ∷ zs) (suc n) z e =
    let rest = gap_start (b ∷ zs) n z e in
    (rest.0, subst (λ ws. Member ws rest.0) (sym (starts_more a b zs)) (inr rest.1), rest.2)

-- ---- two drawings

module _ (coordinates : Coordinates) (ascends : (a : Axis) → Ascends ◌<ℤ◌ (coordinates a)) (drawing other : Segment → Style)
    (stays : StaysOnGrid coordinates drawing) (stays_too : StaysOnGrid coordinates other)
    (v : View) (same : (upright : Bool) → grid_styles drawing coordinates v upright ≡ grid_styles other coordinates v upright) where
  -- at the first unit segment of each grid segment
  same_at_start : (upright : Bool) (start line : ℤ) → Member (starts_of (coordinates (along (frame_of v) upright).axis)) start
      → Member (coordinates (across (frame_of v) upright).axis) line → drawing (segment_at v upright start line) ≡ other (segment_at v upright start line)
  same_at_start upright start line at_start at_line =
      let starts = starts_of (coordinates (along (frame_of v) upright).axis) in
      same_map (λ z. drawing (segment_at v upright z line)) (λ z. other (segment_at v upright z line)) starts
      (same_parts (λ l. map (λ z. drawing (segment_at v upright z l)) starts) (λ l. map (λ z. other (segment_at v upright z l)) starts)
      (λ l. length-map starts (λ z. drawing (segment_at v upright z l)) ∙ sym (length-map starts (λ z. other (segment_at v upright z l))))
      (coordinates (across (frame_of v) upright).axis) (same upright) line at_line) start at_start

  -- and so everywhere
  same_at : (upright : Bool) (start line : ℤ) → drawing (segment_at v upright start line) ≡ other (segment_at v upright start line)
  same_at upright start line = ⊎_elim on_line off_line (member_or_not (coordinates (across (frame_of v) upright).axis) line)
    where
      off_line : (Member (coordinates (across (frame_of v) upright).axis) line → ⊥) → drawing (segment_at v upright start line) ≡ other (segment_at v upright start line)
      off_line none = stays.off_lines v upright start line none ∙ sym (stays_too.off_lines v upright start line none)

      in_gap : Member (coordinates (across (frame_of v) upright).axis) line → IsInSomeGap (coordinates (along (frame_of v) upright).axis) start
          → drawing (segment_at v upright start line) ≡ other (segment_at v upright start line)
      in_gap at_line (n, at) =
          let first = gap_start (coordinates (along (frame_of v) upright).axis) n start at in
          stays.steady v upright n start first.0 line at first.2
          ∙ same_at_start upright first.0 line first.1 at_line
          ∙ sym (stays_too.steady v upright n start first.0 line at first.2)

      in_no_gap : (IsInSomeGap (coordinates (along (frame_of v) upright).axis) start → ⊥) → drawing (segment_at v upright start line) ≡ other (segment_at v upright start line)
      in_no_gap none = stays.off_ends v upright start line none ∙ sym (stays_too.off_ends v upright start line none)

      on_line : Member (coordinates (across (frame_of v) upright).axis) line → drawing (segment_at v upright start line) ≡ other (segment_at v upright start line)
      on_line at_line = ⊎_elim (in_gap at_line) in_no_gap (gap_or_none (coordinates (along (frame_of v) upright).axis) (ascends (along (frame_of v) upright).axis) start)

  -- so the drawings are the same everywhere in the view
  pub same_everywhere : (g : Segment) → g.view ≡ v → drawing g ≡ other g
  same_everywhere g of = subst (λ w. drawing (record { view = w; upright = g.upright; right = g.right; up = g.up }) ≡ other (record { view = w; upright = g.upright; right = g.right; up = g.up }))
      (sym of) (by g.upright g.right g.up)
    where
      by : (upright : Bool) (right up : ℤ) → drawing (record { view = v; upright = upright; right = right; up = up }) ≡ other (record { view = v; upright = upright; right = right; up = up })
      by true right up = same_at true up right
      by false right up = same_at false right up
