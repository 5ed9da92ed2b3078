-- A drawing of three views has a grid: it can't be that an axis has no list of its grid coordinates.
use Rattle.std.proofs.Common.{◌≡◌, ◌≢◌, ⊎_elim, Bool, true, false, not, ℕ, zero, suc, List, [], ◌∷◌, ◌++◌, ℤ, pos, ◌-ℤ◌, ◌≤ℤ◌, ◌<ℤ◌, refl, sym, subst, ◌∙◌, arith}
use Rattle.std.proofs.lemmas.Int.{ints, by_lt_z}
use Rattle.solid_model.specs.declared.cell.Axis.{Axis}
use Rattle.solid_model.specs.declared.frame.View.{View}
use Rattle.solid_model.specs.declared.segment.Segment.{Segment}
use Rattle.solid_model.specs.declared.segment.Style.{Style}
use Rattle.solid_model.specs.declared.segment.Style.TheVariants.{Blank}
use Rattle.solid_model.specs.Grid.{IsDrawnAcross, ChangesAt, IsGridCoordinate, AreGridCoordinates}
use Rattle.lemmas.specs.Lists.{Member, Ascends}
use Rattle.solid_model.specs.Runs.{IsDrawing}
use Rattle.solid_model.specs.Segments.{segment_at}
use Rattle.solid_model.proofs.InGrid.{blank_or_drawn}
use Rattle.lemmas.proofs.Lists.{each-from, ascends-append, member-append_left, member-push, member-push_last}

module _ (drawing : Segment → Style) (is : IsDrawing drawing) where
  -- where a segment is drawn, its line and its beginning lie between 0 and the farthest coordinate
  pub record LiesNear (start line : ℤ) : Type 0 where
    pub from : pos 0 ≤ℤ start
    pub to : start <ℤ pos 2000000000
    pub line_from : pos 0 ≤ℤ line
    pub line_to : line ≤ℤ pos 2000000000

  -- what is drawn lies near
  pub drawn_near : (v : View) (upright : Bool) (start line : ℤ) → drawing (segment_at v upright start line) ≢ Blank → LiesNear start line
  drawn_near v true start line drawn =
      let begins = (is.begins v (segment_at v true start line, refl, drawn)).stands_from (segment_at v true start line) refl drawn in
      let ends = is.near (segment_at v true start line) drawn in
      record { from = begins.1; to = omega (arith, ints, ends.1); line_from = begins.0; line_to = ends.0 }
  drawn_near v false start line drawn =
      let begins = (is.begins v (segment_at v false start line, refl, drawn)).stands_from (segment_at v false start line) refl drawn in
      let ends = is.near (segment_at v false start line) drawn in
      record { from = begins.0; to = omega (arith, ints, ends.0); line_from = begins.1; line_to = ends.1 }

  -- a grid coordinate lies there too
  pub coordinate_near : (a : Axis) (z : ℤ) → IsGridCoordinate drawing a z → (pos 0 ≤ℤ z) × (z ≤ℤ pos 2000000000)
  coordinate_near a z (v, upright, shows, at) = ⊎_elim across changes at
    where
      across : IsDrawnAcross drawing v upright z → (pos 0 ≤ℤ z) × (z ≤ℤ pos 2000000000)
      across (start, drawn) = let near = drawn_near v (not upright) start z drawn in (near.line_from, near.line_to)

      changes : ChangesAt drawing v upright z → (pos 0 ≤ℤ z) × (z ≤ℤ pos 2000000000)
      changes (line, differ) = ⊎_elim
          (λ blank. ⊎_elim (λ blank_too. absurd (differ (blank ∙ sym blank_too)))
          (λ drawn. let near = drawn_near v upright z line drawn in (near.from, omega (arith, ints, near.to))) (blank_or_drawn (drawing (segment_at v upright z line))))
          (λ drawn. let near = drawn_near v upright (z -ℤ pos 1) line drawn in (omega (arith, ints, near.from), omega (arith, ints, near.to)))
          (blank_or_drawn (drawing (segment_at v upright (z -ℤ pos 1) line)))

  -- the grid coordinates below n
  record AreBelow (a : Axis) (n : ℕ) (zs : List ℤ) : Type 0 where
    ordered : Ascends ◌<ℤ◌ zs
    each : (z : ℤ) → Member zs z → IsGridCoordinate drawing a z × (z <ℤ pos n)
    complete : (z : ℤ) → IsGridCoordinate drawing a z → z <ℤ pos n → Member zs z

  -- it can't be that there is no list of them
  some_below : (a : Axis) (n : ℕ) → ((zs : List ℤ) → AreBelow a n zs → ⊥) → ⊥
  some_below a zero never = never [] (record {
    ordered = tt;
    each = λ z k. absurd k;
    complete = λ z at below. absurd (let near = coordinate_near a z at in omega (arith, ints, near.0));
  })
  some_below a (suc n) never = some_below a n (λ zs below.
      let no : IsGridCoordinate drawing a (pos n) → ⊥ = λ at. never (zs ++ pos n ∷ []) (with_last zs below at) in
      never zs (record {
        ordered = below.ordered;
        each = λ z k. let h = below.each z k in (h.0, let l = h.1 in omega (arith, ints));
        complete = λ z at l. by_lt_z z (pos n) (below.complete z at) (λ m. let same : z ≡ pos n = omega (arith, ints) in absurd (no (subst (IsGridCoordinate drawing a) same at)));
      }))
    where
      with_last : (zs : List ℤ) → AreBelow a n zs → IsGridCoordinate drawing a (pos n) → AreBelow a (suc n) (zs ++ pos n ∷ [])
      with_last zs below at = record {
        ordered = ascends-append ◌<ℤ◌ zs (pos n ∷ []) below.ordered (tt, tt) (each-from _ zs (λ z k. ((below.each z k).1, tt)));
        each = λ z k. ⊎_elim (λ l. let h = below.each z l in (h.0, let m = h.1 in omega (arith, ints)))
            (λ same. (subst (IsGridCoordinate drawing a) same at, omega (arith, ints))) (member-push zs (pos n) z k);
        complete = λ z is_at l. by_lt_z z (pos n) (λ m. member-append_left zs (pos n ∷ []) z (below.complete z is_at m))
            (λ m. let same : pos n ≡ z = omega (arith, ints) in subst (Member (zs ++ pos n ∷ [])) same (member-push_last zs (pos n)));
      }

  -- it can't be that an axis has no list of grid coordinates
  pub some_coordinates : (a : Axis) → ((zs : List ℤ) → AreGridCoordinates drawing a zs → ⊥) → ⊥
  some_coordinates a never = some_below a 2000000001 (λ zs below. never zs (record {
    ordered = below.ordered;
    exact = λ z. ((λ k. (below.each z k).0), (λ at. below.complete z at (let near = coordinate_near a z at in omega (arith, ints, near.1))));
  }))
