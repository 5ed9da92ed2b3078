-- The first gap behind a plane tells what stands behind it.
use Rattle.std.proofs.Common.{◌≡◌, inl, inr, Bool, true, false, ℕ, suc, ◌+◌, ◌-◌, ◌<◌, ◌≤◌, List, length, ℤ, pos, ◌-ℤ◌, ◌≤ℤ◌, ◌<ℤ◌, refl, sym, subst, arith}
use Rattle.std.proofs.lemmas.Bool.{cases_lt}
use Rattle.std.proofs.lemmas.Int.{ints, by_lt_z}
use Rattle.lemmas.specs.Lists.{Ascends}
use Rattle.solid_model.specs.Grid.{is_in_gap}
use Rattle.solid_model.proofs.Gaps.{member, lies_in, in_gap, earlier_at_most, begins_gap, ends_gap}
use Rattle.section_laws.specs.CutGaps.{EndsBehind, IsFirstGap, ReachesPlane, gap_at}
use Rattle.section_laws.specs.Shaded.{IsNoFarther}

-- the cell that begins at this coordinate stands behind the plane at that one
abbrev pub StandsBehind : Bool → ℤ → ℤ → Type 0
StandsBehind true plane z = plane ≤ℤ z
StandsBehind false plane z = z <ℤ plane

-- the cell that the plane touches
abbrev pub cell_behind : Bool → ℤ → ℤ
cell_behind true plane = plane
cell_behind false plane = plane -ℤ pos 1

module _ (zs : List ℤ) (ascends : Ascends ◌<ℤ◌ zs) where
  -- what stands behind the plane lies in a gap that ends behind it
  pub behind_ends : (forward : Bool) (plane z : ℤ) (m : ℕ) → is_in_gap zs m z ≡ true → StandsBehind forward plane z → EndsBehind forward zs plane m
  behind_ends true plane z m inside behind = let at = lies_in zs m z inside in omega (arith, ints, at.high)
  behind_ends false plane z m inside behind = let at = lies_in zs m z inside in omega (arith, ints, at.low)

  -- the plane lies in the first gap that ends behind it, where that doesn't begin behind it too
  pub reached_there : (forward : Bool) (plane : ℤ) (n : ℕ) → IsFirstGap forward zs plane n → ReachesPlane forward zs plane n → is_in_gap zs n (cell_behind forward plane) ≡ true
  reached_there true plane n first near = in_gap zs n plane first.within near first.behind
  reached_there false plane n first near = in_gap zs n (plane -ℤ pos 1) first.within (let l = first.behind in omega (arith, ints)) (omega (arith, ints))

  pub there_reached : (forward : Bool) (plane : ℤ) (n : ℕ) → is_in_gap zs n (cell_behind forward plane) ≡ true → ReachesPlane forward zs plane n
  there_reached true plane n inside = (lies_in zs n plane inside).low
  there_reached false plane n inside = let at = lies_in zs n (plane -ℤ pos 1) inside in omega (arith, ints, at.high)

  -- A plane in the first gap that ends behind the other one: the same cells of the grid stand behind both.
  pub record CutsAlike (forward : Bool) (plane : ℤ) (n : ℕ) : Type 0 where
    pub other : ℤ
    pub there : is_in_gap zs n (cell_behind forward other) ≡ true
    pub behind : (z : ℤ) (m : ℕ) → is_in_gap zs m z ≡ true → StandsBehind forward plane z → StandsBehind forward other z
    pub back : (z : ℤ) (m : ℕ) → is_in_gap zs m z ≡ true → StandsBehind forward other z → StandsBehind forward plane z

  -- the plane itself
  itself : (forward : Bool) (plane : ℤ) (n : ℕ) → IsFirstGap forward zs plane n → ReachesPlane forward zs plane n → CutsAlike forward plane n
  itself forward plane n first near = record { other = plane; there = reached_there forward plane n first near; behind = λ z m inside h. h; back = λ z m inside h. h }

  -- or that at the gap's near end
  pub cuts_alike : (forward : Bool) (plane : ℤ) (n : ℕ) → IsFirstGap forward zs plane n → CutsAlike forward plane n
  cuts_alike true plane n first = by_lt_z plane (member zs n)
      (λ before. record {
        other = member zs n;
        there = begins_gap zs ascends n first.within;
        behind = λ z m inside h.
            let at = lies_in zs m z inside in
            let order = earlier_at_most zs ascends n m (first.first m at.within (behind_ends true plane z m inside h)) (omega (arith, at.within)) in
            omega (arith, ints, at.low);
        back = λ z m inside h. omega (arith, ints);
      })
      (λ near. itself true plane n first near)
  cuts_alike false plane n first = by_lt_z (member zs (suc n)) plane
      (λ before. record {
        other = member zs (suc n);
        there = ends_gap zs ascends n first.within;
        behind = λ z m inside h.
            let at = lies_in zs m z inside in
            let less = first.first m at.within (behind_ends false plane z m inside h) in
            let order = earlier_at_most zs ascends (suc m) (suc n) (omega (arith, less)) first.within in
            omega (arith, ints, at.high);
        back = λ z m inside h. omega (arith, ints);
      })
      (λ near. itself false plane n first near)

  -- where the first gap that ends behind the plane begins behind it too, the plane touches nothing
  pub touches_none : (forward : Bool) (plane : ℤ) (n m : ℕ) → IsFirstGap forward zs plane n → (ReachesPlane forward zs plane n → ⊥)
      → is_in_gap zs m (cell_behind forward plane) ≡ true → ⊥
  touches_none true plane n m first begins inside =
      let at = lies_in zs m plane inside in
      let order = earlier_at_most zs ascends n m (first.first m at.within (behind_ends true plane plane m inside (omega (arith, ints)))) (omega (arith, at.within)) in
      begins (omega (arith, ints, at.low))
  touches_none false plane n m first begins inside =
      let at = lies_in zs m (plane -ℤ pos 1) inside in
      let less = first.first m at.within (behind_ends false plane (plane -ℤ pos 1) m inside (omega (arith, ints))) in
      let order = earlier_at_most zs ascends (suc m) (suc n) (omega (arith, less)) first.within in
      begins (omega (arith, ints, at.high))

-- ---- places along the sight

pub gap_within : (forward : Bool) (gaps place : ℕ) → place < gaps → gap_at forward gaps place < gaps
gap_within true gaps place l = l
gap_within false gaps place l = omega arith

-- each gap stands at a place
pub place_of_gap : (forward : Bool) (gaps m : ℕ) → m < gaps → (place : ℕ) × (place < gaps) × (gap_at forward gaps place ≡ m)
place_of_gap true gaps m l = (m, l, refl)
place_of_gap false gaps m l = (gaps - (m + 1), omega arith, omega arith)

-- and those at later places aren't nearer
pub later_comes : (forward : Bool) (gaps p r : ℕ) → p ≤ r → r < gaps → IsNoFarther forward (gap_at forward gaps p) (gap_at forward gaps r)
later_comes true gaps p r l few = l
later_comes false gaps p r l few = omega arith

module _ (forward : Bool) (zs : List ℤ) (plane : ℤ) (gaps : ℕ) (same : gaps ≡ length zs - 1) where
  -- at the first place where a gap ends behind the plane stands the first one
  pub first_at_place : (place gap : ℕ) → place < gaps → gap ≡ gap_at forward gaps place → EndsBehind forward zs plane gap
      → ((p : ℕ) → p < place → EndsBehind forward zs plane (gap_at forward gaps p) → ⊥) → IsFirstGap forward zs plane gap
  first_at_place place gap few is behind none = record {
    within = (let l = gap_within forward gaps place few in omega arith);
    behind = behind;
    first = λ m within h.
        let at = place_of_gap forward gaps m (omega arith) in
        let here : EndsBehind forward zs plane (gap_at forward gaps at.0) = subst (EndsBehind forward zs plane) (sym at.2) h in
        elim (cases_lt at.0 place) as (λ _. IsNoFarther forward gap m) [
          | inl before ↦ absurd (none at.0 before here)
          | inr after ↦ subst (IsNoFarther forward gap) at.2 (subst (λ k. IsNoFarther forward k (gap_at forward gaps at.0)) (sym is) (later_comes forward gaps place at.0 after at.1))
        ];
  }

  -- where none does at any place, none does
  pub none_at_places : (place : ℕ) → gaps ≤ place → ((p : ℕ) → p < place → EndsBehind forward zs plane (gap_at forward gaps p) → ⊥)
      → (m : ℕ) → suc m < length zs → EndsBehind forward zs plane m → ⊥
  none_at_places place all none m within h =
      let at = place_of_gap forward gaps m (omega arith) in
      none at.0 (omega (arith, at.1)) (subst (EndsBehind forward zs plane) (sym at.2) h)
