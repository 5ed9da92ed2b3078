-- Of each union of grid cells it is decided what a plane leaves: nothing, or what the solid of some grid cells draws.
use Rattle.std.proofs.Common.{◌≡◌, ◌⊎◌, inl, inr, Bool, true, false, ℕ, zero, suc, ◌+◌, ◌-◌, ◌<◌, ◌≤◌, List, length, slice_index_or, ℤ, pos, ◌<ℤ◌, IsTrue, refl, sym, subst, ◌∙◌, arith}
use Rattle.std.proofs.lemmas.Bool.{cases_lt, false≢true}
use Rattle.std.proofs.lemmas.Int.{ints, by_lt_z}
use Rattle.lemmas.specs.Lists.{Ascends}
use Rattle.lemmas.proofs.Decisions.{IsDecided, below_next, some_or_none}
use Rattle.solid_model.specs.declared.cell.Axis.{Axis}
use Rattle.solid_model.specs.declared.frame.Direction.{Direction}
use Rattle.solid_model.specs.declared.frame.Frame.{Frame}
use Rattle.solid_model.specs.Frames.{IsFrame}
use Rattle.solid_model.specs.Grid.{Coordinates, GridCell, gaps_along}
use Rattle.solid_model.specs.GridPlaces.{place_in}
use Rattle.solid_model.specs.PerAxis.{numbered}
use Rattle.section_laws.specs.CutGaps.{EndsBehind, IsFirstGap, ReachesPlane}
use Rattle.section_laws.specs.LeftCells.{DrawsWhatIsLeft, LeavesNothing}
use Rattle.section_laws.specs.Shaded.{AreLeftCells, ChoosesWhere, IsInSlab, IsLeftCell, IsNoFarther, IsShaded}
use Rattle.section_laws.proofs.LeftCells.{kept_draw, none_kept, nothing_left}
use Rattle.six_views.proofs.Decided.{as_decided, both_decided, test_decided, told, told_is}
use Rattle.six_views.proofs.SeenTurned.{some_list}

-- ---- the first gap behind a plane

less_decided : (y z : ℤ) → IsDecided (y <ℤ z)
less_decided y z = by_lt_z y z (λ l. inl l) (λ m. inr (λ l. omega (arith, ints)))

ends_decided : (forward : Bool) (zs : List ℤ) (plane : ℤ) (m : ℕ) → IsDecided (EndsBehind forward zs plane m)
ends_decided true zs plane m = less_decided plane (slice_index_or zs (suc m) (pos 0))
ends_decided false zs plane m = less_decided (slice_index_or zs m (pos 0)) plane

reaches_decided : (forward : Bool) (zs : List ℤ) (plane : ℤ) (m : ℕ) → IsDecided (ReachesPlane forward zs plane m)
reaches_decided true zs plane m = by_lt_z plane (slice_index_or zs m (pos 0)) (λ l. inr (λ m. omega (arith, ints))) (λ m. inl m)
reaches_decided false zs plane m = by_lt_z (slice_index_or zs (suc m) (pos 0)) plane (λ l. inr (λ m. omega (arith, ints))) (λ m. inl m)

-- of the gaps of which something holds, one is the first along the sight
module _ (P : ℕ → Type 0) (decided : (m : ℕ) → IsDecided (P m)) where
  abbrev IsFirst : Bool → ℕ → ℕ → Type 0
  IsFirst forward count n = (n < count) × P n × ((m : ℕ) → m < count → P m → IsNoFarther forward n m)

  some_least : (count : ℕ) → ((n : ℕ) × IsFirst true count n) ⊎ ((m : ℕ) → m < count → P m → ⊥)
  some_least zero = inr (λ m l p. omega arith)
  some_least (suc count) = by (some_least count) (decided count)
    where
      by : ((n : ℕ) × IsFirst true count n) ⊎ ((m : ℕ) → m < count → P m → ⊥) → IsDecided (P count)
          → ((n : ℕ) × IsFirst true (suc count) n) ⊎ ((m : ℕ) → m < suc count → P m → ⊥)
      by (inl (n, (l, p, least))) here = inl (n, (omega arith, p, (λ m k q. elim (cases_lt m count) as (λ _. n ≤ m) [ inl less ↦ least m less q | inr last ↦ omega arith ])))
      by (inr none) (inl p) = inl (count, (omega arith, p, (λ m k q. elim (cases_lt m count) as (λ _. count ≤ m) [ inl less ↦ absurd (none m less q) | inr last ↦ last ])))
      by (inr none) (inr not_here) = inr (λ m k q. elim (below_next m count k) as (λ _. ⊥) [ inl less ↦ none m less q | inr same ↦ not_here (subst P (sym same) q) ])

  some_greatest : (count : ℕ) → ((n : ℕ) × IsFirst false count n) ⊎ ((m : ℕ) → m < count → P m → ⊥)
  some_greatest zero = inr (λ m l p. omega arith)
  some_greatest (suc count) = by (some_greatest count) (decided count)
    where
      by : ((n : ℕ) × IsFirst false count n) ⊎ ((m : ℕ) → m < count → P m → ⊥) → IsDecided (P count)
          → ((n : ℕ) × IsFirst false (suc count) n) ⊎ ((m : ℕ) → m < suc count → P m → ⊥)
      by some (inl p) = inl (count, (omega arith, p, (λ m k q. omega arith)))
      by (inl (n, (l, p, greatest))) (inr not_here) = inl (
        n,
        (
          omega arith,
          p,
          (λ m k q.
              elim (below_next m count k) as (λ _. m ≤ n) [ inl less ↦ greatest m less q | inr same ↦ absurd (not_here (subst P (sym same) q)) ]),
        ),
      )
      by (inr none) (inr not_here) = inr (λ m k q. elim (below_next m count k) as (λ _. ⊥) [ inl less ↦ none m less q | inr same ↦ not_here (subst P (sym same) q) ])

  pub some_first : (forward : Bool) (count : ℕ) → ((n : ℕ) × IsFirst forward count n) ⊎ ((m : ℕ) → m < count → P m → ⊥)
  some_first true count = some_least count
  some_first false count = some_greatest count

-- ---- lists of grid cells

no_farther_decided : (forward : Bool) (m n : ℕ) → IsDecided (IsNoFarther forward m n)
no_farther_decided true m n = elim (cases_lt n m) as (λ _. IsDecided (m ≤ n)) [ inl less ↦ inr (λ l. omega arith) | inr least ↦ inl least ]
no_farther_decided false m n = elim (cases_lt m n) as (λ _. IsDecided (n ≤ m)) [ inl less ↦ inr (λ l. omega arith) | inr least ↦ inl least ]

same_number_decided : (m n : ℕ) → IsDecided (m ≡ n)
same_number_decided m n = as_decided ((m ≤ n) × (n ≤ m)) (m ≡ n) (λ h. let l = h.0 in let k = h.1 in omega arith) (λ e. (omega arith, omega arith))
    (both_decided (m ≤ n) (n ≤ m) (no_farther_decided true m n) (no_farther_decided true n m))

-- what is no farther than one number and no nearer than another is less than both and one more
few_between : (forward : Bool) (first m n : ℕ) → IsNoFarther forward first m → IsNoFarther forward m n → m < suc (first + n)
few_between true first m n p r = omega arith
few_between false first m n p r = omega arith

-- there is a list of the grid cells of which something holds that is decided
some_chosen : (coordinates : Coordinates) (P : GridCell → Type 0) → ((n : GridCell) → IsDecided (P n)) → (xs : List Bool) × ChoosesWhere coordinates P xs
some_chosen coordinates P decided =
    let made = some_list (gaps_along coordinates) (λ n. told (P n) (decided n)) in (
      made.0,
      λ n within.
          let is = told_is (P n) (decided n) in
          ((λ e. is.0 (sym (made.1 n within) ∙ e)), (λ p. made.1 n within ∙ is.1 p)),
    )

module _ (d : Direction) (sizes : Axis → ℕ) (chosen : List Bool) (first : ℕ) (n : GridCell) where
  abbrev chosen_at : ℕ → Bool
  chosen_at m = slice_index_or chosen (place_in sizes (numbered d.axis m n)) false

  abbrev Lit : ℕ → Type 0
  Lit m = IsNoFarther d.forward first m × IsNoFarther d.forward m (n d.axis) × (chosen_at m ≡ true)

  lit_decided : (m : ℕ) → IsDecided (Lit m)
  lit_decided m = as_decided (IsNoFarther d.forward first m × (IsNoFarther d.forward m (n d.axis) × (chosen_at m ≡ true))) (Lit m)
      (λ h. (h.0, h.1.0, h.1.1)) (λ h. (h.0, (h.1, h.2)))
      (both_decided (IsNoFarther d.forward first m) _ (no_farther_decided d.forward first m)
      (both_decided (IsNoFarther d.forward m (n d.axis)) _ (no_farther_decided d.forward m (n d.axis)) (test_decided (chosen_at m))))

  shaded_decided : IsDecided (IsShaded d sizes first chosen n)
  shaded_decided = by (some_or_none Lit (suc (first + n d.axis)) (λ m l. lit_decided m))
    where
      back : ((m : ℕ) → m < suc (first + n d.axis) → Lit m → ⊥) → IsShaded d sizes first chosen n → ⊥
      back none (m, p, r, on) = none m (few_between d.forward first m (n d.axis) p r) (p, r, on)

      by : ((m : ℕ) × (m < suc (first + n d.axis)) × Lit m) ⊎ ((m : ℕ) → m < suc (first + n d.axis) → Lit m → ⊥) → IsDecided (IsShaded d sizes first chosen n)
      by (inl (m, l, lit)) = inl (m, lit.0, lit.1, lit.2)
      by (inr none) = inr (back none)

  slab_decided : IsDecided (IsInSlab d sizes first chosen n)
  slab_decided = both_decided (n d.axis ≡ first) _ (same_number_decided (n d.axis) first) (test_decided _)

  left_decided : (area : Bool) → IsDecided (IsLeftCell area d sizes first chosen n)
  left_decided true = slab_decided
  left_decided false = shaded_decided

-- so there is a list of those that a gap leaves of chosen ones
pub some_left_cells : (area : Bool) (d : Direction) (coordinates : Coordinates) (gap : ℕ) (chosen : List Bool) → (kept : List Bool) × AreLeftCells area d coordinates gap chosen kept
some_left_cells area d coordinates gap chosen = some_chosen coordinates (IsLeftCell area d (gaps_along coordinates) gap chosen)
    (λ cell. left_decided d (gaps_along coordinates) chosen gap cell area)

-- ---- what is left

module _ (f : Frame) (is : IsFrame f) (coordinates : Coordinates) (ascends : (a : Axis) → Ascends ◌<ℤ◌ (coordinates a)) (chosen : List Bool) (plane : ℤ) where
  abbrev zs : List ℤ
  zs = coordinates f.away.axis

  abbrev forward : Bool
  forward = f.away.forward

  abbrev Left : Bool → Type 0
  Left area = ((kept : List Bool) × DrawsWhatIsLeft f coordinates chosen plane area kept) ⊎ LeavesNothing f coordinates chosen plane area

  abbrev Ends : ℕ → Type 0
  Ends = EndsBehind forward zs plane

  -- the first gap behind the plane holds something of what is left
  abbrev Holds : Bool → ℕ → Type 0
  Holds area n = IsTrue area → ReachesPlane forward zs plane n

  holds_decided : (area : Bool) (n : ℕ) → IsDecided (Holds area n)
  holds_decided true n = as_decided (ReachesPlane forward zs plane n) (Holds true n) (λ near e. near) (λ holds. holds refl) (reaches_decided forward zs plane n)
  holds_decided false n = inl (λ e. absurd (false≢true e))

  left_by_gap : (area : Bool) (n : ℕ) → IsFirstGap forward zs plane n → IsDecided (Holds area n) → Left area
  left_by_gap area n first (inl holds) =
      let made = some_left_cells area f.away coordinates n chosen in
      inl (made.0, kept_draw f is coordinates ascends chosen plane n first area holds made.0 made.1)
  left_by_gap area n first (inr none) = inr (none_kept f is coordinates ascends chosen plane n first area none)

  pub some_left : (area : Bool) → Left area
  some_left area = by (some_first Ends (ends_decided forward zs plane) forward (length zs - 1))
    where
      first_gap : (n : ℕ) → (n < length zs - 1) × Ends n × ((m : ℕ) → m < length zs - 1 → Ends m → IsNoFarther forward n m) → IsFirstGap forward zs plane n
      first_gap n (l, ends, first) = record { within = omega arith; behind = ends; first = λ m k e. first m (omega arith) e }

      by : ((n : ℕ) × ((n < length zs - 1) × Ends n × ((m : ℕ) → m < length zs - 1 → Ends m → IsNoFarther forward n m)))
          ⊎ ((m : ℕ) → m < length zs - 1 → Ends m → ⊥) → Left area
      by (inl (n, is_first)) = left_by_gap area n (first_gap n is_first) (holds_decided area n)
      by (inr none) = inr (nothing_left f is coordinates ascends chosen plane (λ m l e. none m (omega arith) e) area)
