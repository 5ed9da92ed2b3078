-- The corners of loops round squares of a table have small coordinates.
use Rattle.std.proofs.Common.{◌≡◌, Bool, true, ℕ, suc, List, pos, ◌+ℤ◌, ◌<ℤ◌, ◌≤ℤ◌, sym, subst, arith}
use Rattle.std.proofs.lemmas.Bool.{and_parts}
use Rattle.std.proofs.lemmas.Int.{ints}
use Rattle.lemmas.specs.Lists.{Member, Each}
use Rattle.solid_model.specs.WalledBoxes.{is_below}
use Rattle.solid_model.specs.Rounds.{Spot, Heading, East, North, West, South, Side, end_of, left_square, round_sides}
use Rattle.face_laws.proofs.BoundarySquares.{border_left}
use Rattle.solid_model.proofs.BoxCells.{below-bounds}
use Rattle.face_laws.proofs.LeastSides.{corners_each}
use Rattle.lemmas.proofs.Lists.{each-at, each-from}
use Rattle.face_laws.proofs.SidesInOrder.{member-border}
use Rattle.faces.specs.Groups.{IsGroup, AreGroups}
use Rattle.faces.specs.PlaneFaces.{IsNearSpot, IsNearLoop}
use Rattle.faces.specs.PlaneLoops.{PlaneLoop, IsLoopRound}
use Rattle.faces.specs.PlaneSquares.{SquareTable, is_there}
use Rattle.faces.proofs.Grouping.{with_key-member}
use Rattle.faces.proofs.SquarePlaces.{there-parts}

-- a side ends at a corner of the square on its left
pub record EndsBeside (s : Side) : Type 0 where
  pub u_low : (left_square s).u ≤ℤ (end_of s).u
  pub u_high : (end_of s).u ≤ℤ ((left_square s).u +ℤ pos 1)
  pub v_low : (left_square s).v ≤ℤ (end_of s).v
  pub v_high : (end_of s).v ≤ℤ ((left_square s).v +ℤ pos 1)

pub ends_beside : (h : Heading) (p : Spot) → EndsBeside (record { start = p; heading = h })
ends_beside East p = record { u_low = omega (arith, ints); u_high = omega (arith, ints); v_low = omega (arith, ints); v_high = omega (arith, ints) }
ends_beside North p = record { u_low = omega (arith, ints); u_high = omega (arith, ints); v_low = omega (arith, ints); v_high = omega (arith, ints) }
ends_beside West p = record { u_low = omega (arith, ints); u_high = omega (arith, ints); v_low = omega (arith, ints); v_high = omega (arith, ints) }
ends_beside South p = record { u_low = omega (arith, ints); u_high = omega (arith, ints); v_low = omega (arith, ints); v_high = omega (arith, ints) }

module _ (t : SquareTable) where
  -- a square's coordinates are less
  less : (q : Spot) → is_there t q ≡ true → (q.u <ℤ pos 1024) × (q.v <ℤ pos 1024)
  less q there =
      let parts = and_parts (is_below 63 q.u) (is_below 63 q.v) (there-parts t q there).0 in
      let u = below-bounds 63 q.u parts.0 in let v = below-bounds 63 q.v parts.1 in
      (omega (arith, ints), omega (arith, ints))

  -- and so are those of the point where a side on whose left it lies ends
  end_near : (s : Side) → is_there t (left_square s) ≡ true → IsNearSpot (end_of s)
  end_near s there =
      let l = less (left_square s) there in let beside = ends_beside s.heading s.start in
      (omega (arith, ints, beside.u_high), omega (arith, ints, beside.v_high))

  loop_near : (up_first : Bool) (l : PlaneLoop) → IsLoopRound (is_there t) up_first l → IsNearLoop l
  loop_near up_first l (s, n, is, left, corners, begins) =
      subst (Each IsNearSpot) (sym corners) (corners_each (is_there t) IsNearSpot (round_sides (is_there t) s n) (λ r on.
      end_near r (border_left (is_there t) r (member-border (is_there t) (suc n) s r is.border on))))

  -- so are those of each loop of some groups
  pub groups_near : (up_first : Bool) (loops : List PlaneLoop) → Each (IsLoopRound (is_there t) up_first) loops
      → (key : PlaneLoop → ℕ) (groups : List (List PlaneLoop)) → AreGroups key loops groups → Each (Each IsNearLoop) groups
  groups_near up_first loops each key groups grouped =
      each-from (Each IsNearLoop) groups (λ g m.
      let (x, on, e) = each-at (IsGroup key loops) groups g grouped.each m in
      each-from IsNearLoop g (λ l k.
      let (l_on, same) = with_key-member key (key x) loops l (subst (λ h. Member h l) e k) in
      loop_near up_first l (each-at (IsLoopRound (is_there t) up_first) loops l each l_on)))
