-- The loops round squares of a plane, in order.
use Rattle.std.specs.Prelude.{◌≡◌, Bool, false, ◌&&◌, ◌||◌, ℕ, List, [], ◌∷◌, int_lt, IsTrue, if◌then◌else◌}
use Rattle.std.specs.Ordering.{int_eq}
use Rattle.lemmas.specs.Lists.{Member, Each, Ascends}
use Rattle.solid_model.specs.Rounds.{Spot, Side, left_square, IsRound, round_corners}

-- Points of a plane come in an order: by v, then u, where upwards counts first; else by u, then v.
abbrev pub is_spot_before : Bool → Spot → Spot → Bool
is_spot_before up_first p q =
    if up_first then (int_lt p.v q.v || (int_eq p.v q.v && int_lt p.u q.u)) else (int_lt p.u q.u || (int_eq p.u q.u && int_lt p.v q.v))

-- a loop round squares: one of the squares, which lies on its left, and its corners
pub record PlaneLoop : Type 0 where
  pub square : Spot
  pub corners : List Spot

-- each other corner comes after the first one
abbrev pub BeginsFirst : Bool → List Spot → Type 0
BeginsFirst up_first [] = ⊥
BeginsFirst up_first (p ∷ ps) = Each (λ q. IsTrue (is_spot_before up_first p q)) ps

-- it goes along a round from its first corner on, and the square is on the left of the side that comes to this corner
abbrev pub IsLoopRound : (Spot → Bool) → Bool → PlaneLoop → Type 0
IsLoopRound squares up_first l = (s : Side) × (n : ℕ) × IsRound squares s n × (l.square ≡ left_square s) × (l.corners ≡ round_corners squares s n)
    × BeginsFirst up_first l.corners

-- the first corner of a loop comes before that of another
abbrev pub first_corner_before : Bool → List Spot → List Spot → Bool
first_corner_before up_first (p ∷ ps) (q ∷ qs) = is_spot_before up_first p q
first_corner_before up_first _ _ = false

-- all loops round these squares, by their first corners
pub record ArePlaneLoops (squares : Spot → Bool) (up_first : Bool) (loops : List PlaneLoop) : Type 0 where
  pub each : Each (IsLoopRound squares up_first) loops
  pub ordered : Ascends (λ l m. IsTrue (first_corner_before up_first l.corners m.corners)) loops
  pub complete : (l : PlaneLoop) → IsLoopRound squares up_first l → Member loops l
