-- Two rounds that begin at their least points, and both at the same one, begin with the same side.
use Rattle.std.proofs.Common.{◌≡◌, inl, Bool, ℕ, IsTrue, refl}
use Rattle.solid_model.specs.declared.cell.Cell.{Cell}
use Rattle.lemmas.specs.Lists.{Member}
use Rattle.solid_model.specs.Orders.{ComesBefore}
use Rattle.solid_model.specs.Rounds.{Spot, Side, end_of, is_border, following, further, round_sides}
use Rattle.face_laws.proofs.LeastSides.{KeepsOrder, GoesDown, one_down, comes_down}

module _ (squares : Spot → Bool) (there : Spot → Cell) (keeps : KeepsOrder there) where
  -- a round from this side ends, with it, at its least point
  pub record EndsLeast (s : Side) : Type 0 where
    pub length : ℕ
    pub border : IsTrue (is_border squares s)
    pub back : further squares length (following squares s) ≡ s
    pub least : (t : Side) → Member (round_sides squares s length) t → ComesBefore (there (end_of t)) (there (end_of s)) → ⊥

  -- the side comes down to its end
  down : (s : Side) → EndsLeast s → GoesDown s.heading
  down s is = comes_down squares there keeps s is.length is.border is.back is.least s (inl refl) refl

  -- so the two are one
  pub one_least_end : (s t : Side) → EndsLeast s → EndsLeast t → end_of s ≡ end_of t → s ≡ t
  one_least_end s t is is_too = one_down squares s t is.border is_too.border (down s is) (down t is_too)
