-- A round of grid squares is a round of unit squares, with the same corners.
use Rattle.std.proofs.Common.{◌≡◌, inl, inr, Bool, true, false, if◌then◌else◌, ℕ, zero, suc, ◌+◌, ◌<◌, ◌≤◌, List, [], ◌∷◌, ◌++◌, map, ℤ, IsTrue, refl, sym, ◌∙◌, ap, ap₂, subst, arith}
use Rattle.face_laws.specs.GridRounds.{Rises, grid_point, AreSquaresOf, back_of, last_side}
use Rattle.lemmas.specs.Lists.{Member}
use Rattle.solid_model.specs.Rounds.{Spot, spot_after, Side, end_of, is_border, following, turns, further, sides_from, round_sides, IsRound, corners, round_corners}
use Rattle.face_laws.proofs.GridUnits.{most, unit, unit-next, first_border, last_end, last_border, last_turns, last_following, last_is, unit_one, unit_place}
use Rattle.lemmas.proofs.Lists.{member-append}
use Rattle.face_laws.proofs.SidesInOrder.{member-earlier, round-further}
use Rattle.face_laws.proofs.Turns.{same_side, step_back, step_forth, following_border}

-- so many, and then so many more
abbrev pub and_then : ℕ → ℕ → ℕ
and_then zero b = b
and_then (suc a) b = suc (and_then a b)

module _ (squares : Spot → Bool) where
  further-then : (a b : ℕ) (x : Side) → further squares (and_then a b) x ≡ further squares b (further squares a x)
  further-then zero b x = refl
  further-then (suc a) b x = further-then a b (following squares x)

  sides-then : (a b : ℕ) (x : Side)
      → sides_from squares (and_then a b) x ≡ sides_from squares a x ++ sides_from squares b (further squares a x)
  sides-then zero b x = refl
  sides-then (suc a) b x = ap (λ ss. x ∷ ss) (sides-then a b (following squares x))

  -- the corners to which sides come, and those to which others come
  pub corners-append : (ss ts : List Side) → corners squares (ss ++ ts) ≡ corners squares ss ++ corners squares ts
  corners-append [] ts = refl
  corners-append (s ∷ ss) ts = by (turns squares s) (corners-append ss ts)
    where
      by : (b : Bool) → corners squares (ss ++ ts) ≡ corners squares ss ++ corners squares ts
          → (if b then (end_of s ∷ corners squares (ss ++ ts)) else corners squares (ss ++ ts))
          ≡ (if b then (end_of s ∷ corners squares ss) else corners squares ss) ++ corners squares ts
      by true e = ap (λ ps. end_of s ∷ ps) e
      by false e = e

module _ (cells squares : Spot → Bool) (across up : ℤ → ℤ) (rises_across : Rises across) (rises_up : Rises up)
    (same : AreSquaresOf across up cells squares) where
  abbrev many : Side → ℕ
  many = most cells squares across up rises_across rises_up same

  abbrev at : Side → ℕ → Side
  at = unit cells squares across up rises_across rises_up same

  abbrev last : Side → Side
  last s = at s (many s)

  -- from a unit side on to the last one
  run : (s : Side) (d k : ℕ) → k + d ≡ many s → IsTrue (is_border squares (at s k))
      → (further squares d (at s k) ≡ last s) × (corners squares (sides_from squares d (at s k)) ≡ [])
  run s zero k e border = (let f : k ≡ many s = omega (arith, e) in ap (at s) f, refl)
  run s (suc d) k e border =
      let (next, straight) = unit-next cells squares across up rises_across rises_up same s k (omega (arith, e)) border in
      let rest = run s d (suc k) (omega (arith, e))
      (subst (λ x. IsTrue (is_border squares x)) next (following_border squares (at s k) border)) in (
        ap (further squares d) next ∙ rest.0,
        ap (λ (b : Bool). if b then
            (end_of (at s k) ∷ corners squares (sides_from squares d (following squares (at s k)))) else corners squares
            (sides_from squares d (following squares (at s k)))) straight
            ∙ ap (λ x. corners squares (sides_from squares d x)) next ∙ rest.1,
      )

  first_is_border : (s : Side) → IsTrue (is_border cells s) → IsTrue (is_border squares (at s zero))
  first_is_border s border = first_border cells squares across up rises_across rises_up same s ∙ border

  -- from the first one
  whole : (s : Side) → IsTrue (is_border cells s)
      → (further squares (many s) (at s zero) ≡ last s) × (corners squares (sides_from squares (many s) (at s zero)) ≡ [])
  whole s border = run s (many s) zero (omega arith) (first_is_border s border)

  next_side : (s : Side) → following squares (last s) ≡ at (following cells s) zero
  next_side s = last_following cells squares across up rises_across rises_up same s

  -- how many unit sides there are along so many sides of grid squares
  abbrev units : ℕ → Side → ℕ
  units zero s = zero
  units (suc k) s = and_then (many s) (suc (units k (following cells s)))

  further_along : (k : ℕ) (s : Side) → IsTrue (is_border cells s)
      → further squares (units k s) (at s zero) ≡ at (further cells k s) zero
  further_along zero s border = refl
  further_along (suc k) s border =
      further-then squares (many s) (suc (units k (following cells s))) (at s zero)
      ∙ ap (further squares (suc (units k (following cells s)))) (whole s border).0
      ∙ ap (further squares (units k (following cells s))) (next_side s)
      ∙ further_along k (following cells s) (following_border cells s border)

  -- the corners along them are theirs
  map_if : (b : Bool) (p : Spot) (ps : List Spot)
      → (if b then (grid_point across up p ∷ map (grid_point across up) ps) else map (grid_point across up) ps)
      ≡ map (grid_point across up) (if b then (p ∷ ps) else ps)
  map_if true p ps = refl
  map_if false p ps = refl

  corners_of_last : (s : Side) (ss : List Side) (ps : List Spot) → corners squares ss ≡ map (grid_point across up) ps
      → corners squares (last s ∷ ss) ≡ map (grid_point across up) (if turns cells s then (end_of s ∷ ps) else ps)
  corners_of_last s ss ps e =
      (λ i. if last_turns cells squares across up rises_across rises_up same s i
      then (last_end cells squares across up rises_across rises_up same s i ∷ e i) else e i)
      ∙ map_if (turns cells s) (end_of s) ps

  corners_along : (k : ℕ) (s : Side) → IsTrue (is_border cells s)
      → corners squares (sides_from squares (units k s) (at s zero)) ≡ map (grid_point across up)
      (corners cells (sides_from cells k s))
  corners_along zero s border = refl
  corners_along (suc k) s border =
      let rest : ℕ = units k (following cells s) in
      let w = whole s border in
      ap (corners squares) (sides-then squares (many s) (suc rest) (at s zero))
      ∙ corners-append squares (sides_from squares (many s) (at s zero))
      (sides_from squares (suc rest) (further squares (many s) (at s zero)))
      ∙ ap₂ ◌++◌ w.1 (ap (λ x. corners squares (sides_from squares (suc rest) x)) w.0)
      ∙ corners_of_last s (sides_from squares rest (following squares (last s)))
      (corners cells (sides_from cells k (following cells s)))
      (ap (λ x. corners squares (sides_from squares rest x)) (next_side s)
      ∙ corners_along k (following cells s) (following_border cells s border))

  -- ---- which unit sides they are

  run_member : (s : Side) (d k : ℕ) → k + d ≡ many s → IsTrue (is_border squares (at s k)) → (y : Side)
      → Member (sides_from squares d (at s k)) y
      → (a : ℕ) × (a < many s) × (at s a ≡ y)
  run_member s zero k e border y m = absurd m
  run_member s (suc d) k e border y (inl f) = (k, omega (arith, e), f)
  run_member s (suc d) k e border y (inr m) =
      let (next, straight) = unit-next cells squares across up rises_across rises_up same s k (omega (arith, e)) border in
      run_member s d (suc k) (omega (arith, e))
      (subst (λ x. IsTrue (is_border squares x)) next (following_border squares (at s k) border)) y
      (subst (λ x. Member (sides_from squares d x) y) next m)

  -- a unit side along some sides of grid squares is one of theirs
  abbrev IsAlong : List Side → Side → Type 0
  IsAlong ss y = (z : Side) × Member ss z × ((a : ℕ) × (a ≤ many z) × (at z a ≡ y))

  along_more : (s y : Side) (ss : List Side) → IsAlong ss y → IsAlong (s ∷ ss) y
  along_more s y ss (z, m, of) = (z, inr m, of)

  along_member : (k : ℕ) (s : Side) → IsTrue (is_border cells s) → (y : Side)
      → Member (sides_from squares (units k s) (at s zero)) y
      → IsAlong (sides_from cells k s) y
  along_member zero s border y m = absurd m
  along_member (suc k) s border y m =
      let rest : ℕ = units k (following cells s) in
      let parts = member-append (sides_from squares (many s) (at s zero))
      (sides_from squares (suc rest) (further squares (many s) (at s zero))) y
      (subst (λ ss. Member ss y) (sides-then squares (many s) (suc rest) (at s zero)) m) in
      elim parts as (λ _. IsAlong (sides_from cells (suc k) s) y) [
        | inl early ↦ (let (a, less, e) = run_member s (many s) zero (omega arith) (first_is_border s border) y early in
            (s, inl refl, (a, omega (arith, less), e)))
        | inr late ↦ elim (subst (λ x. Member (sides_from squares (suc rest) x) y) (whole s border).0 late) as
            (λ _. IsAlong (sides_from cells (suc k) s) y) [
              | inl e ↦ (s, inl refl, (many s, omega arith, e))
              | inr later ↦ along_more s y (sides_from cells k (following cells s))
                  (along_member k (following cells s) (following_border cells s border) y
                  (subst (λ x. Member (sides_from squares rest x) y) (next_side s) later))
            ]
      ]

  -- ---- rounds

  -- after how many other unit sides the last one of a side comes again
  abbrev units_round : Side → ℕ → ℕ
  units_round s n = and_then (units n (following cells s)) (many s)

  module _ (s : Side) (n : ℕ) (is : IsRound cells s n) where
    follows_border : IsTrue (is_border cells (following cells s))
    follows_border = following_border cells s is.border

    goes_round : further squares (units n (following cells s)) (following squares (last s)) ≡ at s zero
    goes_round = ap (further squares (units n (following cells s))) (next_side s)
        ∙ further_along n (following cells s) follows_border
        ∙ ap (λ t. at t zero) is.back

    comes_back : further squares (units_round s n) (following squares (last s)) ≡ last s
    comes_back = further-then squares (units n (following cells s)) (many s) (following squares (last s))
        ∙ ap (further squares (many s)) goes_round ∙ (whole s is.border).0

    comes_once : Member (sides_from squares (units_round s n) (following squares (last s))) (last s) → ⊥
    comes_once m =
        let parts = member-append (sides_from squares (units n (following cells s)) (following squares (last s)))
        (sides_from squares (many s) (further squares (units n (following cells s)) (following squares (last s)))) (last s)
        (subst (λ ss. Member ss (last s))
        (sides-then squares (units n (following cells s)) (many s) (following squares (last s))) m) in
        elim parts as (λ _. ⊥) [
          | inl early ↦ (let (z, z_on, (a, few, e)) = along_member n (following cells s) follows_border (last s)
              (subst (λ x. Member (sides_from squares (units n (following cells s)) x) (last s)) (next_side s) early) in
              let z_is : z ≡ s = unit_one cells squares across up rises_across rises_up same z s a (many s) few (omega arith) e in
              is.once (subst (Member (sides_from cells n (following cells s))) z_is z_on))
          | inr late ↦ (let (a, less, e) = run_member s (many s) zero (omega arith) (first_is_border s is.border) (last s)
              (subst (λ x. Member (sides_from squares (many s) x) (last s)) goes_round late) in
              let f = unit_place cells squares across up rises_across rises_up same s a (many s) e in omega (arith, less, f))
        ]

    unit_round : IsRound squares (last s) (units_round s n)
    unit_round = record {
      border = last_border cells squares across up rises_across rises_up same s ∙ is.border;
      corner = last_turns cells squares across up rises_across rises_up same s ∙ is.corner;
      back = comes_back;
      once = comes_once;
    }

    round_rest : corners squares (sides_from squares (units_round s n) (following squares (last s)))
        ≡ map (grid_point across up) (corners cells (sides_from cells n (following cells s)))
    round_rest =
        ap (corners squares) (sides-then squares (units n (following cells s)) (many s) (following squares (last s)))
        ∙ corners-append squares (sides_from squares (units n (following cells s)) (following squares (last s)))
        (sides_from squares (many s) (further squares (units n (following cells s)) (following squares (last s))))
        ∙ ap₂ ◌++◌ (ap (λ x. corners squares (sides_from squares (units n (following cells s)) x)) (next_side s)
        ∙ corners_along n (following cells s) follows_border)
        (ap (λ x. corners squares (sides_from squares (many s) x)) goes_round ∙ (whole s is.border).1)
        ∙ nothing_more (map (grid_point across up) (corners cells (sides_from cells n (following cells s))))
      where
        nothing_more : (ps : List Spot) → ps ++ [] ≡ ps
        nothing_more [] = refl
        nothing_more (p ∷ ps) = ap (λ qs. p ∷ qs) (nothing_more ps)

    unit_corners : round_corners squares (last s) (units_round s n) ≡ map (grid_point across up) (round_corners cells s n)
    unit_corners = corners_of_last s (sides_from squares (units_round s n) (following squares (last s)))
        (corners cells (sides_from cells n (following cells s))) round_rest

    -- from the last unit side of a side one comes to that of each side that comes later
    comes_to : (j : ℕ) (x : Side) → IsTrue (is_border cells x) → (i : ℕ) × (further squares i (last x) ≡ last (further cells j x))
    comes_to zero x border = (zero, refl)
    comes_to (suc j) x border =
        let border_too = following_border cells x border in
        let (i, e) = comes_to j (following cells x) border_too in (
          suc (and_then (many (following cells x)) i),
          ap (further squares (and_then (many (following cells x)) i)) (next_side x)
              ∙ further-then squares (many (following cells x)) i (at (following cells x) zero)
              ∙ ap (further squares i) (whole (following cells x) border_too).0 ∙ e,
        )

    -- so the last unit side of each side of the round is on it
    unit_on : (x : Side) → Member (round_sides cells s n) x → Member (round_sides squares (last s) (units_round s n)) (last x)
    unit_on x on =
        let (j, less, e) = member-earlier cells (suc n) s x on in
        let (i, f) = comes_to j s is.border in
        subst (Member (round_sides squares (last s) (units_round s n))) (f ∙ ap last e)
        (round-further squares (last s) (units_round s n) comes_back i (last s) (inl refl))

    -- The round of unit sides.
    pub grid_round : (m : ℕ) × IsRound squares (last_side across up s) m
        × (round_corners squares (last_side across up s) m ≡ map (grid_point across up) (round_corners cells s n))
        × ((x : Side) → Member (round_sides cells s n) x
        → Member (round_sides squares (last_side across up s) m) (last_side across up x))
    grid_round =
        let named = last_is cells squares across up rises_across rises_up same in
        subst (λ (f : Side → Side). (m : ℕ) × IsRound squares (f s) m
        × (round_corners squares (f s) m ≡ map (grid_point across up) (round_corners cells s n))
        × ((x : Side) → Member (round_sides cells s n) x → Member (round_sides squares (f s) m) (f x)))
        (λ i x. sym (named x) i) (units_round s n, unit_round, unit_corners, unit_on)

  -- A unit side of the border that ends at a grid point is the last one of a side of the grid squares' border, and turns as that.
  pub ends_on_grid : (r : Side) (n : Spot) → IsTrue (is_border squares r) → end_of r ≡ grid_point across up n
      → (s : Side) × IsTrue (is_border cells s) × (last_side across up s ≡ r) × (turns cells s ≡ turns squares r)
  ends_on_grid r n border e =
      let s : Side = record { start = spot_after (back_of r.heading) n; heading = r.heading } in
      let end : end_of s ≡ n = step_forth r.heading n in
      let is_r : last_side across up s ≡ r = same_side (last_side across up s) r
      (ap (λ p. spot_after (back_of r.heading) (grid_point across up p)) end ∙ ap (spot_after (back_of r.heading)) (sym e)
      ∙ step_back r.heading r.start) refl in
      let named : last s ≡ r = sym (last_is cells squares across up rises_across rises_up same s) ∙ is_r in (
        s,
        sym (last_border cells squares across up rises_across rises_up same s) ∙ ap (is_border squares) named ∙ border,
        is_r,
        sym (last_turns cells squares across up rises_across rises_up same s) ∙ ap (turns squares) named,
      )
