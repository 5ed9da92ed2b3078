-- A round has one start from which its first corner is least.
use Rattle.std.proofs.Common.{◌≡◌, inl, inr, Bool, true, false, if◌then◌else◌, ℕ, zero, suc, ◌<◌, List, [], ◌∷◌, map, refl, sym, ◌∙◌, ap, subst, arith}
use Rattle.std.proofs.lemmas.Bool.{cases_lt}
use Rattle.solid_model.specs.declared.cell.Cell.{Cell}
use Rattle.solid_model.specs.Faces.{BeginsLeast}
use Rattle.lemmas.specs.Lists.{Member, Each}
use Rattle.solid_model.specs.Orders.{ComesBefore}
use Rattle.solid_model.specs.Rounds.{Spot, Side, end_of, following, turns, further, sides_from, round_sides, IsRound, corners, round_corners}
use Rattle.solid_model.proofs.CellOrder.{one_or_before}
use Rattle.lemmas.proofs.Lists.{each-at, each-from_map, first_member}
use Rattle.solid_model.proofs.SolidOrder.{IsNoLater, no_later_some, no_later_onward}
use Rattle.face_laws.proofs.SidesInOrder.{earlier-member, member-earlier, member-border, round-further, round-comes}
use Rattle.face_laws.proofs.LeastSides.{KeepsOrder, least_turns, least_once, corners_from}

module _ (squares : Spot → Bool) where
  -- what follows the side that comes so many later comes so many after what follows
  pub further-following : (k : ℕ) (x : Side) → further squares k (following squares x) ≡ following squares (further squares k x)
  further-following zero x = refl
  further-following (suc k) x = further-following k (following squares x)

  -- so many later, and so many more, either way
  further-further : (j k : ℕ) (x : Side) → further squares j (further squares k x) ≡ further squares k (further squares j x)
  further-further zero k x = refl
  further-further (suc j) k x = ap (further squares j) (sym (further-following k x)) ∙ further-further j k (following squares x)

  -- from each of its sides a round comes back after as many
  pub back_from : (s : Side) (n : ℕ) → further squares n (following squares s) ≡ s → (t : Side)
      → Member (round_sides squares s n) t
      → further squares n (following squares t) ≡ t
  back_from s n back t on =
      let (k, less, e) = member-earlier squares (suc n) s t on in
      ap (further squares (suc n)) (sym e) ∙ further-further (suc n) k s ∙ ap (further squares k) back ∙ e

  -- and goes along the same sides
  pub sides_within : (s : Side) (n : ℕ) → further squares n (following squares s) ≡ s → (t : Side)
      → Member (round_sides squares s n) t
      → (u : Side) → Member (round_sides squares t n) u → Member (round_sides squares s n) u
  sides_within s n back t on u on_too =
      let (k, less, e) = member-earlier squares (suc n) t u on_too in
      subst (Member (round_sides squares s n)) e (round-further squares s n back k t on)

  -- a turn at the end of a side is a corner
  corner_member : (ss : List Side) (t : Side) → Member ss t → turns squares t ≡ true → Member (corners squares ss) (end_of t)
  corner_member [] t m turn = absurd m
  corner_member (x ∷ xs) t (inl e) turn =
      subst (λ (b : Bool). Member (if b then (end_of x ∷ corners squares xs) else corners squares xs) (end_of t))
      (sym (ap (turns squares) e ∙ turn)) (inl (ap end_of e))
  corner_member (x ∷ xs) t (inr m) turn = by (turns squares x) (corner_member xs t m turn)
    where
      by : (b : Bool) → Member (corners squares xs) (end_of t)
          → Member (if b then (end_of x ∷ corners squares xs) else corners squares xs) (end_of t)
      by true l = inr l
      by false l = l

  -- a round comes back after so many sides, and not after fewer
  returns_once : (s : Side) (n m : ℕ) → IsRound squares s n → IsRound squares s m → n < m → ⊥
  returns_once s n m is is_too less =
      is_too.once (subst (Member (sides_from squares m (following squares s))) is.back
      (earlier-member squares n m (following squares s) less))

  pub one_length : (s : Side) (n m : ℕ) → IsRound squares s n → IsRound squares s m → n ≡ m
  one_length s n m is is_too = elim (cases_lt n m) as (λ _. n ≡ m) [
    | inl less ↦ absurd (returns_once s n m is is_too less)
    | inr least ↦ elim (cases_lt m n) as (λ _. n ≡ m) [
      | inl less ↦ absurd (returns_once s m n is_too is less)
      | inr most ↦ omega arith
    ]
  ]

module _ (squares : Spot → Bool) (there : Spot → Cell) (keeps : KeepsOrder there) where
  -- the end of one side comes no later than that of another
  abbrev EndsNoLater : Side → Side → Type 0
  EndsNoLater s t = IsNoLater (there (end_of s)) (there (end_of t))

  -- of some sides, of which c is one, one ends no later than the others
  pub least_side : (ss : List Side) (c : Side) → Member ss c
      → (l : Side) × Member ss l × ((t : Side) → Member ss t → EndsNoLater l t)
  least_side ss c m =
      let (l, least) = first_member EndsNoLater (λ s t. no_later_some (there (end_of s)) (there (end_of t)))
      (λ s t u. no_later_onward (there (end_of s)) (there (end_of t)) (there (end_of u))) (λ _. true) ss c m refl in
      (l, least.0, λ t k. least.2 t k refl)

  -- What begins at its least corner begins at its least point: the least side turns, so its end is among the corners.
  pub begins_least_side : (s : Side) (n : ℕ) → IsRound squares s n → BeginsLeast (map there (round_corners squares s n))
      → (t : Side) → Member (round_sides squares s n) t → ComesBefore (there (end_of t)) (there (end_of s)) → ⊥
  begins_least_side s n is begins t on =
      let (l, l_on, least) = least_side (round_sides squares s n) s (inl refl) in
      let turn : turns squares l ≡ true = least_turns squares there keeps l n (member-border squares (suc n) s l is.border l_on)
      (back_from squares s n is.back l l_on) (λ u m. least u (sides_within squares s n is.back l l_on u m)) in
      let rest : List Side = sides_from squares n (following squares s) in
      let later : Each (ComesBefore (there (end_of s))) (map there (corners squares rest)) =
      subst (λ ps. BeginsLeast (map there ps)) (corners_from squares there keeps s rest is.corner) begins in
      let same : s ≡ l = elim l_on as (λ _. s ≡ l) [
        | inl e ↦ e
        | inr m ↦ absurd (least s (inl refl)
            (each-at (λ p. ComesBefore (there (end_of s)) (there p)) (corners squares rest) (end_of l)
            (each-from_map there (ComesBefore (there (end_of s))) (corners squares rest) later)
            (corner_member squares rest l m turn)))
      ] in
      subst (λ x. EndsNoLater x t) (sym same) (least t on)

  -- Two rounds with a side in common that both begin at their least corners are one.
  pub one_start : (s t r : Side) (n m : ℕ) → IsRound squares s n → IsRound squares t m
      → BeginsLeast (map there (round_corners squares s n)) → BeginsLeast (map there (round_corners squares t m))
      → Member (round_sides squares s n) r → Member (round_sides squares t m) r → (s ≡ t) × (n ≡ m)
  one_start s t r n m is is_too begins begins_too r_on r_on_too =
      let (j, to_t) = round-comes squares t m is_too.back r r_on_too in
      let t_on : Member (round_sides squares s n) t = subst (Member (round_sides squares s n)) to_t
      (round-further squares s n is.back j r r_on) in
      let (k, to_s) = round-comes squares s n is.back r r_on in
      let s_on : Member (round_sides squares t m) s = subst (Member (round_sides squares t m)) to_s
      (round-further squares t m is_too.back k r r_on_too) in
      let least = begins_least_side s n is begins in
      let ends : end_of t ≡ end_of s = elim (one_or_before (there (end_of t)) (there (end_of s))) as (λ _. end_of t ≡ end_of s) [
        | inl e ↦ keeps.one (end_of t) (end_of s) e
        | inr l ↦ elim l as (λ _. end_of t ≡ end_of s) [
          | inl b ↦ absurd (least t t_on b)
          | inr b ↦ absurd (begins_least_side t m is_too begins_too s s_on b)
        ]
      ] in
      let same : t ≡ s = least_once squares there keeps s n is.border is.back least t t_on ends in
      (sym same, one_length squares s n m is (subst (λ x. IsRound squares x m) same is_too))
