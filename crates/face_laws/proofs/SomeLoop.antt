-- Each side of the border of finitely many squares is on a round that begins at its least corner.
use Rattle.std.proofs.Common.{◌≡◌, ◌≢◌, ◌⊎◌, inl, inr, Bool, true, false, not, ℕ, zero, suc, ◌≤◌, List, [], ◌∷◌, map, length, pos, ◌+ℤ◌, IsTrue, refl, sym, ◌∙◌, ap, subst, arith}
use Rattle.std.proofs.lemmas.Bool.{both_ways, cases_lt, and_parts}
use Rattle.solid_model.specs.declared.cell.Cell.{Cell}
use Rattle.solid_model.specs.Faces.{BeginsLeast}
use Rattle.lemmas.specs.Lists.{Member, Ascends}
use Rattle.solid_model.specs.Orders.{ComesBefore}
use Rattle.solid_model.specs.Rounds.{Spot, Heading, East, North, West, South, square_at, Side, end_of, left_square, right_square, is_border, following, further, sides_from, round_sides, IsRound, round_corners}
use Rattle.face_laws.proofs.LeastSides.{KeepsOrder, least_begins}
use Rattle.lemmas.proofs.Lists.{each-from}
use Rattle.face_laws.proofs.RoundStarts.{further-following, least_side}
use Rattle.face_laws.proofs.SameSides.{is_same_side, Decides-same_side}
use Rattle.face_laws.proofs.SidesInOrder.{earlier-member, member-earlier, member-border, round-further, round-comes}
use Rattle.face_laws.proofs.Turns.{same_spot, same_side, following_border, following_one}
use Rattle.lemmas.proofs.WithoutRepeats.{no_longer}
use Rattle.lemmas.proofs.Integers.{down_and_up}

-- ---- the sides of some squares

-- the side of a square along which it lies on the left
abbrev pub side_of : Heading → Spot → Side
side_of East p = record { start = p; heading = East }
side_of North p = record { start = record p { u = p.u +ℤ pos 1 }; heading = North }
side_of West p = record { start = record { u = p.u +ℤ pos 1; v = p.v +ℤ pos 1 }; heading = West }
side_of South p = record { start = record p { v = p.v +ℤ pos 1 }; heading = South }

pub side_of-own : (s : Side) → side_of s.heading (left_square s) ≡ s
side_of-own s = by s.heading s.start
  where
    by : (h : Heading) (p : Spot) → side_of h (square_at h p) ≡ record { start = p; heading = h }
    by East p = refl
    by North p = same_side _ (record { start = p; heading = North }) (same_spot _ p (down_and_up p.u) refl) refl
    by West p = same_side _ (record { start = p; heading = West }) (same_spot _ p (down_and_up p.u) (down_and_up p.v)) refl
    by South p = same_side _ (record { start = p; heading = South }) (same_spot _ p refl (down_and_up p.v)) refl

-- all sides of some squares
abbrev pub all_sides : List Spot → List Side
all_sides [] = []
all_sides (p ∷ ps) = side_of East p ∷ side_of North p ∷ side_of West p ∷ side_of South p ∷ all_sides ps

side_member : (ps : List Spot) (p : Spot) (h : Heading) → Member ps p → Member (all_sides ps) (side_of h p)
side_member [] p h m = absurd m
side_member (q ∷ ps) p East (inl e) = inl (ap (side_of East) e)
side_member (q ∷ ps) p North (inl e) = inr (inl (ap (side_of North) e))
side_member (q ∷ ps) p West (inl e) = inr (inr (inl (ap (side_of West) e)))
side_member (q ∷ ps) p South (inl e) = inr (inr (inr (inl (ap (side_of South) e))))
side_member (q ∷ ps) p h (inr m) = inr (inr (inr (inr (side_member ps p h m))))

length-sides : (squares : Spot → Bool) (n : ℕ) (x : Side) → length (sides_from squares n x) ≡ n
length-sides squares zero x = refl
length-sides squares (suc n) x = ap suc (length-sides squares n (following squares x))

module _ (squares : Spot → Bool) where
  -- ---- no side comes twice before the first comes again

  -- what follows is among what follows, where it is itself among the others
  member-unfollowed : (n : ℕ) (x y : Side) → IsTrue (is_border squares x) → IsTrue (is_border squares y)
      → Member (sides_from squares n (following squares y)) (following squares x) → Member (sides_from squares n y) x
  member-unfollowed n x y border border_too m =
      let (k, less, e) = member-earlier squares n (following squares y) (following squares x) m in
      let k_border : IsTrue (is_border squares (further squares k y)) =
      member-border squares n y (further squares k y) border_too (earlier-member squares k n y less) in
      let same : further squares k y ≡ x =
      following_one squares (further squares k y) x k_border border (sym (further-following squares k y) ∙ e) in
      subst (Member (sides_from squares n y)) same (earlier-member squares k n y less)

  member-more : (n : ℕ) (x y : Side) → Member (sides_from squares n x) y → Member (sides_from squares (suc n) x) y
  member-more n x y m =
      let (k, less, e) = member-earlier squares n x y m in
      subst (Member (sides_from squares (suc n) x)) e (earlier-member squares k (suc n) x (omega (arith, less)))

  without_repeats : (n : ℕ) (x : Side) → IsTrue (is_border squares x)
      → (Member (sides_from squares n (following squares x)) x → ⊥)
      → Ascends ◌≢◌ (sides_from squares (suc n) x)
  without_repeats zero x border none = (tt, tt)
  without_repeats (suc n) x border none = (
    each-from (λ y. x ≢ y) (sides_from squares (suc n) (following squares x))
        (λ y m e. none (subst (Member (sides_from squares (suc n) (following squares x))) (sym e) m)),
    without_repeats n (following squares x) (following_border squares x border)
        (λ m. none (member-more n (following squares x) x
        (member-unfollowed n x (following squares x) border (following_border squares x border) m))),
  )

  -- ---- the first comes again

  -- after how many other sides a side comes again
  abbrev Returns : Side → Type 0
  Returns x = (n : ℕ) × (further squares n (following squares x) ≡ x)
      × (Member (sides_from squares n (following squares x)) x → ⊥)

  -- it has come again, or not among so many
  look : (n : ℕ) (x : Side) → Returns x ⊎ (Member (sides_from squares n (following squares x)) x → ⊥)
  look zero x = inr (λ m. m)
  look (suc n) x = elim (look n x) as (λ _. Returns x ⊎ (Member (sides_from squares (suc n) (following squares x)) x → ⊥)) [
    | inl found ↦ inl found
    | inr none ↦ by none (is_same_side (further squares n (following squares x)) x) refl
  ]
    where
      by : (Member (sides_from squares n (following squares x)) x → ⊥) → (b : Bool)
          → is_same_side (further squares n (following squares x)) x ≡ b
          → Returns x ⊎ (Member (sides_from squares (suc n) (following squares x)) x → ⊥)
      by none true e = inl (n, (Decides-same_side (further squares n (following squares x)) x).0 e, none)
      by none false e = inr (λ m.
          let (k, less, f) = member-earlier squares (suc n) (following squares x) x m in
          elim (cases_lt k n) as (λ _. ⊥) [
            | inl earlier ↦ none
                (subst (Member (sides_from squares n (following squares x))) f
                (earlier-member squares k n (following squares x) earlier))
            | inr later ↦ (let last : k ≡ n = omega (arith, less, later) in
                both_ways (is_same_side (further squares n (following squares x)) x) e
                ((Decides-same_side (further squares n (following squares x)) x).1
                (ap (λ j. further squares j (following squares x)) (sym last) ∙ f)))
          ])

  module _ (ps : List Spot) (finite : (p : Spot) → IsTrue (squares p) → Member ps p) where
    -- a border side is one of finitely many
    pub border_member : (x : Side) → IsTrue (is_border squares x) → Member (all_sides ps) x
    border_member x border =
        subst (Member (all_sides ps)) (side_of-own x) (side_member ps (left_square x) x.heading
        (finite (left_square x) ((and_parts (squares (left_square x)) (not (squares (right_square x))) border).0)))

    -- so it comes again
    pub returns : (x : Side) → IsTrue (is_border squares x) → Returns x
    returns x border = elim (look (length (all_sides ps)) x) as (λ _. Returns x) [
      | inl found ↦ found
      | inr none ↦ (let many : length (sides_from squares (suc (length (all_sides ps))) x) ≤ length (all_sides ps) =
          no_longer (sides_from squares (suc (length (all_sides ps))) x) (all_sides ps)
          (without_repeats (length (all_sides ps)) x border none)
          (λ y m. border_member y (member-border squares (suc (length (all_sides ps))) x y border m)) in
          absurd (omega (arith, many, length-sides squares (suc (length (all_sides ps))) x)))
    ]

    -- and its round begins at its least corner somewhere
    pub some_round : (there : Spot → Cell) → KeepsOrder there → (x : Side) → IsTrue (is_border squares x)
        → (s : Side) × (n : ℕ) × IsRound squares s n × BeginsLeast (map there (round_corners squares s n))
        × Member (round_sides squares s n) x
    some_round there keeps x border =
        let (n, back, once) = returns x border in
        let (l, l_on, least) = least_side squares there keeps (round_sides squares x n) x (inl refl) in
        let l_border : IsTrue (is_border squares l) = member-border squares (suc n) x l border l_on in
        let (m, l_back, l_once) = returns l l_border in
        let least_there : (t : Side) → Member (round_sides squares l m) t → ComesBefore (there (end_of t)) (there (end_of l))
        → ⊥ = λ t t_on.
        (let (k, less, e) = member-earlier squares (suc m) l t t_on in
        least t (subst (Member (round_sides squares x n)) e (round-further squares x n back k l l_on))) in
        let begins = least_begins squares there keeps l m l_border l_back l_once least_there in
        let (j, comes) = round-comes squares x n back l l_on in (
          l,
          m,
          begins.0,
          begins.1,
          subst (Member (round_sides squares l m)) comes
              (round-further squares l m l_back j l (inl refl)),
        )
