-- The parts of a loop, as they are gathered.
use Rattle.std.proofs.Common.{◌≡◌, Bool, true, false, if◌then◌else◌, ℕ, zero, suc, ◌+◌, ◌<◌, List, [], ◌∷◌, ◌++◌, map, length, take, get_or, refl, sym, ◌∙◌, ap, add-one, append-nil, arith}
use Rattle.std.proofs.Math.Seq.{take-suc}
use Rattle.std.proofs.lemmas.List.{map-append}
use Rattle.faces.specs.declared.border_side.BorderSide.{BorderSide}
use Rattle.faces.specs.Border.{side_of}
use Rattle.faces.specs.Points.{spot_of}
use Rattle.faces.specs.Ways.{heading_of}
use Rattle.faces.proofs.Sides.{end_of-side_to}
use Rattle.rounds.specs.Succession.{first}
use Rattle.lemmas.specs.Lists.{Each}
use Rattle.solid_model.specs.Rounds.{Spot, Side, end_of, turns, corners}
use Rattle.face_laws.proofs.GridTraces.{corners-append}

-- one member more
pub take_next : {A : Type 0} (xs : List A) (i : ℕ) (x : A) → i < length xs → take (i + 1) xs ≡ take i xs ++ get_or xs i x ∷ []
take_next xs i x l = ap (λ k. take k xs) (add-one i) ∙ take-suc xs i x l

-- and of what is made of them
pub map-take_next : {A B : Type 0} (f : A → B) (xs : List A) (i : ℕ) (x : A) → i < length xs
    → map f (take (i + 1) xs) ≡ map f (take i xs) ++ f (get_or xs i x) ∷ []
map-take_next f xs i x l = ap (map f) (take_next xs i x l) ∙ map-append f (take i xs) (get_or xs i x ∷ [])

-- and of what is made of that
pub map-twice_next : {A B C : Type 0} (f : A → B) (g : B → C) (xs : List A) (i : ℕ) (x : A) → i < length xs
    → map g (map f (take (i + 1) xs)) ≡ map g (map f (take i xs)) ++ g (f (get_or xs i x)) ∷ []
map-twice_next f g xs i x l = ap (map g) (map-take_next f xs i x l) ∙ map-append g (map f (take i xs)) (f (get_or xs i x) ∷ [])

module _ (squares : Spot → Bool) where
  pub corners-next : (side : ℕ → Side) (round : List ℕ) (i : ℕ) → i < length round
      → corners squares (map side (take (i + 1) round)) ≡ corners squares (map side (take i round)) ++ corners squares (side (get_or round i 0) ∷ [])
  corners-next side round i l =
      ap (corners squares) (map-take_next side round i 0 l) ∙ corners-append squares (map side (take i round)) (side (get_or round i 0) ∷ [])

  -- a side more where the border turns, and one where it doesn't
  pub corner_here : (ps : List Spot) (s : BorderSide) (at : Side) → side_of s ≡ at → turns squares (side_of s) ≡ true
      → ps ++ spot_of s.end ∷ [] ≡ ps ++ corners squares (at ∷ [])
  corner_here ps s at e f = ap (λ qs. ps ++ qs)
      (ap (λ p. p ∷ []) (sym (end_of-side_to (spot_of s.end) (heading_of s.way)))
      ∙ ap (λ (b : Bool). if b then (end_of (side_of s) ∷ []) else []) (sym f) ∙ ap (λ x. corners squares (x ∷ [])) e)

  pub no_corner_here : (ps : List Spot) (s : BorderSide) (at : Side) → side_of s ≡ at → turns squares (side_of s) ≡ false
      → ps ≡ ps ++ corners squares (at ∷ [])
  no_corner_here ps s at e f = sym (append-nil ps) ∙ ap (λ qs. ps ++ qs)
      (ap (λ (b : Bool). if b then (end_of (side_of s) ∷ []) else []) (sym f) ∙ ap (λ x. corners squares (x ∷ [])) e)

-- the first of a list stands at its first place
pub first-at : (round : List ℕ) → get_or round 0 0 ≡ first round
first-at [] = refl
first-at (a ∷ round) = refl

-- what holds of what is made of each holds at each place
pub each-place : {A B : Type 0} (f : A → B) (P : B → Type 0) (xs : List A) (i : ℕ) (x : A) → i < length xs → Each P (map f xs) → P (f (get_or xs i x))
each-place f P [] i x l h = absurd (omega arith)
each-place f P (y ∷ ys) zero x l h = h.0
each-place f P (y ∷ ys) (suc i) x l h = each-place f P ys i x (omega arith) h.1
