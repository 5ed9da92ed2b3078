-- Round a point: how sides that come to it are followed by sides that leave it.
use Rattle.std.proofs.Common.{◌≡◌, Bool, true, false, not, ◌&&◌, if◌then◌else◌, IsTrue, refl, sym, ◌∙◌, ap, ap₂, subst}
use Rattle.std.proofs.lemmas.Bool.{false≢true}
use Rattle.face_laws.specs.GridRounds.{back_of}
use Rattle.solid_model.specs.Rounds.{Spot, Heading, East, North, West, South, left_of, right_of, spot_after, square_at, Side, end_of, is_border, following}
use Rattle.lemmas.proofs.Integers.{up_and_down, down_and_up}

-- ---- spots and headings

-- spots with the same coordinates are one
pub same_spot : (p q : Spot) → p.u ≡ q.u → p.v ≡ q.v → p ≡ q
same_spot p q e f = λ i. record { u = e i; v = f i }

-- sides with the same start and heading are one
pub same_side : (s t : Side) → s.start ≡ t.start → s.heading ≡ t.heading → s ≡ t
same_side s t e f = λ i. record { start = e i; heading = f i }

-- two turns to the left turn back
pub left_of_left : (h : Heading) → left_of (left_of h) ≡ back_of h
left_of_left East = refl
left_of_left North = refl
left_of_left West = refl
left_of_left South = refl

-- a step back undoes a step
pub step_back : (h : Heading) (p : Spot) → spot_after (back_of h) (spot_after h p) ≡ p
step_back East p = same_spot _ p (up_and_down p.u) refl
step_back North p = same_spot _ p refl (up_and_down p.v)
step_back West p = same_spot _ p (down_and_up p.u) refl
step_back South p = same_spot _ p refl (down_and_up p.v)

-- and a step undoes a step back
pub step_forth : (h : Heading) (p : Spot) → spot_after h (spot_after (back_of h) p) ≡ p
step_forth East p = step_back West p
step_forth North p = step_back South p
step_forth West p = step_back East p
step_forth South p = step_back North p

-- ---- the four squares round a point, each by the heading from which it lies ahead on the left

-- what lies on the left of a side lies ahead on the left of its end, after a turn to the left
pub left_at_end : (h : Heading) (p : Spot) → square_at h p ≡ square_at (left_of h) (spot_after h p)
left_at_end East p = same_spot _ _ (sym (up_and_down p.u)) refl
left_at_end North p = same_spot _ _ refl (sym (up_and_down p.v))
left_at_end West p = refl
left_at_end South p = refl

-- what lies on its right lies ahead on the left of its end, after a turn back
pub right_at_end : (h : Heading) (p : Spot) → square_at (right_of h) p ≡ square_at (back_of h) (spot_after h p)
right_at_end East p = same_spot _ _ (sym (up_and_down p.u)) refl
right_at_end North p = same_spot _ _ refl (sym (up_and_down p.v))
right_at_end West p = refl
right_at_end South p = refl

-- which of them are among some squares
abbrev pub round : (Spot → Bool) → Spot → Heading → Bool
round squares p h = squares (square_at h p)

-- a border may come to the point with a heading
abbrev pub arrives : (Heading → Bool) → Heading → Bool
arrives r h = r (left_of h) && not (r (back_of h))

-- and leave it with one
abbrev pub leaves : (Heading → Bool) → Heading → Bool
leaves r h = r h && not (r (right_of h))

-- the heading with which it goes on
abbrev pub onward : (Heading → Bool) → Heading → Heading
onward r h = if leaves r (left_of h) then left_of h else (if leaves r h then h else right_of h)

-- the heading from which it went on so
abbrev pub came_from : (Heading → Bool) → Heading → Heading
came_from r k = if arrives r (right_of k) then right_of k else (if arrives r k then k else left_of k)

-- whether a side is border is seen round its end
pub border_at_end : (squares : Spot → Bool) (s : Side) → is_border squares s ≡ arrives (round squares (end_of s)) s.heading
border_at_end squares s =
    ap₂ (λ (p q : Spot). squares p && not (squares q)) (left_at_end s.heading s.start) (right_at_end s.heading s.start)

-- ---- the sixteen fillings

-- four squares that are there or not
abbrev fill : Bool → Bool → Bool → Bool → Heading → Bool
fill a b c d East = a
fill a b c d North = b
fill a b c d West = c
fill a b c d South = d

-- the border goes on, and it is seen from where it came
abbrev GoesOn : (Heading → Bool) → Heading → Type 0
GoesOn r h = (leaves r (onward r h) ≡ true) × (came_from r (onward r h) ≡ h)

goes_on_filled : (h : Heading) (a b c d : Bool) → arrives (fill a b c d) h ≡ true → GoesOn (fill a b c d) h
goes_on_filled East a false c d e = absurd (false≢true e)
goes_on_filled East a true true d e = absurd (false≢true e)
goes_on_filled East true true false true e = (refl, refl)
goes_on_filled East true true false false e = (refl, refl)
goes_on_filled East false true false true e = (refl, refl)
goes_on_filled East false true false false e = (refl, refl)
goes_on_filled North a b false d e = absurd (false≢true e)
goes_on_filled North a b true true e = absurd (false≢true e)
goes_on_filled North true true true false e = (refl, refl)
goes_on_filled North true false true false e = (refl, refl)
goes_on_filled North false true true false e = (refl, refl)
goes_on_filled North false false true false e = (refl, refl)
goes_on_filled West a b c false e = absurd (false≢true e)
goes_on_filled West true b c true e = absurd (false≢true e)
goes_on_filled West false true true true e = (refl, refl)
goes_on_filled West false true false true e = (refl, refl)
goes_on_filled West false false true true e = (refl, refl)
goes_on_filled West false false false true e = (refl, refl)
goes_on_filled South false b c d e = absurd (false≢true e)
goes_on_filled South true true c d e = absurd (false≢true e)
goes_on_filled South true false true true e = (refl, refl)
goes_on_filled South true false true false e = (refl, refl)
goes_on_filled South true false false true e = (refl, refl)
goes_on_filled South true false false false e = (refl, refl)

-- each way to have four squares is one of the sixteen
filled : (r : Heading → Bool) → fill (r East) (r North) (r West) (r South) ≡ r
filled r = λ i h. each h i
  where
    each : (h : Heading) → fill (r East) (r North) (r West) (r South) h ≡ r h
    each East = refl
    each North = refl
    each West = refl
    each South = refl

goes_on : (r : Heading → Bool) (h : Heading) → arrives r h ≡ true → GoesOn r h
goes_on r h e =
    let same = filled r in
    subst (λ f. GoesOn f h) same
    (goes_on_filled h (r East) (r North) (r West) (r South) (subst (λ f. arrives f h ≡ true) (sym same) e))

-- ---- what follows a border

module _ (squares : Spot → Bool) where
  -- a border side is followed by one
  pub following_border : (s : Side) → IsTrue (is_border squares s) → IsTrue (is_border squares (following squares s))
  following_border s border = (goes_on (round squares (end_of s)) s.heading (sym (border_at_end squares s) ∙ border)).0

  -- and seen from that, it had this heading
  came : (s : Side) → IsTrue (is_border squares s)
      → came_from (round squares (following squares s).start) (following squares s).heading ≡ s.heading
  came s border = (goes_on (round squares (end_of s)) s.heading (sym (border_at_end squares s) ∙ border)).1

  -- the start of a side is one step back from its end
  start_of : (s : Side) → spot_after (back_of s.heading) (end_of s) ≡ s.start
  start_of s = step_back s.heading s.start

  -- no two border sides are followed by one side
  pub following_one : (s t : Side) → IsTrue (is_border squares s) → IsTrue (is_border squares t)
      → following squares s ≡ following squares t → s ≡ t
  following_one s t border border_too e =
      let heading : s.heading ≡ t.heading =
      sym (came s border) ∙ ap (λ (x : Side). came_from (round squares x.start) x.heading) e ∙ came t border_too in
      let ends : end_of s ≡ end_of t = ap (λ (x : Side). x.start) e in
      same_side s t (sym (start_of s) ∙ ap₂ (λ (h : Heading) (p : Spot). spot_after (back_of h) p) heading ends
      ∙ start_of t) heading
