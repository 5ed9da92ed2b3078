-- Whether two sides are one, and whether a side is among some, can be computed.
use Rattle.std.proofs.Common.{◌≡◌, Bool, true, false, ◌&&◌, ◌||◌, List, [], ◌∷◌, Decides, refl, sym, ◌∙◌, ap}
use Rattle.std.specs.Ordering.{int_eq}
use Rattle.std.proofs.lemmas.Bool.{false≢true, both_ways}
use Rattle.std.proofs.lemmas.Bool.Decides.{Decides-int_eq, Decides-and, Decides-or, Decides-like}
use Rattle.lemmas.specs.Lists.{Member}
use Rattle.solid_model.specs.Rounds.{Heading, East, North, West, South, same_heading, Side}
use Rattle.face_laws.proofs.Turns.{same_spot, same_side}

-- two names of one side
abbrev pub is_same_side : Side → Side → Bool
is_same_side s t = (int_eq s.start.u t.start.u && int_eq s.start.v t.start.v) && same_heading s.heading t.heading

-- a side is among some sides
abbrev pub is_among : List Side → Side → Bool
is_among [] s = false
is_among (t ∷ ts) s = is_same_side t s || is_among ts s

same_heading-itself : (h : Heading) → same_heading h h ≡ true
same_heading-itself East = refl
same_heading-itself North = refl
same_heading-itself West = refl
same_heading-itself South = refl

same_heading-true : (h k : Heading) → same_heading h k ≡ true → h ≡ k
same_heading-true East East e = refl
same_heading-true East North e = absurd (false≢true e)
same_heading-true East West e = absurd (false≢true e)
same_heading-true East South e = absurd (false≢true e)
same_heading-true North East e = absurd (false≢true e)
same_heading-true North North e = refl
same_heading-true North West e = absurd (false≢true e)
same_heading-true North South e = absurd (false≢true e)
same_heading-true West East e = absurd (false≢true e)
same_heading-true West North e = absurd (false≢true e)
same_heading-true West West e = refl
same_heading-true West South e = absurd (false≢true e)
same_heading-true South East e = absurd (false≢true e)
same_heading-true South North e = absurd (false≢true e)
same_heading-true South West e = absurd (false≢true e)
same_heading-true South South e = refl

-- the test for one side is right
pub Decides-same_side : (s t : Side) → Decides (is_same_side s t) (s ≡ t)
Decides-same_side s t = Decides-like (is_same_side s t)
    (λ e. same_side s t (same_spot s.start t.start e.0.0 e.0.1) e.1)
    (λ e. ((ap (λ (x : Side). x.start.u) e, ap (λ (x : Side). x.start.v) e), ap (λ (x : Side). x.heading) e))
    (Decides-and (int_eq s.start.u t.start.u && int_eq s.start.v t.start.v) (same_heading s.heading t.heading)
    (Decides-and (int_eq s.start.u t.start.u) (int_eq s.start.v t.start.v) (Decides-int_eq s.start.u t.start.u)
    (Decides-int_eq s.start.v t.start.v))
    (same_heading-true s.heading t.heading, λ e. ap (same_heading s.heading) (sym e) ∙ same_heading-itself s.heading))

-- and so is the one for a member
pub Decides-is_among : (ss : List Side) (s : Side) → Decides (is_among ss s) (Member ss s)
Decides-is_among [] s = (λ e. both_ways false refl e, λ m. absurd m)
Decides-is_among (t ∷ ts) s = Decides-or (is_same_side t s) (is_among ts s) (Decides-same_side t s) (Decides-is_among ts s)

-- what is seen not to be among them is no member
pub not_among : (ss : List Side) (s : Side) → is_among ss s ≡ false → Member ss s → ⊥
not_among ss s none m = both_ways (is_among ss s) none ((Decides-is_among ss s).1 m)
