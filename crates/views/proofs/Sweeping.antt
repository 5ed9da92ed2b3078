-- A sweep over strokes: what goes into the runs, and what still reaches beyond.
use Rattle.std.proofs.Common.{◌≡◌, inl, inr, ⊎_elim, Bool, true, false, not, ◌&&◌, List, [], ◌∷◌, ℤ, ◌≤ℤ◌, ◌<ℤ◌, int_lt, int_le, int_eq, refl, sym, ap, ap₂, ◌∙◌, arith}
use Rattle.std.specs.Int.{int_min, int_max}
use Rattle.std.proofs.lemmas.Bool.{false≢true, and_parts, false_from_ne_true}
use Rattle.std.proofs.lemmas.Int.{ints}
use Rattle.solid_model.specs.declared.runs.Run.{Run}
use Rattle.solid_model.specs.declared.segment.Style.{Style}
use Rattle.solid_model.specs.declared.segment.Style.TheVariants.{Blank, Dashed, Solid}
use Rattle.solid_model.specs.Runs.{run_style}
use Rattle.lemmas.proofs.Lists.{each-weaker}
use Rattle.views.specs.declared.strokes.Stroke.{Stroke}
use Rattle.views.specs.Joined.{EndsBy, EndBy}
use Rattle.views.specs.Strokes.{stroke_covers, stroke_style, stronger}
use Rattle.views.specs.declared.sweep.Sweep.{Sweep}
use Rattle.views.specs.Sweeps.{stroke, solid_piece, dashed_piece, seen_style}
use Rattle.views.proofs.IntTests.{lt-min, lt-max, max-le, le-not_lt}
use Rattle.views.proofs.Together.{stronger_assoc, stronger-blank, stronger_swap, drawn_if, drawn_if-or, and-or, stroke_style-one, stroke_style-two}

-- what two strokes draw from a place on, a solid and a dashed one
abbrev open_style : Bool → Bool → Bool → Bool → Style
open_style on past solid dashed = stronger (drawn_if (on && (past && solid)) Solid) (drawn_if (on && (past && dashed)) Dashed)

-- ---- what is settled

-- On the line or off it, past the place at which the sweep stands or not, before `until` or not, and before the ends of the
-- solid and the dashed line or not: the two pieces before `until` and the two strokes from there on draw what the two
-- strokes draw.
settled_tests : (on past before solid dashed : Bool) → (before ≡ false → past ≡ true)
    → stronger (stronger (drawn_if (on && (past && (solid && before))) Solid) (drawn_if (on && ((past && not solid) && (dashed && before))) Dashed))
    (open_style on (not before) solid dashed)
    ≡ open_style on past solid dashed
settled_tests false past before solid dashed h = refl
settled_tests true true true true true h = refl
settled_tests true true true true false h = refl
settled_tests true true true false true h = refl
settled_tests true true true false false h = refl
settled_tests true true false true true h = refl
settled_tests true true false true false h = refl
settled_tests true true false false true h = refl
settled_tests true true false false false h = refl
settled_tests true false true solid dashed h = refl
settled_tests true false false solid dashed h = absurd (false≢true (h refl))

-- what a stroke of the line `at` covers, by its tests
abbrev on_line : ℤ → ℤ → ℤ → ℤ → ℤ → Bool
on_line at from to j z = int_eq at j && (int_le from z && int_lt z to)

-- a place before which another isn't lies past whatever lies before that other
past_until : (from until z : ℤ) → from ≤ℤ until → int_lt z until ≡ false → int_le from z ≡ true
past_until from until z h e = grind (arith, ints)

-- the pieces before `until` and the strokes from there on
pub settled_place : (at from until solid_to dashed_to j z : ℤ) → from ≤ℤ until
    → stronger (stronger (drawn_if (on_line at from (int_min solid_to until) j z) Solid) (drawn_if (on_line at (int_max from solid_to) (int_min dashed_to until) j z) Dashed))
    (stronger (drawn_if (on_line at until solid_to j z) Solid) (drawn_if (on_line at until dashed_to j z) Dashed))
    ≡ stronger (drawn_if (on_line at from solid_to j z) Solid) (drawn_if (on_line at from dashed_to j z) Dashed)
settled_place at from until solid_to dashed_to j z h =
    ap₂ (λ before beyond. stronger before beyond)
    (ap₂ (λ solid dashed. stronger (drawn_if (int_eq at j && (int_le from z && solid)) Solid) (drawn_if (int_eq at j && dashed) Dashed))
    (lt-min z solid_to until) (ap₂ ◌&&◌ (max-le from solid_to z) (lt-min z dashed_to until)))
    (ap (λ past. open_style (int_eq at j) past (int_lt z solid_to) (int_lt z dashed_to)) (le-not_lt until z))
    ∙ settled_tests (int_eq at j) (int_le from z) (int_lt z until) (int_lt z solid_to) (int_lt z dashed_to) (past_until from until z h)

-- two pieces behind the runs, and what reaches beyond
pub settled_draws : (s : Sweep) (with_solid with_dashed : List Run) (until : ℤ) → s.from ≤ℤ until
    → ((j z : ℤ) → run_style with_solid j z ≡ stronger (run_style s.runs.items j z) (stroke_style (solid_piece s until ∷ []) j z))
    → ((j z : ℤ) → run_style with_dashed j z ≡ stronger (run_style with_solid j z) (stroke_style (dashed_piece s until ∷ []) j z))
    → (j z : ℤ) → stronger (run_style with_dashed j z) (stroke_style (stroke s.at until s.solid_to Solid ∷ stroke s.at until s.dashed_to Dashed ∷ []) j z)
    ≡ seen_style s j z
settled_draws s with_solid with_dashed until h first second j z =
    let a = stroke_style (solid_piece s until ∷ []) j z in
    let b = stroke_style (dashed_piece s until ∷ []) j z in
    let beyond = stroke_style (stroke s.at until s.solid_to Solid ∷ stroke s.at until s.dashed_to Dashed ∷ []) j z in
    let before = run_style s.runs.items j z in
    ap (λ t. stronger t beyond) (second j z ∙ ap (λ t. stronger t b) (first j z) ∙ stronger_assoc before a b)
    ∙ stronger_assoc before (stronger a b) beyond
    ∙ ap (stronger before)
    (ap₂ stronger (ap₂ stronger (stroke_style-one (solid_piece s until) j z) (stroke_style-one (dashed_piece s until) j z))
    (stroke_style-two (stroke s.at until s.solid_to Solid) (stroke s.at until s.dashed_to Dashed) j z)
    ∙ settled_place s.at s.from until s.solid_to s.dashed_to j z h
    ∙ sym (stroke_style-two (stroke s.at s.from s.solid_to Solid) (stroke s.at s.from s.dashed_to Dashed) j z))

-- ---- on to a later line

-- a stroke that ends no later than it begins covers nothing
none_covered : (at from to j z : ℤ) → to ≤ℤ from → on_line at from to j z ≡ false
none_covered at from to j z h = false_from_ne_true (on_line at from to j z) (λ t.
    let s = and_parts (int_le from z) (int_lt z to) (and_parts (int_eq at j) _ t).1 in omega (arith, ints, s.0, s.1))

-- where nothing reaches beyond the place, only what is before draws
pub nothing_beyond : (before : Style) (at from solid_to dashed_to j z : ℤ) → solid_to ≤ℤ from → dashed_to ≤ℤ from
    → stronger before (stroke_style (stroke at from solid_to Solid ∷ stroke at from dashed_to Dashed ∷ []) j z) ≡ before
nothing_beyond before at from solid_to dashed_to j z h k =
    ap (stronger before) (stroke_style-two (stroke at from solid_to Solid) (stroke at from dashed_to Dashed) j z
    ∙ ap₂ (λ c d. stronger (drawn_if c Solid) (drawn_if d Dashed)) (none_covered at from solid_to j z h) (none_covered at from dashed_to j z k))
    ∙ stronger-blank before

-- what ends by one place ends by a later one
pub end_by-later : (at one other : ℤ) (rs : List Run) → one ≤ℤ other → EndBy at one rs → EndBy at other rs
end_by-later at one other rs later ends =
    each-weaker (EndsBy at one) (EndsBy at other) rs
    (λ r k. ⊎_elim {C = EndsBy at other r} inl (λ h. inr (h.0, omega (arith, ints, h.1))) k) ends

-- what ends on a line ends before a later one
pub end_by-line : (at from later place : ℤ) (rs : List Run) → at <ℤ later → EndBy at from rs → EndBy later place rs
end_by-line at from later place rs h ends =
    each-weaker (EndsBy at from) (EndsBy later place) rs
    (λ r k. inl (⊎_elim {C = r.at <ℤ later} (λ l. omega (arith, ints)) (λ l. omega (arith, ints, l.0)) k)) ends

-- ---- one stroke more

-- a stroke that reaches as far as the farther of two draws what both draw
farther_draws : (at from one other : ℤ) (style : Style) (j z : ℤ)
    → drawn_if (on_line at from (int_max one other) j z) style ≡ stronger (drawn_if (on_line at from one j z) style) (drawn_if (on_line at from other j z) style)
farther_draws at from one other style j z =
    ap (λ t. drawn_if (int_eq at j && (int_le from z && t)) style) (lt-max z one other)
    ∙ ap (λ t. drawn_if (int_eq at j && t) style) (and-or (int_le from z) (int_lt z one) (int_lt z other))
    ∙ ap (λ t. drawn_if t style) (and-or (int_eq at j) (int_le from z && int_lt z one) (int_le from z && int_lt z other))
    ∙ drawn_if-or (on_line at from one j z) (on_line at from other j z) style

module _ (before : Style) (at from solid_to dashed_to to j z : ℤ) where
  -- a solid and a dashed stroke from the place on
  abbrev beyond : ℤ → ℤ → Style
  beyond solid dashed = stroke_style (stroke at from solid Solid ∷ stroke at from dashed Dashed ∷ []) j z

  -- what one from the place on draws
  abbrev drawn : ℤ → Style → Style
  drawn end style = drawn_if (on_line at from end j z) style

  -- the strokes beyond the place draw what they drew, and one more
  reaching : (solid dashed : ℤ) (style : Style)
      → stronger (drawn solid Solid) (drawn dashed Dashed) ≡ stronger (stronger (drawn solid_to Solid) (drawn dashed_to Dashed)) (drawn to style)
      → stronger before (beyond solid dashed) ≡ stronger (stronger before (beyond solid_to dashed_to)) (stroke_style (stroke at from to style ∷ []) j z)
  reaching solid dashed style e =
      ap (stronger before)
      (stroke_style-two (stroke at from solid Solid) (stroke at from dashed Dashed) j z
      ∙ e
      ∙ ap₂ stronger (sym (stroke_style-two (stroke at from solid_to Solid) (stroke at from dashed_to Dashed) j z)) (sym (stroke_style-one (stroke at from to style) j z)))
      ∙ sym (stronger_assoc before (beyond solid_to dashed_to) (stroke_style (stroke at from to style ∷ []) j z))

  -- a solid one
  pub reaching_solid : stronger before (beyond (int_max solid_to to) dashed_to)
      ≡ stronger (stronger before (beyond solid_to dashed_to)) (stroke_style (stroke at from to Solid ∷ []) j z)
  reaching_solid = reaching (int_max solid_to to) dashed_to Solid
      (ap (λ s. stronger s (drawn dashed_to Dashed)) (farther_draws at from solid_to to Solid j z)
      ∙ stronger_swap (drawn solid_to Solid) (drawn to Solid) (drawn dashed_to Dashed))

  -- a dashed one
  pub reaching_dashed : stronger before (beyond solid_to (int_max dashed_to to))
      ≡ stronger (stronger before (beyond solid_to dashed_to)) (stroke_style (stroke at from to Dashed ∷ []) j z)
  reaching_dashed = reaching solid_to (int_max dashed_to to) Dashed
      (ap (stronger (drawn solid_to Solid)) (farther_draws at from dashed_to to Dashed j z)
      ∙ sym (stronger_assoc (drawn solid_to Solid) (drawn dashed_to Dashed) (drawn to Dashed)))

-- a stroke that isn't drawn adds nothing
pub blank_adds : (before : Style) (r : Stroke) (j z : ℤ) → r.style ≡ Blank → before ≡ stronger before (stroke_style (r ∷ []) j z)
blank_adds before r j z e =
    sym (ap (stronger before) (stroke_style-one r j z ∙ ap (drawn_if (stroke_covers j z r)) e ∙ blank_if (stroke_covers j z r)) ∙ stronger-blank before)
  where
    blank_if : (c : Bool) → drawn_if c Blank ≡ Blank
    blank_if true = refl
    blank_if false = refl

-- a stroke by its parts
pub stroke_is : (r : Stroke) (at from : ℤ) (style : Style) → at ≡ r.at → from ≡ r.from → r.style ≡ style → stroke at from r.to style ≡ r
stroke_is r at from style on begins drawn = λ i. record { at = on i; from = begins i; to = r.to; style = sym drawn i }
