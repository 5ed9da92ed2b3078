-- What strokes draw together.
use Rattle.std.proofs.Common.{◌≡◌, Bool, true, false, ◌&&◌, ◌||◌, if◌then◌else◌, List, [], ◌∷◌, ◌++◌, ℤ, refl, sym, ap, ap₂, ◌∙◌}
use Rattle.std.specs.List.{list_any}
use Rattle.std.proofs.lemmas.List.Folds.{list_any-append}
use Rattle.solid_model.specs.declared.segment.Style.{Style}
use Rattle.solid_model.specs.declared.segment.Style.TheVariants.{Blank, Dashed, Solid}
use Rattle.solid_model.specs.Drawings.{same_style}
use Rattle.views.specs.declared.strokes.Stroke.{Stroke}
use Rattle.views.specs.Strokes.{stroke_covers, is_drawn, stroke_style, stronger}

-- ---- the stronger of two styles

-- of three styles, in either grouping
pub stronger_assoc : (a b c : Style) → stronger (stronger a b) c ≡ stronger a (stronger b c)
stronger_assoc Solid b c = refl
stronger_assoc Dashed Solid c = refl
stronger_assoc Dashed Dashed Solid = refl
stronger_assoc Dashed Dashed Dashed = refl
stronger_assoc Dashed Dashed Blank = refl
stronger_assoc Dashed Blank c = refl
stronger_assoc Blank b c = refl

-- in either order
stronger_comm : (a b : Style) → stronger a b ≡ stronger b a
stronger_comm Solid Solid = refl
stronger_comm Solid Dashed = refl
stronger_comm Solid Blank = refl
stronger_comm Dashed Solid = refl
stronger_comm Dashed Dashed = refl
stronger_comm Dashed Blank = refl
stronger_comm Blank Solid = refl
stronger_comm Blank Dashed = refl
stronger_comm Blank Blank = refl

-- the last two exchanged
pub stronger_swap : (a b c : Style) → stronger (stronger a b) c ≡ stronger (stronger a c) b
stronger_swap a b c = stronger_assoc a b c ∙ ap (stronger a) (stronger_comm b c) ∙ sym (stronger_assoc a c b)

-- a style is no weaker than blank
pub stronger-blank : (a : Style) → stronger a Blank ≡ a
stronger-blank Solid = refl
stronger-blank Dashed = refl
stronger-blank Blank = refl

-- ---- one list of strokes after another

-- the style by whether a solid and whether a dashed stroke covers
abbrev chosen : Bool → Bool → Style
chosen solid dashed = if solid then Solid else (if dashed then Dashed else Blank)

-- either of two solid, or else of two dashed, gives the stronger of both choices
chosen-or : (a b c d : Bool) → chosen (a || b) (c || d) ≡ stronger (chosen a c) (chosen b d)
chosen-or true b c d = refl
chosen-or false true true d = refl
chosen-or false true false d = refl
chosen-or false false true true = refl
chosen-or false false true false = refl
chosen-or false false false d = refl

-- two lists of strokes draw the stronger of what each draws
pub stroke_style-append : (xs ys : List Stroke) (j z : ℤ) → stroke_style (xs ++ ys) j z ≡ stronger (stroke_style xs j z) (stroke_style ys j z)
stroke_style-append xs ys j z =
    ap₂ chosen (list_any-append (is_drawn Solid j z) xs ys) (list_any-append (is_drawn Dashed j z) xs ys)
    ∙ chosen-or (list_any (is_drawn Solid j z) xs) (list_any (is_drawn Solid j z) ys) (list_any (is_drawn Dashed j z) xs) (list_any (is_drawn Dashed j z) ys)

-- a style where a stroke covers, else blank
abbrev pub drawn_if : Bool → Style → Style
drawn_if covers style = if covers then style else Blank

-- a style where either of two covers
pub drawn_if-or : (one other : Bool) (style : Style) → drawn_if (one || other) style ≡ stronger (drawn_if one style) (drawn_if other style)
drawn_if-or true true Solid = refl
drawn_if-or true true Dashed = refl
drawn_if-or true true Blank = refl
drawn_if-or true false Solid = refl
drawn_if-or true false Dashed = refl
drawn_if-or true false Blank = refl
drawn_if-or false other style = refl

-- a test with either of two is the test with one or with the other
pub and-or : (t a b : Bool) → (t && (a || b)) ≡ ((t && a) || (t && b))
and-or true a b = refl
and-or false a b = refl

-- with one stroke the choice is its style where it covers
chosen_one : (style : Style) (covers : Bool) → chosen ((same_style Solid style && covers) || false) ((same_style Dashed style && covers) || false) ≡ drawn_if covers style
chosen_one Solid true = refl
chosen_one Solid false = refl
chosen_one Dashed true = refl
chosen_one Dashed false = refl
chosen_one Blank true = refl
chosen_one Blank false = refl

-- one stroke draws its style where it covers
pub stroke_style-one : (r : Stroke) (j z : ℤ) → stroke_style (r ∷ []) j z ≡ drawn_if (stroke_covers j z r) r.style
stroke_style-one r j z = chosen_one r.style (stroke_covers j z r)

-- two strokes
pub stroke_style-two : (r s : Stroke) (j z : ℤ) → stroke_style (r ∷ s ∷ []) j z ≡ stronger (drawn_if (stroke_covers j z r) r.style) (drawn_if (stroke_covers j z s) s.style)
stroke_style-two r s j z = stroke_style-append (r ∷ []) (s ∷ []) j z ∙ ap₂ stronger (stroke_style-one r j z) (stroke_style-one s j z)

-- one more stroke beside what strokes draw
pub one_more_seen : (before : Style) (ss : List Stroke) (s : Stroke) (j z : ℤ) → before ≡ stroke_style ss j z
    → stronger before (stroke_style (s ∷ []) j z) ≡ stroke_style (ss ++ s ∷ []) j z
one_more_seen before ss s j z e = ap (λ b. stronger b (stroke_style (s ∷ []) j z)) e ∙ sym (stroke_style-append ss (s ∷ []) j z)
