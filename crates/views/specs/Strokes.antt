-- Strokes, of one kind, level or upright: what lines cover of a view. They may overlap.
use Rattle.std.specs.Prelude.{◌≡◌, ◌⊎◌, Bool, ◌&&◌, List, length, ℤ, ◌≤ℤ◌, ◌<ℤ◌, int_lt, int_le, if◌then◌else◌}
use Rattle.std.specs.List.{list_any, AllAdjacentBelow}
use Rattle.std.specs.Ordering.{int_eq}
use Rattle.solid_model.specs.declared.segment.Style.{Style}
use Rattle.solid_model.specs.declared.segment.Style.TheVariants.{Blank, Dashed, Solid}
use Rattle.solid_model.specs.Drawings.{same_style}
use Rattle.views.specs.declared.strokes.Stroke.{Stroke}

-- the stroke covers the unit length from z to z + 1 on the line j
abbrev pub stroke_covers : ℤ → ℤ → Stroke → Bool
stroke_covers j z s = int_eq s.at j && (int_le s.from z && int_lt z s.to)

-- and has that style
abbrev pub is_drawn : Style → ℤ → ℤ → Stroke → Bool
is_drawn style j z s = same_style style s.style && stroke_covers j z s

-- the style that strokes give that unit length: solid ones win over dashed ones
abbrev pub stroke_style : List Stroke → ℤ → ℤ → Style
stroke_style ss j z =
    if list_any (is_drawn Solid j z) ss then Solid
    else (if list_any (is_drawn Dashed j z) ss then Dashed else Blank)

-- of two styles solid wins, then dashed
abbrev pub stronger : Style → Style → Style
stronger Solid b = Solid
stronger Dashed Solid = Solid
stronger Dashed Dashed = Dashed
stronger Dashed Blank = Dashed
stronger Blank b = b

-- the stroke lies on a later line, or on this one and begins no earlier than the place
abbrev pub BeginsFrom : ℤ → ℤ → Stroke → Type 0
BeginsFrom at place s = (at <ℤ s.at) ⊎ ((at ≡ s.at) × (place ≤ℤ s.from))

-- strokes in order, by line and then start
abbrev pub AreInOrder : List Stroke → Type 0
AreInOrder ss = AllAdjacentBelow (λ a b. BeginsFrom a.at a.from b) ss (length ss)
