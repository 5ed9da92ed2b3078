-- Sections: a solid is cut by a plane across the sight axis, what stands before it is taken away, and hidden edges are left out.
use Rattle.std.specs.Prelude.{Bool, List, ℤ, int_le, if◌then◌else◌}
use Rattle.std.specs.List.{filter}
use Rattle.std.specs.Ordering.{int_eq}
use Rattle.solid_model.specs.declared.cell.Cell.{Cell}
use Rattle.solid_model.specs.declared.frame.Frame.{Frame}
use Rattle.solid_model.specs.declared.segment.Style.{Style}
use Rattle.solid_model.specs.declared.segment.Style.TheVariants.{Blank, Dashed, Solid}
use Rattle.solid_model.specs.Boxes.{place_of}
use Rattle.solid_model.specs.Frames.{point_on}

-- The plane is told by its coordinate on the sight axis. A cell stands behind it where it isn't nearer to the viewer; one that
-- fills k to k + 1 along the sight stands behind planes up to k.
abbrev pub is_behind : Frame → ℤ → Cell → Bool
is_behind f plane c = int_le (point_on f.away plane) (place_of f.away c)

-- it touches the plane from behind
abbrev pub is_cut : Frame → ℤ → Cell → Bool
is_cut f plane c = int_eq (point_on f.away plane) (place_of f.away c)

-- what is left of a solid that is cut there: a solid again, or nothing
abbrev pub rest_behind : Frame → ℤ → List Cell → List Cell
rest_behind f plane s = filter (is_behind f plane) s

-- the cells that the plane cuts through, or on whose near sides it lies: what is hatched
abbrev pub cut_area : Frame → ℤ → List Cell → List Cell
cut_area f plane s = filter (is_cut f plane) s

-- of which a view shows the solid lines: of the cut area, or of all that is left
abbrev pub left_by : Frame → ℤ → Bool → List Cell → List Cell
left_by f plane area s = if area then cut_area f plane s else rest_behind f plane s

-- a style where hidden edges are left out
abbrev pub visible_style : Style → Style
visible_style Blank = Blank
visible_style Dashed = Blank
visible_style Solid = Solid
