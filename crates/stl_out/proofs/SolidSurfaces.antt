-- What the text of a solid shows: triangles that close, of rectangles that cover its boundary.
use Rattle.std.proofs.Common.{◌≡◌, Bool, true, false, ℕ, ℤ, List, map, refl, subst, ◌<ℤ◌, IsTrue}
use Rattle.face_laws.specs.GridFaces.{Planes, point_of_numbers, grid_planes, numbered_fullness}
use Rattle.face_laws.specs.GridRounds.{Rises}
use Rattle.face_laws.proofs.GridLines.{on_line, one_between, some_between}
use Rattle.face_laws.proofs.GridPlanes.{planes_rise, union_cells}
use Rattle.solid_model.specs.declared.cell.Axis.{Axis}
use Rattle.solid_model.specs.declared.cell.Axis.TheVariants.{X, Y, Z}
use Rattle.solid_model.specs.declared.cell.Cell.{Cell}
use Rattle.solid_model.specs.declared.frame.View.{View}
use Rattle.solid_model.specs.declared.frame.View.TheVariants.{Front, Top}
use Rattle.solid_model.specs.declared.segment.Segment.{Segment}
use Rattle.solid_model.specs.Cells.{is_full, IsSolid}
use Rattle.solid_model.specs.DrawnStyle.{solid_drawing}
use Rattle.solid_model.specs.Frames.{frame_of}
use Rattle.solid_model.specs.Grid.{Coordinates, AreGridCoordinates, IsUnionOf}
use Rattle.lemmas.specs.Lists.{Member, Ascends}
use Rattle.solid_model.specs.Matching.{Matches}
use Rattle.solid_model.specs.Moved.{Shows, SeesEachAxis}
use Rattle.solid_model.specs.Segments.{segment_at}
use Rattle.solid_model.proofs.ChosenSolids.{matching_union}
use Rattle.solid_model.proofs.Corners.{corners}
use Rattle.solid_model.proofs.Fullness.{full_cell_of, is_full-member}
use Rattle.lemmas.proofs.Lists.{member-map}
use Rattle.solid_model.proofs.Styles.{edge_not_blank, drawn_style_drawn}
use Rattle.solid_model.proofs.Views.{views_are_frames}
use Rattle.solid_model.proofs.WithinViews.{Least, outermost}
use Rattle.stl_out.specs.declared.rectangle.Rectangle.{Rectangle}
use Rattle.stl_out.specs.Closed.{Close, CoverBoundary}
use Rattle.stl_out.specs.Rectangles.{AreRectanglesOf, all_triangles}
use Rattle.stl_out.specs.SolidStl.{grid_fullness, IsSolidStl}
use Rattle.stl_out.specs.StlText.{stl_text}
use Rattle.stl_out.proofs.Closing.{closes}
use Rattle.stl_out.proofs.Covering.{covered}
use Rattle.stl_out.proofs.SolidTexts.{same_cells}

module _ (s : List Cell) (coordinates : Coordinates) (are : (a : Axis) → AreGridCoordinates (solid_drawing s) a (coordinates a))
    (rs : List Rectangle) (all : AreRectanglesOf (grid_fullness coordinates (is_full s)) rs) where
  abbrev ascends : (a : Axis) → Ascends ◌<ℤ◌ (coordinates a)
  ascends a = (are a).ordered

  abbrev planes : Planes
  planes = grid_planes coordinates

  rises : (a : Axis) → Rises (planes a)
  rises a = planes_rise (coordinates a) (ascends a)

  -- the numbers of the grid cell in which a unit cell lies
  abbrev number_along : (a : Axis) → ℤ → ℤ
  number_along a z = (some_between (planes a) (rises a) z).0

  abbrev numbers_at : Cell → Cell
  numbers_at c = record { x = number_along X c.x; y = number_along Y c.y; z = number_along Z c.z }

  -- at its least corner they are its own
  own_number : (a : Axis) (k : ℤ) → number_along a (planes a k) ≡ k
  own_number a k = one_between (planes a) (rises a) (number_along a (planes a k)) k (planes a k) (some_between (planes a) (rises a) (planes a k)).1
      (on_line (planes a) (rises a) k)

  own_numbers : (n : Cell) → numbers_at (point_of_numbers planes n) ≡ n
  own_numbers n = λ i. record { x = own_number X n.x i; y = own_number Y n.y i; z = own_number Z n.z i }

  -- so the full grid cells are among those of the solid's cells
  finite : (n : Cell) → IsTrue (grid_fullness coordinates (is_full s) n) → Member (map numbers_at s) n
  finite n full = subst (Member (map numbers_at s)) (own_numbers n)
      (member-map numbers_at s (point_of_numbers planes n) (is_full-member s (point_of_numbers planes n) full))

  close : Close (all_triangles planes rs)
  close = closes planes (grid_fullness coordinates (is_full s)) (map numbers_at s) finite rs all

  module _ (is_solid : IsSolid s) where
    -- a solid matches its own drawing
    matches_own : Matches (solid_drawing s) s
    matches_own = (is_solid, λ g shows. drawn_style_drawn (frame_of g.view) (views_are_frames g.view) s g)

    -- each view shows something of it, an outermost edge, so its drawing sees each axis
    shows_edge : (v : View) → Shows (solid_drawing s) v
    shows_edge v =
        let some = full_cell_of s is_solid in
        let o = outermost (frame_of v) (views_are_frames v) s v true Least some.0 some.1 in
        let g : Segment = segment_at v true o.start o.line in
        (g, refl, edge_not_blank (frame_of v) (is_full s) g (solid_drawing s g) (drawn_style_drawn (frame_of v) (views_are_frames v) s g) o.depth o.edge)

    sees_own : SeesEachAxis (solid_drawing s)
    sees_own X = (Front, false, refl, shows_edge Front)
    sees_own Y = (Top, true, refl, shows_edge Top)
    sees_own Z = (Front, true, refl, shows_edge Front)

    -- so it is the union of the grid cells whose corners it fills
    abbrev chosen : List Bool
    chosen = map (is_full s) (corners coordinates ascends)

    union : IsUnionOf coordinates chosen (is_full s)
    union = matching_union (solid_drawing s) sees_own coordinates are s matches_own

    of_chosen : AreRectanglesOf (numbered_fullness coordinates chosen) rs
    of_chosen = subst (λ (full : Cell → Bool). AreRectanglesOf full rs) (same_cells (solid_drawing s) coordinates are s matches_own chosen union) all

    cover : CoverBoundary planes (is_full s) rs
    cover out at p = covered planes rises out at p (numbered_fullness coordinates chosen) (is_full s)
        (union_cells coordinates ascends chosen (is_full s) union) rs of_chosen

pub close_and_cover : (s : List Cell) → IsSolid s → (text : List ℕ) → IsSolidStl s text
    → (planes : Planes) × (rs : List Rectangle) × (text ≡ stl_text (all_triangles planes rs))
    × Close (all_triangles planes rs) × CoverBoundary planes (is_full s) rs
close_and_cover s is_solid text (coordinates, are, rs, all, is) =
    (grid_planes coordinates, rs, is, close s coordinates are rs all, cover s coordinates are rs all is_solid)
