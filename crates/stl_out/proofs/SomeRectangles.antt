-- The chosen cells of a grid have a list of boundary rectangles.
use Rattle.std.proofs.Common.{◌≡◌, ◌&&◌, Bool, false, ℕ, List, slice_index_or, refl, subst}
use Rattle.face_laws.specs.GridFaces.{grid_planes, numbered_fullness}
use Rattle.solid_model.specs.declared.cell.Axis.{Axis}
use Rattle.solid_model.specs.declared.cell.Axis.TheVariants.{X, Y, Z}
use Rattle.solid_model.specs.declared.cell.Cell.{Cell}
use Rattle.solid_model.specs.Grid.{Coordinates, gaps_along}
use Rattle.solid_model.specs.Marks.{BoxMarks, is_marked}
use Rattle.solid_model.specs.PerAxis.{numbers_of}
use Rattle.solid_model.specs.WalledBoxes.{is_within, box_place}
use Rattle.stl_out.specs.declared.rectangle.Rectangle.{Rectangle}
use Rattle.stl_out.specs.Rectangles.{AreRectanglesOf, all_triangles}
use Rattle.stl_out.specs.StlText.{stl_text, IsStlOf}
use Rattle.stl_out.specs.Walk.{on_all_sides}
use Rattle.stl_out.proofs.Walked.{all_rectangles}

module _ (coordinates : Coordinates) (chosen : List Bool) where
  -- the chosen cells as marks
  abbrev pub chosen_marks : BoxMarks
  chosen_marks = record {
    sizes = record { x = gaps_along coordinates X; y = gaps_along coordinates Y; z = gaps_along coordinates Z };
    values = chosen;
  }

  same_sizes : (a : Axis) → numbers_of chosen_marks.sizes a ≡ gaps_along coordinates a
  same_sizes X = refl
  same_sizes Y = refl
  same_sizes Z = refl

  same_fullness : is_marked chosen_marks ≡ numbered_fullness coordinates chosen
  same_fullness = λ i n. is_within (λ a. same_sizes a i) n && slice_index_or chosen (box_place (λ a. same_sizes a i) n) false

  -- the walk comes to all boundary rectangles
  pub walked : AreRectanglesOf (numbered_fullness coordinates chosen) (on_all_sides chosen_marks)
  walked = subst (λ (full : Cell → Bool). AreRectanglesOf full (on_all_sides chosen_marks)) same_fullness (all_rectangles chosen_marks)

  pub some_rectangles : (rs : List Rectangle) × AreRectanglesOf (numbered_fullness coordinates chosen) rs
  some_rectangles = (on_all_sides chosen_marks, walked)

  -- and each such list has the text
  pub is_text : (rs : List Rectangle) → AreRectanglesOf (numbered_fullness coordinates chosen) rs → (text : List ℕ)
      → text ≡ stl_text (all_triangles (grid_planes coordinates) rs) → IsStlOf coordinates chosen text
  is_text rs are text e = (all_triangles (grid_planes coordinates) rs, (rs, are, refl), e)
