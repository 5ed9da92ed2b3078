-- The marks on the chosen cells tell the fullness of the grid's cells.
use Rattle.std.proofs.Common.{◌≡◌, ◌&&◌, IfOk, false, Bool, length, slice_index_or, sym, ap, subst, ◌∙◌, arith}
use Rattle.std.proofs.lemmas.List.{length-map}
use Rattle.std.proofs.lemmas.Result.{IfOk-weaker}
use Rattle.solid_model.specs.declared.cell.Cell.{Cell}
use Rattle.face_laws.specs.GridFaces.{numbered_fullness}
use Rattle.solid_model.specs.Choices.{cells_of_choice, is_chosen}
use Rattle.lemmas.specs.Lists.{Each}
use Rattle.solid_model.specs.Marks.{BoxMarks, is_marked}
use Rattle.solid_model.specs.Panels.{coordinates_of}
use Rattle.solid_model.specs.PerAxis.{numbers_of}
use Rattle.solid_model.specs.WalledBoxes.{is_within, box_place, box_count}
use Rattle.solid_model.specs.GridBox.{grid_sizes}
use Rattle.stl_out.specs.Numbered.{IsOfGrid}
use Rattle.stl_out.specs.Rectangles.{AreRectanglesOf}
use Rattle.stl_out.proofs.OnGrid.{all_of_grid}
use Rattle.stl_out.proofs.surface.rectangles_of.Goals as goal

pub new-marks-requires : goal.new-marks-requires
new-marks-requires c =
    let p = c.args.problem.now in
    record {
      few = λ a. let l = c.sizes.ensures.few a in omega arith;
      listed = ap length c.in_ok-cells.ensures ∙ length-map p.blocks.numbers (is_chosen c.args.choice.now) ∙ c.grid.ensures.kept.blocks.listed
          ∙ sym (ap box_count (c.sizes.ensures.sizes ∙ ap grid_sizes c.grid.ensures.grid));
    }

pub returns-clause-all : goal.returns-clause-all
returns-clause-all c =
    let p = c.args.problem.now in
    let coordinates = coordinates_of p.grid in
    let chosen = cells_of_choice p.blocks.numbers c.args.choice.now in
    let m : BoxMarks = c.in_ok-rows.rows in
    let marks : m ≡ record { sizes = c.sizes.result; values = c.in_ok-cells.cells.items } = c.in_ok-rows.ensures ∙ c.new-marks.ensures in
    let sizes : numbers_of m.sizes ≡ grid_sizes p.grid =
    ap (λ (n : BoxMarks). numbers_of n.sizes) marks ∙ c.sizes.ensures.sizes ∙ ap grid_sizes c.grid.ensures.grid in
    let values : m.values ≡ chosen = ap (λ (n : BoxMarks). n.values) marks ∙ c.in_ok-cells.ensures in
    let same : is_marked m ≡ numbered_fullness coordinates chosen =
    λ t n. is_within (sizes t) n && slice_index_or (values t) (box_place (sizes t) n) false in
    subst (λ (f : Cell → Bool). IfOk c.boundary_rectangles.result (λ rs. AreRectanglesOf f rs.items)) same c.boundary_rectangles.ensures.all

pub returns-clause-numbered : goal.returns-clause-numbered
returns-clause-numbered c =
    let p = c.args.problem.now in
    let coordinates = coordinates_of p.grid in
    let m : BoxMarks = c.in_ok-rows.rows in
    let marks : m ≡ record { sizes = c.sizes.result; values = c.in_ok-cells.cells.items } = c.in_ok-rows.ensures ∙ c.new-marks.ensures in
    let sizes : numbers_of m.sizes ≡ grid_sizes p.grid =
    ap (λ (n : BoxMarks). numbers_of n.sizes) marks ∙ c.sizes.ensures.sizes ∙ ap grid_sizes c.grid.ensures.grid in
    IfOk-weaker c.boundary_rectangles.result (λ rs. AreRectanglesOf (is_marked m) rs.items) (λ rs. Each (IsOfGrid coordinates) rs.items)
    (λ rs are. all_of_grid m coordinates (λ a t. sizes t a) rs.items are) c.boundary_rectangles.ensures.all
