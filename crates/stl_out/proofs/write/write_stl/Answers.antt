-- The rectangles have a text, whatever is written of it.
use Rattle.std.proofs.Common.{Bool, List}
use Rattle.std.specs.Io.KnownBytes.{Appends}
use Rattle.std.proofs.lemmas.Result.{on_ok_weaker, on_err_weaker}
use Rattle.face_laws.specs.GridFaces.{grid_planes}
use Rattle.solid_model.specs.Choices.{cells_of_choice}
use Rattle.solid_model.specs.Grid.{Coordinates}
use Rattle.solid_model.specs.Panels.{coordinates_of}
use Rattle.stl_out.specs.Rectangles.{all_triangles}
use Rattle.stl_out.specs.StlText.{stl_text}
use Rattle.stl_out.proofs.SomeRectangles.{some_rectangles, is_text}
use Rattle.tv_base.proofs.WrittenPieces.{no_prefix}
use Rattle.tv_base.specs.Pieces.{AppendsPrefix}
use Rattle.stl_out.proofs.write.write_stl.Goals as goal

pub returns-in-Ok-clause-ok : goal.returns-in-Ok-clause-ok
returns-in-Ok-clause-ok g c =
    let coordinates : Coordinates = coordinates_of c.args.problem.now.grid in
    let chosen : List Bool = cells_of_choice c.args.problem.now.blocks.numbers c.args.choice.now in
    let rs = c.in-Ok.rectangles.items in
    on_ok_weaker c.write_text.result (λ (h : Appends (g.K.Sink.held c.args.sink.now) (g.K.Sink.held c.write_text.new.sink)
    (stl_text (all_triangles (grid_planes (coordinates_of c.grid.result.now)) c.deref.result.now))). (
      stl_text (all_triangles (grid_planes (coordinates_of c.grid.result.now)) c.deref.result.now),
      is_text coordinates chosen rs c.in-Ok.ensures.all _
          (λ i. stl_text (all_triangles (grid_planes (coordinates_of (c.grid.ensures.grid i))) (c.deref.ensures.value i))),
      h,
    ))
    c.write_text.ensures.ok

pub returns-in-Ok-clause-err : goal.returns-in-Ok-clause-err
returns-in-Ok-clause-err g c =
    let coordinates : Coordinates = coordinates_of c.args.problem.now.grid in
    let chosen : List Bool = cells_of_choice c.args.problem.now.blocks.numbers c.args.choice.now in
    let rs = c.in-Ok.rectangles.items in
    on_err_weaker c.write_text.result (λ (h : AppendsPrefix (g.K.Sink.held c.args.sink.now) (g.K.Sink.held c.write_text.new.sink)
    (stl_text (all_triangles (grid_planes (coordinates_of c.grid.result.now)) c.deref.result.now))). (
      stl_text (all_triangles (grid_planes (coordinates_of c.grid.result.now)) c.deref.result.now),
      is_text coordinates chosen rs c.in-Ok.ensures.all _
          (λ i. stl_text (all_triangles (grid_planes (coordinates_of (c.grid.ensures.grid i))) (c.deref.ensures.value i))),
      h,
    ))
    c.write_text.ensures.err

pub returns-in-Err-clause-err : goal.returns-in-Err-clause-err
returns-in-Err-clause-err g c =
    let coordinates : Coordinates = coordinates_of c.args.problem.now.grid in
    let chosen : List Bool = cells_of_choice c.args.problem.now.blocks.numbers c.args.choice.now in
    let (rs, are) = some_rectangles coordinates chosen in
    let text = stl_text (all_triangles (grid_planes coordinates) rs) in
    (text, is_text coordinates chosen rs are text (λ i. text), no_prefix (g.K.Sink.held c.args.sink.now) text)
