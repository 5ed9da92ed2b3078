-- The piece before, and then two triangles.
use Rattle.std.proofs.Common.{◌++◌, sym, subst}
use Rattle.face_laws.specs.GridFaces.{grid_planes}
use Rattle.solid_model.specs.Panels.{coordinates_of}
use Rattle.stl_out.specs.Pieces.{rectangle_text}
use Rattle.tv_base.specs.Pieces.{WritesOn}
use Rattle.tv_base.proofs.WrittenPieces.{written_more, left_over, at_error}
use Rattle.stl_out.proofs.write.write_rectangle.Goals as goal

pub returns-in_err-push_rectangle-clause-err : goal.returns-in_err-push_rectangle-clause-err
returns-in_err-push_rectangle-clause-err g c = at_error c.from_residual-in_err-push_rectangle.result
    (left_over (g.K.Sink.held c.args.sink.now) (g.K.Sink.held c.write_if_full.new.sink) c.args.piece.now.items c.write_if_full.new.piece.items c.in_ok-write_if_full.ensures.ok)

pub returns-clause-ok : goal.returns-clause-ok
returns-clause-ok g c =
    let text = rectangle_text (grid_planes (coordinates_of c.args.parts.now)) c.args.rectangle.now in
    subst (WritesOn (g.K.Sink.held c.args.sink.now) (g.K.Sink.held c.write_if_full.new.sink) (c.args.piece.now.items ++ text)) (sym c.in_ok-push_rectangle.ensures.text)
    (written_more (g.K.Sink.held c.args.sink.now) (g.K.Sink.held c.write_if_full.new.sink) c.args.piece.now.items c.write_if_full.new.piece.items text c.in_ok-write_if_full.ensures.ok)
