-- Each form writes what is said of it.
use Rattle.std.proofs.Common.{subst, sym}
use Rattle.recon_run.specs.Searched.{writes_of}
use Rattle.replies.specs.Writings.{EndsText}
use Rattle.tv_base.specs.Faults.{Rose}
use Rattle.recon_run.proofs.export.Export.write.Goals as goal

pub returns-in-Drawing : goal.returns-in-Drawing
returns-in-Drawing g c s are = subst (λ e. EndsText (writes_of e c.args.decimals s) (writes_of e c.args.decimals s) (g.K.Sink.held c.args.sink.now)
    (g.K.Sink.held c.write_drawing.new.sink) (Rose (g.K.Sink.faults c.args.sink.now) (g.K.Sink.faults c.write_drawing.new.sink)) c.write_drawing.result)
    (sym c.in-Drawing.is) (c.write_drawing.ensures s are)

pub returns-in-Triangles : goal.returns-in-Triangles
returns-in-Triangles g c s are = subst (λ e. EndsText (writes_of e c.args.decimals s) (writes_of e c.args.decimals s) (g.K.Sink.held c.args.sink.now)
    (g.K.Sink.held c.write_triangles.new.sink) (Rose (g.K.Sink.faults c.args.sink.now) (g.K.Sink.faults c.write_triangles.new.sink)) c.write_triangles.result)
    (sym c.in-Triangles.is) (c.write_triangles.ensures s are)
