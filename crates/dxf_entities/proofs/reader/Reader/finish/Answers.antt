-- How the text ends, place by place.
use Rattle.std.proofs.Common.{Err, ap, ◌∙◌}
use Rattle.std.proofs.lemmas.Result.{err_from_is_err_and}
use Rattle.dxf_entities.proofs.Resumes.{ends_outside, ends_unnamed, ends_faulty, ends_inside, refused_is}
use Rattle.dxf_entities.proofs.reader.Reader.finish.Goals as goal
use Rattle.dxf_entities.proofs.reader.Reader.finish.Goals.{in-Unnamed, in-Inside+in_ok-close-in-Inside}

pub returns-in-Outside-clause-read : goal.returns-in-Outside-clause-read
returns-in-Outside-clause-read c = ends_outside c.args.self c.args.end c.in-Outside.is

pub returns-in_err-close-in-Inside-clause-fault : goal.returns-in_err-close-in-Inside-clause-fault
returns-in_err-close-in-Inside-clause-fault c = λ f is.
    let q = err_from_is_err_and c.from_residual.result c.from_residual.ensures.1 in
    ends_faulty c.args.self c.args.end c.in-Inside.field-0 f c.in-Inside.is
    (c.in_err-close-in-Inside.ensures.fault f cc)

pub returns-clause-fault : goal.returns-clause-fault
returns-clause-fault c = λ f is.
    elim c.match-reader.branch [
      | in-Unnamed w ↦ ends_unnamed c.args.self c.args.end w.in-Unnamed.is ∙ ap Err (refused_is _ f is)
      | in-Inside+in_ok-close-in-Inside w ↦
          ends_inside c.args.self w.close.new.self c.args.end w.in-Inside.field-0 w.in-Inside.is
          (w.close.ensures.place ∙ w.in-Inside.is)
          w.in_ok-close-in-Inside.ensures.closed ∙ ap Err (refused_is _ f is)
    ]
