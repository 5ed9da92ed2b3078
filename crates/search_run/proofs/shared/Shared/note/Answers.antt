-- After a report what is published is still a beginning of what is found.
use Rattle.std.proofs.Common.{◌∙◌, subst}
use Rattle.solid_model.specs.Blocks.{ProblemParts, IsBlocksOf}
use Rattle.search_run.proofs.Published.{noted}
use Rattle.search_run.proofs.shared.Shared.note.Goals as goal

pub invariant_of-self : goal.invariant_of-self
invariant_of-self g c =
    let d = c.self.inside.desk in
    let blocks : IsBlocksOf d.problem.grid d.problem.blocks = subst (λ (p : ProblemParts). IsBlocksOf p.grid p.blocks) (c.deref.ensures ∙ c.problem.ensures.problem) c.known.ensures.blocks in
    noted d c.known-2.ensures blocks c.report_ready.new.self c.args.report c.self.inside.book.edition c.in-Ok.answer c.in-Ok.ensures.answer c.self.invariant
