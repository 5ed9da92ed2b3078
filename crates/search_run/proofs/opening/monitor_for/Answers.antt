-- Nothing is published yet.
use Rattle.std.proofs.Common.{◌≡◌, ◌++◌, sym, ◌∙◌, ap}
use Rattle.std.specs.Arc.{arc_value}
use Rattle.solution_book.specs.Editions.{BookParts}
use Rattle.search_run.proofs.opening.monitor_for.Goals as goal

pub new-requires : goal.new-requires
new-requires g c =
    let is = c.in_ok-book.ensures.writer in
    let own : arc_value c.in_ok-try_clone.field-0 ≡ arc_value c.args.problem.now = c.in_ok-try_clone.ensures in
    record {
      problem = ap (λ (b : BookParts). b.edition.problem) is ∙ own ∙ sym c.requires.problem;
      begins = (c.args.desk.found, sym (ap (λ (b : BookParts). b.edition.solids ++ c.args.desk.found) is));
    }
