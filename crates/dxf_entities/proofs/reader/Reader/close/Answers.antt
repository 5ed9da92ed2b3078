-- The open entry is closed.
use Rattle.std.proofs.Common.{Ok, ap, sym, ◌∙◌}
use Rattle.dxf_entities.proofs.Resumes.{entity_passed}
use Rattle.dxf_entities.proofs.reader.Reader.close.Goals as goal

pub returns-in_default-clause-closed : goal.returns-in_default-clause-closed
returns-in_default-clause-closed c =
    entity_passed c.args.self.now c.in-Entity.facts c.in-Entity.is
    (sym c.pen.ensures.pen ∙ (c.in_ok-pen-in-Entity.was ∙ ap Ok c.in_default.is))
