-- One line more is broken.
use Rattle.std.proofs.Common.{set, false, subst, sym}
use Rattle.line_demands.specs.Lines.{AreMarked}
use Rattle.line_demands.proofs.MarkedLines.{break_one}
use Rattle.line_demands.proofs.lines.break_line.Goals as goal

pub returns-clause-marked : goal.returns-clause-marked
returns-clause-marked c = subst (AreMarked (set c.args.met.now c.args.line false)) (sym c.push_reserved.ensures.items)
    (break_one c.args.met.now c.args.broken.now.items c.args.line c.requires.marked c.requires.there c.requires.met)
