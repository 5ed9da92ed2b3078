use Rattle.std.proofs.Common.{◌∙◌, ap}
use Rattle.text_lines.specs.Words.{cut}
use Rattle.text_lines.proofs.Cuts.{back, cut_back}
use Rattle.text_lines.proofs.laws.lines_are_cut_as_joined.Goals as goal

pub returns-clause-first : goal.returns-clause-first
returns-clause-first c = λ line rest e. cut_back line ∙ ap (back (cut line).word) e

pub returns-clause-whole : goal.returns-clause-whole
returns-clause-whole c = λ line e. cut_back line ∙ ap (back (cut line).word) e
