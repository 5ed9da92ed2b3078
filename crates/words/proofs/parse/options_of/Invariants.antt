use Rattle.std.proofs.Common.{◌≡◌, map, take}
use Rattle.clap.specs.Words.{app_of}
use Rattle.words.specs.Rows.{field_of}
use Rattle.words.specs.Rules.{app_by, option_rule}
use Rattle.words.proofs.parse.options_of.Given as goal

abbrev pub invariant-loop-row : goal.invariant-loop-row
invariant-loop-row l = app_of l.command ≡ app_by (map option_rule (map field_of (take l.row-index l.options)))
