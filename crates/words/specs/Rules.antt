-- What `clap` is told of a table.
use Rattle.std.specs.Prelude.{true, List, [], ◌∷◌, ◌++◌, map, Option, Some, None, codes}
use Rattle.clap.specs.Simple.{App, new_rule, new_shape}
use Rattle.clap.specs.Walk.{Rule}
use Rattle.clap.specs.declared.builder.action.ArgAction.TheVariants.{Set, SetTrue}
use Rattle.clap.specs.declared.builder.value_parser.ValueParser.TheVariants.{Unsigned}
use Rattle.words.specs.declared.table.Range.{Range}
use Rattle.words.specs.Words.{Field, Table, Text, number_name}

-- an option: a flag, or one with a value
abbrev pub rule_by : Text → Option Range → Rule
rule_by name None = record (new_rule name) { long = Some name; action = Some SetTrue }
rule_by name (Some range) =
    record (new_rule name) { long = Some name; action = Some Set; parser = Some (Unsigned range.least range.most) }

abbrev pub option_rule : Field → Rule
option_rule f = rule_by f.name f.range

-- a number that must be there
abbrev pub number_rule : Range → Rule
number_rule range =
    record (new_rule number_name) { action = Some Set; required = true; parser = Some (Unsigned range.least range.most) }

-- a command with these arguments
abbrev pub app_by : List Rule → App
app_by rules = record { top = record (new_shape (codes "recon")) { rules = rules; disable_help_flag = true }; subs = [] }

-- the arguments of a table, the number last
abbrev pub number_rules : Option Range → List Rule
number_rules None = []
number_rules (Some range) = number_rule range ∷ []

abbrev pub rules_of : Table → List Rule
rules_of t = map option_rule t.options ++ number_rules t.number
