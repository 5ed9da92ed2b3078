-- The tables of the code, as those of the definition; and what a parse by them tells.
use Rattle.std.specs.Prelude.{◌≡◌, ◌^◌, ◌&&◌, Bool, true, not, List, Option, Some, map, is_some, nat_lt}
use Rattle.std.specs.Prelude.{codes, if◌then◌else◌, unwrap_or}
use Rattle.std.specs.List.{list_all, list_any}
use Rattle.std.specs.Option.{option_map_or}
use Rattle.std.specs.Str.{bytes_eq}
use Rattle.clap.specs.Words.{found_of, one_text}
use Rattle.clap.specs.declared.parser.matches.ArgMatches.{ArgMatches}
use Rattle.words.specs.declared.table.Range.{Range}
use Rattle.words.specs.declared.table.Row.{Row}
use Rattle.words.specs.declared.table.Rows.{Rows}
use Rattle.words.specs.Words.{Field, Table, Text, Use, number_name, taken, text_in}

-- an option of the code's table, and the table
abbrev pub field_of : Row → Field
field_of row = record { name = row.name.now; range = row.range }

abbrev pub table_of : Rows → Table
table_of rows = record { options = map field_of rows.options.now; number = rows.number }

-- a flag is called so
abbrev pub has_flag : List Field → Text → Bool
has_flag fs name = list_any (λ f. not (is_some f.range) && bytes_eq f.name name) fs

-- the text that is read of a name: a flag that isn't used says `false`
abbrev pub read_in : Table → List Use → Text → Option Text
read_in t us name =
    if has_flag t.options name then Some (unwrap_or (text_in name us) (codes "false")) else text_in name us

-- the numbers of a range are below 2 ^ 64
abbrev pub is_range : Option Range → Bool
is_range range = option_map_or (λ r. nat_lt r.most (2 ^ 64)) range true

-- all ranges are such, and no option is called as the number is
abbrev pub is_sound : Table → Bool
is_sound t = list_all (λ f. is_range f.range && not (bytes_eq f.name number_name)) t.options && is_range t.number

-- the words are taken, and the matches have what their uses say
abbrev pub IsRead : Table → List Text → ArgMatches → Type 0
IsRead t words m = (us : List Use) × (taken t words ≡ Some us)
    × ((name : Text) → one_text (found_of m) name ≡ read_in t us name)
