-- What a command's words say, whatever its table.
use Rattle.std.specs.Prelude.{◌≡◌, ◌==◌, ◌&&◌, Bool, true, false, not, List, [], ◌∷◌, Option, Some, None, is_some, nat_le}
use Rattle.std.specs.Prelude.{if◌then◌else◌, option_map, unwrap_or}
use Rattle.std.specs.List.{list_all}
use Rattle.std.specs.Option.{option_map_or}
use Rattle.std.specs.Str.{bytes_eq}
use Rattle.words.specs.declared.said.Said.{Said}
use Rattle.words.specs.declared.table.Range.{Range}
use Rattle.words.specs.Jobs.{decimals_field, decimals_in, limits_in, nodes_field, number_in, pages_field, pages_in, solids_field, sections_field, sections_in, two_views_field, two_views_in, workers_field, workers_in}
use Rattle.words.specs.Rows.{has_flag, is_sound}
use Rattle.words.specs.Words.{Field, Table, Text, Use, number_field, number_name, option_of, taken}

-- the option of this name, or the number
abbrev pub or_number : Option Field → Bool → Option Range → Option Field
or_number (Some f) called range = Some f
or_number None called range = if called then option_map number_field range else None

abbrev pub called : Table → Text → Option Field
called t name = or_number (option_of t name) (bytes_eq name number_name) t.number

-- two options take the same values
abbrev pub same_range : Option Range → Option Range → Bool
same_range None None = true
same_range None (Some s) = false
same_range (Some r) None = false
same_range (Some r) (Some s) = r.least == s.least && r.most == s.most

-- what the table calls so is this option, if it is there
abbrev pub agrees : Table → Field → Bool
agrees t f = option_map_or (λ g. same_range g.range f.range) (called t f.name) true
    && not (is_some f.range && has_flag t.options f.name)

-- the numbers that the command's number may be: it is 1 where it has none
abbrev pub range_of_number : Table → Range
range_of_number t = unwrap_or t.number (record { least = 1; most = 1 })

abbrev pub usual_fields : Table → List Field
usual_fields t = workers_field ∷ nodes_field ∷ solids_field ∷ decimals_field ∷ number_field (range_of_number t) ∷ pages_field ∷ two_views_field ∷ sections_field ∷ []

-- what the table calls as other commands do means what it means there, and its number may be 1
unfoldable pub is_usual : Table → Bool
is_usual t = is_sound t && (list_all (agrees t) (usual_fields t) && (nat_le (range_of_number t).least 1 && nat_le 1 (range_of_number t).most))

-- the words are taken, and their uses say this
abbrev pub IsSaid : Table → List Text → Said → Type 0
IsSaid t words said = (us : List Use) × (taken t words ≡ Some us)
    × (said.workers ≡ workers_in us) × (said.limits ≡ limits_in us) × (said.pages ≡ pages_in us)
    × (said.decimals ≡ decimals_in us) × (said.two_views ≡ two_views_in us) × (said.sections ≡ sections_in us) × (said.number ≡ number_in us)
