-- What a file shows: the lines that are kept, or its first fault.
use Rattle.std.specs.Prelude.{ℕ, Bool, true, false, not, ◌&&◌, List, [], ◌∷◌, map, Option, Some, None, Result, Ok, Err, codes, if◌then◌else◌}
use Rattle.std.specs.List.{filter}
use Rattle.std.specs.Option.{option_map, option_or, unwrap_or}
use Rattle.std.specs.Ordering.{int_eq}
use Rattle.solid_model.specs.declared.fault.Fault.{Fault}
use Rattle.solid_model.specs.declared.fault.Fault.TheVariants.{BadSection}
use Rattle.solid_model.specs.Drawings.{same_view}
use Rattle.solid_model.specs.Line.{Line}
use Rattle.dxf_groups.specs.Pairs.{TextPair, Pairs, pairs_of}
use Rattle.dxf_entities.specs.declared.facts.Facts.{Facts}
use Rattle.dxf_entities.specs.declared.layer.Cut.{Cut}
use Rattle.dxf_entities.specs.declared.layer.Layer.{Layer}
use Rattle.dxf_entities.specs.declared.layer_line.LayerLine.{LayerLine}
use Rattle.dxf_entities.specs.declared.linetype.Linetype.{Linetype}
use Rattle.dxf_entities.specs.declared.linetype.Linetype.TheVariants.{Continuous}
use Rattle.dxf_entities.specs.declared.named.Named.{Named}
use Rattle.dxf_entities.specs.declared.named.Named.TheVariants.{Unread, Shows, Misnamed}
use Rattle.dxf_entities.specs.declared.section.Section.{Section}
use Rattle.dxf_entities.specs.declared.section.Section.TheVariants.{Tables, Entities, Other}
use Rattle.dxf_entities.specs.declared.place.Place.{Place}
use Rattle.dxf_entities.specs.declared.place.Place.TheVariants.{Outside, Unnamed, Inside}
use Rattle.dxf_entities.specs.Steps.{◌>>=◌}
use Rattle.dxf_entities.specs.Entries.{Entry, has_code, before_entries, entries_of, own_pairs, first_value}
use Rattle.dxf_entities.specs.Judging.{facts_of, judged}
use Rattle.dxf_entities.specs.Forms.{FormParts, three_views}
use Rattle.dxf_entities.specs.Names.{is_main, is_name, layer_on, linetype_of, section_of}

-- how a file is read, in which form, and how far: where that is, which linetypes the layers have so far,
-- and the lines kept so far
pub record Progress : Type 0 where
  pub form : FormParts
  pub place : Place
  pub layers : Layer → Option Linetype
  pub lines : List LayerLine

-- nothing is read
abbrev pub nothing_read : FormParts → Progress
nothing_read form =
    record { form = form; place = Outside; layers = λ _. None; lines = [] }

-- between sections no pair may stand but one that begins a section
abbrev pub between : List TextPair → Progress → Result Progress Fault
between [] s = Ok (record s { place = Outside })
between (p ∷ ps) s = Err (BadSection p.line)

-- a section begins with a pair of code 2, which names it; what follows up to its first entry is passed
-- over
abbrev pub opened : List TextPair → Progress → Result Progress Fault
opened [] s = Ok (record s { place = Unnamed })
opened (p ∷ ps) s = if has_code 2 p then Ok (record s { place = Inside (section_of p.value) })
    else Err (BadSection p.line)

-- two layers show the same
abbrev pub same_truth : Bool → Bool → Bool
same_truth a b = if a then b else not b

abbrev pub same_cut : Option Cut → Option Cut → Bool
same_cut None None = true
same_cut None (Some d) = false
same_cut (Some c) None = false
same_cut (Some c) (Some d) = int_eq c.at d.at && same_truth c.area d.area

abbrev pub same_layer : Layer → Layer → Bool
same_layer a b = same_view a.view b.view && (same_truth a.opposite b.opposite && same_cut a.cut b.cut)

-- the name of a layer is this one's
abbrev pub is_layer : Layer → Option Named → Bool
is_layer l None = false
is_layer l (Some Unread) = false
is_layer l (Some (Shows m)) = same_layer l m
is_layer l (Some Misnamed) = false

-- the layers, with one of this name and linetype, CONTINUOUS where it has none; the first of its name
-- counts
abbrev pub layers_with : Option Named → Option Linetype → (Layer → Option Linetype)
    → Layer → Option Linetype
layers_with name linetype layers l = option_or (layers l)
    (if is_layer l name then Some (unwrap_or linetype Continuous) else None)

abbrev pub with_layer : Option Named → Option Linetype → Progress → Progress
with_layer name linetype s = record s { layers = layers_with name linetype s.layers }

-- the layer that an entry of TABLES gives, where it is one
abbrev pub layer_added : Entry → Progress → Progress
layer_added e s = let own = own_pairs false e.pairs in
    if is_name (codes "LAYER") e.name
    then with_layer (option_map (layer_on s.form) (first_value 2 own))
    (option_map linetype_of (first_value 6 own)) s
    else s

-- an entity is judged, and its lines are added
abbrev pub entity_read : Facts → Progress → Result Progress Fault
entity_read f s = judged s.layers s.lines f >>= λ lines. Ok (record s { lines = lines })

-- an entry of a section, where a pair ends it; without that it counts for nothing
abbrev pub entry_read : Bool → Section → Entry → Progress → Result Progress Fault
entry_read false section e s = Ok s
entry_read true Tables e s = Ok (layer_added e s)
entry_read true Entities e s = entity_read (facts_of s.form e) s
entry_read true Other e s = Ok s

-- the next entry, at this place; whether a pair ends it is told
abbrev pub read_at : Place → Bool → Entry → Progress → Result Progress Fault
read_at Outside ended e s =
    if is_name (codes "SECTION") e.name then opened e.pairs s else Err (BadSection e.line)
read_at Unnamed ended e s = Err (BadSection e.line)
read_at (Inside section) ended e s =
    if is_name (codes "SECTION") e.name then Err (BadSection e.line)
    else (if is_name (codes "ENDSEC") e.name then between e.pairs s else entry_read ended section e s)

-- where the pairs end with the end pair on this line, which stands outside the sections
abbrev pub end_read : Place → ℕ → Progress → Result (List LayerLine) Fault
end_read Outside line s = Ok s.lines
end_read Unnamed line s = Err (BadSection line)
end_read (Inside section) line s = Err (BadSection line)

-- a pair ends the entry before these, and the text
abbrev pub is_ended : List Entry → Result ℕ Fault → Bool
is_ended [] (Err f) = false
is_ended [] (Ok line) = true
is_ended (e ∷ es) ending = true

-- entry after entry, up to the end pair or a fault
abbrev pub entries_read : List Entry → Result ℕ Fault → Progress → Result (List LayerLine) Fault
entries_read [] (Err f) s = Err f
entries_read [] (Ok line) s = end_read s.place line s
entries_read (e ∷ es) ending s = read_at s.place (is_ended es ending) e s >>= entries_read es ending

-- all pairs, in this form
abbrev pub pairs_read : FormParts → Pairs → Result (List LayerLine) Fault
pairs_read form ps = between (before_entries ps.pairs) (nothing_read form)
    >>= entries_read (entries_of ps.pairs) ps.ending

-- the lines that are kept of a text that is read in this form, in its order, or its first fault
unfoldable pub text_read : FormParts → List ℕ → Result (List LayerLine) Fault
text_read form text = pairs_read form (pairs_of text)

-- of lines those of the three main views, and those of all other layers with these
abbrev pub main_lines : List LayerLine → List Line
main_lines ls = map (λ l. l.line) (filter (λ l. is_main l.layer) ls)

abbrev pub other_lines : List LayerLine → List LayerLine
other_lines ls = filter (λ l. not (is_main l.layer)) ls

-- the lines of the three views alone, pair by pair
abbrev pub main_read : ℕ → Pairs → Result (List Line) Fault
main_read decimals ps = pairs_read (three_views decimals) ps >>= λ ls. Ok (main_lines ls)

-- the lines of the three views that are kept of a text that is read with so many decimals, in its order,
-- or its first fault
unfoldable pub read_of : ℕ → List ℕ → Result (List Line) Fault
read_of decimals text = main_read decimals (pairs_of text)
