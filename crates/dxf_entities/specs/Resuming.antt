-- How the reading of a file goes on in the midst of an entry.
use Rattle.std.specs.Prelude.{ℕ, Bool, true, false, not, List, [], ◌∷◌, Option, Some, None, Result, Ok, codes, if◌then◌else◌}
use Rattle.std.specs.BTreeMap.{get}
use Rattle.std.specs.Option.{option_or}
use Rattle.solid_model.specs.declared.fault.Fault.{Fault}
use Rattle.dxf_groups.specs.Pairs.{TextPair}
use Rattle.dxf_entities.specs.declared.facts.Facts.{Facts}
use Rattle.dxf_entities.specs.declared.layer_facts.LayerFacts.{LayerFacts}
use Rattle.dxf_entities.specs.declared.layer.Layer.{Layer as ReadLayer}
use Rattle.dxf_entities.specs.declared.layer_line.LayerLine.{LayerLine}
use Rattle.dxf_entities.specs.declared.layers.Layers.{Layers}
use Rattle.dxf_entities.specs.declared.named.Named.{Named}
use Rattle.dxf_entities.specs.declared.named.Named.TheVariants.{Unread, Shows, Misnamed}
use Rattle.dxf_entities.specs.declared.kind.Kind.{Kind}
use Rattle.dxf_entities.specs.declared.kind.Kind.TheVariants as kind
use Rattle.dxf_entities.specs.declared.linetype.Linetype.{Linetype}
use Rattle.dxf_entities.specs.declared.section.Section.{Section}
use Rattle.dxf_entities.specs.declared.section.Section.TheVariants.{Tables, Entities, Other}
use Rattle.dxf_entities.specs.declared.place.Place.{Place}
use Rattle.dxf_entities.specs.declared.place.Place.TheVariants.{Outside, Unnamed, Inside}
use Rattle.dxf_entities.specs.declared.open.Open.{Open}
use Rattle.dxf_entities.specs.declared.open.Open.TheVariants.{Passed, Layer, Entity}
use Rattle.dxf_entities.specs.declared.reader.Reader.{Reader}
use Rattle.dxf_entities.specs.Shapes.{begun_shape, more_shape}
use Rattle.dxf_entities.specs.Steps.{◌>>=◌}
use Rattle.dxf_entities.specs.Entries.{has_code, before_entries, entries_of, opens_application, closes_application}
use Rattle.dxf_entities.specs.Judging.{is_one}
use Rattle.dxf_entities.specs.Forms.{FormParts}
use Rattle.dxf_entities.specs.LayerKeys.{key_order, layer_key}
use Rattle.dxf_entities.specs.Names.{is_name, layer_on, linetype_of, kind_of}
use Rattle.dxf_entities.specs.Reading.{Progress, between, opened, with_layer, entity_read, is_ended, entries_read}

-- what is known, or else what a pair with this code tells
abbrev pub or_first : {A : Type 0} → ℕ → (List ℕ → A) → TextPair → Option A → Option A
or_first code meaning p known =
    option_or known (if has_code code p then Some (meaning p.value) else None)

-- what counts of an entity, with one more pair of its own
abbrev pub with_fact : FormParts → TextPair → Facts → Facts
with_fact form p f = record f {
  layer = or_first 8 (layer_on form) p f.layer;
  paper = or_first 67 is_one p f.paper;
  linetype = or_first 6 linetype_of p f.linetype;
  shape = more_shape form.decimals f.line p f.shape;
}

-- what counts of a layer's entry, with one more pair of its own
abbrev pub with_layer_fact : FormParts → TextPair → LayerFacts → LayerFacts
with_layer_fact form p f = record {
  name = or_first 2 (layer_on form) p f.name;
  linetype = or_first 6 linetype_of p f.linetype;
}

-- with the pairs that belong to no application; whether the first ones do is told
abbrev pub with_own : {F : Type 0} → (TextPair → F → F) → Bool → List TextPair → F → F
with_own with inside [] f = f
with_own with true (p ∷ ps) f = with_own with (not (closes_application p)) ps f
with_own with false (p ∷ ps) f =
    if opens_application p then with_own with true ps f else with_own with false ps (with p f)

-- what counts of a layer's entry that begins
abbrev pub nothing_told : LayerFacts
nothing_told = record { name = None; linetype = None }

-- what counts of an entity that begins so
abbrev pub begun_facts : TextPair → Facts
begun_facts p = record {
  line = p.line;
  kind = kind_of p.value;
  layer = None;
  paper = None;
  linetype = None;
  shape = Ok (begun_shape (kind_of p.value));
}

-- the linetype of a layer: the first entry of the layer counts
abbrev pub layer_linetype : Layers → ReadLayer → Option Linetype
layer_linetype ls l = get key_order ls.linetypes (layer_key l)

-- how far a reader has read, but for the entry that is open
abbrev pub progress_of : Reader → Progress
progress_of r = record {
  form = r.form;
  place = r.place;
  layers = layer_linetype r.layers;
  lines = r.lines.items;
}

-- an entity of this kind that a pair opens
abbrev pub opened_entity : TextPair → Kind → Open
opened_entity p kind.Line = Entity (begun_facts p)
opened_entity p kind.Polyline = Entity (begun_facts p)
opened_entity p kind.Geometry = Entity (begun_facts p)
opened_entity p kind.Other = Passed

-- the entry that a pair opens in a section
abbrev pub opened_entry : Section → TextPair → Open
opened_entry Tables p =
    if is_name (codes "LAYER") p.value then Layer nothing_told else Passed
opened_entry Entities p = opened_entity p (kind_of p.value)
opened_entry Other p = Passed

-- an entity is passed over where it stands on a layer that isn't read
abbrev pub unless_elsewhere : Option Named → Facts → Open
unless_elsewhere None f = Entity f
unless_elsewhere (Some Unread) f = Passed
unless_elsewhere (Some (Shows layer)) f = Entity f
unless_elsewhere (Some Misnamed) f = Entity f

-- an open entry with one more pair of its own
abbrev pub with_own_pair : FormParts → TextPair → Open → Open
with_own_pair form p Passed = Passed
with_own_pair form p (Layer f) = Layer (with_layer_fact form p f)
with_own_pair form p (Entity f) =
    let more = with_fact form p f in unless_elsewhere more.layer more

-- an open entry with one more pair; whether that may belong to an application is told
abbrev pub with_pair_of : FormParts → TextPair → Bool → Open → Open
with_pair_of form p true entry = entry
with_pair_of form p false entry =
    if opens_application p then entry else with_own_pair form p entry

-- whether the next pair may belong to an application
abbrev pub is_inside_after : TextPair → Bool → Bool
is_inside_after p true = not (closes_application p)
is_inside_after p false = opens_application p

-- the open entry takes a pair
abbrev pub fact_taken : TextPair → Reader → Reader
fact_taken p r = record r {
  entry = with_pair_of r.form p r.in_application r.entry;
  in_application = is_inside_after p r.in_application;
}

-- an entry is closed, with what more pairs it has
abbrev pub entry_closed : Open → Bool → List TextPair → Progress → Result Progress Fault
entry_closed Passed inside ps s = Ok s
entry_closed (Layer f) inside ps s =
    let all = with_own (with_layer_fact s.form) inside ps f in Ok (with_layer all.name all.linetype s)
entry_closed (Entity f) inside ps s = entity_read (with_own (with_fact s.form) inside ps f) s

-- the open entry is closed
abbrev pub closed : List TextPair → Reader → Result Progress Fault
closed ps r = entry_closed r.entry r.in_application ps (progress_of r)

-- it is closed where a pair ends it
abbrev pub closed_where : Bool → List TextPair → Reader → Result Progress Fault
closed_where true ps r = closed ps r
closed_where false ps r = Ok (progress_of r)

-- how far a reader comes before the next entry, from this place
abbrev pub advanced : Place → Bool → List TextPair → Reader → Result Progress Fault
advanced Outside ended ps r = between ps (progress_of r)
advanced Unnamed ended ps r = opened ps (progress_of r)
advanced (Inside section) ended ps r = closed_where ended ps r

-- what a reader reads where these pairs and this ending are left
unfoldable pub resumed : List TextPair → Result ℕ Fault → Reader → Result (List LayerLine) Fault
resumed ps ending r =
    advanced r.place (is_ended (entries_of ps) ending) (before_entries ps) r
    >>= entries_read (entries_of ps) ending
