-- How an entity is judged: it gives lines, is passed over, or has a fault.
use Rattle.std.specs.Prelude.{ℕ, List, Bool, false, Option, Some, None, Result, Ok, Err, codes, if◌then◌else◌}
use Rattle.std.specs.Option.{option_map, unwrap_or}
use Rattle.std.specs.Str.{bytes_eq}
use Rattle.solid_model.specs.declared.fault.Fault.{Fault}
use Rattle.solid_model.specs.declared.fault.Fault.TheVariants as fault
use Rattle.solid_model.specs.declared.segment.Style.{Style}
use Rattle.solid_model.specs.declared.segment.Style.TheVariants.{Dashed, Solid}
use Rattle.dxf_entities.specs.declared.facts.Facts.{Facts}
use Rattle.dxf_entities.specs.declared.layer.Cut.{Cut}
use Rattle.dxf_entities.specs.declared.layer.Layer.{Layer}
use Rattle.dxf_entities.specs.declared.layer_line.LayerLine.{LayerLine}
use Rattle.dxf_entities.specs.declared.kind.Kind.{Kind}
use Rattle.dxf_entities.specs.declared.kind.Kind.TheVariants as kind
use Rattle.dxf_entities.specs.declared.linetype.Linetype.{Linetype}
use Rattle.dxf_entities.specs.declared.linetype.Linetype.TheVariants.{Continuous, Hidden, Center, ByLayer, Unlisted}
use Rattle.dxf_entities.specs.declared.named.Named.{Named}
use Rattle.dxf_entities.specs.declared.named.Named.TheVariants.{Unread, Shows, Misnamed}
use Rattle.dxf_entities.specs.declared.pen.Pen.{Pen}
use Rattle.dxf_entities.specs.Entries.{Entry, own_pairs, first_value}
use Rattle.dxf_entities.specs.Forms.{FormParts}
use Rattle.dxf_entities.specs.Names.{layer_on, linetype_of, kind_of}
use Rattle.dxf_entities.specs.Shapes.{begun_shape, known_shape, points_of}
use Rattle.dxf_entities.specs.Steps.{◌>>=◌}
use Rattle.dxf_entities.specs.DrawnLines.{added_through}

-- a value that is `1`
abbrev pub is_one : List ℕ → Bool
is_one value = bytes_eq value (codes "1")

-- What counts of an entity that is read in this form: the line at which it begins and its kind; of the pairs that belong to no application the first layer, the first mark of paper space and
-- the first linetype; and what they draw.
abbrev pub facts_of : FormParts → Entry → Facts
facts_of form e =
    let own = own_pairs false e.pairs in
    let kind = kind_of e.name in
    record {
      line = e.line;
      kind = kind;
      layer = option_map (layer_on form) (first_value 8 own);
      paper = option_map is_one (first_value 67 own);
      linetype = option_map linetype_of (first_value 6 own);
      shape = known_shape form.decimals e.line own (begun_shape kind);
    }

-- what stands in paper space is no part of a view
abbrev pub is_on_paper : Option Bool → Bool
is_on_paper (Some paper) = paper
is_on_paper None = false

-- a linetype that is BYLAYER is the layer's; a layer without one is CONTINUOUS
abbrev pub by_layer : Linetype → Option Linetype → Linetype
by_layer ByLayer layer = unwrap_or layer Continuous
by_layer own layer = own

-- the style of hidden edges; a section or an area shows none
abbrev pub hidden_style : Option Cut → Option Style
hidden_style None = Some Dashed
hidden_style (Some c) = None

-- The style of a linetype where a view is whole or cut; a centre line has none. A layer's own BYLAYER counts as CONTINUOUS.
abbrev pub style_of : ℕ → Option Cut → Linetype → Result (Option Style) Fault
style_of line cut Continuous = Ok (Some Solid)
style_of line cut Hidden = Ok (hidden_style cut)
style_of line cut Center = Ok None
style_of line cut ByLayer = Ok (Some Solid)
style_of line cut Unlisted = Err (fault.Linetype line)

-- how an entity on a layer that has this linetype is drawn
abbrev pub pen_in : Option Linetype → Layer → Facts → Result (Option Pen) Fault
pen_in own layer f = style_of f.line layer.cut (by_layer (unwrap_or f.linetype ByLayer) own)
    >>= λ style. Ok (option_map (λ s. record { layer = layer; style = s }) style)

-- how an entity of this kind is drawn: lines are, other geometry is a fault, and what is no geometry
-- is passed over
abbrev pub pen_of : Kind → Option Linetype → Layer → Facts → Result (Option Pen) Fault
pen_of kind.Line own layer f = pen_in own layer f
pen_of kind.Polyline own layer f = pen_in own layer f
pen_of kind.Geometry own layer f = Err (fault.Geometry f.line)
pen_of kind.Other own layer f = Ok None

-- on a layer that is named as no section is, what would be drawn is a fault
abbrev pub misnamed : Kind → ℕ → Result (Option Pen) Fault
misnamed kind.Line line = Err (fault.SectionName line)
misnamed kind.Polyline line = Err (fault.SectionName line)
misnamed kind.Geometry line = Err (fault.SectionName line)
misnamed kind.Other line = Ok None

-- how an entity is drawn that stands on a layer of this name
abbrev pub pen_on : Named → (Layer → Option Linetype) → Facts → Result (Option Pen) Fault
pen_on Unread layers f = Ok None
pen_on (Shows layer) layers f =
    if is_on_paper f.paper then Ok None else pen_of f.kind (layers layer) layer f
pen_on Misnamed layers f = if is_on_paper f.paper then Ok None else misnamed f.kind f.line

-- how an entity is drawn where the layers have these linetypes; without a pen it is passed over
unfoldable pub drawn_by : (Layer → Option Linetype) → Facts → Result (Option Pen) Fault
drawn_by layers f = pen_on (unwrap_or f.layer Unread) layers f

-- these lines and then those of an entity that is drawn so
abbrev pub lines_by : Facts → List LayerLine → Option Pen → Result (List LayerLine) Fault
lines_by f lines None = Ok lines
lines_by f lines (Some pen) =
    f.shape >>= (λ s. added_through f.line pen lines (points_of f.line s))

-- An entity, where the layers have these linetypes and these lines are kept: the lines that are
-- kept with its own, which has none where it is passed over; or its first fault.
abbrev pub judged : (Layer → Option Linetype) → List LayerLine → Facts → Result (List LayerLine) Fault
judged layers lines f = drawn_by layers f >>= lines_by f lines
