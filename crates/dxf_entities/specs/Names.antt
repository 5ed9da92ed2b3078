-- Names that have a meaning in a file. They are compared with ASCII case ignored.
use Rattle.std.specs.Prelude.{ℕ, ◌+◌, ◌==◌, ℤ, Bool, true, false, not, ◌&&◌, ◌||◌, List, length, take, drop, Option, Some, None, Result, Ok, Err, codes, if◌then◌else◌}
use Rattle.std.specs.List.{position}
use Rattle.std.specs.Option.{option_or, unwrap_or}
use Rattle.std.specs.Str.{str_eq_ignore_ascii_case}
use Rattle.solid_model.specs.declared.frame.View.{View}
use Rattle.solid_model.specs.declared.frame.View.TheVariants.{Front, Top, Side}
use Rattle.dxf_groups.specs.declared.numerals.NumeralFault.{NumeralFault}
use Rattle.dxf_groups.specs.Numerals.{scaled_of}
use Rattle.dxf_entities.specs.declared.layer.Cut.{Cut}
use Rattle.dxf_entities.specs.declared.layer.Layer.{Layer}
use Rattle.dxf_entities.specs.declared.layer_set.LayerSet.{LayerSet}
use Rattle.dxf_entities.specs.declared.layer_set.LayerSet.TheVariants.{Main, Six, Sections}
use Rattle.dxf_entities.specs.declared.named.Named.{Named}
use Rattle.dxf_entities.specs.declared.named.Named.TheVariants.{Unread, Shows, Misnamed}
use Rattle.dxf_entities.specs.Forms.{FormParts}
use Rattle.dxf_entities.specs.declared.kind.Kind.{Kind}
use Rattle.dxf_entities.specs.declared.kind.Kind.TheVariants as kind
use Rattle.dxf_entities.specs.declared.linetype.Linetype.{Linetype}
use Rattle.dxf_entities.specs.declared.linetype.Linetype.TheVariants as linetype
use Rattle.dxf_entities.specs.declared.section.Section.{Section}
use Rattle.dxf_entities.specs.declared.section.Section.TheVariants as section

-- two names are the same
abbrev pub is_name : List ℕ → List ℕ → Bool
is_name name value = str_eq_ignore_ascii_case value name

-- ---- layers

-- a layer is that of one of the three main views
abbrev pub is_uncut : Option Cut → Bool
is_uncut None = true
is_uncut (Some c) = false

abbrev pub is_main : Layer → Bool
is_main l = not l.opposite && is_uncut l.cut

-- the layer of a view, and that of the further view opposite to it
abbrev pub main_layer : View → Layer
main_layer v = record { view = v; opposite = false; cut = None }

abbrev pub further_layer : View → Layer
further_layer v = record { view = v; opposite = true; cut = None }

-- that of a layer's view where it is cut by a plane there
abbrev pub cut_layer : Layer → ℤ → Bool → Layer
cut_layer l n area = record l { cut = Some (record { at = n; area = area }) }

-- the layer of a main view that has this name
abbrev pub main_on : List ℕ → Option Layer
main_on value = if is_name (codes "FRONT") value then Some (main_layer Front)
    else (if is_name (codes "TOP") value then Some (main_layer Top)
    else (if is_name (codes "SIDE") value then Some (main_layer Side) else None))

-- The layer of a further view that has this name. The left side lies opposite to the right one, the rear
-- to the front and the bottom to the top.
abbrev pub further_on : List ℕ → Option Layer
further_on value = if is_name (codes "LEFT") value then Some (further_layer Side)
    else (if is_name (codes "REAR") value then Some (further_layer Front)
    else (if is_name (codes "BOTTOM") value then Some (further_layer Top) else None))

-- where the first `_` of a text stands, or its end; what stands before it, and what behind it
abbrev pub bar_place : List ℕ → ℕ
bar_place text = unwrap_or (position (λ b. b == 95) text) (length text)

abbrev pub before_bar : List ℕ → List ℕ
before_bar text = take (bar_place text) text

abbrev pub behind_bar : List ℕ → List ℕ
behind_bar text = drop (bar_place text + 1) text

-- a view that is cut by a plane there, where both are told
abbrev pub cut_at : Bool → Option Layer → Result ℤ NumeralFault → Named
cut_at area (Some l) (Ok n) = Shows (cut_layer l n area)
cut_at area (Some l) (Err e) = Misnamed
cut_at area None at = Misnamed

-- `VIEW_N` names any of the six views, and a plane by a numeral with so many decimals
abbrev pub cut_named : ℕ → Bool → List ℕ → Named
cut_named decimals area text =
    cut_at area (option_or (main_on (before_bar text)) (further_on (before_bar text)))
    (scaled_of decimals (behind_bar text))

-- what stands behind this, where a value begins with it
abbrev pub behind : List ℕ → List ℕ → Option (List ℕ)
behind start value =
    if is_name start (take (length start) value) then Some (drop (length start) value) else None

-- a section or an area, or else what else the name tells
abbrev pub cut_or : ℕ → Bool → Option (List ℕ) → Named → Named
cut_or decimals area (Some text) other = cut_named decimals area text
cut_or decimals area None other = other

-- what the name of a section or an area tells
abbrev pub section_on : ℕ → List ℕ → Named
section_on decimals value = cut_or decimals false (behind (codes "SECTION_") value)
    (cut_or decimals true (behind (codes "AREA_") value) Unread)

-- a layer, or else what else the name tells
abbrev pub layer_or : Option Layer → Named → Named
layer_or (Some l) other = Shows l
layer_or None other = other

-- what a name tells that is none of a main view
abbrev pub other_on : LayerSet → ℕ → List ℕ → Named
other_on Main decimals value = Unread
other_on Six decimals value = layer_or (further_on value) Unread
other_on Sections decimals value = layer_or (further_on value) (section_on decimals value)

-- what the name of a layer tells
unfoldable pub layer_on : FormParts → List ℕ → Named
layer_on form value = layer_or (main_on value) (other_on form.layers form.decimals value)

-- ---- linetypes, kinds and sections of a file

-- linetypes of visible edges
abbrev pub is_continuous : List ℕ → Bool
is_continuous value = is_name (codes "CONTINUOUS") value || is_name (codes "BYBLOCK") value

-- linetypes of hidden edges
abbrev pub is_hidden_linetype : List ℕ → Bool
is_hidden_linetype value = is_name (codes "HIDDEN") value || (is_name (codes "HIDDEN2") value
    || (is_name (codes "HIDDENX2") value || (is_name (codes "DASHED") value
    || (is_name (codes "DASHED2") value || is_name (codes "DASHEDX2") value))))

-- linetypes of centre lines
abbrev pub is_center : List ℕ → Bool
is_center value = is_name (codes "CENTER") value
    || (is_name (codes "CENTER2") value || is_name (codes "CENTERX2") value)

-- what a linetype's name means
unfoldable pub linetype_of : List ℕ → Linetype
linetype_of value = if is_continuous value then linetype.Continuous
    else (if is_hidden_linetype value then linetype.Hidden
    else (if is_center value then linetype.Center
    else (if is_name (codes "BYLAYER") value then linetype.ByLayer else linetype.Unlisted)))

-- kinds of entities that are geometry, but no lines
abbrev pub is_geometry : List ℕ → Bool
is_geometry value = is_name (codes "ARC") value || (is_name (codes "CIRCLE") value
    || (is_name (codes "ELLIPSE") value || (is_name (codes "SPLINE") value
    || (is_name (codes "POLYLINE") value || (is_name (codes "INSERT") value
    || (is_name (codes "SOLID") value || is_name (codes "3DFACE") value))))))

-- what an entity of this name is
unfoldable pub kind_of : List ℕ → Kind
kind_of value = if is_name (codes "LINE") value then kind.Line
    else (if is_name (codes "LWPOLYLINE") value then kind.Polyline
    else (if is_geometry value then kind.Geometry else kind.Other))

-- what a section of this name holds
unfoldable pub section_of : List ℕ → Section
section_of value = if is_name (codes "TABLES") value then section.Tables
    else (if is_name (codes "ENTITIES") value then section.Entities else section.Other)
