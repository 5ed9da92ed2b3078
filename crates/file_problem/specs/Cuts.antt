-- Where the planes of sections lie.
use Rattle.std.specs.Prelude.{ℕ, ℤ, Bool, true, ◌&&◌, List, [], ◌∷◌, Option, Some, None, int_lt, if◌then◌else◌}
use Rattle.std.specs.List.{list_any}
use Rattle.dxf_entities.specs.declared.layer.Cut.{Cut}
use Rattle.dxf_entities.specs.declared.layer.Layer.{Layer}
use Rattle.dxf_entities.specs.declared.layer_line.LayerLine.{LayerLine}
use Rattle.solid_model.specs.Frames.{frame_of}
use Rattle.solid_model.specs.Panels.{GridParts, coordinates_of}

-- of coordinates some lie before a plane, or behind it
abbrev pub some_before : List ℤ → ℤ → Bool
some_before zs plane = list_any (λ z. int_lt z plane) zs

abbrev pub some_behind : List ℤ → ℤ → Bool
some_behind zs plane = list_any (λ z. int_lt plane z) zs

-- where a view is cut, it is cut between them
abbrev pub is_cut_between : List ℤ → Option Cut → Bool
is_cut_between zs None = true
is_cut_between zs (Some c) = some_before zs c.at && some_behind zs c.at

-- a layer's plane lies strictly within the box of a grid, along the sight axis of its view; a view that is whole has none
abbrev pub cuts_box : GridParts → Layer → Bool
cuts_box g l = is_cut_between (coordinates_of g (frame_of l.view).away.axis) l.cut

-- of lines the first whose layer's plane doesn't: the line of the file at which its entity begins
abbrev pub first_uncut : GridParts → List LayerLine → Option ℕ
first_uncut g [] = None
first_uncut g (l ∷ ls) = if cuts_box g l.layer then first_uncut g ls else Some l.line.number
