-- By what a map tells layers apart.
use Rattle.std.specs.Prelude.{ℕ, ℤ, Bool, Option, Some, None, if◌then◌else◌}
use Rattle.std.specs.Option.{option_cmp}
use Rattle.std.specs.declared.cmp.Ordering.{Ordering}
use Rattle.std.specs.Ordering.{bool_cmp, int_cmp, nat_cmp, ordering_then}
use Rattle.solid_model.specs.declared.frame.View.{View}
use Rattle.solid_model.specs.declared.frame.View.TheVariants.{Front, Top, Side}
use Rattle.dxf_entities.specs.declared.layer.Cut.{Cut}
use Rattle.dxf_entities.specs.declared.layer.Layer.{Layer}

-- the number of a view among the six
abbrev pub six_number : View → Bool → ℕ
six_number Front opposite = if opposite then 3 else 0
six_number Top opposite = if opposite then 4 else 1
six_number Side opposite = if opposite then 5 else 2

-- where it is cut
abbrev pub cut_key : Option Cut → Option (ℤ × Bool)
cut_key None = None
cut_key (Some c) = Some (c.at, c.area)

-- which of the six views a layer is of, and where that is cut
abbrev pub LayerKey : Type 0
LayerKey = ℕ × Option (ℤ × Bool)

abbrev pub layer_key : Layer → LayerKey
layer_key l = (six_number l.view l.opposite, cut_key l.cut)

-- the order in which a map keeps them
abbrev pub cut_order : ℤ × Bool → ℤ × Bool → Ordering
cut_order c d = ordering_then (int_cmp c.0 d.0) (bool_cmp c.1 d.1)

abbrev pub key_order : LayerKey → LayerKey → Ordering
key_order k m = ordering_then (nat_cmp k.0 m.0) (option_cmp cut_order k.1 m.1)
