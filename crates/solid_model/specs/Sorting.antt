-- An order of all lists of truth values.
use Rattle.std.specs.Prelude.{Bool, List, length}
use Rattle.std.specs.declared.cmp.Ordering.{Ordering}
use Rattle.std.specs.Cmp.Lexicographic.{slice_cmp}
use Rattle.std.specs.Ordering.{nat_cmp, bool_cmp, flip_args, on, then_cmp}

-- of equally long ones the stated order, as far as it goes: full before empty where they first differ
abbrev pub stated_order : List Bool → List Bool → Ordering
stated_order = slice_cmp (flip_args bool_cmp)

-- the shorter one comes first; equally long ones come in the stated order
abbrev pub order_of : List Bool → List Bool → Ordering
order_of = then_cmp (on length nat_cmp) stated_order
