-- How a file is read.
use Rattle.std.specs.Prelude.{ℕ}
use Rattle.dxf_entities.specs.declared.layer_set.LayerSet.{LayerSet}
use Rattle.dxf_entities.specs.declared.layer_set.LayerSet.TheVariants.{Main, Six, Sections}

-- with how many decimals, and which layers
pub record FormParts : Type 0 where
  pub decimals : ℕ
  pub layers : LayerSet

-- the three main views alone; all six; these and sections
abbrev pub three_views : ℕ → FormParts
three_views decimals = record { decimals = decimals; layers = Main }

abbrev pub six_views : ℕ → FormParts
six_views decimals = record { decimals = decimals; layers = Six }

abbrev pub with_sections : ℕ → FormParts
with_sections decimals = record { decimals = decimals; layers = Sections }
