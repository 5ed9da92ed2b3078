-- The limits of a search.
use Rattle.std.specs.Prelude.{ℕ}

-- the limits of a search: how many live prefixes and how many solids there may be
pub record SearchLimits : Type 0 where
  pub nodes : ℕ
  pub solids : ℕ

-- those where none are asked for
abbrev pub default_limits : SearchLimits
default_limits = record { nodes = 1000000; solids = 4096 }
