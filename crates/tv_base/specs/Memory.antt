-- A source and a sink in memory, as their callers see them.
use Rattle.std.specs.Prelude.{ℕ, List, Option, option_map, find, ◌==◌}

-- a source: the bytes not yet read, the most that a call gives, the numbers of the calls that fail, how
-- many calls were made and failed
pub record SourceState : Type 0 where
  pub left : List ℕ
  pub step : ℕ
  pub fail : List ℕ
  pub calls : ℕ
  pub faults : ℕ

-- a sink: the bytes that it holds, the calls that fail with the bytes that each takes first, how many
-- calls were made and failed
pub record SinkState : Type 0 where
  pub held : List ℕ
  pub fail : List (ℕ × ℕ)
  pub calls : ℕ
  pub faults : ℕ

-- how many bytes the call of this number takes before it fails, by the first pair for it; `None` if it
-- has none
abbrev pub cut_of : List (ℕ × ℕ) → ℕ → Option ℕ
cut_of fail call = option_map (λ pair. pair.1) (find (λ pair. pair.0 == call) fail)
