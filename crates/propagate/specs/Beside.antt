-- What some cells of the columns beside a line that is seen exclude.
use Rattle.std.specs.Prelude.{◌≡◌, Bool, true, ℕ}
use Rattle.line_demands.specs.declared.seen.SeenLine.{SeenLine}
use Rattle.line_demands.specs.Excluding.{ExcludesAt}
use Rattle.lemmas.specs.Bits.{is_set}
use Rattle.solid_model.specs.Blocks.{ProblemParts}

-- one of some cells excludes a value of its block
abbrev pub ExcludesAmong : ProblemParts → SeenLine → Bool → ℕ → ℕ → Bool → Type 0
ExcludesAmong p s of_after cells block value = (depth : ℕ) × (is_set cells depth ≡ true) × ExcludesAt p s of_after depth block value
