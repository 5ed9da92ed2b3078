-- What is told of a log while it is written.
use Rattle.std.specs.Prelude.{◌≡◌, ◌≤◌, Bool, ℕ, List, Option}
use Rattle.completeness_logs.specs.LogTexts.{IsLog, most_listed}
use Rattle.solid_model.specs.Blocks.{ProblemParts}
use Rattle.tv_base.specs.Pieces.{AppendsPrefix}

-- a sink that held `held` and holds `now`, where told, has a prefix of a log behind it
abbrev pub WritesLog : ProblemParts → Option (List ℕ) → Option (List ℕ) → Type 0
WritesLog p held now = (text : List ℕ) × (choices : List (List Bool)) × IsLog p text choices × AppendsPrefix held now text

-- a count tells how many are listed, as far as so many may be
abbrev pub Counts : ℕ → ℕ → Type 0
Counts count listed = listed ≤ most_listed → count ≡ listed
