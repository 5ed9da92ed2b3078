-- Small lists of words, each written as one line with a blank between two words.
use Rattle.std.specs.Prelude.{ℕ, ◌==◌, Bool, false, List, [], ◌∷◌, Option, Some, None, codes, map, option_map, is_some}
use Rattle.std.specs.List.{list_any, slice_split}
use Rattle.words.specs.declared.job.Job.{Job}
use Rattle.words.specs.declared.job.Job.TheVariants as job
use Rattle.words.specs.Jobs.{job_said}
use Rattle.words.specs.Words.{Table, Text, taken}

-- the words of a line: what stands before, between and after its blanks
abbrev pub words_in : Text → List Text
words_in line = slice_split (λ c. c == 32) line

abbrev pub job_in : Text → Option Job
job_in line = job_said (words_in line)

-- a search by so many workers, within limits, with pages or without, of coordinates with so many decimals, in three views, without sections
abbrev pub search_by : ℕ → ℕ → ℕ → Bool → ℕ → Option Job
search_by workers nodes solids pages decimals = Some (job.Solve workers (record { nodes = nodes; solids = solids }) pages decimals false false)

-- by one worker, without pages, of whole coordinates
abbrev pub search_within : ℕ → ℕ → Option Job
search_within nodes solids = search_by 1 nodes solids false 0

abbrev pub redrawn : ℕ → ℕ → ℕ → ℕ → ℕ → Option Job
redrawn which workers nodes solids decimals = Some (job.Redraw which workers (record { nodes = nodes; solids = solids }) decimals false false)

-- whether any of the lines is taken
abbrev pub any_said : List Text → Bool
any_said lines = list_any (λ line. is_some (job_in line)) lines

-- a command with an option `--size` from 2 to 9, a flag `--pages` and a number from 1 to 65,536
abbrev pub small_table : Table
small_table = record {
  options = record { name = codes "size"; range = Some (record { least = 2; most = 9 }) }
      ∷ record { name = codes "pages"; range = None } ∷ [];
  number = Some (record { least = 1; most = 65536 });
}

-- what its words give, by name
abbrev pub given_in : Text → Option (List (Text × Text))
given_in line = option_map (map (λ u. (u.0.name, u.1))) (taken small_table (words_in line))

abbrev pub any_given : List Text → Bool
any_given lines = list_any (λ line. is_some (given_in line)) lines
