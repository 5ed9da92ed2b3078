-- How logs are spelled. The words of a line have one space between them, and numbers are decimals.
use Rattle.std.specs.Prelude.{◌≡◌, ◌&&◌, Bool, true, false, ℕ, ◌≤◌, List, [], ◌∷◌, ◌++◌, length, map, IsTrue, codes, decimal}
use Rattle.lemmas.specs.Lists.{Each}
use Rattle.solid_model.specs.declared.frame.View.{View}
use Rattle.solid_model.specs.declared.frame.View.TheVariants.{Front, Top, Side}
use Rattle.solid_model.specs.Blocks.{ProblemParts}
use Rattle.solid_model.specs.Limits.{most_solid_limit}
use Rattle.dxf_groups.specs.TextLines.{text_lines}
use Rattle.text_lines.specs.Numbers.{has_ten_digits}
use Rattle.text_lines.specs.Words.{joined}
use Rattle.completeness_logs.specs.declared.entry.LinePlace.{LinePlace}
use Rattle.completeness_logs.specs.declared.entry.LogEntry.{LogEntry}
use Rattle.completeness_logs.specs.declared.entry.LogEntry.TheVariants.{Fail, Whole, Force, Split}
use Rattle.completeness_logs.specs.Logs.{LogTree, IsTreeUnder, tree_entries, listed_choices, nothing_known}

-- ---- words

-- a view
abbrev pub view_word : View → List ℕ
view_word Front = codes "front"
view_word Top = codes "top"
view_word Side = codes "side"

-- upright, or level
abbrev pub upright_word : Bool → List ℕ
upright_word false = codes "l"
upright_word true = codes "u"

-- full, or empty
abbrev pub full_word : Bool → List ℕ
full_word false = codes "0"
full_word true = codes "1"

-- where a line of the grid stands
abbrev pub place_words : LinePlace → List (List ℕ)
place_words place = view_word place.view ∷ upright_word place.upright ∷ decimal place.at ∷ decimal place.cell ∷ []

-- what an entry says
abbrev pub entry_words : LogEntry → List (List ℕ)
entry_words (Fail place) = codes "fail" ∷ place_words place
entry_words Whole = codes "solid" ∷ []
entry_words (Force block full place) = codes "force" ∷ decimal block ∷ full_word full ∷ place_words place
entry_words (Split block) = codes "split" ∷ decimal block ∷ []

-- ---- lines

-- the line of an entry
abbrev pub entry_line : LogEntry → List ℕ
entry_line e = joined (entry_words e)

-- the first line of a log, for a problem of so many blocks
abbrev pub opening_line : ℕ → List ℕ
opening_line blocks = joined (codes "log" ∷ codes "1" ∷ codes "blocks" ∷ decimal blocks ∷ [])

-- the last line of a log that lists so many solids
abbrev pub closing_line : ℕ → List ℕ
closing_line solids = joined (codes "end" ∷ decimal solids ∷ [])

-- the numbers of a place have at most ten digits
abbrev pub has_short_numbers : LinePlace → Bool
has_short_numbers place = has_ten_digits place.at && has_ten_digits place.cell

-- and those of an entry
abbrev pub is_short_entry : LogEntry → Bool
is_short_entry (Fail place) = has_short_numbers place
is_short_entry Whole = true
is_short_entry (Force block full place) = has_ten_digits block && has_short_numbers place
is_short_entry (Split block) = has_ten_digits block

-- ---- texts

-- at most so many solids may be listed: as many as a search may be asked for
abbrev pub most_listed : ℕ
most_listed = most_solid_limit

-- THE LOG of a problem, with the choices that it lists: the lines of the text are the first one, those of a tree where nothing is
-- known, and the last one, which tells how many choices there are.
pub record IsLog (p : ProblemParts) (text : List ℕ) (choices : List (List Bool)) : Type 0 where
  pub tree : LogTree
  pub under : IsTreeUnder p nothing_known tree
  pub short : Each (λ e. IsTrue (is_short_entry e)) (tree_entries tree)
  pub few : length (listed_choices p nothing_known tree) ≤ most_listed
  pub lines : text_lines text ≡ opening_line p.blocks.count
      ∷ map entry_line (tree_entries tree) ++ closing_line (length (listed_choices p nothing_known tree)) ∷ []
  pub lists : choices ≡ listed_choices p nothing_known tree
