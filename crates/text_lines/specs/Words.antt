-- Lines of words: how they are spelled, and how one is read, word by word.
use Rattle.std.specs.Prelude.{◌==◌, Bool, true, false, ℕ, List, [], ◌∷◌, ◌++◌, Option, Some, None, if◌then◌else◌}
use Rattle.std.specs.Str.{bytes_eq}

-- a word, and then some more, with one space before each of these
abbrev pub joined_behind : List ℕ → List (List ℕ) → List ℕ
joined_behind word [] = word
joined_behind word (next ∷ words) = word ++ 32 ∷ joined_behind next words

-- the line of some words, with one space between them
abbrev pub joined : List (List ℕ) → List ℕ
joined [] = []
joined (word ∷ words) = joined_behind word words

-- a line cut at its first space: the word before it, and what stands behind it, if there is a space
pub record Cut : Type 0 where
  pub word : List ℕ
  pub rest : Option (List ℕ)

-- the cut of a line
abbrev pub cut : List ℕ → Cut
cut [] = record { word = []; rest = None }
cut (c ∷ cs) = if c == 32 then record { word = []; rest = Some cs } else record { word = c ∷ (cut cs).word; rest = (cut cs).rest }

-- what is read of two things, where both are there
abbrev pub of_both : {A B C : Type 0} → (A → B → Option C) → Option A → Option B → Option C
of_both f (Some a) (Some b) = f a b
of_both f (Some a) None = None
of_both f None o = None

-- which of two words a word is, the second one being true
abbrev pub either_word : List ℕ → List ℕ → List ℕ → Option Bool
either_word off on word = if bytes_eq word off then Some false else (if bytes_eq word on then Some true else None)
