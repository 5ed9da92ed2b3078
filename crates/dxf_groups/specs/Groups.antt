-- What a reader of pairs has left, and what it gives.
use Rattle.std.specs.Prelude.{◌≡◌, ℕ, ℤ, pos, Bool, not, ◌&&◌, ◌||◌, cond, List, [], ◌∷◌, Option, Some, None, Result, Ok, Err}
use Rattle.std.specs.Ordering.{int_eq}
use Rattle.solid_model.specs.declared.fault.Fault.{Fault}
use Rattle.dxf_groups.specs.declared.pair.Pair.{Pair}
use Rattle.dxf_groups.specs.Codes.{is_comment}
use Rattle.dxf_groups.specs.Pairs.{TextPair, Pairs, ended, pairs_of, text_pair, with_pair}
use Rattle.dxf_groups.specs.Spans.{IsSpanIn, span_of}

-- a reader's text, the pairs that it hasn't given yet, and the line of the end pair's code, once that
-- was read
pub record GroupsState : Type 0 where
  pub text : List ℕ
  pub left : Pairs
  pub end_line : Option ℕ

-- a code is 0 or wanted
abbrev pub is_wanted : (ℤ → Bool) → ℤ → Bool
is_wanted wanted code = int_eq code (pos 0) || wanted code

-- a reader gives pairs with these codes
abbrev pub is_given : (ℤ → Bool) → ℤ → Bool
is_given wanted code = not (is_comment code) && is_wanted wanted code

-- the pairs from the first one on that has group code 0 or one that is wanted
abbrev pub from_wanted : (ℤ → Bool) → List TextPair → List TextPair
from_wanted wanted [] = []
from_wanted wanted (p ∷ ps) = cond (is_wanted wanted p.code) (p ∷ ps) (from_wanted wanted ps)

-- the same of the pairs that are left, which end as they do
abbrev pub wanted_on : (ℤ → Bool) → Pairs → Pairs
wanted_on wanted ps = record { pairs = from_wanted wanted ps.pairs; ending = ps.ending }

-- a reader gives the first pair that is left, and has the others left
pub record GivesPair (old : GroupsState) (pair : Pair) (new : GroupsState) : Type 0 where
  pub span : IsSpanIn old.text pair.value
  pub first : old.left ≡ with_pair (text_pair pair (span_of old.text pair.value)) new.left
  pub same_text : new.text ≡ old.text
  pub same_end : new.end_line ≡ old.end_line

-- a reader has no pair left but the end pair, whose line is known from then on
pub record GivesEnd (old new : GroupsState) : Type 0 where
  pub line : ℕ
  pub at_end : old.left ≡ ended (Ok line)
  pub told : new ≡ record old { end_line = Some line }

-- what a reader answers: a pair; the end or the fault once no pair is left, and at every later call
-- again
abbrev pub Gives : GroupsState → Result (Option Pair) Fault → GroupsState → Type 0
Gives old (Ok (Some pair)) new = GivesPair old pair new
Gives old (Ok None) new = GivesEnd old new
Gives old (Err fault) new = (old.left ≡ ended (Err fault)) × (new ≡ old)

-- A reader was read through: it has the same text, no pair is left, and the line of the end pair, with
-- which the pairs of the text end, is known.
pub record IsReadThrough (old new : GroupsState) : Type 0 where
  pub line : ℕ
  pub ends : (pairs_of old.text).ending ≡ Ok line
  pub read_out : new ≡ record { text = old.text; left = ended (Ok line); end_line = Some line }
