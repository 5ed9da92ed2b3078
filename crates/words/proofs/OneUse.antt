-- One use of an argument: whether it is refused, and the row that it makes.
use Rattle.std.proofs.Common.{◌≡◌, ◌∙◌, refl, sym, ap, Bool, true, false, cond, not, ◌&&◌, ◌||◌, List, [], ◌∷◌, ◌++◌, map, Some, None, append-nil, true≢false}
use Rattle.std.specs.Str.{bytes_eq}
use Rattle.clap.specs.Kinds.{Kinds, or_else}
use Rattle.clap.specs.Faults.{use_fault}
use Rattle.clap.specs.Simple.{filled}
use Rattle.clap.specs.ValueTests.{is_unsigned_in}
use Rattle.clap.specs.Walk.{Row, at_row, has_row, more_values, used}
use Rattle.clap.specs.declared.error.kind.ErrorKind.{ErrorKind}
use Rattle.clap.specs.declared.builder.value_parser.Reading.TheVariants as reading
use Rattle.clap.specs.declared.parser.matches.ValueSource.TheVariants.{CommandLine}
use Rattle.clap.proofs.WalkLemmas.{list_any-map}
use Rattle.words.specs.declared.table.Range.{Range}
use Rattle.words.specs.Rules.{rule_by}
use Rattle.words.specs.Words.{Text, Use, flag_text, is_used}

-- no kind of error comes
abbrev pub none : Kinds → Bool
none [] = true
none (k ∷ ks) = false

pub none_of_two : (a b : Kinds) → none (or_else a b) ≡ (none a && none b)
none_of_two [] b = refl
none_of_two (k ∷ ks) b = refl

-- the row of a use
abbrev pub use_row : Use → Row
use_row u = record { id = u.0.name; values = u.1 ∷ []; count = None; source = Some CommandLine; reading = reading.AsWritten }

pub rows_used : (name : Text) (us : List Use) → has_row name (map use_row us) ≡ is_used name us
rows_used name us = sym (list_any-map (λ r. bytes_eq r.id name) use_row us)

-- a row that isn't there is added at the end
pub at_new : (id : Text) (change : Row → List Row) (missing rows : List Row) → has_row id rows ≡ false
    → at_row id change missing rows ≡ rows ++ missing
at_new id change missing [] e = refl
at_new id change missing (r ∷ rs) e = go (bytes_eq r.id id) e (λ none. at_new id change missing rs none)
  where
    go : (b : Bool) → (b || has_row id rs) ≡ false → (has_row id rs ≡ false → at_row id change missing rs ≡ rs ++ missing)
        → cond b (change r ++ rs) (r ∷ at_row id change missing rs) ≡ r ∷ (rs ++ missing)
    go true e later = absurd (true≢false e)
    go false e later = ap (λ xs. r ∷ xs) (later e)

set_new : (id : Text) (change : Row → List Row) (row : Row) (rows : List Row) → has_row id rows ≡ false
    → at_row id change (row ∷ []) (at_row id (λ r. []) [] rows) ≡ rows ++ row ∷ []
set_new id change row rows e =
    ap (at_row id change (row ∷ [])) (at_new id (λ r. []) [] rows e ∙ append-nil rows) ∙ at_new id change (row ∷ []) rows e

kinds_by : (k m : ErrorKind) (b c : Bool) → none (or_else (cond (b && true) (k ∷ []) []) (or_else (cond c [] (m ∷ [])) []))
    ≡ (not b && c)
kinds_by k m true c = refl
kinds_by k m false true = refl
kinds_by k m false false = refl

kinds_by_repeat : (k : ErrorKind) (b : Bool) → none (or_else (cond (b && true) (k ∷ []) []) []) ≡ (not b && true)
kinds_by_repeat k true = refl
kinds_by_repeat k false = refl

-- an option with a value
pub value_fault : (name : Text) (r : Range) (x : Text) (rows : List Row)
    → none (use_fault false (filled (rule_by name (Some r))) (x ∷ []) rows)
    ≡ (not (has_row name rows) && is_unsigned_in r.least r.most x)
value_fault name r x rows = kinds_by _ _ (has_row name rows) (is_unsigned_in r.least r.most x)

pub value_used : (name : Text) (r : Range) (x : Text) (rows : List Row) → has_row name rows ≡ false
    → used (filled (rule_by name (Some r))) (x ∷ []) rows ≡ rows ++ use_row (record { name = name; range = Some r }, x) ∷ []
value_used name r x rows e = set_new name (more_values CommandLine (x ∷ [])) _ rows e

-- a flag
pub flag_fault : (name : Text) (rows : List Row) → none (use_fault false (filled (rule_by name None)) [] rows)
    ≡ (not (has_row name rows) && true)
flag_fault name rows = kinds_by_repeat _ (has_row name rows)

pub flag_used : (name : Text) (rows : List Row) → has_row name rows ≡ false
    → used (filled (rule_by name None)) [] rows ≡ rows ++ use_row (record { name = name; range = None }, flag_text) ∷ []
flag_used name rows e = set_new name (more_values CommandLine (flag_text ∷ [])) _ rows e
