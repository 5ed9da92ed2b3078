-- A file's pairs, cut into entries.
use Rattle.std.specs.Prelude.{ℕ, Bool, true, false, not, ◌&&◌, List, [], ◌∷◌, pos, Option, Some, None, codes, if◌then◌else◌}
use Rattle.std.specs.Ordering.{int_eq}
use Rattle.std.specs.Str.{bytes_eq}
use Rattle.dxf_groups.specs.Pairs.{TextPair}

-- the pair has this code
abbrev pub has_code : ℕ → TextPair → Bool
has_code code p = int_eq p.code (pos code)

-- An entry begins with a pair of code 0, which names it, and has the pairs up to the next one of
-- code 0.
pub record Entry : Type 0 where
  pub name : List ℕ
  pub line : ℕ
  pub pairs : List TextPair

-- the pairs before the first one of code 0
abbrev pub before_entries : List TextPair → List TextPair
before_entries [] = []
before_entries (p ∷ ps) = if has_code 0 p then [] else p ∷ before_entries ps

-- the entries of a list of pairs
abbrev pub entries_of : List TextPair → List Entry
entries_of [] = []
entries_of (p ∷ ps) = if has_code 0 p
    then (record { name = p.value; line = p.line; pairs = before_entries ps }) ∷ entries_of ps
    else entries_of ps

-- a pair with code 102 whose value begins with `{` begins what belongs to an application
abbrev pub begins_with_brace : List ℕ → Bool
begins_with_brace [] = false
begins_with_brace (b ∷ bs) = bytes_eq (b ∷ []) (codes "{")

abbrev pub opens_application : TextPair → Bool
opens_application p = has_code 102 p && begins_with_brace p.value

-- and the first one with code 102 and value `}` ends it
abbrev pub closes_application : TextPair → Bool
closes_application p = has_code 102 p && bytes_eq p.value (codes "}")

-- The pairs that don't belong to an application; whether the first ones do is told. The end of the
-- list ends all.
abbrev pub own_pairs : Bool → List TextPair → List TextPair
own_pairs inside [] = []
own_pairs true (p ∷ ps) = own_pairs (not (closes_application p)) ps
own_pairs false (p ∷ ps) = if opens_application p then own_pairs true ps else p ∷ own_pairs false ps

-- the first value with this code
abbrev pub first_value : ℕ → List TextPair → Option (List ℕ)
first_value code [] = None
first_value code (p ∷ ps) = if has_code code p then Some p.value else first_value code ps
