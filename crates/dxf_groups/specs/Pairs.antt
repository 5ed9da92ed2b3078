-- The pairs of a text, and how they end.
use Rattle.std.specs.Prelude.{ℕ, ◌+◌, ℤ, cond, List, [], ◌∷◌, length, drop, Option, Some, None, Result, Ok, Err, nat_eq, codes}
use Rattle.std.specs.List.{starts_with}
use Rattle.solid_model.specs.declared.fault.Fault.{Fault}
use Rattle.solid_model.specs.declared.fault.Fault.TheVariants.{Binary, BadCode, NoValue, NoEof}
use Rattle.dxf_groups.specs.declared.pair.Pair.{Pair}
use Rattle.dxf_groups.specs.Codes.{group_code_of, is_comment, is_end}
use Rattle.dxf_groups.specs.TextLines.{behind_lines, contents_of}

-- a pair: its group code, its value, and the number of the line of its code
pub record TextPair : Type 0 where
  pub code : ℤ
  pub value : List ℕ
  pub line : ℕ

-- a pair as it was read, with its value
abbrev pub text_pair : Pair → List ℕ → TextPair
text_pair pair value = record { code = pair.code; value = value; line = pair.line }

-- the pairs of a text without its comments, and how they end: by the end pair, whose code is on this
-- line, or by a fault
pub record Pairs : Type 0 where
  pub pairs : List TextPair
  pub ending : Result ℕ Fault

-- no pairs, and an ending
abbrev pub ended : Result ℕ Fault → Pairs
ended ending = record { pairs = []; ending = ending }

-- one pair more before the others
abbrev pub with_pair : TextPair → Pairs → Pairs
with_pair pair rest = record { pairs = pair ∷ rest.pairs; ending = rest.ending }

-- a pair of a text before the pairs of the rest: a comment is passed over, and nothing comes after the
-- end pair
abbrev pub pair_before : TextPair → Pairs → Pairs
pair_before pair rest = cond (is_comment pair.code) rest
    (cond (is_end pair.code pair.value) (ended (Ok pair.line)) (with_pair pair rest))

-- a line with a code or none, the line of its value, and the pairs of the rest
abbrev pub code_before : ℕ → Option ℤ → List ℕ → Pairs → Pairs
code_before n None value rest = ended (Err (BadCode n))
code_before n (Some code) value rest =
    pair_before (record { code = code; value = value; line = n }) rest

-- the fault of a last line with a code or none
abbrev pub last_line_fault : ℕ → Option ℤ → Fault
last_line_fault n None = BadCode n
last_line_fault n (Some code) = NoValue n

-- the pairs of the lines that have these contents, of which the first is line n
abbrev pub pairs_from : ℕ → List (List ℕ) → Pairs
pairs_from n [] = ended (Err (NoEof n))
pairs_from n (code ∷ []) = ended (Err (last_line_fault n (group_code_of code)))
pairs_from n (code ∷ value ∷ rest) =
    code_before n (group_code_of code) value (pairs_from (n + 2) rest)

-- the mark of UTF-8, which may stand before a text
abbrev pub utf8_mark : List ℕ
utf8_mark = 239 ∷ 187 ∷ 191 ∷ []

-- a text without the mark, where it begins with one
abbrev pub without_mark : List ℕ → List ℕ
without_mark text = cond (starts_with nat_eq text utf8_mark) (drop (length utf8_mark) text) text

-- how a binary DXF file begins
abbrev pub binary_sentinel : List ℕ
binary_sentinel = codes "AutoCAD Binary DXF"

-- the pairs of a text after its mark
abbrev pub pairs_after_mark : List ℕ → Pairs
pairs_after_mark text = cond (starts_with nat_eq text binary_sentinel)
    (ended (Err (Binary 1)))
    (pairs_from 1 (contents_of text))

-- the pairs of a text, whose mark is skipped, once
unfoldable pub pairs_of : List ℕ → Pairs
pairs_of text = pairs_after_mark (without_mark text)

-- what stands behind the line after this one, that of the end pair's value; nothing is behind a fault
abbrev pub behind_end : Result ℕ Fault → List ℕ → Option (List ℕ)
behind_end (Ok line) text = Some (behind_lines (line + 1) text)
behind_end (Err fault) text = None

-- what stands in a text behind the two lines of its end pair; None where its pairs end by a fault
unfoldable pub rest_of_text : List ℕ → Option (List ℕ)
rest_of_text text = behind_end (pairs_of text).ending (without_mark text)
