-- The pair that is read from the first lines of a text, and where that is the end pair.
use Rattle.std.proofs.Common.{◌≡◌, ℕ, ◌+◌, ◌<◌, ℤ, true, false, Ok, Err, List, [], ◌∷◌, Some, None, length, drop, map, get_or, refl, ap, sym, ◌∙◌, arith}
use Rattle.std.specs.List.{after_first, before_first}
use Rattle.std.proofs.lemmas.List.{length-drop}
use Rattle.solid_model.specs.declared.fault.Fault.TheVariants.{BadCode, NoValue}
use Rattle.dxf_groups.specs.Codes.{group_code_of, is_comment, is_end}
use Rattle.dxf_groups.specs.declared.pairs.ReadPair.{ReadPair}
use Rattle.dxf_groups.specs.Spans.{span_of}
use Rattle.dxf_groups.specs.ReadPairs.{IsReadFrom}
use Rattle.dxf_groups.specs.Pairs.{Pairs, ended, pair_before, pairs_from}
use Rattle.dxf_groups.specs.TextLines.{content_of, contents_of, is_feed}
use Rattle.dxf_groups.proofs.FirstLines.{lines-first}

-- the first two lines are a code and its value
pub pair_first : (n : ℕ) (lines : List (List ℕ)) (code value : List ℕ)
    (after rest : List (List ℕ)) (z : ℤ)
    → lines ≡ code ∷ after → after ≡ value ∷ rest → group_code_of code ≡ Some z
    → pairs_from n lines
    ≡ pair_before (record { code = z; value = value; line = n }) (pairs_from (n + 2) rest)
pair_first n lines code value after rest z is next some = rw (is, next, some) refl

-- the end pair is the last that is read
pub end_pair_read : (text : List ℕ) (left : Pairs) (read : ReadPair)
    → IsReadFrom text left read → is_comment read.pair.code ≡ false
    → is_end read.pair.code (span_of text read.pair.value) ≡ true → left ≡ ended (Ok read.pair.line)
end_pair_read text left read is kept ends = rw (is.pairs, kept, ends) refl

-- the first line that is left of a text, by what stands before its line feed
pub first_line_read : (text : List ℕ) (start after : ℕ) → start < length text
    → drop after text ≡ after_first is_feed (drop start text)
    → contents_of (drop start text)
    ≡ content_of (before_first is_feed (drop start text)) ∷ contents_of (drop after text)
first_line_read text start after some next =
    ap (map content_of) (lines-first (drop start text) (omega (arith, some, length-drop start text)))
    ∙ ap (λ (rest : List ℕ). content_of (before_first is_feed (drop start text)) ∷ contents_of rest)
    (sym next)

-- so what counts of it is what was found
pub same_first : (lines : List (List ℕ)) (x y : List ℕ) (xs ys : List (List ℕ)) → lines ≡ x ∷ xs
    → lines ≡ y ∷ ys → x ≡ y
same_first lines x y xs ys is also = ap (λ (ls : List (List ℕ)). get_or ls 0 []) (sym is ∙ also)

-- a line that is no group code ends the pairs,
pub bad_code_read : (n : ℕ) (lines : List (List ℕ)) (code : List ℕ) (rest : List (List ℕ))
    → lines ≡ code ∷ rest → group_code_of code ≡ None → pairs_from n lines ≡ ended (Err (BadCode n))
bad_code_read n lines code [] is none = rw (is, none) refl
bad_code_read n lines code (value ∷ rest) is none = rw (is, none) refl

-- and so does a group code that no line follows
pub no_value_read : (n : ℕ) (lines : List (List ℕ)) (code : List ℕ) (rest : List ℕ) (z : ℤ)
    → lines ≡ code ∷ contents_of rest → rest ≡ [] → group_code_of code ≡ Some z
    → pairs_from n lines ≡ ended (Err (NoValue n))
no_value_read n lines code rest z is none some =
    rw (is, none, some) refl
