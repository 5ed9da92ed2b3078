-- A file as a list of fields, each a group code and a value, and the pairs that are read of it.
use Rattle.std.proofs.Common.{◌≡◌, ℕ, ◌+◌, true, false, List, [], ◌∷◌, ◌++◌, ℤ, Some, Ok, flat_map, codes, refl, ap, ◌∙◌, append_assoc}
use Rattle.lemmas.specs.Lists.{Each}
use Rattle.dxf_groups.specs.Codes.{group_code_of, is_comment, is_end}
use Rattle.dxf_groups.specs.Pairs.{TextPair, with_pair, pairs_from}
use Rattle.dxf_groups.specs.SmallTexts.{pair_on}
use Rattle.dxf_groups.specs.TextLines.{contents_of}
use Rattle.redraw.specs.Plain.{pair_text}
use Rattle.read_back.proofs.TextPieces.{are_graphic, content_cut}

-- a code as it is spelled, the number that it is, and its value
pub record Field : Type 0 where
  pub code : List ℕ
  pub number : ℤ
  pub value : List ℕ

-- code and value are texts of graphic bytes, and the pair is neither a comment nor the end
pub record IsField (f : Field) : Type 0 where
  pub graphic_code : are_graphic f.code ≡ true
  pub graphic_value : are_graphic f.value ≡ true
  pub spelled : group_code_of f.code ≡ Some f.number
  pub counts : is_comment f.number ≡ false
  pub goes_on : is_end f.number f.value ≡ false

-- a field, and fields, as they are written
abbrev pub field_text : Field → List ℕ
field_text f = pair_text f.code f.value

abbrev pub text_of : List Field → List ℕ
text_of fs = flat_map field_text fs

-- the end pair
abbrev pub end_text : List ℕ
end_text = pair_text (codes "0") (codes "EOF")

-- the pairs of fields, of which the first is on line n
abbrev pub pairs_on : ℕ → List Field → List TextPair
pairs_on n [] = []
pairs_on n (f ∷ fs) = pair_on n f.number f.value ∷ pairs_on (n + 2) fs

-- the line after them
abbrev pub past : ℕ → List Field → ℕ
past n [] = n
past n (f ∷ fs) = past (n + 2) fs

-- a field's text goes on as its code's line and its value's line do
field_split : (code value rest : List ℕ)
    → pair_text code value ++ rest ≡ code ++ 10 ∷ (value ++ 10 ∷ rest)
field_split code value rest = simp append_assoc

-- what counts of its two lines
field_cut : (f : Field) (rest : List ℕ) → IsField f
    → contents_of (field_text f ++ rest) ≡ f.code ∷ f.value ∷ contents_of rest
field_cut f rest is =
    ap contents_of (field_split f.code f.value rest)
    ∙ content_cut f.code is.graphic_code (f.value ++ 10 ∷ rest)
    ∙ ap (λ ts. f.code ∷ ts) (content_cut f.value is.graphic_value rest)

-- its pair comes before those of what follows
field_read : (n : ℕ) (f : Field) (rest : List ℕ) → IsField f
    → pairs_from n (contents_of (field_text f ++ rest))
    ≡ with_pair (pair_on n f.number f.value) (pairs_from (n + 2) (contents_of rest))
field_read n f rest is = rw (field_cut f rest is, is.spelled, is.counts, is.goes_on) refl

-- the pairs of fields and the end pair
pub fields_read : (n : ℕ) (fs : List Field) → Each IsField fs
    → pairs_from n (contents_of (text_of fs ++ end_text))
    ≡ record { pairs = pairs_on n fs; ending = Ok (past n fs) }
fields_read n [] each = refl
fields_read n (f ∷ fs) each =
    ap (λ t. pairs_from n (contents_of t)) (append_assoc (field_text f) (text_of fs) end_text)
    ∙ field_read n f (text_of fs ++ end_text) each.0
    ∙ ap (with_pair (pair_on n f.number f.value)) (fields_read (n + 2) fs each.1)
