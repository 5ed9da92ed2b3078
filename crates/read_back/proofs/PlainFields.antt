-- The plain form of lines, as fields, and the pairs that are read of it.
use Rattle.std.proofs.Common.{◌≡◌, ℕ, true, false, List, [], ◌∷◌, ◌++◌, ℤ, pos, Some, Ok, int_eq, flat_map, codes, refl, sym, ap, ◌∙◌, append_assoc}
use Rattle.std.proofs.lemmas.Bool.{and_left}
use Rattle.decimal_texts.specs.Decimals.{decimal_text}
use Rattle.solid_model.specs.declared.frame.View.{View}
use Rattle.solid_model.specs.declared.frame.View.TheVariants.{Front, Top, Side}
use Rattle.solid_model.specs.declared.segment.Style.{Style}
use Rattle.solid_model.specs.declared.segment.Style.TheVariants.{Blank, Dashed, Solid}
use Rattle.solid_model.specs.Frames.{layer_name}
use Rattle.solid_model.specs.Line.{Line, IsKept}
use Rattle.lemmas.specs.Lists.{Each}
use Rattle.lemmas.proofs.Lists.{each-append}
use Rattle.dxf_groups.specs.Codes.{group_code_of, is_comment, is_end}
use Rattle.dxf_groups.specs.Pairs.{pairs_from, pairs_of}
use Rattle.dxf_groups.specs.TextLines.{contents_of}
use Rattle.redraw.specs.Plain.{pair_text, linetype_name, line_text, file_head, file_end, plain_file}
use Rattle.read_back.proofs.Fields.{Field, IsField, text_of, end_text, pairs_on, past, fields_read}
use Rattle.read_back.proofs.Spellings.{printed_is_graphic}
use Rattle.read_back.proofs.TextPieces.{are_graphic}

-- a field of this code
abbrev field : List ℕ → ℤ → List ℕ → Field
field code number value = record { code = code; number = number; value = value }

-- what stands in a line's entity behind its name, with so many decimals
abbrev pub inner_fields : ℕ → Line → List Field
inner_fields decimals l = field (codes "8") (pos 8) (layer_name l.of)
    ∷ field (codes "6") (pos 6) (linetype_name l.style)
    ∷ field (codes "10") (pos 10) (decimal_text decimals l.x0)
    ∷ field (codes "20") (pos 20) (decimal_text decimals l.y0)
    ∷ field (codes "30") (pos 30) (codes "0")
    ∷ field (codes "11") (pos 11) (decimal_text decimals l.x1)
    ∷ field (codes "21") (pos 21) (decimal_text decimals l.y1)
    ∷ field (codes "31") (pos 31) (codes "0") ∷ []

-- the fields of a line
abbrev pub line_fields : ℕ → Line → List Field
line_fields decimals l = field (codes "0") (pos 0) (codes "LINE") ∷ inner_fields decimals l

-- those of lines, up to the end of their section
abbrev pub section_fields : ℕ → List Line → List Field
section_fields decimals [] = field (codes "0") (pos 0) (codes "ENDSEC") ∷ []
section_fields decimals (l ∷ ls) = line_fields decimals l ++ section_fields decimals ls

-- and those of the file, but for its end
abbrev pub file_fields : ℕ → List Line → List Field
file_fields decimals lines = field (codes "0") (pos 0) (codes "SECTION")
    ∷ field (codes "2") (pos 2) (codes "ENTITIES") ∷ section_fields decimals lines

-- ---- their text

-- nine texts before another
nine_before : (a b c d e f g h i rest : List ℕ)
    → a ++ b ++ c ++ d ++ e ++ f ++ g ++ h ++ i ++ rest
    ≡ a ++ (b ++ (c ++ (d ++ (e ++ (f ++ (g ++ (h ++ (i ++ rest))))))))
nine_before a b c d e f g h i rest = simp append_assoc

-- a line's text, and what follows it
line_split : (decimals : ℕ) (l : Line) (fs : List Field) (rest : List ℕ)
    → line_text decimals l ++ (text_of fs ++ rest)
    ≡ text_of (line_fields decimals l ++ fs) ++ rest
line_split decimals l fs rest =
    sym (append_assoc (line_text decimals l) (text_of fs) rest)
    ∙ ap (λ t. t ++ rest) (nine_before (pair_text (codes "0") (codes "LINE"))
    (pair_text (codes "8") (layer_name l.of)) (pair_text (codes "6") (linetype_name l.style))
    (pair_text (codes "10") (decimal_text decimals l.x0)) (pair_text (codes "20") (decimal_text decimals l.y0))
    (pair_text (codes "30") (codes "0")) (pair_text (codes "11") (decimal_text decimals l.x1))
    (pair_text (codes "21") (decimal_text decimals l.y1)) (pair_text (codes "31") (codes "0"))
    (text_of fs))

-- the texts of lines, and the end of their section and the file
section_split : (decimals : ℕ) (lines : List Line)
    → flat_map (line_text decimals) lines ++ file_end
    ≡ text_of (section_fields decimals lines) ++ end_text
section_split decimals [] = refl
section_split decimals (l ∷ ls) =
    append_assoc (line_text decimals l) (flat_map (line_text decimals) ls) file_end
    ∙ ap (λ t. line_text decimals l ++ t) (section_split decimals ls)
    ∙ line_split decimals l (section_fields decimals ls) end_text

-- the text of a file
file_split : (decimals : ℕ) (lines : List Line)
    → plain_file decimals lines ≡ text_of (file_fields decimals lines) ++ end_text
file_split decimals lines =
    append_assoc file_head (flat_map (line_text decimals) lines) file_end
    ∙ ap (λ t. file_head ++ t) (section_split decimals lines)

-- ---- its pairs

-- a layer's name is graphic
layer_is_graphic : (v : View) → are_graphic (layer_name v) ≡ true
layer_is_graphic Front = refl
layer_is_graphic Top = refl
layer_is_graphic Side = refl

-- and so is a linetype's
linetype_is_graphic : (s : Style) → are_graphic (linetype_name s) ≡ true
linetype_is_graphic Blank = refl
linetype_is_graphic Dashed = refl
linetype_is_graphic Solid = refl

-- a field whose code isn't 0 is one by its value
inner_is_field : (code : List ℕ) (number : ℤ) (value : List ℕ) → are_graphic code ≡ true
    → group_code_of code ≡ Some number → is_comment number ≡ false → int_eq number (pos 0) ≡ false
    → are_graphic value ≡ true → IsField (field code number value)
inner_is_field code number value graphic spelled counts inner is = record {
  graphic_code = graphic;
  graphic_value = is;
  spelled = spelled;
  counts = counts;
  goes_on = and_left (int_eq number (pos 0)) _ inner;
}

-- a field with this name under code 0 is one
entry_is_field : (name : List ℕ) → are_graphic name ≡ true → is_end (pos 0) name ≡ false
    → IsField (field (codes "0") (pos 0) name)
entry_is_field name graphic goes_on = record {
  graphic_code = refl;
  graphic_value = graphic;
  spelled = refl;
  counts = refl;
  goes_on = goes_on;
}

-- the fields of a line are fields
line_are_fields : (decimals : ℕ) (l : Line) → IsKept l → Each IsField (line_fields decimals l)
line_are_fields decimals l is =
    let name = entry_is_field (codes "LINE") refl refl in
    let layer =
    inner_is_field (codes "8") (pos 8) (layer_name l.of) refl refl refl refl
    (layer_is_graphic l.of) in
    let linetype =
    inner_is_field (codes "6") (pos 6) (linetype_name l.style) refl refl refl refl
    (linetype_is_graphic l.style) in
    let x0 =
    inner_is_field (codes "10") (pos 10) (decimal_text decimals l.x0) refl refl refl refl
    (printed_is_graphic decimals l.x0 is.near_x0) in
    let y0 =
    inner_is_field (codes "20") (pos 20) (decimal_text decimals l.y0) refl refl refl refl
    (printed_is_graphic decimals l.y0 is.near_y0) in
    let z0 = inner_is_field (codes "30") (pos 30) (codes "0") refl refl refl refl refl in
    let x1 =
    inner_is_field (codes "11") (pos 11) (decimal_text decimals l.x1) refl refl refl refl
    (printed_is_graphic decimals l.x1 is.near_x1) in
    let y1 =
    inner_is_field (codes "21") (pos 21) (decimal_text decimals l.y1) refl refl refl refl
    (printed_is_graphic decimals l.y1 is.near_y1) in
    let z1 = inner_is_field (codes "31") (pos 31) (codes "0") refl refl refl refl refl in
    (name, (layer, (linetype, (x0, (y0, (z0, (x1, (y1, (z1, tt)))))))))

-- so are those of lines
section_are_fields : (decimals : ℕ) (lines : List Line) → Each IsKept lines
    → Each IsField (section_fields decimals lines)
section_are_fields decimals [] kept = (entry_is_field (codes "ENDSEC") refl refl, tt)
section_are_fields decimals (l ∷ ls) kept =
    each-append IsField (line_fields decimals l) (section_fields decimals ls)
    (line_are_fields decimals l kept.0) (section_are_fields decimals ls kept.1)

-- and those of the file
file_are_fields : (decimals : ℕ) (lines : List Line) → Each IsKept lines
    → Each IsField (file_fields decimals lines)
file_are_fields decimals lines kept =
    let name =
    inner_is_field (codes "2") (pos 2) (codes "ENTITIES") refl refl refl refl refl in
    (entry_is_field (codes "SECTION") refl refl, (name, section_are_fields decimals lines kept))

-- a text that begins so has no mark, and isn't binary
begins_as_text : (decimals : ℕ) (lines : List Line) (rest : List ℕ)
    → pairs_of (text_of (file_fields decimals lines) ++ rest)
    ≡ pairs_from 1 (contents_of (text_of (file_fields decimals lines) ++ rest))
unfolding pairs_of
begins_as_text decimals lines rest = refl

-- the pairs of the plain form of lines
pub plain_pairs : (decimals : ℕ) (lines : List Line) → Each IsKept lines
    → pairs_of (plain_file decimals lines)
    ≡ record {
      pairs = pairs_on 1 (file_fields decimals lines);
      ending = Ok (past 1 (file_fields decimals lines));
    }
plain_pairs decimals lines kept =
    ap pairs_of (file_split decimals lines)
    ∙ begins_as_text decimals lines end_text
    ∙ fields_read 1 (file_fields decimals lines) (file_are_fields decimals lines kept)
