-- The lengths of the plain form of lines, and of its parts.
use Rattle.std.proofs.Common.{◌≡◌, ℕ, ◌+◌, ◌*◌, ◌≤◌, List, [], ◌∷◌, ◌++◌, length, flat_map, codes, length-append, arith}
use Rattle.decimal_texts.specs.Decimals.{decimal_text}
use Rattle.solid_model.specs.declared.frame.View.{View}
use Rattle.solid_model.specs.declared.frame.View.TheVariants.{Front, Top, Side}
use Rattle.solid_model.specs.declared.segment.Style.{Style}
use Rattle.solid_model.specs.declared.segment.Style.TheVariants.{Blank, Dashed, Solid}
use Rattle.solid_model.specs.Frames.{layer_name}
use Rattle.solid_model.specs.Limits.{most_decimals}
use Rattle.solid_model.specs.Line.{Line, IsKept}
use Rattle.lemmas.specs.Lists.{Each}
use Rattle.redraw.specs.Plain.{pair_text, linetype_name, line_text, file_head, file_end, plain_file}
use Rattle.read_back.proofs.Spellings.{printed_length}

-- a layer's name is short
layer_length : (v : View) → length (layer_name v) ≤ 5
layer_length Front = omega arith
layer_length Top = omega arith
layer_length Side = omega arith

-- and so is a linetype's
linetype_length : (s : Style) → length (linetype_name s) ≤ 10
linetype_length Blank = omega arith
linetype_length Dashed = omega arith
linetype_length Solid = omega arith

-- the length of a code and its value
pair_length : (code value : List ℕ)
    → length (pair_text code value) ≡ length code + length value + 2
pair_length code value = simp length-append (omega arith)

-- the length of nine texts
nine_lengths : (a b c d e f g h i : List ℕ)
    → length (a ++ b ++ c ++ d ++ e ++ f ++ g ++ h ++ i)
    ≡ length a + length b + length c + length d + length e + length f + length g + length h
    + length i
nine_lengths a b c d e f g h i = simp length-append

-- a line takes at most 102 bytes
line_length : (decimals : ℕ) (l : Line) → decimals ≤ most_decimals → IsKept l
    → length (line_text decimals l) ≤ 102
line_length decimals l few is =
    let layer = pair_length (codes "8") (layer_name l.of) in
    let linetype = pair_length (codes "6") (linetype_name l.style) in
    let x0 = pair_length (codes "10") (decimal_text decimals l.x0) in
    let y0 = pair_length (codes "20") (decimal_text decimals l.y0) in
    let x1 = pair_length (codes "11") (decimal_text decimals l.x1) in
    let y1 = pair_length (codes "21") (decimal_text decimals l.y1) in
    let all =
    nine_lengths (pair_text (codes "0") (codes "LINE")) (pair_text (codes "8") (layer_name l.of))
    (pair_text (codes "6") (linetype_name l.style))
    (pair_text (codes "10") (decimal_text decimals l.x0)) (pair_text (codes "20") (decimal_text decimals l.y0))
    (pair_text (codes "30") (codes "0")) (pair_text (codes "11") (decimal_text decimals l.x1))
    (pair_text (codes "21") (decimal_text decimals l.y1)) (pair_text (codes "31") (codes "0")) in
    omega (
      arith,
      layer_length l.of,
      linetype_length l.style,
      printed_length decimals l.x0 few is.near_x0,
      printed_length decimals l.y0 few is.near_y0,
      printed_length decimals l.x1 few is.near_x1,
      printed_length decimals l.y1 few is.near_y1,
    )

-- and lines so many bytes each
lines_length : (decimals : ℕ) (lines : List Line) → decimals ≤ most_decimals → Each IsKept lines
    → length (flat_map (line_text decimals) lines) ≤ 102 * length lines
lines_length decimals [] few kept = omega arith
lines_length decimals (l ∷ ls) few kept =
    omega (
      arith,
      length-append (line_text decimals l) (flat_map (line_text decimals) ls),
      line_length decimals l few kept.0,
      lines_length decimals ls few kept.1,
    )

-- the plain form of lines is short
pub plain_is_short : (decimals : ℕ) (lines : List Line) → decimals ≤ most_decimals
    → Each IsKept lines → length (plain_file decimals lines) ≤ 40 + 104 * length lines
plain_is_short decimals lines few kept =
    let lengths : length (plain_file decimals lines)
    ≡ length file_head + length (flat_map (line_text decimals) lines) + length file_end =
    simp length-append in
    omega (arith, lines_length decimals lines few kept)
