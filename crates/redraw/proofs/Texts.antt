-- The texts of a line and of a file, part by part.
use Rattle.std.proofs.Common.{◌≡◌, ◌++◌, ℕ, List, [], ℤ, sym, ap, ◌∙◌, codes, append_assoc}
use Rattle.std.specs.List.{flat_map}
use Rattle.decimal_texts.specs.Decimals.{decimal_text}
use Rattle.std.proofs.lemmas.Grind.{flat_map-append}
use Rattle.solid_model.specs.declared.frame.View.{View}
use Rattle.solid_model.specs.declared.frame.View.TheVariants.{Front, Top, Side}
use Rattle.solid_model.specs.Frames.{layer_name}
use Rattle.solid_model.specs.Line.{Line}
use Rattle.solid_model.specs.Runs.{DrawingRuns}
use Rattle.redraw.specs.Files.{placed_lines, sheet_lines}
use Rattle.redraw.specs.GridRuns.{last_line, sheet_text}
use Rattle.redraw.specs.Plain.{pair_text, linetype_name, line_text, file_head, file_end}

-- a point under three group codes
abbrev pub point_text : ℕ → List ℕ → List ℕ → List ℕ → ℤ → ℤ → List ℕ
point_text decimals a b c x y = pair_text a (decimal_text decimals x) ++ pair_text b (decimal_text decimals y) ++ pair_text c (codes "0")

-- nine parts, the last six of them in two halves
regrouped : (o a b c d e f g h i : List ℕ) → o ++ a ++ b ++ c ++ (d ++ e ++ f) ++ (g ++ h ++ i) ≡ o ++ (a ++ b ++ c ++ d ++ e ++ f ++ g ++ h ++ i)
regrouped o a b c d e f g h i = simp append_assoc

-- a line: what it is, on which layer, in which linetype, and its two points
pub line_pushed : (decimals : ℕ) (l : Line) (text one two three four five : List ℕ)
    → one ≡ text ++ pair_text (codes "0") (codes "LINE")
    → two ≡ one ++ pair_text (codes "8") (layer_name l.of)
    → three ≡ two ++ pair_text (codes "6") (linetype_name l.style)
    → four ≡ three ++ point_text decimals (codes "10") (codes "20") (codes "30") l.x0 l.y0
    → five ≡ four ++ point_text decimals (codes "11") (codes "21") (codes "31") l.x1 l.y1
    → five ≡ text ++ line_text decimals l
line_pushed decimals l text one two three four five p q r s t =
    t ∙ ap (λ u. u ++ point_text decimals (codes "11") (codes "21") (codes "31") l.x1 l.y1)
    (s ∙ ap (λ u. u ++ point_text decimals (codes "10") (codes "20") (codes "30") l.x0 l.y0)
    (r ∙ ap (λ u. u ++ pair_text (codes "6") (linetype_name l.style)) (q ∙ ap (λ u. u ++ pair_text (codes "8") (layer_name l.of)) p)))
    ∙ regrouped text (pair_text (codes "0") (codes "LINE")) (pair_text (codes "8") (layer_name l.of)) (pair_text (codes "6") (linetype_name l.style))
    (pair_text (codes "10") (decimal_text decimals l.x0)) (pair_text (codes "20") (decimal_text decimals l.y0)) (pair_text (codes "30") (codes "0"))
    (pair_text (codes "11") (decimal_text decimals l.x1)) (pair_text (codes "21") (decimal_text decimals l.y1)) (pair_text (codes "31") (codes "0"))

-- ---- the file

-- the lines of a view where it stands on the sheet, as a text
abbrev pub view_text : ℕ → DrawingRuns → View → List ℕ
view_text decimals d v = flat_map (line_text decimals) (placed_lines (last_line d.front.upright) (last_line d.front.level) d v)

-- head, three views and end, one behind another
all_parts : (a b p q r s t : List ℕ) → [] ++ a ++ b ++ p ++ q ++ r ++ s ++ t ≡ (a ++ b) ++ (p ++ (q ++ r)) ++ (s ++ t)
all_parts a b p q r s t = simp append_assoc

-- the lines of the three views, one after another
views_text : (decimals : ℕ) (d : DrawingRuns) → view_text decimals d Front ++ (view_text decimals d Top ++ view_text decimals d Side)
    ≡ flat_map (line_text decimals) (sheet_lines (last_line d.front.upright) (last_line d.front.level) d)
views_text decimals d =
    let lines : View → List Line = placed_lines (last_line d.front.upright) (last_line d.front.level) d in
    sym (flat_map-append (line_text decimals) (lines Front) (lines Top ++ lines Side)
    ∙ ap (λ t. view_text decimals d Front ++ t) (flat_map-append (line_text decimals) (lines Top) (lines Side)))

-- the file of a sheet
pub file_pushed : (decimals : ℕ) (d : DrawingRuns) (zero one two three four five six seven : List ℕ)
    → zero ≡ []
    → one ≡ zero ++ pair_text (codes "0") (codes "SECTION")
    → two ≡ one ++ pair_text (codes "2") (codes "ENTITIES")
    → three ≡ two ++ view_text decimals d Front
    → four ≡ three ++ view_text decimals d Top
    → five ≡ four ++ view_text decimals d Side
    → six ≡ five ++ pair_text (codes "0") (codes "ENDSEC")
    → seven ≡ six ++ pair_text (codes "0") (codes "EOF")
    → seven ≡ sheet_text decimals d
file_pushed decimals d zero one two three four five six seven p q r s t u v w =
    w ∙ ap (λ n. n ++ pair_text (codes "0") (codes "EOF"))
    (v ∙ ap (λ n. n ++ pair_text (codes "0") (codes "ENDSEC"))
    (u ∙ ap (λ n. n ++ view_text decimals d Side)
    (t ∙ ap (λ n. n ++ view_text decimals d Top)
    (s ∙ ap (λ n. n ++ view_text decimals d Front)
    (r ∙ ap (λ n. n ++ pair_text (codes "2") (codes "ENTITIES"))
    (q ∙ ap (λ n. n ++ pair_text (codes "0") (codes "SECTION")) p))))))
    ∙ all_parts (pair_text (codes "0") (codes "SECTION")) (pair_text (codes "2") (codes "ENTITIES")) (view_text decimals d Front) (view_text decimals d Top) (view_text decimals d Side)
    (pair_text (codes "0") (codes "ENDSEC")) (pair_text (codes "0") (codes "EOF"))
    ∙ ap (λ n. file_head ++ n ++ file_end) (views_text decimals d)
