-- The entities of the plain form of lines, and the lines that are read of them.
use Rattle.std.proofs.Common.{◌≡◌, ◌≢◌, ◌⊎◌, inl, inr, ℕ, ◌+◌, ◌-◌, ◌<◌, ◌≤◌, true, ◌||◌, List, [], ◌∷◌, ◌++◌, length, map, ℤ, Some, None, Ok, int_eq, codes, refl, sym, ap, ◌∙◌, append_assoc, append-nil, length-append, le-leb, arith}
use Rattle.std.proofs.lemmas.Bool.{or_left, or_right}
use Rattle.std.proofs.lemmas.Bool.Decides.{Decides-int_eq}
use Rattle.solid_model.specs.declared.frame.View.{View}
use Rattle.solid_model.specs.declared.frame.View.TheVariants.{Front, Top, Side}
use Rattle.solid_model.specs.declared.segment.Style.{Style}
use Rattle.solid_model.specs.declared.segment.Style.TheVariants.{Blank, Dashed, Solid}
use Rattle.solid_model.specs.Frames.{layer_name}
use Rattle.solid_model.specs.Limits.{most_lines}
use Rattle.solid_model.specs.Line.{Line, IsKept}
use Rattle.lemmas.specs.Lists.{Each}
use Rattle.dxf_entities.specs.declared.facts.Facts.{Facts}
use Rattle.dxf_entities.specs.declared.kind.Kind.TheVariants as kind
use Rattle.dxf_entities.specs.declared.layer_line.LayerLine.{LayerLine}
use Rattle.dxf_entities.specs.declared.linetype.Linetype.{Linetype}
use Rattle.dxf_entities.specs.declared.linetype.Linetype.TheVariants as linetype
use Rattle.dxf_entities.specs.declared.named.Named.TheVariants.{Shows}
use Rattle.dxf_entities.specs.declared.place.Place.TheVariants.{Inside}
use Rattle.dxf_entities.specs.declared.section.Section.TheVariants.{Entities}
use Rattle.dxf_entities.specs.Entries.{Entry, before_entries, entries_of}
use Rattle.dxf_entities.specs.declared.shape.Shape.TheVariants as shape
use Rattle.dxf_entities.specs.Coordinates.{line_ends}
use Rattle.dxf_entities.specs.Judging.{by_layer, drawn_by, facts_of, judged, style_of}
use Rattle.dxf_entities.specs.Known.{Known}
use Rattle.dxf_entities.specs.Forms.{three_views}
use Rattle.dxf_entities.specs.Names.{kind_of, layer_on, linetype_of, main_layer, section_of}
use Rattle.dxf_entities.specs.Reading.{Progress, entity_read, entries_read, is_ended, main_lines, main_read, pairs_read, read_of}
use Rattle.dxf_entities.specs.Steps.{◌>>=◌}
use Rattle.redraw.specs.Plain.{linetype_name, plain_file}
use Rattle.read_back.specs.ReadBack.{numbered_from}
use Rattle.read_back.proofs.Fields.{pairs_on, past}
use Rattle.read_back.proofs.PlainFields.{inner_fields, section_fields, file_fields, plain_pairs}
use Rattle.read_back.proofs.Spellings.{printed_is_read}

-- ---- what counts of a line's entity

-- a line with its number in the file
abbrev pub numbered : ℕ → Line → Line
numbered n l = record l { number = n }

-- the linetype of a style
abbrev linetype_for : Style → Linetype
linetype_for Blank = linetype.Unlisted
linetype_for Dashed = linetype.Hidden
linetype_for Solid = linetype.Continuous

-- the coordinates of a line
abbrev known_of : Line → Known
known_of l = record { x0 = Some l.x0; y0 = Some l.y0; x1 = Some l.x1; y1 = Some l.y1 }

-- the facts of a line
abbrev facts_for : ℕ → Line → Facts
facts_for n l = record {
  line = n;
  kind = kind.Line;
  layer = Some (Shows (main_layer l.of));
  paper = None;
  linetype = Some (linetype_for l.style);
  shape = Ok (shape.Line (known_of l));
}

-- a line that stands on its view's layer
abbrev on_main : Line → LayerLine
on_main l = record { layer = main_layer l.of; line = l }

-- the entity of a line that begins on line n, with so many decimals
abbrev entry_for : ℕ → ℕ → Line → Entry
entry_for decimals n l =
    record { name = codes "LINE"; line = n; pairs = pairs_on (n + 2) (inner_fields decimals l) }

-- a view's layer is the view's
layer_read : (decimals : ℕ) (v : View) → layer_on (three_views decimals) (layer_name v) ≡ Shows (main_layer v)
unfolding layer_on
layer_read decimals Front = refl
layer_read decimals Top = refl
layer_read decimals Side = refl

-- the name of a style's linetype means it
linetype_read : (s : Style) → s ≢ Blank → linetype_of (linetype_name s) ≡ linetype_for s
unfolding linetype_of
linetype_read Blank drawn = absurd (drawn refl)
linetype_read Dashed drawn = refl
linetype_read Solid drawn = refl

-- the facts that are read of a line's entity
facts_read : (decimals n : ℕ) (l : Line) → IsKept l
    → facts_of (three_views decimals) (entry_for decimals n l) ≡ facts_for n l
unfolding kind_of
facts_read decimals n l is =
    rw (
      layer_read decimals l.of,
      linetype_read l.style is.drawn,
      printed_is_read decimals l.x0 is.near_x0,
      printed_is_read decimals l.y0 is.near_y0,
      printed_is_read decimals l.x1 is.near_x1,
      printed_is_read decimals l.y1 is.near_y1,
    ) refl

-- ---- how it is judged

-- the style of a style's linetype is the style
style_read : (n : ℕ) (s : Style) → s ≢ Blank
    → style_of n None (by_layer (linetype_for s) None) ≡ Ok (Some s)
style_read n Blank drawn = absurd (drawn refl)
style_read n Dashed drawn = refl
style_read n Solid drawn = refl

-- a level or an upright line passes the test
straight_test : (x0 y0 x1 y1 : ℤ) → (x0 ≡ x1) ⊎ (y0 ≡ y1)
    → (int_eq x0 x1 || int_eq y0 y1) ≡ true
straight_test x0 y0 x1 y1 (inl level) =
    or_left (int_eq x0 x1) (int_eq y0 y1) ((Decides-int_eq x0 x1).1 level)
straight_test x0 y0 x1 y1 (inr upright) =
    or_right (int_eq x0 x1) (int_eq y0 y1) ((Decides-int_eq y0 y1).1 upright)

-- the line that it gives, where there is room for one more
line_judged : (n : ℕ) (lines : List LayerLine) (l : Line) → IsKept l → length lines < most_lines
    → judged (λ layer. None) lines (facts_for n l) ≡ Ok (lines ++ on_main (numbered n l) ∷ [])
unfolding drawn_by line_ends
line_judged n lines l is room =
    let fits : 1 ≤ most_lines - length lines = omega arith in
    rw (
      style_read n l.style is.drawn,
      straight_test l.x0 l.y0 l.x1 l.y1 is.straight,
      le-leb 1 (most_lines - length lines) fits,
    ) refl

-- ---- how the file goes on

-- among the entities, which are read with so many decimals, with these lines kept
abbrev among : ℕ → List LayerLine → Progress
among decimals lines = record { form = three_views decimals; place = Inside Entities; layers = λ layer. None; lines = lines }

-- one more line is kept
line_kept : (decimals n : ℕ) (l : Line) (lines : List LayerLine) → IsKept l → length lines < most_lines
    → entity_read (facts_of (three_views decimals) (entry_for decimals n l)) (among decimals lines)
    ≡ Ok (among decimals (lines ++ on_main (numbered n l) ∷ []))
line_kept decimals n l lines is room =
    rw (facts_read decimals n l is, line_judged n lines l is room) refl

-- lines and the end of their section begin with an entry
nothing_before : (decimals n : ℕ) (lines : List Line)
    → before_entries (pairs_on n (section_fields decimals lines)) ≡ []
nothing_before decimals n [] = refl
nothing_before decimals n (l ∷ ls) = refl

-- a file that ends by its end pair has ended each entry
all_ended : (es : List Entry) (line : ℕ) → is_ended es (Ok line) ≡ true
all_ended [] line = refl
all_ended (e ∷ es) line = refl

-- the line behind a line's entity
abbrev line_past : ℕ → ℕ
line_past n = n + 2 + 2 + 2 + 2 + 2 + 2 + 2 + 2 + 2

-- the entries of lines and the end of their section
first_entry : (decimals n : ℕ) (l : Line) (ls : List Line)
    → entries_of (pairs_on n (section_fields decimals (l ∷ ls)))
    ≡ entry_for decimals n l ∷ entries_of (pairs_on (n + 18) (section_fields decimals ls))
first_entry decimals n l ls =
    let after : line_past n ≡ n + 18 = omega arith in
    rw (nothing_before decimals (line_past n) ls, after) refl

-- a line's entity is read, and what follows it
entry_kept : (decimals n line : ℕ) (l : Line) (es : List Entry) (lines : List LayerLine) → IsKept l
    → length lines < most_lines
    → entries_read (entry_for decimals n l ∷ es) (Ok line) (among decimals lines)
    ≡ entries_read es (Ok line) (among decimals (lines ++ on_main (numbered n l) ∷ []))
entry_kept decimals n line l es lines is room =
    rw (all_ended es line, line_kept decimals n l lines is room) refl

-- entry after entry gives its line
entries_kept : (decimals n line : ℕ) (ls : List Line) (lines : List LayerLine) → Each IsKept ls
    → length lines + length ls ≤ most_lines
    → entries_read (entries_of (pairs_on n (section_fields decimals ls))) (Ok line)
    (among decimals lines)
    ≡ Ok (lines ++ map on_main (numbered_from n ls))
entries_kept decimals n line [] lines kept few = ap (λ ls. Ok ls) (sym (append-nil lines))
entries_kept decimals n line (l ∷ ls) lines kept few =
    let rest = entries_of (pairs_on (n + 18) (section_fields decimals ls)) in
    let longer : length (lines ++ on_main (numbered n l) ∷ []) + length ls ≤ most_lines =
    omega (arith, length-append lines (on_main (numbered n l) ∷ [])) in
    ap (λ es. entries_read es (Ok line) (among decimals lines)) (first_entry decimals n l ls)
    ∙ entry_kept decimals n line l rest lines kept.0 (omega arith)
    ∙ entries_kept decimals (n + 18) line ls (lines ++ on_main (numbered n l) ∷ []) kept.1 longer
    ∙ ap (λ ls. Ok ls) (append_assoc lines (on_main (numbered n l) ∷ []) (map on_main (numbered_from (n + 18) ls)))

-- the file begins with its section
begins_with_section : (decimals : ℕ) (lines : List Line) (line : ℕ)
    → pairs_read (three_views decimals)
    (record { pairs = pairs_on 1 (file_fields decimals lines); ending = Ok line })
    ≡ entries_read (entries_of (pairs_on 5 (section_fields decimals lines))) (Ok line)
    (among decimals [])
unfolding section_of
begins_with_section decimals lines line = refl

-- those on the views' layers are the lines of the views
on_main_all : (ls : List Line) → main_lines (map on_main ls) ≡ ls
on_main_all [] = refl
on_main_all (l ∷ ls) = ap (λ more. l ∷ more) (on_main_all ls)

-- the plain form of lines with so many decimals is read as these lines with as many
pub plain_is_read : (decimals : ℕ) (lines : List Line) → Each IsKept lines
    → length lines ≤ most_lines
    → read_of decimals (plain_file decimals lines) ≡ Ok (numbered_from 5 lines)
unfolding read_of
plain_is_read decimals lines kept few =
    let line = past 1 (file_fields decimals lines) in
    ap (main_read decimals) (plain_pairs decimals lines kept)
    ∙ ap (λ read. read >>= λ ls. Ok (main_lines ls))
    (begins_with_section decimals lines line ∙ entries_kept decimals 5 line lines [] kept (omega arith))
    ∙ ap (λ ls. Ok ls) (on_main_all (numbered_from 5 lines))
