-- No fault that is found in a text is that it is too long.
use Rattle.std.proofs.Common.{◌≡◌, Bool, true, false, cond, if◌then◌else◌, ℕ, ◌+◌, List, [], ◌∷◌, length, ℤ, pos, int_eq, Option, Some, None, Result, Ok, Err, ap}
use Rattle.dxf_entities.specs.declared.facts.Facts.{Facts}
use Rattle.dxf_entities.specs.declared.layer.Cut.{Cut}
use Rattle.dxf_entities.specs.declared.layer.Layer.{Layer}
use Rattle.dxf_entities.specs.declared.layer_line.LayerLine.{LayerLine}
use Rattle.dxf_entities.specs.declared.kind.Kind.{Kind}
use Rattle.dxf_entities.specs.declared.kind.Kind.TheVariants as kind
use Rattle.dxf_entities.specs.declared.linetype.Linetype.{Linetype}
use Rattle.dxf_entities.specs.declared.linetype.Linetype.TheVariants.{Continuous, Hidden, Center, ByLayer, Unlisted}
use Rattle.dxf_entities.specs.declared.named.Named.{Named}
use Rattle.dxf_entities.specs.declared.named.Named.TheVariants.{Unread, Shows, Misnamed}
use Rattle.dxf_entities.specs.declared.pen.Pen.{Pen}
use Rattle.dxf_entities.specs.declared.place.Place.{Place}
use Rattle.dxf_entities.specs.declared.place.Place.TheVariants.{Outside, Unnamed, Inside}
use Rattle.dxf_entities.specs.declared.section.Section.{Section}
use Rattle.dxf_entities.specs.declared.section.Section.TheVariants.{Tables, Entities, Other}
use Rattle.dxf_entities.specs.declared.shape.Shape.{Shape}
use Rattle.dxf_entities.specs.declared.shape.Shape.TheVariants as shape
use Rattle.dxf_entities.specs.Coordinates.{value_at, coordinate_at, with_coordinate, present, line_ends}
use Rattle.dxf_entities.specs.DrawnLines.{are_straight, drawn_along, added_along, kept, lines_through}
use Rattle.dxf_entities.specs.Entries.{Entry, entries_of, before_entries, has_code, own_pairs}
use Rattle.dxf_entities.specs.Judging.{facts_of, misnamed, style_of, pen_of, pen_on, drawn_by, lines_by}
use Rattle.dxf_entities.specs.Known.{Known, KnownOutline, Point}
use Rattle.dxf_entities.specs.Apart.{lines_read}
use Rattle.dxf_entities.specs.Forms.{FormParts}
use Rattle.dxf_entities.specs.Names.{kind_of, section_of}
use Rattle.dxf_entities.specs.Outlines.{first_x, ended_vertex, flat, first_flags, with_vertex, whole_route}
use Rattle.dxf_entities.specs.Reading.{Progress, between, opened, entry_read, read_at, end_read, is_ended, entries_read, nothing_read, text_read}
use Rattle.dxf_entities.specs.Shapes.{begun_shape, with_shape, known_shape, points_of}
use Rattle.dxf_entities.specs.Steps.{◌>>=◌}
use Rattle.dxf_groups.specs.declared.numerals.NumeralFault.{NumeralFault}
use Rattle.dxf_groups.specs.declared.numerals.NumeralFault.TheVariants as numeral
use Rattle.dxf_groups.specs.Codes.{group_code_of, is_comment, is_end}
use Rattle.dxf_groups.specs.Numerals.{scaled_of, whole_of}
use Rattle.dxf_groups.specs.Pairs.{Pairs, TextPair, code_before, ended, last_line_fault, pairs_from, pairs_of, with_pair, without_mark}
use Rattle.dxf_groups.specs.TextLines.{contents_of}
use Rattle.solid_model.specs.declared.fault.Fault.{Fault}
use Rattle.solid_model.specs.declared.fault.Fault.TheVariants as fault
use Rattle.solid_model.specs.declared.fault.Fault.TheVariants.{TooLong}

-- ---- steps

-- a step has no such fault
abbrev IsNotLong : {A : Type 0} → Result A Fault → Type 0
IsNotLong r = r ≡ Err TooLong → ⊥

-- a value is no fault
value : {A : Type 0} (a : A) → IsNotLong (Ok a)
value a = λ e. cc

-- two faults that are equal answers are one
one_fault : {A : Type 0} (f g : Fault) → ◌≡◌ {A = Result A Fault} (Err f) (Err g) → f ≡ g
one_fault f g e = cc

-- a step after another has none where neither has
after : {A B : Type 0} (r : Result A Fault) (f : A → Result B Fault) → IsNotLong r
    → ((a : A) → IsNotLong (f a)) → IsNotLong (r >>= f)
after (Ok a) f first next = next a
after (Err x) f first next = λ e. first (ap Err (one_fault x TooLong e))

-- nor one of two
either : {A : Type 0} (b : Bool) (r s : Result A Fault) → IsNotLong r → IsNotLong s
    → IsNotLong (if b then r else s)
either true r s first second = first
either false r s first second = second

-- ---- pairs

last_line : (n : ℕ) (code : Option ℤ) → last_line_fault n code ≡ TooLong → ⊥
last_line n None = λ e. cc
last_line n (Some z) = λ e. cc

pair_first : (comment end : Bool) (pair : TextPair) (rest : Pairs) → IsNotLong rest.ending
    → IsNotLong ((cond comment rest (cond end (ended (Ok pair.line)) (with_pair pair rest))).ending)
pair_first true end pair rest later = later
pair_first false true pair rest later = value pair.line
pair_first false false pair rest later = later

code_first : (n : ℕ) (code : Option ℤ) (text : List ℕ) (rest : Pairs) → IsNotLong rest.ending
    → IsNotLong ((code_before n code text rest).ending)
code_first n None text rest later = λ e. cc
code_first n (Some z) text rest later =
    pair_first (is_comment z) (is_end z text) (record { code = z; value = text; line = n }) rest later

lines_end : (n : ℕ) (lines : List (List ℕ)) → IsNotLong ((pairs_from n lines).ending)
lines_end n [] = λ e. cc
lines_end n (code ∷ []) = λ e. last_line n (group_code_of code) (one_fault (last_line_fault n (group_code_of code)) TooLong e)
lines_end n (code ∷ text ∷ rest) =
    code_first n (group_code_of code) text (pairs_from (n + 2) rest) (lines_end (n + 2) rest)

marked_end : (binary : Bool) (rest : Pairs) (line : ℕ) (f : Fault) → (f ≡ TooLong → ⊥) → IsNotLong rest.ending
    → IsNotLong ((cond binary (ended (Err f)) rest).ending)
marked_end true rest line f other later = λ e. other (one_fault f TooLong e)
marked_end false rest line f other later = later

-- the pairs of a text don't end so
text_end : (text : List ℕ) → IsNotLong ((pairs_of text).ending)
unfolding pairs_of
text_end text = marked_end _ (pairs_from 1 (contents_of (without_mark text))) 1 _ (λ e. cc)
    (lines_end 1 (contents_of (without_mark text)))

-- ---- what an entity's pairs tell

value_read : (p : TextPair) (r : Result ℤ NumeralFault) → IsNotLong (value_at p r)
value_read p (Ok z) = λ e. cc
value_read p (Err numeral.BadNumber) = λ e. cc
value_read p (Err numeral.NotWhole) = λ e. cc
value_read p (Err numeral.TooFar) = λ e. cc

coordinate : (decimals : ℕ) (p : TextPair) (known : Option ℤ) → IsNotLong (coordinate_at decimals p known)
coordinate decimals p (Some z) = λ e. cc
coordinate decimals p None = value_read p (scaled_of decimals p.value)

coordinates : (decimals : ℕ) (p : TextPair) (c : Known) → IsNotLong (with_coordinate decimals p c)
coordinates decimals p c =
    either _ _ _ (known c.x0 (λ z. record c { x0 = Some z }))
    (either _ _ _ (known c.y0 (λ z. record c { y0 = Some z }))
    (either _ _ _ (known c.x1 (λ z. record c { x1 = Some z }))
    (either _ _ _ (known c.y1 (λ z. record c { y1 = Some z })) (value c))))
  where
    known : (o : Option ℤ) (with : ℤ → Known)
        → IsNotLong (coordinate_at decimals p o >>= λ z. Ok (with z))
    known o with = after _ _ (coordinate decimals p o) (λ z. value (with z))

there : (line : ℕ) (code : ℤ) (known : Option ℤ) → IsNotLong (present line code known)
there line code (Some z) = λ e. cc
there line code None = λ e. cc

ends : (line : ℕ) (c : Known) → IsNotLong (line_ends line c)
unfolding line_ends
ends line c =
    after _ _ (there line (pos 10) c.x0) (λ x0. after _ _ (there line (pos 20) c.y0)
    (λ y0. after _ _ (there line (pos 11) c.x1) (λ x1. after _ _ (there line (pos 21) c.y1)
    (λ y1. value _))))

begins_vertex : (decimals line : ℕ) (p : TextPair) (begun : Option ℤ) → IsNotLong (first_x decimals line p begun)
begins_vertex decimals line p (Some x) = λ e. cc
begins_vertex decimals line p None = value_read p (scaled_of decimals p.value)

ends_vertex : (decimals line : ℕ) (p : TextPair) (begun : Option ℤ) (vs : List Point)
    → IsNotLong (ended_vertex decimals line p begun vs)
ends_vertex decimals line p (Some x) vs =
    after _ _ (value_read p (scaled_of decimals p.value)) (λ y. value _)
ends_vertex decimals line p None [] = λ e. cc
ends_vertex decimals line p None (v ∷ vs) = λ e. cc

bulge : (line : ℕ) (p : TextPair) (r : Result ℤ NumeralFault) → IsNotLong (flat line p r)
bulge line p (Ok z) =
    let bent : IsNotLong {A = Unit {0}} (Err (fault.Curved line)) = λ e. cc in
    either (int_eq z (pos 0)) (Ok tt) (Err (fault.Curved line)) (value tt) bent
bulge line p (Err numeral.BadNumber) = λ e. cc
bulge line p (Err numeral.NotWhole) = λ e. cc
bulge line p (Err numeral.TooFar) = λ e. cc

flags : (p : TextPair) (closed : Option Bool) → IsNotLong (first_flags p closed)
flags p (Some closed) = λ e. cc
flags p None = after _ _ (value_read p (whole_of p.value)) (λ z. value _)

vertex : (decimals line : ℕ) (p : TextPair) (o : KnownOutline) → IsNotLong (with_vertex decimals line p o)
vertex decimals line p o =
    either _ _ _ (after _ _ (begins_vertex decimals line p o.begun) (λ x. value _))
    (either _ _ _ (after _ _ (ends_vertex decimals line p o.begun o.vertices) (λ v. value _))
    (either _ _ _ (after _ _ (bulge line p (whole_of p.value)) (λ same. value o))
    (either _ _ _ (after _ _ (flags p o.closed) (λ closed. value _)) (value o))))

shape_on : (decimals line : ℕ) (p : TextPair) (s : Shape) → IsNotLong (with_shape decimals line p s)
shape_on decimals line p (shape.Line c) = after _ _ (coordinates decimals p c) (λ more. value _)
shape_on decimals line p (shape.Polyline o) = after _ _ (vertex decimals line p o) (λ more. value _)
shape_on decimals line p shape.Nothing = λ e. cc

shape_read : (decimals line : ℕ) (ps : List TextPair) (s : Shape) → IsNotLong (known_shape decimals line ps s)
shape_read decimals line [] s = value s
shape_read decimals line (p ∷ ps) s =
    after _ _ (shape_on decimals line p s) (λ more. shape_read decimals line ps more)

route : (line : ℕ) (begun : Option ℤ) (points : List Point) → IsNotLong (whole_route line begun points)
route line (Some x) points = λ e. cc
route line None points = λ e. cc

points : (line : ℕ) (s : Shape) → IsNotLong (points_of line s)
points line (shape.Line c) = after _ _ (ends line c) (λ both. value _)
points line (shape.Polyline o) = route line o.begun _
points line shape.Nothing = value []

-- ---- how an entity is judged

keeps : (count line : ℕ) (ls : List LayerLine) → IsNotLong (kept count line ls)
keeps count line ls = either _ (Ok ls) (Err (fault.TooManyLines line)) (value ls) (λ e. cc)

along : (count line : ℕ) (pen : Pen) (ps : List Point) → IsNotLong (drawn_along count line pen ps)
along count line pen ps =
    either (are_straight ps) (kept count line (lines_through line pen ps)) (Err (fault.Oblique line))
    (keeps count line (lines_through line pen ps)) (λ e. cc)

added : (line : ℕ) (pen : Pen) (lines : List LayerLine) (ps : List Point) → IsNotLong (added_along line pen lines ps)
added line pen lines ps =
    after _ _ (along (length lines) line pen ps) (λ more. value _)

style : (line : ℕ) (cut : Option Cut) (l : Linetype) → IsNotLong (style_of line cut l)
style line cut Continuous = λ e. cc
style line cut Hidden = λ e. cc
style line cut Center = λ e. cc
style line cut ByLayer = λ e. cc
style line cut Unlisted = λ e. cc

pen_kind : (k : Kind) (own : Option Linetype) (layer : Layer) (f : Facts) → IsNotLong (pen_of k own layer f)
pen_kind kind.Line own layer f = after _ _ (style f.line layer.cut _) (λ s. value _)
pen_kind kind.Polyline own layer f = after _ _ (style f.line layer.cut _) (λ s. value _)
pen_kind kind.Geometry own layer f = λ e. cc
pen_kind kind.Other own layer f = λ e. cc

no_section : (k : Kind) (line : ℕ) → IsNotLong (misnamed k line)
no_section kind.Line line = λ e. cc
no_section kind.Polyline line = λ e. cc
no_section kind.Geometry line = λ e. cc
no_section kind.Other line = λ e. cc

pen_seen : (name : Named) (layers : Layer → Option Linetype) (f : Facts) → IsNotLong (pen_on name layers f)
pen_seen Unread layers f = λ e. cc
pen_seen Misnamed layers f = either _ _ _ (value None) (no_section f.kind f.line)
pen_seen (Shows layer) layers f = either _ _ _ (value None) (pen_kind f.kind (layers layer) layer f)

drawn : (layers : Layer → Option Linetype) (f : Facts) → IsNotLong (drawn_by layers f)
unfolding drawn_by
drawn layers f = pen_seen _ layers f

lines : (f : Facts) (ls : List LayerLine) → IsNotLong f.shape → (pen : Option Pen) → IsNotLong (lines_by f ls pen)
lines f ls own None = value ls
lines f ls own (Some pen) =
    after _ _ own (λ s. after _ _ (points f.line s) (λ ps. added f.line pen ls ps))

-- ---- the file

starts : (ps : List TextPair) (s : Progress) → IsNotLong (between ps s)
starts [] s = λ e. cc
starts (p ∷ ps) s = λ e. cc

names : (ps : List TextPair) (s : Progress) → IsNotLong (opened ps s)
names [] s = λ e. cc
names (p ∷ ps) s =
    either (has_code 2 p) (Ok (record s { place = Inside (section_of p.value) })) (Err (fault.BadSection p.line))
    (value _) (λ e. cc)

entry : (ended : Bool) (section : Section) (x : Entry) (s : Progress) → IsNotLong (entry_read ended section x s)
entry false section x s = value s
entry true Tables x s = value _
entry true Other x s = value s
entry true Entities x s =
    let f = facts_of s.form x in
    after _ _ (after _ _ (drawn s.layers f) (λ pen. lines f s.lines (shape_read s.form.decimals x.line
    (own_pairs false x.pairs) (begun_shape (kind_of x.name))) pen))
    (λ ls. value _)

entry_at : (place : Place) (ended : Bool) (x : Entry) (s : Progress) → IsNotLong (read_at place ended x s)
entry_at Outside ended x s =
    either _ (opened x.pairs s) (Err (fault.BadSection x.line)) (names x.pairs s) (λ e. cc)
entry_at Unnamed ended x s = λ e. cc
entry_at (Inside section) ended x s =
    either _ (Err (fault.BadSection x.line)) _ (λ e. cc)
    (either _ (between x.pairs s) _ (starts x.pairs s) (entry ended section x s))

finish : (place : Place) (line : ℕ) (s : Progress) → IsNotLong (end_read place line s)
finish Outside line s = λ e. cc
finish Unnamed line s = λ e. cc
finish (Inside section) line s = λ e. cc

entries : (es : List Entry) (ending : Result ℕ Fault) (s : Progress) → IsNotLong ending
    → IsNotLong (entries_read es ending s)
entries [] (Err f) s own = λ e. own (ap Err (one_fault f TooLong e))
entries [] (Ok line) s own = finish s.place line s
entries (x ∷ es) ending s own =
    after _ _ (entry_at s.place (is_ended es ending) x s) (λ t. entries es ending t own)

-- what is read of a text is no such fault
texts_are_not_long : (form : FormParts) (text : List ℕ) → text_read form text ≡ Err TooLong → ⊥
unfolding text_read
texts_are_not_long form text =
    let ps = pairs_of text in
    after _ _ (starts (before_entries ps.pairs) (nothing_read form))
    (λ s. entries (entries_of ps.pairs) ps.ending s (text_end text))

pub reads_are_not_long : (form : FormParts) (text : List ℕ) → lines_read form text ≡ Err TooLong → ⊥
unfolding lines_read
reads_are_not_long form text =
    after _ _ (texts_are_not_long form text) (λ ls. value _)
