-- The lines that a file keeps are level or upright, drawn, and near.
use Rattle.std.proofs.Common.{◌≡◌, ◌≢◌, ◌↔◌, ◌⊎◌, inl, inr, Bool, true, false, ◌||◌, if◌then◌else◌, ℕ, List, [], ◌∷◌, ◌++◌, length, ℤ, Option, Some, None, Result, Ok, Err, IfSome, int_eq, map, not, refl, sym, ap, ap₂, subst, ◌∙◌, codes}
use Rattle.std.specs.List.{filter}
use Rattle.std.specs.Option.{option_map, unwrap_or}
use Rattle.std.proofs.lemmas.Bool.{and_parts}
use Rattle.std.proofs.lemmas.Bool.Decides.{Decides-int_eq}
use Rattle.dxf_entities.specs.declared.facts.Facts.{Facts}
use Rattle.dxf_entities.specs.declared.layer.Layer.{Layer}
use Rattle.dxf_entities.specs.declared.layer_set.LayerSet.{LayerSet}
use Rattle.dxf_entities.specs.declared.layer_set.LayerSet.TheVariants.{Main, Six, Sections}
use Rattle.dxf_entities.specs.declared.layer_line.LayerLine.{LayerLine}
use Rattle.dxf_entities.specs.declared.kind.Kind.{Kind}
use Rattle.dxf_entities.specs.declared.kind.Kind.TheVariants as kind
use Rattle.dxf_entities.specs.declared.linetype.Linetype.{Linetype}
use Rattle.dxf_entities.specs.declared.linetype.Linetype.TheVariants.{Continuous, Hidden, Center, ByLayer, Unlisted}
use Rattle.dxf_entities.specs.declared.layer.Cut.{Cut}
use Rattle.dxf_entities.specs.declared.named.Named.{Named}
use Rattle.dxf_entities.specs.declared.named.Named.TheVariants.{Unread, Shows, Misnamed}
use Rattle.dxf_entities.specs.declared.pen.Pen.{Pen}
use Rattle.dxf_entities.specs.declared.section.Section.{Section}
use Rattle.dxf_entities.specs.declared.section.Section.TheVariants.{Tables, Entities, Other}
use Rattle.dxf_entities.specs.declared.shape.Shape.{Shape}
use Rattle.dxf_entities.specs.declared.place.Place.{Place}
use Rattle.dxf_entities.specs.declared.place.Place.TheVariants.{Outside, Unnamed, Inside}
use Rattle.dxf_entities.specs.Entries.{Entry, has_code, before_entries, entries_of, first_value, own_pairs}
use Rattle.dxf_entities.specs.Judging.{facts_of, hidden_style, is_on_paper, by_layer, misnamed, style_of, pen_in, pen_of, pen_on, drawn_by, lines_by, judged}
use Rattle.dxf_entities.specs.Known.{Point, IsNearPoint}
use Rattle.dxf_entities.specs.Apart.{lines_apart, lines_read}
use Rattle.dxf_entities.specs.Forms.{FormParts, six_views, three_views}
use Rattle.dxf_entities.specs.Steps.{◌>>=◌}
use Rattle.dxf_entities.specs.Names.{is_main, is_name, kind_of, further_layer, further_on, layer_on, layer_or, main_layer, main_on, other_on}
use Rattle.dxf_entities.specs.Reading.{Progress, nothing_read, between, opened, layer_added, entity_read, entry_read, read_at, end_read, is_ended, entries_read, pairs_read, main_lines, other_lines, read_of, text_read}
use Rattle.dxf_entities.specs.Shapes.{begun_shape, points_of}
use Rattle.dxf_entities.specs.DrawnLines.{are_straight_from, are_straight, line_between, lines_from, lines_through, kept, drawn_along, added_along}
use Rattle.dxf_groups.specs.Pairs.{TextPair, Pairs, pairs_of}
use Rattle.solid_model.specs.declared.fault.Fault.{Fault}
use Rattle.solid_model.specs.declared.frame.View.TheVariants.{Front, Side, Top}
use Rattle.solid_model.specs.declared.segment.Style.{Style}
use Rattle.solid_model.specs.declared.segment.Style.TheVariants.{Blank, Solid}
use Rattle.solid_model.specs.Line.{Line, IsKept}
use Rattle.lemmas.specs.Lists.{Each}
use Rattle.lemmas.proofs.Lists.{each-append}
use Rattle.dxf_entities.proofs.NearPoints.{IsNearShape, after_ok, begun_near, known_near, ok_value, points_near}

-- ---- lines

-- where three views are read a layer is that of one of these, and where six are no view is cut
abbrev IsReadOn : LayerSet → Layer → Type 0
IsReadOn Main l = is_main l ≡ true
IsReadOn Six l = l.cut ≡ None
IsReadOn Sections l = Unit {0}

-- so is the layer of a name
abbrev IsReadName : LayerSet → Named → Type 0
IsReadName set Unread = Unit {0}
IsReadName set (Shows l) = IsReadOn set l
IsReadName set Misnamed = Unit {0}

-- a line on a layer is kept, and its layer is read
abbrev IsKeptLine : LayerSet → LayerLine → Type 0
IsKeptLine set l = IsKept l.line × IsReadOn set l.layer

-- a line that isn't oblique is level or upright
straight_ends : (level upright : Bool) (x0 y0 x1 y1 : ℤ) → (level ≡ true → x0 ≡ x1)
    → (upright ≡ true → y0 ≡ y1) → (level || upright) ≡ true → (x0 ≡ x1) ⊎ (y0 ≡ y1)
straight_ends true upright x0 y0 x1 y1 x y e = inl (x refl)
straight_ends false true x0 y0 x1 y1 x y e = inr (y refl)
straight_ends false false x0 y0 x1 y1 x y e = absurd cc

module _ (set : LayerSet) (line : ℕ) (pen : Pen) (drawn : pen.style ≢ Blank) (asked : IsReadOn set pen.layer) where
  -- the line between near points, one level with or upright over the other, is kept
  line_kept : (a b : Point) → IsNearPoint a → IsNearPoint b
      → (int_eq a.x b.x || int_eq a.y b.y) ≡ true → IsKeptLine set (line_between line pen a b)
  line_kept a b near_a near_b straight = (
    record {
      straight =
          straight_ends (int_eq a.x b.x) (int_eq a.y b.y) a.x a.y b.x b.y (Decides-int_eq a.x b.x).0
          (Decides-int_eq a.y b.y).0 straight;
      drawn = drawn;
      near_x0 = near_a.x;
      near_y0 = near_a.y;
      near_x1 = near_b.x;
      near_y1 = near_b.y;
    },
    asked,
  )

  -- so is each from one point to the next
  lines_from_kept : (a : Point) (ps : List Point) → IsNearPoint a → Each IsNearPoint ps
      → are_straight_from a ps ≡ true → Each (IsKeptLine set) (lines_from line pen a ps)
  lines_from_kept a [] near_a near straight = tt
  lines_from_kept a (b ∷ ps) near_a near straight =
      let both = and_parts (int_eq a.x b.x || int_eq a.y b.y) (are_straight_from b ps) straight in
      (line_kept a b near_a near.0 both.0, lines_from_kept b ps near.0 near.1 both.1)

  lines_through_kept : (ps : List Point) → Each IsNearPoint ps → are_straight ps ≡ true
      → Each (IsKeptLine set) (lines_through line pen ps)
  lines_through_kept [] near straight = tt
  lines_through_kept (a ∷ ps) near straight = lines_from_kept a ps near.0 near.1 straight

  -- what is kept is the lines themselves
  counted_lines : (room : Bool) (ls ms : List LayerLine) (fault : Fault)
      → (if room then Ok ls else Err fault) ≡ Ok ms → ls ≡ ms
  counted_lines true ls ms fault e = ok_value ls ms e
  counted_lines false ls ms fault e = absurd cc

  straight_kept : (straight : Bool) (count : ℕ) (ps : List Point) (ms : List LayerLine) (fault : Fault)
      → are_straight ps ≡ straight → Each IsNearPoint ps
      → (if straight then kept count line (lines_through line pen ps) else Err fault) ≡ Ok ms
      → Each (IsKeptLine set) ms
  straight_kept true count ps ms fault straight near e =
      subst (Each (IsKeptLine set)) (counted_lines _ (lines_through line pen ps) ms _ e)
      (lines_through_kept ps near straight)
  straight_kept false count ps ms fault straight near e = absurd cc

  -- so lines that are kept stay so with those through near points
  added_kept : (lines : List LayerLine) (ps : List Point) (ms : List LayerLine) → Each (IsKeptLine set) lines
      → Each IsNearPoint ps → added_along line pen lines ps ≡ Ok ms → Each (IsKeptLine set) ms
  added_kept lines ps ms keeps near e =
      let more = after_ok (drawn_along (length lines) line pen ps) (λ more. Ok (lines ++ more)) ms e in
      let own = straight_kept (are_straight ps) (length lines) ps more.value _ refl near more.first in
      subst (Each (IsKeptLine set)) (ok_value (lines ++ more.value) ms more.second)
      (each-append (IsKeptLine set) lines more.value keeps own)

-- ---- entities

-- a style, where there is one, is drawn
abbrev IsDrawn : Option Style → Type 0
IsDrawn style = IfSome style (λ s. s ≢ Blank)

-- that of hidden edges is
hidden_drawn : (cut : Option Cut) → IsDrawn (hidden_style cut)
hidden_drawn None = λ p. cc
hidden_drawn (Some c) = tt

-- a linetype's style is drawn
style_drawn : (line : ℕ) (cut : Option Cut) (l : Linetype) (style : Option Style) → style_of line cut l ≡ Ok style
    → IsDrawn style
style_drawn line cut Continuous style e = subst IsDrawn (ok_value (Some Solid) style e) (λ p. cc)
style_drawn line cut Hidden style e = subst IsDrawn (ok_value (hidden_style cut) style e) (hidden_drawn cut)
style_drawn line cut Center style e = subst IsDrawn (ok_value None style e) tt
style_drawn line cut ByLayer style e = subst IsDrawn (ok_value (Some Solid) style e) (λ p. cc)
style_drawn line cut Unlisted style e = absurd cc

module _ (set : LayerSet) where
  -- a pen, where there is one, has a style that is drawn, and its layer is read
  abbrev IsInked : Option Pen → Type 0
  IsInked pen = IfSome pen (λ p. (p.style ≢ Blank) × IsReadOn set p.layer)

  -- that of a style is
  pen_inked : (layer : Layer) → IsReadOn set layer → (style : Option Style) → IsDrawn style
      → IsInked (option_map (λ s. record { layer = layer; style = s }) style)
  pen_inked layer on None drawn = tt
  pen_inked layer on (Some s) drawn = (drawn, on)

  -- so is that of an entity on a layer
  pen_in_inked : (own : Option Linetype) (layer : Layer) → IsReadOn set layer → (f : Facts) (pen : Option Pen)
      → pen_in own layer f ≡ Ok pen → IsInked pen
  pen_in_inked own layer on f pen e =
      let l = by_layer (unwrap_or f.linetype ByLayer) own in
      let s = after_ok (style_of f.line layer.cut l) _ pen e in
      subst IsInked
      (ok_value (option_map (λ s. record { layer = layer; style = s }) s.value) pen s.second)
      (pen_inked layer on s.value (style_drawn f.line layer.cut l s.value s.first))

  -- of each kind
  pen_of_inked : (k : Kind) (own : Option Linetype) (layer : Layer) → IsReadOn set layer → (f : Facts) (pen : Option Pen)
      → pen_of k own layer f ≡ Ok pen → IsInked pen
  pen_of_inked kind.Line own layer on f pen e = pen_in_inked own layer on f pen e
  pen_of_inked kind.Polyline own layer on f pen e = pen_in_inked own layer on f pen e
  pen_of_inked kind.Geometry own layer on f pen e = absurd cc
  pen_of_inked kind.Other own layer on f pen e = subst IsInked (ok_value None pen e) tt

  -- in paper space or not
  on_paper_inked : (paper : Bool) (own : Option Linetype) (layer : Layer) → IsReadOn set layer → (f : Facts) (pen : Option Pen)
      → (if paper then Ok None else pen_of f.kind own layer f) ≡ Ok pen → IsInked pen
  on_paper_inked true own layer on f pen e = subst IsInked (ok_value None pen e) tt
  on_paper_inked false own layer on f pen e = pen_of_inked f.kind own layer on f pen e

  -- an entity on a layer that is named as no section is has none
  misnamed_inked : (k : Kind) (line : ℕ) (pen : Option Pen) → misnamed k line ≡ Ok pen → IsInked pen
  misnamed_inked kind.Line line pen e = absurd cc
  misnamed_inked kind.Polyline line pen e = absurd cc
  misnamed_inked kind.Geometry line pen e = absurd cc
  misnamed_inked kind.Other line pen e = subst IsInked (ok_value None pen e) tt

  misnamed_on_paper : (paper : Bool) (f : Facts) (pen : Option Pen)
      → (if paper then Ok None else misnamed f.kind f.line) ≡ Ok pen → IsInked pen
  misnamed_on_paper true f pen e = subst IsInked (ok_value None pen e) tt
  misnamed_on_paper false f pen e = misnamed_inked f.kind f.line pen e

  -- on a layer of any name
  pen_on_inked : (name : Named) → IsReadName set name → (layers : Layer → Option Linetype) (f : Facts) (pen : Option Pen)
      → pen_on name layers f ≡ Ok pen → IsInked pen
  pen_on_inked Unread on layers f pen e = subst IsInked (ok_value None pen e) tt
  pen_on_inked (Shows layer) on layers f pen e =
      on_paper_inked (is_on_paper f.paper) (layers layer) layer on f pen e
  pen_on_inked Misnamed on layers f pen e = misnamed_on_paper (is_on_paper f.paper) f pen e

  -- so the pen of an entity is
  drawn_inked : (layers : Layer → Option Linetype) (f : Facts) → IsReadName set (unwrap_or f.layer Unread) → (pen : Option Pen)
      → drawn_by layers f ≡ Ok pen → IsInked pen
  unfolding drawn_by
  drawn_inked layers f on pen e = pen_on_inked (unwrap_or f.layer Unread) on layers f pen e

-- a layer that a name tells is read
told_read : (set : LayerSet) (told : Option Layer) (other : Named) → IfSome told (IsReadOn set) → IsReadName set other
    → IsReadName set (layer_or told other)
told_read set (Some l) other on rest = on
told_read set None other on rest = rest

main_read : (set : LayerSet) (front top side : Bool) → IfSome (if front then Some (main_layer Front) else (if top then Some (main_layer Top)
    else (if side then Some (main_layer Side) else None))) (IsReadOn set)
main_read Main true top side = refl
main_read Main false true side = refl
main_read Main false false true = refl
main_read Main false false false = tt
main_read Six true top side = refl
main_read Six false true side = refl
main_read Six false false true = refl
main_read Six false false false = tt
main_read Sections true top side = tt
main_read Sections false true side = tt
main_read Sections false false true = tt
main_read Sections false false false = tt

further_read : (left rear bottom : Bool) → IfSome (if left then Some (further_layer Side) else (if rear then Some (further_layer Front)
    else (if bottom then Some (further_layer Top) else None))) (IsReadOn Six)
further_read true rear bottom = refl
further_read false true bottom = refl
further_read false false true = refl
further_read false false false = tt

any_read : (name : Named) → IsReadName Sections name
any_read Unread = tt
any_read (Shows l) = tt
any_read Misnamed = tt

other_read : (set : LayerSet) (decimals : ℕ) (value : List ℕ) → IsReadName set (other_on set decimals value)
other_read Main decimals value = tt
other_read Six decimals value = told_read Six (further_on value) Unread
    (further_read (is_name (codes "LEFT") value) (is_name (codes "REAR") value) (is_name (codes "BOTTOM") value)) tt
other_read Sections decimals value = any_read (other_on Sections decimals value)

layer_read : (form : FormParts) (value : Option (List ℕ)) → IsReadName form.layers (unwrap_or (option_map (layer_on form) value) Unread)
unfolding layer_on
layer_read form None = tt
layer_read form (Some value) = told_read form.layers (main_on value) (other_on form.layers form.decimals value)
    (main_read form.layers (is_name (codes "FRONT") value) (is_name (codes "TOP") value) (is_name (codes "SIDE") value))
    (other_read form.layers form.decimals value)

module _ (set : LayerSet) (f : Facts) (on : IsReadName set (unwrap_or f.layer Unread))
    (near : (s : Shape) → f.shape ≡ Ok s → IsNearShape s) (lines : List LayerLine)
    (keeps : Each (IsKeptLine set) lines) where
  -- kept lines stay so with those that an entity draws
  drawn_kept : (pen : Option Pen) (ms : List LayerLine) → IsInked set pen → lines_by f lines pen ≡ Ok ms
      → Each (IsKeptLine set) ms
  drawn_kept None ms inked e = subst (Each (IsKeptLine set)) (ok_value lines ms e) keeps
  drawn_kept (Some pen) ms inked e =
      let s = after_ok f.shape _ ms e in
      let ps = after_ok (points_of f.line s.value) (added_along f.line pen lines) ms s.second in
      added_kept set f.line pen inked.0 inked.1 lines ps.value ms keeps
      (points_near f.line s.value ps.value (near s.value s.first) ps.first) ps.second

  -- or gives
  judged_kept : (layers : Layer → Option Linetype) (ms : List LayerLine) → judged layers lines f ≡ Ok ms
      → Each (IsKeptLine set) ms
  judged_kept layers ms e =
      let pen = after_ok (drawn_by layers f) (lines_by f lines) ms e in
      drawn_kept pen.value ms (drawn_inked set layers f on pen.value pen.first) pen.second

-- ---- the file

-- these layers of a file are read, and all lines so far are kept
abbrev HasKept : LayerSet → Progress → Type 0
HasKept set s = (s.form.layers ≡ set) × Each (IsKeptLine set) s.lines

module _ (set : LayerSet) where
  -- a step of the reading keeps that
  abbrev KeepsLines : Result Progress Fault → Progress → Type 0
  KeepsLines r s = (t : Progress) → r ≡ Ok t → HasKept set s → HasKept set t

  -- a step that adds no line
  same_lines : (s t u : Progress) → (HasKept set s → HasKept set u)
      → ◌≡◌ {A = Result Progress Fault} (Ok u) (Ok t) → HasKept set s → HasKept set t
  same_lines s t u same e kept = subst (HasKept set) (ok_value u t e) (same kept)

  -- between sections no line is added
  between_kept : (ps : List TextPair) (s : Progress) → KeepsLines (between ps s) s
  between_kept [] s t e = same_lines s t (record s { place = Outside }) (λ k. k) e
  between_kept (p ∷ ps) s t e = absurd cc

  -- nor where a section is named, by a pair that does so or doesn't
  opened_by : (names : Bool) (p : TextPair) (fault : Fault) (s u : Progress) → (HasKept set s → HasKept set u)
      → KeepsLines (if names then Ok u else Err fault) s
  opened_by true p fault s u same t e = same_lines s t u same e
  opened_by false p fault s u same t e = absurd cc

  -- nor where one begins
  opened_kept : (ps : List TextPair) (s : Progress) → KeepsLines (opened ps s) s
  opened_kept [] s t e = same_lines s t (record s { place = Unnamed }) (λ k. k) e
  opened_kept (p ∷ ps) s t e = opened_by (has_code 2 p) p _ s _ (λ k. k) t e

  -- nor by an entry of a table
  layer_added_kept : (is_layer : Bool) (s u : Progress) → (HasKept set s → HasKept set u)
      → HasKept set s → HasKept set (if is_layer then u else s)
  layer_added_kept true s u same = same
  layer_added_kept false s u same = λ k. k

  -- an entity adds a kept line, or none
  entity_kept : (e : Entry) (s : Progress) → KeepsLines (entity_read (facts_of s.form e) s) s
  entity_kept e s t is kept =
      let f = facts_of s.form e in
      let m = after_ok (judged s.layers s.lines f) (λ lines. Ok (record s { lines = lines })) t is in
      let near : (d : Shape) → f.shape ≡ Ok d → IsNearShape d =
      λ d. known_near s.form.decimals e.line (own_pairs false e.pairs) (begun_shape (kind_of e.name)) d
      (begun_near (kind_of e.name)) in
      let on : IsReadName set (unwrap_or f.layer Unread) =
      subst (λ set. IsReadName set (unwrap_or f.layer Unread)) kept.0
      (layer_read s.form (first_value 8 (own_pairs false e.pairs))) in
      subst (HasKept set) (ok_value (record s { lines = m.value }) t m.second)
      (kept.0, judged_kept set f on near s.lines kept.1 s.layers m.value m.first)

  -- an entry of a section adds a kept line, or none
  entry_kept : (ended : Bool) (section : Section) (e : Entry) (s : Progress)
      → KeepsLines (entry_read ended section e s) s
  entry_kept false section e s t is = same_lines s t s (λ k. k) is
  entry_kept true Tables e s t is =
      same_lines s t (layer_added e s) (layer_added_kept (is_name (codes "LAYER") e.name) s _ (λ k. k)) is
  entry_kept true Other e s t is = same_lines s t s (λ k. k) is
  entry_kept true Entities e s t is = entity_kept e s t is

  -- outside, an entry begins a section, or may not stand
  entry_between : (is_section : Bool) (e : Entry) (fault : Fault) (s : Progress)
      → KeepsLines (if is_section then opened e.pairs s else Err fault) s
  entry_between true e fault s t is = opened_kept e.pairs s t is
  entry_between false e fault s t is = absurd cc

  -- an entry in a section begins one, ends it, or stands in it
  entry_inside : (is_section is_end ended : Bool) (section : Section) (e : Entry) (fault : Fault) (s : Progress)
      → KeepsLines (if is_section then Err fault
      else (if is_end then between e.pairs s else entry_read ended section e s)) s
  entry_inside true is_end ended section e fault s t is = absurd cc
  entry_inside false true ended section e fault s t is = between_kept e.pairs s t is
  entry_inside false false ended section e fault s t is = entry_kept ended section e s t is

  -- at every place an entry keeps the lines
  entry_at_kept : (place : Place) (ended : Bool) (e : Entry) (s : Progress)
      → KeepsLines (read_at place ended e s) s
  entry_at_kept Outside ended e s t is = entry_between (is_name (codes "SECTION") e.name) e _ s t is
  entry_at_kept Unnamed ended e s t is = absurd cc
  entry_at_kept (Inside section) ended e s t is =
      entry_inside (is_name (codes "SECTION") e.name) (is_name (codes "ENDSEC") e.name) ended section
      e _ s t is

  -- the end adds no line
  end_kept : (place : Place) (line : ℕ) (s : Progress) (ls : List LayerLine)
      → end_read place line s ≡ Ok ls → HasKept set s → Each (IsKeptLine set) ls
  end_kept Outside line s ls e kept = subst (Each (IsKeptLine set)) (ok_value s.lines ls e) kept.1
  end_kept Unnamed line s ls e kept = absurd cc
  end_kept (Inside section) line s ls e kept = absurd cc

  -- entry after entry, the lines stay kept
  entries_kept : (es : List Entry) (ending : Result ℕ Fault) (s : Progress) (ls : List LayerLine)
      → entries_read es ending s ≡ Ok ls → HasKept set s → Each (IsKeptLine set) ls
  entries_kept [] (Err f) s ls e kept = absurd cc
  entries_kept [] (Ok line) s ls e kept = end_kept s.place line s ls e kept
  entries_kept (x ∷ es) ending s ls e kept =
      let t = after_ok (read_at s.place (is_ended es ending) x s) (entries_read es ending) ls e in
      entries_kept es ending t.value ls t.second
      (entry_at_kept s.place (is_ended es ending) x s t.value t.first kept)

-- and so over all pairs
pairs_kept : (form : FormParts) (ps : Pairs) (ls : List LayerLine) → pairs_read form ps ≡ Ok ls
    → Each (IsKeptLine form.layers) ls
pairs_kept form ps ls e =
    let t =
    after_ok (between (before_entries ps.pairs) (nothing_read form))
    (entries_read (entries_of ps.pairs) ps.ending) ls e in
    entries_kept form.layers (entries_of ps.pairs) ps.ending t.value ls t.second
    (between_kept form.layers (before_entries ps.pairs) (nothing_read form) t.value t.first (refl, tt))

-- ---- the lines of the main views, and those of all other layers

module _ (set : LayerSet) where
  more_kept : (b : Bool) (l : LayerLine) (rest : List LayerLine) → IsKept l.line → Each IsKept (map (λ (m : LayerLine). m.line) rest)
      → Each IsKept (map (λ (m : LayerLine). m.line) (if b then l ∷ rest else rest))
  more_kept true l rest own kept = (own, kept)
  more_kept false l rest own kept = kept

  main_kept : (ls : List LayerLine) → Each (IsKeptLine set) ls → Each IsKept (main_lines ls)
  main_kept [] kept = tt
  main_kept (l ∷ ls) kept =
      more_kept (is_main l.layer) l (filter (λ m. is_main m.layer) ls) kept.0.0 (main_kept ls kept.1)

-- where three views are read, none stands on another layer
none_other : (ls : List LayerLine) → Each (IsKeptLine Main) ls → other_lines ls ≡ []
none_other [] kept = refl
none_other (l ∷ ls) kept = rw (kept.0.1) (none_other ls kept.1)

-- and where six are, no line is one of a view that is cut
abbrev pub IsWhole : LayerLine → Type 0
IsWhole l = l.layer.cut ≡ None

none_cut : (ls : List LayerLine) → Each (IsKeptLine Six) ls → Each IsWhole (other_lines ls)
none_cut [] kept = tt
none_cut (l ∷ ls) kept = by (not (is_main l.layer)) (none_cut ls kept.1)
  where
    by : (b : Bool) → Each IsWhole (other_lines ls) → Each IsWhole (if b then l ∷ other_lines ls else other_lines ls)
    by true rest = (kept.0.1, rest)
    by false rest = rest

-- each line of the views that is kept of a file is level or upright, drawn, and near,
pub lines_read_are_kept : (form : FormParts) (t : List ℕ) (ls : List Line) (more : List LayerLine)
    → lines_read form t ≡ Ok (ls, more) → Each IsKept ls
unfolding lines_read text_read
lines_read_are_kept form t ls more e =
    let all = after_ok (pairs_read form (pairs_of t)) (λ ls. Ok (lines_apart ls)) (ls, more) e in
    subst (Each IsKept) (ap (λ (r : List Line × List LayerLine). r.0) (ok_value (lines_apart all.value) (ls, more) all.second))
    (main_kept form.layers all.value (pairs_kept form (pairs_of t) all.value all.first))

-- in three views alone too
pub read_lines_are_kept : (decimals : ℕ) (t : List ℕ) (ls : List Line) → read_of decimals t ≡ Ok ls
    → Each IsKept ls
unfolding read_of
read_lines_are_kept decimals t ls e =
    let all = after_ok (pairs_read (three_views decimals) (pairs_of t)) (λ ls. Ok (main_lines ls)) ls e in
    subst (Each IsKept) (ok_value (main_lines all.value) ls all.second)
    (main_kept Main all.value (pairs_kept (three_views decimals) (pairs_of t) all.value all.first))

-- a file whose three views alone are read has no line of a further view
pub three_views_are_read : (decimals : ℕ) (t : List ℕ) (ls : List Line) → read_of decimals t ≡ Ok ls
    → lines_read (three_views decimals) t ≡ Ok (ls, [])
unfolding lines_read text_read read_of
three_views_are_read decimals t ls e =
    let all = after_ok (pairs_read (three_views decimals) (pairs_of t)) (λ ls. Ok (main_lines ls)) ls e in
    let none = none_other all.value (pairs_kept (three_views decimals) (pairs_of t) all.value all.first) in
    ap (λ r. r >>= λ ls. Ok (lines_apart ls)) all.first
    ∙ ap₂ (λ (main : List Line) (other : List LayerLine). Ok (main, other))
    (ok_value (main_lines all.value) ls all.second) none

pub none_further_in_three_views : (decimals : ℕ) (t : List ℕ) (ls : List Line) (more : List LayerLine)
    → lines_read (three_views decimals) t ≡ Ok (ls, more) → (read_of decimals t ≡ Ok ls) × (more ≡ [])
unfolding lines_read text_read read_of
none_further_in_three_views decimals t ls more e =
    let all = after_ok (pairs_read (three_views decimals) (pairs_of t)) (λ ls. Ok (lines_apart ls)) (ls, more) e in
    let none = none_other all.value (pairs_kept (three_views decimals) (pairs_of t) all.value all.first) in
    let apart = ok_value (lines_apart all.value) (ls, more) all.second in (
      ap (λ r. r >>= λ ls. Ok (main_lines ls)) all.first ∙ ap (λ (r : List Line × List LayerLine). Ok r.0) apart,
      sym (ap (λ (r : List Line × List LayerLine). r.1) apart) ∙ none,
    )

-- and has the same faults
same_fault : (read : Result (List LayerLine) Fault) (fault : Fault)
    → (read >>= λ ls. Ok (main_lines ls)) ≡ Err fault ↔ (read >>= λ ls. Ok (lines_apart ls)) ≡ Err fault
same_fault (Ok ls) fault = ((λ e. absurd cc), (λ e. absurd cc))
same_fault (Err found) fault = ((λ e. let same : found ≡ fault = cc in ap Err same), (λ e. let same : found ≡ fault = cc in ap Err same))

pub same_faults : (decimals : ℕ) (t : List ℕ) (fault : Fault)
    → read_of decimals t ≡ Err fault ↔ lines_read (three_views decimals) t ≡ Err fault
unfolding lines_read text_read read_of
same_faults decimals t fault = same_fault (pairs_read (three_views decimals) (pairs_of t)) fault

-- a file whose six views alone are read has no view that is cut
pub none_cut_in_six_views : (decimals : ℕ) (t : List ℕ) (ls : List Line) (more : List LayerLine)
    → lines_read (six_views decimals) t ≡ Ok (ls, more) → Each IsWhole more
unfolding lines_read text_read
none_cut_in_six_views decimals t ls more e =
    let all = after_ok (pairs_read (six_views decimals) (pairs_of t)) (λ ls. Ok (lines_apart ls)) (ls, more) e in
    subst (Each IsWhole) (ap (λ (r : List Line × List LayerLine). r.1) (ok_value (lines_apart all.value) (ls, more) all.second))
    (none_cut all.value (pairs_kept (six_views decimals) (pairs_of t) all.value all.first))
