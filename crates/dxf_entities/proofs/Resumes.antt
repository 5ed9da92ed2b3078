-- How a reader's steps go on with what is left.
use Rattle.std.proofs.Common.{◌≡◌, ℕ, Bool, true, false, cond, List, [], ◌∷◌, Option, Some, None, Result, Ok, Err, if◌then◌else◌, codes, IsErrOf, refl, sym, ap, ap₂, ◌∙◌}
use Rattle.std.specs.Option.{option_map, option_or}
use Rattle.std.proofs.lemmas.Bool.{or_right}
use Rattle.solid_model.specs.declared.fault.Fault.{Fault}
use Rattle.solid_model.specs.declared.fault.Fault.TheVariants.{BadSection}
use Rattle.solid_model.specs.declared.fault.Refused.{Refused}
use Rattle.solid_model.specs.declared.fault.Refused.TheVariants as refused
use Rattle.dxf_groups.specs.declared.pair.Pair.{Pair}
use Rattle.dxf_groups.specs.Groups.{GroupsState, Gives, IsReadThrough, from_wanted, is_wanted}
use Rattle.dxf_groups.specs.Spans.{span_of}
use Rattle.dxf_entities.specs.declared.counting.Counting.{Counting}
use Rattle.dxf_entities.specs.declared.counting.Counting.TheVariants.{Each}
use Rattle.dxf_entities.specs.declared.facts.Facts.{Facts}
use Rattle.dxf_entities.specs.declared.layer_line.LayerLine.{LayerLine}
use Rattle.dxf_entities.specs.declared.kind.Kind.{Kind}
use Rattle.dxf_entities.specs.declared.kind.Kind.TheVariants as kind
use Rattle.dxf_entities.specs.declared.named.Named.{Named}
use Rattle.dxf_entities.specs.declared.named.Named.TheVariants.{Unread, Shows, Misnamed}
use Rattle.dxf_entities.specs.declared.section.Section.{Section}
use Rattle.dxf_entities.specs.declared.section.Section.TheVariants.{Tables, Entities, Other}
use Rattle.dxf_entities.specs.declared.place.Place.{Place}
use Rattle.dxf_entities.specs.declared.place.Place.TheVariants.{Outside, Unnamed, Inside}
use Rattle.dxf_entities.specs.declared.open.Open.{Open}
use Rattle.dxf_entities.specs.declared.open.Open.TheVariants.{Passed, Layer, Entity}
use Rattle.dxf_entities.specs.declared.reader.Reader.{Reader}
use Rattle.dxf_entities.specs.Counting.{counts}
use Rattle.dxf_entities.specs.Steps.{◌>>=◌}
use Rattle.dxf_groups.specs.Pairs.{TextPair, Pairs, pairs_of, text_pair}
use Rattle.dxf_entities.specs.Entries.{Entry, has_code, before_entries, entries_of, own_pairs, first_value, opens_application}
use Rattle.dxf_entities.specs.declared.pen.Pen.{Pen}
use Rattle.dxf_entities.specs.Judging.{facts_of, drawn_by, lines_by}
use Rattle.dxf_entities.specs.Forms.{FormParts}
use Rattle.dxf_entities.specs.Names.{is_name, layer_on, kind_of, section_of}
use Rattle.dxf_entities.specs.Reading.{Progress, between, opened, with_layer, layer_added, nothing_read, entity_read, entry_read, read_at, end_read, is_ended, entries_read, pairs_read}
use Rattle.dxf_entities.specs.Resuming.{with_fact, with_layer_fact, with_own, begun_facts, nothing_told, opened_entity, opened_entry, unless_elsewhere, with_own_pair, with_pair_of, is_inside_after, fact_taken, entry_closed, closed, closed_where, layer_linetype, progress_of, advanced, resumed}
use Rattle.dxf_entities.proofs.Counted.{TellsNothing, uncounted}
use Rattle.dxf_entities.proofs.OwnFacts.{own_facts, own_layer_facts, elsewhere, no_geometry}

-- a fault that is refused is known
pub refused_is : {A : Type 0} (e f : Fault)
    → IsErrOf {T = A} {E = Refused} (Err (refused.Fault e)) (refused.Fault f) → e ≡ f
refused_is e f is = cc

-- the entry that begins with a pair
abbrev pub entry_with : TextPair → List TextPair → Entry
entry_with p lead = record { name = p.value; line = p.line; pairs = lead }

-- the lines that are kept with those of an entity
abbrev then_kept : Progress → Result (List LayerLine) Fault → Result Progress Fault
then_kept s r = r >>= λ lines. Ok (record s { lines = lines })

-- an entity that a pair opens is closed as it is judged
entity_opened : (p : TextPair) (lead : List TextPair) (s : Progress) (k : Kind) → kind_of p.value ≡ k
    → entry_closed (opened_entity p k) false lead s
    ≡ entity_read (facts_of s.form (entry_with p lead)) s
entity_opened p lead s kind.Line e =
    ap (λ f. entity_read f s) (own_facts s.form false lead (begun_facts p))
entity_opened p lead s kind.Polyline e =
    ap (λ f. entity_read f s) (own_facts s.form false lead (begun_facts p))
entity_opened p lead s kind.Geometry e =
    ap (λ f. entity_read f s) (own_facts s.form false lead (begun_facts p))
entity_opened p lead s kind.Other e =
    sym (ap (then_kept s) (no_geometry s.layers s.lines (facts_of s.form (entry_with p lead)) e))

-- an entry that a pair opens is closed as the entry that it begins is read
pub opened_closes : (section : Section) (p : TextPair) (lead : List TextPair) (s : Progress)
    → entry_closed (opened_entry section p) false lead s
    ≡ entry_read true section (entry_with p lead) s
opened_closes Tables p lead s = by (is_name (codes "LAYER") p.value)
  where
    by : (b : Bool) → entry_closed (if b then Layer nothing_told else Passed) false lead s
        ≡ Ok (if b then layer_added (record { name = codes "LAYER"; line = p.line; pairs = lead }) s
        else s)
    by true =
        ap (λ f. Ok (with_layer f.name f.linetype s)) (own_layer_facts s.form false lead nothing_told)
    by false = refl
opened_closes Entities p lead s = entity_opened p lead s (kind_of p.value) refl
opened_closes Other p lead s = refl

-- an entity goes on as one that is passed over, where it stands on a layer that isn't read
unless_closes : (layer : Option Named) (f : Facts) (ps : List TextPair) (s : Progress)
    → f.layer ≡ layer
    → entry_closed (Entity f) false ps s ≡ entry_closed (unless_elsewhere layer f) false ps s
unless_closes None f ps s e = refl
unless_closes (Some (Shows layer)) f ps s e = refl
unless_closes (Some Misnamed) f ps s e = refl
unless_closes (Some Unread) f ps s e =
    ap (then_kept s) (elsewhere s.layers s.lines (with_own (with_fact s.form) false ps f) still)
  where
    still : (with_own (with_fact s.form) false ps f).layer ≡ Some Unread
    still =
        ap (λ (g : Facts). g.layer) (own_facts s.form false ps f)
        ∙ ap (λ layer. option_or layer (option_map (layer_on s.form) (first_value 8 (own_pairs false ps)))) e

-- an entry is closed with a pair and what follows it; whether that begins what belongs to an
-- application is told
abbrev entry_closed_after : Bool → TextPair → List TextPair → Open → Progress → Result Progress Fault
entry_closed_after b p ps Passed s = Ok s
entry_closed_after b p ps (Layer f) s =
    let all = if b then with_own (with_layer_fact s.form) true ps f
    else with_own (with_layer_fact s.form) false ps (with_layer_fact s.form p f) in
    Ok (with_layer all.name all.linetype s)
entry_closed_after b p ps (Entity f) s =
    entity_read
    (if b then with_own (with_fact s.form) true ps f
    else with_own (with_fact s.form) false ps (with_fact s.form p f)) s

-- a pair of its own is added to an open entry
own_taken : (p : TextPair) (ps : List TextPair) (entry : Open) (s : Progress) (b : Bool)
    → entry_closed_after b p ps entry s
    ≡ entry_closed (if b then entry else with_own_pair s.form p entry) b ps s
own_taken p ps Passed s true = refl
own_taken p ps Passed s false = refl
own_taken p ps (Layer f) s true = refl
own_taken p ps (Layer f) s false = refl
own_taken p ps (Entity f) s true = refl
own_taken p ps (Entity f) s false =
    unless_closes (with_fact s.form p f).layer (with_fact s.form p f) ps s refl

-- an open entry takes a pair
pub pair_taken : (p : TextPair) (ps : List TextPair) (inside : Bool) (entry : Open) (s : Progress)
    → entry_closed entry inside (p ∷ ps) s
    ≡ entry_closed (with_pair_of s.form p inside entry) (is_inside_after p inside) ps s
pair_taken p ps true Passed s = refl
pair_taken p ps true (Layer f) s = refl
pair_taken p ps true (Entity f) s = refl
pair_taken p ps false Passed s = own_taken p ps Passed s (opens_application p)
pair_taken p ps false (Layer f) s = own_taken p ps (Layer f) s (opens_application p)
pair_taken p ps false (Entity f) s = own_taken p ps (Entity f) s (opens_application p)

-- with no more pairs nothing more counts
nothing_more : {F : Type 0} (with : TextPair → F → F) (inside : Bool) (f : F)
    → with_own with inside [] f ≡ f
nothing_more with true f = refl
nothing_more with false f = refl

-- an open entity is closed as it is judged
pub closed_entity : (r : Reader) (f : Facts) → r.entry ≡ Entity f
    → closed [] r ≡ entity_read f (progress_of r)
closed_entity r f is =
    ap (λ entry. entry_closed entry r.in_application [] (progress_of r)) is
    ∙ ap (λ all. entity_read all (progress_of r))
    (nothing_more (with_fact r.form) r.in_application f)

-- the end of an entity, by how it is drawn
abbrev drawn_so : Reader → Facts → Result (Option Pen) Fault → Result Progress Fault
drawn_so r f pen = then_kept (progress_of r) (pen >>= lines_by f r.lines.items)

-- one without a pen is passed over
pub entity_passed : (r : Reader) (f : Facts) → r.entry ≡ Entity f
    → drawn_by (layer_linetype r.layers) f ≡ Ok None → closed [] r ≡ Ok (progress_of r)
entity_passed r f is gives = closed_entity r f is ∙ ap (drawn_so r f) gives

-- ---- a pair with code 0

-- what is read of the entries that follow
abbrev then_entries : List TextPair → Result ℕ Fault → Result Progress Fault → Result (List LayerLine) Fault
then_entries ps ending r = r >>= entries_read (entries_of ps) ending

-- what is read after the entry that it ends
abbrev rest_of : TextPair → List TextPair → Result ℕ Fault → Progress → Result (List LayerLine) Fault
rest_of p ps ending s = then_entries ps ending
    (read_at s.place (is_ended (entries_of ps) ending) (entry_with p (before_entries ps)) s)

module _ (p : TextPair) (zero : has_code 0 p ≡ true) where
  -- it ends the entry before it, and begins the next one
  at_entry : (ps : List TextPair) (ending : Result ℕ Fault) (r : Reader)
      → resumed (p ∷ ps) ending r ≡ (advanced r.place true [] r >>= rest_of p ps ending)
  unfolding resumed
  at_entry ps ending r = rw zero refl

  -- outside, one that begins a section
  pub section_begins : (r : Reader) → r.place ≡ Outside → is_name (codes "SECTION") p.value ≡ true
      → (ps : List TextPair) (ending : Result ℕ Fault)
      → resumed (p ∷ ps) ending r ≡ resumed ps ending (record r { place = Unnamed })
  unfolding resumed
  section_begins r outside is ps ending =
      at_entry ps ending r
      ∙ rw outside (rw is (ap (then_entries ps ending) (opens (before_entries ps))))
    where
      opens : (lead : List TextPair) → opened lead (record (progress_of r) { place = Outside })
          ≡ opened lead (record (progress_of r) { place = Unnamed })
      opens [] = refl
      opens (q ∷ qs) = refl

  -- outside, any other
  pub nothing_begins : (r : Reader) → r.place ≡ Outside → is_name (codes "SECTION") p.value ≡ false
      → (ps : List TextPair) (ending : Result ℕ Fault)
      → resumed (p ∷ ps) ending r ≡ Err (BadSection p.line)
  nothing_begins r outside is ps ending = at_entry ps ending r ∙ rw outside (rw is refl)

  -- where the name of a section should stand
  pub unnamed_ends : (r : Reader) → r.place ≡ Unnamed
      → (ps : List TextPair) (ending : Result ℕ Fault)
      → resumed (p ∷ ps) ending r ≡ Err (BadSection p.line)
  unnamed_ends r unnamed ps ending = at_entry ps ending r ∙ rw unnamed refl

  -- in a section, where the entry that it ends has a fault
  pub entry_faulty : (r : Reader) (section : Section) (f : Fault) → r.place ≡ Inside section
      → closed [] r ≡ Err f
      → (ps : List TextPair) (ending : Result ℕ Fault) → resumed (p ∷ ps) ending r ≡ Err f
  entry_faulty r section f inside faulty ps ending =
      at_entry ps ending r
      ∙ (ap (λ place. advanced place true [] r >>= rest_of p ps ending) inside
      ∙ ap (λ x. x >>= rest_of p ps ending) faulty)

-- in a section the entry goes on
goes_on : (r : Reader) (section : Section) → r.place ≡ Inside section
    → (ps : List TextPair) (ending : Result ℕ Fault)
    → resumed ps ending r
    ≡ then_entries ps ending (closed_where (is_ended (entries_of ps) ending) (before_entries ps) r)
unfolding resumed
goes_on r section inside ps ending =
    ap (λ place. then_entries ps ending
    (advanced place (is_ended (entries_of ps) ending) (before_entries ps) r)) inside

-- outside of sections each pair counts
pub all_counted : (ps : List TextPair) → from_wanted (counts Each) ps ≡ ps
all_counted [] = refl
all_counted (p ∷ ps) = ap (λ b. cond b (p ∷ ps) (from_wanted (counts Each) ps)) (or_right (has_code 0 p) true refl)

-- in a section, where pairs that don't count tell nothing of the open entry, they are passed over
module _ (c : Counting) (r : Reader)
    (nothing : (p : TextPair) → is_wanted (counts c) p.code ≡ false → TellsNothing p r.entry r.in_application (progress_of r)) where
  entries_on : (ps : List TextPair) → entries_of (from_wanted (counts c) ps) ≡ entries_of ps
  entries_on [] = refl
  entries_on (p ∷ ps) = by (is_wanted (counts c) p.code) refl (entries_on ps)
    where
      by : (b : Bool) → is_wanted (counts c) p.code ≡ b → entries_of (from_wanted (counts c) ps) ≡ entries_of ps
          → entries_of (cond b (p ∷ ps) (from_wanted (counts c) ps)) ≡ entries_of (p ∷ ps)
      by true is same = refl
      by false is same = rw ((uncounted c p is).0) same

  closes_on : (ps : List TextPair) → closed (before_entries (from_wanted (counts c) ps)) r ≡ closed (before_entries ps) r
  closes_on [] = refl
  closes_on (p ∷ ps) = by (is_wanted (counts c) p.code) refl (closes_on ps)
    where
      by : (b : Bool) → is_wanted (counts c) p.code ≡ b
          → closed (before_entries (from_wanted (counts c) ps)) r ≡ closed (before_entries ps) r
          → closed (before_entries (cond b (p ∷ ps) (from_wanted (counts c) ps))) r ≡ closed (before_entries (p ∷ ps)) r
      by true is same = refl
      by false is same = rw ((uncounted c p is).0) (same ∙ sym (nothing p is (before_entries ps)))

  pub counted_on : (section : Section) → r.place ≡ Inside section → (ps : List TextPair) (ending : Result ℕ Fault)
      → resumed ps ending r ≡ resumed (from_wanted (counts c) ps) ending r
  counted_on section inside ps ending = goes_on r section inside ps ending ∙ sym (goes_on r section inside counted ending ∙ same)
    where
      counted : List TextPair
      counted = from_wanted (counts c) ps

      by : (b : Bool) → closed_where b (before_entries counted) r ≡ closed_where b (before_entries ps) r
      by true = closes_on ps
      by false = refl

      same : then_entries counted ending (closed_where (is_ended (entries_of counted) ending) (before_entries counted) r)
          ≡ then_entries ps ending (closed_where (is_ended (entries_of ps) ending) (before_entries ps) r)
      same = ap (λ es. closed_where (is_ended es ending) (before_entries counted) r >>= entries_read es ending) (entries_on ps)
          ∙ ap (then_entries ps ending) (by (is_ended (entries_of ps) ending))

-- in a section, where the entry that it ends is closed
module _ (p : TextPair) (zero : has_code 0 p ≡ true) (old new : Reader) (section : Section)
    (inside : old.place ≡ Inside section) (still : new.place ≡ Inside section)
    (done : closed [] old ≡ Ok (progress_of new)) where
  entry_ended : (ps : List TextPair) (ending : Result ℕ Fault) → resumed (p ∷ ps) ending old
      ≡ then_entries ps ending (read_at (Inside section) (is_ended (entries_of ps) ending)
      (entry_with p (before_entries ps)) (progress_of new))
  entry_ended ps ending =
      at_entry p zero ps ending old
      ∙ (ap (λ place. advanced place true [] old >>= rest_of p ps ending) inside
      ∙ (ap (λ x. x >>= rest_of p ps ending) done
      ∙ ap (λ place. then_entries ps ending (read_at place (is_ended (entries_of ps) ending)
      (entry_with p (before_entries ps)) (progress_of new))) still))

  -- it may not begin a section
  pub section_in_section : is_name (codes "SECTION") p.value ≡ true
      → (ps : List TextPair) (ending : Result ℕ Fault)
      → resumed (p ∷ ps) ending old ≡ Err (BadSection p.line)
  section_in_section is ps ending = entry_ended ps ending ∙ rw is refl

  -- it may end the section
  pub section_ends : is_name (codes "SECTION") p.value ≡ false
      → is_name (codes "ENDSEC") p.value ≡ true
      → (ps : List TextPair) (ending : Result ℕ Fault)
      → resumed (p ∷ ps) ending old ≡ resumed ps ending (record new { place = Outside })
  unfolding resumed
  section_ends isnt is ps ending =
      entry_ended ps ending
      ∙ rw isnt (rw is (ap (then_entries ps ending) (stands (before_entries ps))))
    where
      stands : (lead : List TextPair) → between lead (progress_of new)
          ≡ between lead (record (progress_of new) { place = Outside })
      stands [] = refl
      stands (q ∷ qs) = refl

  -- the reader whose open entry begins with it
  abbrev begun : Reader
  begun = record new { entry = opened_entry section p; in_application = false }

  -- else it begins an entry of the section
  pub entry_begins : is_name (codes "SECTION") p.value ≡ false
      → is_name (codes "ENDSEC") p.value ≡ false
      → (ps : List TextPair) (ending : Result ℕ Fault)
      → resumed (p ∷ ps) ending old
      ≡ resumed ps ending (record new { entry = opened_entry section p; in_application = false })
  unfolding resumed
  entry_begins isnt isnot ps ending =
      entry_ended ps ending
      ∙ (rw isnt (rw isnot (ap (then_entries ps ending) (reads (is_ended (entries_of ps) ending))))
      ∙ sym (goes_on begun section still ps ending))
    where
      reads : (b : Bool) → entry_read b section (entry_with p (before_entries ps)) (progress_of new)
          ≡ closed_where b (before_entries ps) begun
      reads true = sym (opened_closes section p (before_entries ps) (progress_of new))
      reads false = refl

-- ---- any other pair

module _ (p : TextPair) (r : Reader) (other : has_code 0 p ≡ false) where
  -- it belongs to what stands before the next entry
  at_pair : (ps : List TextPair) (ending : Result ℕ Fault) → resumed (p ∷ ps) ending r
      ≡ then_entries ps ending
      (advanced r.place (is_ended (entries_of ps) ending) (p ∷ before_entries ps) r)
  unfolding resumed
  at_pair ps ending = rw other refl

  -- outside it may not stand
  pub pair_outside : r.place ≡ Outside → (ps : List TextPair) (ending : Result ℕ Fault)
      → resumed (p ∷ ps) ending r ≡ Err (BadSection p.line)
  pair_outside outside ps ending = at_pair ps ending ∙ rw outside refl

  -- one that should name a section and doesn't
  pub pair_unnamed : r.place ≡ Unnamed → has_code 2 p ≡ false
      → (ps : List TextPair) (ending : Result ℕ Fault)
      → resumed (p ∷ ps) ending r ≡ Err (BadSection p.line)
  pair_unnamed unnamed isnt ps ending = at_pair ps ending ∙ rw unnamed (rw isnt refl)

  -- one that names a section
  pub section_named : r.place ≡ Unnamed → has_code 2 p ≡ true
      → (ps : List TextPair) (ending : Result ℕ Fault) → resumed (p ∷ ps) ending r
      ≡ resumed ps ending (record r { place = Inside (section_of p.value); entry = Passed })
  unfolding resumed
  section_named unnamed is ps ending =
      at_pair ps ending
      ∙ rw unnamed (rw is (ap (then_entries ps ending) (passes (is_ended (entries_of ps) ending))))
    where
      passes : (b : Bool) → Ok (record (progress_of r) { place = Inside (section_of p.value) })
          ≡ closed_where b (before_entries ps)
          (record r { place = Inside (section_of p.value); entry = Passed })
      passes true = refl
      passes false = refl

  -- one more of the open entry
  pub pair_inside : (section : Section) → r.place ≡ Inside section
      → (ps : List TextPair) (ending : Result ℕ Fault)
      → resumed (p ∷ ps) ending r ≡ resumed ps ending (fact_taken p r)
  unfolding resumed
  pair_inside section inside ps ending =
      at_pair ps ending
      ∙ (ap (λ place. then_entries ps ending
      (advanced place (is_ended (entries_of ps) ending) (p ∷ before_entries ps) r)) inside
      ∙ (ap (then_entries ps ending) (takes (is_ended (entries_of ps) ending))
      ∙ sym (goes_on (fact_taken p r) section inside ps ending)))
    where
      takes : (b : Bool) → closed_where b (p ∷ before_entries ps) r
          ≡ closed_where b (before_entries ps) (fact_taken p r)
      takes true = pair_taken p (before_entries ps) r.in_application r.entry (progress_of r)
      takes false = refl

-- ---- the end

-- at the end pair, outside
pub ends_outside : (r : Reader) (line : ℕ) → r.place ≡ Outside
    → resumed [] (Ok line) r ≡ Ok r.lines.items
unfolding resumed
ends_outside r line outside = rw outside refl

-- where the name of a section should stand
pub ends_unnamed : (r : Reader) (line : ℕ) → r.place ≡ Unnamed
    → resumed [] (Ok line) r ≡ Err (BadSection line)
unfolding resumed
ends_unnamed r line unnamed = rw unnamed refl

-- in a section, where the last entry has a fault
pub ends_faulty : (r : Reader) (line : ℕ) (section : Section) (f : Fault)
    → r.place ≡ Inside section → closed [] r ≡ Err f → resumed [] (Ok line) r ≡ Err f
unfolding resumed
ends_faulty r line section f inside faulty =
    goes_on r section inside [] (Ok line) ∙ ap (then_entries [] (Ok line)) faulty

-- in a section, where it is closed
pub ends_inside : (old new : Reader) (line : ℕ) (section : Section)
    → old.place ≡ Inside section → new.place ≡ Inside section
    → closed [] old ≡ Ok (progress_of new) → resumed [] (Ok line) old ≡ Err (BadSection line)
unfolding resumed
ends_inside old new line section inside still done =
    goes_on old section inside [] (Ok line)
    ∙ (ap (then_entries [] (Ok line)) done
    ∙ ap (λ place. end_read place line (progress_of new)) still)

-- at a fault of the text
pub ends_at_fault : (r : Reader) (f : Fault) → resumed [] (Err f) r ≡ Err f
unfolding resumed
ends_at_fault r f = by r.place
  where
    by : (place : Place) → (advanced place false [] r >>= entries_read [] (Err f)) ≡ Err f
    by Outside = refl
    by Unnamed = refl
    by (Inside section) = refl

-- ---- what is handed over

-- a pair that the reader of the text gives is the next one that is left
pub pair_read : (old new : GroupsState) (r : Reader) (p : Pair) (value : List ℕ)
    → Gives old (Ok (Some p)) new → value ≡ span_of new.text p.value
    → resumed old.left.pairs old.left.ending r
    ≡ resumed (text_pair p value ∷ new.left.pairs) new.left.ending r
pair_read old new r p value gives is =
    ap (λ ps. resumed ps.pairs ps.ending r) gives.first
    ∙ ap (λ v. resumed (text_pair p v ∷ new.left.pairs) new.left.ending r)
    (ap (λ text. span_of text p.value) (sym gives.same_text) ∙ sym is)

-- where it gives no more, none is left, and the end pair was read
pub end_read_at : (old new : GroupsState) (line : ℕ) (r : Reader)
    → Gives old (Ok None) new → new.end_line ≡ Some line
    → resumed old.left.pairs old.left.ending r ≡ resumed [] (Ok line) r
end_read_at old new line r gives is =
    let told : Some gives.line ≡ Some line =
    sym (ap (λ (s : GroupsState). s.end_line) gives.told) ∙ is in
    let same : gives.line ≡ line = cc in
    ap (λ ps. resumed ps.pairs ps.ending r) gives.at_end ∙ ap (λ n. resumed [] (Ok n) r) same

-- so a reader of the text, with the pairs that end as those of the text do, was read through
pub read_through : (all old new : GroupsState) → old.text ≡ all.text
    → (pairs_of all.text).ending ≡ old.left.ending → Gives old (Ok None) new → IsReadThrough all new
read_through all old new same_text same_ending gives = record {
  line = gives.line;
  ends = same_ending ∙ ap (λ (ps : Pairs). ps.ending) gives.at_end;
  read_out =
      gives.told
      ∙ ap₂ (λ text left. record { text = text; left = left; end_line = Some gives.line })
      same_text gives.at_end;
}

-- ---- the beginning

-- a reader that has read nothing reads all
pub begins : (form : FormParts) (r : Reader) → r.place ≡ Outside → progress_of r ≡ nothing_read form
    → (ps : Pairs) → resumed ps.pairs ps.ending r ≡ pairs_read form ps
unfolding resumed
begins form r outside fresh ps =
    ap (λ place. then_entries ps.pairs ps.ending
    (advanced place (is_ended (entries_of ps.pairs) ps.ending) (before_entries ps.pairs) r)) outside
    ∙ ap (λ s. then_entries ps.pairs ps.ending (between (before_entries ps.pairs) s)) fresh
