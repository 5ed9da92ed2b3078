-- What a list of runs shows, and that it is the one list which shows it.
use Rattle.std.proofs.Common.{◌≡◌, ◌≢◌, ◌⊎◌, inl, inr, ⊎_elim, Bool, true, false, ◌&&◌, if◌then◌else◌, List, [], ◌∷◌, ℤ, pos, ◌-ℤ◌, ◌≤ℤ◌, ◌<ℤ◌, int_lt, int_le, int_eq, IsTrue, refl, sym, ap, subst, ◌∙◌, arith}
use Rattle.std.proofs.lemmas.Bool.{both_ways, and_parts, and_from, false_from_ne_true}
use Rattle.std.proofs.lemmas.Bool.Decides.{Decides-int_eq}
use Rattle.std.proofs.lemmas.Int.{ints}
use Rattle.solid_model.specs.declared.frame.View.{View}
use Rattle.solid_model.specs.declared.runs.Run.{Run}
use Rattle.solid_model.specs.declared.segment.Style.{Style}
use Rattle.solid_model.specs.declared.segment.Style.TheVariants.{Blank}
use Rattle.solid_model.specs.Drawings.{same_style}
use Rattle.lemmas.specs.Lists.{Member, Each, Ascends}
use Rattle.solid_model.specs.Runs.{run_covers, run_style, IsRun, StandsApart, AreRuns, DrawingRuns, runs_along, style_in}
use Rattle.solid_model.specs.PerView.{of_view}
use Rattle.solid_model.specs.Segments.{segment_at}
use Rattle.solid_model.specs.Stretches.{IsStretch}
use Rattle.lemmas.proofs.Lists.{IsWithin, each-at, each-from, each-weaker, ascends-members, same_ascending}
use Rattle.solid_model.proofs.MaximalStretches.{one_stretch}
use Rattle.solid_model.proofs.Sheets.{same_style-itself, same_style-one}

-- ---- what a run covers

-- what a run covers lies on its line, from its beginning to its end
pub covers_parts : (j z : ℤ) (r : Run) → run_covers j z r ≡ true → (r.at ≡ j) × (r.from ≤ℤ z) × (z <ℤ r.to)
covers_parts j z r e =
    let p = and_parts (int_eq r.at j) (int_le r.from z && int_lt z r.to) e in
    let q = and_parts (int_le r.from z) (int_lt z r.to) p.1 in
    ((Decides-int_eq r.at j).0 p.0, omega (arith, ints, q.0), omega (arith, ints, q.1))

-- and what lies there is covered
pub covers_from : (r : Run) (z : ℤ) → r.from ≤ℤ z → z <ℤ r.to → run_covers r.at z r ≡ true
covers_from r z from to =
    and_from (int_eq r.at r.at) _ ((Decides-int_eq r.at r.at).1 refl)
    (and_from (int_le r.from z) (int_lt z r.to) (grind (arith, ints)) (grind (arith, ints)))

-- of two runs that stand apart the second doesn't cover what the first covers
pub apart-covers : (a b : Run) (j z : ℤ) → StandsApart a b → run_covers j z a ≡ true → run_covers j z b ≡ true → ⊥
apart-covers a b j z apart p q =
    let s = covers_parts j z a p in
    let t = covers_parts j z b q in
    ⊎_elim {C = ⊥} (λ l. omega (arith, ints, s.0, t.0))
    (λ l. ⊎_elim {C = ⊥} (λ m. omega (arith, ints, s.2, t.1)) (λ m. omega (arith, ints, s.2, t.1, m.0)) l.1) apart

-- ---- the style of a unit length

-- a unit length that isn't blank is covered by a run
pub covering_run : (rs : List Run) (j z : ℤ) → run_style rs j z ≢ Blank → (r : Run) × Member rs r × IsTrue (run_covers j z r)
covering_run [] j z shown = absurd (shown refl)
covering_run (r ∷ rs) j z shown = at (run_covers j z r) refl shown (covering_run rs j z)
  where
    at : (t : Bool) → run_covers j z r ≡ t → (if t then r.style else run_style rs j z) ≢ Blank
        → (run_style rs j z ≢ Blank → (m : Run) × Member rs m × IsTrue (run_covers j z m)) → (m : Run) × Member (r ∷ rs) m × IsTrue (run_covers j z m)
    at true e shown later = (r, inl refl, e)
    at false e shown later = let m = later shown in (m.0, inr m.1, m.2)

-- a unit length that a run covers has the style of this run, since no other covers it
covered_style : (rs : List Run) (r : Run) (j z : ℤ) → Ascends StandsApart rs → Member rs r → run_covers j z r ≡ true → run_style rs j z ≡ r.style
covered_style [] r j z apart k e = absurd k
covered_style (m ∷ rs) r j z apart k e = at (run_covers j z m) refl k (λ l. covered_style rs r j z apart.1 l e)
  where
    at : (t : Bool) → run_covers j z m ≡ t → Member (m ∷ rs) r → (Member rs r → run_style rs j z ≡ r.style) → (if t then m.style else run_style rs j z) ≡ r.style
    at true f (inl same) later = ap (λ (n : Run). n.style) same
    at true f (inr l) later = absurd (apart-covers m r j z (each-at (StandsApart m) rs r apart.0 l) f e)
    at false f (inl same) later = absurd (both_ways (run_covers j z m) f (ap (run_covers j z) same ∙ e))
    at false f (inr l) later = later l

-- a run of the list covers the unit length, and has the style
record IsDrawnBy (rs : List Run) (j z : ℤ) (style : Style) (r : Run) : Type 0 where
  member : Member rs r
  on : r.at ≡ j
  from : r.from ≤ℤ z
  to : z <ℤ r.to
  style_is : r.style ≡ style

-- a unit length has a style that isn't Blank from a run
drawing_run : (rs : List Run) (j z : ℤ) (style : Style) → Ascends StandsApart rs → run_style rs j z ≡ style → style ≢ Blank → (r : Run) × IsDrawnBy rs j z style r
drawing_run rs j z style apart shown drawn =
    let m = covering_run rs j z (λ none. drawn (sym shown ∙ none)) in
    let parts = covers_parts j z m.0 m.2 in
    (m.0, record { member = m.1; on = parts.0; from = parts.1; to = parts.2; style_is = sym (covered_style rs m.0 j z apart m.1 m.2) ∙ shown })

-- ---- each run is a maximal stretch

-- between two runs of one line and style that stand apart lies a gap
gap_between : (a b : Run) → StandsApart a b → a.at ≡ b.at → a.style ≡ b.style → a.to <ℤ b.from
gap_between a b (inl earlier) on same = omega (arith, ints)
gap_between a b (inr (_, inl before)) on same = before
gap_between a b (inr (_, inr (meets, differ))) on same = absurd (differ same)

module _ (rs : List Run) (runs : AreRuns rs) (r : Run) (k : Member rs r) where
  -- a place of a run, or just before it or after it, that has its style on its line lies in it, since no other run of this
  -- style comes so near
  lies_inside : (z : ℤ) → (r.from -ℤ pos 1) ≤ℤ z → z ≤ℤ r.to → run_style rs r.at z ≡ r.style → (r.from ≤ℤ z) × (z <ℤ r.to)
  lies_inside z near_from near_to shown =
      let m = drawing_run rs r.at z r.style runs.1 shown (each-at IsRun rs r runs.0 k).1 in
      let b = m.1 in
      elim (ascends-members StandsApart rs r m.0 runs.1 k b.member) as (λ _. (r.from ≤ℤ z) × (z <ℤ r.to)) [
        | inl same ↦ (subst (λ (n : Run). n.from ≤ℤ z) (sym same) b.from, subst (λ (n : Run). z <ℤ n.to) (sym same) b.to)
        | inr (inl apart) ↦ (let gap = gap_between r m.0 apart (sym b.on) (sym b.style_is) in absurd (omega (arith, ints, b.from)))
        | inr (inr apart) ↦ (let gap = gap_between m.0 r apart b.on b.style_is in absurd (omega (arith, ints, b.to)))
      ]

  -- a run has some length
  long : r.from <ℤ r.to
  long = (each-at IsRun rs r runs.0 k).0

  -- the run is a maximal stretch of its style on its line
  pub run_stretch : IsStretch (λ z. same_style r.style (run_style rs r.at z)) r.from r.to
  run_stretch = record {
    nonempty = long;
    inside = λ z from to. ap (same_style r.style) (covered_style rs r r.at z runs.1 k (covers_from r z from to)) ∙ same_style-itself r.style;
    before = false_from_ne_true _ (λ t.
        let inside = lies_inside (r.from -ℤ pos 1) (omega (arith, ints)) (omega (arith, ints, long)) (sym (same_style-one r.style _ t)) in
        omega (arith, ints, inside.0));
    after = false_from_ne_true _ (λ t.
        let inside = lies_inside r.to (omega (arith, ints, long)) (omega (arith, ints)) (sym (same_style-one r.style _ t)) in
        omega (arith, ints, inside.1));
  }

-- so is each
pub each_run_stretch : (rs : List Run) → AreRuns rs → Each (λ r. IsStretch (λ z. same_style r.style (run_style rs r.at z)) r.from r.to) rs
each_run_stretch rs runs = each-from _ rs (run_stretch rs runs)

-- ---- one list of runs

-- a run of the one list is a run of the other: where it begins the other has a run of its style, and both are the stretch there
runs_within : (rs ss : List Run) → AreRuns rs → AreRuns ss → ((j z : ℤ) → run_style rs j z ≡ run_style ss j z) → IsWithin rs ss
runs_within rs ss runs others same r k =
    let is_run = each-at IsRun rs r runs.0 k in
    let begins : r.from ≤ℤ r.from = omega (arith, ints) in
    let shown : run_style ss r.at r.from ≡ r.style = sym (same r.at r.from) ∙ covered_style rs r r.at r.from runs.1 k (covers_from r r.from begins is_run.0) in
    let m = drawing_run ss r.at r.from r.style others.1 shown is_run.1 in
    let b = m.1 in
    let test : (λ z. same_style m.0.style (run_style ss m.0.at z)) ≡ (λ z. same_style r.style (run_style rs r.at z)) =
    λ i z. same_style (b.style_is i) ((ap (λ j. run_style ss j z) b.on ∙ sym (same r.at z)) i) in
    let stretch = subst (λ p. IsStretch p m.0.from m.0.to) test (run_stretch ss others m.0 b.member) in
    let ends = one_stretch (λ z. same_style r.style (run_style rs r.at z)) m.0.from m.0.to r.from r.to stretch (run_stretch rs runs r k)
    r.from b.from b.to begins is_run.0 in
    let one : m.0 ≡ r = λ i. record { at = b.on i; from = ends.0 i; to = ends.1 i; style = b.style_is i } in
    subst (Member ss) one b.member

-- the one run begins before the other, by line and then place
abbrev BeginsBefore : Run → Run → Type 0
BeginsBefore a b = (a.at <ℤ b.at) ⊎ ((a.at ≡ b.at) × (a.from <ℤ b.from))

begins_one_way : (a b : Run) → BeginsBefore a b → BeginsBefore b a → ⊥
begins_one_way a b (inl earlier) (inl l) = omega (arith, ints)
begins_one_way a b (inl earlier) (inr (on, before)) = omega (arith, ints)
begins_one_way a b (inr (on, before)) (inl l) = omega (arith, ints)
begins_one_way a b (inr (on, before)) (inr (_, l)) = omega (arith, ints)

-- a run begins before what it stands apart from
apart-begins : (a b : Run) → IsRun a → StandsApart a b → BeginsBefore a b
apart-begins a b run (inl earlier) = inl earlier
apart-begins a b run (inr (on, inl before)) = inr (on, omega (arith, ints, run.0))
apart-begins a b run (inr (on, inr (meets, differ))) = inr (on, omega (arith, ints, run.0))

-- so runs begin one after another
runs-begin : (rs : List Run) → AreRuns rs → Ascends BeginsBefore rs
runs-begin [] runs = tt
runs-begin (r ∷ rs) runs = (each-weaker (StandsApart r) (BeginsBefore r) rs (λ b. apart-begins r b runs.0.0) runs.1.0, runs-begin rs (runs.0.1, runs.1.1))

-- lists of runs that give each unit length the same style are one
pub same_styles_one_list : (rs ss : List Run) → AreRuns rs → AreRuns ss → ((j z : ℤ) → run_style rs j z ≡ run_style ss j z) → rs ≡ ss
same_styles_one_list rs ss runs others same =
    same_ascending BeginsBefore begins_one_way rs ss (runs-begin rs runs) (runs-begin ss others)
    (runs_within rs ss runs others same) (runs_within ss rs others runs (λ j z. sym (same j z)))

-- ---- a drawing that is kept as runs

-- it gives a segment the style of the unit length of a run's line
pub in_runs : (d : DrawingRuns) (v : View) (upright : Bool) (start line : ℤ)
    → style_in d (segment_at v upright start line) ≡ run_style (runs_along upright (of_view v d)) line start
in_runs d v true start line = refl
in_runs d v false start line = refl
