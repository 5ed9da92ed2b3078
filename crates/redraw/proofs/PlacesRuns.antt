-- The runs of one line of a drawing, from the last place at which it may be drawn down to the first.
use Rattle.std.proofs.Common.{◌≡◌, ◌≢◌, inl, inr, ⊎_elim, Bool, true, false, ℕ, zero, suc, List, [], ◌∷◌, ℤ, pos, ◌+ℤ◌, ◌≤ℤ◌, ◌<ℤ◌, refl, ap, sym, subst, ◌∙◌, arith}
use Rattle.std.proofs.lemmas.Bool.{both_ways}
use Rattle.std.proofs.lemmas.Int.{ints, by_lt_z}
use Rattle.solid_model.specs.declared.runs.Run.{Run}
use Rattle.solid_model.specs.declared.segment.Style.{Style}
use Rattle.solid_model.specs.declared.segment.Style.TheVariants.{Blank}
use Rattle.solid_model.specs.Drawings.{same_style}
use Rattle.lemmas.specs.Lists.{Member, Each, Ascends}
use Rattle.solid_model.specs.Runs.{StandsApart}
use Rattle.solid_model.proofs.InGrid.{blank_or_drawn}
use Rattle.lemmas.proofs.Lists.{each-weaker}
use Rattle.solid_model.proofs.Sheets.{same_style-itself, same_style-one}

-- what holds of a place, and from the next one on, holds from it on
from_next : (P : ℤ → Type 0) (w : ℤ) → P w → ((y : ℤ) → (w +ℤ pos 1) ≤ℤ y → P y) → (y : ℤ) → w ≤ℤ y → P y
from_next P w here later y l = by_lt_z w y (λ above. later y (omega (arith, ints))) (λ h. let same : w ≡ y = omega (arith, ints) in subst P same here)

-- the line j, and what is drawn at each of its places
module _ (j : ℤ) (drawn : ℤ → Style) where
  -- the run shows what is drawn from its beginning to its end, on this line and not before the place z
  pub record IsLineRun (z : ℤ) (r : Run) : Type 0 where
    pub on : r.at ≡ j
    pub from : z ≤ℤ r.from
    pub long : r.from <ℤ r.to
    pub shown : r.style ≢ Blank
    pub inside : (y : ℤ) → r.from ≤ℤ y → y <ℤ r.to → drawn y ≡ r.style

  -- it is the first from z on, and ends where its style does
  pub record IsFirstRun (z : ℤ) (r : Run) : Type 0 where
    pub run : IsLineRun z r
    pub before : (y : ℤ) → z ≤ℤ y → y <ℤ r.from → drawn y ≡ Blank
    pub after : drawn r.to ≢ r.style

  -- the runs of the line from z on
  abbrev pub AreFrom : ℤ → List Run → Type 0
  AreFrom z [] = (y : ℤ) → z ≤ℤ y → drawn y ≡ Blank
  AreFrom z (r ∷ rs) = IsFirstRun z r × AreFrom r.to rs

  -- ---- one place more in front

  -- what lies past a place lies past an earlier one
  from_sooner : (z w : ℤ) (r : Run) → z ≤ℤ w → IsLineRun w r → IsLineRun z r
  from_sooner z w r l run =
      let from = run.from in
      record { on = run.on; from = omega (arith, ints); long = run.long; shown = run.shown; inside = run.inside }

  -- a blank one asks for no run
  with_blank : (w : ℤ) (rs : List Run) → drawn w ≡ Blank → AreFrom (w +ℤ pos 1) rs → AreFrom w rs
  with_blank w [] blank none = from_next (λ y. drawn y ≡ Blank) w blank none
  with_blank w (r ∷ rs) blank (first, rest) = (
    record {
      run = from_sooner w (w +ℤ pos 1) r (omega (arith, ints)) first.run;
      before = from_next (λ y. y <ℤ r.from → drawn y ≡ Blank) w (λ l. blank) first.before;
      after = first.after;
    },
    rest,
  )

  -- one whose style ends there is a run of its own
  with_unit : (w : ℤ) (rs : List Run) → drawn w ≢ Blank → drawn (w +ℤ pos 1) ≢ drawn w → AreFrom (w +ℤ pos 1) rs
      → AreFrom w (record { at = j; from = w; to = w +ℤ pos 1; style = drawn w } ∷ rs)
  with_unit w rs shown differ rest = (
    record {
      run = record {
        on = refl;
        from = omega (arith, ints);
        long = omega (arith, ints);
        shown = shown;
        inside = λ y l m. let same : y ≡ w = omega (arith, ints) in ap drawn same;
      };
      before = λ y l m. absurd (omega (arith, ints));
      after = differ;
    },
    rest,
  )

  -- else the first run begins there, one place sooner
  with_longer : (w : ℤ) (rs : List Run) → drawn w ≢ Blank → drawn (w +ℤ pos 1) ≡ drawn w → AreFrom (w +ℤ pos 1) rs
      → (longer : List Run) × AreFrom w longer
  with_longer w [] shown goes_on none = absurd (shown (sym goes_on ∙ none (w +ℤ pos 1) (omega (arith, ints))))
  with_longer w (r ∷ rs) shown goes_on (first, rest) =
      let run = first.run in
      let begins : r.from ≤ℤ (w +ℤ pos 1) = by_lt_z (w +ℤ pos 1) r.from
      (λ later. absurd (shown (sym goes_on ∙ first.before (w +ℤ pos 1) (omega (arith, ints)) later))) (λ h. h) in
      let from = run.from in
      let long = run.long in (
        record r { from = w } ∷ rs,
        (
          record {
            run = record {
              on = run.on;
              from = omega (arith, ints);
              long = omega (arith, ints);
              shown = run.shown;
              inside = from_next (λ y. y <ℤ r.to → drawn y ≡ r.style) w
                  (λ l. sym goes_on ∙ run.inside (w +ℤ pos 1) begins (omega (arith, ints)))
                  (λ y l. run.inside y (omega (arith, ints)));
            };
            before = λ y l m. absurd (omega (arith, ints));
            after = first.after;
          },
          rest,
        ),
      )

  -- so a place has runs before those that follow it
  with_place : (w : ℤ) (rs : List Run) → AreFrom (w +ℤ pos 1) rs → (more : List Run) × AreFrom w more
  with_place w rs are = ⊎_elim (λ blank. (rs, with_blank w rs blank are))
      (λ shown. by shown (same_style (drawn (w +ℤ pos 1)) (drawn w)) refl) (blank_or_drawn (drawn w))
    where
      by : drawn w ≢ Blank → (same : Bool) → same_style (drawn (w +ℤ pos 1)) (drawn w) ≡ same → (more : List Run) × AreFrom w more
      by shown true e = with_longer w rs shown (same_style-one _ _ e) are
      by shown false e = (
        record { at = j; from = w; to = w +ℤ pos 1; style = drawn w } ∷ rs,
        with_unit w rs shown (λ same. both_ways _ e (ap (λ s. same_style s (drawn w)) same ∙ same_style-itself (drawn w))) are,
      )

  -- a line that is blank n places from z on has runs from z on
  pub some_line_runs : (n : ℕ) (z : ℤ) → ((y : ℤ) → (z +ℤ pos n) ≤ℤ y → drawn y ≡ Blank) → (rs : List Run) × AreFrom z rs
  some_line_runs zero z blank = ([], λ y l. blank y (omega (arith, ints)))
  some_line_runs (suc n) z blank =
      let rest = some_line_runs n (z +ℤ pos 1) (λ y l. blank y (omega (arith, ints))) in
      with_place z rest.0 rest.1

  -- ---- what they are

  -- each shows what is drawn
  pub each_line_run : (z : ℤ) (rs : List Run) → AreFrom z rs → Each (IsLineRun z) rs
  each_line_run z [] none = tt
  each_line_run z (r ∷ rs) (first, rest) =
      let from = first.run.from in let long = first.run.long in
      (first.run, each-weaker (IsLineRun r.to) (IsLineRun z) rs (λ b. from_sooner z r.to b (omega (arith, ints))) (each_line_run r.to rs rest))

  -- the first stands apart from each that follows
  first_apart : (z : ℤ) (a b : Run) → IsFirstRun z a → IsLineRun a.to b → StandsApart a b
  first_apart z a b first run = inr (
    first.run.on ∙ sym run.on,
    by_lt_z a.to b.from inl (λ reaches.
        let from = run.from in
        let meets : a.to ≡ b.from = omega (arith, ints) in
        inr (meets, λ same. first.after (run.inside a.to (omega (arith, ints)) (let long = run.long in omega (arith, ints)) ∙ sym same))),
  )

  -- they stand apart
  pub line_runs_apart : (z : ℤ) (rs : List Run) → AreFrom z rs → Ascends StandsApart rs
  line_runs_apart z [] none = tt
  line_runs_apart z (r ∷ rs) (first, rest) =
      (each-weaker (IsLineRun r.to) (StandsApart r) rs (λ b. first_apart z r b first) (each_line_run r.to rs rest), line_runs_apart r.to rs rest)

  -- from z on each place that is drawn is on one of them
  pub on_line_run : (z : ℤ) (rs : List Run) → AreFrom z rs → (y : ℤ) → z ≤ℤ y → drawn y ≢ Blank
      → (r : Run) × Member rs r × (r.from ≤ℤ y) × (y <ℤ r.to)
  on_line_run z [] none y l shown = absurd (shown (none y l))
  on_line_run z (r ∷ rs) (first, rest) y l shown = by_lt_z y r.from (λ sooner. absurd (shown (first.before y l sooner)))
      (λ from. by_lt_z y r.to (λ to. (r, inl refl, from, to))
      (λ past. let m = on_line_run r.to rs rest y past shown in (m.0, inr m.1, m.2, m.3)))
