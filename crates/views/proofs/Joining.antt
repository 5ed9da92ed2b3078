-- Runs with one more piece at their end.
use Rattle.std.proofs.Common.{◌≡◌, ◌≢◌, inl, inr, Bool, true, false, ◌&&◌, ◌||◌, if◌then◌else◌, List, [], ◌∷◌, ◌++◌, ℤ, ◌≤ℤ◌, ◌<ℤ◌, int_lt, int_le, int_eq, refl, sym, ap, ap₂, ◌∙◌, arith}
use Rattle.std.proofs.lemmas.Bool.{and_parts, and_from, both_ways, false_from_ne_true}
use Rattle.std.proofs.lemmas.Bool.Decides.{Decides-int_eq}
use Rattle.std.proofs.lemmas.Int.{ints, by_lt_z}
use Rattle.solid_model.specs.declared.runs.Run.{Run}
use Rattle.solid_model.specs.declared.segment.Style.{Style}
use Rattle.solid_model.specs.declared.segment.Style.TheVariants.{Blank}
use Rattle.solid_model.specs.Drawings.{same_style}
use Rattle.lemmas.specs.Lists.{Each}
use Rattle.solid_model.specs.Runs.{run_covers, run_style, IsRun, StandsApart, AreRuns}
use Rattle.lemmas.proofs.Lists.{each-weaker, each-append_left, each-append_right, each-push, ascends-append_left, ascends-append_across, ascends-push}
use Rattle.solid_model.proofs.RunStyles.{apart-covers}
use Rattle.solid_model.proofs.Sheets.{same_style-itself, same_style-one}
use Rattle.views.specs.declared.strokes.Stroke.{Stroke}
use Rattle.views.specs.Joined.{EndsBy, EndBy, run_of, goes_on, as_far_as, AreWith}
use Rattle.views.specs.Strokes.{stroke_covers, stronger}
use Rattle.views.proofs.Together.{stronger_assoc, stronger-blank, drawn_if, stroke_style-one, and-or, drawn_if-or}

-- ---- a run behind others

-- a run that stands apart from those before it draws beside them
run_style-push : (rs : List Run) (r : Run) (j z : ℤ) → Each (λ x. StandsApart x r) rs
    → run_style (rs ++ r ∷ []) j z ≡ stronger (run_style rs j z) (drawn_if (run_covers j z r) r.style)
run_style-push [] r j z apart = refl
run_style-push (x ∷ rs) r j z apart = by (run_covers j z x) refl (run_style-push rs r j z apart.1)
  where
    by : (c : Bool) → run_covers j z x ≡ c
        → run_style (rs ++ r ∷ []) j z ≡ stronger (run_style rs j z) (drawn_if (run_covers j z r) r.style)
        → (if c then x.style else run_style (rs ++ r ∷ []) j z)
        ≡ stronger (if c then x.style else run_style rs j z) (drawn_if (run_covers j z r) r.style)
    by true e rest =
        sym (ap (λ c. stronger x.style (drawn_if c r.style)) (false_from_ne_true (run_covers j z r) (apart-covers x r j z apart.0 e))
        ∙ stronger-blank x.style)
    by false e rest = rest

-- what stands apart before a run stands apart before a piece that begins where the run ends, or later
apart_past : (a b : Run) (p : Stroke) → StandsApart a b → IsRun b → EndsBy p.at p.from b → StandsApart a (run_of p)
apart_past a b p (inl earlier) run (inl later) = inl (omega (arith, ints))
apart_past a b p (inl earlier) run (inr (same, past)) = inl (omega (arith, ints))
apart_past a b p (inr (same, before)) run (inl later) = inl (omega (arith, ints))
apart_past a b p (inr (same, inl before)) run (inr (on, past)) = inr (same ∙ on, inl (omega (arith, ints, run.0)))
apart_past a b p (inr (same, inr (meets, differ))) run (inr (on, past)) = inr (same ∙ on, inl (omega (arith, ints, run.0)))

-- one style passes the test
same_style-true : (a b : Style) → a ≡ b → same_style a b ≡ true
same_style-true a b e = ap (same_style a) (sym e) ∙ same_style-itself a

-- a piece that doesn't go on with the run before it stands apart from it
apart_unless : (r : Run) (p : Stroke) → EndsBy p.at p.from r → goes_on r p ≡ false → StandsApart r (run_of p)
apart_unless r p (inl earlier) e = inl earlier
apart_unless r p (inr (on, past)) e = inr (
  on,
  by_lt_z r.to p.from inl (λ reaches.
      let meets : r.to ≡ p.from = omega (arith, ints) in
      inr (
        meets,
        λ same. both_ways (goes_on r p) e
            (and_from (int_eq r.at p.at) _ ((Decides-int_eq r.at p.at).1 on)
            (and_from (int_eq r.to p.from) (same_style r.style p.style) ((Decides-int_eq r.to p.from).1 meets) (same_style-true r.style p.style same))),
      )),
)

-- ---- a piece of no length, and the first

-- a piece of no length covers nothing
covers_none : (p : Stroke) (j z : ℤ) → p.to ≤ℤ p.from → stroke_covers j z p ≡ false
covers_none p j z none = false_from_ne_true (stroke_covers j z p) (λ t.
    let s = and_parts (int_le p.from z) (int_lt z p.to) (and_parts (int_eq p.at j) _ t).1 in omega (arith, ints, s.0, s.1))

-- a piece of no length changes nothing
pub with_none : (rs : List Run) (p : Stroke) → AreRuns rs → p.to ≤ℤ p.from → AreWith p rs rs
with_none rs p runs none = record {
  are_runs = runs;
  end_by = λ place before to. before;
  drawn = λ j z. sym (ap (stronger (run_style rs j z)) (stroke_style-one p j z ∙ ap (λ c. drawn_if c p.style) (covers_none p j z none))
      ∙ stronger-blank (run_style rs j z));
}

-- the first piece
pub with_first : (p : Stroke) → p.from <ℤ p.to → p.style ≢ Blank → AreWith p [] (run_of p ∷ [])
with_first p some drawn = record {
  are_runs = (((some, drawn), tt), (tt, tt));
  end_by = λ place before to. (inr (refl, to), tt);
  drawn = λ j z. sym (stroke_style-one p j z);
}

-- ---- a piece that goes on with a run

-- what the test of going on says
record GoesOn (r : Run) (p : Stroke) : Type 0 where
  on : r.at ≡ p.at
  meets : r.to ≡ p.from
  style : r.style ≡ p.style

-- the test says so
goes_on-says : (r : Run) (p : Stroke) → goes_on r p ≡ true → GoesOn r p
goes_on-says r p e =
    let first = and_parts (int_eq r.at p.at) _ e in
    let second = and_parts (int_eq r.to p.from) (same_style r.style p.style) first.1 in
    record { on = (Decides-int_eq r.at p.at).0 first.0; meets = (Decides-int_eq r.to p.from).0 second.0; style = same_style-one r.style p.style second.1 }

-- a run and the piece that goes on with it cover what both cover together
covers_on : (a b c z : ℤ) → a ≤ℤ b → b ≤ℤ c → (int_le a z && int_lt z c) ≡ ((int_le a z && int_lt z b) || (int_le b z && int_lt z c))
covers_on a b c z h k = grind (arith, ints)

-- the longer run draws what the run and the piece draw
joined_draws : (r : Run) (p : Stroke) (j z : ℤ) → r.from ≤ℤ r.to → p.from ≤ℤ p.to → GoesOn r p
    → drawn_if (run_covers j z (as_far_as r p)) r.style ≡ stronger (drawn_if (run_covers j z r) r.style) (drawn_if (stroke_covers j z p) p.style)
joined_draws r p j z some more says =
    let all = covers_on r.from r.to p.to z some (omega (arith, ints, says.meets)) in
    let piece : stroke_covers j z p ≡ (int_eq r.at j && (int_le r.to z && int_lt z p.to)) =
    sym (ap₂ (λ at from. int_eq at j && (int_le from z && int_lt z p.to)) says.on says.meets) in
    ap (λ c. drawn_if (int_eq r.at j && c) r.style) all
    ∙ ap (λ c. drawn_if c r.style) (and-or (int_eq r.at j) (int_le r.from z && int_lt z r.to) (int_le r.to z && int_lt z p.to))
    ∙ drawn_if-or (run_covers j z r) (int_eq r.at j && (int_le r.to z && int_lt z p.to)) r.style
    ∙ ap₂ (λ c s. stronger (drawn_if (run_covers j z r) r.style) (drawn_if c s)) (sym piece) says.style

-- ---- a piece behind the runs

module _ (front : List Run) (last : Run) (p : Stroke) (runs : AreRuns (front ++ last ∷ [])) (some : p.from <ℤ p.to) where
  -- the last run is one
  last_run : IsRun last
  last_run = (each-append_right IsRun front (last ∷ []) runs.0).0

  -- the others stand apart before it
  front_apart : Each (λ r. Each (StandsApart r) (last ∷ [])) front
  front_apart = ascends-append_across StandsApart front (last ∷ []) runs.1

  -- what the runs draw is what the last one draws beside the others
  last_beside : (j z : ℤ) → run_style (front ++ last ∷ []) j z ≡ stronger (run_style front j z) (drawn_if (run_covers j z last) last.style)
  last_beside j z = run_style-push front last j z
      (each-weaker (λ x. Each (StandsApart x) (last ∷ [])) (λ r. StandsApart r last) front (λ x k. k.0) front_apart)

  -- a piece that doesn't go on with the last run stands apart from all
  all_apart : EndBy p.at p.from (front ++ last ∷ []) → goes_on last p ≡ false → Each (λ r. StandsApart r (run_of p)) (front ++ last ∷ [])
  all_apart ends apart =
      let last_ends = (each-append_right (EndsBy p.at p.from) front (last ∷ []) ends).0 in
      each-push (λ r. StandsApart r (run_of p)) front last
      (each-weaker (λ x. Each (StandsApart x) (last ∷ [])) (λ r. StandsApart r (run_of p)) front (λ x k. apart_past x last p k.0 last_run last_ends) front_apart)
      (apart_unless last p last_ends apart)

  -- the last run, as far as the piece goes, stands apart from the others
  longer_apart : Each (λ r. StandsApart r (as_far_as last p)) front
  longer_apart = each-weaker (λ x. Each (StandsApart x) (last ∷ [])) (λ r. StandsApart r (as_far_as last p)) front (λ x k. k.0) front_apart

  -- a piece that stands apart from the last run
  pub with_apart : EndBy p.at p.from (front ++ last ∷ []) → p.style ≢ Blank → goes_on last p ≡ false
      → AreWith p (front ++ last ∷ []) ((front ++ last ∷ []) ++ run_of p ∷ [])
  with_apart ends drawn apart =
      let apart_from_all = all_apart ends apart in
      record {
        are_runs = (
          each-push IsRun (front ++ last ∷ []) (run_of p) runs.0 (some, drawn),
          ascends-push StandsApart (front ++ last ∷ []) (run_of p) runs.1 apart_from_all,
        );
        end_by = λ place before to. each-push (EndsBy p.at place) (front ++ last ∷ []) (run_of p) before (inr (refl, to));
        drawn = λ j z.
            run_style-push (front ++ last ∷ []) (run_of p) j z apart_from_all
            ∙ ap (stronger (run_style (front ++ last ∷ []) j z)) (sym (stroke_style-one p j z));
      }

  -- a piece that goes on with the last run
  pub with_joined : goes_on last p ≡ true → AreWith p (front ++ last ∷ []) (front ++ as_far_as last p ∷ [])
  with_joined joins =
      let says = goes_on-says last p joins in
      let longer : last.from <ℤ p.to = omega (arith, ints, last_run.0, says.meets) in
      record {
        are_runs = (
          each-push IsRun front (as_far_as last p) (each-append_left IsRun front (last ∷ []) runs.0) (longer, last_run.1),
          ascends-push StandsApart front (as_far_as last p) (ascends-append_left StandsApart front (last ∷ []) runs.1) longer_apart,
        );
        end_by = λ place before to. each-push (EndsBy p.at place) front (as_far_as last p)
            (each-append_left (EndsBy p.at place) front (last ∷ []) before) (inr (says.on, to));
        drawn = λ j z.
            run_style-push front (as_far_as last p) j z longer_apart
            ∙ ap (stronger (run_style front j z)) (joined_draws last p j z (omega (arith, ints, last_run.0)) (omega (arith, ints)) says)
            ∙ sym (stronger_assoc (run_style front j z) (drawn_if (run_covers j z last) last.style) (drawn_if (stroke_covers j z p) p.style))
            ∙ ap₂ stronger (sym (last_beside j z)) (sym (stroke_style-one p j z));
      }
