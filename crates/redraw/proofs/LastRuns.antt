-- A run behind others, and what runs show.
use Rattle.std.proofs.Common.{◌≡◌, ◌≢◌, inl, inr, ⊎_elim, true, false, if◌then◌else◌, List, [], ◌∷◌, ◌++◌, ℤ, ◌≤ℤ◌, ◌<ℤ◌, sym, ap, subst, ◌∙◌, arith}
use Rattle.std.proofs.lemmas.Bool.{false_from_ne_true}
use Rattle.std.proofs.lemmas.Int.{ints}
use Rattle.solid_model.specs.declared.runs.Run.{Run}
use Rattle.solid_model.specs.declared.segment.Style.TheVariants.{Blank}
use Rattle.lemmas.specs.Lists.{Member, Each}
use Rattle.solid_model.specs.Runs.{run_covers, run_style, IsRun, StandsApart, AreRuns}
use Rattle.solid_model.proofs.InGrid.{blank_or_drawn}
use Rattle.lemmas.proofs.Lists.{each-at, each-push, ascends-push, member-push_last}
use Rattle.solid_model.proofs.RunStyles.{covers_parts, covers_from, covering_run, run_stretch}
use Rattle.solid_model.proofs.Sheets.{same_style-one}

-- ---- what runs show

-- what a run covers has its style
pub run_style-covered : (rs : List Run) → AreRuns rs → (r : Run) → Member rs r → (j z : ℤ) → run_covers j z r ≡ true → run_style rs j z ≡ r.style
run_style-covered rs runs r k j z e =
    let p = covers_parts j z r e in
    subst (λ i. run_style rs i z ≡ r.style) p.0 (sym (same_style-one r.style _ ((run_stretch rs runs r k).inside z p.1 p.2)))

-- a run is drawn from its beginning
pub run_style-drawn : (rs : List Run) → AreRuns rs → (r : Run) → Member rs r → (z : ℤ) → r.from ≤ℤ z → z <ℤ r.to → run_style rs r.at z ≢ Blank
run_style-drawn rs runs r k z from to blank =
    (each-at IsRun rs r runs.0 k).1 (sym (run_style-covered rs runs r k r.at z (covers_from r z from to)) ∙ blank)

-- what no run covers is blank
pub run_style-uncovered : (rs : List Run) (j z : ℤ) → ((r : Run) → Member rs r → r.at ≡ j → r.from ≤ℤ z → z <ℤ r.to → ⊥) → run_style rs j z ≡ Blank
run_style-uncovered rs j z none = ⊎_elim (λ e. e)
    (λ drawn. let m = covering_run rs j z drawn in let p = covers_parts j z m.0 m.2 in absurd (none m.0 m.1 p.0 p.1 p.2))
    (blank_or_drawn (run_style rs j z))

-- past all runs of a line it is blank
pub blank_past : (rs : List Run) (p : Run) → Each (λ x. StandsApart x p) rs → (z : ℤ) → p.from ≤ℤ z → run_style rs p.at z ≡ Blank
blank_past rs p apart z past = run_style-uncovered rs p.at z (λ r k on from to.
    ⊎_elim {C = ⊥} (λ earlier. omega (arith, ints))
    (λ same. ⊎_elim {C = ⊥} (λ before. omega (arith, ints)) (λ meets. omega (arith, ints, meets.0)) same.1) (each-at (λ x. StandsApart x p) rs r apart k))

-- ---- one more run

-- runs and one behind them
pub runs_push : (rs : List Run) (r : Run) → AreRuns rs → IsRun r → Each (λ x. StandsApart x r) rs → AreRuns (rs ++ r ∷ [])
runs_push rs r runs is apart = (each-push IsRun rs r runs.0 is, ascends-push StandsApart rs r runs.1 apart)

-- where it covers nothing nothing changes
uncovered_push : (rs : List Run) (r : Run) (j z : ℤ) → run_covers j z r ≡ false → run_style (rs ++ r ∷ []) j z ≡ run_style rs j z
uncovered_push [] r j z e = ap (λ c. if c then r.style else Blank) e
uncovered_push (x ∷ rs) r j z e = ap (λ s. if run_covers j z x then x.style else s) (uncovered_push rs r j z e)

-- on another line, before its beginning and from its end on nothing changes
pub push-elsewhere : (rs : List Run) (r : Run) (j z : ℤ) → (r.at ≡ j → r.from ≤ℤ z → z <ℤ r.to → ⊥) → run_style (rs ++ r ∷ []) j z ≡ run_style rs j z
push-elsewhere rs r j z none = uncovered_push rs r j z (false_from_ne_true (run_covers j z r) (λ t. let p = covers_parts j z r t in none p.0 p.1 p.2))

-- and what it covers has its style
pub push-covered : (rs : List Run) (r : Run) → AreRuns (rs ++ r ∷ []) → (z : ℤ) → r.from ≤ℤ z → z <ℤ r.to → run_style (rs ++ r ∷ []) r.at z ≡ r.style
push-covered rs r runs z from to = run_style-covered (rs ++ r ∷ []) runs r (member-push_last rs r) r.at z (covers_from r z from to)

-- what stands apart before a run stands apart before one that begins later on its line
pub apart_later : (x p q : Run) → p.at ≡ q.at → p.from <ℤ q.from → StandsApart x p → StandsApart x q
apart_later x p q on later (inl earlier) = inl (omega (arith, ints))
apart_later x p q on later (inr (same, inl before)) = inr (same ∙ on, inl (omega (arith, ints)))
apart_later x p q on later (inr (same, inr (meets, differ))) = inr (same ∙ on, inl (omega (arith, ints)))
