-- Of the runs that begin by a place only the last one may cover it.
use Rattle.std.proofs.Common.{◌≡◌, ◌⊎◌, inl, inr, ⊎_elim, true, false, ℕ, suc, ◌-◌, ◌<◌, ◌≤◌, List, length, get_or, take, ℤ, ◌≤ℤ◌, ◌<ℤ◌, sym, ap, subst, ◌∙◌, arith}
use Rattle.std.specs.List.Sorted.{IsPartitionedBy, IsPartitionPoint}
use Rattle.std.proofs.lemmas.Bool.{both_ways, cases_lt}
use Rattle.std.proofs.lemmas.Int.{ints, by_lt_z}
use Rattle.std.proofs.lemmas.List.{get_or_default, get_or-take, length-take-le}
use Rattle.solid_model.specs.declared.runs.Run.{Run}
use Rattle.solid_model.specs.declared.segment.Style.TheVariants.{Blank}
use Rattle.lemmas.specs.Lists.{Member}
use Rattle.solid_model.specs.Runs.{run_covers, run_style, IsRun, StandsApart, AreRuns}
use Rattle.solid_model.proofs.InGrid.{blank_or_drawn}
use Rattle.lemmas.proofs.Lists.{each-at}
use Rattle.lemmas.proofs.ListPlaces.{member-at, member-place, ascends-pairs}
use Rattle.solid_model.proofs.RunStyles.{covers_parts, covering_run}
use Rattle.grid.specs.Positions.{begins_by}
use Rattle.grid.proofs.ShownPositions.{run_style-covered}

-- a run that covers a place begins by then
covers-begins : (j z : ℤ) (r : Run) → run_covers j z r ≡ true → begins_by j z r ≡ true
covers-begins j z r e =
    let p = covers_parts j z r e in
    grind (arith, ints, p.0, p.1)

-- what begins by a place lies on an earlier line, or on this one and begins no later
begins-parts : (j z : ℤ) (r : Run) → begins_by j z r ≡ true → (r.at <ℤ j) ⊎ ((r.at ≡ j) × (r.from ≤ℤ z))
begins-parts j z r e = by_lt_z r.at j inl (λ l. inr (grind (arith, ints), grind (arith, ints)))

-- a run before one that begins by a place begins by then
begins-earlier : (j z : ℤ) (a b : Run) → IsRun a → StandsApart a b → begins_by j z b ≡ true → begins_by j z a ≡ true
begins-earlier j z a b is apart e = grind (arith, ints, is.0, begins-parts j z b e)

-- and doesn't cover the place
earlier-covers : (j z : ℤ) (a b : Run) → StandsApart a b → begins_by j z b ≡ true → run_covers j z a ≡ true → ⊥
earlier-covers j z a b apart e covers =
    let p = covers_parts j z a covers in
    ⊎_elim {C = ⊥} (λ l. ⊎_elim {C = ⊥} (λ m. omega (arith, ints, p.0)) (λ m. omega (arith, ints, p.0, m.0)) (begins-parts j z b e))
    (λ l. ⊎_elim {C = ⊥} (λ m. omega (arith, ints, p.0, l.0))
    (λ m. ⊎_elim {C = ⊥} (λ n. omega (arith, ints, p.2, m.1)) (λ n. omega (arith, ints, p.2, m.1, n.0)) l.1) (begins-parts j z b e)) apart

module _ (rs : List Run) (runs : AreRuns rs) (j z : ℤ) where
  -- runs in order are parted by whether they begin by a place
  pub runs-parted : IsPartitionedBy (begins_by j z) rs
  runs-parted i k d l within begun = ⊎_elim
      (λ earlier. begins-earlier j z (get_or rs i d) (get_or rs k d) (each-at IsRun rs _ runs.0 (member-at rs i d (omega arith)))
      (ascends-pairs StandsApart rs runs.1 i k d earlier within) begun)
      (λ later. let same : i ≡ k = omega arith in subst (λ n. begins_by j z (get_or rs n d) ≡ true) (sym same) begun)
      (cases_lt i k)

  -- a place that no run covers is blank
  run_style-uncovered : ((r : Run) → Member rs r → run_covers j z r ≡ true → ⊥) → run_style rs j z ≡ Blank
  run_style-uncovered none = ⊎_elim (λ blank. blank) (λ drawn. let m = covering_run rs j z drawn in absurd (none m.0 m.1 m.2)) (blank_or_drawn (run_style rs j z))

  module _ (n : ℕ) (parts : IsPartitionPoint (λ r. begins_by j z r ≡ true) (λ r. begins_by j z r ≡ false) rs n) where
    -- a run that covers the place stands before the point, and right before it
    covering_place : (i : ℕ) (d : Run) → i < length rs → n ≤ length rs → run_covers j z (get_or rs i d) ≡ true → suc i ≡ n
    covering_place i d within point covers = ⊎_elim
        (λ before. ⊎_elim (λ earlier. absurd (earlier-covers j z (get_or rs i d) (get_or rs (n - 1) d)
        (ascends-pairs StandsApart rs runs.1 i (n - 1) d (omega arith) (omega arith)) (parts.0 (n - 1) d (omega arith) (omega arith)) covers))
        (λ last. omega arith) (cases_lt (suc i) n))
        (λ beyond. absurd (both_ways (begins_by j z (get_or rs i d)) (parts.1 i d beyond within) (covers-begins j z (get_or rs i d) covers)))
        (cases_lt i n)

    -- so a place that no run covers right before the point is blank
    blank_unless_last : n ≤ length rs → ((d : Run) → 0 < n → run_covers j z (get_or rs (n - 1) d) ≡ true → ⊥) → run_style rs j z ≡ Blank
    blank_unless_last point none = run_style-uncovered (λ r k covers.
        let p = member-place rs r k in
        let at : run_covers j z (get_or rs p.0 r) ≡ true = subst (λ m. run_covers j z m ≡ true) (sym (p.2 r)) covers in
        let last = covering_place p.0 r p.1 point at in
        let place : p.0 ≡ n - 1 = omega (arith, last) in
        none r (omega (arith, last)) (subst (λ i. run_covers j z (get_or rs i r) ≡ true) place at))

    module _ (point : n ≤ length rs) (r : Run) (some : 0 < length (take n rs)) (last : r ≡ get_or (take n rs) (length (take n rs) - 1) r) where
      -- the last run before the point, in the whole list
      last_place : (0 < n) × (r ≡ get_or rs (n - 1) r)
      last_place =
          let long : length (take n rs) ≡ n = length-take-le n rs point in
          let more : 0 < n = omega (arith, long) in
          (more, last ∙ ap (λ m. get_or (take n rs) (m - 1) r) long ∙ get_or-take n rs (n - 1) r (omega (arith, more)))

      -- a place that it covers has its style
      pub style_of_last : run_covers j z r ≡ true → run_style rs j z ≡ r.style
      style_of_last covers = run_style-covered rs runs r (subst (Member rs) (sym last_place.1) (member-at rs (n - 1) r (omega (arith, last_place.0, point)))) j z covers

      -- and one that it doesn't cover is blank
      pub blank_past_last : run_covers j z r ≡ false → run_style rs j z ≡ Blank
      blank_past_last free = blank_unless_last point (λ d more covers.
          both_ways (run_covers j z r) free (ap (run_covers j z) (last_place.1 ∙ get_or_default rs (n - 1) r d (omega (arith, point, more))) ∙ covers))

    -- where no run begins by the place, it is blank
    pub blank_before_first : n ≤ length rs → length (take n rs) ≡ 0 → run_style rs j z ≡ Blank
    blank_before_first point none =
        let long : length (take n rs) ≡ n = length-take-le n rs point in
        blank_unless_last point (λ d more covers. omega (arith, long))
