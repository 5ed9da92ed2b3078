-- The runs of all lines of a grid, line by line.
use Rattle.std.proofs.Common.{◌≡◌, ◌≢◌, ◌⊎◌, inl, inr, ⊎_elim, ℕ, ◌+◌, ◌-◌, ◌*◌, ◌<◌, List, [], length, take, drop, ℤ, pos, ◌<ℤ◌, IsTrue, refl, sym, ap, subst, ◌∙◌, arith}
use Rattle.std.proofs.lemmas.Bool.{cases_lt}
use Rattle.std.proofs.lemmas.Int.{ints, by_lt_z}
use Rattle.std.proofs.lemmas.List.{get_or-take, get_or-drop}
use Rattle.solid_model.specs.declared.runs.Run.{Run}
use Rattle.solid_model.specs.declared.segment.Style.{Style}
use Rattle.solid_model.specs.declared.segment.Style.TheVariants.{Blank}
use Rattle.solid_model.specs.Grid.{is_in_gap, IsInSomeGap}
use Rattle.lemmas.specs.Lists.{Member, Each, Ascends}
use Rattle.solid_model.specs.Runs.{run_style, AreRuns}
use Rattle.solid_model.proofs.Gaps.{member, lies_in, earlier_less}
use Rattle.lemmas.proofs.ListPlaces.{member-at}
use Rattle.lemmas.proofs.Lists.{each-from}
use Rattle.redraw.specs.GridRuns.{cell_style, IsWithLine, AreRunsOn}
use Rattle.redraw.proofs.LastRuns.{run_style-uncovered}

-- the styles of the cells of a line, where so many cells stand in each line
abbrev pub line_styles : List Style → ℕ → ℕ → List Style
line_styles styles width line = take width (drop (line * width) styles)

-- a line's own cells are cells of the grid
own_cell : (styles : List Style) (width line cell : ℕ) → cell < width → cell_style (line_styles styles width line) cell ≡ cell_style styles (line * width + cell)
own_cell styles width line cell l = get_or-take width (drop (line * width) styles) cell Blank l ∙ get_or-drop (line * width) styles cell Blank

-- two integers are one or aren't
one_or_two : (x y : ℤ) → (x ≡ y) ⊎ (x ≢ y)
one_or_two x y = by_lt_z x y (λ l. inr (λ e. omega (arith, ints))) (λ l. by_lt_z y x (λ m. inr (λ e. omega (arith, ints))) (λ m. inl (omega (arith, ints))))

-- the runs of the first lines
pub record AreRunsOfFirst (lines ends : List ℤ) (styles : List Style) (n : ℕ) (rs : List Run) : Type 0 where
  pub are_runs : AreRuns rs
  pub on_lines : (r : Run) → Member rs r → (q : ℕ) × (q < n) × (r.at ≡ member lines q)
  pub shown : (line cell : ℕ) (z : ℤ) → line < n → IsTrue (is_in_gap ends cell z) → run_style rs (member lines line) z ≡ cell_style styles (line * (length ends - 1) + cell)
  pub off_ends : (j z : ℤ) → (IsInSomeGap ends z → ⊥) → run_style rs j z ≡ Blank

module _ (lines ends : List ℤ) (styles : List Style) (ascends : Ascends ◌<ℤ◌ lines) where
  pub no_lines : AreRunsOfFirst lines ends styles 0 []
  no_lines = record {
    are_runs = (tt, tt);
    on_lines = λ r k. absurd k;
    shown = λ line cell z l gap. absurd (omega arith);
    off_ends = λ j z none. refl;
  }

  -- all lines
  pub all_lines : (n : ℕ) (rs : List Run) → n ≡ length lines → AreRunsOfFirst lines ends styles n rs → AreRunsOn lines ends styles rs
  all_lines n rs all so_far = record {
    are_runs = so_far.are_runs;
    shown = λ line cell z l. so_far.shown line cell z (omega arith);
    off_lines = λ j z none. run_style-uncovered rs j z (λ r k on from to.
        let at = so_far.on_lines r k in
        none (subst (Member lines) (sym at.2 ∙ on) (member-at lines at.0 (pos 0) (omega (arith, at.1)))));
    off_ends = so_far.off_ends;
  }

  module _ (n : ℕ) (rs : List Run) (within : n < length lines) (so_far : AreRunsOfFirst lines ends styles n rs) where
    -- the runs so far lie on earlier lines
    pub earlier_lines : Each (λ r. r.at <ℤ member lines n) rs
    earlier_lines = each-from (λ r. r.at <ℤ member lines n) rs (λ r k.
        let at = so_far.on_lines r k in
        let l = earlier_less lines ascends at.0 n at.1 within in
        omega (arith, ints, at.2))

    -- one line more
    pub next_line : (after : List Run) → IsWithLine (member lines n) ends (line_styles styles (length ends - 1) n) rs after → AreRunsOfFirst lines ends styles (n + 1) after
    next_line after more = record {
      are_runs = more.are_runs;
      on_lines = λ r k. elim (more.members r k) as (λ _. (q : ℕ) × (q < n + 1) × (r.at ≡ member lines q)) [
        | inl old ↦ (let at = so_far.on_lines r old in (at.0, omega (arith, at.1), at.2))
        | inr new ↦ (n, omega arith, new)
      ];
      shown = λ line cell z l gap. elim (cases_lt line n) as (λ _. run_style after (member lines line) z ≡ cell_style styles (line * (length ends - 1) + cell)) [
        | inl earlier ↦ more.others (member lines line) z (λ same. let m = earlier_less lines ascends line n earlier within in omega (arith, ints)) ∙ so_far.shown line cell z earlier gap
        | inr later ↦ (let e : n ≡ line = omega arith in
            subst (λ p. run_style after (member lines p) z ≡ cell_style styles (p * (length ends - 1) + cell)) e
            (more.shown cell z gap ∙ own_cell styles (length ends - 1) n cell (let lies = (lies_in ends cell z gap).within in omega arith)))
      ];
      off_ends = λ j z none. ⊎_elim
          (λ same. ap (λ i. run_style after i z) same ∙ more.off_ends z none)
          (λ other. more.others j z other ∙ so_far.off_ends j z none)
          (one_or_two j (member lines n));
    }
