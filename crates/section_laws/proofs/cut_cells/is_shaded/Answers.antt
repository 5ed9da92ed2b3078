-- The first that is chosen, or none.
use Rattle.std.proofs.Common.{◌≡◌, ◌≤◌, inl, inr, true, false, ℕ, slice_index_or, if◌then◌else◌, refl, ap, sym, subst, ◌∙◌, arith}
use Rattle.std.proofs.lemmas.Bool.{false≢true, both_ways, cases_lt}
use Rattle.solid_model.specs.Grid.{GridCell}
use Rattle.solid_model.specs.GridPlaces.{place_in}
use Rattle.solid_model.specs.PerAxis.{numbers_of, numbered}
use Rattle.solid_model.proofs.GridPlaces.{few_more}
use Rattle.section_laws.specs.Shaded.{IsNoFarther}
use Rattle.section_laws.proofs.ChosenPlaces.{between_ends, ends_between, few_end, itself, none_less, below_end, reached, few_below}
use Rattle.section_laws.proofs.cut_cells.is_shaded.Goals as goal

pub is_chosen-requires-clause-cell : goal.is_chosen-requires-clause-cell
is_chosen-requires-clause-cell c =
    let own = subst (λ n. n ≤ 64) (sym c.along-own.ensures) (c.requires.cell c.args.away.axis) in
    let last = subst (λ n. n ≤ 64) (sym c.greatest_end-last.ensures) (few_end c.args.away.forward c.along-own.result c.args.first 64 own c.requires.first) in
    few_more 64 c.args.away.axis c.loop-number.number (numbers_of c.args.cell) (numbers_of c.numbered.result) c.numbered.ensures
    (few_below c.greatest_end-last.result c.loop-number.number 64 (omega arith) last) c.requires.cell

pub loop-number-init : goal.loop-number-init
loop-number-init c =
    let x : ℕ = if c.args.away.forward then c.args.first else c.along-own.result in (
      subst (λ n. x ≤ n) (sym c.least_end-number.ensures) (itself x),
      λ m low less e. none_less x c.least_end-number.result m c.least_end-number.ensures low less,
    )

pub returns-then-is_chosen : goal.returns-then-is_chosen
returns-then-is_chosen c =
    let p = between_ends c.args.away.forward c.args.first c.along-own.result c.loop-number.number c.loop-number.invariant.0
    (below_end (if c.args.away.forward then c.along-own.result else c.args.first) c.greatest_end-last.result c.loop-number.number c.greatest_end-last.ensures (omega arith)) in
    let at = ap (λ (n : GridCell). slice_index_or c.args.cells.now (place_in (numbers_of c.args.sizes) n) false) (sym c.numbered.ensures) ∙ sym c.is_chosen.ensures ∙ c.if-is_chosen.true in
    ((λ _. (c.loop-number.number, p.0, subst (IsNoFarther c.args.away.forward c.loop-number.number) c.along-own.ensures p.1, at)), (λ _. refl))

pub loop-number-preserved : goal.loop-number-preserved
loop-number-preserved c =
    let none = ap (λ (n : GridCell). slice_index_or c.args.cells.now (place_in (numbers_of c.args.sizes) n) false) (sym c.numbered.ensures) ∙ sym c.is_chosen.ensures ∙ c.if-is_chosen.false in
    let low = c.loop-number.invariant.0 in (
      omega arith,
      λ m from less e. elim (cases_lt m c.loop-number.number) as (λ _. ⊥) [
        | inl earlier ↦ c.loop-number.invariant.1 m from earlier e
        | inr here ↦ (let same : c.loop-number.number ≡ m = omega arith in both_ways _ none
            (subst (λ k. slice_index_or c.args.cells.now (place_in (numbers_of c.args.sizes) (numbered c.args.away.axis k (numbers_of c.args.cell))) false ≡ true) (sym same) e))
      ],
    )

pub returns : goal.returns
returns c = (
  (λ e. absurd (false≢true e)),
  (λ h.
      let ends = ends_between c.args.away.forward c.args.first c.along-own.result h.0 h.1 (subst (IsNoFarther c.args.away.forward h.0) (sym c.along-own.ensures) h.2) in
      absurd (c.loop-number.invariant.1 h.0 ends.0
      (reached (if c.args.away.forward then c.along-own.result else c.args.first) c.greatest_end-last.result h.0 c.loop-number.number c.greatest_end-last.ensures (omega arith) ends.1) h.3)),
)
