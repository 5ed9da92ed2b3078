-- Where no line is broken all are met, and the solid matches.
use Rattle.std.proofs.Common.{List, is_some, sym, refl, ap, subst, ◌∙◌}
use Rattle.std.proofs.lemmas.Bool.{false≢true}
use Rattle.solid_model.specs.Decisions.{decided_by, AreOnAll, PartialParts}
use Rattle.solid_model.specs.Blocks.{IsBlocksOf}
use Rattle.solid_model.specs.Demands.{AllMet}
use Rattle.line_demands.specs.declared.lines.Beside.{Beside}
use Rattle.line_demands.specs.WholeChoices.{AreDrawnOf}
use Rattle.line_demands.proofs.KeptState.{sides_inside}
use Rattle.line_demands.proofs.WholeBytes.{met_draw, none_there}
use Rattle.line_demands.proofs.WholeChoices.{whole_matches}
use Rattle.line_demands.proofs.partial.Partial.whole_fits.Goals as goal

pub are_drawn_by-requires-clause-columns : goal.are_drawn_by-requires-clause-columns
are_drawn_by-requires-clause-columns c =
    let self = c.self.inside in
    rw (c.as_slice.ensures.value, c.as_slice-2.ensures.value)
    (sides_inside self.problem.now c.self.invariant.4 self.spans.items self.touched.items self.sides.items self.decisions.items self.columns.items self.columns.items
    self.met.items self.heights.items self.broken.items _ _ _ c.self.invariant.0 refl)

pub are_drawn_by-requires-clause-lines : goal.are_drawn_by-requires-clause-lines
are_drawn_by-requires-clause-lines c = rw c.as_slice-2.ensures.value c.self.invariant.3

pub invariant_of-self : goal.invariant_of-self
invariant_of-self c = (
  c.self.invariant.0,
  c.self.invariant.1,
  c.self.invariant.2,
  subst (λ (ss : List Beside). AreDrawnOf ss c.are_drawn_by.new.self) c.as_slice-2.ensures.value c.are_drawn_by.ensures.lines,
  c.self.invariant.4,
)

pub returns-then-is_some-clause-matches : goal.returns-then-is_some-clause-matches
returns-then-is_some-clause-matches c = λ drawing is grid choice decided.
    let v = c.args.self.now in
    let blocks = subst (λ (u : PartialParts). IsBlocksOf u.problem.grid u.problem.blocks) c.self.view_is c.self.invariant.4 in
    let matches = whole_matches drawing is v.problem grid blocks (decided_by v.decisions) choice decided.whole decided.each in (
      λ no. absurd (false≢true no),
      λ fits. absurd (false≢true (sym (ap is_some (c.broken_line.ensures.none.1 (matches.1 fits))) ∙ sym c.is_some.ensures ∙ c.if-is_some.true)),
    )

pub returns-clause-met : goal.returns-clause-met
returns-clause-met c =
    let self = c.self.inside in
    let all = subst (λ (u : PartialParts). AreOnAll u.problem.blocks.count u.decisions) (sym c.self.view_is) c.requires in (
      λ draws. c.broken_line.ensures.none.0 (none_there c.broken_line.result (sym c.is_some.ensures ∙ c.if-is_some.false)),
      λ met. c.are_drawn_by.ensures.drawn.1 (rw (c.as_slice.ensures.value, c.as_slice-2.ensures.value)
          (met_draw self.problem.now c.self.invariant.4 self.spans.items self.touched.items self.sides.items self.decisions.items self.columns.items
          self.met.items self.heights.items self.broken.items _ _ _ c.self.invariant.0 all self.drawn.numbers.items c.self.invariant.3.lines_are.there
          (subst (λ (u : PartialParts). AllMet u.problem (decided_by u.decisions)) (sym c.self.view_is) met))),
    )

pub returns-clause-matches : goal.returns-clause-matches
returns-clause-matches c = λ drawing is grid choice decided.
    let v = c.args.self.now in
    let blocks = subst (λ (u : PartialParts). IsBlocksOf u.problem.grid u.problem.blocks) c.self.view_is c.self.invariant.4 in
    let matches = whole_matches drawing is v.problem grid blocks (decided_by v.decisions) choice decided.whole decided.each in
    let met = returns-clause-met c in
    ((λ draws. matches.0 (met.0 draws)), (λ fits. met.1 (matches.1 fits)))
