-- What the end of a search lists.
use Rattle.std.proofs.Common.{◌≢◌, ◌≤◌, Bool, ℕ, List, [], length, sym, subst, arith}
use Rattle.solid_model.specs.declared.ended.EndKind.{EndKind}
use Rattle.solid_model.specs.declared.ended.EndKind.TheVariants.{Whole, CutNodes, CutSolids}
use Rattle.solid_model.specs.Blocks.{ProblemParts, IsBlocksOf}
use Rattle.solid_model.specs.Choices.{ChoicePrecedes}
use Rattle.solid_model.specs.Forcing.{is_live}
use Rattle.solid_model.specs.Search.{SearchLimits}
use Rattle.solid_model.specs.SearchEnds.{AreSomeOf, EndsAs}
use Rattle.solid_model.specs.Solutions.{IsSolutionOf, AreSolutions}
use Rattle.solid_model.specs.Tree.{live_below}
use Rattle.solid_model.proofs.ComparedChoices.{precedes_another}
use Rattle.lemmas.specs.Lists.{Member, Ascends}
use Rattle.lemmas.proofs.Lists.{each-weaker}
use Rattle.lemmas.proofs.WithoutRepeats.{ascends-weaker}
use Rattle.search_end.specs.declared.ending.SearchEnd.{SearchEnd}
use Rattle.search_end.specs.declared.ending.SearchEnd.TheVariants.{Ended, Stopped}
use Rattle.search_end.specs.Stopped.{IsEndOf, end_found, end_solids}
use Rattle.search_end.proofs.DeskAnswers.{solution_of}
use Rattle.search_tree.proofs.SearchEnds.{all_some}
use Rattle.session_run.specs.Session.{AreAmong}

module _ (p : ProblemParts) (blocks : IsBlocksOf p.grid p.blocks) (limits : SearchLimits) where
  -- some of the live choices, as many as the limit at most, however the search has ended
  some_listed : (kind : EndKind) (opened : ℕ) (solids : List (List Bool)) → EndsAs (is_live p) p.blocks.count limits kind opened solids
      → AreSomeOf (is_live p) p.blocks.count solids × (length solids ≤ limits.solids)
  some_listed Whole opened solids (_, few, _, all) = subst (λ xs. AreSomeOf (is_live p) p.blocks.count xs × (length xs ≤ limits.solids)) (sym all) (all_some (is_live p) p.blocks.count, few)
  some_listed CutNodes opened solids (_, _, some, few) = (some, few)
  some_listed CutSolids opened solids (_, _, some, full) = (some, omega (arith, full))

  solutions : (solids : List (List Bool)) → AreSomeOf (is_live p) p.blocks.count solids → AreSolutions p solids
  solutions solids some = record {
    each = each-weaker (Member (live_below (is_live p) p.blocks.count [])) (IsSolutionOf p) solids (solution_of p blocks) some.listed;
    once = ascends-weaker ChoicePrecedes ◌≢◌ solids precedes_another some.ordered;
  }

  pub end_lists : (e : SearchEnd) → IsEndOf p limits e
      → AreSolutions p (end_solids e) × Ascends ChoicePrecedes (end_solids e) × (length (end_solids e) ≤ limits.solids) × AreAmong limits.solids (end_solids e) (end_found e)
  end_lists (Ended ended desk) (ends, answer) =
      let (some, few) = some_listed ended.kind ended.opened ended.solids ends in
      (solutions ended.solids some, some.ordered, few, answer.listed)
  end_lists (Stopped desk solids) h = (h.solutions, h.ordered, h.few, h.listed)
