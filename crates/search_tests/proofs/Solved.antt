-- What a search on one thread finds are solutions of the problem, none twice.
use Rattle.std.proofs.Common.{◌≡◌, ◌≢◌, Bool, ℕ, List, [], length, sym, subst}
use Rattle.std.proofs.lemmas.Bool.{eqb-true}
use Rattle.solid_model.specs.declared.ended.EndKind.{EndKind}
use Rattle.solid_model.specs.declared.ended.EndKind.TheVariants.{Whole, CutNodes, CutSolids}
use Rattle.solid_model.specs.Blocks.{ProblemParts, IsBlocksOf}
use Rattle.solid_model.specs.Choices.{ChoicePrecedes}
use Rattle.solid_model.specs.Forcing.{is_live}
use Rattle.lemmas.specs.Lists.{Member}
use Rattle.solid_model.specs.Search.{SearchLimits}
use Rattle.solid_model.specs.SearchEnds.{AreSomeOf, EndsAs}
use Rattle.solid_model.specs.Solutions.{IsSolutionOf, AreSolutions}
use Rattle.solid_model.specs.Tree.{live_from, live_below, is_whole}
use Rattle.solid_model.proofs.ComparedChoices.{precedes_another}
use Rattle.lemmas.proofs.Lists.{each-weaker, member-from_filter}
use Rattle.lemmas.proofs.WithoutRepeats.{ascends-weaker}
use Rattle.column_laws.proofs.LivePrefixes.{live_keeps_matching}
use Rattle.search_tree.proofs.SearchEnds.{all_some}

module _ (p : ProblemParts) (blocks : IsBlocksOf p.grid p.blocks) where
  abbrev n : ℕ
  n = p.blocks.count

  -- a live prefix of full length is a solution
  solution : (choice : List Bool) → Member (live_below (is_live p) n []) choice → IsSolutionOf p choice
  solution choice k =
      let whole = member-from_filter (is_whole n) (live_from (is_live p) n []) choice k in
      let live = member-from_filter (is_live p) _ choice whole.0 in
      let long : length choice ≡ n = eqb-true (length choice) n whole.1 in
      record { whole = long; matching = λ drawing is grid. (live_keeps_matching drawing is p grid blocks).ends choice long live.1 }

  -- some live prefixes of full length are solutions
  some_solve : (choices : List (List Bool)) → AreSomeOf (is_live p) n choices → AreSolutions p choices
  some_solve choices some = record {
    each = each-weaker (Member (live_below (is_live p) n [])) (IsSolutionOf p) choices solution some.listed;
    once = ascends-weaker ChoicePrecedes ◌≢◌ choices precedes_another some.ordered;
  }

  pub ends_solve : (limits : SearchLimits) (kind : EndKind) (opened : ℕ) (solids : List (List Bool)) → EndsAs (is_live p) n limits kind opened solids → AreSolutions p solids
  ends_solve limits Whole opened solids e = some_solve solids (subst (AreSomeOf (is_live p) n) (sym e.3) (all_some (is_live p) n))
  ends_solve limits CutNodes opened solids e = some_solve solids e.2
  ends_solve limits CutSolids opened solids e = some_solve solids e.2
