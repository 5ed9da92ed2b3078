-- What a desk has found are solutions, none of them twice, and only grows.
use Rattle.std.proofs.Common.{◌≡◌, ◌≢◌, Bool, ◌≤◌, List, [], ◌-◌, ◌++◌, length, take, sym, ◌∙◌, ap, subst, arith}
use Rattle.solid_model.specs.Blocks.{IsBlocksOf}
use Rattle.solid_model.specs.Forcing.{is_live}
use Rattle.lemmas.specs.Lists.{Member, Each, Ascends}
use Rattle.solid_model.specs.Reports.{Report}
use Rattle.solid_model.specs.Solutions.{IsSolutionOf}
use Rattle.solid_model.specs.Tree.{live_below}
use Rattle.lemmas.proofs.Lists.{each-from, each-at}
use Rattle.column_laws.proofs.LiveTree.{problem_tree}
use Rattle.search_core.specs.Conserves.{IsConserved}
use Rattle.search_core.specs.Desk.{DeskParts, IsDesk, IsTaken, desk_state}
use Rattle.search_core.proofs.Desks.{desk_conserved}
use Rattle.search_end.proofs.AnswerLists.{take_behind}
use Rattle.search_end.proofs.DeskAnswers.{solution_of}

module _ (d : DeskParts) (desk : IsDesk d) (blocks : IsBlocksOf d.problem.grid d.problem.blocks) where
  kept : IsConserved (is_live d.problem) d.problem.blocks.count d.limits (desk_state d.problem d.limits d.history)
  kept = desk_conserved d desk (problem_tree d.problem blocks).closed

  -- what is found are solutions
  pub found_solutions : Each (IsSolutionOf d.problem) d.found
  found_solutions = subst (Each (IsSolutionOf d.problem)) (sym desk.found)
      (each-from (IsSolutionOf d.problem) _ (λ x k. solution_of d.problem blocks x (each-at (Member (live_below (is_live d.problem) d.problem.blocks.count [])) _ x kept.listed k)))

  -- none stands twice
  pub found_once : Ascends ◌≢◌ d.found
  found_once = subst (Ascends ◌≢◌) (sym desk.found) kept.once

  -- and they are within the limit
  pub found_few : length d.found ≤ d.limits.solids
  found_few = omega (arith, ap length desk.found, kept.few)

  -- a report leaves them, and more may follow
  pub found_grows : (after : DeskParts) (r : Report) → IsTaken d r after → (more : List (List Bool)) × (after.found ≡ d.found ++ more)
  found_grows after r taken =
      (take (d.limits.solids - length d.found) r.found, taken.found ∙ sym (take_behind d.limits.solids d.found r.found found_few))
