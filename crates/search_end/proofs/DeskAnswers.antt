-- The answer of a desk that has ended, in the words of its problem.
use Rattle.std.proofs.Common.{◌≡◌, ◌≢◌, ◌⊎◌, inl, inr, Bool, ℕ, ◌-◌, ◌≤◌, List, [], ◌++◌, length, take, Some, IsPermutation, sym, ◌∙◌, ap, subst}
use Rattle.std.proofs.lemmas.Bool.{eqb-true}
use Rattle.std.proofs.lemmas.List.Sorted.{length_permutation}
use Rattle.solid_model.specs.declared.ended.EndKind.{EndKind}
use Rattle.solid_model.specs.Blocks.{ProblemParts, IsBlocksOf}
use Rattle.solid_model.specs.Choices.{ChoicePrecedes}
use Rattle.solid_model.specs.Forcing.{is_live}
use Rattle.lemmas.specs.Lists.{Member, Each, Ascends}
use Rattle.solid_model.specs.Panels.{IsGrid}
use Rattle.solid_model.specs.Search.{SearchLimits}
use Rattle.solid_model.specs.SearchEnds.{EndsAs}
use Rattle.solid_model.specs.Solutions.{IsSolutionOf, AreSolutions}
use Rattle.solid_model.specs.Tree.{PrefixTest, live_from, is_whole, live_below, IsClosed}
use Rattle.solid_model.proofs.CompleteTree.{complete_tree}
use Rattle.lemmas.proofs.Lists.{each-at, each-from, member-from_filter}
use Rattle.column_laws.proofs.LivePrefixes.{live_keeps_matching}
use Rattle.column_laws.proofs.LiveTree.{problem_tree}
use Rattle.search_core.specs.Conserves.{EndsRightly, IsConserved}
use Rattle.search_core.specs.Core.{Core}
use Rattle.search_core.specs.Desk.{DeskParts, IsDesk, desk_state}
use Rattle.search_core.proofs.Desks.{desk_conserved}
use Rattle.lemmas.proofs.Permutations.{member-permutation}
use Rattle.search_end.specs.Answers.{new_ones, IsAnswerList}
use Rattle.search_end.proofs.AnswerLists.{take_behind, list_each, list_once, list_few, covers, ends}

-- a live prefix of full length is a solution
pub solution_of : (p : ProblemParts) → IsBlocksOf p.grid p.blocks → (choice : List Bool) → Member (live_below (is_live p) p.blocks.count []) choice → IsSolutionOf p choice
solution_of p blocks choice k =
    let whole = member-from_filter (is_whole p.blocks.count) (live_from (is_live p) p.blocks.count []) choice k in
    let long : length choice ≡ p.blocks.count = eqb-true (length choice) p.blocks.count whole.1 in
    let live = (member-from_filter (is_live p) _ choice whole.0).1 in record {
      whole = long;
      matching = λ drawing is grid. (live_keeps_matching drawing is p grid blocks).ends choice long live;
    }

-- and a solution is one
pub live_solution : (p : ProblemParts) → IsBlocksOf p.grid p.blocks → IsGrid p.grid → (choice : List Bool) → IsSolutionOf p choice
    → Member (live_below (is_live p) p.blocks.count []) choice
live_solution p blocks (drawing, is, grid) choice h =
    (complete_tree _ (is_live p) p.blocks.count (live_keeps_matching drawing is p grid blocks)).complete choice h.whole (h.matching drawing is grid)

module _ (p : ProblemParts) (limits : SearchLimits) (blocks : IsBlocksOf p.grid p.blocks) (grid : IsGrid p.grid)
    (d : DeskParts) (same : d.problem ≡ p) (within : d.limits ≡ limits) (desk : IsDesk d) (list : List (List Bool)) (h : IsAnswerList p limits d.found list) where
  abbrev live : PrefixTest
  live = is_live p

  abbrev n : ℕ
  n = p.blocks.count

  abbrev state : Core
  state = desk_state d.problem d.limits d.history

  closed : IsClosed (is_live d.problem)
  closed = subst (λ q. IsClosed (is_live q)) (sym same) (problem_tree p blocks).closed

  -- what the desk's state keeps, in the problem's words
  kept : IsConserved live n limits state
  kept = subst (λ (l : SearchLimits). IsConserved live n l state) within
      (subst (λ (q : ProblemParts). IsConserved (is_live q) q.blocks.count d.limits state) same (desk_conserved d desk closed))

  each : Each (Member (live_below live n [])) h.handed
  each = each-from (Member (live_below live n [])) h.handed (λ x k. live_solution p blocks grid x (each-at (IsSolutionOf p) h.handed x h.solutions.each k))

  is : list ≡ take limits.solids (h.handed ++ new_ones h.handed state.found)
  is = h.is ∙ ap (λ (f : List (List Bool)). h.handed ++ take (limits.solids - length h.handed) (new_ones h.handed f)) desk.found
      ∙ take_behind limits.solids h.handed (new_ones h.handed state.found) h.few

  listed : Each (Member (live_below live n [])) list
  listed = list_each live n limits state kept h.handed each h.solutions.once list is

  pub answer_once : Ascends ◌≢◌ list
  answer_once = list_once live n limits state kept h.handed each h.solutions.once list is

  pub answer_few : length list ≤ limits.solids
  answer_few = list_few live n limits state kept h.handed each h.solutions.once list is

  pub answer_long : (m : ℕ) × Each (λ choice. length choice ≡ m) list
  answer_long = (
    n,
    each-from (λ choice. length choice ≡ n) list (λ x k.
        eqb-true (length x) n (member-from_filter (is_whole n) (live_from live n []) x (each-at (Member (live_below live n [])) list x listed k)).1),
  )

  pub answer_solutions : AreSolutions p list
  answer_solutions = record {
    each = each-from (IsSolutionOf p) list (λ x k. solution_of p blocks x (each-at (Member (live_below live n [])) list x listed k));
    once = answer_once;
  }

  module _ (sorted : List (List Bool)) (moved : IsPermutation list sorted) where
    pub answer_covers : Each (Member sorted) d.found ⊎ (length sorted ≡ limits.solids)
    answer_covers = at (covers live n limits state kept h.handed each h.solutions.once list is)
      where
        at : Each (Member list) state.found ⊎ (length list ≡ limits.solids) → Each (Member sorted) d.found ⊎ (length sorted ≡ limits.solids)
        at (inl all) = inl (subst (Each (Member sorted)) (sym desk.found) (each-from (Member sorted) state.found (λ x k.
            member-permutation list sorted x moved (each-at (Member list) state.found x all k))))
        at (inr full) = inr (length_permutation list sorted moved ∙ full)

    pub answer_ends : (kind : EndKind) → d.end ≡ Some kind → Ascends ChoicePrecedes sorted → EndsAs live n limits kind d.opened sorted
    answer_ends kind ended ordered = subst (λ (opened : ℕ). EndsAs live n limits kind opened sorted) (sym desk.opened)
        (ends live n limits state kept h.handed each h.solutions.once list is sorted moved ordered kind (subst (EndsRightly live n limits state) (sym desk.end ∙ ended) kept.ends))
