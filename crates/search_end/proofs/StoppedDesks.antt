-- What a desk without an end has opened, and what is listed of it.
use Rattle.std.proofs.Common.{◌≡◌, ◌≢◌, Bool, true, ℕ, zero, suc, ◌+◌, ◌-◌, ◌<◌, ◌≤◌, List, [], ◌∷◌, ◌++◌, length, take, map, sum, filter, None, IsTrue, IsPermutation, refl, sym, ◌∙◌, ap, subst, arith}
use Rattle.std.proofs.lemmas.List.{take_all}
use Rattle.std.proofs.lemmas.List.Sums.{sum_by-cons}
use Rattle.std.proofs.lemmas.List.Sorted.{IsPermutation-sym}
use Rattle.solid_model.specs.Blocks.{ProblemParts, IsBlocksOf}
use Rattle.solid_model.specs.Choices.{ChoicePrecedes}
use Rattle.solid_model.specs.Forcing.{is_live}
use Rattle.lemmas.specs.Lists.{Each, Ascends}
use Rattle.solid_model.specs.Search.{SearchLimits}
use Rattle.solid_model.specs.Solutions.{IsSolutionOf, AreSolutions}
use Rattle.solid_model.specs.Tree.{PrefixTest, live_count, extensions}
use Rattle.solid_model.proofs.ComparedChoices.{precedes_another}
use Rattle.lemmas.proofs.Lists.{each-at, each-from}
use Rattle.column_laws.proofs.LiveTree.{problem_tree}
use Rattle.search_core.specs.Conserves.{EndsRightly, LeavesRightly, IsConserved}
use Rattle.search_core.specs.Core.{Core}
use Rattle.search_core.specs.Desk.{DeskParts, IsDesk, desk_state}
use Rattle.search_core.proofs.Desks.{desk_conserved}
use Rattle.lemmas.proofs.Permutations.{member-permutation}
use Rattle.lemmas.proofs.WithoutRepeats.{ascends-weaker}
use Rattle.search_end.specs.Answers.{is_new, new_ones}
use Rattle.search_end.proofs.AnswerLists.{filter_all}
use Rattle.search_end.proofs.DeskFound.{found_few}

-- a live prefix counts itself
counts_itself : (live : PrefixTest) (prefix : List Bool) (more : ℕ) → live prefix ≡ true → 1 ≤ length (filter live (extensions more prefix))
counts_itself live prefix zero e = rw e (omega arith)
counts_itself live prefix (suc more) e = rw e (omega arith)

some_counted : (live : PrefixTest) (n : ℕ) (frontier : List (List Bool)) → Each (λ p. IsTrue (live p)) frontier → frontier ≢ [] → 1 ≤ sum (map (live_count live n) frontier)
some_counted live n [] each none = absurd (none refl)
some_counted live n (p ∷ ps) each none =
    let all : sum (map (live_count live n) (p ∷ ps)) ≡ live_count live n p + sum (map (live_count live n) ps) = sum_by-cons (λ x. x) (live_count live n p) (map (live_count live n) ps) in
    let own : 1 ≤ live_count live n p = counts_itself live p (n - length p) each.0 in
    omega (arith, all, own)

opened_below : (live : PrefixTest) (n : ℕ) (limits : SearchLimits) (c : Core) → IsConserved live n limits c → c.end ≡ None → (c.opened < live_count live n []) × (c.opened ≤ limits.nodes)
opened_below live n limits c h going =
    let ends : EndsRightly live n limits c None = subst (EndsRightly live n limits c) going h.ends in
    let some = some_counted live n c.frontier h.frontier (subst (LeavesRightly c.frontier) going h.left) in
    (omega (arith, ends.0.counted, some), ends.1)

pub desk_open : (d : DeskParts) → IsDesk d → IsBlocksOf d.problem.grid d.problem.blocks → d.end ≡ None
    → (d.opened < live_count (is_live d.problem) d.problem.blocks.count []) × (d.opened ≤ d.limits.nodes)
desk_open d desk blocks going =
    let closed = (problem_tree d.problem blocks).closed in
    let state = desk_state d.problem d.limits d.history in
    let (few, within) = opened_below (is_live d.problem) d.problem.blocks.count d.limits state (desk_conserved d desk closed) (sym desk.end ∙ going) in
    (omega (arith, desk.opened, few), omega (arith, desk.opened, within))

-- different solutions in another order, which is that in which they are stated, are different solutions
pub moved_solutions : (p : ProblemParts) (list sorted : List (List Bool)) → IsPermutation list sorted → Ascends ChoicePrecedes sorted → AreSolutions p list → AreSolutions p sorted
moved_solutions p list sorted moved ordered h = record {
  each = each-from (IsSolutionOf p) sorted (λ x k. each-at (IsSolutionOf p) list x h.each (member-permutation sorted list x (IsPermutation-sym list sorted moved) k));
  once = ascends-weaker ChoicePrecedes ◌≢◌ sorted precedes_another ordered;
}

-- where nothing was handed out, all that a desk has found is listed
pub found_alone : (d : DeskParts) → IsDesk d → IsBlocksOf d.problem.grid d.problem.blocks → (limits : SearchLimits) → d.limits ≡ limits
    → (handed list : List (List Bool)) → handed ≡ [] → list ≡ handed ++ take (limits.solids - length handed) (new_ones handed d.found) → list ≡ d.found
found_alone d desk blocks limits within handed list none is =
    let all : new_ones [] d.found ≡ d.found = filter_all (is_new []) d.found (each-from (λ x. is_new [] x ≡ true) d.found (λ x k. refl)) in
    let few = found_few d desk blocks in
    is ∙ ap (λ h. h ++ take (limits.solids - length h) (new_ones h d.found)) none ∙ ap (take (limits.solids - 0)) all
    ∙ take_all (limits.solids - 0) d.found (omega (arith, few, ap (λ (l : SearchLimits). l.solids) within))
