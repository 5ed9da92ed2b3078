-- What a state of a search conserves: the start does, and each event keeps it.
use Rattle.std.proofs.Common.{◌≡◌, ◌≢◌, Bool, true, false, ℕ, ◌+◌, ◌≤◌, ◌<◌, nat_lt, List, [], ◌∷◌, ◌++◌, length, map, sum, Some, IsPermutation, IsTrue, if◌then◌else◌, refl, sym, ◌∙◌, ap, subst, append-nil, length-append, length-take, arith}
use Rattle.std.specs.List.{flat_map}
use Rattle.std.proofs.lemmas.Bool.{ltb-false}
use Rattle.std.proofs.lemmas.Bool.Decides.{Decides-ltb}
use Rattle.std.proofs.lemmas.List.{map-append, take_all, length-take-le}
use Rattle.std.proofs.lemmas.List.Sorted.{IsPermutation-refl, IsPermutation-trans, length_permutation, IsPermutation-sym}
use Rattle.std.proofs.lemmas.List.Sums.{sum_by-cons}
use Rattle.std.proofs.lemmas.Grind.{flat_map-append}
use Rattle.solid_model.specs.declared.ended.EndKind.TheVariants.{Whole, CutNodes, CutSolids}
use Rattle.lemmas.specs.Lists.{Member, Each}
use Rattle.solid_model.specs.Search.{SearchLimits}
use Rattle.solid_model.specs.Tree.{PrefixTest, IsAllowed, live_count, live_below, IsClosed}
use Rattle.lemmas.proofs.Lists.{each-from, each-append, each-append_left, each-append_right, ascends-append_left, member-append_left}
use Rattle.solid_model.proofs.PrefixTree.{live_count_none, live_below_none}
use Rattle.search_core.specs.Conserves.{IsWholeTree, EndsRightly, LeavesRightly, IsConserved}
use Rattle.search_core.specs.Core.{Core, Event, IsEvent, IsCoreRun, core_start, without, end_at, after_event, after_events}
use Rattle.lemmas.specs.Truth.{same_values}
use Rattle.lemmas.proofs.Permutations.{sum-append, each-take, ascends-take, member-permutation, put_apart, once-permutation}
use Rattle.search_core.proofs.OnceBelow.{once_below}
use Rattle.lemmas.proofs.Truth.{Decides-same_values}
use Rattle.search_core.proofs.TakenOut.{StandsBetween, stands_between}

-- the state after an event, had the limit of solids room for all that was found
abbrev with_all_found : SearchLimits → Core → Event → Core
with_all_found limits c e = record (after_event limits c e) { found = c.found ++ e.found }

module _ (live : PrefixTest) (n : ℕ) where
  -- what is counted below prefixes
  abbrev count_of : List (List Bool) → ℕ
  count_of prefixes = sum (map (live_count live n) prefixes)

  -- the choices below them
  abbrev choices_of : List (List Bool) → List (List Bool)
  choices_of prefixes = flat_map (live_below live n) prefixes

  -- those of two lists are counted one after the other
  count_of-append : (ps qs : List (List Bool)) → count_of (ps ++ qs) ≡ count_of ps + count_of qs
  count_of-append ps qs = ap sum (map-append (live_count live n) ps qs) ∙ sum-append (map (live_count live n) ps) (map (live_count live n) qs)

  -- and so for the choices
  choices_of-append : (ps qs : List (List Bool)) → choices_of (ps ++ qs) ≡ choices_of ps ++ choices_of qs
  choices_of-append = flat_map-append (live_below live n)

  -- where both limits are kept the search goes on, or nothing is left to be expanded and it is whole
  ends_within : (limits : SearchLimits) (c : Core) (frontier : List (List Bool)) → c.frontier ≡ frontier → IsWholeTree live n c → c.opened ≤ limits.nodes
      → EndsRightly live n limits c (end_at frontier)
  ends_within limits c [] e tree few =
      let all : c.opened ≡ live_count live n [] = omega (arith, tree.counted, ap count_of e) in
      let shared = subst (λ l. IsPermutation (live_below live n []) (c.found ++ choices_of l)) e tree.shared in
      (tree, all, subst (IsPermutation (live_below live n [])) (append-nil c.found) shared, few)
  ends_within limits c (p ∷ ps) e tree few = (tree, few)

  -- a search that isn't cut goes on where something is left
  left_at : (frontier : List (List Bool)) → LeavesRightly frontier (end_at frontier)
  left_at [] = refl
  left_at (p ∷ ps) = λ e. cc

  abbrev AreLive : List (List Bool) → Type 0
  AreLive = Each (λ prefix. IsTrue (live prefix))

  -- ---- an event

  module _ (limits : SearchLimits) (c : Core) (e : Event) where
    -- the prefixes to be expanded after it
    abbrev frontier_after : List (List Bool)
    frontier_after = without e.piece c.frontier ++ e.rest

    -- the two equations of a report come in the place of its piece
    tree_after : IsWholeTree live n c → StandsBetween e.piece c.frontier → IsAllowed live n e.piece e.opened e.found e.rest → IsWholeTree live n (with_all_found limits c e)
    tree_after tree stands allowed =
        let f = stands.front in
        let b = stands.back in
        record {
          counted =
              let was : count_of c.frontier ≡ count_of f + count_of (e.piece ∷ b) = ap count_of stands.is ∙ count_of-append f (e.piece ∷ b) in
              let piece : count_of (e.piece ∷ b) ≡ live_count live n e.piece + count_of b = sum_by-cons (λ x. x) (live_count live n e.piece) (map (live_count live n) b) in
              let is : count_of frontier_after ≡ count_of (f ++ b) + count_of e.rest = ap (λ l. count_of (l ++ e.rest)) stands.left ∙ count_of-append (f ++ b) e.rest in
              omega (arith, tree.counted, allowed.counted, was, piece, is, count_of-append f b);
          shared =
              let was : choices_of c.frontier ≡ choices_of f ++ (live_below live n e.piece ++ choices_of b) = ap choices_of stands.is ∙ choices_of-append f (e.piece ∷ b) in
              let is : choices_of frontier_after ≡ (choices_of f ++ choices_of b) ++ choices_of e.rest =
              ap (λ l. choices_of (l ++ e.rest)) stands.left ∙ choices_of-append (f ++ b) e.rest ∙ ap (λ l. l ++ choices_of e.rest) (choices_of-append f b) in
              let moved = put_apart c.found e.found (choices_of f) (choices_of b) (choices_of e.rest) (live_below live n e.piece) allowed.shared in
              IsPermutation-trans _ _ _ (subst (λ l. IsPermutation (live_below live n []) (c.found ++ l)) was tree.shared)
              (subst (λ l. IsPermutation (c.found ++ (choices_of f ++ (live_below live n e.piece ++ choices_of b))) ((c.found ++ e.found) ++ l)) (sym is) moved);
        }

    -- what is left is told by the end
    left_after : (t u : Bool) → LeavesRightly frontier_after (if t then Some CutSolids else (if u then Some CutNodes else end_at frontier_after))
    left_after true u = tt
    left_after false true = tt
    left_after false false = left_at frontier_after

    -- and each of it is live
    live_after : AreLive c.frontier → StandsBetween e.piece c.frontier → AreLive e.rest → AreLive frontier_after
    live_after each stands rest =
        let all = subst AreLive stands.is each in
        let front = each-append_left (λ prefix. IsTrue (live prefix)) stands.front (e.piece ∷ stands.back) all in
        let back = (each-append_right (λ prefix. IsTrue (live prefix)) stands.front (e.piece ∷ stands.back) all).1 in
        each-append (λ prefix. IsTrue (live prefix)) (without e.piece c.frontier) e.rest
        (subst AreLive (sym stands.left) (each-append (λ prefix. IsTrue (live prefix)) stands.front stands.back front back)) rest

    module _ (tree : IsWholeTree live n (with_all_found limits c e)) where
      -- where there was room for all, the tree is kept
      tree_kept : length c.found + length e.found ≤ limits.solids → IsWholeTree live n (after_event limits c e)
      tree_kept room = record {
        counted = tree.counted;
        shared = subst (λ l. IsPermutation (live_below live n []) (l ++ choices_of frontier_after))
            (sym (take_all limits.solids (c.found ++ e.found) (omega (arith, room, length-append c.found e.found)))) tree.shared;
      }

      -- no more were found than there are
      few_found : length c.found + length e.found ≤ length (live_below live n [])
      few_found = omega (arith, length_permutation _ _ tree.shared, length-append c.found e.found, length-append (c.found ++ e.found) (choices_of frontier_after))

      -- the limit of solids is passed, or that of nodes, or both are kept
      ends_after : (t u : Bool) → nat_lt limits.solids (length c.found + length e.found) ≡ t → nat_lt limits.nodes (c.opened + e.opened) ≡ u
          → EndsRightly live n limits (after_event limits c e)
          (if t then Some CutSolids else (if u then Some CutNodes else end_at frontier_after))
      ends_after true u past v =
          let over : limits.solids < length c.found + length e.found = (Decides-ltb limits.solids (length c.found + length e.found)).0 past in
          (length-take-le limits.solids (c.found ++ e.found) (omega (arith, over, length-append c.found e.found)), omega (arith, over, few_found))
      ends_after false true within past = (tree_kept (ltb-false limits.solids (length c.found + length e.found) within), (Decides-ltb limits.nodes (c.opened + e.opened)).0 past)
      ends_after false false within few =
          ends_within limits (after_event limits c e) frontier_after refl (tree_kept (ltb-false limits.solids (length c.found + length e.found) within))
          (ltb-false limits.nodes (c.opened + e.opened) few)

      -- so what every state keeps is kept
      conserved_after : IsClosed live → AreLive frontier_after → IsConserved live n limits (after_event limits c e)
      conserved_after closed frontier =
          let all = c.found ++ e.found in
          let once = ascends-append_left ◌≢◌ all (choices_of frontier_after)
          (once-permutation same_values Decides-same_values (live_below live n []) (all ++ choices_of frontier_after) tree.shared (once_below live n closed)) in
          let listed = each-from (Member (live_below live n [])) all (λ x k.
          member-permutation (all ++ choices_of frontier_after) (live_below live n []) x (IsPermutation-sym _ _ tree.shared)
          (member-append_left all (choices_of frontier_after) x k)) in
          record {
            ends = ends_after (nat_lt limits.solids (length c.found + length e.found)) (nat_lt limits.nodes (c.opened + e.opened)) refl refl;
            left = left_after (nat_lt limits.solids (length c.found + length e.found)) (nat_lt limits.nodes (c.opened + e.opened));
            frontier = frontier;
            once = ascends-take ◌≢◌ limits.solids all once;
            listed = each-take (Member (live_below live n [])) limits.solids all listed;
            few = omega (arith, length-take limits.solids all);
            opened = omega (arith, tree.counted);
          }

  -- an event of a state keeps it
  kept : (limits : SearchLimits) → IsClosed live → (c : Core) (e : Event) → IsConserved live n limits c → IsEvent live n c e → IsConserved live n limits (after_event limits c e)
  kept limits closed c e h event =
      let going = subst (EndsRightly live n limits c) event.going h.ends in
      let stands = stands_between e.piece c.frontier event.in_frontier in
      conserved_after limits c e (tree_after limits c e going.0 stands event.allowed) closed (live_after limits c e h.frontier stands event.allowed.rest_live)

  -- ---- the start

  -- it keeps all, whether the empty prefix is live or not
  started : (limits : SearchLimits) → IsClosed live → (t : Bool) → live [] ≡ t → IsConserved live n limits (core_start live)
  started limits closed true lives = rw lives (record {
    ends = (
      record {
        counted = omega arith;
        shared = rw (append-nil (live_below live n [])) (IsPermutation-refl (live_below live n []));
      },
      omega arith,
    );
    left = λ e. cc;
    frontier = (lives, tt);
    once = tt;
    listed = tt;
    few = omega arith;
    opened = omega arith;
  })
  started limits closed false dead =
      let none = live_count_none live n [] dead closed in
      let nothing = live_below_none live n [] dead closed in
      rw dead (record {
        ends = (record { counted = none; shared = rw nothing (IsPermutation-refl []) }, sym none, rw nothing (IsPermutation-refl []), omega arith);
        left = refl;
        frontier = tt;
        once = tt;
        listed = tt;
        few = omega arith;
        opened = omega arith;
      })

  -- ---- many events

  -- one after another they keep it
  all_kept : (limits : SearchLimits) → IsClosed live → (events : List Event) (c : Core) → IsConserved live n limits c → IsCoreRun live n limits c events
      → IsConserved live n limits (after_events limits c events)
  all_kept limits closed [] c h run = h
  all_kept limits closed (e ∷ es) c h run = all_kept limits closed es (after_event limits c e) (kept limits closed c e h run.0) run.1

  -- from the start on
  pub conserved : (limits : SearchLimits) → IsClosed live → (events : List Event) → IsCoreRun live n limits (core_start live) events
      → IsConserved live n limits (after_events limits (core_start live) events)
  conserved limits closed events run = all_kept limits closed events (core_start live) (started limits closed (live []) refl) run

  -- each opens a prefix at least
  opened_each : (limits : SearchLimits) (events : List Event) (c : Core) → IsCoreRun live n limits c events → length events + c.opened ≤ (after_events limits c events).opened
  opened_each limits [] c run = omega arith
  opened_each limits (e ∷ es) c run = omega (arith, run.0.allowed.some, opened_each limits es (after_event limits c e) run.1)

  -- so there are no more events than live prefixes
  pub few_events : (limits : SearchLimits) → IsClosed live → (events : List Event) → IsCoreRun live n limits (core_start live) events → length events ≤ live_count live n []
  few_events limits closed events run = omega (arith, opened_each limits events (core_start live) run, (conserved limits closed events run).opened)

  -- a whole search has found all
  pub all_found : (limits : SearchLimits) → IsClosed live → (events : List Event) → IsCoreRun live n limits (core_start live) events
      → (after_events limits (core_start live) events).end ≡ Some Whole → IsPermutation (live_below live n []) (after_events limits (core_start live) events).found
  all_found limits closed events run whole =
      (subst (EndsRightly live n limits (after_events limits (core_start live) events)) whole (conserved limits closed events run).ends).2
