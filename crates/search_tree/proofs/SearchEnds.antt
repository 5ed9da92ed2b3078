-- The ends of a search.
use Rattle.std.proofs.Common.{◌≡◌, Bool, true, false, ℕ, ◌+◌, ◌<◌, ◌≤◌, List, [], ◌∷◌, ◌++◌, length, take, drop, filter, cond, IsTrue, refl, sym, ◌∙◌, ap, subst, append-nil, length-append, arith}
use Rattle.std.proofs.lemmas.Bool.{eqb-true}
use Rattle.std.proofs.lemmas.List.{take_all, take-append-drop}
use Rattle.std.proofs.lemmas.List.Elements.{filter-append}
use Rattle.solid_model.specs.declared.ended.EndKind.TheVariants.{Whole, CutNodes, CutSolids}
use Rattle.solid_model.specs.Choices.{ChoicePrecedes}
use Rattle.lemmas.specs.Lists.{Member, Each, Ascends}
use Rattle.solid_model.specs.Search.{SearchLimits}
use Rattle.solid_model.specs.SearchEnds.{AreSomeOf, EndsAs}
use Rattle.solid_model.specs.Tree.{PrefixTest, live_from, live_count, is_whole, live_below, found_of, opened_of}
use Rattle.lemmas.proofs.Lists.{each-at, each-from, member-append_left, member-from_filter, ascends-filter, ascends-append_left}
use Rattle.solid_model.proofs.PrefixTree.{live_from_none}
use Rattle.search_tree.specs.Walk.{coming, StandsAtFirst}
use Rattle.search_tree.proofs.OpenedPrefixes.{take_whole, drop_next, count_next, filter_next}
use Rattle.search_tree.proofs.Walks.{live_from_head}
use Rattle.search_tree.proofs.StatedOrder.{Before, before_choice, ascending_tree}

-- an ascending list whose members all have a property ascends by a relation that holds between those that have it
ascends_among : {A : Type 0} (P : A → Type 0) (R S : A → A → Type 0) (xs : List A) → ((x y : A) → P x → P y → R x y → S x y) → Each P xs → Ascends R xs → Ascends S xs
ascends_among P R S [] weaken each h = tt
ascends_among P R S (x ∷ xs) weaken each h =
    (each-from (S x) xs (λ y k. weaken x y each.0 (each-at P xs y each.1 k) (each-at (R x) xs y h.0 k)), ascends_among P R S xs weaken each.1 h.1)

module _ (live : PrefixTest) (n : ℕ) where
  -- those of full length among them are choices in the stated order
  ascending_choices : (xs : List (List Bool)) → Ascends Before xs → Ascends ChoicePrecedes (filter (is_whole n) xs)
  ascending_choices xs h =
      ascends_among (λ x. length x ≡ n) Before ChoicePrecedes (filter (is_whole n) xs) (λ x y e f. before_choice x y (e ∙ sym f))
      (each-from (λ x. length x ≡ n) (filter (is_whole n) xs) (λ x k. eqb-true (length x) n (member-from_filter (is_whole n) xs x k).1))
      (ascends-filter (is_whole n) Before xs h)

  -- the choices among the first live prefixes, and those behind them, are all
  found_and_left : (k : ℕ) → found_of live n [] k ++ filter (is_whole n) (drop k (live_from live n [])) ≡ live_below live n []
  found_and_left k =
      sym (filter-append (is_whole n) (take k (live_from live n [])) (drop k (live_from live n [])))
      ∙ ap (filter (is_whole n)) (take-append-drop k (live_from live n []))

  -- the choices among the first live prefixes are some
  pub some_found : (k : ℕ) → AreSomeOf live n (found_of live n [] k)
  some_found k = record {
    listed = each-from (Member (live_below live n [])) (found_of live n [] k)
        (λ x m. subst (λ xs. Member xs x) (found_and_left k) (member-append_left (found_of live n [] k) _ x m));
    ordered = ascending_choices (opened_of live n [] k) (ascends-append_left Before (opened_of live n [] k) (drop k (live_from live n []))
        (subst (Ascends Before) (sym (take-append-drop k (live_from live n []))) (ascending_tree live n [])));
  }

  -- all live choices are some
  pub all_some : AreSomeOf live n (live_below live n [])
  all_some = let all = live_from live n [] in
      subst (λ xs. AreSomeOf live n (filter (is_whole n) xs)) (take_all (length all) all (omega arith)) (some_found (length all))

-- So many live prefixes are opened, within the limits, and these choices are found; where there are more, the path stands at
-- the first of them.
pub record Searches (live : PrefixTest) (n : ℕ) (limits : SearchLimits) (more : Bool) (prefix : List Bool) (opened : ℕ) (found : List (List Bool)) : Type 0 where
  pub count : length (opened_of live n [] opened) ≡ opened
  pub found_so_far : found ≡ found_of live n [] opened
  pub nodes : opened ≤ limits.nodes
  pub solids : length found ≤ limits.solids
  pub some_left : more ≡ true → StandsAtFirst live n 0 (drop opened (live_from live n [])) prefix
  pub none_left : more ≡ false → drop opened (live_from live n []) ≡ []

module _ (live : PrefixTest) (n : ℕ) (limits : SearchLimits) where
  -- the beginning: nothing is opened
  pub search_begins : (more : Bool) → more ≡ live [] → ((prefix rest : List Bool) → IsTrue (live (prefix ++ rest)) → IsTrue (live prefix))
      → (prefix : List Bool) → prefix ≡ [] → Searches live n limits more prefix 0 []
  search_begins more asked closed prefix empty = record {
    count = refl;
    found_so_far = refl;
    nodes = omega arith;
    solids = omega arith;
    some_left = λ e. subst (StandsAtFirst live n 0 (live_from live n [])) (sym empty) (record {
      lives = sym asked ∙ e;
      within = omega arith;
      below = omega arith;
      first = live_from_head live n [] (sym asked ∙ e) ∙ ap (λ xs. [] ∷ xs) (sym (append-nil (drop 1 (live_from live n []))));
    });
    none_left = λ e. live_from_none live n [] (sym asked ∙ e) closed;
  }

  module _ (prefix : List Bool) (opened : ℕ) (found : List (List Bool)) where
    -- the end: nothing is left
    pub search_ends : Searches live n limits false prefix opened found → EndsAs live n limits Whole opened found
    search_ends so_far =
        let all : opened_of live n [] opened ≡ live_from live n [] = take_whole opened (live_from live n []) (so_far.none_left refl) in
        let choices : found ≡ live_below live n [] = so_far.found_so_far ∙ ap (filter (is_whole n)) all in (
          omega (arith, ap length all, so_far.count, so_far.nodes),
          omega (arith, ap length choices, so_far.solids),
          sym so_far.count ∙ ap length all,
          choices,
        )

    module _ (so_far : Searches live n limits true prefix opened found) where
      -- the first of those that are left
      front : drop opened (live_from live n []) ≡ prefix ∷ coming live n 0 prefix
      front = (so_far.some_left refl).first

      -- there is one more
      one_more : opened + 1 ≤ live_count live n []
      one_more = omega (
        arith,
        so_far.count,
        ap length front,
        ap length (take-append-drop opened (live_from live n [])),
        length-append (take opened (live_from live n [])) (drop opened (live_from live n [])),
      )

      some : AreSomeOf live n found
      some = subst (AreSomeOf live n) (sym so_far.found_so_far) (some_found live n opened)

      -- the limit of nodes is passed
      pub search_cut_nodes : limits.nodes < opened + 1 → EndsAs live n limits CutNodes (opened + 1) found
      search_cut_nodes past = (past, one_more, some, so_far.solids)

      -- one more solid is there, and so many are found already
      pub search_cut_solids : is_whole n prefix ≡ true → length found ≡ limits.solids → EndsAs live n limits CutSolids (opened + 1) found
      search_cut_solids whole many =
          let behind : filter (is_whole n) (drop opened (live_from live n [])) ≡ prefix ∷ filter (is_whole n) (coming live n 0 prefix) =
          ap (filter (is_whole n)) front ∙ rw whole refl in
          let past : limits.solids < length (live_below live n []) =
          omega (
            arith,
            many,
            ap length so_far.found_so_far,
            ap length (found_and_left live n opened),
            length-append (found_of live n [] opened) (filter (is_whole n) (drop opened (live_from live n []))),
            ap length behind,
          ) in
          (past, one_more, some, many)

      -- the first of those that are left is opened
      pub search_more : opened + 1 ≤ limits.nodes → (more : Bool) (next : List Bool) (kept : List (List Bool))
          → kept ≡ found ++ filter (is_whole n) (prefix ∷ []) → length kept ≤ limits.solids
          → (more ≡ true → StandsAtFirst live n 0 (coming live n 0 prefix) next) → (more ≡ false → coming live n 0 prefix ≡ [])
          → Searches live n limits more next (opened + 1) kept
      search_more few more next kept is few_solids stands none =
          let behind = drop_next opened (live_from live n []) (coming live n 0 prefix) prefix front in record {
            count = count_next opened (live_from live n []) (coming live n 0 prefix) prefix front so_far.count;
            found_so_far = is ∙ ap (λ xs. xs ++ filter (is_whole n) (prefix ∷ [])) so_far.found_so_far
                ∙ sym (filter_next (is_whole n) opened (live_from live n []) (coming live n 0 prefix) prefix front);
            nodes = few;
            solids = few_solids;
            some_left = λ e. subst (λ xs. StandsAtFirst live n 0 xs next) (sym behind) (stands e);
            none_left = λ e. behind ∙ none e;
          }

-- what is kept of one more is one at most
pub room_for_one : {A : Type 0} (p : A → Bool) (xs : List A) (x : A) (most : ℕ) → length xs + 1 ≤ most → length (xs ++ filter p (x ∷ [])) ≤ most
room_for_one {A} p xs x most few = at (p x)
  where
    at : (t : Bool) → length (xs ++ cond t (x ∷ []) []) ≤ most
    at true = omega (arith, length-append xs (x ∷ []))
    at false = omega (arith, length-append xs [])

-- and none of what fails the test
pub room_for_none : {A : Type 0} (p : A → Bool) (xs : List A) (x : A) (most : ℕ) → p x ≡ false → length xs ≤ most → length (xs ++ filter p (x ∷ [])) ≤ most
room_for_none p xs x most fails few = rw (fails, append-nil xs) few
