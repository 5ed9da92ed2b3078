-- Opened prefixes, one after another.
use Rattle.std.proofs.Common.{◌≡◌, Bool, ℕ, zero, suc, ◌+◌, ◌≤◌, List, [], ◌∷◌, ◌++◌, length, take, drop, filter, IsTrue, sym, ◌∙◌, ap, append-nil, length-append, add-one, arith}
use Rattle.std.proofs.lemmas.List.{take-append-drop, drop_all, length-take}
use Rattle.std.proofs.lemmas.List.Elements.{filter-append}
use Rattle.solid_model.specs.Tree.{PrefixTest, live_from, is_whole, opened_of, found_of}
use Rattle.search_tree.specs.Walk.{coming, StandsAtFirst}
use Rattle.search_tree.specs.Opened.{StandsAtLast}
use Rattle.search_tree.proofs.Walks.{live_from_head, none_later}

-- ---- the first members of a list

module _ {A : Type 0} where
  -- the next is the first of those behind
  take_suc : (k : ℕ) (xs ys : List A) (y : A) → drop k xs ≡ y ∷ ys → take (suc k) xs ≡ take k xs ++ y ∷ []
  take_suc zero xs ys y e = ap (take 1) e
  take_suc (suc k) [] ys y e = cc
  take_suc (suc k) (x ∷ xs) ys y e = ap (λ zs. x ∷ zs) (take_suc k xs ys y e)

  take_next : (k : ℕ) (xs ys : List A) (y : A) → drop k xs ≡ y ∷ ys → take (k + 1) xs ≡ take k xs ++ y ∷ []
  take_next k xs ys y e = rw add-one (take_suc k xs ys y e)

  -- and the others are behind it
  drop_suc : (k : ℕ) (xs ys : List A) (y : A) → drop k xs ≡ y ∷ ys → drop (suc k) xs ≡ ys
  drop_suc zero xs ys y e = ap (drop 1) e
  drop_suc (suc k) [] ys y e = cc
  drop_suc (suc k) (x ∷ xs) ys y e = drop_suc k xs ys y e

  pub drop_next : (k : ℕ) (xs ys : List A) (y : A) → drop k xs ≡ y ∷ ys → drop (k + 1) xs ≡ ys
  drop_next k xs ys y e = rw add-one (drop_suc k xs ys y e)

  -- where none are behind, they are all
  pub take_whole : (k : ℕ) (xs : List A) → drop k xs ≡ [] → take k xs ≡ xs
  take_whole k xs e = sym (append-nil (take k xs)) ∙ ap (λ ys. take k xs ++ ys) (sym e) ∙ take-append-drop k xs

  -- none are behind where there aren't so many
  pub none_behind : (k : ℕ) (xs : List A) → (length (take k xs) ≡ k → ⊥) → drop k xs ≡ []
  none_behind k xs fewer = drop_all k xs (omega (arith, length-take k xs, fewer))

  -- one more is kept
  pub filter_next : (p : A → Bool) (k : ℕ) (xs ys : List A) (y : A) → drop k xs ≡ y ∷ ys → filter p (take (k + 1) xs) ≡ filter p (take k xs) ++ filter p (y ∷ [])
  filter_next p k xs ys y e = ap (filter p) (take_next k xs ys y e) ∙ filter-append p (take k xs) (y ∷ [])

  pub count_next : (k : ℕ) (xs ys : List A) (y : A) → drop k xs ≡ y ∷ ys → length (take k xs) ≡ k → length (take (k + 1) xs) ≡ k + 1
  count_next k xs ys y e l = omega (arith, ap length (take_next k xs ys y e), length-append (take k xs) (y ∷ []), l)

-- ---- the walk over them

module _ (live : PrefixTest) (n : ℕ) (piece : List Bool) where
  -- the piece is the first
  pub first_opened : IsTrue (live piece) → length piece ≤ n → StandsAtLast live n piece 1 piece
  first_opened lives within =
      let head = live_from_head live n piece lives in record {
        lives = lives;
        within = within;
        below = omega arith;
        count = ap (λ xs. length (take 1 xs)) head;
        last = ([], ap (take 1) head);
        left = sym (ap (λ xs. drop 1 (live_from live n piece) ++ xs) (none_later live n (length piece) piece (omega arith))
            ∙ append-nil (drop 1 (live_from live n piece)));
      }

  -- it alone is opened
  pub found_first : IsTrue (live piece) → filter (is_whole n) (piece ∷ []) ≡ found_of live n piece 1
  found_first lives = ap (λ xs. filter (is_whole n) (take 1 xs)) (sym (live_from_head live n piece lives))

  module _ (opened : ℕ) (prefix : List Bool) (stands : StandsAtLast live n piece opened prefix) where
    -- one more is opened
    pub next_opened : (next : List Bool) → StandsAtFirst live n (length piece) (coming live n (length piece) prefix) next → StandsAtLast live n piece (opened + 1) next
    next_opened next at =
        let front = stands.left ∙ at.first in record {
          lives = at.lives;
          within = at.within;
          below = at.below;
          count = count_next opened (live_from live n piece) (coming live n (length piece) next) next front stands.count;
          last = (opened_of live n piece opened, take_next opened (live_from live n piece) (coming live n (length piece) next) next front);
          left = drop_next opened (live_from live n piece) (coming live n (length piece) next) next front;
        }

    pub found_next : (next : List Bool) → StandsAtFirst live n (length piece) (coming live n (length piece) prefix) next
        → found_of live n piece (opened + 1) ≡ found_of live n piece opened ++ filter (is_whole n) (next ∷ [])
    found_next next at = filter_next (is_whole n) opened (live_from live n piece) (coming live n (length piece) next) next (stands.left ∙ at.first)
