-- What is still to come, one step further.
use Rattle.std.proofs.Common.{◌≡◌, Bool, true, false, ℕ, zero, suc, ◌-◌, ◌<◌, ◌≤◌, List, [], ◌∷◌, ◌++◌, length, take, drop, filter, IsTrue, refl, sym, ◌∙◌, ap, append-nil, append_assoc, length-append, arith}
use Rattle.std.proofs.lemmas.List.{take-append-drop, take-append-le, drop-append-le, drop_all}
use Rattle.solid_model.specs.Tree.{PrefixTest, extensions, live_from}
use Rattle.solid_model.proofs.PrefixTree.{live_from_more}
use Rattle.search_tree.specs.Walk.{after, later, coming, StandsAtFirst}

-- a live prefix is the first of those that begin with it
pub live_from_head : (live : PrefixTest) (n : ℕ) (prefix : List Bool) → IsTrue (live prefix) → live_from live n prefix ≡ prefix ∷ drop 1 (live_from live n prefix)
live_from_head live n prefix lives = at (n - length prefix)
  where
    at : (more : ℕ) → filter live (extensions more prefix) ≡ prefix ∷ drop 1 (filter live (extensions more prefix))
    at zero = rw lives refl
    at (suc more) = rw lives refl

module _ (live : PrefixTest) (n : ℕ) where
  -- ---- one value more at the end

  -- with a full value more those below the empty one come first
  after_full : (piece values : List Bool) → after live n piece (values ++ true ∷ [])
      ≡ live_from live n ((piece ++ values) ++ false ∷ []) ++ after live n piece values
  after_full piece [] = rw (append-nil piece) (sym (append-nil (live_from live n (piece ++ false ∷ []))))
  after_full piece (true ∷ values) =
      let empty = live_from live n (piece ++ false ∷ []) in
      ap (λ xs. xs ++ empty) (after_full (piece ++ true ∷ []) values)
      ∙ append_assoc (live_from live n (((piece ++ true ∷ []) ++ values) ++ false ∷ [])) (after live n (piece ++ true ∷ []) values) empty
      ∙ ap (λ p. live_from live n (p ++ false ∷ []) ++ (after live n (piece ++ true ∷ []) values ++ empty)) (append_assoc piece (true ∷ []) values)
  after_full piece (false ∷ values) =
      after_full (piece ++ false ∷ []) values
      ∙ ap (λ p. live_from live n (p ++ false ∷ []) ++ after live n (piece ++ false ∷ []) values) (append_assoc piece (false ∷ []) values)

  -- with an empty one there are no more
  after_empty : (piece values : List Bool) → after live n piece (values ++ false ∷ []) ≡ after live n piece values
  after_empty piece [] = refl
  after_empty piece (true ∷ values) = ap (λ xs. xs ++ live_from live n (piece ++ false ∷ [])) (after_empty (piece ++ true ∷ []) values)
  after_empty piece (false ∷ values) = after_empty (piece ++ false ∷ []) values

  module _ (floor : ℕ) (prefix : List Bool) (below : floor ≤ length prefix) where
    pub later_full : later live n floor (prefix ++ true ∷ []) ≡ live_from live n (prefix ++ false ∷ []) ++ later live n floor prefix
    later_full =
        ap (λ piece. after live n piece (drop floor (prefix ++ true ∷ []))) (take-append-le floor prefix (true ∷ []) below)
        ∙ ap (after live n (take floor prefix)) (drop-append-le floor prefix (true ∷ []) below)
        ∙ after_full (take floor prefix) (drop floor prefix)
        ∙ ap (λ p. live_from live n (p ++ false ∷ []) ++ later live n floor prefix) (take-append-drop floor prefix)

    pub later_empty : later live n floor (prefix ++ false ∷ []) ≡ later live n floor prefix
    later_empty =
        ap (λ piece. after live n piece (drop floor (prefix ++ false ∷ []))) (take-append-le floor prefix (false ∷ []) below)
        ∙ ap (after live n (take floor prefix)) (drop-append-le floor prefix (false ∷ []) below)
        ∙ after_empty (take floor prefix) (drop floor prefix)

    -- ---- a step back

    -- from a full value to the empty one in its place
    pub back_to_empty : length prefix < n → IsTrue (live (prefix ++ false ∷ []))
        → StandsAtFirst live n floor (later live n floor (prefix ++ true ∷ [])) (prefix ++ false ∷ [])
    back_to_empty more lives = record {
      lives = lives;
      within = omega (arith, length-append prefix (false ∷ []));
      below = omega (arith, length-append prefix (false ∷ []));
      first = later_full ∙ ap (λ xs. xs ++ later live n floor prefix) (live_from_head live n (prefix ++ false ∷ []) lives)
          ∙ ap (λ xs. (prefix ++ false ∷ []) ∷ (drop 1 (live_from live n (prefix ++ false ∷ [])) ++ xs)) (sym later_empty);
    }

    -- and where that isn't live
    pub back_from_full : live_from live n (prefix ++ false ∷ []) ≡ [] → later live n floor (prefix ++ true ∷ []) ≡ later live n floor prefix
    back_from_full none = later_full ∙ ap (λ xs. xs ++ later live n floor prefix) none

    -- ---- a step down

    module _ (lives : IsTrue (live prefix)) (more : length prefix < n) where
      -- what is to come are those below both sides, and later ones
      coming_both : coming live n floor prefix
          ≡ live_from live n (prefix ++ true ∷ []) ++ (live_from live n (prefix ++ false ∷ []) ++ later live n floor prefix)
      coming_both = ap (λ xs. drop 1 xs ++ later live n floor prefix) (live_from_more live n prefix lives more)
          ∙ append_assoc (live_from live n (prefix ++ true ∷ [])) (live_from live n (prefix ++ false ∷ [])) (later live n floor prefix)

      pub down_to_full : IsTrue (live (prefix ++ true ∷ [])) → StandsAtFirst live n floor (coming live n floor prefix) (prefix ++ true ∷ [])
      down_to_full full = record {
        lives = full;
        within = omega (arith, length-append prefix (true ∷ []));
        below = omega (arith, length-append prefix (true ∷ []));
        first = coming_both
            ∙ ap (λ xs. xs ++ (live_from live n (prefix ++ false ∷ []) ++ later live n floor prefix)) (live_from_head live n (prefix ++ true ∷ []) full)
            ∙ ap (λ xs. (prefix ++ true ∷ []) ∷ (drop 1 (live_from live n (prefix ++ true ∷ [])) ++ xs)) (sym later_full);
      }

      pub down_to_empty : live_from live n (prefix ++ true ∷ []) ≡ [] → IsTrue (live (prefix ++ false ∷ []))
          → StandsAtFirst live n floor (coming live n floor prefix) (prefix ++ false ∷ [])
      down_to_empty none empty = record {
        lives = empty;
        within = omega (arith, length-append prefix (false ∷ []));
        below = omega (arith, length-append prefix (false ∷ []));
        first = coming_both
            ∙ ap (λ xs. xs ++ (live_from live n (prefix ++ false ∷ []) ++ later live n floor prefix)) none
            ∙ ap (λ xs. xs ++ later live n floor prefix) (live_from_head live n (prefix ++ false ∷ []) empty)
            ∙ ap (λ xs. (prefix ++ false ∷ []) ∷ (drop 1 (live_from live n (prefix ++ false ∷ [])) ++ xs)) (sym later_empty);
      }

  -- nothing is later than the piece itself
  pub none_later : (floor : ℕ) (prefix : List Bool) → length prefix ≤ floor → later live n floor prefix ≡ []
  none_later floor prefix at = ap (after live n (take floor prefix)) (drop_all floor prefix at)
