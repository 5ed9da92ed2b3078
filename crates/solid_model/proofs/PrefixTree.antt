-- The tree of prefixes: what a dead prefix, a live one with values left, and a live one of full length have below them.
use Rattle.std.proofs.Common.{◌≡◌, Bool, true, false, ℕ, zero, suc, ◌+◌, ◌-◌, ◌<◌, List, [], ◌∷◌, ◌++◌, length, filter, IsTrue, refl, sym, ◌∙◌, ap, append-nil, append_assoc, length-append, arith}
use Rattle.std.proofs.lemmas.Bool.{both_ways}
use Rattle.std.proofs.lemmas.Bool.Decides.{nat_tests}
use Rattle.std.proofs.lemmas.List.Elements.{filter-append}
use Rattle.lemmas.specs.Lists.{Each}
use Rattle.solid_model.specs.Tree.{PrefixTest, extensions, live_from, live_count, is_whole, live_below}
use Rattle.lemmas.proofs.Lists.{each-weaker, each-append, each-from, each-at, member-from_filter}

-- the choice begins with these values
abbrev pub BeginsWith : List Bool → List Bool → Type 0
BeginsWith chosen choice = (rest : List Bool) × (choice ≡ chosen ++ rest)

-- ---- beginnings

-- each list begins with itself
pub begins_itself : (prefix : List Bool) → BeginsWith prefix prefix
begins_itself prefix = ([], sym (append-nil prefix))

-- what begins with more values begins with the first of them
pub begins_without : (prefix more choice : List Bool) → BeginsWith (prefix ++ more) choice → BeginsWith prefix choice
begins_without prefix more choice (rest, e) = (more ++ rest, e ∙ append_assoc prefix more rest)

-- ---- extensions

-- each extension begins with the prefix
extensions_begin : (more : ℕ) (prefix : List Bool) → Each (BeginsWith prefix) (extensions more prefix)
extensions_begin zero prefix = (begins_itself prefix, tt)
extensions_begin (suc more) prefix =
    let below = λ (value : Bool). each-weaker (BeginsWith (prefix ++ value ∷ [])) (BeginsWith prefix) (extensions more (prefix ++ value ∷ []))
    (begins_without prefix (value ∷ [])) (extensions_begin more (prefix ++ value ∷ [])) in
    (begins_itself prefix, each-append (BeginsWith prefix) (extensions more (prefix ++ true ∷ [])) (extensions more (prefix ++ false ∷ [])) (below true) (below false))

module _ (live : PrefixTest) (n : ℕ) (prefix : List Bool) where
  -- every member of the tree below a prefix begins with it and is live
  pub live_from_begins : Each (λ p. BeginsWith prefix p × IsTrue (live p)) (live_from live n prefix)
  live_from_begins = each-from (λ p. BeginsWith prefix p × IsTrue (live p)) (live_from live n prefix) (λ p k.
      let (listed, lives) = member-from_filter live (extensions (n - length prefix) prefix) p k in
      (each-at (BeginsWith prefix) (extensions (n - length prefix) prefix) p (extensions_begin (n - length prefix) prefix) listed, lives))

-- ---- a dead prefix

-- what begins with a dead prefix is dead
pub dead_below : (live : PrefixTest) → ((prefix rest : List Bool) → IsTrue (live (prefix ++ rest)) → IsTrue (live prefix))
    → (prefix rest : List Bool) → live prefix ≡ false → live (prefix ++ rest) ≡ false
dead_below live closed prefix rest dead = at (live (prefix ++ rest)) refl
  where
    at : (t : Bool) → live (prefix ++ rest) ≡ t → live (prefix ++ rest) ≡ false
    at true e = absurd (both_ways (live prefix) dead (closed prefix rest e))
    at false e = e

-- so no extension of it is live
none_of_extensions : (live : PrefixTest) → ((prefix rest : List Bool) → IsTrue (live (prefix ++ rest)) → IsTrue (live prefix))
    → (more : ℕ) (prefix : List Bool) → live prefix ≡ false → filter live (extensions more prefix) ≡ []
none_of_extensions live closed zero prefix dead = rw dead refl
none_of_extensions live closed (suc more) prefix dead =
    let full = none_of_extensions live closed more (prefix ++ true ∷ []) (dead_below live closed prefix (true ∷ []) dead) in
    let empty = none_of_extensions live closed more (prefix ++ false ∷ []) (dead_below live closed prefix (false ∷ []) dead) in
    rw (dead, filter-append live (extensions more (prefix ++ true ∷ [])) (extensions more (prefix ++ false ∷ [])), full, empty) refl

module _ (live : PrefixTest) (n : ℕ) (prefix : List Bool) (dead : live prefix ≡ false)
    (closed : (prefix rest : List Bool) → IsTrue (live (prefix ++ rest)) → IsTrue (live prefix)) where
  -- nothing live begins with a dead prefix,
  pub live_from_none : live_from live n prefix ≡ []
  live_from_none = none_of_extensions live closed (n - length prefix) prefix dead

  -- so there are none to count,
  pub live_count_none : live_count live n prefix ≡ 0
  live_count_none = ap length live_from_none

  -- and none of full length
  pub live_below_none : live_below live n prefix ≡ []
  live_below_none = ap (filter (is_whole n)) live_from_none

-- ---- a live prefix with values left

module _ (live : PrefixTest) (n : ℕ) (prefix : List Bool) (lives : IsTrue (live prefix)) (more : length prefix < n) where
  -- with a value more it has one value less left
  one_less : (value : Bool) → n - length prefix ≡ suc (n - length (prefix ++ value ∷ []))
  one_less value = omega (arith, length-append prefix (value ∷ []))

  -- those with this many values more: it, and those below its two sides
  kept_more : (left : ℕ) → filter live (extensions (suc left) prefix)
      ≡ prefix ∷ (filter live (extensions left (prefix ++ true ∷ [])) ++ filter live (extensions left (prefix ++ false ∷ [])))
  kept_more left = rw (lives, filter-append live (extensions left (prefix ++ true ∷ [])) (extensions left (prefix ++ false ∷ []))) refl

  -- the tree below it is it, then the tree below its full side, then that below its empty side
  pub live_from_more : live_from live n prefix ≡ prefix ∷ (live_from live n (prefix ++ true ∷ []) ++ live_from live n (prefix ++ false ∷ []))
  live_from_more =
      let same : n - length (prefix ++ true ∷ []) ≡ n - length (prefix ++ false ∷ []) = omega (arith, one_less true, one_less false) in
      ap (λ left. filter live (extensions left prefix)) (one_less true) ∙ kept_more (n - length (prefix ++ true ∷ []))
      ∙ ap (λ left. prefix ∷ (live_from live n (prefix ++ true ∷ []) ++ filter live (extensions left (prefix ++ false ∷ [])))) same

  -- it counts one and those of both sides
  pub live_count_more : live_count live n prefix ≡ 1 + (live_count live n (prefix ++ true ∷ []) + live_count live n (prefix ++ false ∷ []))
  live_count_more = omega (arith, ap length live_from_more, length-append (live_from live n (prefix ++ true ∷ [])) (live_from live n (prefix ++ false ∷ [])))

  -- it is not of full length
  pub not_whole : is_whole n prefix ≡ false
  not_whole = grind (arith, nat_tests)

  -- those of full length are those of both sides
  pub live_below_more : live_below live n prefix ≡ live_below live n (prefix ++ true ∷ []) ++ live_below live n (prefix ++ false ∷ [])
  live_below_more = ap (filter (is_whole n)) live_from_more
      ∙ rw (not_whole, filter-append (is_whole n) (live_from live n (prefix ++ true ∷ [])) (live_from live n (prefix ++ false ∷ []))) refl

-- ---- a live prefix of full length

module _ (live : PrefixTest) (n : ℕ) (prefix : List Bool) (lives : IsTrue (live prefix)) (whole : length prefix ≡ n) where
  -- below it stands it alone,
  pub live_from_whole : live_from live n prefix ≡ prefix ∷ []
  live_from_whole =
      let none : n - length prefix ≡ 0 = omega arith in
      ap (λ left. filter live (extensions left prefix)) none ∙ rw lives refl

  -- so it counts one,
  pub live_count_whole : live_count live n prefix ≡ 1
  live_count_whole = ap length live_from_whole

  -- and it is the only one of full length
  pub live_below_whole : live_below live n prefix ≡ prefix ∷ []
  live_below_whole =
      let is : is_whole n prefix ≡ true = grind (arith, nat_tests) in
      ap (filter (is_whole n)) live_from_whole ∙ rw is refl
