-- The live prefixes of full length below a prefix have no repeat: two of different sides differ.
use Rattle.std.proofs.Common.{◌≡◌, ◌≢◌, Bool, true, false, true≢false, ℕ, zero, suc, ◌+◌, ◌<◌, List, [], ◌∷◌, ◌++◌, length, IsTrue, refl, sym, ◌∙◌, append_assoc, length-append, arith}
use Rattle.std.proofs.lemmas.List.{append_cancel_left}
use Rattle.solid_model.proofs.PrefixTree.{BeginsWith, live_from_begins, live_below_none, live_below_more, live_below_whole}
use Rattle.lemmas.specs.Lists.{Each, Ascends}
use Rattle.solid_model.specs.Tree.{PrefixTest, live_from, is_whole, live_below, IsClosed}
use Rattle.lemmas.proofs.Lists.{each-weaker, each-filter, ascends-append}

-- what begins with a list and a full block is not what begins with it and an empty one
sides_differ : (prefix choice other : List Bool) → BeginsWith (prefix ++ true ∷ []) choice → BeginsWith (prefix ++ false ∷ []) other → choice ≢ other
sides_differ prefix choice other (rest, e) (rest_too, f) same =
    let ends : true ∷ rest ≡ false ∷ rest_too = append_cancel_left prefix (true ∷ rest) (false ∷ rest_too)
    (sym (append_assoc prefix (true ∷ []) rest) ∙ sym e ∙ same ∙ f ∙ append_assoc prefix (false ∷ []) rest_too) in
    let heads : true ≡ false = cc in
    true≢false heads

module _ (live : PrefixTest) (n : ℕ) (closed : IsClosed live) where
  -- those of full length begin with the prefix
  below_begins : (prefix : List Bool) → Each (BeginsWith prefix) (live_below live n prefix)
  below_begins prefix = each-filter (is_whole n) (BeginsWith prefix) (live_from live n prefix)
      (each-weaker (λ p. BeginsWith prefix p × IsTrue (live p)) (BeginsWith prefix) (live_from live n prefix) (λ p h. h.0) (live_from_begins live n prefix))

  -- none has a repeat
  abbrev IsOnce : List Bool → Type 0
  IsOnce prefix = Ascends ◌≢◌ (live_below live n prefix)

  -- with values left, those of the full side differ from those of the empty one
  once_more : (prefix : List Bool) → length prefix < n → (t : Bool) → live prefix ≡ t → ((value : Bool) → IsOnce (prefix ++ value ∷ [])) → IsOnce prefix
  once_more prefix more false dead sides = rw (live_below_none live n prefix dead closed) tt
  once_more prefix more true lives sides = rw (live_below_more live n prefix lives more)
      (ascends-append ◌≢◌ (live_below live n (prefix ++ true ∷ [])) (live_below live n (prefix ++ false ∷ [])) (sides true) (sides false)
      (each-weaker (BeginsWith (prefix ++ true ∷ [])) (λ x. Each (λ y. x ≢ y) (live_below live n (prefix ++ false ∷ []))) (live_below live n (prefix ++ true ∷ []))
      (λ x h. each-weaker (BeginsWith (prefix ++ false ∷ [])) (λ y. x ≢ y) (live_below live n (prefix ++ false ∷ []))
      (λ y k. sides_differ prefix x y h k) (below_begins (prefix ++ false ∷ []))) (below_begins (prefix ++ true ∷ []))))

  -- of full length there is one at most
  once_whole : (prefix : List Bool) → length prefix ≡ n → (t : Bool) → live prefix ≡ t → IsOnce prefix
  once_whole prefix whole false dead = rw (live_below_none live n prefix dead closed) tt
  once_whole prefix whole true lives = rw (live_below_whole live n prefix lives whole) (tt, tt)

  -- so it goes by the number of values left
  once : (left : ℕ) (prefix : List Bool) → length prefix + left ≡ n → IsOnce prefix
  once zero prefix long = once_whole prefix (omega (arith, long)) (live prefix) refl
  once (suc left) prefix long = once_more prefix (omega (arith, long)) (live prefix) refl
      (λ value. once left (prefix ++ value ∷ []) (omega (arith, long, length-append prefix (value ∷ []))))

  -- all choices are without repeats
  pub once_below : Ascends ◌≢◌ (live_below live n [])
  once_below = once n [] (omega arith)
