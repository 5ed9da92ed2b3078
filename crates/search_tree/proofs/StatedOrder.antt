-- The stated order of prefixes: a prefix before its extensions, and full before empty.
use Rattle.std.proofs.Common.{◌≡◌, ◌⊎◌, inl, inr, Bool, true, false, ℕ, zero, suc, List, [], ◌∷◌, ◌++◌, length, refl, sym, ◌∙◌, subst, append_assoc, append-nil, arith}
use Rattle.std.proofs.lemmas.Bool.{both_ways}
use Rattle.solid_model.specs.Choices.{ChoicePrecedes}
use Rattle.lemmas.specs.Lists.{Each, Ascends}
use Rattle.solid_model.specs.Tree.{PrefixTest, extensions, live_from}
use Rattle.lemmas.proofs.Lists.{each-append, ascends-append, ascends-filter}

-- a prefix comes before another: it is its beginning, or is full where they first differ
abbrev pub Before : List Bool → List Bool → Type 0
Before [] [] = ⊥
Before [] (y ∷ ys) = Unit
Before (x ∷ xs) [] = ⊥
Before (x ∷ xs) (y ∷ ys) = ((x ≡ true) × (y ≡ false)) ⊎ ((x ≡ y) × Before xs ys)

-- not before itself
pub not_itself : (xs : List Bool) → Before xs xs → ⊥
not_itself [] h = h
not_itself (x ∷ xs) (inl (full, empty)) = both_ways x empty full
not_itself (x ∷ xs) (inr (same, h)) = not_itself xs h

-- before what begins with it and is longer
pub before_longer : (prefix rest : List Bool) (value : Bool) → Before prefix (prefix ++ value ∷ rest)
before_longer [] rest value = tt
before_longer (x ∷ prefix) rest value = inr (refl, before_longer prefix rest value)

-- full before empty
pub before_sides : (prefix rest other : List Bool) → Before (prefix ++ true ∷ rest) (prefix ++ false ∷ other)
before_sides [] rest other = inl (refl, refl)
before_sides (x ∷ prefix) rest other = inr (refl, before_sides prefix rest other)

-- not both ways
pub one_way : (xs ys : List Bool) → Before xs ys → Before ys xs → ⊥
one_way [] [] h k = h
one_way [] (y ∷ ys) h k = k
one_way (x ∷ xs) [] h k = h
one_way (x ∷ xs) (y ∷ ys) (inl (full, empty)) (inl (other, none)) = both_ways x none full
one_way (x ∷ xs) (y ∷ ys) (inl (full, empty)) (inr (same, k)) = both_ways y empty (same ∙ full)
one_way (x ∷ xs) (y ∷ ys) (inr (same, h)) (inl (full, empty)) = both_ways x empty (same ∙ full)
one_way (x ∷ xs) (y ∷ ys) (inr (same, h)) (inr (_, k)) = one_way xs ys h k

-- equally long prefixes are in the order of choices
pub before_choice : (xs ys : List Bool) → length xs ≡ length ys → Before xs ys → ChoicePrecedes xs ys
before_choice [] [] same h = h
before_choice [] (y ∷ ys) same h = absurd (omega (arith, same))
before_choice (x ∷ xs) [] same h = h
before_choice (x ∷ xs) (y ∷ ys) same (inl h) = inl h
before_choice (x ∷ xs) (y ∷ ys) same (inr (e, h)) = inr (e, before_choice xs ys (omega (arith, same)) h)

-- ---- extensions

-- what holds of whatever begins with a prefix holds of each extension
pub each_extension : (P : List Bool → Type 0) (more : ℕ) (prefix : List Bool) → ((rest : List Bool) → P (prefix ++ rest)) → Each P (extensions more prefix)
each_extension P zero prefix h = (subst P (append-nil prefix) (h []), tt)
each_extension P (suc more) prefix h = (
  subst P (append-nil prefix) (h []),
  each-append P (extensions more (prefix ++ true ∷ [])) (extensions more (prefix ++ false ∷ []))
      (each_extension P more (prefix ++ true ∷ []) (below true)) (each_extension P more (prefix ++ false ∷ []) (below false)),
)
  where
    below : (value : Bool) (rest : List Bool) → P ((prefix ++ value ∷ []) ++ rest)
    below value rest = subst P (sym (append_assoc prefix (value ∷ []) rest)) (h (value ∷ rest))

-- they are in the stated order
ascending_extensions : (more : ℕ) (prefix : List Bool) → Ascends Before (extensions more prefix)
ascending_extensions zero prefix = (tt, tt)
ascending_extensions (suc more) prefix = (
  each-append (Before prefix) (sides true) (sides false) (longer true) (longer false),
  ascends-append Before (sides true) (sides false) (ascending_extensions more (prefix ++ true ∷ [])) (ascending_extensions more (prefix ++ false ∷ [])) across,
)
  where
    sides : Bool → List (List Bool)
    sides value = extensions more (prefix ++ value ∷ [])

    longer : (value : Bool) → Each (Before prefix) (sides value)
    longer value = each_extension (Before prefix) more (prefix ++ value ∷ [])
        (λ rest. subst (Before prefix) (sym (append_assoc prefix (value ∷ []) rest)) (before_longer prefix rest value))

    across : Each (λ x. Each (Before x) (sides false)) (sides true)
    across = each_extension (λ x. Each (Before x) (sides false)) more (prefix ++ true ∷ []) (λ rest.
        each_extension (Before ((prefix ++ true ∷ []) ++ rest)) more (prefix ++ false ∷ []) (λ other.
        subst (λ x. Before x ((prefix ++ false ∷ []) ++ other)) (sym (append_assoc prefix (true ∷ []) rest))
        (subst (Before (prefix ++ true ∷ rest)) (sym (append_assoc prefix (false ∷ []) other)) (before_sides prefix rest other))))

-- and so are the live ones
pub ascending_tree : (live : PrefixTest) (n : ℕ) (prefix : List Bool) → Ascends Before (live_from live n prefix)
ascending_tree live n prefix = ascends-filter live Before (extensions _ prefix) (ascending_extensions _ prefix)
