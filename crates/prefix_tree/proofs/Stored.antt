-- Stored prefixes and their places.
use Rattle.std.proofs.Common.{◌≡◌, ℕ, ◌<◌, Bool, List, [], ◌∷◌, ◌++◌, map, length, refl, ◌∙◌, ap₂, arith}
use Rattle.std.proofs.lemmas.List.{get_or_append_left, get_or_push, length_push, length-append}
use Rattle.lemmas.specs.Lists.{Each}
use Rattle.prefix_tree.specs.Places.{prefix_at, StandsAt}

-- what stands at a place stands there where more are stored
pub stands-grown : (stored more : List (List Bool)) (p : List Bool) (k : ℕ) → StandsAt stored p k → StandsAt (stored ++ more) p k
stands-grown stored more p k s = record {
  below = (let h = s.below in omega (arith, length-append stored more));
  there = get_or_append_left stored more [] k s.below ∙ s.there;
}

-- one more stands behind the others
pub stands-last : (stored : List (List Bool)) (p : List Bool) → StandsAt (stored ++ p ∷ []) p (length stored)
stands-last stored p = record { below = omega (arith, length_push stored p); there = get_or_push stored p [] (length stored) refl }

-- ---- lists of places

-- places of stored prefixes name the same where more are stored
pub named-grown : (stored more : List (List Bool)) (ks : List ℕ) → Each (λ k. k < length stored) ks → map (prefix_at (stored ++ more)) ks ≡ map (prefix_at stored) ks
named-grown stored more [] h = refl
named-grown stored more (k ∷ ks) h = ap₂ ◌∷◌ (get_or_append_left stored more [] k h.0) (named-grown stored more ks h.1)

-- and are those of stored ones there
pub below-grown : (stored more : List (List Bool)) (ks : List ℕ) → Each (λ k. k < length stored) ks → Each (λ k. k < length (stored ++ more)) ks
below-grown stored more [] h = tt
below-grown stored more (k ∷ ks) h = ((let l = h.0 in omega (arith, length-append stored more)), below-grown stored more ks h.1)
