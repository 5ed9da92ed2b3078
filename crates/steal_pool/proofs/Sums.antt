-- Sums over lists, and over the views of a deque's passes.
use Rattle.std.proofs.Common.{◌≡◌, ◌≢◌, ℕ, zero, suc, ◌+◌, ◌≤◌, List, [], ◌∷◌, ◌++◌, set, sym, refl, ap, subst, ⊎_elim, arith}
use mathlib.Core.Option.{some, some-ne-none, some-injective}
use lib.ListN.{get_elem?}
use Rattle.crossbeam_deque.proofs.Lists.{at_set, at_snoc}
use Rattle.steal_pool.specs.declared.rule.Account.{Account}
use Rattle.steal_pool.specs.Accounts.{IdleIsEmpty}
use Rattle.lemmas.specs.Counts.{total}

pub total_set : {A : Type 0} (f : A → ℕ) (views : List A) (port : ℕ) (v w : A) → get_elem? views port ≡ some v → total f (set views port w) + f v ≡ total f views + f w
total_set f [] zero v w at = absurd (some-ne-none v (sym at))
total_set f [] (suc p) v w at = absurd (some-ne-none v (sym at))
total_set f (x ∷ xs) zero v w at = let e : f x ≡ f v = ap f (some-injective _ _ at) in omega arith
total_set f (x ∷ xs) (suc p) v w at = let e = total_set f xs p v w at in omega arith

pub elem_le : {A : Type 0} (f : A → ℕ) (views : List A) (port : ℕ) (v : A) → get_elem? views port ≡ some v → f v ≤ total f views
elem_le f [] zero v at = absurd (some-ne-none v (sym at))
elem_le f [] (suc p) v at = absurd (some-ne-none v (sym at))
elem_le f (x ∷ xs) zero v at = let e : f x ≡ f v = ap f (some-injective _ _ at) in omega arith
elem_le f (x ∷ xs) (suc p) v at = let e = elem_le f xs p v at in omega arith

pub all_zero : {A : Type 0} (f : A → ℕ) (views : List A) → ((j : ℕ) (u : A) → get_elem? views j ≡ some u → f u ≡ 0) → total f views ≡ 0
all_zero f [] none = refl
all_zero f (x ∷ xs) none = let e = none 0 x refl in let rest = all_zero f xs (λ j u at. none (suc j) u at) in omega arith

pub idle_set : (views : List Account) (port : ℕ) (w : Account) → (w.parts ≡ 0 → (w.put ≡ []) × (w.taken ≡ [])) → IdleIsEmpty views → IdleIsEmpty (set views port w)
idle_set views port w mine idle j u at none = ⊎_elim
    (λ (x : (j ≡ port) × (w ≡ u)). subst (λ (y : Account). y.parts ≡ 0 → (y.put ≡ []) × (y.taken ≡ [])) x.1 mine none)
    (λ (x : (j ≢ port) × (get_elem? views j ≡ some u)). idle j u x.1 none) (at_set views port j w u at)

pub idle_snoc : (views : List Account) (w : Account) → (w.parts ≡ 0 → (w.put ≡ []) × (w.taken ≡ [])) → IdleIsEmpty views → IdleIsEmpty (views ++ w ∷ [])
idle_snoc views w mine idle j u at none = ⊎_elim
    (λ (x : get_elem? views j ≡ some u). idle j u x none)
    (λ (x : w ≡ u). subst (λ (y : Account). y.parts ≡ 0 → (y.put ≡ []) × (y.taken ≡ [])) x mine none) (at_snoc views w u j at)

-- where one pass has all parts, what the others know counts for nothing
pub alone : (f : Account → ℕ) (views : List Account) (port : ℕ) (v : Account) → get_elem? views port ≡ some v → total (λ y. y.parts) views ≡ v.parts
    → ((j : ℕ) (u : Account) → get_elem? views j ≡ some u → u.parts ≡ 0 → f u ≡ 0) → total f views ≡ f v
alone f [] zero v at whole idle = absurd (some-ne-none v (sym at))
alone f [] (suc p) v at whole idle = absurd (some-ne-none v (sym at))
alone f (x ∷ xs) zero v at whole idle =
    let e : x ≡ v = some-injective _ _ at in
    let p : x.parts ≡ v.parts = ap (λ y. y.parts) e in
    let q : f x ≡ f v = ap f e in
    let none : total (λ y. y.parts) xs ≡ 0 = omega arith in
    let rest = all_zero f xs (λ j u there. idle (suc j) u there (let le = elem_le (λ y. y.parts) xs j u there in omega arith)) in
    omega arith
alone f (x ∷ xs) (suc p) v at whole idle =
    let le = elem_le (λ y. y.parts) xs p v at in
    let none : x.parts ≡ 0 = omega arith in
    let first = idle 0 x refl none in
    let rest = alone f xs p v at (omega arith) (λ j u there. idle (suc j) u there) in
    omega arith
