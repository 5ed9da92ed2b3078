-- Members by their places in a list, and std's words for members, for each and for ascending lists.
use Rattle.std.proofs.Common.{◌≡◌, inl, inr, ℕ, zero, suc, ◌<◌, List, [], ◌∷◌, length, get_or, refl, subst, arith}
use Rattle.std.specs.List.{All, AllPairs, Contains}
use Rattle.lemmas.specs.Lists.{Member, Each, Ascends}
use Rattle.lemmas.proofs.Lists.{each-at, each-from}

-- what stands at a place is a member
pub member-at : {A : Type 0} (xs : List A) (i : ℕ) (d : A) → i < length xs → Member xs (get_or xs i d)
member-at [] i d l = absurd (omega arith)
member-at (x ∷ xs) zero d l = inl refl
member-at (x ∷ xs) (suc i) d l = inr (member-at xs i d (omega arith))

-- a member stands at some place
pub member-place : {A : Type 0} (xs : List A) (x : A) → Member xs x → (k : ℕ) × (k < length xs) × ((d : A) → get_or xs k d ≡ x)
member-place [] x k = absurd k
member-place (y ∷ xs) x (inl e) = (0, omega arith, λ d. e)
member-place (y ∷ xs) x (inr k) = let p = member-place xs x k in (suc p.0, omega arith, p.2)

-- what std calls contained is a member
pub contains-member : {A : Type 0} (xs : List A) (x : A) → Contains xs x → Member xs x
contains-member xs x c = subst (Member xs) c.2 (member-at xs c.0 x c.1)

-- and the other way round
pub member-contains : {A : Type 0} (xs : List A) (x : A) → Member xs x → Contains xs x
member-contains xs x k = let p = member-place xs x k in (p.0, p.1, p.2 x)

-- what holds at every place holds of each member
pub all-each : {A : Type 0} (P : A → Type 0) (xs : List A) → All P xs → Each P xs
all-each P xs h = each-from P xs (λ x k. let p = member-place xs x k in subst P (p.2 x) (h p.0 x p.1))

-- and the other way round
pub each-all : {A : Type 0} (P : A → Type 0) (xs : List A) → Each P xs → All P xs
each-all P xs h k d l = each-at P xs (get_or xs k d) h (member-at xs k d l)

-- a list ascends where each earlier place stands in the relation to each later one
pub pairs-ascends : {A : Type 0} (R : A → A → Type 0) (xs : List A) → AllPairs R xs → Ascends R xs
pairs-ascends R [] h = tt
pairs-ascends R (x ∷ xs) h =
    (all-each (R x) xs (λ k d l. h 0 (suc k) d (omega arith) (omega arith)), pairs-ascends R xs (λ i j d l m. h (suc i) (suc j) d (omega arith) (omega arith)))

-- and the other way round
pub ascends-pairs : {A : Type 0} (R : A → A → Type 0) (xs : List A) → Ascends R xs → AllPairs R xs
ascends-pairs R [] h i j d l m = absurd (omega arith)
ascends-pairs R (x ∷ xs) h i zero d l m = absurd (omega arith)
ascends-pairs R (x ∷ xs) h zero (suc j) d l m = each-all (R x) xs h.0 j d (omega arith)
ascends-pairs R (x ∷ xs) h (suc i) (suc j) d l m = ascends-pairs R xs h.1 i j d (omega arith) (omega arith)
