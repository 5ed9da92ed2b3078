-- Facts of lists: members, what holds of each, ascending lists, lengths, sums, and a least member.
use Rattle.std.proofs.Common.{◌≡◌, ◌⊎◌, inl, inr, ℕ, zero, suc, ◌+◌, ◌<◌, Bool, true, false, cond, List, [], ◌∷◌, ◌++◌, length, map, filter, ℤ, ◌≤ℤ◌, refl, sym, ◌∙◌, ap, ap₂, subst, arith}
use Rattle.std.proofs.lemmas.Int.{ints, by_lt_z}
use Rattle.std.proofs.lemmas.Bool.{both_ways, cases_lt}
use Rattle.lemmas.specs.Lists.{Member, Each, Ascends}
use Rattle.lemmas.specs.Counts.{total}

-- ---- members

-- a member of the first list is a member of both together
pub member-append_left : {A : Type 0} (xs ys : List A) (x : A) → Member xs x → Member (xs ++ ys) x
member-append_left [] ys x k = absurd k
member-append_left (y ∷ xs) ys x (inl e) = inl e
member-append_left (y ∷ xs) ys x (inr k) = inr (member-append_left xs ys x k)

-- a member of the second list is a member of both together
pub member-append_right : {A : Type 0} (xs ys : List A) (x : A) → Member ys x → Member (xs ++ ys) x
member-append_right [] ys x k = k
member-append_right (y ∷ xs) ys x k = inr (member-append_right xs ys x k)

-- a member of both together is a member of one
pub member-append : {A : Type 0} (xs ys : List A) (x : A) → Member (xs ++ ys) x → Member xs x ⊎ Member ys x
member-append [] ys x k = inr k
member-append (y ∷ xs) ys x (inl e) = inl (inl e)
member-append {A} (y ∷ xs) ys x (inr k) = elim (member-append xs ys x k) as (λ _. Member (y ∷ xs) x ⊎ Member ys x) [ inl l ↦ inl (inr l) | inr r ↦ inr r ]

-- the image of a member is a member of the images
pub member-map : {A B : Type 0} (f : A → B) (xs : List A) (x : A) → Member xs x → Member (map f xs) (f x)
member-map f [] x k = k
member-map f (y ∷ xs) x (inl e) = inl (ap f e)
member-map f (y ∷ xs) x (inr k) = inr (member-map f xs x k)

-- a member of the images is the image of a member
pub member-from_map : {A B : Type 0} (f : A → B) (xs : List A) (y : B) → Member (map f xs) y → (x : A) × Member xs x × (f x ≡ y)
member-from_map f [] y k = absurd k
member-from_map f (x ∷ xs) y (inl e) = (x, inl refl, e)
member-from_map f (x ∷ xs) y (inr k) = let m = member-from_map f xs y k in (m.0, inr m.1, m.2)

-- the last of a list is a member
pub member-push_last : {A : Type 0} (xs : List A) (x : A) → Member (xs ++ x ∷ []) x
member-push_last xs x = member-append_right xs (x ∷ []) x (inl refl)

-- a member of a list with one more at the end is one of the list, or the last
pub member-push : {A : Type 0} (xs : List A) (x y : A) → Member (xs ++ x ∷ []) y → Member xs y ⊎ (x ≡ y)
member-push {A} xs x y k = elim (member-append xs (x ∷ []) y k) as (λ _. Member xs y ⊎ (x ≡ y)) [ inl l ↦ inl l | inr r ↦ elim r as (λ _. Member xs y ⊎ (x ≡ y)) [ inl e ↦ inr e | inr none ↦ absurd none ] ]

-- a member that passes the test is one of those kept
pub member-filter : {A : Type 0} (p : A → Bool) (xs : List A) (x : A) → Member xs x → p x ≡ true → Member (filter p xs) x
member-filter p [] x k t = k
member-filter {A} p (y ∷ xs) x k t = at (p y) refl k (λ l. member-filter p xs x l t)
  where
    at : (u : Bool) → p y ≡ u → Member (y ∷ xs) x → (Member xs x → Member (filter p xs) x) → Member (cond u (y ∷ filter p xs) (filter p xs)) x
    at true e (inl f) later = inl f
    at true e (inr l) later = inr (later l)
    at false e (inl f) later = absurd (both_ways (p y) e (ap p f ∙ t))
    at false e (inr l) later = later l

-- one of those kept is a member that passes the test
pub member-from_filter : {A : Type 0} (p : A → Bool) (xs : List A) (x : A) → Member (filter p xs) x → Member xs x × (p x ≡ true)
member-from_filter p [] x k = absurd k
member-from_filter {A} p (y ∷ xs) x k = at (p y) refl k (λ l. let m = member-from_filter p xs x l in (inr m.0, m.1))
  where
    at : (u : Bool) → p y ≡ u → Member (cond u (y ∷ filter p xs) (filter p xs)) x → (Member (filter p xs) x → Member (y ∷ xs) x × (p x ≡ true)) → Member (y ∷ xs) x × (p x ≡ true)
    at true e (inl f) later = (inl f, sym (ap p f) ∙ e)
    at true e (inr l) later = later l
    at false e l later = later l

-- ---- what holds of each member

-- what holds of each member holds of this one
pub each-at : {A : Type 0} (P : A → Type 0) (xs : List A) (x : A) → Each P xs → Member xs x → P x
each-at P [] x h k = absurd k
each-at P (y ∷ xs) x h (inl e) = subst P e h.0
each-at P (y ∷ xs) x h (inr k) = each-at P xs x h.1 k

-- what holds of whatever is a member holds of each
pub each-from : {A : Type 0} (P : A → Type 0) (xs : List A) → ((x : A) → Member xs x → P x) → Each P xs
each-from P [] h = tt
each-from P (x ∷ xs) h = (h x (inl refl), each-from P xs (λ y k. h y (inr k)))

-- a weaker fact holds of each too
pub each-weaker : {A : Type 0} (P Q : A → Type 0) (xs : List A) → ((x : A) → P x → Q x) → Each P xs → Each Q xs
each-weaker P Q [] weaken h = tt
each-weaker P Q (x ∷ xs) weaken h = (weaken x h.0, each-weaker P Q xs weaken h.1)

-- two facts that hold of each
pub each-both : {A : Type 0} (P Q : A → Type 0) (xs : List A) → Each P xs → Each Q xs → Each (λ x. P x × Q x) xs
each-both P Q [] h k = tt
each-both P Q (x ∷ xs) h k = ((h.0, k.0), each-both P Q xs h.1 k.1)

-- what holds of each of two lists holds of each of both together
pub each-append : {A : Type 0} (P : A → Type 0) (xs ys : List A) → Each P xs → Each P ys → Each P (xs ++ ys)
each-append P [] ys h k = k
each-append P (x ∷ xs) ys h k = (h.0, each-append P xs ys h.1 k)

-- what holds of each of both holds of each of the first
pub each-append_left : {A : Type 0} (P : A → Type 0) (xs ys : List A) → Each P (xs ++ ys) → Each P xs
each-append_left P [] ys h = tt
each-append_left P (x ∷ xs) ys h = (h.0, each-append_left P xs ys h.1)

-- and of each of the second
pub each-append_right : {A : Type 0} (P : A → Type 0) (xs ys : List A) → Each P (xs ++ ys) → Each P ys
each-append_right P [] ys h = h
each-append_right P (x ∷ xs) ys h = each-append_right P xs ys h.1

-- one more at the end
pub each-push : {A : Type 0} (P : A → Type 0) (xs : List A) (x : A) → Each P xs → P x → Each P (xs ++ x ∷ [])
each-push P xs x h k = each-append P xs (x ∷ []) h (k, tt)

-- of each image
pub each-map : {A B : Type 0} (f : A → B) (P : B → Type 0) (xs : List A) → Each (λ x. P (f x)) xs → Each P (map f xs)
each-map f P [] h = tt
each-map f P (x ∷ xs) h = (h.0, each-map f P xs h.1)

-- what holds of each image
pub each-from_map : {A B : Type 0} (f : A → B) (P : B → Type 0) (xs : List A) → Each P (map f xs) → Each (λ x. P (f x)) xs
each-from_map f P [] h = tt
each-from_map f P (x ∷ xs) h = (h.0, each-from_map f P xs h.1)

-- of each of those kept
pub each-filter : {A : Type 0} (p : A → Bool) (P : A → Type 0) (xs : List A) → Each P xs → Each P (filter p xs)
each-filter p P xs h = each-from P (filter p xs) (λ x k. each-at P xs x h (member-from_filter p xs x k).0)

-- ---- ascending lists

-- two ascending lists ascend together, where each of the first stands in the relation to each of the second
pub ascends-append : {A : Type 0} (R : A → A → Type 0) (xs ys : List A) → Ascends R xs → Ascends R ys → Each (λ x. Each (R x) ys) xs → Ascends R (xs ++ ys)
ascends-append R [] ys h k across = k
ascends-append R (x ∷ xs) ys h k across = (each-append (R x) xs ys h.0 across.0, ascends-append R xs ys h.1 k across.1)

-- the first part of an ascending list ascends
pub ascends-append_left : {A : Type 0} (R : A → A → Type 0) (xs ys : List A) → Ascends R (xs ++ ys) → Ascends R xs
ascends-append_left R [] ys h = tt
ascends-append_left R (x ∷ xs) ys h = (each-append_left (R x) xs ys h.0, ascends-append_left R xs ys h.1)

-- and so does the second
pub ascends-append_right : {A : Type 0} (R : A → A → Type 0) (xs ys : List A) → Ascends R (xs ++ ys) → Ascends R ys
ascends-append_right R [] ys h = h
ascends-append_right R (x ∷ xs) ys h = ascends-append_right R xs ys h.1

-- each of the first part stands in the relation to each of the second
pub ascends-append_across : {A : Type 0} (R : A → A → Type 0) (xs ys : List A) → Ascends R (xs ++ ys) → Each (λ x. Each (R x) ys) xs
ascends-append_across R [] ys h = tt
ascends-append_across R (x ∷ xs) ys h = (each-append_right (R x) xs ys h.0, ascends-append_across R xs ys h.1)

-- one more at the end, after each of the others
pub ascends-push : {A : Type 0} (R : A → A → Type 0) (xs : List A) (x : A) → Ascends R xs → Each (λ y. R y x) xs → Ascends R (xs ++ x ∷ [])
ascends-push R xs x h k = ascends-append R xs (x ∷ []) h (tt, tt) (each-weaker (λ y. R y x) (λ y. Each (R y) (x ∷ [])) xs (λ y r. (r, tt)) k)

-- of two members of an ascending list one stands in the relation to the other, unless they are one
pub ascends-members : {A : Type 0} (R : A → A → Type 0) (xs : List A) (x y : A) → Ascends R xs → Member xs x → Member xs y → (x ≡ y) ⊎ (R x y ⊎ R y x)
ascends-members R [] x y h k l = absurd k
ascends-members R (z ∷ xs) x y h (inl e) (inl f) = inl (sym e ∙ f)
ascends-members R (z ∷ xs) x y h (inl e) (inr l) = inr (inl (subst (λ w. R w y) e (each-at (R z) xs y h.0 l)))
ascends-members R (z ∷ xs) x y h (inr k) (inl f) = inr (inr (subst (λ w. R w x) f (each-at (R z) xs x h.0 k)))
ascends-members R (z ∷ xs) x y h (inr k) (inr l) = ascends-members R xs x y h.1 k l

-- the images of an ascending list ascend, by a relation that the images take over
pub ascends-map : {A B : Type 0} (f : A → B) (R : A → A → Type 0) (S : B → B → Type 0) (xs : List A) → ((x y : A) → R x y → S (f x) (f y)) → Ascends R xs → Ascends S (map f xs)
ascends-map f R S [] kept h = tt
ascends-map f R S (x ∷ xs) kept h = (each-map f (S (f x)) xs (each-weaker (R x) (λ y. S (f x) (f y)) xs (kept x) h.0), ascends-map f R S xs kept h.1)

-- a list whose images ascend ascends, by a relation that the images give back
pub ascends-from_map : {A B : Type 0} (f : A → B) (R : A → A → Type 0) (S : B → B → Type 0) (xs : List A) → ((x y : A) → S (f x) (f y) → R x y) → Ascends S (map f xs) → Ascends R xs
ascends-from_map f R S [] kept h = tt
ascends-from_map f R S (x ∷ xs) kept h = (each-weaker (λ y. S (f x) (f y)) (R x) xs (kept x) (each-from_map f (S (f x)) xs h.0), ascends-from_map f R S xs kept h.1)

-- what is kept of an ascending list ascends
pub ascends-filter : {A : Type 0} (p : A → Bool) (R : A → A → Type 0) (xs : List A) → Ascends R xs → Ascends R (filter p xs)
ascends-filter p R [] h = tt
ascends-filter p R (x ∷ xs) h = at (p x) (ascends-filter p R xs h.1)
  where
    at : (u : Bool) → Ascends R (filter p xs) → Ascends R (cond u (x ∷ filter p xs) (filter p xs))
    at true rest = (each-filter p (R x) xs h.0, rest)
    at false rest = rest

-- ---- lists, one after another

-- the first n lists that a function gives, one after another
abbrev pub appended : {A : Type 0} → (ℕ → List A) → ℕ → List A
appended f zero = []
appended f (suc n) = appended f n ++ f n

-- what holds of each member of each list holds of each member of them together
pub each-appended : {A : Type 0} (P : A → Type 0) (f : ℕ → List A) → ((k : ℕ) → Each P (f k)) → (n : ℕ) → Each P (appended f n)
each-appended P f each zero = tt
each-appended P f each (suc n) = each-append P (appended f n) (f n) (each-appended P f each n) (each n)

-- a member of a list is a member of them together
pub member-appended : {A : Type 0} (f : ℕ → List A) (n k : ℕ) (x : A) → k < n → Member (f k) x → Member (appended f n) x
member-appended f zero k x l m = absurd (omega arith)
member-appended f (suc n) k x l m = elim (cases_lt k n) as (λ _. Member (appended f n ++ f n) x) [
  | inl earlier ↦ member-append_left (appended f n) (f n) x (member-appended f n k x earlier m)
  | inr later ↦ (let last : k ≡ n = omega arith in member-append_right (appended f n) (f n) x (subst (λ j. Member (f j) x) last m))
]

-- a member of them together is a member of some list
pub member-from_appended : {A : Type 0} (f : ℕ → List A) (n : ℕ) (x : A) → Member (appended f n) x → (k : ℕ) × (k < n) × Member (f k) x
member-from_appended f zero x m = absurd m
member-from_appended f (suc n) x m = elim (member-append (appended f n) (f n) x m) as (λ _. (k : ℕ) × (k < suc n) × Member (f k) x) [
  | inl l ↦ (let p = member-from_appended f n x l in (p.0, omega arith, p.2))
  | inr l ↦ (n, omega arith, l)
]

-- ascending lists ascend together, where each member of a list stands in the relation to each of a later one
pub ascends-appended : {A : Type 0} (R : A → A → Type 0) (f : ℕ → List A) (n : ℕ) → ((k : ℕ) → k < n → Ascends R (f k))
    → ((j k : ℕ) (x y : A) → j < k → k < n → Member (f j) x → Member (f k) y → R x y) → Ascends R (appended f n)
ascends-appended R f zero each across = tt
ascends-appended R f (suc n) each across =
    ascends-append R (appended f n) (f n)
    (ascends-appended R f n (λ k l. each k (omega arith)) (λ j k x y earlier l. across j k x y earlier (omega arith))) (each n (omega arith))
    (each-from (λ x. Each (R x) (f n)) (appended f n) (λ x m. each-from (R x) (f n) (λ y l.
    let p = member-from_appended f n x m in across p.0 n x y p.1 (omega arith) p.2 l)))

-- ---- lengths

-- a list that isn't empty is longer than that
pub some_length : {A : Type 0} (xs : List A) → (xs ≡ [] → ⊥) → 0 < length xs
some_length [] none = absurd (none refl)
some_length (x ∷ xs) none = omega arith

-- ---- sums

pub total-append : {A : Type 0} (f : A → ℕ) (xs ys : List A) → total f (xs ++ ys) ≡ total f xs + total f ys
total-append f [] ys = omega arith
total-append f (x ∷ xs) ys = let e = total-append f xs ys in omega arith

pub total_push : {A : Type 0} (f : A → ℕ) (xs : List A) (x : A) → total f (xs ++ x ∷ []) ≡ total f xs + f x
total_push f xs x = let e = total-append f xs (x ∷ []) in omega arith

-- ---- two ascending lists with the same members

-- each member of the first list is one of the second
abbrev pub IsWithin : {A : Type 0} → List A → List A → Type 0
IsWithin {A} xs ys = (x : A) → Member xs x → Member ys x

module _ {A : Type 0} (R : A → A → Type 0) (one_way : (x y : A) → R x y → R y x → ⊥) where
  -- their heads are one
  same_heads : (x y : A) (xs ys : List A) → Each (R x) xs → Each (R y) ys → Member (y ∷ ys) x → Member (x ∷ xs) y → x ≡ y
  same_heads x y xs ys hx hy (inl e) l = sym e
  same_heads x y xs ys hx hy (inr k) (inl e) = e
  same_heads x y xs ys hx hy (inr k) (inr l) = absurd (one_way x y (each-at (R x) xs y hx l) (each-at (R y) ys x hy k))

  -- past one head the first list's members are the second's
  within_tails : (x y : A) (xs ys : List A) → x ≡ y → Each (R x) xs → IsWithin (x ∷ xs) (y ∷ ys) → IsWithin xs ys
  within_tails x y xs ys e hx within z k = elim (within z (inr k)) as (λ _. Member ys z) [ inl f ↦ (let r = each-at (R x) xs z hx k in let q : R x x = subst (R x) (sym (e ∙ f)) r in absurd (one_way x x q q)) | inr l ↦ l ]

  -- two ascending lists with the same members are equal
  pub same_ascending : (xs ys : List A) → Ascends R xs → Ascends R ys → IsWithin xs ys → IsWithin ys xs → xs ≡ ys
  same_ascending [] [] h k there back = refl
  same_ascending [] (y ∷ ys) h k there back = absurd (back y (inl refl))
  same_ascending (x ∷ xs) [] h k there back = absurd (there x (inl refl))
  same_ascending (x ∷ xs) (y ∷ ys) h k there back =
      let e : x ≡ y = same_heads x y xs ys h.0 k.0 (there x (inl refl)) (back y (inl refl)) in
      ap₂ ◌∷◌ e (same_ascending xs ys h.1 k.1 (within_tails x y xs ys e h.0 there) (within_tails y x ys xs (sym e) k.0 back))

-- ---- a least member

-- m is a member with the property p, and comes no later than any member with it
abbrev pub IsLeast : {A : Type 0} → (A → A → Type 0) → (A → Bool) → List A → A → Type 0
IsLeast {A} L p s m = Member s m × (p m ≡ true) × ((b : A) → Member s b → p b ≡ true → L m b)

-- no member has the property, or one of those that have it comes first
abbrev pub HasLeast : {A : Type 0} → (A → A → Type 0) → (A → Bool) → List A → Type 0
HasLeast {A} L p s = ((b : A) → Member s b → p b ≡ true → ⊥) ⊎ ((m : A) × IsLeast L p s m)

module _ {A : Type 0} (L : A → A → Type 0) (some : (a b : A) → L a b ⊎ L b a) (onward : (a b c : A) → L a b → L b c → L a c) (p : A → Bool) where
  -- each comes no later than itself
  itself : (a : A) → L a a
  itself a = elim (some a a) as (λ _. L a a) [ inl l ↦ l | inr l ↦ l ]

  -- the head has the property, and the tail has a least member
  least_of_both : (x : A) (xs : List A) (m : A) → p x ≡ true → IsLeast L p xs m → L x m ⊎ L m x → HasLeast L p (x ∷ xs)
  least_of_both x xs m t least (inl l) = inr (x, (inl refl, t, λ b k q. elim k as (λ _. L x b) [ inl e ↦ subst (L x) e (itself x) | inr j ↦ onward x m b l (least.2 b j q) ]))
  least_of_both x xs m t least (inr l) = inr (m, (inr least.0, least.1, λ b k q. elim k as (λ _. L m b) [ inl e ↦ subst (L m) e l | inr j ↦ least.2 b j q ]))

  -- one more member in front
  least_with : (x : A) (xs : List A) (t : Bool) → p x ≡ t → HasLeast L p xs → HasLeast L p (x ∷ xs)
  least_with x xs true t (inl none) = inr (x, (inl refl, t, λ b k q. elim k as (λ _. L x b) [ inl e ↦ subst (L x) e (itself x) | inr j ↦ absurd (none b j q) ]))
  least_with x xs true t (inr (m, least)) = least_of_both x xs m t least (some x m)
  least_with x xs false t (inl none) = inl (λ b k q. elim k as (λ _. ⊥) [ inl e ↦ both_ways (p x) t (ap p e ∙ q) | inr j ↦ none b j q ])
  least_with x xs false t (inr (m, least)) = inr (m, (inr least.0, least.1, λ b k q. elim k as (λ _. L m b) [ inl e ↦ absurd (both_ways (p x) t (ap p e ∙ q)) | inr j ↦ least.2 b j q ]))

  -- of the members with a property one comes first, unless there are none
  pub least_or_none : (s : List A) → HasLeast L p s
  least_or_none [] = inl (λ b k q. k)
  least_or_none (x ∷ xs) = least_with x xs (p x) refl (least_or_none xs)

  -- of the members with a property, of which c is one, one comes first
  pub first_member : (s : List A) (c : A) → Member s c → p c ≡ true → (m : A) × IsLeast L p s m
  first_member s c k t = elim (least_or_none s) as (λ _. (m : A) × IsLeast L p s m) [ inl none ↦ absurd (none c k t) | inr least ↦ least ]

-- of two measures one is at most the other
le_or_ge : (x y : ℤ) → (x ≤ℤ y) ⊎ (y ≤ℤ x)
le_or_ge x y = by_lt_z x y (λ l. inl (omega (arith, ints))) (λ l. inr l)

-- what is at most a measure is at most whatever that is at most
le_onward : (x y z : ℤ) → x ≤ℤ y → y ≤ℤ z → x ≤ℤ z
le_onward x y z h k = omega (arith, ints)

-- of the members with a property, one has the least measure
pub least_member : {A : Type 0} (f : A → ℤ) (p : A → Bool) (s : List A) (c : A) → Member s c → p c ≡ true → (m : A) × Member s m × (p m ≡ true) × ((b : A) → Member s b → p b ≡ true → f m ≤ℤ f b)
least_member f p s c k t =
    let least = first_member (λ a b. f a ≤ℤ f b) (λ a b. le_or_ge (f a) (f b)) (λ a b c. le_onward (f a) (f b) (f c)) p s c k t in
    (least.0, least.1.0, least.1.1, least.1.2)

-- of the members with a property, one has the greatest measure
pub greatest_member : {A : Type 0} (f : A → ℤ) (p : A → Bool) (s : List A) (c : A) → Member s c → p c ≡ true → (m : A) × Member s m × (p m ≡ true) × ((b : A) → Member s b → p b ≡ true → f b ≤ℤ f m)
greatest_member f p s c k t =
    let greatest = first_member (λ a b. f b ≤ℤ f a) (λ a b. le_or_ge (f b) (f a)) (λ a b c h l. le_onward (f c) (f b) (f a) l h) p s c k t in
    (greatest.0, greatest.1.0, greatest.1.1, greatest.1.2)
