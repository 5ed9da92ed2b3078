-- Lists that a function gives for the members of a list, one after another: their members, and the places of these.
use Rattle.std.proofs.Common.{◌≡◌, inl, inr, ⊎_elim, ℕ, zero, suc, ◌+◌, ◌*◌, ◌<◌, List, [], ◌∷◌, ◌++◌, length, map, get_or, length-append, refl, ap, ap₂, sym, subst, ◌∙◌, arith}
use Rattle.std.specs.List.{flat_map}
use Rattle.std.proofs.lemmas.List.{length-map, get_or_append_left, get_or-append-add, get_or-map}
use Rattle.lemmas.specs.Lists.{Member, Each, Ascends}
use Rattle.lemmas.proofs.Lists.{member-append, member-append_left, member-append_right, member-map, member-from_map, each-append, each-from, each-at, ascends-append}

-- ---- members

-- a member of a list that is given is one of them together
pub member-flat_map : {A B : Type 0} (f : A → List B) (xs : List A) (x : A) (y : B) → Member xs x → Member (f x) y → Member (flat_map f xs) y
member-flat_map f [] x y k l = absurd k
member-flat_map f (w ∷ xs) x y (inl e) l = member-append_left (f w) (flat_map f xs) y (subst (λ v. Member (f v) y) (sym e) l)
member-flat_map f (w ∷ xs) x y (inr k) l = member-append_right (f w) (flat_map f xs) y (member-flat_map f xs x y k l)

-- and one of them together is a member of one of them
pub member-from_flat_map : {A B : Type 0} (f : A → List B) (xs : List A) (y : B) → Member (flat_map f xs) y → (x : A) × Member xs x × Member (f x) y
member-from_flat_map f [] y k = absurd k
member-from_flat_map {A} f (w ∷ xs) y k = ⊎_elim {C = (x : A) × Member (w ∷ xs) x × Member (f x) y} (λ l. (w, inl refl, l))
    (λ l. let m = member-from_flat_map f xs y l in (m.0, inr m.1, m.2)) (member-append (f w) (flat_map f xs) y k)

-- what holds of each member of each holds of each member of them together
pub each-flat_map : {A B : Type 0} (P : B → Type 0) (f : A → List B) (xs : List A) → ((x : A) → Member xs x → Each P (f x)) → Each P (flat_map f xs)
each-flat_map P f [] h = tt
each-flat_map P f (x ∷ xs) h = each-append P (f x) (flat_map f xs) (h x (inl refl)) (each-flat_map P f xs (λ y k. h y (inr k)))

-- lists that ascend, and of which each member of an earlier one comes before each of a later one, ascend together
pub ascends-flat_map : {A B : Type 0} (R : A → A → Type 0) (S : B → B → Type 0) (f : A → List B) (xs : List A) → Ascends R xs
    → ((x : A) → Ascends S (f x)) → ((x y : A) → R x y → Each (λ c. Each (S c) (f y)) (f x)) → Ascends S (flat_map f xs)
ascends-flat_map R S f [] ascends each across = tt
ascends-flat_map R S f (x ∷ xs) ascends each across =
    ascends-append S (f x) (flat_map f xs) (each x) (ascends-flat_map R S f xs ascends.1 each across)
    (each-from (λ c. Each (S c) (flat_map f xs)) (f x) (λ c k. each-flat_map (S c) f xs (λ y l.
    each-at (λ d. Each (S d) (f y)) (f x) c (across x y (each-at (R x) xs y ascends.0 l)) k)))

-- ---- lists of one length

-- how long they are together
pub length-equal_parts : {A B : Type 0} (f : A → List B) (m : ℕ) → ((x : A) → length (f x) ≡ m) → (xs : List A) → length (flat_map f xs) ≡ length xs * m
length-equal_parts f m long [] = omega arith
length-equal_parts f m long (x ∷ xs) =
    let rest = length-equal_parts f m long xs in
    length-append (f x) (flat_map f xs) ∙ ap₂ ◌+◌ (long x) rest ∙ omega arith

-- the i-th member of the j-th of them
pub get_or-equal_parts : {A B : Type 0} (f : A → List B) (m : ℕ) → ((x : A) → length (f x) ≡ m) → (xs : List A) (j i : ℕ) (d : B) (e : A) → j < length xs → i < m
    → get_or (flat_map f xs) (j * m + i) d ≡ get_or (f (get_or xs j e)) i d
get_or-equal_parts f m long [] j i d e p q = absurd (omega arith)
get_or-equal_parts f m long (x ∷ xs) zero i d e p q =
    let there : zero * m + i ≡ i = omega arith in
    ap (λ n. get_or (f x ++ flat_map f xs) n d) there ∙ get_or_append_left (f x) (flat_map f xs) d i (subst (λ n. i < n) (sym (long x)) q)
get_or-equal_parts f m long (x ∷ xs) (suc j) i d e p q =
    let own = long x in
    let there : suc j * m + i ≡ length (f x) + (j * m + i) = omega arith in
    ap (λ n. get_or (f x ++ flat_map f xs) n d) there
    ∙ get_or-append-add (f x) (flat_map f xs) (j * m + i) d
    ∙ get_or-equal_parts f m long xs j i d e (omega arith) q

-- a place in k lists of m
pub within_product : (j k i m : ℕ) → j < k → i < m → j * m + i < k * m
within_product j zero i m p q = absurd (omega arith)
within_product zero (suc k) i m p q = omega arith
within_product (suc j) (suc k) i m p q = let rest = within_product j k i m (omega arith) q in omega arith

-- ---- triples

-- what a function gives for all triples of members of three lists, the third one slowest and the first one fastest
module _ {A B C D : Type 0} (f : A → B → C → D) (xs : List A) (ys : List B) (zs : List C) where
  -- what it gives for the members of the first list, and these of the two others,
  abbrev pub line : C → B → List D
  line z y = map (λ x. f x y z) xs

  -- of the second list too,
  abbrev pub layer : C → List D
  layer z = flat_map (line z) ys

  -- and of all three
  abbrev pub over_triples : List D
  over_triples = flat_map layer zs

  -- what it gives for three members is there
  pub member-over_triples : (x : A) (y : B) (z : C) → Member xs x → Member ys y → Member zs z → Member over_triples (f x y z)
  member-over_triples x y z in_x in_y in_z = member-flat_map layer zs z _ in_z (member-flat_map (line z) ys y _ in_y (member-map (λ w. f w y z) xs x in_x))

  -- and all that is there it gives for three members
  pub member-from_over_triples : (d : D) → Member over_triples d → (x : A) × (y : B) × (z : C) × Member xs x × Member ys y × Member zs z × (f x y z ≡ d)
  member-from_over_triples d k =
      let at_z = member-from_flat_map layer zs d k in
      let at_y = member-from_flat_map (line at_z.0) ys d at_z.2 in
      let at_x = member-from_map (λ x. f x at_y.0 at_z.0) xs d at_y.2 in
      (at_x.0, at_y.0, at_z.0, at_x.1, at_y.1, at_z.1, at_x.2)

  length-line : (z : C) (y : B) → length (line z y) ≡ length xs
  length-line z y = length-map xs (λ x. f x y z)

  length-layer : (z : C) → length (layer z) ≡ length ys * length xs
  length-layer z = length-equal_parts (line z) (length xs) (length-line z) ys

  -- how many there are
  pub length-over_triples : length over_triples ≡ length zs * (length ys * length xs)
  length-over_triples = length-equal_parts layer (length ys * length xs) length-layer zs

  -- and each by the places of the three
  pub get_or-over_triples : (i j k : ℕ) (a : A) (b : B) (c : C) (d : D) → i < length xs → j < length ys → k < length zs
      → get_or over_triples ((k * length ys + j) * length xs + i) d ≡ f (get_or xs i a) (get_or ys j b) (get_or zs k c)
  get_or-over_triples i j k a b c d in_x in_y in_z =
      let z = get_or zs k c in let y = get_or ys j b in
      let there : (k * length ys + j) * length xs + i ≡ k * (length ys * length xs) + (j * length xs + i) = omega arith in
      ap (λ n. get_or over_triples n d) there
      ∙ get_or-equal_parts layer (length ys * length xs) length-layer zs k (j * length xs + i) d c in_z (within_product j (length ys) i (length xs) in_y in_x)
      ∙ get_or-equal_parts (line z) (length xs) (length-line z) ys j i d b in_y in_x
      ∙ get_or-map (λ x. f x y z) xs i a d in_x
