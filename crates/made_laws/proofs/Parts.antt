-- Counting in the tree of prefixes, where the blocks stand in parts, one after another, and only some values of a wholly decided
-- part are live.
use Rattle.std.proofs.Common.{◌≡◌, Bool, true, false, ◌&&◌, ℕ, zero, suc, ◌+◌, ◌*◌, ◌-◌, ◌<◌, ◌≤◌, List, [], ◌∷◌, ◌++◌, length, take, drop, filter, if◌then◌else◌, IsTrue, refl, ap, sym, subst, ◌∙◌, append-nil, append_assoc, length-append, arith}
use Rattle.std.proofs.Math.Seq.{take-append_seam, drop-append_seam}
use Rattle.std.proofs.lemmas.Bool.{both_ways, and_parts, eqb-true}
use Rattle.std.proofs.lemmas.List.Elements.{filter-append}
use Rattle.solid_model.specs.Tree.{PrefixTest, extensions, live_count, is_whole, live_below}
use Rattle.lemmas.specs.Counts.{one_if}

-- ---- parts

-- a part: how many values it has, and which values are allowed where all are decided
pub record PartRule : Type 0 where
  pub size : ℕ
  pub allows : List Bool → Bool

-- each part that is wholly decided has allowed values
abbrev pub Fits : List PartRule → List Bool → Type 0
Fits [] x = Unit {0}
Fits (q ∷ qs) x = q.size ≤ length x → IsTrue (q.allows (take q.size x)) × Fits qs (drop q.size x)

-- how many values all parts have
abbrev pub all_sizes : List PartRule → ℕ
all_sizes [] = 0
all_sizes (q ∷ qs) = q.size + all_sizes qs

-- how many lists have fewer values than n
abbrev pub shorter : ℕ → ℕ
shorter zero = 0
shorter (suc n) = 1 + (shorter n + shorter n)

-- how many lists of n values pass a test
abbrev pub passing : ℕ → (List Bool → Bool) → ℕ
passing zero test = if test [] then 1 else 0
passing (suc n) test = passing n (λ v. test (true ∷ v)) + passing n (λ v. test (false ∷ v))

-- the most prefixes that such parts allow: one for each that ends with the last part, and w for each that ends within a part
abbrev pub most_of : ℕ → List PartRule → ℕ
most_of w [] = 1
most_of w (q ∷ qs) = w * shorter q.size + passing q.size q.allows * most_of w qs

-- ---- counting those that pass a test

length-filter-cons : {A : Type 0} (test : A → Bool) (x : A) (xs : List A) → length (filter test (x ∷ xs)) ≡ one_if (test x) + length (filter test xs)
length-filter-cons {A} test x xs = by (test x) refl
  where
    by : (b : Bool) → test x ≡ b → length (filter test (x ∷ xs)) ≡ one_if b + length (filter test xs)
    by true e = rw e (omega arith)
    by false e = rw e (omega arith)

module _ (test : List Bool → Bool) where
  -- those that begin with a prefix and have at most so many values more
  abbrev pub count_from : ℕ → List Bool → ℕ
  count_from more prefix = length (filter test (extensions more prefix))

  -- where values are left, they are the prefix itself and those of its two sides
  count_more : (more : ℕ) (prefix : List Bool)
      → count_from (suc more) prefix ≡ one_if (test prefix) + (count_from more (prefix ++ true ∷ []) + count_from more (prefix ++ false ∷ []))
  count_more more prefix =
      let full = extensions more (prefix ++ true ∷ []) in
      let empty = extensions more (prefix ++ false ∷ []) in
      omega (arith, length-filter-cons test prefix (full ++ empty), ap length (filter-append test full empty), length-append (filter test full) (filter test empty))

  -- a value more moves from what is behind a prefix to its end
  moved : (P : List Bool → Type 0) (prefix : List Bool) (value : Bool) (x : List Bool) → P (prefix ++ value ∷ x) → P ((prefix ++ value ∷ []) ++ x)
  moved P prefix value x h = subst P (sym (append_assoc prefix (value ∷ []) x)) h

  moved_back : (P : List Bool → Type 0) (prefix : List Bool) (value : Bool) (x : List Bool) → P ((prefix ++ value ∷ []) ++ x) → P (prefix ++ value ∷ x)
  moved_back P prefix value x h = subst P (append_assoc prefix (value ∷ []) x) h

  one_if_none : (b : Bool) → (b ≡ true → ⊥) → one_if b ≡ 0
  one_if_none true none = absurd (none refl)
  one_if_none false none = refl

  one_if_most : (b : Bool) (w : ℕ) → (b ≡ true → 1 ≤ w) → one_if b ≤ w
  one_if_most true w h = h refl
  one_if_most false w h = omega arith

  -- where nothing that begins with a prefix passes there are none
  none_from : (more : ℕ) (prefix : List Bool) → ((x : List Bool) → test (prefix ++ x) ≡ true → ⊥) → count_from more prefix ≡ 0
  none_from zero prefix none =
      let here = one_if_none (test prefix) (λ e. none [] (ap test (append-nil prefix) ∙ e)) in
      omega (arith, length-filter-cons test prefix [], here)
  none_from (suc more) prefix none =
      let here = one_if_none (test prefix) (λ e. none [] (ap test (append-nil prefix) ∙ e)) in
      let full = none_from more (prefix ++ true ∷ []) (λ x e. none (true ∷ x) (moved_back (λ p. test p ≡ true) prefix true x e)) in
      let empty = none_from more (prefix ++ false ∷ []) (λ x e. none (false ∷ x) (moved_back (λ p. test p ≡ true) prefix false x e)) in
      omega (arith, count_more more prefix, here, full, empty)

  -- Over a part of b values: w for each prefix that ends within it, and for each of its values that is allowed at most as many
  -- as any of them has behind it.
  over_part : (w most more b all : ℕ) (prefix : List Bool) (allows : List Bool → Bool) → all ≡ b + more
      → ((x : List Bool) → length x < b → test (prefix ++ x) ≡ true → 1 ≤ w)
      → ((x : List Bool) → length x ≡ b → count_from more (prefix ++ x) ≤ (if allows x then most else 0))
      → count_from all prefix ≤ w * shorter b + passing b allows * most
  over_part w most more zero all prefix allows same within behind =
      let here = behind [] refl in
      let long : all ≡ more = omega arith in
      let e : count_from all prefix ≡ count_from more (prefix ++ []) = λ t. count_from (long t) (sym (append-nil prefix) t) in
      by (allows []) (subst (λ n. n ≤ (if allows [] then most else 0)) (sym e) here)
    where
      by : (b : Bool) → count_from all prefix ≤ (if b then most else 0) → count_from all prefix ≤ w * 0 + (if b then 1 else 0) * most
      by true h = omega (arith, h)
      by false h = omega (arith, h)
  over_part w most more (suc b) zero prefix allows same within behind = absurd (omega arith)
  over_part w most more (suc b) (suc all) prefix allows same within behind =
      let here = one_if_most (test prefix) w (λ e. within [] (omega arith) (ap test (append-nil prefix) ∙ e)) in
      let side = λ (value : Bool). over_part w most more b all (prefix ++ value ∷ []) (λ v. allows (value ∷ v)) (omega arith)
      (λ x l e. within (value ∷ x) (omega arith) (moved_back (λ p. test p ≡ true) prefix value x e))
      (λ x l. moved (λ p. count_from more p ≤ (if allows (value ∷ x) then most else 0)) prefix value x (behind (value ∷ x) (omega arith))) in
      omega (arith, count_more all prefix, here, side true, side false)

  -- all that begin with a prefix, where what passes has parts behind it that fit, and w counts those that end within a part
  pub over_parts : (w : ℕ) (qs : List PartRule) (prefix : List Bool)
      → ((x : List Bool) → length x < all_sizes qs → test (prefix ++ x) ≡ true → 1 ≤ w)
      → ((x : List Bool) → test (prefix ++ x) ≡ true → Fits qs x)
      → count_from (all_sizes qs) prefix ≤ most_of w qs
  over_parts w [] prefix within fit = by (test prefix) (length-filter-cons test prefix [])
    where
      by : (b : Bool) → count_from 0 prefix ≡ one_if b + 0 → count_from 0 prefix ≤ 1
      by true e = omega (arith, e)
      by false e = omega (arith, e)
  over_parts w (q ∷ qs) prefix within fit =
      over_part w (most_of w qs) (all_sizes qs) q.size (all_sizes (q ∷ qs)) prefix q.allows refl
      (λ x l e. within x (omega (arith, l)) e)
      (λ x l. behind x l (over_parts w qs (prefix ++ x)
      (λ y m e. within (x ++ y) (omega (arith, length-append x y)) (ap test (sym (append_assoc prefix x y)) ∙ e))
      (λ y e. (fits_behind x y l e).1)) (q.allows x) refl)
    where
      fits_behind : (x y : List Bool) → length x ≡ q.size → test ((prefix ++ x) ++ y) ≡ true → IsTrue (q.allows x) × Fits qs y
      fits_behind x y l e =
          let fits = fit (x ++ y) (ap test (sym (append_assoc prefix x y)) ∙ e) (omega (arith, length-append x y)) in
          let first : take q.size (x ++ y) ≡ x = ap (λ n. take n (x ++ y)) (sym l) ∙ take-append_seam x y in
          let rest : drop q.size (x ++ y) ≡ y = ap (λ n. drop n (x ++ y)) (sym l) ∙ drop-append_seam x y in
          (subst (λ v. IsTrue (q.allows v)) first fits.0, subst (Fits qs) rest fits.1)

      behind : (x : List Bool) → length x ≡ q.size → count_from (all_sizes qs) (prefix ++ x) ≤ most_of w qs
          → (b : Bool) → q.allows x ≡ b → count_from (all_sizes qs) (prefix ++ x) ≤ (if b then most_of w qs else 0)
      behind x l few true e = few
      behind x l few false e =
          let none = none_from (all_sizes qs) (prefix ++ x) (λ y t. both_ways (q.allows x) e (fits_behind x y l t).0) in
          omega (arith, none)

-- ---- live prefixes

module _ (live : PrefixTest) (qs : List PartRule) (n : ℕ) (whole : all_sizes qs ≡ n) (fit : (x : List Bool) → IsTrue (live x) → Fits qs x) where
  all_left : all_sizes qs ≡ n - 0
  all_left = omega arith

  -- there are at most so many live prefixes,
  pub live_in_parts : live_count live n [] ≤ most_of 1 qs
  live_in_parts = subst (λ m. count_from live m [] ≤ most_of 1 qs) all_left (over_parts live 1 qs [] (λ x l e. omega arith) fit)

  -- those that are live and of full length
  abbrev is_whole_live : List Bool → Bool
  is_whole_live x = live x && is_whole n x

  -- a filter behind another
  filter-filter : {A : Type 0} (p q : A → Bool) (xs : List A) → filter q (filter p xs) ≡ filter (λ x. p x && q x) xs
  filter-filter p q [] = refl
  filter-filter {A} p q (x ∷ xs) = by (p x) refl (filter-filter p q xs)
    where
      by : (b : Bool) → p x ≡ b → filter q (filter p xs) ≡ filter (λ y. p y && q y) xs → filter q (filter p (x ∷ xs)) ≡ filter (λ y. p y && q y) (x ∷ xs)
      by true e rest = rw (e, rest) refl
      by false e rest = rw (e, rest) refl

  -- and so many of full length
  pub whole_in_parts : length (live_below live n []) ≤ most_of 0 qs
  whole_in_parts =
      let both = ap length (filter-filter live (is_whole n) (extensions (n - 0) [])) in
      let few = subst (λ m. count_from is_whole_live m [] ≤ most_of 0 qs) all_left
      (over_parts is_whole_live 0 qs [] (λ x l e. absurd (let long = eqb-true (length x) n (and_parts (live x) (is_whole n x) e).1 in omega (arith, long)))
      (λ x e. fit x (and_parts (live x) (is_whole n x) e).0)) in
      omega (arith, both, few)
