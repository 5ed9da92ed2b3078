-- Lists of one length that stand one after another.
use Rattle.std.proofs.Common.{◌≡◌, ℕ, zero, suc, ◌+◌, ◌-◌, ◌*◌, ◌/◌, ◌%◌, ◌≤◌, ◌<◌, Bool, List, [], ◌∷◌, ◌++◌, length, map, get_or, take, drop, length-append, sym, ap, ap₂, subst, ◌∙◌, arith}
use Rattle.std.specs.List.{flat_map}
use Rattle.std.proofs.lemmas.List.{get_or_append_left, get_or-append-add, get_or-map, get_or-drop, length-drop, take_more}
use Rattle.lemmas.specs.Lists.{Each}
use Rattle.lemmas.proofs.Lists.{each-push}
use Rattle.solution_book.specs.Batches.{in_batches, AreBatches}

-- how long they are together
pub length_parts : {A : Type 0} (m : ℕ) (xss : List (List A)) → Each (λ b. length b ≡ m) xss → length (flat_map (λ b. b) xss) ≡ length xss * m
length_parts m [] each = omega arith
length_parts m (xs ∷ xss) (own, each) = length-append xs (flat_map (λ b. b) xss) ∙ ap₂ ◌+◌ own (length_parts m xss each) ∙ omega arith

-- how long each one is
pub length_part : {A : Type 0} (m : ℕ) (xss : List (List A)) (j : ℕ) (e : List A) → Each (λ b. length b ≡ m) xss → j < length xss → length (get_or xss j e) ≡ m
length_part m [] j e each p = absurd (omega arith)
length_part m (xs ∷ xss) zero e each p = each.0
length_part m (xs ∷ xss) (suc j) e each p = length_part m xss j e each.1 (omega arith)

-- the i-th member of the j-th of them
pub get_or-parts : {A : Type 0} (m : ℕ) (xss : List (List A)) (j i : ℕ) (d : A) (e : List A) → Each (λ b. length b ≡ m) xss → j < length xss → i < m
    → get_or (flat_map (λ b. b) xss) (j * m + i) d ≡ get_or (get_or xss j e) i d
get_or-parts m [] j i d e each p q = absurd (omega arith)
get_or-parts m (xs ∷ xss) zero i d e each p q =
    let there : zero * m + i ≡ i = omega arith in
    ap (λ n. get_or (xs ++ flat_map (λ b. b) xss) n d) there ∙ get_or_append_left xs (flat_map (λ b. b) xss) d i (subst (λ n. i < n) (sym each.0) q)
get_or-parts m (xs ∷ xss) (suc j) i d e each p q =
    let own = each.0 in
    let there : suc j * m + i ≡ length xs + (j * m + i) = omega arith in
    ap (λ n. get_or (xs ++ flat_map (λ b. b) xss) n d) there
    ∙ get_or-append-add xs (flat_map (λ b. b) xss) (j * m + i) d
    ∙ get_or-parts m xss j i d e each.1 (omega arith) q

-- the batch that a list of shared ones has at a place
pub batch_at : {X A : Type 0} (f : X → List A) (items : List X) (j : ℕ) (x : X) (b : List A) → j < length items → x ≡ get_or items j x → b ≡ f x → b ≡ get_or (map f items) j []
batch_at f items j x b lt read is = is ∙ ap f read ∙ sym (get_or-map f items j x [] lt)

module _ (full : List (List (List Bool))) (last : List (List Bool)) (count place : ℕ) (are : AreBatches full last count) where
  long : length (flat_map (λ b. b) full) ≡ length full * 256
  long = length_parts 256 full are.full_ones

  module _ (within : place / 256 < length full) where
    -- a place in a full batch
    pub within_full : place % 256 < length (get_or full (place / 256) [])
    within_full = omega (arith, length_part 256 full (place / 256) [] are.full_ones within)

    pub full_at : get_or (get_or full (place / 256) []) (place % 256) [] ≡ get_or (in_batches full last) place []
    full_at =
        let parts : place / 256 * 256 + place % 256 ≡ place = omega arith in
        sym (get_or-parts 256 full (place / 256) (place % 256) [] [] are.full_ones within (omega arith))
        ∙ ap (λ n. get_or (flat_map (λ b. b) full) n []) parts
        ∙ sym (get_or_append_left (flat_map (λ b. b) full) last [] place (omega (arith, long)))

  module _ (past : length full ≤ place / 256) where
    -- a place in the last batch
    pub within_last : place < length (in_batches full last) → place - length full * 256 < length last
    within_last lt = omega (arith, lt, long, length-append (flat_map (λ b. b) full) last)

    pub last_at : get_or last (place - length full * 256) [] ≡ get_or (in_batches full last) place []
    last_at =
        let there : place ≡ length (flat_map (λ b. b) full) + (place - length full * 256) = omega (arith, long) in
        sym (get_or-append-add (flat_map (λ b. b) full) last (place - length full * 256) [])
        ∙ ap (λ n. get_or (in_batches full last) n []) (sym there)

-- a last batch that is full with one more becomes a full one
pub batch_filled : (full : List (List (List Bool))) (last : List (List Bool)) (count : ℕ) (choice : List Bool) → AreBatches full last count → length (last ++ choice ∷ []) ≡ 256
    → AreBatches (full ++ (last ++ choice ∷ []) ∷ []) [] (count + 1)
batch_filled full last count choice are whole =
    let batches : List (List (List Bool)) = full ++ (last ++ choice ∷ []) ∷ [] in
    let each = each-push (λ b. length b ≡ 256) full (last ++ choice ∷ []) are.full_ones whole in
    let long : length (flat_map (λ b. b) batches) ≡ length full * 256 + 256 = length_parts 256 batches each ∙ omega (arith, length-append full ((last ++ choice ∷ []) ∷ [])) in
    record {
      full_ones = each;
      counted = omega (arith, are.counted, length-append (flat_map (λ b. b) full) last, length_parts 256 full are.full_ones, length-append last (choice ∷ []), whole, long, length-append (flat_map (λ b. b) batches) []);
    }

-- a part of a list that goes on by the next place
pub part_more : {A : Type 0} (xs : List A) (from place : ℕ) (d x : A) → from ≤ place → place < length xs → x ≡ get_or xs place d
    → take (place - from) (drop from xs) ++ x ∷ [] ≡ take (place + 1 - from) (drop from xs)
part_more xs from place d x le lt is =
    let next : place + 1 - from ≡ place - from + 1 = omega arith in
    let there : from + (place - from) ≡ place = omega arith in
    ap (λ y. take (place - from) (drop from xs) ++ y ∷ []) (is ∙ ap (λ n. get_or xs n d) (sym there) ∙ sym (get_or-drop from xs (place - from) d))
    ∙ sym (take_more (drop from xs) (place - from) d (omega (arith, length-drop from xs)))
    ∙ ap (λ n. take n (drop from xs)) (sym next)
