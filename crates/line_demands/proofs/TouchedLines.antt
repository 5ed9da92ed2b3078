-- Lines are listed with blocks.
use Rattle.std.proofs.Common.{◌≡◌, ◌⊎◌, ◌↔◌, inl, inr, Bool, true, false, if◌then◌else◌, ◌==◌, ◌||◌, nat_lt, ℕ, ◌+◌, ◌-◌, ◌<◌, List, [], ◌∷◌, ◌++◌, length, take, map, get_or, set, refl, ap, sym, subst, ◌∙◌, arith}
use Rattle.std.proofs.lemmas.Bool.{cases_Bool, cases_lt, eqb-true, eqb-false, eq-eqb, both_ways, lt-ltb, le-ltb, and_from, and_left, and_right}
use Rattle.std.proofs.lemmas.List.{length-set, get_or-set_same, get_or-set_other, get_or_default, length_push, append-nil}
use Rattle.std.proofs.lemmas.Grind.{take_at_read}
use Rattle.line_demands.specs.Plans.{IsAddedOnce, ends_with, add_last, with_hit, is_listed}
use Rattle.std.specs.List.{filter, range_with_len}
use Rattle.std.proofs.lemmas.List.Folds.{list_any_more}
use Rattle.std.proofs.lemmas.List.FromFn.{filter_of_map_range_with_len_more}
use Rattle.std.proofs.Math.Seq.{get_or-append_seam}
use Rattle.lemmas.proofs.Ranges.{member-from_range}
use Rattle.lemmas.proofs.ListPlaces.{each-all}
use Rattle.lemmas.proofs.Lists.{each-from, member-from_filter, total_push}
use Rattle.lemmas.specs.Counts.{one_if, times_listed}
use Rattle.line_demands.specs.Gathered.{AreTouchedBy, AreTouchedTo, no_side, hits}
use Rattle.line_demands.specs.declared.lines.Beside.{Beside}
use Rattle.std.specs.Prelude.{All}
use Rattle.std.proofs.Math.Bool.{or-false}

or_last : (x y : Bool) → (x || (y || true)) ≡ true
or_last true y = refl
or_last false true = refl
or_last false false = refl

-- a number at the end of lesser ones
add_hit : (base : List ℕ) (line : ℕ) (h : Bool) → All (λ y. y < line) base → add_last (with_hit base h line) line ≡ with_hit base true line
add_hit base line true small = ap (λ (t : Bool). if t then base ++ line ∷ [] else ((base ++ line ∷ []) ++ line ∷ []))
    (and_from (nat_lt 0 (length (base ++ line ∷ []))) _ (lt-ltb 0 (length (base ++ line ∷ [])) (let e = length_push base line in omega arith))
    (eq-eqb _ line (ap (λ k. get_or (base ++ line ∷ []) k 0) (let e = length_push base line in let f : length (base ++ line ∷ []) - 1 ≡ length base = omega arith in f) ∙ get_or-append_seam base line [] 0)))
add_hit base line false small = ap (λ (t : Bool). if t then base else (base ++ line ∷ [])) (elim (cases_lt 0 (length base)) as (λ _. ends_with base line ≡ false) [
  | inl some ↦ and_right (nat_lt 0 (length base)) _ (elim (cases_Bool (get_or base (length base - 1) 0 == line)) as (λ _. (get_or base (length base - 1) 0 == line) ≡ false) [
    | inl is ↦ absurd (let e = eqb-true (get_or base (length base - 1) 0) line is in let f = small (length base - 1) 0 (omega arith) in omega arith)
    | inr off ↦ off
  ])
  | inr none ↦ and_left (nat_lt 0 (length base)) _ (le-ltb 0 (length base) none)
])

module _ (line : ℕ) (on : List ℕ) (old : List (List ℕ)) where
  pub none_touched : AreTouchedBy line (take 0 on) old old
  none_touched = record { lists = λ b ls base h l small e. e ∙ ap (λ x. with_hit base x line) (sym (or-false h)); count = refl; each = λ b n ls l. ((λ none. (none, λ _. refl)), (λ both. both.0)) }

  pub one_touched : (n x e : ℕ) (so_far : List (List ℕ)) (was more : List ℕ) → AreTouchedBy line (take n on) old so_far → n < length on → get_or on n e ≡ x → x < length so_far
      → ((ls : List ℕ) → get_or so_far x ls ≡ was) → IsAddedOnce line was more → more ≡ add_last was line → AreTouchedBy line (take (n + 1) on) old (set so_far x more)
  one_touched n x e so_far was more are l at there here once last = record {
    lists = λ b ls base h k small f. lists b ls base h k small f (cases_Bool (x == b));
    count = length-set so_far x more ∙ are.count;
    each = λ b m ls k. by b m ls k (cases_Bool (x == b));
  }
    where
      wider : (b : ℕ) → is_listed b (take (n + 1) on) ≡ (is_listed b (take n on) || (x == b))
      wider b = list_any_more (λ y. y == b) on n e l ∙ ap (λ y. is_listed b (take n on) || (y == b)) at

      lists : (b : ℕ) (ls base : List ℕ) (h : Bool) → b < length old → All (λ y. y < line) base → get_or old b ls ≡ with_hit base h line → ((x == b) ≡ true) ⊎ ((x == b) ≡ false)
          → get_or (set so_far x more) b ls ≡ with_hit base (h || is_listed b (take (n + 1) on)) line
      lists b ls base h k small f (inl is) = (let g : x ≡ b = eqb-true x b is in
          let was_is : was ≡ with_hit base (h || is_listed b (take n on)) line = sym (here ls) ∙ ap (λ j. get_or so_far j ls) g ∙ are.lists b ls base h k small f in
          ap (λ j. get_or (set so_far x more) j ls) (sym g) ∙ get_or-set_same so_far x more ls there ∙ last ∙ ap (λ w. add_last w line) was_is
          ∙ add_hit base line (h || is_listed b (take n on)) small
          ∙ ap (λ y. with_hit base y line) (sym (ap (λ y. h || y) (wider b ∙ ap (λ y. is_listed b (take n on) || y) is) ∙ or_last h (is_listed b (take n on)))))
      lists b ls base h k small f (inr off) = get_or-set_other so_far x b more ls (λ g. eqb-false x b off (sym g)) ∙ are.lists b ls base h k small f
          ∙ ap (λ y. with_hit base (h || y) line) (sym (wider b ∙ ap (λ y. is_listed b (take n on) || y) off ∙ or-false (is_listed b (take n on))))

      grown : (b : ℕ) → times_listed b (take (n + 1) on) ≡ times_listed b (take n on) + one_if (x == b)
      grown b = ap (times_listed b) (take_at_read on n e l).1 ∙ total_push (λ y. one_if (y == b)) (take n on) (get_or on n e) ∙ ap (λ y. times_listed b (take n on) + one_if (y == b)) at

      Goal : ℕ → ℕ → List ℕ → Type 0
      Goal b m ls = (times_listed m (get_or (set so_far x more) b ls) ≡ 0) ↔ ((times_listed m (get_or old b ls) ≡ 0) × ((line == m) ≡ true → times_listed b (take (n + 1) on) ≡ 0))

      by : (b m : ℕ) (ls : List ℕ) → b < length old → ((x == b) ≡ true) ⊎ ((x == b) ≡ false) → Goal b m ls
      by b m ls k (inl is) = (let f : x ≡ b = eqb-true x b is in
          let new : get_or (set so_far x more) b ls ≡ more = ap (λ j. get_or (set so_far x more) j ls) (sym f) ∙ get_or-set_same so_far x more ls there in
          let old_was : get_or so_far b ls ≡ was = ap (λ j. get_or so_far j ls) (sym f) ∙ here ls in
          let so = are.each b m ls k in (
            (λ none. let both = (once m).0 (ap (times_listed m) (sym new) ∙ none) in
                ((so.0 (ap (times_listed m) old_was ∙ both.0)).0, λ e. absurd (both_ways (line == m) both.1 e))),
            (λ both. ap (times_listed m) new ∙ (once m).1 (
              (ap (times_listed m) (sym old_was) ∙ so.1 (both.0, λ e. let g = grown b in let h = both.1 e in omega arith)),
              (elim (cases_Bool (line == m)) as (λ _. (line == m) ≡ false) [
                | inl e ↦ absurd (let g = grown b in let h = both.1 e in let i = ap one_if is in omega arith)
                | inr e ↦ e
              ]),
            )),
          ))
      by b m ls k (inr off) = (let same : get_or (set so_far x more) b ls ≡ get_or so_far b ls = get_or-set_other so_far x b more ls (λ e. eqb-false x b off (sym e)) in
          let g = grown b in let h = ap one_if off in
          let so = are.each b m ls k in (
            (λ none. let both = so.0 (ap (times_listed m) (sym same) ∙ none) in (both.0, λ e. let i = both.1 e in omega arith)),
            (λ both. ap (times_listed m) same ∙ so.1 (both.0, λ e. let i = both.1 e in omega arith)),
          ))

with_as : (base : List ℕ) (n : ℕ) (h : Bool) → with_hit base h n ≡ base ++ (if h then n ∷ [] else [])
with_as base n true = refl
with_as base n false = sym (append-nil base)

filter_more : (p : ℕ → Bool) (n : ℕ) → filter p (range_with_len 0 (n + 1)) ≡ filter p (range_with_len 0 n) ++ (if p n then n ∷ [] else [])
filter_more p n = ap (filter p) (sym (map_same (range_with_len 0 (n + 1)))) ∙ filter_of_map_range_with_len_more p (λ i. i) 0 n n (omega arith) ∙ ap (λ xs. filter p xs ++ (if p n then n ∷ [] else [])) (map_same (range_with_len 0 n))
  where
    map_same : (xs : List ℕ) → map (λ i. i) xs ≡ xs
    map_same [] = refl
    map_same (x ∷ xs) = ap (λ ys. x ∷ ys) (map_same xs)

filtered_below : (p : ℕ → Bool) (n : ℕ) → All (λ x. x < n) (filter p (range_with_len 0 n))
filtered_below p n = each-all (λ x. x < n) (filter p (range_with_len 0 n)) (each-from (λ x. x < n) (filter p (range_with_len 0 n))
    (λ x m. (let f = (member-from_range n 0 x (member-from_filter p (range_with_len 0 n) x m).0).1 in omega arith)))

module _ (sides : List Beside) (on : List (List ℕ)) (blocks : ℕ) where
  pub none_listed : (touched : List (List ℕ)) → length touched ≡ blocks → All (λ ls. ls ≡ []) touched → AreTouchedTo sides on blocks 0 touched
  none_listed touched count empty = record {
    count = count;
    each = λ b i ls xs d l m k. absurd (omega arith);
    later = λ b i ls l m. ap (times_listed i) (empty b ls (omega arith));
    lists = λ b ls l. empty b ls (omega arith);
  }

  -- one line more, listed with the blocks of the column after it and of the one before it
  pub one_listed : (n : ℕ) (touched half new : List (List ℕ)) (d : Beside) (xs zs : List ℕ) → AreTouchedTo sides on blocks n touched → n < length sides
      → (get_or sides n d).after < length on → (get_or sides n d).before < length on
      → AreTouchedBy n (get_or on (get_or sides n d).after xs) touched half → AreTouchedBy n (get_or on (get_or sides n d).before zs) half new
      → AreTouchedTo sides on blocks (n + 1) new
  one_listed n touched half new d xs zs so_far l in_after in_before after before = record {
    count = before.count ∙ after.count ∙ so_far.count;
    each = each;
    lists = lists;
    later = λ b i ls k m. (before.each b i ls (let e = after.count in let f = so_far.count in omega arith)).1 (
      (after.each b i ls (let f = so_far.count in omega arith)).1 (so_far.later b i ls k (omega arith), λ e. absurd (let f = eqb-true n i e in omega arith)),
      λ e. absurd (let f = eqb-true n i e in omega arith),
    );
  }
    where
      lists : (b : ℕ) (ls : List ℕ) → b < blocks → get_or new b ls ≡ filter (hits sides on b) (range_with_len 0 (n + 1))
      lists b ls k =
          let base = filter (hits sides on b) (range_with_len 0 n) in
          let small : All (λ x. x < n) base = filtered_below (hits sides on b) n in
          let side = get_or_default sides n d no_side l in
          let a : is_listed b (get_or on (get_or sides n d).after xs) ≡ is_listed b (get_or on (get_or sides n no_side).after []) = ap (is_listed b) (get_or_default on (get_or sides n d).after xs [] in_after ∙ ap (λ (s : Beside). get_or on s.after []) side) in
          let c : is_listed b (get_or on (get_or sides n d).before zs) ≡ is_listed b (get_or on (get_or sides n no_side).before []) = ap (is_listed b) (get_or_default on (get_or sides n d).before zs [] in_before ∙ ap (λ (s : Beside). get_or on s.before []) side) in
          before.lists b ls base (is_listed b (get_or on (get_or sides n d).after xs)) (let e = after.count in let f = so_far.count in omega arith) small
          (after.lists b ls base false (let f = so_far.count in omega arith) small (so_far.lists b ls k))
          ∙ (λ t. with_hit base (a t || c t) n) ∙ with_as base n (hits sides on b n) ∙ sym (filter_more (hits sides on b) n)

      each : (b i : ℕ) (ls ys : List ℕ) (e : Beside) → b < blocks → i < n + 1 → i < length sides
          → (times_listed i (get_or new b ls) ≡ 0) ↔ ((times_listed b (get_or on (get_or sides i e).after ys) ≡ 0) × (times_listed b (get_or on (get_or sides i e).before ys) ≡ 0))
      each b i ls ys e k m j = elim (cases_lt i n) as (λ _. (times_listed i (get_or new b ls) ≡ 0) ↔ ((times_listed b (get_or on (get_or sides i e).after ys) ≡ 0) × (times_listed b (get_or on (get_or sides i e).before ys) ≡ 0))) [
        | inl q ↦ (let off : (n == i) ≡ true → ⊥ = λ f. (let g = eqb-true n i f in omega arith) in
            let first = after.each b i ls (let f = so_far.count in omega arith) in
            let second = before.each b i ls (let f = so_far.count in let g = after.count in omega arith) in
            let was = so_far.each b i ls ys e k q j in (
              (λ none. was.0 (first.0 (second.0 none).0).0),
              (λ both. second.1 (first.1 (was.1 both, λ f. absurd (off f)), λ f. absurd (off f))),
            ))
        | inr q ↦ (let f : n ≡ i = omega arith in
            subst (λ x. (times_listed x (get_or new b ls) ≡ 0) ↔ ((times_listed b (get_or on (get_or sides x e).after ys) ≡ 0) × (times_listed b (get_or on (get_or sides x e).before ys) ≡ 0))) f (here b ls ys e k))
      ]
        where
          here : (b : ℕ) (ls ys : List ℕ) (e : Beside) → b < blocks
              → (times_listed n (get_or new b ls) ≡ 0) ↔ ((times_listed b (get_or on (get_or sides n e).after ys) ≡ 0) × (times_listed b (get_or on (get_or sides n e).before ys) ≡ 0))
          here b ls ys e k =
              let first = after.each b n ls (let f = so_far.count in omega arith) in
              let second = before.each b n ls (let f = so_far.count in let g = after.count in omega arith) in
              let same : (n == n) ≡ true = eq-eqb n n refl in
              let side = get_or_default sides n d e l in
              let a : times_listed b (get_or on (get_or sides n d).after xs) ≡ times_listed b (get_or on (get_or sides n e).after ys) = ap (times_listed b) (get_or_default on (get_or sides n d).after xs ys in_after ∙ ap (λ (s : Beside). get_or on s.after ys) side) in
              let c : times_listed b (get_or on (get_or sides n d).before zs) ≡ times_listed b (get_or on (get_or sides n e).before ys) = ap (times_listed b) (get_or_default on (get_or sides n d).before zs ys in_before ∙ ap (λ (s : Beside). get_or on s.before ys) side) in (
                (λ none. let both = second.0 none in (sym a ∙ (first.0 both.0).1 same, sym c ∙ both.1 same)),
                (λ both. second.1 (first.1 (so_far.later b n ls k (omega arith), λ _. a ∙ both.0), λ _. c ∙ both.1)),
              )
