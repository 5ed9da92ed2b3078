-- A report of the first live prefixes below a piece, with those of the rest that stand next to them, is an allowed one: below
-- each prefix of the tree the same holds of the part of the opened ones that stands there.
use Rattle.std.proofs.Common.{◌≡◌, inl, inr, ⊎_elim, Bool, true, false, true≢false, not, eqb, ℕ, zero, suc, ◌+◌, ◌-◌, ◌<◌, ◌≤◌, List, [], ◌∷◌, ◌++◌, length, take, drop, filter, map, sum, IsPermutation, IsTrue, refl, sym, ◌∙◌, ap, subst, append-nil, append_assoc, length-append, take-append-drop, arith}
use Rattle.std.specs.List.{flat_map}
use Rattle.std.proofs.lemmas.Bool.{and_parts}
use Rattle.std.proofs.lemmas.Bool.Decides.{nat_tests}
use Rattle.std.proofs.lemmas.List.{map-append}
use Rattle.std.proofs.lemmas.List.Elements.{filter-append}
use Rattle.std.proofs.lemmas.List.Sorted.{IsPermutation-refl, IsPermutation-trans, IsPermutation-append, IsPermutation-append_left, IsPermutation-append_right, IsPermutation-append_comm}
use Rattle.std.proofs.lemmas.List.Sums.{sum_by-append}
use Rattle.std.proofs.lemmas.Grind.{flat_map-append}
use Rattle.solid_model.proofs.PrefixTree.{BeginsWith, begins_itself, begins_without, live_from_begins, live_from_none, live_count_none, live_below_none, live_from_more, live_count_more, not_whole, live_below_more, live_from_whole, live_count_whole, live_below_whole}
use Rattle.lemmas.specs.Truth.{agree}
use Rattle.lemmas.specs.Lists.{Member, Each}
use Rattle.solid_model.specs.Tree.{PrefixTest, live_from, live_count, is_whole, live_below, IsAllowed, is_one_more, is_next_to, opened_of, found_of, rest_of}
use Rattle.solid_model.proofs.ColumnRule.{same_from_agree}
use Rattle.lemmas.proofs.Lists.{member-append, member-append_left, member-append_right, each-at, each-from, each-weaker, each-append_right, each-filter}
use Rattle.solid_model.proofs.Styles.{passing_member, any_from_member}

-- ---- lists

module _ {A : Type 0} where
  -- the first members of two lists are the first of one, then the first of the other, as many as are left
  take_append : (q : ℕ) (xs ys : List A) → take q (xs ++ ys) ≡ take q xs ++ take (q - length xs) ys
  take_append zero xs ys = let none : zero - length xs ≡ zero = omega arith in rw none refl
  take_append (suc q) [] ys = let all : suc q - zero ≡ suc q = omega arith in rw all refl
  take_append (suc q) (x ∷ xs) ys =
      let left : suc q - suc (length xs) ≡ q - length xs = omega arith in
      rw left (ap (λ l. x ∷ l) (take_append q xs ys))

  -- and so for what is behind them
  drop_append : (q : ℕ) (xs ys : List A) → drop q (xs ++ ys) ≡ drop q xs ++ drop (q - length xs) ys
  drop_append zero xs ys = let none : zero - length xs ≡ zero = omega arith in rw none refl
  drop_append (suc q) [] ys = let all : suc q - zero ≡ suc q = omega arith in rw all refl
  drop_append (suc q) (x ∷ xs) ys =
      let left : suc q - suc (length xs) ≡ q - length xs = omega arith in
      rw left (drop_append q xs ys)

  -- one of the first members is a member
  member_taken : (q : ℕ) (xs : List A) (x : A) → Member (take q xs) x → Member xs x
  member_taken q xs x k = subst (λ l. Member l x) (take-append-drop q xs) (member-append_left (take q xs) (drop q xs) x k)

  -- what holds of each holds of each behind the first
  each_behind : (P : A → Type 0) (q : ℕ) (xs : List A) → Each P xs → Each P (drop q xs)
  each_behind P q xs h = each-append_right P (take q xs) (drop q xs) (subst (Each P) (sym (take-append-drop q xs)) h)

  -- where none passes the test, none is kept
  pub filter_none : (p : A → Bool) (xs : List A) → Each (λ x. p x ≡ false) xs → filter p xs ≡ []
  filter_none p [] h = refl
  filter_none p (x ∷ xs) h = rw (h.0, filter_none p xs h.1) refl

  -- the middle two of four lists change places
  shuffle : (xs ys us vs : List A) → IsPermutation ((xs ++ ys) ++ (us ++ vs)) ((xs ++ us) ++ (ys ++ vs))
  shuffle xs ys us vs =
      let inner = IsPermutation-append_left vs (ys ++ us) (us ++ ys) (IsPermutation-append_comm ys us) in
      let left : (xs ++ ys) ++ (us ++ vs) ≡ xs ++ ((ys ++ us) ++ vs) = simp append_assoc in
      let right : (xs ++ us) ++ (ys ++ vs) ≡ xs ++ ((us ++ ys) ++ vs) = simp append_assoc in
      rw (left, right) (IsPermutation-append_right xs ((ys ++ us) ++ vs) ((us ++ ys) ++ vs) inner)

-- ---- one value more

-- a list with one value more is that,
pub one_more_there : (prefix : List Bool) (value : Bool) → IsTrue (is_one_more prefix (prefix ++ value ∷ []))
one_more_there [] value = refl
one_more_there (true ∷ prefix) value = one_more_there prefix value
one_more_there (false ∷ prefix) value = one_more_there prefix value

-- and it is that of no other list
one_more_of : (prefix other : List Bool) (value : Bool) → IsTrue (is_one_more prefix (other ++ value ∷ [])) → prefix ≡ other
one_more_of [] [] value e = refl
one_more_of [] (y ∷ []) value e = absurd (true≢false (sym e))
one_more_of [] (y ∷ z ∷ other) value e = absurd (true≢false (sym e))
one_more_of (x ∷ []) [] value e = absurd (true≢false (sym (and_parts (agree x value) false e).1))
one_more_of (x ∷ z ∷ prefix) [] value e = absurd (true≢false (sym (and_parts (agree x value) false e).1))
one_more_of (x ∷ prefix) (y ∷ other) value e =
    let parts = and_parts (agree x y) (is_one_more prefix (other ++ value ∷ [])) e in
    let heads : x ≡ y = same_from_agree x y (ap not parts.0) in
    let tails = one_more_of prefix other value parts.1 in
    cc

-- a list is not one that it begins with at one value more
not_shorter : (prefix : List Bool) (value : Bool) → BeginsWith (prefix ++ value ∷ []) prefix → ⊥
not_shorter prefix value (rest, e) =
    let long : length prefix ≡ length ((prefix ++ value ∷ []) ++ rest) = ap length e in
    omega (arith, length-append (prefix ++ value ∷ []) rest, length-append prefix (value ∷ []))

-- what begins with a list and one value more doesn't begin with it and the other value
one_side : (prefix choice : List Bool) (value other : Bool) → BeginsWith (prefix ++ value ∷ []) choice → BeginsWith (prefix ++ other ∷ []) choice → value ≡ other
one_side prefix choice value other (rest, e) (rest_too, f) =
    at prefix (sym (append_assoc prefix (value ∷ []) rest) ∙ sym e ∙ f ∙ append_assoc prefix (other ∷ []) rest_too)
  where
    at : (p : List Bool) → p ++ value ∷ rest ≡ p ++ other ∷ rest_too → value ≡ other
    at [] g = cc
    at (x ∷ p) g = at p (cc)

-- a list that is not empty has a last value
pub last_of : (value : Bool) (rest : List Bool) → (front : List Bool) × (last : Bool) × (value ∷ rest ≡ front ++ last ∷ [])
last_of value [] = ([], value, refl)
last_of value (next ∷ rest) = let (front, last, e) = last_of next rest in (value ∷ front, last, ap (λ l. value ∷ l) e)

-- ---- the part of a report below one prefix

module _ (live : PrefixTest) (n : ℕ) where
  -- Those opened below a prefix, and those that are the rest there: they count what is live below it, and the choices below it
  -- are those of full length among the opened ones, and those below the rest.
  record Splits (prefix : List Bool) (opened rest : List (List Bool)) : Type 0 where
    counted : live_count live n prefix ≡ length opened + sum (map (live_count live n) rest)
    shared : IsPermutation (live_below live n prefix) (filter (is_whole n) opened ++ flat_map (live_below live n) rest)

  -- nothing is opened: the prefix itself is the rest
  unopened : (prefix : List Bool) → Splits prefix [] (prefix ∷ [])
  unopened prefix = record {
    counted = omega arith;
    shared = rw (append-nil (live_below live n prefix)) (IsPermutation-refl (live_below live n prefix));
  }

  -- one of full length is opened, and nothing is left
  opened_whole : (prefix : List Bool) → IsTrue (live prefix) → length prefix ≡ n → Splits prefix (prefix ∷ []) []
  opened_whole prefix lives whole = record {
    counted = omega (arith, live_count_whole live n prefix lives whole);
    shared =
        let one : filter (is_whole n) (prefix ∷ []) ≡ prefix ∷ [] =
        ap (filter (is_whole n)) (sym (live_from_whole live n prefix lives whole)) ∙ live_below_whole live n prefix lives whole in
        rw (live_below_whole live n prefix lives whole, one) (IsPermutation-refl (prefix ∷ []));
  }

  -- one with values left is opened, and then some below its full side and some below its empty side
  opened_more : (prefix : List Bool) → IsTrue (live prefix) → length prefix < n → (opened others rest besides : List (List Bool))
      → Splits (prefix ++ true ∷ []) opened rest → Splits (prefix ++ false ∷ []) others besides → Splits prefix (prefix ∷ (opened ++ others)) (rest ++ besides)
  opened_more prefix lives more opened others rest besides full empty = record {
    counted =
        let both : sum (map (live_count live n) (rest ++ besides)) ≡ sum (map (live_count live n) rest) + sum (map (live_count live n) besides) =
        ap sum (map-append (live_count live n) rest besides) ∙ sum_by-append (λ x. x) (map (live_count live n) rest) (map (live_count live n) besides) in
        omega (arith, live_count_more live n prefix lives more, both, full.counted, empty.counted, length-append opened others);
    shared =
        let found : filter (is_whole n) (prefix ∷ (opened ++ others)) ≡ filter (is_whole n) opened ++ filter (is_whole n) others =
        rw (not_whole live n prefix lives more, filter-append (is_whole n) opened others) refl in
        let left : flat_map (live_below live n) (rest ++ besides) ≡ flat_map (live_below live n) rest ++ flat_map (live_below live n) besides =
        flat_map-append (live_below live n) rest besides in
        rw (live_below_more live n prefix lives more, found, left)
        (IsPermutation-trans _ _ _ (IsPermutation-append _ _ _ _ full.shared empty.shared)
        (shuffle (filter (is_whole n) opened) (flat_map (live_below live n) rest) (filter (is_whole n) others) (flat_map (live_below live n) besides)));
  }

  -- ---- down the tree

  module _ (closed : (prefix rest : List Bool) → IsTrue (live (prefix ++ rest)) → IsTrue (live prefix)) (next : PrefixTest) where
    -- The test passes, of what properly begins with a prefix, just what is one of the opened ones with one value more.
    record FindsNext (opened : List (List Bool)) (prefix : List Bool) : Type 0 where
      there : (other : List Bool) (value : Bool) → BeginsWith prefix other → Member opened other → IsTrue (next (other ++ value ∷ []))
      back : (other : List Bool) (value : Bool) → BeginsWith prefix other → IsTrue (next (other ++ value ∷ [])) → Member opened other

    -- the first live ones below a prefix, so many of them, and those behind them that pass the test
    abbrev IsSplitAt : ℕ → List Bool → Type 0
    IsSplitAt q prefix = Splits prefix (take q (live_from live n prefix)) (filter next (drop q (live_from live n prefix)))

    -- below a dead prefix nothing is opened, and nothing is left
    split_dead : (q : ℕ) (prefix : List Bool) → live prefix ≡ false → IsSplitAt q prefix
    split_dead q prefix dead = rw (live_from_none live n prefix dead closed) (none q)
      where
        none : (k : ℕ) → Splits prefix (take k []) (filter next (drop k []))
        none zero = record {
          counted = omega (arith, live_count_none live n prefix dead closed);
          shared = rw (live_below_none live n prefix dead closed) (IsPermutation-refl []);
        }
        none (suc k) = record {
          counted = omega (arith, live_count_none live n prefix dead closed);
          shared = rw (live_below_none live n prefix dead closed) (IsPermutation-refl []);
        }

    -- where no prefix is opened, no proper extension of this one passes the test
    none_next : (prefix : List Bool) → FindsNext [] prefix → (value : Bool) (other : List Bool) → BeginsWith (prefix ++ value ∷ []) other → next other ≡ false
    none_next prefix finds value other (rest, e) = at (next other) refl
      where
        at : (t : Bool) → next other ≡ t → next other ≡ false
        at false f = f
        at true f =
            let (front, last, g) = last_of value rest in
            let same : other ≡ (prefix ++ front) ++ last ∷ [] =
            e ∙ append_assoc prefix (value ∷ []) rest ∙ ap (λ l. prefix ++ l) g ∙ sym (append_assoc prefix front (last ∷ [])) in
            absurd (finds.back (prefix ++ front) last (front, refl) (subst (λ l. IsTrue (next l)) same f))

    -- a live prefix that isn't opened is the rest
    split_unopened : (prefix : List Bool) (below : List (List Bool)) → live_from live n prefix ≡ prefix ∷ below
        → Each (λ other. next other ≡ false) below → IsTrue (next prefix) → IsSplitAt zero prefix
    split_unopened prefix below is none top =
        let rest : filter next (live_from live n prefix) ≡ prefix ∷ [] = ap (filter next) is ∙ rw (top, filter_none next below none) refl in
        rw rest (unopened prefix)

    -- a live prefix of full length
    split_whole : (q : ℕ) (prefix : List Bool) → IsTrue (live prefix) → length prefix ≡ n → (q ≡ 0 → IsTrue (next prefix)) → IsSplitAt q prefix
    split_whole zero prefix lives whole top = split_unopened prefix [] (live_from_whole live n prefix lives whole) tt (top refl)
    split_whole (suc q) prefix lives whole top = rw (live_from_whole live n prefix lives whole) (one q)
      where
        one : (k : ℕ) → Splits prefix (prefix ∷ take k []) (filter next (drop k []))
        one zero = opened_whole prefix lives whole
        one (suc k) = opened_whole prefix lives whole

    -- ---- a live prefix with values left

    module _ (prefix : List Bool) (lives : IsTrue (live prefix)) (more : length prefix < n) where
      -- its sides, and what is live below them
      abbrev side : Bool → List Bool
      side value = prefix ++ value ∷ []

      abbrev tree : Bool → List (List Bool)
      tree value = live_from live n (side value)

      -- each of them begins with its side
      in_tree : (value : Bool) (other : List Bool) → Member (tree value) other → BeginsWith (side value) other
      in_tree value other k = (each-at (λ x. BeginsWith (side value) x × IsTrue (live x)) (tree value) other (live_from_begins live n (side value)) k).0

      -- it isn't opened
      split_more-unopened : FindsNext [] prefix → IsTrue (next prefix) → IsSplitAt zero prefix
      split_more-unopened finds top = split_unopened prefix (tree true ++ tree false) (live_from_more live n prefix lives more) (each-from _ _ none) top
        where
          none : (other : List Bool) → Member (tree true ++ tree false) other → next other ≡ false
          none other k = ⊎_elim {C = next other ≡ false}
              (λ h. none_next prefix finds true other (in_tree true other h)) (λ h. none_next prefix finds false other (in_tree false other h))
              (member-append (tree true) (tree false) other k)

      -- it is opened, and then so many
      module _ (q : ℕ) where
        -- of which these stand below its full side, and these below its empty one
        abbrev opened : Bool → List (List Bool)
        opened true = take q (tree true)
        opened false = take (q - length (tree true)) (tree false)

        -- the opened ones are it and these,
        opened_here : take (suc q) (live_from live n prefix) ≡ prefix ∷ (opened true ++ opened false)
        opened_here = ap (take (suc q)) (live_from_more live n prefix lives more) ∙ ap (λ l. prefix ∷ l) (take_append q (tree true) (tree false))

        -- and the rest stands behind them on both sides
        rest_here : filter next (drop (suc q) (live_from live n prefix)) ≡ filter next (drop q (tree true)) ++ filter next (drop (q - length (tree true)) (tree false))
        rest_here = ap (λ l. filter next (drop (suc q) l)) (live_from_more live n prefix lives more) ∙ ap (filter next) (drop_append q (tree true) (tree false))
            ∙ filter-append next (drop q (tree true)) (drop (q - length (tree true)) (tree false))

        -- those below a side begin with it
        opened_begin : (value : Bool) (other : List Bool) → Member (opened value) other → BeginsWith (side value) other
        opened_begin true other k = in_tree true other (member_taken q (tree true) other k)
        opened_begin false other k = in_tree false other (member_taken (q - length (tree true)) (tree false) other k)

        -- those below a side are opened,
        opened_too : (value : Bool) (other : List Bool) → Member (opened value) other → Member (prefix ∷ (opened true ++ opened false)) other
        opened_too true other k = inr (member-append_left (opened true) (opened false) other k)
        opened_too false other k = inr (member-append_right (opened true) (opened false) other k)

        -- and what is opened and begins with a side is one of those below it
        opened_of_side : (value : Bool) (other : List Bool) → BeginsWith (side value) other → Member (prefix ∷ (opened true ++ opened false)) other
            → Member (opened value) other
        opened_of_side value other begins (inl e) = absurd (not_shorter prefix value (subst (BeginsWith (side value)) (sym e) begins))
        opened_of_side value other begins (inr k) = ⊎_elim {C = Member (opened value) other} (at true) (at false) (member-append (opened true) (opened false) other k)
          where
            at : (which : Bool) → Member (opened which) other → Member (opened value) other
            at which h = subst (λ v. Member (opened v) other) (one_side prefix other which value (opened_begin which other h) begins) h

        -- so the test finds what is next to them
        finds_side : FindsNext (take (suc q) (live_from live n prefix)) prefix → (value : Bool) → FindsNext (opened value) (side value)
        finds_side finds value =
            let here = subst (λ l. FindsNext l prefix) opened_here finds in
            record {
              there = λ other last begins k. here.there other last (begins_without prefix (value ∷ []) other begins) (opened_too value other k);
              back = λ other last begins h. opened_of_side value other begins (here.back other last (begins_without prefix (value ∷ []) other begins) h);
            }

        -- and a side is next to the prefix itself
        side_next : FindsNext (take (suc q) (live_from live n prefix)) prefix → (value : Bool) → IsTrue (next (side value))
        side_next finds value = (subst (λ l. FindsNext l prefix) opened_here finds).there prefix value (begins_itself prefix) (inl refl)

        -- so what holds of both sides holds of it
        split_more-opened : IsSplitAt q (side true) → IsSplitAt (q - length (tree true)) (side false) → IsSplitAt (suc q) prefix
        split_more-opened full empty =
            rw (opened_here, rest_here)
            (opened_more prefix lives more (opened true) (opened false) (filter next (drop q (tree true))) (filter next (drop (q - length (tree true)) (tree false)))
            full empty)

    -- ---- by the number of values left

    -- what is owed of a prefix, where so many are opened below it
    abbrev Owed : ℕ → List Bool → Type 0
    Owed q prefix = FindsNext (take q (live_from live n prefix)) prefix → (q ≡ 0 → IsTrue (next prefix)) → IsSplitAt q prefix

    -- of full length,
    step_whole : (q : ℕ) (prefix : List Bool) → length prefix ≡ n → (t : Bool) → live prefix ≡ t → Owed q prefix
    step_whole q prefix whole false dead finds top = split_dead q prefix dead
    step_whole q prefix whole true lives finds top = split_whole q prefix lives whole top

    -- and with values left
    step_more : (q : ℕ) (prefix : List Bool) → length prefix < n → (t : Bool) → live prefix ≡ t
        → ((value : Bool) (k : ℕ) → Owed k (prefix ++ value ∷ [])) → Owed q prefix
    step_more q prefix more false dead sides finds top = split_dead q prefix dead
    step_more zero prefix more true lives sides finds top = split_more-unopened prefix lives more finds (top refl)
    step_more (suc q) prefix more true lives sides finds top =
        let full = finds_side prefix lives more q finds true in
        let empty = finds_side prefix lives more q finds false in
        split_more-opened prefix lives more q
        (sides true q full (λ _. side_next prefix lives more q finds true))
        (sides false (q - length (live_from live n (prefix ++ true ∷ []))) empty (λ _. side_next prefix lives more q finds false))

    -- so it holds of every prefix
    split : (left : ℕ) (q : ℕ) (prefix : List Bool) → length prefix + left ≡ n → Owed q prefix
    split zero q prefix long = step_whole q prefix (omega (arith, long)) (live prefix) refl
    split (suc left) q prefix long = step_more q prefix (omega (arith, long)) (live prefix) refl
        (λ value k. split left k (prefix ++ value ∷ []) (omega (arith, long, length-append prefix (value ∷ []))))

-- ---- the report of a piece

-- one of some prefixes with one value more is next to them,
pub next_there : (prefixes : List (List Bool)) (prefix : List Bool) (value : Bool) → Member prefixes prefix → IsTrue (is_next_to prefixes (prefix ++ value ∷ []))
next_there prefixes prefix value k = any_from_member (λ p. is_one_more p (prefix ++ value ∷ [])) prefixes prefix k (one_more_there prefix value)

-- and what is next to them is one of them with one value more
pub next_of : (prefixes : List (List Bool)) (prefix : List Bool) (value : Bool) → IsTrue (is_next_to prefixes (prefix ++ value ∷ [])) → Member prefixes prefix
next_of prefixes prefix value h =
    let (found, k, e) = passing_member (λ p. is_one_more p (prefix ++ value ∷ [])) prefixes h in
    subst (Member prefixes) (one_more_of found prefix value e) k

module _ (live : PrefixTest) (n : ℕ) (short : (prefix : List Bool) → IsTrue (live prefix) → length prefix ≤ n)
    (closed : (prefix rest : List Bool) → IsTrue (live (prefix ++ rest)) → IsTrue (live prefix))
    (piece : List Bool) (lives : IsTrue (live piece)) (quantum : ℕ) (some : 1 ≤ quantum) where
  -- the piece itself is opened first
  piece_first : (below : List (List Bool)) × (live_from live n piece ≡ piece ∷ below)
  piece_first = at (eqb (length piece) n) refl
    where
      at : (t : Bool) → eqb (length piece) n ≡ t → (below : List (List Bool)) × (live_from live n piece ≡ piece ∷ below)
      at true e = let whole : length piece ≡ n = grind (arith, nat_tests) in ([], live_from_whole live n piece lives whole)
      at false e =
          let fits = short piece lives in
          let more : length piece < n = grind (arith, nat_tests) in
          (live_from live n (piece ++ true ∷ []) ++ live_from live n (piece ++ false ∷ []), live_from_more live n piece lives more)

  -- so at least one is opened
  some_opened : 1 ≤ length (opened_of live n piece quantum)
  some_opened = let (below, e) = piece_first in at quantum some below e
    where
      at : (q : ℕ) → 1 ≤ q → (below : List (List Bool)) → live_from live n piece ≡ piece ∷ below → 1 ≤ length (take q (live_from live n piece))
      at zero h below e = absurd (omega arith)
      at (suc q) h below e = rw e (omega arith)

  -- The report of the first live prefixes below a live piece is allowed.
  pub report_is_allowed : IsAllowed live n piece (length (opened_of live n piece quantum)) (found_of live n piece quantum) (rest_of live n piece quantum)
  report_is_allowed =
      let next = is_next_to (opened_of live n piece quantum) in
      let fits = short piece lives in
      let parts = split live n closed next (n - length piece) quantum piece (omega arith)
      (record {
        there = λ other value begins k. next_there (opened_of live n piece quantum) other value k;
        back = λ other value begins h. next_of (opened_of live n piece quantum) other value h;
      })
      (λ none. absurd (omega (arith, none))) in
      record {
        some = some_opened;
        rest_live = each-filter next (λ prefix. IsTrue (live prefix)) (drop quantum (live_from live n piece))
            (each_behind (λ prefix. IsTrue (live prefix)) quantum (live_from live n piece)
            (each-weaker (λ x. BeginsWith piece x × IsTrue (live x)) (λ x. IsTrue (live x)) (live_from live n piece) (λ x h. h.1) (live_from_begins live n piece)));
        counted = parts.counted;
        shared = parts.shared;
      }
