-- Texts of digits, and texts with a `+` in them.
use Rattle.std.proofs.Common.{◌≡◌, ◌∙◌, ◌<◌, ◌≤◌, ◌^◌, ◌+◌, suc, refl, sym, ap, ap₂, ℕ, Bool, true, false, cond, not, ◌&&◌, ◌||◌, ◌==◌, [], ◌∷◌, drop, length, Option, Some, None, nat_lt, nat_le, codes, true≢false, arith, lt-ltb, ltb-true, le-leb, leb-true, eqb-true}
use Rattle.std.specs.Prelude.{option_and_then}
use Rattle.std.specs.List.{list_all, after_first, position_or_len}
use Rattle.std.specs.Char.{digit_value, is_ascii_digit}
use Rattle.std.specs.Str.{bytes_eq}
use Rattle.std.specs.Str.Parse.{digits_value, without_leading_plus}
use Rattle.std.proofs.lemmas.Slice.Eq.{bytes_eq-Decides}
use Rattle.std.proofs.lemmas.Str.{digit_value_digit}
use Rattle.std.proofs.lemmas.Str.Parse.{digit_from_value}
use Rattle.std.proofs.lemmas.Bool.{false_from_ne_true}
use Rattle.std.proofs.Math.Bool.{or-false}
use Rattle.clap.specs.Lexer.{has_byte, long_of, long_of_rest, name_and_value, short_of, short_of_rest, strip_byte}
use Rattle.clap.specs.ValueTests.{is_numeral, is_unsigned_in}
use Rattle.clap.proofs.WalkLemmas.{both}
use Rattle.words.specs.declared.table.Range.{Range}
use Rattle.words.specs.Barred.{begins_with_plus, has_equals_plus, is_barred_word}
use Rattle.words.specs.Words.{Text, is_digits, lies_in_range}

-- ---- digits

pub digit_same : (c : ℕ) → is_ascii_digit c ≡ nat_lt (digit_value c) 10
digit_same c = go (is_ascii_digit c) (nat_lt (digit_value c) 10) refl refl
  where
    go : (a b : Bool) → is_ascii_digit c ≡ a → nat_lt (digit_value c) 10 ≡ b → a ≡ b
    go true true e h = refl
    go false false e h = refl
    go true false e h =
        let parts = both _ _ e in
        let value = digit_value_digit c (leb-true 48 c parts.0, leb-true c 57 parts.1) in
        let top : c ≤ 57 = leb-true c 57 parts.1 in
        absurd (true≢false (sym (lt-ltb (digit_value c) 10 (omega arith)) ∙ h))
    go false true e h =
        let range = digit_from_value c (ltb-true (digit_value c) 10 h) in
        absurd (true≢false (sym (ap₂ (λ x y. x && y) (le-leb 48 c range.0) (le-leb c 57 range.1)) ∙ e))

digits_same : (cs : Text) → list_all is_ascii_digit cs ≡ list_all (λ d. nat_lt (digit_value d) 10) cs
digits_same [] = refl
digits_same (c ∷ cs) = ap₂ (λ a b. a && b) (digit_same c) (digits_same cs)

pub plus_kept : (x : Text) → begins_with_plus x ≡ false → without_leading_plus x ≡ x
plus_kept [] e = refl
plus_kept (c ∷ cs) e = ap (λ b. drop (cond b 1 0) (c ∷ cs)) e

drop_middle : (a lt l m : Bool) → (m ≡ true → lt ≡ true) → (a && (lt && (l && m))) ≡ (a && (l && m))
drop_middle false lt l m h = refl
drop_middle true true l m h = refl
drop_middle true false true true h = h refl
drop_middle true false true false h = refl
drop_middle true false false m h = refl

-- `clap` takes the numbers of the range, where no `+` stands first
pub within_same : (r : Range) (x : Text) → begins_with_plus x ≡ false → nat_lt r.most (2 ^ 64) ≡ true
    → is_unsigned_in r.least r.most x ≡ lies_in_range r x
within_same r x plain small =
    let n = digits_value 10 x in
    ap (λ ds. is_numeral ds && (nat_lt (digits_value 10 ds) (2 ^ 64)
    && (nat_le r.least (digits_value 10 ds) && nat_le (digits_value 10 ds) r.most))) (plus_kept x plain)
    ∙ drop_middle (is_numeral x) (nat_lt n (2 ^ 64)) (nat_le r.least n) (nat_le n r.most) (λ le. lt-ltb n (2 ^ 64)
    (let below : n ≤ r.most = leb-true n r.most le in let top : r.most < 2 ^ 64 = ltb-true r.most (2 ^ 64) small in omega arith))
    ∙ ap (λ b. (nat_lt 0 (length x) && b) && (nat_le r.least n && nat_le n r.most)) (sym (digits_same x))

and_false : (a : Bool) → (a && false) ≡ false
and_false true = refl
and_false false = refl

plus_no_digit : (c : ℕ) → (c == 43) ≡ true → is_ascii_digit c ≡ false
plus_no_digit c e = ap is_ascii_digit (eqb-true c 43 e)

no_digits : (cs : Text) → has_byte 43 cs ≡ true → list_all is_ascii_digit cs ≡ false
no_digits [] e = absurd (true≢false (sym e))
no_digits (c ∷ cs) e = go (c == 43) refl e (λ h. no_digits cs h)
  where
    go : (b : Bool) → (c == 43) ≡ b → (b || has_byte 43 cs) ≡ true → (has_byte 43 cs ≡ true → list_all is_ascii_digit cs ≡ false)
        → (is_ascii_digit c && list_all is_ascii_digit cs) ≡ false
    go true is e later = ap (λ b. b && list_all is_ascii_digit cs) (plus_no_digit c is)
    go false is e later = ap (λ b. is_ascii_digit c && b) (later e) ∙ and_false (is_ascii_digit c)

-- a text with a `+` in it is no number
pub no_number : (x : Text) → has_byte 43 x ≡ true → is_digits x ≡ false
no_number x e = ap (λ b. nat_lt 0 (length x) && b) (no_digits x e) ∙ and_false (nat_lt 0 (length x))

pub not_within : (r : Range) (x : Text) → is_digits x ≡ false → lies_in_range r x ≡ false
not_within r x e = ap (λ b. b && (nat_le r.least (digits_value 10 x) && nat_le (digits_value 10 x) r.most)) e

-- a text that begins with a hyphen is no number
pub hyphen_no_number : (cs : Text) → is_digits (45 ∷ cs) ≡ false
hyphen_no_number cs = and_false (nat_lt 0 (length (45 ∷ cs)))

-- ---- barred words

or_true : (a b : Bool) → b ≡ true → (a || b) ≡ true
or_true true b e = refl
or_true false b e = e

or_first : (a b : Bool) → a ≡ true → (a || b) ≡ true
or_first a b e = ap (λ x. x || b) e

pub either : {P : Type 0} (a b : Bool) → (a || b) ≡ true → (a ≡ true → P) → (b ≡ true → P) → P
either true b e f g = f refl
either false b e f g = g e

plus_first : (x : Text) → begins_with_plus x ≡ true → has_byte 43 x ≡ true
plus_first [] e = absurd (true≢false (sym e))
plus_first (c ∷ cs) e = or_first (c == 43) (has_byte 43 cs) e

plus_inside : (x : Text) → has_equals_plus x ≡ true → has_byte 43 x ≡ true
plus_inside [] e = absurd (true≢false (sym e))
plus_inside (c ∷ cs) e = either (c == 61 && begins_with_plus cs) (has_equals_plus cs) e
    (λ h. or_true (c == 43) (has_byte 43 cs) (plus_first cs (both _ _ h).1))
    (λ h. or_true (c == 43) (has_byte 43 cs) (plus_inside cs h))

pub barred_no_number : (w : Text) → is_barred_word w ≡ true → is_digits w ≡ false
barred_no_number w e = either (begins_with_plus w) (has_equals_plus w || bytes_eq w (codes "--")) e
    (λ h. no_number w (plus_first w h))
    (λ rest. either (has_equals_plus w) (bytes_eq w (codes "--")) rest
    (λ h. no_number w (plus_inside w h))
    (λ h. ap is_digits ((bytes_eq-Decides w (codes "--")).0 h)))

-- what stands after the first `=`
abbrev pub after_equals : Text → Text
after_equals xs = after_first (λ x. x == 61) xs

after_next : (c : ℕ) (cs : Text) → after_equals (c ∷ cs) ≡ cond (c == 61) cs (after_equals cs)
after_next c cs = go (c == 61)
  where
    go : (b : Bool) → drop (cond (not b) (1 + position_or_len (λ x. x == 61) cs) 0 + 1) (c ∷ cs) ≡ cond b cs (after_equals cs)
    go true = refl
    go false =
        let n : (1 + position_or_len (λ x. x == 61) cs) + 1 ≡ suc (position_or_len (λ x. x == 61) cs + 1) = omega arith in
        ap (λ k. drop k (c ∷ cs)) n

value_has_plus : (xs : Text) → has_equals_plus xs ≡ true → (has_byte 61 xs ≡ true) × (has_byte 43 (after_equals xs) ≡ true)
value_has_plus [] e = absurd (true≢false (sym e))
value_has_plus (c ∷ cs) e = go (c == 61) refl e (λ h. value_has_plus cs h)
  where
    go : (b : Bool) → (c == 61) ≡ b → ((b && begins_with_plus cs) || has_equals_plus cs) ≡ true
        → (has_equals_plus cs ≡ true → (has_byte 61 cs ≡ true) × (has_byte 43 (after_equals cs) ≡ true))
        → (((c == 61) || has_byte 61 cs) ≡ true) × (has_byte 43 (after_equals (c ∷ cs)) ≡ true)
    go true is e later = (
      ap (λ b. b || has_byte 61 cs) is,
      ap (has_byte 43) (after_next c cs ∙ ap (λ b. cond b cs (after_equals cs)) is)
          ∙ either (begins_with_plus cs) (has_equals_plus cs) e (λ h. plus_first cs h) (λ h. plus_inside cs h),
    )
    go false is e later = (
      ap (λ b. b || has_byte 61 cs) is ∙ (later e).0,
      ap (has_byte 43) (after_next c cs ∙ ap (λ b. cond b cs (after_equals cs)) is) ∙ (later e).1,
    )

value_plus_first : (xs : Text) → begins_with_plus (after_equals xs) ≡ true → has_equals_plus xs ≡ true
value_plus_first [] e = absurd (true≢false (sym e))
value_plus_first (c ∷ cs) e = go (c == 61) refl (λ h. value_plus_first cs h)
  where
    go : (b : Bool) → (c == 61) ≡ b → (begins_with_plus (after_equals cs) ≡ true → has_equals_plus cs ≡ true)
        → (((c == 61) && begins_with_plus cs) || has_equals_plus cs) ≡ true
    go true is later =
        let here : begins_with_plus cs ≡ true = ap begins_with_plus
        (sym (after_next c cs ∙ ap (λ b. cond b cs (after_equals cs)) is)) ∙ e in
        or_first ((c == 61) && begins_with_plus cs) (has_equals_plus cs) (ap₂ (λ a b. a && b) is here)
    go false is later =
        let there : begins_with_plus (after_equals cs) ≡ true =
        ap begins_with_plus (sym (after_next c cs ∙ ap (λ b. cond b cs (after_equals cs)) is)) ∙ e in
        or_true ((c == 61) && begins_with_plus cs) (has_equals_plus cs) (later there)

-- ---- long and short words

abbrev Shown : Text → Text × Option Text → Type 0
Shown w p = (x : ℕ) × (xs : Text) × (w ≡ 45 ∷ 45 ∷ x ∷ xs) × (p ≡ name_and_value (x ∷ xs))

-- a long word begins with two hyphens, and what follows is cut at the first `=`
pub long_form : (w : Text) (p : Text × Option Text) → long_of w ≡ Some p → Shown w p
long_form [] p e = cc
long_form (c ∷ []) p e = go (c == 45) e
  where
    go : (b : Bool) → option_and_then long_of_rest (option_and_then (strip_byte 45) (cond b (Some []) None)) ≡ Some p
        → Shown (c ∷ []) p
    go true h = cc
    go false h = cc
long_form (c ∷ d ∷ ds) p e = go (c == 45) refl e
  where
    after : (ys : Text) → c ≡ 45 → d ≡ 45 → ys ≡ ds → long_of_rest ys ≡ Some p → Shown (c ∷ d ∷ ds) p
    after [] one two same h = cc
    after (x ∷ xs) one two same h = (x, xs, (λ i. one i ∷ two i ∷ sym same i), cc)

    second : (b : Bool) → (d == 45) ≡ b → c ≡ 45 → option_and_then long_of_rest (cond b (Some ds) None) ≡ Some p
        → Shown (c ∷ d ∷ ds) p
    second true is one h = after ds one (eqb-true d 45 is) refl h
    second false is one h = cc

    go : (b : Bool) → (c == 45) ≡ b → option_and_then long_of_rest
        (option_and_then (strip_byte 45) (cond b (Some (d ∷ ds)) None)) ≡ Some p → Shown (c ∷ d ∷ ds) p
    go true is h = second (d == 45) refl (eqb-true c 45 is) h
    go false is h = cc

first_hyphen : (x : Text) (rest : Text) → strip_byte 45 x ≡ Some rest → is_digits x ≡ false
first_hyphen [] rest e = cc
first_hyphen (c ∷ cs) rest e = go (c == 45) refl e
  where
    go : (b : Bool) → (c == 45) ≡ b → cond b (Some cs) None ≡ Some rest → is_digits (c ∷ cs) ≡ false
    go true is h = ap (λ d. is_digits (d ∷ cs)) (eqb-true c 45 is) ∙ hyphen_no_number cs
    go false is h = cc

pub short_no_number : (x flags : Text) → short_of x ≡ Some flags → is_digits x ≡ false
short_no_number x flags e = go (strip_byte 45 x) refl e
  where
    go : (o : Option Text) → strip_byte 45 x ≡ o → option_and_then short_of_rest o ≡ Some flags → is_digits x ≡ false
    go None is h = cc
    go (Some rest) is h = first_hyphen x rest is

pub long_no_number : (x : Text) (p : Text × Option Text) → long_of x ≡ Some p → is_digits x ≡ false
long_no_number x p e = let form = long_form x p e in ap is_digits form.2 ∙ hyphen_no_number (45 ∷ form.0 ∷ form.1)

-- what stands behind a `=`
value_given : (b : Bool) (a : Text) (v : Text) → cond b (Some a) None ≡ Some v → (b ≡ true) × (a ≡ v)
value_given true a v e = (refl, cc)
value_given false a v e = cc

no_value : (b : Bool) (a : Text) → cond b (Some a) None ≡ None → b ≡ false
no_value true a e = cc
no_value false a e = refl

given_at : (x : Text) (p : Text × Option Text) (v : Text) → long_of x ≡ Some p → p.1 ≡ Some v
    → (y : ℕ) × (ys : Text) × (x ≡ 45 ∷ 45 ∷ y ∷ ys) × (after_equals (y ∷ ys) ≡ v)
given_at x p v e is =
    let form = long_form x p e in
    let parts = value_given (has_byte 61 (form.0 ∷ form.1)) (after_equals (form.0 ∷ form.1)) v
    (sym (ap (λ (q : Text × Option Text). q.1) form.3) ∙ is) in
    (form.0, form.1, form.2, parts.1)

barred_long : (y : ℕ) (ys : Text) → is_barred_word (45 ∷ 45 ∷ y ∷ ys) ≡ has_equals_plus (y ∷ ys)
barred_long y ys = or-false (has_equals_plus (y ∷ ys))

pub neither : (a b : Bool) → (a || b) ≡ false → (a ≡ false) × (b ≡ false)
neither true b e = absurd (true≢false e)
neither false b e = (refl, e)

-- the value of a word that isn't barred doesn't begin with `+`
pub clear_value : (x : Text) (p : Text × Option Text) (v : Text) → is_barred_word x ≡ false → long_of x ≡ Some p → p.1 ≡ Some v
    → begins_with_plus v ≡ false
clear_value x p v clear e is =
    let at = given_at x p v e is in
    let clean : has_equals_plus (at.0 ∷ at.1) ≡ false = sym (barred_long at.0 at.1) ∙ ap is_barred_word (sym at.2) ∙ clear in
    false_from_ne_true (begins_with_plus v) (λ h. true≢false (sym (value_plus_first (at.0 ∷ at.1) (ap begins_with_plus at.3 ∙ h)) ∙ clean))

-- and that of one that is barred has a `+`
pub barred_value : (x : Text) (p : Text × Option Text) (v : Text) → is_barred_word x ≡ true → long_of x ≡ Some p → p.1 ≡ Some v
    → is_digits v ≡ false
barred_value x p v barred e is =
    let at = given_at x p v e is in
    let inside : has_equals_plus (at.0 ∷ at.1) ≡ true = sym (barred_long at.0 at.1) ∙ ap is_barred_word (sym at.2) ∙ barred in
    no_number v (ap (has_byte 43) (sym at.3) ∙ (value_has_plus (at.0 ∷ at.1) inside).1)

-- a long word with no value isn't barred
pub clear_flag : (x : Text) (p : Text × Option Text) → long_of x ≡ Some p → p.1 ≡ None → is_barred_word x ≡ false
clear_flag x p e is =
    let form = long_form x p e in
    let without = no_value (has_byte 61 (form.0 ∷ form.1)) (after_equals (form.0 ∷ form.1))
    (sym (ap (λ (q : Text × Option Text). q.1) form.3) ∙ is) in
    ap is_barred_word form.2 ∙ barred_long form.0 form.1
    ∙ false_from_ne_true (has_equals_plus (form.0 ∷ form.1)) (λ h. true≢false (sym (value_has_plus (form.0 ∷ form.1) h).0 ∙ without))

-- a word that isn't barred begins with no `+` and isn't `--`
pub clear_word : (x : Text) → is_barred_word x ≡ false → (begins_with_plus x ≡ false) × (bytes_eq x (codes "--") ≡ false)
clear_word x e = let outer = neither (begins_with_plus x) _ e in (outer.0, (neither (has_equals_plus x) _ outer.1).1)
