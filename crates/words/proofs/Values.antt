-- The values that are read: those of uses that fit lie in their ranges, and are read as their numbers.
use Rattle.std.proofs.Common.{◌≡◌, ◌∙◌, refl, sym, ap, ap₂, subst, ℕ, ◌<◌, ◌≤◌, ◌^◌, Bool, true, false, cond, ◌&&◌, ◌==◌, eqb-true, List, [], ◌∷◌, ◌++◌, length, Option, Some, None, IfSome, is_some, ◌||◌, Result, Ok, Err, nat_le, arith, true≢false, ltb-true, leb-true, codes}
use Rattle.std.specs.Prelude.{⊤, option_map, unwrap_or}
use Rattle.std.specs.List.{find, list_all}
use Rattle.std.specs.Char.{digit_value, is_ascii_digit}
use Rattle.std.specs.Option.{option_map_or}
use Rattle.std.specs.Str.{bytes_eq}
use Rattle.std.specs.Str.Parse.{AllDigits, IsNumeral, ParsesUnsigned, digits_value, without_leading_plus}
use Rattle.std.proofs.lemmas.Bool.{not-true}
use Rattle.std.proofs.lemmas.Slice.Eq.{bytes_eq-Decides}
use Rattle.clap.specs.Lexer.{long_of}
use Rattle.lemmas.specs.Lists.{Each}
use Rattle.clap.specs.Matches.{ReadsOne}
use Rattle.clap.proofs.WalkLemmas.{both}
use Rattle.words.specs.declared.table.Range.{Range}
use Rattle.words.specs.Barred.{begins_with_plus}
use Rattle.clap.specs.Words.{found_of, one_text}
use Rattle.clap.specs.declared.parser.matches.ArgMatches.{ArgMatches}
use Rattle.words.specs.Rows.{IsRead, has_flag, is_sound}
use Rattle.words.specs.Said.{agrees, called, is_usual, range_of_number, or_number, same_range, usual_fields}
use Rattle.words.specs.Words.{Field, Table, Text, Use, Word, after_word, field_word, fits_after, flag_text, has_number, is_digits, is_used, lies_in_range, number_name, number_or, number_word, opens, option_of, option_word, put, says, stray, suits, taken, text_in, uses, where_fit, word_as, word_of}
use Rattle.words.proofs.Built.{no_number_option}
use Rattle.words.proofs.Fits.{found_named}
use Rattle.words.proofs.Texts.{digit_same, plus_kept}

-- ---- each use is one of the table

-- a value of an option with this range
abbrev pub IsValue : Option Range → Text → Type 0
IsValue None text = text ≡ flag_text
IsValue (Some r) text = lies_in_range r text ≡ true

value_by : (s r : Option Range) (text : Text) → same_range s r ≡ true → option_map_or (λ q. lies_in_range q text) s true ≡ true
    → (s ≡ None → text ≡ flag_text) → IsValue r text
value_by None None text same suit flag = flag refl
value_by None (Some r) text same suit flag = cc
value_by (Some s) None text same suit flag = cc
value_by (Some s) (Some r) text same suit flag =
    let parts = both _ _ same in
    sym (ap₂ (λ (l m : ℕ). is_digits text && (nat_le l (digits_value 10 text) && nat_le (digits_value 10 text) m))
    (eqb-true s.least r.least parts.0) (eqb-true s.most r.most parts.1)) ∙ suit

module _ (t : Table) (sound : is_sound t ≡ true) where
  -- the use is one of the table, and one of a flag says so
  abbrev IsOf : Use → Type 0
  IsOf u = (called t u.0.name ≡ Some u.0) × (u.0.range ≡ None → u.1 ≡ flag_text)

  abbrev AllOf : List Use → Type 0
  AllOf [] = ⊤
  AllOf (u ∷ us) = IsOf u × AllOf us

  abbrev WordOf : Word → Type 0
  WordOf (says u) = IsOf u
  WordOf (opens f) = (called t f.name ≡ Some f) × (f.range ≡ None → ⊥)
  WordOf stray = ⊤

  put_of : (u : Use) (o : Option (List Use)) → IsOf u → IfSome o AllOf → IfSome (put u o) AllOf
  put_of u None is h = tt
  put_of u (Some us) is h = (is, h)

  field_of_table : (name : Text) (range : Option Range) (v : Option Text) → called t name
      ≡ Some (record { name = name; range = range })
      → WordOf (field_word (record { name = name; range = range }) range v)
  field_of_table name None None found = (found, λ _. refl)
  field_of_table name None (Some v) found = tt
  field_of_table name (Some r) None found = (found, λ e. cc)
  field_of_table name (Some r) (Some v) found = (found, λ e. cc)

  called_option : (name : Text) (f : Field) → option_of t name ≡ Some f → called t f.name ≡ Some f
  called_option name f found = ap (λ o. or_number o (bytes_eq f.name number_name) t.number)
      (ap (option_of t) (found_named t.options name f found) ∙ found)

  word_is_of : (x : Text) → WordOf (word_of t x)
  word_is_of x = go (long_of x)
    where
      by_option : (name : Text) (v : Option Text) (o : Option Field) → option_of t name ≡ o → WordOf (option_word o v)
      by_option name v None found = tt
      by_option name v (Some f) found = field_of_table f.name f.range v (called_option name f found)

      by_number : (n : Option Range) → t.number ≡ n → WordOf (number_word n x)
      by_number None is = tt
      by_number (Some r) is = (ap₂ (λ o m. or_number o true m) (no_number_option t sound) is, λ e. cc)

      go : (l : Option (Text × Option Text)) → WordOf (word_as t l x)
      go None = by_number t.number refl
      go (Some p) = by_option p.0 p.1 (option_of t p.0) refl

  uses_of_table : (words : List Text) → IfSome (uses t None words) AllOf
      × ((f : Field) → called t f.name ≡ Some f → (f.range ≡ None → ⊥) → IfSome (uses t (Some f) words) AllOf)
  uses_of_table [] = (tt, λ f found ranged. tt)
  uses_of_table (x ∷ xs) =
      let later = uses_of_table xs in (
        first later.0 later.1 (word_of t x) (word_is_of x),
        λ f found ranged. put_of (f, x) (uses t None xs)
            (found, λ e. absurd (ranged e)) later.0,
      )
    where
      first : IfSome (uses t None xs) AllOf → ((f : Field) → called t f.name ≡ Some f → (f.range ≡ None → ⊥)
          → IfSome (uses t (Some f) xs) AllOf)
          → (w : Word) → WordOf w → IfSome (after_word w (uses t None xs) (λ f. uses t (Some f) xs)) AllOf
      first now waits (says u) is = put_of u (uses t None xs) is now
      first now waits (opens f) is = waits f is.0 is.1
      first now waits stray is = tt

  -- ---- and its value suits it

  abbrev IsUseBy : Text → Use → Type 0
  IsUseBy name u = (called t name ≡ Some u.0) × (suits u ≡ true) × (u.0.range ≡ None → u.1 ≡ flag_text)

  found_use : (seen us : List Use) (name : Text) → fits_after seen us ≡ true → AllOf us
      → IfSome (find (λ u. bytes_eq u.0.name name) us) (IsUseBy name)
  found_use seen [] name fits of = tt
  found_use seen (u ∷ us) name fits of =
      let parts = both _ _ fits in
      go (bytes_eq u.0.name name) refl (both _ _ parts.0).1 (found_use (seen ++ u ∷ []) us name parts.1 of.1)
    where
      go : (b : Bool) → bytes_eq u.0.name name ≡ b → suits u ≡ true → IfSome (find (λ v. bytes_eq v.0.name name) us) (IsUseBy name)
          → IfSome (cond b (Some u) (find (λ v. bytes_eq v.0.name name) us)) (IsUseBy name)
      go true is suit later = (sym (ap (called t) ((bytes_eq-Decides u.0.name name).0 is)) ∙ of.0.0, suit, of.0.1)
      go false is suit later = later

  taken_uses : (words : List Text) (us : List Use) → taken t words ≡ Some us → AllOf us × (fits_after [] us ≡ true)
  taken_uses words us e = go (uses t None words) (uses_of_table words).0 e
    where
      inner : (vs : List Use) (a b : Bool) → fits_after [] vs ≡ a → AllOf vs → cond (a && b) (Some vs) None ≡ Some us → AllOf us
          × (fits_after [] us ≡ true)
      inner vs true true fits of h = let same : vs ≡ us = cc in (subst AllOf same of, ap (fits_after []) (sym same) ∙ fits)
      inner vs true false fits of h = cc
      inner vs false b fits of h = cc

      go : (o : Option (List Use)) → IfSome o AllOf → where_fit t o ≡ Some us → AllOf us × (fits_after [] us ≡ true)
      go None of h = cc
      go (Some vs) of h = inner vs (fits_after [] vs) (has_number t vs) refl of h

  -- the value of an option or of the number, where the words are taken
  pub value_within : (words : List Text) (us : List Use) (f : Field) → taken t words ≡ Some us → agrees t f ≡ true
      → IfSome (text_in f.name us) (IsValue f.range)
  value_within words us f e agree =
      let parts = taken_uses words us e in
      go (find (λ u. bytes_eq u.0.name f.name) us) (found_use [] us f.name parts.1 parts.0)
    where
      go : (o : Option Use) → IfSome o (IsUseBy f.name) → IfSome (option_map (λ (u : Use). u.1) o) (IsValue f.range)
      go None h = tt
      go (Some u) h = value_by u.0.range f.range u.1
          (sym (ap (λ o. option_map_or (λ (g : Field). same_range g.range f.range) o true) h.0) ∙ (both _ _ agree).0) h.1 h.2

-- what is known of a table whose names mean what they mean elsewhere
pub record Usual (t : Table) : Type 0 where
  pub sound : is_sound t ≡ true
  pub agreed : Each (λ f. agrees t f ≡ true) (usual_fields t)
  pub low : (range_of_number t).least ≤ 1
  pub high : 1 ≤ (range_of_number t).most

pub usual : (t : Table) → is_usual t ≡ true → Usual t
unfolding is_usual
usual t e =
    let parts = both _ _ (both _ _ e).1 in
    let ends = both _ _ parts.1 in
    record { sound = (both _ _ e).0; agreed = each (usual_fields t) parts.0; low = leb-true _ _ ends.0; high = leb-true _ _ ends.1 }
  where
    each : (fs : List Field) → list_all (agrees t) fs ≡ true → Each (λ f. agrees t f ≡ true) fs
    each [] h = tt
    each (f ∷ fs) h = let parts = both _ _ h in (parts.0, each fs parts.1)

-- ---- what is read of a name that the table calls as other commands do

module _ (t : Table) (words : List Text) (m : ArgMatches) (name : Text) (r : Range) (read : IsRead t words m)
    (agree : agrees t (record { name = name; range = Some r }) ≡ true) where
  -- no flag is called so, so that what is read is what is said
  pub text_read : one_text (found_of m) name ≡ text_in name read.0
  text_read = read.2 name
      ∙ ap (λ b. cond b (Some (unwrap_or (text_in name read.0) (codes "false"))) (text_in name read.0))
      (not-true (has_flag t.options name) (both _ _ agree).1)

  pub given_within : is_sound t ≡ true → IfSome (one_text (found_of m) name) (λ text. lies_in_range r text ≡ true)
  given_within sound = subst (λ (o : Option Text). IfSome o (λ text. lies_in_range r text ≡ true)) (sym text_read)
      (value_within t sound words read.0 (record { name = name; range = Some r }) read.1 agree)

  pub number_said : (otherwise got : ℕ) → got ≡ unwrap_or (option_map (digits_value 10) (one_text (found_of m) name)) otherwise
      → got ≡ number_or read.0 name otherwise
  number_said otherwise got is = is ∙ ap (λ o. unwrap_or (option_map (digits_value 10) o) otherwise) text_read

-- a name has a value where it is used
used_text : (name : Text) (us : List Use) → is_used name us ≡ is_some (text_in name us)
used_text name [] = refl
used_text name (u ∷ us) = go (bytes_eq u.0.name name) (used_text name us)
  where
    go : (b : Bool) → is_used name us ≡ is_some (text_in name us) → (b || is_used name us)
        ≡ is_some (option_map (λ (v : Use). v.1) (cond b (Some u) (find (λ v. bytes_eq v.0.name name) us)))
    go true e = refl
    go false e = e

-- a flag is read so, where the words are taken: whether it is used
pub flag_read : (t : Table) (words : List Text) (m : ArgMatches) (name : Text) (flag : Bool) → is_sound t ≡ true
    → (read : IsRead t words m) → agrees t (record { name = name; range = None }) ≡ true
    → (one_text (found_of m) name ≡ None → flag ≡ false) → (one_text (found_of m) name ≡ Some (codes "true") → flag ≡ true)
    → (one_text (found_of m) name ≡ Some (codes "false") → flag ≡ false) → flag ≡ is_used name read.0
flag_read t words m name flag sound read agree none on off =
    go (text_in name read.0) (has_flag t.options name)
    (value_within t sound words read.0 (record { name = name; range = None }) read.1 agree) (read.2 name)
    ∙ sym (used_text name read.0)
  where
    go : (o : Option Text) (b : Bool) → IfSome o (λ x. x ≡ flag_text)
        → one_text (found_of m) name ≡ cond b (Some (unwrap_or o (codes "false"))) o → flag ≡ is_some o
    go None true h is = off is
    go None false h is = none is
    go (Some x) true h is = on (is ∙ ap Some h)
    go (Some x) false h is = on (is ∙ ap Some h)

-- ---- how a value is read

numeral : (cs : Text) → list_all is_ascii_digit cs ≡ true → AllDigits 10 cs
numeral [] e = tt
numeral (c ∷ cs) e = let parts = both _ _ e in (ltb-true (digit_value c) 10 (sym (digit_same c) ∙ parts.0), numeral cs parts.1)

no_plus : (x : Text) → is_digits x ≡ true → begins_with_plus x ≡ false
no_plus [] e = refl
no_plus (c ∷ cs) e = go (c == 43) refl
  where
    go : (b : Bool) → c == 43 ≡ b → b ≡ false
    go false is = refl
    go true is = absurd (true≢false (sym (both _ _ (both _ _ e).1).0 ∙ ap is_ascii_digit (eqb-true c 43 is)))

-- a number of the range is read as what its digits say
pub number_read : {E : Type 0} (gives : List ℕ → Result ℕ E → Type 0)
    → ((u : List ℕ) (x : Result ℕ E) → gives u x → ParsesUnsigned 64 10 u x)
    → (least most : ℕ) (text : Option Text) (got : Option ℕ) → most < 2 ^ 64
    → IfSome text (λ x. lies_in_range (record { least = least; most = most }) x ≡ true)
    → (text ≡ None → got ≡ None) → ((t : List ℕ) → text ≡ Some t → ReadsOne gives t got) → got ≡ option_map (digits_value 10) text
number_read gives parses least most None got small within none some = none refl
number_read gives parses least most (Some x) got small within none some = go got (some x refl)
  where
    digits : is_digits x ≡ true
    digits = (both _ _ within).0

    kept : without_leading_plus x ≡ x
    kept = plus_kept x (no_plus x digits)

    below : digits_value 10 x < 2 ^ 64
    below = let le : digits_value 10 x ≤ most = leb-true (digits_value 10 x) most
        (both (nat_le least (digits_value 10 x)) (nat_le (digits_value 10 x) most)
        (both (is_digits x) (nat_le least (digits_value 10 x) && nat_le (digits_value 10 x) most) within).1).1 in omega arith

    is_numeral : IsNumeral 10 x × (digits_value 10 x < 2 ^ 64)
    is_numeral = let parts = both _ _ digits in ((ltb-true 0 (length x) parts.0, numeral x parts.1), below)

    go : (o : Option ℕ) → ReadsOne gives x o → o ≡ Some (digits_value 10 x)
    go (Some v) h = ap Some ((parses x (Ok v) h).1 ∙ ap (digits_value 10) kept)
    go None h = absurd (parses x (Err h.0) h.1 (subst (λ (y : Text). IsNumeral 10 y × (digits_value 10 y < 2 ^ 64)) (sym kept)
        is_numeral))

-- what is read lies in the range, where what stands for nothing does
pub read_within : (least most otherwise : ℕ) (text : Option Text)
    → IfSome text (λ x. lies_in_range (record { least = least; most = most }) x ≡ true)
    → least ≤ otherwise → otherwise ≤ most
    → (least ≤ unwrap_or (option_map (digits_value 10) text) otherwise)
    × (unwrap_or (option_map (digits_value 10) text) otherwise ≤ most)
read_within least most otherwise None within low high = (low, high)
read_within least most otherwise (Some x) within low high = let parts = both _ _ (both _ _ within).1 in
    (leb-true _ _ parts.0, leb-true _ _ parts.1)
