-- What `clap` makes of words is what their uses say: one turn, and all of them.
use Rattle.std.proofs.Common.{◌≡◌, ◌∙◌, ◌⊎◌, inl, inr, ⊎_elim, refl, sym, ap, ℕ, Bool, true, false, cond, ◌&&◌, List, [], ◌∷◌, ◌++◌, map, Option, Some, None, is_some, append-nil, nat_lt, ◌^◌, true≢false}
use Rattle.std.specs.Prelude.{option_map}
use Rattle.std.specs.List.{list_any}
use Rattle.std.specs.Option.{option_map_or}
use Rattle.std.specs.Str.{bytes_eq}
use Rattle.std.proofs.lemmas.Slice.Eq.{bytes_eq-Decides}
use Rattle.clap.specs.Lexer.{long_of}
use Rattle.clap.specs.Kinds.{Kinds, or_else}
use Rattle.clap.specs.Faults.{long_fault, option_fault, positional_fault, react_fault, settle_fault, stray_fault, use_fault, walk_fault}
use Rattle.clap.specs.declared.error.kind.ErrorKind.TheVariants.{TooManyValues}
use Rattle.clap.specs.Simple.{filled}
use Rattle.clap.specs.Walk.{Held, Row, Rule, arg_by_index, arg_by_long, idle, is_pending, option, option_word, pushed, settled, settled_rows, takes_values, to_positional}
use Rattle.clap.proofs.WalkLemmas.{both}
use Rattle.words.specs.declared.table.Range.{Range}
use Rattle.words.specs.Barred.{is_barred_word}
use Rattle.words.specs.Rows.{is_range, is_sound}
use Rattle.words.specs.Rules.{rule_by}
use Rattle.words.specs.Words as def
use Rattle.words.specs.Words.{Field, Table, Text, Use, after_word, field_word, fits_after, flag_text, is_digits, is_used, number_field, number_name, number_word, option_of, put, uses, word_as}
use Rattle.words.proofs.Built.{built_number, built_option, built_rules, by_first_index, by_id, by_long, by_number_id, by_second_index, number_at, shape_by}
use Rattle.words.proofs.Fits.{found_named, found_range, joined, joined_put, joined_unfit, repeated, unsuited, used_last, used_later}
use Rattle.words.proofs.OneUse.{none, use_row}
use Rattle.words.proofs.Stands.{Stands, after_at_once, at_once, flag_use, held, number_use, pends, value_use}
use Rattle.words.proofs.Texts.{clear_value, clear_word, long_no_number, neither, not_within}
use Rattle.words.proofs.Walk.{long_turn, other_turn, outcome, standing, turned_long, turned_plain}

none_alone : (k : Kinds) → none (or_else k []) ≡ none k
none_alone [] = refl
none_alone (k ∷ ks) = refl

same_choice : {X : Type 0} (b c : Bool) (x y : X) → b ≡ c → (c ≡ true → x ≡ y) → cond b (Some x) None ≡ cond c (Some y) None
same_choice true true x y e h = ap Some (h refl)
same_choice false false x y e h = refl
same_choice true false x y e h = absurd (true≢false e)
same_choice false true x y e h = absurd (true≢false (sym e))

then_joined : (k : Bool) (rest : Option (List Row)) (us : List Use) (o : Option (List Use)) → k ≡ fits_after [] us
    → (fits_after [] us ≡ true → rest ≡ joined us o) → cond k rest None ≡ joined us o
then_joined true rest us o e h = h (sym e)
then_joined false rest us o e h = sym (joined_unfit us o (sym e))

-- the number was seen, where the walk stands at the second position
abbrev Place : ℕ → List Use → Type 0
Place position us = (position ≡ 1) ⊎ ((position ≡ 2) × (is_used number_name us ≡ true))

placed_later : (position : ℕ) (us vs : List Use) → Place position us → Place position (us ++ vs)
placed_later position us vs p = ⊎_elim (λ (e : position ≡ 1). inl e)
    (λ (e : (position ≡ 2) × (is_used number_name us ≡ true)). inr (e.0, used_later number_name us vs e.1)) p

module _ (t : Table) (sound : is_sound t ≡ true) where
  -- with nothing that waits for a value, and with an option that does
  abbrev Idle : List Text → Type 0
  Idle words = (rows : List Row) (pending : Option (Text × List Text)) (us : List Use) (position : ℕ) → Stands t rows pending us
      → Place position us
      → outcome t (standing idle (held rows pending) position) words ≡ joined us (uses t None words)

  abbrev Waits : List Text → Type 0
  Waits words = (name : Text) (r : Range) (us : List Use) (position : ℕ) → option_of t name
      ≡ Some (record { name = name; range = Some r })
      → fits_after [] us ≡ true → Place position us
      → outcome t (standing (option name) (held (map use_row us) (Some (name, []))) position) words
      ≡ joined us (uses t (Some (record { name = name; range = Some r })) words)

  range_small : (name other : Text) (r : Range) → option_of t other ≡ Some (record { name = name; range = Some r })
      → nat_lt r.most (2 ^ 64) ≡ true
  range_small name other r found = found_range t.options other _ (both _ _ sound).0 found

  number_small : (r : Range) → t.number ≡ Some r → nat_lt r.most (2 ^ 64) ≡ true
  number_small r is = sym (ap is_range is) ∙ (both _ _ sound).1

  -- ---- the end

  idle_end : Idle []
  unfolding walk_fault
  idle_end rows pending us position s place =
      same_choice (none (settle_fault (built_rules t) false (held rows pending))) (fits_after [] us)
      (settled_rows (built_rules t) pending rows) (map use_row us) s.fault s.settled
      ∙ ap (λ xs. cond (fits_after [] xs) (Some (map use_row xs)) None) (sym (append-nil us))

  -- an option that has no value yet
  unsettled : (name : Text) (r : Range) (rows : List Row) → option_of t name ≡ Some (record { name = name; range = Some r })
      → none (settle_fault (built_rules t) false (held rows (Some (name, [])))) ≡ false
  unsettled name r rows found =
      ap (λ o. none (option_map_or (λ a. use_fault false a [] rows) o []))
      (by_id t name (record { name = name; range = Some r }) found)

  waits_end : Waits []
  unfolding walk_fault
  waits_end name r us position found fits place =
      ap (λ b. cond b (Some (settled_rows (built_rules t) (Some (name, [])) (map use_row us))) None)
      (unsettled name r (map use_row us) found)

  -- ---- a long word, where nothing waits

  module _ (x : Text) (xs : List Text) (clear : is_barred_word x ≡ false) (later : Idle xs) (waiting : Waits xs) where
    at_option : (rows : List Row) (pending : Option (Text × List Text)) (us : List Use) (position : ℕ) (p : Text × Option Text)
        (v : Option Text) (name : Text) (range : Option Range)
        → Stands t rows pending us → Place position us → long_of x ≡ Some p → p.1 ≡ v → option_of t p.0
        ≡ Some (record { name = name; range = range })
        → turned_long t idle (held rows pending) position x xs v (Some (filled (rule_by name range)))
        ≡ joined us (after_word (field_word (record { name = name; range = range }) range v) (uses t None xs)
        (λ f. uses t (Some f) xs))
    at_option rows pending us position p None name None s place long is found =
        let u : Use = (record { name = name; range = None }, flag_text) in
        then_joined _ _ (us ++ u ∷ []) (uses t None xs) (none_alone _
        ∙ at_once t rows pending us u (filled (rule_by name None)) [] s (flag_use name))
        (λ fits. later _ None (us ++ u ∷ []) position (after_at_once t rows pending us u (filled (rule_by name None)) [] s
        (flag_use name) fits) (placed_later position us (u ∷ []) place))
        ∙ sym (joined_put us u (uses t None xs))
    at_option rows pending us position p (Some v) name None s place long is found = refl
    at_option rows pending us position p None name (Some r) s place long is found =
        let same : name ≡ p.0 = found_named t.options p.0 (record { name = name; range = Some r }) found in
        let named : option_of t name ≡ Some (record { name = name; range = Some r }) = ap (option_of t) same ∙ found in
        then_joined _ _ us (uses t (Some (record { name = name; range = Some r })) xs) (none_alone _ ∙ s.fault)
        (λ fits. ap (λ rs. outcome t (standing (option name) (held rs (Some (name, []))) position) xs) (s.settled fits)
        ∙ waiting name r us position named fits place)
    at_option rows pending us position p (Some v) name (Some r) s place long is found =
        let u : Use = (record { name = name; range = Some r }, v) in
        let made = value_use name r v (clear_value x p v clear long is) (range_small name p.0 r found) in
        then_joined _ _ (us ++ u ∷ []) (uses t None xs) (none_alone _
        ∙ at_once t rows pending us u (filled (rule_by name (Some r))) (v ∷ []) s made)
        (λ fits. later _ None (us ++ u ∷ []) position (after_at_once t rows pending us u (filled (rule_by name (Some r)))
        (v ∷ []) s made fits) (placed_later position us (u ∷ []) place))
        ∙ sym (joined_put us u (uses t None xs))

    at_found : (rows : List Row) (pending : Option (Text × List Text)) (us : List Use) (position : ℕ) (p : Text × Option Text)
        (found : Option Field)
        → Stands t rows pending us → Place position us → long_of x ≡ Some p → option_of t p.0 ≡ found
        → turned_long t idle (held rows pending) position x xs p.1 (option_map built_option found)
        ≡ joined us (after_word (def.option_word found p.1) (uses t None xs) (λ f. uses t (Some f) xs))
    at_found rows pending us position p None s place long is = refl
    at_found rows pending us position p (Some f) s place long is =
        at_option rows pending us position p p.1 f.name f.range s place long refl is

    idle_long : (rows : List Row) (pending : Option (Text × List Text)) (us : List Use) (position : ℕ) (p : Text × Option Text)
        → Stands t rows pending us → Place position us → long_of x ≡ Some p
        → outcome t (standing idle (held rows pending) position) (x ∷ xs) ≡ joined us (uses t None (x ∷ xs))
    idle_long rows pending us position p s place long =
        long_turn t idle (held rows pending) position x xs p (clear_word x clear).1 long
        ∙ ap (turned_long t idle (held rows pending) position x xs p.1) (by_long t p.0)
        ∙ at_found rows pending us position p (option_of t p.0) s place long refl
        ∙ ap (λ l. joined us (after_word (word_as t l x) (uses t None xs) (λ f. uses t (Some f) xs))) (sym long)

    -- ---- any other word, where nothing waits

    no_number_said : (us : List Use) (n : Option Range) → is_digits x ≡ false
        → joined us (after_word (number_word n x) (uses t None xs) (λ f. uses t (Some f) xs)) ≡ None
    no_number_said us None none = refl
    no_number_said us (Some r) none =
        joined_put us (number_field r, x) (uses t None xs)
        ∙ joined_unfit (us ++ (number_field r, x) ∷ []) (uses t None xs) (unsuited us (number_field r, x) (not_within r x none))

    number_again : (us : List Use) (n : Option Range) → is_used number_name us ≡ true
        → joined us (after_word (number_word n x) (uses t None xs) (λ f. uses t (Some f) xs)) ≡ None
    number_again us None again = refl
    number_again us (Some r) again =
        joined_put us (number_field r, x) (uses t None xs)
        ∙ joined_unfit (us ++ (number_field r, x) ∷ []) (uses t None xs) (repeated us (number_field r, x) again)

    -- the word goes to the argument of this position
    abbrev plained : List Row → Option (Text × List Text) → ℕ → Option Rule → Option (List Row)
    plained rows pending position found = cond
        (none (option_map_or (λ a. positional_fault (built_rules t) false a (held rows pending)) found
        (stray_fault (shape_by (built_rules t)))))
        (outcome t (to_positional (built_rules t) found x (standing idle (held rows pending) position) (held rows pending)) xs)
        None

    -- whether what is pending belongs to the same use
    abbrev gathered : Range → List Row → Option (Text × List Text) → Bool → Option (List Row)
    gathered r rows pending more = cond
        (none (cond more [] (settle_fault (built_rules t) false (held rows pending))))
        (outcome t
        (standing idle (pushed number_name x (cond more (held rows pending) (settled (built_rules t) (held rows pending))))
        2) xs) None

    and_false : (b : Bool) → (b && false) ≡ false
    and_false true = refl
    and_false false = refl

    at_number : (rows : List Row) (pending : Option (Text × List Text)) (us : List Use) (n : Option Range)
        → Stands t rows pending us → t.number ≡ n
        → plained rows pending 1 (number_at n) ≡ joined us (after_word (number_word n x) (uses t None xs)
        (λ f. uses t (Some f) xs))
    at_number rows pending us None s is = refl
    at_number rows pending us (Some r) s is =
        let u : Use = (number_field r, x) in
        let made = number_use r x (clear_word x clear).0 (number_small r is) in
        ap (gathered r rows pending) (and_false (is_pending (built_number r) pending))
        ∙ then_joined _ _ us (put u (uses t None xs)) s.fault (λ fits.
        later (settled_rows (built_rules t) pending rows) (Some (number_name, x ∷ [])) (us ++ u ∷ []) 2
        (pends t us u (built_number r) (x ∷ []) (settled_rows (built_rules t) pending rows) fits (s.settled fits)
        (by_number_id t r sound is) made)
        (inr (refl, used_last us u number_name refl))
        ∙ sym (joined_put us u (uses t None xs)))

    at_position : (rows : List Row) (pending : Option (Text × List Text)) (us : List Use) (position : ℕ)
        → Stands t rows pending us → Place position us
        → plained rows pending position (arg_by_index (built_rules t) position)
        ≡ joined us (after_word (number_word t.number x) (uses t None xs) (λ f. uses t (Some f) xs))
    at_position rows pending us position s place = ⊎_elim
        (λ (e : position ≡ 1). ap (λ i. plained rows pending i (arg_by_index (built_rules t) i)) e
        ∙ ap (plained rows pending 1) (by_first_index t) ∙ at_number rows pending us t.number s refl)
        (λ (e : (position ≡ 2) × (is_used number_name us ≡ true)). ap
        (λ i. plained rows pending i (arg_by_index (built_rules t) i)) e.0
        ∙ ap (plained rows pending 2) (by_second_index t) ∙ sym (number_again us t.number e.1))
        place

    idle_other : (rows : List Row) (pending : Option (Text × List Text)) (us : List Use) (position : ℕ)
        → Stands t rows pending us → Place position us
        → long_of x ≡ None → outcome t (standing idle (held rows pending) position) (x ∷ xs) ≡ joined us (uses t None (x ∷ xs))
    idle_other rows pending us position s place long =
        ⊎_elim (λ (e : outcome t (standing idle (held rows pending) position) (x ∷ xs)
        ≡ turned_plain t idle (held rows pending) position x xs).
        e ∙ at_position rows pending us position s place)
        (λ (e : (is_digits x ≡ false) × (outcome t (standing idle (held rows pending) position) (x ∷ xs) ≡ None)). e.1
        ∙ sym (no_number_said us t.number e.0))
        (other_turn t idle (held rows pending) position x xs refl (clear_word x clear).1 long)
        ∙ ap (λ l. joined us (after_word (word_as t l x) (uses t None xs) (λ f. uses t (Some f) xs))) (sym long)

    idle_step : Idle (x ∷ xs)
    idle_step rows pending us position s place = go (long_of x) refl
      where
        go : (l : Option (Text × Option Text)) → long_of x ≡ l → outcome t (standing idle (held rows pending) position) (x ∷ xs)
            ≡ joined us (uses t None (x ∷ xs))
        go None long = idle_other rows pending us position s place long
        go (Some p) long = idle_long rows pending us position p s place long

    -- ---- a word where an option waits for its value

    value_unfit : (name : Text) (r : Range) (us : List Use) → is_digits x ≡ false
        → joined us (put (record { name = name; range = Some r }, x) (uses t None xs)) ≡ None
    value_unfit name r us none =
        let u : Use = (record { name = name; range = Some r }, x) in
        joined_put us u (uses t None xs) ∙ joined_unfit (us ++ u ∷ []) (uses t None xs) (unsuited us u (not_within r x none))

    fails_first : (a b : Kinds) → none a ≡ false → none (or_else a b) ≡ false
    fails_first [] b e = absurd (true≢false e)
    fails_first (k ∷ ks) b e = refl

    -- an option with no value is refused as soon as another begins
    long_fails : (h : Held) (found : Option Rule) (v : Option Text) → none (settle_fault (built_rules t) false h) ≡ false
        → none (long_fault (built_rules t) false found v h) ≡ false
    long_fails h None v e = refl
    long_fails h (Some a) v e = go (takes_values a) v
      where
        go : (b : Bool) (w : Option Text) → none (cond b (option_fault (built_rules t) false a w h)
            (cond (is_some w) (TooManyValues ∷ [])
            (react_fault (built_rules t) false a [] h))) ≡ false
        go true None = e
        go true (Some w) = fails_first (settle_fault (built_rules t) false h) _ e
        go false None = fails_first (settle_fault (built_rules t) false h) _ e
        go false (Some w) = refl

    refused : (k : Bool) (o : Option (List Row)) → k ≡ false → cond k o None ≡ None
    refused k o e = ap (λ b. cond b o None) e

    waits_long : (name : Text) (r : Range) (us : List Use) (position : ℕ) (p : Text × Option Text) → option_of t name
        ≡ Some (record { name = name; range = Some r })
        → long_of x ≡ Some p → outcome t (standing (option name) (held (map use_row us) (Some (name, []))) position) (x ∷ xs)
        ≡ joined us (put (record { name = name; range = Some r }, x) (uses t None xs))
    waits_long name r us position p found long =
        let h = held (map use_row us) (Some (name, [])) in
        long_turn t (option name) h position x xs p (clear_word x clear).1 long
        ∙ refused _ _ (fails_first (long_fault (built_rules t) false (arg_by_long (built_rules t) p.0) p.1 h) _
        (long_fails h (arg_by_long (built_rules t) p.0) p.1 (unsettled name r (map use_row us) found)))
        ∙ sym (value_unfit name r us (long_no_number x p long))

    equal_texts : (a : Text) → bytes_eq a a ≡ true
    equal_texts a = (bytes_eq-Decides a a).1 refl

    valued : (name : Text) (r : Range) (us : List Use) (position : ℕ) → option_of t name
        ≡ Some (record { name = name; range = Some r })
        → fits_after [] us ≡ true → Place position us
        → turned_plain t (option name) (held (map use_row us) (Some (name, []))) position x xs
        ≡ joined us (put (record { name = name; range = Some r }, x) (uses t None xs))
    valued name r us position found fits place =
        let u : Use = (record { name = name; range = Some r }, x) in
        let a : Rule = filled (rule_by name (Some r)) in
        let made = value_use name r x (clear_word x clear).0 (range_small name name r found) in
        let by = by_id t name (record { name = name; range = Some r }) found in
        let h = held (map use_row us) (Some (name, [])) in
        ap (λ o. outcome t (standing (option_word o name x h).1 (option_word o name x h).0 position) xs) by
        ∙ ap (λ b. outcome t (standing (cond (nat_lt (cond b 1 0) 1) (option name) idle)
        (held (map use_row us) (Some (name, x ∷ []))) position) xs) (equal_texts name)
        ∙ later (map use_row us) (Some (name, x ∷ [])) (us ++ u ∷ []) position
        (pends t us u a (x ∷ []) (map use_row us) fits refl by made) (placed_later position us (u ∷ []) place)
        ∙ sym (joined_put us u (uses t None xs))

    waits_step : Waits (x ∷ xs)
    waits_step name r us position found fits place = go (long_of x) refl
      where
        go : (l : Option (Text × Option Text)) → long_of x ≡ l
            → outcome t (standing (option name) (held (map use_row us) (Some (name, []))) position) (x ∷ xs)
            ≡ joined us (put (record { name = name; range = Some r }, x) (uses t None xs))
        go (Some p) long = waits_long name r us position p found long
        go None long = ⊎_elim
            (λ (e : outcome t (standing (option name) (held (map use_row us) (Some (name, []))) position) (x ∷ xs)
            ≡ turned_plain t (option name) (held (map use_row us) (Some (name, []))) position x xs). e
            ∙ valued name r us position found fits place)
            (λ (e : (is_digits x ≡ false) × (outcome t (standing (option name) (held (map use_row us) (Some (name, [])))
            position) (x ∷ xs) ≡ None)).
            e.1 ∙ sym (value_unfit name r us e.0))
            (other_turn t (option name) (held (map use_row us) (Some (name, []))) position x xs refl (clear_word x clear).1 long)

  -- ---- all words

  all_words : (words : List Text) → list_any is_barred_word words ≡ false → Idle words × Waits words
  all_words [] clear = (idle_end, waits_end)
  all_words (x ∷ xs) clear =
      let parts = neither (is_barred_word x) (list_any is_barred_word xs) clear in
      let later = all_words xs parts.1 in
      (idle_step x xs parts.0 later.0 later.1, waits_step x xs parts.0 later.0 later.1)

  -- the walk over words makes the rows of their uses, where these fit
  pub walked_uses : (words : List Text) → list_any is_barred_word words ≡ false → outcome t (standing idle (held [] None) 1) words
      ≡ joined [] (uses t None words)
  walked_uses words clear = (all_words words clear).0 [] None [] 1 (record { fault = refl; settled = λ e. refl }) (inl refl)
