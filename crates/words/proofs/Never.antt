-- Barred words are never taken, whatever the table.
use Rattle.std.proofs.Common.{◌≡◌, ◌∙◌, refl, sym, ap, Bool, true, false, cond, map, not, ◌&&◌, ◌||◌, List, [], ◌∷◌, ◌++◌, Option, Some, None, is_some, true≢false}
use Rattle.std.specs.Prelude.{⊤, option_map}
use Rattle.std.specs.List.{list_all, list_any}
use Rattle.std.specs.Option.{option_map_or}
use Rattle.std.specs.Str.{bytes_eq}
use Rattle.std.proofs.lemmas.Slice.Eq.{bytes_eq-Decides}
use Rattle.clap.specs.Lexer.{long_of}
use Rattle.words.specs.declared.table.Range.{Range}
use Rattle.words.specs.Barred.{is_barred_word}
use Rattle.words.specs.Jobs.{Command, command_said, commands, job_said, said_among}
use Rattle.words.specs.Words.{Field, Table, Text, Use, Word, after_word, field_word, fits_after, has_number, lies_in_range, number_word, opens, option_of, option_word, put, says, stray, suits, taken, uses, where_fit, word_as, word_of}
use Rattle.clap.proofs.WalkLemmas.{both}
use Rattle.words.proofs.Fits.{joined, joined_put, joined_unfit, unsuited}
use Rattle.words.proofs.OneUse.{use_row}
use Rattle.words.proofs.Texts.{barred_no_number, barred_value, clear_flag, either, not_within}

-- a barred word is none, or a use that no option takes
abbrev IsUnfit : Text → Word → Type 0
IsUnfit x (says u) = is_barred_word x ≡ true → suits u ≡ false
IsUnfit x (opens f) = (is_some f.range ≡ true) × (is_barred_word x ≡ false)
IsUnfit x stray = ⊤

clash : {P : Type 0} (b : Bool) → b ≡ true → b ≡ false → P
clash b e h = absurd (true≢false (sym e ∙ h))

field_unfit : (x : Text) (p : Text × Option Text) (v : Option Text) (name : Text) (range : Option Range) → long_of x ≡ Some p
    → p.1 ≡ v
    → IsUnfit x (field_word (record { name = name; range = range }) range v)
field_unfit x p None name None long is = λ barred. clash (is_barred_word x) barred (clear_flag x p long is)
field_unfit x p (Some v) name None long is = tt
field_unfit x p None name (Some r) long is = (refl, clear_flag x p long is)
field_unfit x p (Some v) name (Some r) long is = λ barred. not_within r v (barred_value x p v barred long is)

word_unfit : (t : Table) (x : Text) → IsUnfit x (word_of t x)
word_unfit t x = go (long_of x) refl
  where
    by_option : (p : Text × Option Text) (o : Option Field) → long_of x ≡ Some p → IsUnfit x (option_word o p.1)
    by_option p None long = tt
    by_option p (Some f) long = field_unfit x p p.1 f.name f.range long refl

    by_number : (n : Option Range) → IsUnfit x (number_word n x)
    by_number None = tt
    by_number (Some r) = λ barred. not_within r x (barred_no_number x barred)

    go : (l : Option (Text × Option Text)) → long_of x ≡ l → IsUnfit x (word_as t l x)
    go None long = by_number t.number
    go (Some p) long = by_option p (option_of t p.0) long

module _ (t : Table) where
  abbrev Never : List Text → Type 0
  Never words = ((us : List Use) → joined us (uses t None words) ≡ None)
      × ((us : List Use) (f : Field) → is_some f.range ≡ true → joined us (uses t (Some f) words) ≡ None)

  unsuited_put : (us : List Use) (u : Use) (o : Option (List Use)) → suits u ≡ false → joined us (put u o) ≡ None
  unsuited_put us u o e = joined_put us u o ∙ joined_unfit (us ++ u ∷ []) o (unsuited us u e)

  value_unsuited : (f : Field) (x : Text) → is_some f.range ≡ true → is_barred_word x ≡ true → suits (f, x) ≡ false
  value_unsuited f x ranged barred = go f.range ranged
    where
      go : (n : Option Range) → is_some n ≡ true → option_map_or (λ r. lies_in_range r x) n true ≡ false
      go None e = absurd (true≢false (sym e))
      go (Some r) e = not_within r x (barred_no_number x barred)

  here : (x : Text) (xs : List Text) → is_barred_word x ≡ true → Never (x ∷ xs)
  here x xs barred = (
    λ us. first us (word_of t x) (word_unfit t x),
    λ us f ranged. unsuited_put us (f, x) (uses t None xs)
        (value_unsuited f x ranged barred),
  )
    where
      first : (us : List Use) (w : Word) → IsUnfit x w → joined us (after_word w (uses t None xs) (λ f. uses t (Some f) xs))
          ≡ None
      first us (says u) unfit = unsuited_put us u (uses t None xs) (unfit barred)
      first us (opens f) unfit = clash (is_barred_word x) barred unfit.1
      first us stray unfit = refl

  later : (x : Text) (xs : List Text) → Never xs → Never (x ∷ xs)
  later x xs never = (
    λ us. first us (word_of t x) (word_unfit t x),
    λ us f ranged. joined_put us (f, x) (uses t None xs)
        ∙ never.0 (us ++ (f, x) ∷ []),
  )
    where
      first : (us : List Use) (w : Word) → IsUnfit x w → joined us (after_word w (uses t None xs) (λ f. uses t (Some f) xs))
          ≡ None
      first us (says u) unfit = joined_put us u (uses t None xs) ∙ never.0 (us ++ u ∷ [])
      first us (opens f) unfit = never.1 us f unfit.0
      first us stray unfit = refl

  never_joined : (words : List Text) → list_any is_barred_word words ≡ true → Never words
  never_joined [] e = absurd (true≢false (sym e))
  never_joined (x ∷ xs) e = either (is_barred_word x) (list_any is_barred_word xs) e (λ h. here x xs h)
      (λ h. later x xs (never_joined xs h))

  unjoined : (o : Option (List Use)) → joined [] o ≡ None → where_fit t o ≡ None
  unjoined None e = refl
  unjoined (Some us) e = go (fits_after [] us) (has_number t us) e
    where
      go : (a b : Bool) → cond a (Some (map use_row us)) None ≡ None → cond (a && b) (Some us) None ≡ None
      go true b h = cc
      go false b h = refl

  pub never_taken : (words : List Text) → list_any is_barred_word words ≡ true → taken t words ≡ None
  never_taken words e = unjoined (uses t None words) ((never_joined words e).0 [])

-- a command whose name isn't barred says no job by barred words, nor does any of such commands
command_unsaid : (c : Command) (words : List Text) → list_any is_barred_word words ≡ true → command_said c words ≡ None
command_unsaid c words e = ap (option_map c.job) (never_taken c.table words e)

unsaid_among : (cs : List Command) → list_all (λ c. not (is_barred_word c.name)) cs ≡ true → (name : Text) (words : List Text)
    → list_any is_barred_word (name ∷ words) ≡ true → said_among cs name words ≡ None
unsaid_among [] clear name words e = refl
unsaid_among (c ∷ cs) clear name words e =
    go (bytes_eq name c.name) refl (unsaid_among cs (both _ _ clear).1 name words e)
  where
    unbarred : (b : Bool) → not b ≡ true → b ≡ false
    unbarred false h = refl
    unbarred true h = cc

    go : (b : Bool) → bytes_eq name c.name ≡ b → said_among cs name words ≡ None
        → cond b (command_said c words) (said_among cs name words) ≡ None
    go false is later = later
    go true is later =
        let same : is_barred_word name ≡ false = ap is_barred_word ((bytes_eq-Decides name c.name).0 is)
        ∙ unbarred (is_barred_word c.name) (both _ _ clear).0 in
        command_unsaid c words (sym (ap (λ b. b || list_any is_barred_word words) same) ∙ e)

-- no job is said by barred words
pub barred_unsaid : (words : List Text) → list_any is_barred_word words ≡ true → job_said words ≡ None
barred_unsaid [] e = refl
barred_unsaid (name ∷ words) e = unsaid_among commands refl name words e
