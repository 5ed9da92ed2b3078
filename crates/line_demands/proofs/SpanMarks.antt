-- What is known of some cells of a column is set, all at once.
use Rattle.std.proofs.Common.{◌≡◌, inl, inr, Bool, true, false, if◌then◌else◌, not, ◌&&◌, ◌||◌, ◌==◌, ℕ, ◌+◌, ◌<◌, ◌^◌, List, length, take, get_or, set, Option, Some, None, pos, bit_and, bit_or, w64, refl, ap, ap₂, sym, subst, ◌∙◌}
use Rattle.std.specs.Int.{bit_not}
use Rattle.std.proofs.lemmas.Bool.{cases_Bool, eqb-true, eqb-false, false≢true}
use Rattle.std.proofs.lemmas.List.{length-set, get_or-set_same, get_or-set_other}
use Rattle.std.proofs.lemmas.Nat.Bits.{bit_at-zero}
use Rattle.std.proofs.lemmas.List.Folds.{list_any_more}
use Rattle.line_demands.specs.declared.known.KnownColumn.{KnownColumn}
use Rattle.solid_model.specs.Known.{known_of, known_bits, LiesWithin}
use Rattle.line_demands.specs.declared.spans.Span.{Span}
use Rattle.line_demands.specs.Spans.{is_in_span, is_on, no_column, column_there, known_there, AreWithin}
use Rattle.lemmas.specs.Bits.{is_set}
use Rattle.lemmas.proofs.WordBits.{set_either, set_without}

-- a column of which no cell may be full
pub none_known : (k : ℕ) → known_bits 0 0 (pos k) ≡ Some false
none_known k = let clear : is_set 0 k ≡ false = ap (λ b. b == 1) (bit_at-zero k) in ap₂ known_of clear clear

full_by : (f m s : Bool) → known_of (f || s) (m || s) ≡ (if s then Some true else known_of f m)
full_by true m true = refl
full_by false m true = refl
full_by true true false = refl
full_by true false false = refl
full_by false true false = refl
full_by false false false = refl

empty_by : (f m s : Bool) → known_of (f && not s) (m && not s) ≡ (if s then Some false else known_of f m)
empty_by true true true = refl
empty_by true false true = refl
empty_by false true true = refl
empty_by false false true = refl
empty_by true true false = refl
empty_by true false false = refl
empty_by false true false = refl
empty_by false false false = refl

free_by : (f m s : Bool) → known_of (f && not s) (m || s) ≡ (if s then None else known_of f m)
free_by true true true = refl
free_by true false true = refl
free_by false true true = refl
free_by false false true = refl
free_by true true false = refl
free_by true false false = refl
free_by false true false = refl
free_by false false false = refl

full_within : (f m s : Bool) → (f ≡ true → m ≡ true) → (f || s) ≡ true → (m || s) ≡ true
full_within true m s w e = ap (λ x. x || s) (w refl)
full_within false true s w e = refl
full_within false false s w e = e

empty_within : (f m s : Bool) → (f ≡ true → m ≡ true) → (f && not s) ≡ true → (m && not s) ≡ true
empty_within true m s w e = ap (λ x. x && not s) (w refl) ∙ e
empty_within false m s w e = absurd (false≢true e)

free_within : (f m s : Bool) → (f ≡ true → m ≡ true) → (f && not s) ≡ true → (m || s) ≡ true
free_within true m s w e = ap (λ x. x || s) (w refl)
free_within false m s w e = absurd (false≢true e)

module _ (full may cells : ℕ) (f_fits : full < 2 ^ 64) (m_fits : may < 2 ^ 64) (s_fits : cells < 2 ^ 64) (within : LiesWithin full may) where
  pub within_full : LiesWithin (bit_or full cells) (bit_or may cells)
  within_full k e = set_either may cells k ∙ full_within (is_set full k) (is_set may k) (is_set cells k) (within k) (sym (set_either full cells k) ∙ e)

  pub known_full : (k : ℕ) → known_bits (bit_or full cells) (bit_or may cells) (pos k) ≡ (if is_set cells k then Some true else known_bits full may (pos k))
  known_full k = ap₂ known_of (set_either full cells k) (set_either may cells k) ∙ full_by (is_set full k) (is_set may k) (is_set cells k)

  pub within_empty : LiesWithin (bit_and full (bit_not w64 cells)) (bit_and may (bit_not w64 cells))
  within_empty k e = set_without may cells k m_fits s_fits ∙ empty_within (is_set full k) (is_set may k) (is_set cells k) (within k) (sym (set_without full cells k f_fits s_fits) ∙ e)

  pub known_empty : (k : ℕ) → known_bits (bit_and full (bit_not w64 cells)) (bit_and may (bit_not w64 cells)) (pos k) ≡ (if is_set cells k then Some false else known_bits full may (pos k))
  known_empty k = ap₂ known_of (set_without full cells k f_fits s_fits) (set_without may cells k m_fits s_fits) ∙ empty_by (is_set full k) (is_set may k) (is_set cells k)

  pub within_free : LiesWithin (bit_and full (bit_not w64 cells)) (bit_or may cells)
  within_free k e = set_either may cells k ∙ free_within (is_set full k) (is_set may k) (is_set cells k) (within k) (sym (set_without full cells k f_fits s_fits) ∙ e)

  pub known_free : (k : ℕ) → known_bits (bit_and full (bit_not w64 cells)) (bit_or may cells) (pos k) ≡ (if is_set cells k then None else known_bits full may (pos k))
  known_free k = ap₂ known_of (set_without full cells k f_fits s_fits) (set_either may cells k) ∙ free_by (is_set full k) (is_set may k) (is_set cells k)

-- ---- one span more

either_more : {A : Type 0} (x y : Bool) (a b : A) → (if x || y then a else b) ≡ (if y then a else (if x then a else b))
either_more true true a b = refl
either_more true false a b = refl
either_more false true a b = refl
either_more false false a b = refl

module _ (spans : List Span) (known : Option Bool) (old : List KnownColumn) where
  -- what is known once some spans are set
  pub record AreSetTo (n : ℕ) (columns : List KnownColumn) : Type 0 where
    pub count : length columns ≡ length old
    pub within : AreWithin columns
    pub each : (c k : ℕ) → known_there columns c k ≡ (if is_on (take n spans) c k then known else known_there old c k)

  pub none_set : AreWithin old → AreSetTo 0 old
  none_set within = record { count = refl; within = within; each = λ c k. refl }

  pub one_set : (n : ℕ) (columns : List KnownColumn) (s d : Span) (made : KnownColumn) → AreSetTo n columns → n < length spans → get_or spans n d ≡ s → s.column < length columns
      → LiesWithin made.full made.may
      → ((k : ℕ) → known_bits made.full made.may (pos k) ≡ (if is_set s.cells k then known else known_there columns s.column k))
      → AreSetTo (n + 1) (set columns s.column made)
  one_set n columns s d made so_far l at there within says = record {
    count = length-set columns s.column made ∙ so_far.count;
    within = λ c. by_column (λ (x : KnownColumn). LiesWithin x.full x.may) c within (so_far.within c);
    each = each;
  }
    where
      same_place : (c : ℕ) → s.column ≡ c → column_there (set columns s.column made) c ≡ made
      same_place c e = ap (column_there (set columns s.column made)) (sym e) ∙ get_or-set_same columns s.column made no_column there

      other_place : (c : ℕ) → (s.column == c) ≡ false → column_there (set columns s.column made) c ≡ column_there columns c
      other_place c other = get_or-set_other columns s.column c made no_column (λ e. eqb-false s.column c other (sym e))

      by_column : (P : KnownColumn → Type 0) (c : ℕ) → P made → P (column_there columns c) → P (column_there (set columns s.column made) c)
      by_column P c new kept = elim (cases_Bool (s.column == c)) as (λ _. P (column_there (set columns s.column made) c)) [
        | inl is ↦ subst P (sym (same_place c (eqb-true s.column c is))) new
        | inr other ↦ subst P (sym (other_place c other)) kept
      ]

      more : (c k : ℕ) → is_on (take (n + 1) spans) c k ≡ (is_on (take n spans) c k || is_in_span c k s)
      more c k = list_any_more (is_in_span c k) spans n d l ∙ ap (λ x. is_on (take n spans) c k || is_in_span c k x) at

      goal : (c k : ℕ) → (if is_in_span c k s then known else known_there columns c k) ≡ (if is_on (take (n + 1) spans) c k then known else known_there old c k)
      goal c k = ap (λ x. if is_in_span c k s then known else x) (so_far.each c k)
          ∙ sym (either_more (is_on (take n spans) c k) (is_in_span c k s) known (known_there old c k))
          ∙ ap (λ (b : Bool). if b then known else known_there old c k) (sym (more c k))

      each : (c k : ℕ) → known_there (set columns s.column made) c k ≡ (if is_on (take (n + 1) spans) c k then known else known_there old c k)
      each c k = elim (cases_Bool (s.column == c)) as (λ _. known_there (set columns s.column made) c k ≡ (if is_on (take (n + 1) spans) c k then known else known_there old c k)) [
        | inl is ↦ (let e : s.column ≡ c = eqb-true s.column c is in
            ap (λ (x : KnownColumn). known_bits x.full x.may (pos k)) (same_place c e) ∙ says k
            ∙ ap (λ d. if is_set s.cells k then known else known_there columns d k) e
            ∙ ap (λ (b : Bool). if b && is_set s.cells k then known else known_there columns c k) (sym is)
            ∙ goal c k)
        | inr other ↦ ap (λ (x : KnownColumn). known_bits x.full x.may (pos k)) (other_place c other)
            ∙ ap (λ (b : Bool). if b && is_set s.cells k then known else known_there columns c k) (sym other)
            ∙ goal c k
      ]
