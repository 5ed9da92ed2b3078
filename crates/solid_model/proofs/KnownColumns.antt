-- Columns that agree with what is known of them, and which styles two of them can draw.
use Rattle.std.proofs.Common.{◌≡◌, ◌≢◌, inl, inr, Bool, true, false, not, ◌&&◌, ◌||◌, ◌==◌, ℕ, ◌<◌, ℤ, pos, negsuc, ◌≤ℤ◌, ◌<ℤ◌, refl, ap, ap₂, sym, ◌∙◌, arith}
use Rattle.std.proofs.lemmas.Bool.{false≢true, both_ways, cases_lt, and_from, or_cases, or_left, or_right, not_from_false, eqb-true, eq-eqb, ne_eqb, false_from_ne_true}
use Rattle.std.proofs.lemmas.Int.{ints, by_lt_z}
use Rattle.std.proofs.lemmas.Option.{none-some, same_Some}
use Rattle.solid_model.specs.declared.segment.Style.TheVariants.{Blank, Dashed, Solid}
use Rattle.lemmas.specs.Bits.{is_set}
use Rattle.solid_model.specs.Columns.{IsFirstFull, HaveSameFirstFull}
use Rattle.solid_model.specs.Demands.{AgreesWith, CanDraw}
use Rattle.solid_model.specs.Known.{known_of, known_bits, LiesWithin}

-- ---- one column

-- what a column has that agrees with what is known of it
pub record Fits (full may : ℕ) (column : ℤ → Bool) : Type 0 where
  pub certain : (k : ℕ) → is_set full k ≡ true → column (pos k) ≡ true
  pub allowed : (k : ℕ) → column (pos k) ≡ true → is_set may k ≡ true
  pub below : (k : ℕ) → column (negsuc k) ≡ false

pub fits_from : (full may : ℕ) (column : ℤ → Bool) → LiesWithin full may → AgreesWith (known_bits full may) column → Fits full may column
fits_from full may column within agrees = record {
  certain = λ k set. agrees (pos k) true (ap (λ f. known_of f (is_set may k)) set);
  allowed = λ k is. at k is (is_set full k) (is_set may k) refl refl;
  below = λ k. agrees (negsuc k) false refl;
}
  where
    at : (k : ℕ) → column (pos k) ≡ true → (f m : Bool) → is_set full k ≡ f → is_set may k ≡ m → is_set may k ≡ true
    at k is f true set is_may = is_may
    at k is true false set is_may = within k set
    at k is false false set is_may = absurd (both_ways (column (pos k)) (agrees (pos k) false (ap₂ known_of set is_may)) is)

pub fits_to : (full may : ℕ) (column : ℤ → Bool) → Fits full may column → AgreesWith (known_bits full may) column
fits_to full may column fits (negsuc k) value e = fits.below k ∙ same_Some false value e
fits_to full may column fits (pos k) value e = at (is_set full k) (is_set may k) refl refl (column (pos k)) refl
  where
    at : (f m : Bool) → is_set full k ≡ f → is_set may k ≡ m → (c : Bool) → column (pos k) ≡ c → column (pos k) ≡ value
    at true m set is_may c is = fits.certain k set ∙ same_Some true value (sym (ap (λ f. known_of f (is_set may k)) set) ∙ e)
    at false true set is_may c is = absurd (none-some value (sym (ap₂ known_of set is_may) ∙ e))
    at false false set is_may true is = absurd (both_ways (is_set may k) is_may (fits.allowed k is))
    at false false set is_may false is = is ∙ same_Some false value (sym (ap₂ known_of set is_may) ∙ e)

-- the column of the cells that are full for certain, and of some others
abbrev with_others : ℕ → (ℕ → Bool) → ℤ → Bool
with_others full others (pos k) = is_set full k || others k
with_others full others (negsuc k) = false

-- agrees with what is known, where those others may be full
others_agree : (full may : ℕ) (others : ℕ → Bool) → LiesWithin full may → ((k : ℕ) → others k ≡ true → is_set may k ≡ true)
    → AgreesWith (known_bits full may) (with_others full others)
others_agree full may others within free = fits_to full may (with_others full others) record {
  certain = λ k set. or_left (is_set full k) (others k) set;
  allowed = λ k is. elim (or_cases (is_set full k) (others k) is) as (λ _. is_set may k ≡ true) [ inl set ↦ within k set | inr other ↦ free k other ];
  below = λ k. refl;
}

-- ---- two columns

-- neither of two
neither : (x y : Bool) → x ≡ false → y ≡ false → (x || y) ≡ false
neither x y e f = ap₂ ◌||◌ e f

either_way : (x y : Bool) → (x || y) ≡ (y || x)
either_way true true = refl
either_way true false = refl
either_way false true = refl
either_way false false = refl

-- which of the two columns is the first doesn't matter to what they draw
pub same_first_back : (a b : ℤ → Bool) → HaveSameFirstFull a b → HaveSameFirstFull b a
same_first_back a b same k = ((same k).1, (same k).0)

-- of two columns that agree down to a depth at which one is full, the first full depths are the same
pub same_first_down_to : (a b : ℤ → Bool) (n : ℕ) → ((k : ℤ) → k ≤ℤ pos n → a k ≡ b k) → a (pos n) ≡ true → HaveSameFirstFull a b
same_first_down_to a b n same full k = (
  kept a b same full,
  kept b a (λ j l. sym (same j l)) (sym (same (pos n) (omega (arith, ints))) ∙ full),
)
  where
    kept : (c d : ℤ → Bool) → ((j : ℤ) → j ≤ℤ pos n → c j ≡ d j) → c (pos n) ≡ true → IsFirstFull c k → IsFirstFull d k
    kept c d e is first = by_lt_z (pos n) k
        (λ l. absurd (both_ways (c (pos n)) (first.1 (pos n) l) is))
        (λ l. (sym (e k l) ∙ first.0, λ j m. sym (e j (omega (arith, ints))) ∙ first.1 j m))

module _ (fa ma fb mb : ℕ) (a_within : LiesWithin fa ma) (b_within : LiesWithin fb mb) where
  -- both can be equal, where neither must be full at a depth at which the other one can't be
  pub draw_blank : ((k : ℕ) → is_set fa k ≡ true → is_set mb k ≡ true) → ((k : ℕ) → is_set fb k ≡ true → is_set ma k ≡ true)
      → CanDraw (known_bits fa ma) (known_bits fb mb) Blank
  draw_blank a_free b_free = (
    with_others fa (is_set fb),
    with_others fb (is_set fa),
    others_agree fa ma (is_set fb) a_within b_free,
    others_agree fb mb (is_set fa) b_within a_free,
    equal,
  )
    where
      equal : (k : ℤ) → with_others fa (is_set fb) k ≡ with_others fb (is_set fa) k
      equal (pos k) = either_way (is_set fa k) (is_set fb k)
      equal (negsuc k) = refl

  -- the nearest full cell can be the first one's, where it may be full at a depth at which the other one needn't be, and
  -- needn't be before
  pub draw_solid : (d : ℕ) → is_set ma d ≡ true → is_set fb d ≡ false → ((k : ℕ) → k < d → is_set fa k ≡ false)
      → CanDraw (known_bits fa ma) (known_bits fb mb) Solid
  draw_solid d may free before = (
    with_others fa (λ k. k == d),
    with_others fb (λ _. false),
    others_agree fa ma (λ k. k == d) a_within (λ k e. ap (is_set ma) (eqb-true k d e) ∙ may),
    others_agree fb mb (λ _. false) b_within (λ k e. absurd (false≢true e)),
    λ same. both_ways (with_others fb (λ _. false) (pos d)) (neither (is_set fb d) false free refl)
        ((same (pos d)).0 (or_right (is_set fa d) (d == d) (eq-eqb d d refl), nearer)).0,
  )
    where
      nearer : (k : ℤ) → k <ℤ pos d → with_others fa (λ j. j == d) k ≡ false
      nearer (pos k) l = neither (is_set fa k) (k == d) (before k (omega (arith, ints))) (ne_eqb k d (λ e. omega (arith, ints)))
      nearer (negsuc k) l = refl

  -- both can begin at a depth at which both may be full and before which neither must be, and the first one can be full at
  -- a farther one at which the other one needn't be
  pub draw_dashed : (d e : ℕ) → d < e → is_set ma d ≡ true → is_set mb d ≡ true
      → ((k : ℕ) → k < d → is_set fa k ≡ false) → ((k : ℕ) → k < d → is_set fb k ≡ false)
      → is_set ma e ≡ true → is_set fb e ≡ false → CanDraw (known_bits fa ma) (known_bits fb mb) Dashed
  draw_dashed d e far a_may b_may a_free b_free may free = (
    after,
    before,
    others_agree fa ma (λ k. (k == d) || (k == e)) a_within allowed,
    others_agree fb mb (λ k. k == d) b_within (λ k at. ap (is_set mb) (eqb-true k d at) ∙ b_may),
    (
      (
        pos e,
        λ same. both_ways (before (pos e)) (neither (is_set fb e) (e == d) free (ne_eqb e d (λ at. omega arith)))
            (sym same ∙ or_right (is_set fa e) ((e == d) || (e == e)) (or_right (e == d) (e == e) (eq-eqb e e refl))),
      ),
      same_first_down_to after before d same (or_right (is_set fa d) ((d == d) || (d == e)) (or_left (d == d) (d == e) (eq-eqb d d refl))),
    ),
  )
    where
      after : ℤ → Bool
      after = with_others fa (λ k. (k == d) || (k == e))

      before : ℤ → Bool
      before = with_others fb (λ k. k == d)

      allowed : (k : ℕ) → ((k == d) || (k == e)) ≡ true → is_set ma k ≡ true
      allowed k at = elim (or_cases (k == d) (k == e) at) as (λ _. is_set ma k ≡ true) [
        | inl near ↦ ap (is_set ma) (eqb-true k d near) ∙ a_may
        | inr there ↦ ap (is_set ma) (eqb-true k e there) ∙ may
      ]

      same : (k : ℤ) → k ≤ℤ pos d → after k ≡ before k
      same (negsuc k) l = refl
      same (pos k) l = elim (cases_lt k d) as (λ _. after (pos k) ≡ before (pos k)) [
        | inl m ↦ neither (is_set fa k) ((k == d) || (k == e)) (a_free k m) (neither (k == d) (k == e) (ne_eqb k d (λ at. omega arith)) (ne_eqb k e (λ at. omega arith)))
            ∙ sym (neither (is_set fb k) (k == d) (b_free k m) (ne_eqb k d (λ at. omega arith)))
        | inr m ↦ (let at : k ≡ d = omega (arith, ints) in
            or_right (is_set fa k) ((k == d) || (k == e)) (or_left (k == d) (k == e) (eq-eqb k d at)) ∙ sym (or_right (is_set fb k) (k == d) (eq-eqb k d at)))
      ]

-- ---- what two columns that fit show

module _ (fa ma fb mb : ℕ) (a b : ℤ → Bool) (a_fits : Fits fa ma a) (b_fits : Fits fb mb b) where
  -- they can differ at this depth
  abbrev pub CanDifferAt : ℕ → Type 0
  CanDifferAt k = ((is_set ma k && not (is_set fb k)) || (is_set mb k && not (is_set fa k))) ≡ true

  part : (c d : ℤ → Bool) (fc mc fd md : ℕ) → Fits fc mc c → Fits fd md d → (k : ℕ) → c (pos k) ≡ true → d (pos k) ≡ false → (is_set mc k && not (is_set fd k)) ≡ true
  part c d fc mc fd md c_fits d_fits k full empty = and_from (is_set mc k) (not (is_set fd k)) (c_fits.allowed k full)
      (not_from_false (is_set fd k) (false_from_ne_true (is_set fd k) (λ set. both_ways (d (pos k)) empty (d_fits.certain k set))))

  -- where they differ, they can
  pub differ_at : (k : ℕ) → a (pos k) ≢ b (pos k) → CanDifferAt k
  differ_at k other = at (a (pos k)) (b (pos k)) refl refl
    where
      at : (x y : Bool) → a (pos k) ≡ x → b (pos k) ≡ y → CanDifferAt k
      at true true e f = absurd (other (e ∙ sym f))
      at false false e f = absurd (other (e ∙ sym f))
      at true false e f = or_left _ _ (part a b fa ma fb mb a_fits b_fits k e f)
      at false true e f = or_right _ _ (part b a fb mb fa ma b_fits a_fits k f e)

  -- where they can't, they don't
  pub same_at : (k : ℕ) → (CanDifferAt k → ⊥) → a (pos k) ≡ b (pos k)
  same_at k never = at (a (pos k)) (b (pos k)) refl refl
    where
      at : (x y : Bool) → a (pos k) ≡ x → b (pos k) ≡ y → a (pos k) ≡ b (pos k)
      at true true e f = e ∙ sym f
      at false false e f = e ∙ sym f
      at true false e f = absurd (never (differ_at k (λ same. both_ways (b (pos k)) f (sym same ∙ e))))
      at false true e f = absurd (never (differ_at k (λ same. both_ways (a (pos k)) e (same ∙ f))))
