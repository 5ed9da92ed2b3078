-- A column with another value in one of its cells, and what it draws beside others.
use Rattle.std.proofs.Common.{◌≡◌, ◌≢◌, ◌==◌, inl, inr, Bool, true, false, not, if◌then◌else◌, ℕ, ◌<◌, ◌≤◌, Option, Some, None, ℤ, pos, negsuc, ◌<ℤ◌, ◌≤ℤ◌, refl, ap, sym, ◌∙◌, arith}
use Rattle.std.proofs.lemmas.Bool.{cases_Bool, cases_lt, eqb-true, eqb-false, eq-eqb, ne_eqb, both_ways}
use Rattle.std.proofs.lemmas.Int.{ints}
use Rattle.std.proofs.lemmas.Option.{none-some}
use Rattle.solid_model.proofs.KnownColumns.{same_first_down_to}
use Rattle.line_demands.specs.Doubted.{CanDrawWith}
use Rattle.solid_model.specs.declared.segment.Style.TheVariants.{Blank, Dashed}
use Rattle.solid_model.specs.Columns.{IsFirstFull}
use Rattle.solid_model.specs.Demands.{AgreesWith, CanDraw}

-- the value of one cell is replaced
abbrev pub replaced : ℕ → Bool → (ℤ → Bool) → ℤ → Bool
replaced k v column (pos j) = if j == k then v else column (pos j)
replaced k v column (negsuc j) = column (negsuc j)

pub replaced_at : (k : ℕ) (v : Bool) (column : ℤ → Bool) → replaced k v column (pos k) ≡ v
replaced_at k v column = ap (λ (t : Bool). if t then v else column (pos k)) (eq-eqb k k refl)

pub replaced_off : (k : ℕ) (v : Bool) (column : ℤ → Bool) (j : ℕ) → j ≢ k → replaced k v column (pos j) ≡ column (pos j)
replaced_off k v column j off = ap (λ (t : Bool). if t then v else column (pos j)) (ne_eqb j k off)

-- what is known of a cell allows a value
abbrev pub Allows : (ℤ → Option Bool) → ℕ → Bool → Type 0
Allows known k v = (w : Bool) → known (pos k) ≡ Some w → v ≡ w

-- nothing is known of a cell
pub allows_open : (known : ℤ → Option Bool) (k : ℕ) (v : Bool) → known (pos k) ≡ None → Allows known k v
allows_open known k v none w e = absurd (none-some w (sym none ∙ e))

pub replaced_agrees : (known : ℤ → Option Bool) (k : ℕ) (v : Bool) (column : ℤ → Bool) → Allows known k v → AgreesWith known column → AgreesWith known (replaced k v column)
replaced_agrees known k v column allows agrees (negsuc j) w e = agrees (negsuc j) w e
replaced_agrees known k v column allows agrees (pos j) w e = elim (cases_Bool (j == k)) as (λ _. replaced k v column (pos j) ≡ w) [
  | inl at ↦ (let same : j ≡ k = eqb-true j k at in ap (λ n. replaced k v column (pos n)) same ∙ replaced_at k v column ∙ allows w (ap (λ n. known (pos n)) (sym same) ∙ e))
  | inr off ↦ replaced_off k v column j (eqb-false j k off) ∙ agrees (pos j) w e
]

-- two columns that are as they are known to be, and begin at a depth
pub record Begin (known other : ℤ → Option Bool) (d : ℕ) : Type 0 where
  pub one : ℤ → Bool
  pub two : ℤ → Bool
  pub fits : AgreesWith known one
  pub too : AgreesWith other two
  pub first_one : IsFirstFull one (pos d)
  pub first_two : IsFirstFull two (pos d)

module _ (known other : ℤ → Option Bool) where
  -- ---- Blank

  -- columns that can be equal can be so with either value in a cell that is undecided in both
  pub equal_with : CanDraw known other Blank → (k : ℕ) (v : Bool) → known (pos k) ≡ None → other (pos k) ≡ None → CanDrawWith known other Blank k v
  equal_with (a, b, fits, too, same) k v none none_too = (
    replaced k v a,
    replaced k v b,
    replaced_agrees known k v a (allows_open known k v none) fits,
    replaced_agrees other k v b (allows_open other k v none_too) too,
    replaced_at k v a,
    equal,
  )
    where
      equal : (j : ℤ) → replaced k v a j ≡ replaced k v b j
      equal (pos j) = ap (λ (x : Bool). if j == k then v else x) (same (pos j))
      equal (negsuc j) = same (negsuc j)

  -- ---- Dashed

  -- columns with the same first full depth can begin at a nearer one too, where both may be full
  pub begin_nearer : (a b : ℤ → Bool) → AgreesWith known a → AgreesWith other b → (d d' : ℕ) → d ≤ d' → IsFirstFull a (pos d') → IsFirstFull b (pos d')
      → Allows known d true → Allows other d true → Begin known other d
  begin_nearer a b fits too d d' near first second may may_too = record {
    one = replaced d true a;
    two = replaced d true b;
    fits = replaced_agrees known d true a may fits;
    too = replaced_agrees other d true b may_too too;
    first_one = (replaced_at d true a, below a first.1);
    first_two = (replaced_at d true b, below b second.1);
  }
    where
      below : (c : ℤ → Bool) → ((n : ℤ) → n <ℤ pos d' → c n ≡ false) → (n : ℤ) → n <ℤ pos d → replaced d true c n ≡ false
      below c none (negsuc j) l = none (negsuc j) (omega (arith, ints))
      below c none (pos j) l = replaced_off d true c j (λ e. (omega (arith, ints))) ∙ none (pos j) (omega (arith, ints))

  -- with another value at a depth, at which they don't begin or begin all the same, and different values at one farther away,
  -- they draw Dashed
  pub dashed_with : (d : ℕ) → Begin known other d → (e : ℕ) (x : Bool) → d < e → Allows known e x → Allows other e (not x)
      → (k : ℕ) (v : Bool) → d ≤ k → (k ≡ d → v ≡ true) → (k ≡ e → x ≡ v) → known (pos k) ≡ None → CanDrawWith known other Dashed k v
  dashed_with d begin e x far may may_too k v near at_begin at_far none =
      (a, b, a_fits, b_fits, replaced_at k v (replaced e x begin.one), ((pos e, differ), same_first_down_to a b d same a_begin))
    where
      a : ℤ → Bool
      a = replaced k v (replaced e x begin.one)

      b : ℤ → Bool
      b = replaced e (not x) begin.two

      a_fits : AgreesWith known a
      a_fits = replaced_agrees known k v (replaced e x begin.one) (allows_open known k v none) (replaced_agrees known e x begin.one may begin.fits)

      b_fits : AgreesWith other b
      b_fits = replaced_agrees other e (not x) begin.two may_too begin.too

      a_far : a (pos e) ≡ x
      a_far = elim (cases_Bool (e == k)) as (λ _. a (pos e) ≡ x) [
        | inl at ↦ (let same : e ≡ k = eqb-true e k at in ap (λ n. a (pos n)) same ∙ replaced_at k v (replaced e x begin.one) ∙ sym (at_far (sym same)))
        | inr off ↦ replaced_off k v (replaced e x begin.one) e (eqb-false e k off) ∙ replaced_at e x begin.one
      ]

      b_far : b (pos e) ≡ not x
      b_far = replaced_at e (not x) begin.two

      differ : a (pos e) ≢ b (pos e)
      differ equal = opposite x (sym a_far ∙ equal ∙ b_far)
        where
          opposite : (y : Bool) → y ≡ not y → ⊥
          opposite true e = both_ways true e refl
          opposite false e = both_ways false refl e

      a_begin : a (pos d) ≡ true
      a_begin = elim (cases_Bool (d == k)) as (λ _. a (pos d) ≡ true) [
        | inl at ↦ (let same : d ≡ k = eqb-true d k at in ap (λ n. a (pos n)) same ∙ replaced_at k v (replaced e x begin.one) ∙ at_begin (sym same))
        | inr off ↦ replaced_off k v (replaced e x begin.one) d (eqb-false d k off) ∙ replaced_off e x begin.one d (λ f. (omega arith)) ∙ begin.first_one.0
      ]

      same : (j : ℤ) → j ≤ℤ pos d → a j ≡ b j
      same (negsuc j) l = begin.first_one.1 (negsuc j) (omega (arith, ints)) ∙ sym (begin.first_two.1 (negsuc j) (omega (arith, ints)))
      same (pos j) l = elim (cases_lt j d) as (λ _. a (pos j) ≡ b (pos j)) [
        | inl m ↦ replaced_off k v (replaced e x begin.one) j (λ f. (omega arith)) ∙ replaced_off e x begin.one j (λ f. (omega arith)) ∙ begin.first_one.1 (pos j) (omega (arith, ints))
            ∙ sym (replaced_off e (not x) begin.two j (λ f. (omega arith)) ∙ begin.first_two.1 (pos j) (omega (arith, ints)))
        | inr m ↦ (let there : j ≡ d = omega (arith, ints) in ap (λ n. a (pos n)) there ∙ a_begin
            ∙ sym (ap (λ n. b (pos n)) there ∙ replaced_off e (not x) begin.two d (λ f. (omega arith)) ∙ begin.first_two.0))
      ]
