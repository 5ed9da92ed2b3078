-- Whether some pair of columns that agrees with what is known of them draws a style can be computed, depth by depth.
use Rattle.std.proofs.Common.{◌≡◌, ◌≢◌, inl, inr, ⊎_elim, Bool, true, false, ℕ, zero, suc, ◌+◌, ◌<◌, ◌≤◌, List, map, ℤ, pos, negsuc, ◌≤ℤ◌, ◌<ℤ◌, Option, Some, None, refl, ap, sym, subst, ◌∙◌, arith}
use Rattle.std.specs.List.{list_any, range_with_len}
use Rattle.std.proofs.lemmas.Bool.{false≢true, both_ways, and_parts, and_from, or_cases, or_left, or_right, cases_lt, false_from_ne_true}
use Rattle.std.proofs.lemmas.Int.{ints, by_lt_z}
use Rattle.solid_model.specs.declared.segment.Style.{Style}
use Rattle.solid_model.specs.declared.segment.Style.TheVariants.{Blank, Dashed, Solid}
use Rattle.solid_model.specs.Columns.{IsFirstFull, HaveSameFirstFull, ColumnsDraw}
use Rattle.solid_model.specs.Demands.{AgreesWith, CellsBeside, can_be, can_both_be, can_agree, can_differ, can_draw}
use Rattle.solid_model.proofs.ColumnRule.{one_first}

-- ---- what is known of a cell

-- the value of a cell: what is known, else the one that is wished
abbrev pub settled : Option Bool → Bool → Bool
settled None wish = wish
settled (Some known) wish = known

-- a wish that what is known allows is granted
pub granted : (known : Option Bool) (wish value : Bool) → can_be value known ≡ true → wish ≡ value → settled known wish ≡ value
granted None wish value allows e = e
granted (Some true) wish true allows e = refl
granted (Some true) wish false allows e = absurd (false≢true allows)
granted (Some false) wish true allows e = absurd (false≢true allows)
granted (Some false) wish false allows e = refl

-- a value that agrees with what is known is allowed
allowed : (known : Option Bool) (value : Bool) → ((v : Bool) → known ≡ Some v → value ≡ v) → can_be value known ≡ true
allowed None value agrees = refl
allowed (Some true) true agrees = refl
allowed (Some true) false agrees = agrees true refl
allowed (Some false) true agrees = sym (agrees false refl)
allowed (Some false) false agrees = refl

-- cells that can agree do so where each takes over what is known of the other
pub taken_over : (x y : Option Bool) → can_agree (record { after = x; before = y }) ≡ true → settled x (settled y false) ≡ settled y (settled x false)
taken_over None None e = refl
taken_over None (Some b) e = refl
taken_over (Some a) None e = refl
taken_over (Some true) (Some true) e = refl
taken_over (Some true) (Some false) e = absurd (false≢true e)
taken_over (Some false) (Some true) e = absurd (false≢true e)
taken_over (Some false) (Some false) e = refl

module _ (x y : Option Bool) where
  abbrev pair : CellsBeside
  pair = record { after = x; before = y }

  both_be : (v a b : Bool) → can_be a x ≡ true → can_be b y ≡ true → a ≡ v → b ≡ v → can_both_be v pair ≡ true
  both_be v a b p q e f = and_from _ _ (subst (λ w. can_be w x ≡ true) e p) (subst (λ w. can_be w y ≡ true) f q)

  agree_from : (a b : Bool) → can_be a x ≡ true → can_be b y ≡ true → a ≡ b → can_agree pair ≡ true
  agree_from true b p q e = or_left _ _ (both_be true true b p q refl (sym e))
  agree_from false b p q e = or_right _ _ (both_be false false b p q refl (sym e))

  differ_from : (a b : Bool) → can_be a x ≡ true → can_be b y ≡ true → a ≢ b → can_differ pair ≡ true
  differ_from true true p q e = absurd (e refl)
  differ_from true false p q e = or_left _ _ (and_from _ _ p q)
  differ_from false true p q e = or_right _ _ (and_from _ _ p q)
  differ_from false false p q e = absurd (e refl)

  -- cells that can be different can be so in some way
  pub record CanBeApart : Type 0 where
    pub value : Bool
    pub other : Bool
    pub differ : value ≢ other
    pub after_can : can_be value x ≡ true
    pub before_can : can_be other y ≡ true

  pub apart : can_differ pair ≡ true → CanBeApart
  apart e = ⊎_elim {C = CanBeApart}
      (λ h. let p = and_parts _ _ h in record { value = true; other = false; differ = (λ d. false≢true (sym d)); after_can = p.0; before_can = p.1 })
      (λ h. let p = and_parts _ _ h in record { value = false; other = true; differ = false≢true; after_can = p.0; before_can = p.1 })
      (or_cases _ _ e)

-- ---- first full depths

-- two columns with one first full depth
pub same_first_at : (a b : ℤ → Bool) (m : ℤ) → IsFirstFull a m → IsFirstFull b m → HaveSameFirstFull a b
same_first_at a b m on_a on_b = λ k. (
  (λ first. subst (IsFirstFull b) (sym (one_first a k m first on_a)) on_b),
  (λ first. subst (IsFirstFull a) (sym (one_first b k m first on_b)) on_a),
)

-- ---- columns of which something is known

-- beyond the first n depths each cell is known to be empty
pub record IsEmptyBeyond (n : ℕ) (known : ℤ → Option Bool) : Type 0 where
  pub nearer : (k : ℕ) → known (negsuc k) ≡ Some false
  pub farther : (k : ℕ) → n ≤ k → known (pos k) ≡ Some false

module _ (known other : ℤ → Option Bool) where
  -- what is known of the two cells at a depth
  abbrev cells_at : ℤ → CellsBeside
  cells_at k = record { after = known k; before = other k }

  -- and at n depths from one on
  abbrev pub cells_from : ℕ → ℕ → List CellsBeside
  cells_from m n = map (λ (k : ℕ). cells_at (pos k)) (range_with_len m n)

  -- ---- from columns to the test

  module _ (after before : ℤ → Bool) (agrees : AgreesWith known after) (agrees_too : AgreesWith other before) where
    after_can : (k : ℤ) → can_be (after k) (known k) ≡ true
    after_can k = allowed (known k) (after k) (agrees k)

    before_can : (k : ℤ) → can_be (before k) (other k) ≡ true
    before_can k = allowed (other k) (before k) (agrees_too k)

    blank_can : ((k : ℤ) → after k ≡ before k) → (m n : ℕ) → can_draw Blank (cells_from m n) ≡ true
    blank_can same m zero = refl
    blank_can same m (suc n) = and_from _ _ (agree_from (known (pos m)) (other (pos m)) (after (pos m)) (before (pos m)) (after_can (pos m)) (before_can (pos m)) (same (pos m)))
        (blank_can same (m + 1) n)

    -- both are empty but for n depths from m on
    pub record AreEmptyBut (m n : ℕ) : Type 0 where
      pub nearer : (k : ℤ) → k <ℤ pos m → (after k ≡ false) × (before k ≡ false)
      pub farther : (k : ℤ) → pos (m + n) ≤ℤ k → (after k ≡ false) × (before k ≡ false)

    emptied : (m n : ℕ) → AreEmptyBut m (suc n) → after (pos m) ≡ false → before (pos m) ≡ false → AreEmptyBut (m + 1) n
    emptied m n empty p q = record {
      nearer = λ k l. by_lt_z k (pos m) (λ less. empty.nearer k less) (λ least.
          let here : pos m ≡ k = omega (arith, ints) in subst (λ z. (after z ≡ false) × (before z ≡ false)) here (p, q));
      farther = λ k l. empty.farther k (omega (arith, ints));
    }

    -- a depth at which they are different is one of these
    record IsOneOf (m n : ℕ) (k : ℤ) : Type 0 where
      depth : ℕ
      is : k ≡ pos depth
      from : m ≤ depth
      to : depth < m + n

    one_of : (m n : ℕ) → AreEmptyBut m n → (k : ℤ) → after k ≢ before k → IsOneOf m n k
    one_of m n empty k differ = by k refl
      where
        out : (after k ≡ false) × (before k ≡ false) → ⊥
        out e = differ (e.0 ∙ sym e.1)

        by : (z : ℤ) → k ≡ z → IsOneOf m n k
        by (negsuc d) e = absurd (out (empty.nearer k (omega (arith, ints))))
        by (pos d) e = record {
          depth = d;
          is = e;
          from = elim (cases_lt d m) as (λ _. m ≤ d) [ inl l ↦ absurd (out (empty.nearer k (omega (arith, ints)))) | inr l ↦ l ];
          to = elim (cases_lt d (m + n)) as (λ _. d < m + n) [ inl l ↦ l | inr l ↦ absurd (out (empty.farther k (omega (arith, ints)))) ];
        }

    some_differ : (m n d : ℕ) → m ≤ d → d < m + n → after (pos d) ≢ before (pos d) → list_any can_differ (cells_from m n) ≡ true
    some_differ m zero d from to differ = absurd (omega arith)
    some_differ m (suc n) d from to differ = elim (cases_lt m d) as (λ _. list_any can_differ (cells_from m (suc n)) ≡ true) [
      | inl later ↦ or_right _ _ (some_differ (m + 1) n d (omega arith) (omega arith) differ)
      | inr here ↦
          let same : d ≡ m = omega arith in
          or_left _ _ (differ_from (known (pos m)) (other (pos m)) (after (pos m)) (before (pos m)) (after_can (pos m)) (before_can (pos m))
          (subst (λ (k : ℕ). after (pos k) ≢ before (pos k)) same differ))
    ]

    -- where one of the two is full at the first depth, that is its first full depth
    first_after : (m n : ℕ) → AreEmptyBut m n → after (pos m) ≡ true → IsFirstFull after (pos m)
    first_after m n empty e = (e, λ k l. (empty.nearer k l).0)

    first_before : (m n : ℕ) → AreEmptyBut m n → before (pos m) ≡ true → IsFirstFull before (pos m)
    first_before m n empty e = (e, λ k l. (empty.nearer k l).1)

    dashed_can : HaveSameFirstFull after before → (k : ℤ) → after k ≢ before k → (m n : ℕ) → AreEmptyBut m n → can_draw Dashed (cells_from m n) ≡ true
    dashed_can same k differ m zero empty = let d = one_of m 0 empty k differ in absurd (omega (arith, d.from, d.to))
    dashed_can same k differ m (suc n) empty = by (λ p q. dashed_can same k differ (m + 1) n (emptied m n empty p q)) _ _ refl refl
      where
        behind : after (pos m) ≡ before (pos m) → IsOneOf m (suc n) k → list_any can_differ (cells_from (m + 1) n) ≡ true
        behind e d = elim (cases_lt m d.depth) as (λ _. list_any can_differ (cells_from (m + 1) n) ≡ true) [
          | inl later ↦ some_differ (m + 1) n d.depth (omega arith) (omega (arith, d.to)) (subst (λ z. after z ≢ before z) d.is differ)
          | inr here ↦
              let at : k ≡ pos m = d.is ∙ ap pos (omega (arith, d.from)) in
              absurd (subst (λ z. after z ≢ before z) at differ e)
        ]

        by : (after (pos m) ≡ false → before (pos m) ≡ false → can_draw Dashed (cells_from (m + 1) n) ≡ true)
            → (a b : Bool) → after (pos m) ≡ a → before (pos m) ≡ b → can_draw Dashed (cells_from m (suc n)) ≡ true
        by rest true true p q = or_left _ _ (and_from _ _
            (both_be (known (pos m)) (other (pos m)) true (after (pos m)) (before (pos m)) (after_can (pos m)) (before_can (pos m)) p q)
            (behind (p ∙ sym q) (one_of m (suc n) empty k differ)))
        by rest true false p q = absurd (both_ways (before (pos m)) q ((same (pos m)).0 (first_after m (suc n) empty p)).0)
        by rest false true p q = absurd (both_ways (after (pos m)) p ((same (pos m)).1 (first_before m (suc n) empty q)).0)
        by rest false false p q = or_right _ _ (and_from _ _
            (both_be (known (pos m)) (other (pos m)) false (after (pos m)) (before (pos m)) (after_can (pos m)) (before_can (pos m)) p q)
            (rest p q))

    -- where no depth can part them, the two have the same first full depth
    same_where_none : (m n : ℕ) → AreEmptyBut m n → can_draw Solid (cells_from m n) ≡ false → HaveSameFirstFull after before
    same_where_none m zero empty none = λ k. (
      (λ first. absurd (both_ways (after k) (never k).0 first.0)),
      (λ first. absurd (both_ways (before k) (never k).1 first.0)),
    )
      where
        never : (k : ℤ) → (after k ≡ false) × (before k ≡ false)
        never k = by_lt_z k (pos m) (λ l. empty.nearer k l) (λ l. empty.farther k (omega (arith, ints)))
    same_where_none m (suc n) empty none = by (λ p q. same_where_none (m + 1) n (emptied m n empty p q)) _ _ refl refl
      where
        differ : after (pos m) ≢ before (pos m) → ⊥
        differ d = both_ways (can_draw Solid (cells_from m (suc n))) none
            (or_left _ _ (differ_from (known (pos m)) (other (pos m)) (after (pos m)) (before (pos m)) (after_can (pos m)) (before_can (pos m)) d))

        by : (after (pos m) ≡ false → before (pos m) ≡ false → can_draw Solid (cells_from (m + 1) n) ≡ false → HaveSameFirstFull after before)
            → (a b : Bool) → after (pos m) ≡ a → before (pos m) ≡ b → HaveSameFirstFull after before
        by rest true true p q = same_first_at after before (pos m) (first_after m (suc n) empty p) (first_before m (suc n) empty q)
        by rest true false p q = absurd (differ (λ e. false≢true (sym q ∙ sym e ∙ p)))
        by rest false true p q = absurd (differ (λ e. false≢true (sym p ∙ e ∙ q)))
        by rest false false p q = rest p q (false_from_ne_true _ (λ can.
            both_ways (can_draw Solid (cells_from m (suc n))) none (or_right _ _ (and_from _ _
            (both_be (known (pos m)) (other (pos m)) false (after (pos m)) (before (pos m)) (after_can (pos m)) (before_can (pos m)) p q) can))))

    -- so the test finds what they draw
    pub columns_can : (n : ℕ) → AreEmptyBut 0 n → (style : Style) → ColumnsDraw after before style → can_draw style (cells_from 0 n) ≡ true
    columns_can n empty Blank same = blank_can same 0 n
    columns_can n empty Dashed (k, same) = dashed_can same k.0 k.1 0 n empty
    columns_can n empty Solid differ = by _ refl
      where
        by : (can : Bool) → can_draw Solid (cells_from 0 n) ≡ can → can_draw Solid (cells_from 0 n) ≡ true
        by true e = e
        by false e = absurd (differ (same_where_none 0 n empty e))
