-- Whether some pair of columns that agrees with what is known of them draws a style can be computed, depth by depth.
use Rattle.std.proofs.Common.{◌≡◌, ◌↔◌, inl, inr, ⊎_elim, Bool, true, false, ◌&&◌, ◌||◌, ℕ, zero, suc, ◌+◌, ◌<◌, ◌≤◌, ℤ, pos, negsuc, ◌≤ℤ◌, ◌<ℤ◌, Option, IsTrue, refl, ap, sym, subst, ◌∙◌, arith}
use Rattle.std.specs.List.{list_any, list_all}
use Rattle.std.specs.Ordering.{int_eq}
use Rattle.std.proofs.lemmas.Bool.{false≢true, both_ways, and_parts, or_cases, or_left, cases_lt, false_from_ne_true}
use Rattle.std.proofs.lemmas.Bool.Decides.{Decides-int_eq}
use Rattle.std.proofs.lemmas.Int.{ints}
use Rattle.solid_model.specs.declared.segment.Style.{Style}
use Rattle.solid_model.specs.declared.segment.Style.TheVariants.{Blank, Dashed, Solid}
use Rattle.solid_model.specs.Columns.{IsFirstFull, HaveSameFirstFull}
use Rattle.solid_model.specs.Demands.{AgreesWith, CanDraw, CellsBeside, can_be, can_both_be, can_agree, can_differ, can_draw}
use Rattle.column_laws.proofs.SettledColumns.{settled, granted, taken_over, CanBeApart, apart, IsEmptyBeyond, cells_from, AreEmptyBut, columns_can, same_first_at}

-- two depths that are different
apart_depths : (k d : ℤ) → (k ≡ d → ⊥) → int_eq k d ≡ false
apart_depths k d differ = false_from_ne_true (int_eq k d) (λ e. differ ((Decides-int_eq k d).0 e))

one_depth : (k : ℤ) → int_eq k k ≡ true
one_depth k = (Decides-int_eq k k).1 refl

-- columns that are wished, where less is known
abbrev wished : (ℤ → Option Bool) → (ℤ → Bool) → ℤ → Bool
wished known wish k = settled (known k) (wish k)

wished_agrees : (known : ℤ → Option Bool) (wish : ℤ → Bool) → AgreesWith known (wished known wish)
wished_agrees known wish k value e = ap (λ x. settled x (wish k)) e

module _ (known other : ℤ → Option Bool) where
  abbrev cells_at : ℤ → CellsBeside
  cells_at k = record { after = known k; before = other k }

  -- what all cells of some depths can be, each can
  all_at : (p : CellsBeside → Bool) (m n d : ℕ) → m ≤ d → d < m + n → list_all p (cells_from known other m n) ≡ true → p (cells_at (pos d)) ≡ true
  all_at p m zero d from to e = absurd (omega arith)
  all_at p m (suc n) d from to e = elim (cases_lt m d) as (λ _. p (cells_at (pos d)) ≡ true) [
    | inl later ↦ all_at p (m + 1) n d (omega arith) (omega arith) (and_parts _ _ e).1
    | inr here ↦ let same : m ≡ d = omega arith in subst (λ (k : ℕ). p (cells_at (pos k)) ≡ true) same (and_parts _ _ e).0
  ]

  -- and what some can be, those at one depth can
  some_at : (p : CellsBeside → Bool) (m n : ℕ) → list_any p (cells_from known other m n) ≡ true → (d : ℕ) × (m ≤ d) × (p (cells_at (pos d)) ≡ true)
  some_at p m zero e = absurd (false≢true e)
  some_at p m (suc n) e = ⊎_elim {C = (d : ℕ) × (m ≤ d) × (p (cells_at (pos d)) ≡ true)}
      (λ h. (m, omega arith, h)) (λ h. let d = some_at p (m + 1) n h in (d.0, omega (arith, d.1), d.2)) (or_cases _ _ e)

  -- both cells can be empty at each depth from one on, before another
  abbrev CanBeEmptyTo : ℕ → ℕ → Type 0
  CanBeEmptyTo m d = (j : ℕ) → m ≤ j → j < d → can_both_be false (cells_at (pos j)) ≡ true

  empty_before_next : (m d : ℕ) → can_both_be false (cells_at (pos m)) ≡ true → CanBeEmptyTo (m + 1) d → CanBeEmptyTo m d
  empty_before_next m d here next j from to = elim (cases_lt m j) as (λ _. can_both_be false (cells_at (pos j)) ≡ true) [
    | inl later ↦ next j (omega arith) to
    | inr now ↦ let same : m ≡ j = omega arith in subst (λ (k : ℕ). can_both_be false (cells_at (pos k)) ≡ true) same here
  ]

  -- the depth at which the columns can part, solid
  record CanPart (m : ℕ) : Type 0 where
    depth : ℕ
    empty : CanBeEmptyTo m depth
    differ : can_differ (cells_at (pos depth)) ≡ true

  can_part : (m n : ℕ) → can_draw Solid (cells_from known other m n) ≡ true → CanPart m
  can_part m zero e = absurd (false≢true e)
  can_part m (suc n) e = ⊎_elim {C = CanPart m}
      (λ h. record { depth = m; empty = (λ j from to. absurd (omega arith)); differ = h })
      (λ h.
      let parts = and_parts _ _ h in let rest = can_part (m + 1) n parts.1 in
      record { depth = rest.depth; empty = empty_before_next m rest.depth parts.0 rest.empty; differ = rest.differ })
      (or_cases _ _ e)

  -- the depth at which both can be full, and the one behind it at which they can be different
  record CanHide (m : ℕ) : Type 0 where
    depth : ℕ
    empty : CanBeEmptyTo m depth
    full : can_both_be true (cells_at (pos depth)) ≡ true
    behind : ℕ
    later : depth < behind
    differ : can_differ (cells_at (pos behind)) ≡ true

  can_hide : (m n : ℕ) → can_draw Dashed (cells_from known other m n) ≡ true → CanHide m
  can_hide m zero e = absurd (false≢true e)
  can_hide m (suc n) e = ⊎_elim {C = CanHide m}
      (λ h.
      let parts = and_parts _ _ h in let d = some_at can_differ (m + 1) n parts.1 in
      record { depth = m; empty = (λ j from to. absurd (omega arith)); full = parts.0; behind = d.0; later = omega (arith, d.1); differ = d.2 })
      (λ h.
      let parts = and_parts _ _ h in let rest = can_hide (m + 1) n parts.1 in
      record {
        depth = rest.depth;
        empty = empty_before_next m rest.depth parts.0 rest.empty;
        full = rest.full;
        behind = rest.behind;
        later = rest.later;
        differ = rest.differ;
      })
      (or_cases _ _ e)

  module _ (n : ℕ) (beyond : IsEmptyBeyond n known) (beyond_too : IsEmptyBeyond n other) where
    -- ---- nothing is drawn

    agree_everywhere : list_all can_agree (cells_from known other 0 n) ≡ true → (k : ℤ) → can_agree (cells_at k) ≡ true
    agree_everywhere e (negsuc k) = λ t. can_agree (record { after = beyond.nearer k t; before = beyond_too.nearer k t })
    agree_everywhere e (pos k) = elim (cases_lt k n) as (λ _. can_agree (cells_at (pos k)) ≡ true) [
      | inl l ↦ all_at can_agree 0 n k (omega arith) (omega arith) e
      | inr l ↦ λ t. can_agree (record { after = beyond.farther k l t; before = beyond_too.farther k l t })
    ]

    blank_drawn : list_all can_agree (cells_from known other 0 n) ≡ true → CanDraw known other Blank
    blank_drawn e = (
      wished known (λ k. settled (other k) false),
      wished other (λ k. settled (known k) false),
      wished_agrees known _,
      wished_agrees other _,
      λ k. taken_over (known k) (other k) (agree_everywhere e k),
    )

    -- ---- columns that are empty down to a depth

    -- where nothing is wished and nothing is known, it is empty
    empty_wished : (depth : ℕ) → CanBeEmptyTo 0 depth → (wish : ℤ → Bool) → ((k : ℤ) → k <ℤ pos depth → wish k ≡ false)
        → (k : ℤ) → k <ℤ pos depth → (wished known wish k ≡ false) × (wished other wish k ≡ false)
    empty_wished depth empty wish none (negsuc k) l = (ap (λ x. settled x (wish (negsuc k))) (beyond.nearer k), ap (λ x. settled x (wish (negsuc k))) (beyond_too.nearer k))
    empty_wished depth empty wish none (pos k) l =
        let both = and_parts _ _ (empty k (omega arith) (omega (arith, ints))) in
        (granted (known (pos k)) (wish (pos k)) false both.0 (none (pos k) l), granted (other (pos k)) (wish (pos k)) false both.1 (none (pos k) l))

    -- ---- they part at that depth

    abbrev at_depth : ℕ → Bool → ℤ → Bool
    at_depth d value k = int_eq k (pos d) && value

    not_nearer : (d : ℕ) (value : Bool) (k : ℤ) → k <ℤ pos d → at_depth d value k ≡ false
    not_nearer d value k l = ap (λ b. b && value) (apart_depths k (pos d) (λ e. omega (arith, ints)))

    there : (d : ℕ) (value : Bool) → at_depth d value (pos d) ≡ value
    there d value = ap (λ b. b && value) (one_depth (pos d))

    solid_drawn : CanPart 0 → CanDraw known other Solid
    solid_drawn part = (
      wished known (at_depth part.depth way.value),
      wished other (at_depth part.depth way.other),
      wished_agrees known _,
      wished_agrees other _,
      by way.value way.other refl refl,
    )
      where
        way : CanBeApart (known (pos part.depth)) (other (pos part.depth))
        way = apart (known (pos part.depth)) (other (pos part.depth)) part.differ

        after : ℤ → Bool
        after = wished known (at_depth part.depth way.value)

        before : ℤ → Bool
        before = wished other (at_depth part.depth way.other)

        after_is : after (pos part.depth) ≡ way.value
        after_is = granted (known (pos part.depth)) _ way.value way.after_can (there part.depth way.value)

        before_is : before (pos part.depth) ≡ way.other
        before_is = granted (other (pos part.depth)) _ way.other way.before_can (there part.depth way.other)

        after_nearer : (k : ℤ) → k <ℤ pos part.depth → after k ≡ false
        after_nearer k l = (empty_wished part.depth part.empty (at_depth part.depth way.value) (not_nearer part.depth way.value) k l).0

        before_nearer : (k : ℤ) → k <ℤ pos part.depth → before k ≡ false
        before_nearer k l = (empty_wished part.depth part.empty (at_depth part.depth way.other) (not_nearer part.depth way.other) k l).1

        by : (a b : Bool) → way.value ≡ a → way.other ≡ b → HaveSameFirstFull after before → ⊥
        by true true p q same = way.differ (p ∙ sym q)
        by true false p q same = both_ways (before (pos part.depth)) (before_is ∙ q) ((same (pos part.depth)).0 (after_is ∙ p, after_nearer)).0
        by false true p q same = both_ways (after (pos part.depth)) (after_is ∙ p) ((same (pos part.depth)).1 (before_is ∙ q, before_nearer)).0
        by false false p q same = way.differ (p ∙ sym q)

    -- ---- they part behind it

    abbrev at_depths : ℕ → ℕ → Bool → ℤ → Bool
    at_depths d behind value k = int_eq k (pos d) || at_depth behind value k

    none_nearer : (d behind : ℕ) (value : Bool) → d < behind → (k : ℤ) → k <ℤ pos d → at_depths d behind value k ≡ false
    none_nearer d behind value later k l = λ t. apart_depths k (pos d) (λ e. omega (arith, ints)) t || not_nearer behind value k (omega (arith, ints)) t

    at_first : (d behind : ℕ) (value : Bool) → at_depths d behind value (pos d) ≡ true
    at_first d behind value = or_left _ _ (one_depth (pos d))

    at_second : (d behind : ℕ) (value : Bool) → d < behind → at_depths d behind value (pos behind) ≡ value
    at_second d behind value later = λ t. apart_depths (pos behind) (pos d) (λ e. omega (arith, ints)) t || there behind value t

    dashed_drawn : CanHide 0 → CanDraw known other Dashed
    dashed_drawn hide = (
      wished known (at_depths hide.depth hide.behind way.value),
      wished other (at_depths hide.depth hide.behind way.other),
      wished_agrees known _,
      wished_agrees other _,
      ((pos hide.behind, λ e. way.differ (sym after_is ∙ e ∙ before_is)), same_first_at after before (pos hide.depth) first_after first_before),
    )
      where
        way : CanBeApart (known (pos hide.behind)) (other (pos hide.behind))
        way = apart (known (pos hide.behind)) (other (pos hide.behind)) hide.differ

        after : ℤ → Bool
        after = wished known (at_depths hide.depth hide.behind way.value)

        before : ℤ → Bool
        before = wished other (at_depths hide.depth hide.behind way.other)

        after_is : after (pos hide.behind) ≡ way.value
        after_is = granted (known (pos hide.behind)) (at_depths hide.depth hide.behind way.value (pos hide.behind)) way.value way.after_can (at_second hide.depth hide.behind way.value hide.later)

        before_is : before (pos hide.behind) ≡ way.other
        before_is = granted (other (pos hide.behind)) (at_depths hide.depth hide.behind way.other (pos hide.behind)) way.other way.before_can (at_second hide.depth hide.behind way.other hide.later)

        both_full : (can_be true (known (pos hide.depth)) ≡ true) × (can_be true (other (pos hide.depth)) ≡ true)
        both_full = and_parts _ _ hide.full

        first_after : IsFirstFull after (pos hide.depth)
        first_after = (
          granted (known (pos hide.depth)) (at_depths hide.depth hide.behind way.value (pos hide.depth)) true both_full.0 (at_first hide.depth hide.behind way.value),
          λ k l. (empty_wished hide.depth hide.empty (at_depths hide.depth hide.behind way.value) (none_nearer hide.depth hide.behind way.value hide.later) k l).0,
        )

        first_before : IsFirstFull before (pos hide.depth)
        first_before = (
          granted (other (pos hide.depth)) (at_depths hide.depth hide.behind way.other (pos hide.depth)) true both_full.1 (at_first hide.depth hide.behind way.other),
          λ k l. (empty_wished hide.depth hide.empty (at_depths hide.depth hide.behind way.other) (none_nearer hide.depth hide.behind way.other hide.later) k l).1,
        )

    -- ---- the test is exact

    drawn : (style : Style) → can_draw style (cells_from known other 0 n) ≡ true → CanDraw known other style
    drawn Blank e = blank_drawn e
    drawn Dashed e = dashed_drawn (can_hide 0 n e)
    drawn Solid e = solid_drawn (can_part 0 n e)

    -- columns that agree with what is known are empty beyond
    empty_but : (after before : ℤ → Bool) → (a : AgreesWith known after) → (b : AgreesWith other before) → AreEmptyBut known other after before a b 0 n
    empty_but after before a b = record { nearer = nearer; farther = farther }
      where
        nearer : (k : ℤ) → k <ℤ pos 0 → (after k ≡ false) × (before k ≡ false)
        nearer (pos k) l = absurd (omega (arith, ints))
        nearer (negsuc k) l = (a (negsuc k) false (beyond.nearer k), b (negsuc k) false (beyond_too.nearer k))

        farther : (k : ℤ) → pos (0 + n) ≤ℤ k → (after k ≡ false) × (before k ≡ false)
        farther (negsuc k) l = absurd (omega (arith, ints))
        farther (pos k) l = let m : n ≤ k = omega (arith, ints) in (a (pos k) false (beyond.farther k m), b (pos k) false (beyond_too.farther k m))

    pub drawing_computed : (style : Style) → IsTrue (can_draw style (cells_from known other 0 n)) ↔ CanDraw known other style
    drawing_computed style = (
      drawn style,
      λ (after, before, a, b, draws). columns_can known other after before a b n (empty_but after before a b) style draws,
    )
