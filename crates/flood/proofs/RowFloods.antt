-- Rows of cells that grow by steps.
use Rattle.std.proofs.Common.{◌≡◌, ◌≢◌, ◌⊎◌, inl, inr, true, false, ◌||◌, ◌&&◌, nat_le, ℕ, zero, suc, ◌+◌, ◌-◌, ◌<◌, ◌≤◌, ◌^◌, List, [], ◌∷◌, length, get_or, set, IsTrue, refl, ap, ap₂, sym, subst, ◌∙◌, arith}
use Rattle.std.proofs.lemmas.Bool.{false≢true, and_parts, and_from, or_left, or_right, or_cases, cases_eq, leb-true, le-leb}
use Rattle.std.proofs.lemmas.List.{length-set, get_or-set_same, get_or-set_other}
use Rattle.lemmas.specs.Bits.{is_set}
use Rattle.lemmas.proofs.Chains.{reaches-itself, reaches-step, reaches-onward}
use Rattle.flood.specs.RowFlood.{RowParts, has_cell, IsOpenNext, Joins, IsReached, leads_across, leads_along, is_pulled, IsClosedRow, AreClosedRows, AreClosedBut, unreached, RowsGrow, Pulls}

module _ (w : RowParts) (rows : List ℕ) where
  one_step : (p q : ℕ × ℕ) → IsTrue (has_cell rows p.0 p.1) → Joins w p q → IsReached w rows q
  one_step p q has step = (p, has, reaches-step (Joins w) p q step)

  -- a step across rows
  across_reached : (ways : List ℕ) (stride r k : ℕ)
      → ((p q : ℕ × ℕ) → q ≡ (p.0 + stride, p.1) → IsTrue (has_cell ways q.0 q.1) → IsOpenNext w p q)
      → leads_across ways stride rows r k ≡ true → IsReached w rows (r, k)
  across_reached ways stride r k next e = by (or_cases _ _ e)
    where
      by : ((nat_le stride r && (has_cell rows (r - stride) k && has_cell ways r k)) ≡ true) ⊎ ((has_cell rows (r + stride) k && has_cell ways (r + stride) k) ≡ true)
          → IsReached w rows (r, k)
      by (inl before) =
          let far = and_parts (nat_le stride r) (has_cell rows (r - stride) k && has_cell ways r k) before in
          let both = and_parts (has_cell rows (r - stride) k) (has_cell ways r k) far.1 in
          let l = leb-true stride r far.0 in
          let back : r ≡ (r - stride) + stride = omega arith in
          one_step (r - stride, k) (r, k) both.0 (inl (next (r - stride, k) (r, k) (ap (λ n. (n, k)) back) both.1))
      by (inr after) =
          let both = and_parts (has_cell rows (r + stride) k) (has_cell ways (r + stride) k) after in
          one_step (r + stride, k) (r, k) both.0 (inr (next (r, k) (r + stride, k) refl both.1))

  along_reached : (r k : ℕ) → leads_along w.along rows r k ≡ true → IsReached w rows (r, k)
  along_reached r zero e = absurd (false≢true e)
  along_reached r (suc k) e =
      let both = and_parts (has_cell rows r k) (has_cell w.along r (suc k)) e in
      one_step (r, k) (r, suc k) both.0 (inl (inl (refl, both.1)))

  -- each cell that is pulled is reached
  pub pulled_reached : (r k : ℕ) → is_pulled w rows r k ≡ true → IsReached w rows (r, k)
  pulled_reached r k e = own (or_cases _ _ e)
    where
      across : (leads_across w.beside 1 rows r k ≡ true) ⊎ (leads_across w.behind w.layer rows r k ≡ true) → IsReached w rows (r, k)
      across (inl e) = across_reached w.beside 1 r k (λ p q next way. inr (inl (next, way))) e
      across (inr e) = across_reached w.behind w.layer r k (λ p q next way. inr (inr (next, way))) e

      back : ((has_cell rows r (suc k) && has_cell w.along r (suc k)) ≡ true)
          ⊎ ((leads_across w.beside 1 rows r k || leads_across w.behind w.layer rows r k) ≡ true) → IsReached w rows (r, k)
      back (inl e) =
          let both = and_parts (has_cell rows r (suc k)) (has_cell w.along r (suc k)) e in
          one_step (r, suc k) (r, k) both.0 (inr (inl (refl, both.1)))
      back (inr e) = across (or_cases _ _ e)

      along : (leads_along w.along rows r k ≡ true)
          ⊎ (((has_cell rows r (suc k) && has_cell w.along r (suc k)) || (leads_across w.beside 1 rows r k || leads_across w.behind w.layer rows r k)) ≡ true)
          → IsReached w rows (r, k)
      along (inl e) = along_reached r k e
      along (inr e) = back (or_cases _ _ e)

      own : (has_cell rows r k ≡ true) ⊎ ((leads_along w.along rows r k
          || ((has_cell rows r (suc k) && has_cell w.along r (suc k)) || (leads_across w.beside 1 rows r k || leads_across w.behind w.layer rows r k))) ≡ true)
          → IsReached w rows (r, k)
      own (inl e) = ((r, k), e, reaches-itself (Joins w) (r, k))
      own (inr e) = along (or_cases _ _ e)

  -- ---- and the other way round

  by_across : (r k : ℕ) → (leads_across w.beside 1 rows r k || leads_across w.behind w.layer rows r k) ≡ true → IsTrue (is_pulled w rows r k)
  by_across r k e = or_right (has_cell rows r k) _ (or_right (leads_along w.along rows r k) _ (or_right (has_cell rows r (suc k) && has_cell w.along r (suc k)) _ e))

  forth : (ways : List ℕ) (stride : ℕ) (p : ℕ × ℕ) → IsTrue (has_cell ways (p.0 + stride) p.1) → IsTrue (has_cell rows p.0 p.1)
      → leads_across ways stride rows (p.0 + stride) p.1 ≡ true
  forth ways stride p way has =
      let before : (p.0 + stride) - stride ≡ p.0 = omega arith in
      or_left _ _ (and_from _ _ (le-leb stride (p.0 + stride) (omega arith)) (and_from _ _ (ap (λ r. has_cell rows r p.1) before ∙ has) way))

  back : (ways : List ℕ) (stride : ℕ) (p : ℕ × ℕ) → IsTrue (has_cell ways (p.0 + stride) p.1) → IsTrue (has_cell rows (p.0 + stride) p.1)
      → leads_across ways stride rows p.0 p.1 ≡ true
  back ways stride p way has = or_right (nat_le stride p.0 && (has_cell rows (p.0 - stride) p.1 && has_cell ways p.0 p.1)) _ (and_from _ _ has way)

  -- where nothing stands between, the later cell is pulled by the earlier one,
  pub next_pulled : (p q : ℕ × ℕ) → IsOpenNext w p q → IsTrue (has_cell rows p.0 p.1) → IsTrue (is_pulled w rows q.0 q.1)
  next_pulled p q (inl (e, way)) has = subst (λ t. IsTrue (is_pulled w rows t.0 t.1)) (sym e)
      (or_right (has_cell rows p.0 (suc p.1)) _ (or_left _ _ (and_from _ _ has (ap (λ t. has_cell w.along t.0 t.1) (sym e) ∙ way))))
  next_pulled p q (inr (inl (e, way))) has = subst (λ t. IsTrue (is_pulled w rows t.0 t.1)) (sym e)
      (by_across (p.0 + 1) p.1 (or_left _ _ (forth w.beside 1 p (ap (λ t. has_cell w.beside t.0 t.1) (sym e) ∙ way) has)))
  next_pulled p q (inr (inr (e, way))) has = subst (λ t. IsTrue (is_pulled w rows t.0 t.1)) (sym e)
      (by_across (p.0 + w.layer) p.1 (or_right _ _ (forth w.behind w.layer p (ap (λ t. has_cell w.behind t.0 t.1) (sym e) ∙ way) has)))

  -- and the earlier one by the later one
  pub back_pulled : (p q : ℕ × ℕ) → IsOpenNext w p q → IsTrue (has_cell rows q.0 q.1) → IsTrue (is_pulled w rows p.0 p.1)
  back_pulled p q (inl (e, way)) has =
      or_right (has_cell rows p.0 p.1) _ (or_right (leads_along w.along rows p.0 p.1) _ (or_left _ _
      (and_from _ _ (ap (λ t. has_cell rows t.0 t.1) (sym e) ∙ has) (ap (λ t. has_cell w.along t.0 t.1) (sym e) ∙ way))))
  back_pulled p q (inr (inl (e, way))) has =
      by_across p.0 p.1 (or_left _ _ (back w.beside 1 p (ap (λ t. has_cell w.beside t.0 t.1) (sym e) ∙ way) (ap (λ t. has_cell rows t.0 t.1) (sym e) ∙ has)))
  back_pulled p q (inr (inr (e, way))) has =
      by_across p.0 p.1 (or_right _ _ (back w.behind w.layer p (ap (λ t. has_cell w.behind t.0 t.1) (sym e) ∙ way) (ap (λ t. has_cell rows t.0 t.1) (sym e) ∙ has)))

-- ---- what is unreached

-- a word that isn't smaller takes none more,
unreached_kept : (rows : List ℕ) (r word : ℕ) → get_or rows r 0 ≤ word → unreached (set rows r word) ≤ unreached rows
unreached_kept [] r word l = omega arith
unreached_kept (n ∷ rows) zero word l = omega arith
unreached_kept (n ∷ rows) (suc r) word l = let rest = unreached_kept rows r word l in omega arith

-- and a greater one leaves less
unreached_less : (rows : List ℕ) (r word : ℕ) → r < length rows → get_or rows r 0 < word → word < 2 ^ 64 → unreached (set rows r word) < unreached rows
unreached_less [] r word within l fits = absurd (omega arith)
unreached_less (n ∷ rows) zero word within l fits = omega arith
unreached_less (n ∷ rows) (suc r) word within l fits = let rest = unreached_less rows r word (omega arith) l fits in omega arith

-- ---- growth

module _ (w : RowParts) where
  pub grows_none : (rows : List ℕ) → RowsGrow w rows rows
  grows_none rows = record {
    size = refl;
    kept = λ r k h. h;
    reached = λ r k h. ((r, k), h, reaches-itself (Joins w) (r, k));
    unreached = omega arith;
  }

  pub grows_then : (a b c : List ℕ) → RowsGrow w a b → RowsGrow w b c → RowsGrow w a c
  grows_then a b c first then = record {
    size = then.size ∙ first.size;
    kept = λ r k h. then.kept r k (first.kept r k h);
    reached = λ r k h.
        let late = then.reached r k h in
        let early = first.reached late.0.0 late.0.1 late.1 in
        (early.0, early.1, reaches-onward (Joins w) early.0 late.0 (r, k) early.2 late.2);
    unreached = let l = first.unreached in let m = then.unreached in omega arith;
  }

  -- a row with the cells to which one step leads
  pub grows_one : (rows : List ℕ) (r word : ℕ) → r < length rows → get_or rows r 0 ≤ word → ((k : ℕ) → is_set word k ≡ is_pulled w rows r k)
      → RowsGrow w rows (set rows r word)
  grows_one rows r word within more cells = record {
    size = length-set rows r word;
    kept = λ s k h. elim (cases_eq s r) as (λ _. IsTrue (has_cell (set rows r word) s k)) [
      | inl e ↦ here s k e ∙ or_left (has_cell rows r k) _ (ap (λ t. has_cell rows t k) (sym e) ∙ h)
      | inr apart ↦ there s k apart ∙ h
    ];
    reached = λ s k h. elim (cases_eq s r) as (λ _. IsReached w rows (s, k)) [
      | inl e ↦ subst (λ t. IsReached w rows (t, k)) (sym e) (pulled_reached w rows r k (sym (here s k e) ∙ h))
      | inr apart ↦ ((s, k), sym (there s k apart) ∙ h, reaches-itself (Joins w) (s, k))
    ];
    unreached = unreached_kept rows r word more;
  }
    where
      here : (s k : ℕ) → s ≡ r → has_cell (set rows r word) s k ≡ is_pulled w rows r k
      here s k e = ap (λ t. has_cell (set rows r word) t k) e ∙ ap (λ n. is_set n k) (get_or-set_same rows r word 0 within) ∙ cells k

      there : (s k : ℕ) → s ≢ r → has_cell (set rows r word) s k ≡ has_cell rows s k
      there s k apart = ap (λ n. is_set n k) (get_or-set_other rows r s word 0 apart)

  -- a row that stays as it is,
  pub pulls_none : (rows : List ℕ) (r word : ℕ) → ((k : ℕ) → is_set word k ≡ is_pulled w rows r k) → word ≡ get_or rows r 0 → Pulls w r rows rows false
  pulls_none rows r word cells same = record {
    grows = grows_none rows;
    others = λ s apart. refl;
    same = λ _. refl;
    closed = λ _ k h. ap (λ n. is_set n k) (sym same) ∙ cells k ∙ h;
    more = λ e. absurd (false≢true e);
  }

  -- and one that gets more cells
  pub pulls_more : (rows : List ℕ) (r word : ℕ) → r < length rows → get_or rows r 0 ≤ word → word ≢ get_or rows r 0 → word < 2 ^ 64
      → ((k : ℕ) → is_set word k ≡ is_pulled w rows r k) → Pulls w r rows (set rows r word) true
  pulls_more rows r word within more other fits cells = record {
    grows = grows_one rows r word within more cells;
    others = λ s apart. get_or-set_other rows r s word 0 apart;
    same = λ e. absurd (false≢true (sym e));
    closed = λ e. absurd (false≢true (sym e));
    more = λ _. unreached_less rows r word within (omega (arith, more, other)) fits;
  }

  -- ---- rows that are closed

  -- where another row than these has grown, no step leads to them from there
  module _ (before after : List ℕ) (row : ℕ) (others : (s : ℕ) → s ≢ row → get_or after s 0 ≡ get_or before s 0) where
    same : (s k : ℕ) → s ≢ row → has_cell after s k ≡ has_cell before s k
    same s k apart = ap (λ n. is_set n k) (others s apart)

    same_before : (s k : ℕ) → s < row → has_cell after s k ≡ has_cell before s k
    same_before s k l = same s k (λ e. omega (arith, l, e))

    across_same : (ways : List ℕ) (stride r k : ℕ) → r < row → r + stride ≢ row → leads_across ways stride after r k ≡ leads_across ways stride before r k
    across_same ways stride r k l apart = ap₂ (λ s t. (nat_le stride r && (s && has_cell ways r k)) || (t && has_cell ways (r + stride) k))
        (same_before (r - stride) k (omega (arith, l))) (same (r + stride) k apart)

    along_same : (r k : ℕ) → r < row → leads_along w.along after r k ≡ leads_along w.along before r k
    along_same r zero l = refl
    along_same r (suc k) l = ap (λ t. t && has_cell w.along r (suc k)) (same_before r k l)

    pulled_same : (r k : ℕ) → r < row → r + 1 ≢ row → r + w.layer ≢ row → is_pulled w after r k ≡ is_pulled w before r k
    pulled_same r k l one layer =
        ap₂ (λ s t. s || t) (same_before r k l)
        (ap₂ (λ s t. s || t) (along_same r k l)
        (ap₂ (λ s t. s || t) (ap (λ t. t && has_cell w.along r (suc k)) (same_before r (suc k) l))
        (ap₂ (λ s t. s || t) (across_same w.beside 1 r k l one) (across_same w.behind w.layer r k l layer))))

    pub closed_still : AreClosedRows w before row → AreClosedBut w after row
    closed_still closed r l one layer k pulled =
        same_before r k l ∙ closed r l k (sym (pulled_same r k l one layer) ∙ pulled)

  -- one row more is closed
  pub closed_one_more : (rows : List ℕ) (n : ℕ) → AreClosedRows w rows n → IsClosedRow w rows n → AreClosedRows w rows (n + 1)
  closed_one_more rows n closed last r l = elim (cases_eq r n) as (λ _. IsClosedRow w rows r) [
    | inl is ↦ subst (IsClosedRow w rows) (sym is) last
    | inr other ↦ closed r (omega (arith, l, other))
  ]
