-- What rows are flooded with from the cells that lead out at once is what leads out.
use Rattle.std.proofs.Common.{◌≡◌, ◌⊎◌, inl, inr, Bool, true, false, not, ◌||◌, ◌&&◌, ℕ, zero, suc, ◌+◌, ◌%◌, ◌<◌, pos, ◌-ℤ◌, ◌+ℤ◌, List, IsTrue, refl, ap, sym, subst, ◌∙◌, arith}
use Rattle.std.proofs.lemmas.Bool.{and_parts, and_from, or_left, or_right, or_cases, both_ways, false_from_ne_true, not_from_false, not-true}
use Rattle.std.proofs.lemmas.Int.{ints}
use Rattle.solid_model.specs.declared.cell.Axis.{Axis}
use Rattle.solid_model.specs.declared.cell.Axis.TheVariants.{X, Y, Z}
use Rattle.solid_model.specs.declared.cell.Cell.{Cell}
use Rattle.solid_model.specs.Cells.{cell_before, cell_after}
use Rattle.solid_model.specs.Marks.{BoxMarks, AreMarksOf}
use Rattle.solid_model.specs.WalledBoxes.{Sizes, is_within, place_of_number, Walls, Passes, LeadsOut}
use Rattle.solid_model.proofs.BoxCells.{place-below, within-below}
use Rattle.solid_model.proofs.InGrid.{before_after}
use Rattle.lemmas.specs.Chains.{Chain}
use Rattle.lemmas.proofs.Chains.{reaches-keeps}
use Rattle.flood.specs.RowFlood.{RowParts, IsOpenNext, Joins, is_pulled, FloodsRows}
use Rattle.flood.specs.RowWords.{opens_back, opens_out, leads_at_once, AreRowWords, row_of, is_in_rows}
use Rattle.flood.proofs.LeadingOut.{outside-leads_out, step-leads_out}
use Rattle.flood.proofs.RowFloods.{next_pulled, back_pulled}
use Rattle.flood.proofs.RowCells.{row_cell, place_in_rows, row_within, own_row_cell, cell_told, told_cell, before_along, before_beside, before_behind, place_along, place_beside, place_behind}

-- the cell after the one before is the cell itself
after_before : (a : Axis) (c : Cell) → cell_after a (cell_before a c) ≡ c
after_before X c = let p : (c.x -ℤ pos 1) +ℤ pos 1 ≡ c.x = omega (arith, ints) in λ t. record c { x = p t }
after_before Y c = let p : (c.y -ℤ pos 1) +ℤ pos 1 ≡ c.y = omega (arith, ints) in λ t. record c { y = p t }
after_before Z c = let p : (c.z -ℤ pos 1) +ℤ pos 1 ≡ c.z = omega (arith, ints) in λ t. record c { z = p t }

module _ (sizes : Sizes) (stands : Axis → Cell → Bool) where
  -- the walls, as they are told
  abbrev Standing : Walls
  Standing a n = IsTrue (stands a n)

  free : (a : Axis) (n : Cell) → stands a n ≡ false → Standing a n → ⊥
  free a n none wall = both_ways (stands a n) none wall

  -- ---- cells that lead out at once

  out_leads : (a : Axis) (n : Cell) → opens_out sizes stands a n ≡ true → LeadsOut sizes Standing n
  out_leads a n e = by (or_cases _ _ e)
    where
      by : ((not (is_within sizes (cell_before a n)) && not (stands a n)) ≡ true)
          ⊎ ((not (is_within sizes (cell_after a n)) && not (stands a (cell_after a n))) ≡ true) → LeadsOut sizes Standing n
      by (inl back) =
          let both = and_parts (not (is_within sizes (cell_before a n))) (not (stands a n)) back in
          step-leads_out sizes Standing n (cell_before a n) (a, inl (refl, free a n (not-true _ both.1)))
          (outside-leads_out sizes Standing (cell_before a n) (not-true _ both.0))
      by (inr forth) =
          let both = and_parts (not (is_within sizes (cell_after a n))) (not (stands a (cell_after a n))) forth in
          step-leads_out sizes Standing n (cell_after a n) (a, inr (sym (before_after a n), free a (cell_after a n) (not-true _ both.1)))
          (outside-leads_out sizes Standing (cell_after a n) (not-true _ both.0))

  at_once_leads : (n : Cell) → leads_at_once sizes stands n ≡ true → LeadsOut sizes Standing n
  at_once_leads n e = by (or_cases _ _ e)
    where
      across : (opens_out sizes stands Y n ≡ true) ⊎ (opens_out sizes stands Z n ≡ true) → LeadsOut sizes Standing n
      across (inl y) = out_leads Y n y
      across (inr z) = out_leads Z n z

      by : (opens_out sizes stands X n ≡ true) ⊎ ((opens_out sizes stands Y n || opens_out sizes stands Z n) ≡ true) → LeadsOut sizes Standing n
      by (inl x) = out_leads X n x
      by (inr rest) = across (or_cases _ _ rest)

  along_any : (a : Axis) (n : Cell) → opens_out sizes stands a n ≡ true → leads_at_once sizes stands n ≡ true
  along_any X n e = or_left _ _ e
  along_any Y n e = or_right (opens_out sizes stands X n) _ (or_left _ _ e)
  along_any Z n e = or_right (opens_out sizes stands X n) _ (or_right (opens_out sizes stands Y n) _ e)

  -- a step out of the box
  out_at_once : (n m : Cell) → Passes Standing n m → is_within sizes m ≡ false → leads_at_once sizes stands n ≡ true
  out_at_once n m (a, inl (e, no_wall)) out = along_any a n (or_left _ _
      (and_from _ _ (not_from_false _ (ap (is_within sizes) (sym e) ∙ out)) (not_from_false _ (false_from_ne_true (stands a n) no_wall))))
  out_at_once n m (a, inr (e, no_wall)) out =
      let after : m ≡ cell_after a n = sym (after_before a m) ∙ ap (cell_after a) (sym e) in
      along_any a n (or_right (not (is_within sizes (cell_before a n)) && not (stands a n)) _
      (and_from _ _ (not_from_false _ (ap (is_within sizes) (sym after) ∙ out))
      (not_from_false _ (ap (stands a) (sym after) ∙ false_from_ne_true (stands a m) no_wall))))

  module _ (w : RowParts) (layer : w.layer ≡ sizes Y) (along : AreRowWords sizes (opens_back sizes stands X) w.along)
      (beside : AreRowWords sizes (opens_back sizes stands Y) w.beside) (behind : AreRowWords sizes (opens_back sizes stands Z) w.behind) where
    -- ---- what a step of rows says of cells

    -- where a cell is one of the box, a layer has a row
    some_below : (q : ℕ × ℕ) → is_within sizes (row_cell sizes q) ≡ true → 0 < sizes Y
    some_below q within =
        let l : q.0 % sizes Y < sizes Y = place-below (sizes Y) (pos (q.0 % sizes Y)) (within-below sizes (row_cell sizes q) within Y) in omega arith

    -- nothing stands between a cell and the one after it
    abbrev IsNextCell : ℕ × ℕ → ℕ × ℕ → Type 0
    IsNextCell p q = (a : Axis) × (row_cell sizes p ≡ cell_before a (row_cell sizes q)) × (stands a (row_cell sizes q) ≡ false)

    next_cell : (p q : ℕ × ℕ) → IsOpenNext w p q → IsNextCell p q
    next_cell p q (inl (e, way)) =
        let told = told_cell sizes (opens_back sizes stands X) w.along along q way in
        let open_way = and_parts (is_within sizes (cell_before X (row_cell sizes q))) (not (stands X (row_cell sizes q))) told.1 in
        (X, before_along sizes p.0 p.1 ∙ ap (λ t. cell_before X (row_cell sizes t)) (sym e), not-true _ open_way.1)
    next_cell p q (inr (inl (e, way))) =
        let told = told_cell sizes (opens_back sizes stands Y) w.beside beside q way in
        let open_way = and_parts (is_within sizes (cell_before Y (row_cell sizes q))) (not (stands Y (row_cell sizes q))) told.1 in
        let within = ap (λ t. is_within sizes (cell_before Y (row_cell sizes t))) (sym e) ∙ open_way.0 in
        (Y, before_beside sizes p.0 p.1 within (some_below q told.0) ∙ ap (λ t. cell_before Y (row_cell sizes t)) (sym e), not-true _ open_way.1)
    next_cell p q (inr (inr (e, way))) =
        let told = told_cell sizes (opens_back sizes stands Z) w.behind behind q way in
        let open_way = and_parts (is_within sizes (cell_before Z (row_cell sizes q))) (not (stands Z (row_cell sizes q))) told.1 in
        let at : q ≡ (p.0 + sizes Y, p.1) = e ∙ ap (λ n. (p.0 + n, p.1)) layer in
        (Z, before_behind sizes p.0 p.1 (some_below q told.0) ∙ ap (λ t. cell_before Z (row_cell sizes t)) (sym at), not-true _ open_way.1)

    -- a step of rows keeps what leads out
    step_leads : (p q : ℕ × ℕ) → LeadsOut sizes Standing (row_cell sizes p) → Joins w p q → LeadsOut sizes Standing (row_cell sizes q)
    step_leads p q leads (inl next) =
        let n = next_cell p q next in
        step-leads_out sizes Standing (row_cell sizes q) (row_cell sizes p) (n.0, inl (n.1, free n.0 (row_cell sizes q) n.2)) leads
    step_leads p q leads (inr next) =
        let n = next_cell q p next in
        step-leads_out sizes Standing (row_cell sizes q) (row_cell sizes p) (n.0, inr (n.1, free n.0 (row_cell sizes p) n.2)) leads

    -- and a step of cells is one of rows
    next_place : (a : Axis) (n : Cell) → is_within sizes n ≡ true → is_within sizes (cell_before a n) ≡ true → stands a n ≡ false
        → IsOpenNext w (place_in_rows sizes (cell_before a n)) (place_in_rows sizes n)
    next_place X n within before none = inl (
      place_along sizes n before,
      cell_told sizes (opens_back sizes stands X) w.along along n within ∙ and_from _ _ before (not_from_false _ none),
    )
    next_place Y n within before none = inr (inl (
      place_beside sizes n before,
      cell_told sizes (opens_back sizes stands Y) w.beside beside n within ∙ and_from _ _ before (not_from_false _ none),
    ))
    next_place Z n within before none = inr (inr (
      place_behind sizes n before ∙ ap (λ r. (row_of sizes (cell_before Z n) + r, place_of_number n.x)) (sym layer),
      cell_told sizes (opens_back sizes stands Z) w.behind behind n within ∙ and_from _ _ before (not_from_false _ none),
    ))

    module _ (first rows : List ℕ) (leading : AreRowWords sizes (leads_at_once sizes stands) first) (floods : FloodsRows w first rows) where
      -- a cell that the flood reaches leads out
      reached_leads : (n : Cell) → is_within sizes n ≡ true → IsTrue (is_in_rows sizes rows n) → LeadsOut sizes Standing n
      reached_leads n within has =
          let from = floods.grows.reached (row_of sizes n) (place_of_number n.x) has in
          let begins = told_cell sizes (leads_at_once sizes stands) first leading from.0 from.1 in
          subst (LeadsOut sizes Standing) (own_row_cell sizes n within)
          (reaches-keeps (Joins w) (λ p. LeadsOut sizes Standing (row_cell sizes p)) step_leads from.0 (place_in_rows sizes n)
          (at_once_leads (row_cell sizes from.0) begins.1) from.2)

      closed_at : (n : Cell) → is_within sizes n ≡ true → IsTrue (is_pulled w rows (row_of sizes n) (place_of_number n.x)) → IsTrue (is_in_rows sizes rows n)
      closed_at n within pulled = floods.closed (row_of sizes n)
          (subst (λ m. row_of sizes n < m) (sym (floods.grows.size ∙ leading.listed)) (row_within sizes n within)) (place_of_number n.x) pulled

      -- a cell from which a step leads to one that is reached, or out of the box, is reached
      step_reached : (n m : Cell) → Passes Standing n m → (is_within sizes m ≡ true → IsTrue (is_in_rows sizes rows m))
          → is_within sizes n ≡ true → IsTrue (is_in_rows sizes rows n)
      step_reached n m step reached within = by (is_within sizes m) refl step
        where
          by : (t : Bool) → is_within sizes m ≡ t → Passes Standing n m → IsTrue (is_in_rows sizes rows n)
          by false out passes = floods.grows.kept (row_of sizes n) (place_of_number n.x)
              (cell_told sizes (leads_at_once sizes stands) first leading n within ∙ out_at_once n m passes out)
          by true m_in (a, inl (e, no_wall)) =
              let before = ap (is_within sizes) (sym e) ∙ m_in in
              closed_at n within (next_pulled w rows (place_in_rows sizes (cell_before a n)) (place_in_rows sizes n)
              (next_place a n within before (false_from_ne_true (stands a n) no_wall)) (ap (is_in_rows sizes rows) (sym e) ∙ reached m_in))
          by true m_in (a, inr (e, no_wall)) =
              let before = ap (is_within sizes) (sym e) ∙ within in
              closed_at n within (subst (λ c. IsTrue (is_pulled w rows (row_of sizes c) (place_of_number c.x))) (sym e)
              (back_pulled w rows (place_in_rows sizes (cell_before a m)) (place_in_rows sizes m)
              (next_place a m m_in before (false_from_ne_true (stands a m) no_wall)) (reached m_in)))

      -- and so is one from which a chain does
      chain_reached : (k : ℕ) (n m : Cell) → Chain (Passes Standing) k n m → (is_within sizes m ≡ true → IsTrue (is_in_rows sizes rows m))
          → is_within sizes n ≡ true → IsTrue (is_in_rows sizes rows n)
      chain_reached zero n m same reached within = ap (is_in_rows sizes rows) same ∙ reached (ap (is_within sizes) (sym same) ∙ within)
      chain_reached (suc k) n m (c, chain, step) reached within = chain_reached k n c chain (step_reached c m step reached) within

      -- so the cells that it reaches are those that lead out
      reached_iff_leads : (n : Cell) → is_within sizes n ≡ true → (IsTrue (is_in_rows sizes rows n) → LeadsOut sizes Standing n)
          × (LeadsOut sizes Standing n → IsTrue (is_in_rows sizes rows n))
      reached_iff_leads n within = (
        reached_leads n within,
        λ leads. chain_reached leads.1.0 n leads.0 leads.1.1 (λ m_in. absurd (both_ways (is_within sizes leads.0) leads.2 m_in)) within,
      )

      -- and marks on these are marks on those
      pub leading_marked : (marks : BoxMarks) → AreMarksOf sizes (λ n. IsTrue (is_in_rows sizes rows n)) marks → AreMarksOf sizes (LeadsOut sizes Standing) marks
      leading_marked marks are = record {
        sized = are.sized;
        exact = λ n within.
            let is = are.exact n within in let leads = reached_iff_leads n within in
            (λ marked. leads.0 (is.0 marked), λ out. is.1 (leads.1 out));
      }
