-- Two columns that are decided, and empty beyond a box, draw some style.
use Rattle.std.proofs.Common.{◌≡◌, ◌⊎◌, inl, inr, Bool, true, false, ◌&&◌, ◌||◌, ℕ, zero, suc, ◌+◌, List, ◌∷◌, ℤ, pos, Option, Some, refl, subst}
use Rattle.std.specs.List.{list_any, list_all}
use Rattle.std.proofs.lemmas.Bool.{or_left}
use Rattle.solid_model.specs.declared.segment.Style.{Style}
use Rattle.solid_model.specs.declared.segment.Style.TheVariants.{Blank, Dashed, Solid}
use Rattle.solid_model.specs.Columns.{ColumnsDraw}
use Rattle.solid_model.specs.Demands.{CanDraw, CellsBeside, can_agree, can_differ, can_draw}
use Rattle.column_laws.proofs.SettledColumns.{IsEmptyBeyond, cells_from}
use Rattle.column_laws.proofs.SightLines.{drawing_computed}

-- two cells that are decided
abbrev decided : Bool → Bool → CellsBeside
decided x y = record { after = Some x; before = Some y }

module _ (a b : ℤ → Bool) where
  abbrev known : ℤ → Option Bool
  known k = Some (a k)

  abbrev other : ℤ → Option Bool
  other k = Some (b k)

  -- from one depth on the two are equal, or differ somewhere
  agree_or_differ : (m n : ℕ) → (list_all can_agree (cells_from known other m n) ≡ true) ⊎ (list_any can_differ (cells_from known other m n) ≡ true)
  agree_or_differ m zero = inl refl
  agree_or_differ m (suc n) = by (a (pos m)) (b (pos m)) (agree_or_differ (m + 1) n)
    where
      rest : List CellsBeside
      rest = cells_from known other (m + 1) n

      by : (x y : Bool) → (list_all can_agree rest ≡ true) ⊎ (list_any can_differ rest ≡ true)
          → ((can_agree (decided x y) && list_all can_agree rest) ≡ true) ⊎ ((can_differ (decided x y) || list_any can_differ rest) ≡ true)
      by true true (inl e) = inl e
      by true true (inr e) = inr e
      by true false r = inr refl
      by false true r = inr refl
      by false false (inl e) = inl e
      by false false (inr e) = inr e

  some_can : (m n : ℕ) → (style : Style) × (can_draw style (cells_from known other m n) ≡ true)
  some_can m zero = (Blank, refl)
  some_can m (suc n) = by (a (pos m)) (b (pos m)) (some_can (m + 1) n) (agree_or_differ (m + 1) n)
    where
      rest : List CellsBeside
      rest = cells_from known other (m + 1) n

      by : (x y : Bool) → (style : Style) × (can_draw style rest ≡ true) → (list_all can_agree rest ≡ true) ⊎ (list_any can_differ rest ≡ true)
          → (style : Style) × (can_draw style (decided x y ∷ rest) ≡ true)
      by true true r (inl e) = (Blank, e)
      by true true r (inr e) = (Dashed, or_left _ _ e)
      by true false r s = (Solid, refl)
      by false true r s = (Solid, refl)
      by false false (Blank, e) s = (Blank, e)
      by false false (Dashed, e) s = (Dashed, e)
      by false false (Solid, e) s = (Solid, e)

  -- columns of which all is known draw what can be drawn
  pub decided_draw : (style : Style) → CanDraw known other style → ColumnsDraw a b style
  decided_draw style (after, before, agrees, agrees_too, draws) =
      subst (λ (c : ℤ → Bool). ColumnsDraw a c style) (λ t k. agrees_too k (b k) refl t)
      (subst (λ (c : ℤ → Bool). ColumnsDraw c before style) (λ t k. agrees k (a k) refl t) draws)

  pub some_style : (n : ℕ) → IsEmptyBeyond n known → IsEmptyBeyond n other → (style : Style) × ColumnsDraw a b style
  some_style n beyond beyond_too =
      let can = some_can 0 n in
      (can.0, decided_draw can.0 ((drawing_computed known other n beyond beyond_too can.0).0 can.1))
