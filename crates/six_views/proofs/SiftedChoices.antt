-- Choices that are left where those are kept whose solids fit further views and sections, told by their lines.
use Rattle.std.proofs.Common.{◌≡◌, ◌↔◌, ⊎_elim, inl, inr, Bool, List, [], ◌∷◌, ◌<ℤ◌, refl, sym, subst}
use Rattle.solid_model.specs.declared.cell.Axis.{Axis}
use Rattle.solid_model.specs.declared.cell.Cell.{Cell}
use Rattle.solid_model.specs.declared.segment.Segment.{Segment}
use Rattle.solid_model.specs.declared.segment.Style.{Style}
use Rattle.solid_model.specs.Blocks.{ProblemParts}
use Rattle.solid_model.specs.Cells.{is_full, SameCells}
use Rattle.solid_model.specs.Choices.{AreSolidsOfChoices, cells_of_choice}
use Rattle.solid_model.specs.Drawings.{IsEmptyView}
use Rattle.solid_model.specs.Grid.{IsUnionOf}
use Rattle.solid_model.specs.Line.{Line}
use Rattle.solid_model.specs.Matching.{Matches, AreSolidsOf, AreSomeSolidsOf}
use Rattle.solid_model.specs.Orders.{IsInStatedForm, SolidPrecedes}
use Rattle.solid_model.specs.Panels.{coordinates_of}
use Rattle.solid_model.proofs.ChosenSolids.{one_union}
use Rattle.lemmas.specs.Lists.{Ascends}
use Rattle.lemmas.proofs.Lists.{each-at, each-from, each-weaker}
use Rattle.page_calls.specs.Those.{AreThose}
use Rattle.page_calls.proofs.Those.{all_those, from_those, those_alike, those_ascend}
use Rattle.dxf_entities.specs.declared.layer.Layer.{Layer}
use Rattle.further_views.specs.Further.{AreFurtherOf, AsksForNone, FurtherRuns, HasRuns, view_style}
use Rattle.six_views.specs.Fits.{AreFittingSolids, AreSomeFittingSolids, Fits}
use Rattle.six_views.specs.Further.{FitsChoice, FitsLines, FitsRuns, ShowsAsked}
use Rattle.six_views.proofs.Decided.{as_decided}
use Rattle.six_views.proofs.FitsDecided.{fits_decided}
use Rattle.six_views.proofs.FittingSolids.{filled_those, fits_same, fitting_of_all}
use Rattle.six_views.proofs.ShownCuts.{layer_same}
use Rattle.six_views.proofs.Sifted.{fits_lines}

-- those that fit, of some that match, are some that match and fit
fitting_of_some : (drawing : Segment → Style) (further : Layer → List Line) (some those : List (List Cell)) → AreSomeSolidsOf drawing some
    → AreThose (Fits further) some those → AreSomeFittingSolids drawing further those
fitting_of_some drawing further some those are of = record {
  each = each-from (λ s. (Matches drawing s × Fits further s) × IsInStatedForm s) those (λ s k.
      let m = from_those (Fits further) some those of s k in
      let h = each-at (λ s. Matches drawing s × IsInStatedForm s) some s are.matching m.0 in ((h.0, m.1), h.1));
  ordered = those_ascend (Fits further) SolidPrecedes some those of are.ordered;
}

module _ (p : ProblemParts) (ascends : (a : Axis) → Ascends ◌<ℤ◌ (coordinates_of p.grid a)) where
  abbrev Fill : List (List Bool) → List (List Cell) → Type 0
  Fill = AreSolidsOfChoices (coordinates_of p.grid) p.blocks.numbers p.blocks.count

  one_solid : (choice : List Bool) (s t : List Cell) → IsUnionOf (coordinates_of p.grid) (cells_of_choice p.blocks.numbers choice) (is_full s)
      → IsUnionOf (coordinates_of p.grid) (cells_of_choice p.blocks.numbers choice) (is_full t) → SameCells s t
  one_solid choice s t = one_union (coordinates_of p.grid) ascends (cells_of_choice p.blocks.numbers choice) (is_full s) (is_full t)

  -- ---- by lines

  module _ (further : Layer → List Line) where
    abbrev Left : List Bool → Type 0
    Left = FitsLines p further

    lines_told : (choice : List Bool) (s : List Cell) → IsUnionOf (coordinates_of p.grid) (cells_of_choice p.blocks.numbers choice) (is_full s)
        → Left choice ↔ Fits further s
    lines_told choice s union = ((λ fits. fits s union), (λ fits. λ t union_too. fits_same further s t (one_solid choice s t union union_too) fits))

    -- what the runs of the lines ask for is the same
    pub by_lines : (e : FurtherRuns) → AreFurtherOf further e → (found kept : List (List Bool)) → AreThose (FitsChoice p e) found kept → AreThose Left found kept
    by_lines e are = those_alike (FitsChoice p e) Left (λ choice. (
      (λ fits. λ s union. (fits_lines further e are s).0 (fits s union)),
      (λ fits. λ s union. (fits_lines further e are s).1 (fits s union)),
    ))

    -- the choices that are left of all that match fill all that match and fit,
    pub all_left : (drawing : Segment → Style) (found kept : List (List Bool)) (all : List (List Cell)) → AreSolidsOf drawing all
        → Fill found all → AreThose Left found kept → (those : List (List Cell)) × AreFittingSolids drawing further those × Fill kept those
    all_left drawing found kept all are_all filled left =
        let (those, of, fill) = filled_those (coordinates_of p.grid) p.blocks.numbers p.blocks.count (Fits further) Left
        (λ choice s long union. lines_told choice s union) found kept all filled left in
        (those, fitting_of_all drawing (Fits further) (fits_same further) all those are_all of, fill)

    -- and those that are left of some fill some
    pub some_left : (drawing : Segment → Style) (found kept : List (List Bool)) (some : List (List Cell)) → AreSomeSolidsOf drawing some
        → Fill found some → AreThose Left found kept → (those : List (List Cell)) × AreSomeFittingSolids drawing further those × Fill kept those
    some_left drawing found kept some are_some filled left =
        let (those, of, fill) = filled_those (coordinates_of p.grid) p.blocks.numbers p.blocks.count (Fits further) Left
        (λ choice s long union. lines_told choice s union) found kept some filled left in
        (those, fitting_of_some drawing further some those are_some of, fill)

    -- where no view is asked for all are left
    pub none_out : ((x : Layer) → IsEmptyView (further x) x.view) → (found kept : List (List Bool)) → AreThose Left found kept → kept ≡ found
    none_out none found kept = all_those Left found kept (each-from Left found (λ choice k. λ s union. λ x asked. absurd (asked (none x))))

  -- ---- by runs

  module _ (e : FurtherRuns) where
    runs_same : (s t : List Cell) → SameCells s t → FitsRuns e s → FitsRuns e t
    runs_same s t same = each-weaker (ShowsAsked s) (ShowsAsked t) e (λ v shows. layer_same v.layer s t same (view_style v.runs) shows)

    -- of choices that fill solids it is decided which fit
    pub sifted : HasRuns e → (choices : List (List Bool)) (solids : List (List Cell)) → Fill choices solids
        → (kept : List (List Bool)) × AreThose (FitsChoice p e) choices kept
    sifted runs [] [] filled = ([], refl)
    sifted runs [] (s ∷ solids) filled = absurd filled
    sifted runs (c ∷ choices) [] filled = absurd filled
    sifted runs (c ∷ choices) (s ∷ solids) (long, union, filled) =
        let (kept, are) = sifted runs choices solids filled in
        ⊎_elim {C = (kept : List (List Bool)) × AreThose (FitsChoice p e) (c ∷ choices) kept}
        (λ fits. (c ∷ kept, inr (fits, (kept, refl, are)))) (λ none. (kept, inl (none, are)))
        (as_decided (FitsRuns e s) (FitsChoice p e c) (λ fits. λ t union_too. runs_same s t (one_solid c s t union union_too) fits) (λ all. all s union)
        (fits_decided (coordinates_of p.grid) ascends (cells_of_choice p.blocks.numbers c) s union e runs))

-- where nothing is asked for each choice fits
pub unasked_fit : (p : ProblemParts) (e : FurtherRuns) → AsksForNone e → (choice : List Bool) → FitsChoice p e choice
unasked_fit p e none choice s union = subst (λ (others : FurtherRuns). FitsRuns others s) (sym none) tt
