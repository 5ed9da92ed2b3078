-- The choices that a whole search found and that fit fill all solids that match and fit.
use Rattle.std.proofs.Common.{◌↔◌, Bool, List, ◌<ℤ◌, sym, subst}
use Rattle.solid_model.specs.declared.cell.Axis.{Axis}
use Rattle.solid_model.specs.declared.cell.Cell.{Cell}
use Rattle.solid_model.specs.declared.segment.Segment.{Segment}
use Rattle.solid_model.specs.declared.segment.Style.{Style}
use Rattle.solid_model.specs.Blocks.{ProblemParts}
use Rattle.solid_model.specs.Cells.{is_full}
use Rattle.solid_model.specs.Choices.{AreSolidsOfChoices, cells_of_choice}
use Rattle.solid_model.specs.Drawings.{drawing_of}
use Rattle.solid_model.specs.Grid.{IsUnionOf}
use Rattle.solid_model.specs.Line.{Line}
use Rattle.lemmas.specs.Lists.{Ascends}
use Rattle.lemmas.proofs.Lists.{each-at, each-from}
use Rattle.solid_model.specs.Matching.{AreSolidsOf}
use Rattle.solid_model.specs.Panels.{coordinates_of}
use Rattle.solid_model.proofs.ChosenSolids.{one_union}
use Rattle.dxf_entities.specs.declared.layer.Layer.{Layer}
use Rattle.six_views.specs.Fits.{AreFittingSolids, Fits, ShowsLayer}
use Rattle.further_views.specs.Further.{AreFurtherOf, FurtherRuns, IsAskedOf, view_style}
use Rattle.six_views.specs.Further.{FitsChoice, FitsRuns, ShowsAsked}
use Rattle.page_calls.specs.Those.{AreThose}
use Rattle.six_views.proofs.FittingSolids.{fitting_of_all, filled_those, fits_same}
use Rattle.six_views.proofs.ShownCuts.{shown_alike}

-- a solid fits the runs of further lines exactly where it fits the lines
module _ (further : Layer → List Line) (e : FurtherRuns) (are : AreFurtherOf further e) (s : List Cell) where
  to_lines : FitsRuns e s → Fits further s
  to_lines fits x asked =
      let (v, k, same) = are.complete x asked in
      subst (λ (l : Layer). ShowsLayer l s (drawing_of (further l))) same
      (shown_alike v.layer s (view_style v.runs) (drawing_of (further v.layer)) (λ g of. sym ((each-at (IsAskedOf further) e v are.each k).drawn g of))
      (each-at (ShowsAsked s) e v fits k))

  from_lines : Fits further s → FitsRuns e s
  from_lines fits = each-from (ShowsAsked s) e (λ v k.
      let of = each-at (IsAskedOf further) e v are.each k in
      shown_alike v.layer s (drawing_of (further v.layer)) (view_style v.runs) of.drawn (fits v.layer of.asked))

  pub fits_lines : FitsRuns e s ↔ Fits further s
  fits_lines = (to_lines, from_lines)

module _ (p : ProblemParts) (ascends : (a : Axis) → Ascends ◌<ℤ◌ (coordinates_of p.grid a)) (further : Layer → List Line) (e : FurtherRuns) (are : AreFurtherOf further e) where
  -- a choice fits exactly where the solid that it fills does
  choice_fits : (choice : List Bool) (s : List Cell) → IsUnionOf (coordinates_of p.grid) (cells_of_choice p.blocks.numbers choice) (is_full s)
      → FitsChoice p e choice ↔ Fits further s
  choice_fits choice s union = (
    (λ fits. (fits_lines further e are s).0 (fits s union)),
    (λ fits. λ t union_too. (fits_lines further e are t).1 (fits_same further s t
        (one_union (coordinates_of p.grid) ascends (cells_of_choice p.blocks.numbers choice) (is_full s) (is_full t) union union_too) fits)),
  )

  -- so the choices that are left of all that match fill all that match and fit
  pub sifted_whole : (drawing : Segment → Style) (found kept : List (List Bool)) (all : List (List Cell)) → AreSolidsOf drawing all
      → AreSolidsOfChoices (coordinates_of p.grid) p.blocks.numbers p.blocks.count found all → AreThose (FitsChoice p e) found kept
      → (those : List (List Cell)) × AreFittingSolids drawing further those
      × AreSolidsOfChoices (coordinates_of p.grid) p.blocks.numbers p.blocks.count kept those
  sifted_whole drawing found kept all are_all filled left =
      let (those, of, fill) = filled_those (coordinates_of p.grid) p.blocks.numbers p.blocks.count (Fits further) (FitsChoice p e)
      (λ choice s long union. choice_fits choice s union) found kept all filled left in
      (those, fitting_of_all drawing (Fits further) (fits_same further) all those are_all of, fill)
