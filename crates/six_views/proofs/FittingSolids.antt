-- Those of all solids that have a property more are all that have both; and the choices that fill them.
use Rattle.std.proofs.Common.{◌≡◌, ◌↔◌, inl, inr, Bool, ℕ, List, [], ◌∷◌, length, Option, refl, sym, subst}
use Rattle.solid_model.specs.declared.cell.Cell.{Cell}
use Rattle.solid_model.specs.declared.segment.Segment.{Segment}
use Rattle.solid_model.specs.declared.segment.Style.{Style}
use Rattle.solid_model.specs.Cells.{is_full, SameCells}
use Rattle.solid_model.specs.Choices.{AreSolidsOfChoices, cells_of_choice}
use Rattle.solid_model.specs.Grid.{Coordinates, IsUnionOf}
use Rattle.solid_model.specs.Matching.{Matches, AreSolidsOf}
use Rattle.solid_model.specs.Orders.{IsInStatedForm, SolidPrecedes}
use Rattle.solid_model.specs.Drawings.{drawing_of, IsEmptyView}
use Rattle.solid_model.specs.Line.{Line}
use Rattle.lemmas.specs.Lists.{Member}
use Rattle.lemmas.proofs.Lists.{IsWithin, each-at, each-from, each-weaker, same_ascending}
use Rattle.solid_model.proofs.CellOrder.{one_list}
use Rattle.solid_model.proofs.SolidOrder.{precedes_one_way}
use Rattle.dxf_entities.specs.declared.layer.Layer.{Layer}
use Rattle.six_views.specs.Fits.{AreSolidsThat, AreFittingSolids, Fits}
use Rattle.page_calls.specs.Those.{AreThose}
use Rattle.page_calls.proofs.Those.{from_those, to_those, those_ascend}
use Rattle.six_views.proofs.ShownCuts.{layer_same}

-- those that fit, of all that match, are all that match and fit; whether a solid fits doesn't rest on its list's order
pub fitting_of_all : (drawing : Segment → Style) (F : List Cell → Type 0) → ((s t : List Cell) → SameCells s t → F s → F t)
    → (all those : List (List Cell)) → AreSolidsOf drawing all → AreThose F all those → AreSolidsThat (λ s. Matches drawing s × F s) those
fitting_of_all drawing F same all those are of = record {
  each = each-from (λ s. (Matches drawing s × F s) × IsInStatedForm s) those (λ s k.
      let m = from_those F all those of s k in
      let h = each-at (λ s. Matches drawing s × IsInStatedForm s) all s are.matching m.0 in ((h.0, m.1), h.1));
  ordered = those_ascend F SolidPrecedes all those of are.ordered;
  complete = λ s has. let (t, k, one) = are.complete s has.0 in (t, to_those F all those of t k (same s t one has.1), one);
}

-- where a choice fits exactly when the solid that it fills does, those of the choices fill those of the solids
module _ (coordinates : Coordinates) (items : List (Option ℕ)) (n : ℕ) (F : List Cell → Type 0) (Q : List Bool → Type 0)
    (told : (choice : List Bool) (s : List Cell) → length choice ≡ n → IsUnionOf coordinates (cells_of_choice items choice) (is_full s) → Q choice ↔ F s) where
  pub filled_those : (choices kept : List (List Bool)) (solids : List (List Cell)) → AreSolidsOfChoices coordinates items n choices solids
      → AreThose Q choices kept → (those : List (List Cell)) × AreThose F solids those × AreSolidsOfChoices coordinates items n kept those
  filled_those [] kept [] filled are = ([], refl, subst (λ cs. AreSolidsOfChoices coordinates items n cs []) (sym are) tt)
  filled_those [] kept (s ∷ solids) filled are = absurd filled
  filled_those (c ∷ choices) kept [] filled are = absurd filled
  filled_those (c ∷ choices) kept (s ∷ solids) (long, union, filled) (inl (none, are)) =
      let (those, of, fill) = filled_those choices kept solids filled are in
      (those, inl ((λ fits. none ((told c s long union).1 fits)), of), fill)
  filled_those (c ∷ choices) kept (s ∷ solids) (long, union, filled) (inr (holds, (rest, is, are))) =
      let (those, of, fill) = filled_those choices rest solids filled are in (
        s ∷ those,
        inr ((told c s long union).0 holds, (those, refl, of)),
        subst (λ cs. AreSolidsOfChoices coordinates items n cs (s ∷ those)) (sym is) (long, union, fill),
      )

-- where no view is asked for, all that match and fit are all that match
pub none_asked : (drawing : Segment → Style) (further : Layer → List Line) → ((x : Layer) → IsEmptyView (further x) x.view)
    → (solids : List (List Cell)) → AreFittingSolids drawing further solids ↔ AreSolidsOf drawing solids
none_asked drawing further none solids = (
  (λ are. record {
    matching = each-weaker (λ s. (Matches drawing s × Fits further s) × IsInStatedForm s) (λ s. Matches drawing s × IsInStatedForm s) solids
        (λ s h. (h.0.0, h.1)) are.each;
    ordered = are.ordered;
    complete = λ s m. are.complete s (m, λ x asked. absurd (asked (none x)));
  }),
  (λ are. record {
    each = each-weaker (λ s. Matches drawing s × IsInStatedForm s) (λ s. (Matches drawing s × Fits further s) × IsInStatedForm s) solids
        (λ s h. ((h.0, λ x asked. absurd (asked (none x))), h.1)) are.matching;
    ordered = are.ordered;
    complete = λ s h. are.complete s h.0;
  }),
)

-- whether a solid fits doesn't rest on its list's order and repeats
pub fits_same : (further : Layer → List Line) (s t : List Cell) → SameCells s t → Fits further s → Fits further t
fits_same further s t same fits x asked = layer_same x s t same (drawing_of (further x)) (fits x asked)

-- ---- one list

within : (P : List Cell → Type 0) (ss ts : List (List Cell)) → AreSolidsThat P ss → AreSolidsThat P ts → IsWithin ss ts
within P ss ts h k s among =
    let of_s = each-at (λ r. P r × IsInStatedForm r) ss s h.each among in
    let (t, in_ts, same) = k.complete s of_s.0 in
    let of_t = each-at (λ r. P r × IsInStatedForm r) ts t k.each in_ts in
    subst (Member ts) (sym (one_list s t of_s.1 of_t.1 same)) in_ts

-- there is one list of all solids that have a property
pub one_list_that : (P : List Cell → Type 0) (ss ts : List (List Cell)) → AreSolidsThat P ss → AreSolidsThat P ts → ss ≡ ts
one_list_that P ss ts h k =
    same_ascending SolidPrecedes (λ s t. precedes_one_way (is_full s) (is_full t)) ss ts h.ordered k.ordered (within P ss ts h k) (within P ts ss k h)
