-- The layers of lines, and those of them that are asked for.
use Rattle.std.proofs.Common.{◌≡◌, Bool, true, false, List, [], ◌∷◌, ◌++◌, refl, sym, subst}
use Rattle.dxf_entities.specs.declared.layer.Layer.{Layer}
use Rattle.dxf_entities.specs.declared.layer_line.LayerLine.{LayerLine}
use Rattle.dxf_entities.specs.Reading.{same_layer}
use Rattle.dxf_entities.proofs.SameLayers.{layers_are_one}
use Rattle.lemmas.specs.Lists.{Ascends, Each, Member}
use Rattle.lemmas.proofs.Lists.{ascends-append_across, ascends-push, each-at, each-from, each-push, each-weaker, member-append_left, member-push_last}
use Rattle.solid_model.specs.Drawings.{IsEmptyView}
use Rattle.solid_model.specs.Line.{Line}
use Rattle.further_views.specs.Layers.{AreLayersOf, Differ}
use Rattle.further_views.specs.Further.{AreFurtherOf, AskedRuns, further_lines, IsAsked, IsAskedOf}

-- the layers of lines are, with one more: of a layer that isn't among them yet, or is
pub new_layer : (ls : List LayerLine) (layers : List Layer) (k : LayerLine) → AreLayersOf ls layers → (Member layers k.layer → ⊥) → AreLayersOf (ls ++ k ∷ []) (layers ++ k.layer ∷ [])
new_layer ls layers k are none = record {
  all = each-push (λ j. Member (layers ++ k.layer ∷ []) j.layer) ls k
      (each-weaker (λ j. Member layers j.layer) (λ j. Member (layers ++ k.layer ∷ []) j.layer) ls (λ j m. member-append_left layers (k.layer ∷ []) j.layer m) are.all)
      (member-push_last layers k.layer);
  once = ascends-push Differ layers k.layer are.once (each-from (λ m. m ≡ k.layer → ⊥) layers (λ m among e. none (subst (Member layers) e among)));
}

pub old_layer : (ls : List LayerLine) (layers : List Layer) (k : LayerLine) → AreLayersOf ls layers → Member layers k.layer → AreLayersOf (ls ++ k ∷ []) layers
old_layer ls layers k are among = record { all = each-push (λ j. Member layers j.layer) ls k are.all among; once = are.once }

-- of these layers these are the ones that are asked for
pub record AreAskedOf (further : Layer → List Line) (layers : List Layer) (views : List AskedRuns) : Type 0 where
  pub each : Each (IsAskedOf further) views
  pub once : Ascends (λ v w. v.layer ≡ w.layer → ⊥) views
  pub among : Each (λ v. Member layers v.layer) views
  pub complete : Each (λ l. IsAsked further l → (v : AskedRuns) × Member views v × (v.layer ≡ l)) layers

-- of none these are none
pub none_asked : (further : Layer → List Line) → AreAskedOf further [] []
none_asked further = record { each = tt; once = tt; among = tt; complete = tt }

module _ (further : Layer → List Line) (layers : List Layer) (views : List AskedRuns) (are : AreAskedOf further layers views) (l : Layer) where
  -- one more, for which nothing asks
  pub one_unasked : IsEmptyView (further l) l.view → AreAskedOf further (layers ++ l ∷ []) views
  one_unasked empty = record {
    each = are.each;
    once = are.once;
    among = each-weaker (λ v. Member layers v.layer) (λ v. Member (layers ++ l ∷ []) v.layer) views (λ v k. member-append_left layers (l ∷ []) v.layer k) are.among;
    complete = each-push (λ m. IsAsked further m → (v : AskedRuns) × Member views v × (v.layer ≡ m)) layers l are.complete (λ asked. absurd (asked empty));
  }

  -- or that is asked for
  pub one_asked : Ascends Differ (layers ++ l ∷ []) → (v : AskedRuns) → v.layer ≡ l → IsAskedOf further v → AreAskedOf further (layers ++ l ∷ []) (views ++ v ∷ [])
  one_asked once v same of = record {
    each = each-push (IsAskedOf further) views v are.each of;
    once = ascends-push (λ w u. w.layer ≡ u.layer → ⊥) views v are.once (each-from (λ w. w.layer ≡ v.layer → ⊥) views (λ w k e. other w k (subst (λ m. w.layer ≡ m) same e)));
    among = each-push (λ w. Member (layers ++ l ∷ []) w.layer) views v
        (each-weaker (λ w. Member layers w.layer) (λ w. Member (layers ++ l ∷ []) w.layer) views (λ w k. member-append_left layers (l ∷ []) w.layer k) are.among)
        (subst (Member (layers ++ l ∷ [])) (sym same) (member-push_last layers l));
    complete = each-push (λ m. IsAsked further m → (w : AskedRuns) × Member (views ++ v ∷ []) w × (w.layer ≡ m)) layers l
        (each-weaker (λ m. IsAsked further m → (w : AskedRuns) × Member views w × (w.layer ≡ m)) (λ m. IsAsked further m → (w : AskedRuns) × Member (views ++ v ∷ []) w × (w.layer ≡ m)) layers
        (λ m has asked. let h = has asked in (h.0, member-append_left views (v ∷ []) h.0 h.1, h.2)) are.complete)
        (λ asked. (v, member-push_last views v, same));
  }
    where
      -- no earlier one is this one
      other : (w : AskedRuns) → Member views w → w.layer ≡ l → ⊥
      other w k = (each-at (λ m. Each (Differ m) (l ∷ [])) layers w.layer (ascends-append_across Differ layers (l ∷ []) once) (each-at (λ u. Member layers u.layer) views w are.among k)).0

-- a layer whose lines cover something is one of lines
module _ (layers : List Layer) (l : Layer) where
  pub asked_listed : (ls : List LayerLine) → Each (λ k. Member layers k.layer) ls → (IsEmptyView (further_lines ls l) l.view → ⊥) → Member layers l
  asked_listed [] listed asked = absurd (asked (λ g of shown. absurd cc))
  asked_listed (k ∷ ls) (here, listed) asked = by (asked_listed ls listed) (same_layer k.layer l) refl
    where
      passed : same_layer k.layer l ≡ false → further_lines (k ∷ ls) l ≡ further_lines ls l
      passed e = rw (e) refl

      by : ((IsEmptyView (further_lines ls l) l.view → ⊥) → Member layers l) → (t : Bool) → same_layer k.layer l ≡ t → Member layers l
      by rest true e = subst (Member layers) (layers_are_one k.layer l e) here
      by rest false e = rest (λ empty. asked (subst (λ (own : List Line). IsEmptyView own l.view) (sym (passed e)) empty))

-- so those of all layers of lines are those of the lines
pub all_asked : (ls : List LayerLine) (layers : List Layer) → AreLayersOf ls layers → (views : List AskedRuns) → AreAskedOf (further_lines ls) layers views
    → AreFurtherOf (further_lines ls) views
all_asked ls layers of views are = record {
  each = are.each;
  once = are.once;
  complete = λ l asked. each-at (λ m. IsAsked (further_lines ls) m → (v : AskedRuns) × Member views v × (v.layer ≡ m)) layers l are.complete
      (asked_listed layers l ls of.all asked) asked;
}
