-- The linetypes that entries give layers.
use Rattle.std.proofs.Common.{◌≡◌, Bool, true, false, Option, Some, None, if◌then◌else◌, refl, sym, ap, ◌∙◌}
use Rattle.std.specs.BTreeMap.{BTreeMap, Updates, get}
use Rattle.std.specs.Option.{is_some, option_or, unwrap_or}
use Rattle.dxf_entities.specs.declared.layer.Layer.{Layer}
use Rattle.dxf_entities.specs.declared.linetype.Linetype.{Linetype}
use Rattle.dxf_entities.specs.declared.linetype.Linetype.TheVariants.{Continuous}
use Rattle.dxf_entities.specs.declared.named.Named.{Named}
use Rattle.dxf_entities.specs.declared.named.Named.TheVariants.{Unread, Shows, Misnamed}
use Rattle.dxf_entities.specs.LayerKeys.{LayerKey, key_order, layer_key}
use Rattle.dxf_entities.specs.Reading.{layers_with, same_layer}
use Rattle.dxf_entities.proofs.LayerKeys.{keys_differ, layers_differ}
use Rattle.dxf_entities.proofs.OwnFacts.{or_nothing}
use Rattle.dxf_entities.proofs.SameLayers.{layers_are_one}

pub nothing_known : {A : Type 0} (known : Option A) → is_some known ≡ false → known ≡ None
nothing_known None e = refl
nothing_known (Some x) e = absurd cc

-- one more entry counts where the layer has none
pub linetype_added : (old new : BTreeMap LayerKey Linetype) (m : Layer) (t : Linetype)
    → Updates key_order old new (layer_key m) (Some t) → get key_order old (layer_key m) ≡ None
    → (l : Layer) → get key_order new (layer_key l)
    ≡ option_or (get key_order old (layer_key l)) (if same_layer l m then Some t else None)
linetype_added old new m t updates none l = by (same_layer l m) refl
  where
    by : (b : Bool) → same_layer l m ≡ b → get key_order new (layer_key l)
        ≡ option_or (get key_order old (layer_key l)) (if b then Some t else None)
    by true is =
        let one = ap layer_key (layers_are_one l m is) in
        ap (get key_order new) one
        ∙ (updates.1 ∙ sym (ap (λ known. option_or known (Some t)) (ap (get key_order old) one ∙ none)))
    by false is = updates.2 (layer_key l) (keys_differ l m (layers_differ l m is)) ∙ sym (or_nothing (get key_order old (layer_key l)))

module _ (layers : Layer → Option Linetype) (t : Option Linetype) (l : Layer) where
  -- where the layer has a linetype, it keeps that
  pub linetype_stays : (m : Layer) (known : Option Linetype) → layers m ≡ known → is_some known ≡ true
      → layers l ≡ layers_with (Some (Shows m)) t layers l
  linetype_stays m None has some = absurd cc
  linetype_stays m (Some own) has some = by (same_layer l m) refl
    where
      by : (b : Bool) → same_layer l m ≡ b
          → layers l ≡ option_or (layers l) (if b then Some (unwrap_or t Continuous) else None)
      by false is = sym (or_nothing (layers l))
      by true is =
          let own_is = ap layers (layers_are_one l m is) ∙ has in
          own_is ∙ sym (ap (λ known. option_or known (Some (unwrap_or t Continuous))) own_is)

  -- a name that is no layer's gives none
  pub no_layer_named : (name : Option Named) → ((m : Layer) → name ≡ Some (Shows m) → ⊥)
      → layers l ≡ layers_with name t layers l
  no_layer_named None other = sym (or_nothing (layers l))
  no_layer_named (Some Unread) other = sym (or_nothing (layers l))
  no_layer_named (Some Misnamed) other = sym (or_nothing (layers l))
  no_layer_named (Some (Shows m)) other = absurd (other m refl)
