-- Layers with one key are one.
use Rattle.std.proofs.Common.{◌≡◌, ℕ, ◌==◌, ℤ, Bool, true, false, Option, Some, None, if◌then◌else◌, refl, sym, ap, ◌∙◌}
use Rattle.std.specs.Option.{option_cmp}
use Rattle.std.specs.declared.cmp.Ordering.{Ordering}
use Rattle.std.specs.declared.cmp.Ordering.TheVariants.{Less, Equal, Greater}
use Rattle.std.specs.Ordering.{bool_cmp, int_cmp, is_eq, nat_cmp}
use Rattle.std.proofs.lemmas.Map.Lookups.{CmpEqualImpliesEq, exact_pairs, exact_signed, exact_unsigned}
use Rattle.solid_model.specs.declared.frame.View.{View}
use Rattle.solid_model.specs.declared.frame.View.TheVariants.{Front, Top, Side}
use Rattle.dxf_entities.specs.declared.layer.Cut.{Cut}
use Rattle.dxf_entities.specs.declared.layer.Layer.{Layer}
use Rattle.dxf_entities.specs.LayerKeys.{cut_key, cut_order, key_order, layer_key, six_number}
use Rattle.dxf_entities.specs.Reading.{same_layer}
use Rattle.dxf_entities.proofs.SameLayers.{same_as_itself}

-- a key tells its layer
abbrev six_at : ℕ → View × Bool
six_at n = if n == 0 then (Front, false) else (if n == 1 then (Top, false) else (if n == 2 then (Side, false)
    else (if n == 3 then (Front, true) else (if n == 4 then (Top, true) else (Side, true)))))

six_back : (v : View) (opposite : Bool) → six_at (six_number v opposite) ≡ (v, opposite)
six_back Front false = refl
six_back Top false = refl
six_back Side false = refl
six_back Front true = refl
six_back Top true = refl
six_back Side true = refl

abbrev cut_of : Option (ℤ × Bool) → Option Cut
cut_of None = None
cut_of (Some k) = Some (record { at = k.0; area = k.1 })

cut_back : (c : Option Cut) → cut_of (cut_key c) ≡ c
cut_back None = refl
cut_back (Some c) = refl

-- what the order doesn't tell apart is one
exact_truths : CmpEqualImpliesEq bool_cmp
exact_truths false false e = refl
exact_truths false true e = absurd cc
exact_truths true false e = absurd cc
exact_truths true true e = refl

exact_options : {A : Type 0} (R : A → A → Ordering) → CmpEqualImpliesEq R → CmpEqualImpliesEq (option_cmp R)
exact_options R exact None None e = refl
exact_options R exact None (Some y) e = absurd cc
exact_options R exact (Some x) None e = absurd cc
exact_options R exact (Some x) (Some y) e = ap Some (exact x y e)

exact_keys : CmpEqualImpliesEq key_order
exact_keys = exact_pairs nat_cmp (option_cmp cut_order) exact_unsigned
    (exact_options cut_order (exact_pairs int_cmp bool_cmp exact_signed exact_truths))

equal_is : (o : Ordering) → is_eq o ≡ true → o ≡ Equal
equal_is Less e = absurd cc
equal_is Equal e = refl
equal_is Greater e = absurd cc

pub keys_are_one : (l m : Layer) → is_eq (key_order (layer_key l) (layer_key m)) ≡ true → l ≡ m
keys_are_one l m e =
    let same = exact_keys (layer_key l) (layer_key m) (equal_is _ e) in
    let six : (l.view, l.opposite) ≡ (m.view, m.opposite) =
    sym (six_back l.view l.opposite) ∙ (ap (λ k. six_at k.0) same ∙ six_back m.view m.opposite) in
    let cut = sym (cut_back l.cut) ∙ (ap (λ k. cut_of k.1) same ∙ cut_back m.cut) in
    λ i. record { view = (six i).0; opposite = (six i).1; cut = cut i }

-- so keys of two layers are two
pub layers_differ : (l m : Layer) → same_layer l m ≡ false → l ≡ m → ⊥
layers_differ l m other one = let same : true ≡ false = sym (same_as_itself l) ∙ (ap (same_layer l) one ∙ other) in absurd cc

pub keys_differ : (l m : Layer) → (l ≡ m → ⊥) → is_eq (key_order (layer_key m) (layer_key l)) ≡ false
keys_differ l m other = by (is_eq (key_order (layer_key m) (layer_key l))) refl
  where
    by : (b : Bool) → is_eq (key_order (layer_key m) (layer_key l)) ≡ b → is_eq (key_order (layer_key m) (layer_key l)) ≡ false
    by false e = e
    by true e = absurd (other (sym (keys_are_one m l e)))
