-- What is listed and kept by the keys of layers.
use Rattle.std.proofs.Common.{◌≡◌, ◌↔◌, ◌⊎◌, ⊎_elim, Bool, true, false, cond, not, List, [], ◌∷◌, ◌++◌, Option, Some, None, Vec, Global, BTreeMap, refl, sym, ap, subst, ◌∙◌}
use Rattle.std.specs.BTreeMap as tree
use Rattle.std.specs.BTreeSet as keyed
use Rattle.std.specs.BTreeSet.{BTreeSet}
use Rattle.std.specs.List.{list_any}
use Rattle.std.specs.Map.{lookup}
use Rattle.std.specs.Option.{unwrap_or}
use Rattle.std.specs.Ordering.{is_eq}
use Rattle.std.proofs.lemmas.List.{append-nil}
use Rattle.dxf_entities.specs.declared.layer.Layer.{Layer}
use Rattle.dxf_entities.specs.declared.layer_line.LayerLine.{LayerLine}
use Rattle.dxf_entities.specs.LayerKeys.{LayerKey, key_order, layer_key}
use Rattle.dxf_entities.specs.Reading.{same_layer}
use Rattle.dxf_entities.proofs.LayerKeys.{keys_are_one, keys_differ, layers_differ}
use Rattle.dxf_entities.proofs.SameLayers.{layers_are_one}
use Rattle.lemmas.specs.Lists.{Member}
use Rattle.solid_model.specs.Line.{Line}
use Rattle.further_views.specs.Further.{further_lines}
use Rattle.further_views.specs.Layers.{kept_lines, lines_by_key}

-- a set has the keys of these layers
abbrev pub Lists : BTreeSet LayerKey → List Layer → Type 0
Lists set layers = (l : Layer) → (keyed.contains key_order set (layer_key l) ≡ true) ↔ Member layers l

-- none
pub lists_none : (set : BTreeSet LayerKey) → keyed.IsEmpty set → Lists set []
lists_none set empty l = (
  (λ e. let no : false ≡ true = sym (ap (λ keys. list_any (λ k. is_eq (key_order (layer_key l) k)) keys) empty) ∙ e in absurd cc),
  (λ m. absurd m),
)

-- one more, which is one of these now
pub lists_more : (old new : BTreeSet LayerKey) (layers all : List Layer) (m : Layer) → Lists old layers
    → keyed.Updates key_order old new (layer_key m) true → ((l : Layer) → Member layers l → Member all l) → Member all m
    → ((l : Layer) → Member all l → Member layers l ⊎ (m ≡ l)) → Lists new all
lists_more old new layers all m lists updates keeps has only l = (there, back)
  where
    had : (b : Bool) → is_eq (key_order (layer_key m) (layer_key l)) ≡ b → cond b true (keyed.contains key_order old (layer_key l)) ≡ true → Member all l
    had true is e = subst (Member all) (keys_are_one m l is) has
    had false is e = keeps l ((lists l).0 e)

    there : keyed.contains key_order new (layer_key l) ≡ true → Member all l
    there e = had (is_eq (key_order (layer_key m) (layer_key l))) refl (sym (updates.0 (layer_key l)) ∙ e)

    still : (b : Bool) → keyed.contains key_order old (layer_key l) ≡ true → cond b true (keyed.contains key_order old (layer_key l)) ≡ true
    still true e = refl
    still false e = e

    back : Member all l → keyed.contains key_order new (layer_key l) ≡ true
    back among = ⊎_elim
        (λ (k : Member layers l). updates.0 (layer_key l) ∙ still (is_eq (key_order (layer_key m) (layer_key l))) ((lists l).1 k))
        (λ (e : m ≡ l). subst (λ n. keyed.contains key_order new (layer_key n) ≡ true) e updates.1)
        (only l among)

pub is_listed : (b : Bool) → false ≡ not b → b ≡ true
is_listed true e = refl
is_listed false e = absurd cc

-- the lines of a layer, with one more
further_more : (ls : List LayerLine) (k : LayerLine) (l : Layer)
    → further_lines (ls ++ k ∷ []) l ≡ further_lines ls l ++ further_lines (k ∷ []) l
further_more [] k l = refl
further_more (j ∷ ls) k l = by (further_more ls k l) (same_layer j.layer l) refl
  where
    by : further_lines (ls ++ k ∷ []) l ≡ further_lines ls l ++ further_lines (k ∷ []) l → (b : Bool) → same_layer j.layer l ≡ b
        → further_lines (j ∷ (ls ++ k ∷ [])) l ≡ further_lines (j ∷ ls) l ++ further_lines (k ∷ []) l
    by rest true is = rw is (ap (λ own. j.line ∷ own) rest)
    by rest false is = rw is rest

abbrev pub OfLayers : Type 0
OfLayers = BTreeMap LayerKey (Vec Line Global)

-- a map keeps the lines of each layer
abbrev pub Keeps : OfLayers → List LayerLine → Type 0
Keeps own ls = (l : Layer) → lines_by_key own l ≡ further_lines ls l

pub keeps_none : (own : OfLayers) → tree.IsEmpty own → Keeps own []
keeps_none own empty l = ap (λ es. kept_lines (lookup (λ k. is_eq (key_order (layer_key l) k)) es)) empty

-- one more is put behind those of its layer
pub keeps_more : (old between new : OfLayers) (ls : List LayerLine) (k : LayerLine) (more : Vec Line Global) → Keeps old ls
    → tree.UpdatesBy key_order (key_order (layer_key k.layer)) old between None
    → tree.Updates key_order between new (layer_key k.layer) (Some more)
    → more.items ≡ lines_by_key old k.layer ++ k.line ∷ [] → Keeps new (ls ++ k ∷ [])
keeps_more old between new ls k more keeps taken put items l = by (same_layer k.layer l) refl
  where
    by : (b : Bool) → same_layer k.layer l ≡ b → lines_by_key new l ≡ further_lines (ls ++ k ∷ []) l
    by true is =
        let one = layers_are_one k.layer l is in
        let own : lines_by_key new k.layer ≡ more.items = ap kept_lines put.1 in
        let all : further_lines (ls ++ k ∷ []) l ≡ further_lines ls l ++ k.line ∷ [] = further_more ls k l ∙ rw is refl in
        ap (lines_by_key new) (sym one) ∙ (own ∙ (items ∙ (ap (λ ms. ms ++ k.line ∷ []) (keeps k.layer ∙ ap (further_lines ls) one) ∙ sym all)))
    by false is =
        let apart = keys_differ l k.layer (λ e. layers_differ k.layer l is (sym e)) in
        let all : further_lines (ls ++ k ∷ []) l ≡ further_lines ls l = further_more ls k l ∙ rw is (append-nil (further_lines ls l)) in
        ap kept_lines (put.2 (layer_key l) apart ∙ taken.2 (layer_key l) apart) ∙ (keeps l ∙ sym all)

-- the lines that a map has at a key, or none
pub first_items : (own : Option (Vec Line Global)) (none : Vec Line Global) → none.items ≡ [] → (unwrap_or own none).items ≡ kept_lines own
first_items None none empty = empty
first_items (Some own) none empty = refl
