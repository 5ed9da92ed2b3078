-- Two layers are the same exactly where they show the same.
use Rattle.std.proofs.Common.{◌≡◌, Bool, true, false, Option, Some, None, refl, int_eq}
use Rattle.std.proofs.lemmas.Bool.{and_parts}
use Rattle.std.proofs.lemmas.Bool.Decides.{Decides-int_eq}
use Rattle.solid_model.specs.Drawings.{same_view}
use Rattle.solid_model.proofs.Sheets.{same_view-itself, same_view-true}
use Rattle.dxf_entities.specs.declared.layer.Cut.{Cut}
use Rattle.dxf_entities.specs.declared.layer.Layer.{Layer}
use Rattle.dxf_entities.specs.Reading.{same_cut, same_layer, same_truth}

truths_are_one : (a b : Bool) → same_truth a b ≡ true → a ≡ b
truths_are_one true true e = refl
truths_are_one false false e = refl
truths_are_one true false e = absurd cc
truths_are_one false true e = absurd cc

cuts_are_one : (c d : Option Cut) → same_cut c d ≡ true → c ≡ d
cuts_are_one None None e = refl
cuts_are_one None (Some d) e = absurd cc
cuts_are_one (Some c) None e = absurd cc
cuts_are_one (Some c) (Some d) e =
    let both = and_parts (int_eq c.at d.at) (same_truth c.area d.area) e in
    let at = (Decides-int_eq c.at d.at).0 both.0 in
    let area = truths_are_one c.area d.area both.1 in
    λ i. Some (record { at = at i; area = area i })

pub layers_are_one : (l m : Layer) → same_layer l m ≡ true → l ≡ m
layers_are_one l m e =
    let parts = and_parts (same_view l.view m.view) _ e in
    let sides = and_parts (same_truth l.opposite m.opposite) (same_cut l.cut m.cut) parts.1 in
    let view = same_view-true l.view m.view parts.0 in
    let opposite = truths_are_one l.opposite m.opposite sides.0 in
    let cut = cuts_are_one l.cut m.cut sides.1 in
    λ i. record { view = view i; opposite = opposite i; cut = cut i }

same_truth_as : (b : Bool) → same_truth b b ≡ true
same_truth_as true = refl
same_truth_as false = refl

same_cut_as : (c : Option Cut) → same_cut c c ≡ true
same_cut_as None = refl
same_cut_as (Some c) = rw ((Decides-int_eq c.at c.at).1 refl) (same_truth_as c.area)

pub same_as_itself : (l : Layer) → same_layer l l ≡ true
same_as_itself l = rw (same_view-itself l.view, same_truth_as l.opposite) (same_cut_as l.cut)
