-- A cell has a mark exactly where it had none.
use Rattle.std.proofs.Common.{◌≡◌, not, length, map, IsTrue, ap, sym, subst, ◌∙◌}
use Rattle.std.proofs.lemmas.List.{length-map}
use Rattle.solid_model.specs.Marks.{AreMarksOf, is_marked}
use Rattle.solid_model.specs.PerAxis.{numbers_of}
use Rattle.solid_model.specs.WalledBoxes.{box_count}
use Rattle.virtual_faces.proofs.EnclosedFaces.{others_marked}
use Rattle.virtual_faces.proofs.faces.others.Goals as goal

pub new-requires : goal.new-requires
new-requires c = record {
  few = c.sizes.ensures.few;
  listed = ap length c.in_ok-values.ensures ∙ length-map c.values.result.now not ∙ c.values.ensures.all
      ∙ ap (λ sizes. box_count (numbers_of sizes)) (sym c.sizes.ensures.sizes);
}

pub returns : goal.returns
returns c =
    let marks = c.args.marks.now in
    let told : c.new.result ≡ record { sizes = marks.sizes; values = map not marks.values } =
    c.new.ensures ∙ (λ t. record { sizes = c.sizes.ensures.sizes t; values = (c.in_ok-values.ensures ∙ ap (map not) c.values.ensures.values) t }) in
    subst (AreMarksOf (numbers_of marks.sizes) (λ n. IsTrue (not (is_marked marks n)))) (sym told)
    (others_marked marks (ap length (sym c.values.ensures.values) ∙ c.values.ensures.all))
