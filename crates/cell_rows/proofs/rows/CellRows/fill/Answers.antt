-- The rows are those of the cells that the choice fills.
use Rattle.std.specs.Vec.{with_items}
use Rattle.std.proofs.Common.{◌≡◌, ◌≤◌, ◌∙◌, length, ap, sym, subst}
use Rattle.std.proofs.lemmas.List.{length-map}
use Rattle.std.proofs.lemmas.List.{with_items_is}
use Rattle.solid_model.specs.declared.cell.Axis.TheVariants.{X, Y, Z}
use Rattle.solid_model.specs.Choices.{is_chosen}
use Rattle.solid_model.specs.Marks.{BoxMarks}
use Rattle.solid_model.specs.PerAxis.{numbers_of}
use Rattle.cell_rows.specs.Rows.{AreAllRows, AreRows}
use Rattle.cell_rows.specs.Spans.{chosen_marks}
use Rattle.cell_rows.proofs.MarksByRows.{all_marks}
use Rattle.cell_rows.proofs.SpanRows.{count_rows, filled_rows}
use Rattle.cell_rows.proofs.rows.CellRows.fill.Goals as goal

pub fill-requires : goal.fill-requires
fill-requires c = ap length c.as_mut_slice.ensures.value ∙ count_rows c.args.blocks.now X c.args.choice.now _ _ _ c.along.ensures.spans c.self.invariant.along_x
    (ap (λ (m : BoxMarks). m.sizes) c.self.view_is ∙ c.requires)

pub fill-requires-2 : goal.fill-requires-2
fill-requires-2 c = ap length c.as_mut_slice-2.ensures.value ∙ count_rows c.args.blocks.now Y c.args.choice.now _ _ _ c.along-2.ensures.spans c.self.invariant.along_y
    (ap (λ (m : BoxMarks). m.sizes) c.self.view_is ∙ c.requires)

pub fill-requires-3 : goal.fill-requires-3
fill-requires-3 c = ap length c.as_mut_slice-3.ensures.value ∙ count_rows c.args.blocks.now Z c.args.choice.now _ _ _ c.along-3.ensures.spans c.self.invariant.along_z
    (ap (λ (m : BoxMarks). m.sizes) c.self.view_is ∙ c.requires)

module _ (c : goal.After-self-3-1) where
  sizes : c.self.inside.sizes ≡ c.args.blocks.now.sizes
  sizes = ap (λ (m : BoxMarks). m.sizes) c.self.view_is ∙ c.requires

  rows : AreAllRows (chosen_marks c.args.blocks.now c.args.choice.now) (with_items c.self.inside.x c.fill.new.rows).items
      (with_items c.self.inside.y c.fill-2.new.rows).items (with_items c.self.inside.z c.fill-3.new.rows).items
  rows = record {
    few = λ a. subst (λ s. numbers_of s a ≤ 63) sizes (c.self.invariant.few a);
    along_x = subst (AreRows (chosen_marks c.args.blocks.now c.args.choice.now) X)
        (sym (with_items_is c.self.inside.x c.fill.new.rows (c.fill.ensures.count ∙ c.as_mut_slice.ensures.len)))
        (filled_rows c.args.blocks.now X c.args.choice.now _ _ c.along.ensures.spans (c.fill.ensures.count ∙ ap length c.as_mut_slice.ensures.value
        ∙ count_rows c.args.blocks.now X c.args.choice.now _ _ _ c.along.ensures.spans c.self.invariant.along_x sizes)
        c.fill.ensures.filled);
    along_y = subst (AreRows (chosen_marks c.args.blocks.now c.args.choice.now) Y)
        (sym (with_items_is c.self.inside.y c.fill-2.new.rows (c.fill-2.ensures.count ∙ c.as_mut_slice-2.ensures.len)))
        (filled_rows c.args.blocks.now Y c.args.choice.now _ _ c.along-2.ensures.spans (c.fill-2.ensures.count ∙ ap length c.as_mut_slice-2.ensures.value
        ∙ count_rows c.args.blocks.now Y c.args.choice.now _ _ _ c.along-2.ensures.spans c.self.invariant.along_y sizes)
        c.fill-2.ensures.filled);
    along_z = subst (AreRows (chosen_marks c.args.blocks.now c.args.choice.now) Z)
        (sym (with_items_is c.self.inside.z c.fill-3.new.rows (c.fill-3.ensures.count ∙ c.as_mut_slice-3.ensures.len)))
        (filled_rows c.args.blocks.now Z c.args.choice.now _ _ c.along-3.ensures.spans (c.fill-3.ensures.count ∙ ap length c.as_mut_slice-3.ensures.value
        ∙ count_rows c.args.blocks.now Z c.args.choice.now _ _ _ c.along-3.ensures.spans c.self.invariant.along_z sizes)
        c.fill-3.ensures.filled);
  }

pub invariant_of-self : goal.invariant_of-self
invariant_of-self c = (all_marks (chosen_marks c.args.blocks.now c.args.choice.now) c.self.inside.sizes _ _ _ (sizes c)
    (length-map c.args.blocks.now.numbers (is_chosen c.args.choice.now) ∙ c.along.ensures.all) (rows c)).1

pub returns : goal.returns
returns c = (all_marks (chosen_marks c.args.blocks.now c.args.choice.now) c.self.inside.sizes _ _ _ (sizes c)
    (length-map c.args.blocks.now.numbers (is_chosen c.args.choice.now) ∙ c.along.ensures.all) (rows c)).0
