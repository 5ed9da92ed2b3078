-- The rows are as many as those of the others, and become the same.
use Rattle.std.proofs.Common.{◌≡◌, length, List, ℕ, ap, sym, subst, ◌∙◌}
use Rattle.std.proofs.lemmas.List.{with_items_is}
use Rattle.solid_model.specs.declared.cell.Axis.TheVariants.{X, Y, Z}
use Rattle.solid_model.specs.Marks.{BoxMarks}
use Rattle.cell_rows.specs.Rows.{AreAllRows}
use Rattle.cell_rows.proofs.BoundaryPlanes.{same_count, alike_lists, same_rows, same_beside}
use Rattle.cell_rows.proofs.rows.CellRows.follow.Goals as goal

-- rows are those of the marks that they tell
rows_of : (m n : BoxMarks) (x y z : List ℕ) → m ≡ n → AreAllRows m x y z → AreAllRows n x y z
rows_of m n x y z is are = subst (λ (b : BoxMarks). AreAllRows b x y z) is are

pub planes_between-requires : goal.planes_between-requires
planes_between-requires c = ap length c.as_slice.ensures.value
    ∙ same_count c.args.self.now c.args.cells.now c.requires X _ _ (rows_of _ _ _ _ _ c.self.view_is c.self.invariant).along_x (rows_of _ _ _ _ _ c.cells.view_is c.cells.invariant).along_x
    ∙ sym (ap length c.as_slice-2.ensures.value)

pub planes_between-requires-2 : goal.planes_between-requires-2
planes_between-requires-2 c = ap length c.as_slice-3.ensures.value
    ∙ same_count c.args.self.now c.args.cells.now c.requires Y _ _ (rows_of _ _ _ _ _ c.self.view_is c.self.invariant).along_y (rows_of _ _ _ _ _ c.cells.view_is c.cells.invariant).along_y
    ∙ sym (ap length c.as_slice-4.ensures.value)

pub planes_between-requires-3 : goal.planes_between-requires-3
planes_between-requires-3 c = ap length c.as_slice-5.ensures.value
    ∙ same_count c.args.self.now c.args.cells.now c.requires Z _ _ (rows_of _ _ _ _ _ c.self.view_is c.self.invariant).along_z (rows_of _ _ _ _ _ c.cells.view_is c.cells.invariant).along_z
    ∙ sym (ap length c.as_slice-6.ensures.value)

pub copy_from_slice-requires : goal.copy_from_slice-requires
copy_from_slice-requires c = ap length c.as_mut_slice.ensures.value
    ∙ same_count c.args.self.now c.args.cells.now c.requires X _ _ (rows_of _ _ _ _ _ c.self.view_is c.self.invariant).along_x (rows_of _ _ _ _ _ c.cells.view_is c.cells.invariant).along_x
    ∙ sym (ap length c.as_slice-7.ensures.value)

pub copy_from_slice-requires-2 : goal.copy_from_slice-requires-2
copy_from_slice-requires-2 c = ap length c.as_mut_slice-2.ensures.value
    ∙ same_count c.args.self.now c.args.cells.now c.requires Y _ _ (rows_of _ _ _ _ _ c.self.view_is c.self.invariant).along_y (rows_of _ _ _ _ _ c.cells.view_is c.cells.invariant).along_y
    ∙ sym (ap length c.as_slice-8.ensures.value)

pub copy_from_slice-requires-3 : goal.copy_from_slice-requires-3
copy_from_slice-requires-3 c = ap length c.as_mut_slice-3.ensures.value
    ∙ same_count c.args.self.now c.args.cells.now c.requires Z _ _ (rows_of _ _ _ _ _ c.self.view_is c.self.invariant).along_z (rows_of _ _ _ _ _ c.cells.view_is c.cells.invariant).along_z
    ∙ sym (ap length c.as_slice-9.ensures.value)

pub invariant_of-self : goal.invariant_of-self
invariant_of-self c = same_rows c.cells.inside.sizes _ _ _ c.cells.inside.x.items c.cells.inside.y.items c.cells.inside.z.items
    (sym (with_items_is c.self.inside.x c.copy_from_slice.new.self (c.copy_from_slice.ensures.len ∙ c.as_mut_slice.ensures.len)
    ∙ c.copy_from_slice.ensures.after ∙ c.as_slice-7.ensures.value))
    (sym (with_items_is c.self.inside.y c.copy_from_slice-2.new.self (c.copy_from_slice-2.ensures.len ∙ c.as_mut_slice-2.ensures.len)
    ∙ c.copy_from_slice-2.ensures.after ∙ c.as_slice-8.ensures.value))
    (sym (with_items_is c.self.inside.z c.copy_from_slice-3.new.self (c.copy_from_slice-3.ensures.len ∙ c.as_mut_slice-3.ensures.len)
    ∙ c.copy_from_slice-3.ensures.after ∙ c.as_slice-9.ensures.value))
    c.cells.invariant

pub returns-clause-beside : goal.returns-clause-beside
returns-clause-beside c = same_beside c.args.self.now c.args.cells.now c.requires c.self.inside.x.items c.self.inside.y.items c.self.inside.z.items
    c.cells.inside.x.items c.cells.inside.y.items c.cells.inside.z.items
    (rows_of _ _ _ _ _ c.self.view_is c.self.invariant) (rows_of _ _ _ _ _ c.cells.view_is c.cells.invariant)
    (record { x = c.planes_between.result; y = c.planes_between-2.result; z = c.planes_between-3.result })
    (alike_lists c.planes_between.result _ _ _ _ c.as_slice.ensures.value c.as_slice-2.ensures.value c.planes_between.ensures)
    (alike_lists c.planes_between-2.result _ _ _ _ c.as_slice-3.ensures.value c.as_slice-4.ensures.value c.planes_between-2.ensures)
    (alike_lists c.planes_between-3.result _ _ _ _ c.as_slice-5.ensures.value c.as_slice-6.ensures.value c.planes_between-3.ensures)
