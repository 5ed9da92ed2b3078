-- The text is that of the solid that the choice fills.
use Rattle.std.proofs.Common.{Bool, List, ℕ, [], ◌∷◌, inr, Err, ap}
use Rattle.recon_run.specs.Searched.{FillSolids}
use Rattle.solid_model.specs.declared.cell.Cell.{Cell}
use Rattle.solid_model.specs.Blocks.{ProblemParts}
use Rattle.solid_model.specs.Choices.{cells_of_choice}
use Rattle.solid_model.specs.Panels.{coordinates_of}
use Rattle.stl_out.specs.SolidStl.{IsSolidStl}
use Rattle.stl_out.specs.StlText.{IsStlOf}
use Rattle.stl_out.proofs.SolidTexts.{text_of_union}
use Rattle.recon_run.proofs.export.write_triangles.Goals as goal

written : (p : ProblemParts) (choice : List Bool) (text : List ℕ) → IsStlOf (coordinates_of p.grid) (cells_of_choice p.blocks.numbers choice) text
    → (s : List Cell) → FillSolids p (choice ∷ []) (s ∷ []) → IsSolidStl s text
written p choice text stl s are =
    text_of_union are.drawing (coordinates_of p.grid) are.grid.coordinates s are.matching.0.0 (cells_of_choice p.blocks.numbers choice) are.filled.1 text stl

pub returns-in-Ok : goal.returns-in-Ok
returns-in-Ok g c s are =
    let (text, stl, appends) = c.in-Ok.ensures.ok in
    (text, written c.args.problem.now c.args.choice.now text stl s are, appends)

pub returns-in-Err-Failed : goal.returns-in-Err-Failed
returns-in-Err-Failed g c s are =
    let (text, stl, prefix) = c.in-Err-Failed.ensures.err in
    (c.in-Err-Failed.ensures.failed (ap Err c.in-Err-Failed.field-0-is), tt, text, written c.args.problem.now c.args.choice.now text stl s are, prefix)

pub returns-in-Err-Memory : goal.returns-in-Err-Memory
returns-in-Err-Memory g c s are =
    let (text, stl, prefix) = c.in-Err-Memory.ensures.err in
    inr (tt, text, written c.args.problem.now c.args.choice.now text stl s are, prefix)
