-- The texts are those of the problem.
use Rattle.std.proofs.Common.{◌≡◌, Bool, ℕ, List, subst}
use Rattle.solid_model.specs.declared.cell.Cell.{Cell}
use Rattle.solid_model.specs.Blocks.{ProblemParts}
use Rattle.solid_model.specs.Choices.{cells_of_choice}
use Rattle.solid_model.specs.Faces.{FaceParts, AreFacesOf}
use Rattle.solid_model.specs.Grid.{IsUnionOf}
use Rattle.solid_model.specs.Panels.{coordinates_of}
use Rattle.solid_model.specs.Volumes.{volume_of}
use Rattle.report.specs.Texts.{solid_text}
use Rattle.report.proofs.solid_texts.solid_text.Goals as goal

-- a text is that of a solid of a problem
abbrev IsText : ℕ → List Bool → List ℕ → ℕ → ProblemParts → Type 0
IsText number choice text decimals p = (faces : List FaceParts)
    × ((full : Cell → Bool) → IsUnionOf (coordinates_of p.grid) (cells_of_choice p.blocks.numbers choice) full → AreFacesOf full faces)
    × (text ≡ solid_text decimals number choice (volume_of (coordinates_of p.grid) (cells_of_choice p.blocks.numbers choice)) faces)

pub returns : goal.returns
returns c =
    let is = IsText c.args.number c.args.choice.now c.tell.new.buffers.text.items in
    subst (is c.args.decimals) c.in_ok-texts.ensures.0
    (subst (λ (d : ℕ). is d c.in_ok-texts.texts.problem) c.in_ok-texts.ensures.1 c.in_ok-tell.ensures.text)
