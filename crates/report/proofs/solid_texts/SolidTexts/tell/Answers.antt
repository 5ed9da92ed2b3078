-- The faces are those of the cells that the choice fills.
use Rattle.std.proofs.Common.{◌≡◌, ◌++◌, Bool, ℕ, List, length, sym, ap, subst, ◌∙◌}
use Rattle.solid_model.specs.declared.cell.Cell.{Cell}
use Rattle.solid_model.specs.Blocks.{BlockNumbers}
use Rattle.solid_model.specs.Choices.{cells_of_choice}
use Rattle.solid_model.specs.Faces.{FaceParts, AreFacesOf}
use Rattle.solid_model.specs.Grid.{IsUnionOf}
use Rattle.solid_model.specs.Marks.{BoxMarks}
use Rattle.solid_model.specs.Panels.{GridParts, coordinates_of}
use Rattle.solid_model.specs.Volumes.{volume_of}
use Rattle.report.specs.Volumes.{chosen_sum}
use Rattle.report.specs.Texts.{TextsParts, solid_line, solid_text}
use Rattle.report.proofs.solid_texts.SolidTexts.tell.Goals as goal

-- the faces of all solids that are the union of these cells of a grid
abbrev AreTheirs : GridParts → List Bool → List FaceParts → Type 0
AreTheirs g cells faces = (full : Cell → Bool) → IsUnionOf (coordinates_of g) cells full → AreFacesOf full faces

-- they are those of the same cells of the same grid
theirs_too : (g h : GridParts) (cells others : List Bool) (faces : List FaceParts) → g ≡ h → cells ≡ others
    → AreTheirs g cells faces → AreTheirs h others faces
theirs_too g h cells others faces same alike theirs =
    let P : GridParts → Type 0 = λ k. AreTheirs k cells faces in
    let Q : List Bool → Type 0 = λ k. AreTheirs h k faces in
    subst Q alike (subst P same theirs)

pub returns-clause-text : goal.returns-clause-text
returns-clause-text c =
    let lines = c.in_ok-update.ensures in
    let choice = c.args.choice.now in
    let grid = c.grid-grid.ensures.grid ∙ ap (λ (t : TextsParts). t.problem.grid) c.self.view_is in
    let cells = ap (λ (m : BoxMarks). m.values) c.fill.ensures
    ∙ ap (λ (b : BlockNumbers). cells_of_choice b.numbers choice) (c.self.invariant.0 ∙ ap (λ (t : TextsParts). t.problem.blocks) c.self.view_is) in
    let volume = c.chosen_sum-volume.ensures ∙ ap (λ vs. chosen_sum vs choice) c.as_slice.ensures.value ∙ c.self.invariant.1.sums choice
    ∙ ap (λ (t : TextsParts). volume_of (coordinates_of t.problem.grid) (cells_of_choice t.problem.blocks.numbers choice)) c.self.view_is in
    let problem = c.args.self.now.problem in
    let told = volume_of (coordinates_of problem.grid) (cells_of_choice problem.blocks.numbers choice) in
    let count : c.count-faces.result ≡ length lines.faces = c.count-faces.ensures ∙ sym lines.count in
    let line = c.in_ok-push_solid_line.ensures ∙ ap (λ (l : List ℕ). l ++ solid_line c.args.number choice c.chosen_sum-volume.result c.count-faces.result) c.clear.ensures.items
    ∙ (λ t. solid_line c.args.number choice (volume t) (count t)) in (
      lines.faces,
      theirs_too _ _ _ _ lines.faces grid cells lines.are,
      c.in_ok-push.ensures ∙ (λ t. line t ++ lines.text t)
          ∙ ap (λ (t : TextsParts). solid_text t.decimals c.args.number choice told lines.faces) c.self.view_is,
    )
