-- Solids that choices of a problem's blocks fill, and what is told of them.
use Rattle.std.proofs.Common.{◌≡◌, ℕ, zero, suc, ◌+◌, List, [], ◌∷◌, ◌++◌, Bool, length, take, Option, Some, refl, sym, ap, subst, ◌∙◌, append_assoc, arith}
use Rattle.std.proofs.lemmas.List.{append-nil}
use Rattle.std.specs.List.{slice_get}
use Rattle.recon_run.specs.Answers.{TellsSolid, TellsSolids, first_volume}
use Rattle.recon_run.specs.Searched.{FillSolids}
use Rattle.report.specs.Texts.{solid_text}
use Rattle.solid_model.specs.declared.cell.Cell.{Cell}
use Rattle.solid_model.specs.Blocks.{ProblemParts}
use Rattle.solid_model.specs.Cells.{is_full}
use Rattle.solid_model.specs.Choices.{AreSolidsOfChoices, cells_of_choice}
use Rattle.solid_model.specs.Faces.{FaceParts, AreFacesOf}
use Rattle.solid_model.specs.Grid.{Coordinates, IsUnionOf}
use Rattle.lemmas.specs.Lists.{Each}
use Rattle.solid_model.specs.Panels.{coordinates_of}
use Rattle.solid_model.specs.Volumes.{volume_of}
use Rattle.solid_model.proofs.SolidsOfChoices.{as_many}
use Rattle.solid_model.proofs.Volumes.{volume_counts}

-- ---- one of them

-- the choice at a place fills the solid there
fills_at : (coordinates : Coordinates) (numbers : List (Option ℕ)) (count : ℕ) (P : List Cell → Type 0) (choices : List (List Bool)) (solids : List (List Cell))
    → AreSolidsOfChoices coordinates numbers count choices solids → Each P solids → (k : ℕ) (choice : List Bool) → slice_get choices k ≡ Some choice
    → (s : List Cell) × (slice_get solids k ≡ Some s) × AreSolidsOfChoices coordinates numbers count (choice ∷ []) (s ∷ []) × P s
fills_at coordinates numbers count P [] [] filled each k choice at = cc
fills_at coordinates numbers count P [] (s ∷ solids) filled each k choice at = absurd filled
fills_at coordinates numbers count P (c ∷ choices) [] filled each k choice at = absurd filled
fills_at coordinates numbers count P (c ∷ choices) (s ∷ solids) filled each zero choice at =
    (s, refl, subst (λ d. AreSolidsOfChoices coordinates numbers count (d ∷ []) (s ∷ [])) (let e : c ≡ choice = cc in e) (filled.0, filled.1, tt), each.0)
fills_at coordinates numbers count P (c ∷ choices) (s ∷ solids) filled each (suc k) choice at =
    fills_at coordinates numbers count P choices solids filled.2 each.1 k choice at

module _ (p : ProblemParts) where
  pub filled_at : (choices : List (List Bool)) (solids : List (List Cell)) → FillSolids p choices solids → (k : ℕ) (choice : List Bool)
      → slice_get choices k ≡ Some choice → (s : List Cell) × (slice_get solids k ≡ Some s) × FillSolids p (choice ∷ []) (s ∷ [])
  filled_at choices solids are k choice at =
      let (s, there, filled, matching) = fills_at (coordinates_of p.grid) p.blocks.numbers p.blocks.count _ choices solids are.filled are.matching k choice at in
      (s, there, record { drawing = are.drawing; grid = are.grid; filled = filled; matching = (matching, tt) })

  -- there are as many
  pub filled_count : (choices : List (List Bool)) (solids : List (List Cell)) → FillSolids p choices solids → length choices ≡ length solids
  filled_count choices solids are = as_many (coordinates_of p.grid) p.blocks.numbers p.blocks.count choices solids are.filled

  -- its volume is a number of unit cells
  filled_volume : (choice : List Bool) (s : List Cell) → FillSolids p (choice ∷ []) (s ∷ [])
      → length s ≡ volume_of (coordinates_of p.grid) (cells_of_choice p.blocks.numbers choice)
  filled_volume choice s are = volume_counts (coordinates_of p.grid) (λ a. (are.grid.coordinates a).ordered) (cells_of_choice p.blocks.numbers choice) s
      are.filled.1 are.matching.0.1

  -- that of the first choice is the first volume,
  pub first_counts : (choices : List (List Bool)) (solids : List (List Cell)) → FillSolids p choices solids → (choice : List Bool) → slice_get choices 0 ≡ Some choice
      → volume_of (coordinates_of p.grid) (cells_of_choice p.blocks.numbers choice) ≡ first_volume solids
  first_counts [] solids are choice at = cc
  first_counts (c ∷ choices) [] are choice at = absurd are.filled
  first_counts (c ∷ choices) (s ∷ solids) are choice at =
      subst (λ d. volume_of (coordinates_of p.grid) (cells_of_choice p.blocks.numbers d) ≡ length s) (let e : c ≡ choice = cc in e)
      (sym (filled_volume c s (record { drawing = are.drawing; grid = are.grid; filled = (are.filled.0, are.filled.1, tt); matching = (are.matching.0, tt) })))

  -- whatever solids they fill
  pub some_first : (choices : List (List Bool)) → (volume : ℕ) × ((solids : List (List Cell)) → FillSolids p choices solids → volume ≡ first_volume solids)
  some_first [] = (0, none)
    where
      none : (solids : List (List Cell)) → FillSolids p [] solids → 0 ≡ first_volume solids
      none [] are = refl
      none (s ∷ solids) are = absurd are.filled
  some_first (choice ∷ choices) = (
    volume_of (coordinates_of p.grid) (cells_of_choice p.blocks.numbers choice),
    λ solids are. first_counts (choice ∷ choices) solids are choice refl,
  )

  -- ---- what is told of it

  -- faces of whatever the choice fills, and its volume, are told of the solid
  pub tells_solid : (decimals number : ℕ) (choice : List Bool) (s : List Cell) → FillSolids p (choice ∷ []) (s ∷ []) → (faces : List FaceParts)
      → ((full : Cell → Bool) → IsUnionOf (coordinates_of p.grid) (cells_of_choice p.blocks.numbers choice) full → AreFacesOf full faces) → (text : List ℕ)
      → text ≡ solid_text decimals number choice (volume_of (coordinates_of p.grid) (cells_of_choice p.blocks.numbers choice)) faces
      → TellsSolid decimals number choice s text
  tells_solid decimals number choice s are faces of text told =
      (faces, of (is_full s) are.filled.1, told ∙ ap (λ volume. solid_text decimals number choice volume faces) (sym (filled_volume choice s are)))

-- the texts of the first solids, and then that of the next one, are those of one more
pub tells_more : (decimals number : ℕ) (choices : List (List Bool)) (solids : List (List Cell)) (place : ℕ) (choice : List Bool) (s : List Cell) (text more : List ℕ)
    → slice_get choices place ≡ Some choice → slice_get solids place ≡ Some s → TellsSolids decimals number (take place choices) (take place solids) text
    → TellsSolid decimals (number + place) choice s more → TellsSolids decimals number (take (suc place) choices) (take (suc place) solids) (text ++ more)
tells_more decimals number [] solids place choice s text more at there tells told = cc
tells_more decimals number (c ∷ choices) [] place choice s text more at there tells told = cc
tells_more decimals number (c ∷ choices) (u ∷ solids) zero choice s text more at there tells told = (
  more,
  (let same : choice ≡ c = cc in let one : s ≡ u = cc in
      subst (λ d. TellsSolid decimals number d u more) same (subst (λ v. TellsSolid decimals number choice v more) one
      (subst (λ n. TellsSolid decimals n choice s more) (let e : number + 0 ≡ number = omega arith in e) told))),
  [],
  refl,
  ap (λ bytes. bytes ++ more) tells ∙ sym (append-nil more),
)
tells_more decimals number (c ∷ choices) (u ∷ solids) (suc place) choice s text more at there (first, is, rest, tells, e) told = (
  first,
  is,
  rest ++ more,
  tells_more decimals (number + 1) choices solids place choice s rest more at there tells
      (subst (λ n. TellsSolid decimals n choice s more) (let same : number + suc place ≡ number + 1 + place = omega arith in same) told),
  ap (λ bytes. bytes ++ more) e ∙ append_assoc first rest more,
)

-- where there are no choices, no text tells their solids
pub none_told : (p : ProblemParts) (decimals : ℕ) (choices : List (List Bool)) (solids : List (List Cell)) → choices ≡ [] → FillSolids p choices solids
    → TellsSolids decimals 1 choices solids []
none_told p decimals [] [] none are = refl
none_told p decimals [] (s ∷ solids) none are = absurd are.filled
none_told p decimals (choice ∷ choices) solids none are = cc
