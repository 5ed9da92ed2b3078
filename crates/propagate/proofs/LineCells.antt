-- The least that a line forces is the least that the cells of its two columns force.
use Rattle.std.proofs.Common.{◌≡◌, ◌⊎◌, inl, inr, Bool, true, false, not, ◌<◌, ℕ, pos, Option, None, ap, sym, ◌∙◌}
use Rattle.std.proofs.lemmas.Bool.{cases_Bool, cases_lt}
use Rattle.std.proofs.lemmas.Option.{none-some}
use Rattle.line_demands.specs.declared.seen.SeenLine.{SeenLine}
use Rattle.line_demands.proofs.LineCells.{none_behind, cells_to, cells_from}
use Rattle.line_demands.proofs.SeenCells.{cell_known}
use Rattle.line_demands.specs.Doubted.{IsDoubted}
use Rattle.line_demands.specs.Seen.{IsSeen, known_beside}
use Rattle.propagate.specs.Beside.{ExcludesAmong}
use Rattle.line_demands.specs.Excluding.{ExcludesBeside}
use Rattle.line_demands.specs.Excluding.{ExcludesOpen}
use Rattle.propagate.specs.Looking.{TellsLeast, lesser_decision}
use Rattle.propagate.proofs.Least.{told_alike, told_lesser}
use Rattle.solid_model.specs.declared.decision.Decision.{Decision}
use Rattle.lemmas.specs.Bits.{is_set}
use Rattle.solid_model.specs.Blocks.{ProblemParts, IsBlocksOf}
use Rattle.solid_model.specs.Demands.{known_in}
use Rattle.solid_model.specs.Frames.{frame_of}
use Rattle.solid_model.specs.GridBox.{grid_sizes}

module _ (p : ProblemParts) (blocks : IsBlocksOf p.grid p.blocks) (known : ℕ → Option Bool) (s : SeenLine) (seen : IsSeen p known s) where
  -- the least of the two columns is the line's
  pub line_told : (one other : Option Decision) → TellsLeast (ExcludesBeside p s true) one → TellsLeast (ExcludesBeside p s false) other → TellsLeast (ExcludesOpen p known s.line) (lesser_decision one other)
  line_told one other told too = told_alike (λ b v. ExcludesBeside p s true b v ⊎ ExcludesBeside p s false b v) (ExcludesOpen p known s.line) (lesser_decision one other)
      (λ b v h. elim h as (λ _. ExcludesOpen p known s.line b v) [ inl e ↦ cells_to p blocks known s seen true b v e | inr e ↦ cells_to p blocks known s seen false b v e ]) (cells_from p blocks known s seen)
      (told_lesser (ExcludesBeside p s true) (ExcludesBeside p s false) one other told too)

  -- an undecided cell is one of a block, so it is within the box
  pub open_inside : (of_after : Bool) (k : ℕ) → known_beside s of_after (pos k) ≡ None → k < grid_sizes p.grid (frame_of s.line.view).away.axis
  open_inside of_after k none = elim (cases_lt k (grid_sizes p.grid (frame_of s.line.view).away.axis)) as (λ _. k < grid_sizes p.grid (frame_of s.line.view).away.axis) [
    | inl l ↦ l
    | inr far ↦ absurd (none-some false (sym none ∙ cell_known p known s seen of_after (pos k) ∙ ap (known_in known) (none_behind p blocks s.line of_after k far)))
  ]

  -- the cells of which one may exclude a value tell all that one does
  pub among_told : (of_after : Bool) (cells : ℕ) (best : Option Decision) → IsDoubted (known_beside s of_after) (known_beside s (not of_after)) s.style cells
      → TellsLeast (ExcludesAmong p s of_after cells) best → TellsLeast (ExcludesBeside p s of_after) best
  among_told of_after cells best doubted = told_alike (ExcludesAmong p s of_after cells) (ExcludesBeside p s of_after) best
      (λ b v (k, set, e). (k, open_inside of_after k (doubted.undecided k set), e))
      (λ b v (k, l, (at, none, out)). elim (cases_Bool (is_set cells k)) as (λ _. ExcludesAmong p s of_after cells b v) [
        | inl set ↦ (k, set, (at, none, out))
        | inr off ↦ absurd (out (doubted.free k v none off))
      ])
