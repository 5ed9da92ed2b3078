-- What a line that is seen excludes is what the cells of its two columns exclude.
use Rattle.std.proofs.Common.{◌≡◌, ◌⊎◌, inl, inr, Bool, true, false, ◌<◌, ◌≤◌, ℕ, pos, negsuc, Option, Some, None, ap, sym, ◌∙◌, arith}
use Rattle.std.proofs.lemmas.Bool.{cases_lt}
use Rattle.std.proofs.lemmas.Int.{ints}
use Rattle.std.proofs.lemmas.Option.{none-some}
use Rattle.line_demands.specs.declared.seen.SeenLine.{SeenLine}
use Rattle.column_laws.proofs.MetLines.{none_beyond}
use Rattle.line_demands.proofs.SeenCells.{cell_known, met_with, with_met}
use Rattle.line_demands.specs.Excluding.{ExcludesBeside, ExcludesOpen}
use Rattle.line_demands.specs.Seen.{IsSeen}
use Rattle.solid_model.specs.declared.line_id.LineId.{LineId}
use Rattle.solid_model.specs.Blocks.{ProblemParts, IsBlocksOf, block_at}
use Rattle.solid_model.specs.Demands.{known_in}
use Rattle.solid_model.specs.Forcing.{place_beside, cell_beside, CanBeMetWith}
use Rattle.solid_model.specs.Frames.{frame_of}
use Rattle.solid_model.specs.GridBox.{grid_sizes}

-- beyond the box no cell beside a line has a block
module _ (p : ProblemParts) (blocks : IsBlocksOf p.grid p.blocks) (l : LineId) (of_after : Bool) where
  pub none_before : (k : ℕ) → block_at p.blocks (cell_beside p.grid l of_after (negsuc k)) ≡ None
  none_before k = none_beyond p blocks.sized l (place_beside l of_after) (negsuc k) (λ r. let low = r.0 in omega (arith, ints))

  pub none_behind : (k : ℕ) → grid_sizes p.grid (frame_of l.view).away.axis ≤ k → block_at p.blocks (cell_beside p.grid l of_after (pos k)) ≡ None
  none_behind k far = none_beyond p blocks.sized l (place_beside l of_after) (pos k) (λ r. let high = r.1 in omega (arith, ints))

module _ (p : ProblemParts) (blocks : IsBlocksOf p.grid p.blocks) (known : ℕ → Option Bool) (s : SeenLine) (seen : IsSeen p known s) where
  -- what a cell excludes the line excludes,
  pub cells_to : (of_after : Bool) (block : ℕ) (value : Bool) → ExcludesBeside p s of_after block value → ExcludesOpen p known s.line block value
  cells_to of_after block value (k, m, (at, none, out)) =
      (sym (cell_known p known s seen of_after (pos k) ∙ ap (known_in known) at) ∙ none, (of_after, pos k, at, λ met. out (with_met p known s seen of_after k value met)))

  -- and the other way round
  pub cells_from : (block : ℕ) (value : Bool) → ExcludesOpen p known s.line block value → ExcludesBeside p s true block value ⊎ ExcludesBeside p s false block value
  cells_from block value (none, (of_after, negsuc k, at, out)) = absurd (none-some block (sym (none_before p blocks s.line of_after k) ∙ at))
  cells_from block value (none, (of_after, pos k, at, out)) = elim (cases_lt k (grid_sizes p.grid (frame_of s.line.view).away.axis)) as (λ _. ExcludesBeside p s true block value ⊎ ExcludesBeside p s false block value) [
    | inl m ↦ by of_after m at out
    | inr far ↦ absurd (none-some block (sym (none_behind p blocks s.line of_after k far) ∙ at))
  ]
    where
      one : (of_after : Bool) → k < grid_sizes p.grid (frame_of s.line.view).away.axis → block_at p.blocks (cell_beside p.grid s.line of_after (pos k)) ≡ Some block
          → (CanBeMetWith p known s.line of_after (pos k) value → ⊥) → ExcludesBeside p s of_after block value
      one of_after m at out = (k, m, (at, cell_known p known s seen of_after (pos k) ∙ ap (known_in known) at ∙ none, λ with. out (met_with p known s seen of_after k value with)))

      by : (of_after : Bool) → k < grid_sizes p.grid (frame_of s.line.view).away.axis → block_at p.blocks (cell_beside p.grid s.line of_after (pos k)) ≡ Some block
          → (CanBeMetWith p known s.line of_after (pos k) value → ⊥) → ExcludesBeside p s true block value ⊎ ExcludesBeside p s false block value
      by true m at out = inl (one true m at out)
      by false m at out = inr (one false m at out)
