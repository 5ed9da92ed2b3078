-- Lines, where every block is decided: what their columns draw, and whether the solid matches.
use Rattle.std.proofs.Common.{◌≡◌, ◌↔◌, Bool, ℕ, ◌<◌, ℤ, List, length, Option, Some, None, refl, sym, ◌∙◌}
use Rattle.line_demands.proofs.KeptColumns.{draw_from}
use Rattle.column_laws.proofs.LivePrefixes.{matching_met, met_matching}
use Rattle.column_laws.proofs.Prefixes.{block_below}
use Rattle.column_laws.proofs.SomeStyle.{decided_draw}
use Rattle.solid_model.specs.declared.cell.Cell.{Cell}
use Rattle.solid_model.specs.declared.line_id.LineId.{LineId}
use Rattle.solid_model.specs.declared.segment.Segment.{Segment}
use Rattle.solid_model.specs.declared.segment.Style.{Style}
use Rattle.solid_model.specs.declared.segment.Style.TheVariants.{Blank, Dashed, Solid}
use Rattle.solid_model.specs.Blocks.{ProblemParts, IsBlocksOf, block_at}
use Rattle.solid_model.specs.Choices.{IsMatchingChoice}
use Rattle.solid_model.specs.Columns.{HaveSameFirstFull, ColumnsDraw}
use Rattle.solid_model.specs.Demands.{known_in, known_cell, known_after, known_before, line_style, said_by, CanBeMet, AllMet}
use Rattle.solid_model.specs.Panels.{coordinates_of, IsGridOf}
use Rattle.solid_model.specs.Runs.{IsDrawing}

-- ---- styles

-- equal columns have the same first full depth
equal_first : (a b : ℤ → Bool) → ((k : ℤ) → a k ≡ b k) → HaveSameFirstFull a b
equal_first a b same k = (
  (λ first. (sym (same k) ∙ first.0, λ n l. sym (same n) ∙ first.1 n l)),
  (λ first. (same k ∙ first.0, λ n l. same n ∙ first.1 n l)),
)

-- two columns draw one style
pub one_drawn : (a b : ℤ → Bool) (s t : Style) → ColumnsDraw a b s → ColumnsDraw a b t → s ≡ t
one_drawn a b Blank Blank x y = refl
one_drawn a b Blank Dashed x y = absurd (y.0.1 (x y.0.0))
one_drawn a b Blank Solid x y = absurd (y (equal_first a b x))
one_drawn a b Dashed Blank x y = absurd (x.0.1 (y x.0.0))
one_drawn a b Dashed Dashed x y = refl
one_drawn a b Dashed Solid x y = absurd (y x.1)
one_drawn a b Solid Blank x y = absurd (x (equal_first a b y))
one_drawn a b Solid Dashed x y = absurd (x y.1)
one_drawn a b Solid Solid x y = refl

-- where all cells beside a line are known it can be met where they draw its style
module _ (p : ProblemParts) (known : ℕ → Option Bool) (l : LineId) (after before : ℤ → Bool)
    (after_is : (k : ℤ) → known_after p.grid (known_cell p.blocks known) l k ≡ Some (after k))
    (before_is : (k : ℤ) → known_before p.grid (known_cell p.blocks known) l k ≡ Some (before k)) where
  pub met_drawn : CanBeMet p known l → ColumnsDraw after before (line_style p.grid l)
  met_drawn can = decided_draw after before (line_style p.grid l)
      (draw_from _ (λ k. Some (after k)) _ (λ k. Some (before k)) (line_style p.grid l) (line_style p.grid l) after_is before_is refl can)

-- ---- solids

module _ (drawing : Segment → Style) (is : IsDrawing drawing) (p : ProblemParts) (grid : IsGridOf drawing p.grid) (blocks : IsBlocksOf p.grid p.blocks)
    (known : ℕ → Option Bool) (choice : List Bool) (whole : length choice ≡ p.blocks.count) (says : (b : ℕ) → b < p.blocks.count → known b ≡ said_by choice b) where
  -- what is known of a cell is what the choice says
  same_cell : (n : Cell) → known_cell p.blocks known n ≡ known_cell p.blocks (said_by choice) n
  same_cell n = by (block_at p.blocks n) refl
    where
      by : (block : Option ℕ) → block_at p.blocks n ≡ block → known_in known block ≡ known_in (said_by choice) block
      by None e = refl
      by (Some b) e = says b (block_below p.grid p.blocks blocks n b e)

  -- all lines can be met exactly where the choice matches
  pub whole_matches : AllMet p known ↔ IsMatchingChoice drawing (coordinates_of p.grid) p.blocks.numbers choice
  whole_matches = (
    (λ met. met_matching drawing is p grid blocks choice whole
        (λ l has. draw_from _ _ _ _ (line_style p.grid l) (line_style p.grid l) (λ k. same_cell _) (λ k. same_cell _) refl (met l has))),
    (λ matches l has. draw_from _ _ _ _ (line_style p.grid l) (line_style p.grid l) (λ k. sym (same_cell _)) (λ k. sym (same_cell _)) refl
        (matching_met drawing is p grid blocks choice whole matches l has)),
  )
