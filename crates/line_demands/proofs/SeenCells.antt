-- What is seen of the cells of the two columns beside a line.
use Rattle.std.proofs.Common.{◌≡◌, Bool, true, false, not, ℕ, ℤ, pos, Option, sym, subst, ◌∙◌}
use Rattle.line_demands.specs.declared.seen.SeenLine.{SeenLine}
use Rattle.line_demands.specs.Doubted.{CanDrawWith, IsFree}
use Rattle.line_demands.specs.Free.{LeavesFree}
use Rattle.line_demands.specs.Seen.{IsSeen, known_beside}
use Rattle.line_demands.proofs.KeptColumns.{draw_from}
use Rattle.solid_model.proofs.KnownColumns.{same_first_back}
use Rattle.solid_model.specs.declared.segment.Style.{Style}
use Rattle.solid_model.specs.declared.segment.Style.TheVariants.{Blank, Dashed, Solid}
use Rattle.solid_model.specs.Blocks.{ProblemParts, block_at}
use Rattle.solid_model.specs.Columns.{ColumnsDraw}
use Rattle.solid_model.specs.Demands.{line_style, known_in, known_cell, known_after, known_before, AgreesWith, CanDraw, CanBeMet}
use Rattle.solid_model.specs.Forcing.{cell_beside, CanBeMetWith}

-- two columns draw the same, whichever of them comes first
pub draw_back : (a b : ℤ → Bool) (style : Style) → ColumnsDraw a b style → ColumnsDraw b a style
draw_back a b Blank same = λ k. sym (same k)
draw_back a b Dashed (differ, same) = ((differ.0, λ e. differ.1 (sym e)), same_first_back a b same)
draw_back a b Solid apart = λ same. apart (same_first_back b a same)

pub draws_back : (known other : ℤ → Option Bool) (style : Style) → CanDraw known other style → CanDraw other known style
draws_back known other style (a, b, fits, too, draws) = (b, a, too, fits, draw_back a b style draws)

pub agrees_as : (f g : ℤ → Option Bool) (column : ℤ → Bool) → ((k : ℤ) → f k ≡ g k) → AgreesWith f column → AgreesWith g column
agrees_as f g column same agrees k value e = agrees k value (same k ∙ e)

module _ (p : ProblemParts) (known : ℕ → Option Bool) (s : SeenLine) (seen : IsSeen p known s) where
  -- what is seen of a cell is what is known of its block
  pub cell_known : (of_after : Bool) (k : ℤ) → known_beside s of_after k ≡ known_in known (block_at p.blocks (cell_beside p.grid s.line of_after k))
  cell_known true k = seen.after k
  cell_known false k = seen.before k

  -- the columns can draw the line's style with a value in a cell where the line can be met with it
  pub met_with : (of_after : Bool) (depth : ℕ) (value : Bool) → CanDrawWith (known_beside s of_after) (known_beside s (not of_after)) s.style depth value → CanBeMetWith p known s.line of_after (pos depth) value
  met_with true depth value (a, b, fits, too, is, draws) = (a, b, agrees_as _ _ a seen.after fits, agrees_as _ _ b seen.before too, is, subst (λ (x : Style). ColumnsDraw a b x) seen.style draws)
  met_with false depth value (b, a, too, fits, is, draws) =
      (a, b, agrees_as _ _ a seen.after fits, agrees_as _ _ b seen.before too, is, subst (λ (x : Style). ColumnsDraw a b x) seen.style (draw_back b a s.style draws))

  pub with_met : (of_after : Bool) (depth : ℕ) (value : Bool) → CanBeMetWith p known s.line of_after (pos depth) value → CanDrawWith (known_beside s of_after) (known_beside s (not of_after)) s.style depth value
  with_met true depth value (a, b, fits, too, is, draws) =
      (a, b, agrees_as _ _ a (λ k. sym (seen.after k)) fits, agrees_as _ _ b (λ k. sym (seen.before k)) too, is, subst (λ (x : Style). ColumnsDraw a b x) (sym seen.style) draws)
  with_met false depth value (a, b, fits, too, is, draws) =
      (b, a, agrees_as _ _ b (λ k. sym (seen.before k)) too, agrees_as _ _ a (λ k. sym (seen.after k)) fits, is, draw_back a b s.style (subst (λ (x : Style). ColumnsDraw a b x) (sym seen.style) draws))

  -- so they can draw it where the line can be met
  pub seen_draws : CanBeMet p known s.line → CanDraw (known_beside s true) (known_beside s false) s.style
  seen_draws met = draw_from (known_after p.grid (known_cell p.blocks known) s.line) (known_beside s true) (known_before p.grid (known_cell p.blocks known) s.line) (known_beside s false) (line_style p.grid s.line) s.style
      (λ k. sym (seen.after k)) (λ k. sym (seen.before k)) (sym seen.style) met

  -- where the columns leave each other's undecided cells free, the line does
  pub line_free : IsFree (known_beside s true) (known_beside s false) s.style → IsFree (known_beside s false) (known_beside s true) s.style → LeavesFree p known s.line
  line_free after before true depth value none = met_with true depth value (after depth value (cell_known true (pos depth) ∙ none))
  line_free after before false depth value none = met_with false depth value (before depth value (cell_known false (pos depth) ∙ none))
