-- Live prefixes are a tree and end in matching solids.
use Rattle.std.proofs.Common.{◌≡◌, Bool, ℕ, suc, ◌-◌, ◌<◌, List, [], ◌∷◌, ◌++◌, length, map, get_or, ℤ, pos, ◌-ℤ◌, Some, IsTrue, refl, ap, ap₂, sym, subst, ◌∙◌, arith, true}
use Rattle.std.specs.List.{flat_map}
use Rattle.std.proofs.lemmas.Bool.{and_from, lt-ltb}
use Rattle.std.proofs.lemmas.List.{get_or-take}
use Rattle.std.proofs.lemmas.List.Folds.{flat_map-map}
use Rattle.std.proofs.lemmas.Option.{none-some}
use Rattle.solid_model.specs.declared.cell.Cell.{Cell}
use Rattle.solid_model.specs.declared.line_id.LineId.{LineId}
use Rattle.solid_model.specs.declared.segment.Segment.{Segment}
use Rattle.solid_model.specs.declared.segment.Style.{Style}
use Rattle.solid_model.specs.Blocks.{ProblemParts, IsBlocksOf}
use Rattle.solid_model.specs.Cells.{is_full}
use Rattle.solid_model.specs.Choices.{cells_of_choice, IsMatchingChoice}
use Rattle.solid_model.specs.Columns.{ColumnsDraw}
use Rattle.solid_model.specs.PerView.{of_view}
use Rattle.solid_model.specs.Wire.{is_drawn_view}
use Rattle.solid_model.specs.declared.frame.View.{View}
use Rattle.solid_model.specs.Demands.{has_line, line_style, said_by, known_in, CanDraw, CanBeMet, AllMet}
use Rattle.solid_model.specs.Forcing.{IsStable, IsLive, is_live}
use Rattle.solid_model.specs.DrawnStyle.{solid_drawing}
use Rattle.solid_model.specs.Grid.{IsUnionOf}
use Rattle.solid_model.specs.Panels.{coordinates_of, starts_of, IsGridOf, styles_along, grid_styles}
use Rattle.solid_model.specs.Runs.{IsDrawing}
use Rattle.solid_model.specs.Segments.{segment_at}
use Rattle.solid_model.specs.Tree.{KeepsMatching}
use Rattle.solid_model.specs.GridBox.{grid_sizes, axis_along, axis_across}
use Rattle.solid_model.proofs.Corners.{length-starts_of}
use Rattle.solid_model.proofs.Gaps.{member}
use Rattle.solid_model.proofs.DrawnPanels.{drawn_panels, drawn_panels_are}
use Rattle.solid_model.proofs.GridMatching.{matching_on_grid}
use Rattle.column_laws.proofs.LiveTree.{problem_tree}
use Rattle.column_laws.proofs.LiveComputed.{live_computed}
use Rattle.solid_model.proofs.Lives.{stable_lives}
use Rattle.solid_model.proofs.Unions.{some_union}
use Rattle.column_laws.proofs.LineStyles.{own_style_drawn, line_drawing, matching_draws_line}
use Rattle.column_laws.proofs.OwnColumns.{own_column}
use Rattle.column_laws.proofs.Prefixes.{known_filled, all_known}
use Rattle.column_laws.proofs.SomeStyle.{decided_draw}

-- lists made of what is alike at each place
map_alike : {A B : Type 0} (f h : A → B) (xs : List A) (d : A) → ((i : ℕ) → i < length xs → f (get_or xs i d) ≡ h (get_or xs i d)) → map f xs ≡ map h xs
map_alike f h [] d alike = refl
map_alike f h (x ∷ xs) d alike = ap₂ ◌∷◌ (alike 0 (omega arith)) (map_alike f h xs d (λ i l. alike (suc i) (omega arith)))

module _ (drawing : Segment → Style) (is : IsDrawing drawing) (p : ProblemParts) (grid : IsGridOf drawing p.grid) (blocks : IsBlocksOf p.grid p.blocks) where
  -- the columns that a choice fills after and before a line, and the line's first unit segment
  abbrev fills_after : List Bool → LineId → ℤ → Bool
  fills_after choice l = own_column p.grid p.blocks blocks choice l.view l.upright l.cell (pos l.at)

  abbrev fills_before : List Bool → LineId → ℤ → Bool
  fills_before choice l = own_column p.grid p.blocks blocks choice l.view l.upright l.cell (pos l.at -ℤ pos 1)

  abbrev segment_of : LineId → Segment
  segment_of l = segment_at l.view l.upright
      (member (coordinates_of p.grid (axis_along l.view l.upright)) l.cell) (member (coordinates_of p.grid (axis_across l.view l.upright)) l.at)

  abbrev IsMatching : List Bool → Type 0
  IsMatching = IsMatchingChoice drawing (coordinates_of p.grid) p.blocks.numbers

  -- ---- matching choices

  -- what a matching choice fills meets each line
  pub matching_met : (choice : List Bool) → length choice ≡ p.blocks.count → IsMatching choice → AllMet p (said_by choice)
  matching_met choice whole (s, union, matches) l has = (
    fills_after choice l,
    fills_before choice l,
    (λ k value e. known_filled p.blocks choice _ value e),
    (λ k value e. known_filled p.blocks choice _ value e),
    matching_draws_line drawing is p.grid grid p.blocks blocks choice l has s union matches,
  )

  -- ---- choices under which all lines can be met

  module _ (choice : List Bool) (whole : length choice ≡ p.blocks.count) (met : AllMet p (said_by choice)) (s : List Cell)
      (union : IsUnionOf (coordinates_of p.grid) (cells_of_choice p.blocks.numbers choice) (is_full s)) where
    -- each line is met by what the choice fills, since all is decided
    own_draws : (l : LineId) → IsTrue (has_line p.grid l) → ColumnsDraw (fills_after choice l) (fills_before choice l) (line_style p.grid l)
    own_draws l has = decided_draw (fills_after choice l) (fills_before choice l) (line_style p.grid l) (by (met l has))
      where
        by : CanBeMet p (said_by choice) l → CanDraw (λ k. Some (fills_after choice l k)) (λ k. Some (fills_before choice l k)) (line_style p.grid l)
        by (after, before, agrees, agrees_too, draws) = (
          after,
          before,
          (λ k value e. agrees k value (all_known p.grid p.blocks blocks choice whole _ ∙ e)),
          (λ k value e. agrees_too k value (all_known p.grid p.blocks blocks choice whole _ ∙ e)),
          draws,
        )

    -- so its solid draws the grid's styles
    drawn_at : (l : LineId) → IsTrue (has_line p.grid l) → drawing (segment_of l) ≡ solid_drawing s (segment_of l)
    drawn_at l has = sym (line_drawing drawing is p.grid grid p.blocks blocks choice l has)
        ∙ own_style_drawn drawing is p.grid grid p.blocks blocks choice l has s union (line_style p.grid l) (own_draws l has)

    styles_drawn : (v : View) (upright : Bool) → is_drawn_view p.grid v ≡ true → styles_along upright (of_view v p.grid.panels) ≡ grid_styles (solid_drawing s) (coordinates_of p.grid) v upright
    styles_drawn v upright shown = grid.styles v upright ∙ sym (flat_map-map (λ styles. styles) _ lines)
        ∙ ap (flat_map (λ styles. styles)) (map_alike _ _ lines (pos 0) (λ j m. map_alike _ _ (starts_of all) (pos 0) (λ i l. at i j l m)))
        ∙ flat_map-map (λ styles. styles) _ lines
      where
        all : List ℤ
        all = coordinates_of p.grid (axis_along v upright)

        lines : List ℤ
        lines = coordinates_of p.grid (axis_across v upright)

        Alike : ℤ → ℤ → Type 0
        Alike start line = drawing (segment_at v upright start line) ≡ solid_drawing s (segment_at v upright start line)

        at : (i j : ℕ) → i < length (starts_of all) → j < length lines
            → Alike (get_or (starts_of all) i (pos 0)) (get_or lines j (pos 0))
        at i j l m =
            let within : i < length all - 1 = omega (arith, length-starts_of all) in
            let line : LineId = record { view = v; upright = upright; at = j; cell = i } in
            let across = lt-ltb j (suc (grid_sizes p.grid (axis_across v upright))) (omega arith) in
            let along = lt-ltb i (grid_sizes p.grid (axis_along v upright)) within in
            subst (λ z. Alike z (get_or lines j (pos 0))) (sym (get_or-take (length all - 1) all i (pos 0) within)) (drawn_at line (and_from (is_drawn_view p.grid v) _ shown (and_from _ _ across along)))

  pub met_matching : (choice : List Bool) → length choice ≡ p.blocks.count → AllMet p (said_by choice) → IsMatching choice
  met_matching choice whole met = by (some_union (coordinates_of p.grid) (λ a. (grid.coordinates a).ordered) (cells_of_choice p.blocks.numbers choice))
    where
      by : (s : List Cell) × IsUnionOf (coordinates_of p.grid) (cells_of_choice p.blocks.numbers choice) (is_full s)
          → IsMatching choice
      by (s, union) =
          let own = drawn_panels_are (solid_drawing s) (coordinates_of p.grid) in
          let same = matching_on_grid drawing is p.grid grid (cells_of_choice p.blocks.numbers choice) s union (drawn_panels (solid_drawing s) (coordinates_of p.grid)) own in
          (s, union, same.0 (λ v upright shown. own v upright ∙ sym (styles_drawn choice whole met s union v upright shown)))

  -- ---- all of it

  -- a choice of all blocks leaves nothing to be excluded
  whole_stable : (choice : List Bool) → length choice ≡ p.blocks.count → AllMet p (said_by choice) → IsStable p (said_by choice)
  whole_stable choice whole met = record {
    met = met;
    none = λ block value (none, l, has, (of_after, k, at, out)).
        none-some _ (sym none ∙ sym (ap (known_in (said_by choice)) at) ∙ all_known p.grid p.blocks blocks choice whole _);
  }

  -- so a matching one is live
  matching_live : (choice : List Bool) → length choice ≡ p.blocks.count → IsMatching choice → IsLive p choice
  matching_live choice whole matches = record {
    short = omega (arith, whole);
    lives = stable_lives p (said_by choice) (whole_stable choice whole (matching_met choice whole matches));
  }

  pub live_keeps_matching : KeepsMatching (is_live p) p.blocks.count IsMatching
  live_keeps_matching = record {
    tree = problem_tree p blocks;
    reached = λ prefix rest whole matches. (problem_tree p blocks).closed prefix rest
        ((live_computed p blocks (prefix ++ rest)).1 (matching_live (prefix ++ rest) whole matches));
    ends = λ choice whole live. met_matching choice whole (((live_computed p blocks choice).0 live).lives [] tt);
  }
