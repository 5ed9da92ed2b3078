-- Points, one after the other, and the lines between them.
use Rattle.std.proofs.Common.{◌≡◌, ℕ, suc, ◌+◌, ◌-◌, ◌<◌, ◌≤◌, true, ◌&&◌, ◌||◌, List, [], ◌∷◌, ◌++◌, length, take, drop, get_or, int_eq, append_assoc, Ok, Err, le-leb, refl, sym, ap, ◌∙◌, arith}
use Rattle.std.proofs.lemmas.Bool.{lt-leb}
use Rattle.std.proofs.lemmas.List.{drop_more, length-drop, take_all}
use Rattle.solid_model.specs.declared.fault.Fault.TheVariants.{TooManyLines}
use Rattle.solid_model.specs.Limits.{most_lines}
use Rattle.dxf_entities.specs.declared.layer_line.LayerLine.{LayerLine}
use Rattle.dxf_entities.specs.declared.pen.Pen.{Pen}
use Rattle.dxf_entities.specs.Known.{Point}
use Rattle.dxf_entities.specs.DrawnLines.{added_along, are_straight_from, line_between, lines_from}

-- what is left begins with the next point
next_point : (ps : List Point) (i : ℕ) (b : Point) → i < length ps → b ≡ get_or ps i b
    → drop i ps ≡ b ∷ drop (i + 1) ps
next_point ps i b within is =
    drop_more ps i b within ∙ ap (λ p. p ∷ drop (i + 1) ps) (sym is)

-- whether what is left is straight is told by the next point, and what is left then
pub straight_next : (a : Point) (ps : List Point) (i : ℕ) (b : Point) → i < length ps
    → b ≡ get_or ps i b
    → are_straight_from a (drop i ps)
    ≡ ((int_eq a.x b.x || int_eq a.y b.y) && are_straight_from b (drop (i + 1) ps))
straight_next a ps i b within is = ap (are_straight_from a) (next_point ps i b within is)

-- the line to the next point is one of those that are owed
pub line_pushed : (line : ℕ) (pen : Pen) (a : Point) (ps : List Point) (i : ℕ) (b : Point) (lines : List LayerLine)
    → i < length ps → b ≡ get_or ps i b
    → (lines ++ line_between line pen a b ∷ []) ++ lines_from line pen b (drop (i + 1) ps)
    ≡ lines ++ lines_from line pen a (drop i ps)
line_pushed line pen a ps i b lines within is =
    append_assoc lines (line_between line pen a b ∷ []) (lines_from line pen b (drop (i + 1) ps))
    ∙ ap (λ rest. lines ++ lines_from line pen a rest) (sym (next_point ps i b within is))

-- a list with an item is its first and the others
pub first_point : (ps : List Point) (a : Point) → 0 < length ps → a ≡ get_or ps 0 a
    → ps ≡ a ∷ take (length ps - 1) (drop 1 ps)
first_point ps a some is =
    let all : take (length ps - 1) (drop 1 ps) ≡ drop 1 ps =
    take_all (length ps - 1) (drop 1 ps) (omega (arith, length-drop 1 ps)) in
    next_point ps 0 a some is ∙ ap (λ rest. a ∷ rest) (sym all)

-- there are as many lines as points after the first
lines_counted : (line : ℕ) (pen : Pen) (a : Point) (ps : List Point)
    → length (lines_from line pen a ps) ≡ length ps
lines_counted line pen a [] = refl
lines_counted line pen a (b ∷ ps) = ap suc (lines_counted line pen b ps)

module _ (line : ℕ) (pen : Pen) (lines : List LayerLine) (a : Point) (ps : List Point)
    (straight : are_straight_from a ps ≡ true) where
  -- straight lines for which there is room are added
  pub lines_fit : length ps ≤ most_lines - length lines
      → added_along line pen lines (a ∷ ps) ≡ Ok (lines ++ lines_from line pen a ps)
  lines_fit room =
      rw (straight, lines_counted line pen a ps, le-leb (length ps) (most_lines - length lines) room) refl

  -- others are too many
  pub lines_too_many : most_lines - length lines < length ps
      → added_along line pen lines (a ∷ ps) ≡ Err (TooManyLines line)
  lines_too_many many =
      rw (straight, lines_counted line pen a ps, lt-leb (length ps) (most_lines - length lines) many) refl
