-- A small box, to place planes in by hand.
use Rattle.std.specs.Prelude.{[], ◌∷◌, pos}
use Rattle.solid_model.specs.Panels.{GridParts, PanelsStyles}

-- a grid from 0 to 5 along x, to 3 along y and to 1 along z, whatever its styles
abbrev pub box_with : PanelsStyles → GridParts
box_with panels = record {
  xs = pos 0 ∷ pos 5 ∷ [];
  ys = pos 0 ∷ pos 1 ∷ pos 3 ∷ [];
  zs = pos 0 ∷ pos 1 ∷ [];
  panels = panels;
}
