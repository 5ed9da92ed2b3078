-- Lines of a drawing sheet.
use Rattle.std.specs.Prelude.{◌≡◌, ◌≢◌, ◌⊎◌, ℕ, ℤ, pos, neg_ℤ, ◌≤ℤ◌}
use Rattle.solid_model.specs.declared.segment.Style.{Style}
use Rattle.solid_model.specs.declared.segment.Style.TheVariants.{Blank}
use Rattle.solid_model.specs.declared.frame.View.{View}
use Rattle.solid_model.specs.Limits.{farthest_on_sheet}

-- a line of a view, from (x0, y0) to (x1, y1), whose entity begins at that line of its file
pub record Line : Type 0 where
  pub of : View
  pub style : Style
  pub x0 : ℤ
  pub y0 : ℤ
  pub x1 : ℤ
  pub y1 : ℤ
  pub number : ℕ

-- a coordinate whose absolute value is at most 1,000,000,000
abbrev pub IsNear : ℤ → Type 0
IsNear k = (neg_ℤ (pos farthest_on_sheet) ≤ℤ k) × (k ≤ℤ pos farthest_on_sheet)

-- what each line keeps: it is level or upright, it is drawn, and its coordinates are near
pub record IsKept (l : Line) : Type 0 where
  pub straight : (l.x0 ≡ l.x1) ⊎ (l.y0 ≡ l.y1)
  pub drawn : l.style ≢ Blank
  pub near_x0 : IsNear l.x0
  pub near_y0 : IsNear l.y0
  pub near_x1 : IsNear l.x1
  pub near_y1 : IsNear l.y1
