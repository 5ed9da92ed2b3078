-- The numbers of columns.
use Rattle.std.proofs.Common.{◌≡◌, inl, inr, Bool, true, false, if◌then◌else◌, ℕ, suc, ◌+◌, ◌-◌, ◌*◌, ◌<◌, ◌≤◌, nat_lt, ◌&&◌, IsTrue, refl, ap, sym, subst, arith}
use Rattle.std.proofs.lemmas.Bool.{and_parts, cases_lt, ltb-true, ltb-false}
use Rattle.std.proofs.lemmas.Nat.{mul-add-lt}
use Rattle.std.proofs.Math.Nat.{mul_comm, mod-lt, div-lt_iff_lt-mul}
use Rattle.line_demands.specs.declared.gather.ColumnPlace.{ColumnPlace}
use Rattle.line_demands.specs.Gathered.{place_in_view, place_numbered}
use Rattle.line_demands.specs.KeptColumns.{columns_before, column_number, column_count}
use Rattle.line_demands.specs.Touching.{view_width, view_height}
use Rattle.solid_model.specs.declared.frame.View.{View}
use Rattle.solid_model.specs.declared.frame.View.TheVariants.{Front, Top, Side}
use Rattle.solid_model.specs.declared.line_id.LineId.{LineId}
use Rattle.solid_model.specs.Demands.{has_line}
use Rattle.solid_model.specs.Panels.{GridParts}
use Rattle.solid_model.specs.WalledBoxes.{Sizes}
use Rattle.solid_model.specs.Wire.{is_drawn_view}
use Rattle.solid_model.specs.GridBox.{grid_sizes, axis_along, axis_across}

pub in_view : (sizes : Sizes) (v : View) (right up : ℕ) → right < view_width sizes v → up < view_height sizes v
    → up * view_width sizes v + right < view_height sizes v * view_width sizes v
in_view sizes v right up l m =
    let a = mul-add-lt up (view_width sizes v) right (view_height sizes v) m l in
    let b = mul_comm (view_width sizes v) (view_height sizes v) in omega arith

pub number_inside : (sizes : Sizes) (v : View) (right up : ℕ) → right < view_width sizes v → up < view_height sizes v → column_number sizes v right up < column_count sizes
number_inside sizes Front right up l m = let a = in_view sizes Front right up l m in omega arith
number_inside sizes Top right up l m = let a = in_view sizes Top right up l m in omega arith
number_inside sizes Side right up l m = let a = in_view sizes Side right up l m in omega arith

-- a line that a grid has stands within it
pub line_within : (g : GridParts) (l : LineId) → IsTrue (has_line g l) → (l.at ≤ grid_sizes g (axis_across l.view l.upright)) × (l.cell < grid_sizes g (axis_along l.view l.upright))
line_within g l has =
    let at = nat_lt l.at (suc (grid_sizes g (axis_across l.view l.upright))) in
    let cell = nat_lt l.cell (grid_sizes g (axis_along l.view l.upright)) in
    let parts = and_parts at cell (and_parts (is_drawn_view g l.view) (at && cell) has).1 in
    let few = ltb-true l.at (suc (grid_sizes g (axis_across l.view l.upright))) parts.0 in
    (omega (arith, few), ltb-true l.cell (grid_sizes g (axis_along l.view l.upright)) parts.1)

-- so it does within sizes that are the grid's
pub line_cell : (g : GridParts) (sizes : Sizes) (l : LineId) → sizes ≡ grid_sizes g → IsTrue (has_line g l) → l.cell < sizes (axis_along l.view l.upright)
line_cell g sizes l same has = subst (λ (s : Sizes). l.cell < s (axis_along l.view l.upright)) (sym same) (line_within g l has).1

pub line_at : (g : GridParts) (sizes : Sizes) (l : LineId) → sizes ≡ grid_sizes g → IsTrue (has_line g l) → l.at ≤ sizes (axis_across l.view l.upright)
line_at g sizes l same has = subst (λ (s : Sizes). l.at ≤ s (axis_across l.view l.upright)) (sym same) (line_within g l has).0

-- where a column stands
positive : (h w n : ℕ) → n < h * w → 0 < w
positive h w n l = elim (cases_lt 0 w) as (λ _. 0 < w) [
  | inl some ↦ some
  | inr none ↦ absurd (let e : w ≡ 0 = omega arith in let f : h * w ≡ h * 0 = ap (λ x. h * x) e in let g : h * 0 ≡ 0 = grind arith in omega arith)
]

abbrev pub Stands : Sizes → ColumnPlace → Type 0
Stands sizes at = (at.right < view_width sizes at.view) × (at.up < view_height sizes at.view)

stands_in : (sizes : Sizes) (v : View) (n : ℕ) → n < view_height sizes v * view_width sizes v → Stands sizes (place_in_view sizes v n)
stands_in sizes v n l = let some = positive (view_height sizes v) (view_width sizes v) n l in (mod-lt n some, (div-lt_iff_lt-mul some).1 l)

pub place_inside : (sizes : Sizes) (n : ℕ) → n < column_count sizes → Stands sizes (place_numbered sizes n)
place_inside sizes n l = by (nat_lt n (columns_before sizes Top)) (nat_lt n (columns_before sizes Side)) refl refl
  where
    by : (t u : Bool) → nat_lt n (columns_before sizes Top) ≡ t → nat_lt n (columns_before sizes Side) ≡ u
        → Stands sizes (if nat_lt n (columns_before sizes Top) then place_in_view sizes Front n else (if nat_lt n (columns_before sizes Side) then place_in_view sizes Top (n - columns_before sizes Top) else place_in_view sizes Side (n - columns_before sizes Side)))
    by true u e f = subst (λ (t : Bool). Stands sizes (if t then place_in_view sizes Front n else (if nat_lt n (columns_before sizes Side) then place_in_view sizes Top (n - columns_before sizes Top) else place_in_view sizes Side (n - columns_before sizes Side)))) (sym e)
        (stands_in sizes Front n (ltb-true n (columns_before sizes Top) e))
    by false true e f = subst (λ (t : Bool). Stands sizes (if t then place_in_view sizes Front n else (if nat_lt n (columns_before sizes Side) then place_in_view sizes Top (n - columns_before sizes Top) else place_in_view sizes Side (n - columns_before sizes Side)))) (sym e)
        (subst (λ (t : Bool). Stands sizes (if t then place_in_view sizes Top (n - columns_before sizes Top) else place_in_view sizes Side (n - columns_before sizes Side))) (sym f)
        (stands_in sizes Top (n - columns_before sizes Top) (let a = ltb-false n (columns_before sizes Top) e in let b = ltb-true n (columns_before sizes Side) f in omega arith)))
    by false false e f = subst (λ (t : Bool). Stands sizes (if t then place_in_view sizes Front n else (if nat_lt n (columns_before sizes Side) then place_in_view sizes Top (n - columns_before sizes Top) else place_in_view sizes Side (n - columns_before sizes Side)))) (sym e)
        (subst (λ (t : Bool). Stands sizes (if t then place_in_view sizes Top (n - columns_before sizes Top) else place_in_view sizes Side (n - columns_before sizes Side))) (sym f)
        (stands_in sizes Side (n - columns_before sizes Side) (let b = ltb-false n (columns_before sizes Side) f in omega arith)))
