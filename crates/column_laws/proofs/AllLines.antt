-- The list of all lines of a grid has exactly the lines that the grid has.
use Rattle.std.proofs.Common.{inl, inr, Bool, true, false, nat_lt, suc, ◌++◌, IsTrue, subst, arith, ◌≡◌, ◌&&◌, ⊎_elim, [], refl, sym, if◌then◌else◌}
use Rattle.std.specs.List.{range_with_len}
use Rattle.std.proofs.lemmas.Bool.{and_parts, and_from, lt-ltb, ltb-true}
use Rattle.solid_model.specs.declared.frame.View.{View}
use Rattle.solid_model.specs.declared.frame.View.TheVariants.{Front, Top, Side}
use Rattle.solid_model.specs.declared.line_id.LineId.{LineId}
use Rattle.solid_model.specs.Wire.{is_drawn_view}
use Rattle.solid_model.specs.Demands.{has_line, lines_at, lines_along, lines_in, lines_of}
use Rattle.lemmas.specs.Lists.{Member}
use Rattle.solid_model.specs.Panels.{GridParts}
use Rattle.solid_model.specs.GridBox.{grid_sizes, axis_along, axis_across}
use Rattle.lemmas.proofs.Lists.{member-append, member-append_left, member-append_right, member-map, member-from_map}
use Rattle.lemmas.proofs.Concatenations.{member-flat_map, member-from_flat_map}
use Rattle.lemmas.proofs.Ranges.{member-range, member-from_range}

-- ---- lines

module _ (g : GridParts) where
  listed_along : (l : LineId) → (nat_lt l.at (suc (grid_sizes g (axis_across l.view l.upright))) && nat_lt l.cell (grid_sizes g (axis_along l.view l.upright))) ≡ true → Member (lines_along g l.view l.upright) l
  listed_along l has =
      let parts = and_parts (nat_lt l.at (suc (grid_sizes g (axis_across l.view l.upright)))) (nat_lt l.cell (grid_sizes g (axis_along l.view l.upright))) has in
      let at = ltb-true l.at (suc (grid_sizes g (axis_across l.view l.upright))) parts.0 in
      let cell = ltb-true l.cell (grid_sizes g (axis_along l.view l.upright)) parts.1 in
      member-flat_map (lines_at g l.view l.upright) (range_with_len 0 (suc (grid_sizes g (axis_across l.view l.upright)))) l.at l
      (member-range (suc (grid_sizes g (axis_across l.view l.upright))) 0 l.at (omega arith) (omega arith))
      (member-map (λ cell. record { view = l.view; upright = l.upright; at = l.at; cell = cell }) (range_with_len 0 (grid_sizes g (axis_along l.view l.upright))) l.cell
      (member-range (grid_sizes g (axis_along l.view l.upright)) 0 l.cell (omega arith) (omega arith)))

  listed_in : (l : LineId) → IsTrue (has_line g l) → Member (lines_in g l.view) l
  listed_in l has =
      let parts = and_parts (is_drawn_view g l.view) (nat_lt l.at (suc (grid_sizes g (axis_across l.view l.upright))) && nat_lt l.cell (grid_sizes g (axis_along l.view l.upright))) has in
      subst (λ (t : Bool). Member (if t then (lines_along g l.view false ++ lines_along g l.view true) else []) l) (sym parts.0) (by l.upright (listed_along l parts.1))
    where
      by : (upright : Bool) → Member (lines_along g l.view upright) l → Member (lines_along g l.view false ++ lines_along g l.view true) l
      by false k = member-append_left (lines_along g l.view false) (lines_along g l.view true) l k
      by true k = member-append_right (lines_along g l.view false) (lines_along g l.view true) l k

  -- a line that the grid has is one of its lines
  pub lines_are_listed : (l : LineId) → IsTrue (has_line g l) → Member (lines_of g) l
  lines_are_listed l has = by l.view (listed_in l has)
    where
      by : (v : View) → Member (lines_in g v) l → Member (lines_of g) l
      by Front k = member-append_left (lines_in g Front) (lines_in g Top ++ lines_in g Side) l k
      by Top k = member-append_right (lines_in g Front) (lines_in g Top ++ lines_in g Side) l (member-append_left (lines_in g Top) (lines_in g Side) l k)
      by Side k = member-append_right (lines_in g Front) (lines_in g Top ++ lines_in g Side) l (member-append_right (lines_in g Top) (lines_in g Side) l k)

  had_along : (v : View) → is_drawn_view g v ≡ true → (upright : Bool) (l : LineId) → Member (lines_along g v upright) l → IsTrue (has_line g l)
  had_along v shown upright l k =
      let at = member-from_flat_map (lines_at g v upright) (range_with_len 0 (suc (grid_sizes g (axis_across v upright)))) l k in
      let cell = member-from_map (λ cell. record { view = v; upright = upright; at = at.0; cell = cell }) (range_with_len 0 (grid_sizes g (axis_along v upright))) l at.2 in
      let few = member-from_range (suc (grid_sizes g (axis_across v upright))) 0 at.0 at.1 in
      let far = member-from_range (grid_sizes g (axis_along v upright)) 0 cell.0 cell.1 in
      subst (λ (x : LineId). IsTrue (has_line g x)) cell.2
      (and_from (is_drawn_view g v) (nat_lt at.0 (suc (grid_sizes g (axis_across v upright))) && nat_lt cell.0 (grid_sizes g (axis_along v upright))) shown (and_from (nat_lt at.0 (suc (grid_sizes g (axis_across v upright)))) (nat_lt cell.0 (grid_sizes g (axis_along v upright)))
      (lt-ltb at.0 (suc (grid_sizes g (axis_across v upright))) (omega (arith, few.1))) (lt-ltb cell.0 (grid_sizes g (axis_along v upright)) (omega (arith, far.1)))))

  had_in : (v : View) (l : LineId) → Member (lines_in g v) l → IsTrue (has_line g l)
  had_in v l k = by (is_drawn_view g v) refl k
    where
      by : (t : Bool) → is_drawn_view g v ≡ t → Member (if t then (lines_along g v false ++ lines_along g v true) else []) l → IsTrue (has_line g l)
      by true shown m = ⊎_elim {C = IsTrue (has_line g l)} (had_along v shown false l) (had_along v shown true l) (member-append (lines_along g v false) (lines_along g v true) l m)
      by false shown m = absurd m

  -- and the grid has each of its lines
  pub lines_are_there : (l : LineId) → Member (lines_of g) l → IsTrue (has_line g l)
  lines_are_there l k = elim (member-append (lines_in g Front) (lines_in g Top ++ lines_in g Side) l k) as (λ _. IsTrue (has_line g l)) [
    | inl m ↦ had_in Front l m
    | inr m ↦ elim (member-append (lines_in g Top) (lines_in g Side) l m) as (λ _. IsTrue (has_line g l)) [ inl n ↦ had_in Top l n | inr n ↦ had_in Side l n ]
  ]
