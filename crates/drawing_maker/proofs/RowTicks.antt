-- The ticks of a row of cubes: they ascend, and what is kept before each lies in the gap that ends there.
use Rattle.std.proofs.Common.{◌≡◌, ⊎_elim, inl, inr, ℕ, zero, suc, ◌+◌, ◌*◌, ◌<◌, ◌≤◌, List, [], ◌∷◌, ◌++◌, map, drop, get_or, Option, Some, None, ℤ, pos, negsuc, ◌≤ℤ◌, ◌<ℤ◌, int_lt, int_le, IsTrue, refl, ap, sym, ◌∙◌, arith}
use Rattle.std.specs.List.{range_with_len}
use Rattle.std.proofs.lemmas.Bool.{false≢true, and_parts}
use Rattle.std.proofs.lemmas.Int.{ints, by_lt_z}
use Rattle.solid_model.specs.Grid.{is_in_gap}
use Rattle.lemmas.specs.Lists.{Member, Each, Ascends}
use Rattle.lemmas.proofs.Lists.{member-from_map, each-at, each-from, each-map, ascends-append, ascends-map}
use Rattle.solid_model.proofs.UnionDrawing.{none_before_first}
use Rattle.drawing_maker.specs.declared.cube.Cube.{Cube}
use Rattle.drawing_maker.specs.declared.ticks.Part.{Part}
use Rattle.drawing_maker.specs.declared.ticks.Tick.{Tick}
use Rattle.drawing_maker.specs.Cubes.{cube_side}
use Rattle.drawing_maker.specs.Rows.{first_tick, tick_after, cube_ticks, row_ticks, coordinates_of_ticks}
use Rattle.lemmas.proofs.Concatenations.{member-from_flat_map}
use Rattle.lemmas.proofs.Ranges.{member-from_range, ascends-range}
use Rattle.drawing_maker.proofs.Rows.{end_of, EndsBefore, IsRow, row_behind, Spans, LiesInPart, scaled}

-- ---- ascending ticks

abbrev pub Earlier : Tick → Tick → Type 0
Earlier s t = s.at < t.at

-- where a tick of a cube stands
pub tick_in_cube : (p : Cube) (s : Tick) → Member (cube_ticks p) s → (k : ℕ) × (k ≤ cube_side p.kind) × (s.at ≡ p.origin + p.scale * k)
tick_in_cube p s (inl e) = (0, omega arith, sym (ap (λ (t : Tick). t.at) e) ∙ omega arith)
tick_in_cube p s (inr k) =
    let m = member-from_map (tick_after p) (range_with_len 0 (cube_side p.kind)) s k in
    let r = member-from_range (cube_side p.kind) 0 m.0 m.1 in
    (m.0 + 1, omega (arith, r.1), sym (ap (λ (t : Tick). t.at) m.2))

-- and a tick of a row
pub tick_in_row : (ps : List Cube) (s : Tick) → Member (row_ticks ps) s → (p : Cube) × Member ps p × Member (cube_ticks p) s
tick_in_row ps s k = member-from_flat_map cube_ticks ps s k

ascends_in_cube : (p : Cube) → 0 < p.scale → Ascends Earlier (cube_ticks p)
ascends_in_cube p sized = (
  each-map (tick_after p) (Earlier (first_tick p)) range (each-from (λ k. Earlier (first_tick p) (tick_after p k)) range (λ k m.
      let e = scaled p 1 (k + 1) (omega arith) in omega arith)),
  ascends-map (tick_after p) ◌<◌ Earlier range (λ j k l. let e = scaled p (j + 2) (k + 1) (omega arith) in omega arith) (ascends-range (cube_side p.kind) 0),
)
  where
    range : List ℕ
    range = range_with_len 0 (cube_side p.kind)

pub ascends_ticks : (ps : List Cube) → IsRow ps → Ascends Earlier (row_ticks ps)
ascends_ticks [] row = tt
ascends_ticks (p ∷ ps) row =
    ascends-append Earlier (cube_ticks p) (row_ticks ps) (ascends_in_cube p row.sized.0) (ascends_ticks ps (row_behind p ps row))
    (each-from (λ s. Each (Earlier s) (row_ticks ps)) (cube_ticks p) (λ s k. each-from (Earlier s) (row_ticks ps) (λ t l. across s t k (tick_in_row ps t l))))
  where
    across : (s t : Tick) → Member (cube_ticks p) s → (q : Cube) × Member ps q × Member (cube_ticks q) t → Earlier s t
    across s t k (q, m, l) =
        let first = tick_in_cube p s k in
        let second = tick_in_cube q t l in
        let behind = each-at (EndsBefore p) ps q row.ordered.0 m in
        let e = scaled p first.0 (cube_side p.kind) first.1 in
        omega (arith, first.2, second.2)

-- so do their coordinates
pub ascends_row : (ps : List Cube) → IsRow ps → Ascends ◌<ℤ◌ (coordinates_of_ticks (row_ticks ps))
ascends_row ps row = ascends-map (λ (s : Tick). pos s.at) Earlier ◌<ℤ◌ (row_ticks ps) (λ s t l. omega (arith, ints)) (ascends_ticks ps row)

-- ---- what lies in a gap

-- what is told of a coordinate: a part of one of the cubes that it lies in, or that it lies in none
abbrev pub IsTold : List Cube → Option Part → ℤ → Type 0
IsTold ps None z = (p : Cube) → Member ps p → Spans p z → ⊥
IsTold ps (Some w) z = Member ps w.cube × (w.place < cube_side w.cube.kind) × LiesInPart w.cube w.place z

-- where there is no tick nothing lies before it
abbrev pub no_tick : Tick
no_tick = record { at = 0; before = None }

-- what is kept before the tick that ends a gap
abbrev pub before_at : List Tick → ℕ → Option Part
before_at ticks n = (get_or (drop 1 ticks) n no_tick).before

-- what lies in the gap of a number
abbrev pub part_at : List Cube → ℤ → Option Part
part_at ps (pos k) = before_at (row_ticks ps) k
part_at ps (negsuc k) = None

-- what is told by the cubes behind one holds with it too, where the coordinate doesn't lie in it
told_behind : (p : Cube) (ps : List Cube) (part : Option Part) (z : ℤ) → (Spans p z → ⊥) → IsTold ps part z → IsTold (p ∷ ps) part z
told_behind p ps None z off told = λ r k at. ⊎_elim {C = ⊥} (λ e. off (moved r e at)) (λ l. told r l at) k
  where
    moved : (r : Cube) → p ≡ r → Spans r z → Spans p z
    moved r e at = let o = ap (λ (q : Cube). q.origin) e in let f = ap end_of e in (omega (arith, ints, at.0, o), omega (arith, ints, at.1, f))
told_behind p ps (Some w) z off told = (inr told.0, told.1, told.2)

-- what lies in some gap isn't before the first coordinate
from_first : (b : ℤ) (zs : List ℤ) → Ascends ◌<ℤ◌ (b ∷ zs) → (n : ℕ) (z : ℤ) → IsTrue (is_in_gap (b ∷ zs) n z) → b ≤ℤ z
from_first b zs ascends n z e = by_lt_z z b (λ l. absurd (none_before_first b zs ascends n z l e)) (λ l. l)

-- between the end of a cube and the next one nothing lies
nothing_between : (p q : Cube) (qs : List Cube) (z : ℤ) → IsRow (p ∷ q ∷ qs) → pos (end_of p) ≤ℤ z → z <ℤ pos q.origin → IsTold (p ∷ q ∷ qs) None z
nothing_between p q qs z row from to r (inl e) at = let f = ap end_of e in omega (arith, ints, at.1)
nothing_between p q qs z row from to r (inr (inl e)) at = let o = ap (λ (s : Cube). s.origin) e in omega (arith, ints, at.0)
nothing_between p q qs z row from to r (inr (inr k)) at = let l = each-at (EndsBefore q) qs r row.ordered.1.0 k in omega (arith, ints, at.0)

-- from one of its ticks on, with m more of them, the ticks of a cube and of those behind it tell what lies in each gap
told_from : (p : Cube) (ps : List Cube) → IsRow (p ∷ ps)
    → ((n : ℕ) (z : ℤ) → IsTrue (is_in_gap (coordinates_of_ticks (row_ticks ps)) n z) → IsTold ps (before_at (row_ticks ps) n) z)
    → (m k : ℕ) (s : Tick) → k + m ≡ cube_side p.kind → s.at ≡ p.origin + p.scale * k → (n : ℕ) (z : ℤ)
    → IsTrue (is_in_gap (coordinates_of_ticks (s ∷ (map (tick_after p) (range_with_len k m) ++ row_ticks ps))) n z)
    → IsTold (p ∷ ps) (before_at (s ∷ (map (tick_after p) (range_with_len k m) ++ row_ticks ps)) n) z
told_from p [] row later zero k s last at n z e = absurd (false≢true e)
told_from p (q ∷ qs) row later zero k s last at zero z e =
    let parts = and_parts (int_le (pos s.at) z) (int_lt z (pos q.origin)) e in
    let same : k ≡ cube_side p.kind = omega arith in
    let ends : s.at ≡ end_of p = at ∙ ap (λ j. p.origin + p.scale * j) same in
    nothing_between p q qs z row (omega (arith, ints, parts.0, ends)) (omega (arith, ints, parts.1))
told_from p (q ∷ qs) row later zero k s last at (suc n) z e =
    told_behind p (q ∷ qs) (before_at (row_ticks (q ∷ qs)) n) z
    (λ spans. let l = from_first (pos q.origin) _ (ascends_row (q ∷ qs) (row_behind p (q ∷ qs) row)) n z e in
    let b = row.ordered.0.0 in omega (arith, ints, spans.1))
    (later n z e)
told_from p ps row later (suc m) k s last at zero z e =
    let parts = and_parts (int_le (pos s.at) z) (int_lt z (pos (p.origin + p.scale * (k + 1)))) e in
    (inl refl, omega arith, (omega (arith, ints, parts.0), omega (arith, ints, parts.1)))
told_from p ps row later (suc m) k s last at (suc n) z e =
    told_from p ps row later m (k + 1) (tick_after p k) (omega arith) refl n z e

pub told_in_gap : (ps : List Cube) → IsRow ps → (n : ℕ) (z : ℤ) → IsTrue (is_in_gap (coordinates_of_ticks (row_ticks ps)) n z) → IsTold ps (before_at (row_ticks ps) n) z
told_in_gap [] row n z e = absurd (false≢true e)
told_in_gap (p ∷ ps) row n z e =
    told_from p ps row (told_in_gap ps (row_behind p ps row)) (cube_side p.kind) 0 (first_tick p) (omega arith) (omega arith) n z e
