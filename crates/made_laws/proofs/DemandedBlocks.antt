-- The block of a cell of a row's grid, by what the row holds in its three gaps.
use Rattle.std.proofs.Common.{◌≡◌, ◌≢◌, ◌⊎◌, ⊎_elim, inl, inr, Bool, true, false, ◌&&◌, ◌==◌, ℕ, zero, suc, ◌+◌, ◌*◌, ◌<◌, ◌≤◌, List, [], ◌∷◌, ◌++◌, length, map, drop, get_or, Option, Some, None, ℤ, pos, negsuc, if◌then◌else◌, refl, ap, sym, subst, ◌∙◌, arith}
use Rattle.std.proofs.lemmas.Bool.{ltb-true, ltb-false, lt-ltb, le-ltb, false≢true}
use Rattle.std.proofs.lemmas.Bool.Decides.{eqb_tells}
use Rattle.std.proofs.lemmas.List.Sums.{sum_by-cons}
use Rattle.solid_model.specs.declared.cell.Axis.{Axis}
use Rattle.solid_model.specs.declared.cell.Axis.TheVariants.{X, Y, Z}
use Rattle.solid_model.specs.declared.cell.Cell.{Cell}
use Rattle.solid_model.specs.Blocks.{BlockNumbers, block_at}
use Rattle.lemmas.specs.Lists.{Each}
use Rattle.solid_model.specs.PerAxis.{numbers_of}
use Rattle.solid_model.specs.WalledBoxes.{is_below, place_of_number}
use Rattle.lemmas.proofs.Lists.{each-at, each-weaker, member-append_right}
use Rattle.drawing_maker.specs.declared.cube.Cube.{Cube}
use Rattle.drawing_maker.specs.declared.ticks.Part.{Part}
use Rattle.drawing_maker.specs.declared.ticks.Tick.{Tick}
use Rattle.drawing_maker.specs.Cubes.{Cubelet}
use Rattle.made_laws.specs.RowBlocks.{block_count, cubelet_block, blocks_before, row_block_count, part_block, block_where, blocks_in_row}
use Rattle.drawing_maker.specs.Rows.{row_ticks}
use Rattle.made_laws.proofs.DemandedPlaces.{IsOff}
use Rattle.drawing_maker.proofs.RowTicks.{no_tick, part_at}
use Rattle.lemmas.proofs.Concatenations.{get_or-over_triples}
use Rattle.drawing_maker.proofs.Rows.{IsRow, row_behind, EndsBefore}

-- ---- the list of all cells' blocks

module _ (ps : List Cube) (ticks : List Tick) where
  -- the block of the cell before three ticks
  block_before_ticks : (i j k : ℕ) → i < length ticks → j < length ticks → k < length ticks
      → get_or (blocks_in_row ps ticks) ((k * length ticks + j) * length ticks + i) None
      ≡ block_where ps (get_or ticks i no_tick).before (get_or ticks j no_tick).before (get_or ticks k no_tick).before
  block_before_ticks i j k = get_or-over_triples (λ (x y z : Tick). block_where ps x.before y.before z.before) ticks ticks ticks i j k no_tick no_tick no_tick None

-- ---- the block of any cell

module _ (ps : List Cube) (b : BlockNumbers) (sized : (a : Axis) → numbers_of b.sizes a ≡ length (drop 1 (row_ticks ps)))
    (numbers : b.numbers ≡ blocks_in_row ps (drop 1 (row_ticks ps))) where
  -- what is told of it along the three axes
  abbrev pub block_told : Cell → Option ℕ
  block_told c = block_where ps (part_at ps c.x) (part_at ps c.y) (part_at ps c.z)

  abbrev own_ticks : List Tick
  own_ticks = drop 1 (row_ticks ps)

  -- beyond the last gap nothing is held
  none_beyond : (ticks : List Tick) (n : ℕ) → length ticks ≤ n → (get_or ticks n no_tick).before ≡ None
  none_beyond [] n l = refl
  none_beyond (s ∷ ticks) zero l = absurd (omega arith)
  none_beyond (s ∷ ticks) (suc n) l = none_beyond ticks n (omega arith)

  none_off : (z : ℤ) → is_below (length own_ticks) z ≡ false → part_at ps z ≡ None
  none_off (pos n) off = none_beyond own_ticks n (ltb-false n (length own_ticks) off)
  none_off (negsuc n) off = refl

  none_along_y : (x z : Option Part) → block_where ps x None z ≡ None
  none_along_y None z = refl
  none_along_y (Some x) z = refl

  none_along_z : (x y : Option Part) → block_where ps x y None ≡ None
  none_along_z None y = refl
  none_along_z (Some x) None = refl
  none_along_z (Some x) (Some y) = refl

  -- where a cell lies, the list has what is told
  within_told : (x y z : ℤ) → is_below (length own_ticks) x ≡ true → is_below (length own_ticks) y ≡ true → is_below (length own_ticks) z ≡ true
      → get_or (blocks_in_row ps own_ticks) ((place_of_number z * length own_ticks + place_of_number y) * length own_ticks + place_of_number x) None
      ≡ block_where ps (part_at ps x) (part_at ps y) (part_at ps z)
  within_told (pos i) (pos j) (pos k) in_x in_y in_z =
      block_before_ticks ps own_ticks i j k (ltb-true i (length own_ticks) in_x) (ltb-true j (length own_ticks) in_y) (ltb-true k (length own_ticks) in_z)
  within_told (negsuc i) y z in_x in_y in_z = absurd (false≢true in_x)
  within_told (pos i) (negsuc j) z in_x in_y in_z = absurd (false≢true in_y)
  within_told (pos i) (pos j) (negsuc k) in_x in_y in_z = absurd (false≢true in_z)

  pub block_is_told : (c : Cell) → block_at b c ≡ block_told c
  block_is_told c =
      (λ t. if is_below (sized X t) c.x && (is_below (sized Y t) c.y && is_below (sized Z t) c.z)
      then get_or (numbers t) ((place_of_number c.z * sized Y t + place_of_number c.y) * sized X t + place_of_number c.x) None else None)
      ∙ by (is_below (length own_ticks) c.x) (is_below (length own_ticks) c.y) (is_below (length own_ticks) c.z) refl refl refl
    where
      listed : Option ℕ
      listed = get_or (blocks_in_row ps own_ticks) ((place_of_number c.z * length own_ticks + place_of_number c.y) * length own_ticks + place_of_number c.x) None

      by : (p q r : Bool) → is_below (length own_ticks) c.x ≡ p → is_below (length own_ticks) c.y ≡ q → is_below (length own_ticks) c.z ≡ r
          → (if is_below (length own_ticks) c.x && (is_below (length own_ticks) c.y && is_below (length own_ticks) c.z) then listed else None) ≡ block_told c
      by true true true e f g = (λ t. if e t && (f t && g t) then listed else None) ∙ within_told c.x c.y c.z e f g
      by false q r e f g =
          (λ t. if e t && (is_below (length own_ticks) c.y && is_below (length own_ticks) c.z) then listed else None)
          ∙ sym (λ t. block_where ps (none_off c.x e t) (part_at ps c.y) (part_at ps c.z))
      by true false r e f g =
          (λ t. if e t && (f t && is_below (length own_ticks) c.z) then listed else None)
          ∙ sym ((λ t. block_where ps (part_at ps c.x) (none_off c.y f t) (part_at ps c.z)) ∙ none_along_y (part_at ps c.x) (part_at ps c.z))
      by true true false e f g =
          (λ t. if e t && (f t && g t) then listed else None)
          ∙ sym ((λ t. block_where ps (part_at ps c.x) (part_at ps c.y) (none_off c.z g t)) ∙ none_along_z (part_at ps c.x) (part_at ps c.y))

-- ---- the blocks of one cube

-- where the three gaps hold parts of one cube, it is a block of that cube
pub block_of_cubelet : (ps : List Cube) (p : Cube) (s : Cubelet) (x y z : Option Part)
    → x ≡ Some (record { cube = p; place = s.x }) → y ≡ Some (record { cube = p; place = s.y }) → z ≡ Some (record { cube = p; place = s.z })
    → block_where ps x y z ≡ Some (blocks_before ps p.origin + cubelet_block p.kind s)
block_of_cubelet ps p s x y z at_x at_y at_z = (λ t. block_where ps (at_x t) (at_y t) (at_z t)) ∙ by (eqb_tells p.origin p.origin)
  where
    by : ((p.origin == p.origin) ≡ true) × (p.origin ≡ p.origin) ⊎ ((p.origin == p.origin) ≡ false) × (p.origin ≢ p.origin)
        → part_block ps (record { cube = p; place = s.x }) (record { cube = p; place = s.y }) (record { cube = p; place = s.z })
        ≡ Some (blocks_before ps p.origin + cubelet_block p.kind s)
    by (inl e) = λ t. if e.0 t && e.0 t then Some (blocks_before ps p.origin + cubelet_block p.kind s) else None
    by (inr e) = absurd (e.1 refl)

-- a gap holds a part of a cube that begins at this origin
abbrev BeginsAt : ℕ → Option Part → Type 0
BeginsAt origin None = ⊥
BeginsAt origin (Some w) = w.cube.origin ≡ origin

-- a cell with a block lies in one cube along all axes
none_or_one : (ps : List Cube) (x y z : Option Part)
    → (block_where ps x y z ≡ None) ⊎ ((origin : ℕ) × BeginsAt origin x × BeginsAt origin y × BeginsAt origin z)
none_or_one ps None y z = inl refl
none_or_one ps (Some x) None z = inl refl
none_or_one ps (Some x) (Some y) None = inl refl
none_or_one ps (Some x) (Some y) (Some z) = by (eqb_tells x.cube.origin y.cube.origin) (eqb_tells y.cube.origin z.cube.origin)
  where
    block : Option ℕ
    block = Some (blocks_before ps x.cube.origin + cubelet_block x.cube.kind (record { x = x.place; y = y.place; z = z.place }))

    by : ((x.cube.origin == y.cube.origin) ≡ true) × (x.cube.origin ≡ y.cube.origin) ⊎ ((x.cube.origin == y.cube.origin) ≡ false) × (x.cube.origin ≢ y.cube.origin)
        → ((y.cube.origin == z.cube.origin) ≡ true) × (y.cube.origin ≡ z.cube.origin) ⊎ ((y.cube.origin == z.cube.origin) ≡ false) × (y.cube.origin ≢ z.cube.origin)
        → (part_block ps x y z ≡ None)
        ⊎ ((origin : ℕ) × BeginsAt origin (Some x) × BeginsAt origin (Some y) × BeginsAt origin (Some z))
    by (inr e) f = inl (λ t. if e.0 t && (y.cube.origin == z.cube.origin) then block else None)
    by (inl e) (inr f) = inl (λ t. if e.0 t && f.0 t then block else None)
    by (inl e) (inl f) = inr (x.cube.origin, refl, sym e.1, sym f.1 ∙ sym e.1)

-- so it has none where it lies in a part of a cube along one axis, and in no part of it along another
pub no_block_between : (ps : List Cube) (p : Cube) (parts : Axis → Option Part) (a b : Axis) (place : ℕ)
    → parts a ≡ Some (record { cube = p; place = place }) → IsOff p (parts b) → block_where ps (parts X) (parts Y) (parts Z) ≡ None
no_block_between ps p parts a b place is off =
    ⊎_elim {C = block_where ps (parts X) (parts Y) (parts Z) ≡ None} (λ e. e) (λ one. absurd (apart one)) (none_or_one ps (parts X) (parts Y) (parts Z))
  where
    elsewhere : (origin : ℕ) (part : Option Part) → p.origin ≡ origin → BeginsAt origin part → IsOff p part → ⊥
    elsewhere origin None e at off = at
    elsewhere origin (Some w) e at off = off (at ∙ sym e)

    apart : (origin : ℕ) × BeginsAt origin (parts X) × BeginsAt origin (parts Y) × BeginsAt origin (parts Z) → ⊥
    apart (origin, x, y, z) = elsewhere origin (parts b) (subst (BeginsAt origin) is (each a)) (each b) off
      where
        each : (axis : Axis) → BeginsAt origin (parts axis)
        each X = x
        each Y = y
        each Z = z

-- ---- how many blocks stand before a cube

pub sum_with : (p : Cube) (ps : List Cube) → row_block_count (p ∷ ps) ≡ block_count p.kind + row_block_count ps
sum_with p ps = sum_by-cons (λ n. n) (block_count p.kind) (map (λ (q : Cube). block_count q.kind) ps)

abbrev counted_if : Bool → Cube → ℕ
counted_if b p = if b then block_count p.kind else 0

none_before : (ps : List Cube) (origin : ℕ) → Each (λ p. origin ≤ p.origin) ps → blocks_before ps origin ≡ 0
none_before [] origin later = refl
none_before (p ∷ ps) origin later =
    let off = le-ltb p.origin origin later.0 in
    (λ t. counted_if (off t) p + blocks_before ps origin) ∙ omega (arith, none_before ps origin later.1)

-- of those that the cubes of a row have, the ones before a cube are those of the cubes before it
pub blocks_before_are : (before : List Cube) (p : Cube) (behind : List Cube) → IsRow (before ++ p ∷ behind)
    → blocks_before (before ++ p ∷ behind) p.origin ≡ row_block_count before
blocks_before_are [] p behind row =
    none_before (p ∷ behind) p.origin (omega arith, each-weaker (EndsBefore p) (λ q. p.origin ≤ q.origin) behind (λ q l. omega arith) row.ordered.0)
blocks_before_are (q ∷ before) p behind row =
    let first = each-at (EndsBefore q) (before ++ p ∷ behind) p row.ordered.0 (member-append_right before (p ∷ behind) p (inl refl)) in
    let on = lt-ltb q.origin p.origin (omega (arith, first)) in
    (λ t. counted_if (on t) q + blocks_before (before ++ p ∷ behind) p.origin)
    ∙ ap (λ n. block_count q.kind + n) (blocks_before_are before p behind (row_behind q (before ++ p ∷ behind) row))
    ∙ sym (sum_with q before)
