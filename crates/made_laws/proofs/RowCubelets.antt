-- The cells of a row of cubes, counted by the numbers of the gaps between its ticks: whether one is full, and its block, by the
-- cube in which it lies along all three axes, if there is one.
use Rattle.std.proofs.Common.{◌≡◌, ◌⊎◌, ⊎_elim, inl, inr, Bool, true, false, not, ◌&&◌, ◌==◌, ℕ, suc, ◌+◌, ◌-◌, ◌<◌, ◌≤◌, List, Option, Some, None, ℤ, pos, negsuc, ◌-ℤ◌, ◌≤ℤ◌, ◌<ℤ◌, if◌then◌else◌, refl, ap, sym, subst, ◌∙◌, arith}
use Rattle.std.proofs.Math.Bool.{and-false}
use Rattle.std.proofs.lemmas.Bool.{false≢true, or_cases}
use Rattle.std.proofs.lemmas.Bool.Decides.{eqb_tells}
use Rattle.std.proofs.lemmas.Int.{ints}
use Rattle.std.proofs.lemmas.Option.{none-some, same_Some}
use Rattle.solid_model.specs.declared.cell.Axis.{Axis}
use Rattle.solid_model.specs.declared.cell.Axis.TheVariants.{X, Y, Z}
use Rattle.solid_model.specs.declared.cell.Cell.{Cell}
use Rattle.solid_model.specs.Cells.{coordinate}
use Rattle.lemmas.specs.Lists.{Member}
use Rattle.solid_model.specs.WalledBoxes.{place_of_number}
use Rattle.lemmas.proofs.Lists.{ascends-members}
use Rattle.drawing_maker.specs.declared.cube.Kind.{Kind}
use Rattle.drawing_maker.specs.declared.cube.Kind.TheVariants.{UnitCube, HollowCube, EightVoids}
use Rattle.drawing_maker.specs.declared.cube.Cube.{Cube}
use Rattle.drawing_maker.specs.declared.ticks.Part.{Part}
use Rattle.drawing_maker.specs.Cubes.{Cubelet, cube_side, is_odd_place, is_void}
use Rattle.made_laws.specs.RowBlocks.{cubelet_block, blocks_before, block_where}
use Rattle.drawing_maker.specs.Rows.{is_full_where}
use Rattle.drawing_maker.proofs.Rows.{EndsBefore, IsRow, one_origin}
use Rattle.drawing_maker.proofs.RowTicks.{part_at}
use Rattle.made_laws.proofs.RowPlaces.{tick_count, first_place, part_there, which_part, ends_before}

-- ---- voids by their places

-- the places along each axis at which a kind has voids
abbrev pub hole : Kind → ℕ → Bool
hole UnitCube k = false
hole HollowCube k = k == 1
hole EightVoids k = is_odd_place k

-- a void has such a place along each axis
pub void_is : (kind : Kind) (s : Cubelet) → is_void kind s ≡ (hole kind s.x && (hole kind s.y && hole kind s.z))
void_is UnitCube s = refl
void_is HollowCube s = refl
void_is EightVoids s = refl

-- such a place is neither the first nor the last one, nor does the next one have voids
pub record IsInner (kind : Kind) (k : ℕ) : Type 0 where
  pub behind_first : 0 < k
  pub before_last : suc k < cube_side kind
  pub next : hole kind (suc k) ≡ false

pub hole_is_inner : (kind : Kind) (k : ℕ) → hole kind k ≡ true → IsInner kind k
hole_is_inner UnitCube k e = absurd (false≢true e)
hole_is_inner HollowCube k e =
    let one : k ≡ 1 = grind (arith, e) in
    subst (IsInner HollowCube) (sym one) (record { behind_first = omega arith; before_last = omega arith; next = refl })
hole_is_inner EightVoids k e = ⊎_elim {C = IsInner EightVoids k}
    (λ f. let one : k ≡ 1 = grind (arith, f) in
    subst (IsInner EightVoids) (sym one) (record { behind_first = omega arith; before_last = omega arith; next = refl }))
    (λ f. let three : k ≡ 3 = grind (arith, f) in
    subst (IsInner EightVoids) (sym three) (record { behind_first = omega arith; before_last = omega arith; next = refl }))
    (or_cases (k == 1) (k == 3) e)

-- so the first place has none
pub no_hole_first : (kind : Kind) → hole kind 0 ≡ false
no_hole_first UnitCube = refl
no_hole_first HollowCube = refl
no_hole_first EightVoids = refl

-- ---- cubes along an axis

module _ (ps : List Cube) (row : IsRow ps) where
  -- the number lies among those of the cube's parts
  pub record Covers (p : Cube) (z : ℤ) : Type 0 where
    pub member : Member ps p
    pub from : pos (first_place ps p) ≤ℤ z
    pub to : z <ℤ pos (first_place ps p + cube_side p.kind)

  -- which of its places that is
  abbrev pub place_in : Cube → ℤ → ℕ
  place_in p z = place_of_number z - first_place ps p

  pub place_is : (p : Cube) (z : ℤ) → Covers p z → z ≡ pos (first_place ps p + place_in p z)
  place_is p (pos k) at = let l = at.from in let m : first_place ps p ≤ k = omega (arith, ints, l) in ap pos (omega (arith, m))
  place_is p (negsuc k) at = absurd (let l = at.from in omega (arith, ints, l))

  pub place_less : (p : Cube) (z : ℤ) → Covers p z → place_in p z < cube_side p.kind
  place_less p z at = let e = place_is p z at in omega (arith, ints, e, at.to)

  -- it tells which part lies there,
  pub part_of_covered : (p : Cube) (z : ℤ) → Covers p z → part_at ps z ≡ Some (record { cube = p; place = place_in p z })
  part_of_covered p z at = ap (part_at ps) (place_is p z at) ∙ part_there ps row p at.member (place_in p z) (place_less p z at)

  -- and where no cube lies there is none
  pub covered_or_none : (z : ℤ) → ((p : Cube) × Covers p z) ⊎ ((part_at ps z ≡ None) × ((p : Cube) → Covers p z → ⊥))
  covered_or_none (negsuc k) = inr (refl, λ p at. let l = at.from in omega (arith, ints, l))
  covered_or_none (pos k) = by (part_at ps (pos k)) refl
    where
      by : (w : Option Part) → part_at ps (pos k) ≡ w
          → ((p : Cube) × Covers p (pos k)) ⊎ ((part_at ps (pos k) ≡ None) × ((p : Cube) → Covers p (pos k) → ⊥))
      by None e = inr (e, λ p at. none-some _ (sym e ∙ part_of_covered p (pos k) at))
      by (Some w) e =
          let at = which_part ps row k w e in
          inl (w.cube, record { member = at.member; from = (let f = at.at in omega (arith, ints, f)); to = (let f = at.at in let l = at.less in omega (arith, ints, f, l)) })

  -- no two cubes lie there
  pub one_covers : (p q : Cube) (z : ℤ) → Covers p z → Covers q z → p ≡ q
  one_covers p q z at too = ap (λ (w : Part). w.cube) (same_Some _ _ (sym (part_of_covered p z at) ∙ part_of_covered q z too))

  -- of two cubes one lies before the other
  pub one_or_apart : (p q : Cube) → Member ps p → Member ps q
      → (p ≡ q) ⊎ (((p.origin < q.origin) × (first_place ps p + tick_count p.kind ≤ first_place ps q))
      ⊎ ((q.origin < p.origin) × (first_place ps q + tick_count q.kind ≤ first_place ps p)))
  one_or_apart p q k m = by (ascends-members EndsBefore ps p q row.ordered k m)
    where
      by : (p ≡ q) ⊎ (EndsBefore p q ⊎ EndsBefore q p) → (p ≡ q) ⊎ (((p.origin < q.origin) × (first_place ps p + tick_count p.kind ≤ first_place ps q))
          ⊎ ((q.origin < p.origin) × (first_place ps q + tick_count q.kind ≤ first_place ps p)))
      by (inl e) = inl e
      by (inr (inl l)) = let less : p.origin < q.origin = omega arith in inr (inl (less, ends_before tick_count ps row p q k m less))
      by (inr (inr l)) = let less : q.origin < p.origin = omega arith in inr (inr (less, ends_before tick_count ps row q p m k less))

  -- neighbouring numbers aren't those of two cubes, since a gap lies between the two
  pub one_covers_next : (p q : Cube) (z : ℤ) → Covers p (z -ℤ pos 1) → Covers q z → p ≡ q
  one_covers_next p q z at too = ⊎_elim (λ e. e)
      (λ apart. absurd (⊎_elim {C = ⊥} (λ h. omega (arith, ints, at.to, too.from, h.1)) (λ h. omega (arith, ints, at.from, too.to, h.1)) apart))
      (one_or_apart p q at.member too.member)

  -- ---- cells

  -- the cell lies in the cube along each axis
  abbrev pub IsIn : Cube → Cell → Type 0
  IsIn p u = (a : Axis) → Covers p (coordinate a u)

  -- its cubelet there
  abbrev pub cubelet_in : Cube → Cell → Cubelet
  cubelet_in p u = record { x = place_in p u.x; y = place_in p u.y; z = place_in p u.z }

  -- no cube lies at both numbers
  abbrev pub Apart : ℤ → ℤ → Type 0
  Apart z w = (p : Cube) → Covers p z → Covers p w → ⊥

  -- the cell lies in no cube along all axes: along x and y it doesn't lie in one, or along y and z
  abbrev pub IsOff : Cell → Type 0
  IsOff u = Apart u.x u.y ⊎ Apart u.y u.z

  pub in_or_apart : (z w : ℤ) → ((p : Cube) × Covers p z × Covers p w) ⊎ Apart z w
  in_or_apart z w = by (covered_or_none z) (covered_or_none w)
    where
      by : ((p : Cube) × Covers p z) ⊎ ((part_at ps z ≡ None) × ((p : Cube) → Covers p z → ⊥))
          → ((p : Cube) × Covers p w) ⊎ ((part_at ps w ≡ None) × ((p : Cube) → Covers p w → ⊥))
          → ((p : Cube) × Covers p z × Covers p w) ⊎ Apart z w
      by (inr none) h = inr (λ p at too. none.1 p at)
      by (inl at) (inr none) = inr (λ p at too. none.1 p too)
      by (inl (p, at)) (inl (q, too)) = ⊎_elim {C = ((r : Cube) × Covers r z × Covers r w) ⊎ Apart z w}
          (λ e. inl (p, at, subst (λ r. Covers r w) (sym e) too))
          (λ apart. inr (λ r k l.
          let e = ap (λ (s : Cube). s.origin) (sym (one_covers p r z at k)) in
          let f = ap (λ (s : Cube). s.origin) (one_covers q r w too l) in
          ⊎_elim {C = ⊥} (λ h. omega (arith, e, f, h.0)) (λ h. omega (arith, e, f, h.0)) apart))
          (one_or_apart p q at.member too.member)

  pub in_or_off : (u : Cell) → ((p : Cube) × IsIn p u) ⊎ IsOff u
  in_or_off u = by (in_or_apart u.x u.y) (in_or_apart u.y u.z)
    where
      by : ((p : Cube) × Covers p u.x × Covers p u.y) ⊎ Apart u.x u.y → ((p : Cube) × Covers p u.y × Covers p u.z) ⊎ Apart u.y u.z → ((p : Cube) × IsIn p u) ⊎ IsOff u
      by (inr apart) h = inr (inl apart)
      by (inl at) (inr apart) = inr (inr apart)
      by (inl (p, at_x, at_y)) (inl (q, too_y, too_z)) = inl (p, inside)
        where
          inside : IsIn p u
          inside X = at_x
          inside Y = at_y
          inside Z = subst (λ r. Covers r u.z) (one_covers q p u.y too_y at_y) too_z

  pub not_both : (p : Cube) (u : Cell) → IsIn p u → IsOff u → ⊥
  not_both p u inside (inl apart) = apart p (inside X) (inside Y)
  not_both p u inside (inr apart) = apart p (inside Y) (inside Z)

  -- ---- full cells and blocks

  pub full_at : Cell → Bool
  full_at u = is_full_where (part_at ps u.x) (part_at ps u.y) (part_at ps u.z)

  pub block_of : Cell → Option ℕ
  block_of u = block_where ps (part_at ps u.x) (part_at ps u.y) (part_at ps u.z)

  pub full_at_is : (u : Cell) → full_at u ≡ is_full_where (part_at ps u.x) (part_at ps u.y) (part_at ps u.z)
  unfolding full_at
  full_at_is u = refl

  pub block_of_is : (u : Cell) → block_of u ≡ block_where ps (part_at ps u.x) (part_at ps u.y) (part_at ps u.z)
  unfolding block_of
  block_of_is u = refl

  one_origin_twice : (o : ℕ) → (o == o) ≡ true
  one_origin_twice o = grind arith

  -- in a cube the cubelet tells them,
  pub full_in : (p : Cube) (u : Cell) → IsIn p u → full_at u ≡ not (is_void p.kind (cubelet_in p u))
  unfolding full_at
  full_in p u inside =
      (λ t. is_full_where (part_of_covered p u.x (inside X) t) (part_of_covered p u.y (inside Y) t) (part_of_covered p u.z (inside Z) t))
      ∙ ap (λ b. b && (b && not (is_void p.kind (cubelet_in p u)))) (one_origin_twice p.origin)

  pub block_in : (p : Cube) (u : Cell) → IsIn p u → block_of u ≡ Some (blocks_before ps p.origin + cubelet_block p.kind (cubelet_in p u))
  unfolding block_of
  block_in p u inside =
      (λ t. block_where ps (part_of_covered p u.x (inside X) t) (part_of_covered p u.y (inside Y) t) (part_of_covered p u.z (inside Z) t))
      ∙ ap (λ b. if b && b then Some (blocks_before ps p.origin + cubelet_block p.kind (cubelet_in p u)) else None) (one_origin_twice p.origin)

  -- and elsewhere there is nothing
  differ_where_apart : (z w : ℤ) (u v : Part) → Apart z w → part_at ps z ≡ Some u → part_at ps w ≡ Some v → (u.cube.origin == v.cube.origin) ≡ false
  differ_where_apart z w u v apart e f = by (covered_or_none z) (covered_or_none w)
    where
      by : ((p : Cube) × Covers p z) ⊎ ((part_at ps z ≡ None) × ((p : Cube) → Covers p z → ⊥))
          → ((p : Cube) × Covers p w) ⊎ ((part_at ps w ≡ None) × ((p : Cube) → Covers p w → ⊥)) → (u.cube.origin == v.cube.origin) ≡ false
      by (inr none) h = absurd (none-some u (sym none.0 ∙ e))
      by (inl at) (inr none) = absurd (none-some v (sym none.0 ∙ f))
      by (inl (p, at)) (inl (q, too)) =
          let first : p ≡ u.cube = ap (λ (x : Part). x.cube) (same_Some _ _ (sym (part_of_covered p z at) ∙ e)) in
          let second : q ≡ v.cube = ap (λ (x : Part). x.cube) (same_Some _ _ (sym (part_of_covered q w too) ∙ f)) in
          ⊎_elim (λ same. absurd (apart p at (subst (λ r. Covers r w)
          (sym (one_origin ps row p q at.member too.member (ap (λ (r : Cube). r.origin) first ∙ same.1 ∙ ap (λ (r : Cube). r.origin) (sym second)))) too)))
          (λ other. other.0) (eqb_tells u.cube.origin v.cube.origin)

  nothing_off : (u : Cell) → IsOff u → (x y z : Option Part) → part_at ps u.x ≡ x → part_at ps u.y ≡ y → part_at ps u.z ≡ z
      → (is_full_where x y z ≡ false) × (block_where ps x y z ≡ None)
  nothing_off u off None y z e f h = (refl, refl)
  nothing_off u off (Some a) None z e f h = (refl, refl)
  nothing_off u off (Some a) (Some b) None e f h = (refl, refl)
  nothing_off u (inl apart) (Some a) (Some b) (Some c) e f h =
      let no = differ_where_apart u.x u.y a b apart e f in (
        ap (λ t. t && ((b.cube.origin == c.cube.origin) && not (is_void a.cube.kind (record { x = a.place; y = b.place; z = c.place })))) no,
        ap (λ t. if t && (b.cube.origin == c.cube.origin) then Some (blocks_before ps a.cube.origin
            + cubelet_block a.cube.kind (record { x = a.place; y = b.place; z = c.place })) else None) no,
      )
  nothing_off u (inr apart) (Some a) (Some b) (Some c) e f h =
      let no = differ_where_apart u.y u.z b c apart f h in (
        ap (λ t. (a.cube.origin == b.cube.origin) && (t && not (is_void a.cube.kind (record { x = a.place; y = b.place; z = c.place })))) no
            ∙ and-false (a.cube.origin == b.cube.origin),
        ap (λ t. if (a.cube.origin == b.cube.origin) && t then Some (blocks_before ps a.cube.origin
            + cubelet_block a.cube.kind (record { x = a.place; y = b.place; z = c.place })) else None) no
            ∙ ap (λ t. if t then Some (blocks_before ps a.cube.origin
            + cubelet_block a.cube.kind (record { x = a.place; y = b.place; z = c.place })) else None) (and-false (a.cube.origin == b.cube.origin)),
      )

  pub full_off : (u : Cell) → IsOff u → full_at u ≡ false
  unfolding full_at
  full_off u off = (nothing_off u off _ _ _ refl refl refl).0

  pub block_off : (u : Cell) → IsOff u → block_of u ≡ None
  unfolding block_of
  block_off u off = (nothing_off u off _ _ _ refl refl refl).1
