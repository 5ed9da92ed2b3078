-- The gaps of a row of cubes along an axis: where those of one cube stand, and which part each one holds.
use Rattle.std.proofs.Common.{◌≡◌, ◌≢◌, ◌⊎◌, ⊎_elim, inl, inr, ℕ, zero, suc, ◌+◌, ◌*◌, ◌<◌, ◌≤◌, List, [], ◌∷◌, ◌++◌, length, length-append, map, get_or, Option, Some, None, ℤ, pos, negsuc, refl, ap, sym, subst, ◌∙◌, arith}
use Rattle.std.specs.List.{range_with_len}
use Rattle.std.proofs.lemmas.Bool.Decides.{eqb_tells}
use Rattle.std.proofs.lemmas.Grind.{flat_map-append, get_or_after_one}
use Rattle.std.proofs.lemmas.List.{length-map, get_or-map, get_or_append_left, get_or-append-add}
use Rattle.std.proofs.lemmas.List.FromFn.{length-map-range_with_len}
use Rattle.lemmas.specs.Lists.{Member, Each}
use Rattle.solid_model.proofs.Gaps.{member}
use Rattle.lemmas.proofs.Lists.{member-append_right, member-from_map, each-from}
use Rattle.drawing_maker.specs.declared.cube.Cube.{Cube}
use Rattle.drawing_maker.specs.declared.ticks.Part.{Part}
use Rattle.drawing_maker.specs.declared.ticks.Tick.{Tick}
use Rattle.drawing_maker.specs.Cubes.{cube_side}
use Rattle.drawing_maker.specs.Rows.{first_tick, tick_after, cube_ticks, row_ticks, coordinates_of_ticks}
use Rattle.lemmas.proofs.Ranges.{member-from_range}
use Rattle.drawing_maker.proofs.Rows.{IsRow, one_origin}
use Rattle.drawing_maker.proofs.RowTicks.{no_tick, before_at, part_at, tick_in_row}

before_next : (ticks : List Tick) (n : ℕ) → before_at ticks n ≡ (get_or ticks (1 + n) no_tick).before
before_next ticks n = ap (λ (s : Tick). s.before) (get_or_after_one ticks n no_tick)

-- ---- the ticks of one cube

module _ (before : List Cube) (p : Cube) (behind : List Cube) where
  -- the row
  abbrev pub around : List Cube
  around = before ++ p ∷ behind

  pub is_member : Member around p
  is_member = member-append_right before (p ∷ behind) p (inl refl)

  -- how many ticks stand before the cube
  abbrev pub ticks_before : ℕ
  ticks_before = length (row_ticks before)

  abbrev later_ticks : List Tick
  later_ticks = map (tick_after p) (range_with_len 0 (cube_side p.kind)) ++ row_ticks behind

  ticks_split : row_ticks around ≡ row_ticks before ++ first_tick p ∷ later_ticks
  ticks_split = flat_map-append cube_ticks before (p ∷ behind)

  tick_from : (j : ℕ) → get_or (row_ticks around) (ticks_before + j) no_tick ≡ get_or (first_tick p ∷ later_ticks) j no_tick
  tick_from j = ap (λ ticks. get_or ticks (ticks_before + j) no_tick) ticks_split ∙ get_or-append-add (row_ticks before) (first_tick p ∷ later_ticks) j no_tick

  -- how many there are from the cube on
  pub long_enough : ticks_before + cube_side p.kind < length (row_ticks around)
  long_enough = omega (
    arith,
    ap length ticks_split,
    length-append (row_ticks before) (first_tick p ∷ later_ticks),
    length-append (map (tick_after p) (range_with_len 0 (cube_side p.kind))) (row_ticks behind),
    length-map-range_with_len (tick_after p) 0 (cube_side p.kind),
  )

  get_or-range : (n a k : ℕ) → k < n → get_or (range_with_len a n) k 0 ≡ a + k
  get_or-range zero a k l = absurd (omega arith)
  get_or-range (suc n) a zero l = omega arith
  get_or-range (suc n) a (suc k) l = omega (arith, get_or-range n (a + 1) k (omega arith))

  own_tick : (j : ℕ) → j < cube_side p.kind → get_or later_ticks j no_tick ≡ tick_after p j
  own_tick j l =
      let range = range_with_len 0 (cube_side p.kind) in
      let long = length-map-range_with_len (tick_after p) 0 (cube_side p.kind) in
      let also = length-map range (tick_after p) in
      get_or_append_left (map (tick_after p) range) (row_ticks behind) no_tick j (omega (arith, long))
      ∙ get_or-map (tick_after p) range j 0 no_tick (omega (arith, long, also))
      ∙ ap (tick_after p) (get_or-range (cube_side p.kind) 0 j l ∙ omega arith)

  -- the gap of each of its places holds that part,
  pub part_here : (j : ℕ) → j < cube_side p.kind → part_at around (pos (ticks_before + j)) ≡ Some (record { cube = p; place = j })
  part_here j l =
      let there : 1 + (ticks_before + j) ≡ ticks_before + suc j = omega arith in
      before_next (row_ticks around) (ticks_before + j)
      ∙ ap (λ n. (get_or (row_ticks around) n no_tick).before) there
      ∙ ap (λ (s : Tick). s.before) (tick_from (suc j) ∙ own_tick j l)

  -- and the one behind it holds nothing
  pub none_behind : part_at around (pos (ticks_before + cube_side p.kind)) ≡ None
  none_behind =
      let range = range_with_len 0 (cube_side p.kind) in
      let there : 1 + (ticks_before + cube_side p.kind) ≡ ticks_before + suc (length (map (tick_after p) range) + 0) =
      omega (arith, length-map-range_with_len (tick_after p) 0 (cube_side p.kind)) in
      before_next (row_ticks around) (ticks_before + cube_side p.kind)
      ∙ ap (λ n. (get_or (row_ticks around) n no_tick).before) there
      ∙ ap (λ (s : Tick). s.before) (tick_from (suc (length (map (tick_after p) range) + 0)) ∙ get_or-append-add (map (tick_after p) range) (row_ticks behind) 0 no_tick)
      ∙ starts behind
    where
      starts : (qs : List Cube) → (get_or (row_ticks qs) 0 no_tick).before ≡ None
      starts [] = refl
      starts (q ∷ qs) = refl

  -- the coordinate at which a place begins, or the cube ends
  pub coordinate_here : (j : ℕ) → j ≤ cube_side p.kind → member (coordinates_of_ticks (row_ticks around)) (ticks_before + j) ≡ pos (p.origin + p.scale * j)
  coordinate_here j l =
      get_or-map (λ (s : Tick). pos s.at) (row_ticks around) (ticks_before + j) no_tick (pos 0) (omega (arith, long_enough))
      ∙ ap (λ (s : Tick). pos s.at) (tick_from j) ∙ by j l
    where
      by : (j : ℕ) → j ≤ cube_side p.kind → pos (get_or (first_tick p ∷ later_ticks) j no_tick).at ≡ pos (p.origin + p.scale * j)
      by zero l = ap pos (omega arith)
      by (suc j) l = ap (λ (s : Tick). pos s.at) (own_tick j (omega arith)) ∙ ap pos (omega arith)

-- ---- what any gap holds

-- nothing, or a part of one of the cubes
abbrev IsPartOf : List Cube → Option Part → Type 0
IsPartOf ps None = Unit {0}
IsPartOf ps (Some w) = Member ps w.cube × (w.place < cube_side w.cube.kind)

each_get_or : {A : Type 0} (P : A → Type 0) (xs : List A) (n : ℕ) (d : A) → Each P xs → P d → P (get_or xs n d)
each_get_or P [] n d h k = k
each_get_or P (x ∷ xs) zero d h k = h.0
each_get_or P (x ∷ xs) (suc n) d h k = each_get_or P xs n d h.1 k

tick_holds_part : (ps : List Cube) (s : Tick) → Member (row_ticks ps) s → IsPartOf ps s.before
tick_holds_part ps s k = let (p, m, l) = tick_in_row ps s k in by p m l
  where
    by : (p : Cube) → Member ps p → Member (cube_ticks p) s → IsPartOf ps s.before
    by p m (inl e) = subst (λ (t : Tick). IsPartOf ps t.before) e tt
    by p m (inr l) =
        let from = member-from_map (tick_after p) (range_with_len 0 (cube_side p.kind)) s l in
        let r = member-from_range (cube_side p.kind) 0 from.0 from.1 in
        subst (λ (t : Tick). IsPartOf ps t.before) from.2 (m, omega (arith, r.1))

some_part : (ps : List Cube) (z : ℤ) → IsPartOf ps (part_at ps z)
some_part ps (pos n) = subst (IsPartOf ps) (sym (before_next (row_ticks ps) n))
    (each_get_or (λ s. IsPartOf ps s.before) (row_ticks ps) (1 + n) no_tick (each-from (λ s. IsPartOf ps s.before) (row_ticks ps) (tick_holds_part ps)) tt)
some_part ps (negsuc n) = tt

-- it holds no part of this cube
abbrev pub IsOff : Cube → Option Part → Type 0
IsOff p None = Unit {0}
IsOff p (Some w) = w.cube.origin ≢ p.origin

-- it holds one of its parts
pub record HoldsPart (p : Cube) (part : Option Part) : Type 0 where
  pub place : ℕ
  pub few : place < cube_side p.kind
  pub is : part ≡ Some (record { cube = p; place = place })

-- each gap holds a part of a cube of the row, or none of it
pub part_or_off : (ps : List Cube) → IsRow ps → (p : Cube) → Member ps p → (z : ℤ) → HoldsPart p (part_at ps z) ⊎ IsOff p (part_at ps z)
part_or_off ps row p k z = by (part_at ps z) (some_part ps z)
  where
    by : (part : Option Part) → IsPartOf ps part → HoldsPart p part ⊎ IsOff p part
    by None of = inr tt
    by (Some w) of = ⊎_elim {C = HoldsPart p (Some w) ⊎ IsOff p (Some w)}
        (λ e. let same = one_origin ps row w.cube p of.0 k e.1 in
        inl (record { place = w.place; few = subst (λ (q : Cube). w.place < cube_side q.kind) same of.1; is = λ t. Some (record { cube = same t; place = w.place }) }))
        (λ e. inr e.1) (eqb_tells w.cube.origin p.origin)
