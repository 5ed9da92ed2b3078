-- Where the cubes of a row stand among its parts, counted by number along an axis, and where their blocks begin: each where
-- those before it end, so that what two cubes have doesn't overlap.
use Rattle.std.proofs.Common.{◌≡◌, inl, inr, true, false, nat_lt, ℕ, suc, ◌+◌, ◌-◌, ◌<◌, ◌≤◌, List, [], ◌∷◌, ◌++◌, map, drop, get_or, Some, None, if◌then◌else◌, refl, ap, sym, subst, ◌∙◌, arith}
use Rattle.std.specs.List.{range_with_len}
use Rattle.std.proofs.lemmas.Bool.{cases_lt}
use Rattle.std.proofs.lemmas.List.{get_or_append_left, get_or-append-add}
use Rattle.std.proofs.lemmas.List.FromFn.{get_or-map-range_with_len, length-map-range_with_len}
use Rattle.std.proofs.lemmas.List.Sums.{sum-map, sum_by-cons}
use Rattle.std.proofs.lemmas.Option.{none-some, same_Some}
use Rattle.lemmas.specs.Lists.{Member, Each}
use Rattle.lemmas.proofs.Lists.{each-at, each-weaker}
use Rattle.drawing_maker.specs.declared.cube.Kind.{Kind}
use Rattle.drawing_maker.specs.declared.cube.Cube.{Cube}
use Rattle.drawing_maker.specs.declared.ticks.Part.{Part}
use Rattle.drawing_maker.specs.declared.ticks.Tick.{Tick}
use Rattle.drawing_maker.specs.Cubes.{cube_side}
use Rattle.made_laws.specs.RowBlocks.{block_count, blocks_before, row_block_count}
use Rattle.drawing_maker.specs.Rows.{tick_after, row_ticks}
use Rattle.drawing_maker.proofs.Rows.{EndsBefore, IsRow, row_behind}
use Rattle.drawing_maker.proofs.RowTicks.{before_at, no_tick}

-- ---- sums over the cubes that begin before a coordinate

-- a number for each kind, over the cubes of a row that begin before a coordinate
abbrev pub sum_before : (Kind → ℕ) → List Cube → ℕ → ℕ
sum_before w [] origin = 0
sum_before w (p ∷ ps) origin = (if nat_lt p.origin origin then w p.kind else 0) + sum_before w ps origin

-- and over all of them
abbrev pub sum_all : (Kind → ℕ) → List Cube → ℕ
sum_all w [] = 0
sum_all w (p ∷ ps) = w p.kind + sum_all w ps

module _ (w : Kind → ℕ) where
  counted_first : (q : Cube) (ps : List Cube) (o : ℕ) → q.origin < o → sum_before w (q ∷ ps) o ≡ w q.kind + sum_before w ps o
  counted_first q ps o l =
      let yes : nat_lt q.origin o ≡ true = grind (arith, l) in ap (λ b. (if b then w q.kind else 0) + sum_before w ps o) yes

  not_counted : (q : Cube) (ps : List Cube) (o : ℕ) → o ≤ q.origin → sum_before w (q ∷ ps) o ≡ sum_before w ps o
  not_counted q ps o l =
      let no : nat_lt q.origin o ≡ false = grind (arith, l) in
      ap (λ b. (if b then w q.kind else 0) + sum_before w ps o) no ∙ omega arith

  none_before : (ps : List Cube) (o : ℕ) → Each (λ r. o ≤ r.origin) ps → sum_before w ps o ≡ 0
  none_before [] o h = refl
  none_before (q ∷ ps) o h = not_counted q ps o h.0 ∙ none_before ps o h.1

  -- before the first cube there is nothing
  pub first_at_zero : (q : Cube) (ps : List Cube) → IsRow (q ∷ ps) → sum_before w (q ∷ ps) q.origin ≡ 0
  first_at_zero q ps row = not_counted q ps q.origin (omega arith)
      ∙ none_before ps q.origin (each-weaker (EndsBefore q) (λ r. q.origin ≤ r.origin) ps (λ r l. omega arith) row.ordered.0)

  -- before a later one the first one counts
  pub later_counts_first : (q : Cube) (ps : List Cube) → IsRow (q ∷ ps) → (p : Cube) → Member ps p
      → sum_before w (q ∷ ps) p.origin ≡ w q.kind + sum_before w ps p.origin
  later_counts_first q ps row p k = let l = each-at (EndsBefore q) ps p row.ordered.0 k in counted_first q ps p.origin (omega arith)

  -- A cube ends where the next one begins, or before. By the places of the cubes in the list.
  pub ends_before : (ps : List Cube) → IsRow ps → (p q : Cube) → Member ps p → Member ps q → p.origin < q.origin
      → sum_before w ps p.origin + w p.kind ≤ sum_before w ps q.origin
  ends_before [] row p q k m l = absurd k
  ends_before (r ∷ ps) row p q (inl e) (inl f) l =
      let o = ap (λ (s : Cube). s.origin) (sym e ∙ f) in absurd (omega arith)
  ends_before (r ∷ ps) row p q (inl e) (inr m) l =
      subst (λ (s : Cube). sum_before w (r ∷ ps) s.origin + w s.kind ≤ sum_before w (r ∷ ps) q.origin) e
      (let none = first_at_zero r ps row in let own = later_counts_first r ps row q m in omega (arith, none, own))
  ends_before (r ∷ ps) row p q (inr k) (inl f) l =
      let o = ap (λ (s : Cube). s.origin) f in
      let behind = each-at (EndsBefore r) ps p row.ordered.0 k in absurd (omega arith)
  ends_before (r ∷ ps) row p q (inr k) (inr m) l =
      let rest = ends_before ps (row_behind r ps row) p q k m l in
      let one = later_counts_first r ps row p k in let other = later_counts_first r ps row q m in omega (arith, rest, one, other)

  -- and all end within the whole
  pub ends_within : (ps : List Cube) → IsRow ps → (p : Cube) → Member ps p → sum_before w ps p.origin + w p.kind ≤ sum_all w ps
  ends_within [] row p k = absurd k
  ends_within (r ∷ ps) row p (inl e) =
      subst (λ (s : Cube). sum_before w (r ∷ ps) s.origin + w s.kind ≤ sum_all w (r ∷ ps)) e
      (let none = first_at_zero r ps row in omega (arith, none))
  ends_within (r ∷ ps) row p (inr k) =
      let rest = ends_within ps (row_behind r ps row) p k in let one = later_counts_first r ps row p k in omega (arith, rest, one)

  -- what lies within the whole belongs to a cube
  pub record BelongsTo (ps : List Cube) (k : ℕ) : Type 0 where
    pub cube : Cube
    pub member : Member ps cube
    pub local : ℕ
    pub less : local < w cube.kind
    pub is : k ≡ sum_before w ps cube.origin + local

  pub belongs_to : (ps : List Cube) → IsRow ps → (k : ℕ) → k < sum_all w ps → BelongsTo ps k
  belongs_to [] row k l = absurd (omega arith)
  belongs_to (r ∷ ps) row k l = elim (cases_lt k (w r.kind)) as (λ _. BelongsTo (r ∷ ps) k) [
    | inl less ↦ record { cube = r; member = inl refl; local = k; less = less; is = (let none = first_at_zero r ps row in omega (arith, none)) }
    | inr most ↦ (let rest = belongs_to ps (row_behind r ps row) (k - w r.kind) (omega arith) in record {
      cube = rest.cube;
      member = inr rest.member;
      local = rest.local;
      less = rest.less;
      is = (let one = later_counts_first r ps row rest.cube rest.member in let f = rest.is in omega (arith, one, f, most));
    })
  ]

-- the blocks of a row are such sums
pub blocks-sum_before : (ps : List Cube) (o : ℕ) → blocks_before ps o ≡ sum_before block_count ps o
blocks-sum_before [] o = refl
blocks-sum_before (p ∷ ps) o = ap (λ n. (if nat_lt p.origin o then block_count p.kind else 0) + n) (blocks-sum_before ps o)

pub blocks-sum_all : (ps : List Cube) → row_block_count ps ≡ sum_all block_count ps
blocks-sum_all [] = refl
blocks-sum_all (p ∷ ps) =
    let count : Cube → ℕ = λ q. block_count q.kind in
    sum-map count (p ∷ ps) ∙ sum_by-cons count p ps ∙ ap (λ n. block_count p.kind + n) (sym (sum-map count ps) ∙ blocks-sum_all ps)

-- ---- parts by number

-- how many ticks a cube of a kind has
abbrev pub tick_count : Kind → ℕ
tick_count kind = suc (cube_side kind)

-- the number of a cube's first part
abbrev pub first_place : List Cube → Cube → ℕ
first_place ps p = sum_before tick_count ps p.origin

module _ (q : Cube) (ps : List Cube) where
  abbrev own_ticks : List Tick
  own_ticks = map (tick_after q) (range_with_len 0 (cube_side q.kind))

  -- first the parts of the first cube,
  before_own : (k : ℕ) → k < cube_side q.kind → before_at (row_ticks (q ∷ ps)) k ≡ Some (record { cube = q; place = k })
  before_own k l = ap (λ (s : Tick). s.before)
      (get_or_append_left own_ticks (row_ticks ps) no_tick k (let e = length-map-range_with_len (tick_after q) 0 (cube_side q.kind) in omega (arith, e))
      ∙ get_or-map-range_with_len (tick_after q) 0 (cube_side q.kind) k k no_tick l (omega arith))

  behind_own : (j : ℕ) → get_or (own_ticks ++ row_ticks ps) (cube_side q.kind + j) no_tick ≡ get_or (row_ticks ps) j no_tick
  behind_own j =
      let e = length-map-range_with_len (tick_after q) 0 (cube_side q.kind) in
      ap (λ n. get_or (own_ticks ++ row_ticks ps) (n + j) no_tick) (sym e) ∙ get_or-append-add own_ticks (row_ticks ps) j no_tick

  -- then nothing,
  before_next : before_at (row_ticks (q ∷ ps)) (cube_side q.kind) ≡ None
  before_next =
      let e : cube_side q.kind ≡ cube_side q.kind + 0 = omega arith in
      ap (λ n. (get_or (own_ticks ++ row_ticks ps) n no_tick).before) e ∙ ap (λ (s : Tick). s.before) (behind_own 0) ∙ first_of ps
    where
      first_of : (rs : List Cube) → (get_or (row_ticks rs) 0 no_tick).before ≡ None
      first_of [] = refl
      first_of (r ∷ rs) = refl

  -- and then those of the cubes behind it
  before_later : (j : ℕ) → before_at (row_ticks (q ∷ ps)) (tick_count q.kind + j) ≡ before_at (row_ticks ps) j
  before_later j =
      let e : tick_count q.kind + j ≡ cube_side q.kind + suc j = omega arith in
      ap (λ n. (get_or (own_ticks ++ row_ticks ps) n no_tick).before) e ∙ ap (λ (s : Tick). s.before) (behind_own (suc j) ∙ after_one (row_ticks ps))
    where
      after_one : (ss : List Tick) → get_or ss (suc j) no_tick ≡ get_or (drop 1 ss) j no_tick
      after_one [] = refl
      after_one (s ∷ ss) = refl

-- the part of a cube with this place stands at this number
pub part_there : (ps : List Cube) → IsRow ps → (p : Cube) → Member ps p → (i : ℕ) → i < cube_side p.kind
    → before_at (row_ticks ps) (first_place ps p + i) ≡ Some (record { cube = p; place = i })
part_there [] row p k i l = absurd k
part_there (q ∷ ps) row p (inl e) i l =
    subst (λ (r : Cube). i < cube_side r.kind → before_at (row_ticks (q ∷ ps)) (first_place (q ∷ ps) r + i) ≡ Some (record { cube = r; place = i })) e
    (λ m. let none = first_at_zero tick_count q ps row in
    let at : first_place (q ∷ ps) q + i ≡ i = omega (arith, none) in
    ap (before_at (row_ticks (q ∷ ps))) at ∙ before_own q ps i m) l
part_there (q ∷ ps) row p (inr k) i l =
    let own = later_counts_first tick_count q ps row p k in
    let at : first_place (q ∷ ps) p + i ≡ tick_count q.kind + (first_place ps p + i) = omega (arith, own) in
    ap (before_at (row_ticks (q ∷ ps))) at ∙ before_later q ps (first_place ps p + i) ∙ part_there ps (row_behind q ps row) p k i l

-- and no other does
pub record IsPartAt (ps : List Cube) (k : ℕ) (w : Part) : Type 0 where
  pub member : Member ps w.cube
  pub less : w.place < cube_side w.cube.kind
  pub at : k ≡ first_place ps w.cube + w.place

pub which_part : (ps : List Cube) → IsRow ps → (k : ℕ) (w : Part) → before_at (row_ticks ps) k ≡ Some w → IsPartAt ps k w
which_part [] row k w e = absurd (none-some w e)
which_part (q ∷ ps) row k w e = elim (cases_lt k (cube_side q.kind)) as (λ _. IsPartAt (q ∷ ps) k w) [
  | inl less ↦ (let same = same_Some (record { cube = q; place = k }) w (sym (before_own q ps k less) ∙ e) in
      subst (IsPartAt (q ∷ ps) k) same (record { member = inl refl; less = less; at = (let none = first_at_zero tick_count q ps row in omega (arith, none)) }))
  | inr most ↦ elim (cases_lt (cube_side q.kind) k) as (λ _. IsPartAt (q ∷ ps) k w) [
    | inl less ↦ (let there : k ≡ tick_count q.kind + (k - tick_count q.kind) = omega arith in
        let rest = which_part ps (row_behind q ps row) (k - tick_count q.kind) w
        (sym (before_later q ps (k - tick_count q.kind)) ∙ ap (before_at (row_ticks (q ∷ ps))) (sym there) ∙ e) in
        record {
          member = inr rest.member;
          less = rest.less;
          at = (let own = later_counts_first tick_count q ps row w.cube rest.member in let f = rest.at in omega (arith, own, f, there));
        })
    | inr least ↦ (let here : k ≡ cube_side q.kind = omega arith in
        absurd (none-some w (sym (before_next q ps) ∙ ap (before_at (row_ticks (q ∷ ps))) (sym here) ∙ e)))
  ]
]
