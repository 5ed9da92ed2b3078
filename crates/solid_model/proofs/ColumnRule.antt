-- The column rule: the style of a segment by the two columns of cells beside it.
use Rattle.std.proofs.Common.{◌≡◌, ◌≢◌, ⊎_elim, Bool, true, false, not, ◌&&◌, ◌||◌, List, ℤ, pos, ◌-ℤ◌, ◌≤ℤ◌, ◌<ℤ◌, IsTrue, refl, ap, ap₂, sym, subst, ◌∙◌, arith}
use Rattle.std.specs.List.{list_any}
use Rattle.std.proofs.lemmas.Bool.{false≢true, both_ways, and_parts, or_cases, or_left, or_right, false_from_ne_true}
use Rattle.std.proofs.lemmas.Int.{ints, by_lt_z}
use Rattle.solid_model.specs.declared.cell.Cell.{Cell}
use Rattle.solid_model.specs.declared.frame.Frame.{Frame}
use Rattle.solid_model.specs.declared.segment.Segment.{Segment}
use Rattle.solid_model.specs.declared.segment.Style.{Style}
use Rattle.solid_model.specs.declared.segment.Style.TheVariants.{Blank, Dashed, Solid}
use Rattle.solid_model.specs.Cells.{is_full}
use Rattle.solid_model.specs.Columns.{column_after, column_before, IsFirstFull, HaveSameFirstFull, ColumnsDraw}
use Rattle.solid_model.specs.Draws.{has_edge, IsHidden, Draws}
use Rattle.solid_model.specs.DrawnStyle.{cell_depths}
use Rattle.lemmas.specs.Truth.{agree}
use Rattle.solid_model.specs.Edges.{is_edge_of}
use Rattle.solid_model.specs.Frames.{IsFrame}
use Rattle.lemmas.specs.Lists.{Member}
use Rattle.solid_model.specs.Segments.{line_of}
use Rattle.lemmas.proofs.Lists.{least_member}
use Rattle.solid_model.proofs.Styles.{passing_member, any_from_member, full_beside_edge, full_at_cell_depth}
use Rattle.solid_model.proofs.Views.{has_edge_is}

-- ---- the four cells round an edge

-- where the columns are equal there is no edge
no_edge_between : (x y : Bool) → is_edge_of x x y y ≡ false
no_edge_between true true = refl
no_edge_between true false = refl
no_edge_between false true = refl
no_edge_between false false = refl

-- where columns that were equal part, there is one
pub edge_where_parting : (x y z : Bool) → not (agree x y) ≡ true → is_edge_of x y z z ≡ true
edge_where_parting true true z e = absurd (false≢true e)
edge_where_parting true false true e = refl
edge_where_parting true false false e = refl
edge_where_parting false true true e = refl
edge_where_parting false true false e = refl
edge_where_parting false false z e = absurd (false≢true e)

-- where two truth values don't differ they are one
pub same_from_agree : (x y : Bool) → not (agree x y) ≡ false → x ≡ y
same_from_agree true true e = refl
same_from_agree true false e = absurd (false≢true (sym e))
same_from_agree false true e = absurd (false≢true (sym e))
same_from_agree false false e = refl

differ_from : (x y : Bool) → x ≢ y → not (agree x y) ≡ true
differ_from true true h = absurd (h refl)
differ_from true false h = refl
differ_from false true h = refl
differ_from false false h = absurd (h refl)

same_agree : (x y : Bool) → x ≡ y → not (agree x y) ≡ false
same_agree true true e = refl
same_agree true false e = absurd (false≢true (sym e))
same_agree false true e = absurd (false≢true e)
same_agree false false e = refl

-- of two that differ one is full
one_full : (x y : Bool) → not (agree x y) ≡ true → (x || y) ≡ true
one_full true y e = refl
one_full false true e = refl
one_full false false e = absurd (false≢true e)

-- columns that are equal draw nothing
pub equal_columns : (f : Frame) → IsFrame f → (full : Cell → Bool) (g : Segment)
    → ((k : ℤ) → column_after f full g k ≡ column_before f full g k) → Draws f full g Blank
equal_columns f is full g same k edge =
    both_ways (is_edge_of (column_after f full g k) (column_before f full g k) (column_after f full g (k -ℤ pos 1)) (column_before f full g (k -ℤ pos 1)))
    ((λ t. is_edge_of (column_after f full g k) (sym (same k) t) (column_after f full g (k -ℤ pos 1)) (sym (same (k -ℤ pos 1)) t))
    ∙ no_edge_between (column_after f full g k) (column_after f full g (k -ℤ pos 1)))
    (sym (has_edge_is f is full g k) ∙ edge)

-- a column has one first full depth
pub one_first : (column : ℤ → Bool) (k m : ℤ) → IsFirstFull column k → IsFirstFull column m → k ≡ m
one_first column k m first here = by_lt_z k m (λ l. absurd (both_ways (column k) (here.1 k l) first.0))
    (λ l. by_lt_z m k (λ l'. absurd (both_ways (column m) (first.1 m l') here.0)) (λ l'. omega (arith, ints)))

module _ (f : Frame) (is : IsFrame f) (s : List Cell) (g : Segment) where
  abbrev after : ℤ → Bool
  after = column_after f (is_full s) g

  abbrev before : ℤ → Bool
  before = column_before f (is_full s) g

  -- one of the two columns is full there
  abbrev either : ℤ → Bool
  either k = after k || before k

  -- a depth at which either is full is that of a cell
  either_at_cell : (k : ℤ) → either k ≡ true → Member (cell_depths f s) k
  either_at_cell k e = ⊎_elim {C = Member (cell_depths f s) k} (full_at_cell_depth f is s g (line_of g) k)
      (full_at_cell_depth f is s g (line_of g -ℤ pos 1) k) (or_cases (after k) (before k) e)

  -- the least depth that passes a test
  record IsLeastDepth (test : ℤ → Bool) (m : ℤ) : Type 0 where
    passes : test m ≡ true
    least : (k : ℤ) → test k ≡ true → m ≤ℤ k

  -- where only depths with a full cell pass, one of those that pass is least
  least_depth : (test : ℤ → Bool) → ((k : ℤ) → test k ≡ true → either k ≡ true) → (k : ℤ) → test k ≡ true → (m : ℤ) × IsLeastDepth test m
  least_depth test only k e =
      let m = least_member (λ n. n) test (cell_depths f s) k (either_at_cell k (only k e)) e in
      (m.0, record { passes = m.2; least = λ n h. m.3 n (either_at_cell n (only n h)) h })

  -- nothing passes before the least depth
  none_nearer : (test : ℤ → Bool) (m n : ℤ) → IsLeastDepth test m → n <ℤ m → test n ≡ false
  none_nearer test m n h l = false_from_ne_true (test n) (λ e. let least = h.least n e in omega (arith, ints))

  -- nearer than the first full depth of the two, both are empty
  after_empty : (m n : ℤ) → IsLeastDepth either m → n <ℤ m → after n ≡ false
  after_empty m n h l = false_from_ne_true (after n) (λ e. both_ways (either n) (none_nearer either m n h l) (or_left (after n) (before n) e))

  before_empty : (m n : ℤ) → IsLeastDepth either m → n <ℤ m → before n ≡ false
  before_empty m n h l = false_from_ne_true (before n) (λ e. both_ways (either n) (none_nearer either m n h l) (or_right (after n) (before n) e))

  edge_is : (k : ℤ) → has_edge f (is_full s) g k ≡ is_edge_of (after k) (before k) (after (k -ℤ pos 1)) (before (k -ℤ pos 1))
  edge_is = has_edge_is f is (is_full s) g

  -- where the columns differ, an edge stands at the least depth at which they do
  parting_edge : (k : ℤ) → after k ≢ before k → (m : ℤ) × IsTrue (has_edge f (is_full s) g m)
  parting_edge k differ =
      let test = λ (n : ℤ). not (agree (after n) (before n)) in
      let m = least_depth test (λ n. one_full (after n) (before n)) k (differ_from _ _ differ) in
      let equal = same_from_agree (after (m.0 -ℤ pos 1)) (before (m.0 -ℤ pos 1)) (none_nearer test m.0 (m.0 -ℤ pos 1) m.1 (omega (arith, ints))) in
      (m.0, edge_is m.0 ∙ (λ t. is_edge_of (after m.0) (before m.0) (after (m.0 -ℤ pos 1)) (sym equal t)) ∙ edge_where_parting (after m.0) (before m.0) (after (m.0 -ℤ pos 1)) m.1.passes)

  -- so beside a blank segment they are equal
  pub beside_blank : Draws f (is_full s) g Blank → (k : ℤ) → after k ≡ before k
  beside_blank blank k = same_from_agree (after k) (before k) (false_from_ne_true (not (agree (after k) (before k))) (λ e.
      let edge = parting_edge k (λ same. both_ways (not (agree (after k) (before k))) (same_agree (after k) (before k) same) e) in blank edge.0 edge.1))

  -- ---- columns with the same first full depth

  -- the first full depth of either is that of both
  both_full : HaveSameFirstFull after before → (m : ℤ) → IsLeastDepth either m → (after m ≡ true) × (before m ≡ true)
  both_full same m h = ⊎_elim {C = (after m ≡ true) × (before m ≡ true)}
      (λ e. (e, ((same m).0 (e, λ n l. after_empty m n h l)).0))
      (λ e. (((same m).1 (e, λ n l. before_empty m n h l)).0, e))
      (or_cases (after m) (before m) h.passes)

  -- so each edge is hidden: it lies farther than that depth
  hidden_behind : HaveSameFirstFull after before → (k : ℤ) → has_edge f (is_full s) g k ≡ true → IsHidden f (is_full s) g k
  hidden_behind same k edge = by (least_depth either (λ n e. e) some.0 some.2)
    where
      -- either column is full at k or just before
      some : (n : ℤ) × (n ≤ℤ k) × (either n ≡ true)
      some =
          let C : Type 0 = (n : ℤ) × (n ≤ℤ k) × (either n ≡ true) in
          ⊎_elim {C = C}
          (⊎_elim {C = C} (λ e. (k, omega (arith, ints), or_left (after k) (before k) e)) (λ e. (k, omega (arith, ints), or_right (after k) (before k) e)))
          (⊎_elim {C = C} (λ e. (k -ℤ pos 1, omega (arith, ints), or_left (after (k -ℤ pos 1)) (before (k -ℤ pos 1)) e))
          (λ e. (k -ℤ pos 1, omega (arith, ints), or_right (after (k -ℤ pos 1)) (before (k -ℤ pos 1)) e)))
          (full_beside_edge _ _ _ _ (sym (edge_is k) ∙ edge))

      -- at the first full depth itself the face is flat
      not_here : (m : ℤ) → IsLeastDepth either m → m ≡ k → ⊥
      not_here m h e =
          let full = both_full same m h in
          let l : (k -ℤ pos 1) <ℤ m = omega (arith, ints) in
          both_ways (is_edge_of (after k) (before k) (after (k -ℤ pos 1)) (before (k -ℤ pos 1)))
          (λ t. is_edge_of ((ap after (sym e) ∙ full.0) t) ((ap before (sym e) ∙ full.1) t) (after_empty m (k -ℤ pos 1) h l t) (before_empty m (k -ℤ pos 1) h l t))
          (sym (edge_is k) ∙ edge)

      by : (m : ℤ) × IsLeastDepth either m → IsHidden f (is_full s) g k
      by (m, h) =
          let full = both_full same m h in
          let reached = h.least some.0 some.2 in
          let near = some.1 in
          (m, by_lt_z m k (λ l. l) (λ l. absurd (not_here m h (omega (arith, ints)))), (λ t. full.0 t && full.1 t))

  -- columns that differ, with the same first full depth
  pub same_first : (k : ℤ) → after k ≢ before k → HaveSameFirstFull after before → Draws f (is_full s) g Dashed
  same_first k differ same = (parting_edge k differ, hidden_behind same)

  -- ---- columns with different first full depths

  -- a first full depth is no farther than any full depth
  first_is : (column : ℤ → Bool) (k m : ℤ) → IsFirstFull column k → column m ≡ true → k ≤ℤ m
  first_is column k m h e = by_lt_z m k (λ l. absurd (both_ways (column m) (h.1 m l) e)) (λ l. l)

  -- where both are full at the first depth of either, that is the first full depth of both
  same_where_both : (m : ℤ) → IsLeastDepth either m → after m ≡ true → before m ≡ true → HaveSameFirstFull after before
  same_where_both m h p q = λ k. (
    (λ first. subst (IsFirstFull before) (at k first.0 (first_is after k m first p)) (q, λ n l. before_empty m n h l)),
    (λ first. subst (IsFirstFull after) (at_before k first.0 (first_is before k m first q)) (p, λ n l. after_empty m n h l)),
  )
    where
      at : (k : ℤ) → after k ≡ true → k ≤ℤ m → m ≡ k
      at k e l = let least = h.least k (or_left (after k) (before k) e) in omega (arith, ints)

      at_before : (k : ℤ) → before k ≡ true → k ≤ℤ m → m ≡ k
      at_before k e l = let least = h.least k (or_right (after k) (before k) e) in omega (arith, ints)

  -- where neither is ever full, neither has a first full depth
  same_where_none : list_any either (cell_depths f s) ≡ false → HaveSameFirstFull after before
  same_where_none none = λ k. (
    (λ first. absurd (never k (or_left (after k) (before k) first.0))),
    (λ first. absurd (never k (or_right (after k) (before k) first.0))),
  )
    where
      never : (k : ℤ) → either k ≡ true → ⊥
      never k e = both_ways (list_any either (cell_depths f s)) none (any_from_member either (cell_depths f s) k (either_at_cell k e) e)

  -- the columns have different first full depths
  pub different_first : (HaveSameFirstFull after before → ⊥) → Draws f (is_full s) g Solid
  different_first differ = by (list_any either (cell_depths f s)) refl
    where
      seen : (m : ℤ) → IsLeastDepth either m → (p q : Bool) → after m ≡ p → before m ≡ q → has_edge f (is_full s) g m ≡ true
      seen m h true true p q = absurd (differ (same_where_both m h p q))
      seen m h true false p q = edge_is m ∙ (λ t. is_edge_of (p t) (q t) (after_empty m (m -ℤ pos 1) h (omega (arith, ints)) t) (before_empty m (m -ℤ pos 1) h (omega (arith, ints)) t))
      seen m h false true p q = edge_is m ∙ (λ t. is_edge_of (p t) (q t) (after_empty m (m -ℤ pos 1) h (omega (arith, ints)) t) (before_empty m (m -ℤ pos 1) h (omega (arith, ints)) t))
      seen m h false false p q = absurd (both_ways (either m) (ap₂ ◌||◌ p q) h.passes)

      by : (some : Bool) → list_any either (cell_depths f s) ≡ some → Draws f (is_full s) g Solid
      by false e = absurd (differ (same_where_none e))
      by true e =
          let n = passing_member either (cell_depths f s) e in
          let m = least_depth either (λ k h. h) n.0 n.2 in (
            m.0,
            seen m.0 m.1 _ _ refl refl,
            λ hidden.
                let nearer = hidden.1 in
                let least = m.1.least hidden.0 (or_left (after hidden.0) (before hidden.0) (and_parts _ _ hidden.2).0) in
                omega (arith, ints),
          )

  -- a solid draws what the two columns draw
  pub columns_drawn : (style : Style) → ColumnsDraw after before style → Draws f (is_full s) g style
  columns_drawn Blank same = equal_columns f is (is_full s) g same
  columns_drawn Dashed h = same_first h.0.0 h.0.1 h.1
  columns_drawn Solid differ = different_first differ
