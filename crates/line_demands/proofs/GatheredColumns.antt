-- Columns are gathered one after another.
use Rattle.std.proofs.Common.{◌≡◌, ◌↔◌, inl, inr, Bool, true, false, if◌then◌else◌, ◌&&◌, ◌||◌, ◌==◌, nat_lt, ℕ, ◌+◌, ◌<◌, List, [], ◌∷◌, ◌++◌, length, get_or, Option, Some, None, pos, refl, ap, ap₂, sym, subst, ◌∙◌, arith}
use Rattle.std.specs.Prelude.{is_some}
use Rattle.std.proofs.lemmas.Bool.{cases_lt, eqb-true, le-ltb, false≢true, and_right}
use Rattle.std.proofs.lemmas.List.{length_push, get_or_append_left}
use Rattle.std.proofs.lemmas.Nat.Bits.{bit_at-zero}
use Rattle.std.proofs.Math.ListN.{get_or-eq_default}
use Rattle.std.proofs.Math.Seq.{get_or-append_seam}
use Rattle.line_demands.specs.declared.known.KnownColumn.{KnownColumn}
use Rattle.solid_model.specs.Known.{known_of, LiesWithin}
use Rattle.line_demands.specs.declared.gather.ColumnPlace.{ColumnPlace}
use Rattle.line_demands.specs.declared.spans.Span.{Span}
use Rattle.line_demands.specs.Touching.{is_of, shown_cell}
use Rattle.solid_model.specs.Decisions.{decided_by}
use Rattle.line_demands.specs.Gathered.{block_of_place, block_of_column, place_numbered, IsGathered, AreGatheredTo}
use Rattle.line_demands.specs.Spans.{is_on, no_column, column_there, known_there}
use Rattle.line_demands.proofs.BoxSight.{shown_within}
use Rattle.line_demands.proofs.Gathering.{no_more}
use Rattle.lemmas.specs.Bits.{is_set}
use Rattle.lemmas.specs.Counts.{times_listed}
use Rattle.solid_model.specs.Blocks.{ProblemParts, IsBlocksOf}
use Rattle.solid_model.specs.Demands.{known_in}
use Rattle.solid_model.specs.Frames.{frame_of}
use Rattle.solid_model.specs.PerAxis.{numbers_of}
use Rattle.solid_model.specs.WalledBoxes.{is_within, is_below, number_at}
use Rattle.solid_model.specs.GridBox.{grid_sizes, axis_along, axis_across}

clear : (k : ℕ) → is_set 0 k ≡ false
clear k = ap (λ b. b == 1) (bit_at-zero k)

-- one column more in the list
pub at_push : (columns : List KnownColumn) (x : KnownColumn) (P : ℕ → KnownColumn → Type 0) → ((c : ℕ) → c < length columns → P c (column_there columns c)) → P (length columns) x
    → ((c : ℕ) → length columns < c → P c no_column) → (c : ℕ) → P c (column_there (columns ++ x ∷ []) c)
at_push columns x P below here above c = elim (cases_lt c (length columns)) as (λ _. P c (column_there (columns ++ x ∷ []) c)) [
  | inl l ↦ subst (P c) (sym (get_or_append_left columns (x ∷ []) no_column c l)) (below c l)
  | inr l ↦ elim (cases_lt (length columns) c) as (λ _. P c (column_there (columns ++ x ∷ []) c)) [
    | inl m ↦ subst (P c) (sym (get_or-eq_default (columns ++ x ∷ []) no_column (let e = length_push columns x in omega arith))) (above c m)
    | inr m ↦ (let e : length columns ≡ c = omega arith in subst (λ n. P n (column_there (columns ++ x ∷ []) n)) e (subst (P (length columns)) (sym (get_or-append_seam columns x [] no_column)) here))
  ]
]

module _ (p : ProblemParts) (blocks : IsBlocksOf p.grid p.blocks) where
  sized : numbers_of p.blocks.sizes ≡ grid_sizes p.grid
  sized = λ t a. blocks.sized a t

  -- beyond the box there is no block
  pub beyond_depth : (at : ColumnPlace) (k : ℕ) → nat_lt k (grid_sizes p.grid (frame_of at.view).away.axis) ≡ false → block_of_place p at k ≡ None
  beyond_depth at k far = ap (λ (t : Bool). if t then number_at (numbers_of p.blocks.sizes) p.blocks.numbers (shown_cell (grid_sizes p.grid) at.view at.right at.up (pos k)) else None)
      (ap (λ s. is_within s (shown_cell (grid_sizes p.grid) at.view at.right at.up (pos k))) sized ∙ shown_within (grid_sizes p.grid) at.view false (pos at.right) (pos at.up) (pos k)
      ∙ and_right (is_below (grid_sizes p.grid (axis_along at.view false)) (pos at.right)) _ (and_right (is_below (grid_sizes p.grid (axis_across at.view false)) (pos at.up)) _ far))

  -- so a test on the block needs no bound
  cut : (f : Option ℕ → Bool) → f None ≡ false → (at : ColumnPlace) (k : ℕ) → (nat_lt k (grid_sizes p.grid (frame_of at.view).away.axis) && f (block_of_place p at k)) ≡ f (block_of_place p at k)
  cut f none at k = by (nat_lt k (grid_sizes p.grid (frame_of at.view).away.axis)) refl
    where
      by : (t : Bool) → nat_lt k (grid_sizes p.grid (frame_of at.view).away.axis) ≡ t → (nat_lt k (grid_sizes p.grid (frame_of at.view).away.axis) && f (block_of_place p at k)) ≡ f (block_of_place p at k)
      by true e = ap (λ t. t && f (block_of_place p at k)) e
      by false e = ap (λ t. t && f (block_of_place p at k)) e ∙ sym (ap f (beyond_depth at k e) ∙ none)

  known_new : (may k : ℕ) (r : Option ℕ) → is_set may k ≡ is_some r → known_of (is_set 0 k) (is_set may k) ≡ known_in (decided_by []) r
  known_new may k None e = ap₂ known_of (clear k) e
  known_new may k (Some b) e = ap₂ known_of (clear k) e

  pub columns_more : (n : ℕ) (spans new : List (List Span)) (columns : List KnownColumn) (column : KnownColumn) (on : List (List ℕ)) (now : List ℕ)
      → AreGatheredTo p n spans columns on → IsGathered p n spans new now column → AreGatheredTo p (n + 1) new (columns ++ column ∷ []) (on ++ now ∷ [])
  columns_more n spans new columns column on now so_far is = record {
    count = is.all.count ∙ so_far.count;
    count_columns = (let e = length_push columns column in let f = so_far.count_columns in omega arith);
    count_on = (let e = length_push on now in let f = so_far.count_on in omega arith);
    within = at_push columns column (λ c x. LiesWithin x.full x.may) (λ c l. so_far.within c) (λ k set. absurd (false≢true (sym (ap (λ m. is_set m k) is.full ∙ clear k) ∙ set))) (λ c l k set. set);
    known = λ c k l. known c k l;
    each = each;
    inside = λ m l. is.all.inside m (so_far.inside m (omega arith)) (omega arith);
    which = which;
  }
    where
      known : (c k : ℕ) → c < n + 1 → known_there (columns ++ column ∷ []) c k ≡ known_in (decided_by []) (block_of_column p c k)
      known c k l = at_push columns column (λ d x. d < n + 1 → known_of (is_set x.full k) (is_set x.may k) ≡ known_in (decided_by []) (block_of_column p d k))
          (λ d m _. so_far.known d k (let e = so_far.count_columns in omega arith))
          (λ _. subst (λ d. known_of (is_set column.full k) (is_set column.may k) ≡ known_in (decided_by []) (block_of_column p d k)) (sym so_far.count_columns)
          (ap (λ m. known_of (is_set m k) (is_set column.may k)) is.full
          ∙ known_new column.may k (block_of_column p n k) (is.all.cells k ∙ cut is_some refl (place_numbered (grid_sizes p.grid) n) k)))
          (λ d m below. absurd (let e = so_far.count_columns in omega arith)) c l

      each : (b : ℕ) (d : List Span) (c k : ℕ) → b < p.blocks.count → is_on (get_or new b d) c k ≡ (nat_lt c (n + 1) && is_of b (block_of_column p c k))
      each b d c k l = is.all.each b d c k (let e = so_far.count in omega arith)
          ∙ ap (λ x. is_on (get_or spans b d) c k || ((n == c) && x)) (cut (is_of b) refl (place_numbered (grid_sizes p.grid) n) k)
          ∙ ap (λ x. x || ((n == c) && is_of b (block_of_column p n k))) (so_far.each b d c k l)
          ∙ by (n == c) refl
        where
          grown : (a t s : Bool) → ((a && s) || (t && s)) ≡ ((a || t) && s)
          grown true t true = refl
          grown true true false = refl
          grown true false false = refl
          grown false t s = refl

          by : (t : Bool) → (n == c) ≡ t → ((nat_lt c n && is_of b (block_of_column p c k)) || ((n == c) && is_of b (block_of_column p n k))) ≡ (nat_lt c (n + 1) && is_of b (block_of_column p c k))
          by true e = ap (λ m. (nat_lt c n && is_of b (block_of_column p c k)) || ((n == c) && is_of b (block_of_column p m k))) (eqb-true n c e)
              ∙ grown (nat_lt c n) (n == c) (is_of b (block_of_column p c k)) ∙ ap (λ x. x && is_of b (block_of_column p c k)) (sym (no_more c n))
          by false e = ap (λ t. (nat_lt c n && is_of b (block_of_column p c k)) || (t && is_of b (block_of_column p n k))) e
              ∙ ap (λ t. (nat_lt c n && is_of b (block_of_column p c k)) || (t && is_of b (block_of_column p c k))) (sym e)
              ∙ grown (nat_lt c n) (n == c) (is_of b (block_of_column p c k)) ∙ ap (λ x. x && is_of b (block_of_column p c k)) (sym (no_more c n))

      which : (c b : ℕ) (ls : List ℕ) → c < n + 1 → (times_listed b (get_or (on ++ now ∷ []) c ls) ≡ 0) ↔ ((k : ℕ) → is_of b (block_of_column p c k) ≡ false)
      which c b ls l = elim (cases_lt c n) as (λ _. (times_listed b (get_or (on ++ now ∷ []) c ls) ≡ 0) ↔ ((k : ℕ) → is_of b (block_of_column p c k) ≡ false)) [
        | inl m ↦ subst (λ xs. (times_listed b xs ≡ 0) ↔ ((k : ℕ) → is_of b (block_of_column p c k) ≡ false)) (sym (get_or_append_left on (now ∷ []) ls c (let e = so_far.count_on in omega arith))) (so_far.which c b ls m)
        | inr m ↦ (let e : length on ≡ c = (let f = so_far.count_on in omega arith) in
            subst (λ d. (times_listed b (get_or (on ++ now ∷ []) d ls) ≡ 0) ↔ ((k : ℕ) → is_of b (block_of_column p d k) ≡ false)) e
            (subst (λ xs. (times_listed b xs ≡ 0) ↔ ((k : ℕ) → is_of b (block_of_column p (length on) k) ≡ false)) (sym (get_or-append_seam on now [] ls))
            (subst (λ d. (times_listed b now ≡ 0) ↔ ((k : ℕ) → is_of b (block_of_column p d k) ≡ false)) (sym so_far.count_on) (
              (λ none k. sym (cut (is_of b) refl (place_numbered (grid_sizes p.grid) n) k) ∙ far k ((is.all.which b).0 none)),
              (λ off. (is.all.which b).1 (λ k _. off k)),
            ))))
      ]
        where
          far : (k : ℕ) → ((j : ℕ) → j < grid_sizes p.grid (frame_of (place_numbered (grid_sizes p.grid) n).view).away.axis → is_of b (block_of_column p n j) ≡ false)
              → (nat_lt k (grid_sizes p.grid (frame_of (place_numbered (grid_sizes p.grid) n).view).away.axis) && is_of b (block_of_column p n k)) ≡ false
          far k off = elim (cases_lt k (grid_sizes p.grid (frame_of (place_numbered (grid_sizes p.grid) n).view).away.axis)) as (λ _. (nat_lt k (grid_sizes p.grid (frame_of (place_numbered (grid_sizes p.grid) n).view).away.axis) && is_of b (block_of_column p n k)) ≡ false) [
            | inl m ↦ and_right (nat_lt k (grid_sizes p.grid (frame_of (place_numbered (grid_sizes p.grid) n).view).away.axis)) _ (off k m)
            | inr m ↦ ap (λ t. t && is_of b (block_of_column p n k)) (le-ltb k (grid_sizes p.grid (frame_of (place_numbered (grid_sizes p.grid) n).view).away.axis) m)
          ]
