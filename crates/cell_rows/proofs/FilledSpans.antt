-- What a choice fills of spans, and the marks that it makes.
use Rattle.std.proofs.Common.{◌≡◌, ◌≢◌, inl, inr, Bool, true, false, ◌&&◌, ◌||◌, if◌then◌else◌, ℕ, ◌+◌, ◌<◌, ◌≤◌, List, [], ◌∷◌, ◌++◌, slice_index_or, Option, None, Some, refl, ap, sym, subst, ◌∙◌, arith}
use Rattle.std.proofs.Math.Bool.{or_assoc, or-false}
use Rattle.std.proofs.Math.ListN.{get_or-map}
use Rattle.std.proofs.lemmas.Bool.{cases_lt, true≢false}
use Rattle.std.specs.Option.{is_some}
use Rattle.cell_rows.specs.declared.span.Span.{Span}
use Rattle.cell_rows.specs.Rows.{cell_numbered, is_marked_at}
use Rattle.cell_rows.specs.Spans.{is_filled, chosen_marks}
use Rattle.cell_rows.proofs.RowCells.{none_beyond}
use Rattle.solid_model.specs.declared.cell.Axis.{Axis}
use Rattle.solid_model.specs.declared.cell.Cell.{Cell}
use Rattle.solid_model.specs.declared.per_axis.PerAxis.{PerAxis}
use Rattle.lemmas.specs.Bits.{is_set}
use Rattle.solid_model.specs.Blocks.{BlockNumbers, block_at}
use Rattle.solid_model.specs.Choices.{is_chosen, cells_of_choice}
use Rattle.solid_model.specs.Marks.{is_marked}
use Rattle.solid_model.specs.PerAxis.{numbers_of}
use Rattle.solid_model.specs.WalledBoxes.{is_within, box_place}

-- ---- spans one behind another

pub filled-append : (choice : List Bool) (xs ys : List Span) (k : ℕ)
    → is_filled choice (xs ++ ys) k ≡ (is_filled choice xs k || is_filled choice ys k)
filled-append choice [] ys k = refl
filled-append choice (s ∷ xs) ys k = ap (λ b. (is_chosen choice s.block && is_set s.cells k) || b) (filled-append choice xs ys k)
    ∙ sym (or_assoc (is_chosen choice s.block && is_set s.cells k) (is_filled choice xs k) (is_filled choice ys k))

pub filled-last : (choice : List Bool) (xs : List Span) (s : Span) (k : ℕ)
    → is_filled choice (xs ++ s ∷ []) k ≡ (is_filled choice xs k || (is_chosen choice s.block && is_set s.cells k))
filled-last choice xs s k = filled-append choice xs (s ∷ []) k
    ∙ ap (λ b. is_filled choice xs k || b) (or-false (is_chosen choice s.block && is_set s.cells k))

-- a span of no block can be left out: no choice fills anything of it
pub filled_without : (choice : List Bool) (xs : List Span) (s : Span) (k : ℕ) → is_some s.block ≡ false
    → is_filled choice xs k ≡ is_filled choice (xs ++ s ∷ []) k
filled_without choice xs s k none = sym (filled-last choice xs s k
    ∙ ap (λ b. is_filled choice xs k || (b && is_set s.cells k)) (none_chosen s.block none) ∙ or-false (is_filled choice xs k))
  where
    none_chosen : (block : Option ℕ) → is_some block ≡ false → is_chosen choice block ≡ false
    none_chosen None none = refl
    none_chosen (Some b) none = absurd (true≢false none)

-- ---- one cell more

-- in the last span
pub grown_here : (choice : List Bool) (xs : List Span) (last next : Span) (k : ℕ) → last.block ≡ next.block → is_set next.cells k ≡ true
    → is_filled choice (xs ++ next ∷ []) k ≡ (is_filled choice (xs ++ last ∷ []) k || is_chosen choice next.block)
grown_here choice xs last next k same here =
    filled-last choice xs next k
    ∙ ap (λ b. is_filled choice xs k || (is_chosen choice next.block && b)) here
    ∙ by (is_filled choice xs k) (is_chosen choice next.block) (is_set last.cells k)
    ∙ ap (λ b. (is_filled choice xs k || (is_chosen choice b && is_set last.cells k)) || is_chosen choice next.block) (sym same)
    ∙ ap (λ b. b || is_chosen choice next.block) (sym (filled-last choice xs last k))
  where
    by : (f c s : Bool) → (f || (c && true)) ≡ ((f || (c && s)) || c)
    by true true true = refl
    by true true false = refl
    by true false true = refl
    by true false false = refl
    by false true true = refl
    by false true false = refl
    by false false true = refl
    by false false false = refl

pub grown_elsewhere : (choice : List Bool) (xs : List Span) (last next : Span) (k : ℕ) → last.block ≡ next.block
    → is_set next.cells k ≡ is_set last.cells k → is_filled choice (xs ++ next ∷ []) k ≡ is_filled choice (xs ++ last ∷ []) k
grown_elsewhere choice xs last next k same alike =
    filled-last choice xs next k
    ∙ (λ t. is_filled choice xs k || (is_chosen choice (sym same t) && alike t))
    ∙ sym (filled-last choice xs last k)

-- in a span of its own
pub begun_here : (choice : List Bool) (xs : List Span) (next : Span) (k : ℕ) → is_set next.cells k ≡ true
    → is_filled choice (xs ++ next ∷ []) k ≡ (is_filled choice xs k || is_chosen choice next.block)
begun_here choice xs next k here =
    filled-last choice xs next k ∙ ap (λ b. is_filled choice xs k || (is_chosen choice next.block && b)) here
    ∙ ap (λ b. is_filled choice xs k || b) (by (is_chosen choice next.block))
  where
    by : (c : Bool) → (c && true) ≡ c
    by true = refl
    by false = refl

pub begun_elsewhere : (choice : List Bool) (xs : List Span) (next : Span) (k : ℕ) → is_set next.cells k ≡ false
    → is_filled choice (xs ++ next ∷ []) k ≡ is_filled choice xs k
begun_elsewhere choice xs next k none =
    filled-last choice xs next k ∙ ap (λ b. is_filled choice xs k || (is_chosen choice next.block && b)) none
    ∙ by (is_filled choice xs k) (is_chosen choice next.block)
  where
    by : (f c : Bool) → (f || (c && false)) ≡ f
    by true true = refl
    by true false = refl
    by false true = refl
    by false false = refl

-- ---- the marks of a choice

-- a cell has a mark where its block is full
pub block_marks : (b : BlockNumbers) (choice : List Bool) (n : Cell) → is_chosen choice (block_at b n) ≡ is_marked (chosen_marks b choice) n
block_marks b choice n = by (is_within (numbers_of b.sizes) n)
  where
    place : ℕ
    place = box_place (numbers_of b.sizes) n

    by : (t : Bool) → is_chosen choice (if t then slice_index_or b.numbers place None else None)
        ≡ (t && slice_index_or (cells_of_choice b.numbers choice) place false)
    by true = sym (get_or-map (is_chosen choice) b.numbers place None)
    by false = refl

-- the spans of the first cells of a row tell what is filled of them
pub record IsRowSoFar (b : BlockNumbers) (a : Axis) (n : PerAxis) (spans : List Span) (count : ℕ) : Type 0 where
  pub below : (choice : List Bool) (k : ℕ) → k < count → is_filled choice spans k ≡ is_marked_at (chosen_marks b choice) a n k
  pub above : (choice : List Bool) (k : ℕ) → count ≤ k → is_filled choice spans k ≡ false

pub row_more : (b : BlockNumbers) (a : Axis) (n : PerAxis) (xs ys : List Span) (count : ℕ) (block : Option ℕ) → IsRowSoFar b a n xs count
    → block ≡ block_at b (cell_numbered a count n)
    → ((choice : List Bool) → is_filled choice ys count ≡ (is_filled choice xs count || is_chosen choice block))
    → ((choice : List Bool) (k : ℕ) → k ≢ count → is_filled choice ys k ≡ is_filled choice xs k) → IsRowSoFar b a n ys (count + 1)
row_more b a n xs ys count block so_far own here others = record {
  below = λ choice k l. elim (cases_lt k count) as (λ _. is_filled choice ys k ≡ is_marked_at (chosen_marks b choice) a n k) [
    | inl earlier ↦ others choice k (omega arith) ∙ so_far.below choice k earlier
    | inr later ↦ (let at : count ≡ k = omega arith in
        subst (λ j. is_filled choice ys j ≡ is_marked_at (chosen_marks b choice) a n j) at
        (here choice ∙ ap (λ f. f || is_chosen choice block) (so_far.above choice count (omega arith)) ∙ ap (is_chosen choice) own
        ∙ block_marks b choice (cell_numbered a count n)))
  ];
  above = λ choice k l. others choice k (omega arith) ∙ so_far.above choice k (omega arith);
}

-- those of all of them tell the whole row
pub row_whole : (b : BlockNumbers) (a : Axis) (n : PerAxis) (spans : List Span) (count : ℕ) → IsRowSoFar b a n spans count
    → numbers_of b.sizes a ≤ count → (choice : List Bool) (k : ℕ) → is_filled choice spans k ≡ is_marked_at (chosen_marks b choice) a n k
row_whole b a n spans count so_far all choice k =
    elim (cases_lt k count) as (λ _. is_filled choice spans k ≡ is_marked_at (chosen_marks b choice) a n k) [
      | inl earlier ↦ so_far.below choice k earlier
      | inr later ↦ so_far.above choice k later ∙ sym (none_beyond (chosen_marks b choice) a n k (omega arith))
    ]
