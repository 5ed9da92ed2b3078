-- What a view keeps while it draws.
use Rattle.std.proofs.Common.{◌≡◌, Bool, ℕ, ◌+◌, ◌-◌, ◌*◌, ◌<◌, ◌≤◌, List, length, slice_index_or, Option, Some, None, ℤ, pos, negsuc, refl, ap, sym, subst, ◌∙◌, arith}
use Rattle.lemmas.specs.Bits.{is_set, bits}
use Rattle.lemmas.proofs.Tests.{same_tests}
use Rattle.cell_rows.specs.declared.span.Span.{Span}
use Rattle.cell_rows.specs.Spans.{AreFilled}
use Rattle.dxf_entities.specs.declared.layer.Layer.{Layer}
use Rattle.solid_model.specs.Blocks.{ProblemParts}
use Rattle.fit_lanes.specs.Busy.{AreAlikeBeyond}
use Rattle.solid_model.specs.Choices.{cells_of_choice}
use Rattle.solid_model.specs.GridBox.{grid_sizes}
use Rattle.fit_lanes.specs.Cuts.{AreLeftOf, HaveOnlyKept, IsLeftBit}
use Rattle.fit_lanes.specs.Kept.{AreBytesFor, AreBuffersOf}
use Rattle.fit_lanes.specs.Points.{places_before}
use Rattle.fit_lanes.proofs.BusyPoints.{alike_beyond}
use Rattle.fit_lanes.proofs.LeftColumns.{filled_kept, kept_within}
use Rattle.fit_lanes.proofs.Told.{rows_more}

-- of columns that are alike what is left is alike
pub left_alike : (kept : Option ℕ) (columns left : List ℕ) → AreLeftOf kept columns left
    → (stride : ℕ) (upright : Bool) (points : List ℕ) (count : ℕ) → count + stride ≤ length columns → AreAlikeBeyond columns stride upright points count
    → AreAlikeBeyond left stride upright points count
left_alike None columns left of stride upright points count enough alike p l out =
    let there : p + stride < length columns = omega (arith, l, enough) in
    let there_too : p + stride - places_before stride upright < length columns = omega (arith, there) in
    ap bits (of (p + stride) there) ∙ alike p l out ∙ sym (ap bits (of (p + stride - places_before stride upright) there_too))
left_alike (Some depths) columns left of stride upright points count enough alike p l out = λ t k. by k t
  where
    after : ℕ
    after = p + stride

    before : ℕ
    before = p + stride - places_before stride upright

    there : after < length columns
    there = omega (arith, l, enough)

    there_too : before < length columns
    there_too = let less : before ≤ after = omega arith in omega (arith, less, there)

    same : (m : ℕ) → is_set (slice_index_or columns after 0) m ≡ is_set (slice_index_or columns before 0) m
    same m = ap (λ (f : ℤ → Bool). f (pos m)) (alike p l out)

    moves : (q r : ℕ) → ((m : ℕ) → is_set (slice_index_or columns q 0) m ≡ is_set (slice_index_or columns r 0) m) → (k : ℕ)
        → IsLeftBit depths (slice_index_or columns q 0) k → IsLeftBit depths (slice_index_or columns r 0) k
    moves q r equal k (here, (m, less, kept_there, on)) = (here, (m, less, kept_there, sym (equal m) ∙ on))

    by : (k : ℤ) → bits (slice_index_or left after 0) k ≡ bits (slice_index_or left before 0) k
    by (pos k) = same_tests (is_set (slice_index_or left after 0) k) (is_set (slice_index_or left before 0) k)
        (λ e. (of before there_too k).1 (moves after before same k ((of after there k).0 e)))
        (λ e. (of after there k).1 (moves before after (λ m. sym (same m)) k ((of before there_too k).0 e)))
    by (negsuc k) = refl

module _ (p : ProblemParts) (x : Layer) (kept : Option ℕ) (w h : ℕ) (sights : List (List Span)) (points : List ℕ) (first_right first_up : ℕ)
    (columns level upright : List ℕ) (buffers : AreBuffersOf p x kept w h sights points first_right first_up columns level upright) where
  sights_count : length sights ≡ (h + 1) * (w + 1) + (w + 1)
  sights_count = buffers.sights_of.count ∙ (λ t. (sym buffers.high t + 2) * (sym buffers.wide t + 1)) ∙ rows_more h w

  -- there is a column for each point, and a row of columns before them
  pub columns_count : length columns ≡ (h + 1) * (w + 1) + (w + 1)
  columns_count = buffers.columns_for ∙ sights_count

  -- beyond the points the columns of a choice are alike,
  pub choice_alike : (choice : List Bool) (filled : List ℕ) → AreFilled choice sights filled → (others : List ℕ) → others ≡ filled → (shown : List ℕ) → shown ≡ points
      → (n : ℕ) → n ≡ (h + 1) * (w + 1) → (along : Bool) → AreAlikeBeyond others (w + 1) along shown n
  choice_alike choice filled fill others same shown same_points n count along =
      subst (λ cs. AreAlikeBeyond cs (w + 1) along shown n) (sym same)
      (subst (λ ps. AreAlikeBeyond filled (w + 1) along ps n) (sym same_points)
      (subst (AreAlikeBeyond filled (w + 1) along points) (sym count)
      (alike_beyond sights (w + 1) choice filled fill ((h + 1) * (w + 1)) points buffers.busy (omega (arith, sights_count)) along)))

  -- and lie within the depths that are kept
  pub choice_within : (choice : List Bool) (filled : List ℕ) → AreFilled choice sights filled → length filled ≡ length columns → (others : List ℕ) → others ≡ filled
      → HaveOnlyKept kept others
  choice_within choice filled fill long others same = subst (HaveOnlyKept kept) (sym same) (kept_within x (grid_sizes p.grid) (cells_of_choice p.blocks.numbers choice) kept filled
      (filled_kept x (grid_sizes p.grid) p.blocks.numbers kept sights buffers.sights_of choice filled fill (long ∙ buffers.columns_for)))

  -- the buffers are for the same after another choice was drawn
  pub buffers_kept : (more_columns more_level more_upright : List ℕ) → length more_columns ≡ length columns → AreBytesFor w h points more_level → AreBytesFor w h points more_upright
      → AreBuffersOf p x kept w h sights points first_right first_up more_columns more_level more_upright
  buffers_kept more_columns more_level more_upright as_many level_too upright_too = record {
    grid = buffers.grid;
    keeps = buffers.keeps;
    wide = buffers.wide;
    high = buffers.high;
    few_wide = buffers.few_wide;
    few_high = buffers.few_high;
    sights_of = buffers.sights_of;
    busy = buffers.busy;
    right_of = buffers.right_of;
    up_of = buffers.up_of;
    columns_for = as_many ∙ buffers.columns_for;
    level_for = level_too;
    upright_for = upright_too;
  }
