-- The bytes that columns draw at the points of a grid are those of the turned solid's drawing.
use Rattle.std.proofs.Common.{◌≡◌, ◌⊎◌, inl, inr, Bool, true, false, ℕ, zero, suc, ◌+◌, ◌-◌, ◌*◌, ◌/◌, ◌%◌, ◌<◌, ◌≤◌, List, length, slice_index_or, ℤ, pos, negsuc, refl, ap, sym, subst, ◌∙◌, arith}
use Rattle.std.proofs.lemmas.Bool.{cases_lt}
use Rattle.std.proofs.lemmas.Nat.{div-mul-add, mod-mul-add, mul-add-lt}
use Rattle.std.proofs.Math.Nat.{mul_comm, suc-mul}
use Rattle.lemmas.specs.Bits.{is_set, bits}
use Rattle.solid_model.specs.Columns.{ColumnsDraw}
use Rattle.solid_model.specs.WalledBoxes.{Sizes}
use Rattle.solid_model.specs.declared.segment.Style.{Style}
use Rattle.solid_model.specs.declared.segment.Style.TheVariants.{Blank, Dashed, Solid}
use Rattle.solid_model.specs.declared.frame.Frame.{Frame}
use Rattle.solid_model.specs.Segments.{along_of, across_of}
use Rattle.column_lanes.specs.Styles.{style_byte}
use Rattle.column_laws.specs.GridColumns.{grid_column}
use Rattle.column_laws.specs.GridPanels.{IsColumnBeside, IsStyleBetween}
use Rattle.column_laws.proofs.GridSegments.{empty_bits}
use Rattle.dxf_entities.specs.declared.layer.Layer.{Layer}
use Rattle.six_views.specs.SightFrames.{sight_frame}
use Rattle.fit_lanes.specs.Points.{places_before}
use Rattle.fit_lanes.specs.Sights.{width, height, AreSeenColumns}
use Rattle.fit_lanes.specs.Tests.{AreDrawn}

-- columns that don't differ draw nothing
blank_alike : (column : ℤ → Bool) (style : Style) → ColumnsDraw column column style → style ≡ Blank
blank_alike column Blank draws = refl
blank_alike column Dashed draws = absurd (draws.0.1 refl)
blank_alike column Solid draws = absurd (draws (λ k. (λ e. e, λ e. e)))

-- a number with no bit has those of 0
pub no_bits : (n : ℕ) → ((k : ℕ) → is_set n k ≡ false) → bits n ≡ bits 0
no_bits n none = λ t k. by k t
  where
    by : (k : ℤ) → bits n k ≡ bits 0 k
    by (pos k) = none k ∙ sym (empty_bits (pos k))
    by (negsuc k) = refl

module _ (x : Layer) (sizes : Sizes) (chosen : List Bool) (columns : List ℕ) (seen : AreSeenColumns x sizes chosen columns) where
  abbrev f : Frame
  f = sight_frame x

  abbrev w : ℕ
  w = width x sizes

  abbrev h : ℕ
  h = height x sizes

  abbrev column : ℕ → ℤ → Bool
  column p = bits (slice_index_or columns p 0)

  -- the place of the column beside the point i to the right, in the row j
  module _ (j i : ℕ) (l : i < w + 1) (m : j < h + 2) where
    abbrev place : ℕ
    place = j * (w + 1) + i

    there : place < length columns
    there = omega (arith, mul-add-lt j (w + 1) i (h + 2) m l, seen.count, mul_comm (w + 1) (h + 2))

    its_column : place % (w + 1) ≡ i
    its_column = mod-mul-add j (w + 1) i l

    its_row : place / (w + 1) ≡ j
    its_row = div-mul-add j (w + 1) i l

    -- beside cells it is theirs,
    column_is : i < w → 1 ≤ j → j ≤ h → (k : ℤ) → column place k ≡ grid_column f sizes chosen i (j - 1) k
    column_is a b c (negsuc k) = refl
    column_is a b c (pos k) =
        seen.inside place there (subst (λ n. n < w) (sym its_column) a) (subst (λ n. 1 ≤ n) (sym its_row) b) (subst (λ n. n ≤ h) (sym its_row) c) k
        ∙ (λ t. grid_column f sizes chosen (its_column t) (its_row t - 1) (pos k))

    -- and else there is none
    column_none : (w ≤ i) ⊎ ((j ≡ 0) ⊎ (h < j)) → column place ≡ bits 0
    column_none out = no_bits (slice_index_or columns place 0) (seen.outside place there (subst (λ n. (w ≤ n) ⊎ ((place / (w + 1) ≡ 0) ⊎ (h < place / (w + 1)))) (sym its_column)
        (subst (λ n. (w ≤ i) ⊎ ((n ≡ 0) ⊎ (h < n))) (sym its_row) out)))

  -- a word of the column beside a point, as the column beside a line
  record IsBeside (upright : Bool) (start line p : ℕ) : Type 0 where
    word : ℕ
    same : column p ≡ bits word
    beside : IsColumnBeside f sizes chosen upright start line word

  beside_at : (upright : Bool) (start line i j : ℕ) → across_of upright line start ≡ i → along_of upright line start ≡ j → start < along_of upright w h → line ≤ across_of upright w h
      → IsBeside upright start line (suc j * (w + 1) + i)
  beside_at true start line i j = λ at_i at_j a b. by i j at_i at_j a (cases_lt line w) b
    where
      by : (i j : ℕ) → line ≡ i → start ≡ j → start < h → (line < w) ⊎ (w ≤ line) → line ≤ w → IsBeside true start line (suc j * (w + 1) + i)
      by i j at_i at_j a (inl l) b = record {
        word = slice_index_or columns (suc j * (w + 1) + i) 0;
        same = refl;
        beside = record {
          inside = λ _ k. column_is (suc j) i (omega arith) (omega arith) (omega arith) (omega arith) (omega arith) k
              ∙ (λ t. grid_column f sizes chosen (sym at_i t) (let e : suc j - 1 ≡ start = omega arith in e t) k);
          outside = λ out. absurd (omega arith);
        };
      }
      by i j at_i at_j a (inr l) b = record {
        word = 0;
        same = column_none (suc j) i (omega arith) (omega arith) (inl (omega arith));
        beside = record { inside = λ m. absurd (omega arith); outside = λ _. refl };
      }
  beside_at false start line i j = λ at_i at_j a b. by i j at_i at_j a (cases_lt line h) b
    where
      by : (i j : ℕ) → start ≡ i → line ≡ j → start < w → (line < h) ⊎ (h ≤ line) → line ≤ h → IsBeside false start line (suc j * (w + 1) + i)
      by i j at_i at_j a (inl l) b = record {
        word = slice_index_or columns (suc j * (w + 1) + i) 0;
        same = refl;
        beside = record {
          inside = λ _ k. column_is (suc j) i (omega arith) (omega arith) (omega arith) (omega arith) (omega arith) k
              ∙ (λ t. grid_column f sizes chosen (sym at_i t) (let e : suc j - 1 ≡ line = omega arith in e t) k);
          outside = λ out. absurd (omega arith);
        };
      }
      by i j at_i at_j a (inr l) b = record {
        word = 0;
        same = column_none (suc j) i (omega arith) (omega arith) (inr (inr (omega arith)));
        beside = record { inside = λ m. absurd (omega arith); outside = λ _. refl };
      }

  -- a word of the column before a line
  record IsBefore (upright : Bool) (start line p : ℕ) : Type 0 where
    word : ℕ
    same : column p ≡ bits word
    first : line ≡ 0 → word ≡ 0
    next : (n : ℕ) → line ≡ suc n → IsColumnBeside f sizes chosen upright start n word

  none_before : (upright : Bool) (start line p : ℕ) → line ≡ 0 → column p ≡ bits 0 → IsBefore upright start line p
  none_before upright start line p is none = record { word = 0; same = none; first = λ _. refl; next = λ n e. absurd (omega arith) }

  one_before : (upright : Bool) (start n p : ℕ) → IsBeside upright start n p → IsBefore upright start (suc n) p
  one_before upright start n p at = record {
    word = at.word;
    same = at.same;
    first = λ e. absurd (omega arith);
    next = λ m e. subst (λ k. IsColumnBeside f sizes chosen upright start k at.word) (omega arith) at.beside;
  }

  abbrev point : ℕ → ℕ → ℕ
  point i j = j * (w + 1) + i

  abbrev after_point : ℕ → ℕ → ℕ
  after_point i j = point i j + (w + 1)

  abbrev before_point : Bool → ℕ → ℕ → ℕ
  before_point upright i j = point i j + (w + 1) - places_before (w + 1) upright

  after_place : (i j : ℕ) → after_point i j ≡ suc j * (w + 1) + i
  after_place i j = omega (arith, suc-mul j (w + 1))

  before_level : (i j : ℕ) → before_point false i j ≡ j * (w + 1) + i
  before_level i j = omega arith

  before_first : (j : ℕ) → before_point true 0 j ≡ j * (w + 1) + w
  before_first j = omega arith

  before_upright : (i j : ℕ) → before_point true (suc i) j ≡ suc j * (w + 1) + i
  before_upright i j = omega (arith, suc-mul j (w + 1))

  -- the one before the line on which a point stands
  before_at : (upright : Bool) (i j : ℕ) → i ≤ w → j ≤ h → along_of upright i j < along_of upright w h
      → IsBefore upright (along_of upright i j) (across_of upright i j) (before_point upright i j)
  before_at true zero j l m n = none_before true j 0 _ refl (ap column (before_first j) ∙ column_none j w (omega arith) (omega arith) (inl (omega arith)))
  before_at true (suc i) j l m n = one_before true j i _ (subst (IsBeside true j i) (sym (before_upright i j)) (beside_at true j i i j refl refl n (omega arith)))
  before_at false i zero l m n = none_before false i 0 _ refl (ap column (before_level i 0) ∙ column_none 0 i (omega arith) (omega arith) (inr (inl refl)))
  before_at false i (suc j) l m n = one_before false i j _ (subst (IsBeside false i j) (sym (before_level i (suc j))) (beside_at false i j i j refl refl n (omega arith)))

  -- and the one after it
  after_at : (upright : Bool) (i j : ℕ) → i ≤ w → j ≤ h → along_of upright i j < along_of upright w h
      → IsBeside upright (along_of upright i j) (across_of upright i j) (after_point i j)
  after_at true i j l m n = subst (IsBeside true j i) (sym (after_place i j)) (beside_at true j i i j refl refl n l)
  after_at false i j l m n = subst (IsBeside false i j) (sym (after_place i j)) (beside_at false i j i j refl refl n m)

  -- past the last segment of a line no column stands
  none_past_before : (upright : Bool) (i j : ℕ) → i ≤ w → j ≤ h → along_of upright w h ≤ along_of upright i j → column (before_point upright i j) ≡ bits 0
  none_past_before true zero j l m n = ap column (before_first j) ∙ column_none j w (omega arith) (omega arith) (inl (omega arith))
  none_past_before true (suc i) j l m n = ap column (before_upright i j) ∙ column_none (suc j) i (omega arith) (omega arith) (inr (inr (omega arith)))
  none_past_before false i j l m n = ap column (before_level i j) ∙ column_none j i (omega arith) (omega arith) (inl (omega arith))

  none_past_after : (upright : Bool) (i j : ℕ) → i ≤ w → j ≤ h → along_of upright w h ≤ along_of upright i j → column (after_point i j) ≡ bits 0
  none_past_after true i j l m n = ap column (after_place i j) ∙ column_none (suc j) i (omega arith) (omega arith) (inr (inr (omega arith)))
  none_past_after false i j l m n = ap column (after_place i j) ∙ column_none (suc j) i (omega arith) (omega arith) (inl (omega arith))

  module _ (bytes : List ℕ) (long : length bytes ≡ (h + 1) * (w + 1)) (upright : Bool) (drawn : AreDrawn columns (w + 1) upright bytes) where
    within : (i j : ℕ) → i ≤ w → j ≤ h → point i j < length bytes
    within i j l m = omega (arith, mul-add-lt j (w + 1) i (h + 1) (omega arith) (omega arith), long, mul_comm (w + 1) (h + 1))

    -- a segment's byte is that of the style between the columns beside it
    pub byte_between : (i j : ℕ) → i ≤ w → j ≤ h → along_of upright i j < along_of upright w h
        → (style : Style) × IsStyleBetween f sizes chosen upright (along_of upright i j) (across_of upright i j) style
        × (slice_index_or bytes (j * (w + 1) + i) 0 ≡ style_byte style)
    byte_between i j l m n =
        let style = drawn (point i j) (within i j l m) in
        let after = after_at upright i j l m n in
        let before = before_at upright i j l m n in (
          style.0,
          (
            after.word,
            before.word,
            record { after_is = after.beside; before_first = before.first; before_is = before.next },
            subst (λ c. ColumnsDraw (bits after.word) c style.0) before.same (subst (λ c. ColumnsDraw c (column (before_point upright i j)) style.0) after.same style.1),
          ),
          style.2,
        )

    -- where there is none nothing is drawn
    pub byte_none : (i j : ℕ) → i ≤ w → j ≤ h → along_of upright w h ≤ along_of upright i j → slice_index_or bytes (j * (w + 1) + i) 0 ≡ 0
    byte_none i j l m n =
        let style = drawn (point i j) (within i j l m) in
        style.2 ∙ ap style_byte (blank_alike (bits 0) style.0
        (subst (λ c. ColumnsDraw (bits 0) c style.0) (none_past_before upright i j l m n)
        (subst (λ c. ColumnsDraw c (column (before_point upright i j)) style.0) (none_past_after upright i j l m n) style.1)))
