-- Where every block is decided the bytes of the styles that the columns draw tell whether all lines can be met.
use Rattle.std.proofs.Common.{◌≡◌, inl, inr, Bool, false, ℕ, ℤ, ◌<◌, ◌+◌, ◌++◌, ◌∷◌, [], List, length, get_or, set, Option, Some, None, is_some, refl, ap, sym, subst, ◌∙◌, arith}
use Rattle.std.proofs.lemmas.Bool.{cases_lt, false≢true}
use Rattle.std.proofs.lemmas.List.{ext_get_or, get_or-set_same, get_or-set_other}
use Rattle.column_lanes.specs.Styles.{style_byte, IsStyleByte}
use Rattle.column_lanes.proofs.StyleBytes.{same_style}
use Rattle.line_demands.specs.declared.known.KnownColumn.{KnownColumn}
use Rattle.line_demands.specs.declared.lines.Beside.{Beside}
use Rattle.line_demands.specs.declared.seen.SeenLine.{SeenLine}
use Rattle.line_demands.specs.declared.spans.Span.{Span}
use Rattle.line_demands.specs.Gathered.{no_side}
use Rattle.line_demands.specs.KeptColumns.{IsKeptBy}
use Rattle.line_demands.specs.Seen.{IsSeen}
use Rattle.line_demands.specs.Spans.{column_there}
use Rattle.line_demands.specs.WholeChoices.{ListDrawn, line_at, AreStylesOf, ArePackedOf, DrawTheirStyles}
use Rattle.line_demands.proofs.KeptState.{seen_told}
use Rattle.line_demands.proofs.WholeChoices.{one_drawn, met_drawn}
use Rattle.column_laws.proofs.DecidedCells.{full_tells, cell_decided}
use Rattle.solid_model.specs.declared.segment.Style.{Style}
use Rattle.solid_model.specs.declared.segment.Style.TheVariants.{Blank}
use Rattle.solid_model.specs.declared.cell.Cell.{Cell}
use Rattle.solid_model.specs.declared.decision.Decision.{Decision}
use Rattle.lemmas.specs.Bits.{bits}
use Rattle.lemmas.specs.Lists.{Member, Each}
use Rattle.solid_model.specs.Blocks.{ProblemParts, IsBlocksOf}
use Rattle.solid_model.specs.Decisions.{decided_by, AreOnAll}
use Rattle.solid_model.specs.Known.{known_bits}
use Rattle.solid_model.specs.Columns.{ColumnsDraw}
use Rattle.solid_model.specs.Demands.{known_cell, AllMet}
use Rattle.lemmas.proofs.ListPlaces.{member-at}
use Rattle.lemmas.proofs.Lists.{each-at, each-push, member-append_left, member-push_last}

-- where columns are packed, the bytes are those that are wanted just where the columns draw the lines' styles
module _ (columns : List KnownColumn) (sides : List Beside) (numbers after before drawn wanted : List ℕ) (packed : ArePackedOf columns sides numbers (length numbers) after before)
    (styled : (i : ℕ) → i < length numbers → IsStyleByte (get_or drawn i 0) (bits (get_or after i 0)) (bits (get_or before i 0)))
    (wants : AreStylesOf sides numbers wanted) where
  -- what the packed columns draw the columns themselves do
  unpacked : (i : ℕ) (style : Style) → i < length numbers → ColumnsDraw (bits (get_or after i 0)) (bits (get_or before i 0)) style
      → ColumnsDraw (bits (column_there columns (line_at sides numbers i).after).full) (bits (column_there columns (line_at sides numbers i).before).full) style
  unpacked i style l draws =
      subst (λ b. ColumnsDraw (bits (column_there columns (line_at sides numbers i).after).full) (bits b) style) (packed.before_is i l)
      (subst (λ a. ColumnsDraw (bits a) (bits (get_or before i 0)) style) (packed.after_is i l) draws)

  pub bytes_draw : drawn ≡ wanted → DrawTheirStyles columns sides numbers
  bytes_draw same i l =
      let (style, draws, byte) = styled i l in
      let wished : style ≡ (line_at sides numbers i).style = same_style style _ (sym byte ∙ ap (λ xs. get_or xs i 0) same ∙ wants i l) in
      unpacked i (line_at sides numbers i).style l (subst (ColumnsDraw (bits (get_or after i 0)) (bits (get_or before i 0))) wished draws)

  pub drawn_bytes : length drawn ≡ length numbers → length wanted ≡ length numbers → DrawTheirStyles columns sides numbers → drawn ≡ wanted
  drawn_bytes count wanted_count all = ext_get_or 0 drawn wanted (count ∙ sym wanted_count) (λ i l.
      let there : i < length numbers = omega (arith, count) in
      let (style, draws, byte) = styled i there in
      byte ∙ ap style_byte (one_drawn _ _ style _ (unpacked i style there draws) (all i there)) ∙ sym (wants i there))

-- one line more whose columns are packed
pub packed_more : (columns : List KnownColumn) (sides : List Beside) (numbers after before : List ℕ) (count : ℕ) → ArePackedOf columns sides numbers count after before
    → count < length after → count < length before → (a b : ℕ)
    → a ≡ (column_there columns (line_at sides numbers count).after).full → b ≡ (column_there columns (line_at sides numbers count).before).full
    → ArePackedOf columns sides numbers (count + 1) (set after count a) (set before count b)
packed_more columns sides numbers after before count so_far room_after room_before a b a_is b_is = record {
  after_is = λ i l. elim (cases_lt i count) as (λ _. get_or (set after count a) i 0 ≡ (column_there columns (line_at sides numbers i).after).full) [
    | inl earlier ↦ get_or-set_other after count i a 0 (omega arith) ∙ so_far.after_is i earlier
    | inr later ↦ (let e : count ≡ i = omega arith in
        subst (λ j. get_or (set after count a) j 0 ≡ (column_there columns (line_at sides numbers j).after).full) e (get_or-set_same after count a 0 room_after ∙ a_is))
  ];
  before_is = λ i l. elim (cases_lt i count) as (λ _. get_or (set before count b) i 0 ≡ (column_there columns (line_at sides numbers i).before).full) [
    | inl earlier ↦ get_or-set_other before count i b 0 (omega arith) ∙ so_far.before_is i earlier
    | inr later ↦ (let e : count ≡ i = omega arith in
        subst (λ j. get_or (set before count b) j 0 ≡ (column_there columns (line_at sides numbers j).before).full) e (get_or-set_same before count b 0 room_before ∙ b_is))
  ];
}

-- Where every block is decided and each line can be met, the columns beside each draw its style.
module _ (p : ProblemParts) (blocks : IsBlocksOf p.grid p.blocks) (spans : List (List Span)) (touched : List (List ℕ)) (sides : List Beside) (decisions : List Decision)
    (columns : List KnownColumn) (met : List Bool) (heights broken : List ℕ) (room high wide : ℕ) (kept : IsKeptBy p decisions spans touched sides columns met heights broken room high wide)
    (all : AreOnAll p.blocks.count decisions) where
  -- what is known of a column is all of it
  whole : (column : KnownColumn) (k : ℤ) (n : Cell) → known_bits column.full column.may k ≡ known_cell p.blocks (decided_by decisions) n
      → known_cell p.blocks (decided_by decisions) n ≡ Some (bits column.full k)
  whole column k n e = let (value, there) = cell_decided p blocks decisions all n in sym e ∙ full_tells column.full column.may k value (e ∙ there)

  pub met_draw : (numbers : List ℕ) → Each (λ n. n < length sides) numbers → AllMet p (decided_by decisions) → DrawTheirStyles columns sides numbers
  met_draw numbers there all_met i l =
      let n : ℕ = get_or numbers i 0 in
      let low : n < length sides = each-at (λ m. m < length sides) numbers n there (member-at numbers i 0 l) in
      let b : Beside = get_or sides n no_side in
      let s : SeenLine = record { line = b.line; style = b.style; after = column_there columns b.after; before = column_there columns b.before } in
      let seen : IsSeen p (decided_by decisions) s = seen_told p blocks spans touched sides decisions columns met heights broken room high wide kept n b no_side low refl s refl in
      subst (ColumnsDraw (bits s.after.full) (bits s.before.full)) (sym seen.style)
      (met_drawn p (decided_by decisions) b.line (bits s.after.full) (bits s.before.full) (λ k. whole s.after k _ (seen.after k)) (λ k. whole s.before k _ (seen.before k)) (all_met b.line seen.has))

-- ---- the lines that are drawn

-- a drawn line more
pub drawn_more : (sides : List Beside) (first : ℕ) (numbers : List ℕ) → ListDrawn sides first numbers → first < length sides → ListDrawn sides (first + 1) (numbers ++ first ∷ [])
drawn_more sides first numbers so_far low = record {
  there = each-push (λ n. n < length sides) numbers first so_far.there low;
  all = λ n l shown. elim (cases_lt n first) as (λ _. Member (numbers ++ first ∷ []) n) [
    | inl earlier ↦ member-append_left numbers (first ∷ []) n (so_far.all n earlier shown)
    | inr later ↦ (let e : first ≡ n = omega arith in subst (Member (numbers ++ first ∷ [])) e (member-push_last numbers first))
  ];
}

-- a blank line more
pub blank_more : (sides : List Beside) (first : ℕ) (numbers : List ℕ) → ListDrawn sides first numbers → (get_or sides first no_side).style ≡ Blank → ListDrawn sides (first + 1) numbers
blank_more sides first numbers so_far blank = record {
  there = so_far.there;
  all = λ n l shown. elim (cases_lt n first) as (λ _. Member numbers n) [
    | inl earlier ↦ so_far.all n earlier shown
    | inr later ↦ (let e : first ≡ n = omega arith in absurd (shown (subst (λ j. (get_or sides j no_side).style ≡ Blank) e blank)))
  ];
}

-- what isn't there is nothing
pub none_there : {A : Type 0} (o : Option A) → is_some o ≡ false → o ≡ None
none_there None e = refl
none_there (Some x) e = absurd (false≢true (sym e))
