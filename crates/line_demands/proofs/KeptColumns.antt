-- What is known of columns, and which lines can be met, with one decision more or less.
use Rattle.std.proofs.Common.{◌≡◌, ◌↔◌, inl, inr, Bool, true, false, if◌then◌else◌, ◌&&◌, ◌==◌, ℕ, ◌<◌, ℤ, pos, negsuc, ◌-ℤ◌, List, [], ◌∷◌, ◌++◌, length, get_or, Option, Some, None, refl, ap, ap₂, sym, subst, ◌∙◌, arith}
use Rattle.std.specs.Prelude.{All}
use Rattle.std.proofs.lemmas.Bool.{cases_Bool, cases_lt, eqb-true, and_left, and_right}
use Rattle.std.proofs.lemmas.List.Folds.{list_any_none}
use Rattle.std.proofs.lemmas.Option.{none-some}
use Rattle.line_demands.specs.declared.known.KnownColumn.{KnownColumn}
use Rattle.solid_model.specs.Known.{known_bits}
use Rattle.line_demands.specs.declared.lines.Beside.{Beside}
use Rattle.solid_model.specs.declared.decision.Decision.{Decision}
use Rattle.line_demands.specs.declared.spans.Span.{Span}
use Rattle.line_demands.specs.Touching.{is_of, view_width, view_height, shown_cell}
use Rattle.solid_model.specs.Decisions.{decided_by}
use Rattle.line_demands.specs.Lines.{IsMetBy, AreTried}
use Rattle.line_demands.specs.Spans.{is_on, is_in_span, column_there, known_there, AreWithin}
use Rattle.line_demands.specs.KeptColumns.{column_count, column_number, AreKnownColumns, AreSpans, IsColumnOf, IsBeside, IsPlanOf}
use Rattle.line_demands.proofs.BoxSight.{shown_within}
use Rattle.solid_model.proofs.DecidedMore.{decided_more}
use Rattle.line_demands.proofs.Deciding.{same_test}
use Rattle.solid_model.specs.declared.frame.View.{View}
use Rattle.solid_model.specs.declared.frame.View.TheVariants.{Front, Top, Side}
use Rattle.solid_model.specs.declared.line_id.LineId.{LineId}
use Rattle.solid_model.specs.declared.segment.Style.{Style}
use Rattle.solid_model.specs.Blocks.{ProblemParts, block_at}
use Rattle.solid_model.specs.Demands.{box_cell_in, known_in, known_cell, known_column, known_after, known_before, line_style, CanDraw, CanBeMet}
use Rattle.solid_model.specs.Frames.{frame_of}
use Rattle.solid_model.specs.PerAxis.{numbers_of}
use Rattle.solid_model.specs.WalledBoxes.{Sizes, is_below, is_within, number_at}
use Rattle.solid_model.specs.GridBox.{grid_sizes, axis_along, axis_across}
use Rattle.lemmas.specs.Counts.{times_listed}

-- ---- marks of a block

-- what is known after a decision
pub known_more : (decisions : List Decision) (d : Decision) → decided_by decisions d.block ≡ None → (number : Option ℕ)
    → known_in (decided_by (decisions ++ d ∷ [])) number ≡ (if is_of d.block number then Some d.full else known_in (decided_by decisions) number)
known_more decisions d untaken None = refl
known_more decisions d untaken (Some b) = decided_more decisions d b untaken ∙ ap (λ (t : Bool). if t then Some d.full else decided_by decisions b) (same_test d.block b)

-- and before it
pub known_less : (decisions : List Decision) (d : Decision) → decided_by decisions d.block ≡ None → (number : Option ℕ)
    → known_in (decided_by decisions) number ≡ (if is_of d.block number then None else known_in (decided_by (decisions ++ d ∷ [])) number)
known_less decisions d untaken None = refl
known_less decisions d untaken (Some b) = by (b == d.block) refl
  where
    by : (t : Bool) → (b == d.block) ≡ t → decided_by decisions b ≡ (if b == d.block then None else decided_by (decisions ++ d ∷ []) b)
    by true e = ap (decided_by decisions) (eqb-true b d.block e) ∙ untaken ∙ ap (λ (t : Bool). if t then None else decided_by (decisions ++ d ∷ []) b) (sym e)
    by false e = sym (decided_more decisions d b untaken ∙ ap (λ (t : Bool). if t then Some d.full else decided_by decisions b) (same_test d.block b ∙ e))
        ∙ ap (λ (t : Bool). if t then None else decided_by (decisions ++ d ∷ []) b) (sym e)

-- spans of other columns
pub off_spans : (spans : List Span) (n k : ℕ) → All (λ s. s.column < n) spans → is_on spans n k ≡ false
off_spans spans n k inside = list_any_none (is_in_span n k) spans (λ i d l. none (get_or spans i d) (inside i d l))
  where
    none : (s : Span) → s.column < n → is_in_span n k s ≡ false
    none s l = elim (cases_Bool (s.column == n)) as (λ _. is_in_span n k s ≡ false) [
      | inl is ↦ absurd (let e = eqb-true s.column n is in omega arith)
      | inr other ↦ and_left (s.column == n) _ other
    ]

module _ (p : ProblemParts) (spans : List (List Span)) (are : AreSpans p spans) (b : ℕ) (there : b < p.blocks.count) (known later : ℕ → Option Bool) (mark : Option Bool)
    (told : (number : Option ℕ) → known_in later number ≡ (if is_of b number then mark else known_in known number)) where
  pub columns_set : (d : List Span) (old new : List KnownColumn) → AreKnownColumns p known old → length new ≡ length old → AreWithin new
      → ((c k : ℕ) → known_there new c k ≡ (if is_on (get_or spans b d) c k then mark else known_there old c k)) → AreKnownColumns p later new
  columns_set d old new kept long within set = record {
    count = long ∙ kept.count;
    within = within;
    each = λ v right up k l m. set (column_number (grid_sizes p.grid) v right up) k
        ∙ ap₂ (λ (t : Bool) x. if t then mark else x) (are.each b d v right up k there l m) (kept.each v right up k l m)
        ∙ sym (told (block_at p.blocks (shown_cell (grid_sizes p.grid) v right up (pos k))));
    beyond = λ k. set (column_count (grid_sizes p.grid)) k
        ∙ ap₂ (λ (t : Bool) x. if t then mark else x) (off_spans (get_or spans b d) (column_count (grid_sizes p.grid)) k (are.inside b d (let e = are.count in omega arith))) (kept.beyond k);
  }

-- ---- lines

-- the same columns draw the same
pub draw_from : (f g h i : ℤ → Option Bool) (s t : Style) → ((k : ℤ) → f k ≡ g k) → ((k : ℤ) → h k ≡ i k) → s ≡ t → CanDraw f h s → CanDraw g i t
draw_from f g h i s t after before style can =
    subst (λ (x : Style). CanDraw g i x) style
    (subst (λ (x : ℤ → Option Bool). CanDraw g x s) (λ u k. before k u)
    (subst (λ (x : ℤ → Option Bool). CanDraw x h s) (λ u k. after k u) can))

-- a column that a view shows beside a level or an upright line
pub same_shown : (sizes : Sizes) (v : View) (upright : Bool) (at cell : ℕ) (k : ℤ)
    → shown_cell sizes v (if upright then at else cell) (if upright then cell else at) k ≡ box_cell_in sizes (frame_of v) upright (pos cell) (pos at) k
same_shown sizes Front false at cell k = refl
same_shown sizes Front true at cell k = refl
same_shown sizes Top false at cell k = refl
same_shown sizes Top true at cell k = refl
same_shown sizes Side false at cell k = refl
same_shown sizes Side true at cell k = refl

pub in_width : (sizes : Sizes) (v : View) (upright : Bool) (at cell : ℕ) → at < sizes (axis_across v upright) → cell < sizes (axis_along v upright)
    → (if upright then at else cell) < view_width sizes v
in_width sizes v false at cell l m = m
in_width sizes v true at cell l m = l

pub in_height : (sizes : Sizes) (v : View) (upright : Bool) (at cell : ℕ) → at < sizes (axis_across v upright) → cell < sizes (axis_along v upright)
    → (if upright then cell else at) < view_height sizes v
in_height sizes v false at cell l m = l
in_height sizes v true at cell l m = m

module _ (p : ProblemParts) (sized : numbers_of p.blocks.sizes ≡ grid_sizes p.grid) (known : ℕ → Option Bool) where
  -- a cell outside is empty
  outside : (v : View) (upright : Bool) (i j k : ℤ) → (is_below (grid_sizes p.grid (axis_across v upright)) j && is_below (grid_sizes p.grid (frame_of v).away.axis) k) ≡ false
      → known_cell p.blocks known (box_cell_in (grid_sizes p.grid) (frame_of v) upright i j k) ≡ Some false
  outside v upright i j k beyond = ap (λ (t : Bool). known_in known (if t then number_at (numbers_of p.blocks.sizes) p.blocks.numbers (box_cell_in (grid_sizes p.grid) (frame_of v) upright i j k) else None))
      (ap (λ s. is_within s (box_cell_in (grid_sizes p.grid) (frame_of v) upright i j k)) sized ∙ shown_within (grid_sizes p.grid) v upright i j k
      ∙ and_right (is_below (grid_sizes p.grid (axis_along v upright)) i) _ beyond)

  module _ (columns : List KnownColumn) (are : AreKnownColumns p known columns) where
    -- what is known of a column beside a line
    pub column_known : (l : LineId) (j : ℤ) (c : ℕ) → l.cell < grid_sizes p.grid (axis_along l.view l.upright) → IsColumnOf (grid_sizes p.grid) l j c
        → (k : ℤ) → known_bits (column_there columns c).full (column_there columns c).may k ≡ known_column p.grid (known_cell p.blocks known) l j k
    column_known l j c cell (inl at) (pos k) = ap (λ n. known_there columns n k) at.3
        ∙ are.each l.view _ _ k (in_width (grid_sizes p.grid) l.view l.upright at.0 l.cell at.2 cell) (in_height (grid_sizes p.grid) l.view l.upright at.0 l.cell at.2 cell)
        ∙ ap (known_cell p.blocks known) (same_shown (grid_sizes p.grid) l.view l.upright at.0 l.cell (pos k)
        ∙ ap (λ x. box_cell_in (grid_sizes p.grid) (frame_of l.view) l.upright (pos l.cell) x (pos k)) (sym at.1))
    column_known l j c cell (inl at) (negsuc k) = sym (outside l.view l.upright (pos l.cell) j (negsuc k) (and_right (is_below (grid_sizes p.grid (axis_across l.view l.upright)) j) false refl))
    column_known l j c cell (inr none) (pos k) = ap (λ n. known_there columns n k) none.1 ∙ are.beyond k
        ∙ sym (outside l.view l.upright (pos l.cell) j (pos k) (and_left (is_below (grid_sizes p.grid (axis_across l.view l.upright)) j) _ none.0))
    column_known l j c cell (inr none) (negsuc k) = sym (outside l.view l.upright (pos l.cell) j (negsuc k) (and_right (is_below (grid_sizes p.grid (axis_across l.view l.upright)) j) false refl))

    -- so the columns tell whether the line can be met
    pub side_met : (b : Beside) → IsBeside p b → IsMetBy columns b ↔ CanBeMet p known b.line
    side_met b is =
        let l = b.line in
        let after = column_known l (pos l.at) b.after is.cell is.after in
        let before = column_known l (pos l.at -ℤ pos 1) b.before is.cell is.before in (
          draw_from _ (known_after p.grid (known_cell p.blocks known) l) _ (known_before p.grid (known_cell p.blocks known) l) b.style (line_style p.grid l) after before is.style,
          draw_from (known_after p.grid (known_cell p.blocks known) l) _ (known_before p.grid (known_cell p.blocks known) l) _ (line_style p.grid l) b.style (λ k. sym (after k)) (λ k. sym (before k)) (sym is.style),
        )

-- ---- one decision more

module _ (p : ProblemParts) (decisions : List Decision) (d : Decision) (untaken : decided_by decisions d.block ≡ None) where
  -- what is known stays known
  stays : (number : Option ℕ) (v : Bool) → known_in (decided_by decisions) number ≡ Some v → known_in (decided_by (decisions ++ d ∷ [])) number ≡ Some v
  stays number v e = by (is_of d.block number) (sym (known_less decisions d untaken number) ∙ e)
    where
      by : (t : Bool) → (if t then None else known_in (decided_by (decisions ++ d ∷ [])) number) ≡ Some v → known_in (decided_by (decisions ++ d ∷ [])) number ≡ Some v
      by true f = absurd (none-some v f)
      by false f = f

  -- a line that can be met could be before
  pub met_less : (l : LineId) → CanBeMet p (decided_by (decisions ++ d ∷ [])) l → CanBeMet p (decided_by decisions) l
  met_less l can = (can.0, can.1, (λ k v e. can.2 k v (stays (block_at p.blocks _) v e)), (λ k v e. can.3 k v (stays (block_at p.blocks _) v e)), can.4)

-- columns without a cell that is set stay as they were
pub same_column : (old new : List KnownColumn) (spans : List Span) (mark : Option Bool) (c : ℕ)
    → ((k : ℕ) → known_there new c k ≡ (if is_on spans c k then mark else known_there old c k)) → ((k : ℕ) → is_on spans c k ≡ false)
    → (k : ℤ) → known_bits (column_there new c).full (column_there new c).may k ≡ known_bits (column_there old c).full (column_there old c).may k
same_column old new spans mark c set off (pos k) = set k ∙ ap (λ (t : Bool). if t then mark else known_there old c k) (off k)
same_column old new spans mark c set off (negsuc k) = refl

-- a line beside such columns can be met where it could
pub same_met : (old new : List KnownColumn) (spans : List Span) (mark : Option Bool) (b : Beside)
    → ((c k : ℕ) → known_there new c k ≡ (if is_on spans c k then mark else known_there old c k))
    → ((k : ℕ) → (is_on spans b.after k ≡ false) × (is_on spans b.before k ≡ false)) → IsMetBy old b ↔ IsMetBy new b
same_met old new spans mark b set off =
    let after = same_column old new spans mark b.after (set b.after) (λ k. (off k).0) in
    let before = same_column old new spans mark b.before (set b.before) (λ k. (off k).1) in (
      draw_from _ _ _ _ b.style b.style (λ k. sym (after k)) (λ k. sym (before k)) refl,
      draw_from _ _ _ _ b.style b.style after before refl,
    )

module _ (p : ProblemParts) (sized : numbers_of p.blocks.sizes ≡ grid_sizes p.grid) (spans : List (List Span)) (touched : List (List ℕ)) (sides : List Beside)
    (plan : IsPlanOf p spans touched sides) (decisions : List Decision) (d : Decision) (there : d.block < p.blocks.count) (untaken : decided_by decisions d.block ≡ None)
    (old new : List KnownColumn) (before : AreKnownColumns p (decided_by decisions) old) (after : AreKnownColumns p (decided_by (decisions ++ d ∷ [])) new)
    (s : List Span) (set : (c k : ℕ) → known_there new c k ≡ (if is_on (get_or spans d.block s) c k then Some d.full else known_there old c k))
    (broken now : List ℕ) (so_far : (i : ℕ) (e : Beside) → i < length sides → (times_listed i broken ≡ 0) ↔ CanBeMet p (decided_by decisions) (get_or sides i e).line)
    (ls : List ℕ) (tried : AreTried new sides (get_or touched d.block ls) broken now) where
  -- the lines that are broken now are those that can't be met with the decision
  pub broken_more : (i : ℕ) (e : Beside) → i < length sides → (times_listed i now ≡ 0) ↔ CanBeMet p (decided_by (decisions ++ d ∷ [])) (get_or sides i e).line
  broken_more i e l = (to, from)
    where
      b : Beside
      b = get_or sides i e

      is : IsBeside p b
      is = plan.lines.each i e l

      old_met : IsMetBy old b ↔ CanBeMet p (decided_by decisions) b.line
      old_met = side_met p sized (decided_by decisions) old before b is

      new_met : IsMetBy new b ↔ CanBeMet p (decided_by (decisions ++ d ∷ [])) b.line
      new_met = side_met p sized (decided_by (decisions ++ d ∷ [])) new after b is

      was : (times_listed i broken ≡ 0) ↔ CanBeMet p (decided_by decisions) b.line
      was = so_far i e l

      to : times_listed i now ≡ 0 → CanBeMet p (decided_by (decisions ++ d ∷ [])) b.line
      to none = let both = (tried.each i e l).0 none in elim (cases_lt 0 (times_listed i (get_or touched d.block ls))) as (λ _. CanBeMet p (decided_by (decisions ++ d ∷ [])) b.line) [
        | inl some ↦ new_met.0 (both.1 some)
        | inr off ↦ (let untouched = (plan.beside.each d.block i s ls e (let a = plan.cells.count in omega arith) l) (omega arith) in
            new_met.0 ((same_met old new (get_or spans d.block s) (Some d.full) b set untouched).0 (old_met.1 (was.0 both.0))))
      ]

      from : CanBeMet p (decided_by (decisions ++ d ∷ [])) b.line → times_listed i now ≡ 0
      from can = (tried.each i e l).1 (was.1 (met_less p decisions d untaken b.line can), λ some. new_met.1 can)
