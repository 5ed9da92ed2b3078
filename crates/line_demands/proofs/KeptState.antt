-- What is kept, with one decision more or less.
use Rattle.std.proofs.Common.{◌≡◌, inl, inr, ◌↔◌, Bool, true, false, if◌then◌else◌, ◌==◌, pos, ◌-ℤ◌, IsTrue, ℕ, suc, ◌+◌, ◌<◌, ◌≤◌, List, [], ◌∷◌, ◌++◌, length, take, get_or, slice_get, Some, None, refl, ap, sym, subst, ◌∙◌, arith}
use Rattle.std.specs.Prelude.{All}
use Rattle.std.specs.List.{filter}
use Rattle.std.proofs.lemmas.List.{length-map, get_or-map}
use Rattle.std.proofs.lemmas.Option.{slice_get-get_or, slice_get_within, get_or_from_slice_get}
use Rattle.std.proofs.lemmas.Bool.{cases_Bool, eqb-true}
use Rattle.line_demands.specs.declared.known.KnownColumn.{KnownColumn}
use Rattle.line_demands.specs.declared.lines.Beside.{Beside}
use Rattle.solid_model.specs.declared.decision.Decision.{Decision}
use Rattle.line_demands.specs.declared.spans.Span.{Span}
use Rattle.solid_model.specs.Decisions.{decided_by}
use Rattle.line_demands.specs.Broken.{TellsBroken}
use Rattle.line_demands.specs.Free.{LeaveFreeBut, LeavesFree}
use Rattle.line_demands.specs.Lines.{AreMarked, AreBeside, AreTried, AreFreeAmong, IsMetBy, IsLeast}
use Rattle.line_demands.specs.Spans.{is_on, column_there, known_there, AreWithin}
use Rattle.line_demands.specs.KeptColumns.{column_count, IsColumnOf, IsBeside, IsKeptBy}
use Rattle.line_demands.specs.declared.seen.SeenLine.{SeenLine}
use Rattle.line_demands.specs.Gathered.{no_side}
use Rattle.line_demands.specs.Seen.{IsSeen}
use Rattle.line_demands.specs.Touching.{touches, lines_touching, touching}
use Rattle.line_demands.proofs.Deciding.{one_taken, one_untaken, last_untaken}
use Rattle.column_laws.proofs.AllLines.{lines_are_there}
use Rattle.line_demands.proofs.KeptColumns.{known_more, known_less, columns_set, column_known, broken_more, side_met}
use Rattle.line_demands.proofs.LeastBroken.{none_broken, some_broken}
use Rattle.line_demands.proofs.SeenCells.{line_free}
use Rattle.line_demands.proofs.Trails.{all_broken, trail_more, trail_less}
use Rattle.solid_model.specs.declared.line_id.LineId.{LineId}
use Rattle.solid_model.specs.Blocks.{ProblemParts, IsBlocksOf}
use Rattle.solid_model.specs.Demands.{has_line, lines_of, line_style, CanBeMet}
use Rattle.lemmas.specs.Lists.{Member}
use Rattle.solid_model.specs.Panels.{GridParts}
use Rattle.lemmas.proofs.ListPlaces.{member-at}
use Rattle.lemmas.specs.Counts.{one_if, times_listed}
use Rattle.solid_model.specs.PerAxis.{numbers_of}
use Rattle.solid_model.specs.GridBox.{grid_sizes, axis_along}

module _ (p : ProblemParts) (blocks : IsBlocksOf p.grid p.blocks) (spans : List (List Span)) (touched : List (List ℕ)) (sides : List Beside) where
  pub sizes_same : numbers_of p.blocks.sizes ≡ grid_sizes p.grid
  sizes_same = λ t a. blocks.sized a t

  -- one decision more: the columns are set, and the lines that touch the block are tried
  pub kept_more : (decisions : List Decision) (d : Decision) (old new : List KnownColumn) (met now_met : List Bool) (heights broken now : List ℕ) (room high wide : ℕ) (s : List Span) (ls : List ℕ)
      → IsKeptBy p decisions spans touched sides old met heights broken room high wide
      → d.block < p.blocks.count → decided_by decisions d.block ≡ None
      → length new ≡ length old → AreWithin new
      → ((c k : ℕ) → known_there new c k ≡ (if is_on (get_or spans d.block s) c k then Some d.full else known_there old c k))
      → length now_met ≡ length met → AreMarked now_met now → AreTried new sides (get_or touched d.block ls) broken now
      → IsKeptBy p (decisions ++ d ∷ []) spans touched sides new now_met (heights ++ length broken ∷ []) now room high wide
  kept_more decisions d old new met now_met heights broken now room high wide s ls kept there untaken long within set count marked tried =
      let after = columns_set p spans kept.plan.cells d.block there (decided_by decisions) (decided_by (decisions ++ d ∷ [])) (Some d.full) (known_more decisions d untaken) s old new kept.state.known long within set in
      record {
        decided = one_taken p.blocks.count decisions d kept.decided there untaken;
        roomy = kept.roomy;
        roomy_heights = kept.roomy_heights;
        roomy_lines = (let e = kept.roomy_lines in omega arith);
        plan = kept.plan;
        state = record {
          known = after;
          count = count ∙ kept.state.count;
          marked = marked;
          trail = trail_more p sides decisions d heights broken now kept.state.trail tried.begins
              (broken_more p sizes_same spans touched sides kept.plan decisions d there untaken old new kept.state.known after s set broken now
              (all_broken p sides decisions heights broken kept.state.trail) ls tried);
        };
      }

  -- one decision less: the columns are set free, and the lines that it broke are mended
  pub kept_less : (decisions : List Decision) (d : Decision) (old new : List KnownColumn) (met now_met : List Bool) (heights : List ℕ) (height : ℕ) (broken : List ℕ) (room high wide : ℕ) (s : List Span)
      → IsKeptBy p (decisions ++ d ∷ []) spans touched sides old met (heights ++ height ∷ []) broken room high wide
      → length new ≡ length old → AreWithin new
      → ((c k : ℕ) → known_there new c k ≡ (if is_on (get_or spans d.block s) c k then None else known_there old c k))
      → length now_met ≡ length met → AreMarked now_met (take height broken)
      → IsKeptBy p decisions spans touched sides new now_met heights (take height broken) room high wide
  kept_less decisions d old new met now_met heights height broken room high wide s kept long within set count marked =
      let untaken = last_untaken p.blocks.count decisions d kept.decided in
      let there = (kept.decided decisions [] d refl).0 in
      record {
        decided = one_untaken p.blocks.count decisions d kept.decided;
        roomy = kept.roomy;
        roomy_heights = kept.roomy_heights;
        roomy_lines = (let e = kept.roomy_lines in omega arith);
        plan = kept.plan;
        state = record {
          known = columns_set p spans kept.plan.cells d.block there (decided_by (decisions ++ d ∷ [])) (decided_by decisions) None (known_less decisions d untaken) s old new kept.state.known long within set;
          count = count ∙ kept.state.count;
          marked = marked;
          trail = trail_less p sides decisions d heights height broken kept.state.trail;
        };
      }

  -- the same, as calls leave it
  pub seen_as : (decisions : List Decision) (columns columns' : List KnownColumn) (met met' : List Bool) (heights broken broken' : List ℕ) (room room' high high' wide wide' : ℕ)
      → columns' ≡ columns → met' ≡ met → broken' ≡ broken → room' ≡ room → high' ≡ high → wide' ≡ wide
      → IsKeptBy p decisions spans touched sides columns met heights broken room high wide → IsKeptBy p decisions spans touched sides columns' met' heights broken' room' high' wide'
  seen_as decisions columns columns' met met' heights broken broken' room room' high high' wide wide' a b c d e f kept =
      subst (λ x. IsKeptBy p decisions spans touched sides x met' heights broken' room' high' wide') (sym a)
      (subst (λ x. IsKeptBy p decisions spans touched sides columns x heights broken' room' high' wide') (sym b)
      (subst (λ x. IsKeptBy p decisions spans touched sides columns met heights x room' high' wide') (sym c)
      (subst (λ x. IsKeptBy p decisions spans touched sides columns met heights broken x high' wide') (sym d)
      (subst (λ x. IsKeptBy p decisions spans touched sides columns met heights broken room x wide') (sym e)
      (subst (λ x. IsKeptBy p decisions spans touched sides columns met heights broken room high x) (sym f) kept)))))

  -- the columns beside lines are there
  pub sides_inside : (decisions : List Decision) (columns now : List KnownColumn) (met : List Bool) (heights broken : List ℕ) (room high wide : ℕ)
      → IsKeptBy p decisions spans touched sides columns met heights broken room high wide → length now ≡ length columns → AreBeside (length now) sides
  sides_inside decisions columns now met heights broken room high wide kept long i d l =
      let is = kept.plan.lines.each i d l in
      subst (λ n. ((get_or sides i d).after < n) × ((get_or sides i d).before < n)) (sym (long ∙ kept.state.known.count)) is.inside

-- a number of a list is below what all are below
pub times_below : (xs : List ℕ) (x n : ℕ) → All (λ y. y < n) xs → 0 < times_listed x xs → x < n
times_below [] x n below some = absurd (omega arith)
times_below (y ∷ ys) x n below some = elim (cases_Bool (y == x)) as (λ _. x < n) [
  | inl is ↦ subst (λ z. z < n) (eqb-true y x is) (below 0 0 (omega arith))
  | inr off ↦ times_below ys x n (λ k d l. below (suc k) d (omega arith)) (let e : one_if (y == x) ≡ 0 = ap one_if off in let f : times_listed x (y ∷ ys) ≡ one_if (y == x) + times_listed x ys = refl in omega arith)
]

-- what is known of a line that the grid has
pub is_beside : (p : ProblemParts) (g : GridParts) (b : Beside) (l : LineId) → g ≡ p.grid → b.line ≡ l → l.cell < grid_sizes g (axis_along l.view l.upright) → b.style ≡ line_style g l
    → IsColumnOf (grid_sizes g) l (pos l.at) b.after → IsColumnOf (grid_sizes g) l (pos l.at -ℤ pos 1) b.before
    → b.after < column_count (grid_sizes g) + 1 → b.before < column_count (grid_sizes g) + 1 → IsBeside p b
is_beside p g b l same e cell style after before inside_after inside_before = record {
  cell = subst (λ (h : GridParts). b.line.cell < grid_sizes h (axis_along b.line.view b.line.upright)) same (subst (λ (x : LineId). x.cell < grid_sizes g (axis_along x.view x.upright)) (sym e) cell);
  style = style ∙ (λ t. line_style (same t) (sym e t));
  inside = (subst (λ (h : GridParts). b.after < column_count (grid_sizes h) + 1) same inside_after, subst (λ (h : GridParts). b.before < column_count (grid_sizes h) + 1) same inside_before);
  after = subst (λ (h : GridParts). IsColumnOf (grid_sizes h) b.line (pos b.line.at) b.after) same (subst (λ (x : LineId). IsColumnOf (grid_sizes g) x (pos x.at) b.after) (sym e) after);
  before = subst (λ (h : GridParts). IsColumnOf (grid_sizes h) b.line (pos b.line.at -ℤ pos 1) b.before) same (subst (λ (x : LineId). IsColumnOf (grid_sizes g) x (pos x.at -ℤ pos 1) b.before) (sym e) before);
}

module _ (p : ProblemParts) (blocks : IsBlocksOf p.grid p.blocks) (spans : List (List Span)) (touched : List (List ℕ)) (sides : List Beside) (decisions : List Decision)
    (columns : List KnownColumn) (met : List Bool) (heights broken : List ℕ) (room high wide : ℕ) (kept : IsKeptBy p decisions spans touched sides columns met heights broken room high wide) where
  -- the columns tell whether a line can be met
  pub meet_told : (b : Beside) (l : LineId) (r : Bool) → IsBeside p b → b.line ≡ l → (IsTrue r ↔ IsMetBy columns b) → IsTrue r ↔ CanBeMet p (decided_by decisions) l
  meet_told b l r is e told =
      let met = side_met p (sizes_same p blocks spans touched sides) (decided_by decisions) columns kept.state.known b is in
      subst (λ (x : LineId). IsTrue r ↔ CanBeMet p (decided_by decisions) x) e ((λ true. met.0 (told.0 true)), (λ can. told.1 (met.1 can)))

  -- a broken line is one of all
  pub broken_there : (x : ℕ) → 0 < times_listed x broken → x < length sides
  broken_there x some = subst (λ n. x < n) kept.state.count (times_below broken x (length met) kept.state.marked.below some)

  pub first_none : IsLeast broken None → TellsBroken p (decided_by decisions) None
  first_none least = none_broken p (decided_by decisions) sides kept.plan.lines.listed broken (all_broken p sides decisions heights broken kept.state.trail) least

  pub first_some : (x : ℕ) (d : Beside) → IsLeast broken (Some x) → TellsBroken p (decided_by decisions) (Some (get_or sides x d).line)
  first_some x d least = some_broken p (decided_by decisions) sides kept.plan.lines.listed broken (all_broken p sides decisions heights broken kept.state.trail) x d (broken_there x least.there) least

  -- the line of a number
  pub line_there : (n : ℕ) (d : LineId) (e : Beside) → n < length sides → (get_or sides n e).line ≡ get_or (lines_of p.grid) n d
  line_there n d e l = sym (ap (λ ls. get_or ls n d) (sym kept.plan.lines.listed) ∙ get_or-map (λ (s : Beside). s.line) sides n e d l)

  -- so many lines are listed with a block as touch it,
  pub touched_count : (b : ℕ) (ls : List ℕ) → b < p.blocks.count → length (get_or touched b ls) ≡ touching p b
  touched_count b ls l = sym (length-map (get_or touched b ls) (λ i. (get_or sides i no_side).line))
      ∙ ap length (kept.plan.beside.exact b ls no_side (let f = kept.plan.cells.count in omega arith))

  -- those of the numbers that are listed, in the same order
  pub touched_there : (b k : ℕ) (ls : List ℕ) (e : ℕ) → b < p.blocks.count → k < touching p b → get_or (get_or touched b ls) k e < length sides
  touched_there b k ls e l m = kept.plan.beside.there b ls (let f = kept.plan.cells.count in let g = kept.plan.beside.count in omega arith) k e
      (let h = touched_count b ls l in omega arith)

  pub touched_line : (b k : ℕ) (ls : List ℕ) (e : ℕ) (d : LineId) → b < p.blocks.count → k < touching p b
      → slice_get (lines_touching p b) k ≡ Some (get_or (lines_of p.grid) (get_or (get_or touched b ls) k e) d)
  touched_line b k ls e d l m = slice_get-get_or (lines_touching p b) k d m
      ∙ ap Some (ap (λ ys. get_or ys k d) (sym (kept.plan.beside.exact b ls no_side (let f = kept.plan.cells.count in omega arith)))
      ∙ get_or-map (λ i. (get_or sides i no_side).line) (get_or touched b ls) k e d (let h = touched_count b ls l in omega arith)
      ∙ line_there (get_or (get_or touched b ls) k e) d no_side (touched_there b k ls e l m))

  -- what is seen of a line that the grid has,
  pub seen_at_told : (b : Beside) → IsBeside p b → IsTrue (has_line p.grid b.line) → (s : SeenLine)
      → s ≡ record { line = b.line; style = b.style; after = column_there columns b.after; before = column_there columns b.before } → IsSeen p (decided_by decisions) s
  seen_at_told b at has s seen = subst (IsSeen p (decided_by decisions)) (sym seen) record {
    has = has;
    style = at.style;
    within_after = kept.state.known.within b.after;
    within_before = kept.state.known.within b.before;
    after = column_known p (sizes_same p blocks spans touched sides) (decided_by decisions) columns kept.state.known b.line (pos b.line.at) b.after at.cell at.after;
    before = column_known p (sizes_same p blocks spans touched sides) (decided_by decisions) columns kept.state.known b.line (pos b.line.at -ℤ pos 1) b.before at.cell at.before;
  }

  -- and of the line of a number
  pub seen_told : (n : ℕ) (b : Beside) (d : Beside) → n < length sides → b ≡ get_or sides n d → (s : SeenLine)
      → s ≡ record { line = b.line; style = b.style; after = column_there columns b.after; before = column_there columns b.before } → IsSeen p (decided_by decisions) s
  seen_told n b d l is =
      seen_at_told b (subst (IsBeside p) (sym is) (kept.plan.lines.each n d l))
      (lines_are_there p.grid b.line (subst (Member (lines_of p.grid)) (sym (line_there n b.line d l) ∙ ap (λ (x : Beside). x.line) (sym is))
      (member-at (lines_of p.grid) n b.line (subst (λ m. n < m) (sym (length-map sides (λ (x : Beside). x.line)) ∙ ap length kept.plan.lines.listed) l))))

  -- where lines that are listed with a block leave the cells beside them free, those that touch it do
  pub free_told : (b : ℕ) (ls : List ℕ) (doubts : ℕ) → b < p.blocks.count → AreFreeAmong columns sides (get_or touched b ls) (length (get_or touched b ls)) broken doubts
      → LeaveFreeBut p (decided_by decisions) b doubts
  free_told b ls doubts l free place line at off met =
      let lines = get_or touched b ls in
      let within : place < length lines = (let m = slice_get_within (lines_touching p b) place line at in let e = touched_count b ls l in omega (arith, m, e)) in
      let i = get_or lines place 0 in
      let there : i < length sides = kept.plan.beside.there b ls (let f = kept.plan.cells.count in let g = kept.plan.beside.count in omega arith) place 0 within in
      let side = get_or sides i no_side in
      let is : side.line ≡ line = sym (get_or-map (λ n. (get_or sides n no_side).line) lines place 0 line within)
      ∙ ap (λ xs. get_or xs place line) (kept.plan.beside.exact b ls no_side (let f = kept.plan.cells.count in omega arith)) ∙ get_or_from_slice_get (lines_touching p b) place line line at in
      let seen : SeenLine = record { line = side.line; style = side.style; after = column_there columns side.after; before = column_there columns side.before } in
      let unbroken = (all_broken p sides decisions heights broken kept.state.trail i no_side there).1 (subst (CanBeMet p (decided_by decisions)) (sym is) met) in
      let both = free place 0 no_side within off unbroken in
      subst (LeavesFree p (decided_by decisions)) is (line_free p (decided_by decisions) seen (seen_told i side no_side there refl seen refl) both.0 both.1)

  -- few lines touch a block
  pub few_touched : (b : ℕ) (ls : List ℕ) → b < p.blocks.count → length (get_or touched b ls) ≤ 24192
  few_touched b ls l =
      let e = touched_count b ls l in
      let few = kept.plan.few in
      let same = ap length (sym kept.plan.lines.listed) ∙ length-map sides (λ s. s.line) in
      let less = filter_less (touches p b) (lines_of p.grid) in omega arith
    where
      filter_less : (q : LineId → Bool) (xs : List LineId) → length (filter q xs) ≤ length xs
      filter_less q [] = omega arith
      filter_less q (x ∷ xs) = by (q x) (filter_less q xs)
        where
          by : (t : Bool) → length (filter q xs) ≤ length xs → length (if t then x ∷ filter q xs else filter q xs) ≤ length (x ∷ xs)
          by true l = omega arith
          by false l = omega arith
