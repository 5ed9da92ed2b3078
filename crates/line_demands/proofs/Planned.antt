-- What was gathered is the plan of a problem, while no block is decided.
use Rattle.std.proofs.Common.{◌≡◌, ◌↔◌, inl, inr, Bool, true, false, if◌then◌else◌, ◌&&◌, ◌==◌, nat_lt, ℕ, ◌+◌, ◌-◌, ◌*◌, ◌<◌, ◌≤◌, List, [], ◌∷◌, ◌++◌, length, map, take, get_or, Option, Some, None, refl, ap, sym, subst, ◌∙◌, arith}
use Rattle.std.proofs.lemmas.List.Elements.{All-push}
use Rattle.std.specs.Prelude.{All, IfSome}
use Rattle.std.proofs.Math.Nat.{le_refl, mul-add-mod_self_right, mod-eq_of_lt}
use Rattle.line_demands.proofs.SpanMarks.{none_known}
use Rattle.solid_model.specs.Demands.{known_in, CanBeMet}
use Rattle.std.proofs.lemmas.Bool.{cases_Bool, cases_lt, eqb-true, lt-ltb, le-ltb, and_right, and_left}
use Rattle.std.proofs.lemmas.List.{length_push, get_or_append_left, take_all}
use Rattle.std.proofs.lemmas.Nat.{div-mul-add}
use Rattle.std.proofs.Math.Seq.{get_or-append_seam}
use Rattle.line_demands.specs.declared.known.KnownColumn.{KnownColumn}
use Rattle.solid_model.specs.Known.{LiesWithin}
use Rattle.line_demands.specs.declared.gather.ColumnPlace.{ColumnPlace}
use Rattle.line_demands.specs.declared.lines.Beside.{Beside}
use Rattle.solid_model.specs.declared.decision.Decision.{Decision}
use Rattle.line_demands.specs.declared.spans.Span.{Span}
use Rattle.line_demands.specs.Touching.{is_of, view_width, view_height, lines_touching}
use Rattle.solid_model.specs.Decisions.{decided_by}
use Rattle.line_demands.specs.Gathered.{place_in_view, place_numbered, block_of_place, block_of_column, AreGatheredTo, AreTouchedTo}
use Rattle.line_demands.specs.KeptColumns.{columns_before, column_count, column_number, AreKnownColumns, AreSpans, AreSides, IsTrail, IsKeptBy}
use Rattle.line_demands.specs.Lines.{AreMarked, AreBrokenTo, AreBeside}
use Rattle.line_demands.specs.Spans.{is_on, no_column, column_there, known_there}
use Rattle.line_demands.proofs.Deciding.{none_taken}
use Rattle.line_demands.proofs.ColumnPlaces.{in_view, number_inside}
use Rattle.line_demands.proofs.GatheredColumns.{at_push}
use Rattle.line_demands.proofs.Gathering.{times_at, block_below}
use Rattle.line_demands.proofs.KeptColumns.{side_met}
use Rattle.solid_model.specs.declared.frame.View.{View}
use Rattle.solid_model.specs.declared.frame.View.TheVariants.{Front, Top, Side}
use Rattle.solid_model.specs.Blocks.{ProblemParts, IsBlocksOf}
use Rattle.solid_model.specs.WalledBoxes.{Sizes}
use Rattle.solid_model.specs.GridBox.{grid_sizes}
use Rattle.lemmas.specs.Counts.{times_listed}

-- ---- the number of a column tells where it stands

abbrev pub at_place : View → ℕ → ℕ → ColumnPlace
at_place v right up = record { view = v; right = right; up = up }

in_place : (sizes : Sizes) (v : View) (right up : ℕ) → right < view_width sizes v → place_in_view sizes v (up * view_width sizes v + right) ≡ at_place v right up
in_place sizes v right up l = λ t. record {
  view = v;
  right = (mul-add-mod_self_right up (view_width sizes v) right ∙ mod-eq_of_lt l) t;
  up = div-mul-add up (view_width sizes v) right l t;
}

abbrev chosen : Sizes → ℕ → Bool → Bool → ColumnPlace
chosen sizes n t u = if t then place_in_view sizes Front n else (if u then place_in_view sizes Top (n - columns_before sizes Top) else place_in_view sizes Side (n - columns_before sizes Side))

pub place_own : (sizes : Sizes) (v : View) (right up : ℕ) → right < view_width sizes v → up < view_height sizes v → place_numbered sizes (column_number sizes v right up) ≡ at_place v right up
place_own sizes Front right up l m =
    let n = column_number sizes Front right up in
    let inside = in_view sizes Front right up l m in
    let t : nat_lt n (columns_before sizes Top) ≡ true = lt-ltb n (columns_before sizes Top) (omega arith) in
    let e : n ≡ up * view_width sizes Front + right = omega arith in
    ap (λ x. chosen sizes n x (nat_lt n (columns_before sizes Side))) t ∙ ap (place_in_view sizes Front) e ∙ in_place sizes Front right up l
place_own sizes Top right up l m =
    let n = column_number sizes Top right up in
    let inside = in_view sizes Top right up l m in
    let t : nat_lt n (columns_before sizes Top) ≡ false = le-ltb n (columns_before sizes Top) (omega arith) in
    let u : nat_lt n (columns_before sizes Side) ≡ true = lt-ltb n (columns_before sizes Side) (omega arith) in
    let e : n - columns_before sizes Top ≡ up * view_width sizes Top + right = omega arith in
    ap (λ x. chosen sizes n x (nat_lt n (columns_before sizes Side))) t ∙ ap (chosen sizes n false) u ∙ ap (place_in_view sizes Top) e ∙ in_place sizes Top right up l
place_own sizes Side right up l m =
    let n = column_number sizes Side right up in
    let inside = in_view sizes Side right up l m in
    let t : nat_lt n (columns_before sizes Top) ≡ false = le-ltb n (columns_before sizes Top) (omega arith) in
    let u : nat_lt n (columns_before sizes Side) ≡ false = le-ltb n (columns_before sizes Side) (omega arith) in
    let e : n - columns_before sizes Side ≡ up * view_width sizes Side + right = omega arith in
    ap (λ x. chosen sizes n x (nat_lt n (columns_before sizes Side))) t ∙ ap (chosen sizes n false) u ∙ ap (place_in_view sizes Side) e ∙ in_place sizes Side right up l

-- ---- columns and spans

of_none : (b n : ℕ) (r : Option ℕ) → IfSome r (λ x. x < n) → n ≤ b → is_of b r ≡ false
of_none b n None below over = refl
of_none b n (Some x) below over = elim (cases_Bool (x == b)) as (λ _. (x == b) ≡ false) [ inl is ↦ absurd (let e = eqb-true x b is in omega arith) | inr off ↦ off ]

module _ (p : ProblemParts) (blocks : IsBlocksOf p.grid p.blocks) (spans : List (List Span)) (columns : List KnownColumn) (on : List (List ℕ))
    (gathered : AreGatheredTo p (column_count (grid_sizes p.grid)) spans columns on) where
  abbrev pub count : ℕ
  count = column_count (grid_sizes p.grid)

  pub block_own : (v : View) (right up k : ℕ) → right < view_width (grid_sizes p.grid) v → up < view_height (grid_sizes p.grid) v
      → block_of_column p (column_number (grid_sizes p.grid) v right up) k ≡ block_of_place p (at_place v right up) k
  block_own v right up k l m = ap (λ x. block_of_place p x k) (place_own (grid_sizes p.grid) v right up l m)

  pub planned_columns : AreKnownColumns p (decided_by []) (columns ++ no_column ∷ [])
  planned_columns = record {
    count = (let e = length_push columns no_column in let f = gathered.count_columns in omega arith);
    within = at_push columns no_column (λ c x. LiesWithin x.full x.may) (λ c l. gathered.within c) (λ k set. set) (λ c l k set. set);
    each = λ v right up k l m.
        let n = column_number (grid_sizes p.grid) v right up in
        let inside = number_inside (grid_sizes p.grid) v right up l m in
        ap (λ (x : KnownColumn). known_there (x ∷ []) 0 k) (get_or_append_left columns (no_column ∷ []) no_column n (let f = gathered.count_columns in omega arith))
        ∙ gathered.known n k inside ∙ ap (known_in (decided_by [])) (block_own v right up k l m);
    beyond = λ k. ap (λ (x : KnownColumn). known_there (x ∷ []) 0 k) (ap (column_there (columns ++ no_column ∷ [])) (sym gathered.count_columns) ∙ get_or-append_seam columns no_column [] no_column) ∙ none_known k;
  }

  pub planned_spans : AreSpans p spans
  planned_spans = record {
    count = gathered.count;
    inside = gathered.inside count (le_refl count);
    each = λ b d v right up k l m n.
        let c = column_number (grid_sizes p.grid) v right up in
        let inside = number_inside (grid_sizes p.grid) v right up m n in
        gathered.each b d c k l ∙ ap (λ t. t && is_of b (block_of_column p c k)) (lt-ltb c count inside) ∙ ap (is_of b) (block_own v right up k m n);
  }

  -- the blocks of columns are there
  pub on_below : (c : ℕ) (ls : List ℕ) → c < count → All (λ b. b < p.blocks.count) (get_or on c ls)
  on_below c ls l i d m = elim (cases_lt (get_or (get_or on c ls) i d) p.blocks.count) as (λ _. get_or (get_or on c ls) i d < p.blocks.count) [
    | inl there ↦ there
    | inr over ↦ absurd (let b = get_or (get_or on c ls) i d in
        let none = (gathered.which c b ls l).1 (λ k. of_none b p.blocks.count (block_of_column p c k) (block_below p blocks _) over) in
        let some = times_at (get_or on c ls) i d b m refl in omega arith)
  ]

  -- ---- touched lines

  module _ (sides : List Beside) (touched : List (List ℕ)) (listed : AreTouchedTo sides (on ++ [] ∷ []) p.blocks.count (length sides) touched) (inside : AreBeside (count + 1) sides) where
    off : (b c k : ℕ) (s : List Span) → b < p.blocks.count → c < count + 1 → times_listed b (get_or (on ++ [] ∷ []) c []) ≡ 0 → is_on (get_or spans b s) c k ≡ false
    off b c k s l m none = gathered.each b s c k l ∙ (elim (cases_lt c count) as (λ _. (nat_lt c count && is_of b (block_of_column p c k)) ≡ false) [
      | inl n ↦ and_right (nat_lt c count) _ ((gathered.which c b [] n).0 (ap (times_listed b) (sym (get_or_append_left on ([] ∷ []) [] c (let f = gathered.count_on in omega arith))) ∙ none) k)
      | inr n ↦ and_left (nat_lt c count) _ (le-ltb c count n)
    ])

    pub planned_each : (b i : ℕ) (s : List Span) (ls : List ℕ) (d : Beside) → b < length spans → i < length sides → times_listed i (get_or touched b ls) ≡ 0
        → (k : ℕ) → (is_on (get_or spans b s) (get_or sides i d).after k ≡ false) × (is_on (get_or spans b s) (get_or sides i d).before k ≡ false)
    planned_each b i s ls d l m none k =
        let there : b < p.blocks.count = (let e = gathered.count in omega arith) in
        let both = (listed.each b i ls [] d there m m).0 none in
        (off b (get_or sides i d).after k s there (inside i d m).0 both.0, off b (get_or sides i d).before k s there (inside i d m).1 both.1)

    pub planned_there : All (λ ls. All (λ i. i < length sides) ls) touched
    planned_there b ls l i d m = elim (cases_lt (get_or (get_or touched b ls) i d) (length sides)) as (λ _. get_or (get_or touched b ls) i d < length sides) [
      | inl there ↦ there
      | inr over ↦ absurd (let x = get_or (get_or touched b ls) i d in
          let none = listed.later b x ls (let e = listed.count in omega arith) over in
          let some = times_at (get_or touched b ls) i d x m refl in omega arith)
    ]

-- ---- no decisions yet

pub planned_trail : (p : ProblemParts) (sides : List Beside) (broken : List ℕ) → ((i : ℕ) (d : Beside) → i < length sides → (times_listed i broken ≡ 0) ↔ CanBeMet p (decided_by []) (get_or sides i d).line)
    → IsTrail p sides [] [] broken
planned_trail p sides broken told = record {
  count = refl;
  ordered = λ m n l. (omega arith);
  each = λ n i d l m. let e : n ≡ 0 = omega arith in
      subst (λ (ds : List Decision). (times_listed i (take (length broken) broken) ≡ 0) ↔ CanBeMet p (decided_by ds) (get_or sides i d).line) (sym (ap (λ j. take j []) e))
      (subst (λ bs. (times_listed i bs ≡ 0) ↔ CanBeMet p (decided_by []) (get_or sides i d).line) (sym (take_all (length broken) broken (omega arith))) (told i d m));
}

-- all of it
pub planned : (p : ProblemParts) → IsBlocksOf p.grid p.blocks → (spans : List (List Span)) (columns : List KnownColumn) (on touched : List (List ℕ)) (sides : List Beside) (met : List Bool) (broken : List ℕ) (room high wide : ℕ)
    → AreGatheredTo p (column_count (grid_sizes p.grid)) spans columns on → AreSides p sides → length sides ≤ 24192 → AreTouchedTo sides (on ++ [] ∷ []) p.blocks.count (length sides) touched
    → ((b : ℕ) (ls : List ℕ) (d : Beside) → b < length spans → map (λ i. (get_or sides i d).line) (get_or touched b ls) ≡ lines_touching p b)
    → length met ≡ length sides → AreMarked met broken → AreBrokenTo (columns ++ no_column ∷ []) sides (length sides) broken
    → p.blocks.count ≤ room → p.blocks.count ≤ high → length met ≤ wide
    → IsKeptBy p [] spans touched sides (columns ++ no_column ∷ []) met [] broken room high wide
planned p blocks spans columns on touched sides met broken room high wide gathered lines few listed exact count marked lost roomy tall broad = record {
  decided = none_taken p.blocks.count;
  roomy = roomy;
  roomy_heights = tall;
  roomy_lines = broad;
  plan = record {
    cells = planned_spans p blocks spans columns on gathered;
    lines = lines;
    few = few;
    beside = record {
      count = listed.count ∙ sym gathered.count;
      there = planned_there p blocks spans columns on gathered sides touched listed inside;
      each = planned_each p blocks spans columns on gathered sides touched listed inside;
      exact = exact;
    };
  };
  state = record {
    known = all_columns;
    count = count;
    marked = marked;
    trail = planned_trail p sides broken (λ i d l.
        let met_now = side_met p (λ t a. blocks.sized a t) (decided_by []) (columns ++ no_column ∷ []) all_columns (get_or sides i d) (lines.each i d l) in
        let told = lost.before i d l l in ((λ none. met_now.0 (told.0 none)), (λ can. told.1 (met_now.1 can))));
  };
}
  where
    all_columns : AreKnownColumns p (decided_by []) (columns ++ no_column ∷ [])
    all_columns = planned_columns p blocks spans columns on gathered

    inside : AreBeside (column_count (grid_sizes p.grid) + 1) sides
    inside i d l = (lines.each i d l).inside

pub on_all : (p : ProblemParts) → IsBlocksOf p.grid p.blocks → (spans : List (List Span)) (columns : List KnownColumn) (on : List (List ℕ)) (n : ℕ) (new : List ℕ)
    → AreGatheredTo p (column_count (grid_sizes p.grid)) spans columns on → n ≡ p.blocks.count → new ≡ [] → All (λ bs. All (λ b. b < n) bs) (on ++ new ∷ [])
on_all p blocks spans columns on n new gathered size none = All-push (λ bs. All (λ b. b < n) bs) on new
    (λ c ls l. subst (λ m. All (λ b. b < m) (get_or on c ls)) (sym size) (on_below p blocks spans columns on gathered c ls (let e = gathered.count_on in omega arith)))
    (λ i d l. absurd (let e = ap length none in omega arith))

-- the same, as calls leave it
pub planned_as : (p : ProblemParts) (ds : List Decision) (spans spans' : List (List Span)) (touched touched' : List (List ℕ)) (sides : List Beside) (columns columns' : List KnownColumn) (met met' : List Bool) (hs broken : List ℕ) (room high wide : ℕ)
    → ds ≡ [] → spans' ≡ spans → touched' ≡ touched → columns' ≡ columns → met' ≡ met → hs ≡ []
    → IsKeptBy p [] spans touched sides columns met [] broken room high wide → IsKeptBy p ds spans' touched' sides columns' met' hs broken room high wide
planned_as p ds spans spans' touched touched' sides columns columns' met met' hs broken room high wide a b c d e f kept =
    subst (λ (x : List Decision). IsKeptBy p x spans' touched' sides columns' met' hs broken room high wide) (sym a)
    (subst (λ x. IsKeptBy p [] x touched' sides columns' met' hs broken room high wide) (sym b)
    (subst (λ x. IsKeptBy p [] spans x sides columns' met' hs broken room high wide) (sym c)
    (subst (λ x. IsKeptBy p [] spans touched sides x met' hs broken room high wide) (sym d)
    (subst (λ x. IsKeptBy p [] spans touched sides columns x hs broken room high wide) (sym e)
    (subst (λ x. IsKeptBy p [] spans touched sides columns met x broken room high wide) (sym f) kept)))))
