-- A plan is gathered cell by cell and line by line.
use Rattle.std.proofs.Common.{◌≡◌, ◌↔◌, inl, inr, Bool, true, false, if◌then◌else◌, ◌&&◌, ◌||◌, ◌==◌, nat_lt, ℕ, zero, suc, ◌+◌, ◌<◌, List, [], ◌∷◌, ◌++◌, length, get_or, Option, Some, None, refl, ap, sym, subst, ◌∙◌, arith}
use Rattle.std.specs.Prelude.{All, is_some, IfSome}
use Rattle.std.proofs.lemmas.Bool.{cases_Bool, cases_lt, eqb-true, eqb-false, eq-eqb}
use Rattle.line_demands.specs.declared.known.KnownColumn.{KnownColumn}
use Rattle.line_demands.specs.declared.gather.ColumnPlace.{ColumnPlace}
use Rattle.line_demands.specs.declared.lines.Beside.{Beside}
use Rattle.line_demands.specs.declared.spans.Span.{Span}
use Rattle.line_demands.specs.Touching.{is_of}
use Rattle.line_demands.specs.Gathered.{block_of_place, AreAddedTo, IsListed, IsGatheredTo}
use Rattle.line_demands.specs.Spans.{is_on}
use Rattle.lemmas.specs.Bits.{is_set}
use Rattle.lemmas.specs.Counts.{one_if, times_listed}
use Rattle.line_demands.specs.Lines.{IsMetBy, AreBrokenTo}
use Rattle.line_demands.specs.Plans.{IsAddedOnce}
use Rattle.line_demands.proofs.MarkedLines.{last_there, last_other}
use Rattle.solid_model.specs.declared.cell.Cell.{Cell}
use Rattle.solid_model.specs.Blocks.{ProblemParts, IsBlocksOf, block_at}
use Rattle.solid_model.specs.PerAxis.{numbers_of}
use Rattle.solid_model.specs.WalledBoxes.{is_within, number_at}
use Rattle.solid_model.specs.GridBox.{grid_sizes}

-- ---- lists

-- what stands at a place is there
pub times_at : (xs : List ℕ) (i d x : ℕ) → i < length xs → get_or xs i d ≡ x → 0 < times_listed x xs
times_at [] i d x l e = absurd (omega arith)
times_at (y ∷ ys) zero d x l e = let f : times_listed x (y ∷ ys) ≡ one_if (y == x) + times_listed x ys = refl in
    let g : one_if (y == x) ≡ 1 = ap one_if (eq-eqb y x e) in omega arith
times_at (y ∷ ys) (suc i) d x l e = let f : times_listed x (y ∷ ys) ≡ one_if (y == x) + times_listed x ys = refl in
    let g = times_at ys i d x (omega arith) e in omega arith

-- a number that is there isn't added
pub once_there : (x : ℕ) (old : List ℕ) → 0 < times_listed x old → IsAddedOnce x old old
once_there x old some n = (
  (λ none. (
    none,
    elim (cases_Bool (x == n)) as (λ _. (x == n) ≡ false) [
      | inl is ↦ absurd (let e : x ≡ n = eqb-true x n is in let f = ap (λ m. times_listed m old) e in omega arith)
      | inr off ↦ off
    ],
  )),
  (λ both. both.0),
)

-- one that isn't is
pub once_new : (x : ℕ) (old : List ℕ) → IsAddedOnce x old (old ++ x ∷ [])
once_new x old n = (
  (λ none. elim (cases_Bool (x == n)) as (λ _. (times_listed n old ≡ 0) × ((x == n) ≡ false)) [
    | inl is ↦ absurd (let e : x ≡ n = eqb-true x n is in let f = ap (λ m. times_listed m (old ++ x ∷ [])) e in let g = last_there old x in omega arith)
    | inr off ↦ (sym (last_other old x n off) ∙ none, off)
  ]),
  (λ both. last_other old x n both.1 ∙ both.0),
)

-- ---- blocks

pub block_below : (p : ProblemParts) → IsBlocksOf p.grid p.blocks → (n : Cell) → IfSome (block_at p.blocks n) (λ b. b < p.blocks.count)
block_below p blocks n = by (is_within (numbers_of p.blocks.sizes) n) refl
  where
    sized : numbers_of p.blocks.sizes ≡ grid_sizes p.grid
    sized = λ t a. blocks.sized a t

    told : (r : Option ℕ) → number_at (grid_sizes p.grid) p.blocks.numbers n ≡ r → is_within (grid_sizes p.grid) n ≡ true → IfSome r (λ b. b < p.blocks.count)
    told None e within = tt
    told (Some b) e within = blocks.blocks.below n b within e

    by : (t : Bool) → is_within (numbers_of p.blocks.sizes) n ≡ t → IfSome (block_at p.blocks n) (λ b. b < p.blocks.count)
    by true e = subst (λ r. IfSome r (λ b. b < p.blocks.count)) (sym (ap (λ (t : Bool). if t then number_at (numbers_of p.blocks.sizes) p.blocks.numbers n else None) e))
        (told (number_at (numbers_of p.blocks.sizes) p.blocks.numbers n) (ap (λ s. number_at s p.blocks.numbers n) (sym sized)) (ap (λ s. is_within s n) (sym sized) ∙ e))
    by false e = subst (λ r. IfSome r (λ b. b < p.blocks.count)) (sym (ap (λ (t : Bool). if t then number_at (numbers_of p.blocks.sizes) p.blocks.numbers n else None) e)) tt

-- ---- broken lines

module _ (columns : List KnownColumn) (sides : List Beside) where
  pub none_broken_yet : AreBrokenTo columns sides 0 []
  none_broken_yet = record { before = λ i d l m. absurd (omega arith); after = λ i l. refl }

  pub one_met : (n : ℕ) (broken : List ℕ) → AreBrokenTo columns sides n broken → ((e : Beside) → n < length sides → IsMetBy columns (get_or sides n e)) → AreBrokenTo columns sides (n + 1) broken
  one_met n broken so_far met = record {
    before = λ i e l m. elim (cases_lt i n) as (λ _. (times_listed i broken ≡ 0) ↔ IsMetBy columns (get_or sides i e)) [
      | inl k ↦ so_far.before i e k m
      | inr k ↦ (let f : n ≡ i = omega arith in ((λ none. subst (λ j. IsMetBy columns (get_or sides j e)) f (met e (omega arith))), (λ can. so_far.after i (omega arith))))
    ];
    after = λ i l. so_far.after i (omega arith);
  }

  pub one_broken : (n : ℕ) (broken : List ℕ) → AreBrokenTo columns sides n broken → ((e : Beside) → n < length sides → IsMetBy columns (get_or sides n e) → ⊥) → AreBrokenTo columns sides (n + 1) (broken ++ n ∷ [])
  one_broken n broken so_far lost = record {
    before = λ i e l m. elim (cases_lt i n) as (λ _. (times_listed i (broken ++ n ∷ []) ≡ 0) ↔ IsMetBy columns (get_or sides i e)) [
      | inl k ↦ (let other = last_other broken n i (off n i (omega arith)) in let was = so_far.before i e k m in ((λ none. was.0 (sym other ∙ none)), (λ can. other ∙ was.1 can)))
      | inr k ↦ (let f : n ≡ i = omega arith in (
        (λ none. absurd (let g = ap (λ j. times_listed j (broken ++ n ∷ [])) f in let h = last_there broken n in omega arith)),
        (λ can. absurd (lost e (omega arith) (subst (λ j. IsMetBy columns (get_or sides j e)) (sym f) can))),
      ))
    ];
    after = λ i l. last_other broken n i (off n i (omega arith)) ∙ so_far.after i (omega arith);
  }
    where
      off : (n i : ℕ) → (n ≡ i → ⊥) → (n == i) ≡ false
      off n i other = elim (cases_Bool (n == i)) as (λ _. (n == i) ≡ false) [ inl is ↦ absurd (other (eqb-true n i is)) | inr no_ ↦ no_ ]

-- ---- cells

pub and_some : (x : Bool) (b : ℕ) → x ≡ (x && is_some (Some b))
and_some true b = refl
and_some false b = refl

pub no_more : (k n : ℕ) → nat_lt k (n + 1) ≡ (nat_lt k n || (n == k))
no_more k n = grind arith

-- two tests joined
merge : (a t s r : Bool) → (t ≡ true → r ≡ s) → ((a && s) || (t && r)) ≡ ((a || t) && s)
merge true true true r same = refl
merge true true false r same = same refl
merge false true s r same = same refl
merge true false true r same = refl
merge true false false r same = refl
merge false false s r same = refl

regroup : (o x y z : Bool) → ((o || (x && y)) || (x && z)) ≡ (o || (x && (y || z)))
regroup true x y z = refl
regroup false true y z = refl
regroup false false y z = refl

with_none : (o x t : Bool) → o ≡ (o || (x && (t && false)))
with_none true x t = refl
with_none false true true = refl
with_none false true false = refl
with_none false false t = refl

with_one : (o x t : Bool) → (o || (x && t)) ≡ (o || (x && (t && true)))
with_one o x true = refl
with_one o true false = refl
with_one o false false = refl

-- a cell of a block more, seen in all lists
added_on : (r : Option ℕ) (number n : ℕ) (old new : List (List Span)) → AreAddedTo r number n old new → (b : ℕ) (d : List Span) (c k : ℕ) → b < length old
    → is_on (get_or new b d) c k ≡ (is_on (get_or old b d) c k || ((number == c) && ((n == k) && is_of b r)))
added_on None number n old new same b d c k l = ap (λ ss. is_on (get_or ss b d) c k) same ∙ with_none (is_on (get_or old b d) c k) (number == c) (n == k)
added_on (Some x) number n old new added b d c k l = elim (cases_Bool (x == b)) as (λ _. is_on (get_or new b d) c k ≡ (is_on (get_or old b d) c k || ((number == c) && ((n == k) && (x == b))))) [
  | inl is ↦ (let e : x ≡ b = eqb-true x b is in
      subst (λ j. is_on (get_or new j d) c k ≡ (is_on (get_or old j d) c k || ((number == c) && (n == k)))) e ((added.2 d).0 c k)
      ∙ with_one (is_on (get_or old b d) c k) (number == c) (n == k) ∙ ap (λ t. is_on (get_or old b d) c k || ((number == c) && ((n == k) && t))) (sym is))
  | inr off ↦ ap (λ ss. is_on ss c k) (added.1 b d l (λ e. eqb-false x b off (sym e))) ∙ with_none (is_on (get_or old b d) c k) (number == c) (n == k)
      ∙ ap (λ t. is_on (get_or old b d) c k || ((number == c) && ((n == k) && t))) (sym off)
]

module _ (p : ProblemParts) (at : ColumnPlace) (number : ℕ) (old : List (List Span)) where
  pub gathered_more : (n : ℕ) (spans new : List (List Span)) (on now : List ℕ) (may cells : ℕ) (r : Option ℕ) → IsGatheredTo p at number n old spans on may
      → r ≡ block_of_place p at n → AreAddedTo r number n spans new → IsListed r on now
      → ((k : ℕ) → is_set cells k ≡ (is_set may k || ((n == k) && is_some r)))
      → IsGatheredTo p at number (n + 1) old new now cells
  gathered_more n spans new on now may cells r so_far is added listed set = record {
    count = counted r added ∙ so_far.count;
    cells = λ k. set k ∙ ap (λ x. x || ((n == k) && is_some r)) (so_far.cells k)
        ∙ merge (nat_lt k n) (n == k) (is_some (block_of_place p at k)) (is_some r) (λ e. ap is_some (here k e))
        ∙ ap (λ x. x && is_some (block_of_place p at k)) (sym (no_more k n));
    each = λ b d c k l. added_on r number n spans new added b d c k (subst (λ m. b < m) (sym so_far.count) l)
        ∙ ap (λ x. x || ((number == c) && ((n == k) && is_of b r))) (so_far.each b d c k l)
        ∙ regroup (is_on (get_or old b d) c k) (number == c) (nat_lt k n && is_of b (block_of_place p at k)) ((n == k) && is_of b r)
        ∙ ap (λ x. is_on (get_or old b d) c k || ((number == c) && x)) (merge (nat_lt k n) (n == k) (is_of b (block_of_place p at k)) (is_of b r) (λ e. ap (is_of b) (here k e))
        ∙ ap (λ x. x && is_of b (block_of_place p at k)) (sym (no_more k n)));
    inside = λ m all l. inside r added m (so_far.inside m all l) l;
    which = λ b. which b r is listed;
  }
    where
      here : (k : ℕ) → (n == k) ≡ true → r ≡ block_of_place p at k
      here k e = is ∙ ap (block_of_place p at) (eqb-true n k e)

      counted : (s : Option ℕ) → AreAddedTo s number n spans new → length new ≡ length spans
      counted None same = ap length same
      counted (Some b) more = more.0

      inside : (s : Option ℕ) → AreAddedTo s number n spans new → (m : ℕ) → All (λ ss. All (λ x. x.column < m) ss) spans → number < m → All (λ ss. All (λ x. x.column < m) ss) new
      inside None same m all l = subst (All (λ ss. All (λ x. x.column < m) ss)) (sym same) all
      inside (Some b) more m all l = λ j d lj. elim (cases_Bool (j == b)) as (λ _. All (λ (x : Span). x.column < m) (get_or new j d)) [
        | inl e ↦ (let f : b ≡ j = sym (eqb-true j b e) in
            subst (λ i. All (λ (x : Span). x.column < m) (get_or new i d)) f ((more.2 d).1 m (all b d (subst (λ i. i < length spans) (sym f) (subst (λ i. j < i) more.0 lj))) l))
        | inr e ↦ subst (All (λ (x : Span). x.column < m)) (sym (more.1 j d (subst (λ i. j < i) more.0 lj) (eqb-false j b e))) (all j d (subst (λ i. j < i) more.0 lj))
      ]

      which : (b : ℕ) (s : Option ℕ) → s ≡ block_of_place p at n → IsListed s on now → (times_listed b now ≡ 0) ↔ ((k : ℕ) → k < n + 1 → is_of b (block_of_place p at k) ≡ false)
      which b s told once = (to s told once, from s told once)
        where
          last : (s : Option ℕ) → s ≡ block_of_place p at n → is_of b s ≡ false → times_listed b on ≡ 0 → (k : ℕ) → k < n + 1 → is_of b (block_of_place p at k) ≡ false
          last s told none so k l = elim (cases_lt k n) as (λ _. is_of b (block_of_place p at k) ≡ false) [
            | inl m ↦ (so_far.which b).0 so k m
            | inr m ↦ (let e : n ≡ k = omega arith in subst (λ j. is_of b (block_of_place p at j) ≡ false) e (ap (is_of b) (sym told) ∙ none))
          ]

          to : (s : Option ℕ) → s ≡ block_of_place p at n → IsListed s on now → times_listed b now ≡ 0 → (k : ℕ) → k < n + 1 → is_of b (block_of_place p at k) ≡ false
          to None told same none = last None told refl (ap (times_listed b) (sym same) ∙ none)
          to (Some x) told once none = let both = (once b).0 none in last (Some x) told both.1 both.0

          from : (s : Option ℕ) → s ≡ block_of_place p at n → IsListed s on now → ((k : ℕ) → k < n + 1 → is_of b (block_of_place p at k) ≡ false) → times_listed b now ≡ 0
          from None told same off = ap (times_listed b) same ∙ (so_far.which b).1 (λ k l. off k (omega arith))
          from (Some x) told once off = (once b).1 ((so_far.which b).1 (λ k l. off k (omega arith)), ap (is_of b) told ∙ off n (omega arith))
