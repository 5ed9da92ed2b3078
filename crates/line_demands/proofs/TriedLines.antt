-- Lines are tried one after another.
use Rattle.std.proofs.Common.{◌≡◌, ◌⊎◌, ◌↔◌, inl, inr, Bool, true, false, ◌==◌, ℕ, ◌+◌, ◌%◌, ◌<◌, List, [], ◌∷◌, ◌++◌, length, take, get_or, ap, sym, subst, ◌∙◌, arith}
use Rattle.std.proofs.lemmas.Bool.{cases_Bool, cases_lt, eqb-true}
use Rattle.std.proofs.lemmas.List.{length_push, take-append-le, take_all, take-take, get_or_default}
use Rattle.std.proofs.lemmas.Grind.{take_at_read}
use Rattle.lemmas.specs.Bits.{is_set}
use Rattle.lemmas.proofs.Lists.{total_push}
use Rattle.lemmas.specs.Counts.{one_if, times_listed}
use Rattle.line_demands.specs.declared.known.KnownColumn.{KnownColumn}
use Rattle.line_demands.specs.declared.lines.Beside.{Beside}
use Rattle.line_demands.specs.Lines.{AreMarked, IsMetBy, AreFreeBeside, BeginsWith, AreTried, AreFreeAmong}

-- a number that is one of a list, or isn't
pub is_not_there : (met : List Bool) (broken : List ℕ) (i : ℕ) → AreMarked met broken → i < length met → get_or met i false ≡ true → times_listed i broken ≡ 0
is_not_there met broken i marked l is = let a = marked.once i l in let b = ap one_if is in omega arith

pub is_listed : (met : List Bool) (broken : List ℕ) (i : ℕ) → AreMarked met broken → i < length met → get_or met i false ≡ false → times_listed i broken ≡ 1
is_listed met broken i marked l is = let a = marked.once i l in let b = ap one_if is in omega arith

all_taken : (xs : List ℕ) → take (length xs) xs ≡ xs
all_taken xs = take_all (length xs) xs (omega arith)

pub begins_same : (xs : List ℕ) → BeginsWith xs xs
begins_same xs = record { same = all_taken xs; longer = (omega arith) }

pub begins_more : (xs ys zs : List ℕ) → BeginsWith xs ys → BeginsWith ys zs → BeginsWith xs zs
begins_more xs ys zs first more = record {
  same = sym (take-take (length xs) (length ys) zs first.longer) ∙ ap (take (length xs)) more.same ∙ first.same;
  longer = (let a = first.longer in let b = more.longer in omega arith);
}

pub begins_push : (xs : List ℕ) (x : ℕ) → BeginsWith xs (xs ++ x ∷ [])
begins_push xs x = record {
  same = take-append-le (length xs) xs (x ∷ []) (omega arith) ∙ all_taken xs;
  longer = (let e = length_push xs x in omega arith);
}

-- a number that is read is listed once more
times_more : (lines : List ℕ) (n line e : ℕ) → n < length lines → get_or lines n e ≡ line → (i : ℕ) → times_listed i (take (n + 1) lines) ≡ times_listed i (take n lines) + one_if (line == i)
times_more lines n line e l at i = ap (times_listed i) (take_at_read lines n e l).1 ∙ total_push (λ x. one_if (x == i)) (take n lines) (get_or lines n e)
    ∙ ap (λ x. times_listed i (take n lines) + one_if (x == i)) at

module _ (columns : List KnownColumn) (sides : List Beside) (lines old : List ℕ) where
  pub none_tried : AreTried columns sides (take 0 lines) old old
  none_tried = record {
    begins = begins_same old;
    each = λ i d l. (λ none. (none, λ some. absurd (omega arith)), λ both. both.0);
  }

  pub one_tried : (n line e : ℕ) (before after : List ℕ) → AreTried columns sides (take n lines) old before → n < length lines → get_or lines n e ≡ line
      → BeginsWith before after
      → ((i : ℕ) → (line == i) ≡ false → times_listed i after ≡ times_listed i before)
      → ((d : Beside) → (times_listed line after ≡ 0) ↔ ((times_listed line before ≡ 0) × IsMetBy columns (get_or sides line d)))
      → AreTried columns sides (take (n + 1) lines) old after
  one_tried n line e before after so_far l at begins others tried = record {
    begins = begins_more old before after so_far.begins begins;
    each = λ i d m. each i d m (cases_Bool (line == i));
  }
    where
      Goal : ℕ → Beside → Type 0
      Goal i d = (times_listed i after ≡ 0) ↔ ((times_listed i old ≡ 0) × (0 < times_listed i (take (n + 1) lines) → IsMetBy columns (get_or sides i d)))

      here : (d : Beside) → line < length sides → one_if (line == line) ≡ 1 → Goal line d
      here d m one = let old_each = so_far.each line d m in (
        (λ none. let both = (tried d).0 none in ((old_each.0 both.0).0, λ some. both.1)),
        (λ both. let met = both.1 (let f = times_more lines n line e l at line in omega arith) in (tried d).1 (old_each.1 (both.0, λ some. met), met)),
      )

      each : (i : ℕ) (d : Beside) → i < length sides → ((line == i) ≡ true) ⊎ ((line == i) ≡ false) → Goal i d
      each i d m (inl is) = (let f : line ≡ i = eqb-true line i is in
          subst (λ j. Goal j d) f (here d (subst (λ j. j < length sides) (sym f) m) (ap (λ j. one_if (line == j)) f ∙ ap one_if is)))
      each i d m (inr other) = (let g = others i other in let f = times_more lines n line e l at i in let h = ap one_if other in let old_each = so_far.each i d m in (
        (λ none. let both = old_each.0 (omega arith) in (both.0, λ some. both.1 (omega arith))),
        (λ both. let none = old_each.1 (both.0, λ some. both.1 (omega arith)) in omega arith),
      ))

-- one line more leaves the cells beside it free, or is broken, or its place's bit is set
pub one_free : (columns : List KnownColumn) (sides : List Beside) (lines : List ℕ) (n line e : ℕ) (before after : List ℕ) (doubts now : ℕ) → get_or lines n e ≡ line → n < length lines
    → ((i : ℕ) → times_listed i after ≡ 0 → times_listed i before ≡ 0) → ((k : ℕ) → is_set now k ≡ false → is_set doubts k ≡ false)
    → (is_set now (n % 64) ≡ false → (d : Beside) → times_listed line after ≡ 0 → AreFreeBeside columns (get_or sides line d))
    → AreFreeAmong columns sides lines n before doubts → AreFreeAmong columns sides lines (n + 1) after now
one_free columns sides lines n line e before after doubts now at within less fewer here so_far place f d l off unbroken = elim (cases_lt place n) as (λ _. AreFreeBeside columns (get_or sides (get_or lines place f) d)) [
  | inl earlier ↦ so_far place f d earlier (fewer (place % 64) off) (less (get_or lines place f) unbroken)
  | inr later ↦ (let same : place ≡ n = omega arith in
      let is : line ≡ get_or lines place f = sym (ap (λ k. get_or lines k f) same ∙ get_or_default lines n f e within ∙ at) in
      subst (λ j. AreFreeBeside columns (get_or sides j d)) is (here (subst (λ k. is_set now (k % 64) ≡ false) same off) d (subst (λ j. times_listed j after ≡ 0) (sym is) unbroken)))
]

-- what isn't listed after a line is tried wasn't before
pub not_before : (columns : List KnownColumn) (sides : List Beside) (line : ℕ) (before after : List ℕ) → ((i : ℕ) → (line == i) ≡ false → times_listed i after ≡ times_listed i before)
    → ((d : Beside) → (times_listed line after ≡ 0) ↔ ((times_listed line before ≡ 0) × IsMetBy columns (get_or sides line d))) → (d : Beside) (i : ℕ) → times_listed i after ≡ 0 → times_listed i before ≡ 0
not_before columns sides line before after others tried d i none = elim (cases_Bool (line == i)) as (λ _. times_listed i before ≡ 0) [
  | inl is ↦ (let same = eqb-true line i is in subst (λ j. times_listed j before ≡ 0) same ((tried d).0 (subst (λ j. times_listed j after ≡ 0) (sym same) none)).0)
  | inr off ↦ sym (others i off) ∙ none
]
