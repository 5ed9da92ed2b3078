-- A column that is cut at a depth, and one that is filled from its first full cell on.
use Rattle.std.proofs.Common.{◌≡◌, Bool, true, false, ◌&&◌, ℕ, zero, suc, ℤ, pos, ◌+ℤ◌, ◌-ℤ◌, ◌≤ℤ◌, ◌<ℤ◌, int_le, refl, sym, subst, ◌∙◌, arith}
use Rattle.std.proofs.lemmas.Bool.{both_ways, and_parts, and_from, false_from_ne_true}
use Rattle.std.proofs.lemmas.Int.{ints, by_lt_z}
use Rattle.lemmas.proofs.Integers.{natural}
use Rattle.solid_model.specs.Columns.{IsFirstFull, HaveSameFirstFull}

-- the column, cut at the depth q
abbrev pub cut_at : ℤ → (ℤ → Bool) → ℤ → Bool
cut_at q a k = int_le q k && a k

at_most : (q k : ℤ) → q ≤ℤ k → int_le q k ≡ true
at_most q k l = grind (arith, ints)

-- before q it is empty
cut_before : (q : ℤ) (a : ℤ → Bool) (k : ℤ) → k <ℤ q → cut_at q a k ≡ false
cut_before q a k l = false_from_ne_true (cut_at q a k) (λ e. let p = and_parts (int_le q k) (a k) e in omega (arith, ints, p.0))

-- where the column is empty, it is
cut_empty : (q : ℤ) (a : ℤ → Bool) (k : ℤ) → a k ≡ false → cut_at q a k ≡ false
cut_empty q a k none = false_from_ne_true (cut_at q a k) (λ e. both_ways (a k) none (and_parts (int_le q k) (a k) e).1)

-- the first full depth at or behind q
pub record IsFirstBehind (a : ℤ → Bool) (q m : ℤ) : Type 0 where
  pub behind : q ≤ℤ m
  pub full : a m ≡ true
  pub none : (k : ℤ) → q ≤ℤ k → k <ℤ m → a k ≡ false

-- behind q there is one no farther than any full depth
abbrev HasFirstTo : (ℤ → Bool) → ℤ → ℤ → Type 0
HasFirstTo a q n = (m : ℤ) × (m ≤ℤ n) × IsFirstBehind a q m

-- one step nearer
first_nearer : (a : ℤ → Bool) (d : ℕ) (q : ℤ) (t : Bool) → a q ≡ t → HasFirstTo a (q +ℤ pos 1) ((q +ℤ pos 1) +ℤ pos d) → HasFirstTo a q (q +ℤ pos (suc d))
first_nearer a d q true here rest = (q, omega (arith, ints), record { behind = omega (arith, ints); full = here; none = λ k l m. absurd (omega (arith, ints)) })
first_nearer a d q false here rest = (
  rest.0,
  omega (arith, ints, rest.1),
  record {
    behind = (let l = rest.2.behind in omega (arith, ints));
    full = rest.2.full;
    none = λ k l m. by_lt_z q k (λ farther. rest.2.none k (omega (arith, ints)) m) (λ near. (let same : q ≡ k = omega (arith, ints) in subst (λ z. a z ≡ false) same here));
  },
)

first_behind : (a : ℤ → Bool) (d : ℕ) (q : ℤ) → a (q +ℤ pos d) ≡ true → HasFirstTo a q (q +ℤ pos d)
first_behind a zero q e = (
  q,
  omega (arith, ints),
  record {
    behind = omega (arith, ints);
    full = (let here : q +ℤ pos zero ≡ q = omega (arith, ints) in subst (λ z. a z ≡ true) here e);
    none = λ k l m. absurd (omega (arith, ints));
  },
)
first_behind a (suc d) q e =
    let next : q +ℤ pos (suc d) ≡ (q +ℤ pos 1) +ℤ pos d = omega (arith, ints) in
    first_nearer a d q (a q) refl (first_behind a d (q +ℤ pos 1) (subst (λ z. a z ≡ true) next e))

-- the same of a full depth n
pub some_first : (a : ℤ → Bool) (q n : ℤ) → q ≤ℤ n → a n ≡ true → (m : ℤ) × (m ≤ℤ n) × IsFirstBehind a q m
some_first a q n l full =
    let d = natural (n -ℤ q) (omega (arith, ints)) in
    let e : n ≡ q +ℤ pos d.0 = omega (arith, ints, d.1) in
    let m = first_behind a d.0 q (subst (λ z. a z ≡ true) e full) in
    (m.0, omega (arith, ints, m.1), m.2)

-- it is the first full depth of the cut column,
pub first_of_cut : (a : ℤ → Bool) (q m : ℤ) → IsFirstBehind a q m → IsFirstFull (cut_at q a) m
first_of_cut a q m h = (
  and_from (int_le q m) (a m) (at_most q m h.behind) h.full,
  λ k l. by_lt_z k q (λ before. cut_before q a k before) (λ behind. cut_empty q a k (h.none k behind l)),
)

-- and the other way round
pub behind_of_cut : (a : ℤ → Bool) (q m : ℤ) → IsFirstFull (cut_at q a) m → IsFirstBehind a q m
behind_of_cut a q m first =
    let p = and_parts (int_le q m) (a m) first.0 in record {
      behind = omega (arith, ints, p.0);
      full = p.1;
      none = λ k l less. false_from_ne_true (a k) (λ e. both_ways (cut_at q a k) (first.1 k less) (and_from (int_le q k) (a k) (at_most q k l) e));
    }

-- The column c is a, filled behind each full cell from the depth `near` on, wherever there is something. From there to q nothing
-- changes in a, so that it could as well be cut there.
pub record Shades (near q : ℤ) (There : ℤ → Type 0) (a c : ℤ → Bool) : Type 0 where
  pub reached : near ≤ℤ q
  pub steady : (k : ℤ) → near ≤ℤ k → k ≤ℤ q → a k ≡ a q
  pub from : (k : ℤ) → c k ≡ true → (n : ℤ) × (near ≤ℤ n) × (n ≤ℤ k) × (a n ≡ true)
  pub fills : (n k : ℤ) → near ≤ℤ n → n ≤ℤ k → There k → a n ≡ true → c k ≡ true
  pub there : (k : ℤ) → a k ≡ true → There k
  pub shaded_there : (k : ℤ) → c k ≡ true → There k

module _ (near q : ℤ) (There : ℤ → Type 0) (a b c d : ℤ → Bool) (after : Shades near q There a c) (before : Shades near q There b d) where
  -- cut columns with one first full depth are filled alike
  pub same_shaded : HaveSameFirstFull (cut_at q a) (cut_at q b) → (k : ℤ) → c k ≡ true → d k ≡ true
  same_shaded same k e = by_lt_z n.0 q early late
    where
      n : (n : ℤ) × (near ≤ℤ n) × (n ≤ℤ k) × (a n ≡ true)
      n = after.from k e

      -- where it is full as early as q, both are from `near` on
      early : n.0 <ℤ q → d k ≡ true
      early l =
          let low = n.1 in
          let at_q : a q ≡ true = sym (after.steady n.0 n.1 (omega (arith, ints))) ∙ n.3 in
          let first : IsFirstBehind a q q = record { behind = omega (arith, ints); full = at_q; none = λ j l m. absurd (omega (arith, ints)) } in
          let other = behind_of_cut b q q ((same q).0 (first_of_cut a q q first)) in
          before.fills n.0 k n.1 n.2 (after.shaded_there k e) (before.steady n.0 n.1 (omega (arith, ints)) ∙ other.full)

      late : q ≤ℤ n.0 → d k ≡ true
      late l =
          let m = some_first a q n.0 l n.3 in
          let other = behind_of_cut b q m.0 ((same m.0).0 (first_of_cut a q m.0 m.2)) in
          let reached = after.reached in
          before.fills m.0 k (omega (arith, ints, m.2.behind)) (omega (arith, ints, m.1, n.2)) (after.shaded_there k e) other.full

  -- filled columns with one first full depth are cut alike
  pub same_cut : HaveSameFirstFull c d → (m : ℤ) → IsFirstFull (cut_at q a) m → IsFirstFull (cut_at q b) m
  same_cut same m first = by (a q) refl
    where
      own : IsFirstBehind a q m
      own = behind_of_cut a q m first

      by : (t : Bool) → a q ≡ t → IsFirstFull (cut_at q b) m
      by true full =
          let reached = after.reached in
          let at_q : q ≡ m = by_lt_z q m (λ l. absurd (both_ways (a q) (own.none q (omega (arith, ints)) l) full)) (λ l. let low = own.behind in omega (arith, ints)) in
          let at_near : a near ≡ true = after.steady near (omega (arith, ints)) reached ∙ full in
          let first_c : IsFirstFull c near = (
            after.fills near near (omega (arith, ints)) (omega (arith, ints)) (after.there near at_near) at_near,
            λ k l. false_from_ne_true (c k) (λ e. let n = after.from k e in omega (arith, ints, n.1, n.2)),
          ) in
          let n = before.from near ((same near).0 first_c).0 in
          let here : n.0 ≡ near = omega (arith, ints, n.1, n.2) in
          let other : b q ≡ true = sym (before.steady near (omega (arith, ints)) reached) ∙ subst (λ z. b z ≡ true) here n.3 in
          subst (IsFirstFull (cut_at q b)) at_q
          (first_of_cut b q q (record { behind = omega (arith, ints); full = other; none = λ j l k. absurd (omega (arith, ints)) }))
      by false none =
          let reached = after.reached in
          let low = own.behind in
          let first_c : IsFirstFull c m = (
            after.fills m m (omega (arith, ints)) (omega (arith, ints)) (after.there m own.full) own.full,
            λ k l. false_from_ne_true (c k) (λ e. let n = after.from k e in
                by_lt_z n.0 q (λ early. both_ways (a q) none (sym (after.steady n.0 n.1 (omega (arith, ints))) ∙ n.3))
                (λ late. both_ways (a n.0) (own.none n.0 late (omega (arith, ints, n.2))) n.3)),
          ) in
          let first_d = (same m).0 first_c in
          let n = before.from m first_d.0 in
          let here : n.0 ≡ m = by_lt_z n.0 m
          (λ l. absurd (both_ways (d n.0) (first_d.1 n.0 l) (before.fills n.0 n.0 n.1 (omega (arith, ints)) (before.there n.0 n.3) n.3)))
          (λ l. omega (arith, ints, n.2)) in
          first_of_cut b q m (record {
            behind = low;
            full = subst (λ z. b z ≡ true) here n.3;
            none = λ k l less. false_from_ne_true (b k) (λ e. both_ways (d k) (first_d.1 k less)
                (before.fills k k (omega (arith, ints)) (omega (arith, ints)) (before.there k e) e));
          })
