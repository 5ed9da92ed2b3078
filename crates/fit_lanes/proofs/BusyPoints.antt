-- Points at which something may be drawn, and what is set at them.
use Rattle.std.proofs.Common.{◌≡◌, Bool, true, false, ◌||◌, ◌==◌, ℕ, ◌+◌, ◌-◌, ◌*◌, ◌/◌, ◌%◌, ◌<◌, ◌≤◌, List, [], ◌∷◌, ◌++◌, length, slice_index_or, Option, get_or, set, inl, inr, replicate, refl, ap, sym, subst, ◌∙◌, arith}
use Rattle.std.proofs.Math.Bool.{or-false}
use Rattle.std.proofs.lemmas.Bool.{false≢true, cases_lt, cases_eq, ne_eqb, eqb-false, eqb-true, or_parts, false_from_ne_true}
use Rattle.std.proofs.lemmas.Nat.{div-mul-add, mod-mul-add, mod_below}
use Rattle.std.proofs.lemmas.List.{get_or_past, length-replicate, length-set, get_or-replicate, get_or-set_same, get_or-set_other}
use Rattle.lemmas.specs.Bits.{bits}
use Rattle.lemmas.specs.Lists.{Each}
use Rattle.lemmas.proofs.Lists.{each-weaker, each-push}
use Rattle.cell_rows.specs.declared.span.Span.{Span}
use Rattle.cell_rows.specs.Spans.{is_filled, is_among, AreFilled}
use Rattle.cell_rows.proofs.FillablePlaces.{among_last}
use Rattle.solid_model.specs.declared.segment.Style.TheVariants.{Blank}
use Rattle.column_lanes.specs.Styles.{IsStyleByte}
use Rattle.fit_lanes.specs.Busy.{IsBare, AreBusy, AreAlikeBeyond, AreBlankBeyond, IsNoLater}
use Rattle.fit_lanes.specs.Cuts.{AreLeftOf}
use Rattle.fit_lanes.specs.Drawn.{DrawsLine}
use Rattle.fit_lanes.specs.Kept.{AreBytesFor}
use Rattle.fit_lanes.specs.Points.{places_before}
use Rattle.fit_lanes.specs.Tests.{AreDrawn}
use Rattle.fit_lanes.proofs.DrawnBytes.{no_bits}

-- ---- which points

-- the columns beside a point are told from the one after its lines
pub bare_at : (sights : List (List Span)) (stride after : ℕ) → 1 ≤ stride → stride ≤ after
    → slice_index_or sights after [] ≡ [] → slice_index_or sights (after - 1) [] ≡ [] → slice_index_or sights (after - stride) [] ≡ []
    → IsBare sights stride (after - stride)
bare_at sights stride after some apart here left below = record {
  after = ap (λ q. slice_index_or sights q []) back ∙ here;
  before = by;
}
  where
    back : after - stride + stride ≡ after
    back = omega arith

    by : (upright : Bool) → slice_index_or sights (after - stride + stride - places_before stride upright) [] ≡ []
    by true = ap (λ q. slice_index_or sights (q - 1) []) back ∙ left
    by false = ap (λ q. slice_index_or sights (q - stride) []) back ∙ below

module _ (sights : List (List Span)) (stride : ℕ) where
  pub busy_none : (n : ℕ) → n ≡ 0 → AreBusy sights stride n []
  busy_none n none = record { inside = tt; beyond = λ p l. absurd (omega arith) }

  -- a bare point is left out
  pub busy_without : (points : List ℕ) (n m : ℕ) → m ≡ n + 1 → AreBusy sights stride n points → IsBare sights stride n → AreBusy sights stride m points
  busy_without points n m next so_far bare = record {
    inside = each-weaker (λ p. p < n) (λ p. p < m) points (λ p l. omega (arith, l)) so_far.inside;
    beyond = λ p l out. elim (cases_lt p n) as (λ _. IsBare sights stride p) [
      | inl earlier ↦ so_far.beyond p earlier out
      | inr later ↦ subst (IsBare sights stride) (let at : n ≡ p = omega arith in at) bare
    ];
  }

  -- any other is put at the end
  pub busy_with : (points : List ℕ) (n m : ℕ) → m ≡ n + 1 → AreBusy sights stride n points → AreBusy sights stride m (points ++ n ∷ [])
  busy_with points n m next so_far = record {
    inside = each-push (λ p. p < m) points n (each-weaker (λ p. p < n) (λ p. p < m) points (λ p l. omega (arith, l)) so_far.inside) (omega arith);
    beyond = λ p l out.
        let parts = or_parts (is_among points p) (n == p) (sym (among_last points n p) ∙ out) in
        let apart = eqb-false n p parts.1 in
        so_far.beyond p (omega arith) parts.0;
  }

  pub busy_all : (points : List ℕ) (n m : ℕ) → n ≡ m → AreBusy sights stride n points → AreBusy sights stride m points
  busy_all points n m same busy = subst (λ k. AreBusy sights stride k points) same busy

  -- beyond them nothing is filled on either side
  pub alike_beyond : (choice : List Bool) (columns : List ℕ) → AreFilled choice sights columns → (count : ℕ) (points : List ℕ) → AreBusy sights stride count points
      → count + stride ≤ length sights → (upright : Bool) → AreAlikeBeyond columns stride upright points count
  alike_beyond choice columns filled count points busy enough upright p l out =
      let bare = busy.beyond p l out in
      empty (p + stride) (omega arith) bare.after ∙ sym (empty (p + stride - places_before stride upright) (omega arith) (bare.before upright))
    where
      empty : (q : ℕ) → q < length sights → slice_index_or sights q [] ≡ [] → bits (slice_index_or columns q 0) ≡ bits 0
      empty q inside none = no_bits (slice_index_or columns q 0) (λ k. filled q k inside ∙ ap (λ spans. is_filled choice spans k) none)

-- ---- what is set

-- at these places each byte is as it has to be there, and the others are as they were
pub record AreSetAt (P : ℕ → ℕ → Type 0) (old places bytes : List ℕ) : Type 0 where
  pub count : length bytes ≡ length old
  pub each : (p : ℕ) → is_among places p ≡ true → P p (slice_index_or bytes p 0)
  pub others : (p : ℕ) → is_among places p ≡ false → slice_index_or bytes p 0 ≡ slice_index_or old p 0

pub set_none : (P : ℕ → ℕ → Type 0) (old : List ℕ) → AreSetAt P old [] old
set_none P old = record { count = refl; each = λ p e. absurd (false≢true e); others = λ p e. refl }

-- one place more
pub set_more : (P : ℕ → ℕ → Type 0) (old places bytes : List ℕ) (q byte : ℕ) → AreSetAt P old places bytes → q < length bytes → P q byte
    → AreSetAt P old (places ++ q ∷ []) (set bytes q byte)
set_more P old places bytes q byte so_far inside here = record {
  count = length-set bytes q byte ∙ so_far.count;
  each = λ p among. elim (cases_eq p q) as (λ _. P p (get_or (set bytes q byte) p 0)) [
    | inl same ↦ subst (λ p. P p (get_or (set bytes q byte) p 0)) (sym same) (subst (P q) (sym (get_or-set_same bytes q byte 0 inside)) here)
    | inr apart ↦ subst (P p) (sym (get_or-set_other bytes q p byte 0 apart)) (so_far.each p (sym (only p apart) ∙ among))
  ];
  others = λ p out.
      let parts = or_parts (is_among places p) (q == p) (sym (among_last places q p) ∙ out) in
      let apart = eqb-false q p parts.1 in
      get_or-set_other bytes q p byte 0 (λ e. apart (sym e)) ∙ so_far.others p parts.0;
}
  where
    only : (p : ℕ) → (p ≡ q → ⊥) → is_among (places ++ q ∷ []) p ≡ is_among places p
    only p apart = among_last places q p ∙ ap (λ b. is_among places p || b) (ne_eqb q p (λ e. apart (sym e))) ∙ or-false (is_among places p)

-- ---- what is drawn

-- the byte of the style that the columns beside a point draw
abbrev pub IsDrawnAt : List ℕ → ℕ → Bool → ℕ → ℕ → Type 0
IsDrawnAt columns stride upright p byte = IsStyleByte byte (bits (slice_index_or columns (p + stride) 0))
    (bits (slice_index_or columns (p + stride - places_before stride upright) 0))

-- that of what is left of them
abbrev pub IsLeftDrawn : Option ℕ → List ℕ → ℕ → Bool → ℕ → ℕ → Type 0
IsLeftDrawn kept columns stride upright p byte = (left : List ℕ) → AreLeftOf kept columns left → IsDrawnAt left stride upright p byte

-- at first nothing is drawn,
pub blank_first : (points : List ℕ) (n : ℕ) (bytes : List ℕ) → bytes ≡ replicate {A = ℕ} n 0 → AreBlankBeyond points bytes
blank_first points n bytes none p l out = ap (λ bs. slice_index_or bs p 0) none
    ∙ get_or-replicate n p 0 0 (omega (arith, l, ap length none, length-replicate {A = ℕ} n 0))

-- and beyond the points nothing is later
pub blank_still : (P : ℕ → ℕ → Type 0) (old points bytes : List ℕ) → AreSetAt P old points bytes → AreBlankBeyond points old → AreBlankBeyond points bytes
blank_still P old points bytes are blank p l out = are.others p out ∙ blank p (omega (arith, l, are.count)) out

-- so that all is drawn
pub all_drawn : (columns : List ℕ) (stride : ℕ) (upright : Bool) (old points bytes : List ℕ) → AreSetAt (IsDrawnAt columns stride upright) old points bytes
    → AreAlikeBeyond columns stride upright points (length old) → AreBlankBeyond points old → AreDrawn columns stride upright bytes
all_drawn columns stride upright old points bytes are alike blank p l = by (is_among points p) refl
  where
    by : (b : Bool) → is_among points p ≡ b → IsDrawnAt columns stride upright p (slice_index_or bytes p 0)
    by true among = are.each p among
    by false out = (Blank, λ k t. alike p (omega (arith, l, are.count)) out t k, blank_still _ old points bytes are blank p l out)

-- ---- before the first busy line

each_among : (P : ℕ → Type 0) (points : List ℕ) → Each P points → (p : ℕ) → is_among points p ≡ true → P p
each_among P [] each p among = absurd (false≢true among)
each_among P (q ∷ points) (here, rest) p among = by (q == p) refl (λ some. each_among P points rest p some) among
  where
    by : (b : Bool) → (q == p) ≡ b → (is_among points p ≡ true → P p) → (b || is_among points p) ≡ true → P p
    by true e later _ = subst P (eqb-true q p e) here
    by false e later some = later some

-- nothing is drawn
pub none_before : (w h : ℕ) (upright : Bool) (points bytes : List ℕ) (first : ℕ) → AreBytesFor w h points bytes → IsNoLater (w + 1) upright points first
    → (m : ℕ) → m < first → DrawsLine w h upright bytes m → ⊥
none_before w h upright points bytes first are later = by upright later
  where
    blank_at : (p : ℕ) → (is_among points p ≡ true → ⊥) → slice_index_or bytes p 0 ≡ 0
    blank_at p out = elim (cases_lt p (length bytes)) as (λ _. slice_index_or bytes p 0 ≡ 0) [
      | inl l ↦ are.blank p l (false_from_ne_true (is_among points p) out)
      | inr past ↦ get_or_past bytes p 0 past
    ]

    across : (m n : ℕ) → (m + n * (w + 1)) % (w + 1) ≤ m
    across m n = elim (cases_lt m (w + 1)) as (λ _. (m + n * (w + 1)) % (w + 1) ≤ m) [
      | inl l ↦ (let e = mod-mul-add n (w + 1) m l in let same : m + n * (w + 1) ≡ n * (w + 1) + m = omega arith in subst (λ k. k % (w + 1) ≤ m) (sym same) (omega (arith, e)))
      | inr l ↦ (let less = mod_below (m + n * (w + 1)) (w + 1) (omega arith) in omega (arith, l, less))
    ]

    by : (u : Bool) → IsNoLater (w + 1) u points first → (m : ℕ) → m < first → DrawsLine w h u bytes m → ⊥
    by true no_later m l (n, few, on) = on (blank_at (m + n * (w + 1)) (λ among.
        let at = each_among (λ p. first ≤ p % (w + 1)) points no_later (m + n * (w + 1)) among in
        let less = across m n in omega (arith, l, at, less)))
    by false no_later m l (n, few, on) = on (blank_at (m * (w + 1) + n * 1) (λ among.
        let at = each_among (λ p. first ≤ p / (w + 1)) points no_later (m * (w + 1) + n * 1) among in
        let once : m * (w + 1) + n * 1 ≡ m * (w + 1) + n = omega arith in
        let e = ap (λ k. k / (w + 1)) once ∙ div-mul-add m (w + 1) n few in omega (arith, l, at, e)))
