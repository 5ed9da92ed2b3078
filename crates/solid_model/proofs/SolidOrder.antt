-- Facts of the order of solids, and of all solids that match a drawing.
use Rattle.std.proofs.Common.{◌≡◌, ◌⊎◌, inl, inr, Bool, true, false, not, ◌||◌, List, ◌∷◌, ◌++◌, refl, ap, ap₂, sym, ◌∙◌, subst}
use Rattle.std.proofs.lemmas.Bool.{both_ways, false≢true, false_from_ne_true}
use Rattle.solid_model.specs.declared.cell.Cell.{Cell}
use Rattle.solid_model.specs.declared.segment.Segment.{Segment}
use Rattle.solid_model.specs.declared.segment.Style.{Style}
use Rattle.solid_model.specs.Cells.{same_cell, is_full, SameCells}
use Rattle.lemmas.specs.Truth.{agree}
use Rattle.lemmas.specs.Lists.{Member, Each}
use Rattle.solid_model.specs.Matching.{Matches, AreSolidsOf}
use Rattle.solid_model.specs.Orders.{ComesBefore, IsInStatedForm, Precedes, SolidPrecedes}
use Rattle.lemmas.proofs.Lists.{IsWithin, HasLeast, least_or_none, each-at, member-append_left, member-append_right, same_ascending}
use Rattle.solid_model.proofs.Fullness.{same_cell-true, is_full-member, member-is_full, not_member-is_empty, is_full-append}
use Rattle.solid_model.proofs.CellOrder.{before_one_way, not_before_itself, before_onward, one_or_before, one_list}

-- ---- the order of solids

-- of two solids no more than one comes first
pub precedes_one_way : (s t : Cell → Bool) → Precedes s t → Precedes t s → ⊥
precedes_one_way s t (c, full_s, empty_t, same) (d, full_t, empty_s, same') = by (one_or_before c d)
  where
    by : (c ≡ d) ⊎ (ComesBefore c d ⊎ ComesBefore d c) → ⊥
    by (inl e) = both_ways (s d) empty_s (subst (λ b. s b ≡ true) e full_s)
    by (inr (inl l)) = both_ways (t c) empty_t (same' c l ∙ full_s)
    by (inr (inr l)) = both_ways (s d) empty_s (same d l ∙ full_t)

-- what comes before a solid comes before whatever comes after it
pub precedes_onward : (s t u : Cell → Bool) → Precedes s t → Precedes t u → Precedes s u
precedes_onward s t u (c, full_s, empty_t, same) (d, full_t, empty_u, same') = by (one_or_before c d)
  where
    by : (c ≡ d) ⊎ (ComesBefore c d ⊎ ComesBefore d c) → Precedes s u
    by (inl e) = absurd (both_ways (t c) empty_t (subst (λ b. t b ≡ true) (sym e) full_t))
    by (inr (inl l)) = (c, full_s, sym (same' c l) ∙ empty_t, λ b k. same b k ∙ same' b (before_onward b c d k l))
    by (inr (inr l)) = (d, same d l ∙ full_t, empty_u, λ b k. same b (before_onward b d c k l) ∙ same' b k)

-- cells that come after a cell leave whatever is before it empty
empty_before : (c : Cell) (rest : List Cell) → Each (ComesBefore c) rest → (b : Cell) → ComesBefore b c → is_full rest b ≡ false
empty_before c rest after b l = not_member-is_empty rest b (λ m. before_one_way b c l (each-at (ComesBefore c) rest b after m))

-- of two solids with the same first cells the one that has a cell more before the others comes first
pub precedes_by_cell : (front rest other : List Cell) (c : Cell) → Each (ComesBefore c) rest → Each (ComesBefore c) other → is_full front c ≡ false
    → SolidPrecedes (front ++ c ∷ rest) (front ++ other)
precedes_by_cell front rest other c after after_too fresh = (
  c,
  member-is_full (front ++ c ∷ rest) c (member-append_right front (c ∷ rest) c (inl refl)),
  is_full-append front other c ∙ ap₂ ◌||◌ fresh (not_member-is_empty other c (λ m. not_before_itself c (each-at (ComesBefore c) other c after_too m))),
  λ b l.
      let differs : same_cell c b ≡ false = false_from_ne_true (same_cell c b) (λ e. not_before_itself c (subst (λ d. ComesBefore d c) (sym (same_cell-true c b e)) l)) in
      is_full-append front (c ∷ rest) b ∙ ap (λ p. is_full front b || p) (ap₂ ◌||◌ differs (empty_before c rest after b l) ∙ sym (empty_before c other after_too b l))
      ∙ sym (is_full-append front other b),
)

-- a comes no later than b
abbrev pub IsNoLater : Cell → Cell → Type 0
IsNoLater a b = ComesBefore b a → ⊥

-- of two cells one comes no later than the other
pub no_later_some : (a b : Cell) → IsNoLater a b ⊎ IsNoLater b a
no_later_some a b = by (one_or_before a b)
  where
    by : (a ≡ b) ⊎ (ComesBefore a b ⊎ ComesBefore b a) → IsNoLater a b ⊎ IsNoLater b a
    by (inl e) = inl (λ l. before_one_way b a l (subst (λ d. ComesBefore d b) (sym e) (subst (λ d. ComesBefore b d) e l)))
    by (inr (inl l)) = inl (before_one_way a b l)
    by (inr (inr l)) = inr (before_one_way b a l)

-- what comes no later than a cell comes no later than whatever that cell comes no later than
pub no_later_onward : (a b c : Cell) → IsNoLater a b → IsNoLater b c → IsNoLater a c
no_later_onward a b c h k l = by (one_or_before a b)
  where
    by : (a ≡ b) ⊎ (ComesBefore a b ⊎ ComesBefore b a) → ⊥
    by (inl e) = k (subst (ComesBefore c) e l)
    by (inr (inl m)) = k (before_onward c a b l m)
    by (inr (inr m)) = h m

-- the solids differ at a cell
abbrev differ : List Cell → List Cell → Cell → Bool
differ s t c = not (agree (is_full s c) (is_full t c))

-- solids that differ at no cell of either agree at every cell
agree_or_differ : (s t : List Cell) (c : Cell) → (Member (s ++ t) c → differ s t c ≡ true → ⊥) → is_full s c ≡ is_full t c
agree_or_differ s t c h = by (is_full s c) (is_full t c) refl refl
  where
    by : (p q : Bool) → is_full s c ≡ p → is_full t c ≡ q → is_full s c ≡ is_full t c
    by true true d e = d ∙ sym e
    by true false d e = absurd (h (member-append_left s t c (is_full-member s c d)) (subst (λ b. not (agree b (is_full t c)) ≡ true) (sym d) (subst (λ b. not (agree true b) ≡ true) (sym e) refl)))
    by false true d e = absurd (h (member-append_right s t c (is_full-member t c e)) (subst (λ b. not (agree b (is_full t c)) ≡ true) (sym d) (subst (λ b. not (agree false b) ≡ true) (sym e) refl)))
    by false false d e = d ∙ sym e

-- of two solids that differ one comes first, by the first cell at which they differ
pub same_or_precedes : (s t : List Cell) → SameCells s t ⊎ (SolidPrecedes s t ⊎ SolidPrecedes t s)
same_or_precedes s t = by (least_or_none IsNoLater no_later_some no_later_onward (differ s t) (s ++ t))
  where
    first : (m : Cell) (p q : Bool) → is_full s m ≡ p → is_full t m ≡ q → not (agree p q) ≡ true → ((b : Cell) → ComesBefore b m → is_full s b ≡ is_full t b) → SolidPrecedes s t ⊎ SolidPrecedes t s
    first m true true d e f same = absurd (false≢true f)
    first m true false d e f same = inl (m, d, e, same)
    first m false true d e f same = inr (m, e, d, λ b l. sym (same b l))
    first m false false d e f same = absurd (false≢true f)

    by : HasLeast IsNoLater (differ s t) (s ++ t) → SameCells s t ⊎ (SolidPrecedes s t ⊎ SolidPrecedes t s)
    by (inl none) = inl (λ c. agree_or_differ s t c (none c))
    by (inr (m, least)) = inr (first m (is_full s m) (is_full t m) refl refl least.1 (λ b l. agree_or_differ s t b (λ k f. least.2 b k f l)))

-- ---- all matching solids

-- each solid of one list of all matching solids is in the other
solids_within : (drawing : Segment → Style) (ss ts : List (List Cell)) → AreSolidsOf drawing ss → AreSolidsOf drawing ts → IsWithin ss ts
solids_within drawing ss ts h k s among =
    let of_s = each-at (λ r. Matches drawing r × IsInStatedForm r) ss s h.matching among in
    let (t, in_ts, same) = k.complete s of_s.0 in
    let of_t = each-at (λ r. Matches drawing r × IsInStatedForm r) ts t k.matching in_ts in
    subst (Member ts) (sym (one_list s t of_s.1 of_t.1 same)) in_ts

-- a drawing has one list of all matching solids
pub one_list_of_solids : (drawing : Segment → Style) (ss ts : List (List Cell)) → AreSolidsOf drawing ss → AreSolidsOf drawing ts → ss ≡ ts
one_list_of_solids drawing ss ts h k =
    same_ascending SolidPrecedes (λ s t. precedes_one_way (is_full s) (is_full t)) ss ts h.ordered k.ordered (solids_within drawing ss ts h k) (solids_within drawing ts ss k h)
