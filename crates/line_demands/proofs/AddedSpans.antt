-- One cell more in a block's spans.
use Rattle.std.proofs.Common.{◌≡◌, inl, inr, Bool, true, false, ◌&&◌, ◌||◌, ◌==◌, ℕ, ◌*◌, ◌%◌, ◌^◌, ◌<◌, List, [], ◌∷◌, ◌++◌, bit_or, w64, refl, ap, sym, subst, ◌∙◌, arith}
use Rattle.std.proofs.lemmas.Bool.{cases_Bool, eqb-true, eqb-false}
use Rattle.std.proofs.lemmas.List.{length_push, get_or_append_left}
use Rattle.std.proofs.lemmas.List.Elements.{All-push}
use Rattle.std.proofs.lemmas.List.Folds.{list_any-append}
use Rattle.std.proofs.lemmas.Nat.Bits.{bit_at-zero, bit_at_set_same, bit_at_set_other}
use Rattle.std.proofs.Math.Bool.{or-false, or-true}
use Rattle.line_demands.specs.declared.spans.Span.{Span}
use Rattle.line_demands.specs.Spans.{is_on, is_in_span, AreAdded}
use Rattle.lemmas.specs.Bits.{is_set}
use Rattle.lemmas.proofs.WordBits.{set_either}

-- one bit
pub one_bit : (n d k : ℕ) → d < 64 → is_set (bit_or n (1 * 2 ^ d % 2 ^ 64)) k ≡ (is_set n k || (d == k))
one_bit n d k l = elim (cases_Bool (d == k)) as (λ _. is_set (bit_or n (1 * 2 ^ d % 2 ^ 64)) k ≡ (is_set n k || (d == k))) [
  | inl is ↦ (let e : d ≡ k = eqb-true d k is in ap (is_set (bit_or n (1 * 2 ^ d % 2 ^ 64))) (sym e) ∙ ap (λ b. b == 1) (bit_at_set_same w64 n d l) ∙ sym (or-true (is_set n k)) ∙ ap (λ x. is_set n k || x) (sym is))
  | inr off ↦ ap (λ b. b == 1) (bit_at_set_other w64 n d l k (λ e. eqb-false d k off (sym e))) ∙ sym (or-false (is_set n k)) ∙ ap (λ x. is_set n k || x) (sym off)
]

-- a list with a last span
pub is_on_push : (rest : List Span) (s : Span) (c k : ℕ) → is_on (rest ++ s ∷ []) c k ≡ (is_on rest c k || is_in_span c k s)
is_on_push rest s c k = list_any-append (is_in_span c k) rest (s ∷ []) ∙ ap (λ x. is_on rest c k || x) (or-false (is_in_span c k s))

spread_or : (r x s d : Bool) → (r || (x && (s || d))) ≡ ((r || (x && s)) || (x && d))
spread_or true x s d = refl
spread_or false true s d = refl
spread_or false false s d = refl

-- the last span has a cell more
pub added_last : (rest : List Span) (last : Span) (column depth : ℕ) → depth < 64 → last.column ≡ column
    → AreAdded column depth (rest ++ last ∷ []) (rest ++ record { column = column; cells = bit_or last.cells (1 * 2 ^ depth % 2 ^ 64) } ∷ [])
added_last rest last column depth l same = (
  (λ c k. is_on_push rest _ c k ∙ ap (λ x. is_on rest c k || ((column == c) && x)) (one_bit last.cells depth k l)
      ∙ spread_or (is_on rest c k) (column == c) (is_set last.cells k) (depth == k)
      ∙ ap (λ n. (is_on rest c k || ((n == c) && is_set last.cells k)) || ((column == c) && (depth == k))) (sym same)
      ∙ ap (λ x. x || ((column == c) && (depth == k))) (sym (is_on_push rest last c k))),
  (λ n inside m. All-push (λ (s : Span). s.column < n) rest _ (λ j d k. subst (λ (s : Span). s.column < n) (get_or_append_left rest (last ∷ []) d j k) (inside j d (let e = length_push rest last in omega arith))) m),
)

-- there is a span more
pub added_new : (old : List Span) (column depth : ℕ) → depth < 64 → AreAdded column depth old (old ++ record { column = column; cells = 1 * 2 ^ depth % 2 ^ 64 } ∷ [])
added_new old column depth l = (
  (λ c k. is_on_push old _ c k ∙ ap (λ x. is_on old c k || ((column == c) && x)) (bit_alone k)),
  (λ n inside m. All-push (λ (s : Span). s.column < n) old _ inside m),
)
  where
    bit_alone : (k : ℕ) → is_set (1 * 2 ^ depth % 2 ^ 64) k ≡ (depth == k)
    bit_alone k = let none : is_set 0 k ≡ false = ap (λ b. b == 1) (bit_at-zero k) in
        ap (λ x. x || is_set (1 * 2 ^ depth % 2 ^ 64) k) (sym none) ∙ sym (set_either 0 (1 * 2 ^ depth % 2 ^ 64) k) ∙ one_bit 0 depth k l ∙ ap (λ x. x || (depth == k)) none
