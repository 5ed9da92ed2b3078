-- A line cut at its first space.
use Rattle.std.proofs.Common.{◌≡◌, ◌==◌, Bool, true, false, ℕ, zero, suc, ◌<◌, List, [], ◌∷◌, ◌++◌, length, take, drop, get_or, Option, Some, None, if◌then◌else◌, refl, ap, ◌∙◌, arith}
use Rattle.std.proofs.lemmas.Bool.{eqb-true}
use Rattle.text_lines.specs.Words.{Cut, cut}

abbrev pub cut_by : Bool → ℕ → List ℕ → Cut
cut_by b c cs = if b then record { word = []; rest = Some cs } else record { word = c ∷ (cut cs).word; rest = (cut cs).rest }

-- at the first space
pub cut_at : (line : List ℕ) (place : ℕ) → place < length line → ((k : ℕ) → k < place → (get_or line k 0 == 32) ≡ false) → (get_or line place 0 == 32) ≡ true
    → cut line ≡ record { word = take place line; rest = Some (drop (suc place) line) }
cut_at [] place l before here = absurd (omega (arith, l))
cut_at (c ∷ cs) zero l before here = ap (λ b. cut_by b c cs) here
cut_at (c ∷ cs) (suc place) l before here = ap (λ b. cut_by b c cs) (before 0 (omega arith))
    ∙ ap (λ (k : Cut). record { word = c ∷ k.word; rest = k.rest }) (cut_at cs place (omega (arith, l)) (λ k m. before (suc k) (omega (arith, m))) here)

-- where there is none
pub cut_none : (line : List ℕ) → ((k : ℕ) → k < length line → (get_or line k 0 == 32) ≡ false) → cut line ≡ record { word = line; rest = None }
cut_none [] none = refl
cut_none (c ∷ cs) none = ap (λ b. cut_by b c cs) (none 0 (omega arith))
    ∙ ap (λ (k : Cut). record { word = c ∷ k.word; rest = k.rest }) (cut_none cs (λ k m. none (suc k) (omega (arith, m))))

-- and put together again
abbrev pub back : List ℕ → Option (List ℕ) → List ℕ
back word None = word
back word (Some rest) = word ++ 32 ∷ rest

pub cut_back : (line : List ℕ) → line ≡ back (cut line).word (cut line).rest
cut_back [] = refl
cut_back (c ∷ cs) = by (c == 32) refl (cut_back cs)
  where
    on : (o : Option (List ℕ)) → c ∷ back (cut cs).word o ≡ back (c ∷ (cut cs).word) o
    on None = refl
    on (Some r) = refl

    by : (b : Bool) → (c == 32) ≡ b → cs ≡ back (cut cs).word (cut cs).rest → (c ∷ cs) ≡ back (cut_by b c cs).word (cut_by b c cs).rest
    by true e again = ap (λ d. d ∷ cs) (eqb-true c 32 e)
    by false e again = ap (λ xs. c ∷ xs) again ∙ on (cut cs).rest
