-- Words without a space: they are cut off as they were joined.
use Rattle.std.proofs.Common.{◌≡◌, ◌==◌, Bool, true, false, ℕ, zero, suc, ◌<◌, List, [], ◌∷◌, ◌++◌, length, get_or, Option, Some, None, option_map, refl, ap, ap₂, subst, ◌∙◌, arith}
use Rattle.std.specs.Char.{is_ascii_digit}
use Rattle.std.specs.Fmt.{decimal}
use Rattle.std.specs.Str.{all_ascii_digits, bytes_eq}
use Rattle.std.proofs.lemmas.Bool.{and_parts, eqb-true, false≢true}
use Rattle.std.proofs.lemmas.Fmt.{digits_decimal}
use Rattle.std.proofs.lemmas.Option.{none-some, same_Some}
use Rattle.std.proofs.lemmas.Slice.Eq.{bytes_eq-Decides}
use Rattle.text_lines.specs.Words.{Cut, cut, of_both}
use Rattle.text_lines.proofs.Cuts.{cut_by, back, cut_back}
use Rattle.text_lines.proofs.NumberWords.{own}

abbrev pub HasNoSpace : List ℕ → Type 0
HasNoSpace w = (k : ℕ) → k < length w → (get_or w k 0 == 32) ≡ false

-- a word that a space ends is cut off
pub cut_word : (w rest : List ℕ) → HasNoSpace w → cut (w ++ 32 ∷ rest) ≡ record { word = w; rest = Some rest }
cut_word [] rest none = refl
cut_word (c ∷ w) rest none = ap (λ b. cut_by b c (w ++ 32 ∷ rest)) (none 0 (omega arith))
    ∙ ap (λ (k : Cut). record { word = c ∷ k.word; rest = k.rest }) (cut_word w rest (λ k m. none (suc k) (omega (arith, m))))

digit_no_space : (c : ℕ) → is_ascii_digit c ≡ true → (c == 32) ≡ false
digit_no_space c h = by (c == 32) refl
  where
    by : (b : Bool) → (c == 32) ≡ b → (c == 32) ≡ false
    by false f = f
    by true f = absurd (false≢true (subst (λ d. is_ascii_digit d ≡ true) (eqb-true c 32 f) h))

digits_no_space : (w : List ℕ) → all_ascii_digits w ≡ true → HasNoSpace w
digits_no_space [] h k l = absurd (omega (arith, l))
digits_no_space (c ∷ w) h zero l = digit_no_space c (and_parts (is_ascii_digit c) _ h).0
digits_no_space (c ∷ w) h (suc k) l = digits_no_space w (and_parts (is_ascii_digit c) _ h).1 k (omega (arith, l))

pub decimal_no_space : (n : ℕ) → n < 10000000000 → HasNoSpace (decimal n)
decimal_no_space n l = digits_no_space (decimal n) (digits_decimal own n (omega (arith, l)))

-- ---- what was cut

pub map_some : {A B : Type 0} (f : A → B) (o : Option A) (y : B) → option_map f o ≡ Some y → (x : A) × (o ≡ Some x) × (f x ≡ y)
map_some f None y e = absurd (none-some y e)
map_some f (Some x) y e = (x, refl, same_Some (f x) y e)

pub both_some : {A B C : Type 0} (f : A → B → Option C) (a : Option A) (b : Option B) (z : C) → of_both f a b ≡ Some z → (x : A) × (y : B) × (a ≡ Some x) × (b ≡ Some y) × (f x y ≡ Some z)
both_some f None b z e = absurd (none-some z e)
both_some f (Some x) None z e = absurd (none-some z e)
both_some f (Some x) (Some y) z e = (x, y, refl, refl, e)

-- a line is its first word and what is behind it
pub back_as : (line w rest : List ℕ) → (cut line).word ≡ w → (cut line).rest ≡ Some rest → line ≡ w ++ 32 ∷ rest
back_as line w rest e f = cut_back line ∙ ap₂ back e f

pub is_that : (w v : List ℕ) → bytes_eq w v ≡ true → w ≡ v
is_that w v h = (bytes_eq-Decides w v).0 h
