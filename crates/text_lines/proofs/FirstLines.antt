-- The first line of a text, and those behind it.
use Rattle.std.proofs.Common.{◌≡◌, ◌≢◌, ◌⊎◌, inl, inr, Bool, true, false, cond, ℕ, zero, suc, ◌+◌, ◌<◌, ◌≤◌, List, [], ◌∷◌, length, take, drop, refl, ap, sym, subst, ◌∙◌, arith}
use Rattle.std.specs.List.{onto_first, position_or_len}
use Rattle.dxf_groups.specs.TextLines.{is_feed, text_lines}

place_on : (c : ℕ) (cs : List ℕ) → is_feed c ≡ false → position_or_len is_feed (c ∷ cs) ≡ suc (position_or_len is_feed cs)
place_on c cs e = rw e (let h : 1 + position_or_len is_feed cs ≡ suc (position_or_len is_feed cs) = omega arith in h)

place_here : (c : ℕ) (cs : List ℕ) → is_feed c ≡ true → position_or_len is_feed (c ∷ cs) ≡ 0
place_here c cs e = rw e refl

-- the first line is what stands before this place, and the others begin behind it
abbrev EndsAt : List ℕ → ℕ → Type 0
EndsAt cs n = text_lines cs ≡ take n cs ∷ text_lines (drop (suc n) cs)

longer : (c : ℕ) (cs : List ℕ) (n : ℕ) → (0 < length cs → EndsAt cs n) → n ≡ position_or_len is_feed cs → onto_first c (text_lines cs) ≡ (c ∷ take n cs) ∷ text_lines (drop (suc n) cs)
longer c [] n again e = subst (λ k. onto_first c (text_lines []) ≡ (c ∷ take k []) ∷ text_lines (drop (suc k) [])) (sym e) refl
longer c (x ∷ xs) n again e = ap (onto_first c) (again (omega arith))

-- it ends at the first line feed, or with the text
ends_at_feed : (cs : List ℕ) → 0 < length cs → EndsAt cs (position_or_len is_feed cs)
ends_at_feed [] l = absurd (omega (arith, l))
ends_at_feed (c ∷ cs) l = by (is_feed c) refl (λ k. ends_at_feed cs k)
  where
    by : (b : Bool) → is_feed c ≡ b → (0 < length cs → EndsAt cs (position_or_len is_feed cs)) → EndsAt (c ∷ cs) (position_or_len is_feed (c ∷ cs))
    by true e again = subst (EndsAt (c ∷ cs)) (sym (place_here c cs e)) (ap (λ b. cond b ([] ∷ text_lines cs) (onto_first c (text_lines cs))) e)
    by false e again = subst (EndsAt (c ∷ cs)) (sym (place_on c cs e))
        (ap (λ b. cond b ([] ∷ text_lines cs) (onto_first c (text_lines cs))) e ∙ longer c cs (position_or_len is_feed cs) again refl)

drop_all : {A : Type 0} (xs : List A) (n : ℕ) → length xs ≤ n → drop n xs ≡ []
drop_all [] zero l = refl
drop_all [] (suc n) l = refl
drop_all (x ∷ xs) zero l = absurd (omega (arith, l))
drop_all (x ∷ xs) (suc n) l = drop_all xs n (omega (arith, l))

-- and the next one begins behind the feed, if there is one
pub next_begins : (cs : List ℕ) → 0 < length cs → (end next : ℕ) → end ≡ position_or_len is_feed cs
    → ((end < length cs) × (next ≡ end + 1)) ⊎ ((length cs ≤ end) × (next ≡ end)) → text_lines cs ≡ take end cs ∷ text_lines (drop next cs)
next_begins cs some end next e h = subst (EndsAt cs) (sym e) (ends_at_feed cs some) ∙ ap (λ xs. take end cs ∷ text_lines xs) (same h)
  where
    same : ((end < length cs) × (next ≡ end + 1)) ⊎ ((length cs ≤ end) × (next ≡ end)) → drop (suc end) cs ≡ drop next cs
    same (inl (l, f)) = ap (λ k. drop k cs) (let g : suc end ≡ next = omega (arith, f) in g)
    same (inr (l, f)) = drop_all cs (suc end) (omega (arith, l)) ∙ sym (drop_all cs next (omega (arith, l, f)))

some_more : (c : ℕ) (lines : List (List ℕ)) → onto_first c lines ≢ []
some_more c [] e = cc
some_more c (l ∷ lines) e = cc

-- a text that has a byte has a line
pub some_lines : (cs : List ℕ) → 0 < length cs → text_lines cs ≢ []
some_lines [] l = absurd (omega (arith, l))
some_lines (c ∷ cs) l = by (is_feed c)
  where
    by : (b : Bool) → cond b ([] ∷ text_lines cs) (onto_first c (text_lines cs)) ≢ []
    by true e = cc
    by false e = some_more c (text_lines cs) e
