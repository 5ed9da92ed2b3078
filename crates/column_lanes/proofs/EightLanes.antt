-- The lanes of two vectors, computed together, are what each two compute alone.
use Rattle.std.proofs.Common.{◌≡◌, inl, inr, ◌==◌, false, ℕ, ◌+◌, ◌-◌, ◌^◌, ◌<◌, ◌≤◌, List, [], ◌∷◌, length, map, replicate, get_or, if◌then◌else◌, w64, refl, ap, ap₂, sym, subst, ◌∙◌, arith}
use Rattle.std.proofs.lemmas.Bool.{cases_lt}
use Rattle.std.proofs.lemmas.Simd.{length-zip2, get_or-zip2, length-replicate, get_or-replicate, tops_compared, length-sel_l, get_or-sel_l, get_or-put_chunk_below, get_or-put_chunk_at}
use Rattle.column_lanes.specs.Lanes.{AreLanes, AreBytes}
use lib.Lanes.{zip2, sel_l, top, put_chunk}

-- an operation on each two
pub each_two : (f : ℕ → ℕ → ℕ) {xs ys : List ℕ} {x y : ℕ → ℕ} → AreLanes xs x → AreLanes ys y → AreLanes (zip2 f xs ys) (λ k. f (x k) (y k))
each_two f {xs} {ys} xs_are ys_are = record {
  eight = length-zip2 f xs ys (xs_are.eight ∙ sym ys_are.eight) ∙ xs_are.eight;
  each = λ k l. get_or-zip2 f xs ys k 0 0 0 (omega (arith, xs_are.eight)) (omega (arith, ys_are.eight)) ∙ ap₂ f (xs_are.each k l) (ys_are.each k l);
}

-- lanes that are all the same
pub all_are : (n : ℕ) → AreLanes (replicate 8 n) (λ k. n)
all_are n = record { eight = length-replicate 8 n; each = λ k l. get_or-replicate 8 k n 0 l }

-- lanes that are there
pub as_they_are : (xs : List ℕ) → length xs ≡ 8 → AreLanes xs (λ k. get_or xs k 0)
as_they_are xs eight = record { eight = eight; each = λ k l. refl }

-- of two lanes the one or the other, by whether two further ones are equal
pub where_equal : {xs ys us vs : List ℕ} {x y u v : ℕ → ℕ} → AreLanes xs x → AreLanes ys y → AreLanes us u → AreLanes vs v
    → AreLanes (sel_l (map (top 63) (zip2 (λ (a b : ℕ). if a == b then 2 ^ 64 - 1 else 0) xs ys)) us vs) (λ k. if x k == y k then u k else v k)
where_equal {xs} {ys} {us} {vs} {x} {y} {u} {v} xs_are ys_are us_are vs_are =
    let tests = zip2 (λ (a b : ℕ). a == b) xs ys in
    let eight : length tests ≡ 8 = length-zip2 (λ (a b : ℕ). a == b) xs ys (xs_are.eight ∙ sym ys_are.eight) ∙ xs_are.eight in
    subst (λ ms. AreLanes (sel_l ms us vs) (λ k. if x k == y k then u k else v k)) (sym (tops_compared w64 (λ (a b : ℕ). a == b) xs ys)) (record {
      eight = length-sel_l tests us vs (eight ∙ sym us_are.eight) (eight ∙ sym vs_are.eight) ∙ eight;
      each = λ k l. get_or-sel_l tests us vs k 0 (omega (arith, eight)) (omega (arith, us_are.eight)) (omega (arith, vs_are.eight))
          ∙ ap (λ t. if t then get_or us k 0 else get_or vs k 0)
          (get_or-zip2 (λ (a b : ℕ). a == b) xs ys k 0 0 false (omega (arith, xs_are.eight)) (omega (arith, ys_are.eight)) ∙ ap₂ (λ (a b : ℕ). a == b) (xs_are.each k l) (ys_are.each k l))
          ∙ ap₂ (λ (a b : ℕ). if x k == y k then a else b) (us_are.each k l) (vs_are.each k l);
    })

-- numbers that are cast keep their values
pub map_self : (xs : List ℕ) → map (λ (x : ℕ). x) xs ≡ xs
map_self [] = refl
map_self (x ∷ xs) = ap (λ ys. x ∷ ys) (map_self xs)

-- eight more bytes
pub bytes_on : (lanes out : List ℕ) (at : ℕ) → length lanes ≡ 8 → at + 8 ≤ length out → (value : ℕ → ℕ) → AreBytes value out at
    → ((k : ℕ) → k < 8 → get_or lanes k 0 ≡ value (at + k)) → AreBytes value (put_chunk at out lanes) (at + 8)
bytes_on lanes out at eight there value so_far put k l = elim (cases_lt k at) as (λ _. get_or (put_chunk at out lanes) k 0 ≡ value k) [
  | inl m ↦ get_or-put_chunk_below at out lanes k 0 m ∙ so_far k m
  | inr m ↦ (let here : at + (k - at) ≡ k = omega arith in
      subst (λ j. get_or (put_chunk at out lanes) j 0 ≡ value j) here
      (get_or-put_chunk_at at out lanes (k - at) 0 (omega (arith, eight)) (omega (arith, eight)) ∙ put (k - at) (omega arith)))
]
