-- The gaps between the members of an ascending list.
use Rattle.std.proofs.Common.{◌≡◌, inl, inr, true, ℕ, zero, suc, ◌+◌, ◌<◌, ◌≤◌, List, [], ◌∷◌, length, get_or, ℤ, pos, ◌-ℤ◌, ◌≤ℤ◌, ◌<ℤ◌, int_lt, int_le, subst, arith}
use Rattle.std.proofs.lemmas.Bool.{false≢true, and_parts, and_from, cases_lt}
use Rattle.std.proofs.lemmas.Int.{ints}
use Rattle.solid_model.specs.Grid.{is_in_gap}
use Rattle.lemmas.specs.Lists.{Ascends}
use Rattle.solid_model.specs.WalledBoxes.{place_of_number}
use Rattle.lemmas.proofs.ListPlaces.{ascends-pairs}

-- a member by its place
abbrev pub member : List ℤ → ℕ → ℤ
member zs n = get_or zs n (pos 0)

-- and by the whole number of its place
abbrev pub member_of : List ℤ → ℤ → ℤ
member_of zs k = member zs (place_of_number k)

-- z lies between the two ends of a gap
pub record LiesIn (zs : List ℤ) (n : ℕ) (z : ℤ) : Type 0 where
  pub within : suc n < length zs
  pub low : member zs n ≤ℤ z
  pub high : z <ℤ member zs (suc n)

-- what lies in a gap of a list lies between two of its members,
pub lies_in : (zs : List ℤ) (n : ℕ) (z : ℤ) → is_in_gap zs n z ≡ true → LiesIn zs n z
lies_in [] n z e = absurd (false≢true e)
lies_in (a ∷ []) n z e = absurd (false≢true e)
lies_in (a ∷ b ∷ zs) zero z e =
    let parts = and_parts (int_le a z) (int_lt z b) e in
    record { within = omega arith; low = omega (arith, ints, parts.0); high = omega (arith, ints, parts.1) }
lies_in (a ∷ b ∷ zs) (suc n) z e =
    let rest = lies_in (b ∷ zs) n z e in
    record { within = omega (arith, rest.within); low = rest.low; high = rest.high }

-- and what lies between them lies in the gap
pub in_gap : (zs : List ℤ) (n : ℕ) (z : ℤ) → suc n < length zs → member zs n ≤ℤ z → z <ℤ member zs (suc n) → is_in_gap zs n z ≡ true
in_gap [] n z l low high = absurd (omega arith)
in_gap (a ∷ []) n z l low high = absurd (omega arith)
in_gap (a ∷ b ∷ zs) zero z l low high = and_from (int_le a z) (int_lt z b) (grind (arith, ints)) (grind (arith, ints))
in_gap (a ∷ b ∷ zs) (suc n) z l low high = in_gap (b ∷ zs) n z (omega arith) low high

module _ (zs : List ℤ) (ascends : Ascends ◌<ℤ◌ zs) where
  -- an earlier member is less
  pub earlier_less : (m n : ℕ) → m < n → n < length zs → member zs m <ℤ member zs n
  earlier_less m n l within = ascends-pairs ◌<ℤ◌ zs ascends m n (pos 0) l within

  -- and at most the later one
  pub earlier_at_most : (m n : ℕ) → m ≤ n → n < length zs → member zs m ≤ℤ member zs n
  earlier_at_most m n l within = elim (cases_lt m n) as (λ _. member zs m ≤ℤ member zs n) [
    | inl less ↦ (let h = earlier_less m n less within in omega (arith, ints))
    | inr same ↦ (let e : m ≡ n = omega arith in subst (λ x. member zs m ≤ℤ member zs x) e (omega (arith, ints)))
  ]

  -- what lies in a farther gap is greater
  pub gaps_keep_order : (m n : ℕ) (y z : ℤ) → is_in_gap zs m y ≡ true → is_in_gap zs n z ≡ true → m < n → y <ℤ z
  gaps_keep_order m n y z in_y in_z l =
      let at_y = lies_in zs m y in_y in
      let at_z = lies_in zs n z in_z in
      let between = earlier_at_most (suc m) n (omega arith) (omega (arith, at_z.within)) in
      omega (arith, ints, at_y.high, at_z.low)

  -- a member lies in the gap that it begins
  pub begins_gap : (n : ℕ) → suc n < length zs → is_in_gap zs n (member zs n) ≡ true
  begins_gap n within = in_gap zs n (member zs n) within (omega (arith, ints)) (earlier_less n (suc n) (omega arith) within)

  -- what comes just before the next member lies in it too
  pub ends_gap : (n : ℕ) → suc n < length zs → is_in_gap zs n (member zs (suc n) -ℤ pos 1) ≡ true
  ends_gap n within =
      let l = earlier_less n (suc n) (omega arith) within in
      in_gap zs n (member zs (suc n) -ℤ pos 1) within (omega (arith, ints)) (omega (arith, ints))

  -- the last member lies in no gap,
  pub last_in_none : (n : ℕ) → n + 1 ≡ length zs → (m : ℕ) → is_in_gap zs m (member zs n) ≡ true → ⊥
  last_in_none n last m e =
      let at = lies_in zs m (member zs n) e in
      let l = earlier_at_most (suc m) n (omega (arith, at.within)) (omega arith) in
      omega (arith, ints, at.high)

  -- nor does what comes before the first
  pub before_first_in_none : (m : ℕ) → is_in_gap zs m (member zs 0 -ℤ pos 1) ≡ true → ⊥
  before_first_in_none m e =
      let at = lies_in zs m (member zs 0 -ℤ pos 1) e in
      let l = earlier_at_most 0 m (omega arith) (omega (arith, at.within)) in
      omega (arith, ints, at.low)
