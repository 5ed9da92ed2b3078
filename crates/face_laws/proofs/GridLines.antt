-- Lines that lie one beyond another, and the units between them.
use Rattle.std.proofs.Common.{◌≡◌, ℕ, zero, suc, ℤ, pos, ◌+ℤ◌, ◌-ℤ◌, ◌≤ℤ◌, ◌<ℤ◌, sym, ap, subst, arith}
use Rattle.std.proofs.lemmas.Int.{ints, by_lt_z}
use Rattle.face_laws.specs.GridRounds.{Rises}
use Rattle.lemmas.proofs.Integers.{natural, down_and_up}

-- how far a greater integer lies beyond
pub beyond : (x y : ℤ) → x <ℤ y → (d : ℕ) × (y ≡ x +ℤ pos (suc d))
beyond x y l =
    let (d, e) = natural ((y -ℤ x) -ℤ pos 1) (omega (arith, ints)) in
    (d, omega (arith, ints, e))

-- x lies between a line and the next one
pub record LiesBetween (line : ℤ → ℤ) (i x : ℤ) : Type 0 where
  pub low : line i ≤ℤ x
  pub high : x <ℤ line (i +ℤ pos 1)

module _ (line : ℤ → ℤ) (rises : Rises line) where
  -- a line lies between itself and the next one
  pub on_line : (i : ℤ) → LiesBetween line i (line i)
  on_line i = record { low = omega (arith, ints); high = rises i }

  -- and what comes just before it between the one before and itself
  pub before_line : (i : ℤ) → LiesBetween line (i -ℤ pos 1) (line i -ℤ pos 1)
  before_line i =
      let r = rises (i -ℤ pos 1) in
      let e : line ((i -ℤ pos 1) +ℤ pos 1) ≡ line i = ap line (down_and_up i) in
      record { low = omega (arith, ints, r, e); high = omega (arith, ints, e) }

  farther : (i : ℤ) (d : ℕ) → line i <ℤ line (i +ℤ pos (suc d))
  farther i zero = rises i
  farther i (suc d) =
      let f = farther i d in
      let r = rises (i +ℤ pos (suc d)) in
      let e : line ((i +ℤ pos (suc d)) +ℤ pos 1) ≡ line (i +ℤ pos (suc (suc d))) = ap line (omega (arith, ints)) in
      omega (arith, ints, f, r, e)

  -- a later line lies beyond
  pub later_line : (i j : ℤ) → i <ℤ j → line i <ℤ line j
  later_line i j l = let (d, e) = beyond i j l in subst (λ k. line i <ℤ line k) (sym e) (farther i d)

  no_farther : (i j x : ℤ) → LiesBetween line i x → LiesBetween line j x → i <ℤ j → ⊥
  no_farther i j x at at_too l = by_lt_z (i +ℤ pos 1) j
      (λ m. let h = later_line (i +ℤ pos 1) j m in omega (arith, ints, h, at.high, at_too.low))
      (λ m. let e : line (i +ℤ pos 1) ≡ line j = ap line (omega (arith, ints)) in omega (arith, ints, e, at.high, at_too.low))

  -- an integer lies between one line and the next
  pub one_between : (i j x : ℤ) → LiesBetween line i x → LiesBetween line j x → i ≡ j
  one_between i j x at at_too = by_lt_z i j
      (λ l. absurd (no_farther i j x at at_too l))
      (λ l. by_lt_z j i (λ m. absurd (no_farther j i x at_too at m)) (λ m. omega (arith, ints)))

  -- no two lines lie at one place
  pub one_line : (i j : ℤ) → line i ≡ line j → i ≡ j
  one_line i j e = one_between i j (line i) (on_line i) (subst (LiesBetween line j) (sym e) (on_line j))

  up_from : (z : ℤ) (d : ℕ) (i : ℤ) → line i ≤ℤ z → z <ℤ (line i +ℤ pos d) → (k : ℤ) × LiesBetween line k z
  up_from z zero i l m = absurd (omega (arith, ints))
  up_from z (suc d) i l m = by_lt_z z (line (i +ℤ pos 1))
      (λ less. (i, record { low = l; high = less }))
      (λ most. let r = rises i in up_from z d (i +ℤ pos 1) most (omega (arith, ints, r)))

  down_from : (z : ℤ) (d : ℕ) (i : ℤ) → z <ℤ line i → line i ≤ℤ (z +ℤ pos d) → (k : ℤ) × LiesBetween line k z
  down_from z zero i l m = absurd (omega (arith, ints))
  down_from z (suc d) i l m = by_lt_z z (line (i -ℤ pos 1))
      (λ less. let before = (before_line i).low in down_from z d (i -ℤ pos 1) less (omega (arith, ints, before)))
      (λ most. let e : line ((i -ℤ pos 1) +ℤ pos 1) ≡ line i = ap line (down_and_up i) in
      (i -ℤ pos 1, record { low = most; high = omega (arith, ints, e, l) }))

  -- each integer lies between some line and the next one
  pub some_between : (z : ℤ) → (k : ℤ) × LiesBetween line k z
  some_between z = by_lt_z z (line (pos 0))
      (λ less. let (d, e) = natural (line (pos 0) -ℤ z) (omega (arith, ints)) in down_from z d (pos 0) less
      (omega (arith, ints, e)))
      (λ most. let (d, e) = natural (z -ℤ line (pos 0)) (omega (arith, ints)) in up_from z (suc d) (pos 0) most
      (omega (arith, ints, e)))
