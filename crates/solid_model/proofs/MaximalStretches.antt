-- Where the places that pass a test lie between two bounds, each of them is on one maximal stretch.
use Rattle.std.proofs.Common.{◌≡◌, Bool, true, false, ℕ, zero, suc, ◌+◌, ◌-◌, ◌≤◌, ℤ, pos, negsuc, ◌+ℤ◌, ◌-ℤ◌, ◌<ℤ◌, ◌≤ℤ◌, IsTrue, refl, ap, ◌∙◌, arith}
use Rattle.std.proofs.lemmas.Bool.{both_ways, false_from_ne_true}
use Rattle.std.proofs.lemmas.Int.{ints, by_lt_z}
use Rattle.solid_model.specs.Stretches.{IsStretch}

-- a number that is no lower than another lies some steps above it
steps_between : (a b : ℤ) → a ≤ℤ b → (n : ℕ) × (b ≡ a +ℤ pos n)
steps_between (pos a) (pos b) h = (b - a, omega (arith, ints))
steps_between (pos a) (negsuc b) h = (0, omega (arith, ints))
steps_between (negsuc a) (pos b) h = (a + 1 + b, omega (arith, ints))
steps_between (negsuc a) (negsuc b) h = (a - b, omega (arith, ints))

-- the test passes at each number of steps up to m, and fails at the next
record PassesUpTo (q : ℕ → Bool) (m : ℕ) : Type 0 where
  next : q (suc m) ≡ false
  each : (k : ℕ) → k ≤ m → q k ≡ true

-- a test that passes at zero and fails somewhere passes up to some number, and fails at the next
last_before_failure : (q : ℕ → Bool) (n : ℕ) → q zero ≡ true → q n ≡ false → (m : ℕ) × PassesUpTo q m
last_before_failure q zero starts fails = absurd (both_ways (q zero) fails starts)
last_before_failure q (suc n) starts fails = by (q (suc zero)) refl (last_before_failure (λ k. q (suc k)) n)
  where
    by : (b : Bool) → q (suc zero) ≡ b → (q (suc zero) ≡ true → q (suc n) ≡ false → (m : ℕ) × PassesUpTo (λ k. q (suc k)) m)
        → (m : ℕ) × PassesUpTo q m
    by false e later = (zero, record { next = e; each = λ k l. ap q (omega arith) ∙ starts })
    by true e later =
        let m = later e fails in
        (suc m.0, record { next = m.1.next; each = elim [ zero ↦ λ l. starts | suc k ↦ λ l. m.1.each k (omega arith) ] })

module _ (p : ℤ → Bool) (z : ℤ) (passes : IsTrue (p z)) where
  -- the places round z that pass, as far as they go upwards and downwards, are a maximal stretch
  stretch_round : (m n : ℕ) → PassesUpTo (λ k. p (z +ℤ pos k)) m → PassesUpTo (λ k. p (z -ℤ pos k)) n
      → IsStretch p (z -ℤ pos n) (z +ℤ pos (suc m))
  stretch_round m n above below = record {
    nonempty = omega (arith, ints);
    inside = λ y from to. by_lt_z y z
        (λ lower. let k = steps_between y z (omega (arith, ints)) in ap p (omega (arith, ints, k.1)) ∙ below.each k.0 (omega (arith, ints, k.1)))
        (λ higher. let k = steps_between z y higher in ap p (omega (arith, ints, k.1)) ∙ above.each k.0 (omega (arith, ints, k.1)));
    before = ap p (omega (arith, ints)) ∙ below.next;
    after = above.next;
  }

  -- a place that passes is on a maximal stretch, where all that pass lie between two bounds
  pub some_stretch : (low high : ℤ) → ((y : ℤ) → IsTrue (p y) → (low ≤ℤ y) × (y <ℤ high))
      → (from : ℤ) × (to : ℤ) × IsStretch p from to × (from ≤ℤ z) × (z <ℤ to)
  some_stretch low high within =
      let here = within z passes in
      let up = steps_between z high (omega (arith, ints)) in
      let down = steps_between (low -ℤ pos 1) z (omega (arith, ints)) in
      let starts_up : p (z +ℤ pos zero) ≡ true = ap p (omega (arith, ints)) ∙ passes in
      let starts_down : p (z -ℤ pos zero) ≡ true = ap p (omega (arith, ints)) ∙ passes in
      let fails_up = false_from_ne_true (p (z +ℤ pos up.0)) (λ t. omega (arith, ints, (within _ t).1, up.1)) in
      let fails_down = false_from_ne_true (p (z -ℤ pos down.0)) (λ t. omega (arith, ints, (within _ t).0, down.1)) in
      let m = last_before_failure (λ k. p (z +ℤ pos k)) up.0 starts_up fails_up in
      let n = last_before_failure (λ k. p (z -ℤ pos k)) down.0 starts_down fails_down in
      (z -ℤ pos n.0, z +ℤ pos (suc m.0), stretch_round m.0 n.0 m.1 n.1, omega (arith, ints), omega (arith, ints))

-- of two stretches that share a place the first begins no later and ends no earlier
no_farther_inside : (p : ℤ → Bool) (from to other end : ℤ) → IsStretch p from to → IsStretch p other end
    → (z : ℤ) → from ≤ℤ z → z <ℤ to → other ≤ℤ z → z <ℤ end → (from ≤ℤ other) × (end ≤ℤ to)
no_farther_inside p from to other end s t z after_from before_to after_other before_end = (
  by_lt_z other from
      (λ lower. absurd (both_ways _ s.before (t.inside (from -ℤ pos 1) (omega (arith, ints)) (omega (arith, ints)))))
      (λ h. h),
  by_lt_z to end
      (λ higher. absurd (both_ways _ s.after (t.inside to (omega (arith, ints)) higher)))
      (λ h. h),
)

-- two stretches that share a place are one
pub one_stretch : (p : ℤ → Bool) (from to other end : ℤ) → IsStretch p from to → IsStretch p other end
    → (z : ℤ) → from ≤ℤ z → z <ℤ to → other ≤ℤ z → z <ℤ end → (from ≡ other) × (to ≡ end)
one_stretch p from to other end s t z after_from before_to after_other before_end =
    let h = no_farther_inside p from to other end s t z after_from before_to after_other before_end in
    let k = no_farther_inside p other end from to t s z after_other before_end after_from before_to in
    (omega (arith, ints, h.0, k.0), omega (arith, ints, h.1, k.1))
