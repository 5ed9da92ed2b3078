-- Maximal stretches of whole numbers.
use Rattle.std.specs.Prelude.{◌≡◌, Bool, false, ℤ, pos, ◌-ℤ◌, ◌<ℤ◌, ◌≤ℤ◌, IsTrue}

-- A maximal stretch of places that pass a test: every place from `from` up to but without `to` passes, and neither the
-- place before `from` nor `to` does.
pub record IsStretch (p : ℤ → Bool) (from to : ℤ) : Type 0 where
  pub nonempty : from <ℤ to
  pub inside : (z : ℤ) → from ≤ℤ z → z <ℤ to → IsTrue (p z)
  pub before : p (from -ℤ pos 1) ≡ false
  pub after : p to ≡ false
