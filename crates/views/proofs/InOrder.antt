-- Strokes that were sorted by line and then start.
use Rattle.std.proofs.Common.{◌≡◌, inl, inr, true, false, Ordering, Less, Equal, Greater, ◌<ℤ◌, refl, sym, arith}
use Rattle.std.specs.Ordering.{MatchOrdering, int_cmp, is_lt, ordering_then}
use Rattle.std.proofs.lemmas.Bool.{both_ways}
use Rattle.std.proofs.lemmas.Cmp.{int_ranked}
use Rattle.std.proofs.lemmas.Int.{ints}
use Rattle.views.specs.declared.strokes.Stroke.{Stroke}
use Rattle.views.specs.Strokes.{BeginsFrom}

-- a stroke that isn't sorted before another begins from where that begins
pub begins_from : (a b : Stroke) → is_lt (ordering_then (int_cmp b.at a.at) (int_cmp b.from a.from)) ≡ false → BeginsFrom a.at a.from b
begins_from a b e = by (int_cmp b.at a.at) (int_cmp b.from a.from) (int_ranked b.at a.at _ refl) (int_ranked b.from a.from _ refl) e
  where
    by : (line start : Ordering) → MatchOrdering line (b.at <ℤ a.at) (b.at ≡ a.at) (a.at <ℤ b.at) → MatchOrdering start (b.from <ℤ a.from) (b.from ≡ a.from) (a.from <ℤ b.from)
        → is_lt (ordering_then line start) ≡ false → BeginsFrom a.at a.from b
    by Less start h k e = absurd (both_ways true e refl)
    by Equal Less h k e = absurd (both_ways true e refl)
    by Equal Equal h k e = inr (sym h, omega (arith, ints, k))
    by Equal Greater h k e = inr (sym h, omega (arith, ints, k))
    by Greater start h k e = inl h
