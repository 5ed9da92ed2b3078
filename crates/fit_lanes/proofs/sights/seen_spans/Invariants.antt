-- What is seen of the spans so far.
use Rattle.std.proofs.Common.{◌≡◌, ◌&&◌, nat_lt, ℕ, Bool, List, take}
use Rattle.solid_model.specs.GridPlaces.{number_on}
use Rattle.solid_model.specs.PerAxis.{numbers_of}
use Rattle.cell_rows.specs.Spans.{is_filled}
use Rattle.fit_lanes.specs.Cuts.{keeps}
use Rattle.fit_lanes.proofs.sights.seen_spans.Given as goal

abbrev pub invariant-loop-span : goal.invariant-loop-span
invariant-loop-span l = (choice : List Bool) (k : ℕ) → is_filled choice l.seen.items k
    ≡ ((keeps l.kept k && nat_lt k (numbers_of l.sizes l.away.axis)) && is_filled choice (take l.span-index l.spans) (number_on (numbers_of l.sizes) l.away k))
