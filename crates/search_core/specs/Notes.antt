-- Notes of what was reported, in which prefixes are named by their places.
use Rattle.std.specs.Prelude.{◌≡◌, ◌≤◌, Bool, ℕ, List, [], ◌∷◌, length, take, drop, map}
use Rattle.search_core.specs.declared.note.Note.{Note}
use Rattle.search_core.specs.Core.{Event}
use Rattle.prefix_tree.specs.Places.{prefix_at}

-- what notes tell: each has its share of the choices found, and of the places of the rests
abbrev pub told : List (List Bool) → List Note → List (List Bool) → List ℕ → List Event
told stored [] found rests = []
told stored (x ∷ notes) found rests = record {
  piece = prefix_at stored x.piece;
  opened = x.opened;
  found = take x.found found;
  rest = map (prefix_at stored) (take x.rest rests);
} ∷ told stored notes (drop x.found found) (drop x.rest rests)

-- they share all of both
abbrev pub AreShared : List Note → List (List Bool) → List ℕ → Type 0
AreShared [] found rests = (found ≡ []) × (rests ≡ [])
AreShared (x ∷ notes) found rests = (x.found ≤ length found) × (x.rest ≤ length rests)
    × AreShared notes (drop x.found found) (drop x.rest rests)
