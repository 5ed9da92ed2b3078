-- What a call does to bytes that are told: `None` is told nothing.
use Rattle.std.specs.Prelude.{◌≡◌, ℕ, ◌+◌, ◌<◌, ◌≤◌, List, [], ◌++◌, length, take, drop, Option, None, Some, ⊤}
use Rattle.std.specs.Io.KnownBytes.{Appends, Consumes}

-- some prefix of the piece was appended, or nothing
abbrev pub AppendsPrefix : Option (List ℕ) → Option (List ℕ) → List ℕ → Type 0
AppendsPrefix old new piece = (n : ℕ) × (n ≤ length piece) × Appends old new (take n piece)

-- of a text that goes to a sink piece by piece, what was appended comes first, and a piece still has the rest
abbrev pub WritesOn : Option (List ℕ) → Option (List ℕ) → List ℕ → List ℕ → Type 0
WritesOn old new text rest = (written : List ℕ) × Appends old new written × (text ≡ written ++ rest)

-- these are all the bytes that were left, and none is left now
abbrev pub ReadsAll : Option (List ℕ) → Option (List ℕ) → List ℕ → Type 0
ReadsAll None new bytes = ⊤
ReadsAll (Some told) new bytes = (bytes ≡ told) × (new ≡ Some [])

-- at most so many bytes were read
abbrev pub ReadsWithin : Option (List ℕ) → Option (List ℕ) → ℕ → Type 0
ReadsWithin old new limit = (piece : List ℕ) × (length piece ≤ limit) × Consumes old new piece

-- more than `most` bytes were left, and the first `most + 1` of them were read
abbrev pub ReadsPast : Option (List ℕ) → Option (List ℕ) → ℕ → Type 0
ReadsPast None new most = ⊤
ReadsPast (Some told) new most = (most < length told) × (new ≡ Some (drop (most + 1) told))
