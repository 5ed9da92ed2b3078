-- The rows of one layer of a box's cells.
use Rattle.std.specs.Prelude.{◌≡◌, ◌<◌, ◌+◌, ◌*◌, ℕ, List, map, slice_index_or, ℤ, pos}
use Rattle.std.specs.List.{range_with_len}
use Rattle.lemmas.specs.Bits.{is_set}
use Rattle.solid_model.specs.declared.face.Out.{Out}
use Rattle.solid_model.specs.Faces.{place}
use Rattle.solid_model.specs.Marks.{BoxMarks, is_marked}

-- words that stand so far apart in a list, from a place on, so many of them
unfoldable pub spaced : List ℕ → ℕ → ℕ → ℕ → List ℕ
spaced words start stride count = map (λ v. slice_index_or words (start + v * stride) 0) (range_with_len 0 count)

-- a word for each row of the cells that begin in a plane, seen from outside: bit u of word v is the cell at the spot (u, v)
abbrev pub AreLayer : BoxMarks → Out → ℤ → List ℕ → Type 0
AreLayer m out at rows = (u v : ℕ) → u < 64
    → is_set (slice_index_or rows v 0) u ≡ is_marked m (place out at (record { u = pos u; v = pos v }))
