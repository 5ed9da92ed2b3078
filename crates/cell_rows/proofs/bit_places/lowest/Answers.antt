-- The place of the lowest bit.
use Rattle.std.proofs.Common.{◌≡◌, true, inl, inr, w64, arith}
use Rattle.std.specs.Int.{trailing_zeros}
use Rattle.std.proofs.lemmas.Bool.{cases_lt}
use Rattle.lemmas.specs.Bits.{is_set}
use Rattle.lemmas.proofs.WordBits.{below_lowest, lowest_set, zeros_of_none}
use Rattle.cell_rows.proofs.bit_places.lowest.Goals as goal

pub returns-clause-none : goal.returns-clause-none
returns-clause-none c = below_lowest c.args.word (omega (arith, c.ranges.word.fits))

pub returns-clause-found : goal.returns-clause-found
returns-clause-found c l = elim (cases_lt 0 c.args.word) as (λ _. is_set c.args.word (trailing_zeros w64 c.args.word) ≡ true) [
  | inl some ↦ (lowest_set c.args.word (omega (arith, c.ranges.word.fits)) (λ none. omega (arith, none))).0
  | inr none ↦ (let all = zeros_of_none c.args.word (omega arith) in absurd (omega (arith, l, all)))
]
