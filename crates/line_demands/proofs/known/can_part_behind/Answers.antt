-- The first depth at which both may be full is not behind the first one at which a cell is full for certain, and farther away
-- they can differ.
use Rattle.std.proofs.Common.{◌<◌, ◌≤◌, ◌/◌, ◌^◌, bit_and, bit_or, w64, rules, arith}
use Rattle.std.specs.Int.{trailing_zeros}
use Rattle.std.specs.Int.Bits.{and_lt}
use Rattle.std.proofs.lemmas.Bool.{false≢true, leb-true, le-leb, not-true, eqb-false, not_from_false, ne_eqb}
use Rattle.std.proofs.lemmas.Nat.{or_lt}
use Rattle.std.proofs.Math.Nat.{div-le_self}
use Rattle.solid_model.proofs.KnownBits.{dashed_from, dashed_to}
use Rattle.lemmas.proofs.WordBits.{set_both}
use Rattle.line_demands.proofs.known.can_part_behind.Goals as goal

pub returns-then-both-eq0 : goal.returns-then-both-eq0
returns-then-both-eq0 c =
    let after = c.args.after in
    let before = c.args.before in
    let differ = c.can_differ-differ.result in
    let both = bit_and after.may before.may in
    let a_fits : after.full < 2 ^ 64 = search rules in
    let b_fits : before.full < 2 ^ 64 = search rules in
    let full_fits : bit_or after.full before.full < 2 ^ 64 = or_lt 64 after.full before.full a_fits b_fits in
    let d_fits : differ < 2 ^ 64 = search rules in
    let both_fits : both < 2 ^ 64 = and_lt 64 after.may before.may (search rules) (search rules) in (
      λ e. absurd (false≢true e),
      λ drawn. absurd ((dashed_to after.full after.may before.full before.may c.requires.after c.requires.before differ a_fits b_fits full_fits d_fits c.can_differ-differ.ensures both both_fits (set_both after.may before.may) drawn).0 c.if-both-eq0.true),
    )

pub returns-then-depth-first : goal.returns-then-depth-first
returns-then-depth-first c =
    let after = c.args.after in
    let before = c.args.before in
    let differ = c.can_differ-differ.result in
    let both = bit_and after.may before.may in
    let a_fits : after.full < 2 ^ 64 = search rules in
    let b_fits : before.full < 2 ^ 64 = search rules in
    let full_fits : bit_or after.full before.full < 2 ^ 64 = or_lt 64 after.full before.full a_fits b_fits in
    let d_fits : differ < 2 ^ 64 = search rules in
    let both_fits : both < 2 ^ 64 = and_lt 64 after.may before.may (search rules) (search rules) in
    let near_fits : differ / 2 ^ trailing_zeros w64 both ≤ differ = div-le_self differ (2 ^ trailing_zeros w64 both) in
    let far_fits : differ / 2 ^ trailing_zeros w64 both / 2 < 2 ^ 64 = omega (arith, div-le_self (differ / 2 ^ trailing_zeros w64 both) 2) in (
      λ far. dashed_from after.full after.may before.full before.may c.requires.after c.requires.before differ a_fits b_fits full_fits d_fits c.can_differ-differ.ensures
          both both_fits (set_both after.may before.may) c.if-both-eq0.false c.if-depth-first.true
          (λ none. eqb-false (differ / 2 ^ trailing_zeros w64 both / 2) 0 (not-true _ far) none) far_fits,
      λ drawn. not_from_false _ (ne_eqb (differ / 2 ^ trailing_zeros w64 both / 2) 0
          (dashed_to after.full after.may before.full before.may c.requires.after c.requires.before differ a_fits b_fits full_fits d_fits c.can_differ-differ.ensures both both_fits (set_both after.may before.may) drawn).2),
    )

pub returns-else-depth-first : goal.returns-else-depth-first
returns-else-depth-first c =
    let after = c.args.after in
    let before = c.args.before in
    let differ = c.can_differ-differ.result in
    let both = bit_and after.may before.may in
    let a_fits : after.full < 2 ^ 64 = search rules in
    let b_fits : before.full < 2 ^ 64 = search rules in
    let full_fits : bit_or after.full before.full < 2 ^ 64 = or_lt 64 after.full before.full a_fits b_fits in
    let d_fits : differ < 2 ^ 64 = search rules in
    let both_fits : both < 2 ^ 64 = and_lt 64 after.may before.may (search rules) (search rules) in (
      λ near. absurd (let l = leb-true (trailing_zeros w64 both) (trailing_zeros w64 (bit_or after.full before.full)) near in omega arith),
      λ drawn. le-leb (trailing_zeros w64 both) (trailing_zeros w64 (bit_or after.full before.full)) (dashed_to after.full after.may before.full before.may c.requires.after c.requires.before differ a_fits b_fits full_fits d_fits c.can_differ-differ.ensures both both_fits (set_both after.may before.may) drawn).1,
    )
