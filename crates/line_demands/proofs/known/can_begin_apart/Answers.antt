-- The first depth at which the two can differ is not behind the first one at which a cell is full for certain.
use Rattle.std.proofs.Common.{◌<◌, ◌^◌, bit_or, w64, rules}
use Rattle.std.specs.Int.{trailing_zeros}
use Rattle.std.proofs.lemmas.Bool.{leb-true, le-leb, not-true, eqb-false}
use Rattle.std.proofs.lemmas.Nat.{or_lt}
use Rattle.solid_model.proofs.KnownBits.{solid_from, solid_to}
use Rattle.line_demands.proofs.known.can_begin_apart.Goals as goal

pub returns-then-differ-ne0 : goal.returns-then-differ-ne0
returns-then-differ-ne0 c =
    let after = c.args.after in
    let before = c.args.before in
    let a_fits : after.full < 2 ^ 64 = search rules in
    let b_fits : before.full < 2 ^ 64 = search rules in
    let both_fit : bit_or after.full before.full < 2 ^ 64 = or_lt 64 after.full before.full a_fits b_fits in
    let d_fits : c.can_differ-differ.result < 2 ^ 64 = search rules in (
      λ near. solid_from after.full after.may before.full before.may c.requires.after c.requires.before c.can_differ-differ.result a_fits b_fits both_fit d_fits c.can_differ-differ.ensures
          c.if-differ-ne0.true (leb-true (trailing_zeros w64 c.can_differ-differ.result) (trailing_zeros w64 (bit_or after.full before.full)) near),
      λ drawn. le-leb (trailing_zeros w64 c.can_differ-differ.result) (trailing_zeros w64 (bit_or after.full before.full))
          (solid_to after.full after.may before.full before.may c.requires.after c.requires.before c.can_differ-differ.result a_fits b_fits both_fit d_fits c.can_differ-differ.ensures drawn).1,
    )

pub returns-else-differ-ne0 : goal.returns-else-differ-ne0
returns-else-differ-ne0 c =
    let after = c.args.after in
    let before = c.args.before in
    let a_fits : after.full < 2 ^ 64 = search rules in
    let b_fits : before.full < 2 ^ 64 = search rules in
    let both_fit : bit_or after.full before.full < 2 ^ 64 = or_lt 64 after.full before.full a_fits b_fits in
    let d_fits : c.can_differ-differ.result < 2 ^ 64 = search rules in (
      λ some. absurd (eqb-false c.can_differ-differ.result 0 (not-true _ some) c.if-differ-ne0.false),
      λ drawn. absurd ((solid_to after.full after.may before.full before.may c.requires.after c.requires.before c.can_differ-differ.result a_fits b_fits both_fit d_fits c.can_differ-differ.ensures drawn).0 c.if-differ-ne0.false),
    )
