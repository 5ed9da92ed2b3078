-- The rows before are closed: no step leads to them from the row that has grown, or it leads to no further cells.
use Rattle.std.proofs.Common.{inl, inr, ◌+◌, arith}
use Rattle.std.proofs.lemmas.Bool.{cases_eq}
use Rattle.flood.specs.RowFlood.{ways_of, IsClosedRow}
use Rattle.flood.proofs.row_flood.first_open.Goals as goal

pub returns-then-is_open_before-clause-closed : goal.returns-then-is_open_before-clause-closed
returns-then-is_open_before-clause-closed c r l =
    let there = c.is_open_before.ensures.there c.if-is_open_before.true in
    c.requires.closed r (omega (arith, l)) (λ e. omega (arith, l, e, there.0)) (λ e. omega (arith, l, e, there.1))

pub returns-then-is_open_before-2-clause-closed : goal.returns-then-is_open_before-2-clause-closed
returns-then-is_open_before-2-clause-closed c r l =
    elim (cases_eq (r + c.args.ways.now.layer) c.args.row) as (λ _. IsClosedRow (ways_of c.args.ways.now) c.args.reached.now r) [
      | inl e ↦ c.is_open_before.ensures.closed c.if-is_open_before.false r (omega (arith, l)) e
      | inr apart ↦ c.requires.closed r (omega (arith, l)) (λ e. omega (arith, l, e)) apart
    ]

pub returns-clause-closed : goal.returns-clause-closed
returns-clause-closed c r l =
    elim (cases_eq (r + 1) c.args.row) as (λ _. IsClosedRow (ways_of c.args.ways.now) c.args.reached.now r) [
      | inl e ↦ c.is_open_before-2.ensures.closed c.if-is_open_before-2.false r l e
      | inr one ↦ elim (cases_eq (r + c.args.ways.now.layer) c.args.row) as (λ _. IsClosedRow (ways_of c.args.ways.now) c.args.reached.now r) [
        | inl e ↦ c.is_open_before.ensures.closed c.if-is_open_before.false r l e
        | inr apart ↦ c.requires.closed r l one apart
      ]
    ]
