-- Style by style; of columns that draw Dashed first the cells down to the first depth at which both may be full, then the others.
use Rattle.std.proofs.Common.{inl, inr, bit_and, sym, subst}
use Rattle.std.proofs.lemmas.Bool.{cases_Bool}
use Rattle.line_demands.specs.Doubted.{CanDrawWith, AreFree}
use Rattle.line_demands.proofs.free.are_free.Goals as goal
use Rattle.solid_model.specs.declared.segment.Style.TheVariants.{Dashed}
use Rattle.lemmas.specs.Bits.{is_set, near}
use Rattle.solid_model.specs.Known.{known_bits}
use Rattle.solid_model.specs.Demands.{CanDraw}

pub are_free_equal-requires-clause-met : goal.are_free_equal-requires-clause-met
are_free_equal-requires-clause-met c = subst (CanDraw (known_bits c.args.after.full c.args.after.may) (known_bits c.args.before.full c.args.before.may)) c.in-Blank.is c.requires.met

pub returns-in-Blank : goal.returns-in-Blank
returns-in-Blank c = λ yes. subst (AreFree (known_bits c.args.after.full c.args.after.may) (known_bits c.args.before.full c.args.before.may)) (sym c.in-Blank.is) (c.are_free_equal.ensures yes)

pub are_free_down-requires-clause-met : goal.are_free_down-requires-clause-met
are_free_down-requires-clause-met c = subst (CanDraw (known_bits c.args.after.full c.args.after.may) (known_bits c.args.before.full c.args.before.may)) c.in-Dashed.is c.requires.met

pub are_free_beyond-requires-clause-met : goal.are_free_beyond-requires-clause-met
are_free_beyond-requires-clause-met c = subst (CanDraw (known_bits c.args.after.full c.args.after.may) (known_bits c.args.before.full c.args.before.may)) c.in-Dashed.is c.requires.met

pub returns-then-are_free_down : goal.returns-then-are_free_down
returns-then-are_free_down c = λ yes.
    let one = known_bits c.args.after.full c.args.after.may in
    let other = known_bits c.args.before.full c.args.before.may in
    let cells = near (bit_and c.args.after.may c.args.before.may) in
    let at = c.are_free_down.ensures c.if-are_free_down.true in
    let but = c.are_free_beyond.ensures yes in
    subst (AreFree one other) (sym c.in-Dashed.is) (
      λ k v none. elim (cases_Bool (is_set cells k)) as (λ _. CanDrawWith one other Dashed k v) [ inl set ↦ at.0 k v none set | inr off ↦ but.0 k v none off ],
      λ k v none. elim (cases_Bool (is_set cells k)) as (λ _. CanDrawWith other one Dashed k v) [ inl set ↦ at.1 k v none set | inr off ↦ but.1 k v none off ],
    )

pub returns-in-Solid : goal.returns-in-Solid
returns-in-Solid c = λ yes. subst (AreFree (known_bits c.args.after.full c.args.after.may) (known_bits c.args.before.full c.args.before.may)) (sym c.in-Solid.is) (c.are_free_apart.ensures yes)
