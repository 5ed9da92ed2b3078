-- Each byte tells whether its columns can draw their style.
use Rattle.std.proofs.Common.{get_or, sym, subst}
use Rattle.solid_model.specs.Known.{known_bits}
use Rattle.column_lanes.specs.Meets.{IsMetByte}
use Rattle.column_lanes.proofs.MetColumns.{code_is_met}
use Rattle.column_lanes.proofs.met_bytes.still_meets.Goals as goal

pub returns : goal.returns
returns c = λ k l.
    let fl = get_or c.args.full_l.now k 0 in
    let ml = get_or c.args.may_l.now k 0 in
    let fr = get_or c.args.full_r.now k 0 in
    let mr = get_or c.args.may_r.now k 0 in
    let want = get_or c.args.want.now k 0 in
    subst (λ byte. IsMetByte byte want (known_bits fl ml) (known_bits fr mr)) (sym (c.put_met_rest.ensures k l))
    (code_is_met fl ml fr mr (c.type_inv.full_l k).fits (c.type_inv.may_l k).fits (c.type_inv.full_r k).fits (c.type_inv.may_r k).fits
    (c.requires.within_l k l) (c.requires.within_r k l) want (c.requires.wanted k l))
