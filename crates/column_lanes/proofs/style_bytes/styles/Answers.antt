-- Each byte tells the style that its columns draw.
use Rattle.std.proofs.Common.{get_or, sym, subst}
use Rattle.lemmas.specs.Bits.{bits}
use Rattle.column_lanes.specs.Styles.{IsStyleByte}
use Rattle.column_lanes.proofs.LowestBits.{code_tells}
use Rattle.column_lanes.proofs.style_bytes.styles.Goals as goal

pub returns : goal.returns
returns c = λ k l.
    let after = get_or c.args.after.now k 0 in
    let before = get_or c.args.before.now k 0 in
    subst (λ byte. IsStyleByte byte (bits after) (bits before)) (sym (c.put_rest.ensures k l)) (code_tells after before (c.type_inv.after k).fits (c.type_inv.before k).fits)
