use Rattle.std.proofs.Common.{rules, Some, w32, FitsSigned, sym, ap, ◌∙◌}
use Rattle.std.proofs.lemmas.Int.{to_z-of_z}
use Rattle.dxf_groups.proofs.ColumnCodes.{column_code}
use Rattle.dxf_groups.proofs.codes.code_in_columns.Goals as goal

pub returns-clause-code : goal.returns-clause-code
returns-clause-code c =
    let fits : FitsSigned w32 c.from.result = search rules in
    rw to_z-of_z
    (column_code c.args.a c.args.b c.args.c _ _ c.in_ok-number.number c.digit_behind.ensures
    c.digit_behind-2.ensures (sym c.number_of.ensures ∙ c.in_ok-number.was)
    ∙ ap Some (sym c.from.ensures))
