-- What is no code with a value behind it is the fault with which the pairs end.
use Rattle.std.proofs.Common.{rules, w32, FitsSigned, sym, ◌∙◌, arith}
use Rattle.std.proofs.lemmas.Int.{to_z-of_z}
use Rattle.std.proofs.lemmas.List.{drop_all}
use Rattle.dxf_groups.proofs.FirstPairs.{bad_code_read, first_line_read, no_value_read}
use Rattle.dxf_groups.proofs.pairs.code_at.Goals as goal

pub returns : goal.returns
returns c =
    let code_line = c.code_line_at-code_line.ensures in
    let fits : FitsSigned w32 c.in-Some.code = search rules in
    record {
      some = omega arith;
      code = rw to_z-of_z (sym code_line.code ∙ c.in-Some.is);
      next = code_line.next;
      goes_on = code_line.goes_on;
      within = omega (arith, code_line.within);
    }

pub returns-in_default : goal.returns-in_default
returns-in_default c =
    let code_line = c.code_line_at-code_line.ensures in
    bad_code_read c.args.line _ _ _
    (first_line_read c.args.text.now c.args.start c.code_line_at-code_line.result.after (omega arith)
    code_line.next) (sym code_line.code ∙ c.in_default.is)

pub returns-then-code_line-text : goal.returns-then-code_line-text
returns-then-code_line-text c =
    let code_line = c.code_line_at-code_line.ensures in
    no_value_read c.args.line _ _ _ _
    (first_line_read c.args.text.now c.args.start c.code_line_at-code_line.result.after (omega arith)
    code_line.next) (drop_all _ c.args.text.now (omega arith)) (sym code_line.code ∙ c.in-Some.is)
