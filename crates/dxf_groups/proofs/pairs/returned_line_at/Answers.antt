-- The line is its three columns and the carriage return.
use Rattle.std.proofs.Common.{◌≡◌, ◌-◌, ◌≤◌, ℕ, List, Some, rules, take, drop, length, w32, FitsSigned, sym, ap, subst, ◌∙◌, arith}
use Rattle.std.specs.List.{after_first, before_first}
use Rattle.std.proofs.lemmas.Int.{to_z-of_z}
use Rattle.std.proofs.lemmas.List.{drop-drop, length-drop, take_rest}
use Rattle.dxf_groups.specs.Codes.{group_code_of}
use Rattle.dxf_groups.specs.TextLines.{content_of, is_feed}
use Rattle.dxf_groups.proofs.ColumnCodes.{behind_returned, returned_columns}
use Rattle.dxf_groups.proofs.pairs.returned_line_at.Goals as goal

pub returns : goal.returns
returns c =
    let text = c.args.text.now in
    let start = c.args.start in
    let rest : List ℕ = take (length text - start) (drop start text) in
    let same : rest ≡ drop start text = take_rest text start in
    let line = c.in_ok-code.ensures.line in
    let fits : FitsSigned w32 c.in_ok-code.code = search rules in
    let long : 5 ≤ length rest = omega (arith, c.if-line-lt5.false, ap length same, length-drop start text) in
    let code = ap group_code_of (returned_columns rest long line.0 line.1 line.2 line.3 c.if-line-ne13.false c.if-line-ne10.false) ∙ c.in_ok-code.ensures.code in
    let next = behind_returned rest long line.0 line.1 line.2 c.if-line-ne13.false c.if-line-ne10.false in
    record {
      code = rw to_z-of_z (sym (subst (λ t. group_code_of (content_of (before_first is_feed t)) ≡ Some c.in_ok-code.code) same code));
      next = sym (subst (λ t. after_first is_feed t ≡ drop 5 t) same next ∙ drop-drop 5 start text);
      goes_on = omega arith;
      within = omega (arith, long, ap length same, length-drop start text);
    }
