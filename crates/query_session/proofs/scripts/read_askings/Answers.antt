-- What the next line says stands behind what is read so far.
use Rattle.std.proofs.Common.{◌≡◌, ◌≤◌, ◌+◌, ◌∷◌, [], Ok, Some, length, length-append, sym, ◌∙◌, ap, subst, arith}
use Rattle.dxf_groups.specs.TextLines.{text_lines}
use Rattle.query_session.specs.Sessions.{before, line_said, read_askings}
use Rattle.query_session.proofs.LineByLine.{before_none, counted_on, read_more}
use Rattle.query_session.proofs.scripts.read_askings.Goals as goal

pub loop-rest-preserved : goal.loop-rest-preserved
loop-rest-preserved c =
    let xs = c.loop-rest.askings.items in
    let a = c.in-Ok-Some.asking in
    let count : c.len.result ≡ length xs = omega (arith, c.len.ensures, c.loop-rest.askings.ok.0) in
    let said : line_said c.args.readers c.len.result c.first_line.result.0.now ≡ Ok (Some a) = sym c.line_said.ensures ∙ c.in-Ok-Some.is ∙ ap Ok c.in-Ok-Some.field-0-is in
    let pushed = c.in_ok-add-in-Ok-Some.ensures in
    let few : c.len.result ≤ 100 = omega (arith, count, c.loop-rest.invariant.few) in
    let more : c.len.result + 1 ≤ 100 = counted_on c.args.readers c.len.result c.first_line.result.0.now a few said in
    record {
      read = read_more (read_askings c.args.readers 0 (text_lines c.args.bytes.now)) c.args.readers xs c.add.new.askings.items c.first_line.result.0.now (text_lines c.loop-rest.rest.now)
          (text_lines c.first_line.result.1.now) c.len.result a c.loop-rest.invariant.read c.first_line.ensures.lines count said pushed;
      few = omega (arith, more, count, ap length pushed, length-append xs (a ∷ []));
    }

pub loop-rest-init : goal.loop-rest-init
loop-rest-init c = record {
  read = subst (λ xs. read_askings c.args.readers 0 (text_lines c.args.bytes.now) ≡ before xs (read_askings c.args.readers (length xs) (text_lines c.args.bytes.now)))
      (sym c.new-askings.ensures.items) (sym (before_none (read_askings c.args.readers 0 (text_lines c.args.bytes.now))));
  few = omega (arith, ap length c.new-askings.ensures.items);
}
