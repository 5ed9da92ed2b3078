-- Straight lines are added where there is room for them.
use Rattle.std.proofs.Common.{◌≡◌, ◌-◌, ◌<◌, ◌≤◌, Ok, Err, length, take, drop, ap, sym, subst, ◌∙◌, arith}
use Rattle.solid_model.specs.declared.fault.Fault.TheVariants.{TooManyLines}
use Rattle.solid_model.specs.Limits.{most_lines}
use Rattle.dxf_entities.specs.Known.{Point}
use Rattle.dxf_entities.specs.DrawnLines.{added_along}
use Rattle.dxf_entities.proofs.NextPoints.{first_point, lines_fit, lines_too_many}
use Rattle.dxf_entities.proofs.drawn_lines.add_along.Goals as goal

pub returns-then-rest-saturating_sub : goal.returns-then-rest-saturating_sub
returns-then-rest-saturating_sub c =
    let lines = c.args.lines.now.items in
    let points = c.args.vertices.now in
    let first : Point = c.first-item.result in
    let rest = take (length points - 1) (drop 1 points) in
    let split = first_point points first (omega arith) c.first-item.is in
    let counted = ap length split in
    let many : most_lines - length lines < length rest = omega (arith, counted) in
    subst (λ ps. added_along c.args.line c.args.pen lines ps ≡ Err (TooManyLines c.args.line)) (sym split)
    (lines_too_many c.args.line c.args.pen lines first rest
    (sym c.are_straight.ensures ∙ c.if-not-are_straight.false) many)

pub returns : goal.returns
returns c =
    let lines = c.args.lines.now.items in
    let points = c.args.vertices.now in
    let first : Point = c.first-item.result in
    let rest = take (length points - 1) (drop 1 points) in
    let split = first_point points first (omega arith) c.first-item.is in
    let counted = ap length split in
    let room : length rest ≤ most_lines - length lines = omega (arith, counted) in
    subst (λ ps. added_along c.args.line c.args.pen lines ps ≡ Ok c.push_lines.new.lines.items) (sym split)
    (lines_fit c.args.line c.args.pen lines first rest
    (sym c.are_straight.ensures ∙ c.if-not-are_straight.false) room
    ∙ ap Ok (sym c.in_ok-push_lines.ensures))
