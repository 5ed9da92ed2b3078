-- The line to the next point is the next of those that are owed.
use Rattle.std.proofs.Common.{◌≡◌, ◌+◌, true, ◌||◌, ◌++◌, [], ◌∷◌, drop, int_eq, sym, subst, ◌∙◌}
use Rattle.std.proofs.lemmas.Bool.{and_parts}
use Rattle.solid_model.proofs.Sheets.{near_in_code}
use Rattle.dxf_entities.specs.Known.{Point}
use Rattle.dxf_entities.specs.DrawnLines.{are_straight_from, line_between, lines_from}
use Rattle.dxf_entities.proofs.NextPoints.{straight_next, line_pushed}
use Rattle.dxf_entities.proofs.drawn_lines.push_lines.Goals as goal

pub loop-to-preserved : goal.loop-to-preserved
loop-to-preserved c =
    let rest = c.args.rest.now in
    let i = c.loop-to.to-index in
    let items = c.loop-to.lines.items in
    let from : Point = c.loop-to.from in
    let to : Point = c.to-item.result in
    let near_from = c.from.invariant in
    let near_to = c.to.invariant in
    let seen : Point = record { x = c.to.inside.x; y = c.to.inside.y } in
    let all = c.args.lines.now.items ++ lines_from c.args.line c.args.pen c.args.first rest in
    let both =
    and_parts (int_eq from.x to.x || int_eq from.y to.y) (are_straight_from to (drop (i + 1) rest))
    (sym (straight_next from rest i to c.loop-to-test.true c.to-item.is) ∙ c.loop-to.invariant.straight) in
    let owed =
    line_pushed c.args.line c.args.pen from rest i to items c.loop-to-test.true c.to-item.is
    ∙ c.loop-to.invariant.lines in
    let to_seen =
    subst
    (λ (b : Point). (items ++ line_between c.args.line c.args.pen from b ∷ [])
    ++ lines_from c.args.line c.args.pen b (drop (i + 1) rest) ≡ all) (sym c.to.view_is) owed in
    record {
      straight =
          subst (λ (b : Point). are_straight_from b (drop (i + 1) rest) ≡ true) (sym c.to.view_is) both.1;
      lines =
          rw (c.in_ok-push.ensures.items, near_in_code c.from.inside.x near_from.x, near_in_code c.from.inside.y near_from.y, near_in_code c.to.inside.x near_to.x, near_in_code c.to.inside.y near_to.y)
          (subst
          (λ (a : Point). (items ++ line_between c.args.line c.args.pen a seen ∷ [])
          ++ lines_from c.args.line c.args.pen seen (drop (i + 1) rest) ≡ all) (sym c.from.view_is) to_seen);
    }
