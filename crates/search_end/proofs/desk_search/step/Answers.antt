-- A desk without an end has a live piece, of which a report is taken.
use Rattle.std.proofs.Common.{OnOk, Result, Ok, Err, sym, ◌∙◌, ap, subst, arith}
use Rattle.std.proofs.lemmas.Bool.{both_ways}
use Rattle.std.proofs.lemmas.Option.{MatchOption-at_none}
use Rattle.solid_model.specs.Forcing.{is_live}
use Rattle.search_core.specs.Reported.{IsReported}
use Rattle.search_core.proofs.Desks.{piece_waits, piece_lives, report_opens}
use Rattle.search_end.specs.GoingOn.{DeskGoesOn}
use Rattle.search_end.proofs.desk_search.step.Goals as goal

-- what holds where there is a value tells more there
on_ok : {T E A B : Type 0} (r : Result T E) → (A → B) → OnOk r A → OnOk r B
on_ok (Ok x) f a = f a
on_ok (Err e) f a = a

pub unreachable-requires : goal.unreachable-requires
unreachable-requires c = piece_waits c.args.desk.now c.known.ensures c.requires.going c.in_default.ensures.piece

pub unreachable-requires-in_default-2 : goal.unreachable-requires-in_default-2
unreachable-requires-in_default-2 c =
    let p = c.args.desk.now.problem in
    let piece = c.in-Some.piece.now in
    let dead = MatchOption-at_none _ _ c.in_default-2.is c.in_ok-expansion.ensures.live in
    both_ways (is_live p piece) (ap (λ q. is_live q piece) (sym c.problem.ensures.problem) ∙ dead)
    (piece_lives c.args.desk.now c.known.ensures piece c.in-Some.ensures.piece.stands)

pub returns-in-Ok-Taken-clause-opened : goal.returns-in-Ok-Taken-clause-opened
returns-in-Ok-Taken-clause-opened c =
    let before = c.args.desk.now in
    let after = c.report.new.self in
    let answer = subst (IsReported before c.in-Some-2.expansion after) c.in-Ok-Taken.field-0-is c.in-Ok-Taken.ensures.answer in
    let opens = report_opens before after c.in-Some-2.expansion c.known.ensures c.report.ensures.kept answer.1 in
    on_ok c.go_deep.result (λ (on : DeskGoesOn after c.go_deep.new.desk). omega (arith, opens, on.opened)) c.go_deep.ensures.goes_on
