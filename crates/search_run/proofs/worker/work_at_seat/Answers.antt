-- What was done since the worker came is what was done at its seats, and to keep a piece is no work there.
use Rattle.std.proofs.Common.{sym, subst}
use Rattle.steal_pool.specs.WorkerSeats.{state_of}
use Rattle.search_run.specs.Worked.{HasWorked}
use Rattle.search_run.proofs.Work.{worked_none}
use Rattle.search_run.proofs.worker.work_at_seat.Goals as goal

pub returns-in_default : goal.returns-in_default
returns-in_default g c =
    let first = state_of c.args.seat in
    record { worked = subst (HasWorked first) (sym c.into_seat.ensures) (c.next_piece.ensures first (subst (HasWorked first) (sym c.new-worker.ensures) (worked_none first))) }

pub returns-in_default-own_path : goal.returns-in_default-own_path
returns-in_default-own_path g c =
    let first = state_of c.args.seat in
    let found = c.next_piece.ensures first (subst (HasWorked first) (sym c.new-worker.ensures) (worked_none first)) in
    record { worked = subst (HasWorked first) (sym c.into_seat-in_default-own_path.ensures) (c.leave_to_others.ensures first found) }

pub returns : goal.returns
returns g c =
    let first = state_of c.args.seat in
    let found = c.next_piece.ensures first (subst (HasWorked first) (sym c.new-worker.ensures) (worked_none first)) in
    record { worked = subst (HasWorked first) (sym c.into_seat-2.ensures) (c.go_round.ensures.worked first (subst (HasWorked first) (sym c.keep.ensures) found)) }
