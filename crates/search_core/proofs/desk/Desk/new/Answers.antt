-- The desk of a search that begins.
use Rattle.std.proofs.Common.{◌≡◌, Bool, Some, None, sym, ◌∙◌, ap}
use Rattle.std.specs.Arc.{arc_value}
use Rattle.std.specs.Prelude.{if◌then◌else◌}
use Rattle.solid_model.specs.declared.ended.EndKind.TheVariants.{Whole}
use Rattle.search_core.specs.Ledger.{ledger_of}
use Rattle.search_core.proofs.DeskLedger.{desk-begun}
use Rattle.search_core.proofs.desk.Desk.new.Goals as goal
use Rattle.search_core.proofs.desk.Desk.new.Goals.{then-live, else-live}

pub invariant_of-result : goal.invariant_of-result
invariant_of-result c =
    let end : c.if-live.end ≡ (if c.args.live then None else Some Whole) =
    elim c.if-live.branch as (λ _. c.if-live.end ≡ (if c.args.live then None else Some Whole)) [
      | then-live w ↦ w.end-is ∙ ap (λ (t : Bool). if t then None else Some Whole) (sym w.if-live.true)
      | else-live w ↦ w.end-is ∙ ap (λ (t : Bool). if t then None else Some Whole) (sym w.if-live.false)
    ] in
    (c.in_ok-ledger.ensures.first, desk-begun (arc_value c.args.problem) c.args.limits (ledger_of c.in_ok-ledger.ledger) c.args.live c.in_ok-ledger.ensures.begun c.requires c.if-live.end end)
