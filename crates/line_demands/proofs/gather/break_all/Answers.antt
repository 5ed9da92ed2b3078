-- One line more.
use Rattle.std.proofs.Common.{◌+◌, List, Bool, ℕ, vec_capacity, ap, sym, subst, ◌∙◌, rules}
use Rattle.std.proofs.lemmas.Bool.{both_ways}
use Rattle.std.proofs.lemmas.List.{get_or_default}
use Rattle.line_demands.specs.Lines.{AreMarked, IsMetBy, AreBrokenTo}
use Rattle.line_demands.proofs.Gathering.{one_met, one_broken}
use Rattle.line_demands.proofs.gather.break_all.Goals as goal
use Rattle.line_demands.proofs.gather.break_all.Goals.{then-not-can_be_met, else-not-can_be_met}

pub loop-line-preserved : goal.loop-line-preserved
loop-line-preserved c =
    let columns = c.args.columns.now in
    let sides = c.args.sides.now in
    let n = c.loop-line.line in
    let so_far = c.loop-line.invariant in
    elim c.if-not-can_be_met.branch [
      | then-not-can_be_met w ↦ record {
        marked = subst (λ (bs : List ℕ). AreMarked c.if-not-can_be_met.met bs) (sym (λ t. (w.broken-is t).items)) (subst (λ (ms : List Bool). AreMarked ms w.break_line.new.broken.items) (sym w.met-is) w.break_line.ensures.marked);
        count = search rules;
        room = ap vec_capacity w.broken-is ∙ w.break_line.ensures.room ∙ so_far.room;
        broken = subst (AreBrokenTo columns sides (n + 1)) (sym ((λ t. (w.broken-is t).items) ∙ w.break_line.ensures.broken))
            (one_broken columns sides n c.loop-line.broken.items so_far.broken
            (λ e l met. both_ways c.can_be_met.result w.if-not-can_be_met.true (c.can_be_met.ensures.1 (subst (IsMetBy columns) (get_or_default sides n e _ l) met))));
      }
      | else-not-can_be_met w ↦ record {
        marked = subst (λ (bs : List ℕ). AreMarked c.if-not-can_be_met.met bs) (sym (λ t. (w.broken-is t).items)) (subst (λ (ms : List Bool). AreMarked ms c.loop-line.broken.items) (sym w.met-is) so_far.marked);
        count = search rules;
        room = ap vec_capacity w.broken-is ∙ so_far.room;
        broken = subst (AreBrokenTo columns sides (n + 1)) (sym (λ t. (w.broken-is t).items))
            (one_met columns sides n c.loop-line.broken.items so_far.broken (λ e l. subst (IsMetBy columns) (get_or_default sides n _ e l) (c.can_be_met.ensures.0 w.if-not-can_be_met.false)));
      }
    ]
