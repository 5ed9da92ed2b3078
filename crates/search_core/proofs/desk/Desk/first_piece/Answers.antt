-- The frontier has what was put first, which is kept whole, or is empty.
use Rattle.std.proofs.Common.{◌≡◌, [], sym, ◌∙◌, ap, subst}
use Rattle.std.specs.Arc.{arc_value}
use Rattle.search_core.specs.Desk.{DeskParts, IsFirstPiece}
use Rattle.search_core.specs.Ledger.{ledger_of}
use Rattle.prefix_tree.specs.Places.{prefix_at}
use Rattle.search_core.proofs.DeskLedger.{first-piece}
use Rattle.search_core.proofs.KeptFrontiers.{none-left}
use Rattle.search_core.proofs.desk.Desk.first_piece.Goals as goal

pub returns-in-Some-clause-piece : goal.returns-in-Some-clause-piece
returns-in-Some-clause-piece c =
    let desk = c.self.inside in
    let ledger = desk.ledger in
    let known = c.self.invariant.0 in
    let place = c.in-Some.field-0 in
    let is : prefix_at ledger.prefixes place ≡ ledger.first.prefix = ap (prefix_at ledger.prefixes) (sym (c.in-Some.ensures.ahead ledger.first.place) ∙ known.is) ∙ known.stands.there in
    subst (λ (v : DeskParts). IsFirstPiece v ledger.first.prefix) c.self.view_is
    (subst (IsFirstPiece _) is (first-piece (arc_value desk.problem) desk.limits (ledger_of ledger) desk.opened desk.end c.self.invariant.1 place c.in-Some.ensures.first))

pub returns-in-None-clause-piece : goal.returns-in-None-clause-piece
returns-in-None-clause-piece c =
    let ledger = c.self.inside.ledger in
    subst (λ (v : DeskParts). v.frontier ≡ []) c.self.view_is (none-left ledger.prefixes ledger.frontier.counts _ c.self.invariant.1.frontier c.in-None.ensures.first)
