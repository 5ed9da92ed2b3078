-- A report is taken, or refused.
use Rattle.std.proofs.Common.{◌≡◌, ◌+◌, ℕ, List, Bool, None, refl, sym, ◌∙◌, ap, subst}
use Rattle.std.specs.Arc.{arc_value}
use Rattle.lemmas.specs.Lists.{Member}
use Rattle.search_core.specs.Ledger.{ledger_of, history_of, desk_of}
use Rattle.search_core.specs.Desk.{DeskParts, IsDesk, Takes, IsTaken}
use Rattle.prefix_tree.specs.Places.{StandsAt}
use Rattle.search_core.proofs.DeskLedger.{history-grown, desk-grown, desk-reported, desk-is, desk-gone, desk-counted, none-from, taken_on}
use Rattle.search_core.proofs.desk.Desk.answer.Goals as goal

pub returns-then-not-same-clause-kept : goal.returns-then-not-same-clause-kept
returns-then-not-same-clause-kept c = let self = c.self.inside in subst IsDesk c.self.view_is (desk-is (arc_value self.problem) self.limits (ledger_of self.ledger) self.opened self.end c.self.invariant.1)

pub returns-then-is_some-clause-kept : goal.returns-then-is_some-clause-kept
returns-then-is_some-clause-kept c = let self = c.self.inside in subst IsDesk c.self.view_is (desk-is (arc_value self.problem) self.limits (ledger_of self.ledger) self.opened self.end c.self.invariant.1)

pub returns-in_default-clause-kept : goal.returns-in_default-clause-kept
returns-in_default-clause-kept c = let self = c.self.inside in subst IsDesk c.self.view_is (desk-is (arc_value self.problem) self.limits (ledger_of self.ledger) self.opened self.end c.self.invariant.1)

pub returns-in_default-clause-answer : goal.returns-in_default-clause-answer
returns-in_default-clause-answer c =
    let self = c.self.inside in
    let same : c.args.expansion.problem ≡ arc_value self.problem = sym c.problem.ensures.problem ∙ sym c.deref-2.ensures ∙ sym (c.same.ensures.0 c.if-not-same.false) ∙ c.deref.ensures in
    let going : self.end ≡ None = none-from self.end (sym c.is_some.ensures ∙ c.if-is_some.false) in
    subst (λ (v : DeskParts). (c.args.expansion.problem ≡ v.problem) × (v.end ≡ None) × (Member v.frontier c.args.expansion.piece → ⊥) × (c.args.self.now ≡ c.args.self.now)) c.self.view_is (
      same,
      sym c.self.invariant.1.end ∙ going,
      desk-gone (arc_value self.problem) self.limits (ledger_of self.ledger) self.opened self.end c.self.invariant.1 c.args.expansion.piece
          (λ k s. c.in_default.ensures k (subst (λ (p : List Bool). StandsAt self.ledger.prefixes p k) (sym c.piece.ensures) s)),
      refl,
    )

pub invariant_of-self : goal.invariant_of-self
invariant_of-self c =
    let self = c.self.inside in (
      c.prepare.ensures.first,
      desk-grown (arc_value self.problem) self.limits (ledger_of self.ledger) (ledger_of c.prepare.new.self) self.opened self.end c.prepare.ensures.grown c.self.invariant.1,
    )

pub returns-in_default-prepare : goal.returns-in_default-prepare
returns-in_default-prepare c =
    let self = c.self.inside in
    let same : c.args.expansion.problem ≡ arc_value self.problem = sym c.problem.ensures.problem ∙ sym c.deref-2.ensures ∙ sym (c.same.ensures.0 c.if-not-same.false) ∙ c.deref.ensures in
    let going : self.end ≡ None = none-from self.end (sym c.is_some.ensures ∙ c.if-is_some.false) in
    let stands = subst (λ (p : List Bool). StandsAt self.ledger.prefixes p c.in-Some.piece) c.piece.ensures c.in-Some.ensures.0 in
    let member = desk-counted (arc_value self.problem) self.limits (ledger_of self.ledger) self.opened self.end c.self.invariant.1 c.args.expansion.piece c.in-Some.piece stands c.in-Some.ensures.1 in
    let ready = ledger_of c.prepare.new.self in
    record {
      answer = (
        subst (λ (v : DeskParts). Takes v c.args.expansion) c.self.view_is (record { same = same; going = sym c.self.invariant.1.end ∙ going; in_frontier = member }),
        refl,
        ap (desk_of (arc_value self.problem) self.limits) (history-grown (ledger_of self.ledger) ready c.prepare.ensures.grown c.self.invariant.1.ledger) ∙ c.self.view_is,
      );
      kept = desk-is (arc_value self.problem) self.limits ready self.opened self.end
          (desk-grown (arc_value self.problem) self.limits (ledger_of self.ledger) ready self.opened self.end c.prepare.ensures.grown c.self.invariant.1);
    }

pub invariant_of-self-2 : goal.invariant_of-self-2
invariant_of-self-2 c =
    let self = c.self.inside in
    let same : c.args.expansion.problem ≡ arc_value self.problem = sym c.problem.ensures.problem ∙ sym c.deref-2.ensures ∙ sym (c.same.ensures.0 c.if-not-same.false) ∙ c.deref.ensures in
    let going : self.end ≡ None = none-from self.end (sym c.is_some.ensures ∙ c.if-is_some.false) in (
      c.post.ensures.first,
      (desk-reported (arc_value self.problem) self.limits (ledger_of self.ledger) (ledger_of c.prepare.new.self) (ledger_of c.post.new.self) self.opened (self.opened + c.from.result) c.opened.result c.in-Some.piece
          self.end c.end_after-self-inside.result c.args.expansion c.in-Ok.posting.found.items c.in-Ok.posting.rest.items c.self.invariant.1 same going c.problem.ensures.kept
          (subst (λ (p : List Bool). StandsAt self.ledger.prefixes p c.in-Some.piece) c.piece.ensures c.in-Some.ensures.0) c.in-Some.ensures.1
          c.in-Ok.ensures.grown (c.in-Ok.ensures.posting.found ∙ c.found.ensures) (c.in-Ok.ensures.posting.rest ∙ c.rest.ensures) c.in-Ok.ensures.posting.below
          c.post.ensures.posted c.opened.ensures (ap (λ (n : ℕ). self.opened + n) (c.from.ensures ∙ c.opened-2.ensures ∙ sym c.opened.ensures)) c.end_after-self-inside.ensures).ledger,
    )

pub returns : goal.returns
returns c =
    let self = c.self.inside in
    let same : c.args.expansion.problem ≡ arc_value self.problem = sym c.problem.ensures.problem ∙ sym c.deref-2.ensures ∙ sym (c.same.ensures.0 c.if-not-same.false) ∙ c.deref.ensures in
    let going : self.end ≡ None = none-from self.end (sym c.is_some.ensures ∙ c.if-is_some.false) in
    let stands = subst (λ (p : List Bool). StandsAt self.ledger.prefixes p c.in-Some.piece) c.piece.ensures c.in-Some.ensures.0 in
    let member = desk-counted (arc_value self.problem) self.limits (ledger_of self.ledger) self.opened self.end c.self.invariant.1 c.args.expansion.piece c.in-Some.piece stands c.in-Some.ensures.1 in
    let reported = desk-reported (arc_value self.problem) self.limits (ledger_of self.ledger) (ledger_of c.prepare.new.self) (ledger_of c.post.new.self) self.opened (self.opened + c.from.result) c.opened.result c.in-Some.piece
    self.end c.end_after-self-inside.result c.args.expansion c.in-Ok.posting.found.items c.in-Ok.posting.rest.items c.self.invariant.1 same going c.problem.ensures.kept
    (subst (λ (p : List Bool). StandsAt self.ledger.prefixes p c.in-Some.piece) c.piece.ensures c.in-Some.ensures.0) c.in-Some.ensures.1
    c.in-Ok.ensures.grown (c.in-Ok.ensures.posting.found ∙ c.found.ensures) (c.in-Ok.ensures.posting.rest ∙ c.rest.ensures) c.in-Ok.ensures.posting.below
    c.post.ensures.posted c.opened.ensures (ap (λ (n : ℕ). self.opened + n) (c.from.ensures ∙ c.opened-2.ensures ∙ sym c.opened.ensures)) c.end_after-self-inside.ensures in
    record {
      answer = (
        subst (λ (v : DeskParts). Takes v c.args.expansion) c.self.view_is (record { same = same; going = sym c.self.invariant.1.end ∙ going; in_frontier = member }),
        subst (λ (v : DeskParts). IsTaken v c.args.expansion (desk_of (arc_value self.problem) self.limits (history_of (ledger_of c.post.new.self)))) c.self.view_is
            (taken_on (arc_value self.problem) self.limits (history_of (ledger_of self.ledger)) (history_of (ledger_of c.post.new.self)) c.args.expansion reported.history),
        c.take_rest.ensures,
      );
      kept = desk-is (arc_value self.problem) self.limits (ledger_of c.post.new.self) (self.opened + c.from.result) c.end_after-self-inside.result reported.ledger;
    }
