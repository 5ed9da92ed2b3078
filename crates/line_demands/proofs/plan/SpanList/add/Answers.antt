-- The last span has a cell more, or there is a span more.
use Rattle.std.proofs.Common.{◌≡◌, [], ◌++◌, ◌∷◌, sym, subst, ◌∙◌}
use Rattle.std.proofs.lemmas.List.{append-nil}
use Rattle.line_demands.specs.Spans.{AreAdded}
use Rattle.line_demands.proofs.AddedSpans.{added_last, added_new}
use Rattle.line_demands.proofs.plan.SpanList.add.Goals as goal
use Rattle.line_demands.proofs.plan.SpanList.add.Goals.{in-Some+else-last-column, in-None}

pub returns-then-last-column : goal.returns-then-last-column
returns-then-last-column c =
    let old : c.args.self.now ≡ c.pop.new.self.items ++ c.in-Some.last ∷ [] = sym c.self.view_is ∙ c.in-Some.ensures.items in
    subst (λ ss. AreAdded c.args.column c.args.depth ss c.push_reserved.new.self.items) (sym old)
    (subst (λ ss. AreAdded c.args.column c.args.depth (c.pop.new.self.items ++ c.in-Some.last ∷ []) ss) (sym c.push_reserved.ensures.items)
    (added_last c.pop.new.self.items c.in-Some.last c.args.column c.args.depth c.requires c.if-last-column.true))

pub returns : goal.returns
returns c =
    let same : c.match-pop.self-inside.items.items ≡ c.args.self.now = elim c.match-pop.branch [
      | in-Some+else-last-column w ↦ (λ t. (w.self-inside-is t).items.items) ∙ w.push_reserved-in-Some.ensures.items ∙ sym w.in-Some.ensures.items ∙ c.self.view_is
      | in-None w ↦ (λ t. (w.self-inside-is t).items.items) ∙ sym (w.in-None.ensures.items ∙ append-nil c.pop.new.self.items) ∙ c.self.view_is
    ] in
    subst (λ ss. AreAdded c.args.column c.args.depth ss c.push.new.self.items) same
    (subst (λ ss. AreAdded c.args.column c.args.depth c.match-pop.self-inside.items.items ss) (sym c.in_ok-push.ensures.items)
    (added_new c.match-pop.self-inside.items.items c.args.column c.args.depth c.requires))
