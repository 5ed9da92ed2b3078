-- The reader stands behind the end pair.
use Rattle.std.proofs.Common.{◌≡◌, Some, drop, subst, sym, ap, ◌∙◌}
use Rattle.dxf_groups.specs.Pairs.{rest_of_text}
use Rattle.dxf_groups.specs.Groups.{GroupsState}
use Rattle.dxf_groups.proofs.BehindLines.{rest_behind}
use Rattle.dxf_groups.proofs.groups.Groups.after_end.Goals as goal

pub returns-clause-rest : goal.returns-clause-rest
returns-clause-rest c =
    let fields = c.self.inside in
    let read = ap (λ (g : GroupsState). g.end_line) c.self.view_is ∙ sym c.end_line.ensures ∙ c.in_ok-end_line.was in
    subst (λ (g : GroupsState). rest_of_text g.text ≡ Some (drop fields.place g.text)) c.self.view_is
    (rest_behind fields.text.items fields.place fields.line _ fields.ending c.self.invariant read)
