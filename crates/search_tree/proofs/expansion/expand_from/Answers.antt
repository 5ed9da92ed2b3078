-- Whether the piece is live is asked where the way stands at it.
use Rattle.std.proofs.Common.{◌≡◌, sym, ◌∙◌, ap}
use Rattle.std.specs.Arc.{arc_value}
use Rattle.solid_model.specs.Forcing.{is_live}
use Rattle.search_tree.proofs.expansion.expand_from.Goals as goal

pub returns-then-not-is_live-clause-live : goal.returns-then-not-is_live-clause-live
returns-then-not-is_live-clause-live c =
    let piece = c.args.piece.now in
    let asked : c.is_live.result ≡ is_live (arc_value c.args.problem.now) piece =
    c.is_live.ensures.asked ∙ ap (λ word. word c.go_to.new.path.values) c.go_to.ensures.live ∙ ap (is_live c.args.path.now.problem) c.go_to.ensures.there
    ∙ ap (λ word. word piece) c.requires.way.live in
    sym asked ∙ c.if-not-is_live.true

pub returns-clause-live : goal.returns-clause-live
returns-clause-live c =
    let piece = c.args.piece.now in
    let asked : c.is_live.result ≡ is_live (arc_value c.args.problem.now) piece =
    c.is_live.ensures.asked ∙ ap (λ word. word c.go_to.new.path.values) c.go_to.ensures.live ∙ ap (is_live c.args.path.now.problem) c.go_to.ensures.there
    ∙ ap (λ word. word piece) c.requires.way.live in
    sym asked ∙ c.if-not-is_live.false

pub expand_path-requires-clause-live : goal.expand_path-requires-clause-live
expand_path-requires-clause-live c =
    let asked = c.is_live.ensures in
    ap (λ word. word c.is_live.new.self.values) asked.live ∙ ap (is_live c.go_to.new.path.problem) asked.prefix ∙ sym asked.asked ∙ c.if-not-is_live.false
