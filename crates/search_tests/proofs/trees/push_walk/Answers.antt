-- The way stays at the prefix that was asked.
use Rattle.std.proofs.Common.{sym, ◌∙◌, ap}
use Rattle.search_tests.specs.Words.{is_let}
use Rattle.search_tests.proofs.trees.push_walk.Goals as goal

pub go_on-requires-clause-live : goal.go_on-requires-clause-live
go_on-requires-clause-live c =
    let told = c.is_live.ensures in
    ap (λ word. word c.is_live.new.self.values.items) told.live ∙ ap (is_let c.loop.path.blocks c.loop.path.text.now) told.prefix ∙ sym told.asked ∙ c.if-not-is_live.false
