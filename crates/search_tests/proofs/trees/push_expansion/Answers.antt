-- The way stays at the prefix that was asked.
use Rattle.std.proofs.Common.{sym, ◌∙◌, ap}
use Rattle.search_tests.specs.Words.{is_let}
use Rattle.search_tests.proofs.trees.push_expansion.Goals as goal

pub expand_path-requires-clause-live : goal.expand_path-requires-clause-live
expand_path-requires-clause-live c =
    let told = c.is_live.ensures in
    ap (λ word. word c.is_live.new.self.values.items) told.live ∙ ap (is_let c.args.path.now.blocks c.args.path.now.text.now) told.prefix ∙ sym told.asked ∙ c.if-is_live.true
