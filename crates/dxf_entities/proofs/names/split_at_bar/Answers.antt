-- What stands behind the first `_`.
use Rattle.std.proofs.Common.{◌+◌, drop, ap, ◌∙◌}
use Rattle.std.proofs.lemmas.List.{drop-drop, take_rest}
use Rattle.dxf_entities.proofs.names.split_at_bar.Goals as goal

pub returns-in-len1-up-clause-behind : goal.returns-in-len1-up-clause-behind
returns-in-len1-up-clause-behind c =
    take_rest c.split_at.result.1.now 1
    ∙ (ap (drop 1) c.split_at.ensures.back
    ∙ (drop-drop 1 c.bar_place-end.result c.args.text.now
    ∙ ap (λ n. drop (n + 1) c.args.text.now) c.bar_place-end.ensures))
