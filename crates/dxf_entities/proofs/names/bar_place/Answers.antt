-- The first byte that is `_` is found.
use Rattle.std.proofs.Common.{rules, tests, ◌≡◌, ℕ, ◌==◌, Bool, length, ap, ◌∙◌}
use Rattle.std.specs.List.{position}
use Rattle.std.specs.Option.{unwrap_or}
use Rattle.std.proofs.lemmas.Iterator.{YieldsList-from_slice}
use Rattle.std.proofs.lemmas.Iterator.Search.{position_from_yields_List}
use Rattle.dxf_entities.proofs.names.bar_place.Goals as goal

abbrev is_bar : ℕ → Bool
is_bar b = b == 95

pub returns : goal.returns
returns c =
    let text = c.args.text.now in
    let found : c.position.result ≡ position is_bar text =
    position_from_yields_List is_bar _ _ c.position.result c.position.ensures.ran
    (YieldsList-from_slice text cc) (λ x b q k. search (rules, tests)) in
    c.unwrap_or.ensures ∙ ap (λ p. unwrap_or p (length text)) found
