-- The first byte that is no digit ends the digits that the text begins with.
use Rattle.std.proofs.Common.{rules, tests, ◌≡◌, length, take, drop, sym, ap, subst, ◌∙◌}
use Rattle.std.specs.List.{position}
use Rattle.std.specs.Option.{unwrap_or}
use Rattle.std.specs.Str.Parse.{AllDigits}
use Rattle.std.proofs.lemmas.Iterator.{YieldsList-from_slice}
use Rattle.std.proofs.lemmas.Iterator.Search.{position_from_yields_List}
use Rattle.dxf_groups.specs.Numerals.{leading_digits}
use Rattle.dxf_groups.proofs.NumeralDigits.{is_other, leading_ends, leading_taken, past_dropped, leading_all_digits}
use Rattle.dxf_groups.proofs.numerals.split_digits.Goals as goal

-- where the digits end
ends : (c : goal.After-split_at) → c.unwrap_or-end.result ≡ length (leading_digits c.args.text.now)
ends c =
    let text = c.args.text.now in
    let found : c.position.result ≡ position is_other text =
    position_from_yields_List is_other _ _ c.position.result c.position.ensures.ran
    (YieldsList-from_slice text cc) (λ x b q k. search (rules, tests)) in
    c.unwrap_or-end.ensures ∙ (ap (λ p. unwrap_or p (length text)) found ∙ leading_ends text)

pub returns-clause-leading : goal.returns-clause-leading
returns-clause-leading c =
    let text = c.args.text.now in
    c.split_at.ensures.front ∙ (ap (λ n. take n text) (ends c) ∙ leading_taken text)

pub returns-clause-past : goal.returns-clause-past
returns-clause-past c =
    let text = c.args.text.now in
    c.split_at.ensures.back ∙ (ap (λ n. drop n text) (ends c) ∙ past_dropped text)

pub returns-clause-digits : goal.returns-clause-digits
returns-clause-digits c =
    subst (AllDigits 10) (sym (returns-clause-leading c)) (leading_all_digits c.args.text.now)
