-- The first byte that is a line feed stands at the first place that passes.
use Rattle.std.proofs.Common.{length, sym, arith}
use Rattle.std.proofs.lemmas.List.Sums.{position_or_len_is}
use Rattle.std.proofs.lemmas.Bool.{false_from_ne_true}
use Rattle.dxf_groups.specs.TextLines.{is_feed}
use Rattle.dxf_groups.proofs.text_lines.far_feed_place.Goals as goal

pub returns-in-None-clause-place : goal.returns-in-None-clause-place
returns-in-None-clause-place c =
    sym (position_or_len_is is_feed c.args.text.now (length c.args.text.now) 0 (omega arith)
    (λ k lt. false_from_ne_true _ (c.in-None.ensures k (omega arith) lt)) (λ lt. absurd (omega arith)))

pub returns-in-Some-clause-place : goal.returns-in-Some-clause-place
returns-in-Some-clause-place c =
    let found = c.in-Some.ensures in
    sym (position_or_len_is is_feed c.args.text.now c.in-Some.place 0 (omega (arith, found.0.high))
    (λ k lt. false_from_ne_true _ (found.0.before k (omega arith) lt)) (λ lt. found.1))
