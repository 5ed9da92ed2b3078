-- There are as many places as lines.
use Rattle.std.proofs.Common.{◌<◌, length, sym, ap, subst, ◌∙◌, arith}
use Rattle.line_demands.specs.WholeChoices.{AreStylesOf}
use Rattle.lemmas.specs.Lists.{Each}
use Rattle.line_demands.proofs.whole.DrawnLines.of.Goals as goal

pub wanted_styles-requires : goal.wanted_styles-requires
wanted_styles-requires c =
    subst (Each (λ n. n < length c.args.sides.now)) (sym c.as_slice.ensures.value) c.in_ok-numbers.ensures.there

pub returns : goal.returns
returns c = record {
  lines_are = c.in_ok-numbers.ensures;
  after_count = omega (arith, c.in_ok-after.ensures.len, c.len-count.ensures, c.in_ok-numbers.numbers.ok.0);
  before_count = omega (arith, c.in_ok-before.ensures.len, c.len-count.ensures, c.in_ok-numbers.numbers.ok.0);
  drawn_count = omega (arith, c.in_ok-drawn.ensures.len, c.len-count.ensures, c.in_ok-numbers.numbers.ok.0);
  wanted_count = c.in_ok-wanted.ensures.count ∙ ap length c.as_slice.ensures.value;
  wanted_is = subst (λ ls. AreStylesOf c.args.sides.now ls c.in_ok-wanted.wanted.items) c.as_slice.ensures.value c.in_ok-wanted.ensures.styles;
}
