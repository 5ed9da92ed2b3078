-- The last one is marked.
use Rattle.std.proofs.Common.{◌∷◌, [], length, take, arith, ap, sym, subst, ◌∙◌, rules}
use Rattle.std.proofs.lemmas.List.{take-append-le, length_push}
use Rattle.line_demands.specs.Lines.{AreMarked}
use Rattle.line_demands.proofs.MarkedLines.{mend_one}
use Rattle.line_demands.proofs.lines.mend_lines.Goals as goal

pub loop-broken-preserved-in-Some : goal.loop-broken-preserved-in-Some
loop-broken-preserved-in-Some c = record {
  marked = mend_one c.loop-broken.met c.pop.new.self.items c.in-Some.line (subst (AreMarked c.loop-broken.met) c.in-Some.ensures.items c.loop-broken.invariant.marked);
  first = sym (take-append-le c.args.height c.pop.new.self.items (c.in-Some.line ∷ [])
      (let e = length_push c.pop.new.self.items c.in-Some.line in let f = ap length c.in-Some.ensures.items in let g = c.loop-broken-test.true in omega (arith, e, f, g, c.len.ensures, c.loop-broken.broken.ok.0)))
      ∙ ap (take c.args.height) (sym c.in-Some.ensures.items) ∙ c.loop-broken.invariant.first;
  room = search rules;
}
