use Rattle.std.proofs.Common.{w64, SFits, sym, ◌∙◌, arith, rules}
use Rattle.std.proofs.lemmas.Int.{ints}
use Rattle.solid_model.specs.Runs.{run_style}
use Rattle.views.proofs.Sweeping.{nothing_beyond}
use Rattle.views.proofs.sweep.Sweep.finished.Goals as goal

pub returns-clause-drawn : goal.returns-clause-drawn
returns-clause-drawn c = λ j z.
    let s = c.in_ok-settled.field-0 in
    let solid : SFits w64 c.args.self.solid_to = search rules in
    let dashed : SFits w64 c.args.self.dashed_to = search rules in
    sym (nothing_beyond (run_style s.runs.items j z) s.at s.from s.solid_to s.dashed_to j z
    (omega (arith, ints, c.in_ok-settled.ensures.place.1, c.in_ok-settled.ensures.solid))
    (omega (arith, ints, c.in_ok-settled.ensures.place.1, c.in_ok-settled.ensures.dashed)))
    ∙ c.in_ok-settled.ensures.drawn j z
