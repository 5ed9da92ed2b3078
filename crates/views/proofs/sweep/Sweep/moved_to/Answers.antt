use Rattle.std.proofs.Common.{◌≡◌, to_z, of_z, w64, sym, ◌∙◌, arith}
use Rattle.std.proofs.lemmas.Int.{ints, to_z-of_z}
use Rattle.solid_model.specs.Runs.{run_style}
use Rattle.views.proofs.Sweeping.{end_by-line, nothing_beyond}
use Rattle.views.proofs.sweep.Sweep.moved_to.Goals as goal

pub returns-clause-sweep : goal.returns-clause-sweep
returns-clause-sweep c =
    let at : to_z w64 (of_z w64 c.args.at) ≡ c.args.at = to_z-of_z w64 c.args.at c.ranges.at in
    record {
      are_runs = c.requires.sweep.are_runs;
      end_by = rw at (end_by-line c.args.self.at c.args.self.from c.args.at _ c.args.self.runs.items c.requires.later c.requires.sweep.end_by);
    }

pub returns-clause-drawn : goal.returns-clause-drawn
returns-clause-drawn c = λ j z.
    let s = c.args.self in
    let from : to_z w64 (of_z w64 c.args.from) ≡ c.args.from = to_z-of_z w64 c.args.from c.ranges.from in
    rw from (nothing_beyond (run_style s.runs.items j z) _ c.args.from c.args.from c.args.from j z (omega (arith, ints)) (omega (arith, ints))
    ∙ sym (nothing_beyond (run_style s.runs.items j z) s.at s.from s.solid_to s.dashed_to j z c.requires.solid c.requires.dashed))
