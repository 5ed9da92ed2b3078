use Rattle.std.proofs.Common.{◌≡◌, to_z, of_z, w64, arith, rules}
use Rattle.std.proofs.lemmas.Int.{ints, clamps, to_z-of_z}
use Rattle.views.proofs.Sweeping.{end_by-later, settled_draws}
use Rattle.views.proofs.sweep.Sweep.settled.Goals as goal

pub with_piece-requires-2-clause-before : goal.with_piece-requires-2-clause-before
with_piece-requires-2-clause-before c =
    let s = c.args.self in
    let ends = rw c.solid_piece-solid.ensures at c.in_ok-with_piece.ensures.end_by in
    rw c.dashed_piece-dashed.ensures
    (ends _ (end_by-later s.at s.from _ s.runs.items (omega (arith, ints, clamps)) c.requires.sweep.end_by) (omega (arith, ints, clamps)))

pub returns-clause-sweep : goal.returns-clause-sweep
returns-clause-sweep c =
    let s = c.args.self in
    let at : to_z w64 (of_z w64 s.at) ≡ s.at = to_z-of_z w64 s.at (search rules) in
    let with_solid = rw c.solid_piece-solid.ensures at c.in_ok-with_piece.ensures.end_by in
    let with_dashed = rw c.dashed_piece-dashed.ensures at c.in_ok-runs.ensures.end_by in
    record {
      are_runs = c.in_ok-runs.ensures.are_runs;
      end_by = rw at (with_dashed _
          (with_solid _ (end_by-later s.at s.from _ s.runs.items (omega (arith, ints)) c.requires.sweep.end_by) (omega (arith, ints, clamps)))
          (omega (arith, ints, clamps)));
    }

pub returns-clause-drawn : goal.returns-clause-drawn
returns-clause-drawn c =
    let s = c.args.self in
    let at : to_z w64 (of_z w64 s.at) ≡ s.at = to_z-of_z w64 s.at (search rules) in
    let until : to_z w64 (of_z w64 c.args.until) ≡ c.args.until = to_z-of_z w64 c.args.until (search rules) in
    let solid : to_z w64 (of_z w64 s.solid_to) ≡ s.solid_to = to_z-of_z w64 s.solid_to (search rules) in
    let dashed : to_z w64 (of_z w64 s.dashed_to) ≡ s.dashed_to = to_z-of_z w64 s.dashed_to (search rules) in
    let first = rw (c.solid_piece-solid.ensures, until) at c.in_ok-with_piece.ensures.drawn in
    let second = rw (c.dashed_piece-dashed.ensures, until) at c.in_ok-runs.ensures.drawn in
    rw (at, until, solid, dashed)
    (settled_draws s c.in_ok-with_piece.field-0.items c.in_ok-runs.runs.items c.args.until c.requires.until first second)
