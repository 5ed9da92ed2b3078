-- The lines at the places so far are doubted, or it was told that they force nothing.
use Rattle.std.proofs.Common.{◌≡◌, ◌<◌, ◌%◌, false, ℕ, length, get_or, slice_get, Some}
use Rattle.line_demands.specs.Touching.{lines_touching, touching}
use Rattle.propagate.proofs.stepping.doubt_touching.Given as goal
use Rattle.solid_model.specs.declared.line_id.LineId.{LineId}
use Rattle.lemmas.specs.Bits.{is_set}
use Rattle.solid_model.specs.Demands.{lines_of}

abbrev pub invariant-loop-place : goal.invariant-loop-place
invariant-loop-place l =
    let p = l.fn.partial.problem in record {
      count : length l.doubted ≡ length l.fn.doubted;
      end : l.place-end ≡ touching p l.block;
      kept : (k : ℕ) → get_or l.doubted k false ≡ false → get_or l.fn.doubted k false ≡ false;
      told : (place k : ℕ) (m : LineId) → place < l.place → slice_get (lines_touching p l.block) place ≡ Some m → slice_get (lines_of p.grid) k ≡ Some m
          → get_or l.doubted k false ≡ false → is_set l.doubts (place % 64) ≡ false;
    }
