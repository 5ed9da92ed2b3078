-- The codes of the eight are those of the pairs there.
use Rattle.std.proofs.Common.{◌≡◌, ◌+◌, ◌<◌, ℕ, List, ap₂, ◌∙◌}
use Rattle.std.proofs.lemmas.Simd.{get_or-chunk}
use Rattle.column_lanes.specs.Styles.{style_code, code_at}
use Rattle.column_lanes.proofs.style_bytes.put_codes.Goals as goal
use lib.Lanes.{chunk}

there : (after before : List ℕ) (at k : ℕ) → k < 8 → code_at (chunk at 8 after) (chunk at 8 before) k ≡ code_at after before (at + k)
there after before at k l = ap₂ style_code (get_or-chunk at 8 after k 0 l) (get_or-chunk at 8 before k 0 l)

pub returns-clause-put : goal.returns-clause-put
returns-clause-put c = c.put_lanes.ensures.put (code_at c.args.after.now c.args.before.now) c.requires.so_far
    (λ k l. c.codes-codes.ensures.each k l ∙ there c.args.after.now c.args.before.now c.args.at k l)
