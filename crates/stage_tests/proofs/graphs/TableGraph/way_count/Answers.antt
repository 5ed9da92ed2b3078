-- A way leads to the node of its number, where the table says so.
use Rattle.std.proofs.Common.{◌≡◌, ◌<◌, ◌+◌, ◌*◌, ◌||◌, if◌then◌else◌, Bool, true, false, ℕ, Some, None, slice_index_or, IsTrue, refl, subst}
use Rattle.std.proofs.lemmas.Bool.{false≢true}
use Rattle.std.proofs.lemmas.Option.{same_Some, none-some}
use Rattle.stage_tests.proofs.graphs.TableGraph.way_count.Goals as goal

some_if : (t : Bool) (b : ℕ) → t ≡ true → (if t then Some b else None) ≡ Some b
some_if true b e = refl
some_if false b e = absurd (false≢true e)

from_if : (t : Bool) (w b : ℕ) → (if t then Some w else None) ≡ Some b → (w ≡ b) × (t ≡ true)
from_if true w b e = (same_Some w b e, refl)
from_if false w b e = absurd (none-some b e)

pub returns-clause-steps : goal.returns-clause-steps
returns-clause-steps c a b l =
    let size = c.args.self.now.size in
    let cells = c.args.self.now.cells.items in
    let says : ℕ → Bool = λ w. slice_index_or cells (a * 8 + w) false || slice_index_or cells (w * 8 + a) false in (
      λ (within, joined). (b, within, some_if (says b) b joined),
      λ (w, within, e). let (same, joined) = from_if (says w) w b e in subst (λ x. (x < size) × IsTrue (says x)) same (within, joined),
    )
