-- The enclosed components between the faces that are marked are the blocks.
use Rattle.std.proofs.Common.{◌≤◌, ℕ, List, Option, Some, None, IsTrue, arith}
use Rattle.solid_model.specs.Blocks.{AreBlocksOf}
use Rattle.solid_model.specs.Kept.{IsFaceMapOf}
use Rattle.solid_model.specs.Limits.{most_blocks}
use Rattle.lemmas.specs.Lists.{Each}
use Rattle.solid_model.specs.Marks.{AxisMarks, marks_along, is_marked}
use Rattle.solid_model.specs.Panels.{GridParts}
use Rattle.solid_model.specs.WalledBoxes.{face_sizes, AreEnclosed, IsEarlier}
use Rattle.solid_model.specs.VirtualFaces.{IsVirtual}
use Rattle.solid_model.specs.GridBox.{grid_sizes}
use Rattle.lemmas.proofs.Lists.{each-weaker}
use Rattle.solid_model.proofs.MarkedCells.{marked_everywhere}
use Rattle.solid_model.proofs.EnclosedNumbers.{enclosed_between_same, enclosed_numbers-below}

-- a face is marked where it is virtual, and only there
pub enclosed_blocks : (g : GridParts) (faces : AxisMarks) → IsFaceMapOf g faces → (numbers : List (Option ℕ)) (count : ℕ)
    → AreEnclosed (grid_sizes g) (λ a n. IsTrue (is_marked (marks_along a faces) n)) numbers count → AreBlocksOf g numbers count
enclosed_blocks g faces is = enclosed_between_same (grid_sizes g) (λ a n. IsTrue (is_marked (marks_along a faces) n)) (IsVirtual g)
    (λ a. marked_everywhere (face_sizes (grid_sizes g) a) (IsVirtual g a) (marks_along a faces) (is a) (λ n virtual. virtual.0))

-- the numbers of few blocks are below the most that there may be
pub block_numbers-few : (g : GridParts) (numbers : List (Option ℕ)) (count : ℕ) → AreBlocksOf g numbers count → count ≤ most_blocks
    → Each (IsEarlier most_blocks) numbers
block_numbers-few g numbers count are few =
    each-weaker (IsEarlier count) (IsEarlier most_blocks) numbers below (enclosed_numbers-below (grid_sizes g) (IsVirtual g) numbers count are)
  where
    below : (x : Option ℕ) → IsEarlier count x → IsEarlier most_blocks x
    below None h = tt
    below (Some k) h = omega (arith, h, few)
