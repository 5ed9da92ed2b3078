-- An input has one list of solids, and one end but for cuts.
use Rattle.std.proofs.Common.{◌≡◌, refl, List, length, subst, ap, arith}
use Rattle.file_problem.specs.Inputs.{HasProblem, Input}
use Rattle.further_views.specs.Further.{further_lines}
use Rattle.recon_run.specs.Answers.{AreTold, CanEnd, head_of, node_count}
use Rattle.six_views.specs.Fits.{AreFittingSolids, Fits}
use Rattle.six_views.proofs.FittingSolids.{one_list_that}
use Rattle.file_problem.proofs.Problems.{one_problem}
use Rattle.report.specs.Texts.{head_text}
use Rattle.solid_model.specs.declared.cell.Cell.{Cell}
use Rattle.solid_model.specs.declared.ended.EndKind.{EndKind}
use Rattle.solid_model.specs.declared.ended.EndKind.TheVariants.{Whole, CutNodes, CutSolids}
use Rattle.solid_model.specs.Blocks.{ProblemParts}
use Rattle.solid_model.specs.Drawings.{drawing_of}
use Rattle.solid_model.specs.Matching.{AreSolidsOf, Matches}
use Rattle.solid_model.specs.Search.{SearchLimits}
use Rattle.solid_model.proofs.SolidOrder.{one_list_of_solids}

-- the solids of an input, all of them, are one list
pub one_list : (t : Input) (p q : ProblemParts) (has : HasProblem t p) (has_too : HasProblem t q) (solids others : List (List Cell))
    → AreSolidsOf (drawing_of has.lines) solids → AreSolidsOf (drawing_of has_too.lines) others → solids ≡ others
one_list t p q has has_too solids others all all_too =
    one_list_of_solids (drawing_of has_too.lines) solids others
    (subst (λ ls. AreSolidsOf (drawing_of ls) solids) (one_problem has has_too).lines all) all_too

-- and so are those that are told
pub one_told : (t : Input) (p q : ProblemParts) (has : HasProblem t p) (has_too : HasProblem t q) (solids others : List (List Cell))
    → AreTold has solids → AreTold has_too others → solids ≡ others
one_told t p q has has_too solids others told told_too =
    let one = one_problem has has_too in
    one_list_that (λ s. Matches (drawing_of has_too.lines) s × Fits (further_lines has_too.further) s) solids others
    (subst (λ ls. AreFittingSolids (drawing_of ls) (further_lines has_too.further) solids) one.lines
    (subst (λ ls. AreFittingSolids (drawing_of has.lines) (further_lines ls) solids) one.further told)) told_too

module _ (limits : SearchLimits) (t : Input) (c d : CanEnd limits t Whole) where
  pub one_solids : c.solids ≡ d.solids
  one_solids = one_told t c.problem d.problem c.has d.has c.solids d.solids c.told d.told

  pub one_count : length c.solids ≡ length d.solids
  one_count = ap (λ (ss : List (List Cell)). length ss) one_solids

module _ (limits : SearchLimits) (t : Input) (kind other : EndKind) (c : CanEnd limits t kind) (d : CanEnd limits t other) where
  -- those that are counted are as many
  counted_alike : length c.counted ≡ length d.counted
  counted_alike = ap (λ (ss : List (List Cell)). length ss) (one_list t c.problem d.problem c.has d.has c.counted d.counted c.all d.all)

-- where both limits are kept, none is passed
pub kept_or_passed : (limits : SearchLimits) (t : Input) (kind : EndKind) → CanEnd limits t Whole → CanEnd limits t kind → kind ≡ Whole
kept_or_passed limits t Whole kept passed = refl
kept_or_passed limits t CutNodes kept passed =
    let same = ap node_count (one_problem kept.has passed.has).problem in let few = kept.allows.0 in let many = passed.allows in absurd (omega arith)
kept_or_passed limits t CutSolids kept passed =
    let same = counted_alike limits t Whole CutSolids kept passed in
    let few = kept.allows.1 in let many = passed.allows in absurd (omega arith)

-- and one first line, where it is whole
pub one_head : (limits : SearchLimits) (t : Input) (c d : CanEnd limits t Whole) → head_of c ≡ head_of d
one_head limits t c d =
    let p = (one_problem c.has d.has).problem in let solids = one_solids limits t c d in
    λ i. head_text limits Whole (length (solids i)) (node_count (p i)) (p i).blocks.count
