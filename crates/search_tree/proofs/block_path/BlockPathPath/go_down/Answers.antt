-- One value more is said, and the marks are those of the longer prefix.
use Rattle.std.proofs.Common.{◌≡◌, ◌<◌, ◌≤◌, ◌+◌, ◌++◌, ◌∷◌, [], List, Bool, ℕ, length, take, set, ap, sym, ◌∙◌, subst, arith}
use Rattle.std.proofs.lemmas.List.{length-take, length-set, take_more_set}
use Rattle.solid_model.specs.Blocks.{ProblemParts}
use Rattle.solid_model.specs.Forcing.{is_live}
use Rattle.search_tree.specs.BlockPaths.{PathParts, AreMarks}
use Rattle.search_tree.proofs.ProblemTrees.{path_on}
use Rattle.search_tree.proofs.block_path.BlockPathPath.go_down.Goals as goal

-- so many values are fewer than the blocks
few : (depth blocks problem_blocks : ℕ) (said : List Bool) (path : PathParts) → depth ≤ length said → blocks ≡ problem_blocks
    → take depth said ≡ path.values → problem_blocks ≡ path.problem.blocks.count → length path.values < path.problem.blocks.count → depth < blocks
few depth blocks problem_blocks said path within count is same more = omega (arith, length-take depth said, ap length is)

pub step_down-requires-clause-there : goal.step_down-requires-clause-there
step_down-requires-clause-there c =
    let kept = c.self.invariant.1 in
    let is = c.self.view_is in
    subst (λ n. c.self.inside.depth < n) kept.count
    (few c.self.inside.depth c.self.inside.blocks _ c.self.inside.said c.args.self.now c.self.invariant.0 kept.count
    (ap (λ (v : PathParts). v.values) is) (ap (λ (v : PathParts). v.problem.blocks.count) is) c.requires)

pub step_down-requires-clause-room : goal.step_down-requires-clause-room
step_down-requires-clause-room c =
    let kept = c.self.invariant.1 in
    let is = c.self.view_is in
    let l = few c.self.inside.depth c.self.inside.blocks _ c.self.inside.said c.args.self.now c.self.invariant.0 kept.count
    (ap (λ (v : PathParts). v.values) is) (ap (λ (v : PathParts). v.problem.blocks.count) is) c.requires in
    omega (arith, kept.roomy_marks)

pub overflow_add-self : goal.overflow_add-self
overflow_add-self c =
    let kept = c.self.invariant.1 in
    let is = c.self.view_is in
    let l = few c.self.inside.depth c.self.inside.blocks _ c.self.inside.said c.args.self.now c.self.invariant.0 kept.count
    (ap (λ (v : PathParts). v.values) is) (ap (λ (v : PathParts). v.problem.blocks.count) is) c.requires in
    omega (arith, kept.few)

pub set-requires : goal.set-requires
set-requires c =
    let kept = c.self.invariant.1 in
    let is = c.self.view_is in
    let l = few c.self.inside.depth c.self.inside.blocks _ c.self.inside.said c.args.self.now c.self.invariant.0 kept.count
    (ap (λ (v : PathParts). v.values) is) (ap (λ (v : PathParts). v.problem.blocks.count) is) c.requires in
    omega (arith, kept.roomy, c.from.ensures)

-- one value more is said
longer : (said after : List Bool) (depth : ℕ) (full : Bool) → depth < length said → after ≡ set said depth full → take (depth + 1) after ≡ take depth said ++ full ∷ []
longer said after depth full l is = ap (take (depth + 1)) is ∙ take_more_set said depth full l

pub invariant_of-self : goal.invariant_of-self
invariant_of-self c =
    let kept = c.self.invariant.1 in
    let is = c.self.view_is in
    let said : List Bool = c.self.inside.said in
    let depth = c.self.inside.depth in
    let full = c.args.full in
    let after : c.set.new.self ≡ set said depth full = c.set.ensures ∙ ap (λ (k : ℕ). set said k full) c.from.ensures in
    let l = few depth c.self.inside.blocks _ said c.args.self.now c.self.invariant.0 kept.count
    (ap (λ (v : PathParts). v.values) is) (ap (λ (v : PathParts). v.problem.blocks.count) is) c.requires in
    let room : length c.set.new.self ≡ length said = ap length after ∙ length-set said depth full in
    let more = longer said c.set.new.self depth full (omega (arith, kept.roomy)) after in (
      omega (arith, kept.roomy, room),
      path_on c.self.inside.partial c.step_down.new.partial c.self.inside.blocks (take depth said) (take (depth + 1) c.set.new.self) c.self.inside.marks.items c.step_down.new.marks.items
          (length said) _ _ _ kept (omega (arith, length-take (depth + 1) c.set.new.self)) room c.step_down.ensures.room c.step_down.ensures.problem
          (subst (λ values. AreMarks c.self.inside.partial.problem values c.step_down.new.partial.decisions c.step_down.new.marks.items) (sym more) c.step_down.ensures.marked),
    )

pub returns : goal.returns
returns c =
    let kept = c.self.invariant.1 in
    let is = c.self.view_is in
    let said : List Bool = c.self.inside.said in
    let depth = c.self.inside.depth in
    let after : c.set.new.self ≡ set said depth c.args.full = c.set.ensures ∙ ap (λ (k : ℕ). set said k c.args.full) c.from.ensures in
    let l = few depth c.self.inside.blocks _ said c.args.self.now c.self.invariant.0 kept.count
    (ap (λ (v : PathParts). v.values) is) (ap (λ (v : PathParts). v.problem.blocks.count) is) c.requires in
    let problem : c.step_down.new.partial.problem ≡ c.args.self.now.problem = c.step_down.ensures.problem ∙ ap (λ (v : PathParts). v.problem) is in
    record {
      live = ap is_live problem;
      blocks = ap (λ (p : ProblemParts). p.blocks.count) problem;
      prefix = longer said c.set.new.self depth c.args.full (omega (arith, kept.roomy)) after ∙ ap (λ (v : PathParts). v.values ++ c.args.full ∷ []) is;
    }
