-- The marks are those of the shorter prefix.
use Rattle.std.proofs.Common.{◌≤◌, ◌-◌, List, Bool, length, take, arith, refl}
use Rattle.std.proofs.lemmas.List.{length-take}
use Rattle.search_tree.proofs.ProblemTrees.{path_on}
use Rattle.search_tree.proofs.block_path.BlockPathPath.go_up.Goals as goal

pub invariant_of-self : goal.invariant_of-self
invariant_of-self c =
    let said : List Bool = c.self.inside.said in
    let depth = c.self.inside.depth in
    let kept = c.self.invariant.1 in
    let within : length (take (depth - 1) said) ≤ c.self.inside.blocks = (let a = length-take (depth - 1) said in let b = length-take depth said in let d = kept.within in let e = c.self.invariant.0 in omega arith) in (
      (let e = c.self.invariant.0 in omega arith),
      path_on c.self.inside.partial c.step_up.new.partial c.self.inside.blocks (take depth said) (take (depth - 1) said) c.self.inside.marks.items c.step_up.new.marks.items
          (length said) (length said) _ _ kept within refl c.step_up.ensures.room c.step_up.ensures.problem c.step_up.ensures.marked,
    )
