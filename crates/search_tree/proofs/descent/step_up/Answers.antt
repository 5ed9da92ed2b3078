-- The last mark tells how many decisions stay.
use Rattle.std.proofs.Common.{◌≡◌, ◌++◌, ◌∷◌, [], ◌<◌, ◌≤◌, ◌+◌, ◌-◌, ℕ, List, Bool, false, length, take, get_or, ap, sym, subst, ◌∙◌, arith}
use Rattle.std.proofs.lemmas.List.{take_more, length-take-le}
use Rattle.solid_model.specs.Decisions.{PartialParts}
use Rattle.search_tree.specs.BlockPaths.{AreMarks}
use Rattle.search_tree.proofs.Marked.{marks_above, marks_back}
use Rattle.search_tree.proofs.descent.step_up.Goals as goal

-- one value more than the others
one_longer : (said : List Bool) (depth : ℕ) → 0 < depth → depth ≤ length said → take depth said ≡ take (depth - 1) said ++ get_or said (depth - 1) false ∷ []
one_longer said depth some within =
    (let back : depth ≡ depth - 1 + 1 = omega arith in ap (λ (k : ℕ). take k said) back) ∙ take_more said (depth - 1) false (omega arith)

-- the marks are those of one value more, and a last one
pub returns-in-Some-clause-marked : goal.returns-in-Some-clause-marked
returns-in-Some-clause-marked c =
    let p = c.args.partial.now.problem in
    let ds = c.args.partial.now.decisions in
    let said : List Bool = c.args.said.now in
    let depth = c.args.depth in
    let mark = c.in-Some.mark in
    let marks = c.pop.new.self.items in
    let full = get_or said (depth - 1) false in
    let is = one_longer said depth c.requires.some c.requires.said in
    let long = length-take-le depth said c.requires.said in
    let live : length (take (depth - 1) said ++ full ∷ []) < length (marks ++ mark ∷ []) =
    (let a = ap length is in let b = ap length c.in-Some.ensures.items in omega (arith, a, b, long, c.len.ensures, c.args.marks.now.ok.0, c.if-len-from.true, c.from.ensures)) in
    let are = subst (λ ms. AreMarks p (take (depth - 1) said ++ full ∷ []) ds ms) c.in-Some.ensures.items (subst (λ values. AreMarks p values ds c.args.marks.now.items) is c.requires.marked) in
    subst (λ (v : PartialParts). AreMarks p (take (depth - 1) said) v.decisions marks) (sym c.undo_to.ensures) (marks_back p (take (depth - 1) said) full ds marks mark are live).1

pub returns-else-len-from-clause-marked : goal.returns-else-len-from-clause-marked
returns-else-len-from-clause-marked c =
    let p = c.args.partial.now.problem in
    let ds = c.args.partial.now.decisions in
    let said : List Bool = c.args.said.now in
    let depth = c.args.depth in
    let full = get_or said (depth - 1) false in
    let is = one_longer said depth c.requires.some c.requires.said in
    let long = length-take-le depth said c.requires.said in
    let few : length c.args.marks.now.items ≤ length (take (depth - 1) said ++ full ∷ []) =
    (let a = ap length is in omega (arith, a, long, c.len.ensures, c.args.marks.now.ok.0, c.if-len-from.false, c.from.ensures)) in
    marks_above p (take (depth - 1) said) full ds c.args.marks.now.items (subst (λ values. AreMarks p values ds c.args.marks.now.items) is c.requires.marked) few
