-- Below a live prefix there is a mark more, or the next one isn't live; below others none is.
use Rattle.std.proofs.Common.{◌≡◌, ◌++◌, ◌∷◌, [], ◌<◌, ℕ, List, Bool, length, take, ap, sym, subst, ◌∙◌, arith}
use Rattle.std.proofs.lemmas.List.{length-take-le}
use Rattle.solid_model.specs.Decisions.{PartialParts}
use Rattle.search_tree.specs.BlockPaths.{AreMarks}
use Rattle.search_tree.proofs.Marked.{closed_here, marks_below, marks_end, marks_on}
use Rattle.search_tree.proofs.descent.step_down.Goals as goal

pub close_next-requires-clause-stable : goal.close_next-requires-clause-stable
close_next-requires-clause-stable c =
    let said : List Bool = c.args.said.now in
    let long = length-take-le c.args.depth said c.requires.said in
    (closed_here c.args.partial.now.problem (take c.args.depth said) c.args.partial.now.decisions c.args.marks.now.items c.requires.marked
    (omega (arith, long, c.len.ensures, c.args.marks.now.ok.0, c.if-len-from.true, c.from.ensures))).stable

pub returns-then-close_next-clause-marked : goal.returns-then-close_next-clause-marked
returns-then-close_next-clause-marked c =
    let p = c.args.partial.now.problem in
    let ds = c.args.partial.now.decisions in
    let said : List Bool = c.args.said.now in
    let depth = c.args.depth in
    let full = c.args.full in
    let marks = c.args.marks.now.items in
    let new = c.close_next.new.partial.decisions in
    let long = length-take-le depth said c.requires.said in
    let live : length (take depth said) < length marks = omega (arith, long, c.len.ensures, c.args.marks.now.ok.0, c.if-len-from.true, c.from.ensures) in
    let closure = closed_here p (take depth said) ds marks c.requires.marked live in
    let items : c.push_reserved.new.self.items ≡ marks ++ length ds ∷ [] = c.push_reserved.ensures.items ∙ ap (λ (n : ℕ). marks ++ n ∷ []) c.decided-mark.ensures.count in
    subst (λ ms. AreMarks p (take depth said ++ full ∷ []) new ms) (sym items)
    (marks_on p (take depth said) full ds marks c.requires.marked live new c.close_next.ensures.front (c.close_next.ensures.live c.if-close_next.true (take depth said) long closure))

pub returns-else-close_next-clause-marked : goal.returns-else-close_next-clause-marked
returns-else-close_next-clause-marked c =
    let p = c.args.partial.now.problem in
    let ds = c.args.partial.now.decisions in
    let said : List Bool = c.args.said.now in
    let depth = c.args.depth in
    let full = c.args.full in
    let marks = c.args.marks.now.items in
    let long = length-take-le depth said c.requires.said in
    let live : length (take depth said) < length marks = omega (arith, long, c.len.ensures, c.args.marks.now.ok.0, c.if-len-from.true, c.from.ensures) in
    let closure = closed_here p (take depth said) ds marks c.requires.marked live in
    subst (λ (v : PartialParts). AreMarks p (take depth said ++ full ∷ []) v.decisions marks) (sym (c.close_next.ensures.back c.if-close_next.false))
    (marks_end p (take depth said) full ds marks c.requires.marked live (c.close_next.ensures.dead c.if-close_next.false (take depth said) long closure))

pub returns-else-len-from-clause-marked : goal.returns-else-len-from-clause-marked
returns-else-len-from-clause-marked c =
    let said : List Bool = c.args.said.now in
    let long = length-take-le c.args.depth said c.requires.said in
    marks_below c.args.partial.now.problem (take c.args.depth said) c.args.full c.args.partial.now.decisions c.args.marks.now.items c.requires.marked
    (omega (arith, long, c.len.ensures, c.args.marks.now.ok.0, c.if-len-from.false, c.from.ensures))
