-- The empty prefix is marked where it is live, and there is room for all.
use Rattle.std.proofs.Common.{[], length, ap, sym, subst, ◌∙◌, ◌≡◌, arith}
use Rattle.solid_model.specs.Blocks.{ProblemParts, IsBlocksOf}
use Rattle.solid_model.specs.Decisions.{PartialParts}
use Rattle.search_tree.specs.BlockPaths.{AreMarks}
use Rattle.search_tree.proofs.block_path.BlockPath.new.Goals as goal

pub invariant_of-result : goal.invariant_of-result
invariant_of-result c =
    let new = c.begin.new.partial in
    let same : new.problem ≡ c.args.problem.now = c.begin.ensures.problem ∙ ap (λ (v : PartialParts). v.problem) c.in_ok-partial.ensures in (
      omega arith,
      record {
        marked = subst (λ (p : ProblemParts). AreMarks p [] new.decisions c.begin.new.marks.items) (sym c.begin.ensures.problem) c.begin.ensures.marked;
        count = c.count-blocks.ensures ∙ ap (λ b. b.count) c.blocks-2.ensures ∙ ap (λ (p : ProblemParts). p.blocks.count) (sym same);
        few = omega (arith, c.count-blocks.type_inv);
        within = omega arith;
        roomy = omega (arith, ap length c.in_ok-from_bools.ensures, c.as_slice.ensures.len, c.in_ok-said.ensures.len, c.from-count.ensures);
        roomy_marks = omega (arith, c.begin.ensures.room, c.in_ok-marks.ensures.exact, c.from-count.ensures);
        parts = subst (λ (p : ProblemParts). IsBlocksOf p.grid p.blocks) (sym same) c.known.ensures.blocks;
      },
    )
