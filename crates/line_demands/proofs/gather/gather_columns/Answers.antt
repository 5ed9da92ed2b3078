-- One column more.
use Rattle.std.proofs.Common.{◌≡◌, ◌<◌, ◌+◌, ◌++◌, ◌∷◌, [], ap, sym, subst, ◌∙◌, arith, rules}
use Rattle.line_demands.specs.KeptColumns.{column_count}
use Rattle.line_demands.specs.Gathered.{AreGatheredTo}
use Rattle.line_demands.proofs.GatheredColumns.{columns_more}
use Rattle.line_demands.proofs.gather.gather_columns.Goals as goal
use Rattle.solid_model.specs.GridBox.{grid_sizes}

pub add_column-requires-clause-there : goal.add_column-requires-clause-there
add_column-requires-clause-there c =
    let count : c.all_columns-count.result ≡ column_count (grid_sizes c.args.problem.now.grid) = c.all_columns-count.ensures.same ∙ ap column_count (c.sizes.ensures.sizes ∙ ap grid_sizes c.grid.ensures.grid) in
    subst (λ n. c.loop-number.number < n) count c.loop-number-test.true

pub loop-number-preserved : goal.loop-number-preserved
loop-number-preserved c =
    let n = c.loop-number.number in
    let column = c.in_ok-add_column.field-0 in
    record {
      gathered = subst (λ cs. AreGatheredTo c.args.problem.now (n + 1) c.add_column.new.spans cs c.push.new.self.items) (sym c.push_reserved.ensures.items)
          (subst (λ os. AreGatheredTo c.args.problem.now (n + 1) c.add_column.new.spans (c.loop-number.columns.items ++ column ∷ []) os) (sym c.in_ok-push.ensures.items)
          (columns_more c.args.problem.now c.known.ensures.blocks n c.loop-number.spans c.add_column.new.spans c.loop-number.columns.items column c.loop-number.on.items c.add_column.new.on
          c.loop-number.invariant.gathered c.in_ok-add_column.ensures));
      room = search rules;
    }

pub returns : goal.returns
returns c =
    let count : c.all_columns-count.result ≡ column_count (grid_sizes c.args.problem.now.grid) = c.all_columns-count.ensures.same ∙ ap column_count (c.sizes.ensures.sizes ∙ ap grid_sizes c.grid.ensures.grid) in
    let ended : c.loop-number.number ≡ c.all_columns-count.result = omega (arith, c.loop-number-test.false, c.loop-number.auto.number-end) in
    subst (λ n. AreGatheredTo c.args.problem.now n c.loop-number.spans c.loop-number.columns.items c.loop-number.on.items) (ended ∙ count) c.loop-number.invariant.gathered
