-- There are no lines yet, and rows for the grid's cells.
use Rattle.std.proofs.Common.{ap, sym, subst, ◌∙◌}
use Rattle.lemmas.specs.Lists.{Each}
use Rattle.solid_model.specs.declared.per_axis.PerAxis.{PerAxis}
use Rattle.solid_model.specs.Grid.{gaps_along}
use Rattle.solid_model.specs.Marks.{is_marked}
use Rattle.solid_model.specs.Panels.{coordinates_of}
use Rattle.solid_model.specs.PerAxis.{numbers_of}
use Rattle.report.specs.PlaneTexts.{AreLines, GridLines, listed}
use Rattle.report.proofs.PlaneLines.{listed_is}
use Rattle.report.proofs.plane_texts.PlaneTexts.of.Goals as goal

pub invariant_of-result : goal.invariant_of-result
invariant_of-result c =
    let lines : GridLines = record {
      decimals = c.args.decimals;
      xs = c.in_ok-xs.xs.items;
      ys = c.in_ok-ys.ys.items;
      zs = c.in_ok-zs.zs.items;
      rows = c.in_ok-rows.rows;
      planes = c.new.result.items;
    } in
    let same = listed_is lines (coordinates_of c.args.grid.now) (c.in_ok-xs.ensures.items ∙ c.xs.ensures) (c.in_ok-ys.ensures.items ∙ c.ys.ensures)
    (c.in_ok-zs.ensures.items ∙ c.zs.ensures) in
    record {
      sized = ap (λ (s : PerAxis). numbers_of s) c.in_ok-rows.ensures ∙ c.sizes.ensures.sizes ∙ sym (ap gaps_along same);
      each = subst (Each (AreLines c.args.decimals (listed lines) (is_marked c.in_ok-rows.rows))) (sym c.new.ensures.items) tt;
    }
