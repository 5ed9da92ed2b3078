-- The columns after and before the line draw the style; before the first line there is none.
use Rattle.solid_model.specs.PerAxis.{numbers_of}
use Rattle.std.proofs.Common.{refl, subst, arith}
use Rattle.column_laws.specs.GridPanels.{IsColumnBeside}
use Rattle.columns.proofs.segment_styles.segment_style.Goals as goal

pub returns-then-line-eq0 : goal.returns-then-line-eq0
returns-then-line-eq0 c chosen are = (
  c.column_beside-after.result.0,
  0,
  record {
    after_is = c.column_beside-after.ensures chosen are;
    before_first = λ e. refl;
    before_is = λ l e. absurd (omega arith);
  },
  c.style_of.ensures,
)

pub returns-else-line-eq0 : goal.returns-else-line-eq0
returns-else-line-eq0 c chosen are = (
  c.column_beside-after.result.0,
  c.column_beside-before.result.0,
  record {
    after_is = c.column_beside-after.ensures chosen are;
    before_first = λ e. absurd (omega arith);
    before_is = λ l e. subst (λ k. IsColumnBeside c.args.frame (numbers_of c.args.sizes) chosen c.args.upright c.args.start k c.column_beside-before.result.0) (omega arith)
        (c.column_beside-before.ensures chosen are);
  },
  c.style_of-else-line-eq0.ensures,
)
