-- The same coordinates along each axis.
use Rattle.std.proofs.Common.{sym, subst, ◌∙◌}
use Rattle.solid_model.specs.Panels.{IsGrid}
use Rattle.drawing_maker.proofs.making.grid_over.Goals as goal

pub new-requires : goal.new-requires
new-requires c = subst IsGrid (λ t. record {
  xs = sym c.in_ok-xs.ensures t;
  ys = sym c.in_ok-ys.ensures t;
  zs = sym c.in_ok-zs.ensures t;
  panels = c.args.panels;
}) c.requires

pub returns : goal.returns
returns c = c.new.ensures ∙ (λ t. record {
  xs = c.in_ok-xs.ensures t;
  ys = c.in_ok-ys.ensures t;
  zs = c.in_ok-zs.ensures t;
  panels = c.args.panels;
})
