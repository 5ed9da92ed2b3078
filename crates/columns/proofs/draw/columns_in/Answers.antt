-- The columns of each view, by its frame.
use Rattle.solid_model.specs.declared.frame.View.TheVariants.{Front, Top, Side}
use Rattle.solid_model.specs.PerAxis.{numbers_of}
use Rattle.columns.proofs.GridStyles.{few_gaps, same_columns}
use Rattle.columns.proofs.draw.columns_in.Goals as goal

pub view_columns-requires : goal.view_columns-requires
view_columns-requires c = few_gaps (numbers_of c.args.counts) _ c.gaps-sizes.ensures c.requires

pub view_columns-requires-2 : goal.view_columns-requires-2
view_columns-requires-2 c = few_gaps (numbers_of c.args.counts) _ c.gaps-sizes.ensures c.requires

pub view_columns-requires-3 : goal.view_columns-requires-3
view_columns-requires-3 c = few_gaps (numbers_of c.args.counts) _ c.gaps-sizes.ensures c.requires

pub returns : goal.returns
returns c Front = same_columns _ _ _ _ _ _ c.frame.ensures c.gaps-sizes.ensures c.in_ok-view_columns.ensures
returns c Top = same_columns _ _ _ _ _ _ c.frame-2.ensures c.gaps-sizes.ensures c.in_ok-view_columns-2.ensures
returns c Side = same_columns _ _ _ _ _ _ c.frame-3.ensures c.gaps-sizes.ensures c.in_ok-view_columns-3.ensures
