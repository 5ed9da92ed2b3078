-- What was read so is found so.
use Rattle.std.proofs.Common.{Bool, ℕ, subst, subst₂}
use Rattle.dxf_entities.specs.declared.layer_set.LayerSet.{LayerSet}
use Rattle.file_problem.specs.Inputs.{HasFurther}
use Rattle.recon_run.specs.Owed.{input_of}
use Rattle.recon_run.proofs.found.find_in.Goals as goal

pub returns-in-Ok : goal.returns-in-Ok
returns-in-Ok c = (
  subst (λ (two : Bool). HasFurther (record (input_of c.args.profile.now c.args.file.items) { two = two }) c.in-Ok.problem c.in-Ok.further) c.two_views.ensures
      (subst₂ (λ (d : ℕ) (layers : LayerSet). HasFurther (record { bytes = c.args.file.items; decimals = d; layers = layers; two = c.two_views.result; most = c.args.profile.now.most })
      c.in-Ok.problem c.in-Ok.further) c.form.ensures.decimals c.form.ensures.layers (c.in-Ok.ensures.problem c.args.profile.now.most c.requires)),
  c.in-Ok.ensures.rest,
)
