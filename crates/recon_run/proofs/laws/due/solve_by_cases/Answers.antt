use Rattle.std.proofs.Common.{◌≡◌, refl, sym, subst, List, ℕ}
use Rattle.recon_run.specs.Owed.{ReadsAllOrPast, drawing_profile, input_of, layers_or}
use Rattle.recon_run.specs.Solve.{SolveAnswers}
use Rattle.recon_run.proofs.SolveCases.{solve_back, solve_there}
use Rattle.dxf_entities.specs.declared.layer_set.LayerSet.TheVariants.{Six}
use Rattle.solid_model.specs.Limits.{most_file_bytes}
use Rattle.recon_run.proofs.laws.due.solve_by_cases.Goals as goal

pub returns-clause-there : goal.returns-clause-there
returns-clause-there c workers decimals limits pages two sections bytes rest answer text (t, (same, reads), told) = (
  subst (λ b. ReadsAllOrPast most_file_bytes b rest) (sym same) reads,
  subst (λ b. SolveAnswers pages limits (input_of (drawing_profile (layers_or sections Six) decimals two) b) answer text) (sym same)
      (solve_there pages limits (input_of (drawing_profile (layers_or sections Six) decimals two) t) answer text told),
)

pub returns-clause-back : goal.returns-clause-back
returns-clause-back c workers decimals limits pages two sections bytes rest answer text reads told =
    (bytes, (refl, reads), solve_back pages limits (input_of (drawing_profile (layers_or sections Six) decimals two) bytes) answer text told)
