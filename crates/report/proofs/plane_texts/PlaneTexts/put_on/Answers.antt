-- What is put there is on this grid, with so many decimals.
use Rattle.std.proofs.Common.{◌≡◌, sym, subst}
use Rattle.solid_model.specs.Panels.{coordinates_of}
use Rattle.report.specs.PlaneTexts.{GridLines, listed}
use Rattle.report.proofs.plane_texts.PlaneTexts.put_on.Goals as goal

pub returns-in_ok-self-inside : goal.returns-in_ok-self-inside
returns-in_ok-self-inside c =
    subst (λ (g : GridLines). (listed g ≡ coordinates_of c.args.grid.now) × (g.decimals ≡ c.args.decimals)) (sym c.drop.view_is) c.in_ok-self-inside.ensures
