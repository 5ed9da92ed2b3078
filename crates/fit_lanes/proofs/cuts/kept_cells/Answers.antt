-- The bits of both, or all.
use Rattle.std.proofs.Common.{◌≡◌, ◌&&◌, ℕ, Option, refl, sym, subst, ◌∙◌}
use Rattle.lemmas.specs.Bits.{is_set}
use Rattle.lemmas.proofs.WordBits.{set_both}
use Rattle.fit_lanes.specs.Cuts.{keeps}
use Rattle.fit_lanes.proofs.cuts.kept_cells.Goals as goal

pub returns-in-Some : goal.returns-in-Some
returns-in-Some c k = set_both c.in-Some.depths c.args.cells k
    ∙ sym (subst (λ (o : Option ℕ). (keeps o k && is_set c.args.cells k) ≡ (is_set c.in-Some.depths k && is_set c.args.cells k)) (sym c.in-Some.is) refl)

pub returns-in-None : goal.returns-in-None
returns-in-None c k = subst (λ (o : Option ℕ). is_set c.args.cells k ≡ (keeps o k && is_set c.args.cells k)) (sym c.in-None.is) refl
