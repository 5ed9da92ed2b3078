use Rattle.std.proofs.Common.{◌≡◌, to_z, of_z, w64, ap₂, ◌∙◌, rules}
use Rattle.std.specs.Int.{int_min, int_max}
use Rattle.std.proofs.lemmas.Int.{to_z-of_z}
use Rattle.solid_model.specs.declared.segment.Style.TheVariants.{Dashed}
use Rattle.views.proofs.sweep.Sweep.dashed_piece.Goals as goal

pub returns : goal.returns
returns c =
    let s = c.args.self.now in
    let solid_to : to_z w64 (of_z w64 s.solid_to) ≡ s.solid_to = to_z-of_z w64 s.solid_to (search rules) in
    let at : to_z w64 (of_z w64 s.at) ≡ s.at = to_z-of_z w64 s.at (search rules) in
    let place : to_z w64 (of_z w64 s.from) ≡ s.from = to_z-of_z w64 s.from (search rules) in
    let dashed_to : to_z w64 (of_z w64 s.dashed_to) ≡ s.dashed_to = to_z-of_z w64 s.dashed_to (search rules) in
    let until : to_z w64 (of_z w64 c.args.until) ≡ c.args.until = to_z-of_z w64 c.args.until (search rules) in
    let from : to_z w64 (of_z w64 c.max.result) ≡ int_max s.from s.solid_to =
    to_z-of_z w64 c.max.result (search rules) ∙ c.max.ensures.value ∙ ap₂ int_max place solid_to in
    let to : to_z w64 (of_z w64 c.min.result) ≡ int_min s.dashed_to c.args.until =
    to_z-of_z w64 c.min.result (search rules) ∙ c.min.ensures.value ∙ ap₂ int_min dashed_to until in
    λ i. record { at = at i; from = from i; to = to i; style = Dashed }
