use Rattle.std.proofs.Common.{◌≡◌, [], ◌∷◌, to_z, of_z, w64, ap, ap₂, ◌∙◌, rules}
use Rattle.std.specs.Int.{int_max}
use Rattle.std.proofs.lemmas.Int.{to_z-of_z}
use Rattle.solid_model.specs.declared.segment.Style.TheVariants.{Dashed, Solid}
use Rattle.solid_model.specs.Runs.{run_style}
use Rattle.views.specs.Strokes.{stroke_style, stronger}
use Rattle.views.specs.Sweeps.{seen_style}
use Rattle.views.proofs.Sweeping.{stroke_is, reaching_solid, reaching_dashed, blank_adds}
use Rattle.views.proofs.sweep.Sweep.reaching.Goals as goal

pub returns-in-Solid-clause-drawn : goal.returns-in-Solid-clause-drawn
returns-in-Solid-clause-drawn c = λ j z.
    let s = c.args.self in
    let r = c.args.stroke.now in
    let solid : to_z w64 (of_z w64 s.solid_to) ≡ s.solid_to = to_z-of_z w64 s.solid_to (search rules) in
    let to : to_z w64 (of_z w64 r.to) ≡ r.to = to_z-of_z w64 r.to (search rules) in
    let farther : to_z w64 (of_z w64 c.max.result) ≡ int_max s.solid_to r.to =
    to_z-of_z w64 c.max.result (search rules) ∙ c.max.ensures.value ∙ ap₂ int_max solid to in
    rw farther (reaching_solid (run_style s.runs.items j z) s.at s.from s.solid_to s.dashed_to r.to j z
    ∙ ap (λ m. stronger (seen_style s j z) (stroke_style (m ∷ []) j z)) (stroke_is r s.at s.from Solid c.requires.place.0 c.requires.place.1 c.in-Solid.is))

pub returns-in-Dashed-clause-drawn : goal.returns-in-Dashed-clause-drawn
returns-in-Dashed-clause-drawn c = λ j z.
    let s = c.args.self in
    let r = c.args.stroke.now in
    let dashed : to_z w64 (of_z w64 s.dashed_to) ≡ s.dashed_to = to_z-of_z w64 s.dashed_to (search rules) in
    let to : to_z w64 (of_z w64 r.to) ≡ r.to = to_z-of_z w64 r.to (search rules) in
    let farther : to_z w64 (of_z w64 c.max-in-Dashed.result) ≡ int_max s.dashed_to r.to =
    to_z-of_z w64 c.max-in-Dashed.result (search rules) ∙ c.max-in-Dashed.ensures.value ∙ ap₂ int_max dashed to in
    rw farther (reaching_dashed (run_style s.runs.items j z) s.at s.from s.solid_to s.dashed_to r.to j z
    ∙ ap (λ m. stronger (seen_style s j z) (stroke_style (m ∷ []) j z)) (stroke_is r s.at s.from Dashed c.requires.place.0 c.requires.place.1 c.in-Dashed.is))

pub returns-in-Blank-clause-drawn : goal.returns-in-Blank-clause-drawn
returns-in-Blank-clause-drawn c = λ j z.
    blank_adds (seen_style c.args.self j z) c.args.stroke.now j z c.in-Blank.is
