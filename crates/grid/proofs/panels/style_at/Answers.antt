use Rattle.std.proofs.Common.{◌≡◌, length, take, w64, sym, ap₂, ◌∙◌, rules, arith}
use Rattle.std.proofs.lemmas.Int.{to_z-of_z}
use Rattle.solid_model.specs.Runs.{run_style}
use Rattle.grid.proofs.BegunRuns.{style_of_last, blank_past_last, blank_before_first}
use Rattle.grid.proofs.panels.style_at.Goals as goal

pub returns-in-Some : goal.returns-in-Some
returns-in-Some c =
    let runs = c.args.runs.now in
    let same = ap₂ (run_style runs) (to_z-of_z w64 c.args.line (search rules)) (to_z-of_z w64 c.args.place (search rules)) in
    let last = c.in-Some.ensures.item in
    let begun = c.begun_by.ensures in
    sym (style_of_last runs c.requires _ _ c.begun_by.result begun.parted begun.bound c.in-Some.run'.now last.3.0 last.1 (sym c.covers.ensures ∙ c.if-covers.true)) ∙ same

pub returns-in_default : goal.returns-in_default
returns-in_default c =
    let runs = c.args.runs.now in
    let same = ap₂ (run_style runs) (to_z-of_z w64 c.args.line (search rules)) (to_z-of_z w64 c.args.place (search rules)) in
    let last = c.in-Some.ensures.item in
    let begun = c.begun_by.ensures in
    sym (blank_past_last runs c.requires _ _ c.begun_by.result begun.parted begun.bound c.in-Some.run'.now last.3.0 last.1 (sym c.covers.ensures ∙ c.if-covers.false)) ∙ same

pub returns-in_default-2 : goal.returns-in_default-2
returns-in_default-2 c =
    let runs = c.args.runs.now in
    let same = ap₂ (run_style runs) (to_z-of_z w64 c.args.line (search rules)) (to_z-of_z w64 c.args.place (search rules)) in
    let last = rw c.in_default.is at c.last.ensures.item in
    let begun = c.begun_by.ensures in
    let none : length (take c.begun_by.result runs) ≡ 0 = omega (arith, last.3) in
    sym (blank_before_first runs c.requires _ _ c.begun_by.result begun.parted begun.bound none) ∙ same
