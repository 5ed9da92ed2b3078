-- A view without a line of some length is empty, and in front something is drawn.
use Rattle.std.proofs.Common.{refl, pos, false}
use Rattle.solid_model.specs.declared.frame.View.TheVariants.{Front, Top, Side}
use Rattle.solid_model.specs.SmallSheet.{small_sheet}
use Rattle.solid_model.proofs.Sheets.{without_lines-empty}
use Rattle.solid_model.proofs.laws.sheets.small_sheet.Goals as goal

pub returns-clause-first_empty : goal.returns-clause-first_empty
returns-clause-first_empty c =
    ((λ empty. empty (record { view = Front; upright = false; right = pos 5; up = pos 7 }) refl refl), without_lines-empty small_sheet Top refl)

pub returns-clause-not_side : goal.returns-clause-not_side
returns-clause-not_side c = λ h. h.1 (without_lines-empty small_sheet Top refl)

pub returns-clause-lacked : goal.returns-clause-lacked
returns-clause-lacked c =
    (returns-clause-first_empty c, Side, (λ p. cc), without_lines-empty small_sheet Side refl)

pub returns-clause-not_shown : goal.returns-clause-not_shown
returns-clause-not_shown c = λ shown. shown Top Side (λ p. cc) (without_lines-empty small_sheet Top refl) (without_lines-empty small_sheet Side refl)
