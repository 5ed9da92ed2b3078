-- The text of a fault.
use Rattle.std.specs.Prelude.{ℕ, List, [], ◌++◌, ℤ, Option, Some, None, codes, decimal}
use Rattle.std.specs.Fmt.{signed_decimal}
use Rattle.std.specs.Option.{option_map}
use Rattle.solid_model.specs.declared.cell.Axis.{Axis}
use Rattle.solid_model.specs.declared.cell.Axis.TheVariants.{X, Y, Z}
use Rattle.solid_model.specs.declared.fault.Fault.{Fault}
use Rattle.solid_model.specs.declared.fault.Fault.TheVariants as fault
use Rattle.solid_model.specs.declared.frame.View.{View}
use Rattle.solid_model.specs.Frames.{layer_name}

-- ---- what the text of a fault tells

-- its number and name, and of these what it names: a line, a group code, a view, an axis, how many there are
pub record FaultNames : Type 0 where
  pub name : List ℕ
  pub line : Option ℕ
  pub code : Option ℤ
  pub view : Option View
  pub axis : Option Axis
  pub count : Option ℕ

-- it names nothing
abbrev pub plain : List ℕ → FaultNames
plain name = record { name = name; line = None; code = None; view = None; axis = None; count = None }

-- it names a line
abbrev pub at_line : List ℕ → ℕ → FaultNames
at_line name line = record (plain name) { line = Some line }

-- it names the line of a coordinate, and its group code
abbrev pub at_code : List ℕ → ℕ → ℤ → FaultNames
at_code name line code = record (plain name) { line = Some line; code = Some code }

-- it names an empty view
abbrev pub in_view : List ℕ → View → FaultNames
in_view name view = record (plain name) { view = Some view }

-- it names how many there are, along an axis where it is one
abbrev pub too_many : List ℕ → Option Axis → ℕ → FaultNames
too_many name axis count = record (plain name) { axis = axis; count = Some count }

-- what each fault tells
abbrev pub names_of : Fault → FaultNames
names_of (fault.Binary line) = at_line (codes "F1 Binary") line
names_of (fault.BadCode line) = at_line (codes "F2 BadCode") line
names_of (fault.NoValue line) = at_line (codes "F3 NoValue") line
names_of (fault.NoEof line) = at_line (codes "F4 NoEof") line
names_of (fault.BadSection line) = at_line (codes "F5 BadSection") line
names_of (fault.BadNumber line code) = at_code (codes "F6 BadNumber") line code
names_of (fault.NotWhole line code) = at_code (codes "F7 NotWhole") line code
names_of (fault.TooFar line code) = at_code (codes "F8 TooFar") line code
names_of (fault.Missing line code) = at_code (codes "F9 Missing") line code
names_of (fault.Repeated line code) = at_code (codes "F10 Repeated") line code
names_of (fault.Oblique line) = at_line (codes "F11 Oblique") line
names_of (fault.Linetype line) = at_line (codes "F12 Linetype") line
names_of (fault.Geometry line) = at_line (codes "F13 Geometry") line
names_of (fault.EmptyView view) = in_view (codes "F14 EmptyView") view
names_of (fault.TooManyLines line) = at_line (codes "F15 TooManyLines") line
names_of fault.TooLong = plain (codes "F16 TooLong")
names_of (fault.TooFine axis count) = too_many (codes "F17 TooFine") (Some axis) count
names_of (fault.TooManyBlocks count) = too_many (codes "F18 TooManyBlocks") None count
names_of (fault.Curved line) = at_line (codes "F19 Curved") line
names_of (fault.SectionName line) = at_line (codes "F20 SectionName") line
names_of (fault.NoCut line) = at_line (codes "F21 NoCut") line

-- the letter of an axis
abbrev pub letter_of : Axis → List ℕ
letter_of X = codes "x"
letter_of Y = codes "y"
letter_of Z = codes "z"

-- what a fault names, after a word for it
abbrev pub part_text : List ℕ → Option (List ℕ) → List ℕ
part_text word None = []
part_text word (Some text) = word ++ text

-- what is named, in this order
abbrev pub parts_text : FaultNames → List ℕ
parts_text names = part_text (codes " line ") (option_map decimal names.line)
    ++ part_text (codes " code ") (option_map signed_decimal names.code)
    ++ part_text (codes " view ") (option_map layer_name names.view)
    ++ part_text (codes " axis ") (option_map letter_of names.axis)
    ++ part_text (codes " count ") (option_map decimal names.count)

-- each fault on a line of its own: its number and name, and what it names
abbrev pub fault_text : Fault → List ℕ
fault_text f = codes "fault " ++ (names_of f).name ++ parts_text (names_of f) ++ codes "\n"
