-- The texts of a search: its end, its solids with their faces, and pages of solids.
use Rattle.std.specs.Prelude.{Bool, true, false, ℕ, List, [], ◌∷◌, ◌++◌, length, codes, decimal, if◌then◌else◌}
use Rattle.std.specs.List.{flat_map}
use Rattle.decimal_texts.specs.Decimals.{decimal_text}
use Rattle.solid_model.specs.Blocks.{ProblemParts}
use Rattle.solid_model.specs.declared.cell.Cell.{Cell}
use Rattle.solid_model.specs.declared.ended.EndKind.{EndKind}
use Rattle.solid_model.specs.declared.ended.EndKind.TheVariants.{Whole, CutNodes, CutSolids}
use Rattle.solid_model.specs.declared.face.Out.{Out}
use Rattle.solid_model.specs.declared.face.Out.TheVariants.{MinusX, PlusX, MinusY, PlusY, MinusZ, PlusZ}
use Rattle.solid_model.specs.Faces.{FaceParts}
use Rattle.solid_model.specs.Search.{SearchLimits}

-- the first line, by how a search ended: how many solids, opened nodes and blocks there are; or the limit that is passed
abbrev pub head_text : SearchLimits → EndKind → ℕ → ℕ → ℕ → List ℕ
head_text limits Whole solids opened blocks = codes "whole " ++ decimal solids ++ codes " nodes " ++ decimal opened
    ++ codes " blocks " ++ decimal blocks ++ codes "\n"
head_text limits CutNodes solids opened blocks = codes "cut nodes " ++ decimal limits.nodes ++ codes "\n"
head_text limits CutSolids solids opened blocks = codes "cut solids " ++ decimal limits.solids ++ codes "\n"

-- a choice of blocks, in their order: 1 for a full one, 0 for an empty one
abbrev pub choice_text : List Bool → List ℕ
choice_text [] = []
choice_text (true ∷ choice) = codes "1" ++ choice_text choice
choice_text (false ∷ choice) = codes "0" ++ choice_text choice

-- ---- faces

-- an outward side, by the sign and the letter of its direction
abbrev pub side_name : Out → List ℕ
side_name MinusX = codes "-x"
side_name PlusX = codes "+x"
side_name MinusY = codes "-y"
side_name PlusY = codes "+y"
side_name MinusZ = codes "-z"
side_name PlusZ = codes "+z"

-- a corner of a loop: a blank, and its coordinates with so many decimals and commas between them
abbrev pub corner_text : ℕ → Cell → List ℕ
corner_text decimals c = codes " " ++ decimal_text decimals c.x ++ codes "," ++ decimal_text decimals c.y ++ codes ","
    ++ decimal_text decimals c.z

-- a loop: a word for it, and its corners
abbrev pub loop_text : ℕ → List Cell → List ℕ
loop_text decimals corners = codes " loop" ++ flat_map (corner_text decimals) corners

-- the line of a face: its outward side, the coordinate of its plane, and its loops
abbrev pub face_text : ℕ → FaceParts → List ℕ
face_text decimals f = codes "face " ++ side_name f.out ++ codes " at " ++ decimal_text decimals f.at
    ++ flat_map (loop_text decimals) f.loops ++ codes "\n"

-- ---- solids

-- the first line of the solid of this number: the choice that fills it, its volume, and how many faces it has
abbrev pub solid_line : ℕ → List Bool → ℕ → ℕ → List ℕ
solid_line number choice volume faces = codes "solid " ++ decimal number ++ codes " choice " ++ choice_text choice
    ++ codes " volume " ++ decimal volume ++ codes " faces " ++ decimal faces ++ codes "\n"

-- the solid of this number: its first line, and a line for each of its faces, whose coordinates have so many decimals
abbrev pub solid_text : ℕ → ℕ → List Bool → ℕ → List FaceParts → List ℕ
solid_text decimals number choice volume faces = solid_line number choice volume (length faces) ++ flat_map (face_text decimals) faces

-- what the texts of solids are made from: their problem, and how many decimals coordinates have
pub record TextsParts : Type 0 where
  pub problem : ProblemParts
  pub decimals : ℕ

-- ---- pages

-- a line that tells a choice
abbrev pub choice_line : List Bool → List ℕ
choice_line choice = codes "choice " ++ choice_text choice ++ codes "\n"

-- a page: its number, how many solids this page and all earlier ones tell, and a line for each choice that it tells
abbrev pub page_text : ℕ → ℕ → List (List Bool) → List ℕ
page_text number total choices = codes "page " ++ decimal number ++ codes " solids " ++ decimal total ++ codes "\n"
    ++ flat_map choice_line choices

-- ---- readers

-- a page that a reader has taken from a place on: how many solids it tells, whether the list that was seen ends there, and a line
-- for each choice that it tells
abbrev pub reader_text : ℕ → ℕ → List (List Bool) → Bool → List ℕ
reader_text reader from choices ends = codes "reader " ++ decimal reader ++ codes " page " ++ decimal from
    ++ codes " solids " ++ decimal (length choices) ++ (if ends then codes " ends 1\n" else codes " ends 0\n") ++ flat_map choice_line choices

-- that a search was stopped, and how many solids are listed
abbrev pub stopped_text : ℕ → List ℕ
stopped_text solids = codes "stopped solids " ++ decimal solids ++ codes "\n"

-- ---- trials

-- what is told of the search of a made drawing: the number that it is made from, its pieces, how many blocks and solids there
-- are, how many prefixes were opened, and the volume of the first solid
abbrev pub trial_text : ℕ → ℕ → ℕ → ℕ → ℕ → List ℕ
trial_text n blocks solids opened volume = codes "trial " ++ decimal n ++ codes " pieces 14 blocks " ++ decimal blocks ++ codes " solids "
    ++ decimal solids ++ codes " nodes " ++ decimal opened ++ codes " volume " ++ decimal volume ++ codes "\n"

-- ---- numbers of solids

-- that there is no solid of this number, but only so many
abbrev pub no_solid_text : ℕ → ℕ → List ℕ
no_solid_text which solids = codes "none " ++ decimal which ++ codes " of " ++ decimal solids ++ codes "\n"

-- ---- logs

-- that these choices are all, as a log shows: how many there are, and a line for each
abbrev pub yes_text : List (List Bool) → List ℕ
yes_text choices = codes "yes " ++ decimal (length choices) ++ codes "\n" ++ flat_map choice_line choices

-- how many of so many solids that a log shows to be all fit further views and sections, and a line for each of these
abbrev pub fitting_text : ℕ → List (List Bool) → List ℕ
fitting_text all choices = codes "yes " ++ decimal (length choices) ++ codes " of " ++ decimal all ++ codes "\n" ++ flat_map choice_line choices

-- why a log is refused: the name of what is wrong, and the number of the line
abbrev pub refusal_text : List ℕ → List ℕ → ℕ → List ℕ
refusal_text subject name line = subject ++ codes " " ++ name ++ codes " line " ++ decimal line ++ codes "\n"
