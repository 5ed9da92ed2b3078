-- The plain form of lines: a DXF file that has these lines, and nothing else (the ASCII form of the Autodesk DXF Reference). Their
-- coordinates are whole numbers of a unit, one divided by ten to the power of the number of decimals.
use Rattle.std.specs.Prelude.{ℕ, List, [], ◌++◌, codes}
use Rattle.std.specs.List.{flat_map}
use Rattle.decimal_texts.specs.Decimals.{decimal_text}
use Rattle.solid_model.specs.declared.segment.Style.{Style}
use Rattle.solid_model.specs.declared.segment.Style.TheVariants.{Blank, Dashed, Solid}
use Rattle.solid_model.specs.Frames.{layer_name}
use Rattle.solid_model.specs.Line.{Line}

-- a group code and its value, each on a line of its own
abbrev pub pair_text : List ℕ → List ℕ → List ℕ
pair_text code value = code ++ codes "\n" ++ value ++ codes "\n"

-- the linetype of a style; nothing blank is written
abbrev pub linetype_name : Style → List ℕ
linetype_name Blank = []
linetype_name Dashed = codes "HIDDEN"
linetype_name Solid = codes "CONTINUOUS"

-- a line: its layer, its linetype, and its two ends, with so many decimals, at height 0
abbrev pub line_text : ℕ → Line → List ℕ
line_text decimals l = pair_text (codes "0") (codes "LINE") ++ pair_text (codes "8") (layer_name l.of) ++ pair_text (codes "6") (linetype_name l.style)
    ++ pair_text (codes "10") (decimal_text decimals l.x0) ++ pair_text (codes "20") (decimal_text decimals l.y0) ++ pair_text (codes "30") (codes "0")
    ++ pair_text (codes "11") (decimal_text decimals l.x1) ++ pair_text (codes "21") (decimal_text decimals l.y1) ++ pair_text (codes "31") (codes "0")

-- what stands before the lines: the section of entities begins
abbrev pub file_head : List ℕ
file_head = pair_text (codes "0") (codes "SECTION") ++ pair_text (codes "2") (codes "ENTITIES")

-- and behind them: the section ends, and the file
abbrev pub file_end : List ℕ
file_end = pair_text (codes "0") (codes "ENDSEC") ++ pair_text (codes "0") (codes "EOF")

-- the plain form of lines, in their order
abbrev pub plain_file : ℕ → List Line → List ℕ
plain_file decimals lines = file_head ++ flat_map (line_text decimals) lines ++ file_end
