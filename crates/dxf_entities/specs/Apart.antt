-- Lines of the three main views, and of all other layers.
use Rattle.std.specs.Prelude.{ℕ, List, Result, Ok}
use Rattle.solid_model.specs.declared.fault.Fault.{Fault}
use Rattle.solid_model.specs.Line.{Line}
use Rattle.dxf_groups.specs.Pairs.{Pairs}
use Rattle.dxf_entities.specs.declared.layer_line.LayerLine.{LayerLine}
use Rattle.dxf_entities.specs.Forms.{FormParts}
use Rattle.dxf_entities.specs.Reading.{main_lines, other_lines, pairs_read, text_read}
use Rattle.dxf_entities.specs.Steps.{◌>>=◌}

-- those of the three main views, and those of all other layers
abbrev pub lines_apart : List LayerLine → List Line × List LayerLine
lines_apart ls = (main_lines ls, other_lines ls)

-- both, of all pairs that are read in this form
abbrev pub apart_read : FormParts → Pairs → Result (List Line × List LayerLine) Fault
apart_read form ps = pairs_read form ps >>= λ ls. Ok (lines_apart ls)

-- the lines of the three main views and of all other layers that are kept of a text which is read in this form,
-- each in its order, or its first fault
unfoldable pub lines_read : FormParts → List ℕ → Result (List Line × List LayerLine) Fault
lines_read form text = text_read form text >>= λ ls. Ok (lines_apart ls)
