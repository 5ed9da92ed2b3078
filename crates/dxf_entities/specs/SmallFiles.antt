-- Small files, pair by pair, and what is read of them.
use Rattle.std.specs.Prelude.{ℕ, ◌+◌, List, [], ◌∷◌, ◌++◌, pos, Ok, codes}
use Rattle.solid_model.specs.declared.frame.View.{View}
use Rattle.solid_model.specs.declared.frame.View.TheVariants.{Front}
use Rattle.solid_model.specs.declared.segment.Style.{Style}
use Rattle.solid_model.specs.declared.segment.Style.TheVariants.{Solid}
use Rattle.solid_model.specs.Line.{Line}
use Rattle.dxf_entities.specs.declared.layer.Layer.{Layer}
use Rattle.dxf_entities.specs.declared.layer_line.LayerLine.{LayerLine}
use Rattle.dxf_groups.specs.Pairs.{TextPair, Pairs}
use Rattle.dxf_groups.specs.SmallTexts.{pair_on}

-- from the line n on, an entity on this layer from (0, 0) to (x, y), with these pairs before its
-- coordinates
abbrev pub line_on : List ℕ → ℕ → List TextPair → List ℕ → List ℕ → List TextPair
line_on layer n more x y =
    pair_on n (pos 0) (codes "LINE") ∷ pair_on (n + 2) (pos 8) layer
    ∷ (more ++ pair_on (n + 10) (pos 10) (codes "0.0") ∷ pair_on (n + 12) (pos 20) (codes "-0")
    ∷ pair_on (n + 14) (pos 11) x ∷ pair_on (n + 16) (pos 21) y ∷ [])

-- the same on the layer FRONT
abbrev pub line_from : ℕ → List TextPair → List ℕ → List ℕ → List TextPair
line_from = line_on (codes "Front")

-- a section of this name begins at the line n, or ends there
abbrev pub section_at : ℕ → List ℕ → List TextPair
section_at n name = pair_on n (pos 0) (codes "SECTION") ∷ pair_on (n + 2) (pos 2) name ∷ []

abbrev pub end_of_section : ℕ → List TextPair
end_of_section n = pair_on n (pos 0) (codes "endsec") ∷ []

-- from the line n on, a polyline on the layer FRONT with these pairs
abbrev pub polyline_from : ℕ → List TextPair → List TextPair
polyline_from n more =
    pair_on n (pos 0) (codes "LwPolyline") ∷ pair_on (n + 2) (pos 8) (codes "FRONT") ∷ more

-- a vertex whose pairs begin at the line n
abbrev pub vertex_at : ℕ → List ℕ → List ℕ → List TextPair
vertex_at n x y = pair_on n (pos 10) x ∷ pair_on (n + 2) (pos 20) y ∷ []

-- the pairs of a file with this polyline alone, which begins at the line 5 and ends at the line n
abbrev pub file_of_polyline : ℕ → List TextPair → Pairs
file_of_polyline n more = record {
  pairs = section_at 1 (codes "ENTITIES") ++ (polyline_from 5 more ++ end_of_section n);
  ending = Ok (n + 2);
}

-- a table with one layer, whose linetype is HIDDEN
abbrev pub hidden_on : List ℕ → ℕ → List TextPair
hidden_on layer n = section_at n (codes "TABLES")
    ++ (pair_on (n + 4) (pos 0) (codes "LAYER") ∷ pair_on (n + 6) (pos 2) layer
    ∷ pair_on (n + 8) (pos 6) (codes "Hidden") ∷ end_of_section (n + 10))

-- the same of FRONT
abbrev pub hidden_layer : ℕ → List TextPair
hidden_layer = hidden_on (codes "FRONT")

-- the line from (a, b) to (c, d) that begins at the line n
abbrev pub line_to : ℕ → ℕ → ℕ → ℕ → ℕ → Line
line_to n a b c d = record {
  of = Front;
  style = Solid;
  x0 = pos a;
  y0 = pos b;
  x1 = pos c;
  y1 = pos d;
  number = n;
}

-- the line from (0, 0) to (1, 0) that begins at the line n
abbrev pub unit_line : ℕ → Style → Line
unit_line n style =
    record { of = Front; style = style; x0 = pos 0; y0 = pos 0; x1 = pos 1; y1 = pos 0; number = n }

-- the line of a view from (0, 0) to (x, y) that begins at the line n
abbrev pub line_in : View → ℕ → Style → ℕ → ℕ → Line
line_in v n style x y =
    record { of = v; style = style; x0 = pos 0; y0 = pos 0; x1 = pos x; y1 = pos y; number = n }

-- the same on a layer of the view
abbrev pub kept_on : Layer → ℕ → Style → ℕ → ℕ → LayerLine
kept_on l n style x y = record { layer = l; line = line_in l.view n style x y }

-- a line on each layer of a further view and one on FRONT, behind a table in which that of the rear is HIDDEN
abbrev pub lines_of_further_views : Pairs
lines_of_further_views = record {
  pairs = hidden_on (codes "rear") 1 ++ (section_at 13 (codes "ENTITIES")
      ++ (line_on (codes "Left") 17 [] (codes "1") (codes "0")
      ++ (line_on (codes "REAR") 35 [] (codes "0") (codes "2")
      ++ (line_from 53 [] (codes "0") (codes "4")
      ++ (line_on (codes "bottom") 71 [] (codes "3") (codes "0") ++ end_of_section 89)))));
  ending = Ok 91;
}

-- an entity of this kind, without any other pair, on this layer
abbrev pub entity_on : List ℕ → List ℕ → Pairs
entity_on kind layer = record {
  pairs = section_at 1 (codes "ENTITIES")
      ++ (pair_on 5 (pos 0) kind ∷ pair_on 7 (pos 8) layer ∷ end_of_section 9);
  ending = Ok 11;
}

-- a line on this layer that would be oblique, with these pairs more
abbrev pub oblique_on : List ℕ → List TextPair → Pairs
oblique_on layer more = record {
  pairs = section_at 1 (codes "ENTITIES") ++ (line_on layer 5 more (codes "1") (codes "2") ++ end_of_section 23);
  ending = Ok 25;
}

-- a line on FRONT, two of one section, one of an area, and one of a section whose linetype is HIDDEN
abbrev pub lines_of_sections : Pairs
lines_of_sections = record {
  pairs = hidden_on (codes "Area_Rear_7.0") 1 ++ (section_at 13 (codes "ENTITIES")
      ++ (line_from 17 [] (codes "0") (codes "4")
      ++ (line_on (codes "section_FRONT_1") 35 [] (codes "1") (codes "0")
      ++ (line_on (codes "Section_Front_1.0") 53 [] (codes "2") (codes "0")
      ++ (line_on (codes "AREA_LEFT_03") 71 [] (codes "0") (codes "2")
      ++ (line_on (codes "SECTION_TOP_2") 89 (pair_on 93 (pos 6) (codes "Dashed") ∷ []) (codes "1") (codes "0")
      ++ (line_on (codes "AREA_REAR_7") 107 [] (codes "1") (codes "0") ++ end_of_section 125)))))));
  ending = Ok 127;
}
