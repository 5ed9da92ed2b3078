-- How often a directed edge occurs in the triangles of rectangles: a sum over the rectangles. Those on the six sides of a cell
-- have it as often as its reverse, and so have a rectangle and the same face seen from the other side.
use Rattle.std.proofs.Common.{◌≡◌, ℕ, ◌+◌, List, [], ◌∷◌, map, cond, ℤ, pos, ◌+ℤ◌, refl, sym, ◌∙◌, ap, arith}
use Rattle.std.specs.List.{flat_map, sum_by, count_by}
use Rattle.std.proofs.Math.Bool.{and_comm}
use Rattle.std.proofs.lemmas.Grind.{flat_map-append}
use Rattle.std.proofs.lemmas.List.Sums.{sum_by-cons, sum_by-append}
use Rattle.face_laws.specs.GridFaces.{Planes, point_of_numbers}
use Rattle.solid_model.specs.declared.cell.Cell.{Cell}
use Rattle.solid_model.specs.declared.face.Out.{Out}
use Rattle.solid_model.specs.declared.face.Out.TheVariants.{MinusX, PlusX, MinusY, PlusY, MinusZ, PlusZ}
use Rattle.solid_model.specs.Cells.{same_cell}
use Rattle.stl_out.specs.declared.rectangle.Rectangle.{Rectangle}
use Rattle.stl_out.specs.Closed.{DirectedEdge, same_edge, reverse, edges_of, occurrences}
use Rattle.stl_out.specs.Rectangles.{corner_p, corner_q, corner_r, corner_s, triangles_of, all_triangles}
use Rattle.stl_out.proofs.CellSides.{side_of, six_outs, flipped}

-- a count for each pair of points
abbrev Counts : Type 0
Counts = Cell → Cell → ℕ

-- the counts of the six edges of two triangles p q r and p r s
abbrev round_counts : Counts → Cell → Cell → Cell → Cell → ℕ
round_counts n p q r s = n p q + (n q r + (n r p + (n p r + (n r s + n s p))))

-- of a rectangle
abbrev counts_of : Counts → Planes → Rectangle → ℕ
counts_of n planes t = round_counts n (corner_p planes t) (corner_q planes t) (corner_r planes t) (corner_s planes t)

-- the same with each edge gone along the other way
abbrev turned : Counts → Counts
turned n p q = n q p

-- ---- the edges of a rectangle

-- a directed edge is this one: 1, or else 0
abbrev occurs : DirectedEdge → Counts
occurs e p q = cond (same_edge e (record { from = p; to = q })) 1 0

occurs-reverse : (e : DirectedEdge) → occurs (reverse e) ≡ turned (occurs e)
occurs-reverse e = λ i p q. cond (and_comm (same_cell e.to p) (same_cell e.from q) i) 1 0

-- how often an edge occurs in the triangles of a rectangle
abbrev pub in_rectangle : Planes → DirectedEdge → Rectangle → ℕ
in_rectangle planes e t = count_by (same_edge e) (flat_map edges_of (triangles_of planes t))

six_terms : (a b c d e f : ℕ) → 0 + a + b + c + d + e + f ≡ a + (b + (c + (d + (e + f))))
six_terms a b c d e f = omega arith

in_rectangle-counts : (planes : Planes) (e : DirectedEdge) (t : Rectangle) → in_rectangle planes e t ≡ counts_of (occurs e) planes t
in_rectangle-counts planes e t =
    let n = occurs e in
    let p = corner_p planes t in
    let q = corner_q planes t in
    let r = corner_r planes t in
    let s = corner_s planes t in
    six_terms (n p q) (n q r) (n r p) (n p r) (n r s) (n s p)

-- the triangles of all rectangles have it as often as each of them, together
pub occurrences-sum : (planes : Planes) (e : DirectedEdge) (ts : List Rectangle) → occurrences e (all_triangles planes ts) ≡ sum_by (in_rectangle planes e) ts
occurrences-sum planes e [] = refl
occurrences-sum planes e (t ∷ ts) =
    ap (count_by (same_edge e)) (flat_map-append edges_of (triangles_of planes t) (all_triangles planes ts))
    ∙ sum_by-append (λ f. cond (same_edge e f) 1 0) (flat_map edges_of (triangles_of planes t)) (flat_map edges_of (all_triangles planes ts))
    ∙ ap (λ k. in_rectangle planes e t + k) (occurrences-sum planes e ts)
    ∙ sym (sum_by-cons (in_rectangle planes e) t ts)

-- ---- the other side

-- seen from the other side, a rectangle is gone round the other way
counts-flipped : (n : Counts) (planes : Planes) (t : Rectangle) → counts_of (turned n) planes (flipped t) ≡ counts_of n planes t
counts-flipped n planes t = by t.out
  where
    around : (p q r s : Cell) → round_counts (turned n) p s r q ≡ round_counts n p q r s
    around p q r s = omega arith

    of : (u : Rectangle) → round_counts (turned n) (corner_p planes u) (corner_s planes u) (corner_r planes u) (corner_q planes u) ≡ counts_of n planes u
    of u = around (corner_p planes u) (corner_q planes u) (corner_r planes u) (corner_s planes u)

    by : (out : Out) → counts_of (turned n) planes (flipped (record t { out = out })) ≡ counts_of n planes (record t { out = out })
    by MinusX = of (record t { out = MinusX })
    by PlusX = of (record t { out = PlusX })
    by MinusY = of (record t { out = MinusY })
    by PlusY = of (record t { out = PlusY })
    by MinusZ = of (record t { out = MinusZ })
    by PlusZ = of (record t { out = PlusZ })

pub edge-flipped : (planes : Planes) (e : DirectedEdge) (t : Rectangle) → in_rectangle planes (reverse e) (flipped t) ≡ in_rectangle planes e t
edge-flipped planes e t =
    in_rectangle-counts planes (reverse e) (flipped t)
    ∙ ap (λ n. counts_of n planes (flipped t)) (occurs-reverse e)
    ∙ counts-flipped (occurs e) planes t
    ∙ sym (in_rectangle-counts planes e t)

-- ---- the six sides of a cell

-- the rectangles on them
abbrev pub sides_of : Cell → List Rectangle
sides_of c = map (side_of c) six_outs

-- what a count gives for them together
abbrev sides_counts : Counts → Planes → Cell → ℕ
sides_counts n planes c = counts_of n planes (side_of c MinusX) + (counts_of n planes (side_of c PlusX) + (counts_of n planes (side_of c MinusY)
    + (counts_of n planes (side_of c PlusY) + (counts_of n planes (side_of c MinusZ) + counts_of n planes (side_of c PlusZ)))))

-- the same by the eight corners of the cell
abbrev round_cell : Counts → Cell → Cell → Cell → Cell → Cell → Cell → Cell → Cell → ℕ
round_cell n a b c d e f g h = round_counts n a e g c + (round_counts n b d h f + (round_counts n a b f e
    + (round_counts n c g h d + (round_counts n a c d b + round_counts n e f h g))))

-- round a cell each edge is gone along once each way, and the diagonals of its sides too
cell_closes : (n : Counts) (a b c d e f g h : Cell) → round_cell n a b c d e f g h ≡ round_cell (turned n) a b c d e f g h
cell_closes n a b c d e f g h = omega arith

sides_close : (n : Counts) (planes : Planes) (c : Cell) → sides_counts n planes c ≡ sides_counts (turned n) planes c
sides_close n planes c =
    let at : ℤ → ℤ → ℤ → Cell = λ x y z. point_of_numbers planes (record { x = x; y = y; z = z }) in
    let x = c.x +ℤ pos 1 in
    let y = c.y +ℤ pos 1 in
    let z = c.z +ℤ pos 1 in
    cell_closes n (at c.x c.y c.z) (at x c.y c.z) (at c.x y c.z) (at x y c.z) (at c.x c.y z) (at x c.y z) (at c.x y z) (at x y z)

sides-sum : (planes : Planes) (e : DirectedEdge) (c : Cell) → sum_by (in_rectangle planes e) (sides_of c) ≡ sides_counts (occurs e) planes c
sides-sum planes e c =
    let w : (out : Out) → in_rectangle planes e (side_of c out) ≡ counts_of (occurs e) planes (side_of c out) = λ out. in_rectangle-counts planes e (side_of c out) in
    six_terms (in_rectangle planes e (side_of c MinusX)) (in_rectangle planes e (side_of c PlusX)) (in_rectangle planes e (side_of c MinusY))
    (in_rectangle planes e (side_of c PlusY)) (in_rectangle planes e (side_of c MinusZ)) (in_rectangle planes e (side_of c PlusZ))
    ∙ (λ i. w MinusX i + (w PlusX i + (w MinusY i + (w PlusY i + (w MinusZ i + w PlusZ i)))))

pub cell-closes : (planes : Planes) (e : DirectedEdge) (c : Cell)
    → sum_by (in_rectangle planes e) (sides_of c) ≡ sum_by (in_rectangle planes (reverse e)) (sides_of c)
cell-closes planes e c =
    sides-sum planes e c
    ∙ sides_close (occurs e) planes c
    ∙ ap (λ n. sides_counts n planes c) (sym (occurs-reverse e))
    ∙ sym (sides-sum planes (reverse e) c)
