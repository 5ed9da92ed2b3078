-- The faces of a solid of grid cells are those of the solid of their numbers, as they stand in space.
use Rattle.std.proofs.Common.{◌≡◌, inl, inr, Bool, true, ℕ, List, [], ◌∷◌, map, ℤ, ◌<ℤ◌, IsTrue, refl, sym, ◌∙◌, ap, ap₂, subst}
use Rattle.std.proofs.lemmas.Bool.{false≢true}
use Rattle.solid_model.specs.declared.cell.Axis.{Axis}
use Rattle.solid_model.specs.declared.cell.Cell.{Cell}
use Rattle.solid_model.specs.declared.face.Out.{Out}
use Rattle.solid_model.specs.Faces.{outward, right_axis, up_axis, place, is_boundary, BeginsLeast, IsLoopOf, StartsBefore, AreLoopsOf, FaceParts, IsFaceAt, out_number, first_loop, FaceBefore, AreFacesOf}
use Rattle.face_laws.specs.GridFaces.{Planes, point_of_numbers, AreCellsOf, face_in_space}
use Rattle.face_laws.specs.GridRounds.{Rises, grid_point, last_side}
use Rattle.lemmas.specs.Lists.{Member}
use Rattle.solid_model.specs.Orders.{ComesBefore}
use Rattle.solid_model.specs.Rounds.{Spot, Side, left_square, IsRound, round_sides, round_corners, AreNeighbours, AreJoined}
use Rattle.face_laws.proofs.BoundarySquares.{spot_of, boundary_within, border_left}
use Rattle.lemmas.proofs.Chains.{reaches-onward}
use Rattle.face_laws.proofs.FaceLists.{LiesFirst, Decides-is_face_before}
use Rattle.face_laws.proofs.FacePlaces.{place_keeps}
use Rattle.face_laws.proofs.GridBoundary.{place_in_space, order_in_space, squares_in_space, plane_in_space}
use Rattle.face_laws.proofs.GridJoined.{same_in, square_of, square_of-in, point_in, last_left, in_joined, cells_joined, squares_joined, turn_on_grid}
use Rattle.face_laws.proofs.GridLines.{LiesBetween, later_line}
use Rattle.face_laws.proofs.GridTraces.{grid_round, ends_on_grid}
use Rattle.face_laws.proofs.JoinedSides.{joined-back, round-joined}
use Rattle.lemmas.proofs.Lists.{each-map, each-weaker, ascends-map, member-map}
use Rattle.face_laws.proofs.OutwardSides.{one_out}
use Rattle.face_laws.proofs.RoundStarts.{one_start}
use Rattle.face_laws.proofs.SomeLoop.{some_round}

-- ---- loops by another square of their face

module _ (squares : Spot → Bool) (there : Spot → Cell) (p q : Spot) (chain : AreJoined squares p q) where
  loop_from : (loop : List Cell) → IsLoopOf squares there q loop → IsLoopOf squares there p loop
  loop_from loop (s, n, is, joined, e, begins) =
      (s, n, is, reaches-onward (AreNeighbours squares) p q (left_square s) chain joined, e, begins)

  loop_to : (loop : List Cell) → IsLoopOf squares there p loop → IsLoopOf squares there q loop
  loop_to loop (s, n, is, joined, e, begins) =
      (s, n, is, reaches-onward (AreNeighbours squares) q p (left_square s) (joined-back squares p q chain) joined, e, begins)

  -- a face has the same loops, whichever of its squares is told
  pub loops_from : (loops : List (List Cell)) → AreLoopsOf squares there q loops → AreLoopsOf squares there p loops
  loops_from loops h = record {
    each = each-weaker (IsLoopOf squares there q) (IsLoopOf squares there p) loops loop_from h.each;
    ordered = h.ordered;
    complete = λ loop is. h.complete loop (loop_to loop is);
  }

module _ (planes : Planes) (rises : (a : Axis) → Rises (planes a)) where
  abbrev point : Cell → Cell
  point = point_of_numbers planes

  -- ---- orders are kept

  begins_kept : (loop : List Cell) → BeginsLeast loop → BeginsLeast (map point loop)
  begins_kept [] begins = begins
  begins_kept (c ∷ cs) begins =
      each-map point (ComesBefore (point c)) cs
      (each-weaker (ComesBefore c) (λ d. ComesBefore (point c) (point d)) cs (order_in_space planes rises c) begins)

  starts_kept : (l m : List Cell) → StartsBefore l m → StartsBefore (map point l) (map point m)
  starts_kept [] m h = absurd (false≢true h)
  starts_kept (c ∷ cs) [] h = absurd (false≢true h)
  starts_kept (c ∷ cs) (d ∷ ds) h = order_in_space planes rises c d h

  first_kept : (ls : List (List Cell)) → first_loop (map (map point) ls) ≡ map point (first_loop ls)
  first_kept [] = refl
  first_kept (l ∷ ls) = refl

  face_kept : (f g : FaceParts) → FaceBefore f g → FaceBefore (face_in_space planes f) (face_in_space planes g)
  face_kept f g h = (Decides-is_face_before (face_in_space planes f) (face_in_space planes g)).1
      (by ((Decides-is_face_before f g).0 h))
    where
      same_axis : out_number f.out ≡ out_number g.out → planes (outward f.out).axis ≡ planes (outward g.out).axis
      same_axis e = ap (λ o. planes (outward o).axis) (one_out f.out g.out e)

      by : LiesFirst (out_number f.out) (out_number g.out) f.at g.at (StartsBefore (first_loop f.loops) (first_loop g.loops))
          → LiesFirst (out_number f.out) (out_number g.out) (planes (outward f.out).axis f.at) (planes (outward g.out).axis g.at)
          (StartsBefore (first_loop (map (map point) f.loops)) (first_loop (map (map point) g.loops)))
      by (inl l) = inl l
      by (inr (e, inl l)) = inr (
        e,
        inl (subst (λ (line : ℤ → ℤ). planes (outward f.out).axis f.at <ℤ line g.at) (same_axis e)
            (later_line (planes (outward f.out).axis) (rises (outward f.out).axis) f.at g.at l)),
      )
      by (inr (e, inr (at, s))) = inr (
        e,
        inr (
          (λ i. same_axis e i (at i)),
          subst (λ l. StartsBefore l (first_loop (map (map point) g.loops))) (sym (first_kept f.loops))
              (subst (StartsBefore (map point (first_loop f.loops))) (sym (first_kept g.loops))
              (starts_kept (first_loop f.loops) (first_loop g.loops) s)),
        ),
      )

  module _ (numbered full : Cell → Bool) (are : AreCellsOf planes numbered full) (out : Out) (k : ℤ) where
    abbrev across : ℤ → ℤ
    across = planes (right_axis out)

    abbrev up : ℤ → ℤ
    up = planes (up_axis out)

    abbrev at : ℤ
    at = planes (outward out).axis k

    abbrev cells : Spot → Bool
    cells = is_boundary numbered out k

    abbrev squares : Spot → Bool
    squares = is_boundary full out at

    points_in_space : (ps : List Spot) → map point (map (place out k) ps) ≡ map (place out at) (map (grid_point across up) ps)
    points_in_space [] = refl
    points_in_space (p ∷ ps) = ap₂ ◌∷◌ (sym (place_in_space planes out k p)) (points_in_space ps)

    -- The round of a loop, in space: it has the loop's corners, and passes the last unit side of each of its sides.
    record InSpace (s : Side) (n : ℕ) : Type 0 where
      length : ℕ
      is_round : IsRound squares (last_side across up s) length
      is : map point (map (place out k) (round_corners cells s n)) ≡ map (place out at)
          (round_corners squares (last_side across up s) length)
      on : (x : Side) → Member (round_sides cells s n) x
          → Member (round_sides squares (last_side across up s) length) (last_side across up x)

    in_space : (s : Side) (n : ℕ) → IsRound cells s n → InSpace s n
    in_space s n is =
        let (m, is_too, same_corners, on) = grid_round cells squares across up (rises (right_axis out)) (rises (up_axis out))
        (squares_in_space planes rises numbered full are out k) s n is in
        record {
          length = m;
          is_round = is_too;
          is = points_in_space (round_corners cells s n)
              ∙ ap (map (place out at)) (sym same_corners);
          on = on;
        }

    -- a loop of a face of numbers is one of the face in space
    loop_in_space : (q : Spot) (loop : List Cell) → IsLoopOf cells (place out k) q loop
        → IsLoopOf squares (place out at) (grid_point across up q) (map point loop)
    loop_in_space q loop (s, n, is, joined, e, begins) =
        let same = squares_in_space planes rises numbered full are out k in
        let ra = rises (right_axis out) in let ru = rises (up_axis out) in
        let r = in_space s n is in (
          last_side across up s,
          r.length,
          r.is_round,
          reaches-onward (AreNeighbours squares) (grid_point across up q) (grid_point across up (left_square s))
              (left_square (last_side across up s))
              (cells_joined cells squares across up ra ru same q (left_square s) joined)
              (in_joined cells squares across up ra ru same (left_square s) (left_square (last_side across up s))
              (border_left cells s is.border)
              (last_left cells squares across up ra ru same s)),
          ap (map point) e ∙ r.is,
          begins_kept loop begins,
        )

    module _ (list : List Cell) (finite : (n : Cell) → IsTrue (numbered n) → Member list n) where
      -- and each loop of the face in space is one of those
      loop_of_numbers : (q : Spot) (loops : List (List Cell)) → AreLoopsOf cells (place out k) q loops
          → (loop : List Cell) → IsLoopOf squares (place out at) (grid_point across up q) loop
          → Member (map (map point) loops) loop
      loop_of_numbers q loops h loop (t, m, is, joined, e, begins) =
          let same = squares_in_space planes rises numbered full are out k in
          let ra = rises (right_axis out) in let ru = rises (up_axis out) in
          let (corner, end) = turn_on_grid cells squares across up ra ru same t is.border is.corner in
          let (x, x_border, x_last, x_turn) = ends_on_grid cells squares across up ra ru same t corner is.border end in
          let (s, n, s_round, s_begins, x_on) = some_round cells (map (spot_of out) list)
          (boundary_within list numbered finite out k)
          (place out k) (place_keeps out k) x x_border in
          let to_x : AreJoined cells q (left_square x) = squares_joined cells squares across up ra ru same q (left_square x)
          (grid_point across up q) (left_square t)
          (point_in cells squares across up ra ru same q)
          (subst (λ (y : Side). LiesBetween across (left_square x).u (left_square y).u
          × LiesBetween up (left_square x).v (left_square y).v) x_last
          (last_left cells squares across up ra ru same x)) joined in
          let to_s : AreJoined cells q (left_square s) = reaches-onward (AreNeighbours cells) q (left_square x)
          (left_square s) to_x
          (joined-back cells (left_square s) (left_square x) (round-joined cells s n s_round.border x x_on)) in
          let among = h.complete (map (place out k) (round_corners cells s n)) (s, n, s_round, to_s, refl, s_begins) in
          let r = in_space s n s_round in
          let one = one_start squares (place out at) (place_keeps out at) t (last_side across up s) t m r.length is r.is_round
          (subst BeginsLeast e begins)
          (subst BeginsLeast r.is (begins_kept (map (place out k) (round_corners cells s n)) s_begins)) (inl refl)
          (subst (Member (round_sides squares (last_side across up s) r.length)) x_last (r.on x x_on)) in
          let written : map point (map (place out k) (round_corners cells s n)) ≡ loop =
          r.is ∙ ap₂ (λ (y : Side) (l : ℕ). map (place out at) (round_corners squares y l)) (sym one.0) (sym one.1) ∙ sym e in
          subst (Member (map (map point) loops)) written
          (member-map (map point) loops (map (place out k) (round_corners cells s n)) among)

      -- so all loops of a face of numbers are all of the face in space
      loops_in_space : (q : Spot) (loops : List (List Cell)) → AreLoopsOf cells (place out k) q loops
          → AreLoopsOf squares (place out at) (grid_point across up q) (map (map point) loops)
      loops_in_space q loops h = record {
        each = each-map (map point) (IsLoopOf squares (place out at) (grid_point across up q)) loops
            (each-weaker (IsLoopOf cells (place out k) q)
            (λ l. IsLoopOf squares (place out at) (grid_point across up q) (map point l)) loops (loop_in_space q) h.each);
        ordered = ascends-map (map point) StartsBefore StartsBefore loops starts_kept h.ordered;
        complete = loop_of_numbers q loops h;
      }

      -- and the same of any unit square of the grid square
      loops_at : (q p : Spot) (loops : List (List Cell)) → LiesBetween across q.u p.u × LiesBetween up q.v p.v → IsTrue (cells q)
          → AreLoopsOf cells (place out k) q loops → AreLoopsOf squares (place out at) p (map (map point) loops)
      loops_at q p loops in_q full_q h =
          let same = squares_in_space planes rises numbered full are out k in
          loops_from squares (place out at) p (grid_point across up q)
          (joined-back squares (grid_point across up q) p
          (in_joined cells squares across up (rises (right_axis out)) (rises (up_axis out)) same q p full_q in_q))
          (map (map point) loops) (loops_in_space q loops h)

  module _ (numbered full : Cell → Bool) (are : AreCellsOf planes numbered full) (list : List Cell)
      (finite : (n : Cell) → IsTrue (numbered n) → Member list n) where
    -- a face of numbers is a face in space, of each unit square of its squares
    face_at : (f : FaceParts) (q p : Spot)
        → LiesBetween (planes (right_axis f.out)) q.u p.u × LiesBetween (planes (up_axis f.out)) q.v p.v
        → IsFaceAt numbered q f → IsFaceAt full p (face_in_space planes f)
    face_at f q p in_q (is, loops) = (
      same_in (is_boundary numbered f.out f.at) (is_boundary full f.out (planes (outward f.out).axis f.at))
          (planes (right_axis f.out)) (planes (up_axis f.out))
          (rises (right_axis f.out)) (rises (up_axis f.out))
          (squares_in_space planes rises numbered full are f.out f.at) q p in_q ∙ is,
      loops_at numbered full are f.out f.at list finite q p f.loops in_q is loops,
    )

    -- The faces of the solid of numbers, in space, are the faces of the solid.
    pub faces_are_in_space : (fs : List FaceParts) → AreFacesOf numbered fs → AreFacesOf full (map (face_in_space planes) fs)
    faces_are_in_space fs h = record {
      each = each-map (face_in_space planes) (λ g. (q : Spot) × IsFaceAt full q g) fs
          (each-weaker (λ f. (q : Spot) × IsFaceAt numbered q f) (λ f. (q : Spot) × IsFaceAt full q (face_in_space planes f)) fs
          (λ f face. (
            grid_point (planes (right_axis f.out)) (planes (up_axis f.out)) face.0,
            face_at f face.0 (grid_point (planes (right_axis f.out)) (planes (up_axis f.out)) face.0)
                (point_in (is_boundary numbered f.out f.at) (is_boundary full f.out (planes (outward f.out).axis f.at))
                (planes (right_axis f.out)) (planes (up_axis f.out))
                (rises (right_axis f.out)) (rises (up_axis f.out))
                (squares_in_space planes rises numbered full are f.out f.at) face.0) face.1,
          )) h.each);
      ordered = ascends-map (face_in_space planes) FaceBefore FaceBefore fs face_kept h.ordered;
      complete = complete;
    }
      where
        complete : (out : Out) (at : ℤ) (p : Spot) → IsTrue (is_boundary full out at p)
            → (g : FaceParts) × Member (map (face_in_space planes) fs) g × (g.out ≡ out) × (g.at ≡ at) × IsFaceAt full p g
        complete out at p is =
            let (k, plane) = plane_in_space planes rises numbered full are out at p is in
            let across = planes (right_axis out) in let up = planes (up_axis out) in
            let same = squares_in_space planes rises numbered full are out k in
            let cells = is_boundary numbered out k in
            let squares = is_boundary full out (planes (outward out).axis k) in
            let n = square_of cells squares across up (rises (right_axis out)) (rises (up_axis out)) same p in
            let in_n = square_of-in cells squares across up (rises (right_axis out)) (rises (up_axis out)) same p in
            let full_n : cells n ≡ true = sym
            (same_in cells squares across up (rises (right_axis out)) (rises (up_axis out)) same n p in_n)
            ∙ subst (λ z. is_boundary full out z p ≡ true) plane is in
            let (f, among, out_is, at_is, face) = h.complete out k n full_n in (
              face_in_space planes f,
              member-map (face_in_space planes) fs f among,
              out_is,
              ap₂ (λ (o : Out) (z : ℤ). planes (outward o).axis z) out_is at_is ∙ sym plane,
              face_at f n p (subst (λ o. LiesBetween (planes (right_axis o)) n.u p.u × LiesBetween (planes (up_axis o)) n.v p.v)
                  (sym out_is) in_n) face,
            )
