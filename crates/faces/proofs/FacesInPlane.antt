-- The loops of a plane, in groups, are its faces.
use Rattle.std.proofs.Common.{◌≡◌, ◌↔◌, Bool, true, false, not, ◌&&◌, nat_eq, nat_lt, ◌||◌, ℕ, zero, suc, List, [], ◌∷◌, map, ℤ, pos, negsuc, ◌≤ℤ◌, int_lt, IsTrue, refl, sym, ◌∙◌, ap, ap₂, subst, arith}
use Rattle.std.proofs.lemmas.Bool.{false_from_ne_true, false≢true, and_from}
use Rattle.std.proofs.lemmas.Bool.Decides.{Decides-eqb}
use Rattle.std.proofs.lemmas.Int.{ints}
use Rattle.solid_model.specs.declared.cell.Cell.{Cell}
use Rattle.solid_model.specs.declared.face.Out.{Out}
use Rattle.solid_model.specs.Faces.{place, is_boundary, BeginsLeast, IsLoopOf, starts_before, StartsBefore, AreLoopsOf, IsFaceAt, out_number, FaceBefore}
use Rattle.lemmas.specs.Lists.{Member}
use Rattle.solid_model.specs.Rounds.{Spot, South, West, spot_after, left_square, right_square, is_border, round_corners, AreNeighbours, AreJoined}
use Rattle.face_laws.proofs.BoundarySquares.{border_left}
use Rattle.lemmas.proofs.Chains.{reaches-itself, reaches-onward, reaches-step}
use Rattle.face_laws.proofs.FacePlaces.{place_keeps}
use Rattle.face_laws.proofs.JoinedSides.{joined-back, round-joined}
use Rattle.lemmas.proofs.Lists.{each-at, each-from, each-map, member-map, member-filter, ascends-map, ascends-filter}
use Rattle.lemmas.proofs.Integers.{up_and_down}
use Rattle.face_laws.proofs.SomeLoop.{side_of, some_round}
use Rattle.face_laws.proofs.Turns.{same_spot}
use Rattle.faces.specs.Groups.{with_key, IsGroup, heads_before, AreGroups}
use Rattle.faces.specs.PlaneFaces.{is_up_first, loop_in_space, face_of, AreFacesInPlane}
use Rattle.faces.specs.PlaneLoops.{PlaneLoop, IsLoopRound, first_corner_before, ArePlaneLoops}
use Rattle.faces.proofs.Grouping.{with_key-member}
use Rattle.faces.proofs.PlaneOrder.{same_int, starts_in_space, begins_least, begins_first}

-- a square that is there, on whose left none is
pub record IsLeftmost (squares : Spot → Bool) (q r : Spot) : Type 0 where
  pub there : squares r ≡ true
  pub joined : AreJoined squares q r
  pub none : squares (spot_after West r) ≡ false

module _ (squares : Spot → Bool) (right : (p : Spot) → squares p ≡ true → pos 0 ≤ℤ p.u) where
  -- whoever goes to the left comes to one
  go_left : (k : ℕ) (v : ℤ) (q : Spot) → squares (record { u = pos k; v = v }) ≡ true → AreJoined squares q (record { u = pos k; v = v })
      → (r : Spot) × IsLeftmost squares q r
  go_left zero v q there joined = (
    record { u = pos zero; v = v },
    record {
      there = there;
      joined = joined;
      none = false_from_ne_true (squares (spot_after West (record { u = pos zero; v = v }))) (λ e.
          let l = right (spot_after West (record { u = pos zero; v = v })) e in omega (arith, ints));
    },
  )
  go_left (suc k) v q there joined = by (go_left k v q) (squares (spot_after West (record { u = pos (suc k); v = v }))) refl
    where
      same : spot_after West (record { u = pos (suc k); v = v }) ≡ record { u = pos k; v = v }
      same = same_spot (spot_after West (record { u = pos (suc k); v = v })) (record { u = pos k; v = v }) (omega (arith, ints)) refl

      by : (squares (record { u = pos k; v = v }) ≡ true → AreJoined squares q (record { u = pos k; v = v }) → (r : Spot) × IsLeftmost squares q r)
          → (b : Bool) → squares (spot_after West (record { u = pos (suc k); v = v })) ≡ b → (r : Spot) × IsLeftmost squares q r
      by further false e = (record { u = pos (suc k); v = v }, record { there = there; joined = joined; none = e })
      by further true e =
          let next : squares (record { u = pos k; v = v }) ≡ true = ap squares (sym same) ∙ e in
          further next (reaches-onward (AreNeighbours squares) q (record { u = pos (suc k); v = v }) (record { u = pos k; v = v }) joined
          (reaches-step (AreNeighbours squares) (record { u = pos (suc k); v = v }) (record { u = pos k; v = v }) (there, next, (West, sym same))))

  leftmost : (q : Spot) → squares q ≡ true → (r : Spot) × IsLeftmost squares q r
  leftmost q there = by q.u refl
    where
      by : (u : ℤ) → q.u ≡ u → (r : Spot) × IsLeftmost squares q r
      by (pos k) e =
          let same : q ≡ record { u = pos k; v = q.v } = same_spot q (record { u = pos k; v = q.v }) e refl in
          go_left k q.v q (ap squares (sym same) ∙ there) (subst (AreJoined squares q) same (reaches-itself (AreNeighbours squares) q))
      by (negsuc k) e = let l = right q there in absurd (omega (arith, ints))

  -- the left side of such a square is on the border
  left_side : (q r : Spot) → IsLeftmost squares q r → (left_square (side_of South r) ≡ r) × IsTrue (is_border squares (side_of South r))
  left_side q r is =
      let own : left_square (side_of South r) ≡ r = same_spot (left_square (side_of South r)) r refl (up_and_down r.v) in
      let beyond : right_square (side_of South r) ≡ spot_after West r =
      same_spot (right_square (side_of South r)) (spot_after West r) refl (up_and_down r.v) in (
        own,
        and_from (squares (left_square (side_of South r))) (not (squares (right_square (side_of South r)))) (ap squares own ∙ is.there)
            (ap (λ p. not (squares p)) beyond ∙ ap not is.none),
      )

module _ (squares : Spot → Bool) (out : Out) (at : ℤ) (loops : List PlaneLoop) (are : ArePlaneLoops squares (is_up_first out) loops) (number : Spot → ℕ)
    (joins : (p q : Spot) → IsTrue (squares p) → IsTrue (squares q) → (number p ≡ number q) ↔ AreJoined squares p q) where
  abbrev there : Spot → Cell
  there = place out at

  abbrev pub key : PlaneLoop → ℕ
  key l = number l.square

  -- a loop's square is there
  pub loop_there : (l : PlaneLoop) → Member loops l → IsTrue (squares l.square)
  loop_there l on =
      let (s, n, is, left, corners, begins) = each-at (IsLoopRound squares (is_up_first out)) loops l are.each on in
      ap squares left ∙ border_left squares s is.border

  -- a loop round squares that are joined with q is one of the face of q
  loop_of_face : (q : Spot) → IsTrue (squares q) → (l : PlaneLoop) → Member loops l → key l ≡ number q
      → IsLoopOf squares there q (loop_in_space out at l)
  loop_of_face q q_there l on same =
      let (s, n, is, left, corners, begins) = each-at (IsLoopRound squares (is_up_first out)) loops l are.each on in (
        s,
        n,
        is,
        subst (AreJoined squares q) left ((joins q l.square q_there (loop_there l on)).0 (sym same)),
        ap (map there) corners,
        begins_least out at l.corners begins,
      )

  -- and the other way round
  face_of_loop : (q : Spot) → IsTrue (squares q) → (loop : List Cell) → IsLoopOf squares there q loop
      → (l : PlaneLoop) × Member loops l × (key l ≡ number q) × (loop_in_space out at l ≡ loop)
  face_of_loop q q_there loop (s, n, is, joined, e, begins) =
      let l : PlaneLoop = record { square = left_square s; corners = round_corners squares s n } in
      let on : Member loops l =
      are.complete l (s, n, is, refl, refl, begins_first out at (round_corners squares s n) (subst BeginsLeast e begins)) in
      (l, on, sym ((joins q (left_square s) q_there (border_left squares s is.border)).1 joined), sym e)

  -- those with one key are all loops of a face
  face_loops : (q : Spot) → IsTrue (squares q) → (x : PlaneLoop) → key x ≡ number q
      → AreLoopsOf squares there q (map (loop_in_space out at) (with_key key (key x) loops))
  face_loops q q_there x same = record {
    each = each-map (loop_in_space out at) (IsLoopOf squares there q) (with_key key (key x) loops)
        (each-from (λ l. IsLoopOf squares there q (loop_in_space out at l)) (with_key key (key x) loops) (λ l m.
        let (on, e) = with_key-member key (key x) loops l m in
        loop_of_face q q_there l on (e ∙ same)));
    ordered = ascends-map (loop_in_space out at) (λ l m. IsTrue (first_corner_before (is_up_first out) l.corners m.corners)) StartsBefore
        (with_key key (key x) loops) (λ l m e. sym (starts_in_space out at l.corners m.corners) ∙ e)
        (ascends-filter (λ l. nat_eq (key l) (key x)) (λ l m. IsTrue (first_corner_before (is_up_first out) l.corners m.corners)) loops are.ordered);
    complete = λ loop is.
        let (l, on, e, f) = face_of_loop q q_there loop is in
        subst (Member (map (loop_in_space out at) (with_key key (key x) loops))) f
        (member-map (loop_in_space out at) (with_key key (key x) loops) l
        (member-filter (λ m. nat_eq (key m) (key x)) loops l on ((Decides-eqb (key l) (key x)).1 (e ∙ sym same))));
  }

  -- each square has a loop round squares that are joined with it
  module _ (ps : List Spot) (finite : (p : Spot) → IsTrue (squares p) → Member ps p) (right : (p : Spot) → squares p ≡ true → pos 0 ≤ℤ p.u) where
    loop_of_square : (q : Spot) → IsTrue (squares q) → (l : PlaneLoop) × Member loops l × (key l ≡ number q)
    loop_of_square q q_there =
        let (r, is_left) = leftmost squares right q q_there in
        let (own, border) = left_side squares right q r is_left in
        let (s, n, is, begins, on) = some_round squares ps finite there (place_keeps out at) (side_of South r) border in
        let to_r : AreJoined squares (left_square s) r =
        subst (AreJoined squares (left_square s)) own (round-joined squares s n is.border (side_of South r) on) in
        let joined : AreJoined squares q (left_square s) =
        reaches-onward (AreNeighbours squares) q r (left_square s) is_left.joined (joined-back squares (left_square s) r to_r) in
        let l : PlaneLoop = record { square = left_square s; corners = round_corners squares s n } in (
          l,
          are.complete l (s, n, is, refl, refl, begins_first out at (round_corners squares s n) begins),
          sym ((joins q (left_square s) q_there (border_left squares s is.border)).1 joined),
        )

    module _ (full : Cell → Bool) (boundary : squares ≡ is_boundary full out at) (groups : List (List PlaneLoop)) (grouped : AreGroups key loops groups) where
      is_face : (q : Spot) → IsTrue (squares q) → (x : PlaneLoop) → key x ≡ number q → IsFaceAt full q (face_of out at (with_key key (key x) loops))
      is_face q q_there x same =
          subst (λ (these : Spot → Bool). IsTrue (these q) × AreLoopsOf these there q (map (loop_in_space out at) (with_key key (key x) loops))) boundary
          (q_there, face_loops q q_there x same)

      faces_before : (g h : List PlaneLoop) → IsTrue (heads_before (λ l m. first_corner_before (is_up_first out) l.corners m.corners) g h)
          → FaceBefore (face_of out at g) (face_of out at h)
      faces_before [] h e = absurd (false≢true e)
      faces_before (l ∷ g) [] e = absurd (false≢true e)
      faces_before (l ∷ g) (m ∷ h) e =
          let starts : starts_before (loop_in_space out at l) (loop_in_space out at m) ≡ true = sym (starts_in_space out at l.corners m.corners) ∙ e in
          ap₂ (λ a b. nat_lt (out_number out) (out_number out) || (a && (int_lt at at || (b && starts_before (loop_in_space out at l) (loop_in_space out at m)))))
          ((Decides-eqb (out_number out) (out_number out)).1 refl) (same_int at)
          ∙ ap (λ c. nat_lt (out_number out) (out_number out) || (int_lt at at || c)) starts
          ∙ by (nat_lt (out_number out) (out_number out)) (int_lt at at)
        where
          by : (a b : Bool) → (a || (b || true)) ≡ true
          by true b = refl
          by false true = refl
          by false false = refl

      -- the groups are the faces
      pub faces_in_plane : AreFacesInPlane full out at (map (face_of out at) groups)
      faces_in_plane = record {
        each = each-map (face_of out at) (λ f. (f.out ≡ out) × (f.at ≡ at) × ((q : Spot) × IsFaceAt full q f)) groups
            (each-from (λ g. (out ≡ out) × (at ≡ at) × ((q : Spot) × IsFaceAt full q (face_of out at g))) groups (λ g m.
            let (x, on, e) = each-at (IsGroup key loops) groups g grouped.each m in
            (refl, refl, (x.square, subst (λ h. IsFaceAt full x.square (face_of out at h)) (sym e) (is_face x.square (loop_there x on) x refl)))));
        ordered = ascends-map (face_of out at) (λ g h. IsTrue (heads_before (λ l m. first_corner_before (is_up_first out) l.corners m.corners) g h)) FaceBefore
            groups faces_before (grouped.ordered (λ l m. first_corner_before (is_up_first out) l.corners m.corners) are.ordered);
        complete = λ q is.
            let q_there : IsTrue (squares q) = (λ i. boundary i q) ∙ is in
            let (x, on, e) = loop_of_square q q_there in
            (face_of out at (with_key key (key x) loops), member-map (face_of out at) groups (with_key key (key x) loops) (grouped.complete x on), is_face q q_there x e);
      }
