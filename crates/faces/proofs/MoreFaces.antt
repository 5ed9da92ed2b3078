-- The faces of one plane more, and of one side more.
use Rattle.std.proofs.Common.{◌≡◌, inl, inr, Bool, true, false, ◌&&◌, ◌||◌, nat_eq, nat_lt, ℕ, ◌+◌, ◌<◌, List, [], ◌++◌, ℤ, pos, ◌<ℤ◌, int_lt, IsTrue, refl, sym, ◌∙◌, ap, subst, arith}
use Rattle.std.specs.Ordering.{int_eq}
use Rattle.std.proofs.lemmas.Bool.{cases_lt}
use Rattle.std.proofs.lemmas.Bool.Decides.{Decides-ltb, Decides-eqb}
use Rattle.std.proofs.lemmas.Int.{ints, by_lt_z}
use Rattle.solid_model.specs.declared.cell.Cell.{Cell}
use Rattle.solid_model.specs.declared.face.Out.{Out}
use Rattle.solid_model.specs.Faces.{outward, is_boundary, starts_before, FaceParts, IsFaceAt, out_number, first_loop, FaceBefore, AreFacesOf}
use Rattle.lemmas.specs.Lists.{Member, Each}
use Rattle.solid_model.specs.Marks.{BoxMarks, is_marked}
use Rattle.solid_model.specs.PerAxis.{numbers_of}
use Rattle.solid_model.specs.Rounds.{Spot}
use Rattle.solid_model.proofs.CellOrder.{Decides-int_lt}
use Rattle.lemmas.proofs.Lists.{each-at, each-from, each-append, each-weaker, ascends-append, member-append_left, member-append_right}
use Rattle.face_laws.proofs.OutwardSides.{one_out, out_number-below}
use Rattle.faces.specs.FacesSoFar.{IsEarlierPlane, AreFacesBefore}
use Rattle.faces.specs.PlaneFaces.{AreFacesInPlane}
use Rattle.faces.proofs.PlaneBoundary.{boundary_over}

-- ---- faces in earlier planes come before others

by_side : (f g : FaceParts) → out_number f.out < out_number g.out → FaceBefore f g
by_side f g l = ap (λ b. b || (nat_eq (out_number f.out) (out_number g.out) && (int_lt f.at g.at || (int_eq f.at g.at && starts_before (first_loop f.loops) (first_loop g.loops)))))
    ((Decides-ltb (out_number f.out) (out_number g.out)).1 l)

by_plane : (f g : FaceParts) → out_number f.out ≡ out_number g.out → f.at <ℤ g.at → FaceBefore f g
by_plane f g e l =
    ap (λ b. nat_lt (out_number f.out) (out_number g.out) || (b && (int_lt f.at g.at || (int_eq f.at g.at && starts_before (first_loop f.loops) (first_loop g.loops)))))
    ((Decides-eqb (out_number f.out) (out_number g.out)).1 e)
    ∙ ap (λ b. nat_lt (out_number f.out) (out_number g.out) || (b || (int_eq f.at g.at && starts_before (first_loop f.loops) (first_loop g.loops)))) ((Decides-int_lt f.at g.at).1 l)
    ∙ by (nat_lt (out_number f.out) (out_number g.out))
  where
    by : (b : Bool) → (b || true) ≡ true
    by true = refl
    by false = refl

-- the list has the face of a square
abbrev Found : (Cell → Bool) → List FaceParts → Out → ℤ → Spot → Type 0
Found full faces o at q = (f : FaceParts) × Member faces f × (f.out ≡ o) × (f.at ≡ at) × IsFaceAt full q f

module _ (full : Cell → Bool) (n m : ℕ) (faces : List FaceParts) (so_far : AreFacesBefore full n m faces) (out : Out) (side : out_number out ≡ n) where
  -- a face of the next plane comes after them
  comes_later : (f g : FaceParts) → IsEarlierPlane n m f.out f.at → g.out ≡ out → g.at ≡ pos m → FaceBefore f g
  comes_later f g (inl l) e at = let number = ap out_number e in by_side f g (omega arith)
  comes_later f g (inr (same, l)) e at = let number = ap out_number e in by_plane f g (omega arith) (omega (arith, ints))

  -- with the faces of the next plane they are those before the one after it
  pub plane_more : (new : List FaceParts) → AreFacesInPlane full out (pos m) new → AreFacesBefore full n (m + 1) (faces ++ new)
  plane_more new are = record {
    each = each-append (λ f. IsEarlierPlane n (m + 1) f.out f.at × ((q : Spot) × IsFaceAt full q f)) faces new
        (each-weaker (λ f. IsEarlierPlane n m f.out f.at × ((q : Spot) × IsFaceAt full q f))
        (λ f. IsEarlierPlane n (m + 1) f.out f.at × ((q : Spot) × IsFaceAt full q f)) faces (λ f (earlier, is). (still f.out f.at earlier, is)) so_far.each)
        (each-weaker (λ f. (f.out ≡ out) × (f.at ≡ pos m) × ((q : Spot) × IsFaceAt full q f))
        (λ f. IsEarlierPlane n (m + 1) f.out f.at × ((q : Spot) × IsFaceAt full q f)) new
        (λ f (e, at, is). (inr (ap out_number e ∙ side, omega (arith, ints)), is)) are.each);
    ordered = ascends-append FaceBefore faces new so_far.ordered are.ordered
        (each-from (λ f. Each (FaceBefore f) new) faces (λ f f_on. each-from (FaceBefore f) new (λ g g_on.
        let old = each-at (λ f. IsEarlierPlane n m f.out f.at × ((q : Spot) × IsFaceAt full q f)) faces f so_far.each f_on in
        let here = each-at (λ f. (f.out ≡ out) × (f.at ≡ pos m) × ((q : Spot) × IsFaceAt full q f)) new g are.each g_on in
        comes_later f g old.0 here.0 here.1)));
    complete = found;
  }
    where
      still : (o : Out) (at : ℤ) → IsEarlierPlane n m o at → IsEarlierPlane n (m + 1) o at
      still o at (inl l) = inl l
      still o at (inr (e, l)) = inr (e, omega (arith, ints))

      old : (o : Out) (at : ℤ) (q : Spot) → IsEarlierPlane n m o at → IsTrue (is_boundary full o at q) → Found full (faces ++ new) o at q
      old o at q earlier is = let (f, on, e, a, face) = so_far.complete o at q earlier is in (f, member-append_left faces new f on, e, a, face)

      here : (q : Spot) → IsTrue (is_boundary full out (pos m) q) → Found full (faces ++ new) out (pos m) q
      here q is =
          let (f, on, face) = are.complete q is in
          let at = each-at (λ f. (f.out ≡ out) × (f.at ≡ pos m) × ((q : Spot) × IsFaceAt full q f)) new f are.each on in
          (f, member-append_right faces new f on, at.0, at.1, face)

      found : (o : Out) (at : ℤ) (q : Spot) → IsEarlierPlane n (m + 1) o at → IsTrue (is_boundary full o at q) → Found full (faces ++ new) o at q
      found o at q (inl l) is = old o at q (inl l) is
      found o at q (inr (e, l)) is = by_lt_z at (pos m)
          (λ earlier. old o at q (inr (e, earlier)) is)
          (λ later.
          let same_side : out ≡ o = one_out out o (side ∙ sym e) in
          let same_plane : pos m ≡ at = omega (arith, ints) in
          subst (λ (p : Out × ℤ). IsTrue (is_boundary full p.0 p.1 q) → Found full (faces ++ new) p.0 p.1 q) (λ i. (same_side i, same_plane i)) (here q) is)

module _ (m : BoxMarks) where
  -- no boundary square lies in a plane before the first
  none_before : (out : Out) (at : ℤ) (q : Spot) → at <ℤ pos 0 → is_boundary (is_marked m) out at q ≡ true → ⊥
  none_before out at q l is = let over = boundary_over m out at q is in omega (arith, ints, over.plane.low)

  -- at the beginning there are no faces
  pub no_faces_yet : AreFacesBefore (is_marked m) 0 0 []
  no_faces_yet = record {
    each = tt;
    ordered = tt;
    complete = λ out at q earlier is. elim earlier as (λ _. Found (is_marked m) [] out at q) [
      | inl l ↦ absurd (omega arith)
      | inr l ↦ absurd (none_before out at q l.1 is)
    ];
  }

  -- those in all planes of a side are those before the next side
  pub side_done : (n k : ℕ) (faces : List FaceParts) (out : Out) → out_number out ≡ n → k ≡ numbers_of m.sizes (outward out).axis + 1
      → AreFacesBefore (is_marked m) n k faces → AreFacesBefore (is_marked m) (n + 1) 0 faces
  side_done n k faces out side all so_far = record {
    each = each-weaker (λ f. IsEarlierPlane n k f.out f.at × ((q : Spot) × IsFaceAt (is_marked m) q f))
        (λ f. IsEarlierPlane (n + 1) 0 f.out f.at × ((q : Spot) × IsFaceAt (is_marked m) q f)) faces
        (λ f (earlier, is). (still f.out f.at earlier, is)) so_far.each;
    ordered = so_far.ordered;
    complete = found;
  }
    where
      still : (o : Out) (at : ℤ) → IsEarlierPlane n k o at → IsEarlierPlane (n + 1) 0 o at
      still o at (inl l) = inl (omega arith)
      still o at (inr (e, l)) = inl (omega arith)

      found : (o : Out) (at : ℤ) (q : Spot) → IsEarlierPlane (n + 1) 0 o at → IsTrue (is_boundary (is_marked m) o at q) → Found (is_marked m) faces o at q
      found o at q (inr (e, l)) is = absurd (none_before o at q l is)
      found o at q (inl l) is = elim (cases_lt (out_number o) n) as (λ _. Found (is_marked m) faces o at q) [
        | inl earlier ↦ so_far.complete o at q (inl earlier) is
        | inr later ↦ (let same_side : out ≡ o = one_out out o (omega arith) in
            let over = boundary_over m o at q is in
            let size : numbers_of m.sizes (outward out).axis ≡ numbers_of m.sizes (outward o).axis = ap (λ p. numbers_of m.sizes (outward p).axis) same_side in
            so_far.complete o at q (inr (omega arith, omega (arith, ints, over.plane.high, size, all))) is)
      ]

  -- those before the seventh side are all
  pub all_faces : (faces : List FaceParts) → AreFacesBefore (is_marked m) 6 0 faces → AreFacesOf (is_marked m) faces
  all_faces faces so_far = record {
    each = each-weaker (λ f. IsEarlierPlane 6 0 f.out f.at × ((q : Spot) × IsFaceAt (is_marked m) q f)) (λ f. (q : Spot) × IsFaceAt (is_marked m) q f)
        faces (λ f p. p.1) so_far.each;
    ordered = so_far.ordered;
    complete = λ out at q is. so_far.complete out at q (inl (out_number-below out)) is;
  }
