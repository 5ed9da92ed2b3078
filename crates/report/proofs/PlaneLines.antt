-- The lines of one plane more, of one side more, and of all.
use Rattle.std.proofs.Common.{◌≡◌, ℕ, ◌+◌, ◌<◌, ◌++◌, ◌∷◌, ◌&&◌, ◌<ℤ◌, Bool, false, List, [], map, length, take, slice_index_or, pos, refl, sym, ◌∙◌, ap, subst, arith}
use Rattle.std.specs.List.{flat_map}
use Rattle.std.proofs.lemmas.Grind.{flat_map-append}
use Rattle.std.proofs.lemmas.List.{append-nil, length-append, length-map, map-append}
use Rattle.std.proofs.lemmas.List.Sums.{sum_by-append}
use Rattle.solid_model.specs.declared.cell.Axis.{Axis}
use Rattle.solid_model.specs.declared.cell.Axis.TheVariants.{X, Y, Z}
use Rattle.solid_model.specs.declared.cell.Cell.{Cell}
use Rattle.solid_model.specs.declared.face.Out.{Out}
use Rattle.solid_model.specs.Faces.{outward, out_number, FaceParts, AreFacesOf}
use Rattle.solid_model.specs.Grid.{Coordinates, gaps_along}
use Rattle.lemmas.specs.Lists.{Each, Ascends}
use Rattle.solid_model.specs.Marks.{BoxMarks, is_marked}
use Rattle.solid_model.specs.PerAxis.{numbers_of}
use Rattle.solid_model.specs.WalledBoxes.{is_within, box_place}
use Rattle.lemmas.proofs.Lists.{each-push}
use Rattle.cell_rows.specs.declared.changed_planes.ChangedPlanes.{ChangedPlanes}
use Rattle.cell_rows.specs.Planes.{AreSameBeside}
use Rattle.face_laws.specs.GridFaces.{face_in_space, grid_planes, numbered_fullness}
use Rattle.face_laws.proofs.GridPlanes.{union_faces}
use Rattle.faces.specs.PlaneFaces.{AreFacesInPlane}
use Rattle.faces.proofs.MoreFaces.{no_faces_yet, plane_more, side_done, all_faces}
use Rattle.report.specs.Texts.{face_text}
use Rattle.report.specs.PlaneTexts.{PlaneLines, AreLines, AreLinesIn, AreLinesUnlessChanged, AreLinesBefore, AreFirstLines, AreAllLines, GridLines, AreLinesOfRows, listed}

-- lines have the coordinates that they list
pub listed_is : (g : GridLines) (coordinates : Coordinates) → g.xs ≡ coordinates X → g.ys ≡ coordinates Y → g.zs ≡ coordinates Z
    → listed g ≡ coordinates
listed_is g coordinates x y z = λ i a. by a i
  where
    by : (a : Axis) → listed g a ≡ coordinates a
    by X = x
    by Y = y
    by Z = z

-- coordinates stay when rows and planes change
pub other_lines : (g : GridLines) (rows : BoxMarks) (planes : List PlaneLines)
    → listed (record { decimals = g.decimals; xs = g.xs; ys = g.ys; zs = g.zs; rows = rows; planes = planes }) ≡ listed g
other_lines g rows planes =
    listed_is (record { decimals = g.decimals; xs = g.xs; ys = g.ys; zs = g.zs; rows = rows; planes = planes }) (listed g) refl refl refl

-- lines of marked cells, kept with their rows in the place of others
pub lines_of_rows : (g : GridLines) (rows : BoxMarks) (planes : List PlaneLines) (decimals : ℕ) (coordinates : Coordinates) (m : BoxMarks)
    → listed g ≡ coordinates → g.decimals ≡ decimals → rows ≡ m → numbers_of m.sizes ≡ gaps_along coordinates
    → Each (AreLines decimals coordinates (is_marked m)) planes
    → AreLinesOfRows (record { decimals = g.decimals; xs = g.xs; ys = g.ys; zs = g.zs; rows = rows; planes = planes })
lines_of_rows g rows planes decimals coordinates m on counted marks sized each =
    let same = other_lines g rows planes ∙ on in
    record {
      sized = ap (λ (b : BoxMarks). numbers_of b.sizes) marks ∙ sized ∙ sym (ap gaps_along same);
      each = subst (λ (t : ℕ × Coordinates × BoxMarks). Each (AreLines t.0 t.1 (is_marked t.2)) planes)
          (λ i. (sym counted i, sym same i, sym marks i)) each;
    }

module _ (decimals : ℕ) (coordinates : Coordinates) (m : BoxMarks) where
  abbrev Before : ℕ → ℕ → List PlaneLines → Type 0
  Before n k planes = AreLinesBefore decimals coordinates (is_marked m) n k planes

  -- a face, put in space
  abbrev put : FaceParts → FaceParts
  put = face_in_space (grid_planes coordinates)

  pub no_lines_yet : Before 0 0 []
  no_lines_yet = record { faces = []; are = no_faces_yet m; count = refl; text = refl; each = tt }

  pub lines_more : (n k : ℕ) (planes : List PlaneLines) → Before n k planes → (out : Out) → out_number out ≡ n → (p : PlaneLines)
      → AreLinesIn decimals coordinates (is_marked m) out k p → Before n (k + 1) (planes ++ p ∷ [])
  lines_more n k planes so_far out side p own =
      let lines = own.lines in
      let new : AreFacesInPlane (is_marked m) out (pos k) lines.faces =
      subst (λ (x : Out × ℕ). AreFacesInPlane (is_marked m) x.0 (pos x.1) lines.faces) (λ i. (own.out_is i, own.at_is i))
      (lines.are (is_marked m) lines.boundary) in
      record {
        faces = so_far.faces ++ lines.faces;
        are = plane_more (is_marked m) n k so_far.faces so_far.are out side lines.faces new;
        count = let both = length-append so_far.faces lines.faces in
            let sums = sum_by-append (λ (q : PlaneLines). q.count) planes (p ∷ []) in
            omega (arith, both, sums, so_far.count, lines.count);
        text = flat_map-append (λ (q : PlaneLines). q.text) planes (p ∷ [])
            ∙ (λ i. so_far.text i ++ (append-nil p.text ∙ lines.text) i)
            ∙ sym (ap (flat_map (face_text decimals)) (map-append put so_far.faces lines.faces) ∙ flat_map-append (face_text decimals) (map put so_far.faces) (map put lines.faces));
        each = each-push (AreLines decimals coordinates (is_marked m)) planes p so_far.each lines;
      }

  -- lines that a plane keeps are those of these cells too, where it hasn't changed
  pub unchanged_lines : (old : BoxMarks) (changed : ChangedPlanes) → AreSameBeside changed old m → (p : PlaneLines)
      → AreLines decimals coordinates (is_marked old) p → AreLinesUnlessChanged decimals coordinates (is_marked m) changed p
  unchanged_lines old changed same p lines = record {
    kept = λ l told. record {
      squares = lines.squares;
      boundary = λ q. lines.boundary q ∙ same p.out p.at l told q;
      faces = lines.faces;
      are = lines.are;
      count = lines.count;
      text = lines.text;
    };
  }

  -- the first of a list, and the next one
  pub first_more : (n k : ℕ) (planes more : List PlaneLines) (count : ℕ) → AreFirstLines decimals coordinates (is_marked m) n k planes count
      → (out : Out) → out_number out ≡ n → (p : PlaneLines) → take (count + 1) more ≡ take count planes ++ p ∷ [] → count < length more
      → AreLinesIn decimals coordinates (is_marked m) out k p → AreFirstLines decimals coordinates (is_marked m) n (k + 1) more (count + 1)
  first_more n k planes more count first out side p is within lines = record {
    before = subst (Before n (k + 1)) (sym is) (lines_more n k (take count planes) first.before out side p lines);
    within = omega arith;
  }

  pub lines_of_side : (n k : ℕ) (planes : List PlaneLines) (out : Out) → out_number out ≡ n → k ≡ numbers_of m.sizes (outward out).axis + 1
      → Before n k planes → Before (n + 1) 0 planes
  lines_of_side n k planes out side all so_far = record {
    faces = so_far.faces;
    are = side_done m n k so_far.faces out side all so_far.are;
    count = so_far.count;
    text = so_far.text;
    each = so_far.each;
  }

  pub first_of_side : (n k : ℕ) (planes : List PlaneLines) (count : ℕ) (out : Out) → out_number out ≡ n → k ≡ numbers_of m.sizes (outward out).axis + 1
      → AreFirstLines decimals coordinates (is_marked m) n k planes count → AreFirstLines decimals coordinates (is_marked m) (n + 1) 0 planes count
  first_of_side n k planes count out side all first = record {
    before = lines_of_side n k (take count planes) out side all first.before;
    within = first.within;
  }

  module _ (sized : numbers_of m.sizes ≡ gaps_along coordinates) (ascends : (a : Axis) → Ascends ◌<ℤ◌ (coordinates a)) where
    pub lines_of_all : (planes : List PlaneLines) → Before 6 0 planes → AreAllLines decimals coordinates m.values planes
    lines_of_all planes lines = record {
      faces = map put lines.faces;
      are = λ full union.
          let same : is_marked m ≡ numbered_fullness coordinates m.values =
          λ t n. is_within (sized t) n && slice_index_or m.values (box_place (sized t) n) false in
          union_faces coordinates ascends m.values full union lines.faces
          (subst (λ (f : Cell → Bool). AreFacesOf f lines.faces) same (all_faces m lines.faces lines.are));
      count = length-map lines.faces put ∙ lines.count;
      text = lines.text;
    }
