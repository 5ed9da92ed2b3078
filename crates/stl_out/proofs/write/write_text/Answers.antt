-- The first line, the triangles, and the last line.
use Rattle.std.proofs.Common.{◌≡◌, ◌++◌, ◌∙◌, ℕ, List, codes, ap, sym, subst}
use Rattle.std.specs.Io.KnownBytes.{Appends}
use Rattle.std.specs.List.{flat_map}
use Rattle.std.proofs.lemmas.Result.{on_ok_weaker, on_err_weaker}
use Rattle.face_laws.specs.GridFaces.{Planes, grid_planes}
use Rattle.solid_model.specs.Panels.{GridParts, coordinates_of}
use Rattle.stl_out.specs.Pieces.{rectangle_text}
use Rattle.tv_base.specs.Pieces.{WritesOn, AppendsPrefix}
use Rattle.stl_out.proofs.Texts.{whole_text}
use Rattle.tv_base.proofs.WrittenPieces.{written_more, prefix_written, prefix_longer, last_written, left_over, at_error}
use Rattle.stl_out.proofs.write.write_text.Goals as goal

pub returns-in_err-write_rectangles-clause-err : goal.returns-in_err-write_rectangles-clause-err
returns-in_err-write_rectangles-clause-err g c =
    let planes : Planes = grid_planes (coordinates_of c.args.grid.now) in
    let rs = c.args.rectangles.now in
    let a = g.K.Sink.held c.args.sink.now in
    let b = g.K.Sink.held c.write_rectangles.new.sink in
    let begun = c.extend_from_slice.new.self.items in
    let first : begun ≡ codes "solid recon\n" = c.in_ok-extend_from_slice.ensures.items ∙ ap (λ (xs : List ℕ). xs ++ codes "solid recon\n") c.in_ok-piece.ensures.items in
    let begins : AppendsPrefix a b (begun ++ flat_map (rectangle_text planes) rs) =
    subst (λ (g : GridParts). AppendsPrefix a b (begun ++ flat_map (rectangle_text (grid_planes (coordinates_of g))) rs))
    c.in_ok-parts.ensures.grid c.in_err-write_rectangles.ensures.err in
    at_error c.from_residual-in_err-write_rectangles.result (subst (AppendsPrefix a b) (sym (whole_text planes rs begun first))
    (prefix_longer a b (begun ++ flat_map (rectangle_text planes) rs) (codes "endsolid recon\n") begins))

pub returns-in_err-extend_from_slice-2-clause-err : goal.returns-in_err-extend_from_slice-2-clause-err
returns-in_err-extend_from_slice-2-clause-err g c =
    let planes : Planes = grid_planes (coordinates_of c.args.grid.now) in
    let rs = c.args.rectangles.now in
    let a = g.K.Sink.held c.args.sink.now in
    let b = g.K.Sink.held c.write_rectangles.new.sink in
    let begun = c.extend_from_slice.new.self.items in
    let first : begun ≡ codes "solid recon\n" = c.in_ok-extend_from_slice.ensures.items ∙ ap (λ (xs : List ℕ). xs ++ codes "solid recon\n") c.in_ok-piece.ensures.items in
    let told : WritesOn a b (begun ++ flat_map (rectangle_text planes) rs) c.write_rectangles.new.piece.items =
    subst (λ (g : GridParts). WritesOn a b (begun ++ flat_map (rectangle_text (grid_planes (coordinates_of g))) rs) c.write_rectangles.new.piece.items)
    c.in_ok-parts.ensures.grid c.in_ok-write_rectangles.ensures.ok in
    at_error c.from_residual-in_err-extend_from_slice-2.result (subst (AppendsPrefix a b) (sym (whole_text planes rs begun first))
    (prefix_longer a b (begun ++ flat_map (rectangle_text planes) rs) (codes "endsolid recon\n")
    (left_over a b (begun ++ flat_map (rectangle_text planes) rs) c.write_rectangles.new.piece.items told)))

pub returns-clause-ok : goal.returns-clause-ok
returns-clause-ok g c =
    let planes : Planes = grid_planes (coordinates_of c.args.grid.now) in
    let rs = c.args.rectangles.now in
    let a = g.K.Sink.held c.args.sink.now in
    let b = g.K.Sink.held c.write_rectangles.new.sink in
    let now = g.K.Sink.held c.write_piece.new.sink in
    let begun = c.extend_from_slice.new.self.items in
    let first : begun ≡ codes "solid recon\n" = c.in_ok-extend_from_slice.ensures.items ∙ ap (λ (xs : List ℕ). xs ++ codes "solid recon\n") c.in_ok-piece.ensures.items in
    let told : WritesOn a b (begun ++ flat_map (rectangle_text planes) rs) c.write_rectangles.new.piece.items =
    subst (λ (g : GridParts). WritesOn a b (begun ++ flat_map (rectangle_text (grid_planes (coordinates_of g))) rs) c.write_rectangles.new.piece.items)
    c.in_ok-parts.ensures.grid c.in_ok-write_rectangles.ensures.ok in
    let text = begun ++ flat_map (rectangle_text planes) rs in
    let last : c.deref.result.now ≡ c.write_rectangles.new.piece.items ++ codes "endsolid recon\n" = c.deref.ensures.value ∙ c.in_ok-extend_from_slice-2.ensures.items in
    on_ok_weaker c.write_piece.result (λ (h : Appends b now c.deref.result.now). subst (Appends a now) (sym (whole_text planes rs begun first))
    (last_written a b now (text ++ codes "endsolid recon\n") (c.write_rectangles.new.piece.items ++ codes "endsolid recon\n")
    (written_more a b text c.write_rectangles.new.piece.items (codes "endsolid recon\n") told) (subst (Appends b now) last h)))
    c.write_piece.ensures.ok

pub returns-clause-err : goal.returns-clause-err
returns-clause-err g c =
    let planes : Planes = grid_planes (coordinates_of c.args.grid.now) in
    let rs = c.args.rectangles.now in
    let a = g.K.Sink.held c.args.sink.now in
    let b = g.K.Sink.held c.write_rectangles.new.sink in
    let now = g.K.Sink.held c.write_piece.new.sink in
    let begun = c.extend_from_slice.new.self.items in
    let first : begun ≡ codes "solid recon\n" = c.in_ok-extend_from_slice.ensures.items ∙ ap (λ (xs : List ℕ). xs ++ codes "solid recon\n") c.in_ok-piece.ensures.items in
    let told : WritesOn a b (begun ++ flat_map (rectangle_text planes) rs) c.write_rectangles.new.piece.items =
    subst (λ (g : GridParts). WritesOn a b (begun ++ flat_map (rectangle_text (grid_planes (coordinates_of g))) rs) c.write_rectangles.new.piece.items)
    c.in_ok-parts.ensures.grid c.in_ok-write_rectangles.ensures.ok in
    let text = begun ++ flat_map (rectangle_text planes) rs in
    let last : c.deref.result.now ≡ c.write_rectangles.new.piece.items ++ codes "endsolid recon\n" = c.deref.ensures.value ∙ c.in_ok-extend_from_slice-2.ensures.items in
    on_err_weaker c.write_piece.result (λ (h : AppendsPrefix b now c.deref.result.now). subst (AppendsPrefix a now) (sym (whole_text planes rs begun first))
    (prefix_written a b now (text ++ codes "endsolid recon\n") (c.write_rectangles.new.piece.items ++ codes "endsolid recon\n")
    (written_more a b text c.write_rectangles.new.piece.items (codes "endsolid recon\n") told) (subst (AppendsPrefix b now) last h)))
    c.write_piece.ensures.err
