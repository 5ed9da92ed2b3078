-- One rectangle more.
use Rattle.std.proofs.Common.{◌≡◌, ◌++◌, ◌+◌, ◌≤◌, ◌∙◌, ℕ, List, length, take, drop, get_or, ap, sym, subst, append_assoc, arith}
use Rattle.std.specs.List.{flat_map}
use Rattle.std.proofs.lemmas.Grind.{flat_map-append}
use Rattle.std.proofs.lemmas.List.{flat_map_more, take_more, take-append-drop}
use Rattle.face_laws.specs.GridFaces.{Planes, grid_planes}
use Rattle.solid_model.specs.Panels.{coordinates_of}
use Rattle.stl_out.specs.declared.rectangle.Rectangle.{Rectangle}
use Rattle.stl_out.specs.Pieces.{rectangle_text}
use Rattle.tv_base.specs.Pieces.{WritesOn, AppendsPrefix}
use Rattle.tv_base.proofs.WrittenPieces.{written_next, prefix_written, prefix_longer, at_error}
use Rattle.stl_out.proofs.write.write_rectangles.Goals as goal

-- the texts of the first members, and of the next one
next_text : (planes : Planes) (piece : List ℕ) (rs : List Rectangle) (i : ℕ) (d : Rectangle) → i + 1 ≤ length rs
    → (piece ++ flat_map (rectangle_text planes) (take i rs)) ++ rectangle_text planes (get_or rs i d) ≡ piece ++ flat_map (rectangle_text planes) (take (i + 1) rs)
next_text planes piece rs i d l =
    flat_map_more (rectangle_text planes) piece (take i rs) (get_or rs i d)
    ∙ ap (λ ss. piece ++ flat_map (rectangle_text planes) ss) (sym (take_more rs i d (omega arith)))

-- and of all others
other_texts : (planes : Planes) (piece : List ℕ) (rs : List Rectangle) (i : ℕ)
    → (piece ++ flat_map (rectangle_text planes) (take i rs)) ++ flat_map (rectangle_text planes) (drop i rs) ≡ piece ++ flat_map (rectangle_text planes) rs
other_texts planes piece rs i =
    append_assoc piece (flat_map (rectangle_text planes) (take i rs)) (flat_map (rectangle_text planes) (drop i rs))
    ∙ ap (λ t. piece ++ t) (sym (flat_map-append (rectangle_text planes) (take i rs) (drop i rs)))
    ∙ ap (λ ss. piece ++ flat_map (rectangle_text planes) ss) (take-append-drop i rs)

pub returns-in_err-write_rectangle-clause-err : goal.returns-in_err-write_rectangle-clause-err
returns-in_err-write_rectangle-clause-err g c =
    let planes : Planes = grid_planes (coordinates_of c.args.parts.now) in
    let i = c.loop-rectangle.rectangle-index in
    let rs = c.args.rectangles.now in
    let a = g.K.Sink.held c.args.sink.now in
    let b = g.K.Sink.held c.loop-rectangle.sink in
    let now = g.K.Sink.held c.write_rectangle.new.sink in
    let so_far = c.args.piece.now.items ++ flat_map (rectangle_text planes) (take i rs) in
    at_error c.from_residual.result (subst (AppendsPrefix a now) (other_texts planes c.args.piece.now.items rs i)
    (prefix_longer a now so_far (flat_map (rectangle_text planes) (drop i rs))
    (prefix_written a b now so_far c.loop-rectangle.piece.items c.loop-rectangle.invariant.written c.in_err-write_rectangle.ensures.err)))

pub loop-rectangle-preserved : goal.loop-rectangle-preserved
loop-rectangle-preserved g c =
    let planes : Planes = grid_planes (coordinates_of c.args.parts.now) in
    let i = c.loop-rectangle.rectangle-index in
    let rs = c.args.rectangles.now in
    let a = g.K.Sink.held c.args.sink.now in
    let b = g.K.Sink.held c.loop-rectangle.sink in
    let now = g.K.Sink.held c.write_rectangle.new.sink in
    let before = c.loop-rectangle.invariant.later in
    let after = c.in_ok-write_rectangle.ensures.later in
    record {
      later = omega (arith, before, after);
      written = subst (λ (text : List ℕ). WritesOn a now text c.write_rectangle.new.piece.items)
          (next_text planes c.args.piece.now.items rs i _ (let l = c.loop-rectangle-test.true in omega (arith, l)))
          (written_next a b now (c.args.piece.now.items ++ flat_map (rectangle_text planes) (take i rs)) c.loop-rectangle.piece.items
          (rectangle_text planes (get_or rs i _)) c.write_rectangle.new.piece.items c.loop-rectangle.invariant.written c.in_ok-write_rectangle.ensures.ok);
      room = c.in_ok-write_rectangle.ensures.room;
    }
