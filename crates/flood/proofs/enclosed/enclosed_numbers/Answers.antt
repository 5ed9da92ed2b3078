-- One enclosed component more; and all of them.
use Rattle.std.proofs.Common.{◌≡◌, ◌<◌, refl, ap, sym, subst, ◌∙◌, arith, None}
use Rattle.solid_model.specs.PerAxis.{numbers_of, cell_of}
use Rattle.solid_model.specs.WalledBoxes.{box_place, box_count}
use Rattle.solid_model.proofs.BoxPlaces.{cell_there}
use Rattle.lemmas.proofs.Pushed.{holds_more}
use Rattle.flood.specs.Graph.{component}
use Rattle.flood.specs.Ring.{enclosed_of}
use Rattle.flood.proofs.PassageComponents.{IsEnclosedAt, enclosed_at}
use Rattle.flood.proofs.enclosed.enclosed_numbers.Goals as goal

pub loop-place-preserved : goal.loop-place-preserved
loop-place-preserved c =
    let sizes = numbers_of c.args.sizes in let of = component c.args.components.now in
    record {
      told = holds_more (IsEnclosedAt sizes of) c.loop-place.enclosed.items _ _ c.enclosed_of.result c.loop-place.invariant.told
          (enclosed_at sizes of (cell_of c.next_cell-cell.result) _ _ c.next_cell-cell.ensures.within c.next_cell-cell.ensures.place
          (c.enclosed_of.ensures ∙ ap (λ node. enclosed_of (of node)) c.node_of.ensures))
          c.push_reserved.ensures.items;
      before = λ _. (c.next_cell-cell.ensures.within, omega (arith, c.next_cell-cell.ensures.place));
      capacity = omega (arith, c.loop-place.invariant.capacity, c.push_reserved.ensures.capacity);
    }

pub returns : goal.returns
returns c =
    let sizes = numbers_of c.args.sizes in
    let all : c.loop-place.place ≡ box_count sizes = omega arith ∙ c.count-count.ensures in
    record {
      listed = c.loop-place.invariant.told.count ∙ all;
      each = λ n within. c.loop-place.invariant.told.each (box_place sizes n) None (subst (λ m. box_place sizes n < m) (sym all) (cell_there sizes n within)) n within refl;
    }
