-- The enclosed components are those of the components.
use Rattle.std.proofs.Common.{IsTrue, subst, sym, arith}
use Rattle.solid_model.specs.PerAxis.{numbers_of, AreFew}
use Rattle.solid_model.specs.WalledBoxes.{Sizes, AreEnclosed}
use Rattle.solid_model.proofs.BoxPlaces.{cells_small}
use Rattle.flood.specs.Graph.{component}
use Rattle.flood.specs.Passages.{parts_of}
use Rattle.flood.specs.Ring.{ringed, AreEnclosedNumbers}
use Rattle.flood.proofs.PassageComponents.{components_enclosed}
use Rattle.flood.proofs.enclosed.enclosed_components.Goals as goal

pub components-requires-clause-few : goal.components-requires-clause-few
components-requires-clause-few g c =
    let few : AreFew (ringed (g.W.Walls.sizes c.args.walls.now)) = subst (λ (s : Sizes). AreFew (ringed s)) c.sizes-sizes.ensures.sizes (λ a. omega (arith, c.sizes-sizes.ensures.few a)) in
    let small = cells_small (ringed (g.W.Walls.sizes c.args.walls.now)) few in
    omega (arith, c.in_ok-passages.ensures.count)

pub returns : goal.returns
returns g c =
    let sizes = g.W.Walls.sizes c.args.walls.now in
    let enclosed = c.in_ok-enclosed_numbers.field-0.items in
    let told : AreEnclosedNumbers sizes (component c.in_ok-found.found.numbers.items) enclosed =
    subst (λ s. AreEnclosedNumbers s (component c.in_ok-found.found.numbers.items) enclosed) c.sizes-sizes.ensures.sizes
    (subst (λ numbers. AreEnclosedNumbers (numbers_of c.sizes-sizes.result) (component numbers) enclosed) c.as_slice.ensures.value c.in_ok-enclosed_numbers.ensures) in
    subst (λ count. AreEnclosed sizes (λ a n. IsTrue (g.W.Walls.stands c.args.walls.now a n)) enclosed count) (sym c.saturating_sub.ensures)
    (components_enclosed sizes (g.W.Walls.stands c.args.walls.now) (parts_of c.in_ok-passages.field-0) c.in_ok-passages.ensures
    c.in_ok-found.found.numbers.items c.in_ok-found.found.count c.in_ok-found.ensures enclosed told)
