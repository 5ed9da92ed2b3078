-- Either kind.
use Rattle.std.proofs.Common.{◌↔◌, Bool, IsTrue, sym, subst}
use Rattle.solid_model.specs.PerAxis.{numbers_of}
use Rattle.section_laws.specs.Shaded.{IsLeftCell}
use Rattle.section_laws.proofs.cut_cells.is_kept.Goals as goal

pub returns-then-area : goal.returns-then-area
returns-then-area c = subst (λ (area : Bool). IsTrue c.is_in_slab.result ↔ IsLeftCell area c.args.away (numbers_of c.args.sizes) c.args.gap c.args.cells.now (numbers_of c.args.cell))
    (sym c.if-area.true) c.is_in_slab.ensures

pub returns-else-area : goal.returns-else-area
returns-else-area c = subst (λ (area : Bool). IsTrue c.is_shaded.result ↔ IsLeftCell area c.args.away (numbers_of c.args.sizes) c.args.gap c.args.cells.now (numbers_of c.args.cell))
    (sym c.if-area.false) c.is_shaded.ensures
