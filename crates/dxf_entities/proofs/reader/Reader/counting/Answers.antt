-- What doesn't count tells nothing of the open entry.
use Rattle.std.proofs.Common.{rules, sym, ap}
use Rattle.dxf_entities.specs.declared.counting.Counting.TheVariants as counting
use Rattle.dxf_entities.specs.Resuming.{progress_of, resumed}
use Rattle.dxf_entities.proofs.Counted.{entity_tells, inside_tells, layer_tells, passed_tells, uncounted, unread_tells}
use Rattle.dxf_entities.proofs.Resumes.{all_counted, counted_on}
use Rattle.dxf_entities.proofs.reader.Reader.counting.Goals as goal

pub returns-in_default : goal.returns-in_default
returns-in_default c = λ ps ending. ap (λ qs. resumed qs ending c.args.self.now) (sym (all_counted ps))

pub returns-in_default-entry : goal.returns-in_default-entry
returns-in_default-entry c =
    let r = c.args.self.now in
    counted_on counting.Application r
    (λ p no. inside_tells p r.entry r.in_application (progress_of r) c.if-self.true (uncounted counting.Application p no).1)
    c.in-Inside.field-0 c.in-Inside.is

pub returns-in-Layer : goal.returns-in-Layer
returns-in-Layer c =
    let r = c.args.self.now in
    counted_on counting.Nothing r
    (λ p no. unread_tells p r.entry c.in-Layer.facts r.in_application (progress_of r) c.in-Layer.is
    (c.is_unread.ensures (search rules))) c.in-Inside.field-0 c.in-Inside.is

pub returns-in-Layer-2 : goal.returns-in-Layer-2
returns-in-Layer-2 c =
    let r = c.args.self.now in
    counted_on counting.Layer r
    (λ p no. layer_tells p r.entry c.in-Layer-2.field-0 r.in_application (progress_of r) c.in-Layer-2.is c.if-self.false
    (uncounted counting.Layer p no).1) c.in-Inside.field-0 c.in-Inside.is

pub returns-in-Entity : goal.returns-in-Entity
returns-in-Entity c =
    let r = c.args.self.now in
    counted_on counting.Entity r
    (λ p no. entity_tells p r.entry c.in-Entity.field-0 r.in_application (progress_of r) c.in-Entity.is c.if-self.false
    (uncounted counting.Entity p no).1) c.in-Inside.field-0 c.in-Inside.is

pub returns-in-Passed : goal.returns-in-Passed
returns-in-Passed c =
    let r = c.args.self.now in
    counted_on counting.Nothing r
    (λ p no. passed_tells p r.entry r.in_application (progress_of r) c.in-Passed.is) c.in-Inside.field-0 c.in-Inside.is
