-- What any other pair does, place by place.
use Rattle.std.proofs.Common.{Err, rules, sym, ap, ◌∙◌}
use Rattle.dxf_groups.specs.Pairs.{text_pair}
use Rattle.dxf_entities.specs.declared.open.Open.TheVariants.{Passed}
use Rattle.dxf_entities.specs.declared.place.Place.TheVariants.{Inside}
use Rattle.dxf_entities.specs.Resuming.{resumed}
use Rattle.dxf_entities.proofs.Resumes.{pair_outside, pair_unnamed, section_named, pair_inside, refused_is}
use Rattle.dxf_entities.proofs.reader.Reader.take.Goals as goal
use Rattle.dxf_entities.proofs.reader.Reader.take.Goals.{in_default-via-in-Unnamed+else-has_code-2, in_default-via-in_default}

pub returns-in-Unnamed-clause-taken : goal.returns-in-Unnamed-clause-taken
returns-in-Unnamed-clause-taken c = λ ps ending.
    let p = text_pair c.args.pair.now c.args.value.now in
    let other = sym c.has_code.ensures ∙ c.if-has_code.false in
    section_named p c.args.self.now other c.in-Unnamed.is (search rules) ps ending
    ∙ ap (λ section. resumed ps ending (record c.args.self.now {
      place =
          Inside section;
      entry = Passed;
    }))
    (sym c.section_of.ensures)

pub returns-in_ok-take_fact-in-Inside-clause-taken : goal.returns-in_ok-take_fact-in-Inside-clause-taken
returns-in_ok-take_fact-in-Inside-clause-taken c = λ ps ending.
    let p = text_pair c.args.pair.now c.args.value.now in
    let other = sym c.has_code.ensures ∙ c.if-has_code.false in
    pair_inside p c.args.self.now other c.in-Inside.field-0 c.in-Inside.is ps ending
    ∙ ap (resumed ps ending) (sym c.in_ok-take_fact-in-Inside.ensures)

pub returns-in_default-clause-fault : goal.returns-in_default-clause-fault
returns-in_default-clause-fault c = λ f is ps ending.
    let p = text_pair c.args.pair.now c.args.value.now in
    let other = sym c.has_code.ensures ∙ c.if-has_code.false in
    elim c.in_default.branch [
      | in_default-via-in-Unnamed+else-has_code-2 w ↦
          pair_unnamed p c.args.self.now other w.in-Unnamed.is (search rules) ps ending
          ∙ ap Err (refused_is _ f is)
      | in_default-via-in_default w ↦
          pair_outside p c.args.self.now other w.in_default.is ps ending
          ∙ ap Err (refused_is _ f is)
    ]
