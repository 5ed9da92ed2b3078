-- What a pair that begins an entry does, place by place.
use Rattle.std.proofs.Common.{Err, sym, ap, ◌∙◌}
use Rattle.std.proofs.lemmas.Result.{err_from_is_err_and}
use Rattle.dxf_groups.specs.Pairs.{text_pair}
use Rattle.dxf_entities.specs.Resuming.{resumed}
use Rattle.dxf_entities.proofs.Resumes.{section_begins, nothing_begins, unnamed_ends, entry_faulty, section_in_section, section_ends, entry_begins, refused_is}
use Rattle.dxf_entities.proofs.reader.Reader.take_entry.Goals as goal

pub returns-in_err-close-in-Inside-clause-fault : goal.returns-in_err-close-in-Inside-clause-fault
returns-in_err-close-in-Inside-clause-fault c = λ f is.
    let q = err_from_is_err_and c.from_residual.result c.from_residual.ensures.1 in
    entry_faulty (text_pair c.args.pair.now c.args.value.now) c.requires c.args.self.now
    c.in-Inside.section f c.in-Inside.is (c.in_err-close-in-Inside.ensures.fault f cc)

pub returns-then-is_name-2-clause-fault : goal.returns-then-is_name-2-clause-fault
returns-then-is_name-2-clause-fault c = λ f is ps ending.
    section_in_section (text_pair c.args.pair.now c.args.value.now) c.requires c.args.self.now
    c.close.new.self
    c.in-Inside.section c.in-Inside.is (c.close.ensures.place ∙ c.in-Inside.is)
    c.in_ok-close-in-Inside.ensures.closed (sym c.is_name-in-Inside.ensures ∙ c.if-is_name-2.true)
    ps ending
    ∙ ap Err (refused_is _ f is)

pub returns-in-Outside-clause-taken : goal.returns-in-Outside-clause-taken
returns-in-Outside-clause-taken c =
    section_begins (text_pair c.args.pair.now c.args.value.now) c.requires c.args.self.now
    c.in-Outside.is
    (sym c.is_name.ensures ∙ c.if-is_name.true)

pub returns-then-is_name-3-clause-taken : goal.returns-then-is_name-3-clause-taken
returns-then-is_name-3-clause-taken c =
    section_ends (text_pair c.args.pair.now c.args.value.now) c.requires c.args.self.now
    c.close.new.self
    c.in-Inside.section c.in-Inside.is (c.close.ensures.place ∙ c.in-Inside.is)
    c.in_ok-close-in-Inside.ensures.closed (sym c.is_name-in-Inside.ensures ∙ c.if-is_name-2.false)
    (sym c.is_name-in-Inside-2.ensures ∙ c.if-is_name-3.true)

pub returns-else-is_name-3-clause-taken : goal.returns-else-is_name-3-clause-taken
returns-else-is_name-3-clause-taken c = λ ps ending.
    entry_begins (text_pair c.args.pair.now c.args.value.now) c.requires c.args.self.now
    c.close.new.self
    c.in-Inside.section c.in-Inside.is (c.close.ensures.place ∙ c.in-Inside.is)
    c.in_ok-close-in-Inside.ensures.closed (sym c.is_name-in-Inside.ensures ∙ c.if-is_name-2.false)
    (sym c.is_name-in-Inside-2.ensures ∙ c.if-is_name-3.false) ps ending
    ∙ ap (resumed ps ending) (sym c.open.ensures)

pub returns-in_default-clause-fault : goal.returns-in_default-clause-fault
returns-in_default-clause-fault c = λ f is ps ending.
    nothing_begins (text_pair c.args.pair.now c.args.value.now) c.requires c.args.self.now
    c.in-Outside.is
    (sym c.is_name.ensures ∙ c.if-is_name.false) ps ending
    ∙ ap Err (refused_is _ f is)

pub returns-in_default-2-clause-fault : goal.returns-in_default-2-clause-fault
returns-in_default-2-clause-fault c = λ f is ps ending.
    unnamed_ends (text_pair c.args.pair.now c.args.value.now) c.requires c.args.self.now
    c.in_default.is
    ps ending ∙ ap Err (refused_is _ f is)
