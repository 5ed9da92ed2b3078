-- Pair after pair, what is read is what is left to be read.
use Rattle.std.proofs.Common.{◌≡◌, Ok, Err, IsErrOf, length, refl, sym, ap, subst, ◌∙◌, arith}
use Rattle.std.proofs.lemmas.Result.{err_from_is_err_and, IfOk-weaker}
use Rattle.solid_model.specs.declared.fault.Refused.TheVariants as refused
use Rattle.dxf_groups.specs.Groups.{GroupsState, Gives, wanted_on}
use Rattle.dxf_groups.specs.Pairs.{Pairs}
use Rattle.dxf_groups.proofs.WantedPairs.{no_more_left}
use Rattle.dxf_entities.specs.declared.counting.Counting.{Counting}
use Rattle.dxf_entities.specs.Counting.{counts}
use Rattle.dxf_entities.specs.Reading.{text_read, pairs_read}
use Rattle.dxf_entities.specs.Resuming.{resumed}
use Rattle.dxf_entities.proofs.Resumes.{ends_at_fault, pair_read, end_read_at, read_through}
use Rattle.dxf_entities.proofs.reading.layer_lines.Goals as goal

pub loop-reader-init : goal.loop-reader-init
unfolding text_read
loop-reader-init c = record {
  read = ap (pairs_read c.args.form) (sym c.requires) ∙ sym (c.new-reader.ensures c.args.groups.now.left);
  same_text = refl;
  same_ending = ap (λ (ps : Pairs). ps.ending) (sym c.requires);
}

-- what is left but for the pairs that don't count
abbrev counted : Counting → GroupsState → GroupsState
counted c left = record left { left = wanted_on (counts c) left.left }

pub returns-in_err-pair-clause-fault : goal.returns-in_err-pair-clause-fault
returns-in_err-pair-clause-fault c = λ f is.
    let q = err_from_is_err_and c.from_residual.result c.from_residual.ensures.1 in
    let same : c.in_err-pair.field-0.0 ≡ f = cc in
    c.loop-reader.invariant.read
    ∙ (c.counting.ensures c.loop-reader.groups.left.pairs c.loop-reader.groups.left.ending
    ∙ (ap (λ ps. resumed ps.pairs ps.ending c.loop-reader.reader) c.in_err-pair.ensures.0
    ∙ (ends_at_fault c.loop-reader.reader c.in_err-pair.field-0.0 ∙ ap Err same)))

pub loop-reader-smaller : goal.loop-reader-smaller
loop-reader-smaller c =
    let gives =
    subst (λ r. Gives (counted c.counting.result c.loop-reader.groups) r c.next.new.self)
    (c.in_ok-pair.was ∙ ap Ok c.in-Some.is) c.next.ensures in
    let l = ap (λ (ps : Pairs). length ps.pairs) gives.first in
    omega (arith, l, no_more_left (counts c.counting.result) c.loop-reader.groups.left.pairs)

pub loop-reader-preserved : goal.loop-reader-preserved
loop-reader-preserved c =
    let left = counted c.counting.result c.loop-reader.groups in
    let gives = subst (λ r. Gives left r c.next.new.self) (c.in_ok-pair.was ∙ ap Ok c.in-Some.is) c.next.ensures in
    record {
      read =
          c.loop-reader.invariant.read
          ∙ (c.counting.ensures c.loop-reader.groups.left.pairs c.loop-reader.groups.left.ending
          ∙ (pair_read left c.next.new.self c.loop-reader.reader c.in-Some.pair c.value_of.result.now
          gives c.value_of.ensures
          ∙ c.in_ok-take.ensures.taken c.next.new.self.left.pairs c.next.new.self.left.ending));
      same_text = gives.same_text ∙ c.loop-reader.invariant.same_text;
      same_ending = c.loop-reader.invariant.same_ending ∙ ap (λ (ps : Pairs). ps.ending) gives.first;
    }

pub returns-in_err-take-clause-fault : goal.returns-in_err-take-clause-fault
returns-in_err-take-clause-fault c = λ f is.
    let q =
    err_from_is_err_and c.from_residual-in_err-take.result c.from_residual-in_err-take.ensures.1 in
    let faulty : IsErrOf {T = Unit {0}} (Err c.in_err-take.field-0.0) (refused.Fault f) = cc in
    let left = counted c.counting.result c.loop-reader.groups in
    let gives = subst (λ r. Gives left r c.next.new.self) (c.in_ok-pair.was ∙ ap Ok c.in-Some.is) c.next.ensures in
    c.loop-reader.invariant.read
    ∙ (c.counting.ensures c.loop-reader.groups.left.pairs c.loop-reader.groups.left.ending
    ∙ (pair_read left c.next.new.self c.loop-reader.reader c.in-Some.pair c.value_of.result.now
    gives c.value_of.ensures
    ∙ c.in_err-take.ensures.fault f faulty c.next.new.self.left.pairs c.next.new.self.left.ending))

pub returns-clause-lines : goal.returns-clause-lines
returns-clause-lines c =
    let left = counted c.counting.result c.loop-reader.groups in
    let gives = subst (λ r. Gives left r c.next.new.self) (c.in_ok-pair.was ∙ ap Ok c.in_default.is) c.next.ensures in
    let all = c.loop-reader.invariant.read
    ∙ (c.counting.ensures c.loop-reader.groups.left.pairs c.loop-reader.groups.left.ending
    ∙ end_read_at left c.next.new.self c.unwrap-end.result c.loop-reader.reader gives
    (sym c.end_line.ensures ∙ c.unwrap-end.ensures)) in
    IfOk-weaker c.finish.result _ _ (λ lines read. all ∙ read) c.finish.ensures.read

pub returns-clause-through : goal.returns-clause-through
returns-clause-through c =
    let left = counted c.counting.result c.loop-reader.groups in
    let gives = subst (λ r. Gives left r c.next.new.self) (c.in_ok-pair.was ∙ ap Ok c.in_default.is) c.next.ensures in
    let before = c.loop-reader.invariant in
    IfOk-weaker c.finish.result _ _
    (λ lines read. read_through _ left c.next.new.self before.same_text before.same_ending gives)
    c.finish.ensures.read

pub returns-clause-fault : goal.returns-clause-fault
returns-clause-fault c = λ f is.
    let left = counted c.counting.result c.loop-reader.groups in
    let gives = subst (λ r. Gives left r c.next.new.self) (c.in_ok-pair.was ∙ ap Ok c.in_default.is) c.next.ensures in
    c.loop-reader.invariant.read
    ∙ (c.counting.ensures c.loop-reader.groups.left.pairs c.loop-reader.groups.left.ending
    ∙ (end_read_at left c.next.new.self c.unwrap-end.result c.loop-reader.reader gives
    (sym c.end_line.ensures ∙ c.unwrap-end.ensures)
    ∙ c.finish.ensures.fault f is))
