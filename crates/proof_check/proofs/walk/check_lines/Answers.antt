use Rattle.std.proofs.Common.{true, ◌≤◌, ◌+◌, ◌∷◌, [], length, reverse, refl, sym, subst, ◌∙◌, ap, arith}
use Rattle.std.proofs.lemmas.List.{length-append}
use Rattle.solid_model.specs.Decisions.{decided_by}
use Rattle.completeness_logs.specs.Logs.{nothing_known}
use Rattle.dxf_groups.specs.TextLines.{text_lines}
use Rattle.completeness_logs.specs.LogTexts.{most_listed}
use Rattle.completeness_logs.specs.SplitMarks.{AreSplitMarks, all_to_come}
use Rattle.completeness_logs.proofs.Listed.{listed_count}
use Rattle.proof_check.specs.LogLines.{log_reading}
use Rattle.proof_check.specs.Walks.{LogPlace, LeadsTo}
use Rattle.proof_check.proofs.LineOn.{goes_self, goes_next}
use Rattle.proof_check.proofs.walk.check_lines.Goals as goal

pub loop-open-init : goal.loop-open-init
loop-open-init c =
    let p = c.args.partial.now.problem in
    let r = log_reading in
    let from : LogPlace = record { coming = nothing_known ∷ []; listed = []; number = 2; lines = text_lines c.args.log.now } in
    record {
      problem = refl;
      marks = subst (λ ms. AreSplitMarks c.args.partial.now.decisions (reverse ms)) (sym c.new-marks.ensures.items) tt;
      few = subst (λ xs. length xs ≤ most_listed) (sym c.new-listed.ensures.items) (omega arith);
      some = omega arith;
      short = omega arith;
      goes = subst (λ ms. LeadsTo p r from (record { coming = all_to_come true c.args.partial.now.decisions (reverse ms); listed = c.new-listed.result.items; number = 2; lines = text_lines c.args.log.now })) (sym c.new-marks.ensures.items)
          (subst (λ xs. LeadsTo p r from (record { coming = all_to_come true c.args.partial.now.decisions []; listed = xs; number = 2; lines = text_lines c.args.log.now })) (sym c.new-listed.ensures.items)
          (subst (λ ds. LeadsTo p r from (record { coming = all_to_come true ds []; listed = []; number = 2; lines = text_lines c.args.log.now })) (sym c.requires.fresh)
          (goes_self p r from)));
    }

pub loop-open-preserved : goal.loop-open-preserved
loop-open-preserved c =
    let p = c.args.partial.now.problem in
    let q = c.loop-open.partial.problem in
    let r = log_reading in
    let ds = c.loop-open.partial.decisions in
    let from : LogPlace = record { coming = nothing_known ∷ []; listed = []; number = 2; lines = text_lines c.args.log.now } in
    let right = c.in-None-judge.ensures in
    record {
      problem = c.take_entry.ensures.problem ∙ c.loop-open.invariant.problem;
      marks = c.in-Ok.ensures.marks;
      few = (let n = ap length c.in-Ok.ensures.listed ∙ length-append c.loop-open.listed.items _ ∙ ap (λ k. length c.loop-open.listed.items + k) (listed_count q (decided_by ds) c.in-Some.entry) in omega (arith, n, right.1));
      some = omega arith;
      short = (let l = c.first_line.ensures.shorter in let s = c.loop-open.invariant.short in omega (arith, l, s));
      goes = goes_next p r from c.loop-open.open ds (reverse c.loop-open.marks.items) c.loop-open.listed.items c.loop-open.number c.loop-open.rest.now c.loop-open.invariant.goes
          c.loop-open-test.true c.first_line.result.0.now c.first_line.result.1.now c.first_line.ensures.lines q c.loop-open.invariant.problem c.in-Some.entry (sym c.entry_of_line.ensures ∙ c.in-Some.is)
          right.0 (let n = c.len.ensures in let few = right.1 in omega (arith, n, few)) _ c.in-Ok.ensures.coming _ c.in-Ok.ensures.listed _ refl;
    }
