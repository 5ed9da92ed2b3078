-- The block is free again, and the lines that it broke are mended.
use Rattle.std.proofs.Common.{◌≡◌, ◌++◌, ◌∷◌, [], None, List, if◌then◌else◌, length, take, drop, get_or, set, vec_capacity, refl, ap, sym, subst, ◌∙◌, arith}
use Rattle.std.proofs.lemmas.List.{take_at, length_push}
use Rattle.solid_model.specs.declared.decision.Decision.{Decision}
use Rattle.solid_model.specs.Decisions.{AreDecisions}
use Rattle.line_demands.specs.Free.{AreDoubts}
use Rattle.line_demands.specs.KeptColumns.{IsKeptBy, AreValues}
use Rattle.line_demands.specs.Lines.{AreMarked}
use Rattle.line_demands.specs.Spans.{is_on, known_there}
use Rattle.line_demands.proofs.Deciding.{last_untaken, values_less}
use Rattle.line_demands.proofs.ToldDoubts.{doubts_popped}
use Rattle.line_demands.proofs.KeptState.{kept_less, seen_as}
use Rattle.line_demands.proofs.partial.Partial.undo.Goals as goal

pub invariant_of-self : goal.invariant_of-self
invariant_of-self c =
    let self = c.self.inside in
    let p = self.problem.now in
    let last = c.in-Some.last in
    let height = c.in-Some-pop.height in
    let columns = c.set_spans.new.columns in
    let met = c.mend_lines.new.met in
    let was : c.as_mut_slice.result.now ≡ self.columns.items = c.as_mut_slice.ensures.value in
    let long : length columns ≡ length self.columns.items = c.set_spans.auto.columns ∙ ap length was in
    let of_block : c.as_slice.result.now ≡ get_or self.spans.items last.block c.index.result.now = c.as_slice.ensures ∙ c.index.ensures ∙ ap (λ b. get_or self.spans.items b c.index.result.now) c.from.ensures in
    let met_was : c.as_mut_slice-in-Some-pop.result.now ≡ self.met.items = c.as_mut_slice-in-Some-pop.ensures.value in
    let met_long : length met ≡ length self.met.items = c.mend_lines.auto.met ∙ ap length met_was in
    let all_columns : take self.columns.len (columns ++ drop (length columns) self.columns.items) ≡ columns = take_at columns _ self.columns.len (long ∙ sym (ap length was) ∙ c.as_mut_slice.ensures.len) in
    let all_met : take self.met.len (met ++ drop (length met) self.met.items) ≡ met = take_at met _ self.met.len (met_long ∙ sym (ap length met_was) ∙ c.as_mut_slice-in-Some-pop.ensures.len) in
    let kept = kept_less p c.self.invariant.4 self.spans.items self.touched.items self.sides.items c.pop.new.self.items last self.columns.items columns self.met.items met
    c.pop-in-Some-2.new.self.items height self.broken.items (vec_capacity self.decisions) (vec_capacity self.heights) (vec_capacity self.broken) c.index.result.now
    (subst (λ (ds : List Decision). IsKeptBy p ds self.spans.items self.touched.items self.sides.items self.columns.items self.met.items (c.pop-in-Some-2.new.self.items ++ height ∷ []) self.broken.items (vec_capacity self.decisions) (vec_capacity self.heights) (vec_capacity self.broken)) c.in-Some.ensures.items
    (subst (λ hs. IsKeptBy p self.decisions.items self.spans.items self.touched.items self.sides.items self.columns.items self.met.items hs self.broken.items (vec_capacity self.decisions) (vec_capacity self.heights) (vec_capacity self.broken)) c.in-Some-pop.ensures.items
    c.self.invariant.0))
    long c.set_spans.ensures.within
    (λ n k. c.set_spans.ensures.known n k ∙ (λ t. if is_on (of_block t) n k then None else known_there (was t) n k))
    met_long (subst (AreMarked met) c.mend_lines.ensures.broken c.mend_lines.ensures.marked) in
    let taken : AreDecisions p.blocks.count (c.pop.new.self.items ++ last ∷ []) = subst (AreDecisions p.blocks.count) c.in-Some.ensures.items c.self.invariant.0.decided in
    let table : AreValues p.blocks.count c.pop.new.self.items (set self.values.items last.block None) =
    values_less p.blocks.count c.pop.new.self.items last self.values.items (taken c.pop.new.self.items [] last refl).0 (last_untaken p.blocks.count c.pop.new.self.items last taken)
    (subst (λ (ds : List Decision). AreValues p.blocks.count ds self.values.items) c.in-Some.ensures.items c.self.invariant.1) in (
      seen_as p c.self.invariant.4 self.spans.items self.touched.items self.sides.items c.pop.new.self.items columns _ met _ c.pop-in-Some-2.new.self.items (take height self.broken.items) _
          (vec_capacity self.decisions) _ (vec_capacity self.heights) _ (vec_capacity self.broken) _
          all_columns all_met c.mend_lines.ensures.broken c.in-Some.ensures.capacity c.in-Some-pop.ensures.capacity c.mend_lines.ensures.room kept,
      subst (λ n. AreValues p.blocks.count c.pop.new.self.items (set self.values.items n None)) (sym c.from-in-Some.ensures) table,
      subst (λ n. AreDoubts p c.pop.new.self.items c.pop-in-Some.new.self.items n) (sym c.pop-in-Some.ensures.capacity)
          (doubts_popped p c.pop.new.self.items last self.doubts.items c.pop-in-Some.new.self.items c.pop-in-Some.result (vec_capacity self.doubts) c.pop-in-Some.ensures.items
          (c.pop-in-Some.ensures.variant.1 (let e = length_push c.pop.new.self.items last in let f = ap length c.in-Some.ensures.items in omega (arith, e, f, c.self.invariant.2.count, self.doubts.ok.0)))
          (subst (λ (ds : List Decision). AreDoubts p ds self.doubts.items (vec_capacity self.doubts)) c.in-Some.ensures.items c.self.invariant.2)),
      c.self.invariant.3,
      c.self.invariant.4,
    )
