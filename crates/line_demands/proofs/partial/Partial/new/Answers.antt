-- What was gathered is what is kept.
use Rattle.std.proofs.Common.{◌≡◌, ◌≤◌, ◌<◌, ◌++◌, ◌∷◌, [], List, ℕ, None, true, length, replicate, map, take, drop, get_or, vec_capacity, ap, sym, subst, ◌∙◌, arith, rules}
use Rattle.std.specs.Prelude.{All}
use Rattle.std.proofs.lemmas.List.{take_at, length-replicate, get_or-replicate}
use Rattle.line_demands.specs.declared.lines.Beside.{Beside}
use Rattle.line_demands.specs.Gathered.{AreTouchedTo}
use Rattle.line_demands.specs.Free.{AreDoubts}
use Rattle.line_demands.specs.KeptColumns.{AreValues}
use Rattle.line_demands.specs.WholeChoices.{AreDrawnOf}
use Rattle.solid_model.specs.declared.decision.Decision.{Decision}
use Rattle.line_demands.specs.Touching.{lines_touching}
use Rattle.line_demands.specs.Lines.{AreBrokenTo}
use Rattle.line_demands.specs.Spans.{no_column, AreWithin}
use Rattle.line_demands.proofs.Touching.{touched_exact}
use Rattle.line_demands.proofs.ToldDoubts.{no_doubts}
use Rattle.line_demands.proofs.Planned.{planned, planned_as, planned_columns, on_all}
use Rattle.line_demands.proofs.partial.Partial.new.Goals as goal

pub touch_all-requires-clause-on : goal.touch_all-requires-clause-on
touch_all-requires-clause-on c =
    let p = c.args.problem.now in
    let size : c.from-count.result ≡ p.blocks.count = search rules in
    let n : length c.as_mut_slice-2.result.now ≡ p.blocks.count = ap length c.as_mut_slice-2.ensures.value ∙ c.in_ok-touched.ensures.0 ∙ size in
    subst (All (λ bs. All (λ b. b < length c.as_mut_slice-2.result.now) bs)) (sym (c.as_slice.ensures.value ∙ c.in_ok-push-2.ensures.items))
    (on_all p c.known.ensures.blocks c.gather_columns.new.spans c.in_ok-columns.columns.items c.gather_columns.new.on.items (length c.as_mut_slice-2.result.now) c.new.result c.in_ok-columns.ensures n c.new.ensures)

pub break_all-requires-clause-within : goal.break_all-requires-clause-within
break_all-requires-clause-within c =
    let p = c.args.problem.now in
    subst AreWithin (sym (c.as_slice-3.ensures.value ∙ c.in_ok-push.ensures.items))
    (planned_columns p c.known.ensures.blocks c.gather_columns.new.spans c.in_ok-columns.columns.items c.gather_columns.new.on.items c.in_ok-columns.ensures).within

pub invariant_of-result : goal.invariant_of-result
invariant_of-result c =
    let p = c.args.problem.now in
    let columns = c.in_ok-columns.columns.items in
    let on = c.gather_columns.new.on.items in
    let spans = c.gather_columns.new.spans in
    let sides = c.in_ok-sides.sides.items in
    let touched = c.touch_all.new.touched in
    let met = c.break_all.new.met in
    let broken = c.break_all.new.broken.items in
    let size : c.from-count.result ≡ p.blocks.count = search rules in
    let all_on : c.as_slice.result.now ≡ on ++ [] ∷ [] = c.as_slice.ensures.value ∙ c.in_ok-push-2.ensures.items ∙ ap (λ x. on ++ x ∷ []) c.new.ensures in
    let n : length c.as_mut_slice-2.result.now ≡ p.blocks.count = ap length c.as_mut_slice-2.ensures.value ∙ c.in_ok-touched.ensures.0 ∙ size in
    let listed : AreTouchedTo sides (on ++ [] ∷ []) p.blocks.count (length sides) touched =
    subst (λ xs. AreTouchedTo sides xs p.blocks.count (length sides) touched) all_on
    (subst (λ m. AreTouchedTo sides c.as_slice.result.now m (length sides) touched) n
    (subst (λ (bs : List Beside). AreTouchedTo bs c.as_slice.result.now (length c.as_mut_slice-2.result.now) (length bs) touched) c.as_slice-2.ensures.value c.in_ok-touch_all.ensures)) in
    let seen : c.as_slice-3.result.now ≡ columns ++ no_column ∷ [] = c.as_slice-3.ensures.value ∙ c.in_ok-push.ensures.items in
    let lost : AreBrokenTo (columns ++ no_column ∷ []) sides (length sides) broken =
    subst (λ cs. AreBrokenTo cs sides (length sides) broken) seen
    (subst (λ (bs : List Beside). AreBrokenTo c.as_slice-3.result.now bs (length bs) broken) c.as_slice-4.ensures.value c.break_all.ensures.broken) in
    let met_is : c.in_ok-met.met.items ≡ replicate c.len.result true = c.in_ok-met.ensures.items_if_clones_equal (λ y e. e) in
    let met_was : c.as_mut_slice-3.result.now ≡ c.in_ok-met.met.items = c.as_mut_slice-3.ensures.value in
    let met_count : length met ≡ length sides = (let a = c.break_all.auto.met in let b = ap length met_was in let d = ap length met_is ∙ length-replicate c.len.result true in search rules) in
    let all_spans : take c.in_ok-spans.spans.len (spans ++ drop (length spans) c.in_ok-spans.spans.items) ≡ spans = take_at spans _ c.in_ok-spans.spans.len (c.gather_columns.auto.spans ∙ c.as_mut_slice.ensures.len) in
    let all_touched : take c.in_ok-touched.touched.len (touched ++ drop (length touched) c.in_ok-touched.touched.items) ≡ touched = take_at touched _ c.in_ok-touched.touched.len (c.touch_all.auto.touched ∙ c.as_mut_slice-2.ensures.len) in
    let all_met : take c.in_ok-met.met.len (met ++ drop (length met) c.in_ok-met.met.items) ≡ met = take_at met _ c.in_ok-met.met.len (c.break_all.auto.met ∙ c.as_mut_slice-3.ensures.len) in
    let roomy : p.blocks.count ≤ vec_capacity c.in_ok-decisions.decisions = (let a = c.in_ok-decisions.ensures.exact in omega (arith, a, size)) in
    let tall : p.blocks.count ≤ vec_capacity c.in_ok-heights.heights = (let a = c.in_ok-heights.ensures.exact in omega (arith, a, size)) in
    let wide : length met ≤ vec_capacity c.break_all.new.broken = (let a = c.break_all.ensures.room in let b = c.in_ok-broken.ensures.exact in omega (arith, a, b, met_count, c.len-2.ensures, c.in_ok-sides.sides.ok.0)) in
    let exact : (b : ℕ) (ls : List ℕ) (d : Beside) → b < length spans → map (λ i. (get_or sides i d).line) (get_or touched b ls) ≡ lines_touching p b =
    touched_exact p c.known.ensures.blocks spans columns on c.in_ok-columns.ensures sides c.in_ok-sides.ensures.sides touched listed in
    let values_are : c.in_ok-values.values.items ≡ replicate c.from-count.result None = c.in_ok-values.ensures.items_if_clones_equal (λ y e. search rules) in
    let table : AreValues p.blocks.count [] c.in_ok-values.values.items = subst (AreValues p.blocks.count []) (sym values_are)
    (record { count = length-replicate c.from-count.result None ∙ size; each = λ b e l. get_or-replicate c.from-count.result b None e (omega (arith, size, l)) }) in (
      planned_as p c.in_ok-decisions.decisions.items spans _ touched _ sides (columns ++ no_column ∷ []) _ met _ c.in_ok-heights.heights.items broken _ _ _
          c.in_ok-decisions.ensures.items all_spans all_touched c.in_ok-push.ensures.items all_met c.in_ok-heights.ensures.items
          (planned p c.known.ensures.blocks spans columns on touched sides met broken _ _ _ c.in_ok-columns.ensures c.in_ok-sides.ensures.sides c.in_ok-sides.ensures.few listed exact met_count c.break_all.ensures.marked lost roomy tall wide),
      subst (λ (ds : List Decision). AreValues p.blocks.count ds c.in_ok-values.values.items) (sym c.in_ok-decisions.ensures.items) table,
      subst (λ (ds : List Decision). AreDoubts p ds c.in_ok-doubts.doubts.items (vec_capacity c.in_ok-doubts.doubts)) (sym c.in_ok-decisions.ensures.items)
          (subst (λ ms. AreDoubts p [] ms (vec_capacity c.in_ok-doubts.doubts)) (sym c.in_ok-doubts.ensures.items)
          (no_doubts p (vec_capacity c.in_ok-doubts.doubts) (let a = c.in_ok-doubts.ensures.exact in omega (arith, a, size)))),
      subst (λ (ss : List Beside). AreDrawnOf ss c.in_ok-drawn.drawn) c.as_slice-5.ensures.value c.in_ok-drawn.ensures,
      c.known.ensures.blocks,
    )
