-- The columns of the block are set, and the lines that touch it are tried.
use Rattle.std.proofs.Common.{◌≡◌, ◌<◌, ◌≤◌, ◌+◌, ◌++◌, ◌∷◌, [], Some, None, List, if◌then◌else◌, length, take, drop, get_or, set, vec_capacity, ap, sym, subst, ◌∙◌, refl, arith}
use Rattle.std.proofs.lemmas.List.{take_at}
use Rattle.solid_model.specs.declared.decision.Decision.{Decision}
use Rattle.solid_model.specs.Decisions.{decided_by, PartialParts}
use Rattle.line_demands.specs.KeptColumns.{IsKeptBy, AreValues}
use Rattle.line_demands.specs.Free.{LeaveFreeBut, AreDoubts}
use Rattle.line_demands.specs.Lines.{AreTried, AreFreeAmong, AreBeside}
use Rattle.line_demands.specs.Spans.{is_on, known_there, AreWithin}
use Rattle.line_demands.proofs.ToldDoubts.{doubts_more}
use Rattle.line_demands.proofs.Deciding.{room_for_one, values_more}
use Rattle.line_demands.specs.Touching.{touching}
use Rattle.line_demands.proofs.KeptState.{kept_more, seen_as, sides_inside, touched_count, free_told}
use Rattle.line_demands.proofs.partial.Partial.decide_counted.Goals as goal

pub push_reserved-requires : goal.push_reserved-requires
push_reserved-requires g c =
    let self = c.self.inside in
    let d : Decision = record { block = c.args.block; full = c.args.full } in
    let there : d.block < self.problem.now.blocks.count = subst (λ (v : PartialParts). d.block < v.problem.blocks.count) (sym c.self.view_is) c.requires.there in
    let untaken : decided_by self.decisions.items d.block ≡ None = ap (λ (v : PartialParts). decided_by v.decisions d.block) c.self.view_is ∙ c.requires.open in
    let room = room_for_one self.problem.now.blocks.count (vec_capacity self.heights) self.decisions.items d c.self.invariant.0.decided there untaken c.self.invariant.0.roomy_heights in
    omega (arith, room, self.heights.ok.0, c.self.invariant.0.state.trail.count)

pub push_reserved-requires-2 : goal.push_reserved-requires-2
push_reserved-requires-2 g c =
    let self = c.self.inside in
    let d : Decision = record { block = c.args.block; full = c.args.full } in
    let there : d.block < self.problem.now.blocks.count = subst (λ (v : PartialParts). d.block < v.problem.blocks.count) (sym c.self.view_is) c.requires.there in
    let untaken : decided_by self.decisions.items d.block ≡ None = ap (λ (v : PartialParts). decided_by v.decisions d.block) c.self.view_is ∙ c.requires.open in
    let room = room_for_one self.problem.now.blocks.count (vec_capacity self.decisions) self.decisions.items d c.self.invariant.0.decided there untaken c.self.invariant.0.roomy in
    omega (arith, room, self.decisions.ok.0)

pub push_reserved-requires-3 : goal.push_reserved-requires-3
push_reserved-requires-3 g c =
    let self = c.self.inside in
    let d : Decision = record { block = c.args.block; full = c.args.full } in
    let there : d.block < self.problem.now.blocks.count = subst (λ (v : PartialParts). d.block < v.problem.blocks.count) (sym c.self.view_is) c.requires.there in
    let untaken : decided_by self.decisions.items d.block ≡ None = ap (λ (v : PartialParts). decided_by v.decisions d.block) c.self.view_is ∙ c.requires.open in
    let room = room_for_one self.problem.now.blocks.count (vec_capacity self.doubts) self.decisions.items d c.self.invariant.0.decided there untaken c.self.invariant.2.roomy in
    omega (arith, room, self.doubts.ok.0, c.self.invariant.2.count)

pub try_lines-doubts-requires-clause-within : goal.try_lines-doubts-requires-clause-within
try_lines-doubts-requires-clause-within g c =
    let self = c.self.inside in
    let columns = c.set_spans.new.columns in
    let seen : c.as_slice-2.result.now ≡ columns = c.as_slice-2.ensures.value ∙ take_at columns _ self.columns.len (c.set_spans.auto.columns ∙ c.as_mut_slice.ensures.len) in
    subst AreWithin (sym seen) c.set_spans.ensures.within

pub try_lines-doubts-requires-clause-sides : goal.try_lines-doubts-requires-clause-sides
try_lines-doubts-requires-clause-sides g c =
    let self = c.self.inside in
    let columns = c.set_spans.new.columns in
    let seen : c.as_slice-2.result.now ≡ columns = c.as_slice-2.ensures.value ∙ take_at columns _ self.columns.len (c.set_spans.auto.columns ∙ c.as_mut_slice.ensures.len) in
    subst (AreBeside (length c.as_slice-2.result.now)) (sym c.as_slice-3.ensures.value)
    (sides_inside self.problem.now c.self.invariant.4 self.spans.items self.touched.items self.sides.items self.decisions.items self.columns.items c.as_slice-2.result.now self.met.items self.heights.items self.broken.items
    _ _ _ c.self.invariant.0 (ap length seen ∙ c.set_spans.auto.columns ∙ ap length c.as_mut_slice.ensures.value))

-- what is kept with the decision
kept_now : (g : _) (c : goal.After-push_reserved-3 g) → IsKeptBy c.self.inside.problem.now c.push_reserved-2.new.self.items c.self.inside.spans.items c.self.inside.touched.items c.self.inside.sides.items c.set_spans.new.columns c.try_lines-doubts.new.met
    c.push_reserved.new.self.items c.try_lines-doubts.new.broken.items (vec_capacity c.self.inside.decisions) (vec_capacity c.self.inside.heights) (vec_capacity c.self.inside.broken)
kept_now g c =
    let self = c.self.inside in
    let p = self.problem.now in
    let d : Decision = record { block = c.args.block; full = c.args.full } in
    let there : d.block < p.blocks.count = subst (λ (v : PartialParts). d.block < v.problem.blocks.count) (sym c.self.view_is) c.requires.there in
    let untaken : decided_by self.decisions.items d.block ≡ None = ap (λ (v : PartialParts). decided_by v.decisions d.block) c.self.view_is ∙ c.requires.open in
    let columns = c.set_spans.new.columns in
    let met = c.try_lines-doubts.new.met in
    let broken = c.try_lines-doubts.new.broken.items in
    let was : c.as_mut_slice.result.now ≡ self.columns.items = c.as_mut_slice.ensures.value in
    let long : length columns ≡ length self.columns.items = c.set_spans.auto.columns ∙ ap length was in
    let of_block : c.as_slice.result.now ≡ get_or self.spans.items d.block c.index.result.now = c.as_slice.ensures ∙ c.index.ensures ∙ ap (λ b. get_or self.spans.items b c.index.result.now) c.from-number.ensures in
    let met_was : c.as_mut_slice-2.result.now ≡ self.met.items = c.as_mut_slice-2.ensures.value in
    let met_long : length met ≡ length self.met.items = c.try_lines-doubts.auto.met ∙ ap length met_was in
    let all_columns : take self.columns.len (columns ++ drop (length columns) self.columns.items) ≡ columns = take_at columns _ self.columns.len (long ∙ sym (ap length was) ∙ c.as_mut_slice.ensures.len) in
    let seen : c.as_slice-2.result.now ≡ columns = c.as_slice-2.ensures.value ∙ all_columns in
    let of_lines : c.as_slice-4.result.now ≡ get_or self.touched.items d.block c.index-2.result.now = c.as_slice-4.ensures ∙ c.index-2.ensures ∙ ap (λ b. get_or self.touched.items b c.index-2.result.now) c.from-number.ensures in
    let tried : AreTried columns self.sides.items (get_or self.touched.items d.block c.index-2.result.now) self.broken.items broken =
    subst (λ cs. AreTried cs self.sides.items (get_or self.touched.items d.block c.index-2.result.now) self.broken.items broken) seen
    (subst (λ bs. AreTried c.as_slice-2.result.now bs (get_or self.touched.items d.block c.index-2.result.now) self.broken.items broken) c.as_slice-3.ensures.value
    (subst (λ ls. AreTried c.as_slice-2.result.now c.as_slice-3.result.now ls self.broken.items broken) of_lines c.try_lines-doubts.ensures.tried)) in
    let kept = kept_more p c.self.invariant.4 self.spans.items self.touched.items self.sides.items self.decisions.items d self.columns.items columns self.met.items met
    self.heights.items self.broken.items broken (vec_capacity self.decisions) (vec_capacity self.heights) (vec_capacity self.broken) c.index.result.now c.index-2.result.now
    c.self.invariant.0 there untaken long c.set_spans.ensures.within
    (λ n k. c.set_spans.ensures.known n k ∙ (λ t. if is_on (of_block t) n k then Some c.args.full else known_there (was t) n k))
    met_long c.try_lines-doubts.ensures.marked tried in
    let height : c.len.result ≡ length self.broken.items = c.len.ensures ∙ self.broken.ok.0 in
    let counted : self.heights.items ++ length self.broken.items ∷ [] ≡ c.push_reserved.new.self.items = ap (λ n. self.heights.items ++ n ∷ []) (sym height) ∙ sym c.push_reserved.ensures.items in
    let more : self.decisions.items ++ d ∷ [] ≡ c.push_reserved-2.new.self.items = sym c.push_reserved-2.ensures.items in
    let high : IsKeptBy p (self.decisions.items ++ d ∷ []) self.spans.items self.touched.items self.sides.items columns met c.push_reserved.new.self.items broken (vec_capacity self.decisions) (vec_capacity self.heights) (vec_capacity self.broken) =
    subst (λ hs. IsKeptBy p (self.decisions.items ++ d ∷ []) self.spans.items self.touched.items self.sides.items columns met hs broken (vec_capacity self.decisions) (vec_capacity self.heights) (vec_capacity self.broken)) counted kept in
    subst (λ (ds : List Decision). IsKeptBy p ds self.spans.items self.touched.items self.sides.items columns met c.push_reserved.new.self.items broken (vec_capacity self.decisions) (vec_capacity self.heights) (vec_capacity self.broken)) more high

-- what is told of the lines that touch the block
told_now : (g : _) (c : goal.After-push_reserved-3 g) → LeaveFreeBut c.self.inside.problem.now (decided_by c.push_reserved-2.new.self.items) c.args.block c.try_lines-doubts.result
told_now g c =
    let self = c.self.inside in
    let p = self.problem.now in
    let columns = c.set_spans.new.columns in
    let broken = c.try_lines-doubts.new.broken.items in
    let doubts = c.try_lines-doubts.result in
    let lines = get_or self.touched.items c.args.block c.index-2.result.now in
    let there : c.args.block < p.blocks.count = subst (λ (v : PartialParts). c.args.block < v.problem.blocks.count) (sym c.self.view_is) c.requires.there in
    let seen : c.as_slice-2.result.now ≡ columns = c.as_slice-2.ensures.value ∙ take_at columns _ self.columns.len (c.set_spans.auto.columns ∙ c.as_mut_slice.ensures.len) in
    let of_lines : c.as_slice-4.result.now ≡ lines = c.as_slice-4.ensures ∙ c.index-2.ensures ∙ ap (λ b. get_or self.touched.items b c.index-2.result.now) c.from-number.ensures in
    let free : AreFreeAmong columns self.sides.items lines (length lines) broken doubts =
    subst (λ cs. AreFreeAmong cs self.sides.items lines (length lines) broken doubts) seen
    (subst (λ bs. AreFreeAmong c.as_slice-2.result.now bs lines (length lines) broken doubts) c.as_slice-3.ensures.value
    (subst (λ ls. AreFreeAmong c.as_slice-2.result.now c.as_slice-3.result.now ls (length ls) broken doubts) of_lines c.try_lines-doubts.ensures.free)) in
    free_told p c.self.invariant.4 self.spans.items self.touched.items self.sides.items c.push_reserved-2.new.self.items columns c.try_lines-doubts.new.met c.push_reserved.new.self.items broken _ _ _ (kept_now g c)
    c.args.block c.index-2.result.now doubts there free

pub invariant_of-self : goal.invariant_of-self
invariant_of-self g c =
    let self = c.self.inside in
    let p = self.problem.now in
    let d : Decision = record { block = c.args.block; full = c.args.full } in
    let there : d.block < p.blocks.count = subst (λ (v : PartialParts). d.block < v.problem.blocks.count) (sym c.self.view_is) c.requires.there in
    let untaken : decided_by self.decisions.items d.block ≡ None = ap (λ (v : PartialParts). decided_by v.decisions d.block) c.self.view_is ∙ c.requires.open in
    let columns = c.set_spans.new.columns in
    let met = c.try_lines-doubts.new.met in
    let broken = c.try_lines-doubts.new.broken.items in
    let was : c.as_mut_slice.result.now ≡ self.columns.items = c.as_mut_slice.ensures.value in
    let long : length columns ≡ length self.columns.items = c.set_spans.auto.columns ∙ ap length was in
    let met_was : c.as_mut_slice-2.result.now ≡ self.met.items = c.as_mut_slice-2.ensures.value in
    let met_long : length met ≡ length self.met.items = c.try_lines-doubts.auto.met ∙ ap length met_was in
    let all_columns : take self.columns.len (columns ++ drop (length columns) self.columns.items) ≡ columns = take_at columns _ self.columns.len (long ∙ sym (ap length was) ∙ c.as_mut_slice.ensures.len) in
    let all_met : take self.met.len (met ++ drop (length met) self.met.items) ≡ met = take_at met _ self.met.len (met_long ∙ sym (ap length met_was) ∙ c.as_mut_slice-2.ensures.len) in
    let more : self.decisions.items ++ d ∷ [] ≡ c.push_reserved-2.new.self.items = sym c.push_reserved-2.ensures.items in
    let table : AreValues p.blocks.count (self.decisions.items ++ d ∷ []) (set self.values.items d.block (Some d.full)) = values_more p.blocks.count self.decisions.items d self.values.items there untaken c.self.invariant.1 in (
      seen_as p c.self.invariant.4 self.spans.items self.touched.items self.sides.items c.push_reserved-2.new.self.items columns _ met _ c.push_reserved.new.self.items broken _
          (vec_capacity self.decisions) _ (vec_capacity self.heights) _ (vec_capacity self.broken) _
          all_columns all_met refl c.push_reserved-2.ensures.capacity c.push_reserved.ensures.capacity c.try_lines-doubts.ensures.room (kept_now g c),
      subst (λ (ds : List Decision). AreValues p.blocks.count ds (set self.values.items c.from-number.result (Some c.args.full))) more
          (subst (λ n. AreValues p.blocks.count (self.decisions.items ++ d ∷ []) (set self.values.items n (Some c.args.full))) (sym c.from-number.ensures) table),
      subst (λ n. AreDoubts p c.push_reserved-2.new.self.items c.push_reserved-3.new.self.items n) (sym c.push_reserved-3.ensures.capacity)
          (subst (λ ms. AreDoubts p c.push_reserved-2.new.self.items ms (vec_capacity self.doubts)) (sym c.push_reserved-3.ensures.items)
          (subst (λ (ds : List Decision). AreDoubts p ds (self.doubts.items ++ c.try_lines-doubts.result ∷ []) (vec_capacity self.doubts)) more
          (doubts_more p self.decisions.items d self.doubts.items c.try_lines-doubts.result (vec_capacity self.doubts) c.self.invariant.2
          (subst (λ (ds : List Decision). LeaveFreeBut p (decided_by ds) c.args.block c.try_lines-doubts.result) (sym more) (told_now g c))))),
      c.self.invariant.3,
      c.self.invariant.4,
    )

pub returns-clause-steps : goal.returns-clause-steps
returns-clause-steps g c =
    let self = c.self.inside in
    let p = self.problem.now in
    let there : c.args.block < p.blocks.count = subst (λ (v : PartialParts). c.args.block < v.problem.blocks.count) (sym c.self.view_is) c.requires.there in
    let of_lines : c.as_slice-4.result.now ≡ get_or self.touched.items c.args.block c.index-2.result.now = c.as_slice-4.ensures ∙ c.index-2.ensures ∙ ap (λ b. get_or self.touched.items b c.index-2.result.now) c.from-number.ensures in
    let count = ap length of_lines ∙ touched_count p c.self.invariant.4 self.spans.items self.touched.items self.sides.items self.decisions.items self.columns.items self.met.items self.heights.items self.broken.items _ _ _ c.self.invariant.0 c.args.block c.index-2.result.now there
    ∙ ap (λ (v : PartialParts). touching v.problem c.args.block) c.self.view_is in
    subst (λ n. c.try_lines-doubts.new.steps ≤ c.args.steps.now + n) count c.try_lines-doubts.ensures.steps
