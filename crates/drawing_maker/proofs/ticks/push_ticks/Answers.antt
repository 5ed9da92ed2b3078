-- One tick more.
use Rattle.std.proofs.Common.{◌++◌, [], ◌∷◌, map, sym, ap, ◌∙◌, arith, append_assoc}
use Rattle.std.specs.List.{range_with_len}
use Rattle.std.proofs.lemmas.List.FromFn.{map-range_with_len_more}
use Rattle.drawing_maker.specs.Rows.{tick_after}
use Rattle.drawing_maker.proofs.ticks.push_ticks.Goals as goal

pub loop-place-preserved : goal.loop-place-preserved
loop-place-preserved c =
    let p = c.args.cube in let k = c.loop-place.place in
    c.in_ok-push-2.ensures.items ∙ ap (λ l. l ++ tick_after p k ∷ []) c.loop-place.invariant
    ∙ append_assoc c.push.new.self.items (map (tick_after p) (range_with_len 0 k)) (tick_after p k ∷ [])
    ∙ ap (λ l. c.push.new.self.items ++ l) (sym (map-range_with_len_more (tick_after p) 0 k k (omega arith)))
