-- One line more.
use Rattle.std.proofs.Common.{◌≡◌, ◌&&◌, ◌==◌, ◌%◌, Bool, true, false, refl, sym, ◌∙◌, arith, rules}
use Rattle.std.proofs.lemmas.Bool.{both_ways, eq-eqb}
use Rattle.lemmas.specs.Bits.{is_set}
use Rattle.line_demands.proofs.ValueBits.{clear_first, clear_second}
use Rattle.line_demands.specs.Gathered.{no_side}
use Rattle.line_demands.proofs.TriedLines.{none_tried, one_tried, one_free, not_before}
use Rattle.line_demands.proofs.lines.try_lines.Goals as goal

-- what isn't told of a place is false
untold : (told : Bool) {at : Bool} → at ≡ true → (told && at) ≡ false → told ≡ false
untold true at off = absurd (both_ways _ off at)
untold false at off = refl

pub loop-place-init : goal.loop-place-init
loop-place-init g c = record {
  end = search rules;
  marked = search rules;
  count = search rules;
  room = search rules;
  tried = none_tried c.args.columns.now c.args.sides.now c.args.lines.now c.args.broken.now.items;
  free = λ place e d l. absurd (omega arith);
  steps = search rules;
}

pub loop-place-preserved : goal.loop-place-preserved
loop-place-preserved g c =
    let columns = c.args.columns.now in
    let sides = c.args.sides.now in
    let lines = c.args.lines.now in
    let place = c.loop-place.place in
    let now = c.try_line-doubted.new.broken.items in
    let inv = c.loop-place.invariant in
    let told = c.try_line-doubted.result in record {
      end = inv.end;
      marked = c.try_line-doubted.ensures.marked;
      count = search rules;
      room = c.try_line-doubted.ensures.room ∙ inv.room;
      tried = one_tried columns sides lines c.args.broken.now.items place _ 0 c.loop-place.broken.items now
          inv.tried (search rules) refl c.try_line-doubted.ensures.begins c.try_line-doubted.ensures.others c.try_line-doubted.ensures.tried;
      free = one_free columns sides lines place _ 0 c.loop-place.broken.items now c.loop-place.doubts c.with_place-doubts.result refl (search rules)
          (not_before columns sides _ c.loop-place.broken.items now c.try_line-doubted.ensures.others c.try_line-doubted.ensures.tried no_side)
          (λ k off. clear_first (is_set c.loop-place.doubts k) (told && (place % 64 == k)) (sym (c.with_place-doubts.ensures k) ∙ off))
          (λ off. c.try_line-doubted.ensures.free (untold told (eq-eqb (place % 64) (place % 64) refl)
          (clear_second (is_set c.loop-place.doubts (place % 64)) (told && (place % 64 == place % 64)) (sym (c.with_place-doubts.ensures (place % 64)) ∙ off))))
          inv.free;
      steps = (let a = inv.steps in let b = c.try_line-doubted.ensures.steps in omega arith);
    }

pub returns-clause-free : goal.returns-clause-free
returns-clause-free g c = λ place e d l. c.loop-place.invariant.free place e d (omega (arith, l, c.loop-place.invariant.end, c.loop-place-test.false))
