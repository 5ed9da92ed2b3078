-- One place more.
use Rattle.std.proofs.Common.{◌≡◌, ◌<◌, ◌%◌, inl, inr, ℕ, false, true, length, get_or, set, slice_get, Some, refl, sym, subst, ap, ◌∙◌, arith}
use Rattle.std.proofs.lemmas.Bool.{cases_lt}
use Rattle.std.proofs.lemmas.List.{length-set}
use Rattle.std.proofs.lemmas.Option.{same_Some, slice_get-get_or}
use Rattle.column_laws.proofs.AllLines.{lines_are_listed}
use Rattle.line_demands.specs.Touching.{lines_touching, touches}
use Rattle.propagate.proofs.Doubting.{number_there, was_off}
use Rattle.propagate.proofs.OneNumber.{one_number}
use Rattle.propagate.proofs.stepping.doubt_touching.Goals as goal
use Rattle.solid_model.specs.declared.decision.Decision.{Decision}
use Rattle.lemmas.specs.Bits.{is_set}
use Rattle.solid_model.specs.Demands.{lines_of}
use Rattle.lemmas.proofs.ListPlaces.{member-place}
use Rattle.lemmas.proofs.Lists.{member-filter}

pub loop-place-init : goal.loop-place-init
loop-place-init c = record {
  count = refl;
  end = c.touching-place-end.ensures;
  kept = λ k off. off;
  told = λ place k m less. absurd (omega (arith, less));
}

pub doubt-requires : goal.doubt-requires
doubt-requires c = omega (arith, c.touched.ensures.there, c.loop-place.invariant.count, c.requires.count)

pub loop-place-preserved-then-not-has_place : goal.loop-place-preserved-then-not-has_place
loop-place-preserved-then-not-has_place c =
    let inv = c.loop-place.invariant in
    let doubts = c.doubts-doubts.result in record {
      count = inv.count;
      end = inv.end;
      kept = inv.kept;
      told = λ place k m less at number off. elim (cases_lt place c.loop-place.place) as (λ _. is_set doubts (place % 64) ≡ false) [
        | inl before ↦ inv.told place k m before at number off
        | inr here ↦ (let same : c.loop-place.place ≡ place = omega (arith, less, here) in
            subst (λ n. is_set doubts (n % 64) ≡ false) same (sym c.has_place.ensures ∙ c.if-not-has_place.true))
      ];
    }

pub loop-place-preserved : goal.loop-place-preserved
loop-place-preserved c =
    let p = c.args.partial.now.problem in
    let lines = lines_of p.grid in
    let inv = c.loop-place.invariant in
    let doubts = c.doubts-doubts.result in
    let n = c.touched.result in
    let within : n < length c.loop-place.doubted = omega (arith, c.touched.ensures.there, inv.count, c.requires.count) in
    let new : c.doubt.new.self ≡ set c.loop-place.doubted n true = c.doubt.ensures in
    let was = λ (k : ℕ) (off : get_or c.doubt.new.self k false ≡ false). was_off c.loop-place.doubted n k within (sym (ap (λ xs. get_or xs k false) new) ∙ off) in record {
      count = ap length new ∙ length-set c.loop-place.doubted n true ∙ inv.count;
      end = inv.end;
      kept = λ k off. inv.kept k (was k off).1;
      told = λ place k m less at number off. elim (cases_lt place c.loop-place.place) as (λ _. is_set doubts (place % 64) ≡ false) [
        | inl before ↦ inv.told place k m before at number (was k off).1
        | inr here ↦ (let same : c.loop-place.place ≡ place = omega (arith, less, here) in
            let line : get_or lines n m ≡ m = same_Some (get_or lines n m) m (sym (c.touched.ensures.line m) ∙ ap (slice_get (lines_touching p c.decided_block-block.result)) same ∙ at) in
            absurd ((was k off).0 (one_number p.grid n k m (slice_get-get_or lines n m c.touched.ensures.there ∙ ap Some line) number)))
      ];
    }

pub returns-clause-count : goal.returns-clause-count
returns-clause-count c = c.loop-place.invariant.count

pub returns-clause-kept : goal.returns-clause-kept
returns-clause-kept c = c.loop-place.invariant.kept

pub returns-clause-free : goal.returns-clause-free
returns-clause-free c = λ d there k l number touch off met.
    let p = c.args.partial.now.problem in
    let block = c.decided_block-block.result in
    let (e, taken, is) = c.decided_block-block.ensures.decision in
    let same : d.block ≡ block = ap (λ (x : Decision). x.block) (same_Some d e (sym there ∙ taken)) ∙ is in
    let listed = member-filter (touches p d.block) (lines_of p.grid) l (lines_are_listed p.grid l (number_there p k l number)) touch in
    let (place, within, at) = member-place (lines_touching p d.block) l listed in
    let stands : slice_get (lines_touching p d.block) place ≡ Some l = slice_get-get_or (lines_touching p d.block) place l within ∙ ap Some (at l) in
    let few = subst (λ b. place < length (lines_touching p b)) same within in
    c.doubts-doubts.ensures d there place l stands
    (c.loop-place.invariant.told place k l (omega (arith, few, c.loop-place.invariant.end, c.loop-place-test.false)) (subst (λ b. slice_get (lines_touching p b) place ≡ Some l) same stands) number off)
    met
