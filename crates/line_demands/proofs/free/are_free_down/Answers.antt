-- No cell down to the first depth at which both may be full is undecided, or those at that depth alone are.
use Rattle.std.proofs.Common.{◌≡◌, ◌||◌, ◌<◌, ◌^◌, true, false, ℕ, bit_and, bit_or, rules, ap, sym, subst, ◌∙◌}
use Rattle.std.specs.Int.Bits.{and_lt}
use Rattle.std.proofs.lemmas.Bool.{both_ways, and_from, or_left, or_right}
use Rattle.std.proofs.lemmas.Nat.{and_comm}
use Rattle.solid_model.specs.declared.segment.Style.TheVariants.{Dashed}
use Rattle.lemmas.specs.Bits.{is_set, near}
use Rattle.solid_model.specs.Known.{known_bits}
use Rattle.lemmas.proofs.WordBits.{set_both, set_either}
use Rattle.line_demands.specs.Doubted.{CanDrawEmpty}
use Rattle.line_demands.proofs.FreeBehind.{free_first}
use Rattle.line_demands.proofs.FreeBoth.{empty_back}
use Rattle.line_demands.proofs.LowestLeft.{clear_of_either, none_set, other_clear}
use Rattle.line_demands.proofs.SeenCells.{draws_back}
use Rattle.line_demands.proofs.ValueBits.{open_to, shared_bit}
use Rattle.line_demands.proofs.free.are_free_down.Goals as goal

pub returns-then-open-eq0 : goal.returns-then-open-eq0
returns-then-open-eq0 c = λ _.
    let a = c.args.after in
    let b = c.args.before in
    let decided : (k : ℕ) → is_set (near (bit_and a.may b.may)) k ≡ true → (is_set c.undecided.result k ≡ false) × (is_set c.undecided-2.result k ≡ false) = λ k set. clear_of_either c.undecided.result c.undecided-2.result k
    (other_clear (bit_or c.undecided.result c.undecided-2.result) c.near-begin.result c.if-open-eq0.true k (ap (λ n. is_set n k) c.near-begin.ensures ∙ set)) in (
      λ k v none set. absurd (both_ways (is_set c.undecided.result k) (decided k set).0 (open_to a.full a.may c.undecided.result c.undecided.ensures k none)),
      λ k v none set. absurd (both_ways (is_set c.undecided-2.result k) (decided k set).1 (open_to b.full b.may c.undecided-2.result c.undecided-2.ensures k none)),
    )

pub returns-then-without-eq0 : goal.returns-then-without-eq0
returns-then-without-eq0 c = λ yes.
    let a = c.args.after in
    let b = c.args.before in
    let one = known_bits a.full a.may in
    let other = known_bits b.full b.may in
    let both = bit_and a.may b.may in
    let either = bit_or c.undecided.result c.undecided-2.result in
    let fits : both < 2 ^ 64 = and_lt 64 a.may b.may (search rules) (search rules) in
    let empty : CanDrawEmpty one other Dashed (near both) = subst (CanDrawEmpty one other Dashed) c.near-begin.ensures (c.can_part_beyond.ensures yes) in
    let there : (k : ℕ) → is_set (near both) k ≡ true → (is_set c.undecided.result k || is_set c.undecided-2.result k) ≡ true → is_set both k ≡ true = λ k set some. shared_bit (is_set (bit_and either c.near-begin.result) k) (is_set both k)
    (set_both either c.near-begin.result k ∙ and_from (is_set either k) (is_set c.near-begin.result k) (set_either c.undecided.result c.undecided-2.result k ∙ some) (ap (λ n. is_set n k) c.near-begin.ensures ∙ set))
    (sym (c.without.ensures k) ∙ none_set c.without.result c.if-without-eq0.true k) in
    let back = and_comm a.may b.may in (
      λ k v none set. free_first a.full a.may b.full b.may c.requires.after c.requires.before fits c.requires.met (search rules) k v none set
          (there k set (or_left (is_set c.undecided.result k) (is_set c.undecided-2.result k) (open_to a.full a.may c.undecided.result c.undecided.ensures k none))) empty,
      λ k v none set. free_first b.full b.may a.full a.may c.requires.before c.requires.after (subst (λ n. n < 2 ^ 64) back fits) (draws_back one other Dashed c.requires.met) (search rules) k v none
          (subst (λ n. is_set (near n) k ≡ true) back set)
          (subst (λ n. is_set n k ≡ true) back (there k set (or_right (is_set c.undecided.result k) (is_set c.undecided-2.result k) (open_to b.full b.may c.undecided-2.result c.undecided-2.ensures k none))))
          (subst (λ n. CanDrawEmpty other one Dashed (near n)) back (empty_back one other (near both) empty)),
    )
