-- The reader begins behind its text's mark.
use Rattle.std.proofs.Common.{◌≡◌, ◌≤◌, length, nat_eq, drop, sym, ap, subst, ◌∙◌}
use Rattle.std.specs.List.{starts_with}
use Rattle.std.proofs.lemmas.List.{take_rest}
use Rattle.dxf_groups.specs.Pairs.{binary_sentinel, without_mark}
use Rattle.dxf_groups.specs.ReadPairs.{StandsIn}
use Rattle.dxf_groups.proofs.BehindLines.{binary_ending, stands_at_mark, text_ending}
use Rattle.dxf_groups.proofs.groups.Groups.new.Goals.{then-starts_with, else-starts_with}
use Rattle.dxf_groups.proofs.groups.Groups.new.Goals as goal

pub invariant_of-result : goal.invariant_of-result
invariant_of-result c =
    let text = c.args.text.items in
    let place = c.mark_len-place.result in
    let mark : drop place text ≡ without_mark text =
    subst (λ t. drop place t ≡ without_mark t) c.deref.ensures.value c.mark_len-place.ensures.rest in
    let within = subst (λ t. place ≤ length t) c.deref.ensures.value c.mark_len-place.ensures.within in
    let says : c.starts_with.result ≡ starts_with nat_eq (drop place text) binary_sentinel =
    c.starts_with.ensures.value
    ∙ ap (λ t. starts_with nat_eq t binary_sentinel)
    (take_rest c.deref-2.result.now place ∙ ap (drop place) c.deref-2.ensures.value) in
    let stands = stands_at_mark text place c.requires within mark in
    elim c.if-starts_with.branch [
      | then-starts_with w ↦ subst (StandsIn text place 1) (sym w.ending-is)
          (stands _ (binary_ending text place mark (sym says ∙ w.if-starts_with.true)) (λ end is. absurd cc))
      | else-starts_with w ↦ subst (StandsIn text place 1) (sym w.ending-is)
          (stands _ (text_ending text place mark (sym says ∙ w.if-starts_with.false)) (λ end is. absurd cc))
    ]
