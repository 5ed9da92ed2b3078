-- One more number is told.
use Rattle.std.proofs.Common.{◌≡◌, ◌+◌, ◌-◌, ◌++◌, ◌∷◌, [], ℕ, suc, inl, inr, List, Bool, get_or, length, sym, ◌∙◌, ap, subst, arith}
use Rattle.std.proofs.lemmas.Bool.{cases_lt}
use Rattle.std.proofs.lemmas.List.{get_or_append_left, get_or_push, get_or_read, length_push}
use Rattle.std.proofs.lemmas.List.Sums.{common_prefix_len-le}
use Rattle.std.specs.List.{common_prefix_len}
use Rattle.lemmas.specs.Truth.{agree}
use Rattle.lemmas.proofs.BitChanges.{shared_taken}
use Rattle.prefix_tree.specs.Alike.{IsAlike}
use Rattle.prefix_tree.specs.Places.{prefix_at}
use Rattle.prefix_tree.proofs.beginnings.alike.Goals as goal

-- so many values are the same
alike_of : (p q : List Bool) (n : ℕ) → n ≡ common_prefix_len agree p q → IsAlike p q n
alike_of p q n is = let most = common_prefix_len-le agree p q in record {
  within = omega (arith, is, most.0);
  inside = omega (arith, is, most.1);
  same = shared_taken p q n (omega (arith, is));
}

pub loop-at-preserved : goal.loop-at-preserved
loop-at-preserved c =
    let i = c.loop-at.invariant in
    let ps : List (List Bool) = c.args.prefixes.now in
    let at = c.loop-at.at in
    let old : List ℕ = c.loop-at.alike.items in
    let n = c.shared.result in
    let p = c.index-prefixes-at.result in
    let q = c.index-prefixes-at-in-loop-at.result in
    let items : c.push.new.self.items ≡ old ++ n ∷ [] = c.in_ok-push.ensures.items in
    let before : p ≡ prefix_at ps (at - 1) = get_or_read ps (at - 1) p (omega arith) c.index-prefixes-at.is [] in
    let after : q ≡ prefix_at ps at = get_or_read ps at q (omega arith) c.index-prefixes-at-in-loop-at.is [] in
    let last : IsAlike (prefix_at ps (at - 1)) (prefix_at ps at) n =
    subst (λ (x : List Bool). IsAlike x (prefix_at ps at) n) before (subst (λ (y : List Bool). IsAlike p y n) after (alike_of p q n c.shared.ensures)) in
    let count : length old + 1 ≡ at = i.count in
    record {
      count = ap (λ (ns : List ℕ). length ns + 1) items ∙ (omega (arith, count, length_push old n));
      told = λ k l. elim (cases_lt (suc k) at) as (λ _. IsAlike (prefix_at ps k) (prefix_at ps (suc k)) (get_or c.push.new.self.items k 0)) [
        | inl earlier ↦ subst (IsAlike (prefix_at ps k) (prefix_at ps (suc k)))
            (sym (ap (λ (ns : List ℕ). get_or ns k 0) items ∙ get_or_append_left old (n ∷ []) 0 k (omega (arith, count, earlier)))) (i.told k earlier)
        | inr later ↦ (
            let is : at ≡ suc k = omega (arith, l, later) in
            let less : at - 1 ≡ k = omega (arith, is) in
            subst (IsAlike (prefix_at ps k) (prefix_at ps (suc k)))
            (sym (ap (λ (ns : List ℕ). get_or ns k 0) items ∙ get_or_push old n 0 k (omega (arith, count, is))))
            (subst (λ (m : ℕ). IsAlike (prefix_at ps m) (prefix_at ps (suc k)) n) less (subst (λ (m : ℕ). IsAlike (prefix_at ps (at - 1)) (prefix_at ps m) n) is last)))
      ];
    }
