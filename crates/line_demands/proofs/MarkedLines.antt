-- One line less is broken, or one more.
use Rattle.std.proofs.Common.{◌≡◌, ◌⊎◌, inl, inr, Bool, true, false, ◌==◌, ℕ, ◌+◌, ◌<◌, List, [], ◌∷◌, ◌++◌, length, get_or, set, refl, ap, sym, subst, ◌∙◌, arith}
use Rattle.std.proofs.lemmas.Bool.{cases_Bool, eqb-true, eqb-false, eq-eqb}
use Rattle.std.proofs.lemmas.List.{length-set, length_push, get_or-set_same, get_or-set_other, get_or_append_left}
use Rattle.std.proofs.lemmas.List.Elements.{All-push}
use Rattle.std.proofs.lemmas.List.Sums.{sum_by-set}
use Rattle.std.proofs.Math.Seq.{get_or-append_seam}
use Rattle.std.specs.Prelude.{All}
use Rattle.line_demands.specs.Lines.{AreMarked}
use Rattle.lemmas.proofs.Lists.{total_push}
use Rattle.lemmas.specs.Counts.{one_if, times_listed}

same_one : (b c : Bool) → b ≡ c → one_if b ≡ one_if c
same_one b c e = ap one_if e

-- the last of a list stands there
pub last_there : (rest : List ℕ) (i : ℕ) → times_listed i (rest ++ i ∷ []) ≡ times_listed i rest + 1
last_there rest i = total_push (λ x. one_if (x == i)) rest i ∙ ap (λ b. times_listed i rest + one_if b) (eq-eqb i i refl)

pub last_other : (rest : List ℕ) (x i : ℕ) → (x == i) ≡ false → times_listed i (rest ++ x ∷ []) ≡ times_listed i rest
last_other rest x i other = total_push (λ y. one_if (y == i)) rest x ∙ (let e = ap one_if other in omega arith)

not_met : (b : Bool) (n : ℕ) → n + 1 + one_if b ≡ 1 → (n ≡ 0) × (b ≡ false)
not_met true n e = absurd (omega arith)
not_met false n e = (omega arith, refl)

module _ (met : List Bool) (rest : List ℕ) (line : ℕ) (marked : AreMarked met (rest ++ line ∷ [])) where
  there : line < length met
  there = subst (λ x. x < length met) (get_or-append_seam rest line [] 0) (marked.below (length rest) 0 (let e = length_push rest line in omega arith))

  last : (times_listed line rest ≡ 0) × (get_or met line false ≡ false)
  last = not_met (get_or met line false) (times_listed line rest) (ap (λ n. n + one_if (get_or met line false)) (sym (last_there rest line)) ∙ marked.once line there)

  pub mend_one : AreMarked (set met line true) rest
  mend_one = record {
    once = λ i l. once i (subst (λ n. i < n) (length-set met line true) l) (cases_Bool (line == i));
    below = λ k d l. subst (λ x. x < length (set met line true)) (get_or_append_left rest (line ∷ []) d k l)
        (subst (λ n. get_or (rest ++ line ∷ []) k d < n) (sym (length-set met line true)) (marked.below k d (let e = length_push rest line in omega arith)));
    counted = (let a = sum_by-set one_if met line true false there in
        let b = ap one_if last.1 in
        let c = length_push rest line in
        let d = marked.counted in
        let e = length-set met line true in omega arith);
  }
    where
      once : (i : ℕ) → i < length met → ((line == i) ≡ true) ⊎ ((line == i) ≡ false) → times_listed i rest + one_if (get_or (set met line true) i false) ≡ 1
      once i l (inl is) = (let e : line ≡ i = eqb-true line i is in
          subst (λ j. times_listed j rest + one_if (get_or (set met line true) j false) ≡ 1) e
          (ap (λ b. times_listed line rest + one_if b) (get_or-set_same met line true false there) ∙ ap (λ n. n + 1) last.0))
      once i l (inr other) = ap (λ b. times_listed i rest + one_if b) (get_or-set_other met line i true false (λ e. eqb-false line i other (sym e)))
          ∙ ap (λ n. n + one_if (get_or met i false)) (sym (last_other rest line i other)) ∙ marked.once i l

-- a line that can be met is broken
module _ (met : List Bool) (rest : List ℕ) (line : ℕ) (marked : AreMarked met rest) (there : line < length met) (can : get_or met line false ≡ true) where
  before : times_listed line rest + 1 ≡ 1
  before = ap (λ b. times_listed line rest + one_if b) (sym can) ∙ marked.once line there

  pub break_one : AreMarked (set met line false) (rest ++ line ∷ [])
  break_one = record {
    once = λ i l. once i (subst (λ n. i < n) (length-set met line false) l) (cases_Bool (line == i));
    below = subst (λ n. All (λ i. i < n) (rest ++ line ∷ [])) (sym (length-set met line false)) (All-push (λ i. i < length met) rest line marked.below there);
    counted = (let a = sum_by-set one_if met line false false there in
        let b = ap one_if can in
        let c = length_push rest line in
        let d = marked.counted in
        let e = length-set met line false in omega arith);
  }
    where
      once : (i : ℕ) → i < length met → ((line == i) ≡ true) ⊎ ((line == i) ≡ false) → times_listed i (rest ++ line ∷ []) + one_if (get_or (set met line false) i false) ≡ 1
      once i l (inl is) = (let e : line ≡ i = eqb-true line i is in
          subst (λ j. times_listed j (rest ++ line ∷ []) + one_if (get_or (set met line false) j false) ≡ 1) e
          (ap (λ b. times_listed line (rest ++ line ∷ []) + one_if b) (get_or-set_same met line false false there) ∙ ap (λ n. n + 0) (last_there rest line ∙ before)))
      once i l (inr other) = ap (λ b. times_listed i (rest ++ line ∷ []) + one_if b) (get_or-set_other met line i false false (λ e. eqb-false line i other (sym e)))
          ∙ ap (λ n. n + one_if (get_or met i false)) (last_other rest line i other) ∙ marked.once i l
