-- The list of broken lines, with one decision more and with one less.
use Rattle.std.proofs.Common.{◌≡◌, ◌↔◌, inl, inr, ℕ, ◌+◌, ◌<◌, ◌≤◌, List, [], ◌∷◌, ◌++◌, length, take, get_or, ap, sym, subst, ◌∙◌, arith}
use Rattle.std.proofs.lemmas.Bool.{cases_lt}
use Rattle.std.proofs.lemmas.List.{length_push, length-take-le, take-append-le, take_all, take-take, get_or_append_left, get_or_default}
use Rattle.std.proofs.Math.ListN.{get_or-eq_default}
use Rattle.std.proofs.Math.Seq.{get_or-append_seam}
use Rattle.line_demands.specs.declared.lines.Beside.{Beside}
use Rattle.solid_model.specs.declared.decision.Decision.{Decision}
use Rattle.solid_model.specs.Decisions.{decided_by}
use Rattle.line_demands.specs.Lines.{BeginsWith}
use Rattle.line_demands.specs.KeptColumns.{IsTrail}
use Rattle.solid_model.specs.Blocks.{ProblemParts}
use Rattle.solid_model.specs.Demands.{CanBeMet}
use Rattle.lemmas.specs.Counts.{times_listed}

module _ (p : ProblemParts) (sides : List Beside) where
  -- all of them are those of all decisions
  pub all_broken : (decisions : List Decision) (heights broken : List ℕ) → IsTrail p sides decisions heights broken → (i : ℕ) (d : Beside) → i < length sides
      → (times_listed i broken ≡ 0) ↔ CanBeMet p (decided_by decisions) (get_or sides i d).line
  all_broken decisions heights broken trail i d l =
      let at : get_or heights (length decisions) (length broken) ≡ length broken = get_or-eq_default heights (length broken) (let e = trail.count in omega arith) in
      subst (λ (ds : List Decision). (times_listed i broken ≡ 0) ↔ CanBeMet p (decided_by ds) (get_or sides i d).line) (take_all (length decisions) decisions (omega arith))
      (subst (λ bs. (times_listed i bs ≡ 0) ↔ CanBeMet p (decided_by (take (length decisions) decisions)) (get_or sides i d).line)
      (ap (λ n. take n broken) at ∙ take_all (length broken) broken (omega arith))
      (trail.each (length decisions) i d (omega arith) l))

  module _ (decisions : List Decision) (last : Decision) (heights : List ℕ) (height : ℕ) (broken : List ℕ)
      (trail : IsTrail p sides (decisions ++ last ∷ []) (heights ++ height ∷ []) broken) where
    counted : length heights ≡ length decisions
    counted = let a = trail.count in let b = length_push heights height in let c = length_push decisions last in omega arith

    -- the height of all but the last
    last_height : get_or (heights ++ height ∷ []) (length decisions) (length broken) ≡ height
    last_height = ap (λ n. get_or (heights ++ height ∷ []) n (length broken)) (sym counted) ∙ get_or-append_seam heights height [] (length broken)

    low : height ≤ length broken
    low = let a = trail.ordered (length decisions) (length decisions + 1) (omega arith) in
        let b : get_or (heights ++ height ∷ []) (length decisions + 1) (length broken) ≡ length broken = get_or-eq_default (heights ++ height ∷ []) (length broken) (let e = length_push heights height in let f = counted in omega arith) in
        let c = last_height in omega arith

    kept : length (take height broken) ≡ height
    kept = length-take-le height broken low

    -- an earlier height
    same_height : (n : ℕ) → n ≤ length decisions → get_or heights n (length (take height broken)) ≡ get_or (heights ++ height ∷ []) n (length broken)
    same_height n l = elim (cases_lt n (length heights)) as (λ _. get_or heights n (length (take height broken)) ≡ get_or (heights ++ height ∷ []) n (length broken)) [
      | inl m ↦ get_or_default heights n (length (take height broken)) (length broken) m ∙ sym (get_or_append_left heights (height ∷ []) (length broken) n m)
      | inr m ↦ (let e : n ≡ length decisions = (let f = counted in omega arith) in
          get_or-eq_default heights (length (take height broken)) m ∙ kept ∙ sym last_height ∙ ap (λ j. get_or (heights ++ height ∷ []) j (length broken)) (sym e))
    ]

    pub trail_less : IsTrail p sides decisions heights (take height broken)
    trail_less = record {
      count = counted;
      ordered = λ m n l. ordered m n l;
      each = λ n i d l m.
          subst (λ (ds : List Decision). (times_listed i (take (get_or heights n (length (take height broken))) (take height broken)) ≡ 0) ↔ CanBeMet p (decided_by ds) (get_or sides i d).line)
          (take-append-le n decisions (last ∷ []) l)
          (subst (λ bs. (times_listed i bs ≡ 0) ↔ CanBeMet p (decided_by (take n (decisions ++ last ∷ []))) (get_or sides i d).line)
          (ap (λ h. take h broken) (sym (same_height n l)) ∙ sym (take-take (get_or heights n (length (take height broken))) height broken (under n l)))
          (trail.each n i d (let e = length_push decisions last in omega arith) m));
    }
      where
        under : (n : ℕ) → n ≤ length decisions → get_or heights n (length (take height broken)) ≤ height
        under n l = let a = trail.ordered n (length decisions) l in let b = same_height n l in let c = last_height in omega arith

        ordered : (m n : ℕ) → m ≤ n → get_or heights m (length (take height broken)) ≤ get_or heights n (length (take height broken))
        ordered m n l = elim (cases_lt n (length heights)) as (λ _. get_or heights m (length (take height broken)) ≤ get_or heights n (length (take height broken))) [
          | inl k ↦ (let f = counted in let a = trail.ordered m n l in let b = same_height m (omega arith) in let c = same_height n (omega arith) in omega arith)
          | inr k ↦ (let c : get_or heights n (length (take height broken)) ≡ height = get_or-eq_default heights (length (take height broken)) k ∙ kept in
              let a = at_most m in omega arith)
        ]
          where
            at_most : (m : ℕ) → get_or heights m (length (take height broken)) ≤ height
            at_most m = elim (cases_lt m (length heights)) as (λ _. get_or heights m (length (take height broken)) ≤ height) [
              | inl k ↦ under m (let f = counted in omega arith)
              | inr k ↦ (let c : get_or heights m (length (take height broken)) ≡ height = get_or-eq_default heights (length (take height broken)) k ∙ kept in omega arith)
            ]

  -- one decision more
  pub trail_more : (decisions : List Decision) (last : Decision) (heights broken new : List ℕ) → IsTrail p sides decisions heights broken → BeginsWith broken new
      → ((i : ℕ) (d : Beside) → i < length sides → (times_listed i new ≡ 0) ↔ CanBeMet p (decided_by (decisions ++ last ∷ [])) (get_or sides i d).line)
      → IsTrail p sides (decisions ++ last ∷ []) (heights ++ length broken ∷ []) new
  trail_more decisions last heights broken new trail begins told = record {
    count = (let a = trail.count in let b = length_push heights (length broken) in let c = length_push decisions last in omega arith);
    ordered = ordered;
    each = each;
  }
    where
      count : length (heights ++ length broken ∷ []) ≡ length heights + 1
      count = length_push heights (length broken)

      same_height : (n : ℕ) → n ≤ length heights → get_or (heights ++ length broken ∷ []) n (length new) ≡ get_or heights n (length broken)
      same_height n l = elim (cases_lt n (length heights)) as (λ _. get_or (heights ++ length broken ∷ []) n (length new) ≡ get_or heights n (length broken)) [
        | inl m ↦ get_or_append_left heights (length broken ∷ []) (length new) n m ∙ get_or_default heights n (length new) (length broken) m
        | inr m ↦ (let e : n ≡ length heights = omega arith in
            ap (λ j. get_or (heights ++ length broken ∷ []) j (length new)) e ∙ get_or-append_seam heights (length broken) [] (length new)
            ∙ sym (get_or-eq_default heights (length broken) m))
      ]

      low : (n : ℕ) → get_or heights n (length broken) ≤ length broken
      low n = let a = trail.ordered n (n + length heights) (omega arith) in
          let b : get_or heights (n + length heights) (length broken) ≡ length broken = get_or-eq_default heights (length broken) (omega arith) in omega arith

      top : (n : ℕ) → length heights + 1 ≤ n → get_or (heights ++ length broken ∷ []) n (length new) ≡ length new
      top n l = get_or-eq_default (heights ++ length broken ∷ []) (length new) (let e = count in omega arith)

      ordered : (m n : ℕ) → m ≤ n → get_or (heights ++ length broken ∷ []) m (length new) ≤ get_or (heights ++ length broken ∷ []) n (length new)
      ordered m n l = elim (cases_lt (length heights) n) as (λ _. get_or (heights ++ length broken ∷ []) m (length new) ≤ get_or (heights ++ length broken ∷ []) n (length new)) [
        | inl k ↦ (let a = top n (omega arith) in elim (cases_lt (length heights) m) as (λ _. get_or (heights ++ length broken ∷ []) m (length new) ≤ get_or (heights ++ length broken ∷ []) n (length new)) [
          | inl j ↦ (let b = top m (omega arith) in omega arith)
          | inr j ↦ (let b = same_height m j in let c = low m in let e = begins.longer in omega arith)
        ])
        | inr k ↦ (let a = same_height n k in let b = same_height m (omega arith) in let c = trail.ordered m n l in omega arith)
      ]

      each : (n i : ℕ) (d : Beside) → n ≤ length (decisions ++ last ∷ []) → i < length sides
          → (times_listed i (take (get_or (heights ++ length broken ∷ []) n (length new)) new) ≡ 0) ↔ CanBeMet p (decided_by (take n (decisions ++ last ∷ []))) (get_or sides i d).line
      each n i d l m = elim (cases_lt (length heights) n) as (λ _. (times_listed i (take (get_or (heights ++ length broken ∷ []) n (length new)) new) ≡ 0) ↔ CanBeMet p (decided_by (take n (decisions ++ last ∷ []))) (get_or sides i d).line) [
        | inl k ↦ subst (λ (ds : List Decision). (times_listed i (take (get_or (heights ++ length broken ∷ []) n (length new)) new) ≡ 0) ↔ CanBeMet p (decided_by ds) (get_or sides i d).line)
            (sym (take_all n (decisions ++ last ∷ []) (let a = trail.count in let b = length_push decisions last in omega arith)))
            (subst (λ bs. (times_listed i bs ≡ 0) ↔ CanBeMet p (decided_by (decisions ++ last ∷ [])) (get_or sides i d).line)
            (sym (ap (λ h. take h new) (top n (omega arith)) ∙ take_all (length new) new (omega arith))) (told i d m))
        | inr k ↦ subst (λ (ds : List Decision). (times_listed i (take (get_or (heights ++ length broken ∷ []) n (length new)) new) ≡ 0) ↔ CanBeMet p (decided_by ds) (get_or sides i d).line)
            (sym (take-append-le n decisions (last ∷ []) (let a = trail.count in omega arith)))
            (subst (λ bs. (times_listed i bs ≡ 0) ↔ CanBeMet p (decided_by (take n decisions)) (get_or sides i d).line)
            (ap (take (get_or heights n (length broken))) (sym begins.same) ∙ take-take (get_or heights n (length broken)) (length broken) new (low n) ∙ ap (λ h. take h new) (sym (same_height n k)))
            (trail.each n i d (let a = trail.count in omega arith) m))
      ]
