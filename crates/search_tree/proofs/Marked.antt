-- Marks of the live prefixes on a way, with one value more and with one less.
use Rattle.std.proofs.Common.{◌≡◌, inl, inr, Bool, ℕ, suc, ◌+◌, ◌<◌, ◌≤◌, List, [], ◌∷◌, ◌++◌, length, take, drop, get_or, ap, sym, subst, ◌∙◌, arith}
use Rattle.std.proofs.lemmas.Bool.{cases_lt}
use Rattle.std.proofs.lemmas.List.{length_push, length-take, length-take-le, take-append-le, take-append-drop, take_all, take-take, get_or_append_left, get_or_default}
use Rattle.std.proofs.Math.ListN.{get_or-eq_default}
use Rattle.std.proofs.Math.Seq.{get_or-append_seam}
use Rattle.solid_model.specs.declared.decision.Decision.{Decision}
use Rattle.solid_model.specs.Blocks.{ProblemParts}
use Rattle.solid_model.specs.Decisions.{decided_by}
use Rattle.solid_model.specs.Demands.{said_by}
use Rattle.solid_model.specs.Forcing.{IsLess, Lives}
use Rattle.solid_model.proofs.Lives.{said_less, lives_less}
use Rattle.search_tree.specs.BlockPaths.{IsClosure, AreMarks}

-- ---- heights in order, with one more at the end

abbrev AreOrdered : List ℕ → ℕ → Type 0
AreOrdered marks n = (i j : ℕ) → i ≤ j → get_or marks i n ≤ get_or marks j n

module _ (marks : List ℕ) (n m : ℕ) where
  -- what stood past the end before is the new one,
  up_to_here : (i : ℕ) → i ≤ length marks → get_or (marks ++ n ∷ []) i m ≡ get_or marks i n
  up_to_here i l = elim (cases_lt i (length marks)) as (λ _. get_or (marks ++ n ∷ []) i m ≡ get_or marks i n) [
    | inl k ↦ get_or_append_left marks (n ∷ []) m i k ∙ get_or_default marks i m n k
    | inr k ↦ (let end : i ≡ length marks = omega arith in
        ap (λ j. get_or (marks ++ n ∷ []) j m) end ∙ get_or-append_seam marks n [] m ∙ sym (get_or-eq_default marks n k))
  ]

  -- and past it stands another
  past_it : (i : ℕ) → length marks < i → get_or (marks ++ n ∷ []) i m ≡ m
  past_it i l = get_or-eq_default (marks ++ n ∷ []) m (let e = length_push marks n in omega arith)

  at_most : AreOrdered marks n → (i : ℕ) → get_or marks i n ≤ n
  at_most ordered i = let a = ordered i (i + length marks) (omega arith) in
      let b : get_or marks (i + length marks) n ≡ n = get_or-eq_default marks n (omega arith) in omega arith

  one_more : AreOrdered marks n → n ≤ m → AreOrdered (marks ++ n ∷ []) m
  one_more ordered few i j l = elim (cases_lt (length marks) j) as (λ _. get_or (marks ++ n ∷ []) i m ≤ get_or (marks ++ n ∷ []) j m) [
    | inl k ↦ (let a = past_it j k in elim (cases_lt (length marks) i) as (λ _. get_or (marks ++ n ∷ []) i m ≤ get_or (marks ++ n ∷ []) j m) [
      | inl h ↦ (let b = past_it i h in omega arith)
      | inr h ↦ (let b = up_to_here i h in let c = at_most ordered i in omega arith)
    ])
    | inr k ↦ (let a = up_to_here j k in let b = up_to_here i (omega arith) in let c = ordered i j l in omega arith)
  ]

  one_less : AreOrdered (marks ++ n ∷ []) m → AreOrdered marks n × (n ≤ m)
  one_less ordered = (
    order,
    (let a = ordered (length marks) (length marks + 1) (omega arith) in let b = up_to_here (length marks) (omega arith) in
        let c = past_it (length marks + 1) (omega arith) in let d : get_or marks (length marks) n ≡ n = get_or-eq_default marks n (omega arith) in omega arith),
  )
    where
      order : AreOrdered marks n
      order i j l = elim (cases_lt (length marks) j) as (λ _. get_or marks i n ≤ get_or marks j n) [
        | inl k ↦ (let a : get_or marks j n ≡ n = get_or-eq_default marks n (omega arith) in elim (cases_lt (length marks) i) as (λ _. get_or marks i n ≤ get_or marks j n) [
          | inl h ↦ (let b : get_or marks i n ≡ n = get_or-eq_default marks n (omega arith) in omega arith)
          | inr h ↦ (let b = up_to_here i h in let c = ordered i (length marks) h in let d = up_to_here (length marks) (omega arith) in
              let e : get_or marks (length marks) n ≡ n = get_or-eq_default marks n (omega arith) in omega arith)
        ])
        | inr k ↦ (let a = up_to_here j k in let b = up_to_here i (omega arith) in let c = ordered i j l in omega arith)
      ]

-- ---- marks

module _ (p : ProblemParts) where
  -- where the last prefix is live, all decisions close it
  pub closed_here : (values : List Bool) (decisions : List Decision) (marks : List ℕ) → AreMarks p values decisions marks → length values < length marks
      → IsClosure p values (decided_by decisions)
  closed_here values decisions marks are live =
      let past : get_or marks (suc (length values)) (length decisions) ≡ length decisions = get_or-eq_default marks (length decisions) (let f = are.few in omega arith) in
      subst (λ prefix. IsClosure p prefix (decided_by decisions)) (take_all (length values) values (omega arith))
      (subst (λ ds. IsClosure p (take (length values) values) (decided_by ds)) (ap (λ n. take n decisions) past ∙ take_all (length decisions) decisions (omega arith))
      (are.closed (length values) live))

  -- and where it has no mark it isn't live
  pub dead_here : (values : List Bool) (decisions : List Decision) (marks : List ℕ) → AreMarks p values decisions marks → length marks ≤ length values
      → Lives p (said_by values) → ⊥
  dead_here values decisions marks are few lives =
      let first = take (length marks) values in
      are.dead few (lives_less p (said_by first) (said_by values)
      (subst (λ all. IsLess (said_by first) (said_by all)) (take-append-drop (length marks) values) (said_less first (drop (length marks) values))) lives)

  -- ---- the empty prefix

  pub marks_live : (decisions : List Decision) → IsClosure p [] (decided_by decisions) → AreMarks p [] decisions (0 ∷ [])
  marks_live decisions closure = record {
    few = omega arith;
    ordered = one_more [] 0 (length decisions) (λ i j l. omega arith) (omega arith);
    closed = λ k l. subst (λ ds. IsClosure p (take k []) (decided_by ds)) (sym (all k l)) (subst (λ prefix. IsClosure p prefix (decided_by decisions)) (sym (none k)) closure);
    dead = λ l. absurd (omega arith);
  }
    where
      none : (k : ℕ) → ◌≡◌ {A = List Bool} (take k []) []
      none k = take_all k [] (omega arith)

      all : (k : ℕ) → k < 1 → take (get_or (0 ∷ []) (suc k) (length decisions)) decisions ≡ decisions
      all k l = ap (λ n. take n decisions) (past_it [] 0 (length decisions) (suc k) (omega arith)) ∙ take_all (length decisions) decisions (omega arith)

  pub marks_dead : (decisions : List Decision) → (Lives p (said_by []) → ⊥) → AreMarks p [] decisions []
  marks_dead decisions lost = record {
    few = omega arith;
    ordered = λ i j l. omega arith;
    closed = λ k l. absurd (omega arith);
    dead = λ l. lost;
  }

  -- ---- one value more

  module _ (values : List Bool) (full : Bool) (decisions : List Decision) (marks : List ℕ) (are : AreMarks p values decisions marks) where
    -- the decisions stay
    pub marks_stay : (Lives p (said_by (take (length marks) (values ++ full ∷ []))) → ⊥) → AreMarks p (values ++ full ∷ []) decisions marks
    marks_stay lost = record {
      few = (let f = are.few in let e = length_push values full in omega arith);
      ordered = are.ordered;
      closed = λ k l. subst (λ prefix. IsClosure p prefix (decided_by (take (get_or marks (suc k) (length decisions)) decisions)))
          (sym (take-append-le k values (full ∷ []) (let f = are.few in omega arith))) (are.closed k l);
      dead = λ l. lost;
    }

    -- the last prefix isn't live, and so neither is the next
    pub marks_below : length marks ≤ length values → AreMarks p (values ++ full ∷ []) decisions marks
    marks_below few = marks_stay (subst (λ prefix. Lives p (said_by prefix) → ⊥) (sym (take-append-le (length marks) values (full ∷ []) few)) (are.dead few))

    module _ (live : length values < length marks) where
      at_end : length marks ≡ length (values ++ full ∷ [])
      at_end = let f = are.few in let e = length_push values full in omega arith

      -- it is live, but the next isn't
      pub marks_end : (Lives p (said_by (values ++ full ∷ [])) → ⊥) → AreMarks p (values ++ full ∷ []) decisions marks
      marks_end lost = marks_stay (subst (λ prefix. Lives p (said_by prefix) → ⊥) (sym (take_all (length marks) (values ++ full ∷ []) (let e = at_end in omega arith))) lost)

      -- or that is too
      pub marks_on : (new : List Decision) → take (length decisions) new ≡ decisions → IsClosure p (values ++ full ∷ []) (decided_by new)
          → AreMarks p (values ++ full ∷ []) new (marks ++ length decisions ∷ [])
      marks_on new front closure = record {
        few = (let e = at_end in let f = length_push marks (length decisions) in omega arith);
        ordered = one_more marks (length decisions) (length new) are.ordered longer;
        closed = closed;
        dead = λ l. absurd (let e = at_end in let f = length_push marks (length decisions) in omega arith);
      }
        where
          longer : length decisions ≤ length new
          longer = let a = ap length front in let b = length-take (length decisions) new in omega arith

          Closes : ℕ → Type 0
          Closes k = IsClosure p (take k (values ++ full ∷ [])) (decided_by (take (get_or (marks ++ length decisions ∷ []) (suc k) (length new)) new))

          earlier : (k : ℕ) → k < length marks → Closes k
          earlier k l =
              let h = get_or marks (suc k) (length decisions) in
              let low : h ≤ length decisions = at_most marks (length decisions) (length new) are.ordered (suc k) in
              let same : take (get_or (marks ++ length decisions ∷ []) (suc k) (length new)) new ≡ take h decisions =
              ap (λ n. take n new) (up_to_here marks (length decisions) (length new) (suc k) (omega arith)) ∙ sym (take-take h (length decisions) new low) ∙ ap (take h) front in
              subst (λ prefix. IsClosure p prefix (decided_by (take (get_or (marks ++ length decisions ∷ []) (suc k) (length new)) new)))
              (sym (take-append-le k values (full ∷ []) (let f = are.few in omega arith)))
              (subst (λ ds. IsClosure p (take k values) (decided_by ds)) (sym same) (are.closed k l))

          last : (k : ℕ) → k ≡ length marks → Closes k
          last k at =
              let same : take (get_or (marks ++ length decisions ∷ []) (suc k) (length new)) new ≡ new =
              ap (λ n. take n new) (past_it marks (length decisions) (length new) (suc k) (omega arith)) ∙ take_all (length new) new (omega arith) in
              subst (λ prefix. IsClosure p prefix (decided_by (take (get_or (marks ++ length decisions ∷ []) (suc k) (length new)) new)))
              (sym (take_all k (values ++ full ∷ []) (let e = at_end in omega arith)))
              (subst (λ ds. IsClosure p (values ++ full ∷ []) (decided_by ds)) (sym same) closure)

          closed : (k : ℕ) → k < length (marks ++ length decisions ∷ []) → Closes k
          closed k l = elim (cases_lt k (length marks)) as (λ _. Closes k) [
            | inl m ↦ earlier k m
            | inr m ↦ last k (let e = length_push marks (length decisions) in omega arith)
          ]

  -- ---- one value less

  module _ (shorter : List Bool) (full : Bool) (decisions : List Decision) where
    -- the prefix wasn't live: the decisions stay
    pub marks_above : (marks : List ℕ) → AreMarks p (shorter ++ full ∷ []) decisions marks → length marks ≤ length (shorter ++ full ∷ []) → AreMarks p shorter decisions marks
    marks_above marks are few = record {
      few = (let e = length_push shorter full in omega arith);
      ordered = are.ordered;
      closed = λ k l. subst (λ prefix. IsClosure p prefix (decided_by (take (get_or marks (suc k) (length decisions)) decisions)))
          (take-append-le k shorter (full ∷ []) (let e = length_push shorter full in omega arith)) (are.closed k l);
      dead = λ l. subst (λ prefix. Lives p (said_by prefix) → ⊥) (take-append-le (length marks) shorter (full ∷ []) l) (are.dead few);
    }

    -- it was: the last mark tells how many stay
    pub marks_back : (marks : List ℕ) (mark : ℕ) → AreMarks p (shorter ++ full ∷ []) decisions (marks ++ mark ∷ []) → length (shorter ++ full ∷ []) < length (marks ++ mark ∷ [])
        → (mark ≤ length decisions) × AreMarks p shorter (take mark decisions) marks
    marks_back marks mark are live = (
      order.1,
      record {
        few = (let e = at_end in omega arith);
        ordered = λ i j l. subst (λ n. get_or marks i n ≤ get_or marks j n) (sym kept) (order.0 i j l);
        closed = closed;
        dead = λ l. absurd (let e = at_end in omega arith);
      },
    )
      where
        order : AreOrdered marks mark × (mark ≤ length decisions)
        order = one_less marks mark (length decisions) are.ordered

        kept : length (take mark decisions) ≡ mark
        kept = length-take-le mark decisions order.1

        at_end : length marks ≡ length shorter + 1
        at_end = let a = are.few in let b = length_push shorter full in let c = length_push marks mark in omega arith

        closed : (k : ℕ) → k < length marks → IsClosure p (take k shorter) (decided_by (take (get_or marks (suc k) (length (take mark decisions))) (take mark decisions)))
        closed k l =
            let h = get_or marks (suc k) mark in
            let low : h ≤ mark = at_most marks mark mark order.0 (suc k) in
            let now : take (get_or marks (suc k) (length (take mark decisions))) (take mark decisions) ≡ take h decisions =
            ap (λ n. take (get_or marks (suc k) n) (take mark decisions)) kept ∙ take-take h mark decisions low in
            let before : take (get_or (marks ++ mark ∷ []) (suc k) (length decisions)) decisions ≡ take h decisions =
            ap (λ n. take n decisions) (up_to_here marks mark (length decisions) (suc k) (omega arith)) in
            subst (λ prefix. IsClosure p prefix (decided_by (take (get_or marks (suc k) (length (take mark decisions))) (take mark decisions))))
            (take-append-le k shorter (full ∷ []) (let e = at_end in omega arith))
            (subst (λ ds. IsClosure p (take k (shorter ++ full ∷ [])) (decided_by ds)) (before ∙ sym now) (are.closed k (let e = length_push marks mark in omega arith)))
