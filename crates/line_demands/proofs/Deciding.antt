-- One decision more, or one less.
use Rattle.std.proofs.Common.{◌≡◌, ◌⊎◌, inl, inr, Bool, true, false, if◌then◌else◌, ◌==◌, ℕ, ◌<◌, ◌≤◌, List, [], ◌∷◌, ◌++◌, length, map, get_or, set, Option, Some, None, refl, ap, sym, subst, ◌∙◌, append_assoc, arith}
use Rattle.std.specs.List.{IsDistinct, AllByRecursion, list_any}
use Rattle.std.proofs.lemmas.Bool.{false≢true, or_cases, cases_Bool, eqb-true, eqb-false}
use Rattle.std.proofs.lemmas.List.{length-map, length-set, length_push, same_from_push, get_or-set_same, get_or-set_other}
use Rattle.std.proofs.lemmas.Map.Steps.{length-le_from_distinct_below}
use Rattle.solid_model.specs.declared.decision.Decision.{Decision}
use Rattle.line_demands.specs.KeptColumns.{AreValues}
use Rattle.solid_model.proofs.DecidedMore.{other_first, decided_more}
use Rattle.solid_model.specs.Decisions.{decided_by, AreDecisions}

-- ---- which decisions there are

pub none_taken : (count : ℕ) → AreDecisions count []
none_taken count [] later d e = absurd (let l = ap length e in omega arith)
none_taken count (x ∷ earlier) later d e = absurd (let l = ap length e in omega arith)

-- a list is empty or has a last member
by_end : {A : Type 0} (xs : List A) → (xs ≡ []) ⊎ ((front : List A) × (x : A) × (xs ≡ front ++ x ∷ []))
by_end [] = inl refl
by_end {A} (x ∷ xs) = elim (by_end xs) as (λ _. (x ∷ xs ≡ []) ⊎ ((front : List A) × (y : A) × (x ∷ xs ≡ front ++ y ∷ []))) [
  | inl e ↦ inr ([], x, ap (λ ys. x ∷ ys) e)
  | inr e ↦ inr (x ∷ e.0, e.1, ap (λ ys. x ∷ ys) e.2)
]

pub one_taken : (count : ℕ) (decisions : List Decision) (d : Decision) → AreDecisions count decisions → d.block < count → decided_by decisions d.block ≡ None
    → AreDecisions count (decisions ++ d ∷ [])
one_taken count decisions d taken there untaken earlier later e same = elim (by_end later) as (λ _. (e.block < count) × (decided_by earlier e.block ≡ None)) [
  | inl none ↦ (let parts = same_from_push decisions earlier d e (same ∙ ap (λ ys. earlier ++ e ∷ ys) none) in
      (subst (λ (x : Decision). x.block < count) parts.1 there, subst (λ (x : Decision). decided_by earlier x.block ≡ None) parts.1 (subst (λ ys. decided_by ys d.block ≡ None) parts.0 untaken)))
  | inr end ↦ (let parts = same_from_push decisions (earlier ++ e ∷ end.0) d end.1 (same ∙ ap (λ ys. earlier ++ e ∷ ys) end.2 ∙ sym (append_assoc earlier (e ∷ end.0) (end.1 ∷ []))) in
      taken earlier end.0 e parts.0)
]

pub one_untaken : (count : ℕ) (decisions : List Decision) (d : Decision) → AreDecisions count (decisions ++ d ∷ []) → AreDecisions count decisions
one_untaken count decisions d taken earlier later e same = taken earlier (later ++ d ∷ []) e (ap (λ ys. ys ++ d ∷ []) same ∙ append_assoc earlier (e ∷ later) (d ∷ []))

pub last_untaken : (count : ℕ) (decisions : List Decision) (d : Decision) → AreDecisions count (decisions ++ d ∷ []) → decided_by decisions d.block ≡ None
last_untaken count decisions d taken = (taken decisions [] d refl).1

-- all but the first
others_taken : (count : ℕ) (d : Decision) (decisions : List Decision) → AreDecisions count (d ∷ decisions) → AreDecisions count decisions
others_taken count d decisions taken earlier later e same =
    let said = taken (d ∷ earlier) later e (ap (λ ys. d ∷ ys) same) in
    (said.0, (other_first (d.block == e.block) d.full (decided_by earlier e.block) said.1).1)

-- the others are on other blocks
differ_from_first : (count : ℕ) (d : Decision) (decisions earlier rest : List Decision) → AreDecisions count (d ∷ decisions) → decisions ≡ earlier ++ rest
    → AllByRecursion (λ b. (d.block == b) ≡ false) (map (λ (x : Decision). x.block) rest)
differ_from_first count d decisions earlier [] taken same = tt
differ_from_first count d decisions earlier (e ∷ rest) taken same = (
  (other_first (d.block == e.block) d.full (decided_by earlier e.block) (taken (d ∷ earlier) rest e (ap (λ ys. d ∷ ys) same)).1).0,
  differ_from_first count d decisions (earlier ++ e ∷ []) rest taken (same ∙ sym (append_assoc earlier (e ∷ []) rest)),
)

distinct : (count : ℕ) (decisions : List Decision) → AreDecisions count decisions → IsDistinct ◌==◌ (map (λ (x : Decision). x.block) decisions)
unfolding IsDistinct
distinct count [] taken = tt
distinct count (d ∷ decisions) taken = (differ_from_first count d decisions [] decisions taken refl, distinct count decisions (others_taken count d decisions taken))

below : (count : ℕ) (decisions : List Decision) → AreDecisions count decisions → (b : ℕ) → list_any (λ x. b == x) (map (λ (x : Decision). x.block) decisions) ≡ true → b < count
below count [] taken b at = absurd (false≢true at)
below count (d ∷ decisions) taken b at = elim (or_cases (b == d.block) (list_any (λ x. b == x) (map (λ (x : Decision). x.block) decisions)) at) as (λ _. b < count) [
  | inl is ↦ (let e = eqb-true b d.block is in let l = (taken [] decisions d refl).0 in omega arith)
  | inr later ↦ below count decisions (others_taken count d decisions taken) b later
]

-- so there are no more of them than blocks
pub few_taken : (count : ℕ) (decisions : List Decision) → AreDecisions count decisions → length decisions ≤ count
few_taken count decisions taken =
    let few = length-le_from_distinct_below (map (λ (x : Decision). x.block) decisions) count (distinct count decisions taken) (below count decisions taken) in
    omega (arith, few, length-map decisions (λ (x : Decision). x.block))

-- and room for one more
pub room_for_one : (count room : ℕ) (decisions : List Decision) (d : Decision) → AreDecisions count decisions → d.block < count → decided_by decisions d.block ≡ None
    → count ≤ room → length decisions < room
room_for_one count room decisions d taken there untaken roomy =
    let few = few_taken count (decisions ++ d ∷ []) (one_taken count decisions d taken there untaken) in
    omega (arith, few, length_push decisions d)

pub same_test : (a b : ℕ) → (a == b) ≡ (b == a)
same_test a b = grind arith

-- ---- what is decided of each block

-- no decision is on a block beyond them
pub none_above : (count : ℕ) (decisions : List Decision) (b : ℕ) → AreDecisions count decisions → count ≤ b → decided_by decisions b ≡ None
none_above count [] b taken l = refl
none_above count (d ∷ decisions) b taken l = by (d.block == b) refl (none_above count decisions b (others_taken count d decisions taken) l)
  where
    by : (t : Bool) → (d.block == b) ≡ t → decided_by decisions b ≡ None → (if t then Some d.full else decided_by decisions b) ≡ None
    by true is rest = absurd (let e = eqb-true d.block b is in let m = (taken [] decisions d refl).0 in omega arith)
    by false off rest = rest

module _ (count : ℕ) (decisions : List Decision) (d : Decision) (values : List (Option Bool)) (there : d.block < count) (untaken : decided_by decisions d.block ≡ None) where
  -- one decision more
  pub values_more : AreValues count decisions values → AreValues count (decisions ++ d ∷ []) (set values d.block (Some d.full))
  values_more are = record {
    count = length-set values d.block (Some d.full) ∙ are.count;
    each = λ b e l. elim (cases_Bool (d.block == b)) as (λ _. get_or (set values d.block (Some d.full)) b e ≡ decided_by (decisions ++ d ∷ []) b) [
      | inl is ↦ ap (λ j. get_or (set values d.block (Some d.full)) j e) (sym (eqb-true d.block b is)) ∙ get_or-set_same values d.block (Some d.full) e (let m = are.count in omega arith)
          ∙ sym (decided_more decisions d b untaken ∙ ap (λ (t : Bool). if t then Some d.full else decided_by decisions b) is)
      | inr off ↦ get_or-set_other values d.block b (Some d.full) e (λ g. eqb-false d.block b off (sym g)) ∙ are.each b e l
          ∙ sym (decided_more decisions d b untaken ∙ ap (λ (t : Bool). if t then Some d.full else decided_by decisions b) off)
    ];
  }

  -- one decision less
  pub values_less : AreValues count (decisions ++ d ∷ []) values → AreValues count decisions (set values d.block None)
  values_less are = record {
    count = length-set values d.block None ∙ are.count;
    each = λ b e l. elim (cases_Bool (d.block == b)) as (λ _. get_or (set values d.block None) b e ≡ decided_by decisions b) [
      | inl is ↦ (let same : d.block ≡ b = eqb-true d.block b is in
          ap (λ j. get_or (set values d.block None) j e) (sym same) ∙ get_or-set_same values d.block None e (let m = are.count in omega arith) ∙ sym (ap (decided_by decisions) (sym same) ∙ untaken))
      | inr off ↦ get_or-set_other values d.block b None e (λ g. eqb-false d.block b off (sym g)) ∙ are.each b e l
          ∙ decided_more decisions d b untaken ∙ ap (λ (t : Bool). if t then Some d.full else decided_by decisions b) off
    ];
  }
