-- The least of what is excluded, gathered.
use Rattle.std.proofs.Common.{◌≡◌, ◌≢◌, ◌↔◌, ◌⊎◌, inl, inr, ◌==◌, ◌||◌, Bool, true, false, not, ℕ, ◌<◌, ◌≤◌, ◌^◌, nat_lt, Option, Some, None, if◌then◌else◌, refl, ap, sym, subst, ◌∙◌, arith}
use Rattle.std.proofs.lemmas.Bool.{cases_Bool, eqb-true, eqb-false, false≢true, ltb-true, ltb-false}
use Rattle.solid_model.specs.declared.decision.Decision.{Decision}
use Rattle.lemmas.specs.Bits.{is_set}
use Rattle.lemmas.proofs.WordBits.{zeros}
use Rattle.propagate.specs.Looking.{IsLeastIn, TellsLeast, lesser_decision}
use Rattle.line_demands.proofs.LowestLeft.{rest_off, rest_lowest, rest_other}

-- the same for what is excluded alike
pub told_alike : (P Q : ℕ → Bool → Type 0) (best : Option Decision) → ((b : ℕ) (v : Bool) → P b v → Q b v) → ((b : ℕ) (v : Bool) → Q b v → P b v) → TellsLeast P best → TellsLeast Q best
told_alike P Q None to from none = λ b v e. none b v (from b v e)
told_alike P Q (Some d) to from told = record {
  is = to d.block (not d.full) told.is;
  least = λ b v e. told.least b v (from b v e);
  full = λ f e. told.full f (from d.block false e);
}

module _ (P Q : ℕ → Bool → Type 0) where
  abbrev Either : ℕ → Bool → Type 0
  Either b v = P b v ⊎ Q b v

  pub told_lesser : (one other : Option Decision) → TellsLeast P one → TellsLeast Q other → TellsLeast Either (lesser_decision one other)
  told_lesser None None none never = λ b v h. elim h as (λ _. ⊥) [ inl e ↦ none b v e | inr e ↦ never b v e ]
  told_lesser None (Some e) none told = record {
    is = inr told.is;
    least = λ b v h. elim h as (λ _. e.block ≤ b) [ inl f ↦ absurd (none b v f) | inr f ↦ told.least b v f ];
    full = λ f h. elim h as (λ _. ⊥) [ inl g ↦ none e.block false g | inr g ↦ told.full f g ];
  }
  told_lesser (Some d) None told none = record {
    is = inl told.is;
    least = λ b v h. elim h as (λ _. d.block ≤ b) [ inl f ↦ told.least b v f | inr f ↦ absurd (none b v f) ];
    full = λ f h. elim h as (λ _. ⊥) [ inl g ↦ told.full f g | inr g ↦ none d.block false g ];
  }
  told_lesser (Some d) (Some e) one two = by (d.block == e.block) refl (nat_lt d.block e.block) refl
    where
      by : (s : Bool) → (d.block == e.block) ≡ s → (t : Bool) → nat_lt d.block e.block ≡ t
          → TellsLeast Either (if s then Some (record { block = d.block; full = d.full || e.full }) else (if t then Some d else Some e))
      by true s t l = let same = eqb-true d.block e.block s in both same d.full e.full refl refl
        where
          both : d.block ≡ e.block → (f g : Bool) → d.full ≡ f → e.full ≡ g → IsLeastIn Either (record { block = d.block; full = d.full || e.full })
          both same f g f_is g_is = record {
            is = given f g f_is g_is;
            least = λ b v h. elim h as (λ _. d.block ≤ b) [ inl k ↦ one.least b v k | inr k ↦ (let m = two.least b v k in omega arith) ];
            full = λ no h. elim h as (λ _. ⊥) [
              | inl k ↦ one.full (first d.full e.full no) k
              | inr k ↦ two.full (second d.full e.full no) (subst (λ n. Q n false) same k)
            ];
          }
            where
              first : (x y : Bool) → (x || y) ≡ false → x ≡ false
              first true y h = h
              first false y h = refl

              second : (x y : Bool) → (x || y) ≡ false → y ≡ false
              second true y h = absurd (false≢true (sym h))
              second false y h = h

              given : (f g : Bool) → d.full ≡ f → e.full ≡ g → Either d.block (not (d.full || e.full))
              given true g f_is g_is = inl (subst (λ x. P d.block (not x)) (f_is ∙ sym (ap (λ x. x || e.full) f_is)) one.is)
              given false g f_is g_is = inr (subst (λ n. Q n (not (d.full || e.full))) (sym same) (subst (λ x. Q e.block (not x)) (sym (ap (λ x. x || e.full) f_is)) two.is))
      by false s true l = let less = ltb-true d.block e.block l in record {
        is = inl one.is;
        least = λ b v h. elim h as (λ _. d.block ≤ b) [ inl k ↦ one.least b v k | inr k ↦ (let m = two.least b v k in omega arith) ];
        full = λ f h. elim h as (λ _. ⊥) [ inl k ↦ one.full f k | inr k ↦ (let m = two.least d.block false k in absurd (omega arith)) ];
      }
      by false s false l = let more = ltb-false d.block e.block l in let other = eqb-false d.block e.block s in record {
        is = inr two.is;
        least = λ b v h. elim h as (λ _. e.block ≤ b) [ inl k ↦ (let m = one.least b v k in omega arith) | inr k ↦ two.least b v k ];
        full = λ f h. elim h as (λ _. ⊥) [ inl k ↦ (let m = one.least e.block false k in absurd (omega arith)) | inr k ↦ two.full f k ];
      }

-- ---- cells of a word, taken one after another, the lowest first

-- a cell that isn't left excludes a value
abbrev pub Taken : (ℕ → ℕ → Bool → Type 0) → ℕ → ℕ → ℕ → Bool → Type 0
Taken excludes cells left block value = (k : ℕ) × (is_set cells k ≡ true) × (is_set left k ≡ false) × excludes k block value

-- one cell more
pub told_more : (excludes : ℕ → ℕ → Bool → Type 0) (cells left rest : ℕ) → left < 2 ^ 64 → rest < 2 ^ 64 → left ≢ 0
    → ((k : ℕ) → (is_set rest k ≡ true) ↔ ((is_set left k ≡ true) × ((j : ℕ) × (j < k) × (is_set left j ≡ true))))
    → is_set cells (zeros left) ≡ true → (best cell : Option Decision)
    → TellsLeast (Taken excludes cells left) best → TellsLeast (excludes (zeros left)) cell → TellsLeast (Taken excludes cells rest) (lesser_decision best cell)
told_more excludes cells left rest fits fits_too some is there best cell told here = told_alike (λ b v. Taken excludes cells left b v ⊎ excludes (zeros left) b v) (Taken excludes cells rest)
    (lesser_decision best cell)
    (λ b v h. elim h as (λ _. Taken excludes cells rest b v) [
      | inl (k, in_cells, off, e) ↦ (k, in_cells, rest_off left rest fits fits_too some is k off, e)
      | inr e ↦ (zeros left, there, rest_lowest left rest fits fits_too some is, e)
    ])
    (λ b v (k, in_cells, off, e). elim (cases_Bool (is_set left k)) as (λ _. Taken excludes cells left b v ⊎ excludes (zeros left) b v) [
      | inl set ↦ inr (subst (λ j. excludes j b v) (rest_other left rest fits fits_too some is k set off) e)
      | inr clear ↦ inl (k, in_cells, clear, e)
    ])
    (told_lesser (Taken excludes cells left) (excludes (zeros left)) best cell told here)
