-- Chains of steps: longer, one after another, back, and taken along a function.
use Rattle.std.proofs.Common.{◌↔◌, zero, suc, refl, sym, ap, subst}
use Rattle.lemmas.specs.Chains.{Reaches}

module _ {A : Type 0} (R : A → A → Type 0) where
  -- no step leads to where it begins
  pub reaches-itself : (a : A) → Reaches R a a
  reaches-itself a = (zero, refl)

  -- a chain, and then a step
  pub reaches-then_step : (a b c : A) → Reaches R a b → R b c → Reaches R a c
  reaches-then_step a b c (n, chain) step = (suc n, (b, chain, step))

  -- one step
  pub reaches-step : (a b : A) → R a b → Reaches R a b
  reaches-step a b step = reaches-then_step a a b (reaches-itself a) step

  -- chains one after another
  pub reaches-onward : (a b c : A) → Reaches R a b → Reaches R b c → Reaches R a c
  reaches-onward a b c before (zero, same) = subst (Reaches R a) same before
  reaches-onward a b c before (suc n, (d, chain, step)) = reaches-then_step a d c (reaches-onward a b d before (n, chain)) step

  -- a step, and then a chain
  pub reaches-step_then : (a b c : A) → R a b → Reaches R b c → Reaches R a c
  reaches-step_then a b c step after = reaches-onward a b c (reaches-step a b step) after

  module _ (P : A → Type 0) (kept : (a b : A) → P a → R a b → P b) where
    -- what each step keeps, a chain keeps
    pub reaches-keeps : (a b : A) → P a → Reaches R a b → P b
    reaches-keeps a b holds (zero, same) = subst P same holds
    reaches-keeps a b holds (suc n, (c, chain, step)) = kept c b (reaches-keeps a c holds (n, chain)) step

    -- a chain back, where the steps that it passes go back
    pub reaches-back_within : ((a b : A) → P a → P b → R a b → R b a) → (a b : A) → P a → Reaches R a b → Reaches R b a
    reaches-back_within back a b holds (zero, same) = (zero, sym same)
    reaches-back_within back a b holds (suc n, (c, chain, step)) =
        let there = reaches-keeps a c holds (n, chain) in
        reaches-step_then b c a (back c b there (kept c b there step) step) (reaches-back_within back a c holds (n, chain))

  -- a chain back, where each step goes back
  pub reaches-back : ((a b : A) → R a b → R b a) → (a b : A) → Reaches R a b → Reaches R b a
  reaches-back back a b chain = reaches-back_within (λ _. Unit {0}) (λ _ _ _ _. tt) (λ x y _ _ step. back x y step) a b tt chain

module _ {A B : Type 0} (R : A → A → Type 0) (S : B → B → Type 0) (f : A → B) where
  -- a chain along a function, where the steps that it passes give chains along it
  pub reaches-map_within : (P : A → Type 0) → ((a b : A) → P a → R a b → P b) → ((a b : A) → P a → R a b → Reaches S (f a) (f b))
      → (a b : A) → P a → Reaches R a b → Reaches S (f a) (f b)
  reaches-map_within P kept along a b holds (zero, same) = (zero, ap f same)
  reaches-map_within P kept along a b holds (suc n, (c, chain, step)) =
      let there = reaches-keeps R P kept a c holds (n, chain) in
      reaches-onward S (f a) (f c) (f b) (reaches-map_within P kept along a c holds (n, chain)) (along c b there step)

  -- a chain along a function, where each step gives a chain along it
  pub reaches-map : ((a b : A) → R a b → Reaches S (f a) (f b)) → (a b : A) → Reaches R a b → Reaches S (f a) (f b)
  reaches-map along a b chain = reaches-map_within (λ _. Unit {0}) (λ _ _ _ _. tt) (λ x y _ step. along x y step) a b tt chain

-- chains of the same steps are the same
pub same_chains : {A : Type 0} (R S : A → A → Type 0) → ((a b : A) → R a b ↔ S a b) → (a b : A) → Reaches R a b ↔ Reaches S a b
same_chains {A} R S same a b = (
  reaches-map R S (λ (x : A). x) (λ x y step. reaches-step S x y ((same x y).0 step)) a b,
  reaches-map S R (λ (x : A). x) (λ x y step. reaches-step R x y ((same x y).1 step)) a b,
)
