-- It can't be that things which finitely many others lead to have no list in order.
use Rattle.std.proofs.Common.{◌≡◌, ◌⊎◌, inl, inr, List, [], ◌∷◌, refl, sym, ◌∙◌, subst}
use Rattle.lemmas.specs.Lists.{Member, Each, Ascends}
use Rattle.lemmas.proofs.Decisions.{IsDecided, never_undecided}
use Rattle.lemmas.proofs.Lists.{IsWithin, each-at, each-from, each-weaker}

-- some list in order that has one more member
pub record HasOneMore {A : Type 0} (R : A → A → Type 0) (x : A) (xs : List A) : Type 0 where
  pub list : List A
  pub ordered : Ascends R list
  pub there : IsWithin (x ∷ xs) list
  pub back : IsWithin list (x ∷ xs)

-- A list of things with a property, in order; each of the candidates that count leads to one of them.
pub record IsListFrom {A C : Type 0} (R : A → A → Type 0) (P : A → Type 0) (Counts : C → Type 0) (LeadsTo : C → A → Type 0)
    (cs : List C) (xs : List A) : Type 0 where
  pub each : Each P xs
  pub ordered : Ascends R xs
  pub reached : (c : C) → Member cs c → Counts c → (x : A) × Member xs x × LeadsTo c x

-- of two things with the property one comes before the other, unless they are one
module _ {A : Type 0} (R : A → A → Type 0) (P : A → Type 0) (onward : (x y z : A) → R x y → R y z → R x z)
    (in_order : (x y : A) → P x → P y → (x ≡ y) ⊎ (R x y ⊎ R y x)) where
  -- one more is put in its place
  with_one : (x : A) → P x → (xs : List A) → Each P xs → Ascends R xs → HasOneMore R x xs
  with_one x p [] each ordered = record { list = x ∷ []; ordered = (tt, tt); there = λ y m. m; back = λ y m. m }
  with_one x p (z ∷ xs) each ordered = by (in_order x z p each.0) (with_one x p xs each.1 ordered.1)
    where
      by : (x ≡ z) ⊎ (R x z ⊎ R z x) → HasOneMore R x xs → HasOneMore R x (z ∷ xs)
      by (inl e) rest = record {
        list = z ∷ xs;
        ordered = ordered;
        there = λ y m. elim m as (λ _. Member (z ∷ xs) y) [ inl f ↦ inl (sym e ∙ f) | inr l ↦ l ];
        back = λ y m. inr m;
      }
      by (inr (inl first)) rest = record {
        list = x ∷ z ∷ xs;
        ordered = ((first, each-weaker (R z) (R x) xs (λ y later. onward x z y first later) ordered.0), ordered);
        there = λ y m. m;
        back = λ y m. m;
      }
      by (inr (inr later)) rest = record {
        list = z ∷ rest.list;
        ordered = (each-from (R z) rest.list (λ y m. after y (rest.back y m)), rest.ordered);
        there = there;
        back = λ y m. elim m as (λ _. Member (x ∷ z ∷ xs) y) [ inl f ↦ inr (inl f) | inr l ↦ back y (rest.back y l) ];
      }
        where
          after : (y : A) → Member (x ∷ xs) y → R z y
          after y (inl f) = subst (R z) f later
          after y (inr l) = each-at (R z) xs y ordered.0 l

          there : (y : A) → Member (x ∷ z ∷ xs) y → Member (z ∷ rest.list) y
          there y (inl f) = inr (rest.there y (inl f))
          there y (inr (inl f)) = inl f
          there y (inr (inr l)) = inr (rest.there y (inr l))

          back : (y : A) → Member (x ∷ xs) y → Member (x ∷ z ∷ xs) y
          back y (inl f) = inl f
          back y (inr l) = inr (inr l)

  module _ {C : Type 0} (Counts : C → Type 0) (LeadsTo : C → A → Type 0)
      (some : (c : C) → Counts c → ((x : A) → P x → LeadsTo c x → ⊥) → ⊥) where
    -- a candidate that doesn't count asks for nothing more
    list-without : (c : C) (cs : List C) (xs : List A) → (Counts c → ⊥) → IsListFrom R P Counts LeadsTo cs xs
        → IsListFrom R P Counts LeadsTo (c ∷ cs) xs
    list-without c cs xs none h = record {
      each = h.each;
      ordered = h.ordered;
      reached = λ d m counts. elim m as (λ _. (x : A) × Member xs x × LeadsTo d x) [
        | inl e ↦ absurd (none (subst Counts (sym e) counts))
        | inr l ↦ h.reached d l counts
      ];
    }

    -- what one leads to is put in its place
    list-with : (c : C) (cs : List C) (xs : List A) (x : A) → LeadsTo c x → P x → IsListFrom R P Counts LeadsTo cs xs
        → (more : HasOneMore R x xs) → IsListFrom R P Counts LeadsTo (c ∷ cs) more.list
    list-with c cs xs x leads p h more = record {
      each = each-from P more.list (λ y m. elim (more.back y m) as (λ _. P y) [
        | inl e ↦ subst P e p
        | inr l ↦ each-at P xs y h.each l
      ]);
      ordered = more.ordered;
      reached = λ d m counts. elim m as (λ _. (y : A) × Member more.list y × LeadsTo d y) [
        | inl e ↦ (x, more.there x (inl refl), subst (λ b. LeadsTo b x) e leads)
        | inr l ↦ (let r = h.reached d l counts in (r.0, more.there r.0 (inr r.1), r.2))
      ];
    }

    -- It can't be that there is no list.
    pub some_list : (cs : List C) → ((xs : List A) → IsListFrom R P Counts LeadsTo cs xs → ⊥) → ⊥
    some_list [] never = never [] (record { each = tt; ordered = tt; reached = λ c m. absurd m })
    some_list (c ∷ cs) never = some_list cs (λ xs h. never_undecided (Counts c) (by xs h))
      where
        by : (xs : List A) → IsListFrom R P Counts LeadsTo cs xs → IsDecided (Counts c) → ⊥
        by xs h (inr none) = never xs (list-without c cs xs none h)
        by xs h (inl counts) = some c counts (λ x p leads.
            let more = with_one x p xs h.each h.ordered in
            never more.list (list-with c cs xs x leads p h more))
