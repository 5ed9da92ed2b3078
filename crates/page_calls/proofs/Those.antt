-- Those members of a list that have a property.
use Rattle.std.proofs.Common.{◌≡◌, ◌↔◌, ◌⊎◌, inl, inr, ⊎_elim, ℕ, ◌≤◌, List, [], ◌∷◌, ◌++◌, length, refl, sym, ap, subst, ◌∙◌, append-nil, arith}
use Rattle.lemmas.specs.Lists.{Member, Each, Ascends}
use Rattle.lemmas.proofs.Lists.{IsWithin, each-from, each-at}
use Rattle.page_calls.specs.Those.{AreThose, AreThoseOfEach}

module _ {A : Type 0} (P : A → Type 0) where
  -- they are members, and have it,
  pub from_those : (xs ys : List A) → AreThose P xs ys → (y : A) → Member ys y → Member xs y × P y
  from_those [] ys are y k = absurd (subst (λ (zs : List A). Member zs y) are k)
  from_those (x ∷ xs) ys (inl (none, are)) y k = let m = from_those xs ys are y k in (inr m.0, m.1)
  from_those (x ∷ xs) ys (inr (holds, (rest, is, are))) y k = ⊎_elim {C = Member (x ∷ xs) y × P y} (λ e. (inl e, subst P e holds))
      (λ l. let m = from_those xs rest are y l in (inr m.0, m.1)) (subst (λ (zs : List A). Member zs y) is k)

  -- and each member that has it is among them
  pub to_those : (xs ys : List A) → AreThose P xs ys → (y : A) → Member xs y → P y → Member ys y
  to_those [] ys are y k h = absurd k
  to_those (x ∷ xs) ys (inl (none, are)) y (inl e) h = absurd (none (subst P (sym e) h))
  to_those (x ∷ xs) ys (inl (none, are)) y (inr k) h = to_those xs ys are y k h
  to_those (x ∷ xs) ys (inr (holds, (rest, is, are))) y (inl e) h = subst (λ (zs : List A). Member zs y) (sym is) (inl e)
  to_those (x ∷ xs) ys (inr (holds, (rest, is, are))) y (inr k) h = subst (λ (zs : List A). Member zs y) (sym is) (inr (to_those xs rest are y k h))

  -- they keep the order
  pub those_ascend : (R : A → A → Type 0) (xs ys : List A) → AreThose P xs ys → Ascends R xs → Ascends R ys
  those_ascend R [] ys are up = subst (Ascends R) (sym are) tt
  those_ascend R (x ∷ xs) ys (inl (none, are)) up = those_ascend R xs ys are up.1
  those_ascend R (x ∷ xs) ys (inr (holds, (rest, is, are))) up = subst (Ascends R) (sym is)
      (each-from (R x) rest (λ y k. each-at (R x) xs y up.0 (from_those xs rest are y k).0), those_ascend R xs rest are up.1)

  -- there is one list of them
  pub one_those : (xs ys zs : List A) → AreThose P xs ys → AreThose P xs zs → ys ≡ zs
  one_those [] ys zs are are_too = are ∙ sym are_too
  one_those (x ∷ xs) ys zs (inl a) (inl b) = one_those xs ys zs a.1 b.1
  one_those (x ∷ xs) ys zs (inl a) (inr b) = absurd (a.0 b.0)
  one_those (x ∷ xs) ys zs (inr a) (inl b) = absurd (b.0 a.0)
  one_those (x ∷ xs) ys zs (inr (h, (rest, is, are))) (inr (k, (more, is_too, are_too))) =
      is ∙ ap (λ ws. x ∷ ws) (one_those xs rest more are are_too) ∙ sym is_too

  -- where each member has it, they are all
  pub all_those : (xs ys : List A) → Each P xs → AreThose P xs ys → ys ≡ xs
  all_those [] ys all are = are
  all_those (x ∷ xs) ys all (inl a) = absurd (a.0 all.0)
  all_those (x ∷ xs) ys all (inr (h, (rest, is, are))) = is ∙ ap (λ ws. x ∷ ws) (all_those xs rest all.1 are)

  -- they are no more
  pub no_more_those : (xs ys : List A) → AreThose P xs ys → length ys ≤ length xs
  no_more_those [] ys are = omega (arith, ap length are)
  no_more_those (x ∷ xs) ys (inl a) = omega (arith, no_more_those xs ys a.1)
  no_more_those (x ∷ xs) ys (inr (h, (rest, is, are))) = omega (arith, ap length is, no_more_those xs rest are)

  -- those of two lists together
  pub those-append : (xs us ys vs : List A) → AreThose P xs ys → AreThose P us vs → AreThose P (xs ++ us) (ys ++ vs)
  those-append [] us ys vs are more = subst (λ ws. AreThose P us (ws ++ vs)) (sym are) more
  those-append (x ∷ xs) us ys vs (inl a) more = inl (a.0, those-append xs us ys vs a.1 more)
  those-append (x ∷ xs) us ys vs (inr (h, (rest, is, are))) more = inr (h, (rest ++ vs, ap (λ ws. ws ++ vs) is, those-append xs us rest vs are more))

  -- of two lists that have the same members those have the same members
  pub those_within : (xs us ys vs : List A) → IsWithin xs us → AreThose P xs ys → AreThose P us vs → IsWithin ys vs
  those_within xs us ys vs within are are_too y k =
      let m = from_those xs ys are y k in to_those us vs are_too y (within y m.0) m.1

  -- ---- those of several lists

  -- all lists, one after another
  abbrev pub joined : List (List A) → List A
  joined [] = []
  joined (page ∷ pages) = page ++ joined pages

  -- those of each, together, are those of all together
  pub joined_those : (given pages : List (List A)) → AreThoseOfEach P given pages → AreThose P (joined given) (joined pages)
  joined_those [] pages are = ap joined are
  joined_those (g ∷ given) pages (kept, are, inl (none, rest)) =
      those-append g (joined given) [] (joined pages) (subst (AreThose P g) none are) (joined_those given pages rest)
  joined_those (g ∷ given) pages (kept, are, inr (some, (rest, is, more))) =
      subst (AreThose P (joined (g ∷ given))) (sym (ap joined is)) (those-append g (joined given) kept (joined rest) are (joined_those given rest more))

  -- each has some, and no more than the lists had
  pub few_those : (most : ℕ) (given pages : List (List A)) → Each (λ g. length g ≤ most) given → AreThoseOfEach P given pages
      → Each (λ page. (1 ≤ length page) × (length page ≤ most)) pages
  few_those most [] pages few are = subst (Each (λ page. (1 ≤ length page) × (length page ≤ most))) (sym are) tt
  few_those most (g ∷ given) pages few (kept, are, inl (none, rest)) = few_those most given pages few.1 rest
  few_those most (g ∷ given) pages few (kept, are, inr (some, (rest, is, more))) = subst (Each (λ page. (1 ≤ length page) × (length page ≤ most))) (sym is)
      ((some_of kept some, omega (arith, no_more_those g kept are, few.0)), few_those most given rest few.1 more)
    where
      some_of : (ws : List A) → (ws ≡ [] → ⊥) → 1 ≤ length ws
      some_of [] h = absurd (h refl)
      some_of (w ∷ ws) h = omega arith

  -- one list more, of which nothing is left, or something
  pub none_more : (given pages : List (List A)) (g : List A) → AreThoseOfEach P given pages → AreThose P g [] → AreThoseOfEach P (given ++ g ∷ []) pages
  none_more [] pages g are none = ([], none, inl (refl, are))
  none_more (h ∷ given) pages g (kept, of, inl (e, rest)) none = (kept, of, inl (e, none_more given pages g rest none))
  none_more (h ∷ given) pages g (kept, of, inr (some, (rest, is, more))) none = (kept, of, inr (some, (rest, is, none_more given rest g more none)))

  pub some_more : (given pages : List (List A)) (g kept : List A) → AreThoseOfEach P given pages → AreThose P g kept → (kept ≡ [] → ⊥)
      → AreThoseOfEach P (given ++ g ∷ []) (pages ++ kept ∷ [])
  some_more [] pages g kept are of some = (kept, of, inr (some, ([], ap (λ ws. ws ++ kept ∷ []) are, refl)))
  some_more (h ∷ given) pages g kept (first, of_first, inl (e, rest)) of some = (first, of_first, inl (e, some_more given pages g kept rest of some))
  some_more (h ∷ given) pages g kept (first, of_first, inr (there, (rest, is, more))) of some =
      (first, of_first, inr (there, (rest ++ kept ∷ [], ap (λ ws. ws ++ kept ∷ []) is, some_more given rest g kept more of some)))

  -- ---- there are some

  -- it can't be that there are none such
  pub some_those : (xs : List A) → ((ys : List A) → AreThose P xs ys → ⊥) → ⊥
  some_those [] lacking = lacking [] refl
  some_those (x ∷ xs) lacking = some_those xs (λ rest are.
      let lacks : P x → ⊥ = λ h. lacking (x ∷ rest) (inr (h, (rest, refl, are))) in lacking rest (inl (lacks, are)))

  -- and where it is decided of each member there are
  pub decided_those : (xs : List A) → ((x : A) → Member xs x → P x ⊎ (P x → ⊥)) → (ys : List A) × AreThose P xs ys
  decided_those [] decide = ([], refl)
  decided_those (x ∷ xs) decide =
      let rest = decided_those xs (λ y k. decide y (inr k)) in
      ⊎_elim {C = (ys : List A) × AreThose P (x ∷ xs) ys} (λ h. (x ∷ rest.0, inr (h, (rest.0, refl, rest.1)))) (λ none. (rest.0, inl (none, rest.1))) (decide x (inl refl))

  -- ---- one member more

  pub one_more_fits : (xs ys : List A) (x : A) → AreThose P xs ys → P x → AreThose P (xs ++ x ∷ []) (ys ++ x ∷ [])
  one_more_fits xs ys x are h = those-append xs (x ∷ []) ys (x ∷ []) are (inr (h, ([], refl, refl)))

  pub one_more_lacks : (xs ys : List A) (x : A) → AreThose P xs ys → (P x → ⊥) → AreThose P (xs ++ x ∷ []) ys
  one_more_lacks xs ys x are none = subst (AreThose P (xs ++ x ∷ [])) (append-nil ys) (those-append xs (x ∷ []) ys [] are (inl (none, refl)))

-- where two properties are had by the same members those are the same
pub those_alike : {A : Type 0} (P Q : A → Type 0) → ((x : A) → P x ↔ Q x) → (xs ys : List A) → AreThose P xs ys → AreThose Q xs ys
those_alike P Q same [] ys are = are
those_alike P Q same (x ∷ xs) ys (inl (none, are)) = inl ((λ q. none ((same x).1 q)), those_alike P Q same xs ys are)
those_alike P Q same (x ∷ xs) ys (inr (holds, (rest, is, are))) = inr ((same x).0 holds, (rest, is, those_alike P Q same xs rest are))

-- where each member has it all are those
pub each_is : {A : Type 0} (P : A → Type 0) (xs : List A) → Each P xs → AreThose P xs xs
each_is P [] all = refl
each_is P (x ∷ xs) all = inr (all.0, (xs, refl, each_is P xs all.1))
