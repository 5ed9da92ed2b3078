-- Groups that are made member by member.
use Rattle.std.proofs.Common.{◌≡◌, ◌≢◌, ◌⊎◌, inl, inr, Bool, true, false, cond, nat_eq, ℕ, ◌+◌, ◌<◌, List, [], ◌∷◌, ◌++◌, length, get_or, set, filter, Option, Some, None, IsTrue, refl, ap, sym, subst, ◌∙◌, arith}
use Rattle.std.proofs.lemmas.Bool.{false≢true, cases_lt}
use Rattle.std.proofs.lemmas.Bool.Decides.{Decides-eqb, eqb_tells}
use Rattle.std.proofs.lemmas.List.{length-set, length-append, get_or-set_same, get_or-set_other, get_or_push, get_or_append_left, get_or_default}
use Rattle.std.proofs.lemmas.List.Elements.{filter-append}
use Rattle.std.proofs.lemmas.Option.{same_Some, none-some}
use Rattle.lemmas.specs.Lists.{Member, Each, Ascends}
use Rattle.lemmas.proofs.ListPlaces.{member-at, member-place, pairs-ascends}
use Rattle.lemmas.proofs.Lists.{each-at, each-from, member-append_left, member-push_last, member-filter, member-from_filter, ascends-append_left, ascends-append_across}
use Rattle.faces.specs.Groups.{with_key, IsGroup, heads_before, AreGroups, IsPut}

-- the group of that number, if any
abbrev pub group_at : {A : Type 0} → List (List A) → Option ℕ → List A
group_at groups None = []
group_at groups (Some g) = get_or groups g []

-- The first members of a list are in their groups, to which the table leads from their keys.
pub record AreSoFar {A : Type 0} (key : A → ℕ) (count : ℕ) (xs : List A) (table : List (Option ℕ)) (groups : List (List A)) : Type 0 where
  pub sized : length table ≡ count
  pub same : (k : ℕ) → k < count → group_at groups (get_or table k None) ≡ with_key key k xs
  pub inside : (k g : ℕ) → k < count → get_or table k None ≡ Some g → g < length groups
  pub used : (g : ℕ) → g < length groups → (x : A) × Member xs x × (key x < count) × (get_or table (key x) None ≡ Some g)
  pub ordered : (before : A → A → Bool) → Ascends (λ x y. IsTrue (before x y)) xs → (i j : ℕ) → i < j → j < length groups
      → IsTrue (heads_before before (get_or groups i []) (get_or groups j []))

same_or_other : (a b : ℕ) → (a ≡ b) ⊎ (a ≢ b)
same_or_other a b = elim (eqb_tells a b) as (λ _. (a ≡ b) ⊎ (a ≢ b)) [ inl e ↦ inl e.1 | inr e ↦ inr e.1 ]

earlier_or_last : (g n : ℕ) → g < n + 1 → (g < n) ⊎ (n ≡ g)
earlier_or_last g n l = elim (cases_lt g n) as (λ _. (g < n) ⊎ (n ≡ g)) [ inl earlier ↦ inl earlier | inr later ↦ inr (omega arith) ]

module _ {A : Type 0} (key : A → ℕ) where
  -- ---- those that have a key

  pub member-with_key : (xs : List A) (x : A) → Member xs x → Member (with_key key (key x) xs) x
  member-with_key xs x m = member-filter (λ y. nat_eq (key y) (key x)) xs x m ((Decides-eqb (key x) (key x)).1 refl)

  pub with_key-member : (k : ℕ) (xs : List A) (x : A) → Member (with_key key k xs) x → Member xs x × (key x ≡ k)
  with_key-member k xs x m =
      let (on, e) = member-from_filter (λ y. nat_eq (key y) k) xs x m in
      (on, (Decides-eqb (key x) k).0 e)

  with_key-more : (xs : List A) (x : A) → with_key key (key x) (xs ++ x ∷ []) ≡ with_key key (key x) xs ++ x ∷ []
  with_key-more xs x =
      filter-append (λ y. nat_eq (key y) (key x)) xs (x ∷ [])
      ∙ ap (λ b. with_key key (key x) xs ++ cond b (x ∷ []) []) ((Decides-eqb (key x) (key x)).1 refl)

  with_key-other : (k : ℕ) (xs : List A) (x : A) → key x ≢ k → with_key key k (xs ++ x ∷ []) ≡ with_key key k xs
  with_key-other k xs x other = filter-append (λ y. nat_eq (key y) k) xs (x ∷ []) ∙ by (eqb_tells (key x) k)
    where
      none : (zs : List A) → zs ++ [] ≡ zs
      none [] = refl
      none (z ∷ zs) = ap (λ ws. z ∷ ws) (none zs)

      by : ((nat_eq (key x) k ≡ true) × (key x ≡ k)) ⊎ ((nat_eq (key x) k ≡ false) × (key x ≢ k))
          → (with_key key k xs ++ filter (λ y. nat_eq (key y) k) (x ∷ [])) ≡ with_key key k xs
      by (inl (e, f)) = absurd (other f)
      by (inr (e, f)) = ap (λ b. with_key key k xs ++ cond b (x ∷ []) []) e ∙ none (with_key key k xs)

  -- ---- heads

  heads-longer : (before : A → A → Bool) (g h s t : List A) → IsTrue (heads_before before g h) → IsTrue (heads_before before (g ++ s) (h ++ t))
  heads-longer before [] h s t e = absurd (false≢true e)
  heads-longer before (x ∷ g) [] s t e = absurd (false≢true e)
  heads-longer before (x ∷ g) (y ∷ h) s t e = e

  heads-last : (before : A → A → Bool) (g : List A) (x y : A) → Member g y → ((z : A) → Member g z → IsTrue (before z x))
      → IsTrue (heads_before before g (x ∷ []))
  heads-last before [] x y m h = absurd m
  heads-last before (z ∷ g) x y m h = h z (inl refl)

  module _ (count : ℕ) (xs : List A) (x : A) (below : key x < count) where
    module _ (table : List (Option ℕ)) (groups : List (List A)) (so_far : AreSoFar key count xs table groups) where
      -- ---- into a group that is there

      module _ (g : ℕ) (there : get_or table (key x) None ≡ Some g) where
        more : List (List A)
        more = set groups g (get_or groups g [] ++ x ∷ [])

        within : g < length groups
        within = so_far.inside (key x) g below there

        here : get_or (set groups g (get_or groups g [] ++ x ∷ [])) g [] ≡ with_key key (key x) (xs ++ x ∷ [])
        here =
            get_or-set_same groups g (get_or groups g [] ++ x ∷ []) [] within
            ∙ ap (λ l. l ++ x ∷ []) (ap (group_at groups) (sym there) ∙ so_far.same (key x) below)
            ∙ sym (with_key-more xs x)

        -- a group has one key
        one_key : (k : ℕ) → k < count → get_or table k None ≡ Some g → key x ≡ k
        one_key k l e =
            let (y, on, y_below, f) = so_far.used g within in
            let y_with : Member (get_or groups g []) y =
            subst (λ zs. Member zs y) (sym (so_far.same (key y) y_below) ∙ ap (group_at groups) f) (member-with_key xs y on) in
            let has : (j : ℕ) → j < count → get_or table j None ≡ Some g → key y ≡ j =
            λ j m d. (with_key-member j xs y (subst (λ zs. Member zs y) (ap (group_at groups) (sym d) ∙ so_far.same j m) y_with)).1 in
            sym (has (key x) below there) ∙ has k l e

        same_there : (k : ℕ) → k < count → (key x ≡ k) ⊎ (key x ≢ k) → (o : Option ℕ) → get_or table k None ≡ o
            → group_at (set groups g (get_or groups g [] ++ x ∷ [])) o ≡ with_key key k (xs ++ x ∷ [])
        same_there k l (inl e) None d = absurd (none-some g (sym d ∙ ap (λ j. get_or table j None) (sym e) ∙ there))
        same_there k l (inl e) (Some f) d =
            let one : f ≡ g = same_Some f g (sym d ∙ ap (λ j. get_or table j None) (sym e) ∙ there) in
            ap (λ j. get_or (set groups g (get_or groups g [] ++ x ∷ [])) j []) one ∙ here ∙ ap (λ j. with_key key j (xs ++ x ∷ [])) e
        same_there k l (inr other) None d = ap (group_at groups) (sym d) ∙ so_far.same k l ∙ sym (with_key-other k xs x other)
        same_there k l (inr other) (Some f) d =
            let apart : f ≢ g = λ e. other (one_key k l (d ∙ ap Some e)) in
            get_or-set_other groups g f (get_or groups g [] ++ x ∷ []) [] apart
            ∙ ap (group_at groups) (sym d) ∙ so_far.same k l ∙ sym (with_key-other k xs x other)

        grown : (i : ℕ) → (s : List A) × (get_or (set groups g (get_or groups g [] ++ x ∷ [])) i [] ≡ get_or groups i [] ++ s)
        grown i = by (eqb_tells i g)
          where
            none : (zs : List A) → zs ≡ zs ++ []
            none [] = refl
            none (z ∷ zs) = ap (λ ws. z ∷ ws) (none zs)

            by : ((nat_eq i g ≡ true) × (i ≡ g)) ⊎ ((nat_eq i g ≡ false) × (i ≢ g))
                → (s : List A) × (get_or (set groups g (get_or groups g [] ++ x ∷ [])) i [] ≡ get_or groups i [] ++ s)
            by (inl (_, e)) = (
              x ∷ [],
              ap (λ j. get_or (set groups g (get_or groups g [] ++ x ∷ [])) j []) e
                  ∙ get_or-set_same groups g (get_or groups g [] ++ x ∷ []) [] within
                  ∙ ap (λ j. get_or groups j [] ++ x ∷ []) (sym e),
            )
            by (inr (_, apart)) = ([], get_or-set_other groups g i (get_or groups g [] ++ x ∷ []) [] apart ∙ none (get_or groups i []))

        pub into_group : AreSoFar key count (xs ++ x ∷ []) table (set groups g (get_or groups g [] ++ x ∷ []))
        into_group = record {
          sized = so_far.sized;
          same = λ k l. same_there k l (same_or_other (key x) k) (get_or table k None) refl;
          inside = λ k f l e. let m = so_far.inside k f l e in omega (arith, length-set groups g (get_or groups g [] ++ x ∷ []));
          used = λ f l.
              let (y, on, y_below, e) = so_far.used f (omega (arith, length-set groups g (get_or groups g [] ++ x ∷ []))) in
              (y, member-append_left xs (x ∷ []) y on, y_below, e);
          ordered = λ before ascends i j earlier within_too.
              let (s, e) = grown i in
              let (t, f) = grown j in
              let kept = so_far.ordered before (ascends-append_left (λ y z. IsTrue (before y z)) xs (x ∷ []) ascends) i j earlier
              (omega (arith, length-set groups g (get_or groups g [] ++ x ∷ []))) in
              subst (λ (p : List A × List A). IsTrue (heads_before before p.0 p.1)) (λ n. (sym e n, sym f n))
              (heads-longer before (get_or groups i []) (get_or groups j []) s t kept);
        }

      -- ---- into a group of its own

      module _ (free : get_or table (key x) None ≡ None) where
        own_number : key x < length table
        own_number = subst (λ n. key x < n) (sym so_far.sized) below

        none_has : with_key key (key x) xs ≡ []
        none_has = sym (so_far.same (key x) below) ∙ ap (group_at groups) free

        same_here : (k : ℕ) → k < count → (key x ≡ k) ⊎ (key x ≢ k)
            → group_at (groups ++ (x ∷ []) ∷ []) (get_or (set table (key x) (Some (length groups))) k None) ≡ with_key key k (xs ++ x ∷ [])
        same_here k l (inl e) =
            ap (λ j. group_at (groups ++ (x ∷ []) ∷ []) (get_or (set table (key x) (Some (length groups))) j None)) (sym e)
            ∙ ap (group_at (groups ++ (x ∷ []) ∷ [])) (get_or-set_same table (key x) (Some (length groups)) None own_number)
            ∙ get_or_push groups (x ∷ []) [] (length groups) refl
            ∙ ap (λ l. l ++ x ∷ []) (sym none_has)
            ∙ sym (with_key-more xs x)
            ∙ ap (λ j. with_key key j (xs ++ x ∷ [])) e
        same_here k l (inr other) =
            ap (group_at (groups ++ (x ∷ []) ∷ [])) (get_or-set_other table (key x) k (Some (length groups)) None (λ e. other (sym e)))
            ∙ by (get_or table k None) refl
            ∙ so_far.same k l
            ∙ sym (with_key-other k xs x other)
          where
            by : (o : Option ℕ) → get_or table k None ≡ o → group_at (groups ++ (x ∷ []) ∷ []) (get_or table k None) ≡ group_at groups (get_or table k None)
            by None e = ap (group_at (groups ++ (x ∷ []) ∷ [])) e ∙ ap (group_at groups) (sym e)
            by (Some g) e =
                ap (group_at (groups ++ (x ∷ []) ∷ [])) e
                ∙ get_or_append_left groups ((x ∷ []) ∷ []) [] g (so_far.inside k g l e)
                ∙ ap (group_at groups) (sym e)

        long : length (groups ++ (x ∷ []) ∷ []) ≡ length groups + 1
        long = length-append groups ((x ∷ []) ∷ [])

        inside_here : (k g : ℕ) → k < count → (key x ≡ k) ⊎ (key x ≢ k) → get_or (set table (key x) (Some (length groups))) k None ≡ Some g
            → g < length (groups ++ (x ∷ []) ∷ [])
        inside_here k g l (inl e) f =
            let last : length groups ≡ g =
            same_Some (length groups) g (sym (get_or-set_same table (key x) (Some (length groups)) None own_number)
            ∙ ap (λ j. get_or (set table (key x) (Some (length groups))) j None) e ∙ f) in
            omega (arith, long)
        inside_here k g l (inr other) f =
            let earlier = so_far.inside k g l (sym (get_or-set_other table (key x) k (Some (length groups)) None (λ e. other (sym e))) ∙ f) in
            omega (arith, long)

        abbrev Used : ℕ → Type 0
        Used g = (y : A) × Member (xs ++ x ∷ []) y × (key y < count) × (get_or (set table (key x) (Some (length groups))) (key y) None ≡ Some g)

        used_here : (g : ℕ) → (g < length groups) ⊎ (length groups ≡ g) → Used g
        used_here g (inl old) =
            let (y, on, y_below, e) = so_far.used g old in
            let apart : key y ≢ key x = λ f. none-some g (sym free ∙ ap (λ j. get_or table j None) (sym f) ∙ e) in
            (y, member-append_left xs (x ∷ []) y on, y_below, get_or-set_other table (key x) (key y) (Some (length groups)) None apart ∙ e)
        used_here g (inr e) =
            (x, member-push_last xs x, below, get_or-set_same table (key x) (Some (length groups)) None own_number ∙ ap Some e)

        abbrev InOrder : (A → A → Bool) → ℕ → ℕ → Type 0
        InOrder before i j = IsTrue (heads_before before (get_or (groups ++ (x ∷ []) ∷ []) i []) (get_or (groups ++ (x ∷ []) ∷ []) j []))

        order_here : (before : A → A → Bool) → Ascends (λ y z. IsTrue (before y z)) (xs ++ x ∷ []) → (i j : ℕ) → i < j → i < length groups
            → (j < length groups) ⊎ (length groups ≡ j) → InOrder before i j
        order_here before ascends i j earlier i_in (inl j_in) =
            let old = so_far.ordered before (ascends-append_left (λ y z. IsTrue (before y z)) xs (x ∷ []) ascends) i j earlier j_in in
            subst (λ (p : List A × List A). IsTrue (heads_before before p.0 p.1))
            (λ n. (sym (get_or_append_left groups ((x ∷ []) ∷ []) [] i i_in) n, sym (get_or_append_left groups ((x ∷ []) ∷ []) [] j j_in) n)) old
        order_here before ascends i j earlier i_in (inr e) =
            let (y, on, y_below, f) = so_far.used i i_in in
            let group : get_or groups i [] ≡ with_key key (key y) xs = ap (group_at groups) (sym f) ∙ so_far.same (key y) y_below in
            let across = ascends-append_across (λ y z. IsTrue (before y z)) xs (x ∷ []) ascends in
            let old = heads-last before (with_key key (key y) xs) x y (member-with_key xs y on)
            (λ z m. (each-at (λ w. Each (λ v. IsTrue (before w v)) (x ∷ [])) xs z across (with_key-member (key y) xs z m).0).0) in
            subst (λ (p : List A × List A). IsTrue (heads_before before p.0 p.1))
            (λ n. (sym (get_or_append_left groups ((x ∷ []) ∷ []) [] i i_in ∙ group) n, sym (get_or_push groups (x ∷ []) [] j e) n)) old

        pub into_own : AreSoFar key count (xs ++ x ∷ []) (set table (key x) (Some (length groups))) (groups ++ (x ∷ []) ∷ [])
        into_own = record {
          sized = length-set table (key x) (Some (length groups)) ∙ so_far.sized;
          same = λ k l. same_here k l (same_or_other (key x) k);
          inside = λ k g l. inside_here k g l (same_or_other (key x) k);
          used = λ g l. used_here g (earlier_or_last g (length groups) (omega (arith, long)));
          ordered = λ before ascends i j earlier l. order_here before ascends i j earlier (omega (arith, long))
              (earlier_or_last j (length groups) (omega (arith, long)));
        }

      -- ---- one member more

      pub put_more : (new_table : List (Option ℕ)) (new_groups : List (List A))
          → IsPut x (key x) (get_or table (key x) None) table groups new_table new_groups
          → AreSoFar key count (xs ++ x ∷ []) new_table new_groups
      put_more new_table new_groups put = by (get_or table (key x) None) refl put
        where
          by : (o : Option ℕ) → get_or table (key x) None ≡ o → IsPut x (key x) o table groups new_table new_groups
              → AreSoFar key count (xs ++ x ∷ []) new_table new_groups
          by (Some g) there (e, f) =
              subst (λ (p : List (Option ℕ) × List (List A)). AreSoFar key count (xs ++ x ∷ []) p.0 p.1) (λ n. (sym e n, sym f n)) (into_group g there)
          by None free (e, f) =
              subst (λ (p : List (Option ℕ) × List (List A)). AreSoFar key count (xs ++ x ∷ []) p.0 p.1) (λ n. (sym e n, sym f n)) (into_own free)

  -- at the beginning there are no groups
  pub none_so_far : (count : ℕ) (table : List (Option ℕ)) → length table ≡ count → ((k : ℕ) → get_or table k None ≡ None)
      → AreSoFar key count [] table []
  none_so_far count table long none = record {
    sized = long;
    same = λ k l. ap (group_at []) (none k);
    inside = λ k g l e. absurd (none-some g (sym (none k) ∙ e));
    used = λ g l. absurd (omega arith);
    ordered = λ before ascends i j earlier l. absurd (omega arith);
  }

  -- at the end all have theirs
  pub all_grouped : (count : ℕ) (xs : List A) (table : List (Option ℕ)) (groups : List (List A)) → AreSoFar key count xs table groups
      → ((x : A) → Member xs x → key x < count) → AreGroups key xs groups
  all_grouped count xs table groups so_far below = record {
    each = each-from (IsGroup key xs) groups (λ g m.
        let (i, within, is) = member-place groups g m in
        let (y, on, y_below, f) = so_far.used i within in
        (y, on, sym (is []) ∙ ap (group_at groups) (sym f) ∙ so_far.same (key y) y_below));
    complete = λ x m. has x m (get_or table (key x) None) refl;
    ordered = λ before ascends. pairs-ascends (λ g h. IsTrue (heads_before before g h)) groups (λ i j d earlier within.
        subst (λ (p : List A × List A). IsTrue (heads_before before p.0 p.1))
        (λ n. (get_or_default groups i [] d (omega arith) n, get_or_default groups j [] d within n)) (so_far.ordered before ascends i j earlier within));
  }
    where
      has : (x : A) → Member xs x → (o : Option ℕ) → get_or table (key x) None ≡ o → Member groups (with_key key (key x) xs)
      has x m None e = absurd (subst (λ zs. Member zs x) (sym (so_far.same (key x) (below x m)) ∙ ap (group_at groups) e) (member-with_key xs x m))
      has x m (Some g) e =
          subst (Member groups) (ap (group_at groups) (sym e) ∙ so_far.same (key x) (below x m))
          (member-at groups g [] (so_far.inside (key x) g (below x m) e))
