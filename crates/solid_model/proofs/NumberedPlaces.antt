-- Places that are joined or not, one after another, get numbers: each that isn't left out has the number of an earlier place that
-- it is joined with, or else the next new one.
use Rattle.std.proofs.Common.{◌≡◌, ◌↔◌, ◌⊎◌, inl, inr, ℕ, zero, suc, ◌+◌, ◌<◌, List, [], ◌∷◌, ◌++◌, length, get_or, Option, Some, None, refl, ap, sym, subst, ◌∙◌, arith}
use Rattle.std.proofs.lemmas.List.{length-append, get_or_append_left, get_or_push}
use Rattle.std.proofs.lemmas.Option.{none-some, same_Some}
use Rattle.solid_model.specs.WalledBoxes.{IsEarlier}
use Rattle.lemmas.proofs.Decisions.{IsDecided, below_next, holds_below_next, some_or_none}
use Rattle.solid_model.proofs.ItemOrder.{AreInOrder}

-- places that are left out, and those that are joined
module _ (Out : ℕ → Type 0) (Same : ℕ → ℕ → Type 0) where
  -- the numbers of the first places: those that are left out have none, and others have one number where they are joined
  pub record AreNumbered (size : ℕ) (numbers : List (Option ℕ)) (count : ℕ) : Type 0 where
    pub listed : length numbers ≡ size
    pub outside : (p : ℕ) → p < size → (get_or numbers p None ≡ None) ↔ Out p
    pub joined : (p q : ℕ) → p < size → q < size → (Out p → ⊥) → (get_or numbers p None ≡ get_or numbers q None) ↔ Same p q
    pub order : AreInOrder numbers count

  -- for each of the first places both questions are decided
  pub record AreDecided (size : ℕ) : Type 0 where
    pub out : (p : ℕ) → p < size → IsDecided (Out p)
    pub same : (p q : ℕ) → p < size → q < size → IsDecided (Same p q)

  module _ (itself : (p : ℕ) → Same p p) (back : (p q : ℕ) → Same p q → Same q p) (onward : (p q r : ℕ) → Same p q → Same q r → Same p r)
      (out_along : (p q : ℕ) → Same p q → Out p → Out q) where
    module _ (size : ℕ) (numbers : List (Option ℕ)) (count : ℕ) (so_far : AreNumbered size numbers count) where
      -- the number fits the next place, with so many numbers then
      record Fits (number : Option ℕ) (many : ℕ) : Type 0 where
        out : (number ≡ None) ↔ Out size
        joined : (p : ℕ) → p < size → (Out p → ⊥) → (get_or numbers p None ≡ number) ↔ Same p size
        more : (k : ℕ) → k < count → k < many
        below : (k : ℕ) → number ≡ Some k → k < many
        first : (k : ℕ) → k < many → (k < count) ⊎ ((number ≡ Some k) × ((q : ℕ) → q < size → IsEarlier k (get_or numbers q None)))

      module _ (number : Option ℕ) (many : ℕ) (fits : Fits number many) where
        abbrev longer : List (Option ℕ)
        longer = numbers ++ number ∷ []

        keeps : (p : ℕ) → p < size → get_or longer p None ≡ get_or numbers p None
        keeps p l = get_or_append_left numbers (number ∷ []) None p (subst (λ n. p < n) (sym so_far.listed) l)

        last : get_or longer size None ≡ number
        last = get_or_push numbers number None size so_far.listed

        long : length longer ≡ suc size
        long = length-append numbers (number ∷ []) ∙ ap (λ n. n + 1) so_far.listed ∙ omega arith

        joined_more : (p q : ℕ) → (p < size) ⊎ (size ≡ p) → (q < size) ⊎ (size ≡ q) → (Out p → ⊥)
            → (get_or longer p None ≡ get_or longer q None) ↔ Same p q
        joined_more p q (inl l) (inl m) stays =
            let own = so_far.joined p q l m stays in
            (λ e. own.0 (sym (keeps p l) ∙ e ∙ keeps q m), λ s. keeps p l ∙ own.1 s ∙ sym (keeps q m))
        joined_more p q (inl l) (inr f) stays =
            let own = fits.joined p l stays in
            subst (λ r. (get_or longer p None ≡ get_or longer r None) ↔ Same p r) f
            (λ e. own.0 (sym (keeps p l) ∙ e ∙ last), λ s. keeps p l ∙ own.1 s ∙ sym last)
        joined_more p q (inr e) (inl m) stays =
            subst (λ r. (Out r → ⊥) → (get_or longer r None ≡ get_or longer q None) ↔ Same r q) e (λ here. (
              λ d.
                  let q_stays : Out q → ⊥ = λ out. here (fits.out.0 (sym last ∙ d ∙ keeps q m ∙ (so_far.outside q m).1 out)) in
                  back q size ((fits.joined q m q_stays).0 (sym (keeps q m) ∙ sym d ∙ last)),
              λ s.
                  let q_stays : Out q → ⊥ = λ out. here (out_along q size (back size q s) out) in
                  last ∙ sym ((fits.joined q m q_stays).1 (back size q s)) ∙ sym (keeps q m),
            )) stays
        joined_more p q (inr e) (inr f) stays =
            subst (λ r. (get_or longer r None ≡ get_or longer q None) ↔ Same r q) e
            (subst (λ r. (get_or longer size None ≡ get_or longer r None) ↔ Same size r) f (λ _. itself size, λ _. refl))

        abbrev First : ℕ → Type 0
        First k = (p : ℕ) × (p < length longer) × (get_or longer p None ≡ Some k) × ((q : ℕ) → q < p → IsEarlier k (get_or longer q None))

        first_more : (k : ℕ) → (k < count) ⊎ ((number ≡ Some k) × ((q : ℕ) → q < size → IsEarlier k (get_or numbers q None))) → First k
        first_more k (inl old) =
            let (p, p_in, is, none) = so_far.order.first k old in
            let within : p < size = subst (λ n. p < n) so_far.listed p_in in
            (p, omega (arith, long), keeps p within ∙ is, λ q l. subst (IsEarlier k) (sym (keeps q (omega arith))) (none q l))
        first_more k (inr (is, none)) =
            (size, omega (arith, long), last ∙ is, λ q l. subst (IsEarlier k) (sym (keeps q l)) (none q l))

        numbered_more : AreNumbered (suc size) longer many
        numbered_more = record {
          listed = long;
          outside = holds_below_next (λ p. (get_or longer p None ≡ None) ↔ Out p) size
              (λ p l. let own = so_far.outside p l in (λ e. own.0 (sym (keeps p l) ∙ e), λ out. keeps p l ∙ own.1 out))
              (λ e. fits.out.0 (sym last ∙ e), λ out. last ∙ fits.out.1 out);
          joined = λ p q l m. joined_more p q (below_next p size l) (below_next q size m);
          order = record {
            below = λ p k l. holds_below_next (λ r. get_or longer r None ≡ Some k → k < many) size
                (λ r m e. fits.more k (so_far.order.below r k (subst (λ n. r < n) (sym so_far.listed) m) (sym (keeps r m) ∙ e)))
                (λ e. fits.below k (sym last ∙ e)) p (subst (λ n. p < n) long l);
            first = λ k l. first_more k (fits.first k l);
          };
        }

      -- the place is left out
      none_fits : Out size → Fits None count
      none_fits out = record {
        out = (λ _. out, λ _. refl);
        joined = λ p l stays. (λ e. absurd (stays ((so_far.outside p l).0 e)), λ s. absurd (stays (out_along size p (back p size s) out)));
        more = λ k l. l;
        below = λ k e. absurd (none-some k e);
        first = λ k l. inl l;
      }

      -- it is joined with an earlier one
      old_fits : (Out size → ⊥) → (q : ℕ) → q < size → Same q size → Fits (get_or numbers q None) count
      old_fits stays q m s = record {
        out = (λ e. absurd (stays (out_along q size s ((so_far.outside q m).0 e))), λ out. absurd (stays out));
        joined = λ p l p_stays.
            let own = so_far.joined p q l m p_stays in
            (λ e. onward p q size (own.0 e) s, λ t. own.1 (onward p size q t (back q size s)));
        more = λ k l. l;
        below = λ k e. so_far.order.below q k (subst (λ n. q < n) (sym so_far.listed) m) e;
        first = λ k l. inl l;
      }

      -- it is joined with none
      new_fits : (Out size → ⊥) → ((q : ℕ) → q < size → Same q size → ⊥) → Fits (Some count) (suc count)
      new_fits stays none = record {
        out = (λ e. absurd (none-some count (sym e)), λ out. absurd (stays out));
        joined = λ p l p_stays. (λ e. let less = used p count l e in absurd (omega arith), λ s. absurd (none p l s));
        more = λ k l. omega arith;
        below = λ k e. let same = same_Some count k e in omega arith;
        first = λ k l. first_or_here k (below_next k count l);
      }
        where
          used : (p k : ℕ) → p < size → get_or numbers p None ≡ Some k → k < count
          used p k l e = so_far.order.below p k (subst (λ n. p < n) (sym so_far.listed) l) e

          earlier : (x : Option ℕ) → ((k : ℕ) → x ≡ Some k → k < count) → IsEarlier count x
          earlier None h = tt
          earlier (Some k) h = h k refl

          first_or_here : (k : ℕ) → (k < count) ⊎ (count ≡ k)
              → (k < count) ⊎ ((Some count ≡ Some k) × ((q : ℕ) → q < size → IsEarlier k (get_or numbers q None)))
          first_or_here k (inl old) = inl old
          first_or_here k (inr e) = inr (
            ap Some e,
            λ q m. subst (λ j. IsEarlier j (get_or numbers q None)) e (earlier (get_or numbers q None) (λ j. used q j m)),
          )

      -- some number fits
      next_number : IsDecided (Out size) → ((q : ℕ) → q < size → IsDecided (Same q size)) → (number : Option ℕ) × (many : ℕ) × Fits number many
      next_number (inl out) decided = (None, count, none_fits out)
      next_number (inr stays) decided = by (some_or_none (λ q. Same q size) size decided)
        where
          by : ((q : ℕ) × (q < size) × Same q size) ⊎ ((q : ℕ) → q < size → Same q size → ⊥) → (number : Option ℕ) × (many : ℕ) × Fits number many
          by (inl (q, l, s)) = (get_or numbers q None, count, old_fits stays q l s)
          by (inr none) = (Some count, suc count, new_fits stays none)

    -- so all places have numbers, where all is decided
    pub numbers_of_decided : (size : ℕ) → AreDecided size → (numbers : List (Option ℕ)) × (count : ℕ) × AreNumbered size numbers count
    numbers_of_decided zero decided = (
      [],
      zero,
      record {
        listed = refl;
        outside = λ p l. absurd (omega arith);
        joined = λ p q l. absurd (omega arith);
        order = record { below = λ p k l. absurd (omega arith); first = λ k l. absurd (omega arith) };
      },
    )
    numbers_of_decided (suc size) decided =
        let (numbers, count, so_far) = numbers_of_decided size (record {
          out = λ p l. decided.out p (omega arith);
          same = λ p q l m. decided.same p q (omega arith) (omega arith);
        }) in
        let same_here = λ (q : ℕ) (l : q < size). decided.same q size (omega arith) (omega arith) in
        let (number, many, fits) = next_number size numbers count so_far (decided.out size (omega arith)) same_here in
        (numbers ++ number ∷ [], many, numbered_more size numbers count so_far number many fits)
