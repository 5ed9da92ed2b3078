-- Calls that hand out pages, one after another.
use Rattle.std.proofs.Common.{◌≡◌, ◌≢◌, inl, inr, Bool, true, ℕ, ◌+◌, ◌≤◌, List, [], ◌∷◌, ◌++◌, length, Option, Some, None, IsPermutation, refl, sym, ◌∙◌, ap, subst, append_assoc, append-nil, length-append, arith}
use Rattle.std.proofs.lemmas.Grind.{flat_map-append}
use Rattle.solid_model.specs.Blocks.{ProblemParts}
use Rattle.solid_model.specs.Limits.{most_page_choices}
use Rattle.solid_model.specs.Solutions.{IsSolutionOf, AreSolutions}
use Rattle.lemmas.proofs.Lists.{each-append_left, each-push, ascends-append_left}
use Rattle.search_end.specs.Handed.{AreFewSolutions, HandedParts, IsHandedOut}
use Rattle.page_calls.specs.Pages.{Call, AddsCalls, MayAddCall, choices_of, AreNumbered, ArePages, HasPaged, HasAllPaged}

-- calls that are added in two steps
adds_on : (a b c : Option (List Call)) (xs ys : List Call) → AddsCalls a b xs → AddsCalls b c ys → AddsCalls a c (xs ++ ys)
adds_on None b c xs ys h k = tt
adds_on (Some told) b c xs ys h k = (subst (λ (o : Option (List Call)). AddsCalls o c ys) h k) ∙ ap Some (append_assoc told xs ys)

-- one call more has its choices behind those of the others
choices_push : (calls : List Call) (c : Call) → choices_of (calls ++ c ∷ []) ≡ choices_of calls ++ c.choices
choices_push calls c = flat_map-append (λ (x : Call). x.choices) calls (c ∷ []) ∙ ap (λ l. choices_of calls ++ l) (append-nil c.choices)

-- and the number and the total that follow theirs
numbered_push : (n t : ℕ) (calls : List Call) (c : Call) → AreNumbered n t calls → c.number ≡ n + length calls + 1 → 1 ≤ length c.choices
    → length c.choices ≤ most_page_choices → c.total ≡ t + length (choices_of calls) + length c.choices → AreNumbered n t (calls ++ c ∷ [])
numbered_push n t [] c h number some few total = (omega (arith, number), some, few, omega (arith, total), tt)
numbered_push n t (x ∷ calls) c h number some few total = (
  h.0,
  h.1,
  h.2,
  h.3,
  numbered_push (n + 1) (t + length x.choices) calls c h.4 (omega (arith, number)) some few (omega (arith, total, length-append x.choices (choices_of calls))),
)

-- solutions begin with solutions
pub solutions_left : (p : ProblemParts) (xs ys : List (List Bool)) → AreSolutions p (xs ++ ys) → AreSolutions p xs
solutions_left p xs ys h = record { each = each-append_left (IsSolutionOf p) xs ys h.each; once = ascends-append_left ◌≢◌ xs ys h.once }

-- and few with few
pub few_left : (p : ProblemParts) (most : ℕ) (xs ys : List (List Bool)) → AreFewSolutions p most (xs ++ ys) → AreFewSolutions p most xs
few_left p most xs ys h = (solutions_left p xs ys h.0, omega (arith, h.1, length-append xs ys))

module _ (before old now : Option (List Call)) (h : HandedParts) (more : List (List Bool)) (out : IsHandedOut before old h) where
  -- accepted calls are pages
  accepted_pages : (p : ProblemParts) → AreSolutions p h.choices → ArePages p out.calls
  accepted_pages p all = record {
    numbered = out.numbered;
    solutions = subst (AreSolutions p) (sym out.all) all;
    done = out.calls;
    refused = [];
    parts = sym (append-nil out.calls);
    accepted = out.accepted;
    few = omega arith;
  }

  -- so pages were added
  pub paged : (p : ProblemParts) (most : ℕ) → AreFewSolutions p most h.choices → HasPaged p most before old
  paged p most all = record {
    calls = out.calls;
    adds = out.adds;
    pages = accepted_pages p all.0;
    few = subst (λ (xs : List (List Bool)). length xs ≤ most) (sym out.all) all.1;
  }

  -- those of all solids, where these were handed out
  pub all_paged : (p : ProblemParts) (solids : List (List Bool)) → AreSolutions p h.choices → IsPermutation h.choices solids → HasAllPaged p before old solids
  all_paged p solids all moved = record {
    calls = out.calls;
    adds = out.adds;
    pages = accepted_pages p all;
    accepted = out.accepted;
    all = subst (λ (xs : List (List Bool)). IsPermutation xs solids) (sym out.all) moved;
  }

  module _ (c : Call) (number : c.number ≡ h.pages + 1) (some : 1 ≤ length more) (few : length more ≤ most_page_choices)
      (total : c.total ≡ length h.choices + length more) (is : c.choices ≡ more) where
    numbered_next : AreNumbered 0 0 (out.calls ++ c ∷ [])
    numbered_next = numbered_push 0 0 out.calls c out.numbered (omega (arith, number, out.counted)) (omega (arith, some, ap length is)) (omega (arith, few, ap length is))
        (omega (arith, total, ap length out.all, ap length is))

    all_next : choices_of (out.calls ++ c ∷ []) ≡ h.choices ++ more
    all_next = choices_push out.calls c ∙ ap (λ l. l ++ c.choices) out.all ∙ ap (λ l. h.choices ++ l) is

    -- one more that is accepted
    pub handed_next : c.accepted ≡ true → AddsCalls old now (c ∷ []) → IsHandedOut before now record { choices = h.choices ++ more; pages = h.pages + 1 }
    handed_next ok adds = record {
      calls = out.calls ++ c ∷ [];
      adds = adds_on before old now out.calls (c ∷ []) out.adds adds;
      numbered = numbered_next;
      accepted = each-push (λ (x : Call). x.accepted ≡ true) out.calls c out.accepted ok;
      all = all_next;
      counted = omega (arith, out.counted, length-append out.calls (c ∷ []));
    }

    -- and one that is refused
    pub refused_next : (p : ProblemParts) (most : ℕ) → AreFewSolutions p most (h.choices ++ more) → MayAddCall old now c → HasPaged p most before now
    refused_next p most all (inl adds) = record {
      calls = out.calls ++ c ∷ [];
      adds = adds_on before old now out.calls (c ∷ []) out.adds adds;
      pages = record {
        numbered = numbered_next;
        solutions = subst (AreSolutions p) (sym all_next) all.0;
        done = out.calls;
        refused = c ∷ [];
        parts = refl;
        accepted = out.accepted;
        few = omega arith;
      };
      few = subst (λ (xs : List (List Bool)). length xs ≤ most) (sym all_next) all.1;
    }
    refused_next p most all (inr adds) =
        let left = few_left p most h.choices more all in record {
          calls = out.calls;
          adds = subst (AddsCalls before now) (append-nil out.calls) (adds_on before old now out.calls [] out.adds adds);
          pages = accepted_pages p left.0;
          few = subst (λ (xs : List (List Bool)). length xs ≤ most) (sym out.all) left.1;
        }

-- at first nothing is handed out
pub none_yet : (b : Option (List Call)) → IsHandedOut b b record { choices = []; pages = 0 }
none_yet b = record { calls = []; adds = adds_none b; numbered = tt; accepted = tt; all = refl; counted = refl }
  where
    adds_none : (o : Option (List Call)) → AddsCalls o o []
    adds_none None = tt
    adds_none (Some told) = ap Some (sym (append-nil told))

-- none are few solutions
pub no_solutions : (p : ProblemParts) (most : ℕ) → AreFewSolutions p most []
no_solutions p most = (record { each = tt; once = tt }, omega arith)

-- where no page was handed out, pages were added: none
pub unpaged : (p : ProblemParts) (most : ℕ) (b : Option (List Call)) → HasPaged p most b b
unpaged p most b = paged b b b record { choices = []; pages = 0 } [] (none_yet b) p most (no_solutions p most)
