-- A log isn't refused, and is refused in one way.
use Rattle.std.proofs.Common.{◌≡◌, ℕ, suc, ◌+◌, ◌≤◌, List, [], ◌∷◌, Option, Some, None, inl, inr, sym, subst, ◌∙◌, arith}
use Rattle.std.proofs.lemmas.Option.{none-some, same_Some}
use Rattle.solid_model.specs.Blocks.{ProblemParts}
use Rattle.completeness_logs.specs.declared.entry.LogEntry.{LogEntry}
use Rattle.completeness_logs.specs.declared.entry.LogEntry.TheVariants.{Fail, Whole, Force, Split}
use Rattle.proof_check.specs.declared.fault.LogKind.{LogKind}
use Rattle.completeness_logs.specs.Logs.{KnownBlocks, IsRightEntry, after_entry, listed_by}
use Rattle.completeness_logs.specs.LogTexts.{most_listed}
use Rattle.proof_check.specs.Checks.{IsRestOfLog, IsRefusedFrom, IsWrongEnd}
use Rattle.proof_check.specs.Refusals.{IsWrongEntry}
use Rattle.proof_check.specs.LogLines.{LogReading}

same_entry : (o : Option LogEntry) (e f : LogEntry) → o ≡ Some e → o ≡ Some f → e ≡ f
same_entry o e f g h = same_Some e f (sym g ∙ h)

no_entry : (o : Option LogEntry) (e : LogEntry) → o ≡ None → o ≡ Some e → ⊥
no_entry o e g h = none-some e (sym g ∙ h)

module _ (p : ProblemParts) (r : LogReading) where
  wrong_or_right : (known : KnownBlocks) (n : ℕ) (e : LogEntry) (kind : LogKind) → IsWrongEntry p known n e kind → IsRightEntry p known e → n + listed_by e ≤ most_listed → ⊥
  wrong_or_right known n (Fail s) kind (is, not_so) right few = not_so right
  wrong_or_right known n Whole kind (inl (is, not_so)) right few = not_so right
  wrong_or_right known n Whole kind (inr (is, solid, many)) right few = omega (arith, many, few)
  wrong_or_right known n (Force block full s) kind (inl (is, not_so)) right few = not_so right.0
  wrong_or_right known n (Force block full s) kind (inr (is, open_, not_so)) right few = not_so right.1
  wrong_or_right known n (Split block) kind (is, not_so) right few = not_so right

  end_wrong_or_right : (n number : ℕ) (ls : List (List ℕ)) (o : Option ℕ) (kind : LogKind) (line : ℕ) → IsWrongEnd n number ls o kind line → o ≡ Some n → ls ≡ [] → ⊥
  end_wrong_or_right n number ls None kind line wrong e f = none-some n e
  end_wrong_or_right n number ls (Some m) kind line (inl (is, other, at)) e f = other (same_Some m n e)
  end_wrong_or_right n number ls (Some m) kind line (inr (is, same, more, at)) e f = more f

  -- a log isn't refused
  pub refused_or_right : (ls : List (List ℕ)) (ks : List KnownBlocks) (n number : ℕ) (kind : LogKind) (line : ℕ) → IsRefusedFrom p r ks n number ls kind line → IsRestOfLog p r ks n ls → ⊥
  refused_or_right [] [] n number kind line refused rest = rest
  refused_or_right [] (k ∷ ks) n number kind line refused rest = rest
  refused_or_right (l ∷ ls) [] n number kind line refused rest = end_wrong_or_right n number ls (r.end l) kind line refused rest.0 rest.1
  refused_or_right (l ∷ ls) (k ∷ ks) n number kind line (inl (none, is, at)) (e, said, right, few, rest) = no_entry (r.entry l) e none said
  refused_or_right (l ∷ ls) (k ∷ ks) n number kind line (inr (f, says, inl (at, wrong))) (e, said, right, few, rest) =
      wrong_or_right k n e kind (subst (λ x. IsWrongEntry p k n x kind) (same_entry (r.entry l) f e says said) wrong) right few
  refused_or_right (l ∷ ls) (k ∷ ks) n number kind line (inr (f, says, inr (too, fewer, more))) (e, said, right, few, rest) =
      refused_or_right ls (after_entry e k ks) (n + listed_by e) (suc number) kind line
      (subst (λ x. IsRefusedFrom p r (after_entry x k ks) (n + listed_by x) (suc number) ls kind line) (same_entry (r.entry l) f e says said) more) rest

  -- ---- and it is refused in one way

  wrong_once : (known : KnownBlocks) (n : ℕ) (e : LogEntry) (a b : LogKind) → IsWrongEntry p known n e a → IsWrongEntry p known n e b → a ≡ b
  wrong_once known n (Fail s) a b x y = x.0 ∙ sym y.0
  wrong_once known n Whole a b (inl x) (inl y) = x.0 ∙ sym y.0
  wrong_once known n Whole a b (inl x) (inr (y, solid, many)) = absurd (x.1 solid)
  wrong_once known n Whole a b (inr (x, solid, many)) (inl y) = absurd (y.1 solid)
  wrong_once known n Whole a b (inr (x, u, v)) (inr (y, w, z)) = x ∙ sym y
  wrong_once known n (Force block full s) a b (inl x) (inl y) = x.0 ∙ sym y.0
  wrong_once known n (Force block full s) a b (inl x) (inr (y, open_, none)) = absurd (x.1 open_)
  wrong_once known n (Force block full s) a b (inr (x, open_, none)) (inl y) = absurd (y.1 open_)
  wrong_once known n (Force block full s) a b (inr (x, u, v)) (inr (y, w, z)) = x ∙ sym y
  wrong_once known n (Split block) a b x y = x.0 ∙ sym y.0

  end_once : (n number : ℕ) (ls : List (List ℕ)) (o : Option ℕ) (a b : LogKind) (i j : ℕ) → IsWrongEnd n number ls o a i → IsWrongEnd n number ls o b j → (a ≡ b) × (i ≡ j)
  end_once n number ls None a b i j x y = (x.0 ∙ sym y.0, x.1 ∙ sym y.1)
  end_once n number ls (Some m) a b i j (inl (x, u, v)) (inl (y, w, z)) = (x ∙ sym y, v ∙ sym z)
  end_once n number ls (Some m) a b i j (inl (x, u, v)) (inr (y, w, more, z)) = absurd (u w)
  end_once n number ls (Some m) a b i j (inr (x, w, more, z)) (inl (y, u, v)) = absurd (u w)
  end_once n number ls (Some m) a b i j (inr (x, u, more, v)) (inr (y, w, too, z)) = (x ∙ sym y, v ∙ sym z)

  pub one_refusal : (ls : List (List ℕ)) (ks : List KnownBlocks) (n number : ℕ) (a b : LogKind) (i j : ℕ) → IsRefusedFrom p r ks n number ls a i → IsRefusedFrom p r ks n number ls b j → (a ≡ b) × (i ≡ j)
  one_refusal [] [] n number a b i j x y = (x.0 ∙ sym y.0, x.1 ∙ sym y.1)
  one_refusal [] (k ∷ ks) n number a b i j x y = (x.0 ∙ sym y.0, x.1 ∙ sym y.1)
  one_refusal (l ∷ ls) [] n number a b i j x y = end_once n number ls (r.end l) a b i j x y
  one_refusal (l ∷ ls) (k ∷ ks) n number a b i j (inl (none, x, u)) (inl (none_too, y, v)) = (x ∙ sym y, u ∙ sym v)
  one_refusal (l ∷ ls) (k ∷ ks) n number a b i j (inl (none, x, u)) (inr (f, says, _)) = absurd (no_entry (r.entry l) f none says)
  one_refusal (l ∷ ls) (k ∷ ks) n number a b i j (inr (e, said, _)) (inl (none, y, v)) = absurd (no_entry (r.entry l) e none said)
  one_refusal (l ∷ ls) (k ∷ ks) n number a b i j (inr (e, said, inl (u, x))) (inr (f, says, inl (v, y))) =
      (wrong_once k n e a b x (subst (λ z. IsWrongEntry p k n z b) (same_entry (r.entry l) f e says said) y), u ∙ sym v)
  one_refusal (l ∷ ls) (k ∷ ks) n number a b i j (inr (e, said, inl (u, x))) (inr (f, says, inr (right, few, more))) =
      absurd (wrong_or_right k n e a x (subst (λ z. IsRightEntry p k z) (same_entry (r.entry l) f e says said) right) (subst (λ z. n + listed_by z ≤ most_listed) (same_entry (r.entry l) f e says said) few))
  one_refusal (l ∷ ls) (k ∷ ks) n number a b i j (inr (e, said, inr (right, few, more))) (inr (f, says, inl (v, y))) =
      absurd (wrong_or_right k n e b (subst (λ z. IsWrongEntry p k n z b) (same_entry (r.entry l) f e says said) y) right few)
  one_refusal (l ∷ ls) (k ∷ ks) n number a b i j (inr (e, said, inr (right, few, more))) (inr (f, says, inr (too, fewer, rest))) =
      one_refusal ls (after_entry e k ks) (n + listed_by e) (suc number) a b i j more
      (subst (λ z. IsRefusedFrom p r (after_entry z k ks) (n + listed_by z) (suc number) ls b j) (same_entry (r.entry l) f e says said) rest)
