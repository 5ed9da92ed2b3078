-- What a checker keeps, and what is to come.
use Rattle.std.proofs.Common.{◌≡◌, true, false, ℕ, zero, suc, ◌<◌, ◌≤◌, List, [], ◌∷◌, ◌++◌, length, take, drop, reverse, get_or, None, refl, ap, ap₂, sym, subst, ◌∙◌, arith, length-append}
use Rattle.std.proofs.lemmas.List.{reverse-append}
use Rattle.solid_model.specs.declared.decision.Decision.{Decision}
use Rattle.solid_model.specs.Decisions.{decided_by, AreDecisions}
use Rattle.solid_model.proofs.DecidedMore.{decided_push}
use Rattle.completeness_logs.specs.Logs.{with_block}
use Rattle.completeness_logs.specs.SplitMarks.{no_decision, sides_to_come, AreSplitMarks, all_to_come}

pub take_long : {A : Type 0} (xs ys : List A) (n : ℕ) → n ≤ length xs → take n (xs ++ ys) ≡ take n xs
take_long xs ys zero l = refl
take_long [] ys (suc n) l = absurd (omega (arith, l))
take_long (x ∷ xs) ys (suc n) l = ap (λ zs. x ∷ zs) (take_long xs ys n (omega (arith, l)))

pub take_front : {A : Type 0} (xs ys : List A) → take (length xs) (xs ++ ys) ≡ xs
take_front [] ys = refl
take_front (x ∷ xs) ys = ap (λ zs. x ∷ zs) (take_front xs ys)

get_long : {A : Type 0} (xs ys : List A) (n : ℕ) (d : A) → n < length xs → get_or (xs ++ ys) n d ≡ get_or xs n d
get_long [] ys n d l = absurd (omega (arith, l))
get_long (x ∷ xs) ys zero d l = refl
get_long (x ∷ xs) ys (suc n) d l = get_long xs ys n d (omega (arith, l))

get_front : {A : Type 0} (xs ys : List A) (y d : A) → get_or (xs ++ y ∷ ys) (length xs) d ≡ y
get_front [] ys y d = refl
get_front (x ∷ xs) ys y d = get_front xs ys y d

-- more decisions leave what is to come as it is
pub marks_more : (ds es : List Decision) (marks : List ℕ) → AreSplitMarks ds marks → AreSplitMarks (ds ++ es) marks
marks_more ds es [] are = tt
marks_more ds es (m ∷ marks) (l, are) = (omega (arith, l, length-append ds es), subst (λ xs. AreSplitMarks xs marks) (sym (take_long ds es m (omega (arith, l)))) are)

pub coming_more : (ds es : List Decision) (marks : List ℕ) → AreSplitMarks ds marks → sides_to_come (ds ++ es) marks ≡ sides_to_come ds marks
coming_more ds es [] are = refl
coming_more ds es (m ∷ marks) (l, are) = ap₂ ◌∷◌
    (ap₂ (λ (xs : List Decision) (d : Decision). with_block (decided_by xs) d.block false) (take_long ds es m (omega (arith, l))) (get_long ds es m no_decision l))
    (ap (λ xs. sides_to_come xs marks) (take_long ds es m (omega (arith, l))))

-- a decision more
pub standing_decided : (ds : List Decision) (d : Decision) (marks : List ℕ) → decided_by ds d.block ≡ None → AreSplitMarks ds marks
    → all_to_come true (ds ++ d ∷ []) marks ≡ with_block (decided_by ds) d.block d.full ∷ sides_to_come ds marks
standing_decided ds d marks undecided are = ap₂ ◌∷◌ (decided_push ds d undecided) (coming_more ds (d ∷ []) marks are)

-- the full side of a split, of which the empty one is to come
pub marks_split : (ds : List Decision) (d : Decision) (marks : List ℕ) → AreSplitMarks ds marks → AreSplitMarks (ds ++ d ∷ []) (length ds ∷ marks)
marks_split ds d marks are = (omega (arith, length-append ds (d ∷ [])), subst (λ xs. AreSplitMarks xs marks) (sym (take_front ds (d ∷ []))) are)

pub standing_split : (ds : List Decision) (d : Decision) (marks : List ℕ) → decided_by ds d.block ≡ None
    → all_to_come true (ds ++ d ∷ []) (length ds ∷ marks) ≡ with_block (decided_by ds) d.block d.full ∷ with_block (decided_by ds) d.block false ∷ sides_to_come ds marks
standing_split ds d marks undecided = ap₂ ◌∷◌ (decided_push ds d undecided)
    (ap₂ ◌∷◌ (ap₂ (λ (xs : List Decision) (e : Decision). with_block (decided_by xs) e.block false) (take_front ds (d ∷ [])) (get_front ds [] d no_decision))
    (ap (λ xs. sides_to_come xs marks) (take_front ds (d ∷ []))))

-- the parts of a list at a place
pub parts_at : {A : Type 0} (xs : List A) (n : ℕ) (d : A) → n < length xs → xs ≡ take n xs ++ get_or xs n d ∷ drop (suc n) xs
parts_at [] n d l = absurd (omega (arith, l))
parts_at (x ∷ xs) zero d l = refl
parts_at (x ∷ xs) (suc n) d l = ap (λ zs. x ∷ zs) (parts_at xs n d (omega (arith, l)))

-- the block of a split is there, and undecided before it
pub split_open : (count : ℕ) (ds : List Decision) (m : ℕ) → m < length ds → AreDecisions count ds
    → ((get_or ds m no_decision).block < count) × (decided_by (take m ds) (get_or ds m no_decision).block ≡ None)
split_open count ds m l each = each (take m ds) (drop (suc m) ds) (get_or ds m no_decision) (parts_at ds m no_decision l)

-- a list with one more at its end, reversed
pub reversed : {A : Type 0} (xs ys : List A) (x : A) → xs ≡ ys ++ x ∷ [] → reverse xs ≡ x ∷ reverse ys
reversed xs ys x e = ap reverse e ∙ reverse-append ys (x ∷ [])

module _ (count : ℕ) (ds : List Decision) (each : AreDecisions count ds) (xs ys : List ℕ) (m : ℕ) (e : xs ≡ ys ++ m ∷ []) (are : AreSplitMarks ds (reverse xs)) where
  parts : (m < length ds) × AreSplitMarks (take m ds) (reverse ys)
  parts = subst (λ ms. AreSplitMarks ds ms) (reversed xs ys m e) are

  pub newest_within : m < length ds
  newest_within = parts.0

  pub newest_open : ((get_or ds m no_decision).block < count) × (decided_by (take m ds) (get_or ds m no_decision).block ≡ None)
  newest_open = split_open count ds m parts.0 each

  pub newest_marks : AreSplitMarks (take m ds ++ record { block = (get_or ds m no_decision).block; full = false } ∷ []) (reverse ys)
  newest_marks = marks_more (take m ds) _ (reverse ys) parts.1

  pub newest_standing : all_to_come true (take m ds ++ record { block = (get_or ds m no_decision).block; full = false } ∷ []) (reverse ys) ≡ sides_to_come ds (reverse xs)
  newest_standing = standing_decided (take m ds) (record { block = (get_or ds m no_decision).block; full = false }) (reverse ys) newest_open.1 parts.1
      ∙ ap (sides_to_come ds) (sym (reversed xs ys m e))
