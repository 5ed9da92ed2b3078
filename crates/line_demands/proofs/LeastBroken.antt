-- The least of the broken lines is the first of all lines that can't be met.
use Rattle.std.proofs.Common.{◌≡◌, ◌↔◌, inl, inr, Bool, true, false, if◌then◌else◌, ◌==◌, nat_lt, ℕ, zero, suc, ◌+◌, ◌<◌, ◌≤◌, List, [], ◌∷◌, ◌++◌, length, take, drop, map, get_or, Option, Some, None, refl, ap, sym, subst, ◌∙◌, arith}
use Rattle.std.specs.Prelude.{IfSome}
use Rattle.std.proofs.lemmas.Bool.{cases_Bool, eqb-true, eq-eqb, ltb-true, ltb-false}
use Rattle.std.proofs.lemmas.List.{length-map, length-take-le, get_or-take, get_or-map}
use Rattle.std.proofs.lemmas.Grind.{take_at_read}
use Rattle.line_demands.specs.declared.lines.Beside.{Beside}
use Rattle.line_demands.specs.Broken.{TellsBroken}
use Rattle.line_demands.specs.Lines.{IsLeastNumber, IsLeast, lesser_of}
use Rattle.solid_model.specs.declared.line_id.LineId.{LineId}
use Rattle.solid_model.specs.declared.segment.Style.TheVariants.{Blank}
use Rattle.solid_model.specs.Blocks.{ProblemParts}
use Rattle.solid_model.specs.Demands.{lines_of, CanBeMet, AllMet, IsFirstBroken}
use Rattle.lemmas.specs.Lists.{Member}
use Rattle.column_laws.proofs.AllLines.{lines_are_there, lines_are_listed}
use Rattle.lemmas.proofs.ListPlaces.{member-place}
use Rattle.lemmas.proofs.Lists.{member-append_right, total_push}
use Rattle.lemmas.specs.Counts.{one_if, times_listed}
use Rattle.std.proofs.lemmas.Option.{none-some}

-- ---- the least of some numbers

module _ (numbers : List ℕ) (n : ℕ) (d : ℕ) (l : n < length numbers) where
  more : (i : ℕ) → times_listed i (take (n + 1) numbers) ≡ times_listed i (take n numbers) + one_if (get_or numbers n d == i)
  more i = ap (times_listed i) (take_at_read numbers n d l).1 ∙ total_push (λ x. one_if (x == i)) (take n numbers) (get_or numbers n d)

  here : times_listed (get_or numbers n d) (take (n + 1) numbers) ≡ times_listed (get_or numbers n d) (take n numbers) + 1
  here = more (get_or numbers n d) ∙ ap (λ b. times_listed (get_or numbers n d) (take n numbers) + one_if b) (eq-eqb (get_or numbers n d) (get_or numbers n d) refl)

  other : (i : ℕ) → i < get_or numbers n d → times_listed i (take (n + 1) numbers) ≡ times_listed i (take n numbers)
  other i m = elim (cases_Bool (get_or numbers n d == i)) as (λ _. times_listed i (take (n + 1) numbers) ≡ times_listed i (take n numbers)) [
    | inl is ↦ absurd (let e = eqb-true (get_or numbers n d) i is in omega arith)
    | inr off ↦ (let a = more i in let b = ap one_if off in omega arith)
  ]

  pub least_first : IsLeast (take n numbers) None → IsLeast (take (n + 1) numbers) (Some (get_or numbers n d))
  least_first none = record { there = (let e = here in omega arith); least = λ i m. other i m ∙ none i }

  pub least_new : (x : ℕ) → IsLeastNumber (take n numbers) x → get_or numbers n d < x → IsLeast (take (n + 1) numbers) (Some (get_or numbers n d))
  least_new x so_far m = record { there = (let e = here in omega arith); least = λ i k. other i k ∙ so_far.least i (omega arith) }

  pub least_old : (x : ℕ) → IsLeastNumber (take n numbers) x → x ≤ get_or numbers n d → IsLeast (take (n + 1) numbers) (Some x)
  least_old x so_far m = record { there = (let e = more x in let f = so_far.there in omega arith); least = λ i k. other i (omega arith) ∙ so_far.least i k }

-- ---- lists

split_at : {A : Type 0} (xs : List A) (i : ℕ) (d : A) → i < length xs → xs ≡ take i xs ++ get_or xs i d ∷ drop (suc i) xs
split_at [] i d l = absurd (omega arith)
split_at (x ∷ xs) zero d l = refl
split_at (x ∷ xs) (suc i) d l = ap (λ ys. x ∷ ys) (split_at xs i d (omega arith))

-- ---- lines

module _ (p : ProblemParts) (known : ℕ → Option Bool) (sides : List Beside) (listed : map (λ b. b.line) sides ≡ lines_of p.grid) (broken : List ℕ)
    (told : (i : ℕ) (d : Beside) → i < length sides → (times_listed i broken ≡ 0) ↔ CanBeMet p known (get_or sides i d).line) where
  abbrev lines : List LineId
  lines = lines_of p.grid

  counted : length lines ≡ length sides
  counted = ap length (sym listed) ∙ length-map sides (λ b. b.line)

  line_at : (i : ℕ) (d : Beside) (e : LineId) → i < length sides → get_or lines i e ≡ (get_or sides i d).line
  line_at i d e l = ap (λ ls. get_or ls i e) (sym listed) ∙ get_or-map (λ b. b.line) sides i d e l

  pub none_broken : IsLeast broken None → TellsBroken p known None
  none_broken none m k =
      let at = member-place lines m k in
      let l : at.0 < length sides = (let e = counted in let f = at.1 in omega arith) in
      let d : Beside = record { line = m; after = 0; before = 0; style = Blank } in
      subst (CanBeMet p known) (sym (line_at at.0 d m l) ∙ at.2 m) ((told at.0 d l).0 (none at.0))

  pub some_broken : (x : ℕ) (d : Beside) → x < length sides → IsLeastNumber broken x → TellsBroken p known (Some (get_or sides x d).line)
  some_broken x d l is = record {
    earlier = take x lines;
    later = drop (suc x) lines;
    place = (let e = (get_or sides x d).line in
        subst (λ y. lines ≡ take x lines ++ y ∷ drop (suc x) lines) (line_at x d e l) (split_at lines x e (let f = counted in omega arith)));
    met = λ m k.
        let at = member-place (take x lines) m k in
        let long = length-take-le x lines (let f = counted in omega arith) in
        let below : at.0 < x = (let f = at.1 in omega arith) in
        let there : at.0 < length sides = omega arith in
        subst (CanBeMet p known) (sym (line_at at.0 d m there) ∙ sym (get_or-take x lines at.0 m below) ∙ at.2 m) ((told at.0 d there).0 (is.least at.0 below));
    broken = λ met. (let e = (told x d l).1 met in let f = is.there in omega arith);
  }

-- one number more
pub least_more : (numbers : List ℕ) (n d : ℕ) (l : n < length numbers) (r : Option ℕ) → IsLeast (take n numbers) r → IsLeast (take (n + 1) numbers) (Some (lesser_of r (get_or numbers n d)))
least_more numbers n d l None none = least_first numbers n d l none
least_more numbers n d l (Some x) is = by (nat_lt (get_or numbers n d) x) refl
  where
    by : (t : Bool) → nat_lt (get_or numbers n d) x ≡ t → IsLeast (take (n + 1) numbers) (Some (if nat_lt (get_or numbers n d) x then get_or numbers n d else x))
    by true e = subst (λ (t : Bool). IsLeast (take (n + 1) numbers) (Some (if t then get_or numbers n d else x))) (sym e) (least_new numbers n d l x is (ltb-true (get_or numbers n d) x e))
    by false e = subst (λ (t : Bool). IsLeast (take (n + 1) numbers) (Some (if t then get_or numbers n d else x))) (sym e) (least_old numbers n d l x is (ltb-false (get_or numbers n d) x e))

-- ---- what the answer says

pub told_some : (p : ProblemParts) (known : ℕ → Option Bool) (r : Option LineId) → TellsBroken p known r → IfSome r (IsFirstBroken p known)
told_some p known None told = tt
told_some p known (Some l) told = told

pub told_none : (p : ProblemParts) (known : ℕ → Option Bool) (r : Option LineId) → TellsBroken p known r → (r ≡ None) ↔ AllMet p known
told_none p known None told = (λ e l has. told l (lines_are_listed p.grid l has), λ met. refl)
told_none p known (Some l) told = (
  λ e. absurd (none-some l (sym e)),
  λ met. absurd (told.broken (met l (lines_are_there p.grid l
      (subst (λ ls. Member ls l) (sym told.place) (member-append_right told.earlier (l ∷ told.later) l (inl refl)))))),
)
