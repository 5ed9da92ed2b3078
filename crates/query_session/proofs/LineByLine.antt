-- Askings that are read line by line.
use Rattle.std.proofs.Common.{◌≡◌, Bool, true, false, ◌==◌, ◌≤◌, inl, inr, codes, if◌then◌else◌, length-append, subst, ℕ, ◌+◌, List, [], ◌∷◌, ◌++◌, length, Option, Some, None, Result, Ok, Err, refl, sym, ◌∙◌, ap, ap₂, arith, append_assoc, append-nil}
use Rattle.std.proofs.lemmas.List.FromFn.{map-range_with_len_more}
use Rattle.std.specs.Str.{bytes_eq}
use Rattle.std.proofs.lemmas.Bool.{both_ways, cases_lt, eq-eqb}
use Rattle.query_session.specs.declared.ask.Ask.{Ask}
use Rattle.query_session.specs.declared.ask.AskFault.{AskFault}
use Rattle.query_session.specs.declared.ask.Asking.{Asking}
use Rattle.query_session.specs.declared.ask.AskKind.TheVariants.{TooMany}
use Rattle.query_session.specs.SessionLines.{asking_of_line}
use Rattle.query_session.specs.Sessions.{fault_at, asked_or_bad, before, go_on, line_said, read_askings, script_of, scripts_of}

pub before_none : (r : Result (List Asking) AskFault) → before [] r ≡ r
before_none (Ok xs) = refl
before_none (Err e) = refl

pub before_both : (xs ys : List Asking) (r : Result (List Asking) AskFault) → before xs (before ys r) ≡ before (xs ++ ys) r
before_both xs ys (Ok zs) = ap Ok (sym (append_assoc xs ys zs))
before_both xs ys (Err e) = refl

module _ (all : Result (List Asking) AskFault) (readers : ℕ) (xs : List Asking) (n : ℕ) (line : List ℕ) (lines rest : List (List ℕ))
    (so_far : all ≡ before xs (read_askings readers n lines)) (split : lines ≡ line ∷ rest) where
  -- what the next line says stands behind what is read so far
  next : (said : Result (Option Asking) AskFault) → line_said readers n line ≡ said → all ≡ before xs (go_on said (read_askings readers (n + 1) rest))
  next said is = so_far ∙ ap (λ ls. before xs (read_askings readers n ls)) split ∙ ap (λ s. before xs (go_on s (read_askings readers (n + 1) rest))) is

  pub next_asking : (a : Asking) → line_said readers n line ≡ Ok (Some a) → all ≡ before (xs ++ a ∷ []) (read_askings readers (n + 1) rest)
  next_asking a is = next (Ok (Some a)) is ∙ before_both xs (a ∷ []) (read_askings readers (n + 1) rest)

  pub next_go : line_said readers n line ≡ Ok None → all ≡ Ok xs
  next_go is = next (Ok None) is ∙ ap Ok (append-nil xs)

  pub next_fault : (fault : AskFault) → line_said readers n line ≡ Err fault → all ≡ Err fault
  next_fault fault is = next (Err fault) is

-- the script of one reader more
pub scripts_more : (askings : List Asking) (n : ℕ) (scripts : List (List Ask)) (script : List Ask) → scripts ≡ scripts_of n askings → script ≡ script_of askings n
    → scripts ++ script ∷ [] ≡ scripts_of (n + 1) askings
scripts_more askings n scripts script e f = ap₂ (λ xs x. xs ++ x ∷ []) e f ∙ sym (map-range_with_len_more (script_of askings) 0 n n (omega arith))

-- no more askings are read than may be
pub counted_on : (readers count : ℕ) (line : List ℕ) (a : Asking) → count ≤ 100 → line_said readers count line ≡ Ok (Some a) → count + 1 ≤ 100
counted_on readers count line a few e = at (bytes_eq line (codes "go")) (count == 100) refl refl e
  where
    at : (t u : Bool) → bytes_eq line (codes "go") ≡ t → (count == 100) ≡ u
        → (if t then Ok None else (if u then Err (fault_at TooMany count) else asked_or_bad count (asking_of_line readers line))) ≡ Ok (Some a) → count + 1 ≤ 100
    at true u f g h = absurd (let other : ⊥ = cc in other)
    at false true f g h = absurd (let other : ⊥ = cc in other)
    at false false f g h = elim (cases_lt count 100) as (λ _. count + 1 ≤ 100) [
      | inl lt ↦ omega (arith, lt)
      | inr le ↦ absurd (both_ways (count == 100) g (eq-eqb count 100 (omega (arith, le, few))))
    ]

-- what is read with one asking more
pub read_more : (all : Result (List Asking) AskFault) (readers : ℕ) (xs ys : List Asking) (line : List ℕ) (lines rest : List (List ℕ)) (n : ℕ) (a : Asking)
    → all ≡ before xs (read_askings readers (length xs) lines) → lines ≡ line ∷ rest → n ≡ length xs → line_said readers n line ≡ Ok (Some a) → ys ≡ xs ++ a ∷ []
    → all ≡ before ys (read_askings readers (length ys) rest)
read_more all readers xs ys line lines rest n a so_far split count is e =
    let said = subst (λ (k : ℕ). line_said readers k line ≡ Ok (Some a)) count is in
    let one : length xs + 1 ≡ length ys = omega (arith, ap length e, length-append xs (a ∷ [])) in
    next_asking all readers xs (length xs) line lines rest so_far split a said
    ∙ ap₂ (λ zs k. before zs (read_askings readers k rest)) (sym e) one
