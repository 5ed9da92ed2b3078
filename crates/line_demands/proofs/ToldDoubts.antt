-- What is told of the lines that touch each decision's block, with a decision more or less.
use Rattle.std.proofs.Common.{◌≡◌, ◌<◌, ◌≤◌, ◌+◌, ◌++◌, ◌∷◌, [], inl, inr, false, ℕ, List, length, take, get_or, slice_get, Option, Some, None, ap, refl, sym, subst, ◌∙◌, arith}
use Rattle.std.specs.Prelude.{IsSome}
use Rattle.std.specs.Option.{option_to_list}
use Rattle.std.proofs.Math.Seq.{get_or-append_seam}
use Rattle.std.proofs.lemmas.Bool.{cases_lt, both_ways}
use Rattle.std.proofs.lemmas.List.{length_push, take-append-le, take_all, get_or_append_left}
use Rattle.std.proofs.lemmas.Option.{slice_get_within, slice_get-get_or, get_or_from_slice_get, none-some}
use Rattle.line_demands.specs.Free.{LeaveFreeBut, AreDoubts}
use Rattle.solid_model.specs.declared.decision.Decision.{Decision}
use Rattle.solid_model.specs.Blocks.{ProblemParts}
use Rattle.solid_model.specs.Decisions.{decided_by}

pub no_doubts : (p : ProblemParts) (room : ℕ) → p.blocks.count ≤ room → AreDoubts p [] [] room
no_doubts p room roomy = record { count = refl; roomy = roomy; each = λ at d e is. absurd (none-some d is) }

module _ (p : ProblemParts) (ds : List Decision) (d : Decision) (doubts : List ℕ) (n room : ℕ) where
  pub doubts_more : AreDoubts p ds doubts room → LeaveFreeBut p (decided_by (ds ++ d ∷ [])) d.block n → AreDoubts p (ds ++ d ∷ []) (doubts ++ n ∷ []) room
  doubts_more before here = record { count = (let a = length_push doubts n in let b = length_push ds d in let e = before.count in omega arith); roomy = before.roomy; each = each }
    where
      each : (at : ℕ) (f : Decision) (e : ℕ) → slice_get (ds ++ d ∷ []) at ≡ Some f → LeaveFreeBut p (decided_by (take (at + 1) (ds ++ d ∷ []))) f.block (get_or (doubts ++ n ∷ []) at e)
      each at f e is = elim (cases_lt at (length ds)) as (λ _. LeaveFreeBut p (decided_by (take (at + 1) (ds ++ d ∷ []))) f.block (get_or (doubts ++ n ∷ []) at e)) [
        | inl earlier ↦
            subst (λ (xs : List Decision). LeaveFreeBut p (decided_by xs) f.block (get_or (doubts ++ n ∷ []) at e)) (sym (take-append-le (at + 1) ds (d ∷ []) (omega arith)))
            (subst (LeaveFreeBut p (decided_by (take (at + 1) ds)) f.block) (sym (get_or_append_left doubts (n ∷ []) e at (let m = before.count in omega arith)))
            (before.each at f e (slice_get-get_or ds at f earlier ∙ ap Some (sym (get_or_append_left ds (d ∷ []) f at earlier) ∙ get_or_from_slice_get (ds ++ d ∷ []) at f f is))))
        | inr later ↦ (let last : length ds ≡ at = (let m = slice_get_within (ds ++ d ∷ []) at f is in let k = length_push ds d in omega (arith, m, k, later)) in
            let of : d ≡ f = sym (get_or-append_seam ds d [] f) ∙ ap (λ k. get_or (ds ++ d ∷ []) k f) last ∙ get_or_from_slice_get (ds ++ d ∷ []) at f f is in
            let told : n ≡ get_or (doubts ++ n ∷ []) at e = sym (get_or-append_seam doubts n [] e) ∙ ap (λ k. get_or (doubts ++ n ∷ []) k e) (before.count ∙ last) in
            subst (λ (xs : List Decision). LeaveFreeBut p (decided_by xs) f.block (get_or (doubts ++ n ∷ []) at e)) (sym (take_all (at + 1) (ds ++ d ∷ []) (let k = length_push ds d in omega (arith, k, last))))
            (subst (λ (g : Decision). LeaveFreeBut p (decided_by (ds ++ d ∷ [])) g.block (get_or (doubts ++ n ∷ []) at e)) of
            (subst (LeaveFreeBut p (decided_by (ds ++ d ∷ [])) d.block) told here)))
      ]

  doubts_less : AreDoubts p (ds ++ d ∷ []) (doubts ++ n ∷ []) room → AreDoubts p ds doubts room
  doubts_less after = record { count = count; roomy = after.roomy; each = each }
    where
      count : length doubts ≡ length ds
      count = let a = length_push doubts n in let b = length_push ds d in let e = after.count in omega arith

      each : (at : ℕ) (f : Decision) (e : ℕ) → slice_get ds at ≡ Some f → LeaveFreeBut p (decided_by (take (at + 1) ds)) f.block (get_or doubts at e)
      each at f e is =
          let within = slice_get_within ds at f is in
          let longer : at < length (ds ++ d ∷ []) = (let k = length_push ds d in omega (arith, within, k)) in
          subst (λ (xs : List Decision). LeaveFreeBut p (decided_by xs) f.block (get_or doubts at e)) (take-append-le (at + 1) ds (d ∷ []) (omega (arith, within)))
          (subst (LeaveFreeBut p (decided_by (take (at + 1) (ds ++ d ∷ []))) f.block) (get_or_append_left doubts (n ∷ []) e at (omega (arith, within, count)))
          (after.each at f e (slice_get-get_or (ds ++ d ∷ []) at f longer ∙ ap Some (get_or_append_left ds (d ∷ []) f at within ∙ get_or_from_slice_get ds at f f is))))

-- the last one is taken away
pub doubts_popped : (p : ProblemParts) (ds : List Decision) (d : Decision) (old new : List ℕ) (last : Option ℕ) (room : ℕ) → old ≡ new ++ option_to_list last → IsSome last
    → AreDoubts p (ds ++ d ∷ []) old room → AreDoubts p ds new room
doubts_popped p ds d old new (Some n) room is some before = doubts_less p ds d new n room (subst (λ ms. AreDoubts p (ds ++ d ∷ []) ms room) is before)
doubts_popped p ds d old new None room is some before = absurd (both_ways false refl some)
