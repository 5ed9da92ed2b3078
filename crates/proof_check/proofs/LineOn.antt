-- One line on.
use Rattle.std.proofs.Common.{◌≡◌, Bool, true, false, ℕ, suc, ◌+◌, ◌≤◌, List, [], ◌∷◌, ◌++◌, length, Some, None, inl, inr, refl, ap, sym, subst, ◌∙◌, append_assoc, arith, length-append}
use Rattle.std.proofs.lemmas.List.{append-nil}
use Rattle.solid_model.specs.declared.decision.Decision.{Decision}
use Rattle.solid_model.specs.Decisions.{decided_by}
use Rattle.solid_model.specs.Blocks.{ProblemParts}
use Rattle.completeness_logs.specs.declared.entry.LogEntry.{LogEntry}
use Rattle.proof_check.specs.declared.fault.LogKind.{LogKind}
use Rattle.proof_check.specs.declared.fault.LogKind.TheVariants.{BadLine, Short}
use Rattle.completeness_logs.specs.Logs.{KnownBlocks, IsRightEntry, after_entry, listed_at, listed_by}
use Rattle.dxf_groups.specs.TextLines.{text_lines}
use Rattle.completeness_logs.specs.LogTexts.{most_listed}
use Rattle.completeness_logs.specs.SplitMarks.{sides_to_come, all_to_come}
use Rattle.completeness_logs.proofs.Listed.{listed_count}
use Rattle.proof_check.specs.Checks.{IsRestOfLog, IsRefusedFrom, found_along, found_at, states_after}
use Rattle.proof_check.specs.Refusals.{IsWrongEntry}
use Rattle.proof_check.specs.LogLines.{LogReading}
use Rattle.proof_check.specs.Walks.{LogPlace, LeadsTo}

pub goes_self : (p : ProblemParts) (r : LogReading) (from : LogPlace) → LeadsTo p r from from
goes_self p r from = record { rest = λ h. h; refused = λ kind line h. h; found = refl }

pub goes_far : (p : ProblemParts) (r : LogReading) (a b c : LogPlace) → LeadsTo p r a b → LeadsTo p r b c → LeadsTo p r a c
goes_far p r a b c f g = record {
  rest = λ h. f.rest (g.rest h);
  refused = λ kind line h. f.refused kind line (g.refused kind line h);
  found = g.found ∙ f.found;
}

module _ (p : ProblemParts) (r : LogReading) (known : KnownBlocks) (rest : List KnownBlocks) (listed : List (List Bool)) (number : ℕ) (line : List ℕ) (lines : List (List ℕ)) (e : LogEntry)
    (said : r.entry line ≡ Some e) (right : IsRightEntry p known e) (few : length listed + listed_by e ≤ most_listed) where
  count : length (listed ++ listed_at p known e) ≡ length listed + listed_by e
  count = length-append listed (listed_at p known e) ∙ ap (λ n. length listed + n) (listed_count p known e)

  pub goes_line : LeadsTo p r (record { coming = known ∷ rest; listed = listed; number = number; lines = line ∷ lines })
      (record { coming = after_entry e known rest; listed = listed ++ listed_at p known e; number = suc number; lines = lines })
  goes_line = record {
    rest = λ h. (e, said, right, few, subst (λ n. IsRestOfLog p r (after_entry e known rest) n lines) count h);
    refused = λ kind at h. inr (e, said, inr (right, few, subst (λ n. IsRefusedFrom p r (after_entry e known rest) n (suc number) lines kind at) count h));
    found = append_assoc listed (listed_at p known e) (found_along p r (after_entry e known rest) lines)
        ∙ ap (λ o. listed ++ (found_at p known o ++ found_along p r (states_after known rest o) lines)) (sym said);
  }

-- ---- what the walk keeps

module _ (p : ProblemParts) (r : LogReading) (from : LogPlace) (open_ : Bool) (ds : List Decision) (ms : List ℕ) (listed : List (List Bool)) (number : ℕ) (rest : List ℕ)
    (goes : LeadsTo p r from (record { coming = all_to_come open_ ds ms; listed = listed; number = number; lines = text_lines rest })) where
  module _ (is : open_ ≡ true) where
    at_open : LeadsTo p r from (record { coming = all_to_come true ds ms; listed = listed; number = number; lines = text_lines rest })
    at_open = subst (λ b. LeadsTo p r from (record { coming = all_to_come b ds ms; listed = listed; number = number; lines = text_lines rest })) is goes

    pub refused_short : length rest ≡ 0 → IsRefusedFrom p r from.coming (length from.listed) from.number from.lines Short number
    refused_short e = by rest e at_open
      where
        by : (cs : List ℕ) → length cs ≡ 0 → LeadsTo p r from (record { coming = all_to_come true ds ms; listed = listed; number = number; lines = text_lines cs })
            → IsRefusedFrom p r from.coming (length from.listed) from.number from.lines Short number
        by [] f g = g.refused Short number (refl, refl)
        by (c ∷ cs) f g = absurd (omega (arith, f))

    module _ (line after : List ℕ) (first : text_lines rest ≡ line ∷ text_lines after) where
      at_line : LeadsTo p r from (record { coming = all_to_come true ds ms; listed = listed; number = number; lines = line ∷ text_lines after })
      at_line = subst (λ ls. LeadsTo p r from (record { coming = all_to_come true ds ms; listed = listed; number = number; lines = ls })) first at_open

      pub refused_line : r.entry line ≡ None → IsRefusedFrom p r from.coming (length from.listed) from.number from.lines BadLine number
      refused_line e = at_line.refused BadLine number (inl (e, refl, refl))

      module _ (q : ProblemParts) (same : q ≡ p) (e : LogEntry) (said : r.entry line ≡ Some e) where
        pub refused_entry : (kind : LogKind) → IsWrongEntry q (decided_by ds) (length listed) e kind → IsRefusedFrom p r from.coming (length from.listed) from.number from.lines kind number
        refused_entry kind wrong = at_line.refused kind number (inr (e, said, inl (refl, subst (λ s. IsWrongEntry s (decided_by ds) (length listed) e kind) same wrong)))

        pub goes_next : IsRightEntry q (decided_by ds) e → length listed + listed_by e ≤ most_listed
            → (now : List KnownBlocks) → now ≡ after_entry e (decided_by ds) (sides_to_come ds ms) → (more : List (List Bool)) → more ≡ listed ++ listed_at q (decided_by ds) e → (next : ℕ) → next ≡ number + 1
            → LeadsTo p r from (record { coming = now; listed = more; number = next; lines = text_lines after })
        goes_next right few now is_now more is_more next is_next =
            subst (λ ks. LeadsTo p r from (record { coming = ks; listed = more; number = next; lines = text_lines after })) (sym is_now)
            (subst (λ xs. LeadsTo p r from (record { coming = after_entry e (decided_by ds) (sides_to_come ds ms); listed = xs; number = next; lines = text_lines after }))
            (sym (is_more ∙ ap (λ s. listed ++ listed_at s (decided_by ds) e) same))
            (subst (λ n. LeadsTo p r from (record { coming = after_entry e (decided_by ds) (sides_to_come ds ms); listed = listed ++ listed_at p (decided_by ds) e; number = n; lines = text_lines after }))
            (let h : suc number ≡ next = omega (arith, is_next) in h)
            (goes_far p r from _ _ at_line
            (goes_line p r (decided_by ds) (sides_to_come ds ms) listed number line (text_lines after) e said (subst (λ s. IsRightEntry s (decided_by ds) e) same right) few))))

  module _ (is : open_ ≡ false) where
    at_end : LeadsTo p r from (record { coming = []; listed = listed; number = number; lines = text_lines rest })
    at_end = subst (λ b. LeadsTo p r from (record { coming = all_to_come b ds ms; listed = listed; number = number; lines = text_lines rest })) is goes

    pub ends_right : IsRestOfLog p r [] (length listed) (text_lines rest) → IsRestOfLog p r from.coming (length from.listed) from.lines
    ends_right h = at_end.rest h

    pub ends_refused : (kind : LogKind) (line : ℕ) → IsRefusedFrom p r [] (length listed) number (text_lines rest) kind line → IsRefusedFrom p r from.coming (length from.listed) from.number from.lines kind line
    ends_refused kind line h = at_end.refused kind line h

    pub ends_found : listed ≡ from.listed ++ found_along p r from.coming from.lines
    ends_found = sym (append-nil listed) ∙ at_end.found
