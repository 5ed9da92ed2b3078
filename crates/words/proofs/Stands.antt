-- What is held between two words, as uses: those that are done, and one that may be pending.
use Rattle.std.proofs.Common.{◌≡◌, ◌∙◌, refl, sym, ap, Bool, true, false, not, ◌&&◌, List, [], ◌∷◌, ◌++◌, map, Option, Some, None, nat_lt, ◌^◌, true≢false}
use Rattle.std.specs.Option.{option_map_or}
use Rattle.std.proofs.lemmas.List.{map-append}
use Rattle.clap.specs.Faults.{react_fault, settle_fault, use_fault}
use Rattle.clap.specs.Simple.{filled}
use Rattle.clap.specs.Walk.{Held, Row, Rule, arg_by_id, has_row, settled_rows, used, used_by_id}
use Rattle.clap.proofs.WalkLemmas.{both}
use Rattle.words.specs.declared.table.Range.{Range}
use Rattle.words.specs.Barred.{begins_with_plus}
use Rattle.words.specs.Rules.{rule_by}
use Rattle.words.specs.Words.{Table, Text, Use, fits_after, flag_text, is_used, number_field, number_name, suits}
use Rattle.words.proofs.Built.{built_number, built_rules}
use Rattle.words.proofs.Fits.{fits_one}
use Rattle.words.proofs.OneUse.{flag_fault, flag_used, none, none_of_two, rows_used, use_row, value_fault, value_used}
use Rattle.words.proofs.Texts.{within_same}

abbrev pub held : List Row → Option (Text × List Text) → Held
held rows pending = record { rows = rows; pending = pending; skip = 0 }

-- a use of the argument with these values is the use u
pub record IsUse (a : Rule) (values : List Text) (u : Use) : Type 0 where
  pub fault : (rows : List Row) → none (use_fault false a values rows) ≡ (not (has_row u.0.name rows) && suits u)
  pub row : (rows : List Row) → has_row u.0.name rows ≡ false → used a values rows ≡ rows ++ use_row u ∷ []

pub value_use : (name : Text) (r : Range) (x : Text) → begins_with_plus x ≡ false → nat_lt r.most (2 ^ 64) ≡ true
    → IsUse (filled (rule_by name (Some r))) (x ∷ []) (record { name = name; range = Some r }, x)
value_use name r x plain small = record {
  fault = λ rows. value_fault name r x rows ∙ ap (λ b. not (has_row name rows) && b) (within_same r x plain small);
  row = λ rows e. value_used name r x rows e;
}

pub flag_use : (name : Text) → IsUse (filled (rule_by name None)) [] (record { name = name; range = None }, flag_text)
flag_use name = record { fault = λ rows. flag_fault name rows; row = λ rows e. flag_used name rows e }

pub number_use : (r : Range) (x : Text) → begins_with_plus x ≡ false → nat_lt r.most (2 ^ 64) ≡ true
    → IsUse (built_number r) (x ∷ []) (number_field r, x)
number_use r x plain small =
    let u = value_use number_name r x plain small in
    record { fault = λ rows. u.fault rows; row = λ rows e. u.row rows e }

module _ (t : Table) where
  -- what is held says these uses
  pub record Stands (rows : List Row) (pending : Option (Text × List Text)) (us : List Use) : Type 0 where
    pub fault : none (settle_fault (built_rules t) false (held rows pending)) ≡ fits_after [] us
    pub settled : fits_after [] us ≡ true → settled_rows (built_rules t) pending rows ≡ map use_row us

  -- one more use, of rows that are settled
  more_fault : (us : List Use) (u : Use) (a : Rule) (values : List Text) (rows : List Row) → IsUse a values u → rows
      ≡ map use_row us
      → none (use_fault false a values rows) ≡ (not (is_used u.0.name us) && suits u)
  more_fault us u a values rows made same =
      made.fault rows ∙ ap (λ b. not b && suits u) (ap (has_row u.0.name) same ∙ rows_used u.0.name us)

  more_rows : (us : List Use) (u : Use) (a : Rule) (values : List Text) (rows : List Row) → IsUse a values u → rows
      ≡ map use_row us
      → fits_after [] (us ++ u ∷ []) ≡ true → used a values rows ≡ map use_row (us ++ u ∷ [])
  more_rows us u a values rows made same fits =
      let parts = both _ _ (both _ _ (sym (fits_one us u) ∙ fits)).1 in
      made.row rows (ap (has_row u.0.name) same ∙ rows_used u.0.name us ∙ negated (is_used u.0.name us) parts.0)
      ∙ ap (λ rs. rs ++ use_row u ∷ []) same ∙ sym (map-append use_row us (u ∷ []))
    where
      negated : (b : Bool) → not b ≡ true → b ≡ false
      negated true e = absurd (true≢false (sym e))
      negated false e = refl

  both_fit : (a b c : Bool) → (a ≡ true → b ≡ c) → (a && b) ≡ (a && c)
  both_fit true b c h = h refl
  both_fit false b c h = refl

  -- a use with all its values at once
  pub at_once : (rows : List Row) (pending : Option (Text × List Text)) (us : List Use) (u : Use) (a : Rule)
      (values : List Text) → Stands rows pending us → IsUse a values u
      → none (react_fault (built_rules t) false a values (held rows pending)) ≡ fits_after [] (us ++ u ∷ [])
  at_once rows pending us u a values s made =
      none_of_two (settle_fault (built_rules t) false (held rows pending))
      (use_fault false a values (settled_rows (built_rules t) pending rows))
      ∙ ap (λ b. b && none (use_fault false a values (settled_rows (built_rules t) pending rows))) s.fault
      ∙ both_fit (fits_after [] us) _ _ (λ fits. more_fault us u a values (settled_rows (built_rules t) pending rows) made
      (s.settled fits))
      ∙ sym (fits_one us u)

  pub after_at_once : (rows : List Row) (pending : Option (Text × List Text)) (us : List Use) (u : Use) (a : Rule)
      (values : List Text) → Stands rows pending us → IsUse a values u
      → fits_after [] (us ++ u ∷ []) ≡ true → Stands (used a values (settled_rows (built_rules t) pending rows)) None
      (us ++ u ∷ [])
  after_at_once rows pending us u a values s made fits =
      let before = (both _ _ (sym (fits_one us u) ∙ fits)).0 in
      record {
        fault = sym fits;
        settled = λ f. more_rows us u a values (settled_rows (built_rules t) pending rows) made (s.settled before) fits;
      }

  -- a use that waits for the next word to be looked at
  pub pends : (us : List Use) (u : Use) (a : Rule) (values : List Text) (rows : List Row) → fits_after [] us ≡ true → rows
      ≡ map use_row us
      → arg_by_id (built_rules t) u.0.name ≡ Some a → IsUse a values u → Stands rows (Some (u.0.name, values)) (us ++ u ∷ [])
  pends us u a values rows before same found made = record {
    fault = ap (λ o. none (option_map_or (λ b. use_fault false b values rows) o [])) found
        ∙ more_fault us u a values rows made same ∙ sym (fits_one us u
        ∙ ap (λ b. b && (not (is_used u.0.name us) && suits u)) before);
    settled = λ fits. ap (λ o. used_by_id o values rows) found ∙ more_rows us u a values rows made same fits;
  }
