-- What words say, by the command that their first one calls.
use Rattle.std.proofs.Common.{◌≡◌, ◌∙◌, ◌≤◌, refl, sym, ℕ, ap, subst, Bool, true, false, cond, List, [], ◌∷◌, map, drop, length, slice_index_or, Option, Some, None, codes, arith}
use Rattle.std.specs.Prelude.{option_map}
use Rattle.std.specs.Str.{bytes_eq}
use Rattle.std.proofs.lemmas.Slice.Eq.{bytes_eq-Decides}
use Rattle.solid_model.specs.Limits.{most_decimals, most_solid_limit}
use Rattle.solid_model.specs.Search.{default_limits}
use Rattle.lemmas.specs.Lists.{Each}
use Rattle.words.specs.declared.job.Job.{Job}
use Rattle.words.specs.Jobs.{AreWorkers, Command, ask_table, blocks_table, IsCounted, command_said, commands, decimals_field, decimals_in, job_said, limits_in, most_workers, number_in, prove_table, redraw_table, said_among, solids_field, solve_table, stl_table, trial_table, workers_field, workers_in}
use Rattle.words.specs.Rows.{is_sound}
use Rattle.words.specs.Said.{agrees}
use Rattle.words.specs.declared.table.Range.{Range}
use Rattle.words.specs.Words.{Table, Text, Use, number_field, number_name, number_or, taken, text_in}
use Rattle.words.proofs.Values.{read_within, value_within}

-- the first of some words is the command's name
pub said_by_name : {S : Type 0} (bytes : S → Text) (words : List S) (first : S) (name : Text) → 1 ≤ length words
    → first ≡ slice_index_or words 0 first → name ≡ bytes first
    → job_said (map bytes words) ≡ said_among commands name (drop 1 (map bytes words))
said_by_name bytes [] first name some is named = absurd (omega arith)
said_by_name bytes (w ∷ ws) first name some is named =
    ap (λ n. said_among commands n (map bytes ws)) (ap bytes (sym is) ∙ sym named)

not_called : (name wanted : Text) → (name ≡ wanted → ⊥) → bytes_eq name wanted ≡ false
not_called name wanted other = go (bytes_eq name wanted) refl
  where
    go : (b : Bool) → bytes_eq name wanted ≡ b → b ≡ false
    go false is = refl
    go true is = absurd (other ((bytes_eq-Decides name wanted).0 is))

-- a name that no command has says nothing
pub unknown_unsaid : (cs : List Command) (name : Text) (words : List Text) → Each (λ c. name ≡ c.name → ⊥) cs
    → said_among cs name words ≡ None
unknown_unsaid [] name words others = refl
unknown_unsaid (c ∷ cs) name words others = rw (not_called name c.name others.0) (unknown_unsaid cs name words others.1)

-- ---- numbers of solids and of workers

-- the numbers that a command's words ask for can be met
abbrev Counts : Command → Type 0
Counts c = (words : List Text) (us : List Use) → taken c.table words ≡ Some us → IsCounted (c.job us)

counted_said : (c : Command) → Counts c → (words : List Text) (j : Job) → command_said c words ≡ Some j → IsCounted j
counted_said c counts words j said = by (taken c.table words) refl said
  where
    by : (o : Option (List Use)) → taken c.table words ≡ o → option_map c.job o ≡ Some j → IsCounted j
    by None is e = cc
    by (Some us) is e = subst IsCounted (let same : c.job us ≡ j = cc in same) (counts words us is)

counted_among : (cs : List Command) → Each Counts cs → (name : Text) (words : List Text) (j : Job) → said_among cs name words ≡ Some j → IsCounted j
counted_among [] each name words j said = cc
counted_among (c ∷ cs) each name words j said = by (bytes_eq name c.name) (counted_among cs each.1 name words j) said
  where
    by : (b : Bool) → (said_among cs name words ≡ Some j → IsCounted j)
        → cond b (command_said c words) (said_among cs name words) ≡ Some j → IsCounted j
    by true later e = counted_said c each.0 words j e
    by false later e = later e

-- what a command takes as the value of a name lies in its range, where what stands for nothing does
within : (t : Table) (name : Text) (r : Range) (otherwise : ℕ) → is_sound t ≡ true
    → agrees t (record { name = name; range = Some r }) ≡ true → r.least ≤ otherwise → otherwise ≤ r.most
    → (words : List Text) (us : List Use) → taken t words ≡ Some us
    → (r.least ≤ number_or us name otherwise) × (number_or us name otherwise ≤ r.most)
within t name r otherwise sound agree low high words us is = read_within r.least r.most otherwise (text_in name us)
    (value_within t sound words us (record { name = name; range = Some r }) is agree) low high

-- any command has as many workers as may be, and no more decimals than may be
counts : (t : Table) → is_sound t ≡ true → agrees t workers_field ≡ true → agrees t decimals_field ≡ true
    → (words : List Text) (us : List Use) → taken t words ≡ Some us → AreWorkers (workers_in us) × (decimals_in us ≤ most_decimals)
counts t sound workers decimals words us is = (
  within t (codes "workers") (record { least = 1; most = most_workers }) 1 sound workers (omega arith) (omega arith) words us is,
  (within t (codes "decimals") (record { least = 0; most = most_decimals }) 0 sound decimals (omega arith) (omega arith) words us is).1,
)

-- nor a higher limit of solids than may be
few_solids : (t : Table) → is_sound t ≡ true → agrees t solids_field ≡ true → (words : List Text) (us : List Use) → taken t words ≡ Some us
    → (limits_in us).solids ≤ most_solid_limit
few_solids t sound agree words us is = (within t (codes "solids") (record { least = 1; most = most_solid_limit }) default_limits.solids sound agree (omega arith) (omega arith) words us is).1

-- one that takes the number of a solid has one that is 1 at least
has_number_of_solid : (t : Table) → is_sound t ≡ true → agrees t (number_field (record { least = 1; most = most_solid_limit })) ≡ true
    → (words : List Text) (us : List Use) → taken t words ≡ Some us → 1 ≤ number_in us
has_number_of_solid t sound agree words us is =
    (within t number_name (record { least = 1; most = most_solid_limit }) 1 sound agree (omega arith) (omega arith) words us is).0

-- so the numbers of a job that words ask for can be met
pub said_is_counted : (words : List Text) (j : Job) → job_said words ≡ Some j → IsCounted j
said_is_counted [] j said = cc
said_is_counted (name ∷ words) j said = counted_among commands (
  counts solve_table refl refl refl,
  (
    (λ ws us is. let c = counts redraw_table refl refl refl ws us is in (has_number_of_solid redraw_table refl refl ws us is, c.0, c.1)),
    (
      (λ ws us is. (has_number_of_solid stl_table refl refl ws us is, (counts stl_table refl refl refl ws us is).0)),
      (
        (λ ws us is. ((counts prove_table refl refl refl ws us is).0, few_solids prove_table refl refl ws us is)),
        (
          (λ ws us is. tt),
          (
            (λ ws us is. (counts ask_table refl refl refl ws us is).0),
            (
              (λ ws us is. (counts blocks_table refl refl refl ws us is).1),
              ((λ ws us is. tt), ((λ ws us is. (counts trial_table refl refl refl ws us is).0), tt)),
            ),
          ),
        ),
      ),
    ),
  ),
) name words j said
