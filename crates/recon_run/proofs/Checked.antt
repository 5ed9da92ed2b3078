-- What is said of a checked log.
use Rattle.std.proofs.Common.{codes, ◌≡◌, inl, inr, ◌∙◌, ap, refl, sym, subst, Bool, ℕ, List, length, Some, IsPermutation}
use Rattle.std.proofs.Math.Path.{transport}
use Rattle.page_calls.specs.Those.{AreThose}
use Rattle.page_calls.proofs.Those.{some_those}
use Rattle.completeness_logs.specs.LogTexts.{IsLog}
use Rattle.completeness_logs.proofs.Matching.{log_ordered}
use Rattle.dxf_entities.specs.declared.layer_set.LayerSet.{LayerSet}
use Rattle.dxf_entities.specs.declared.layer_set.LayerSet.TheVariants.{Main, Six, Sections}
use Rattle.file_problem.specs.Inputs.{form_of, HasProblem, Input}
use Rattle.file_problem.proofs.Problems.{one_problem, problem_drawing}
use Rattle.further_views.specs.Further.{further_lines}
use Rattle.lemmas.specs.Lists.{Ascends}
use Rattle.proof_check.proofs.SaidRefusals.{never_said, one_refusal_said}
use Rattle.recon_run.specs.Answers.{IsSomeLog, SaysChecked, SaysRefused, SaysRight, SaysWhichFit, SaysYes, TellsChecked, log_kind_name}
use Rattle.recon_run.specs.declared.sought.Sought.{Sought}
use Rattle.recon_run.specs.Searched.{IsSoughtBy, TellsRight, TellsWhichFit}
use Rattle.recon_run.proofs.OneEnd.{one_list, one_told}
use Rattle.recon_run.proofs.Verdicts.{judged_somehow, rest_there}
use Rattle.replies.specs.declared.status.Answer.{Answer}
use Rattle.replies.specs.declared.status.Answer.TheVariants as answers
use Rattle.report.specs.Texts.{fitting_text, refusal_text, yes_text}
use Rattle.six_views.specs.Further.{FitsLines}
use Rattle.six_views.proofs.SiftedChoices.{all_left, by_lines}
use Rattle.solid_model.specs.declared.cell.Cell.{Cell}
use Rattle.solid_model.specs.declared.segment.Segment.{Segment}
use Rattle.solid_model.specs.declared.segment.Style.{Style}
use Rattle.solid_model.specs.Blocks.{ProblemParts}
use Rattle.solid_model.specs.Choices.{AreChoicesThat, AreSolidsOfChoices, ChoicePrecedes, IsMatchingChoice}
use Rattle.solid_model.specs.Drawings.{drawing_of}
use Rattle.solid_model.specs.Matching.{AreSolidsOf}
use Rattle.solid_model.specs.Panels.{coordinates_of}
use Rattle.solid_model.proofs.BlockChoices.{all_solids_of_blocks, one_list_of_block_choices}
use Rattle.solid_model.proofs.SolidOrder.{one_list_of_solids}
use Rattle.solid_model.proofs.SolidsOfChoices.{as_many}

module _ (t : Input) (p : ProblemParts) (has : HasProblem t p) (log : List ℕ) where
  abbrev drawing : Segment → Style
  drawing = drawing_of has.lines

  abbrev pub AreMatching : List (List Bool) → Type 0
  AreMatching = AreChoicesThat (IsMatchingChoice drawing (coordinates_of p.grid) p.blocks.numbers) p.blocks.count

  -- choices that match fill all solids
  all_solids : (choices : List (List Bool)) → AreMatching choices → (solids : List (List Cell)) × AreSolidsOf drawing solids
      × AreSolidsOfChoices (coordinates_of p.grid) p.blocks.numbers p.blocks.count choices solids
  all_solids = all_solids_of_blocks drawing p.grid has.grid p.blocks.numbers p.blocks.count has.blocks.blocks

  module _ (log_is : IsSomeLog p log) (choices : List (List Bool)) (matching : AreMatching choices) where
    -- so they are told,
    pub yes_of_all : SaysYes has log (yes_text choices)
    yes_of_all = let (solids, all, filled) = all_solids choices matching in (log_is, solids, all, choices, filled, refl)

    -- and of them those that fit further views and sections
    pub yes_of_some : (fitting : List (List Bool)) → AreThose (FitsLines p (further_lines has.further)) choices fitting
        → SaysWhichFit has log (fitting_text (length choices) fitting)
    yes_of_some fitting left =
        let (solids, all, filled) = all_solids choices matching in
        let (those, told, fill) = all_left p (λ a. (has.grid.coordinates a).ordered) (further_lines has.further) drawing choices fitting solids all filled left in (
          log_is,
          solids,
          all,
          those,
          told,
          fitting,
          fill,
          ap (λ n. fitting_text n fitting) (as_many (coordinates_of p.grid) p.blocks.numbers p.blocks.count choices solids filled),
        )

  -- what a log lists, in the stated order, are the choices that match
  pub listed_match : (listed choices : List (List Bool)) → IsLog p log listed → IsPermutation listed choices → Ascends ChoicePrecedes choices → AreMatching choices
  listed_match listed choices is permuted ascends =
      log_ordered p log listed is drawing (problem_drawing t p has) has.grid has.blocks choices permuted ascends

-- what is told of them, by what is sought, says so
told_fitting : (t : Input) (sought : Sought) (by : IsSoughtBy t sought) (log : List ℕ) → IsSomeLog sought.problem log
    → (choices : List (List Bool)) → AreMatching t sought.problem by.0 log choices
    → (text : List ℕ) → TellsWhichFit sought choices text → SaysWhichFit by.0 log text
told_fitting t sought by log is choices matching text (fitting, those, told) =
    subst (SaysWhichFit by.0 log) (sym told) (yes_of_some t sought.problem by.0 log is choices matching fitting
    (by_lines sought.problem (λ a. (by.0.grid.coordinates a).ordered) (further_lines by.0.further) sought.further by.1 choices fitting those))

pub told_right : (layers : LayerSet) (t : Input) (sought : Sought) (by : IsSoughtBy t sought) (log : List ℕ) → IsSomeLog sought.problem log
    → (choices : List (List Bool)) → AreMatching t sought.problem by.0 log choices
    → (text : List ℕ) → TellsRight layers sought choices text → SaysRight layers by.0 log text
told_right Main t sought by log is choices matching text told =
    subst (SaysYes by.0 log) (sym told) (yes_of_all t sought.problem by.0 log is choices matching)
told_right Six t sought by log is choices matching text told = told_fitting t sought by log is choices matching text told
told_right Sections t sought by log is choices matching text told = told_fitting t sought by log is choices matching text told

-- ---- one answer

-- solids that are filled have one text
one_yes : (t : Input) (p q : ProblemParts) (has : HasProblem t p) (has_too : HasProblem t q) (log log_too : List ℕ) (text other : List ℕ)
    → SaysYes has log text → SaysYes has_too log_too other → text ≡ other
one_yes t p q has has_too log log_too text other (is, solids, all, choices, filled, told) (is_too, solids_too, all_too, choices_too, filled_too, told_too) =
    let one = one_problem has has_too in
    let drawing = drawing_of has_too.lines in
    let same = one_list_of_solids drawing solids solids_too (subst (λ ls. AreSolidsOf (drawing_of ls) solids) one.lines all) all_too in
    let fills : AreSolidsOfChoices (coordinates_of p.grid) p.blocks.numbers p.blocks.count choices solids
    ≡ AreSolidsOfChoices (coordinates_of q.grid) q.blocks.numbers q.blocks.count choices solids_too =
    λ i. AreSolidsOfChoices (coordinates_of (one.problem i).grid) (one.problem i).blocks.numbers (one.problem i).blocks.count choices (same i) in
    told ∙ ap yes_text (one_list_of_block_choices q.grid (λ a. (has_too.grid.coordinates a).ordered) q.blocks.numbers q.blocks.count has_too.blocks.blocks
    choices choices_too solids_too (transport fills filled) filled_too) ∙ sym told_too

-- nor have those that fit another one
one_fitting : (t : Input) (p q : ProblemParts) (has : HasProblem t p) (has_too : HasProblem t q) (log log_too : List ℕ) (text other : List ℕ)
    → SaysWhichFit has log text → SaysWhichFit has_too log_too other → text ≡ other
one_fitting t p q has has_too log log_too text other (is, solids, all, fitting, told, choices, filled, says)
    (is_too, solids_too, all_too, fitting_too, told_too, choices_too, filled_too, says_too) =
    let one = one_problem has has_too in
    let many : length solids ≡ length solids_too = ap (λ (ss : List (List Cell)). length ss) (one_list t p q has has_too solids solids_too all all_too) in
    let same = one_told t p q has has_too fitting fitting_too told told_too in
    let fills : AreSolidsOfChoices (coordinates_of p.grid) p.blocks.numbers p.blocks.count choices fitting
    ≡ AreSolidsOfChoices (coordinates_of q.grid) q.blocks.numbers q.blocks.count choices fitting_too =
    λ i. AreSolidsOfChoices (coordinates_of (one.problem i).grid) (one.problem i).blocks.numbers (one.problem i).blocks.count choices (same i) in
    let alike = one_list_of_block_choices q.grid (λ a. (has_too.grid.coordinates a).ordered) q.blocks.numbers q.blocks.count has_too.blocks.blocks
    choices choices_too fitting_too (transport fills filled) filled_too in
    says ∙ (λ i. fitting_text (many i) (alike i)) ∙ sym says_too

-- whichever layers are read
one_right : (layers : LayerSet) (t : Input) (p q : ProblemParts) (has : HasProblem t p) (has_too : HasProblem t q) (log log_too : List ℕ) (text other : List ℕ)
    → SaysRight layers has log text → SaysRight layers has_too log_too other → text ≡ other
one_right Main = one_yes
one_right Six = one_fitting
one_right Sections = one_fitting

-- what is said of a right log says that it is one
pub is_right : (layers : LayerSet) {t : Input} {p : ProblemParts} (has : HasProblem t p) (log text : List ℕ) → SaysRight layers has log text → IsSomeLog p log
is_right Main has log text says = says.0
is_right Six has log text says = says.0
is_right Sections has log text says = says.0

pub yes_or_refused : (p : ProblemParts) (log text other : List ℕ) → IsSomeLog p log → SaysRefused p log other → ⊥
yes_or_refused p log text other (listed, is) (kind, line, refused, told) = never_said p log kind line refused listed is

one_refused : (p : ProblemParts) (log text other : List ℕ) → SaysRefused p log text → SaysRefused p log other → text ≡ other
one_refused p log text other (kind, line, refused, told) (kind_too, line_too, refused_too, told_too) =
    let (same, at) = one_refusal_said p log kind kind_too line line_too refused refused_too in
    told ∙ (λ i. refusal_text (codes "log") (log_kind_name (same i)) (at i)) ∙ sym told_too

-- a check has one answer, and one text
pub one_checked : (t : Input) (a b : Answer) (text other : List ℕ) → TellsChecked t a text → TellsChecked t b other → (a ≡ b) × (text ≡ other)
one_checked t a b text other (p, has, log, behind, said) (q, has_too, log_too, behind_too, said_too) = by said said_too
  where
    same : p ≡ q
    same = (one_problem has has_too).problem

    same_log : log ≡ log_too
    same_log = let e : Some log ≡ Some log_too = sym behind ∙ behind_too in cc

    here : SaysRefused q log_too other → SaysRefused p log other
    here = λ refused. subst (λ (r : ProblemParts). SaysRefused r log other) (sym same) (subst (λ bytes. SaysRefused q bytes other) (sym same_log) refused)

    there : IsSomeLog q log_too → IsSomeLog p log
    there = λ is. subst (λ (r : ProblemParts). IsSomeLog r log) (sym same) (subst (λ bytes. IsSomeLog q bytes) (sym same_log) is)

    by : SaysChecked has log a text → SaysChecked has_too log_too b other → (a ≡ b) × (text ≡ other)
    by (inl (is, says)) (inl (is_too, says_too)) = (is ∙ sym is_too, one_right t.layers t p q has has_too log log_too text other says says_too)
    by (inl (is, says)) (inr (is_too, refused)) = absurd (yes_or_refused p log text other (is_right t.layers has log text says) (here refused))
    by (inr (is, refused)) (inl (is_too, says)) = absurd (yes_or_refused p log other text (there (is_right t.layers has_too log_too other says)) refused)
    by (inr (is, refused)) (inr (is_too, refused_too)) = (is ∙ sym is_too, one_refused p log text other refused (here refused_too))

-- ---- some answer

-- no log of an input's problem has nothing said of it
some_right : (layers : LayerSet) (t : Input) (p : ProblemParts) (has : HasProblem t p) (log : List ℕ) → IsSomeLog p log → (choices : List (List Bool)) → AreMatching t p has log choices
    → ((text : List ℕ) → SaysRight layers has log text → ⊥) → ⊥
some_right Main t p has log is choices matching never = never (yes_text choices) (yes_of_all t p has log is choices matching)
some_right Six t p has log is choices matching never = some_those (FitsLines p (further_lines has.further)) choices
    (λ fitting left. never (fitting_text (length choices) fitting) (yes_of_some t p has log is choices matching fitting left))
some_right Sections t p has log is choices matching never = some_those (FitsLines p (further_lines has.further)) choices
    (λ fitting left. never (fitting_text (length choices) fitting) (yes_of_some t p has log is choices matching fitting left))

-- so no input that has a problem lacks an answer
pub some_checked : (t : Input) (p : ProblemParts) (has : HasProblem t p) → (choices : List (List Bool)) → AreChoicesThat (IsMatchingChoice (drawing_of has.lines) (coordinates_of p.grid) p.blocks.numbers) p.blocks.count choices
    → ((answer : Answer) (text : List ℕ) → TellsChecked t answer text → ⊥) → ⊥
some_checked t p has choices matching never =
    let (log, behind) = rest_there (form_of t) t.bytes (has.lines, has.further) has.reads in
    judged_somehow p log
    (λ listed is. some_right t.layers t p has log (listed, is) choices matching (λ text says. never answers.Done text (p, has, log, behind, inl (refl, says))))
    (λ kind line refused. never answers.Refused (refusal_text (codes "log") (log_kind_name kind) line) (p, has, log, behind, inr (refl, (kind, line, refused, refl))))
