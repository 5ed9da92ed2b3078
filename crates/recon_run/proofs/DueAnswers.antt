-- Which answer is due: that of the end of an input's search, or of its fault; or the one that is owed.
use Rattle.std.proofs.Common.{◌≡◌, refl, inl, inr, ℕ, List, length, Option, Some, None, Ok, Err, ap, sym, subst, ◌∙◌}
use Rattle.replies.specs.declared.status.Answer.{Answer}
use Rattle.replies.specs.declared.status.Answer.TheVariants as answers
use Rattle.replies.specs.declared.status.Failure.{Failure}
use Rattle.file_problem.specs.Inputs.{HasNoFault, Input, IsFileFault}
use Rattle.recon_run.specs.Answers.{CanEnd}
use Rattle.recon_run.specs.Endings.{AnswersOrFails, Ends, EndsOrFails, OfAlone, OfInput, OfSearch}
use Rattle.recon_run.specs.Owed.{AnswersInput, Asked, Owed, ProfileParts, Search, alone, answer_at, input_of, judged, judgement_of, read, searched}
use Rattle.replies.specs.Status.{Status, answer_code, status_code, failure_code}
use Rattle.file_problem.proofs.Faults.{no_fault}
use Rattle.recon_run.proofs.OneEnd.{kept_or_passed, one_count}
use Rattle.solid_model.specs.declared.ended.EndKind.{EndKind}
use Rattle.solid_model.specs.declared.ended.EndKind.TheVariants.{Whole}
use Rattle.solid_model.specs.declared.fault.Fault.{Fault}

-- ---- of an input

-- The right answers to an input that is asked for something.
abbrev AnswersAsked : Asked → Input → Answer → List ℕ → Type 0
AnswersAsked asked = AnswersInput (judgement_of asked).tells

-- one with a fault has that of a fault
faulty_answer : (asked : Asked) (t : Input) (answer : Answer) (text : List ℕ) → AnswersAsked asked t answer text → (fault : Fault) → IsFileFault t fault
    → answer ≡ answers.Faulty
faulty_answer asked t answer text (inl (is, other)) fault at = is
faulty_answer asked t answer text (inr (none, told)) fault at = absurd (none fault at)

module _ (s : Search) (t : Input) (answer : Answer) (text : List ℕ) where
  -- an end of a search that can be whole has its answer
  end_answered : (kind : EndKind) (c : CanEnd s.limits t Whole) (d : CanEnd s.limits t kind) → kind ≡ Whole → answer_at s t kind d ≡ s.whole t (length c.solids)
  end_answered kind c d whole = by kind whole d
    where
      by : (k : EndKind) → k ≡ Whole → (d : CanEnd s.limits t k) → answer_at s t k d ≡ s.whole t (length c.solids)
      by Whole e d = ap (s.whole t) (one_count s.limits t d c)
      by _ e d = cc

  -- an input that keeps both limits has the answer of a whole search,
  whole_answer : AnswersAsked (searched s) t answer text → (c : CanEnd s.limits t Whole) → answer ≡ s.whole t (length c.solids)
  whole_answer (inl (is, (fault, at, told))) c = absurd (no_fault c.has fault at)
  whole_answer (inr (none, (kind, d, is, tells))) c = is ∙ end_answered kind c d (kept_or_passed s.limits t kind c d)

  -- and one without a fault that of its end
  faultless_answer : AnswersAsked (searched s) t answer text → HasNoFault t → EndsOrFails s t (answer_code answer)
  faultless_answer (inl (is, (fault, at, told))) none = absurd (none fault at)
  faultless_answer (inr (kept, (kind, c, is, tells))) none = inl (kind, c, ap answer_code is)

-- ---- of a run

-- Where this holds of the number of each right answer to an input, and of each failure, it holds of the number of a run's end.
of_input : (P : Input → ℕ → Type 0) (asked : Asked)
    → ((t : Input) (answer : Answer) (text : List ℕ) → AnswersAsked asked t answer text → P t (answer_code answer))
    → ((t : Input) (failure : Failure) → P t (failure_code failure))
    → (profile : ProfileParts) (t : List ℕ) (rest held now : Option (List ℕ)) (source_rose sink_rose : Type 0) (status : Status)
    → Ends (read profile asked) (Some t) rest held now source_rose sink_rose status → P (input_of profile t) (status_code status)
of_input P asked right fails profile t rest held now source_rose sink_rose (Err failure) ends = fails (input_of profile t) failure
of_input P asked right fails profile t rest held now source_rose sink_rose (Ok answer) (text, (bytes, (same, reads), told), appends) =
    right (input_of profile t) answer text (subst (λ b. AnswersAsked asked (input_of profile b) answer text) (sym same) told)

-- where it holds so of each search, and its input
of_search : (P : Search → Input → ℕ → Type 0)
    → ((s : Search) (t : Input) (answer : Answer) (text : List ℕ) → AnswersAsked (searched s) t answer text → P s t (answer_code answer))
    → ((s : Search) (t : Input) (failure : Failure) → P s t (failure_code failure))
    → (o : Owed) (left rest held now : Option (List ℕ)) (source_rose sink_rose : Type 0) (status : Status)
    → Ends o left rest held now source_rose sink_rose status → OfSearch o left (λ s t. P s t (status_code status))
of_search P right fails (alone answer tells) left rest held now source_rose sink_rose status ends = tt
of_search P right fails (read profile asked) None rest held now source_rose sink_rose status ends = tt
of_search P right fails (read profile (judged j)) (Some t) rest held now source_rose sink_rose status ends = tt
of_search P right fails (read profile (searched s)) (Some t) rest held now source_rose sink_rose status ends =
    of_input (P s) (searched s) (right s) (fails s) profile t rest held now source_rose sink_rose status ends

module _ (o : Owed) (left rest held now : Option (List ℕ)) (source_rose sink_rose : Type 0) (status : Status)
    (ends : Ends o left rest held now source_rose sink_rose status) where
  -- an input that keeps both limits gives the answer of a whole search, or the run fails
  pub whole_ends : OfSearch o left (λ s t. (c : CanEnd s.limits t Whole) → AnswersOrFails (s.whole t (length c.solids)) (status_code status))
  whole_ends = of_search (λ s t code. (c : CanEnd s.limits t Whole) → AnswersOrFails (s.whole t (length c.solids)) code)
      (λ s t answer text is c. inl (ap answer_code (whole_answer s t answer text is c))) (λ s t failure c. inr (failure, refl))
      o left rest held now source_rose sink_rose status ends

  -- one without a fault gives the answer of its end
  pub faultless_ends : OfSearch o left (λ s t. HasNoFault t → EndsOrFails s t (status_code status))
  faultless_ends = of_search (λ s t code. HasNoFault t → EndsOrFails s t code)
      (λ s t answer text is none. faultless_answer s t answer text is none) (λ s t failure none. inr (failure, refl))
      o left rest held now source_rose sink_rose status ends

-- and one with a fault that of a fault
pub faulty_ends : (o : Owed) (left rest held now : Option (List ℕ)) (source_rose sink_rose : Type 0) (status : Status)
    → Ends o left rest held now source_rose sink_rose status
    → OfInput o left (λ t. (fault : Fault) → IsFileFault t fault → AnswersOrFails answers.Faulty (status_code status))
faulty_ends (alone answer tells) left rest held now source_rose sink_rose status ends = tt
faulty_ends (read profile asked) None rest held now source_rose sink_rose status ends = tt
faulty_ends (read profile asked) (Some t) rest held now source_rose sink_rose status ends =
    of_input (λ t code. (fault : Fault) → IsFileFault t fault → AnswersOrFails answers.Faulty code) asked
    (λ t answer text is fault at. inl (ap answer_code (faulty_answer asked t answer text is fault at))) (λ t failure fault at. inr (failure, refl))
    profile t rest held now source_rose sink_rose status ends

-- where nothing is read, the one answer is given, or the run fails
pub reply_is_due : (o : Owed) (left rest held now : Option (List ℕ)) (source_rose sink_rose : Type 0) (status : Status)
    → Ends o left rest held now source_rose sink_rose status → OfAlone o (λ answer. AnswersOrFails answer (status_code status))
reply_is_due (read profile asked) left rest held now source_rose sink_rose status ends = tt
reply_is_due (alone answer tells) left rest held now source_rose sink_rose (Err failure) ends = inr (failure, refl)
reply_is_due (alone answer tells) left rest held now source_rose sink_rose (Ok told) (text, (reads, is, tells_it), appends) = inl (ap answer_code is)
