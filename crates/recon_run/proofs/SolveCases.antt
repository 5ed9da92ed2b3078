-- What is answered to `solve` by a search's ends, and by cases of the status, is the same.
use Rattle.std.proofs.Common.{◌≡◌, ◌==◌, refl, inl, inr, ◌∙◌, ap, sym, subst, Bool, ℕ, ◌++◌, List, [], length, Option, Some, None, Ok, Err, if◌then◌else◌}
use Rattle.file_problem.specs.Inputs.{HasProblem, Input}
use Rattle.file_problem.proofs.Faults.{no_fault}
use Rattle.file_problem.proofs.Problems.{one_problem}
use Rattle.recon_run.specs.Answers.{AllowsEnd, AreListed, AreToldAt, CanEnd, ListsSolids, ListedSolids, node_count, head_of}
use Rattle.recon_run.specs.Endings.{Ends, owed_to}
use Rattle.recon_run.specs.Owed.{AnswersInput, answer_at, drawing_profile, input_of, judgement_of, layers_or, owed, search_for_all, searched}
use Rattle.recon_run.specs.Solve.{Drawn, Lists, SolveAnswers, Solves}
use Rattle.recon_run.proofs.OneEnd.{one_told}
use Rattle.replies.specs.declared.status.Answer.{Answer}
use Rattle.replies.specs.declared.status.Answer.TheVariants as answers
use Rattle.replies.specs.declared.status.Failure.{Failure}
use Rattle.replies.specs.declared.status.Failure.TheVariants as failures
use Rattle.replies.specs.Status.{Status, answer_code, failure_code, status_code}
use Rattle.dxf_entities.specs.declared.layer_set.LayerSet.TheVariants.{Six}
use Rattle.words.specs.declared.job.Job.{Job}
use Rattle.words.specs.declared.job.Job.TheVariants as job
use Rattle.report.specs.Texts.{head_text}
use Rattle.solid_model.specs.declared.cell.Cell.{Cell}
use Rattle.solid_model.specs.declared.ended.EndKind.{EndKind}
use Rattle.solid_model.specs.declared.ended.EndKind.TheVariants.{Whole, CutNodes, CutSolids}
use Rattle.solid_model.specs.Blocks.{ProblemParts}
use Rattle.solid_model.specs.Drawings.{drawing_of}
use Rattle.solid_model.specs.Matching.{AreSolidsOf}
use Rattle.solid_model.specs.Search.{SearchLimits}

module _ (paged : Bool) (limits : SearchLimits) (t : Input) where
  -- the one problem of an end and of what it lists
  abbrev drawn : (kind : EndKind) → CanEnd limits t kind → ListedSolids limits t kind → Drawn t
  drawn kind c l = record {
    problem = l.problem;
    has = l.has;
    matching = c.counted;
    all = subst (λ ls. AreSolidsOf (drawing_of ls) c.counted) (one_problem c.has l.has).lines c.all;
  }

  -- the end, of an input's one problem
  allowed : (kind : EndKind) (c : CanEnd limits t kind) (l : ListedSolids limits t kind) → AllowsEnd limits l.problem c.counted kind
  allowed kind c l = subst (λ (p : ProblemParts). AllowsEnd limits p c.counted kind) (one_problem c.has l.has).problem c.allows

  -- its text, where the first lines are one
  listed : (kind : EndKind) (c : CanEnd limits t kind) (text : List ℕ) (told : ListsSolids paged limits t kind c text)
      → head_of c ≡ head_text limits kind (length told.0.solids) (node_count told.0.problem) told.0.problem.blocks.count
      → Lists paged limits (drawn kind c told.0) kind told.0.solids text
  listed kind c text (l, before, pages, rest, (texts, tells, is), told) same =
      (l.choices, l.filled, before, pages, texts, tells, told ∙ ap (λ r. before ++ r) (is ∙ ap (λ h. h ++ texts) same))

  whole_heads : (c : CanEnd limits t Whole) (l : ListedSolids limits t Whole)
      → head_of c ≡ head_text limits Whole (length l.solids) (node_count l.problem) l.problem.blocks.count
  whole_heads c l =
      let p = (one_problem c.has l.has).problem in
      let solids = one_told t c.problem l.problem c.has l.has c.solids l.solids c.told l.listed in
      λ i. head_text limits Whole (length (solids i)) (node_count (p i)) (p i).blocks.count

  from_end : (kind : EndKind) (c : CanEnd limits t kind) (text : List ℕ) → ListsSolids paged limits t kind c text
      → SolveAnswers paged limits t (answer_at (search_for_all paged limits) t kind c) text
  from_end Whole c text told =
      let l = told.0 in
      let (few, room) = allowed Whole c l in
      (drawn Whole c l, few, room, l.solids, l.listed, listed Whole c text told (whole_heads c l))
  from_end CutNodes c text told =
      let l = told.0 in (drawn CutNodes c l, allowed CutNodes c l, l.solids, l.listed, listed CutNodes c text told refl)
  from_end CutSolids c text told =
      let l = told.0 in
      (drawn CutSolids c l, allowed CutSolids c l, l.solids, l.listed.0, l.listed.1, listed CutSolids c text told refl)

  pub solve_there : (answer : Answer) (text : List ℕ) → AnswersInput (judgement_of (searched (search_for_all paged limits))).tells t answer text
      → SolveAnswers paged limits t answer text
  solve_there answer text (inl (is, told)) = subst (λ a. SolveAnswers paged limits t a text) (sym is) told
  solve_there answer text (inr (none, (kind, c, is, told))) =
      subst (λ a. SolveAnswers paged limits t a text) (sym is) (from_end kind c text told)

  -- back
  abbrev end_of : (kind : EndKind) (d : Drawn t) → AllowsEnd limits d.problem d.matching kind → (solids : List (List Cell)) → AreToldAt kind d.has solids → CanEnd limits t kind
  end_of kind d allows solids told = record {
    problem = d.problem;
    has = d.has;
    counted = d.matching;
    all = d.all;
    allows = allows;
    solids = solids;
    told = told;
  }

  lists : (kind : EndKind) (d : Drawn t) (c : CanEnd limits t kind) (solids : List (List Cell)) → AreListed limits d.has kind solids
      → head_of c ≡ head_text limits kind (length solids) (node_count d.problem) d.problem.blocks.count
      → (text : List ℕ) → Lists paged limits d kind solids text → ListsSolids paged limits t kind c text
  lists kind d c solids are same text (choices, filled, before, pages, texts, tells, told) = (
    record { problem = d.problem; has = d.has; solids = solids; listed = are; choices = choices; filled = filled },
    before,
    pages,
    head_of c ++ texts,
    (texts, tells, refl),
    told ∙ ap (λ h. before ++ (h ++ texts)) (sym same),
  )

  pub solve_back : (answer : Answer) (text : List ℕ) → SolveAnswers paged limits t answer text
      → AnswersInput (judgement_of (searched (search_for_all paged limits))).tells t answer text
  solve_back answers.Faulty text told = inl (refl, told)
  solve_back answers.Done text (d, few, room, solids, are, told) =
      let c = end_of Whole d (few, room) solids are in
      inr (no_fault d.has, (Whole, c, refl, lists Whole d c solids are refl text told))
  solve_back answers.CutNodes text (d, many, solids, are, told) =
      let c = end_of CutNodes d many [] refl in inr (no_fault d.has, (CutNodes, c, refl, lists CutNodes d c solids are refl text told))
  solve_back answers.CutSolids text (d, many, solids, are, full, told) =
      let c = end_of CutSolids d many [] refl in inr (no_fault d.has, (CutSolids, c, refl, lists CutSolids d c solids (are, full) refl text told))
  solve_back answers.Usage text told = absurd told
  solve_back answers.NoSolid text told = absurd told
  solve_back answers.Refused text told = absurd told
  solve_back answers.Stopped text told = absurd told
  solve_back answers.NotAsked text told = absurd told

-- ---- a run

-- the answer of a number
decode : ℕ → Option Answer
decode n = if n == 0 then Some answers.Done else (if n == 1 then Some answers.Faulty else (if n == 2 then Some answers.Usage else (if n == 3 then Some answers.CutNodes else
    (if n == 4 then Some answers.CutSolids else (if n == 8 then Some answers.NoSolid else (if n == 9 then Some answers.Refused else (if n == 10 then Some answers.Stopped else
    (if n == 11 then Some answers.NotAsked else None))))))))

abbrev IsDecoded : Answer → Type 0
IsDecoded a = decode (answer_code a) ≡ Some a

decoded : (a : Answer) → IsDecoded a
unfolding decode
decoded answers.Done = refl
decoded answers.Faulty = refl
decoded answers.Usage = refl
decoded answers.CutNodes = refl
decoded answers.CutSolids = refl
decoded answers.NoSolid = refl
decoded answers.Refused = refl
decoded answers.Stopped = refl
decoded answers.NotAsked = refl

no_failure : (f : Failure) → decode (failure_code f) ≡ None
unfolding decode
no_failure failures.ReadFault = refl
no_failure failures.WriteFault = refl
no_failure failures.Memory = refl

-- the number of an answer is one of no other status
is_answer : (status : Status) (answer : Answer) → status_code status ≡ answer_code answer → status ≡ Ok answer
is_answer (Ok other) answer e =
    let same : Some other ≡ Some answer = sym (decoded other) ∙ ap decode e ∙ decoded answer in
    let one : other ≡ answer = cc in ap Ok one
is_answer (Err failure) answer e =
    let same : None ≡ Some answer = sym (no_failure failure) ∙ ap decode e ∙ decoded answer in cc

-- a run that ends as it is owed answers `solve` so
pub solves : (words : List (List ℕ)) (left rest held now : Option (List ℕ)) (source_rose sink_rose : Type 0) (status : Status)
    → Ends (owed_to words) left rest held now source_rose sink_rose status → Solves words left held now (status_code status)
solves words left rest held now source_rose sink_rose status ends workers decimals limits pages two sections bytes answer said told code =
    let answered : Ends (owed_to words) left rest held now source_rose sink_rose (Ok answer) =
    subst (λ s. Ends (owed_to words) left rest held now source_rose sink_rose s) (is_answer status answer code) ends in
    let of_bytes : Ends (owed_to words) (Some bytes) rest held now source_rose sink_rose (Ok answer) =
    subst (λ l. Ends (owed_to words) l rest held now source_rose sink_rose (Ok answer)) told answered in
    let of_solve : Ends (owed (Some (job.Solve workers limits pages decimals two sections))) (Some bytes) rest held now source_rose sink_rose (Ok answer) =
    subst (λ (j : Option Job). Ends (owed j) (Some bytes) rest held now source_rose sink_rose (Ok answer)) said of_bytes in
    let (text, (t, (same, reads), tells), appends) = of_solve in (
      text,
      subst (λ b. SolveAnswers pages limits (input_of (drawing_profile (layers_or sections Six) decimals two) b) answer text) (sym same)
          (solve_there pages limits (input_of (drawing_profile (layers_or sections Six) decimals two) t) answer text tells),
      appends,
    )
