use Rattle.std.proofs.Common.{◌≡◌, ◌⊎◌, ◌≤◌, ◌∙◌, inl, inr, refl, sym, subst, ap, true, ℕ, List, Some, Result, Ok, Err, length, arith}
use Rattle.dxf_groups.specs.Pairs.{rest_of_text}
use Rattle.dxf_groups.specs.TextLines.{text_lines}
use Rattle.file_problem.specs.Inputs.{HasProblem, Input}
use Rattle.file_problem.proofs.Faults.{no_fault}
use Rattle.file_problem.proofs.Problems.{one_problem}
use Rattle.query_session.specs.Sessions.{read_session}
use Rattle.query_session.specs.declared.ask.Ask.{Ask}
use Rattle.query_session.specs.declared.ask.AskFault.{AskFault}
use Rattle.recon_run.specs.Answers.{TellsAll, node_count}
use Rattle.recon_run.specs.Owed.{AnswersInput, drawing_profile, input_of}
use Rattle.recon_run.specs.Readers.{AnswersScripts, EndsAsked, EndsListing, SomeMatching, StopsAsked, TellsAsked}
use Rattle.recon_run.specs.Solve.{Drawn}
use Rattle.recon_run.proofs.OneEnd.{one_list}
use Rattle.dxf_entities.specs.declared.layer_set.LayerSet.TheVariants.{Main}
use Rattle.replies.specs.declared.status.Answer.{Answer}
use Rattle.replies.specs.declared.status.Answer.TheVariants as answers
use Rattle.replies.specs.Status.{end_answer}
use Rattle.session_run.specs.Session.{asks_stop}
use Rattle.solid_model.specs.declared.cell.Cell.{Cell}
use Rattle.solid_model.specs.declared.ended.EndKind.{EndKind}
use Rattle.solid_model.specs.declared.ended.EndKind.TheVariants as ends
use Rattle.solid_model.specs.Blocks.{ProblemParts}
use Rattle.solid_model.specs.Search.{SearchLimits}
use Rattle.recon_run.proofs.laws.due.due_asked.Goals as goal

no_end : (kind : EndKind) → end_answer kind ≡ answers.NotAsked → ⊥
no_end ends.Whole e = cc
no_end ends.CutNodes e = cc
no_end ends.CutSolids e = cc

module _ (limits : SearchLimits) (t : Input) (p : ProblemParts) (has : HasProblem t p) (asked : List ℕ) (behind : rest_of_text t.bytes ≡ Some asked) (answer : Answer) (text : List ℕ) where
  -- what is said to it is said of what it reads as
  said : (r : Result (List (List Ask)) AskFault) → read_session (text_lines asked) ≡ r → AnswersInput (TellsAsked limits) t answer text → AnswersScripts limits t r answer text
  said r reads (inl (faulty, (fault, at, told))) = absurd (no_fault has fault at)
  said r reads (inr (none, (other, behind_too, says))) =
      let same : other ≡ asked = (let e : Some other ≡ Some asked = sym behind_too ∙ behind in cc) in
      subst (λ q. AnswersScripts limits t q answer text) (ap (λ l. read_session (text_lines l)) same ∙ reads) says

  never : (scripts : List (List Ask)) → AnswersScripts limits t (Ok scripts) answer text → answer ≡ answers.NotAsked → ⊥
  never scripts (before, rest, s, told) e = by s.ends
    where
      by : EndsAsked TellsAll limits t s.lasts answer rest ⊎ StopsAsked TellsAll limits t scripts s.lasts answer rest → ⊥
      by (inl (kind, m, l, among, is, tells)) = no_end kind (sym is ∙ e)
      by (inr (stops, m, many, among, is, tells)) = let f : answers.Stopped ≡ answers.NotAsked = sym is ∙ e in cc

module _ (limits : SearchLimits) (t : Input) (d : Drawn t) (few : node_count d.problem ≤ limits.nodes) (room : length d.matching ≤ limits.solids) (answer : Answer) where
  -- an end where both limits are kept is whole
  whole_end : (kind : EndKind) (m : SomeMatching limits t) → EndsListing limits t kind m → answer ≡ end_answer kind → answer ≡ answers.Done
  whole_end ends.Whole m l is = is
  whole_end ends.CutNodes m l is =
      let same = ap node_count (one_problem d.has m.has).problem in let many = l.allows in absurd (omega arith)
  whole_end ends.CutSolids m l is =
      let same = ap (λ (ss : List (List Cell)). length ss) (one_list t d.problem m.problem d.has m.has d.matching l.all d.all l.matching) in
      let many = l.allows in absurd (omega arith)

  ended : (scripts : List (List Ask)) (text : List ℕ) → AnswersScripts limits t (Ok scripts) answer text
      → (answer ≡ answers.Done) ⊎ ((answer ≡ answers.Stopped) × (asks_stop scripts ≡ true))
  ended scripts text (before, rest, s, told) = by s.ends
    where
      by : EndsAsked TellsAll limits t s.lasts answer rest ⊎ StopsAsked TellsAll limits t scripts s.lasts answer rest
          → (answer ≡ answers.Done) ⊎ ((answer ≡ answers.Stopped) × (asks_stop scripts ≡ true))
      by (inl (kind, m, l, among, is, tells)) = inl (whole_end kind m l is)
      by (inr (stops, m, many, among, is, tells)) = inr (is, stops)

pub returns-clause-refused : goal.returns-clause-refused
returns-clause-refused c workers limits two bytes rest answer text p has asked behind fault reads (t, (same, read_so), told) =
    (said limits (input_of (drawing_profile Main 0 two) bytes) p has asked behind answer text (Err fault) reads
    (subst (λ b. AnswersInput (TellsAsked limits) (input_of (drawing_profile Main 0 two) b) answer text) (sym same) told)).0

pub returns-clause-asked : goal.returns-clause-asked
returns-clause-asked c workers limits two bytes rest answer text p has asked behind scripts reads (t, (same, read_so), told) e =
    never limits (input_of (drawing_profile Main 0 two) bytes) p has asked behind answer text scripts
    (said limits (input_of (drawing_profile Main 0 two) bytes) p has asked behind answer text (Ok scripts) reads
    (subst (λ b. AnswersInput (TellsAsked limits) (input_of (drawing_profile Main 0 two) b) answer text) (sym same) told)) e

pub returns-clause-whole : goal.returns-clause-whole
returns-clause-whole c workers limits two bytes rest answer text d few room asked behind scripts reads (t, (same, read_so), told) =
    let input = input_of (drawing_profile Main 0 two) bytes in
    ended limits input d few room answer scripts text (said limits input d.problem d.has asked behind answer text (Ok scripts) reads
    (subst (λ b. AnswersInput (TellsAsked limits) (input_of (drawing_profile Main 0 two) b) answer text) (sym same) told))
