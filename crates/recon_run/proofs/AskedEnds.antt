-- How a session ends, with what readers tell before.
use Rattle.std.proofs.Common.{◌≡◌, ◌⊎◌, inl, inr, ℕ, ◌≤◌, ◌<◌, List, [], ◌∷◌, ◌++◌, Bool, true, length, refl, sym, subst, subst₂, arith}
use Rattle.file_problem.specs.Inputs.{HasProblem, Input}
use Rattle.file_problem.proofs.Problems.{problem_drawing}
use Rattle.lemmas.specs.Lists.{Each, Member}
use Rattle.lemmas.proofs.Lists.{each-at, each-from}
use Rattle.query_session.specs.declared.ask.Ask.{Ask}
use Rattle.query_session.specs.declared.ask.ReaderTale.{ReaderTale}
use Rattle.replies.specs.declared.status.Answer.{Answer}
use Rattle.replies.specs.declared.status.Answer.TheVariants as answers
use Rattle.replies.specs.Status.{end_answer}
use Rattle.report.specs.Texts.{stopped_text}
use Rattle.recon_run.specs.Answers.{BeginsAll, node_count}
use Rattle.recon_run.specs.Readers.{EndsAsked, SomeMatching, StopsAsked, TellsListed, TellsSession, tales_text}
use Rattle.recon_run.specs.Searched.{FillSolids, TellsEndOf, search_head}
use Rattle.recon_run.proofs.AskedTexts.{lasts_of, readers_told}
use Rattle.recon_run.proofs.Solved.{matched, some, some_filled}
use Rattle.search_core.specs.Desk.{DeskParts}
use Rattle.search_end.proofs.DeskAnswers.{live_solution}
use Rattle.search_end.proofs.StoppedDesks.{desk_open}
use Rattle.search_end.specs.declared.ending.SearchEnd.{SearchEnd}
use Rattle.search_end.specs.declared.ending.SearchEnd.TheVariants.{Ended, Stopped}
use Rattle.search_end.specs.Stopped.{IsEndOf, IsStopped, WasStopped, end_solids}
use Rattle.session_run.specs.declared.session.Session.{Session}
use Rattle.session_run.specs.Session.{AreAmong, IsSession, asks_stop}
use Rattle.solid_model.specs.declared.cell.Cell.{Cell}
use Rattle.solid_model.specs.Blocks.{IsBlocksOf, ProblemParts}
use Rattle.solid_model.specs.Drawings.{drawing_of}
use Rattle.solid_model.specs.Forcing.{is_live}
use Rattle.solid_model.specs.Panels.{coordinates_of}
use Rattle.solid_model.specs.Search.{SearchLimits}
use Rattle.solid_model.proofs.SolidsOfChoices.{as_many}
use Rattle.solid_model.specs.SearchEnds.{AreSomeOf}
use Rattle.solid_model.specs.Solutions.{IsSolutionOf}
use Rattle.solid_model.specs.Tree.{live_below, live_count}

-- what holds of each reader's last list holds of each of these
all_lasts : (P : List (List Bool) → Type 0) (tales : List ReaderTale) → Each (λ tale. P tale.last.items) tales → Each P (lasts_of tales)
all_lasts P [] each = tt
all_lasts P (tale ∷ tales) each = (each.0, all_lasts P tales each.1)

module _ (limits : SearchLimits) (t : Input) (p : ProblemParts) (has : HasProblem t p) where
  -- the choices of a search that was stopped are some of those that match
  stopped_some : (d : DeskParts) (choices : List (List Bool)) → IsStopped p limits d choices → AreSomeOf (is_live p) p.blocks.count choices
  stopped_some d choices is = record {
    listed = each-from (Member (live_below (is_live p) p.blocks.count [])) choices (λ x k.
        live_solution p has.blocks (drawing_of has.lines, problem_drawing t p has, has.grid) x (each-at (IsSolutionOf p) choices x is.solutions.each k));
    ordered = is.ordered;
  }

  -- and some live prefix wasn't opened
  stopped_early : (d : DeskParts) (choices : List (List Bool)) → IsStopped p limits d choices → 1 ≤ node_count p
  stopped_early d choices is =
      let less = desk_open d is.kept (subst (λ (q : ProblemParts). IsBlocksOf q.grid q.blocks) (sym is.problem) has.blocks) is.going in
      let here : d.opened < node_count p = subst (λ (q : ProblemParts). d.opened < live_count (is_live q) q.blocks.count []) is.problem less.0 in omega (arith, here)

  module _ (scripts : List (List Ask)) (lasts : List (List (List Bool))) where
    -- what is told of an end is told of an end of the input
    abbrev EndTold : TellsListed → Answer → List ℕ → Type 0
    EndTold tells answer text = EndsAsked tells limits t lasts answer text ⊎ StopsAsked tells limits t scripts lasts answer text

    -- the solids that it lists
    listed_end : (e : SearchEnd) → IsEndOf p limits e → (WasStopped e → asks_stop scripts ≡ true) → Each (AreAmong limits.solids (end_solids e)) lasts
        → (solids : List (List Cell)) × FillSolids p (end_solids e) solids
        × ((tells : TellsListed) (answer : Answer) (text : List ℕ) → TellsEndOf tells t.decimals p limits e solids answer text → EndTold tells answer text)
    listed_end (Ended ended desk) is stopped among =
        let (m, same, e, head, fill) = matched limits t p has ended.kind ended.opened ended.solids is.0 in (
          m.solids,
          fill,
          λ tells answer text told. inl (
            ended.kind,
            m,
            e,
            subst (λ cs. Each (AreAmong limits.solids cs) lasts) (sym same) among,
            told.0,
            subst₂ (λ h cs. tells h t.decimals cs m.solids text) (sym head) (sym same) told.1,
          ),
        )
    listed_end (Stopped desk choices) is stopped among =
        let are = stopped_some desk choices.items is in
        let (solids, some_are, filled) = some limits t p has choices.items are in
        let m : SomeMatching limits t = record {
          problem = p;
          has = has;
          solids = solids;
          some = some_are;
          few = subst (λ n. n ≤ limits.solids) (as_many (coordinates_of p.grid) p.blocks.numbers p.blocks.count choices.items solids filled) is.few;
          choices = choices.items;
          filled = filled;
        } in (
          solids,
          some_filled limits t p has choices.items are,
          λ tells answer text told. inr (stopped tt, m, stopped_early desk choices.items is, among, told.0, told.1),
        )

    -- something begins to be told of it
    begun_end : (e : SearchEnd) (solids : List (List Cell)) → (answer : Answer) × (text : List ℕ) × TellsEndOf BeginsAll t.decimals p limits e solids answer text
    begun_end (Ended ended desk) solids =
        (end_answer ended.kind, search_head limits (record { problem = p; ended = ended }) ++ [], (refl, (0, ([], refl, refl))))
    begun_end (Stopped desk choices) solids = (answers.Stopped, stopped_text (length choices.items) ++ [], (refl, (0, ([], refl, refl))))

  -- a session is told by its readers, and then by its end
  pub session_told : (scripts : List (List Ask)) (s : Session) → IsSession p limits scripts s
      → (solids : List (List Cell)) × FillSolids p (end_solids s.end) solids
      × ((tells : TellsListed) (answer : Answer) (rest : List ℕ) → TellsEndOf tells t.decimals p limits s.end solids answer rest
      → TellsSession tells limits t scripts answer (tales_text 0 s.tales.items) rest)
      × ((answer : Answer) × (text : List ℕ) × TellsEndOf BeginsAll t.decimals p limits s.end solids answer text)
  session_told scripts s is =
      let lasts = lasts_of s.tales.items in
      let among = all_lasts (AreAmong limits.solids (end_solids s.end)) s.tales.items is.listed in
      let (solids, filled, told) = listed_end scripts lasts s.end is.end is.stopped among in (
        solids,
        filled,
        (λ tells answer rest end. record {
          problem = p;
          has = has;
          lasts = lasts;
          readers = readers_told p 0 scripts s.tales.items is.tales;
          ends = told tells answer rest end;
        }),
        begun_end scripts lasts s.end solids,
      )
