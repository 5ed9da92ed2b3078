-- It has played from a reader of a book of the problem.
use Rattle.std.proofs.Common.{◌∙◌, ap, option_map, subst, sym}
use Rattle.std.proofs.lemmas.Result.{IfOk-weaker}
use Rattle.solution_book.specs.Editions.{ReaderParts}
use Rattle.query_session.specs.Tales.{AreTaken, IsReaderOf}
use Rattle.session_run.specs.Players.{PlayerParts, HasPlayed}
use Rattle.session_run.proofs.tales.tale_by.Goals as goal

pub returns-in-Some : goal.returns-in-Some
returns-in-Some g c = IfOk-weaker c.tale_of.result _ _ (λ tale told p script played.
    let pages = ap (λ o. record { reader = c.player.inside.reader; pages = option_map (λ v. v.items) o }) c.in-Some.is in
    let own : (before : ReaderParts) × IsReaderOf p before × AreTaken before script c.in-Some.pages.items c.player.inside.reader =
    subst (HasPlayed p script) (sym c.player.view_is ∙ pages) played in
    told p own.0 script own.1 own.2) c.tale_of.ensures
