-- One script more.
use Rattle.std.proofs.Common.{◌∙◌, ◌∷◌, [], map, ap}
use Rattle.std.proofs.lemmas.List.{map-append}
use Rattle.query_session.proofs.LineByLine.{scripts_more}
use Rattle.query_session.proofs.scripts.scripts_of.Goals as goal

pub loop-reader-preserved : goal.loop-reader-preserved
loop-reader-preserved c =
    ap (map (λ v. v.items)) c.in_ok-push.ensures.items ∙ map-append (λ v. v.items) c.loop-reader.scripts.items (c.in_ok-script.script ∷ [])
    ∙ scripts_more c.args.askings.now c.loop-reader.reader _ c.in_ok-script.script.items c.loop-reader.invariant c.in_ok-script.ensures
