-- Pages begin to go to the sink that is given, of the choices that fit what is sought.
use Rattle.six_views.specs.Further.{FitsChoice}
use Rattle.recon_run.proofs.telling.told.Given as goal

abbrev pub ghosts-told_from : goal.ghosts-told_from
ghosts-told_from g a = record { held = g.K.Sink.held a.sink; fits = FitsChoice a.sought.problem a.sought.further }
