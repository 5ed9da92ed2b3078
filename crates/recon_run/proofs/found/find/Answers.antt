-- What was left is found.
use Rattle.std.proofs.Common.{◌+◌, ◌≤◌, ◌∙◌, ℕ, Err, ap, length, subst}
use Rattle.recon_run.proofs.Sources.{found_source, too_long_source}
use Rattle.tv_base.specs.Pieces.{ReadsPast, ReadsWithin}
use Rattle.recon_run.proofs.found.find.Goals as goal

pub returns-in_ok-find_in-in-Ok-clause-within : goal.returns-in_ok-find_in-in-Ok-clause-within
returns-in_ok-find_in-in-Ok-clause-within g c =
    subst (λ (n : ℕ). ReadsWithin (g.S.Source.left c.args.source.now) (g.S.Source.left c.read_all.new.source) (n + 1)) c.most.ensures.most c.read_all.ensures.within

pub returns-in_ok-find_in-in-Ok-clause-found : goal.returns-in_ok-find_in-in-Ok-clause-found
returns-in_ok-find_in-in-Ok-clause-found g c =
    found_source c.args.profile.now c.in-Ok.file.items (subst (λ (n : ℕ). length c.in-Ok.file.items ≤ n) c.most.ensures.most c.in-Ok.ensures.fits)
    (g.S.Source.left c.args.source.now) (g.S.Source.left c.read_all.new.source) c.in_ok-find_in-in-Ok.field-0 c.in-Ok.ensures.ok c.in_ok-find_in-in-Ok.ensures

pub returns-in-Err-TooLong-clause-found : goal.returns-in-Err-TooLong-clause-found
returns-in-Err-TooLong-clause-found g c =
    too_long_source c.args.profile.now (g.S.Source.left c.args.source.now) (g.S.Source.left c.read_all.new.source)
    (subst (λ (n : ℕ). ReadsPast (g.S.Source.left c.args.source.now) (g.S.Source.left c.read_all.new.source) n) c.most.ensures.most
    (c.read_all.ensures.too_long (c.in-Err-TooLong.is ∙ ap Err c.in-Err-TooLong.field-0-is)))
