use Rattle.std.proofs.Common.{◌≡◌, ◌∙◌, ap, map, string_bytes, subst, [], ◌⊎◌}
use Rattle.clap.specs.Words.{App, HasMatchesOf, IsAmong, fault_of, is_simple_and_free, kind_of}
use Rattle.clap.specs.declared.error.kind.ErrorKind.TheVariants.{OutOfMemory}
use Rattle.words.specs.Rows.{table_of}
use Rattle.words.proofs.Parsed.{simple_and_free}
use Rattle.words.proofs.Taken.{read, refused, rest_clear}
use Rattle.words.proofs.parse.parse.Goals as goal

pub returns-in-Ok-try_get_matches_from : goal.returns-in-Ok-try_get_matches_from
returns-in-Ok-try_get_matches_from c =
    let t = table_of c.args.table.now in
    let words = map string_bytes c.args.words.now in
    let is = c.in-Ok.ensures in
    read t words c.in-Ok-try_get_matches_from.matches c.requires.sound (rest_clear words c.requires.clear)
    (subst (λ (a : App). HasMatchesOf a words c.in-Ok-try_get_matches_from.matches) is
    c.in-Ok-try_get_matches_from.ensures.matches)
    (subst (λ (a : App). fault_of a words ≡ []) is (c.in-Ok-try_get_matches_from.ensures.kinds
    (ap is_simple_and_free is ∙ simple_and_free t)))

pub returns-in-Err : goal.returns-in-Err
returns-in-Err c = λ usage.
    let t = table_of c.args.table.now in
    let words = map string_bytes c.args.words.now in
    let is = c.in-Ok.ensures in
    refused t words c.in-Err.error c.requires.sound (rest_clear words c.requires.clear)
    (subst (λ (a : App). (kind_of c.in-Err.error ≡ OutOfMemory) ⊎ IsAmong (kind_of c.in-Err.error) (fault_of a words)) is
    (c.in-Err.ensures.kinds (ap is_simple_and_free is ∙ simple_and_free t)))
    (c.fault_by.ensures usage)
