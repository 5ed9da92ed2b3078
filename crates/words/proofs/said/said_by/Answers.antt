use Rattle.std.proofs.Common.{◌≤◌, refl, subst, map, drop, string_bytes, codes}
use Rattle.words.specs.declared.table.Range.{Range}
use Rattle.words.specs.Rows.{table_of}
use Rattle.words.specs.Said.{range_of_number}
use Rattle.words.proofs.Values.{flag_read, given_within, number_said, usual}
use Rattle.words.proofs.said.said_by.Goals as goal

pub parse-requires-clause-sound : goal.parse-requires-clause-sound
parse-requires-clause-sound c = (usual (table_of c.args.table.now) c.requires.usual).sound

pub number_or-workers-requires-clause-given : goal.number_or-workers-requires-clause-given
number_or-workers-requires-clause-given c =
    let u = usual (table_of c.args.table.now) c.requires.usual in
    given_within (table_of c.args.table.now) (drop 1 (map string_bytes c.args.words.now)) c.in_ok-matches.matches (codes "workers")
    (record { least = 1; most = 64 }) c.in_ok-matches.ensures u.agreed.0 u.sound

pub number_or-nodes-requires-clause-given : goal.number_or-nodes-requires-clause-given
number_or-nodes-requires-clause-given c =
    let u = usual (table_of c.args.table.now) c.requires.usual in
    given_within (table_of c.args.table.now) (drop 1 (map string_bytes c.args.words.now)) c.in_ok-matches.matches (codes "nodes")
    (record { least = 1; most = 4000000 }) c.in_ok-matches.ensures u.agreed.1.0 u.sound

pub number_or-solids-requires-clause-given : goal.number_or-solids-requires-clause-given
number_or-solids-requires-clause-given c =
    let u = usual (table_of c.args.table.now) c.requires.usual in
    given_within (table_of c.args.table.now) (drop 1 (map string_bytes c.args.words.now)) c.in_ok-matches.matches (codes "solids")
    (record { least = 1; most = 65536 }) c.in_ok-matches.ensures u.agreed.1.1.0 u.sound

pub number_or-decimals-requires-clause-given : goal.number_or-decimals-requires-clause-given
number_or-decimals-requires-clause-given c =
    let u = usual (table_of c.args.table.now) c.requires.usual in
    given_within (table_of c.args.table.now) (drop 1 (map string_bytes c.args.words.now)) c.in_ok-matches.matches (codes "decimals")
    (record { least = 0; most = 6 }) c.in_ok-matches.ensures u.agreed.1.1.1.0 u.sound

pub number_or-number-requires-clause-given : goal.number_or-number-requires-clause-given
number_or-number-requires-clause-given c =
    let u = usual (table_of c.args.table.now) c.requires.usual in
    rw c.unwrap_or-range.ensures (given_within (table_of c.args.table.now) (drop 1 (map string_bytes c.args.words.now))
    c.in_ok-matches.matches (codes "number") (range_of_number (table_of c.args.table.now)) c.in_ok-matches.ensures
    u.agreed.1.1.1.1.0 u.sound)

pub number_or-number-requires-clause-least : goal.number_or-number-requires-clause-least
number_or-number-requires-clause-least c =
    rw c.unwrap_or-range.ensures (usual (table_of c.args.table.now) c.requires.usual).low

pub number_or-number-requires-clause-most : goal.number_or-number-requires-clause-most
number_or-number-requires-clause-most c =
    rw c.unwrap_or-range.ensures (usual (table_of c.args.table.now) c.requires.usual).high

pub returns : goal.returns
returns c =
    let t = table_of c.args.table.now in
    let words = drop 1 (map string_bytes c.args.words.now) in
    let m = c.in_ok-matches.matches in
    let read = c.in_ok-matches.ensures in
    let u = usual t c.requires.usual in
    let workers = number_said t words m (codes "workers") (record { least = 1; most = 64 }) read u.agreed.0 1
    c.number_or-workers.result c.number_or-workers.ensures.value in
    let nodes = number_said t words m (codes "nodes") (record { least = 1; most = 4000000 }) read u.agreed.1.0 1000000
    c.number_or-nodes.result c.number_or-nodes.ensures.value in
    let solids = number_said t words m (codes "solids") (record { least = 1; most = 65536 }) read u.agreed.1.1.0 4096
    c.number_or-solids.result c.number_or-solids.ensures.value in
    let decimals = number_said t words m (codes "decimals") (record { least = 0; most = 6 }) read u.agreed.1.1.1.0 0
    c.number_or-decimals.result c.number_or-decimals.ensures.value in
    let number = number_said t words m (codes "number") (range_of_number t) read u.agreed.1.1.1.1.0 1
    c.number_or-number.result c.number_or-number.ensures.value in
    let pages = flag_read t words m (codes "pages") c.get_flag-pages.result u.sound read u.agreed.1.1.1.1.1.0
    c.get_flag-pages.ensures.none c.get_flag-pages.ensures.value c.get_flag-pages.ensures.other in
    let two_views = flag_read t words m (codes "two-views") c.get_flag-two_views.result u.sound read u.agreed.1.1.1.1.1.1.0
    c.get_flag-two_views.ensures.none c.get_flag-two_views.ensures.value c.get_flag-two_views.ensures.other in
    let sections = flag_read t words m (codes "sections") c.get_flag-sections.result u.sound read u.agreed.1.1.1.1.1.1.1.0
    c.get_flag-sections.ensures.none c.get_flag-sections.ensures.value c.get_flag-sections.ensures.other in
    record {
      said = (read.0, read.1, workers, rw (nodes, solids) refl, pages, decimals, two_views, sections, number);
      most = subst (λ (r : Range). c.number_or-number.result ≤ r.most) c.unwrap_or-range.ensures c.number_or-number.ensures.most;
    }
