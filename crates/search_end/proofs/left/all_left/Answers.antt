-- What follows what was handed out is new.
use Rattle.std.proofs.Common.{length, sym, ◌∙◌}
use Rattle.search_end.proofs.AnswerLists.{new_behind, part_whole}
use Rattle.search_end.proofs.left.all_left.Goals as goal

pub returns-then-begins_with : goal.returns-then-begins_with
returns-then-begins_with c =
    let found = c.args.found.now in
    let handed = c.args.handed.now in
    let begins = c.begins_with.ensures c.if-begins_with.true in
    c.in_ok-left.ensures ∙ part_whole (length handed) found ∙ sym (new_behind handed found begins.0 begins.1 c.requires.once)
