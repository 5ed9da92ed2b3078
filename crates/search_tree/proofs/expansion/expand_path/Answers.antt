-- What is left where the path stands is the rest, and the report is allowed.
use Rattle.std.proofs.Common.{◌≡◌, ℕ, ◌++◌, length, filter, sym, ◌∙◌, ap}
use Rattle.solid_model.specs.Tree.{live_from, is_next_to, opened_of, found_of, rest_of}
use Rattle.solid_model.proofs.AllowedReports.{report_is_allowed}
use Rattle.search_tree.specs.Rest.{live_sides, besides}
use Rattle.search_tree.proofs.NextPrefixes.{rest_roots}
use Rattle.search_tree.proofs.OpenedPrefixes.{none_behind}
use Rattle.search_tree.proofs.expansion.expand_path.Goals as goal
use Rattle.search_tree.proofs.expansion.expand_path.Goals.{then-opened-quantum+in_ok-reserve+in_ok-keep_rest, else-opened-quantum}

pub returns-clause-rest : goal.returns-clause-rest
returns-clause-rest g c =
    let word = g.P.Path.live c.args.path.now in
    let n = g.P.Path.blocks c.args.path.now in
    let piece = g.P.Path.prefix c.args.path.now in
    let quantum = c.args.quantum in
    let last = g.P.Path.prefix c.open_first.new.path in
    elim c.if-opened-quantum.branch as (λ _. c.if-opened-quantum.rest.items ≡ rest_of word n piece quantum) [
      | then-opened-quantum+in_ok-reserve+in_ok-keep_rest w ↦ (
          let stands = c.in_ok-opened.ensures.last w.if-opened-quantum.true in
          let left = λ (floor : ℕ). live_sides word last ++ besides word floor last in
          let kept : w.keep_rest.new.rest.items ≡ left (length piece) =
          w.in_ok-keep_rest.ensures.rest
          ∙ ap (λ xs. xs ++ (live_sides (g.P.Path.live c.open_first.new.path) last ++ besides (g.P.Path.live c.open_first.new.path) (c.depth-floor.result) last))
          (w.reserve.ensures.items ∙ c.new-rest.ensures.items)
          ∙ ap (λ live. live_sides live last ++ besides live (c.depth-floor.result) last) c.in_ok-opened.ensures.live
          ∙ ap left c.depth-floor.ensures in
          ap (λ rest. rest.items) w.rest-is ∙ kept ∙ sym (rest_roots word n c.requires.tree.closed c.requires.tree.short piece quantum last stands))
      | else-opened-quantum w ↦ (
          let none = none_behind quantum (live_from word n piece) (λ e. w.if-opened-quantum.false (c.in_ok-opened.ensures.opened ∙ e)) in
          ap (λ rest. rest.items) w.rest-is ∙ c.new-rest.ensures.items ∙ sym (ap (filter (is_next_to (opened_of word n piece quantum))) none))
    ]

pub returns-clause-allowed : goal.returns-clause-allowed
returns-clause-allowed g c =
    let word = g.P.Path.live c.args.path.now in
    let n = g.P.Path.blocks c.args.path.now in
    let piece = g.P.Path.prefix c.args.path.now in
    let found : c.open_first.new.found.items ≡ found_of word n piece c.args.quantum =
    c.in_ok-opened.ensures.found ∙ ap (λ xs. xs ++ found_of word n piece c.args.quantum) c.new-found.ensures.items in
    rw (c.in_ok-opened.ensures.opened, found, returns-clause-rest g c)
    (report_is_allowed word n c.requires.tree.short c.requires.tree.closed piece c.requires.live c.args.quantum c.requires.quantum)
