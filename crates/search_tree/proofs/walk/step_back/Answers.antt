-- A step back from a full value, to the empty one in its place or not, and from an empty one.
use Rattle.std.proofs.Common.{◌≡◌, true, false, List, Bool, [], ◌∷◌, ◌++◌, ◌<◌, ◌≤◌, length, subst, sym, ◌∙◌, ap, length-append, arith}
use Rattle.search_tree.specs.Walk.{later, StandsAtFirst}
use Rattle.search_tree.proofs.Walks.{back_to_empty, back_from_full, later_empty}
use Rattle.search_tree.proofs.walk.step_back.Goals as goal

pub returns-in-Some-true-clause-found : goal.returns-in-Some-true-clause-found
returns-in-Some-true-clause-found g c e =
    let live = g.P.Path.live c.args.path.now in
    let n = g.P.Path.blocks c.args.path.now in
    let prefix : List Bool = g.P.Path.prefix c.go_up.new.self in
    let was : g.P.Path.prefix c.args.path.now ≡ prefix ++ true ∷ [] = c.in-Some-true.ensures.prefix ∙ ap (λ v. prefix ++ v ∷ []) c.in-Some-true.field-0-test in
    let longer = ap length was in
    let below : c.args.floor ≤ length prefix = omega (arith, longer, c.requires.floor, length-append prefix (true ∷ [])) in
    let more : length prefix < n = omega (arith, longer, c.requires.within, length-append prefix (true ∷ [])) in
    let empty : live (prefix ++ false ∷ []) ≡ true = cc (c.enter.ensures.asked, c.go_up.ensures.live, e) in
    rw was (subst (StandsAtFirst live n c.args.floor (later live n c.args.floor (prefix ++ true ∷ []))) (sym (c.enter.ensures.entered e))
    (back_to_empty live n c.args.floor prefix below more empty))

pub returns-in-Some-true-clause-left : goal.returns-in-Some-true-clause-left
returns-in-Some-true-clause-left g c e =
    let live = g.P.Path.live c.args.path.now in
    let n = g.P.Path.blocks c.args.path.now in
    let prefix : List Bool = g.P.Path.prefix c.go_up.new.self in
    let was : g.P.Path.prefix c.args.path.now ≡ prefix ++ true ∷ [] = c.in-Some-true.ensures.prefix ∙ ap (λ v. prefix ++ v ∷ []) c.in-Some-true.field-0-test in
    let below : c.args.floor ≤ length prefix = omega (arith, ap length was, c.requires.floor, length-append prefix (true ∷ [])) in
    let none = rw (c.go_up.ensures.live, c.go_up.ensures.blocks) at (c.enter.ensures.none e) in
    ap (later live n c.args.floor) was ∙ back_from_full live n c.args.floor prefix below none ∙ ap (later live n c.args.floor) (sym (c.enter.ensures.stays e))

pub returns-in-Some-false-clause-left : goal.returns-in-Some-false-clause-left
returns-in-Some-false-clause-left g c e =
    let live = g.P.Path.live c.args.path.now in
    let n = g.P.Path.blocks c.args.path.now in
    let prefix : List Bool = g.P.Path.prefix c.go_up.new.self in
    let was : g.P.Path.prefix c.args.path.now ≡ prefix ++ false ∷ [] = c.in-Some-false.ensures.prefix ∙ ap (λ v. prefix ++ v ∷ []) c.in-Some-false.field-0-test in
    let below : c.args.floor ≤ length prefix = omega (arith, ap length was, c.requires.floor, length-append prefix (false ∷ [])) in
    ap (later live n c.args.floor) was ∙ later_empty live n c.args.floor prefix below
