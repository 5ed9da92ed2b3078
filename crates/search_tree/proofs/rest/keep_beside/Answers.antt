-- A step back over a full value, and over an empty one.
use Rattle.std.proofs.Common.{◌≡◌, true, false, Bool, List, [], ◌∷◌, ◌++◌, ◌≤◌, length, OnOk, Result, Ok, Err, sym, ◌∙◌, ap, append_assoc, length-append, arith}
use Rattle.search_tree.specs.Rest.{live_side, besides}
use Rattle.search_tree.proofs.NextPrefixes.{back_over_full, back_over_empty}
use Rattle.search_tree.proofs.rest.keep_beside.Goals as goal

-- two facts on success together
on_ok_both : {T E A B C : Type 0} (r : Result T E) → (A → B → C) → OnOk r A → OnOk r B → OnOk r C
on_ok_both (Ok x) join a b = join a b
on_ok_both (Err e) join a b = tt

pub returns-in-Some-true-clause-rest : goal.returns-in-Some-true-clause-rest
returns-in-Some-true-clause-rest g c =
    let word = g.P.Path.live c.args.path.now in
    let prefix : List Bool = g.P.Path.prefix c.go_up.new.self in
    let was : g.P.Path.prefix c.args.path.now ≡ prefix ++ true ∷ [] = c.in-Some-true.ensures.prefix ∙ ap (λ v. prefix ++ v ∷ []) c.in-Some-true.field-0-test in
    let below : c.args.floor ≤ length prefix = omega (arith, ap length was, c.requires.floor, length-append prefix (true ∷ [])) in
    let more = besides word c.args.floor prefix in
    on_ok_both c.keep_side.result
    (λ stays kept. ap (λ p. c.args.rest.now.items ++ besides word c.args.floor p) was
    ∙ ap (λ xs. c.args.rest.now.items ++ xs) (back_over_full word c.args.floor prefix below)
    ∙ sym (append_assoc c.args.rest.now.items (live_side word prefix false) more)
    ∙ ap (λ w. (c.args.rest.now.items ++ live_side w prefix false) ++ more) (sym c.go_up.ensures.live)
    ∙ ap (λ xs. xs ++ more) (sym kept)
    ∙ ap (λ p. c.keep_side.new.rest.items ++ besides word c.args.floor p) (sym stays))
    c.keep_side.ensures.prefix c.keep_side.ensures.rest

pub returns-in-Some-false-clause-rest : goal.returns-in-Some-false-clause-rest
returns-in-Some-false-clause-rest g c =
    let word = g.P.Path.live c.args.path.now in
    let prefix : List Bool = g.P.Path.prefix c.go_up.new.self in
    let was : g.P.Path.prefix c.args.path.now ≡ prefix ++ false ∷ [] = c.in-Some-false.ensures.prefix ∙ ap (λ v. prefix ++ v ∷ []) c.in-Some-false.field-0-test in
    let below : c.args.floor ≤ length prefix = omega (arith, ap length was, c.requires.floor, length-append prefix (false ∷ [])) in
    ap (λ p. c.args.rest.now.items ++ besides word c.args.floor p) was
    ∙ ap (λ xs. c.args.rest.now.items ++ xs) (back_over_empty word c.args.floor prefix below)
