-- One loop more; and all of them.
use Rattle.std.proofs.Common.{◌≡◌, ◌<◌, drop, ℕ, List, Option, None, Vec, Global, length, map, IsTrue, slice_index_or, sym, ap, subst, ◌∙◌}
use Rattle.std.proofs.lemmas.List.{map-id, take_at, get_or_default}
use Rattle.std.proofs.lemmas.Iterator.Adapters.{YieldsList-from_vec}
use Rattle.std.proofs.lemmas.Iterator.Consumers.{YieldsList-turn, YieldsList-end}
use Rattle.lemmas.specs.Lists.{Member}
use Rattle.lemmas.proofs.ListPlaces.{member-at}
use Rattle.lemmas.proofs.Lists.{each-at}
use Rattle.faces.specs.declared.plane_loop.PlaneLoop.{PlaneLoop}
use Rattle.faces.specs.Groups.{IsPut}
use Rattle.faces.specs.PlaneSquares.{is_there}
use Rattle.faces.specs.SquareSteps.{number_of}
use Rattle.faces.proofs.Grouping.{AreSoFar, put_more, all_grouped}
use Rattle.faces.proofs.groups.grouped.Goals as goal

abbrev groups_of : List (Vec PlaneLoop Global) → List (List PlaneLoop)
groups_of groups = map (λ (g : Vec PlaneLoop Global). g.items) groups

pub loop-plane_loop-preserved : goal.loop-plane_loop-preserved
loop-plane_loop-preserved c =
    let t = c.args.squares.now in
    let numbers = c.args.components.now.numbers.items in
    let loops = c.args.loops.items in
    let l = c.in-Some.plane_loop in
    let key = λ (p : PlaneLoop). number_of numbers p.square in
    let road = YieldsList-from_vec {s = c.into_iter-plane_loop-iterator.result} loops (cc) (cc) in
    let turn =
    YieldsList-turn road c.loop-plane_loop.yielded c.loop-plane_loop.plane_loop-iterator c.loop-plane_loop.yielded_by
    _ c.next.new.self l c.in-Some.is c.next.ensures.steps in
    let on : Member loops l =
    subst (Member loops) (sym turn.1) (member-at loops (length c.loop-plane_loop.yielded) l turn.0) in
    let there = each-at (λ (p : PlaneLoop). IsTrue (is_there t p.square)) loops l c.requires.there on in
    let within = subst (λ n. c.place.result < n) (sym c.requires.components.listed) c.place.ensures.there in
    let number : c.index-number.result.now ≡ key l =
    c.index-number.ensures ∙ get_or_default numbers c.place.result c.index-number.result.now 0 within
    ∙ ap (λ i. slice_index_or numbers i 0) c.place.ensures.place ∙ ap key c.plane_loop.view_is in
    let table = c.loop-plane_loop.table.items in
    let whole =
    take_at c.put.new.table (drop (length c.put.new.table) table) c.loop-plane_loop.table.len
    (c.put.auto.table ∙ c.as_mut_slice.ensures.len) in
    let old : c.as_mut_slice.result.now ≡ table = c.as_mut_slice.ensures.value in
    let put =
    subst (λ (p : ℕ × List (Option ℕ) × List (Option ℕ)). IsPut l p.0 (slice_index_or p.1 p.0 None) p.1
    (groups_of c.loop-plane_loop.groups.items) p.2 (groups_of c.put.new.groups.items))
    (λ i. (number i, old i, sym whole i)) c.in_ok-put.ensures in (
      tt,
      tt,
      put_more key c.args.components.now.count c.loop-plane_loop.yielded l (c.requires.components.below l.square there) table
          (groups_of c.loop-plane_loop.groups.items) c.loop-plane_loop.invariant.2 _ _ put,
    )

pub returns : goal.returns
returns c =
    let t = c.args.squares.now in
    let numbers = c.args.components.now.numbers.items in
    let count = c.args.components.now.count in
    let loops = c.args.loops.items in
    let key = λ (p : PlaneLoop). number_of numbers p.square in
    let table = c.loop-plane_loop.table.items in
    let groups = groups_of c.loop-plane_loop.groups.items in
    let road = YieldsList-from_vec {s = c.into_iter-plane_loop-iterator.result} loops (cc) (cc) in
    let end =
    YieldsList-end road c.loop-plane_loop.yielded c.loop-plane_loop.plane_loop-iterator c.loop-plane_loop.yielded_by
    _ c.next.new.self c.in-None.is c.next.ensures.steps in
    let so_far : AreSoFar key count loops table groups =
    subst (λ xs. AreSoFar key count xs table groups) (sym (map-id c.loop-plane_loop.yielded) ∙ end.0)
    c.loop-plane_loop.invariant.2 in
    all_grouped key count loops table groups so_far (λ p on. c.requires.components.below p.square
    (each-at (λ (q : PlaneLoop). IsTrue (is_there t q.square)) loops p c.requires.there on))
