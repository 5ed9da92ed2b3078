-- One loop more in the group that the table names.
use Rattle.std.proofs.Common.{◌<◌, ◌++◌, [], ◌∷◌, ℕ, List, Option, Vec, Global, length, map, set, IfSome, refl, sym, ap, subst, ◌∙◌}
use Rattle.std.proofs.lemmas.List.{map-set, get_or-map}
use Rattle.faces.specs.declared.plane_loop.PlaneLoop.{PlaneLoop}
use Rattle.faces.specs.Groups.{IsPut}
use Rattle.faces.proofs.groups.put.Goals as goal

loops_of : Vec PlaneLoop Global → List PlaneLoop
loops_of g = g.items

pub returns-in_ok-push-in-Some : goal.returns-in_ok-push-in-Some
unfolding loops_of
returns-in_ok-push-in-Some c =
    let table = c.args.table.now in
    let groups = c.args.groups.now.items in
    let group = c.in-Some.group in
    let within : group < length groups = subst (λ (o : Option ℕ). IfSome o (λ g. g < length groups)) c.in-Some.is c.requires.there in
    let old = ap loops_of c.index_mut.ensures.value ∙ sym (get_or-map loops_of groups group c.index_mut.result.now [] within) in
    subst (λ (o : Option ℕ). IsPut c.args.plane_loop c.args.number o table (map loops_of groups) table (map loops_of (set groups group c.push.new.self))) (sym c.in-Some.is) (
      refl,
      map-set loops_of groups group c.push.new.self
          ∙ ap (set (map loops_of groups) group) (c.in_ok-push-in-Some.ensures.items ∙ ap (λ (l : List PlaneLoop). l ++ c.args.plane_loop ∷ []) old),
    )
