-- The pair that was read is the end pair.
use Rattle.std.proofs.Common.{ℕ, List, Some, sym, ap, ap₂, ◌∙◌}
use Rattle.dxf_groups.specs.Groups.{GroupsState, wanted_on}
use Rattle.dxf_groups.specs.Pairs.{Pairs}
use Rattle.dxf_groups.specs.ReadPairs.{left_from, pairs_at}
use Rattle.dxf_groups.proofs.FirstPairs.{end_pair_read}
use Rattle.dxf_groups.proofs.groups.Groups.next.Goals as goal

pub returns-then-is_end : goal.returns-then-is_end
returns-then-is_end g c =
    let wanted = g.T.CodeTest.wanted c.args.test.now in
    let fields = c.self.inside in
    let text = c.as_slice-text.ensures.value in
    let read = end_pair_read c.as_slice-text.result.now _ c.in-Ok.read
    c.in-Ok.ensures.read c.in-Ok.ensures.kept (sym c.is_end.ensures ∙ c.if-is_end.true) in
    let left = ap (λ g. wanted_on wanted g.left) (sym c.self.view_is)
    ∙ ap (λ ending. wanted_on wanted (left_from fields.text.items fields.place fields.line ending)) c.in-None.is
    ∙ sym (ap (λ t. wanted_on wanted (pairs_at t fields.place fields.line)) text) ∙ read in
    let state : List ℕ → Pairs → GroupsState = λ t l.
    record { text = t; left = l; end_line = Some c.in-Ok.read.pair.line } in
    record {
      line = c.in-Ok.read.pair.line;
      at_end = left;
      told = ap₂ state (ap (λ g. g.text) c.self.view_is) (sym left);
    }
