-- The sink gained one page more, or a prefix of it.
use Rattle.std.proofs.Common.{◌↔◌, Bool, ◌≡◌, ◌∙◌, ◌++◌, ◌∷◌, [], List, map, ap, subst, sym}
use Rattle.std.proofs.lemmas.List.{map-append}
use Rattle.page_calls.specs.Those.{AreThose}
use Rattle.page_calls.proofs.Those.{those_alike}
use Rattle.sink_pages.specs.declared.pages.Told.{Told}
use Rattle.sink_pages.specs.KeptCalls.{call_of}
use Rattle.sink_pages.proofs.Gained.{told_next}
use Rattle.sink_pages.proofs.pages.SinkPagesPageOut.page.Goals as goal

-- one page more is kept behind the others
kept_next : (kept reserved pushed : List Told) (one : Told) → pushed ≡ reserved ++ one ∷ [] → reserved ≡ kept
    → map call_of pushed ≡ map call_of kept ++ call_of one ∷ []
kept_next kept reserved pushed one is same = ap (map call_of) (is ∙ ap (λ ts. ts ++ one ∷ []) same) ∙ map-append call_of kept (one ∷ [])

pub invariant_of-self-2 : goal.invariant_of-self-2
invariant_of-self-2 g c =
    let own = c.self.inside in
    let one : Told = record { number = c.args.number; total = c.args.total; choices = c.in-Ok.choices; accepted = c.is_ok.result } in
    let fits = g.B.Begun.fits in let written = c.write_next-written in
    let held = g.K.Sink.held own.sink in let now = g.K.Sink.held written.new.sink in
    let (kept, those, next) = c.in-Ok-own.ensures.next in let (before, alike) = c.self.invariant in
    let calls = map call_of c.push_reserved.new.self.items in
    let fit = those_alike (g.S.Sieve.fits own.sieve) fits alike c.args.more.now kept those in (
      told_next fits g.B.Begun.held held now (map call_of own.told.items) (call_of one) own.written own.choices written.result own.refused
          c.is_err-self-inside.result calls kept c.in-Ok-own.next c.if-self.false
          (kept_next own.told.items c.reserve.new.self.items c.push_reserved.new.self.items one c.push_reserved.ensures.items c.reserve.ensures.items)
          c.is_ok.ensures.value c.is_err-self-inside.ensures.value before (subst (λ given. AreThose fits given kept) (sym c.in-Ok.ensures) fit) next
          written.ensures.written written.ensures.prefix,
      subst (λ sieve. (choice : List Bool) → g.S.Sieve.fits sieve choice ↔ fits choice) (sym c.next_page-own.ensures.same) alike,
    )
