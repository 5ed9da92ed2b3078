-- The page stands behind those that were handed out; a refused one stands behind them or nowhere.
use Rattle.std.proofs.Common.{◌≡◌, ◌+◌, ◌++◌, ℕ, true, false, length, refl, sym, ap, rules}
use Rattle.search_end.proofs.PageCalls.{few_left, paged, handed_next, refused_next}
use Rattle.search_end.proofs.handed.Handed.hand_out.Goals as goal

pub returns-then-is_err-clause-out : goal.returns-then-is_err-clause-out
returns-then-is_err-clause-out g c p most all before out =
    paged before (g.P.PageOut.calls c.args.pages.now) (g.P.PageOut.calls c.args.pages.now) c.args.self.now c.args.more.items out p most
    (few_left p most c.args.self.now.choices c.args.more.items all)

pub returns-in-Ok-clause-out : goal.returns-in-Ok-clause-out
returns-in-Ok-clause-out g c before out =
    let n : c.args.self.now.pages ≡ c.self.inside.pages = sym (ap (λ v. v.pages) c.self.view_is) in
    let both : c.append-moved.new.self.items ≡ c.args.self.now.choices ++ c.args.more.items = search rules in
    let total : c.len-2.result + c.len-3.result ≡ length c.args.self.now.choices + length c.args.more.items = search rules in
    rw (sym n, both) (handed_next before (g.P.PageOut.calls c.args.pages.now) (g.P.PageOut.calls c.page.new.self) c.args.self.now c.args.more.items out
    (record { number = c.self.inside.pages + 1; total = c.len-2.result + c.len-3.result; choices = c.as_slice.result.now; accepted = true })
    (ap (λ (k : ℕ). k + 1) (sym n)) c.requires.some c.requires.few total c.as_slice.ensures.value refl c.in-Ok.ensures.accepted)

pub returns-in-Err-Failed-clause-out : goal.returns-in-Err-Failed-clause-out
returns-in-Err-Failed-clause-out g c p most all before out =
    let n : c.args.self.now.pages ≡ c.self.inside.pages = sym (ap (λ v. v.pages) c.self.view_is) in
    let total : c.len-2.result + c.len-3.result ≡ length c.args.self.now.choices + length c.args.more.items = search rules in
    refused_next before (g.P.PageOut.calls c.args.pages.now) (g.P.PageOut.calls c.page.new.self) c.args.self.now c.args.more.items out
    (record { number = c.self.inside.pages + 1; total = c.len-2.result + c.len-3.result; choices = c.as_slice.result.now; accepted = false })
    (ap (λ (k : ℕ). k + 1) (sym n)) c.requires.some c.requires.few total c.as_slice.ensures.value p most all c.in-Err-Failed.ensures.refused

pub returns-clause-out : goal.returns-clause-out
returns-clause-out g c p most all before out =
    let n : c.args.self.now.pages ≡ c.self.inside.pages = sym (ap (λ v. v.pages) c.self.view_is) in
    let total : c.len-2.result + c.len-3.result ≡ length c.args.self.now.choices + length c.args.more.items = search rules in
    refused_next before (g.P.PageOut.calls c.args.pages.now) (g.P.PageOut.calls c.page.new.self) c.args.self.now c.args.more.items out
    (record { number = c.self.inside.pages + 1; total = c.len-2.result + c.len-3.result; choices = c.as_slice.result.now; accepted = false })
    (ap (λ (k : ℕ). k + 1) (sym n)) c.requires.some c.requires.few total c.as_slice.ensures.value p most all c.in-Err-Memory.ensures.refused
