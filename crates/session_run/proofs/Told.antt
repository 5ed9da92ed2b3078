-- What readers tell.
use Rattle.std.proofs.Common.{◌≡◌, Bool, true, false, true≢false, not, ℕ, suc, ◌<◌, List, [], ◌∷◌, ◌++◌, length, refl, sym, ◌∙◌, ap, subst, arith, append_assoc, append-nil, slice_index_or}
use Rattle.solid_model.specs.Blocks.{ProblemParts}
use Rattle.solid_model.specs.Solutions.{AreSolutions}
use Rattle.lemmas.specs.Lists.{Member, Each}
use Rattle.lemmas.proofs.Lists.{each-weaker, member-append_left}
use Rattle.solution_book.specs.declared.reader.Page.{Page}
use Rattle.solution_book.specs.Editions.{StartsWith}
use Rattle.query_session.specs.declared.ask.Ask.{Ask}
use Rattle.query_session.specs.declared.ask.Ask.TheVariants as ask
use Rattle.query_session.specs.declared.ask.ReaderTale.{ReaderTale}
use Rattle.query_session.specs.Tales.{ArePagesOfOneList, IsTale, AreTales}
use Rattle.session_run.specs.Session.{AreAmong}
use Rattle.session_run.specs.Players.{PlayerParts, HasPlayed, HaveAllPlayed}
use Rattle.session_run.proofs.Listed.{listed_part, part_within}

-- ---- players

-- each of those that have played, place by place, has played
pub all_played : (p : ProblemParts) (scripts : List (List Ask)) (players : List PlayerParts) → length players ≡ length scripts
    → ((k : ℕ) (d : PlayerParts) → k < length players → HasPlayed p (slice_index_or scripts k []) (slice_index_or players k d)) → HaveAllPlayed p scripts players
all_played p [] [] long at = tt
all_played p [] (x ∷ xs) long at = absurd (let h : ⊥ = omega (arith, long) in h)
all_played p (s ∷ scripts) [] long at = absurd (let h : ⊥ = omega (arith, long) in h)
all_played p (s ∷ scripts) (x ∷ xs) long at =
    (at 0 x (omega arith), all_played p scripts xs (omega (arith, long)) (λ k d lt. at (suc k) d (omega (arith, lt))))

-- tales of some players, and players that are left: wherever all have played, the tales are of the first scripts
abbrev pub TellSoFar : List PlayerParts → List ReaderTale → List PlayerParts → Type 0
TellSoFar players tales left = (p : ProblemParts) (scripts : List (List Ask)) → HaveAllPlayed p scripts players
    → (first rest : List (List Ask)) × (scripts ≡ first ++ rest) × AreTales p first tales × HaveAllPlayed p rest left

pub tell_none : (players : List PlayerParts) → TellSoFar players [] players
tell_none players p scripts played = ([], scripts, refl, tt, played)

tales_more : (p : ProblemParts) (scripts : List (List Ask)) (tales : List ReaderTale) (s : List Ask) (t : ReaderTale) → AreTales p scripts tales → IsTale p s t
    → AreTales p (scripts ++ s ∷ []) (tales ++ t ∷ [])
tales_more p [] [] s t h is = (is, tt)
tales_more p [] (u ∷ tales) s t h is = absurd h
tales_more p (r ∷ scripts) [] s t h is = absurd h
tales_more p (r ∷ scripts) (u ∷ tales) s t (first, rest) is = (first, tales_more p scripts tales s t rest is)

pub tell_more : (players left behind : List PlayerParts) (tales all : List ReaderTale) (x : PlayerParts) (t : ReaderTale) → TellSoFar players tales left → left ≡ x ∷ behind
    → all ≡ tales ++ t ∷ [] → ((p : ProblemParts) (script : List Ask) → HasPlayed p script x → IsTale p script t) → TellSoFar players all behind
tell_more players left behind tales all x t so_far split is tell p scripts played = next (so_far p scripts played)
  where
    next : (first rest : List (List Ask)) × (scripts ≡ first ++ rest) × AreTales p first tales × HaveAllPlayed p rest left
        → (first rest : List (List Ask)) × (scripts ≡ first ++ rest) × AreTales p first all × HaveAllPlayed p rest behind
    next (first, [], e, told, h) = absurd (subst (HaveAllPlayed p []) split h)
    next (first, s ∷ rest, e, told, h) =
        let (own, others) = (let k : HaveAllPlayed p (s ∷ rest) (x ∷ behind) = subst (HaveAllPlayed p (s ∷ rest)) split h in k) in
        (first ++ s ∷ [], rest, e ∙ sym (append_assoc first (s ∷ []) rest), subst (AreTales p (first ++ s ∷ [])) (sym is) (tales_more p first tales s t told (tell p s own)), others)

pub tell_all : (players left : List PlayerParts) (tales : List ReaderTale) → TellSoFar players tales left → length left ≡ 0
    → (p : ProblemParts) (scripts : List (List Ask)) → HaveAllPlayed p scripts players → AreTales p scripts tales
tell_all players (x ∷ left) tales so_far none p scripts played = absurd (let h : ⊥ = omega (arith, none) in h)
tell_all players [] tales so_far none p scripts played = last (so_far p scripts played)
  where
    last : (first rest : List (List Ask)) × (scripts ≡ first ++ rest) × AreTales p first tales × HaveAllPlayed p rest [] → AreTales p scripts tales
    last (first, [], e, told, h) = subst (λ l. AreTales p l tales) (sym (e ∙ append-nil first)) told
    last (first, s ∷ rest, e, told, h) = absurd h

-- ---- tales

-- the last list of each has different solutions
pub last_solutions : (p : ProblemParts) (scripts : List (List Ask)) (tales : List ReaderTale) → AreTales p scripts tales → Each (λ t. AreSolutions p t.last.items) tales
last_solutions p [] [] h = tt
last_solutions p [] (t ∷ tales) h = absurd h
last_solutions p (s ∷ scripts) [] h = absurd h
last_solutions p (s ∷ scripts) (t ∷ tales) (is, rest) = (is.solutions, last_solutions p scripts tales rest)

-- the last list begins with each list before it
starts_with : (before last : List (List Bool)) (asks : List Ask) (pages : List Page) → ArePagesOfOneList before asks pages last → StartsWith last before
starts_with before last [] [] h = h
starts_with before last [] (page ∷ pages) h = absurd h
starts_with before last (ask.Page from most ∷ asks) [] h = absurd h
starts_with before last (ask.Page from most ∷ asks) (page ∷ pages) (list, (more, e), is, rest) =
    let (behind, f) = starts_with list last asks pages rest in
    (more ++ behind, f ∙ ap (λ l. l ++ behind) e ∙ append_assoc before more behind)
starts_with before last (ask.Wait count ∷ asks) pages h = starts_with before last asks pages h
starts_with before last (ask.Stop ∷ asks) pages h = starts_with before last asks pages h

-- so it has what the pages have
pages_within : (before last : List (List Bool)) (asks : List Ask) (pages : List Page) → ArePagesOfOneList before asks pages last
    → Each (λ page. Each (Member last) page.solids.items) pages
pages_within before last [] [] h = tt
pages_within before last [] (page ∷ pages) h = absurd h
pages_within before last (ask.Page from most ∷ asks) [] h = absurd h
pages_within before last (ask.Page from most ∷ asks) (page ∷ pages) (list, begins, is, rest) =
    let (more, e) = starts_with list last asks pages rest in
    let grows : (x : List Bool) → Member list x → Member last x = λ x k. subst (λ l. Member l x) (sym e) (member-append_left list more x k) in
    (each-weaker (Member list) (Member last) page.solids.items grows (part_within from most list page.solids.items is.part), pages_within list last asks pages rest)
pages_within before last (ask.Wait count ∷ asks) pages h = pages_within before last asks pages h
pages_within before last (ask.Stop ∷ asks) pages h = pages_within before last asks pages h

-- and its choices are listed where it is
pub pages_listed : (p : ProblemParts) (most : ℕ) (listed : List (List Bool)) (scripts : List (List Ask)) (tales : List ReaderTale) → AreTales p scripts tales
    → Each (λ t. AreAmong most listed t.last.items) tales → Each (λ t. Each (λ page. AreAmong most listed page.solids.items) t.pages.items) tales
pages_listed p most listed [] [] h all = tt
pages_listed p most listed [] (t ∷ tales) h all = absurd h
pages_listed p most listed (s ∷ scripts) [] h all = absurd h
pages_listed p most listed (s ∷ scripts) (t ∷ tales) (is, rest) (own, others) = (
  each-weaker (λ page. Each (Member t.last.items) page.solids.items) (λ page. AreAmong most listed page.solids.items) t.pages.items
      (λ page within. listed_part most listed t.last.items page.solids.items within own) (pages_within [] t.last.items s t.pages.items is.pages),
  pages_listed p most listed scripts tales rest others,
)

-- where a search was stopped that goes on unless some script asks to stop, some script does
pub stops_if : (b : Bool) → not b ≡ false → b ≡ true
stops_if true h = refl
stops_if false h = absurd (true≢false h)
