-- What notes tell, and runs that go on with an event.
use Rattle.std.proofs.Common.{◌≡◌, ℕ, ◌<◌, Bool, List, [], ◌∷◌, ◌++◌, map, length, take, drop, refl, sym, ◌∙◌, ap, ap₂, subst, arith}
use Rattle.std.proofs.lemmas.List.{length-append, take-append-drop, take-append-le, drop-append-le, get_or_append_left, take_all, drop_all, map-append}
use Rattle.std.specs.List.{flat_map}
use Rattle.lemmas.specs.Lists.{Each}
use Rattle.solid_model.specs.Search.{SearchLimits}
use Rattle.solid_model.specs.Tree.{PrefixTest}
use Rattle.lemmas.proofs.Lists.{each-append_left, each-append_right}
use Rattle.search_core.specs.declared.note.Note.{Note}
use Rattle.search_core.specs.Core.{Core, Event, IsEvent, IsCoreRun, after_event, after_events}
use Rattle.search_core.specs.Notes.{told, AreShared}
use Rattle.prefix_tree.specs.Places.{prefix_at}
use Rattle.prefix_tree.proofs.Stored.{named-grown}

-- ---- runs

-- the state after one event more
pub after-push : (limits : SearchLimits) (c : Core) (es : List Event) (e : Event) → after_events limits c (es ++ e ∷ []) ≡ after_event limits (after_events limits c es) e
after-push limits c [] e = refl
after-push limits c (x ∷ es) e = after-push limits (after_event limits c x) es e

-- a run and an event of the state to which it leads are a run
pub run-push : (live : PrefixTest) (n : ℕ) (limits : SearchLimits) (c : Core) (es : List Event) (e : Event) → IsCoreRun live n limits c es
    → IsEvent live n (after_events limits c es) e → IsCoreRun live n limits c (es ++ e ∷ [])
run-push live n limits c [] e run event = (event, tt)
run-push live n limits c (x ∷ es) e run event = (run.0, run-push live n limits (after_event limits c x) es e run.1 event)

-- ---- notes

-- what holds of each holds of each of the first ones, and of each of the others
each-take : {A : Type 0} (P : A → Type 0) (n : ℕ) (xs : List A) → Each P xs → Each P (take n xs)
each-take P n xs h = each-append_left P (take n xs) (drop n xs) (subst (Each P) (sym (take-append-drop n xs)) h)

pub each-drop : {A : Type 0} (P : A → Type 0) (n : ℕ) (xs : List A) → Each P xs → Each P (drop n xs)
each-drop P n xs h = each-append_right P (take n xs) (drop n xs) (subst (Each P) (sym (take-append-drop n xs)) h)

-- they tell the same where more prefixes are stored
pub told-grown : (stored more : List (List Bool)) (notes : List Note) (found : List (List Bool)) (rests : List ℕ) → Each (λ (x : Note). x.piece < length stored) notes
    → Each (λ k. k < length stored) rests → told (stored ++ more) notes found rests ≡ told stored notes found rests
told-grown stored more [] found rests h k = refl
told-grown stored more (x ∷ notes) found rests h k =
    ap₂ ◌∷◌
    (ap₂ (λ (p : List Bool) (rest : List (List Bool)). record { piece = p; opened = x.opened; found = take x.found found; rest = rest })
    (get_or_append_left stored more [] x.piece h.0)
    (named-grown stored more (take x.rest rests) (each-take (λ j. j < length stored) x.rest rests k)))
    (told-grown stored more notes (drop x.found found) (drop x.rest rests) h.1 (each-drop (λ j. j < length stored) x.rest rests k))

-- the rests that they tell are those that were put
pub rests-told : (stored : List (List Bool)) (notes : List Note) (found : List (List Bool)) (rests : List ℕ) → AreShared notes found rests
    → flat_map (λ (e : Event). e.rest) (told stored notes found rests) ≡ map (prefix_at stored) rests
rests-told stored [] found rests h = sym (ap (map (prefix_at stored)) h.1)
rests-told stored (x ∷ notes) found rests h =
    ap (λ (ps : List (List Bool)). map (prefix_at stored) (take x.rest rests) ++ ps) (rests-told stored notes (drop x.found found) (drop x.rest rests) h.2)
    ∙ sym (map-append (prefix_at stored) (take x.rest rests) (drop x.rest rests)) ∙ ap (map (prefix_at stored)) (take-append-drop x.rest rests)

-- the event of a note, with its shares
abbrev pub event_told : List (List Bool) → Note → List (List Bool) → List ℕ → Event
event_told stored x found rest = record { piece = prefix_at stored x.piece; opened = x.opened; found = found; rest = map (prefix_at stored) rest }

module _ (stored : List (List Bool)) (x : Note) (f : List (List Bool)) (r : List ℕ) (all_found : x.found ≡ length f) (all_rest : x.rest ≡ length r) where
  -- one note more tells one event more
  pub told-push : (notes : List Note) (found : List (List Bool)) (rests : List ℕ) → AreShared notes found rests
      → told stored (notes ++ x ∷ []) (found ++ f) (rests ++ r) ≡ told stored notes found rests ++ event_told stored x f r ∷ []
  told-push [] found rests h =
      ap₂ (λ (fs : List (List Bool)) (rs : List ℕ). told stored (x ∷ []) (fs ++ f) (rs ++ r)) h.0 h.1
      ∙ ap₂ (λ (fs : List (List Bool)) (rs : List ℕ). event_told stored x fs rs ∷ []) (take_all x.found f (omega arith)) (take_all x.rest r (omega arith))
  told-push (y ∷ notes) found rests h =
      ap₂ ◌∷◌
      (ap₂ (λ (fs : List (List Bool)) (rs : List ℕ). event_told stored y fs rs) (take-append-le y.found found f h.0) (take-append-le y.rest rests r h.1))
      (ap₂ (λ (fs : List (List Bool)) (rs : List ℕ). told stored (notes ++ x ∷ []) fs rs) (drop-append-le y.found found f h.0) (drop-append-le y.rest rests r h.1)
      ∙ told-push notes (drop y.found found) (drop y.rest rests) h.2)

  -- and they share all
  pub shared-push : (notes : List Note) (found : List (List Bool)) (rests : List ℕ) → AreShared notes found rests → AreShared (notes ++ x ∷ []) (found ++ f) (rests ++ r)
  shared-push [] found rests h =
      let both : AreShared (x ∷ []) f r = (omega arith, omega arith, (drop_all x.found f (omega arith), drop_all x.rest r (omega arith))) in
      subst (λ (fs : List (List Bool)). AreShared (x ∷ []) (fs ++ f) (rests ++ r)) (sym h.0) (subst (λ (rs : List ℕ). AreShared (x ∷ []) f (rs ++ r)) (sym h.1) both)
  shared-push (y ∷ notes) found rests h = (
    omega (arith, h.0, length-append found f),
    omega (arith, h.1, length-append rests r),
    subst (λ (fs : List (List Bool)). AreShared (notes ++ x ∷ []) fs (drop y.rest (rests ++ r))) (sym (drop-append-le y.found found f h.0))
        (subst (λ (rs : List ℕ). AreShared (notes ++ x ∷ []) (drop y.found found ++ f) rs) (sym (drop-append-le y.rest rests r h.1))
        (shared-push notes (drop y.found found) (drop y.rest rests) h.2)),
  )
