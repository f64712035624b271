-- What processes wait for, and their woken numbers, stay where places stay and events stay events.
use Rattle.std.proofs.Common.{◌≡◌, ◌≢◌, ◌⊎◌, inl, inr, refl, sym, ap, ◌∙◌, subst, ℕ, zero, suc, List, [], ◌∷◌, length, Option, Some, None, Bool, true, false}
use Rattle.b67_list.proofs.Numbered.{numbered_set}
use Rattle.b67_scenes.proofs.Prelude.{if◌then◌else◌, slice_get, slice_set, numbered, set_numbered, IsListed, Scopes, list_in, Reference, Process, World, process_at, or_no_process, Place, one_event, same_place_self, Event, event_at, waiters_at, list_of, same_place, is_from, closed_from, Image, woken_number, AwaitsAt, ProcessState, Able, WaitsFor, WaitsAny, Procures, Ended, length_set_numbered, some_same, same_or_not, numbered_other, Layout, AreAwaiting, ListIs, WaitsAre}
use Rattle.b67_events.specs.Events.{state_of, with_list, event_opened, fresh}
use Rattle.b67_events.proofs.Listed.{same_place_true}
use Rattle.b67_events.proofs.OfSeveral.{list_own}
use Rattle.b67_table.specs.Image.{is_able}
use Rattle.b67_scenes.proofs.Tasks.{EventsStay, PlacesStay, event_stays}

-- ---- by number

get_number : (xs ys : List ℕ) (k : ℕ) → slice_get xs k ≡ slice_get ys k → woken_number xs (suc k) ≡ woken_number ys (suc k)
get_number [] [] k e = refl
get_number [] (y ∷ ys) zero e = cc
get_number [] (y ∷ ys) (suc k) e = get_number [] ys k e
get_number (x ∷ xs) [] zero e = cc
get_number (x ∷ xs) [] (suc k) e = get_number xs [] k e
get_number (x ∷ xs) (y ∷ ys) zero e = some_same e
get_number (x ∷ xs) (y ∷ ys) (suc k) e = get_number xs ys k e

-- who has the same number in two lists has the same woken number
pub number_by : (xs ys : List ℕ) (p : ℕ) → numbered xs p ≡ numbered ys p → woken_number xs p ≡ woken_number ys p
number_by xs ys zero e = refl
number_by xs ys (suc k) e = get_number xs ys k e

get_none : (xs : List ℕ) (k : ℕ) → slice_get xs k ≡ None → woken_number xs (suc k) ≡ 0
get_none [] k e = refl
get_none (x ∷ xs) zero e = cc
get_none (x ∷ xs) (suc k) e = get_none xs k e

pub no_number : (xs : List ℕ) (p : ℕ) → numbered xs p ≡ None → woken_number xs p ≡ 0
no_number xs zero e = refl
no_number xs (suc k) e = get_none xs k e

get_some : (xs : List ℕ) (k n : ℕ) → slice_get xs k ≡ Some n → woken_number xs (suc k) ≡ n
get_some [] k n e = cc
get_some (x ∷ xs) zero n e = some_same e
get_some (x ∷ xs) (suc k) n e = get_some xs k n e

pub number_is : (xs : List ℕ) (p n : ℕ) → numbered xs p ≡ Some n → woken_number xs p ≡ n
number_is xs zero n e = cc
number_is xs (suc k) n e = get_some xs k n e

get_list : (xs ys : List (List Place)) (k : ℕ) → slice_get xs k ≡ slice_get ys k → list_of (suc k) xs ≡ list_of (suc k) ys
get_list [] [] k e = refl
get_list [] (y ∷ ys) zero e = cc
get_list [] (y ∷ ys) (suc k) e = get_list [] ys k e
get_list (x ∷ xs) [] zero e = cc
get_list (x ∷ xs) [] (suc k) e = get_list xs [] k e
get_list (x ∷ xs) (y ∷ ys) zero e = some_same e
get_list (x ∷ xs) (y ∷ ys) (suc k) e = get_list xs ys k e

-- .. and the same list
pub list_by : (xs ys : List (List Place)) (p : ℕ) → numbered xs p ≡ numbered ys p → list_of p xs ≡ list_of p ys
list_by xs ys zero e = refl
list_by xs ys (suc k) e = get_list xs ys k e

get_emptied : (xs : List (List Place)) (k : ℕ) → list_of (suc k) (slice_set xs k []) ≡ []
get_emptied [] k = refl
get_emptied (x ∷ xs) zero = refl
get_emptied (x ∷ xs) (suc k) = get_emptied xs k

-- who waits for several events no more has no list
pub list_emptied : (xs : List (List Place)) (p : ℕ) → list_of p (set_numbered xs p []) ≡ []
list_emptied xs zero = refl
list_emptied xs (suc k) = get_emptied xs k

pub list_beside : (xs : List (List Place)) (p r : ℕ) (l : List Place) → r ≢ p → list_of r (set_numbered xs p l) ≡ list_of r xs
list_beside xs p r l other = list_by (set_numbered xs p l) xs r (numbered_other xs p r l (λ (e : p ≡ r). other (sym e)))

pub list_there : (xs : List (List Place)) (p : ℕ) (l : List Place) → p ≢ 0 → list_of p (with_list xs p l) ≡ l
list_there xs zero l some = absurd (some refl)
list_there xs (suc k) l some = list_own xs k l

-- ---- lists

module _ (sc : Scopes) (w w' : World) (lay lay' : Layout) (events : EventsStay w w') (places : PlacesStay lay lay') where
  pub list_stays : (rs : List Reference) (ats : List Place) → ListIs sc w lay rs ats → ListIs sc w' lay' rs ats
  list_stays [] [] is = is
  list_stays [] (at ∷ ats) is = absurd is
  list_stays (r ∷ rs) [] is = absurd is
  list_stays (r ∷ rs) (at ∷ ats) is = (event_stays sc w w' lay lay' events places r at is.0, list_stays rs ats is.1)

-- who waits for no events at once has no places
pub none_listed : (sc : Scopes) (w : World) (lay : Layout) (rs : List Reference) (ats : List Place) → rs ≡ [] → ListIs sc w lay rs ats → ats ≡ []
none_listed sc w lay [] [] none is = refl
none_listed sc w lay [] (at ∷ ats) none is = absurd is
none_listed sc w lay (r ∷ rs) ats none is = cc

-- ---- who waits

-- who is able waits for no event
able_awaits : (o : Option ProcessState) (places : List Place) (at : Place) → is_able o ≡ true → AwaitsAt o places at → ⊥
able_awaits None places at able is = cc
able_awaits (Some Able) places at able is = is
able_awaits (Some (WaitsFor there)) places at able is = cc
able_awaits (Some WaitsAny) places at able is = cc
able_awaits (Some (Procures there)) places at able is = cc
able_awaits (Some Ended) places at able is = cc

pub able_nowhere : (img : Image) (p : ℕ) → AreAwaiting img → is_able (numbered img.states p) ≡ true → (at : Place) → IsListed (waiters_at at img.events) p → ⊥
able_nowhere img p awaiting able at listed = able_awaits (numbered img.states p) (list_of p img.lists) at able (awaiting p at listed)

-- where no more wait, each in its state and for its events
pub still_awaiting : (img img' : Image) → AreAwaiting img → ((r : ℕ) (at : Place) → IsListed (waiters_at at img'.events) r → IsListed (waiters_at at img.events) r) → img'.states ≡ img.states → img'.lists ≡ img.lists → AreAwaiting img'
still_awaiting img img' awaiting fewer states lists p at listed =
    subst (λ (ls : List (List Place)). AwaitsAt (numbered img'.states p) (list_of p ls) at) (sym lists)
    (subst (λ (ss : List ProcessState). AwaitsAt (numbered ss p) (list_of p img.lists) at) (sym states) (awaiting p at (fewer p at listed)))

-- .. but for one process
pub awaiting_beside : (img img' : Image) → AreAwaiting img → (p : ℕ) → ((at : Place) → IsListed (waiters_at at img'.events) p → AwaitsAt (numbered img'.states p) (list_of p img'.lists) at) →
    ((r : ℕ) (at : Place) → r ≢ p → IsListed (waiters_at at img'.events) r → IsListed (waiters_at at img.events) r) → ((r : ℕ) → r ≢ p → numbered img'.states r ≡ numbered img.states r) →
    ((r : ℕ) → r ≢ p → list_of r img'.lists ≡ list_of r img.lists) → AreAwaiting img'
awaiting_beside img img' awaiting p own fewer states lists r at listed = by_number (same_or_not r p)
  where
    by_number : (r ≡ p) ⊎ (r ≢ p) → AwaitsAt (numbered img'.states r) (list_of r img'.lists) at
    by_number (inl same) =
        subst (λ (k : ℕ). AwaitsAt (numbered img'.states k) (list_of k img'.lists) at) (sym same)
        (own at (subst (λ (k : ℕ). IsListed (waiters_at at img'.events) k) same listed))
    by_number (inr other) =
        subst (λ (ls : List Place). AwaitsAt (numbered img'.states r) ls at) (sym (lists r other))
        (subst (λ (o : Option ProcessState). AwaitsAt o (list_of r img.lists) at) (sym (states r other)) (awaiting r at (fewer r at other listed)))

-- the same wait where events are closed, and where one is opened
pub fewer_closed : (stack low : ℕ) (es : List Event) (r : ℕ) (at : Place) → IsListed (waiters_at at (closed_from stack low es)) r → IsListed (waiters_at at es) r
fewer_closed stack low es r at listed =
    by_test (is_from stack low at) (subst (λ (o : Option Event). IsListed (state_of o).waiters r) (one_event.closed_there stack low at es) listed)
  where
    by_test : (b : Bool) → IsListed (state_of (if b then None else event_at at es)).waiters r → IsListed (waiters_at at es) r
    by_test true gone = absurd gone
    by_test false there = there

pub fewer_opened : (to : Place) (es : List Event) (r : ℕ) (at : Place) → IsListed (waiters_at at (event_opened to es)) r → IsListed (waiters_at at es) r
fewer_opened to es r at listed = by_test (same_place at to) refl
  where
    by_test : (b : Bool) → same_place at to ≡ b → IsListed (waiters_at at es) r
    by_test true same =
        let here : event_at at (event_opened to es) ≡ Some (fresh to) = ap (λ (x : Place). event_at x (event_opened to es)) (same_place_true at to same) ∙ one_event.opened_here to es in
        absurd (subst (λ (o : Option Event). IsListed (state_of o).waiters r) here listed)
    by_test false other =
        subst (λ (o : Option Event). IsListed (state_of o).waiters r) (one_event.opened_elsewhere to at (λ (e : at ≡ to). apart (sym other ∙ same_place_self at to e)) es) listed
      where
        apart : false ≡ true → ⊥
        apart e = cc

-- ---- all of it

module _ (sc : Scopes) (w w' : World) (lay lay' : Layout) (events : EventsStay w w') (places : PlacesStay lay lay') (img img' : Image) (before : WaitsAre sc w lay img) where
  -- no process waits for others
  pub waits_kept : length img'.numbers ≡ length w'.processes → ((r : ℕ) → (list_in ((process_at w' r).state) ≡ list_in ((process_at w r).state)) × ((process_at w' r).woken ≡ (process_at w r).woken)) →
      img'.lists ≡ img.lists → ((r : ℕ) → woken_number img'.numbers r ≡ woken_number img.numbers r) → AreAwaiting img' → WaitsAre sc w' lay' img'
  waits_kept many same lists numbers awaiting =
      record {
        numbers = many;
        woken = λ r. numbers r ∙ before.woken r ∙ sym (same r).1;
        lists = λ r.
            subst (λ (ls : List (List Place)). ListIs sc w' lay' (list_in ((process_at w' r).state)) (list_of r ls)) (sym lists)
            (subst (λ (rs : List Reference). ListIs sc w' lay' rs (list_of r img.lists)) (sym (same r).0)
            (list_stays sc w w' lay lay' events places (list_in ((process_at w r).state)) (list_of r img.lists) (before.lists r)));
        awaiting = awaiting;
      }

  module _ (p : ℕ) where
    -- .. but one
    pub waits_beside : length img'.numbers ≡ length w'.processes → ListIs sc w' lay' (list_in ((process_at w' p).state)) (list_of p img'.lists) → woken_number img'.numbers p ≡ (process_at w' p).woken →
        ((r : ℕ) → r ≢ p → process_at w' r ≡ process_at w r) → ((r : ℕ) → r ≢ p → list_of r img'.lists ≡ list_of r img.lists) →
        ((r : ℕ) → r ≢ p → woken_number img'.numbers r ≡ woken_number img.numbers r) → AreAwaiting img' → WaitsAre sc w' lay' img'
    waits_beside many own own_number others lists numbers awaiting =
        record { numbers = many; woken = λ r. number_of r (same_or_not r p); lists = λ r. list_there r (same_or_not r p); awaiting = awaiting }
      where
        number_of : (r : ℕ) → (r ≡ p) ⊎ (r ≢ p) → woken_number img'.numbers r ≡ (process_at w' r).woken
        number_of r (inl same) = subst (λ (k : ℕ). woken_number img'.numbers k ≡ (process_at w' k).woken) (sym same) own_number
        number_of r (inr other) = numbers r other ∙ before.woken r ∙ ap (λ (q : Process). q.woken) (sym (others r other))

        list_there : (r : ℕ) → (r ≡ p) ⊎ (r ≢ p) → ListIs sc w' lay' (list_in ((process_at w' r).state)) (list_of r img'.lists)
        list_there r (inl same) = subst (λ (k : ℕ). ListIs sc w' lay' (list_in ((process_at w' k).state)) (list_of k img'.lists)) (sym same) own
        list_there r (inr other) =
            subst (λ (ls : List Place). ListIs sc w' lay' (list_in ((process_at w' r).state)) ls) (sym (lists r other))
            (subst (λ (q : Process). ListIs sc w' lay' (list_in q.state) (list_of r img.lists)) (sym (others r other))
            (list_stays sc w w' lay lay' events places (list_in ((process_at w r).state)) (list_of r img.lists) (before.lists r)))

    -- a process goes on, and is told another number
    pub waits_told : (q q' : Process) → numbered w.processes p ≡ Some q → w'.processes ≡ set_numbered w.processes p q' → list_in q'.state ≡ list_in q.state → img'.lists ≡ img.lists →
        length img'.numbers ≡ length img.numbers → woken_number img'.numbers p ≡ q'.woken → ((r : ℕ) → r ≢ p → woken_number img'.numbers r ≡ woken_number img.numbers r) → AreAwaiting img' → WaitsAre sc w' lay' img'
    waits_told q q' at processes list lists many own others awaiting =
        waits_beside (many ∙ before.numbers ∙ sym (ap length processes ∙ length_set_numbered w.processes p q'))
        (subst (λ (x : Process). ListIs sc w' lay' (list_in x.state) (list_of p img'.lists)) (sym now)
        (subst (λ (ls : List (List Place)). ListIs sc w' lay' (list_in q'.state) (list_of p ls)) (sym lists)
        (subst (λ (rs : List Reference). ListIs sc w' lay' rs (list_of p img.lists)) (sym (list ∙ ap (λ (x : Process). list_in x.state) (sym was)))
        (list_stays sc w w' lay lay' events places (list_in ((process_at w p).state)) (list_of p img.lists) (before.lists p)))))
        (own ∙ ap (λ (x : Process). x.woken) (sym now))
        (λ r other. ap (λ (qs : List Process). or_no_process (numbered qs r)) processes ∙ ap or_no_process (numbered_other w.processes p r q' (λ (e : p ≡ r). other (sym e))))
        (λ r other. ap (λ (ls : List (List Place)). list_of r ls) lists) others awaiting
      where
        now : process_at w' p ≡ q'
        now = ap (λ (qs : List Process). or_no_process (numbered qs p)) processes ∙ ap or_no_process (numbered_set w.processes p q q' at)

        was : process_at w p ≡ q
        was = ap or_no_process at

    -- a process goes on, and waits for the same
    pub waits_still : (q q' : Process) → numbered w.processes p ≡ Some q → w'.processes ≡ set_numbered w.processes p q' → list_in q'.state ≡ list_in q.state → q'.woken ≡ q.woken →
        img'.lists ≡ img.lists → img'.numbers ≡ img.numbers → AreAwaiting img' → WaitsAre sc w' lay' img'
    waits_still q q' at processes list number lists numbers awaiting =
        waits_kept (ap length numbers ∙ before.numbers ∙ sym (ap length processes ∙ length_set_numbered w.processes p q')) (λ r. by_number r (same_or_not r p)) lists
        (λ r. ap (λ (ns : List ℕ). woken_number ns r) numbers) awaiting
      where
        by_number : (r : ℕ) → (r ≡ p) ⊎ (r ≢ p) → (list_in ((process_at w' r).state) ≡ list_in ((process_at w r).state)) × ((process_at w' r).woken ≡ (process_at w r).woken)
        by_number r (inl same) =
            let now : process_at w' p ≡ q' = ap (λ (qs : List Process). or_no_process (numbered qs p)) processes ∙ ap or_no_process (numbered_set w.processes p q q' at) in
            let was : process_at w p ≡ q = ap or_no_process at in (
              ap (λ (k : ℕ). list_in ((process_at w' k).state)) same ∙ ap (λ (x : Process). list_in x.state) now ∙ list ∙ ap (λ (x : Process). list_in x.state) (sym was)
                  ∙ ap (λ (k : ℕ). list_in ((process_at w k).state)) (sym same),
              ap (λ (k : ℕ). (process_at w' k).woken) same ∙ ap (λ (x : Process). x.woken) now ∙ number ∙ ap (λ (x : Process). x.woken) (sym was)
                  ∙ ap (λ (k : ℕ). (process_at w k).woken) (sym same),
            )
        by_number r (inr other) =
            let is : process_at w' r ≡ process_at w r =
            ap (λ (qs : List Process). or_no_process (numbered qs r)) processes ∙ ap or_no_process (numbered_other w.processes p r q' (λ (e : p ≡ r). other (sym e))) in
            (ap (λ (x : Process). list_in x.state) is, ap (λ (x : Process). x.woken) is)
