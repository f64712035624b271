-- What is kept and noted stays so, and what is kept besides comes of runs too.
use Rattle.std.proofs.Common.{◌≡◌, ◌⊎◌, inl, inr, refl, sym, ap, subst, ◌∙◌, ℕ, zero, suc, ◌+◌, ◌*◌, ◌<◌, ◌≤◌, true, false, List, [], ◌∷◌, ◌++◌, length, reverse, Some, true≢false, append_assoc, append-nil, arith}
use Rattle.std.specs.Prelude.{slice_get}
use Rattle.std.proofs.lemmas.List.{length_push, length-append, length-map}
use Rattle.std.proofs.lemmas.Option.{same_Some, none-some}
use Rattle.b67_segment.specs.declared.code.Code.{Code}
use Rattle.b67_table.specs.Image.{Image}
use Rattle.b67_table.specs.Ending.{may_act}
use Rattle.b67_table.specs.Runs.{RunEntry}
use Rattle.b67_table.proofs.Begun.{last_is}
use Rattle.b67_list.proofs.Lists.{get_front}
use Rattle.b67_outcomes.specs.declared.found.TheConstants.{MOST_STEPS}
use Rattle.b67_outcomes.specs.declared.follow.TheConstants.{FREE_STEPS, STEPS_OF_STATE, MOST_SETTLED}
use Rattle.b67_outcomes.specs.declared.found.Step.{Step}
use Rattle.b67_outcomes.specs.declared.found.State.{State}
use Rattle.b67_outcomes.specs.declared.found.Limit.{Limit}
use Rattle.b67_outcomes.specs.declared.found.Found.{Found}
use Rattle.b67_outcomes.specs.Entering.{ProcessEnters, Stops, HistoryLeadsTo}
use Rattle.b67_outcomes.specs.Finding.{History, NumberIsAt, IsAfter, IsState, AreLed, AreStates, before_of, IsKept, IsStop, IsNoted, steps_for, IsSearched, HoldsState, FoundGrows, IsArrived, IsFollowed, IsExpanded}
use Rattle.b67_outcomes.proofs.Determined.{entry_one, no_entry, led_one}
use Rattle.b67_outcomes.proofs.Histories.{history_within, history_stays}

-- ---- lists

last_or : {X : Type 0} (xs : List X) (x y : X) (k : ℕ) (P : X → Type 0) → ((j : ℕ) (z : X) → slice_get xs j ≡ Some z → P z) → P x
    → slice_get (xs ++ x ∷ []) k ≡ Some y → P y
last_or [] x y zero P old new e = subst P (same_Some x y e) new
last_or [] x y (suc k) P old new e = absurd (none-some y e)
last_or (w ∷ xs) x y zero P old new e = old 0 y e
last_or (w ∷ xs) x y (suc k) P old new e = last_or xs x y k P (λ j z f. old (suc j) z f) new e

-- ---- what stays

pub grown_history : (old new : Found) (k : ℕ) (h : List ℕ) → FoundGrows old new → History old.steps.items k h → History new.steps.items k h
grown_history old new k h g is = subst (λ (z : List Step). History z k h) (sym g.steps) (history_stays old.steps.items g.more k h is)

pub grown_none : (f : Found) → FoundGrows f f
grown_none f =
    record {
      more = [];
      steps = sym (append-nil f.steps.items);
      more_states = [];
      states = sym (append-nil f.states.items);
      more_limits = [];
      limits = sym (append-nil f.limits.items);
      cut = λ e. e;
    }

pub grown_more : (a b c : Found) → FoundGrows a b → FoundGrows b c → FoundGrows a c
grown_more a b c g h =
    record {
      more = g.more ++ h.more;
      steps = h.steps ∙ ap (λ (z : List Step). z ++ h.more) g.steps ∙ append_assoc a.steps.items g.more h.more;
      more_states = g.more_states ++ h.more_states;
      states = h.states ∙ ap (λ (z : List State). z ++ h.more_states) g.states ∙ append_assoc a.states.items g.more_states h.more_states;
      more_limits = g.more_limits ++ h.more_limits;
      limits = h.limits ∙ ap (λ (z : List Limit). z ++ h.more_limits) g.limits ∙ append_assoc a.limits.items g.more_limits h.more_limits;
      cut = λ e. g.cut (h.cut e);
    }

kept_stays : (code : Code) (old new : Found) (img : Image) → FoundGrows old new → IsKept code old.steps.items old.states.items img
    → IsKept code new.steps.items new.states.items img
kept_stays code old new img g k =
    record {
      number = k.number;
      history = k.history;
      state = (k.state.0, k.state.1, ap (λ (z : List State). slice_get z k.state.0) g.states ∙ get_front old.states.items g.more_states k.state.0 k.state.1 k.state.2, k.state.3);
      is = grown_history old new k.number k.history g k.is;
      leads = k.leads;
    }

noted_stays : (old new : Found) (number p : ℕ) → FoundGrows old new → IsNoted old.limits.items number p → IsNoted new.limits.items number p
noted_stays old new number p g x =
    (x.0, x.1, ap (λ (z : List Limit). slice_get z x.0) g.limits ∙ get_front old.limits.items g.more_limits x.0 x.1 x.2, x.3, x.4)

module _ (code : Code) (Local : Image → ℕ → Type 0) where
  pub arrived_stays : (old new : Found) (img : Image) → FoundGrows old new → IsArrived code Local old img → IsArrived code Local new img
  arrived_stays old new img g x = record { image = x.image; settled = x.settled; settles = x.settles; kept = kept_stays code old new x.image g x.kept }

  pub followed_stays : (old new : Found) (number : ℕ) (h : List ℕ) (p : ℕ) → FoundGrows old new → IsFollowed code Local old number h p
      → IsFollowed code Local new number h p
  followed_stays old new number h p g f =
      record {
        entries = λ whole a b n l e. arrived_stays old new b g (f.entries (g.cut whole) a b n l e);
        stops = λ a quiet l may s. noted_stays old new number p g (f.stops a quiet l may s);
      }

  pub expanded_stays : (old new : Found) (number : ℕ) → FoundGrows old new → IsExpanded code Local old number → IsExpanded code Local new number
  expanded_stays old new number g x =
      record {
        history = x.history;
        is = grown_history old new number x.history g x.is;
        each = λ p. followed_stays old new number x.history p g (x.each p);
      }

  -- ---- one process after a history

  -- one that may not act leads nowhere
  pub followed_idle : (found : Found) (number : ℕ) (h : List ℕ) (p : ℕ) (here : Image) → HistoryLeadsTo code h here → may_act here p ≡ false
      → IsFollowed code Local found number h p
  followed_idle found number h p here l idle =
      record {
        entries = λ whole a b n m e. absurd (true≢false (sym (subst (λ (x : Image). may_act x p ≡ true) (led_one code h a here m l) e.may) ∙ idle));
        stops = λ a quiet m may s. absurd (true≢false (sym (subst (λ (x : Image). may_act x p ≡ true) (led_one code h a here m l) may) ∙ idle));
      }

  -- one that comes to the stack limit is noted
  followed_limit : (found : Found) (number : ℕ) (h : List ℕ) (p : ℕ) (here there : Image) → HistoryLeadsTo code h here
      → Stops code p here there → IsNoted found.limits.items number p → IsFollowed code Local found number h p
  followed_limit found number h p here there l x noted =
      record {
        entries = λ whole a b n m e. no_entry code p here there b n _ x (subst (λ (y : Image). RunEntry code p y n b) (led_one code h a here m l) e);
        stops = λ a quiet m may s. noted;
      }

  -- to where another leads the search has come
  pub followed_arrived : (found : Found) (number : ℕ) (h : List ℕ) (p : ℕ) (here there : Image) → HistoryLeadsTo code h here
      → ProcessEnters code p here true there → (found.cut ≡ false → IsArrived code Local found there) → IsFollowed code Local found number h p
  followed_arrived found number h p here there l x k =
      record {
        entries = λ whole a b n m e.
            subst (λ (z : Image). IsArrived code Local found z)
            (entry_one code p here there b x.0 n x.1 (subst (λ (y : Image). RunEntry code p y n b) (led_one code h a here m l) e)) (k whole);
        stops = λ a quiet m may s.
            no_entry code p here quiet there x.0 _ (subst (λ (y : Image). Stops code p y quiet) (led_one code h a here m l) s) x.1;
      }

  pub noted_followed : (new : Found) (limits : List Limit) (l : Limit) (h : List ℕ) (here quiet : Image) → new.limits.items ≡ limits ++ l ∷ []
      → HistoryLeadsTo code h here → Stops code l.process here quiet → IsFollowed code Local new l.state h l.process
  noted_followed new limits l h here quiet e leads stops =
      followed_limit new l.state h l.process here quiet leads stops
      (length limits, l, ap (λ (z : List Limit). slice_get z (length limits)) e ∙ last_is limits l, refl, refl)

-- ---- the same lists

pub same_grows : (old new : Found) → new.steps.items ≡ old.steps.items → new.states.items ≡ old.states.items → new.limits.items ≡ old.limits.items
    → (new.cut ≡ false → old.cut ≡ false) → FoundGrows old new
same_grows old new steps states limits cut =
    record {
      more = [];
      steps = steps ∙ sym (append-nil old.steps.items);
      more_states = [];
      states = states ∙ sym (append-nil old.states.items);
      more_limits = [];
      limits = limits ∙ sym (append-nil old.limits.items);
      cut = cut;
    }

short_so : (old new : Found) → new.steps.items ≡ old.steps.items → new.states.items ≡ old.states.items
    → length old.steps.items ≤ steps_for (length old.states.items) → length new.steps.items ≤ steps_for (length new.states.items)
short_so old new steps states short =
    subst (λ (z : List Step). length z ≤ steps_for (length new.states.items)) (sym steps)
    (subst (λ (z : List State). length old.steps.items ≤ steps_for (length z)) (sym states) short)

pub same_searched : (code : Code) (most : ℕ) (old new : Found) → IsSearched code most old → new.steps.items ≡ old.steps.items
    → new.states.items ≡ old.states.items → new.limits.items ≡ old.limits.items → (new.cut ≡ true → length old.states.items ≡ most)
    → IsSearched code most new
same_searched code most old new s steps states limits cause =
    record {
      led = subst (λ (z : List Step). AreLed code z) (sym steps) s.led;
      states =
          subst (λ (z : List Step). AreStates z new.states.items) (sym steps)
          (subst (λ (z : List State). AreStates old.steps.items z) (sym states) s.states);
      stops = λ k x e. subst (λ (z : List Step). IsStop code z x) (sym steps) (s.stops k x (sym (ap (λ (z : List Limit). slice_get z k) limits) ∙ e));
      after = λ k x e. subst (λ (z : List State). IsState z x.state) (sym states) (s.after k x (sym (ap (λ (z : List Limit). slice_get z k) limits) ∙ e));
      short = short_so old new steps states s.short;
      few = subst (λ (z : List State). length z ≤ most) (sym states) s.few;
      most_few = s.most_few;
      cause = λ e. subst (λ (z : List State). length z ≡ most) (sym states) (cause e);
    }

-- ---- a limit is noted

pub noted_grows : (old new : Found) (l : Limit) → new.steps.items ≡ old.steps.items → new.states.items ≡ old.states.items
    → new.limits.items ≡ old.limits.items ++ l ∷ [] → new.cut ≡ old.cut → FoundGrows old new
noted_grows old new l steps states limits cut =
    record {
      more = [];
      steps = steps ∙ sym (append-nil old.steps.items);
      more_states = [];
      states = states ∙ sym (append-nil old.states.items);
      more_limits = l ∷ [];
      limits = limits;
      cut = λ e. sym cut ∙ e;
    }

stop_of : (code : Code) (steps : List Step) (l : Limit) (h : List ℕ) (here quiet : Image) → History steps l.state h → HistoryLeadsTo code h here
    → may_act here l.process ≡ true → Stops code l.process here quiet → IsStop code steps l
stop_of code steps l h here quiet is leads may stops = record { history = h; image = here; quiet = quiet; is = is; leads = leads; may = may; stops = stops }

pub noted_searched : (code : Code) (most : ℕ) (old new : Found) (l : Limit) (h : List ℕ) (here quiet : Image) → IsSearched code most old
    → new.steps.items ≡ old.steps.items → new.states.items ≡ old.states.items → new.limits.items ≡ old.limits.items ++ l ∷ [] → new.cut ≡ old.cut
    → IsState old.states.items l.state → History old.steps.items l.state h → HistoryLeadsTo code h here → may_act here l.process ≡ true → Stops code l.process here quiet → IsSearched code most new
noted_searched code most old new l h here quiet s steps states limits cut state is leads may stops =
    record {
      led = subst (λ (z : List Step). AreLed code z) (sym steps) s.led;
      states =
          subst (λ (z : List Step). AreStates z new.states.items) (sym steps)
          (subst (λ (z : List State). AreStates old.steps.items z) (sym states) s.states);
      stops = λ k x e.
          subst (λ (z : List Step). IsStop code z x) (sym steps)
          (last_or old.limits.items l x k (λ (y : Limit). IsStop code old.steps.items y) s.stops
          (stop_of code old.steps.items l h here quiet is leads may stops) (sym (ap (λ (z : List Limit). slice_get z k) limits) ∙ e));
      after = λ k x e.
          subst (λ (z : List State). IsState z x.state) (sym states)
          (last_or old.limits.items l x k (λ (y : Limit). IsState old.states.items y.state) s.after state (sym (ap (λ (z : List Limit). slice_get z k) limits) ∙ e));
      short = short_so old new steps states s.short;
      few = subst (λ (z : List State). length z ≤ most) (sym states) s.few;
      most_few = s.most_few;
      cause = λ e. subst (λ (z : List State). length z ≡ most) (sym states) (s.cause (sym cut ∙ e));
    }

-- ---- how many steps there are

-- for so many states there are no more than may be kept
pub steps_few : (code : Code) (most : ℕ) (found : Found) → IsSearched code most found → length found.steps.items ≤ MOST_STEPS
steps_few code most found s = let short = s.short in let few = s.few in let most_few = s.most_few in omega (arith, short, few, most_few)

-- a number that has a history is one of them
pub number_few : (code : Code) (most number : ℕ) (found : Found) (h : List ℕ) → IsSearched code most found → History found.steps.items number h → number ≤ MOST_STEPS
number_few code most number found h s is =
    let few = steps_few code most found s in let within = history_within found.steps.items number h is in omega (arith, few, within)

-- how many entries may be settled at once
abbrev pub MaySettle : ℕ → ℕ → ℕ → Type 0
MaySettle room steps states = (room ≡ 0) ⊎ ((room ≡ MOST_SETTLED) × (steps ≤ FREE_STEPS + STEPS_OF_STATE * states))

pub settled_few : (room steps states : ℕ) → MaySettle room steps states → room ≤ MOST_SETTLED
settled_few room steps states (inl none) = omega (arith, none)
settled_few room steps states (inr some) = let is = some.0 in omega (arith, is)

-- the steps of an entry and of what is settled after it are within those for a state more
pub steps_fit : (room steps states path : ℕ) → MaySettle room steps states → steps ≤ steps_for states → path ≤ 1 + room → steps + path ≤ steps_for (states + 1)
steps_fit room steps states path (inl none) short few = omega (arith, none, short, few)
steps_fit room steps states path (inr some) short few = let is = some.0 in let within = some.1 in omega (arith, is, within, short, few)

-- ---- a state is kept

pub held_grows : (old new : Found) (number : ℕ) (path : List ℕ) (at : ℕ) → HoldsState old number path at new → FoundGrows old new
held_grows old new number path at x =
    record {
      more = x.path_held.more;
      steps = x.path_held.steps;
      more_states = x.state ∷ [];
      states = x.states;
      more_limits = [];
      limits = x.limits ∙ sym (append-nil old.limits.items);
      cut = λ e. sym x.cut ∙ e;
    }

-- a path has as many steps as entries
held_length : (old : Found) (number : ℕ) (path : List ℕ) (at : ℕ) (new : Found) → HoldsState old number path at new
    → length new.steps.items ≡ length old.steps.items + length path
held_length old number path at new x =
    let longer = ap (λ (z : List Step). length z) x.path_held.steps ∙ length-append old.steps.items x.path_held.more in
    let same = sym (length-map x.path_held.more (λ (z : Step). z.process)) ∙ ap (λ (z : List ℕ). length z) x.path_held.entries in
    omega (arith, longer, same)

-- and ends in a number that is greater by them at least
pub held_further : (old : Found) (number : ℕ) (path : List ℕ) (at : ℕ) (new : Found) → HoldsState old number path at new → number ≤ length old.steps.items
    → number + length path ≤ at
held_further old number path at new x within =
    let same = sym (length-map x.path_held.more (λ (z : Step). z.process)) ∙ ap (λ (z : List ℕ). length z) x.path_held.entries in
    by (length x.path_held.more) same x.path_held.at_is
  where
    by : (more : ℕ) → more ≡ length path → at ≡ before_of number (length old.steps.items) more → number + length path ≤ at
    by zero same is = omega (arith, same, is)
    by (suc more) same is = omega (arith, same, is, within)

pub held_searched : (code : Code) (most : ℕ) (old new : Found) (number : ℕ) (path : List ℕ) (at : ℕ) (there : Image) → IsSearched code most old
    → HoldsState old number path at new → IsAfter code old.steps.items number path there → length old.states.items < most
    → length old.steps.items + length path ≤ steps_for (length old.states.items + 1) → IsSearched code most new
held_searched code most old new number path at there s x after room fits =
    let longer : length new.steps.items ≡ length old.steps.items + length x.path_held.more =
    ap (λ (z : List Step). length z) x.path_held.steps ∙ length-append old.steps.items x.path_held.more in
    let one_more : length new.states.items ≡ length old.states.items + 1 =
    ap (λ (z : List State). length z) x.states ∙ length_push old.states.items x.state in
    record {
      led = x.path_held.led code after.history there after.is after.leads s.led;
      states = λ k y e.
          last_or old.states.items x.state y k (λ (z : State). z.number ≤ length new.steps.items)
          (λ j z f. let within = s.states j z f in omega (arith, within, longer)) (subst (λ (k : ℕ). k ≤ length new.steps.items) (sym x.number_is)
          (history_within new.steps.items at (reverse path ++ after.history) (x.path_held.is after.history after.is)))
          (sym (ap (λ (z : List State). slice_get z k) x.states) ∙ e);
      stops = λ k y e.
          let was = s.stops k y (sym (ap (λ (z : List Limit). slice_get z k) x.limits) ∙ e) in
          record {
            history = was.history;
            image = was.image;
            quiet = was.quiet;
            is = grown_history old new y.state was.history (held_grows old new number path at x) was.is;
            leads = was.leads;
            may = was.may;
            stops = was.stops;
          };
      after = λ k y e.
          let was = s.after k y (sym (ap (λ (z : List Limit). slice_get z k) x.limits) ∙ e) in
          (was.0, was.1, ap (λ (z : List State). slice_get z was.0) x.states ∙ get_front old.states.items (x.state ∷ []) was.0 was.1 was.2, was.3);
      short = subst (λ (n : ℕ). length new.steps.items ≤ steps_for n) (sym one_more) (omega (arith, fits, held_length old number path at new x));
      few = omega (arith, room, one_more);
      most_few = s.most_few;
      cause = λ e. let full = s.cause (sym x.cut ∙ e) in absurd (omega (arith, full, room));
    }

-- and a machine that stands after the path stands at its end
pub held_at : (code : Code) (old new : Found) (number : ℕ) (path : List ℕ) (at : ℕ) (there : Image) → HoldsState old number path at new
    → IsAfter code old.steps.items number path there → NumberIsAt code new.steps.items at there
held_at code old new number path at there x after =
    record { history = reverse path ++ after.history; is = x.path_held.is after.history after.is; leads = after.leads }

pub held_kept : (code : Code) (old new : Found) (number : ℕ) (path : List ℕ) (at : ℕ) (there : Image) → HoldsState old number path at new
    → IsAfter code old.steps.items number path there → IsKept code new.steps.items new.states.items there
held_kept code old new number path at there x after =
    record {
      number = at;
      history = reverse path ++ after.history;
      state = (length old.states.items, x.state, ap (λ (z : List State). slice_get z (length old.states.items)) x.states ∙ last_is old.states.items x.state, x.number_is);
      is = x.path_held.is after.history after.is;
      leads = after.leads;
    }
