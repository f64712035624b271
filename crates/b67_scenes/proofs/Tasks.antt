-- A process's critical place and the places of the events of its task and of its wait stay where places stay and events stay events.
use Rattle.std.proofs.Common.{◌≡◌, ◌≢◌, ◌⊎◌, inl, inr, refl, sym, ap, ◌∙◌, subst, ℕ, ◌+◌, List, [], ◌∷◌, ◌++◌, Option, Some, None, Bool, true, false}
use Rattle.b67_scenes.proofs.Prelude.{if◌then◌else◌, numbered, EventState, block_numbered, Scopes, same_name, Reference, event, State, able, waits_for, waits_any, procures, ended, NamedCell, Instance, World, instance_at, or_no_instance, cell_in, Place, place, ProcessState, Able, WaitsFor, WaitsAny, Procures, Ended, made_of, made_from, made_base, same_or_not, IsSameBut, KeepsArrays, Layout, CriticalIs, IsEventAt, TaskIs, StateIs}

-- the frames of instances are where they were
abbrev pub PlacesStay : Layout → Layout → Type 0
PlacesStay lay lay' = (i : ℕ) (f : Place) → numbered lay.places i ≡ Some f → numbered lay'.places i ≡ Some f

-- what an instance has as an event, it has so in another world, in the same block
abbrev pub EventsStayIn : World → World → ℕ → Type 0
EventsStayIn w w' j =
    (name : List ℕ) (e : EventState) → cell_in ((instance_at w j).cells) name ≡ event e →
    ((instance_at w' j).block ≡ (instance_at w j).block) × ((later : EventState) × (cell_in ((instance_at w' j).cells) name ≡ event later))

abbrev pub EventsStay : World → World → Type 0
EventsStay w w' = (j : ℕ) → EventsStayIn w w' j

-- ---- the places

pub critical_stays : (lay lay' : Layout) → PlacesStay lay lay' → (c : Option ℕ) (at : Option Place) → CriticalIs lay c at → CriticalIs lay' c at
critical_stays lay lay' places None at none = none
critical_stays lay lay' places (Some c) at told = (told.0, told.1, places c told.0 told.2)

module _ (sc : Scopes) (w w' : World) (lay lay' : Layout) (events : EventsStay w w') (places : PlacesStay lay lay') where
  pub event_stays : (r : Reference) (at : Place) → IsEventAt sc w lay r at → IsEventAt sc w' lay' r at
  event_stays r at h =
      let later = events r.instance r.name h.made.cell h.made.is in
      record {
        made = record {
          number = h.made.number;
          found = ap (λ (b : ℕ). made_from 0 (made_of (block_numbered sc.blocks b).decls) r.name) later.0 ∙ h.made.found;
          cell = later.1.0;
          is = later.1.1;
        };
        frame = h.frame;
        laid = places r.instance h.frame h.laid;
        at_is = h.at_is ∙ ap (λ (b : ℕ). place h.frame.stack (h.frame.at + (made_base sc (block_numbered sc.blocks b) + h.made.number))) (sym later.0);
      }

  pub task_stays : (r : Option Reference) (at : Option Place) → TaskIs sc w lay r at → TaskIs sc w' lay' r at
  task_stays None at none = none
  task_stays (Some r) at told = (told.0, told.1, event_stays r told.0 told.2)

  pub state_stays : (x : State) (o : Option ProcessState) → StateIs sc w lay x o → StateIs sc w' lay' x o
  state_stays able (Some Able) is = is
  state_stays (waits_for r) (Some (WaitsFor at)) is = event_stays r at is
  state_stays (waits_any rs) (Some WaitsAny) is = is
  state_stays (procures r) (Some (Procures at)) is = event_stays r at is
  state_stays ended (Some Ended) is = is
  state_stays able _ is = absurd is
  state_stays (waits_for r) _ is = absurd is
  state_stays (waits_any rs) _ is = absurd is
  state_stays (procures r) _ is = absurd is
  state_stays ended _ is = absurd is

-- ---- the events

-- of an instance that is the same
pub events_same : (w w' : World) (j : ℕ) → instance_at w' j ≡ instance_at w j → EventsStayIn w w' j
events_same w w' j same name e has = (ap (λ (x : Instance). x.block) same, (e, ap (λ (x : Instance). cell_in x.cells name) same ∙ has))

-- .. that is the same but that it is left
pub events_left : (w w' : World) → ((j : ℕ) → IsSameBut (instance_at w' j) (instance_at w j)) → EventsStay w w'
events_left w w' same j name e has = ((same j).block, (e, ap (λ (cells : List NamedCell). cell_in cells name) (same j).cells ∙ has))

-- .. that keeps what it has
pub events_kept : (sc : Scopes) (w w' : World) (lay lay' : Layout) (j : ℕ) → KeepsArrays sc w w' lay lay' j → EventsStayIn w w' j
events_kept sc w w' lay lay' j keeps name e has = (keeps.block, keeps.events name e has)

-- only one instance is changed
pub events_beside : (w w' : World) (i : ℕ) → ((j : ℕ) → j ≢ i → numbered w'.instances j ≡ numbered w.instances j) → EventsStayIn w w' i → EventsStay w w'
events_beside w w' i others one j = by_number (same_or_not j i)
  where
    by_number : (j ≡ i) ⊎ (j ≢ i) → EventsStayIn w w' j
    by_number (inl same) = subst (λ (k : ℕ). EventsStayIn w w' k) (sym same) one
    by_number (inr apart) = events_same w w' j (ap or_no_instance (others j apart))

-- instances come to those that were
pub events_before : (w w' : World) → ((j : ℕ) (x : Instance) → numbered w.instances j ≡ Some x → numbered w'.instances j ≡ Some x) → EventsStay w w'
events_before w w' stay j name e = by_instance (numbered w.instances j) refl
  where
    by_instance : (o : Option Instance) → numbered w.instances j ≡ o → cell_in ((instance_at w j).cells) name ≡ event e →
        ((instance_at w' j).block ≡ (instance_at w j).block) × ((later : EventState) × (cell_in ((instance_at w' j).cells) name ≡ event later))
    by_instance (Some x) is has = events_same w w' j (ap or_no_instance (stay j x is ∙ sym is)) name e has
    by_instance None is has =
        let none : cell_in [] name ≡ event e = ap (λ (o : Option Instance). cell_in ((or_no_instance o).cells) name) (sym is) ∙ has in
        cc

-- cells come after those that an instance has
pub event_front : (cells more : List NamedCell) (name : List ℕ) (e : EventState) → cell_in cells name ≡ event e → cell_in (cells ++ more) name ≡ event e
event_front [] more name e is = cc
event_front (c ∷ cells) more name e is = by_name (same_name c.name name) is (event_front cells more name e)
  where
    by_name : (b : Bool) → (if b then c.cell else cell_in cells name) ≡ event e → (cell_in cells name ≡ event e → cell_in (cells ++ more) name ≡ event e) → (if b then c.cell else cell_in (cells ++ more) name) ≡ event e
    by_name true here later = here
    by_name false further later = later further
