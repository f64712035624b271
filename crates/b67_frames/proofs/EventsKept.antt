-- The events of an image are those of a later world as well, where no event's cell changes: those that are left are closed.
use Rattle.std.proofs.Common.{◌≡◌, ◌≢◌, ◌⊎◌, inl, inr, refl, sym, ap, ◌∙◌, subst, ℕ, zero, suc, ◌+◌, List, [], ◌∷◌, ◌++◌, length, Some, None, Bool, true, false, arith}
use Rattle.b67_list.proofs.Lists.{get_within}
use Rattle.b67_list.proofs.Numbered.{numbered_set}
use Rattle.b67_list.proofs.Numbers.{none_some}
use Rattle.b67_list.proofs.Truths.{true_false}
use Rattle.b67_frames.proofs.Prelude.{if◌then◌else◌, slice_get, numbered, set_numbered, EventState, block_numbered, Scopes, same_name, Cell, event, NamedCell, Instance, World, cells_with, Place, one_event, Event, event_at, is_from, closed_from, place, simple_cells, made_of, made_base, some_same, numbered_last, same_or_not, numbered_other, Layout, HasEvent, EventsAre}
use Rattle.b67_rows.proofs.Growing.{numbered_earlier}

-- ---- events that are the same

-- each event of the later world was one before, and is open as it was
pub events_by : (sc : Scopes) (w w' : World) (lay lay' : Layout) → ((i number : ℕ) (e : EventState) (at : Place) → HasEvent sc w' lay' i number e at → HasEvent sc w lay i number e at) → (events later : List Event) →
    ((i number : ℕ) (e : EventState) (at : Place) → HasEvent sc w' lay' i number e at → event_at at later ≡ event_at at events) → EventsAre sc w lay events → EventsAre sc w' lay' later
events_by sc w w' lay lay' before events later same are =
    record {
      are_open = λ i number e at h. same i number e at h ∙ are.are_open i number e at (before i number e at h);
      apart = λ i j number other e f at h o. are.apart i j number other e f at (before i number e at h) (before j other f at o);
    }

-- where no instance changes
pub events_unchanged : (sc : Scopes) (w w' : World) (lay : Layout) (events : List Event) → w'.instances ≡ w.instances → EventsAre sc w lay events → EventsAre sc w' lay events
events_unchanged sc w w' lay events same are =
    events_by sc w w' lay lay
    (λ i number e at h. record {
      instance = h.instance;
      is = ap (λ (xs : List Instance). numbered xs i) (sym same) ∙ h.is;
      stands = h.stands;
      name = h.name;
      declares = h.declares;
      has = h.has;
      frame = h.frame;
      laid = h.laid;
      at_is = h.at_is;
    }) events events (λ i number e at h. refl) are

-- ---- another cell that is no event

abbrev pub IsNoEvent : Cell → Type 0
IsNoEvent (event e) = ⊥
IsNoEvent c = Unit {0}

-- the cells with another one in the first of a name, by whether the first cell has it
abbrev with_other : Bool → NamedCell → List NamedCell → List ℕ → Cell → List NamedCell
with_other b c cells name new = if b then record c { cell = new } ∷ cells else c ∷ cells_with cells name new

-- what is an event among the cells was one before
pub event_before : (cells : List NamedCell) (name : List ℕ) (new : Cell) → IsNoEvent new → (k : ℕ) (other : List ℕ) (e : EventState) → slice_get (cells_with cells name new) k ≡ Some (record { name = other; cell = event e }) →
    slice_get cells k ≡ Some (record { name = other; cell = event e })
event_before [] name new none k other e is = is
event_before (c ∷ cells) name new none k other e is = by_name (event_before cells name new none) (same_name c.name name) refl k is
  where
    by_name : ((k : ℕ) (other : List ℕ) (e : EventState) → slice_get (cells_with cells name new) k ≡ Some (record { name = other; cell = event e }) → slice_get cells k ≡ Some (record { name = other; cell = event e })) →
        (b : Bool) → same_name c.name name ≡ b → (k : ℕ) → slice_get (with_other (same_name c.name name) c cells name new) k ≡ Some (record { name = other; cell = event e }) → slice_get (c ∷ cells) k ≡ Some (record { name = other; cell = event e })
    by_name rest true t zero is =
        let here : record c { cell = new } ≡ record { name = other; cell = event e } = some_same (ap (λ (b : Bool). slice_get (with_other b c cells name new) 0) (sym t) ∙ is) in
        absurd (subst (λ (x : NamedCell). IsNoEvent x.cell) here none)
    by_name rest true t (suc k) is = ap (λ (b : Bool). slice_get (with_other b c cells name new) (suc k)) (sym t) ∙ is
    by_name rest false t zero is = ap (λ (b : Bool). slice_get (with_other b c cells name new) 0) (sym t) ∙ is
    by_name rest false t (suc k) is = rest k other e (ap (λ (b : Bool). slice_get (with_other b c cells name new) (suc k)) (sym t) ∙ is)

-- none of these cells is an event
abbrev pub HaveNoEvent : List NamedCell → Type 0
HaveNoEvent [] = Unit {0}
HaveNoEvent (c ∷ cells) = IsNoEvent c.cell × HaveNoEvent cells

no_event_there : (cells : List NamedCell) (k : ℕ) (c : NamedCell) → HaveNoEvent cells → slice_get cells k ≡ Some c → IsNoEvent c.cell
no_event_there [] k c none is = none_some is
no_event_there (x ∷ cells) zero c none is = subst (λ (y : NamedCell). IsNoEvent y.cell) (some_same is) none.0
no_event_there (x ∷ cells) (suc k) c none is = no_event_there cells k c none.1 is

-- an event among these cells and more that have none is one of these
pub event_in_front : (cells more : List NamedCell) → HaveNoEvent more → (k : ℕ) (other : List ℕ) (e : EventState) → slice_get (cells ++ more) k ≡ Some (record { name = other; cell = event e }) →
    slice_get cells k ≡ Some (record { name = other; cell = event e })
event_in_front [] more none k other e is = absurd (no_event_there more k (record { name = other; cell = event e }) none is)
event_in_front (c ∷ cells) more none zero other e is = is
event_in_front (c ∷ cells) more none (suc k) other e is = event_in_front cells more none k other e is

-- One instance changes: it stays one of its block, and each event among its cells was there before.
module _ (sc : Scopes) (w w' : World) (lay lay' : Layout) (i : ℕ) (x y : Instance) (there : numbered w.instances i ≡ Some x) (changed : w'.instances ≡ set_numbered w.instances i y) (left : y.left ≡ x.left) (block : y.block ≡ x.block)
    (was : (k : ℕ) (name : List ℕ) (e : EventState) → slice_get y.cells k ≡ Some (record { name = name; cell = event e }) → slice_get x.cells k ≡ Some (record { name = name; cell = event e }))
    (places : (j : ℕ) (f : Place) → numbered lay'.places j ≡ Some f → numbered lay.places j ≡ Some f) where
  event_was : (j number : ℕ) (e : EventState) (at : Place) → HasEvent sc w' lay' j number e at → HasEvent sc w lay j number e at
  event_was j number e at h = by_number (same_or_not i j)
    where
      set_there : numbered (set_numbered w.instances i y) j ≡ Some h.instance
      set_there = ap (λ (xs : List Instance). numbered xs j) (sym changed) ∙ h.is

      itself : y ≡ h.instance → i ≡ j → HasEvent sc w lay j number e at
      itself here same =
          let block_is : x.block ≡ h.instance.block = sym block ∙ ap (λ (z : Instance). z.block) here in
          record {
            instance = x;
            is = ap (λ (k : ℕ). numbered w.instances k) (sym same) ∙ there;
            stands = sym left ∙ ap (λ (z : Instance). z.left) here ∙ h.stands;
            name = h.name;
            declares = ap (λ (b : ℕ). slice_get (made_of (block_numbered sc.blocks b).decls) number) block_is ∙ h.declares;
            has =
                was (length (simple_cells sc (block_numbered sc.blocks x.block)) + number) h.name e
                (ap (λ (b : ℕ). slice_get y.cells (length (simple_cells sc (block_numbered sc.blocks b)) + number)) block_is
                ∙ ap (λ (z : Instance). slice_get z.cells (length (simple_cells sc (block_numbered sc.blocks h.instance.block)) + number)) here
                ∙ h.has);
            frame = h.frame;
            laid = places j h.frame h.laid;
            at_is = h.at_is ∙ ap (λ (b : ℕ). place h.frame.stack (h.frame.at + (made_base sc (block_numbered sc.blocks b) + number))) (sym block_is);
          }

      by_number : (i ≡ j) ⊎ (i ≢ j) → HasEvent sc w lay j number e at
      by_number (inl same) = itself (some_same (sym (numbered_set w.instances i x y there) ∙ ap (λ (k : ℕ). numbered (set_numbered w.instances i y) k) same ∙ set_there)) same
      by_number (inr other) =
          record {
            instance = h.instance;
            is = sym (numbered_other w.instances i j y other) ∙ set_there;
            stands = h.stands;
            name = h.name;
            declares = h.declares;
            has = h.has;
            frame = h.frame;
            laid = places j h.frame h.laid;
            at_is = h.at_is;
          }

  pub events_replaced : (events : List Event) → EventsAre sc w lay events → EventsAre sc w' lay' events
  events_replaced events are = events_by sc w w' lay lay' event_was events events (λ j number e at h. refl) are

-- ---- an instance more, that has made nothing

module _ (sc : Scopes) (w w' : World) (lay lay' : Layout) (x : Instance) (one_more : w'.instances ≡ w.instances ++ x ∷ []) (fresh : length x.cells ≡ length (simple_cells sc (block_numbered sc.blocks x.block)))
    (places : (j : ℕ) (f : Place) → j ≢ length w.instances + 1 → numbered lay'.places j ≡ Some f → numbered lay.places j ≡ Some f) where
  event_was_there : (j number : ℕ) (e : EventState) (at : Place) → HasEvent sc w' lay' j number e at → HasEvent sc w lay j number e at
  event_was_there j number e at h = by_number (same_or_not j (length w.instances + 1))
    where
      -- it has simple cells only
      none_there : x ≡ h.instance → ⊥
      none_there here =
          let low = get_within h.instance.cells (length (simple_cells sc (block_numbered sc.blocks h.instance.block)) + number) (record { name = h.name; cell = event e }) h.has in
          let many : length h.instance.cells ≡ length (simple_cells sc (block_numbered sc.blocks h.instance.block)) =
          subst (λ (z : Instance). length z.cells ≡ length (simple_cells sc (block_numbered sc.blocks z.block))) here fresh in
          omega (arith, low, many)

      by_number : (j ≡ length w.instances + 1) ⊎ (j ≢ length w.instances + 1) → HasEvent sc w lay j number e at
      by_number (inl same) = absurd (none_there (some_same (sym (numbered_last w.instances x j same) ∙ ap (λ (xs : List Instance). numbered xs j) (sym one_more) ∙ h.is)))
      by_number (inr other) =
          record {
            instance = h.instance;
            is = numbered_earlier w.instances x j h.instance other (ap (λ (xs : List Instance). numbered xs j) (sym one_more) ∙ h.is);
            stands = h.stands;
            name = h.name;
            declares = h.declares;
            has = h.has;
            frame = h.frame;
            laid = places j h.frame other h.laid;
            at_is = h.at_is;
          }

  pub events_joined : (events : List Event) → EventsAre sc w lay events → EventsAre sc w' lay' events
  events_joined events are = events_by sc w w' lay lay' event_was_there events events (λ j number e at h. refl) are

-- ---- an instance that is left

module _ (sc : Scopes) (w w' : World) (lay : Layout) (i : ℕ) (x y : Instance) (there : numbered w.instances i ≡ Some x) (gone : y.left ≡ true) (changed : w'.instances ≡ set_numbered w.instances i y) where
  left_before : (j number : ℕ) (e : EventState) (at : Place) → HasEvent sc w' lay j number e at → HasEvent sc w lay j number e at × (i ≢ j)
  left_before j number e at h = by_number (same_or_not i j)
    where
      set_there : numbered (set_numbered w.instances i y) j ≡ Some h.instance
      set_there = ap (λ (xs : List Instance). numbered xs j) (sym changed) ∙ h.is

      by_number : (i ≡ j) ⊎ (i ≢ j) → HasEvent sc w lay j number e at × (i ≢ j)
      by_number (inl same) =
          let here : y ≡ h.instance = some_same (sym (numbered_set w.instances i x y there) ∙ ap (λ (k : ℕ). numbered (set_numbered w.instances i y) k) same ∙ set_there) in
          true_false gone (ap (λ (z : Instance). z.left) here ∙ h.stands)
      by_number (inr other) = (
        record {
          instance = h.instance;
          is = sym (numbered_other w.instances i j y other) ∙ set_there;
          stands = h.stands;
          name = h.name;
          declares = h.declares;
          has = h.has;
          frame = h.frame;
          laid = h.laid;
          at_is = h.at_is;
        },
        other,
      )

  -- where all that lies from there on in that stack is of this instance
  pub events_left : (stack low : ℕ) (events : List Event) → ((j number : ℕ) (e : EventState) (at : Place) → i ≢ j → HasEvent sc w lay j number e at → is_from stack low at ≡ false) → EventsAre sc w lay events →
      EventsAre sc w' lay (closed_from stack low events)
  events_left stack low events others are =
      events_by sc w w' lay lay (λ j number e at h. (left_before j number e at h).0) events (closed_from stack low events)
      (λ j number e at h.
      let b : HasEvent sc w lay j number e at × (i ≢ j) = left_before j number e at h in
      one_event.closed_there stack low at events
      ∙ ap (λ (t : Bool). if t then None else event_at at events) (others j number e at b.1 b.0)) are
