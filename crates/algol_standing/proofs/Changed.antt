-- A cell that is set or added, and a process that is set: instances stay alike, and no event but that of the cell changes.
use Rattle.std.proofs.Common.{◌≡◌, ◌⊎◌, ℕ, List, [], ◌∷◌, ◌++◌, Option, None, Some, Bool, true, false, refl, sym, ap, ◌∙◌, subst}
use Rattle.std.specs.Prelude.{if◌then◌else◌}
use Rattle.b67_list.specs.Numbered.{numbered, set_numbered}
use Rattle.algol_tree.specs.Sorts.{same_name}
use Rattle.algol_meaning.specs.Value.{Reference, NameCell, Cell, event}
use Rattle.b67_deeds.specs.Events.{EventState}
use Rattle.algol_meaning.specs.World.{NamedCell, Instance, or_no_instance, instance_at, cell_in, cell_at, cells_with, with_instance, set_cell, add_cells, Process, State, able, procures, or_no_process, process_at, World}
use Rattle.algol_meaning.specs.Events.{event_at, change_event}
use Rattle.algol_meaning.specs.Critical.{referred_in}
use Rattle.algol_standing.specs.Skeleton.{IsInSkeleton}
use Rattle.algol_standing.specs.Worlds.{parent_in, referred_in_cells, IsNameIn, IsNameAmong, Awaits, WaitersAreListed}
use Rattle.algol_standing.proofs.Awaiting.{awaits_able}
use Rattle.algol_standing.proofs.Calls.{IsNoEvent}
use Rattle.algol_standing.proofs.Seen.{in_front, in_back, in_either}
use Rattle.algol_standing.proofs.Pairs.{AllPairs, pairs_self, pairs_set, set_or}
use Rattle.algol_standing.proofs.Alike.{InstanceAlike, instance_self}

-- the cell refers to nothing, and is no name
abbrev pub IsPlain : Cell → Type 0
IsPlain c = ((i : ℕ) → IsInSkeleton (referred_in c) i → ⊥) × ((m : NameCell) → IsNameIn c m → ⊥)

abbrev pub ArePlain : List NamedCell → Type 0
ArePlain [] = Unit {0}
ArePlain (c ∷ cells) = IsPlain c.cell × ArePlain cells

refs_with : (cells : List NamedCell) (name : List ℕ) (c : Cell) (i : ℕ) → IsPlain c → IsInSkeleton (referred_in_cells (cells_with cells name c)) i → IsInSkeleton (referred_in_cells cells) i
refs_with [] name c i plain n = n
refs_with (d ∷ cells) name c i plain n = by (same_name d.name name) (λ m. refs_with cells name c i plain m) n
  where
    here : IsInSkeleton (referred_in c) i ⊎ IsInSkeleton (referred_in_cells cells) i → IsInSkeleton (referred_in d.cell ++ referred_in_cells cells) i
    here (◌⊎◌.inl m) = absurd (plain.0 i m)
    here (◌⊎◌.inr m) = in_back (referred_in d.cell) (referred_in_cells cells) i m

    further : (IsInSkeleton (referred_in_cells (cells_with cells name c)) i → IsInSkeleton (referred_in_cells cells) i) → IsInSkeleton (referred_in d.cell) i ⊎ IsInSkeleton (referred_in_cells (cells_with cells name c)) i →
        IsInSkeleton (referred_in d.cell ++ referred_in_cells cells) i
    further f (◌⊎◌.inl m) = in_front (referred_in d.cell) (referred_in_cells cells) i m
    further f (◌⊎◌.inr m) = in_back (referred_in d.cell) (referred_in_cells cells) i (f m)

    by : (b : Bool) → (IsInSkeleton (referred_in_cells (cells_with cells name c)) i → IsInSkeleton (referred_in_cells cells) i) → IsInSkeleton (referred_in_cells (if b then record d { cell = c } ∷ cells else d ∷ cells_with cells name c)) i → IsInSkeleton (referred_in d.cell ++ referred_in_cells cells) i
    by true f m = here (in_either (referred_in c) (referred_in_cells cells) i m)
    by false f m = further f (in_either (referred_in d.cell) (referred_in_cells (cells_with cells name c)) i m)

names_with : (cells : List NamedCell) (name : List ℕ) (c : Cell) (m : NameCell) → IsPlain c → IsNameAmong (cells_with cells name c) m → IsNameAmong cells m
names_with [] name c m plain n = n
names_with (d ∷ cells) name c m plain n = by (same_name d.name name) (λ k. names_with cells name c m plain k) n
  where
    here : IsNameIn c m ⊎ IsNameAmong cells m → IsNameAmong (d ∷ cells) m
    here (◌⊎◌.inl k) = absurd (plain.1 m k)
    here (◌⊎◌.inr k) = ◌⊎◌.inr k

    further : (IsNameAmong (cells_with cells name c) m → IsNameAmong cells m) → IsNameIn d.cell m ⊎ IsNameAmong (cells_with cells name c) m → IsNameAmong (d ∷ cells) m
    further f (◌⊎◌.inl k) = ◌⊎◌.inl k
    further f (◌⊎◌.inr k) = ◌⊎◌.inr (f k)

    by : (b : Bool) → (IsNameAmong (cells_with cells name c) m → IsNameAmong cells m) →
        IsNameAmong (if b then record d { cell = c } ∷ cells else d ∷ cells_with cells name c) m → IsNameAmong (d ∷ cells) m
    by true f k = here k
    by false f k = further f k

pub refs_more : (cells more : List NamedCell) (i : ℕ) → ArePlain more → IsInSkeleton (referred_in_cells (cells ++ more)) i → IsInSkeleton (referred_in_cells cells) i
refs_more [] [] i plain n = n
refs_more [] (d ∷ more) i plain n = by (λ m. refs_more [] more i plain.1 m) (in_either (referred_in d.cell) (referred_in_cells more) i n)
  where
    by : (IsInSkeleton (referred_in_cells more) i → ⊥) → IsInSkeleton (referred_in d.cell) i ⊎ IsInSkeleton (referred_in_cells more) i → ⊥
    by f (◌⊎◌.inl m) = plain.0.0 i m
    by f (◌⊎◌.inr m) = f m
refs_more (d ∷ cells) more i plain n = by (λ m. refs_more cells more i plain m) (in_either (referred_in d.cell) (referred_in_cells (cells ++ more)) i n)
  where
    by : (IsInSkeleton (referred_in_cells (cells ++ more)) i → IsInSkeleton (referred_in_cells cells) i) → IsInSkeleton (referred_in d.cell) i ⊎ IsInSkeleton (referred_in_cells (cells ++ more)) i →
        IsInSkeleton (referred_in_cells (d ∷ cells)) i
    by f (◌⊎◌.inl m) = in_front (referred_in d.cell) (referred_in_cells cells) i m
    by f (◌⊎◌.inr m) = in_back (referred_in d.cell) (referred_in_cells cells) i (f m)

pub names_more : (cells more : List NamedCell) (m : NameCell) → ArePlain more → IsNameAmong (cells ++ more) m → IsNameAmong cells m
names_more [] [] m plain n = n
names_more [] (d ∷ more) m plain (◌⊎◌.inl k) = plain.0.1 m k
names_more [] (d ∷ more) m plain (◌⊎◌.inr k) = names_more [] more m plain.1 k
names_more (d ∷ cells) more m plain (◌⊎◌.inl k) = ◌⊎◌.inl k
names_more (d ∷ cells) more m plain (◌⊎◌.inr k) = ◌⊎◌.inr (names_more cells more m plain k)

-- an instance with other cells, which refer to nothing more and keep no other name
with_cells : (x : Instance) (cells : List NamedCell) → ((i : ℕ) → IsInSkeleton (referred_in_cells cells) i → IsInSkeleton (referred_in_cells x.cells) i) →
    ((m : NameCell) → IsNameAmong cells m → IsNameAmong x.cells m) → InstanceAlike x (record x { cells = cells })
with_cells x cells f g = record { block = refl; parent = refl; process = refl; left = refl; refs = refs; names = g }
  where
    by : (i : ℕ) → IsInSkeleton (parent_in x.parent) i ⊎ IsInSkeleton (referred_in_cells cells) i → IsInSkeleton (parent_in x.parent ++ referred_in_cells x.cells) i
    by i (◌⊎◌.inl n) = in_front (parent_in x.parent) (referred_in_cells x.cells) i n
    by i (◌⊎◌.inr n) = in_back (parent_in x.parent) (referred_in_cells x.cells) i (f i n)

    refs : (i : ℕ) → IsInSkeleton (parent_in x.parent ++ referred_in_cells cells) i → IsInSkeleton (parent_in x.parent ++ referred_in_cells x.cells) i
    refs i n = by i (in_either (parent_in x.parent) (referred_in_cells cells) i n)

-- ---- worlds

pub set_alike : (w : World) (r : Reference) (c : Cell) → IsPlain c → AllPairs InstanceAlike w.instances (set_cell w r c).instances
set_alike w r c plain =
    pairs_set InstanceAlike instance_self w.instances r.instance (record y { cells = cells_with y.cells r.name c })
    (λ x e. subst (λ (z : Instance). InstanceAlike z (record y { cells = cells_with y.cells r.name c })) (ap or_no_instance e)
    (with_cells y (cells_with y.cells r.name c) (λ i n. refs_with y.cells r.name c i plain n) (λ m n. names_with y.cells r.name c m plain n)))
  where
    y : Instance
    y = instance_at w r.instance

pub add_alike : (w : World) (i : ℕ) (more : List NamedCell) → ArePlain more → AllPairs InstanceAlike w.instances (add_cells w i more).instances
add_alike w i more plain =
    pairs_set InstanceAlike instance_self w.instances i (record y { cells = y.cells ++ more })
    (λ x e. subst (λ (z : Instance). InstanceAlike z (record y { cells = y.cells ++ more })) (ap or_no_instance e)
    (with_cells y (y.cells ++ more) (λ j n. refs_more y.cells more j plain n) (λ m n. names_more y.cells more m plain n)))
  where
    y : Instance
    y = instance_at w i

-- ---- events

abbrev pub AreNoEvents : List NamedCell → Type 0
AreNoEvents [] = Unit {0}
AreNoEvents (c ∷ cells) = IsNoEvent c.cell × AreNoEvents cells

event_with : (cells : List NamedCell) (m n : List ℕ) (c : Cell) (e : EventState) → IsNoEvent c → cell_in (cells_with cells m c) n ≡ event e → cell_in cells n ≡ event e
event_with [] m n c e without f = f
event_with (d ∷ cells) m n c e without f = by (same_name d.name m) (λ g. event_with cells m n c e without g) f
  where
    here : (b : Bool) → (if b then c else cell_in cells n) ≡ event e → (if b then d.cell else cell_in cells n) ≡ event e
    here true g = absurd (without e g)
    here false g = g

    further : (b : Bool) → (cell_in (cells_with cells m c) n ≡ event e → cell_in cells n ≡ event e) → (if b then d.cell else cell_in (cells_with cells m c) n) ≡ event e →
        (if b then d.cell else cell_in cells n) ≡ event e
    further true h g = g
    further false h g = h g

    by : (b : Bool) → (cell_in (cells_with cells m c) n ≡ event e → cell_in cells n ≡ event e) →
        cell_in (if b then record d { cell = c } ∷ cells else d ∷ cells_with cells m c) n ≡ event e → (if same_name d.name n then d.cell else cell_in cells n) ≡ event e
    by true h g = here (same_name d.name n) g
    by false h g = further (same_name d.name n) h g

pub event_more : (cells more : List NamedCell) (n : List ℕ) (e : EventState) → AreNoEvents more → cell_in (cells ++ more) n ≡ event e → cell_in cells n ≡ event e
event_more [] [] n e without f = f
event_more [] (d ∷ more) n e without f = by (same_name d.name n) (λ g. event_more [] more n e without.1 g) f
  where
    by : (b : Bool) → (cell_in more n ≡ event e → cell_in [] n ≡ event e) → (if b then d.cell else cell_in more n) ≡ event e → cell_in [] n ≡ event e
    by true h g = absurd (without.0 e g)
    by false h g = h g
event_more (d ∷ cells) more n e without f = by (same_name d.name n) (λ g. event_more cells more n e without g) f
  where
    by : (b : Bool) → (cell_in (cells ++ more) n ≡ event e → cell_in cells n ≡ event e) → (if b then d.cell else cell_in (cells ++ more) n) ≡ event e →
        (if b then d.cell else cell_in cells n) ≡ event e
    by true h g = g
    by false h g = h g

-- .. or it is the one that was added
pub event_added : (cells : List NamedCell) (name n : List ℕ) (d e : EventState) → cell_in (cells ++ record { name = name; cell = event d } ∷ []) n ≡ event e →
    (cell_in cells n ≡ event e) ⊎ (e ≡ d)
event_added [] name n d e f = by (same_name name n) f
  where
    by : (b : Bool) → (if b then event d else cell_in [] n) ≡ event e → (cell_in [] n ≡ event e) ⊎ (e ≡ d)
    by true g = ◌⊎◌.inr cc
    by false g = ◌⊎◌.inl g
event_added (c ∷ cells) name n d e f = by (same_name c.name n) (λ g. event_added cells name n d e g) f
  where
    by : (b : Bool) → (cell_in (cells ++ record { name = name; cell = event d } ∷ []) n ≡ event e → (cell_in cells n ≡ event e) ⊎ (e ≡ d)) →
        (if b then c.cell else cell_in (cells ++ record { name = name; cell = event d } ∷ []) n) ≡ event e → ((if b then c.cell else cell_in cells n) ≡ event e) ⊎ (e ≡ d)
    by true h g = ◌⊎◌.inl g
    by false h g = h g

-- an instance with other cells has no event that it had not
in_instance : (w : World) (i : ℕ) (y : Instance) → ((n : List ℕ) (e : EventState) → cell_in y.cells n ≡ event e → cell_in ((instance_at w i).cells) n ≡ event e) →
    (r : Reference) (e : EventState) → cell_at (with_instance w i y) r ≡ event e → cell_at w r ≡ event e
in_instance w i y f r e g = by (set_or w.instances i r.instance y)
  where
    by : (numbered (set_numbered w.instances i y) r.instance ≡ numbered w.instances r.instance) ⊎ ((i ≡ r.instance) × (numbered (set_numbered w.instances i y) r.instance ≡ Some y)) →
        cell_at w r ≡ event e
    by (◌⊎◌.inl h) = ap (λ o. cell_in ((or_no_instance o).cells) r.name) (sym h) ∙ g
    by (◌⊎◌.inr h) =
        subst (λ j. cell_in ((instance_at w j).cells) r.name ≡ event e) h.0
        (f r.name e (ap (λ o. cell_in ((or_no_instance o).cells) r.name) (sym h.1) ∙ g))

pub set_event_before : (w : World) (s : Reference) (c : Cell) → IsNoEvent c → (r : Reference) (e : EventState) → cell_at (set_cell w s c) r ≡ event e → cell_at w r ≡ event e
set_event_before w s c without r e f =
    in_instance w s.instance (record (instance_at w s.instance) { cells = cells_with (instance_at w s.instance).cells s.name c })
    (λ n d g. event_with ((instance_at w s.instance).cells) s.name n c d without g) r e f

pub add_event_before : (w : World) (i : ℕ) (more : List NamedCell) → AreNoEvents more → (r : Reference) (e : EventState) → cell_at (add_cells w i more) r ≡ event e → cell_at w r ≡ event e
add_event_before w i more without r e f =
    in_instance w i (record (instance_at w i) { cells = (instance_at w i).cells ++ more }) (λ n d g. event_more ((instance_at w i).cells) more n d without g) r e f

pub event_before : (w : World) (i : ℕ) (name : List ℕ) (d : EventState) (r : Reference) (e : EventState) → cell_at (add_cells w i (record { name = name; cell = event d } ∷ [])) r ≡ event e →
    (cell_at w r ≡ event e) ⊎ (e ≡ d)
event_before w i name d r e g = by (set_or w.instances i r.instance y)
  where
    y : Instance
    y = record (instance_at w i) { cells = (instance_at w i).cells ++ record { name = name; cell = event d } ∷ [] }

    moved : i ≡ r.instance → (cell_in ((instance_at w i).cells) r.name ≡ event e) ⊎ (e ≡ d) → (cell_at w r ≡ event e) ⊎ (e ≡ d)
    moved h (◌⊎◌.inl f) = ◌⊎◌.inl (subst (λ j. cell_in ((instance_at w j).cells) r.name ≡ event e) h f)
    moved h (◌⊎◌.inr f) = ◌⊎◌.inr f

    by : (numbered (set_numbered w.instances i y) r.instance ≡ numbered w.instances r.instance) ⊎ ((i ≡ r.instance) × (numbered (set_numbered w.instances i y) r.instance ≡ Some y)) →
        (cell_at w r ≡ event e) ⊎ (e ≡ d)
    by (◌⊎◌.inl h) = ◌⊎◌.inl (ap (λ o. cell_in ((or_no_instance o).cells) r.name) (sym h) ∙ g)
    by (◌⊎◌.inr h) = moved h.0 (event_added ((instance_at w i).cells) name r.name d e (ap (λ o. cell_in ((or_no_instance o).cells) r.name) (sym h.1) ∙ g))

-- ---- an event that changes

pub event_plain : (e : EventState) → IsPlain (event e)
event_plain e = (λ i n. absurd n, λ m n. absurd n)

pub changed_alike : (w : World) (r : Reference) (c : Option (EventState → EventState)) → AllPairs InstanceAlike w.instances (change_event w r c).instances
changed_alike w r None = pairs_self InstanceAlike instance_self w.instances
changed_alike w r (Some change) = set_alike w r (event (change (event_at w r))) (event_plain (change (event_at w r)))

-- ---- who is listed

-- where only an able process changes and events do not, who is listed still waits
pub listed_still : (w v : World) (p : ℕ) (q after : Process) → numbered w.processes p ≡ Some q → q.state ≡ able → v.processes ≡ set_numbered w.processes p after →
    (r : Reference) (e : EventState) → WaitersAreListed w r e → WaitersAreListed v r e
listed_still w v p q after is able_is same r e l =
    record { waiters = λ k n. waiting k (l.waiters k n); procurers = λ k n. still k (procures r) (l.procurers k n) (procures_waits r); once = l.once; once_waiting = l.once_waiting }
  where
    procures_waits : (r : Reference) → procures r ≡ able → ⊥
    procures_waits r f = cc

    still : (k : ℕ) (s : State) → (process_at w k).state ≡ s → (s ≡ able → ⊥) → (process_at v k).state ≡ s
    still k s f other = by (set_or w.processes p k after)
      where
        by : (numbered (set_numbered w.processes p after) k ≡ numbered w.processes k) ⊎ ((p ≡ k) × (numbered (set_numbered w.processes p after) k ≡ Some after)) → (process_at v k).state ≡ s
        by (◌⊎◌.inl h) = ap (λ qs. (or_no_process (numbered qs k)).state) same ∙ ap (λ o. (or_no_process o).state) h ∙ f
        by (◌⊎◌.inr h) =
            let acts : (process_at w k).state ≡ able = ap (λ j. (process_at w j).state) (sym h.0) ∙ ap (λ o. (or_no_process o).state) is ∙ able_is in
            absurd (other (sym f ∙ acts))

    waiting : (k : ℕ) → Awaits ((process_at w k).state) r → Awaits ((process_at v k).state) r
    waiting k n = subst (λ t. Awaits t r) (sym (still k ((process_at w k).state) refl (awaits_able ((process_at w k).state) r n))) n
