-- Ends, and what an action does with cells and events, in worlds that are alike but for the cells of the instances that are left.
use Rattle.std.proofs.Common.{◌≡◌, refl, ap, ◌∙◌, ℕ, zero, suc, List, [], ◌∷◌, Option, Some, Bool, true, false}
use Rattle.std.specs.Prelude.{if◌then◌else◌}
use Rattle.b67_list.specs.Numbered.{numbered}
use Rattle.b67_deeds.specs.declared.EventTest.TheVariants as test
use Rattle.b67_deeds.specs.declared.Letter.{Letter}
use Rattle.b67_deeds.specs.Deeds as deeds
use Rattle.b67_deeds.specs.Deeds.{EventDeed, answers}
use Rattle.algol_tree.specs.declared.tree.Named.{Named}
use Rattle.algol_tree.specs.Scopes.{Scopes, use_of}
use Rattle.algol_meaning.specs.Value.{whole_of, Reference, Cell}
use Rattle.algol_meaning.specs.Rest.{Place, own, there, element_of}
use Rattle.algol_meaning.specs.World.{Instance, Part, Process, WorldFault, World, lives, is_able, or_no_process, process_at, cell_at, followed, array_in, event_in}
use Rattle.algol_meaning.specs.Arrays.{subscript_place}
use Rattle.algol_meaning.specs.Events.{event_at}
use Rattle.algol_meaning.specs.Asks as asks
use Rattle.algol_meaning.specs.Asks.{Ask, ask}
use Rattle.algol_meaning.specs.Choice.{choice, here, all_followed}
use Rattle.algol_meaning.specs.Run.{End, finished, end_by, end_of, goes_on, may_go}
use Rattle.algol_laws.specs.Reading.{with_cells_of, read_by_first, all_led_to, read_by_several, read_by_deed, read_by, read_in, read_cells, SameCells}
use Rattle.b67_race.specs.Entries.{Signal, Access, goes_by}
use Rattle.algol_seen.specs.Accesses.{whole_cell, element_number_in, access_at_element, storing, read_of, element_read, signal_of, first_signal, gone_by, several_signal, stored_at, access_by, acting_by, access_in, acting_in, signal_after, next_access, next_signal, done_of}
use Rattle.algol_lean.specs.Lean.{AreLean, Lean, led_by_place, given_by, given_in, UsesNoneLeft}
use Rattle.algol_lean.proofs.Choices.{here_same, led_same, all_same, same_cells, goes_with, lean_is}

-- ---- ends

pub ends_lean : (w v : World) → Lean w v → end_of v ≡ end_of w
unfolding end_of
ends_lean w v l =
    ap (λ (qs : List Process). if lives ((or_no_process (numbered qs 1)).state) then end_by v.fault qs else Some finished) l.processes
    ∙ ap (λ (f : Option WorldFault). if lives ((process_at w 1).state) then end_by f w.processes else Some finished) l.fault

pub may_lean : (w v : World) (p : ℕ) → Lean w v → may_go v p ≡ may_go w p
unfolding may_go
may_lean w v p l =
    ap (λ (o : Option End). goes_on o (is_able ((process_at v p).state))) (ends_lean w v l)
    ∙ ap (λ (qs : List Process). goes_on (end_of w) (is_able ((or_no_process (numbered qs p)).state))) l.processes

-- ---- cells and events

module _ (sc : Scopes) (w : World) (xs : List Instance) (p : ℕ) (q : Process) (part : Part) (outer : List Part) (l : AreLean w.instances xs) where
  abbrev v : World
  v = with_cells_of w xs

  stored_same : (x : Place) → SameCells w v (led_by_place x) → stored_at sc v part.instance x ≡ stored_at sc w part.instance x
  stored_same (own n) cells = ap (λ (r : Reference). storing r) (here_same sc w xs p q part outer l n)
  stored_same (there r) cells = refl
  stored_same (element_of r ks) cells = ap (λ (c : Cell). access_at_element r (element_number_in (array_in c) ks) true) cells.0

  access_same : (x : Ask) → SameCells w v (read_by sc w p q part outer x) → SameCells w v (given_by x) → access_by sc v part.instance x ≡ access_by sc w part.instance x
  access_same (asks.reads n) cells given =
      ap (λ (r : Reference). read_of r (cell_at v r)) (here_same sc w xs p q part outer l n) ∙ ap (λ (c : Cell). read_of (here sc w p q part outer n) c) cells.0
  access_same (asks.reads_element n ks x) cells given =
      ap (λ (r : Reference). by (cell_at v r) r) (led_same sc w xs p q part outer l n cells.0) ∙ ap (λ (c : Cell). by c (followed w (here sc w p q part outer n))) cells.1.0
    where
      by : Cell → Reference → Option Access
      by c r = element_read (array_in c) r ks (subscript_place ((use_of sc n).sort) (array_in c) ks (whole_of x))
  access_same (asks.stores x y) cells given = stored_same x given
  access_same _ cells given = refl

  gone_same : (ns : List Named) → SameCells w v (all_led_to sc w p q part outer ns) →
      gone_by v (all_followed sc w p q part outer ns) ≡ gone_by w (all_followed sc w p q part outer ns)
  gone_same [] cells = refl
  gone_same (n ∷ ns) cells =
      ap (λ (c : Cell). if answers test.WaitAny (event_in c) then goes_by (whole_cell r) else gone_by v (all_followed sc w p q part outer ns)) cells.1.0
      ∙ ap (λ (s : Signal). if answers test.WaitAny (event_at w r) then goes_by (whole_cell r) else s) (gone_same ns cells.1.1)
    where
      r : Reference
      r = followed w (here sc w p q part outer n)

  several_same : (woken : ℕ) (ns : List Named) → SameCells w v (read_by_several sc w p q part outer woken ns) →
      several_signal v woken (all_followed sc v p q part outer ns) ≡ several_signal w woken (all_followed sc w p q part outer ns)
  several_same zero ns cells = ap (λ (rs : List Reference). gone_by v rs) (all_same sc w xs p q part outer l ns cells) ∙ gone_same ns cells
  several_same (suc k) ns cells = refl

  first_same : (x : EventDeed) (ns : List Named) → SameCells w v (read_by_first sc w p q part outer ns) →
      first_signal v x (all_followed sc v p q part outer ns) ≡ first_signal w x (all_followed sc w p q part outer ns)
  first_same x [] cells = refl
  first_same x (n ∷ ns) cells =
      ap (λ (r : Reference). signal_of x r (event_at v r)) (led_same sc w xs p q part outer l n cells.0)
      ∙ ap (λ (c : Cell). signal_of x (followed w (here sc w p q part outer n)) (event_in c)) cells.1.0

  deed_same : (x : EventDeed) (ns : List Named) → SameCells w v (read_by_deed sc w p q part outer x ns) →
      acting_by sc v part.instance q.woken (asks.event_deed x ns) ≡ acting_by sc w part.instance q.woken (asks.event_deed x ns)
  deed_same x ns = by (deeds.is_of_several x)
    where
      by : (b : Bool) → SameCells w v (if b then read_by_several sc w p q part outer q.woken ns else read_by_first sc w p q part outer ns) →
          (if b then several_signal v q.woken (all_followed sc v p q part outer ns) else first_signal v x (all_followed sc v p q part outer ns))
          ≡ (if b then several_signal w q.woken (all_followed sc w p q part outer ns) else first_signal w x (all_followed sc w p q part outer ns))
      by true cells = several_same q.woken ns cells
      by false cells = first_same x ns cells

  acting_same : (x : Ask) → SameCells w v (read_by sc w p q part outer x) → acting_by sc v part.instance q.woken x ≡ acting_by sc w part.instance q.woken x
  acting_same (asks.event_deed x ns) cells = deed_same x ns cells
  acting_same _ cells = refl

module _ (sc : Scopes) (w : World) (xs : List Instance) (p : ℕ) (q : Process) (l : AreLean w.instances xs) where
  access_in_same : (parts : List Part) → SameCells w (with_cells_of w xs) (read_in sc w p q parts) → SameCells w (with_cells_of w xs) (given_in parts) →
      access_in sc (with_cells_of w xs) parts ≡ access_in sc w parts
  access_in_same [] cells given = refl
  access_in_same (part ∷ outer) cells given = access_same sc w xs p q part outer l (ask part.rest) cells given

  acting_in_same : (parts : List Part) → SameCells w (with_cells_of w xs) (read_in sc w p q parts) → acting_in sc (with_cells_of w xs) q.woken parts ≡ acting_in sc w q.woken parts
  acting_in_same [] cells = refl
  acting_in_same (part ∷ outer) cells = acting_same sc w xs p q part outer l (ask part.rest) cells

-- ---- what is done

module _ (sc : Scopes) (w : World) (xs : List Instance) (p : ℕ) (l : AreLean w.instances xs) (uses : UsesNoneLeft sc w p) where
  next_access_same : next_access sc (with_cells_of w xs) p ≡ next_access sc w p
  unfolding next_access read_cells
  next_access_same =
      access_in_same sc w xs p (process_at w p) l (process_at w p).todo (same_cells w xs l (read_cells sc w p) uses.reads)
      (same_cells w xs l (given_in (process_at w p).todo) uses.stores)

  next_signal_same : next_signal sc (with_cells_of w xs) p ≡ next_signal sc w p
  unfolding next_signal read_cells
  next_signal_same =
      ap (λ (a : Letter). signal_after a (process_at w p).task (acting_in sc (with_cells_of w xs) (process_at w p).woken (process_at w p).todo))
      (goes_with sc w xs p l uses).action
      ∙ ap (λ (s : Signal). signal_after (choice sc w p).action (process_at w p).task s)
      (acting_in_same sc w xs p (process_at w p) l (process_at w p).todo (same_cells w xs l (read_cells sc w p) uses.reads))

  same_done : done_of sc (with_cells_of w xs) p ≡ done_of sc w p
  same_done i =
      record {
        process = p;
        access = next_access_same i;
        signal = next_signal_same i;
        released = (goes_with sc w xs p l uses).released i;
        started = (goes_with sc w xs p l uses).started i;
      }

pub done_lean : (sc : Scopes) (w v : World) (p : ℕ) → Lean w v → UsesNoneLeft sc w p → done_of sc v p ≡ done_of sc w p
done_lean sc w v p l uses = ap (λ (u : World). done_of sc u p) (lean_is w v l) ∙ same_done sc w v.instances p l.instances uses
