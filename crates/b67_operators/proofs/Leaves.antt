-- What leaving a frame makes of an image.
use Rattle.std.specs.Result.{IsErrAnd}
use Rattle.std.specs.Prelude.{nat_le, nat_eq, ◌&&◌, not}
use Rattle.std.proofs.Common.{◌≡◌, refl, sym, ap, subst, ◌∙◌, ℕ, zero, suc, ◌-◌, ◌≤◌, Bool, true, false, cond, List, [], ◌∷◌, set, get_or, slice_get, Option, Some, None, Result, Ok, Err, arith}
use Rattle.std.proofs.lemmas.Option.{get_or_from_slice_get}
use Rattle.std.proofs.lemmas.Bool.Decides.{nat_tests}
use Rattle.b67_list.specs.Numbered.{numbered, set_numbered}
use Rattle.b67_num.specs.declared.FaultKind.TheVariants.{CriticalBlockExit}
use Rattle.b67_word.specs.declared.Place.{Place}
use Rattle.b67_word.specs.Word.{Word}
use Rattle.b67_control.specs.declared.Registers.{Registers}
use Rattle.b67_store.specs.Store.{Stacks, Rows, stack_limit}
use Rattle.b67_events.specs.Events.{Event, Events, closed_from}
use Rattle.b67_table.specs.declared.InterruptKind.{InterruptKind}
use Rattle.b67_table.specs.declared.Leaving.{Leaving}
use Rattle.b67_table.specs.declared.ProcessState.{ProcessState}
use Rattle.b67_table.specs.declared.ProcessState.TheVariants.{Ended}
use Rattle.b67_table.specs.Chains.{place}
use Rattle.b67_table.specs.Effect.{Effect, gives, faults, interrupts}
use Rattle.b67_table.specs.Outcome.{limited}
use Rattle.b67_table.specs.Outcome as outcomes
use Rattle.b67_table.specs.Image.{Image}
use Rattle.b67_table.specs.Look.{look_seen, found}
use Rattle.b67_table.specs.Private.{frame}
use Rattle.b67_table.specs.Questions.{live_criticals}
use Rattle.b67_table.specs.References.{popped, invalid}
use Rattle.b67_table.specs.Rows.{exit, is_result, return_value}
use Rattle.b67_table.specs.Linkage.{is_critical, if_not_critical, leaving, registers_left as left, leave, leave_base, leave_other, caused_by}
use Rattle.b67_table.specs.Linkage as linkage
use Rattle.b67_table.specs.Moves.{pushed}
use Rattle.b67_table.specs.Program.{Program, answer, fault, see, asked, Change, done, changed, cut, registers, close_events, end_process, effect_of}
use Rattle.b67_table.specs.Table.{stack_length, length_in}
use Rattle.b67_table.specs.Writes.{able_again}
use Rattle.b67_table.proofs.FirstValid.{counted}
use Rattle.b67_table.proofs.Lists.{numbered_set, numbered_within}
use Rattle.b67_linkage.specs.Held.{HeldCore, held, IsLinked}
use Rattle.b67_linkage.specs.Leaving.{own_cells, frame_left, base_left}
use Rattle.b67_linkage.proofs.Closes.{closes_as_the_table}
use Rattle.b67_reach.specs.declared.Stop.{Stop}
use Rattle.b67_reach.specs.declared.Stop.TheVariants.{Interrupt, Fault, StackLimit}
use Rattle.b67_reach.specs.Answers.{whole_outcome, stopped, looked, ProgramActs}
use Rattle.b67_reach.proofs.Looking.{seen_then, after_found, as_effect, asked_look, asked_then, after_test}
use Rattle.b67_operators.specs.Leaves.{IsLinkedIn, program_in, valued, leaves, HasLeftFrame, below_found, returned, program_ends, HasLeftBase, task_caused, task_waiters, task_numbers}

-- ---- one program for another

pub acts_as : {A : Type 0} (p : ℕ) (a b : Program) (img new : Image) (res : Result A Stop) → asked img a ≡ asked img b → ProgramActs p b img new res → ProgramActs p a img new res
acts_as p a b img new res e x = record { outcome = ap (λ (z : Effect Change). limited (stack_length p) (effect_of p img z)) e ∙ x.outcome; stays = x.stays }

pub in_process : {A : Type 0} (p : ℕ) (program : Registers → ℕ → Program) (o : Option Registers) (r : Registers) (next : ℕ) (img new : Image) (res : Result A Stop) → o ≡ Some r
    → ProgramActs p (program r next) img new res → ProgramActs p (program_in program o next) img new res
in_process p program o r next img new res has x = subst (λ (q : Option Registers). ProgramActs p (program_in program q next) img new res) (sym has) x

-- tests that stop a program
refused : (p : ℕ) (img : Image) (e : Effect Change) (stop : Stop) → whole_outcome e ≡ stopped stop → limited (stack_length p) (effect_of p img e) ≡ stopped stop
refused p img (gives change) (Interrupt kind) e = cc
refused p img (gives change) (Fault kind) e = cc
refused p img (gives change) StackLimit e = cc
refused p img (faults kind) (Fault k) e = let same : kind ≡ k = cc in ap outcomes.faults same
refused p img (faults kind) (Interrupt k) e = cc
refused p img (faults kind) StackLimit e = cc
refused p img (interrupts kind) (Interrupt k) e = let same : kind ≡ k = cc in ap outcomes.interrupts same
refused p img (interrupts kind) (Fault k) e = cc
refused p img (interrupts kind) StackLimit e = cc

pub acts_refused : {A : Type 0} (p : ℕ) (program : Program) (img : Image) (stop : Stop) → whole_outcome (asked img program) ≡ stopped stop → ProgramActs {A = A} p program img img (Err stop)
acts_refused p program img stop e = record { outcome = refused p img (asked img program) stop e; stays = refl }

-- a change that makes an image in which the stack is no longer than one can be
pub acts_changed : (p : ℕ) (program : Program) (change : Change) (img new : Image) → asked img program ≡ gives change → changed p change img ≡ new → stack_length p new ≤ stack_limit
    → ProgramActs p program img new (Ok (tt {0}))
acts_changed p program change img new e f h =
    let fits : nat_le (stack_length p new) stack_limit ≡ true = grind (arith, nat_tests, h) in
    record {
      outcome = ap (λ (z : Effect Change). limited (stack_length p) (effect_of p img z)) e
          ∙ ap (λ (z : Image). limited (stack_length p) (gives z)) f
          ∙ ap (λ (b : Bool). cond b (outcomes.gives new) outcomes.limit) fits;
      stays = tt {0};
    }

-- how long the stack of a process is by its new registers
length_set : (p : ℕ) (regs : List Registers) (r q : Registers) → numbered regs p ≡ Some r → length_in (numbered (set_numbered regs p q) p) ≡ q.s
length_set p regs r q has = ap length_in (numbered_set regs p q (counted p r regs has) (numbered_within regs p r has))

-- the exit of a question mark
pub acts_exit : {A : Type 0} (p : ℕ) (program : Program) (img new : Image) (res : Result A Stop) (stop : Stop) → IsErrAnd res (λ e. e ≡ stop) → ProgramActs {A = A} p program img new (Err stop)
    → ProgramActs p program img new res
acts_exit p program img new (Ok a) stop e x = absurd e
acts_exit {A = A} p program img new (Err other) stop e x = subst (λ (s : Stop). ProgramActs {A = A} p program img new (Err s)) (sym e) x

-- the registers of a process are those at its index, which is one less than its number
pub here : (stacks : Stacks) (rows : Rows) (all : List Registers) (p : ℕ) (r : Registers) → IsLinkedIn stacks rows (numbered all p) → r ≡ get_or all (p - 1) r
    → (numbered all p ≡ Some r) × (1 ≤ p)
here stacks rows all zero r k e = absurd k
here stacks rows all (suc j) r k e = by (slice_get all j) refl k
  where
    j_is : suc j - 1 ≡ j
    j_is = omega arith

    by : (o : Option Registers) → slice_get all j ≡ o → IsLinkedIn stacks rows o → (slice_get all j ≡ Some r) × (1 ≤ suc j)
    by None i m = absurd m
    by (Some q) i m =
        (i ∙ ap (λ (x : Registers). Some x) (sym (e ∙ ap (λ (n : ℕ). get_or all n r) j_is ∙ get_or_from_slice_get all j q r i)), omega arith)

pub set_here : (all : List Registers) (p : ℕ) (q : Registers) → 1 ≤ p → set all (p - 1) q ≡ set_numbered all p q
set_here all zero q h = absurd (omega (arith, h))
set_here all (suc j) q h = let j_is : suc j - 1 ≡ j = omega arith in ap (λ (n : ℕ). set all n q) j_is

-- ---- which frame is left

module _ (img : Image) (r : Registers) (next : ℕ) (words : List Word) where
  abbrev cells : List Word
  cells = own_cells (held img.stacks img.rows r)

  pub is_other : nat_eq (frame r) 0 ≡ false → asked img (leave r next words) ≡ asked img (leave_other r cells (frame r) words)
  is_other e = ap (λ (b : Bool). asked img (cond b (leave_base r cells next) (leave_other r cells (frame r) words))) e

-- what is told by slices of the states and the registers
critical_in : (n : ℕ) (fs : List ℕ) {states more : List ProcessState} {regs all : List Registers} → states ≡ more → regs ≡ all
    → is_critical n fs (live_criticals states regs) ≡ is_critical n fs (live_criticals more all)
critical_in n fs {states} {more} {regs} {all} e g =
    ap (λ (ss : List ProcessState). is_critical n fs (live_criticals ss regs)) e ∙ ap (λ (rs : List Registers). is_critical n fs (live_criticals more rs)) g

-- ---- a frame that is not the base frame

module _ (p : ℕ) (img : Image) (r : Registers) (value : Option Word) where
  abbrev h : Leaving → HeldCore
  h l = frame_left (held img.stacks img.rows r) (valued value) l

  abbrev own : List Word
  own = own_cells (held img.stacks img.rows r)

  abbrev critical : Bool
  critical = is_critical r.stack (frame r ∷ []) (live_criticals img.states img.regs)

  abbrev change : Leaving → Change
  change l = linkage.frame_left r.stack (frame r) own (cut r.stack (frame r) (pushed r.stack (valued value) (registers (h l).regs done)))

  abbrev rest : Leaving → Program
  rest l = if_not_critical r.stack (frame r ∷ []) (answer (change l))

  abbrev after_by : Bool → Result Leaving InterruptKind → Effect Change
  after_by b (Ok l) = asked img (cond b (fault CriticalBlockExit) (answer (change l)))
  after_by b (Err kind) = interrupts kind

  asked_other : (next : ℕ) → asked img (leaves img.stacks img.rows value r next) ≡ after_by critical (look_seen img.stacks (leaving (place r.stack (frame r))))
  asked_other next =
      asked_then img (see (leaving (place r.stack (frame r)))) rest
      ∙ ap (λ (e : Effect Leaving). after_test img e rest) (asked_look img (leaving (place r.stack (frame r))))
      ∙ to_by (look_seen img.stacks (leaving (place r.stack (frame r))))
    where
      to_by : (q : Result Leaving InterruptKind) → after_test img (as_effect q) rest ≡ after_by critical q
      to_by (Ok l) = refl
      to_by (Err kind) = refl

  stops_by : (b : Bool) (q : Result Leaving InterruptKind) (stop : Stop) → ◌≡◌ {A = Result Leaving Stop} (Err stop) (below_found q b) → whole_outcome (after_by b q) ≡ stopped stop
  stops_by b (Err kind) stop e = let s : stop ≡ Interrupt kind = cc in ap (λ (z : Stop). stopped z) (sym s)
  stops_by true (Ok l) stop e = let s : stop ≡ Fault CriticalBlockExit = cc in ap (λ (z : Stop). stopped z) (sym s)
  stops_by false (Ok l) stop e = cc

  goes_by : (b : Bool) (q : Result Leaving InterruptKind) (l : Leaving) → Ok l ≡ below_found q b → after_by b q ≡ gives (change l)
  goes_by b (Err kind) l e = cc
  goes_by true (Ok k) l e = cc
  goes_by false (Ok k) l e = let s : k ≡ l = cc in ap (λ (z : Leaving). gives (change z)) s

  abbrev new_image : Leaving → Image
  new_image l = record img {
    stacks = (h l).stacks;
    rows = (h l).rows;
    regs = set_numbered img.regs p (h l).regs;
    events = closed_from r.stack (frame r) img.events;
  }

  other_changed : (l : Leaving) → changed p (change l) img ≡ new_image l
  other_changed l = by value
    where
      by : (v : Option Word) → changed p (linkage.frame_left r.stack (frame r) own (cut r.stack (frame r) (pushed r.stack (valued v) (registers (frame_left (held img.stacks img.rows r) (valued v) l).regs done)))) img
          ≡ record img {
            stacks = (frame_left (held img.stacks img.rows r) (valued v) l).stacks;
            rows = (frame_left (held img.stacks img.rows r) (valued v) l).rows;
            regs = set_numbered img.regs p (frame_left (held img.stacks img.rows r) (valued v) l).regs;
            events = closed_from r.stack (frame r) img.events;
          }
      by None = closes_as_the_table p own (close_events r.stack (frame r) (cut r.stack (frame r) (registers (frame_left (held img.stacks img.rows r) [] l).regs done))) img
      by (Some w) = closes_as_the_table p own (close_events r.stack (frame r) (cut r.stack (frame r) (pushed r.stack (w ∷ []) (registers (frame_left (held img.stacks img.rows r) (w ∷ []) l).regs done)))) img

  short : (l : Leaving) → IsLinked img.stacks img.rows r → (h l).regs.s ≤ stack_limit
  short l k = by value
    where
      by : (v : Option Word) → (frame_left (held img.stacks img.rows r) (valued v) l).regs.s ≤ stack_limit
      by None = omega (arith, k.above, k.room)
      by (Some w) = omega (arith, k.above, k.room)

  module _ (has : numbered img.regs p ≡ Some r) (next : ℕ) (here : Place) (here_is : here ≡ place r.stack (frame r)) (sliced : List ProcessState) (slice : List Registers)
      (sliced_is : sliced ≡ img.states) (slice_is : slice ≡ img.regs) where
    abbrev found_there : Result Leaving Stop
    found_there = below_found (look_seen img.stacks (leaving here)) (is_critical here.stack (here.at ∷ []) (live_criticals sliced slice))

    there_is : found_there ≡ below_found (look_seen img.stacks (leaving (place r.stack (frame r)))) critical
    there_is =
        ap (λ (b : Bool). below_found (look_seen img.stacks (leaving here)) b) (critical_in here.stack (here.at ∷ []) sliced_is slice_is)
        ∙ ap (λ (f : Place). below_found (look_seen img.stacks (leaving f)) (is_critical f.stack (f.at ∷ []) (live_criticals img.states img.regs))) here_is

    pub other_stops : {A : Type 0} (stop : Stop) → ◌≡◌ {A = Result Leaving Stop} (Err stop) found_there
        → ProgramActs {A = A} p (program_in (leaves img.stacks img.rows value) (numbered img.regs p) next) img img (Err stop)
    other_stops stop e =
        in_process p (leaves img.stacks img.rows value) (numbered img.regs p) r next img img (Err stop) has
        (acts_refused p (leaves img.stacks img.rows value r next) img stop
        (ap whole_outcome (asked_other next) ∙ stops_by critical (look_seen img.stacks (leaving (place r.stack (frame r)))) stop (e ∙ there_is)))

    pub other_goes : (l : Leaving) (stacks : Stacks) (rows : Rows) (regs : List Registers) (events : List Event) (lists : List (List Place)) → Ok l ≡ found_there → IsLinked img.stacks img.rows r
        → HasLeftFrame img.stacks img.rows img.regs p l value (numbered img.regs p) stacks rows regs → events ≡ closed_from here.stack here.at img.events → lists ≡ img.lists
        → ProgramActs p (program_in (leaves img.stacks img.rows value) (numbered img.regs p) next) img
        (record img { stacks = stacks; rows = rows; regs = regs; events = events; lists = lists }) (Ok (tt {0}))
    other_goes l stacks rows regs events lists e linked left events_are lists_are =
        let x = subst (λ (o : Option Registers). HasLeftFrame img.stacks img.rows img.regs p l value o stacks rows regs) has left in
        let y : events ≡ closed_from r.stack (frame r) img.events = events_are ∙ ap (λ (f : Place). closed_from f.stack f.at img.events) here_is in
        let new : new_image l ≡ record img { stacks = stacks; rows = rows; regs = regs; events = events; lists = lists } =
        ap (λ (z : Stacks). record (new_image l) { stacks = z }) (sym x.stacks_are)
        ∙ ap (λ (z : Rows). record (new_image l) { stacks = stacks; rows = z }) (sym x.rows_are)
        ∙ ap (λ (z : List Registers). record (new_image l) { stacks = stacks; rows = rows; regs = z }) (sym x.registers_are)
        ∙ ap (λ (z : List Event). record (new_image l) { stacks = stacks; rows = rows; regs = regs; events = z }) (sym y)
        ∙ ap (λ (z : List (List Place)). record (new_image l) { stacks = stacks; rows = rows; regs = regs; events = events; lists = z }) (sym lists_are) in
        in_process p (leaves img.stacks img.rows value) (numbered img.regs p) r next img (record img { stacks = stacks; rows = rows; regs = regs; events = events; lists = lists }) (Ok (tt {0})) has
        (subst (λ (z : Image). ProgramActs p (leaves img.stacks img.rows value r next) img z (Ok (tt {0}))) new
        (acts_changed p (leaves img.stacks img.rows value r next) (change l) img (new_image l)
        (asked_other next ∙ goes_by critical (look_seen img.stacks (leaving (place r.stack (frame r)))) l (e ∙ there_is)) (other_changed l)
        (subst (λ (n : ℕ). n ≤ stack_limit) (sym (length_set p img.regs r (h l).regs has)) (short l linked))))

pub not_zero : (n k : ℕ) → n ≡ k → (n ≡ 0 → ⊥) → nat_eq k 0 ≡ false
not_zero n k e h = grind (arith, nat_tests, e, h)

-- ---- the base frame

module _ (p : ℕ) (img : Image) (r : Registers) (next : ℕ) where
  abbrev moved : Registers
  moved = record r { place = next }

  abbrev base_cells : List Word
  base_cells = own_cells (held img.stacks img.rows r)

  abbrev base : HeldCore
  base = base_left (held img.stacks img.rows r)

  abbrev events_after : List Event
  events_after = closed_from r.stack 0 img.events

  abbrev base_critical : Bool
  base_critical = is_critical r.stack (0 ∷ []) (live_criticals img.states img.regs)

  abbrev ending : Change
  ending = linkage.frame_left r.stack 0 base_cells (registers moved (caused_by r.task (end_process r.stack done)))

  -- the kernel without the frame's events, with this room
  abbrev shut : ℕ → Events
  shut room = record { events = events_after; lists = img.lists; room = room }

  abbrev ended_image : ℕ → Image
  ended_image room = record img {
    stacks = base.stacks;
    rows = base.rows;
    regs = set_numbered img.regs p moved;
    events = (task_caused r.task (shut room)).events;
    lists = (task_caused r.task (shut room)).lists;
    states = set_numbered (able_again (task_waiters r.task events_after) img.states) p Ended;
    numbers = task_numbers r.task (shut room) img.numbers;
  }

  base_changed : (room : ℕ) → changed p ending img ≡ ended_image room
  base_changed room =
      closes_as_the_table p base_cells (close_events r.stack 0 (registers moved (caused_by r.task (end_process r.stack done)))) img ∙ by r.task
    where
      by : (task : Option Place) → changed p (close_events r.stack 0 (registers moved (caused_by task (end_process r.stack done)))) (record img { rows = base.rows })
          ≡ record img {
            stacks = base.stacks;
            rows = base.rows;
            regs = set_numbered img.regs p moved;
            events = (task_caused task (shut room)).events;
            lists = (task_caused task (shut room)).lists;
            states = set_numbered (able_again (task_waiters task events_after) img.states) p Ended;
            numbers = task_numbers task (shut room) img.numbers;
          }
      by None = refl
      by (Some task) = refl

  module _ (has : numbered img.regs p ≡ Some r) where
    pub base_goes : (sliced : List ProcessState) (slice : List Registers) (stacks : Stacks) (rows : Rows) (regs : List Registers) (room : ℕ) (kernel : Events)
        (states : List ProcessState) (numbers : List ℕ)
        → sliced ≡ img.states → slice ≡ img.regs → false ≡ is_critical r.stack (0 ∷ []) (live_criticals sliced slice) → IsLinked img.stacks img.rows r
        → HasLeftBase img.stacks img.rows img.regs p next (numbered img.regs p) stacks rows regs → kernel ≡ task_caused r.task (shut room)
        → states ≡ set_numbered (able_again (task_waiters r.task events_after) img.states) p Ended → numbers ≡ task_numbers r.task (shut room) img.numbers
        → ProgramActs p (program_in (program_ends img.stacks img.rows) (numbered img.regs p) next) img
        (record img { stacks = stacks; rows = rows; regs = regs; events = kernel.events; lists = kernel.lists; states = states; numbers = numbers }) (Ok (tt {0}))
    base_goes sliced slice stacks rows regs room kernel states numbers sliced_is slice_is e linked left kernel_is states_are numbers_are =
        let free : false ≡ base_critical = e ∙ critical_in r.stack (0 ∷ []) sliced_is slice_is in
        let x = subst (λ (o : Option Registers). HasLeftBase img.stacks img.rows img.regs p next o stacks rows regs) has left in
        let new : ended_image room
        ≡ record img { stacks = stacks; rows = rows; regs = regs; events = kernel.events; lists = kernel.lists; states = states; numbers = numbers } =
        ap (λ (z : Stacks). record (ended_image room) { stacks = z }) (sym x.stacks_are)
        ∙ ap (λ (z : Rows). record (ended_image room) { stacks = stacks; rows = z }) (sym x.rows_are)
        ∙ ap (λ (z : List Registers). record (ended_image room) { stacks = stacks; rows = rows; regs = z }) (sym x.registers_are)
        ∙ ap (λ (z : Events). record (ended_image room) { stacks = stacks; rows = rows; regs = regs; events = z.events; lists = z.lists }) (sym kernel_is)
        ∙ ap (λ (z : List ProcessState). record (ended_image room) { stacks = stacks; rows = rows; regs = regs; events = kernel.events; lists = kernel.lists; states = z })
        (sym states_are)
        ∙ ap (λ (z : List ℕ). record img { stacks = stacks; rows = rows; regs = regs; events = kernel.events; lists = kernel.lists; states = states; numbers = z })
        (sym numbers_are) in
        in_process p (program_ends img.stacks img.rows) (numbered img.regs p) r next img
        (record img { stacks = stacks; rows = rows; regs = regs; events = kernel.events; lists = kernel.lists; states = states; numbers = numbers }) (Ok (tt {0})) has
        (subst (λ (z : Image). ProgramActs p (program_ends img.stacks img.rows r next) img z (Ok (tt {0}))) new
        (acts_changed p (program_ends img.stacks img.rows r next) ending img (ended_image room)
        (ap (λ (b : Bool). asked img (cond b (fault CriticalBlockExit) (answer ending))) (sym free)) (base_changed room)
        (subst (λ (n : ℕ). n ≤ stack_limit) (sym (length_set p img.regs r moved has)) linked.room)))

-- ---- the operators

module _ {A : Type 0} (p : ℕ) (img new : Image) (r : Registers) (has : numbered img.regs p ≡ Some r) (next : ℕ) (res : Result A Stop) where
  pub exit_leaves : nat_eq (frame r) 0 ≡ false → ProgramActs p (program_in (leaves img.stacks img.rows None) (numbered img.regs p) next) img new res
      → ProgramActs p (program_in exit (numbered img.regs p) next) img new res
  exit_leaves e x =
      in_process p exit (numbered img.regs p) r next img new res has
      (acts_as p (exit r next) (leaves img.stacks img.rows None r next) img new res (is_other img r next [] e)
      (subst (λ (o : Option Registers). ProgramActs p (program_in (leaves img.stacks img.rows None) o next) img new res) has x))

module _ (img : Image) (r : Registers) (next : ℕ) where
  abbrev test : Word → Bool
  test x = is_result x && not (nat_eq (frame r) 0)

  abbrev value_next : Word → Program
  value_next x = cond (test x) (leave r next (x ∷ [])) (see invalid)

  returned_is : look_seen img.stacks (returned r) ≡ after_found (look_seen img.stacks (popped r)) (λ (x : Word). look_seen img.stacks (cond (test x) (found x) invalid))
  returned_is = seen_then img.stacks (popped r) (λ (x : Word). cond (test x) (found x) invalid)

  asked_value : asked img (return_value r next) ≡ after_test img (as_effect (look_seen img.stacks (popped r))) value_next
  asked_value = asked_then img (see (popped r)) value_next ∙ ap (λ (e : Effect Word). after_test img e value_next) (asked_look img (popped r))

  no_base : (a b : Bool) → (a && not b) ≡ true → b ≡ false
  no_base true true e = cc
  no_base true false e = refl
  no_base false b e = cc

  value_stops_by : (q : Result Word InterruptKind) (stop : Stop) → ◌≡◌ {A = Result Word Stop} (Err stop) (looked (after_found q (λ (x : Word). look_seen img.stacks (cond (test x) (found x) invalid))))
      → whole_outcome (after_test img (as_effect q) value_next) ≡ stopped stop
  value_stops_by (Err kind) stop e = let s : stop ≡ Interrupt kind = cc in ap (λ (z : Stop). stopped z) (sym s)
  value_stops_by (Ok x) stop e = by (test x) e
    where
      by : (b : Bool) → ◌≡◌ {A = Result Word Stop} (Err stop) (looked (look_seen img.stacks (cond b (found x) invalid)))
          → whole_outcome (asked img (cond b (leave r next (x ∷ [])) (see invalid))) ≡ stopped stop
      by true f = cc
      by false f = let s : stop ≡ Interrupt _ = cc in ap (λ (z : Stop). stopped z) (sym s)

  value_goes_by : (q : Result Word InterruptKind) (w : Word) → Ok w ≡ looked (after_found q (λ (x : Word). look_seen img.stacks (cond (test x) (found x) invalid)))
      → after_test img (as_effect q) value_next ≡ asked img (leaves img.stacks img.rows (Some w) r next)
  value_goes_by (Err kind) w e = cc
  value_goes_by (Ok x) w e = by (test x) refl e
    where
      by : (b : Bool) → test x ≡ b → Ok w ≡ looked (look_seen img.stacks (cond b (found x) invalid))
          → asked img (cond b (leave r next (x ∷ [])) (see invalid)) ≡ asked img (leaves img.stacks img.rows (Some w) r next)
      by true t f =
          let s : x ≡ w = cc in
          is_other img r next (x ∷ []) (no_base (is_result x) (nat_eq (frame r) 0) t) ∙ ap (λ (z : Word). asked img (leaves img.stacks img.rows (Some z) r next)) s
      by false t f = cc

  module _ (p : ℕ) (has : numbered img.regs p ≡ Some r) where
    pub value_stops : {A : Type 0} (stop : Stop) → ◌≡◌ {A = Result Word Stop} (Err stop) (looked (look_seen img.stacks (returned r)))
        → ProgramActs {A = A} p (program_in return_value (numbered img.regs p) next) img img (Err stop)
    value_stops stop e =
        in_process p return_value (numbered img.regs p) r next img img (Err stop) has
        (acts_refused p (return_value r next) img stop (ap whole_outcome asked_value ∙ value_stops_by (look_seen img.stacks (popped r)) stop (e ∙ ap looked returned_is)))

    pub value_goes : {A : Type 0} (new : Image) (res : Result A Stop) (w : Word) → Ok w ≡ looked (look_seen img.stacks (returned r))
        → ProgramActs p (program_in (leaves img.stacks img.rows (Some w)) (numbered img.regs p) next) img new res
        → ProgramActs p (program_in return_value (numbered img.regs p) next) img new res
    value_goes new res w e x =
        in_process p return_value (numbered img.regs p) r next img new res has
        (acts_as p (return_value r next) (leaves img.stacks img.rows (Some w) r next) img new res
        (asked_value ∙ value_goes_by (look_seen img.stacks (popped r)) w (e ∙ ap looked returned_is))
        (subst (λ (o : Option Registers). ProgramActs p (program_in (leaves img.stacks img.rows (Some w)) o next) img new res) has x))

-- ---- the frame of a process among others

module _ (st : Stacks) (rows : Rows) (all : List Registers) (p : ℕ) where
  pub left_frame : (l : Leaving) (value : Option Word) (r : Registers) (stacks : Stacks) (more : Rows) (q : Registers) → IsLinkedIn st rows (numbered all p) → r ≡ get_or all (p - 1) r
      → held stacks more q ≡ frame_left (held st rows r) (valued value) l
      → HasLeftFrame st rows all p l value (numbered all p) stacks more (set all (p - 1) q)
  left_frame l value r stacks more q k e f =
      let there = here st rows all p r k e in
      subst (λ (o : Option Registers). HasLeftFrame st rows all p l value o stacks more (set all (p - 1) q)) (sym there.0) (record {
        stacks_are = ap (λ (h : HeldCore). h.stacks) f;
        rows_are = ap (λ (h : HeldCore). h.rows) f;
        registers_are = set_here all p q there.1 ∙ ap (λ (h : HeldCore). set_numbered all p h.regs) f;
      })

  pub left_base : (next : ℕ) (r : Registers) (stacks : Stacks) (more : Rows) → IsLinkedIn st rows (numbered all p) → r ≡ get_or all (p - 1) r
      → held stacks more r ≡ base_left (held st rows r) → HasLeftBase st rows all p next (numbered all p) stacks more (set all (p - 1) (record r { place = next }))
  left_base next r stacks more k e f =
      let there = here st rows all p r k e in
      subst (λ (o : Option Registers). HasLeftBase st rows all p next o stacks more (set all (p - 1) (record r { place = next }))) (sym there.0) (record {
        stacks_are = ap (λ (h : HeldCore). h.stacks) f;
        rows_are = ap (λ (h : HeldCore). h.rows) f;
        registers_are = set_here all p (record r { place = next }) there.1;
      })
