-- What all actions share: the choice of the world, the limit, and the picture after an action.
use Rattle.std.proofs.Common.{◌≡◌, ◌≢◌, ◌⊎◌, inl, inr, refl, sym, ap, ◌∙◌, subst, ℕ, suc, ◌<◌, ◌≤◌, List, ◌∷◌, length, Option, Some, None, Bool, false, arith, true}
use Rattle.b67_list.proofs.Numbered.{numbered_set}
use Rattle.b67_scenes.proofs.Prelude.{nat_tests, if◌then◌else◌, nat_le, numbered, set_numbered, IsListed, PProgram, Scopes, scopes_of, ask, list_in, Part, Process, lives, WorldFault, World, process_at, or_no_process, IsOk, IsWholeInstance, Place, Registers, Code, stack_at, stack_limit, waiters_at, Image, is_live, limited, limit, stack_length, ProcessState, Texts, Core, HasCore, length_set_numbered, some_same, weight, parts_weight, same_or_not, numbered_other, arrays_unchanged, events_unchanged, HasFacts, facts_of, keeps_same, Layout, ArraysAre, EventsAre, failure_of, Living, Pictured, living, PicturesBy, StateIs, WaitsAre}
use Rattle.b67_num.specs.declared.FaultKind.{FaultKind}
use Rattle.algol_meaning.specs.Choice.{choice, choice_in, choice_of}
use Rattle.b67_table.specs.Effect as effects
use Rattle.b67_table.specs.Outcome.{gives, faults}
use Rattle.b67_table.specs.Table.{table, raw, length_in}
use Rattle.b67_table.specs.Ending.{failed}
use Rattle.b67_rows.proofs.StoreRow.{most_is}
use Rattle.b67_scenes.proofs.Ancestors.{all_laid}
use Rattle.b67_scenes.proofs.Kept.{LeavesAlone, AreAlike, alike_by, pictured_alike}
use Rattle.b67_scenes.proofs.Waiting.{still_awaiting, waits_kept, waits_still}
use Rattle.b67_scenes.proofs.Tasks.{events_same}

-- ---- the table, from the row

pub gives_within : (code : Code) (img after : Image) (p : ℕ) (r : Registers) → raw code img p ≡ effects.gives after → numbered after.regs p ≡ Some r → r.s ≤ stack_limit → table code img p ≡ gives after
unfolding table
gives_within code img after p r is has small =
    ap (limited (stack_length p)) is
    ∙ ap (λ (b : Bool). if b then gives after else limit) (ap (λ (o : Option Registers). nat_le (length_in o) stack_limit) has ∙ most_is r.s stack_limit small)

not_most : (m n : ℕ) → n < m → nat_le m n ≡ false
not_most m n h = grind (arith, nat_tests)

-- a stack that has become too long
pub limit_beyond : (code : Code) (img after : Image) (p : ℕ) (r : Registers) → raw code img p ≡ effects.gives after → numbered after.regs p ≡ Some r → stack_limit < r.s → table code img p ≡ limit
unfolding table
limit_beyond code img after p r is has long =
    ap (limited (stack_length p)) is
    ∙ ap (λ (b : Bool). if b then gives after else limit) (ap (λ (o : Option Registers). nat_le (length_in o) stack_limit) has ∙ not_most r.s stack_limit long)

pub faults_so : (code : Code) (img : Image) (p : ℕ) (kind : FaultKind) → raw code img p ≡ effects.faults kind → table code img p ≡ faults kind
unfolding table
faults_so code img p kind is = ap (limited (stack_length p)) is

-- who lives has a state
pub state_there : (o : Option ProcessState) → is_live o ≡ true → (state : ProcessState) × (o ≡ Some state)
state_there None live = cc
state_there (Some state) live = (state, refl)

-- ---- the choice

pub process_is : (w : World) (p : ℕ) (q : Process) → numbered w.processes p ≡ Some q → process_at w p ≡ q
process_is w p q at = ap or_no_process at

pub choice_is : (sc : Scopes) (w : World) (p : ℕ) (q : Process) (part : Part) (outer : List Part) → numbered w.processes p ≡ Some q → q.todo ≡ part ∷ outer →
    choice sc w p ≡ choice_of sc w p q part outer (ask part.rest)
unfolding choice
choice_is sc w p q part outer at todo =
    ap (λ (o : Process). choice_in sc w p o o.todo) (process_is w p q at)
    ∙ ap (λ (t : List Part). choice_in sc w p q t) todo

-- the weight of a process, by its parts
pub weight_of : (tree : PProgram) (w : World) (p : ℕ) (q : Process) (parts : List Part) → numbered w.processes p ≡ Some q → q.todo ≡ parts → weight tree w p ≡ parts_weight tree w parts
weight_of tree w p q parts at todo = ap (λ (o : Process). parts_weight tree w o.todo) (process_is w p q at) ∙ ap (parts_weight tree w) todo

-- ---- the picture after an action

module _ (tree : PProgram) (code : Code) (texts : Texts) (w : World) (lay : Layout) (img : Image) (by : PicturesBy tree code texts w lay img) (p : ℕ) (q : Process)
    (at : numbered w.processes p ≡ Some q) where
  -- process p has come to this state in an image in which each other process is pictured, and is pictured there
  pub comes_by : (w' : World) (lay' : Layout) (img' : Image) (q' : Process) → w'.processes ≡ set_numbered w.processes p q' → length lay'.places ≡ length w'.instances → ArraysAre (scopes_of tree) w' lay' img'.rows →
      EventsAre (scopes_of tree) w' lay' img'.events → WaitsAre (scopes_of tree) w' lay' img' →
      img'.output ≡ w'.output → w'.fault ≡ w.fault → img'.fault ≡ img.fault → img'.started ≡ img.started → length img'.regs ≡ length img.regs → length img'.states ≡ length img.states → stack_at img'.stacks 0 ≡ stack_at img.stacks 0 →
      ((r : ℕ) (o : Process) → r ≢ p → numbered w.processes r ≡ Some o → numbered w'.processes r ≡ Some o → Pictured tree code texts w lay img r o → Pictured tree code texts w' lay' img' r o) →
      Pictured tree code texts w' lay' img' p q' → PicturesBy tree code texts w' lay' img'
  comes_by w' lay' img' q' processes laid arrays events waits output world_fault fault started regs many system others own =
      let same_number : length w'.processes ≡ length w.processes = ap length processes ∙ length_set_numbered w.processes p q' in
      record {
        laid = laid;
        arrays = arrays;
        events = events;
        waits = waits;
        output = output;
        fault = fault ∙ by.fault ∙ ap failure_of (sym world_fault);
        started = started ∙ by.started ∙ sym same_number;
        counted = regs ∙ by.counted ∙ sym started;
        few = omega (arith, same_number, by.few);
        states = many ∙ by.states ∙ sym same_number;
        system = system ∙ by.system;
        each = λ r o e. by_number r o (sym (ap (λ (qs : List Process). numbered qs r) processes) ∙ e) e (same_or_not r p);
      }
    where
      by_number : (r : ℕ) (o : Process) → numbered (set_numbered w.processes p q') r ≡ Some o → numbered w'.processes r ≡ Some o → (r ≡ p) ⊎ (r ≢ p) → Pictured tree code texts w' lay' img' r o
      by_number r o e e' (inl same) =
          let is : q' ≡ o =
          some_same (sym (numbered_set w.processes p q q' at) ∙ ap (λ (n : ℕ). numbered (set_numbered w.processes p q') n) (sym same) ∙ e) in
          subst (λ (x : Process). Pictured tree code texts w' lay' img' r x) is
          (subst (λ (n : ℕ). Pictured tree code texts w' lay' img' n q') (sym same) own)
      by_number r o e e' (inr other) =
          let before : numbered w.processes r ≡ Some o = sym (numbered_other w.processes p r q' (λ (same : p ≡ r). other (sym same))) ∙ e in
          others r o other before e' (by.each r o before)

  -- .. in which each other process has its core
  pub comes_to : (w' : World) (lay' : Layout) (img' : Image) (q' : Process) → w'.processes ≡ set_numbered w.processes p q' → length lay'.places ≡ length w'.instances → ArraysAre (scopes_of tree) w' lay' img'.rows →
      EventsAre (scopes_of tree) w' lay' img'.events → WaitsAre (scopes_of tree) w' lay' img' →
      ((r : ℕ) → r ≢ p → AreAlike (scopes_of tree) w w' lay lay' r) → img'.output ≡ w'.output → w'.fault ≡ w.fault → img'.fault ≡ img.fault → img'.started ≡ img.started → length img'.regs ≡ length img.regs → length img'.states ≡ length img.states →
      ((r : ℕ) → r ≢ p → numbered img'.states r ≡ numbered img.states r) → stack_at img'.stacks 0 ≡ stack_at img.stacks 0 →
      ((r : ℕ) (core : Core) → r ≢ p → HasCore img r core → HasCore img' r core) → Pictured tree code texts w' lay' img' p q' → PicturesBy tree code texts w' lay' img'
  comes_to w' lay' img' q' processes laid arrays events waits alike output world_fault fault started regs many states system keeps own =
      comes_by w' lay' img' q' processes laid arrays events waits output world_fault fault started regs many system
      (λ r o other before after pictured.
      pictured_alike tree code texts w w' lay lay' r (alike r other) img img' o before (process_is w' r o after) (states r other) (λ core has. keeps r core other has) pictured) own

  -- it goes on, and stands for what it has still to do
  pub goes_on_so : (w' : World) (lay' : Layout) (img' : Image) (q' : Process) → w'.processes ≡ set_numbered w.processes p q' → lives q'.state ≡ true → length lay'.places ≡ length w'.instances → ArraysAre (scopes_of tree) w' lay' img'.rows →
      EventsAre (scopes_of tree) w' lay' img'.events → WaitsAre (scopes_of tree) w' lay' img' →
      ((r : ℕ) → r ≢ p → AreAlike (scopes_of tree) w w' lay lay' r) → img'.output ≡ w'.output → w'.fault ≡ w.fault → img'.fault ≡ img.fault → img'.started ≡ img.started → length img'.regs ≡ length img.regs → img'.states ≡ img.states →
      stack_at img'.stacks 0 ≡ stack_at img.stacks 0 → StateIs (scopes_of tree) w' lay' q'.state (numbered img.states p) → ((r : ℕ) (core : Core) → r ≢ p → HasCore img r core → HasCore img' r core) →
      Living tree code texts w' lay' img' p q' → PicturesBy tree code texts w' lay' img'
  goes_on_so w' lay' img' q' processes able_is laid arrays events waits alike output world_fault fault started regs states system able_p keeps l =
      comes_to w' lay' img' q' processes laid arrays events waits alike output world_fault fault started regs (ap length states) (λ r other. ap (λ (ss : List ProcessState). numbered ss r) states) system keeps
      (living able_is (subst (λ (ss : List ProcessState). StateIs (scopes_of tree) w' lay' q'.state (numbered ss p)) (sym states) able_p) l)

  -- .. where it waits for the same as before
  pub goes_on : (w' : World) (lay' : Layout) (img' : Image) (q' : Process) → w'.processes ≡ set_numbered w.processes p q' → lives q'.state ≡ true → length lay'.places ≡ length w'.instances → ArraysAre (scopes_of tree) w' lay' img'.rows →
      EventsAre (scopes_of tree) w' lay' img'.events → list_in q'.state ≡ list_in q.state → q'.woken ≡ q.woken → img'.lists ≡ img.lists → img'.numbers ≡ img.numbers →
      ((r : ℕ) (there : Place) → IsListed (waiters_at there img'.events) r → IsListed (waiters_at there img.events) r) →
      ((r : ℕ) → r ≢ p → AreAlike (scopes_of tree) w w' lay lay' r) → img'.output ≡ w'.output → w'.fault ≡ w.fault → img'.fault ≡ img.fault → img'.started ≡ img.started → length img'.regs ≡ length img.regs → img'.states ≡ img.states →
      stack_at img'.stacks 0 ≡ stack_at img.stacks 0 → StateIs (scopes_of tree) w' lay' q'.state (numbered img.states p) → ((r : ℕ) (core : Core) → r ≢ p → HasCore img r core → HasCore img' r core) →
      Living tree code texts w' lay' img' p q' → PicturesBy tree code texts w' lay' img'
  goes_on w' lay' img' q' processes able_is laid arrays events list number lists numbers fewer alike output world_fault fault started regs states system able_p keeps l =
      goes_on_so w' lay' img' q' processes able_is laid arrays events
      (waits_still (scopes_of tree) w w' lay lay' beside.events beside.alone.on.places img img' by.waits p q q' at processes list number lists numbers (still_awaiting img img' by.waits.awaiting fewer states lists)) alike
      output world_fault fault started regs states system able_p keeps l
    where
      -- what is so of another process is so of all
      beside : AreAlike (scopes_of tree) w w' lay lay' (suc p)
      beside = alike (suc p) (λ (e : suc p ≡ p). absurd (omega (arith, e)))

  -- a fault leaves all that stands, and what others may look at
  untouched : IsOk (scopes_of tree) IsWholeInstance w → (fault : Option WorldFault) (r : ℕ) → LeavesAlone (scopes_of tree) w (record w { fault = fault }) lay lay r
  untouched ok fault r =
      let facts : HasFacts w = facts_of (scopes_of tree) w ok in
      record {
        laid = all_laid w lay facts by.laid;
        on = record {
          before = facts;
          after = record { nobody = facts.nobody; there = facts.there; stands = facts.stands; parents = facts.parents; cells = facts.cells; on_path = facts.on_path };
          keeps = λ j st later. keeps_same (scopes_of tree) w (record w { fault = fault }) lay lay j refl refl;
          places = λ j f is. is;
          paths = λ a b st later path. path;
        };
        depends = λ i o older is newest free. free;
        lows = λ i x is own stands l. record { instances = l.instances; parts = l.parts; tasks = l.tasks };
      }

  -- a fault changes nothing else
  pub faulted : IsOk (scopes_of tree) IsWholeInstance w → (kind : FaultKind) → PicturesBy tree code texts (record w { fault = Some (record { kind = kind; process = p }) }) lay (failed img p kind)
  unfolding failed
  faulted ok kind =
      record {
        laid = by.laid;
        arrays = arrays_unchanged (scopes_of tree) w (record w { fault = Some (record { kind = kind; process = p }) }) lay img.rows refl by.arrays;
        events = events_unchanged (scopes_of tree) w (record w { fault = Some (record { kind = kind; process = p }) }) lay img.events refl by.events;
        waits = waits_kept (scopes_of tree) w (record w { fault = Some (record { kind = kind; process = p }) }) lay lay (λ j. events_same w (record w { fault = Some (record { kind = kind; process = p }) }) j refl) (λ j f there. there) img (failed img p kind)
            by.waits by.waits.numbers (λ r. (refl, refl)) refl (λ r. refl) by.waits.awaiting;
        output = by.output;
        fault = refl;
        started = by.started;
        counted = by.counted;
        few = by.few;
        states = by.states;
        system = by.system;
        each = λ r o e. pictured_alike tree code texts w (record w { fault = Some (record { kind = kind; process = p }) }) lay lay r
            (alike_by (scopes_of tree) w (record w { fault = Some (record { kind = kind; process = p }) }) lay r (untouched ok (Some (record { kind = kind; process = p })) r) refl) img (failed img p kind) o e (process_is w r o e) refl
            (λ core has. record { live = has.live; registers = has.registers; own = has.own; stack = has.stack; is = has.is }) (by.each r o e);
      }
