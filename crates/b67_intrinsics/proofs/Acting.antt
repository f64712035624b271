-- What an intrinsic on an event does, step by step.
use Rattle.std.specs.Result.{IsErrAnd}
use Rattle.std.proofs.Common.{take, cond, Bool, true, false, ◌≡◌, refl, sym, ap, subst, ◌∙◌, ℕ, List, [], ◌∷◌, map, Option, Some, None, Result, Ok, Err, slice_get}
use Rattle.b67_word.specs.declared.Place.{Place}
use Rattle.b67_word.specs.Word.{Word, truth}
use Rattle.b67_control.specs.declared.Mscw.{Mscw}
use Rattle.b67_control.specs.declared.Registers.{Registers}
use Rattle.b67_segment.specs.declared.code.Code.{Code}
use Rattle.b67_table.specs.Arguments.{finished_at, no_such}
use Rattle.b67_table.specs.Effect.{Effect}
use Rattle.b67_table.specs.Image.{Image}
use Rattle.b67_table.specs.Intrinsics.{on_event, tell_event}
use Rattle.b67_table.specs.Outcome.{limited}
use Rattle.b67_table.specs.Program.{event_deed, event_answer, Program, Change, answer, effect_of, does}
use Rattle.b67_table.specs.Table.{stack_length}
use Rattle.b67_table.specs.Writes.{write_made, waiting, told_positions}
use Rattle.b67_table.specs.Writes as writes
use Rattle.b67_deeds.specs.declared.EventTest.{EventTest}
use Rattle.b67_deeds.specs.Deeds.{EventDeed, tests, goes, waits, procures, answers}
use Rattle.b67_events.specs.Events.{Event, Events, took, state_at, position_number_of, position_of}
use Rattle.b67_table.specs.declared.ProcessState.{ProcessState}
use Rattle.b67_table.specs.declared.ProcessState.TheVariants.{WaitsFor, Procures}
use Rattle.b67_reach.specs.declared.Stop.{Stop}
use Rattle.b67_reach.specs.Answers.{ProgramActs}
use Rattle.b67_reach.specs.Woken.{told_numbers}
use Rattle.b67_reach.proofs.Woken.{positions_told}
use Rattle.b67_intrinsics.specs.Called.{process_listed, state_after, arguments, called_in, finished_in, event_tests, event_tests_in, IntrinsicLeads}

-- ---- an intrinsic on an event

on_event_is : (d : EventDeed) (code : Code) (r : Registers) (next : ℕ) (m : Mscw) (words : List Word)
    → on_event d code r next m words ≡ event_tests r m words (λ (at : Place). answer (event_deed d at (finished_at r m [] next)))
on_event_is d code r next m [] = refl
on_event_is d code r next m (w ∷ []) = refl
on_event_is d code r next m (w ∷ v ∷ words) = refl

-- what comes after the tests
abbrev pub acted : EventDeed → Option Registers → Mscw → ℕ → Place → Program
acted d None m next at = no_such
acted d (Some r) m next at = answer (event_deed d at (finished_at r m [] next))

module _ (d : EventDeed) (code : Code) (next : ℕ) (m : Mscw) (p : ℕ) (img : Image) where
  as_tests : (regs : Option Registers) (new : Image) (res : Result (Unit {0}) Stop) → ProgramActs p (event_tests_in regs m img.stacks (acted d regs m next)) img new res
      → ProgramActs p (called_in (on_event d) code regs next m) img new res
  as_tests None new res x = x
  as_tests (Some r) new res x = record {
    outcome = ap (λ (q : Program). limited (stack_length p) (does p q img)) (on_event_is d code r next m (arguments img.stacks r)) ∙ x.outcome;
    stays = x.stays;
  }

  pub event_stops : (regs : Option Registers) (stop : Stop) (res : Result (Unit {0}) Stop) → IntrinsicLeads {A = Place} img (event_tests_in regs m img.stacks) (Err stop) → IsErrAnd res (λ e. e ≡ stop)
      → ProgramActs p (called_in (on_event d) code regs next m) img img res
  event_stops regs stop (Ok a) x i = absurd i
  event_stops regs stop (Err other) x i =
      as_tests regs img (Err other) (subst (λ (s : Stop). ProgramActs {A = Unit {0}} p (event_tests_in regs m img.stacks (acted d regs m next)) img img (Err s)) (sym i)
      (x p (acted d regs m next)))

  -- what is done with the event, and then the end
  pub event_goes : (regs : Option Registers) (at : Place) (new : Image) → IntrinsicLeads img (event_tests_in regs m img.stacks) (Ok at)
      → ProgramActs {A = Unit {0}} p (finished_in regs m [] next) (write_made p (writes.event_deed d at) img) new (Ok tt)
      → ProgramActs {A = Unit {0}} p (called_in (on_event d) code regs next m) img new (Ok tt)
  event_goes None at new leads q = record { outcome = q.outcome; stays = tt }
  event_goes (Some r) at new leads q =
      as_tests (Some r) new (Ok tt) (record {
        outcome = ap (λ (e : Effect Change). limited (stack_length p) (effect_of p img e)) (leads (acted d (Some r) m next)) ∙ q.outcome;
        stays = tt;
      })

  -- the same, where the kernel, the states and the woken numbers afterwards are known
  pub event_ends : (regs : Option Registers) (at : Place) (new : Image) → IntrinsicLeads img (event_tests_in regs m img.stacks) (Ok at)
      → (k : Events) (xs : List ProcessState) (ns : List ℕ) → k.events ≡ (write_made p (writes.event_deed d at) img).events
      → k.lists ≡ (write_made p (writes.event_deed d at) img).lists → xs ≡ (write_made p (writes.event_deed d at) img).states
      → ns ≡ (write_made p (writes.event_deed d at) img).numbers
      → ProgramActs {A = Unit {0}} p (finished_in regs m [] next) (record img { events = k.events; lists = k.lists; states = xs; numbers = ns }) new (Ok tt)
      → ProgramActs {A = Unit {0}} p (called_in (on_event d) code regs next m) img new (Ok tt)
  event_ends regs at new leads k xs ns e l s n q =
      event_goes regs at new leads (subst (λ (i : Image). ProgramActs {A = Unit {0}} p (finished_in regs m [] next) i new (Ok tt)) is q)
    where
      is : record img { events = k.events; lists = k.lists; states = xs; numbers = ns } ≡ write_made p (writes.event_deed d at) img
      is =
          ap (λ (z : List Event). record img { events = z; lists = k.lists; states = xs; numbers = ns }) e
          ∙ ap (λ (z : List (List Place)). record (write_made p (writes.event_deed d at) img) { lists = z; states = xs; numbers = ns }) l
          ∙ ap (λ (z : List ProcessState). record (write_made p (writes.event_deed d at) img) { states = z; numbers = ns }) s
          ∙ ap (λ (z : List ℕ). record (write_made p (writes.event_deed d at) img) { numbers = z }) n

-- the states where a process goes on or waits
pub waits_is : (b : Bool) (at : Place) (p : ℕ) (states : List ProcessState)
    → state_after (took (cond b goes waits)) (WaitsFor at) p states ≡ waiting (cond b goes waits) at p states
waits_is true at p states = refl
waits_is false at p states = refl

pub procures_is : (b : Bool) (at : Place) (p : ℕ) (states : List ProcessState)
    → state_after (took (cond b goes procures)) (Procures at) p states ≡ waiting (cond b goes procures) at p states
procures_is true at p states = refl
procures_is false at p states = refl

-- the woken numbers of those who are released
pub told_is : (at : Place) (lists : List (List Place)) (ps qs positions numbers : List ℕ) → qs ≡ ps → positions ≡ map (λ p. position_number_of (position_of at lists p)) ps
    → told_numbers qs positions numbers ≡ told_positions at lists ps numbers
told_is at lists ps qs positions numbers e f =
    ap (λ (z : List ℕ). told_numbers z positions numbers) e ∙ ap (λ (z : List ℕ). told_numbers ps z numbers) f ∙ positions_told at lists ps numbers

pub first_listed : (xs : List ℕ) → process_listed (slice_get (take 1 xs) 0) ≡ take 1 xs
first_listed [] = refl
first_listed (x ∷ xs) = refl

-- ---- what an event answers

abbrev pub telling : EventTest → Option Registers → Mscw → ℕ → Place → Program
telling t None m next at = no_such
telling t (Some r) m next at = event_answer t at (λ (b : Bool). answer (event_deed (tests t) at (finished_at r m (truth b ∷ []) next)))

tell_event_is : (t : EventTest) (code : Code) (r : Registers) (next : ℕ) (m : Mscw) (words : List Word)
    → tell_event t code r next m words ≡ event_tests r m words (telling t (Some r) m next)
tell_event_is t code r next m [] = refl
tell_event_is t code r next m (w ∷ []) = refl
tell_event_is t code r next m (w ∷ v ∷ words) = refl

module _ (t : EventTest) (code : Code) (next : ℕ) (m : Mscw) (p : ℕ) (img : Image) where
  told_tests : (regs : Option Registers) (new : Image) (res : Result (Unit {0}) Stop) → ProgramActs p (event_tests_in regs m img.stacks (telling t regs m next)) img new res
      → ProgramActs p (called_in (tell_event t) code regs next m) img new res
  told_tests None new res x = x
  told_tests (Some r) new res x = record {
    outcome = ap (λ (q : Program). limited (stack_length p) (does p q img)) (tell_event_is t code r next m (arguments img.stacks r)) ∙ x.outcome;
    stays = x.stays;
  }

  pub tell_stops : (regs : Option Registers) (stop : Stop) (res : Result (Unit {0}) Stop) → IntrinsicLeads {A = Place} img (event_tests_in regs m img.stacks) (Err stop) → IsErrAnd res (λ e. e ≡ stop)
      → ProgramActs p (called_in (tell_event t) code regs next m) img img res
  tell_stops regs stop (Ok a) x i = absurd i
  tell_stops regs stop (Err other) x i =
      told_tests regs img (Err other) (subst (λ (s : Stop). ProgramActs {A = Unit {0}} p (event_tests_in regs m img.stacks (telling t regs m next)) img img (Err s)) (sym i)
      (x p (telling t regs m next)))

  pub tell_goes : (regs : Option Registers) (at : Place) (b : Bool) (w : Word) (mid new : Image) → b ≡ answers t (state_at at img.events) → w ≡ truth b
      → mid ≡ write_made p (writes.event_deed (tests t) at) img → IntrinsicLeads img (event_tests_in regs m img.stacks) (Ok at)
      → ProgramActs {A = Unit {0}} p (finished_in regs m (w ∷ []) next) mid new (Ok tt) → ProgramActs {A = Unit {0}} p (called_in (tell_event t) code regs next m) img new (Ok tt)
  tell_goes None at b w mid new h k i x q = record { outcome = q.outcome; stays = tt }
  tell_goes (Some r) at b w mid new h k i x q =
      told_tests (Some r) new (Ok tt) (record {
        outcome = ap (λ (e : Effect Change). limited (stack_length p) (effect_of p img e)) (x (telling t (Some r) m next))
            ∙ ap (λ (v : Word). limited (stack_length p) (does p (answer (finished_at r m (v ∷ []) next)) (write_made p (writes.event_deed (tests t) at) img)))
            (sym (k ∙ ap truth h))
            ∙ ap (λ (z : Image). limited (stack_length p) (does p (answer (finished_at r m (w ∷ []) next)) z)) (sym i) ∙ q.outcome;
        stays = tt;
      })
