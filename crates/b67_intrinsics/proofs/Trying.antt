-- What an intrinsic that makes something does, step by step.
use Rattle.std.specs.Result.{IsErrAnd}
use Rattle.std.proofs.Common.{◌≡◌, refl, sym, ap, subst, ◌∙◌, ℕ, List, [], ◌∷◌, Option, Some, None, Result, Ok, Err}
use Rattle.b67_word.specs.declared.Place.{Place}
use Rattle.b67_word.specs.Word.{Word}
use Rattle.b67_control.specs.declared.Mscw.{Mscw}
use Rattle.b67_control.specs.declared.Registers.{Registers}
use Rattle.b67_control.specs.Control.{event_word}
use Rattle.b67_segment.specs.declared.code.Code.{Code}
use Rattle.b67_table.specs.Arguments.{finished_at, no_such}
use Rattle.b67_table.specs.Effect.{Effect}
use Rattle.b67_table.specs.Image.{Image}
use Rattle.b67_table.specs.Intrinsics.{make_event}
use Rattle.b67_table.specs.Look.{Look, look_seen}
use Rattle.b67_table.specs.Outcome.{gives, limited}
use Rattle.b67_table.specs.Program.{Test, Program, Change, asked, answer, effect_of, open_event, see, ◌>>=◌}
use Rattle.b67_table.specs.Table.{stack_length}
use Rattle.b67_table.specs.Writes as writes
use Rattle.b67_table.specs.Writes.{write_made}
use Rattle.b67_reach.specs.declared.Stop.{Stop}
use Rattle.b67_reach.specs.Answers.{ProgramActs, outcome_answered, looked, stopped, whole_outcome}
use Rattle.b67_reach.proofs.Looking.{asked_on, tells_look, acts_then, acts_stop}
use Rattle.b67_intrinsics.specs.declared.hindrance.Hindrance.{Hindrance}
use Rattle.b67_intrinsics.specs.declared.hindrance.Hindrance.TheVariants.{Stopped, NoMemory}
use Rattle.b67_intrinsics.specs.Called.{arguments, called_in, finished_in, mark_tests, mark_tests_in, IntrinsicLeads, MayLead, ImageIsLeft, Tries}

-- ---- tests, and what comes after them

-- a program that begins with some tests goes on where they lead
pub leads_on : {A : Type 0} (p : ℕ) (img : Image) (program : Program) (tests : (A → Program) → Program) (after : A → Program) (a : A) (new : Image) (res : Result (Unit {0}) Stop)
    → asked img program ≡ asked img (tests after) → IntrinsicLeads img tests (Ok a) → ProgramActs p (after a) img new res → ProgramActs p program img new res
leads_on p img program tests after a new res is x q = record {
  outcome = ap (λ (e : Effect Change). limited (stack_length p) (effect_of p img e)) (is ∙ x after) ∙ q.outcome;
  stays = q.stays;
}

-- or it stops with them
pub leads_off : {A : Type 0} (p : ℕ) (img : Image) (program : Program) (tests : (A → Program) → Program) (after : A → Program) (stop : Stop)
    → asked img program ≡ asked img (tests after) → IntrinsicLeads img tests (Err stop) → ProgramActs {A = Unit {0}} p program img img (Err stop)
leads_off p img program tests after stop is x =
    let q = x p after in
    record {
      outcome = ap (λ (e : Effect Change). limited (stack_length p) (effect_of p img e)) is ∙ q.outcome;
      stays = refl;
    }

-- the exit of a question mark
pub tries_off : (p : ℕ) (img : Image) (program : Program) (res : Result (Unit {0}) Hindrance) (stop : Stop) → IsErrAnd res (λ h. h ≡ Stopped stop)
    → ProgramActs {A = Unit {0}} p program img img (Err stop) → Tries p program img img res
tries_off p img program (Ok a) stop e x = absurd e
tries_off p img program (Err h) stop e x = subst (λ (i : Hindrance). Tries p program img img (Err i)) (sym e) x

pub left_alone : (old new : Image) → new ≡ old → ImageIsLeft old new
left_alone old new e = subst (λ (img : Image). ImageIsLeft old img) (sym e) (record { rows = λ n. refl; others = refl })

pub tries_exit : {A : Type 0} (p : ℕ) (img : Image) (program : Program) (tests : (A → Program) → Program) (after : A → Program) (res : Result (Unit {0}) Hindrance) (h : Hindrance)
    → asked img program ≡ asked img (tests after) → MayLead {A = A} img tests (Err h) → IsErrAnd res (λ e. e ≡ h) → Tries p program img img res
tries_exit p img program tests after res (Stopped stop) is x i = tries_off p img program res stop i (leads_off p img program tests after stop is x)
tries_exit p img program tests after (Ok a) NoMemory is x i = absurd i
tries_exit p img program tests after (Err h) NoMemory is x i =
    subst (λ (k : Hindrance). Tries p program img img (Err k)) (sym i) (left_alone img img refl)

-- ---- a test before other tests

pub leads_then : {A B : Type 0} (img : Image) (t : Test A) (rest : A → (B → Program) → Program) (a : A) (res : Result B Stop) → whole_outcome (asked img t) ≡ gives a
    → IntrinsicLeads img (rest a) res → IntrinsicLeads img (λ (next : B → Program). t >>= (λ (x : A). rest x next)) res
leads_then img t rest a (Ok b) e x = λ next. asked_on img t (λ y. rest y next) a e ∙ x next
leads_then img t rest a (Err stop) e x = λ p next. acts_then p t (λ y. rest y next) a img img (Err stop) e (x p next)

pub leads_not : {A B : Type 0} (img : Image) (t : Test A) (rest : A → (B → Program) → Program) (stop : Stop) → whole_outcome (asked img t) ≡ stopped stop
    → IntrinsicLeads {A = B} img (λ (next : B → Program). t >>= (λ (x : A). rest x next)) (Err stop)
leads_not img t rest stop e = λ p next. acts_stop p t (λ y. rest y next) stop img img e refl

pub told_look : {A : Type 0} (img : Image) (l : Look A) (r : Result A Stop) → r ≡ looked (look_seen img.stacks l) → whole_outcome (asked img (see l)) ≡ outcome_answered r
told_look img l r e = (tells_look l img.stacks img.rows r e).told img refl refl

-- ---- EVENT

-- what comes after the tests
abbrev pub opening : Option Registers → Mscw → ℕ → Place → Program
opening None m next at = no_such
opening (Some r) m next at = answer (open_event at (finished_at r m (event_word (record {}) ∷ []) next))

event_made : (img : Image) (code : Code) (next : ℕ) (m : Mscw) (r : Registers) (words : List Word)
    → asked img (make_event code r next m words) ≡ asked img (mark_tests r m words (opening (Some r) m next))
event_made img code next m r [] = refl
event_made img code next m r (w ∷ words) = refl

pub make_event_is : (img : Image) (code : Code) (next : ℕ) (m : Mscw) (regs : Option Registers)
    → asked img (called_in make_event code regs next m) ≡ asked img (mark_tests_in regs m img.stacks (opening regs m next))
make_event_is img code next m None = refl
make_event_is img code next m (Some r) = event_made img code next m r (arguments img.stacks r)

-- an event is opened, and then the end
pub opened_then : (p : ℕ) (img new : Image) (m : Mscw) (next : ℕ) (at : Place) (regs : Option Registers)
    → ProgramActs {A = Unit {0}} p (finished_in regs m (event_word (record {}) ∷ []) next) (write_made p (writes.open_event at) img) new (Ok tt)
    → ProgramActs {A = Unit {0}} p (opening regs m next at) img new (Ok tt)
opened_then p img new m next at None q = record { outcome = q.outcome; stays = tt }
opened_then p img new m next at (Some r) q = record { outcome = q.outcome; stays = tt }
