-- What ENTR does, step by step.
use Rattle.std.proofs.Common.{◌≡◌, refl, sym, ap, subst, ◌∙◌, ℕ, Bool, true, false, cond, Option, Some, None, Result, Ok, Err}
use Rattle.b67_control.specs.declared.Registers.{Registers}
use Rattle.b67_control.specs.declared.Mscw.{Mscw}
use Rattle.b67_ops.specs.declared.intrinsic.Intrinsic.{Intrinsic}
use Rattle.b67_segment.specs.declared.code.Code.{Code}
use Rattle.b67_table.specs.Image.{Image}
use Rattle.b67_table.specs.Intrinsics.{intrinsic_row, select}
use Rattle.b67_table.specs.Look.{look_seen}
use Rattle.b67_table.specs.Names.{intrinsic_numbered}
use Rattle.b67_table.specs.Outcome.{limited}
use Rattle.b67_table.specs.Program.{Program, see, ◌>>=◌, does, effect_of}
use Rattle.b67_table.specs.Rows.{enter}
use Rattle.b67_table.specs.Table.{stack_length}
use Rattle.b67_operators.specs.declared.calling.Called.{Called}
use Rattle.b67_operators.specs.Entries.{procedure_called, enter_called}
use Rattle.b67_operators.specs.Leaves.{program_in}
use Rattle.b67_operators.proofs.Choices.{enters_what_it_calls}
use Rattle.b67_operators.proofs.Leaves.{in_process}
use Rattle.b67_intrinsics.specs.declared.hindrance.Hindrance.{Hindrance}
use Rattle.b67_intrinsics.specs.declared.hindrance.Hindrance.TheVariants.{Stopped, NoMemory}
use Rattle.b67_intrinsics.specs.Called.{called_in, Tries}
use Rattle.b67_reach.specs.declared.Stop.{Stop}
use Rattle.b67_reach.specs.Answers.{looked, ProgramActs}
use Rattle.b67_reach.proofs.Looking.{tells_look, asked_on, acts_stop}
use Rattle.b67_action.specs.Acting.{hindered, selects}
use Rattle.b67_action.specs.Among.{entry_program}

-- ---- answers that no memory hinders, and those that it may

pub tries_plainly : (p : ℕ) (program : Program) (old new : Image) (res : Result (Unit {0}) Stop) → ProgramActs p program old new res → Tries p program old new (hindered res)
tries_plainly p program old new (Ok u) x = x
tries_plainly p program old new (Err stop) x = x

tries_as : (p : ℕ) (a b : Program) (img new : Image) (res : Result (Unit {0}) Hindrance) → does p a img ≡ does p b img → Tries p b img new res → Tries p a img new res
tries_as p a b img new (Ok u) e x = record { outcome = ap (limited (stack_length p)) e ∙ x.outcome; stays = x.stays }
tries_as p a b img new (Err (Stopped stop)) e x = record { outcome = ap (limited (stack_length p)) e ∙ x.outcome; stays = x.stays }
tries_as p a b img new (Err NoMemory) e x = x

-- ---- one intrinsic

pub select_is : (code : Code) (m : Mscw) (o : Option Registers) (next : ℕ) → program_in (selects code m) o next ≡ called_in select code o next m
select_is code m None next = refl
select_is code m (Some r) next = refl

-- ---- what is called

abbrev pub numbers : Called → Option Intrinsic
numbers c = intrinsic_numbered c.pcw.number

module _ (p : ℕ) (code : Code) (img : Image) (r : Registers) (next : ℕ) (o : Option Registers) (has : o ≡ Some r) where
  pub enter_stops : (stop : Stop) → ◌≡◌ {A = Result Called Stop} (Err stop) (looked (look_seen img.stacks (procedure_called r)))
      → Tries p (program_in (enter code) o next) img img (Err (Stopped stop))
  enter_stops stop e =
      in_process p (enter code) o r next img img (Err stop) has
      (tries_as p (enter code r next) (see (procedure_called r) >>= enter_called code r next) img img (Err (Stopped stop)) (enters_what_it_calls code r next p img)
      (acts_stop p (see (procedure_called r)) (enter_called code r next) stop img img ((tells_look (procedure_called r) img.stacks img.rows (Err stop) e).told img refl refl) refl))

  module _ (c : Called) (e : Ok c ≡ looked (look_seen img.stacks (procedure_called r))) where
    pub does_called : does p (enter code r next) img ≡ does p (enter_called code r next c) img
    does_called =
        enters_what_it_calls code r next p img
        ∙ ap (effect_of p img) (asked_on img (see (procedure_called r)) (enter_called code r next) c ((tells_look (procedure_called r) img.stacks img.rows (Ok c) e).told img refl refl))

    abbrev chosen : Bool → Program
    chosen b = cond b (called_in (intrinsic_row (numbers c)) code (Some r) next c.mark) (entry_program c r next)

    in_entered : (new : Image) (res : Result (Unit {0}) Hindrance) → Tries p (enter code r next) img new res → Tries p (program_in (enter code) o next) img new res
    in_entered new res x = subst (λ (z : Option Registers). Tries p (program_in (enter code) z next) img new res) (sym has) x

    pub enter_calls : (new : Image) (res : Result (Unit {0}) Hindrance) → true ≡ c.pcw.intrinsic → Tries p (called_in (intrinsic_row (numbers c)) code o next c.mark) img new res
        → Tries p (program_in (enter code) o next) img new res
    enter_calls new res t x =
        in_entered new res
        (tries_as p (enter code r next) (called_in (intrinsic_row (numbers c)) code (Some r) next c.mark) img new res
        (does_called ∙ ap (λ (b : Bool). does p (chosen b) img) (sym t))
        (subst (λ (z : Option Registers). Tries p (called_in (intrinsic_row (numbers c)) code z next c.mark) img new res) has x))

    pub enter_enters : (new : Image) (res : Result (Unit {0}) Hindrance) → false ≡ c.pcw.intrinsic → Tries p (program_in (entry_program c) o next) img new res
        → Tries p (program_in (enter code) o next) img new res
    enter_enters new res t x =
        in_entered new res
        (tries_as p (enter code r next) (entry_program c r next) img new res
        (does_called ∙ ap (λ (b : Bool). does p (chosen b) img) (sym t))
        (subst (λ (z : Option Registers). Tries p (program_in (entry_program c) z next) img new res) has x))

-- ---- memory

pub never_hindered : (res : Result (Unit {0}) Stop) → hindered res ≡ Err NoMemory → ⊥
never_hindered (Ok u) e = cc
never_hindered (Err stop) e = cc
