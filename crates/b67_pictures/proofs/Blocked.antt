-- A block or a procedure on whose instance a process depends is left: a fault, in the source and on the machine.
use Rattle.std.proofs.Common.{◌≡◌, inl, refl, sym, ap, ◌∙◌, subst, ℕ, [], ◌∷◌, length, Some, None, Bool, true, false, Ok}
use Rattle.b67_pictures.proofs.Prelude.{list_any, if◌then◌else◌, ◌||◌, FaultKind, Fault, PProgram, Scopes, scopes_of, Ask, leaves, ask, Choice, choice, choice_of, left_with, left_or_ended, fails, some_depends, is_evaluation, Answer, done, Operator, Code, same_place, place, failed, is_critical, frame, live_criticals, operator_at, Texts, ActionAt, at_operator, fault_not_plain, action_is, owned_frame, operator_there, frame_is, Actor, actor_of, OutmostActor, faults_so, choice_is, faulted, text_in, level_in, context_in, most_in, Pictures, Does, failed_by}
use Rattle.b67_num.specs.declared.FaultKind.TheVariants as fault
use Rattle.b67_ops.specs.declared.Operator.TheVariants as ops
use Rattle.b67_ops.specs.declared.PlainKind.TheVariants as kinds
use Rattle.b67_table.specs.Effect as effects
use Rattle.b67_table.specs.Outcome as outcomes
use Rattle.b67_table.specs.Table.{table, raw}
use Rattle.b67_frames.proofs.BlockedRow.{end_blocked}
use Rattle.b67_scenes.proofs.Dependents.{dependents_agree}

pub or_false : (b : Bool) → (b || false) ≡ b
or_false true = refl
or_false false = refl

-- an operator that faults where the source does
module _ (tree : PProgram) (code : Code) (texts : Texts) (actor : Actor tree code texts) where
  open actor use {w, lay, img, p, q, core, s}

  module _ (kind : FaultKind)
      (chosen : choice (scopes_of tree) w p ≡ record { action = Fault; world = record w { fault = Some (record { kind = kind; process = p }) }; released = []; started = None }) where
    pub faulting : (op : Operator) (next : ℕ) → operator_at code core.registers ≡ Ok (op, next) → raw code img p ≡ effects.faults kind → Does tree code texts w img p
    faulting op next there raw_is =
        failed_by kind (fault_not_plain code op (at_operator s.has there) kind table_is) table_is
        (action_is code op (at_operator s.has there) (outcomes.faults kind) table_is ∙ ap (λ (c : Choice). Some c.action) (sym chosen))
        (subst (λ (c : Choice). Pictures tree code texts c.world (failed img p kind)) (sym chosen) (lay, faulted tree code texts w lay img s.by p q s.at s.ok kind))
      where
        table_is : table code img p ≡ outcomes.faults kind
        table_is = faults_so code img p kind raw_is

module _ (tree : PProgram) (code : Code) (texts : Texts) (actor : Actor tree code texts) where
  open actor use {w, lay, img, p, q, part, outer, core, s}

  module _ (owns : is_evaluation part.purpose ≡ false) where
    abbrev sc : Scopes
    sc = scopes_of tree

    -- its frame is a critical one where a process depends on its instance
    pub critical_frame : is_critical core.registers.stack (length s.stands.frame.lower ∷ []) (live_criticals img.states img.regs) ≡ some_depends w.processes part.instance
    critical_frame =
        ap (λ (n : ℕ). is_critical n (length s.stands.frame.lower ∷ []) (live_criticals img.states img.regs)) s.has.own
        ∙ or_false (list_any (same_place (place p (length s.stands.frame.lower))) (live_criticals img.states img.regs))
        ∙ sym (dependents_agree tree code texts w lay img s.by s.ok p q s.at part outer s.todo core.below s.stands.frame s.around part.instance (inl (owns, refl)) (place p (length s.stands.frame.lower))
        (owned_frame tree code texts w lay p part outer core.below s.stands.frame owns).framed.laid)

    module _ (depends : some_depends w.processes part.instance ≡ true) (r : Answer) (asks : ask part.rest ≡ leaves r) where
      pub blocked_choice : choice (scopes_of tree) w p ≡ record { action = Fault; world = record w { fault = Some (record { kind = fault.CriticalBlockExit; process = p }) }; released = []; started = None }
      blocked_choice =
          choice_is sc w p q part outer s.at s.todo
          ∙ ap (λ (k : Ask). choice_of sc w p q part outer k) asks
          ∙ ap
          (λ (b : Bool). if b then left_with sc w p q part outer w r outer else if some_depends w.processes part.instance then fails sc w p q part outer fault.CriticalBlockExit
          else left_or_ended sc w p q part outer r outer) owns
          ∙ ap (λ (b : Bool). if b then fails sc w p q part outer fault.CriticalBlockExit else left_or_ended sc w p q part outer r outer) depends

      -- an operator that finds the frame critical does it
      pub leaving_blocked : (op : Operator) (next : ℕ) → operator_at code core.registers ≡ Ok (op, next) → raw code img p ≡ effects.faults fault.CriticalBlockExit → Does tree code texts w img p
      leaving_blocked = faulting tree code texts actor fault.CriticalBlockExit blocked_choice

-- the end of a process on whose base instance another one depends
module _ (tree : PProgram) (code : Code) (texts : Texts) (actor : OutmostActor tree code texts) where
  open actor use {w, img, p, part, core, s}

  module _ (owns : is_evaluation part.purpose ≡ false)
      (depends : some_depends w.processes part.instance ≡ true) (asks : ask part.rest ≡ leaves done)
      (a : ActionAt (scopes_of tree) (context_in tree code texts w part s.stands.frame.gives) (text_in tree texts w part) (level_in tree w part) (most_in tree w part) (leaves done) s.stands.pc s.stands.slots) where
    there : operator_at code core.registers ≡ Ok (ops.Plain kinds.Exit, a.0)
    there = operator_there (scopes_of tree) s.stands.held code (text_in tree texts w part) (level_in tree w part) s.stands.pc s.stands.slots core (ops.Plain kinds.Exit) a.0 s.stands.there a.2

    base : frame core.registers ≡ 0
    base = frame_is tree code texts (actor_of s) ∙ ap length s.around.0

    critical : is_critical core.registers.stack (0 ∷ []) (live_criticals img.states img.regs) ≡ true
    critical =
        ap (λ (n : ℕ). is_critical core.registers.stack (n ∷ []) (live_criticals img.states img.regs)) (sym (ap length s.around.0))
        ∙ critical_frame tree code texts (actor_of s) owns
        ∙ depends

    pub ending_blocked : Does tree code texts w img p
    ending_blocked =
        leaving_blocked tree code texts (actor_of s) owns depends done asks (ops.Plain kinds.Exit) a.0 there (end_blocked code img p core s.has a.0 base critical there)
