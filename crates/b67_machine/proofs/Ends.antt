-- A machine without an end.
use Rattle.std.specs.Prelude.{if◌then◌else◌, not, ◌&&◌}
use Rattle.std.proofs.Common.{◌≡◌, refl, sym, ap, ◌∙◌, ℕ, Bool, true, false, List, [], ◌∷◌, Option, Some, None}
use Rattle.std.specs.List.{list_any}
use Rattle.b67_list.specs.Numbered.{numbered}
use Rattle.b67_control.specs.declared.Registers.{Registers}
use Rattle.b67_table.specs.declared.ProcessState.{ProcessState}
use Rattle.b67_table.specs.declared.ProcessState.TheVariants as states
use Rattle.b67_table.specs.Image.{Image, Failure}
use Rattle.b67_table.specs.Ending.{ImageEnd, finished, faulted, all_waiting, has_ended, some_able, some_lives, image_end}
use Rattle.b67_table.specs.Ending as ending
use Rattle.b67_machine.specs.declared.reads.End.{End}
use Rattle.b67_machine.specs.declared.reads.End.TheVariants as ends
use Rattle.b67_machine.specs.Kept.{MachineModel}
use Rattle.b67_machine.specs.declared.Failure.{Failure as Failed}
use Rattle.b67_machine.specs.Machines.{failure}
use Rattle.b67_machine.specs.Reads.{is_able_state, lives, shown_end, limit_end, machine_end_by, machine_end, ended_by}

limit_none : (o : Option ℕ) (regs : List Registers) → limit_end o regs ≡ None → o ≡ None
limit_none None regs e = refl
limit_none (Some p) regs e = cc

by_none : (o : Option ImageEnd) (m : MachineModel) → machine_end_by o m ≡ None → (o ≡ None) × (m.limit ≡ None)
by_none None m e = (refl, limit_none m.limit m.image.regs e)
by_none (Some x) m e = cc

fault_none : (f : Option Failure) (ss : List ProcessState) → ending.image_end_by f ss ≡ None → f ≡ None
fault_none None ss e = refl
fault_none (Some f) ss e = cc

not_ended : (b : Bool) (f : Option Failure) (ss : List ProcessState) → (if b then Some finished else ending.image_end_by f ss) ≡ None → f ≡ None
not_ended true f ss e = cc
not_ended false f ss e = fault_none f ss e

no_fault : (img : Image) → image_end img ≡ None → img.fault ≡ None
unfolding image_end
no_fault img e = not_ended (has_ended (numbered img.states 1)) img.fault img.states e

-- a machine without an end has neither a fault nor come to the stack limit
pub record GoesOn (m : MachineModel) : Type 0 where
  pub end : image_end m.image ≡ None
  pub fault : m.image.fault ≡ None
  pub limit : m.limit ≡ None

pub goes_on : (m : MachineModel) → machine_end m ≡ None → GoesOn m
goes_on m e =
    let k = by_none (image_end m.image) m e in
    record { end = k.0; fault = no_fault m.image k.0; limit = k.1 }

-- and one that has neither, and whose states are the same, has none
pub same_end : (a b : Image) → b.states ≡ a.states → b.fault ≡ a.fault → image_end b ≡ image_end a
unfolding image_end
same_end a b s f =
    ap (λ (ss : List ProcessState). if has_ended (numbered ss 1) then Some finished else ending.image_end_by b.fault ss) s
    ∙ ap (λ (o : Option Failure). if has_ended (numbered a.states 1) then Some finished else ending.image_end_by o a.states) f

pub no_end : (m : MachineModel) → image_end m.image ≡ None → m.limit ≡ None → machine_end m ≡ None
no_end m e l = ap (λ (o : Option ImageEnd). machine_end_by o m) e ∙ ap (λ (o : Option ℕ). limit_end o m.image.regs) l

-- ---- the states

pub able_any : (ss : List ProcessState) → some_able ss ≡ list_any is_able_state ss
able_any [] = refl
able_any (states.Able ∷ ss) = refl
able_any (states.WaitsFor at ∷ ss) = able_any ss
able_any (states.WaitsAny ∷ ss) = able_any ss
able_any (states.Procures at ∷ ss) = able_any ss
able_any (states.Ended ∷ ss) = able_any ss

pub lives_any : (ss : List ProcessState) → some_lives ss ≡ list_any lives ss
lives_any [] = refl
lives_any (states.Able ∷ ss) = refl
lives_any (states.WaitsFor at ∷ ss) = refl
lives_any (states.WaitsAny ∷ ss) = refl
lives_any (states.Procures at ∷ ss) = refl
lives_any (states.Ended ∷ ss) = lives_any ss

-- ---- what the end rests on

waiting : (b : Bool) → shown_end (if b then Some all_waiting else None) ≡ (if b then Some ends.AllWaiting else None)
waiting true = refl
waiting false = refl

by_parts : (b : Bool) (f : Option Failed) (ss : List ProcessState)
    → shown_end (if b then Some finished else ending.image_end_by (failure f) ss) ≡ ended_by b f (list_any is_able_state ss) (list_any lives ss)
by_parts true f ss = refl
by_parts false (Some f) ss = refl
by_parts false None ss =
    waiting (some_lives ss && not (some_able ss))
    ∙ ap (λ (b : Bool). if b && not (some_able ss) then Some ends.AllWaiting else None) (lives_any ss)
    ∙ ap (λ (b : Bool). if list_any lives ss && not b then Some ends.AllWaiting else None) (able_any ss)

pub end_is : (img : Image) (f : Option Failed) → img.fault ≡ failure f
    → shown_end (image_end img) ≡ ended_by (has_ended (numbered img.states 1)) f (list_any is_able_state img.states) (list_any lives img.states)
unfolding image_end
end_is img f e =
    ap (λ (o : Option Failure). shown_end (if has_ended (numbered img.states 1) then Some finished else ending.image_end_by o img.states)) e
    ∙ by_parts (has_ended (numbered img.states 1)) f img.states

pub end_some : (m : MachineModel) (o : Option ImageEnd) (e : End) → shown_end o ≡ Some e → Some e ≡ machine_end_by o m
end_some m None e h = cc
end_some m (Some x) e h = sym h

pub end_none : (m : MachineModel) (o : Option ImageEnd) → shown_end o ≡ None → limit_end m.limit m.image.regs ≡ machine_end_by o m
end_none m None h = refl
end_none m (Some x) h = cc

-- the end by what is found out of an image
pub ended_by_found : (m : MachineModel) (f : Option Failed) (seen : List ProcessState) (a b d : Bool) (r : Option End) → m.image.fault ≡ failure f → seen ≡ m.image.states
    → a ≡ has_ended (numbered seen 1) → b ≡ list_any is_able_state seen → d ≡ list_any lives seen → r ≡ ended_by a f b d → shown_end (image_end m.image) ≡ r
ended_by_found m f seen a b d r e s i j k l =
    end_is m.image f e
    ∙ ap (λ (ss : List ProcessState). ended_by (has_ended (numbered ss 1)) f (list_any is_able_state ss) (list_any lives ss)) (sym s)
    ∙ ap (λ (x : Bool). ended_by x f (list_any is_able_state seen) (list_any lives seen)) (sym i)
    ∙ ap (λ (x : Bool). ended_by a f x (list_any lives seen)) (sym j)
    ∙ ap (λ (x : Bool). ended_by a f b x) (sym k)
    ∙ sym l
