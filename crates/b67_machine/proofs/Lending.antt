-- What a process does on its own stack, among all processes of the machine.
use Rattle.std.proofs.Common.{◌≡◌, refl, sym, ap, subst, ◌∙◌, ℕ, ◌-◌, Bool, true, List, set, get_or, Option, Some}
use Rattle.b67_list.specs.Numbered.{numbered}
use Rattle.b67_control.specs.declared.Registers.{Registers}
use Rattle.b67_deeds.specs.declared.Letter.{Letter}
use Rattle.b67_segment.specs.declared.code.Code.{Code}
use Rattle.b67_store.specs.Store.{Stacks, Rows}
use Rattle.b67_table.specs.Image.{Image, is_able}
use Rattle.b67_table.specs.Valid.{IsValid}
use Rattle.b67_table.proofs.FirstValid.{counted}
use Rattle.b67_operators.proofs.Leaves.{set_here}
use Rattle.b67_reach.specs.Images.{own_of_image, with_own}
use Rattle.b67_action.specs.declared.running.Ran.{Ran}
use Rattle.b67_action.specs.Reaching.{ProcessIsIn}
use Rattle.b67_action.specs.Running.{HasRun}
use Rattle.b67_machine.specs.Kept.{MachineModel}
use Rattle.b67_machine.proofs.Plainly.{own_is}

pub stands_in : (code : Code) (img : Image) (p : ℕ) (r q : Registers) → IsValid code img → is_able (numbered img.states p) ≡ true → numbered img.regs p ≡ Some r
    → q ≡ get_or img.regs (p - 1) q → ProcessIsIn code img p img.stacks img.rows q
stands_in code img p r q v able has index =
    subst (λ (x : Registers). ProcessIsIn code img p img.stacks img.rows x) (sym (own_is img.regs p r q has index))
    (record { valid = v; able = able; has = has; stacks_are = refl; rows_are = refl })

-- a run whose registers are put back among those of all
pub run_in_all : (code : Code) (img : Image) (p most : ℕ) (r q : Registers) (st : Stacks) (rows : Rows) (ran : Ran) (noted : List Letter) → numbered img.regs p ≡ Some r
    → HasRun code p most img ran noted (with_own (own_of_image st rows q) p img) → HasRun code p most img ran noted (record img { stacks = st; rows = rows; regs = set img.regs (p - 1) q })
run_in_all code img p most r q st rows ran noted has h =
    subst (λ (rs : List Registers). HasRun code p most img ran noted (record img { stacks = st; rows = rows; regs = rs })) (sym (set_here img.regs p q (counted p r img.regs has))) h

pub kept_with : (old new : MachineModel) (released : List ℕ) (last : Option Letter) → new.code ≡ old.code → new.released ≡ released → new.limit ≡ old.limit → new.lacked ≡ old.lacked → new.letter ≡ last
    → new ≡ record old { image = new.image; counts = new.counts; released = released; letter = last }
kept_with old new released last c r l k n =
    ap (λ (x : Code). record new { code = x }) c
    ∙ ap (λ (x : List ℕ). record new { code = old.code; released = x }) r
    ∙ ap (λ (x : Option ℕ). record new { code = old.code; released = released; limit = x }) l
    ∙ ap (λ (x : Bool). record new { code = old.code; released = released; limit = old.limit; lacked = x }) k
    ∙ ap (λ (x : Option Letter). record new { code = old.code; released = released; limit = old.limit; lacked = old.lacked; letter = x }) n

-- ---- whom the last of so many entries has released
