-- Plain operators of a process, on the machine.
use Rattle.std.specs.Prelude.{nat_eq}
use Rattle.std.proofs.Common.{◌≡◌, sym, ap, subst, ◌∙◌, ℕ, ◌+◌, ◌<◌, ◌≤◌, Bool, true, false, List, Option, Some, None, arith}
use Rattle.b67_list.specs.Numbered.{numbered}
use Rattle.b67_control.specs.declared.Registers.{Registers}
use Rattle.b67_deeds.specs.declared.Letter.{Letter}
use Rattle.b67_segment.specs.declared.code.Code.{Code}
use Rattle.b67_table.specs.declared.Private.{Private}
use Rattle.b67_table.specs.Image.{Image, private_of, is_live}
use Rattle.b67_table.specs.Runs.{Plains}
use Rattle.b67_table.specs.Table.{plain}
use Rattle.b67_table.specs.Valid.{IsValid}
use Rattle.b67_table.proofs.FirstValid.{valid_stands}
use Rattle.b67_private.specs.Parts.{PlainParts, is_plain, is_new, stay, go}
use Rattle.b67_private.proofs.Own.{operators_are_own}
use Rattle.b67_machine.specs.Kept.{MachineModel, Counts}
use Rattle.b67_machine.specs.Reads.{machine_end}
use Rattle.b67_machine.specs.Stepping.{IsStretched, MachineGoes}
use Rattle.b67_machine.proofs.Ends.{goes_on, same_end, no_end}
use Rattle.b67_machine.proofs.Plainly.{plains_keep}

-- ---- a stretch

pub kept_is : (old new : MachineModel) → new.code ≡ old.code → new.released ≡ old.released → new.limit ≡ old.limit → new.lacked ≡ old.lacked → new.letter ≡ old.letter
    → new ≡ record old { image = new.image; counts = new.counts }
kept_is old new c r l k n =
    ap (λ (x : Code). record new { code = x }) c
    ∙ ap (λ (x : List ℕ). record new { code = old.code; released = x }) r
    ∙ ap (λ (x : Option ℕ). record new { code = old.code; released = old.released; limit = x }) l
    ∙ ap (λ (x : Bool). record new { code = old.code; released = old.released; limit = old.limit; lacked = x }) k
    ∙ ap (λ (x : Option Letter). record new { code = old.code; released = old.released; limit = old.limit; lacked = old.lacked; letter = x }) n

pub goes_live : (old new : MachineModel) (code : Code) (img : Image) (p n most : ℕ) → old.code ≡ code → old.image ≡ img → IsValid code img → is_live (numbered img.states p) ≡ true
    → IsStretched code p n most img new.image → Counts old.counts p n new.counts → new ≡ record old { image = new.image; counts = new.counts } → MachineGoes old p n new
goes_live old new code img p n most c i v live s counts others =
    let k = plains_keep code p img new.image n v live s.performed in
    record {
      performed = subst (λ (x : Code). Plains x p old.image n new.image) (sym c) (subst (λ (x : Image). Plains code p x n new.image) (sym i) s.performed);
      counts = counts;
      others = others;
      states = k.states ∙ ap (λ (x : Image). x.states) (sym i);
      started = k.started ∙ ap (λ (x : Image). x.started) (sym i);
      fault = k.fault ∙ ap (λ (x : Image). x.fault) (sym i);
    }

-- ---- between a stretch and its action

pub still_goes : (old new : MachineModel) (p n : ℕ) → machine_end old ≡ None → MachineGoes old p n new → machine_end new ≡ None
still_goes old new p n e k =
    let on = goes_on old e in
    no_end new (same_end old.image new.image k.states k.fault ∙ on.end) (ap (λ (m : MachineModel). m.limit) k.others ∙ on.limit)

-- ---- one operator

one_of : (code : Code) (a b : Private) (n : ℕ) → PlainParts code a n b → n ≤ 1 → (n < 1 → is_plain code b ≡ false) → nat_eq n 1 ≡ is_plain code a
one_of code a b n stay most h = sym (h (omega arith))
one_of code a b n (go {n = m} e rest) most h =
    let none : m ≡ 0 = omega (arith, most) in
    ap (λ (k : ℕ). nat_eq (k + 1) 1) none ∙ sym (ap is_new e)

pub plain_by_one : (code : Code) (img : Image) (p : ℕ) (r : Registers) (a b : Private) (n : ℕ) → IsValid code img → is_live (numbered img.states p) ≡ true → numbered img.regs p ≡ Some r
    → is_plain code a ≡ is_plain code (private_of img r) → PlainParts code a n b → n ≤ 1 → (n < 1 → is_plain code b ≡ false) → nat_eq n 1 ≡ plain code img p
plain_by_one code img p r a b n v live has same plains most h =
    one_of code a b n plains most h ∙ same ∙ sym (operators_are_own code img p r (valid_stands code img p r v live has)).plain_is
