-- Entries that a machine says to be local, and that no outcome is lost by them.
use Rattle.std.proofs.Common.{◌≡◌, ◌⊎◌, inl, inr, refl, sym, ap, subst, ◌∙◌, ℕ, ◌≤◌, leb, true, false, Option, Some, None, Result, Ok, arith}
use Rattle.std.specs.Prelude.{nat_lt}
use Rattle.std.proofs.lemmas.Bool.{leb-true}
use Rattle.std.proofs.lemmas.Bool.Decides.{nat_tests}
use Rattle.std.proofs.lemmas.Option.{none-some, same_Some}
use Rattle.b67_list.specs.Numbered.{numbered}
use Rattle.b67_control.specs.declared.Registers.{Registers}
use Rattle.algol_tree.specs.Plain.{PProgram}
use Rattle.b67_segment.specs.declared.code.Code.{Code}
use Rattle.b67_ops.specs.declared.Operator.{Operator}
use Rattle.b67_ops.specs.declared.Operator.TheVariants as ops
use Rattle.b67_ops.specs.declared.BadCode.{BadCode}
use Rattle.b67_ops.specs.declared.BranchKind.{BranchKind}
use Rattle.b67_ops.specs.declared.BranchKind.TheVariants.{Brun}
use Rattle.b67_table.specs.declared.Private.{Private}
use Rattle.b67_table.specs.Table.{operator_at}
use Rattle.b67_table.specs.Image.{Image, private_of}
use Rattle.b67_table.specs.Ending.{may_act}
use Rattle.b67_table.specs.Valid.{IsValid}
use Rattle.b67_private.specs.Parts.{PlainParts}
use Rattle.b67_machine.specs.Parts.{part_by, private_part}
use Rattle.b67_faithful.specs.Faithful.{Faithful}
use Rattle.b67_outcomes.specs.Settling.{LocalsPass, EntryPassesBy, both, ends}
use Rattle.b67_settling.specs.Local.{IsLocal, StacksStayOwn, Turns, always, ReadsCell, StoresCell}
use Rattle.b67_explorer.specs.Cells.{AccessesOwn, IsLocalThere}
use Rattle.b67_settling.specs.Laws as laws
use Rattle.b67_settling.proofs.Earlier.{local_entries_pass}
use Rattle.b67_settling.proofs.Turning.{turns_are_local}
use Rattle.b67_settling.proofs.Reading.{reads_are_local, stores_are_local}

-- ---- a local entry

-- an operator that is found is a branch that always goes, and not forward
pub turns_by : (code : Code) (part : Private) (r : Result (Operator × ℕ) BadCode) (op : Operator) (kind : BranchKind) (target next : ℕ)
    → r ≡ operator_at code part.regs → r ≡ Ok (op, next) → op ≡ ops.Branch kind target → kind ≡ Brun → leb target part.regs.place ≡ true → Turns code part
turns_by code part r op kind target next found is one sort back =
    let at : operator_at code part.regs ≡ Ok (ops.Branch Brun target, next) =
    sym found ∙ is ∙ ap (λ (o : Operator). Ok (o, next)) (one ∙ ap (λ (k : BranchKind). ops.Branch k target) sort) in
    let within : target ≤ part.regs.place = leb-true target part.regs.place back in
    let not_forward : nat_lt part.regs.place target ≡ false = grind (within, arith, nat_tests) in
    always at not_forward

part_of : (img : Image) (p : ℕ) (o : Option Registers) → numbered img.regs p ≡ o → (part : Private) → private_part img p ≡ Some part
    → (r : Registers) × (numbered img.regs p ≡ Some r) × (private_of img r ≡ part)
part_of img p None e part is = absurd (none-some part (sym (ap (λ (o : Option Registers). part_by img o) e) ∙ is))
part_of img p (Some r) e part is = (r, e, same_Some (private_of img r) part (sym (ap (λ (o : Option Registers). part_by img o) e) ∙ is))

pub local_by : (code : Code) (img : Image) (p n : ℕ) (part after : Private) → IsValid code img → may_act img p ≡ true → private_part img p ≡ Some part
    → PlainParts code part n after → Turns code after ⊎ AccessesOwn code img p after → IsLocalThere code img p
local_by code img p n part after valid may is plains (inl turns) = λ stacks.
    let x = part_of img p (numbered img.regs p) refl part is in
    turns_are_local code img p n x.0 after valid may x.1 (subst (λ (z : Private). PlainParts code z n after) (sym x.2) plains) turns
local_by code img p n part after valid may is plains (inr own) = λ stacks.
    let x = part_of img p (numbered img.regs p) refl part is in
    let same : x.0 ≡ own.registers = same_Some x.0 own.registers (sym x.1 ∙ own.has) in
    let there : PlainParts code (private_of img own.registers) n after = subst (λ (z : Private). PlainParts code z n after) (sym x.2 ∙ ap (private_of img) same) plains in
    by_access own.accesses there stacks
  where
    by_access : ReadsCell code img own.registers after ⊎ StoresCell code img own.registers after → PlainParts code (private_of img own.registers) n after → StacksStayOwn code → IsLocal code img p
    by_access (inl reads) there stacks = reads_are_local code img p n own.registers after valid may own.has stacks own.free there reads
    by_access (inr stores) there stacks = stores_are_local code img p n own.registers after valid may own.has stacks own.free there stores

-- ---- local entries pass others

passes : (code : Code) (p q : ℕ) (b c : Image) → laws.PassesLocally code p q b c → EntryPassesBy code (IsLocalThere code) p q b c
passes code p q b c (laws.both there own local) = both there own (λ stacks. local)
passes code p q b c (laws.ends there here also same) = ends there here also same

pub locals_pass : (tree : PProgram) (code : Code) → Faithful tree code → StacksStayOwn code → LocalsPass code (IsLocalThere code)
locals_pass tree code f stacks =
    record {
      entries = λ a b c p q n m r local other x y.
          passes code p q b c (local_entries_pass.entries code r.0 r.1.0 a b c p q n m f.follows.sound r.1.1 (local stacks) other x y);
      stops = λ a b quiet p q n r local other x may s.
          let t = local_entries_pass.stops code r.0 r.1.0 a b quiet p q n s.count f.follows.sound r.1.1 (local stacks) other x may s.plains s.at_limit in
          record {
            may = t.may;
            later = t.later;
            stops = record { count = t.count; plains = t.plains; at_limit = t.at_limit };
            words = t.words;
            output = let g = local_entries_pass.goes_on code a b p n (local stacks) x in g.1;
          };
    }
