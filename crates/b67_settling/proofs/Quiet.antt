-- Where a process stands after plain operators of its private part, and what its action does there.
use Rattle.std.proofs.Common.{◌≡◌, sym, ap, subst, ◌∙◌, ℕ, ◌≤◌, Bool, true, Option, Some, Result, Ok, cond, arith}
use Rattle.b67_list.specs.Numbered.{numbered}
use Rattle.b67_control.specs.declared.Registers.{Registers}
use Rattle.b67_ops.specs.declared.BadCode.{BadCode}
use Rattle.b67_ops.specs.declared.Operator.{Operator}
use Rattle.b67_segment.specs.declared.code.Code.{Code}
use Rattle.b67_store.specs.Store.{stack_limit}
use Rattle.b67_table.specs.declared.InterruptKind.TheVariants.{BadCode as bad_code}
use Rattle.b67_table.specs.declared.Private.{Private}
use Rattle.b67_table.specs.Effect.{gives, interrupts}
use Rattle.b67_table.specs.Ending.{may_act}
use Rattle.b67_table.specs.Image.{Image, private_of, with_private, is_live}
use Rattle.b67_table.specs.Outcome as outcomes
use Rattle.b67_table.specs.Outcome.{limited}
use Rattle.b67_table.specs.Private.{floor}
use Rattle.b67_table.specs.Privacy.{ProcessStands}
use Rattle.b67_table.specs.Program.{Test, asked, effect_of, changed, Change, Program}
use Rattle.b67_table.specs.Rows.{TableRow, action, row}
use Rattle.b67_table.specs.Runs.{Plains}
use Rattle.b67_table.specs.Table.{raw, table, operator_at, by_row, by_operator, by_registers, stack_length, length_in}
use Rattle.b67_table.specs.Valid.{IsValid, IsProcess}
use Rattle.b67_table.proofs.FirstValid.{valid_stands}
use Rattle.b67_table.proofs.Limit.{fits}
use Rattle.b67_table.proofs.Lists.{numbered_set, numbered_from, numbered_within}
use Rattle.b67_private.specs.Parts.{PlainParts}
use Rattle.b67_private.proofs.Plains.{stretches_are_own}
use Rattle.b67_settling.specs.Own.{StackReaches, TestIsOwn}
use Rattle.b67_settling.specs.Local.{IsOwnEntry}
use Rattle.b67_settling.proofs.Moving.{Stretched, stretched, may_live}

-- what a program answers with, and the registers then
pub record Answers (img : Image) (p : ℕ) (t : Test Change) : Type 0 where
  pub change : Change
  pub is : asked img t ≡ gives change
  pub regs : Registers
  pub has : numbered (changed p change img).regs p ≡ Some regs
  pub short : regs.s ≤ stack_limit

record Performs (code : Code) (img : Image) (p : ℕ) : Type 0 where
  after : Image
  is : table code img p ≡ outcomes.gives after

performs : (code : Code) (img : Image) (p : ℕ) (r : Registers) (op : Operator) (next : ℕ) (program : Code → Registers → ℕ → Program) → is_live (numbered img.states p) ≡ true
    → numbered img.regs p ≡ Some r → operator_at code r ≡ Ok (op, next) → row op r.place ≡ action program → Answers img p (program code r next) → Performs code img p
unfolding raw table
performs code img p r op next program live has stands is a =
    let raw_is : raw code img p ≡ gives (changed p a.change img) =
    ap (λ (b : Bool). cond b (by_registers code img p (numbered img.regs p)) (interrupts bad_code)) live
    ∙ ap (λ (o : Option Registers). by_registers code img p o) has
    ∙ ap (λ (o : Result (Operator × ℕ) BadCode). by_operator code img p r o) stands
    ∙ ap (λ (w : TableRow). by_row w code img p r next) is
    ∙ ap (effect_of p img) a.is in
    record {
      after = changed p a.change img;
      is = ap (limited (stack_length p)) raw_is
          ∙ fits (stack_length p) (changed p a.change img) (subst (λ (o : Option Registers). length_in o ≤ stack_limit) (sym a.has) a.short);
    }

module _ (code : Code) (a : Image) (p n : ℕ) (r : Registers) (part : Private) (v : IsValid code a) (may : may_act a p ≡ true) (has : numbered a.regs p ≡ Some r)
    (parts : PlainParts code (private_of a r) n part) where
  pub live : is_live (numbered a.states p) ≡ true
  live = may_live a p may

  pub plains : Plains code p a n (with_private a p (floor r) part)
  plains = (stretches_are_own code a p r v live has part n parts).performed

  stretch : Stretched code p r (floor r) a n (with_private a p (floor r) part)
  stretch = stretched code p (floor r) n a (with_private a p (floor r) part) r plains v live has (omega arith)

  st : ProcessStands a p r
  st = valid_stands code a p r v live has

  pub floor_at : StackReaches a p r (floor r)
  floor_at = record { live = live; has = has; words = st.words; opened = st.opened; high = st.high }

  pub then_has : numbered (with_private a p (floor r) part).regs p ≡ Some part.regs
  then_has = numbered_set a.regs p part.regs (numbered_from a.regs p r has) (numbered_within a.regs p r has)

  regs_are : part.regs ≡ stretch.part.regs
  regs_are = some_is part.regs stretch.part.regs (sym then_has ∙ put_has)
    where
      some_is : (x y : Registers) → Some x ≡ Some y → x ≡ y
      some_is x y e = cc

      put_has : numbered (with_private a p (floor r) part).regs p ≡ Some stretch.part.regs
      put_has = subst (λ (z : Image). numbered z.regs p ≡ Some stretch.part.regs) (sym stretch.is)
          (numbered_set a.regs p stretch.part.regs (numbered_from a.regs p r has) (numbered_within a.regs p r has))

  pub stack_is : part.regs.stack ≡ r.stack
  stack_is = ap (λ (x : Registers). x.stack) regs_are ∙ stretch.stays.0

  pub process : IsProcess (with_private a p (floor r) part) p part.regs
  process = stretch.valid.processes p part.regs live then_has

  pub raised : floor r ≤ floor part.regs
  raised = subst (λ (x : Registers). floor r ≤ floor x) (sym regs_are) stretch.low

  -- the entry, whose action is a program that touches only what is its own
  pub own_entry : (base : ℕ) → base ≤ floor r → (op : Operator) (next : ℕ) (program : Code → Registers → ℕ → Program) → operator_at code part.regs ≡ Ok (op, next)
      → row op part.regs.place ≡ action program → TestIsOwn (with_private a p (floor r) part) part.regs base (program code part.regs next)
      → Answers (with_private a p (floor r) part) p (program code part.regs next) → IsOwnEntry code a p r base
  own_entry base low op next program stands is own answers =
      let done_so : Performs code (with_private a p (floor r) part) p =
      performs code (with_private a p (floor r) part) p part.regs op next program live then_has stands is answers in
      record {
        may = may;
        valid = v;
        has = has;
        low = low;
        count = n;
        quiet = with_private a p (floor r) part;
        plains = plains;
        then = part.regs;
        then_has = then_has;
        action = record { op = op; next = next; stands = stands; program = program; is = is; own = own };
        after = done_so.after;
        performed = done_so.is;
      }
