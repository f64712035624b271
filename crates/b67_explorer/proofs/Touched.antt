-- Own cells that the next operator of a private part reads, or stores in.
use Rattle.std.proofs.Math.Decide.{ℕ_discrete}
use Rattle.b67_list.specs.Numbered.{numbered}
use Rattle.b67_word.specs.declared.Place.{Place}
use Rattle.b67_table.specs.Valid.{IsValid}
use Rattle.b67_table.proofs.Lists.{numbered_within}
use Rattle.std.proofs.Common.{◌≡◌, true≢false, zero, sym, ap, ◌∙◌, ℕ, suc, ◌+◌, ◌≤◌, Bool, true, false, Option, Some, Result, Ok, arith}
use Rattle.b67_control.specs.declared.Registers.{Registers}
use Rattle.b67_segment.specs.declared.code.Code.{Code}
use Rattle.b67_ops.specs.declared.Operator.{Operator}
use Rattle.b67_ops.specs.declared.Operator.TheVariants as ops
use Rattle.b67_ops.specs.declared.PlainKind.{PlainKind}
use Rattle.b67_ops.specs.declared.BadCode.{BadCode}
use Rattle.b67_table.specs.declared.Private.{Private}
use Rattle.b67_table.specs.Image.{Image, critical_in, critical_of}
use Rattle.b67_table.specs.Table.{operator_at}
use Rattle.b67_settling.specs.Local.{NobodyDepends, StoresCell, store_kind}
use Rattle.b67_explorer.specs.Cells.{StoresOwn}

-- the operator that is found stores
pub stores_by : (code : Code) (img : Image) (r : Registers) (part : Private) (keeps : Bool) (found : Result (Operator × ℕ) BadCode) (op : Operator) (kind : PlainKind) (next : ℕ)
    → found ≡ operator_at code part.regs → found ≡ Ok (op, next) → op ≡ ops.Plain kind → kind ≡ store_kind keeps → StoresOwn img r part → StoresCell code img r part
stores_by code img r part keeps found op kind next value is one sort s =
    record {
      keeps = keeps;
      next = next;
      stands = sym value ∙ is ∙ ap (λ (o : Operator). Ok (o, next)) (one ∙ ap (λ (k : PlainKind). ops.Plain k) sort);
      value = s.value;
      reference = s.reference;
      words = s.words;
      two = s.two;
      operand = s.operand;
      variable = s.variable;
      cell = s.cell;
      names = s.names;
      own = s.own;
    }

-- ---- on whom nobody depends

-- the processes up to this one have no critical place in the stack
pub FreeUpTo : Image → ℕ → ℕ → Type 0
FreeUpTo img stack done = (k : ℕ) (o : Registers) (c : Place) → k ≤ done → numbered img.regs k ≡ Some o → o.critical ≡ Some c → c.stack ≡ stack → ⊥

pub free_first : (img : Image) (stack : ℕ) → FreeUpTo img stack 0
unfolding FreeUpTo
free_first img stack zero o c low e i s = cc
free_first img stack (suc k) o c low e i s = absurd (omega (arith, low))

pub free_next : (img : Image) (stack done : ℕ) (critical : Option Place) (lies : Bool) → FreeUpTo img stack done → critical ≡ critical_of img.regs (done + 1) → lies ≡ false
    → ((c : Place) → critical ≡ Some c → c.stack ≡ stack → lies ≡ true) → FreeUpTo img stack (done + 1)
unfolding FreeUpTo
free_next img stack done critical lies before is clear in_stack k o c low e i s = by_number (ℕ_discrete k (done + 1))
  where
    by_number : Dec (k ≡ done + 1) → ⊥
    by_number (no other) = before k o c (omega (arith, low, other)) e i s
    by_number (yes same) =
        true≢false (sym (in_stack c (is ∙ ap (critical_of img.regs) (sym same) ∙ ap critical_in e ∙ i) s) ∙ clear)

pub free_all : (code : Code) (img : Image) (stack done last : ℕ) → IsValid code img → last ≡ img.started → last ≤ done → FreeUpTo img stack done → NobodyDepends img stack
unfolding FreeUpTo
free_all code img stack done last v all past free = λ k o c e i s. free k o c (omega (arith, numbered_within img.regs k o e, v.registers, all, past)) e i s
