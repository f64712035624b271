-- The operator that comes next in a private part is the process's own.
use Rattle.std.proofs.Common.{◌≡◌, refl, sym, ap, subst, ◌∙◌, ℕ, Bool, true, false, cond, Option, Some, None, Result, Ok, Err}
use Rattle.std.specs.Prelude.{nat_le, ◌&&◌}
use Rattle.b67_list.specs.Numbered.{numbered}
use Rattle.b67_control.specs.declared.Registers.{Registers}
use Rattle.b67_ops.specs.declared.Operator.{Operator}
use Rattle.b67_ops.specs.declared.BadCode.{BadCode}
use Rattle.b67_segment.specs.declared.code.Code.{Code}
use Rattle.b67_segment.specs.Decoded.{if_good}
use Rattle.b67_store.specs.Store.{stack_limit}
use Rattle.b67_table.specs.declared.InterruptKind.TheVariants.{BadCode as bad_code}
use Rattle.b67_table.specs.declared.Private.{Private}
use Rattle.b67_table.specs.Effect.{Effect}
use Rattle.b67_table.specs.Effect as effects
use Rattle.b67_table.specs.Outcome.{Outcome, gives, faults, interrupts, limit, limited}
use Rattle.b67_table.specs.Private.{floor}
use Rattle.b67_table.specs.Image.{Image, private_of, with_private, with_effect, is_live}
use Rattle.b67_table.specs.Privacy.{ProcessStands}
use Rattle.b67_table.specs.Rows.{TableRow, private_part, action, row}
use Rattle.b67_table.specs.Table.{raw, table, plain, operator_at, by_operator, by_registers, by_row, part_by, private_op, class_at, class_by, is_private, private_at, private_in, stack_length, length_in}
use Rattle.b67_table.specs.Table as tables
use Rattle.b67_table.proofs.Lists.{numbered_set, numbered_within}
use Rattle.b67_table.proofs.FirstValid.{counted}
use Rattle.b67_private.specs.Parts.{length_of, is_new, outcome_by, own_next}
use Rattle.b67_private.specs.Laws.{IsItsOwn, OperatorsAreOwn}

module _ (code : Code) (img : Image) (p : ℕ) (r : Registers) (s : ProcessStands img p r) where
  abbrev pub put : Private → Image
  put q = with_private img p (floor r) q

  abbrev pub part : Private
  part = private_of img r

  length_put : (q : Private) → stack_length p (put q) ≡ q.regs.s
  length_put q = ap length_in (numbered_set img.regs p q.regs (counted p r img.regs s.has) (numbered_within img.regs p r s.has))

  abbrev pub moved : Outcome Private → Outcome Image
  moved (gives q) = gives (put q)
  moved (faults kind) = faults kind
  moved (interrupts kind) = interrupts kind
  moved limit = limit

  by_bool : (q : Private) (b : Bool) → cond b (gives (put q)) limit ≡ moved (cond b (gives q) limit)
  by_bool q true = refl
  by_bool q false = refl

  effect_moved : (e : Effect Private) → limited (stack_length p) (with_effect img p (floor r) e) ≡ moved (limited length_of e)
  effect_moved (effects.gives q) =
      ap (λ (n : ℕ). cond (nat_le n stack_limit) (gives (put q)) limit) (length_put q) ∙ by_bool q (nat_le (length_of q) stack_limit)
  effect_moved (effects.faults kind) = refl
  effect_moved (effects.interrupts kind) = refl

  new_moved : (o : Outcome Private) → tables.is_new (moved o) ≡ is_new o
  new_moved (gives q) = refl
  new_moved (faults kind) = refl
  new_moved (interrupts kind) = refl
  new_moved limit = refl

  -- what a row gives for both
  abbrev pub Alike : Bool → Outcome Image → Outcome Private → Type 0
  Alike own whole alone = ((own && tables.is_new whole) ≡ is_new alone) × ((q : Private) → alone ≡ gives q → whole ≡ gives (put q))

  alike_moved : (whole : Outcome Image) (alone : Outcome Private) → whole ≡ moved alone → Alike true whole alone
  alike_moved whole alone e = (ap tables.is_new e ∙ new_moved alone, λ q f. e ∙ ap moved f)

  row_alike : (w : TableRow) (next : ℕ) → Alike (is_private (class_by w)) (limited (stack_length p) (by_row w code img p r next)) (limited length_of (part_by w next part))
  row_alike (private_part change) next = alike_moved _ (limited length_of (change next part)) (effect_moved (change next part))
  row_alike (action program) next = (refl, λ q e. cc)

  found_alike : (o : Result (Operator × ℕ) BadCode) → Alike (private_at r o) (limited (stack_length p) (by_operator code img p r o)) (outcome_by (if_good o) part)
  unfolding private_op class_at
  found_alike (Err bad) = (refl, λ q e. cc)
  found_alike (Ok found) = row_alike (row found.0 r.place) found.1

  registers_alike : (o : Option Registers) → o ≡ Some r
      → Alike (private_in code o) (limited (stack_length p) (by_registers code img p o)) (own_next code part)
  unfolding own_next
  registers_alike None e = cc
  registers_alike (Some q) e = subst (λ (x : Registers). Alike (private_in code (Some x)) (limited (stack_length p) (by_registers code img p (Some x))) (own_next code part)) (sym same) (found_alike (operator_at code r))
    where
      same : q ≡ r
      same = cc

  live_alike : (b : Bool) → b ≡ true
      → Alike (private_in code (numbered img.regs p)) (limited (stack_length p) (cond b (by_registers code img p (numbered img.regs p)) (effects.interrupts bad_code))) (own_next code part)
  live_alike true e = registers_alike (numbered img.regs p) s.has
  live_alike false e = cc

  pub own_operator : IsItsOwn code img p r
  unfolding plain table raw
  own_operator =
      let both = live_alike (is_live (numbered img.states p)) s.live in record { plain_is = both.0; new = both.1 }

pub operators_are_own : OperatorsAreOwn
operators_are_own code img p r s = own_operator code img p r s
