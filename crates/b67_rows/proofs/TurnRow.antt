-- The branch back to the start of a loop, and EXIT of a base frame.
use Rattle.std.proofs.Common.{◌≡◌, sym, ap, ◌∙◌, ℕ, zero, suc, ◌≤◌, List, [], ◌∷◌, Option, Some, None, Bool}
use Rattle.b67_list.proofs.Numbers.{ltb_not_less}
use Rattle.b67_rows.proofs.Prelude.{if◌then◌else◌, Word, Code, Stacks, stack_at, with_stack, gives, with_stacks, with_registers, TableRow, private_part, by_row, class_by, operator_letter, Core, with_core, stack_of}
use Rattle.b67_ops.specs.declared.Operator.TheVariants as ops
use Rattle.b67_ops.specs.declared.BranchKind.TheVariants.{Brun}
use Rattle.b67_table.specs.declared.Class.TheVariants as classes
use Rattle.b67_table.specs.PrivateRows.{branch}
use Rattle.b67_table.specs.Rows.{row, acts, branch_turn}
use Rattle.b67_table.specs.Table.{raw, class_at}
use Rattle.b67_deeds.specs.declared.Letter.TheVariants.{Turn}
use Rattle.b67_rows.proofs.Rows.{raw_is}
use Rattle.b67_rows.proofs.AtOperator.{AtOperator}

-- the core at another place
abbrev pub at_place : Core → ℕ → Core
at_place core place = record core { registers = record core.registers { place = place } }

same_stack : (stacks : Stacks) (n : ℕ) (ws : List Word) → stack_at stacks n ≡ Some ws → with_stack stacks n ws ≡ stacks
same_stack [] n ws e = cc
same_stack (None ∷ zs) zero ws e = cc
same_stack (Some z ∷ zs) zero ws e = ap (λ (o : Option (List Word)). o ∷ zs) (sym e)
same_stack (z ∷ zs) (suc n) ws e = ap (λ ys. z ∷ ys) (same_stack zs n ws e)

module _ (code : Code) (target : ℕ) (here : AtOperator code (ops.Branch Brun target)) (back : target ≤ here.core.registers.place) where
  open here use {img, p, core, has, next}

  abbrev row_with : Bool → TableRow
  row_with forward = if forward then private_part (branch Brun target) else acts (branch_turn Brun target)

  pub turn_raw : raw code img p ≡ gives (with_core img p (at_place core target))
  unfolding row
  turn_raw =
      raw_is code (ops.Branch Brun target) here
      ∙ ap (λ (b : Bool). by_row (row_with b) code img p core.registers next) (ltb_not_less core.registers.place target back)
      ∙ ap (λ (ss : Stacks). gives (with_registers (with_stacks img ss) p (record core.registers { place = target }))) (sym (same_stack img.stacks core.registers.stack (stack_of core) has.stack))

  pub turns_back : operator_letter (ops.Branch Brun target) img core.registers ≡ Some Turn
  turns_back = ap (λ (b : Bool). if b then None else Some Turn) (ltb_not_less core.registers.place target back)

  pub turn_class : class_at (ops.Branch Brun target) core.registers.place ≡ classes.Action
  unfolding class_at row
  turn_class = ap (λ (b : Bool). class_by (row_with b)) (ltb_not_less core.registers.place target back)
