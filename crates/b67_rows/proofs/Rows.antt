-- The row of the operator at which a core stands.
use Rattle.std.proofs.Common.{◌≡◌, refl, sym, ap, ◌∙◌, ℕ, List, [], ◌∷◌, ◌++◌, Option, Bool, true, false, Result, append_assoc}
use Rattle.b67_rows.proofs.Prelude.{reverse-append, if◌then◌else◌, ◌&&◌, reverse, numbered, FaultKind, Word, Registers, Operator, Code, words_or, words_of, Image, table, by_row, BadCode as bad_code, operator_letter, letter, Core, HasCore, stack_of}
use Rattle.b67_ops.specs.declared.BadCode.{BadCode}
use Rattle.b67_table.specs.declared.Class.TheVariants as classes
use Rattle.b67_table.specs.Effect.{interrupts}
use Rattle.b67_table.specs.Outcome.{Outcome}
use Rattle.b67_table.specs.Outcome as outcomes
use Rattle.b67_table.specs.Rows.{row}
use Rattle.b67_table.specs.Table.{raw, plain, by_registers, by_operator, class_at, is_private, is_new, private_at, private_in, private_next}
use Rattle.b67_letters.specs.Letters.{fetched_letter, registers_letter, letter_by}
use Rattle.b67_rows.proofs.AtOperator.{AtOperator}

module _ (code : Code) (op : Operator) (here : AtOperator code op) where
  open here use {img, p, core, has, next, there as at}

  pub raw_is : raw code img p ≡ by_row (row op core.registers.place) code img p core.registers next
  unfolding raw
  raw_is =
      ap (λ (b : Bool). if b then by_registers code img p (numbered img.regs p) else interrupts bad_code) has.live
      ∙ ap (λ (r : Option Registers). by_registers code img p r) has.registers
      ∙ ap (λ (x : Result (Operator × ℕ) BadCode). by_operator code img p core.registers x) at

  private_is : private_next code img p ≡ is_private (class_at op core.registers.place)
  private_is =
      ap (λ (r : Option Registers). private_in code r) has.registers
      ∙ ap (λ (x : Result (Operator × ℕ) BadCode). private_at core.registers x) at

  -- an action is not plain
  pub action_not_plain : class_at op core.registers.place ≡ classes.Action → plain code img p ≡ false
  unfolding plain
  action_not_plain e =
      ap (λ b. b && is_new (table code img p)) (private_is ∙ ap is_private e)

  -- and what faults is not
  pub fault_not_plain : (kind : FaultKind) → table code img p ≡ outcomes.faults kind → plain code img p ≡ false
  unfolding plain
  fault_not_plain kind e = ap (λ o. private_next code img p && is_new o) e ∙ never (private_next code img p)
    where
      never : (b : Bool) → (b && false) ≡ false
      never true = refl
      never false = refl

  -- the action that it is
  pub action_is : (o : Outcome Image) → table code img p ≡ o → letter code img p ≡ (letter_by o (operator_letter op img core.registers))
  action_is o e =
      ap (λ (t : Outcome Image). (letter_by t (registers_letter code img (numbered img.regs p)))) e
      ∙ ap (λ (r : Option Registers). (letter_by o (registers_letter code img r))) has.registers
      ∙ ap (λ (x : Result (Operator × ℕ) BadCode). (letter_by o (fetched_letter img core.registers x))) at

-- a word more on top of the stack of a core
pub pushed_stack : (core : Core) (w : Word) → stack_of core ++ w ∷ [] ≡ core.below ++ reverse (w ∷ core.words)
pushed_stack core w =
    append_assoc core.below (reverse core.words) (w ∷ [])
    ∙ ap (λ (ws : List Word). core.below ++ ws) (sym (reverse-append (w ∷ []) core.words))

-- the words of a process's stack
pub words_are : (img : Image) (p : ℕ) (core : Core) → HasCore img p core → words_of img.stacks core.registers.stack ≡ stack_of core
words_are img p core has = ap (λ (o : Option (List Word)). words_or o) has.stack
