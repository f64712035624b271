-- The image after an operator is valid.
use Rattle.std.proofs.Common.{◌≡◌, sym, subst, ◌∙◌, ◌≤◌, true, length, Result, Ok, Err, ℕ}
use Rattle.b67_list.specs.Numbered.{numbered}
use Rattle.b67_segment.specs.declared.code.Code.{Code}
use Rattle.b67_store.specs.Store.{row_limit}
use Rattle.b67_table.specs.Effect.{Effect}
use Rattle.b67_table.specs.Image.{Image, is_able}
use Rattle.b67_table.specs.Outcome.{limited}
use Rattle.b67_table.specs.Table.{table, stack_length}
use Rattle.b67_table.specs.Valid.{IsValid}
use Rattle.b67_table.proofs.AllValid.{operators_keep_valid}
use Rattle.b67_intrinsics.specs.declared.hindrance.Hindrance.{Hindrance}
use Rattle.b67_intrinsics.specs.declared.hindrance.Hindrance.TheVariants.{Stopped, NoMemory}
use Rattle.b67_action.specs.Acting.{ComesOrNot}
use Rattle.b67_action.proofs.Ready.{left_valid}

pub stays_valid : (code : Code) (old new : Image) (p : ℕ) (effect : Effect Image) (res : Result (Unit {0}) Hindrance) → IsValid code old → is_able (numbered old.states p) ≡ true
    → table code old p ≡ limited (stack_length p) effect → ComesOrNot p effect old new res → length new.rows ≤ row_limit → IsValid code new
stays_valid code old new p effect (Ok u) v able t x few = operators_keep_valid.able code old new p v able (t ∙ x.outcome) few
stays_valid code old new p effect (Err (Stopped stop)) v able t x few = subst (λ (z : Image). IsValid code z) (sym x.stays) v
stays_valid code old new p effect (Err NoMemory) v able t x few = left_valid code old new v x few
