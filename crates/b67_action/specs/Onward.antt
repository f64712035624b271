-- What an action comes to that nothing stops, and that leaves its process able.
use Rattle.std.specs.Prelude.{◌≡◌, ℕ, List, [], Option, Some, None, Ok}
use Rattle.b67_control.specs.declared.Registers.{Registers}
use Rattle.b67_ops.specs.declared.Operator.{Operator}
use Rattle.b67_segment.specs.declared.code.Code.{Code}
use Rattle.b67_letters.specs.Releases.{releases}
use Rattle.b67_table.specs.Image.{Image}
use Rattle.b67_table.specs.Valid.{IsValid}
use Rattle.b67_private.specs.declared.operators.Row.{Row as Ready}
use Rattle.b67_private.specs.declared.operators.Row.TheVariants as ready
use Rattle.b67_action.specs.declared.done.Done.TheVariants.{Went}
use Rattle.b67_action.specs.declared.rows.Row.{Row}
use Rattle.b67_action.specs.declared.rows.Row.TheVariants as rows
use Rattle.b67_action.specs.Able.{AbleAfter}
use Rattle.b67_action.specs.Acting.{row_effect, RowReleases}
use Rattle.b67_action.specs.Among.{EffectComes}
use Rattle.b67_action.specs.Done.{Came}

-- the next operator of a process was performed, released these, and the process goes on
pub record HasGone (code : Code) (old : Image) (p : ℕ) (new : Image) (released : List ℕ) : Type 0 where
  pub came : Came code old p Went new
  pub woken : released ≡ releases code old p
  pub able : AbleAfter old new p released
  pub valid : IsValid code new

-- the action of a row that was made ready
abbrev pub action_of : Ready → Option Row
action_of (ready.Words kind) = Some (rows.Words kind)
action_of ready.Exit = Some rows.Exit
action_of ready.ReturnValue = Some rows.ReturnValue
action_of ready.Enter = Some rows.Enter
action_of _ = None

-- an action of a process is performed, and releases nobody
abbrev pub GoesBy : Option Row → Code → ℕ → ℕ → Option Registers → Image → Image → Type 0
GoesBy None code next p regs old new = ⊥
GoesBy (Some w) code next p regs old new = ((op : Operator) → EffectComes {A = Unit {0}} p (row_effect w code op next p regs old) old new (Ok (tt {0}))) × RowReleases w old regs [] []
