-- What the operator of an action does in an image of a world.
use Rattle.std.specs.Prelude.{◌≡◌, ℕ, ◌<◌, true, false, Some}
use Rattle.b67_letters.specs.Letters.{letter}
use Rattle.b67_num.specs.declared.FaultKind.{FaultKind}
use Rattle.algol_tree.specs.Plain.{PProgram}
use Rattle.algol_tree.specs.Scopes.{Scopes, scopes_of}
use Rattle.algol_meaning.specs.World.{World, is_able, process_at, instance_at}
use Rattle.algol_meaning.specs.Choice.{choice}
use Rattle.algol_standing.specs.Worlds.{IsStanding, IsWholeInstance}
use Rattle.algol_standing.specs.Fitting.{IsOk}
use Rattle.algol_standing.specs.Lows.{IsLow, IsMaking}
use Rattle.b67_segment.specs.declared.code.Code.{Code}
use Rattle.b67_templates.specs.Programs.{Texts}
use Rattle.b67_store.specs.Store.{stack_limit}
use Rattle.b67_table.specs.Outcome.{gives, faults, limit}
use Rattle.b67_table.specs.Image.{Image}
use Rattle.b67_table.specs.Ending.{failed}
use Rattle.b67_table.specs.Table.{table, plain}
use Rattle.b67_faithful.specs.Weight.{weight}
use Rattle.b67_scenes.specs.Pictures.{Pictures}

-- The process may act: it is able, and the world after its action is as worlds are. There nobody has come to what another process makes in an instance,
-- nor to what has been made by the action in one that has something to make.
pub record MayAct (sc : Scopes) (w : World) (p : ℕ) : Type 0 where
  pub able : is_able ((process_at w p).state) ≡ true
  pub ok : IsOk sc IsWholeInstance ((choice sc w p).world)
  pub others : (i : ℕ) → IsStanding w i → ((instance_at w i).process ≡ p → ⊥) → IsLow sc w i → IsLow sc ((choice sc w p).world) i
  pub making : (i : ℕ) → IsMaking w i → IsLow sc ((choice sc w p).world) i

module _ (tree : PProgram) (code : Code) (texts : Texts) (w : World) (img : Image) (p : ℕ) where
  -- It is the source's action, and gives an image of the world after it where the process may act, or keeps the source's fault. Or it comes
  -- to the stack limit, where the process weighs more than a stack has room for.
  pub data Does : Type 0 where
    gave : (after : Image) → plain code img p ≡ false → table code img p ≡ gives after → letter code img p ≡ Some ((choice (scopes_of tree) w p).action) →
        (MayAct (scopes_of tree) w p → Pictures tree code texts ((choice (scopes_of tree) w p).world) after) → Does
    failed_by : (kind : FaultKind) → plain code img p ≡ false → table code img p ≡ faults kind → letter code img p ≡ Some ((choice (scopes_of tree) w p).action) →
        Pictures tree code texts ((choice (scopes_of tree) w p).world) (failed img p kind) → Does
    stopped : plain code img p ≡ false → table code img p ≡ limit → stack_limit < weight tree w p → Does
