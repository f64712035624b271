-- What comes of a step: the process may not go, or it goes as the meaning chooses, and the world has an end then or goes on.
use Rattle.std.specs.Prelude.{ℕ, ◌||◌, not, if◌then◌else◌, Bool, true, false, Option, Some, None}
use Rattle.algol_tree.specs.Scopes.{Scopes}
use Rattle.algol_meaning.specs.World.{World, lives, process_at}
use Rattle.algol_meaning.specs.Choice.{Choice, choice}
use Rattle.algol_meaning.specs.Run.{End, end_of, may_go}
use Rattle.algol_world.specs.SeenActed.{acted_choice}
use Rattle.algol_run.specs.declared.stepping.Stepped.{Stepped}
use Rattle.algol_run.specs.declared.stepping.Stepped.TheVariants as stepped

pub data RunStep : Type 0 where
  -- the process is not able, or the world had an end
  not_able : RunStep
  -- the choice was done, and the world goes on
  went : Choice → RunStep
  -- the choice was done, and the world has an end
  ended : Choice → RunStep

abbrev pub chosen_by : Option End → Choice → RunStep
chosen_by None c = went c
chosen_by (Some e) c = ended c

abbrev pub step_by : Bool → Choice → RunStep
step_by may c = if may then chosen_by (end_of c.world) c else not_able

abbrev pub step_of : Scopes → World → ℕ → RunStep
step_of sc w p = step_by (may_go w p) (choice sc w p)

-- what the code tells of a step, after which the world is that
abbrev pub told_step : Stepped → World → RunStep
told_step stepped.NotAble after = not_able
told_step (stepped.Went a) after = went (acted_choice a after)
told_step (stepped.Ended a) after = ended (acted_choice a after)

abbrev pub is_going : Stepped → Bool
is_going (stepped.Went a) = true
is_going (stepped.Ended a) = true
is_going stepped.NotAble = false

abbrev pub is_kept : {A : Type 0} → Option A → Bool
is_kept None = false
is_kept (Some x) = true

-- process 1 has ended, or a fault is kept
abbrev pub is_over : World → Bool
is_over w = not (lives ((process_at w 1).state)) || is_kept w.fault
