-- How an image pictures a world.
use Rattle.std.specs.Prelude.{◌≡◌, ℕ, ◌+◌, ◌≤◌, true, List, [], ◌∷◌, length, Option, Some, None}
use Rattle.b67_list.specs.Numbered.{numbered}
use Rattle.algol_tree.specs.Plain.{PProgram}
use Rattle.algol_tree.specs.Scopes.{scopes_of}
use Rattle.algol_meaning.specs.World.{Part, Process, ended, lives, WorldFault, World, instance_at}
use Rattle.b67_segment.specs.declared.code.Code.{Code}
use Rattle.b67_templates.specs.Programs.{Texts}
use Rattle.b67_store.specs.Store.{stack_at, stack_limit}
use Rattle.b67_control.specs.Display.{place_at}
use Rattle.b67_table.specs.Beginning.{system_stack}
use Rattle.b67_table.specs.Chains.{place}
use Rattle.b67_table.specs.Limits.{most_processes}
use Rattle.b67_table.specs.declared.ProcessState.TheVariants.{Ended}
use Rattle.b67_table.specs.Image.{Image, Failure}
use Rattle.b67_cores.specs.Cores.{Core, size, HasCore, CoreSteps}
use Rattle.b67_faithful.specs.Weight.{weight}
use Rattle.b67_frames.specs.Arrays.{Layout, ArraysAre}
use Rattle.b67_frames.specs.Events.{EventsAre}
use Rattle.b67_frames.specs.Frames.{most_around, Frames}
use Rattle.b67_scenes.specs.Reaches.{ReachesFor}
use Rattle.b67_scenes.specs.Depending.{CriticalIs, TaskIs}
use Rattle.b67_scenes.specs.States.{StateIs}
use Rattle.b67_scenes.specs.Waiting.{WaitsAre}

-- the fault that ended a world, as one of an image
abbrev pub failure_of : Option WorldFault → Option Failure
failure_of None = None
failure_of (Some f) = Some (record { kind = f.kind; process = f.process })

-- how many words may lie above the cells of the innermost part
abbrev pub innermost_most : PProgram → World → List Part → ℕ
innermost_most tree w [] = 0
innermost_most tree w (part ∷ outer) = most_around tree ((instance_at w part.instance).block)

module _ (tree : PProgram) (code : Code) (texts : Texts) (w : World) (lay : Layout) (img : Image) where
  -- A process that lives comes by private operators only to where its core stands for its parts.
  pub record Living (p : ℕ) (q : Process) : Type 0 where
    pub core : Core
    pub has : HasCore img p core
    -- where the frame of its critical instance lies, and the event of its task
    pub critical : CriticalIs lay q.critical core.registers.critical
    pub task : TaskIs (scopes_of tree) w lay q.task core.registers.task
    -- level 0 of its display is the system's stack
    pub sees : place_at core.registers.display 0 ≡ Some (place 0 0)
    -- its stack is no longer than a stack may be
    pub small : size core ≤ stack_limit
    pub settled : Core
    pub bound : ℕ
    pub count : ℕ
    pub steps : CoreSteps code bound count core settled
    pub frames : Frames tree code texts w lay p q.todo settled
    -- on its way there it has all of its innermost frame that others may look at
    pub reaches : ReachesFor (scopes_of tree) w lay p q.todo core settled
    pub room : length settled.below + innermost_most tree w q.todo ≤ bound
    pub light : bound + 3 ≤ weight tree w p

  pub data Pictured (p : ℕ) (q : Process) : Type 0 where
    living : lives q.state ≡ true → StateIs (scopes_of tree) w lay q.state (numbered img.states p) → Living p q → Pictured p q
    dead : q.state ≡ ended → numbered img.states p ≡ Some Ended → Pictured p q

  pub record PicturesBy : Type 0 where
    pub laid : length lay.places ≡ length w.instances
    pub arrays : ArraysAre (scopes_of tree) w lay img.rows
    pub events : EventsAre (scopes_of tree) w lay img.events
    pub waits : WaitsAre (scopes_of tree) w lay img
    pub output : img.output ≡ w.output
    pub fault : img.fault ≡ failure_of w.fault
    pub started : img.started ≡ length w.processes
    -- it has registers for as many processes as there have been
    pub counted : length img.regs ≡ img.started
    pub few : length w.processes ≤ most_processes
    pub states : length img.states ≡ length w.processes
    pub system : stack_at img.stacks 0 ≡ Some system_stack
    pub each : (p : ℕ) (q : Process) → numbered w.processes p ≡ Some q → Pictured p q

-- an image pictures a world: for some layout of the frames of its instances
abbrev pub Pictures : PProgram → Code → Texts → World → Image → Type 0
Pictures tree code texts w img = (lay : Layout) × PicturesBy tree code texts w lay img
