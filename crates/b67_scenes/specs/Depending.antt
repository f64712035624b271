-- On which frame a process depends, and the event of its task.
use Rattle.std.specs.Prelude.{◌≡◌, ℕ, ◌+◌, Option, Some, None}
use Rattle.b67_list.specs.Numbered.{numbered}
use Rattle.algol_tree.specs.Blocks.{block_numbered}
use Rattle.algol_tree.specs.Scopes.{Scopes}
use Rattle.algol_meaning.specs.Value.{Reference}
use Rattle.algol_meaning.specs.World.{World, instance_at}
use Rattle.b67_word.specs.declared.Place.{Place}
use Rattle.b67_table.specs.Chains.{place}
use Rattle.b67_templates.specs.Cells.{made_base}
use Rattle.b67_frames.specs.Arrays.{Layout, IsEventOf}

-- a process has no critical instance, and no critical place; or that is the place of the frame of its critical instance
abbrev pub CriticalIs : Layout → Option ℕ → Option Place → Type 0
CriticalIs lay None at = at ≡ None
CriticalIs lay (Some c) at = (frame : Place) × (at ≡ Some frame) × (numbered lay.places c ≡ Some frame)

module _ (sc : Scopes) (w : World) (lay : Layout) where
  -- the cell of the event to which this leads lies at this place
  pub record IsEventAt (r : Reference) (at : Place) : Type 0 where
    pub made : IsEventOf sc w lay r.instance r.name
    pub frame : Place
    pub laid : numbered lay.places r.instance ≡ Some frame
    pub at_is : at ≡ place frame.stack (frame.at + (made_base sc (block_numbered sc.blocks ((instance_at w r.instance).block)) + made.number))

  -- a process has no task, or its task's event is that at this place
  abbrev pub TaskIs : Option Reference → Option Place → Type 0
  TaskIs None at = at ≡ None
  TaskIs (Some r) at = (there : Place) × (at ≡ Some there) × IsEventAt r there
