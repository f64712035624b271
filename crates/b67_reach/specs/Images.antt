-- The image of a machine: what its store, its kernel and its other parts hold.
use Rattle.std.specs.Prelude.{ℕ, None}
use Rattle.b67_list.specs.Numbered.{set_numbered}
use Rattle.b67_control.specs.declared.Registers.{Registers}
use Rattle.b67_store.specs.Store.{Stacks, Rows}
use Rattle.b67_events.specs.Events.{Events}
use Rattle.b67_table.specs.Image.{Image}
use Rattle.b67_reach.specs.declared.Parts.{Parts}

-- the image of a machine that no fault has ended
abbrev pub image_of : Stacks → Rows → Events → Parts → Image
image_of stacks rows kernel parts =
    record {
      stacks = stacks;
      rows = rows;
      events = kernel.events;
      lists = kernel.lists;
      regs = parts.regs.items;
      states = parts.states.items;
      numbers = parts.numbers.items;
      output = parts.output.items;
      started = parts.started;
      fault = None;
    }

-- what an operator that asks no kernel reads and writes: the stacks, the rows, and the registers of its own process
pub record Own : Type 0 where
  pub stacks : Stacks
  pub rows : Rows
  pub regs : Registers

abbrev pub own_of_image : Stacks → Rows → Registers → Own
own_of_image stacks rows regs = record { stacks = stacks; rows = rows; regs = regs }

-- the image with these in place of what a process had
abbrev pub with_own : Own → ℕ → Image → Image
with_own new p img = record img { stacks = new.stacks; rows = new.rows; regs = set_numbered img.regs p new.regs }
