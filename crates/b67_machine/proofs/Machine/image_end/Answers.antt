use Rattle.std.proofs.Common.{◌≡◌, refl, sym, subst}
use Rattle.b67_table.specs.Ending.{image_end}
use Rattle.b67_reach.specs.Images.{image_of}
use Rattle.b67_machine.specs.Kept.{MachineModel}
use Rattle.b67_machine.specs.Machines.{with_failure}
use Rattle.b67_machine.specs.Reads.{shown_end}
use Rattle.b67_machine.proofs.Ends.{ended_by_found}
use Rattle.b67_machine.proofs.Machine.image_end.Goals as goal

pub returns : goal.returns
returns g c =
    let m : MachineModel = record {
      code = c.self.inside.parts.code;
      image = with_failure (image_of (g.C.Core.stacks c.self.inside.core) (g.C.Core.rows c.self.inside.core) c.self.inside.kernel c.self.inside.parts) c.self.inside.failure;
      counts = c.self.inside.counts.items;
      released = c.self.inside.parts.woken.processes.items;
      limit = c.self.inside.limit;
      lacked = c.self.inside.lacked;
      letter = c.self.inside.letter;
    } in
    subst (λ (k : MachineModel). c.ended_by.result ≡ shown_end (image_end k.image)) c.self.view_is
    (sym (ended_by_found m c.self.inside.failure c.as_slice-states.result.now c.first_ended.result c.some_able.result c.some_lives.result c.ended_by.result refl
    c.as_slice-states.ensures.value c.first_ended.ensures c.some_able.ensures c.some_lives.ensures c.ended_by.ensures))
