use Rattle.std.proofs.Common.{◌≡◌, ap, ◌∙◌}
use Rattle.algol_cells.specs.SeenScope.{scoped}
use Rattle.algol_world.specs.SeenWorld.{processes, world_of}
use Rattle.algol_world.specs.Saving.{saved_in}
use Rattle.algol_world.proofs.world.World.save.Goals as goal

pub returns : goal.returns
returns c =
    let w = c.args.self.now in
    let sc = scoped w.scopes in
    let ps : c.deref.result.now ≡ w.processes = c.deref.ensures.value ∙ c.items.ensures in
    let lines : c.deref-2.result.now ≡ w.output = c.deref-2.ensures.value ∙ c.items-2.ensures in
    ap
    (λ (is : _). saved_in sc (record {
      instances = is;
      processes = c.in_ok-copy_processes.field-0;
      output = c.in_ok-copy_lines.field-0;
      fault = w.fault;
    }))
    c.in_ok-copy.ensures
    ∙ ap
    (λ (qs : _). record (world_of w) { processes = qs; output = c.in_ok-copy_lines.field-0 })
    (c.in_ok-copy_processes.ensures sc ∙ ap (processes sc) ps)
    ∙ ap (λ (out : _). record (world_of w) { output = out }) (c.in_ok-copy_lines.ensures ∙ lines)
