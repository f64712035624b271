use Rattle.std.proofs.Common.{subst, Option}
use Rattle.algol_cells.specs.SeenScope.{scoped}
use Rattle.algol_world.specs.SeenWorld.{world_of}
use Rattle.algol_lean.specs.Beside.{SeenBeside}
use Rattle.algol_seen.specs.declared.seen.Seen.{Seen}
use Rattle.b67_storing.proofs.Standing.{goes_more, goes_none}
use Rattle.b67_storing.proofs.walking.go.Goals as goal

pub returns-in-None-clause-goes : goal.returns-in-None-clause-goes
returns-in-None-clause-goes c = λ w end given left legal s.
    let sc = scoped c.args.world.now.scopes in
    let after = world_of c.step_seen_lean.new.world in
    goes_none sc c.args.commands.now w given (world_of c.args.world.now) after c.args.notes.now.items c.args.notes.now.items c.args.before c.args.process left s end legal
    (subst (λ (o : Option Seen). SeenBeside sc s.world c.args.process after o) c.in-None.is (c.in_ok-step_seen_lean.ensures.beside s.world s.beside))

pub returns-in_ok-noted-in-Some-clause-goes : goal.returns-in_ok-noted-in-Some-clause-goes
returns-in_ok-noted-in-Some-clause-goes c = λ w end given left legal s.
    let sc = scoped c.args.world.now.scopes in
    let after = world_of c.step_seen_lean.new.world in
    goes_more sc c.args.commands.now w given (world_of c.args.world.now) after c.args.notes.now.items c.note_store-noted.new.notes.items c.args.before c.args.process left s c.in-Some.seen
    (subst (λ (o : Option Seen). SeenBeside sc s.world c.args.process after o) c.in-Some.is (c.in_ok-step_seen_lean.ensures.beside s.world s.beside))
    c.in_ok-noted-in-Some.ensures
