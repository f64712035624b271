use Rattle.std.proofs.Common.{rules, ◌≡◌, subst}
use Rattle.algol_tree.specs.Scopes.{scopes_of}
use Rattle.algol_meaning.specs.Run.{start}
use Rattle.algol_cells.specs.SeenScope.{scoped}
use Rattle.algol_world.specs.SeenWorld.{world_of}
use Rattle.b67_judge.specs.Walked.{WalksBeside}
use Rattle.b67_judge.specs.declared.walking.Walked.{Walked}
use Rattle.b67_judge.specs.declared.walking.Walked.TheVariants.{Whole, Stopped}
use Rattle.b67_dump.proofs.Shown.{illegal_so, shown_so}
use Rattle.b67_dump.proofs.dumping.shown.Goals as goal

pub returns-in-Stopped : goal.returns-in-Stopped
returns-in-Stopped c = λ tree done e walks.
    let is : c.args.walked ≡ Stopped c.in-Stopped.entry = search rules in
    illegal_so tree done (world_of c.args.world.now) c.in-Stopped.entry
    (subst (λ (x : Walked). WalksBeside (scopes_of tree) done (start (scopes_of tree)) (world_of c.args.world.now) x) is walks)

pub returns-in_ok-snapshot-in-Whole : goal.returns-in_ok-snapshot-in-Whole
returns-in_ok-snapshot-in-Whole c = λ tree done e walks.
    let is : c.args.walked ≡ Whole = search rules in
    shown_so tree done (world_of c.args.world.now) (scoped c.args.world.now.scopes) _ e
    (subst (λ (x : Walked). WalksBeside (scopes_of tree) done (start (scopes_of tree)) (world_of c.args.world.now) x) is walks)
    (search rules)
