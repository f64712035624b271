use Rattle.std.proofs.Common.{◌⊎◌, sym, ap, subst, ℕ, ◌≤◌, List, [], length, arith}
use Rattle.b67_segment.specs.declared.code.Code.{Code}
use Rattle.b67_table.specs.Image.{Image}
use Rattle.b67_outcomes.specs.Entering.{HistoryLeadsTo}
use Rattle.b67_outcomes.specs.Finding.{first, IsSearched}
use Rattle.b67_outcomes.specs.Kept.{IsSame, AreNotExpanded, IsHeld, IsTree}
use Rattle.b67_outcomes.proofs.Histories.{led_none, after_none, ok_both}
use Rattle.b67_outcomes.proofs.Rooms.{begun}
use Rattle.b67_outcomes.proofs.Trees.{first_kept}
use Rattle.b67_outcomes.proofs.search.begin.Goals as goal

pub arrive-requires-clause-stands : goal.arrive-requires-clause-stands
arrive-requires-clause-stands g c =
    let code = g.W.Walker.code c.restart.new.self in
    let here = g.W.Walker.image c.restart.new.self in
    after_none code c.args.found.now.steps.items 0 c.args.path.now.items here c.requires.empty
    (record { history = []; is = first; leads = subst (λ (x : Image). HistoryLeadsTo code [] x) (sym c.in_ok-restart.ensures.first) (led_none code) })

pub arrive-requires-clause-room : goal.arrive-requires-clause-room
arrive-requires-clause-room g c = begun (g.W.Walker.Room c.restart.new.self) _ c.in_ok-restart.ensures.room

pub arrive-requires-clause-short : goal.arrive-requires-clause-short
arrive-requires-clause-short g c = omega (arith, ap (λ (z : List ℕ). length z) c.requires.empty)

pub returns-clause-tree : goal.returns-clause-tree
returns-clause-tree g c =
    let code = g.W.Walker.code c.args.walker.now in
    let Local = g.W.Walker.Local code in
    let begun = g.W.Walker.code c.restart.new.self in
    let img = g.W.Walker.image c.restart.new.self in
    let old = c.args.found.now in
    let new = c.arrive.new.found in
    let path = c.args.path.now.items in
    ok_both c.arrive.result (λ u. IsSearched begun c.args.most new) (λ u. IsSame c.args.most old new ⊎ IsHeld begun (g.W.Walker.Local begun) old 0 path img new)
    (λ u. IsTree code Local new × AreNotExpanded new 0 × (1 ≤ length new.states.items))
    (λ u s keeps.
    first_kept code Local c.args.most path img old new c.requires.some c.requires.no_steps c.requires.no_states
    (subst (λ (k : Code). IsSearched k c.args.most new) c.restart.ensures.code s) c.requires.empty c.in_ok-restart.ensures.first
    (subst (λ (k : Code). IsSame c.args.most old new ⊎ IsHeld k (g.W.Walker.Local k) old 0 path img new) c.restart.ensures.code keeps))
    c.arrive.ensures.searched c.arrive.ensures.keeps
