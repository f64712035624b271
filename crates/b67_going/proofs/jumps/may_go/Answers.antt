use Rattle.std.proofs.Common.{◌≡◌, sym, ap, subst, ◌∙◌, List, Ok, arith}
use Rattle.b67_control.specs.declared.Registers.{Registers}
use Rattle.b67_store.specs.Store.{Stacks}
use Rattle.b67_table.specs.declared.ProcessState.{ProcessState}
use Rattle.b67_table.specs.Chains.{rebuilt}
use Rattle.b67_table.specs.GoingTo.{passed_by, passed_frames}
use Rattle.b67_table.specs.Linkage.{is_critical}
use Rattle.b67_table.specs.Look.{look_seen}
use Rattle.b67_table.specs.Program.{asked}
use Rattle.b67_table.specs.Questions.{live_criticals}
use Rattle.b67_linkage.specs.Leaving.{Cutting}
use Rattle.b67_reach.specs.Answers.{looked}
use Rattle.b67_reach.proofs.Looking.{looked_ok}
use Rattle.b67_going.specs.Targets.{tabled, route}
use Rattle.b67_going.proofs.Gone.{is_broken, is_passed, way_broken, display_broken, other_stack, critical_left, way_open, routes_exit, cut_of, same_cutting, ends_lower}
use Rattle.b67_going.proofs.jumps.may_go.Goals as goal

pub returns-in_err-critical-clause-routes : goal.returns-in_err-critical-clause-routes
returns-in_err-critical-clause-routes g c = λ img s e u.
    let st = g.C.Core.stacks c.args.core.now in
    let r = c.args.regs.now in
    let t = tabled c.args.target.now in
    let places = live_criticals c.args.states.now c.args.all.now in
    let stop = c.in_err-critical.field-0.0 in
    routes_exit r t img c.from_residual.result stop c.from_residual.ensures.1
    (λ p next. way_broken img r t p next stop (is_broken st places r t.frame stop c.in_err-critical.ensures ∙ ap (λ (z : Stacks). looked (look_seen z (passed_by r t.frame))) (sym s)))

pub returns-in_err-display_of-clause-routes : goal.returns-in_err-display_of-clause-routes
returns-in_err-display_of-clause-routes g c = λ img s e u.
    let st = g.C.Core.stacks c.args.core.now in
    let r = c.args.regs.now in
    let t = tabled c.args.target.now in
    let places = live_criticals c.args.states.now c.args.all.now in
    let way = is_passed st places r t.frame c.in_ok-critical.critical c.in_ok-critical.ensures in
    let is : look_seen img.stacks (passed_by r t.frame) ≡ Ok way.passing = ap (λ (z : Stacks). look_seen z (passed_by r t.frame)) s ∙ way.is in
    let stop = c.in_err-display_of.field-0.0 in
    routes_exit r t img c.from_residual-in_err-display_of.result stop c.from_residual-in_err-display_of.ensures.1
    (λ p next. display_broken img r t p next way.passing is stop (c.in_err-display_of.ensures ∙ ap (λ (z : Stacks). looked (look_seen z (rebuilt t.frame t.level))) (sym s)))

pub returns-then-target-regs-clause-routes : goal.returns-then-target-regs-clause-routes
returns-then-target-regs-clause-routes g c = λ img s e u p next.
    let st = g.C.Core.stacks c.args.core.now in
    let r = c.args.regs.now in
    let t = tabled c.args.target.now in
    let places = live_criticals c.args.states.now c.args.all.now in
    let way = is_passed st places r t.frame c.in_ok-critical.critical c.in_ok-critical.ensures in
    let is : look_seen img.stacks (passed_by r t.frame) ≡ Ok way.passing = ap (λ (z : Stacks). look_seen z (passed_by r t.frame)) s ∙ way.is in
    let shape : look_seen st (rebuilt t.frame t.level) ≡ Ok c.in_ok-display_of.field-0 = looked_ok (look_seen st (rebuilt t.frame t.level)) c.in_ok-display_of.field-0 c.in_ok-display_of.ensures in
    let has : look_seen img.stacks (rebuilt t.frame t.level) ≡ Ok c.in_ok-display_of.field-0 = ap (λ (z : Stacks). look_seen z (rebuilt t.frame t.level)) s ∙ shape in
    other_stack img r t p next way.passing is c.in_ok-display_of.field-0 has c.if-target-regs.true

pub returns-then-critical-clause-routes : goal.returns-then-critical-clause-routes
returns-then-critical-clause-routes g c = λ img s e u p next.
    let st = g.C.Core.stacks c.args.core.now in
    let r = c.args.regs.now in
    let t = tabled c.args.target.now in
    let places = live_criticals c.args.states.now c.args.all.now in
    let way = is_passed st places r t.frame c.in_ok-critical.critical c.in_ok-critical.ensures in
    let is : look_seen img.stacks (passed_by r t.frame) ≡ Ok way.passing = ap (λ (z : Stacks). look_seen z (passed_by r t.frame)) s ∙ way.is in
    let shape : look_seen st (rebuilt t.frame t.level) ≡ Ok c.in_ok-display_of.field-0 = looked_ok (look_seen st (rebuilt t.frame t.level)) c.in_ok-display_of.field-0 c.in_ok-display_of.ensures in
    let has : look_seen img.stacks (rebuilt t.frame t.level) ≡ Ok c.in_ok-display_of.field-0 = ap (λ (z : Stacks). look_seen z (rebuilt t.frame t.level)) s ∙ shape in
    let critical : is_critical r.stack (passed_frames way.passing.frames) (live_criticals img.states img.regs) ≡ c.in_ok-critical.critical =
    ap (λ (z : List ProcessState). is_critical r.stack (passed_frames way.passing.frames) (live_criticals z img.regs)) e
    ∙ ap (λ (z : List Registers). is_critical r.stack (passed_frames way.passing.frames) (live_criticals c.args.states.now z)) u ∙ way.critical in
    critical_left img r t p next way.passing is c.in_ok-display_of.field-0 has c.if-target-regs.false (critical ∙ c.if-critical.true)

pub returns-clause-routes : goal.returns-clause-routes
returns-clause-routes g c = λ img s e u k cut next.
    let st = g.C.Core.stacks c.args.core.now in
    let r = c.args.regs.now in
    let t = tabled c.args.target.now in
    let places = live_criticals c.args.states.now c.args.all.now in
    let way = is_passed st places r t.frame c.in_ok-critical.critical c.in_ok-critical.ensures in
    let is : look_seen img.stacks (passed_by r t.frame) ≡ Ok way.passing = ap (λ (z : Stacks). look_seen z (passed_by r t.frame)) s ∙ way.is in
    let shape : look_seen st (rebuilt t.frame t.level) ≡ Ok c.in_ok-display_of.field-0 = looked_ok (look_seen st (rebuilt t.frame t.level)) c.in_ok-display_of.field-0 c.in_ok-display_of.ensures in
    let has : look_seen img.stacks (rebuilt t.frame t.level) ≡ Ok c.in_ok-display_of.field-0 = ap (λ (z : Stacks). look_seen z (rebuilt t.frame t.level)) s ∙ shape in
    let critical : is_critical r.stack (passed_frames way.passing.frames) (live_criticals img.states img.regs) ≡ c.in_ok-critical.critical =
    ap (λ (z : List ProcessState). is_critical r.stack (passed_frames way.passing.frames) (live_criticals z img.regs)) e
    ∙ ap (λ (z : List Registers). is_critical r.stack (passed_frames way.passing.frames) (live_criticals c.args.states.now z)) u ∙ way.critical in
    let found = cut_of img.stacks r t.frame t.level way.passing c.in_ok-display_of.field-0 is has in
    subst (λ (x : Cutting). asked img (route r t next) ≡ asked img (next x.passing x.display))
    (same_cutting (record { passing = way.passing; display = c.in_ok-display_of.field-0 }) k (sym found ∙ cut))
    (way_open img r t 0 next way.passing is c.in_ok-display_of.field-0 has c.if-target-regs.false (critical ∙ c.if-critical.false))

pub returns-clause-clear : goal.returns-clause-clear
returns-clause-clear g c =
    let st = g.C.Core.stacks c.args.core.now in
    let r = c.args.regs.now in
    let t = tabled c.args.target.now in
    let places = live_criticals c.args.states.now c.args.all.now in
    let way = is_passed st places r t.frame c.in_ok-critical.critical c.in_ok-critical.ensures in
    let shape : look_seen st (rebuilt t.frame t.level) ≡ Ok c.in_ok-display_of.field-0 = looked_ok (look_seen st (rebuilt t.frame t.level)) c.in_ok-display_of.field-0 c.in_ok-display_of.ensures in (
      record { passing = way.passing; display = c.in_ok-display_of.field-0 },
      cut_of st r t.frame t.level way.passing c.in_ok-display_of.field-0 way.is shape,
      omega (arith, ends_lower st r t.frame way.passing c.if-target-regs.false way.is, c.requires.linked.above, c.requires.linked.room),
    )
