use Rattle.std.proofs.Common.{sym, ap, ◌∙◌, ◌-◌, Option, Result, Some, None, Ok, Err, arith}
use Rattle.b67_word.specs.declared.Place.{Place}
use Rattle.b67_table.specs.Starting.{on_path}
use Rattle.b67_reach.specs.declared.Stop.{Stop}
use Rattle.b67_going.specs.Paths.{needed}
use Rattle.b67_going.proofs.Leading.{leads_to, leads_out, leads_nowhere, leads_on, no_stacks, same_lead, same_then, same_first}
use Rattle.b67_going.proofs.paths.on_path.Goals as goal

abbrev ok : Option Place → Result (Option Place) Stop
ok o = Ok o

pub stacks-init : goal.stacks-init
stacks-init g c =
    let st = g.C.Core.stacks c.args.core.now in record { rest = same_first (on_path c.args.stacks (needed st c.args.needs.now) c.args.from) st c.args.regs.now }

pub returns-in-Err : goal.returns-in-Err
returns-in-Err g c =
    let st = g.C.Core.stacks c.args.core.now in
    let wanted = needed st c.args.needs.now in
    same_lead (on_path c.args.stacks wanted c.args.from) (on_path c.stacks.left wanted c.stacks.frame) st c.args.regs.now (Err c.in-Err.stop) c.stacks.invariant.rest
    (leads_out st c.args.regs.now wanted c.stacks.frame c.stacks.left c.in-Err.stop c.stacks-test.true (sym c.in-Err.is ∙ c.met.ensures))

pub returns-in-Some : goal.returns-in-Some
returns-in-Some g c =
    let st = g.C.Core.stacks c.args.core.now in
    let wanted = needed st c.args.needs.now in
    same_lead (on_path c.args.stacks wanted c.args.from) (on_path c.stacks.left wanted c.stacks.frame) st c.args.regs.now (Ok (Some c.in-Some.place)) c.stacks.invariant.rest
    (leads_to st c.args.regs.now wanted c.stacks.frame c.stacks.left c.in-Some.place c.stacks-test.true
    (sym (c.in-Ok.is ∙ ap (λ (o : Option Place). ok o) c.in-Some.is) ∙ c.met.ensures))

pub returns-in-None : goal.returns-in-None
returns-in-None g c =
    let st = g.C.Core.stacks c.args.core.now in
    let wanted = needed st c.args.needs.now in
    same_lead (on_path c.args.stacks wanted c.args.from) (on_path c.stacks.left wanted c.stacks.frame) st c.args.regs.now (Ok None) c.stacks.invariant.rest
    (leads_nowhere st c.args.regs.now wanted c.stacks.frame c.stacks.left c.stacks-test.true
    (sym (c.in-Ok.is ∙ ap (λ (o : Option Place). ok o) c.in_default.is) ∙ c.met.ensures) (sym c.critical_of.ensures ∙ c.in-None.is))

pub stacks-preserved : goal.stacks-preserved
stacks-preserved g c =
    let st = g.C.Core.stacks c.args.core.now in
    let wanted = needed st c.args.needs.now in
    record {
      rest = same_then (on_path c.args.stacks wanted c.args.from) (on_path c.stacks.left wanted c.stacks.frame) (on_path (c.stacks.left - 1) wanted c.in-Some-critical_of.lower) st c.args.regs.now
          c.stacks.invariant.rest
          (leads_on st c.args.regs.now wanted c.stacks.frame c.stacks.left c.in-Some-critical_of.lower c.stacks-test.true
          (sym (c.in-Ok.is ∙ ap (λ (o : Option Place). ok o) c.in_default.is) ∙ c.met.ensures) (sym c.critical_of.ensures ∙ c.in-Some-critical_of.is));
    }

pub returns : goal.returns
returns g c =
    let st = g.C.Core.stacks c.args.core.now in
    let wanted = needed st c.args.needs.now in
    same_lead (on_path c.args.stacks wanted c.args.from) (on_path c.stacks.left wanted c.stacks.frame) st c.args.regs.now (Ok None) c.stacks.invariant.rest
    (no_stacks st c.args.regs.now wanted c.stacks.frame c.stacks.left (omega (arith, c.stacks-test.false)))
