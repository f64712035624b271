use Rattle.std.proofs.Common.{sym, ap, subst, List, ℕ, length, arith}
use Rattle.b67_outcomes.specs.Entering.{HasRoom, HistoryLeads, HistoryLeadsTo}
use Rattle.b67_outcomes.specs.Finding.{NumberIsAt}
use Rattle.b67_outcomes.proofs.Histories.{history_short, led_leads, ok_map}
use Rattle.b67_outcomes.proofs.Rooms.{after_more}
use Rattle.b67_outcomes.proofs.walking.walk.Goals as goal

pub history_of-requires : goal.history_of-requires
history_of-requires g c = record { found = (c.requires.led.history, c.requires.led.is) }

pub perform-requires : goal.perform-requires
perform-requires g c =
    record {
      known = c.requires.known;
      leads = subst (λ (h : List ℕ). HistoryLeads (g.W.Walker.code c.args.walker.now) h) (sym c.as_slice.ensures.value)
          (led_leads (g.W.Walker.code c.args.walker.now) c.args.steps.now c.args.number c.in_ok-history.history.items c.requires.led c.in_ok-history.ensures);
      short =
          let few = history_short c.args.steps.now c.args.number c.in_ok-history.history.items c.in_ok-history.ensures in
          let same = ap (λ (h : List ℕ). length h) c.as_slice.ensures.value in
          omega (arith, few, same, c.requires.short);
    }

pub returns-clause-room : goal.returns-clause-room
returns-clause-room g c =
    let Room = g.W.Walker.Room c.perform.new.walker in
    let few = history_short c.args.steps.now c.args.number c.in_ok-history.history.items c.in_ok-history.ensures in
    let same = ap (λ (h : List ℕ). length h) c.as_slice.ensures.value in
    ok_map c.perform.result (λ u. HasRoom Room (length c.as_slice.result.now)) (λ u. HasRoom Room c.args.number)
    (λ u r. after_more Room (length c.as_slice.result.now) c.args.number (omega (arith, few, same)) r) c.perform.ensures.room

pub returns-clause-at : goal.returns-clause-at
returns-clause-at g c =
    let code = g.W.Walker.code c.args.walker.now in
    let there = g.W.Walker.image c.perform.new.walker in
    ok_map c.perform.result (λ u. HistoryLeadsTo code c.as_slice.result.now there) (λ u. NumberIsAt code c.args.steps.now c.args.number there)
    (λ u l.
    record { history = c.in_ok-history.history.items; is = c.in_ok-history.ensures; leads = subst (λ (h : List ℕ). HistoryLeadsTo code h there) c.as_slice.ensures.value l })
    c.perform.ensures.led
