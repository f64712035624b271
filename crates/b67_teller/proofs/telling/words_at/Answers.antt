use Rattle.std.proofs.Common.{sym, subst, ◌∙◌, length, arith}
use Rattle.b67_segment.specs.declared.code.Code.{Code}
use Rattle.b67_table.specs.Image.{Image}
use Rattle.b67_outcomes.specs.Entering.{HistoryLeads, Stops}
use Rattle.b67_outcomes.proofs.Determined.{led_one}
use Rattle.b67_outcomes.proofs.Rooms.{for_one}
use Rattle.b67_teller.proofs.telling.words_at.Goals as goal

pub stop-requires-clause-may : goal.stop-requires-clause-may
stop-requires-clause-may g c = c.requires.may (g.T.Walker.image c.perform.new.walker) c.in_ok-perform.ensures.led

pub stop-requires-clause-stops : goal.stop-requires-clause-stops
stop-requires-clause-stops g c =
    let here = g.T.Walker.image c.perform.new.walker in
    let s = c.requires.stops here c.in_ok-perform.ensures.led in
    (s.0, subst (λ (k : Code). Stops k c.args.process here s.0) (sym c.perform.ensures.code) s.1)

pub stop-requires-clause-room : goal.stop-requires-clause-room
stop-requires-clause-room g c =
    for_one (g.T.Walker.Room c.perform.new.walker) (length c.args.history.now) c.requires.short c.in_ok-perform.ensures.room

pub perform-requires-2 : goal.perform-requires-2
perform-requires-2 g c =
    record {
      known = subst (λ (k : Code). g.T.Walker.Known k) (sym (c.stop.ensures.code ∙ c.perform.ensures.code)) c.requires.known;
      leads = subst (λ (k : Code). HistoryLeads k c.args.history.now) (sym (c.stop.ensures.code ∙ c.perform.ensures.code)) c.requires.leads;
      short = omega (arith, c.requires.short);
    }

pub returns-clause-words : goal.returns-clause-words
returns-clause-words g c = λ img quiet leads stops.
    c.in_ok-words.ensures.words quiet
    (subst (λ (k : Code). Stops k c.args.process (g.T.Walker.image c.perform.new.walker) quiet) (sym c.perform.ensures.code)
    (subst (λ (x : Image). Stops (g.T.Walker.code c.args.teller.now) c.args.process x quiet)
    (led_one (g.T.Walker.code c.args.teller.now) c.args.history.now img (g.T.Walker.image c.perform.new.walker) leads c.in_ok-perform.ensures.led) stops))
