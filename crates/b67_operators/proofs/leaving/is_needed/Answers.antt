use Rattle.std.proofs.Common.{sym, ◌∙◌}
use Rattle.std.specs.List.{list_any}
use Rattle.b67_events.specs.Events.{same_place}
use Rattle.b67_table.specs.Questions.{live_criticals}
use Rattle.b67_list.proofs.Truths.{or_false}
use Rattle.b67_operators.proofs.leaving.is_needed.Goals as goal

pub returns : goal.returns
returns c =
    c.is_critical.ensures ∙ sym (or_false (list_any (same_place c.args.frame) (live_criticals c.args.states.now c.args.all.now)))
