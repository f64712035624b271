use Rattle.std.proofs.Common.{rules, ℕ, length, ◌<◌, ap, sym, ◌∙◌, List, take, get_or}
use Rattle.std.proofs.lemmas.List.{take_more}
use Rattle.b67_race.specs.Entries.{entry_is_one_of}
use Rattle.b67_race.specs.Times.{time_of}
use Rattle.b67_race.specs.Timed.{time_in, joined_if}
use Rattle.b67_race.proofs.Timed.{joined_again}
use Rattle.b67_race.proofs.timing.join_all.Goals as goal

pub joining-preserved : goal.joining-preserved
joining-preserved c = λ p q.
    let i = c.joining.process-index in
    let process = get_or c.args.released.now i 0 in
    let less : i < length c.args.released.now = search rules in
    joined_again (take i c.args.released.now) process p (time_in c.args.clocks.now.items p q) (time_of c.args.own.now q) (time_in c.joining.clocks.items p q) (time_in c.join_clock.new.clocks.items p q)
    (c.joining.invariant p q) (c.in_ok-join_clock.ensures p q)
    ∙ ap (λ (ps : List ℕ). joined_if (entry_is_one_of ps p) (time_in c.args.clocks.now.items p q) (time_of c.args.own.now q)) (sym (take_more c.args.released.now i 0 less))
