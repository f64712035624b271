use Rattle.b67_words.proofs.Commands.{seed_read, no_seed_read, no_rule_read}
use Rattle.b67_words.proofs.seed_rule.Goals as goal

pub returns-in_default : goal.returns-in_default
returns-in_default c = no_rule_read c.args.text.now c.in_default.ensures.cases c.requires.fifo c.requires.lifo

pub returns-in-Some-from_zero : goal.returns-in-Some-from_zero
returns-in-Some-from_zero c =
    let cut = c.in-Some.ensures.cases in
    seed_read c.args.text.now c.in-Some.numeral.now cut.0 cut.1.0 cut.1.1 cut.2 c.in-Some-from_zero.seed c.in-Some-from_zero.ensures

pub returns-in-None : goal.returns-in-None
returns-in-None c =
    let cut = c.in-Some.ensures.cases in
    no_seed_read c.args.text.now c.in-Some.numeral.now cut.0 cut.1.0 cut.1.1 cut.2 c.requires.fifo c.requires.lifo c.in-None.ensures
