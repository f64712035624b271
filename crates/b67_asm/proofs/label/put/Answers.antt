use Rattle.std.proofs.Common.{sym, ◌∙◌}
use Rattle.b67_asm.specs.Labels.{found_in}
use Rattle.b67_asm.proofs.Tables.{label_added, label_stays}
use Rattle.b67_asm.proofs.label.put.Goals as goal

pub returns-then-contains_key : goal.returns-then-contains_key
returns-then-contains_key c = label_stays (found_in c.args.labels.now) c.args.name.now c.args.standing (sym c.contains_key.ensures ∙ c.if-contains_key.true)

pub returns : goal.returns
returns c = λ other.
    c.in_ok-insert.ensures other ∙ label_added (found_in c.args.labels.now) c.args.name.now c.args.standing (sym c.contains_key.ensures ∙ c.if-contains_key.false) other
