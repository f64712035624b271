use Rattle.std.proofs.Common.{◌≡◌, sym, ap, ◌∙◌, Some, Ok, Err}
use Rattle.b67_control.specs.Control.{as_sirw}
use Rattle.b67_table.specs.declared.Cell.{Cell}
use Rattle.b67_table.specs.Look.{look_seen}
use Rattle.b67_table.specs.References.{named, sirw_cell}
use Rattle.b67_reach.specs.Answers.{looked}
use Rattle.b67_reach.proofs.Looking.{second_is_refused}
use Rattle.b67_reach.proofs.reading.reached.Goals as goal

pub returns-in-Some-unpack-clause-value : goal.returns-in-Some-unpack-clause-value
returns-in-Some-unpack-clause-value g c =
    let st = g.C.Core.stacks c.args.core.now in
    let e : Ok c.in_ok-first.first ≡ looked (look_seen st (named c.args.cell)) = sym c.in_ok-first.was ∙ c.named.ensures.value in
    let f : as_sirw c.in_ok-first.first.word ≡ Some c.in-Some.sirw = sym c.unpack.ensures.value ∙ c.in-Some.is in
    let h : Ok c.in_ok-second.second ≡ looked (look_seen st (named (Some (sirw_cell c.in-Some.sirw)))) =
    sym c.in_ok-second.was ∙ c.named-2.ensures.value ∙ ap (λ (x : Cell). looked (look_seen st (named (Some x)))) c.sirw_cell.ensures in
    let i : as_sirw c.in_ok-second.second.word ≡ Some c.in-Some-unpack.field-0 = sym c.unpack-2.ensures.value ∙ c.in-Some-unpack.is in
    ap Err c.invalid.ensures
    ∙ second_is_refused st c.args.cell c.in_ok-first.first c.in_ok-second.second c.in-Some.sirw c.in-Some-unpack.field-0 e f h i
