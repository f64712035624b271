use Rattle.std.proofs.Common.{ap, ◌∙◌, Some, if◌then◌else◌}
use Rattle.b67_race.specs.Watching.{Watch, watched}
use Rattle.b67_race.specs.Cells.{quiet, is_cell, standing_in}
use Rattle.b67_race.specs.declared.cells.Kept.TheVariants as kept
use Rattle.b67_race.proofs.Keys.{put_key}
use Rattle.b67_race.proofs.cells.put_first.Goals as goal

pub returns : goal.returns
returns c = λ x.
    put_key c.args.key c.args.cells.now c.insert.new.self (Some (kept.Quiet c.note.new.self)) c.in_ok-insert.ensures.updates x
    ∙ ap (λ (v : Watch). if is_cell c.args.key x then quiet v else standing_in c.args.cells.now x)
    (c.in_ok-note.ensures ∙ ap (λ (v : Watch). watched c.args.storing c.args.now v) c.new-w.ensures)
