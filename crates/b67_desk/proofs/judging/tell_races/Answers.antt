use Rattle.std.proofs.Common.{refl, ap, ◌∙◌, List, map}
use Rattle.algol_tree.specs.Image.{program as plain}
use Rattle.b67_races.specs.declared.telling.Race.{Race}
use Rattle.b67_races.specs.Told.{race_of}
use Rattle.b67_races.specs.Texts.{races_text}
use Rattle.b67_desk.specs.declared.status.Status.TheVariants.{Finished}
use Rattle.b67_desk.proofs.Judged.{races_told}
use Rattle.b67_desk.proofs.judging.tell_races.Goals as goal

pub returns : goal.returns
returns c =
    races_told (plain c.args.checked.now.program) c.args.report.now (map race_of c.in_ok-found.found.items) c.in_ok-races_lines.field-0.items Finished
    (c.in_ok-races_lines.ensures ∙ ap (λ (rs : List Race). races_text (map race_of rs)) c.as_slice.ensures.value) refl c.in_ok-found.ensures
