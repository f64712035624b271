use Rattle.std.proofs.Common.{◌∙◌, ap}
use Rattle.b67_control.specs.Control.{descriptor_word}
use Rattle.b67_descriptor.proofs.Rows.{added_is}
use Rattle.b67_descriptor.proofs.arrays.add_row.Goals as goal

pub returns-clause-added : goal.returns-clause-added
returns-clause-added g c =
    added_is (g.C.Core.rows c.args.core.now) (g.C.Core.rows c.open.new.core) (g.C.Core.rows c.write_row.new.self) c.args.mother c.args.at c.args.count
    c.in_ok-row.row c.pack-word.result _ c.requires.there c.requires.within c.in_ok-row.ensures.number.0 c.in_ok-row.ensures.rows
    (c.pack-word.ensures ∙ ap descriptor_word c.descriptor.ensures.value) c.write_row.ensures.found c.write_row.ensures.rows
