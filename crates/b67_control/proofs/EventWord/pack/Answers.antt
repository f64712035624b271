use Rattle.std.proofs.Common.{refl}
use Rattle.b67_control.specs.Control.{event_layout, event_values, event_word}
use Rattle.b67_control.proofs.LayoutLaws.{packed_set_fields}
use Rattle.b67_control.proofs.EventWord.pack.Goals as goal

pub returns : goal.returns
unfolding event_word
returns c =
    rw (c.with_field.ensures, c.blank.ensures)
    (packed_set_fields event_layout (event_values c.args.self.now) refl)
