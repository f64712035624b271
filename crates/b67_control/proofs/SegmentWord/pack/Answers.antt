use Rattle.std.proofs.Common.{refl}
use Rattle.b67_control.specs.Control.{segment_layout, segment_values, segment_word}
use Rattle.b67_control.proofs.LayoutLaws.{packed_set_fields}
use Rattle.b67_control.proofs.SegmentWord.pack.Goals as goal

pub returns : goal.returns
unfolding segment_word
returns c =
    rw (c.with_field-3.ensures, c.with_field-2.ensures, c.with_field.ensures, c.blank.ensures, c.from.ensures, c.from-2.ensures)
    (packed_set_fields segment_layout (segment_values c.args.self.now) refl)
