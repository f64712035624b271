use Rattle.std.proofs.Common.{◌≡◌, ◌+◌, ◌*◌, ◌≤◌, length, take}
use Rattle.algol_tree.specs.Image.{body}
use Rattle.b67_segment.specs.declared.TheConstants.{MOST_SEGMENT_SYLLABLES}
use Rattle.b67_faithful.specs.Lines.{formats_for}
use Rattle.b67_emit_stmt.specs.Drafts.{FormatsCanBeListed}
use Rattle.b67_emit_text.specs.Texts.{texts, texts_lines}
use Rattle.b67_emit_text.proofs.TextStanding.{AreMade}
use Rattle.b67_emit_text.proofs.program.emit_texts.Given as goal

abbrev pub invariant-procedures : goal.invariant-procedures
invariant-procedures g l = record {
  many : length l.segments.items ≡ l.procedure-index + 1;
  few : length l.formats.items ≤ MOST_SEGMENT_SYLLABLES * length l.segments.items;
  listed : FormatsCanBeListed l.formats.items;
  lines : l.formats.items ≡ formats_for (texts_lines (take (l.procedure-index + 1) (texts (body l.body))));
  stood : AreMade l.names (texts (body l.body)) (take (l.procedure-index + 1) (texts (body l.body))) l.formats.items l.segments.items;
}
