use Rattle.std.proofs.Common.{◌≡◌, map}
use Rattle.b67_templates.specs.Labels.{table_place}
use Rattle.b67_emit_text.specs.Entries.{entry_of}
use Rattle.b67_emit_text.proofs.Tables.{Midway}
use Rattle.b67_emit_text.proofs.heads.aim_head.Given as goal

-- the branches of the entries that are done are aimed
abbrev pub invariant-entries : goal.invariant-entries
invariant-entries l = record {
  branch : l.branch ≡ table_place l.entry-index;
  midway : Midway (map entry_of l.entries) l.entry-index l.begin l.labels l.fn.out l.out;
}
