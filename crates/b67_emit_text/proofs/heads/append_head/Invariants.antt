use Rattle.std.proofs.Common.{◌≡◌, ◌+◌, ◌*◌, map, take, drop}
use Rattle.std.specs.List.{AllByRecursion}
use Rattle.b67_segment.specs.Operators.{size}
use Rattle.b67_emit_text.specs.Entries.{HeadAt, IsLeveled, entry_of}
use Rattle.b67_emit_text.proofs.heads.append_head.Given as goal

-- the branches of the entries that are done
abbrev pub invariant-entries : goal.invariant-entries
invariant-entries l = record {
  head : HeadAt l.out.operators l.level (map entry_of (take l.entry-index l.entries));
  wide : size l.out.operators ≡ 3 + 3 * l.entry-index;
  left : AllByRecursion IsLeveled (map entry_of (drop l.entry-index l.entries));
}
