use Rattle.std.proofs.Common.{◌≡◌, ◌++◌, take, map}
use Rattle.std.specs.List.{enumerate_from}
use Rattle.b67_listing.specs.Formats.{format_line}
use Rattle.b67_listing.proofs.push_formats.Given as goal

abbrev pub invariant-formats : goal.invariant-formats
invariant-formats l = l.lines.items ≡ l.initial.lines.items ++ map format_line (enumerate_from 0 (take l.number l.format-items))
