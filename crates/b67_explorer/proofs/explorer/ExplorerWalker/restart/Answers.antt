use Rattle.std.proofs.Common.{sym, subst}
use Rattle.std.specs.List.{All}
use Rattle.b67_segment.specs.declared.TheConstants.{MOST_SEGMENT_WORDS}
use Rattle.b67_segment.specs.declared.code.Code.{Code}
use Rattle.b67_segment.specs.declared.code.Segment.{Segment}
use Rattle.std.proofs.Common.{length, ◌≤◌}
use Rattle.b67_machine.specs.Beginning.{IsFresh}
use Rattle.b67_outcomes.specs.declared.found.TheConstants.{MOST_ENTRIES}
use Rattle.b67_outcomes.proofs.Histories.{ok_map}
use Rattle.b67_explorer.specs.Entries.{EntriesFit}
use Rattle.b67_explorer.proofs.Fitting.{fits_fresh}
use Rattle.b67_explorer.proofs.Performed.{segments_short}
use Rattle.b67_explorer.proofs.explorer.ExplorerWalker.restart.Goals as goal

pub returns-clause-room : goal.returns-clause-room
returns-clause-room g c =
    let new = c.restart.new.self in
    let segments = segments_short c.args.self.now.machine.code c.requires.known.1.listable in
    ok_map c.restart.result (λ u. IsFresh new) (λ u. EntriesFit new MOST_ENTRIES)
    (λ u fresh.
    fits_fresh new (subst (λ (k : Code). All (λ (s : Segment). length s.words ≤ MOST_SEGMENT_WORDS) k.segments) (sym c.restart.ensures.code) segments) fresh)
    c.restart.ensures.fresh
