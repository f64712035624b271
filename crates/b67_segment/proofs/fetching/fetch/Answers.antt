use Rattle.std.proofs.Common.{◌∙◌}
use Rattle.b67_segment.proofs.Fetches.{fetched_ok, fetched_past, fetched_cut_short, fetched_above, fetched_unknown}
use Rattle.b67_segment.proofs.fetching.fetch.Goals as goal

pub returns-clause-ok : goal.returns-clause-ok
returns-clause-ok c op next = rw c.fetch_at.ensures (fetched_ok c.args.code.now c.args.at c.args.level c.requires.level op next)

pub returns-clause-past : goal.returns-clause-past
returns-clause-past c h = c.fetch_at.ensures ∙ fetched_past c.args.code.now c.args.at c.args.level h

pub returns-clause-cut_short : goal.returns-clause-cut_short
returns-clause-cut_short c = rw c.fetch_at.ensures (fetched_cut_short c.args.code.now c.args.at c.args.level c.requires.level)

pub returns-clause-bad_level : goal.returns-clause-bad_level
returns-clause-bad_level c = rw c.fetch_at.ensures (fetched_above c.args.code.now c.args.at c.args.level c.requires.level)

pub returns-clause-unknown : goal.returns-clause-unknown
returns-clause-unknown c = rw c.fetch_at.ensures (fetched_unknown c.args.code.now c.args.at c.args.level c.requires.level)
