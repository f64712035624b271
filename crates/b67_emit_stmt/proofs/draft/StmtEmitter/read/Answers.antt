use Rattle.std.proofs.Common.{arith}
use Rattle.std.proofs.lemmas.Result.{on_ok_weaker}
use Rattle.b67_segment.specs.Building.{level_set}
use Rattle.b67_emitter.specs.Values.{couples}
use Rattle.b67_emit_stmt.proofs.Names.{name_seen, read_is, read_known}
use Rattle.b67_emit_stmt.proofs.Parts.{read_part}
use Rattle.b67_emit_stmt.proofs.draft.StmtEmitter.read.Goals as goal

pub couple_of-requires : goal.couple_of-requires
couple_of-requires g c = read_known (couples c.args.self.now.known.now.names.now c.args.v.now.spot) c.requires.fits.2.0.0 c.requires.fits.2.0.1

pub append_reading-requires-clause-seen : goal.append_reading-requires-clause-seen
append_reading-requires-clause-seen g c =
    let s = c.args.self.now.known.now.names.now in
    let near = c.requires.near.own c.args.v.now.spot c.couple_of.result c.couple_of.ensures in
    name_seen c.requires.fits.0.scopes (couples s) (level_set c.args.out.now) c.requires.fits.1 c.args.v.now c.couple_of.result c.requires.fits.2.0 c.couple_of.ensures
    (omega arith)

pub returns-clause-code : goal.returns-clause-code
returns-clause-code g c =
    on_ok_weaker c.append_reading.result
    (λ h sc k later fit.
    read_part sc later k c.args.v.now c.couple_of.result c.args.out.now c.append_reading.new.out
    (read_is sc.scopes (couples c.args.self.now.known.now.names.now) (level_set c.args.out.now) k c.args.v.now c.couple_of.result fit.0 c.couple_of.ensures) h)
    c.append_reading.ensures.code
