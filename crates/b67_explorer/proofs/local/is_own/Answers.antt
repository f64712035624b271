use Rattle.std.proofs.Common.{subst}
use Rattle.b67_list.specs.Numbered.{numbered}
use Rattle.b67_segment.specs.declared.code.Code.{Code}
use Rattle.b67_private.specs.Parts.{PlainParts}
use Rattle.b67_table.proofs.Waking.{able_live}
use Rattle.b67_table.proofs.Cited.{may_able}
use Rattle.b67_explorer.proofs.Owned.{local_by}
use Rattle.b67_explorer.proofs.local.is_own.Goals as goal

pub copy_private-requires : goal.copy_private-requires
copy_private-requires g c =
    let img = c.args.machine.now.image in
    record { lives = able_live (numbered img.states c.args.process) (may_able img c.args.process c.requires.may) }

pub returns : goal.returns
returns g c = λ t.
    let m = c.args.machine.now in
    let part = c.copy_private.new.into in
    let after = c.burst-plain.new.p in
    local_by m.code m.image c.args.process c.burst-plain.result part after c.requires.valid c.requires.may c.copy_private.ensures.part
    (subst (λ (k : Code). PlainParts k part c.burst-plain.result after) c.code.ensures c.burst-plain.ensures.plain) (c.is_own_next.ensures t)
