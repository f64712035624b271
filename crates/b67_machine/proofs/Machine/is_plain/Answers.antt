use Rattle.std.specs.Prelude.{reverse}
use Rattle.std.proofs.Common.{◌≡◌, refl, sym, ap, subst, ◌∙◌, true}
use Rattle.b67_list.specs.Numbered.{numbered}
use Rattle.b67_store.specs.Store.{words_of}
use Rattle.b67_table.specs.declared.Private.{Private}
use Rattle.b67_table.specs.Image.{is_able}
use Rattle.b67_table.specs.Table.{plain}
use Rattle.b67_table.proofs.Waking.{able_live}
use Rattle.b67_linkage.proofs.Linked.{live_are_linked}
use Rattle.b67_private.specs.Parts.{IsPrivatePart, PlainParts, is_plain, part_in, part_with}
use Rattle.b67_private.proofs.Stretching.{plain_deep}
use Rattle.b67_private.proofs.ValidParts.{valid_whole}
use Rattle.b67_reach.specs.Images.{image_of}
use Rattle.b67_action.specs.Own.{part_of_process}
use Rattle.b67_action.proofs.InRoom.{below, enough, whole_is}
use Rattle.b67_machine.specs.Kept.{MachineModel}
use Rattle.b67_machine.specs.Machines.{with_failure}
use Rattle.b67_machine.proofs.Failures.{valid_with}
use Rattle.b67_machine.proofs.Going.{plain_by_one}
use Rattle.b67_machine.proofs.Machine.is_plain.Goals as goal

pub copy_words-requires-clause-linked : goal.copy_words-requires-clause-linked
copy_words-requires-clause-linked g c =
    let able = subst (λ (k : MachineModel). is_able (numbered k.image.states c.args.process) ≡ true) (sym c.self.view_is) c.requires in
    live_are_linked c.self.inside.parts.code (image_of (g.C.Core.stacks c.self.inside.core) (g.C.Core.rows c.self.inside.core) c.self.inside.kernel c.self.inside.parts)
    c.args.process c.registers.result.now c.self.invariant.0 (able_live (numbered c.self.inside.parts.states.items c.args.process) able) c.registers.ensures

pub burst_in_place-requires-clause-part : goal.burst_in_place-requires-clause-part
burst_in_place-requires-clause-part g c =
    let able = subst (λ (k : MachineModel). is_able (numbered k.image.states c.args.process) ≡ true) (sym c.self.view_is) c.requires in
    let live = able_live (numbered c.self.inside.parts.states.items c.args.process) able in
    let img = image_of (g.C.Core.stacks c.self.inside.core) (g.C.Core.rows c.self.inside.core) c.self.inside.kernel c.self.inside.parts in
    subst IsPrivatePart (ap (λ ws. part_with c.registers.result.now (reverse ws)) (sym c.copy_words.ensures.words))
    (valid_whole c.self.inside.parts.code img c.args.process c.registers.result.now c.self.invariant.0 live c.registers.ensures)

pub returns : goal.returns
returns g c =
    let able = subst (λ (k : MachineModel). is_able (numbered k.image.states c.args.process) ≡ true) (sym c.self.view_is) c.requires in
    let code = c.self.inside.parts.code in
    let base = image_of (g.C.Core.stacks c.self.inside.core) (g.C.Core.rows c.self.inside.core) c.self.inside.kernel c.self.inside.parts in
    let live = able_live (numbered c.self.inside.parts.states.items c.args.process) able in
    let st = g.C.Core.stacks c.self.inside.core in
    let rows = g.C.Core.rows c.self.inside.core in
    let r = c.registers.result.now in
    let linked = live_are_linked code base c.args.process r c.self.invariant.0 live c.registers.ensures in
    let whole = part_with r (reverse (words_of st r.stack)) in
    let new = part_in c.burst_in_place.new.regs c.burst_in_place.new.room in
    plain_by_one code (with_failure base c.self.inside.failure) c.args.process r whole new c.burst_in_place.result (valid_with code base c.self.inside.failure refl c.self.invariant.0) live c.registers.ensures
    (ap (is_plain code) (whole_is st rows r linked) ∙ plain_deep (below st r) code (part_of_process st r) (enough st rows r linked))
    (subst (λ (q : Private). PlainParts code q c.burst_in_place.result new) (ap (λ ws. part_with r (reverse ws)) c.copy_words.ensures.words) c.burst_in_place.ensures.plain)
    c.burst_in_place.ensures.most c.burst_in_place.ensures.stops
    ∙ ap (λ (k : MachineModel). plain k.code k.image c.args.process) c.self.view_is
