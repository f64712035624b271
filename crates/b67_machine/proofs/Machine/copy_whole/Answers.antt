use Rattle.std.proofs.Common.{◌≡◌, sym, subst, ◌∙◌, List, true}
use Rattle.std.proofs.lemmas.List.{length-reverse}
use Rattle.b67_list.specs.Numbered.{numbered}
use Rattle.b67_word.specs.Word.{Word}
use Rattle.b67_store.specs.Store.{words_of}
use Rattle.b67_linkage.proofs.Linked.{live_are_linked}
use Rattle.b67_private.specs.Parts.{IsPrivatePart, part_with}
use Rattle.b67_private.proofs.ValidParts.{valid_whole}
use Rattle.b67_reach.specs.Images.{image_of}
use Rattle.b67_table.specs.Image.{is_live}
use Rattle.b67_machine.specs.Kept.{MachineModel}
use Rattle.b67_machine.specs.Parts.{IsFull}
use Rattle.b67_machine.proofs.Machine.copy_whole.Goals as goal

pub take_words-requires-clause-linked : goal.take_words-requires-clause-linked
take_words-requires-clause-linked g c =
    let live = subst (λ (k : MachineModel). is_live (numbered k.image.states c.args.process) ≡ true) (sym c.self.view_is) c.requires.lives in
    live_are_linked c.self.inside.parts.code (image_of (g.C.Core.stacks c.self.inside.core) (g.C.Core.rows c.self.inside.core) c.self.inside.kernel c.self.inside.parts)
    c.args.process c.registers-regs.result.now c.self.invariant.0 live c.registers-regs.ensures

pub returns-clause-is_part : goal.returns-clause-is_part
returns-clause-is_part g c =
    let live = subst (λ (k : MachineModel). is_live (numbered k.image.states c.args.process) ≡ true) (sym c.self.view_is) c.requires.lives in
    let r = c.registers-regs.result.now in
    subst (λ (ws : List Word). IsPrivatePart (part_with r ws)) (sym c.take_words.ensures)
    (valid_whole c.self.inside.parts.code (image_of (g.C.Core.stacks c.self.inside.core) (g.C.Core.rows c.self.inside.core) c.self.inside.kernel c.self.inside.parts)
    c.args.process r c.self.invariant.0 live c.registers-regs.ensures)

pub returns-clause-full : goal.returns-clause-full
returns-clause-full g c =
    let live = subst (λ (k : MachineModel). is_live (numbered k.image.states c.args.process) ≡ true) (sym c.self.view_is) c.requires.lives in
    let r = c.registers-regs.result.now in
    let words = words_of (g.C.Core.stacks c.self.inside.core) r.stack in
    let linked = live_are_linked c.self.inside.parts.code (image_of (g.C.Core.stacks c.self.inside.core) (g.C.Core.rows c.self.inside.core) c.self.inside.kernel c.self.inside.parts)
    c.args.process r c.self.invariant.0 live c.registers-regs.ensures in
    subst (λ (ws : List Word). IsFull (part_with r ws)) (sym c.take_words.ensures) (length-reverse words ∙ sym linked.size)
