use Rattle.std.proofs.Common.{◌≡◌, sym, ap, subst, ◌∙◌, ℕ, ◌≤◌, List, drop, reverse, true}
use Rattle.b67_list.specs.Numbered.{numbered}
use Rattle.b67_word.specs.Word.{Word}
use Rattle.b67_store.specs.Store.{words_of}
use Rattle.b67_linkage.proofs.Linked.{live_are_linked}
use Rattle.b67_private.specs.Parts.{IsPrivatePart, part_with}
use Rattle.b67_private.proofs.ValidParts.{valid_part}
use Rattle.b67_reach.specs.Images.{image_of}
use Rattle.b67_table.specs.Image.{is_live}
use Rattle.b67_table.proofs.PrivateValid.{part_is}
use Rattle.b67_machine.specs.Kept.{MachineModel}
use Rattle.b67_machine.specs.Parts.{IsWholePart}
use Rattle.b67_machine.proofs.Machine.copy_private.Goals as goal

pub floor-requires : goal.floor-requires
floor-requires g c =
    let live = subst (λ (k : MachineModel). is_live (numbered k.image.states c.args.process) ≡ true) (sym c.self.view_is) c.requires.lives in
    (live_are_linked c.self.inside.parts.code (image_of (g.C.Core.stacks c.self.inside.core) (g.C.Core.rows c.self.inside.core) c.self.inside.kernel c.self.inside.parts)
    c.args.process c.registers-regs.result.now c.self.invariant.0 live c.registers-regs.ensures).level

pub take_words-requires-clause-linked : goal.take_words-requires-clause-linked
take_words-requires-clause-linked g c =
    let live = subst (λ (k : MachineModel). is_live (numbered k.image.states c.args.process) ≡ true) (sym c.self.view_is) c.requires.lives in
    live_are_linked c.self.inside.parts.code (image_of (g.C.Core.stacks c.self.inside.core) (g.C.Core.rows c.self.inside.core) c.self.inside.kernel c.self.inside.parts)
    c.args.process c.registers-regs.result.now c.self.invariant.0 live c.registers-regs.ensures

pub take_words-requires-clause-within : goal.take_words-requires-clause-within
take_words-requires-clause-within g c =
    let live = subst (λ (k : MachineModel). is_live (numbered k.image.states c.args.process) ≡ true) (sym c.self.view_is) c.requires.lives in
    let linked = live_are_linked c.self.inside.parts.code (image_of (g.C.Core.stacks c.self.inside.core) (g.C.Core.rows c.self.inside.core) c.self.inside.kernel c.self.inside.parts)
    c.args.process c.registers-regs.result.now c.self.invariant.0 live c.registers-regs.ensures in
    subst (λ (n : ℕ). n ≤ c.registers-regs.result.now.s) (sym c.floor.ensures.value) linked.above

pub returns-clause-is_part : goal.returns-clause-is_part
returns-clause-is_part g c =
    let live = subst (λ (k : MachineModel). is_live (numbered k.image.states c.args.process) ≡ true) (sym c.self.view_is) c.requires.lives in
    let r = c.registers-regs.result.now in
    let words = words_of (g.C.Core.stacks c.self.inside.core) r.stack in
    subst (λ (ws : List Word). IsPrivatePart (part_with r ws)) (sym (c.take_words.ensures ∙ ap (λ (n : ℕ). reverse (drop n words)) c.floor.ensures.value))
    (valid_part c.self.inside.parts.code (image_of (g.C.Core.stacks c.self.inside.core) (g.C.Core.rows c.self.inside.core) c.self.inside.kernel c.self.inside.parts)
    c.args.process r c.self.invariant.0 live c.registers-regs.ensures)

pub returns-clause-whole : goal.returns-clause-whole
returns-clause-whole g c =
    let live = subst (λ (k : MachineModel). is_live (numbered k.image.states c.args.process) ≡ true) (sym c.self.view_is) c.requires.lives in
    let r = c.registers-regs.result.now in
    let words = words_of (g.C.Core.stacks c.self.inside.core) r.stack in
    subst (λ (ws : List Word). IsWholePart (part_with r ws)) (sym (c.take_words.ensures ∙ ap (λ (n : ℕ). reverse (drop n words)) c.floor.ensures.value))
    (part_is c.self.inside.parts.code (image_of (g.C.Core.stacks c.self.inside.core) (g.C.Core.rows c.self.inside.core) c.self.inside.kernel c.self.inside.parts)
    c.args.process r c.self.invariant.0 live c.registers-regs.ensures).size
