use Rattle.std.specs.Prelude.{reverse, drop}
use Rattle.std.proofs.Common.{◌≡◌, refl, sym, ap, subst, ◌∙◌, ℕ, ◌+◌, ◌-◌, ◌≤◌, true, length, Option, Some, arith}
use Rattle.b67_list.specs.Numbered.{numbered}
use Rattle.b67_control.specs.declared.Registers.{Registers}
use Rattle.b67_linkage.proofs.Linked.{live_are_linked}
use Rattle.b67_reach.specs.Images.{image_of}
use Rattle.b67_store.specs.Store.{words_of}
use Rattle.b67_table.specs.Image.{is_live}
use Rattle.b67_action.specs.Own.{part_from}
use Rattle.b67_machine.specs.Kept.{MachineModel}
use Rattle.b67_machine.specs.Machines.{with_failure}
use Rattle.b67_machine.specs.Parts.{kept_from, register_list, FirstOf}
use Rattle.b67_machine.proofs.Differing.{with_more, after_same}
use Rattle.b67_machine.proofs.Machine.differs.Goals as goal

pub returns-in-Some : goal.returns-in-Some
returns-in-Some g c = λ from whole.
    let base = image_of (g.C.Core.stacks c.self.inside.core) (g.C.Core.rows c.self.inside.core) c.self.inside.kernel c.self.inside.parts in
    let r = c.registers-kept.result.now in
    let own = part_from (from r) base.stacks r in
    let part : kept_from from c.args.self.now.image (numbered c.args.self.now.image.regs c.args.process) ≡ Some own =
    ap (λ (k : MachineModel). kept_from from k.image (numbered k.image.regs c.args.process)) (sym c.self.view_is)
    ∙ ap (λ (o : Option Registers). kept_from from (with_failure base c.self.inside.failure) o) c.registers-kept.ensures in
    (own, part, with_more (register_list r) (register_list c.args.given.now.regs) own.words c.args.given.now.words _ _ _ c.in-Some.ensures.some)

pub first_word-requires-clause-linked : goal.first_word-requires-clause-linked
first_word-requires-clause-linked g c =
    let live = subst (λ (k : MachineModel). is_live (numbered k.image.states c.args.process) ≡ true) (sym c.self.view_is) c.requires.lives in
    live_are_linked c.self.inside.parts.code (image_of (g.C.Core.stacks c.self.inside.core) (g.C.Core.rows c.self.inside.core) c.self.inside.kernel c.self.inside.parts)
    c.args.process c.registers-kept.result.now c.self.invariant.0 live c.registers-kept.ensures

pub first_word-requires-clause-within : goal.first_word-requires-clause-within
first_word-requires-clause-within g c = subst (λ (q : Registers). length c.args.given.now.words ≤ q.s) (sym (c.in_default.ensures.none refl)) c.requires.within

-- so many words below S is where a part of registers that are the same begins
base_is : (from : Registers → ℕ) (r q : Registers) (n : ℕ) → r ≡ q → from q + n ≡ q.s → r.s - n ≡ from r
base_is from r q n same whole = omega (arith, ap from same, ap (λ (x : Registers). x.s) same, whole)

pub returns-in-Some-first_word : goal.returns-in-Some-first_word
returns-in-Some-first_word g c = λ from whole.
    let base = image_of (g.C.Core.stacks c.self.inside.core) (g.C.Core.rows c.self.inside.core) c.self.inside.kernel c.self.inside.parts in
    let r = c.registers-kept.result.now in
    let own = part_from (from r) base.stacks r in
    let same = c.in_default.ensures.none refl in
    let part : kept_from from c.args.self.now.image (numbered c.args.self.now.image.regs c.args.process) ≡ Some own =
    ap (λ (k : MachineModel). kept_from from k.image (numbered k.image.regs c.args.process)) (sym c.self.view_is)
    ∙ ap (λ (o : Option Registers). kept_from from (with_failure base c.self.inside.failure) o) c.registers-kept.ensures in (
      own,
      part,
      after_same (register_list r) (register_list c.args.given.now.regs) own.words c.args.given.now.words c.in-Some-first_word.found.0 _ _ _
          (ap register_list same) (ap (λ n. n + c.in-Some-first_word.found.0) (sym (c.in_default.ensures.length refl)))
          (subst (λ (n : ℕ). FirstOf (reverse (drop n (words_of base.stacks r.stack))) c.args.given.now.words (Some c.in-Some-first_word.found))
          (base_is from r c.args.given.now.regs (length c.args.given.now.words) same whole) c.in-Some-first_word.ensures.first),
    )
