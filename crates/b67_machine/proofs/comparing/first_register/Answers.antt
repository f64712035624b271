use Rattle.std.proofs.Common.{◌≡◌, refl, sym, ◌∙◌}
use Rattle.b67_machine.specs.Parts.{registers_before_display, last_registers}
use Rattle.b67_machine.proofs.Differing.{differ_by, differ_in_display, differ_in_last, registers_back, registers_length}
use Rattle.b67_machine.proofs.comparing.first_register.Goals as goal

pub returns-in-Some-first_level-clause-some : goal.returns-in-Some-first_level-clause-some
returns-in-Some-first_level-clause-some c =
    let first : registers_before_display c.args.kept.now ≡ registers_before_display c.args.given.now = sym c.first_registers.ensures ∙ c.in_default.ensures.first ∙ c.first_registers-2.ensures in
    differ_in_display c.args.kept.now c.args.given.now c.in-Some-first_level.found.0 _ _ _ first refl c.in-Some-first_level.ensures.some

pub returns-in-Some-first_difference-clause-some : goal.returns-in-Some-first_difference-clause-some
returns-in-Some-first_difference-clause-some c =
    let r = c.args.kept.now in
    let q = c.args.given.now in
    let first : registers_before_display r ≡ registers_before_display q = sym c.first_registers.ensures ∙ c.in_default.ensures.first ∙ c.first_registers-2.ensures in
    differ_in_last r q c.in-Some-first_difference.found.0 _ _ _ first (c.in_default-first_level.ensures.none refl) c.in_default-first_level.ensures.length refl
    (differ_by c.last_registers.result c.last_registers-2.result (last_registers r) (last_registers q) c.in-Some-first_difference.found.0 _ _
    c.last_registers.ensures.value c.last_registers-2.ensures.value c.in-Some-first_difference.ensures.first)

pub returns-in-None-clause-none : goal.returns-in-None-clause-none
returns-in-None-clause-none c = λ none.
    let first : registers_before_display c.args.kept.now ≡ registers_before_display c.args.given.now = sym c.first_registers.ensures ∙ c.in_default.ensures.first ∙ c.first_registers-2.ensures in
    registers_back c.args.kept.now c.args.given.now first (c.in_default-first_level.ensures.none refl)
    (sym c.last_registers.ensures.value ∙ c.in-None.ensures.first ∙ c.last_registers-2.ensures.value)
    c.last_registers.ensures.task c.last_registers-2.ensures.task c.last_registers.ensures.critical c.last_registers-2.ensures.critical

pub returns-in-None-clause-length : goal.returns-in-None-clause-length
returns-in-None-clause-length c = λ none. registers_length c.args.kept.now c.in_default-first_level.ensures.length
