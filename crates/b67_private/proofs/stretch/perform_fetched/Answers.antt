use Rattle.std.proofs.Common.{sym, ◌∙◌, Bool, subst, length}
use Rattle.b67_private.specs.Parts.{own_next, part_in}
use Rattle.b67_private.specs.Performing.{Steps}
use Rattle.b67_private.proofs.Stepping.{steps_found, steps_none}
use Rattle.b67_private.proofs.stretch.perform_fetched.Goals as goal

pub returns-in-Some : goal.returns-in-Some
returns-in-Some c =
    let old = part_in c.args.regs.now c.args.room.now in
    let new = part_in c.operate.new.regs c.operate.new.room in
    subst (λ (b : Bool). Steps (length c.args.room.now) (own_next c.args.code.now old) old b new) (sym c.is_ok.ensures.value)
    (steps_found (length c.args.room.now) c.args.code.now old new (c.in-Some.operator, c.in-Some.next) c.operate.result (sym c.next_operator.ensures.value ∙ c.in-Some.is) c.operate.ensures)

pub returns-in-None : goal.returns-in-None
returns-in-None c =
    steps_none (length c.args.room.now) c.args.code.now (part_in c.args.regs.now c.args.room.now) (sym c.next_operator.ensures.value ∙ c.in-None.is)
