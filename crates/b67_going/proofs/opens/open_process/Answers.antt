use Rattle.std.proofs.Common.{sym, ◌+◌, ◌∷◌, [], ◌≤◌, List, length, subst, arith}
use Rattle.b67_word.specs.Word.{Word}
use Rattle.b67_table.specs.Linkage.{entered_mark, base_control}
use Rattle.b67_going.proofs.Opened.{opened_is, opened_length, opened_others, opened_all}
use Rattle.b67_going.proofs.opens.open_process.Goals as goal

pub push_parameters-requires-clause-open : goal.push_parameters-requires-clause-open
push_parameters-requires-clause-open g c =
    let t = c.args.start.now in
    opened_is c.args.number (g.C.Core.stacks c.args.core.now) (g.C.Core.stacks c.open_base.new.core) (entered_mark t.needs.home 0 ∷ base_control t.procedure.level ∷ []) c.in-Ok.ensures.opened

pub push_parameters-requires-clause-room : goal.push_parameters-requires-clause-room
push_parameters-requires-clause-room g c =
    let t = c.args.start.now in
    let n = opened_length c.args.number (g.C.Core.stacks c.args.core.now) (g.C.Core.stacks c.open_base.new.core) (entered_mark t.needs.home 0 ∷ base_control t.procedure.level ∷ []) c.in-Ok.ensures.opened in
    omega (arith, n, c.requires.given.few)

pub push_parameters-requires-clause-there : goal.push_parameters-requires-clause-there
push_parameters-requires-clause-there g c =
    let t = c.args.start.now in
    subst (λ (z : List Word). t.needs.first + t.needs.count ≤ length z)
    (sym (opened_others c.args.number (g.C.Core.stacks c.args.core.now) (g.C.Core.stacks c.open_base.new.core) (entered_mark t.needs.home 0 ∷ base_control t.procedure.level ∷ [])
    t.needs.stack c.requires.other c.in-Ok.ensures.opened)) c.requires.given.there

pub returns-in-Ok-clause-opened : goal.returns-in-Ok-clause-opened
returns-in-Ok-clause-opened g c =
    let t = c.args.start.now in
    opened_all c.args.number (g.C.Core.stacks c.args.core.now) (g.C.Core.stacks c.open_base.new.core) (g.C.Core.stacks c.push_parameters.new.core)
    (entered_mark t.needs.home 0 ∷ base_control t.procedure.level ∷ []) t.needs.stack t.needs.first t.needs.count c.requires.other c.in-Ok.ensures.opened c.push_parameters.ensures.stacks
