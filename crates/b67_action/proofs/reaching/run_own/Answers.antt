use Rattle.std.proofs.Common.{sym, ap, subst, ◌∙◌}
use Rattle.b67_store.specs.Store.{Stacks, Rows, with_cut}
use Rattle.b67_reach.specs.Images.{Own, own_of_image, with_own}
use Rattle.b67_action.specs.Reaching.{ProcessIsIn}
use Rattle.b67_action.specs.Running.{HasRun}
use Rattle.b67_action.proofs.InStore.{linked}
use Rattle.b67_action.proofs.Open.{open_linked, cut_whole}
use Rattle.b67_action.proofs.reaching.run_own.Goals as goal

pub run_open-ran-requires-clause-stands : goal.run_open-ran-requires-clause-stands
run_open-ran-requires-clause-stands g c =
    let st = g.C.Core.stacks c.args.core.now in
    let rows = g.C.Core.rows c.args.core.now in
    let r = c.args.regs.now in
    let code = c.args.code.now in
    let img = c.requires.stands.0 in
    let p = c.requires.stands.1 in
    (img, p, subst (λ (z : Stacks). ProcessIsIn code img p z rows r) (sym (cut_whole st rows r (linked code img p st rows r c.requires.stands.2))) c.requires.stands.2)

pub run_open-ran-requires-clause-open : goal.run_open-ran-requires-clause-open
run_open-ran-requires-clause-open g c =
    let st = g.C.Core.stacks c.args.core.now in
    let rows = g.C.Core.rows c.args.core.now in
    open_linked st rows c.args.regs.now (linked c.args.code.now c.requires.stands.0 c.requires.stands.1 st rows c.args.regs.now c.requires.stands.2)

pub returns-clause-ran : goal.returns-clause-ran
returns-clause-ran g c = λ img p h.
    let st = g.C.Core.stacks c.args.core.now in
    let rows = g.C.Core.rows c.args.core.now in
    let r = c.args.regs.now in
    let code = c.args.code.now in
    let q = c.run_open-ran.new.regs in
    let more = g.C.Core.stacks c.cut_words.new.core in
    let others = g.C.Core.rows c.cut_words.new.core in
    let same =
    ap (λ (z : Stacks). own_of_image z others q) c.cut_words.ensures.stacks
    ∙ ap (λ (z : Rows). own_of_image (with_cut (g.C.Core.stacks c.run_open-ran.new.core) q.stack q.s) z q) c.cut_words.ensures.rows in
    subst (λ (o : Own). HasRun code p c.args.most img c.run_open-ran.result c.run_open-ran.new.letters (with_own o p img)) (sym same)
    (c.run_open-ran.ensures.ran img p (subst (λ (z : Stacks). ProcessIsIn code img p z rows r) (sym (cut_whole st rows r (linked code img p st rows r h))) h))
