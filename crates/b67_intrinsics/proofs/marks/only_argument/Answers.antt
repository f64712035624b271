use Rattle.std.proofs.Common.{sym, ◌∙◌, ap, ℕ, ◌-◌, ◌+◌}
use Rattle.b67_store.specs.Store.{words_of}
use Rattle.b67_intrinsics.proofs.Calling.{only_one}
use Rattle.b67_intrinsics.proofs.marks.only_argument.Goals as goal

pub returns : goal.returns
returns g c =
    let r = c.args.regs.now in
    only_one (words_of (g.C.Core.stacks c.args.core.now) r.stack) (r.s - (r.f + 2)) (r.f + 2) c.unwrap.result
    (ap (λ (n : ℕ). r.s - (n + 2)) (sym c.from.ensures) ∙ c.if-regs-from-ne1.false) (sym c.read.ensures ∙ c.unwrap.ensures)
