use Rattle.std.proofs.Common.{◌≡◌, ◌∙◌, ◌+◌, ◌-◌, ◌≤◌, ap, subst, sym, length, ℕ, Ok}
use Rattle.std.specs.Prelude.{map}
use Rattle.std.proofs.lemmas.List.{length-map}
use Rattle.b67_control.specs.Control.{descriptor_word}
use Rattle.b67_store.specs.Store.{Stacks, Rows, with_cut, stack_limit}
use Rattle.b67_table.specs.Arguments.{finished_at}
use Rattle.b67_table.specs.Program.{answer}
use Rattle.b67_reach.specs.Images.{own_of_image}
use Rattle.b67_reach.specs.Answers.{ProgramPerforms}
use Rattle.b67_intrinsics.specs.Arrays.{pushed_on}
use Rattle.b67_intrinsics.proofs.Pushing.{finished_all}
use Rattle.b67_intrinsics.proofs.marks.finish_with_all.Goals as goal

pub returns : goal.returns
returns g c =
    let r = c.args.regs.now in
    let m = c.args.mark.now in
    let st = g.C.Core.stacks c.args.core.now in
    let new = g.C.Core.stacks c.push_all.new.core in
    let ws = map descriptor_word c.args.arrays.now in
    let size : length ws ≡ length c.args.arrays.now = length-map c.args.arrays.now descriptor_word in
    let pushed : new ≡ pushed_on (with_cut st r.stack r.f) r.stack ws =
    c.push_all.ensures.stacks ∙ ap (λ (z : Stacks). pushed_on z r.stack ws) (c.cut_to.ensures.stacks ∙ ap (λ (n : ℕ). with_cut st r.stack n) c.from-length.ensures) in
    let rows = c.push_all.ensures.rows ∙ c.cut_to.ensures.rows in
    let long : r.f + length ws ≡ c.from-length.result + length c.args.arrays.now =
    ap (λ (n : ℕ). n + length ws) (sym c.from-length.ensures) ∙ ap (λ (n : ℕ). c.from-length.result + n) size in
    let room = subst (λ (n : ℕ). r.f + n ≤ stack_limit) (sym size) c.requires.room in
    subst (λ (n : ℕ). ProgramPerforms (answer (finished_at r m ws c.args.place)) (own_of_image st (g.C.Core.rows c.args.core.now) r) (own_of_image new (g.C.Core.rows c.push_all.new.core) (record r { s = n; f = r.f - m.df; place = c.args.place })) (Ok tt)) long
    (subst (λ (rs : Rows). ProgramPerforms (answer (finished_at r m ws c.args.place)) (own_of_image st (g.C.Core.rows c.args.core.now) r) (own_of_image new rs (record r { s = r.f + length ws; f = r.f - m.df; place = c.args.place })) (Ok tt)) (sym rows)
    (finished_all r m ws c.args.place st new (g.C.Core.rows c.args.core.now) room pushed))
