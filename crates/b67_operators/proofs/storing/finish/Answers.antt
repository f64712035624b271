use Rattle.std.proofs.Common.{◌≡◌, ◌∙◌, sym, ap, subst, ℕ, ◌+◌, ◌-◌, ◌≤◌, Bool, true, false, Ok, arith}
use Rattle.b67_control.specs.declared.Registers.{Registers}
use Rattle.b67_store.specs.Store.{Stacks, with_cut, with_push, stack_limit}
use Rattle.b67_table.specs.Program.{answer}
use Rattle.b67_reach.specs.Images.{own_of_image}
use Rattle.b67_reach.specs.Answers.{ProgramPerforms}
use Rattle.b67_operators.specs.Stages.{finished}
use Rattle.b67_operators.proofs.Changing.{Reaches, when_ok, cut_reaches, push_goes, finished_dropped, finished_kept}
use Rattle.b67_operators.proofs.storing.finish.Goals as goal
use Rattle.b67_operators.proofs.storing.finish.Goals.{then-keeps, else-keeps}

pub unwrap-requires : goal.unwrap-requires
unwrap-requires g c = c.cut.ensures.found ∙ c.requires.ready.opened

pub unwrap-requires-then-keeps : goal.unwrap-requires-then-keeps
unwrap-requires-then-keeps g c =
    let n = c.args.regs.now.stack in
    let k = c.args.regs.now.s - 2 in
    let once = g.C.Core.stacks c.cut.new.self in
    let cut : Reaches once n k = cut_reaches (g.C.Core.stacks c.args.core.now) once n k c.cut.result c.unwrap.result c.requires.ready.opened c.unwrap.ensures c.cut.ensures.stacks in
    push_goes once n k c.push.result cut (omega (arith, c.requires.some, c.requires.ready.room)) c.push.ensures.fault

pub returns : goal.returns
returns g c =
    let st = g.C.Core.stacks c.args.core.now in
    let rows = g.C.Core.rows c.args.core.now in
    let r = c.args.regs.now in
    let next = c.args.next in
    let x = c.args.x in
    let k = r.s - 2 in
    let once = g.C.Core.stacks c.cut.new.self in
    let stacks = g.C.Core.stacks c.if-keeps.core in
    let more = g.C.Core.rows c.if-keeps.core in
    let last : Registers = record c.if-keeps.regs { place = next } in
    let once_is : once ≡ with_cut st r.stack k = when_ok c.cut.result c.unwrap.result once (with_cut st r.stack k) st c.unwrap.ensures c.cut.ensures.stacks in
    elim c.if-keeps.branch [
      | then-keeps w ↦
          let room : k + 1 ≤ stack_limit = omega (arith, c.requires.some, c.requires.ready.room) in
          let stacks_are : stacks ≡ with_push (with_cut st r.stack k) r.stack x =
          ap g.C.Core.stacks w.core-is
          ∙ when_ok w.push.result w.unwrap-then-keeps.result (g.C.Core.stacks w.push.new.self) (with_push once r.stack x) once w.unwrap-then-keeps.ensures w.push.ensures.stacks
          ∙ ap (λ (z : Stacks). with_push z r.stack x) once_is in
          let q : record r { s = k + 1; place = next } ≡ last = ap (λ (z : Registers). record z { place = next }) (sym w.regs-is) in
          subst (λ (b : Bool). ProgramPerforms (answer (finished b r next x)) (own_of_image st rows r) (own_of_image stacks more last) (Ok tt)) (sym w.if-keeps.true)
          (subst (λ (z : Registers). ProgramPerforms (answer (finished true r next x)) (own_of_image st rows r) (own_of_image stacks more z) (Ok tt)) q
          (finished_kept r next x st stacks rows more room stacks_are (ap g.C.Core.rows w.core-is ∙ w.push.ensures.rows ∙ c.cut.ensures.rows)))
      | else-keeps w ↦
          let room : k + 0 ≤ stack_limit = omega (arith, c.requires.ready.room) in
          let size : k + 0 ≡ k = omega arith in
          let q : record r { s = k + 0; place = next } ≡ last =
          ap (λ (n : ℕ). record r { s = n; place = next }) size ∙ ap (λ (z : Registers). record z { place = next }) (sym w.regs-is) in
          subst (λ (b : Bool). ProgramPerforms (answer (finished b r next x)) (own_of_image st rows r) (own_of_image stacks more last) (Ok tt)) (sym w.if-keeps.false)
          (subst (λ (z : Registers). ProgramPerforms (answer (finished false r next x)) (own_of_image st rows r) (own_of_image stacks more z) (Ok tt)) q
          (finished_dropped r next x st stacks rows more room (ap g.C.Core.stacks w.core-is ∙ once_is) (ap g.C.Core.rows w.core-is ∙ c.cut.ensures.rows)))
    ]
