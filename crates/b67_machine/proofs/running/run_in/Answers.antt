use Rattle.std.specs.Prelude.{IfSome}
use Rattle.std.proofs.Common.{sym, subst, arith}
use Rattle.b67_control.specs.declared.Registers.{Registers}
use Rattle.b67_segment.specs.Decoded.{AreDecoded}
use Rattle.b67_table.proofs.Lists.{numbered_from, numbered_within}
use Rattle.b67_reach.specs.Images.{image_of}
use Rattle.b67_machine.proofs.Plainly.{own_is}
use Rattle.b67_machine.proofs.Lending.{stands_in, run_in_all}
use Rattle.b67_machine.proofs.running.run_in.Goals as goal

pub index_mut-own-requires : goal.index_mut-own-requires
index_mut-own-requires g c =
    omega (arith, numbered_from c.args.parts.now.regs.items c.args.process c.registers-regs.result.now c.registers-regs.ensures, numbered_within c.args.parts.now.regs.items c.args.process c.registers-regs.result.now c.registers-regs.ensures)

pub run_own-ran-requires-clause-stands : goal.run_own-ran-requires-clause-stands
run_own-ran-requires-clause-stands g c =
    let img = image_of (g.C.Core.stacks c.args.core.now) (g.C.Core.rows c.args.core.now) c.requires.valid.0 c.args.parts.now in (
      img,
      c.args.process,
      stands_in c.args.parts.now.code img c.args.process c.registers-regs.result.now c.index_mut-own.result.now c.requires.valid.1 c.requires.able c.registers-regs.ensures
          c.index_mut-own.ensures.value,
    )

pub run_own-ran-requires-clause-table : goal.run_own-ran-requires-clause-table
run_own-ran-requires-clause-table g c =
    let same = own_is c.args.parts.now.regs.items c.args.process c.registers-regs.result.now c.index_mut-own.result.now c.registers-regs.ensures c.index_mut-own.ensures.value in
    subst (λ (q : Registers). IfSome c.decoded-table.result (λ t. AreDecoded c.args.parts.now.code q.segment q.ll t.now)) (sym same)
    (c.decoded-table.ensures c.args.parts.now.code c.requires.tables)

pub returns-then-ran-gt0-clause-ran : goal.returns-then-ran-gt0-clause-ran
returns-then-ran-gt0-clause-ran g c = λ kernel v.
    let img = image_of (g.C.Core.stacks c.args.core.now) (g.C.Core.rows c.args.core.now) kernel c.args.parts.now in
    let p = c.args.process in
    let r = c.registers-regs.result.now in
    let q = c.index_mut-own.result.now in
    run_in_all c.args.parts.now.code img p c.args.most r c.run_own-ran.new.regs (g.C.Core.stacks c.run_own-ran.new.core) (g.C.Core.rows c.run_own-ran.new.core) c.run_own-ran.result c.run_own-ran.new.letters
    c.registers-regs.ensures
    (c.run_own-ran.ensures.ran img p (stands_in c.args.parts.now.code img p r q v c.requires.able c.registers-regs.ensures c.index_mut-own.ensures.value))

pub returns-else-ran-gt0-clause-ran : goal.returns-else-ran-gt0-clause-ran
returns-else-ran-gt0-clause-ran g c = λ kernel v.
    let img = image_of (g.C.Core.stacks c.args.core.now) (g.C.Core.rows c.args.core.now) kernel c.args.parts.now in
    let p = c.args.process in
    let r = c.registers-regs.result.now in
    let q = c.index_mut-own.result.now in
    run_in_all c.args.parts.now.code img p c.args.most r c.run_own-ran.new.regs (g.C.Core.stacks c.run_own-ran.new.core) (g.C.Core.rows c.run_own-ran.new.core) c.run_own-ran.result c.run_own-ran.new.letters
    c.registers-regs.ensures
    (c.run_own-ran.ensures.ran img p (stands_in c.args.parts.now.code img p r q v c.requires.able c.registers-regs.ensures c.index_mut-own.ensures.value))
