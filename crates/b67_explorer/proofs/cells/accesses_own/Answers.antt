use Rattle.std.proofs.Common.{◌⊎◌, subst, arith}
use Rattle.b67_segment.specs.declared.code.Code.{Code}
use Rattle.b67_settling.specs.Local.{ReadsCell, StoresCell}
use Rattle.b67_explorer.proofs.cells.accesses_own.Goals as goal

pub touches_own-requires-clause-level : goal.touches_own-requires-clause-level
touches_own-requires-clause-level g c =
    let there = c.in-Some.ensures.found in
    let process = c.requires.valid.processes c.args.process c.in-Some.regs.now there.1 there.0 in
    let known = process.display.known in omega (arith, known)

pub returns-then-touches_own : goal.returns-then-touches_own
returns-then-touches_own g c = λ t.
    let there = c.in-Some.ensures.found in
    record {
      registers = c.in-Some.regs.now;
      has = there.0;
      free = c.is_free.ensures t;
      accesses = subst (λ (k : Code). ReadsCell k c.args.machine.now.image c.in-Some.regs.now c.args.part.now ⊎ StoresCell k c.args.machine.now.image c.in-Some.regs.now c.args.part.now)
          c.code.ensures (c.touches_own.ensures c.if-touches_own.true);
    }
