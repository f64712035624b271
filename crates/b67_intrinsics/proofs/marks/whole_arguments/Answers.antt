use Rattle.std.proofs.Common.{◌∙◌, ◌+◌, ◌<◌, ◌++◌, ◌∷◌, [], ap, subst, sym, length, List, ℕ, ℤ, arith}
use Rattle.b67_intrinsics.specs.Called.{arguments}
use Rattle.b67_intrinsics.proofs.Calling.{no_whole}
use Rattle.b67_intrinsics.proofs.Cases.{back}
use Rattle.b67_intrinsics.proofs.Numbers.{AreRead, read_first, read_next, read_whole, wholes_stop, length_last}
use Rattle.b67_intrinsics.proofs.marks.whole_arguments.Goals as goal

pub reading-init : goal.reading-init
reading-init g c =
    let words = arguments (g.C.Core.stacks c.args.core.now) c.args.regs.now in
    record {
      size = ap (λ (zs : List ℤ). length zs) c.in_ok-items.ensures.items;
      room = c.in_ok-items.ensures.capacity;
      read = subst (λ (zs : List ℤ). AreRead words zs 0) (sym c.in_ok-items.ensures.items) (read_first words);
    }

pub reading-preserved : goal.reading-preserved
reading-preserved g c =
    let words = arguments (g.C.Core.stacks c.args.core.now) c.args.regs.now in
    let old = c.reading.items.items in
    let added = c.add_item.ensures.items ∙ ap (λ (z : ℤ). old ++ z ∷ []) (back c.in_ok-item.item c.in_ok-item.ensures.small) in
    record {
      size = ap (λ (zs : List ℤ). length zs) added ∙ length_last old c.in_ok-item.item ∙ ap (λ (n : ℕ). n + 1) c.reading.invariant.size;
      room = omega (arith, c.reading.invariant.room, c.add_item.ensures.capacity);
      read = subst (λ (zs : List ℤ). AreRead words zs (c.reading.n + 1)) (sym added)
          (read_next words old c.in_ok-item.item c.reading.n c.in_ok-item.ensures.value c.reading.invariant.read);
    }

pub returns-in_err-item-clause-fault : goal.returns-in_err-item-clause-fault
returns-in_err-item-clause-fault g c =
    let words = arguments (g.C.Core.stacks c.args.core.now) c.args.regs.now in
    let within : c.reading.n < length words = omega (arith, c.reading-test.true, c.arguments-count.ensures) in
    let no = no_whole (g.C.Core.stacks c.args.core.now) words c.reading.n c.in_err-item.field-0.0 within c.in_err-item.ensures.value in
    wholes_stop words c.from_residual-in_err-item.result c.in_err-item.field-0.0 no.0 no.1 c.from_residual-in_err-item.ensures.1

pub returns-clause-items : goal.returns-clause-items
returns-clause-items g c =
    let words = arguments (g.C.Core.stacks c.args.core.now) c.args.regs.now in
    read_whole words c.reading.items.items c.reading.n (omega (arith, c.reading-test.false, c.arguments-count.ensures)) c.reading.invariant.read
