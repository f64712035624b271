use Rattle.std.proofs.Common.{◌≤◌, refl, sym, ap, length, length-append, replicate, pos, arith}
use Rattle.b67_word.specs.Word.{operand}
use Rattle.b67_store.proofs.Rooms.{all_left, lent_lowest, filled_lowest, size_lowest}
use Rattle.b67_store.proofs.stack.Stack.room.Goals as goal

pub returns : goal.returns
returns c =
    let old = c.self.inside.words in
    let new = c.reach.new.words in
    let used = c.self.inside.used in
    let room = c.as_mut_slice.ensures.value in
    let more = c.reach.ensures.words in
    let within : used ≤ length old.items = omega (arith, c.self.invariant.0, old.ok) in
    let lowest = filled_lowest old.items new.items (replicate more.0 (operand (pos 0))) c.args.self.now used c.self.view_is within more.1 in
    let few : used ≤ length new.items = omega (arith, within, length-append old.items (replicate more.0 (operand (pos 0))), ap length more.1) in (
      (refl, λ w. rw room (all_left new.items w new.len c.len-self-inside.result c.len-self-inside.ensures (sym new.ok.0))),
      record {
        words = record {
          long = omega (arith, c.as_mut_slice.ensures.len, c.reach.ensures.long);
          within = omega (arith, size_lowest new.items c.args.self.now used lowest few, ap length room, few);
          size = omega (arith, c.as_mut_slice.ensures.len, c.reach.ensures.size);
          words = lent_lowest new.items c.as_mut_slice.result.now c.args.self.now used lowest few room;
        };
        writes_back = tt;
      },
    )
