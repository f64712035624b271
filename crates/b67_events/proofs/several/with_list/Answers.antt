use Rattle.std.proofs.Common.{◌-◌, ◌≤◌, ◌<◌, ◌∙◌, length, arith}
use Rattle.b67_events.proofs.OfSeveral.{list_padded_at, list_set_at}
use Rattle.b67_events.proofs.several.with_list.Goals as goal

pub padding-preserved : goal.padding-preserved
padding-preserved c =
    let ls = c.padding.lists.items in
    let short : length ls ≤ c.args.process - 1 = omega (arith, c.len.ensures, c.padding-test.true) in
    record {
      lists = rw c.add_none.ensures.items (list_padded_at ls c.args.process c.args.at.now c.requires.process short) ∙ c.padding.invariant.lists;
      capacity = omega (arith, c.padding.invariant.capacity, c.add_none.ensures.capacity);
    }

pub returns-clause-lists : goal.returns-clause-lists
returns-clause-lists c =
    let ls = c.padding.lists.items in
    let within : c.args.process - 1 < length ls = omega (arith, c.len.ensures, c.padding-test.false) in
    rw c.of.ensures (list_set_at ls c.args.process c.args.at.now c.requires.process within ∙ c.padding.invariant.lists)
