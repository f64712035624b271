use Rattle.std.proofs.Common.{◌-◌, ◌+◌, ◌<◌, ◌≤◌, ◌≡◌, true, false, length, None}
use Rattle.b67_list.specs.Numbered.{numbered}
use Rattle.b67_table.specs.Image.{is_able}
use Rattle.b67_table.specs.Table.{plain}
use Rattle.b67_machine.specs.Chaining.{Passing}
use Rattle.b67_machine.specs.Kept.{operators_counted}
use Rattle.b67_machine.specs.Reads.{machine_end}
use Rattle.b67_machine.proofs.Machine.pass.Given as goal

abbrev pub invariant-passing : goal.invariant-passing
invariant-passing g l = record {
  passes : Passing l.fn.self l.fn.process l.fn.most l.ran l.letters l.self;
  size : length l.letters ≡ length l.fn.letters;
  room : l.room + 1 ≡ length l.letters;
  entries : l.ran.entries ≤ l.room;
  few : l.ran.entries ≤ l.ran.operators;
  less : l.ran.operators + l.ran.plain + 1 ≤ l.fn.most;
  stops : l.ran.operators + l.ran.plain + 1 < l.fn.most → l.ran.entries < l.room → plain l.self.code l.self.image l.fn.process ≡ false;
  counts : operators_counted l.self.counts l.fn.process ≡ operators_counted l.fn.self.counts l.fn.process + (l.ran.operators + l.ran.plain);
  able : is_able (numbered l.self.image.states l.fn.process) ≡ true;
  going : machine_end l.self ≡ None;
  here : l.self.lacked ≡ false;
  started : l.self.image.started ≡ l.before;
}

abbrev pub decreases-passing : goal.decreases-passing
decreases-passing g l = l.room - l.ran.entries
