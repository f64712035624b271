use Rattle.b67_load.proofs.Built.{second_free, none_is_open}
use Rattle.b67_load.proofs.first.open_first.Goals as goal

pub open_with-second-requires-clause-free : goal.open_with-second-requires-clause-free
open_with-second-requires-clause-free g c =
    second_free (g.C.Core.stacks c.args.core.now) (g.C.Core.stacks c.open_with.new.core) c.system_words.result c.requires c.in_ok-open_with.ensures.opened

pub returns-then-is_err-clause-none : goal.returns-then-is_err-clause-none
returns-then-is_err-clause-none g c =
    none_is_open (g.C.Core.stacks c.args.core.now) (g.C.Core.stacks c.open_with.new.core) c.system_words.result c.requires c.in_ok-open_with.ensures.opened
    c.open_with-second.result (g.C.Core.stacks c.open_with-second.new.core) (g.C.Core.stacks c.close_stack.new.self) _ c.open_with-second.ensures.unchanged
    c.close_stack.ensures.found c.close_stack.ensures.stacks
