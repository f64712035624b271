use Rattle.algol_tree.specs.Image.{program as plain}
use Rattle.b67_compile.proofs.Compiled.{code_is_faithful, code_stacks}
use Rattle.algol_front.proofs.Ordered.{source_in_order}
use Rattle.b67_compile.proofs.Sources.{source_accepted, source_named, source_plain, source_whole}
use Rattle.b67_compile.proofs.compiler.compile.Goals as goal

pub code_of-requires-clause-accepted : goal.code_of-requires-clause-accepted
code_of-requires-clause-accepted c = source_accepted (plain c.args.checked.now.program) c.args.checked.now.accepted

pub code_of-requires-clause-order : goal.code_of-requires-clause-order
code_of-requires-clause-order c = source_in_order (plain c.args.checked.now.program) c.args.checked.now.accepted

pub code_of-requires-clause-whole : goal.code_of-requires-clause-whole
code_of-requires-clause-whole c = source_whole (plain c.args.checked.now.program) c.args.checked.now.accepted

pub code_of-requires-clause-texts : goal.code_of-requires-clause-texts
code_of-requires-clause-texts c = source_plain (plain c.args.checked.now.program) c.args.checked.now.accepted

pub code_of-requires-clause-named : goal.code_of-requires-clause-named
code_of-requires-clause-named c = source_named (plain c.args.checked.now.program) c.args.checked.now.accepted

pub returns-clause-faithful : goal.returns-clause-faithful
returns-clause-faithful c =
    code_is_faithful (plain c.args.checked.now.program) c.code_of.result c.args.checked.now.accepted
    c.code_of.ensures.code c.code_of.ensures.formats c.code_of.ensures.short c.code_of.ensures.listable

pub returns-clause-stacks : goal.returns-clause-stacks
returns-clause-stacks c =
    code_stacks (plain c.args.checked.now.program) c.code_of.result c.args.checked.now.accepted
    c.code_of.ensures.code c.code_of.ensures.formats c.code_of.ensures.short c.code_of.ensures.listable
