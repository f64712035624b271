use Rattle.std.proofs.Common.{sym, ◌∙◌, ◌+◌, ◌-◌, arith}
use Rattle.b67_store.specs.Store.{words_of}
use Rattle.b67_going.proofs.Named.{named_here, named_later, named_no_more, named_none}
use Rattle.b67_going.proofs.paths.parameter_names.Goals as goal

pub returns-in_default : goal.returns-in_default
returns-in_default g c =
    sym (c.parameters.invariant.rest
    ∙ named_no_more (words_of (g.C.Core.stacks c.args.core.now) c.args.needs.now.stack) c.args.frame (c.args.needs.now.first + c.parameters.index)
    (c.args.needs.now.count - c.parameters.index) (sym c.read.ensures ∙ c.in_default.is))

pub returns-then-word_names : goal.returns-then-word_names
returns-then-word_names g c =
    sym (c.parameters.invariant.rest
    ∙ named_here (words_of (g.C.Core.stacks c.args.core.now) c.args.needs.now.stack) c.args.frame (c.args.needs.now.first + c.parameters.index)
    (c.args.needs.now.count - c.parameters.index) c.in-Some.word (omega (arith, c.parameters-test.true)) (sym c.read.ensures ∙ c.in-Some.is)
    (sym c.word_names.ensures ∙ c.if-word_names.true))

pub returns : goal.returns
returns g c =
    sym (c.parameters.invariant.rest
    ∙ named_none (words_of (g.C.Core.stacks c.args.core.now) c.args.needs.now.stack) c.args.frame (c.args.needs.now.first + c.parameters.index)
    (c.args.needs.now.count - c.parameters.index) (omega (arith, c.parameters-test.false)))

pub parameters-preserved : goal.parameters-preserved
parameters-preserved g c = record {
  within = omega (arith, c.parameters-test.true);
  rest = c.parameters.invariant.rest
      ∙ named_later (words_of (g.C.Core.stacks c.args.core.now) c.args.needs.now.stack) c.args.frame (c.args.needs.now.first + c.parameters.index)
      (c.args.needs.now.count - c.parameters.index) (c.args.needs.now.first + (c.parameters.index + 1)) (c.args.needs.now.count - (c.parameters.index + 1))
      c.in-Some.word (omega (arith, c.parameters-test.true)) (sym c.read.ensures ∙ c.in-Some.is) (sym c.word_names.ensures ∙ c.if-word_names.false)
      (omega arith) (omega arith);
}
