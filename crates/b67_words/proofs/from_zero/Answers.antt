use Rattle.std.proofs.Common.{ℕ, None, subst}
use Rattle.b67_words.specs.Grammar.{IsNumberOrNone}
use Rattle.b67_words.proofs.Numbers.{zero_from, none_from}
use Rattle.b67_words.proofs.from_zero.Goals as goal

pub returns-in-text : goal.returns-in-text
returns-in-text c = zero_from c.args.most c.args.text.now c.in-text.is

pub returns-in-None : goal.returns-in-None
returns-in-None c =
    none_from c.args.most c.args.text.now c.in_default.not-text (subst (λ (m : ℕ). IsNumberOrNone m c.args.text.now None) c.from.ensures c.in-None.ensures)
