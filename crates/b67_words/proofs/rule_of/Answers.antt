use Rattle.std.proofs.Common.{ℕ, List, sym, subst}
use Rattle.b67_words.specs.declared.Rule.TheVariants.{Fifo, Lifo}
use Rattle.b67_words.specs.Grammar.{IsRule, fifo, lifo}
use Rattle.b67_words.proofs.rule_of.Goals as goal

pub returns-in-text : goal.returns-in-text
returns-in-text c = subst (λ (w : List ℕ). IsRule w Fifo) (sym c.in-text.is) fifo

pub returns-in-text-2 : goal.returns-in-text-2
returns-in-text-2 c = subst (λ (w : List ℕ). IsRule w Lifo) (sym c.in-text-2.is) lifo
