use Rattle.std.proofs.Common.{[], sym, ◌∙◌, arith}
use Rattle.algol_part.proofs.Chains.{takes_it, skips_it, behind_word}
use Rattle.algol_tree.specs.Due.{to_part}
use Rattle.algol_part.proofs.Firsts.{to_on, to_off}
use Rattle.algol_tree.specs.declared.token.Reserved.TheVariants as reserved
use Rattle.algol_part.proofs.simple.behind_to.Goals as goal

pub returns-then-is_word : goal.returns-then-is_word
returns-then-is_word c = let b = behind_word c.first_of.ensures reserved.To c.requires.ended (sym c.is_word.ensures ∙ c.if-is_word.true) in record { run = (takes_it c.first_of.ensures to_part _ {ds = []} {us = []} (to_on c.first_of.ensures (sym c.is_word.ensures ∙ c.if-is_word.true))).run; ended = b.ended; no_longer = omega (arith, b.shorter) }

pub returns-else-is_word : goal.returns-else-is_word
returns-else-is_word c = record { run = (skips_it c.first_of.ensures to_part {ds = []} {us = []} (to_off c.first_of.ensures (sym c.is_word.ensures ∙ c.if-is_word.false))).run; ended = c.requires.ended; no_longer = omega arith }
