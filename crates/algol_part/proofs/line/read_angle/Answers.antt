use Rattle.std.proofs.Common.{[], refl, sym, ◌∙◌}
use Rattle.algol_expr.proofs.Chain.{making, done}
use Rattle.algol_part.proofs.Chains.{refuses_here, takes_it, behind_symbol}
use Rattle.algol_tree.specs.Due.{angle}
use Rattle.algol_part.proofs.Firsts.{angle_on, angle_off}
use Rattle.algol_tree.specs.declared.token.Symbol.TheVariants as symbols
use Rattle.algol_part.proofs.line.read_angle.Goals as goal

pub returns-then-is_symbol-clause-found : goal.returns-then-is_symbol-clause-found
returns-then-is_symbol-clause-found c = done (making (takes_it c.first_of.ensures angle _ {ds = []} {us = []} (angle_on c.first_of.ensures (sym c.is_symbol.ensures ∙ c.if-is_symbol.true))) (λ vs. refl)) refl (behind_symbol c.first_of.ensures symbols.Less c.requires.ended (sym c.is_symbol.ensures ∙ c.if-is_symbol.true))

pub returns-else-is_symbol-clause-refused : goal.returns-else-is_symbol-clause-refused
returns-else-is_symbol-clause-refused c = refuses_here c.first_of.ensures _ angle [] [] _ refl (angle_off c.first_of.ensures (sym c.is_symbol.ensures ∙ c.if-is_symbol.false)) c.unexpected.ensures
