use Rattle.std.proofs.Common.{[], sym, ◌∙◌, arith}
use Rattle.algol_expr.proofs.Chain.{past, rest_of}
use Rattle.b67_list.proofs.Answered.{if_err_left}
use Rattle.algol_part.proofs.Chains.{failing, takes_it, skips_it, behind_symbol}
use Rattle.algol_tree.specs.Due.{printer_part}
use Rattle.algol_part.proofs.Firsts.{printer_on, printer_off}
use Rattle.algol_tree.specs.declared.token.Symbol.TheVariants as symbols
use Rattle.algol_part.proofs.names.read_printer.Goals as goal

pub returns-in_err-rest-clause-refused : goal.returns-in_err-rest-clause-refused
returns-in_err-rest-clause-refused c = if_err_left _ _ _ c.from_residual.ensures.1 (failing (takes_it c.first_of.ensures printer_part _ {ds = []} {us = []} (printer_on c.first_of.ensures (sym c.is_symbol.ensures ∙ c.if-is_symbol.true))) c.in_err-rest.ensures.fails)

pub returns-in_err-rest-2-clause-refused : goal.returns-in_err-rest-2-clause-refused
returns-in_err-rest-2-clause-refused c = if_err_left _ _ _ c.from_residual-in_err-rest-2.ensures.1 (failing (past (takes_it c.first_of.ensures printer_part _ {ds = []} {us = []} (printer_on c.first_of.ensures (sym c.is_symbol.ensures ∙ c.if-is_symbol.true))) c.in_ok-rest.ensures.passes) c.in_err-rest-2.ensures.fails)

pub returns-in_err-rest-3-clause-refused : goal.returns-in_err-rest-3-clause-refused
returns-in_err-rest-3-clause-refused c = if_err_left _ _ _ c.from_residual-in_err-rest-3.ensures.1 (failing (past (past (takes_it c.first_of.ensures printer_part _ {ds = []} {us = []} (printer_on c.first_of.ensures (sym c.is_symbol.ensures ∙ c.if-is_symbol.true))) c.in_ok-rest.ensures.passes) c.in_ok-rest-2.ensures.passes) c.in_err-rest-3.ensures.fails)

pub returns-in_err-expect_symbol-clause-refused : goal.returns-in_err-expect_symbol-clause-refused
returns-in_err-expect_symbol-clause-refused c = if_err_left _ _ _ c.from_residual-in_err-expect_symbol.ensures.1 (failing (past (past (past (takes_it c.first_of.ensures printer_part _ {ds = []} {us = []} (printer_on c.first_of.ensures (sym c.is_symbol.ensures ∙ c.if-is_symbol.true))) c.in_ok-rest.ensures.passes) c.in_ok-rest-2.ensures.passes) c.in_ok-rest-3.ensures.passes) c.in_err-expect_symbol.ensures.fails)

pub returns-in_ok-expect_symbol-clause-found : goal.returns-in_ok-expect_symbol-clause-found
returns-in_ok-expect_symbol-clause-found c = let b = rest_of (rest_of (rest_of (rest_of (behind_symbol c.first_of.ensures symbols.OpenRound c.requires.ended (sym c.is_symbol.ensures ∙ c.if-is_symbol.true)) (c.in_ok-rest.ensures.passes.behind)) (c.in_ok-rest-2.ensures.passes.behind)) (c.in_ok-rest-3.ensures.passes.behind)) (c.in_ok-expect_symbol.ensures.passes.behind) in record { run = (past (past (past (past (takes_it c.first_of.ensures printer_part _ {ds = []} {us = []} (printer_on c.first_of.ensures (sym c.is_symbol.ensures ∙ c.if-is_symbol.true))) c.in_ok-rest.ensures.passes) c.in_ok-rest-2.ensures.passes) c.in_ok-rest-3.ensures.passes) c.in_ok-expect_symbol.ensures.passes).run; ended = b.ended; no_longer = omega (arith, b.shorter) }

pub returns-else-is_symbol-clause-found : goal.returns-else-is_symbol-clause-found
returns-else-is_symbol-clause-found c = record { run = (skips_it c.first_of.ensures printer_part {ds = []} {us = []} (printer_off c.first_of.ensures (sym c.is_symbol.ensures ∙ c.if-is_symbol.false))).run; ended = c.requires.ended; no_longer = omega arith }
