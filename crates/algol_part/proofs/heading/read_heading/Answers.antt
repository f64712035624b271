use Rattle.std.proofs.Common.{[], ◌∷◌, refl, sym, ap, ◌∙◌}
use Rattle.algol_expr.proofs.Chain.{via, making, rest_of}
use Rattle.algol_expr.proofs.Arms.{started}
use Rattle.b67_list.proofs.Answered.{if_err_left}
use Rattle.algol_part.proofs.Chains.{refusing, brought, refuses_here, behind_symbol, then, takes_all}
use Rattle.algol_part.specs.Phrases.{parameters_in_phrase}
use Rattle.algol_part.proofs.Tails.{brings_listed, refuses_on}
use Rattle.algol_part.proofs.Specs.{heading_bare, heading_round, heading_refuses}
use Rattle.algol_tree.specs.declared.token.Symbol.TheVariants as symbols
use Rattle.algol_tree.specs.Due as due
use Rattle.algol_part.proofs.heading.read_heading.Goals as goal

pub returns-in_err-name-clause-refused : goal.returns-in_err-name-clause-refused
returns-in_err-name-clause-refused c = if_err_left _ _ _ c.from_residual.ensures.1 (refusing (started (due.named ∷ due.behind_procedure c.args.kind ∷ []) [] _) c.in_err-name.ensures.refused)

pub returns-then-is_symbol-clause-found : goal.returns-then-is_symbol-clause-found
returns-then-is_symbol-clause-found c = brought (making (then (via (started (due.named ∷ due.behind_procedure c.args.kind ∷ []) [] _) c.in_ok-name.ensures.found) (takes_all c.first_of.ensures (due.behind_procedure c.args.kind) _ (heading_bare c.first_of.ensures _ (sym c.is_symbol.ensures ∙ c.if-is_symbol.true)))) (λ vs. refl)) (ap due.heading c.bare.ensures) (rest_of c.in_ok-name.ensures.found.behind (behind_symbol c.first_of.ensures symbols.Semicolon c.in_ok-name.ensures.found.behind.ended (sym c.is_symbol.ensures ∙ c.if-is_symbol.true)))

pub returns-then-is_symbol-2-clause-found : goal.returns-then-is_symbol-2-clause-found
returns-then-is_symbol-2-clause-found c = brings_listed c.read_parameters.result (λ x. due.heading x.0) (λ x. x.1.now) (rest_of c.in_ok-name.ensures.found.behind (behind_symbol c.first_of.ensures symbols.OpenRound c.in_ok-name.ensures.found.behind.ended (sym c.is_symbol-else-is_symbol.ensures ∙ c.if-is_symbol-2.true))) (parameters_in_phrase c.args.kind) (then (via (started (due.named ∷ due.behind_procedure c.args.kind ∷ []) [] _) c.in_ok-name.ensures.found) (takes_all c.first_of.ensures (due.behind_procedure c.args.kind) (parameters_in_phrase c.args.kind) (heading_round c.first_of.ensures _ (sym c.is_symbol-else-is_symbol.ensures ∙ c.if-is_symbol-2.true)))) c.read_parameters.ensures.found

pub returns-then-is_symbol-2-clause-refused : goal.returns-then-is_symbol-2-clause-refused
returns-then-is_symbol-2-clause-refused c = refuses_on c.read_parameters.result (parameters_in_phrase c.args.kind) {ws = []} (then (via (started (due.named ∷ due.behind_procedure c.args.kind ∷ []) [] _) c.in_ok-name.ensures.found) (takes_all c.first_of.ensures (due.behind_procedure c.args.kind) (parameters_in_phrase c.args.kind) (heading_round c.first_of.ensures _ (sym c.is_symbol-else-is_symbol.ensures ∙ c.if-is_symbol-2.true)))) c.read_parameters.ensures.refused

pub returns-else-is_symbol-2-clause-refused : goal.returns-else-is_symbol-2-clause-refused
returns-else-is_symbol-2-clause-refused c = refusing (via (started (due.named ∷ due.behind_procedure c.args.kind ∷ []) [] _) c.in_ok-name.ensures.found) (refuses_here c.first_of.ensures _ (due.behind_procedure c.args.kind) [] [] _ refl (heading_refuses c.first_of.ensures _ (sym c.is_symbol.ensures ∙ c.if-is_symbol.false) (sym c.is_symbol-else-is_symbol.ensures ∙ c.if-is_symbol-2.false)) c.unexpected.ensures)
