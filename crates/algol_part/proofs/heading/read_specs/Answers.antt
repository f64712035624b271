use Rattle.std.proofs.Common.{[], ◌∷◌, sym, ap, ◌∙◌, arith}
use Rattle.algol_expr.proofs.Chain.{making}
use Rattle.algol_expr.proofs.Arms.{started}
use Rattle.b67_list.proofs.Answered.{if_err_left}
use Rattle.algol_part.proofs.Chains.{adding, refusing_on, brought, skips_it, then, rest_within, valued}
use Rattle.algol_part.specs.Phrases.{specs_in}
use Rattle.algol_part.proofs.Loops.{goes_on}
use Rattle.algol_part.proofs.Specs.{specs_off, specs_on}
use Rattle.algol_tree.specs.Due as due
use Rattle.algol_part.proofs.heading.read_specs.Goals as goal

pub specs-init : goal.specs-init
specs-init c = goes_on (making (started specs_in [] _) (λ vs. ap (λ xs. due.specified xs ∷ vs) (sym c.new-specs.ensures.items))) c.requires.ended

pub returns-in_err-spec-clause-refused : goal.returns-in_err-spec-clause-refused
returns-in_err-spec-clause-refused c = if_err_left _ _ _ c.from_residual.ensures.1 (refusing_on _ {ws = []} c.specs.invariant.run (c.in_err-spec.ensures.refused _))

pub specs-preserved : goal.specs-preserved
specs-preserved c = record { run = then (valued {ws = []} (adding {ws = []} c.specs.invariant.run c.in_ok-spec.ensures.found) (ap due.specified c.in_ok-push.ensures.items)) (specs_on c.first_of.ensures (sym c.begins_spec.ensures ∙ c.if-begins_spec.true)); ended = c.in_ok-spec.ensures.found.behind.ended; no_longer = omega (arith, c.specs.invariant.no_longer, c.in_ok-spec.ensures.found.behind.shorter) }

pub returns-else-begins_spec-clause-found : goal.returns-else-begins_spec-clause-found
returns-else-begins_spec-clause-found c = brought (then (valued {ws = []} (adding {ws = []} c.specs.invariant.run c.in_ok-spec.ensures.found) (ap due.specified c.in_ok-push.ensures.items)) (skips_it c.first_of.ensures due.specs_more (specs_off c.first_of.ensures (sym c.begins_spec.ensures ∙ c.if-begins_spec.false)))) (ap due.specified c.of.ensures) (rest_within c.specs.invariant.no_longer c.in_ok-spec.ensures.found.behind)
