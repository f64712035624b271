use Rattle.std.proofs.Common.{sym, ◌∙◌}
use Rattle.algol_part.proofs.Chains.{behind_it, takes_all, here}
use Rattle.algol_part.proofs.Begun.{array_declared, listed_declared, array_else, not_end_lists}
use Rattle.algol_part.specs.Phrases.{arrays_in, listed_in}
use Rattle.algol_tree.specs.declared.tree.Kind.TheVariants as types
use Rattle.algol_tree.specs.Due.{declarations}
use Rattle.algol_part.proofs.Tails.{repeats_by, repeats_none}
use Rattle.algol_part.proofs.declaration.read_listed.Goals as goal

pub returns-in-Some-clause-found : goal.returns-in-Some-clause-found
returns-in-Some-clause-found c = repeats_by c.read_declared.result _ _ (λ x. x.now) (listed_in c.in-Some.listed) (behind_it (here c.args.first.now c.args.behind.now) c.requires.ended (not_end_lists _ c.requires.word)) (λ d. takes_all (here c.args.first.now c.args.behind.now) (declarations d) _ {us = _} (listed_declared d (here c.args.first.now c.args.behind.now) _ (sym c.listed_by.ensures ∙ c.in-Some.is))) c.read_declared.ensures.found

pub returns-in-Some-clause-refused : goal.returns-in-Some-clause-refused
returns-in-Some-clause-refused c = repeats_none c.read_declared.result _ (listed_in c.in-Some.listed) (λ d. takes_all (here c.args.first.now c.args.behind.now) (declarations d) _ {us = _} (listed_declared d (here c.args.first.now c.args.behind.now) _ (sym c.listed_by.ensures ∙ c.in-Some.is))) c.read_declared.ensures.refused

pub returns-in-None-clause-found : goal.returns-in-None-clause-found
returns-in-None-clause-found c = repeats_by c.read_arrays.result _ _ (λ x. x.now) (arrays_in types.Number) (behind_it (here c.args.first.now c.args.behind.now) c.requires.ended (not_end_lists _ c.requires.word)) (λ d. takes_all (here c.args.first.now c.args.behind.now) (declarations d) _ {us = _} (array_declared d (here c.args.first.now c.args.behind.now) (array_else _ c.requires.word (sym c.listed_by.ensures ∙ c.in-None.is)))) c.read_arrays.ensures.found

pub returns-in-None-clause-refused : goal.returns-in-None-clause-refused
returns-in-None-clause-refused c = repeats_none c.read_arrays.result _ (arrays_in types.Number) (λ d. takes_all (here c.args.first.now c.args.behind.now) (declarations d) _ {us = _} (array_declared d (here c.args.first.now c.args.behind.now) (array_else _ c.requires.word (sym c.listed_by.ensures ∙ c.in-None.is)))) c.read_arrays.ensures.refused
