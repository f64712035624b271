use Rattle.std.proofs.Common.{◌≡◌, refl, ap, ◌∙◌, true, Option, Some, None, arith}
use Rattle.b67_list.specs.Numbered.{numbered}
use Rattle.b67_table.specs.declared.ProcessState.{ProcessState}
use Rattle.b67_table.specs.declared.ProcessState.TheVariants.{Able, WaitsFor, WaitsAny, Procures, Ended}
use Rattle.b67_table.specs.Image.{is_able}
use Rattle.b67_table.proofs.Lists.{numbered_from, numbered_within}
use Rattle.b67_table.proofs.Cited.{may_able}
use Rattle.b67_machine.specs.Kept.{MachineModel}
use Rattle.b67_machine.proofs.Machine.last_process.Goals as goal

able_is : (o : Option ProcessState) → is_able o ≡ true → o ≡ Some Able
able_is None e = cc
able_is (Some Able) e = refl
able_is (Some (WaitsFor at)) e = cc
able_is (Some WaitsAny) e = cc
able_is (Some (Procures at)) e = cc
able_is (Some Ended) e = cc

pub returns-clause-few : goal.returns-clause-few
returns-clause-few g c = omega (arith, c.self.invariant.0.most)

pub returns-clause-all : goal.returns-clause-all
returns-clause-all g c = λ p e.
    let states = c.self.inside.parts.states.items in
    let able : is_able (numbered states p) ≡ true = ap (λ (k : MachineModel). is_able (numbered k.image.states p)) c.self.view_is ∙ may_able c.args.self.now.image p e in
    let there : numbered states p ≡ Some Able = able_is (numbered states p) able in
    (numbered_from states p Able there, omega (arith, numbered_within states p Able there, c.self.invariant.0.states))
