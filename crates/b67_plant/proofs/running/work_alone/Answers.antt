use Rattle.std.proofs.Common.{sym, ◌∙◌, arith}
use Rattle.b67_stands.proofs.Alone.{turns_keep_by_one}
use Rattle.b67_plant.proofs.Turning.{nobody_picked, turns_by_one, turns_less}
use Rattle.b67_plant.proofs.running.work_alone.Goals as goal

pub turns-init : goal.turns-init
turns-init g c = c.requires.first

pub pick-requires-clause-going : goal.pick-requires-clause-going
pick-requires-clause-going g c = sym c.answer.ensures.value ∙ c.in_default.is

pub enter_many-acted-requires-clause-out : goal.enter_many-acted-requires-clause-out
enter_many-acted-requires-clause-out g c = omega (arith, c.in-Some-pick.ensures.out)

pub turns-preserved : goal.turns-preserved
turns-preserved g c =
    turns_by_one g.N.Named.code g.N.Named.budget g.N.Named.pick c.turns.plant c.pick.new.self c.in-Some-pick.process c.requires.sound c.requires.most
    c.answer.ensures.stands c.turns.invariant (sym c.answer.ensures.value ∙ c.in_default.is) c.in-Some-pick.ensures.picked c.in-Some-pick.ensures.out
    c.enter_many-acted.result.1 c.enter_many-acted.ensures.acts.0 c.enter_many-acted.new.self c.enter_many-acted.ensures.acts.1

pub turns-smaller : goal.turns-smaller
turns-smaller g c =
    turns_less g.N.Named.code g.N.Named.budget g.N.Named.pick c.turns.plant c.pick.new.self c.in-Some-pick.process c.requires.sound c.requires.most
    c.answer.ensures.stands c.turns.invariant (sym c.answer.ensures.value ∙ c.in_default.is) c.in-Some-pick.ensures.picked c.in-Some-pick.ensures.out
    c.enter_many-acted.result.1 c.enter_many-acted.ensures.acts.0 c.enter_many-acted.new.self c.enter_many-acted.ensures.acts.1

pub unreachable-requires : goal.unreachable-requires
unreachable-requires g c =
    nobody_picked g.N.Named.pick 1 c.turns.plant c.pick.result c.pick.new.self
    (turns_keep_by_one.some g.N.Named.code g.N.Named.budget g.N.Named.pick c.turns.plant c.answer.ensures.stands c.turns.invariant (sym c.answer.ensures.value ∙ c.in_default.is))
    c.in_default-pick.is c.pick.ensures.picked

pub returns-in-Some-clause-answered : goal.returns-in-Some-clause-answered
returns-in-Some-clause-answered g c = sym c.answer.ensures.value ∙ c.in-Some.is
