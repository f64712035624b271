use Rattle.std.proofs.Common.{ap, subst, ◌∙◌, Bool}
use Rattle.b67_list.specs.Numbered.{numbered}
use Rattle.b67_table.specs.Image.{Image}
use Rattle.b67_table.specs.Table.{length_in}
use Rattle.b67_outcomes.specs.Entering.{ProcessEnters}
use Rattle.b67_outcomes.proofs.Determined.{no_entry, stops_one}
use Rattle.b67_explorer.proofs.Fitting.{limit_is, limit_words}
use Rattle.b67_explorer.proofs.following.ExplorerTeller.stop.Goals as goal

pub unreachable-requires : goal.unreachable-requires
unreachable-requires g c =
    let m = c.args.self.now.machine in
    let new = c.go.new.self.machine in
    let e = subst (λ (b : Bool). ProcessEnters m.code c.args.process m.image b new.image) c.if-branch.true c.in_ok-go.ensures.entered in
    no_entry m.code c.args.process m.image c.requires.stops.0 new.image e.0 _ c.requires.stops.1 e.1

pub words_at-requires : goal.words_at-requires
words_at-requires g c = limit_is c.go.new.self.machine c.args.process c.end.result c.end.ensures (c.in_ok-go.ensures.limit c.if-branch.false)

pub returns-clause-words : goal.returns-clause-words
returns-clause-words g c = λ quiet stops.
    let m = c.args.self.now.machine in
    let new = c.go.new.self.machine in
    let p = c.args.process in
    let entered = subst (λ (b : Bool). ProcessEnters m.code p m.image b new.image) c.if-branch.false c.in_ok-go.ensures.entered in
    c.words_at.ensures p _ (c.end.ensures ∙ limit_words new p (c.in_ok-go.ensures.limit c.if-branch.false))
    ∙ ap (λ (i : Image). length_in (numbered i.regs p)) (stops_one m.code p m.image new.image quiet entered stops)
