use Rattle.std.proofs.Common.{rules, ◌≡◌, sym, ◌∙◌, subst, ℕ, List}
use Rattle.algol_tree.specs.Plain.{PProgram}
use Rattle.algol_tree.specs.Scopes.{scopes_of}
use Rattle.algol_meaning.specs.World.{World}
use Rattle.algol_meaning.specs.Run.{start}
use Rattle.algol_world.specs.SeenWorld.{world_of}
use Rattle.b67_report.specs.declared.Report.{Report}
use Rattle.b67_schedule.specs.Schedules.{entries}
use Rattle.b67_judge.specs.Judging.{EndFits, IsFirstOther}
use Rattle.b67_judge.specs.Walked.{WalksBeside}
use Rattle.b67_judge.specs.declared.walking.Walked.{Walked}
use Rattle.b67_judge.specs.declared.walking.Walked.TheVariants.{Whole, Stopped}
use Rattle.b67_judge.proofs.Verdicts.{bad_entry, bad_line, just, bad_end}
use Rattle.b67_judge.proofs.Beside.{fits_beside, fits_not_beside}
use Rattle.b67_judge.proofs.judging.verdict_of.Goals as goal

-- the same walk, which ended so
abbrev walk_as : (tree : PProgram) (report : Report) (now : World) (a b : Walked) → a ≡ b →
    WalksBeside (scopes_of tree) (entries report.schedule.runs) (start (scopes_of tree)) now a → WalksBeside (scopes_of tree) (entries report.schedule.runs) (start (scopes_of tree)) now b
walk_as tree report now a b is walks = subst (λ (x : Walked). WalksBeside (scopes_of tree) (entries report.schedule.runs) (start (scopes_of tree)) now x) is walks

pub returns-in-Stopped : goal.returns-in-Stopped
returns-in-Stopped c = λ tree e walks.
    let is : c.args.walked ≡ Stopped c.in-Stopped.entry = search rules in
    let t = walk_as tree c.args.report.now (world_of c.args.world.now) c.args.walked (Stopped c.in-Stopped.entry) is walks in
    bad_entry tree c.args.report.now t.after c.in-Stopped.entry t.walks

pub returns-in-Some : goal.returns-in-Some
returns-in-Some c = λ tree e walks.
    let is : c.args.walked ≡ Whole = search rules in
    let t = walk_as tree c.args.report.now (world_of c.args.world.now) c.args.walked Whole is walks in
    let ours : c.deref.result.now ≡ c.args.report.now.output = search rules in
    let theirs : c.deref-in-Whole.result.now ≡ c.args.world.now.output = search rules in
    bad_line tree c.args.report.now t.after t.walks c.in-Some.line
    (subst (λ (xs : List (List ℕ)). IsFirstOther xs t.after.output c.in-Some.line) ours
    (subst (λ (ys : List (List ℕ)). IsFirstOther c.deref.result.now ys c.in-Some.line) (theirs ∙ t.beside.lean.output) c.in-Some.ensures.first))

pub returns-then-end_fits : goal.returns-then-end_fits
returns-then-end_fits c = λ tree e walks.
    let is : c.args.walked ≡ Whole = search rules in
    let t = walk_as tree c.args.report.now (world_of c.args.world.now) c.args.walked Whole is walks in
    let ours : c.deref.result.now ≡ c.args.report.now.output = search rules in
    let theirs : c.deref-in-Whole.result.now ≡ c.args.world.now.output = search rules in
    let fits : EndFits (world_of c.args.world.now) c.len.result c.args.report.now.end = search rules in
    just tree c.args.report.now t.after t.walks (sym ours ∙ c.in-None.ensures.first ∙ theirs ∙ t.beside.lean.output)
    (subst (λ (n : ℕ). EndFits t.after n c.args.report.now.end) c.len.ensures
    (fits_beside (scopes_of tree) t.after (world_of c.args.world.now) c.len.result c.args.report.now.end t.beside fits))

pub returns-else-end_fits : goal.returns-else-end_fits
returns-else-end_fits c = λ tree e walks.
    let is : c.args.walked ≡ Whole = search rules in
    let t = walk_as tree c.args.report.now (world_of c.args.world.now) c.args.walked Whole is walks in
    let ours : c.deref.result.now ≡ c.args.report.now.output = search rules in
    let theirs : c.deref-in-Whole.result.now ≡ c.args.world.now.output = search rules in
    let other : EndFits (world_of c.args.world.now) c.len.result c.args.report.now.end → ⊥ = search rules in
    bad_end tree c.args.report.now t.after t.walks (sym ours ∙ c.in-None.ensures.first ∙ theirs ∙ t.beside.lean.output)
    (λ f. fits_not_beside (scopes_of tree) t.after (world_of c.args.world.now) c.len.result c.args.report.now.end t.beside other
    (subst (λ (n : ℕ). EndFits t.after n c.args.report.now.end) (sym c.len.ensures) f))
