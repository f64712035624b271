use Rattle.std.proofs.Common.{◌≡◌, refl, ap, sym, ◌∙◌}
use Rattle.algol_tree.specs.Plain as tree
use Rattle.algol_tree.proofs.Images.{decl_of_events, decl_of_files, decl_of_labels, decl_of_tasks, forward_is, procedure_is, simple_is}
use Rattle.algol_meaning.specs.SeenTree.{stmt, decl}
use Rattle.algol_cells.specs.SeenScope.{scoped}
use Rattle.algol_rest.specs.SeenStatement.{weigh}
use Rattle.algol_rest.proofs.Declaring.{decl_takes}
use Rattle.algol_rest.proofs.statement.Work.make.Goals as goal

pub returns-in-Events : goal.returns-in-Events
returns-in-Events c =
    let i = c.in-Events in
    let q : c.deref-in-Events.result.now ≡ i.ns = c.deref-in-Events.ensures.value ∙ c.items-in-Events.ensures in
    let e : decl c.args.d.now ≡ tree.events c.deref-in-Events.result.now = ap decl i.is ∙ decl_of_events i.ns ∙ ap tree.events (sym q) in
    rw e (c.make_events.ensures (scoped c.args.scopes.now))

pub returns-in-Tasks : goal.returns-in-Tasks
returns-in-Tasks c =
    let i = c.in-Tasks in
    let q : c.deref-in-Tasks.result.now ≡ i.ns = c.deref-in-Tasks.ensures.value ∙ c.items-in-Tasks.ensures in
    let e : decl c.args.d.now ≡ tree.tasks c.deref-in-Tasks.result.now = ap decl i.is ∙ decl_of_tasks i.ns ∙ ap tree.tasks (sym q) in
    rw e (c.make_events-in-Tasks.ensures (scoped c.args.scopes.now))

pub returns-in-Simple : goal.returns-in-Simple
returns-in-Simple c =
    let i = c.in-Simple in
    rw (ap decl i.is ∙ simple_is i.field-0 i.field-1) (refl, c.requires, decl_takes (tree.simple i.field-0 i.field-1) (weigh c.args.self.now.todo))

pub returns-in-Files : goal.returns-in-Files
returns-in-Files c =
    let i = c.in-Files in rw (ap decl i.is ∙ decl_of_files i.field-0) (refl, c.requires, decl_takes (tree.files i.field-0) (weigh c.args.self.now.todo))

pub returns-in-Labels : goal.returns-in-Labels
returns-in-Labels c =
    let i = c.in-Labels in
    rw (ap decl i.is ∙ decl_of_labels i.field-0) (refl, c.requires, decl_takes (tree.labels i.field-0) (weigh c.args.self.now.todo))

pub returns-in-Forward : goal.returns-in-Forward
returns-in-Forward c =
    let i = c.in-Forward in
    rw (ap decl i.is ∙ forward_is i.field-0) (refl, c.requires, decl_takes (tree.forward i.field-0) (weigh c.args.self.now.todo))

pub returns-in-Procedure : goal.returns-in-Procedure
returns-in-Procedure c =
    let i = c.in-Procedure in
    rw (ap decl i.is ∙ procedure_is i.field-0 i.field-1)
    (refl, c.requires, decl_takes (tree.procedure i.field-0 (stmt i.field-1.value)) (weigh c.args.self.now.todo))
