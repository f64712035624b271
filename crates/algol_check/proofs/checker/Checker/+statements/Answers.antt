use Rattle.std.proofs.Common.{◌∙◌, ◌+◌, drop, false, refl}
use Rattle.std.specs.Prelude.{option_copied}
use Rattle.algol_tree.specs.Blocks.{of_statement}
use Rattle.algol_tree.specs.Image.{body, decls, expr, stmt, stmts}
use Rattle.algol_tree.specs.Sites.{has_decls}
use Rattle.b67_list.proofs.Answered.{on_ok}
use Rattle.algol_check.specs.Declaring.{decls_in}
use Rattle.algol_check.specs.Walking.{begin_as}
use Rattle.algol_check.proofs.Arms.{after_faults, announced_here, arrays_arm, assign_arm, block_arm, block_ends, body_arm, call_arm, case_arm, case_ends, decls_less, decls_remain, empty_arm, event_arm, events_arm, files_arm, for_arm, for_ends, forward_arm, go_to_arm, if_else_arm, if_then_arm, label_arm, labels_arm, procedure_arm, procedure_ends, process_arm, remains_all, remains_less, remains_none, simple_arm, stmts_as, tasks_arm, thru_arm, until_arm, until_ends, while_arm, write_arm}
use Rattle.algol_check.proofs.Stated.{label_walks}
use Rattle.algol_check.proofs.checker.Checker.+statements.Goals as goal

pub stmt-returns-in-Empty : goal.stmt-returns-in-Empty
stmt-returns-in-Empty t c =
    empty_arm c.args.scopes.now c.args.s.now c.args.self.now (begin_as c.args.begin) c.args.listed c.in-Empty.is

pub stmt-returns-in-Label : goal.stmt-returns-in-Label
stmt-returns-in-Label t c =
    on_ok c.labelled.result
    (λ went.
    label_arm c.args.scopes.now c.args.s.now c.in-Label.n c.in-Label.s c.boxed_stmt.result.now c.args.self.now c.labelled.new.self (begin_as c.args.begin) c.args.listed c.in-Label.is
    c.boxed_stmt.ensures (went (begin_as c.args.begin)))
    c.labelled.ensures

pub stmt-returns-in-Assign : goal.stmt-returns-in-Assign
stmt-returns-in-Assign t c =
    assign_arm c.args.scopes.now c.args.s.now c.in-Assign.v c.in-Assign.e c.args.self.now c.assign.new.self (begin_as c.args.begin) c.args.listed c.in-Assign.is
    (c.assign.ensures (begin_as c.args.begin) c.args.listed)

pub stmt-returns-in-Call : goal.stmt-returns-in-Call
stmt-returns-in-Call t c =
    call_arm c.args.scopes.now c.args.s.now c.in-Call.c c.args.self.now c.call.new.self (begin_as c.args.begin) c.args.listed c.in-Call.is
    (c.call.ensures (begin_as c.args.begin) c.args.listed)

pub stmt-returns-in-GoTo : goal.stmt-returns-in-GoTo
stmt-returns-in-GoTo t c =
    go_to_arm c.args.scopes.now c.args.s.now c.in-GoTo.n c.args.self.now c.go_to.new.self (begin_as c.args.begin) c.args.listed c.in-GoTo.is
    (c.go_to.ensures (begin_as c.args.begin) c.args.listed)

pub stmt-returns-in-Process : goal.stmt-returns-in-Process
stmt-returns-in-Process t c =
    process_arm c.args.scopes.now c.args.s.now c.in-Process.c c.in-Process.task c.args.self.now c.process.new.self (begin_as c.args.begin) c.args.listed c.in-Process.is
    (c.process.ensures (begin_as c.args.begin) c.args.listed)

pub stmt-returns-in-Event : goal.stmt-returns-in-Event
stmt-returns-in-Event t c =
    event_arm c.args.scopes.now c.args.s.now c.in-Event.field-0 c.in-Event.e c.args.self.now c.event.new.self (begin_as c.args.begin) c.args.listed c.in-Event.is
    (c.event.ensures c.in-Event.field-0 (begin_as c.args.begin) c.args.listed)

pub stmt-returns-in-Write : goal.stmt-returns-in-Write
stmt-returns-in-Write t c =
    write_arm c.args.scopes.now c.args.s.now c.in-Write.file c.in-Write.spot c.in-Write.phrases c.deref.result.now c.in-Write.items c.exprs_in.result.now c.args.self.now c.write.new.self
    (begin_as c.args.begin) c.args.listed c.in-Write.is (c.deref.ensures.value ∙ c.items.ensures) c.exprs_in.ensures
    (c.write.ensures (begin_as c.args.begin) c.args.listed)

pub stmt-returns-in-Block : goal.stmt-returns-in-Block
stmt-returns-in-Block t c =
    on_ok c.block.result
    (λ went. block_arm c.args.scopes.now c.args.s.now c.in-Block.b c.args.self.now c.block.new.self (begin_as c.args.begin) c.args.listed c.in-Block.is (went c.args.listed))
    c.block.ensures

pub stmt-returns-in-None : goal.stmt-returns-in-None
stmt-returns-in-None t c =
    if_then_arm c.args.scopes.now c.args.s.now c.in-If.c c.in-If.x c.in-If.other c.boxed_stmt-in-If.result.now c.args.self.now c.guarded.new.self (begin_as c.args.begin) c.args.listed
    c.in-If.is c.in-None.is c.boxed_stmt-in-If.ensures c.in_ok-guarded-in-If.ensures

pub stmt-returns-in-Some : goal.stmt-returns-in-Some
stmt-returns-in-Some t c =
    on_ok c.stmt.result
    (λ went.
    if_else_arm c.args.scopes.now c.args.s.now c.in-If.c c.in-If.x c.in-If.other c.in-Some.y c.boxed_stmt-in-If.result.now c.boxed_stmt-in-Some.result.now c.args.self.now c.guarded.new.self
    c.stmt.new.self (begin_as c.args.begin) c.args.listed c.in-If.is c.in-Some.is c.boxed_stmt-in-If.ensures c.boxed_stmt-in-Some.ensures
    c.in_ok-guarded-in-If.ensures went)
    c.stmt.ensures

pub stmt-returns-in-While : goal.stmt-returns-in-While
stmt-returns-in-While t c =
    on_ok c.guarded-in-While.result
    (λ went.
    while_arm c.args.scopes.now c.args.s.now c.in-While.c c.in-While.b c.boxed_stmt-in-While.result.now c.args.self.now c.guarded-in-While.new.self (begin_as c.args.begin) c.args.listed
    c.in-While.is c.boxed_stmt-in-While.ensures went)
    c.guarded-in-While.ensures

pub stmt-returns-in-Thru : goal.stmt-returns-in-Thru
stmt-returns-in-Thru t c =
    on_ok c.guarded-in-Thru.result
    (λ went.
    thru_arm c.args.scopes.now c.args.s.now c.in-Thru.e c.in-Thru.b c.boxed_stmt-in-Thru.result.now c.args.self.now c.guarded-in-Thru.new.self (begin_as c.args.begin) c.args.listed
    c.in-Thru.is c.boxed_stmt-in-Thru.ensures went)
    c.guarded-in-Thru.ensures

pub stmt-returns-in-Until : goal.stmt-returns-in-Until
stmt-returns-in-Until t c =
    on_ok c.until.result
    (λ went.
    until_arm c.args.scopes.now c.args.s.now c.in-Until.b c.in-Until.c c.boxed_stmt-in-Until.result.now c.args.self.now c.until.new.self (begin_as c.args.begin) c.args.listed
    c.in-Until.is c.boxed_stmt-in-Until.ensures (went (begin_as c.args.begin) c.args.listed))
    c.until.ensures

pub stmt-returns-in-For : goal.stmt-returns-in-For
stmt-returns-in-For t c =
    on_ok c.counted.result
    (λ went.
    for_arm c.args.scopes.now c.args.s.now c.in-For.v c.in-For.x c.in-For.step c.in-For.last c.in-For.b c.boxed_stmt-in-For.result.now c.args.self.now c.counted.new.self
    (begin_as c.args.begin) c.args.listed c.in-For.is c.boxed_stmt-in-For.ensures (went (begin_as c.args.begin) c.args.listed))
    c.counted.ensures

pub stmt-returns-in-Case : goal.stmt-returns-in-Case
stmt-returns-in-Case t c =
    on_ok c.case.result
    (λ went.
    case_arm c.args.scopes.now c.args.s.now c.in-Case.e c.in-Case.ss c.stmts_in.result.now c.args.self.now c.case.new.self (begin_as c.args.begin) c.args.listed
    c.in-Case.is c.stmts_in.ensures (went (begin_as c.args.begin) c.args.listed))
    c.case.ensures

-- ---- statements with statements in them

pub labelled-returns : goal.labelled-returns
labelled-returns t c =
    on_ok c.stmt.result
    (λ went begin.
    label_walks c.args.scopes.now c.args.self.now c.label.new.self c.stmt.new.self c.args.n.now (stmt c.args.s.now) begin c.args.listed
    (c.in_ok-label.ensures (stmt c.args.s.now)) went)
    c.stmt.ensures

pub block-returns : goal.block-returns
block-returns t c =
    λ listed.
    block_ends c.args.scopes.now c.args.b.now c.args.self.now c.begin.new.self c.body.new.self c.end.new.self c.in_ok-opened.opened (begin_as c.args.begin) listed
    c.begin.ensures.rest c.in_ok-opened.ensures.opens c.in_ok-opened.ensures.enters c.in_ok-body.ensures c.end.ensures.rest c.end.ensures.ends

pub guarded-returns : goal.guarded-returns
guarded-returns t c =
    on_ok c.stmt.result
    (λ went.
    record {
      faults = c.typed.new.self.faults;
      typed = c.typed.ensures.typed;
      walks = after_faults c.args.scopes.now c.args.self.now c.typed.new.self c.stmt.new.self (stmt c.args.s.now) of_statement false c.typed.ensures.rest went;
    })
    c.stmt.ensures

pub until-returns : goal.until-returns
until-returns t c =
    λ begin listed.
    until_ends c.args.scopes.now (stmt c.args.s.now) (expr c.args.e.now) c.args.self.now c.stmt.new.self c.typed.new.self begin listed c.in_ok-stmt.ensures c.typed.ensures.rest
    c.typed.ensures.typed

pub counted-returns : goal.counted-returns
counted-returns t c =
    on_ok c.stmt.result
    (λ went begin listed.
    for_ends c.args.scopes.now c.args.v.now (expr c.args.x.now) (expr c.args.step.now) (expr c.args.last.now) (stmt c.args.s.now) c.args.self.now c.counting.new.self c.stmt.new.self
    begin listed c.counting.ensures.rest c.counting.ensures.counted went)
    c.stmt.ensures

pub case-returns : goal.case-returns
case-returns t c =
    on_ok c.stmts.result
    (λ went begin listed.
    case_ends c.args.scopes.now (expr c.args.e.now) (stmts c.args.ss.now) c.args.self.now c.typed.new.self c.stmts.new.self begin listed c.typed.ensures.rest c.typed.ensures.typed went)
    c.stmts.ensures

pub stmts-statements-init : goal.stmts-statements-init
stmts-statements-init t c =
    let ss = c.args.ss.now in
    remains_all c.args.scopes.now c.args.self.now ss ss c.args.listed refl

pub stmts-statements-preserved : goal.stmts-statements-preserved
stmts-statements-preserved t c =
    let ss = c.args.ss.now in
    remains_less c.args.scopes.now c.args.self.now c.statements.self c.stmt.new.self ss ss c.statements.s-index c.s-item.result c.args.listed c.statements-test.true c.s-item.is
    c.in_ok-stmt.ensures c.statements.invariant

pub stmts-returns : goal.stmts-returns
stmts-returns t c =
    let ss = c.args.ss.now in
    remains_none c.args.scopes.now c.args.self.now c.statements.self ss ss c.statements.s-index c.args.listed c.statements-test.false c.statements.invariant

pub decl-returns-in-Simple : goal.decl-returns-in-Simple
decl-returns-in-Simple t c = λ later e. simple_arm c.args.scopes.now c.args.d.now c.in-Simple.field-0 c.in-Simple.field-1 c.args.self.now later c.in-Simple.is

pub decl-returns-in-Files : goal.decl-returns-in-Files
decl-returns-in-Files t c = λ later e. files_arm c.args.scopes.now c.args.d.now c.in-Files.field-0 c.args.self.now later c.in-Files.is

pub decl-returns-in-Events : goal.decl-returns-in-Events
decl-returns-in-Events t c = λ later e. events_arm c.args.scopes.now c.args.d.now c.in-Events.field-0 c.args.self.now later c.in-Events.is

pub decl-returns-in-Tasks : goal.decl-returns-in-Tasks
decl-returns-in-Tasks t c = λ later e. tasks_arm c.args.scopes.now c.args.d.now c.in-Tasks.field-0 c.args.self.now later c.in-Tasks.is

pub decl-returns-in-Labels : goal.decl-returns-in-Labels
decl-returns-in-Labels t c =
    on_ok c.keep_labels.result
    (λ kept later e.
    labels_arm c.args.scopes.now c.args.d.now c.in-Labels.ns c.deref.result.now c.args.self.now c.keep_labels.new.self later c.in-Labels.is
    (c.deref.ensures.value ∙ c.items.ensures) c.keep_labels.ensures.rest kept)
    c.keep_labels.ensures.labels

pub decl-returns-in-Arrays : goal.decl-returns-in-Arrays
decl-returns-in-Arrays t c = λ later e.
    arrays_arm c.args.scopes.now c.args.d.now c.in-Arrays.field-0 c.in-Arrays.field-1 c.in-Arrays.pairs c.deref-in-Arrays.result.now c.args.self.now c.bounds.new.self later
    c.in-Arrays.is (c.deref-in-Arrays.ensures.value ∙ c.items-in-Arrays.ensures) c.bounds.ensures.rest c.bounds.ensures.faults

pub decl-returns-in-Forward : goal.decl-returns-in-Forward
decl-returns-in-Forward t c =
    on_ok c.forward.result
    (λ faults later e.
    forward_arm c.args.scopes.now c.args.d.now c.in-Forward.h (option_copied c.args.body) c.args.self.now c.forward.new.self later c.in-Forward.is c.forward.ensures.rest e
    faults)
    c.forward.ensures.faults

pub decl-returns-in-Procedure : goal.decl-returns-in-Procedure
decl-returns-in-Procedure t c =
    on_ok c.procedure.result
    (λ went later e.
    procedure_arm c.args.scopes.now c.args.d.now c.in-Procedure.h c.in-Procedure.s c.boxed_stmt.result.now c.args.self.now c.procedure.new.self later c.in-Procedure.is
    c.boxed_stmt.ensures (went later))
    c.procedure.ensures

pub procedure-returns : goal.procedure-returns
procedure-returns t c = λ later.
    procedure_ends c.args.scopes.now c.args.h.now (stmt c.args.s.now) c.args.self.now c.heading.new.self c.enter.new.self c.stmt.new.self c.leave.new.self later
    c.heading.ensures.rest c.in_ok-heading.ensures.faults c.enter.ensures.rest c.in_ok-enter.ensures.enters c.in_ok-stmt.ensures c.leave.ensures.rest
    c.leave.ensures.place

pub body-declarations-init : goal.body-declarations-init
body-declarations-init t c =
    let ds = c.decls_in-ds.result.now in decls_remain c.args.scopes.now c.args.self.now ds ds refl

pub body-declarations-preserved : goal.body-declarations-preserved
body-declarations-preserved t c =
    let ds = c.decls_in-ds.result.now in
    let announced = announced_here ds ds c.declarations.at c.index-ds-at.result c.body_at.result c.as_slice.result.now c.in_ok-bodies.bodies.items c.declarations-test.true c.index-ds-at.is
    c.body_at.ensures c.as_slice.ensures.value c.in_ok-bodies.ensures refl in
    decls_less c.args.scopes.now c.args.self.now c.declarations.self c.decl.new.self ds ds c.declarations.at c.index-ds-at.result c.declarations-test.true c.index-ds-at.is
    (c.in_ok-decl.ensures (decls (drop (c.declarations.at + 1) ds)) announced) c.declarations.invariant

pub list-returns : goal.list-returns
list-returns t c =
    on_ok c.stmts.result
    (λ went.
    stmts_as c.args.scopes.now c.args.self.now c.stmts.new.self c.stmts_in.result.now c.args.b.now.stmts c.has_declarations.result (has_decls (decls_in (body c.args.b.now)))
    c.stmts_in.ensures c.has_declarations.ensures went)
    c.stmts.ensures

pub body-returns : goal.body-returns
body-returns t c =
    on_ok c.list.result
    (λ went.
    body_arm c.args.scopes.now c.args.b.now c.args.self.now c.declarations.self c.list.new.self c.decls_in-ds.result.now c.declarations.at c.decls_in-ds.ensures
    c.declarations-test.false c.declarations.invariant went)
    c.list.ensures
