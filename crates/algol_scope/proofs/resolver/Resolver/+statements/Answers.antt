use Rattle.std.proofs.Common.{length, false, drop, refl, arith}
use Rattle.std.proofs.lemmas.List.{drop_all}
use Rattle.algol_tree.specs.Image.{expr, stmt, stmts}
use Rattle.b67_list.proofs.Answered.{on_ok}
use Rattle.algol_scope.proofs.Statements.{visits_labelled, visits_guarded, visits_until, visits_for, visits_case, visits_then_only, visits_branches, visits_call, visits_event, visits_go_to, visits_of, visits_thru, visits_while, heads_start, heads_item, heads_end}
use Rattle.algol_scope.proofs.Opening.{closed, fills_body, visits_block, visits_compound}
use Rattle.algol_scope.proofs.Bodies.{arrays_is, assign_read, block_is, call_read, case_read, event_read, events_is, files_is, for_read, forward_is, go_to_read, if_read, label_read, labels_is, not_block_of, procedure_read, process_read, simple_is, tasks_is, thru_read, until_read, while_read, write_read}
use Rattle.algol_scope.proofs.Procedures.{declares_of, declares_procedure, fills_block, fills_other, modes_known, through_start, through_item, through_end}
use Rattle.algol_scope.proofs.resolver.Resolver.+statements.Goals as goal

pub labelled-returns : goal.labelled-returns
labelled-returns t c =
    on_ok c.stmt.result
    (λ h listed.
    visits_labelled c.args.self.now c.name.new.self c.stmt.new.self c.args.n.now (stmt c.args.s.now) listed c.in_ok-name.ensures (h listed))
    c.stmt.ensures

pub guarded-returns : goal.guarded-returns
guarded-returns t c =
    on_ok c.stmt.result
    (λ h.
    visits_guarded c.args.self.now c.expr.new.self c.stmt.new.self (expr c.args.c.now) (stmt c.args.s.now) c.in_ok-expr.ensures (h false))
    c.stmt.ensures

pub until-returns : goal.until-returns
until-returns t c =
    on_ok c.expr.result
    (λ h listed.
    visits_until c.args.self.now c.stmt.new.self c.expr.new.self (stmt c.args.s.now) (expr c.args.c.now) listed (c.in_ok-stmt.ensures false) h)
    c.expr.ensures

pub counted-returns : goal.counted-returns
counted-returns t c =
    on_ok c.stmt.result
    (λ h listed.
    visits_for c.args.self.now c.counting.new.self c.stmt.new.self c.args.v.now (expr c.args.first.now) (expr c.args.step.now) (expr c.args.last.now)
    (stmt c.args.s.now) listed (c.in_ok-counting.ensures (stmt c.args.s.now) listed) (h false))
    c.stmt.ensures

pub case-returns : goal.case-returns
case-returns t c =
    on_ok c.stmts.result
    (λ h listed.
    visits_case c.args.self.now c.expr.new.self c.stmts.new.self (expr c.args.e.now) (stmts c.args.ss.now) listed c.in_ok-expr.ensures (h false))
    c.stmts.ensures

pub stmts-statements-init : goal.stmts-statements-init
stmts-statements-init t c =
    λ listed. heads_start c.args.self.now c.args.ss.now c.args.ss.now listed refl

pub stmts-statements-preserved : goal.stmts-statements-preserved
stmts-statements-preserved t c =
    λ listed.
    heads_item c.args.self.now c.statements.self c.stmt.new.self _ _ c.args.ss.now c.statements.s-index c.s-item.result listed
    c.statements-test.true c.s-item.is (c.statements.invariant listed) (c.in_ok-stmt.ensures listed)

pub stmts-returns : goal.stmts-returns
stmts-returns t c =
    λ listed.
    heads_end c.args.self.now c.statements.self _ _ _ listed (drop_all c.statements.s-index c.args.ss.now c.statements-test.false)
    (c.statements.invariant listed)

pub begin-returns-then-is_compound : goal.begin-returns-then-is_compound
begin-returns-then-is_compound t c =
    on_ok c.stmts.result
    (λ h listed.
    visits_compound c.args.self.now c.stmts.new.self c.args.b.now c.stmts_in.result.now c.stmts_in.ensures (length c.args.b.now.decls) listed c.is_compound.result refl
    c.is_compound.ensures c.if-is_compound.true (h false))
    c.stmts.ensures

pub begin-returns : goal.begin-returns
begin-returns t c =
    λ listed.
    visits_block c.args.self.now c.open.new.self c.body.new.self _ c.args.b.now (length c.args.b.now.decls) listed c.is_compound.result refl c.is_compound.ensures
    c.if-is_compound.false c.in_ok-open.ensures.opens c.in_ok-open.ensures.typed c.in_ok-open.ensures.begins c.in_ok-open.ensures.findings c.in_ok-body.ensures
    (closed c.args.self.now c.open.new.self c.body.new.self c.close.new.self c.in_ok-open.ensures.opens.outer c.in_ok-body.ensures.outer
    c.close.ensures.outside c.close.ensures.procedures)

pub body-returns : goal.body-returns
body-returns t c =
    on_ok c.stmts.result
    (λ h.
    fills_body c.args.self.now c.decls.new.self c.stmts.new.self c.args.b.now c.decls_in.result.now c.decls_in.ensures c.stmts_in.result.now c.stmts_in.ensures
    c.in_ok-decls.ensures h)
    c.stmts.ensures

pub decls-declarations-init : goal.decls-declarations-init
decls-declarations-init t c =
    through_start c.args.self.now c.look_ahead.new.self c.args.ds.now _ c.in_ok-ahead.ensures.ahead c.in_ok-ahead.ensures.more
    c.look_ahead.ensures.innermost c.look_ahead.ensures.outer c.look_ahead.ensures.findings c.look_ahead.ensures.blocks

pub decls-declarations-preserved : goal.decls-declarations-preserved
decls-declarations-preserved t c =
    through_item c.args.self.now c.declarations.self c.decl.new.self c.args.ds.now c.args.ds.now c.in_ok-ahead.ahead.items c.declarations.at
    c.index-ds-at.result c.index.result.now c.declarations-test.true (omega (arith, c.in_ok-ahead.ensures.count)) c.index-ds-at.is c.index.ensures c.declarations.invariant c.in_ok-decl.ensures

pub decls-returns : goal.decls-returns
decls-returns t c =
    through_end c.args.self.now c.declarations.self c.args.ds.now (drop c.declarations.at c.args.ds.now) _
    (drop_all c.declarations.at c.args.ds.now c.declarations-test.false) c.declarations.invariant

pub procedure-returns : goal.procedure-returns
procedure-returns t c =
    λ later of.
    let m = c.in_ok-declare_procedure.ensures later of in
    let st =
    c.in_ok-begin_procedure.ensures (modes_known c.args.self.now c.declare_procedure.new.self c.args.h.now c.args.ahead m.procedures of) in
    declares_procedure c.args.self.now c.declare_procedure.new.self c.begin_procedure.new.self c.procedure_body.new.self _ c.args.h.now
    (stmt c.args.s.now) later m st c.in_ok-procedure_body.ensures
    (closed c.declare_procedure.new.self c.begin_procedure.new.self c.procedure_body.new.self c.close.new.self st.outer
    c.in_ok-procedure_body.ensures.outer c.close.ensures.outside c.close.ensures.procedures)

pub procedure_body-returns-in-Block : goal.procedure_body-returns-in-Block
procedure_body-returns-in-Block t c =
    on_ok c.body.result (λ f. fills_block c.args.self.now c.body.new.self c.args.s.now c.in-Block.b c.in-Block.is f) c.body.ensures

pub procedure_body-returns-in_default : goal.procedure_body-returns-in_default
procedure_body-returns-in_default t c =
    on_ok c.stmt.result
    (λ v. fills_other c.args.self.now c.stmt.new.self (stmt c.args.s.now) (not_block_of c.args.s.now (λ b e. c.in_default.not-Block b e)) (v false))
    c.stmt.ensures

-- ---- the forms of statements

pub stmt-returns-in-Label : goal.stmt-returns-in-Label
stmt-returns-in-Label t c =
    on_ok c.labelled.result (λ h. visits_of c.args.self.now c.labelled.new.self c.args.s.now _ (label_read c.args.s.now _ _ _ c.in-Label.is c.boxed_stmt.ensures) (h)) c.labelled.ensures

pub stmt-returns-in-Assign : goal.stmt-returns-in-Assign
stmt-returns-in-Assign t c =
    on_ok c.assign.result (λ h. visits_of c.args.self.now c.assign.new.self c.args.s.now _ (assign_read c.args.s.now _ _ c.in-Assign.is) (h)) c.assign.ensures

pub stmt-returns-in-Call : goal.stmt-returns-in-Call
stmt-returns-in-Call t c =
    on_ok c.call.result (λ h. visits_of c.args.self.now c.call.new.self c.args.s.now _ (call_read c.args.s.now _ c.in-Call.is) (λ listed. visits_call c.args.self.now c.call.new.self _ listed h)) c.call.ensures

pub stmt-returns-in-GoTo : goal.stmt-returns-in-GoTo
stmt-returns-in-GoTo t c =
    on_ok c.name.result (λ h. visits_of c.args.self.now c.name.new.self c.args.s.now _ (go_to_read c.args.s.now _ c.in-GoTo.is) (λ listed. visits_go_to c.args.self.now c.name.new.self _ listed h)) c.name.ensures

pub stmt-returns-in-Block : goal.stmt-returns-in-Block
stmt-returns-in-Block t c =
    on_ok c.begin.result (λ h. visits_of c.args.self.now c.begin.new.self c.args.s.now _ (block_is c.args.s.now _ c.in-Block.is) h) c.begin.ensures

pub stmt-returns-in-None : goal.stmt-returns-in-None
stmt-returns-in-None t c =
    visits_of c.args.self.now c.guarded.new.self c.args.s.now _ (if_read c.args.s.now _ _ _ _ c.in-If.is c.boxed_stmt-in-If.ensures)
    (λ listed. visits_then_only c.args.self.now c.guarded.new.self _ _ _ listed c.in-None.is c.in_ok-guarded-in-If.ensures)

pub stmt-returns-in-Some : goal.stmt-returns-in-Some
stmt-returns-in-Some t c =
    on_ok c.stmt.result
    (λ h.
    visits_of c.args.self.now c.stmt.new.self c.args.s.now _ (if_read c.args.s.now _ _ _ _ c.in-If.is c.boxed_stmt-in-If.ensures)
    (λ listed.
    visits_branches c.args.self.now c.guarded.new.self c.stmt.new.self _ _ _ _ _ listed c.in-Some.is c.boxed_stmt-in-Some.ensures
    c.in_ok-guarded-in-If.ensures (h false)))
    c.stmt.ensures

pub stmt-returns-in-While : goal.stmt-returns-in-While
stmt-returns-in-While t c =
    on_ok c.guarded-in-While.result (λ h. visits_of c.args.self.now c.guarded-in-While.new.self c.args.s.now _ (while_read c.args.s.now _ _ _ c.in-While.is c.boxed_stmt-in-While.ensures) (λ listed. visits_while c.args.self.now c.guarded-in-While.new.self _ _ listed h)) c.guarded-in-While.ensures

pub stmt-returns-in-Until : goal.stmt-returns-in-Until
stmt-returns-in-Until t c =
    on_ok c.until.result (λ h. visits_of c.args.self.now c.until.new.self c.args.s.now _ (until_read c.args.s.now _ _ _ c.in-Until.is c.boxed_stmt-in-Until.ensures) (h)) c.until.ensures

pub stmt-returns-in-For : goal.stmt-returns-in-For
stmt-returns-in-For t c =
    on_ok c.counted.result (λ h. visits_of c.args.self.now c.counted.new.self c.args.s.now _ (for_read c.args.s.now _ _ _ _ _ _ c.in-For.is c.boxed_stmt-in-For.ensures) (h)) c.counted.ensures

pub stmt-returns-in-Thru : goal.stmt-returns-in-Thru
stmt-returns-in-Thru t c =
    on_ok c.guarded-in-Thru.result (λ h. visits_of c.args.self.now c.guarded-in-Thru.new.self c.args.s.now _ (thru_read c.args.s.now _ _ _ c.in-Thru.is c.boxed_stmt-in-Thru.ensures) (λ listed. visits_thru c.args.self.now c.guarded-in-Thru.new.self _ _ listed h)) c.guarded-in-Thru.ensures

pub stmt-returns-in-Case : goal.stmt-returns-in-Case
stmt-returns-in-Case t c =
    on_ok c.case.result (λ h. visits_of c.args.self.now c.case.new.self c.args.s.now _ (case_read c.args.s.now _ _ _ c.in-Case.is c.stmts_in.ensures) (h)) c.case.ensures

pub stmt-returns-in-Process : goal.stmt-returns-in-Process
stmt-returns-in-Process t c =
    on_ok c.process.result (λ h. visits_of c.args.self.now c.process.new.self c.args.s.now _ (process_read c.args.s.now _ _ c.in-Process.is) (h)) c.process.ensures

pub stmt-returns-in-Event : goal.stmt-returns-in-Event
stmt-returns-in-Event t c =
    on_ok c.name-in-Event.result (λ h. visits_of c.args.self.now c.name-in-Event.new.self c.args.s.now _ (event_read c.args.s.now _ _ c.in-Event.is) (λ listed. visits_event c.args.self.now c.name-in-Event.new.self _ _ listed h)) c.name-in-Event.ensures

pub stmt-returns-in-Write : goal.stmt-returns-in-Write
stmt-returns-in-Write t c =
    on_ok c.write.result (λ h. visits_of c.args.self.now c.write.new.self c.args.s.now _ (write_read c.args.s.now _ _ _ _ c.in-Write.is) (h _ _)) c.write.ensures

-- ---- the forms of declarations

pub decl-returns-in-Simple : goal.decl-returns-in-Simple
decl-returns-in-Simple t c =
    on_ok c.simple.result
    (λ h. declares_of c.args.self.now c.simple.new.self c.args.d.now _ c.args.ahead (simple_is c.args.d.now _ _ c.in-Simple.is) (λ later ahead. h later))
    c.simple.ensures

pub decl-returns-in-Files : goal.decl-returns-in-Files
decl-returns-in-Files t c =
    on_ok c.files.result
    (λ h. declares_of c.args.self.now c.files.new.self c.args.d.now _ c.args.ahead (files_is c.args.d.now _ c.in-Files.is) (λ later ahead. h later))
    c.files.ensures

pub decl-returns-in-Events : goal.decl-returns-in-Events
decl-returns-in-Events t c =
    on_ok c.events.result
    (λ h. declares_of c.args.self.now c.events.new.self c.args.d.now _ c.args.ahead (events_is c.args.d.now _ c.in-Events.is) (λ later ahead. h later))
    c.events.ensures

pub decl-returns-in-Tasks : goal.decl-returns-in-Tasks
decl-returns-in-Tasks t c =
    on_ok c.tasks.result
    (λ h. declares_of c.args.self.now c.tasks.new.self c.args.d.now _ c.args.ahead (tasks_is c.args.d.now _ c.in-Tasks.is) (λ later ahead. h later))
    c.tasks.ensures

pub decl-returns-in-Labels : goal.decl-returns-in-Labels
decl-returns-in-Labels t c =
    on_ok c.labels.result
    (λ h. declares_of c.args.self.now c.labels.new.self c.args.d.now _ c.args.ahead (labels_is c.args.d.now _ c.in-Labels.is) (λ later ahead. h later))
    c.labels.ensures

pub decl-returns-in-Arrays : goal.decl-returns-in-Arrays
decl-returns-in-Arrays t c =
    on_ok c.arrays.result
    (λ h. declares_of c.args.self.now c.arrays.new.self c.args.d.now _ c.args.ahead (arrays_is c.args.d.now _ _ _ c.in-Arrays.is) (λ later ahead. h later))
    c.arrays.ensures

pub decl-returns-in-Forward : goal.decl-returns-in-Forward
decl-returns-in-Forward t c =
    on_ok c.forward.result
    (λ h. declares_of c.args.self.now c.forward.new.self c.args.d.now _ c.args.ahead (forward_is c.args.d.now _ c.in-Forward.is) h) c.forward.ensures

pub decl-returns-in-Procedure : goal.decl-returns-in-Procedure
decl-returns-in-Procedure t c =
    on_ok c.procedure.result
    (λ h.
    declares_of c.args.self.now c.procedure.new.self c.args.d.now _ c.args.ahead
    (procedure_read c.args.d.now _ _ _ c.in-Procedure.is c.boxed_stmt.ensures) h)
    c.procedure.ensures
