use Rattle.std.proofs.Common.{rules, ◌≡◌, ◌∙◌, ◌+◌, ◌++◌, ◌∷◌, List, drop, length, map, append-nil, ap, refl, subst, sym, arith}
use Rattle.std.proofs.lemmas.List.{drop_all, drop_more}
use Rattle.std.proofs.lemmas.Result.{on_ok_weaker}
use Rattle.algol_tree.specs.declared.tree.Body as bodies'
use Rattle.algol_tree.specs.Blocks.{of_statement}
use Rattle.algol_tree.specs.declared.tree.Decl as decls'
use Rattle.algol_tree.specs.declared.tree.Decl.{Decl}
use Rattle.algol_tree.specs.declared.tree.Stmt as stmts'
use Rattle.algol_tree.specs.declared.tree.Stmt.{Stmt}
use Rattle.algol_tree.specs.Image.{decl, decls, expr, exprs, stmt, stmts, variable}
use Rattle.algol_tree.specs.Plain as tree
use Rattle.b67_emit_stmt.proofs.Gathered.{case_as, if_then_as, thru_as, until_as, while_as}
use Rattle.b67_emit_stmt.proofs.Shapes.{assign_as, call_as, event_as, for_as, go_to_as, label_as, process_as, write_as}
use Rattle.algol_scope.proofs.Bodies.{empty_read}
use Rattle.b67_emit_text.specs.Texts.{HaveLevelsDecls, HaveLevelsStmts, text_of_procedure, texts_in_decl, texts_in_decls, texts_in_stmts, texts_of}
use Rattle.b67_emit_text.proofs.Walks.{block_has, block_low, body_texts, both_have, carried, compound_has, declared_there, decls_have, first_has, levels_as, no_texts, other_has, other_texts, own_has, own_texts, procedure_has, pushed_there, stmts_have, texts_as, texts_both, texts_more, texts_none, texts_same}
use Rattle.b67_emit_text.proofs.texts.+texts.Goals as goal

pub within-within_body-requires-else-is_empty : goal.within-within_body-requires-else-is_empty
within-within_body-requires-else-is_empty t c =
    let b = c.in-Block.b in
    let n : c.items.result.now.len ≡ length b.decls = omega (arith, c.items.result.now.ok.0, ap length c.items.ensures) in (
      search (rules, stmts'.the_lemmas, decls'.the_lemmas, bodies'.the_lemmas),
      block_has c.args.s.now b c.in-Block.is c.args.level c.is_empty.result c.items.result.now.len c.is_empty.ensures n c.if-is_empty.false c.requires,
    )

pub within-returns-then-is_empty : goal.within-returns-then-is_empty
within-returns-then-is_empty t c =
    let b = c.in-Block.b in
    let n : c.items.result.now.len ≡ length b.decls = omega (arith, c.items.result.now.ok.0, ap length c.items.ensures) in
    on_ok_weaker c.within_body.result
    (texts_same c.args.s.now b c.in-Block.is c.args.level c.is_empty.result c.items.result.now.len c.is_empty.ensures n c.if-is_empty.true (map text_of_procedure c.args.to.now.items) (map text_of_procedure c.within_body.new.to.items))
    c.within_body.ensures

pub within-returns-else-is_empty : goal.within-returns-else-is_empty
within-returns-else-is_empty t c =
    let b = c.in-Block.b in
    let n : c.items.result.now.len ≡ length b.decls = omega (arith, c.items.result.now.ok.0, ap length c.items.ensures) in
    on_ok_weaker c.within_body-else-is_empty.result
    (texts_more c.args.s.now b c.in-Block.is c.args.level c.is_empty.result c.items.result.now.len c.is_empty.ensures n c.if-is_empty.false (map text_of_procedure c.args.to.now.items) (map text_of_procedure c.within_body-else-is_empty.new.to.items))
    c.within_body-else-is_empty.ensures

pub within-returns-in-Some : goal.within-returns-in-Some
within-returns-in-Some t c =
    on_ok_weaker c.within-in-Some.result
    (texts_both c.args.s.now c.deref-in-If.result.now c.deref-in-Some.result.now c.in-If.field-0 c.in-If.x c.in-If.other c.in-Some.y c.in-If.is c.in-Some.is c.deref-in-If.ensures
    c.deref-in-Some.ensures
    c.args.level (map text_of_procedure c.args.to.now.items) (map text_of_procedure c.within-in-If.new.to.items) (map text_of_procedure c.within-in-Some.new.to.items) c.in_ok-within-in-If.ensures)
    c.within-in-Some.ensures

pub within-within-requires : goal.within-within-requires
within-within-requires t c =
    let w = c.in-Label in
    let x = c.deref.result.now in
    (search (rules, stmts'.the_lemmas, decls'.the_lemmas, bodies'.the_lemmas), levels_as (stmt c.args.s.now) (tree.label w.field-0 (stmt x)) c.args.level (label_as c.args.s.now x w.field-0 w.s w.is c.deref.ensures) c.requires)

pub within-returns-in-Label : goal.within-returns-in-Label
within-returns-in-Label t c =
    let w = c.in-Label in
    let x = c.deref.result.now in
    on_ok_weaker c.within.result (texts_as (stmt c.args.s.now) (tree.label w.field-0 (stmt x)) c.args.level (label_as c.args.s.now x w.field-0 w.s w.is c.deref.ensures) (map text_of_procedure c.args.to.now.items) (map text_of_procedure c.within.new.to.items)) c.within.ensures

pub within-within-requires-in-While : goal.within-within-requires-in-While
within-within-requires-in-While t c =
    let w = c.in-While in
    let x = c.deref-in-While.result.now in
    (search (rules, stmts'.the_lemmas, decls'.the_lemmas, bodies'.the_lemmas), levels_as (stmt c.args.s.now) (tree.while (expr w.field-0) (stmt x)) c.args.level (while_as c.args.s.now w.field-0 w.b x w.is c.deref-in-While.ensures) c.requires)

pub within-returns-in-While : goal.within-returns-in-While
within-returns-in-While t c =
    let w = c.in-While in
    let x = c.deref-in-While.result.now in
    on_ok_weaker c.within-in-While.result (texts_as (stmt c.args.s.now) (tree.while (expr w.field-0) (stmt x)) c.args.level (while_as c.args.s.now w.field-0 w.b x w.is c.deref-in-While.ensures) (map text_of_procedure c.args.to.now.items) (map text_of_procedure c.within-in-While.new.to.items)) c.within-in-While.ensures

pub within-within-requires-in-Until : goal.within-within-requires-in-Until
within-within-requires-in-Until t c =
    let w = c.in-Until in
    let x = c.deref-in-Until.result.now in
    (search (rules, stmts'.the_lemmas, decls'.the_lemmas, bodies'.the_lemmas), levels_as (stmt c.args.s.now) (tree.until (stmt x) (expr w.field-1)) c.args.level (until_as c.args.s.now w.b w.field-1 x w.is c.deref-in-Until.ensures) c.requires)

pub within-returns-in-Until : goal.within-returns-in-Until
within-returns-in-Until t c =
    let w = c.in-Until in
    let x = c.deref-in-Until.result.now in
    on_ok_weaker c.within-in-Until.result (texts_as (stmt c.args.s.now) (tree.until (stmt x) (expr w.field-1)) c.args.level (until_as c.args.s.now w.b w.field-1 x w.is c.deref-in-Until.ensures) (map text_of_procedure c.args.to.now.items) (map text_of_procedure c.within-in-Until.new.to.items)) c.within-in-Until.ensures

pub within-within-requires-in-For : goal.within-within-requires-in-For
within-within-requires-in-For t c =
    let w = c.in-For in
    let x = c.deref-in-For.result.now in
    (search (rules, stmts'.the_lemmas, decls'.the_lemmas, bodies'.the_lemmas), levels_as (stmt c.args.s.now) (tree.for w.field-0 (expr w.field-1) (expr w.field-2) (expr w.field-3) (stmt x)) c.args.level (for_as c.args.s.now x w.field-0 w.field-1 w.field-2 w.field-3 w.b w.is c.deref-in-For.ensures) c.requires)

pub within-returns-in-For : goal.within-returns-in-For
within-returns-in-For t c =
    let w = c.in-For in
    let x = c.deref-in-For.result.now in
    on_ok_weaker c.within-in-For.result (texts_as (stmt c.args.s.now) (tree.for w.field-0 (expr w.field-1) (expr w.field-2) (expr w.field-3) (stmt x)) c.args.level (for_as c.args.s.now x w.field-0 w.field-1 w.field-2 w.field-3 w.b w.is c.deref-in-For.ensures) (map text_of_procedure c.args.to.now.items) (map text_of_procedure c.within-in-For.new.to.items)) c.within-in-For.ensures

pub within-within-requires-in-Thru : goal.within-within-requires-in-Thru
within-within-requires-in-Thru t c =
    let w = c.in-Thru in
    let x = c.deref-in-Thru.result.now in
    (search (rules, stmts'.the_lemmas, decls'.the_lemmas, bodies'.the_lemmas), levels_as (stmt c.args.s.now) (tree.thru (expr w.field-0) (stmt x)) c.args.level (thru_as c.args.s.now w.field-0 w.b x w.is c.deref-in-Thru.ensures) c.requires)

pub within-returns-in-Thru : goal.within-returns-in-Thru
within-returns-in-Thru t c =
    let w = c.in-Thru in
    let x = c.deref-in-Thru.result.now in
    on_ok_weaker c.within-in-Thru.result (texts_as (stmt c.args.s.now) (tree.thru (expr w.field-0) (stmt x)) c.args.level (thru_as c.args.s.now w.field-0 w.b x w.is c.deref-in-Thru.ensures) (map text_of_procedure c.args.to.now.items) (map text_of_procedure c.within-in-Thru.new.to.items)) c.within-in-Thru.ensures

pub within-returns-in-Case : goal.within-returns-in-Case
within-returns-in-Case t c =
    let w = c.in-Case in
    let xs = c.deref-in-Case.result.now in
    let is = case_as c.args.s.now w.field-0 w.ss xs w.is (c.deref-in-Case.ensures.value ∙ c.items-in-Case.ensures) in
    on_ok_weaker c.within_all.result (texts_as (stmt c.args.s.now) (tree.case (expr w.field-0) (stmts xs)) c.args.level is (map text_of_procedure c.args.to.now.items) (map text_of_procedure c.within_all.new.to.items)) c.within_all.ensures

pub within-within_all-requires : goal.within-within_all-requires
within-within_all-requires t c =
    let w = c.in-Case in
    let xs = c.deref-in-Case.result.now in
    let is = case_as c.args.s.now w.field-0 w.ss xs w.is (c.deref-in-Case.ensures.value ∙ c.items-in-Case.ensures) in
    (search (rules, stmts'.the_lemmas, decls'.the_lemmas, bodies'.the_lemmas), levels_as (stmt c.args.s.now) (tree.case (expr w.field-0) (stmts xs)) c.args.level is c.requires)

pub within-returns-in-None : goal.within-returns-in-None
within-returns-in-None t c =
    let w = c.in-If in
    let x = c.deref-in-If.result.now in
    let is = if_then_as c.args.s.now w.field-0 w.x w.other x w.is c.in-None.is c.deref-in-If.ensures in
    texts_as (stmt c.args.s.now) (tree.if_then (expr w.field-0) (stmt x)) c.args.level is (map text_of_procedure c.args.to.now.items) (map text_of_procedure c.within-in-If.new.to.items) c.in_ok-within-in-If.ensures

pub within-returns-in-Empty : goal.within-returns-in-Empty
within-returns-in-Empty t c =
    let w = c.in-Empty in
    texts_none (stmt c.args.s.now) (tree.empty) c.args.level (empty_read c.args.s.now w.is) refl (map text_of_procedure c.args.to.now.items)

pub within-returns-in-Assign : goal.within-returns-in-Assign
within-returns-in-Assign t c =
    let w = c.in-Assign in
    texts_none (stmt c.args.s.now) (tree.assign (variable w.field-0) (expr w.field-1)) c.args.level (assign_as c.args.s.now w.field-0 w.field-1 w.is) refl (map text_of_procedure c.args.to.now.items)

pub within-returns-in-Call : goal.within-returns-in-Call
within-returns-in-Call t c =
    let w = c.in-Call in
    texts_none (stmt c.args.s.now) (tree.call_of (tree.called w.field-0.name (exprs w.field-0.actuals))) c.args.level (call_as c.args.s.now w.field-0 w.is) refl (map text_of_procedure c.args.to.now.items)

pub within-returns-in-GoTo : goal.within-returns-in-GoTo
within-returns-in-GoTo t c =
    let w = c.in-GoTo in
    texts_none (stmt c.args.s.now) (tree.go_to w.field-0) c.args.level (go_to_as c.args.s.now w.field-0 w.is) refl (map text_of_procedure c.args.to.now.items)

pub within-returns-in-Process : goal.within-returns-in-Process
within-returns-in-Process t c =
    let w = c.in-Process in
    texts_none (stmt c.args.s.now) (tree.process (tree.called w.field-0.name (exprs w.field-0.actuals)) w.field-1) c.args.level (process_as c.args.s.now w.field-0 w.field-1 w.is) refl (map text_of_procedure c.args.to.now.items)

pub within-returns-in-Event : goal.within-returns-in-Event
within-returns-in-Event t c =
    let w = c.in-Event in
    texts_none (stmt c.args.s.now) (tree.event w.field-0 w.field-1) c.args.level (event_as c.args.s.now w.field-0 w.field-1 w.is) refl (map text_of_procedure c.args.to.now.items)

pub within-returns-in-Write : goal.within-returns-in-Write
within-returns-in-Write t c =
    let w = c.in-Write in
    texts_none (stmt c.args.s.now) (tree.write w.field-0 w.field-1 w.field-2 (exprs w.field-3)) c.args.level (write_as c.args.s.now w.field-0 w.field-1 w.field-2 w.field-2 w.field-3 w.field-3 w.is refl refl) refl (map text_of_procedure c.args.to.now.items)

pub within-within_body-requires : goal.within-within_body-requires
within-within_body-requires t c =
    let b = c.in-Block.b in
    let n : c.items.result.now.len ≡ length b.decls = omega (arith, c.items.result.now.ok.0, ap length c.items.ensures) in (
      search (rules, stmts'.the_lemmas, decls'.the_lemmas, bodies'.the_lemmas),
      compound_has c.args.s.now b c.in-Block.is c.args.level c.is_empty.result c.items.result.now.len c.is_empty.ensures n c.if-is_empty.true c.requires,
    )

pub within-overflow_add-level : goal.within-overflow_add-level
within-overflow_add-level t c =
    let b = c.in-Block.b in
    let n : c.items.result.now.len ≡ length b.decls = omega (arith, c.items.result.now.ok.0, ap length c.items.ensures) in
    omega (arith, block_low c.args.s.now b c.in-Block.is c.args.level c.is_empty.result c.items.result.now.len c.is_empty.ensures n c.if-is_empty.false c.requires)

pub within-within-requires-in-If : goal.within-within-requires-in-If
within-within-requires-in-If t c =
    let w = c.in-If in
    (search (rules, stmts'.the_lemmas, decls'.the_lemmas, bodies'.the_lemmas), first_has c.args.s.now c.deref-in-If.result.now w.field-0 w.x w.other w.is c.deref-in-If.ensures c.args.level c.requires)

pub within-within-requires-in-Some : goal.within-within-requires-in-Some
within-within-requires-in-Some t c =
    let w = c.in-If in (
      search (rules, stmts'.the_lemmas, decls'.the_lemmas, bodies'.the_lemmas),
      (both_have c.args.s.now c.deref-in-If.result.now c.deref-in-Some.result.now w.field-0 w.x w.other c.in-Some.y w.is c.in-Some.is c.deref-in-If.ensures c.deref-in-Some.ensures c.args.level c.requires).1,
    )

-- ---- statements one after another

pub within_all-statements-init : goal.within_all-statements-init
within_all-statements-init t c = record { done = refl; left = c.requires }

pub within_all-within-requires : goal.within_all-within-requires
within_all-within-requires t c =
    let ss = c.args.ss.now in
    let i = c.statements.s-index in
    let next = drop_more ss i c.s-item.result c.statements-test.true ∙ ap (λ (x : Stmt). x ∷ drop (i + 1) ss) (sym c.s-item.is) in
    (search (rules, stmts'.the_lemmas, decls'.the_lemmas, bodies'.the_lemmas), (subst (λ (l : List Stmt). HaveLevelsStmts (stmts l) c.args.level) next c.statements.invariant.left).0)

pub within_all-statements-preserved : goal.within_all-statements-preserved
within_all-statements-preserved t c =
    let ss = c.args.ss.now in
    let i = c.statements.s-index in
    let rest = drop (i + 1) ss in
    let next = drop_more ss i c.s-item.result c.statements-test.true ∙ ap (λ (x : Stmt). x ∷ rest) (sym c.s-item.is) in
    let before = map text_of_procedure c.statements.to.items in
    record {
      done = carried (map text_of_procedure c.args.to.now.items) before (map text_of_procedure c.within.new.to.items) (texts_of (stmt c.s-item.result) of_statement c.args.level) (texts_in_stmts (stmts rest) c.args.level)
          (texts_in_stmts (stmts ss) c.args.level) c.in_ok-within.ensures (ap (λ (l : List Stmt). before ++ texts_in_stmts (stmts l) c.args.level) (sym next) ∙ c.statements.invariant.done);
      left = (subst (λ (l : List Stmt). HaveLevelsStmts (stmts l) c.args.level) next c.statements.invariant.left).1;
    }

pub within_all-returns : goal.within_all-returns
within_all-returns t c =
    let before = map text_of_procedure c.statements.to.items in
    let none = drop_all c.statements.s-index c.args.ss.now c.statements-test.false in
    sym (append-nil before) ∙ ap (λ (l : List Stmt). before ++ texts_in_stmts (stmts l) c.args.level) (sym none) ∙ c.statements.invariant.done

-- ---- a declaration

pub declared-overflow_add-level : goal.declared-overflow_add-level
declared-overflow_add-level t c =
    let w = c.in-Procedure in omega (arith, (procedure_has c.args.d.now w.heading w.body w.body.value w.is refl c.args.level c.requires).0)

pub declared-overflow_add-level-in-Block : goal.declared-overflow_add-level-in-Block
declared-overflow_add-level-in-Block t c =
    let w = c.in-Procedure in omega (arith, (procedure_has c.args.d.now w.heading w.body w.body.value w.is refl c.args.level c.requires).0)

pub declared-overflow_add-level-in_default-deref : goal.declared-overflow_add-level-in_default-deref
declared-overflow_add-level-in_default-deref t c =
    let w = c.in-Procedure in omega (arith, (procedure_has c.args.d.now w.heading w.body w.body.value w.is refl c.args.level c.requires).0)

pub declared-within_body-requires : goal.declared-within_body-requires
declared-within_body-requires t c =
    let w = c.in-Procedure in
    let x = c.deref-in-Procedure.result.now in (
      search (rules, stmts'.the_lemmas, decls'.the_lemmas, bodies'.the_lemmas),
      own_has x c.in-Block.b c.in-Block.is (c.args.level + 1) (procedure_has c.args.d.now w.heading w.body x w.is c.deref-in-Procedure.ensures c.args.level c.requires).1,
    )

pub declared-within-requires : goal.declared-within-requires
declared-within-requires t c =
    let w = c.in-Procedure in
    let x = c.deref-in-Procedure.result.now in (
      search (rules, stmts'.the_lemmas, decls'.the_lemmas, bodies'.the_lemmas),
      other_has x c.in_default-deref.not-Block (c.args.level + 1) (procedure_has c.args.d.now w.heading w.body x w.is c.deref-in-Procedure.ensures c.args.level c.requires).1,
    )

pub declared-returns-in-Block : goal.declared-returns-in-Block
declared-returns-in-Block t c =
    let w = c.in-Procedure in
    let x = c.deref-in-Procedure.result.now in
    let old = map text_of_procedure c.args.to.now.items in
    let mid = map text_of_procedure c.push.new.self.items in
    let new = map text_of_procedure c.within_body.new.to.items in
    let pushed = pushed_there c.args.to.now.items c.push.new.self.items _ c.in_ok-push.ensures.items in
    on_ok_weaker c.within_body.result
    (λ h. declared_there c.args.d.now w.heading w.body x w.is c.deref-in-Procedure.ensures c.args.level c.deref.result.now c.deref.ensures old mid new pushed (own_texts x c.in-Block.b c.in-Block.is (c.args.level + 1) mid new h))
    c.within_body.ensures

pub declared-returns-in_default-deref : goal.declared-returns-in_default-deref
declared-returns-in_default-deref t c =
    let w = c.in-Procedure in
    let x = c.deref-in-Procedure.result.now in
    let old = map text_of_procedure c.args.to.now.items in
    let mid = map text_of_procedure c.push.new.self.items in
    let new = map text_of_procedure c.within.new.to.items in
    let pushed = pushed_there c.args.to.now.items c.push.new.self.items _ c.in_ok-push.ensures.items in
    on_ok_weaker c.within.result
    (λ h. declared_there c.args.d.now w.heading w.body x w.is c.deref-in-Procedure.ensures c.args.level c.deref.result.now c.deref.ensures old mid new pushed (other_texts x c.in_default-deref.not-Block (c.args.level + 1) mid new h))
    c.within.ensures

pub declared-returns-in_default : goal.declared-returns-in_default
declared-returns-in_default t c = no_texts c.args.d.now c.args.level c.in_default.not-Procedure (map text_of_procedure c.args.to.now.items)

-- ---- declarations one after another

pub declared_all-decls-init : goal.declared_all-decls-init
declared_all-decls-init t c = record { done = refl; left = c.requires }

pub declared_all-declared-requires : goal.declared_all-declared-requires
declared_all-declared-requires t c =
    let ds = c.args.ds.now in
    let i = c.decls.d-index in
    let next = drop_more ds i c.d-item.result c.decls-test.true ∙ ap (λ (x : Decl). x ∷ drop (i + 1) ds) (sym c.d-item.is) in
    (search (rules, stmts'.the_lemmas, decls'.the_lemmas, bodies'.the_lemmas), (subst (λ (l : List Decl). HaveLevelsDecls (decls l) c.args.level) next c.decls.invariant.left).0)

pub declared_all-decls-preserved : goal.declared_all-decls-preserved
declared_all-decls-preserved t c =
    let ds = c.args.ds.now in
    let i = c.decls.d-index in
    let rest = drop (i + 1) ds in
    let next = drop_more ds i c.d-item.result c.decls-test.true ∙ ap (λ (x : Decl). x ∷ rest) (sym c.d-item.is) in
    let before = map text_of_procedure c.decls.to.items in
    record {
      done = carried (map text_of_procedure c.args.to.now.items) before (map text_of_procedure c.declared.new.to.items) (texts_in_decl (decl c.d-item.result) c.args.level) (texts_in_decls (decls rest) c.args.level)
          (texts_in_decls (decls ds) c.args.level) c.in_ok-declared.ensures (ap (λ (l : List Decl). before ++ texts_in_decls (decls l) c.args.level) (sym next) ∙ c.decls.invariant.done);
      left = (subst (λ (l : List Decl). HaveLevelsDecls (decls l) c.args.level) next c.decls.invariant.left).1;
    }

pub declared_all-returns : goal.declared_all-returns
declared_all-returns t c =
    let before = map text_of_procedure c.decls.to.items in
    let none = drop_all c.decls.d-index c.args.ds.now c.decls-test.false in
    sym (append-nil before) ∙ ap (λ (l : List Decl). before ++ texts_in_decls (decls l) c.args.level) (sym none) ∙ c.decls.invariant.done

-- ---- a body

pub within_body-declared_all-requires : goal.within_body-declared_all-requires
within_body-declared_all-requires t c =
    (search (rules, stmts'.the_lemmas, decls'.the_lemmas, bodies'.the_lemmas), decls_have c.args.b.now c.deref.result.now c.args.level (c.deref.ensures.value ∙ c.items.ensures) c.requires)

pub within_body-within_all-requires : goal.within_body-within_all-requires
within_body-within_all-requires t c =
    (search (rules, stmts'.the_lemmas, decls'.the_lemmas, bodies'.the_lemmas), stmts_have c.args.b.now c.deref-2.result.now c.args.level (c.deref-2.ensures.value ∙ c.items-2.ensures) c.requires)

pub within_body-returns : goal.within_body-returns
within_body-returns t c =
    on_ok_weaker c.within_all.result
    (body_texts c.args.b.now c.deref.result.now c.deref-2.result.now (c.deref.ensures.value ∙ c.items.ensures) (c.deref-2.ensures.value ∙ c.items-2.ensures) c.args.level (map text_of_procedure c.args.to.now.items)
    (map text_of_procedure c.declared_all.new.to.items) (map text_of_procedure c.within_all.new.to.items) c.in_ok-declared_all.ensures)
    c.within_all.ensures
