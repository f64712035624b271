use Rattle.std.proofs.Common.{rules, ◌≡◌, ◌∙◌, ◌+◌, ◌++◌, ◌∷◌, List, drop, length, map, append-nil, ap, refl, subst, sym, arith}
use Rattle.std.proofs.lemmas.List.{drop_all, drop_more}
use Rattle.std.proofs.lemmas.Result.{on_ok_weaker}
use Rattle.algol_tree.specs.declared.tree.Body as bodies'
use Rattle.algol_tree.specs.declared.tree.Decl as decls'
use Rattle.algol_tree.specs.declared.tree.Stmt as stmts'
use Rattle.algol_tree.specs.declared.tree.Stmt.{Stmt}
use Rattle.algol_tree.specs.Image.{decls, expr, exprs, stmt, stmts, variable}
use Rattle.algol_tree.specs.Plain as tree
use Rattle.b67_emit_stmt.proofs.Gathered.{case_as, if_then_as, thru_as, until_as, while_as}
use Rattle.b67_emit_stmt.proofs.Shapes.{assign_as, call_as, event_as, for_as, go_to_as, label_as, process_as, write_as}
use Rattle.b67_templates.specs.Labels.{labels_in}
use Rattle.algol_scope.proofs.Bodies.{empty_read}
use Rattle.b67_emit_text.specs.Entries.{AllLow, entries_in_stmt, entries_in_stmts, entries_of, entry_of, own_entries}
use Rattle.b67_emit_text.proofs.Entered.{both_entries, both_low, carried, compound_entries, compound_low, entries_as, entries_none, first_low, inner_entries, inner_low, joined, low_as}
use Rattle.b67_emit_text.proofs.entries.+entries.Goals as goal

pub within-within_all-requires : goal.within-within_all-requires
within-within_all-requires t c =
    let b = c.in-Block.b in
    let n : c.items.result.now.len ≡ length b.decls = omega (arith, c.items.result.now.ok.0, ap length c.items.ensures) in (
      search (rules, stmts'.the_lemmas, decls'.the_lemmas, bodies'.the_lemmas),
      compound_low c.args.s.now b c.deref-then-is_empty.result.now c.in-Block.is (c.deref-then-is_empty.ensures.value ∙ c.items-then-is_empty.ensures) c.args.level c.is_empty.result c.items.result.now.len c.is_empty.ensures n
          c.if-is_empty.true c.requires,
    )

pub within-in_block-requires : goal.within-in_block-requires
within-in_block-requires t c =
    let b = c.in-Block.b in
    let n : c.items.result.now.len ≡ length b.decls = omega (arith, c.items.result.now.ok.0, ap length c.items.ensures) in (
      search (rules, stmts'.the_lemmas, decls'.the_lemmas, bodies'.the_lemmas),
      (inner_low c.args.s.now b c.deref-else-is_empty.result.now c.in-Block.is (c.deref-else-is_empty.ensures.value ∙ c.items-else-is_empty.ensures) c.args.level c.is_empty.result
          c.items.result.now.len c.is_empty.ensures n c.if-is_empty.false c.requires).1,
    )

pub within-returns-then-is_empty : goal.within-returns-then-is_empty
within-returns-then-is_empty t c =
    let b = c.in-Block.b in
    let n : c.items.result.now.len ≡ length b.decls = omega (arith, c.items.result.now.ok.0, ap length c.items.ensures) in
    on_ok_weaker c.within_all.result
    (compound_entries c.args.s.now b c.deref-then-is_empty.result.now c.in-Block.is (c.deref-then-is_empty.ensures.value ∙ c.items-then-is_empty.ensures) c.args.level c.is_empty.result c.items.result.now.len c.is_empty.ensures n
    c.if-is_empty.true (map entry_of c.args.to.now.items) (map entry_of c.within_all.new.to.items))
    c.within_all.ensures

pub within-returns-else-is_empty : goal.within-returns-else-is_empty
within-returns-else-is_empty t c =
    let b = c.in-Block.b in
    let n : c.items.result.now.len ≡ length b.decls = omega (arith, c.items.result.now.ok.0, ap length c.items.ensures) in
    on_ok_weaker c.in_block.result
    (inner_entries c.args.s.now b c.deref-else-is_empty.result.now c.in-Block.is (c.deref-else-is_empty.ensures.value ∙ c.items-else-is_empty.ensures) c.args.level c.is_empty.result
    c.items.result.now.len c.is_empty.ensures n c.if-is_empty.false c.deref-else-is_empty-2.result.now (c.deref-else-is_empty-2.ensures.value ∙ c.items-else-is_empty-2.ensures)
    (map entry_of c.args.to.now.items) (map entry_of c.in_block.new.to.items))
    c.in_block.ensures

pub within-returns-in-Some : goal.within-returns-in-Some
within-returns-in-Some t c =
    on_ok_weaker c.within-in-Some.result
    (both_entries c.args.s.now c.deref-in-If.result.now c.deref-in-Some.result.now c.in-If.field-0 c.in-If.x c.in-If.other c.in-Some.y c.in-If.is c.in-Some.is c.deref-in-If.ensures
    c.deref-in-Some.ensures
    c.args.level (map entry_of c.args.to.now.items) (map entry_of c.within-in-If.new.to.items) (map entry_of c.within-in-Some.new.to.items) c.in_ok-within-in-If.ensures)
    c.within-in-Some.ensures

pub within-overflow_add-level : goal.within-overflow_add-level
within-overflow_add-level t c =
    let b = c.in-Block.b in
    let n : c.items.result.now.len ≡ length b.decls = omega (arith, c.items.result.now.ok.0, ap length c.items.ensures) in
    let low = (inner_low c.args.s.now b c.deref-else-is_empty.result.now c.in-Block.is (c.deref-else-is_empty.ensures.value ∙ c.items-else-is_empty.ensures) c.args.level c.is_empty.result
    c.items.result.now.len c.is_empty.ensures n c.if-is_empty.false c.requires).0 in
    omega (arith, low)

pub within-within-requires : goal.within-within-requires
within-within-requires t c =
    let w = c.in-Label in
    let x = c.deref.result.now in
    (search (rules, stmts'.the_lemmas, decls'.the_lemmas, bodies'.the_lemmas), low_as c.args.level (stmt c.args.s.now) (tree.label w.field-0 (stmt x)) (label_as c.args.s.now x w.field-0 w.s w.is c.deref.ensures) c.requires)

pub within-returns-in-Label : goal.within-returns-in-Label
within-returns-in-Label t c =
    let w = c.in-Label in
    let x = c.deref.result.now in
    on_ok_weaker c.within.result (entries_as c.args.level (stmt c.args.s.now) (tree.label w.field-0 (stmt x)) (label_as c.args.s.now x w.field-0 w.s w.is c.deref.ensures) (map entry_of c.args.to.now.items) (map entry_of c.within.new.to.items)) c.within.ensures

pub within-within-requires-in-While : goal.within-within-requires-in-While
within-within-requires-in-While t c =
    let w = c.in-While in
    let x = c.deref-in-While.result.now in
    (search (rules, stmts'.the_lemmas, decls'.the_lemmas, bodies'.the_lemmas), low_as c.args.level (stmt c.args.s.now) (tree.while (expr w.field-0) (stmt x)) (while_as c.args.s.now w.field-0 w.b x w.is c.deref-in-While.ensures) c.requires)

pub within-returns-in-While : goal.within-returns-in-While
within-returns-in-While t c =
    let w = c.in-While in
    let x = c.deref-in-While.result.now in
    on_ok_weaker c.within-in-While.result (entries_as c.args.level (stmt c.args.s.now) (tree.while (expr w.field-0) (stmt x)) (while_as c.args.s.now w.field-0 w.b x w.is c.deref-in-While.ensures) (map entry_of c.args.to.now.items) (map entry_of c.within-in-While.new.to.items)) c.within-in-While.ensures

pub within-within-requires-in-Until : goal.within-within-requires-in-Until
within-within-requires-in-Until t c =
    let w = c.in-Until in
    let x = c.deref-in-Until.result.now in
    (search (rules, stmts'.the_lemmas, decls'.the_lemmas, bodies'.the_lemmas), low_as c.args.level (stmt c.args.s.now) (tree.until (stmt x) (expr w.field-1)) (until_as c.args.s.now w.b w.field-1 x w.is c.deref-in-Until.ensures) c.requires)

pub within-returns-in-Until : goal.within-returns-in-Until
within-returns-in-Until t c =
    let w = c.in-Until in
    let x = c.deref-in-Until.result.now in
    on_ok_weaker c.within-in-Until.result (entries_as c.args.level (stmt c.args.s.now) (tree.until (stmt x) (expr w.field-1)) (until_as c.args.s.now w.b w.field-1 x w.is c.deref-in-Until.ensures) (map entry_of c.args.to.now.items) (map entry_of c.within-in-Until.new.to.items)) c.within-in-Until.ensures

pub within-within-requires-in-For : goal.within-within-requires-in-For
within-within-requires-in-For t c =
    let w = c.in-For in
    let x = c.deref-in-For.result.now in
    (search (rules, stmts'.the_lemmas, decls'.the_lemmas, bodies'.the_lemmas), low_as c.args.level (stmt c.args.s.now) (tree.for w.field-0 (expr w.field-1) (expr w.field-2) (expr w.field-3) (stmt x)) (for_as c.args.s.now x w.field-0 w.field-1 w.field-2 w.field-3 w.b w.is c.deref-in-For.ensures) c.requires)

pub within-returns-in-For : goal.within-returns-in-For
within-returns-in-For t c =
    let w = c.in-For in
    let x = c.deref-in-For.result.now in
    on_ok_weaker c.within-in-For.result (entries_as c.args.level (stmt c.args.s.now) (tree.for w.field-0 (expr w.field-1) (expr w.field-2) (expr w.field-3) (stmt x)) (for_as c.args.s.now x w.field-0 w.field-1 w.field-2 w.field-3 w.b w.is c.deref-in-For.ensures) (map entry_of c.args.to.now.items) (map entry_of c.within-in-For.new.to.items)) c.within-in-For.ensures

pub within-within-requires-in-Thru : goal.within-within-requires-in-Thru
within-within-requires-in-Thru t c =
    let w = c.in-Thru in
    let x = c.deref-in-Thru.result.now in
    (search (rules, stmts'.the_lemmas, decls'.the_lemmas, bodies'.the_lemmas), low_as c.args.level (stmt c.args.s.now) (tree.thru (expr w.field-0) (stmt x)) (thru_as c.args.s.now w.field-0 w.b x w.is c.deref-in-Thru.ensures) c.requires)

pub within-returns-in-Thru : goal.within-returns-in-Thru
within-returns-in-Thru t c =
    let w = c.in-Thru in
    let x = c.deref-in-Thru.result.now in
    on_ok_weaker c.within-in-Thru.result (entries_as c.args.level (stmt c.args.s.now) (tree.thru (expr w.field-0) (stmt x)) (thru_as c.args.s.now w.field-0 w.b x w.is c.deref-in-Thru.ensures) (map entry_of c.args.to.now.items) (map entry_of c.within-in-Thru.new.to.items)) c.within-in-Thru.ensures

pub within-returns-in-Case : goal.within-returns-in-Case
within-returns-in-Case t c =
    let w = c.in-Case in
    let xs = c.deref-in-Case.result.now in
    let is = case_as c.args.s.now w.field-0 w.ss xs w.is (c.deref-in-Case.ensures.value ∙ c.items-in-Case.ensures) in
    on_ok_weaker c.within_all-in-Case.result (entries_as c.args.level (stmt c.args.s.now) (tree.case (expr w.field-0) (stmts xs)) is (map entry_of c.args.to.now.items) (map entry_of c.within_all-in-Case.new.to.items)) c.within_all-in-Case.ensures

pub within-within_all-requires-in-Case : goal.within-within_all-requires-in-Case
within-within_all-requires-in-Case t c =
    let w = c.in-Case in
    let xs = c.deref-in-Case.result.now in
    let is = case_as c.args.s.now w.field-0 w.ss xs w.is (c.deref-in-Case.ensures.value ∙ c.items-in-Case.ensures) in
    (search (rules, stmts'.the_lemmas, decls'.the_lemmas, bodies'.the_lemmas), low_as c.args.level (stmt c.args.s.now) (tree.case (expr w.field-0) (stmts xs)) is c.requires)

pub within-returns-in-None : goal.within-returns-in-None
within-returns-in-None t c =
    let w = c.in-If in
    let x = c.deref-in-If.result.now in
    let is = if_then_as c.args.s.now w.field-0 w.x w.other x w.is c.in-None.is c.deref-in-If.ensures in
    entries_as c.args.level (stmt c.args.s.now) (tree.if_then (expr w.field-0) (stmt x)) is (map entry_of c.args.to.now.items) (map entry_of c.within-in-If.new.to.items) c.in_ok-within-in-If.ensures

pub within-returns-in-Empty : goal.within-returns-in-Empty
within-returns-in-Empty t c =
    let w = c.in-Empty in
    entries_none c.args.level (stmt c.args.s.now) (tree.empty) (empty_read c.args.s.now w.is) refl (map entry_of c.args.to.now.items)

pub within-returns-in-Assign : goal.within-returns-in-Assign
within-returns-in-Assign t c =
    let w = c.in-Assign in
    entries_none c.args.level (stmt c.args.s.now) (tree.assign (variable w.field-0) (expr w.field-1)) (assign_as c.args.s.now w.field-0 w.field-1 w.is) refl (map entry_of c.args.to.now.items)

pub within-returns-in-Call : goal.within-returns-in-Call
within-returns-in-Call t c =
    let w = c.in-Call in
    entries_none c.args.level (stmt c.args.s.now) (tree.call_of (tree.called w.field-0.name (exprs w.field-0.actuals))) (call_as c.args.s.now w.field-0 w.is) refl (map entry_of c.args.to.now.items)

pub within-returns-in-GoTo : goal.within-returns-in-GoTo
within-returns-in-GoTo t c =
    let w = c.in-GoTo in
    entries_none c.args.level (stmt c.args.s.now) (tree.go_to w.field-0) (go_to_as c.args.s.now w.field-0 w.is) refl (map entry_of c.args.to.now.items)

pub within-returns-in-Process : goal.within-returns-in-Process
within-returns-in-Process t c =
    let w = c.in-Process in
    entries_none c.args.level (stmt c.args.s.now) (tree.process (tree.called w.field-0.name (exprs w.field-0.actuals)) w.field-1) (process_as c.args.s.now w.field-0 w.field-1 w.is) refl (map entry_of c.args.to.now.items)

pub within-returns-in-Event : goal.within-returns-in-Event
within-returns-in-Event t c =
    let w = c.in-Event in
    entries_none c.args.level (stmt c.args.s.now) (tree.event w.field-0 w.field-1) (event_as c.args.s.now w.field-0 w.field-1 w.is) refl (map entry_of c.args.to.now.items)

pub within-returns-in-Write : goal.within-returns-in-Write
within-returns-in-Write t c =
    let w = c.in-Write in
    entries_none c.args.level (stmt c.args.s.now) (tree.write w.field-0 w.field-1 w.field-2 (exprs w.field-3)) (write_as c.args.s.now w.field-0 w.field-1 w.field-2 w.field-2 w.field-3 w.field-3 w.is refl refl) refl (map entry_of c.args.to.now.items)

pub within-within-requires-in-If : goal.within-within-requires-in-If
within-within-requires-in-If t c =
    let w = c.in-If in
    (search (rules, stmts'.the_lemmas, decls'.the_lemmas, bodies'.the_lemmas), first_low c.args.s.now c.deref-in-If.result.now w.field-0 w.x w.other w.is c.deref-in-If.ensures c.args.level c.requires)

pub within-within-requires-in-Some : goal.within-within-requires-in-Some
within-within-requires-in-Some t c =
    let w = c.in-If in (
      search (rules, stmts'.the_lemmas, decls'.the_lemmas, bodies'.the_lemmas),
      (both_low c.args.s.now c.deref-in-If.result.now c.deref-in-Some.result.now w.field-0 w.x w.other c.in-Some.y w.is c.in-Some.is c.deref-in-If.ensures c.deref-in-Some.ensures c.args.level c.requires).1,
    )

-- ---- statements one after another

pub within_all-statements-init : goal.within_all-statements-init
within_all-statements-init t c = record { done = refl; left = c.requires }

pub within_all-within-requires : goal.within_all-within-requires
within_all-within-requires t c =
    let ss = c.args.ss.now in
    let i = c.statements.s-index in
    let next = drop_more ss i c.s-item.result c.statements-test.true ∙ ap (λ (x : Stmt). x ∷ drop (i + 1) ss) (sym c.s-item.is) in
    (search (rules, stmts'.the_lemmas, decls'.the_lemmas, bodies'.the_lemmas), (subst (λ (l : List Stmt). AllLow c.args.level (stmts l)) next c.statements.invariant.left).0)

pub within_all-statements-preserved : goal.within_all-statements-preserved
within_all-statements-preserved t c =
    let ss = c.args.ss.now in
    let i = c.statements.s-index in
    let rest = drop (i + 1) ss in
    let next = drop_more ss i c.s-item.result c.statements-test.true ∙ ap (λ (x : Stmt). x ∷ rest) (sym c.s-item.is) in
    let before = map entry_of c.statements.to.items in
    record {
      done = carried (map entry_of c.args.to.now.items) before (map entry_of c.within.new.to.items) (entries_in_stmt c.args.level (stmt c.s-item.result)) (entries_in_stmts c.args.level (stmts rest))
          (entries_in_stmts c.args.level (stmts ss)) c.in_ok-within.ensures (ap (λ (l : List Stmt). before ++ entries_in_stmts c.args.level (stmts l)) (sym next) ∙ c.statements.invariant.done);
      left = (subst (λ (l : List Stmt). AllLow c.args.level (stmts l)) next c.statements.invariant.left).1;
    }

pub within_all-returns : goal.within_all-returns
within_all-returns t c =
    let before = map entry_of c.statements.to.items in
    let none = drop_all c.statements.s-index c.args.ss.now c.statements-test.false in
    sym (append-nil before) ∙ ap (λ (l : List Stmt). before ++ entries_in_stmts c.args.level (stmts l)) (sym none) ∙ c.statements.invariant.done

-- ---- a block

pub in_block-within_all-requires : goal.in_block-within_all-requires
in_block-within_all-requires t c = (search (rules, stmts'.the_lemmas, decls'.the_lemmas, bodies'.the_lemmas), c.requires)

pub in_block-returns : goal.in_block-returns
in_block-returns t c =
    let level = c.args.level in
    let ds = decls c.args.ds.now in
    let ss = stmts c.args.ss.now in
    on_ok_weaker c.within_all.result
    (joined (map entry_of c.args.to.now.items) (map entry_of c.own.new.to.items) (map entry_of c.within_all.new.to.items) (own_entries level ss (labels_in ds)) (entries_in_stmts level ss) (entries_of level ds ss) refl
    c.in_ok-own.ensures)
    c.within_all.ensures
