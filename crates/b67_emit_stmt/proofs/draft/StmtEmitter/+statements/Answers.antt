use Rattle.std.proofs.Common.{rules, ◌≡◌, ◌+◌, ◌<◌, ◌≤◌, ◌∙◌, ℕ, List, [], ◌∷◌, length, refl, sym, ap, subst, arith}
use Rattle.std.proofs.lemmas.List.{take_all}
use Rattle.std.proofs.lemmas.Result.{IfOk-weaker, on_ok_weaker}
use Rattle.std.specs.Borrow.{Bor}
use Rattle.std.specs.List.{All}
use Rattle.algol_tree.specs.declared.tree.Expr.{Expr}
use Rattle.algol_tree.specs.declared.tree.Kind.TheVariants as types
use Rattle.algol_tree.specs.declared.tree.Body as bodies'
use Rattle.algol_tree.specs.declared.tree.Decl as decls'
use Rattle.algol_tree.specs.declared.tree.Stmt.{Stmt}
use Rattle.algol_tree.specs.declared.tree.Stmt as stmts'
use Rattle.algol_tree.specs.Image.{call, decls, expr, exprs, stmt, stmts, variable}
use Rattle.algol_tree.specs.Plain as tree
use Rattle.algol_tree.proofs.Images.{call_is}
use Rattle.b67_ops.specs.declared.BranchKind.TheVariants.{Brfl, Brtr, Brun}
use Rattle.b67_ops.specs.declared.TheConstants.{MOST_LEVEL}
use Rattle.b67_segment.specs.declared.TheConstants.{MOST_SEGMENT_SYLLABLES}
use Rattle.b67_segment.specs.Operators.{size}
use Rattle.b67_segment.specs.Building.{Built, level_set}
use Rattle.b67_segment.proofs.Cited.{set_after}
use Rattle.algol_scope.proofs.Bodies.{empty_read}
use Rattle.b67_emitter.proofs.Appends.{same_level}
use Rattle.b67_emit_stmt.specs.Places.{CasesAt}
use Rattle.b67_emit_stmt.specs.Fits.{EmittedStmtsFit}
use Rattle.b67_emit_stmt.specs.declared.draft.Draft.{Draft}
use Rattle.b67_emit_stmt.specs.declared.draft.Label.{Label}
use Rattle.b67_emit_stmt.specs.Actuals.{images}
use Rattle.b67_emit_stmt.specs.Bodies.{EmitsBlock, block_syllables, EmitsEnded, EmitsRoutines, inside_syllables, variables_in}
use Rattle.b67_emit_stmt.specs.Lengths.{begin_syllables, celled_in, expr_syllables, stmt_syllables, stmts_syllables}
use Rattle.b67_emit_stmt.specs.Drafts.{Emits}
use Rattle.b67_emit_stmt.specs.Emits.{HaveFit}
use Rattle.b67_emit_stmt.proofs.Added as added
use Rattle.b67_emit_stmt.proofs.Aims.{body_closed, exits_lie, hole_as}
use Rattle.b67_emit_stmt.proofs.Arms.{if_then_arm, then_arm, until_arm, while_arm}
use Rattle.b67_emit_stmt.proofs.Blocked as blocked
use Rattle.b67_emit_stmt.proofs.Blocks as blocks
use Rattle.b67_emit_stmt.proofs.Drafts.{at_level, emits_then, hole_there, level_after, piece}
use Rattle.b67_emit_stmt.proofs.Fors as fors
use Rattle.b67_emit_stmt.proofs.Gathered as gathered
use Rattle.b67_emit_stmt.proofs.Going.{label_arm, label_piece}
use Rattle.b67_emit_stmt.proofs.Listed.{StandTogether, done_level, done_set, next_fits, next_ready, together_more, together_none}
use Rattle.b67_emit_stmt.proofs.Levels.{at_after, at_same}
use Rattle.b67_emit_stmt.proofs.Matched as matched
use Rattle.b67_emit_stmt.proofs.Notes.{unknown}
use Rattle.b67_emit_stmt.proofs.Parts.{code_at, on_ok_two}
use Rattle.b67_emit_stmt.proofs.Ready.{body_piece, branch_piece, fit_after, ready_after, stmt_piece, turn_piece, value_piece}
use Rattle.b67_emit_stmt.proofs.Shapes as shaped
use Rattle.b67_emit_stmt.proofs.Stores.{store_emitted, store_fits}
use Rattle.b67_emit_stmt.proofs.Tables as tabled
use Rattle.b67_emit_stmt.proofs.Thrus as thrus
use Rattle.b67_emit_stmt.proofs.Turns as turns
use Rattle.b67_emit_stmt.proofs.draft.StmtEmitter.+statements.Goals as goal

-- ---- IF

pub if_then-stmt-requires : goal.if_then-stmt-requires
if_then-stmt-requires g t c =
    let s = c.args.self.now.known.now in
    let a = c.args.to.now in
    let level = level_set a.out in
    let sc = c.requires.fits.0 in
    let x = stmt c.args.x.now in
    let e = expr c.args.c.now in
    let b : Draft = record a { out = c.value.new.out } in
    let d : Draft = record a { out = c.append_exit.new.out; exits = c.append_exit.new.exits } in
    let v = value_piece s a b level sc types.Truth e refl refl refl c.requires.ready.few c.in_ok-value.ensures.code c.in_ok-value.ensures.size c.requires.fits.1.0 in
    let left = branch_piece sc Brfl b d level (same_level a.out b.out c.in_ok-value.ensures.level) refl v.few c.in_ok-append_exit.ensures.code c.in_ok-append_exit.ensures.size in
    let both = emits_then v left in
    let ready = ready_after s a (stmt_syllables s (tree.if_then e x)) (stmt_syllables s x) c.requires.ready both (omega arith) in
    search (rules, stmts'.the_lemmas, decls'.the_lemmas, bodies'.the_lemmas, ready, fit_after s sc x both c.requires.fits.1.1, at_after both c.requires.level)

pub if_then-returns-clause-code : goal.if_then-returns-clause-code
if_then-returns-clause-code g t c =
    let s = c.args.self.now.known.now in
    let a = c.args.to.now in
    let level = level_set a.out in
    let x = stmt c.args.x.now in
    let e = expr c.args.c.now in
    let b : Draft = record a { out = c.value.new.out } in
    let d : Draft = record a { out = c.append_exit.new.out; exits = c.append_exit.new.exits } in
    let q = same_level a.out b.out c.in_ok-value.ensures.level in
    on_ok_weaker c.stmt.result
    (λ h sc fit.
    let v = value_piece s a b level sc types.Truth e refl refl refl c.requires.ready.few c.in_ok-value.ensures.code c.in_ok-value.ensures.size fit.0 in
    if_then_arm sc level s e x a b d c.stmt.new.to v (branch_piece sc Brfl b d level q refl v.few c.in_ok-append_exit.ensures.code c.in_ok-append_exit.ensures.size)
    (stmt_piece s sc x d c.stmt.new.to level (same_level b.out d.out c.in_ok-append_exit.ensures.level ∙ q) h fit.1))
    c.stmt.ensures.code

pub if_then-returns-clause-lines : goal.if_then-returns-clause-lines
if_then-returns-clause-lines g t c = c.stmt.ensures.lines

pub then_part-stmt-requires : goal.then_part-stmt-requires
then_part-stmt-requires g t c =
    let s = c.args.self.now.known.now in
    let a = c.args.to.now in
    let x = stmt c.args.x.now in
    let e = expr c.args.c.now in
    let b : Draft = record a { out = c.value.new.out } in
    let d : Draft = record a { out = c.append_branch.new.out } in
    let r = same_level b.out d.out c.in_ok-otherwise.ensures.level ∙ (same_level a.out b.out c.in_ok-value.ensures.level) in
    let v = value_piece s a b (level_set a.out) c.requires.fits.0 types.Truth e refl refl refl c.requires.ready.few c.in_ok-value.ensures.code c.in_ok-value.ensures.size c.requires.fits.1 in
    let ready = matched.ready_behind s a d (expr_syllables s e + stmt_syllables s x + 6) (stmt_syllables s x) c.requires.ready (c.in_ok-otherwise.ensures.level ∙ c.in_ok-value.ensures.level) refl
    (omega (arith, v.code.grown, c.in_ok-otherwise.ensures.size)) (omega (arith, c.in_ok-value.ensures.size, c.in_ok-otherwise.ensures.size)) in
    search (rules, stmts'.the_lemmas, decls'.the_lemmas, bodies'.the_lemmas, ready, matched.fit_at s c.requires.fits.0 x d (level_set a.out) r c.requires.fits.2, at_same a d (c.in_ok-otherwise.ensures.level ∙ c.in_ok-value.ensures.level) c.requires.level)

pub then_part-append_exit-requires : goal.then_part-append_exit-requires
then_part-append_exit-requires g t c =
    let a = c.args.to.now in
    let b : Draft = record a { out = c.value.new.out } in
    let d : Draft = record a { out = c.append_branch.new.out } in
    let r = same_level b.out d.out c.in_ok-otherwise.ensures.level ∙ same_level a.out b.out c.in_ok-value.ensures.level in
    let part = stmt_piece c.args.self.now.known.now c.requires.fits.0 (stmt c.args.x.now) d c.stmt.new.to (level_set a.out) r c.in_ok-stmt.ensures.code c.requires.fits.2 in
    record {
      set = matched.set_behind c.args.to.now.out part (c.in_ok-otherwise.ensures.level ∙ c.in_ok-value.ensures.level) c.requires.ready.set;
      room = omega (arith, part.short, c.in_ok-otherwise.ensures.size, c.in_ok-value.ensures.size, c.requires.ready.room);
    }

pub then_part-aim-requires : goal.then_part-aim-requires
then_part-aim-requires g t c =
    let a = c.args.to.now in
    let level = level_set a.out in
    let b : Draft = record a { out = c.value.new.out } in
    let d : Draft = record a { out = c.append_branch.new.out } in
    let e = c.stmt.new.to in
    let f : Draft = record e { out = c.append_exit.new.out; exits = c.append_exit.new.exits } in
    let q = same_level a.out b.out c.in_ok-value.ensures.level in
    let r = same_level b.out d.out c.in_ok-otherwise.ensures.level ∙ q in
    let part = stmt_piece c.args.self.now.known.now c.requires.fits.0 (stmt c.args.x.now) d e level r c.in_ok-stmt.ensures.code c.requires.fits.2 in
    let out = branch_piece c.requires.fits.0 Brun e f level (level_after part ∙ r) refl part.few c.in_ok-append_exit.ensures.code c.in_ok-append_exit.ensures.size in
    hole_there (c.in_ok-otherwise.otherwise ∷ []) b {b = d}
    (hole_as Brfl b.out d.out level c.in_ok-otherwise.otherwise q c.in_ok-otherwise.ensures.place c.in_ok-otherwise.ensures.code) (emits_then part out)

pub then_part-returns-clause-code : goal.then_part-returns-clause-code
then_part-returns-clause-code g t c =
    let s = c.args.self.now.known.now in
    let a = c.args.to.now in
    let level = level_set a.out in
    let x = stmt c.args.x.now in
    let p = expr c.args.c.now in
    let b : Draft = record a { out = c.value.new.out } in
    let d : Draft = record a { out = c.append_branch.new.out } in
    let e = c.stmt.new.to in
    let f : Draft = record e { out = c.append_exit.new.out; exits = c.append_exit.new.exits } in
    let n : Draft = record f { out = c.aim.new.out } in
    let q = same_level a.out b.out c.in_ok-value.ensures.level in
    let r = same_level b.out d.out c.in_ok-otherwise.ensures.level ∙ q in
    λ sc condition fit.
    let v = value_piece s a b level sc types.Truth p refl refl refl c.requires.ready.few c.in_ok-value.ensures.code c.in_ok-value.ensures.size condition in
    let part = stmt_piece s sc x d e level r c.in_ok-stmt.ensures.code fit in
    let out = branch_piece sc Brun e f level (level_after part ∙ r) refl part.few c.in_ok-append_exit.ensures.code c.in_ok-append_exit.ensures.size in
    then_arm sc level s p x a b d e f n (c.in_ok-otherwise.otherwise ∷ []) v
    (hole_as Brfl b.out d.out level c.in_ok-otherwise.otherwise q c.in_ok-otherwise.ensures.place c.in_ok-otherwise.ensures.code)
    (omega (arith, c.in_ok-otherwise.ensures.size)) refl refl part out c.aim.ensures refl refl

pub then_part-returns-clause-lines : goal.then_part-returns-clause-lines
then_part-returns-clause-lines g t c = c.in_ok-stmt.ensures.lines

-- ---- a body, whose exits go to the place after it

pub loop_body-aim_exits-requires-clause-branches : goal.loop_body-aim_exits-requires-clause-branches
loop_body-aim_exits-requires-clause-branches g t c =
    let a = c.args.to.now in
    let is : c.len-first.result ≡ length a.exits.items = omega (arith, c.len-first.ensures, a.exits.ok.0) in
    (exits_lie a c.stmt.new.to c.len-first.result is (c.in_ok-stmt.ensures.code c.requires.fits.0 c.requires.fits.1)).1

pub loop_body-returns-clause-code : goal.loop_body-returns-clause-code
loop_body-returns-clause-code g t c =
    let a = c.args.to.now in
    let d : Draft = record c.stmt.new.to { out = c.aim_exits.new.out; exits = c.aim_exits.new.exits } in
    let is : c.len-first.result ≡ length a.exits.items = omega (arith, c.len-first.ensures, a.exits.ok.0) in
    λ sc fit. body_closed c.args.self.now.known.now sc (level_set a.out) (stmt c.args.b.now) a c.stmt.new.to d c.len-first.result is (c.in_ok-stmt.ensures.code sc fit) c.aim_exits.ensures.aimed c.aim_exits.ensures.list refl

pub loop_body-returns-clause-lines : goal.loop_body-returns-clause-lines
loop_body-returns-clause-lines g t c = c.in_ok-stmt.ensures.lines

-- ---- WHILE

pub while_loop-loop_body-requires : goal.while_loop-loop_body-requires
while_loop-loop_body-requires g t c =
    let s = c.args.self.now.known.now in
    let a = c.args.to.now in
    let level = level_set a.out in
    let sc = c.requires.fits.0 in
    let x = stmt c.args.b.now in
    let e = expr c.args.c.now in
    let b : Draft = record a { out = c.value.new.out } in
    let d : Draft = record a { out = c.append_exit.new.out; exits = c.append_exit.new.exits } in
    let v = value_piece s a b level sc types.Truth e refl refl refl c.requires.ready.few c.in_ok-value.ensures.code c.in_ok-value.ensures.size c.requires.fits.1.0 in
    let left = branch_piece sc Brfl b d level (same_level a.out b.out c.in_ok-value.ensures.level) refl v.few c.in_ok-append_exit.ensures.code c.in_ok-append_exit.ensures.size in
    let both = emits_then v left in
    let ready = ready_after s a (stmt_syllables s (tree.while e x)) (stmt_syllables s x) c.requires.ready both (omega arith) in
    search (rules, stmts'.the_lemmas, decls'.the_lemmas, bodies'.the_lemmas, ready, fit_after s sc x both c.requires.fits.1.1, at_after both c.requires.level)

pub while_loop-append_turn-requires : goal.while_loop-append_turn-requires
while_loop-append_turn-requires g t c =
    let s = c.args.self.now.known.now in
    let a = c.args.to.now in
    let b : Draft = record a { out = c.value.new.out } in
    let d : Draft = record a { out = c.append_exit.new.out; exits = c.append_exit.new.exits } in
    let r = same_level b.out d.out c.in_ok-append_exit.ensures.level ∙ same_level a.out b.out c.in_ok-value.ensures.level in
    let part = body_piece s c.requires.fits.0 (stmt c.args.b.now) d c.loop_body.new.to (level_set a.out) r c.in_ok-loop_body.ensures.code c.requires.fits.1.1 in
    let v = value_piece s a b (level_set a.out) c.requires.fits.0 types.Truth (expr c.args.c.now) refl refl refl c.requires.ready.few c.in_ok-value.ensures.code c.in_ok-value.ensures.size c.requires.fits.1.0 in
    record {
      set = matched.set_behind c.args.to.now.out part (c.in_ok-append_exit.ensures.level ∙ c.in_ok-value.ensures.level) c.requires.ready.set;
      back = omega (arith, c.place-start.ensures, v.code.grown, c.in_ok-append_exit.ensures.size, part.code.grown);
      room = omega (arith, part.short, c.in_ok-append_exit.ensures.size, c.in_ok-value.ensures.size, c.requires.ready.room);
    }

pub while_loop-returns-clause-code : goal.while_loop-returns-clause-code
while_loop-returns-clause-code g t c =
    let s = c.args.self.now.known.now in
    let a = c.args.to.now in
    let level = level_set a.out in
    let x = stmt c.args.b.now in
    let p = expr c.args.c.now in
    let b : Draft = record a { out = c.value.new.out } in
    let d : Draft = record a { out = c.append_exit.new.out; exits = c.append_exit.new.exits } in
    let e = c.loop_body.new.to in
    let f : Draft = record e { out = c.append_turn.new.out } in
    let q = same_level a.out b.out c.in_ok-value.ensures.level in
    let r = same_level b.out d.out c.in_ok-append_exit.ensures.level ∙ q in
    on_ok_two c.append_turn.result
    (λ h wide sc fit.
    let v = value_piece s a b level sc types.Truth p refl refl refl c.requires.ready.few c.in_ok-value.ensures.code c.in_ok-value.ensures.size fit.0 in
    let left = branch_piece sc Brfl b d level q refl v.few c.in_ok-append_exit.ensures.code c.in_ok-append_exit.ensures.size in
    let part = body_piece s sc x d e level r c.in_ok-loop_body.ensures.code fit.1 in
    while_arm sc level s p x a b d e f v left part (turn_piece sc a e f c.place-start.result level c.place-start.ensures (level_after part ∙ r) refl refl part.few h wide))
    c.append_turn.ensures.code c.append_turn.ensures.size

pub while_loop-returns-clause-lines : goal.while_loop-returns-clause-lines
while_loop-returns-clause-lines g t c = on_ok_weaker c.append_turn.result (λ h. c.in_ok-loop_body.ensures.lines) c.append_turn.ensures.size

-- ---- DO with UNTIL

pub until_loop-value-requires-clause-code : goal.until_loop-value-requires-clause-code
until_loop-value-requires-clause-code g t c =
    code_at c.args.self.now.known.now (level_set c.loop_body.new.to.out) (level_set c.args.to.now.out) c.requires.fits.0 types.Truth (expr c.args.c.now) (level_after (c.in_ok-loop_body.ensures.code c.requires.fits.0 c.requires.fits.1.0)) c.requires.fits.1.1

pub until_loop-append_turn-requires-clause-back : goal.until_loop-append_turn-requires-clause-back
until_loop-append_turn-requires-clause-back g t c =
    let d : Draft = record c.loop_body.new.to { out = c.value.new.out } in
    let part = c.in_ok-loop_body.ensures.code c.requires.fits.0 c.requires.fits.1.0 in
    let v = value_piece c.args.self.now.known.now c.loop_body.new.to d (level_set c.args.to.now.out) c.requires.fits.0 types.Truth (expr c.args.c.now) (level_after part) refl refl part.few c.in_ok-value.ensures.code
    c.in_ok-value.ensures.size c.requires.fits.1.1 in
    omega (arith, c.place-start.ensures, part.code.grown, v.code.grown, c.in_ok-append_exit.ensures.size)

pub until_loop-returns-clause-code : goal.until_loop-returns-clause-code
until_loop-returns-clause-code g t c =
    let a = c.args.to.now in
    let level = level_set a.out in
    let p = expr c.args.c.now in
    let b = c.loop_body.new.to in
    let d : Draft = record b { out = c.value.new.out } in
    let e : Draft = record b { out = c.append_exit.new.out; exits = c.append_exit.new.exits } in
    let f : Draft = record e { out = c.append_turn.new.out } in
    on_ok_two c.append_turn.result
    (λ h wide sc fit.
    let part = c.in_ok-loop_body.ensures.code sc fit.0 in
    let q = level_after part in
    let v = value_piece c.args.self.now.known.now b d level sc types.Truth p q refl refl part.few c.in_ok-value.ensures.code c.in_ok-value.ensures.size fit.1 in
    let r = same_level b.out d.out c.in_ok-value.ensures.level ∙ q in
    let left = branch_piece sc Brtr d e level r refl v.few c.in_ok-append_exit.ensures.code c.in_ok-append_exit.ensures.size in
    until_arm sc level c.args.self.now.known.now p (stmt c.args.b.now) a b d e f part v left
    (turn_piece sc a e f c.place-start.result level c.place-start.ensures (same_level d.out e.out c.in_ok-append_exit.ensures.level ∙ r) refl refl left.few h wide))
    c.append_turn.ensures.code c.append_turn.ensures.size

pub until_loop-returns-clause-lines : goal.until_loop-returns-clause-lines
until_loop-returns-clause-lines g t c = on_ok_weaker c.append_turn.result (λ h. c.in_ok-loop_body.ensures.lines) c.append_turn.ensures.size

-- ---- FOR

pub for_loop-difference-requires-clause-fits : goal.for_loop-difference-requires-clause-fits
for_loop-difference-requires-clause-fits g t c =
    let a = c.args.to.now.out in
    let b = c.assign.new.out in
    matched.compared_fits c.args.self.now.known.now c.requires.fits.0 (level_set a) c.args.v.now (expr c.args.l.now) (level_set b) (same_level a b c.in_ok-assign.ensures.level) c.requires.fits.1.0.0
    c.requires.fits.1.3

pub for_loop-step-requires-clause-fits : goal.for_loop-step-requires-clause-fits
for_loop-step-requires-clause-fits g t c =
    let a = c.args.to.now.out in
    let d = c.difference.new.out in
    matched.stepped_fits c.args.self.now.known.now c.requires.fits.0 (level_set a) (expr c.args.s.now) (level_set d) (same_level a d (c.in_ok-difference.ensures.level ∙ c.in_ok-assign.ensures.level))
    c.requires.fits.1.2

pub for_loop-step-requires-clause-ready : goal.for_loop-step-requires-clause-ready
for_loop-step-requires-clause-ready g t c =
    let s = c.args.self.now.known.now in
    let assign = c.in_ok-assign.ensures in
    let test = c.in_ok-difference.ensures in
    fors.step_ready s c.requires.fits.0 c.args.v.now (expr c.args.a.now) (expr c.args.s.now) (expr c.args.l.now) (stmt c.args.b.now) c.args.to.now c.assign.new.out c.difference.new.out c.requires.fits.1
    c.requires.ready assign.code assign.level assign.size test.code test.level test.size

pub for_loop-loop_body-requires : goal.for_loop-loop_body-requires
for_loop-loop_body-requires g t c =
    let s = c.args.self.now.known.now in
    let assign = c.in_ok-assign.ensures in
    let test = c.in_ok-difference.ensures in
    let needs = fors.body_needs s c.requires.fits.0 c.args.v.now (expr c.args.a.now) (expr c.args.s.now) (expr c.args.l.now) (stmt c.args.b.now) c.args.to.now c.assign.new.out c.difference.new.out c.requires.fits.1
    c.requires.ready assign.code assign.level assign.size test.code test.level test.size c.step.new.to c.in_ok-step.ensures.code c.args.self.now.level c.requires.level in
    search (rules, stmts'.the_lemmas, decls'.the_lemmas, bodies'.the_lemmas, needs.0, needs.1, needs.2)

pub for_loop-advance-requires : goal.for_loop-advance-requires
for_loop-advance-requires g t c =
    let s = c.args.self.now.known.now in
    let assign = c.in_ok-assign.ensures in
    let test = c.in_ok-difference.ensures in
    let needs = fors.advance_needs s c.requires.fits.0 c.args.v.now (expr c.args.a.now) (expr c.args.s.now) (expr c.args.l.now) (stmt c.args.b.now) c.args.to.now c.assign.new.out c.difference.new.out c.requires.fits.1
    c.requires.ready assign.code assign.level assign.size test.code test.level test.size c.step.new.to c.in_ok-step.ensures.code c.loop_body.new.to c.in_ok-loop_body.ensures.code in
    let fits = fors.advance_fits s c.requires.fits.0 c.args.v.now (expr c.args.a.now) (expr c.args.s.now) (expr c.args.l.now) (stmt c.args.b.now) c.args.to.now c.assign.new.out c.difference.new.out c.requires.fits.1
    c.requires.ready assign.code assign.level assign.size test.code test.level test.size c.step.new.to c.in_ok-step.ensures.code c.loop_body.new.to c.in_ok-loop_body.ensures.code in
    record { set = needs.0; near = c.requires.ready.near; fits = fits; room = needs.1 }

pub for_loop-append_turn-requires : goal.for_loop-append_turn-requires
for_loop-append_turn-requires g t c =
    let s = c.args.self.now.known.now in
    let assign = c.in_ok-assign.ensures in
    let test = c.in_ok-difference.ensures in
    let next = c.in_ok-advance.ensures in
    let needs = fors.turn_needs s c.requires.fits.0 c.args.v.now (expr c.args.a.now) (expr c.args.s.now) (expr c.args.l.now) (stmt c.args.b.now) c.args.to.now c.assign.new.out c.difference.new.out c.requires.fits.1
    c.requires.ready assign.code assign.level assign.size test.code test.level test.size c.step.new.to c.in_ok-step.ensures.code c.loop_body.new.to c.in_ok-loop_body.ensures.code c.advance.new.out next.code next.level next.size c.place-start.result c.place-start.ensures in
    record { set = needs.0; back = needs.1; room = needs.2 }

pub for_loop-returns-clause-code : goal.for_loop-returns-clause-code
for_loop-returns-clause-code g t c =
    let assign = c.in_ok-assign.ensures in
    let test = c.in_ok-difference.ensures in
    let next = c.in_ok-advance.ensures in
    on_ok_two c.append_turn.result
    (turns.for_emitted c.args.self.now.known.now c.args.v.now (expr c.args.a.now) (expr c.args.s.now) (expr c.args.l.now) (stmt c.args.b.now) c.args.to.now c.step.new.to c.loop_body.new.to c.assign.new.out
    c.difference.new.out c.advance.new.out c.append_turn.new.out c.place-start.result c.requires.ready.few assign.code assign.level assign.size c.place-start.ensures test.code test.level test.size c.in_ok-step.ensures.code
    c.in_ok-loop_body.ensures.code next.code next.level next.size)
    c.append_turn.ensures.code c.append_turn.ensures.size

pub for_loop-returns-clause-lines : goal.for_loop-returns-clause-lines
for_loop-returns-clause-lines g t c =
    on_ok_weaker c.append_turn.result
    (λ h. added.then_added c.args.to.now c.step.new.to c.loop_body.new.to (stmt c.args.b.now) c.in_ok-step.ensures.notes c.in_ok-loop_body.ensures.lines)
    c.append_turn.ensures.size

-- ---- THRU

pub thru_loop-loop_body-requires : goal.thru_loop-loop_body-requires
thru_loop-loop_body-requires g t c =
    let value = c.in_ok-value.ensures in
    let test = c.in_ok-append_all.ensures in
    let over = c.in_ok-over.ensures in
    let less = c.in_ok-append_all-2.ensures in
    let needs = thrus.body_needs c.args.self.now.known.now c.requires.fits.0 (expr c.args.e.now) (stmt c.args.b.now) c.args.to.now c.value.new.out c.append_all.new.out c.append_branch.new.out c.append_all-2.new.out
    c.requires.fits.1 c.requires.ready value.code value.level value.size test.level test.size over.level over.size less.level less.size c.args.self.now.level c.requires.level in
    search (rules, stmts'.the_lemmas, decls'.the_lemmas, bodies'.the_lemmas, needs.0, needs.1, needs.2)

pub thru_loop-append_turn-requires : goal.thru_loop-append_turn-requires
thru_loop-append_turn-requires g t c =
    let value = c.in_ok-value.ensures in
    let test = c.in_ok-append_all.ensures in
    let over = c.in_ok-over.ensures in
    let less = c.in_ok-append_all-2.ensures in
    let needs = thrus.turn_needs c.args.self.now.known.now c.requires.fits.0 (expr c.args.e.now) (stmt c.args.b.now) c.args.to.now c.value.new.out c.append_all.new.out c.append_branch.new.out c.append_all-2.new.out
    c.requires.fits.1 c.requires.ready value.code value.level value.size test.level test.size over.level over.size less.level less.size c.loop_body.new.to c.in_ok-loop_body.ensures.code c.place-start.result c.place-start.ensures in
    record { set = needs.0; back = needs.1; room = needs.2 }

pub thru_loop-aim-requires : goal.thru_loop-aim-requires
thru_loop-aim-requires g t c =
    let value = c.in_ok-value.ensures in
    let test = c.in_ok-append_all.ensures in
    let over = c.in_ok-over.ensures in
    let less = c.in_ok-append_all-2.ensures in
    let turn = c.in_ok-append_turn.ensures in
    turns.thru_lies c.args.self.now.known.now (expr c.args.e.now) (stmt c.args.b.now) c.args.to.now c.loop_body.new.to c.value.new.out c.append_all.new.out c.append_branch.new.out c.append_all-2.new.out c.append_turn.new.out c.in_ok-over.over c.place-start.result c.requires.ready.few
    value.code value.level value.size c.place-start.ensures test.code test.level test.size over.place over.code over.level over.size less.code less.level less.size c.in_ok-loop_body.ensures.code turn.code turn.level turn.size
    c.requires.fits.0 c.requires.fits.1.0 c.requires.fits.1.1

pub thru_loop-append_plain-requires : goal.thru_loop-append_plain-requires
thru_loop-append_plain-requires g t c =
    let value = c.in_ok-value.ensures in
    let test = c.in_ok-append_all.ensures in
    let over = c.in_ok-over.ensures in
    let less = c.in_ok-append_all-2.ensures in
    let turn = c.in_ok-append_turn.ensures in
    let needs = thrus.end_needs c.args.self.now.known.now c.requires.fits.0 (expr c.args.e.now) (stmt c.args.b.now) c.args.to.now c.value.new.out c.append_all.new.out c.append_branch.new.out c.append_all-2.new.out
    c.requires.fits.1 c.requires.ready value.code value.level value.size test.level test.size over.level over.size less.level less.size c.loop_body.new.to c.in_ok-loop_body.ensures.code c.append_turn.new.out c.aim.new.out c.in_ok-over.over turn.level turn.size c.aim.ensures in
    record { set = needs.0; room = needs.1 }

pub thru_loop-returns-clause-code : goal.thru_loop-returns-clause-code
thru_loop-returns-clause-code g t c =
    let value = c.in_ok-value.ensures in
    let test = c.in_ok-append_all.ensures in
    let over = c.in_ok-over.ensures in
    let less = c.in_ok-append_all-2.ensures in
    let turn = c.in_ok-append_turn.ensures in
    on_ok_two c.append_plain.result
    (turns.thru_emitted c.args.self.now.known.now (expr c.args.e.now) (stmt c.args.b.now) c.args.to.now c.loop_body.new.to c.value.new.out c.append_all.new.out c.append_branch.new.out c.append_all-2.new.out c.append_turn.new.out c.in_ok-over.over c.place-start.result c.requires.ready.few
    value.code value.level value.size c.place-start.ensures test.code test.level test.size over.place over.code over.level over.size less.code less.level less.size c.in_ok-loop_body.ensures.code turn.code turn.level turn.size
    c.aim.new.out c.append_plain.new.out c.aim.ensures)
    c.append_plain.ensures.code c.append_plain.ensures.size

pub thru_loop-returns-clause-lines : goal.thru_loop-returns-clause-lines
thru_loop-returns-clause-lines g t c = on_ok_weaker c.append_plain.result (λ h. c.in_ok-loop_body.ensures.lines) c.append_plain.ensures.size

-- ---- CASE

pub case-select-requires-clause-few : goal.case-select-requires-clause-few
case-select-requires-clause-few g t c = omega (arith, tabled.few_statements c.args.self.now.known.now c.args.ss.now, c.requires.ready.room)

pub case-cases-requires : goal.case-cases-requires
case-cases-requires g t c =
    let s = c.args.self.now.known.now in
    let a = c.args.to.now in
    let ss = stmts c.args.ss.now in
    let b : Draft = record a { out = c.select.new.out } in
    let grown = (c.in_ok-select.ensures.code c.requires.fits.0 unknown c.requires.fits.1.0).grown in
    let ready = matched.ready_behind s a b (stmt_syllables s (tree.case (expr c.args.e.now) ss)) (stmts_syllables s ss) c.requires.ready c.in_ok-select.ensures.level refl grown
    (omega (arith, c.in_ok-select.ensures.size)) in
    let F : ℕ → Type 0 = λ l. EmittedStmtsFit c.requires.fits.0 s l ss in
    let fit : HaveFit s b ss = (c.requires.fits.0, subst F (sym (same_level a.out b.out c.in_ok-select.ensures.level)) c.requires.fits.1.1) in
    let at = at_same a b c.in_ok-select.ensures.level c.requires.level in
    search (rules, stmts'.the_lemmas, decls'.the_lemmas, bodies'.the_lemmas, ready, fit, at)

pub case-returns-clause-code : goal.case-returns-clause-code
case-returns-clause-code g t c =
    let a = c.args.to.now in
    let level = level_set a.out in
    let ss = c.args.ss.now in
    let e = expr c.args.e.now in
    let b : Draft = record a { out = c.select.new.out } in
    let d = c.cases.new.to in
    let q = same_level a.out b.out c.in_ok-select.ensures.level in
    on_ok_weaker c.cases.result
    (λ h sc fit.
    let F : ℕ → Type 0 = λ l. EmittedStmtsFit sc c.args.self.now.known.now l (stmts ss) in
    let first = piece {n = 19 + expr_syllables c.args.self.now.known.now e} {d = a} {e = b} refl refl c.requires.ready.few (λ later. c.in_ok-select.ensures.code sc later fit.0) c.in_ok-select.ensures.size in
    let rest = at_level level (λ l later qs target. CasesAt sc later qs l (stmts ss) (size b.out.operators) target) q (h sc (subst F (sym q) fit.1)) in
    tabled.case_arm c.args.self.now.known.now sc level e ss a b d first rest)
    c.cases.ensures.code

pub case-returns-clause-lines : goal.case-returns-clause-lines
case-returns-clause-lines g t c = c.cases.ensures.lines

pub cases-append_entries-requires-clause-room : goal.cases-append_entries-requires-clause-room
cases-append_entries-requires-clause-room g t c = omega (arith, tabled.few_statements c.args.self.now.known.now c.args.ss.now, c.requires.ready.room)

pub cases-statements-init : goal.cases-statements-init
cases-statements-init g t c =
    let a = c.args.to.now in
    let b : Draft = record a { out = c.append_entries.new.out } in
    record {
      entry = omega (arith, c.place-entry.ensures);
      code = λ sc fit. tabled.cases_begun c.args.self.now.known.now sc (level_set a.out) (length c.args.ss.now) c.args.ss.now a b refl c.requires.ready.few refl refl c.in_ok-append_entries.ensures.code;
      lines = added.none_added c.args.to.now;
    }

pub cases-aim-requires : goal.cases-aim-requires
cases-aim-requires g t c =
    let a = c.args.to.now in
    let u : Draft = record a { out = c.append_entries.new.out } in
    let m = c.statements.invariant.code c.requires.fits.0 c.requires.fits.1 in
    tabled.entry_lies c.args.self.now.known.now c.requires.fits.0 (level_set a.out) c.args.ss.now c.statements.s-index c.s-item.result c.statements-test.true c.s-item.is a u c.statements.to c.statements.entry
    c.statements.invariant.entry m

pub cases-stmt-requires : goal.cases-stmt-requires
cases-stmt-requires g t c =
    let s = c.args.self.now.known.now in
    let a = c.args.to.now in
    let ss = c.args.ss.now in
    let u : Draft = record a { out = c.append_entries.new.out } in
    let d : Draft = record c.statements.to { out = c.aim.new.out } in
    let needs = tabled.stmt_needs s c.requires.fits.0 (level_set a.out) ss c.statements.s-index c.s-item.result c.statements-test.true c.s-item.is a u c.statements.to c.statements.entry c.statements.invariant.entry
    (c.statements.invariant.code c.requires.fits.0 c.requires.fits.1) d (stmts_syllables s (stmts ss)) c.aim.ensures refl (omega arith) c.requires.ready refl c.requires.fits.1 c.args.self.now.level c.requires.level in
    search (rules, stmts'.the_lemmas, decls'.the_lemmas, bodies'.the_lemmas, needs.0, needs.1, needs.2)

pub cases-append_exit-requires : goal.cases-append_exit-requires
cases-append_exit-requires g t c =
    let s = c.args.self.now.known.now in
    let a = c.args.to.now in
    let ss = c.args.ss.now in
    let u : Draft = record a { out = c.append_entries.new.out } in
    let d : Draft = record c.statements.to { out = c.aim.new.out } in
    let needs = tabled.exit_needs s c.requires.fits.0 (level_set a.out) ss c.statements.s-index c.s-item.result c.statements-test.true c.s-item.is a u c.statements.to c.statements.entry c.statements.invariant.entry
    (c.statements.invariant.code c.requires.fits.0 c.requires.fits.1) d (stmts_syllables s (stmts ss)) c.aim.ensures refl (omega arith) c.requires.ready refl c.requires.fits.1 c.stmt.new.to c.in_ok-stmt.ensures.code in
    record { set = needs.0; room = needs.1 }

pub cases-overflow_add-entry : goal.cases-overflow_add-entry
cases-overflow_add-entry g t c =
    let a = c.args.to.now in
    let u : Draft = record a { out = c.append_entries.new.out } in
    let m = c.statements.invariant.code c.requires.fits.0 c.requires.fits.1 in
    let below = tabled.entry_below c.args.self.now.known.now c.requires.fits.0 (level_set a.out) c.args.ss.now c.statements.s-index c.s-item.result c.statements-test.true c.s-item.is a u c.statements.to c.statements.entry
    c.statements.invariant.entry m in
    omega (arith, below, c.in_ok-append_entries.ensures.size, tabled.few_statements c.args.self.now.known.now c.args.ss.now, c.requires.ready.room)

pub cases-statements-preserved : goal.cases-statements-preserved
cases-statements-preserved g t c =
    let s = c.args.self.now.known.now in
    let a = c.args.to.now in
    let level = level_set a.out in
    let u : Draft = record a { out = c.append_entries.new.out } in
    let d : Draft = record c.statements.to { out = c.aim.new.out } in
    let f : Draft = record c.stmt.new.to { out = c.append_exit.new.out; exits = c.append_exit.new.exits } in
    record {
      entry = omega (arith, c.statements.invariant.entry);
      code = λ sc fit.
          tabled.cases_more s sc level c.args.ss.now c.statements.s-index c.s-item.result c.statements-test.true c.s-item.is a u c.statements.to c.statements.entry c.statements.invariant.entry (c.statements.invariant.code sc fit) d c.stmt.new.to f refl
          c.aim.ensures refl refl (next_fits s sc level c.args.ss.now c.statements.s-index c.s-item.result c.statements-test.true c.s-item.is fit) c.in_ok-stmt.ensures.code refl c.in_ok-append_exit.ensures.code c.in_ok-append_exit.ensures.size;
      lines = added.next_added c.args.to.now c.statements.to c.stmt.new.to c.args.ss.now c.statements.s-index c.s-item.result c.statements-test.true c.s-item.is
          c.statements.invariant.lines c.in_ok-stmt.ensures.lines;
    }

pub cases-returns-clause-code : goal.cases-returns-clause-code
cases-returns-clause-code g t c =
    let a = c.args.to.now in
    let u : Draft = record a { out = c.append_entries.new.out } in
    λ sc fit. tabled.cases_ended c.args.self.now.known.now sc (level_set a.out) c.args.ss.now c.statements.s-index a u c.statements.to (take_all c.statements.s-index c.args.ss.now c.statements-test.false) c.statements-test.false (c.statements.invariant.code sc fit)

pub cases-returns-clause-lines : goal.cases-returns-clause-lines
cases-returns-clause-lines g t c =
    added.all_added c.args.to.now c.statements.to c.args.ss.now c.statements.s-index c.statements-test.false c.statements.invariant.lines

-- ---- statements one after another

pub stmts-statements-init : goal.stmts-statements-init
stmts-statements-init g t c =
    record {
      code = λ sc fit. together_none c.args.self.now.known.now sc (level_set c.args.to.now.out) c.args.ss.now c.args.to.now c.requires.ready.few;
      lines = added.none_added c.args.to.now;
    }

pub stmts-aim_exits-requires : goal.stmts-aim_exits-requires
stmts-aim_exits-requires g t c =
    let a = c.args.to.now in
    let is : c.len-first.result ≡ length a.exits.items = omega (arith, c.len-first.ensures, a.exits.ok.0) in
    let lie = exits_lie a c.statements.to c.len-first.result is (c.statements.invariant.code c.requires.fits.0 c.requires.fits.1) in
    record { list = lie.0; branches = lie.1 }

pub stmts-stmt-requires : goal.stmts-stmt-requires
stmts-stmt-requires g t c =
    let s = c.args.self.now.known.now in
    let a = c.args.to.now in
    let level = level_set a.out in
    let sc = c.requires.fits.0 in
    let ss = c.args.ss.now in
    let i = c.statements.s-index in
    let x = c.s-item.result in
    let b = c.statements.to in
    let d : Draft = record b { out = c.aim_exits.new.out; exits = c.aim_exits.new.exits } in
    let is : c.len-first.result ≡ length a.exits.items = omega (arith, c.len-first.ensures, a.exits.ok.0) in
    let h = c.statements.invariant.code sc c.requires.fits.1 in
    let ready = next_ready s sc level ss i x c.statements-test.true c.s-item.is a b d c.len-first.result is h c.aim_exits.ensures.aimed c.aim_exits.ensures.list refl (stmts_syllables s (stmts ss))
    (omega arith) c.requires.ready in
    let q = done_level s sc level ss i x c.statements-test.true c.s-item.is a b d c.len-first.result is h c.aim_exits.ensures.aimed c.aim_exits.ensures.list refl in
    search (rules, stmts'.the_lemmas, decls'.the_lemmas, bodies'.the_lemmas, ready, matched.fit_at s sc (stmt x) d level q (next_fits s sc level ss i x c.statements-test.true c.s-item.is c.requires.fits.1), at_same a d (done_set s sc level ss i x c.statements-test.true c.s-item.is a b d c.len-first.result is h c.aim_exits.ensures.aimed c.aim_exits.ensures.list refl) c.requires.level)

pub stmts-statements-preserved : goal.stmts-statements-preserved
stmts-statements-preserved g t c =
    let s = c.args.self.now.known.now in
    let a = c.args.to.now in
    let level = level_set a.out in
    let d : Draft = record c.statements.to { out = c.aim_exits.new.out; exits = c.aim_exits.new.exits } in
    let is : c.len-first.result ≡ length a.exits.items = omega (arith, c.len-first.ensures, a.exits.ok.0) in
    record {
      code = λ sc fit.
          together_more s sc level c.args.ss.now c.statements.s-index c.s-item.result c.statements-test.true c.s-item.is a c.statements.to d c.len-first.result is (c.statements.invariant.code sc fit) c.aim_exits.ensures.aimed c.aim_exits.ensures.list refl
          c.stmt.new.to refl (next_fits s sc level c.args.ss.now c.statements.s-index c.s-item.result c.statements-test.true c.s-item.is fit) c.in_ok-stmt.ensures.code;
      lines = added.next_added c.args.to.now c.statements.to c.stmt.new.to c.args.ss.now c.statements.s-index c.s-item.result c.statements-test.true c.s-item.is
          c.statements.invariant.lines c.in_ok-stmt.ensures.lines;
    }

pub stmts-returns-clause-code : goal.stmts-returns-clause-code
stmts-returns-clause-code g t c =
    let a = c.args.to.now in
    let b = c.statements.to in
    λ sc fit.
    let E : List Stmt → Type 0 = λ l. Emits (stmts_syllables c.args.self.now.known.now (stmts l)) a b (StandTogether sc (level_set a.out) l a b) in
    subst E (take_all c.statements.s-index c.args.ss.now c.statements-test.false) (c.statements.invariant.code sc fit)

pub stmts-returns-clause-lines : goal.stmts-returns-clause-lines
stmts-returns-clause-lines g t c =
    added.all_added c.args.to.now c.statements.to c.args.ss.now c.statements.s-index c.statements-test.false c.statements.invariant.lines

-- ---- a label

pub labelled-stmt-requires : goal.labelled-stmt-requires
labelled-stmt-requires g t c =
    let s = c.args.self.now.known.now in
    let a = c.args.to.now in
    let n = c.args.n.now in
    let x = stmt c.args.s.now in
    let b : Draft = record a { labels = c.push.new.self } in
    let l : Label = record { spot = n.spot; place = c.place-place.result } in
    let first = label_piece a b l refl refl refl c.in_ok-push.ensures.items c.place-place.ensures c.requires.ready.few in
    let ready = ready_after s a (stmt_syllables s (tree.label n x)) (stmt_syllables s x) c.requires.ready first (omega arith) in
    search (rules, stmts'.the_lemmas, decls'.the_lemmas, bodies'.the_lemmas, ready, fit_after s c.requires.fits.0 x first c.requires.fits.1.1, at_after first c.requires.level)

pub labelled-returns-clause-code : goal.labelled-returns-clause-code
labelled-returns-clause-code g t c =
    let s = c.args.self.now.known.now in
    let a = c.args.to.now in
    let n = c.args.n.now in
    let x = stmt c.args.s.now in
    let level = level_set a.out in
    let b : Draft = record a { labels = c.push.new.self } in
    let l : Label = record { spot = n.spot; place = c.place-place.result } in
    on_ok_weaker c.stmt.result
    (λ h sc fit.
    label_arm s sc level n x a b c.stmt.new.to refl (label_piece a b l refl refl refl c.in_ok-push.ensures.items c.place-place.ensures c.requires.ready.few)
    (stmt_piece s sc x b c.stmt.new.to level refl h fit.1))
    c.stmt.ensures.code

pub labelled-returns-clause-lines : goal.labelled-returns-clause-lines
labelled-returns-clause-lines g t c =
    let a = c.args.to.now in
    let n = c.args.n.now in
    let b : Draft = record a { labels = c.push.new.self } in
    let l : Label = record { spot = n.spot; place = c.place-place.result } in
    on_ok_weaker c.stmt.result (λ h. added.label_added a b c.stmt.new.to l n (stmt c.args.s.now) refl c.in_ok-push.ensures.items refl h) c.stmt.ensures.lines

-- ---- a statement

pub stmt-returns-in-Empty-clause-code : goal.stmt-returns-in-Empty-clause-code
stmt-returns-in-Empty-clause-code g t c =
    let s = c.args.self.now.known.now in
    let a = c.args.to.now in
    matched.emits_as s a a (stmt c.args.s.now) tree.empty (empty_read c.args.s.now c.in-Empty.is) (matched.empty_emitted s a c.requires.ready.few)

pub stmt-returns-in-Empty-clause-lines : goal.stmt-returns-in-Empty-clause-lines
stmt-returns-in-Empty-clause-lines g t c =
    let a = c.args.to.now in
    added.none_as a a (stmt c.args.s.now) tree.empty (empty_read c.args.s.now c.in-Empty.is) refl refl refl

pub stmt-store-requires-clause-fits : goal.stmt-store-requires-clause-fits
stmt-store-requires-clause-fits g t c =
    let v = c.in-Assign.v in
    matched.fit_as c.args.self.now.known.now c.args.to.now (stmt c.args.s.now) (tree.assign (variable v) (expr c.in-Assign.e)) (shaped.assign_as c.args.s.now v c.in-Assign.e c.in-Assign.is) c.requires.fits

pub stmt-store-requires-clause-room : goal.stmt-store-requires-clause-room
stmt-store-requires-clause-room g t c =
    let v = c.in-Assign.v in
    store_fits c.args.self.now.known.now c.args.to.now (stmt c.args.s.now) (variable v) (expr c.in-Assign.e) (shaped.assign_as c.args.s.now v c.in-Assign.e c.in-Assign.is) c.requires.ready

pub stmt-returns-in-Assign-clause-code : goal.stmt-returns-in-Assign-clause-code
stmt-returns-in-Assign-clause-code g t c =
    let a = c.args.to.now in
    let v = c.in-Assign.v in
    let b : Draft = record a { out = c.store.new.out } in
    on_ok_two c.store.result
    (store_emitted c.args.self.now.known.now a b (stmt c.args.s.now) (variable v) (expr c.in-Assign.e) (shaped.assign_as c.args.s.now v c.in-Assign.e c.in-Assign.is) refl refl c.requires.ready.few)
    c.store.ensures.code c.store.ensures.size

pub stmt-returns-in-Assign-clause-lines : goal.stmt-returns-in-Assign-clause-lines
stmt-returns-in-Assign-clause-lines g t c =
    let a = c.args.to.now in
    let v = c.in-Assign.v in
    on_ok_weaker c.store.result
    (λ h. added.none_as a a (stmt c.args.s.now) (tree.assign (variable v) (expr c.in-Assign.e)) (shaped.assign_as c.args.s.now v c.in-Assign.e c.in-Assign.is) refl refl refl)
    c.store.ensures.size

pub stmt-returns-in_ok-then_part-in-Some-clause-code : goal.stmt-returns-in_ok-then_part-in-Some-clause-code
stmt-returns-in_ok-then_part-in-Some-clause-code g t c =
    let x = c.deref-in-Some.result.now in
    let y = c.deref-in-Some-2.result.now in
    on_ok_weaker c.stmt.result
    (λ h. matched.else_emitted c.args.self.now.known.now c.args.to.now c.then_part.new.to c.stmt.new.to (stmt c.args.s.now) (expr c.in-If.c) (stmt x) (stmt y)
    (shaped.if_else_as c.args.s.now x y c.in-If.c c.in-If.x c.in-If.other c.in-Some.y c.in-If.is c.in-Some.is c.deref-in-Some.ensures c.deref-in-Some-2.ensures)
    c.in_ok-then_part-in-Some.ensures.code h)
    c.stmt.ensures.code

pub stmt-returns-in_ok-then_part-in-Some-clause-lines : goal.stmt-returns-in_ok-then_part-in-Some-clause-lines
stmt-returns-in_ok-then_part-in-Some-clause-lines g t c =
    let x = c.deref-in-Some.result.now in
    let y = c.deref-in-Some-2.result.now in
    let shape = shaped.if_else_as c.args.s.now x y c.in-If.c c.in-If.x c.in-If.other c.in-Some.y c.in-If.is c.in-Some.is c.deref-in-Some.ensures c.deref-in-Some-2.ensures in
    let a = c.args.to.now in
    on_ok_weaker c.stmt.result
    (λ h.
    added.added_as a c.stmt.new.to (stmt c.args.s.now) (tree.if_else (expr c.in-If.c) (stmt x) (stmt y)) shape
    (added.else_added a c.then_part.new.to c.stmt.new.to (expr c.in-If.c) (stmt x) (stmt y) c.in_ok-then_part-in-Some.ensures.lines h))
    c.stmt.ensures.lines

pub stmt-stmt-requires : goal.stmt-stmt-requires
stmt-stmt-requires g t c =
    let s = c.args.self.now.known.now in
    let a = c.args.to.now in
    let x = c.deref-in-Some.result.now in
    let y = c.deref-in-Some-2.result.now in
    let shape = shaped.if_else_as c.args.s.now x y c.in-If.c c.in-If.x c.in-If.other c.in-Some.y c.in-If.is c.in-Some.is c.deref-in-Some.ensures c.deref-in-Some-2.ensures in
    let p = tree.if_else (expr c.in-If.c) (stmt x) (stmt y) in
    let whole = matched.ready_as s a (stmt c.args.s.now) p shape c.requires.ready in
    let fits = matched.fit_as s a (stmt c.args.s.now) p shape c.requires.fits in
    let first = c.in_ok-then_part-in-Some.ensures.code fits.0 fits.1.0 fits.1.1 in
    let ready = ready_after s a (stmt_syllables s p) (stmt_syllables s (stmt y)) whole first (omega arith) in
    search (rules, stmts'.the_lemmas, decls'.the_lemmas, bodies'.the_lemmas, ready, fit_after s fits.0 (stmt y) first fits.1.2, at_after first c.requires.level)

pub stmt-returns-in-For-clause-code : goal.stmt-returns-in-For-clause-code
stmt-returns-in-For-clause-code g t c =
    let w = c.in-For in
    let p = c.deref-in-For.result.now in
    let s = c.args.self.now.known.now in
    let a = c.args.to.now in
    let b = c.for_loop.new.to in
    let shape = shaped.for_as c.args.s.now p w.v w.a w.s w.l w.b w.is c.deref-in-For.ensures in
    on_ok_weaker c.for_loop.result (λ h. matched.emits_as s a b (stmt c.args.s.now) (tree.for w.v (expr w.a) (expr w.s) (expr w.l) (stmt p)) shape h) c.for_loop.ensures.code

pub stmt-returns-in-Write-clause-code : goal.stmt-returns-in-Write-clause-code
stmt-returns-in-Write-clause-code g t c =
    let w = c.in-Write in
    let ps = c.deref-in-Write.result.now in
    let es = c.deref-in-Write-2.result.now in
    on_ok_weaker c.write.result
    (λ h. matched.write_emitted c.args.self.now.known.now c.args.to.now c.write.new.to (stmt c.args.s.now) w.field-0 w.field-1 ps (exprs es)
    (shaped.write_as c.args.s.now w.field-0 w.field-1 w.phrases ps w.items es w.is (c.deref-in-Write.ensures.value ∙ c.items-in-Write.ensures) (c.deref-in-Write-2.ensures.value ∙ c.items-in-Write-2.ensures))
    h)
    c.write.ensures.code

pub stmt-returns-in-Write-clause-lines : goal.stmt-returns-in-Write-clause-lines
stmt-returns-in-Write-clause-lines g t c =
    let w = c.in-Write in
    let ps = c.deref-in-Write.result.now in
    let es = c.deref-in-Write-2.result.now in
    let shape = shaped.write_as c.args.s.now w.field-0 w.field-1 w.phrases ps w.items es w.is (c.deref-in-Write.ensures.value ∙ c.items-in-Write.ensures) (c.deref-in-Write-2.ensures.value ∙ c.items-in-Write-2.ensures) in
    on_ok_weaker c.write.result
    (λ h. added.added_as c.args.to.now c.write.new.to (stmt c.args.s.now) (tree.write w.field-0 w.field-1 ps (exprs es)) shape h)
    c.write.ensures.lines

-- ---- blocks

pub inside-begin-requires : goal.inside-begin-requires
inside-begin-requires g t c =
    let s = c.args.self.now.known.now in
    let many = c.args.many in
    let ds = decls c.args.ds.now in
    let es = images c.args.actuals.now in
    let fits = c.requires.fits in
    let ready = matched.ready_less s c.args.to.now (inside_syllables s many ds (stmts c.args.ss.now) es) (begin_syllables s many ds es) c.requires.ready (omega arith) in
    record {
      level = c.requires.level;
      ready = ready;
      few = c.requires.few;
      inner = c.requires.inner;
      placed = c.requires.placed;
      places = c.requires.places;
      fits = (fits.0, fits.1, fits.2.0, fits.2.1);
    }

pub inside-stmts-requires : goal.inside-stmts-requires
inside-stmts-requires g t c =
    let s = c.args.self.now.known.now in
    let level = c.args.self.now.level in
    let ds = decls c.args.ds.now in
    let ss = stmts c.args.ss.now in
    let es = images c.args.actuals.now in
    let ats = c.args.places.now in
    let a = c.args.to.now in
    let b = c.begin.new.to in
    let begun = c.in_ok-begin.ensures.code in
    let ready = blocks.stmts_ready s level c.args.many ds ss es ats a b c.requires.level c.requires.fits begun c.requires.ready in
    search (rules, stmts'.the_lemmas, decls'.the_lemmas, bodies'.the_lemmas, ready, blocks.stmts_fit s level c.args.many ds ss es ats a b c.requires.level c.requires.fits begun, blocks.stmts_level s level c.args.many ds ss es ats a b c.requires.level c.requires.fits begun)

pub inside-aim_exits-requires : goal.inside-aim_exits-requires
inside-aim_exits-requires g t c =
    let a = c.args.to.now in
    let lie = blocks.block_exits c.args.self.now.known.now c.args.self.now.level c.args.many (decls c.args.ds.now) (stmts c.args.ss.now) (images c.args.actuals.now) c.args.places.now a c.begin.new.to c.requires.level
    c.requires.fits c.in_ok-begin.ensures.code c.stmts.new.to c.len-first.result (omega (arith, c.len-first.ensures, a.exits.ok.0)) c.in_ok-stmts.ensures.code in
    record { list = lie.0; branches = lie.1 }

pub inside-returns : goal.inside-returns
inside-returns g t c =
    let s = c.args.self.now.known.now in
    let level = c.args.self.now.level in
    let a = c.args.to.now in
    let ds = decls c.args.ds.now in
    let ss = stmts c.args.ss.now in
    let es = images c.args.actuals.now in
    let ats = c.args.places.now in
    let d : Draft = record c.stmts.new.to { out = c.aim_exits.new.out; exits = c.aim_exits.new.exits } in
    let is : c.len-first.result ≡ length a.exits.items = omega (arith, c.len-first.ensures, a.exits.ok.0) in
    record {
      code = blocks.inside_stands s level c.args.many ds ss es ats a c.begin.new.to c.requires.level c.requires.fits c.in_ok-begin.ensures.code c.stmts.new.to c.len-first.result is c.in_ok-stmts.ensures.code d
          c.aim_exits.ensures.aimed c.aim_exits.ensures.list refl;
      exits = blocks.none_left s level c.args.many ds ss es ats a c.begin.new.to c.requires.level c.requires.fits c.in_ok-begin.ensures.code c.stmts.new.to c.len-first.result is c.in_ok-stmts.ensures.code d
          c.aim_exits.ensures.aimed c.aim_exits.ensures.list refl;
      lines = added.all_then_added a c.begin.new.to c.stmts.new.to (stmts c.args.ss.now) c.in_ok-begin.ensures.notes c.in_ok-stmts.ensures.lines;
    }

pub ended-inside-requires : goal.ended-inside-requires
ended-inside-requires g t c =
    let s = c.args.self.now.known.now in
    let level = c.args.self.now.level in
    let a = c.args.to.now in
    let ds = decls c.args.ds.now in
    let ss = stmts c.args.ss.now in
    let es = images c.args.actuals.now in
    let many = c.variables_of.result in
    let ready = blocks.ended_inside s level ds ss es a many c.variables_of.ensures c.requires.ready in
    let few = blocks.small_there many (variables_in ds) ds es es c.variables_of.ensures refl c.requires.few in
    search (rules, stmts'.the_lemmas, decls'.the_lemmas, bodies'.the_lemmas, c.requires.level, ready, few, c.requires.inner, c.requires.placed, c.requires.places, c.requires.fits)

pub ended-append_plain-requires : goal.ended-append_plain-requires
ended-append_plain-requires g t c =
    let s = c.args.self.now.known.now in
    let level = c.args.self.now.level in
    let a = c.args.to.now in
    let ds = decls c.args.ds.now in
    let ss = stmts c.args.ss.now in
    let es = images c.args.actuals.now in
    let ats = c.args.places.now in
    let many = c.variables_of.result in
    let d = c.inside.new.to in
    let inside = c.in_ok-inside.ensures.code in
    record {
      set = blocks.exit_set s level ds ss es a many c.variables_of.ensures ats d c.requires.level c.requires.fits inside c.requires.ready.set;
      room = blocks.exit_room s level ds ss es a many c.variables_of.ensures ats d c.requires.level c.requires.fits inside c.requires.ready;
    }

pub ended-returns-clause-code : goal.ended-returns-clause-code
ended-returns-clause-code g t c =
    let s = c.args.self.now.known.now in
    let level = c.args.self.now.level in
    let a = c.args.to.now in
    let ds = decls c.args.ds.now in
    let ss = stmts c.args.ss.now in
    let es = images c.args.actuals.now in
    let d = c.inside.new.to in
    let e : Draft = record d { out = c.append_plain.new.out } in
    blocks.ended_stands s level ds ss es a c.variables_of.result c.variables_of.ensures c.args.places.now d c.requires.level c.requires.fits c.in_ok-inside.ensures.code c.place-begin.result c.place-begin.ensures e refl refl
    c.in_ok-append_plain.ensures.code c.in_ok-append_plain.ensures.size

pub ended-returns-clause-lines : goal.ended-returns-clause-lines
ended-returns-clause-lines g t c = c.in_ok-inside.ensures.lines

pub block-routines-requires : goal.block-routines-requires
block-routines-requires g t c =
    let s = c.args.self.now.known.now in
    let level = c.args.self.now.level in
    let a = c.args.to.now in
    let ds = decls c.args.ds.now in
    let ss = stmts c.args.ss.now in
    let es = images c.deref.result.now in
    let are = ap images c.deref.ensures.value ∙ c.in_ok-actuals.ensures in
    record {
      level = c.requires.level;
      ready = blocks.routines_ready s c.requires.ready.inner level ds ss es a c.requires.level are c.requires.ready;
      fits = blocks.routines_fit s c.requires.ready.inner level ds ss es a c.requires.level are c.requires.fits;
    }

pub block-ended-requires : goal.block-ended-requires
block-ended-requires g t c =
    let s = c.args.self.now.known.now in
    let level = c.args.self.now.level in
    let a = c.args.to.now in
    let r = c.routines.new.to in
    let ds = decls c.args.ds.now in
    let ss = stmts c.args.ss.now in
    let own = c.deref-2.result.now in
    let es = images own in
    let ats = c.deref-3.result.now in
    let same : c.deref.result.now ≡ own = c.deref.ensures.value ∙ sym c.deref-2.ensures.value in
    let are : es ≡ celled_in s ds ss = ap images c.deref-2.ensures.value ∙ c.in_ok-actuals.ensures in
    let placed : ats ≡ c.in_ok-places.places.items = c.deref-3.ensures.value in
    let E : List (Bor Expr) → List ℕ → Type 0 = λ l ps. EmitsRoutines s level a r (images l) ps in
    let routines = subst (E own) (sym placed) (subst (λ l. E l c.in_ok-places.places.items) same c.in_ok-places.ensures.code) in
    let inner = c.requires.ready.inner in
    let ready = blocks.ended_ready s inner level ds ss es a c.requires.level are ats r routines c.requires.fits c.requires.ready in
    let few = blocks.small_there (variables_in ds) (variables_in ds) ds es (celled_in s ds ss) refl are c.requires.few in
    let deep : 1 ≤ length own → level + 1 ≤ MOST_LEVEL = λ some. blocks.own_level s inner level c.requires.fits.0 ds ss c.requires.fits.2 es are (omega (arith, some, blocks.images_long own)) in
    let long : length ats ≡ length own = ap (λ (l : List ℕ). length l) placed ∙ c.in_ok-places.ensures.many ∙ ap (λ (l : List (Bor Expr)). length l) same in
    let within = subst (λ l. All (λ (at : ℕ). at < MOST_SEGMENT_SYLLABLES) l) (sym placed) c.in_ok-places.ensures.places in
    let at = blocks.ended_level s inner level ds ss es a c.requires.level are ats r routines c.requires.fits in
    search (rules, stmts'.the_lemmas, decls'.the_lemmas, bodies'.the_lemmas, at, ready, few, deep, long, within, c.requires.fits)

pub block-returns-clause-code : goal.block-returns-clause-code
block-returns-clause-code g t c =
    let s = c.args.self.now.known.now in
    let level = c.args.self.now.level in
    let a = c.args.to.now in
    let r = c.routines.new.to in
    let ds = decls c.args.ds.now in
    let ss = stmts c.args.ss.now in
    let own = c.deref-2.result.now in
    let es = images own in
    let ats = c.deref-3.result.now in
    let same : c.deref.result.now ≡ own = c.deref.ensures.value ∙ sym c.deref-2.ensures.value in
    let are : es ≡ celled_in s ds ss = ap images c.deref-2.ensures.value ∙ c.in_ok-actuals.ensures in
    let placed : ats ≡ c.in_ok-places.places.items = c.deref-3.ensures.value in
    let E : List (Bor Expr) → List ℕ → Type 0 = λ l ps. EmitsRoutines s level a r (images l) ps in
    let routines = subst (E own) (sym placed) (subst (λ l. E l c.in_ok-places.places.items) same c.in_ok-places.ensures.code) in
    let d = c.ended.new.to in
    let inner = c.requires.ready.inner in
    IfOk-weaker c.ended.result (λ begin. EmitsEnded s level r d ds ss es ats begin) (λ begin. EmitsBlock s level a d ds ss begin)
    (λ begin h. blocks.block_stands s inner level ds ss es a c.requires.level are ats r routines d begin h) c.ended.ensures.code

pub block-returns-clause-begin : goal.block-returns-clause-begin
block-returns-clause-begin g t c =
    let s = c.args.self.now.known.now in
    let r = c.routines.new.to in
    let d = c.ended.new.to in
    let es = images c.deref-2.result.now in
    IfOk-weaker c.ended.result (λ begin. EmitsEnded s c.args.self.now.level r d (decls c.args.ds.now) (stmts c.args.ss.now) es c.deref-3.result.now begin)
    (λ begin. begin < size d.out.operators) (λ begin h. h.within) c.ended.ensures.code

pub block-returns-clause-lines : goal.block-returns-clause-lines
block-returns-clause-lines g t c =
    on_ok_weaker c.ended.result (λ h. added.all_then_added c.args.to.now c.routines.new.to c.ended.new.to (stmts c.args.ss.now) c.in_ok-places.ensures.notes h) c.ended.ensures.lines

pub block_inside-returns-clause-code : goal.block_inside-returns-clause-code
block_inside-returns-clause-code g t c =
    blocks.inner_coded c.args.self.now.known.now (decls c.args.ds.now) (stmts c.args.ss.now) c.args.to.now c.block.new.to c.level.new.self c.level-2.new.self c.args.self.now.level c.in_ok-begin.begin c.requires.level.set
    c.in_ok-level.ensures.ok c.in_ok-level-2.ensures.ok c.in_ok-begin.ensures.code

pub block_inside-returns-clause-begin : goal.block_inside-returns-clause-begin
block_inside-returns-clause-begin g t c = omega (arith, c.in_ok-begin.ensures.begin, ap (λ (b : Built). size b.operators) c.in_ok-level-2.ensures.ok)

pub block_inside-returns-clause-lines : goal.block_inside-returns-clause-lines
block_inside-returns-clause-lines g t c = c.in_ok-begin.ensures.lines

pub inner_block-block_inside-requires : goal.inner_block-block_inside-requires
inner_block-block_inside-requires g t c =
    let s = c.args.self.now.known.now in
    let a = c.args.to.now in
    let b : Draft = record a { out = c.append_branch.new.out } in
    let over = c.in_ok-over.ensures in
    let ready = blocks.block_ready s (decls c.args.ds.now) (stmts c.args.ss.now) a b over.level over.size refl c.requires.ready in
    search (rules, stmts'.the_lemmas, decls'.the_lemmas, bodies'.the_lemmas, ready, blocks.inside_fit s (decls c.args.ds.now) (stmts c.args.ss.now) a b over.level over.size c.requires.fits, at_same a b over.level c.requires.level)

pub inner_block-aim-requires : goal.inner_block-aim-requires
inner_block-aim-requires g t c =
    let a = c.args.to.now in
    let b : Draft = record a { out = c.append_branch.new.out } in
    let over = c.in_ok-over.ensures in
    blocks.over_lies c.args.self.now.known.now (decls c.args.ds.now) (stmts c.args.ss.now) a b over.level over.size c.in_ok-over.over over.place over.code c.block_inside.new.to c.in_ok-begin.begin
    c.in_ok-begin.ensures.code c.requires.fits

pub inner_block-append_entry-requires : goal.inner_block-append_entry-requires
inner_block-append_entry-requires g t c =
    let s = c.args.self.now.known.now in
    let ds = decls c.args.ds.now in
    let ss = stmts c.args.ss.now in
    let a = c.args.to.now in
    let b : Draft = record a { out = c.append_branch.new.out } in
    let f = c.block_inside.new.to in
    let d : Draft = record f { out = c.aim.new.out } in
    let over = c.in_ok-over.ensures in
    let begin = c.in_ok-begin.begin in
    let code = c.in_ok-begin.ensures.code in
    record {
      set = set_after a.out d.out (blocks.entry_level s ds ss a b over.level over.size c.in_ok-over.over over.place over.code f begin code d c.aim.ensures c.requires.fits) c.requires.ready.set;
      inner = blocks.entry_inner s ds ss a b over.level over.size c.in_ok-over.over over.place over.code f begin code d c.aim.ensures c.requires.fits c.args.self.now.level c.requires.level;
      most = c.requires.inner;
      segment = c.requires.ready.segment;
      place = blocks.entry_place s ds ss a b over.level over.size c.in_ok-over.over over.place over.code f begin code d c.aim.ensures c.requires.fits c.requires.ready c.in_ok-begin.ensures.begin;
      room = blocks.entry_room s ds ss a b over.level over.size c.in_ok-over.over over.place over.code f begin code d c.aim.ensures c.requires.fits c.requires.ready;
    }

pub inner_block-returns-clause-code : goal.inner_block-returns-clause-code
inner_block-returns-clause-code g t c =
    let a = c.args.to.now in
    let b : Draft = record a { out = c.append_branch.new.out } in
    let d : Draft = record c.block_inside.new.to { out = c.aim.new.out } in
    let e : Draft = record c.block_inside.new.to { out = c.append_entry.new.out } in
    let over = c.in_ok-over.ensures in
    on_ok_two c.append_entry.result
    (blocks.inner_stands c.args.self.now.known.now (decls c.args.ds.now) (stmts c.args.ss.now) a b over.level over.size c.in_ok-over.over over.place over.code c.block_inside.new.to c.in_ok-begin.begin
    c.in_ok-begin.ensures.code d c.aim.ensures e refl refl refl refl refl refl)
    c.append_entry.ensures.code c.append_entry.ensures.size

pub inner_block-returns-clause-lines : goal.inner_block-returns-clause-lines
inner_block-returns-clause-lines g t c = on_ok_weaker c.append_entry.result (λ h. c.in_ok-begin.ensures.lines) c.append_entry.ensures.size

pub stmt-inner_block-requires : goal.stmt-inner_block-requires
stmt-inner_block-requires g t c κs within =
    let s = c.args.self.now.known.now in
    let a = c.args.to.now in
    let x = c.args.s.now in
    let b = c.in-Block.b in
    let ss = c.deref-else-is_empty.result.now in
    let ds = c.deref-else-is_empty-2.result.now in
    let same = c.deref-else-is_empty.ensures.value ∙ c.items-else-is_empty.ensures in
    let ds_are = c.deref-else-is_empty-2.ensures.value ∙ c.items-else-is_empty-2.ensures in
    let n : c.items.result.now.len ≡ length b.decls = omega (arith, c.items.result.now.ok.0, ap length c.items.ensures) in
    let ready = blocked.inside_ready s a x b ss ds c.is_empty.result c.items.result.now.len c.in-Block.is same ds_are c.is_empty.ensures n c.if-is_empty.false c.requires.ready in
    let fit = blocked.inside_fits s a x b ss ds c.is_empty.result c.items.result.now.len c.in-Block.is same ds_are c.is_empty.ensures n c.if-is_empty.false c.requires.fits in
    let few = blocked.few_cells s a x b ss ds c.is_empty.result c.items.result.now.len c.in-Block.is same ds_are c.is_empty.ensures n c.if-is_empty.false c.requires.fits in
    let inner = blocked.inside_level s a x b ss ds c.is_empty.result c.items.result.now.len c.in-Block.is same ds_are c.is_empty.ensures n c.if-is_empty.false c.args.self.now.level c.requires.level c.requires.fits in
    (search (rules, stmts'.the_lemmas, decls'.the_lemmas, bodies'.the_lemmas), (within, (c.requires.level, (inner, (ready, (few, fit))))))

pub stmt-returns-else-is_empty-clause-code : goal.stmt-returns-else-is_empty-clause-code
stmt-returns-else-is_empty-clause-code g t c =
    let b = c.in-Block.b in
    let same = c.deref-else-is_empty.ensures.value ∙ c.items-else-is_empty.ensures in
    let ds_are = c.deref-else-is_empty-2.ensures.value ∙ c.items-else-is_empty-2.ensures in
    let n : c.items.result.now.len ≡ length b.decls = omega (arith, c.items.result.now.ok.0, ap length c.items.ensures) in
    on_ok_weaker c.inner_block.result
    (blocked.inner_emitted c.args.self.now.known.now c.args.to.now c.args.s.now b c.deref-else-is_empty.result.now c.deref-else-is_empty-2.result.now c.is_empty.result c.items.result.now.len c.in-Block.is
    same ds_are c.is_empty.ensures n c.if-is_empty.false c.inner_block.new.to)
    c.inner_block.ensures.code

pub stmt-returns-else-is_empty-clause-lines : goal.stmt-returns-else-is_empty-clause-lines
stmt-returns-else-is_empty-clause-lines g t c =
    let ss = c.deref-else-is_empty.result.now in
    on_ok_weaker c.inner_block.result
    (λ h. added.block_added c.args.to.now c.inner_block.new.to c.args.s.now c.in-Block.b ss c.in-Block.is (c.deref-else-is_empty.ensures.value ∙ c.items-else-is_empty.ensures) h)
    c.inner_block.ensures.lines

pub stmt-returns-then-is_empty-clause-code : goal.stmt-returns-then-is_empty-clause-code
stmt-returns-then-is_empty-clause-code g t c =
    let b = c.in-Block.b in
    let n : c.items.result.now.len ≡ length b.decls = omega (arith, c.items.result.now.ok.0, ap length c.items.ensures) in
    on_ok_weaker c.stmts.result
    (blocked.compound_emitted c.args.self.now.known.now c.args.to.now c.stmts.new.to c.args.s.now b c.deref.result.now c.is_empty.result c.items.result.now.len c.in-Block.is
    (c.deref.ensures.value ∙ c.items-then-is_empty.ensures) c.is_empty.ensures n c.if-is_empty.true)
    c.stmts.ensures.code

pub stmt-returns-then-is_empty-clause-lines : goal.stmt-returns-then-is_empty-clause-lines
stmt-returns-then-is_empty-clause-lines g t c =
    let ss = c.deref.result.now in
    on_ok_weaker c.stmts.result
    (λ h. added.block_added c.args.to.now c.stmts.new.to c.args.s.now c.in-Block.b ss c.in-Block.is (c.deref.ensures.value ∙ c.items-then-is_empty.ensures) h)
    c.stmts.ensures.lines

-- ---- a call

pub stmt-call-requires-clause-fits : goal.stmt-call-requires-clause-fits
stmt-call-requires-clause-fits g t c =
    let k = c.in-Call.c in
    matched.fit_as c.args.self.now.known.now c.args.to.now (stmt c.args.s.now) (tree.call_of (tree.called k.name (exprs k.actuals))) (shaped.call_as c.args.s.now k c.in-Call.is) c.requires.fits

pub stmt-call-requires-clause-room : goal.stmt-call-requires-clause-room
stmt-call-requires-clause-room g t c =
    let k = c.in-Call.c in
    matched.call_fits c.args.self.now.known.now c.args.to.now (stmt c.args.s.now) (call k) k.name (exprs k.actuals) (shaped.call_as c.args.s.now k c.in-Call.is) (call_is k) c.requires.ready

pub stmt-returns-in-Call-clause-code : goal.stmt-returns-in-Call-clause-code
stmt-returns-in-Call-clause-code g t c =
    let a = c.args.to.now in
    let k = c.in-Call.c in
    let b : Draft = record a { out = c.call.new.out } in
    on_ok_two c.call.result
    (matched.call_emitted c.args.self.now.known.now a b (stmt c.args.s.now) (call k) k.name (exprs k.actuals) (shaped.call_as c.args.s.now k c.in-Call.is) (call_is k) refl refl
    c.requires.ready.few)
    c.call.ensures.code c.call.ensures.size

pub stmt-returns-in-Call-clause-lines : goal.stmt-returns-in-Call-clause-lines
stmt-returns-in-Call-clause-lines g t c =
    let a = c.args.to.now in
    let k = c.in-Call.c in
    on_ok_weaker c.call.result
    (λ h. added.none_as a a (stmt c.args.s.now) (tree.call_of (tree.called k.name (exprs k.actuals))) (shaped.call_as c.args.s.now k c.in-Call.is) refl refl refl)
    c.call.ensures.size

-- ---- PROCESS

pub stmt-start-requires-clause-fits : goal.stmt-start-requires-clause-fits
stmt-start-requires-clause-fits g t c =
    let k = c.in-Process.c in
    let task = c.in-Process.task in
    matched.fit_as c.args.self.now.known.now c.args.to.now (stmt c.args.s.now) (tree.process (tree.called k.name (exprs k.actuals)) task) (shaped.process_as c.args.s.now k task c.in-Process.is) c.requires.fits

pub stmt-start-requires-clause-room : goal.stmt-start-requires-clause-room
stmt-start-requires-clause-room g t c =
    let k = c.in-Process.c in
    let task = c.in-Process.task in
    matched.start_room c.args.self.now.known.now c.args.to.now (stmt c.args.s.now) (call k) k.name (exprs k.actuals) task (shaped.process_as c.args.s.now k task c.in-Process.is) (call_is k) c.requires.ready

pub stmt-returns-in-Process-clause-code : goal.stmt-returns-in-Process-clause-code
stmt-returns-in-Process-clause-code g t c =
    let a = c.args.to.now in
    let k = c.in-Process.c in
    let task = c.in-Process.task in
    let b : Draft = record a { out = c.start.new.out } in
    on_ok_two c.start.result
    (matched.start_emitted c.args.self.now.known.now a b (stmt c.args.s.now) (call k) k.name (exprs k.actuals) task (shaped.process_as c.args.s.now k task c.in-Process.is) (call_is k) refl refl
    c.requires.ready.few)
    c.start.ensures.code c.start.ensures.size

pub stmt-returns-in-Process-clause-lines : goal.stmt-returns-in-Process-clause-lines
stmt-returns-in-Process-clause-lines g t c =
    let a = c.args.to.now in
    let k = c.in-Process.c in
    let task = c.in-Process.task in
    on_ok_weaker c.start.result
    (λ h. added.none_as a a (stmt c.args.s.now) (tree.process (tree.called k.name (exprs k.actuals)) task) (shaped.process_as c.args.s.now k task c.in-Process.is) refl refl refl)
    c.start.ensures.size

-- ---- GO TO, and statements on events

pub stmt-go_to-requires-clause-fits : goal.stmt-go_to-requires-clause-fits
stmt-go_to-requires-clause-fits g t c =
    let n = c.in-GoTo.n in
    matched.fit_as c.args.self.now.known.now c.args.to.now (stmt c.args.s.now) (tree.go_to n) (shaped.go_to_as c.args.s.now n c.in-GoTo.is) c.requires.fits

pub stmt-go_to-requires-clause-room : goal.stmt-go_to-requires-clause-room
stmt-go_to-requires-clause-room g t c =
    let n = c.in-GoTo.n in
    matched.go_to_room c.args.self.now.known.now c.args.to.now (stmt c.args.s.now) n (shaped.go_to_as c.args.s.now n c.in-GoTo.is) c.requires.ready

pub stmt-returns-in-GoTo-clause-code : goal.stmt-returns-in-GoTo-clause-code
stmt-returns-in-GoTo-clause-code g t c =
    let a = c.args.to.now in
    let n = c.in-GoTo.n in
    let b : Draft = record a { out = c.go_to.new.out } in
    on_ok_two c.go_to.result
    (matched.go_to_emitted c.args.self.now.known.now a b (stmt c.args.s.now) n (shaped.go_to_as c.args.s.now n c.in-GoTo.is) refl refl c.requires.ready.few)
    c.go_to.ensures.code c.go_to.ensures.size

pub stmt-returns-in-GoTo-clause-lines : goal.stmt-returns-in-GoTo-clause-lines
stmt-returns-in-GoTo-clause-lines g t c =
    let a = c.args.to.now in
    let n = c.in-GoTo.n in
    on_ok_weaker c.go_to.result
    (λ h. added.none_as a a (stmt c.args.s.now) (tree.go_to n) (shaped.go_to_as c.args.s.now n c.in-GoTo.is) refl refl refl)
    c.go_to.ensures.size

pub stmt-act-requires-clause-fits : goal.stmt-act-requires-clause-fits
stmt-act-requires-clause-fits g t c =
    let w = c.in-Event in
    matched.fit_as c.args.self.now.known.now c.args.to.now (stmt c.args.s.now) (tree.event w.act w.e) (shaped.event_as c.args.s.now w.act w.e w.is) c.requires.fits

pub stmt-act-requires-clause-room : goal.stmt-act-requires-clause-room
stmt-act-requires-clause-room g t c =
    let w = c.in-Event in
    matched.event_room c.args.self.now.known.now c.args.to.now (stmt c.args.s.now) w.act w.e (shaped.event_as c.args.s.now w.act w.e w.is) c.requires.ready

pub stmt-returns-in-Event-clause-code : goal.stmt-returns-in-Event-clause-code
stmt-returns-in-Event-clause-code g t c =
    let a = c.args.to.now in
    let w = c.in-Event in
    let b : Draft = record a { out = c.act.new.out } in
    on_ok_two c.act.result
    (matched.event_emitted c.args.self.now.known.now a b (stmt c.args.s.now) w.act w.e (shaped.event_as c.args.s.now w.act w.e w.is) refl refl c.requires.ready.few)
    c.act.ensures.code c.act.ensures.size

pub stmt-returns-in-Event-clause-lines : goal.stmt-returns-in-Event-clause-lines
stmt-returns-in-Event-clause-lines g t c =
    let a = c.args.to.now in
    let w = c.in-Event in
    on_ok_weaker c.act.result
    (λ h. added.none_as a a (stmt c.args.s.now) (tree.event w.act w.e) (shaped.event_as c.args.s.now w.act w.e w.is) refl refl refl)
    c.act.ensures.size

-- ---- the arms that go on in another function

pub stmt-returns-in-While-clause-code : goal.stmt-returns-in-While-clause-code
stmt-returns-in-While-clause-code g t c =
    let w = c.in-While in
    let p = c.deref-in-While.result.now in
    let shape = gathered.while_as c.args.s.now w.c w.b p w.is c.deref-in-While.ensures in
    on_ok_weaker c.while_loop.result (λ h. matched.emits_as c.args.self.now.known.now c.args.to.now c.while_loop.new.to (stmt c.args.s.now) (tree.while (expr w.c) (stmt p)) shape h) c.while_loop.ensures.code

pub stmt-returns-in-While-clause-lines : goal.stmt-returns-in-While-clause-lines
stmt-returns-in-While-clause-lines g t c =
    let w = c.in-While in
    let p = c.deref-in-While.result.now in
    let shape = gathered.while_as c.args.s.now w.c w.b p w.is c.deref-in-While.ensures in
    on_ok_weaker c.while_loop.result (λ h. added.added_as c.args.to.now c.while_loop.new.to (stmt c.args.s.now) (tree.while (expr w.c) (stmt p)) shape h) c.while_loop.ensures.lines

pub stmt-returns-in-Until-clause-code : goal.stmt-returns-in-Until-clause-code
stmt-returns-in-Until-clause-code g t c =
    let w = c.in-Until in
    let p = c.deref-in-Until.result.now in
    let shape = gathered.until_as c.args.s.now w.b w.c p w.is c.deref-in-Until.ensures in
    on_ok_weaker c.until_loop.result (λ h. matched.emits_as c.args.self.now.known.now c.args.to.now c.until_loop.new.to (stmt c.args.s.now) (tree.until (stmt p) (expr w.c)) shape h) c.until_loop.ensures.code

pub stmt-returns-in-Until-clause-lines : goal.stmt-returns-in-Until-clause-lines
stmt-returns-in-Until-clause-lines g t c =
    let w = c.in-Until in
    let p = c.deref-in-Until.result.now in
    let shape = gathered.until_as c.args.s.now w.b w.c p w.is c.deref-in-Until.ensures in
    on_ok_weaker c.until_loop.result (λ h. added.added_as c.args.to.now c.until_loop.new.to (stmt c.args.s.now) (tree.until (stmt p) (expr w.c)) shape h) c.until_loop.ensures.lines

pub stmt-returns-in-For-clause-lines : goal.stmt-returns-in-For-clause-lines
stmt-returns-in-For-clause-lines g t c =
    let w = c.in-For in
    let p = c.deref-in-For.result.now in
    let shape = shaped.for_as c.args.s.now p w.v w.a w.s w.l w.b w.is c.deref-in-For.ensures in
    on_ok_weaker c.for_loop.result (λ h. added.added_as c.args.to.now c.for_loop.new.to (stmt c.args.s.now) (tree.for w.v (expr w.a) (expr w.s) (expr w.l) (stmt p)) shape h) c.for_loop.ensures.lines

pub stmt-returns-in-Thru-clause-code : goal.stmt-returns-in-Thru-clause-code
stmt-returns-in-Thru-clause-code g t c =
    let w = c.in-Thru in
    let p = c.deref-in-Thru.result.now in
    let shape = gathered.thru_as c.args.s.now w.e w.b p w.is c.deref-in-Thru.ensures in
    on_ok_weaker c.thru_loop.result (λ h. matched.emits_as c.args.self.now.known.now c.args.to.now c.thru_loop.new.to (stmt c.args.s.now) (tree.thru (expr w.e) (stmt p)) shape h) c.thru_loop.ensures.code

pub stmt-returns-in-Thru-clause-lines : goal.stmt-returns-in-Thru-clause-lines
stmt-returns-in-Thru-clause-lines g t c =
    let w = c.in-Thru in
    let p = c.deref-in-Thru.result.now in
    let shape = gathered.thru_as c.args.s.now w.e w.b p w.is c.deref-in-Thru.ensures in
    on_ok_weaker c.thru_loop.result (λ h. added.added_as c.args.to.now c.thru_loop.new.to (stmt c.args.s.now) (tree.thru (expr w.e) (stmt p)) shape h) c.thru_loop.ensures.lines

pub stmt-returns-in-Case-clause-code : goal.stmt-returns-in-Case-clause-code
stmt-returns-in-Case-clause-code g t c =
    let w = c.in-Case in
    let p = c.deref-in-Case.result.now in
    let shape = gathered.case_as c.args.s.now w.e w.ss p w.is (c.deref-in-Case.ensures.value ∙ c.items-in-Case.ensures) in
    on_ok_weaker c.case.result (λ h. matched.emits_as c.args.self.now.known.now c.args.to.now c.case.new.to (stmt c.args.s.now) (tree.case (expr w.e) (stmts p)) shape h) c.case.ensures.code

pub stmt-returns-in-Case-clause-lines : goal.stmt-returns-in-Case-clause-lines
stmt-returns-in-Case-clause-lines g t c =
    let w = c.in-Case in
    let p = c.deref-in-Case.result.now in
    let shape = gathered.case_as c.args.s.now w.e w.ss p w.is (c.deref-in-Case.ensures.value ∙ c.items-in-Case.ensures) in
    on_ok_weaker c.case.result (λ h. added.added_as c.args.to.now c.case.new.to (stmt c.args.s.now) (tree.case (expr w.e) (stmts p)) shape h) c.case.ensures.lines

pub stmt-returns-in-Label-clause-code : goal.stmt-returns-in-Label-clause-code
stmt-returns-in-Label-clause-code g t c =
    let w = c.in-Label in
    let p = c.deref-in-Label.result.now in
    let shape = shaped.label_as c.args.s.now p w.n w.s w.is c.deref-in-Label.ensures in
    on_ok_weaker c.labelled.result (λ h. matched.emits_as c.args.self.now.known.now c.args.to.now c.labelled.new.to (stmt c.args.s.now) (tree.label w.n (stmt p)) shape h) c.labelled.ensures.code

pub stmt-returns-in-Label-clause-lines : goal.stmt-returns-in-Label-clause-lines
stmt-returns-in-Label-clause-lines g t c =
    let w = c.in-Label in
    let p = c.deref-in-Label.result.now in
    let shape = shaped.label_as c.args.s.now p w.n w.s w.is c.deref-in-Label.ensures in
    on_ok_weaker c.labelled.result (λ h. added.added_as c.args.to.now c.labelled.new.to (stmt c.args.s.now) (tree.label w.n (stmt p)) shape h) c.labelled.ensures.lines

pub stmt-returns-in-None-clause-code : goal.stmt-returns-in-None-clause-code
stmt-returns-in-None-clause-code g t c =
    let w = c.in-If in
    let p = c.deref-in-None.result.now in
    let shape = gathered.if_then_as c.args.s.now w.c w.x w.other p w.is c.in-None.is c.deref-in-None.ensures in
    on_ok_weaker c.if_then.result (λ h. matched.emits_as c.args.self.now.known.now c.args.to.now c.if_then.new.to (stmt c.args.s.now) (tree.if_then (expr w.c) (stmt p)) shape h) c.if_then.ensures.code

pub stmt-returns-in-None-clause-lines : goal.stmt-returns-in-None-clause-lines
stmt-returns-in-None-clause-lines g t c =
    let w = c.in-If in
    let p = c.deref-in-None.result.now in
    let shape = gathered.if_then_as c.args.s.now w.c w.x w.other p w.is c.in-None.is c.deref-in-None.ensures in
    on_ok_weaker c.if_then.result (λ h. added.added_as c.args.to.now c.if_then.new.to (stmt c.args.s.now) (tree.if_then (expr w.c) (stmt p)) shape h) c.if_then.ensures.lines

pub stmt-while_loop-requires : goal.stmt-while_loop-requires
stmt-while_loop-requires g t c κs within =
    let w = c.in-While in
    let p = c.deref-in-While.result.now in
    let s = c.args.self.now.known.now in
    let a = c.args.to.now in
    let shape = gathered.while_as c.args.s.now w.c w.b p w.is c.deref-in-While.ensures in
    let q = tree.while (expr w.c) (stmt p) in
    (search (rules, stmts'.the_lemmas, decls'.the_lemmas, bodies'.the_lemmas), (within, (c.requires.level, (matched.ready_as s a (stmt c.args.s.now) q shape c.requires.ready, matched.fit_as s a (stmt c.args.s.now) q shape c.requires.fits))))

pub stmt-until_loop-requires : goal.stmt-until_loop-requires
stmt-until_loop-requires g t c κs within =
    let w = c.in-Until in
    let p = c.deref-in-Until.result.now in
    let s = c.args.self.now.known.now in
    let a = c.args.to.now in
    let shape = gathered.until_as c.args.s.now w.b w.c p w.is c.deref-in-Until.ensures in
    let q = tree.until (stmt p) (expr w.c) in
    (search (rules, stmts'.the_lemmas, decls'.the_lemmas, bodies'.the_lemmas), (within, (c.requires.level, (matched.ready_as s a (stmt c.args.s.now) q shape c.requires.ready, matched.fit_as s a (stmt c.args.s.now) q shape c.requires.fits))))

pub stmt-for_loop-requires : goal.stmt-for_loop-requires
stmt-for_loop-requires g t c κs within =
    let w = c.in-For in
    let p = c.deref-in-For.result.now in
    let s = c.args.self.now.known.now in
    let a = c.args.to.now in
    let shape = shaped.for_as c.args.s.now p w.v w.a w.s w.l w.b w.is c.deref-in-For.ensures in
    let q = tree.for w.v (expr w.a) (expr w.s) (expr w.l) (stmt p) in
    (search (rules, stmts'.the_lemmas, decls'.the_lemmas, bodies'.the_lemmas), (within, (c.requires.level, (matched.ready_as s a (stmt c.args.s.now) q shape c.requires.ready, matched.fit_as s a (stmt c.args.s.now) q shape c.requires.fits))))

pub stmt-thru_loop-requires : goal.stmt-thru_loop-requires
stmt-thru_loop-requires g t c κs within =
    let w = c.in-Thru in
    let p = c.deref-in-Thru.result.now in
    let s = c.args.self.now.known.now in
    let a = c.args.to.now in
    let shape = gathered.thru_as c.args.s.now w.e w.b p w.is c.deref-in-Thru.ensures in
    let q = tree.thru (expr w.e) (stmt p) in
    (search (rules, stmts'.the_lemmas, decls'.the_lemmas, bodies'.the_lemmas), (within, (c.requires.level, (matched.ready_as s a (stmt c.args.s.now) q shape c.requires.ready, matched.fit_as s a (stmt c.args.s.now) q shape c.requires.fits))))

pub stmt-case-requires : goal.stmt-case-requires
stmt-case-requires g t c κs within =
    let w = c.in-Case in
    let p = c.deref-in-Case.result.now in
    let s = c.args.self.now.known.now in
    let a = c.args.to.now in
    let shape = gathered.case_as c.args.s.now w.e w.ss p w.is (c.deref-in-Case.ensures.value ∙ c.items-in-Case.ensures) in
    let q = tree.case (expr w.e) (stmts p) in
    (search (rules, stmts'.the_lemmas, decls'.the_lemmas, bodies'.the_lemmas), (within, (c.requires.level, (matched.ready_as s a (stmt c.args.s.now) q shape c.requires.ready, matched.fit_as s a (stmt c.args.s.now) q shape c.requires.fits))))

pub stmt-labelled-requires : goal.stmt-labelled-requires
stmt-labelled-requires g t c κs within =
    let w = c.in-Label in
    let p = c.deref-in-Label.result.now in
    let s = c.args.self.now.known.now in
    let a = c.args.to.now in
    let shape = shaped.label_as c.args.s.now p w.n w.s w.is c.deref-in-Label.ensures in
    let q = tree.label w.n (stmt p) in
    (search (rules, stmts'.the_lemmas, decls'.the_lemmas, bodies'.the_lemmas), (within, (c.requires.level, (matched.ready_as s a (stmt c.args.s.now) q shape c.requires.ready, matched.fit_as s a (stmt c.args.s.now) q shape c.requires.fits))))

pub stmt-if_then-requires : goal.stmt-if_then-requires
stmt-if_then-requires g t c κs within =
    let w = c.in-If in
    let p = c.deref-in-None.result.now in
    let s = c.args.self.now.known.now in
    let a = c.args.to.now in
    let shape = gathered.if_then_as c.args.s.now w.c w.x w.other p w.is c.in-None.is c.deref-in-None.ensures in
    let q = tree.if_then (expr w.c) (stmt p) in
    (search (rules, stmts'.the_lemmas, decls'.the_lemmas, bodies'.the_lemmas), (within, (c.requires.level, (matched.ready_as s a (stmt c.args.s.now) q shape c.requires.ready, matched.fit_as s a (stmt c.args.s.now) q shape c.requires.fits))))

pub stmt-then_part-requires : goal.stmt-then_part-requires
stmt-then_part-requires g t c κs within =
    let w = c.in-If in
    let p = c.deref-in-Some.result.now in
    let y = c.in-Some.y in
    let s = c.args.self.now.known.now in
    let a = c.args.to.now in
    let shape = shaped.if_else_as c.args.s.now p y.value w.c w.x w.other y w.is c.in-Some.is c.deref-in-Some.ensures refl in
    let q = tree.if_else (expr w.c) (stmt p) (stmt y.value) in
    let fit = matched.fit_as s a (stmt c.args.s.now) q shape c.requires.fits in
    let ready = matched.ready_less s a (stmt_syllables s q) (expr_syllables s (expr w.c) + stmt_syllables s (stmt p) + 6) (matched.ready_as s a (stmt c.args.s.now) q shape c.requires.ready) (omega arith) in
    (search (rules, stmts'.the_lemmas, decls'.the_lemmas, bodies'.the_lemmas), (within, (c.requires.level, (ready, (fit.0, fit.1.0, fit.1.1)))))

pub stmt-stmts-requires : goal.stmt-stmts-requires
stmt-stmts-requires g t c κs within =
    let s = c.args.self.now.known.now in
    let a = c.args.to.now in
    let x = c.args.s.now in
    let b = c.in-Block.b in
    let ss = c.deref.result.now in
    let same = c.deref.ensures.value ∙ c.items-then-is_empty.ensures in
    let n : c.items.result.now.len ≡ length b.decls = omega (arith, c.items.result.now.ok.0, ap length c.items.ensures) in
    let ready = blocked.compound_ready s a x b ss c.is_empty.result c.items.result.now.len c.in-Block.is same c.is_empty.ensures n c.if-is_empty.true c.requires.ready in
    let fit = blocked.compound_fits s a x b ss c.is_empty.result c.items.result.now.len c.in-Block.is same c.is_empty.ensures n c.if-is_empty.true c.requires.fits in
    (search (rules, stmts'.the_lemmas, decls'.the_lemmas, bodies'.the_lemmas), (within, (c.requires.level, (ready, fit))))

-- ---- calls with what was given, and a block one level further in

pub loop_body-stmt-requires : goal.loop_body-stmt-requires
loop_body-stmt-requires g t c κs within = (search (rules, stmts'.the_lemmas, decls'.the_lemmas, bodies'.the_lemmas), (within, (c.requires.level, (c.requires.ready, c.requires.fits))))

pub until_loop-loop_body-requires : goal.until_loop-loop_body-requires
until_loop-loop_body-requires g t c κs within =
    let s = c.args.self.now.known.now in
    let x = stmt c.args.b.now in
    let fits = c.requires.fits in
    let ready = matched.ready_less s c.args.to.now (stmt_syllables s (tree.until x (expr c.args.c.now))) (stmt_syllables s x) c.requires.ready (omega arith) in
    (search (rules, stmts'.the_lemmas, decls'.the_lemmas, bodies'.the_lemmas), (within, (c.requires.level, (ready, (fits.0, fits.1.0)))))

pub block_inside-block-requires : goal.block_inside-block-requires
block_inside-block-requires g t c κs within =
    let s = c.args.self.now.known.now in
    let a = c.args.to.now in
    let level = c.args.self.now.level in
    let ds = decls c.args.ds.now in
    let ss = stmts c.args.ss.now in
    let set = c.in_ok-level.ensures.ok in
    let ready = blocked.inner_ready s level a c.level.new.self set (block_syllables s ds ss) c.requires.ready in
    (search (rules, stmts'.the_lemmas, decls'.the_lemmas, bodies'.the_lemmas), (within, (blocked.inner_at s level a c.level.new.self set c.requires.level, (ready, (c.requires.few, blocked.inner_fits s level a c.level.new.self set ds ss c.requires.level c.requires.fits)))))
