-- From the start of its code a statement comes to where the machine stands for it, and for what comes after it.
use Rattle.std.proofs.Common.{◌≡◌, refl, sym, ap, subst, ℕ, ◌+◌, arith, List, [], ◌∷◌, length, Option, Some, None}
use Rattle.std.specs.Prelude.{pos}
use Rattle.algol_tree.specs.declared.tree.Kind.TheVariants as types
use Rattle.b67_deeds.specs.declared.EventAct.{EventAct}
use Rattle.algol_tree.specs.declared.tree.EventName.{EventName}
use Rattle.algol_tree.specs.declared.tree.Named.{Named}
use Rattle.algol_tree.specs.declared.token.Spot.{Spot}
use Rattle.algol_tree.specs.declared.tree.PhraseText.{PhraseText}
use Rattle.algol_tree.specs.Plain as tree
use Rattle.algol_tree.specs.Plain.{PExpr, PExprs, PStmt, PStmts, PDecl, PDecls}
use Rattle.algol_tree.specs.Blocks.{block_numbered}
use Rattle.algol_tree.specs.Scopes.{Scopes}
use Rattle.algol_meaning.specs.Value.{number}
use Rattle.algol_meaning.specs.Rest as rests
use Rattle.algol_meaning.specs.Rest.{HalfGiven, Item, Rest}
use Rattle.algol_meaning.specs.Settle.{sorts_of, block_of_sort, settle, settle_actuals}
use Rattle.algol_meaning.specs.Statements.{items, checked_of, statement_called_of, prepared_of, settle_stmt, settle_stmts}
use Rattle.b67_ops.specs.declared.intrinsic.Intrinsic.TheVariants.{Write, Select, Start, GoTo}
use Rattle.b67_segment.specs.Operators.{Placed}
use Rattle.b67_templates.specs.Contexts.{Context}
use Rattle.b67_templates.specs.Fragments.{FragmentGoes, stop, over, code_at}
use Rattle.b67_templates.specs.Cells.{parameter_wants}
use Rattle.b67_templates.specs.Labels.{GoToAt}
use Rattle.b67_deeds.specs.Deeds as deeds
use Rattle.b67_ops.specs.Intrinsics.{intrinsic_of}
use Rattle.b67_templates.specs.Events.{OnEventsAt, TaskAt}
use Rattle.b67_templates.specs.Code.{FormatIs, CallStmtAt, StartAt, StmtAt, StmtsAt, WriteAt}
use Rattle.b67_templates.specs.Depths.{depth, stmt_depth, stmts_depth}
use Rattle.b67_standing.specs.Stepping.{Slot, operand, reference, intrinsic, control, mark, SlotsHaveRoom, push_number, push_reference, call, announce, summon, StepsLead, there, first}
use Rattle.b67_standing.specs.Standing.{pend, call_begun, start_begun, IsTask, SlotsFollow, WhileAt, ComesTo}
use Rattle.b67_standing.proofs.OnEvents.{all_named, events_named, events_there}
use Rattle.b67_standing.proofs.Leading.{depth_positive, pend_length, leads_by, follows_before, follows_run}
use Rattle.b67_standing.proofs.Asking.{deed_asks, going_asks, enters_asks}
use Rattle.b67_standing.proofs.Actuals.{ComesFilled}
use Rattle.b67_standing.proofs.Settling.{settle_at, actuals_at}
use Rattle.b67_standing.proofs.Rests.{after_rest, stays_here, follows_turn, turning_at, assign_at, chosen_stands, looped_stands, checked_stands, selected_stands, called_stands, prepared_stands, line_at}
use Rattle.b67_standing.proofs.Elements.{element_assign_at}
use Rattle.b67_standing.proofs.Loops.{Performs, counted_stands}

pub pend_items : (ss : PStmts) (k : List Item) → pend (items ss k) ≡ pend k
pend_items tree.no_stmts k = refl
pend_items (tree.stmts s ss) k = pend_items ss k

module _ (sc : Scopes) (context : Context) (ps : List Placed) (level most : ℕ) where
  abbrev Coming : Rest → ℕ → List Slot → Type 0
  Coming = ComesTo sc context ps level most

  abbrev Following : List Item → ℕ → Type 0
  Following = SlotsFollow sc context ps level most

  abbrev Doing : PStmt → ℕ → ℕ → Type 0
  Doing = Performs sc context ps level most

  -- ---- loops with a test

  pub while_body : (c : PExpr) (b : PStmt) (k : List Item) (f m t u : ℕ) (w : WhileAt sc context ps level most c b f m t u) → FragmentGoes ps level t u → Following k u →
      SlotsHaveRoom most (pend k) (depth c + stmt_depth b) → Doing b w.0 w.1 →
      Coming (settle_stmt sc b (rests.turn ∷ rests.run (tree.while c b) ∷ k) (rests.turning (rests.run (tree.while c b) ∷ k))) w.0 (pend k)
  while_body c b k f m t u w g follows room p =
      let again = follows_run sc context ps level most (tree.while c b) k f t u (m, w.0, w.1, w.2, w.3, w.4, w.5) g room follows in
      p (rests.turn ∷ rests.run (tree.while c b) ∷ k) (rests.turning (rests.run (tree.while c b) ∷ k))
      (follows_turn sc context ps level most (rests.run (tree.while c b) ∷ k) w.1 f t w.5 again) (omega (arith, room))
      (turning_at sc context ps level most (rests.run (tree.while c b) ∷ k) w.1 f t w.5 again)

  -- ---- lines

  write_at : (n : Named) (spot : Spot) (phrases : List PhraseText) (es : PExprs) (f t u : ℕ) → WriteAt sc context ps level phrases es f t → FragmentGoes ps level t u →
      Doing (tree.write n spot phrases es) f u
  write_at n spot phrases es f t u h g k r follows room c =
      after_rest sc context ps level most
      (first (call Write h.intrinsic (omega (arith, room))) (first (push_number (pos h.format) h.number (omega (arith, room))) there))
      (line_at sc context ps level most es phrases k h.format h.numbered h.valued t h.items h.enter (h.number).whole (follows_before sc context ps level most k g follows) []
      (subst (λ z. FormatIs sc context ps level h.format phrases z) (omega arith) h.is) tt (omega (arith, room)))

  -- ---- events and labels

  acted_at : (act : EventAct) (e : EventName) (f t u : ℕ) → OnEventsAt sc context ps level (intrinsic_of (deeds.acts act)) (e.name ∷ []) f t → FragmentGoes ps level t u →
      Doing (tree.event act e) f u
  acted_at act e f t u h g k r follows room c =
      let one = e.name ∷ [] in
      after_rest sc context ps level most (events_named sc context ps level most (deeds.acts act) one f t h (pend k) (omega (arith, room)))
      (stays_here sc context ps level most h.referred (all_named sc context ps level most (deeds.acts act) one f t h (pend k)) (rests.acting act e.name k) (deed_asks (deeds.acts act) one)
      (t, events_there sc context ps level most (deeds.acts act) one f t h (pend k) (omega arith, omega arith), follows_before sc context ps level most k g follows))

  -- what waits is dropped
  gone_at : (n : Named) (f t u : ℕ) → GoToAt sc context ps level n f t → Doing (tree.go_to n) f u
  gone_at n f t u h k r follows room c =
      let begun = intrinsic GoTo ∷ mark ∷ pend k in
      let leveled = operand (number (pos h.target)) ∷ begun in
      let segmented = operand (number (pos h.segment)) ∷ leveled in
      after_rest sc context ps level most
      (first (call GoTo h.intrinsic (omega (arith, room))) (first (push_number (pos h.target) h.level_stands (omega (arith, room)))
      (first (push_number (pos h.segment) h.segment_stands (omega (arith, room))) (first (push_number (pos h.entry) h.entry_stands (omega (arith, room))) there))))
      (stays_here sc context ps level most h.placed (operand (number (pos h.entry)) ∷ segmented) (rests.going n) (going_asks n) (
        t,
        pend k,
        record {
          target = h.target;
          segment = h.segment;
          entry = h.entry;
          label = h.label;
          level_whole = (h.level_stands).whole;
          segment_whole = (h.segment_stands).whole;
          entry_whole = (h.entry_stands).whole;
          lies = refl;
          stands = h.enter;
        },
      ))

  -- ---- inner blocks

  -- over the block's code to its entry, which its control word and a mark announce
  inner_at : (spot : Spot) (d : PDecl) (ds : PDecls) (ss : PStmts) (f t u : ℕ) → StmtAt sc context ps level (tree.block (tree.body spot (tree.decls d ds) ss)) f t u →
      FragmentGoes ps level t u → Doing (tree.block (tree.body spot (tree.decls d ds) ss)) f u
  inner_at spot d ds ss f t u h g k r follows room c =
      let e = h.4 in
      let word = code_at context.segment h.1 (level + 1) in
      after_rest sc context ps level most (leads_by sc context ps level most h.2)
      (after_rest sc context ps level most (first (announce h.1 e (omega (arith, room))) there)
      (stays_here sc context ps level most e.named (control word ∷ mark ∷ pend k) (rests.entering_block (tree.body spot (tree.decls d ds) ss) k)
      (enters_asks (tree.body spot (tree.decls d ds) ss)) (
        t,
        record { begin = h.1; fits = e.fits; code = h.3; shallow = omega (arith, room); lies = refl; stands = e.enter },
        follows_before sc context ps level most k g follows,
      )))

  -- ---- calls

  -- a mark, the reference of the procedure's control word, the actuals, after which it is entered
  call_at : (n : Named) (es : PExprs) (f t u : ℕ) → CallStmtAt sc context ps level n es f t → FragmentGoes ps level t u → Doing (tree.call_of (tree.called n es)) f u
  call_at n es f t u h g k r follows room c =
      let entry = h.2 in
      let b = entry.2 in
      let settled : ℕ → HalfGiven = λ z. settle_actuals sc es (sorts_of ((block_numbered sc.blocks z).parameters)) [] in
      let begun = call_begun b.couple (pend k) in
      let filled : ComesFilled sc context ps level most (parameter_wants sc h.0) (settled h.0) entry.0 begun begun entry.1 =
      actuals_at sc context ps level most es (sorts_of ((block_numbered sc.blocks h.0).parameters)) (parameter_wants sc h.0) (parameter_wants sc h.0) entry.0 entry.1 begun entry.3 [] [] refl tt
      (omega (arith, room)) in
      subst (λ z. Coming (statement_called_of n (settled z) k) f (pend k)) (sym (ap block_of_sort (b.procedure).sort_is))
      (after_rest sc context ps level most (first (summon n h.0 b (omega (arith, room))) there)
      (after_rest sc context ps level most filled.leads
      (called_stands sc context ps level most n h.0 b.couple (settled h.0) k filled.at filled.with_slots entry.1 h.1 t b.procedure filled.fills entry.4 h.3
      (follows_before sc context ps level most k g follows) (omega (arith, room)))))

  -- ---- processes

  -- by private operators the task comes to lie on the others
  record Tasked (task : Option Named) (from to : ℕ) (below : List Slot) : Type 0 where
    tasked : Slot
    is : IsTask sc context task tasked
    leads : StepsLead sc context ps level most from below to (tasked ∷ below)

  tasked_at : (task : Option Named) (from to : ℕ) (below : List Slot) → TaskAt sc context ps level task from to → SlotsHaveRoom most below 1 → Tasked task from to below
  tasked_at None from to below h room =
      record { tasked = operand (number (pos 0)); is = refl; leads = first (push_number (pos 0) h room) there }
  tasked_at (Some n) from to below h room =
      record { tasked = reference h.0; is = (h.0, h.1, refl); leads = first (push_reference h.0 h.2 room) there }

  -- a mark, the references of the intrinsic and of the procedure's control word, the task, the actuals, after which the process is started
  process_at : (n : Named) (es : PExprs) (task : Option Named) (f t u : ℕ) → StartAt sc context ps level n es task f t → FragmentGoes ps level t u →
      Doing (tree.process (tree.called n es) task) f u
  process_at n es task f t u h g k r follows room c =
      let b = h.3 in
      let called = reference b.couple ∷ intrinsic Start ∷ mark ∷ pend k in
      let d = tasked_at task b.referred h.1 called b.tasked (omega (arith, room)) in
      let begun = start_begun b.couple d.tasked (pend k) in
      let settled : ℕ → HalfGiven = λ z. settle_actuals sc es (sorts_of ((block_numbered sc.blocks z).parameters)) [] in
      let filled : ComesFilled sc context ps level most (parameter_wants sc h.0) (settled h.0) h.1 begun begun h.2 =
      actuals_at sc context ps level most es (sorts_of ((block_numbered sc.blocks h.0).parameters)) (parameter_wants sc h.0) (parameter_wants sc h.0) h.1 h.2 begun h.4 [] [] refl tt
      (omega (arith, room)) in
      subst (λ z. Coming (prepared_of n (settled z) task k) f (pend k)) (sym (ap block_of_sort (b.procedure).sort_is))
      (after_rest sc context ps level most (first (call Start b.intrinsic (omega (arith, room))) (first (push_reference b.couple b.reference (omega (arith, room))) d.leads))
      (after_rest sc context ps level most filled.leads
      (prepared_stands sc context ps level most n task h.0 b.couple d.tasked (settled h.0) k filled.at filled.with_slots h.2 t b.procedure b.untyped d.is filled.fills h.5
      (follows_before sc context ps level most k g follows))))

  -- ---- all statements

  pub items_follow : (ss : PStmts) (k : List Item) (f t u : ℕ) → StmtsAt sc context ps level ss f t u → FragmentGoes ps level t u → Following k u → SlotsHaveRoom most (pend k) (stmts_depth ss) →
      Following (items ss k) f
  items_follow tree.no_stmts k f t u h g follows room = subst (Following k) (sym h) (follows_before sc context ps level most k g follows)
  items_follow (tree.stmts s tree.no_stmts) k f t u h g follows room = follows_run sc context ps level most s k f t u h g (omega (arith, room)) follows
  items_follow (tree.stmts s (tree.stmts s' ss)) k f t u h g follows room =
      let deep : SlotsHaveRoom most (pend (items (tree.stmts s' ss) k)) (stmt_depth s) = omega (arith, room, ap length (pend_items (tree.stmts s' ss) k)) in
      follows_run sc context ps level most s (items (tree.stmts s' ss) k) f h.0 h.0 h.1 stop deep
      (items_follow (tree.stmts s' ss) k h.0 t u h.2 g follows (omega (arith, room)))

  abbrev DoingAll : PStmts → ℕ → ℕ → Type 0
  DoingAll ss f u =
      (k : List Item) (r : Rest) → Following k u → SlotsHaveRoom most (pend k) (stmts_depth ss) → Coming r u (pend k) → Coming (settle_stmts sc ss k r) f (pend k)

  mutual
    pub stmt_at : (s : PStmt) (f t u : ℕ) → StmtAt sc context ps level s f t u → FragmentGoes ps level t u → Doing s f u
    stmt_at tree.empty f t u h g k r follows room c = after_rest sc context ps level most (leads_by sc context ps level most (subst (λ z. FragmentGoes ps level z u) (sym h) g)) c
    stmt_at (tree.assign (tree.subscripted n tree.none) e) f t u h g k r follows room c =
        assign_at sc context ps level most n e f t k h (follows_before sc context ps level most k g follows) (omega (arith, room))
    stmt_at (tree.assign (tree.subscripted n (tree.more i is)) e) f t u h g k r follows room c =
        element_assign_at sc context ps level most n i is e f t k h (follows_before sc context ps level most k g follows) (omega (arith, room))
    stmt_at (tree.call_of (tree.called n es)) f t u h g k r follows room c = call_at n es f t u h g k r follows room c
    stmt_at (tree.block (tree.body spot tree.no_decls ss)) f t u h g k r follows room c = stmts_at ss f t u h g k r follows room c
    stmt_at (tree.block (tree.body spot (tree.decls d ds) ss)) f t u h g k r follows room c = inner_at spot d ds ss f t u h g k r follows room c
    stmt_at (tree.if_then e x) f t u h g k r follows room c =
        let d = settle_at sc context ps level most types.Truth e f h.0 h.0 h.2 stop (pend k) (omega (arith, room)) in
        after_rest sc context ps level most d.leads
        (chosen_stands sc context ps level most (settle sc e) x tree.empty k (settle_stmt sc x k r) r d.at d.with_slots h.0 h.1 t u u u d.shows h.3 h.4 g refl stop follows
        (omega (arith, room)) (stmt_at x h.1 t u h.4 g k r follows (omega (arith, room)) c) c)
    stmt_at (tree.if_else e x y) f t u h g k r follows room c =
        let d = settle_at sc context ps level most types.Truth e f h.0 h.0 h.4 stop (pend k) (omega (arith, room)) in
        let out = over h.3 h.7 stop in
        after_rest sc context ps level most d.leads
        (chosen_stands sc context ps level most (settle sc e) x y k (settle_stmt sc x k r) (settle_stmt sc y k r) d.at d.with_slots h.0 h.1 h.2 h.3 t u d.shows h.5 h.6 out h.8 g follows
        (omega (arith, room)) (stmt_at x h.1 h.2 u h.6 out k r follows (omega (arith, room)) c) (stmt_at y h.3 t u h.8 g k r follows (omega (arith, room)) c))
    stmt_at (tree.while e b) f t u h g k r follows room c =
        let d = settle_at sc context ps level most types.Truth e f h.0 h.0 h.3 stop (pend k) (omega (arith, room)) in
        let w : WhileAt sc context ps level most e b f h.0 t u = (h.1, h.2, h.3, h.4, h.5, h.6) in
        after_rest sc context ps level most d.leads
        (looped_stands sc context ps level most (settle sc e) e b k (settle_stmt sc b (rests.turn ∷ rests.run (tree.while e b) ∷ k) (rests.turning (rests.run (tree.while e b) ∷ k))) r
        d.at d.with_slots f h.0 t u d.shows w g follows room (while_body e b k f h.0 t u w g follows room (stmt_at b h.1 h.2 h.2 h.5 stop)) c)
    stmt_at (tree.until b e) f t u h g k r follows room c =
        let w = h.2 in
        let d = settle_at sc context ps level most types.Truth e h.0 w.0 w.0 w.2 stop (pend k) (omega (arith, room)) in
        stmt_at b f h.0 h.0 h.1 stop (rests.check b e ∷ k) (checked_of (settle sc e) b e k r)
        (record { at = (h.0, f, t, u, stop, h.1, w, g, follows.at); shallow = (omega (arith, room, pend_length k), follows.shallow); counts = follows.counts }) (omega (arith, room))
        (after_rest sc context ps level most d.leads
        (checked_stands sc context ps level most (settle sc e) b e k r d.at d.with_slots f h.0 w.0 w.1 t u d.shows h.1 w.2 w.3 w.4 g follows room c))
    stmt_at (tree.for v a s l b) f t u h g k r follows room c =
        let loop : rests.Loop = record { control = v; step = s; last = l; body = b } in
        assign_at sc context ps level most v a f h.0 (rests.test loop ∷ k) h.5
        (record {
          at = (h.0, t, u, stop, (h.1, h.2, h.3, h.4, h.6, h.7, h.8, h.9, h.10), follows.at);
          shallow = (omega (arith, room, pend_length k), follows.shallow);
          counts = follows.counts;
        }) (omega (arith, room))
    stmt_at (tree.thru e b) f t u h g k r follows room c =
        let d = settle_at sc context ps level most types.Number e f h.0 h.0 h.4 stop (pend k) (omega (arith, room)) in
        after_rest sc context ps level most d.leads
        (counted_stands sc context ps level most (settle sc e) b k r d.at d.with_slots h.0 t u d.shows (h.1, h.2, h.3, h.5, h.6, h.7, h.8) g follows (omega (arith, room))
        (stmt_at b h.2 h.3 h.3 h.6 stop) c)
    stmt_at (tree.case e ss) f t u h g k r follows room c =
        let d = settle_at sc context ps level most types.Number e h.0 h.1 h.1 h.4 stop (intrinsic Select ∷ mark ∷ pend k) (omega (arith, room)) in
        after_rest sc context ps level most (first (call Select h.3 (omega (arith, room))) d.leads)
        (selected_stands sc context ps level most (settle sc e) ss k d.at d.with_slots h.1 h.2 u d.shows h.5 h.6 follows (omega (arith, room, depth_positive e)))
    stmt_at (tree.write n spot phrases es) f t u h g k r follows room c = write_at n spot phrases es f t u h g k r follows room c
    stmt_at (tree.label n s) f t u h g k r follows room c = stmt_at s f t u h.1 g k r follows room c
    stmt_at (tree.go_to n) f t u h g k r follows room c = gone_at n f t u h k r follows room c
    stmt_at (tree.event act e) f t u h g k r follows room c = acted_at act e f t u h g k r follows room c
    stmt_at (tree.process (tree.called n es) task) f t u h g k r follows room c = process_at n es task f t u h g k r follows room c

    pub stmts_at : (ss : PStmts) (f t u : ℕ) → StmtsAt sc context ps level ss f t u → FragmentGoes ps level t u → DoingAll ss f u
    stmts_at tree.no_stmts f t u h g k r follows room c = after_rest sc context ps level most (leads_by sc context ps level most (subst (λ z. FragmentGoes ps level z u) (sym h) g)) c
    stmts_at (tree.stmts s tree.no_stmts) f t u h g k r follows room c = stmt_at s f t u h g k r follows (omega (arith, room)) c
    stmts_at (tree.stmts s (tree.stmts s' ss)) f t u h g k r follows room c =
        let more = tree.stmts s' ss in
        let same = pend_items more k in
        subst (λ o. Coming (settle_stmt sc s (items more k) (settle_stmts sc more k r)) f o) same
        (stmt_at s f h.0 h.0 h.1 stop (items more k) (settle_stmts sc more k r) (items_follow more k h.0 t u h.2 g follows (omega (arith, room))) (omega (arith, room, ap length same))
        (subst (λ o. Coming (settle_stmts sc more k r) h.0 o) (sym same) (stmts_at (tree.stmts s' ss) h.0 t u h.2 g k r follows (omega (arith, room)) c)))
