-- Wherever the machine stands for something, the head acts, and from where it leaves the machine the rest goes on. Where a part inside
-- was entered, the rest goes on when that has left.
use Rattle.std.proofs.Common.{◌≡◌, refl, sym, ap, ◌∙◌, subst, ℕ, zero, suc, ◌+◌, ◌*◌, ◌<◌, ◌≤◌, arith, Bool, true, false, List, [], ◌∷◌, length, Option, Some, None}
use Rattle.std.specs.Prelude.{nat_abs}
use Rattle.b67_deeds.specs.declared.EventAct.{EventAct}
use Rattle.algol_tree.specs.declared.tree.Kind.{Kind}
use Rattle.algol_tree.specs.declared.tree.Kind.TheVariants as types
use Rattle.algol_tree.specs.declared.tree.Named.{Named}
use Rattle.algol_tree.specs.declared.tree.PhraseText.{PhraseText}
use Rattle.algol_tree.specs.Plain as tree
use Rattle.algol_tree.specs.Plain.{PPair, PStmts, PBody}
use Rattle.algol_tree.specs.Blocks.{block_numbered}
use Rattle.algol_tree.specs.Scopes.{Scopes}
use Rattle.algol_meaning.specs.Value.{Value, number, whole_of}
use Rattle.algol_meaning.specs.Rest as rests
use Rattle.algol_meaning.specs.Rest.{own, Given, Hole, Actuals, Item, Rest, Answer}
use Rattle.algol_meaning.specs.Settle.{half_of, is_typed, settle}
use Rattle.algol_meaning.specs.Statements.{run_and, turn_and, assigned_of, aimed_at, chosen_of, looped_of, checked_of, counted_of, counted_body, selected_of, statement_called_of, prepared_of, item_of, bound_of, tested_of, differed_of, settle_line, settle_bounds, settle_stmt, settle_items}
use Rattle.algol_meaning.specs.Asks.{nothing, reads_result, leaves, stores, selects, turns, writes, makes_arrays, makes_event, event_deed, starts, ask, evaluated_of, located_of, nth_stmt, asks_called, resume}
use Rattle.b67_deeds.specs.Deeds as deeds
use Rattle.b67_ops.specs.declared.Operator.TheVariants as ops
use Rattle.b67_ops.specs.declared.PlainKind.TheVariants as kinds
use Rattle.b67_ops.specs.declared.BranchKind.TheVariants.{Brun}
use Rattle.b67_ops.specs.declared.intrinsic.Intrinsic.TheVariants.{Select}
use Rattle.b67_segment.specs.Operators.{Placed}
use Rattle.b67_templates.specs.Contexts.{Yields, yields_of, Context}
use Rattle.b67_templates.specs.Fragments.{Has, BranchAt, FragmentGoes, stop}
use Rattle.b67_templates.specs.Cells.{parameter_wants}
use Rattle.b67_templates.specs.Code.{DroppedAt, StmtAt, CasesAt, any, stmts_count}
use Rattle.b67_templates.specs.Depths.{stmt_depth, stmts_depth}
use Rattle.b67_standing.specs.Stepping.{held_at, Slot, operand, reference, intrinsic, descriptor, mark, SlotsHaveRoom, go, drop, there, first}
use Rattle.b67_standing.specs.Standing.{pend, operands, call_begun, start_begun, Gives, pushed, line_begun, arrays_begun, extents, SlotsFollow, StandsFor, ComesTo, ActionAt, Acted, CodeGoesOn}
use Rattle.b67_standing.specs.Laws.{RestsGoOn}
use Rattle.b67_standing.proofs.Leading.{pend_none}
use Rattle.b67_standing.proofs.Asking.{leaves_asks}
use Rattle.b67_standing.proofs.Rests.{after_rest, stays_here, assigned_stands, chosen_stands, looped_stands, checked_stands, selected_stands, called_stands, prepared_stands, item_stands, line_at}
use Rattle.b67_standing.proofs.Loops.{counted_stands, again_at, tested_stands, differed_stands}
use Rattle.b67_standing.proofs.Performing.{while_body, stmt_at}
use Rattle.b67_standing.proofs.Elements.{found_assigned, assigns}
use Rattle.b67_standing.proofs.Bounds.{BoundsOf, bound_stands, bounds_at}
use Rattle.b67_standing.proofs.Items.{items_at}
use Rattle.b67_standing.proofs.Heads.{next_at, by_head, by_actuals}
use Rattle.b67_standing.proofs.Aiming.{by_aim}
use Rattle.b67_standing.proofs.Routines.{evaluated_stands, located}

nth_depth : (ss : PStmts) (i : ℕ) → i < stmts_count ss → stmt_depth (nth_stmt ss i) ≤ stmts_depth ss
nth_depth tree.no_stmts i h = omega arith
nth_depth (tree.stmts s ss) zero h = omega arith
nth_depth (tree.stmts s ss) (suc i) h = omega (arith, nth_depth ss i (omega (arith, h)))

module _ (sc : Scopes) (context : Context) (ps : List Placed) (level most : ℕ) where
  abbrev Coming : Rest → ℕ → List Slot → Type 0
  Coming = ComesTo sc context ps level most

  abbrev Going : Rest → ℕ → List Slot → Type 0
  Going = CodeGoesOn sc context ps level most

  abbrev Following : List Item → ℕ → Type 0
  Following = SlotsFollow sc context ps level most

  -- ---- the answers of statements, which are all `done`

  stored : (n : rests.Place) (v : Value) (k : List Item) (pc : ℕ) (slots : List Slot) → StandsFor sc context ps level most (rests.store n v k) pc slots →
      Going (rests.store n v k) pc slots
  stored (rests.there x) v k pc slots s = record { action = (s.0, pend k, s.1); answered = answer; waits = λ at left wanted l. absurd l; returns = λ at left wanted l. absurd l }
    where
      answer : (a : Answer) (at : ℕ) (after : List Slot) → Acted sc context ps level most (stores (rests.there x) v) pc slots (s.0, pend k, s.1) a at after →
          Coming (settle_items sc k) at after
      answer rests.done at after l = next_at sc context ps level most k (settle_items sc k) s.0 at after l.0 l.1 (items_at sc context ps level most k s.0 s.2)
      answer (rests.value v) at after l = absurd l
      answer (rests.cell c) at after l = absurd l
      answer (rests.place p) at after l = absurd l
      answer rests.entered at after l = absurd l
  stored (rests.element_of x ks) v k pc slots s = record { action = (s.0, pend k, s.1); answered = answer; waits = λ at left wanted l. absurd l; returns = λ at left wanted l. absurd l }
    where
      answer : (a : Answer) (at : ℕ) (after : List Slot) → Acted sc context ps level most (stores (rests.element_of x ks) v) pc slots (s.0, pend k, s.1) a at after →
          Coming (settle_items sc k) at after
      answer rests.done at after l = next_at sc context ps level most k (settle_items sc k) s.0 at after l.0 l.1 (items_at sc context ps level most k s.0 s.2)
      answer (rests.value v) at after l = absurd l
      answer (rests.cell c) at after l = absurd l
      answer (rests.place p) at after l = absurd l
      answer rests.entered at after l = absurd l
  stored (own n) v k pc slots s = record { action = (s.0, pend k, s.1); answered = answer; waits = λ at left wanted l. absurd l; returns = λ at left wanted l. absurd l }
    where
      answer : (a : Answer) (at : ℕ) (after : List Slot) → Acted sc context ps level most (stores (own n) v) pc slots (s.0, pend k, s.1) a at after → Coming (settle_items sc k) at after
      answer rests.done at after l = next_at sc context ps level most k (settle_items sc k) s.0 at after l.0 l.1 (items_at sc context ps level most k s.0 s.2)
      answer (rests.value v) at after l = absurd l
      answer (rests.cell c) at after l = absurd l
      answer (rests.place p) at after l = absurd l
      answer rests.entered at after l = absurd l

  written : (phrases : List PhraseText) (vs : List Value) (k : List Item) (pc : ℕ) (slots : List Slot) → StandsFor sc context ps level most (rests.line phrases vs k) pc slots →
      Going (rests.line phrases vs k) pc slots
  written phrases vs k pc slots s = record { action = (s.0, pend k, s.1); answered = answer; waits = λ at left wanted l. absurd l; returns = λ at left wanted l. absurd l }
    where
      answer : (a : Answer) (at : ℕ) (after : List Slot) → Acted sc context ps level most (writes phrases vs) pc slots (s.0, pend k, s.1) a at after → Coming (settle_items sc k) at after
      answer rests.done at after l = next_at sc context ps level most k (settle_items sc k) s.0 at after l.0 l.1 (items_at sc context ps level most k s.0 s.2)
      answer (rests.value v) at after l = absurd l
      answer (rests.cell c) at after l = absurd l
      answer (rests.place p) at after l = absurd l
      answer rests.entered at after l = absurd l

  arrays_made : (kind : Kind) (ns : List Named) (pairs : List PPair) (vs : List Value) (k : List Item) (pc : ℕ) (slots : List Slot) →
      StandsFor sc context ps level most (rests.arrays kind ns pairs vs k) pc slots → Going (rests.arrays kind ns pairs vs k) pc slots
  arrays_made kind ns pairs vs k pc slots s = record { action = (s.0, s.1); answered = answer; waits = λ at left wanted l. absurd l; returns = λ at left wanted l. absurd l }
    where
      answer : (a : Answer) (at : ℕ) (after : List Slot) → Acted sc context ps level most (makes_arrays kind ns pairs vs) pc slots (s.0, s.1) a at after → Coming (settle_items sc k) at after
      answer rests.done at after l =
          next_at sc context ps level most k (settle_items sc k) s.0 at after l.0 (l.1 ∙ sym (pend_none k s.2)) (items_at sc context ps level most k s.0 s.3)
      answer (rests.value v) at after l = absurd l
      answer (rests.cell c) at after l = absurd l
      answer (rests.place p) at after l = absurd l
      answer rests.entered at after l = absurd l

  event_made : (n : Named) (k : List Item) (pc : ℕ) (slots : List Slot) → StandsFor sc context ps level most (rests.event n k) pc slots → Going (rests.event n k) pc slots
  event_made n k pc slots s = record { action = (s.0, s.1); answered = answer; waits = λ at left wanted l. absurd l; returns = λ at left wanted l. absurd l }
    where
      answer : (a : Answer) (at : ℕ) (after : List Slot) → Acted sc context ps level most (makes_event n) pc slots (s.0, s.1) a at after → Coming (settle_items sc k) at after
      answer rests.done at after l =
          next_at sc context ps level most k (settle_items sc k) s.0 at after l.0 (l.1 ∙ sym (pend_none k s.2)) (items_at sc context ps level most k s.0 s.3)
      answer (rests.value v) at after l = absurd l
      answer (rests.cell c) at after l = absurd l
      answer (rests.place p) at after l = absurd l
      answer rests.entered at after l = absurd l

  event_acted : (act : EventAct) (n : Named) (k : List Item) (pc : ℕ) (slots : List Slot) → StandsFor sc context ps level most (rests.acting act n k) pc slots →
      Going (rests.acting act n k) pc slots
  event_acted act n k pc slots s = record { action = (s.0, pend k, s.1); answered = answer; waits = λ at left wanted l. absurd l; returns = λ at left wanted l. absurd l }
    where
      answer : (a : Answer) (at : ℕ) (after : List Slot) → Acted sc context ps level most (event_deed (deeds.acts act) (n ∷ [])) pc slots (s.0, pend k, s.1) a at after → Coming (settle_items sc k) at after
      answer rests.done at after l = next_at sc context ps level most k (settle_items sc k) s.0 at after l.0 l.1 (items_at sc context ps level most k s.0 s.2)
      answer (rests.value v) at after l = absurd l
      answer (rests.cell c) at after l = absurd l
      answer (rests.place p) at after l = absurd l
      answer rests.entered at after l = absurd l

  process_started : (n : Named) (gs : List Given) (task : Option Named) (k : List Item) (pc : ℕ) (slots : List Slot) →
      StandsFor sc context ps level most (rests.starting n gs task k) pc slots → Going (rests.starting n gs task k) pc slots
  process_started n gs task k pc slots s =
      record { action = (s.0, s.1, pend k, s.2); answered = answer; waits = λ at left wanted l. absurd l; returns = λ at left wanted l. absurd l }
    where
      answer : (a : Answer) (at : ℕ) (after : List Slot) → Acted sc context ps level most (starts n gs task) pc slots (s.0, s.1, pend k, s.2) a at after → Coming (settle_items sc k) at after
      answer rests.done at after l = next_at sc context ps level most k (settle_items sc k) s.1 at after l.0 l.1 (items_at sc context ps level most k s.1 s.3)
      answer (rests.value v) at after l = absurd l
      answer (rests.cell c) at after l = absurd l
      answer (rests.place p) at after l = absurd l
      answer rests.entered at after l = absurd l

  gone : (n : Named) (pc : ℕ) (slots : List Slot) → StandsFor sc context ps level most (rests.going n) pc slots → Going (rests.going n) pc slots
  gone n pc slots s = record { action = s; answered = λ a at left l. absurd l; waits = λ at left wanted l. absurd l; returns = λ at left wanted l. absurd l }

  turned : (k : List Item) (pc : ℕ) (slots : List Slot) → StandsFor sc context ps level most (rests.turning k) pc slots → Going (rests.turning k) pc slots
  turned k pc slots s = record { action = (s.0, s.1, s.2); answered = answer; waits = λ at left wanted l. absurd l; returns = λ at left wanted l. absurd l }
    where
      answer : (a : Answer) (at : ℕ) (after : List Slot) → Acted sc context ps level most turns pc slots (s.0, s.1, s.2) a at after → Coming (settle_items sc k) at after
      answer rests.done at after l = next_at sc context ps level most k (settle_items sc k) s.0 at after l.0 (l.1 ∙ s.3) (items_at sc context ps level most k s.0 s.4)
      answer (rests.value v) at after l = absurd l
      answer (rests.cell c) at after l = absurd l
      answer (rests.place p) at after l = absurd l
      answer rests.entered at after l = absurd l

  ended : (pc : ℕ) (slots : List Slot) → StandsFor sc context ps level most rests.over pc slots → Going rests.over pc slots
  ended pc slots s = record { action = s; answered = answer; waits = λ at left wanted l. absurd l; returns = λ at left wanted l. absurd l }
    where
      answer : (a : Answer) (at : ℕ) (after : List Slot) → Acted sc context ps level most (leaves rests.done) pc slots s a at after → Coming rests.over at after
      answer rests.done at after l = absurd l
      answer (rests.value v) at after l = absurd l
      answer (rests.cell c) at after l = absurd l
      answer (rests.place p) at after l = absurd l
      answer rests.entered at after l = absurd l

  -- ---- the result of a procedure

  result_read : (name : List ℕ) (pc : ℕ) (slots : List Slot) → StandsFor sc context ps level most (rests.reading name) pc slots → Going (rests.reading name) pc slots
  result_read name pc slots s = record { action = s; answered = answer; waits = λ at left wanted l. absurd l; returns = λ at left wanted l. absurd l }
    where
      answer : (a : Answer) (at : ℕ) (after : List Slot) → Acted sc context ps level most (reads_result name) pc slots s a at after → Coming (evaluated_of (half_of a)) at after
      answer (rests.value v) at after l =
          let r = s.0 in
          stays_here sc context ps level most at after (rests.giving v) (leaves_asks (rests.value v))
          (r.kind, r.over, r.is, l.2, subst (λ z. Has ps level z (ops.Plain kinds.Retn) r.over) (sym l.0) r.back, l.1 ∙ ap (λ o. operand v ∷ o) s.1)
      answer rests.done at after l = absurd l
      answer (rests.cell c) at after l = absurd l
      answer (rests.place p) at after l = absurd l
      answer rests.entered at after l = absurd l

  result_given : (v : Value) (pc : ℕ) (slots : List Slot) → StandsFor sc context ps level most (rests.giving v) pc slots → Going (rests.giving v) pc slots
  result_given v pc slots s = record { action = s; answered = λ a at left l. absurd l; waits = λ at left wanted l. absurd l; returns = λ at left wanted l. absurd l }

  place_given : (p : rests.Place) (pc : ℕ) (slots : List Slot) → StandsFor sc context ps level most (rests.giving_place p) pc slots → Going (rests.giving_place p) pc slots
  place_given p pc slots s = record { action = s; answered = λ a at left l. absurd l; waits = λ at left wanted l. absurd l; returns = λ at left wanted l. absurd l }

  -- ---- parts inside

  -- after the entry a result is dropped, and what comes after goes on
  dropped : (o : Option Kind) (a : Answer) (k : List Item) (next u at : ℕ) (left : List Slot) → DroppedAt sc context ps level o next u → Gives (yields_of o) a → at ≡ next → left ≡ pend k →
      Following k u → Coming (settle_items sc k) at (pushed (yields_of o) a left)
  dropped None rests.done k next u at left d fits e l follows = next_at sc context ps level most k (settle_items sc k) u at left (e ∙ d) l (items_at sc context ps level most k u follows)
  dropped (Some kind) (rests.value v) k next u at left d fits e l follows =
      subst (λ z. Coming (settle_items sc k) z (operand v ∷ left)) (sym e)
      (subst (λ o. Coming (settle_items sc k) next (operand v ∷ o)) (sym l)
      (after_rest sc context ps level most (first (drop v d) there) (items_at sc context ps level most k u follows)))
  dropped None (rests.value v) k next u at left d fits e l follows = absurd fits
  dropped None (rests.cell c) k next u at left d fits e l follows = absurd fits
  dropped None (rests.place p) k next u at left d fits e l follows = absurd fits
  dropped None rests.entered k next u at left d fits e l follows = absurd fits
  dropped (Some kind) rests.done k next u at left d fits e l follows = absurd fits
  dropped (Some kind) (rests.cell c) k next u at left d fits e l follows = absurd fits
  dropped (Some kind) (rests.place p) k next u at left d fits e l follows = absurd fits
  dropped (Some kind) rests.entered k next u at left d fits e l follows = absurd fits

  dropped_by : (wanted : Yields) (o : Option Kind) → wanted ≡ yields_of o → (a : Answer) (k : List Item) (next u at : ℕ) (left : List Slot) → DroppedAt sc context ps level o next u →
      Gives wanted a → at ≡ next → left ≡ pend k → Following k u → Coming (settle_items sc k) at (pushed wanted a left)
  dropped_by wanted o is a k next u at left d fits e l follows =
      subst (λ (y : Yields). Gives y a → Coming (settle_items sc k) at (pushed y a left)) (sym is) (λ g. dropped o a k next u at left d g e l follows) fits

  block_entered : (b : PBody) (k : List Item) (pc : ℕ) (slots : List Slot) → StandsFor sc context ps level most (rests.entering_block b k) pc slots →
      Going (rests.entering_block b k) pc slots
  block_entered (tree.body spot ds ss) k pc slots s = record {
    action = (s.0, pend k, s.1);
    answered = λ a at left l. absurd l;
    waits = λ at left wanted l. refl;
    returns = λ at left wanted l a fits. dropped_by wanted None l.2 a k s.0 s.0 at left refl fits l.0 l.1 s.2;
  }

  -- a call waits for the procedure, whether it has a result or not
  call_waits : (typed : Bool) (k : List Item) → ask (asks_called sc typed rests.entered k) ≡ nothing
  call_waits true k = refl
  call_waits false k = refl

  call_returns : (typed : Bool) (k : List Item) (a : Answer) → resume sc (asks_called sc typed rests.entered k) a ≡ settle_items sc k
  call_returns true k a = refl
  call_returns false k a = refl

  procedure_entered : (n : Named) (gs : List Given) (k : List Item) (pc : ℕ) (slots : List Slot) → StandsFor sc context ps level most (rests.entering n gs k) pc slots →
      Going (rests.entering n gs k) pc slots
  procedure_entered n gs k pc slots s = record {
    action = (s.0, s.1, pend k, s.3);
    answered = λ a at left l. absurd l;
    waits = λ at left wanted l. call_waits (is_typed sc n) k;
    returns = λ at left wanted l a fits.
        subst (λ r. Coming r at (pushed wanted a left)) (sym (call_returns (is_typed sc n) k a))
        (dropped_by wanted ((block_numbered sc.blocks s.0).result) l.2 a k s.1 s.2 at left s.4 fits l.0 l.1 s.5);
  }

  -- ---- CASE

  -- the branch of the table for a number, and the statement to which it goes
  record CaseAt (ss : PStmts) (i entry u : ℕ) : Type 0 where
    pub from : ℕ
    pub next : ℕ
    pub to : ℕ
    pub branch : BranchAt ps level Brun (entry + 3 * i) from next
    pub stands : StmtAt sc context ps level (nth_stmt ss i) from to u
    pub out : FragmentGoes ps level to u

  case_at : (ss : PStmts) (i entry u : ℕ) → CasesAt sc context ps level ss entry u → i < stmts_count ss → CaseAt ss i entry u
  case_at tree.no_stmts i entry u h b = absurd (omega (arith, b))
  case_at (tree.stmts s ss) zero entry u h b =
      let same : entry ≡ entry + 3 * 0 = omega arith in
      record { from = h.0; next = entry + 3; to = h.1; branch = subst (λ z. BranchAt ps level Brun z h.0 (entry + 3)) same h.2; stands = h.3; out = h.4 }
  case_at (tree.stmts s ss) (suc i) entry u h b =
      let c = case_at ss i (entry + 3) u h.5 (omega (arith, b)) in
      let same : entry + 3 + 3 * i ≡ entry + 3 * suc i = omega arith in
      record { from = c.from; next = c.next; to = c.to; branch = subst (λ z. BranchAt ps level Brun z c.from c.next) same c.branch; stands = c.stands; out = c.out }

  case_entered : (ss : PStmts) (i table u : ℕ) (k : List Item) → CasesAt sc context ps level ss table u → i < stmts_count ss → Following k u → SlotsHaveRoom most (pend k) (stmts_depth ss) →
      Coming (settle_stmt sc (nth_stmt ss i) k (settle_items sc k)) (table + 3 * i) (pend k)
  case_entered ss i table u k h b follows room =
      let c = case_at ss i table u h b in
      after_rest sc context ps level most (first (go c.branch) there)
      (stmt_at sc context ps level most (nth_stmt ss i) c.from c.to u c.stands c.out k (settle_items sc k) follows (omega (arith, room, nth_depth ss i b)) (items_at sc context ps level most k u follows))

  abbrev case_action : (v : Value) (ss : PStmts) (k : List Item) (pc : ℕ) (slots : List Slot) → StandsFor sc context ps level most (rests.select v ss k) pc slots →
      ActionAt sc context ps level most (selects v ss) pc slots
  case_action v ss k pc slots s = (s.0, pend k, s.2, λ i b. let c = case_at ss i s.0 s.1 s.3 b in (c.from, c.next, c.branch))

  chosen : (v : Value) (ss : PStmts) (k : List Item) (pc : ℕ) (slots : List Slot) → StandsFor sc context ps level most (rests.select v ss k) pc slots →
      Going (rests.select v ss k) pc slots
  chosen v ss k pc slots s = record { action = case_action v ss k pc slots s; answered = answer; waits = λ at left wanted l. absurd l; returns = λ at left wanted l. absurd l }
    where
      answer : (a : Answer) (at : ℕ) (after : List Slot) → Acted sc context ps level most (selects v ss) pc slots (case_action v ss k pc slots s) a at after →
          Coming (settle_stmt sc (nth_stmt ss (nat_abs (whole_of v))) k (settle_items sc k)) at after
      answer rests.done at after l =
          let body = subst (λ v. Coming (settle_stmt sc (nth_stmt ss (nat_abs (whole_of v))) k (settle_items sc k)) (s.0 + 3 * l.0) (pend k)) (sym l.1)
          (case_entered ss l.0 s.0 s.1 k s.3 l.2 s.4 s.5) in
          next_at sc context ps level most k (settle_stmt sc (nth_stmt ss (nat_abs (whole_of v))) k (settle_items sc k)) (s.0 + 3 * l.0) at after l.3 l.4 body
      answer (rests.value v) at after l = absurd l
      answer (rests.cell c) at after l = absurd l
      answer (rests.place p) at after l = absurd l
      answer rests.entered at after l = absurd l

  -- ---- heads in expressions

  storing_on : (n : rests.Place) (h : Hole) (k : List Item) (pc : ℕ) (slots : List Slot) → StandsFor sc context ps level most (rests.storing n h k) pc slots →
      Going (rests.storing n h k) pc slots
  storing_on (rests.there x) h k pc slots s =
      by_head sc context ps level most s.0 h pc slots (descriptor (held_at (rests.there x) s.0) ∷ pend k) s.1 (λ z. assigned_of (rests.there x) z k) s.3 (λ g. refl) (λ g a. refl)
      (λ z at left shows. found_assigned sc context ps level most (rests.there x) tt s.0 z at left k s.1 s.2 shows s.4 s.5)
  storing_on (rests.element_of x ks) h k pc slots s =
      by_head sc context ps level most s.0 h pc slots (descriptor (held_at (rests.element_of x ks) s.0) ∷ pend k) s.1 (λ z. assigned_of (rests.element_of x ks) z k) s.3 (λ g. refl)
      (λ g a. refl) (λ z at left shows. found_assigned sc context ps level most (rests.element_of x ks) tt s.0 z at left k s.1 s.2 shows s.4 s.5)
  storing_on (own n) h k pc slots s =
      by_head sc context ps level most s.0 h pc slots (reference s.1 ∷ pend k) s.2 (λ z. assigned_of (own n) z k) s.5 (λ g. refl) (λ g a. refl)
      (λ z at left shows. assigned_stands sc context ps level most n s.0 s.1 z at left k s.2 s.3 s.4 shows s.6 s.7)

  -- ---- heads in actuals

  calling_on : (n : Named) (x : Actuals) (k : List Item) (pc : ℕ) (slots : List Slot) → StandsFor sc context ps level most (rests.calling n x k) pc slots →
      Going (rests.calling n x k) pc slots
  calling_on n x k pc slots s =
      by_actuals sc context ps level most (parameter_wants sc s.0) x pc slots (call_begun s.1 (pend k)) s.2 (λ z. statement_called_of n z k) s.6 (λ y. refl) (λ y a. refl)
      (λ z at left fills. called_stands sc context ps level most n s.0 s.1 z k at left s.2 s.3 s.4 s.5 fills s.7 s.8 s.9 s.10)

  preparing_on : (n : Named) (x : Actuals) (task : Option Named) (k : List Item) (pc : ℕ) (slots : List Slot) → StandsFor sc context ps level most (rests.preparing n x task k) pc slots →
      Going (rests.preparing n x task k) pc slots
  preparing_on n x task k pc slots s =
      by_actuals sc context ps level most (parameter_wants sc s.0) x pc slots (start_begun s.1 s.2 (pend k)) s.3 (λ z. prepared_of n z task k) s.8 (λ y. refl) (λ y a. refl)
      (λ z at left fills. prepared_stands sc context ps level most n task s.0 s.1 s.2 z k at left s.3 s.4 s.5 s.6 s.7 fills s.9 s.10)

  -- ---- all rests

  pub goes_on_at : (r : Rest) (pc : ℕ) (slots : List Slot) → StandsFor sc context ps level most r pc slots → (ask r ≡ nothing → ⊥) → Going r pc slots
  goes_on_at rests.over pc slots s asks = ended pc slots s
  goes_on_at (rests.reading name) pc slots s asks = result_read name pc slots s
  goes_on_at (rests.giving v) pc slots s asks = result_given v pc slots s
  goes_on_at (rests.store n v k) pc slots s asks = stored n v k pc slots s
  goes_on_at (rests.select v ss k) pc slots s asks = chosen v ss k pc slots s
  goes_on_at (rests.turning k) pc slots s asks = turned k pc slots s
  goes_on_at (rests.line phrases vs k) pc slots s asks = written phrases vs k pc slots s
  goes_on_at (rests.arrays kind ns pairs vs k) pc slots s asks = arrays_made kind ns pairs vs k pc slots s
  goes_on_at (rests.event n k) pc slots s asks = event_made n k pc slots s
  goes_on_at (rests.acting act n k) pc slots s asks = event_acted act n k pc slots s
  goes_on_at (rests.going n) pc slots s asks = gone n pc slots s
  goes_on_at (rests.giving_place p) pc slots s asks = place_given p pc slots s
  goes_on_at (rests.aiming x e k) pc slots s asks =
      by_aim sc context ps level most s.0 (pend k) s.1 (λ z. aimed_at z e (settle sc e) k) (assigns sc context ps level most s.0 e k s.1 s.2 s.3 s.5 s.6 s.7 s.8) x pc slots s.4 (λ y. refl)
      (λ y a. refl)
  goes_on_at (rests.evaluating h) pc slots s asks =
      by_head sc context ps level most s.0 h pc slots [] s.1 evaluated_of s.4 (λ g. refl) (λ g a. refl)
      (λ z at left shows. evaluated_stands sc context ps level most s.0 z at left s.1 s.2 s.3 shows s.5)
  goes_on_at (rests.locating x) pc slots s asks =
      by_aim sc context ps level most s.0 [] s.1 located_of (located sc context ps level most s.0 s.1 s.2 s.3 s.5) x pc slots s.4 (λ y. refl) (λ y a. refl)
  goes_on_at (rests.entering_block b k) pc slots s asks = block_entered b k pc slots s
  goes_on_at (rests.entering n gs k) pc slots s asks = procedure_entered n gs k pc slots s
  goes_on_at (rests.storing n h k) pc slots s asks = storing_on n h k pc slots s
  goes_on_at (rests.choosing h x y k) pc slots s asks =
      let r = settle_items sc k in
      let more = items_at sc context ps level most k s.5 s.12 in
      by_head sc context ps level most types.Truth h pc slots (pend k) s.0 (λ z. chosen_of z x y k (settle_stmt sc x k r) (settle_stmt sc y k r)) s.6 (λ g. refl) (λ g a. refl)
      (λ z at left shows.
      chosen_stands sc context ps level most z x y k (settle_stmt sc x k r) (settle_stmt sc y k r) at left s.0 s.1 s.2 s.3 s.4 s.5 shows s.7 s.8 s.9 s.10 s.11 s.12 s.13
      (stmt_at sc context ps level most x s.1 s.2 s.5 s.8 s.9 k r s.12 (omega (arith, s.13)) more)
      (stmt_at sc context ps level most y s.3 s.4 s.5 s.10 s.11 k r s.12 (omega (arith, s.13)) more))
  goes_on_at (rests.looping h e b k) pc slots s asks =
      let w = s.5 in
      let body = settle_stmt sc b (turn_and (tree.while e b) k) (rests.turning (run_and (tree.while e b) k)) in
      by_head sc context ps level most types.Truth h pc slots (pend k) s.1 (λ z. looped_of z e b k body (settle_items sc k)) s.4 (λ g. refl) (λ g a. refl)
      (λ z at left shows.
      looped_stands sc context ps level most z e b k body (settle_items sc k) at left s.0 s.1 s.2 s.3 shows w s.6 s.7 s.8
      (while_body sc context ps level most e b k s.0 s.1 s.2 s.3 w s.6 s.7 s.8 (stmt_at sc context ps level most b w.0 w.1 w.1 w.4 stop)) (items_at sc context ps level most k s.3 s.7))
  goes_on_at (rests.checking h b e k) pc slots s asks =
      by_head sc context ps level most types.Truth h pc slots (pend k) s.2 (λ z. checked_of z b e k (settle_items sc k)) s.6 (λ g. refl) (λ g a. refl)
      (λ z at left shows.
      checked_stands sc context ps level most z b e k (settle_items sc k) at left s.0 s.1 s.2 s.3 s.4 s.5 shows s.7 s.8 s.9 s.10 s.11 s.12 s.13 (items_at sc context ps level most k s.5 s.12))
  goes_on_at (rests.counting h b k) pc slots s asks =
      let t = s.4 in
      by_head sc context ps level most types.Number h pc slots (pend k) s.0 (λ z. counted_of z b k (counted_body sc b k) (settle_items sc k)) s.3 (λ g. refl) (λ g a. refl)
      (λ z at left shows.
      counted_stands sc context ps level most z b k (settle_items sc k) at left s.0 s.1 s.2 shows t s.5 s.6 s.7
      (stmt_at sc context ps level most b t.1 t.2 t.2 t.4 stop) (items_at sc context ps level most k s.2 s.6))
  goes_on_at (rests.differing h loop k) pc slots s asks =
      let o = s.8 in
      by_head sc context ps level most types.Number h pc slots (pend k) s.1 (λ z. differed_of sc z loop k (settle_items sc k)) s.5 (λ g. refl) (λ g a. refl)
      (λ z at left shows.
      differed_stands sc context ps level most z loop k (settle_items sc k) at left s.0 s.1 s.2 s.3 s.4 shows s.6 s.7 o s.9 s.10 (items_at sc context ps level most k s.4 s.9)
      (again_at sc context ps level most loop k s.0 s.1 s.2 s.3 s.4 s.6 s.7 o s.9 s.10 (stmt_at sc context ps level most loop.body s.2 o.0 o.0 o.2 stop)))
  goes_on_at (rests.stepping d h loop k) pc slots s asks =
      let o = s.11 in
      by_head sc context ps level most types.Number h pc slots (operand d ∷ pend k) s.2 (λ z. tested_of sc d z loop k (settle_items sc k)) s.7 (λ g. refl) (λ g a. refl)
      (λ z at left shows.
      tested_stands sc context ps level most d z loop k (settle_items sc k) at left s.0 s.1 s.2 s.3 s.4 s.5 s.6 shows s.8 s.9 s.10 o s.12 s.13
      (items_at sc context ps level most k s.5 s.12)
      (again_at sc context ps level most loop k s.0 s.1 s.3 s.4 s.5 s.8 (any s.2 s.9 s.10) o s.12 s.13 (stmt_at sc context ps level most loop.body s.3 o.0 o.0 o.2 stop)))
  goes_on_at (rests.selecting h ss k) pc slots s asks =
      by_head sc context ps level most types.Number h pc slots (intrinsic Select ∷ mark ∷ pend k) s.0 (λ z. selected_of z ss k) s.3 (λ g. refl) (λ g a. refl)
      (λ z at left shows. selected_stands sc context ps level most z ss k at left s.0 s.1 s.2 shows s.4 s.5 s.6 s.7)
  goes_on_at (rests.writing phrases vs h es k) pc slots s asks =
      by_head sc context ps level most types.Number h pc slots (operands vs (line_begun s.0 (pend k))) s.1 (λ z. item_of phrases vs z es k (settle_line sc es phrases k)) s.7 (λ g. refl) (λ g a. refl)
      (λ z at left shows.
      item_stands sc context ps level most phrases vs z es k s.0 s.1 s.2 s.3 at left shows s.8 s.9 s.4 s.5 s.6 s.10 s.11
      (line_at sc context ps level most es phrases k s.0 s.1 s.2 s.3 s.8 s.9 s.5 s.10))
  goes_on_at (rests.bounding kind ns pairs vs h later k) pc slots s asks =
      let o : BoundsOf sc context ps level most ns pairs k s.3 = record {
        dimensions = s.8;
        many = s.9;
        lows = s.10;
        made = s.4;
        next = s.5;
        enter = s.14;
        push = s.15;
        none = s.16;
        follows = s.17;
        some = s.19;
      } in
      by_head sc context ps level most types.Number h pc slots (operand (number (s.1).low) ∷ extents s.0 vs (arrays_begun (length ns) [])) s.2
      (λ z. bound_of kind ns pairs vs z later k (settle_bounds sc later kind ns pairs k)) s.12 (λ g. refl) (λ g a. refl)
      (λ z at left shows.
      bound_stands sc context ps level most kind ns pairs k s.0 s.1 later vs z at left s.2 s.3 o s.6 s.7 s.11 shows s.13 s.18
      (bounds_at sc context ps level most later kind ns pairs k s.2 s.3 o s.13))
  goes_on_at (rests.calling n x k) pc slots s asks = calling_on n x k pc slots s
  goes_on_at (rests.starting n gs task k) pc slots s asks = process_started n gs task k pc slots s
  goes_on_at (rests.preparing n x task k) pc slots s asks = preparing_on n x task k pc slots s
  goes_on_at _ pc slots s asks = absurd s

pub rests_go_on : RestsGoOn
rests_go_on sc context ps level most r pc slots s asks = goes_on_at sc context ps level most r pc slots s asks
