-- Where the machine stands for a rest, from where the value of its expression comes to stand: assignments, tests, lines.
use Rattle.std.proofs.Common.{◌≡◌, refl, sym, subst, ℕ, ◌+◌, ◌≤◌, arith, Bool, true, false, List, [], ◌∷◌, ◌++◌, length, length-append, Option, None}
use Rattle.std.specs.Prelude.{pos, if◌then◌else◌}
use Rattle.algol_tree.specs.declared.tree.Kind.{Kind}
use Rattle.algol_tree.specs.declared.tree.Kind.TheVariants as types
use Rattle.algol_tree.specs.declared.tree.Named.{Named}
use Rattle.algol_tree.specs.declared.tree.PhraseText.{PhraseText}
use Rattle.algol_tree.specs.Plain as tree
use Rattle.algol_tree.specs.Plain.{PExpr, PExprs, PStmt, PStmts}
use Rattle.algol_tree.specs.Blocks.{block_numbered}
use Rattle.algol_tree.specs.Scopes.{Scopes}
use Rattle.algol_meaning.specs.Value.{Value, number, truth}
use Rattle.algol_meaning.specs.Rest as rests
use Rattle.algol_meaning.specs.Rest.{own, Hole, Half, val, busy, HalfGiven, given, wants, Item, Rest}
use Rattle.algol_meaning.specs.Settle.{sort_at, settle, settle_place}
use Rattle.algol_meaning.specs.Statements.{assigned_of, aimed_at, chosen_of, looped_of, checked_of, selected_of, statement_called_of, prepared_of, item_of, run_and, settle_line}
use Rattle.algol_meaning.specs.Asks.{nothing, ask_hole, ask}
use Rattle.b67_ops.specs.declared.Couple.{Couple}
use Rattle.b67_ops.specs.declared.Operator.TheVariants as ops
use Rattle.b67_ops.specs.declared.PlainKind.TheVariants as kinds
use Rattle.b67_ops.specs.declared.BranchKind.TheVariants.{Brfl, Brtr}
use Rattle.b67_ops.specs.declared.intrinsic.Intrinsic.TheVariants.{Select}
use Rattle.b67_segment.specs.Operators.{Placed}
use Rattle.b67_templates.specs.Contexts.{Context}
use Rattle.b67_templates.specs.Fragments.{IsWholeNumber, HasKind, Has, BranchAt, TurnAt, FragmentGoes, stop}
use Rattle.b67_templates.specs.Cells.{parameter_wants, IsVariable, IsProcedure}
use Rattle.b67_templates.specs.Code as code
use Rattle.b67_templates.specs.Code.{FormatIs, DroppedAt, PlaceAt, ExprAt, AssignAt, LineAt, TableAt, StmtAt, CasesAt, exprs_count, stmts_count}
use Rattle.b67_templates.specs.Depths.{depth, line_depth, stmt_depth, stmts_depth, counts_in, AreShallow}
use Rattle.b67_standing.specs.Stepping.{Slot, operand, reference, intrinsic, mark, SlotsHaveRoom, push_number, push_reference, false_stays, false_goes, true_stays, true_goes, StepsLead, there, first}
use Rattle.b67_standing.specs.Standing.{pend, operands, AreNumbers, line_begun, call_begun, start_begun, IsTask, SlotsFollow, CallsAt, StartsAt, Holds, Shows, WhileAt, StandsFor, ComesTo}
use Rattle.b67_standing.proofs.Leading.{depth_positive, on, valued_at, follows_run}
use Rattle.b67_standing.proofs.Asking.{resolves_asks, stores_asks, selects_asks, turns_asks, writes_asks, calls_asks, starts_asks, holds_asks, fills_asks}
use Rattle.b67_standing.proofs.Actuals.{operands_more, operands_length, Filled}
use Rattle.b67_standing.proofs.Settling.{settle_at}
use Rattle.b67_standing.proofs.Values.{variable_place, formal_resolves}

pub are_numbers_more : (vs : List Value) (v : Value) → AreNumbers vs → HasKind types.Number v → AreNumbers (vs ++ v ∷ [])
are_numbers_more [] v h k = (k, tt)
are_numbers_more (x ∷ vs) v h k = (h.0, are_numbers_more vs v h.1 k)

-- what waits has room
pub counts_within : (most : ℕ) (k : List Item) → AreShallow most k → counts_in k ≤ most
counts_within most [] s = omega arith
counts_within most (rests.count n b ∷ k) s = omega (arith, s.0)
counts_within most (rests.run x ∷ k) s = omega (arith, s.0)
counts_within most (rests.turn ∷ k) s = omega (arith, s.0)
counts_within most (rests.check b c ∷ k) s = omega (arith, s.0)
counts_within most (rests.test loop ∷ k) s = omega (arith, s.0)
counts_within most (rests.result name ∷ k) s = omega (arith, s.0)
counts_within most (rests.make_arrays kind ns pairs ∷ k) s = omega (arith, s.0)
counts_within most (rests.make_event n ∷ k) s = omega (arith, s.0)

module _ (sc : Scopes) (context : Context) (ps : List Placed) (level most : ℕ) where
  abbrev Coming : Rest → ℕ → List Slot → Type 0
  Coming = ComesTo sc context ps level most

  abbrev Following : List Item → ℕ → Type 0
  Following = SlotsFollow sc context ps level most

  abbrev Showing : Kind → Half → ℕ → List Slot → List Slot → ℕ → Type 0
  Showing = Shows sc context ps level most

  pub after_rest : {a b : ℕ} {x y : List Slot} {r : Rest} → StepsLead sc context ps level most a x b y → Coming r b y → Coming r a x
  after_rest l c = record { at = c.at; with_slots = c.with_slots; leads = on sc context ps level most l c.leads; stands = c.stands; asks = c.asks }

  pub stays_here : (pc : ℕ) (slots : List Slot) (r : Rest) → (ask r ≡ nothing → ⊥) → StandsFor sc context ps level most r pc slots → Coming r pc slots
  stays_here pc slots r a s = record { at = pc; with_slots = slots; leads = there; stands = s; asks = a }

  pub heads_ask : (k : Kind) (h : Hole) (pc : ℕ) (slots below : List Slot) (to : ℕ) → Holds sc context ps level most k h pc slots below to → ask_hole h ≡ nothing → ⊥
  heads_ask = holds_asks sc context ps level most

  pub value_at : (pc : ℕ) (slots : List Slot) (v : Value) (below : List Slot) (to : ℕ) → FragmentGoes ps level pc to → slots ≡ operand v ∷ below →
      StepsLead sc context ps level most pc slots to (operand v ∷ below)
  value_at = valued_at sc context ps level most

  -- ---- turns

  pub follows_turn : (k : List Item) (q l to : ℕ) → TurnAt ps level q l to → Following k l → Following (rests.turn ∷ k) q
  follows_turn k q l to h f = record {
    at = (q, l, to, stop, h, f.at);
    shallow = (omega (arith, counts_within most k f.shallow), f.shallow);
    counts = f.counts;
  }

  pub turning_at : (k : List Item) (pc l next : ℕ) → TurnAt ps level pc l next → Following k l → Coming (rests.turning k) pc (pend k)
  turning_at k pc l next h f = stays_here pc (pend k) (rests.turning k) turns_asks (l, next, h, refl, f)

  -- ---- assignments

  pub assigned_stands : (n : Named) (kind : Kind) (couple : Couple) (x : Half) (pc : ℕ) (slots : List Slot) (k : List Item) (m next : ℕ) → IsVariable sc context.level n kind couple →
      Showing kind x pc slots (reference couple ∷ pend k) m → Has ps level m (ops.Plain kinds.Stod) next → Following k next → Coming (assigned_of (own n) x k) pc slots
  assigned_stands n kind couple (val v) pc slots k m next i s h f =
      after_rest (value_at pc slots v (reference couple ∷ pend k) m s.0 s.1)
      (stays_here m (operand v ∷ reference couple ∷ pend k) (rests.store (own n) v k) (stores_asks (own n) v)
      (next, record { kind = kind; couple = couple; variable = i; fits = s.2; lies = refl; stands = h }, f))
  assigned_stands n kind couple (busy x) pc slots k m next i s h f =
      stays_here pc slots (rests.storing (own n) x k) (heads_ask kind x pc slots (reference couple ∷ pend k) m s) (kind, couple, m, next, i, s, h, f)

  assign_by : (n : Named) (kind : Kind) (e : PExpr) (f m q t : ℕ) (k : List Item) → PlaceAt sc context ps level n kind f m → ExprAt sc context ps level kind e m q q →
      Has ps level q (ops.Plain kinds.Stod) t → Following k t → SlotsHaveRoom most (pend k) (1 + depth e) →
      Coming (aimed_at (settle_place sc (tree.subscripted n tree.none)) e (settle sc e) k) f (pend k)
  assign_by n kind e f m q t k (code.own i) right store follows room =
      let c = settle_at sc context ps level most kind e m q q right stop (reference i.0 ∷ pend k) (omega (arith, room)) in
      subst (λ p. Coming (aimed_at p e (settle sc e) k) f (pend k)) (sym (variable_place (sort_at sc n) n (i.1).variable))
      (after_rest (first (push_reference i.0 i.2 (omega (arith, room))) c.leads)
      (assigned_stands n kind i.0 (settle sc e) c.at c.with_slots k q t i.1 c.shows store follows))
  assign_by n kind e f m q t k (code.resolved c p i name resolves) right store follows room =
      subst (λ p. Coming (aimed_at p e (settle sc e) k) f (pend k)) (sym (formal_resolves (sort_at sc n) n i.sort_is))
      (after_rest (first (push_reference c name (omega (arith, room))) there)
      (stays_here p (reference c ∷ pend k) (rests.aiming (rests.resolve n) e k) (resolves_asks n)
      (kind, m, q, t, record { couple = c; is_formal = i; lies = refl; stands = resolves }, right, store, follows, room)))

  pub assign_at : (n : Named) (e : PExpr) (f t : ℕ) (k : List Item) → AssignAt sc context ps level n e f t → Following k t → SlotsHaveRoom most (pend k) (1 + depth e) →
      Coming (aimed_at (settle_place sc (tree.subscripted n tree.none)) e (settle sc e) k) f (pend k)
  assign_at n e f t k h follows room = assign_by n h.0 e f h.1 h.2 t k h.3 h.4 h.5 follows room

  -- ---- tests

  pub rest_parted : (b : Bool) (x y : Rest) (m f m' : ℕ) (below : List Slot) → BranchAt ps level Brfl m f m' → Coming x m' below → Coming y f below →
      Coming (if b then x else y) m (operand (truth b) ∷ below)
  rest_parted true x y m f m' below h c d = after_rest (first (false_stays h) there) c
  rest_parted false x y m f m' below h c d = after_rest (first (false_goes h) there) d

  pub chosen_stands : (x : Half) (a b : PStmt) (k : List Item) (s r : Rest) (pc : ℕ) (slots : List Slot) (m m' n f t u : ℕ) → Showing types.Truth x pc slots (pend k) m →
      BranchAt ps level Brfl m f m' → StmtAt sc context ps level a m' n u → FragmentGoes ps level n u → StmtAt sc context ps level b f t u → FragmentGoes ps level t u → Following k u →
      SlotsHaveRoom most (pend k) (stmt_depth a + stmt_depth b) → Coming s m' (pend k) → Coming r f (pend k) → Coming (chosen_of x a b k s r) pc slots
  chosen_stands (val (truth c)) a b k s r pc slots m m' n f t u sh h i g j l follows room y z =
      after_rest (value_at pc slots (truth c) (pend k) m sh.0 sh.1) (rest_parted c s r m f m' (pend k) h y z)
  chosen_stands (val (number c)) a b k s r pc slots m m' n f t u sh h i g j l follows room y z = absurd sh.2
  chosen_stands (busy x) a b k s r pc slots m m' n f t u sh h i g j l follows room y z =
      stays_here pc slots (rests.choosing x a b k) (heads_ask types.Truth x pc slots (pend k) m sh) (m, m', n, f, t, u, sh, h, i, g, j, l, follows, room)

  pub looped_stands : (x : Half) (c : PExpr) (b : PStmt) (k : List Item) (s r : Rest) (pc : ℕ) (slots : List Slot) (f m t u : ℕ) → Showing types.Truth x pc slots (pend k) m →
      (w : WhileAt sc context ps level most c b f m t u) → FragmentGoes ps level t u → Following k u → SlotsHaveRoom most (pend k) (depth c + stmt_depth b) → Coming s w.0 (pend k) →
      Coming r u (pend k) → Coming (looped_of x c b k s r) pc slots
  looped_stands (val (truth v)) c b k s r pc slots f m t u sh w g follows room y z =
      after_rest (value_at pc slots (truth v) (pend k) m sh.0 sh.1) (rest_parted v s r m u w.0 (pend k) w.3 y z)
  looped_stands (val (number v)) c b k s r pc slots f m t u sh w g follows room y z = absurd sh.2
  looped_stands (busy x) c b k s r pc slots f m t u sh w g follows room y z =
      stays_here pc slots (rests.looping x c b k) (heads_ask types.Truth x pc slots (pend k) m sh) (f, m, t, u, sh, w, g, follows, room)

  pub checked_stands : (x : Half) (b : PStmt) (c : PExpr) (k : List Item) (r : Rest) (pc : ℕ) (slots : List Slot) (f q m m' t u : ℕ) → Showing types.Truth x pc slots (pend k) m →
      StmtAt sc context ps level b f q q → ExprAt sc context ps level types.Truth c q m m → BranchAt ps level Brtr m u m' → TurnAt ps level m' f t → FragmentGoes ps level t u →
      Following k u → SlotsHaveRoom most (pend k) (stmt_depth b + depth c) → Coming r u (pend k) → Coming (checked_of x b c k r) pc slots
  checked_stands (val (truth true)) b c k r pc slots f q m m' t u sh i e h j g follows room y =
      after_rest (value_at pc slots (truth true) (pend k) m sh.0 sh.1) (after_rest (first (true_goes h) there) y)
  checked_stands (val (truth false)) b c k r pc slots f q m m' t u sh i e h j g follows room y =
      let again = follows_run sc context ps level most (tree.until b c) k f t u (q, i, (m, m', e, h, j)) g room follows in
      after_rest (value_at pc slots (truth false) (pend k) m sh.0 sh.1)
      (after_rest (first (true_stays h) there) (turning_at (run_and (tree.until b c) k) m' f t j again))
  checked_stands (val (number v)) b c k r pc slots f q m m' t u sh i e h j g follows room y = absurd sh.2
  checked_stands (busy x) b c k r pc slots f q m m' t u sh i e h j g follows room y =
      stays_here pc slots (rests.checking x b c k) (heads_ask types.Truth x pc slots (pend k) m sh) (f, q, m, m', t, u, sh, i, e, h, j, g, follows, room)

  -- ---- the number of a CASE

  pub selected_stands : (x : Half) (ss : PStmts) (k : List Item) (pc : ℕ) (slots : List Slot) (m table u : ℕ) → Showing types.Number x pc slots (intrinsic Select ∷ mark ∷ pend k) m →
      TableAt sc context ps level (stmts_count ss) m table → CasesAt sc context ps level ss table u → Following k u → SlotsHaveRoom most (pend k) (5 + stmts_depth ss) →
      Coming (selected_of x ss k) pc slots
  selected_stands (val v) ss k pc slots m table u sh h c follows room =
      let begun = intrinsic Select ∷ mark ∷ pend k in
      let counted = operand (number (pos (stmts_count ss))) ∷ operand v ∷ begun in
      after_rest (value_at pc slots v begun m sh.0 sh.1)
      (after_rest (first (push_number (pos (stmts_count ss)) h.2 (omega (arith, room))) (first (push_number (pos table) h.3 (omega (arith, room))) there))
      (stays_here h.1 (operand (number (pos table)) ∷ counted) (rests.select v ss k) (selects_asks v ss)
      (table, u, record { fits = sh.2; many = (h.2).whole; place = (h.3).whole; lies = refl; stands = h.4 }, c, follows, omega (arith, room))))
  selected_stands (busy x) ss k pc slots m table u sh h c follows room =
      stays_here pc slots (rests.selecting x ss k) (heads_ask types.Number x pc slots (intrinsic Select ∷ mark ∷ pend k) m sh) (m, table, u, sh, h, c, follows, room)

  -- ---- a call, or a PROCESS, whose actuals are settled as far as that goes

  pub called_stands : (n : Named) (callee : ℕ) (couple : Couple) (x : HalfGiven) (k : List Item) (pc : ℕ) (slots : List Slot) (filled next u : ℕ) → IsProcedure sc context.level n callee couple →
      Filled sc context ps level most (parameter_wants sc callee) x pc slots (call_begun couple (pend k)) filled → Has ps level filled (ops.Plain kinds.Entr) next →
      DroppedAt sc context ps level (block_numbered sc.blocks callee).result next u → Following k u → SlotsHaveRoom most (pend k) 2 → Coming (statement_called_of n x k) pc slots
  called_stands n callee couple (given gs) k pc slots filled next u p s h d follows room =
      let calls : CallsAt sc context ps level most n gs callee pc next slots (pend k) =
      record { couple = couple; procedure = p; fit = s.1; lies = s.2; stands = subst (λ z. Has ps level z (ops.Plain kinds.Entr) next) (sym s.0) h } in
      stays_here pc slots (rests.entering n gs k) (calls_asks n gs) (callee, next, u, calls, d, follows, room)
  called_stands n callee couple (wants x) k pc slots filled next u p s h d follows room =
      stays_here pc slots (rests.calling n x k) (fills_asks sc context ps level most (parameter_wants sc callee) x pc slots (call_begun couple (pend k)) filled s)
      (callee, couple, filled, next, u, p, s, h, d, follows, room)

  pub prepared_stands : (n : Named) (task : Option Named) (callee : ℕ) (couple : Couple) (tasked : Slot) (x : HalfGiven) (k : List Item) (pc : ℕ) (slots : List Slot) (filled next : ℕ) →
      IsProcedure sc context.level n callee couple → (block_numbered sc.blocks callee).result ≡ None → IsTask sc context task tasked →
      Filled sc context ps level most (parameter_wants sc callee) x pc slots (start_begun couple tasked (pend k)) filled → Has ps level filled (ops.Plain kinds.Entr) next → Following k next →
      Coming (prepared_of n x task k) pc slots
  prepared_stands n task callee couple tasked (given gs) k pc slots filled next p untyped t s h follows =
      let starts : StartsAt sc context ps level most n gs task callee pc next slots (pend k) =
      record {
        couple = couple;
        procedure = p;
        untyped = untyped;
        tasked = tasked;
        task_is = t;
        fit = s.1;
        lies = s.2;
        stands = subst (λ z. Has ps level z (ops.Plain kinds.Entr) next) (sym s.0) h;
      } in
      stays_here pc slots (rests.starting n gs task k) (starts_asks n gs task) (callee, next, starts, follows)
  prepared_stands n task callee couple tasked (wants x) k pc slots filled next p untyped t s h follows =
      stays_here pc slots (rests.preparing n x task k) (fills_asks sc context ps level most (parameter_wants sc callee) x pc slots (start_begun couple tasked (pend k)) filled s)
      (callee, couple, tasked, filled, next, p, untyped, t, s, h, follows)

  -- ---- lines

  -- what becomes of the line once these items have values
  abbrev LineOn : PExprs → List PhraseText → List Item → ℕ → ℕ → Type 0
  LineOn es phrases k format m =
      (us : List Value) → FormatIs sc context ps level format phrases (length us + exprs_count es) → AreNumbers us → SlotsHaveRoom most (pend k) (3 + length us + line_depth es) →
      Coming (settle_line sc es phrases k us) m (operands us (line_begun format (pend k)))

  pub item_stands : (phrases : List PhraseText) (vs : List Value) (x : Half) (es : PExprs) (k : List Item) (format m n next pc : ℕ) (slots : List Slot) →
      Showing types.Number x pc slots (operands vs (line_begun format (pend k))) m → LineAt sc context ps level es m n → Has ps level n (ops.Plain kinds.Entr) next →
      FormatIs sc context ps level format phrases (length vs + 1 + exprs_count es) → IsWholeNumber (pos format) → AreNumbers vs → Following k next →
      SlotsHaveRoom most (pend k) (3 + length vs + 1 + line_depth es) → LineOn es phrases k format m → Coming (item_of phrases vs x es k (settle_line sc es phrases k)) pc slots
  item_stands phrases vs (val v) es k format m n next pc slots sh l h is whole fits follows room c =
      let begun = line_begun format (pend k) in
      let us = vs ++ v ∷ [] in
      let longer : length us ≡ length vs + 1 = length-append vs (v ∷ []) in
      after_rest (value_at pc slots v (operands vs begun) m sh.0 sh.1)
      (subst (λ o. Coming (settle_line sc es phrases k us) m o) (operands_more vs v begun)
      (c us (subst (λ z. FormatIs sc context ps level format phrases (z + exprs_count es)) (sym longer) is) (are_numbers_more vs v fits sh.2)
      (omega (arith, room, longer))))
  item_stands phrases vs (busy x) es k format m n next pc slots sh l h is whole fits follows room c =
      stays_here pc slots (rests.writing phrases vs x es k) (heads_ask types.Number x pc slots (operands vs (line_begun format (pend k))) m sh)
      (format, m, n, next, is, whole, fits, sh, l, h, follows, room)

  pub line_at : (es : PExprs) (phrases : List PhraseText) (k : List Item) (format f n next : ℕ) → LineAt sc context ps level es f n → Has ps level n (ops.Plain kinds.Entr) next →
      IsWholeNumber (pos format) → Following k next → LineOn es phrases k format f
  line_at tree.none phrases k format f n next l h whole follows vs is fits room =
      let begun = line_begun format (pend k) in
      let same : length vs + 0 ≡ length vs = omega arith in
      stays_here f (operands vs begun) (rests.line phrases vs k) (writes_asks phrases vs) (
        next,
        record {
          format = format;
          is = subst (λ z. FormatIs sc context ps level format phrases z) same is;
          whole = whole;
          fits = fits;
          lies = refl;
          stands = subst (λ z. Has ps level z (ops.Plain kinds.Entr) next) (sym l) h;
        },
        follows,
      )
  line_at (tree.more e es) phrases k format f n next l h whole follows vs is fits room =
      let begun = line_begun format (pend k) in
      let more : length vs + (exprs_count es + 1) ≡ length vs + 1 + exprs_count es = omega arith in
      let deep : 1 ≤ depth e = depth_positive e in
      let c = settle_at sc context ps level most types.Number e f l.0 l.0 l.1 stop (operands vs begun) (omega (arith, room, operands_length vs begun)) in
      after_rest c.leads
      (item_stands phrases vs (settle sc e) es k format l.0 n next c.at c.with_slots c.shows l.2 h (subst (λ z. FormatIs sc context ps level format phrases z) more is) whole fits follows
      (omega (arith, room, deep)) (line_at es phrases k format l.0 n next l.2 h whole follows))
