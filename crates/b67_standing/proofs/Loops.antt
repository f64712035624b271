-- The loops that keep a number: THRU and its count, FOR and its test.
use Rattle.std.proofs.Common.{◌≡◌, refl, sym, subst, ℕ, ◌+◌, arith, Bool, true, false, List, ◌∷◌}
use Rattle.std.specs.Prelude.{ℤ, pos, int_lt, if◌then◌else◌}
use Rattle.algol_tree.specs.declared.tree.Kind.TheVariants as types
use Rattle.algol_tree.specs.declared.tree.Op.TheVariants as operators
use Rattle.algol_tree.specs.Plain as tree
use Rattle.algol_tree.specs.Plain.{PExpr, PStmt}
use Rattle.algol_tree.specs.Scopes.{Scopes}
use Rattle.algol_meaning.specs.Value.{Value, number, truth}
use Rattle.algol_meaning.specs.Rest as rests
use Rattle.algol_meaning.specs.Rest.{Half, val, busy, Loop, Item, Rest}
use Rattle.algol_meaning.specs.Settle.{settle}
use Rattle.algol_meaning.specs.Statements.{after_count, counted_of, counted_body, is_past, alone, difference_in, stepped, again, tested_of, differed_of, settle_stmt}
use Rattle.b67_segment.specs.Operators.{Placed}
use Rattle.b67_templates.specs.Contexts.{Context}
use Rattle.b67_templates.specs.Fragments.{IsWholeNumber, HasKind, FragmentGoes, stop}
use Rattle.b67_templates.specs.Code.{ExprAt, PastAt, StepSign, SignedAt, StepAt, any, literal, ThruAt}
use Rattle.b67_templates.specs.Depths.{loop_depth, stmt_depth}
use Rattle.b67_standing.specs.Stepping.{Slot, operand, SlotsHaveRoom, counts, spent, drop, within, past, within_literal, past_literal, there, first}
use Rattle.b67_standing.specs.Standing.{pend, SlotsFollow, Shows, RoundAt, ComesTo}
use Rattle.b67_standing.proofs.Leading.{depth_positive, pend_length, leads_by, valued_at, follows_run}
use Rattle.b67_standing.proofs.Asking.{holds_asks}
use Rattle.b67_standing.proofs.Settling.{settle_at}
use Rattle.b67_standing.proofs.Rests.{after_rest, stays_here, follows_turn, turning_at, assign_at}
use Rattle.b67_standing.proofs.Values.{less_whole, literal_settles}

module _ (sc : Scopes) (context : Context) (ps : List Placed) (level most : ℕ) where
  abbrev Coming : Rest → ℕ → List Slot → Type 0
  Coming = ComesTo sc context ps level most

  abbrev Following : List Item → ℕ → Type 0
  Following = SlotsFollow sc context ps level most

  -- From f the statement leads on: whatever comes after it, from u on, the machine comes to where it stands for the two.
  abbrev pub Performs : PStmt → ℕ → ℕ → Type 0
  Performs s f u =
      (k : List Item) (r : Rest) → Following k u → SlotsHaveRoom most (pend k) (stmt_depth s) → Coming r u (pend k) → Coming (settle_stmt sc s k r) f (pend k)

  -- ---- THRU

  count_body : (b : PStmt) (k : List Item) (q t u : ℕ) (h : ThruAt sc context ps level b q t) → FragmentGoes ps level t u → Following k u → SlotsHaveRoom most (pend k) (3 + stmt_depth b) →
      Performs b h.1 h.2 → (z : ℤ) → IsWholeNumber z → int_lt (pos 0) z ≡ true → Coming (counted_body sc b k z) h.1 (pend (after_count z b k))
  count_body b k q t u h g follows room p z w e =
      let further : Following (after_count z b k) q = record {
        at = (q, t, u, stop, h, g, follows.at);
        shallow = (omega (arith, room, pend_length k), follows.shallow);
        counts = (less_whole z w e, follows.counts);
      } in
      p (rests.turn ∷ after_count z b k) (rests.turning (after_count z b k)) (follows_turn sc context ps level most (after_count z b k) h.2 q h.0 h.5 further) (omega (arith, room))
      (turning_at sc context ps level most (after_count z b k) h.2 q h.0 h.5 further)

  repeated_by : (c : Bool) (b : PStmt) (k : List Item) (r : Rest) (q t u : ℕ) (h : ThruAt sc context ps level b q t) → FragmentGoes ps level t u → Following k u →
      SlotsHaveRoom most (pend k) (3 + stmt_depth b) → Performs b h.1 h.2 → Coming r u (pend k) → (z : ℤ) → IsWholeNumber z → int_lt (pos 0) z ≡ c →
      Coming (if c then counted_body sc b k z else r) q (operand (number z) ∷ pend k)
  repeated_by true b k r q t u h g follows room p y z w e =
      after_rest sc context ps level most (first (counts z h.3 w e (omega (arith, room))) there) (count_body b k q t u h g follows room p z w e)
  repeated_by false b k r q t u h g follows room p y z w e =
      after_rest sc context ps level most (first (spent z h.3 w e (omega (arith, room))) (first (drop (number z) h.6) (leads_by sc context ps level most g))) y

  -- at its number
  pub repeated_at : (b : PStmt) (k : List Item) (r : Rest) (q t u : ℕ) (h : ThruAt sc context ps level b q t) → FragmentGoes ps level t u → Following k u →
      SlotsHaveRoom most (pend k) (3 + stmt_depth b) → Performs b h.1 h.2 → Coming r u (pend k) → (z : ℤ) → IsWholeNumber z →
      Coming (counted_of (val (number z)) b k (counted_body sc b k) r) q (operand (number z) ∷ pend k)
  repeated_at b k r q t u h g follows room p y z w = repeated_by (int_lt (pos 0) z) b k r q t u h g follows room p y z w refl

  pub counted_stands : (x : Half) (b : PStmt) (k : List Item) (r : Rest) (pc : ℕ) (slots : List Slot) (q t u : ℕ) → Shows sc context ps level most types.Number x pc slots (pend k) q →
      (h : ThruAt sc context ps level b q t) → FragmentGoes ps level t u → Following k u → SlotsHaveRoom most (pend k) (3 + stmt_depth b) → Performs b h.1 h.2 → Coming r u (pend k) →
      Coming (counted_of x b k (counted_body sc b k) r) pc slots
  counted_stands (val (number z)) b k r pc slots q t u sh h g follows room p y =
      after_rest sc context ps level most (valued_at sc context ps level most pc slots (number z) (pend k) q sh.0 sh.1) (repeated_at b k r q t u h g follows room p y z sh.2)
  counted_stands (val (truth v)) b k r pc slots q t u sh h g follows room p y = absurd sh.2
  counted_stands (busy x) b k r pc slots q t u sh h g follows room p y =
      stays_here sc context ps level most pc slots (rests.counting x b k) (holds_asks sc context ps level most types.Number x pc slots (pend k) q sh) (q, t, u, sh, h, g, follows, room)

  -- ---- FOR

  abbrev pub RoundRoom : Loop → List Item → Type 0
  RoundRoom loop k = SlotsHaveRoom most (pend k) (loop_depth loop.step loop.last + stmt_depth loop.body)

  follows_test : (loop : Loop) (k : List Item) (q m n t u : ℕ) → ExprAt sc context ps level types.Number (difference_in loop) q m m → StepAt sc context ps level loop.step m u n →
      RoundAt sc context ps level most loop q n t → Following k u → RoundRoom loop k → Following (rests.test loop ∷ k) q
  follows_test loop k q m n t u d s h follows room = record {
    at = (q, t, u, stop, (m, n, h.0, h.1, d, s, h.2, h.3, h.4), follows.at);
    shallow = (omega (arith, room, pend_length k), follows.shallow);
    counts = follows.counts;
  }

  -- another turn
  pub again_at : (loop : Loop) (k : List Item) (q m n t u : ℕ) → ExprAt sc context ps level types.Number (difference_in loop) q m m → StepAt sc context ps level loop.step m u n →
      (h : RoundAt sc context ps level most loop q n t) → Following k u → RoundRoom loop k → Performs loop.body n h.0 → Coming (again sc loop k) n (pend k)
  again_at loop k q m n t u d s h follows room p =
      let tested = follows_test loop k q m n t u d s h follows room in
      let turned = follows_turn sc context ps level most (rests.test loop ∷ k) h.1 q t h.4 tested in
      let deep : SlotsHaveRoom most (pend k) (stmt_depth (stepped loop)) = omega (arith, room, depth_positive loop.last) in
      let run = follows_run sc context ps level most (stepped loop) (rests.turn ∷ rests.test loop ∷ k) h.0 h.1 h.1 h.3 stop deep turned in
      p (rests.run (stepped loop) ∷ rests.turn ∷ rests.test loop ∷ k) (settle_stmt sc (stepped loop) (rests.turn ∷ rests.test loop ∷ k) (rests.turning (rests.test loop ∷ k))) run
      (omega (arith, room))
      (assign_at sc context ps level most loop.control (tree.two operators.Add (alone loop.control) loop.step) h.0 h.1 (rests.turn ∷ rests.test loop ∷ k) h.3 turned (omega (arith, deep)))

  past_by : (c : Bool) (d z : ℤ) (x y : Rest) (m u n : ℕ) (below : List Slot) → is_past d z ≡ c → PastAt sc context ps level m u n → IsWholeNumber d → IsWholeNumber z → SlotsHaveRoom most below 4 →
      Coming x u below → Coming y n below → Coming (if c then x else y) m (operand (number z) ∷ operand (number d) ∷ below)
  past_by true d z x y m u n below e h i j room a b = after_rest sc context ps level most (first (past d z h i j e room) there) a
  past_by false d z x y m u n below e h i j room a b = after_rest sc context ps level most (first (within d z h i j e room) there) b

  literal_by : (c : Bool) (d z : ℤ) (x y : Rest) (m u n : ℕ) (below : List Slot) → is_past d z ≡ c → (s : StepSign z) → SignedAt sc context ps level s m u n → IsWholeNumber d →
      SlotsHaveRoom most below 2 → Coming x u below → Coming y n below → Coming (if c then x else y) m (operand (number d) ∷ below)
  literal_by true d z x y m u n below e s h i room a b = after_rest sc context ps level most (first (past_literal n d z s h i e room) there) a
  literal_by false d z x y m u n below e s h i room a b = after_rest sc context ps level most (first (within_literal u d z s h i e room) there) b

  -- the step lies on the difference
  pub tested_stands : (d : Value) (x : Half) (loop : Loop) (k : List Item) (r : Rest) (pc : ℕ) (slots : List Slot) (q m m' n t u : ℕ) → HasKind types.Number d →
      Shows sc context ps level most types.Number x pc slots (operand d ∷ pend k) m' → ExprAt sc context ps level types.Number (difference_in loop) q m m →
      ExprAt sc context ps level types.Number loop.step m m' m' → PastAt sc context ps level m' u n → RoundAt sc context ps level most loop q n t → Following k u → RoundRoom loop k →
      Coming r u (pend k) → Coming (again sc loop k) n (pend k) → Coming (tested_of sc d x loop k r) pc slots
  tested_stands (number d) (val (number z)) loop k r pc slots q m m' n t u kd sh e s h o follows room a b =
      after_rest sc context ps level most (valued_at sc context ps level most pc slots (number z) (operand (number d) ∷ pend k) m' sh.0 sh.1)
      (past_by (is_past d z) d z r (again sc loop k) m' u n (pend k) refl h kd sh.2 (omega (arith, room)) a b)
  tested_stands (number d) (val (truth z)) loop k r pc slots q m m' n t u kd sh e s h o follows room a b = absurd sh.2
  tested_stands (truth d) x loop k r pc slots q m m' n t u kd sh e s h o follows room a b = absurd kd
  tested_stands (number d) (busy x) loop k r pc slots q m m' n t u kd sh e s h o follows room a b =
      stays_here sc context ps level most pc slots (rests.stepping (number d) x loop k)
      (holds_asks sc context ps level most types.Number x pc slots (operand (number d) ∷ pend k) m' sh) (q, m, m', n, t, u, kd, sh, e, s, h, o, follows, room)

  -- the difference lies there
  differed_by : (d : ℤ) (loop : Loop) (k : List Item) (r : Rest) (q m n t u : ℕ) → IsWholeNumber d → ExprAt sc context ps level types.Number (difference_in loop) q m m →
      StepAt sc context ps level loop.step m u n → RoundAt sc context ps level most loop q n t → Following k u → RoundRoom loop k → Coming r u (pend k) →
      Coming (again sc loop k) n (pend k) → Coming (tested_of sc (number d) (settle sc loop.step) loop k r) m (operand (number d) ∷ pend k)
  differed_by d loop k r q m n t u w e (any m' s h) o follows room a b =
      let c = settle_at sc context ps level most types.Number loop.step m m' m' s stop (operand (number d) ∷ pend k) (omega (arith, room)) in
      after_rest sc context ps level most c.leads
      (tested_stands (number d) (settle sc loop.step) loop k r c.at c.with_slots q m m' n t u w c.shows e s h o follows room a b)
  differed_by d loop k r q m n t u w e (literal z l s h) o follows room a b =
      subst (λ y. Coming (tested_of sc (number d) y loop k r) m (operand (number d) ∷ pend k)) (sym (literal_settles sc loop.step z l))
      (literal_by (is_past d z) d z r (again sc loop k) m u n (pend k) refl s h w (omega (arith, room)) a b)

  pub differed_stands : (x : Half) (loop : Loop) (k : List Item) (r : Rest) (pc : ℕ) (slots : List Slot) (q m n t u : ℕ) →
      Shows sc context ps level most types.Number x pc slots (pend k) m → ExprAt sc context ps level types.Number (difference_in loop) q m m →
      StepAt sc context ps level loop.step m u n → RoundAt sc context ps level most loop q n t → Following k u → RoundRoom loop k → Coming r u (pend k) →
      Coming (again sc loop k) n (pend k) → Coming (differed_of sc x loop k r) pc slots
  differed_stands (val (number d)) loop k r pc slots q m n t u sh e s o follows room a b =
      after_rest sc context ps level most (valued_at sc context ps level most pc slots (number d) (pend k) m sh.0 sh.1)
      (differed_by d loop k r q m n t u sh.2 e s o follows room a b)
  differed_stands (val (truth d)) loop k r pc slots q m n t u sh e s o follows room a b = absurd sh.2
  differed_stands (busy x) loop k r pc slots q m n t u sh e s o follows room a b =
      stays_here sc context ps level most pc slots (rests.differing x loop k) (holds_asks sc context ps level most types.Number x pc slots (pend k) m sh) (q, m, n, t, u, sh, e, s, o, follows, room)
