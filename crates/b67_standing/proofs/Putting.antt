-- The action at the head of an expression stands where the machine stands for it, and from where it leaves the machine the rest of the
-- expression goes on. Where it entered a procedure, the rest goes on with the value that this gives. So it is with the actuals of a call.
use Rattle.std.proofs.Common.{◌≡◌, refl, sym, ap, ◌∙◌, subst, ℕ, arith, List, [], ◌∷◌, ◌++◌}
use Rattle.algol_tree.specs.declared.tree.Kind.{Kind}
use Rattle.algol_tree.specs.declared.tree.Kind.TheVariants as types
use Rattle.algol_tree.specs.declared.tree.Named.{Named}
use Rattle.algol_tree.specs.Plain as tree
use Rattle.algol_tree.specs.Plain.{PExpr, PExprs}
use Rattle.algol_tree.specs.Sorts.{Sort}
use Rattle.algol_tree.specs.Types.{given_by, taken_by, told_by}
use Rattle.algol_tree.specs.Scopes.{Scopes}
use Rattle.b67_num.specs.declared.NumFault.{NumFault}
use Rattle.algol_meaning.specs.Value.{Value}
use Rattle.algol_meaning.specs.Rest as rests
use Rattle.b67_deeds.specs.declared.EventTest.{EventTest}
use Rattle.b67_deeds.specs.Deeds as deeds
use Rattle.algol_meaning.specs.Rest.{Given, Hole, Actuals, Half, val, busy, HalfGiven, Answer}
use Rattle.algol_meaning.specs.Settle.{subscripted_of, right_of, left_of, negated_of, inverted_of, condition_of, called_of, valued_of, half_of, settle, settle_actuals, answer_put, put_actuals}
use Rattle.algol_meaning.specs.Asks.{Ask, nothing, reads, reads_element, indexes, passes, event_deed, fails, ask_hole, ask_actuals}
use Rattle.b67_segment.specs.Operators.{Placed}
use Rattle.b67_templates.specs.Contexts as yielding
use Rattle.b67_templates.specs.Contexts.{Yields, yields_of, Context}
use Rattle.b67_templates.specs.Fragments.{HasKind, FragmentGoes, stop, over}
use Rattle.b67_templates.specs.Cells.{Wanted, parameter_wants}
use Rattle.b67_templates.specs.Code.{ReadAt}
use Rattle.b67_standing.specs.Stepping.{row, Slot, operand, descriptor, ready, SlotsHaveRoom}
use Rattle.b67_standing.specs.Standing.{given_slots, call_begun, Gives, pushed, IsNext, ActsOnAt, ElementReadAt, of_row, Holds, Fills, ActionAt, Acted, Entered}
use Rattle.b67_standing.proofs.Actuals.{ComesFilled, after_filled, actual_done, actual_stands, fills_room}
use Rattle.b67_standing.proofs.Seeking.{Seeking, sought_in}
use Rattle.b67_standing.proofs.Halves.{Comes, here, after, of_kind, right_at, left_at, negated_at, inverted_at, condition_at}
use Rattle.b67_standing.proofs.Subscripts.{subscript_at}
use Rattle.b67_standing.proofs.Settling.{called_stands, settle_at, actuals_at}

-- the expression while a procedure that its head entered is in progress
abbrev mutual
  pub inside_of : Hole → Hole
  inside_of (rests.subscript n ks h es) = rests.subscript n ks (inside_of h) es
  inside_of (rests.left op h b) = rests.left op (inside_of h) b
  inside_of (rests.right op v h) = rests.right op v (inside_of h)
  inside_of (rests.negated h) = rests.negated (inside_of h)
  inside_of (rests.inverted h) = rests.inverted (inside_of h)
  inside_of (rests.condition h x y) = rests.condition (inside_of h) x y
  inside_of (rests.argument n x) = rests.argument n (inside_actuals x)
  inside_of _ = rests.inside

  pub inside_actuals : Actuals → Actuals
  inside_actuals (rests.in_value gs h sorts es) = rests.in_value gs (inside_of h) sorts es
  inside_actuals (rests.pass gs n sorts es) = rests.in_value gs rests.inside sorts es

-- it asks for nothing
mutual
  pub inside_asks : (h : Hole) → ask_hole (inside_of h) ≡ nothing
  inside_asks (rests.subscript n ks h es) = inside_asks h
  inside_asks (rests.left op h b) = inside_asks h
  inside_asks (rests.right op v h) = inside_asks h
  inside_asks (rests.negated h) = inside_asks h
  inside_asks (rests.inverted h) = inside_asks h
  inside_asks (rests.condition h x y) = inside_asks h
  inside_asks (rests.argument n x) = inside_actuals_ask x
  inside_asks _ = refl

  pub inside_actuals_ask : (x : Actuals) → ask_actuals (inside_actuals x) ≡ nothing
  inside_actuals_ask (rests.in_value gs h sorts es) = inside_asks h
  inside_actuals_ask (rests.pass gs n sorts es) = refl

-- where the head enters a procedure, the expression is in progress, and goes on with its value as after an answer
pub record Inside (sc : Scopes) (h : Hole) : Type 0 where
  pub inner : answer_put sc h rests.entered ≡ busy (inside_of h)
  pub same : (a : Answer) → answer_put sc (inside_of h) a ≡ answer_put sc h a

pub record InsideActuals (sc : Scopes) (x : Actuals) : Type 0 where
  pub inner : put_actuals sc x rests.entered ≡ rests.wants (inside_actuals x)
  pub same : (a : Answer) → put_actuals sc (inside_actuals x) a ≡ put_actuals sc x a

-- The head does what is asked for, and whatever it answers, the machine then comes to where it stands for the expression. Where a
-- procedure was entered, what is in progress goes on with its value as after an answer.
pub record PutsOn (sc : Scopes) (context : Context) (ps : List Placed) (level most : ℕ) (q : Ask) (k : Kind) (h : Hole) (pc : ℕ) (slots below : List Slot) (to : ℕ) : Type 0 where
  pub action : ActionAt sc context ps level most q pc slots
  pub answered : (a : Answer) (at : ℕ) (after : List Slot) → Acted sc context ps level most q pc slots action a at after →
      Comes sc context ps level most k at after (answer_put sc h a) below to
  pub returns : (at : ℕ) (after : List Slot) (wanted : Yields) → Entered sc context ps level most q pc slots action at after wanted → (a : Answer) → Gives wanted a →
      Comes sc context ps level most k at (pushed wanted a after) (answer_put sc h a) below to
  pub inside : (at : ℕ) (after : List Slot) (wanted : Yields) → Entered sc context ps level most q pc slots action at after wanted → Inside sc h

-- the same of actuals
pub record FillsOn (sc : Scopes) (context : Context) (ps : List Placed) (level most : ℕ) (q : Ask) (all : List Wanted) (x : Actuals) (pc : ℕ) (slots begun : List Slot)
    (filled : ℕ) : Type 0 where
  pub action : ActionAt sc context ps level most q pc slots
  pub answered : (a : Answer) (at : ℕ) (after : List Slot) → Acted sc context ps level most q pc slots action a at after →
      ComesFilled sc context ps level most all (put_actuals sc x a) at after begun filled
  pub returns : (at : ℕ) (after : List Slot) (wanted : Yields) → Entered sc context ps level most q pc slots action at after wanted → (a : Answer) → Gives wanted a →
      ComesFilled sc context ps level most all (put_actuals sc x a) at (pushed wanted a after) begun filled
  pub inside : (at : ℕ) (after : List Slot) (wanted : Yields) → Entered sc context ps level most q pc slots action at after wanted → InsideActuals sc x

module _ (sc : Scopes) (context : Context) (ps : List Placed) (level most : ℕ) where
  abbrev Putting : Kind → Hole → ℕ → List Slot → List Slot → ℕ → Type 0
  Putting k h = PutsOn sc context ps level most (ask_hole h) k h

  abbrev Coming : Kind → ℕ → List Slot → Half → List Slot → ℕ → Type 0
  Coming = Comes sc context ps level most

  read_answered : (k : Kind) (n : Named) (pc next : ℕ) (slots below : List Slot) (to : ℕ) (h : ReadAt sc context ps level n k pc next) (room : SlotsHaveRoom most slots 1) → slots ≡ below →
      FragmentGoes ps level next to → (a : Answer) (at : ℕ) (left : List Slot) → Acted sc context ps level most (reads n) pc slots (k, next, h, room) a at left →
      Coming k at left (half_of a) below to
  read_answered k n pc next slots below to h room e g (rests.value v) at left l =
      here sc context ps level most k at left (val v) below to (subst (λ z. FragmentGoes ps level z to) (sym l.0) g, l.1 ∙ ap (λ o. operand v ∷ o) e, l.2)
  read_answered k n pc next slots below to h room e g rests.done at left l = absurd l
  read_answered k n pc next slots below to h room e g (rests.cell c) at left l = absurd l
  read_answered k n pc next slots below to h room e g (rests.place p) at left l = absurd l
  read_answered k n pc next slots below to h room e g rests.entered at left l = absurd l

  element_answered : (k : Kind) (n : Named) (ks : List ℕ) (v : Value) (pc next : ℕ) (slots below : List Slot) (to : ℕ)
      (r : ElementReadAt sc context ps level most n ks v pc next slots below) → (r.array).kind ≡ k → FragmentGoes ps level next to → (a : Answer) (at : ℕ) (left : List Slot) →
      Acted sc context ps level most (reads_element n ks v) pc slots (next, below, r) a at left → Coming k at left (half_of a) below to
  element_answered k n ks v pc next slots below to r same g (rests.value w) at left l =
      here sc context ps level most k at left (val w) below to (subst (λ z. FragmentGoes ps level z to) (sym l.0) g, l.1, subst (λ z. HasKind z w) same l.2)
  element_answered k n ks v pc next slots below to r same g rests.done at left l = absurd l
  element_answered k n ks v pc next slots below to r same g (rests.cell c) at left l = absurd l
  element_answered k n ks v pc next slots below to r same g (rests.place p) at left l = absurd l
  element_answered k n ks v pc next slots below to r same g rests.entered at left l = absurd l

  tested_answered : (k : Kind) (x : EventTest) (ns : List Named) (pc next : ℕ) (slots below : List Slot) (to : ℕ) → k ≡ told_by x →
      (r : ActsOnAt sc context ps level most (deeds.tests x) ns pc next slots below) → FragmentGoes ps level next to → (a : Answer) (at : ℕ) (left : List Slot) →
      Acted sc context ps level most (event_deed (deeds.tests x) ns) pc slots (next, below, r) a at left → Coming k at left (half_of a) below to
  tested_answered k x ns pc next slots below to same r g (rests.value v) at left l =
      here sc context ps level most k at left (val v) below to (subst (λ z. FragmentGoes ps level z to) (sym l.0) g, l.1, subst (λ z. HasKind z v) (sym same) l.2)
  tested_answered k x ns pc next slots below to same r g rests.done at left l = absurd l
  tested_answered k x ns pc next slots below to same r g (rests.cell c) at left l = absurd l
  tested_answered k x ns pc next slots below to same r g (rests.place p) at left l = absurd l
  tested_answered k x ns pc next slots below to same r g rests.entered at left l = absurd l

  -- on the descriptor of a row the second subscript comes to stand
  pub row_on : (k : Kind) (n : Named) (ks : List ℕ) (v : Value) (e : PExpr) (pc : ℕ) (slots below : List Slot) (to : ℕ)
      (s : Holds sc context ps level most k (rests.index n ks v e tree.none) pc slots below to) (more : List ℕ) → IsNext ks more →
      Coming k s.2 (descriptor (row n more) ∷ below) (subscripted_of n more (settle sc e) tree.none) below to
  row_on k n ks v e pc slots below to s more next =
      let r = s.5 in
      let two = s.7 in
      let one : more ≡ next.0 ∷ [] = next.1 ∙ ap (λ js. js ++ next.0 ∷ []) r.first in
      let over = descriptor (row n (next.0 ∷ [])) ∷ below in
      let d = settle_at sc context ps level most types.Number e s.2 two.0 two.0 two.2 stop over (omega (arith, s.9)) in
      let seeks : Seeking sc context ps level most (settle sc e) d.at d.with_slots n r.couple (r.array).lows (next.0 ∷ []) tree.none below s.3 =
      subst (λ lows. Seeking sc context ps level most (settle sc e) d.at d.with_slots n r.couple lows (next.0 ∷ []) tree.none below s.3) (sym r.lows_are)
      (two.0, two.1, d.shows, two.3, two.4, omega (arith, s.9)) in
      subst (λ js. Coming k s.2 (descriptor (row n js) ∷ below) (subscripted_of n js (settle sc e) tree.none) below to) (sym one)
      (after sc context ps level most k d.leads
      (subscript_at sc context ps level most k n r.array r.couple (settle sc e) d.at d.with_slots (next.0 ∷ []) tree.none below s.3 s.4 to r.is_array s.6 seeks s.8 s.10))

  row_answered : (k : Kind) (n : Named) (ks : List ℕ) (v : Value) (e : PExpr) (pc : ℕ) (slots below : List Slot) (to : ℕ)
      (s : Holds sc context ps level most k (rests.index n ks v e tree.none) pc slots below to) (a : Answer) (at : ℕ) (left : List Slot) →
      Acted sc context ps level most (indexes n ks v) pc slots (of_row s.0 s.1 s.2 below s.5) a at left →
      Coming k at left (answer_put sc (rests.index n ks v e tree.none) a) below to
  row_answered k n ks v e pc slots below to s (rests.place (rests.element_of r more)) at left l =
      let half = subscripted_of n more (settle sc e) tree.none in
      subst (λ z. Coming k z left half below to) (sym l.0) (subst (λ o. Coming k s.2 o half below to) (sym l.1) (row_on k n ks v e pc slots below to s more l.2))
  row_answered k n ks v e pc slots below to s (rests.place (rests.own x)) at left l = absurd l
  row_answered k n ks v e pc slots below to s (rests.place (rests.there x)) at left l = absurd l
  row_answered k n ks v e pc slots below to s (rests.value w) at left l = absurd l
  row_answered k n ks v e pc slots below to s rests.done at left l = absurd l
  row_answered k n ks v e pc slots below to s (rests.cell c) at left l = absurd l
  row_answered k n ks v e pc slots below to s rests.entered at left l = absurd l

  pub no_answer : (fault : NumFault) (pc : ℕ) (slots : List Slot) (h : ActionAt sc context ps level most (fails fault) pc slots) (a : Answer) (at : ℕ) (left : List Slot) →
      Acted sc context ps level most (fails fault) pc slots h a at left → ⊥
  no_answer fault pc slots h (rests.value v) at left l = l
  no_answer fault pc slots h rests.done at left l = l
  no_answer fault pc slots h (rests.cell c) at left l = l
  no_answer fault pc slots h (rests.place p) at left l = l
  no_answer fault pc slots h rests.entered at left l = l

  -- the value that a part inside gives lies where that of the expression is to lie
  value_given : (k : Kind) (next : ℕ) (below : List Slot) (to : ℕ) → FragmentGoes ps level next to → (a : Answer) (at : ℕ) (left : List Slot) → at ≡ next → left ≡ below →
      Gives (yielding.value k) a → Coming k at (pushed (yielding.value k) a left) (half_of a) below to
  value_given k next below to g (rests.value v) at left e l fits =
      here sc context ps level most k at (operand v ∷ left) (val v) below to (subst (λ z. FragmentGoes ps level z to) (sym e) g, ap (λ o. operand v ∷ o) l, fits)
  value_given k next below to g rests.done at left e l fits = absurd fits
  value_given k next below to g (rests.cell c) at left e l fits = absurd fits
  value_given k next below to g (rests.place p) at left e l fits = absurd fits
  value_given k next below to g rests.entered at left e l fits = absurd fits

  given_back : (k : Kind) (next : ℕ) (below : List Slot) (to : ℕ) → FragmentGoes ps level next to → (wanted : Yields) → wanted ≡ yielding.value k → (a : Answer) (at : ℕ) (left : List Slot) →
      at ≡ next → left ≡ below → Gives wanted a → Coming k at (pushed wanted a left) (half_of a) below to
  given_back k next below to g wanted is a at left e l fits =
      subst (λ (y : Yields). Gives y a → Coming k at (pushed y a left) (half_of a) below to) (sym is) (λ f. value_given k next below to g a at left e l f) fits

  -- what a parameter's cell has lies there, and the actuals after it come
  passed_answered : (all : List Wanted) (gs : List Given) (x : Named) (sorts : List Sort) (es : PExprs) (pc : ℕ) (slots begun : List Slot) (filled : ℕ)
      (s : Fills sc context ps level most all (rests.pass gs x sorts es) pc slots begun filled) → (a : Answer) (at : ℕ) (left : List Slot) →
      Acted sc context ps level most (passes x) pc slots (s.1, s.3, given_slots s.0 gs begun, s.6) a at left →
      ComesFilled sc context ps level most all (put_actuals sc (rests.pass gs x sorts es) a) at left begun filled
  passed_answered all gs x sorts es pc slots begun filled s (rests.cell c) at left l =
      let more = settle_actuals sc es sorts (gs ++ rests.passed c ∷ []) in
      subst (λ z. ComesFilled sc context ps level most all more z left begun filled) (sym l.0)
      (subst (λ o. ComesFilled sc context ps level most all more s.3 o begun filled) (sym l.1)
      (actual_done sc context ps level most all gs s.0 s.1 s.2 sorts es s.3 filled begun (rests.passed c)
      (record { wants_are = s.4; fit = s.5; actuals = s.7; room = s.8 }) (l.2, tt) (actuals_at sc context ps level most es sorts s.2 all s.3 filled begun s.7)))
  passed_answered all gs x sorts es pc slots begun filled s (rests.value v) at left l = absurd l
  passed_answered all gs x sorts es pc slots begun filled s rests.done at left l = absurd l
  passed_answered all gs x sorts es pc slots begun filled s (rests.place p) at left l = absurd l
  passed_answered all gs x sorts es pc slots begun filled s rests.entered at left l = absurd l

  mutual
    pub puts_on : (k : Kind) (h : Hole) (pc : ℕ) (slots below : List Slot) (to : ℕ) → Holds sc context ps level most k h pc slots below to → Putting k h pc slots below to
    puts_on k (rests.read n) pc slots below to s =
        let room : SlotsHaveRoom most slots 1 = subst (λ o. SlotsHaveRoom most o 1) (sym s.2) s.3 in
        record {
          action = (k, s.0, s.1, room);
          answered = read_answered k n pc s.0 slots below to s.1 room s.2 s.4;
          returns = λ at left wanted l a fits. given_back k s.0 below to s.4 wanted l.2 a at left l.0 (l.1 ∙ s.2) fits;
          inside = λ at left wanted l. record { inner = refl; same = λ a. refl };
        }
    puts_on k (rests.enter n gs) pc slots below to s = record {
      action = (s.0, s.1, below, s.2);
      answered = λ a at left l. absurd l;
      returns = λ at left wanted l a fits. given_back k s.1 below to s.5 wanted (l.2 ∙ ap yields_of s.3) a at left l.0 l.1 fits;
      inside = λ at left wanted l. record { inner = refl; same = λ a. refl };
    }
    puts_on k (rests.element n ks v) pc slots below to s = record {
      action = (s.0, below, s.1);
      answered = element_answered k n ks v pc s.0 slots below to s.1 s.2 s.4;
      returns = λ at left wanted l. absurd l;
      inside = λ at left wanted l. absurd l;
    }
    puts_on k (rests.tests x ns) pc slots below to s = record {
      action = (s.0, below, s.2);
      answered = tested_answered k x ns pc s.0 slots below to s.1 s.2 s.3;
      returns = λ at left wanted l. absurd l;
      inside = λ at left wanted l. absurd l;
    }
    puts_on k (rests.index n ks v e tree.none) pc slots below to s = record {
      action = of_row s.0 s.1 s.2 below s.5;
      answered = row_answered k n ks v e pc slots below to s;
      returns = λ at left wanted l. absurd l;
      inside = λ at left wanted l. absurd l;
    }
    puts_on k (rests.subscript n ks h es) pc slots below to s =
        let w = sought_in sc context ps level most h pc slots n s.1 (s.0).lows ks es below s.2 s.6 in
        let p = puts_on types.Number h pc slots w.over w.at w.holds in
        let go : (z : Half) (at : ℕ) (left : List Slot) → Coming types.Number at left z w.over w.at → Coming k at left (subscripted_of n ks z es) below to = λ z at left c.
        after sc context ps level most k c.leads
        (subscript_at sc context ps level most k n s.0 s.1 z c.at c.with_slots ks es below s.2 s.3 to s.4 s.5 (w.back z c.at c.with_slots c.shows) s.7 s.8) in
        record {
          action = p.action;
          answered = λ a at left l. go (answer_put sc h a) at left (p.answered a at left l);
          returns = λ at left wanted l a fits. go (answer_put sc h a) at (pushed wanted a left) (p.returns at left wanted l a fits);
          inside = λ at left wanted l.
              let i = p.inside at left wanted l in record { inner = ap (λ z. subscripted_of n ks z es) i.inner; same = λ a. ap (λ z. subscripted_of n ks z es) (i.same a) };
        }
    puts_on k (rests.broken op v w fault) pc slots below to s = record {
      action = (op, v, w, s.0, below, s.2);
      answered = λ a at left l. absurd (no_answer fault pc slots (op, v, w, s.0, below, s.2) a at left l);
      returns = λ at left wanted l. absurd l;
      inside = λ at left wanted l. record { inner = refl; same = λ a. refl };
    }
    puts_on k (rests.left op h b) pc slots below to s =
        let p = puts_on (taken_by op) h pc slots below s.0 s.5 in
        let around : Half → Half = λ z. left_of op z b (settle sc b) in
        let go : (z : Half) (at : ℕ) (left : List Slot) → Coming (taken_by op) at left z below s.0 → Coming k at left (around z) below to = λ z at left c.
        of_kind sc context ps level most at left (around z) below to s.4
        (after sc context ps level most (given_by op) c.leads
        (left_at sc context ps level most op z b (settle sc b) c.at c.with_slots below s.0 s.1 s.2 s.3 to c.shows s.6 s.7 s.8
        (λ o room. settle_at sc context ps level most (taken_by op) b s.1 s.2 s.2 s.7 stop o room) s.9 s.10)) in
        record {
          action = p.action;
          answered = λ a at left l. go (answer_put sc h a) at left (p.answered a at left l);
          returns = λ at left wanted l a fits. go (answer_put sc h a) at (pushed wanted a left) (p.returns at left wanted l a fits);
          inside = λ at left wanted l.
              let i = p.inside at left wanted l in record { inner = ap around i.inner; same = λ a. ap around (i.same a) };
        }
    puts_on k (rests.right op v h) pc slots below to s =
        let p = puts_on (taken_by op) h pc slots (operand (ready op v) ∷ below) s.0 s.4 in
        let go : (z : Half) (at : ℕ) (left : List Slot) → Coming (taken_by op) at left z (operand (ready op v) ∷ below) s.0 → Coming k at left (right_of op v z) below to = λ z at left c.
        of_kind sc context ps level most at left (right_of op v z) below to s.2
        (after sc context ps level most (given_by op) c.leads (right_at sc context ps level most op v z c.at c.with_slots below s.0 s.1 to c.shows s.3 s.5 s.6)) in
        record {
          action = p.action;
          answered = λ a at left l. go (answer_put sc h a) at left (p.answered a at left l);
          returns = λ at left wanted l a fits. go (answer_put sc h a) at (pushed wanted a left) (p.returns at left wanted l a fits);
          inside = λ at left wanted l.
              let i = p.inside at left wanted l in record { inner = ap (right_of op v) i.inner; same = λ a. ap (right_of op v) (i.same a) };
        }
    puts_on k (rests.negated h) pc slots below to s =
        let p = puts_on types.Number h pc slots below s.0 s.3 in
        let go : (z : Half) (at : ℕ) (left : List Slot) → Coming types.Number at left z below s.0 → Coming k at left (negated_of z) below to = λ z at left c.
        of_kind sc context ps level most at left (negated_of z) below to s.2
        (after sc context ps level most types.Number c.leads (negated_at sc context ps level most z c.at c.with_slots below s.0 s.1 to c.shows s.4 s.5)) in
        record {
          action = p.action;
          answered = λ a at left l. go (answer_put sc h a) at left (p.answered a at left l);
          returns = λ at left wanted l a fits. go (answer_put sc h a) at (pushed wanted a left) (p.returns at left wanted l a fits);
          inside = λ at left wanted l.
              let i = p.inside at left wanted l in record { inner = ap negated_of i.inner; same = λ a. ap negated_of (i.same a) };
        }
    puts_on k (rests.inverted h) pc slots below to s =
        let p = puts_on types.Truth h pc slots below s.0 s.3 in
        let go : (z : Half) (at : ℕ) (left : List Slot) → Coming types.Truth at left z below s.0 → Coming k at left (inverted_of z) below to = λ z at left c.
        of_kind sc context ps level most at left (inverted_of z) below to s.2
        (after sc context ps level most types.Truth c.leads (inverted_at sc context ps level most z c.at c.with_slots below s.0 s.1 to c.shows s.4 s.5)) in
        record {
          action = p.action;
          answered = λ a at left l. go (answer_put sc h a) at left (p.answered a at left l);
          returns = λ at left wanted l a fits. go (answer_put sc h a) at (pushed wanted a left) (p.returns at left wanted l a fits);
          inside = λ at left wanted l.
              let i = p.inside at left wanted l in record { inner = ap inverted_of i.inner; same = λ a. ap inverted_of (i.same a) };
        }
    puts_on k (rests.condition h x y) pc slots below to s =
        let p = puts_on types.Truth h pc slots below s.0 s.6 in
        let around : Half → Half = λ z. condition_of z x y (settle sc x) (settle sc y) in
        let go : (z : Half) (at : ℕ) (left : List Slot) → Coming types.Truth at left z below s.0 → Coming k at left (around z) below to = λ z at left c.
        after sc context ps level most k c.leads
        (condition_at sc context ps level most k z x y (settle sc x) (settle sc y) c.at c.with_slots below s.0 s.1 s.2 s.3 s.4 s.5 to c.shows s.7 s.8 s.9 s.10 s.11 s.12 s.13
        (settle_at sc context ps level most k x s.1 s.2 s.5 s.8 (over s.3 s.9 stop) below (omega (arith, s.13)))
        (settle_at sc context ps level most k y s.3 s.4 s.5 s.10 s.11 below (omega (arith, s.13)))) in
        record {
          action = p.action;
          answered = λ a at left l. go (answer_put sc h a) at left (p.answered a at left l);
          returns = λ at left wanted l a fits. go (answer_put sc h a) at (pushed wanted a left) (p.returns at left wanted l a fits);
          inside = λ at left wanted l.
              let i = p.inside at left wanted l in record { inner = ap around i.inner; same = λ a. ap around (i.same a) };
        }
    puts_on k (rests.argument n x) pc slots below to s =
        let all = parameter_wants sc s.0 in
        let begun = call_begun s.1 below in
        let p = fills_on all x pc slots begun s.2 s.6 in
        let go : (z : HalfGiven) (at : ℕ) (left : List Slot) → ComesFilled sc context ps level most all z at left begun s.2 → Coming k at left (called_of n z) below to = λ z at left c.
        after sc context ps level most k c.leads
        (called_stands sc context ps level most k n s.0 s.1 z c.at c.with_slots below s.2 s.3 to s.5 c.fills s.7 s.4
        (omega (arith, fills_room sc context ps level most all x pc slots begun s.2 s.6)) s.8) in
        record {
          action = p.action;
          answered = λ a at left l. go (put_actuals sc x a) at left (p.answered a at left l);
          returns = λ at left wanted l a fits. go (put_actuals sc x a) at (pushed wanted a left) (p.returns at left wanted l a fits);
          inside = λ at left wanted l.
              let i = p.inside at left wanted l in record { inner = ap (called_of n) i.inner; same = λ a. ap (called_of n) (i.same a) };
        }
    puts_on k _ pc slots below to s = absurd s

    pub fills_on : (all : List Wanted) (x : Actuals) (pc : ℕ) (slots begun : List Slot) (filled : ℕ) → Fills sc context ps level most all x pc slots begun filled →
        FillsOn sc context ps level most (ask_actuals x) all x pc slots begun filled
    fills_on all (rests.in_value gs h sorts es) pc slots begun filled s =
        let floor = given_slots s.0 gs begun in
        let p = puts_on s.1 h pc slots floor s.3 s.6 in
        let around : Half → HalfGiven = λ z. valued_of gs z sorts es (settle_actuals sc es sorts) in
        let go : (z : Half) (at : ℕ) (left : List Slot) → Coming s.1 at left z floor s.3 → ComesFilled sc context ps level most all (around z) at left begun filled = λ z at left c.
        after_filled sc context ps level most all (around z) begun filled c.leads
        (actual_stands sc context ps level most all gs s.0 s.1 s.2 sorts es s.3 filled begun z c.at c.with_slots
        (record { wants_are = s.4; fit = s.5; actuals = s.7; room = s.8 }) c.shows (actuals_at sc context ps level most es sorts s.2 all s.3 filled begun s.7)) in
        record {
          action = p.action;
          answered = λ a at left l. go (answer_put sc h a) at left (p.answered a at left l);
          returns = λ at left wanted l a fits. go (answer_put sc h a) at (pushed wanted a left) (p.returns at left wanted l a fits);
          inside = λ at left wanted l.
              let i = p.inside at left wanted l in record { inner = ap around i.inner; same = λ a. ap around (i.same a) };
        }
    fills_on all (rests.pass gs x sorts es) pc slots begun filled s = record {
      action = (s.1, s.3, given_slots s.0 gs begun, s.6);
      answered = passed_answered all gs x sorts es pc slots begun filled s;
      returns = λ at left wanted l. absurd l;
      inside = λ at left wanted l. absurd l;
    }
