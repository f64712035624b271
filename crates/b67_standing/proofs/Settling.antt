-- From the start of its code an expression comes, by private operators only, to where the machine stands for it after the silent steps.
use Rattle.std.proofs.Common.{◌≡◌, refl, sym, ap, ◌∙◌, subst, ℕ, ◌≤◌, arith, Bool, true, ◌+◌, List, [], ◌∷◌, length, Some}
use Rattle.std.proofs.lemmas.List.{append-nil, length-map}
use Rattle.algol_tree.specs.declared.tree.Kind.{Kind}
use Rattle.algol_tree.specs.declared.tree.Kind.TheVariants as types
use Rattle.algol_tree.specs.declared.tree.EventName.{EventName}
use Rattle.algol_tree.specs.declared.tree.Named.{Named}
use Rattle.b67_deeds.specs.declared.EventTest.{EventTest}
use Rattle.b67_deeds.specs.Deeds as deeds
use Rattle.b67_ops.specs.Intrinsics.{intrinsic_of}
use Rattle.algol_tree.specs.Plain as tree
use Rattle.algol_tree.specs.Plain.{PExpr, PExprs}
use Rattle.algol_tree.specs.Sorts.{Sort, procedure_in}
use Rattle.algol_tree.specs.Blocks.{block_numbered}
use Rattle.algol_tree.specs.Types.{given_by, taken_by, told_by}
use Rattle.algol_tree.specs.Scopes.{Scopes}
use Rattle.algol_meaning.specs.Value.{number, truth}
use Rattle.algol_meaning.specs.Rest as rests
use Rattle.algol_meaning.specs.Rest.{Half, val, busy, HalfGiven, given}
use Rattle.algol_meaning.specs.Settle.{left_of, negated_of, inverted_of, named_of, called_of, sorts_of, block_of_sort, sort_at, actual_of, settle, settle_actuals}
use Rattle.b67_ops.specs.declared.Couple.{Couple}
use Rattle.b67_ops.specs.declared.Operator.TheVariants as ops
use Rattle.b67_ops.specs.declared.PlainKind.TheVariants as kinds
use Rattle.b67_segment.specs.Operators.{Placed}
use Rattle.b67_templates.specs.Contexts.{Context}
use Rattle.b67_templates.specs.Fragments.{Has, FragmentGoes, stop, over}
use Rattle.b67_templates.specs.Cells as wants
use Rattle.b67_templates.specs.Cells.{Wanted, parameter_wants, IsProcedure, IsRead, of_variable, of_formal}
use Rattle.b67_templates.specs.Code.{NameAt, reads, calls, ExprAt, ActualsAt}
use Rattle.b67_templates.specs.Events.{names_of, AreSoMany, OnEventsAt}
use Rattle.b67_templates.specs.Depths.{depth}
use Rattle.b67_standing.specs.Stepping.{Slot, operand, reference, mark, SlotsHaveRoom, push_number, push_truth, summon, there, first}
use Rattle.b67_standing.specs.Standing.{given_slots, call_begun, ActualsAreGiven}
use Rattle.b67_standing.proofs.Leading.{depth_positive}
use Rattle.b67_standing.proofs.OnEvents.{all_named, events_named, events_there}
use Rattle.b67_standing.proofs.Actuals.{given_slots_length, Filled, ComesFilled, after_filled, ActualsOn, actual_stands, array_stands, event_stands, name_stands}
use Rattle.b67_standing.proofs.Values.{variable_reads, formal_reads, procedure_enters}
use Rattle.b67_standing.proofs.Halves.{Comes, here, after, of_kind, negated_at, inverted_at, left_at, condition_at}
use Rattle.b67_standing.proofs.Subscripts.{begun_at, subscript_at}

module _ (sc : Scopes) (context : Context) (ps : List Placed) (level most : ℕ) where
  abbrev Coming : Kind → ℕ → List Slot → Half → List Slot → ℕ → Type 0
  Coming = Comes sc context ps level most

  -- a name by itself: a variable that is read, or a typed procedure that is called
  read_alone : (k : Kind) (n : Named) (c : Couple) → IsRead sc context.level n k c → named_of (procedure_in (sort_at sc n)) n ≡ busy (rests.read n)
  read_alone k n c (of_variable i) = variable_reads (sort_at sc n) n i.variable
  read_alone k n c (of_formal i) = formal_reads (sort_at sc n) n i.sort_is

  name_at : (k : Kind) (n : Named) (f t u : ℕ) → NameAt sc context ps level k n f t → FragmentGoes ps level t u → (below : List Slot) → SlotsHaveRoom most below 2 →
      Coming k f below (named_of (procedure_in (sort_at sc n)) n) below u
  name_at k n f t u (reads h) g below room =
      subst (λ x. Coming k f below x below u) (sym (read_alone k n h.0 h.1))
      (here sc context ps level most k f below (busy (rests.read n)) below u (t, h, refl, omega (arith, room), g))
  name_at k n f t u (calls callee c none e) g below room =
      let b = c.2 in
      subst (λ x. Coming k f below x below u) (sym (procedure_enters (sort_at sc n) n callee (b.procedure).sort_is))
      (after sc context ps level most k (first (summon n callee b room) there)
      (here sc context ps level most k c.0 (reference b.couple ∷ mark ∷ below) (busy (rests.enter n [])) below u (
        callee,
        t,
        record {
          couple = b.couple;
          procedure = b.procedure;
          fit = subst (λ o. ActualsAreGiven sc context o []) (sym none) tt;
          lies = ap (λ o. given_slots o [] (reference b.couple ∷ mark ∷ below)) (sym none);
          stands = subst (λ z. Has ps level z (ops.Plain kinds.Entr) t) (sym c.3) c.4;
        },
        e,
        room,
        g,
      )))

  -- a call whose actuals are settled as far as that goes
  pub called_stands : (k : Kind) (n : Named) (callee : ℕ) (couple : Couple) (x : HalfGiven) (pc : ℕ) (slots below : List Slot) (filled next to : ℕ) → IsProcedure sc context.level n callee couple →
      Filled sc context ps level most (parameter_wants sc callee) x pc slots (call_begun couple below) filled → Has ps level filled (ops.Plain kinds.Entr) next →
      (block_numbered sc.blocks callee).result ≡ Some k → SlotsHaveRoom most below 2 → FragmentGoes ps level next to → Coming k pc slots (called_of n x) below to
  called_stands k n callee couple (given gs) pc slots below filled next to p s h e room g =
      here sc context ps level most k pc slots (busy (rests.enter n gs)) below to (
        callee,
        next,
        record { couple = couple; procedure = p; fit = s.1; lies = s.2; stands = subst (λ z. Has ps level z (ops.Plain kinds.Entr) next) (sym s.0) h },
        e,
        room,
        g,
      )
  called_stands k n callee couple (rests.wants x) pc slots below filled next to p s h e room g =
      here sc context ps level most k pc slots (busy (rests.argument n x)) below to (callee, couple, filled, next, e, p, s, h, g)

  -- a test of events
  event_tested : (x : EventTest) (ns : List Named) (f t u : ℕ) → AreSoMany (deeds.tests x) ns → OnEventsAt sc context ps level (intrinsic_of (deeds.tests x)) ns f t → FragmentGoes ps level t u →
      (below : List Slot) → SlotsHaveRoom most below (2 + length ns) → Coming (told_by x) f below (busy (rests.tests x ns)) below u
  event_tested x ns f t u many h g below room =
      after sc context ps level most (told_by x) (events_named sc context ps level most (deeds.tests x) ns f t h below room)
      (here sc context ps level most (told_by x) h.referred (all_named sc context ps level most (deeds.tests x) ns f t h below) (busy (rests.tests x ns)) below u
      (t, refl, events_there sc context ps level most (deeds.tests x) ns f t h below many, g))

  mutual
    pub settle_at : (k : Kind) (e : PExpr) (f t u : ℕ) → ExprAt sc context ps level k e f t u → FragmentGoes ps level t u → (below : List Slot) → SlotsHaveRoom most below (depth e) →
        Coming k f below (settle sc e) below u
    settle_at k (tree.number z spot) f t u h g below room =
        of_kind sc context ps level most f below (val (number z)) below u h.0
        (record { at = t; with_slots = operand (number z) ∷ below; leads = first (push_number z h.1 room) there; shows = (g, refl, (h.1).whole) })
    settle_at k (tree.truth b spot) f t u h g below room =
        of_kind sc context ps level most f below (val (truth b)) below u h.0
        (record { at = t; with_slots = operand (truth b) ∷ below; leads = first (push_truth b h.1 room) there; shows = (g, refl, tt) })
    settle_at k (tree.variable (tree.subscripted n tree.none)) f t u h g below room = name_at k n f t u h g below room
    settle_at k (tree.variable (tree.subscripted n (tree.more e es))) f t u h g below room =
        let begun = begun_at sc context ps level most n h.1 (h.0).lows e es f h.2 below (omega (arith, room))
        (λ m i. settle_at types.Number e f m m i stop below (omega (arith, room))) h.5 in
        after sc context ps level most k begun.leads
        (subscript_at sc context ps level most k n h.0 h.1 (settle sc e) begun.at begun.with_slots [] es below h.2 t u h.3 h.4 begun.seeks h.6 g)
    settle_at k (tree.paren e spot) f t u h g below room = settle_at k e f t u h g below room
    settle_at k (tree.plus e spot) f t u h g below room = of_kind sc context ps level most f below (settle sc e) below u h.0 (settle_at types.Number e f t u h.1 g below room)
    settle_at k (tree.neg e spot) f t u h g below room =
        let c = settle_at types.Number e f h.0 h.0 h.2 stop below room in
        of_kind sc context ps level most f below (negated_of (settle sc e)) below u h.1 (after sc context ps level most types.Number c.leads (negated_at sc context ps level most (settle sc e) c.at c.with_slots below h.0 t u c.shows h.3 g))
    settle_at k (tree.not e spot) f t u h g below room =
        let c = settle_at types.Truth e f h.0 h.0 h.2 stop below room in
        of_kind sc context ps level most f below (inverted_of (settle sc e)) below u h.1 (after sc context ps level most types.Truth c.leads (inverted_at sc context ps level most (settle sc e) c.at c.with_slots below h.0 t u c.shows h.3 g))
    settle_at k (tree.two op a b) f t u h g below room =
        let c = settle_at (taken_by op) a f h.0 h.0 h.4 stop below (omega (arith, room)) in
        of_kind sc context ps level most f below (left_of op (settle sc a) b (settle sc b)) below u h.3
        (after sc context ps level most (given_by op) c.leads (left_at sc context ps level most op (settle sc a) b (settle sc b) c.at c.with_slots below h.0 h.1 h.2 t u c.shows h.5 h.6 (omega (arith, room, depth_positive a))
        (λ o r. settle_at (taken_by op) b h.1 h.2 h.2 h.6 stop o r) h.7 g))
    settle_at k (tree.if c x y spot) f t u h g below room =
        let d = settle_at types.Truth c f h.0 h.0 h.4 stop below (omega (arith, room)) in
        after sc context ps level most k {b = d.at} {z = d.with_slots} d.leads (condition_at sc context ps level most k (settle sc c) x y (settle sc x) (settle sc y) d.at d.with_slots below h.0 h.1 h.2 h.3 t u u d.shows h.5 h.6 h.7 h.8 g stop (omega (arith, room))
        (settle_at k x h.1 h.2 u h.6 (over h.3 h.7 stop) below (omega (arith, room))) (settle_at k y h.3 t u h.8 g below (omega (arith, room))))
    settle_at k (tree.call (tree.called n es)) f t u h g below room =
        let c = h.1 in
        let b = c.2 in
        let settled : ℕ → HalfGiven = λ z. settle_actuals sc es (sorts_of ((block_numbered sc.blocks z).parameters)) [] in
        let filled : ComesFilled sc context ps level most (parameter_wants sc h.0) (settled h.0) c.0 (call_begun b.couple below) (call_begun b.couple below) c.1 =
        actuals_at es (sorts_of ((block_numbered sc.blocks h.0).parameters)) (parameter_wants sc h.0) (parameter_wants sc h.0) c.0 c.1 (call_begun b.couple below) c.3 [] [] refl tt
        (omega (arith, room)) in
        subst (λ z. Coming k f below (called_of n (settled z)) below u) (sym (ap block_of_sort (b.procedure).sort_is))
        (after sc context ps level most k (first (summon n h.0 b (omega (arith, room))) there)
        (after sc context ps level most k filled.leads
        (called_stands k n h.0 b.couple (settled h.0) filled.at filled.with_slots below c.1 t u b.procedure filled.fills c.4 h.2 (omega (arith, room)) g)))
    settle_at k (tree.tested x es spot) f t u h g below room =
        of_kind sc context ps level most f below (busy (rests.tests x (names_of es))) below u h.0
        (event_tested x (names_of es) f t u h.1 h.2 g below (omega (arith, room, length-map es (λ (e : EventName). e.name))))

    -- the actuals come to lie there one after another
    pub actuals_at : (es : PExprs) (sorts : List Sort) (after all : List Wanted) (f filled : ℕ) (begun : List Slot) → ActualsAt sc context ps level sorts after es f filled →
        ActualsOn sc context ps level most all es sorts after f begun filled
    actuals_at tree.none [] [] all f filled begun l gs before wants_are fit room =
        let same : all ≡ before = wants_are ∙ append-nil before in
        record {
          at = f;
          with_slots = given_slots before gs begun;
          leads = there;
          fills = (l, subst (λ o. ActualsAreGiven sc context o gs) (sym same) fit, ap (λ o. given_slots o gs begun) (sym same));
        }
    actuals_at (tree.more e es) (sort ∷ sorts) (wants.value kind ∷ later) all f filled begun l gs before wants_are fit room =
        let floor = given_slots before gs begun in
        let deep : 1 ≤ depth e = depth_positive e in
        let c = settle_at kind e f l.0 l.0 l.2 stop floor (omega (arith, room, given_slots_length before gs begun)) in
        let settled : Bool → HalfGiven = λ b. actual_of sc b e (settle sc e) gs sorts es (settle_actuals sc es sorts) in
        subst (λ b. ComesFilled sc context ps level most all (settled b) f floor begun filled) (sym l.1)
        (after_filled sc context ps level most all (settled true) begun filled c.leads
        (actual_stands sc context ps level most all gs before kind later sorts es l.0 filled begun (settle sc e) c.at c.with_slots
        (record { wants_are = wants_are; fit = fit; actuals = l.3; room = omega (arith, room, deep) }) c.shows (actuals_at es sorts later all l.0 filled begun l.3)))
    actuals_at (tree.more (tree.variable (tree.subscripted x tree.none)) es) (sort ∷ sorts) (wants.array shape ∷ later) all f filled begun l gs before wants_are fit room =
        let floor = given_slots before gs begun in
        let e = tree.variable (tree.subscripted x tree.none) in
        let settled : Bool → HalfGiven = λ b. actual_of sc b e (settle sc e) gs sorts es (settle_actuals sc es sorts) in
        subst (λ b. ComesFilled sc context ps level most all (settled b) f floor begun filled) (sym l.1)
        (array_stands sc context ps level most all gs before shape later sorts es f l.0 filled begun x
        (record { wants_are = wants_are; fit = fit; actuals = l.3; room = omega (arith, room) }) l.2 (actuals_at es sorts later all l.0 filled begun l.3))
    actuals_at (tree.more e es) (sort ∷ sorts) (wants.by_name kind ∷ later) all f filled begun l gs before wants_are fit room =
        let floor = given_slots before gs begun in
        let deep : 1 ≤ depth e = depth_positive e in
        let settled : Bool → HalfGiven = λ b. actual_of sc b e (settle sc e) gs sorts es (settle_actuals sc es sorts) in
        subst (λ b. ComesFilled sc context ps level most all (settled b) f floor begun filled) (sym l.1)
        (name_stands sc context ps level most all gs before kind later sorts es f l.0 filled begun e
        (record { wants_are = wants_are; fit = fit; actuals = l.3; room = omega (arith, room, deep) }) l.2 (actuals_at es sorts later all l.0 filled begun l.3))
    actuals_at (tree.more (tree.variable (tree.subscripted x tree.none)) es) (sort ∷ sorts) (wants.event ∷ later) all f filled begun l gs before wants_are fit room =
        let floor = given_slots before gs begun in
        let e = tree.variable (tree.subscripted x tree.none) in
        let settled : Bool → HalfGiven = λ b. actual_of sc b e (settle sc e) gs sorts es (settle_actuals sc es sorts) in
        subst (λ b. ComesFilled sc context ps level most all (settled b) f floor begun filled) (sym l.1)
        (event_stands sc context ps level most all gs before later sorts es f l.0 filled begun x
        (record { wants_are = wants_are; fit = fit; actuals = l.3; room = omega (arith, room) }) l.2 (actuals_at es sorts later all l.0 filled begun l.3))
    actuals_at tree.none [] (x ∷ later) all f filled begun l gs before wants_are fit room = absurd l
    actuals_at tree.none (sort ∷ sorts) [] all f filled begun l gs before wants_are fit room = absurd l
    actuals_at tree.none (sort ∷ sorts) (wants.value kind ∷ later) all f filled begun l gs before wants_are fit room = absurd l
    actuals_at tree.none (sort ∷ sorts) (wants.array shape ∷ later) all f filled begun l gs before wants_are fit room = absurd l
    actuals_at tree.none (sort ∷ sorts) (wants.by_name kind ∷ later) all f filled begun l gs before wants_are fit room = absurd l
    actuals_at tree.none (sort ∷ sorts) (wants.event ∷ later) all f filled begun l gs before wants_are fit room = absurd l
    actuals_at tree.none (sort ∷ sorts) (wants.other ∷ later) all f filled begun l gs before wants_are fit room = absurd l
    actuals_at (tree.more e es) [] [] all f filled begun l gs before wants_are fit room = absurd l
    actuals_at (tree.more e es) [] (x ∷ later) all f filled begun l gs before wants_are fit room = absurd l
    actuals_at (tree.more e es) (sort ∷ sorts) [] all f filled begun l gs before wants_are fit room = absurd l
    actuals_at (tree.more e es) (sort ∷ sorts) (wants.other ∷ later) all f filled begun l gs before wants_are fit room = absurd l
    actuals_at (tree.more _ es) (sort ∷ sorts) (wants.array shape ∷ later) all f filled begun l gs before wants_are fit room = absurd l
    actuals_at (tree.more _ es) (sort ∷ sorts) (wants.event ∷ later) all f filled begun l gs before wants_are fit room = absurd l
