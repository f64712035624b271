-- The actuals of a call or of a PROCESS: each comes to lie above those before it, which lie on its start.
use Rattle.std.proofs.Common.{◌≡◌, refl, sym, ◌∙◌, subst, ℕ, ◌+◌, ◌≤◌, arith, List, [], ◌∷◌, ◌++◌, length, length-append, append_assoc}
use Rattle.algol_tree.specs.declared.tree.Kind.{Kind}
use Rattle.algol_tree.specs.declared.tree.Named.{Named}
use Rattle.algol_tree.specs.Plain.{PExpr, PExprs, name_alone}
use Rattle.algol_tree.specs.Sorts.{Sort, is_formal, procedure_in}
use Rattle.algol_tree.specs.Scopes.{Scopes}
use Rattle.algol_meaning.specs.Value.{Value}
use Rattle.algol_meaning.specs.Rest as rests
use Rattle.algol_meaning.specs.Rest.{Given, valued, refers, Actuals, Half, val, busy, HalfGiven, given}
use Rattle.algol_meaning.specs.Settle.{valued_of, alone_of, sort_at, other_of, settle_actuals}
use Rattle.algol_paths.specs.Arrays.{Shape}
use Rattle.b67_segment.specs.Operators.{Placed}
use Rattle.b67_templates.specs.Contexts.{Context}
use Rattle.b67_templates.specs.Cells as wants
use Rattle.b67_templates.specs.Cells.{Wanted}
use Rattle.b67_templates.specs.Code as code
use Rattle.b67_templates.specs.Code.{ArrayActualAt, NameActualAt, ActualsAt}
use Rattle.b67_templates.specs.Events as events
use Rattle.b67_templates.specs.Events.{EventActualAt}
use Rattle.b67_templates.specs.Depths.{line_depth}
use Rattle.b67_standing.specs.Stepping.{Slot, operand, reference, SlotsHaveRoom, cell_named, actual as actual_held, of_array, of_variable, of_event, of_actual, push_reference, stuff, StepsLead, there, first}
use Rattle.b67_standing.specs.Standing.{operands, given_slot, given_slots, ActualsAreGiven, array_passed, name_passed, event_passed, Fills, Shows}
use Rattle.b67_standing.proofs.Leading.{on, valued_at}
use Rattle.b67_standing.proofs.Values.{variable_refers, own_names}

-- one value more lies on top
pub operands_more : (vs : List Value) (v : Value) (below : List Slot) → operands (vs ++ v ∷ []) below ≡ operand v ∷ operands vs below
operands_more [] v below = refl
operands_more (x ∷ vs) v below = operands_more vs v (operand x ∷ below)

pub operands_length : (vs : List Value) (below : List Slot) → length (operands vs below) ≡ length vs + length below
operands_length [] below = omega arith
operands_length (v ∷ vs) below = omega (arith, operands_length vs (operand v ∷ below))

-- ---- actuals that are done

-- each is a word at most
pub given_slots_length : (wanted : List Wanted) (gs : List Given) (below : List Slot) → length (given_slots wanted gs below) ≤ length gs + length below
given_slots_length [] gs below = omega arith
given_slots_length (w ∷ wanted) [] below = omega arith
given_slots_length (w ∷ wanted) (g ∷ gs) below = omega (arith, given_slots_length wanted gs (given_slot w g ∷ below))

-- none is taken away
pub given_slots_above : (wanted : List Wanted) (gs : List Given) (below : List Slot) → length below ≤ length (given_slots wanted gs below)
given_slots_above [] gs below = omega arith
given_slots_above (w ∷ wanted) [] below = omega arith
given_slots_above (w ∷ wanted) (g ∷ gs) below = omega (arith, given_slots_above wanted gs (given_slot w g ∷ below))

-- one actual more lies on top
given_slots_more : (wanted : List Wanted) (gs : List Given) (w : Wanted) (g : Given) (below : List Slot) → length wanted ≡ length gs →
    given_slots (wanted ++ w ∷ []) (gs ++ g ∷ []) below ≡ given_slot w g ∷ given_slots wanted gs below
given_slots_more [] [] w g below e = refl
given_slots_more (x ∷ wanted) (h ∷ gs) w g below e = given_slots_more wanted gs w g (given_slot x h ∷ below) (omega (arith, e))
given_slots_more [] (h ∷ gs) w g below e = absurd (omega (arith, e))
given_slots_more (x ∷ wanted) [] w g below e = absurd (omega (arith, e))

module _ (sc : Scopes) (context : Context) where
  given_length : (wanted : List Wanted) (gs : List Given) → ActualsAreGiven sc context wanted gs → length wanted ≡ length gs
  given_length [] [] h = refl
  given_length (w ∷ wanted) (g ∷ gs) h = omega (arith, given_length wanted gs h.1)
  given_length [] (g ∷ gs) h = absurd h
  given_length (w ∷ wanted) [] h = absurd h

  given_more : (wanted : List Wanted) (gs : List Given) (w : Wanted) (g : Given) → ActualsAreGiven sc context wanted gs → ActualsAreGiven sc context (w ∷ []) (g ∷ []) →
      ActualsAreGiven sc context (wanted ++ w ∷ []) (gs ++ g ∷ [])
  given_more [] [] w g h one = one
  given_more (x ∷ wanted) (y ∷ gs) w g h one = (h.0, given_more wanted gs w g h.1 one)
  given_more [] (y ∷ gs) w g h one = absurd h
  given_more (x ∷ wanted) [] w g h one = absurd h

module _ (sc : Scopes) (context : Context) (ps : List Placed) (level most : ℕ) where
  -- ---- actuals that are evaluated

  -- Here the machine stands for actuals, of which these are wanted, that are evaluated up to their head, or that all lie on the start of their call
  -- or PROCESS. They are to do that at the place `filled`.
  abbrev pub Filled : List Wanted → HalfGiven → ℕ → List Slot → List Slot → ℕ → Type 0
  Filled all (given gs) pc slots begun filled = (pc ≡ filled) × ActualsAreGiven sc context all gs × (slots ≡ given_slots all gs begun)
  Filled all (rests.wants x) pc slots begun filled = Fills sc context ps level most all x pc slots begun filled

  -- by private operators the machine comes there
  pub record ComesFilled (all : List Wanted) (x : HalfGiven) (pc : ℕ) (slots begun : List Slot) (filled : ℕ) : Type 0 where
    pub at : ℕ
    pub with_slots : List Slot
    pub leads : StepsLead sc context ps level most pc slots at with_slots
    pub fills : Filled all x at with_slots begun filled

  pub after_filled : (all : List Wanted) (x : HalfGiven) (begun : List Slot) (filled : ℕ) {a b : ℕ} {y z : List Slot} → StepsLead sc context ps level most a y b z →
      ComesFilled all x b z begun filled → ComesFilled all x a y begun filled
  after_filled all x begun filled l c =
      record { at = c.at; with_slots = c.with_slots; leads = on sc context ps level most l c.leads; fills = c.fills }

  -- what becomes of the actuals once these lie there
  abbrev pub ActualsOn : List Wanted → PExprs → List Sort → List Wanted → ℕ → List Slot → ℕ → Type 0
  ActualsOn all es sorts after m begun filled =
      (gs : List Given) (before : List Wanted) → all ≡ before ++ after → ActualsAreGiven sc context before gs → SlotsHaveRoom most begun (length gs + line_depth es) →
      ComesFilled all (settle_actuals sc es sorts gs) m (given_slots before gs begun) begun filled

  -- what is asked of an actual, and of those before and after it
  pub record ActualAt (all : List Wanted) (gs : List Given) (before : List Wanted) (wanted : Wanted) (after : List Wanted) (sorts : List Sort) (es : PExprs)
      (m filled : ℕ) (begun : List Slot) : Type 0 where
    pub wants_are : all ≡ before ++ wanted ∷ after
    pub fit : ActualsAreGiven sc context before gs
    pub actuals : ActualsAt sc context ps level sorts after es m filled
    pub room : SlotsHaveRoom most begun (length gs + 1 + line_depth es)

  -- the actual is done, and those after it come
  pub actual_done : (all : List Wanted) (gs : List Given) (before : List Wanted) (wanted : Wanted) (after : List Wanted) (sorts : List Sort) (es : PExprs)
      (m filled : ℕ) (begun : List Slot) (g : Given) → ActualAt all gs before wanted after sorts es m filled begun →
      ActualsAreGiven sc context (wanted ∷ []) (g ∷ []) → ActualsOn all es sorts after m begun filled →
      ComesFilled all (settle_actuals sc es sorts (gs ++ g ∷ [])) m (given_slot wanted g ∷ given_slots before gs begun) begun filled
  actual_done all gs before wanted after sorts es m filled begun g a fits c =
      let hs = gs ++ g ∷ [] in
      let longer : length hs ≡ length gs + 1 = length-append gs (g ∷ []) in
      subst (λ o. ComesFilled all (settle_actuals sc es sorts hs) m o begun filled)
      (given_slots_more before gs wanted g begun (given_length sc context before gs a.fit))
      (c hs (before ++ wanted ∷ []) (a.wants_are ∙ sym (append_assoc before (wanted ∷ []) after)) (given_more sc context before gs wanted g a.fit fits) (omega (arith, a.room, longer)))

  -- an actual by value
  pub actual_stands : (all : List Wanted) (gs : List Given) (before : List Wanted) (kind : Kind) (after : List Wanted) (sorts : List Sort) (es : PExprs)
      (m filled : ℕ) (begun : List Slot) (z : Half) (pc : ℕ) (slots : List Slot) →
      ActualAt all gs before (wants.value kind) after sorts es m filled begun →
      Shows sc context ps level most kind z pc slots (given_slots before gs begun) m → ActualsOn all es sorts after m begun filled →
      ComesFilled all (valued_of gs z sorts es (settle_actuals sc es sorts)) pc slots begun filled
  actual_stands all gs before kind after sorts es m filled begun (val v) pc slots a sh c =
      after_filled all (settle_actuals sc es sorts (gs ++ valued v ∷ [])) begun filled
      (valued_at sc context ps level most pc slots v (given_slots before gs begun) m sh.0 sh.1)
      (actual_done all gs before (wants.value kind) after sorts es m filled begun (valued v) a (sh.2, tt) c)
  actual_stands all gs before kind after sorts es m filled begun (busy h) pc slots a sh c = record {
    at = pc;
    with_slots = slots;
    leads = there;
    fills = (before, kind, after, m, a.wants_are, a.fit, sh, a.actuals, a.room);
  }

  -- an actual that is the name of an array
  pub array_stands : (all : List Wanted) (gs : List Given) (before : List Wanted) (shape : Shape) (after : List Wanted) (sorts : List Sort) (es : PExprs)
      (f m filled : ℕ) (begun : List Slot) (x : Named) → ActualAt all gs before (wants.array shape) after sorts es m filled begun →
      ArrayActualAt sc context ps level shape x f m → ActualsOn all es sorts after m begun filled →
      ComesFilled all (alone_of (procedure_in (sort_at sc x)) (is_formal (sort_at sc x)) gs x sorts es (settle_actuals sc es sorts)) f
      (given_slots before gs begun) begun filled
  array_stands all gs before shape after sorts es f m filled begun x a (code.refers d c q i agrees name stuffs) go =
      let floor = given_slots before gs begun in
      let settled : Sort → HalfGiven = λ s. alone_of (procedure_in s) (is_formal s) gs x sorts es (settle_actuals sc es sorts) in
      let pushes = push_reference c name (omega (arith, a.room, given_slots_length before gs begun)) in
      subst (λ s. ComesFilled all (settled s) f floor begun filled) (sym i.sort_is)
      (after_filled all (settle_actuals sc es sorts (gs ++ refers x ∷ [])) begun filled (first pushes (first (stuff (cell_named x) c (of_array x d c i) name stuffs) there))
      (actual_done all gs before (wants.array shape) after sorts es m filled begun (refers x) a ((d, c, i, agrees), tt) go))
  array_stands all gs before shape after sorts es f m filled begun x a (code.passes actual c q i agrees name loads) go =
      let floor = given_slots before gs begun in
      let settled : Sort → HalfGiven = λ s. alone_of (procedure_in s) (is_formal s) gs x sorts es (settle_actuals sc es sorts) in
      let pushes = push_reference c name (omega (arith, a.room, given_slots_length before gs begun)) in
      subst (λ s. ComesFilled all (settled s) f floor begun filled) (sym i.sort_is)
      (record {
        at = q;
        with_slots = reference c ∷ floor;
        leads = first pushes there;
        fills = (before, wants.array shape, after, m, a.wants_are, a.fit, record { couple = c; passable = array_passed shape actual i agrees; lies = refl; stands = loads }, a.actuals, a.room);
      })

  -- an actual that is the name of an event
  pub event_stands : (all : List Wanted) (gs : List Given) (before : List Wanted) (after : List Wanted) (sorts : List Sort) (es : PExprs)
      (f m filled : ℕ) (begun : List Slot) (x : Named) → ActualAt all gs before wants.event after sorts es m filled begun →
      EventActualAt sc context ps level x f m → ActualsOn all es sorts after m begun filled →
      ComesFilled all (alone_of (procedure_in (sort_at sc x)) (is_formal (sort_at sc x)) gs x sorts es (settle_actuals sc es sorts)) f
      (given_slots before gs begun) begun filled
  event_stands all gs before after sorts es f m filled begun x a (events.refers c q i name stuffs) go =
      let floor = given_slots before gs begun in
      let settled : Sort → HalfGiven = λ s. alone_of (procedure_in s) (is_formal s) gs x sorts es (settle_actuals sc es sorts) in
      let pushes = push_reference c name (omega (arith, a.room, given_slots_length before gs begun)) in
      subst (λ s. ComesFilled all (settled s) f floor begun filled) (sym i.sort_is)
      (after_filled all (settle_actuals sc es sorts (gs ++ refers x ∷ [])) begun filled (first pushes (first (stuff (cell_named x) c (of_event x c i) name stuffs) there))
      (actual_done all gs before wants.event after sorts es m filled begun (refers x) a ((c, i), tt) go))
  event_stands all gs before after sorts es f m filled begun x a (events.passes c q i name loads) go =
      let floor = given_slots before gs begun in
      let settled : Sort → HalfGiven = λ s. alone_of (procedure_in s) (is_formal s) gs x sorts es (settle_actuals sc es sorts) in
      let pushes = push_reference c name (omega (arith, a.room, given_slots_length before gs begun)) in
      subst (λ s. ComesFilled all (settled s) f floor begun filled) (sym i.sort_is)
      (record {
        at = q;
        with_slots = reference c ∷ floor;
        leads = first pushes there;
        fills = (before, wants.event, after, m, a.wants_are, a.fit, record { couple = c; passable = event_passed i; lies = refl; stands = loads }, a.actuals, a.room);
      })

  -- an actual that is given by name
  pub name_stands : (all : List Wanted) (gs : List Given) (before : List Wanted) (kind : Kind) (after : List Wanted) (sorts : List Sort) (es : PExprs)
      (f m filled : ℕ) (begun : List Slot) (e : PExpr) → ActualAt all gs before (wants.by_name kind) after sorts es m filled begun →
      NameActualAt sc context ps level kind e f m → ActualsOn all es sorts after m begun filled →
      ComesFilled all (other_of sc (name_alone e) e gs sorts es (settle_actuals sc es sorts)) f (given_slots before gs begun) begun filled
  name_stands all gs before kind after sorts es f m filled begun e a (code.refers_to x c q same i outer name stuffs) go =
      let floor = given_slots before gs begun in
      let pushes = push_reference c name (omega (arith, a.room, given_slots_length before gs begun)) in
      subst (λ (y : PExpr). ComesFilled all (other_of sc (name_alone y) y gs sorts es (settle_actuals sc es sorts)) f floor begun filled) (sym same)
      (subst (λ s. ComesFilled all s f floor begun filled) (sym (variable_refers (sort_at sc x) gs x sorts es (settle_actuals sc es sorts) i.variable))
      (after_filled all (settle_actuals sc es sorts (gs ++ refers x ∷ [])) begun filled
      (first pushes (first (stuff (cell_named x) c (of_variable x kind c i outer) name stuffs) there))
      (actual_done all gs before (wants.by_name kind) after sorts es m filled begun (refers x) a ((c, i, outer), tt) go)))
  name_stands all gs before kind after sorts es f m filled begun e a (code.passes_on x c q same i name loads) go =
      let floor = given_slots before gs begun in
      let settled : Sort → HalfGiven = λ s. alone_of (procedure_in s) (is_formal s) gs x sorts es (settle_actuals sc es sorts) in
      let pushes = push_reference c name (omega (arith, a.room, given_slots_length before gs begun)) in
      subst (λ (y : PExpr). ComesFilled all (other_of sc (name_alone y) y gs sorts es (settle_actuals sc es sorts)) f floor begun filled) (sym same)
      (subst (λ s. ComesFilled all (settled s) f floor begun filled) (sym i.sort_is)
      (record {
        at = q;
        with_slots = reference c ∷ floor;
        leads = first pushes there;
        fills = (before, wants.by_name kind, after, m, a.wants_are, a.fit, record { couple = c; passable = name_passed kind i; lies = refl; stands = loads }, a.actuals, a.room);
      }))
  name_stands all gs before kind after sorts es f m filled begun e a (code.names c q i name stuffs) go =
      let floor = given_slots before gs begun in
      let pushes = push_reference c name (omega (arith, a.room, given_slots_length before gs begun)) in
      subst (λ s. ComesFilled all s f floor begun filled) (sym (own_names sc e kind gs sorts es (settle_actuals sc es sorts) i.own))
      (after_filled all (settle_actuals sc es sorts (gs ++ rests.names e ∷ [])) begun filled
      (first pushes (first (stuff (actual_held e kind) c (of_actual e kind c i) name stuffs) there))
      (actual_done all gs before (wants.by_name kind) after sorts es m filled begun (rests.names e) a ((c, i), tt) go))

  -- there is room for a word more
  pub fills_room : (all : List Wanted) (x : Actuals) (pc : ℕ) (slots begun : List Slot) (filled : ℕ) → Fills sc context ps level most all x pc slots begun filled → SlotsHaveRoom most begun 1
  fills_room all (rests.in_value gs h sorts es) pc slots begun filled s = omega (arith, s.8)
  fills_room all (rests.pass gs x sorts es) pc slots begun filled s = omega (arith, s.8)
