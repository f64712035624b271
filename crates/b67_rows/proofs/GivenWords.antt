-- The words of the actuals of a call: values, and references to the cells of arrays, of events, of variables and of other actuals.
use Rattle.std.proofs.Common.{◌≡◌, refl, sym, ap, ◌∙◌, subst, ℕ, suc, ◌+◌, List, [], ◌∷◌, ◌++◌, length, arith, append_assoc, length-append}
use Rattle.b67_rows.proofs.Prelude.{reverse-append, reverse, PExpr, Scopes, Kind, Named, Given, valued, passed, refers, names, Value, Word, Couple, Wanted, IsOwnActual, HasKind, Slot, Known, newest, ValueIs, SlotIs, SlotsAre}
use Rattle.algol_meaning.specs.Value.{Reference, Cell}
use Rattle.algol_meaning.specs.Value as cells
use Rattle.algol_paths.specs.Arrays.{DeclaredArray, Shape, shape_of}
use Rattle.b67_templates.specs.Contexts.{Context}
use Rattle.b67_templates.specs.Cells as wants
use Rattle.b67_templates.specs.Cells.{ShapeAgrees, IsVariable, IsDeclaredArray, IsDeclaredEvent}
use Rattle.b67_standing.specs.Stepping.{cell_named, actual as actual_held, passed as passed_held}
use Rattle.b67_standing.specs.Standing.{given_slot, given_slots, IsPassed, ActualsAreGiven}
use Rattle.b67_cores.specs.Slots.{IsKnown}
use Rattle.b67_rows.proofs.Slotted.{Top, top_slot}

-- ---- actuals that are what is wanted

module _ (sc : Scopes) (context : Context) where
  pub data AreFit : List Wanted → List Given → Type 0 where
    none_wanted : AreFit [] []
    a_value : {wanted : List Wanted} {gs : List Given} (kind : Kind) (v : Value) → HasKind kind v → AreFit wanted gs → AreFit (wants.value kind ∷ wanted) (valued v ∷ gs)
    a_name : {wanted : List Wanted} {gs : List Given} (shape : Shape) (n : Named) (d : DeclaredArray) (c : Couple) → IsDeclaredArray sc context.level n d c → ShapeAgrees shape (shape_of d) → AreFit wanted gs →
        AreFit (wants.array shape ∷ wanted) (refers n ∷ gs)
    a_cell : {wanted : List Wanted} {gs : List Given} (shape : Shape) (r : Reference) → AreFit wanted gs → AreFit (wants.array shape ∷ wanted) (passed (cells.reference r) ∷ gs)
    an_event_name : {wanted : List Wanted} {gs : List Given} (n : Named) (c : Couple) → IsDeclaredEvent sc context.level n c → AreFit wanted gs → AreFit (wants.event ∷ wanted) (refers n ∷ gs)
    an_event_cell : {wanted : List Wanted} {gs : List Given} (r : Reference) → AreFit wanted gs → AreFit (wants.event ∷ wanted) (passed (cells.reference r) ∷ gs)
    a_variable : {wanted : List Wanted} {gs : List Given} (kind : Kind) (n : Named) (c : Couple) → IsVariable sc context.level n kind c → AreFit wanted gs →
        AreFit (wants.by_name kind ∷ wanted) (refers n ∷ gs)
    an_actual : {wanted : List Wanted} {gs : List Given} (kind : Kind) (e : PExpr) (c : Couple) → IsOwnActual sc context.block context.level e kind c → AreFit wanted gs →
        AreFit (wants.by_name kind ∷ wanted) (names e ∷ gs)
    a_name_cell : {wanted : List Wanted} {gs : List Given} (kind : Kind) (c : Cell) → IsPassed (wants.by_name kind) c → AreFit wanted gs → AreFit (wants.by_name kind ∷ wanted) (passed c ∷ gs)

  pub are_fit : (wanted : List Wanted) (gs : List Given) → ActualsAreGiven sc context wanted gs → AreFit wanted gs
  are_fit [] [] fit = none_wanted
  are_fit [] (g ∷ gs) fit = absurd fit
  are_fit (w ∷ wanted) [] fit = absurd fit
  are_fit (wants.value kind ∷ wanted) (valued v ∷ gs) fit = a_value kind v fit.0 (are_fit wanted gs fit.1)
  are_fit (wants.value kind ∷ wanted) (refers n ∷ gs) fit = absurd fit.0
  are_fit (wants.value kind ∷ wanted) (passed c ∷ gs) fit = absurd fit.0
  are_fit (wants.value kind ∷ wanted) (names e ∷ gs) fit = absurd fit.0
  are_fit (wants.array shape ∷ wanted) (valued v ∷ gs) fit = absurd fit.0
  are_fit (wants.array shape ∷ wanted) (refers n ∷ gs) fit = a_name shape n fit.0.0 fit.0.1 fit.0.2 fit.0.3 (are_fit wanted gs fit.1)
  are_fit (wants.array shape ∷ wanted) (passed (cells.simple v) ∷ gs) fit = absurd fit.0
  are_fit (wants.array shape ∷ wanted) (passed (cells.event e) ∷ gs) fit = absurd fit.0
  are_fit (wants.array shape ∷ wanted) (passed (cells.array a) ∷ gs) fit = absurd fit.0
  are_fit (wants.array shape ∷ wanted) (passed (cells.named n) ∷ gs) fit = absurd fit.0
  are_fit (wants.array shape ∷ wanted) (passed (cells.reference r) ∷ gs) fit = a_cell shape r (are_fit wanted gs fit.1)
  are_fit (wants.array shape ∷ wanted) (names e ∷ gs) fit = absurd fit.0
  are_fit (wants.by_name kind ∷ wanted) (valued v ∷ gs) fit = absurd fit.0
  are_fit (wants.by_name kind ∷ wanted) (refers n ∷ gs) fit = a_variable kind n fit.0.0 fit.0.1 (are_fit wanted gs fit.1)
  are_fit (wants.by_name kind ∷ wanted) (passed c ∷ gs) fit = a_name_cell kind c fit.0 (are_fit wanted gs fit.1)
  are_fit (wants.by_name kind ∷ wanted) (names e ∷ gs) fit = an_actual kind e fit.0.0 fit.0.1 (are_fit wanted gs fit.1)
  are_fit (wants.event ∷ wanted) (valued v ∷ gs) fit = absurd fit.0
  are_fit (wants.event ∷ wanted) (refers n ∷ gs) fit = an_event_name n fit.0.0 fit.0.1 (are_fit wanted gs fit.1)
  are_fit (wants.event ∷ wanted) (passed (cells.simple v) ∷ gs) fit = absurd fit.0
  are_fit (wants.event ∷ wanted) (passed (cells.event e) ∷ gs) fit = absurd fit.0
  are_fit (wants.event ∷ wanted) (passed (cells.array a) ∷ gs) fit = absurd fit.0
  are_fit (wants.event ∷ wanted) (passed (cells.named n) ∷ gs) fit = absurd fit.0
  are_fit (wants.event ∷ wanted) (passed (cells.reference r) ∷ gs) fit = an_event_cell r (are_fit wanted gs fit.1)
  are_fit (wants.event ∷ wanted) (names e ∷ gs) fit = absurd fit.0
  are_fit (wants.other ∷ wanted) (valued v ∷ gs) fit = absurd fit.0
  are_fit (wants.other ∷ wanted) (refers n ∷ gs) fit = absurd fit.0
  are_fit (wants.other ∷ wanted) (passed c ∷ gs) fit = absurd fit.0
  are_fit (wants.other ∷ wanted) (names e ∷ gs) fit = absurd fit.0

  -- as many as are wanted
  pub fit_many : {wanted : List Wanted} {gs : List Given} → AreFit wanted gs → length gs ≡ length wanted
  fit_many none_wanted = refl
  fit_many (a_value kind v is rest) = ap suc (fit_many rest)
  fit_many (a_name shape n d c is agrees rest) = ap suc (fit_many rest)
  fit_many (a_cell shape r rest) = ap suc (fit_many rest)
  fit_many (an_event_name n c is rest) = ap suc (fit_many rest)
  fit_many (an_event_cell r rest) = ap suc (fit_many rest)
  fit_many (a_variable kind n c is rest) = ap suc (fit_many rest)
  fit_many (an_actual kind e c is rest) = ap suc (fit_many rest)
  fit_many (a_name_cell kind c is rest) = ap suc (fit_many rest)

-- ---- their words

module _ (sc : Scopes) (known : List Known) (level home base : ℕ) where
  -- the word of an actual, where this is wanted of it
  abbrev pub ActualIs : Wanted → Given → Word → Type 0
  ActualIs wanted (valued v) w = ValueIs v w
  ActualIs wanted (refers n) w = IsKnown known (cell_named n) w
  ActualIs wanted (passed c) w = IsKnown known (passed_held wanted c) w
  ActualIs (wants.by_name kind) (names e) w = IsKnown known (actual_held e kind) w
  ActualIs _ _ w = ⊥

  abbrev pub ActualsAre : List Wanted → List Given → List Word → Type 0
  ActualsAre [] [] [] = Unit {0}
  ActualsAre (a ∷ wanted) (g ∷ gs) (w ∷ ws) = ActualIs a g w × ActualsAre wanted gs ws
  ActualsAre _ _ _ = ⊥

  -- the words of these actuals, the top first, and those below them
  pub record Taken (wanted : List Wanted) (gs : List Given) (below : List Slot) (all : List Word) : Type 0 where
    pub arguments : List Word
    pub others : List Word
    pub is : all ≡ arguments ++ others
    pub are : SlotsAre sc known level home base below others
    pub mark_is : newest home base (given_slots wanted gs below) ≡ newest home base below
    pub many : length arguments ≡ length gs
    pub slots_many : length (given_slots wanted gs below) ≡ length gs + length below
    pub actuals : ActualsAre wanted gs (reverse arguments)

  -- one more under them
  one_under : (a : Wanted) (g : Given) (wanted : List Wanted) (gs : List Given) (below : List Slot) (all : List Word) → Taken wanted gs (given_slot a g ∷ below) all →
      newest home base (given_slot a g ∷ below) ≡ newest home base below → ((w : Word) → SlotIs sc known level home base below (given_slot a g) w → ActualIs a g w) →
      Taken (a ∷ wanted) (g ∷ gs) below all
  one_under a g wanted gs below all t plain actual =
      let x : Top sc known level home base (given_slot a g) below t.others = top_slot sc known level home base (given_slot a g ∷ below) (given_slot a g) below t.others t.are refl in
      record {
        arguments = t.arguments ++ x.word ∷ [];
        others = x.words_below;
        is = t.is ∙ ap (λ (ws : List Word). t.arguments ++ ws) x.is ∙ sym (append_assoc t.arguments (x.word ∷ []) x.words_below);
        are = x.are;
        mark_is = t.mark_is ∙ plain;
        many = omega (arith, t.many, length-append t.arguments (x.word ∷ []));
        slots_many = omega (arith, t.slots_many);
        actuals = subst (ActualsAre (a ∷ wanted) (g ∷ gs)) (sym (reverse-append t.arguments (x.word ∷ []))) (actual x.word x.slot_is, t.actuals);
      }

  pub taken_words : (context : Context) {wanted : List Wanted} {gs : List Given} → AreFit sc context wanted gs → (below : List Slot) (all : List Word) → SlotsAre sc known level home base (given_slots wanted gs below) all → Taken wanted gs below all
  taken_words context none_wanted below all are = record { arguments = []; others = all; is = refl; are = are; mark_is = refl; many = refl; slots_many = omega arith; actuals = tt }
  taken_words context (a_value {wanted} {gs} kind v is rest) below all are =
      one_under (wants.value kind) (valued v) wanted gs below all (taken_words context rest (given_slot (wants.value kind) (valued v) ∷ below) all are) refl (λ w slot. slot)
  taken_words context (a_name {wanted} {gs} shape n d c is agrees rest) below all are =
      one_under (wants.array shape) (refers n) wanted gs below all (taken_words context rest (given_slot (wants.array shape) (refers n) ∷ below) all are) refl (λ w slot. slot)
  taken_words context (a_cell {wanted} {gs} shape r rest) below all are =
      one_under (wants.array shape) (passed (cells.reference r)) wanted gs below all (taken_words context rest (given_slot (wants.array shape) (passed (cells.reference r)) ∷ below) all are) refl (λ w slot. slot)
  taken_words context (an_event_name {wanted} {gs} n c is rest) below all are =
      one_under wants.event (refers n) wanted gs below all (taken_words context rest (given_slot wants.event (refers n) ∷ below) all are) refl (λ w slot. slot)
  taken_words context (an_event_cell {wanted} {gs} r rest) below all are =
      one_under wants.event (passed (cells.reference r)) wanted gs below all (taken_words context rest (given_slot wants.event (passed (cells.reference r)) ∷ below) all are) refl (λ w slot. slot)
  taken_words context (a_variable {wanted} {gs} kind n c is rest) below all are =
      one_under (wants.by_name kind) (refers n) wanted gs below all (taken_words context rest (given_slot (wants.by_name kind) (refers n) ∷ below) all are) refl (λ w slot. slot)
  taken_words context (an_actual {wanted} {gs} kind e c is rest) below all are =
      one_under (wants.by_name kind) (names e) wanted gs below all (taken_words context rest (given_slot (wants.by_name kind) (names e) ∷ below) all are) refl (λ w slot. slot)
  taken_words context (a_name_cell {wanted} {gs} kind c is rest) below all are =
      one_under (wants.by_name kind) (passed c) wanted gs below all (taken_words context rest (given_slot (wants.by_name kind) (passed c) ∷ below) all are) refl (λ w slot. slot)
