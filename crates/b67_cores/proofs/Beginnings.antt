-- The start of a block: branches to it, a zero for each of its variables, its control words, and PUSH.
use Rattle.std.proofs.Common.{◌≡◌, refl, sym, ap, ◌∙◌, subst, ℕ, zero, suc, ◌+◌, ◌≤◌, pos, List, [], ◌∷◌, ◌++◌, append_assoc, length, replicate, arith, length-append}
use Rattle.std.specs.Prelude.{map, reverse}
use Rattle.std.proofs.lemmas.List.{append-nil, length-map, length-replicate, reverse-append, reverse-reverse}
use Rattle.algol_tree.specs.Scopes.{Scopes}
use Rattle.algol_meaning.specs.Value.{number}
use Rattle.b67_word.specs.Word.{Word}
use Rattle.b67_word.specs.Word as words
use Rattle.b67_control.specs.declared.Pcw.{Pcw}
use Rattle.b67_ops.specs.declared.Operator.TheVariants as ops
use Rattle.b67_ops.specs.declared.PlainKind.TheVariants as kinds
use Rattle.b67_segment.specs.Operators.{Placed}
use Rattle.b67_segment.specs.declared.code.Code.{Code}
use Rattle.b67_templates.specs.Contexts.{Context}
use Rattle.b67_table.specs.Limits.{most_cells}
use Rattle.b67_table.specs.Private.{frame}
use Rattle.b67_templates.specs.Fragments as fragments
use Rattle.b67_templates.specs.Fragments.{Has, AllAt, ControlsAt}
use Rattle.b67_templates.specs.Code.{MadeAt}
use Rattle.b67_standing.specs.Stepping.{Slot, operand, control}
use Rattle.b67_cores.specs.Cores.{Core, size, CoreSteps}
use Rattle.b67_cores.specs.Slots.{Known, newest, SlotIs, SlotsAre}
use Rattle.b67_cores.specs.Stretches.{CoreAt, control_words, CoreBegins, BlocksBegin}
use Rattle.b67_cores.proofs.Moving.{Standing, moved, slots_length, Reaches, place_grows, steps_on, nothing, on}
use Rattle.b67_cores.proofs.Operating.{Goes, going}
use Rattle.b67_cores.proofs.Pushing.{zero_at, control_at}
use Rattle.b67_cores.proofs.Making.{made, push_steps, made_as, made_at}
use Rattle.b67_cores.proofs.Placing.{standing, moved_is}
use Rattle.b67_cores.proofs.Performing.{last_fits}

abbrev zero_slot : Slot
zero_slot = operand (number (pos 0))

abbrev zero_word : Word
zero_word = words.operand (pos 0)

-- slots laid on others one after another
abbrev on_top : List Slot → List Slot → List Slot
on_top [] x = x
on_top (slot ∷ slots) x = on_top slots (slot ∷ x)

on_top_length : (slots x : List Slot) → length (on_top slots x) ≡ length slots + length x
on_top_length [] x = omega arith
on_top_length (slot ∷ slots) x = omega (arith, on_top_length slots (slot ∷ x))

on_top_append : (slots more x : List Slot) → on_top more (on_top slots x) ≡ on_top (slots ++ more) x
on_top_append [] more x = refl
on_top_append (slot ∷ slots) more x = on_top_append slots more (slot ∷ x)

reversed : (w : Word) (us rest : List Word) → reverse us ++ (w ∷ rest) ≡ reverse (w ∷ us) ++ rest
reversed w us rest = sym (append_assoc (reverse us) (w ∷ []) rest) ∙ ap (λ ws. ws ++ rest) (sym (reverse-append (w ∷ []) us))

-- the slots of control words
abbrev control_slots : List Pcw → List Slot
control_slots controls = map (λ (pcw : Pcw). control pcw) controls

-- what becomes the cells of a block, and its words
abbrev cell_slots : ℕ → List Pcw → List Slot
cell_slots many controls = replicate many zero_slot ++ control_slots controls

abbrev cell_words : ℕ → List Pcw → List Word
cell_words many controls = replicate many zero_word ++ control_words controls

cells_length : (many : ℕ) (controls : List Pcw) → length (cell_slots many controls) ≡ many + length controls
cells_length many controls =
    omega (
      arith,
      length-append (replicate many zero_slot) (control_slots controls),
      length-replicate many zero_slot,
      length-map controls (λ (pcw : Pcw). control pcw),
    )

module _ (sc : Scopes) (known : List Known) (level home base : ℕ) where
  -- a slot that has this word only, and is no mark
  record IsMade (slot : Slot) (w : Word) : Type 0 where
    pub only : (x : List Slot) (v : Word) → SlotIs sc known level home base x slot v → v ≡ w
    pub plain : (x : List Slot) → newest home base (slot ∷ x) ≡ newest home base x

  abbrev AreMade : List Slot → List Word → Type 0
  AreMade [] [] = Unit {0}
  AreMade (slot ∷ slots) (w ∷ ws) = IsMade slot w × AreMade slots ws
  AreMade _ _ = ⊥

  controls_made : (controls : List Pcw) → AreMade (control_slots controls) (control_words controls)
  controls_made [] = tt
  controls_made (pcw ∷ controls) = (record { only = λ x v e. e; plain = λ x. refl }, controls_made controls)

  cells_made : (many : ℕ) (controls : List Pcw) → AreMade (cell_slots many controls) (cell_words many controls)
  cells_made zero controls = controls_made controls
  cells_made (suc k) controls = (record { only = λ x v e. e.is; plain = λ x. refl }, cells_made k controls)

  made_newest : (slots : List Slot) (us : List Word) (x : List Slot) → AreMade slots us → newest home base (on_top slots x) ≡ newest home base x
  made_newest [] [] x h = refl
  made_newest (slot ∷ slots) (u ∷ us) x h = made_newest slots us (slot ∷ x) h.1 ∙ h.0.plain x
  made_newest [] (u ∷ us) x h = absurd h
  made_newest (slot ∷ slots) [] x h = absurd h

  -- the words of slots, with those on them
  record Topped (us : List Word) (x : List Slot) (ws : List Word) : Type 0 where
    pub rest : List Word
    pub is : ws ≡ reverse us ++ rest
    pub are : SlotsAre sc known level home base x rest

  uncovered : (slot : Slot) (u : Word) (us : List Word) (x : List Slot) (ws rest : List Word) → IsMade slot u → ws ≡ reverse us ++ rest →
      SlotsAre sc known level home base (slot ∷ x) rest → Topped (u ∷ us) x ws
  uncovered slot u us x ws [] h e are = absurd are
  uncovered slot u us x ws (w ∷ rest) h e are = record {
    rest = rest;
    is = e ∙ ap (λ v. reverse us ++ (v ∷ rest)) (h.only x w are.0) ∙ reversed u us rest;
    are = are.1;
  }

  topped : (slots : List Slot) (us : List Word) (x : List Slot) (ws : List Word) → AreMade slots us → SlotsAre sc known level home base (on_top slots x) ws → Topped us x ws
  topped [] [] x ws h are = record { rest = ws; is = refl; are = are }
  topped (slot ∷ slots) (u ∷ us) x ws h are =
      let t = topped slots us (slot ∷ x) ws h.1 are in uncovered slot u us x ws t.rest h.0 t.is t.are
  topped [] (u ∷ us) x ws h are = absurd h
  topped (slot ∷ slots) [] x ws h are = absurd h

  no_rest : (ws : List Word) → SlotsAre sc known level home base [] ws → ws ≡ []
  no_rest [] are = refl
  no_rest (w ∷ ws) are = absurd are

  -- the words above the floor are those, the last on top
  all_made : (slots : List Slot) (us ws : List Word) → AreMade slots us → SlotsAre sc known level home base (on_top slots []) ws → ws ≡ reverse us
  all_made slots us ws h are =
      let t = topped slots us [] ws h are in
      t.is ∙ ap (λ rest. reverse us ++ rest) (no_rest t.rest t.are) ∙ append-nil (reverse us)

module _ (sc : Scopes) (known : List Known) (context : Context) (code : Code) (ps : List Placed) (level most bound : ℕ) (core : Core) (st : Standing code ps level most bound core) where
  abbrev Gets : ℕ → List Slot → ℕ → List Slot → Type 0
  Gets = Goes sc known code ps level most bound core st

  branches_at : {from to : ℕ} (x : List Slot) → fragments.FragmentGoes ps level from to → Gets from x to x
  branches_at x (fragments.stop {a = from}) = nothing sc known code ps level most bound core st from x
  branches_at x (fragments.over {a = from} {b = target} next branch more) =
      on sc known code ps level most bound core st (going sc known code ps level most bound core st from target next x branch) (branches_at x more)

  zeros_at : (k : ℕ) (x : List Slot) (from to : ℕ) → length x + k ≤ most → AllAt ps level (replicate k kinds.Zero) from to → Gets from x to (on_top (replicate k zero_slot) x)
  zeros_at zero x from to room e = subst (λ t. Gets from x t x) e (nothing sc known code ps level most bound core st from x)
  zeros_at (suc k) x from to room t =
      on sc known code ps level most bound core st (zero_at sc known context code ps level most bound core st x (omega (arith, room)) from t.0 t.1)
      (zeros_at k (zero_slot ∷ x) t.0 to (omega (arith, room)) t.2)

  controls_at : (controls : List Pcw) (x : List Slot) (from to : ℕ) → length x + length controls ≤ most → ControlsAt ps level controls from to →
      Gets from x to (on_top (control_slots controls) x)
  controls_at [] x from to room e = subst (λ t. Gets from x t x) e (nothing sc known code ps level most bound core st from x)
  controls_at (pcw ∷ controls) x from to room t =
      on sc known code ps level most bound core st (control_at sc known context code ps level most bound core st from t.0 pcw x t.1 (omega (arith, room)))
      (controls_at controls (control pcw ∷ x) t.0 to (omega (arith, room)) t.3)

  cells_at : (many : ℕ) (controls : List Pcw) {from begin : ℕ} (m to : ℕ) → many + length controls ≤ most → fragments.FragmentGoes ps level from begin →
      AllAt ps level (replicate many kinds.Zero) begin m → ControlsAt ps level controls m to → Gets from [] to (on_top (cell_slots many controls) [])
  cells_at many controls {from = from} {begin = begin} m to room way zeros stand =
      let zeroed : List Slot = on_top (replicate many zero_slot) [] in
      subst (λ x. Gets from [] to x) (on_top_append (replicate many zero_slot) (control_slots controls) [])
      (on sc known code ps level most bound core st
      (on sc known code ps level most bound core st (branches_at [] way) (zeros_at many [] begin m (omega (arith, room)) zeros))
      (controls_at controls zeroed m to (omega (arith, room, on_top_length (replicate many zero_slot) [], length-replicate many zero_slot)) stand))

module _ (sc : Scopes) (known : List Known) (context : Context) (code : Code) (ps : List Placed) (level bound from to : ℕ) (core : Core) (at : CoreAt sc known code ps level from [] core) where
  -- no cells: nothing is done but the branches
  none_made : length core.below + 0 ≤ bound → fragments.FragmentGoes ps level from to → CoreBegins sc known code ps level bound 0 [] to core
  none_made room way =
      let st : Standing code ps level 0 bound core = standing sc known code ps level 0 bound from [] core at room in
      let r : Reaches sc known code ps level 0 bound core from [] core.words to [] =
      branches_at sc known context code ps level 0 bound core st [] way core.words at.words_are (omega arith) in
      let last : Core = moved core to [] r.left in
      record {
        count = r.count;
        core = last;
        steps = subst (λ (c : Core). CoreSteps code bound r.count c last) (sym (moved_is sc known code ps level 0 bound from [] core at)) r.steps;
        below = sym (append-nil core.below);
        registers = ap (λ n. record core.registers { s = size last; f = frame core.registers; cells = n; place = to }) (cells_more core.registers.cells);
        at = record {
          segment = at.segment;
          there = at.there;
          spells = at.spells;
          level_is = at.level_is;
          place_is = refl;
          is = record { bottom = at.is.bottom; top = refl };
          mark_is = refl;
          words_are = r.are;
        };
        few = omega (arith, r.few, at.place_is);
      }
    where
      cells_more : (n : ℕ) → n ≡ n + 0
      cells_more n = omega arith

  some_made : (many : ℕ) (controls : List Pcw) {begin : ℕ} (m n : ℕ) → fragments.FragmentGoes ps level from begin → AllAt ps level (replicate many kinds.Zero) begin m
      → ControlsAt ps level controls m n → Has ps level n (ops.Plain kinds.Push) to → core.registers.cells + (many + length controls) ≤ most_cells
      → length core.below + (many + length controls) ≤ bound → CoreBegins sc known code ps level bound many controls to core
  some_made many controls m n way zeros stand has few room =
      let most : ℕ = many + length controls in
      let slots : List Slot = on_top (cell_slots many controls) [] in
      let st : Standing code ps level most bound core = standing sc known code ps level most bound from [] core at room in
      let r : Reaches sc known code ps level most bound core from [] core.words n slots =
      cells_at sc known context code ps level most bound core st many controls m n (omega arith) way zeros stand core.words at.words_are (omega arith) in
      let made_are : AreMade sc known level (frame core.registers) (length core.below) (cell_slots many controls) (cell_words many controls) =
      cells_made sc known level (frame core.registers) (length core.below) many controls in
      let bare : newest (frame core.registers) (length core.below) slots ≡ frame core.registers =
      made_newest sc known level (frame core.registers) (length core.below) (cell_slots many controls) (cell_words many controls) [] made_are in
      let long : length r.left ≡ most =
      omega (
        arith,
        slots_length sc known level (frame core.registers) (length core.below) slots r.left r.are,
        on_top_length (cell_slots many controls) [],
        cells_length many controls,
      ) in
      let small : length core.below + length r.left ≤ 2 + frame core.registers + most_cells = omega (arith, long, few, at.is.bottom) in
      let last : Core = made sc known code ps level most bound core st n to slots r.left has small in
      record {
        count = r.count + 1;
        core = last;
        steps = subst (λ (c : Core). CoreSteps code bound (r.count + 1) c last) (sym (moved_is sc known code ps level most bound from [] core at))
            (steps_on {c = last} r.steps (push_steps sc known code ps level most bound core st n to slots r.left has small (last_fits r.steps)));
        below =
            ap (λ ws. core.below ++ reverse ws)
            (all_made sc known level (frame core.registers) (length core.below) (cell_slots many controls) (cell_words many controls) r.left made_are r.are)
            ∙ ap (λ ws. core.below ++ ws) (reverse-reverse (cell_words many controls));
        registers = made_as sc known code ps level most bound core st n to slots r.left has small most long bare;
        at = made_at sc known code ps level most bound core st n to slots r.left has small bare;
        few = omega (arith, r.few, at.place_is, place_grows has);
      }

-- PUSH stands where there is anything to be pushed
pushed_at : (sc : Scopes) (context : Context) (ps : List Placed) (level k j from to : ℕ) → k ≡ suc j → MadeAt sc context ps level k from to → Has ps level from (ops.Plain kinds.Push) to
pushed_at sc context ps level k j from to e h = subst (λ c. MadeAt sc context ps level c from to) e h

pub blocks_begin : BlocksBegin
blocks_begin sc known context code ps level bound zero [] from begin to core way h at few room =
    none_made sc known context code ps level bound from to core at room (subst (λ t. fragments.FragmentGoes ps level from t) (h.2 ∙ h.3 ∙ h.4) way)
blocks_begin sc known context code ps level bound zero (pcw ∷ controls) from begin to core way h at few room =
    some_made sc known context code ps level bound from to core at zero (pcw ∷ controls) h.0 h.1 way h.2 h.3
    (pushed_at sc context ps level (zero + length (pcw ∷ controls)) (length controls) h.1 to (omega arith) h.4) few room
blocks_begin sc known context code ps level bound (suc k) controls from begin to core way h at few room =
    some_made sc known context code ps level bound from to core at (suc k) controls h.0 h.1 way h.2 h.3
    (pushed_at sc context ps level (suc k + length controls) (k + length controls) h.1 to (omega arith) h.4) few room
