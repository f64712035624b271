-- What the actions are that are told to access a cell, or to do something with an event.
use Rattle.std.proofs.Common.{◌≡◌, ◌⊎◌, inl, inr, refl, sym, ap, subst, ◌∙◌, ℕ, zero, suc, ◌++◌, ◌==◌, nat_lt, if◌then◌else◌, Bool, true, false, List, [], ◌∷◌, length, Option, Some, None}
use Rattle.b67_deeds.specs.declared.EventAct.TheVariants as act
use Rattle.b67_deeds.specs.declared.EventTest.TheVariants as test
use Rattle.b67_deeds.specs.declared.Letter.{Letter}
use Rattle.b67_deeds.specs.declared.Letter.TheVariants as letter
use Rattle.b67_deeds.specs.Deeds as deeds
use Rattle.b67_deeds.specs.Deeds.{EventDeed, Deed, Next, deed, letter_of, is_of_several, answers}
use Rattle.b67_num.specs.declared.FaultKind.TheVariants as fault
use Rattle.algol_tree.specs.declared.tree.Kind.{Kind}
use Rattle.algol_tree.specs.declared.tree.Named.{Named}
use Rattle.algol_tree.specs.Plain.{PPair, PStmts}
use Rattle.algol_tree.specs.Blocks.{Block, block_numbered}
use Rattle.algol_tree.specs.Scopes.{Scopes, use_of}
use Rattle.algol_meaning.specs.Value.{Value, whole_of, Reference, ArrayCell, Cell, simple, event, array, named, reference}
use Rattle.algol_meaning.specs.declared.TheConstants.{MOST_STARTED}
use Rattle.algol_meaning.specs.Rest.{Place, own, there, element_of, Given, Answer, done}
use Rattle.algol_meaning.specs.Settle.{block_of_sort, settle_actual_place}
use Rattle.algol_meaning.specs.World.{name_place, Part, Process, World, add_cells, cell_at, by_cell, followed, array_in, process_at, instance_at}
use Rattle.algol_meaning.specs.Arrays.{subscript_place, new_arrays, has_wrong_size, has_no_room, bounds_of}
use Rattle.algol_meaning.specs.Critical.{some_depends, some_depends_on_any, is_evaluation, own_instances}
use Rattle.algol_meaning.specs.Instances.{Cut, cut_at}
use Rattle.algol_meaning.specs.Events.{event_at, first_happened}
use Rattle.algol_meaning.specs.Asks as asks
use Rattle.algol_meaning.specs.Asks.{Ask, ask, located_of}
use Rattle.algol_meaning.specs.Choice as choices
use Rattle.algol_meaning.specs.Choice.{Choice, choice, choice_in, choice_of, here}
use Rattle.algol_effect.specs.Effects.{followed_in}
use Rattle.algol_laws.specs.Kept.{stored_by, stored_in, stored_cells}
use Rattle.algol_laws.specs.Reading.{read_by, read_in, read_cells}
use Rattle.b67_race.specs.Entries.{Signal, nothing, goes_by, Access}
use Rattle.b67_list.proofs.Numbers.{absurd_truth}
use Rattle.algol_seen.specs.Accesses as accesses
use Rattle.algol_seen.specs.Accesses.{whole_cell, access_by, access_in, acting_by, acting_in, signal_of, first_signal, gone_by, several_signal, signal_after, next_access, next_signal, goes_if, takes_if, frees_if}
use Rattle.algol_seen.specs.Laws.{holder, IsOneOf, letter_by_access, is_of_whole, IsSignal, EachAccessIsTold, EachSignalIsTold}

abbrev is_cause : Letter → Bool
is_cause letter.Cause = true
is_cause _ = false

-- neither a read nor a store of a whole cell, nor CAUSE
record Plain (l : Letter) : Type 0 where
  of_whole : is_of_whole l ≡ false
  of_cause : is_cause l ≡ false

either : (b : Bool) (c d : Choice) → Plain c.action → Plain d.action → Plain (if b then c else d).action
either true c d x y = x
either false c d x y = y

-- ---- accesses

-- what is told of a choice, which may store these and depends on those
abbrev Told : Option Access → Letter → List Reference → List Reference → Type 0
Told None l stored read = is_of_whole l ≡ false
Told (Some a) l stored read =
    (l ≡ letter_by_access a.storing a.cell.at) × (stored ≡ (if a.storing then holder a.cell ∷ [] else [])) × (a.storing ≡ false → IsOneOf read (holder a.cell))

read_told : (r : Reference) (m : Option ℕ) (before : Reference) → Told (accesses.access_at_element r m false) letter.ElementRead [] (before ∷ r ∷ [])
read_told r None before = refl
read_told r (Some k) before = (refl, refl, λ e. inr (inl refl))

stored_told : (r : Reference) (m : Option ℕ) → Told (accesses.access_at_element r m true) letter.ElementStore (r ∷ []) []
stored_told r None = refl
stored_told r (Some k) = (refl, refl, λ e. absurd_truth e)

module _ (sc : Scopes) (w : World) (p : ℕ) (q : Process) (part : Part) (outer : List Part) where
  cell_told : (r : Reference) (c : Cell) → Told (accesses.read_of r c) (choices.read_of sc w p q part outer c).action [] (r ∷ by_cell c r ∷ [])
  cell_told r (simple v) = (refl, refl, λ e. inl refl)
  cell_told r (event x) = (refl, refl, λ e. inl refl)
  cell_told r (array a) = (refl, refl, λ e. inl refl)
  cell_told r (named c) = refl
  cell_told r (reference s) = (refl, refl, λ e. inr (inl refl))

  element_told : (a : ArrayCell) (r : Reference) (ks : List ℕ) (o : Option ℕ) (before : Reference) →
      Told (accesses.element_read a r ks o) (choices.element_read_at sc w p q part outer a ks o).action [] (before ∷ r ∷ [])
  element_told a r ks None before = refl
  element_told a r ks (Some k) before = read_told r (accesses.element_number_in a (ks ++ k ∷ [])) before

  place_told : (x : Place) (v : Value) →
      Told (accesses.stored_at sc w part.instance x) (choices.stored sc w p q part outer x v).action (stored_by sc w p q part outer (asks.stores x v)) []
  place_told (own n) v = (refl, refl, λ e. absurd_truth e)
  place_told (there r) v = (refl, refl, λ e. absurd_truth e)
  place_told (element_of r ks) v = stored_told r (accesses.element_number_in (array_in (cell_at w r)) ks)

  -- ---- the other choices

  indexed_plain : (r : Reference) (ks : List ℕ) (o : Option ℕ) → Plain (choices.indexed_at sc w p q part outer r ks o).action
  indexed_plain r ks None = record { of_whole = refl; of_cause = refl }
  indexed_plain r ks (Some k) = record { of_whole = refl; of_cause = refl }

  resolved_plain : (n : Named) (c : Cell) → Plain (choices.resolved_of sc w p q part outer n c).action
  resolved_plain n (simple v) = record { of_whole = refl; of_cause = refl }
  resolved_plain n (event x) = record { of_whole = refl; of_cause = refl }
  resolved_plain n (array a) = record { of_whole = refl; of_cause = refl }
  resolved_plain n (reference r) = record { of_whole = refl; of_cause = refl }
  resolved_plain n (named c) =
      either (choices.is_subscripted c.actual)
      (choices.opens sc w p q part outer w (record { instance = c.instance; purpose = name_place; rest = located_of (settle_actual_place sc c.actual) }))
      (choices.fails sc w p q part outer fault.NotAVariable) (record { of_whole = refl; of_cause = refl }) (record { of_whole = refl; of_cause = refl })

  left_with_plain : (after : World) (a : Answer) (parts : List Part) → Plain (choices.left_with sc w p q part outer after a parts).action
  left_with_plain after a [] = record { of_whole = refl; of_cause = refl }
  left_with_plain after a (next ∷ parts) = record { of_whole = refl; of_cause = refl }

  left_or_ended_plain : (a : Answer) (parts : List Part) → Plain (choices.left_or_ended sc w p q part outer a parts).action
  left_or_ended_plain a [] = record { of_whole = refl; of_cause = refl }
  left_or_ended_plain a (next ∷ parts) = record { of_whole = refl; of_cause = refl }

  left_plain : (a : Answer) → Plain (choices.left_choice sc w p q part outer a).action
  left_plain a =
      either (is_evaluation part.purpose) (choices.left_with sc w p q part outer w a outer)
      (if some_depends w.processes part.instance then choices.fails sc w p q part outer fault.CriticalBlockExit else choices.left_or_ended sc w p q part outer a outer)
      (left_with_plain w a outer)
      (either (some_depends w.processes part.instance) (choices.fails sc w p q part outer fault.CriticalBlockExit) (choices.left_or_ended sc w p q part outer a outer)
      (record { of_whole = refl; of_cause = refl }) (left_or_ended_plain a outer))

  gone_plain : (newer : List ℕ) (b : Block) (n : Named) (parts : List Part) → Plain (choices.gone sc w p q part outer newer b n parts).action
  gone_plain newer b n [] = record { of_whole = refl; of_cause = refl }
  gone_plain newer b n (target ∷ parts) = record { of_whole = refl; of_cause = refl }

  gone_to_plain : (n : Named) (i : ℕ) (cut : Cut) → Plain (choices.gone_to sc w p q part outer n i cut).action
  gone_to_plain n i cut =
      either (some_depends_on_any w.processes (own_instances cut.newer)) (choices.fails sc w p q part outer fault.CriticalBlockExit)
      (choices.gone sc w p q part outer (own_instances cut.newer) (block_numbered sc.blocks ((instance_at w i).block)) n cut.from)
      (record { of_whole = refl; of_cause = refl })
      (gone_plain (own_instances cut.newer) (block_numbered sc.blocks ((instance_at w i).block)) n cut.from)

  goes_to_plain : (n : Named) (i : ℕ) → Plain (choices.goes_to sc w p q part outer n i).action
  goes_to_plain n i =
      either ((instance_at w i).process == p) (choices.gone_to sc w p q part outer n i (cut_at [] (part ∷ outer) i)) (choices.fails sc w p q part outer fault.BadGoTo)
      (gone_to_plain n i (cut_at [] (part ∷ outer) i)) (record { of_whole = refl; of_cause = refl })

  selected_plain : (v : Value) (ss : PStmts) → Plain (choice_of sc w p q part outer (asks.selects v ss)).action
  selected_plain v ss =
      either (choices.nth_exists (whole_of v) ss) (choices.goes sc w p q part outer letter.Select w done) (choices.fails sc w p q part outer fault.CaseIndex)
      (record { of_whole = refl; of_cause = refl }) (record { of_whole = refl; of_cause = refl })

  started_plain : (n : Named) (gs : List Given) (task : Option Named) → Plain (choice_of sc w p q part outer (asks.starts n gs task)).action
  started_plain n gs task =
      either (nat_lt MOST_STARTED (length w.processes)) (choices.fails sc w p q part outer fault.ProcessLimit)
      (choices.starts sc w p q part outer (block_of_sort ((use_of sc n).sort)) (choices.home sc w p q part outer n) (choices.given_cells sc w p q part outer gs)
      (choices.task_of sc w p q part outer task))
      (record { of_whole = refl; of_cause = refl }) (record { of_whole = refl; of_cause = refl })

  arrays_plain : (kind : Kind) (ns : List Named) (pairs : List PPair) (vs : List Value) → Plain (choice_of sc w p q part outer (asks.makes_arrays kind ns pairs vs)).action
  arrays_plain kind ns pairs vs =
      either (has_wrong_size (bounds_of pairs vs)) (choices.fails sc w p q part outer fault.ArraySize)
      (if has_no_room w (bounds_of pairs vs) ns then choices.fails sc w p q part outer fault.CoreFull else (choices.goes sc w p q part outer letter.MakeArrays after done))
      (record { of_whole = refl; of_cause = refl })
      (either (has_no_room w (bounds_of pairs vs) ns) (choices.fails sc w p q part outer fault.CoreFull) (choices.goes sc w p q part outer letter.MakeArrays after done)
      (record { of_whole = refl; of_cause = refl }) (record { of_whole = refl; of_cause = refl }))
    where
      after : World
      after = add_cells w part.instance (new_arrays kind (bounds_of pairs vs) ns)

  -- ---- deeds on events

  did_action : (x : EventDeed) (r : Reference) (d : Deed) (n : Next) → (choices.did sc w p q part outer x r d n).action ≡ letter_of x
  did_action x r d deeds.goes = refl
  did_action x r d deeds.waits = refl
  did_action x r d deeds.procures = refl

  deed_whole : (x : EventDeed) → is_of_whole (letter_of x) ≡ false
  deed_whole (deeds.acts act.Cause) = refl
  deed_whole (deeds.acts act.CauseAndReset) = refl
  deed_whole (deeds.acts act.Reset) = refl
  deed_whole (deeds.acts act.Wait) = refl
  deed_whole (deeds.acts act.Procure) = refl
  deed_whole (deeds.acts act.Liberate) = refl
  deed_whole (deeds.tests test.Happened) = refl
  deed_whole (deeds.tests test.Available) = refl
  deed_whole (deeds.tests test.Fix) = refl
  deed_whole (deeds.tests test.WaitAny) = refl

  any_action : (rs : List Reference) (o : Option ℕ) → (choices.waits_for_any sc w p q part outer rs o).action ≡ letter.WaitAny
  any_action rs None = refl
  any_action rs (Some n) = refl

  several_whole : (woken : ℕ) (rs : List Reference) → is_of_whole (choices.wakes_or_waits sc w p q part outer woken rs).action ≡ false
  several_whole zero rs = ap is_of_whole (any_action rs (first_happened w rs))
  several_whole (suc n) rs = refl

  first_whole : (x : EventDeed) (ns : List Named) → is_of_whole (choices.does_with_first sc w p q part outer x ns).action ≡ false
  first_whole x [] = refl
  first_whole x (n ∷ ns) = let r = followed w (here sc w p q part outer n) in let d = deed x p (event_at w r) in ap is_of_whole (did_action x r d d.next) ∙ deed_whole x

  deeds_whole : (x : EventDeed) (ns : List Named) → is_of_whole (choices.does_with sc w p q part outer x ns).action ≡ false
  deeds_whole x ns = by (is_of_several x)
    where
      by : (b : Bool) →
          is_of_whole (if b then choices.wakes_or_waits sc w p q part outer q.woken (choices.all_followed sc w p q part outer ns)
          else (choices.does_with_first sc w p q part outer x ns)).action
          ≡ false
      by true = several_whole q.woken (choices.all_followed sc w p q part outer ns)
      by false = first_whole x ns

  -- ---- by what the head asks for

  access_told : (x : Ask) → Told (access_by sc w part.instance x) (choice_of sc w p q part outer x).action (stored_by sc w p q part outer x) (read_by sc w p q part outer x)
  access_told asks.nothing = refl
  access_told (asks.reads n) = cell_told (here sc w p q part outer n) (cell_at w (here sc w p q part outer n))
  access_told (asks.reads_element n ks v) =
      let r = followed w (here sc w p q part outer n) in
      let a = array_in (cell_at w r) in
      element_told a r ks (subscript_place ((use_of sc n).sort) a ks (whole_of v)) (here sc w p q part outer n)
  access_told (asks.indexes n ks v) =
      let r = followed w (here sc w p q part outer n) in
      (indexed_plain r ks (subscript_place ((use_of sc n).sort) (array_in (cell_at w r)) ks (whole_of v))).of_whole
  access_told (asks.fails f) = refl
  access_told (asks.enters n gs) = refl
  access_told (asks.passes n) = refl
  access_told (asks.resolves n) = (resolved_plain n (cell_at w (here sc w p q part outer n))).of_whole
  access_told (asks.reads_result name) = (refl, refl, λ e. inl refl)
  access_told (asks.leaves a) = (left_plain a).of_whole
  access_told (asks.stores x v) = place_told x v
  access_told (asks.selects v ss) = (selected_plain v ss).of_whole
  access_told asks.turns = refl
  access_told (asks.goes_to n) = (goes_to_plain n (choices.home sc w p q part outer n)).of_whole
  access_told (asks.enters_block b) = refl
  access_told (asks.starts n gs task) = (started_plain n gs task).of_whole
  access_told (asks.event_deed x ns) = deeds_whole x ns
  access_told (asks.writes phrases vs) = refl
  access_told (asks.makes_arrays kind ns pairs vs) = (arrays_plain kind ns pairs vs).of_whole
  access_told (asks.makes_event n) = refl

-- ---- events

module _ (w : World) where
  -- an action that does nothing with an event, unless it is the end of a process with a task
  after_nothing : (l : Letter) (o : Option Reference) → is_cause l ≡ false → IsSignal w l (signal_after l o nothing)
  after_nothing letter.Read o e = λ f. cc
  after_nothing letter.Index o e = λ f. cc
  after_nothing letter.ElementRead o e = λ f. cc
  after_nothing letter.Resolve o e = λ f. cc
  after_nothing letter.Store o e = λ f. cc
  after_nothing letter.ElementStore o e = λ f. cc
  after_nothing letter.Pass o e = λ f. cc
  after_nothing letter.Enter o e = λ f. cc
  after_nothing letter.Leave o e = λ f. cc
  after_nothing letter.MakeArrays o e = λ f. cc
  after_nothing letter.MakeEvent o e = λ f. cc
  after_nothing letter.Select o e = λ f. cc
  after_nothing letter.Turn o e = λ f. cc
  after_nothing letter.GoTo o e = λ f. cc
  after_nothing letter.Line o e = λ f. cc
  after_nothing letter.Start o e = λ f. cc
  after_nothing letter.End None e = λ f. cc
  after_nothing letter.End (Some r) e = inr refl
  after_nothing letter.Fault o e = λ f. cc
  after_nothing letter.Wait o e = λ f. cc
  after_nothing letter.Cause o e = absurd_truth e
  after_nothing letter.Reset o e = λ f. cc
  after_nothing letter.Happened o e = λ f. cc
  after_nothing letter.Procure o e = λ f. cc
  after_nothing letter.Liberate o e = λ f. cc
  after_nothing letter.WaitAny o e = λ f. cc
  after_nothing letter.Woke o e = λ f. cc
  after_nothing letter.CauseAndReset o e = λ f. cc
  after_nothing letter.Available o e = λ f. cc
  after_nothing letter.Fix o e = λ f. cc

  goes_told : (l : Letter) (r : Reference) (b : Bool) → (l ≡ letter.Wait) ⊎ (l ≡ letter.WaitAny) → (l ≡ letter.Cause → ⊥) → (event_at w r).happened ≡ b → IsSignal w l (goes_if b r)
  goes_told l r true is other e = (is, e)
  goes_told l r false is other e = other

  takes_told : (l : Letter) (r : Reference) (b : Bool) → (l ≡ letter.Procure) ⊎ (l ≡ letter.Fix) → (l ≡ letter.Cause → ⊥) → (event_at w r).available ≡ b → IsSignal w l (takes_if b r)
  takes_told l r true is other e = (is, e)
  takes_told l r false is other e = other

  frees_told : (r : Reference) (b : Bool) (ps : List ℕ) → (event_at w r).available ≡ b → (event_at w r).procurers ≡ ps → IsSignal w letter.Liberate (frees_if b ps r)
  frees_told r true ps e f = λ g. cc
  frees_told r false [] e f = (refl, e, f)
  frees_told r false (p ∷ ps) e f = λ g. cc

  deed_told : (x : EventDeed) (r : Reference) (o : Option Reference) → IsSignal w (letter_of x) (signal_after (letter_of x) o (signal_of x r (event_at w r)))
  deed_told (deeds.acts act.Cause) r o = inl refl
  deed_told (deeds.acts act.CauseAndReset) r o = λ e. cc
  deed_told (deeds.acts act.Reset) r o = λ e. cc
  deed_told (deeds.acts act.Wait) r o = goes_told letter.Wait r (event_at w r).happened (inl refl) (λ e. cc) refl
  deed_told (deeds.acts act.Procure) r o = takes_told letter.Procure r (event_at w r).available (inl refl) (λ e. cc) refl
  deed_told (deeds.acts act.Liberate) r o = frees_told r (event_at w r).available (event_at w r).procurers refl refl
  deed_told (deeds.tests test.Happened) r o = λ e. cc
  deed_told (deeds.tests test.Available) r o = λ e. cc
  deed_told (deeds.tests test.Fix) r o = takes_told letter.Fix r (event_at w r).available (inr refl) (λ e. cc) refl
  deed_told (deeds.tests test.WaitAny) r o = goes_told letter.WaitAny r (event_at w r).happened (inr refl) (λ e. cc) refl

  gone_told : (rs : List Reference) → IsSignal w letter.WaitAny (gone_by w rs)
  gone_told [] = λ e. cc
  gone_told (r ∷ rs) = by (event_at w r).happened refl (gone_told rs)
    where
      by : (b : Bool) → (event_at w r).happened ≡ b → IsSignal w letter.WaitAny (gone_by w rs) → IsSignal w letter.WaitAny (if b then goes_by (whole_cell r) else gone_by w rs)
      by true e later = (inr refl, e)
      by false e later = later

module _ (sc : Scopes) (w : World) (p : ℕ) (q : Process) (part : Part) (outer : List Part) (o : Option Reference) where
  abbrev Signals : Letter → Signal → Type 0
  Signals l s = IsSignal w l (signal_after l o s)

  several_told : (woken : ℕ) (rs : List Reference) → Signals (choices.wakes_or_waits sc w p q part outer woken rs).action (several_signal w woken rs)
  several_told zero rs = subst (λ (l : Letter). IsSignal w l (signal_after l o (gone_by w rs))) (sym (any_action sc w p q part outer rs (first_happened w rs))) (gone_told w rs)
  several_told (suc n) rs = λ e. cc

  first_told : (x : EventDeed) (ns : List Named) → Signals (choices.does_with_first sc w p q part outer x ns).action (first_signal w x (followed_in sc w part.instance ns))
  first_told x [] = λ e. cc
  first_told x (n ∷ ns) =
      let r = followed w (here sc w p q part outer n) in
      let d = deed x p (event_at w r) in
      subst (λ (l : Letter). IsSignal w l (signal_after l o (signal_of x r (event_at w r)))) (sym (did_action sc w p q part outer x r d d.next)) (deed_told w x r o)

  deeds_told : (x : EventDeed) (ns : List Named) → Signals (choices.does_with sc w p q part outer x ns).action (acting_by sc w part.instance q.woken (asks.event_deed x ns))
  deeds_told x ns = by (is_of_several x)
    where
      by : (b : Bool) →
          Signals (if b then choices.wakes_or_waits sc w p q part outer q.woken (choices.all_followed sc w p q part outer ns) else (choices.does_with_first sc w p q part outer x ns)).action
          (if b then several_signal w q.woken (followed_in sc w part.instance ns) else first_signal w x (followed_in sc w part.instance ns))
      by true = several_told q.woken (followed_in sc w part.instance ns)
      by false = first_told x ns

  read_cause : (c : Cell) → is_cause (choices.read_of sc w p q part outer c).action ≡ false
  read_cause (simple v) = refl
  read_cause (event x) = refl
  read_cause (array a) = refl
  read_cause (named c) = refl
  read_cause (reference s) = refl

  element_cause : (a : ArrayCell) (ks : List ℕ) (o : Option ℕ) → is_cause (choices.element_read_at sc w p q part outer a ks o).action ≡ false
  element_cause a ks None = refl
  element_cause a ks (Some k) = refl

  stored_cause : (x : Place) (v : Value) → is_cause (choices.stored sc w p q part outer x v).action ≡ false
  stored_cause (own n) v = refl
  stored_cause (there r) v = refl
  stored_cause (element_of r ks) v = refl

  signal_told : (x : Ask) → Signals (choice_of sc w p q part outer x).action (acting_by sc w part.instance q.woken x)
  signal_told asks.nothing = λ e. cc
  signal_told (asks.reads n) = let c = cell_at w (here sc w p q part outer n) in after_nothing w (choices.read_of sc w p q part outer c).action o (read_cause c)
  signal_told (asks.reads_element n ks v) =
      let a = array_in (cell_at w (followed w (here sc w p q part outer n))) in
      let k = subscript_place ((use_of sc n).sort) a ks (whole_of v) in
      after_nothing w (choices.element_read_at sc w p q part outer a ks k).action o (element_cause a ks k)
  signal_told (asks.indexes n ks v) =
      let r = followed w (here sc w p q part outer n) in
      let k = subscript_place ((use_of sc n).sort) (array_in (cell_at w r)) ks (whole_of v) in
      after_nothing w (choices.indexed_at sc w p q part outer r ks k).action o (indexed_plain sc w p q part outer r ks k).of_cause
  signal_told (asks.fails f) = λ e. cc
  signal_told (asks.enters n gs) = λ e. cc
  signal_told (asks.passes n) = λ e. cc
  signal_told (asks.resolves n) =
      let c = cell_at w (here sc w p q part outer n) in
      after_nothing w (choices.resolved_of sc w p q part outer n c).action o (resolved_plain sc w p q part outer n c).of_cause
  signal_told (asks.reads_result name) = λ e. cc
  signal_told (asks.leaves a) = after_nothing w (choices.left_choice sc w p q part outer a).action o (left_plain sc w p q part outer a).of_cause
  signal_told (asks.stores x v) = after_nothing w (choices.stored sc w p q part outer x v).action o (stored_cause x v)
  signal_told (asks.selects v ss) = after_nothing w (choice_of sc w p q part outer (asks.selects v ss)).action o (selected_plain sc w p q part outer v ss).of_cause
  signal_told asks.turns = λ e. cc
  signal_told (asks.goes_to n) =
      let i = choices.home sc w p q part outer n in after_nothing w (choices.goes_to sc w p q part outer n i).action o (goes_to_plain sc w p q part outer n i).of_cause
  signal_told (asks.enters_block b) = λ e. cc
  signal_told (asks.starts n gs task) =
      after_nothing w (choice_of sc w p q part outer (asks.starts n gs task)).action o (started_plain sc w p q part outer n gs task).of_cause
  signal_told (asks.event_deed x ns) = deeds_told x ns
  signal_told (asks.writes phrases vs) = λ e. cc
  signal_told (asks.makes_arrays kind ns pairs vs) =
      after_nothing w (choice_of sc w p q part outer (asks.makes_arrays kind ns pairs vs)).action o (arrays_plain sc w p q part outer kind ns pairs vs).of_cause
  signal_told (asks.makes_event n) = λ e. cc

-- ---- by process

module _ (sc : Scopes) (w : World) (p : ℕ) (q : Process) where
  told_in : (parts : List Part) → Told (access_in sc w parts) (choice_in sc w p q parts).action (stored_in sc w p q parts) (read_in sc w p q parts)
  told_in [] = refl
  told_in (part ∷ outer) = access_told sc w p q part outer (ask part.rest)

  signal_in : (parts : List Part) (o : Option Reference) → IsSignal w (choice_in sc w p q parts).action (signal_after (choice_in sc w p q parts).action o (acting_in sc w q.woken parts))
  signal_in [] o = λ e. cc
  signal_in (part ∷ outer) o = signal_told sc w p q part outer o (ask part.rest)

told_next : (sc : Scopes) (w : World) (p : ℕ) → Told (next_access sc w p) (choice sc w p).action (stored_cells sc w p) (read_cells sc w p)
unfolding next_access choice stored_cells read_cells
told_next sc w p = told_in sc w p (process_at w p) (process_at w p).todo

pub each_access_is_told : EachAccessIsTold
each_access_is_told sc w p =
    record {
      some = λ a e. let t = subst (λ (o : Option Access). Told o (choice sc w p).action (stored_cells sc w p) (read_cells sc w p)) e (told_next sc w p) in
          record { letter = t.0; stored = t.1; read = t.2 };
      none = λ e. subst (λ (o : Option Access). Told o (choice sc w p).action (stored_cells sc w p) (read_cells sc w p)) e (told_next sc w p);
    }

pub each_signal_is_told : EachSignalIsTold
unfolding next_signal choice
each_signal_is_told sc w p = signal_in sc w p (process_at w p) (process_at w p).todo (process_at w p).task
