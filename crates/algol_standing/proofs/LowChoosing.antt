-- Each choice: nobody comes to more of an instance.
use Rattle.std.proofs.Common.{◌≡◌, ◌⊎◌, ℕ, zero, suc, List, [], ◌∷◌, ◌++◌, length, Option, Some, None, Bool, true, false, refl, subst}
use Rattle.std.specs.Prelude.{pos, if◌then◌else◌, nat_lt}
use Rattle.b67_list.specs.Numbered.{numbered}
use Rattle.b67_num.specs.declared.FaultKind.{FaultKind}
use Rattle.b67_num.specs.declared.FaultKind.TheVariants as fault
use Rattle.b67_num.specs.Whole.{fault_of}
use Rattle.algol_tree.specs.declared.tree.Kind.{Kind}
use Rattle.algol_tree.specs.declared.tree.Named.{Named}
use Rattle.algol_tree.specs.Scopes.{Scopes, use_of}
use Rattle.algol_meaning.specs.declared.TheConstants.{MOST_STARTED}
use Rattle.algol_meaning.specs.Value.{Value, number, whole_of, Reference, Bounds, ArrayCell, Cell, simple, event, array, named, reference}
use Rattle.b67_deeds.specs.Events.{fresh_state}
use Rattle.b67_deeds.specs.Deeds as deeds
use Rattle.b67_deeds.specs.Deeds.{EventDeed, Deed, Next, deed}
use Rattle.algol_meaning.specs.Rest.{Place, own, there, element_of, Answer, done, value, cell, place}
use Rattle.algol_meaning.specs.Settle.{block_of_sort, settle_actual_place}
use Rattle.algol_meaning.specs.World.{instance_at, cell_at, set_cell, add_cells, followed, value_in, array_in, name_place, Part, Process, State, waits_for, procures, waits_any, with_process, World}
use Rattle.algol_meaning.specs.Arrays.{subscript_place, element_at, with_element, new_arrays, has_wrong_size, has_no_room, bounds_of}
use Rattle.algol_meaning.specs.Events.{event_at, joined_all, first_happened, released}
use Rattle.algol_meaning.specs.Lines.{line_of}
use Rattle.b67_deeds.specs.declared.Letter.TheVariants as actions
use Rattle.algol_meaning.specs.Asks as asks
use Rattle.algol_meaning.specs.Asks.{Ask, ask, resume, located_of}
use Rattle.algol_meaning.specs.Choice.{Choice, choice_of, is_subscripted, nth_exists, goes, opens, fails, home, here, read_of, resolved_of, indexed_at, element_read_at, stored, made_arrays, given_cells, task_of, starts, told_answer, did, does_with_first, all_followed, waits_for_any, wakes_or_waits, does_with}
use Rattle.algol_paths.specs.Blocks.{BlockIsSeen, IsSeenAround, IsInner}
use Rattle.algol_calls.specs.Fits.{sorts_wanted, AskFits}
use Rattle.algol_standing.specs.Worlds.{held_in_rest, held_in_answer, IsNoBlock, IsWholeInstance, IsSound}
use Rattle.algol_standing.specs.Fitting.{WorldFits}
use Rattle.algol_standing.specs.Lows.{LeadsLow, CellsLow}
use Rattle.algol_calls.specs.Texts.{KeepToTexts}
use Rattle.algol_standing.proofs.Holding.{AreAll, IsForeign}
use Rattle.algol_standing.proofs.Seen.{part_ok}
use Rattle.algol_standing.proofs.Asking.{Sees, AskHolds, rest_sees, rest_asks}
use Rattle.algol_standing.proofs.FitActing.{asked}
use Rattle.algol_standing.proofs.LowWorlds.{Low, all_low, LowIf, same_low, process_low, joined_low, set_cell_low, add_cells_low}
use Rattle.algol_standing.proofs.LowNames.{Near, leads_here, cell_here_low, followed_low}
use Rattle.algol_standing.proofs.LowActing.{old_part, task_low, goes_low, woken_low, stays_low, KeepsLow, either_low, fails_low}
use Rattle.algol_standing.proofs.LowEntering.{told_of, procedure_low, start_low, block_low, read_low, place_low}
use Rattle.algol_standing.proofs.LowLeaving.{deed_low, leaves_low, jump_low}

module _ (sc : Scopes) (texts : KeepToTexts sc) (w : World) (ok : IsSound sc IsWholeInstance w) (fits : WorldFits sc w) (p : ℕ) (q : Process) (part : Part) (outer : List Part)
    (is : numbered w.processes p ≡ Some q) (todo : q.todo ≡ part ∷ outer) (b i : ℕ) (X : Type 0) (h : Near sc b i X w part) where
  abbrev Keeps : Choice → Type 0
  Keeps = KeepsLow sc w ok p q part outer is todo b i X h

  abbrev LowHere : Cell → Type 0
  LowHere = Low sc b i X

  abbrev at_name : Named → Reference
  at_name n = here sc w p q part outer n

  one_of : (t : Bool) (c d : Choice) → Keeps c → Keeps d → Keeps (if t then c else d)
  one_of = either_low sc w ok p q part outer is todo b i X h

  fails_or : (k : FaultKind) → Keeps (fails sc w p q part outer k)
  fails_or = fails_low sc w ok p q part outer is todo b i X h

  abbrev j : ℕ
  j = (instance_at w part.instance).block

  module _ (x : Ask) (e : ask part.rest ≡ x) where
    wanted_of : AskFits sc x
    wanted_of = asked sc w ok fits p q part outer is todo x e

    seen_of : Sees (BlockIsSeen sc j) (IsInner sc j) x
    seen_of =
        subst (λ y. Sees (BlockIsSeen sc j) (IsInner sc j) y) e
        (rest_sees (BlockIsSeen sc j) (IsInner sc j) (IsSeenAround sc j) (λ n s. s.0) part.rest (part_ok sc IsWholeInstance w ok p q part outer is todo).text)

    near_of : X → part.instance ≡ i → Sees (IsSeenAround sc b) IsNoBlock x
    near_of t f = subst (λ y. Sees (IsSeenAround sc b) IsNoBlock y) e (h.near t f)

    held_of : AskHolds LowHere x
    held_of =
        subst (λ y. AskHolds LowHere y) e
        (rest_asks LowHere part.rest
        (all_low sc b i X (held_in_rest part.rest) (λ t. ((old_part sc w ok p q part outer is todo b i X h part (◌⊎◌.inl refl)).low t).holds)))

  stays : (a : Answer) → AreAll LowHere (held_in_answer a) → IsForeign a → LowIf sc b i X (with_process w p (record q { todo = record part { rest = resume sc part.rest a } ∷ outer }))
  stays a g f = stays_low sc w ok p q part outer is todo b i X h a g f

  -- nothing is answered, and the world is another
  goes_in : (v : World) → LowIf sc b i X v → (s : State) → LowIf sc b i X (with_process v p (record q { todo = record part { rest = resume sc part.rest done } ∷ outer; state = s }))
  goes_in v l s = goes_low sc w ok p q part outer is todo b i X h done tt tt v l s

  -- ---- reads and places

  read_kept : (c : Cell) → LowHere c → Keeps (read_of sc w p q part outer c)
  read_kept (named c) l = read_low sc w ok p q part outer is todo b i X h c l
  read_kept (reference r) l = stays (value (value_in (cell_at w r))) tt tt
  read_kept (simple v) l = stays (value v) tt tt
  read_kept (event d) l = stays (value (value_in (event d))) tt tt
  read_kept (array a) l = stays (value (value_in (array a))) tt tt

  resolved_kept : (n : Named) (c : Cell) → LowHere c → (X → LeadsLow sc b i (at_name n)) → Keeps (resolved_of sc w p q part outer n c)
  resolved_kept n (named c) l g = by (is_subscripted c.actual) refl
    where
      by : (t : Bool) → is_subscripted c.actual ≡ t →
          Keeps
          (if t then opens sc w p q part outer w (record { instance = c.instance; purpose = name_place; rest = located_of (settle_actual_place sc c.actual) })
          else fails sc w p q part outer fault.NotAVariable)
      by true f = place_low sc w ok p q part outer is todo b i X h c f l
      by false f = fails_or fault.NotAVariable
  resolved_kept n (reference r) l g = stays (place (there r)) (l, tt) tt
  resolved_kept n (simple v) l g = stays (place (there (at_name n))) (g, tt) tt
  resolved_kept n (event d) l g = stays (place (there (at_name n))) (g, tt) tt
  resolved_kept n (array a) l g = stays (place (there (at_name n))) (g, tt) tt

  indexed_kept : (r : Reference) (ks : List ℕ) → (X → LeadsLow sc b i r) → (o : Option ℕ) → Keeps (indexed_at sc w p q part outer r ks o)
  indexed_kept r ks g None = fails_or fault.InvalidIndex
  indexed_kept r ks g (Some k) = stays (place (element_of r (ks ++ k ∷ []))) (g, tt) tt

  element_kept : (a : ArrayCell) (ks : List ℕ) (o : Option ℕ) → Keeps (element_read_at sc w p q part outer a ks o)
  element_kept a ks None = fails_or fault.InvalidIndex
  element_kept a ks (Some k) = stays (value (element_at a (ks ++ k ∷ []))) tt tt

  -- ---- stores and events

  set_kept : (r : Reference) (c : Cell) → LowHere c → LowIf sc b i X (with_process (set_cell w r c) p (record q { todo = record part { rest = resume sc part.rest done } ∷ outer }))
  set_kept r c l = goes_in (set_cell w r c) (set_cell_low sc b i X w r c l h.low) q.state

  stored_kept : (x : Place) (v : Value) → Keeps (stored sc w p q part outer x v)
  stored_kept (own n) v = set_kept (at_name n) (simple v) (λ t. tt)
  stored_kept (there r) v = set_kept r (simple v) (λ t. tt)
  stored_kept (element_of r ks) v = set_kept r (array (with_element (array_in (cell_at w r)) ks v)) (λ t. tt)

  told_low : (o : Option Bool) → AreAll LowHere (held_in_answer (told_answer sc w p q part outer o))
  told_low None = tt
  told_low (Some b) = tt

  told_foreign : (o : Option Bool) → IsForeign (told_answer sc w p q part outer o)
  told_foreign None = tt
  told_foreign (Some b) = tt

  did_kept : (x : EventDeed) (r : Reference) (d : Deed) (n : Next) → Keeps (did sc w p q part outer x r d n)
  did_kept x r d n = by n
    where
      low : LowIf sc b i X (released w r d).world
      low = deed_low sc texts w ok p q part outer is todo b i X h w r d h.low

      by : (m : Next) → Keeps (did sc w p q part outer x r d m)
      by deeds.goes =
          goes_low sc w ok p q part outer is todo b i X h (told_answer sc w p q part outer d.answer) (told_low d.answer) (told_foreign d.answer) (released w r d).world low q.state
      by deeds.waits = goes_in (released w r d).world low (waits_for r)
      by deeds.procures = goes_in (released w r d).world low (procures r)

  first_kept : (x : EventDeed) (ns : List Named) → Keeps (does_with_first sc w p q part outer x ns)
  first_kept x [] = h.low
  first_kept x (n ∷ ns) = let r = followed w (at_name n) in did_kept x r (deed x p (event_at w r)) ((deed x p (event_at w r)).next)

  waits_kept : (rs : List Reference) (o : Option ℕ) → Keeps (waits_for_any sc w p q part outer rs o)
  waits_kept rs None =
      process_low sc b i X (joined_all w p [] rs) p (record q { state = waits_any rs }) (joined_low sc b i X rs [] w p h.low) (λ y n. h.low.parts p q y is n)
      (task_low sc w ok p q part outer is todo b i X h)
  waits_kept rs (Some n) = stays (value (number (pos n))) tt tt

  several_kept : (woken : ℕ) (rs : List Reference) → Keeps (wakes_or_waits sc w p q part outer woken rs)
  several_kept zero rs = waits_kept rs (first_happened w rs)
  several_kept (suc n) rs = woken_low sc w ok p q part outer is todo b i X h (value (number (pos (suc n)))) tt tt

  does_kept : (x : EventDeed) (ns : List Named) → Keeps (does_with sc w p q part outer x ns)
  does_kept x ns =
      one_of (deeds.is_of_several x) (wakes_or_waits sc w p q part outer q.woken (all_followed sc w p q part outer ns)) (does_with_first sc w p q part outer x ns)
      (several_kept q.woken (all_followed sc w p q part outer ns)) (first_kept x ns)

  -- ---- arrays and events that are made

  arrays_low : (kind : Kind) (bs : List Bounds) (ns : List Named) → CellsLow sc b i (new_arrays kind bs ns)
  arrays_low kind bs [] = tt
  arrays_low kind bs (n ∷ ns) = (tt, arrays_low kind bs ns)

  arrays_kept : (kind : Kind) (ns : List Named) (bs : List Bounds) → Keeps (made_arrays sc w p q part outer kind ns bs)
  arrays_kept kind ns bs = by (has_wrong_size bs) (has_no_room w bs ns)
    where
      by : (s t : Bool) →
          Keeps
          (if s then fails sc w p q part outer fault.ArraySize
          else if t then fails sc w p q part outer fault.CoreFull
          else goes sc w p q part outer actions.MakeArrays (add_cells w part.instance (new_arrays kind bs ns)) done)
      by true t = fails_or fault.ArraySize
      by false true = fails_or fault.CoreFull
      by false false =
          goes_in (add_cells w part.instance (new_arrays kind bs ns)) (add_cells_low sc b i X w part.instance (new_arrays kind bs ns) (arrays_low kind bs ns) h.low) q.state

  -- ---- by what the head asks for

  pub choice_low : (x : Ask) → ask part.rest ≡ x → Keeps (choice_of sc w p q part outer x)
  choice_low asks.nothing e = h.low
  choice_low (asks.reads n) e = read_kept (cell_at w (at_name n)) (cell_here_low sc w ok p q part outer is todo b i X h n (seen_of (asks.reads n) e))
  choice_low (asks.reads_element n ks v) e =
      element_kept (array_in (cell_at w (followed w (at_name n)))) ks (subscript_place ((use_of sc n).sort) (array_in (cell_at w (followed w (at_name n)))) ks (whole_of v))
  choice_low (asks.indexes n ks v) e =
      indexed_kept (followed w (at_name n)) ks
      (followed_low sc w ok p q part outer is todo b i X h n (seen_of (asks.indexes n ks v) e) (near_of (asks.indexes n ks v) e) (wanted_of (asks.indexes n ks v) e).told)
      (subscript_place ((use_of sc n).sort) (array_in (cell_at w (followed w (at_name n)))) ks (whole_of v))
  choice_low (asks.fails f) e = fails_or (fault_of f)
  choice_low (asks.enters n gs) e =
      let f = wanted_of (asks.enters n gs) e in
      procedure_low sc w ok p q part outer is todo b i X h n gs f.0 (seen_of (asks.enters n gs) e) (near_of (asks.enters n gs) e) (told_of sc (λ after. after ≡ []) gs (sorts_wanted sc n) f.1)
      (held_of (asks.enters n gs) e)
  choice_low (asks.passes n) e = stays (cell (cell_at w (at_name n))) (cell_here_low sc w ok p q part outer is todo b i X h n (seen_of (asks.passes n) e), tt) tt
  choice_low (asks.resolves n) e =
      let s = seen_of (asks.resolves n) e in
      resolved_kept n (cell_at w (at_name n)) (cell_here_low sc w ok p q part outer is todo b i X h n s)
      (leads_here sc w ok p q part outer is todo b i X h n s (near_of (asks.resolves n) e) (wanted_of (asks.resolves n) e).0)
  choice_low (asks.reads_result name) e = stays (value (value_in (cell_at w (record { instance = part.instance; name = name })))) tt tt
  choice_low (asks.leaves a) e = leaves_low sc texts w ok p q part outer is todo b i X h a e
  choice_low (asks.stores x v) e = stored_kept x v
  choice_low (asks.selects v ss) e =
      one_of (nth_exists (whole_of v) ss) (goes sc w p q part outer actions.Select w done) (fails sc w p q part outer fault.CaseIndex) (stays done tt tt) (fails_or fault.CaseIndex)
  choice_low asks.turns e = stays done tt tt
  choice_low (asks.goes_to n) e = jump_low sc texts w ok p q part outer is todo b i X h n (home sc w p q part outer n)
  choice_low (asks.enters_block x) e = block_low sc w ok p q part outer is todo b i X h x (near_of (asks.enters_block x) e)
  choice_low (asks.starts n gs task) e =
      let f = wanted_of (asks.starts n gs task) e in
      let s = seen_of (asks.starts n gs task) e in
      one_of (nat_lt MOST_STARTED (length w.processes)) (fails sc w p q part outer fault.ProcessLimit)
      (starts sc w p q part outer (block_of_sort ((use_of sc n).sort)) (home sc w p q part outer n) (given_cells sc w p q part outer gs) (task_of sc w p q part outer task))
      (fails_or fault.ProcessLimit)
      (start_low sc w ok p q part outer is todo b i X h n gs f.0 (s.0, s.1) (λ t g. let m = near_of (asks.starts n gs task) e t g in (m.0, m.1))
      (told_of sc (λ after. after ≡ []) gs (sorts_wanted sc n) f.1) (held_of (asks.starts n gs task) e) task f.2 s.2 (λ t g. (near_of (asks.starts n gs task) e t g).2))
  choice_low (asks.event_deed x ns) e = does_kept x ns
  choice_low (asks.writes phrases vs) e =
      goes_in (record w { output = w.output ++ line_of phrases vs ∷ [] }) (same_low sc b i X w (record w { output = w.output ++ line_of phrases vs ∷ [] }) refl refl h.low) q.state
  choice_low (asks.makes_arrays kind ns pairs vs) e = arrays_kept kind ns (bounds_of pairs vs)
  choice_low (asks.makes_event n) e =
      goes_in (add_cells w part.instance (record { name = n.name; cell = event fresh_state } ∷ []))
      (add_cells_low sc b i X w part.instance (record { name = n.name; cell = event fresh_state } ∷ []) (tt, tt) h.low) q.state
