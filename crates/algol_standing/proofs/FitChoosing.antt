-- Each choice keeps calls fitting.
use Rattle.std.proofs.Common.{◌≡◌, ◌⊎◌, ℕ, zero, suc, List, [], ◌∷◌, ◌++◌, length, Option, Some, None, Bool, true, false, refl, sym, ◌∙◌, subst}
use Rattle.std.specs.Prelude.{pos, if◌then◌else◌, nat_lt}
use Rattle.std.specs.List.{AllByRecursion}
use Rattle.b67_list.specs.Numbered.{numbered}
use Rattle.b67_num.specs.declared.FaultKind.TheVariants as fault
use Rattle.b67_num.specs.Whole.{fault_of}
use Rattle.algol_tree.specs.declared.tree.Kind.{Kind}
use Rattle.algol_tree.specs.declared.tree.Named.{Named}
use Rattle.algol_tree.specs.Plain.{PPair}
use Rattle.algol_tree.specs.Sorts.{is_by_name}
use Rattle.algol_tree.specs.Scopes.{Scopes, use_of}
use Rattle.algol_meaning.specs.declared.TheConstants.{MOST_STARTED}
use Rattle.algol_meaning.specs.Value.{Value, number, whole_of, Reference, Bounds, ArrayCell, Cell, simple, event, array, named, reference}
use Rattle.b67_deeds.specs.Events.{fresh_state}
use Rattle.b67_deeds.specs.Deeds as deeds
use Rattle.b67_deeds.specs.Deeds.{EventDeed, Deed, Next, deed}
use Rattle.algol_meaning.specs.Rest.{Place, own, there, element_of, Answer, done, value, cell, place}
use Rattle.algol_meaning.specs.Settle.{block_of_sort, sort_at, settle_actual_place}
use Rattle.algol_meaning.specs.World.{instance_at, cell_in, cell_at, set_cell, add_cells, followed, value_in, array_in, name_place, Part, Process, State, able, waits_for, procures, waits_any, with_process, World}
use Rattle.algol_meaning.specs.Arrays.{subscript_place, element_at, with_element, new_array, new_arrays, has_wrong_size, has_no_room, bounds_of}
use Rattle.algol_meaning.specs.Events.{event_at, same_reference, joined_all, first_happened, released}
use Rattle.algol_meaning.specs.Lines.{line_of}
use Rattle.b67_deeds.specs.declared.Letter.TheVariants as actions
use Rattle.algol_meaning.specs.Asks as asks
use Rattle.algol_meaning.specs.Asks.{Ask, ask, resume, located_of}
use Rattle.algol_meaning.specs.Choice.{Choice, choice_of, is_subscripted, nth_exists, goes, opens, fails, home, here, read_of, resolved_of, indexed_at, element_read_at, stored, made_arrays, given_cells, task_of, starts, told_answer, did, does_with_first, all_followed, waits_for_any, wakes_or_waits, does_with}
use Rattle.algol_paths.specs.Blocks.{IsSeenAround, IsInner}
use Rattle.algol_calls.specs.Fits.{CallsFitInTexts, IsLink, NameLeads, AskFits, AnswerFits}
use Rattle.algol_calls.proofs.Sorts.{by_name_formal}
use Rattle.algol_standing.specs.Worlds.{held_in_rest, held_in_answer, IsWholeInstance, IsSound}
use Rattle.algol_standing.specs.Fitting.{IsPlainAt, LeadsRight, AllLeadRight, ProcessFits, WorldFits}
use Rattle.algol_standing.proofs.Lists.{false_true}
use Rattle.algol_standing.proofs.EventCells.{same_is, same_or_not, among_more}
use Rattle.algol_standing.proofs.Holding.{IsForeign}
use Rattle.algol_standing.proofs.Seen.{part_ok}
use Rattle.algol_standing.proofs.Asking.{Sees, AskHolds, rest_sees, rest_asks}
use Rattle.algol_standing.proofs.FitCells.{finds_none, finds_first}
use Rattle.algol_standing.proofs.FitWorlds.{Extends, extends_self, right_all, plain_too, process_too, process_fits, set_cell_fits, set_cell_extends, add_cells_fits, add_cells_extends}
use Rattle.algol_standing.proofs.FitNames.{Seen, plain_here, link_here, right_here, followed_here}
use Rattle.algol_standing.proofs.FitActing.{simple_right, same_fits, here_fits, asked, NoOthers, answered_process, goes_fits, stays_fits, KeepsFit, either_fit, fails_fit}
use Rattle.algol_standing.proofs.FitEntering.{procedure_fits, start_fits, block_fits, read_fits, place_fits}
use Rattle.algol_standing.proofs.FitReleasing.{ArePlain, deed_fits, joined_fits}
use Rattle.algol_standing.proofs.FitLeaving.{leaves_fit, jump_fits}

module _ (sc : Scopes) (texts : CallsFitInTexts sc) (w : World) (ok : IsSound sc IsWholeInstance w) (fits : WorldFits sc w) (p : ℕ) (q : Process) (part : Part) (outer : List Part)
    (is : numbered w.processes p ≡ Some q) (todo : q.todo ≡ part ∷ outer) (able_is : q.state ≡ able) where
  abbrev Keeps : Choice → Type 0
  Keeps = KeepsFit sc w ok fits p q part outer is todo

  abbrev NoOthersHere : State → Type 0
  NoOthersHere = NoOthers sc w ok fits p q part outer is todo

  abbrev SeenHere : Named → Type 0
  SeenHere = Seen sc w ok fits p q part outer is todo

  abbrev at_name : Named → Reference
  at_name n = here sc w p q part outer n

  one_of : (b : Bool) (c d : Choice) → Keeps c → Keeps d → Keeps (if b then c else d)
  one_of = either_fit sc w ok fits p q part outer is todo

  abbrev j : ℕ
  j = (instance_at w part.instance).block

  module _ (x : Ask) (e : ask part.rest ≡ x) where
    wanted_of : AskFits sc x
    wanted_of = asked sc w ok fits p q part outer is todo x e

    seen_of : Sees SeenHere (IsInner sc j) x
    seen_of =
        subst (λ y. Sees SeenHere (IsInner sc j) y) e
        (rest_sees SeenHere (IsInner sc j) (IsSeenAround sc j) (λ n s. s.0) part.rest (part_ok sc IsWholeInstance w ok p q part outer is todo).text)

    held_of : AskHolds (LeadsRight sc w) x
    held_of =
        subst (λ y. AskHolds (LeadsRight sc w) y) e
        (rest_asks (LeadsRight sc w) part.rest (right_all sc w (held_in_rest part.rest) (here_fits sc w ok fits p q part outer is todo).holds))

    stays : (a : Answer) → AnswerFits sc x a → AllLeadRight sc w (held_in_answer a) → IsForeign a →
        WorldFits sc (with_process w p (record q { todo = record part { rest = resume sc part.rest a } ∷ outer }))
    stays a f b g = stays_fits sc w ok fits p q part outer is todo x e a f b g

    -- .. and the world is another
    goes_to_answer : (a : Answer) → AnswerFits sc x a → AllLeadRight sc w (held_in_answer a) → IsForeign a → (v : World) → Extends w v → WorldFits sc v → (s : State) → NoOthersHere s →
        WorldFits sc (with_process v p (record q { todo = record part { rest = resume sc part.rest a } ∷ outer; state = s }))
    goes_to_answer a f b g v more h s none = goes_fits sc w ok fits p q part outer is todo x e a f b g v more h s none

    -- .. and nothing is answered
    goes_in : AnswerFits sc x done → (v : World) → Extends w v → WorldFits sc v → (s : State) → NoOthersHere s →
        WorldFits sc (with_process v p (record q { todo = record part { rest = resume sc part.rest done } ∷ outer; state = s }))
    goes_in f v more h s none = goes_fits sc w ok fits p q part outer is todo x e done f tt tt v more h s none

  -- ---- reads and places

  read_kept : (n : Named) → ask part.rest ≡ asks.reads n → (c : Cell) → LeadsRight sc w c → Keeps (read_of sc w p q part outer c)
  read_kept n e (named c) h = read_fits sc texts w ok fits p q part outer is todo c n e h
  read_kept n e (reference r) h = stays (asks.reads n) e (value (value_in (cell_at w r))) tt tt tt
  read_kept n e (simple v) h = stays (asks.reads n) e (value v) tt tt tt
  read_kept n e (event d) h = stays (asks.reads n) e (value (value_in (event d))) tt tt tt
  read_kept n e (array a) h = stays (asks.reads n) e (value (value_in (array a))) tt tt tt

  resolved_kept : (n : Named) → ask part.rest ≡ asks.resolves n → (b : Bool) (c : Cell) → IsLink b c → LeadsRight sc w c → Keeps (resolved_of sc w p q part outer n c)
  resolved_kept n e b (named c) i h = by (is_subscripted c.actual) refl
    where
      by : (d : Bool) → is_subscripted c.actual ≡ d →
          Keeps
          (if d then opens sc w p q part outer w (record { instance = c.instance; purpose = name_place; rest = located_of (settle_actual_place sc c.actual) })
          else fails sc w p q part outer fault.NotAVariable)
      by true f = place_fits sc texts w ok fits p q part outer is todo c n e f h
      by false f = fails_fit sc w ok fits p q part outer is todo fault.NotAVariable
  resolved_kept n e b (reference r) i h = stays (asks.resolves n) e (place (there r)) tt (h, tt) tt
  resolved_kept n e b (simple v) i h = absurd i
  resolved_kept n e b (event d) i h = absurd i
  resolved_kept n e b (array a) i h = absurd i

  indexed_kept : (n : Named) (ks : List ℕ) (v : Value) → ask part.rest ≡ asks.indexes n ks v → (r : Reference) → IsPlainAt sc w r → (o : Option ℕ) →
      Keeps (indexed_at sc w p q part outer r ks o)
  indexed_kept n ks v e r h None = fails_fit sc w ok fits p q part outer is todo fault.InvalidIndex
  indexed_kept n ks v e r h (Some k) = stays (asks.indexes n ks v) e (place (element_of r (ks ++ k ∷ []))) tt (h, tt) tt

  element_kept : (n : Named) (ks : List ℕ) (v : Value) → ask part.rest ≡ asks.reads_element n ks v → (a : ArrayCell) (o : Option ℕ) → Keeps (element_read_at sc w p q part outer a ks o)
  element_kept n ks v e a None = fails_fit sc w ok fits p q part outer is todo fault.InvalidIndex
  element_kept n ks v e a (Some k) = stays (asks.reads_element n ks v) e (value (element_at a (ks ++ k ∷ []))) tt tt tt

  -- ---- stores

  module _ (x : Place) (v : Value) (e : ask part.rest ≡ asks.stores x v) where
    set_kept : (r : Reference) (c : Cell) → IsPlainAt sc w r → LeadsRight sc w c →
        WorldFits sc (with_process (set_cell w r c) p (record q { todo = record part { rest = resume sc part.rest done } ∷ outer }))
    set_kept r c plain right =
        goes_in (asks.stores x v) e tt (set_cell w r c) (set_cell_extends sc w fits r c plain right) (set_cell_fits sc w fits r c plain right) q.state (λ r f. f)

  stored_kept : (x : Place) (v : Value) (e : ask part.rest ≡ asks.stores x v) → Keeps (stored sc w p q part outer x v)
  stored_kept (own n) v e =
      set_kept (own n) v e (at_name n) (simple v) (plain_here sc w ok fits p q part outer is todo n (seen_of (asks.stores (own n) v) e) (wanted_of (asks.stores (own n) v) e)) tt
  stored_kept (there r) v e = set_kept (there r) v e r (simple v) (held_of (asks.stores (there r) v) e).0 tt
  stored_kept (element_of r ks) v e =
      set_kept (element_of r ks) v e r (array (with_element (array_in (cell_at w r)) ks v)) (held_of (asks.stores (element_of r ks) v) e).0 tt

  -- ---- events

  told_fits : (x : EventDeed) (ns : List Named) (o : Option Bool) → AnswerFits sc (asks.event_deed x ns) (told_answer sc w p q part outer o)
  told_fits x ns None = tt
  told_fits x ns (Some b) = tt

  told_right : (o : Option Bool) → AllLeadRight sc w (held_in_answer (told_answer sc w p q part outer o))
  told_right None = tt
  told_right (Some b) = tt

  told_foreign : (o : Option Bool) → IsForeign (told_answer sc w p q part outer o)
  told_foreign None = tt
  told_foreign (Some b) = tt

  did_kept : (x : EventDeed) (ns : List Named) → ask part.rest ≡ asks.event_deed x ns → (r : Reference) → IsPlainAt sc w r → (d : Deed) (n : Next) →
      Keeps (did sc w p q part outer x r d n)
  did_kept x ns e r plain d n = by n
    where
      h : WorldFits sc (released w r d).world × Extends w (released w r d).world
      h = deed_fits sc w r d fits plain

      by : (m : Next) → Keeps (did sc w p q part outer x r d m)
      by deeds.goes =
          goes_to_answer (asks.event_deed x ns) e (told_answer sc w p q part outer d.answer) (told_fits x ns d.answer) (told_right d.answer) (told_foreign d.answer) (released w r d).world h.1 h.0
          q.state (λ r f. f)
      by deeds.waits = goes_in (asks.event_deed x ns) e tt (released w r d).world h.1 h.0 (waits_for r) (λ t f. false_true f)
      by deeds.procures = goes_in (asks.event_deed x ns) e tt (released w r d).world h.1 h.0 (procures r) (λ t f. false_true f)

  first_kept : (x : EventDeed) (ns : List Named) → ask part.rest ≡ asks.event_deed x ns → Keeps (does_with_first sc w p q part outer x ns)
  first_kept x [] e = fits
  first_kept x (n ∷ ns) e =
      let r = followed w (at_name n) in
      did_kept x (n ∷ ns) e r
      (followed_here sc w ok fits p q part outer is todo n (seen_of (asks.event_deed x (n ∷ ns)) e).0 ((wanted_of (asks.event_deed x (n ∷ ns)) e).0).0)
      (deed x p (event_at w r)) ((deed x p (event_at w r)).next)

  -- ---- several events

  abbrev all : List Named → List Reference
  all ns = all_followed sc w p q part outer ns

  all_plain : (ns : List Named) → AllByRecursion SeenHere ns → AllByRecursion (NameLeads sc) ns → ArePlain sc w (all ns)
  all_plain [] s l r m = false_true m
  all_plain (n ∷ ns) s l r m = by (same_or_not t r) (λ f. all_plain ns s.1 l.1 r (sym (among_more t (all ns) r f) ∙ m))
    where
      t : Reference
      t = followed w (at_name n)

      by : (same_reference t r ≡ true) ⊎ (same_reference t r ≡ false) → (same_reference t r ≡ false → IsPlainAt sc w r) → IsPlainAt sc w r
      by (◌⊎◌.inl f) go = subst (λ (u : Reference). IsPlainAt sc w u) (same_is t r f) (followed_here sc w ok fits p q part outer is todo n s.0 l.0)
      by (◌⊎◌.inr f) go = go f

  module _ (x : EventDeed) (ns : List Named) (e : ask part.rest ≡ asks.event_deed x ns) where
    plain : ArePlain sc w (all ns)
    plain = all_plain ns (seen_of (asks.event_deed x ns) e) (wanted_of (asks.event_deed x ns) e).0

    old : ProcessFits sc w q
    old = fits.processes p q is

    waits_kept : (o : Option ℕ) → Keeps (waits_for_any sc w p q part outer (all ns) o)
    waits_kept None =
        let f = joined_fits sc (all ns) [] w p fits plain in
        let v = joined_all w p [] (all ns) in
        let g = process_too sc w v f.1 q old in
        process_fits sc v p (record q { state = waits_any (all ns) }) f.0
        (record { parts = g.parts; task = g.task; waits = λ r m. plain_too sc w v f.1 r (plain r m) })
    waits_kept (Some n) = stays (asks.event_deed x ns) e (value (number (pos n))) tt tt tt

    several_kept : (woken : ℕ) → Keeps (wakes_or_waits sc w p q part outer woken (all ns))
    several_kept zero = waits_kept (first_happened w (all ns))
    several_kept (suc n) =
        let a = value (number (pos (suc n))) in
        let r : Process = record q { todo = record part { rest = resume sc part.rest a } ∷ outer } in
        let g = answered_process sc w ok fits p q part outer is todo (asks.event_deed x ns) e a tt tt tt in
        process_fits sc w p (record r { woken = 0 }) fits (record { parts = g.parts; task = g.task; waits = g.waits })

    does_kept : Keeps (does_with sc w p q part outer x ns)
    does_kept =
        one_of (deeds.is_of_several x) (wakes_or_waits sc w p q part outer q.woken (all ns)) (does_with_first sc w p q part outer x ns) (several_kept q.woken) (first_kept x ns e)

  -- ---- arrays and events that are made

  arrays_right : (kind : Kind) (bs : List Bounds) (ns : List Named) (m : List ℕ) → LeadsRight sc w (cell_in (new_arrays kind bs ns) m)
  arrays_right kind bs [] = finds_none (LeadsRight sc w) (simple_right sc w)
  arrays_right kind bs (n ∷ ns) =
      finds_first (LeadsRight sc w) (simple_right sc w) (record { name = n.name; cell = new_array kind bs }) (new_arrays kind bs ns) tt (arrays_right kind bs ns)

  arrays_kept : (kind : Kind) (ns : List Named) (pairs : List PPair) (vs : List Value) → ask part.rest ≡ asks.makes_arrays kind ns pairs vs → (bs : List Bounds) →
      Keeps (made_arrays sc w p q part outer kind ns bs)
  arrays_kept kind ns pairs vs e bs = by (has_wrong_size bs) (has_no_room w bs ns)
    where
      by : (b c : Bool) →
          Keeps
          (if b then fails sc w p q part outer fault.ArraySize
          else if c then fails sc w p q part outer fault.CoreFull
          else goes sc w p q part outer actions.MakeArrays (add_cells w part.instance (new_arrays kind bs ns)) done)
      by true c = fails_fit sc w ok fits p q part outer is todo fault.ArraySize
      by false true = fails_fit sc w ok fits p q part outer is todo fault.CoreFull
      by false false =
          goes_in (asks.makes_arrays kind ns pairs vs) e tt (add_cells w part.instance (new_arrays kind bs ns))
          (add_cells_extends sc w fits part.instance (new_arrays kind bs ns) (arrays_right kind bs ns))
          (add_cells_fits sc w fits part.instance (new_arrays kind bs ns) (arrays_right kind bs ns)) q.state (λ r f. f)

  -- ---- by what the head asks for

  pub choice_kept : (x : Ask) → ask part.rest ≡ x → Keeps (choice_of sc w p q part outer x)
  choice_kept asks.nothing e = fits
  choice_kept (asks.reads n) e = read_kept n e (cell_at w (at_name n)) (right_here sc w ok fits p q part outer is todo n (seen_of (asks.reads n) e))
  choice_kept (asks.reads_element n ks v) e =
      element_kept n ks v e (array_in (cell_at w (followed w (at_name n)))) (subscript_place ((use_of sc n).sort) (array_in (cell_at w (followed w (at_name n)))) ks (whole_of v))
  choice_kept (asks.indexes n ks v) e =
      indexed_kept n ks v e (followed w (at_name n)) (followed_here sc w ok fits p q part outer is todo n (seen_of (asks.indexes n ks v) e) (wanted_of (asks.indexes n ks v) e))
      (subscript_place ((use_of sc n).sort) (array_in (cell_at w (followed w (at_name n)))) ks (whole_of v))
  choice_kept (asks.fails f) e = fails_fit sc w ok fits p q part outer is todo (fault_of f)
  choice_kept (asks.enters n gs) e =
      let x = wanted_of (asks.enters n gs) e in
      procedure_fits sc texts w ok fits p q part outer is todo n gs x.0 x.1 (seen_of (asks.enters n gs) e).1 (held_of (asks.enters n gs) e) e
  choice_kept (asks.passes n) e =
      let x = wanted_of (asks.passes n) e in
      let s = seen_of (asks.passes n) e in
      stays (asks.passes n) e (cell (cell_at w (at_name n))) (link_here sc w ok fits p q part outer is todo n s x.0 x.1)
      (right_here sc w ok fits p q part outer is todo n s, tt) tt
  choice_kept (asks.resolves n) e =
      let x = wanted_of (asks.resolves n) e in
      let s = seen_of (asks.resolves n) e in
      resolved_kept n e (is_by_name (sort_at sc n)) (cell_at w (at_name n)) (link_here sc w ok fits p q part outer is todo n s x.0 (by_name_formal (sort_at sc n) x.1))
      (right_here sc w ok fits p q part outer is todo n s)
  choice_kept (asks.reads_result name) e = stays (asks.reads_result name) e (value (value_in (cell_at w (record { instance = part.instance; name = name })))) tt tt tt
  choice_kept (asks.leaves a) e = leaves_fit sc texts w ok fits p q part outer is todo able_is a e
  choice_kept (asks.stores x v) e = stored_kept x v e
  choice_kept (asks.selects v ss) e =
      one_of (nth_exists (whole_of v) ss) (goes sc w p q part outer actions.Select w done) (fails sc w p q part outer fault.CaseIndex) (stays (asks.selects v ss) e done tt tt tt)
      (fails_fit sc w ok fits p q part outer is todo fault.CaseIndex)
  choice_kept asks.turns e = stays asks.turns e done tt tt tt
  choice_kept (asks.goes_to n) e = jump_fits sc texts w ok fits p q part outer is todo able_is n (home sc w p q part outer n)
  choice_kept (asks.enters_block b) e =
      let s = seen_of (asks.enters_block b) e in
      block_fits sc texts w ok fits p q part outer is todo b e s.known s.parameters
  choice_kept (asks.starts n gs task) e =
      let x = wanted_of (asks.starts n gs task) e in
      let s = seen_of (asks.starts n gs task) e in
      one_of (nat_lt MOST_STARTED (length w.processes)) (fails sc w p q part outer fault.ProcessLimit)
      (starts sc w p q part outer (block_of_sort ((use_of sc n).sort)) (home sc w p q part outer n) (given_cells sc w p q part outer gs) (task_of sc w p q part outer task))
      (fails_fit sc w ok fits p q part outer is todo fault.ProcessLimit)
      (start_fits sc texts w ok fits p q part outer is todo n gs x.0 x.1 s.1 (held_of (asks.starts n gs task) e) task x.2 s.2 e)
  choice_kept (asks.event_deed x ns) e = does_kept x ns e
  choice_kept (asks.writes phrases vs) e =
      goes_in (asks.writes phrases vs) e tt (record w { output = w.output ++ line_of phrases vs ∷ [] }) (extends_self w (record w { output = w.output ++ line_of phrases vs ∷ [] }) refl)
      (same_fits sc w (record w { output = w.output ++ line_of phrases vs ∷ [] }) fits refl refl) q.state (λ r f. f)
  choice_kept (asks.makes_arrays kind ns pairs vs) e = arrays_kept kind ns pairs vs e (bounds_of pairs vs)
  choice_kept (asks.makes_event n) e =
      let right = finds_first (LeadsRight sc w) (simple_right sc w) (record { name = n.name; cell = event fresh_state }) [] tt (finds_none (LeadsRight sc w) (simple_right sc w)) in
      goes_in (asks.makes_event n) e tt (add_cells w part.instance (record { name = n.name; cell = event fresh_state } ∷ []))
      (add_cells_extends sc w fits part.instance (record { name = n.name; cell = event fresh_state } ∷ []) right)
      (add_cells_fits sc w fits part.instance (record { name = n.name; cell = event fresh_state } ∷ []) right) q.state (λ r f. f)
