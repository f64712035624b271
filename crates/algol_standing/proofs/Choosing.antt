-- Each choice keeps what worlds are.
use Rattle.std.proofs.Common.{◌≡◌, ◌⊎◌, ℕ, zero, suc, ◌≤◌, List, [], ◌∷◌, ◌++◌, length, Option, Some, None, Bool, true, false, refl, sym, ap, ◌∙◌, subst}
use Rattle.std.specs.Prelude.{pos, if◌then◌else◌, nat_lt}
use Rattle.std.specs.List.{AllByRecursion}
use Rattle.b67_limits.specs.declared.TheConstants.{MOST_EVENTS}
use Rattle.b67_list.specs.Numbered.{numbered}
use Rattle.b67_num.specs.declared.FaultKind.{FaultKind}
use Rattle.b67_num.specs.declared.FaultKind.TheVariants as fault
use Rattle.b67_num.specs.Whole.{fault_of}
use Rattle.algol_tree.specs.declared.tree.Named.{Named}
use Rattle.algol_tree.specs.Scopes.{Scopes, use_of}
use Rattle.algol_meaning.specs.declared.TheConstants.{MOST_STARTED}
use Rattle.algol_meaning.specs.Value.{number, whole_of, Reference}
use Rattle.algol_meaning.specs.Rest.{Answer, done, value, cell}
use Rattle.algol_meaning.specs.Settle.{block_of_sort}
use Rattle.algol_meaning.specs.World.{instance_at, cell_at, followed, value_in, array_in, Part, Process, State, able, waits_for, procures, waits_any, ended, is_able, lives, or_no_process, process_at, World}
use Rattle.algol_meaning.specs.Arrays.{subscript_place, bounds_of}
use Rattle.algol_meaning.specs.Events.{event_at, same_reference, reference_is_among, first_happened}
use Rattle.algol_meaning.specs.Lines.{line_of}
use Rattle.b67_deeds.specs.declared.Letter.TheVariants as actions
use Rattle.algol_meaning.specs.Asks as asks
use Rattle.algol_meaning.specs.Asks.{Ask, nothing, ask, resume}
use Rattle.algol_meaning.specs.Choice.{Choice, choice, choice_in, choice_of, nth_exists, goes, fails, home, here, given_cells, task_of, starts, told_answer, does_with_first, all_followed, waits_for_any, wakes_or_waits, does_with}
use Rattle.b67_deeds.specs.Deeds as deeds
use Rattle.b67_deeds.specs.Deeds.{EventDeed, deed}
use Rattle.algol_meaning.specs.Run.{end_of, may_go}
use Rattle.algol_meaning.proofs.Cited.{goes_able}
use Rattle.algol_standing.specs.Worlds.{newest_own, IsOnPath, HasHead, IsWholeInstance, IsSound}
use Rattle.algol_paths.specs.Blocks.{BlockIsSeen, IsInner}
use Rattle.algol_calls.specs.Fits.{AreFew}
use Rattle.algol_calls.specs.Texts.{KeepToTexts}
use Rattle.algol_standing.proofs.Calls.{CallFits, HeadFits}
use Rattle.algol_standing.proofs.Alike.{instance_self, InstanceAlike}
use Rattle.algol_standing.proofs.Pairs.{pairs_self}
use Rattle.algol_standing.proofs.Seen.{CellOk, cell_here}
use Rattle.algol_standing.proofs.Asking.{Sees, Suits}
use Rattle.algol_standing.proofs.Acting.{heads_act}
use Rattle.algol_standing.proofs.Lists.{false_true}
use Rattle.algol_standing.proofs.EventCells.{same_is, same_or_not, among_more}
use Rattle.algol_standing.proofs.Events.{deed_done}
use Rattle.algol_standing.proofs.Waiting.{waits_ok}
use Rattle.algol_standing.proofs.Leaves.{left_keeps}
use Rattle.algol_standing.proofs.Jumping.{jump_keeps}
use Rattle.algol_standing.proofs.Calling.{procedure_enters, block_enters}
use Rattle.algol_standing.proofs.Starting.{process_starts}
use Rattle.algol_standing.proofs.Quiet.{Keeps, either, fails_keeps, at_followed, sees, suited, value_goes, done_goes, same_goes, woken_goes, goes_ok, read_keeps, resolved_keeps, indexed_keeps, element_keeps, stored_keeps, arrays_keep, event_keeps}

module _ (sc : Scopes) (texts : KeepToTexts sc) (w : World) (ok : IsSound sc IsWholeInstance w) (p : ℕ) (q : Process) (part : Part) (outer : List Part) (is : numbered w.processes p ≡ Some q)
    (todo : q.todo ≡ part ∷ outer) (able_is : q.state ≡ able) where
  abbrev KeepsHere : Choice → Type 0
  KeepsHere = Keeps sc (heads_act sc) w ok p q part outer is todo able_is

  one_of : (b : Bool) (c d : Choice) → KeepsHere c → KeepsHere d → KeepsHere (if b then c else d)
  one_of = either sc (heads_act sc) w ok p q part outer is todo able_is

  fails_or : (k : FaultKind) → KeepsHere (fails sc w p q part outer k)
  fails_or = fails_keeps sc (heads_act sc) w ok p q part outer is todo able_is

  module _ (x : Ask) (e : ask part.rest ≡ x) where
    seen_by : Sees (BlockIsSeen sc ((instance_at w part.instance).block)) (IsInner sc ((instance_at w part.instance).block)) x
    seen_by = sees sc (heads_act sc) w ok p q part outer is todo able_is x e

    suits_by : (a : Answer) → Suits x a → Suits (ask part.rest) a
    suits_by = suited sc (heads_act sc) w ok p q part outer is todo able_is x e

  -- the cell of a name that the head sees
  cell_by : (n : Named) → BlockIsSeen sc ((instance_at w part.instance).block) n → CellOk sc IsWholeInstance w ok (newest_own (part ∷ outer)) (cell_at w (here sc w p q part outer n))
  cell_by = cell_here sc IsWholeInstance w ok p q part outer is todo

  told_suits : (x : EventDeed) (ns : List Named) (o : Option Bool) → Suits (asks.event_deed x ns) (told_answer sc w p q part outer o)
  told_suits x ns None = tt
  told_suits x ns (Some b) = tt

  first_keeps : (x : EventDeed) (ns : List Named) → ask part.rest ≡ asks.event_deed x ns → KeepsHere (does_with_first sc w p q part outer x ns)
  first_keeps x [] e = ok
  first_keeps x (n ∷ ns) e =
      let r = followed w (here sc w p q part outer n) in
      let a = told_answer sc w p q part outer (deed x p (event_at w r)).answer in
      deed_done sc (heads_act sc) w ok p q part outer is todo able_is r
      (at_followed sc (heads_act sc) w ok p q part outer is todo able_is n (seen_by (asks.event_deed x (n ∷ ns)) e).0) x
      (suits_by (asks.event_deed x (n ∷ ns)) e a (told_suits x (n ∷ ns) (deed x p (event_at w r)).answer)) (suits_by (asks.event_deed x (n ∷ ns)) e done tt)

  -- ---- several events

  abbrev all : List Named → List Reference
  all ns = all_followed sc w p q part outer ns

  abbrev SeenHere : Named → Type 0
  SeenHere n = BlockIsSeen sc ((instance_at w part.instance).block) n

  -- each of them lies on the path
  on_path : (ns : List Named) → AllByRecursion SeenHere ns → (r : Reference) → reference_is_among (all ns) r ≡ true → IsOnPath w (newest_own (part ∷ outer)) r.instance
  on_path [] s r m = false_true m
  on_path (n ∷ ns) s r m = by (same_or_not t r) (λ f. on_path ns s.1 r (sym (among_more t (all ns) r f) ∙ m))
    where
      t : Reference
      t = followed w (here sc w p q part outer n)

      by : (same_reference t r ≡ true) ⊎ (same_reference t r ≡ false) → (same_reference t r ≡ false → IsOnPath w (newest_own (part ∷ outer)) r.instance) →
          IsOnPath w (newest_own (part ∷ outer)) r.instance
      by (◌⊎◌.inl f) go =
          subst (λ (u : Reference). IsOnPath w (newest_own (part ∷ outer)) u.instance) (same_is t r f)
          (at_followed sc (heads_act sc) w ok p q part outer is todo able_is n s.0)
      by (◌⊎◌.inr f) go = go f

  as_many : (ns : List Named) → length (all ns) ≡ length ns
  as_many [] = refl
  as_many (n ∷ ns) = ap suc (as_many ns)

  module _ (x : EventDeed) (ns : List Named) (e : ask part.rest ≡ asks.event_deed x ns) (few : AreFew ns) where
    waits_keep : (o : Option ℕ) → KeepsHere (waits_for_any sc w p q part outer (all ns) o)
    waits_keep None =
        waits_ok sc w ok p q part outer is todo able_is (all ns) (on_path ns (seen_by (asks.event_deed x ns) e))
        (subst (λ k. k ≤ MOST_EVENTS) (sym (as_many ns)) few.1)
    waits_keep (Some n) =
        value_goes sc (heads_act sc) w ok p q part outer is todo able_is (asks.event_deed x ns) e actions.WaitAny (number (pos n)) tt

    several_keep : (woken : ℕ) → KeepsHere (wakes_or_waits sc w p q part outer woken (all ns))
    several_keep zero = waits_keep (first_happened w (all ns))
    several_keep (suc n) =
        woken_goes sc (heads_act sc) w ok p q part outer is todo able_is (number (pos (suc n))) (suits_by (asks.event_deed x ns) e (value (number (pos (suc n)))) tt)

    deed_keeps : KeepsHere (does_with sc w p q part outer x ns)
    deed_keeps =
        one_of (deeds.is_of_several x) (wakes_or_waits sc w p q part outer q.woken (all ns)) (does_with_first sc w p q part outer x ns) (several_keep q.woken) (first_keeps x ns e)

  choice_keeps : (x : Ask) → ask part.rest ≡ x → CallFits sc x → KeepsHere (choice_of sc w p q part outer x)
  choice_keeps asks.nothing e fits = ok
  choice_keeps (asks.reads n) e fits =
      read_keeps sc (heads_act sc) w ok p q part outer is todo able_is n e (cell_at w (here sc w p q part outer n)) (cell_by n (seen_by (asks.reads n) e))
  choice_keeps (asks.reads_element n ks v) e fits =
      element_keeps sc (heads_act sc) w ok p q part outer is todo able_is n ks v e (array_in (cell_at w (followed w (here sc w p q part outer n))))
      (subscript_place ((use_of sc n).sort) (array_in (cell_at w (followed w (here sc w p q part outer n)))) ks (whole_of v))
  choice_keeps (asks.indexes n ks v) e fits =
      indexed_keeps sc (heads_act sc) w ok p q part outer is todo able_is n ks v e (followed w (here sc w p q part outer n))
      (at_followed sc (heads_act sc) w ok p q part outer is todo able_is n (seen_by (asks.indexes n ks v) e))
      (subscript_place ((use_of sc n).sort) (array_in (cell_at w (followed w (here sc w p q part outer n)))) ks (whole_of v))
  choice_keeps (asks.fails f) e fits = fails_or (fault_of f)
  choice_keeps (asks.enters n gs) e fits = procedure_enters sc texts w ok p q part outer is todo able_is n gs e fits.0 fits.1
  choice_keeps (asks.passes n) e fits =
      let c = cell_at w (here sc w p q part outer n) in
      same_goes sc (heads_act sc) w ok p q part outer is todo able_is (cell c) tt (cell_by n (seen_by (asks.passes n) e), tt) (suits_by (asks.passes n) e (cell c) tt)
  choice_keeps (asks.resolves n) e fits =
      let s = seen_by (asks.resolves n) e in
      resolved_keeps sc (heads_act sc) w ok p q part outer is todo able_is n e s (cell_at w (here sc w p q part outer n)) (cell_by n s)
  choice_keeps (asks.reads_result name) e fits =
      value_goes sc (heads_act sc) w ok p q part outer is todo able_is (asks.reads_result name) e actions.Read (value_in (cell_at w (record { instance = part.instance; name = name }))) tt
  choice_keeps (asks.leaves a) e fits = left_keeps sc w ok p q part outer is todo able_is a e
  choice_keeps (asks.stores x v) e fits = stored_keeps sc (heads_act sc) w ok p q part outer is todo able_is x v e
  choice_keeps (asks.selects v ss) e fits =
      one_of (nth_exists (whole_of v) ss) (goes sc w p q part outer actions.Select w done) (fails sc w p q part outer fault.CaseIndex)
      (done_goes sc (heads_act sc) w ok p q part outer is todo able_is (asks.selects v ss) e actions.Select tt) (fails_or fault.CaseIndex)
  choice_keeps asks.turns e fits = done_goes sc (heads_act sc) w ok p q part outer is todo able_is asks.turns e actions.Turn tt
  choice_keeps (asks.goes_to n) e fits = jump_keeps sc texts w ok p q part outer is todo able_is n (home sc w p q part outer n)
  choice_keeps (asks.enters_block b) e fits = block_enters sc texts w ok p q part outer is todo able_is b e
  choice_keeps (asks.starts n gs task) e fits =
      one_of (nat_lt MOST_STARTED (length w.processes)) (fails sc w p q part outer fault.ProcessLimit)
      (starts sc w p q part outer (block_of_sort ((use_of sc n).sort)) (home sc w p q part outer n) (given_cells sc w p q part outer gs) (task_of sc w p q part outer task))
      (fails_or fault.ProcessLimit) (process_starts sc texts w ok p q part outer is todo able_is n gs task e fits.0 fits.1)
  choice_keeps (asks.event_deed x ns) e fits = deed_keeps x ns e fits
  choice_keeps (asks.writes phrases vs) e fits =
      goes_ok sc (heads_act sc) w ok p q part outer is todo able_is q.woken (ok.processes p q is).few done tt tt (suits_by (asks.writes phrases vs) e done tt)
      (record w { output = w.output ++ line_of phrases vs ∷ [] }) (pairs_self InstanceAlike instance_self w.instances) refl (λ r d g. g)
  choice_keeps (asks.makes_arrays kind ns pairs vs) e fits =
      arrays_keep sc (heads_act sc) w ok p q part outer is todo able_is (asks.makes_arrays kind ns pairs vs) e tt kind ns (bounds_of pairs vs)
  choice_keeps (asks.makes_event n) e fits = event_keeps sc (heads_act sc) w ok p q part outer is todo able_is n e

-- ---- a choice of a process that may go

pub able_by : (s : State) → is_able s ≡ true → s ≡ able
able_by able e = refl
able_by (waits_for r) e = cc
able_by (procures r) e = cc
able_by (waits_any rs) e = cc
able_by ended e = cc

pub found : (o : Option Process) → is_able ((or_no_process o).state) ≡ true → o ≡ Some (or_no_process o)
found None e = cc
found (Some q) e = refl

pub may_go_able : (w : World) (p : ℕ) → may_go w p ≡ true → is_able ((process_at w p).state) ≡ true
unfolding may_go
may_go_able w p e = goes_able (end_of w) (is_able ((process_at w p).state)) e

pub action_keeps : (sc : Scopes) → KeepToTexts sc → (w : World) (p : ℕ) → IsSound sc IsWholeInstance w → may_go w p ≡ true → HeadFits sc ((process_at w p).todo) → IsSound sc IsWholeInstance ((choice sc w p).world)
unfolding choice
action_keeps sc texts w p ok goes fits =
    subst (λ ps. IsSound sc IsWholeInstance ((choice_in sc w p q ps).world)) (sym head.is)
    (choice_keeps sc texts w ok p q head.part head.outer is head.is able_is (ask head.part.rest) refl (subst (λ ps. HeadFits sc ps) head.is fits))
  where
    q : Process
    q = process_at w p

    is : numbered w.processes p ≡ Some q
    is = found (numbered w.processes p) (may_go_able w p goes)

    able_is : q.state ≡ able
    able_is = able_by q.state (may_go_able w p goes)

    head : HasHead q.todo
    head = (ok.processes p q is).heads (ap lives able_is)
