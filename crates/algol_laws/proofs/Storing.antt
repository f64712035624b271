-- An action whose letter names no store leaves every cell that is there as it is.
use Rattle.std.proofs.Common.{◌≡◌, refl, sym, ap, subst, ◌∙◌, ℕ, zero, suc, List, [], ◌∷◌, Option, Some, None, Bool, true, false}
use Rattle.std.specs.Prelude.{if◌then◌else◌}
use Rattle.b67_list.specs.Numbered.{numbered}
use Rattle.algol_tree.specs.declared.tree.Named.{Named}
use Rattle.b67_deeds.specs.declared.EventAct.{EventAct}
use Rattle.b67_deeds.specs.declared.EventAct.TheVariants as act
use Rattle.b67_deeds.specs.declared.EventTest.TheVariants as test
use Rattle.algol_tree.specs.Scopes.{Scopes}
use Rattle.b67_num.specs.declared.FaultKind.TheVariants as fault
use Rattle.algol_meaning.specs.Value.{Value, Reference}
use Rattle.b67_deeds.specs.Deeds as deeds
use Rattle.b67_deeds.specs.Deeds.{EventDeed, Deed, Next, deed, letter_of}
use Rattle.algol_meaning.specs.Rest.{Place, own, there, element_of, Answer}
use Rattle.algol_meaning.specs.World.{followed, Part, Process, World, or_no_process}
use Rattle.algol_meaning.specs.Critical.{some_depends, is_evaluation}
use Rattle.algol_meaning.specs.Events.{event_at, first_happened}
use Rattle.algol_meaning.specs.Asks as asks
use Rattle.algol_meaning.specs.Asks.{Ask, ask}
use Rattle.algol_meaning.specs.Choice.{Choice, choice, choice_in, choice_of, here, stored, fails, left_choice, left_with, left_or_ended, did, does_with_first, all_followed, waits_for_any, wakes_or_waits, does_with}
use Rattle.algol_laws.specs.Kept.{WorldKept, stays_woken, stored_by_release, woken_at_end, woken_by_first, woken_by_deed, woken_by_ask, woken_in, freed_by, stores, OnlyStoresStore}
use Rattle.algol_laws.proofs.Keeping.{unchanged, nobody_kept}
use Rattle.algol_laws.proofs.Choices as kept
use Rattle.algol_laws.proofs.Choices.{KeepsTelling}

module _ (sc : Scopes) (w : World) (p : ℕ) (q : Process) (part : Part) (outer : List Part) (is : numbered w.processes p ≡ Some q) where
  -- unless its letter names a store, the choice keeps all cells
  abbrev Quiet : (ℕ → Process → ℕ) → Choice → Type 0
  Quiet woken c = stores c.action ≡ false → KeepsTelling sc w p q part outer is woken [] c

  stored_quiet : (x : Place) (v : Value) → Quiet stays_woken (stored sc w p q part outer x v)
  stored_quiet (own n) v e = cc
  stored_quiet (there r) v e = cc
  stored_quiet (element_of r ks) v e = cc

  left_or_ended_quiet : (a : Answer) (parts : List Part) → Quiet (woken_at_end sc w p q part outer parts) (left_or_ended sc w p q part outer a parts)
  left_or_ended_quiet a [] e = cc
  left_or_ended_quiet a (next ∷ parts) e = kept.left_or_ended_keeps sc w p q part outer is a (next ∷ parts)

  left_quiet : (a : Answer) → Quiet (woken_at_end sc w p q part outer outer) (left_choice sc w p q part outer a)
  left_quiet a = by (is_evaluation part.purpose) (some_depends w.processes part.instance)
    where
      by : (b c : Bool) →
          Quiet (woken_at_end sc w p q part outer outer)
          (if b then left_with sc w p q part outer w a outer
          else if c then fails sc w p q part outer fault.CriticalBlockExit
          else left_or_ended sc w p q part outer a outer)
      by true c e = kept.left_with_tells sc w p q part outer is (woken_at_end sc w p q part outer outer) [] w a outer (unchanged p [] w)
      by false true e =
          nobody_kept p (woken_at_end sc w p q part outer outer) [] w (fails sc w p q part outer fault.CriticalBlockExit).world
          (kept.fails_keeps sc w p q part outer is [] fault.CriticalBlockExit)
      by false false e = left_or_ended_quiet a outer e

  did_action : (x : EventDeed) (r : Reference) (d : Deed) (n : Next) → (did sc w p q part outer x r d n).action ≡ letter_of x
  did_action x r d deeds.goes = refl
  did_action x r d deeds.waits = refl
  did_action x r d deeds.procures = refl

  act_stores : (a : EventAct) → stores (letter_of (deeds.acts a)) ≡ true
  act_stores act.Cause = refl
  act_stores act.CauseAndReset = refl
  act_stores act.Reset = refl
  act_stores act.Wait = refl
  act_stores act.Procure = refl
  act_stores act.Liberate = refl

  -- a deed whose letter names no store changes no event
  changes_nothing : (x : EventDeed) (r : Reference) → stores (letter_of x) ≡ false → stored_by_release w r (deed x p (event_at w r)) ≡ []
  changes_nothing (deeds.acts a) r e = let f : stores (letter_of (deeds.acts a)) ≡ true = act_stores a in cc
  changes_nothing (deeds.tests test.Happened) r e = refl
  changes_nothing (deeds.tests test.Available) r e = refl
  changes_nothing (deeds.tests test.Fix) r e = cc
  changes_nothing (deeds.tests test.WaitAny) r e = cc

  first_quiet : (x : EventDeed) (ns : List Named) → Quiet (woken_by_first sc w p q part outer x ns) (does_with_first sc w p q part outer x ns)
  first_quiet x [] e = unchanged p [] w
  first_quiet x (n ∷ ns) e =
      subst (λ s. KeepsTelling sc w p q part outer is (woken_by_first sc w p q part outer x (n ∷ ns)) s (does_with_first sc w p q part outer x (n ∷ ns)))
      (changes_nothing x r (sym (ap stores (did_action x r (deed x p (event_at w r)) ((deed x p (event_at w r)).next))) ∙ e))
      (kept.does_first_keeps sc w p q part outer is x (n ∷ ns))
    where
      r : Reference
      r = followed w (here sc w p q part outer n)

  -- who goes on by its woken number stores nothing
  waits_for_any_quiet : (rs : List Reference) (o : Option ℕ) → Quiet stays_woken (waits_for_any sc w p q part outer rs o)
  waits_for_any_quiet rs None e = cc
  waits_for_any_quiet rs (Some n) e = cc

  several_quiet : (woken : ℕ) (rs : List Reference) → Quiet stays_woken (wakes_or_waits sc w p q part outer woken rs)
  several_quiet zero rs e = waits_for_any_quiet rs (first_happened w rs) e
  several_quiet (suc n) rs e = kept.wakes_keeps sc w p q part outer is [] (suc n)

  does_quiet : (x : EventDeed) (ns : List Named) → Quiet (woken_by_deed sc w p q part outer x ns) (does_with sc w p q part outer x ns)
  does_quiet x ns = by (deeds.is_of_several x)
    where
      by : (b : Bool) →
          Quiet (if b then stays_woken else woken_by_first sc w p q part outer x ns)
          (if b then wakes_or_waits sc w p q part outer q.woken (all_followed sc w p q part outer ns) else (does_with_first sc w p q part outer x ns))
      by true e = several_quiet q.woken (all_followed sc w p q part outer ns) e
      by false e = first_quiet x ns e

  -- the heads that store nothing keep all cells already
  choice_quiet : (a : Ask) → Quiet (woken_by_ask sc w p q part outer a) (choice_of sc w p q part outer a)
  choice_quiet (asks.leaves a) e = left_quiet a e
  choice_quiet (asks.stores x v) e = stored_quiet x v e
  choice_quiet (asks.event_deed x ns) e = does_quiet x ns e
  choice_quiet asks.nothing e = kept.choice_keeps sc w p q part outer is asks.nothing
  choice_quiet (asks.reads n) e = kept.choice_keeps sc w p q part outer is (asks.reads n)
  choice_quiet (asks.reads_element n ks v) e = kept.choice_keeps sc w p q part outer is (asks.reads_element n ks v)
  choice_quiet (asks.indexes n ks v) e = kept.choice_keeps sc w p q part outer is (asks.indexes n ks v)
  choice_quiet (asks.fails f) e = kept.choice_keeps sc w p q part outer is (asks.fails f)
  choice_quiet (asks.enters n gs) e = kept.choice_keeps sc w p q part outer is (asks.enters n gs)
  choice_quiet (asks.passes n) e = kept.choice_keeps sc w p q part outer is (asks.passes n)
  choice_quiet (asks.resolves n) e = kept.choice_keeps sc w p q part outer is (asks.resolves n)
  choice_quiet (asks.reads_result name) e = kept.choice_keeps sc w p q part outer is (asks.reads_result name)
  choice_quiet (asks.selects v ss) e = kept.choice_keeps sc w p q part outer is (asks.selects v ss)
  choice_quiet asks.turns e = kept.choice_keeps sc w p q part outer is asks.turns
  choice_quiet (asks.goes_to n) e = kept.choice_keeps sc w p q part outer is (asks.goes_to n)
  choice_quiet (asks.enters_block b) e = kept.choice_keeps sc w p q part outer is (asks.enters_block b)
  choice_quiet (asks.starts n gs task) e = kept.choice_keeps sc w p q part outer is (asks.starts n gs task)
  choice_quiet (asks.writes phrases vs) e = kept.choice_keeps sc w p q part outer is (asks.writes phrases vs)
  choice_quiet (asks.makes_arrays kind ns pairs vs) e = kept.choice_keeps sc w p q part outer is (asks.makes_arrays kind ns pairs vs)
  choice_quiet (asks.makes_event n) e = kept.choice_keeps sc w p q part outer is (asks.makes_event n)

in_quiet : (sc : Scopes) (w : World) (p : ℕ) (q : Process) (parts : List Part) → numbered w.processes p ≡ Some q → stores (choice_in sc w p q parts).action ≡ false →
    WorldKept p (record { processes = (choice_in sc w p q parts).released; woken = woken_in sc w p q parts }) [] w (choice_in sc w p q parts).world
in_quiet sc w p q [] is e = unchanged p [] w
in_quiet sc w p q (part ∷ outer) is e = choice_quiet sc w p q part outer is (ask part.rest) e

by_process : (sc : Scopes) (w : World) (p : ℕ) (o : Option Process) → numbered w.processes p ≡ o → stores (choice_in sc w p (or_no_process o) (or_no_process o).todo).action ≡ false →
    WorldKept p
    (record {
      processes = (choice_in sc w p (or_no_process o) (or_no_process o).todo).released;
      woken = woken_in sc w p (or_no_process o) (or_no_process o).todo;
    })
    [] w (choice_in sc w p (or_no_process o) (or_no_process o).todo).world
by_process sc w p None e f = unchanged p [] w
by_process sc w p (Some q) e f = in_quiet sc w p q q.todo e f

pub only_stores : OnlyStoresStore
unfolding choice freed_by
only_stores sc w p e = by_process sc w p (numbered w.processes p) refl e
