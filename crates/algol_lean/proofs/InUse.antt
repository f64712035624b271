-- In worlds that are as worlds are, no action uses a cell of an instance that is left.
use Rattle.std.proofs.Common.{◌≡◌, ◌⊎◌, refl, sym, ap, ◌∙◌, subst, ℕ, zero, suc, List, [], ◌∷◌, Option, Some, None, Bool, true, false}
use Rattle.std.proofs.Props.{props}
use Rattle.std.proofs.Math.Logic.{∥∥₁_elim}
use Rattle.std.specs.Prelude.{if◌then◌else◌}
use Rattle.std.specs.List.{AllByRecursion}
use Rattle.b67_list.specs.Numbered.{numbered}
use Rattle.b67_deeds.specs.Deeds as deeds
use Rattle.b67_deeds.specs.Deeds.{EventDeed}
use Rattle.algol_tree.specs.declared.tree.Named.{Named}
use Rattle.algol_tree.specs.Accepted.{Accepted}
use Rattle.algol_tree.specs.Plain.{PProgram}
use Rattle.algol_tree.specs.Scopes.{Scopes, scopes_of}
use Rattle.algol_front.proofs.Ordered.{IsSource, source_in_order}
use Rattle.algol_meaning.specs.Value.{Reference}
use Rattle.algol_meaning.specs.Rest.{Place, own, there, element_of}
use Rattle.algol_meaning.specs.World.{Instance, instance_at, followed, Part, Process, able, lives, process_at, World}
use Rattle.algol_meaning.specs.Asks as asks
use Rattle.algol_meaning.specs.Asks.{Ask, ask}
use Rattle.algol_meaning.specs.Choice.{home, here}
use Rattle.algol_meaning.specs.Run.{start, may_go, run_from, run}
use Rattle.algol_laws.specs.Kept.{if_any}
use Rattle.algol_laws.specs.Reading.{read_by_leaving, read_by_first, all_led_to, read_by_several, read_by_deed, read_by, read_in, read_cells}
use Rattle.algol_paths.specs.Blocks.{BlockIsSeen}
use Rattle.algol_standing.specs.Worlds.{held_in_place, newest_own, skeleton, IsStanding, IsOnPath, HasHead, IsWholeInstance, IsSound}
use Rattle.algol_standing.specs.Fitting.{IsOk}
use Rattle.algol_standing.proofs.Standing.{stands_path}
use Rattle.algol_standing.proofs.Holding.{AreAll}
use Rattle.algol_standing.proofs.Seen.{CellOk, there as there_stands, instance_is, part_stands, top_stands, home_path, held_ok}
use Rattle.algol_standing.proofs.Asking.{AskHolds, rest_asks}
use Rattle.algol_standing.proofs.Acting.{heads_act}
use Rattle.algol_standing.proofs.Quiet.{at_followed, sees}
use Rattle.algol_standing.proofs.Left.{task}
use Rattle.algol_standing.proofs.Choosing.{able_by, found, may_go_able}
use Rattle.algol_texts.proofs.Sources.{worlds_of_accepted_stand, worlds_of_sources_stand}
use Rattle.algol_lean.specs.Lean.{NoneLeft, led_by_place, given_by, given_in, UsesNoneLeft}
use Rattle.algol_lean.specs.Beside.{KeepsInUse}
use Rattle.algol_lean.specs.Laws.{SourcesKeepInUse, AcceptedKeepInUse}

module _ (sc : Scopes) (w : World) (ok : IsSound sc IsWholeInstance w) where
  stands_in_use : (i : ℕ) → IsStanding w i → (instance_at w i).left ≡ false
  stands_in_use i st =
      let x = there_stands sc IsWholeInstance w ok i st in
      ap (λ (y : Instance). y.left) (instance_is sc IsWholeInstance w ok i x.0 x.1) ∙ (ok.instances i x.0 x.1).left.1 st

  module _ (p : ℕ) (q : Process) (part : Part) (outer : List Part) (is : numbered w.processes p ≡ Some q) (todo : q.todo ≡ part ∷ outer) (able_is : q.state ≡ able) where
    abbrev top : ℕ
    top = newest_own (part ∷ outer)

    on_path : (i : ℕ) → IsOnPath w top i → (instance_at w i).left ≡ false
    on_path i path = stands_in_use i (stands_path (skeleton w) ok.skeleton_ok top i (top_stands sc IsWholeInstance w ok p q part outer is todo) path)

    abbrev IsSeenHere : Named → Type 0
    IsSeenHere n = BlockIsSeen sc ((instance_at w part.instance).block) n

    here_in_use : (n : Named) → IsSeenHere n → (instance_at w (home sc w p q part outer n)).left ≡ false
    here_in_use n s = on_path (home sc w p q part outer n) (home_path sc IsWholeInstance w ok p q part outer is todo n s)

    led_in_use : (n : Named) → IsSeenHere n → (instance_at w (followed w (here sc w p q part outer n)).instance).left ≡ false
    led_in_use n s = on_path (followed w (here sc w p q part outer n)).instance (at_followed sc (heads_act sc) w ok p q part outer is todo able_is n s)

    -- ---- what is read

    task_in_use : (o : Option Reference) → q.task ≡ o → NoneLeft w (if_any o)
    task_in_use None e = tt
    task_in_use (Some r) e = (stands_in_use r.instance (task sc IsWholeInstance w ok p q r is (ap lives able_is) e), tt)

    leaving_in_use : (parts : List Part) → NoneLeft w (read_by_leaving sc w p q part outer parts)
    leaving_in_use [] = task_in_use q.task refl
    leaving_in_use (next ∷ parts) = tt

    all_in_use : (ns : List Named) → AllByRecursion IsSeenHere ns → NoneLeft w (all_led_to sc w p q part outer ns)
    all_in_use [] s = tt
    all_in_use (n ∷ ns) s = (here_in_use n s.0, (led_in_use n s.0, all_in_use ns s.1))

    several_in_use : (woken : ℕ) (ns : List Named) → AllByRecursion IsSeenHere ns → NoneLeft w (read_by_several sc w p q part outer woken ns)
    several_in_use zero ns s = all_in_use ns s
    several_in_use (suc k) ns s = tt

    first_in_use : (ns : List Named) → AllByRecursion IsSeenHere ns → NoneLeft w (read_by_first sc w p q part outer ns)
    first_in_use [] s = tt
    first_in_use (n ∷ ns) s = (here_in_use n s.0, (led_in_use n s.0, tt))

    deed_in_use : (x : EventDeed) (ns : List Named) → AllByRecursion IsSeenHere ns → NoneLeft w (read_by_deed sc w p q part outer x ns)
    deed_in_use x ns s = by (deeds.is_of_several x)
      where
        by : (b : Bool) → NoneLeft w (if b then read_by_several sc w p q part outer q.woken ns else read_by_first sc w p q part outer ns)
        by true = several_in_use q.woken ns s
        by false = first_in_use ns s

    read_in_use : (x : Ask) → ask part.rest ≡ x → NoneLeft w (read_by sc w p q part outer x)
    read_in_use (asks.reads n) e =
        let s = sees sc (heads_act sc) w ok p q part outer is todo able_is (asks.reads n) e in (here_in_use n s, (led_in_use n s, tt))
    read_in_use (asks.reads_element n ks v) e =
        let s = sees sc (heads_act sc) w ok p q part outer is todo able_is (asks.reads_element n ks v) e in (here_in_use n s, (led_in_use n s, tt))
    read_in_use (asks.indexes n ks v) e =
        let s = sees sc (heads_act sc) w ok p q part outer is todo able_is (asks.indexes n ks v) e in (here_in_use n s, (led_in_use n s, tt))
    read_in_use (asks.passes n) e = (here_in_use n (sees sc (heads_act sc) w ok p q part outer is todo able_is (asks.passes n) e), tt)
    read_in_use (asks.resolves n) e = (here_in_use n (sees sc (heads_act sc) w ok p q part outer is todo able_is (asks.resolves n) e), tt)
    read_in_use (asks.reads_result name) e = (stands_in_use part.instance (part_stands sc IsWholeInstance w ok p q part outer is todo), tt)
    read_in_use (asks.leaves a) e = leaving_in_use outer
    read_in_use (asks.event_deed x ns) e = deed_in_use x ns (sees sc (heads_act sc) w ok p q part outer is todo able_is (asks.event_deed x ns) e)
    read_in_use _ e = tt

    -- ---- what is stored by a place

    place_in_use : (x : Place) → AreAll (CellOk sc IsWholeInstance w ok top) (held_in_place x) → NoneLeft w (led_by_place x)
    place_in_use (own n) h = tt
    place_in_use (there r) h = (on_path r.instance (h.0.0 r.instance (◌⊎◌.inl refl)), tt)
    place_in_use (element_of r ks) h = (on_path r.instance (h.0.0 r.instance (◌⊎◌.inl refl)), tt)

    given_in_use : (x : Ask) → ask part.rest ≡ x → NoneLeft w (given_by x)
    given_in_use (asks.stores x v) e =
        place_in_use x
        (subst (λ (y : Ask). AskHolds (CellOk sc IsWholeInstance w ok top) y) e
        (rest_asks (CellOk sc IsWholeInstance w ok top) part.rest (held_ok sc IsWholeInstance w ok p q part outer is todo)))
    given_in_use _ e = tt

-- ---- by process

pub uses_none_left : (sc : Scopes) (w : World) (p : ℕ) → IsOk sc IsWholeInstance w → may_go w p ≡ true → UsesNoneLeft sc w p
unfolding read_cells
uses_none_left sc w p ok goes =
    record {
      reads = subst (λ (ps : List Part). NoneLeft w (read_in sc w p q ps)) (sym head.is)
          (read_in_use sc w ok.sound p q head.part head.outer is head.is able_is (ask head.part.rest) refl);
      stores = subst (λ (ps : List Part). NoneLeft w (given_in ps)) (sym head.is)
          (given_in_use sc w ok.sound p q head.part head.outer is head.is able_is (ask head.part.rest) refl);
    }
  where
    q : Process
    q = process_at w p

    is : numbered w.processes p ≡ Some q
    is = found (numbered w.processes p) (may_go_able w p goes)

    able_is : q.state ≡ able
    able_is = able_by q.state (may_go_able w p goes)

    head : HasHead q.todo
    head = (ok.sound.processes p q is).heads (ap lives able_is)

-- ---- of sources

pub run_is : (tree : PProgram) (h : List ℕ) → run tree h ≡ run_from (scopes_of tree) h (Some (start (scopes_of tree)))
unfolding run
run_is tree h = refl

pub sources_keep_in_use : SourcesKeepInUse
sources_keep_in_use bytes tree s h after p e goes =
    uses_none_left (scopes_of tree) after p (worlds_of_sources_stand bytes tree h after s (run_is tree h ∙ e)).ok goes

pub accepted_keep_in_use : AcceptedKeepInUse
accepted_keep_in_use tree accepted order h after p e goes =
    uses_none_left (scopes_of tree) after p (worlds_of_accepted_stand tree h after accepted order (run_is tree h ∙ e)).ok goes

accepted_once : (tree : PProgram) → IsProp (Accepted tree)
accepted_once tree = Prim.hlevel props

pub source_keeps_in_use : (tree : PProgram) → IsSource tree → KeepsInUse (scopes_of tree) (start (scopes_of tree))
source_keeps_in_use tree is = accepted_keep_in_use tree (∥∥₁_elim is (accepted_once tree) (λ s. s.1.accepted)) (source_in_order tree is)
