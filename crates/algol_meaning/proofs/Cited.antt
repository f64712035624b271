-- Facts that several crates cite.
use Rattle.std.proofs.Common.{Bool, List, None, Option, Some, [], ap, arith, false, if◌then◌else◌, refl, sym, true, ℕ, ◌++◌, ◌+◌, ◌∙◌, ◌∷◌, ◌≡◌}
use Rattle.algol_meaning.specs.Arrays.{size_of_cells}
use Rattle.algol_meaning.specs.Choice.{choice}
use Rattle.algol_meaning.specs.Events.{change_event, event_at, joined_all, reference_is_among}
use Rattle.algol_meaning.specs.Instances.{leave}
use Rattle.algol_meaning.specs.Rest.{Item, Rest}
use Rattle.algol_meaning.specs.Run.{End, after_entry, goes_on, may_go, run_from}
use Rattle.algol_meaning.specs.Statements.{items, settle_items, settle_stmt, settle_stmts}
use Rattle.algol_meaning.specs.Value.{Reference}
use Rattle.algol_meaning.specs.World.{NamedCell, World, instance_at, with_instance}
use Rattle.algol_tree.specs.Plain as tree
use Rattle.algol_tree.specs.Plain.{PStmts}
use Rattle.algol_tree.specs.Scopes.{Scopes}
use Rattle.b67_deeds.specs.Deeds.{deed, tests}
use Rattle.b67_deeds.specs.declared.EventTest.TheVariants as test

pub stays_none : (sc : Scopes) (v : World) (p : ℕ) → may_go v p ≡ false → after_entry sc v p ≡ None
unfolding after_entry
stays_none sc v p e = ap (λ (b : Bool). if b then Some ((choice sc v p).world) else None) e

pub no_world : {v : World} → None ≡ Some v → ⊥
no_world e = cc

pub run_none : (sc : Scopes) (h : List ℕ) → run_from sc h None ≡ None
run_none sc [] = refl
run_none sc (p ∷ h) = refl

pub leave_processes : (w : World) (is : List ℕ) → (leave w is).processes ≡ w.processes
leave_processes w [] = refl
leave_processes w (i ∷ is) = leave_processes (with_instance w i (record (instance_at w i) { left = true })) is

pub elements_behind : (cs ds : List NamedCell) → size_of_cells (cs ++ ds) ≡ size_of_cells cs + size_of_cells ds
elements_behind [] ds = omega arith
elements_behind (c ∷ cs) ds = let h = elements_behind cs ds in omega arith

pub goes_able : (o : Option End) (b : Bool) → goes_on o b ≡ true → b ≡ true
goes_able None b e = e
goes_able (Some x) b e = cc

-- the world after an entry that goes
pub entry_is : (sc : Scopes) (v after : World) (p : ℕ) → may_go v p ≡ true → after ≡ (choice sc v p).world → after_entry sc v p ≡ Some after
unfolding after_entry
entry_is sc v after p may same = ap (λ (b : Bool). if b then Some ((choice sc v p).world) else None) may ∙ ap (λ (u : World). Some u) (sym same)

pub settles_items :
    (sc : Scopes) (ss : PStmts) (k : List Item) → settle_stmts sc ss k (settle_items sc k) ≡ settle_items sc (items ss k)
settles_items sc tree.no_stmts k = refl
settles_items sc (tree.stmts s ss) k = ap (λ (r : Rest). settle_stmt sc s (items ss k) r) (settles_items sc ss k)

-- the world after an entry that may go
pub after_is : (sc : Scopes) (w : World) (p : ℕ) (h : List ℕ) (v : World) → run_from sc (p ∷ h) (Some w) ≡ Some v → run_from sc h (Some ((choice sc w p).world)) ≡ Some v
unfolding after_entry
after_is sc w p h v e = by (may_go w p) e
  where
    none : (h : List ℕ) → run_from sc h None ≡ None
    none [] = refl
    none (q ∷ h) = refl

    by : (b : Bool) → run_from sc h (if b then Some ((choice sc w p).world) else None) ≡ Some v → run_from sc h (Some ((choice sc w p).world)) ≡ Some v
    by true f = f
    by false f = let g : None ≡ Some v = sym (none h) ∙ f in cc

pub entry_after : (sc : Scopes) (w : World) (p : ℕ) → may_go w p ≡ true → after_entry sc w p ≡ Some ((choice sc w p).world)
unfolding after_entry
entry_after sc w p may = ap (λ (b : Bool). if b then Some ((choice sc w p).world) else None) may

pub joined_processes : (w : World) (p : ℕ) (seen rs : List Reference) → (joined_all w p seen rs).processes ≡ w.processes
joined_processes w p seen [] = refl
joined_processes w p seen (r ∷ rs) = by (reference_is_among seen r) (joined_processes w p (r ∷ seen) rs) (joined_processes next p (r ∷ seen) rs)
  where
    next : World
    next = change_event w r (deed (tests test.WaitAny) p (event_at w r)).change

    by : (b : Bool) → (joined_all w p (r ∷ seen) rs).processes ≡ w.processes → (joined_all next p (r ∷ seen) rs).processes ≡ w.processes →
        (if b then joined_all w p (r ∷ seen) rs else (joined_all next p (r ∷ seen) rs)).processes ≡ w.processes
    by true f g = f
    by false f g = g
