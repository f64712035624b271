-- Worlds that differ in the states and the woken numbers of their processes, and in what their events are: what stands in the one stands in the
-- other, and the same paths lead from it.
use Rattle.std.proofs.Common.{◌≡◌, refl, sym, ap, ◌∙◌, subst, inl, inr, ℕ, zero, suc, ◌+◌, ◌≤◌, List, [], ◌∷◌, ◌++◌, Option, Some, None, Bool, true, false}
use Rattle.b67_list.proofs.Numbers.{none_some}
use Rattle.b67_pictures.proofs.Prelude.{slice_get, slice_set, map, if◌then◌else◌, numbered, set_numbered, EventState, IsListed, block_numbered, level_of, Scopes, same_name, referred_in, own_instances, set_event, Reference, Cell, simple, event, array, named, NamedCell, Instance, Part, Process, State, able, lives, World, instance_at, or_no_instance, ancestor, cell_in, cell_at, cells_with, set_able, set_all_able, CellLow, CellsLow, InstanceLow, WorldLow, IsLow, Stack, Home, IsInSkeleton, referred_in_cells, IsAmongParts, IsStanding, IsOnPath, stack_of, skeleton, OUTER_LEVEL, some_same, HasFacts, IsStandingOrNone, LivesIn, CanClimb, process_is, EventsStay}
use Rattle.algol_meaning.specs.Value.{reference}
use Rattle.algol_standing.specs.Skeleton.{Skeleton, SkeletonStands, OnPath}
use Rattle.algol_standing.specs.Worlds.{parent_in, held_by, home_of}
use Rattle.algol_standing.specs.Lows.{LeadsLow, PartLow}
use Rattle.b67_scenes.proofs.Freeing.{lives_then}
use Rattle.b67_pictures.proofs.Alone.{IsAfter}

-- ---- processes

-- the processes are the same but for their states and woken numbers, and the same of them live
abbrev pub AreSameButStates : List Process → List Process → Type 0
AreSameButStates [] [] = Unit {0}
AreSameButStates (q ∷ qs) (r ∷ rs) = ((q.todo ≡ r.todo) × (q.critical ≡ r.critical) × (q.task ≡ r.task) × (lives q.state ≡ lives r.state)) × AreSameButStates qs rs
AreSameButStates _ _ = ⊥

pub states_self : (qs : List Process) → AreSameButStates qs qs
states_self [] = tt
states_self (q ∷ qs) = ((refl, refl, refl, refl), states_self qs)

pub states_on : (qs rs ss : List Process) → AreSameButStates qs rs → AreSameButStates rs ss → AreSameButStates qs ss
states_on [] [] [] first second = tt
states_on [] [] (s ∷ ss) first second = absurd second
states_on [] (r ∷ rs) ss first second = absurd first
states_on (q ∷ qs) [] ss first second = absurd first
states_on (q ∷ qs) (r ∷ rs) [] first second = absurd second
states_on (q ∷ qs) (r ∷ rs) (s ∷ ss) first second = (
  ((first.0).0 ∙ (second.0).0, (first.0).1 ∙ (second.0).1, (first.0).2 ∙ (second.0).2, (first.0).3 ∙ (second.0).3),
  states_on qs rs ss first.1 second.1,
)

state_set : (qs : List Process) (k : ℕ) (q : Process) (state : State) (woken : ℕ) → slice_get qs k ≡ Some q → lives state ≡ lives q.state → AreSameButStates (slice_set qs k (record q { state = state; woken = woken })) qs
state_set [] k q state woken at same = tt
state_set (r ∷ qs) zero q state woken at same =
    let is : r ≡ q = cc in
    (subst (λ (o : Process). (q.todo ≡ o.todo) × (q.critical ≡ o.critical) × (q.task ≡ o.task) × (lives state ≡ lives o.state)) (sym is) (refl, refl, refl, same), states_self qs)
state_set (r ∷ qs) (suc k) q state woken at same = ((refl, refl, refl, refl), state_set qs k q state woken at same)

-- where one has another state, in which it lives as it did
pub states_set : (qs : List Process) (p : ℕ) (q : Process) (state : State) (woken : ℕ) → numbered qs p ≡ Some q → lives state ≡ lives q.state → AreSameButStates (set_numbered qs p (record q { state = state; woken = woken })) qs
states_set qs zero q state woken at same = none_some at
states_set qs (suc k) q state woken at same = state_set qs k q state woken at same

-- ---- cells

-- an event may be another one, and all else is the same
abbrev pub CellMoves : Cell → Cell → Type 0
CellMoves (event e) (event f) = Unit {0}
CellMoves c d = c ≡ d

cell_self : (c : Cell) → CellMoves c c
cell_self (simple v) = refl
cell_self (event e) = tt
cell_self (array a) = refl
cell_self (named n) = refl
cell_self (reference r) = refl

cell_on : (c d e : Cell) → CellMoves c d → CellMoves d e → CellMoves c e
cell_on (simple v) d e first second = subst (λ (z : Cell). CellMoves z e) (sym first) second
cell_on (array a) d e first second = subst (λ (z : Cell). CellMoves z e) (sym first) second
cell_on (named n) d e first second = subst (λ (z : Cell). CellMoves z e) (sym first) second
cell_on (reference r) d e first second = subst (λ (z : Cell). CellMoves z e) (sym first) second
cell_on (event f) (event g) (event h) first second = tt
cell_on (event f) (event g) (simple v) first second = cc
cell_on (event f) (event g) (array a) first second = cc
cell_on (event f) (event g) (named n) first second = cc
cell_on (event f) (event g) (reference r) first second = cc
cell_on (event f) (simple v) e first second = cc
cell_on (event f) (array a) e first second = cc
cell_on (event f) (named n) e first second = cc
cell_on (event f) (reference r) e first second = cc

-- what does not look at events is the same of both
cell_same : {A : Type 0} (g : Cell → A) → ((e f : EventState) → g (event e) ≡ g (event f)) → (c d : Cell) → CellMoves c d → g d ≡ g c
cell_same g same (event e) (event f) moves = same f e
cell_same g same (event e) (simple v) moves = cc
cell_same g same (event e) (array a) moves = cc
cell_same g same (event e) (named n) moves = cc
cell_same g same (event e) (reference r) moves = cc
cell_same g same (simple v) d moves = ap g (sym moves)
cell_same g same (array a) d moves = ap g (sym moves)
cell_same g same (named n) d moves = ap g (sym moves)
cell_same g same (reference r) d moves = ap g (sym moves)

cell_event : (c d : Cell) (e : EventState) → CellMoves c d → c ≡ event e → (f : EventState) × (d ≡ event f)
cell_event (event e) (event f) g moves is = (f, refl)
cell_event (event e) (simple v) g moves is = cc
cell_event (event e) (array a) g moves is = cc
cell_event (event e) (named n) g moves is = cc
cell_event (event e) (reference r) g moves is = cc
cell_event (simple v) d g moves is = cc
cell_event (array a) d g moves is = cc
cell_event (named n) d g moves is = cc
cell_event (reference r) d g moves is = cc

abbrev pub CellsMove : List NamedCell → List NamedCell → Type 0
CellsMove [] [] = Unit {0}
CellsMove (c ∷ cs) (d ∷ ds) = (d.name ≡ c.name) × CellMoves c.cell d.cell × CellsMove cs ds
CellsMove _ _ = ⊥

cells_self : (cs : List NamedCell) → CellsMove cs cs
cells_self [] = tt
cells_self (c ∷ cs) = (refl, cell_self c.cell, cells_self cs)

cells_on : (cs ds es : List NamedCell) → CellsMove cs ds → CellsMove ds es → CellsMove cs es
cells_on [] [] [] first second = tt
cells_on [] [] (e ∷ es) first second = absurd second
cells_on [] (d ∷ ds) es first second = absurd first
cells_on (c ∷ cs) [] es first second = absurd first
cells_on (c ∷ cs) (d ∷ ds) [] first second = absurd second
cells_on (c ∷ cs) (d ∷ ds) (e ∷ es) first second = (second.0 ∙ first.0, cell_on c.cell d.cell e.cell first.1 second.1, cells_on cs ds es first.2 second.2)

cells_refer : (cs ds : List NamedCell) → CellsMove cs ds → referred_in_cells ds ≡ referred_in_cells cs
cells_refer [] [] moves = refl
cells_refer [] (d ∷ ds) moves = absurd moves
cells_refer (c ∷ cs) [] moves = absurd moves
cells_refer (c ∷ cs) (d ∷ ds) moves =
    ap (λ (ns : List ℕ). ns ++ referred_in_cells ds) (cell_same referred_in (λ e f. refl) c.cell d.cell moves.1) ∙ ap (λ (ns : List ℕ). referred_in c.cell ++ ns) (cells_refer cs ds moves.2)

cell_low : (sc : Scopes) (b i : ℕ) (c d : Cell) → CellMoves c d → CellLow sc b i c → CellLow sc b i d
cell_low sc b i (event e) (event f) moves low = tt
cell_low sc b i (event e) (simple v) moves low = cc
cell_low sc b i (event e) (array a) moves low = cc
cell_low sc b i (event e) (named n) moves low = cc
cell_low sc b i (event e) (reference r) moves low = cc
cell_low sc b i (simple v) d moves low = subst (λ (z : Cell). CellLow sc b i z) moves low
cell_low sc b i (array a) d moves low = subst (λ (z : Cell). CellLow sc b i z) moves low
cell_low sc b i (named n) d moves low = subst (λ (z : Cell). CellLow sc b i z) moves low
cell_low sc b i (reference r) d moves low = subst (λ (z : Cell). CellLow sc b i z) moves low

cells_low : (sc : Scopes) (b i : ℕ) (cs ds : List NamedCell) → CellsMove cs ds → CellsLow sc b i cs → CellsLow sc b i ds
cells_low sc b i [] [] moves low = tt
cells_low sc b i [] (d ∷ ds) moves low = absurd moves
cells_low sc b i (c ∷ cs) [] moves low = absurd moves
cells_low sc b i (c ∷ cs) (d ∷ ds) moves low = (cell_low sc b i c.cell d.cell moves.1 low.0, cells_low sc b i cs ds moves.2 low.1)

-- an event is one
cells_event : (cs ds : List NamedCell) (name : List ℕ) (e : EventState) → CellsMove cs ds → cell_in cs name ≡ event e → (f : EventState) × (cell_in ds name ≡ event f)
cells_event [] ds name e moves is = cc
cells_event (c ∷ cs) [] name e moves is = absurd moves
cells_event (c ∷ cs) (d ∷ ds) name e moves is =
    subst (λ (n : List ℕ). (f : EventState) × ((if same_name n name then d.cell else cell_in ds name) ≡ event f)) (sym moves.0) (by_test (same_name c.name name) is (cells_event cs ds name e moves.2))
  where
    by_test : (b : Bool) → (if b then c.cell else cell_in cs name) ≡ event e → (cell_in cs name ≡ event e → (f : EventState) × (cell_in ds name ≡ event f)) → (f : EventState) × ((if b then d.cell else cell_in ds name) ≡ event f)
    by_test true here rest = cell_event c.cell d.cell e moves.1 here
    by_test false there rest = rest there

cells_changed : (cs : List NamedCell) (name : List ℕ) (e f : EventState) → cell_in cs name ≡ event e → CellsMove cs (cells_with cs name (event f))
cells_changed [] name e f is = cc
cells_changed (c ∷ cs) name e f is = by_test (same_name c.name name) is (cells_changed cs name e f)
  where
    by_test : (b : Bool) → (if b then c.cell else cell_in cs name) ≡ event e → (cell_in cs name ≡ event e → CellsMove cs (cells_with cs name (event f))) →
        CellsMove (c ∷ cs) (if b then record c { cell = event f } ∷ cs else c ∷ cells_with cs name (event f))
    by_test true here rest = (refl, subst (λ (z : Cell). CellMoves z (event f)) (sym here) tt, cells_self cs)
    by_test false there rest = (refl, cell_self c.cell, rest there)

-- ---- instances

pub record InstanceMoves (x y : Instance) : Type 0 where
  pub block : y.block ≡ x.block
  pub parent : y.parent ≡ x.parent
  pub process : y.process ≡ x.process
  pub left : y.left ≡ x.left
  pub cells : CellsMove x.cells y.cells

instance_self : (x : Instance) → InstanceMoves x x
instance_self x = record { block = refl; parent = refl; process = refl; left = refl; cells = cells_self x.cells }

abbrev pub AreMoved : List Instance → List Instance → Type 0
AreMoved [] [] = Unit {0}
AreMoved (x ∷ xs) (y ∷ ys) = InstanceMoves x y × AreMoved xs ys
AreMoved _ _ = ⊥

pub moved_self : (xs : List Instance) → AreMoved xs xs
moved_self [] = tt
moved_self (x ∷ xs) = (instance_self x, moved_self xs)

pub moved_on : (xs ys zs : List Instance) → AreMoved xs ys → AreMoved ys zs → AreMoved xs zs
moved_on [] [] [] first second = tt
moved_on [] [] (z ∷ zs) first second = absurd second
moved_on [] (y ∷ ys) zs first second = absurd first
moved_on (x ∷ xs) [] zs first second = absurd first
moved_on (x ∷ xs) (y ∷ ys) [] first second = absurd second
moved_on (x ∷ xs) (y ∷ ys) (z ∷ zs) first second = (
  record {
    block = (second.0).block ∙ (first.0).block;
    parent = (second.0).parent ∙ (first.0).parent;
    process = (second.0).process ∙ (first.0).process;
    left = (second.0).left ∙ (first.0).left;
    cells = cells_on x.cells y.cells z.cells (first.0).cells (second.0).cells;
  },
  moved_on xs ys zs first.1 second.1,
)

moved_set : (xs : List Instance) (k : ℕ) (x y : Instance) → slice_get xs k ≡ Some x → InstanceMoves x y → AreMoved xs (slice_set xs k y)
moved_set [] k x y is moves = tt
moved_set (z ∷ xs) zero x y is moves = (subst (λ (v : Instance). InstanceMoves v y) (sym (some_same is)) moves, moved_self xs)
moved_set (z ∷ xs) (suc k) x y is moves = (instance_self z, moved_set xs k x y is moves)

-- one event becomes another one
pub event_moves : (w : World) (r : Reference) (e f : EventState) → cell_at w r ≡ event e → AreMoved w.instances (set_event w r f).instances
event_moves w r e f is = by_number r.instance is
  where
    by_instance : (k : ℕ) (o : Option Instance) → slice_get w.instances k ≡ o → cell_in ((or_no_instance o).cells) r.name ≡ event e →
        AreMoved w.instances (slice_set w.instances k (record (or_no_instance o) { cells = cells_with ((or_no_instance o).cells) r.name (event f) }))
    by_instance k None there means = cc
    by_instance k (Some x) there means =
        moved_set w.instances k x (record x { cells = cells_with x.cells r.name (event f) }) there
        (record { block = refl; parent = refl; process = refl; left = refl; cells = cells_changed x.cells r.name e f means })

    by_number : (n : ℕ) → cell_in ((instance_at w n).cells) r.name ≡ event e →
        AreMoved w.instances (set_numbered w.instances n (record (instance_at w n) { cells = cells_with ((instance_at w n).cells) r.name (event f) }))
    by_number zero means = moved_self w.instances
    by_number (suc k) means = by_instance k (slice_get w.instances k) refl means

get_moved : (xs ys : List Instance) (k : ℕ) (x : Instance) → AreMoved xs ys → slice_get xs k ≡ Some x → (y : Instance) × (slice_get ys k ≡ Some y) × InstanceMoves x y
get_moved [] ys k x moved is = cc
get_moved (z ∷ xs) [] k x moved is = absurd moved
get_moved (z ∷ xs) (y ∷ ys) zero x moved is = (y, refl, subst (λ (v : Instance). InstanceMoves v y) (some_same is) moved.0)
get_moved (z ∷ xs) (y ∷ ys) (suc k) x moved is = get_moved xs ys k x moved.1 is

get_before : (xs ys : List Instance) (k : ℕ) (y : Instance) → AreMoved xs ys → slice_get ys k ≡ Some y → (x : Instance) × (slice_get xs k ≡ Some x) × InstanceMoves x y
get_before [] [] k y moved is = cc
get_before [] (z ∷ ys) k y moved is = absurd moved
get_before (x ∷ xs) [] k y moved is = absurd moved
get_before (x ∷ xs) (z ∷ ys) zero y moved is = (x, refl, subst (λ (v : Instance). InstanceMoves x v) (some_same is) moved.0)
get_before (x ∷ xs) (z ∷ ys) (suc k) y moved is = get_before xs ys k y moved.1 is

get_either : (xs ys : List Instance) (k : ℕ) → AreMoved xs ys → InstanceMoves (or_no_instance (slice_get xs k)) (or_no_instance (slice_get ys k))
get_either [] [] k moved = instance_self (or_no_instance (slice_get [] k))
get_either [] (y ∷ ys) k moved = absurd moved
get_either (x ∷ xs) [] k moved = absurd moved
get_either (x ∷ xs) (y ∷ ys) zero moved = moved.0
get_either (x ∷ xs) (y ∷ ys) (suc k) moved = get_either xs ys k moved.1

homes_same : (xs ys : List Instance) → AreMoved xs ys → map home_of ys ≡ map home_of xs
homes_same [] [] moved = refl
homes_same [] (y ∷ ys) moved = absurd moved
homes_same (x ∷ xs) [] moved = absurd moved
homes_same (x ∷ xs) (y ∷ ys) moved = ap (λ (h : Home). h ∷ map home_of ys) one ∙ ap (λ (hs : List Home). home_of x ∷ hs) (homes_same xs ys moved.1)
  where
    one : home_of y ≡ home_of x
    one =
        ap (λ (n : ℕ). record { refs = parent_in n ++ referred_in_cells y.cells; process = y.process }) (moved.0).parent
        ∙ ap (λ (ns : List ℕ). record { refs = parent_in x.parent ++ ns; process = y.process }) (cells_refer x.cells y.cells (moved.0).cells)
        ∙ ap (λ (n : ℕ). record { refs = parent_in x.parent ++ referred_in_cells x.cells; process = n }) (moved.0).process

-- ---- worlds

pub record IsSameShape (w w' : World) : Type 0 where
  pub instances : AreMoved w.instances w'.instances
  pub processes : AreSameButStates w.processes w'.processes

pub shape_self : (w : World) → IsSameShape w w
shape_self w = record { instances = moved_self w.instances; processes = states_self w.processes }

pub shape_on : (u v w : World) → IsSameShape u v → IsSameShape v w → IsSameShape u w
shape_on u v w first second =
    record { instances = moved_on u.instances v.instances w.instances first.instances second.instances; processes = states_on u.processes v.processes w.processes first.processes second.processes }

-- the other way as well
moves_back : (cs ds : List NamedCell) → CellsMove cs ds → CellsMove ds cs
moves_back [] [] moves = tt
moves_back [] (d ∷ ds) moves = absurd moves
moves_back (c ∷ cs) [] moves = absurd moves
moves_back (c ∷ cs) (d ∷ ds) moves = (sym moves.0, cell_back c.cell d.cell moves.1, moves_back cs ds moves.2)
  where
    cell_back : (c d : Cell) → CellMoves c d → CellMoves d c
    cell_back (event e) (event f) moves = tt
    cell_back (event e) (simple v) moves = cc
    cell_back (event e) (array a) moves = cc
    cell_back (event e) (named n) moves = cc
    cell_back (event e) (reference r) moves = cc
    cell_back (simple v) d moves = subst (λ (z : Cell). CellMoves z (simple v)) moves refl
    cell_back (array a) d moves = subst (λ (z : Cell). CellMoves z (array a)) moves refl
    cell_back (named n) d moves = subst (λ (z : Cell). CellMoves z (named n)) moves refl
    cell_back (reference r) d moves = subst (λ (z : Cell). CellMoves z (reference r)) moves refl

moved_back : (xs ys : List Instance) → AreMoved xs ys → AreMoved ys xs
moved_back [] [] moved = tt
moved_back [] (y ∷ ys) moved = absurd moved
moved_back (x ∷ xs) [] moved = absurd moved
moved_back (x ∷ xs) (y ∷ ys) moved = (
  record {
    block = sym (moved.0).block;
    parent = sym (moved.0).parent;
    process = sym (moved.0).process;
    left = sym (moved.0).left;
    cells = moves_back x.cells y.cells (moved.0).cells;
  },
  moved_back xs ys moved.1,
)

pub states_back : (qs rs : List Process) → AreSameButStates qs rs → AreSameButStates rs qs
states_back [] [] same = tt
states_back [] (r ∷ rs) same = absurd same
states_back (q ∷ qs) [] same = absurd same
states_back (q ∷ qs) (r ∷ rs) same = ((sym (same.0).0, sym (same.0).1, sym (same.0).2, sym (same.0).3), states_back qs rs same.1)

pub shape_back : (w v : World) → IsSameShape w v → IsSameShape v w
shape_back w v same = record { instances = moved_back w.instances v.instances same.instances; processes = states_back w.processes v.processes same.processes }

module _ (w w' : World) (same : IsSameShape w w') where
  stack_same : (q r : Process) → (q.todo ≡ r.todo) × (q.critical ≡ r.critical) × (q.task ≡ r.task) × (lives q.state ≡ lives r.state) → stack_of r ≡ stack_of q
  stack_same q r same_so =
      ap (λ parts. record { own = own_instances parts; evaluations = held_by parts; critical = r.critical; live = lives r.state }) (sym same_so.0)
      ∙ ap (λ c. record { own = own_instances q.todo; evaluations = held_by q.todo; critical = c; live = lives r.state }) (sym same_so.1)
      ∙ ap (λ b. record { own = own_instances q.todo; evaluations = held_by q.todo; critical = q.critical; live = b }) (sym same_so.3)

  stacks_same : (qs rs : List Process) → AreSameButStates qs rs → map stack_of rs ≡ map stack_of qs
  stacks_same [] [] are = refl
  stacks_same [] (r ∷ rs) are = absurd are
  stacks_same (q ∷ qs) [] are = absurd are
  stacks_same (q ∷ qs) (r ∷ rs) are = ap (λ x. x ∷ map stack_of rs) (stack_same q r are.0) ∙ ap (λ xs. stack_of q ∷ xs) (stacks_same qs rs are.1)

  skeleton_same : skeleton w' ≡ skeleton w
  skeleton_same =
      ap (λ (ss : List Stack). record (skeleton w') { stacks = record { own = []; evaluations = []; critical = None; live = false } ∷ ss }) (stacks_same w.processes w'.processes same.processes)
      ∙ ap (λ (hs : List Home). record (skeleton w) { homes = record { refs = []; process = 0 } ∷ hs }) (homes_same w.instances w'.instances same.instances)

  stand_before : (j : ℕ) → IsStanding w' j → IsStanding w j
  stand_before j st = subst (λ (s : Skeleton). SkeletonStands s j) skeleton_same st

  stand_later : (j : ℕ) → IsStanding w j → IsStanding w' j
  stand_later j st = subst (λ (s : Skeleton). SkeletonStands s j) (sym skeleton_same) st

  path_later : (a b : ℕ) → IsOnPath w a b → IsOnPath w' a b
  path_later a b path = subst (λ (s : Skeleton). OnPath s a b) (sym skeleton_same) path

  path_before : (a b : ℕ) → IsOnPath w' a b → IsOnPath w a b
  path_before a b path = subst (λ (s : Skeleton). OnPath s a b) skeleton_same path

  instance_moves : (i : ℕ) → InstanceMoves (instance_at w i) (instance_at w' i)
  instance_moves zero = instance_self (or_no_instance None)
  instance_moves (suc k) = get_either w.instances w'.instances k same.instances

  there_later : (j : ℕ) (x : Instance) → numbered w.instances j ≡ Some x → (y : Instance) × (numbered w'.instances j ≡ Some y) × InstanceMoves x y
  there_later zero x is = none_some is
  there_later (suc k) x is = get_moved w.instances w'.instances k x same.instances is

  there_before : (j : ℕ) (y : Instance) → numbered w'.instances j ≡ Some y → (x : Instance) × (numbered w.instances j ≡ Some x) × InstanceMoves x y
  there_before zero y is = none_some is
  there_before (suc k) y is = get_before w.instances w'.instances k y same.instances is

  -- what was an event is one
  pub event_later : (r : Reference) (e : EventState) → cell_at w r ≡ event e → (f : EventState) × (cell_at w' r ≡ event f)
  event_later r e is = let m = instance_moves r.instance in cells_event ((instance_at w r.instance).cells) ((instance_at w' r.instance).cells) r.name e m.cells is

  facts_later : HasFacts w → HasFacts w'
  facts_later facts =
      record {
        nobody = λ st. facts.nobody (stand_before 0 st);
        there = λ j st. let x = facts.there j (stand_before j st) in let y = there_later j x.0 x.1 in (y.0, y.1, (y.2).left ∙ x.2);
        stands = λ j y is stands. let x = there_before j y is in stand_later j (facts.stands j x.0 x.1 (sym (x.2).left ∙ stands));
        parents = λ j st. subst (λ n. IsStandingOrNone w' n) (sym (instance_moves j).parent) (later (facts.parents j (stand_before j st)));
        cells = λ j r st inside.
            stand_later r (facts.cells j r (stand_before j st) (subst (λ (ns : List ℕ). IsInSkeleton ns r) (cells_refer ((instance_at w j).cells) ((instance_at w' j).cells) (instance_moves j).cells) inside));
        on_path = λ a b st path. stand_later b (facts.on_path a b (stand_before a st) (path_before a b path));
      }
    where
      later : {n : ℕ} → IsStandingOrNone w n → IsStandingOrNone w' n
      later {n} (inl none) = inl none
      later {n} (inr st) = inr (stand_later n st)

  -- each process has what it has still to do, and its task
  record WasThere (qs : List Process) (k : ℕ) (r : Process) : Type 0 where
    before : Process
    is : slice_get qs k ≡ Some before
    todo : before.todo ≡ r.todo
    task : before.task ≡ r.task

  was_in : (qs rs : List Process) (k : ℕ) (r : Process) → AreSameButStates qs rs → slice_get rs k ≡ Some r → WasThere qs k r
  was_in [] [] k r are e = cc
  was_in [] (r ∷ rs) k o are e = absurd are
  was_in (q ∷ qs) [] k r are e = absurd are
  was_in (q ∷ qs) (x ∷ rs) zero r are e =
      let same_so : x ≡ r = cc in
      record { before = q; is = refl; todo = (are.0).0 ∙ ap (λ (o : Process). o.todo) same_so; task = (are.0).2 ∙ ap (λ (o : Process). o.task) same_so }
  was_in (q ∷ qs) (x ∷ rs) (suc k) r are e =
      let b : WasThere qs k r = was_in qs rs k r are.1 e in record { before = b.before; is = b.is; todo = b.todo; task = b.task }

  low_world : (sc : Scopes) (b i : ℕ) → WorldLow sc b i w → WorldLow sc b i w'
  low_world sc b i l =
      record {
        instances = λ j y is stands.
            let x = there_before j y is in
            let before : InstanceLow sc b i x.0 = l.instances j x.0 x.1 (sym (x.2).left ∙ stands) in
            record { childless = λ e. before.childless (sym (x.2).parent ∙ e); cells = cells_low sc b i (x.0).cells y.cells (x.2).cells before.cells };
        parts = part_low;
        tasks = task_low;
      }
    where
      part_low : (p : ℕ) (q : Process) (part : Part) → numbered w'.processes p ≡ Some q → IsAmongParts q.todo part → PartLow sc b i part
      part_low zero q part is among = none_some is
      part_low (suc k) q part is among =
          let o : WasThere w.processes k q = was_in w.processes w'.processes k q same.processes is in
          l.parts (suc k) o.before part o.is (subst (λ (ps : List Part). IsAmongParts ps part) (sym o.todo) among)

      task_low : (p : ℕ) (q : Process) (r : Reference) → numbered w'.processes p ≡ Some q → q.task ≡ Some r → LeadsLow sc b i r
      task_low zero q r is task = none_some is
      task_low (suc k) q r is task =
          let o : WasThere w.processes k q = was_in w.processes w'.processes k q same.processes is in
          l.tasks (suc k) o.before r o.is (o.task ∙ task)

  low_later : (sc : Scopes) (i : ℕ) → IsLow sc w i → IsLow sc w' i
  low_later sc i l = subst (λ b. WorldLow sc b i w') (sym (instance_moves i).block) (low_world sc ((instance_at w i).block) i l)

  ancestor_same : (up i : ℕ) → ancestor w' up i ≡ ancestor w up i
  ancestor_same zero i = refl
  ancestor_same (suc up) i = ap (λ j. ancestor w' up j) (instance_moves i).parent ∙ ancestor_same up ((instance_at w i).parent)

  climb_later : (sc : Scopes) → CanClimb sc w → CanClimb sc w'
  climb_later sc climb =
      record {
        facts = facts_later climb.facts;
        up = λ i up st far.
            subst (λ j. IsOnPath w' i j) (sym (ancestor_same up i))
            (path_later i (ancestor w up i) (climb.up i up (stand_before i st) (subst (λ b. up + OUTER_LEVEL ≤ level_of (block_numbered sc.blocks b)) (instance_moves i).block far)));
      }

-- events stay events
pub stays_shape : (w w' : World) → IsSameShape w w' → EventsStay w w'
stays_shape w w' same j name e is = ((instance_moves w w' same j).block, event_later w w' same (record { instance = j; name = name }) e is)

-- after the one as after the other
pub after_shape : (sc : Scopes) (w v w' : World) (p : ℕ) → IsAfter sc w v p → IsSameShape v w' → IsAfter sc w w' p
after_shape sc w v w' p after same =
    record {
      climb = climb_later v w' same sc after.climb;
      paths = λ a b st later path. path_later v w' same a b (after.paths a b st (stand_before v w' same a later) path);
      lows = λ i st other low. low_later v w' same sc i (after.lows i st other low);
    }

-- those that are freed live, and only their states are others
freed_states : (ps : List ℕ) (u : World) → ((k : ℕ) → IsListed ps k → LivesIn u k) → AreSameButStates (set_all_able u ps).processes u.processes
freed_states [] u alive = states_self u.processes
freed_states (m ∷ ps) u alive =
    let h : LivesIn u m = alive m (inl refl) in
    states_on (set_all_able (set_able u m) ps).processes (set_able u m).processes u.processes
    (freed_states ps (set_able u m) (λ k listed. lives_then u m h.process h.is k (alive k (inr listed))))
    (subst (λ (o : Process). AreSameButStates (set_numbered u.processes m (record o { state = able })) u.processes) (sym (process_is u m h.process h.is))
    (states_set u.processes m h.process able (h.process).woken h.is (sym h.alive)))

freed_instances : (ps : List ℕ) (u : World) → (set_all_able u ps).instances ≡ u.instances
freed_instances [] u = refl
freed_instances (m ∷ ps) u = freed_instances ps (set_able u m)

pub freed_shape : (ps : List ℕ) (u : World) → ((k : ℕ) → IsListed ps k → LivesIn u k) → IsSameShape (set_all_able u ps) u
freed_shape ps u alive = record { instances = subst (λ (xs : List Instance). AreMoved (set_all_able u ps).instances xs) (freed_instances ps u) (moved_self (set_all_able u ps).instances); processes = freed_states ps u alive }
