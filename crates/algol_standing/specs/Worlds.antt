-- Facts of worlds only: what stands, what is referred to, and that all of it lies on the path.
use Rattle.std.specs.Prelude.{◌≡◌, ◌⊎◌, ◌↔◌, ℕ, zero, suc, ◌<◌, ◌≤◌, Bool, true, false, if◌then◌else◌, List, [], ◌∷◌, ◌++◌, length, map, Some, None}
use Rattle.b67_limits.specs.declared.TheConstants.{MOST_EVENTS}
use Rattle.b67_list.specs.Numbered.{numbered}
use Rattle.algol_tree.specs.Plain.{PBody}
use Rattle.algol_tree.specs.Blocks.{around}
use Rattle.algol_tree.specs.Scopes.{Scopes}
use Rattle.algol_meaning.specs.Value.{Reference, NameCell, Cell, event, named, reference}
use Rattle.b67_deeds.specs.Events.{EventState}
use Rattle.b67_deeds.specs.Listed.{IsListed, AreOnce}
use Rattle.algol_meaning.specs.Rest.{Place, own, there, element_of, Given, passed, Hole, enter, subscript, argument, left, right, negated, inverted, condition, Actuals, pass, in_value, Aim, place_subscript, Rest, giving_place, store, entering, starting, evaluating, locating, aiming, storing, choosing, looping, checking, counting, differing, stepping, selecting, calling, preparing, writing, bounding, inside_place, Answer, cell, place}
use Rattle.algol_meaning.specs.World.{NamedCell, Instance, Part, Process, State, waits_for, procures, waits_any, lives, World, instance_at, process_at, cell_at}
use Rattle.algol_meaning.specs.Critical.{is_evaluation, own_instances, referred_in, referred_by}
use Rattle.algol_meaning.specs.Events.{reference_is_among, list_in}
use Rattle.algol_meaning.specs.Asks.{nothing, ask}
use Rattle.algol_paths.specs.Blocks.{BlockIsSeen, IsSeenAround}
use Rattle.algol_paths.specs.Texts.{InExpr, InRest}
use Rattle.algol_paths.specs.Arrays.{all_to_make}
use Rattle.algol_paths.specs.Laws.{KeepsToText}
use Rattle.algol_standing.specs.Skeleton.{Evaluation, Stack, Home, Skeleton, SkeletonStands, OnPath, SkeletonOk}

-- ---- what an instance refers to

-- parent 0 is none
abbrev pub parent_in : ℕ → List ℕ
parent_in zero = []
parent_in (suc j) = suc j ∷ []

abbrev pub referred_in_cells : List NamedCell → List ℕ
referred_in_cells [] = []
referred_in_cells (c ∷ cells) = referred_in c.cell ++ referred_in_cells cells

abbrev pub home_of : Instance → Home
home_of x = record { refs = parent_in x.parent ++ referred_in_cells x.cells; process = x.process }

-- ---- what a part holds: the cells that its rest passes on, and of each place that it keeps a Reference to that

abbrev pub held_in_place : Place → List Cell
held_in_place (own n) = []
held_in_place (there r) = reference r ∷ []
held_in_place (element_of r ks) = reference r ∷ []

abbrev pub held_in_givens : List Given → List Cell
held_in_givens [] = []
held_in_givens (passed c ∷ gs) = c ∷ held_in_givens gs
held_in_givens (_ ∷ gs) = held_in_givens gs

abbrev mutual
  pub held_in_hole : Hole → List Cell
  held_in_hole (enter n gs) = held_in_givens gs
  held_in_hole (subscript n ks h es) = held_in_hole h
  held_in_hole (argument n x) = held_in_actuals x
  held_in_hole (left op h b) = held_in_hole h
  held_in_hole (right op v h) = held_in_hole h
  held_in_hole (negated h) = held_in_hole h
  held_in_hole (inverted h) = held_in_hole h
  held_in_hole (condition h x y) = held_in_hole h
  held_in_hole _ = []

  pub held_in_actuals : Actuals → List Cell
  held_in_actuals (pass gs n sorts es) = held_in_givens gs
  held_in_actuals (in_value gs h sorts es) = held_in_givens gs ++ held_in_hole h

abbrev pub held_in_aim : Aim → List Cell
held_in_aim (place_subscript n ks h es) = held_in_hole h
held_in_aim _ = []

abbrev pub held_in_rest : Rest → List Cell
held_in_rest (giving_place p) = held_in_place p
held_in_rest (store p v k) = held_in_place p
held_in_rest (entering n gs k) = held_in_givens gs
held_in_rest (starting n gs task k) = held_in_givens gs
held_in_rest (evaluating h) = held_in_hole h
held_in_rest (locating x) = held_in_aim x
held_in_rest (aiming x e k) = held_in_aim x
held_in_rest (storing p h k) = held_in_place p ++ held_in_hole h
held_in_rest (choosing h x y k) = held_in_hole h
held_in_rest (looping h c b k) = held_in_hole h
held_in_rest (checking h b c k) = held_in_hole h
held_in_rest (counting h b k) = held_in_hole h
held_in_rest (differing h loop k) = held_in_hole h
held_in_rest (stepping d h loop k) = held_in_hole h
held_in_rest (selecting h ss k) = held_in_hole h
held_in_rest (calling n x k) = held_in_actuals x
held_in_rest (preparing n x task k) = held_in_actuals x
held_in_rest (writing phrases vs h es k) = held_in_hole h
held_in_rest (bounding kind ns pairs vs h ps k) = held_in_hole h
held_in_rest _ = []

-- what an answer brings
abbrev pub held_in_answer : Answer → List Cell
held_in_answer (cell c) = c ∷ []
held_in_answer (place p) = held_in_place p
held_in_answer _ = []

-- the instance of the newest part that has one of its own; 0 where there is none
abbrev pub newest_own : List Part → ℕ
newest_own [] = 0
newest_own (part ∷ parts) = if is_evaluation part.purpose then newest_own parts else part.instance

-- what these parts hold, each above the newest own instance at or below it; a part holds its own instance too
abbrev pub held_by : List Part → List Evaluation
held_by [] = []
held_by (part ∷ parts) =
    map (λ (i : ℕ). record { over = newest_own (part ∷ parts); within = i }) (part.instance ∷ referred_by (held_in_rest part.rest)) ++ held_by parts

abbrev pub stack_of : Process → Stack
stack_of q = record { own = own_instances q.todo; evaluations = held_by q.todo; critical = q.critical; live = lives q.state }

-- numbers are those of the world: place 0 of both lists is nobody's
abbrev pub skeleton : World → Skeleton
skeleton w =
    record {
      stacks = record { own = []; evaluations = []; critical = None; live = false } ∷ map stack_of w.processes;
      homes = record { refs = []; process = 0 } ∷ map home_of w.instances;
    }

-- the instance is that of a part of a live process
abbrev pub IsStanding : World → ℕ → Type 0
IsStanding w i = SkeletonStands (skeleton w) i

abbrev pub IsOnPath : World → ℕ → ℕ → Type 0
IsOnPath w a b = OnPath (skeleton w) a b

-- one of these parts has the instance for its own; an evaluation has none
abbrev pub IsOwn : List Part → ℕ → Type 0
IsOwn [] i = ⊥
IsOwn (part ∷ parts) i = ((is_evaluation part.purpose ≡ false) × (part.instance ≡ i)) ⊎ IsOwn parts i

abbrev pub IsAmongParts : List Part → Part → Type 0
IsAmongParts [] part = ⊥
IsAmongParts (x ∷ parts) part = (x ≡ part) ⊎ IsAmongParts parts part

-- ---- blocks

-- An instance of an outermost block has no parent. That of another has one of the block around its own.
pub data PartIsPlaced (sc : Scopes) (w : World) (x : Instance) : Type 0 where
  outermost : x.parent ≡ 0 → around sc.blocks x.block ≡ [] → PartIsPlaced sc w x
  inside : 1 ≤ x.parent → around sc.blocks x.block ≡ (instance_at w x.parent).block ∷ around sc.blocks ((instance_at w x.parent).block) → PartIsPlaced sc w x

-- ---- waiting

-- who waits in this state, waits for that event to happen, by itself or among several
abbrev pub Awaits : State → Reference → Type 0
Awaits (waits_for s) r = s ≡ r
Awaits (waits_any rs) r = reference_is_among rs r ≡ true
Awaits _ r = ⊥

-- who is in an event's list lives and waits for that event; nobody waits there twice
pub record WaitersAreListed (w : World) (r : Reference) (e : EventState) : Type 0 where
  pub waiters : (p : ℕ) → IsListed e.waiters p → Awaits ((process_at w p).state) r
  pub procurers : (p : ℕ) → IsListed e.procurers p → (process_at w p).state ≡ procures r
  pub once : AreOnce e.procurers
  pub once_waiting : AreOnce e.waiters

-- what a state waits for
abbrev pub IsAwaited : State → Reference → Type 0
IsAwaited (waits_for s) r = s ≡ r
IsAwaited (procures s) r = s ≡ r
IsAwaited (waits_any rs) r = reference_is_among rs r ≡ true
IsAwaited _ r = ⊥

-- no more events are waited for than may be, and the woken number is the place of one of so many
abbrev pub IsFew : ℕ → State → Type 0
IsFew woken s = (woken ≤ MOST_EVENTS) × (length (list_in s) ≤ MOST_EVENTS)

-- ---- actuals that are kept

-- an actual and its instance, in a cell, among the cells of an instance, among those that a part holds
abbrev pub IsNameIn : Cell → NameCell → Type 0
IsNameIn (named m) n = m ≡ n
IsNameIn _ n = ⊥

abbrev pub IsNameAmong : List NamedCell → NameCell → Type 0
IsNameAmong [] n = ⊥
IsNameAmong (c ∷ cells) n = IsNameIn c.cell n ⊎ IsNameAmong cells n

abbrev pub IsNameHeld : List Cell → NameCell → Type 0
IsNameHeld [] n = ⊥
IsNameHeld (c ∷ cells) n = IsNameIn c n ⊎ IsNameHeld cells n

-- ---- places that are given

-- no variable of the part itself is given as a place, since the part around it has other names
abbrev pub IsGivable : Place → Type 0
IsGivable (own n) = ⊥
IsGivable _ = Unit {0}

-- only an evaluation comes to give a place
abbrev pub GivesNoOwn : Bool → Rest → Type 0
GivesNoOwn evaluates (giving_place p) = (evaluates ≡ true) × IsGivable p
GivesNoOwn evaluates (locating x) = evaluates ≡ true
GivesNoOwn evaluates _ = Unit {0}

-- the part comes to give a place
abbrev pub GivesPlace : Rest → Type 0
GivesPlace (giving_place p) = IsGivable p
GivesPlace (locating x) = Unit {0}
GivesPlace _ = ⊥

-- the part waits for a place that the part inside it gives
abbrev pub WaitsForPlace : Rest → Type 0
WaitsForPlace (locating inside_place) = Unit {0}
WaitsForPlace (aiming inside_place e k) = Unit {0}
WaitsForPlace _ = ⊥

abbrev pub PartsAreGiven : List Part → Type 0
PartsAreGiven [] = Unit {0}
PartsAreGiven (part ∷ []) = GivesNoOwn (is_evaluation part.purpose) part.rest
PartsAreGiven (part ∷ next ∷ parts) = GivesNoOwn (is_evaluation part.purpose) part.rest × (WaitsForPlace next.rest → GivesPlace part.rest) × PartsAreGiven (next ∷ parts)

-- ---- evaluations

-- no block stands there
abbrev pub IsNoBlock : PBody → Type 0
IsNoBlock b = ⊥

-- ---- heads

-- only the innermost part asks for an action
pub record HasHead (todo : List Part) : Type 0 where
  pub part : Part
  pub outer : List Part
  pub is : todo ≡ part ∷ outer
  pub acts : ask part.rest ≡ nothing → ⊥
  pub wait : (x : Part) → IsAmongParts outer x → ask x.rest ≡ nothing

-- ---- what is whole

-- An instance has made all that its block declares: a part of its own has nothing left to make.
pub record IsWholeInstance (w : World) (i : ℕ) : Type 0 where
  pub number : ℕ
  pub process : Process
  pub part : Part
  pub is : numbered w.processes number ≡ Some process
  pub among : IsAmongParts process.todo part
  pub owns : is_evaluation part.purpose ≡ false
  pub instance_is : part.instance ≡ i
  pub made : all_to_make part.rest ≡ []

-- ---- all of it

-- `Whole w i` says that the instance has made all that its block declares, as `IsWholeInstance` does.
module _ (sc : Scopes) (Whole : World → ℕ → Type 0) (w : World) where
  abbrev pub block_at : ℕ → ℕ
  block_at i = (instance_at w i).block

  -- The actual stands in the text of its instance's block; in an instance that is not whole it stands in a bound.
  pub record KeepsActual (n : NameCell) : Type 0 where
    pub seen : InExpr (BlockIsSeen sc (block_at n.instance)) n.actual
    pub narrow : Whole w n.instance ⊎ InExpr (IsSeenAround sc (block_at n.instance)) n.actual

  -- What a part has still to do keeps to the text of its block; an evaluation in an instance that is not whole, to what is around that, and it
  -- enters no block. Names that it holds keep to theirs.
  pub record PartOk (part : Part) : Type 0 where
    pub text : KeepsToText sc (block_at part.instance) part.rest
    pub narrow : is_evaluation part.purpose ≡ true → Whole w part.instance ⊎ InRest (IsSeenAround sc (block_at part.instance)) IsNoBlock
        (IsSeenAround sc (block_at part.instance)) part.rest
    pub names : (n : NameCell) → IsNameHeld (held_in_rest part.rest) n → KeepsActual n

  pub record ProcessOk (q : Process) : Type 0 where
    pub parts : (part : Part) → IsAmongParts q.todo part → PartOk part
    pub heads : lives q.state ≡ true → HasHead q.todo
    -- each part waits for what the one inside it gives
    pub gives : PartsAreGiven q.todo
    -- who waits, waits for events on its path
    pub awaited : (r : Reference) → IsAwaited q.state r → IsOnPath w (newest_own q.todo) r.instance
    pub few : IsFew q.woken q.state

  -- the parent of an instance is whole; the actuals that an instance keeps while it stands, keep to their texts
  pub record InstanceOk (i : ℕ) (x : Instance) : Type 0 where
    -- it is left exactly where it does not stand
    pub left : (x.left ≡ false) ↔ IsStanding w i
    pub known : x.block < length sc.blocks
    pub placed : PartIsPlaced sc w x
    pub whole : IsStanding w i → 1 ≤ x.parent → Whole w x.parent
    pub actuals : (n : NameCell) → IsStanding w i → IsNameAmong x.cells n → KeepsActual n

  pub record IsSound : Type 0 where
    -- what is referred to lies on the path; the newest stands first; a live process's critical instance stands
    pub skeleton_ok : SkeletonOk (skeleton w)
    pub instances : (i : ℕ) (x : Instance) → numbered w.instances i ≡ Some x → InstanceOk i x
    pub processes : (p : ℕ) (q : Process) → numbered w.processes p ≡ Some q → ProcessOk q
    -- a critical instance is older than all instances of the stack that depends on it, and there is one but for process 1
    pub older : (p c : ℕ) (q : Process) → numbered w.processes p ≡ Some q → lives q.state ≡ true → q.critical ≡ Some c → (i : ℕ) → IsOwn q.todo i → c < i
    pub first : (q : Process) → numbered w.processes 1 ≡ Some q → (q.critical ≡ None) × (q.task ≡ None)
    pub later : (p : ℕ) (q : Process) → numbered w.processes (suc (suc p)) ≡ Some q → (c : ℕ) × (q.critical ≡ Some c)
    -- the critical instance of a process is there, and it is one of a process that was started earlier
    pub criticals : (p c : ℕ) (q : Process) → numbered w.processes p ≡ Some q → q.critical ≡ Some c → c ≤ length w.instances
    pub earlier : (p c : ℕ) (q : Process) → numbered w.processes p ≡ Some q → q.critical ≡ Some c → (instance_at w c).process < p
    -- a live process's task lies on the path from its critical instance
    pub tasks : (p c : ℕ) (q : Process) (r : Reference) → numbered w.processes p ≡ Some q → lives q.state ≡ true → q.critical ≡ Some c → q.task ≡ Some r →
        IsOnPath w c r.instance
    -- who is listed waits
    pub listed : (r : Reference) (e : EventState) → IsStanding w r.instance → cell_at w r ≡ event e → WaitersAreListed w r e
