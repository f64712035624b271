-- Processes come to other states in a world and in its image; and those that wait are able again, whom an event releases.
use Rattle.std.proofs.Common.{◌≡◌, ◌≢◌, ◌⊎◌, inl, inr, refl, sym, ap, ◌∙◌, subst, ℕ, zero, suc, List, [], ◌∷◌, length, Option, Some, None, true}
use Rattle.b67_list.proofs.Numbered.{numbered_set}
use Rattle.b67_list.proofs.Truths.{true_false}
use Rattle.b67_scenes.proofs.Prelude.{slice_set, numbered, set_numbered, IsListed, PProgram, scopes_of, list_in, Process, State, able, lives, World, process_at, or_no_process, with_process, Place, Code, waiters_at, list_of, Image, is_live, woken_number, AwaitsAt, ProcessState, Able, Texts, Core, HasCore, length_set_numbered, same_or_not, numbered_other, arrays_unchanged, events_unchanged, HasFacts, Layout, Living, Pictured, living, dead, PicturesBy, StateIs, ListIs, WaitsAre}
use Rattle.algol_meaning.specs.World.{set_able, set_all_able}
use Rattle.b67_table.specs.Image.{with_states}
use Rattle.b67_table.specs.Writes.{able_again}
use Rattle.b67_scenes.proofs.Ancestors.{all_laid}
use Rattle.b67_scenes.proofs.StatesOnly.{alone_still}
use Rattle.b67_scenes.proofs.Kept.{LeavesAlone, alike_by, living_alike, living_there}
use Rattle.b67_scenes.proofs.Stage.{state_there, process_is, comes_to}
use Rattle.b67_scenes.proofs.Waiting.{awaiting_beside, waits_beside}
use Rattle.b67_scenes.proofs.Tasks.{events_same}

-- the process is there, and lives
pub record LivesIn (w : World) (m : ℕ) : Type 0 where
  pub process : Process
  pub is : numbered w.processes m ≡ Some process
  pub alive : lives process.state ≡ true

-- who waits is there, and lives
pub lives_waiting : (w : World) (k : ℕ) (state : State) → (process_at w k).state ≡ state → lives state ≡ true → LivesIn w k
lives_waiting w k state is alive = found (numbered w.processes k) refl
  where
    found : (y : Option Process) → numbered w.processes k ≡ y → LivesIn w k
    found (Some z) there_is = record { process = z; is = there_is; alive = ap lives (sym (ap (λ (y : Process). y.state) (ap or_no_process there_is)) ∙ is) ∙ alive }
    found None gone = true_false alive (ap lives (sym is ∙ ap (λ (y : Option Process). (or_no_process y).state) gone))

-- who lived before lives then
pub lives_then : (w : World) (m : ℕ) (o : Process) → numbered w.processes m ≡ Some o → (k : ℕ) → LivesIn w k → LivesIn (set_able w m) k
lives_then w m o at k h = by_number (same_or_not k m)
  where
    by_number : (k ≡ m) ⊎ (k ≢ m) → LivesIn (set_able w m) k
    by_number (inl same) =
        record {
          process = record (process_at w m) { state = able };
          is = ap (λ (n : ℕ). numbered (set_numbered w.processes m (record (process_at w m) { state = able })) n) same ∙ numbered_set w.processes m o (record (process_at w m) { state = able }) at;
          alive = refl;
        }
    by_number (inr other) = record { process = h.process; is = numbered_other w.processes m k (record (process_at w m) { state = able }) (λ (e : m ≡ k). other (sym e)) ∙ h.is; alive = h.alive }

module _ (tree : PProgram) (code : Code) (texts : Texts) (lay : Layout) where
  -- A process comes to another state, in which it lives as well, with this woken number, in an image with these lists and numbers.
  -- The state of process m changes, and with it its list and its woken number.
  pub record StateChanges : Type 0 where
    pub w : World
    pub img : Image
    pub by : PicturesBy tree code texts w lay img
    pub process : ℕ
    pub old : Process
    pub at : numbered w.processes process ≡ Some old
    pub alive : lives old.state ≡ true
    pub facts : HasFacts w
    pub state : State
    pub stays : lives state ≡ true
    pub machine_state : ProcessState
    pub live : is_live (Some machine_state) ≡ true
    pub woken : ℕ
    pub lists : List (List Place)
    pub numbers : List ℕ

  module _ (changes : StateChanges) where
    open changes use {w, img, by, process as m, old as o, at, alive, facts, state, stays, machine_state, live, woken, lists, numbers}

    abbrev o' : Process
    o' = record o { state = state; woken = woken }

    abbrev pub state_world : World
    state_world = with_process w m (record o { state = state; woken = woken })

    abbrev w' : World
    w' = with_process w m o'

    abbrev pub state_image : Image
    state_image = record img { states = set_numbered img.states m machine_state; lists = lists; numbers = numbers }

    abbrev img' : Image
    img' = record img { states = set_numbered img.states m machine_state; lists = lists; numbers = numbers }

    -- all others are left alone
    still : (r : ℕ) → LeavesAlone (scopes_of tree) w w' lay lay r
    still = alone_still w m o at state woken alive stays (scopes_of tree) lay facts (all_laid w lay facts by.laid)

    pub state_facts : HasFacts state_world
    state_facts = (still m).on.after

    same_core : (r : ℕ) (core : Core) → is_live (numbered (set_numbered img.states m machine_state) r) ≡ true → HasCore img r core → HasCore img' r core
    same_core r core live_r has = record { live = live_r; registers = has.registers; own = has.own; stack = has.stack; is = has.is }

    state_now : Living tree code texts w lay img m o → numbered (set_numbered img.states m machine_state) m ≡ Some machine_state
    state_now l = let old = state_there (numbered img.states m) l.has.live in numbered_set img.states m old.0 machine_state old.1

    goes_on : StateIs (scopes_of tree) w' lay state (Some machine_state) → Pictured tree code texts w lay img m o → Pictured tree code texts w' lay img' m o'
    goes_on state_is (dead e s) = true_false alive (ap lives e)
    goes_on state_is (living a s l) =
        let now : numbered (set_numbered img.states m machine_state) m ≡ Some machine_state = state_now l in
        let later : Living tree code texts w' lay img' m o =
        living_alike tree code texts w w' lay lay m (alike_by (scopes_of tree) w w' lay m (still m) refl) img img' o at (ap (λ (x : Process). x.todo) (process_is w' m o' (numbered_set w.processes m o o' at)))
        (λ core has. same_core m core (ap is_live now ∙ live) has) l in
        living stays (subst (λ (x : Option ProcessState). StateIs (scopes_of tree) w' lay state x) (sym now) state_is)
        (living_there tree code texts w' lay img' img' m o state woken later later.has)

    -- where it waits in that state for its list, and has that number
    module _ (state_is : StateIs (scopes_of tree) state_world lay state (Some machine_state)) (awaits : (there : Place) → IsListed (waiters_at there img.events) m → AwaitsAt (Some machine_state) (list_of m lists) there)
        (list_is : ListIs (scopes_of tree) state_world lay (list_in state) (list_of m lists)) (others_listed : (r : ℕ) → r ≢ m → list_of r lists ≡ list_of r img.lists)
        (many : length numbers ≡ length img.numbers) (numbered_so : woken_number numbers m ≡ woken) (others_numbered : (r : ℕ) → r ≢ m → woken_number numbers r ≡ woken_number img.numbers r) where
      state_in : Pictured tree code texts w lay img m o → numbered (set_numbered img.states m machine_state) m ≡ Some machine_state
      state_in (dead e s) = true_false alive (ap lives e)
      state_in (living a s l) = state_now l

      waits_now : WaitsAre (scopes_of tree) w' lay img'
      waits_now =
          let there : process_at w' m ≡ o' = process_is w' m o' (numbered_set w.processes m o o' at) in
          waits_beside (scopes_of tree) w w' lay lay (λ j. events_same w w' j refl) (λ j f laid. laid) img img' by.waits m (many ∙ by.waits.numbers ∙ sym (length_set_numbered w.processes m o'))
          (subst (λ (x : Process). ListIs (scopes_of tree) w' lay (list_in x.state) (list_of m lists)) (sym there) list_is)
          (numbered_so ∙ ap (λ (x : Process). x.woken) (sym there)) (λ r other. ap or_no_process (numbered_other w.processes m r o' (λ e. other (sym e)))) others_listed others_numbered
          (awaiting_beside img img' by.waits.awaiting m
          (λ there listed. subst (λ (x : Option ProcessState). AwaitsAt x (list_of m lists) there) (sym (state_in (by.each m o at))) (awaits there listed)) (λ r there other listed. listed)
          (λ r other. numbered_other img.states m r machine_state (λ e. other (sym e))) others_listed)

      pub state_pictured : PicturesBy tree code texts state_world lay state_image
      state_pictured =
          comes_to tree code texts w lay img by m o at w' lay img' o' refl by.laid (arrays_unchanged (scopes_of tree) w w' lay img.rows refl by.arrays) (events_unchanged (scopes_of tree) w w' lay img.events refl by.events) waits_now
          (λ r other. alike_by (scopes_of tree) w w' lay r (still r) refl) by.output refl refl refl refl (length_set_numbered img.states m machine_state) (λ r other. numbered_other img.states m r machine_state (λ e. other (sym e))) refl
          (λ r core other has. same_core r core (ap is_live (numbered_other img.states m r machine_state (λ e. other (sym e))) ∙ has.live) has) (goes_on state_is (by.each m o at))

  -- A process that waits is able, with this woken number, in an image with these lists and numbers, where no event lists it, and it has no list.
  module _ (w : World) (img : Image) (by : PicturesBy tree code texts w lay img) (m : ℕ) (o : Process) (at : numbered w.processes m ≡ Some o) (alive : lives o.state ≡ true)
      (facts : HasFacts w) (woken : ℕ) (lists : List (List Place)) (numbers : List ℕ) where
    abbrev changes : StateChanges
    changes = record { w = w; img = img; by = by; process = m; old = o; at = at; alive = alive; facts = facts; state = able; stays = refl; machine_state = Able; live = refl; woken = woken; lists = lists; numbers = numbers }

    pub woken_facts : HasFacts (with_process w m (record o { state = able; woken = woken }))
    woken_facts = state_facts changes

    pub woken_pictured : ((there : Place) → IsListed (waiters_at there img.events) m → ⊥) → list_of m lists ≡ [] → ((r : ℕ) → r ≢ m → list_of r lists ≡ list_of r img.lists) → length numbers ≡ length img.numbers →
        woken_number numbers m ≡ woken → ((r : ℕ) → r ≢ m → woken_number numbers r ≡ woken_number img.numbers r) →
        PicturesBy tree code texts (with_process w m (record o { state = able; woken = woken })) lay (record img { states = set_numbered img.states m Able; lists = lists; numbers = numbers })
    woken_pictured nowhere empty others_listed many numbered_so others_numbered =
        state_pictured changes tt (λ there listed. absurd (nowhere there listed))
        (subst (λ (ats : List Place). ListIs (scopes_of tree) (with_process w m (record o { state = able; woken = woken })) lay [] ats) (sym empty) tt) others_listed many numbered_so others_numbered

  -- no event lists these, and they wait for none
  abbrev pub AreUnlisted : World → Image → List ℕ → Type 0
  AreUnlisted w img ps = (k : ℕ) → IsListed ps k → ((there : Place) → IsListed (waiters_at there img.events) k → ⊥) × (list_of k img.lists ≡ [])

  -- these are freed in their order
  pub all_freed : (ps : List ℕ) (w : World) (img : Image) → HasFacts w → PicturesBy tree code texts w lay img → ((k : ℕ) → IsListed ps k → LivesIn w k) → AreUnlisted w img ps →
      PicturesBy tree code texts (set_all_able w ps) lay (with_states img (able_again ps img.states))
  all_freed [] w img facts by alive unlisted = by
  all_freed (m ∷ ps) w img facts by alive unlisted =
      let h : LivesIn w m = alive m (inl refl) in
      let able_world : with_process w m (record h.process { state = able; woken = (h.process).woken }) ≡ set_able w m = ap (λ (x : Process). with_process w m (record x { state = able })) (sym (process_is w m h.process h.is)) in
      let u = unlisted m (inl refl) in
      all_freed ps (set_able w m) (with_states img (set_numbered img.states m Able))
      (subst HasFacts able_world (woken_facts w img by m h.process h.is h.alive facts (h.process).woken img.lists img.numbers))
      (subst (λ (v : World). PicturesBy tree code texts v lay (with_states img (set_numbered img.states m Able))) able_world
      (woken_pictured w img by m h.process h.is h.alive facts (h.process).woken img.lists img.numbers u.0 u.1 (λ r other. refl) refl (by.waits.woken m ∙ ap (λ (x : Process). x.woken) (process_is w m h.process h.is)) (λ r other. refl)))
      (λ k listed. lives_then w m h.process h.is k (alive k (inr listed))) (λ k listed. unlisted k (inr listed))

-- ---- another process goes on beside them

set_swap : {A : Type 0} (xs : List A) (k j : ℕ) (x y : A) → k ≢ j → slice_set (slice_set xs k x) j y ≡ slice_set (slice_set xs j y) k x
set_swap [] k j x y other = refl
set_swap (z ∷ zs) zero zero x y other = absurd (other refl)
set_swap (z ∷ zs) zero (suc j) x y other = refl
set_swap (z ∷ zs) (suc k) zero x y other = refl
set_swap (z ∷ zs) (suc k) (suc j) x y other = ap (λ (ys : List _). z ∷ ys) (set_swap zs k j x y (λ e. other (ap suc e)))

pub numbered_swap : {A : Type 0} (xs : List A) (k j : ℕ) (x y : A) → k ≢ j → set_numbered (set_numbered xs k x) j y ≡ set_numbered (set_numbered xs j y) k x
numbered_swap xs zero zero x y other = refl
numbered_swap xs zero (suc j) x y other = refl
numbered_swap xs (suc k) zero x y other = refl
numbered_swap xs (suc k) (suc j) x y other = set_swap xs k j x y (λ e. other (ap suc e))

pub freed_beside : (ps : List ℕ) (w : World) (p : ℕ) (q : Process) → (IsListed ps p → ⊥) → set_all_able (with_process w p q) ps ≡ with_process (set_all_able w ps) p q
freed_beside [] w p q none = refl
freed_beside (m ∷ ps) w p q none = ap (λ (u : World). set_all_able u ps) one ∙ freed_beside ps (set_able w m) p q (λ listed. none (inr listed))
  where
    other : p ≢ m
    other e = none (inl (sym e))

    one : set_able (with_process w p q) m ≡ with_process (set_able w m) p q
    one =
        ap (λ (o : Option Process). with_process (with_process w p q) m (record (or_no_process o) { state = able })) (numbered_other w.processes p m q other)
        ∙ ap (λ (qs : List Process). record w { processes = qs }) (numbered_swap w.processes p m q (record (process_at w m) { state = able }) other)

pub able_beside : (ps : List ℕ) (p : ℕ) (state : ProcessState) (states : List ProcessState) → (IsListed ps p → ⊥) → able_again ps (set_numbered states p state) ≡ set_numbered (able_again ps states) p state
able_beside [] p state states none = refl
able_beside (m ∷ ps) p state states none =
    ap (able_again ps) (numbered_swap states p m state Able (λ (e : p ≡ m). none (inl (sym e))))
    ∙ able_beside ps p state (set_numbered states m Able) (λ listed. none (inr listed))
