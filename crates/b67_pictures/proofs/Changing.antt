-- An action changes a cell of an instance whose frame lies in the stack of whatever process: the image after it pictures the world after it.
use Rattle.std.proofs.Common.{◌≡◌, ◌≢◌, ◌⊎◌, inl, inr, refl, sym, ap, ◌∙◌, subst, ℕ, ◌+◌, ◌<◌, ◌≤◌, List, ◌∷◌, ◌++◌, length, Option, Some, Bool, false, arith, true, []}
use Rattle.b67_list.proofs.Numbered.{numbered_set}
use Rattle.b67_list.proofs.Numbers.{none_some}
use Rattle.b67_pictures.proofs.Prelude.{if◌then◌else◌, slice_get, numbered, IsListed, block_numbered, PProgram, Scopes, scopes_of, same_name, resume, referred_in, list_in, Cell, NamedCell, Instance, Process, Part, State, lives, World, or_no_instance, with_process, cells_with, Made, in_either, IsInSkeleton, referred_in_cells, IsStanding, IsOwn, Word, Registers, Code, stack_at, word_at, stack_limit, Event, waiters_at, place, Image, woken_number, floor, ProcessState, simple_cells, Texts, Core, size, over, HasCore, with_core, length_set_numbered, some_same, has_now, others_have, system_stays, same_or_not, HasFacts, facts_of, KeepsArrays, keeps_same, begins_core, StandOn, AreMade, ArraysAre, EventsAre, CellsAre, all_laid, Found, found_laid, LeavesAlone, alike_but, Actor, found_own, comes_to, IsStored, put, length_put, stored_world, others_at, ChangedCells, changed, EventsStay, state_stays, events_kept, events_beside, events_same, TheLaws, still_awaiting, waits_kept, waits_still, Living, living, PicturesBy, StateIs, AreAwaiting, WaitsAre}
use Rattle.algol_standing.proofs.Seen.{in_front, in_back}
use Rattle.b67_rows.proofs.Numbers.{get_within}
use Rattle.b67_scenes.proofs.StoringOthers.{stored_pictured}
use Rattle.b67_pictures.proofs.Alone.{IsAfter, dependent_but, stands_on, leaves_alone}
use Rattle.b67_pictures.proofs.GoingOn.{goes_along}
use Rattle.b67_pictures.proofs.InFrame.{GoesOnAbove}
use Rattle.b67_pictures.proofs.OwnStored.{own_goes_along}
use Rattle.b67_pictures.proofs.WordPut.{put_word, IsOnlyStored, put_only, stacks_beside, core_beside, core_put}

-- a process has one core, so far as there are words below the floor
pub same_floor : (img : Image) (p : ℕ) (a b : Core) → HasCore img p a → HasCore img p b → length a.below ≡ length b.below
same_floor img p a b has_a has_b =
    has_a.is.bottom ∙ ap (λ (r : Registers). floor r) (some_same (sym has_a.registers ∙ has_b.registers)) ∙ sym has_b.is.bottom

-- a word of its stack below the floor lies in its core
pub word_below : (img : Image) (p : ℕ) (core : Core) → HasCore img p core → (n : ℕ) (x : Word) → n < length core.below → word_at img.stacks (place p n) ≡ Some x → slice_get core.below n ≡ Some x
word_below img p core has n x low is =
    let there : (y : Word) × (slice_get core.below n ≡ Some y) = get_within core.below n low in
    there.1 ∙ sym (begins_core img p core has n there.0 there.1) ∙ is

-- where a cell that refers to nothing comes in place of one, nothing more is referred to
pub refers_fewer : (cells : List NamedCell) (name : List ℕ) (c : Cell) → referred_in c ≡ [] → (r : ℕ) → IsInSkeleton (referred_in_cells (cells_with cells name c)) r → IsInSkeleton (referred_in_cells cells) r
refers_fewer [] name c none r inside = inside
refers_fewer (d ∷ cells) name c none r inside = by_name (same_name d.name name) (refers_fewer cells name c none r) inside
  where
    further : (IsInSkeleton (referred_in_cells (cells_with cells name c)) r → IsInSkeleton (referred_in_cells cells) r) → IsInSkeleton (referred_in d.cell) r ⊎ IsInSkeleton (referred_in_cells (cells_with cells name c)) r → IsInSkeleton (referred_in d.cell ++ referred_in_cells cells) r
    further later (inl m) = in_front (referred_in d.cell) (referred_in_cells cells) r m
    further later (inr m) = in_back (referred_in d.cell) (referred_in_cells cells) r (later m)

    by_name : (b : Bool) → (IsInSkeleton (referred_in_cells (cells_with cells name c)) r → IsInSkeleton (referred_in_cells cells) r) → IsInSkeleton (referred_in_cells (if b then record d { cell = c } ∷ cells else d ∷ cells_with cells name c)) r →
        IsInSkeleton (referred_in d.cell ++ referred_in_cells cells) r
    by_name true later m = in_back (referred_in d.cell) (referred_in_cells cells) r (subst (λ (is : List ℕ). IsInSkeleton (is ++ referred_in_cells cells) r) none m)
    by_name false later m = further later (in_either (referred_in d.cell) (referred_in_cells (cells_with cells name c)) r m)

module _ (tree : PProgram) (code : Code) (texts : Texts) (laws : TheLaws) (actor : Actor tree code texts) where
  open actor use {w, lay, img, p, q, part, outer, core, s}

  -- What is stored: the instance, whose frame lies in the stack of whatever process, has these cells after it.
  pub record CellChange : Type 0 where
    pub i : ℕ
    pub found : Found tree code texts w lay img i
    pub x : Instance
    pub at : numbered w.instances i ≡ Some x
    pub with_cells : List NamedCell
    pub far : ℕ
    pub word : Option Word
    pub many : length with_cells ≡ length x.cells
    pub short : IsStored word → far < length (simple_cells (scopes_of tree) (block_numbered (scopes_of tree).blocks x.block))
    pub low : IsStored word → length found.lies.frame.lower + 2 + far < length found.core.below
    pub keeps : KeepsArrays (scopes_of tree) w (stored_world w i x at with_cells) lay lay i
    pub fewer : (r : ℕ) → IsInSkeleton (referred_in_cells with_cells) r → IsInSkeleton (referred_in_cells x.cells) r
    pub changes : (simple : List NamedCell) (values : List Word) (arrays : List NamedCell) (declared : List Made) (descriptors : List Word) → CellsAre (simple_cells (scopes_of tree) (block_numbered (scopes_of tree).blocks x.block)) simple values → AreMade declared arrays (lay.rows i) descriptors → x.cells ≡ simple ++ arrays → ChangedCells (simple_cells (scopes_of tree) (block_numbered (scopes_of tree).blocks x.block)) (lay.rows i) with_cells simple values (put word values far) declared descriptors

  module _ (onward : GoesOnAbove tree code texts actor) (change : CellChange) (small : size (record { below = core.below; words = onward.words; registers = onward.registers }) ≤ stack_limit) (able_is : lives q.state ≡ true)
      (state : State) where
    open onward use {unmade, answer, nameless, words, registers, frame_is, pc, slots, there, few, comes}
    open change use {i, found as f, x, at, with_cells, far, word, many, short, low, keeps, fewer, changes}

    abbrev sc : Scopes
    sc = scopes_of tree

    -- the height of its frame, and the place of the cell
    abbrev high : ℕ
    high = length f.lies.frame.lower

    abbrev k : ℕ
    k = high + 2 + far

    abbrev part' : Part
    part' = record part { rest = resume sc part.rest answer }

    abbrev q' : Process
    q' = record q { todo = part' ∷ outer; state = state }

    -- the world after it
    abbrev pub changed_world : World
    changed_world = with_process (stored_world w i x at with_cells) p (record q { todo = record part { rest = resume (scopes_of tree) part.rest answer } ∷ outer; state = state })

    abbrev before : Core
    before = record { below = core.below; words = words; registers = registers }

    laid : numbered lay.places i ≡ Some (place f.number high)
    laid = found_laid tree code texts w lay img i f

    facts : HasFacts w
    facts = facts_of sc w s.ok

    -- it is one of the process whose stack it is
    mine : x.process ≡ f.number
    mine =
        ap (λ (y : Instance). y.process) (some_same (sym at ∙ ap (λ (j : ℕ). numbered w.instances j) (sym f.lies.instance_is) ∙ f.lies.owned.framed.is)) ∙ f.lies.owned.framed.own

    same_stack : registers.stack ≡ core.registers.stack
    same_stack = ap (λ (r : Registers). r.stack) frame_is.is

    -- ---- the world after it

    keeps_on : KeepsArrays sc w changed_world lay lay i
    keeps_on =
        record {
          block = keeps.block;
          parent = keeps.parent;
          arrays = λ name cell is. let h = keeps.arrays name cell is in record { later = h.later; is = h.is; bounds = h.bounds };
          events = keeps.events;
          leads = keeps.leads;
          rows = keeps.rows;
        }

    each_keeps : (j : ℕ) → IsStanding w j → IsStanding changed_world j → KeepsArrays sc w changed_world lay lay j
    each_keeps j st later = by_number (same_or_not j i)
      where
        by_number : (j ≡ i) ⊎ (j ≢ i) → KeepsArrays sc w changed_world lay lay j
        by_number (inl e) = subst (λ (n : ℕ). KeepsArrays sc w changed_world lay lay n) (sym e) keeps_on
        by_number (inr apart) = keeps_same sc w changed_world lay lay j (ap or_no_instance (others_at w i x at with_cells j apart)) refl

    events_stay : EventsStay w changed_world
    events_stay = events_beside w changed_world i (λ j apart. others_at w i x at with_cells j apart) (events_kept sc w changed_world lay lay i keeps_on)

    as_many : length w.instances ≡ length changed_world.instances
    as_many = sym (length_set_numbered w.instances i (changed w i x at with_cells))

    abbrev ChangedWorld : Type 0
    ChangedWorld = IsAfter sc w changed_world p

    on : ChangedWorld → StandOn sc w changed_world lay lay
    on after = stands_on sc w changed_world lay lay p facts after each_keeps (λ j g e. e)

    alone : ChangedWorld → (r : ℕ) → r ≢ p → LeavesAlone sc w changed_world lay lay r
    alone after r other = leaves_alone sc w changed_world lay lay p facts after each_keeps (λ j g e. e) (all_laid w lay facts s.by.laid) (dependent_but w.processes p q q' s.at refl (λ e. able_is)) r other

    at_later : numbered changed_world.processes p ≡ Some q'
    at_later = numbered_set w.processes p q q' s.at

    -- the core that the process has after it, where the frame is one of its own
    abbrev own_core : Core
    own_core = over (put word core.below k) before

    -- ---- the image after it: all is there but the word and the core

    -- An image that has all of the world after it but the word and the core.
    pub record PicturesElse : Type 0 where
      pub base : Image
      pub same : (m : ℕ) (other : Core) → HasCore img m other → HasCore base m other
      pub stacks : base.stacks ≡ img.stacks
      pub after : IsAfter (scopes_of tree) w (with_process (stored_world w i x at with_cells) p (record q { todo = record part { rest = resume (scopes_of tree) part.rest answer } ∷ outer; state = state })) p
      pub arrays : ArraysAre (scopes_of tree) (with_process (stored_world w i x at with_cells) p (record q { todo = record part { rest = resume (scopes_of tree) part.rest answer } ∷ outer; state = state })) lay base.rows
      pub events : EventsAre (scopes_of tree) (with_process (stored_world w i x at with_cells) p (record q { todo = record part { rest = resume (scopes_of tree) part.rest answer } ∷ outer; state = state })) lay base.events
      pub list_same : list_in state ≡ list_in q.state
      pub lists : base.lists ≡ img.lists
      pub numbers : base.numbers ≡ img.numbers
      pub awaiting : AreAwaiting base
      pub output : base.output ≡ img.output
      pub fault : base.fault ≡ img.fault
      pub started : base.started ≡ img.started
      pub regs : length base.regs ≡ length img.regs
      pub many_states : length base.states ≡ length img.states
      pub states : (m : ℕ) → m ≢ p → numbered base.states m ≡ numbered img.states m
      pub lives_so : lives state ≡ true
      pub state_is : StateIs (scopes_of tree) w lay state (numbered base.states p)

    module _ (rest_so : PicturesElse) where
      open rest_so use {base, same, stacks, after, arrays, events, list_same, lists, numbers, awaiting, output, fault, started, regs, many_states, states, lives_so, state_is}

      has : HasCore base p core
      has = same p core s.has

      state_then : StateIs sc changed_world lay state (numbered base.states p)
      state_then = state_stays sc w changed_world lay lay events_stay (λ j f there. there) state (numbered base.states p) state_is

      waits_then : WaitsAre sc changed_world lay base
      waits_then = waits_still sc w changed_world lay lay events_stay (λ j f there. there) img base s.by.waits p q q' s.at refl list_same refl lists numbers awaiting

      system : stack_at base.stacks 0 ≡ stack_at img.stacks 0
      system = ap (λ ss. stack_at ss 0) stacks

      -- where it is an own one
      module _ (here : f.number ≡ p) where
        own : IsOwn (part ∷ outer) i
        own = found_own tree code texts actor i f here

        own_laid : numbered lay.places i ≡ Some (place p high)
        own_laid = laid ∙ ap (λ (n : ℕ). Some (place n high)) here

        has_own : HasCore (with_core base p own_core) p own_core
        has_own =
            has_now base p core own_core has same_stack
            (record { bottom = length_put word core.below k ∙ there.is.bottom; top = omega (arith, there.is.top, length_put word core.below k) })

        living_own : Living tree code texts changed_world lay (with_core base p own_core) p q'
        living_own =
            own_goes_along tree code texts laws actor onward (record {
              i = i;
              x = x;
              at = at;
              with_cells = with_cells;
              high = high;
              laid = own_laid;
              far = far;
              up = k;
              place_is = refl;
              word = word;
              many = many;
              short = short;
              keeps = keeps;
              facts = facts;
              fewer = fewer;
              changes = changes;
            }) own
            state (on after) (with_core base p own_core) has_own small after.climb (all_laid changed_world lay after.climb.facts (s.by.laid ∙ as_many)) events_stay

        pub own_pictured : PicturesBy tree code texts (with_process (stored_world w i x at with_cells) p (record q { todo = record part { rest = resume (scopes_of tree) part.rest answer } ∷ outer; state = state })) lay
            (with_core base p (over (put word core.below (length f.lies.frame.lower + 2 + far)) (record { below = core.below; words = words; registers = registers })))
        own_pictured =
            comes_to tree code texts w lay img s.by p q s.at changed_world lay (with_core base p own_core) q' refl (s.by.laid ∙ as_many) arrays events (record {
              numbers = waits_then.numbers;
              woken = waits_then.woken;
              lists = waits_then.lists;
              awaiting = waits_then.awaiting;
            })
            (λ r other. alike_but sc w changed_world lay r i x (changed w i x at with_cells) (alone after r other) at (λ (e : r ≡ x.process). other (e ∙ mine ∙ here)) refl events_stay)
            (output ∙ s.by.output) refl fault started (length_set_numbered base.regs p own_core.registers ∙ regs) many_states states (system_stays base p core own_core has same_stack q w s.at ∙ system)
            (λ r other_core apart had. others_have base p core own_core has same_stack r other_core apart (same r other_core had)) (living lives_so state_then living_own)

      -- where it is one of another process
      module _ (other : f.number ≢ p) where
        abbrev with_it : Image
        with_it = put_word word base (place f.number k)

        abbrev result : Image
        result = with_core (put_word word base (place f.number k)) p before

        has_so : HasCore with_it p core
        has_so = core_beside base f.number k word p core (λ (e : p ≡ f.number). other (sym e)) has

        has_here : HasCore result p before
        has_here = has_now with_it p core before has_so same_stack there.is

        same_own : (j : ℕ) (y : Instance) → numbered w.instances j ≡ Some y → y.process ≡ p → numbered changed_world.instances j ≡ Some y
        same_own j y is of_it =
            others_at w i x at with_cells j
            (λ (e : j ≡ i). other (sym mine ∙ ap (λ (z : Instance). z.process) (some_same (sym at ∙ ap (λ (n : ℕ). numbered w.instances n) (sym e) ∙ is)) ∙ of_it)) ∙ is

        living_here : Living tree code texts changed_world lay result p q'
        living_here =
            goes_along tree code texts laws actor (record {
              unmade = unmade;
              answer = answer;
              nameless = nameless;
              new = before;
              below = refl;
              frame_is = frame_is;
              known = s.stands.held;
              known_are = s.stands.held_are;
              pc = pc;
              slots = slots;
              there = there;
              few = few;
              comes = comes;
            }) (record {
              world = changed_world;
              layout = lay;
              state = state;
              on = on after;
              own = same_own;
              rows = λ j y is of_it. refl;
              events = events_stay;
              laid_later = s.by.laid ∙ as_many;
              at_later = at_later;
            }) result has_here small after.climb

        -- its process has the word below its floor
        low_there : (c : Core) → HasCore img f.number c → IsStored word → k < length c.below
        low_there c had set = omega (arith, low set, same_floor img f.number f.core c f.has had)

        only : IsOnlyStored base (put_word word base (place f.number k))
        only = put_only base f.number k word

        -- nobody waits for others
        waits_there : WaitsAre sc changed_world lay result
        waits_there =
            waits_kept sc changed_world changed_world lay lay (λ j. events_same changed_world changed_world j refl) (λ j f there. there) base result waits_then (ap length only.numbers ∙ waits_then.numbers) (λ r. (refl, refl)) only.lists
            (λ r. ap (λ (ns : List ℕ). woken_number ns r) only.numbers)
            (still_awaiting base result waits_then.awaiting (λ r there listed. subst (λ (es : List Event). IsListed (waiters_at there es) r) only.events listed) only.states only.lists)

        nobody : f.number ≢ 0
        nobody e = none_some (ap (λ (n : ℕ). numbered w.processes n) (sym e) ∙ f.is)

        pub other_pictured : PicturesBy tree code texts (with_process (stored_world w i x at with_cells) p (record q { todo = record part { rest = resume (scopes_of tree) part.rest answer } ∷ outer; state = state })) lay
            (with_core (put_word word base (place f.number (length f.lies.frame.lower + 2 + far))) p (record { below = core.below; words = words; registers = registers }))
        other_pictured =
            stored_pictured tree code texts w lay f.number (record {
              i = i;
              x = x;
              at = at;
              with_cells = with_cells;
              high = high;
              laid = laid;
              far = far;
              up = k;
              place_is = refl;
              word = word;
              many = many;
              short = short;
              keeps = keeps;
              facts = facts;
              fewer = fewer;
              changes = changes;
            }) p q' (alone after) img result mine
            (λ o is. subst (λ (r : Process). IsOwn r.todo i) (some_same (sym f.is ∙ is)) (subst (λ (ps : List Part). IsOwn ps i) (sym f.todo) f.own)) low_there
            (λ c had. others_have with_it p core before has_so same_stack f.number (over (put word c.below k) c) other (core_put base f.number k word c (low_there c had) (same f.number c had)))
            (λ r c apart elsewhere had. others_have with_it p core before has_so same_stack r c apart (core_beside base f.number k word r c elsewhere (same r c had)))
            (λ r apart. ap (λ (ss : List ProcessState). numbered ss r) only.states ∙ states r apart) s.by q s.at (subst (λ rows. ArraysAre sc changed_world lay rows) (sym only.rows) arrays)
            (subst (λ es. EventsAre sc changed_world lay es) (sym only.events) events) waits_there (only.output ∙ output ∙ s.by.output) (only.fault ∙ fault) (only.started ∙ started) (length_set_numbered with_it.regs p before.registers ∙ ap length only.registers ∙ regs) (ap length only.states ∙ many_states)
            (system_stays with_it p core before has_so same_stack q w s.at ∙ stacks_beside base f.number k word 0 nobody ∙ system)
            (living lives_so (subst (λ (ss : List ProcessState). StateIs sc changed_world lay state (numbered ss p)) (sym only.states) state_then) living_here)
