-- Images that picture worlds go with the source through every operator.
use Rattle.std.proofs.Common.{◌≡◌, refl, ap, subst, ℕ, ◌<◌, ◌≤◌, List, length, Option, Some, None, arith, true}
use Rattle.b67_list.proofs.Truths.{true_false}
use Rattle.b67_pictures.proofs.Prelude.{numbered, FaultKind, PProgram, scopes_of, choice, Process, World, is_able, process_at, first_world_stands, IsOk, IsWholeInstance, Place, Registers, Code, stack_limit, failed, Image, is_live, Outcome, faults, limit, Plains, ProcessActs, Lives, OperatorTouches, IsPrivate, Texts, StepsArePerformed, StepsComeToLimit, HasFormats, IsShortSegment, Faithful, AreFew, weight, numbered_beyond, Layout, Pictured, living, dead, PicturesBy, Pictures, MayAct, Does, gave, failed_by, stopped, IsListable, NobodyDepends, StacksStayOwn}
use Rattle.algol_meaning.specs.Run.{start, may_go}
use Rattle.algol_calls.specs.Texts.{AreTexts, HasOuterBlock}
use Rattle.algol_standing.proofs.LowLaws.{others_keep_low, making_is_low}
use Rattle.algol_standing.proofs.Worlds.{choices_keep_worlds}
use Rattle.b67_table.specs.declared.InterruptKind.{InterruptKind}
use Rattle.b67_table.specs.Outcome.{gives, interrupts}
use Rattle.b67_table.specs.Table.{table}
use Rattle.b67_table.specs.Beginning.{first_image}
use Rattle.b67_table.specs.Ending.{may_act}
use Rattle.b67_table.specs.Runs as runs
use Rattle.b67_faithful.proofs.Choices.{processes_stay}
use Rattle.b67_faithful.specs.Agreement.{Shows}
use Rattle.b67_faithful.specs.Faithful.{HasSegments}
use Rattle.b67_faithful.specs.Simulation.{Acted, ProcessComes, acts, stops, Simulates}
use Rattle.b67_faithful.proofs.Contradictions.{gives_same, faults_same, gives_faults}
use Rattle.b67_faithful.proofs.Counting.{simulations_are_faithful}
use Rattle.b67_faithful.proofs.Following.{related, tails_through}
use Rattle.b67_faithful.proofs.Ways.{may_lead}
use Rattle.b67_table.specs.Runs.{TableRun}
use Rattle.b67_scenes.proofs.Showing.{able_acts, no_limit, IsAble, able_one, able_alike, ends_alike, is_light}
use Rattle.b67_pictures.proofs.Quiet.{SettledAct, through_plain, Operates, plainly, acting, operates, Settles, settles}

-- ---- an outcome is one

pub gives_interrupts : {A B : Type 0} {a : A} {kind : InterruptKind} {e : Outcome A} → e ≡ gives a → e ≡ interrupts kind → B
gives_interrupts x y = cc

pub faults_interrupts : {A B : Type 0} {j : FaultKind} {kind : InterruptKind} {e : Outcome A} → e ≡ faults j → e ≡ interrupts kind → B
faults_interrupts x y = cc

pub gives_limit : {A B : Type 0} {a : A} {e : Outcome A} → e ≡ gives a → e ≡ limit → B
gives_limit x y = cc

pub limit_interrupts : {A B : Type 0} {kind : InterruptKind} {e : Outcome A} → e ≡ limit → e ≡ interrupts kind → B
limit_interrupts x y = cc

pub faults_limit : {A B : Type 0} {j : FaultKind} {e : Outcome A} → e ≡ faults j → e ≡ limit → B
faults_limit x y = cc

-- An image pictures a world in which there is a process 1, and which is as worlds are.
abbrev pub PicturesSome : PProgram → Code → Texts → World → Image → Type 0
PicturesSome tree code texts w img = Pictures tree code texts w img × (1 ≤ length w.processes) × IsOk (scopes_of tree) IsWholeInstance w

-- what no operator of a pictured image touches: a word in another process's private part
abbrev pub StandApart : PProgram → Code → Texts → Type 0
StandApart tree code texts =
    (w : World) (lay : Layout) (a : Image) → PicturesBy tree code texts w lay a → IsOk (scopes_of tree) IsWholeInstance w → (p q : ℕ) (x : Place) (r : Registers) → OperatorTouches code a p x → Lives a q r → IsPrivate r x → p ≡ q

-- nor the stack of another process on which nobody depends
abbrev pub StacksApart : PProgram → Code → Texts → Type 0
StacksApart tree code texts =
    (w : World) (lay : Layout) (a : Image) → PicturesBy tree code texts w lay a → IsOk (scopes_of tree) IsWholeInstance w → (p q : ℕ) (r : Registers) (x : Place) → Lives a p r
    → NobodyDepends a r.stack → OperatorTouches code a q x → x.stack ≡ r.stack → q ≡ p

-- the plain operators of a process of a pictured image are few
abbrev pub OperatorsAreFew : PProgram → Code → Texts → Type 0
OperatorsAreFew tree code texts =
    (w : World) (lay : Layout) (a : Image) → PicturesBy tree code texts w lay a → (b : Image) (p n : ℕ) → Plains code p a n b → AreFew code p n b

module _ (tree : PProgram) (code : Code) (texts : Texts) (performed : StepsArePerformed) (limits : StepsComeToLimit)
    (fit : AreTexts (scopes_of tree)) (settled_does : (w : World) → IsOk (scopes_of tree) IsWholeInstance w → SettledAct tree code texts w) where
  abbrev Pic : World → Image → Type 0
  Pic w img = PicturesSome tree code texts w img

  abbrev Operator : World → Layout → Image → ℕ → Type 0
  Operator w lay img p = Operates tree code texts w lay img p

  -- ---- an able process

  module _ (w : World) (ok : IsOk (scopes_of tree) IsWholeInstance w) (lay : Layout) (a : Image) (by : PicturesBy tree code texts w lay a) (p : ℕ) where
    operator_of : IsAble tree code texts w lay a by p → Operator w lay a p
    operator_of one = operates tree code texts performed limits w (settled_does w ok) lay p one.process one.at one.able_is a by one.able_p one.lives_so

    -- the processes of a world are some
    some_after : 1 ≤ length w.processes → 1 ≤ length (choice (scopes_of tree) w p).world.processes
    some_after some = omega (arith, some, processes_stay (scopes_of tree) w p)

    -- and the world is as worlds are
    acted : {b : Image} → 1 ≤ length (choice (scopes_of tree) w p).world.processes → MayAct (scopes_of tree) w p → (one : IsAble tree code texts w lay a by p) → ProcessActs code p a b → Operator w lay a p →
        Acted tree code Pic w p a b
    acted some may one (runs.acts np t) (plainly after e t') = true_false e np
    acted some may one (runs.acts np t) (acting (gave after np' t' action by') freed) =
        record {
          action = action;
          released = freed (λ l. gives_limit t l);
          pictures = (subst (λ (i : Image). Pictures tree code texts ((choice (scopes_of tree) w p).world) i) (gives_same t' t) (by' may), some, may.ok);
        }
    acted some may one (runs.acts np t) (acting (failed_by kind np' t' action by') freed) = gives_faults t t'
    acted some may one (runs.acts np t) (acting (stopped np' t' heavy) freed) = gives_limit t t'
    acted some may one (runs.fails kind t) (plainly after e t') = gives_faults t' t
    acted some may one (runs.fails kind t) (acting (stopped np' t' heavy) freed) = faults_limit t t'
    acted some may one (runs.fails kind t) (acting (gave after np' t' action by') freed) = gives_faults t' t
    acted some may one (runs.fails kind t) (acting (failed_by kind' np' t' action by') freed) =
        record {
          action = action;
          released = freed (λ l. faults_limit t l);
          pictures = (subst (λ (k : FaultKind). Pictures tree code texts ((choice (scopes_of tree) w p).world) (failed a p k)) (faults_same t' t) by', some, may.ok);
        }

    not_tagged : (kind : InterruptKind) → Operator w lay a p → table code a p ≡ interrupts kind → ⊥
    not_tagged kind (plainly after e t) i = gives_interrupts t i
    not_tagged kind (acting (gave after np t action by') freed) i = gives_interrupts t i
    not_tagged kind (acting (failed_by k np t action by') freed) i = faults_interrupts t i
    not_tagged kind (acting (stopped np t heavy) freed) i = limit_interrupts t i

    -- only where its process weighs more than a stack has room for
    heavy_one : Operator w lay a p → table code a p ≡ limit → stack_limit < weight tree w p
    heavy_one (plainly after e t) i = gives_limit t i
    heavy_one (acting (gave after np t action by') freed) i = gives_limit t i
    heavy_one (acting (failed_by k np t action by') freed) i = faults_limit t i
    heavy_one (acting (stopped np t heavy) freed) i = heavy

    -- so is each process that comes to the limit
    limit_is_heavy : table code a p ≡ limit → stack_limit < weight tree w p
    limit_is_heavy t = found (numbered w.processes p) refl
      where
        by_picture : (q : Process) → numbered w.processes p ≡ Some q → Pictured tree code texts w lay a p q → stack_limit < weight tree w p
        by_picture q at (living able_is s l) = heavy_one (operates tree code texts performed limits w (settled_does w ok) lay p q at able_is a by s l) t
        by_picture q at (dead e s) = no_limit code a p (ap is_live s) t

        found : (o : Option Process) → numbered w.processes p ≡ o → stack_limit < weight tree w p
        found (Some q) at = by_picture q at (by.each p q at)
        found None gone = no_limit code a p (ap is_live (numbered_beyond w.processes a.states p by.states gone)) t

    comes_to : {n : ℕ} {quiet : Image} → Plains code p a n quiet → Does tree code texts w quiet p → ProcessComes tree code Pic p a
    comes_to plains (gave after np t action by') = acts plains (runs.acts np t)
    comes_to plains (failed_by kind np t action by') = acts plains (runs.fails kind t)
    comes_to plains (stopped np t heavy) = stops plains t

    comes : IsAble tree code texts w lay a by p → ProcessComes tree code Pic p a
    comes one =
        let s : Settles tree code texts w lay a p = settles tree code texts performed limits w (settled_does w ok) lay p one.process one.at one.able_is a by one.able_p one.lives_so in
        comes_to s.plains s.does

  -- ---- all of it

  module _ (outer : HasOuterBlock (scopes_of tree)) (apart : StandApart tree code texts) (few_operators : OperatorsAreFew tree code texts) (first : Pictures tree code texts (start (scopes_of tree)) first_image) where
    some_first : 1 ≤ length (start (scopes_of tree)).processes
    unfolding start
    some_first = omega arith

    -- such an image shows its world
    shows_world : (w : World) (a : Image) → Pic w a → Shows code w a
    shows_world w a pic =
        record {
          output = pic.0.1.output;
          ends = ends_alike tree code texts w pic.0.0 a pic.0.1 pic.1;
          started = pic.0.1.started;
          able = able_alike tree code texts w pic.0.0 a pic.0.1;
          tagged = λ p kind goes able_now ill. not_tagged w pic.2 pic.0.0 a pic.0.1 p kind (operator_of w pic.2 pic.0.0 a pic.0.1 p (able_one tree code texts w pic.0.0 a pic.0.1 p able_now)) ill;
        }

    -- the world stays as worlds are
    may_then : (w : World) (a : Image) (p : ℕ) → Pic w a → may_act a p ≡ true → is_able ((process_at w p).state) ≡ true → MayAct (scopes_of tree) w p
    may_then w a p pic may able_now =
        let goes : may_go w p ≡ true = may_lead code w a (shows_world w a pic) p may in
        record {
          able = able_now;
          ok = choices_keep_worlds (scopes_of tree) w p fit pic.2 goes;
          others = λ i stands other low. others_keep_low (scopes_of tree) w p i fit pic.2 goes stands other low;
          making = λ i makes. making_is_low (scopes_of tree) w p i fit pic.2 goes makes;
        }

    pub simulation : Simulates tree code (PicturesSome tree code texts)
    simulation =
        record {
          first = (first, some_first, first_world_stands (scopes_of tree) outer);
          plain = λ w a b p pic e t. ((pic.0.0, through_plain tree code texts performed limits w (settled_does w pic.2) pic.0.0 a b p pic.0.1 e t), pic.1, pic.2);
          act = λ w a b p pic may x.
              let one : IsAble tree code texts w pic.0.0 a pic.0.1 p = able_one tree code texts w pic.0.0 a pic.0.1 p (able_acts a p may) in
              acted w pic.2 pic.0.0 a pic.0.1 p (some_after w pic.2 pic.0.0 a pic.0.1 p pic.1) (may_then w a p pic may one.able_now) one x (operator_of w pic.2 pic.0.0 a pic.0.1 p one);
          come = λ w a p pic may. comes w pic.2 pic.0.0 a pic.0.1 p (able_one tree code texts w pic.0.0 a pic.0.1 p (able_acts a p may));
          few = λ w a b p n pic plains. few_operators w pic.0.0 a pic.0.1 b p n plains;
          shows = shows_world;
          fits = λ w a pic.
              record {
                light = is_light tree code texts w pic.0.0 a pic.0.1;
                heavy = λ p t. limit_is_heavy w pic.2 pic.0.0 a pic.0.1 p t;
              };
          apart = λ w a pic p q x r touches lives private. apart w pic.0.0 a pic.0.1 pic.2 p q x r touches lives private;
        }

    -- so the code is faithful to the source
    pub code_is_faithful : HasSegments tree code → HasFormats tree code → IsShortSegment tree code → IsListable code → Faithful tree code
    code_is_faithful = simulations_are_faithful tree code (PicturesSome tree code texts) simulation

    -- each image to which a run leads pictures some world
    pub pictured : (schedule tails : List ℕ) (img : Image) → TableRun code schedule tails img → (world : World) × PicturesSome tree code texts world img
    pictured schedule tails img run =
        let before = related tree code (PicturesSome tree code texts) simulation run.runs in
        (before.world, tails_through tree code (PicturesSome tree code texts) simulation before.world before.pictures run.after)

    -- so stacks stay own
    pub stacks_stay : StacksApart tree code texts → StacksStayOwn code
    stacks_stay stacks schedule tails img run p q r x lives nobody touches same =
        let pic = pictured schedule tails img run in
        stacks pic.0 pic.1.0.0 img pic.1.0.1 pic.1.2 p q r x lives nobody touches same
