-- A plain operator leaves an image of the same world.
use Rattle.std.proofs.Common.{◌≡◌, ◌≢◌, ◌⊎◌, inl, inr, refl, sym, ap, ◌∙◌, subst, ℕ, ◌<◌, ◌≤◌, List, [], ◌∷◌, length, length-append, Option, Some, None, Bool, true, false, arith}
use Rattle.b67_list.proofs.Numbers.{none_some}
use Rattle.b67_list.proofs.Truths.{true_false}
use Rattle.b67_scenes.proofs.Prelude.{if◌then◌else◌, numbered, PProgram, scopes_of, Part, Process, lives, World, Place, place_at, Code, stack_at, stack_limit, Effect, interrupts, Image, is_live, plain, by_registers, stack_length, BadCode as bad_code, Texts, steps_stay_above, Core, HasCore, with_core, size, CoreSteps, Above, length_set_numbered, some_same, same_or_not, numbered_beyond, most_or_more, Layout, CriticalIs, TaskIs, Living, Pictured, living, dead, PicturesBy, ReachesFor, StateIs}
use Rattle.b67_table.specs.Outcome.{gives}
use Rattle.b67_table.specs.Outcome as outcomes
use Rattle.b67_table.specs.Table.{table, raw}
use Rattle.b67_table.specs.Runs.{Plains, stay, go}
use Rattle.b67_cores.specs.Cores.{CoreStep, here, onward}
use Rattle.b67_cores.specs.Stretches.{StepsArePerformed, StepsComeToLimit, Performed}
use Rattle.b67_faithful.proofs.Contradictions.{gives_same}
use Rattle.b67_scenes.specs.Reaches as reaching
use Rattle.b67_scenes.proofs.Kept.{living_there}

-- one plain operator
pub first_of : {code : Code} {p : ℕ} {a : Image} {n : ℕ} {c : Image} → Plains code p a n c → n ≡ 1 → (plain code a p ≡ true) × (table code a p ≡ gives c)
first_of stay e = absurd (omega (arith, e))
first_of (go x t stay) e = (x, t)
first_of (go x t (go y u l)) e = absurd (omega (arith, e))

-- a process that does not live, or is not there, has no operator
pub no_operator : {B : Type 0} (code : Code) (img new : Image) (p : ℕ) → is_live (numbered img.states p) ≡ false → table code img p ≡ gives new → B
unfolding table raw
no_operator code img new p gone t = by_live (is_live (numbered img.states p)) (by_registers code img p (numbered img.regs p)) gone t
  where
    by_live : {C : Type 0} (live : Bool) (x : Effect Image) → live ≡ false → outcomes.limited (stack_length p) (if live then x else interrupts bad_code) ≡ gives new → C
    by_live true x f h = true_false refl f
    by_live false x f h = cc

pub steps_fit : {code : Code} {bound n : ℕ} {a b : Core} → CoreSteps code bound n a b → size a ≤ bound
steps_fit (here s) = s
steps_fit (onward s step l) = s

-- what one step of a core does in an image whose stacks have room for it
pub stepped : StepsArePerformed → (code : Code) (p : ℕ) (img : Image) (a b : Core) → HasCore img p a → size a ≤ stack_limit → size b ≤ stack_limit → CoreStep code a b →
    Performed code p img 1 a b × (plain code img p ≡ true) × (table code img p ≡ gives (with_core img p b))
stepped performed code p img a b has fits_a fits_b step =
    let d = performed code p stack_limit 1 img a b (omega arith) has (onward fits_a step (here fits_b)) in
    let one = first_of d.plains refl in
    (d, one.0, one.1)

pub within_or_beyond : (n : ℕ) → (n ≤ stack_limit) ⊎ (stack_limit < n)
within_or_beyond n = most_or_more n stack_limit

module _ (performed : StepsArePerformed) (tree : PProgram) (code : Code) (texts : Texts) where
  module _ (w : World) (lay : Layout) (img : Image) where
    -- another process's operator leaves a process as it is
    kept : (p : ℕ) (b : Core) (q : ℕ) (r : Process) → ((core : Core) → HasCore img q core → HasCore (with_core img p b) q core) →
        Pictured tree code texts w lay img q r → Pictured tree code texts w lay (with_core img p b) q r
    kept p b q r keeps (living a s l) =
        living a s (living_there tree code texts w lay img (with_core img p b) q r r.state r.woken l (keeps l.core l.has))
    kept p b q r keeps (dead e s) = dead e s

-- the first of these steps, where the last core is another one
first_step : {code : Code} {bound n : ℕ} {a b : Core} → CoreSteps code bound n a b → (a ≡ b → ⊥) → (m : ℕ) × (c : Core) × CoreStep code a c × CoreSteps code bound m c b
first_step (here s) apart = absurd (apart refl)
first_step (onward {n} {b = c} s step l) apart = (n, c, step, l)

-- the image in which a process has this core instead, after a step, all else being as it was
pub record Nearer (tree : PProgram) (code : Code) (texts : Texts) (w : World) (lay : Layout) (a : Image) (core : Core) (p : ℕ) (q : Process) (before : Living tree code texts w lay a p q) : Type 0 where
  pub lives_so : Living tree code texts w lay (with_core a p core) p q
  pub core_is : lives_so.core ≡ core
  pub bound_is : lives_so.bound ≡ before.bound
  pub settled_is : lives_so.settled ≡ before.settled
  pub others : (r : ℕ) (other : Core) → r ≢ p → HasCore a r other → HasCore (with_core a p core) r other
  pub system : stack_at (with_core a p core).stacks 0 ≡ stack_at a.stacks 0

module _ (performed : StepsArePerformed) (limits : StepsComeToLimit) (tree : PProgram) (code : Code) (texts : Texts) (w : World) (lay : Layout) (a : Image) (p : ℕ) where
  -- others may look at no less of its innermost frame
  nearer_reaches : (settled now : Core) (parts : List Part) (c : Core) → (length now.below ≤ length c.below) × (length c.below ≤ length settled.below) → ReachesFor (scopes_of tree) w lay p parts now settled →
      ReachesFor (scopes_of tree) w lay p parts c settled
  nearer_reaches settled now [] c far reaches = reaches
  nearer_reaches settled now (part ∷ outer) c far (reaching.all same) = reaching.all (omega (arith, far.0, far.1, same))
  nearer_reaches settled now (part ∷ outer) c far (reaching.low at owns laid enough is_low) =
      reaching.low at owns laid (omega (arith, enough, far.0)) is_low
  nearer_reaches settled now (part ∷ outer) c far (reaching.none_yet at owns laid enough free) = reaching.none_yet at owns laid (omega (arith, enough, far.0)) free

  above_step : {q : Process} (l : Living tree code texts w lay a p q) (c : Core) (n : ℕ) → CoreStep code l.core c → CoreSteps code l.bound n c l.settled → (length l.core.below ≤ length c.below) × (length c.below ≤ length l.settled.below)
  above_step l c n step more =
      let first : Above code l.bound 1 l.core c = steps_stay_above code l.bound 1 l.core c l.has.is (onward (steps_fit l.steps) step (here (steps_fit more))) in
      let rest : Above code l.bound n c l.settled = steps_stay_above code l.bound n c l.settled step.is more in (
        omega (arith, ap length first.below, length-append l.core.below first.cells),
        omega (arith, ap length rest.below, length-append c.below rest.cells),
      )

  -- a step of a process that lives has been made
  pub step_made : (q : Process) → numbered w.processes p ≡ Some q → (l : Living tree code texts w lay a p q) → (c : Core) (n : ℕ) → CoreStep code l.core c → CoreSteps code l.bound n c l.settled → size c ≤ stack_limit →
      Nearer tree code texts w lay a c p q l
  step_made q at l c n step more fits =
      let done = stepped performed code p a l.core c l.has l.small fits step in
      record {
        lives_so = record {
          core = c;
          has = done.0.has;
          critical = subst (λ (o : Option Place). CriticalIs lay q.critical o) (sym done.0.kept.5) l.critical;
          task = subst (λ (o : Option Place). TaskIs (scopes_of tree) w lay q.task o) (sym done.0.kept.4) l.task;
          sees = ap (λ d. place_at d 0) done.0.kept.2 ∙ l.sees;
          small = fits;
          settled = l.settled;
          bound = l.bound;
          count = n;
          steps = more;
          frames = l.frames;
          reaches = nearer_reaches l.settled l.core q.todo c (above_step l c n step more) l.reaches;
          room = l.room;
          light = l.light;
        };
        core_is = refl;
        bound_is = refl;
        settled_is = refl;
        others = λ r core other has. (done.0.others r core other).0 has;
        system = done.0.stacks 0 (λ (e : 0 ≡ p). none_some (ap (λ (n : ℕ). numbered w.processes n) e ∙ at));
      }

  -- the image pictures the same world after that
  pub pictured_nearer : (c : Core) (q : Process) → numbered w.processes p ≡ Some q → PicturesBy tree code texts w lay a → lives q.state ≡ true → StateIs (scopes_of tree) w lay q.state (numbered a.states p) → (l : Living tree code texts w lay a p q) → Nearer tree code texts w lay a c p q l →
      PicturesBy tree code texts w lay (with_core a p c)
  pictured_nearer c q at by able_is s l n =
      record {
        laid = by.laid;
        arrays = by.arrays;
        events = by.events;
        waits = record { numbers = by.waits.numbers; woken = by.waits.woken; lists = by.waits.lists; awaiting = by.waits.awaiting };
        output = by.output;
        fault = by.fault;
        started = by.started;
        counted = length_set_numbered a.regs p c.registers ∙ by.counted;
        few = by.few;
        states = by.states;
        system = n.system ∙ by.system;
        each = λ r o e. each_of r o e (same_or_not r p);
      }
    where
      each_of : (r : ℕ) (o : Process) → numbered w.processes r ≡ Some o → (r ≡ p) ⊎ (r ≢ p) → Pictured tree code texts w lay (with_core a p c) r o
      each_of r o e (inr other) = kept performed tree code texts w lay a p c r o (λ core has. n.others r core other has) (by.each r o e)
      each_of r o e (inl same) =
          let own : q ≡ o = some_same (sym at ∙ ap (λ (n : ℕ). numbered w.processes n) (sym same) ∙ e) in
          subst (λ (x : Process). Pictured tree code texts w lay (with_core a p c) r x) own
          (subst (λ (k : ℕ). Pictured tree code texts w lay (with_core a p c) k q) (sym same) (living able_is s n.lives_so))

module _ (performed : StepsArePerformed) (limits : StepsComeToLimit) (tree : PProgram) (code : Code) (texts : Texts) (w : World) (lay : Layout) (a b : Image) (p : ℕ) (is_plain : plain code a p ≡ true) (gives_b : table code a p ≡ gives b) where
  -- a process whose own operator it was has one step less before it
  nearer : (q : Process) → numbered w.processes p ≡ Some q → (l : Living tree code texts w lay a p q) → (HasCore a p l.settled → plain code a p ≡ false) →
      (c : Core) × (b ≡ with_core a p c) × Nearer tree code texts w lay a c p q l
  nearer q at l quiet =
      let first = first_step l.steps (λ e. true_false is_plain (quiet (subst (λ (x : Core). HasCore a p x) e l.has))) in
      by_size first (within_or_beyond (size first.1))
    where
      by_size : (first : (m : ℕ) × (c : Core) × CoreStep code l.core c × CoreSteps code l.bound m c l.settled) → (size first.1 ≤ stack_limit) ⊎ (stack_limit < size first.1) →
          (c : Core) × (b ≡ with_core a p c) × Nearer tree code texts w lay a c p q l
      by_size first (inl fits) =
          let done = stepped performed code p a l.core first.1 l.has l.small fits first.2 in
          (first.1, gives_same gives_b done.2, step_made performed limits tree code texts w lay a p q at l first.1 first.0 first.2 first.3 fits)
      by_size first (inr long) = true_false is_plain (limits code p a l.core first.1 l.has first.2 long).1

  abbrev pub Quiet : Type 0
  Quiet =
      (q : Process) → numbered w.processes p ≡ Some q → lives q.state ≡ true → StateIs (scopes_of tree) w lay q.state (numbered a.states p) → (l : Living tree code texts w lay a p q) → HasCore a p l.settled → plain code a p ≡ false

  moved : (q : Process) → numbered w.processes p ≡ Some q → PicturesBy tree code texts w lay a → Quiet → Pictured tree code texts w lay a p q → PicturesBy tree code texts w lay b
  moved q at by quiet (dead e s) = no_operator code a b p (ap is_live s) gives_b
  moved q at by quiet (living able_is s l) =
      let n = nearer q at l (quiet q at able_is s l) in
      subst (λ (i : Image). PicturesBy tree code texts w lay i) (sym n.1) (pictured_nearer performed limits tree code texts w lay a p n.0 q at by able_is s l n.2)

  pub plain_pictured : PicturesBy tree code texts w lay a → Quiet → PicturesBy tree code texts w lay b
  plain_pictured by quiet = found (numbered w.processes p) refl
    where
      found : (o : Option Process) → numbered w.processes p ≡ o → PicturesBy tree code texts w lay b
      found (Some q) e = moved q e by quiet (by.each p q e)
      found None e = no_operator code a b p (ap is_live (numbered_beyond w.processes a.states p by.states e)) gives_b
