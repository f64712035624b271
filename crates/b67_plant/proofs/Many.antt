-- Entries of a process one after another, on a plant: what stands before the last one.
use Rattle.std.specs.Prelude.{IfSome, slice_get}
use Rattle.std.proofs.Common.{◌≡◌, refl, sym, ap, subst, ◌∙◌, ℕ, zero, suc, ◌+◌, ◌-◌, ◌≤◌, ◌<◌, true, false, List, [], ◌∷◌, ◌++◌, length, length-append, take, get_or, replicate, Option, Some, None, arith}
use Rattle.std.proofs.lemmas.List.{length-take-le}
use Rattle.b67_deeds.specs.declared.Letter.{Letter}
use Rattle.b67_segment.specs.declared.code.Code.{Code}
use Rattle.b67_schedule.specs.Schedules.{entries, ScheduleModel}
use Rattle.b67_limits.specs.declared.TheConstants.{MOST_BUDGET}
use Rattle.b67_table.specs.Limits.{most_processes}
use Rattle.b67_table.specs.Sound.{Sound}
use Rattle.b67_action.specs.declared.done.Done.{Done}
use Rattle.b67_action.specs.declared.done.Done.TheVariants as dones
use Rattle.b67_machine.specs.declared.entry.Performed.{Performed}
use Rattle.b67_machine.specs.declared.entries.Entered.{Entered}
use Rattle.b67_machine.specs.Entries.{EntriesFollow, stay, go, PerformsEntries}
use Rattle.b67_machine.specs.Kept.{MachineModel}
use Rattle.b67_machine.specs.Stepping.{operators_in, MachineFollows, MachinePerforms}
use Rattle.b67_ready.specs.Ready.{Ready}
use Rattle.b67_processors.specs.Acts.{IsActed}
use Rattle.b67_plant.specs.Calls.{answer_to}
use Rattle.b67_stands.specs.Calls.{done_is_action, LetterNoted, ActsOnce}
use Rattle.b67_stands.specs.Running.{Running, answer_of}
use Rattle.b67_stands.specs.Placing.{holder_of}
use Rattle.b67_stands.specs.Picked.{Pick}
use Rattle.b67_stands.specs.Stands.{Stands}
use Rattle.b67_stands.specs.Turns.{ActsOn, ActsMany, StandsOut}
use Rattle.b67_stands.specs.Turns as turns
use Rattle.b67_stands.proofs.Ends.{goes_on}
use Rattle.b67_stands.proofs.Turns.{turned, Grown, turns_are, stands_on}
use Rattle.b67_plant.proofs.Entered.{entries_spent, held_number}

-- each entry has an operator at least
enters_few : (p most : ℕ) (ls : List Letter) (m : ℕ) (a b : MachineModel) → EntriesFollow p most a ls m b → length ls ≤ m
enters_few p most ls m a b stay = omega arith
enters_few p most ls m a b (go {b = c} {ls = is} {l = l} {m = j} enters more) =
    let before = enters_few p most is j a c enters in
    omega (arith, before, length-append is (l ∷ []))

-- and nobody is started
enters_same : (p most : ℕ) (ls : List Letter) (m : ℕ) (a b : MachineModel) → EntriesFollow p most a ls m b → b.image.started ≡ a.image.started
enters_same p most ls m a b stay = refl
enters_same p most ls m a b (go {b = c} {ls = is} {m = j} enters more) = more.started ∙ enters_same p most is j a c enters

-- no more plain operators than were allowed
plain_most : (old : MachineModel) (p most : ℕ) (performed : Performed) (new : MachineModel) → MachinePerforms old p most performed new → performed.plain ≤ most
plain_most old p most performed new k = by performed.done k.then
  where
    by : (o : Option Done) → MachineFollows k.between p performed.plain most o new → performed.plain ≤ most
    by None f = omega (arith, f.0)
    by (Some done) f = omega (arith, f.0)

-- no turns change nothing
none_between : (pick : Pick) (budget me p n : ℕ) (a b : Running) → ActsOn pick budget me p a n b → n ≤ 0 → a ≡ b
none_between pick budget me p n a b turns.stay h = refl
none_between pick budget me p n a b (turns.go acts more) h = absurd (omega (arith, h))

pub only_last : (pick : Pick) (budget p n : ℕ) (old : Running) (performed : Performed) (new : Running) → n ≤ 0 → ActsMany pick budget old p n performed new
    → ActsOnce budget old p performed new
only_last pick budget p n old performed new h many =
    subst (λ (s : Running). ActsOnce budget s p performed new) (sym (none_between pick budget (holder_of old.out p) p n old many.between many.acts h)) many.last

-- where one waits, that one is picked
pub one_picked : {P : Type 0} (choose : P → ℕ → ℕ → ℕ) (pick : Pick) (rule : P) → ((r : P) (length takes : ℕ) → 0 < length → choose r length takes < length)
    → ((n takes : ℕ) → choose rule n takes ≡ pick n takes) → (takes : ℕ) → pick 1 takes ≡ 0
one_picked choose pick rule within same takes = let w = within rule 1 takes (omega arith) in omega (arith, w, same 1 takes)

-- a queue of which only the count of takes is another
pub record SameQueue {P : Type 0} (old new : Ready P) (n : ℕ) : Type 0 where
  pub rule : new.rule ≡ old.rule
  pub waiting : new.waiting ≡ old.waiting
  pub takes : new.takes ≡ n
  pub room : new.room ≡ old.room

pub same_queue : {P : Type 0} (old new : Ready P) (n : ℕ) → new ≡ record old { takes = n } → SameQueue old new n
same_queue {P} old new n e = record {
  rule = ap (λ (r : Ready P). r.rule) e;
  waiting = ap (λ (r : Ready P). r.waiting) e;
  takes = ap (λ (r : Ready P). r.takes) e;
  room = ap (λ (r : Ready P). r.room) e;
}

-- the first of the first ones
first_first : (ls : List Letter) (n m : ℕ) → n < length (take m ls) → take n ls ≡ take n (take m ls)
first_first ls zero m h = refl
first_first ls (suc n) zero h = absurd (omega (arith, h))
first_first [] (suc n) (suc m) h = absurd (omega (arith, h))
first_first (l ∷ ls) (suc n) (suc m) h = ap (λ (xs : List Letter). l ∷ xs) (first_first ls n m (omega (arith, h)))

-- what was put on the schedule are the letters of the part that was lent
pub grown_by : (old new : ScheduleModel) (p : ℕ) (now notes : List Letter) (most n : ℕ) → now ≡ notes → n < length (take most notes)
    → entries new.runs ≡ entries old.runs ++ replicate (length (take n now)) p → new.letters ≡ old.letters ++ take n now → (take n now ≡ [] → new ≡ old)
    → Grown old p (take n (take most notes)) new
grown_by old new p now notes most n is few added noted none =
    let same : take n now ≡ take n (take most notes) = ap (λ (ls : List Letter). take n ls) is ∙ first_first notes n most few in
    record {
      added = added ∙ ap (λ (ls : List Letter). entries old.runs ++ replicate (length ls) p) same;
      letters = noted ∙ ap (λ (ls : List Letter). old.letters ++ ls) same;
      none = λ e. none (same ∙ e);
    }

-- the first letters are at most as many as are asked for, and as there are
pub first_few : (ls : List Letter) (n : ℕ) → length (take n ls) ≤ n
first_few ls zero = omega arith
first_few [] (suc n) = omega arith
first_few (l ∷ ls) (suc n) = omega (arith, first_few ls n)

pub first_within : (ls : List Letter) (n : ℕ) → length (take n ls) ≤ length ls
first_within ls zero = omega arith
first_within [] (suc n) = omega arith
first_within (l ∷ ls) (suc n) = omega (arith, first_within ls n)

-- the letter of an action that was performed is that which was found
letter_there : (before notes : List Letter) (most n : ℕ) (found : Letter) (kept : Option Letter) (after : List Letter) → n < length (take most notes)
    → found ≡ get_or notes n found → slice_get (take most notes) n ≡ kept → after ≡ before ++ found ∷ [] → LetterNoted before kept after
letter_there before notes zero n found kept after less e f g = absurd (omega (arith, less))
letter_there before [] (suc most) n found kept after less e f g = absurd (omega (arith, less))
letter_there before (l ∷ notes) (suc most) zero found kept after less e f g =
    subst (λ (o : Option Letter). LetterNoted before o after) f (g ∙ ap (λ (x : Letter). before ++ x ∷ []) e)
letter_there before (l ∷ notes) (suc most) (suc n) found kept after less e f g = letter_there before notes most n found kept after (omega (arith, less)) e f g

pub letter_noted : (o : Option Done) → done_is_action o ≡ true → (before notes : List Letter) (most n : ℕ) (found : Letter) (kept : Option Letter) (after : List Letter)
    → n < length (take most notes) → found ≡ get_or notes n found → IfSome o (λ done. operators_in done ≡ 1 → slice_get (take most notes) n ≡ kept)
    → after ≡ before ++ found ∷ [] → LetterNoted before kept after
letter_noted None a before notes most n found kept after less e f g = cc
letter_noted (Some dones.Went) a before notes most n found kept after less e f g = letter_there before notes most n found kept after less e (f refl) g
letter_noted (Some dones.Waits) a before notes most n found kept after less e f g = letter_there before notes most n found kept after less e (f refl) g
letter_noted (Some dones.Ended) a before notes most n found kept after less e f g = letter_there before notes most n found kept after less e (f refl) g
letter_noted (Some (dones.Fault kind)) a before notes most n found kept after less e f g = letter_there before notes most n found kept after less e (f refl) g
letter_noted (Some (dones.Interrupt kind)) a before notes most n found kept after less e f g = cc
letter_noted (Some dones.StackLimit) a before notes most n found kept after less e f g = cc
letter_noted (Some dones.NoMemory) a before notes most n found kept after less e f g = cc

-- an act is counted where an action was performed
pub counts_none : (o : Option Done) (n : ℕ) → done_is_action o ≡ false → IsActed (answer_to o) n n
counts_none None n e = refl
counts_none (Some dones.Went) n e = cc
counts_none (Some dones.Waits) n e = cc
counts_none (Some dones.Ended) n e = cc
counts_none (Some (dones.Fault kind)) n e = cc
counts_none (Some (dones.Interrupt kind)) n e = refl
counts_none (Some dones.StackLimit) n e = refl
counts_none (Some dones.NoMemory) n e = refl

pub counts_one : (o : Option Done) (n : ℕ) → done_is_action o ≡ true → IsActed (answer_to o) n (n + 1)
counts_one None n e = cc
counts_one (Some dones.Went) n e = refl
counts_one (Some dones.Waits) n e = refl
counts_one (Some dones.Ended) n e = refl
counts_one (Some (dones.Fault kind)) n e = refl
counts_one (Some (dones.Interrupt kind)) n e = cc
counts_one (Some dones.StackLimit) n e = cc
counts_one (Some dones.NoMemory) n e = cc

module _ (code : Code) (budget : ℕ) (pick : Pick) (old : Running) (p : ℕ) (noted : List Letter) (b : ℕ) (entered : Entered) (new : MachineModel) (sound : Sound code) (stands : Stands code budget old)
    (going : answer_of budget old ≡ None) (held : 1 ≤ holder_of old.out p) (alone : 1 < length noted → old.waiting ≡ []) (is : b ≡ budget) (small : b ≤ MOST_BUDGET)
    (first : (takes : ℕ) → pick 1 takes ≡ 0) (performs : PerformsEntries old.machine p (b - old.spent) entered noted new) where
  pub number : (1 ≤ p) × (p ≤ most_processes)
  number = held_number code budget old p stands going held

  pub less : old.spent < b
  less = omega (arith, is, (goes_on budget old going).less)

  pub operators_few : entered.operators < b - old.spent
  operators_few = performs.less (omega (arith, less))

  -- the letters of those that went on
  abbrev pub first_letters : List Letter
  first_letters = take entered.entries noted

  size : length first_letters ≡ entered.entries
  size = length-take-le entered.entries noted (omega (arith, performs.few))

  pub entries_few : entered.entries ≤ entered.operators
  entries_few = omega (arith, size, enters_few p (b - old.spent) first_letters entered.operators old.machine performs.between performs.enters)

  pub started_same : performs.between.image.started ≡ old.machine.image.started
  started_same = enters_same p (b - old.spent) first_letters entered.operators old.machine performs.between performs.enters

  pub spent_few : length (entries old.schedule.runs) ≤ old.spent
  spent_few = entries_spent code budget old stands

  -- no operator is above the budget
  pub within : old.spent + entered.operators + entered.last.plain ≤ b
  within =
      let last = plain_most performs.between p (b - old.spent - entered.operators) entered.last new performs.performs in
      omega (arith, last, operators_few, less)

  abbrev pub between : ScheduleModel → Running
  between s = turned old entered.entries entered.operators performs.between s

  module _ (s : ScheduleModel) (grown : Grown old.schedule p first_letters s) where
    pub acts_on : ActsOn pick budget (holder_of old.out p) p old entered.entries (between s)
    acts_on =
        subst (λ (n : ℕ). ActsOn pick budget (holder_of old.out p) p old n (turned old n entered.operators performs.between s)) size
        (turns_are budget pick (holder_of old.out p) p old first number.0 (omega (arith, number.1, stands.holders)) refl first_letters entered.operators performs.between s
        (subst (λ (n : ℕ). EntriesFollow p (n - old.spent) old.machine first_letters entered.operators performs.between) is performs.enters) grown
        (λ h. alone (omega (arith, h, size, performs.few))) (λ h. omega (arith, is, operators_few)))

    pub stands_then : StandsOut code budget p (between s)
    stands_then =
        stands_on code budget pick (holder_of old.out p) p entered.entries old (between s) sound held (record { stands = stands; going = going; out = held }) acts_on

    pub last_performs : MachinePerforms performs.between p (b - (old.spent + entered.operators)) entered.last new
    last_performs =
        let left : b - old.spent - entered.operators ≡ b - (old.spent + entered.operators) = omega arith in
        subst (λ (n : ℕ). MachinePerforms performs.between p n entered.last new) left performs.performs

    pub entries_then : length (entries s.runs) ≤ old.spent + entered.operators
    entries_then = entries_spent code budget (between s) stands_then.stands
