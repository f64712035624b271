-- The next entries of a process in a replay, once they are performed.
use Rattle.std.specs.Prelude.{replicate, slice_get}
use Rattle.std.proofs.Common.{◌≡◌, refl, sym, ap, subst, ◌∙◌, ◌⊎◌, inl, inr, ℕ, ◌+◌, ◌-◌, ◌≤◌, ◌<◌, true, List, [], ◌∷◌, ◌++◌, length, take, Option, Some, None, append-nil, append_assoc, length-append, arith}
use Rattle.std.proofs.lemmas.List.{length-replicate, length-take-le}
use Rattle.b67_list.specs.Numbered.{numbered}
use Rattle.b67_deeds.specs.declared.Letter.{Letter}
use Rattle.b67_segment.specs.declared.code.Code.{Code}
use Rattle.b67_table.specs.Image.{is_able}
use Rattle.b67_table.specs.Sound.{Sound}
use Rattle.b67_table.specs.Valid.{IsValid}
use Rattle.b67_action.specs.declared.done.Done.{Done}
use Rattle.b67_action.specs.declared.done.Done.TheVariants.{Went}
use Rattle.b67_machine.specs.declared.entries.Entered.{Entered}
use Rattle.b67_machine.specs.declared.entry.Performed.{Performed}
use Rattle.b67_machine.specs.declared.replay.Replayed.{Replayed}
use Rattle.b67_machine.specs.Entries.{EntriesFollow, stay, go, PerformsEntries}
use Rattle.b67_machine.specs.Kept.{MachineModel}
use Rattle.b67_machine.specs.Reads.{machine_end}
use Rattle.b67_machine.specs.Replaying.{Between, Advances, StopsBefore, within_entry}
use Rattle.b67_machine.specs.Stepping.{MachinePerforms, MachineFollows}
use Rattle.b67_machine.proofs.Entering.{Comes, FollowsOn, HasState, comes, performed_state, ends_within, goes_through, last_noted, done_within, number_within}
use Rattle.b67_machine.proofs.Agreeing.{noted_length}
use Rattle.b67_machine.proofs.Following.{more_of_run, ends_in_run}
use Rattle.b67_machine.proofs.Noting.{first_noted}

-- these entries are performed, and a process is able in a run without an end
pub record IsNext (code : Code) (done : List ℕ) (noted : List Letter) (spent p : ℕ) (m : MachineModel) : Type 0 where
  pub between : Between code done noted spent m
  pub going : machine_end m ≡ None
  pub able : is_able (numbered m.image.states p) ≡ true

next_is : (code : Code) (p : ℕ) (m : MachineModel) (a b : List ℕ) (x y : List Letter) (s t : ℕ) → a ≡ b → x ≡ y → s ≡ t → IsNext code a x s p m → IsNext code b y t p m
next_is code p m a b x y s t e g f h =
    subst (λ (xs : List ℕ). IsNext code xs y t p m) e (subst (λ (ls : List Letter). IsNext code a ls t p m) g (subst (λ (k : ℕ). IsNext code a x k p m) f h))

-- a letter is one
pub one_letter : (a b : Letter) (o : Option Letter) → o ≡ Some a → o ≡ Some b → a ≡ b
one_letter a b o e f = cc

module _ (code : Code) (budget : ℕ) (done : List ℕ) (noted : List Letter) (spent p : ℕ) (sound : Sound code) (m : MachineModel) (start : IsNext code done noted spent p m) where
  -- after entries that go on
  goes_by : (ls : List Letter) (k : ℕ) (a : MachineModel) → EntriesFollow p (budget - spent) m ls k a → IsNext code (done ++ replicate (length ls) p) (noted ++ ls) (spent + k) p a
  goes_by ls k a stay = next_is code p m done (done ++ []) noted (noted ++ []) spent (spent + 0) (sym (append-nil done)) (sym (append-nil noted)) (omega arith) start
  goes_by ls k c (go {b = b} {ls = is} {l = named} {m = j} {k = l} enters more) =
      let s = goes_by is j b enters in
      let few = more.performs.then.0 in
      let left : budget - spent - j ≡ budget - (spent + j) = omega arith in
      let performed : Performed = record { plain = l; done = Some Went } in
      let x = comes code budget (done ++ replicate (length is) p) (noted ++ is) (spent + j) b p performed c sound s.between s.going s.able (omega (arith, few))
      (subst (λ (most : ℕ). MachinePerforms b p most performed c) left more.performs) in
      let size : length (is ++ named ∷ []) ≡ length is + 1 = length-append is (named ∷ []) in
      next_is code p c ((done ++ replicate (length is) p) ++ p ∷ []) (done ++ replicate (length (is ++ named ∷ [])) p) ((noted ++ is) ++ x.l ∷ []) (noted ++ (is ++ named ∷ []))
      (spent + j + l + 1) (spent + (j + (l + 1)))
      (more_of_run done (done ++ replicate (length is) p) p (length is) 1 (length (is ++ named ∷ [])) refl size)
      (ap (λ (y : Letter). (noted ++ is) ++ y ∷ []) (one_letter x.l named c.letter x.letter more.letter) ∙ append_assoc noted is (named ∷ []))
      (omega arith)
      (record { between = x.between; going = more.ends; able = more.still })

  module _ (entered : Entered) (all : List Letter) (new : MachineModel) (less : spent < budget) (h : PerformsEntries m p (budget - spent) entered all new) where
    abbrev pub passed : List ℕ
    passed = done ++ replicate entered.entries p

    -- the letters of those that went on
    abbrev pub first : List Letter
    first = take entered.entries all

    size : length first ≡ entered.entries
    size = length-take-le entered.entries all (omega (arith, h.few))

    next : IsNext code passed (noted ++ first) (spent + entered.operators) p h.between
    next = subst (λ (n : ℕ). IsNext code (done ++ replicate n p) (noted ++ first) (spent + entered.operators) p h.between) size (goes_by first entered.operators h.between h.enters)

    pub operators_less : spent + entered.operators < budget
    operators_less = omega (arith, less, h.less (omega (arith, less)))

    performs : MachinePerforms h.between p (budget - (spent + entered.operators)) entered.last new
    performs =
        let left : budget - spent - entered.operators ≡ budget - (spent + entered.operators) = omega arith in
        subst (λ (most : ℕ). MachinePerforms h.between p most entered.last new) left h.performs

    last_comes : Comes code budget passed (noted ++ first) (spent + (entered.operators + entered.last.plain)) p new entered.last.done
    last_comes =
        let sum : spent + entered.operators + entered.last.plain ≡ spent + (entered.operators + entered.last.plain) = omega arith in
        subst (λ (k : ℕ). Comes code budget passed (noted ++ first) k p new entered.last.done) sum
        (comes code budget passed (noted ++ first) (spent + entered.operators) h.between p entered.last new sound next.between next.going next.able operators_less performs)

    pub state : HasState p new.image
    state = performed_state code budget passed (noted ++ first) (spent + entered.operators) h.between p entered.last new next.between next.going next.able performs

    -- no more entries than operators
    pub passed_few : length passed ≤ spent + entered.operators
    passed_few = done_within code passed (noted ++ first) (spent + entered.operators) h.between next.between

    pub passed_length : length passed ≡ length done + entered.entries
    passed_length = length-append done (replicate entered.entries p) ∙ ap (λ (n : ℕ). length done + n) (length-replicate entered.entries p)

    -- no more operators than the budget
    pub plain_few : spent + (entered.operators + entered.last.plain) ≤ budget
    plain_few = omega (arith, operators_less, most_by entered.last.done performs.then)
      where
        most_by : (o : Option Done) → MachineFollows performs.between p entered.last.plain (budget - (spent + entered.operators)) o new
            → entered.last.plain ≤ budget - (spent + entered.operators)
        most_by None f = omega (arith, f.0)
        most_by (Some d) f = omega (arith, f.0)

    -- the replay has ended within the last of them
    pub stops_within : (times : ℕ) → entered.entries < times → (answer : Replayed) → within_entry entered.last.done ≡ Some answer → (after : ℕ)
        → Advances code budget done (replicate times p) after passed (noted ++ first) new (Some answer)
    stops_within times few answer e after =
        ends_in_run code budget done p (entered.entries + 1) times (omega (arith, few)) (passed ++ p ∷ [])
        (more_of_run done passed p entered.entries 1 (entered.entries + 1) refl refl) code refl passed (noted ++ first) new answer
        (ends_within code budget passed (noted ++ first) (spent + (entered.operators + entered.last.plain)) p new entered.last.done answer e last_comes)

    -- or all of them are performed, and the letter of the last one is noted after the others
    pub goes_on_through : within_entry entered.last.done ≡ None → FollowsOn code budget passed (noted ++ first) (spent + (entered.operators + entered.last.plain)) p new
    goes_on_through e = goes_through code budget passed (noted ++ first) (spent + (entered.operators + entered.last.plain)) p new entered.last.done e last_comes

    -- that letter is noted in its place
    pub last_letter : within_entry entered.last.done ≡ None → slice_get all entered.entries ≡ new.letter
    last_letter e =
        last_noted code budget passed (noted ++ first) (spent + (entered.operators + entered.last.plain)) p new entered.last.done (slice_get all entered.entries ≡ new.letter) e last_comes h.last

-- ---- entries that are performed at once

-- what is known of entries of a process, so many at the most, whose letters are noted in the first part of a list
pub record AtOnce (code : Code) (budget : ℕ) (done : List ℕ) (noted : List Letter) (spent p : ℕ) (entered : Entered) (part rest : List Letter) (new : MachineModel) (times : ℕ) : Type 0 where
  -- the last one is within them
  pub fits : entered.entries < times
  pub first : take entered.entries (part ++ rest) ≡ take entered.entries part
  pub count : length (take entered.entries (part ++ rest)) ≡ entered.entries
  -- there is room for the last one too
  pub room : (bound : ℕ) → (length noted + times ≤ bound) ⊎ (budget ≤ bound) → length noted + entered.entries < bound
  pub number : p ≤ 256
  pub within : spent + (entered.operators + entered.last.plain) ≤ budget
  -- the replay ends within the last one
  pub stops : (answer : Replayed) → within_entry entered.last.done ≡ Some answer → (after : ℕ)
      → Advances code budget done (replicate times p) after (done ++ replicate entered.entries p) (noted ++ take entered.entries part) new (Some answer)
  -- or it is performed, and its letter is noted after the others
  pub through : within_entry entered.last.done ≡ None
      → FollowsOn code budget (done ++ replicate entered.entries p) (noted ++ take entered.entries part) (spent + (entered.operators + entered.last.plain)) p new
  pub last : within_entry entered.last.done ≡ None → slice_get part entered.entries ≡ new.letter

pub at_once : (code : Code) (budget : ℕ) (done : List ℕ) (noted : List Letter) (spent p : ℕ) → Sound code → (m : MachineModel) → Between code done noted spent m → StopsBefore m p budget spent (length done + 1) None
    → (entered : Entered) (part rest : List Letter) (new : MachineModel) → PerformsEntries m p (budget - spent) entered part new → IsValid new.code new.image → (times most : ℕ) → length part ≡ most → most ≤ times
    → AtOnce code budget done noted spent p entered part rest new times
at_once code budget done noted spent p sound m between before entered part rest new h valid times most size few =
    let start : IsNext code done noted spent p m = record { between = between; going = before.0; able = before.2 } in
    let here = first_noted part rest entered.entries (omega (arith, h.few)) in
    let fits : entered.entries < times = omega (arith, h.few, size, few) in
    let entries = passed_few code budget done noted spent p sound m start entered part new before.1 h in
    let passed = passed_length code budget done noted spent p sound m start entered part new before.1 h in
    let less = operators_less code budget done noted spent p sound m start entered part new before.1 h in
    let long = noted_length code done noted spent m between in
    record {
      fits = fits;
      first = here;
      count = ap length here ∙ length-take-le entered.entries part (omega (arith, h.few));
      room = λ bound r. room_for (length noted) (length noted + entered.entries) bound budget times r (omega (arith, fits)) (omega (arith, entries, passed, less, long));
      number = number_within new.code new.image p valid (state code budget done noted spent p sound m start entered part new before.1 h);
      within = plain_few code budget done noted spent p sound m start entered part new before.1 h;
      stops = stops_within code budget done noted spent p sound m start entered part new before.1 h times fits;
      through = goes_on_through code budget done noted spent p sound m start entered part new before.1 h;
      last = last_letter code budget done noted spent p sound m start entered part new before.1 h;
    }
  where
    room_for : (a b c most times : ℕ) → (a + times ≤ c) ⊎ (most ≤ c) → b < a + times → b < most → b < c
    room_for a b c most times (inl h) few less = omega (arith, h, few)
    room_for a b c most times (inr h) few less = omega (arith, h, less)
