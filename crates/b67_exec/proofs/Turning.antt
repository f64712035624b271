-- What a turn does, by what the operator came to.
use Rattle.std.proofs.Common.{◌≡◌, refl, sym, ap, subst, ◌∙◌, ℕ, ◌+◌, ◌≤◌, Bool, false, List, ◌∷◌, ◌++◌, length, length-append, None, arith}
use Rattle.b67_list.specs.Numbered.{numbered}
use Rattle.b67_segment.specs.declared.code.Code.{Code}
use Rattle.b67_table.specs.Ending.{image_end, failed}
use Rattle.b67_table.specs.Image.{Image}
use Rattle.b67_table.specs.Limits.{most_processes}
use Rattle.b67_table.specs.Outcome.{Outcome}
use Rattle.b67_table.specs.Table.{table}
use Rattle.b67_table.specs.Valid.{IsValid}
use Rattle.b67_letters.specs.Releases.{registers_releases, released_by, releases}
use Rattle.b67_action.specs.declared.done.Done.{Done}
use Rattle.b67_action.specs.declared.done.Done.TheVariants.{Went, Waits, Ended, Fault, Interrupt, StackLimit, NoMemory}
use Rattle.b67_action.specs.Done.{Came, is_performed}
use Rattle.b67_machine.specs.Kept.{MachineModel, Counts}
use Rattle.b67_machine.specs.Stepping.{image_after, operators_in, limit_of, lacks, released_where, MachineActs, Steps, StepsBy}
use Rattle.b67_joining.specs.Joining.{IsQueue, joining}
use Rattle.b67_joining.proofs.Joining.{released_few}
use Rattle.b67_exec.specs.Turns.{Turns, exec_turn, goes, turned, turn_by, turn_in, turn_unless, to_rear}
use Rattle.b67_exec.specs.Turning.{IsListed, turns_at, TurnGoes}
use Rattle.b67_exec.proofs.Queues.{valid_listed, queue_few, queue_after}

-- ---- the definition, at an operator

turn_is : (code : Code) (t : Turns) (p : ℕ) (others : List ℕ) → image_end t.image ≡ None → t.queue ≡ p ∷ others
    → exec_turn code t ≡ turn_by code t p others (table code t.image p)
turn_is code t p others e q = ap (turn_unless code t) e ∙ ap (turn_in code t) q

goes_by : (code : Code) (t : Turns) (p : ℕ) (others : List ℕ) (done : Done) (acted new : Image) → operators_in done ≡ 1 → Came code t.image p done acted
    → new ≡ image_after p done acted → turn_by code t p others (table code t.image p) ≡ goes (turned code t p others new)
goes_by code t p others Went acted new one came is = ap (turn_by code t p others) came.0 ∙ ap (λ (i : Image). goes (turned code t p others i)) (sym is)
goes_by code t p others Waits acted new one came is = ap (turn_by code t p others) came.0 ∙ ap (λ (i : Image). goes (turned code t p others i)) (sym is)
goes_by code t p others Ended acted new one came is = ap (turn_by code t p others) came.0 ∙ ap (λ (i : Image). goes (turned code t p others i)) (sym is)
goes_by code t p others (Fault kind) acted new one came is =
    ap (turn_by code t p others) came.0 ∙ ap (λ (i : Image). goes (turned code t p others (failed i p kind))) (sym came.1)
    ∙ ap (λ (i : Image). goes (turned code t p others i)) (sym is)
goes_by code t p others (Interrupt kind) acted new one came is = absurd (omega (arith, one))
goes_by code t p others StackLimit acted new one came is = absurd (omega (arith, one))
goes_by code t p others NoMemory acted new one came is = absurd (omega (arith, one))

none_limit : (p : ℕ) (done : Done) → operators_in done ≡ 1 → limit_of p done ≡ None
none_limit p Went one = refl
none_limit p Waits one = refl
none_limit p Ended one = refl
none_limit p (Fault kind) one = refl
none_limit p (Interrupt kind) one = refl
none_limit p StackLimit one = absurd (omega (arith, one))
none_limit p NoMemory one = refl

none_lacks : (done : Done) → operators_in done ≡ 1 → lacks done ≡ false
none_lacks Went one = refl
none_lacks Waits one = refl
none_lacks Ended one = refl
none_lacks (Fault kind) one = refl
none_lacks (Interrupt kind) one = refl
none_lacks StackLimit one = refl
none_lacks NoMemory one = absurd (omega (arith, one))

-- ---- an operator that is counted

module _ (old new : MachineModel) (p : ℕ) (others : List ℕ) (done : Done) (acts : MachineActs old p done new) (one : operators_in done ≡ 1) (going : image_end old.image ≡ None)
    (is : IsQueue old.image (p ∷ others)) (listed : IsListed old.image) (valid : IsValid new.code new.image) where
  -- those whom the machine has released are those whom the table says
  released_is : releases old.code old.image p ≡ new.released
  released_is = by done one acts.came (acts.released)
    where
      by : (d : Done) → operators_in d ≡ 1 → Came old.code old.image p d acts.acted → new.released ≡ released_where (is_performed d) old.code old.image p
          → releases old.code old.image p ≡ new.released
      by Went o came e = sym e
      by Waits o came e = sym e
      by Ended o came e = sym e
      by (Fault kind) o came e =
          ap (λ (x : Outcome Image). released_by x (registers_releases old.code old.image p (numbered old.image.regs p))) came.0 ∙ sym e
      by (Interrupt kind) o came e = absurd (omega (arith, o))
      by StackLimit o came e = absurd (omega (arith, o))
      by NoMemory o came e = absurd (omega (arith, o))

  abbrev pub rear : List ℕ
  rear = others ++ joining old.image.started new.image p new.released

  rear_is : others ++ to_rear old.code p old.image new.image ≡ rear
  rear_is = ap (λ (zs : List ℕ). others ++ joining old.image.started new.image p zs) released_is

  turns_are : (d : List ℕ) → exec_turn old.code (turns_at old (p ∷ others) d) ≡ goes (turns_at new rear (p ∷ d))
  turns_are d =
      turn_is old.code (turns_at old (p ∷ others) d) p others going refl
      ∙ goes_by old.code (turns_at old (p ∷ others) d) p others done acts.acted new.image one acts.came acts.image
      ∙ ap (λ (zs : List ℕ). goes (turns_at new zs (p ∷ d))) rear_is

  goes_rear : TurnGoes old (p ∷ others) new rear
  goes_rear = record {
    front = p;
    turns = turns_are;
    counts = subst (λ (n : ℕ). Counts old.counts p n new.counts) one acts.counts;
    is_queue = queue_after old.image new.image p others new.released is (acts.able one);
    listed = valid_listed new.code new.image valid;
    limit = acts.limit ∙ none_limit p done one;
    lacked = acts.lacked ∙ none_lacks done one;
    same = acts.code;
  }

  -- there is room for those who join
  pub joins_few : length others + length new.released ≤ most_processes
  joins_few =
      let few = queue_few new.image rear (valid_listed new.code new.image valid) (queue_after old.image new.image p others new.released is (acts.able one)) in
      omega (
        arith,
        few,
        length-append others (joining old.image.started new.image p new.released),
        released_few old.image.started new.image p new.released,
      )

  pub goes_through : (next : List ℕ) → next ≡ others ++ joining old.image.started new.image p new.released → TurnGoes old (p ∷ others) new next
  goes_through next e = subst (TurnGoes old (p ∷ others) new) (sym e) goes_rear

-- ---- an operator that is not

-- the operator was tried, since memory did not lack before
pub acts_of : (old new : MachineModel) (p : ℕ) (done : Done) → old.lacked ≡ false → Steps old p done new → MachineActs old p done new
acts_of old new p done e steps = subst (λ (b : Bool). StepsBy b old p done new) e steps
