-- A schedule, run by run.
use Rattle.std.proofs.Common.{arith, ◌≡◌, refl, ap, sym, ◌∙◌, subst, ℕ, zero, suc, ◌+◌, ◌-◌, ◌<◌, ◌≤◌, if◌then◌else◌, Bool, true, false, List, [], ◌∷◌, ◌++◌, length, drop, get_or, replicate, Option, Some, None, append_assoc, append-nil, length-append}
use Rattle.algol_tree.specs.Scopes.{Scopes}
use Rattle.algol_meaning.specs.World.{World}
use Rattle.algol_meaning.specs.Choice.{Choice, choice}
use Rattle.algol_meaning.specs.Run.{End, end_of, may_go, after_entry, run_from}
use Rattle.algol_meaning.proofs.Cited.{run_none}
use Rattle.algol_run.specs.Stepping.{RunStep, ended, not_able, went, chosen_by, step_by, step_of, told_step, is_going}
use Rattle.algol_run.specs.declared.stepping.Stepped.{Stepped}
use Rattle.algol_run.specs.declared.stepping.Stepped.TheVariants as stepped
use Rattle.b67_schedule.specs.declared.Run.{Run}
use Rattle.b67_schedule.specs.Schedules.{entries}
use Rattle.b67_schedule.proofs.Cited.{entries_drop}
use Rattle.b67_list.proofs.Numbers.{replicate_parts}
use Rattle.b67_judge.specs.Walked.{StopsAt}

-- ---- runs one after another

pub run_append : (sc : Scopes) (a b : List ℕ) (o : Option World) → run_from sc (a ++ b) o ≡ run_from sc b (run_from sc a o)
run_append sc [] b None = refl
run_append sc [] b (Some w) = refl
run_append sc (p ∷ a) b None = sym (run_none sc b)
run_append sc (p ∷ a) b (Some w) = run_append sc a b (after_entry sc w p)

-- ---- one step more

-- a step that goes is the entry's
goes_so : (sc : Scopes) (v after : World) (p : ℕ) (s : Stepped) → told_step s after ≡ step_of sc v p → is_going s ≡ true → after_entry sc v p ≡ Some after
unfolding after_entry
goes_so sc v after p s e going = by s (may_go v p) (choice sc v p) e going
  where
    world_in : RunStep → Option World
    world_in not_able = None
    world_in (went c) = Some c.world
    world_in (ended c) = Some c.world

    chosen : (o : Option End) (c : Choice) → world_in (chosen_by o c) ≡ Some c.world
    chosen None c = refl
    chosen (Some x) c = refl

    given : (t : Stepped) → is_going t ≡ true → world_in (told_step t after) ≡ Some after
    given (stepped.Went a) g = refl
    given (stepped.Ended a) g = refl
    given stepped.NotAble g = cc

    by : (t : Stepped) (may : Bool) (c : Choice) → told_step t after ≡ step_by may c → is_going t ≡ true → (if may then Some c.world else None) ≡ Some after
    by t true c e g = sym (chosen (end_of c.world) c) ∙ ap world_in (sym e) ∙ given t g
    by t false c e g = let r : None ≡ Some after = ap world_in (sym e) ∙ given t g in r

-- a step that does not go says that the process may not
pub stays_so : (sc : Scopes) (v after : World) (p : ℕ) (s : Stepped) → told_step s after ≡ step_of sc v p → is_going s ≡ false → may_go v p ≡ false
stays_so sc v after p s e stays = by s (may_go v p) (choice sc v p) e stays
  where
    goes : RunStep → Bool
    goes not_able = false
    goes (went c) = true
    goes (ended c) = true

    chosen : (o : Option End) (c : Choice) → goes (chosen_by o c) ≡ true
    chosen None c = refl
    chosen (Some x) c = refl

    given : (t : Stepped) → goes (told_step t after) ≡ is_going t
    given (stepped.Went a) = refl
    given (stepped.Ended a) = refl
    given stepped.NotAble = refl

    by : (t : Stepped) (may : Bool) (c : Choice) → told_step t after ≡ step_by may c → is_going t ≡ false → may ≡ false
    by t false c e g = refl
    by t true c e g = let r : true ≡ false = sym (chosen (end_of c.world) c) ∙ ap goes (sym e) ∙ given t ∙ g in r

replicate_more : (n p : ℕ) → replicate (n + 1) p ≡ replicate n p ++ p ∷ []
replicate_more zero p = refl
replicate_more (suc n) p = let r : suc n + 1 ≡ suc (n + 1) = omega arith in ap (λ (m : ℕ). replicate m p) r ∙ ap (λ (xs : List ℕ). p ∷ xs) (replicate_more n p)

pub went_more :
    (sc : Scopes) (n p : ℕ) (w v after : World) (s : Stepped) → run_from sc (replicate n p) (Some w) ≡ Some v → told_step s after ≡ step_of sc v p → is_going s ≡ true
    → run_from sc (replicate (n + 1) p) (Some w) ≡ Some after
went_more sc n p w v after s so_far e going =
    ap (λ (h : List ℕ). run_from sc h (Some w)) (replicate_more n p)
    ∙ run_append sc (replicate n p) (p ∷ []) (Some w)
    ∙ ap (λ (o : Option World). run_from sc (p ∷ []) o) so_far
    ∙ last (after_entry sc v p) (goes_so sc v after p s e going)
  where
    last : (o : Option World) → o ≡ Some after → run_from sc [] o ≡ Some after
    last None q = q
    last (Some x) q = q

-- ---- run by run

-- so many of the entries are done, and these are left
pub record Stands (sc : Scopes) (given : List ℕ) (w now : World) (count : ℕ) (left : List ℕ) : Type 0 where
  pub done : List ℕ
  pub split : given ≡ done ++ left
  pub legal : run_from sc done (Some w) ≡ Some now
  pub is : count ≡ length done

pub stands_first : (sc : Scopes) (given : List ℕ) (w : World) → Stands sc given w w 0 given
stands_first sc given w = record { done = []; split = refl; legal = refl; is = refl }

pub length_replicate : (n p : ℕ) → length (replicate n p) ≡ n
length_replicate zero p = refl
length_replicate (suc n) p = let r : length (replicate n p) ≡ n = length_replicate n p in omega (arith, r)

-- a whole run more
pub stands_more :
    (sc : Scopes) (given : List ℕ) (w now after : World) (count n p : ℕ) (left : List ℕ) → Stands sc given w now count (replicate n p ++ left)
    → run_from sc (replicate n p) (Some now) ≡ Some after → Stands sc given w after (count + n) left
stands_more sc given w now after count n p left s e =
    record {
      done = s.done ++ replicate n p;
      split = s.split ∙ sym (append_assoc s.done (replicate n p) left);
      legal = run_append sc s.done (replicate n p) (Some w) ∙ ap (λ (o : Option World). run_from sc (replicate n p) o) s.legal ∙ e;
      is = let l : length (s.done ++ replicate n p) ≡ length s.done + length (replicate n p) = length-append s.done (replicate n p) in
          let r : length (replicate n p) ≡ n = length_replicate n p in
          let c : count ≡ length s.done = s.is in omega (arith, l, r, c);
    }

-- some of a run, and one of it is left at least
pub stands_within :
    (sc : Scopes) (given : List ℕ) (w now after : World) (count n times p : ℕ) (left : List ℕ) → n < times → Stands sc given w now count (replicate times p ++ left)
    → run_from sc (replicate n p) (Some now) ≡ Some after → Stands sc given w after (count + n) (p ∷ replicate (times - n - 1) p ++ left)
stands_within sc given w now after count n times p left less s e =
    stands_more sc given w now after count n p (p ∷ replicate (times - n - 1) p ++ left)
    (subst (λ (xs : List ℕ). Stands sc given w now count xs) parts s) e
  where
    rest : times ≡ n + suc (times - n - 1)
    rest = omega (arith, less)

    parts : replicate times p ++ left ≡ replicate n p ++ (p ∷ replicate (times - n - 1) p ++ left)
    parts =
        ap (λ (k : ℕ). replicate k p ++ left) rest
        ∙ ap (λ (xs : List ℕ). xs ++ left) (replicate_parts n (suc (times - n - 1)) p)
        ∙ append_assoc (replicate n p) (p ∷ replicate (times - n - 1) p) left

-- ---- the ends of a walk

pub stops_so :
    (sc : Scopes) (given : List ℕ) (w now after : World) (count n times p : ℕ) (left : List ℕ) → n < times → Stands sc given w now count (replicate times p ++ left)
    → run_from sc (replicate n p) (Some now) ≡ Some after → may_go after p ≡ false → StopsAt sc given w after (count + n + 1)
stops_so sc given w now after count n times p left less s e stays =
    let t = stands_within sc given w now after count n times p left less s e in
    record {
      done = t.done;
      process = p;
      left = replicate (times - n - 1) p ++ left;
      split = t.split;
      legal = t.legal;
      stays = stays;
      is = ap (λ (k : ℕ). k + 1) t.is;
    }

pub whole_so : (sc : Scopes) (given : List ℕ) (w now : World) (count : ℕ) (left : List ℕ) → left ≡ [] → Stands sc given w now count left → run_from sc given (Some w) ≡ Some now
whole_so sc given w now count left none s =
    ap (λ (h : List ℕ). run_from sc h (Some w)) (s.split ∙ ap (λ (xs : List ℕ). s.done ++ xs) none ∙ append-nil s.done) ∙ s.legal

module _ (sc : Scopes) (runs items : List Run) (i : ℕ) (d : Run) (w now after : World) (before n : ℕ) (same : items ≡ runs) (l : i < length items)
    (s : Stands sc (entries runs) w now before (entries (drop i runs))) (e : run_from sc (replicate n ((get_or items i d).process)) (Some now) ≡ Some after) where
  whole_run : entries (drop i runs) ≡ replicate ((get_or items i d).times) ((get_or items i d).process) ++ entries (drop (i + 1) runs)
  whole_run =
      ap (λ (rs : List Run). entries (drop i rs)) (sym same) ∙ entries_drop items i d l
      ∙ ap (λ (rs : List Run). replicate ((get_or items i d).times) ((get_or items i d).process) ++ entries (drop (i + 1) rs)) same

  from_run : Stands sc (entries runs) w now before (replicate ((get_or items i d).times) ((get_or items i d).process) ++ entries (drop (i + 1) runs))
  from_run = subst (λ (xs : List ℕ). Stands sc (entries runs) w now before xs) whole_run s

  pub walk_more : n ≤ (get_or items i d).times → (get_or items i d).times ≤ n → Stands sc (entries runs) w after (before + n) (entries (drop (i + 1) runs))
  walk_more a b =
      let all : (get_or items i d).times ≡ n = omega (arith, a, b) in
      stands_more sc (entries runs) w now after before n ((get_or items i d).process) (entries (drop (i + 1) runs))
      (subst (λ (k : ℕ). Stands sc (entries runs) w now before (replicate k ((get_or items i d).process) ++ entries (drop (i + 1) runs))) all from_run) e

  pub walk_stops : n < (get_or items i d).times → may_go after ((get_or items i d).process) ≡ false → StopsAt sc (entries runs) w after (before + n + 1)
  walk_stops less stays =
      stops_so sc (entries runs) w now after before n ((get_or items i d).times) ((get_or items i d).process) (entries (drop (i + 1) runs)) less from_run e stays
