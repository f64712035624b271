-- What a wait for several events does, step by step.
use Rattle.std.specs.Result.{IsErrAnd}
use Rattle.std.proofs.Common.{◌≡◌, refl, sym, ap, subst, ◌∙◌, ℕ, zero, suc, ◌+◌, ◌<◌, ◌≤◌, ◌&&◌, Bool, true, false, cond, List, [], ◌∷◌, ◌++◌, length, take, drop, set, Option, Some, None, Result, Ok, Err, slice_get, append_assoc, append-nil, nat_le, pos, arith}
use Rattle.std.proofs.lemmas.Bool.{cond-true, and_parts, le-leb, leb-true}
use Rattle.std.proofs.Math.Path.{fun_ext}
use Rattle.b67_list.specs.Numbered.{numbered}
use Rattle.b67_word.specs.declared.Place.{Place}
use Rattle.b67_word.specs.Word.{Word, operand}
use Rattle.b67_control.specs.declared.Mscw.{Mscw}
use Rattle.b67_control.specs.declared.Registers.{Registers}
use Rattle.b67_segment.specs.declared.code.Code.{Code}
use Rattle.b67_store.specs.Store.{stack_limit}
use Rattle.b67_events.specs.Events.{first_event_happened, took_any}
use Rattle.b67_events.specs.declared.TookAny.TheVariants as any
use Rattle.b67_table.specs.declared.Cell.{Cell}
use Rattle.b67_table.specs.declared.InterruptKind.TheVariants.{InvalidOperand}
use Rattle.b67_table.specs.Arguments.{no_such, event_of, events_of, if_chained, finished_at}
use Rattle.b67_table.specs.Effect.{Effect}
use Rattle.b67_table.specs.Image.{Image, woken_number}
use Rattle.b67_table.specs.Intrinsics.{gone_on, gone_or_waiting, woken_or_not, wait_for_any}
use Rattle.b67_table.specs.Limits.{most_events}
use Rattle.b67_table.specs.Look.{look_seen}
use Rattle.b67_table.specs.Outcome.{gives, limit, limited}
use Rattle.b67_table.specs.Program.{Test, Program, Change, answer, interrupt, fault, ask, asked, see, woken, effect_of, does, ◌>>=◌}
use Rattle.b67_table.specs.Questions.{told}
use Rattle.b67_table.specs.References.{cell_place}
use Rattle.b67_table.specs.Table.{length_in, stack_length}
use Rattle.b67_table.specs.Writes.{write_made}
use Rattle.b67_table.specs.Writes as writes
use Rattle.b67_reach.specs.declared.Stop.{Stop}
use Rattle.b67_reach.specs.declared.Stop.TheVariants.{Interrupt}
use Rattle.b67_reach.specs.Answers.{looked, whole_outcome, stopped, ProgramActs}
use Rattle.b67_reach.proofs.Looking.{asked_on, tells_look, acts_stop}
use Rattle.b67_intrinsics.specs.Called.{arguments, mark_below, called_in, finished_in, IntrinsicLeads, TellsPlace, several_tests, several_tests_in, these}
use Rattle.b67_intrinsics.proofs.Calling.{drop_at}
use Rattle.b67_intrinsics.proofs.Trying.{leads_on, leads_off}

pub within_most : (n : ℕ) → nat_le 1 n && nat_le n most_events ≡ true → (1 ≤ n) × (n ≤ most_events)
within_most n e =
    let parts = and_parts (nat_le 1 n) (nat_le n most_events) e in
    (leb-true 1 n parts.0, leb-true n most_events parts.1)

pub none_left : (words : List Word) (n : ℕ) → length words ≤ n → drop n words ≡ []
none_left [] zero h = refl
none_left [] (suc n) h = refl
none_left (w ∷ words) zero h = absurd (omega (arith, h))
none_left (w ∷ words) (suc n) h = none_left words n (omega (arith, h))

-- tests, and tests after them
in_order : {A B C : Type 0} (img : Image) (t : Test A) (f : A → Test B) (g : B → Test C) → asked img ((t >>= f) >>= g) ≡ asked img (t >>= (λ (a : A). f a >>= g))
in_order img (answer a) f g = refl
in_order img (interrupt kind) f g = refl
in_order img (fault kind) f g = refl
in_order img (ask q more) f g = in_order img (more (told img q)) f g

module _ (img : Image) (r : Registers) where
  after_one : Word → List Word → (List Place → Program) → Cell → Program
  after_one w ws next c = (events_of r ws >>= (λ (places : List Place). answer (cell_place c ∷ places))) >>= next

  begins : (w : Word) (ws : List Word) (next : List Place → Program) → asked img (events_of r (w ∷ ws) >>= next) ≡ asked img (event_of r w >>= after_one w ws next)
  unfolding after_one
  begins w ws next =
      in_order img (event_of r w) (λ (c : Cell). events_of r ws >>= (λ (places : List Place). answer (cell_place c ∷ places))) next

  one_found : (w : Word) (ws : List Word) (c : Cell) (next : List Place → Program) → whole_outcome (asked img (event_of r w)) ≡ gives c
      → asked img (events_of r (w ∷ ws) >>= next) ≡ asked img (events_of r ws >>= (λ (places : List Place). next (cell_place c ∷ places)))
  unfolding after_one
  one_found w ws c next e =
      begins w ws next ∙ asked_on img (event_of r w) (after_one w ws next) c e
      ∙ in_order img (events_of r ws) (λ (places : List Place). answer (cell_place c ∷ places)) next

  -- so many of the words reach these events
  abbrev pub AreFound : List Word → List Place → ℕ → Type 0
  AreFound words places n =
      (next : List Place → Program) → asked img (events_of r words >>= next) ≡ asked img (events_of r (drop n words) >>= (λ (rest : List Place). next (places ++ rest)))

  pub found_first : (words : List Word) → AreFound words [] 0
  found_first words next = refl

  joins : (places : List Place) (at : Place) (next : List Place → Program)
      → ◌≡◌ {A = List Place → Program} (λ (rest : List Place). next (places ++ at ∷ rest)) (λ (rest : List Place). next ((places ++ at ∷ []) ++ rest))
  joins places at next = fun_ext λ rest. ap next (sym (append_assoc places (at ∷ []) rest))

  pub found_next : (words : List Word) (places : List Place) (n : ℕ) (at : Place) → AreFound words places n → TellsPlace img r (slice_get words n) (Ok at)
      → AreFound words (places ++ at ∷ []) (n + 1)
  found_next words places n at found tells = by (slice_get words n) refl tells
    where
      by : (o : Option Word) → slice_get words n ≡ o → TellsPlace img r o (Ok at) → AreFound words (places ++ at ∷ []) (n + 1)
      by None here t = absurd t
      by (Some w) here t = λ next.
          let more : suc n ≡ n + 1 = omega arith in
          found next
          ∙ ap (λ (ws : List Word). asked img (events_of r ws >>= (λ (rest : List Place). next (places ++ rest)))) (drop_at words n w here)
          ∙ one_found w (drop (suc n) words) t.0 (λ (rest : List Place). next (places ++ rest)) t.1
          ∙ ap (λ (x : Place). asked img (events_of r (drop (suc n) words) >>= (λ (rest : List Place). next (places ++ x ∷ rest)))) (sym t.2)
          ∙ ap (λ (k : ℕ). asked img (events_of r (drop k words) >>= (λ (rest : List Place). next (places ++ at ∷ rest)))) more
          ∙ ap (λ (f : List Place → Program). asked img (events_of r (drop (n + 1) words) >>= f)) (joins places at next)

  -- ---- the exits

  module _ (m : Mscw) (words : List Word) where
    abbrev several : Bool
    several = nat_le 1 (length words) && nat_le (length words) most_events

    abbrev pub Tests : (List Place → Program) → Program
    Tests next = several_tests r m words next

    pub not_several : several ≡ false → IntrinsicLeads {A = List Place} img Tests (Err (Interrupt InvalidOperand))
    not_several e = λ p next. record {
      outcome = ap (λ (b : Bool). limited (stack_length p) (does p (cond b (events_of r words >>= (λ (places : List Place). if_chained r m (next places))) no_such) img)) e;
      stays = refl;
    }

    module _ (some : several ≡ true) (places : List Place) (n : ℕ) (found : AreFound words places n) where
      comes : (next : List Place → Program) → asked img (Tests next)
          ≡ asked img (events_of r (drop n words) >>= (λ (rest : List Place). if_chained r m (next (places ++ rest))))
      comes next =
          ap (λ (b : Bool). asked img (cond b (events_of r words >>= (λ (places : List Place). if_chained r m (next places))) no_such)) some
          ∙ found (λ (places : List Place). if_chained r m (next places))

      pub one_stops : (stop : Stop) → TellsPlace img r (slice_get words n) (Err stop) → IntrinsicLeads {A = List Place} img Tests (Err stop)
      one_stops stop tells = by (slice_get words n) refl tells
        where
          by : (o : Option Word) → slice_get words n ≡ o → TellsPlace img r o (Err stop) → IntrinsicLeads {A = List Place} img Tests (Err stop)
          by None here t = absurd t
          by (Some w) here t = λ p next.
              let rest : List Place → Program = λ (rest : List Place). if_chained r m (next (places ++ rest)) in
              let q = acts_stop {B = Unit {0}} p (event_of r w) (after_one w (drop (suc n) words) rest) stop img img t refl in
              record {
                outcome = ap (λ (e : Effect Change). limited (stack_length p) (effect_of p img e))
                    (comes next ∙ ap (λ (ws : List Word). asked img (events_of r ws >>= rest)) (drop_at words n w here) ∙ begins w (drop (suc n) words) rest)
                    ∙ q.outcome;
                stays = refl;
              }

      module _ (all : length words ≤ n) where
        comes_all : (next : List Place → Program) → asked img (Tests next) ≡ asked img (if_chained r m (next places))
        comes_all next =
            comes next
            ∙ ap (λ (ws : List Word). asked img (events_of r ws >>= (λ (rest : List Place). if_chained r m (next (places ++ rest))))) (none_left words n all)
            ∙ ap (λ (ps : List Place). asked img (if_chained r m (next ps))) (append-nil places)

        pub chain_stops : (stop : Stop) → ◌≡◌ {A = Result Mscw Stop} (Err stop) (looked (look_seen img.stacks (mark_below r m))) → IntrinsicLeads {A = List Place} img Tests (Err stop)
        chain_stops stop e = λ p next.
            let q = acts_stop {B = Unit {0}} p (see (mark_below r m)) (λ (lower : Mscw). next places) stop img img
            ((tells_look (mark_below r m) img.stacks img.rows (Err stop) e).told img refl refl) refl in
            record {
              outcome = ap (λ (e : Effect Change). limited (stack_length p) (effect_of p img e)) (comes_all next) ∙ q.outcome;
              stays = refl;
            }

        pub all_found : (lower : Mscw) → Ok lower ≡ looked (look_seen img.stacks (mark_below r m)) → IntrinsicLeads img Tests (Ok places)
        all_found lower e = λ next.
            comes_all next
            ∙ asked_on img (see (mark_below r m)) (λ (lower : Mscw). next places) lower ((tells_look (mark_below r m) img.stacks img.rows (Ok lower) e).told img refl refl)

-- a reference that reaches no open event, and one that reaches one
pub tells_stop_at : (img : Image) (r : Registers) (o : Option Word) (w : Word) (res : Result Place Stop) (stop : Stop) → o ≡ Some w → IsErrAnd res (λ e. e ≡ stop)
    → whole_outcome (asked img (event_of r w)) ≡ stopped stop → TellsPlace img r o res
tells_stop_at img r o w (Ok at) stop e i k = absurd i
tells_stop_at img r o w (Err other) stop e i k =
    subst (λ (x : Option Word). TellsPlace img r x (Err other)) (sym e) (k ∙ ap (λ (s : Stop). stopped s) (sym i))

pub tells_place : (img : Image) (r : Registers) (o : Option Word) (w : Word) (c : Cell) → o ≡ Some w → whole_outcome (asked img (event_of r w)) ≡ gives c
    → TellsPlace img r o (Ok (cell_place c))
tells_place img r o w c e k = subst (λ (x : Option Word). TellsPlace img r x (Ok (cell_place c))) (sym e) (c, k, refl)

-- the exit of a question mark
pub leads_exit : (img : Image) (tests : (List Place → Program) → Program) (res : Result ℕ Stop) (places : List Place) (stop : Stop) → IsErrAnd res (λ e. e ≡ stop)
    → IntrinsicLeads {A = List Place} img tests (Err stop) → IntrinsicLeads {A = List Place} img tests (these res places)
leads_exit img tests (Ok n) places stop i x = absurd i
leads_exit img tests (Err other) places stop i x = subst (λ (s : Stop). IntrinsicLeads {A = List Place} img tests (Err s)) (sym i) x

-- a place that is put after so many
take_set : (xs : List Place) (n : ℕ) (x : Place) → n < length xs → take (suc n) (set xs n x) ≡ take n xs ++ x ∷ []
take_set [] n x h = absurd (omega (arith, h))
take_set (y ∷ xs) zero x h = refl
take_set (y ∷ xs) (suc n) x h = ap (λ (ys : List Place). y ∷ ys) (take_set xs n x (omega (arith, h)))

pub put_after : (xs : List Place) (n : ℕ) (x : Place) → n < length xs → take (n + 1) (set xs n x) ≡ take n xs ++ x ∷ []
put_after xs n x h = let more : n + 1 ≡ suc n = omega arith in ap (λ (k : ℕ). take k (set xs n x)) more ∙ take_set xs n x h

-- ---- the operator

module _ (code : Code) (next : ℕ) (m : Mscw) (p : ℕ) (img : Image) where
  abbrev pub coming : Option Registers → List Place → Program
  coming None places = no_such
  coming (Some r) places = woken r.stack (woken_or_not r next m places)

  pub several_stops : (regs : Option Registers) (stop : Stop) (res : Result (Unit {0}) Stop) → IntrinsicLeads {A = List Place} img (several_tests_in regs m img.stacks) (Err stop)
      → IsErrAnd res (λ e. e ≡ stop) → ProgramActs p (called_in wait_for_any code regs next m) img img res
  several_stops regs stop (Ok a) x i = absurd i
  several_stops None stop (Err other) x i = subst (λ (s : Stop). ProgramActs {A = Unit {0}} p no_such img img (Err s)) (sym i) (x p (λ (places : List Place). no_such))
  several_stops (Some r) stop (Err other) x i =
      subst (λ (s : Stop). ProgramActs {A = Unit {0}} p (called_in wait_for_any code (Some r) next m) img img (Err s)) (sym i)
      (leads_off p img (called_in wait_for_any code (Some r) next m) (several_tests r m (arguments img.stacks r)) (coming (Some r)) stop refl x)

  pub several_goes : (regs : Option Registers) (places : List Place) (new : Image) → IntrinsicLeads img (several_tests_in regs m img.stacks) (Ok places)
      → ProgramActs {A = Unit {0}} p (coming regs places) img new (Ok tt) → ProgramActs {A = Unit {0}} p (called_in wait_for_any code regs next m) img new (Ok tt)
  several_goes None places new x q = record { outcome = q.outcome; stays = tt }
  several_goes (Some r) places new x q =
      leads_on p img (called_in wait_for_any code (Some r) next m) (several_tests r m (arguments img.stacks r)) (coming (Some r)) places new (Ok tt) refl x q

  module _ (r : Registers) (places : List Place) (new : Image) where
    -- a process goes on with a position
    gone_by : (n : ℕ) (w : Word) (mid : Image) → w ≡ operand (pos n) → ProgramActs {A = Unit {0}} p (finished_in (Some r) m (w ∷ []) next) mid new (Ok tt)
        → limited (stack_length p) (does p (answer (gone_on r next m n)) mid) ≡ gives new
    gone_by n w mid e q = ap (λ (v : Word). limited (stack_length p) (does p (answer (finished_at r m (v ∷ []) next)) mid)) (sym e) ∙ q.outcome

    pub goes_woken : (n : ℕ) (w : Word) (mid : Image) → (n ≡ 0 → ⊥) → n ≡ woken_number img.numbers r.stack → w ≡ operand (pos n)
        → mid ≡ write_made p writes.go_on img → ProgramActs {A = Unit {0}} p (finished_in (Some r) m (w ∷ []) next) mid new (Ok tt)
        → ProgramActs {A = Unit {0}} p (coming (Some r) places) img new (Ok tt)
    goes_woken zero w mid some e k i q = absurd (some refl)
    goes_woken (suc n) w mid some e k i q = record {
      outcome = ap (λ (z : ℕ). limited (stack_length p) (does p (woken_or_not r next m places z) img)) (sym e)
          ∙ ap (λ (z : Image). limited (stack_length p) (does p (answer (gone_on r next m (suc n))) z)) (sym i) ∙ gone_by (suc n) w mid k q;
      stays = tt;
    }

    module _ (none : 0 ≡ woken_number img.numbers r.stack) where
      looks : (o : Option ℕ) → first_event_happened places img.events ≡ o → limited (stack_length p) (does p (coming (Some r) places) img)
          ≡ limited (stack_length p) (does p (gone_or_waiting r next m places o) img)
      looks o e =
          ap (λ (z : ℕ). limited (stack_length p) (does p (woken_or_not r next m places z) img)) (sym none)
          ∙ ap (λ (z : Option ℕ). limited (stack_length p) (does p (gone_or_waiting r next m places z) img)) e

      pub goes_first : (n : ℕ) (w : Word) → first_event_happened places img.events ≡ Some n → w ≡ operand (pos n)
          → ProgramActs {A = Unit {0}} p (finished_in (Some r) m (w ∷ []) next) img new (Ok tt) → ProgramActs {A = Unit {0}} p (coming (Some r) places) img new (Ok tt)
      goes_first n w e k q = record { outcome = looks (Some n) e ∙ gone_by n w img k q; stays = tt }

      pub waits : numbered img.regs p ≡ Some r → r.s ≤ stack_limit → first_event_happened places img.events ≡ None → new ≡ write_made p (writes.wait_any places) img
          → ProgramActs {A = Unit {0}} p (coming (Some r) places) img new (Ok tt)
      waits has room e i =
          let fits : nat_le (stack_length p img) stack_limit ≡ true =
          ap (λ (o : Option Registers). nat_le (length_in o) stack_limit) has ∙ le-leb r.s stack_limit room in
          record {
            outcome = looks None e
                ∙ cond-true (nat_le (stack_length p img) stack_limit) (gives (write_made p (writes.wait_any places) img)) limit fits ∙ ap gives (sym i);
            stays = tt;
          }

-- what a kernel answers
pub went_by : (o : Option ℕ) (n : ℕ) → any.Went n ≡ took_any o → o ≡ Some n
went_by None n e = cc
went_by (Some k) n e = let same : n ≡ k = cc in ap Some (sym same)

pub waits_by : (o : Option ℕ) → any.Waits ≡ took_any o → o ≡ None
waits_by None e = refl
waits_by (Some k) e = cc
