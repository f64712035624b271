-- ENTR on the intrinsic that waits for several events: the process goes on with a number, or it waits.
use Rattle.std.proofs.Common.{◌≡◌, refl, sym, ap, ◌∙◌, ℕ, suc, ◌+◌, ◌-◌, ◌≤◌, pos, List, [], ◌∷◌, ◌++◌, length, map, Option, Some, None}
use Rattle.b67_frames.proofs.Prelude.{reverse-reverse, reverse, nat_le, if◌then◌else◌, set_numbered, Word, operand, Place, Registers, Code, with_stack, is_open, event_of, if_chained, gives, Image, with_stacks, with_registers, pushed, Test, Program, answer, fault, asked, changed, effect_of, ◌>>=◌, done, registers, cell_place, enter, raw, Core, stack_of, with_core, AtOperator, CallsIntrinsic, entered_asked, chained_asked, cut_words, raw_is, stack_over, most_is, pushed_do}
use Rattle.std.specs.Prelude.{Bool, true}
use Rattle.algol_standing.proofs.PathOrder.{and_true}
use Rattle.b67_events.specs.Events.{first_event_happened, joined_all, with_list}
use Rattle.b67_ops.specs.declared.Operator.TheVariants as ops
use Rattle.b67_ops.specs.declared.PlainKind.TheVariants as kinds
use Rattle.b67_ops.specs.declared.intrinsic.Intrinsic.TheVariants.{WaitAny}
use Rattle.b67_table.specs.declared.Cell.{Cell}
use Rattle.b67_table.specs.declared.ProcessState.TheVariants.{WaitsAny}
use Rattle.b67_table.specs.Arguments.{events_of, no_such}
use Rattle.b67_table.specs.Image.{woken_number}
use Rattle.b67_table.specs.Intrinsics.{gone_on, gone_or_waiting, woken_or_not, wait_for_any}
use Rattle.b67_table.specs.Limits.{most_events}
use Rattle.b67_table.specs.Program.{interrupt, ask, woken}
use Rattle.b67_table.specs.Questions.{told}
use Rattle.b67_table.specs.Rows.{row}
use Rattle.b67_frames.proofs.EventRows.{FindsEvent, event_reached}

-- each word reaches an open event, at the cell beside it
abbrev pub AreFound : Image → ℕ → Registers → List Word → List Cell → Type 0
AreFound img p r [] [] = Unit {0}
AreFound img p r [] (c ∷ cs) = ⊥
AreFound img p r (w ∷ ws) [] = ⊥
AreFound img p r (w ∷ ws) (c ∷ cs) = FindsEvent img p r w c × (is_open (cell_place c) img.events ≡ true) × AreFound img p r ws cs

-- one test after another
bound_asked : {A B C : Type 0} (img : Image) (t : Test A) (f : A → Test B) (g : B → Test C) → asked img (t >>= f >>= g) ≡ asked img (t >>= (λ (a : A). f a >>= g))
bound_asked img (answer a) f g = refl
bound_asked img (interrupt kind) f g = refl
bound_asked img (fault kind) f g = refl
bound_asked img (ask q more) f g = bound_asked img (more (told img q)) f g

module _ (code : Code) (img : Image) (p : ℕ) (r : Registers) where
  -- the places of the events that the words reach
  pub events_found : (ws : List Word) (cs : List Cell) → AreFound img p r ws cs → (goes : List Place → Program) → asked img (events_of r ws >>= goes) ≡ asked img (goes (map cell_place cs))
  events_found [] [] f goes = refl
  events_found [] (c ∷ cs) f goes = absurd f
  events_found (w ∷ ws) [] f goes = absurd f
  events_found (w ∷ ws) (c ∷ cs) f goes =
      bound_asked img (event_of r w) (λ (d : Cell). events_of r ws >>= (λ (places : List Place). answer (cell_place d ∷ places))) goes
      ∙ event_reached code img p r w c f.0 (λ (d : Cell). events_of r ws >>= (λ (places : List Place). answer (cell_place d ∷ places)) >>= goes) f.1
      ∙ bound_asked img (events_of r ws) (λ (places : List Place). answer (cell_place c ∷ places)) goes
      ∙ events_found ws cs f.2 (λ (places : List Place). goes (cell_place c ∷ places))

-- the words are those of the references, in the order in which the events are named
module _ (code : Code) (here : AtOperator code (ops.Plain kinds.Entr)) (words : List Word) (reference marked : Word) (below : List Word) (c : CallsIntrinsic here.img here.core WaitAny (reverse words) reference marked below)
    (cells : List Cell) (reach : AreFound here.img here.p here.core.registers words cells) (some : 1 ≤ length words) (few : length words ≤ most_events) where
  open here use {img, p, core, has, next}

  abbrev r : Registers
  r = core.registers

  abbrev pub places : List Place
  places = map cell_place cells

  several_asked : asked img (enter code core.registers next) ≡ asked img (woken_or_not core.registers next c.m places (woken_number img.numbers core.registers.stack))
  several_asked =
      entered_asked code here WaitAny (reverse words) reference marked below c
      ∙ ap (λ (ws : List Word). asked img (wait_for_any code r next c.m ws)) (reverse-reverse words)
      ∙ ap (λ (b : Bool). asked img (if b then events_of r words >>= (λ (ps : List Place). if_chained r c.m (woken r.stack (woken_or_not r next c.m ps))) else no_such))
      (and_true (nat_le 1 (length words)) (nat_le (length words) most_events) (most_is 1 (length words) some) (most_is (length words) most_events few))
      ∙ events_found code img p r words cells reach (λ (ps : List Place). if_chained r c.m (woken r.stack (woken_or_not r next c.m ps)))
      ∙ chained_asked code here WaitAny (reverse words) reference marked below c (woken r.stack (woken_or_not r next c.m places))

  raw_so : raw code img p ≡ effect_of p img (asked img (woken_or_not core.registers next c.m places (woken_number img.numbers core.registers.stack)))
  unfolding row
  raw_so = raw_is code (ops.Plain kinds.Entr) here ∙ ap (effect_of p img) several_asked

  -- the core with a number in place of the call
  abbrev pub number_core : ℕ → Core
  number_core n =
      record core { words = operand (pos n) ∷ below; registers = record core.registers { s = core.registers.f + 1; f = core.registers.f - c.m.df; place = next } }

  abbrev with_numbers : List ℕ → Image
  with_numbers ns = record img { numbers = ns }

  numbered_so : (n : ℕ) (ns : List ℕ) → changed p (gone_on core.registers next c.m n) (with_numbers ns) ≡ record (with_core img p (number_core n)) { numbers = ns }
  numbered_so n ns =
      ap (λ (ws : List Word). changed p (pushed r.stack (operand (pos n) ∷ []) (registers ((number_core n).registers) done)) (with_stacks (with_numbers ns) (with_stack img.stacks r.stack ws)))
      (cut_words code here WaitAny (reverse words) reference marked below c)
      ∙ pushed_do p (with_numbers ns) r.stack (stack_of core) has.stack (operand (pos n) ∷ []) (core.below ++ reverse below) (registers ((number_core n).registers) done)
      ∙ ap (λ (ws : List Word). with_registers (with_stacks (with_numbers ns) (with_stack img.stacks r.stack ws)) p ((number_core n).registers)) (sym (stack_over core.below (operand (pos n) ∷ []) below))

  -- a process that was released goes on with its woken number, which is 0 then
  pub woken_raw : (n : ℕ) → woken_number img.numbers core.registers.stack ≡ suc n →
      raw code img p ≡ gives (record (with_core img p (number_core (suc n))) { numbers = set_numbered img.numbers p 0 })
  woken_raw n is =
      raw_so
      ∙ ap (λ (k : ℕ). effect_of p img (asked img (woken_or_not r next c.m places k))) is
      ∙ ap (λ (i : Image). gives i) (numbered_so (suc n) (set_numbered img.numbers p 0))

  waits_or_goes : woken_number img.numbers core.registers.stack ≡ 0 → (o : Option ℕ) → first_event_happened places img.events ≡ o →
      raw code img p ≡ effect_of p img (asked img (gone_or_waiting core.registers next c.m places o))
  waits_or_goes is o found =
      raw_so
      ∙ ap (λ (k : ℕ). effect_of p img (asked img (woken_or_not r next c.m places k))) is
      ∙ ap (λ (x : Option ℕ). effect_of p img (asked img (gone_or_waiting r next c.m places x))) found

  -- it goes on with the first that has happened
  pub gone_raw : (n : ℕ) → woken_number img.numbers core.registers.stack ≡ 0 → first_event_happened places img.events ≡ Some n → raw code img p ≡ gives (with_core img p (number_core n))
  gone_raw n is found = waits_or_goes is (Some n) found ∙ ap (λ (i : Image). gives i) (numbered_so n img.numbers)

  -- it waits, and no word or register changes
  pub waiting_raw : woken_number img.numbers core.registers.stack ≡ 0 → first_event_happened places img.events ≡ None →
      raw code img p ≡ gives (record img { events = joined_all places p img.events; lists = with_list img.lists p places; states = set_numbered img.states p WaitsAny })
  waiting_raw is found = waits_or_goes is None found
