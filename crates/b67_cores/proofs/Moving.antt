-- One private operator in a frame, from slots to slots, and several one after another.
use Rattle.std.proofs.Common.{◌≡◌, refl, sym, ap, ◌∙◌, subst, ℕ, ◌+◌, ◌<◌, ◌≤◌, List, [], ◌∷◌, length, Some, Ok, arith}
use Rattle.std.specs.Prelude.{slice_get}
use Rattle.algol_tree.specs.Scopes.{Scopes}
use Rattle.b67_word.specs.Word.{Word}
use Rattle.b67_control.specs.declared.Registers.{Registers}
use Rattle.b67_ops.specs.declared.Operator.{Operator}
use Rattle.b67_ops.proofs.Laws.{length_spelling}
use Rattle.b67_segment.specs.Operators.{Placed, StandsAmong}
use Rattle.b67_segment.specs.Syllables.{Spells}
use Rattle.b67_segment.specs.Fetching.{fetched}
use Rattle.b67_segment.specs.declared.code.Code.{Code}
use Rattle.b67_segment.specs.declared.code.Segment.{Segment}
use Rattle.b67_segment.proofs.Among.{fetched_spelled}
use Rattle.b67_table.specs.declared.Class.TheVariants as classes
use Rattle.b67_table.specs.declared.Private.{Private}
use Rattle.b67_table.specs.Effect.{Effect, gives}
use Rattle.b67_table.specs.Private.{floor, frame}
use Rattle.b67_table.specs.Rows.{TableRow, private_part, row}
use Rattle.b67_table.specs.Table.{private_op, part_by, class_at, class_by}
use Rattle.b67_standing.specs.Stepping.{Slot}
use Rattle.b67_cores.specs.Cores.{Core, size, CoreStep, CoreSteps, here, onward}
use Rattle.b67_cores.specs.Slots.{Known, newest, SlotsAre}
use Rattle.b67_cores.proofs.PartRows.{part}

-- ---- stretches

pub steps_on : {code : Code} {bound n : ℕ} {a b : Core} {m : ℕ} {c : Core} → CoreSteps code bound n a b → CoreSteps code bound m b c → CoreSteps code bound (n + m) a c
steps_on {code} {bound} {m = m} {c = c} (here {a = a} h) later = let same : m ≡ 0 + m = omega arith in subst (λ k. CoreSteps code bound k a c) same later
steps_on {code} {bound} {m = m} {c = c} (onward {n = n} {a = a} h s more) later =
    let same : n + m + 1 ≡ n + 1 + m = omega arith in
    subst (λ k. CoreSteps code bound k a c) same (onward h s (steps_on more later))

-- ---- operators that stand somewhere

pub place_grows : {ps : List Placed} {at level : ℕ} {op : Operator} {next : ℕ} → StandsAmong ps at level op next → at < next
place_grows {at = at} {level = level} {op = op} s = omega (arith, s.next_is, (length_spelling at level op).0)

-- ---- the core of a frame

-- a frame of a code: what its core has below the floor, and where its operators stand
pub record Standing (code : Code) (ps : List Placed) (level most bound : ℕ) (core : Core) : Type 0 where
  pub segment : Segment
  pub there : slice_get code.segments core.registers.segment ≡ Some segment
  pub spells : Spells ps segment
  pub level_is : core.registers.ll ≡ level
  pub bottom : length core.below ≡ floor core.registers
  pub room : length core.below + most ≤ bound

-- the registers of the core at a place over these slots, but for S
abbrev pub registers_at : Core → ℕ → List Slot → Registers
registers_at core place slots =
    record core.registers { f = newest (frame core.registers) (length core.below) slots; place = place }

-- the core at a place, with these words, which are these slots
abbrev pub moved : Core → ℕ → List Slot → List Word → Core
moved core place slots words = record {
  below = core.below;
  words = words;
  registers = record core.registers {
    s = length core.below + length words;
    f = newest (frame core.registers) (length core.below) slots;
    place = place;
  };
}

module _ (sc : Scopes) (known : List Known) (level home base : ℕ) where
  -- there are as many words as slots
  pub slots_length : (slots : List Slot) (words : List Word) → SlotsAre sc known level home base slots words → length words ≡ length slots
  slots_length [] [] are = refl
  slots_length [] (w ∷ ws) are = absurd are
  slots_length (slot ∷ slots) [] are = absurd are
  slots_length (slot ∷ slots) (w ∷ ws) are = omega (arith, slots_length slots ws are.1)

module _ (sc : Scopes) (known : List Known) (code : Code) (ps : List Placed) (level most bound : ℕ) (core : Core) where
  abbrev pub Are : List Slot → List Word → Type 0
  Are = SlotsAre sc known level (frame core.registers) (length core.below)

  -- private operators lead from words at a place to those of other slots, at most as many as there are syllables between
  pub record Reaches (from : ℕ) (x : List Slot) (words : List Word) (to : ℕ) (y : List Slot) : Type 0 where
    pub count : ℕ
    pub left : List Word
    pub are : Are y left
    pub steps : CoreSteps code bound count (moved core from x words) (moved core to y left)
    pub few : count + from ≤ to
    pub room : length y ≤ most

  -- so they do from whatever words are those slots
  abbrev pub Performs : ℕ → List Slot → ℕ → List Slot → Type 0
  Performs from x to y = (words : List Word) → Are x words → length x ≤ most → Reaches from x words to y

  module _ (st : Standing code ps level most bound core) where
    pub nothing : (place : ℕ) (x : List Slot) → Performs place x place x
    nothing place x words are room =
        let small : size (moved core place x words) ≤ bound =
        omega (arith, slots_length sc known level (frame core.registers) (length core.below) x words are, st.room) in
        record { count = 0; left = words; are = are; steps = here small; few = omega arith; room = room }

    pub on : {a b c : ℕ} {x y z : List Slot} → Performs a x b y → Performs b y c z → Performs a x c z
    on {a} {b} {c} {x} {y} {z} f g words are room =
        let first : Reaches a x words b y = f words are room in
        let second : Reaches b y first.left c z = g first.left first.are first.room in
        record {
          count = first.count + second.count;
          left = second.left;
          are = second.are;
          steps = steps_on first.steps second.steps;
          few = omega (arith, first.few, second.few);
          room = second.room;
        }

    fetched_here : (place : ℕ) (op : Operator) (next : ℕ) → StandsAmong ps place level op next
        → fetched code (record { segment = core.registers.segment; place = place }) core.registers.ll ≡ Ok (op, next)
    fetched_here place op next s =
        ap (λ l. fetched code (record { segment = core.registers.segment; place = place }) l) st.level_is
        ∙ fetched_spelled code core.registers.segment st.there st.spells s

    class_is : (op : Operator) (place : ℕ) (change : ℕ → Private → Effect Private) → row op place ≡ private_part change → class_at op place ≡ classes.Private
    unfolding class_at
    class_is op place change e = ap class_by e

    effect_is : (op : Operator) (place next : ℕ) (change : ℕ → Private → Effect Private) (p : Private) → row op place ≡ private_part change
        → private_op op place next p ≡ change next p
    unfolding private_op
    effect_is op place next change p e = ap (λ (w : TableRow). part_by w next p) e

    -- one private operator
    pub single : (from next to : ℕ) (op : Operator) (x y : List Slot) (words left : List Word) (s : ℕ) (change : ℕ → Private → Effect Private)
        → StandsAmong ps from level op next → row op from ≡ private_part change → from < to → Are x words → length x ≤ most → Are y left → length y ≤ most
        → s ≡ length core.below + length left
        → change next (part (registers_at core from x) (length core.below + length words) words) ≡ gives (part (registers_at core to y) s left)
        → Reaches from x words to y
    single from next to op x y words left s change stands e forward are room are' room' long effect =
        let first : size (moved core from x words) ≤ bound =
        omega (arith, slots_length sc known level (frame core.registers) (length core.below) x words are, st.room) in
        let last : size (moved core to y left) ≤ bound =
        omega (arith, slots_length sc known level (frame core.registers) (length core.below) y left are', st.room) in
        let step : CoreStep code (moved core from x words) (moved core to y left) = record {
          op = op;
          next = next;
          stands = fetched_here from op next stands;
          private = class_is op from change e;
          part = part (registers_at core to y) s left;
          effect = effect_is op from next change (part (registers_at core from x) (length core.below + length words) words) e ∙ effect;
          registers = ap (λ n. record (registers_at core to y) { s = n }) (sym long);
          stack = refl;
          is = record { bottom = st.bottom; top = refl };
        } in
        record {
          count = 0 + 1;
          left = left;
          are = are';
          steps = onward first step (here last);
          few = omega arith;
          room = room';
        }
