-- Each operator of a fragment, from slots to slots.
use Rattle.std.proofs.Common.{◌≡◌, refl, sym, ap, ◌∙◌, ℕ, ◌+◌, ◌-◌, ◌<◌, Bool, true, false, List, [], ◌∷◌, length, cond, arith}
use Rattle.std.specs.Prelude.{nat_eq, if◌then◌else◌}
use Rattle.std.proofs.lemmas.Bool.{lt-ltb}
use Rattle.algol_tree.specs.Scopes.{Scopes}
use Rattle.algol_meaning.specs.Value.{Value, truth}
use Rattle.b67_word.specs.Word.{Word}
use Rattle.b67_ops.specs.declared.Operator.{Operator}
use Rattle.b67_ops.specs.declared.Operator.TheVariants as ops
use Rattle.b67_ops.specs.declared.PlainKind.{PlainKind}
use Rattle.b67_ops.specs.declared.PlainKind.TheVariants as kinds
use Rattle.b67_ops.specs.declared.BranchKind.{BranchKind}
use Rattle.b67_ops.specs.declared.BranchKind.TheVariants.{Brfl, Brtr, Brun}
use Rattle.b67_segment.specs.Operators.{Placed}
use Rattle.b67_segment.specs.declared.code.Code.{Code}
use Rattle.b67_table.specs.declared.Private.{Private}
use Rattle.b67_table.specs.Effect.{Effect, gives, ◌>>=◌}
use Rattle.b67_table.specs.Private.{frame, push}
use Rattle.b67_table.specs.PrivateRows.{pointed, onward, dropped, exchanged, doubled, open_mark, mark as mark_row, is_taken, branch}
use Rattle.b67_table.specs.Rows.{private_part, row, row_of_own, pushes, acts, branch_turn}
use Rattle.b67_templates.specs.Fragments.{Has, BranchAt}
use Rattle.b67_standing.specs.Stepping.{HeldWord, Slot, operand, reference, intrinsic, control, descriptor, mark, SlotsHaveRoom}
use Rattle.b67_cores.specs.Cores.{Core}
use Rattle.b67_cores.specs.Slots.{Known, IsTruth, newest, SlotIs}
use Rattle.b67_cores.proofs.PartRows.{part, dropped_is, doubled_is, exchanged_is, mark_is, by_bit_is}
use Rattle.b67_cores.proofs.Taking.{Takes, Turns}
use Rattle.b67_cores.proofs.Moving.{place_grows, Standing, registers_at, slots_length, Performs, single}

-- ---- branches

branch_row : (kind : BranchKind) (target place : ℕ) → place < target → row (ops.Branch kind target) place ≡ private_part (branch kind target)
unfolding row
branch_row kind target place h = ap (λ b. cond b (private_part (branch kind target)) (acts (branch_turn kind target))) (lt-ltb place target h)

either_grows : (b : Bool) (from m n : ℕ) → from < m → from < n → from < (if b then m else n)
either_grows true from m n h k = h
either_grows false from m n h k = k

true_taken : (b : Bool) (w : Word) → IsTruth b w → is_taken Brtr w.bits ≡ b
true_taken true w i = ap (λ k. nat_eq k 1) i.lowest
true_taken false w i = ap (λ k. nat_eq k 1) i.lowest

false_taken : (b : Bool) (m n : ℕ) (w : Word) → IsTruth b w → (if is_taken Brfl w.bits then m else n) ≡ (if b then n else m)
false_taken true m n w i = ap (λ k. if nat_eq k 0 then m else n) i.lowest
false_taken false m n w i = ap (λ k. if nat_eq k 0 then m else n) i.lowest

-- ---- marks

pub newest_low : (home base : ℕ) (slots : List Slot) → home < base → newest home base slots < base + length slots
newest_low home base [] h = omega (arith, h)
newest_low home base (operand v ∷ below) h = omega (arith, newest_low home base below h)
newest_low home base (reference n ∷ below) h = omega (arith, newest_low home base below h)
newest_low home base (intrinsic i ∷ below) h = omega (arith, newest_low home base below h)
newest_low home base (control c ∷ below) h = omega (arith, newest_low home base below h)
newest_low home base (descriptor d ∷ below) h = omega (arith, newest_low home base below h)
newest_low home base (mark ∷ below) h = omega arith

mark_row_is : (place : ℕ) → row (ops.Plain kinds.Mkst) place ≡ row_of_own mark_row
unfolding row
mark_row_is place = refl

module _ (sc : Scopes) (known : List Known) (code : Code) (ps : List Placed) (level most bound : ℕ) (core : Core) (st : Standing code ps level most bound core) where
  abbrev pub Goes : ℕ → List Slot → ℕ → List Slot → Type 0
  Goes = Performs sc known code ps level most bound core

  abbrev base : ℕ
  base = length core.below

  abbrev after : ℕ → Effect Private → Effect Private
  after next e = e >>= (λ (q : Private). gives (pointed next q))

  -- a word is pushed
  pub pushed : (from next : ℕ) (op : Operator) (slot : Slot) (x : List Slot) (w : Word) → Has ps level from op next → row op from ≡ pushes w
      → SlotIs sc known level (frame core.registers) (length core.below) x slot w
      → newest (frame core.registers) (length core.below) (slot ∷ x) ≡ newest (frame core.registers) (length core.below) x → SlotsHaveRoom most x 1
      → Goes from x next (slot ∷ x)
  pushed from next op slot x w stands e is same room words are r =
      single sc known code ps level most bound core st from next next op x (slot ∷ x) words (w ∷ words) (base + length words + 1)
      (onward (λ (p : Private). gives (push w p))) stands e (place_grows stands) are r (is, are) (omega (arith, room)) (omega arith)
      (ap (λ f. gives (part (record core.registers { f = f; place = next }) (base + length words + 1) (w ∷ words))) (sym same))

  -- two values are replaced by one
  pub binary : (from next : ℕ) (kind : PlainKind) (change : Private → Effect Private) (a b c : Value) (x : List Slot) → Has ps level from (ops.Plain kind) next
      → row (ops.Plain kind) from ≡ row_of_own change → Takes change a b c → Goes from (operand b ∷ operand a ∷ x) next (operand c ∷ x)
  binary from next kind change a b c x stands e takes [] are r = absurd are
  binary from next kind change a b c x stands e takes (w ∷ []) are r = absurd are.1
  binary from next kind change a b c x stands e takes (w ∷ v ∷ rest) are r =
      let t = takes v w are.1.0 are.0 in
      single sc known code ps level most bound core st from next next (ops.Plain kind) (operand b ∷ operand a ∷ x) (operand c ∷ x) (w ∷ v ∷ rest) (t.word ∷ rest)
      (base + length (w ∷ v ∷ rest) - 1 - 1 + 1) (onward change) stands e (place_grows stands) are r (t.is, are.1.1) (omega (arith, r)) (omega arith)
      (ap (after next) (t.given (registers_at core from (operand b ∷ operand a ∷ x)) (base + length (w ∷ v ∷ rest)) rest (omega (arith, st.bottom))))

  -- one value is replaced by another
  pub unary : (from next : ℕ) (kind : PlainKind) (change : Private → Effect Private) (a b : Value) (x : List Slot) → Has ps level from (ops.Plain kind) next
      → row (ops.Plain kind) from ≡ row_of_own change → Turns change a b → Goes from (operand a ∷ x) next (operand b ∷ x)
  unary from next kind change a b x stands e turns [] are r = absurd are
  unary from next kind change a b x stands e turns (w ∷ rest) are r =
      let t = turns w are.0 in
      single sc known code ps level most bound core st from next next (ops.Plain kind) (operand a ∷ x) (operand b ∷ x) (w ∷ rest) (t.word ∷ rest)
      (base + length (w ∷ rest) - 1 + 1) (onward change) stands e (place_grows stands) are r (t.is, are.1) (omega (arith, r)) (omega arith)
      (ap (after next) (t.given (registers_at core from (operand a ∷ x)) (base + length (w ∷ rest)) rest (omega (arith, st.bottom))))

  -- ---- words on the stack

  pub double : (from next : ℕ) (v : Value) (x : List Slot) → Has ps level from (ops.Plain kinds.Dupl) next → SlotsHaveRoom most x 2
      → Goes from (operand v ∷ x) next (operand v ∷ operand v ∷ x)
  unfolding row
  double from next v x stands room [] are r = absurd are
  double from next v x stands room (w ∷ rest) are r =
      single sc known code ps level most bound core st from next next (ops.Plain kinds.Dupl) (operand v ∷ x) (operand v ∷ operand v ∷ x) (w ∷ rest) (w ∷ w ∷ rest)
      (base + length (w ∷ rest) - 1 + 1 + 1) (onward doubled) stands refl (place_grows stands) are r (are.0, are) (omega (arith, room)) (omega arith)
      (ap (after next) (doubled_is (registers_at core from (operand v ∷ x)) (base + length (w ∷ rest)) w rest (omega (arith, st.bottom))))

  -- two slots change places, of which neither is a mark
  exchanging : (from next : ℕ) (upper lower : Slot) (x : List Slot) → Has ps level from (ops.Plain kinds.Exch) next
      → ((w : Word) → SlotIs sc known level (frame core.registers) (length core.below) (lower ∷ x) upper w
      → SlotIs sc known level (frame core.registers) (length core.below) x upper w)
      → ((w : Word) → SlotIs sc known level (frame core.registers) (length core.below) x lower w
      → SlotIs sc known level (frame core.registers) (length core.below) (upper ∷ x) lower w)
      → newest (frame core.registers) (length core.below) (upper ∷ lower ∷ x) ≡ newest (frame core.registers) (length core.below) (lower ∷ upper ∷ x)
      → Goes from (upper ∷ lower ∷ x) next (lower ∷ upper ∷ x)
  unfolding row
  exchanging from next upper lower x stands down up same [] are r = absurd are
  exchanging from next upper lower x stands down up same (w ∷ []) are r = absurd are.1
  exchanging from next upper lower x stands down up same (w ∷ y ∷ rest) are r =
      single sc known code ps level most bound core st from next next (ops.Plain kinds.Exch) (upper ∷ lower ∷ x) (lower ∷ upper ∷ x)
      (w ∷ y ∷ rest) (y ∷ w ∷ rest) (base + length (w ∷ y ∷ rest) - 1 - 1 + 1 + 1) (onward exchanged) stands refl (place_grows stands) are r
      (up y are.1.0, (down w are.0, are.1.1)) (omega (arith, r)) (omega arith)
      (ap (after next) (exchanged_is (registers_at core from (upper ∷ lower ∷ x)) (base + length (w ∷ y ∷ rest)) y w rest (omega (arith, st.bottom)))
      ∙ ap (λ f. gives (part (record core.registers { f = f; place = next }) (base + length (w ∷ y ∷ rest) - 1 - 1 + 1 + 1) (y ∷ w ∷ rest))) same)

  pub exchange : (from next : ℕ) (u v : Value) (x : List Slot) → Has ps level from (ops.Plain kinds.Exch) next
      → Goes from (operand v ∷ operand u ∷ x) next (operand u ∷ operand v ∷ x)
  exchange from next u v x stands = exchanging from next (operand v) (operand u) x stands (λ w i. i) (λ w i. i) refl

  -- a descriptor comes on top
  pub exchange_descriptor : (from next : ℕ) (v : Value) (h : HeldWord) (x : List Slot) → Has ps level from (ops.Plain kinds.Exch) next
      → Goes from (operand v ∷ descriptor h ∷ x) next (descriptor h ∷ operand v ∷ x)
  exchange_descriptor from next v h x stands = exchanging from next (operand v) (descriptor h) x stands (λ w i. i) (λ w i. i) refl

  pub dropping : (from next : ℕ) (v : Value) (x : List Slot) → Has ps level from (ops.Plain kinds.Dlet) next → Goes from (operand v ∷ x) next x
  unfolding row
  dropping from next v x stands [] are r = absurd are
  dropping from next v x stands (w ∷ rest) are r =
      single sc known code ps level most bound core st from next next (ops.Plain kinds.Dlet) (operand v ∷ x) x (w ∷ rest) rest
      (base + length (w ∷ rest) - 1) (onward dropped) stands refl (place_grows stands) are r are.1 (omega (arith, r)) (omega arith)
      (ap (after next) (dropped_is (registers_at core from (operand v ∷ x)) (base + length (w ∷ rest)) w rest (omega (arith, st.bottom))))

  -- ---- branches

  -- goes where the value is true
  pub if_true : (from target next : ℕ) (b : Bool) (x : List Slot) → BranchAt ps level Brtr from target next → Goes from (operand (truth b) ∷ x) (if b then target else next) x
  if_true from target next b x at [] are r = absurd are
  if_true from target next b x at (w ∷ rest) are r =
      single sc known code ps level most bound core st from next (if b then target else next) (ops.Branch Brtr target) (operand (truth b) ∷ x) x (w ∷ rest) rest
      (base + length (w ∷ rest) - 1) (branch Brtr target) at.stands (branch_row Brtr target from at.forward)
      (either_grows b from target next at.forward (place_grows at.stands)) are r are.1 (omega (arith, r)) (omega arith)
      (by_bit_is (registers_at core from (operand (truth b) ∷ x)) Brtr target next (base + length (w ∷ rest)) w rest are.0.tag (omega (arith, st.bottom))
      ∙ ap (λ t. gives (pointed (if t then target else next) (part (registers_at core from x) (base + length (w ∷ rest) - 1) rest))) (true_taken b w are.0))

  -- goes where it is false
  pub if_false : (from target next : ℕ) (b : Bool) (x : List Slot) → BranchAt ps level Brfl from target next → Goes from (operand (truth b) ∷ x) (if b then next else target) x
  if_false from target next b x at [] are r = absurd are
  if_false from target next b x at (w ∷ rest) are r =
      single sc known code ps level most bound core st from next (if b then next else target) (ops.Branch Brfl target) (operand (truth b) ∷ x) x (w ∷ rest) rest
      (base + length (w ∷ rest) - 1) (branch Brfl target) at.stands (branch_row Brfl target from at.forward)
      (either_grows b from next target (place_grows at.stands) at.forward) are r are.1 (omega (arith, r)) (omega arith)
      (by_bit_is (registers_at core from (operand (truth b) ∷ x)) Brfl target next (base + length (w ∷ rest)) w rest are.0.tag (omega (arith, st.bottom))
      ∙ ap (λ t. gives (pointed t (part (registers_at core from x) (base + length (w ∷ rest) - 1) rest))) (false_taken b target next w are.0))

  pub going : (from target next : ℕ) (x : List Slot) → BranchAt ps level Brun from target next → Goes from x target x
  going from target next x at words are r =
      single sc known code ps level most bound core st from next target (ops.Branch Brun target) x x words words (base + length words) (branch Brun target) at.stands
      (branch_row Brun target from at.forward) at.forward are r are r refl refl

  -- ---- a mark

  pub marking : (from next : ℕ) (x : List Slot) → Has ps level from (ops.Plain kinds.Mkst) next → SlotsHaveRoom most x 1 → Goes from x next (mark ∷ x)
  marking from next x stands room words are r =
      let long : length words ≡ length x = slots_length sc known level (frame core.registers) (length core.below) x words are in
      let low : newest (frame core.registers) (length core.below) x < base + length words =
      omega (arith, newest_low (frame core.registers) (length core.below) x (omega (arith, st.bottom)), long) in
      single sc known code ps level most bound core st from next next (ops.Plain kinds.Mkst) x (mark ∷ x) words
      (open_mark (base + length words - newest (frame core.registers) (length core.below) x) ∷ words)
      (base + length words + 1) (onward mark_row) stands (mark_row_is from) (place_grows stands) are r
      (ap (λ n. open_mark (base + n - newest (frame core.registers) (length core.below) x)) long, are) (omega (arith, room)) (omega arith)
      (ap (after next) (mark_is (registers_at core from x) (base + length words) words low)
      ∙ ap (λ n. gives (part (record core.registers { f = base + n; place = next }) (base + length words + 1)
      (open_mark (base + length words - newest (frame core.registers) (length core.below) x) ∷ words))) long)
