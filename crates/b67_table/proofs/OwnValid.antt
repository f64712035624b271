-- An image in which a process has other words in its stack, and other registers: valid, where they are what a process's are.
use Rattle.std.proofs.Common.{◌≡◌, ◌≢◌, refl, sym, ap, subst, ◌∙◌, ℕ, zero, suc, ◌+◌, ◌<◌, ◌≤◌, true, List, length, All, Some, arith}
use Rattle.std.specs.Prelude.{is_some, slice_get}
use Rattle.std.proofs.Math.Decide.{ℕ_discrete}
use Rattle.std.proofs.lemmas.List.{length-set}
use Rattle.b67_list.specs.Numbered.{numbered, set_numbered}
use Rattle.b67_word.specs.declared.Place.{Place}
use Rattle.b67_word.specs.Word.{Word, IsWord}
use Rattle.b67_control.specs.declared.Registers.{Registers}
use Rattle.b67_control.specs.Control.{as_mscw, as_rcw}
use Rattle.b67_segment.specs.declared.code.Code.{Code}
use Rattle.b67_store.specs.Store.{stack_at, words_of, words_or, with_stack}
use Rattle.b67_store.proofs.StoreLaws.{changed_others}
use Rattle.b67_table.specs.Look.{read_as}
use Rattle.b67_table.specs.Chains.{place}
use Rattle.b67_table.specs.Image.{Image, is_live}
use Rattle.b67_table.specs.Valid.{IsFrame, IsProcess, IsValid}
use Rattle.b67_table.proofs.Stacks.{set_here, get_numbered_other}
use Rattle.b67_table.proofs.Lists.{numbered_set, numbered_within}
use Rattle.b67_table.proofs.FirstValid.{counted, open_is}

abbrev pub own_image : Image → ℕ → List Word → Registers → Image
own_image img p words s = record img { stacks = with_stack img.stacks p words; regs = set_numbered img.regs p s }

pub length_numbered : (rs : List Registers) (p : ℕ) (r : Registers) → length (set_numbered rs p r) ≡ length rs
length_numbered rs zero r = refl
length_numbered rs (suc k) r = length-set rs k r

some_is : (a b : Registers) → Some a ≡ Some b → b ≡ a
some_is a b e = cc

-- a frame whose stack is as it was
pub frame_stays : (x y : Image) (f : Place) → words_of y.stacks f.stack ≡ words_of x.stacks f.stack → IsFrame x f → IsFrame y f
frame_stays x y f e k = record {
  mark = k.mark;
  marked = ap (λ (ws : List Word). read_as as_mscw (slice_get ws f.at)) e ∙ k.marked;
  entered = k.entered;
  control = k.control;
  controlled = ap (λ (ws : List Word). read_as as_rcw (slice_get ws (f.at + 1))) e ∙ k.controlled;
}

-- a process whose stack is as it was
pub process_stays : (x y : Image) (q : ℕ) (r : Registers) → words_of y.stacks q ≡ words_of x.stacks q → IsProcess x q r → IsProcess y q r
process_stays x y q r e k = record {
  stack = k.stack;
  size = k.size ∙ ap length (sym e);
  room = k.room;
  display = k.display;
  frame = k.frame;
  own = k.own;
  is_frame = frame_stays x y (place q k.frame) e k.is_frame;
  above = k.above;
  mark = k.mark;
  cells = k.cells;
  segment = k.segment;
  pointer = k.pointer;
}

module _ (code : Code) (img : Image) (p : ℕ) (r : Registers) (v : IsValid code img) (live : is_live (numbered img.states p) ≡ true)
    (has : numbered img.regs p ≡ Some r) where
  pub opened : stack_at img.stacks p ≡ Some (words_of img.stacks p)
  opened = open_is (stack_at img.stacks p) (v.stacks p (counted p r img.regs has) ∙ live)

  pub words_here : (words : List Word) → words_of (with_stack img.stacks p words) p ≡ words
  words_here words = ap words_or (set_here img.stacks p (words_of img.stacks p) words opened)

  other_words : (words : List Word) (n : ℕ) → n ≢ p → words_of (with_stack img.stacks p words) n ≡ words_of img.stacks n
  other_words words n h = ap words_or (changed_others img.stacks p n (Some words) h)

  all_words : (words : List Word) → All IsWord words → (n : ℕ) → Dec (n ≡ p) → All IsWord (words_of (with_stack img.stacks p words) n)
  all_words words a n (yes e) = subst (λ (m : ℕ). All IsWord (words_of (with_stack img.stacks p words) m)) (sym e) (subst (All IsWord) (sym (words_here words)) a)
  all_words words a n (no h) = subst (All IsWord) (sym (other_words words n h)) (v.words n)

  all_stacks : (words : List Word) (q : ℕ) → 1 ≤ q → Dec (q ≡ p) → is_some (stack_at (with_stack img.stacks p words) q) ≡ is_live (numbered img.states q)
  all_stacks words q one (yes e) =
      subst (λ (m : ℕ). is_some (stack_at (with_stack img.stacks p words) m) ≡ is_live (numbered img.states m)) (sym e)
      (ap is_some (set_here img.stacks p (words_of img.stacks p) words opened) ∙ sym live)
  all_stacks words q one (no h) = ap is_some (changed_others img.stacks p q (Some words) h) ∙ v.stacks q one

  here : (s : Registers) → numbered (set_numbered img.regs p s) p ≡ Some s
  here s = numbered_set img.regs p s (counted p r img.regs has) (numbered_within img.regs p r has)

  all_processes : (words : List Word) (s : Registers) → IsProcess (own_image img p words s) p s → (q : ℕ) (t : Registers) → Dec (q ≡ p)
      → is_live (numbered img.states q) ≡ true → numbered (set_numbered img.regs p s) q ≡ Some t → IsProcess (own_image img p words s) q t
  all_processes words s k q t (yes e) l i =
      let same : t ≡ s = some_is s t (sym (here s) ∙ subst (λ (m : ℕ). numbered (set_numbered img.regs p s) m ≡ Some t) e i) in
      subst (λ (u : Registers). IsProcess (own_image img p words s) q u) (sym same)
      (subst (λ (m : ℕ). IsProcess (own_image img p words s) m s) (sym e) k)
  all_processes words s k q t (no h) l i =
      process_stays img (own_image img p words s) q t (other_words words q h) (v.processes q t l (sym (get_numbered_other img.regs p q s h) ∙ i))

  all_earlier : (s : Registers) → s.critical ≡ r.critical → (q : ℕ) (t : Registers) → Dec (q ≡ p) → numbered (set_numbered img.regs p s) q ≡ Some t
      → (c : Place) → t.critical ≡ Some c → c.stack < q
  all_earlier s e q t (yes i) j c k =
      let same : t ≡ s = some_is s t (sym (here s) ∙ subst (λ (m : ℕ). numbered (set_numbered img.regs p s) m ≡ Some t) i j) in
      subst (λ (m : ℕ). c.stack < m) (sym i) (v.earlier p r has c (sym e ∙ ap (λ (u : Registers). u.critical) (sym same) ∙ k))
  all_earlier s e q t (no h) j c k = v.earlier q t (sym (get_numbered_other img.regs p q s h) ∙ j) c k

  pub not_zero : 0 ≢ p
  not_zero e = absurd (omega (arith, counted p r img.regs has, e))

  pub own_valid : (words : List Word) (s : Registers) → All IsWord words → s.critical ≡ r.critical → IsProcess (own_image img p words s) p s
      → IsValid code (own_image img p words s)
  own_valid words s a e k = record {
    segments = v.segments;
    words = λ n. all_words words a n (ℕ_discrete n p);
    registers = length_numbered img.regs p s ∙ v.registers;
    states = v.states;
    numbers = v.numbers;
    positions = v.positions;
    some = v.some;
    most = v.most;
    system = changed_others img.stacks p 0 (Some words) not_zero ∙ v.system;
    stacks = λ q one. all_stacks words q one (ℕ_discrete q p);
    processes = λ q t l i. all_processes words s k q t (ℕ_discrete q p) l i;
    earlier = λ q t i. all_earlier s e q t (ℕ_discrete q p) i;
    rows = record { few = v.rows.few; room = v.rows.room; short = v.rows.short; words = v.rows.words; shallow = v.rows.shallow };
    events = v.events;
  }
