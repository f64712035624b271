-- What is done on a copy of a process's whole stack.
use Rattle.std.specs.Prelude.{reverse}
use Rattle.std.proofs.Common.{◌≡◌, refl, sym, ap, subst, ◌∙◌, ℕ, ◌+◌, ◌-◌, ◌≤◌, true, List, [], length, take, drop, append-nil, Option, Some, None, arith}
use Rattle.std.proofs.lemmas.List.{reverse-reverse, length-reverse, length-take-le}
use Rattle.b67_list.specs.Numbered.{numbered, set_numbered}
use Rattle.b67_word.specs.Word.{Word}
use Rattle.b67_control.specs.declared.Registers.{Registers}
use Rattle.b67_deeds.specs.declared.Letter.{Letter}
use Rattle.b67_segment.specs.declared.code.Code.{Code}
use Rattle.b67_store.specs.Store.{words_of, with_stack, stack_limit, left_in}
use Rattle.b67_table.specs.declared.Private.{Private}
use Rattle.b67_table.specs.Image.{Image, with_private, is_able, is_live}
use Rattle.b67_table.specs.Valid.{IsValid}
use Rattle.b67_table.proofs.FirstValid.{counted}
use Rattle.b67_table.proofs.Lists.{numbered_set, numbered_within}
use Rattle.b67_table.proofs.Waking.{able_live}
use Rattle.b67_operators.specs.Leaves.{IsLinkedIn}
use Rattle.b67_linkage.proofs.Linked.{live_are_linked}
use Rattle.b67_private.specs.Parts.{IsPrivatePart, part_with}
use Rattle.b67_private.proofs.Rooms.{from_base, left_is}
use Rattle.b67_private.proofs.ValidParts.{valid_whole}
use Rattle.b67_action.specs.Own.{part_from}
use Rattle.b67_action.specs.declared.running.Ran.{Ran}
use Rattle.b67_action.specs.Running.{IsLent, given_back, HasRun}
use Rattle.b67_machine.specs.Parts.{kept_from, bottom, whole_part, IsFull}
use Rattle.b67_machine.specs.Chaining.{RunsTo}
use Rattle.b67_machine.proofs.Plainly.{live_there}

-- ---- the whole part of a process

-- a process with this whole part has its registers, and its words are those of its stack
pub record HasWhole (img : Image) (o : Option Registers) (part : Private) : Type 0 where
  pub has : o ≡ Some part.regs
  pub words : words_of img.stacks part.regs.stack ≡ reverse part.words

whole_by : (img : Image) (o : Option Registers) (part : Private) → kept_from bottom img o ≡ Some part → HasWhole img o part
whole_by img None part e = cc
whole_by img (Some r) part e =
    let there : Some (part_from 0 img.stacks r) ≡ Some part = e in
    let same : part_from 0 img.stacks r ≡ part = cc in
    let regs : r ≡ part.regs = ap (λ (x : Private). x.regs) same in
    let words : reverse (words_of img.stacks r.stack) ≡ part.words = ap (λ (x : Private). x.words) same in
    record {
      has = ap (λ (q : Registers). Some q) regs;
      words = ap (λ (q : Registers). words_of img.stacks q.stack) (sym regs) ∙ sym (reverse-reverse (words_of img.stacks r.stack)) ∙ ap reverse words;
    }

pub whole_of : (img : Image) (p : ℕ) (part : Private) → whole_part img p ≡ Some part → HasWhole img (numbered img.regs p) part
whole_of img p part e = whole_by img (numbered img.regs p) part e

pub whole_is_part : (code : Code) (img : Image) (p : ℕ) (part : Private) → IsValid code img → is_able (numbered img.states p) ≡ true → whole_part img p ≡ Some part → IsPrivatePart part
whole_is_part code img p part v able e =
    let h = whole_of img p part e in
    let words : reverse (words_of img.stacks part.regs.stack) ≡ part.words = ap reverse h.words ∙ reverse-reverse part.words in
    subst (λ (ws : List Word). IsPrivatePart (part_with part.regs ws)) words (valid_whole code img p part.regs v (able_live (numbered img.states p) able) h.has)

-- ---- on the room of a copy

-- the part with these words of a room
abbrev pub end_in : Registers → List Word → Private
end_in q last = part_with q (reverse (take q.s last))

module _ (code : Code) (start : Private) (room last : List Word) (q : Registers) (full : IsFull start) (words : reverse (take (0 + length start.words) room) ≡ start.words) where
  pub lent_whole : (img : Image) (p : ℕ) → IsValid code img → is_able (numbered img.states p) ≡ true → whole_part img p ≡ Some start → IsLent code img p start.regs room
  lent_whole img p v able e =
      let h = whole_of img p start e in
      let all : 0 + length start.words ≡ start.regs.s = omega (arith, full) in
      record {
        valid = v;
        able = able;
        has = h.has;
        words = h.words ∙ ap reverse (sym words) ∙ reverse-reverse (take (0 + length start.words) room) ∙ ap (λ (n : ℕ). take n room) all;
      }

  back_whole : (img : Image) (p : ℕ) → given_back q last p img ≡ with_private img p 0 (end_in q last)
  back_whole img p = ap (λ (ws : List Word). record img { stacks = with_stack img.stacks q.stack ws; regs = set_numbered img.regs p q }) (sym (reverse-reverse (take q.s last)))

  module _ (p most : ℕ) (ran : Ran) (noted : List Letter) (run : (img : Image) → IsLent code img p start.regs room → HasRun code p most img ran noted (given_back q last p img)) where
    pub runs_whole : RunsTo code p most start ran noted (end_in q last)
    runs_whole img v able e = subst (HasRun code p most img ran noted) (back_whole img p) (run img (lent_whole img p v able e))

    -- its words are those of a stack
    pub end_within : (img : Image) → IsValid code img → is_able (numbered img.states p) ≡ true → whole_part img p ≡ Some start → q.s ≤ stack_limit
    end_within img v able e =
        let l = lent_whole img p v able e in
        let live : is_live (numbered img.states p) ≡ true = able_live (numbered img.states p) able in
        ((run img l).valid.processes p q live (numbered_set img.regs p q (counted p start.regs img.regs l.has) (numbered_within img.regs p start.regs l.has))).room

  module _ (long : length last ≡ length room) (size : length room ≡ stack_limit) (within : q.s ≤ stack_limit) where
    pub end_full : IsFull (end_in q last)
    end_full = length-reverse (take q.s last) ∙ length-take-le q.s last (omega (arith, long, size, within))

    -- what is left of the words, where all of the room are theirs and the topmost are cut
    pub end_left : drop (stack_limit - q.s) (reverse (left_in room last)) ≡ reverse (take q.s last)
    end_left =
        ap (λ (ws : List Word). drop (stack_limit - q.s) (reverse ws)) (left_is room last long)
        ∙ ap (λ (n : ℕ). drop (n - q.s) (reverse last)) (sym (long ∙ size))
        ∙ from_base last (reverse (take q.s last)) [] 0 q.s refl (omega arith) (omega (arith, long, size, within)) (sym (append-nil (reverse (take q.s last))))

    pub enough : stack_limit - q.s ≤ length (reverse (left_in room last))
    enough = subst (λ (ws : List Word). stack_limit - q.s ≤ length (reverse ws)) (sym (left_is room last long)) (omega (arith, length-reverse last, long, size))

-- ---- put in place of a process's own

module _ (code : Code) (img : Image) (p most : ℕ) (end : Private) (ran : Ran) (noted : List Letter) (v : IsValid code img) (able : is_able (numbered img.states p) ≡ true)
    (run : HasRun code p most img ran noted (with_private img p 0 end)) where
  live : is_live (numbered img.states p) ≡ true
  live = able_live (numbered img.states p) able

  found : (r : Registers) × (numbered img.regs p ≡ Some r)
  found = live_there code img p v live

  pub linked_put : IsLinkedIn img.stacks img.rows (numbered img.regs p)
  linked_put = subst (λ (o : Option Registers). IsLinkedIn img.stacks img.rows o) (sym found.1) (live_are_linked code img p found.0 v live found.1)

  pub room_put : IsFull end → length end.words ≤ stack_limit
  room_put full =
      omega (arith, full, (run.valid.processes p end.regs live (numbered_set img.regs p end.regs (counted p found.0 img.regs found.1) (numbered_within img.regs p found.0 found.1))).room)

  pub number_put : (1 ≤ p) × (p ≤ length img.regs)
  number_put = (counted p found.0 img.regs found.1, numbered_within img.regs p found.0 found.1)

-- the run of a machine whose code and image are these
pub run_on : (code here : Code) (img now : Image) (p most : ℕ) (end : Private) (ran : Ran) (noted : List Letter) → code ≡ here → img ≡ now
    → HasRun code p most img ran noted (with_private img p 0 end) → HasRun here p most now ran noted (with_private now p 0 end)
run_on code here img now p most end ran noted c i run =
    subst (λ (x : Image). HasRun here p most x ran noted (with_private x p 0 end)) i (subst (λ (k : Code). HasRun k p most img ran noted (with_private img p 0 end)) c run)
