-- A part that is put in place of the one that is kept.
use Rattle.std.specs.Prelude.{IfSome, reverse}
use Rattle.std.proofs.Common.{◌≡◌, sym, ap, subst, ◌∙◌, ℕ, zero, suc, ◌+◌, ◌-◌, ◌≤◌, true, List, length, take, ◌++◌, set, Option, Some, arith}
use Rattle.std.proofs.lemmas.List.{length-append, length-reverse, length-take-le}
use Rattle.b67_list.specs.Numbered.{numbered}
use Rattle.b67_control.specs.declared.Registers.{Registers}
use Rattle.b67_segment.specs.declared.code.Code.{Code}
use Rattle.b67_operators.specs.Leaves.{IsLinkedIn}
use Rattle.b67_linkage.proofs.Linked.{live_are_linked}
use Rattle.b67_store.specs.Store.{Stacks, Rows, words_of, with_stack, stack_limit}
use Rattle.b67_table.specs.declared.Private.{Private}
use Rattle.b67_table.specs.Image.{Image, with_private, private_of, is_live}
use Rattle.b67_table.specs.Private.{floor}
use Rattle.b67_table.specs.Privacy.{RegistersStay}
use Rattle.b67_table.specs.Valid.{IsProcess, IsValid}
use Rattle.b67_table.proofs.FirstValid.{counted}
use Rattle.b67_table.proofs.Lists.{numbered_set, numbered_within}
use Rattle.b67_table.proofs.OwnValid.{words_here}
use Rattle.b67_private.specs.Parts.{PlainParts}
use Rattle.b67_private.proofs.Plains.{stretches_are_own}
use Rattle.b67_action.proofs.Ready.{some_is, if_some}
use Rattle.b67_machine.specs.Kept.{MachineModel, Counts}
use Rattle.b67_machine.specs.Parts.{part_by, private_part}
use Rattle.b67_machine.specs.Stepping.{IsStretched, MachineGoes}
use Rattle.b67_machine.proofs.Going.{goes_live}
use Rattle.b67_machine.proofs.Plainly.{Keeps, live_there, plains_keep}

-- ---- among all processes

pub put_at : (img : Image) (p : ℕ) (r new : Registers) (part : Private) (stacks : Stacks) (rows : Rows) (base : ℕ) → numbered img.regs p ≡ Some r → new ≡ part.regs
    → stacks ≡ with_stack img.stacks part.regs.stack (take base (words_of img.stacks part.regs.stack) ++ reverse part.words) → rows ≡ img.rows
    → record img { stacks = stacks; rows = rows; regs = set img.regs (p - 1) new } ≡ with_private img p base part
put_at img zero r new part stacks rows base has q s w = cc
put_at img (suc k) r new part stacks rows base has q s w =
    let k_is : suc k - 1 ≡ k = omega arith in
    let put : Stacks = with_stack img.stacks part.regs.stack (take base (words_of img.stacks part.regs.stack) ++ reverse part.words) in
    ap (λ (x : Stacks). record img { stacks = x; rows = rows; regs = set img.regs (suc k - 1) new }) s
    ∙ ap (λ (x : Rows). record img { stacks = put; rows = x; regs = set img.regs (suc k - 1) new }) w
    ∙ ap (λ (x : List Registers). record img { stacks = put; regs = x }) (ap (λ (j : ℕ). set img.regs j new) k_is ∙ ap (set img.regs k) q)

-- ---- a private part

-- the part that a process with these registers has
part_is : (P : Private → Type 0) (img : Image) (o : Option Registers) (r : Registers) → o ≡ Some r → IfSome (part_by img o) P → P (private_of img r)
part_is P img o r e h = subst (λ (z : Option Registers). IfSome (part_by img z) P) e h

-- a part after so many plain operators, whose registers are the process's but for those that plain operators set
abbrev pub Follows : Code → ℕ → Private → Private → Type 0
Follows code n part kept = PlainParts code kept n part × RegistersStay kept.regs part.regs

-- the process lives, and the part follows its own
module _ (code : Code) (img : Image) (p : ℕ) (v : IsValid code img) (live : is_live (numbered img.states p) ≡ true) (r : Registers) (has : numbered img.regs p ≡ Some r)
    (part : Private) (n : ℕ) (follows : Follows code n part (private_of img r)) where
  own : IsProcess img p r
  own = v.processes p r live has

  kept : Keeps code img (with_private img p (floor r) part)
  kept = plains_keep code p img (with_private img p (floor r) part) n v live (stretches_are_own code img p r v live has part n follows.0).performed

  process : IsProcess (with_private img p (floor r) part) p part.regs
  process = kept.valid.processes p part.regs live (numbered_set img.regs p part.regs (counted p r img.regs has) (numbered_within img.regs p r has))

  here : words_of (with_stack img.stacks part.regs.stack (take (floor r) (words_of img.stacks part.regs.stack) ++ reverse part.words)) p ≡ take (floor r) (words_of img.stacks p) ++ reverse part.words
  here =
      ap (λ (k : ℕ). words_of (with_stack img.stacks k (take (floor r) (words_of img.stacks k) ++ reverse part.words)) p) (follows.1.0 ∙ own.stack)
      ∙ words_here code img p r v live has (take (floor r) (words_of img.stacks p) ++ reverse part.words)

  room : floor r + length part.words ≤ stack_limit
  room = omega (
    arith,
    process.size,
    process.room,
    ap length here,
    length-append (take (floor r) (words_of img.stacks p)) (reverse part.words),
    length-reverse part.words,
    length-take-le (floor r) (words_of img.stacks p) (subst (λ (k : ℕ). floor r ≤ k) own.size own.above),
  )

  stretched : (put : Image) → put ≡ with_private img p (floor r) part → IsStretched code p n n img put
  stretched put e = subst (λ (x : Image). IsStretched code p n n img x) (sym e) (record {
    performed = (stretches_are_own code img p r v live has part n follows.0).performed;
    stops = λ less. absurd (omega (arith, less));
    valid = kept.valid;
  })

-- so it is on a machine whose image is this one
module _ (m : MachineModel) (code : Code) (img : Image) (p n : ℕ) (part : Private) (c : m.code ≡ code) (i : m.image ≡ img) (v : IsValid code img)
    (lives : is_live (numbered m.image.states p) ≡ true) (follows : IfSome (private_part m.image p) (Follows m.code n part)) where
  live : is_live (numbered img.states p) ≡ true
  live = subst (λ (x : Image). is_live (numbered x.states p) ≡ true) i lives

  found : (r : Registers) × (numbered img.regs p ≡ Some r)
  found = live_there code img p v live

  own_follows : Follows code n part (private_of img found.0)
  own_follows =
      part_is (Follows code n part) img (numbered img.regs p) found.0 found.1
      (subst (λ (x : Image). IfSome (private_part x p) (Follows code n part)) i (subst (λ (k : Code). IfSome (private_part m.image p) (Follows k n part)) c follows))

  pub linked_there : IsLinkedIn img.stacks img.rows (numbered img.regs p)
  linked_there = subst (λ (o : Option Registers). IsLinkedIn img.stacks img.rows o) (sym found.1) (live_are_linked code img p found.0 v live found.1)

  pub room_there : IfSome (numbered img.regs p) (λ (r : Registers). floor r + length part.words ≤ stack_limit)
  room_there =
      if_some (λ (r : Registers). floor r + length part.words ≤ stack_limit) (numbered img.regs p) found.0 found.1
      (room code img p v live found.0 found.1 part n own_follows)

  pub number_there : p ≤ length img.regs
  number_there = numbered_within img.regs p found.0 found.1

  pub stretched_there : (put : Image) → IfSome (numbered img.regs p) (λ (r : Registers). put ≡ with_private img p (floor r) part) → IsStretched code p n n img put
  stretched_there put h =
      stretched code img p v live found.0 found.1 part n own_follows put
      (some_is (λ (r : Registers). put ≡ with_private img p (floor r) part) (numbered img.regs p) found.0 found.1 h)

  pub goes_there : (new : MachineModel) → IfSome (numbered img.regs p) (λ (r : Registers). new.image ≡ with_private img p (floor r) part) → Counts m.counts p n new.counts
      → new ≡ record m { image = new.image; counts = new.counts } → MachineGoes m p n new
  goes_there new h counts others = goes_live m new code img p n n c i v live (stretched_there new.image h) counts others
