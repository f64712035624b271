-- What a plain operator of a process leaves as it is, and that it comes before or after another's alike.
use Rattle.std.specs.Prelude.{◌&&◌}
use Rattle.std.proofs.Common.{◌≡◌, ◌≢◌, refl, sym, ap, subst, ◌∙◌, ℕ, ◌≤◌, Bool, true, Option, Some, None, arith}
use Rattle.b67_list.specs.Numbered.{numbered}
use Rattle.b67_word.specs.declared.Place.{Place}
use Rattle.b67_control.specs.declared.Registers.{Registers}
use Rattle.b67_ops.specs.declared.Operator.{Operator}
use Rattle.b67_ops.proofs.Cited.{same_found}
use Rattle.b67_segment.specs.declared.code.Code.{Code}
use Rattle.b67_table.specs.declared.ProcessState.{ProcessState}
use Rattle.b67_table.specs.Effect.{gives}
use Rattle.b67_table.specs.Outcome.{Outcome, limited}
use Rattle.b67_table.specs.Outcome as outcomes
use Rattle.b67_table.specs.Image.{Image, is_live}
use Rattle.b67_table.specs.Privacy.{ProcessStands, LeavesAllElse, Commute}
use Rattle.b67_table.specs.Rows.{TableRow, private_part, row}
use Rattle.b67_table.specs.Sound.{OperatorTouches}
use Rattle.b67_table.specs.Table.{raw, table, plain, private_in, private_next, is_new, by_registers}
use Rattle.b67_table.specs.Touches.{IsPrivate, RowTouches}
use Rattle.b67_table.specs.Valid.{IsValid}
use Rattle.b67_table.proofs.AllValid.{operators_keep_valid}
use Rattle.b67_table.proofs.Diamond.{plain_operators_commute}
use Rattle.b67_table.proofs.FirstValid.{valid_stands}
use Rattle.b67_table.proofs.Limit.{limit_comes_last}
use Rattle.b67_table.proofs.Lists.{numbered_from, numbered_within}
use Rattle.b67_table.proofs.Privacy.{private_is_private, Next, next_private}
use Rattle.b67_action.proofs.Lent.{private_of_plain}
use Rattle.b67_machine.proofs.Plainly.{live_there}
use Rattle.b67_stands.proofs.StayApart.{live_by}

pub plain_of : (code : Code) (img b : Image) (p : ℕ) → private_next code img p ≡ true → table code img p ≡ outcomes.gives b → plain code img p ≡ true
unfolding plain
plain_of code img b p e t = ap (λ (x : Bool). x && is_new (table code img p)) e ∙ ap is_new t

-- a process that performs an operator lives
pub lives : (code : Code) (img b : Image) (p : ℕ) → table code img p ≡ outcomes.gives b → is_live (numbered img.states p) ≡ true
unfolding raw
lives code img b p t = live_by (is_live (numbered img.states p)) (by_registers code img p (numbered img.regs p)) b ((limit_comes_last.new code img b p).0 t).0

state_of : (o : Option ProcessState) → is_live o ≡ true → (s : ProcessState) × (o ≡ Some s)
state_of None e = cc
state_of (Some s) e = (s, refl)

pub number_from : (img : Image) (p : ℕ) → is_live (numbered img.states p) ≡ true → 1 ≤ p
number_from img p live = let s = state_of (numbered img.states p) live in numbered_from img.states p s.0 s.1

pub number_within : (code : Code) (img : Image) (p : ℕ) → IsValid code img → is_live (numbered img.states p) ≡ true → p ≤ img.started
number_within code img p v live =
    let s = state_of (numbered img.states p) live in omega (arith, numbered_within img.states p s.0 s.1, v.states)

-- ---- what stays

pub record Same (code : Code) (a b : Image) : Type 0 where
  pub valid : IsValid code b
  pub states : b.states ≡ a.states
  pub fault : b.fault ≡ a.fault
  pub rows : b.rows ≡ a.rows
  pub output : b.output ≡ a.output
  pub started : b.started ≡ a.started

pub same_self : (code : Code) (a : Image) → IsValid code a → Same code a a
same_self code a v = record { valid = v; states = refl; fault = refl; rows = refl; output = refl; started = refl }

pub same_then : (code : Code) (a b c : Image) → Same code a b → Same code b c → Same code a c
same_then code a b c s t = record {
  valid = t.valid;
  states = t.states ∙ s.states;
  fault = t.fault ∙ s.fault;
  rows = t.rows ∙ s.rows;
  output = t.output ∙ s.output;
  started = t.started ∙ s.started;
}

leaves_by : (code : Code) (p : ℕ) (a b : Image) (r : Registers) → ProcessStands a p r → plain code a p ≡ true → table code a p ≡ outcomes.gives b → LeavesAllElse p r a b
leaves_by code p a b r st e t = private_is_private.leaves code p r a b st (private_of_plain code a p e) ((limit_comes_last.new code a b p).0 t).0

pub one_same : (code : Code) (p : ℕ) (a b : Image) → IsValid code a → plain code a p ≡ true → table code a p ≡ outcomes.gives b → Same code a b
one_same code p a b v e t =
    let live = lives code a b p t in
    let r = live_there code a p v live in
    let l = leaves_by code p a b r.0 (valid_stands code a p r.0 v live r.1) e t in
    record {
      valid = operators_keep_valid.private code a b p v live (private_of_plain code a p e) t;
      states = l.states;
      fault = l.fault;
      rows = l.rows;
      output = l.output;
      started = l.started;
    }

-- another process's next operator is the same
pub others_next : (code : Code) (q p : ℕ) (a b : Image) → p ≢ q → IsValid code a → plain code a q ≡ true → table code a q ≡ outcomes.gives b
    → private_next code b p ≡ private_next code a p
others_next code q p a b h v e t =
    let live = lives code a b q t in
    let r = live_there code a q v live in
    let l = leaves_by code q a b r.0 (valid_stands code a q r.0 v live r.1) e t in
    ap (private_in code) (l.registers p h)

-- ---- either may come first

-- a private operator touches only its own part
own_alone : (code : Code) (a : Image) (p q : ℕ) (r : Registers) → p ≢ q → IsValid code a → private_next code a p ≡ true → numbered a.regs q ≡ Some r
    → is_live (numbered a.states q) ≡ true → (x : Place) → OperatorTouches code a p x → IsPrivate r x → ⊥
own_alone code a p q r h v e has live x t mine =
    let o : Registers = t.registers in
    let n : Next code t.registers = next_private code a p t.registers t.lives.is e in
    let op : n.op ≡ t.op = ap (λ (x : Operator × ℕ). x.0) (same_found (n.op, n.next) (t.op, t.next) (sym n.stands ∙ t.stands)) in
    let is : row t.op t.registers.place ≡ private_part n.change = ap (λ (w : Operator). row w t.registers.place) (sym op) ∙ n.is in
    let own : IsPrivate t.registers x = subst (λ (w : TableRow). RowTouches w code a p t.registers t.next x) is t.touches in
    let here : t.registers.stack ≡ p = (v.processes p t.registers t.lives.live t.lives.is).stack in
    let there_is : r.stack ≡ q = (v.processes q r live has).stack in
    h (sym here ∙ sym own.0 ∙ mine.0 ∙ there_is)

-- the other process's operator first
pub record First (code : Code) (p q : ℕ) (a c : Image) : Type 0 where
  pub between : Image
  pub plain_first : plain code a p ≡ true
  pub first : table code a p ≡ outcomes.gives between
  pub plain_then : plain code between q ≡ true
  pub then_other : table code between q ≡ outcomes.gives c

pub commutes : (code : Code) (p q : ℕ) (a b : Image) → p ≢ q → IsValid code a → plain code a q ≡ true → table code a q ≡ outcomes.gives b
    → ((r : Registers) → numbered a.regs q ≡ Some r → (x : Place) → OperatorTouches code a p x → IsPrivate r x → ⊥) → Commute code p q a b
commutes code p q a b h v e t apart =
    let live = lives code a b q t in
    let r = live_there code a q v live in
    plain_operators_commute code p q r.0 a b h (valid_stands code a q r.0 v live r.1) e t (apart r.0 r.1)

pub step_first : (code : Code) (p q : ℕ) (a b c : Image) → p ≢ q → IsValid code a → plain code a q ≡ true → table code a q ≡ outcomes.gives b
    → plain code b p ≡ true → table code b p ≡ outcomes.gives c → First code p q a c
step_first code p q a b c h v e t f u =
    let live = lives code a b q t in
    let own : private_next code a p ≡ true = sym (others_next code q p a b h v e t) ∙ private_of_plain code b p f in
    let k = commutes code p q a b h v e t (λ r has. own_alone code a p q r h v own has live) in
    let m = k.earlier c u in
    record {
      between = m.0;
      plain_first = plain_of code a m.0 p own m.1;
      first = m.1;
      plain_then = k.plain_after m.0 m.1;
      then_other = m.2;
    }
