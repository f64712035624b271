-- A private operator: its row, its effect on an image, and what it leaves as it is.
use Rattle.std.proofs.Common.{◌≡◌, refl, sym, ap, subst, ◌∙◌, ℕ, ◌≤◌, Bool, true, List, [], ◌∷◌, ◌++◌, length, take, reverse, set, Option, Some, Result, Ok, Err, cond, arith, zero, suc}
use Rattle.b67_list.specs.Numbered.{numbered, set_numbered}
use Rattle.b67_word.specs.Word.{Word}
use Rattle.b67_control.specs.declared.Registers.{Registers}
use Rattle.b67_ops.specs.declared.Operator.{Operator}
use Rattle.b67_ops.specs.declared.BadCode.{BadCode}
use Rattle.b67_segment.specs.declared.code.Code.{Code}
use Rattle.b67_store.specs.Store.{stack_at, words_or, words_of}
use Rattle.b67_store.proofs.StoreLaws.{changed_others}
use Rattle.b67_table.specs.declared.InterruptKind.TheVariants.{BadCode as bad_code}
use Rattle.b67_table.specs.declared.Private.{Private}
use Rattle.b67_table.specs.Effect.{Effect, gives, faults, interrupts}
use Rattle.b67_table.specs.Private.{floor}
use Rattle.b67_table.specs.Image.{Image, with_private, private_of, with_effect, is_live}
use Rattle.b67_table.specs.Rows.{TableRow, private_part, action, row}
use Rattle.b67_table.specs.Table.{raw, private_op, part_by, class_at, class_by, is_private, private_at, private_in, private_next, operator_at, by_row, by_operator, by_registers}
use Rattle.b67_table.specs.Privacy.{ProcessStands, RegistersStay, LeavesAllElse, PrivateIsPrivate}
use Rattle.b67_table.proofs.Stacks.{set_here, get_numbered_other}
use Rattle.b67_table.proofs.Lists.{numbered_set, numbered_from, numbered_within}
use Rattle.b67_table.proofs.Keeping.{private_keeps}

-- ---- the row of a private operator

-- the next operator, with what it does to the private part
pub record Next (code : Code) (r : Registers) : Type 0 where
  pub op : Operator
  pub next : ℕ
  pub stands : operator_at code r ≡ Ok (op, next)
  pub change : ℕ → Private → Effect Private
  pub is : row op r.place ≡ private_part change

by_private : (code : Code) (r : Registers) (op : Operator) (next : ℕ) → operator_at code r ≡ Ok (op, next) → (w : TableRow) → row op r.place ≡ w
    → is_private (class_by w) ≡ true → Next code r
by_private code r op next s (private_part change) i e = record { op = op; next = next; stands = s; change = change; is = i }
by_private code r op next s (action program) i e = cc

by_decoded : (code : Code) (r : Registers) (o : Result (Operator × ℕ) BadCode) → operator_at code r ≡ o → private_at r o ≡ true → Next code r
unfolding class_at
by_decoded code r (Err x) i e = cc
by_decoded code r (Ok found) i e = by_private code r found.0 found.1 i (row found.0 r.place) refl e

pub next_private : (code : Code) (img : Image) (p : ℕ) (r : Registers) → numbered img.regs p ≡ Some r → private_next code img p ≡ true → Next code r
next_private code img p r has e = by_decoded code r (operator_at code r) refl (ap (private_in code) (sym has) ∙ e)

-- ---- its effect on an image

pub raw_is : (code : Code) (img : Image) (p : ℕ) (r : Registers) → is_live (numbered img.states p) ≡ true → numbered img.regs p ≡ Some r → (n : Next code r)
    → raw code img p ≡ with_effect img p (floor r) (n.change n.next (private_of img r))
unfolding raw
raw_is code img p r live has n =
    ap (λ (b : Bool). cond b (by_registers code img p (numbered img.regs p)) (interrupts bad_code)) live
    ∙ ap (λ (o : Option Registers). by_registers code img p o) has
    ∙ ap (λ (o : Result (Operator × ℕ) BadCode). by_operator code img p r o) n.stands
    ∙ ap (λ (w : TableRow). by_row w code img p r n.next) n.is

pub part_keeps : (code : Code) (r : Registers) (n : Next code r) (part new : Private) → n.change n.next part ≡ gives new → RegistersStay part.regs new.regs
unfolding private_op
part_keeps code r n part new e = private_keeps n.op r.place n.next part new (ap (λ (w : TableRow). part_by w n.next part) n.is ∙ e)

-- the part that an effect put into an image
pub record Put (img new : Image) (p base : ℕ) (e : Effect Private) : Type 0 where
  pub part : Private
  pub given : e ≡ gives part
  pub is : new ≡ with_private img p base part

pub put_by : (img new : Image) (p base : ℕ) (e : Effect Private) → with_effect img p base e ≡ gives new → Put img new p base e
put_by img new p base (gives part) e =
    let same : new ≡ with_private img p base part = cc in record { part = part; given = refl; is = same }
put_by img new p base (faults kind) e = cc
put_by img new p base (interrupts kind) e = cc

-- ---- what it leaves as it is

front : {X : Type 0} (base : ℕ) (xs ys : List X) → base ≤ length xs → take base (take base xs ++ ys) ≡ take base xs
front zero xs ys h = refl
front (suc n) [] ys h = absurd (omega (arith, h))
front (suc n) (x ∷ xs) ys h = ap (λ zs. x ∷ zs) (front n xs ys (omega (arith, h)))

own_is : (rs : List Registers) (p : ℕ) (r a q : Registers) → numbered rs p ≡ Some r → numbered (set_numbered rs p a) p ≡ Some q → RegistersStay r a → RegistersStay r q
own_is rs p r a q has e k =
    let i : Some a ≡ Some q = sym (numbered_set rs p a (numbered_from rs p r has) (numbered_within rs p r has)) ∙ e in
    let same : a ≡ q = cc in subst (RegistersStay r) same k

leaves_all : (p : ℕ) (r : Registers) (img : Image) (part : Private) → ProcessStands img p r → RegistersStay r part.regs → LeavesAllElse p r img (with_private img p (floor r) part)
leaves_all p r img part st k =
    let words : List Word = take (floor r) (words_of img.stacks part.regs.stack) ++ reverse part.words in
    let high : floor r ≤ length (words_of img.stacks r.stack) = subst (λ (us : List Word). floor r ≤ length us) (sym (ap words_or st.opened)) st.high in
    let opened : stack_at img.stacks part.regs.stack ≡ Some st.words = ap (λ (n : ℕ). stack_at img.stacks n) k.0 ∙ st.opened in
    record {
      below =
          ap (λ (n : ℕ). take (floor r) (words_of (set img.stacks part.regs.stack (Some words)) n)) (sym k.0)
          ∙ ap (λ (o : Option (List Word)). take (floor r) (words_or o)) (set_here img.stacks part.regs.stack st.words words opened)
          ∙ ap (λ (n : ℕ). take (floor r) (take (floor r) (words_of img.stacks n) ++ reverse part.words)) k.0
          ∙ front (floor r) (words_of img.stacks r.stack) (reverse part.words) high;
      stacks = λ n h. changed_others img.stacks part.regs.stack n (Some words) (λ e. h (e ∙ k.0));
      registers = λ q h. get_numbered_other img.regs p q part.regs h;
      rows = refl;
      events = refl;
      lists = refl;
      states = refl;
      numbers = refl;
      output = refl;
      started = refl;
      fault = refl;
      own = λ q e. own_is img.regs p r part.regs q st.has e k;
    }

pub private_is_private : PrivateIsPrivate
private_is_private = record {
  leaves = λ code p r img new st e g.
      let n = next_private code img p r st.has e in
      let t = put_by img new p (floor r) (n.change n.next (private_of img r)) (sym (raw_is code img p r st.live st.has n) ∙ g) in
      subst (LeavesAllElse p r img) (sym t.is) (leaves_all p r img t.part st (part_keeps code r n (private_of img r) t.part t.given));
  same = λ code p r x y sx sy e i.
      let n = next_private code x p r sx.has e in
      record {
        effect = n.change n.next (private_of x r);
        here = raw_is code x p r sx.live sx.has n;
        there = raw_is code y p r sy.live sy.has n
            ∙ ap (λ (part : Private). with_effect y p (floor r) (n.change n.next part)) (sym i);
      };
}
