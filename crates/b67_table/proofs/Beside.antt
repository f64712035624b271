-- Any operator of a process beside another's private part that it does not touch, and without it.
use Rattle.std.proofs.Common.{◌≡◌, ◌≢◌, refl, sym, ap, subst, ◌∙◌, ℕ, max, Bool, true, false, List, ◌++◌, take, drop, reverse, set, Option, Some, None, Result, Ok, Err, cond}
use Rattle.std.proofs.Math.Nat.{le-max_left, le-max_right}
use Rattle.b67_list.specs.Numbered.{numbered, set_numbered}
use Rattle.b67_word.specs.declared.Place.{Place}
use Rattle.b67_word.specs.Word.{Word}
use Rattle.b67_control.specs.declared.Registers.{Registers}
use Rattle.b67_ops.specs.declared.Operator.{Operator}
use Rattle.b67_ops.specs.declared.BadCode.{BadCode}
use Rattle.b67_segment.specs.declared.code.Code.{Code}
use Rattle.b67_store.specs.Store.{Stacks, stack_at, words_or, words_of}
use Rattle.b67_store.proofs.StoreLaws.{changed_others}
use Rattle.b67_table.specs.declared.InterruptKind.{InterruptKind}
use Rattle.b67_table.specs.declared.InterruptKind.TheVariants.{BadCode as bad_code}
use Rattle.b67_table.specs.declared.ProcessState.{ProcessState}
use Rattle.b67_table.specs.declared.ProcessState.TheVariants.{Able}
use Rattle.b67_table.specs.declared.Private.{Private}
use Rattle.b67_table.specs.Effect.{Effect, gives, faults, interrupts}
use Rattle.b67_table.specs.Private.{floor}
use Rattle.b67_table.specs.Image.{Image, with_private, private_of, with_effect, is_able, is_live}
use Rattle.b67_table.specs.Program.{Change, Program, asked, does, effect_of, changed}
use Rattle.b67_table.specs.Rows.{TableRow, private_part, action, row}
use Rattle.b67_table.specs.Table.{raw, operator_at, by_row, by_operator, by_registers}
use Rattle.b67_table.specs.Touches.{IsPrivate, RowTouches}
use Rattle.b67_table.specs.Sound.{OperatorTouches}
use Rattle.b67_table.specs.Parts.{put_into}
use Rattle.b67_table.specs.Privacy.{ProcessStands, RegistersStay}
use Rattle.b67_table.proofs.Stacks.{get_numbered_other, numbered_other}
use Rattle.b67_table.proofs.Over.{over, elsewhere}
use Rattle.b67_table.proofs.Parts.{others_stay_apart}
use Rattle.b67_table.proofs.States.{changed_passes}
use Rattle.b67_table.proofs.Privacy.{Next, part_keeps, put_by}
use Rattle.b67_table.proofs.Commuting.{gives_is, beneath, program_beside}

-- ---- q is as it was after p's operator

pub record After (q : ℕ) (r : Registers) (img new : Image) : Type 0 where
  pub stands : ProcessStands new q r
  pub same : private_of new r ≡ private_of img r
  pub able : is_able (numbered img.states q) ≡ true → is_able (numbered new.states q) ≡ true

-- p's operator beside q's part, and without it
pub record Apart (q : ℕ) (r : Registers) (part : Private) (img : Image) (beside alone : Effect Image) : Type 0 where
  pub same : beside ≡ put_into q (floor r) part alone
  pub after : (b : Image) → alone ≡ gives b → After q r img b

module _ (code : Code) (p q : ℕ) (r : Registers) (part : Private) (img : Image) (h : p ≢ q) (st : ProcessStands img q r) (k : RegistersStay r part.regs) where
  unfoldable pub X : Image
  X = with_private img q (floor r) part

  refusal : (kind : InterruptKind) → Apart q r part img (interrupts kind) (interrupts kind)
  refusal kind = record { same = refl; after = λ b e. cc }

  -- ---- an action of p

  state_after : (e : Effect Change) (b : Image) → effect_of p img e ≡ gives b → (test : Option ProcessState → Bool) → test (Some Able) ≡ true
      → test (numbered img.states q) ≡ true → test (numbered b.states q) ≡ true
  state_after (gives c) b i test t l =
      subst (λ (x : Image). test (numbered x.states q) ≡ true) (gives_is (changed p c img) b i) (changed_passes test t p q c img h l)
  state_after (faults kind) b i test t l = cc
  state_after (interrupts kind) b i test t l = cc

  action_apart : (program : Program) → ((x : Place) → RowTouches (action (λ c s n. program)) code img p r 0 x → IsPrivate r x → ⊥)
      → Apart q r part img (does p program X) (does p program img)
  unfolding X
  action_apart program apart = record {
    same = others_stay_apart p q (floor r) part program img h (beneath img q r st part k) (λ x t i l. apart x t (i ∙ k.0, l));
    after = λ b e.
        let s = program_beside p q r part program img b h st k (λ x t i l. apart x t (i ∙ k.0, l)) e in
        record {
          stands = record {
            live = state_after (asked img program) b e is_live refl st.live;
            has = s.registers;
            words = words_of b.stacks r.stack;
            opened = s.opened;
            high = s.high;
          };
          same = s.words;
          able = λ a. state_after (asked img program) b e is_able refl a;
        };
  }

  -- ---- a private operator of p

  private_apart : (o : Registers) → numbered img.regs p ≡ Some o → o.stack ≢ r.stack → (n : Next code o)
      → Apart q r part img (with_effect X p (floor o) (n.change n.next (private_of X o))) (with_effect img p (floor o) (n.change n.next (private_of img o)))
  unfolding X over
  private_apart o has away n = record { same = same; after = after }
    where
      words_same : words_of X.stacks o.stack ≡ words_of img.stacks o.stack
      words_same =
          ap words_or (changed_others img.stacks part.regs.stack o.stack (Some (take (floor r) (words_of img.stacks part.regs.stack) ++ reverse part.words))
          (λ e. away (e ∙ k.0)))

      part_same : private_of X o ≡ private_of img o
      part_same = ap (λ (us : List Word). record { regs = o; words = reverse (drop (floor o) us) }) words_same

      twice : (mine : Private) → mine.regs.stack ≢ r.stack
          → with_private X p (floor o) mine ≡ with_private (with_private img p (floor o) mine) q (floor r) part
      twice mine other =
          ap (λ (s : Stacks). record X { stacks = s; regs = set_numbered X.regs p mine.regs })
          (elsewhere part.regs.stack (floor r) (reverse part.words) img.stacks mine.regs.stack (λ (us : List Word). Some (take (floor o) us ++ reverse mine.words))
          (λ e. other (e ∙ k.0)))
          ∙ ap (λ (rs : List Registers). record img {
            stacks = over part.regs.stack (floor r) (reverse part.words)
                (set img.stacks mine.regs.stack (Some (take (floor o) (words_of img.stacks mine.regs.stack) ++ reverse mine.words)));
            regs = rs;
          }) (numbered_other img.regs p q part.regs mine.regs h)

      put_twice : (e : Effect Private) → n.change n.next (private_of img o) ≡ e
          → with_effect X p (floor o) e ≡ put_into q (floor r) part (with_effect img p (floor o) e)
      put_twice (gives mine) i =
          ap gives (twice mine (λ e. away (sym (part_keeps code o n (private_of img o) mine i).0 ∙ e)))
      put_twice (faults kind) i = refl
      put_twice (interrupts kind) i = refl

      same : with_effect X p (floor o) (n.change n.next (private_of X o))
          ≡ put_into q (floor r) part (with_effect img p (floor o) (n.change n.next (private_of img o)))
      same =
          ap (λ (m : Private). with_effect X p (floor o) (n.change n.next m)) part_same
          ∙ put_twice (n.change n.next (private_of img o)) refl

      after_put : (mine : Private) → mine.regs.stack ≢ r.stack → After q r img (with_private img p (floor o) mine)
      after_put mine other =
          let new_words : Option (List Word) = Some (take (floor o) (words_of img.stacks mine.regs.stack) ++ reverse mine.words) in
          let stack_same : stack_at (set img.stacks mine.regs.stack new_words) r.stack ≡ stack_at img.stacks r.stack =
          changed_others img.stacks mine.regs.stack r.stack new_words (λ e. other (sym e)) in
          record {
            stands = record {
              live = st.live;
              has = get_numbered_other img.regs p q mine.regs (λ e. h (sym e)) ∙ st.has;
              words = st.words;
              opened = stack_same ∙ st.opened;
              high = st.high;
            };
            same = ap (λ (o : Option (List Word)). record { regs = r; words = reverse (drop (floor r) (words_or o)) }) stack_same;
            able = λ a. a;
          }

      after : (b : Image) → with_effect img p (floor o) (n.change n.next (private_of img o)) ≡ gives b → After q r img b
      after b e =
          let t = put_by img b p (floor o) (n.change n.next (private_of img o)) e in
          subst (After q r img) (sym t.is)
          (after_put t.part (λ i. away (sym (part_keeps code o n (private_of img o) t.part t.given).0 ∙ i)))

  -- ---- any operator of p

  unfoldable pub Touch : Type 0
  Touch = (x : Place) → OperatorTouches code img p x → IsPrivate r x → ⊥

  not_same : (o : Registers) → ((x : Place) → IsPrivate o x → IsPrivate r x → ⊥) → o.stack ≢ r.stack
  not_same o apart e =
      apart (record { stack = r.stack; at = max (floor o) (floor r) }) (sym e, le-max_left (floor o) (floor r)) (refl, le-max_right (floor o) (floor r))

  by_rows : (o : Registers) → numbered img.regs p ≡ Some o → (op : Operator) (next : ℕ) → operator_at code o ≡ Ok (op, next) → (w : TableRow) → row op o.place ≡ w
      → ((x : Place) → RowTouches w code img p o next x → IsPrivate r x → ⊥) → Apart q r part img (by_row w code X p o next) (by_row w code img p o next)
  by_rows o has op next s (private_part change) i apart =
      private_apart o has (not_same o apart) (record { op = op; next = next; stands = s; change = change; is = i })
  by_rows o has op next s (action program) i apart = action_apart (program code o next) apart

  by_fetch : (o : Registers) → is_live (numbered img.states p) ≡ true → numbered img.regs p ≡ Some o → Touch → (f : Result (Operator × ℕ) BadCode) → operator_at code o ≡ f
      → Apart q r part img (by_operator code X p o f) (by_operator code img p o f)
  unfolding Touch
  by_fetch o live has touch (Err e) s = refusal bad_code
  by_fetch o live has touch (Ok found) s =
      by_rows o has found.0 found.1 s (row found.0 o.place) refl
      (λ x t. touch x (record { registers = o; lives = record { live = live; is = has }; op = found.0; next = found.1; stands = s; touches = t }))

  by_regs : is_live (numbered img.states p) ≡ true → Touch → (o : Option Registers) → numbered img.regs p ≡ o
      → Apart q r part img (by_registers code X p o) (by_registers code img p o)
  by_regs live touch None has = refusal bad_code
  by_regs live touch (Some o) has = by_fetch o live has touch (operator_at code o) refl

  by_life : Touch → (live : Bool) → is_live (numbered img.states p) ≡ live
      → Apart q r part img (cond live (by_registers code X p (numbered img.regs p)) (interrupts bad_code))
      (cond live (by_registers code img p (numbered img.regs p)) (interrupts bad_code))
  by_life touch false i = refusal bad_code
  by_life touch true i = by_regs i touch (numbered img.regs p) refl

  pub raw_apart : Touch → Apart q r part img (raw code X p) (raw code img p)
  unfolding raw X
  raw_apart touch =
      subst (λ (o : Option Registers). Apart q r part img (cond (is_live (numbered img.states p)) (by_registers code X p o) (interrupts bad_code)) (raw code img p))
      (sym (get_numbered_other img.regs q p part.regs h)) (by_life touch (is_live (numbered img.states p)) refl)
