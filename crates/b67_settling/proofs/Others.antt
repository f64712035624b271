-- Any operator of a process beside words that are another's own and that it does not touch, and without them.
use Rattle.std.proofs.Common.{◌≡◌, ◌≢◌, refl, sym, ap, subst, ◌∙◌, ℕ, ◌≤◌, max, Bool, true, false, List, ◌++◌, length, take, drop, reverse, set, Option, Some, None, Result, Ok, Err, cond}
use Rattle.std.proofs.Math.Nat.{le-max_left, le-max_right}
use Rattle.std.proofs.lemmas.List.{reverse-reverse}
use Rattle.b67_list.specs.Numbered.{numbered, set_numbered}
use Rattle.b67_word.specs.declared.Place.{Place}
use Rattle.b67_word.specs.Word.{Word}
use Rattle.b67_control.specs.declared.Registers.{Registers}
use Rattle.b67_ops.specs.declared.Operator.{Operator}
use Rattle.b67_ops.specs.declared.BadCode.{BadCode}
use Rattle.b67_segment.specs.declared.code.Code.{Code}
use Rattle.b67_store.specs.Store.{Stacks, stack_at, words_or, words_of}
use Rattle.b67_store.proofs.StoreLaws.{changed_others}
use Rattle.b67_table.specs.declared.InterruptKind.{InterruptKind}
use Rattle.b67_table.specs.declared.InterruptKind.TheVariants.{BadCode as bad_code}
use Rattle.b67_table.specs.declared.ProcessState.{ProcessState}
use Rattle.b67_table.specs.declared.ProcessState.TheVariants.{Able}
use Rattle.b67_table.specs.declared.Private.{Private}
use Rattle.b67_table.specs.Effect.{Effect, gives, faults, interrupts}
use Rattle.b67_table.specs.Private.{floor}
use Rattle.b67_table.specs.Image.{Image, with_private, private_of, with_effect, is_able, is_live, critical_in}
use Rattle.b67_table.specs.Program.{Change, Program, asked, does, effect_of, changed}
use Rattle.b67_table.specs.Rows.{TableRow, private_part, action, row}
use Rattle.b67_table.specs.Table.{raw, operator_at, by_row, by_operator, by_registers}
use Rattle.b67_table.specs.Touches.{RowTouches, Touches}
use Rattle.b67_table.specs.Sound.{OperatorTouches}
use Rattle.b67_table.specs.Parts.{put_into, Beneath, IsApart}
use Rattle.b67_table.proofs.Stacks.{set_here, get_numbered_other, numbered_other}
use Rattle.b67_table.proofs.Lists.{numbered_set, numbered_from, above_put}
use Rattle.b67_table.proofs.Over.{over, elsewhere}
use Rattle.b67_table.proofs.Parts.{others_stay_apart, program_beneath}
use Rattle.b67_table.proofs.States.{changed_passes}
use Rattle.b67_table.proofs.Privacy.{Next, part_keeps, put_by}
use Rattle.b67_table.proofs.Commuting.{gives_is}
use Rattle.b67_settling.specs.Own.{StackReaches, own_of, Stay}
use Rattle.b67_settling.proofs.Own.{within, unchanged}

-- p is as it was after an operator of another
pub record Left (p : ℕ) (r : Registers) (base : ℕ) (img new : Image) : Type 0 where
  pub reaches : StackReaches new p r base
  pub same : own_of new r base ≡ own_of img r base
  pub able : is_able (numbered img.states p) ≡ true → is_able (numbered new.states p) ≡ true

-- the operator beside other words of p, and without them
pub record Apart (p : ℕ) (r : Registers) (base : ℕ) (part : Private) (img : Image) (beside alone : Effect Image) : Type 0 where
  pub same : beside ≡ put_into p base part alone
  pub after : (b : Image) → alone ≡ gives b → Left p r base img b

module _ (code : Code) (q p : ℕ) (r : Registers) (base : ℕ) (part : Private) (img : Image) (h : q ≢ p) (at : StackReaches img p r base) (k : Stay r part.regs) where
  unfoldable pub X : Image
  X = with_private img p base part

  refusal : (kind : InterruptKind) → Apart p r base part img (interrupts kind) (interrupts kind)
  refusal kind = record { same = refl; after = λ b e. cc }

  beneath : (new : Private) → Stay r new.regs → Beneath img p base new
  beneath new s = record {
    words = at.words;
    opened = ap (λ (n : ℕ). stack_at img.stacks n) s.0 ∙ at.opened;
    high = at.high;
    within = within img p r base at;
    critical = ap critical_in at.has ∙ sym s.1;
  }

  -- ---- an action

  state_after : (e : Effect Change) (b : Image) → effect_of q img e ≡ gives b → (test : Option ProcessState → Bool) → test (Some Able) ≡ true
      → test (numbered img.states p) ≡ true → test (numbered b.states p) ≡ true
  state_after (gives c) b i test t l =
      subst (λ (x : Image). test (numbered x.states p) ≡ true) (gives_is (changed q c img) b i) (changed_passes test t q p c img h l)
  state_after (faults kind) b i test t l = cc
  state_after (interrupts kind) b i test t l = cc

  own : Private
  own = own_of img r base

  program_left : (program : Program) (new : Image) → IsApart q img program base part → does q program img ≡ gives new → Left p r base img new
  unfolding own
  program_left program new apart e =
      let apart_own : IsApart q img program base (own_of img r base) = λ x t i l. apart x t (i ∙ sym k.0) l in
      let again : new ≡ with_private new p base (own_of img r base) =
      gives_is new (with_private new p base (own_of img r base))
      (sym e ∙ ap (λ (i : Image). does q program i) (sym (unchanged img p r base at))
      ∙ others_stay_apart q p base (own_of img r base) program img h (beneath (own_of img r base) (refl, refl)) apart_own
      ∙ ap (put_into p base (own_of img r base)) e) in
      let b : Beneath new p base (own_of img r base) =
      program_beneath q p base (own_of img r base) program img new h (beneath (own_of img r base) (refl, refl)) apart_own e in
      let words_are : words_of new.stacks r.stack ≡ take base (words_of new.stacks r.stack) ++ reverse (reverse (drop base (words_of img.stacks r.stack))) =
      ap (λ (i : Image). words_of i.stacks r.stack) again ∙ ap words_or (set_here new.stacks r.stack b.words _ b.opened) in
      let high_new : base ≤ length (words_of new.stacks r.stack) = subst (λ (us : List Word). base ≤ length us) (sym (ap words_or b.opened)) b.high in
      record {
        reaches = record {
          live = state_after (asked img program) new e is_live refl at.live;
          has = ap (λ (i : Image). numbered i.regs p) again ∙ numbered_set new.regs p r (numbered_from img.regs p r at.has) b.within;
          words = words_of new.stacks r.stack;
          opened = b.opened ∙ ap (λ (us : List Word). Some us) (sym (ap words_or b.opened));
          high = high_new;
        };
        same = ap (λ (us : List Word). record { regs = r; words = reverse (drop base us) }) words_are
            ∙ ap (λ (us : List Word). record { regs = r; words = reverse us })
            (above_put (words_of new.stacks r.stack) (reverse (reverse (drop base (words_of img.stacks r.stack)))) base high_new
            ∙ reverse-reverse (drop base (words_of img.stacks r.stack)));
        able = λ a. state_after (asked img program) new e is_able refl a;
      }

  -- no word from the base on
  abbrev Not : Place → Type 0
  Not x = x.stack ≡ r.stack → base ≤ x.at → ⊥

  action_apart : (program : Program) → ((x : Place) → Touches q img program x → Not x)
      → Apart p r base part img (does q program X) (does q program img)
  unfolding X
  action_apart program apart = record {
    same = others_stay_apart q p base part program img h (beneath part k) (λ x t i l. apart x t (i ∙ k.0) l);
    after = λ b e. program_left program b (λ x t i l. apart x t (i ∙ k.0) l) e;
  }

  -- ---- a private operator

  private_apart : (o : Registers) → numbered img.regs q ≡ Some o → o.stack ≢ r.stack → (n : Next code o)
      → Apart p r base part img (with_effect X q (floor o) (n.change n.next (private_of X o))) (with_effect img q (floor o) (n.change n.next (private_of img o)))
  unfolding X over
  private_apart o has away n = record { same = same; after = after }
    where
      words_same : words_of X.stacks o.stack ≡ words_of img.stacks o.stack
      words_same =
          ap words_or (changed_others img.stacks part.regs.stack o.stack (Some (take base (words_of img.stacks part.regs.stack) ++ reverse part.words))
          (λ e. away (e ∙ k.0)))

      part_same : private_of X o ≡ private_of img o
      part_same = ap (λ (us : List Word). record { regs = o; words = reverse (drop (floor o) us) }) words_same

      twice : (mine : Private) → mine.regs.stack ≢ r.stack
          → with_private X q (floor o) mine ≡ with_private (with_private img q (floor o) mine) p base part
      twice mine other =
          ap (λ (s : Stacks). record X { stacks = s; regs = set_numbered X.regs q mine.regs })
          (elsewhere part.regs.stack base (reverse part.words) img.stacks mine.regs.stack (λ (us : List Word). Some (take (floor o) us ++ reverse mine.words))
          (λ e. other (e ∙ k.0)))
          ∙ ap (λ (rs : List Registers). record img {
            stacks = over part.regs.stack base (reverse part.words)
                (set img.stacks mine.regs.stack (Some (take (floor o) (words_of img.stacks mine.regs.stack) ++ reverse mine.words)));
            regs = rs;
          }) (numbered_other img.regs q p part.regs mine.regs h)

      put_twice : (e : Effect Private) → n.change n.next (private_of img o) ≡ e
          → with_effect X q (floor o) e ≡ put_into p base part (with_effect img q (floor o) e)
      put_twice (gives mine) i =
          ap gives (twice mine (λ e. away (sym (part_keeps code o n (private_of img o) mine i).0 ∙ e)))
      put_twice (faults kind) i = refl
      put_twice (interrupts kind) i = refl

      same : with_effect X q (floor o) (n.change n.next (private_of X o))
          ≡ put_into p base part (with_effect img q (floor o) (n.change n.next (private_of img o)))
      same =
          ap (λ (m : Private). with_effect X q (floor o) (n.change n.next m)) part_same
          ∙ put_twice (n.change n.next (private_of img o)) refl

      after_put : (mine : Private) → mine.regs.stack ≢ r.stack → Left p r base img (with_private img q (floor o) mine)
      after_put mine other =
          let new_words : Option (List Word) = Some (take (floor o) (words_of img.stacks mine.regs.stack) ++ reverse mine.words) in
          let stack_same : stack_at (set img.stacks mine.regs.stack new_words) r.stack ≡ stack_at img.stacks r.stack =
          changed_others img.stacks mine.regs.stack r.stack new_words (λ e. other (sym e)) in
          record {
            reaches = record {
              live = at.live;
              has = get_numbered_other img.regs q p mine.regs (λ e. h (sym e)) ∙ at.has;
              words = at.words;
              opened = stack_same ∙ at.opened;
              high = at.high;
            };
            same = ap (λ (o : Option (List Word)). record { regs = r; words = reverse (drop base (words_or o)) }) stack_same;
            able = λ a. a;
          }

      after : (b : Image) → with_effect img q (floor o) (n.change n.next (private_of img o)) ≡ gives b → Left p r base img b
      after b e =
          let t = put_by img b q (floor o) (n.change n.next (private_of img o)) e in
          subst (Left p r base img) (sym t.is)
          (after_put t.part (λ i. away (sym (part_keeps code o n (private_of img o) t.part t.given).0 ∙ i)))

  -- ---- any operator

  unfoldable pub Apartly : Type 0
  Apartly = (x : Place) → OperatorTouches code img q x → x.stack ≡ r.stack → base ≤ x.at → ⊥

  not_same : (o : Registers) → ((x : Place) → (x.stack ≡ o.stack) × (floor o ≤ x.at) → Not x) → o.stack ≢ r.stack
  not_same o apart e =
      apart (record { stack = r.stack; at = max (floor o) base }) (sym e, le-max_left (floor o) base) refl (le-max_right (floor o) base)

  by_rows : (o : Registers) → numbered img.regs q ≡ Some o → (op : Operator) (next : ℕ) → operator_at code o ≡ Ok (op, next) → (w : TableRow) → row op o.place ≡ w
      → ((x : Place) → RowTouches w code img q o next x → Not x) → Apart p r base part img (by_row w code X q o next) (by_row w code img q o next)
  by_rows o has op next s (private_part change) i apart =
      private_apart o has (not_same o apart) (record { op = op; next = next; stands = s; change = change; is = i })
  by_rows o has op next s (action program) i apart = action_apart (program code o next) apart

  by_fetch : (o : Registers) → is_live (numbered img.states q) ≡ true → numbered img.regs q ≡ Some o → Apartly → (f : Result (Operator × ℕ) BadCode) → operator_at code o ≡ f
      → Apart p r base part img (by_operator code X q o f) (by_operator code img q o f)
  unfolding Apartly
  by_fetch o live has touch (Err e) s = refusal bad_code
  by_fetch o live has touch (Ok found) s =
      by_rows o has found.0 found.1 s (row found.0 o.place) refl
      (λ x t. touch x (record { registers = o; lives = record { live = live; is = has }; op = found.0; next = found.1; stands = s; touches = t }))

  by_regs : is_live (numbered img.states q) ≡ true → Apartly → (o : Option Registers) → numbered img.regs q ≡ o
      → Apart p r base part img (by_registers code X q o) (by_registers code img q o)
  by_regs live touch None has = refusal bad_code
  by_regs live touch (Some o) has = by_fetch o live has touch (operator_at code o) refl

  by_life : Apartly → (live : Bool) → is_live (numbered img.states q) ≡ live
      → Apart p r base part img (cond live (by_registers code X q (numbered img.regs q)) (interrupts bad_code))
      (cond live (by_registers code img q (numbered img.regs q)) (interrupts bad_code))
  by_life touch false i = refusal bad_code
  by_life touch true i = by_regs i touch (numbered img.regs q) refl

  pub raw_apart : Apartly → Apart p r base part img (raw code X q) (raw code img q)
  unfolding raw X
  raw_apart touch =
      subst (λ (o : Option Registers). Apart p r base part img (cond (is_live (numbered img.states q)) (by_registers code X q o) (interrupts bad_code)) (raw code img q))
      (sym (get_numbered_other img.regs p q part.regs h)) (by_life touch (is_live (numbered img.states q)) refl)
