-- A stack that is lent and not cut: of its words those that S counts are the process's own.
use Rattle.std.proofs.Common.{◌≡◌, refl, sym, ap, subst, ◌∙◌, ℕ, suc, ◌-◌, ◌<◌, ◌≤◌, Bool, true, false, List, [], ◌∷◌, length, take, Option, Some, None, IsSome, Ok, arith}
use Rattle.b67_word.specs.Word.{Word}
use Rattle.b67_control.specs.Display.{levels}
use Rattle.b67_control.specs.declared.Registers.{Registers}
use Rattle.b67_store.specs.Store.{Stacks, Rows, IsRoom, stack_at, words_of, words_or, with_stack, with_cut, with_row_word, stack_limit}
use Rattle.b67_store.proofs.Cited.{put_there}
use Rattle.b67_segment.specs.declared.code.Code.{Code}
use Rattle.b67_table.specs.Image.{Image}
use Rattle.b67_table.specs.Program.{Program}
use Rattle.b67_linkage.specs.Held.{IsLinked}
use Rattle.b67_reach.specs.Answers.{ProgramPerforms}
use Rattle.b67_reach.specs.Images.{Own, own_of_image, with_own}
use Rattle.b67_list.proofs.Lists.{set_set_here}
use Rattle.b67_action.specs.OnRoom.{PerformsOn}
use Rattle.b67_action.specs.Reaching.{IsOpen, IsInOpen, own_of}
use Rattle.b67_action.specs.Running.{IsLent, given_back}
use Rattle.b67_action.proofs.ArraysOnRoom.{front_twice}
use Rattle.b67_action.proofs.InStore.{given_of}
use Rattle.b67_action.proofs.InRoom.{still_open, cut_after}
use Rattle.b67_action.proofs.OwnWords.{own_words}

take_all : (ws : List Word) → take (length ws) ws ≡ ws
take_all [] = refl
take_all (w ∷ ws) = ap (λ (z : List Word). w ∷ z) (take_all ws)

module _ (st : Stacks) (rows : Rows) (r : Registers) (o : IsOpen st r) where
  pub cut_words_are : words_of (with_cut st r.stack r.s) r.stack ≡ take r.s (words_of st r.stack)
  cut_words_are = ap words_or (own_words st r.stack o.opened (take r.s (words_of st r.stack)))

  pub cut_less : (n : ℕ) → n ≤ r.s → with_cut (with_cut st r.stack r.s) r.stack n ≡ with_cut st r.stack n
  cut_less n h =
      ap (λ (ws : List Word). with_stack (with_cut st r.stack r.s) r.stack (take n ws)) cut_words_are
      ∙ set_set_here st r.stack (Some (take r.s (words_of st r.stack))) (Some (take n (take r.s (words_of st r.stack))))
      ∙ ap (λ (ws : List Word). with_stack st r.stack ws) (front_twice (words_of st r.stack) n r.s h)

  -- what is left after a loan
  module _ (q : Registers) (left : List Word) (more : Stacks) (same : q.stack ≡ r.stack) (is : more ≡ with_stack st r.stack left) where
    pub stacks_left : with_cut more q.stack q.s ≡ with_stack (with_cut st r.stack r.s) q.stack (take q.s left)
    stacks_left =
        ap (λ (n : ℕ). with_cut more n q.s) same
        ∙ cut_after st more r.stack left o.opened is (with_cut more r.stack q.s) q.s refl
        ∙ sym (set_set_here st r.stack (Some (take r.s (words_of st r.stack))) (Some (take q.s left)))
        ∙ ap (λ (n : ℕ). with_stack (with_cut st r.stack r.s) n (take q.s left)) (sym same)

    pub open_left : q.s ≤ length left → q.s ≤ stack_limit → q.ll < levels → IsOpen more q
    open_left size room level =
        let words : words_of more r.stack ≡ left = ap (λ (z : Stacks). words_of z r.stack) is ∙ ap words_or (own_words st r.stack o.opened left) in
        let all : length (words_of more q.stack) ≡ length left = ap (λ (n : ℕ). length (words_of more n)) same ∙ ap length words in
        record {
          level = level;
          opened = subst (λ (n : ℕ). IsSome (stack_at more n)) (sym same) (still_open st more r.stack left o.opened is);
          long = omega (arith, all, size);
          room = room;
        }

  module _ (least : ℕ) (room : List Word) (k : IsRoom (words_of st r.stack) least room) where
    taken : take r.s (words_of st r.stack) ≡ take r.s room
    taken = ap (λ (ws : List Word). take r.s ws) (sym k.words) ∙ front_twice room r.s (length (words_of st r.stack)) o.long

    pub there : stack_at (with_cut st r.stack r.s) r.stack ≡ Some (take r.s room)
    there = own_words st r.stack o.opened (take r.s (words_of st r.stack)) ∙ ap (λ (ws : List Word). Some ws) taken

    pub cut_taken : words_of (with_cut st r.stack r.s) r.stack ≡ take r.s room
    cut_taken = cut_words_are ∙ taken

    -- nothing was changed
    module _ (more : Stacks) (others : Rows) (is : more ≡ with_stack st r.stack room) (rest : others ≡ rows) where
      pub own_same : own_of more others r ≡ own_of st rows r
      own_same =
          ap (λ (z : Stacks). own_of_image z others r)
          (cut_after st more r.stack room o.opened is (with_cut more r.stack r.s) r.s refl ∙ ap (λ (ws : List Word). with_stack st r.stack ws) (sym taken))
          ∙ ap (λ (z : Rows). own_of_image (with_cut st r.stack r.s) z r) rest

    -- what was performed in the room
    module _ (program : Program) (q : Registers) (left : List Word) (more : Stacks) (others : Rows) (same : q.stack ≡ r.stack) (is : more ≡ with_stack st r.stack left)
        (rest : others ≡ rows) where
      pub performed_open : PerformsOn program r room q left → ProgramPerforms {A = Unit {0}} program (own_of st rows r) (own_of more others q) (Ok (tt {0}))
      performed_open x =
          subst (λ (w : Own). ProgramPerforms {A = Unit {0}} program (own_of st rows r) w (Ok (tt {0})))
          (ap (λ (z : Stacks). own_of_image z rows q) (sym (stacks_left q left more same is)) ∙ ap (λ (z : Rows). own_of_image (with_cut more q.stack q.s) z q) (sym rest))
          (x (with_cut st r.stack r.s) rows there)

-- the two words on top are dropped, and a word is written into a row
pub store_left : (st some more : Stacks) (rows others last : Rows) (r : Registers) (next : ℕ) (x : Word) (row at : ℕ) → IsOpen some r → own_of some others r ≡ own_of st rows r → more ≡ some
    → last ≡ with_row_word others row at x
    → own_of_image (with_cut (with_cut st r.stack r.s) r.stack (r.s - 2)) (with_row_word rows row at x) (record r { s = r.s - 2; place = next }) ≡ own_of more last (record r { s = r.s - 2; place = next })
store_left st some more rows others last r next x row at o same e f =
    let q : Registers = record r { s = r.s - 2; place = next } in
    ap (λ (z : Stacks). own_of_image (with_cut z r.stack (r.s - 2)) (with_row_word rows row at x) q) (sym (ap (λ (w : Own). w.stacks) same))
    ∙ ap (λ (z : Stacks). own_of_image z (with_row_word rows row at x) q) (cut_less some others r o (r.s - 2) (omega arith))
    ∙ ap (λ (z : Stacks). own_of_image (with_cut z r.stack (r.s - 2)) (with_row_word rows row at x) q) (sym e)
    ∙ ap (λ (z : Rows). own_of_image (with_cut more r.stack (r.s - 2)) (with_row_word z row at x) q) (sym (ap (λ (w : Own). w.rows) same))
    ∙ ap (λ (z : Rows). own_of_image (with_cut more r.stack (r.s - 2)) z q) (sym f)

-- ---- a stack that was cut

module _ (st : Stacks) (rows : Rows) (r : Registers) (l : IsLinked st rows r) where
  pub open_linked : IsOpen st r
  open_linked = record { level = l.level; opened = l.opened; long = omega (arith, l.size); room = l.room }

  there_or : (o : Option (List Word)) → IsSome o → o ≡ Some (words_or o)
  there_or None s = absurd cc
  there_or (Some ws) s = refl

  pub cut_whole : with_cut st r.stack r.s ≡ st
  cut_whole =
      ap (λ (n : ℕ). with_stack st r.stack (take n (words_of st r.stack))) l.size
      ∙ ap (λ (ws : List Word). with_stack st r.stack ws) (take_all (words_of st r.stack))
      ∙ put_there st r.stack (words_of st r.stack) (there_or (stack_at st r.stack) l.opened)

  pub own_whole : own_of st rows r ≡ own_of_image st rows r
  own_whole = ap (λ (z : Stacks). own_of_image z rows r) cut_whole

-- how often a longer room may be lent, where one is too short
abbrev pub loans_left : Bool → ℕ → ℕ
loans_left true s = suc (stack_limit - s)
loans_left false s = 0

pub one_loan_less : (old new : Bool) (s t : ℕ) → old ≡ true → (new ≡ true → s < t) → t ≤ stack_limit → loans_left new t < loans_left old s
one_loan_less true true s t e longer room = omega (arith, longer refl, room)
one_loan_less true false s t e longer room = omega arith
one_loan_less false new s t e longer room = cc

-- ---- an image in which the process stands

module _ (code : Code) (img : Image) (p : ℕ) (st : Stacks) (rows : Rows) (r : Registers) (o : IsOpen st r) (h : IsInOpen code img p st rows r) where
  pub lent_open : (least : ℕ) (room : List Word) → IsRoom (words_of st r.stack) least room → IsLent code img p r room
  lent_open least room k = record {
    valid = h.valid;
    able = h.able;
    has = h.has;
    words = ap (λ (z : Stacks). words_of z r.stack) h.stacks_are ∙ cut_taken st rows r o least room k;
  }

  pub given_open : (q : Registers) (left : List Word) (more : Stacks) (others : Rows) → q.stack ≡ r.stack → more ≡ with_stack st r.stack left → others ≡ rows
      → given_back q left p img ≡ with_own (own_of more others q) p img
  given_open q left more others same is rest =
      given_of code img p (with_cut st r.stack r.s) rows r h q left (with_cut more q.stack q.s) others same
      (stacks_left st rows r o q left more same is ∙ ap (λ (n : ℕ). with_stack (with_cut st r.stack r.s) n (take q.s left)) same) rest

-- what is left as it was, after its stack was cut
pub own_cut_twice : (st : Stacks) (rows : Rows) (r : Registers) → IsOpen st r → (more : Stacks) (others : Rows) (q : Registers) → own_of_image more others q ≡ own_of st rows r
    → own_of more others q ≡ own_of st rows r
own_cut_twice st rows r o more others q e =
    ap (λ (w : Own). own_of w.stacks w.rows w.regs) e ∙ ap (λ (z : Stacks). own_of_image z rows r) (cut_less st rows r o r.s (omega arith))
