-- What is left of another's core: all, where an operator stores into no cell of its stack, and all but one word, where it stores there.
use Rattle.std.proofs.Common.{◌≡◌, ◌≢◌, refl, sym, ap, ◌∙◌, ℕ, zero, suc, ◌<◌, List, [], ◌∷◌, ◌++◌, length, set, reverse, Option, Some, Ok, arith}
use Rattle.std.specs.Prelude.{slice_get}
use Rattle.std.proofs.Math.Decide.{ℕ_discrete}
use Rattle.std.proofs.lemmas.List.{length-set}
use Rattle.b67_word.specs.declared.Place.{Place}
use Rattle.b67_word.specs.Word.{Word}
use Rattle.b67_control.specs.declared.Registers.{Registers}
use Rattle.b67_ops.specs.declared.Operator.{Operator}
use Rattle.b67_segment.specs.declared.code.Code.{Code}
use Rattle.b67_store.specs.Store.{words_or, words_of, word_at}
use Rattle.b67_table.specs.Chains.{place}
use Rattle.b67_table.specs.Effect.{gives}
use Rattle.b67_table.specs.Image.{Image}
use Rattle.b67_table.specs.Sound.{Lives}
use Rattle.b67_table.specs.Table.{raw, operator_at}
use Rattle.b67_cores.specs.Cores.{Core, stack_of, over, HasCore}
use Rattle.b67_footprints.specs.Cores.{CoresStay, CoresHoldStores}
use Rattle.b67_footprints.specs.Keeping.{NamesOperand}
use Rattle.b67_footprints.specs.Laws.{HaveOwnStacks, LeadsBelow, LeavesTheRest}
use Rattle.b67_footprints.proofs.Cores.{cores_stay_above}
use Rattle.b67_footprints.proofs.Rest.{operators_leave_the_rest}

-- lists with the same items are the same
same_items : {A : Type 0} (xs ys : List A) → ((n : ℕ) → slice_get xs n ≡ slice_get ys n) → xs ≡ ys
same_items [] [] e = refl
same_items [] (y ∷ ys) e = let none : slice_get [] zero ≡ slice_get (y ∷ ys) zero = e zero in cc
same_items (x ∷ xs) [] e = let none : slice_get (x ∷ xs) zero ≡ slice_get [] zero = e zero in cc
same_items {A} (x ∷ xs) (y ∷ ys) e =
    let first : Some x ≡ Some y = e zero in
    let same : x ≡ y = cc in
    ap (λ (z : A). z ∷ xs) same ∙ ap (λ (zs : List A). y ∷ zs) (same_items xs ys (λ n. e (suc n)))

-- the words of a process's stack
words_here : (img : Image) (q : ℕ) (core : Core) → HasCore img q core → words_of img.stacks q ≡ stack_of core
words_here img q core has =
    ap (words_of img.stacks) (sym has.own)
    ∙ ap (λ (o : Option (List Word)). words_or o) has.stack

-- another item in the first part of a list
get_there : {A : Type 0} (xs ys : List A) (at : ℕ) (x : A) → at < length xs → slice_get (set xs at x ++ ys) at ≡ Some x
get_there [] ys at x low = absurd (omega (arith, low))
get_there (z ∷ xs) ys zero x low = refl
get_there (z ∷ xs) ys (suc at) x low = get_there xs ys at x (omega (arith, low))

get_beside : {A : Type 0} (xs ys : List A) (at n : ℕ) (x : A) → n ≢ at → slice_get (xs ++ ys) n ≡ slice_get (set xs at x ++ ys) n
get_beside [] ys at n x h = refl
get_beside (z ∷ xs) ys zero zero x h = absurd (h refl)
get_beside (z ∷ xs) ys zero (suc n) x h = refl
get_beside (z ∷ xs) ys (suc at) zero x h = refl
get_beside (z ∷ xs) ys (suc at) (suc n) x h = get_beside xs ys at n x (λ e. h (ap suc e))

module _ (code : Code) (img new : Image) (p q : ℕ) (core : Core) (r : Registers) (op : Operator) (next : ℕ) (own : HaveOwnStacks img) (below : LeadsBelow code img p)
    (other : p ≢ q) (has : HasCore img q core) (lives : Lives img p r) (stands : operator_at code r ≡ Ok (op, next)) (given : raw code img p ≡ gives new) where
  rest : LeavesTheRest img new p op r
  rest = operators_leave_the_rest code img new p r op next lives stands given

  there : Lives img q core.registers
  there = record { live = has.live; is = has.registers }

  above : (lower : List Word) × HasCore new q (over lower core)
  above = cores_stay_above code img new p q core own below other has given

  -- a word of its stack where it stores nothing
  same_word : (n : ℕ) → (NamesOperand img op r (place q n) → ⊥) → slice_get (words_of new.stacks q) n ≡ slice_get (stack_of core) n
  same_word n none =
      rest.words (place q n) (λ e. other (sym (own p r lives).0 ∙ sym e)) (λ e. absurd (omega (arith, e, (own q core.registers there).1))) none
      ∙ ap (λ (ws : List Word). slice_get ws n) (words_here img q core has)

  -- so the core has these words below its floor
  has_so : (lower : List Word) → length lower ≡ length core.below → ((n : ℕ) → slice_get (words_of new.stacks q) n ≡ slice_get (lower ++ reverse core.words) n)
      → HasCore new q (over lower core)
  has_so lower many same = record {
    live = above.1.live;
    registers = above.1.registers;
    own = has.own;
    stack = above.1.stack
        ∙ ap (λ (ws : List Word). Some ws) (sym (words_here new q (over above.0 core) above.1) ∙ same_items (words_of new.stacks q) (lower ++ reverse core.words) same);
    is = record { bottom = many ∙ has.is.bottom; top = omega (arith, has.is.top, many) };
  }

  stays : ((x : Place) → x.stack ≡ q → NamesOperand img op r x → ⊥) → HasCore new q core
  stays stored =
      let same : HasCore new q (over core.below core) = has_so core.below refl (λ n. same_word n (λ k. stored (place q n) refl k)) in
      record { live = same.live; registers = same.registers; own = same.own; stack = same.stack; is = has.is }

  module _ (at : ℕ) (w : Word) (only : (x : Place) → x.stack ≡ q → NamesOperand img op r x → x.at ≡ at) (low : at < length core.below)
      (now : word_at new.stacks (place q at) ≡ Some w) where
    word_now : (n : ℕ) → Dec (n ≡ at) → slice_get (words_of new.stacks q) n ≡ slice_get (set core.below at w ++ reverse core.words) n
    word_now n (yes e) =
        ap (λ (k : ℕ). slice_get (words_of new.stacks q) k) e
        ∙ now
        ∙ sym (get_there core.below (reverse core.words) at w low)
        ∙ ap (λ (k : ℕ). slice_get (set core.below at w ++ reverse core.words) k) (sym e)
    word_now n (no h) = same_word n (λ k. h (only (place q n) refl k)) ∙ get_beside core.below (reverse core.words) at n w h

    holds : HasCore new q (over (set core.below at w) core)
    holds = has_so (set core.below at w) (length-set core.below at w) (λ n. word_now n (ℕ_discrete n at))

pub cores_stay : CoresStay
cores_stay code img new p q core r op next own below other has lives stands stored given =
    stays code img new p q core r op next own below other has lives stands given stored

pub cores_hold_stores : CoresHoldStores
cores_hold_stores code img new p q core r op next own below other has lives stands at w only low now given =
    holds code img new p q core r op next own below other has lives stands given at w only low now
