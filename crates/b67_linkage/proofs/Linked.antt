-- Each live process of a valid image meets the condition of the calls.
use Rattle.std.proofs.Common.{◌≡◌, refl, sym, ap, subst, ◌∙◌, ℕ, zero, suc, ◌+◌, ◌<◌, ◌≤◌, ◌^◌, List, [], ◌∷◌, length, Option, Some, None, IsSome, is_some, true, arith}
use Rattle.b67_list.specs.Numbered.{numbered}
use Rattle.b67_word.specs.declared.Place.{Place}
use Rattle.b67_control.specs.declared.Registers.{Registers}
use Rattle.b67_segment.specs.declared.code.Code.{Code}
use Rattle.b67_store.specs.Store.{stack_at, words_of}
use Rattle.b67_table.specs.declared.ProcessState.{ProcessState}
use Rattle.b67_table.specs.Private.{display_at, at_or, frame}
use Rattle.b67_table.specs.Chains.{place}
use Rattle.b67_table.specs.Image.{Image, is_live}
use Rattle.b67_table.specs.Valid.{IsProcess, IsValid}
use Rattle.b67_table.proofs.FirstValid.{counted}
use Rattle.b67_linkage.specs.Laws.{LiveAreLinked}

live_within : (states : List ProcessState) (n : ℕ) → is_live (numbered states n) ≡ true → n ≤ length states
live_within states zero e = omega arith
live_within [] (suc n) e = cc
live_within (s ∷ states) (suc zero) e = omega arith
live_within (s ∷ states) (suc (suc n)) e = omega (arith, live_within states (suc n) e)

low_number : (code : Code) (img : Image) → IsValid code img → (n : ℕ) → IsSome (stack_at img.stacks n) → n < 2 ^ 10
low_number code img v zero there = omega arith
low_number code img v (suc n) there =
    omega (arith, live_within img.states (suc n) (sym (v.stacks (suc n) (omega arith)) ∙ there), v.states, v.most)

own_place : (d : Option Place) (stack at : ℕ) → d ≡ Some (place stack at) → d ≡ Some (place stack (at_or d))
own_place d stack at e = e ∙ ap (λ (x : Option Place). Some (place stack (at_or x))) (sym e)

pub live_are_linked : LiveAreLinked
live_are_linked code img p r v live has =
    let q : IsProcess img p r = v.processes p r live has in
    record {
      numbers = low_number code img v;
      opened = subst (λ (n : ℕ). IsSome (stack_at img.stacks n)) (sym q.stack) (v.stacks p (counted p r img.regs has) ∙ live);
      size = subst (λ (n : ℕ). r.s ≡ length (words_of img.stacks n)) (sym q.stack) q.size;
      room = q.room;
      level = q.display.known;
      own = subst (λ (n : ℕ). display_at r r.ll ≡ Some (place n (frame r))) (sym q.stack) (own_place (display_at r r.ll) p q.frame q.own);
      above = q.above;
      cells = q.cells;
      segment = q.segment;
      short = v.rows.short;
    }
