-- What a private operator makes of an image.
use Rattle.std.specs.Prelude.{nat_le, ◌++◌, ◌^◌, ◌<◌}
use Rattle.std.proofs.Common.{◌≡◌, refl, sym, ap, ◌∙◌, ℕ, ◌+◌, ◌≤◌, Bool, true, false, cond, take, drop, reverse, length, arith, Some, Result, Ok, Err}
use Rattle.std.proofs.lemmas.List.{length-drop, length-reverse}
use Rattle.b67_list.specs.Numbered.{numbered}
use Rattle.b67_control.specs.declared.Registers.{Registers}
use Rattle.b67_ops.specs.declared.Operator.{Operator}
use Rattle.b67_store.specs.Store.{Stacks, Rows, words_of, with_stack, stack_limit}
use Rattle.b67_table.specs.declared.Private.{Private}
use Rattle.b67_table.specs.Effect.{Effect}
use Rattle.b67_table.specs.Effect as effects
use Rattle.b67_table.specs.Image.{Image, with_private, with_effect, private_of}
use Rattle.b67_table.specs.Outcome.{Outcome, gives, faults, interrupts, limit, limited}
use Rattle.b67_table.specs.Private.{floor}
use Rattle.b67_table.specs.Table.{private_op, stack_length, length_in}
use Rattle.b67_table.proofs.FirstValid.{counted}
use Rattle.b67_table.proofs.Lists.{numbered_set, numbered_within}
use Rattle.b67_table.proofs.Keeping.{private_keeps}
use Rattle.b67_table.proofs.PrivateAll.{private_op_kept}
use Rattle.b67_table.proofs.PrivateKept as kept
use Rattle.b67_linkage.specs.Held.{IsLinked}
use Rattle.b67_ops.specs.Spelling.{Fits}
use Rattle.b67_private.specs.declared.Stop.{Stop as PartStop}
use Rattle.b67_private.specs.declared.Stop.TheVariants as parts
use Rattle.b67_private.specs.Parts.{IsPrivatePart, length_of, own_outcome}
use Rattle.b67_private.proofs.Stepping.{given_of, stops_as}
use Rattle.b67_private.specs.Performing.{stopped as part_stopped, HasPlace, PrivatePerforms}
use Rattle.b67_reach.specs.Answers.{stopped}
use Rattle.b67_reach.specs.Images.{Own, own_of_image, with_own}
use Rattle.b67_action.specs.Own.{part_of_process, stop_by, DoesOwn}

-- a stop of a part as an answer of its operator
pub performs_stops : (size : ℕ) (outcome : Outcome Private) (old new : Private) (answer : Result (Unit {0}) PartStop) (stop : PartStop) → answer ≡ Err stop
    → HasPlace size old → PrivatePerforms size outcome old answer new → outcome ≡ part_stopped stop
performs_stops size outcome old new (Ok u) stop e h x = cc
performs_stops size outcome old new (Err other) stop e h x =
    let same : other ≡ stop = cc in stops_as size outcome old other x.0 h ∙ ap (λ (s : PartStop). part_stopped s) same

-- and the part stays as it is
pub performs_stays : (size : ℕ) (outcome : Outcome Private) (old new : Private) (answer : Result (Unit {0}) PartStop) (stop : PartStop) → answer ≡ Err stop
    → PrivatePerforms size outcome old answer new → new ≡ old
performs_stays size outcome old new (Ok u) stop e x = cc
performs_stays size outcome old new (Err other) stop e x = x.1

module _ (op : Operator) (next : ℕ) (st : Stacks) (rows : Rows) (r : Registers) where
  module _ (p : ℕ) (img : Image) (s : img.stacks ≡ st) (t : img.rows ≡ rows) (has : numbered img.regs p ≡ Some r) where
    abbrev put : Private → Image
    put q = with_private img p (floor r) q

    abbrev moved : Outcome Private → Outcome Image
    moved (gives q) = gives (put q)
    moved (faults kind) = faults kind
    moved (interrupts kind) = interrupts kind
    moved limit = limit

    length_put : (q : Private) → stack_length p (put q) ≡ q.regs.s
    length_put q = ap length_in (numbered_set img.regs p q.regs (counted p r img.regs has) (numbered_within img.regs p r has))

    by_bool : (q : Private) (b : Bool) → cond b (gives (put q)) limit ≡ moved (cond b (gives q) limit)
    by_bool q true = refl
    by_bool q false = refl

    effect_moved : (e : Effect Private) → limited (stack_length p) (with_effect img p (floor r) e) ≡ moved (limited length_of e)
    effect_moved (effects.gives q) =
        ap (λ (n : ℕ). cond (nat_le n stack_limit) (gives (put q)) limit) (length_put q) ∙ by_bool q (nat_le (length_of q) stack_limit)
    effect_moved (effects.faults kind) = refl
    effect_moved (effects.interrupts kind) = refl

    outcome_moved : limited (stack_length p) (with_effect img p (floor r) (private_op op r.place next (private_of img r))) ≡ moved (own_outcome op next (part_of_process st r))
    outcome_moved =
        ap (λ (z : Stacks). limited (stack_length p) (with_effect img p (floor r) (private_op op r.place next (part_of_process z r)))) s
        ∙ effect_moved (private_op op r.place next (part_of_process st r))

    stop_moved : (stop : PartStop) → moved (part_stopped stop) ≡ stopped (stop_by stop)
    stop_moved (parts.Fault kind) = refl
    stop_moved (parts.Interrupt kind) = refl
    stop_moved parts.StackLimit = refl

  pub own_stops : {A : Type 0} (stop : PartStop) (new : Own) → own_outcome op next (part_of_process st r) ≡ part_stopped stop → new ≡ own_of_image st rows r
      → DoesOwn {A = A} op next (own_of_image st rows r) new (Err (stop_by stop))
  own_stops stop new e same = record {
    outcome = λ p img s t has. outcome_moved p img s t has ∙ ap (moved p img s t has) e ∙ stop_moved p img s t has stop;
    stays = same;
  }

  pub own_goes : (q : Private) (stacks : Stacks) (more : Rows) → own_outcome op next (part_of_process st r) ≡ gives q
      → stacks ≡ with_stack st q.regs.stack (take (floor r) (words_of st q.regs.stack) ++ reverse q.words) → more ≡ rows
      → DoesOwn op next (own_of_image st rows r) (own_of_image stacks more q.regs) (Ok (tt {0}))
  own_goes q stacks more e f g = record {
    outcome = λ p img s t has. outcome_moved p img s t has ∙ ap (moved p img s t has) e
        ∙ ap (λ (z : Stacks). gives (with_own (own_of_image (with_stack z q.regs.stack (take (floor r) (words_of z q.regs.stack) ++ reverse q.words)) img.rows q.regs) p img)) s
        ∙ ap (λ (z : Stacks). gives (with_own (own_of_image z img.rows q.regs) p img)) (sym f)
        ∙ ap (λ (z : Rows). gives (with_own (own_of_image stacks z q.regs) p img)) (t ∙ sym g);
    stays = tt {0};
  }

  part_kept : IsLinked st rows r → IsPrivatePart (part_of_process st r) → kept.IsPart (floor r) (part_of_process st r)
  part_kept l k = record {
    size = omega (arith, length-reverse (drop (floor r) (words_of st r.stack)), length-drop (floor r) (words_of st r.stack), l.size, l.above);
    words = k.words;
    seen = k.seen;
    mark = k.mark;
    cells = k.cells;
    above = k.above;
    pointer = k.pointer;
  }

  -- the part that a private operator leaves fits into its stack again
  pub own_left : (q : Private) → IsLinked st rows r → IsPrivatePart (part_of_process st r) → Fits r.ll op → next < 2 ^ 16 → own_outcome op next (part_of_process st r) ≡ gives q
      → (q.regs.stack ≡ r.stack) × (floor r + length q.words ≤ stack_limit)
  own_left q l k fits bound e =
      let given = given_of (private_op op r.place next (part_of_process st r)) q e in
      let after = private_op_kept (floor r) op r.place next r.ll (part_of_process st r) q l.level fits bound (part_kept l k) given.0 given.1 in
      ((private_keeps op r.place next (part_of_process st r) q given.0).0, omega (arith, after.size, given.1))
