-- A private operator in the room of a stack: what it does to all the words there, it does to the private part.
use Rattle.std.specs.Prelude.{◌⊎◌, ◌^◌, ◌<◌, ◌≤◌}
use Rattle.std.proofs.Common.{◌≡◌, refl, sym, ap, subst, ◌∙◌, ℕ, List, ◌++◌, length, take, drop, reverse, Option, Some, None, IsSome, Ok, Err, false, take-append-drop, ⊎_elim, inl, inr, arith}
use Rattle.std.proofs.lemmas.List.{length-drop, length-reverse, reverse-append, reverse-reverse}
use Rattle.b67_word.specs.Word.{Word}
use Rattle.b67_control.specs.declared.Registers.{Registers}
use Rattle.b67_ops.specs.declared.Operator.{Operator}
use Rattle.b67_ops.specs.Spelling.{Fits}
use Rattle.b67_store.specs.Store.{Stacks, Rows, IsRoom, stack_at, words_of, words_or, with_stack, with_cut, stack_limit}
use Rattle.b67_store.proofs.Cited.{put_there}
use Rattle.b67_table.specs.declared.Private.{Private}
use Rattle.b67_table.specs.Outcome.{Outcome, gives, faults, interrupts, limit}
use Rattle.b67_table.specs.Private.{floor}
use Rattle.b67_linkage.specs.Held.{IsLinked}
use Rattle.b67_private.specs.declared.Stop.{Stop as PartStop}
use Rattle.b67_private.specs.declared.Stop.TheVariants as parts
use Rattle.b67_private.specs.Parts.{IsPrivatePart, own_outcome, part_in, part_with}
use Rattle.b67_private.specs.Performing.{stopped as part_stopped}
use Rattle.b67_private.proofs.Deeper.{is_short, deep, whole_is_enough}
use Rattle.b67_private.proofs.Stretching.{deeper, own_outcome_same, from_deeper}
use Rattle.b67_reach.specs.Images.{own_of_image}
use Rattle.b67_list.proofs.Lists.{set_set_here}
use Rattle.b67_action.specs.Own.{part_of_process, stop_by, DoesOwn}
use Rattle.b67_action.proofs.OwnOutcome.{own_stops, own_goes, own_left}
use Rattle.b67_action.proofs.OwnWords.{own_words}

-- ---- a room that is lent, and the stack that is cut after the loan

pub part_in_is : (st : Stacks) (r : Registers) (least : ℕ) (room : List Word) → r.s ≡ length (words_of st r.stack) → IsRoom (words_of st r.stack) least room → part_in r room ≡ part_with r (reverse (words_of st r.stack))
part_in_is st r least room size k = ap (λ (ws : List Word). part_with r (reverse ws)) (ap (λ (n : ℕ). take n room) size ∙ k.words)

-- it has a place for one more word, or all that a stack may have, where so many words at least are lent
pub place_in : (s least size : ℕ) → (s < least) ⊎ (least ≡ stack_limit) → least ≤ size → size ≤ stack_limit → (s < size) ⊎ (size ≡ stack_limit)
place_in s least size place long few =
    ⊎_elim (λ (p : s < least). inl (omega (arith, p, long))) (λ (e : least ≡ stack_limit). inr (omega (arith, e, long, few))) place

module _ (st lent : Stacks) (n : ℕ) (room : List Word) (there : IsSome (stack_at st n)) (is : lent ≡ with_stack st n room) where
  pub still_open : IsSome (stack_at lent n)
  still_open = subst (λ (z : Stacks). IsSome (stack_at z n)) (sym is) (subst (λ (o : Option (List Word)). IsSome o) (sym (own_words st n there room)) refl)

  pub cut_after : (cut : Stacks) (s : ℕ) → cut ≡ with_cut lent n s → cut ≡ with_stack st n (take s room)
  cut_after cut s e =
      e
      ∙ ap (λ (z : Stacks). with_cut z n s) is
      ∙ ap (λ (o : Option (List Word)). with_stack (with_stack st n room) n (take s (words_or o))) (own_words st n there room)
      ∙ set_set_here st n (Some room) (Some (take s room))

-- the words below a place, and those that stand above it in place of others
pub above_below : (ws us back : List Word) (n : ℕ) → back ≡ us ++ reverse (take n ws) → reverse back ≡ take n ws ++ reverse us
above_below ws us back n e =
    ap reverse e ∙ reverse-append us (reverse (take n ws)) ∙ ap (λ (z : List Word). z ++ reverse us) (reverse-reverse (take n ws))

words_there : (o : Option (List Word)) → IsSome o → o ≡ Some (words_or o)
words_there None s = absurd cc
words_there (Some ws) s = refl

stop_below : (lower : List Word) (o : Outcome Private) (stop : PartStop) → deeper lower o ≡ part_stopped stop → o ≡ part_stopped stop
stop_below lower (gives q) (parts.Fault kind) e = cc
stop_below lower (gives q) (parts.Interrupt kind) e = cc
stop_below lower (gives q) parts.StackLimit e = cc
stop_below lower (faults kind) stop e = e
stop_below lower (interrupts kind) stop e = e
stop_below lower limit stop e = e

-- ---- the private part, and the words below it

-- the words of a stack below the floor, the top one first
abbrev pub below : Stacks → Registers → List Word
below st r = reverse (take (floor r) (words_of st r.stack))

module _ (st : Stacks) (rows : Rows) (r : Registers) (linked : IsLinked st rows r) where
  pub whole_is : part_with r (reverse (words_of st r.stack)) ≡ deep (below st r) (part_of_process st r)
  whole_is =
      let ws = words_of st r.stack in
      ap (λ (us : List Word). part_with r us) (ap reverse (sym (take-append-drop (floor r) ws)) ∙ reverse-append (take (floor r) ws) (drop (floor r) ws))

  pub enough : is_short (part_of_process st r) ≡ false
  enough =
      let ws = words_of st r.stack in
      whole_is_enough (part_of_process st r) (omega (arith, linked.size, linked.above, length-reverse (drop (floor r) ws), length-drop (floor r) ws))

  module _ (op : Operator) (next least : ℕ) (room : List Word) (lent : IsRoom (words_of st r.stack) least room) where
    outcome_is : own_outcome op next (part_in r room) ≡ deeper (below st r) (own_outcome op next (part_of_process st r))
    outcome_is =
        ap (λ (m : Private). own_outcome op next m) (part_in_is st r least room linked.size lent ∙ whole_is)
        ∙ own_outcome_same (below st r) op next (part_of_process st r) enough

    pub room_goes : (b : Private) (stacks : Stacks) (more : Rows) → IsPrivatePart (part_of_process st r) → Fits r.ll op → next < 2 ^ 16 → own_outcome op next (part_in r room) ≡ gives b
        → stacks ≡ with_stack st r.stack (reverse b.words) → more ≡ rows → DoesOwn op next (own_of_image st rows r) (own_of_image stacks more b.regs) (Ok (tt {0}))
    room_goes b stacks more part fits bound e f g =
        let upper = from_deeper (below st r) (own_outcome op next (part_of_process st r)) b (sym outcome_is ∙ e) in
        let q = upper.0 in
        let left = own_left op next st rows r q linked part fits bound upper.1 in
        let put : stacks ≡ with_stack st q.regs.stack (take (floor r) (words_of st q.regs.stack) ++ reverse q.words) =
        f
        ∙ ap (λ (ws : List Word). with_stack st r.stack ws) (above_below (words_of st r.stack) q.words b.words (floor r) (sym (ap (λ (x : Private). x.words) upper.2)))
        ∙ ap (λ (n : ℕ). with_stack st n (take (floor r) (words_of st n) ++ reverse q.words)) (sym left.0) in
        subst (λ (x : Private). DoesOwn op next (own_of_image st rows r) (own_of_image stacks more x.regs) (Ok (tt {0}))) upper.2
        (own_goes op next st rows r q stacks more upper.1 put g)

    pub room_stops : {A : Type 0} (stop : PartStop) (b : Private) (stacks : Stacks) (more : Rows) → own_outcome op next (part_in r room) ≡ part_stopped stop → b ≡ part_in r room
        → stacks ≡ with_stack st r.stack (reverse b.words) → more ≡ rows → DoesOwn {A = A} op next (own_of_image st rows r) (own_of_image stacks more b.regs) (Err (stop_by stop))
    room_stops stop b stacks more e same f g =
        let ws = words_of st r.stack in
        let back : stacks ≡ st =
        f
        ∙ ap (λ (x : Private). with_stack st r.stack (reverse x.words)) (same ∙ part_in_is st r least room linked.size lent)
        ∙ ap (λ (z : List Word). with_stack st r.stack z) (reverse-reverse ws)
        ∙ put_there st r.stack ws (words_there (stack_at st r.stack) linked.opened) in
        own_stops op next st rows r stop (own_of_image stacks more b.regs) (stop_below (below st r) (own_outcome op next (part_of_process st r)) stop (sym outcome_is ∙ e))
        (ap (λ (z : Stacks). own_of_image z more b.regs) back ∙ ap (λ (z : Rows). own_of_image st z b.regs) g ∙ ap (λ (x : Private). own_of_image st rows x.regs) same)
