-- What a private operator does where more words lie below, and where the words of a part lie in its stack.
use Rattle.std.proofs.Common.{◌≡◌, ◌⊎◌, inl, inr, refl, sym, ap, ◌∙◌, ℕ, ◌+◌, Bool, true, false, cond, List, ◌++◌, length, take, drop, Option, Some, None, append_assoc, length-append, arith}
use Rattle.std.specs.Prelude.{reverse, nat_le}
use Rattle.std.proofs.lemmas.List.{reverse-append, reverse-reverse, length-reverse}
use Rattle.std.proofs.Math.Seq.{drop-append-add}
use Rattle.b67_word.specs.Word.{Word}
use Rattle.b67_ops.specs.declared.Operator.{Operator}
use Rattle.b67_segment.specs.declared.code.Code.{Code}
use Rattle.b67_segment.specs.Decoded.{found}
use Rattle.b67_store.specs.Store.{stack_limit}
use Rattle.b67_table.specs.declared.Private.{Private}
use Rattle.b67_table.specs.Effect.{Effect}
use Rattle.b67_table.specs.Effect as effects
use Rattle.b67_table.specs.declared.InterruptKind.TheVariants.{StackUnderflow}
use Rattle.b67_table.specs.Outcome.{Outcome, gives, faults, interrupts, limit, limited}
use Rattle.b67_table.specs.Table.{private_op}
use Rattle.b67_store.proofs.TopFirst.{cut_is}
use Rattle.b67_list.proofs.Lists.{take_front}
use Rattle.b67_private.specs.Parts.{length_of, own_outcome, outcome_by, own_next, is_new, is_plain}
use Rattle.b67_private.proofs.Deeper.{is_short, Lacks, deep, deepened, Deepens, private_op_deep, lacks_none}

-- ---- more words below

module _ (lower : List Word) where
  abbrev pub deeper : Outcome Private → Outcome Private
  deeper (gives m) = gives (deep lower m)
  deeper (faults kind) = faults kind
  deeper (interrupts kind) = interrupts kind
  deeper limit = limit

  by_size : (m : Private) (b : Bool) → cond b (gives (deep lower m)) limit ≡ deeper (cond b (gives m) limit)
  by_size m true = refl
  by_size m false = refl

  limited_deep : (e : Effect Private) → limited length_of (deepened lower e) ≡ deeper (limited length_of e)
  limited_deep (effects.gives m) = by_size m (nat_le (length_of m) stack_limit)
  limited_deep (effects.faults kind) = refl
  limited_deep (effects.interrupts kind) = refl

  -- the same with more words below, or a word is missed
  abbrev pub Deepens_outcome : Private → Outcome Private → Outcome Private → Type 0
  Deepens_outcome m e f = (e ≡ deeper f) ⊎ ((f ≡ interrupts StackUnderflow) × Lacks 2 m)

  limited_by : (m : Private) (e f : Effect Private) → Deepens lower 2 m e f → Deepens_outcome m (limited length_of e) (limited length_of f)
  limited_by m e f (inl same) = inl (ap (limited length_of) same ∙ limited_deep f)
  limited_by m e f (inr l) = inr (ap (limited length_of) l.0, l.1)

  pub own_outcome_deep : (op : Operator) (next : ℕ) (m : Private) → Deepens_outcome m (own_outcome op next (deep lower m)) (own_outcome op next m)
  own_outcome_deep op next m =
      limited_by m (private_op op m.regs.place next (deep lower m)) (private_op op m.regs.place next m) (private_op_deep lower op m.regs.place next m)

  outcome_deep : (o : Option (Operator × ℕ)) (m : Private) → Deepens_outcome m (outcome_by o (deep lower m)) (outcome_by o m)
  outcome_deep None m = inl refl
  outcome_deep (Some f) m = own_outcome_deep f.0 f.1 m

  next_deep : (code : Code) (m : Private) → Deepens_outcome m (own_next code (deep lower m)) (own_next code m)
  unfolding own_next
  next_deep code m = outcome_deep (found code m.regs.segment m.regs.ll m.regs.place) m

  same_by : (m : Private) (e f : Outcome Private) → is_short m ≡ false → Deepens_outcome m e f → e ≡ deeper f
  same_by m e f k (inl same) = same
  same_by m e f k (inr l) = absurd (lacks_none m k l.1)

  pub own_outcome_same : (op : Operator) (next : ℕ) (m : Private) → is_short m ≡ false → own_outcome op next (deep lower m) ≡ deeper (own_outcome op next m)
  own_outcome_same op next m k = same_by m (own_outcome op next (deep lower m)) (own_outcome op next m) k (own_outcome_deep op next m)

  pub own_next_deep : (code : Code) (m : Private) → is_short m ≡ false → own_next code (deep lower m) ≡ deeper (own_next code m)
  own_next_deep code m k = same_by m (own_next code (deep lower m)) (own_next code m) k (next_deep code m)

  new_deeper : (o : Outcome Private) → is_new (deeper o) ≡ is_new o
  new_deeper (gives q) = refl
  new_deeper (faults kind) = refl
  new_deeper (interrupts kind) = refl
  new_deeper limit = refl

  -- the next operator is plain for both alike
  pub plain_deep : (code : Code) (m : Private) → is_short m ≡ false → is_plain code (deep lower m) ≡ is_plain code m
  plain_deep code m k = ap is_new (own_next_deep code m k) ∙ new_deeper (own_next code m)

  pub from_deeper : (o : Outcome Private) (b : Private) → deeper o ≡ gives b → (q : Private) × (o ≡ gives q) × (deep lower q ≡ b)
  from_deeper (gives q) b e = (q, refl, cc)
  from_deeper (faults kind) b e = cc
  from_deeper (interrupts kind) b e = cc
  from_deeper limit b e = cc

-- ---- a stack, from its floor on

-- the words from a higher floor on are the upper ones
pub upper_words : {A : Type 0} (under words : List A) (n count : ℕ) → n + count ≡ length words → reverse (drop (length under + count) (under ++ reverse words)) ≡ take n words
upper_words under words n count e =
    ap reverse (drop-append-add under (reverse words) count ∙ sym (cut_is words n count e)) ∙ reverse-reverse (take n words)

-- the words under a higher floor, and new ones above it
pub put_back : {A : Type 0} (under upper lower new : List A) (n : ℕ) → n ≡ length under + length lower
    → take n (under ++ reverse (upper ++ lower)) ++ reverse new ≡ under ++ reverse (new ++ lower)
put_back under upper lower new n e =
    ap (λ xs. take n (under ++ xs) ++ reverse new) (reverse-append upper lower)
    ∙ ap (λ xs. take n xs ++ reverse new) (sym (append_assoc under (reverse lower) (reverse upper)))
    ∙ ap (λ xs. xs ++ reverse new) (take_front (under ++ reverse lower) (reverse upper) n (omega (arith, e, length-append under (reverse lower), length-reverse lower)))
    ∙ append_assoc under (reverse lower) (reverse new)
    ∙ ap (λ xs. under ++ xs) (sym (reverse-append new lower))
