-- Changes that write only what an operator may write.
use Rattle.std.proofs.Common.{◌≡◌, ◌⊎◌, inl, inr, refl, sym, ap, subst, ◌∙◌, ℕ, List, [], ◌∷◌, Option, Some, None, Bool, true, false, cond}
use Rattle.std.specs.Prelude.{take, drop}
use Rattle.std.proofs.Math.Decide.{ℕ_discrete}
use Rattle.b67_word.specs.Word.{Word}
use Rattle.b67_control.specs.declared.Registers.{Registers}
use Rattle.b67_control.specs.declared.Descriptor.{Descriptor}
use Rattle.b67_control.specs.declared.Mscw.{Mscw}
use Rattle.b67_control.specs.Control.{as_descriptor}
use Rattle.b67_ops.specs.declared.Operator.{Operator}
use Rattle.b67_store.specs.Store.{Row, row_at, row_words, row_words_or, words_of, closed_at}
use Rattle.b67_store.proofs.StoreLaws.{closed_here, changed_others}
use Rattle.b67_table.specs.Image.{Image}
use Rattle.b67_table.specs.Program.{Change, done, registers, row_of, close_row, close_events}
use Rattle.b67_table.specs.Writes.{write_made}
use Rattle.b67_table.specs.Writes as writes
use Rattle.b67_table.specs.Moves.{replaced, pushed}
use Rattle.b67_table.specs.Linkage.{closed_by, rows_closed, array_closed, arrays_closed, frame_left}
use Rattle.b67_table.specs.Arguments.{finished_at}
use Rattle.b67_footprints.specs.Reaching.{ReachesRow, from_stack, from_row}
use Rattle.b67_footprints.specs.Keeping.{ChangeKeeps}
use Rattle.b67_footprints.proofs.Lists.{Each, each_map, each_take, each_drop, LiesFrom, each_lies}
use Rattle.b67_footprints.proofs.References.{IsDescribed}

module _ (img : Image) (op : Operator) (r : Registers) (p : ℕ) where
  -- from an image on the change writes only what it may
  abbrev pub Keeps : Change → Image → Type 0
  Keeps change now = ChangeKeeps img op r p change now

  pub pushed_kept : (words : List Word) (next : Change) → ((now : Image) → Keeps next now) → (now : Image) → Keeps (pushed r.stack words next) now
  pushed_kept [] next k now = k now
  pushed_kept (w ∷ words) next k now = (refl, pushed_kept words next k (write_made p (writes.push r.stack w) now))

  pub replaced_kept : (next n : ℕ) (w : Word) (now : Image) → Keeps (replaced r next n w) now
  replaced_kept next n w now = (refl, (refl, (refl, tt)))

  pub finished_kept : (m : Mscw) (words : List Word) (pointer : ℕ) (now : Image) → Keeps (finished_at r m words pointer) now
  finished_kept m words pointer now = (refl, pushed_kept words (registers _ done) (λ later. (refl, tt)) (write_made p (writes.cut r.stack r.f) now))

  -- ---- rows that are closed

  -- each row is as it was, or closed
  abbrev pub Fewer : Image → Type 0
  Fewer now = (n : ℕ) → (row_at now.rows n ≡ None) ⊎ (row_at now.rows n ≡ row_at img.rows n)

  pub fewer_now : Fewer img
  fewer_now n = inr refl

  as_before : (a b : Option Row) (n : ℕ) → a ≡ b → (b ≡ None) ⊎ (b ≡ row_at img.rows n) → (a ≡ None) ⊎ (a ≡ row_at img.rows n)
  as_before a b n same (inl e) = inl (same ∙ e)
  as_before a b n same (inr e) = inr (same ∙ e)

  fewer_after : (now : Image) (m : ℕ) → Fewer now → Fewer (write_made p (writes.close_row m) now)
  fewer_after now m few n = by_number (ℕ_discrete n m)
    where
      by_number : Dec (n ≡ m) → (row_at (closed_at now.rows m) n ≡ None) ⊎ (row_at (closed_at now.rows m) n ≡ row_at img.rows n)
      by_number (yes e) = inl (ap (λ (k : ℕ). row_at (closed_at now.rows m) k) e ∙ closed_here now.rows m)
      by_number (no h) = as_before (row_at (closed_at now.rows m) n) (row_at now.rows n) n (changed_others now.rows m n None h) (few n)

  -- the change may follow, whatever was closed
  abbrev pub MayFollow : Change → Type 0
  MayFollow next = (now : Image) → Fewer now → Keeps next now

  close_follows : (n : ℕ) (next : Change) → ReachesRow img op r n → MayFollow next → MayFollow (close_row n next)
  close_follows n next i k now few = (i, k (write_made p (writes.close_row n) now) (fewer_after now n few))

  by_copy : (b : Bool) (first second : Change) → MayFollow first → MayFollow second → MayFollow (cond b first second)
  by_copy true first second f s = f
  by_copy false first second f s = s

  by_descriptor : (w : Word) (o : Option Descriptor) (closes : Descriptor → Change → Change) (next : Change) → as_descriptor w ≡ o → IsDescribed img op r w
      → ((d : Descriptor) → ReachesRow img op r d.address → MayFollow (closes d next)) → MayFollow next → MayFollow (closed_by o closes next)
  by_descriptor w None closes next e i c k = k
  by_descriptor w (Some d) closes next e i c k = by_copy d.copy next (closes d next) k (c d (i d e))

  rows_follow : (words : List Word) (next : Change) → Each (IsDescribed img op r) words → MayFollow next → MayFollow (rows_closed words next)
  rows_follow [] next i k = k
  rows_follow (w ∷ words) next i k =
      let later : MayFollow (rows_closed words next) = rows_follow words next i.1 k in
      by_descriptor w (as_descriptor w) (λ d more. close_row d.address more) (rows_closed words next) refl i.0
      (λ d j. close_follows d.address (rows_closed words next) j later) later

  -- the words of a row that is reached
  row_described : (n : ℕ) → ReachesRow img op r n → Each (IsDescribed img op r) (row_words img.rows n)
  row_described n i =
      each_map (LiesFrom (row_words img.rows n) 0) (IsDescribed img op r) (λ w k d e. from_row n k.at w d i k.is e) (row_words img.rows n) (each_lies (row_words img.rows n))

  described_now : (n : ℕ) → ReachesRow img op r n → (now : Image) → (row_at now.rows n ≡ None) ⊎ (row_at now.rows n ≡ row_at img.rows n)
      → Each (IsDescribed img op r) (row_words_or (row_at now.rows n))
  described_now n i now (inl e) = subst (λ (o : Option Row). Each (IsDescribed img op r) (row_words_or o)) (sym e) tt
  described_now n i now (inr e) = subst (λ (o : Option Row). Each (IsDescribed img op r) (row_words_or o)) (sym e) (row_described n i)

  mother_follows : (n : ℕ) (next : Change) → ReachesRow img op r n → MayFollow next
      → MayFollow (row_of n (λ (row : Option Row). rows_closed (row_words_or row) (close_row n next)))
  mother_follows n next i k now few =
      (i, rows_follow (row_words_or (row_at now.rows n)) (close_row n next) (described_now n i now (few n)) (close_follows n next i k) now few)

  array_follows : (d : Descriptor) (next : Change) → ReachesRow img op r d.address → MayFollow next → MayFollow (array_closed d next)
  array_follows d next i k =
      by_copy d.mother (row_of d.address (λ (row : Option Row). rows_closed (row_words_or row) (close_row d.address next))) (close_row d.address next)
      (mother_follows d.address next i k) (close_follows d.address next i k)

  arrays_follow : (words : List Word) (next : Change) → Each (IsDescribed img op r) words → MayFollow next → MayFollow (arrays_closed words next)
  arrays_follow [] next i k = k
  arrays_follow (w ∷ words) next i k =
      let later : MayFollow (arrays_closed words next) = arrays_follow words next i.1 k in
      by_descriptor w (as_descriptor w) array_closed (arrays_closed words next) refl i.0 (λ d j. array_follows d (arrays_closed words next) j later) later

  -- a frame of the own stack with these cells is left
  pub frame_follows : (f : ℕ) (cells : List Word) (next : Change) → Each (IsDescribed img op r) cells → MayFollow next → MayFollow (frame_left r.stack f cells next)
  frame_follows f cells next i k =
      arrays_follow cells (close_events r.stack f next) i (λ now few. (refl, k (write_made p (writes.close_events r.stack f) now) few))

  -- the words of the own stack
  pub own_described : Each (IsDescribed img op r) (words_of img.stacks r.stack)
  own_described =
      each_map (LiesFrom (words_of img.stacks r.stack) 0) (IsDescribed img op r) (λ w k d e. from_stack k.at w d k.is e) (words_of img.stacks r.stack)
      (each_lies (words_of img.stacks r.stack))

  pub taken_described : (n from : ℕ) → Each (IsDescribed img op r) (take n (drop from (words_of img.stacks r.stack)))
  taken_described n from =
      each_take (IsDescribed img op r) n (drop from (words_of img.stacks r.stack)) (each_drop (IsDescribed img op r) from (words_of img.stacks r.stack) own_described)
