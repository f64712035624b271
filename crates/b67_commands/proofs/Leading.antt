-- Where the command at a place leads by the notes.
use Rattle.std.proofs.Common.{◌≡◌, inl, inr, sym, ap, ◌∙◌, subst, ℕ, ◌+◌, ◌<◌, ◌≤◌, List, [], ◌∷◌, ◌++◌, length, drop, get_or, Some, arith}
use Rattle.std.specs.Prelude.{◌⊎◌, slice_get}
use Rattle.std.proofs.lemmas.List.{append_assoc, drop_more}
use Rattle.b67_commands.specs.declared.command.Command.{Command}
use Rattle.b67_commands.specs.declared.command.Command.TheVariants.{Store, Show, Stack, Regs}
use Rattle.b67_commands.specs.declared.noting.Note.{Note}
use Rattle.b67_commands.specs.Positions.{Stored, to_store, position_moved, positions}
use Rattle.b67_commands.specs.Noting.{looked_for, notes_of, next_noted, MovesTo}
use Rattle.b67_commands.proofs.Notes.{notes_lead}

module _ (commands : List Command) (notes : List Note) (all place k n : ℕ) where
  one_command : (one other : Command) → slice_get commands place ≡ Some one → slice_get commands place ≡ Some other → other ≡ one
  one_command one other a b = cc

  pub leads : (name : List ℕ) (first : ℕ) → slice_get commands place ≡ Some (Store name) → looked_for commands name ≡ Some first → n ≡ next_noted notes all k first
      → MovesTo commands notes all place k n
  leads name first here looked e command stored at is size few =
      let same : command ≡ Store name = one_command (Store name) command here at in
      let within : k ≤ length stored = omega (arith, few, size) in
      let so : n ≡ k + to_store name (drop k stored) =
      e ∙ ap (λ (ns : List Note). next_noted ns all k first) is ∙ ap (λ (m : ℕ). next_noted (notes_of commands stored) m k first) size
      ∙ notes_lead commands stored name first k looked within in
      subst (λ (c : Command). n ≡ position_moved stored k c) (sym same) so

  pub stands_still : (one : Command) → slice_get commands place ≡ Some one → ((stored : Stored) → position_moved stored k one ≡ k) → n ≡ k → MovesTo commands notes all place k n
  stands_still one here still e command stored at is size few =
      let same : command ≡ one = one_command one command here at in
      subst (λ (c : Command). n ≡ position_moved stored k c) (sym same) (e ∙ sym (still stored))

-- ---- one position more

pub one_more : (commands : List Command) (stored : Stored) (at : List ℕ) (place k n : ℕ) (d : Command) → place < length commands
    → at ++ positions stored k (drop place commands) ≡ positions stored 0 commands → n ≡ position_moved stored k (get_or commands place d)
    → (at ++ n ∷ []) ++ positions stored n (drop (place + 1) commands) ≡ positions stored 0 commands
one_more commands stored at place k n d within so e =
    let command : Command = get_or commands place d in
    let next : positions stored k (drop place commands) ≡ positions stored k (command ∷ drop (place + 1) commands) = ap (λ (cs : List Command). positions stored k cs) (drop_more commands place d within) in
    let here : positions stored k (command ∷ drop (place + 1) commands) ≡ n ∷ positions stored n (drop (place + 1) commands) =
    ap (λ (m : ℕ). m ∷ positions stored m (drop (place + 1) commands)) (sym e) in
    append_assoc at (n ∷ []) (positions stored n (drop (place + 1) commands)) ∙ ap (λ (xs : List ℕ). at ++ xs) (sym (next ∙ here)) ∙ so

-- ---- commands that do not move

pub still_of : (one : Command) (stored : Stored) (k : ℕ) → (one ≡ Show) ⊎ (((p : ℕ) × (one ≡ Stack p)) ⊎ ((p : ℕ) × (one ≡ Regs p))) → position_moved stored k one ≡ k
still_of one stored k (inl e) = ap (λ (c : Command). position_moved stored k c) e
still_of one stored k (inr (inl (p, e))) = ap (λ (c : Command). position_moved stored k c) e
still_of one stored k (inr (inr (p, e))) = ap (λ (c : Command). position_moved stored k c) e
