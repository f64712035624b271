-- One entry more is noted.
use Rattle.std.proofs.Common.{arith, ◌≡◌, refl, ap, ◌∙◌, ℕ, suc, ◌+◌, List, [], ◌∷◌, ◌++◌, length, Option, Some, None}
use Rattle.b67_commands.specs.declared.command.Command.{Command}
use Rattle.b67_commands.specs.declared.noting.Note.{Note}
use Rattle.b67_commands.specs.Positions.{Stored}
use Rattle.b67_commands.specs.Noting.{looked_for_by, note_added, notes_from, notes_of}

noted_then : (number : ℕ) (o : Option ℕ) (xs ys : List Note) → note_added number o (xs ++ ys) ≡ note_added number o xs ++ ys
noted_then number None xs ys = refl
noted_then number (Some place) xs ys = refl

from_more : (commands : List Command) (number : ℕ) (stored : Stored) (entry : Option (List ℕ))
    → notes_from commands number (stored ++ entry ∷ []) ≡ notes_from commands number stored ++ note_added (number + length stored) (looked_for_by commands entry) []
from_more commands number [] entry = let none : number ≡ number + 0 = omega arith in ap (λ (n : ℕ). note_added n (looked_for_by commands entry) []) none
from_more commands number (other ∷ stored) entry =
    let one : number + 1 + length stored ≡ number + suc (length stored) = omega arith in
    ap (λ (ns : List Note). note_added number (looked_for_by commands other) ns)
    (from_more commands (number + 1) stored entry
    ∙ ap (λ (n : ℕ). notes_from commands (number + 1) stored ++ note_added n (looked_for_by commands entry) []) one)
    ∙ noted_then number (looked_for_by commands other) (notes_from commands (number + 1) stored) (note_added (number + suc (length stored)) (looked_for_by commands entry) [])

pub notes_more : (commands : List Command) (stored : Stored) (entry : Option (List ℕ)) (count : ℕ) → count ≡ length stored
    → notes_of commands (stored ++ entry ∷ []) ≡ notes_of commands stored ++ note_added (count + 1) (looked_for_by commands entry) []
notes_more commands stored entry count e =
    let one : 1 + length stored ≡ count + 1 = omega (arith, e) in
    from_more commands 1 stored entry ∙ ap (λ (n : ℕ). notes_of commands stored ++ note_added n (looked_for_by commands entry) []) one
