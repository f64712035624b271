-- The answers, one after another.
use Rattle.std.proofs.Common.{arith, ◌≡◌, refl, ap, sym, ◌∙◌, subst, ℕ, zero, suc, ◌≤◌, List, [], ◌∷◌, length, take, Some, None}
use Rattle.std.specs.Prelude.{slice_get}
use Rattle.std.specs.List.{flat_map}
use Rattle.std.proofs.lemmas.List.{length-take-le}
use Rattle.std.proofs.lemmas.List.Concat.{flat_map-cons}
use Rattle.algol_tree.specs.Plain.{PProgram}
use Rattle.algol_tree.specs.Scopes.{scopes_of}
use Rattle.algol_meaning.specs.Run.{start}
use Rattle.b67_segment.specs.declared.code.Code.{Code}
use Rattle.b67_commands.specs.declared.command.Command.{Command}
use Rattle.b67_commands.specs.Positions.{Stored, position_moved, positions, PositionsAreWithin}
use Rattle.b67_storing.specs.Stores.{stored_by}
use Rattle.b67_storing.proofs.Standing.{length_stored}
use Rattle.b67_stops.specs.Answering.{AreAnswers}
use Rattle.algol_lean.proofs.InUse.{run_is}
use Rattle.algol_standing.proofs.Begun.{some_inner}
use Rattle.b67_console.specs.Telling.{answer_text, IsAnswer, TextFrom, ConsoleText}
use Rattle.b67_console.specs.Moments.{CommandIsTold}

-- ---- positions

pub positions_each : (stored : Stored) (k : ℕ) (commands : List Command) → length (positions stored k commands) ≡ length commands
positions_each stored k [] = refl
positions_each stored k (command ∷ commands) = ap suc (positions_each stored (position_moved stored k command) commands)

pub positions_within : PositionsAreWithin → (stored : Stored) (k : ℕ) (commands : List Command) (place here : ℕ) → k ≤ length stored
    → slice_get (positions stored k commands) place ≡ Some here → here ≤ length stored
positions_within within stored k [] place here le e = absurd (nothing e)
  where
    nothing : None ≡ Some here → ⊥
    nothing f = cc
positions_within within stored k (command ∷ commands) zero here le e =
    subst (λ (n : ℕ). n ≤ length stored) (some_inner e) (within stored k command le)
positions_within within stored k (command ∷ commands) (suc place) here le e =
    positions_within within stored (position_moved stored k command) commands place here (within stored k command le) e

-- ---- texts

module _ (tree : PProgram) (code : Code) (h : List ℕ) where
  stored : Stored
  stored = stored_by tree h

  told_so : (k : ℕ) (command : Command) (text : List ℕ) → k ≤ length h → CommandIsTold (scopes_of tree) code (take k h) command text → IsAnswer tree code h k command text
  told_so k command text le t =
      record {
        moment = record { world = t.world; legal = run_is tree (take k h) ∙ t.legal; image = t.image; ran = t.ran };
        is = t.is ∙ ap (λ (n : ℕ). answer_text (scopes_of tree) n t.world t.image command) (length-take-le k h le);
      }

  abbrev Each : ℕ → List Command → List (List ℕ) → Type 0
  Each k commands texts =
      (place here : ℕ) (command : Command) → slice_get (positions (stored_by tree h) k commands) place ≡ Some here → slice_get commands place ≡ Some command
      → (text : List ℕ) × (slice_get texts place ≡ Some text) × CommandIsTold (scopes_of tree) code (take here h) command text

  line_is : {a b : List ℕ} → Some a ≡ Some b → a ≡ b
  line_is e = cc

  from : PositionsAreWithin → (k : ℕ) (commands : List Command) (texts : List (List ℕ)) → k ≤ length (stored_by tree h) → length texts ≡ length commands → Each k commands texts
      → TextFrom tree code h k commands (flat_map (λ (one : List ℕ). one) texts)
  from within k [] [] le same each = refl
  from within k [] (text ∷ texts) le same each = absurd (omega (arith, same))
  from within k (command ∷ commands) [] le same each = absurd (omega (arith, same))
  from within k (command ∷ commands) (text ∷ texts) le same each =
      let n = position_moved (stored_by tree h) k command in
      let t = each 0 n command refl refl in
      let there : n ≤ length (stored_by tree h) = within (stored_by tree h) k command le in
      let fits : n ≤ length h = omega (arith, there, length_stored (scopes_of tree) (start (scopes_of tree)) h) in (
        text,
        flat_map (λ (one : List ℕ). one) texts,
        flat_map-cons (λ (one : List ℕ). one) text texts,
        told_so n command text fits (subst (λ (xs : List ℕ). CommandIsTold (scopes_of tree) code (take n h) command xs) (sym (line_is t.1)) t.2),
        from within n commands texts there (omega (arith, same)) (λ place here c e f. each (suc place) here c e f),
      )

  pub text_so : PositionsAreWithin → (commands : List Command) (at : List ℕ) (texts : List (List ℕ)) → at ≡ positions (stored_by tree h) 0 commands
      → AreAnswers (CommandIsTold (scopes_of tree) code) h commands at texts → ConsoleText tree code h commands (flat_map (λ (one : List ℕ). one) texts)
  text_so within commands at texts same a =
      from within 0 commands texts (omega arith) a.places
      (λ place here c e f. a.each place here c (ap (λ (xs : List ℕ). slice_get xs place) same ∙ e) f)
