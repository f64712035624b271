-- From the parts of the front end to the whole.
use Rattle.std.proofs.Common.{◌≡◌, ℕ, ◌≤◌, List, [], length, Some, refl, ap, ◌∙◌}
use Rattle.algol_tree.specs.declared.TheConstants.{MOST_SOURCE_BYTES}
use Rattle.algol_tree.specs.declared.token.Spot.{Spot}
use Rattle.algol_tree.specs.declared.token.Token.{Token}
use Rattle.algol_tree.specs.declared.refusal.Code.{Code}
use Rattle.algol_tree.specs.declared.refusal.Refusal.{Refusal}
use Rattle.algol_tree.specs.declared.refusal.Refusal.TheVariants.{At, NoMemory}
use Rattle.algol_tree.specs.Plain.{PProgram}
use Rattle.algol_tree.specs.Lexes.{Lexes}
use Rattle.algol_tree.specs.Programs.{Reads}
use Rattle.algol_tree.specs.Refused.{RefusedProgram}
use Rattle.algol_tree.specs.Accepted.{scope_faults, check_faults, first_fault, refusal_after, tree_refusal}
use Rattle.algol_tree.specs.First.{Source, First, in_text, in_grammar, in_tree}
use Rattle.algol_lexer.specs.Outcome.{RefusedOnly}
use Rattle.algol_scope.specs.Resolved as names
use Rattle.algol_front.specs.Refusing.{RefusesFirst}

-- ---- a text without tokens

pub text_refuses : (bytes : List ℕ) (refusal : Refusal) → ((spot : Spot) (code : Code) → refusal ≡ At spot code → RefusedOnly bytes spot code) →
    RefusesFirst bytes refusal
text_refuses bytes (At spot code) h = in_text spot code (h spot code refl).refused
text_refuses bytes NoMemory h = tt

module _ (bytes : List ℕ) (tokens : List Token) (lexes : Lexes bytes tokens) where
  -- ---- tokens without a program

  pub grammar_refuses : (refusal : Refusal) → RefusedProgram tokens refusal → RefusesFirst bytes refusal
  grammar_refuses (At spot code) h = in_grammar spot code tokens lexes h
  grammar_refuses NoMemory h = tt

  -- ---- a program that breaks a rule

  module _ (tree : PProgram) (reads : Reads tokens tree) where
    tree_refuses : (spot : Spot) (code : Code) → tree_refusal tree ≡ Some (record { spot = spot; code = code }) → First bytes spot code
    tree_refuses spot code h = in_tree (record { spot = spot; code = code }) tokens tree lexes reads h

    pub scope_refuses : (refusal : Refusal) → names.TreeIsRefused tree refusal → RefusesFirst bytes refusal
    unfolding tree_refusal
    scope_refuses (At spot code) h = tree_refuses spot code (ap (λ f. refusal_after f (first_fault (check_faults tree))) h)
    scope_refuses NoMemory h = tt

    module _ (scoped : scope_faults tree ≡ []) where
      pub check_refuses : (refusal : Refusal) →
          ((spot : Spot) (code : Code) → refusal ≡ At spot code → first_fault (check_faults tree) ≡ Some (record { spot = spot; code = code })) → RefusesFirst bytes refusal
      unfolding tree_refusal
      check_refuses (At spot code) h =
          tree_refuses spot code (ap (λ fs. refusal_after (first_fault fs) (first_fault (check_faults tree))) scoped ∙ h spot code refl)
      check_refuses NoMemory h = tt

      pub is_source : length bytes ≤ MOST_SOURCE_BYTES → check_faults tree ≡ [] → Source bytes tree
      is_source small checked =
          record { small = small; tokens = tokens; lexes = lexes; reads = reads; accepted = record { scoped = scoped; checked = checked } }
