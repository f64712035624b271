-- Each text has one answer.
use Rattle.std.proofs.Common.{◌≡◌, ℕ, ◌≤◌, List, Option, Some, None, length, refl, ap, ◌∙◌}
use Rattle.algol_tree.specs.declared.TheConstants.{MOST_SOURCE_BYTES}
use Rattle.algol_tree.specs.declared.token.Spot.{Spot}
use Rattle.algol_tree.specs.declared.token.Token.{Token}
use Rattle.algol_tree.specs.declared.refusal.Code.{Code}
use Rattle.algol_tree.specs.declared.refusal.Fault.{Fault}
use Rattle.algol_tree.specs.Plain.{PProgram}
use Rattle.algol_tree.specs.Lexes.{Lexes}
use Rattle.algol_tree.specs.Programs.{Reads}
use Rattle.algol_tree.specs.Accepted.{Accepted, scope_faults, check_faults, first_fault, refusal_after, tree_refusal}
use Rattle.algol_tree.specs.First.{in_text, in_grammar, in_tree}
use Rattle.algol_rules.proofs.Order.{first_none}
use Rattle.algol_front.proofs.Sources.{one_source, source_not_refused, one_first}
use Rattle.algol_front_laws.specs.OneAnswer.{FrontAnswer, accepted, refused, IsAnswered, HasOneAnswer}
use Rattle.algol_front_laws.proofs.Lexed.{Lexed, lexed, unread, lexed_or_refused, tokens_end_once}
use Rattle.algol_front_laws.proofs.Parsed.{Parsed, parsed, unparsed, parsed_or_refused}

-- a tree that is not refused is accepted
not_refused : (tree : PProgram) → tree_refusal tree ≡ None → Accepted tree
unfolding tree_refusal
not_refused tree e = by_first (first_fault (scope_faults tree)) (first_fault (check_faults tree)) refl refl e
  where
    by_first : (scoped checked : Option Fault) → first_fault (scope_faults tree) ≡ scoped → first_fault (check_faults tree) ≡ checked → refusal_after scoped checked ≡ None →
        Accepted tree
    by_first (Some f) checked s c e = cc
    by_first None checked s c e = record { scoped = first_none (scope_faults tree) s; checked = first_none (check_faults tree) (c ∙ e) }

-- ---- an answer

pub record Answered (bytes : List ℕ) : Type 0 where
  pub answer : FrontAnswer
  pub is : IsAnswered bytes answer

module _ (bytes : List ℕ) (small : length bytes ≤ MOST_SOURCE_BYTES) where
  by_tree : (tokens : List Token) (tree : PProgram) → Lexes bytes tokens → Reads tokens tree → (r : Option Fault) → tree_refusal tree ≡ r → Answered bytes
  by_tree tokens tree l p None e =
      record { answer = accepted tree; is = record { small = small; tokens = tokens; lexes = l; reads = p; accepted = not_refused tree e } }
  by_tree tokens tree l p (Some fault) e = record { answer = refused fault.spot fault.code; is = in_tree fault tokens tree l p e }

  by_grammar : (tokens : List Token) → Lexes bytes tokens → Parsed tokens → Answered bytes
  by_grammar tokens l (parsed tree p) = by_tree tokens tree l p (tree_refusal tree) refl
  by_grammar tokens l (unparsed spot code r) = record { answer = refused spot code; is = in_grammar spot code tokens l r }

  by_text : Lexed bytes → Answered bytes
  by_text (lexed tokens l) = by_grammar tokens l (parsed_or_refused tokens (tokens_end_once bytes tokens l))
  by_text (unread spot code r) = record { answer = refused spot code; is = in_text spot code r }

  answered : Answered bytes
  answered = by_text (lexed_or_refused bytes)

-- ---- and no other

no_other : (bytes : List ℕ) (answer other : FrontAnswer) → IsAnswered bytes answer → IsAnswered bytes other → other ≡ answer
no_other bytes (accepted tree) (accepted other) a b = ap accepted (one_source bytes other tree b a)
no_other bytes (accepted tree) (refused spot code) a b = absurd (source_not_refused bytes tree spot code a b)
no_other bytes (refused spot code) (accepted tree) a b = absurd (source_not_refused bytes tree spot code b a)
no_other bytes (refused spot code) (refused other reason) a b =
    let e = one_first bytes other spot reason code b a in
    ap (λ (s : Spot). refused s reason) e.0 ∙ ap (λ (c : Code). refused spot c) e.1

pub one_answer : (bytes : List ℕ) → length bytes ≤ MOST_SOURCE_BYTES → HasOneAnswer bytes
one_answer bytes small =
    let a = answered bytes small in
    record { answer = a.answer; is = a.is; only = λ other b. no_other bytes a.answer other a.is b }
