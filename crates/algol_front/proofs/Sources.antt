-- An accepted source has one tree, and is refused nowhere; any other text is refused once.
use Rattle.std.proofs.Common.{◌≡◌, ℕ, List, Some, None, sym, subst, ap, ◌∙◌}
use Rattle.algol_tree.specs.declared.token.Spot.{Spot}
use Rattle.algol_tree.specs.declared.token.Token.{Token}
use Rattle.algol_tree.specs.declared.refusal.Code.{Code}
use Rattle.algol_tree.specs.declared.refusal.Fault.{Fault}
use Rattle.algol_tree.specs.declared.refusal.Refusal.{Refusal}
use Rattle.algol_tree.specs.declared.refusal.Refusal.TheVariants.{At, NoMemory}
use Rattle.algol_tree.specs.Plain.{PProgram}
use Rattle.algol_tree.specs.Programs.{Reads}
use Rattle.algol_tree.specs.Refused.{RefusedProgram}
use Rattle.algol_tree.specs.Accepted.{Accepted, check_faults, first_fault, refusal_after, tree_refusal}
use Rattle.algol_tree.specs.First.{Source, First, in_text, in_grammar, in_tree}
use Rattle.algol_lexer.proofs.LexReach as texts
use Rattle.algol_lexer.proofs.LexReach.{one_lexing, not_both}
use Rattle.algol_grammar.proofs.OneTree.{one_tree}
use Rattle.algol_grammar.proofs.Refusals.{one_refusal, program_not_refused}
use Rattle.algol_front.specs.Refusing.{RefusesFirst, NoSource}

pub one_source : (bytes : List ℕ) (tree other : PProgram) → Source bytes tree → Source bytes other → tree ≡ other
one_source bytes tree other s r = one_tree r.tokens tree other (subst (λ (ts : List Token). Reads ts tree) (one_lexing s.lexes r.lexes) s.reads) r.reads

no_fault : (tree : PProgram) (fault : Fault) → Accepted tree → tree_refusal tree ≡ Some fault → ⊥
unfolding tree_refusal
no_fault tree fault a e =
    let none : None ≡ Some fault =
    sym (ap (λ (fs : List Fault). refusal_after (first_fault fs) (first_fault (check_faults tree))) a.scoped ∙ ap (λ (fs : List Fault). first_fault fs) a.checked) ∙ e in cc

pub source_not_refused : (bytes : List ℕ) (tree : PProgram) (spot : Spot) (code : Code) → Source bytes tree → First bytes spot code → ⊥
source_not_refused bytes tree _ _ s (in_text spot code r) = not_both s.lexes r
source_not_refused bytes tree _ _ s (in_grammar spot code tokens l r) =
    program_not_refused tokens tree spot code (subst (λ (ts : List Token). Reads ts tree) (one_lexing s.lexes l) s.reads) r
source_not_refused bytes tree _ _ s (in_tree fault tokens other l r e) =
    let same : tree ≡ other = one_tree tokens tree other (subst (λ (ts : List Token). Reads ts tree) (one_lexing s.lexes l) s.reads) r in
    no_fault other fault (subst Accepted same s.accepted) e

-- a text is refused once
pub one_first : (bytes : List ℕ) (spot other : Spot) (code reason : Code) → First bytes spot code → First bytes other reason → (spot ≡ other) × (code ≡ reason)
one_first bytes _ _ _ _ (in_text spot code a) (in_text other reason b) = let r = texts.one_refusal a b in (r.spot_is, r.code_is)
one_first bytes _ _ _ _ (in_text spot code a) (in_grammar other reason tokens l b) = absurd (not_both l a)
one_first bytes _ _ _ _ (in_text spot code a) (in_tree fault tokens tree l r b) = absurd (not_both l a)
one_first bytes _ _ _ _ (in_grammar spot code tokens l a) (in_text other reason b) = absurd (not_both l b)
one_first bytes _ _ _ _ (in_grammar spot code tokens l a) (in_grammar other reason others m b) =
    one_refusal others spot other code reason (subst (λ (ts : List Token). RefusedProgram ts (At spot code)) (one_lexing l m) a) b
one_first bytes _ _ _ _ (in_grammar spot code tokens l a) (in_tree fault others tree m r b) =
    absurd (program_not_refused tokens tree spot code (subst (λ (ts : List Token). Reads ts tree) (one_lexing m l) r) a)
one_first bytes _ _ _ _ (in_tree fault tokens tree l r a) (in_text other reason b) = absurd (not_both l b)
one_first bytes _ _ _ _ (in_tree fault tokens tree l r a) (in_grammar other reason others m b) =
    absurd (program_not_refused others tree other reason (subst (λ (ts : List Token). Reads ts tree) (one_lexing l m) r) b)
one_first bytes _ _ _ _ (in_tree fault tokens tree l r a) (in_tree error others other m q b) =
    let same : tree ≡ other = one_tree others tree other (subst (λ (ts : List Token). Reads ts tree) (one_lexing l m) r) q in
    let faults : Some fault ≡ Some error = sym a ∙ ap (λ (p : PProgram). tree_refusal p) same ∙ b in
    let one : fault ≡ error = cc in (ap (λ (f : Fault). f.spot) one, ap (λ (f : Fault). f.code) one)

pub no_source : (bytes : List ℕ) (refusal : Refusal) → RefusesFirst bytes refusal → NoSource bytes refusal
no_source bytes (At spot code) first = λ tree s. source_not_refused bytes tree spot code s first
no_source bytes NoMemory first = tt
