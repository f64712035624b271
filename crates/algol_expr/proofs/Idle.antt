-- What has to come at a token, has to come at the end of the text.
use Rattle.std.proofs.Common.{◌≡◌, ℕ, Bool, true, false, ◌&&◌, nat_le, List, [], ◌∷◌, ◌++◌, Option, Some, None, refl, ap, ◌∙◌}
use Rattle.algol_tree.specs.declared.TheConstants.{MOST_NESTING}
use Rattle.algol_tree.specs.declared.token.Spot.{Spot}
use Rattle.algol_tree.specs.declared.token.TokenKind.{TokenKind}
use Rattle.algol_tree.specs.declared.token.TokenKind.TheVariants as kinds
use Rattle.algol_tree.specs.declared.token.Symbol.TheVariants as symbols
use Rattle.algol_tree.specs.declared.refusal.Code.TheVariants as refusal_codes
use Rattle.algol_tree.specs.declared.level.Level.TheVariants as levels
use Rattle.algol_tree.specs.declared.tree.Op.{Op}
use Rattle.algol_tree.specs.Plain as trees
use Rattle.algol_tree.specs.Plain.{none}
use Rattle.algol_tree.specs.Tokens.{is_symbol}
use Rattle.algol_tree.specs.Operators.{Part, expr, level, not_part, rel, primary, operator, relop}
use Rattle.algol_tree.specs.Due.{Value, one, event_named, value_put, Due, make, word, symbol, spelled, part, more_of, relation, behind_name, exprs_more, opening, event, events_more, behind_event, plain, nests, takes, makes, skips, either, optional}
use Rattle.algol_tree.specs.DueExpr.{event_added, list_made, element, applied, exprs_in, on_with, related}
use Rattle.algol_tree.specs.Reading.{Count, outside, goes, stops, unless, stepped, step, cut_off, read_end, unjudged, nowhere}
use Rattle.algol_expr.proofs.Ends.{operator_end}
use Rattle.algol_expr.proofs.Steps.{strict}
use Rattle.algol_expr.proofs.Inner.{Inners}

unless_deep : (b : Bool) (here spot : Spot) (c : Count) (ds : List Due) (us : List Value) → unless b here (goes c ds us) ≡ stops spot refusal_codes.Unexpected → ⊥
unless_deep true here spot c ds us e = cc
unless_deep false here spot c ds us e = cc

-- the text ends too early for what is due
abbrev pub IsCut : List Due → List Value → Type 0
IsCut due vs = read_end (step unjudged due nowhere kinds.End outside vs) ≡ cut_off

part_cut : (p : Part) (d : ℕ) (due : List Due) (vs : List Value) → IsCut (part p d ∷ due) vs
part_cut expr d due vs = refl
part_cut (level levels.Eqv) d due vs = refl
part_cut (level levels.Imp) d due vs = refl
part_cut (level levels.Or) d due vs = refl
part_cut (level levels.And) d due vs = refl
part_cut (level levels.Sum) d due vs = refl
part_cut (level levels.Term) d due vs = refl
part_cut not_part d due vs = refl
part_cut rel d due vs = refl
part_cut primary d due vs = refl

-- so far for what is optional, by the test that decides it
module _ (due : List Due) (here spot : Spot) (k : TokenKind) (vs : List Value) where
  option_cut : (o : Option Op) (f : Op → List Due) → stepped strict outside here (optional o f skips) due vs (step strict due here k) ≡ stops spot refusal_codes.Unexpected →
      (step strict due here k outside vs ≡ stops spot refusal_codes.Unexpected → IsCut due vs) → IsCut due vs
  option_cut (Some op) f e again = cc
  option_cut None f e again = again e

  test_cut : (b : Bool) (ds : List Due) → stepped strict outside here (either b (takes plain ds) skips) due vs (step strict due here k) ≡ stops spot refusal_codes.Unexpected →
      (step strict due here k outside vs ≡ stops spot refusal_codes.Unexpected → IsCut due vs) → IsCut due vs
  test_cut true ds e again = cc
  test_cut false ds e again = again e

  event_cut : (b : Bool) (ds : List Due) (v : Value) → stepped strict outside here (either b (takes plain ds) (makes (value_put v))) due vs (step strict due here k)
      ≡ stops spot refusal_codes.Unexpected → (step strict due here k outside (v ∷ vs) ≡ stops spot refusal_codes.Unexpected → IsCut due (v ∷ vs)) → IsCut due (v ∷ vs)
  event_cut true ds v e again = cc
  event_cut false ds v e again = again e

  name_cut : (a b : Bool) (d : ℕ) (ds es : List Due) (v : Value) →
      stepped strict outside here (either a (takes (nests d) ds) (either b (takes (nests d) es) (makes (value_put v)))) due vs (step strict due here k)
      ≡ stops spot refusal_codes.Unexpected → (step strict due here k outside (v ∷ vs) ≡ stops spot refusal_codes.Unexpected → IsCut due (v ∷ vs)) → IsCut due (v ∷ vs)
  name_cut true b d ds es v e again = absurd (unless_deep (nat_le MOST_NESTING d && true) here spot outside (ds ++ due) vs e)
  name_cut false true d ds es v e again = absurd (unless_deep (nat_le MOST_NESTING d && true) here spot outside (es ++ due) vs e)
  name_cut false false d ds es v e again = again e

pub cut_short : (due : List Due) (here : Spot) (k : TokenKind) (vs : List Value) (spot : Spot) → Inners due →
    step strict due here k outside vs ≡ stops spot refusal_codes.Unexpected → IsCut due vs
cut_short [] here k vs spot i e = cc
cut_short (make m ∷ due) here k vs spot i e = cut_short due here k (m vs) spot i.1 e
cut_short (word w ∷ due) here k vs spot i e = refl
cut_short (symbol s ∷ due) here k vs spot i e = refl
cut_short (spelled n ∷ due) here k vs spot i e = refl
cut_short (part p d ∷ due) here k vs spot i e = part_cut p d due vs
cut_short (more_of l d ∷ due) here k vs spot i e =
    let is : IsCut due vs = option_cut due here spot k vs (operator l k) (on_with l d) e (cut_short due here k vs spot i.1) in
    ap (λ o. read_end (stepped unjudged outside nowhere (optional o (on_with l d) skips) due vs (step unjudged due nowhere kinds.End))) (operator_end l) ∙ is
cut_short (relation d ∷ due) here k vs spot i e = option_cut due here spot k vs (relop k) (related d) e (cut_short due here k vs spot i.1)
cut_short (behind_name n d ∷ due) here k vs spot i e =
    let v = one (trees.variable (trees.subscripted n none)) in
    name_cut due here spot k vs (is_symbol symbols.OpenSquare k) (is_symbol symbols.OpenRound k) d (exprs_in d symbols.CloseSquare (element n)) (exprs_in d symbols.CloseRound (applied n)) v e
    (cut_short due here k (v ∷ vs) spot i.1)
cut_short (exprs_more d ∷ due) here k vs spot i e =
    test_cut due here spot k vs (is_symbol symbols.Comma k) (part expr d ∷ make list_made ∷ exprs_more d ∷ []) e (cut_short due here k vs spot i.1)
cut_short (opening s d ∷ due) here k vs spot i e = refl
cut_short (event ∷ due) here k vs spot i e = refl
cut_short (events_more ∷ due) here k vs spot i e =
    test_cut due here spot k vs (is_symbol symbols.Comma k) (event ∷ make event_added ∷ events_more ∷ []) e (cut_short due here k vs spot i.1)
cut_short (behind_event n ∷ due) here k vs spot i e =
    let v = event_named (record { name = n; task = false }) in
    event_cut due here spot k vs (is_symbol symbols.Period k) _ v e (cut_short due here k (v ∷ vs) spot i.1)
cut_short (s ∷ due) here k vs spot i e = absurd i.0
