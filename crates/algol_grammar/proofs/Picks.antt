-- Places that are picked from tokens in their order, and those of an expression.
use Rattle.std.proofs.Common.{◌≡◌, ℕ, true, List, [], ◌∷◌, ◌++◌, map, subst}
use Rattle.algol_tree.specs.declared.level.Level.{Level}
use Rattle.algol_tree.specs.declared.token.Spot.{Spot}
use Rattle.algol_tree.specs.declared.token.Token.{Token}
use Rattle.algol_tree.specs.declared.tree.Named.{Named}
use Rattle.algol_tree.specs.declared.tree.EventName.{EventName}
use Rattle.algol_tree.specs.Plain.{PExpr, PExprs}
use Rattle.algol_tree.specs.Accepted.{is_before}
use Rattle.algol_tree.specs.Ascending.{spots_of_expr, spots_of_exprs, IsAhead, Ascends}
use Rattle.algol_tree.specs.Tokens.{IsName}
use Rattle.algol_tree.specs.Operators.{Part}
use Rattle.algol_tree.specs.Expressions as grammar
use Rattle.algol_tree.specs.Expressions.{IsEvent, IsEvents, IsExprPart, IsMore, IsExprs, IsWholeExpression}
use Rattle.algol_tree.proofs.Spots.{before_on}

-- Of the tokens from `from` up to `rest` these places are picked, in their order.
pub data Picks : List Token → List Spot → List Token → Type 0 where
  over : (rest : List Token) → Picks rest [] rest
  passed : (t : Token) {from : List Token} {spots : List Spot} {rest : List Token} → Picks from spots rest → Picks (t ∷ from) spots rest
  picked : (t : Token) {from : List Token} {spots : List Spot} {rest : List Token} → Picks from spots rest → Picks (t ∷ from) (t.spot ∷ spots) rest

pub and_then : {from mid rest : List Token} {spots more : List Spot} → Picks from spots mid → Picks mid more rest → Picks from (spots ++ more) rest
and_then (over mid) q = q
and_then (passed t p) q = passed t (and_then p q)
and_then (picked t p) q = picked t (and_then p q)

-- of the tokens after none is picked
pub up_to : {from mid rest : List Token} {spots : List Spot} → Picks from spots mid → Picks mid [] rest → Picks from spots rest
up_to (over mid) q = q
up_to (passed t p) q = passed t (up_to p q)
up_to (picked t p) q = picked t (up_to p q)

pub named : {t : Token} {n : Named} {from : List Token} {spots : List Spot} {rest : List Token} → IsName n t → Picks from spots rest → Picks (t ∷ from) (n.spot ∷ spots) rest
named {t} {n} {from} {spots} {rest} k p = subst (λ (spot : Spot). Picks (t ∷ from) (spot ∷ spots) rest) k.place (picked t p)

-- what is picked from places that ascend ascends

abbrev pub places : List Token → List Spot
places tokens = map (λ (t : Token). t.spot) tokens

ahead_on : (a b : Spot) (spots : List Spot) → is_before a b ≡ true → IsAhead b spots → IsAhead a spots
ahead_on a b [] p q = tt
ahead_on a b (c ∷ spots) p q = before_on a b c p q

picks_ahead : {from : List Token} {spots : List Spot} {rest : List Token} (a : Spot) → Picks from spots rest → IsAhead a (places from) → Ascends (places from) → IsAhead a spots
picks_ahead a (over rest) h o = tt
picks_ahead a (passed t {from = from} p) h o = picks_ahead a p (ahead_on a t.spot (places from) h o.0) o.1
picks_ahead a (picked t p) h o = h

pub picks_ascend : {from : List Token} {spots : List Spot} {rest : List Token} → Picks from spots rest → Ascends (places from) → Ascends spots
picks_ascend (over rest) o = tt
picks_ascend (passed t p) o = picks_ascend p o.1
picks_ascend (picked t p) o = (picks_ahead t.spot p o.0 o.1, picks_ascend p o.1)

-- expressions

pub event_picks : {from : List Token} {event : EventName} {rest : List Token} → IsEvent from event rest → Picks from (event.name.spot ∷ []) rest
event_picks (grammar.declared t n rest k) = named k (over rest)
event_picks (grammar.of_task t u v n rest k c s) = named k (passed u (passed v (over rest)))

events_picks : {from : List Token} {events : List EventName} {rest : List Token} → IsEvents from events rest → Picks from (map (λ (e : EventName). e.name.spot) events) rest
events_picks (grammar.last e from rest x) = and_then (event_picks x) (over rest)
events_picks (grammar.comma t e es from after rest x i y) = and_then (event_picks x) (passed t (events_picks y))

mutual
  pub part_picks : {free : ℕ} {p : Part} {d : ℕ} {from : List Token} {e : PExpr} {rest : List Token} → IsExprPart free p d from e rest → Picks from (spots_of_expr e) rest
  part_picks (grammar.conditional t u v d c a b from mid otherwise rest i o x j y k z) =
      picked t (and_then (and_then (part_picks x) (passed u (part_picks y))) (passed v (part_picks z)))
  part_picks (grammar.unconditional d e from rest x) = part_picks x
  part_picks (grammar.chain l d first e from after rest x y) = more_picks y (part_picks x)
  part_picks (grammar.positive t d first e from after rest i x y) = more_picks y (picked t (part_picks x))
  part_picks (grammar.negative t d first e from after rest i x y) = more_picks y (picked t (part_picks x))
  part_picks (grammar.negation t d e from rest i o x) = picked t (part_picks x)
  part_picks (grammar.affirmation d e from rest x) = part_picks x
  part_picks (grammar.alone d e from rest x) = part_picks x
  part_picks (grammar.relation t op d a b from after rest x i y) = and_then (part_picks x) (passed t (part_picks y))
  part_picks (grammar.literal t d value rest i) = picked t (over rest)
  part_picks (grammar.yes t d rest i) = picked t (over rest)
  part_picks (grammar.no_ t d rest i) = picked t (over rest)
  part_picks (grammar.simple t n d rest k) = named k (over rest)
  part_picks (grammar.element t u v n d es from rest k i o x j) = named k (passed u (up_to (exprs_picks x) (passed v (over rest))))
  part_picks (grammar.called_with t u v n d es from rest k i o x j) = named k (passed u (up_to (exprs_picks x) (passed v (over rest))))
  part_picks (grammar.asked t u v test d event from rest i j o x k) = picked t (passed u (up_to (event_picks x) (passed v (over rest))))
  part_picks (grammar.waited t u v d events from rest i j o x k) = picked t (passed u (up_to (events_picks x) (passed v (over rest))))
  part_picks (grammar.grouped t u d e from rest i o x j) = picked t (up_to (part_picks x) (passed u (over rest)))

  more_picks : {free : ℕ} {l : Level} {d : ℕ} {left : PExpr} {from : List Token} {e : PExpr} {rest before : List Token} → IsMore free l d left from e rest →
      Picks before (spots_of_expr left) from → Picks before (spots_of_expr e) rest
  more_picks (grammar.last l d left rest) p = p
  more_picks (grammar.on t l op d left right e from after rest i x y) p = more_picks y (and_then p (passed t (part_picks x)))

  pub exprs_picks : {free d : ℕ} {from : List Token} {es : PExprs} {rest : List Token} → IsExprs free d from es rest → Picks from (spots_of_exprs es) rest
  exprs_picks (grammar.one d e from rest x) = and_then (part_picks x) (over rest)
  exprs_picks (grammar.comma t d e es from after rest x i y) = and_then (part_picks x) (passed t (exprs_picks y))

pub whole_picks : {free d : ℕ} {from : List Token} {e : PExpr} {rest : List Token} → IsWholeExpression free d from e rest → Picks from (spots_of_expr e) rest
whole_picks x = part_picks x.reads
