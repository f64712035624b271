-- What the grammar has is read: reading a part goes over its tokens and makes its tree, where what follows ends the part.
use Rattle.std.proofs.Common.{◌≡◌, ◌+◌, ℕ, true, false, List, [], ◌∷◌, ◌++◌, codes, append_assoc, refl, ap, ◌∙◌}
use Rattle.algol_tree.specs.declared.token.Token.{Token}
use Rattle.algol_tree.specs.declared.token.TokenKind.TheVariants as kinds
use Rattle.algol_tree.specs.declared.token.Reserved.TheVariants as reserved
use Rattle.algol_tree.specs.declared.token.Symbol.{Symbol}
use Rattle.algol_tree.specs.declared.token.Symbol.TheVariants as symbols
use Rattle.algol_tree.specs.declared.tree.Named.{Named}
use Rattle.algol_tree.specs.declared.tree.EventName.{EventName}
use Rattle.algol_tree.specs.Plain as trees
use Rattle.algol_tree.specs.Plain.{PExpr, PExprs, none, more, subscripted}
use Rattle.algol_tree.specs.Tokens.{IsSymbol, IsName, is_word, is_symbol}
use Rattle.algol_tree.specs.Operators.{Part, expr, level, not_part, rel, primary, operand}
use Rattle.algol_tree.specs.Expressions.{TokenOpens, IsEvent, IsEvents, IsExprPart, IsMore, IsExprs}
use Rattle.algol_tree.specs.Due.{Value, one, many, value_put, Due, make, symbol, spelled, part, more_of, relation, behind_name, exprs_more, opening, event, events_more, behind_event, event_named, event_names, plain, nests, takes, makes, skips, refuses, either, optional}
use Rattle.algol_tree.specs.DueExpr.{behind, all_of, list_made, turn_primary, turn_sum, turn_not, turn_expr, on_with, related, turn_behind_name, turn_event, turn_behind_event, turn_events_more, event_added}
use Rattle.algol_tree.specs.Reading.{read}
use Rattle.algol_tree.specs.declared.level.Level.{Level}
use Rattle.algol_tree.specs.declared.level.Level.TheVariants as levels
use Rattle.algol_tree.specs.Expressions as grammar
use Rattle.algol_expr.proofs.Reading.{Leads}
use Rattle.algol_expr.proofs.Turns.{takes_step, skips_step, skips_end, makes_step, makes_end, make_step, opens_step, word_step, symbol_step, spelled_step, symbol_is}
use Rattle.algol_tree.specs.Ends.{part_ends, Ends}
use Rattle.algol_expr.proofs.Ends.{operator_ends, relop_ends, operand_ends, level_over, rel_ends, primary_over}
use Rattle.algol_expr.proofs.Parts.{if_refuses, not_refuses, test_turn, tested, expr_at, not_at, rel_at, level_at, signless, none_empty, more_over, more_end}

-- parts that are another part only, or begin with it

expr_read : (free d : ℕ) (from rest : List Token) (v : Value) → Leads free (part (level levels.Eqv) d) from v rest → Leads free (part expr d) from v rest
expr_read free d [] rest v e = absurd (none_empty free (level levels.Eqv) d v rest e)
expr_read free d (t ∷ ts) rest v e = λ due vs. expr_at free d t ts due vs (tested free (is_word reserved.If t.kind) t ts rest (part (level levels.Eqv) d) v (if_refuses d t.spot t.kind) e)
    ∙ e due vs

not_read : (free d : ℕ) (from rest : List Token) (v : Value) → Leads free (part rel d) from v rest → Leads free (part not_part d) from v rest
not_read free d [] rest v e = absurd (none_empty free rel d v rest e)
not_read free d (t ∷ ts) rest v e = λ due vs. not_at free d t ts due vs (tested free (is_word reserved.Not t.kind) t ts rest (part rel d) v (not_refuses d t.spot t.kind) e)
    ∙ e due vs

level_read : (free : ℕ) (l : Level) (d : ℕ) (from mid : List Token) (v : Value) (due : List Due) (vs : List Value) →
    Leads free (part (operand l) d) from v mid → read free from (part (level l) d ∷ due) vs ≡ read free mid (more_of l d ∷ due) (v ∷ vs)
level_read free l d [] mid v due vs e = absurd (none_empty free (operand l) d v mid e)
level_read free l d (t ∷ ts) mid v due vs e = level_at free l d t ts due vs (signless free l d t ts mid v e) ∙ e (more_of l d ∷ due) vs

-- what is optional is left out

more_left : (free : ℕ) (l : Level) (d : ℕ) (rest : List Token) (due : List Due) (vs : List Value) → Ends (level l) rest →
    read free rest (more_of l d ∷ due) vs ≡ read free rest due vs
more_left free l d [] due vs e = more_end free l d due vs
more_left free l d (t ∷ rest) due vs e = more_over free l d t rest due vs (level_over l t.kind e)

relation_left : (free d : ℕ) (rest : List Token) (due : List Due) (vs : List Value) → Ends rel rest → read free rest (relation d ∷ due) vs ≡ read free rest due vs
relation_left free d [] due vs e = skips_end free (relation d) due vs refl
relation_left free d (t ∷ rest) due vs e = skips_step free t rest (relation d) due vs (ap (λ o. optional o (related d) skips) (rel_ends t.kind e).1)

name_left : (free : ℕ) (n : Named) (d : ℕ) (rest : List Token) (due : List Due) (vs : List Value) → Ends primary rest →
    read free rest (behind_name n d ∷ due) vs ≡ read free rest due (one (trees.variable (subscripted n none)) ∷ vs)
name_left free n d [] due vs e = makes_end free (behind_name n d) due vs (value_put (one (trees.variable (subscripted n none)))) refl
name_left free n d (t ∷ rest) due vs e =
    let p = primary_over t.kind e in
    makes_step free t rest (behind_name n d) due vs (value_put (one (trees.variable (subscripted n none))))
    (rw (p.0, p.1) refl)

-- the token of a name makes what may stand after that name due
pub name_step : (free : ℕ) (t : Token) (n : Named) (d : ℕ) (ts : List Token) (due : List Due) (vs : List Value) → IsName n t →
    read free (t ∷ ts) (part primary d ∷ due) vs ≡ read free ts (behind_name n d ∷ due) vs
name_step free t n d ts due vs k =
    takes_step free t ts (part primary d) (behind_name (record { name = n.name; spot = t.spot }) d ∷ []) due vs (ap (turn_primary d t.spot) k.name)
    ∙ ap (λ spot. read free ts (behind_name (record { name = n.name; spot = spot }) d ∷ due) vs) k.place

exprs_left : (free d : ℕ) (s : Symbol) (t : Token) (rest : List Token) (due : List Due) (vs : List Value) → IsSymbol s t →
    is_symbol symbols.Comma (kinds.Symbol s) ≡ false → read free (t ∷ rest) (exprs_more d ∷ symbol s ∷ due) vs ≡ read free rest due vs
exprs_left free d s t rest due vs c e = skips_step free t rest (exprs_more d) (symbol s ∷ due) vs
    (ap (λ b. either b (takes plain (part expr d ∷ make list_made ∷ exprs_more d ∷ [])) skips) (ap (is_symbol symbols.Comma) c ∙ e))
    ∙ symbol_step free t rest s due vs c

ends_operand : (l : Level) (rest : List Token) → Ends (level l) rest → Ends (operand l) rest
ends_operand levels.Eqv [] e = tt
ends_operand levels.Imp [] e = tt
ends_operand levels.Or [] e = tt
ends_operand levels.And [] e = tt
ends_operand levels.Sum [] e = tt
ends_operand levels.Term [] e = tt
ends_operand l (t ∷ rest) e = operand_ends l t.kind e

ends_sum : (rest : List Token) → Ends rel rest → Ends (level levels.Sum) rest
ends_sum [] e = tt
ends_sum (t ∷ rest) e = (rel_ends t.kind e).0

pub all_of_behind : (acc : PExprs) (e : PExpr) (es : PExprs) → all_of (behind acc e) es ≡ all_of acc (more e es)
all_of_behind none e es = refl
all_of_behind (more x acc) e es = ap (more x) (all_of_behind acc e es)

pub behind_all_of : (acc : PExprs) (e : PExpr) → behind acc e ≡ all_of acc (more e none)
behind_all_of none e = refl
behind_all_of (more x acc) e = ap (more x) (behind_all_of acc e)

-- the token of an event's name makes what may stand after it due
event_step : (free : ℕ) (t : Token) (n : Named) (ts : List Token) (due : List Due) (vs : List Value) → IsName n t →
    read free (t ∷ ts) (event ∷ due) vs ≡ read free ts (behind_event n ∷ due) vs
event_step free t n ts due vs k =
    takes_step free t ts event (behind_event (record { name = n.name; spot = t.spot }) ∷ []) due vs (ap (turn_event t.spot) k.name)
    ∙ ap (λ spot. read free ts (behind_event (record { name = n.name; spot = spot }) ∷ due) vs) k.place

-- an event before a symbol that is no period
event_to : (free : ℕ) (from : List Token) (e : EventName) (v : Token) (rest : List Token) (s : Symbol) → IsEvent from e (v ∷ rest) → IsSymbol s v →
    is_symbol symbols.Period (kinds.Symbol s) ≡ false → (due : List Due) (vs : List Value) → read free from (event ∷ due) vs ≡ read free (v ∷ rest) due (event_named e ∷ vs)
event_to free _ _ v rest s (grammar.declared t n _ k) c p due vs =
    event_step free t n (v ∷ rest) _ vs k
    ∙ makes_step free v rest (behind_event n) _ vs _ (ap (turn_behind_event n) c
    ∙ ap (λ b. either b (takes plain (spelled (codes "EXCEPTIONEVENT") ∷ make (value_put (event_named (record { name = n; task = true }))) ∷ []))
    (makes (value_put (event_named (record { name = n; task = false }))))) p)
event_to free _ _ v rest s (grammar.of_task t u w n _ k p q) c _ due vs =
    event_step free t n (u ∷ w ∷ v ∷ rest) _ vs k
    ∙ takes_step free u (w ∷ v ∷ rest) (behind_event n) _ _ vs (ap (turn_behind_event n) p)
    ∙ spelled_step free w (v ∷ rest) _ _ vs q
    ∙ make_step free (v ∷ rest) _ _ vs

-- an event and the parenthesis that closes it
pub event_read : (free : ℕ) (from : List Token) (e : EventName) (v : Token) (rest : List Token) → IsEvent from e (v ∷ rest) → IsSymbol symbols.CloseRound v →
    (due : List Due) (vs : List Value) → read free from (event ∷ symbol symbols.CloseRound ∷ due) vs ≡ read free rest due (event_named e ∷ vs)
event_read free from e v rest x c due vs = event_to free from e v rest symbols.CloseRound x c refl _ vs ∙ symbol_step free v rest symbols.CloseRound due _ c

-- events after those of acc, and the parenthesis that closes them
events_read : (free : ℕ) (from : List Token) (es : List EventName) (v : Token) (rest : List Token) (acc : List EventName) (due : List Due) (vs : List Value) →
    IsEvents from es (v ∷ rest) → IsSymbol symbols.CloseRound v →
    read free from (event ∷ make event_added ∷ events_more ∷ symbol symbols.CloseRound ∷ due) (event_names acc ∷ vs) ≡ read free rest due (event_names (acc ++ es) ∷ vs)
events_read free _ _ v rest acc due vs (grammar.last e from _ x) c =
    event_to free from e v rest symbols.CloseRound x c refl _ _
    ∙ make_step free (v ∷ rest) event_added _ _
    ∙ skips_step free v rest events_more _ _ (ap turn_events_more c)
    ∙ symbol_step free v rest symbols.CloseRound due _ c
events_read free _ _ v rest acc due vs (grammar.comma t e es from after _ x k y) c =
    event_to free from e t after symbols.Comma x k refl _ _
    ∙ make_step free (t ∷ after) event_added _ _
    ∙ takes_step free t after events_more _ _ _ (ap turn_events_more k)
    ∙ events_read free after es v rest (acc ++ e ∷ []) due vs y c
    ∙ ap (λ es. read free rest due (event_names es ∷ vs)) (append_assoc acc (e ∷ []) es)

mutual
  pub part_read : (free : ℕ) (p : Part) (d : ℕ) (from : List Token) (e : PExpr) (rest : List Token) → IsExprPart free p d from e rest → Ends p rest →
      Leads free (part p d) from (one e) rest
  part_read free _ _ _ _ rest (grammar.conditional t u v d c a b from yes_ otherwise _ w o x wu y wv z) end = λ due vs.
      opens_step free d t from (part expr d) _ due vs (ap (turn_expr d t.spot) w) o
      ∙ part_read free expr (d + 1) from c (u ∷ yes_) x (ap (part_ends expr) wu) _ vs
      ∙ word_step free u yes_ reserved.Then _ _ wu
      ∙ part_read free (level levels.Eqv) (d + 1) yes_ a (v ∷ otherwise) y (ap (part_ends (level levels.Eqv)) wv) _ _
      ∙ word_step free v otherwise reserved.Else _ _ wv
      ∙ part_read free expr (d + 1) otherwise b rest z end _ _
      ∙ make_step free rest _ due _
  part_read free _ _ _ _ rest (grammar.unconditional d e from _ x) end = expr_read free d from rest (one e) (part_read free (level levels.Eqv) d from e rest x end)
  part_read free _ _ _ _ rest (grammar.chain l d first e from after _ x y) end = λ due vs.
      level_read free l d from after (one first) due vs (part_read free (operand l) d from first after x (more_ends free l d first after e rest y end))
      ∙ more_read free l d first after e rest y end due vs
  part_read free _ _ _ _ rest (grammar.positive t d first e from after _ s x y) end = λ due vs.
      takes_step free t from (part (level levels.Sum) d) _ due vs (ap (turn_sum d t.spot) s)
      ∙ part_read free (level levels.Term) d from first after x (more_ends free levels.Sum d _ after e rest y end) _ vs
      ∙ make_step free after _ _ _
      ∙ more_read free levels.Sum d _ after e rest y end due vs
  part_read free _ _ _ _ rest (grammar.negative t d first e from after _ s x y) end = λ due vs.
      takes_step free t from (part (level levels.Sum) d) _ due vs (ap (turn_sum d t.spot) s)
      ∙ part_read free (level levels.Term) d from first after x (more_ends free levels.Sum d _ after e rest y end) _ vs
      ∙ make_step free after _ _ _
      ∙ more_read free levels.Sum d _ after e rest y end due vs
  part_read free _ _ _ _ rest (grammar.negation t d e from _ w o x) end = λ due vs.
      opens_step free d t from (part not_part d) _ due vs (ap (turn_not d t.spot) w) o
      ∙ part_read free not_part (d + 1) from e rest x end _ vs
      ∙ make_step free rest _ due _
  part_read free _ _ _ _ rest (grammar.affirmation d e from _ x) end = not_read free d from rest (one e) (part_read free rel d from e rest x end)
  part_read free _ _ _ _ rest (grammar.alone d e from _ x) end = λ due vs.
      rel_at free d from due vs
      ∙ part_read free (level levels.Sum) d from e rest x (ends_sum rest end) _ vs
      ∙ relation_left free d rest due _ end
  part_read free _ _ _ _ rest (grammar.relation t op d a b from after _ x r y) end = λ due vs.
      rel_at free d from due vs
      ∙ part_read free (level levels.Sum) d from a (t ∷ after) x (relop_ends t.kind op r) _ vs
      ∙ takes_step free t after (relation d) _ due _ (ap (λ o. optional o (related d) skips) r)
      ∙ part_read free (level levels.Sum) d after b rest y (ends_sum rest end) _ _
      ∙ make_step free rest _ due _
  part_read free _ _ _ _ rest (grammar.literal t d value _ k) end = λ due vs.
      takes_step free t rest (part primary d) _ due vs (ap (turn_primary d t.spot) k) ∙ make_step free rest _ due vs
  part_read free _ _ _ _ rest (grammar.yes t d _ k) end = λ due vs.
      takes_step free t rest (part primary d) _ due vs (ap (turn_primary d t.spot) k) ∙ make_step free rest _ due vs
  part_read free _ _ _ _ rest (grammar.no_ t d _ k) end = λ due vs.
      takes_step free t rest (part primary d) _ due vs (ap (turn_primary d t.spot) k) ∙ make_step free rest _ due vs
  part_read free _ _ _ _ rest (grammar.simple t n d _ k) end = λ due vs.
      name_step free t n d rest due vs k ∙ name_left free n d rest due vs end
  part_read free _ _ _ _ rest (grammar.element t u v n d es from _ k s o x c) end = λ due vs.
      name_step free t n d (u ∷ from) due vs k
      ∙ opens_step free d u from (behind_name n d) _ due vs (ap (turn_behind_name n d) s) o
      ∙ make_step free from _ _ vs
      ∙ exprs_read free (d + 1) from es v rest symbols.CloseSquare none _ vs x c refl refl
      ∙ make_step free rest _ due _
  part_read free _ _ _ _ rest (grammar.called_with t u v n d es from _ k s o x c) end = λ due vs.
      name_step free t n d (u ∷ from) due vs k
      ∙ opens_step free d u from (behind_name n d) _ due vs (ap (turn_behind_name n d) s) o
      ∙ make_step free from _ _ vs
      ∙ exprs_read free (d + 1) from es v rest symbols.CloseRound none _ vs x c refl refl
      ∙ make_step free rest _ due _
  part_read free _ _ _ _ rest (grammar.asked t u v test d e from _ w s o x c) end = λ due vs.
      takes_step free t (u ∷ from) (part primary d) _ due vs (test_turn d t.spot t.kind test w)
      ∙ opens_step free d u from (opening symbols.OpenRound d) _ _ vs (ap (λ b. either b (takes (nests d) []) refuses) (symbol_is u symbols.OpenRound s)) o
      ∙ event_read free from e v rest x c _ vs
      ∙ make_step free rest _ due _
  part_read free _ _ _ _ rest (grammar.waited t u v d es from _ w s o x c) end = λ due vs.
      takes_step free t (u ∷ from) (part primary d) _ due vs (ap (turn_primary d t.spot) w)
      ∙ opens_step free d u from (opening symbols.OpenRound d) _ _ vs (ap (λ b. either b (takes (nests d) []) refuses) (symbol_is u symbols.OpenRound s)) o
      ∙ make_step free from _ _ vs
      ∙ events_read free from es v rest [] _ vs x c
      ∙ make_step free rest _ due _
  part_read free _ _ _ _ rest (grammar.grouped t u d e from _ s o x c) end = λ due vs.
      opens_step free d t from (part primary d) _ due vs (ap (turn_primary d t.spot) s) o
      ∙ part_read free expr (d + 1) from e (u ∷ rest) x (ap (part_ends expr) c) _ vs
      ∙ symbol_step free u rest symbols.CloseRound _ _ c
      ∙ make_step free rest _ due _

  -- what stands before { operator operand } ends there
  more_ends : (free : ℕ) (l : Level) (d : ℕ) (left : PExpr) (from : List Token) (e : PExpr) (rest : List Token) → IsMore free l d left from e rest →
      Ends (level l) rest → Ends (operand l) from
  more_ends free _ _ _ _ _ rest (grammar.last l d left _) end = ends_operand l rest end
  more_ends free _ _ _ _ _ rest (grammar.on t l op d left right e from after _ o x y) end = operator_ends l t.kind op o

  pub more_read : (free : ℕ) (l : Level) (d : ℕ) (left : PExpr) (from : List Token) (e : PExpr) (rest : List Token) → IsMore free l d left from e rest →
      Ends (level l) rest → (due : List Due) (vs : List Value) → read free from (more_of l d ∷ due) (one left ∷ vs) ≡ read free rest due (one e ∷ vs)
  more_read free _ _ _ _ _ rest (grammar.last l d left _) end = λ due vs. more_left free l d rest due _ end
  more_read free _ _ _ _ _ rest (grammar.on t l op d left right e from after _ o x y) end = λ due vs.
      takes_step free t from (more_of l d) _ due _ (ap (λ o. optional o (on_with l d) skips) o)
      ∙ part_read free (operand l) d from right after x (more_ends free l d _ after e rest y end) _ _
      ∙ make_step free after _ _ _
      ∙ more_read free l d _ after e rest y end due vs

  -- expressions after those of acc, and the symbol that closes them
  pub exprs_read : (free d : ℕ) (from : List Token) (es : PExprs) (v : Token) (rest : List Token) (s : Symbol) (acc : PExprs) (due : List Due) (vs : List Value) →
      IsExprs free d from es (v ∷ rest) → IsSymbol s v → part_ends expr (kinds.Symbol s) ≡ true → is_symbol symbols.Comma (kinds.Symbol s) ≡ false →
      read free from (part expr d ∷ make list_made ∷ exprs_more d ∷ symbol s ∷ due) (many acc ∷ vs) ≡ read free rest due (many (all_of acc es) ∷ vs)
  exprs_read free _ _ _ v rest s acc due vs (grammar.one d e from _ x) c end comma =
      part_read free expr d from e (v ∷ rest) x (ap (part_ends expr) c ∙ end) _ _
      ∙ make_step free (v ∷ rest) list_made _ _
      ∙ exprs_left free d s v rest due _ c comma
      ∙ ap (λ es. read free rest due (many es ∷ vs)) (behind_all_of acc e)
  exprs_read free _ _ _ v rest s acc due vs (grammar.comma t d e es from after _ x k y) c end comma =
      part_read free expr d from e (t ∷ after) x (ap (part_ends expr) k) _ _
      ∙ make_step free (t ∷ after) list_made _ _
      ∙ takes_step free t after (exprs_more d) _ _ _ (ap (λ k. either (is_symbol symbols.Comma k) (takes plain (part expr d ∷ make list_made ∷ exprs_more d ∷ [])) skips) k)
      ∙ exprs_read free d after es v rest s (behind acc e) due vs y c end comma
      ∙ ap (λ es. read free rest due (many es ∷ vs)) (all_of_behind acc e es)
