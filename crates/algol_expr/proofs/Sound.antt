-- What is read is of the grammar: where reading what is due goes over tokens, they are those of what is due.
use Rattle.std.proofs.Common.{◌≡◌, ◌+◌, ℕ, Bool, true, false, List, [], ◌∷◌, ◌++◌, codes, append_assoc, Option, Some, None, refl, sym, subst, ap, ◌∙◌}
use Rattle.b67_deeds.specs.declared.EventTest.TheVariants as test
use Rattle.algol_tree.specs.declared.token.Spot.{Spot}
use Rattle.algol_tree.specs.declared.token.Token.{Token}
use Rattle.algol_tree.specs.declared.token.TokenKind.{TokenKind}
use Rattle.algol_tree.specs.declared.token.TokenKind.TheVariants as kinds
use Rattle.algol_tree.specs.declared.token.Reserved.{Reserved}
use Rattle.algol_tree.specs.declared.token.Reserved.TheVariants as reserved
use Rattle.algol_tree.specs.declared.token.Symbol.{Symbol}
use Rattle.algol_tree.specs.declared.token.Symbol.TheVariants as symbols
use Rattle.algol_tree.specs.declared.tree.Named.{Named}
use Rattle.algol_tree.specs.declared.tree.EventName.{EventName}
use Rattle.algol_tree.specs.declared.tree.Op.{Op}
use Rattle.algol_tree.specs.Plain as trees
use Rattle.algol_tree.specs.Plain.{PExpr, PExprs, none, more}
use Rattle.algol_tree.specs.Tokens.{IsWord, IsSymbol, IsName, IsSpelled, is_word, is_symbol, is_spelled}
use Rattle.algol_tree.specs.Operators.{Part, expr, level, not_part, rel, primary, operand, operator, relop}
use Rattle.b67_deeds.specs.declared.EventTest.{EventTest}
use Rattle.algol_tree.specs.Expressions.{TokenOpens, IsEvent, IsEvents, IsExprPart, IsMore, IsExprs, test_of}
use Rattle.algol_tree.specs.Due.{Value, one, many, event_named, event_names, Make, value_put, Due, make, word, symbol, spelled, part, more_of, relation, behind_name, exprs_more, opening, event, events_more, behind_event, plain, nests, label, begun, Turn, takes, makes, skips, refuses, followed, either, optional}
use Rattle.algol_tree.specs.DueExpr.{is_sign, behind, all_of, token_sign_of, signed, negated, op_joined, expr_chosen, list_made, element, applied, turn_primary, turn_term, turn_sum, turn_rel, turn_not, turn_and, turn_or, turn_imp, turn_eqv, turn_expr, turn_part, on_with, related, exprs_in, turn_event, waited, event_added, of_one}
use Rattle.algol_tree.specs.Reading.{reading_turn}
use Rattle.algol_tree.specs.declared.level.Level.{Level}
use Rattle.algol_tree.specs.declared.level.Level.TheVariants as levels
use Rattle.algol_tree.specs.Expressions as grammar
use Rattle.algol_expr.proofs.Reading.{Takes, taken, refused_, either_takes}
use Rattle.algol_expr.proofs.Inner.{IsInner}
use Rattle.algol_expr.proofs.Turns.{word_from, symbol_from, spelled_from}
use Rattle.algol_expr.proofs.Parts.{primary_takes, term_takes, sum_takes, rel_takes, not_takes, and_takes, or_takes, imp_takes, eqv_takes}
use Rattle.algol_expr.proofs.Complete.{all_of_behind, behind_all_of}

-- one token of which P holds
pub data IsOne (P : Token → Type 0) (vs : List Value) : List Token → List Value → List Token → Type 0 where
  single : (t : Token) (rest : List Token) → P t → IsOne P vs (t ∷ rest) vs rest

pub data IsMaking (m : Make) (vs : List Value) (from : List Token) : List Value → List Token → Type 0 where
  makes_it : IsMaking m vs from (m vs) from

-- an expression of the part p, and no other value
pub data Makes (free : ℕ) (p : Part) (d : ℕ) (from : List Token) (vs : List Value) : List Value → List Token → Type 0 where
  it : (e : PExpr) (rest : List Token) → IsExprPart free p d from e rest → Makes free p d from vs (one e ∷ vs) rest

pub data MakesEvent (from : List Token) (vs : List Value) : List Value → List Token → Type 0 where
  event_is : (e : EventName) (rest : List Token) → IsEvent from e rest → MakesEvent from vs (event_named e ∷ vs) rest

pub data MakesEvents (from : List Token) (acc : List EventName) (vs : List Value) : List Value → List Token → Type 0 where
  events_are : (es : List EventName) (rest : List Token) → IsEvents from es rest → MakesEvents from acc vs (event_names (acc ++ es) ∷ vs) rest

-- a symbol that opens a level
pub data IsOpening (free : ℕ) (s : Symbol) (d : ℕ) (vs : List Value) : List Token → List Value → List Token → Type 0 where
  opened : (t : Token) (rest : List Token) → IsSymbol s t → TokenOpens free d (t ∷ rest) → IsOpening free s d vs (t ∷ rest) vs rest

pub data MakesMore (free : ℕ) (l : Level) (d : ℕ) (left : PExpr) (from : List Token) (vs : List Value) : List Value → List Token → Type 0 where
  it_on : (e : PExpr) (rest : List Token) → IsMore free l d left from e rest → MakesMore free l d left from vs (one e ∷ vs) rest

pub data MakesList (free d : ℕ) (from : List Token) (acc : PExprs) (vs : List Value) : List Value → List Token → Type 0 where
  they : (es : PExprs) (rest : List Token) → IsExprs free d from es rest → MakesList free d from acc vs (many (all_of acc es) ∷ vs) rest

-- The tokens up to `rest` are those of what is due, and make the values vs into ws. What goes on with something that stands
-- before is said of each such thing.
abbrev pub IsDue : ℕ → Due → List Value → List Token → List Value → List Token → Type 0
IsDue free (make m) vs from ws rest = IsMaking m vs from ws rest
IsDue free (word w) vs from ws rest = IsOne (IsWord w) vs from ws rest
IsDue free (symbol s) vs from ws rest = IsOne (IsSymbol s) vs from ws rest
IsDue free (part p d) vs from ws rest = Makes free p d from vs ws rest
IsDue free (more_of l d) vs from ws rest = (left : PExpr) (below : List Value) → vs ≡ one left ∷ below → MakesMore free l d left from below ws rest
IsDue free (relation d) vs from ws rest = (a : PExpr) (below : List Value) (before : List Token) → vs ≡ one a ∷ below → IsExprPart free (level levels.Sum) d before a from →
    Makes free rel d before below ws rest
IsDue free (behind_name n d) vs from ws rest = (t : Token) → IsName n t → Makes free primary d (t ∷ from) vs ws rest
IsDue free (exprs_more d) vs from ws rest = (acc : PExprs) (e : PExpr) (below : List Value) (before : List Token) → vs ≡ many (behind acc e) ∷ below →
    IsExprPart free expr d before e from → MakesList free d before acc below ws rest
IsDue free (spelled name) vs from ws rest = IsOne (IsSpelled name) vs from ws rest
IsDue free (opening s d) vs from ws rest = IsOpening free s d vs from ws rest
IsDue free event vs from ws rest = MakesEvent from vs ws rest
IsDue free events_more vs from ws rest = (acc : List EventName) (e : EventName) (below : List Value) (before : List Token) → vs ≡ event_names (acc ++ e ∷ []) ∷ below →
    IsEvent before e from → MakesEvents before acc below ws rest
IsDue free (behind_event n) vs from ws rest = (t : Token) → IsName n t → MakesEvent (t ∷ from) vs ws rest
IsDue free s vs from ws rest = ⊥

pub data IsAll (free : ℕ) : List Due → List Value → List Token → List Value → List Token → Type 0 where
  nil : (vs : List Value) (rest : List Token) → IsAll free [] vs rest vs rest
  cons : (s : Due) (due : List Due) (vs us ws : List Value) (from mid rest : List Token) → IsDue free s vs from us mid → IsAll free due us mid ws rest →
      IsAll free (s ∷ due) vs from ws rest

-- what is due, in two parts
pub record InTwo (free : ℕ) (a b : List Due) (vs : List Value) (from : List Token) (ws : List Value) (rest : List Token) : Type 0 where
  pub us : List Value
  pub mid : List Token
  pub first : IsAll free a vs from us mid
  pub second : IsAll free b us mid ws rest

pub in_two : (free : ℕ) (a b : List Due) (vs : List Value) (from : List Token) (ws : List Value) (rest : List Token) → IsAll free (a ++ b) vs from ws rest →
    InTwo free a b vs from ws rest
in_two free [] b vs from ws rest x = record { us = vs; mid = from; first = nil vs from; second = x }
in_two free (s ∷ a) b vs from ws rest (cons _ _ _ us _ _ mid _ x y) =
    let r = in_two free a b us mid ws rest y in
    record { us = r.us; mid = r.mid; first = cons s a vs us r.us from mid r.mid x r.first; second = r.second }

-- the tokens after t are those that its turn makes due
abbrev pub Taken : ℕ → Turn → Token → List Token → List Value → List Value → List Token → Type 0
Taken free (takes plain ds) t ts vs ws rest = IsAll free ds vs ts ws rest
Taken free (takes (nests d) ds) t ts vs ws rest = TokenOpens free d (t ∷ ts) × IsAll free ds vs ts ws rest
Taken free x t ts vs ws rest = ⊥

pub record Split (free : ℕ) (x : Turn) (more : List Due) (t : Token) (ts : List Token) (vs ws : List Value) (rest : List Token) : Type 0 where
  pub us : List Value
  pub mid : List Token
  pub first : Taken free x t ts vs us mid
  pub second : IsAll free more us mid ws rest

split : (free : ℕ) (x : Turn) (due : List Due) (t : Token) (ts : List Token) (vs ws : List Value) (rest : List Token) → Takes x →
    Taken free (followed x due) t ts vs ws rest → Split free x due t ts vs ws rest
split free _ due t ts vs ws rest (taken plain ds) a = let r = in_two free ds due vs ts ws rest a in record { us = r.us; mid = r.mid; first = r.first; second = r.second }
split free _ due t ts vs ws rest (taken (nests d) ds) a =
    let r = in_two free ds due vs ts ws rest a.1 in record { us = r.us; mid = r.mid; first = (a.0, r.first); second = r.second }
split free _ due t ts vs ws rest (taken (label d spot) ds) a = absurd a
split free _ due t ts vs ws rest (taken (begun l) ds) a = absurd a
split free _ due t ts vs ws rest refused_ a = absurd a

-- the tokens of expr { "," expr } and the symbol that closes them
pub record Listed (free d : ℕ) (s : Symbol) (m : Make) (from : List Token) (vs ws : List Value) (rest : List Token) : Type 0 where
  pub es : PExprs
  pub closing : Token
  pub reads : IsExprs free d from es (closing ∷ rest)
  pub closes : IsSymbol s closing
  pub is : ws ≡ m (many es ∷ vs)

list_is : (free d : ℕ) (s : Symbol) (m : Make) (from : List Token) (vs us ws : List Value) (mid rest : List Token) → MakesList free d from none vs us mid →
    IsAll free (symbol s ∷ make m ∷ []) us mid ws rest → Listed free d s m from vs ws rest
list_is free d s m from vs _ _ _ _ (they es _ x) (cons _ _ _ _ _ _ _ _ (single v rest c) (cons _ _ _ _ _ _ _ _ makes_it (nil _ _))) =
    record { es = es; closing = v; reads = x; closes = c; is = refl }

back_list : (free d : ℕ) (vs ws : List Value) (from rest : List Token) (s : Symbol) (m : Make) → IsAll free (exprs_in d s m) vs from ws rest →
    Listed free (d + 1) s m from vs ws rest
back_list free d vs ws from rest s m (cons _ _ _ _ _ _ _ _ makes_it (cons _ _ _ _ _ _ _ _ (it e mid x) (cons _ _ _ _ _ _ _ _ makes_it (cons _ _ _ us _ _ after _ f y)))) =
    list_is free (d + 1) s m from vs us ws after rest (f none e vs from refl x) y

-- the tokens of event { "," event } and the parenthesis that closes them
waits_are : (free d : ℕ) (t u : Token) (from mid rest : List Token) (vs us ws : List Value) → IsWord reserved.Wait t → IsSymbol symbols.OpenRound u → TokenOpens free d (u ∷ from) →
    MakesEvents from [] vs us mid → IsAll free (symbol symbols.CloseRound ∷ make (waited t.spot) ∷ []) us mid ws rest → Makes free primary d (t ∷ u ∷ from) vs ws rest
waits_are free d t u from _ _ vs _ _ k s o (events_are es _ x) (cons _ _ _ _ _ _ _ _ (single v rest c) (cons _ _ _ _ _ _ _ _ makes_it (nil _ _))) =
    it (trees.tested test.WaitAny es t.spot) rest (grammar.waited t u v d es from rest k s o x c)

-- one event in parentheses
asks_it : (free d : ℕ) (t : Token) (ts : List Token) (x : EventTest) (vs ws : List Value) (rest : List Token) → test_of t.kind ≡ Some x →
    IsAll free (of_one x d t.spot) vs ts ws rest → Makes free primary d (t ∷ ts) vs ws rest
asks_it free d t _ test vs _ _ k
    (cons _ _ _ _ _ _ _ _ (opened u mid s o) (cons _ _ _ _ _ _ _ _ (event_is e _ x) (cons _ _ _ _ _ _ _ _ (single v rest c) (cons _ _ _ _ _ _ _ _ makes_it (nil _ _))))) =
    it (trees.tested test (e ∷ []) t.spot) rest (grammar.asked t u v test d e mid rest k s o x c)

-- a literal, a name with what may stand after it, or a group
back_primary : (free d : ℕ) (t : Token) (ts : List Token) (vs ws : List Value) (rest : List Token) (k : TokenKind) → t.kind ≡ k →
    Taken free (turn_primary d t.spot k) t ts vs ws rest → Makes free primary d (t ∷ ts) vs ws rest
back_primary free d t ts vs _ _ (kinds.Number value) k (cons _ _ _ _ _ _ _ _ makes_it (nil _ _)) = it (trees.number value t.spot) ts (grammar.literal t d value ts k)
back_primary free d t ts vs _ _ (kinds.Word reserved.True) k (cons _ _ _ _ _ _ _ _ makes_it (nil _ _)) = it (trees.truth true t.spot) ts (grammar.yes t d ts k)
back_primary free d t ts vs _ _ (kinds.Word reserved.False) k (cons _ _ _ _ _ _ _ _ makes_it (nil _ _)) = it (trees.truth false t.spot) ts (grammar.no_ t d ts k)
back_primary free d t ts vs ws rest (kinds.Word reserved.Happened) k x = asks_it free d t ts test.Happened vs ws rest (ap test_of k) x
back_primary free d t ts vs ws rest (kinds.Word reserved.Available) k x = asks_it free d t ts test.Available vs ws rest (ap test_of k) x
back_primary free d t ts vs ws rest (kinds.Word reserved.Fix) k x = asks_it free d t ts test.Fix vs ws rest (ap test_of k) x
back_primary free d t _ vs ws rest (kinds.Word reserved.Wait) k
    (cons _ _ _ _ _ _ _ _ (opened u mid s o) (cons _ _ _ _ _ _ _ _ makes_it (cons _ _ _ _ _ _ _ _ (event_is e _ x) (cons _ _ _ _ _ _ _ _ makes_it (cons _ _ _ us _ _ end _ f y))))) =
    waits_are free d t u mid end rest vs us ws k s o (f [] e vs mid refl x) y
back_primary free d t ts vs ws rest (kinds.Name name) k (cons _ _ _ _ _ _ _ _ f (nil _ _)) = f t (record { name = k; place = refl })
back_primary free d t ts vs _ _ (kinds.Symbol symbols.OpenRound) k
    (o, cons _ _ _ _ _ _ _ _ (it e mid x) (cons _ _ _ _ _ _ _ _ (single u rest c) (cons _ _ _ _ _ _ _ _ makes_it (nil _ _)))) =
    it (trees.paren e t.spot) rest (grammar.grouped t u d e ts rest k o x c)
back_primary free d t ts vs ws rest k e x = absurd x

-- { operator operand } after an operand
chained : (free : ℕ) (l : Level) (d : ℕ) (first : PExpr) (from mid : List Token) (vs ws : List Value) (rest : List Token) → IsExprPart free (operand l) d from first mid →
    MakesMore free l d first mid vs ws rest → Makes free (level l) d from vs ws rest
chained free l d first from mid vs _ _ x (it_on e rest y) = it e rest (grammar.chain l d first e from mid rest x y)

on_chain : (free : ℕ) (l : Level) (d : ℕ) (from mid rest : List Token) (vs us ws : List Value) → Makes free (operand l) d from vs us mid →
    IsAll free (more_of l d ∷ []) us mid ws rest → Makes free (level l) d from vs ws rest
on_chain free l d from _ rest vs _ ws (it first mid x) (cons _ _ _ _ _ _ _ _ f (nil _ _)) = chained free l d first from mid vs ws rest x (f first vs refl)

back_chain : (free : ℕ) (l : Level) (d : ℕ) (x : Turn) (t : Token) (ts : List Token) (vs ws : List Value) (rest : List Token) → Takes x →
    ((us : List Value) (mid : List Token) → Taken free x t ts vs us mid → Makes free (operand l) d (t ∷ ts) vs us mid) →
    Taken free (followed x (more_of l d ∷ [])) t ts vs ws rest → Makes free (level l) d (t ∷ ts) vs ws rest
back_chain free l d x t ts vs ws rest takes_x back a =
    let s = split free x (more_of l d ∷ []) t ts vs ws rest takes_x a in
    on_chain free l d (t ∷ ts) s.mid rest vs s.us ws (back s.us s.mid s.first) s.second

module _ (free d : ℕ) (t : Token) (ts : List Token) (vs : List Value) where
  back_term : (ws : List Value) (rest : List Token) → Taken free (turn_term d t.spot t.kind) t ts vs ws rest → Makes free (level levels.Term) d (t ∷ ts) vs ws rest
  back_term ws rest = back_chain free levels.Term d (turn_primary d t.spot t.kind) t ts vs ws rest (primary_takes d t.spot t.kind)
      (λ us mid. back_primary free d t ts vs us mid t.kind refl)

  -- a sign and a sum's first term
  signed_sum : (k : TokenKind) (first : PExpr) (mid : List Token) (ws : List Value) (rest : List Token) → t.kind ≡ k → is_sign k ≡ true →
      IsExprPart free (level levels.Term) d ts first mid → MakesMore free levels.Sum d (token_sign_of k first t.spot) mid vs ws rest →
      Makes free (level levels.Sum) d (t ∷ ts) vs ws rest
  signed_sum (kinds.Symbol symbols.Plus) first mid _ _ k e x (it_on f rest y) = it f rest (grammar.positive t d first f ts mid rest k x y)
  signed_sum (kinds.Symbol symbols.Minus) first mid _ _ k e x (it_on f rest y) = it f rest (grammar.negative t d first f ts mid rest k x y)
  signed_sum k first mid ws rest is e x y = cc

  sum_with : (ws : List Value) (rest : List Token) → is_sign t.kind ≡ true →
      IsAll free (part (level levels.Term) d ∷ make (signed t.kind t.spot) ∷ more_of levels.Sum d ∷ []) vs ts ws rest → Makes free (level levels.Sum) d (t ∷ ts) vs ws rest
  sum_with ws rest e (cons _ _ _ _ _ _ _ _ (it first mid x) (cons _ _ _ _ _ _ _ _ makes_it (cons _ _ _ _ _ _ _ _ f (nil _ _)))) =
      signed_sum t.kind first mid ws rest refl e x (f (token_sign_of t.kind first t.spot) vs refl)

  sum_by : (b : Bool) (ws : List Value) (rest : List Token) → is_sign t.kind ≡ b →
      Taken free (either b (takes plain (part (level levels.Term) d ∷ make (signed t.kind t.spot) ∷ more_of levels.Sum d ∷ [])) (followed (turn_term d t.spot t.kind) (more_of levels.Sum d ∷ []))) t ts vs ws rest →
      Makes free (level levels.Sum) d (t ∷ ts) vs ws rest
  sum_by true ws rest e a = sum_with ws rest e a
  sum_by false ws rest e a = back_chain free levels.Sum d (turn_term d t.spot t.kind) t ts vs ws rest (term_takes d t.spot t.kind) back_term a

  back_sum : (ws : List Value) (rest : List Token) → Taken free (turn_sum d t.spot t.kind) t ts vs ws rest → Makes free (level levels.Sum) d (t ∷ ts) vs ws rest
  back_sum ws rest = sum_by (is_sign t.kind) ws rest refl

  rel_with : (us ws : List Value) (mid rest : List Token) → Makes free (level levels.Sum) d (t ∷ ts) vs us mid → IsAll free (relation d ∷ []) us mid ws rest →
      Makes free rel d (t ∷ ts) vs ws rest
  rel_with _ ws _ rest (it a mid x) (cons _ _ _ _ _ _ _ _ f (nil _ _)) = f a vs (t ∷ ts) refl x

  back_rel : (ws : List Value) (rest : List Token) → Taken free (turn_rel d t.spot t.kind) t ts vs ws rest → Makes free rel d (t ∷ ts) vs ws rest
  back_rel ws rest a =
      let s = split free (turn_sum d t.spot t.kind) (relation d ∷ []) t ts vs ws rest (sum_takes d t.spot t.kind) a in
      rel_with s.us ws s.mid rest (back_sum s.us s.mid s.first) s.second

  not_with : (ws : List Value) (rest : List Token) → IsWord reserved.Not t → TokenOpens free d (t ∷ ts) → IsAll free (part not_part (d + 1) ∷ make (negated t.spot) ∷ []) vs ts ws rest →
      Makes free not_part d (t ∷ ts) vs ws rest
  not_with _ _ w o (cons _ _ _ _ _ _ _ _ (it e mid x) (cons _ _ _ _ _ _ _ _ makes_it (nil _ _))) = it (trees.not e t.spot) mid (grammar.negation t d e ts mid w o x)

  not_by : (b : Bool) (ws : List Value) (rest : List Token) → is_word reserved.Not t.kind ≡ b →
      Taken free (either b (takes (nests d) (part not_part (d + 1) ∷ make (negated t.spot) ∷ [])) (turn_rel d t.spot t.kind)) t ts vs ws rest → Makes free not_part d (t ∷ ts) vs ws rest
  not_by true ws rest e a = not_with ws rest (word_from t.kind reserved.Not e) a.0 a.1
  not_by false ws rest e a = affirmed ws rest (back_rel ws rest a)
    where
      affirmed : (ws : List Value) (rest : List Token) → Makes free rel d (t ∷ ts) vs ws rest → Makes free not_part d (t ∷ ts) vs ws rest
      affirmed _ _ (it e rest x) = it e rest (grammar.affirmation d e (t ∷ ts) rest x)

  back_not : (ws : List Value) (rest : List Token) → Taken free (turn_not d t.spot t.kind) t ts vs ws rest → Makes free not_part d (t ∷ ts) vs ws rest
  back_not ws rest = not_by (is_word reserved.Not t.kind) ws rest refl

  back_and : (ws : List Value) (rest : List Token) → Taken free (turn_and d t.spot t.kind) t ts vs ws rest → Makes free (level levels.And) d (t ∷ ts) vs ws rest
  back_and ws rest = back_chain free levels.And d (turn_not d t.spot t.kind) t ts vs ws rest (not_takes d t.spot t.kind) back_not

  back_or : (ws : List Value) (rest : List Token) → Taken free (turn_or d t.spot t.kind) t ts vs ws rest → Makes free (level levels.Or) d (t ∷ ts) vs ws rest
  back_or ws rest = back_chain free levels.Or d (turn_and d t.spot t.kind) t ts vs ws rest (and_takes d t.spot t.kind) back_and

  back_imp : (ws : List Value) (rest : List Token) → Taken free (turn_imp d t.spot t.kind) t ts vs ws rest → Makes free (level levels.Imp) d (t ∷ ts) vs ws rest
  back_imp ws rest = back_chain free levels.Imp d (turn_or d t.spot t.kind) t ts vs ws rest (or_takes d t.spot t.kind) back_or

  back_eqv : (ws : List Value) (rest : List Token) → Taken free (turn_eqv d t.spot t.kind) t ts vs ws rest → Makes free (level levels.Eqv) d (t ∷ ts) vs ws rest
  back_eqv ws rest = back_chain free levels.Eqv d (turn_imp d t.spot t.kind) t ts vs ws rest (imp_takes d t.spot t.kind) back_imp

  if_with : (ws : List Value) (rest : List Token) → IsWord reserved.If t → TokenOpens free d (t ∷ ts) →
      IsAll free (part expr (d + 1) ∷ word reserved.Then ∷ part (level levels.Eqv) (d + 1) ∷ word reserved.Else ∷ part expr (d + 1) ∷ make (expr_chosen t.spot) ∷ []) vs ts ws rest →
      Makes free expr d (t ∷ ts) vs ws rest
  if_with _ _ w o (cons _ _ _ _ _ _ _ _ (it c mid x) (cons _ _ _ _ _ _ _ _ (single u yes_ wu) (cons _ _ _ _ _ _ _ _ (it a mid2 y)
      (cons _ _ _ _ _ _ _ _ (single v otherwise wv) (cons _ _ _ _ _ _ _ _ (it b end z) (cons _ _ _ _ _ _ _ _ makes_it (nil _ _))))))) =
      it (trees.if c a b t.spot) end (grammar.conditional t u v d c a b ts yes_ otherwise end w o x wu y wv z)

  expr_by : (b : Bool) (ws : List Value) (rest : List Token) → is_word reserved.If t.kind ≡ b →
      Taken free (either b (takes (nests d) (part expr (d + 1) ∷ word reserved.Then ∷ part (level levels.Eqv) (d + 1) ∷ word reserved.Else ∷ part expr (d + 1) ∷ make (expr_chosen t.spot) ∷ [])) (turn_eqv d t.spot t.kind)) t ts vs ws rest →
      Makes free expr d (t ∷ ts) vs ws rest
  expr_by true ws rest e a = if_with ws rest (word_from t.kind reserved.If e) a.0 a.1
  expr_by false ws rest e a = plainly ws rest (back_eqv ws rest a)
    where
      plainly : (ws : List Value) (rest : List Token) → Makes free (level levels.Eqv) d (t ∷ ts) vs ws rest → Makes free expr d (t ∷ ts) vs ws rest
      plainly _ _ (it e rest x) = it e rest (grammar.unconditional d e (t ∷ ts) rest x)

  back_expr : (ws : List Value) (rest : List Token) → Taken free (turn_expr d t.spot t.kind) t ts vs ws rest → Makes free expr d (t ∷ ts) vs ws rest
  back_expr ws rest = expr_by (is_word reserved.If t.kind) ws rest refl

-- what may be left out

pub data IsLeft (vs : List Value) (from : List Token) : List Value → List Token → Type 0 where
  left_out : IsLeft vs from vs from

abbrev pub Leaves : Turn → List Value → List Token → List Value → List Token → Type 0
Leaves (makes m) vs from ws rest = IsMaking m vs from ws rest
Leaves skips vs from ws rest = IsLeft vs from ws rest
Leaves x vs from ws rest = ⊥

never_left : (x : Turn) (vs ws : List Value) (from rest : List Token) → Takes x → Leaves x vs from ws rest → ⊥
never_left _ vs ws from rest (taken x ds) l = l
never_left _ vs ws from rest refused_ l = l

pub part_takes : (p : Part) (d : ℕ) (spot : Spot) (k : TokenKind) → Takes (turn_part p d spot k)
part_takes expr d spot k = either_takes (is_word reserved.If k) _ _ (taken (nests d) _) (eqv_takes d spot k)
part_takes (level levels.Eqv) d spot k = eqv_takes d spot k
part_takes (level levels.Imp) d spot k = imp_takes d spot k
part_takes (level levels.Or) d spot k = or_takes d spot k
part_takes (level levels.And) d spot k = and_takes d spot k
part_takes (level levels.Sum) d spot k = sum_takes d spot k
part_takes (level levels.Term) d spot k = term_takes d spot k
part_takes not_part d spot k = not_takes d spot k
part_takes rel d spot k = rel_takes d spot k
part_takes primary d spot k = primary_takes d spot k

leave_if : (b : Bool) (vs ws : List Value) (from rest : List Token) → Leaves (either b (takes plain []) refuses) vs from ws rest → ⊥
leave_if true vs ws from rest l = l
leave_if false vs ws from rest l = l

pub leave_more : (free : ℕ) (l : Level) (d : ℕ) (o : Option Op) (vs ws : List Value) (from rest : List Token) → Leaves (optional o (on_with l d) skips) vs from ws rest →
    IsDue free (more_of l d) vs from ws rest
leave_more free l d (Some op) vs ws from rest x = absurd x
leave_more free l d None vs _ from _ left_out = λ left below e. subst (λ v. MakesMore free l d left from below v from) (sym e) (it_on left from (grammar.last l d left from))

pub leave_relation : (free d : ℕ) (o : Option Op) (vs ws : List Value) (from rest : List Token) → Leaves (optional o (related d) skips) vs from ws rest →
    IsDue free (relation d) vs from ws rest
leave_relation free d (Some op) vs ws from rest x = absurd x
leave_relation free d None vs _ from _ left_out = λ a below before e x. subst (λ v. Makes free rel d before below v from) (sym e) (it a from (grammar.alone d a before from x))

pub leave_name : (free : ℕ) (n : Named) (d : ℕ) (a b : Bool) (vs ws : List Value) (from rest : List Token) →
    Leaves (either a (takes (nests d) (exprs_in d symbols.CloseSquare (element n))) (either b (takes (nests d) (exprs_in d symbols.CloseRound (applied n)))
    (makes (value_put (one (trees.variable (trees.subscripted n none))))))) vs from ws rest → IsDue free (behind_name n d) vs from ws rest
leave_name free n d true b vs ws from rest x = absurd x
leave_name free n d false true vs ws from rest x = absurd x
leave_name free n d false false vs _ from _ makes_it = λ t k. it (trees.variable (trees.subscripted n none)) from (grammar.simple t n d from k)

pub leave_exprs : (free d : ℕ) (b : Bool) (vs ws : List Value) (from rest : List Token) →
    Leaves (either b (takes plain (part expr d ∷ make list_made ∷ exprs_more d ∷ [])) skips) vs from ws rest → IsDue free (exprs_more d) vs from ws rest
leave_exprs free d true vs ws from rest x = absurd x
leave_exprs free d false vs _ from _ left_out = λ acc e below before is x.
    subst (λ v. MakesList free d before acc below v from) (ap (λ es. many es ∷ below) (sym (behind_all_of acc e)) ∙ sym is)
    (they (more e none) from (grammar.one d e before from x))

pub leave_events : (free : ℕ) (b : Bool) (vs ws : List Value) (from rest : List Token) →
    Leaves (either b (takes plain (event ∷ make event_added ∷ events_more ∷ [])) skips) vs from ws rest → IsDue free events_more vs from ws rest
leave_events free true vs ws from rest x = absurd x
leave_events free false vs _ from _ left_out = λ acc e below before is x.
    subst (λ v. MakesEvents before acc below v from) (sym is) (events_are (e ∷ []) from (grammar.last e before from x))

pub leave_behind_event : (free : ℕ) (n : Named) (b : Bool) (vs ws : List Value) (from rest : List Token) →
    Leaves (either b (takes plain (spelled (codes "EXCEPTIONEVENT") ∷ make (value_put (event_named (record { name = n; task = true }))) ∷ []))
    (makes (value_put (event_named (record { name = n; task = false }))))) vs from ws rest → IsDue free (behind_event n) vs from ws rest
leave_behind_event free n true vs ws from rest x = absurd x
leave_behind_event free n false vs _ from _ makes_it = λ t k. event_is (record { name = n; task = false }) from (grammar.declared t n from k)

event_takes : (spot : Spot) (k : TokenKind) → Takes (turn_event spot k)
event_takes spot (kinds.Name name) = taken plain _
event_takes spot k = refused_

leave_opening : (d : ℕ) (b : Bool) (vs ws : List Value) (from rest : List Token) → Leaves (either b (takes (nests d) []) refuses) vs from ws rest → ⊥
leave_opening d true vs ws from rest l = l
leave_opening d false vs ws from rest l = l

pub leave : (free : ℕ) (s : Due) (spot : Spot) (k : TokenKind) (vs ws : List Value) (from rest : List Token) → IsInner s → Leaves (reading_turn s spot k) vs from ws rest →
    IsDue free s vs from ws rest
leave free (make m) spot k vs ws from rest i l = l
leave free (word w) spot k vs ws from rest i l = absurd (leave_if (is_word w k) vs ws from rest l)
leave free (symbol s) spot k vs ws from rest i l = absurd (leave_if (is_symbol s k) vs ws from rest l)
leave free (spelled n) spot k vs ws from rest i l = absurd (leave_if (is_spelled n k) vs ws from rest l)
leave free (part p d) spot k vs ws from rest i l = absurd (never_left (turn_part p d spot k) vs ws from rest (part_takes p d spot k) l)
leave free (more_of l d) spot k vs ws from rest i x = leave_more free l d (operator l k) vs ws from rest x
leave free (relation d) spot k vs ws from rest i x = leave_relation free d (relop k) vs ws from rest x
leave free (behind_name n d) spot k vs ws from rest i x = leave_name free n d (is_symbol symbols.OpenSquare k) (is_symbol symbols.OpenRound k) vs ws from rest x
leave free (exprs_more d) spot k vs ws from rest i x = leave_exprs free d (is_symbol symbols.Comma k) vs ws from rest x
leave free (opening s d) spot k vs ws from rest i x = absurd (leave_opening d (is_symbol s k) vs ws from rest x)
leave free event spot k vs ws from rest i x = absurd (never_left (turn_event spot k) vs ws from rest (event_takes spot k) x)
leave free events_more spot k vs ws from rest i x = leave_events free (is_symbol symbols.Comma k) vs ws from rest x
leave free (behind_event n) spot k vs ws from rest i x = leave_behind_event free n (is_symbol symbols.Period k) vs ws from rest x
leave free s spot k vs ws from rest i x = absurd i

-- what is taken

back_word : (free : ℕ) (w : Reserved) (b : Bool) (t : Token) (ts : List Token) (vs ws : List Value) (rest : List Token) → is_word w t.kind ≡ b →
    Taken free (either b (takes plain []) refuses) t ts vs ws rest → IsOne (IsWord w) vs (t ∷ ts) ws rest
back_word free w true t ts vs _ _ e (nil _ _) = single t ts (word_from t.kind w e)
back_word free w false t ts vs ws rest e x = absurd x

back_symbol : (free : ℕ) (s : Symbol) (b : Bool) (t : Token) (ts : List Token) (vs ws : List Value) (rest : List Token) → is_symbol s t.kind ≡ b →
    Taken free (either b (takes plain []) refuses) t ts vs ws rest → IsOne (IsSymbol s) vs (t ∷ ts) ws rest
back_symbol free s true t ts vs _ _ e (nil _ _) = single t ts (symbol_from t.kind s e)
back_symbol free s false t ts vs ws rest e x = absurd x

back_spelled : (free : ℕ) (n : List ℕ) (b : Bool) (t : Token) (ts : List Token) (vs ws : List Value) (rest : List Token) → is_spelled n t.kind ≡ b →
    Taken free (either b (takes plain []) refuses) t ts vs ws rest → IsOne (IsSpelled n) vs (t ∷ ts) ws rest
back_spelled free n true t ts vs _ _ e (nil _ _) = single t ts (spelled_from t.kind n e)
back_spelled free n false t ts vs ws rest e x = absurd x

back_opening : (free : ℕ) (s : Symbol) (d : ℕ) (b : Bool) (t : Token) (ts : List Token) (vs ws : List Value) (rest : List Token) → is_symbol s t.kind ≡ b →
    Taken free (either b (takes (nests d) []) refuses) t ts vs ws rest → IsOpening free s d vs (t ∷ ts) ws rest
back_opening free s d true t ts vs _ _ e (o, nil _ _) = opened t ts (symbol_from t.kind s e) o
back_opening free s d false t ts vs ws rest e x = absurd x

back_event : (free : ℕ) (t : Token) (ts : List Token) (vs ws : List Value) (rest : List Token) (k : TokenKind) → t.kind ≡ k →
    Taken free (turn_event t.spot k) t ts vs ws rest → MakesEvent (t ∷ ts) vs ws rest
back_event free t ts vs ws rest (kinds.Name name) k (cons _ _ _ _ _ _ _ _ f (nil _ _)) = f t (record { name = k; place = refl })
back_event free t ts vs ws rest k e x = absurd x

back_behind_event : (free : ℕ) (n : Named) (b : Bool) (t : Token) (ts : List Token) (vs ws : List Value) (rest : List Token) → is_symbol symbols.Period t.kind ≡ b →
    Taken free (either b (takes plain (spelled (codes "EXCEPTIONEVENT") ∷ make (value_put (event_named (record { name = n; task = true }))) ∷ []))
    (makes (value_put (event_named (record { name = n; task = false }))))) t ts vs ws rest → IsDue free (behind_event n) vs (t ∷ ts) ws rest
back_behind_event free n true t ts vs _ _ e (cons _ _ _ _ _ _ _ _ (single v rest q) (cons _ _ _ _ _ _ _ _ makes_it (nil _ _))) =
    λ u k. event_is (record { name = n; task = true }) rest (grammar.of_task u t v n rest k (symbol_from t.kind symbols.Period e) q)
back_behind_event free n false t ts vs ws rest e x = absurd x

more_chained : (free : ℕ) (l : Level) (d : ℕ) (op : Op) (left right : PExpr) (t : Token) (ts mid : List Token) (below ws : List Value) (rest : List Token) →
    operator l t.kind ≡ Some op → IsExprPart free (operand l) d ts right mid → MakesMore free l d (trees.two op left right) mid below ws rest →
    MakesMore free l d left (t ∷ ts) below ws rest
more_chained free l d op left right t ts mid below _ _ e x (it_on f rest y) = it_on f rest (grammar.on t l op d left right f ts mid rest e x y)

back_more : (free : ℕ) (l : Level) (d : ℕ) (o : Option Op) (t : Token) (ts : List Token) (vs ws : List Value) (rest : List Token) → operator l t.kind ≡ o →
    Taken free (optional o (on_with l d) skips) t ts vs ws rest → IsDue free (more_of l d) vs (t ∷ ts) ws rest
back_more free l d None t ts vs ws rest e x = absurd x
back_more free l d (Some op) t ts vs ws rest e (cons _ _ _ _ _ _ _ _ (it right mid x) (cons _ _ _ _ _ _ _ _ makes_it (cons _ _ _ _ _ _ _ _ f (nil _ _)))) =
    λ left below is. more_chained free l d op left right t ts mid below ws rest e x
    (f (trees.two op left right) below (ap (λ us. op_joined op (one right ∷ us)) is))

back_relation : (free d : ℕ) (o : Option Op) (t : Token) (ts : List Token) (vs ws : List Value) (rest : List Token) → relop t.kind ≡ o →
    Taken free (optional o (related d) skips) t ts vs ws rest → IsDue free (relation d) vs (t ∷ ts) ws rest
back_relation free d None t ts vs ws rest e x = absurd x
back_relation free d (Some op) t ts vs _ _ e (cons _ _ _ _ _ _ _ _ (it right mid x) (cons _ _ _ _ _ _ _ _ makes_it (nil _ _))) =
    λ a below before is y. subst (λ us. Makes free rel d before below (op_joined op (one right ∷ us)) mid) (sym is)
    (it (trees.two op a right) mid (grammar.relation t op d a right before ts mid y e x))

name_square : (free : ℕ) (n : Named) (d : ℕ) (u : Token) (ts : List Token) (vs ws : List Value) (rest : List Token) → IsSymbol symbols.OpenSquare u → TokenOpens free d (u ∷ ts) →
    Listed free (d + 1) symbols.CloseSquare (element n) ts vs ws rest → IsDue free (behind_name n d) vs (u ∷ ts) ws rest
name_square free n d u ts vs ws rest s o l = λ t k. subst (λ w. Makes free primary d (t ∷ u ∷ ts) vs w rest) (sym l.is)
    (it (trees.variable (trees.subscripted n l.es)) rest (grammar.element t u l.closing n d l.es ts rest k s o l.reads l.closes))

name_round : (free : ℕ) (n : Named) (d : ℕ) (u : Token) (ts : List Token) (vs ws : List Value) (rest : List Token) → IsSymbol symbols.OpenRound u → TokenOpens free d (u ∷ ts) →
    Listed free (d + 1) symbols.CloseRound (applied n) ts vs ws rest → IsDue free (behind_name n d) vs (u ∷ ts) ws rest
name_round free n d u ts vs ws rest s o l = λ t k. subst (λ w. Makes free primary d (t ∷ u ∷ ts) vs w rest) (sym l.is)
    (it (trees.call (trees.called n l.es)) rest (grammar.called_with t u l.closing n d l.es ts rest k s o l.reads l.closes))

back_name : (free : ℕ) (n : Named) (d : ℕ) (a b : Bool) (t : Token) (ts : List Token) (vs ws : List Value) (rest : List Token) →
    is_symbol symbols.OpenSquare t.kind ≡ a → is_symbol symbols.OpenRound t.kind ≡ b →
    Taken free (either a (takes (nests d) (exprs_in d symbols.CloseSquare (element n))) (either b (takes (nests d) (exprs_in d symbols.CloseRound (applied n)))
    (makes (value_put (one (trees.variable (trees.subscripted n none))))))) t ts vs ws rest → IsDue free (behind_name n d) vs (t ∷ ts) ws rest
back_name free n d true b t ts vs ws rest e f x = name_square free n d t ts vs ws rest (symbol_from t.kind symbols.OpenSquare e) x.0
    (back_list free d vs ws ts rest symbols.CloseSquare (element n) x.1)
back_name free n d false true t ts vs ws rest e f x = name_round free n d t ts vs ws rest (symbol_from t.kind symbols.OpenRound f) x.0
    (back_list free d vs ws ts rest symbols.CloseRound (applied n) x.1)
back_name free n d false false t ts vs ws rest e f x = absurd x

exprs_chained : (free d : ℕ) (t : Token) (acc : PExprs) (e : PExpr) (before ts : List Token) (below ws : List Value) (rest : List Token) →
    IsExprPart free expr d before e (t ∷ ts) → IsSymbol symbols.Comma t → MakesList free d ts (behind acc e) below ws rest → MakesList free d before acc below ws rest
exprs_chained free d t acc e before ts below _ _ x c (they es rest y) =
    subst (λ fs. MakesList free d before acc below (many fs ∷ below) rest) (sym (all_of_behind acc e es)) (they (more e es) rest (grammar.comma t d e es before ts rest x c y))

back_exprs : (free d : ℕ) (b : Bool) (t : Token) (ts : List Token) (vs ws : List Value) (rest : List Token) → is_symbol symbols.Comma t.kind ≡ b →
    Taken free (either b (takes plain (part expr d ∷ make list_made ∷ exprs_more d ∷ [])) skips) t ts vs ws rest → IsDue free (exprs_more d) vs (t ∷ ts) ws rest
back_exprs free d false t ts vs ws rest e x = absurd x
back_exprs free d true t ts vs ws rest e (cons _ _ _ _ _ _ _ _ (it f mid x) (cons _ _ _ _ _ _ _ _ makes_it (cons _ _ _ _ _ _ _ _ g (nil _ _)))) =
    λ acc last below before is y. exprs_chained free d t acc last before ts below ws rest y (symbol_from t.kind symbols.Comma e)
    (g (behind acc last) f below ts (ap (λ us. list_made (one f ∷ us)) is) x)

events_chained : (t : Token) (acc : List EventName) (e : EventName) (before ts : List Token) (below ws : List Value) (rest : List Token) →
    IsEvent before e (t ∷ ts) → IsSymbol symbols.Comma t → MakesEvents ts (acc ++ e ∷ []) below ws rest → MakesEvents before acc below ws rest
events_chained t acc e before ts below _ _ x c (events_are es rest y) =
    subst (λ fs. MakesEvents before acc below (event_names fs ∷ below) rest) (sym (append_assoc acc (e ∷ []) es)) (events_are (e ∷ es) rest (grammar.comma t e es before ts rest x c y))

back_events : (free : ℕ) (b : Bool) (t : Token) (ts : List Token) (vs ws : List Value) (rest : List Token) → is_symbol symbols.Comma t.kind ≡ b →
    Taken free (either b (takes plain (event ∷ make event_added ∷ events_more ∷ [])) skips) t ts vs ws rest → IsDue free events_more vs (t ∷ ts) ws rest
back_events free false t ts vs ws rest e x = absurd x
back_events free true t ts vs ws rest e (cons _ _ _ _ _ _ _ _ (event_is f mid x) (cons _ _ _ _ _ _ _ _ makes_it (cons _ _ _ _ _ _ _ _ g (nil _ _)))) =
    λ acc last below before is y. events_chained t acc last before ts below ws rest y (symbol_from t.kind symbols.Comma e)
    (g (acc ++ last ∷ []) f below ts (ap (λ us. event_added (event_named f ∷ us)) is) x)

back_part : (free : ℕ) (p : Part) (d : ℕ) (t : Token) (ts : List Token) (vs ws : List Value) (rest : List Token) →
    Taken free (turn_part p d t.spot t.kind) t ts vs ws rest → Makes free p d (t ∷ ts) vs ws rest
back_part free expr d t ts vs ws rest x = back_expr free d t ts vs ws rest x
back_part free (level levels.Eqv) d t ts vs ws rest x = back_eqv free d t ts vs ws rest x
back_part free (level levels.Imp) d t ts vs ws rest x = back_imp free d t ts vs ws rest x
back_part free (level levels.Or) d t ts vs ws rest x = back_or free d t ts vs ws rest x
back_part free (level levels.And) d t ts vs ws rest x = back_and free d t ts vs ws rest x
back_part free (level levels.Sum) d t ts vs ws rest x = back_sum free d t ts vs ws rest x
back_part free (level levels.Term) d t ts vs ws rest x = back_term free d t ts vs ws rest x
back_part free not_part d t ts vs ws rest x = back_not free d t ts vs ws rest x
back_part free rel d t ts vs ws rest x = back_rel free d t ts vs ws rest x
back_part free primary d t ts vs ws rest x = back_primary free d t ts vs ws rest t.kind refl x

pub back : (free : ℕ) (s : Due) (t : Token) (ts : List Token) (vs ws : List Value) (rest : List Token) → IsInner s → Taken free (reading_turn s t.spot t.kind) t ts vs ws rest →
    IsDue free s vs (t ∷ ts) ws rest
back free (make m) t ts vs ws rest i x = absurd x
back free (word w) t ts vs ws rest i x = back_word free w (is_word w t.kind) t ts vs ws rest refl x
back free (symbol s) t ts vs ws rest i x = back_symbol free s (is_symbol s t.kind) t ts vs ws rest refl x
back free (spelled n) t ts vs ws rest i x = back_spelled free n (is_spelled n t.kind) t ts vs ws rest refl x
back free (part p d) t ts vs ws rest i x = back_part free p d t ts vs ws rest x
back free (more_of l d) t ts vs ws rest i x = back_more free l d (operator l t.kind) t ts vs ws rest refl x
back free (relation d) t ts vs ws rest i x = back_relation free d (relop t.kind) t ts vs ws rest refl x
back free (behind_name n d) t ts vs ws rest i x = back_name free n d (is_symbol symbols.OpenSquare t.kind) (is_symbol symbols.OpenRound t.kind) t ts vs ws rest refl refl x
back free (exprs_more d) t ts vs ws rest i x = back_exprs free d (is_symbol symbols.Comma t.kind) t ts vs ws rest refl x
back free (opening s d) t ts vs ws rest i x = back_opening free s d (is_symbol s t.kind) t ts vs ws rest refl x
back free event t ts vs ws rest i x = back_event free t ts vs ws rest t.kind refl x
back free events_more t ts vs ws rest i x = back_events free (is_symbol symbols.Comma t.kind) t ts vs ws rest refl x
back free (behind_event n) t ts vs ws rest i x = back_behind_event free n (is_symbol symbols.Period t.kind) t ts vs ws rest refl x
back free s t ts vs ws rest i x = absurd i
