-- What is read of a statement is of the grammar.
use Rattle.std.proofs.Common.{◌≡◌, ◌+◌, ℕ, Bool, true, false, List, [], ◌∷◌, Some, refl, sym, subst, ap, ◌∙◌}
use Rattle.algol_tree.specs.declared.token.Token.{Token}
use Rattle.algol_tree.specs.declared.token.TokenKind.{TokenKind}
use Rattle.algol_tree.specs.declared.token.TokenKind.TheVariants as kinds
use Rattle.algol_tree.specs.declared.token.Reserved.TheVariants as reserved
use Rattle.algol_tree.specs.declared.token.Symbol.TheVariants as symbols
use Rattle.algol_tree.specs.declared.tree.Named.{Named}
use Rattle.b67_deeds.specs.declared.EventAct.{EventAct}
use Rattle.b67_deeds.specs.declared.EventAct.TheVariants as acts
use Rattle.algol_tree.specs.declared.tree.PhraseText.{PhraseText}
use Rattle.algol_tree.specs.Plain as trees
use Rattle.algol_tree.specs.Plain.{PExpr, PExprs, none, subscripted, called, PStmt, empty, PStmts, no_stmts, stmts, PDecls, no_decls}
use Rattle.algol_tree.specs.Tokens.{IsWord, IsSymbol, IsName, is_word, is_symbol}
use Rattle.algol_tree.specs.Expressions.{TokenOpens, IsWholeExpression}
use Rattle.algol_tree.specs.Statements as grammar
use Rattle.algol_tree.specs.Statements.{act_of, open_if, IsWholes, IsPhrases, IsStmt, IsStmts, IsDecls}
use Rattle.algol_tree.specs.Due.{Value, one, many, name_is, phrases, place, stmt, list, declared, value_put, Due, make, word, symbol, event, whole, items_part, statement, declarations, behind_start, else_part, stmts_more, Turn, takes, makes, skips, plain, either}
use Rattle.algol_tree.specs.DueStmt.{stmt_behind, counting, assigned_element, calling, compound, choosing, acting, writing, one_armed, two_armed, stmt_added, write_due, body_in, stmts_in, turn_start, turn_behind_start}
use Rattle.algol_expr.proofs.Turns.{word_from, symbol_from, word_is}
use Rattle.algol_expr.proofs.Sound.{single, makes_it, event_is}
use Rattle.algol_grammar.proofs.Optional.{NotFirst}
use Rattle.algol_grammar.proofs.Complete.{stmts_and, stmts_behind}
use Rattle.algol_grammar.proofs.Meant.{Gives, gives, passed, one_name, less, IsClosed, IsArms, without, with_else, IsDue, IsAll, nil, cons, Taken}
use Rattle.algol_grammar.proofs.Given.{given, regive, put_given}
use Rattle.algol_grammar.proofs.SoundLists.{wholes_end, phrases_end}

pub shut : {free d : ℕ} {from : List Token} {s : PStmt} {rest : List Token} → IsStmt free d from s rest → open_if s ≡ false → IsClosed free d from s rest
shut x e = record { reads = x; closed = λ o. let no : false ≡ true = sym e ∙ o in cc }

stmts_and_none : (acc : PStmts) → stmts_and acc no_stmts ≡ acc
stmts_and_none no_stmts = refl
stmts_and_none (stmts s ss) = ap (stmts s) (stmts_and_none ss)

-- statements

pub no_stmts_more : (free d : ℕ) (vs : List Value) (from : List Token) → IsDue free (stmts_more d) vs from vs from
no_stmts_more free d vs from = λ acc below is. put_given no_stmts (is ∙ ap (λ ss. list ss ∷ below) (sym (stmts_and_none acc))) (λ before s x. grammar.last d s before from x)

pub back_stmts_more : (free d : ℕ) (b : Bool) (t : Token) (ts : List Token) (vs ws : List Value) (rest : List Token) → is_symbol symbols.Semicolon t.kind ≡ b →
    Taken free (either b (takes plain (statement d ∷ make stmt_added ∷ stmts_more d ∷ [])) skips) t ts vs ws rest → IsDue free (stmts_more d) vs (t ∷ ts) ws rest
back_stmts_more free d false t ts vs ws rest e x = absurd x
back_stmts_more free d true t ts vs ws rest e (cons _ _ _ _ _ _ _ _ (gives f mid y) (cons _ _ _ _ _ _ _ _ makes_it (cons _ _ _ _ _ _ _ _ g (nil _ _)))) =
    λ acc below is. regive _ _ (t ∷ ts) (g (stmt_behind acc f) below (ap (λ us. stmt_added (stmt f ∷ us)) is)) (λ ss. stmts f ss)
    (λ ss rest p. λ before h x. grammar.semicolon t d h (stmts f ss) before ts rest x (symbol_from t.kind symbols.Semicolon e) (p ts f y.reads))
    (λ ss. ap list (stmts_behind acc f ss))

-- statements and their END
pub record StmtsEnd (free d : ℕ) (more : List Due) (from : List Token) (vs ws : List Value) (rest : List Token) : Type 0 where
  pub ss : PStmts
  pub u : Token
  pub mid : List Token
  pub reads : IsStmts free d from ss (u ∷ mid)
  pub closes : IsWord reserved.End u
  pub second : IsAll free more (list ss ∷ vs) mid ws rest

pub stmts_end : (free d : ℕ) (more : List Due) (vs ws : List Value) (from rest : List Token) →
    IsAll free (make (value_put (list no_stmts)) ∷ statement d ∷ make stmt_added ∷ stmts_more d ∷ word reserved.End ∷ more) vs from ws rest → StmtsEnd free d more from vs ws rest
stmts_end free d more vs ws from rest (cons _ _ _ _ _ _ _ _ makes_it (cons _ _ _ _ _ _ _ _ (gives s mid y) (cons _ _ _ _ _ _ _ _ makes_it (cons _ _ _ _ _ _ _ _ f z)))) =
    let r = given (f (stmts s no_stmts) vs refl) z in by_word (stmts s r.a) r.mid (r.is from s y.reads) r.second
  where
    by_word : (ss : PStmts) (mid : List Token) → IsStmts free d from ss mid → IsAll free (word reserved.End ∷ more) (list ss ∷ vs) mid ws rest → StmtsEnd free d more from vs ws rest
    by_word ss _ x (cons _ _ _ _ _ _ _ _ (single u mid c) w) = record { ss = ss; u = u; mid = mid; reads = x; closes = c; second = w }

-- a body and its END
pub record BodyEnd (free d : ℕ) (more : List Due) (from : List Token) (vs ws : List Value) (rest : List Token) : Type 0 where
  pub ds : PDecls
  pub ss : PStmts
  pub u : Token
  pub mid : List Token
  pub after : List Token
  pub declares : IsDecls free d from ds mid
  pub reads : IsStmts free d mid ss (u ∷ after)
  pub closes : IsWord reserved.End u
  pub second : IsAll free more (list ss ∷ declared ds ∷ vs) after ws rest

pub body_end : (free d : ℕ) (more : List Due) (vs ws : List Value) (from rest : List Token) →
    IsAll free (make (value_put (declared no_decls)) ∷ declarations d ∷ make (value_put (list no_stmts)) ∷ statement d ∷ make stmt_added ∷ stmts_more d ∷ word reserved.End ∷ more) vs from ws rest →
    BodyEnd free d more from vs ws rest
body_end free d more vs ws from rest (cons _ _ _ _ _ _ _ _ makes_it (cons _ _ _ _ _ _ _ _ f y)) =
    let r = given (f no_decls vs refl) y in
    let s = stmts_end free d more (declared r.a ∷ vs) ws r.mid rest r.second in
    record { ds = r.a; ss = s.ss; u = s.u; mid = r.mid; after = s.mid; declares = r.is; reads = s.reads; closes = s.closes; second = s.second }

-- ELSE

pub no_else : (free d : ℕ) (vs : List Value) (from : List Token) → NotFirst (is_word reserved.Else) from → IsDue free (else_part d) vs from (one_armed vs) from
no_else free d vs from n = λ s c below is. subst (λ us. IsArms free d c s below from (one_armed us) from) (sym is) (without from n)

pub back_else : (free d : ℕ) (b : Bool) (t : Token) (ts : List Token) (vs ws : List Value) (rest : List Token) → is_word reserved.Else t.kind ≡ b →
    Taken free (either b (takes plain (statement d ∷ make two_armed ∷ [])) (makes one_armed)) t ts vs ws rest → IsDue free (else_part d) vs (t ∷ ts) ws rest
back_else free d false t ts vs ws rest e x = absurd x
back_else free d true t ts vs _ _ e (cons _ _ _ _ _ _ _ _ (gives b rest y) (cons _ _ _ _ _ _ _ _ makes_it (nil _ _))) = λ s c below is.
    subst (λ us. IsArms free d c s below (t ∷ ts) (two_armed (stmt b ∷ us)) rest) (sym is) (with_else t b ts rest (word_from t.kind reserved.Else e) y)

-- an ELSE stands after no statement that ends in an IF without one
else_is : (s : PStmt) (v : Token) (after : List Token) → IsWord reserved.Else v → (open_if s ≡ true → NotFirst (is_word reserved.Else) (v ∷ after)) → open_if s ≡ false
else_is s v after w f = by_test (open_if s) refl
  where
    by_test : (b : Bool) → open_if s ≡ b → b ≡ false
    by_test true e = let no : true ≡ false = sym (word_is v reserved.Else w) ∙ f e in cc
    by_test false e = refl

-- a statement that is not empty, by its first token
module _ (free d : ℕ) (t : Token) (ts : List Token) (vs : List Value) where
  back_act : (act : EventAct) (tokens : List Token) (ws : List Value) (rest : List Token) → act_of t.kind ≡ Some act →
      IsAll free (symbol symbols.OpenRound ∷ event ∷ symbol symbols.CloseRound ∷ make (acting act) ∷ []) vs tokens ws rest → Gives (IsClosed free d) stmt (t ∷ tokens) vs ws rest
  back_act act _ _ _ a (cons _ _ _ _ _ _ _ _ (single u from o) (cons _ _ _ _ _ _ _ _ (event_is e _ x) (cons _ _ _ _ _ _ _ _ (single v rest c) (cons _ _ _ _ _ _ _ _ makes_it (nil _ _))))) =
      gives (trees.event act e) rest (shut (grammar.acting t u v act e d from rest a o x c) refl)

  back_compound : (ws : List Value) (rest : List Token) → IsWord reserved.Begin t → TokenOpens free d (t ∷ ts) → IsAll free (body_in (d + 1) (compound t.spot)) vs ts ws rest →
      Gives (IsClosed free d) stmt (t ∷ ts) vs ws rest
  back_compound ws rest w o x =
      let r = body_end free (d + 1) (make (compound t.spot) ∷ []) vs ws ts rest x in by_end r.ds r.ss r.u r.mid r.after r.declares r.reads r.closes ws rest r.second
    where
      by_end : (ds : PDecls) (ss : PStmts) (u : Token) (mid after : List Token) → IsDecls free (d + 1) ts ds mid → IsStmts free (d + 1) mid ss (u ∷ after) → IsWord reserved.End u →
          (ws : List Value) (rest : List Token) → IsAll free (make (compound t.spot) ∷ []) (list ss ∷ declared ds ∷ vs) after ws rest → Gives (IsClosed free d) stmt (t ∷ ts) vs ws rest
      by_end ds ss u mid after x y e _ _ (cons _ _ _ _ _ _ _ _ makes_it (nil _ _)) = gives (trees.block (trees.body t.spot ds ss)) after
          (shut (grammar.compound t u d (trees.body t.spot ds ss) ts after w o (grammar.declared (d + 1) t.spot ds ss ts mid (u ∷ after) x y) e) refl)

  back_if : (u : Token) (c : PExpr) (s : PStmt) (mid after : List Token) → IsWord reserved.If t → TokenOpens free d (t ∷ ts) → IsWholeExpression free 0 ts c (u ∷ mid) → IsWord reserved.Then u →
      IsClosed free (d + 1) mid s after → (ws : List Value) (rest : List Token) → IsArms free (d + 1) c s vs after ws rest → Gives (IsClosed free d) stmt (t ∷ ts) vs ws rest
  back_if u c s mid after w o x h y _ _ (without rest n) =
      gives (trees.if_then c s) rest (record { reads = grammar.one_armed t u c d s ts mid rest w o x h y.reads; closed = λ e. n })
  back_if u c s mid _ w o x h y _ _ (with_else v b from rest e z) = gives (trees.if_else c s b) rest
      (record { reads = grammar.two_armed t u v c d s b ts mid from rest w o x h y.reads (else_is s v from e y.closed) e z.reads; closed = z.closed })

  back_case : (u v : Token) (c : PExpr) (mid : List Token) → IsWord reserved.Case t → TokenOpens free d (t ∷ ts) → IsWholeExpression free 0 ts c (u ∷ v ∷ mid) → IsWord reserved.Of u → IsWord reserved.Begin v →
      (ws : List Value) (rest : List Token) → IsAll free (stmts_in (d + 1) choosing) (one c ∷ vs) mid ws rest → Gives (IsClosed free d) stmt (t ∷ ts) vs ws rest
  back_case u v c mid k o x h i ws rest y =
      let r = stmts_end free (d + 1) (make choosing ∷ []) (one c ∷ vs) ws mid rest y in by_end r.ss r.u r.mid r.reads r.closes ws rest r.second
    where
      by_end : (ss : PStmts) (w : Token) (after : List Token) → IsStmts free (d + 1) mid ss (w ∷ after) → IsWord reserved.End w → (ws : List Value) (rest : List Token) →
          IsAll free (make choosing ∷ []) (list ss ∷ one c ∷ vs) after ws rest → Gives (IsClosed free d) stmt (t ∷ ts) vs ws rest
      by_end ss w after y e _ _ (cons _ _ _ _ _ _ _ _ makes_it (nil _ _)) = gives (trees.case c ss) after (shut (grammar.choosing t u v w c d ss ts mid after k o x h i y e) refl)

  back_write : (tokens : List Token) (ws : List Value) (rest : List Token) → IsWord reserved.Write t → IsAll free write_due vs tokens ws rest →
      Gives (IsClosed free d) stmt (t ∷ tokens) vs ws rest
  back_write _ ws rest k
      (cons _ _ _ _ _ _ _ _ (single u _ a) (cons _ _ _ _ _ _ _ _ (gives n _ (one_name v _ _ b)) (cons _ _ _ _ _ _ _ _ (single w _ c)
      (cons _ _ _ _ _ _ _ _ (gives _ _ (less x from e)) (cons _ _ _ _ _ _ _ _ makes_it y))))) =
      let more = items_part ∷ symbol symbols.CloseRound ∷ make writing ∷ [] in
      let r = phrases_end free symbols.Greater more (place x.spot ∷ name_is n ∷ vs) ws from rest y in by_end r.ps r.u r.mid r.reads r.closes ws rest r.second
    where
      by_end : (ps : List PhraseText) (y : Token) (mid : List Token) → IsPhrases from ps (y ∷ mid) → IsSymbol symbols.Greater y → (ws : List Value) (rest : List Token) →
          IsAll free (items_part ∷ symbol symbols.CloseRound ∷ make writing ∷ []) (phrases ps ∷ place x.spot ∷ name_is n ∷ vs) mid ws rest →
          Gives (IsClosed free d) stmt (t ∷ u ∷ v ∷ w ∷ x ∷ from) vs ws rest
      by_end ps y mid f g _ _ (cons _ _ _ _ _ _ _ _ (gives es _ h) (cons _ _ _ _ _ _ _ _ (single z rest i) (cons _ _ _ _ _ _ _ _ makes_it (nil _ _)))) =
          gives (trees.write n x.spot ps es) rest (shut (grammar.writing t u v w x y z n ps es d from mid rest k a b c e f g h i) refl)

  -- FOR
  back_for : (u v : Token) (n : Named) (a : PExpr) (from mid : List Token) → IsWord reserved.For t → ts ≡ u ∷ v ∷ from → TokenOpens free d (t ∷ ts) → IsName n u → IsSymbol symbols.Becomes v →
      IsWholeExpression free 0 from a mid → (ws : List Value) (rest : List Token) →
      IsAll free (word reserved.Step ∷ whole 0 ∷ word reserved.Until ∷ whole 0 ∷ word reserved.Do ∷ statement (d + 1) ∷ make counting ∷ [])
      (one a ∷ name_is n ∷ vs) mid ws rest → Gives (IsClosed free d) stmt (t ∷ ts) vs ws rest
  back_for u v n a from _ f same o k e g _ _
      (cons _ _ _ _ _ _ _ _ (single w step h) (cons _ _ _ _ _ _ _ _ (gives b _ i) (cons _ _ _ _ _ _ _ _ (single x limit j) (cons _ _ _ _ _ _ _ _ (gives c _ l)
      (cons _ _ _ _ _ _ _ _ (single y mid m) (cons _ _ _ _ _ _ _ _ (gives s rest r) (cons _ _ _ _ _ _ _ _ makes_it (nil _ _)))))))) =
      subst (λ ts. Gives (IsClosed free d) stmt (t ∷ ts) vs (stmt (trees.for n a b c s) ∷ vs) rest) (sym same) (gives (trees.for n a b c s) rest (record {
        reads = grammar.counting t u v w x y n a b c d s from step limit mid rest f (subst (λ ts. TokenOpens free d (t ∷ ts)) same o) k e g h i j l m r.reads;
        closed = r.closed;
      }))

pub back_start : (free d : ℕ) (t : Token) (ts : List Token) (vs ws : List Value) (rest : List Token) (k : TokenKind) → t.kind ≡ k → (otherwise : Turn) →
    (Taken free otherwise t ts vs ws rest → ⊥) → Taken free (turn_start d t.spot k otherwise) t ts vs ws rest → Gives (IsClosed free d) stmt (t ∷ ts) vs ws rest
back_start free d t ts vs ws rest (kinds.Name name) k other never (cons _ _ _ _ _ _ _ _ f (nil _ _)) =
    regive (IsClosed free d) stmt (t ∷ ts) f (λ s. s) (λ s rest p. p t (record { name = k; place = refl })) (λ s. refl)
back_start free d t ts vs ws rest (kinds.Word reserved.Cause) k other never x = back_act free d t ts vs acts.Cause ts ws rest (ap act_of k) x
back_start free d t ts vs ws rest (kinds.Word reserved.CauseAndReset) k other never x = back_act free d t ts vs acts.CauseAndReset ts ws rest (ap act_of k) x
back_start free d t ts vs ws rest (kinds.Word reserved.Reset) k other never x = back_act free d t ts vs acts.Reset ts ws rest (ap act_of k) x
back_start free d t ts vs ws rest (kinds.Word reserved.Wait) k other never x = back_act free d t ts vs acts.Wait ts ws rest (ap act_of k) x
back_start free d t ts vs ws rest (kinds.Word reserved.Procure) k other never x = back_act free d t ts vs acts.Procure ts ws rest (ap act_of k) x
back_start free d t ts vs ws rest (kinds.Word reserved.Liberate) k other never x = back_act free d t ts vs acts.Liberate ts ws rest (ap act_of k) x
back_start free d t ts vs ws rest (kinds.Word reserved.Begin) k other never x = back_compound free d t ts vs ws rest k x.0 x.1
back_start free d t ts vs ws rest (kinds.Word reserved.If) k other never
    (o, cons _ _ _ _ _ _ _ _ (gives c _ x) (cons _ _ _ _ _ _ _ _ (single u mid h) (cons _ _ _ _ _ _ _ _ (gives s after y) (cons _ _ _ _ _ _ _ _ f (nil _ _))))) =
    back_if free d t ts vs u c s mid after k o x h y ws rest (f s c vs refl)
back_start free d t ts vs _ _ (kinds.Word reserved.While) k other never
    (o, cons _ _ _ _ _ _ _ _ (gives c _ x) (cons _ _ _ _ _ _ _ _ (single u mid h) (cons _ _ _ _ _ _ _ _ (gives s rest y) (cons _ _ _ _ _ _ _ _ makes_it (nil _ _))))) =
    gives (trees.while c s) rest (record { reads = grammar.looping t u c d s ts mid rest k o x h y.reads; closed = y.closed })
back_start free d t ts vs _ _ (kinds.Word reserved.Do) k other never
    (o, cons _ _ _ _ _ _ _ _ (gives s _ y) (cons _ _ _ _ _ _ _ _ (single u mid h) (cons _ _ _ _ _ _ _ _ (gives c rest x) (cons _ _ _ _ _ _ _ _ makes_it (nil _ _))))) =
    gives (trees.until s c) rest (shut (grammar.repeating t u c d s ts mid rest k o y.reads h x) refl)
back_start free d t _ vs ws rest (kinds.Word reserved.For) k other never
    (o, cons _ _ _ _ _ _ _ _ (gives n _ (one_name u _ _ i)) (cons _ _ _ _ _ _ _ _ (single v from e) (cons _ _ _ _ _ _ _ _ (gives a mid g) y))) =
    back_for free d t (u ∷ v ∷ from) vs u v n a from mid k refl o i e g ws rest y
back_start free d t ts vs _ _ (kinds.Word reserved.Thru) k other never
    (o, cons _ _ _ _ _ _ _ _ (gives c _ x) (cons _ _ _ _ _ _ _ _ (single u mid h) (cons _ _ _ _ _ _ _ _ (gives s rest y) (cons _ _ _ _ _ _ _ _ makes_it (nil _ _))))) =
    gives (trees.thru c s) rest (record { reads = grammar.so_often t u c d s ts mid rest k o x h y.reads; closed = y.closed })
back_start free d t ts vs ws rest (kinds.Word reserved.Case) k other never
    (o, cons _ _ _ _ _ _ _ _ (gives c _ x) (cons _ _ _ _ _ _ _ _ (single u _ h) (cons _ _ _ _ _ _ _ _ (single v mid i) y))) =
    back_case free d t ts vs u v c mid k o x h i ws rest y
back_start free d t ts vs _ _ (kinds.Word reserved.Go) k other never
    (cons _ _ _ _ _ _ _ _ (passed _ x) (cons _ _ _ _ _ _ _ _ (gives n _ (one_name u _ rest i)) (cons _ _ _ _ _ _ _ _ makes_it (nil _ _)))) =
    gives (trees.go_to n) rest (shut (grammar.going t u n d ts rest k x i) refl)
back_start free d t _ vs _ _ (kinds.Word reserved.Process) k other never
    (cons _ _ _ _ _ _ _ _ (gives n _ (one_name u _ from i)) (cons _ _ _ _ _ _ _ _ (gives es mid x) (cons _ _ _ _ _ _ _ _ (gives task rest y) (cons _ _ _ _ _ _ _ _ makes_it (nil _ _))))) =
    gives (trees.process (called n es) task) rest (shut (grammar.processing t u n es task d from mid rest k i x y) refl)
back_start free d t ts vs ws rest (kinds.Word reserved.Write) k other never x = back_write free d t ts vs ts ws rest k x
back_start free d t ts vs ws rest k e other never x = absurd (never x)

-- after the name that it begins with

pub back_behind : (free : ℕ) (n : Named) (d : ℕ) (t : Token) (ts : List Token) (vs ws : List Value) (rest : List Token) (k : TokenKind) → t.kind ≡ k →
    Taken free (turn_behind_start n d k) t ts vs ws rest → IsDue free (behind_start n d) vs (t ∷ ts) ws rest
back_behind free n d t ts vs _ _ (kinds.Symbol symbols.Colon) c (o, cons _ _ _ _ _ _ _ _ (gives s rest y) (cons _ _ _ _ _ _ _ _ makes_it (nil _ _))) =
    gives (trees.label n s) rest (λ u k. record { reads = grammar.labelled u t n d s ts rest k c (o u) y.reads; closed = y.closed })
back_behind free n d t ts vs _ _ (kinds.Symbol symbols.Becomes) c (cons _ _ _ _ _ _ _ _ (gives e rest y) (cons _ _ _ _ _ _ _ _ makes_it (nil _ _))) =
    gives (trees.assign (subscripted n none) e) rest (λ u k. shut (grammar.assignment u t n none e d (t ∷ ts) ts rest k (grammar.nothing (t ∷ ts)) c y) refl)
back_behind free n d t ts vs ws rest (kinds.Symbol symbols.OpenSquare) o x =
    let more = symbol symbols.Becomes ∷ whole 0 ∷ make (assigned_element n) ∷ [] in
    let r = wholes_end free symbols.CloseSquare more vs ws ts rest x in by_end r.es r.u r.mid r.reads r.closes ws rest r.second
  where
    by_end : (es : PExprs) (v : Token) (mid : List Token) → IsWholes free ts es (v ∷ mid) → IsSymbol symbols.CloseSquare v → (ws : List Value) (rest : List Token) →
        IsAll free (symbol symbols.Becomes ∷ whole 0 ∷ make (assigned_element n) ∷ []) (many es ∷ vs) mid ws rest → IsDue free (behind_start n d) vs (t ∷ ts) ws rest
    by_end es v _ y s _ _ (cons _ _ _ _ _ _ _ _ (single u after c) (cons _ _ _ _ _ _ _ _ (gives e rest x) (cons _ _ _ _ _ _ _ _ makes_it (nil _ _)))) =
        gives (trees.assign (subscripted n es) e) rest
        (λ w k. shut (grammar.assignment w u n es e d (t ∷ ts) after rest k (grammar.subscripts t v es ts (u ∷ after) o y s) c x) refl)
back_behind free n d t ts vs ws rest (kinds.Symbol symbols.OpenRound) o x =
    let r = wholes_end free symbols.CloseRound (make (calling n) ∷ []) vs ws ts rest x in by_end r.es r.u r.mid r.reads r.closes ws rest r.second
  where
    by_end : (es : PExprs) (v : Token) (mid : List Token) → IsWholes free ts es (v ∷ mid) → IsSymbol symbols.CloseRound v → (ws : List Value) (rest : List Token) →
        IsAll free (make (calling n) ∷ []) (many es ∷ vs) mid ws rest → IsDue free (behind_start n d) vs (t ∷ ts) ws rest
    by_end es v mid y s _ _ (cons _ _ _ _ _ _ _ _ makes_it (nil _ _)) =
        gives (trees.call_of (called n es)) mid (λ w k. shut (grammar.calling w n es d (t ∷ ts) mid k (grammar.actuals t v es ts mid o y s)) refl)
back_behind free n d t ts vs ws rest k e x = absurd x

pub only_name : (free : ℕ) (n : Named) (d : ℕ) (vs : List Value) (from : List Token) → IsDue free (behind_start n d) vs from (stmt (trees.call_of (called n none)) ∷ vs) from
only_name free n d vs from = gives (trees.call_of (called n none)) from (λ t k. shut (grammar.calling t n none d from from k (grammar.nothing from)) refl)
