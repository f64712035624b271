-- Lists that readers go through item by item.
use Rattle.std.proofs.Common.{◌≡◌, ◌≤◌, ℤ, List, [], ◌∷◌, ◌++◌, length, map, refl, sym, subst, ap, ◌∙◌, true, arith}
use Rattle.std.proofs.lemmas.List.{map-append}
use Rattle.algol_tree.specs.declared.token.Token.{Token}
use Rattle.algol_tree.specs.declared.refusal.Refusal.{Refusal}
use Rattle.algol_tree.specs.declared.token.Symbol.{Symbol}
use Rattle.algol_tree.specs.Ended.{EndsOnce}
use Rattle.algol_tree.specs.Tokens.{is_symbol}
use Rattle.algol_tree.specs.declared.tree.Stmt.{Stmt}
use Rattle.algol_tree.specs.declared.tree.Decl.{Decl}
use Rattle.algol_tree.specs.Plain.{PExpr, PPair, PStmt, stmts, PDecl, decls}
use Rattle.algol_tree.specs.DueStmt.{stmt_behind, decl_behind}
use Rattle.algol_tree.specs.DueExpr.{behind}
use Rattle.algol_tree.specs.Image as image
use Rattle.algol_tree.specs.Image.{listed_decls}
use Rattle.algol_tree.specs.Due.{Value, Due, plain, takes, skips}
use Rattle.algol_tree.specs.Found.{IsRest, Extends, ReaderRefuses}
use Rattle.algol_tree.specs.Reading.{reading_turn, read}
use Rattle.algol_expr.proofs.Chain.{Reaches}
use Rattle.algol_part.specs.Brings.{Repeats}
use Rattle.algol_part.proofs.Chains.{then, takes_all, skips_it, behind_symbol}

-- From these tokens the reader has come to `rest`, where `loop` is due and this value is made.
pub record GoesOn (from : List Due) (us : List Value) (tokens : List Token) (loop : List Due) (v : Value) (rest : List Token) : Type 0 where
  pub run : Reaches from us tokens loop (v ∷ []) rest
  pub ended : EndsOnce rest
  pub no_longer : length rest ≤ length tokens

pub goes_on : {from : List Due} {us : List Value} {tokens : List Token} {loop : List Due} {v : Value} → Reaches from us tokens loop (v ∷ []) tokens → EndsOnce tokens →
    GoesOn from us tokens loop v tokens
goes_on r e = record { run = r; ended = e; no_longer = omega arith }

-- an item, and what follows it
module _ {from : List Due} {us : List Value} {tokens : List Token} {loop : List Due} {v w : Value} {rest after : List Token} {s : Due}
    (g : GoesOn from us tokens loop v rest) (r : Reaches from us tokens (s ∷ []) (w ∷ []) after) (b : IsRest rest after)
    {t : Token} {ts : List Token} (is : after ≡ t ∷ ts) where
  -- a separator
  pub another : (sign : Symbol) → is_symbol sign t.kind ≡ true → reading_turn s t.spot t.kind ≡ takes plain loop → GoesOn from us tokens loop w ts
  another sign e q =
      let c = behind_symbol is sign b.ended e in
      record { run = then r (takes_all is s loop q); ended = c.ended; no_longer = omega (arith, g.no_longer, b.shorter, c.shorter) }

  pub the_last : reading_turn s t.spot t.kind ≡ skips → Reaches from us tokens [] (w ∷ []) after
  the_last q = then r (skips_it is s q)

  pub whole_list : IsRest tokens after
  whole_list = record { ended = b.ended; shorter = omega (arith, g.no_longer, b.shorter) }

-- one declaration more
decls_snoc : (ds : List PDecl) (d : PDecl) → decl_behind (listed_decls ds) d ≡ listed_decls (ds ++ d ∷ [])
decls_snoc [] d = refl
decls_snoc (x ∷ ds) d = ap (decls x) (decls_snoc ds d)

pub one_decl : (found new : List Decl) (d : Decl) → new ≡ found ++ d ∷ [] → decl_behind (image.decls found) (image.decl d) ≡ image.decls new
one_decl found new d e = decls_snoc (map image.decl found) (image.decl d) ∙ ap listed_decls (sym (map-append image.decl found (d ∷ []))) ∙ ap image.decls (sym e)

-- one statement more
stmts_snoc : (ss : List PStmt) (s : PStmt) → stmt_behind (image.statements_listed ss) s ≡ image.statements_listed (ss ++ s ∷ [])
stmts_snoc [] s = refl
stmts_snoc (x ∷ ss) s = ap (stmts x) (stmts_snoc ss s)

pub one_stmt : (found new : List Stmt) (s : Stmt) → new ≡ found ++ s ∷ [] → stmt_behind (image.stmts found) (image.stmt s) ≡ image.stmts new
one_stmt found new s e = stmts_snoc (map image.stmt found) (image.stmt s) ∙ ap image.statements_listed (sym (map-append image.stmt found (s ∷ []))) ∙ ap image.stmts (sym e)

-- one item, and two
pub one_item : {A : Type 0} (start first : List A) (x : A) → start ≡ [] → first ≡ start ++ x ∷ [] → first ≡ x ∷ []
one_item start first x p q = q ∙ ap (λ xs. xs ++ x ∷ []) p

pub two_items : {A : Type 0} (first second : List A) (x y : A) → first ≡ x ∷ [] → second ≡ first ++ y ∷ [] → second ≡ x ∷ y ∷ []
two_items first second x y p q = q ∙ ap (λ xs. xs ++ y ∷ []) p

-- the same, where the item is known by another name
pub one_item_as : {A : Type 0} (start first : List A) (x z : A) → start ≡ [] → first ≡ start ++ z ∷ [] → z ≡ x → first ≡ x ∷ []
one_item_as start first x z p q r = one_item start first z p q ∙ ap (λ y. y ∷ []) r

pub two_items_as : {A : Type 0} (first second : List A) (x y z : A) → first ≡ x ∷ [] → second ≡ first ++ z ∷ [] → z ≡ y → second ≡ x ∷ y ∷ []
two_items_as first second x y z p q r = two_items first second x z p q ∙ ap (λ u. x ∷ u ∷ []) r

abbrev pair_of : PExpr → ℤ → PPair
pair_of high z = record { low = z; high = high }

pub pair_as : {p : PPair} {low z : ℤ} {high : PExpr} → p ≡ record { low = z; high = high } → z ≡ low → p ≡ record { low = low; high = high }
pair_as {low = low} {high = high} e r = e ∙ ap (pair_of high) r

-- declarations go on

module _ {from : List Due} {us : List Value} {tokens : List Token} {s : Due} {v : Value} {rest : List Token} where
  pub goes_to : {w : Value} {after : List Token} → GoesOn from us tokens (s ∷ []) v rest → Reaches from us tokens (s ∷ []) (w ∷ []) after → IsRest rest after →
      GoesOn from us tokens (s ∷ []) w after
  goes_to g r b = record { run = r; ended = b.ended; no_longer = omega (arith, g.no_longer, b.shorter) }

  pub goes_as : {w : Value} {other after : List Token} → GoesOn from us tokens (s ∷ []) v rest → rest ≡ other → Repeats s other v w after → GoesOn from us tokens (s ∷ []) w after
  goes_as g is p = record {
    run = record { run = λ due vs. g.run.run due vs ∙ ap (λ x. read 0 x (s ∷ due) (v ∷ vs)) is ∙ p.run due vs };
    ended = p.behind.ended;
    no_longer = omega (arith, g.no_longer, p.behind.shorter, ap length is);
  }

  pub refused_as_other : {other : List Token} {e : Refusal} → GoesOn from us tokens (s ∷ []) v rest → rest ≡ other → ReaderRefuses (s ∷ []) (v ∷ []) other e → ReaderRefuses from us tokens e
  refused_as_other g is p = record {
    left = p.left;
    fails = record { run = λ spot code q due vs. g.run.run due vs ∙ ap (λ x. read 0 x (s ∷ due) (v ∷ vs)) is ∙ p.fails.run spot code q due vs };
  }

pub extends_all : {s : Due} {left v w : Value} {tokens rest : List Token} {t : Token} {ts : List Token} → GoesOn (s ∷ []) (left ∷ []) tokens (s ∷ []) v rest → rest ≡ t ∷ ts →
    reading_turn s t.spot t.kind ≡ skips → w ≡ v → Extends s tokens left w rest
extends_all {s = s} {left = left} {v = v} {tokens = tokens} {rest = rest} g is q e = subst (λ x. Extends s tokens left x rest) (sym e) (record {
  run = λ due vs. (then g.run (skips_it is s {ds = []} {us = v ∷ []} q)).run due vs;
  ended = g.ended;
  no_longer = g.no_longer;
})
