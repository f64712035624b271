-- Lists of expressions, and the measure of the readers.
use Rattle.std.proofs.Common.{◌≡◌, ◌≤◌, ℕ, List, [], ◌∷◌, ◌++◌, length, refl, sym, subst, ap, ◌∙◌, map, true, false, arith}
use Rattle.algol_tree.specs.Ended.{EndsOnce}
use Rattle.algol_tree.specs.Tokens.{is_symbol}
use Rattle.algol_tree.specs.Operators.{expr}
use Rattle.algol_tree.specs.Due.{one, many, make, symbol, part, exprs_more, plain, takes, skips, either}
use Rattle.algol_tree.specs.DueExpr as due_expr
use Rattle.algol_tree.specs.DueExpr.{behind, list_in}
use Rattle.algol_tree.specs.Reading.{read}
use Rattle.algol_tree.specs.Found.{TokenPasses, ReaderFinds, Fails, Lists}
use Rattle.algol_tree.specs.declared.token.Token.{Token}
use Rattle.algol_tree.specs.declared.token.Symbol.{Symbol}
use Rattle.algol_tree.specs.declared.tree.Expr.{Expr}
use Rattle.algol_tree.specs.Plain.{PExpr, none, more}
use Rattle.algol_tree.specs.Image as image
use Rattle.algol_tree.specs.Image.{listed_exprs as listed, exprs as plain_list}
use Rattle.std.proofs.lemmas.List.{map-append}
use Rattle.algol_tree.specs.declared.token.TokenKind.TheVariants as kinds
use Rattle.algol_tree.specs.declared.token.Symbol.TheVariants as symbols
use Rattle.algol_tree.specs.declared.refusal.Refusal.{Refusal}
use Rattle.algol_expr.proofs.Turns.{symbol_from}
use Rattle.algol_expr.proofs.Chain.{Reaches, via, past, making, turning, failing, takes_first, skips_first, from_tokens, behind_first}

-- Reading the list from `tokens` is reading it from `rest` with the items found.
pub record GoesOn (d : ℕ) (closing : Symbol) (tokens : List Token) (items : List Expr) (rest : List Token) : Type 0 where
  pub run : Reaches (list_in d closing) (many none ∷ []) tokens (list_in d closing) (many (plain_list items) ∷ []) rest
  pub ended : EndsOnce rest
  pub no_longer : length rest ≤ length tokens

pub listed_snoc : (es : List PExpr) (e : PExpr) → behind (listed es) e ≡ listed (es ++ e ∷ [])
listed_snoc [] e = refl
listed_snoc (x ∷ es) e = ap (more x) (listed_snoc es e)

-- one item more
pub one_more : (found new : List Expr) (item : Expr) → new ≡ found ++ item ∷ [] → behind (plain_list found) (image.expr item) ≡ plain_list new
one_more found new item e = listed_snoc (map image.expr found) (image.expr item) ∙ ap listed (sym (map-append image.expr found (item ∷ []))) ∙ ap plain_list (sym e)

-- an item and what is due after it
item_read : (d : ℕ) (closing : Symbol) (tokens rest after : List Token) (found new : List Expr) (item : Expr) → new ≡ found ++ item ∷ [] →
    GoesOn d closing tokens found rest → ReaderFinds (part expr d) rest (one (image.expr item)) after →
    Reaches (list_in d closing) (many none ∷ []) tokens (exprs_more d ∷ symbol closing ∷ []) (many (plain_list new) ∷ []) after
item_read d closing tokens rest after found new item e g f =
    making (via g.run f) (λ vs. ap (λ es. many es ∷ vs) (one_more found new item e))

pub list_begins : (d : ℕ) (closing : Symbol) (tokens : List Token) (items : List Expr) → items ≡ [] → EndsOnce tokens → GoesOn d closing tokens items tokens
list_begins d closing tokens items e ended = record {
  run = record { run = λ due vs. ap (λ x. read 0 tokens (list_in d closing ++ due) (many (plain_list x) ∷ vs)) (sym e) };
  ended = ended;
  no_longer = omega arith;
}

pub list_goes_on : (d : ℕ) (closing : Symbol) (tokens rest after : List Token) (t : Token) (ts : List Token) (found new : List Expr) (item : Expr) →
    new ≡ found ++ item ∷ [] → GoesOn d closing tokens found rest → ReaderFinds (part expr d) rest (one (image.expr item)) after → after ≡ t ∷ ts →
    is_symbol symbols.Comma t.kind ≡ true → GoesOn d closing tokens new ts
list_goes_on d closing tokens rest after t ts found new item e g f is comma =
    let b = behind_first t ts (subst EndsOnce is f.behind.ended) (λ q. let no : kinds.Symbol symbols.Comma ≡ kinds.End = sym (symbol_from t.kind symbols.Comma comma) ∙ q in cc) in
    record {
      run = turning (item_read d closing tokens rest after found new item e g f)
          (from_tokens is (takes_first t ts (exprs_more d) (part expr d ∷ make due_expr.list_made ∷ exprs_more d ∷ [])
          (ap (λ b. either b (takes plain (part expr d ∷ make due_expr.list_made ∷ exprs_more d ∷ [])) skips) comma)));
      ended = b.ended;
      no_longer = omega (arith, f.behind.shorter, g.no_longer, ap length is);
    }

-- the list is over where no comma follows
list_over : (d : ℕ) (closing : Symbol) (tokens rest after : List Token) (t : Token) (ts : List Token) (found new : List Expr) (item : Expr) →
    new ≡ found ++ item ∷ [] → GoesOn d closing tokens found rest → ReaderFinds (part expr d) rest (one (image.expr item)) after → after ≡ t ∷ ts →
    is_symbol symbols.Comma t.kind ≡ false → Reaches (list_in d closing) (many none ∷ []) tokens (symbol closing ∷ []) (many (plain_list new) ∷ []) after
list_over d closing tokens rest after t ts found new item e g f is comma =
    turning (item_read d closing tokens rest after found new item e g f)
    (subst (λ x. Reaches (exprs_more d ∷ []) [] x [] [] x) (sym is) (skips_first t ts (exprs_more d)
    (ap (λ b. either b (takes plain (part expr d ∷ make due_expr.list_made ∷ exprs_more d ∷ [])) skips) comma)))

pub list_done : (d : ℕ) (closing : Symbol) (tokens rest after end : List Token) (t : Token) (ts : List Token) (found new : List Expr) (item : Expr) →
    new ≡ found ++ item ∷ [] → GoesOn d closing tokens found rest → ReaderFinds (part expr d) rest (one (image.expr item)) after → after ≡ t ∷ ts →
    is_symbol symbols.Comma t.kind ≡ false → TokenPasses (symbol closing) after end → Lists (list_in d closing) tokens (many none) (many (plain_list new)) end
list_done d closing tokens rest after end t ts found new item e g f is comma p = record {
  run = λ due vs. (past (list_over d closing tokens rest after t ts found new item e g f is comma) p).run due vs;
  behind = record { ended = p.behind.ended; shorter = omega (arith, p.behind.shorter, f.behind.shorter, g.no_longer) };
}

pub list_fails_item : (d : ℕ) (closing : Symbol) (tokens rest : List Token) (found : List Expr) (left : ℕ) (e : Refusal) → GoesOn d closing tokens found rest →
    Fails (part expr d ∷ []) [] rest left e → Fails (list_in d closing) (many none ∷ []) tokens left e
list_fails_item d closing tokens rest found left e g f = failing g.run f

pub list_fails_closing : (d : ℕ) (closing : Symbol) (tokens rest after : List Token) (t : Token) (ts : List Token) (found new : List Expr) (item : Expr) (left : ℕ) (e : Refusal) →
    new ≡ found ++ item ∷ [] → GoesOn d closing tokens found rest → ReaderFinds (part expr d) rest (one (image.expr item)) after → after ≡ t ∷ ts →
    is_symbol symbols.Comma t.kind ≡ false → Fails (symbol closing ∷ []) [] after left e → Fails (list_in d closing) (many none ∷ []) tokens left e
list_fails_closing d closing tokens rest after t ts found new item left e is g f at comma p = failing (list_over d closing tokens rest after t ts found new item is g f at comma) p
