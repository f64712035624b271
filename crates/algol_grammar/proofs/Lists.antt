-- Lists of expressions that stand in no other, and what is made of them, are read as the grammar has them.
use Rattle.std.proofs.Common.{◌≡◌, ℕ, List, [], ◌∷◌, ◌++◌, Option, None, refl, ap, ◌∙◌, append_assoc}
use Rattle.algol_tree.specs.declared.token.Token.{Token}
use Rattle.algol_tree.specs.declared.token.Symbol.TheVariants as symbols
use Rattle.algol_tree.specs.declared.tree.Kind.{Kind}
use Rattle.algol_tree.specs.declared.tree.Named.{Named}
use Rattle.algol_tree.specs.declared.tree.PhraseText.{PhraseText}
use Rattle.algol_tree.specs.Plain as trees
use Rattle.algol_tree.specs.Plain.{PExpr, PExprs, none, more, PPair, PDecl, PDecls, no_decls, decls}
use Rattle.algol_tree.specs.Tokens.{IsSymbol, is_symbol}
use Rattle.algol_tree.specs.Ends.{part_ends, Ends}
use Rattle.algol_tree.specs.Operators.{expr}
use Rattle.algol_tree.specs.Expressions.{IsWholeExpression}
use Rattle.algol_tree.specs.Statements as grammar
use Rattle.algol_tree.specs.Statements.{phrase_of, IsWholes, IsActuals, IsItems, IsTaskPart, IsPhrases, IsPair, IsPairs, IsSegments, decls_and}
use Rattle.algol_tree.specs.Due.{Value, one, many, pairs, phrases, declared, task, Due, make, symbol, whole, wholes_more, actuals_part, items_part, pairs_more, segments_more, task_part, phrase, phrases_more, skips, refuses, optional}
use Rattle.algol_tree.specs.DueExpr.{list_made, behind, all_of}
use Rattle.algol_tree.specs.DueStmt.{decl_behind, wholes_in, pair_in, pair_added, segment_in, rows_declared, phrase_added, with_task}
use Rattle.algol_tree.specs.Reading.{read}
use Rattle.algol_expr.proofs.Reading.{Leads}
use Rattle.algol_expr.proofs.Turns.{read_nothing, takes_step, make_step, symbol_step, symbol_is}
use Rattle.algol_expr.proofs.Complete.{part_read, all_of_behind, behind_all_of}
use Rattle.algol_expr.proofs.Lift.{whole_found}
use Rattle.algol_grammar.proofs.Optional.{NotFirst, left_out, put_out, gone_on}
use Rattle.algol_grammar.proofs.Headings.{named_read, names_read, literal_read}

pub whole_read : (free : ℕ) (from : List Token) (e : PExpr) (rest : List Token) → IsWholeExpression free 0 from e rest → Ends expr rest → Leads free (whole 0) from (one e) rest
whole_read free from e rest x end = λ due vs.
    whole_found free 0 from vs rest (one e ∷ vs) (part_read free expr 0 from e rest x.reads end [] vs ∙ read_nothing free rest (one e ∷ vs)) x.short due

wholes_on : (free : ℕ) (from : List Token) (es : PExprs) (rest : List Token) → IsWholes free from es rest → Ends expr rest → NotFirst (is_symbol symbols.Comma) rest →
    (acc : PExprs) (due : List Due) (vs : List Value) → read free from (whole 0 ∷ make list_made ∷ wholes_more ∷ due) (many acc ∷ vs) ≡ read free rest due (many (all_of acc es) ∷ vs)
wholes_on free _ _ rest (grammar.one e from _ x) end comma acc due vs =
    whole_read free from e rest x end _ _
    ∙ make_step free rest list_made _ _
    ∙ left_out free wholes_more (is_symbol symbols.Comma) _ (λ spot k. refl) refl rest comma due _
    ∙ ap (λ es. read free rest due (many es ∷ vs)) (behind_all_of acc e)
wholes_on free _ _ rest (grammar.comma t e es from after _ x c y) end comma acc due vs =
    whole_read free from e (t ∷ after) x (ap (part_ends expr) c) _ _
    ∙ make_step free (t ∷ after) list_made _ _
    ∙ gone_on free wholes_more (is_symbol symbols.Comma) _ skips (λ spot k. refl) t after (symbol_is t symbols.Comma c) due _
    ∙ wholes_on free after es rest y end comma (behind acc e) due vs
    ∙ ap (λ es. read free rest due (many es ∷ vs)) (all_of_behind acc e es)

pub wholes_read : (free : ℕ) (from : List Token) (es : PExprs) (rest : List Token) → IsWholes free from es rest → Ends expr rest → NotFirst (is_symbol symbols.Comma) rest →
    (due : List Due) (vs : List Value) → read free from (wholes_in ++ due) vs ≡ read free rest due (many es ∷ vs)
wholes_read free from es rest x end comma due vs = make_step free from _ _ vs ∙ wholes_on free from es rest x end comma none due vs

pub actuals_read : (free : ℕ) (from : List Token) (es : PExprs) (rest : List Token) → IsActuals free from es rest → NotFirst (is_symbol symbols.OpenRound) rest →
    (due : List Due) (vs : List Value) → read free from (actuals_part ∷ due) vs ≡ read free rest due (many es ∷ vs)
actuals_read free _ _ rest (grammar.nothing _) end due vs = put_out free actuals_part (is_symbol symbols.OpenRound) _ (many none) (λ spot k. refl) refl rest end due vs
actuals_read free _ _ rest (grammar.actuals t u es from _ o x c) end due vs =
    gone_on free actuals_part (is_symbol symbols.OpenRound) _ _ (λ spot k. refl) t from (symbol_is t symbols.OpenRound o) due vs
    ∙ wholes_read free from es (u ∷ rest) x (ap (part_ends expr) c) (ap (is_symbol symbols.Comma) c) _ vs
    ∙ symbol_step free u rest symbols.CloseRound due _ c

-- items and the parenthesis after them
pub items_read : (free : ℕ) (from : List Token) (es : PExprs) (z : Token) (rest : List Token) → IsItems free from es (z ∷ rest) → IsSymbol symbols.CloseRound z →
    (due : List Due) (vs : List Value) → read free from (items_part ∷ symbol symbols.CloseRound ∷ due) vs ≡ read free rest due (many es ∷ vs)
items_read free _ _ z rest (grammar.nothing _) c due vs =
    put_out free items_part (is_symbol symbols.Comma) _ (many none) (λ spot k. refl) refl (z ∷ rest) (ap (is_symbol symbols.Comma) c) _ vs
    ∙ symbol_step free z rest symbols.CloseRound due _ c
items_read free _ _ z rest (grammar.items t es from _ k x) c due vs =
    gone_on free items_part (is_symbol symbols.Comma) _ _ (λ spot k. refl) t from (symbol_is t symbols.Comma k) _ vs
    ∙ wholes_read free from es (z ∷ rest) x (ap (part_ends expr) c) (ap (is_symbol symbols.Comma) c) _ vs
    ∙ symbol_step free z rest symbols.CloseRound due _ c

pub task_read : (free : ℕ) (from : List Token) (t : Option Named) (rest : List Token) → IsTaskPart from t rest → NotFirst (is_symbol symbols.OpenSquare) rest →
    (due : List Due) (vs : List Value) → read free from (task_part ∷ due) vs ≡ read free rest due (task t ∷ vs)
task_read free _ _ rest (grammar.nothing _) end due vs = put_out free task_part (is_symbol symbols.OpenSquare) _ (task None) (λ spot k. refl) refl rest end due vs
task_read free _ _ rest (grammar.task t u v n _ o k c) end due vs =
    gone_on free task_part (is_symbol symbols.OpenSquare) _ _ (λ spot k. refl) t (u ∷ v ∷ rest) (symbol_is t symbols.OpenSquare o) due vs
    ∙ named_read free u n (v ∷ rest) k _ vs
    ∙ make_step free (v ∷ rest) with_task _ _
    ∙ symbol_step free v rest symbols.CloseSquare due _ c

-- phrases after others
pub phrases_on : (free : ℕ) (from : List Token) (ps : List PhraseText) (rest : List Token) → IsPhrases from ps rest → NotFirst (is_symbol symbols.Comma) rest →
    (acc : List PhraseText) (due : List Due) (vs : List Value) → read free from (phrase ∷ phrases_more ∷ due) (phrases acc ∷ vs) ≡ read free rest due (phrases (acc ++ ps) ∷ vs)
phrases_on free _ _ rest (grammar.last t p _ k) end acc due vs =
    takes_step free t rest phrase _ _ _ (ap (λ o. optional o (λ p. make (phrase_added p) ∷ []) refuses) k)
    ∙ make_step free rest _ _ _
    ∙ left_out free phrases_more (is_symbol symbols.Comma) _ (λ spot k. refl) refl rest end due _
phrases_on free _ _ rest (grammar.comma t u p ps from _ k c x) end acc due vs =
    takes_step free t (u ∷ from) phrase _ _ _ (ap (λ o. optional o (λ p. make (phrase_added p) ∷ []) refuses) k)
    ∙ make_step free (u ∷ from) _ _ _
    ∙ gone_on free phrases_more (is_symbol symbols.Comma) _ skips (λ spot k. refl) u from (symbol_is u symbols.Comma c) due _
    ∙ phrases_on free from ps rest x end (acc ++ p ∷ []) due vs
    ∙ ap (λ ps. read free rest due (phrases ps ∷ vs)) (append_assoc acc (p ∷ []) ps)

-- a pair after others
pair_read : (free : ℕ) (from : List Token) (p : PPair) (rest : List Token) → IsPair free from p rest → Ends expr rest → (acc : List PPair) (due : List Due) (vs : List Value) →
    read free from (pair_in ++ due) (pairs acc ∷ vs) ≡ read free rest due (pairs (acc ++ p ∷ []) ∷ vs)
pair_read free _ _ rest (grammar.pair t l high from after _ x c y) end acc due vs =
    literal_read free from l (t ∷ after) x _ _
    ∙ symbol_step free t after symbols.Colon _ _ c
    ∙ whole_read free after high rest y end _ _
    ∙ make_step free rest pair_added due _

-- pair [ "," pair ] "]"
pairs_read : (free : ℕ) (from : List Token) (ps : List PPair) (v : Token) (rest : List Token) → IsPairs free from ps (v ∷ rest) → IsSymbol symbols.CloseSquare v →
    (due : List Due) (vs : List Value) → read free from (pair_in ++ pairs_more ∷ symbol symbols.CloseSquare ∷ due) (pairs [] ∷ vs) ≡ read free rest due (pairs ps ∷ vs)
pairs_read free _ _ v rest (grammar.one p from _ x) c due vs =
    pair_read free from p (v ∷ rest) x (ap (part_ends expr) c) [] _ vs
    ∙ left_out free pairs_more (is_symbol symbols.Comma) _ (λ spot k. refl) refl (v ∷ rest) (ap (is_symbol symbols.Comma) c) _ _
    ∙ symbol_step free v rest symbols.CloseSquare due _ c
pairs_read free _ _ v rest (grammar.two t p q from after _ x k y) c due vs =
    pair_read free from p (t ∷ after) x (ap (part_ends expr) k) [] _ vs
    ∙ gone_on free pairs_more (is_symbol symbols.Comma) _ skips (λ spot k. refl) t after (symbol_is t symbols.Comma k) _ _
    ∙ pair_read free after q (v ∷ rest) y (ap (part_ends expr) c) (p ∷ []) _ vs
    ∙ symbol_step free v rest symbols.CloseSquare due _ c

pub decls_behind : (acc : PDecls) (d : PDecl) (ds : PDecls) → decls_and (decl_behind acc d) ds ≡ decls_and acc (decls d ds)
decls_behind no_decls d ds = refl
decls_behind (decls x acc) d ds = ap (decls x) (decls_behind acc d ds)

pub behind_decls : (acc : PDecls) (d : PDecl) → decl_behind acc d ≡ decls_and acc (decls d no_decls)
behind_decls no_decls d = refl
behind_decls (decls x acc) d = ap (decls x) (behind_decls acc d)

-- segments after other declarations
pub segments_on : (free : ℕ) (kind : Kind) (from : List Token) (ds : PDecls) (rest : List Token) → IsSegments free kind from ds rest → NotFirst (is_symbol symbols.Comma) rest →
    (acc : PDecls) (due : List Due) (vs : List Value) → read free from (segment_in kind ++ due) (declared acc ∷ vs) ≡ read free rest due (declared (decls_and acc ds) ∷ vs)
segments_on free _ from _ rest (grammar.last kind u v ns ps _ mid _ x a y b) end acc due vs =
    names_read free from ns (u ∷ mid) x (ap (is_symbol symbols.Comma) a) _ _
    ∙ symbol_step free u mid symbols.OpenSquare _ _ a
    ∙ make_step free mid _ _ _
    ∙ pairs_read free mid ps v rest y b _ _
    ∙ make_step free rest (rows_declared kind) _ _
    ∙ left_out free (segments_more kind) (is_symbol symbols.Comma) _ (λ spot k. refl) refl rest end due _
    ∙ ap (λ ds. read free rest due (declared ds ∷ vs)) (behind_decls acc (trees.arrays kind ns ps))
segments_on free _ from _ rest (grammar.comma kind u v w ns ps ds _ mid after _ x a y b c z) end acc due vs =
    names_read free from ns (u ∷ mid) x (ap (is_symbol symbols.Comma) a) _ _
    ∙ symbol_step free u mid symbols.OpenSquare _ _ a
    ∙ make_step free mid _ _ _
    ∙ pairs_read free mid ps v (w ∷ after) y b _ _
    ∙ make_step free (w ∷ after) (rows_declared kind) _ _
    ∙ gone_on free (segments_more kind) (is_symbol symbols.Comma) _ skips (λ spot k. refl) w after (symbol_is w symbols.Comma c) due _
    ∙ segments_on free kind after ds rest z end (decl_behind acc (trees.arrays kind ns ps)) due vs
    ∙ ap (λ ds. read free rest due (declared ds ∷ vs)) (decls_behind acc (trees.arrays kind ns ps) ds)
