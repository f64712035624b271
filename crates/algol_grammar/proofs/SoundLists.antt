-- What is read of expressions in lists, of bounds, of formats and of tasks is of the grammar.
use Rattle.std.proofs.Common.{◌≡◌, ℕ, Bool, true, false, List, [], ◌∷◌, ◌++◌, Option, Some, None, refl, sym, subst, ap, ◌∙◌, append_assoc}
use Rattle.std.proofs.lemmas.List.{append-nil}
use Rattle.algol_tree.specs.declared.token.Token.{Token}
use Rattle.algol_tree.specs.declared.token.Reserved.TheVariants as reserved
use Rattle.algol_tree.specs.declared.token.Symbol.{Symbol}
use Rattle.algol_tree.specs.declared.token.Symbol.TheVariants as symbols
use Rattle.algol_tree.specs.declared.tree.Named.{Named}
use Rattle.algol_tree.specs.declared.tree.Kind.{Kind}
use Rattle.algol_tree.specs.declared.tree.PhraseText.{PhraseText}
use Rattle.algol_tree.specs.Plain as trees
use Rattle.algol_tree.specs.Plain.{PExpr, PExprs, none, more, PPair, PDecl, PDecls, no_decls, decls}
use Rattle.algol_tree.specs.Tokens.{IsSymbol, is_word, is_symbol}
use Rattle.algol_tree.specs.Headings.{IsNames}
use Rattle.algol_tree.specs.Statements as grammar
use Rattle.algol_tree.specs.Statements.{phrase_of, IsWholes, IsActuals, IsItems, IsTaskPart, IsTo, IsPhrases, IsPair, IsPairs, IsSegments, decls_and}
use Rattle.algol_tree.specs.Due.{Value, one, many, names, low, pairs, phrases, declared, task, place, value_put, Due, make, symbol, whole, named, wholes_more, actuals_part, items_part, pairs_more, segments_more, task_part, to_part, angle, phrase, phrases_more, takes, makes, skips, refuses, plain, either, optional}
use Rattle.algol_tree.specs.DueExpr.{list_made, behind, all_of}
use Rattle.algol_tree.specs.DueStmt.{decl_behind, wholes_in, pair_in, pair_added, segment_in, rows_declared, phrase_added, with_task}
use Rattle.algol_expr.proofs.Turns.{word_from, symbol_from}
use Rattle.algol_expr.proofs.Complete.{all_of_behind}
use Rattle.algol_expr.proofs.Sound.{single, makes_it}
use Rattle.algol_grammar.proofs.Complete.{decls_and_none}
use Rattle.algol_grammar.proofs.Meant.{Gives, gives, passed, one_name, less, IsPhrase, one_phrase, IsSegment, segment, IsDue, IsAll, nil, cons, Taken}
use Rattle.algol_grammar.proofs.Given.{Then, given, regive, put_given}
use Rattle.algol_grammar.proofs.SoundHeadings.{names_end}
use Rattle.algol_grammar.proofs.Lists.{decls_behind}

all_of_none : (acc : PExprs) → all_of acc none ≡ acc
all_of_none none = refl
all_of_none (more e es) = ap (more e) (all_of_none es)

-- expressions

pub no_wholes_more : (free : ℕ) (vs : List Value) (from : List Token) → IsDue free wholes_more vs from vs from
no_wholes_more free vs from = λ acc below is. put_given none (is ∙ ap (λ es. many es ∷ below) (sym (all_of_none acc))) (λ before e x. grammar.one e before from x)

pub back_wholes_more : (free : ℕ) (b : Bool) (t : Token) (ts : List Token) (vs ws : List Value) (rest : List Token) → is_symbol symbols.Comma t.kind ≡ b →
    Taken free (either b (takes plain (whole 0 ∷ make list_made ∷ wholes_more ∷ [])) skips) t ts vs ws rest → IsDue free wholes_more vs (t ∷ ts) ws rest
back_wholes_more free false t ts vs ws rest e x = absurd x
back_wholes_more free true t ts vs ws rest e (cons _ _ _ _ _ _ _ _ (gives f mid y) (cons _ _ _ _ _ _ _ _ makes_it (cons _ _ _ _ _ _ _ _ g (nil _ _)))) =
    λ acc below is. regive _ _ (t ∷ ts) (g (behind acc f) below (ap (λ us. list_made (one f ∷ us)) is)) (λ es. more f es)
    (λ es rest p. λ before h x. grammar.comma t h (more f es) before ts rest x (symbol_from t.kind symbols.Comma e) (p ts f y))
    (λ es. ap many (all_of_behind acc f es))

pub wholes_then : (free : ℕ) (more_due : List Due) (vs ws : List Value) (from rest : List Token) → IsAll free (wholes_in ++ more_due) vs from ws rest →
    Then (IsWholes free) many free more_due from vs ws rest
wholes_then free more_due vs ws from rest (cons _ _ _ _ _ _ _ _ makes_it (cons _ _ _ _ _ _ _ _ (gives e mid y) (cons _ _ _ _ _ _ _ _ makes_it (cons _ _ _ _ _ _ _ _ f z)))) =
    let r = given (f (more e none) vs refl) z in record { a = more e r.a; mid = r.mid; is = r.is from e y; second = r.second }

-- expressions and the symbol that closes them
pub record WholesEnd (free : ℕ) (s : Symbol) (more_due : List Due) (from : List Token) (vs ws : List Value) (rest : List Token) : Type 0 where
  pub es : PExprs
  pub u : Token
  pub mid : List Token
  pub reads : IsWholes free from es (u ∷ mid)
  pub closes : IsSymbol s u
  pub second : IsAll free more_due (many es ∷ vs) mid ws rest

pub wholes_end : (free : ℕ) (s : Symbol) (more_due : List Due) (vs ws : List Value) (from rest : List Token) → IsAll free (wholes_in ++ symbol s ∷ more_due) vs from ws rest →
    WholesEnd free s more_due from vs ws rest
wholes_end free s more_due vs ws from rest x = let r = wholes_then free (symbol s ∷ more_due) vs ws from rest x in by_symbol r.a r.mid r.is r.second
  where
    by_symbol : (es : PExprs) (mid : List Token) → IsWholes free from es mid → IsAll free (symbol s ∷ more_due) (many es ∷ vs) mid ws rest → WholesEnd free s more_due from vs ws rest
    by_symbol es _ y (cons _ _ _ _ _ _ _ _ (single u mid c) z) = record { es = es; u = u; mid = mid; reads = y; closes = c; second = z }

pub no_actuals : (free : ℕ) (vs : List Value) (from : List Token) → IsDue free actuals_part vs from (many none ∷ vs) from
no_actuals free vs from = gives none from (grammar.nothing from)

pub back_actuals : (free : ℕ) (b : Bool) (t : Token) (ts : List Token) (vs ws : List Value) (rest : List Token) → is_symbol symbols.OpenRound t.kind ≡ b →
    Taken free (either b (takes plain (wholes_in ++ symbol symbols.CloseRound ∷ [])) (makes (value_put (many none)))) t ts vs ws rest → IsDue free actuals_part vs (t ∷ ts) ws rest
back_actuals free false t ts vs ws rest e x = absurd x
back_actuals free true t ts vs ws rest e x = let r = wholes_end free symbols.CloseRound [] vs ws ts rest x in by_end r.es r.u r.mid r.reads r.closes ws rest r.second
  where
    by_end : (es : PExprs) (u : Token) (mid : List Token) → IsWholes free ts es (u ∷ mid) → IsSymbol symbols.CloseRound u → (ws : List Value) (rest : List Token) →
        IsAll free [] (many es ∷ vs) mid ws rest → IsDue free actuals_part vs (t ∷ ts) ws rest
    by_end es u mid x c _ _ (nil _ _) = gives es mid (grammar.actuals t u es ts mid (symbol_from t.kind symbols.OpenRound e) x c)

pub no_items : (free : ℕ) (vs : List Value) (from : List Token) → IsDue free items_part vs from (many none ∷ vs) from
no_items free vs from = gives none from (grammar.nothing from)

pub back_items : (free : ℕ) (b : Bool) (t : Token) (ts : List Token) (vs ws : List Value) (rest : List Token) → is_symbol symbols.Comma t.kind ≡ b →
    Taken free (either b (takes plain wholes_in) (makes (value_put (many none)))) t ts vs ws rest → IsDue free items_part vs (t ∷ ts) ws rest
back_items free false t ts vs ws rest e x = absurd x
back_items free true t ts vs ws rest e x = let r = wholes_then free [] vs ws ts rest x in by_end r.a r.mid r.is ws rest r.second
  where
    by_end : (es : PExprs) (mid : List Token) → IsWholes free ts es mid → (ws : List Value) (rest : List Token) → IsAll free [] (many es ∷ vs) mid ws rest →
        IsDue free items_part vs (t ∷ ts) ws rest
    by_end es mid x _ _ (nil _ _) = gives es mid (grammar.items t es ts mid (symbol_from t.kind symbols.Comma e) x)

-- bounds

-- one pair after others
record PairThen (free : ℕ) (more_due : List Due) (from : List Token) (vs ws : List Value) (rest : List Token) : Type 0 where
  p : PPair
  mid : List Token
  reads : IsPair free from p mid
  second : (ps : List PPair) (below : List Value) → vs ≡ pairs ps ∷ below → IsAll free more_due (pairs (ps ++ p ∷ []) ∷ below) mid ws rest

pair_then : (free : ℕ) (more_due : List Due) (vs ws : List Value) (from rest : List Token) → IsAll free (pair_in ++ more_due) vs from ws rest → PairThen free more_due from vs ws rest
pair_then free more_due vs ws from rest
    (cons _ _ _ _ _ _ _ _ (gives l _ y) (cons _ _ _ _ _ _ _ _ (single t after c) (cons _ _ _ _ _ _ _ _ (gives e mid x) (cons _ _ _ _ _ _ _ _ makes_it z)))) =
    record {
      p = record { low = l; high = e };
      mid = mid;
      reads = grammar.pair t l e from after mid y c x;
      second = λ ps below is. subst (λ us. IsAll free more_due us mid ws rest) (ap (λ us. pair_added (one e ∷ low l ∷ us)) is) z;
    }

pub no_pairs_more : (free : ℕ) (vs : List Value) (from : List Token) → IsDue free pairs_more vs from vs from
no_pairs_more free vs from = λ p below is. put_given (p ∷ []) is (λ before x. grammar.one p before from x)

pub back_pairs_more : (free : ℕ) (b : Bool) (t : Token) (ts : List Token) (vs ws : List Value) (rest : List Token) → is_symbol symbols.Comma t.kind ≡ b →
    Taken free (either b (takes plain pair_in) skips) t ts vs ws rest → IsDue free pairs_more vs (t ∷ ts) ws rest
back_pairs_more free false t ts vs ws rest e x = absurd x
back_pairs_more free true t ts vs ws rest e x = λ p below is. let r = pair_then free [] vs ws ts rest x in by_end p below r.p r.mid r.reads ws rest (r.second (p ∷ []) below is)
  where
    by_end : (p : PPair) (below : List Value) (q : PPair) (mid : List Token) → IsPair free ts q mid → (ws : List Value) (rest : List Token) → IsAll free [] (pairs (p ∷ q ∷ []) ∷ below) mid ws rest →
        Gives (λ from ps rest. (before : List Token) → IsPair free before p from → IsPairs free before ps rest) pairs (t ∷ ts) below ws rest
    by_end p below q mid y _ _ (nil _ _) = gives (p ∷ q ∷ []) mid (λ before x. grammar.two t p q before ts mid x (symbol_from t.kind symbols.Comma e) y)

-- one segment, as a declaration after others
record SegmentThen (free : ℕ) (kind : Kind) (from : List Token) (vs ws : List Value) (rest : List Token) : Type 0 where
  d : PDecl
  mid : List Token
  reads : IsSegment free kind from d mid
  second : (acc : PDecls) (below : List Value) → vs ≡ declared acc ∷ below → IsAll free (segments_more kind ∷ []) (declared (decl_behind acc d) ∷ below) mid ws rest

segment_then : (free : ℕ) (kind : Kind) (vs ws : List Value) (from rest : List Token) → IsAll free (segment_in kind) vs from ws rest → SegmentThen free kind from vs ws rest
segment_then free kind vs ws from rest x =
    let tail = pairs_more ∷ symbol symbols.CloseSquare ∷ make (rows_declared kind) ∷ segments_more kind ∷ [] in
    let r = names_end free symbols.OpenSquare (make (value_put (pairs [])) ∷ pair_in ++ tail) vs ws from rest x in by_pairs r.ns r.u r.mid r.reads r.closes r.second
  where
    by_end : (ns : List Named) (u : Token) (mid : List Token) → IsNames from ns (u ∷ mid) → IsSymbol symbols.OpenSquare u → (ps : List PPair) (after : List Token) → IsPairs free mid ps after →
        IsAll free (symbol symbols.CloseSquare ∷ make (rows_declared kind) ∷ segments_more kind ∷ []) (pairs ps ∷ names ns ∷ vs) after ws rest → SegmentThen free kind from vs ws rest
    by_end ns u mid x o ps _ y (cons _ _ _ _ _ _ _ _ (single v after c) (cons _ _ _ _ _ _ _ _ makes_it z)) = record {
      d = trees.arrays kind ns ps;
      mid = after;
      reads = segment u v ns ps from mid after x o y c;
      second = λ acc below is. subst (λ us. IsAll free (segments_more kind ∷ []) us after ws rest) (ap (λ us. rows_declared kind (pairs ps ∷ names ns ∷ us)) is) z;
    }

    by_more : (ns : List Named) (u : Token) (mid : List Token) → IsNames from ns (u ∷ mid) → IsSymbol symbols.OpenSquare u → (p : PPair) (after : List Token) → IsPair free mid p after →
        IsAll free (pairs_more ∷ symbol symbols.CloseSquare ∷ make (rows_declared kind) ∷ segments_more kind ∷ []) (pairs (p ∷ []) ∷ names ns ∷ vs) after ws rest →
        SegmentThen free kind from vs ws rest
    by_more ns u mid x o p after y (cons _ _ _ _ _ _ _ _ f z) =
        let r = given (f p (names ns ∷ vs) refl) z in by_end ns u mid x o r.a r.mid (r.is mid y) r.second

    by_pairs : (ns : List Named) (u : Token) (mid : List Token) → IsNames from ns (u ∷ mid) → IsSymbol symbols.OpenSquare u →
        IsAll free (make (value_put (pairs [])) ∷ pair_in ++ pairs_more ∷ symbol symbols.CloseSquare ∷ make (rows_declared kind) ∷ segments_more kind ∷ []) (names ns ∷ vs) mid ws rest →
        SegmentThen free kind from vs ws rest
    by_pairs ns u mid x o (cons _ _ _ _ _ _ _ _ makes_it y) =
        let r = pair_then free (pairs_more ∷ symbol symbols.CloseSquare ∷ make (rows_declared kind) ∷ segments_more kind ∷ []) (pairs [] ∷ names ns ∷ vs) ws mid rest y in
        by_more ns u mid x o r.p r.mid r.reads (r.second [] (names ns ∷ vs) refl)

segments_grow : (free : ℕ) (kind : Kind) (t : Token) (ts before rest : List Token) (d : PDecl) (ds : PDecls) → IsSegment free kind before d (t ∷ ts) → IsSymbol symbols.Comma t →
    IsSegments free kind ts ds rest → IsSegments free kind before (decls d ds) rest
segments_grow free kind t ts before rest _ ds (segment u v ns ps _ mid _ x o y c) s z = grammar.comma kind u v t ns ps ds before mid ts rest x o y c s z

segments_last : (free : ℕ) (kind : Kind) (before rest : List Token) (d : PDecl) → IsSegment free kind before d rest → IsSegments free kind before (decls d no_decls) rest
segments_last free kind before rest _ (segment u v ns ps _ mid _ x o y c) = grammar.last kind u v ns ps before mid rest x o y c

pub no_segments_more : (free : ℕ) (kind : Kind) (vs : List Value) (from : List Token) → IsDue free (segments_more kind) vs from vs from
no_segments_more free kind vs from = λ acc below is. put_given no_decls (is ∙ ap (λ ds. declared ds ∷ below) (sym (decls_and_none acc))) (λ before d x. segments_last free kind before from d x)

module _ (free : ℕ) (kind : Kind) where
  segments_on : (vs ws : List Value) (mid rest : List Token) (acc : PDecls) (below : List Value) → vs ≡ declared acc ∷ below →
      IsAll free (segments_more kind ∷ []) vs mid ws rest →
      Gives (λ from ds rest. (before : List Token) (d : PDecl) → IsSegment free kind before d from → IsSegments free kind before (decls d ds) rest) (λ ds. declared (decls_and acc ds)) mid below ws rest
  segments_on vs ws mid rest acc below is (cons _ _ _ _ _ _ _ _ f (nil _ _)) = f acc below is

  -- segments after ARRAY
  pub back_segments : (vs ws : List Value) (from rest : List Token) → IsAll free (segment_in kind) vs from ws rest → (acc : PDecls) (below : List Value) → vs ≡ declared acc ∷ below →
      Gives (IsSegments free kind) (λ ds. declared (decls_and acc ds)) from below ws rest
  back_segments vs ws from rest x acc below is =
      let r = segment_then free kind vs ws from rest x in
      regive (IsSegments free kind) _ from (segments_on _ ws r.mid rest (decl_behind acc r.d) below refl (r.second acc below is)) (λ ds. decls r.d ds)
      (λ ds rest p. p from r.d r.reads) (λ ds. ap declared (decls_behind acc r.d ds))

  pub back_segments_more : (b : Bool) (t : Token) (ts : List Token) (vs ws : List Value) (rest : List Token) → is_symbol symbols.Comma t.kind ≡ b →
      Taken free (either b (takes plain (segment_in kind)) skips) t ts vs ws rest → IsDue free (segments_more kind) vs (t ∷ ts) ws rest
  back_segments_more false t ts vs ws rest e x = absurd x
  back_segments_more true t ts vs ws rest e x = λ acc below is. regive _ _ (t ∷ ts) (back_segments vs ws ts rest x acc below is) (λ ds. ds)
      (λ ds rest p. λ before d y. segments_grow free kind t ts before rest d ds y (symbol_from t.kind symbols.Comma e) p) (λ ds. refl)

-- tasks, GO TO, formats

pub no_task : (free : ℕ) (vs : List Value) (from : List Token) → IsDue free task_part vs from (task None ∷ vs) from
no_task free vs from = gives None from (grammar.nothing from)

pub back_task : (free : ℕ) (b : Bool) (t : Token) (ts : List Token) (vs ws : List Value) (rest : List Token) → is_symbol symbols.OpenSquare t.kind ≡ b →
    Taken free (either b (takes plain (named ∷ make with_task ∷ symbol symbols.CloseSquare ∷ [])) (makes (value_put (task None)))) t ts vs ws rest → IsDue free task_part vs (t ∷ ts) ws rest
back_task free false t ts vs ws rest e x = absurd x
back_task free true t _ vs _ _ e (cons _ _ _ _ _ _ _ _ (gives n _ (one_name u _ _ k)) (cons _ _ _ _ _ _ _ _ makes_it (cons _ _ _ _ _ _ _ _ (single v rest c) (nil _ _)))) =
    gives (Some n) rest (grammar.task t u v n rest (symbol_from t.kind symbols.OpenSquare e) k c)

pub no_to : (free : ℕ) (vs : List Value) (from : List Token) → IsDue free to_part vs from vs from
no_to free vs from = passed from (grammar.nothing from)

pub back_to : (free : ℕ) (b : Bool) (t : Token) (ts : List Token) (vs ws : List Value) (rest : List Token) → is_word reserved.To t.kind ≡ b →
    Taken free (either b (takes plain []) skips) t ts vs ws rest → IsDue free to_part vs (t ∷ ts) ws rest
back_to free false t ts vs ws rest e x = absurd x
back_to free true t ts vs _ _ e (nil _ _) = passed ts (grammar.to t ts (word_from t.kind reserved.To e))

pub back_angle : (free : ℕ) (b : Bool) (t : Token) (ts : List Token) (vs ws : List Value) (rest : List Token) → is_symbol symbols.Less t.kind ≡ b →
    Taken free (either b (takes plain (make (value_put (place t.spot)) ∷ [])) refuses) t ts vs ws rest → IsDue free angle vs (t ∷ ts) ws rest
back_angle free false t ts vs ws rest e x = absurd x
back_angle free true t ts vs _ _ e (cons _ _ _ _ _ _ _ _ makes_it (nil _ _)) = gives t.spot ts (less t ts (symbol_from t.kind symbols.Less e))

pub back_phrase : (free : ℕ) (o : Option PhraseText) (t : Token) (ts : List Token) (vs ws : List Value) (rest : List Token) → phrase_of t.kind ≡ o →
    Taken free (optional o (λ p. make (phrase_added p) ∷ []) refuses) t ts vs ws rest → IsDue free phrase vs (t ∷ ts) ws rest
back_phrase free None t ts vs ws rest e x = absurd x
back_phrase free (Some p) t ts vs _ _ e (cons _ _ _ _ _ _ _ _ makes_it (nil _ _)) = λ acc below is. put_given p (ap (phrase_added p) is) (one_phrase t p ts e)

pub no_phrases_more : (free : ℕ) (vs : List Value) (from : List Token) → IsDue free phrases_more vs from vs from
no_phrases_more free vs from = λ acc below is. put_given [] (is ∙ ap (λ ps. phrases ps ∷ below) (sym (append-nil acc))) (λ t p k. grammar.last t p from k)

pub back_phrases_more : (free : ℕ) (b : Bool) (t : Token) (ts : List Token) (vs ws : List Value) (rest : List Token) → is_symbol symbols.Comma t.kind ≡ b →
    Taken free (either b (takes plain (phrase ∷ phrases_more ∷ [])) skips) t ts vs ws rest → IsDue free phrases_more vs (t ∷ ts) ws rest
back_phrases_more free false t ts vs ws rest e x = absurd x
back_phrases_more free true t ts vs ws rest e (cons _ _ _ _ _ _ _ _ f y) = λ acc below is.
    let r = given (f acc below is) y in by_phrase acc below ts r.a r.mid r.is ws rest r.second
  where
    by_phrase : (acc : List PhraseText) (below : List Value) (ts : List Token) (p : PhraseText) (mid : List Token) → IsPhrase ts p mid → (ws : List Value) (rest : List Token) →
        IsAll free (phrases_more ∷ []) (phrases (acc ++ p ∷ []) ∷ below) mid ws rest →
        Gives (λ from ps rest. (t : Token) (p : PhraseText) → phrase_of t.kind ≡ Some p → IsPhrases (t ∷ from) (p ∷ ps) rest) (λ ps. phrases (acc ++ ps)) (t ∷ ts) below ws rest
    by_phrase acc below _ p mid (one_phrase u _ _ k) ws rest (cons _ _ _ _ _ _ _ _ g (nil _ _)) =
        regive _ _ (t ∷ u ∷ mid) (g (acc ++ p ∷ []) below refl) (λ ps. p ∷ ps)
        (λ ps rest q. λ v m h. grammar.comma v t m (p ∷ ps) (u ∷ mid) rest h (symbol_from t.kind symbols.Comma e) (q u p k))
        (λ ps. ap phrases (append_assoc acc (p ∷ []) ps))

-- phrases and the symbol after them
pub record PhrasesEnd (free : ℕ) (s : Symbol) (more_due : List Due) (from : List Token) (vs ws : List Value) (rest : List Token) : Type 0 where
  pub ps : List PhraseText
  pub u : Token
  pub mid : List Token
  pub reads : IsPhrases from ps (u ∷ mid)
  pub closes : IsSymbol s u
  pub second : IsAll free more_due (phrases ps ∷ vs) mid ws rest

pub phrases_end : (free : ℕ) (s : Symbol) (more_due : List Due) (vs ws : List Value) (from rest : List Token) →
    IsAll free (phrase ∷ phrases_more ∷ symbol s ∷ more_due) (phrases [] ∷ vs) from ws rest → PhrasesEnd free s more_due from vs ws rest
phrases_end free s more_due vs ws from rest (cons _ _ _ _ _ _ _ _ f y) = let r = given (f [] vs refl) y in by_phrase from r.a r.mid r.is r.second
  where
    by_symbol : (from : List Token) (ps : List PhraseText) (mid : List Token) → IsPhrases from ps mid → IsAll free (symbol s ∷ more_due) (phrases ps ∷ vs) mid ws rest →
        PhrasesEnd free s more_due from vs ws rest
    by_symbol from ps _ y (cons _ _ _ _ _ _ _ _ (single u mid c) z) = record { ps = ps; u = u; mid = mid; reads = y; closes = c; second = z }

    by_phrase : (from : List Token) (p : PhraseText) (mid : List Token) → IsPhrase from p mid → IsAll free (phrases_more ∷ symbol s ∷ more_due) (phrases (p ∷ []) ∷ vs) mid ws rest →
        PhrasesEnd free s more_due from vs ws rest
    by_phrase _ p mid (one_phrase u _ _ k) (cons _ _ _ _ _ _ _ _ g z) = let r = given (g (p ∷ []) vs refl) z in by_symbol (u ∷ mid) (p ∷ r.a) r.mid (r.is u p k) r.second
