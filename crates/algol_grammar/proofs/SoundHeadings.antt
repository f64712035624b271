-- What is read of a heading is of the grammar.
use Rattle.std.proofs.Common.{◌≡◌, ℕ, ℤ, Bool, true, false, List, [], ◌∷◌, ◌++◌, codes, Option, Some, None, refl, sym, subst, ap, ◌∙◌, append_assoc}
use Rattle.std.specs.Prelude.{pos, ◌-ℤ◌}
use Rattle.std.proofs.lemmas.List.{append-nil}
use Rattle.algol_tree.specs.declared.token.Token.{Token}
use Rattle.algol_tree.specs.declared.token.TokenKind.{TokenKind}
use Rattle.algol_tree.specs.declared.token.TokenKind.TheVariants as kinds
use Rattle.algol_tree.specs.declared.token.Reserved.TheVariants as reserved
use Rattle.algol_tree.specs.declared.token.Symbol.{Symbol}
use Rattle.algol_tree.specs.declared.token.Symbol.TheVariants as symbols
use Rattle.algol_tree.specs.declared.tree.Named.{Named}
use Rattle.algol_tree.specs.declared.tree.Kind.{Kind}
use Rattle.algol_tree.specs.declared.tree.Kind.TheVariants as types
use Rattle.algol_tree.specs.declared.tree.Spec.{Spec}
use Rattle.algol_tree.specs.declared.tree.Spec.TheVariants as specs
use Rattle.algol_tree.specs.Tokens.{IsWord, IsSymbol, IsName, is_word, is_symbol}
use Rattle.algol_tree.specs.Headings as grammar
use Rattle.algol_tree.specs.Headings.{type_of, IsTyped, elements_of, IsNames, IsFile, IsFiles, IsLiteral, IsLows, IsSpec, IsSpecs, IsValues, IsHeading}
use Rattle.algol_tree.specs.Due.{Value, name_is, names, low, lows, specified, value_put, Due, make, symbol, spelled, named, names_more, printer_part, files_more, literal, number_negated, lows_more, values_part, spec, spec_typed, specs_more, behind_procedure, Turn, takes, makes, skips, refuses, plain, either, optional}
use Rattle.algol_tree.specs.DueDecl.{name_added, low_added, spec_simple, spec_events, spec_arrays, headed, headed_with, names_in_list, files_in, rows_specified, turn_named, turn_literal, turn_negated, turn_spec, turn_spec_typed, turn_specs_more}
use Rattle.algol_expr.proofs.Turns.{word_from, symbol_from}
use Rattle.algol_expr.proofs.Sound.{single, makes_it}
use Rattle.algol_grammar.proofs.Meant.{Gives, gives, passed, one_name, IsDue, IsAll, nil, cons, Taken}
use Rattle.algol_grammar.proofs.Given.{Then, given, regive, put_given, split}

pub back_named : (free : ℕ) (t : Token) (ts : List Token) (vs ws : List Value) (rest : List Token) (k : TokenKind) → t.kind ≡ k →
    Taken free (turn_named t.spot k) t ts vs ws rest → IsDue free named vs (t ∷ ts) ws rest
back_named free t ts vs _ _ (kinds.Name name) k (cons _ _ _ _ _ _ _ _ makes_it (nil _ _)) =
    gives (record { name = name; spot = t.spot }) ts (one_name t _ ts (record { name = k; place = refl }))
back_named free t ts vs ws rest k e x = absurd x

-- names

module _ (free : ℕ) (more : List Due) (vs ws : List Value) (rest : List Token) where
  -- of which the first token is passed
  pub names_from : (t : Token) (n : Named) (from : List Token) → IsName n t → IsAll free (names_more ∷ more) (names (n ∷ []) ∷ vs) from ws rest →
      Then IsNames names free more (t ∷ from) vs ws rest
  names_from t n from k (cons _ _ _ _ _ _ _ _ f y) =
      let r = given (f (n ∷ []) vs refl) y in record { a = n ∷ r.a; mid = r.mid; is = r.is t n k; second = r.second }

  pub names_then : (from : List Token) → IsAll free (names_in_list ++ more) vs from ws rest → Then IsNames names free more from vs ws rest
  names_then _ (cons _ _ _ _ _ _ _ _ makes_it (cons _ _ _ _ _ _ _ _ (gives n _ (one_name t _ mid k)) (cons _ _ _ _ _ _ _ _ makes_it y))) = names_from t n mid k y

-- names and the symbol after them
pub record NamesEnd (free : ℕ) (s : Symbol) (more : List Due) (from : List Token) (vs ws : List Value) (rest : List Token) : Type 0 where
  pub ns : List Named
  pub u : Token
  pub mid : List Token
  pub reads : IsNames from ns (u ∷ mid)
  pub closes : IsSymbol s u
  pub second : IsAll free more (names ns ∷ vs) mid ws rest

pub names_end : (free : ℕ) (s : Symbol) (more : List Due) (vs ws : List Value) (from rest : List Token) → IsAll free (names_in_list ++ symbol s ∷ more) vs from ws rest →
    NamesEnd free s more from vs ws rest
names_end free s more vs ws from rest x = let r = names_then free (symbol s ∷ more) vs ws rest from x in by_symbol r.a r.mid r.is r.second
  where
    by_symbol : (ns : List Named) (mid : List Token) → IsNames from ns mid → IsAll free (symbol s ∷ more) (names ns ∷ vs) mid ws rest → NamesEnd free s more from vs ws rest
    by_symbol ns _ y (cons _ _ _ _ _ _ _ _ (single u mid c) z) = record { ns = ns; u = u; mid = mid; reads = y; closes = c; second = z }

pub no_names_more : (free : ℕ) (vs : List Value) (from : List Token) → IsDue free names_more vs from vs from
no_names_more free vs from = λ acc below is. put_given [] (is ∙ ap (λ ns. names ns ∷ below) (sym (append-nil acc))) (λ t n k. grammar.last t n from k)

pub back_names_more : (free : ℕ) (b : Bool) (t : Token) (ts : List Token) (vs ws : List Value) (rest : List Token) → is_symbol symbols.Comma t.kind ≡ b →
    Taken free (either b (takes plain (named ∷ make name_added ∷ names_more ∷ [])) skips) t ts vs ws rest → IsDue free names_more vs (t ∷ ts) ws rest
back_names_more free false t ts vs ws rest e x = absurd x
back_names_more free true t _ vs ws rest e (cons _ _ _ _ _ _ _ _ (gives n _ (one_name u _ mid k)) (cons _ _ _ _ _ _ _ _ makes_it (cons _ _ _ _ _ _ _ _ f (nil _ _)))) =
    λ acc below is. regive _ _ (t ∷ u ∷ mid) (f (acc ++ n ∷ []) below (ap (λ us. name_added (name_is n ∷ us)) is)) (λ ns. n ∷ ns)
    (λ ns rest p. λ v m q. grammar.comma v t m (n ∷ ns) (u ∷ mid) rest q (symbol_from t.kind symbols.Comma e) (p u n k))
    (λ ns. ap names (append_assoc acc (n ∷ []) ns))

-- files

pub no_printer : (free : ℕ) (vs : List Value) (from : List Token) → IsDue free printer_part vs from vs from
no_printer free vs from = passed from (λ t n k. grammar.bare t n from k)

pub back_printer : (free : ℕ) (b : Bool) (t : Token) (ts : List Token) (vs ws : List Value) (rest : List Token) → is_symbol symbols.OpenRound t.kind ≡ b →
    Taken free (either b (takes plain (spelled (codes "KIND") ∷ symbol symbols.Equal ∷ spelled (codes "PRINTER") ∷ symbol symbols.CloseRound ∷ [])) skips) t ts vs ws rest →
    IsDue free printer_part vs (t ∷ ts) ws rest
back_printer free false t ts vs ws rest e x = absurd x
back_printer free true t _ vs _ _ e
    (cons _ _ _ _ _ _ _ _ (single key _ a) (cons _ _ _ _ _ _ _ _ (single equal _ b) (cons _ _ _ _ _ _ _ _ (single value _ c) (cons _ _ _ _ _ _ _ _ (single closing rest d) (nil _ _))))) =
    passed rest (λ u n k. grammar.printer u t key equal value closing n rest k (symbol_from t.kind symbols.OpenRound e) a b c d)

pub no_files_more : (free : ℕ) (vs : List Value) (from : List Token) → IsDue free files_more vs from vs from
no_files_more free vs from = λ acc below is. put_given [] (is ∙ ap (λ ns. names ns ∷ below) (sym (append-nil acc))) (λ before n x. grammar.last n before from x)

pub back_files_more : (free : ℕ) (b : Bool) (t : Token) (ts : List Token) (vs ws : List Value) (rest : List Token) → is_symbol symbols.Comma t.kind ≡ b →
    Taken free (either b (takes plain (named ∷ make name_added ∷ printer_part ∷ files_more ∷ [])) skips) t ts vs ws rest → IsDue free files_more vs (t ∷ ts) ws rest
back_files_more free false t ts vs ws rest e x = absurd x
back_files_more free true t _ vs ws rest e
    (cons _ _ _ _ _ _ _ _ (gives n _ (one_name u _ mid k)) (cons _ _ _ _ _ _ _ _ makes_it (cons _ _ _ _ _ _ _ _ (passed after p) (cons _ _ _ _ _ _ _ _ f (nil _ _))))) =
    λ acc below is. regive _ _ (t ∷ u ∷ mid) (f (acc ++ n ∷ []) below (ap (λ us. name_added (name_is n ∷ us)) is)) (λ ns. n ∷ ns)
    (λ ns rest q. λ before m y. grammar.comma t m (n ∷ ns) before (u ∷ mid) rest y (symbol_from t.kind symbols.Comma e) (q (u ∷ mid) n (p u n k)))
    (λ ns. ap names (append_assoc acc (n ∷ []) ns))

pub files_then : (free : ℕ) (more : List Due) (vs ws : List Value) (from rest : List Token) → IsAll free (files_in ++ more) vs from ws rest → Then IsFiles names free more from vs ws rest
files_then free more vs ws _ rest (cons _ _ _ _ _ _ _ _ makes_it (cons _ _ _ _ _ _ _ _ (gives n _ (one_name t _ mid k)) (cons _ _ _ _ _ _ _ _ makes_it
    (cons _ _ _ _ _ _ _ _ (passed after p) (cons _ _ _ _ _ _ _ _ f y))))) =
    let r = given (f (n ∷ []) vs refl) y in record { a = n ∷ r.a; mid = r.mid; is = r.is (t ∷ mid) n (p t n k); second = r.second }

-- bounds

pub back_literal : (free : ℕ) (t : Token) (ts : List Token) (vs ws : List Value) (rest : List Token) (k : TokenKind) → t.kind ≡ k →
    Taken free (turn_literal k) t ts vs ws rest → IsDue free literal vs (t ∷ ts) ws rest
back_literal free t ts vs _ _ (kinds.Number value) k (cons _ _ _ _ _ _ _ _ makes_it (nil _ _)) = gives value ts (grammar.positive t value ts k)
back_literal free t ts vs ws rest (kinds.Symbol symbols.Minus) k (cons _ _ _ _ _ _ _ _ f (nil _ _)) = regive IsLiteral low (t ∷ ts) f (λ l. l) (λ l rest p. p t k) (λ l. refl)
back_literal free t ts vs ws rest k e x = absurd x

pub back_negated : (free : ℕ) (t : Token) (ts : List Token) (vs ws : List Value) (rest : List Token) (k : TokenKind) → t.kind ≡ k →
    Taken free (turn_negated k) t ts vs ws rest → IsDue free number_negated vs (t ∷ ts) ws rest
back_negated free t ts vs _ _ (kinds.Number value) k (cons _ _ _ _ _ _ _ _ makes_it (nil _ _)) = gives (pos 0 -ℤ value) ts (λ u m. grammar.negative u t value ts m k)
back_negated free t ts vs ws rest k e x = absurd x

pub no_lows_more : (free : ℕ) (vs : List Value) (from : List Token) → IsDue free lows_more vs from vs from
no_lows_more free vs from = λ l below is. put_given (l ∷ []) is (λ before x. grammar.one l before from x)

pub back_lows_more : (free : ℕ) (b : Bool) (t : Token) (ts : List Token) (vs ws : List Value) (rest : List Token) → is_symbol symbols.Comma t.kind ≡ b →
    Taken free (either b (takes plain (literal ∷ make low_added ∷ [])) skips) t ts vs ws rest → IsDue free lows_more vs (t ∷ ts) ws rest
back_lows_more free false t ts vs ws rest e x = absurd x
back_lows_more free true t ts vs _ _ e (cons _ _ _ _ _ _ _ _ (gives m rest y) (cons _ _ _ _ _ _ _ _ makes_it (nil _ _))) =
    λ l below is. put_given (l ∷ m ∷ []) (ap (λ us. low_added (low m ∷ us)) is)
    (λ before x. grammar.two t l m before ts rest x (symbol_from t.kind symbols.Comma e) y)

pub lows_then : (free : ℕ) (more : List Due) (vs ws : List Value) (from rest : List Token) →
    IsAll free (make (value_put (lows [])) ∷ literal ∷ make low_added ∷ lows_more ∷ more) vs from ws rest → Then IsLows lows free more from vs ws rest
lows_then free more vs ws from rest (cons _ _ _ _ _ _ _ _ makes_it (cons _ _ _ _ _ _ _ _ (gives l mid y) (cons _ _ _ _ _ _ _ _ makes_it (cons _ _ _ _ _ _ _ _ f z)))) =
    let r = given (f l vs refl) z in record { a = r.a; mid = r.mid; is = r.is from y; second = r.second }

-- values and specifications

pub no_values : (free : ℕ) (vs : List Value) (from : List Token) → IsDue free values_part vs from (names [] ∷ vs) from
no_values free vs from = gives [] from (grammar.nothing from)

pub back_values : (free : ℕ) (b : Bool) (t : Token) (ts : List Token) (vs ws : List Value) (rest : List Token) → is_word reserved.Value t.kind ≡ b →
    Taken free (either b (takes plain (names_in_list ++ symbol symbols.Semicolon ∷ [])) (makes (value_put (names [])))) t ts vs ws rest → IsDue free values_part vs (t ∷ ts) ws rest
back_values free false t ts vs ws rest e x = absurd x
back_values free true t ts vs ws rest e x = let r = names_end free symbols.Semicolon [] vs ws ts rest x in by_end r.ns r.u r.mid r.reads r.closes ws rest r.second
  where
    by_end : (ns : List Named) (u : Token) (mid : List Token) → IsNames ts ns (u ∷ mid) → IsSymbol symbols.Semicolon u → (ws : List Value) (rest : List Token) →
        IsAll free [] (names ns ∷ vs) mid ws rest → IsDue free values_part vs (t ∷ ts) ws rest
    by_end ns u mid x s _ _ (nil _ _) = gives ns mid (grammar.values t u ns ts mid (word_from t.kind reserved.Value e) x s)

-- a specification of names of one type
pub back_simple : (free : ℕ) (kind : Kind) (n : Token) (name : Named) (from : List Token) (vs ws : List Value) (rest : List Token) → IsName name n →
    IsAll free (names_more ∷ symbol symbols.Semicolon ∷ make (spec_simple kind) ∷ []) (names (name ∷ []) ∷ vs) from ws rest →
    IsDue free (spec_typed kind) vs (n ∷ from) ws rest
back_simple free kind n name from vs ws rest k x =
    let r = names_from free (symbol symbols.Semicolon ∷ make (spec_simple kind) ∷ []) vs ws rest n name from k x in by_end r.a r.mid r.is ws rest r.second
  where
    by_end : (ns : List Named) (mid : List Token) → IsNames (n ∷ from) ns mid → (ws : List Value) (rest : List Token) →
        IsAll free (symbol symbols.Semicolon ∷ make (spec_simple kind) ∷ []) (names ns ∷ vs) mid ws rest → IsDue free (spec_typed kind) vs (n ∷ from) ws rest
    by_end ns _ x _ _ (cons _ _ _ _ _ _ _ _ (single u mid s) (cons _ _ _ _ _ _ _ _ makes_it (nil _ _))) =
        λ acc below is. put_given (specs.Simple kind ns) (ap (λ us. spec_simple kind (names ns ∷ us)) is) (λ t k. grammar.simple t u kind ns (n ∷ from) mid k x s)

-- rows after their word
pub back_rows : (free : ℕ) (kind : Kind) (from : List Token) (vs ws : List Value) (rest : List Token) → IsAll free (rows_specified kind) vs from ws rest →
    (acc : List Spec) (below : List Value) → vs ≡ specified acc ∷ below →
    Gives (λ from s rest. (before : List Token) (o : Option Kind) (t : Token) → elements_of o ≡ kind → IsTyped before o (t ∷ from) → IsWord reserved.Array t → IsSpec before s rest)
    (λ s. specified (acc ++ s ∷ [])) from below ws rest
back_rows free kind from vs ws rest x acc below is =
    let more = symbol symbols.CloseSquare ∷ symbol symbols.Semicolon ∷ make (spec_arrays kind) ∷ [] in
    let r = names_end free symbols.OpenSquare (make (value_put (lows [])) ∷ literal ∷ make low_added ∷ lows_more ∷ more) vs ws from rest x in
    let l = lows_then free more (names r.ns ∷ vs) ws r.mid rest r.second in by_end r.ns r.u r.mid r.reads r.closes l.a l.mid l.is ws rest l.second
  where
    by_end : (ns : List Named) (u : Token) (mid : List Token) → IsNames from ns (u ∷ mid) → IsSymbol symbols.OpenSquare u → (ls : List ℤ) (after : List Token) → IsLows mid ls after →
        (ws : List Value) (rest : List Token) → IsAll free (symbol symbols.CloseSquare ∷ symbol symbols.Semicolon ∷ make (spec_arrays kind) ∷ []) (lows ls ∷ names ns ∷ vs) after ws rest →
        Gives (λ from s rest. (before : List Token) (o : Option Kind) (t : Token) → elements_of o ≡ kind → IsTyped before o (t ∷ from) → IsWord reserved.Array t → IsSpec before s rest)
        (λ s. specified (acc ++ s ∷ [])) from below ws rest
    by_end ns u mid x o ls _ y _ _ (cons _ _ _ _ _ _ _ _ (single v _ c) (cons _ _ _ _ _ _ _ _ (single w rest s) (cons _ _ _ _ _ _ _ _ makes_it (nil _ _)))) =
        put_given (specs.Arrays kind ns ls) (ap (λ us. spec_arrays kind (lows ls ∷ names ns ∷ us)) is)
        (λ before p t e z a. subst (λ kind. IsSpec before (specs.Arrays kind ns ls) rest) e (grammar.arrays t u v w p ns ls before from mid rest z a x o y c s))

pub back_spec_typed : (free : ℕ) (kind : Kind) (t : Token) (ts : List Token) (vs ws : List Value) (rest : List Token) (k : TokenKind) → t.kind ≡ k →
    Taken free (turn_spec_typed kind t.spot k) t ts vs ws rest → IsDue free (spec_typed kind) vs (t ∷ ts) ws rest
back_spec_typed free kind t ts vs ws rest (kinds.Name name) k (cons _ _ _ _ _ _ _ _ makes_it y) =
    back_simple free kind t (record { name = name; spot = t.spot }) ts vs ws rest (record { name = k; place = refl }) y
back_spec_typed free kind t ts vs ws rest (kinds.Word reserved.Array) k x = λ acc below is.
    regive _ _ (t ∷ ts) (back_rows free kind ts vs ws rest x acc below is) (λ s. s) (λ s rest p. λ u e. p (u ∷ t ∷ ts) (Some kind) t refl (grammar.typed u kind (t ∷ ts) e) k) (λ s. refl)
back_spec_typed free kind t ts vs ws rest k e x = absurd x

-- a specification, or what stands in its place
module _ (free : ℕ) (t : Token) (ts : List Token) (vs ws : List Value) (rest : List Token) (otherwise : Turn) (never : Taken free otherwise t ts vs ws rest → ⊥) where
  spec_by : (o : Option Kind) (a b : Bool) → type_of t.kind ≡ o → is_word reserved.Event t.kind ≡ a → is_word reserved.Array t.kind ≡ b →
      Taken free (optional o (λ kind. spec_typed kind ∷ []) (either a (takes plain (names_in_list ++ symbol symbols.Semicolon ∷ make spec_events ∷ []))
      (either b (takes plain (rows_specified types.Number)) otherwise))) t ts vs ws rest → IsDue free spec vs (t ∷ ts) ws rest
  spec_by (Some kind) a b k e w (cons _ _ _ _ _ _ _ _ f (nil _ _)) = λ acc below is. regive _ _ (t ∷ ts) (f acc below is) (λ s. s) (λ s rest p. p t k) (λ s. refl)
  spec_by None true b k e w x =
      let r = names_end free symbols.Semicolon (make spec_events ∷ []) vs ws ts rest x in by_end r.ns r.u r.mid r.reads r.closes ws rest r.second
    where
      by_end : (ns : List Named) (u : Token) (mid : List Token) → IsNames ts ns (u ∷ mid) → IsSymbol symbols.Semicolon u → (ws : List Value) (rest : List Token) →
          IsAll free (make spec_events ∷ []) (names ns ∷ vs) mid ws rest → IsDue free spec vs (t ∷ ts) ws rest
      by_end ns u mid x s _ _ (cons _ _ _ _ _ _ _ _ makes_it (nil _ _)) = λ acc below is.
          put_given (specs.Events ns) (ap (λ us. spec_events (names ns ∷ us)) is) (grammar.events t u ns ts mid (word_from t.kind reserved.Event e) x s)
  spec_by None false true k e w x = λ acc below is. regive _ _ (t ∷ ts) (back_rows free types.Number ts vs ws rest x acc below is) (λ s. s)
      (λ s rest p. p (t ∷ ts) None t refl (grammar.untyped (t ∷ ts)) (word_from t.kind reserved.Array w)) (λ s. refl)
  spec_by None false false k e w x = absurd (never x)

  pub back_spec : Taken free (turn_spec t.kind otherwise) t ts vs ws rest → IsDue free spec vs (t ∷ ts) ws rest
  back_spec x = spec_by (type_of t.kind) (is_word reserved.Event t.kind) (is_word reserved.Array t.kind) refl refl refl x

pub no_specs_more : (free : ℕ) (vs : List Value) (from : List Token) → IsDue free specs_more vs from vs from
no_specs_more free vs from = λ acc below is. put_given [] (is ∙ ap (λ ss. specified ss ∷ below) (sym (append-nil acc))) (λ before s x. grammar.last s before from x)

pub back_specs_more : (free : ℕ) (t : Token) (ts : List Token) (vs ws : List Value) (rest : List Token) → Taken free (turn_specs_more t.kind) t ts vs ws rest →
    IsDue free specs_more vs (t ∷ ts) ws rest
back_specs_more free t ts vs ws rest x =
    let s = split free (turn_spec t.kind skips) (specs_more ∷ []) t ts vs ws rest x in on s.us s.mid (back_spec free t ts vs s.us s.mid skips (λ no. no) s.first) ws rest s.second
  where
    on : (us : List Value) (mid : List Token) → IsDue free spec vs (t ∷ ts) us mid → (ws : List Value) (rest : List Token) → IsAll free (specs_more ∷ []) us mid ws rest →
        IsDue free specs_more vs (t ∷ ts) ws rest
    on us mid f ws rest y = λ acc below is.
        let r = given (f acc below is) y in by_more r.a r.mid r.is ws rest acc below r.second
      where
        by_more : (s : Spec) (mid : List Token) → IsSpec (t ∷ ts) s mid → (ws : List Value) (rest : List Token) → (acc : List Spec) (below : List Value) →
            IsAll free (specs_more ∷ []) (specified (acc ++ s ∷ []) ∷ below) mid ws rest →
            Gives (λ from ss rest. (before : List Token) (s : Spec) → IsSpec before s from → IsSpecs before (s ∷ ss) rest) (λ ss. specified (acc ++ ss)) (t ∷ ts) below ws rest
        by_more s mid p ws rest acc below (cons _ _ _ _ _ _ _ _ g (nil _ _)) = regive _ _ (t ∷ ts) (g (acc ++ s ∷ []) below refl) (λ ss. s ∷ ss)
            (λ ss rest q. λ before other z. grammar.on other (s ∷ ss) before (t ∷ ts) rest z (q (t ∷ ts) s p)) (λ ss. ap specified (append_assoc acc (s ∷ []) ss))

-- a heading after its name

headed_by : (free : ℕ) (kind : Option Kind) (t x : Token) (from mid : List Token) (params values : List Named) (w : Token) (after : List Token) →
    IsSymbol symbols.OpenRound t → IsNames from params (w ∷ x ∷ mid) → IsSymbol symbols.CloseRound w → IsSymbol symbols.Semicolon x → IsValues mid values after →
    (vs ws : List Value) (rest : List Token) → IsAll free (spec ∷ specs_more ∷ make (headed_with kind) ∷ []) (specified [] ∷ names values ∷ names params ∷ vs) after ws rest →
    IsDue free (behind_procedure kind) vs (t ∷ from) ws rest
headed_by free kind t x from mid params values w after o y c s z vs ws rest (cons _ _ _ _ _ _ _ _ f g) =
    let r = given (f [] (names values ∷ names params ∷ vs) refl) g in by_more r.a r.mid r.is ws rest r.second
  where
    by_end : (ss : List Spec) (mid : List Token) → IsSpecs after ss mid → (ws : List Value) (rest : List Token) →
        IsAll free (make (headed_with kind) ∷ []) (specified ss ∷ names values ∷ names params ∷ vs) mid ws rest → IsDue free (behind_procedure kind) vs (t ∷ from) ws rest
    by_end ss mid q _ _ (cons _ _ _ _ _ _ _ _ makes_it (nil _ _)) = λ n below is.
        put_given (record { kind = kind; name = n; params = params; values = values; specs = ss }) (ap (λ us. headed_with kind (specified ss ∷ names values ∷ names params ∷ us)) is)
        (λ before p u e h k. grammar.with_params p u t w x kind n params values ss before from _ after mid e h k o y c s z q)

    by_more : (a : Spec) (mid : List Token) → IsSpec after a mid → (ws : List Value) (rest : List Token) →
        IsAll free (specs_more ∷ make (headed_with kind) ∷ []) (specified (a ∷ []) ∷ names values ∷ names params ∷ vs) mid ws rest → IsDue free (behind_procedure kind) vs (t ∷ from) ws rest
    by_more a mid p ws rest (cons _ _ _ _ _ _ _ _ g h) =
        let r = given (g (a ∷ []) (names values ∷ names params ∷ vs) refl) h in by_end (a ∷ r.a) r.mid (r.is after a p) ws rest r.second

pub back_heading : (free : ℕ) (kind : Option Kind) (a b : Bool) (t : Token) (ts : List Token) (vs ws : List Value) (rest : List Token) →
    is_symbol symbols.Semicolon t.kind ≡ a → is_symbol symbols.OpenRound t.kind ≡ b →
    Taken free (either a (takes plain (make (headed kind) ∷ [])) (either b
    (takes plain (names_in_list ++ symbol symbols.CloseRound ∷ symbol symbols.Semicolon ∷ values_part ∷ make (value_put (specified [])) ∷ spec ∷ specs_more ∷ make (headed_with kind) ∷ []))
    refuses)) t ts vs ws rest → IsDue free (behind_procedure kind) vs (t ∷ ts) ws rest
back_heading free kind true b t ts vs _ _ e f (cons _ _ _ _ _ _ _ _ makes_it (nil _ _)) = λ n below is.
    put_given (record { kind = kind; name = n; params = []; values = []; specs = [] }) (ap (headed kind) is)
    (λ before p u x h k. grammar.without p u t kind n before ts x h k (symbol_from t.kind symbols.Semicolon e))
back_heading free kind false false t ts vs ws rest e f x = absurd x
back_heading free kind false true t ts vs ws rest e f x =
    let more = symbol symbols.Semicolon ∷ values_part ∷ make (value_put (specified [])) ∷ spec ∷ specs_more ∷ make (headed_with kind) ∷ [] in
    let r = names_end free symbols.CloseRound more vs ws ts rest x in by_values r.ns r.u r.mid r.reads r.closes ws rest r.second
  where
    by_values : (ns : List Named) (w : Token) (mid : List Token) → IsNames ts ns (w ∷ mid) → IsSymbol symbols.CloseRound w → (ws : List Value) (rest : List Token) →
        IsAll free (symbol symbols.Semicolon ∷ values_part ∷ make (value_put (specified [])) ∷ spec ∷ specs_more ∷ make (headed_with kind) ∷ []) (names ns ∷ vs) mid ws rest →
        IsDue free (behind_procedure kind) vs (t ∷ ts) ws rest
    by_values ns w _ x c ws rest
        (cons _ _ _ _ _ _ _ _ (single u mid s) (cons _ _ _ _ _ _ _ _ (gives values after y) (cons _ _ _ _ _ _ _ _ makes_it z))) =
        headed_by free kind t u ts mid ns values w after (symbol_from t.kind symbols.OpenRound f) x c s y vs ws rest z
