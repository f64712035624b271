-- What the grammar of headings has is read: lists of names, files, bounds, specifications, headings.
use Rattle.std.proofs.Common.{◌≡◌, ℕ, ℤ, Bool, true, false, List, [], ◌∷◌, ◌++◌, Option, Some, not, refl, sym, ap, ◌∙◌, append_assoc}
use Rattle.std.proofs.lemmas.List.{append-nil}
use Rattle.algol_tree.specs.declared.token.Spot.{Spot}
use Rattle.algol_tree.specs.declared.token.Token.{Token}
use Rattle.algol_tree.specs.declared.token.TokenKind.{TokenKind}
use Rattle.algol_tree.specs.declared.token.TokenKind.TheVariants as kinds
use Rattle.algol_tree.specs.declared.token.Reserved.TheVariants as reserved
use Rattle.algol_tree.specs.declared.token.Symbol.TheVariants as symbols
use Rattle.algol_tree.specs.declared.tree.Named.{Named}
use Rattle.algol_tree.specs.declared.tree.Kind.{Kind}
use Rattle.algol_tree.specs.declared.tree.Kind.TheVariants as types
use Rattle.algol_tree.specs.declared.tree.Spec.{Spec}
use Rattle.algol_tree.specs.declared.tree.Spec.TheVariants as specs
use Rattle.algol_tree.specs.Tokens.{IsWord, IsSymbol, IsName, is_word, is_symbol}
use Rattle.algol_tree.specs.Headings as grammar
use Rattle.algol_tree.specs.Headings.{type_of, IsNames, IsFile, IsFiles, IsLiteral, IsLows, IsSpec, IsSpecs, IsValues, IsTyped, elements_of}
use Rattle.algol_tree.specs.Due.{Value, name_is, names, low, lows, specified, value_put, Due, make, symbol, named, names_more, printer_part, files_more, literal, number_negated, lows_more, heading, spec, specs_more, spec_typed, values_part, behind_procedure, Turn, takes, makes, skips, closes, refuses, plain, followed, either, optional}
use Rattle.algol_tree.specs.DueDecl.{name_added, low_added, names_in_list, files_in, rows_specified, turn_spec, turn_spec_typed, turn_specs_more, spec_simple, spec_events, turn_behind_procedure, turn_named, turn_negated, turn_literal}
use Rattle.algol_tree.specs.Reading.{reading_turn, read}
use Rattle.algol_expr.proofs.Turns.{takes_step, make_step, skips_step, skips_end, symbol_step, spelled_step, symbol_is, word_is}
use Rattle.algol_grammar.proofs.Optional.{NotFirst, left_out, put_out, gone_on}

pub named_read : (free : ℕ) (t : Token) (n : Named) (ts : List Token) → IsName n t → (due : List Due) (vs : List Value) →
    read free (t ∷ ts) (named ∷ due) vs ≡ read free ts due (name_is n ∷ vs)
named_read free t n ts k due vs =
    takes_step free t ts named _ due vs (ap (turn_named t.spot) k.name)
    ∙ make_step free ts _ due vs
    ∙ ap (λ spot. read free ts due (name_is (record { name = n.name; spot = spot }) ∷ vs)) k.place

-- names after others
pub names_on : (free : ℕ) (from : List Token) (ns : List Named) (rest : List Token) → IsNames from ns rest → NotFirst (is_symbol symbols.Comma) rest →
    (acc : List Named) (due : List Due) (vs : List Value) →
    read free from (named ∷ make name_added ∷ names_more ∷ due) (names acc ∷ vs) ≡ read free rest due (names (acc ++ ns) ∷ vs)
names_on free _ _ rest (grammar.last t n _ k) end acc due vs =
    named_read free t n rest k _ _
    ∙ make_step free rest name_added _ _
    ∙ left_out free names_more (is_symbol symbols.Comma) _ (λ spot k. refl) refl rest end due _
names_on free _ _ rest (grammar.comma t u n ns from _ k c x) end acc due vs =
    named_read free t n (u ∷ from) k _ _
    ∙ make_step free (u ∷ from) name_added _ _
    ∙ gone_on free names_more (is_symbol symbols.Comma) _ skips (λ spot k. refl) u from (symbol_is u symbols.Comma c) due _
    ∙ names_on free from ns rest x end (acc ++ n ∷ []) due vs
    ∙ ap (λ ns. read free rest due (names ns ∷ vs)) (append_assoc acc (n ∷ []) ns)

pub names_read : (free : ℕ) (from : List Token) (ns : List Named) (rest : List Token) → IsNames from ns rest → NotFirst (is_symbol symbols.Comma) rest →
    (due : List Due) (vs : List Value) → read free from (names_in_list ++ due) vs ≡ read free rest due (names ns ∷ vs)
names_read free from ns rest x end due vs = make_step free from _ _ vs ∙ names_on free from ns rest x end [] due vs

file_read : (free : ℕ) (from : List Token) (n : Named) (rest : List Token) → IsFile from n rest → NotFirst (is_symbol symbols.OpenRound) rest →
    (acc : List Named) (due : List Due) (vs : List Value) →
    read free from (named ∷ make name_added ∷ printer_part ∷ due) (names acc ∷ vs) ≡ read free rest due (names (acc ++ n ∷ []) ∷ vs)
file_read free _ n rest (grammar.bare t _ _ k) end acc due vs =
    named_read free t n rest k _ _
    ∙ make_step free rest name_added _ _
    ∙ left_out free printer_part (is_symbol symbols.OpenRound) _ (λ spot k. refl) refl rest end due _
file_read free _ n rest (grammar.printer t opening key equal value closing _ _ k o a e b c) end acc due vs =
    named_read free t n _ k _ _
    ∙ make_step free _ name_added _ _
    ∙ gone_on free printer_part (is_symbol symbols.OpenRound) _ skips (λ spot k. refl) opening _ (symbol_is opening symbols.OpenRound o) due _
    ∙ spelled_step free key _ _ _ _ a
    ∙ symbol_step free equal _ symbols.Equal _ _ e
    ∙ spelled_step free value _ _ _ _ b
    ∙ symbol_step free closing rest symbols.CloseRound due _ c

-- files after others
files_on : (free : ℕ) (from : List Token) (ns : List Named) (rest : List Token) → IsFiles from ns rest → NotFirst (is_symbol symbols.Comma) rest →
    NotFirst (is_symbol symbols.OpenRound) rest → (acc : List Named) (due : List Due) (vs : List Value) →
    read free from (named ∷ make name_added ∷ printer_part ∷ files_more ∷ due) (names acc ∷ vs) ≡ read free rest due (names (acc ++ ns) ∷ vs)
files_on free from _ rest (grammar.last n _ _ x) end round acc due vs =
    file_read free from n rest x round acc _ vs
    ∙ left_out free files_more (is_symbol symbols.Comma) _ (λ spot k. refl) refl rest end due _
files_on free from _ rest (grammar.comma u n ns _ after _ x c y) end round acc due vs =
    file_read free from n (u ∷ after) x (ap (is_symbol symbols.OpenRound) c) acc _ vs
    ∙ gone_on free files_more (is_symbol symbols.Comma) _ skips (λ spot k. refl) u after (symbol_is u symbols.Comma c) due _
    ∙ files_on free after ns rest y end round (acc ++ n ∷ []) due vs
    ∙ ap (λ ns. read free rest due (names ns ∷ vs)) (append_assoc acc (n ∷ []) ns)

pub files_read : (free : ℕ) (from : List Token) (ns : List Named) (rest : List Token) → IsFiles from ns rest → NotFirst (is_symbol symbols.Comma) rest →
    NotFirst (is_symbol symbols.OpenRound) rest → (due : List Due) (vs : List Value) → read free from (files_in ++ due) vs ≡ read free rest due (names ns ∷ vs)
files_read free from ns rest x end round due vs = make_step free from _ _ vs ∙ files_on free from ns rest x end round [] due vs

pub literal_read : (free : ℕ) (from : List Token) (value : ℤ) (rest : List Token) → IsLiteral from value rest → (due : List Due) (vs : List Value) →
    read free from (literal ∷ due) vs ≡ read free rest due (low value ∷ vs)
literal_read free _ _ rest (grammar.positive t value _ k) due vs =
    takes_step free t rest literal _ due vs (ap turn_literal k) ∙ make_step free rest _ due vs
literal_read free _ _ rest (grammar.negative t u value _ m k) due vs =
    takes_step free t (u ∷ rest) literal _ due vs (ap turn_literal m)
    ∙ takes_step free u rest number_negated _ due vs (ap turn_negated k)
    ∙ make_step free rest _ due vs

-- literal [ "," literal ], after a list with nothing in it yet
pub lows_read : (free : ℕ) (from : List Token) (ls : List ℤ) (rest : List Token) → IsLows from ls rest → NotFirst (is_symbol symbols.Comma) rest → (due : List Due) (vs : List Value) →
    read free from (literal ∷ make low_added ∷ lows_more ∷ due) (lows [] ∷ vs) ≡ read free rest due (lows ls ∷ vs)
lows_read free from _ rest (grammar.one l _ _ x) end due vs =
    literal_read free from l rest x _ _
    ∙ make_step free rest low_added _ _
    ∙ left_out free lows_more (is_symbol symbols.Comma) _ (λ spot k. refl) refl rest end due _
lows_read free from _ rest (grammar.two u l m _ after _ x c y) end due vs =
    literal_read free from l (u ∷ after) x _ _
    ∙ make_step free (u ∷ after) low_added _ _
    ∙ gone_on free lows_more (is_symbol symbols.Comma) _ skips (λ spot k. refl) u after (symbol_is u symbols.Comma c) due _
    ∙ literal_read free after m rest y _ _
    ∙ make_step free rest low_added due _

-- names ";" made into one so
pub semi_names : (free : ℕ) (from : List Token) (ns : List Named) (u : Token) (rest : List Token) → IsNames from ns (u ∷ rest) → IsSymbol symbols.Semicolon u →
    (due : List Due) (vs : List Value) → read free from (names_in_list ++ symbol symbols.Semicolon ∷ due) vs ≡ read free rest due (names ns ∷ vs)
semi_names free from ns u rest x s due vs =
    names_read free from ns (u ∷ rest) x (ap (is_symbol symbols.Comma) s) _ vs ∙ symbol_step free u rest symbols.Semicolon due _ s

-- the rows of a specification after the word ARRAY
rows_read : (free : ℕ) (kind : Kind) (names_ mid rest : List Token) (u v w : Token) (ns : List Named) (ls : List ℤ) → IsNames names_ ns (u ∷ mid) → IsSymbol symbols.OpenSquare u →
    IsLows mid ls (v ∷ w ∷ rest) → IsSymbol symbols.CloseSquare v → IsSymbol symbols.Semicolon w → (acc : List Spec) (due : List Due) (vs : List Value) →
    read free names_ (rows_specified kind ++ due) (specified acc ∷ vs) ≡ read free rest due (specified (acc ++ specs.Arrays kind ns ls ∷ []) ∷ vs)
rows_read free kind names_ mid rest u v w ns ls x a y b c acc due vs =
    names_read free names_ ns (u ∷ mid) x (ap (is_symbol symbols.Comma) a) _ _
    ∙ symbol_step free u mid symbols.OpenSquare _ _ a
    ∙ make_step free mid _ _ _
    ∙ lows_read free mid ls (v ∷ w ∷ rest) y (ap (is_symbol symbols.Comma) b) _ _
    ∙ symbol_step free v (w ∷ rest) symbols.CloseSquare _ _ b
    ∙ symbol_step free w rest symbols.Semicolon _ _ c
    ∙ make_step free rest _ due _

-- none of them
abbrev pub no_spec : TokenKind → Bool
no_spec (kinds.Word reserved.Integer) = false
no_spec (kinds.Word reserved.Real) = false
no_spec (kinds.Word reserved.Boolean) = false
no_spec (kinds.Word reserved.Event) = false
no_spec (kinds.Word reserved.Array) = false
no_spec k = true

-- names of which the first token decides
pub names_by_first : (free : ℕ) (s : Due) (ds : List Due) →
    ((spot : Spot) (name : List ℕ) → reading_turn s spot (kinds.Name name) ≡ takes plain (make (value_put (names (record { name = name; spot = spot } ∷ []))) ∷ names_more ∷ ds)) →
    (from : List Token) (ns : List Named) (rest : List Token) → IsNames from ns rest → NotFirst (is_symbol symbols.Comma) rest → (due : List Due) (vs : List Value) →
    read free from (s ∷ due) vs ≡ read free rest (ds ++ due) (names ns ∷ vs)
names_by_first free s ds is _ _ rest (grammar.last t n _ k) end due vs =
    takes_step free t rest s _ due vs (ap (reading_turn s t.spot) k.name ∙ is t.spot n.name)
    ∙ make_step free rest _ _ vs
    ∙ left_out free names_more (is_symbol symbols.Comma) _ (λ spot k. refl) refl rest end _ _
    ∙ ap (λ spot. read free rest (ds ++ due) (names (record { name = n.name; spot = spot } ∷ []) ∷ vs)) k.place
names_by_first free s ds is _ _ rest (grammar.comma t u n ns from _ k c x) end due vs =
    takes_step free t (u ∷ from) s _ due vs (ap (reading_turn s t.spot) k.name ∙ is t.spot n.name)
    ∙ make_step free (u ∷ from) _ _ vs
    ∙ gone_on free names_more (is_symbol symbols.Comma) _ skips (λ spot k. refl) u from (symbol_is u symbols.Comma c) _ _
    ∙ names_on free from ns rest x end _ _ vs
    ∙ ap (λ spot. read free rest (ds ++ due) (names (record { name = n.name; spot = spot } ∷ ns) ∷ vs)) k.place

-- a specification is read, also where it may be left out
module _ (free : ℕ) (s : Due) (more : List Due) (otherwise : Turn) (is : (spot : Spot) (k : TokenKind) → reading_turn s spot k ≡ followed (turn_spec k otherwise) more) where
  by_type : (t : Token) (kind : Kind) (from : List Token) → type_of t.kind ≡ Some kind → (due : List Due) (vs : List Value) →
      read free (t ∷ from) (s ∷ due) vs ≡ read free from (spec_typed kind ∷ (more ++ due)) vs
  by_type t kind from k due vs = takes_step free t from s _ due vs (is t.spot t.kind
      ∙ ap (λ o. followed (optional o (λ kind. spec_typed kind ∷ []) (either (is_word reserved.Event t.kind) (takes plain (names_in_list ++ symbol symbols.Semicolon ∷ make spec_events ∷ []))
      (either (is_word reserved.Array t.kind) (takes plain (rows_specified types.Number)) otherwise))) more) k)

  rows_by : (from : List Token) (kind : Option Kind) (t u v w : Token) (names_ mid rest : List Token) (ns : List Named) (ls : List ℤ) → IsTyped from kind (t ∷ names_) →
      IsWord reserved.Array t → IsNames names_ ns (u ∷ mid) → IsSymbol symbols.OpenSquare u → IsLows mid ls (v ∷ w ∷ rest) → IsSymbol symbols.CloseSquare v →
      IsSymbol symbols.Semicolon w → (acc : List Spec) (due : List Due) (vs : List Value) →
      read free from (s ∷ due) (specified acc ∷ vs) ≡ read free rest (more ++ due) (specified (acc ++ specs.Arrays (elements_of kind) ns ls ∷ []) ∷ vs)
  rows_by _ _ t u v w names_ mid rest ns ls (grammar.untyped _) a x b y c e acc due vs =
      takes_step free t names_ s _ due _ (is t.spot t.kind ∙ ap (λ k. followed (turn_spec k otherwise) more) a)
      ∙ rows_read free types.Number names_ mid rest u v w ns ls x b y c e acc (more ++ due) vs
  rows_by _ _ t u v w names_ mid rest ns ls (grammar.typed h kind _ k) a x b y c e acc due vs =
      by_type h kind (t ∷ names_) k due _
      ∙ takes_step free t names_ (spec_typed kind) _ _ _ (ap (turn_spec_typed kind t.spot) a)
      ∙ rows_read free kind names_ mid rest u v w ns ls x b y c e acc (more ++ due) vs

  spec_by : (from : List Token) (x : Spec) (rest : List Token) → IsSpec from x rest → (acc : List Spec) (due : List Due) (vs : List Value) →
      read free from (s ∷ due) (specified acc ∷ vs) ≡ read free rest (more ++ due) (specified (acc ++ x ∷ []) ∷ vs)
  spec_by _ _ rest (grammar.simple t u kind ns from _ k x c) acc due vs =
      by_type t kind from k due _
      ∙ names_by_first free (spec_typed kind) (symbol symbols.Semicolon ∷ make (spec_simple kind) ∷ []) (λ spot name. refl) from ns (u ∷ rest) x (ap (is_symbol symbols.Comma) c) _ _
      ∙ symbol_step free u rest symbols.Semicolon _ _ c
      ∙ make_step free rest _ _ _
  spec_by _ _ rest (grammar.events t u ns from _ w x c) acc due vs =
      takes_step free t from s _ due _ (is t.spot t.kind ∙ ap (λ k. followed (turn_spec k otherwise) more) w)
      ∙ semi_names free from ns u rest x c _ _
      ∙ make_step free rest _ _ _
  spec_by _ _ rest (grammar.arrays t u v w kind ns ls from names_ mid _ x a y b z c e) acc due vs =
      rows_by from kind t u v w names_ mid rest ns ls x a y b z c e acc due vs

-- no specification begins there
none_there : (free : ℕ) (rest : List Token) → NotFirst (λ k. not (no_spec k)) rest → (due : List Due) (vs : List Value) → read free rest (specs_more ∷ due) vs ≡ read free rest due vs
none_there free [] n due vs = skips_end free specs_more due vs refl
none_there free (t ∷ ts) n due vs = skips_step free t ts specs_more due vs (by_kind t.kind n)
  where
    by_kind : (k : TokenKind) → not (no_spec k) ≡ false → turn_specs_more k ≡ skips
    by_kind (kinds.Word reserved.Integer) e = cc
    by_kind (kinds.Word reserved.Real) e = cc
    by_kind (kinds.Word reserved.Boolean) e = cc
    by_kind (kinds.Word reserved.Event) e = cc
    by_kind (kinds.Word reserved.Array) e = cc
    by_kind k e = refl

specs_on : (free : ℕ) (from : List Token) (ss : List Spec) (rest : List Token) → IsSpecs from ss rest → NotFirst (λ k. not (no_spec k)) rest →
    (acc : List Spec) (due : List Due) (vs : List Value) → read free from (specs_more ∷ due) (specified acc ∷ vs) ≡ read free rest due (specified (acc ++ ss) ∷ vs)
specs_on free from _ rest (grammar.last x _ _ y) end acc due vs =
    spec_by free specs_more (specs_more ∷ []) skips (λ spot k. refl) from x rest y acc due vs ∙ none_there free rest end due _
specs_on free from _ rest (grammar.on x ss _ mid _ y z) end acc due vs =
    spec_by free specs_more (specs_more ∷ []) skips (λ spot k. refl) from x mid y acc due vs
    ∙ specs_on free mid ss rest z end (acc ++ x ∷ []) due vs
    ∙ ap (λ ss. read free rest due (specified ss ∷ vs)) (append_assoc acc (x ∷ []) ss)

pub specs_read : (free : ℕ) (from : List Token) (ss : List Spec) (rest : List Token) → IsSpecs from ss rest → NotFirst (λ k. not (no_spec k)) rest →
    (due : List Due) (vs : List Value) → read free from (spec ∷ specs_more ∷ due) (specified [] ∷ vs) ≡ read free rest due (specified ss ∷ vs)
specs_read free from _ rest (grammar.last x _ _ y) end due vs =
    spec_by free spec [] refuses (λ spot k. alone (turn_spec k refuses)) from x rest y [] _ vs ∙ none_there free rest end due _
  where
    alone : (x : Turn) → x ≡ followed x []
    alone (takes l ds) = ap (takes l) (sym (append-nil ds))
    alone (makes m) = refl
    alone skips = refl
    alone closes = refl
    alone refuses = refl
specs_read free from _ rest (grammar.on x ss _ mid _ y z) end due vs =
    spec_by free spec [] refuses (λ spot k. alone (turn_spec k refuses)) from x mid y [] _ vs ∙ specs_on free mid ss rest z end (x ∷ []) due vs
  where
    alone : (x : Turn) → x ≡ followed x []
    alone (takes l ds) = ap (takes l) (sym (append-nil ds))
    alone (makes m) = refl
    alone skips = refl
    alone closes = refl
    alone refuses = refl

pub values_read : (free : ℕ) (from : List Token) (ns : List Named) (rest : List Token) → IsValues from ns rest → NotFirst (is_word reserved.Value) rest →
    (due : List Due) (vs : List Value) → read free from (values_part ∷ due) vs ≡ read free rest due (names ns ∷ vs)
values_read free _ _ rest (grammar.nothing _) end due vs = put_out free values_part (is_word reserved.Value) _ (names []) (λ spot k. refl) refl rest end due vs
values_read free _ _ rest (grammar.values t u ns from _ w x c) end due vs =
    gone_on free values_part (is_word reserved.Value) _ _ (λ spot k. refl) t from (word_is t reserved.Value w) due vs
    ∙ semi_names free from ns u rest x c due vs

-- a heading after the word PROCEDURE
pub heading_on : (free : ℕ) (kind : Option Kind) (n : Named) (u v : Token) (after rest : List Token) → IsName n u → IsSymbol symbols.Semicolon v → (due : List Due) (vs : List Value) →
    read free (u ∷ v ∷ rest) (named ∷ behind_procedure kind ∷ due) vs
    ≡ read free rest due (heading (record { kind = kind; name = n; params = []; values = []; specs = [] }) ∷ vs)
heading_on free kind n u v after rest k s due vs =
    named_read free u n (v ∷ rest) k _ vs
    ∙ takes_step free v rest (behind_procedure kind) _ due _ (ap (turn_behind_procedure kind) s)
    ∙ make_step free rest _ due _

pub heading_with : (free : ℕ) (kind : Option Kind) (n : Named) (u v w x : Token) (params values : List Named) (ss : List Spec) (names_ mid after rest : List Token) →
    IsName n u → IsSymbol symbols.OpenRound v → IsNames names_ params (w ∷ x ∷ mid) → IsSymbol symbols.CloseRound w → IsSymbol symbols.Semicolon x →
    IsValues mid values after → NotFirst (is_word reserved.Value) after → IsSpecs after ss rest → NotFirst (λ k. not (no_spec k)) rest → (due : List Due) (vs : List Value) →
    read free (u ∷ v ∷ names_) (named ∷ behind_procedure kind ∷ due) vs
    ≡ read free rest due (heading (record { kind = kind; name = n; params = params; values = values; specs = ss }) ∷ vs)
heading_with free kind n u v w x params values ss names_ mid after rest k o p c s y nv z end due vs =
    named_read free u n (v ∷ names_) k _ vs
    ∙ takes_step free v names_ (behind_procedure kind) _ due _ (ap (turn_behind_procedure kind) o)
    ∙ names_read free names_ params (w ∷ x ∷ mid) p (ap (is_symbol symbols.Comma) c) _ _
    ∙ symbol_step free w (x ∷ mid) symbols.CloseRound _ _ c
    ∙ symbol_step free x mid symbols.Semicolon _ _ s
    ∙ values_read free mid values after y nv _ _
    ∙ make_step free after _ _ _
    ∙ specs_read free after ss rest z end _ _
    ∙ make_step free rest _ due _
