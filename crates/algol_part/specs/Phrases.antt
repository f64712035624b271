-- What is due in one piece of the text that a reader goes through.
use Rattle.std.specs.Prelude.{ℕ, Bool, true, false, ◌||◌, List, [], ◌∷◌, ◌++◌, Option, Some, None}
use Rattle.algol_tree.specs.declared.token.TokenKind.{TokenKind}
use Rattle.algol_tree.specs.declared.token.TokenKind.TheVariants as kinds
use Rattle.algol_tree.specs.declared.token.Reserved.{Reserved}
use Rattle.algol_tree.specs.declared.token.Reserved.TheVariants as reserved
use Rattle.algol_tree.specs.declared.token.Symbol.{Symbol}
use Rattle.algol_tree.specs.declared.token.Symbol.TheVariants as symbols
use Rattle.algol_tree.specs.declared.tree.Kind.{Kind}
use Rattle.algol_tree.specs.declared.tree.Named.{Named}
use Rattle.b67_deeds.specs.declared.EventAct.{EventAct}
use Rattle.algol_part.specs.declared.declaration.Listed.{Listed}
use Rattle.algol_part.specs.declared.declaration.Listed.TheVariants as sorts
use Rattle.algol_tree.specs.Plain.{PDecl, simple, files, events, tasks, labels, no_stmts}
use Rattle.algol_tree.specs.Tokens.{is_word}
use Rattle.algol_tree.specs.Headings.{type_of}
use Rattle.algol_tree.specs.Due.{value_put, pairs, lows, specified, phrases, list, Due, make, word, symbol, named, angle, event, whole, items_part, literal, lows_more, values_part, spec, specs_more, pairs_more, phrase, phrases_more, statement, stmts_more}
use Rattle.algol_tree.specs.DueDecl.{names_in_list, files_in, low_added, headed_with}
use Rattle.algol_tree.specs.DueStmt.{writing, assigned, wholes_in, names_declared, pair_in, segment_in, rows_declared, assigned_element, acting, stmt_added}

abbrev pub name_before : Symbol → List Due
name_before s = named ∷ symbol s ∷ []

abbrev pub names_before : Symbol → List Due
names_before s = names_in_list ++ symbol s ∷ []

abbrev pub closed_names : List Due
closed_names = names_before symbols.Semicolon

-- what names are declared as, where nothing else is told of them
abbrev pub declares : Listed → List Named → PDecl
declares (sorts.Simple kind) = simple kind
declares sorts.Files = files
declares sorts.Events = events
declares sorts.Tasks = tasks
declares sorts.Labels = labels

abbrev pub are_files : Listed → Bool
are_files sorts.Files = true
are_files l = false

abbrev pub names_of_phrase : Bool → List Due
names_of_phrase true = files_in
names_of_phrase false = names_in_list

-- names that are declared so, up to the semicolon
abbrev pub listed_in : Listed → List Due
listed_in l = names_of_phrase (are_files l) ++ make (names_declared (declares l)) ∷ symbol symbols.Semicolon ∷ []

-- the names after a type
abbrev pub simples_in : Kind → List Due
simples_in kind = names_in_list ++ make (names_declared (simple kind)) ∷ symbol symbols.Semicolon ∷ []

abbrev pub closed_wholes : Symbol → List Due
closed_wholes closing = wholes_in ++ symbol closing ∷ []

abbrev pub whole_before : Reserved → List Due
whole_before w = whole 0 ∷ word w ∷ []

abbrev pub whole_behind : Reserved → List Due
whole_behind w = word w ∷ whole 0 ∷ []

-- the values and the specifications of a heading
abbrev pub specified_in : List Due
specified_in = values_part ∷ make (value_put (specified [])) ∷ spec ∷ specs_more ∷ []

-- a heading after its "("
abbrev pub parameters_in_phrase : Option Kind → List Due
parameters_in_phrase kind = names_in_list ++ symbol symbols.CloseRound ∷ symbol symbols.Semicolon ∷ values_part ∷ make (value_put (specified [])) ∷ spec ∷ specs_more
    ∷ make (headed_with kind) ∷ []

abbrev pub specs_in : List Due
specs_in = make (value_put (specified [])) ∷ spec ∷ specs_more ∷ []

abbrev pub lows_in_phrase : List Due
lows_in_phrase = make (value_put (lows [])) ∷ literal ∷ make low_added ∷ lows_more ∷ []

abbrev pub pairs_in : List Due
pairs_in = make (value_put (pairs [])) ∷ pair_in ++ pairs_more ∷ []

-- one segment of arrays
abbrev pub one_segment : Kind → List Due
one_segment kind = names_in_list ++ symbol symbols.OpenSquare ∷ pairs_in ++ symbol symbols.CloseSquare ∷ make (rows_declared kind) ∷ []

-- segments and the semicolon after them
abbrev pub arrays_in : Kind → List Due
arrays_in kind = segment_in kind ++ symbol symbols.Semicolon ∷ []

abbrev pub phrases_in : List Due
phrases_in = make (value_put (phrases [])) ∷ phrase ∷ phrases_more ∷ []

abbrev pub closed_phrases : List Due
closed_phrases = phrases_in ++ symbol symbols.Greater ∷ []

-- what is written to a file, after its name
abbrev pub format_in : List Due
format_in = angle ∷ phrases_in ++ symbol symbols.Greater ∷ items_part ∷ symbol symbols.CloseRound ∷ make writing ∷ []

abbrev pub closed_items : List Due
closed_items = items_part ∷ symbol symbols.CloseRound ∷ []

-- what CASE chooses by
abbrev pub choice_in : List Due
choice_in = whole 0 ∷ word reserved.Of ∷ word reserved.Begin ∷ []

-- an assignment to a simple variable of that name, after its ":="
abbrev pub value_in : Named → List Due
value_in n = whole 0 ∷ make (assigned n) ∷ []

-- an assignment to an element of that name, after its "["
abbrev pub element_in : Named → List Due
element_in n = wholes_in ++ symbol symbols.CloseSquare ∷ symbol symbols.Becomes ∷ whole 0 ∷ make (assigned_element n) ∷ []

-- a statement on an event after its word
abbrev pub acted : EventAct → List Due
acted act = symbol symbols.OpenRound ∷ event ∷ symbol symbols.CloseRound ∷ make (acting act) ∷ []

-- statements up to their END
abbrev pub statements_in : ℕ → List Due
statements_in d = make (value_put (list no_stmts)) ∷ statement d ∷ make stmt_added ∷ stmts_more d ∷ word reserved.End ∷ []

abbrev pub is_type : Option Kind → Bool
is_type (Some kind) = true
is_type None = false

-- a specification begins so
abbrev pub begins_spec : TokenKind → Bool
begins_spec k = is_type (type_of k) || (is_word reserved.Event k || is_word reserved.Array k)

-- a declaration that begins with no type, and is none of a procedure, begins so
abbrev pub lists_names : TokenKind → Bool
lists_names (kinds.Word reserved.File) = true
lists_names (kinds.Word reserved.Event) = true
lists_names (kinds.Word reserved.Task) = true
lists_names (kinds.Word reserved.Label) = true
lists_names (kinds.Word reserved.Array) = true
lists_names k = false

-- what the names after such a word are declared as
abbrev pub listed_by : TokenKind → Option Listed
listed_by (kinds.Word reserved.File) = Some sorts.Files
listed_by (kinds.Word reserved.Event) = Some sorts.Events
listed_by (kinds.Word reserved.Task) = Some sorts.Tasks
listed_by (kinds.Word reserved.Label) = Some sorts.Labels
listed_by k = None
