-- What a token is to a part of a heading or of a list of names that is due.
use Rattle.std.specs.Prelude.{pos, ◌-ℤ◌, List, [], ◌∷◌, ◌++◌, Option, codes}
use Rattle.algol_tree.specs.declared.token.Spot.{Spot}
use Rattle.algol_tree.specs.declared.token.TokenKind.{TokenKind}
use Rattle.algol_tree.specs.declared.token.TokenKind.TheVariants as kinds
use Rattle.algol_tree.specs.declared.token.Reserved.TheVariants as reserved
use Rattle.algol_tree.specs.declared.token.Symbol.TheVariants as symbols
use Rattle.algol_tree.specs.declared.tree.Kind.{Kind}
use Rattle.algol_tree.specs.declared.tree.Kind.TheVariants as types
use Rattle.algol_tree.specs.declared.tree.Spec.TheVariants as specs
use Rattle.algol_tree.specs.Tokens.{is_word, is_symbol}
use Rattle.algol_tree.specs.Headings.{type_of}
use Rattle.algol_tree.specs.Due.{name_is, names, low, lows, specified, heading, Make, value_put, Due, make, symbol, spelled, named, names_more, printer_part, files_more, literal, number_negated, lows_more, values_part, spec, spec_typed, specs_more, Turn, takes, makes, skips, refuses, plain, followed, either, optional}

-- how values are made into one

abbrev pub name_added : Make
name_added (name_is n ∷ names ns ∷ vs) = names (ns ++ n ∷ []) ∷ vs
name_added vs = vs

abbrev pub low_added : Make
low_added (low l ∷ lows ls ∷ vs) = lows (ls ++ l ∷ []) ∷ vs
low_added vs = vs

abbrev pub spec_simple : Kind → Make
spec_simple kind (names ns ∷ specified ss ∷ vs) = specified (ss ++ specs.Simple kind ns ∷ []) ∷ vs
spec_simple kind vs = vs

abbrev pub spec_events : Make
spec_events (names ns ∷ specified ss ∷ vs) = specified (ss ++ specs.Events ns ∷ []) ∷ vs
spec_events vs = vs

abbrev pub spec_arrays : Kind → Make
spec_arrays kind (lows ls ∷ names ns ∷ specified ss ∷ vs) = specified (ss ++ specs.Arrays kind ns ls ∷ []) ∷ vs
spec_arrays kind vs = vs

abbrev pub headed : Option Kind → Make
headed kind (name_is n ∷ vs) = heading (record { kind = kind; name = n; params = []; values = []; specs = [] }) ∷ vs
headed kind vs = vs

abbrev pub headed_with : Option Kind → Make
headed_with kind (specified ss ∷ names values ∷ names params ∷ name_is n ∷ vs) =
    heading (record { kind = kind; name = n; params = params; values = values; specs = ss }) ∷ vs
headed_with kind vs = vs

-- name

abbrev pub turn_named : Spot → TokenKind → Turn
turn_named spot (kinds.Name name) = takes plain (make (value_put (name_is (record { name = name; spot = spot }))) ∷ [])
turn_named spot k = refuses

-- name { "," name }
abbrev pub names_in_list : List Due
names_in_list = make (value_put (names [])) ∷ named ∷ make name_added ∷ names_more ∷ []

abbrev pub turn_names_more : TokenKind → Turn
turn_names_more k = either (is_symbol symbols.Comma k) (takes plain (named ∷ make name_added ∷ names_more ∷ [])) skips

-- file { "," file }
abbrev pub files_in : List Due
files_in = make (value_put (names [])) ∷ named ∷ make name_added ∷ printer_part ∷ files_more ∷ []

abbrev pub turn_printer_part : TokenKind → Turn
turn_printer_part k = either (is_symbol symbols.OpenRound k)
    (takes plain (spelled (codes "KIND") ∷ symbol symbols.Equal ∷ spelled (codes "PRINTER") ∷ symbol symbols.CloseRound ∷ [])) skips

abbrev pub turn_files_more : TokenKind → Turn
turn_files_more k = either (is_symbol symbols.Comma k) (takes plain (named ∷ make name_added ∷ printer_part ∷ files_more ∷ [])) skips

-- literal = [ "-" ] number

abbrev pub turn_negated : TokenKind → Turn
turn_negated (kinds.Number value) = takes plain (make (value_put (low (pos 0 -ℤ value))) ∷ [])
turn_negated k = refuses

abbrev pub turn_literal : TokenKind → Turn
turn_literal (kinds.Number value) = takes plain (make (value_put (low value)) ∷ [])
turn_literal (kinds.Symbol symbols.Minus) = takes plain (number_negated ∷ [])
turn_literal k = refuses

abbrev pub turn_lows_more : TokenKind → Turn
turn_lows_more k = either (is_symbol symbols.Comma k) (takes plain (literal ∷ make low_added ∷ [])) skips

-- [ VALUE names ";" ]
abbrev pub turn_values_part : TokenKind → Turn
turn_values_part k = either (is_word reserved.Value k) (takes plain (names_in_list ++ symbol symbols.Semicolon ∷ [])) (makes (value_put (names [])))

-- an array's specification after its word ARRAY
abbrev pub rows_specified : Kind → List Due
rows_specified kind = names_in_list ++ symbol symbols.OpenSquare ∷ make (value_put (lows [])) ∷ literal ∷ make low_added ∷ lows_more
    ∷ symbol symbols.CloseSquare ∷ symbol symbols.Semicolon ∷ make (spec_arrays kind) ∷ []

-- a specification after its type: names ";" | ARRAY names "[" literal [ "," literal ] "]" ";"
abbrev pub turn_spec_typed : Kind → Spot → TokenKind → Turn
turn_spec_typed kind spot (kinds.Name name) = takes plain (make (value_put (names (record { name = name; spot = spot } ∷ []))) ∷ names_more
    ∷ symbol symbols.Semicolon ∷ make (spec_simple kind) ∷ [])
turn_spec_typed kind spot (kinds.Word reserved.Array) = takes plain (rows_specified kind)
turn_spec_typed kind spot k = refuses

-- the turn of a specification, or of what stands in its place
abbrev pub turn_spec : TokenKind → Turn → Turn
turn_spec k otherwise = optional (type_of k) (λ kind. spec_typed kind ∷ [])
    (either (is_word reserved.Event k) (takes plain (names_in_list ++ symbol symbols.Semicolon ∷ make spec_events ∷ []))
    (either (is_word reserved.Array k) (takes plain (rows_specified types.Number)) otherwise))

abbrev pub turn_specs_more : TokenKind → Turn
turn_specs_more k = followed (turn_spec k skips) (specs_more ∷ [])

-- a heading after its name, which is the newest value: ";" | "(" names ")" ";" [ VALUE names ";" ] spec { spec }
abbrev pub turn_behind_procedure : Option Kind → TokenKind → Turn
turn_behind_procedure kind k = either (is_symbol symbols.Semicolon k) (takes plain (make (headed kind) ∷ []))
    (either (is_symbol symbols.OpenRound k)
    (takes plain (names_in_list ++ symbol symbols.CloseRound ∷ symbol symbols.Semicolon ∷ values_part ∷ make (value_put (specified [])) ∷ spec ∷ specs_more
    ∷ make (headed_with kind) ∷ []))
    refuses)
