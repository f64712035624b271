-- The names that a block makes known, as tables of them.
use Rattle.std.specs.Prelude.{◌≡◌, ℕ, Bool, false, ◌||◌, is_some, List, Option, Some, None}
use Rattle.std.specs.Borrow.{Bor}
use Rattle.std.specs.BTreeMap.{BTreeMap}
use Rattle.std.specs.Map.{update}
use Rattle.std.specs.Str.{bytes_eq}
use Rattle.algol_sorts.specs.declared.key.Key.{Key}
pub use Rattle.algol_sorts.specs.Tables.{sort_named}
use Rattle.algol_known.specs.declared.known.Entry.{Entry}
use Rattle.algol_known.specs.declared.known.Seen.{Seen}
use Rattle.algol_known.specs.declared.known.Seen.TheVariants as seen

-- declarations by their names
abbrev pub NameTable : Type 0
NameTable = BTreeMap Key Entry

abbrev pub entry_in : NameTable → List ℕ → Option Entry
entry_in table name = sort_named table name

-- a table with no name
abbrev pub IsBare : NameTable → Type 0
IsBare table = (name : List ℕ) → entry_in table name ≡ None

-- the second table has this entry for the name, and for each other name what the first has
abbrev pub NamePuts : NameTable → NameTable → List ℕ → Entry → Type 0
NamePuts old new name entry = (q : List ℕ) → entry_in new q ≡ update bytes_eq (entry_in old) name (Some entry) q

abbrev pub or_else : Option Entry → Option Entry → Option Entry
or_else None other = other
or_else (Some entry) other = Some entry

-- what is seen under a name: of the declarations, where they are seen, and else of the parameters
abbrev pub seen_under : NameTable → NameTable → Seen → List ℕ → Option Entry
seen_under declared parameters seen.All name = or_else (entry_in declared name) (entry_in parameters name)
seen_under declared parameters seen.BeforeDeclarations name = entry_in parameters name

abbrev pub is_typed : Option (Bor (List ℕ)) → List ℕ → Bool
is_typed None name = false
is_typed (Some typed) name = bytes_eq typed.now name

-- whether a block has the name: of its result, or declared in it
abbrev pub has_name : Option (Bor (List ℕ)) → NameTable → NameTable → List ℕ → Bool
has_name typed declared parameters name = is_typed typed name || is_some (seen_under declared parameters seen.All name)
