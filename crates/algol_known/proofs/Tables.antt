-- Tables of names after an entry was put in.
use Rattle.std.proofs.Common.{◌≡◌, ℕ, List, Some}
use Rattle.std.specs.Borrow.{Bor}
use Rattle.std.specs.BTreeMap as tree
use Rattle.algol_sorts.specs.Tables.{end_of}
use Rattle.algol_sorts.specs.declared.key.Key.{Key}
use Rattle.algol_sorts.proofs.Keys.{key_cmp, updates_key}
use Rattle.algol_known.specs.declared.known.Entry.{Entry}
use Rattle.algol_known.specs.Naming.{NameTable, NamePuts}

pub puts_entry : (name : Bor (List ℕ)) (key : Key) (old new : NameTable) (entry : Entry) → key ≡ record { end = end_of name.now; bytes = name } →
    tree.UpdatesBy key_cmp (key_cmp key) old new (Some entry) → NamePuts old new name.now entry
puts_entry name key old new entry e u = λ q. updates_key name key old new (Some entry) e u q
