-- Notes lead where the entries themselves do.
use Rattle.std.proofs.Common.{◌≡◌, ◌≢◌, refl, sym, ap, ◌∙◌, subst, ℕ, zero, suc, ◌+◌, ◌<◌, ◌≤◌, nat_eq, nat_lt, List, [], ◌∷◌, length, drop, Bool, true, false, Option, Some, None, arith}
use Rattle.std.specs.Prelude.{◌↔◌, IsTrue, if◌then◌else◌, slice_get}
use Rattle.std.proofs.lemmas.Bool.Decides.{nat_tests}
use Rattle.algol_tree.specs.Sorts.{same_name}
use Rattle.algol_tree.proofs.Names.{same_name_is, same_name_itself}
use Rattle.b67_commands.specs.declared.command.Command.{Command}
use Rattle.b67_commands.specs.declared.command.Command.TheVariants.{Go, Store, Show, Stack, Regs}
use Rattle.b67_commands.specs.declared.noting.Note.{Note}
use Rattle.b67_commands.specs.Positions.{Stored, stores_under, to_store}
use Rattle.b67_commands.specs.Noting.{looks_for, looked_from, looked_for, looked_for_by, note_added, notes_from, next_noted, NotesLeadToTheNext}

-- ---- names

pub decides : (r : Bool) (a b : List ℕ) → IsTrue r ↔ (a ≡ b) → r ≡ same_name a b
decides true a b d = let same : a ≡ b = d.0 refl in sym (ap (same_name a) (sym same) ∙ same_name_itself a)
decides false a b d = by_same (same_name a b) refl
  where
    by_same : (x : Bool) → same_name a b ≡ x → false ≡ x
    by_same false p = refl
    by_same true p = d.1 (same_name_is a b p)

looks_so : (command : Command) (name : List ℕ) → looks_for command name ≡ true → command ≡ Store name
looks_so (Store other) name e = ap (λ (xs : List ℕ). Store xs) (same_name_is other name e)
looks_so (Go n) name e = let wrong : false ≡ true = e in cc
looks_so Show name e = let wrong : false ≡ true = e in cc
looks_so (Stack p) name e = let wrong : false ≡ true = e in cc
looks_so (Regs p) name e = let wrong : false ≡ true = e in cc

-- a command that is found is not before the first
place_least : (first : ℕ) (commands : List Command) (name : List ℕ) (place : ℕ) → looked_from first commands name ≡ Some place → first ≤ place
place_least first [] name place e = let wrong : None ≡ Some place = e in cc
place_least first (command ∷ commands) name place e = by_first (looks_for command name) e (λ f. place_least (first + 1) commands name place f)
  where
    by_first : (x : Bool) → (if x then Some first else looked_from (first + 1) commands name) ≡ Some place
        → (looked_from (first + 1) commands name ≡ Some place → first + 1 ≤ place) → first ≤ place
    by_first true e later = let same : first ≡ place = cc in omega (arith, same)
    by_first false e later = let more : first + 1 ≤ place = later e in omega (arith, more)

-- one place is of one name
one_name : (first : ℕ) (commands : List Command) (name other : List ℕ) (place : ℕ) → looked_from first commands name ≡ Some place → looked_from first commands other ≡ Some place
    → name ≡ other
one_name first [] name other place a b = let wrong : None ≡ Some place = a in cc
one_name first (command ∷ commands) name other place a b = by_two (looks_for command name) (looks_for command other) refl refl a b
    (λ f g. one_name (first + 1) commands name other place f g)
  where
    apart : (name : List ℕ) → Some first ≡ Some place → looked_from (first + 1) commands name ≡ Some place → ⊥
    apart name e found =
        let same : first ≡ place = cc in
        let more : first + 1 ≤ place = place_least (first + 1) commands name place found in omega (arith, same, more)

    by_two : (p q : Bool) → looks_for command name ≡ p → looks_for command other ≡ q → (if p then Some first else looked_from (first + 1) commands name) ≡ Some place
        → (if q then Some first else looked_from (first + 1) commands other) ≡ Some place
        → (looked_from (first + 1) commands name ≡ Some place → looked_from (first + 1) commands other ≡ Some place → name ≡ other) → name ≡ other
    by_two true true p q a b later = let same : Store name ≡ Store other = sym (looks_so command name p) ∙ looks_so command other q in cc
    by_two true false p q a b later = absurd (apart other a b)
    by_two false true p q a b later = absurd (apart name b a)
    by_two false false p q a b later = later a b

-- ---- the walk over the notes

module _ (commands : List Command) (name : List ℕ) (place k : ℕ) (looked : looked_for commands name ≡ Some place) where
  -- an entry for whose name no command looks does not store under this one
  not_noted : (entry : Option (List ℕ)) → looked_for_by commands entry ≡ None → stores_under name entry ≡ false
  not_noted None e = refl
  not_noted (Some other) e = by_same (same_name other name) refl
    where
      by_same : (x : Bool) → same_name other name ≡ x → x ≡ false
      by_same false p = refl
      by_same true p =
          let same : other ≡ name = same_name_is other name p in
          let found : looked_for commands other ≡ Some place = ap (looked_for commands) same ∙ looked in cc

  -- the note of an entry is of this name exactly where it stores under it
  noted_so : (entry : Option (List ℕ)) (other : ℕ) → looked_for_by commands entry ≡ Some other → nat_eq other place ≡ stores_under name entry
  noted_so None other e = cc
  noted_so (Some stored) other e = by_same (same_name stored name) (nat_eq other place) refl refl
    where
      by_same : (x y : Bool) → same_name stored name ≡ x → nat_eq other place ≡ y → y ≡ x
      by_same true true p q = refl
      by_same false false p q = refl
      by_same true false p q =
          let found : looked_for commands stored ≡ Some place = ap (looked_for commands) (same_name_is stored name p) ∙ looked in
          let same : other ≡ place = cc in
          let wrong : other ≢ place = grind (arith, nat_tests, q) in absurd (wrong same)
      by_same false true p q =
          let same : other ≡ place = grind (arith, nat_tests, q) in
          let one : stored ≡ name = one_name 0 commands stored name place (e ∙ ap (λ (x : ℕ). Some x) same) looked in
          let holds : same_name stored name ≡ true = ap (λ (xs : List ℕ). same_name xs name) one ∙ same_name_itself name in cc

  abbrev next_of : List Note → ℕ → ℕ
  next_of notes all = next_noted notes all k place

  -- a note of one of the first k entries is passed over
  passed : (number : ℕ) (o : Option ℕ) (notes : List Note) (all : ℕ) → number ≤ k → next_of (note_added number o notes) all ≡ next_of notes all
  passed number None notes all few = refl
  passed number (Some other) notes all few =
      let lacks : nat_lt k number ≡ false = grind (arith, nat_tests, few) in rw lacks refl

  -- .. and one of a later entry is where it leads, if it is of this name
  taken : (number other : ℕ) (notes : List Note) (all : ℕ) (x : Bool) → k < number → nat_eq other place ≡ x
      → next_of (note_added number (Some other) notes) all ≡ (if x then number else next_of notes all)
  taken number other notes all x above e = let holds : nat_lt k number ≡ true = grind (arith, nat_tests, above) in rw (holds, e) refl

  -- after the first k entries, b have been passed
  after_k : (stored : Stored) (b : ℕ) → k ≤ b → next_of (notes_from commands (b + 1) stored) (b + length stored) ≡ b + to_store name stored
  after_k [] b few = refl
  after_k (entry ∷ rest) b few = by_note (looked_for_by commands entry) refl (after_k rest (b + 1) (omega (arith, few)))
    where
      rest_is : next_of (notes_from commands (b + 1 + 1) rest) (b + 1 + length rest) ≡ b + 1 + to_store name rest → next_of (notes_from commands (b + 1 + 1) rest) (b + suc (length rest)) ≡ b + suc (to_store name rest)
      rest_is so =
          let size : b + suc (length rest) ≡ b + 1 + length rest = omega arith in
          let sum : b + 1 + to_store name rest ≡ b + suc (to_store name rest) = omega arith in ap (λ (n : ℕ). next_of (notes_from commands (b + 1 + 1) rest) n) size ∙ so ∙ sum

      by_store : (x : Bool) → next_of (notes_from commands (b + 1 + 1) rest) (b + suc (length rest)) ≡ b + suc (to_store name rest)
          → (if x then b + 1 else next_of (notes_from commands (b + 1 + 1) rest) (b + suc (length rest))) ≡ b + (if x then 1 else suc (to_store name rest))
      by_store true so = refl
      by_store false so = so

      by_note : (o : Option ℕ) → looked_for_by commands entry ≡ o → next_of (notes_from commands (b + 1 + 1) rest) (b + 1 + length rest) ≡ b + 1 + to_store name rest
          → next_of (note_added (b + 1) o (notes_from commands (b + 1 + 1) rest)) (b + suc (length rest)) ≡ b + (if stores_under name entry then 1 else suc (to_store name rest))
      by_note None e so = let lacking : stores_under name entry ≡ false = not_noted entry e in rw lacking (rest_is so)
      by_note (Some other) e so =
          taken (b + 1) other (notes_from commands (b + 1 + 1) rest) (b + suc (length rest)) (stores_under name entry) (omega (arith, few)) (noted_so entry other e) ∙ by_store (stores_under name entry) (rest_is so)

  -- with the first b of the first k entries passed, and j to be passed yet
  from_here : (stored : Stored) (j b : ℕ) → b + j ≡ k → j ≤ length stored
      → next_of (notes_from commands (b + 1) stored) (b + length stored) ≡ k + to_store name (drop j stored)
  from_here stored zero b e few =
      let same : b ≡ k = omega (arith, e) in
      let within : k ≤ b = omega (arith, e) in after_k stored b within ∙ ap (λ (n : ℕ). n + to_store name stored) same
  from_here [] (suc i) b e few = absurd (omega (arith, few))
  from_here (entry ∷ rest) (suc i) b e few =
      let front : b + 1 ≤ k = omega (arith, e) in
      let on : b + 1 + i ≡ k = omega (arith, e) in
      let size : b + suc (length rest) ≡ b + 1 + length rest = omega arith in
      passed (b + 1) (looked_for_by commands entry) (notes_from commands (b + 1 + 1) rest) (b + suc (length rest)) front
      ∙ ap (λ (n : ℕ). next_of (notes_from commands (b + 1 + 1) rest) n) size ∙ from_here rest i (b + 1) on (omega (arith, few))

pub notes_lead : NotesLeadToTheNext
notes_lead commands stored name place k looked within =
    let all : 0 + length stored ≡ length stored = omega arith in
    let on : 0 + k ≡ k = omega arith in
    subst (λ (n : ℕ). next_noted (notes_from commands 1 stored) n k place ≡ k + to_store name (drop k stored)) all
    (from_here commands name place k looked stored k 0 on within)

-- a command that is there and looks for a name is found, or an earlier one is
found_from : (first : ℕ) (commands : List Command) (place : ℕ) (name : List ℕ) → slice_get commands place ≡ Some (Store name) → looked_from first commands name ≡ None → ⊥
found_from first [] place name at none = let wrong : None ≡ Some (Store name) = at in cc
found_from first (command ∷ commands) place name at none = by_first (looks_for command name) refl none (λ n there lacking. found_from (first + 1) commands n name there lacking)
  where
    by_place : (place : ℕ) → slice_get (command ∷ commands) place ≡ Some (Store name) → looks_for command name ≡ false → looked_from (first + 1) commands name ≡ None
        → ((n : ℕ) → slice_get commands n ≡ Some (Store name) → looked_from (first + 1) commands name ≡ None → ⊥) → ⊥
    by_place zero at lacks none later =
        let same : command ≡ Store name = cc in
        let holds : looks_for command name ≡ true = ap (λ (c : Command). looks_for c name) same ∙ same_name_itself name in
        let wrong : true ≡ false = sym holds ∙ lacks in cc
    by_place (suc n) at lacks none later = later n at none

    by_first : (x : Bool) → looks_for command name ≡ x → (if x then Some first else looked_from (first + 1) commands name) ≡ None
        → ((n : ℕ) → slice_get commands n ≡ Some (Store name) → looked_from (first + 1) commands name ≡ None → ⊥) → ⊥
    by_first true e none later = let wrong : Some first ≡ None = none in cc
    by_first false e none later = by_place place at e none later

pub found_some : (commands : List Command) (place : ℕ) (name : List ℕ) → slice_get commands place ≡ Some (Store name) → looked_for commands name ≡ None → ⊥
found_some commands place name at none = found_from 0 commands place name at none
