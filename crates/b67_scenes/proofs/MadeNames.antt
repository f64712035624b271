-- The name of a cell that actions make is none of a simple cell.
use Rattle.std.proofs.Common.{◌≡◌, refl, ap, ◌∙◌, ℕ, ◌+◌, List, [], ◌∷◌, ◌++◌, Option, Some, None, Bool, true, false}
use Rattle.b67_list.proofs.Numbers.{none_some}
use Rattle.b67_list.proofs.Truths.{true_false}
use Rattle.b67_scenes.proofs.Prelude.{if◌then◌else◌, same_name, Cell, simple, array, event, reference, NamedCell, cell_in, Word, Simple, Wanted, Found, found_from, CellIs, CellsAre}
use Rattle.algol_meaning.specs.Value as meant
use Rattle.b67_templates.specs.Cells as wants

-- an array or an event
abbrev pub is_made : Cell → Bool
is_made (array a) = true
is_made (event e) = true
is_made _ = false

simple_is : (wanted : Wanted) (c : Cell) (word : Word) → CellIs wanted c word → is_made c ≡ false
simple_is (wants.value k) (simple v) word is = refl
simple_is (wants.array shape) (reference r) word is = refl
simple_is wants.event (reference r) word is = refl
simple_is (wants.by_name kind) (reference r) word is = refl
simple_is (wants.by_name kind) (meant.named n) word is = refl
simple_is _ c word is = absurd is

not_made : (ss : List Simple) (cells : List NamedCell) (words : List Word) (more : List NamedCell) (from : ℕ) (name : List ℕ) (f : Found) → CellsAre ss cells words → found_from from ss name ≡ Some f →
    is_made (cell_in (cells ++ more) name) ≡ false
not_made [] cells words more from name f are e = none_some e
not_made (s ∷ ss) [] words more from name f are e = absurd are
not_made (s ∷ ss) (c ∷ cells) [] more from name f are e = absurd are
not_made (s ∷ ss) (c ∷ cells) (w ∷ words) more from name f are e =
    by_name (not_made ss cells words more (from + 1) name f are.2) (same_name s.name name) e (ap (λ (n : List ℕ). same_name n name) are.0)
  where
    by_name : (found_from (from + 1) ss name ≡ Some f → is_made (cell_in (cells ++ more) name) ≡ false) → (b : Bool) →
        (if b then Some (record { number = from; cell = s }) else found_from (from + 1) ss name) ≡ Some f → same_name c.name name ≡ b →
        is_made (if same_name c.name name then c.cell else cell_in (cells ++ more) name) ≡ false
    by_name later true h same = ap (λ (b : Bool). is_made (if b then c.cell else cell_in (cells ++ more) name)) same ∙ simple_is s.wanted c.cell w are.1
    by_name later false h same = ap (λ (b : Bool). is_made (if b then c.cell else cell_in (cells ++ more) name)) same ∙ later h

-- the name of a cell that is made is none of a simple one
pub no_simple : (ss : List Simple) (cells : List NamedCell) (words : List Word) (more : List NamedCell) (name : List ℕ) (c : Cell) → CellsAre ss cells words → cell_in (cells ++ more) name ≡ c → is_made c ≡ true →
    found_from 0 ss name ≡ None
no_simple ss cells words more name c are has made = by_found (found_from 0 ss name) refl
  where
    by_found : (o : Option Found) → found_from 0 ss name ≡ o → o ≡ None
    by_found None e = refl
    by_found (Some f) e = true_false (ap is_made has ∙ made) (not_made ss cells words more 0 name f are e)
