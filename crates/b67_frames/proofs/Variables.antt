-- The cell and the word of a variable.
use Rattle.std.proofs.Common.{◌≡◌, refl, sym, ap, ◌∙◌, subst, ℕ, zero, suc, ◌+◌, List, [], ◌∷◌, ◌++◌, Some, Bool, true, false, arith}
use Rattle.b67_frames.proofs.Prelude.{slice_get, slice_set, if◌then◌else◌, same_name, Kind, Value, Cell, simple, event, array, named, reference, NamedCell, cell_in, cells_with, Word, Simple, Found, found_from, Wanted, HasKind, ValueIs, some_same, CellIs, CellsAre}
use Rattle.b67_templates.specs.Cells as wants

-- the word of the first cell of a name
pub record Cell_of (f : Found) (from : ℕ) (name : List ℕ) (cells : List NamedCell) (words : List Word) : Type 0 where
  pub word : Word
  pub far : ℕ
  pub number : f.number ≡ from + far
  pub lies : slice_get words far ≡ Some word
  pub is : CellIs f.cell.wanted (cell_in cells name) word

pub variable_cell : (ss : List Simple) (cells : List NamedCell) (words : List Word) (from : ℕ) (name : List ℕ) (f : Found) → CellsAre ss cells words → found_from from ss name ≡ Some f →
    Cell_of f from name cells words
variable_cell [] cells words from name f are e = cc
variable_cell (s ∷ ss) [] words from name f are e = absurd are
variable_cell (s ∷ ss) (c ∷ cells) [] from name f are e = absurd are
variable_cell (s ∷ ss) (c ∷ cells) (w ∷ words) from name f are e =
    by_name (variable_cell ss cells words (from + 1) name f are.2) (same_name s.name name) e (ap (λ (n : List ℕ). same_name n name) are.0)
  where
    by_name : (found_from (from + 1) ss name ≡ Some f → Cell_of f (from + 1) name cells words) → (b : Bool) → (if b then Some (record { number = from; cell = s }) else found_from (from + 1) ss name) ≡ Some f → same_name c.name name ≡ b → Cell_of f from name (c ∷ cells) (w ∷ words)
    by_name rest true h same =
        let is_f : record { number = from; cell = s } ≡ f = cc in
        let cell_is : cell_in (c ∷ cells) name ≡ c.cell = ap (λ b. if b then c.cell else cell_in cells name) same in
        record {
          word = w;
          far = 0;
          number = ap (λ (x : Found). x.number) (sym is_f) ∙ omega arith;
          lies = refl;
          is = subst (λ (x : Found). CellIs x.cell.wanted (cell_in (c ∷ cells) name) w) is_f (subst (λ (k : Cell). CellIs s.wanted k w) (sym cell_is) are.1);
        }
    by_name rest false h same =
        let later = rest h in
        let cell_is : cell_in (c ∷ cells) name ≡ cell_in cells name = ap (λ b. if b then c.cell else cell_in cells name) same in
        record {
          word = later.word;
          far = suc later.far;
          number = later.number ∙ omega arith;
          lies = later.lies;
          is = subst (λ (k : Cell). CellIs f.cell.wanted k later.word) (sym cell_is) later.is;
        }

-- cells after do not hide it
pub cell_front : (ss : List Simple) (cells more : List NamedCell) (words : List Word) (from : ℕ) (name : List ℕ) (f : Found) → CellsAre ss cells words → found_from from ss name ≡ Some f →
    cell_in (cells ++ more) name ≡ cell_in cells name
cell_front [] cells more words from name f are e = cc
cell_front (s ∷ ss) [] more words from name f are e = absurd are
cell_front (s ∷ ss) (c ∷ cells) more [] from name f are e = absurd are
cell_front (s ∷ ss) (c ∷ cells) more (w ∷ words) from name f are e =
    by_name (cell_front ss cells more words (from + 1) name f are.2) (same_name s.name name) e (ap (λ (n : List ℕ). same_name n name) are.0)
  where
    by_name : (found_from (from + 1) ss name ≡ Some f → cell_in (cells ++ more) name ≡ cell_in cells name) → (b : Bool) →
        (if b then Some (record { number = from; cell = s }) else found_from (from + 1) ss name) ≡ Some f → same_name c.name name ≡ b →
        (if same_name c.name name then c.cell else cell_in (cells ++ more) name) ≡ (if same_name c.name name then c.cell else cell_in cells name)
    by_name rest true h same = ap (λ b. if b then c.cell else cell_in (cells ++ more) name) same ∙ sym (ap (λ b. if b then c.cell else cell_in cells name) same)
    by_name rest false h same =
        ap (λ b. if b then c.cell else cell_in (cells ++ more) name) same ∙ rest h ∙ sym (ap (λ b. if b then c.cell else cell_in cells name) same)

-- it is changed among the first cells
pub changed_front : (ss : List Simple) (cells more : List NamedCell) (words : List Word) (from : ℕ) (name : List ℕ) (f : Found) (cell : Cell) → CellsAre ss cells words → found_from from ss name ≡ Some f →
    cells_with (cells ++ more) name cell ≡ cells_with cells name cell ++ more
changed_front [] cells more words from name f cell are e = cc
changed_front (s ∷ ss) [] more words from name f cell are e = absurd are
changed_front (s ∷ ss) (c ∷ cells) more [] from name f cell are e = absurd are
changed_front (s ∷ ss) (c ∷ cells) more (w ∷ words) from name f cell are e =
    by_name (changed_front ss cells more words (from + 1) name f cell are.2) (same_name s.name name) e (ap (λ (n : List ℕ). same_name n name) are.0)
  where
    by_name : (found_from (from + 1) ss name ≡ Some f → cells_with (cells ++ more) name cell ≡ cells_with cells name cell ++ more) → (b : Bool) →
        (if b then Some (record { number = from; cell = s }) else found_from (from + 1) ss name) ≡ Some f → same_name c.name name ≡ b →
        (if same_name c.name name then record c { cell = cell } ∷ (cells ++ more) else c ∷ cells_with (cells ++ more) name cell)
        ≡ (if same_name c.name name then record c { cell = cell } ∷ cells else c ∷ cells_with cells name cell) ++ more
    by_name rest true h same =
        ap (λ b. if b then record c { cell = cell } ∷ (cells ++ more) else c ∷ cells_with (cells ++ more) name cell) same
        ∙ sym (ap (λ b. (if b then record c { cell = cell } ∷ cells else c ∷ cells_with cells name cell) ++ more) same)
    by_name rest false h same =
        ap (λ b. if b then record c { cell = cell } ∷ (cells ++ more) else c ∷ cells_with (cells ++ more) name cell) same
        ∙ ap (λ (cs : List NamedCell). c ∷ cs) (rest h)
        ∙ sym (ap (λ b. (if b then record c { cell = cell } ∷ cells else c ∷ cells_with cells name cell) ++ more) same)

-- a cell of a kind holds a value of that kind
pub record Holds_value (k : Kind) (c : Cell) (w : Word) : Type 0 where
  pub value : Value
  pub is : c ≡ simple value
  pub kind : HasKind k value
  pub word : ValueIs value w

pub value_of_cell : (k : Kind) (c : Cell) (w : Word) → CellIs (wants.value k) c w → Holds_value k c w
value_of_cell k (simple v) w is = record { value = v; is = refl; kind = is.0; word = is.1 }
value_of_cell k (event e) w is = absurd is
value_of_cell k (array a) w is = absurd is
value_of_cell k (named n) w is = absurd is
value_of_cell k (reference r) w is = absurd is

-- another value of the kind, in the cell and as its word
pub cell_changed : (ss : List Simple) (cells : List NamedCell) (words : List Word) (from : ℕ) (name : List ℕ) (f : Found) (k : Kind) (v : Value) (w : Word) (far : ℕ) → CellsAre ss cells words →
    found_from from ss name ≡ Some f → f.cell.wanted ≡ wants.value k → f.number ≡ from + far → HasKind k v → ValueIs v w → CellsAre ss (cells_with cells name (simple v)) (slice_set words far w)
cell_changed [] cells words from name f k v w far are e kind number fits is = cc
cell_changed (s ∷ ss) [] words from name f k v w far are e kind number fits is = absurd are
cell_changed (s ∷ ss) (c ∷ cells) [] from name f k v w far are e kind number fits is = absurd are
cell_changed (s ∷ ss) (c ∷ cells) (x ∷ words) from name f k v w far are e kind number fits is =
    by_name (variable_cell ss cells words (from + 1) name f are.2)
    (λ n h m. cell_changed ss cells words (from + 1) name f k v w n are.2 h kind m fits is) (same_name s.name name) e (ap (λ (n : List ℕ). same_name n name) are.0) far number
  where
    by_name : (found_from (from + 1) ss name ≡ Some f → Cell_of f (from + 1) name cells words) →
        ((n : ℕ) → found_from (from + 1) ss name ≡ Some f → f.number ≡ from + 1 + n → CellsAre ss (cells_with cells name (simple v)) (slice_set words n w)) →
        (b : Bool) → (if b then Some (record { number = from; cell = s }) else found_from (from + 1) ss name) ≡ Some f → same_name c.name name ≡ b → (far : ℕ) → f.number ≡ from + far → CellsAre (s ∷ ss) (cells_with (c ∷ cells) name (simple v)) (slice_set (x ∷ words) far w)
    by_name there rest true h same far number =
        let is_f : record { number = from; cell = s } ≡ f = cc in
        let none_far : far ≡ 0 = omega (arith, number, ap (λ (y : Found). y.number) is_f) in
        let cells_are : cells_with (c ∷ cells) name (simple v) ≡ record c { cell = simple v } ∷ cells =
        ap (λ b. if b then record c { cell = simple v } ∷ cells else c ∷ cells_with cells name (simple v)) same in
        let kind_is : s.wanted ≡ wants.value k = ap (λ (y : Found). y.cell.wanted) is_f ∙ kind in
        subst (λ (n : ℕ). CellsAre (s ∷ ss) (cells_with (c ∷ cells) name (simple v)) (slice_set (x ∷ words) n w)) (sym none_far)
        (subst (λ (cs : List NamedCell). CellsAre (s ∷ ss) cs (w ∷ words)) (sym cells_are)
        (are.0, subst (λ (o : Wanted). CellIs o (simple v) w) (sym kind_is) (fits, is), are.2))
    by_name there rest false h same zero number =
        let later = there h in
        absurd (omega (arith, number, later.number))
    by_name there rest false h same (suc far) number =
        let cells_are : cells_with (c ∷ cells) name (simple v) ≡ c ∷ cells_with cells name (simple v) =
        ap (λ b. if b then record c { cell = simple v } ∷ cells else c ∷ cells_with cells name (simple v)) same in
        subst (λ (cs : List NamedCell). CellsAre (s ∷ ss) cs (x ∷ slice_set words far w)) (sym cells_are)
        (are.0, are.1, rest far h (omega (arith, number)))

-- ---- references

-- it has no value
abbrev pub HasNoValue : Cell → Type 0
HasNoValue (simple v) = ⊥
HasNoValue _ = Unit {0}

-- Each of the one cells that has no value is one of the others, with its word.
abbrev pub ReferencesStay : List NamedCell → List Word → List NamedCell → List Word → Type 0
ReferencesStay cells words cells' words' =
    (k : ℕ) (c : NamedCell) (word : Word) → slice_get cells k ≡ Some c → slice_get words k ≡ Some word → HasNoValue c.cell →
    (slice_get cells' k ≡ Some c) × (slice_get words' k ≡ Some word)

-- a cell of a kind is none
no_reference : (o : Wanted) (k : Kind) (c : Cell) (w : Word) → CellIs o c w → o ≡ wants.value k → HasNoValue c → ⊥
no_reference o k (simple v) w is kind none = none
no_reference o k (event e) w is kind none = subst (λ (p : Wanted). CellIs p (event e) w) kind is
no_reference o k (array a) w is kind none = subst (λ (p : Wanted). CellIs p (array a) w) kind is
no_reference o k (named a) w is kind none = subst (λ (p : Wanted). CellIs p (named a) w) kind is
no_reference o k (reference r) w is kind none = subst (λ (p : Wanted). CellIs p (reference r) w) kind is

-- so references stay where a variable changes
pub references_stored : (ss : List Simple) (cells : List NamedCell) (words : List Word) (from : ℕ) (name : List ℕ) (f : Found) (k : Kind) (v : Value) (w : Word) (far : ℕ) → CellsAre ss cells words →
    found_from from ss name ≡ Some f → f.cell.wanted ≡ wants.value k → f.number ≡ from + far → ReferencesStay cells words (cells_with cells name (simple v)) (slice_set words far w)
references_stored [] cells words from name f k v w far are e kind number = cc
references_stored (s ∷ ss) [] words from name f k v w far are e kind number = absurd are
references_stored (s ∷ ss) (c ∷ cells) [] from name f k v w far are e kind number = absurd are
references_stored (s ∷ ss) (c ∷ cells) (x ∷ words) from name f k v w far are e kind number =
    by_name (variable_cell ss cells words (from + 1) name f are.2)
    (λ n h m. references_stored ss cells words (from + 1) name f k v w n are.2 h kind m) (same_name s.name name) e (ap (λ (n : List ℕ). same_name n name) are.0) far number
  where
    by_name : (found_from (from + 1) ss name ≡ Some f → Cell_of f (from + 1) name cells words) →
        ((n : ℕ) → found_from (from + 1) ss name ≡ Some f → f.number ≡ from + 1 + n → ReferencesStay cells words (cells_with cells name (simple v)) (slice_set words n w)) →
        (b : Bool) → (if b then Some (record { number = from; cell = s }) else found_from (from + 1) ss name) ≡ Some f → same_name c.name name ≡ b → (far : ℕ) → f.number ≡ from + far →
        ReferencesStay (c ∷ cells) (x ∷ words) (cells_with (c ∷ cells) name (simple v)) (slice_set (x ∷ words) far w)
    by_name there rest true h same far number =
        let is_f : record { number = from; cell = s } ≡ f = cc in
        let none_far : far ≡ 0 = omega (arith, number, ap (λ (y : Found). y.number) is_f) in
        let cells_are : cells_with (c ∷ cells) name (simple v) ≡ record c { cell = simple v } ∷ cells =
        ap (λ b. if b then record c { cell = simple v } ∷ cells else c ∷ cells_with cells name (simple v)) same in
        let kind_is : s.wanted ≡ wants.value k = ap (λ (y : Found). y.cell.wanted) is_f ∙ kind in
        subst (λ (n : ℕ). ReferencesStay (c ∷ cells) (x ∷ words) (cells_with (c ∷ cells) name (simple v)) (slice_set (x ∷ words) n w)) (sym none_far)
        (subst (λ (cs : List NamedCell). ReferencesStay (c ∷ cells) (x ∷ words) cs (w ∷ words)) (sym cells_are) (stay_behind kind_is))
      where
        stay_behind : s.wanted ≡ wants.value k → ReferencesStay (c ∷ cells) (x ∷ words) (record c { cell = simple v } ∷ cells) (w ∷ words)
        stay_behind kind_is zero d word there lies is =
            let same : c ≡ d = some_same there in
            absurd (no_reference s.wanted k c.cell x are.1 kind_is (subst (λ (y : NamedCell). HasNoValue y.cell) (sym same) is))
        stay_behind kind_is (suc m) d word there lies is = (there, lies)
    by_name there rest false h same zero number =
        let later = there h in
        absurd (omega (arith, number, later.number))
    by_name there rest false h same (suc far) number =
        let cells_are : cells_with (c ∷ cells) name (simple v) ≡ c ∷ cells_with cells name (simple v) =
        ap (λ b. if b then record c { cell = simple v } ∷ cells else c ∷ cells_with cells name (simple v)) same in
        subst (λ (cs : List NamedCell). ReferencesStay (c ∷ cells) (x ∷ words) cs (x ∷ slice_set words far w)) (sym cells_are)
        (stay_on (rest far h (omega (arith, number))))
      where
        stay_on : ReferencesStay cells words (cells_with cells name (simple v)) (slice_set words far w) →
            ReferencesStay (c ∷ cells) (x ∷ words) (c ∷ cells_with cells name (simple v)) (x ∷ slice_set words far w)
        stay_on behind zero d word there lies is = (there, lies)
        stay_on behind (suc m) d word there lies is = behind m d word there lies is
