-- The cells of simple variables, and the arrays and events that are made after them: which of them a name means.
use Rattle.std.proofs.Common.{◌≡◌, refl, sym, ap, ◌∙◌, subst, ℕ, suc, ◌+◌, ◌<◌, ◌≤◌, List, [], ◌∷◌, ◌++◌, length, Some, None, Bool, true, false, arith}
use Rattle.b67_list.proofs.Numbers.{none_some}
use Rattle.b67_frames.proofs.Prelude.{if◌then◌else◌, slice_get, slice_set, map, EventState, same_name, elements_of, Bounds, ArrayCell, Cell, simple, event, array, named, reference, NamedCell, cell_in, cells_with, DeclaredArray, Made, an_array, lows_of, an_event, Word, Simple, found_from, made_from, FoundMade, Wanted, some_same, Allotted, DescriptorIs, AreSized, IsMadeSo, AreMade, CellIs, CellsAre}
use Rattle.b67_templates.specs.Cells as wants
use Rattle.b67_templates.specs.Cells.{made_name}

-- ---- lists

-- ---- simple cells

pub as_many_values : (ss : List Simple) (cells : List NamedCell) (ws : List Word) → CellsAre ss cells ws → length ws ≡ length ss
as_many_values [] [] [] are = refl
as_many_values [] [] (w ∷ ws) are = absurd are
as_many_values [] (c ∷ cells) ws are = absurd are
as_many_values (s ∷ ss) [] ws are = absurd are
as_many_values (s ∷ ss) (c ∷ cells) [] are = absurd are
as_many_values (s ∷ ss) (c ∷ cells) (w ∷ ws) are = ap suc (as_many_values ss cells ws are.2)

-- a name of none of these cells means what it means among those after them
pub record IsPast (cells : List NamedCell) (name : List ℕ) : Type 0 where
  pub found : (more : List NamedCell) → cell_in (cells ++ more) name ≡ cell_in more name
  pub changed : (more : List NamedCell) (c : Cell) → cells_with (cells ++ more) name c ≡ cells ++ cells_with more name c

one_past : (c : NamedCell) (cells : List NamedCell) (name : List ℕ) → same_name c.name name ≡ false → IsPast cells name → IsPast (c ∷ cells) name
one_past c cells name other past =
    record {
      found = λ more. ap (λ (b : Bool). if b then c.cell else cell_in (cells ++ more) name) other ∙ past.found more;
      changed = λ more d.
          ap (λ (b : Bool). if b then record c { cell = d } ∷ (cells ++ more) else c ∷ cells_with (cells ++ more) name d) other
          ∙ ap (λ (cs : List NamedCell). c ∷ cs) (past.changed more d);
    }

-- one that no simple cell has
pub past_unfound : (ss : List Simple) (cells : List NamedCell) (ws : List Word) (from : ℕ) (name : List ℕ) → CellsAre ss cells ws → found_from from ss name ≡ None → IsPast cells name
past_unfound [] [] ws from name are none = record { found = λ more. refl; changed = λ more c. refl }
past_unfound [] (c ∷ cells) ws from name are none = absurd are
past_unfound (s ∷ ss) [] ws from name are none = absurd are
past_unfound (s ∷ ss) (c ∷ cells) [] from name are none = absurd are
past_unfound (s ∷ ss) (c ∷ cells) (w ∷ ws) from name are none =
    by_name (past_unfound ss cells ws (from + 1) name are.2) (same_name s.name name) none (ap (λ (n : List ℕ). same_name n name) are.0)
  where
    by_name : (found_from (from + 1) ss name ≡ None → IsPast cells name) → (b : Bool) → (if b then Some (record { number = from; cell = s }) else found_from (from + 1) ss name) ≡ None →
        same_name c.name name ≡ b → IsPast (c ∷ cells) name
    by_name rest true e same = none_some (sym e)
    by_name rest false e same = one_past c cells name same (rest e)

-- one that means a cell which no simple cell is
pub past_other : (ss : List Simple) (cells : List NamedCell) (ws : List Word) (more : List NamedCell) (name : List ℕ) (other : Cell) → ((o : Wanted) (k : Cell) (w : Word) → CellIs o k w → k ≡ other → ⊥) → CellsAre ss cells ws →
    cell_in (cells ++ more) name ≡ other → IsPast cells name
past_other [] [] ws more name other never are is = record { found = λ others. refl; changed = λ others c. refl }
past_other [] (c ∷ cells) ws more name other never are is = absurd are
past_other (s ∷ ss) [] ws more name other never are is = absurd are
past_other (s ∷ ss) (c ∷ cells) [] more name other never are is = absurd are
past_other (s ∷ ss) (c ∷ cells) (w ∷ ws) more name other never are is = by_name (past_other ss cells ws more name other never are.2) (same_name c.name name) refl is
  where
    by_name : (cell_in (cells ++ more) name ≡ other → IsPast cells name) → (b : Bool) → same_name c.name name ≡ b →
        (if same_name c.name name then c.cell else cell_in (cells ++ more) name) ≡ other → IsPast (c ∷ cells) name
    by_name rest true same e =
        absurd (never s.wanted c.cell w are.1 (ap (λ (b : Bool). if b then c.cell else cell_in (cells ++ more) name) (sym same) ∙ e))
    by_name rest false same e =
        one_past c cells name same (rest (ap (λ (b : Bool). if b then c.cell else cell_in (cells ++ more) name) (sym same) ∙ e))

-- .. an array
pub past_values : (ss : List Simple) (cells : List NamedCell) (ws : List Word) (more : List NamedCell) (name : List ℕ) (a : ArrayCell) → CellsAre ss cells ws →
    cell_in (cells ++ more) name ≡ array a → IsPast cells name
past_values ss cells ws more name a are is = past_other ss cells ws more name (array a) no_array are is
  where
    no_array : (o : Wanted) (k : Cell) (w : Word) → CellIs o k w → k ≡ array a → ⊥
    no_array o (simple v) w holds e = cc
    no_array (wants.value kind) (array b) w holds e = holds
    no_array (wants.array shape) (array b) w holds e = holds
    no_array (wants.by_name kind) (array b) w holds e = holds
    no_array _ (array b) w holds e = holds
    no_array o (event b) w holds e = cc
    no_array o (named b) w holds e = cc
    no_array o (reference b) w holds e = cc

-- .. an event
pub past_events : (ss : List Simple) (cells : List NamedCell) (ws : List Word) (more : List NamedCell) (name : List ℕ) (a : EventState) → CellsAre ss cells ws →
    cell_in (cells ++ more) name ≡ event a → IsPast cells name
past_events ss cells ws more name a are is = past_other ss cells ws more name (event a) no_event are is
  where
    no_event : (o : Wanted) (k : Cell) (w : Word) → CellIs o k w → k ≡ event a → ⊥
    no_event o (simple v) w holds e = cc
    no_event (wants.value kind) (event b) w holds e = holds
    no_event (wants.array shape) (event b) w holds e = holds
    no_event (wants.by_name kind) (event b) w holds e = holds
    no_event _ (event b) w holds e = holds
    no_event o (array b) w holds e = cc
    no_event o (named b) w holds e = cc
    no_event o (reference b) w holds e = cc

-- ---- what is made

-- the number of what a name means among these, which are numbered from k on
pub low_made : (k : ℕ) (ds : List Made) (name : List ℕ) (number : ℕ) (m : Made) → made_from k ds name ≡ Some (record { number = number; made = m }) → number < k + length ds
low_made k [] name number m there = none_some there
low_made k (e ∷ ds) name number m there = by_name (low_made (k + 1) ds name number m) (same_name (made_name e) name) there
  where
    by_name : (made_from (k + 1) ds name ≡ Some (record { number = number; made = m }) → number < k + 1 + length ds) → (b : Bool) →
        (if b then Some (record { number = k; made = e }) else made_from (k + 1) ds name) ≡ Some (record { number = number; made = m }) → number < k + suc (length ds)
    by_name rest true same = let here : k ≡ number = ap (λ (f : FoundMade). f.number) (some_same same) in omega (arith, here)
    by_name rest false same = omega (arith, rest same)

pub low_number : (k : ℕ) (ds : List Made) (name : List ℕ) (number : ℕ) (d : DeclaredArray) → made_from k ds name ≡ Some (record { number = number; made = an_array d }) → number < k + length ds
low_number k ds name number d there = low_made k ds name number (an_array d) there

high_made : (k : ℕ) (ds : List Made) (name : List ℕ) (number : ℕ) (m : Made) → made_from k ds name ≡ Some (record { number = number; made = m }) → k ≤ number
high_made k [] name number m there = none_some there
high_made k (e ∷ ds) name number m there = by_name (high_made (k + 1) ds name number m) (same_name (made_name e) name) there
  where
    by_name : (made_from (k + 1) ds name ≡ Some (record { number = number; made = m }) → k + 1 ≤ number) → (b : Bool) →
        (if b then Some (record { number = k; made = e }) else made_from (k + 1) ds name) ≡ Some (record { number = number; made = m }) → k ≤ number
    by_name rest true same = let here : k ≡ number = ap (λ (f : FoundMade). f.number) (some_same same) in omega (arith, here)
    by_name rest false same = omega (arith, rest same)

pub same_cell : (c : NamedCell) (name : List ℕ) (cell : Cell) → c.name ≡ name → c.cell ≡ cell → c ≡ record { name = name; cell = cell }
same_cell c name cell e f = ap (λ (n : List ℕ). record { name = n; cell = c.cell }) e ∙ ap (λ (k : Cell). record { name = name; cell = k }) f

-- what is made has its name
made_so_named : (m : Made) (c : NamedCell) (a : Allotted) (w : Word) → IsMadeSo m c a w → c.name ≡ made_name m
made_so_named (an_array d) c a w so = so.named
made_so_named (an_event name) c a w so = so.named

-- one of those that are made
pub record FoundThere (k : ℕ) (ds : List Made) (cells : List NamedCell) (as' : List Allotted) (ws : List Word) (name : List ℕ) (number : ℕ) (m : Made) : Type 0 where
  pub far : ℕ
  pub number_is : number ≡ k + far
  pub declared_lies : slice_get ds far ≡ Some m
  pub c : NamedCell
  pub allotted : Allotted
  pub word : Word
  pub so : IsMadeSo m c allotted word
  pub lies : slice_get cells far ≡ Some c
  pub row_lies : slice_get as' far ≡ Some allotted
  pub word_lies : slice_get ws far ≡ Some word
  pub is : cell_in cells name ≡ c.cell
  pub changed : (d : Cell) → cells_with cells name d ≡ slice_set cells far (record c { cell = d })

pub found_there : (k : ℕ) (ds later : List Made) (cells : List NamedCell) (as' : List Allotted) (ws : List Word) (name : List ℕ) (number : ℕ) (m : Made) → AreMade ds cells as' ws →
    made_from k (ds ++ later) name ≡ Some (record { number = number; made = m }) → number < k + length ds → FoundThere k ds cells as' ws name number m
found_there k [] later cells as' ws name number m made there low = absurd (omega (arith, low, high_made k later name number m there))
found_there k (e ∷ ds) later [] as' ws name number m made there low = absurd made
found_there k (e ∷ ds) later (c ∷ cells) [] ws name number m made there low = absurd made
found_there k (e ∷ ds) later (c ∷ cells) (a ∷ as') [] name number m made there low = absurd made
found_there k (e ∷ ds) later (c ∷ cells) (a ∷ as') (w ∷ ws) name number m made there low =
    by_name (λ h. found_there (k + 1) ds later cells as' ws name number m made.1 h (omega (arith, low))) (same_name (made_name e) name) there
    (ap (λ (n : List ℕ). same_name n name) (made_so_named e c a w made.0))
  where
    by_name : (made_from (k + 1) (ds ++ later) name ≡ Some (record { number = number; made = m }) → FoundThere (k + 1) ds cells as' ws name number m) → (b : Bool) →
        (if b then Some (record { number = k; made = e }) else made_from (k + 1) (ds ++ later) name) ≡ Some (record { number = number; made = m }) → same_name c.name name ≡ b →
        FoundThere k (e ∷ ds) (c ∷ cells) (a ∷ as') (w ∷ ws) name number m
    by_name rest true h same =
        let found = some_same h in
        let own : e ≡ m = ap (λ (f : FoundMade). f.made) found in
        record {
          far = 0;
          number_is = sym (ap (λ (f : FoundMade). f.number) found) ∙ omega arith;
          declared_lies = ap (λ (x : Made). Some x) own;
          c = c;
          allotted = a;
          word = w;
          so = subst (λ (x : Made). IsMadeSo x c a w) own made.0;
          lies = refl;
          row_lies = refl;
          word_lies = refl;
          is = ap (λ (b : Bool). if b then c.cell else cell_in cells name) same;
          changed = λ d. ap (λ (b : Bool). if b then record c { cell = d } ∷ cells else c ∷ cells_with cells name d) same;
        }
    by_name rest false h same =
        let r : FoundThere (k + 1) ds cells as' ws name number m = rest h in
        record {
          far = suc r.far;
          number_is = omega (arith, r.number_is);
          declared_lies = r.declared_lies;
          c = r.c;
          allotted = r.allotted;
          word = r.word;
          so = r.so;
          lies = r.lies;
          row_lies = r.row_lies;
          word_lies = r.word_lies;
          is = ap (λ (b : Bool). if b then c.cell else cell_in cells name) same ∙ r.is;
          changed = λ d.
              ap (λ (b : Bool). if b then record c { cell = d } ∷ cells else c ∷ cells_with cells name d) same ∙ ap (λ (cs : List NamedCell). c ∷ cs) (r.changed d);
        }

-- an array among those that are made
pub record MadeThere (k : ℕ) (ds : List Made) (cells : List NamedCell) (as' : List Allotted) (ws : List Word) (name : List ℕ) (number : ℕ) (d : DeclaredArray) : Type 0 where
  pub far : ℕ
  pub number_is : number ≡ k + far
  pub declared_lies : slice_get ds far ≡ Some (an_array d)
  pub cell : ArrayCell
  pub allotted : Allotted
  pub word : Word
  pub lies : slice_get cells far ≡ Some (record { name = d.name; cell = array cell })
  pub row_lies : slice_get as' far ≡ Some allotted
  pub word_lies : slice_get ws far ≡ Some word
  pub lows : map (λ (b : Bounds). b.low) cell.bounds ≡ lows_of d.pairs
  pub sized : AreSized cell.bounds
  pub whole : length cell.elements ≡ elements_of cell.bounds
  pub descriptor : DescriptorIs cell.bounds allotted word
  pub is : cell_in cells name ≡ array cell
  pub changed : (c : Cell) → cells_with cells name c ≡ slice_set cells far (record { name = d.name; cell = c })

pub made_array : (k : ℕ) (ds later : List Made) (cells : List NamedCell) (as' : List Allotted) (ws : List Word) (name : List ℕ) (number : ℕ) (d : DeclaredArray) → AreMade ds cells as' ws →
    made_from k (ds ++ later) name ≡ Some (record { number = number; made = an_array d }) → number < k + length ds → MadeThere k ds cells as' ws name number d
made_array k ds later cells as' ws name number d made there low =
    let f : FoundThere k ds cells as' ws name number (an_array d) = found_there k ds later cells as' ws name number (an_array d) made there low in
    record {
      far = f.far;
      number_is = f.number_is;
      declared_lies = f.declared_lies;
      cell = f.so.cell;
      allotted = f.allotted;
      word = f.word;
      lies = f.lies ∙ ap (λ (x : NamedCell). Some x) (same_cell f.c d.name (array f.so.cell) f.so.named f.so.is);
      row_lies = f.row_lies;
      word_lies = f.word_lies;
      lows = f.so.lows;
      sized = f.so.sized;
      whole = f.so.whole;
      descriptor = f.so.descriptor;
      is = f.is ∙ f.so.is;
      changed = λ c. f.changed c ∙ ap (λ (n : List ℕ). slice_set cells f.far (record { name = n; cell = c })) f.so.named;
    }

-- what means a cell that is there among the cells of those that are made is one of them
pub made_low : (k : ℕ) (ds later : List Made) (cells : List NamedCell) (as' : List Allotted) (ws : List Word) (name : List ℕ) (number : ℕ) (m : Made) (cell : Cell) → (cell_in [] name ≡ cell → ⊥) → AreMade ds cells as' ws →
    cell_in cells name ≡ cell → made_from k (ds ++ later) name ≡ Some (record { number = number; made = m }) → number < k + length ds
made_low k [] later [] [] [] name number m cell some made is there = absurd (some is)
made_low k [] later [] [] (w ∷ ws) name number m cell some made is there = absurd made
made_low k [] later [] (a ∷ as') ws name number m cell some made is there = absurd made
made_low k [] later (c ∷ cells) as' ws name number m cell some made is there = absurd made
made_low k (e ∷ ds) later [] as' ws name number m cell some made is there = absurd made
made_low k (e ∷ ds) later (c ∷ cells) [] ws name number m cell some made is there = absurd made
made_low k (e ∷ ds) later (c ∷ cells) (a ∷ as') [] name number m cell some made is there = absurd made
made_low k (e ∷ ds) later (c ∷ cells) (a ∷ as') (w ∷ ws) name number m cell some made is there =
    by_name (made_low (k + 1) ds later cells as' ws name number m cell some made.1) (same_name (made_name e) name) there (ap (λ (n : List ℕ). same_name n name) (made_so_named e c a w made.0))
  where
    by_name : (cell_in cells name ≡ cell → made_from (k + 1) (ds ++ later) name ≡ Some (record { number = number; made = m }) → number < k + 1 + length ds) → (b : Bool) →
        (if b then Some (record { number = k; made = e }) else made_from (k + 1) (ds ++ later) name) ≡ Some (record { number = number; made = m }) → same_name c.name name ≡ b →
        number < k + suc (length ds)
    by_name rest true h same = let here : k ≡ number = ap (λ (f : FoundMade). f.number) (some_same h) in omega (arith, here)
    by_name rest false h same = omega (arith, rest (ap (λ (b : Bool). if b then c.cell else cell_in cells name) (sym same) ∙ is) h)
