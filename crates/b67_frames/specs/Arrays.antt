-- How the rows of an image hold the arrays of a world.
use Rattle.std.specs.Prelude.{◌≡◌, ℕ, ◌+◌, ◌*◌, ◌<◌, ◌≤◌, true, false, List, [], ◌∷◌, length, map, Option, Some, None, slice_get}
use Rattle.b67_list.specs.Numbered.{numbered}
use Rattle.algol_tree.specs.declared.tree.Kind.{Kind}
use Rattle.algol_tree.specs.declared.tree.Named.{Named}
use Rattle.algol_tree.specs.Plain.{PExpr}
use Rattle.algol_tree.specs.Blocks.{block_numbered}
use Rattle.algol_tree.specs.Scopes.{Scopes, use_of}
use Rattle.algol_meaning.specs.declared.TheConstants.{MOST_ELEMENTS}
use Rattle.algol_meaning.specs.Value as meant
use Rattle.algol_meaning.specs.Value.{Value, Reference, Bounds, ArrayCell, Cell, event, array, reference}
use Rattle.b67_deeds.specs.Events.{EventState}
use Rattle.algol_meaning.specs.Arrays.{size_of, elements_of, size_of_cells, size_unless, live_elements}
use Rattle.algol_meaning.specs.World.{NamedCell, Instance, World, instance_at, ancestor, cell_in, followed}
use Rattle.algol_paths.specs.Arrays.{DeclaredArray, Made, an_array, an_event, Shape, shape_of, lows_of}
use Rattle.b67_word.specs.declared.Place.{Place}
use Rattle.b67_word.specs.Word.{Word}
use Rattle.b67_control.specs.Control.{event_word, descriptor_word}
use Rattle.b67_ops.specs.declared.Couple.{Couple}
use Rattle.b67_store.specs.Store.{Rows, row_at, row_limit, counted_words}
use Rattle.b67_table.specs.Arrays.{array_word}
use Rattle.b67_table.specs.References.{cell_word}
use Rattle.b67_templates.specs.Fragments.{HasKind}
use Rattle.b67_templates.specs.Cells as wants
use Rattle.b67_templates.specs.Cells.{Wanted, ShapeAgrees, Found, found_from, simple_cells, made_of, made_from, made_base, IsVariable, IsDeclaredArray, IsDeclaredEvent, IsOwnActual}
use Rattle.b67_standing.specs.Stepping.{HeldWord, row, element, variable, cell_named, actual, passed}
use Rattle.b67_cores.specs.Slots.{Known, ValueIs}

-- ---- layouts

-- the rows of an array: of two dimensions there is one for its descriptors, and one for each of these; of one dimension there is one
pub record Allotted : Type 0 where
  pub mother : Option ℕ
  pub parts : List ℕ

-- where an image has the frames of instances, by their numbers from 1, and the rows of the arrays that each has made
pub record Layout : Type 0 where
  pub places : List Place
  pub rows : ℕ → List Allotted

-- the numbers of all rows of an array
abbrev pub numbers_after : Option ℕ → List ℕ → List ℕ
numbers_after None parts = parts
numbers_after (Some m) parts = m ∷ parts

abbrev pub row_numbers_of : Allotted → List ℕ
row_numbers_of a = numbers_after a.mother a.parts

-- ---- an array and its descriptor

-- how many elements each of the rows has that hold elements
abbrev pub row_length : List Bounds → ℕ
row_length (b ∷ []) = size_of b
row_length (b ∷ c ∷ []) = size_of c
row_length _ = 0

-- Its descriptor names the row, or the row of its rows' descriptors. Each number is one that a descriptor can hold.
abbrev pub DescriptorIs : List Bounds → Allotted → Word → Type 0
DescriptorIs (b ∷ []) a w = (n : ℕ) × (n < row_limit) × (a ≡ record { mother = None; parts = n ∷ [] }) × (w ≡ array_word false (size_of b) n)
DescriptorIs (b ∷ c ∷ []) a w =
    (m : ℕ) × (m < row_limit) × (a.mother ≡ Some m) × (length a.parts ≡ size_of b) × (w ≡ array_word true (size_of b) m)
DescriptorIs _ a w = ⊥

-- each dimension has an element, and all together no more than there may be
abbrev pub AreSized : List Bounds → Type 0
AreSized bs = EachSized bs × (elements_of bs ≤ MOST_ELEMENTS)
  where
    EachSized : List Bounds → Type 0
    EachSized [] = Unit {0}
    EachSized (b ∷ bs) = (1 ≤ size_of b) × EachSized bs

-- the cell of an array that is declared so
pub record CellIsMade (declared : DeclaredArray) (c : NamedCell) (a : Allotted) (w : Word) : Type 0 where
  pub named : c.name ≡ declared.name
  pub cell : ArrayCell
  pub is : c.cell ≡ array cell
  pub lows : map (λ (b : Bounds). b.low) cell.bounds ≡ lows_of declared.pairs
  pub sized : AreSized cell.bounds
  pub whole : length cell.elements ≡ elements_of cell.bounds
  pub descriptor : DescriptorIs cell.bounds a w

-- the cell of an event that is declared so: it has no rows, and the word of an event
pub record IsEventMade (name : List ℕ) (c : NamedCell) (a : Allotted) (w : Word) : Type 0 where
  pub named : c.name ≡ name
  pub cell : EventState
  pub is : c.cell ≡ event cell
  pub none : a ≡ record { mother = None; parts = [] }
  pub word_is : w ≡ event_word (record {})

-- .. of what a declaration makes: an array, or an event
abbrev pub IsMadeSo : Made → NamedCell → Allotted → Word → Type 0
IsMadeSo (an_array declared) c a w = CellIsMade declared c a w
IsMadeSo (an_event name) c a w = IsEventMade name c a w

-- what an instance has made, in the order of the declarations
abbrev pub AreMade : List Made → List NamedCell → List Allotted → List Word → Type 0
AreMade [] [] [] [] = Unit {0}
AreMade (m ∷ ms) (c ∷ cells) (a ∷ as') (w ∷ words) = IsMadeSo m c a w × AreMade ms cells as' words
AreMade _ _ _ _ = ⊥

-- ---- elements

-- The rows of an array hold its elements, row by row, and count as live elements; the row of their descriptors does not count.
pub record HoldElements (rows : Rows) (kind : Kind) (cell : ArrayCell) (a : Allotted) : Type 0 where
  pub opened : (j n : ℕ) → slice_get a.parts j ≡ Some n →
      (n < row_limit) × ((words : List Word) × (row_at rows n ≡ Some (record { words = words; counted = true })) × (length words ≡ row_length cell.bounds))
  pub elements : (j k n : ℕ) (words : List Word) → slice_get a.parts j ≡ Some n → k < row_length cell.bounds →
      row_at rows n ≡ Some (record { words = words; counted = true }) →
      (v : Value) × (w : Word) × (slice_get cell.elements (j * row_length cell.bounds + k) ≡ Some v) × (slice_get words k ≡ Some w) × HasKind kind v × ValueIs v w
  pub mother : (m : ℕ) → a.mother ≡ Some m →
      row_at rows m ≡ Some (record { words = map (λ (n : ℕ). array_word false (row_length cell.bounds) n) a.parts; counted = false })

-- how many rows are open
abbrev pub open_rows : Rows → ℕ
open_rows [] = 0
open_rows (None ∷ rows) = open_rows rows
open_rows (Some r ∷ rows) = 1 + open_rows rows

-- how many the arrays of the instances that stand have
abbrev pub rows_of_bounds : List Bounds → ℕ
rows_of_bounds (b ∷ c ∷ []) = 1 + size_of b
rows_of_bounds _ = 1

abbrev pub rows_of_cell : Cell → ℕ
rows_of_cell (array a) = rows_of_bounds a.bounds
rows_of_cell _ = 0

abbrev pub rows_of_cells : List NamedCell → ℕ
rows_of_cells [] = 0
rows_of_cells (c ∷ cells) = rows_of_cell c.cell + rows_of_cells cells

abbrev pub live_rows : List Instance → ℕ
live_rows [] = 0
live_rows (x ∷ xs) = size_unless x.left (rows_of_cells x.cells) + live_rows xs

module _ (sc : Scopes) (w : World) (lay : Layout) where
  -- the instance stands, and has this array by this number among what its block declares
  pub record HasArray (i number : ℕ) (declared : DeclaredArray) (cell : ArrayCell) (a : Allotted) : Type 0 where
    pub instance : Instance
    pub is : numbered w.instances i ≡ Some instance
    pub stands : instance.left ≡ false
    pub declares : slice_get (made_of (block_numbered sc.blocks instance.block).decls) number ≡ Some (an_array declared)
    pub has :
        slice_get instance.cells (length (simple_cells sc (block_numbered sc.blocks instance.block)) + number)
        ≡ Some (record { name = declared.name; cell = array cell })
    pub allotted : slice_get (lay.rows i) number ≡ Some a

  -- so the row with this number is the k-th of that array
  pub record ArrayHasRow (i number k n : ℕ) : Type 0 where
    pub declared : DeclaredArray
    pub cell : ArrayCell
    pub allotted : Allotted
    pub array : HasArray i number declared cell allotted
    pub there : slice_get (row_numbers_of allotted) k ≡ Some n

  -- The arrays of the instances that stand are held by rows of their own, and no other rows are open. Each of these instances has at most
  -- two rows for each element, so that there is always a number for one row more.
  pub record ArraysAre (rows : Rows) : Type 0 where
    pub held : (i number : ℕ) (declared : DeclaredArray) (cell : ArrayCell) (a : Allotted) → HasArray i number declared cell a →
        HoldElements rows declared.kind cell a
    pub apart : (i j number other k l n : ℕ) → ArrayHasRow i number k n → ArrayHasRow j other l n → (i ≡ j) × (number ≡ other) × (k ≡ l)
    pub counted : counted_words rows ≡ live_elements w.instances
    pub opened : open_rows rows ≡ live_rows w.instances
    pub few : (i : ℕ) (x : Instance) → numbered w.instances i ≡ Some x → x.left ≡ false → rows_of_cells x.cells ≤ 2 * size_of_cells x.cells

  -- ---- descriptors and references on the stack, and in cells

  -- `Stand` says which instances stand: what a word stands for is in one of these.

  -- an instance's array by its name
  pub record IsArrayOf (i : ℕ) (name : List ℕ) (declared : DeclaredArray) (cell : ArrayCell) (a : Allotted) : Type 0 where
    pub number : ℕ
    pub found : made_from 0 (made_of (block_numbered sc.blocks ((instance_at w i).block)).decls) name ≡ Some (record { number = number; made = an_array declared })
    pub is : cell_in ((instance_at w i).cells) name ≡ array cell
    pub allotted : slice_get (lay.rows i) number ≡ Some a

  -- the place of an element among the rows of an array, and in its row
  abbrev pub ElementIsIn : List Bounds → List ℕ → ℕ → ℕ → Type 0
  ElementIsIn (b ∷ []) (k ∷ []) part at = (part ≡ 0) × (at ≡ k) × (k < size_of b)
  ElementIsIn (b ∷ c ∷ []) (j ∷ k ∷ []) part at = (part ≡ j) × (at ≡ k) × (j < size_of b) × (k < size_of c)
  ElementIsIn _ _ part at = ⊥

  -- a copy of the descriptor of a row, and one of its element
  abbrev pub row_copy : ℕ → ℕ → Word
  row_copy size n = descriptor_word (record { presence = true; copy = true; indexed = false; mother = false; length = size; address = n })

  abbrev pub element_copy : ℕ → ℕ → Word
  element_copy at n = descriptor_word (record { presence = true; copy = true; indexed = true; mother = false; length = at; address = n })

  -- The reference leads to the cell of an array that agrees with this shape; this is its word, wherever it is read.
  pub record ReferenceLeadsTo (Stand : ℕ → Type 0) (shape : Shape) (r : Reference) (word : Word) : Type 0 where
    pub own : Stand r.instance
    pub declared : DeclaredArray
    pub agrees : ShapeAgrees shape (shape_of declared)
    pub cell : ArrayCell
    pub allotted : Allotted
    pub array : IsArrayOf r.instance r.name declared cell allotted
    pub frame : Place
    pub laid : numbered lay.places r.instance ≡ Some frame
    pub word_is :
        word
        ≡ cell_word (record {
          frame = frame;
          index = made_base sc (block_numbered sc.blocks ((instance_at w r.instance).block)) + array.number;
        })

  -- .. to the simple cell of a variable of this kind
  pub record LeadsToVariable (Stand : ℕ → Type 0) (kind : Kind) (r : Reference) (word : Word) : Type 0 where
    pub own : Stand r.instance
    pub found : Found
    pub there : found_from 0 (simple_cells sc (block_numbered sc.blocks ((instance_at w r.instance).block))) r.name ≡ Some found
    pub wanted_is : found.cell.wanted ≡ wants.value kind
    pub frame : Place
    pub laid : numbered lay.places r.instance ≡ Some frame
    pub word_is : word ≡ cell_word (record { frame = frame; index = 2 + found.number })

  -- the reference to the cell of an actual that stands in the text of that instance's block
  pub record IsActual (Stand : ℕ → Type 0) (i : ℕ) (e : PExpr) (kind : Kind) (word : Word) : Type 0 where
    pub own : Stand i
    pub level : ℕ
    pub couple : Couple
    pub stands : IsOwnActual sc ((instance_at w i).block) level e kind couple
    pub frame : Place
    pub laid : numbered lay.places i ≡ Some frame
    pub word_is : word ≡ cell_word (record { frame = frame; index = couple.index })

  -- an instance's event by its name
  pub record IsEventOf (i : ℕ) (name : List ℕ) : Type 0 where
    pub number : ℕ
    pub found : made_from 0 (made_of (block_numbered sc.blocks ((instance_at w i).block)).decls) name ≡ Some (record { number = number; made = an_event name })
    pub cell : EventState
    pub is : cell_in ((instance_at w i).cells) name ≡ event cell

  -- the reference leads to the cell of an event; this is its word, wherever it is read
  pub record LeadsToEvent (Stand : ℕ → Type 0) (r : Reference) (word : Word) : Type 0 where
    pub own : Stand r.instance
    pub made : IsEventOf r.instance r.name
    pub frame : Place
    pub laid : numbered lay.places r.instance ≡ Some frame
    pub word_is :
        word
        ≡ cell_word (record {
          frame = frame;
          index = made_base sc (block_numbered sc.blocks ((instance_at w r.instance).block)) + made.number;
        })

  -- The word of a parameter's cell, of which that is wanted: a reference to the cell of an array of that shape; to that of an event; to that of a
  -- variable of that kind, or of an actual of that kind.
  abbrev pub Denotes : (ℕ → Type 0) → Wanted → Cell → Word → Type 0
  Denotes Stand (wants.array shape) (reference r) word = ReferenceLeadsTo Stand shape r word
  Denotes Stand wants.event (reference r) word = LeadsToEvent Stand r word
  Denotes Stand (wants.by_name kind) (reference r) word = LeadsToVariable Stand kind r word
  Denotes Stand (wants.by_name kind) (meant.named a) word = IsActual Stand a.instance a.actual kind word
  Denotes Stand _ c word = ⊥

  -- what a name leads to from a part of instance i
  abbrev pub named_from : ℕ → Named → Reference
  named_from i n = record { instance = ancestor w ((use_of sc n).up) i; name = n.name }

  -- a copy of the descriptor of a row, of the array that a name means from a part of instance i
  pub record IsRow (Stand : ℕ → Type 0) (i : ℕ) (n : Named) (ks : List ℕ) (word : Word) : Type 0 where
    pub home : Reference
    pub home_is : home ≡ followed w (named_from i n)
    pub own : Stand home.instance
    pub declared : DeclaredArray
    pub cell : ArrayCell
    pub allotted : Allotted
    pub array : IsArrayOf home.instance home.name declared cell allotted
    pub first : Bounds
    pub second : Bounds
    pub bounds : cell.bounds ≡ first ∷ second ∷ []
    pub index : ℕ
    pub subscripts : ks ≡ index ∷ []
    pub within : index < size_of first
    pub number : ℕ
    pub part : slice_get allotted.parts index ≡ Some number
    pub few : number < row_limit
    pub word_is : word ≡ row_copy (size_of second) number

  pub record IsElement (Stand : ℕ → Type 0) (r : Reference) (ks : List ℕ) (kind : Kind) (word : Word) : Type 0 where
    pub own : Stand r.instance
    pub declared : DeclaredArray
    pub kind_is : declared.kind ≡ kind
    pub cell : ArrayCell
    pub allotted : Allotted
    pub array : IsArrayOf r.instance r.name declared cell allotted
    pub index : ℕ
    pub at : ℕ
    pub within : ElementIsIn cell.bounds ks index at
    pub number : ℕ
    pub part : slice_get allotted.parts index ≡ Some number
    pub few : number < row_limit
    pub word_is : word ≡ element_copy at number

  -- the couple is that of a declared array, of a declared event or of a variable, by its name
  pub data Names (level : ℕ) (n : Named) (couple : Couple) : Type 0 where
    an_array_named : (declared : DeclaredArray) → IsDeclaredArray sc level n declared couple → Names level n couple
    an_event_named : IsDeclaredEvent sc level n couple → Names level n couple
    a_variable_named : (kind : Kind) → IsVariable sc level n kind couple → Names level n couple

  -- The reference to the cell that such a name means from a part of instance i; this is its word, wherever it is read.
  pub record IsNamed (Stand : ℕ → Type 0) (i : ℕ) (n : Named) (word : Word) : Type 0 where
    pub own : Stand (ancestor w ((use_of sc n).up) i)
    pub level : ℕ
    pub couple : Couple
    pub names : Names level n couple
    pub frame : Place
    pub laid : numbered lay.places (ancestor w ((use_of sc n).up) i) ≡ Some frame
    pub word_is : word ≡ cell_word (record { frame = frame; index = couple.index })

  abbrev pub HeldIs : (ℕ → Type 0) → ℕ → HeldWord → Word → Type 0
  HeldIs Stand i (row n ks) word = IsRow Stand i n ks word
  HeldIs Stand i (element r ks kind) word = IsElement Stand r ks kind word
  HeldIs Stand i (variable r kind) word = LeadsToVariable Stand kind r word
  HeldIs Stand i (cell_named n) word = IsNamed Stand i n word
  HeldIs Stand i (actual e kind) word = IsActual Stand i e kind word
  HeldIs Stand i (passed wanted c) word = Denotes Stand wanted c word

  -- what is known of words on the stack is so
  abbrev pub AreKnown : (ℕ → Type 0) → ℕ → List Known → Type 0
  AreKnown Stand i [] = Unit {0}
  AreKnown Stand i (x ∷ known) = HeldIs Stand i x.held x.word × AreKnown Stand i known
