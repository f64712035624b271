-- The cells of an instance that stands: its simple cells first, and then the arrays that it has made, with the words of all of them.
use Rattle.std.proofs.Common.{◌≡◌, sym, ap, ◌∙◌, subst, ℕ, ◌+◌, ◌<◌, List, [], ◌++◌, length, Some, None, false, arith, append-nil, length-append}
use Rattle.b67_list.proofs.Lists.{empty_if_none, get_front}
use Rattle.b67_frames.proofs.Prelude.{slice_get, slice_set, map, numbered, block_numbered, Scopes, elements_of, Bounds, ArrayCell, Cell, array, NamedCell, Instance, Part, World, instance_at, or_no_instance, cell_in, cells_with, DeclaredArray, Made, an_array, lows_of, Word, Pcw, simple_cells, found_from, made_of, made_from, control_words, some_same, get_behind, Allotted, Layout, DescriptorIs, AreSized, AreMade, HasArray, IsArrayOf, CellsAre, IsComplete, Framed}
use Rattle.b67_frames.proofs.Completing.{made_many}
use Rattle.b67_frames.proofs.ControlWords.{as_many_controls}
use Rattle.b67_frames.proofs.MadeArrays.{as_many_values, IsPast, past_unfound, past_values, low_number, MadeThere, made_array, made_low}
use Rattle.b67_frames.proofs.Zeros.{cells_length}

module _ (sc : Scopes) (w : World) (lay : Layout) where
  -- as a frame has them
  pub record OwnCells (i : ℕ) (x : Instance) : Type 0 where
    pub is : numbered w.instances i ≡ Some x
    pub stands : x.left ≡ false
    pub simple : List NamedCell
    pub values : List Word
    pub simple_are : CellsAre (simple_cells sc (block_numbered sc.blocks x.block)) simple values
    pub arrays : List NamedCell
    pub declared : List Made
    pub later : List Made
    pub order : made_of (block_numbered sc.blocks x.block).decls ≡ declared ++ later
    pub descriptors : List Word
    pub made : AreMade declared arrays (lay.rows i) descriptors
    pub has : x.cells ≡ simple ++ arrays

  -- those of an instance whose frame lies in a stack
  abbrev pub framed_cells : {p i : ℕ} {outer : List Part} {at : ℕ} {mark control : Word} {cells : List Word} (f : Framed sc w lay p i outer at mark control cells) → OwnCells i f.instance
  framed_cells f =
      record {
        is = f.is;
        stands = f.stands;
        simple = f.simple;
        values = f.values;
        simple_are = f.simple_are;
        arrays = f.arrays;
        declared = f.declared;
        later = f.later;
        order = f.order;
        descriptors = f.descriptors;
        made = f.made;
        has = f.has;
      }

  -- an instance is there, with such cells
  abbrev pub HasCells : ℕ → Type 0
  HasCells i = (x : Instance) × OwnCells i x

  -- an array that it has made, by its number among those that its block declares: its cell, its rows and its descriptor
  pub record OwnArray (i : ℕ) (x : Instance) (own : OwnCells i x) (name : List ℕ) (number : ℕ) (declared : DeclaredArray) : Type 0 where
    pub cell : ArrayCell
    pub allotted : Allotted
    pub word : Word
    pub lows : map (λ (b : Bounds). b.low) cell.bounds ≡ lows_of declared.pairs
    pub sized : AreSized cell.bounds
    pub whole : length cell.elements ≡ elements_of cell.bounds
    pub descriptor : DescriptorIs cell.bounds allotted word
    pub lies : slice_get own.descriptors number ≡ Some word
    pub there : slice_get own.arrays number ≡ Some (record { name = declared.name; cell = array cell })
    pub changed : (c : Cell) → cells_with own.arrays name c ≡ slice_set own.arrays number (record { name = declared.name; cell = c })
    pub behind : (more : List NamedCell) → cell_in (own.simple ++ more) name ≡ cell_in more name
    pub changed_behind : (c : Cell) → cells_with x.cells name c ≡ own.simple ++ cells_with own.arrays name c
    pub of : IsArrayOf sc w lay i name declared cell allotted
    pub has : HasArray sc w lay i number declared cell allotted

  made_here : (i : ℕ) (x : Instance) (own : OwnCells i x) (name : List ℕ) (number : ℕ) (declared : DeclaredArray) →
      made_from 0 (made_of (block_numbered sc.blocks x.block).decls) name ≡ Some (record { number = number; made = an_array declared }) → number < length own.declared → IsPast own.simple name →
      OwnArray i x own name number declared
  made_here i x own name number declared there low past =
      record {
        cell = m.cell;
        allotted = m.allotted;
        word = m.word;
        lows = m.lows;
        sized = m.sized;
        whole = m.whole;
        descriptor = m.descriptor;
        lies = at_number own.descriptors m.word m.word_lies;
        there = at_number own.arrays (record { name = declared.name; cell = array m.cell }) m.lies;
        changed = λ c. m.changed c ∙ ap (λ (n : ℕ). slice_set own.arrays n (record { name = declared.name; cell = c })) (sym far_is);
        behind = past.found;
        changed_behind = λ c. ap (λ (cells : List NamedCell). cells_with cells name c) own.has ∙ past.changed own.arrays c;
        of = record {
          number = number;
          found = ap (λ (y : Instance). made_from 0 (made_of (block_numbered sc.blocks y.block).decls) name) here ∙ there;
          is =
              ap (λ (y : Instance). cell_in y.cells name) here
              ∙ ap (λ (cells : List NamedCell). cell_in cells name) own.has
              ∙ past.found own.arrays
              ∙ m.is;
          allotted = at_number (lay.rows i) m.allotted m.row_lies;
        };
        has = record {
          instance = x;
          is = own.is;
          stands = own.stands;
          declares =
              ap (λ (ds : List Made). slice_get ds number) own.order
              ∙ get_front own.declared own.later number (an_array declared) (at_number own.declared (an_array declared) m.declared_lies);
          has =
              ap (λ (cells : List NamedCell). slice_get cells (length (simple_cells sc (block_numbered sc.blocks x.block)) + number)) own.has
              ∙ get_behind own.simple own.arrays number (length (simple_cells sc (block_numbered sc.blocks x.block)) + number) (ap (λ (n : ℕ). n + number) (sym (cells_length (simple_cells sc (block_numbered sc.blocks x.block)) own.simple own.values own.simple_are)))
              ∙ at_number own.arrays (record { name = declared.name; cell = array m.cell }) m.lies;
          allotted = at_number (lay.rows i) m.allotted m.row_lies;
        };
      }
    where
      here : instance_at w i ≡ x
      here = ap or_no_instance own.is

      m : MadeThere 0 own.declared own.arrays (lay.rows i) own.descriptors name number declared
      m =
          made_array 0 own.declared own.later own.arrays (lay.rows i) own.descriptors name number declared own.made
          (ap (λ (ds : List Made). made_from 0 ds name) (sym own.order) ∙ there) (omega (arith, low))

      far_is : number ≡ m.far
      far_is = omega (arith, m.number_is)

      at_number : {A : Type 0} (xs : List A) (y : A) → slice_get xs m.far ≡ Some y → slice_get xs number ≡ Some y
      at_number xs y e = ap (λ (n : ℕ). slice_get xs n) far_is ∙ e

  module _ (i : ℕ) (x : Instance) (own : OwnCells i x) where
    here : instance_at w i ≡ x
    here = ap or_no_instance own.is

    -- nothing is to be made any more where the instance is complete
    pub none_later : IsComplete sc w lay i → own.later ≡ []
    none_later complete =
        empty_if_none own.later
        (omega (
          arith,
          many,
          ap length own.has,
          length-append own.simple own.arrays,
          cells_length (simple_cells sc (block_numbered sc.blocks x.block)) own.simple own.values own.simple_are,
          (made_many own.declared own.arrays (lay.rows i) own.descriptors own.made).cells_many,
          ap length own.order,
          length-append own.declared own.later,
        ))
      where
        many : length x.cells ≡ length (simple_cells sc (block_numbered sc.blocks x.block)) + length (made_of (block_numbered sc.blocks x.block).decls)
        many =
            subst (λ (y : Instance). length y.cells ≡ length (simple_cells sc (block_numbered sc.blocks y.block)) + length (made_of (block_numbered sc.blocks y.block).decls)) here complete

    -- a name that means an array which the instance has made
    module _ (name : List ℕ) (number : ℕ) (declared : DeclaredArray)
        (there : made_from 0 (made_of (block_numbered sc.blocks x.block).decls) name ≡ Some (record { number = number; made = an_array declared })) where
      pub all_made : own.later ≡ [] → number < length own.declared
      all_made none =
          omega (
            arith,
            low_number 0 own.declared name number declared
                (ap (λ (ds : List Made). made_from 0 ds name) (sym (own.order ∙ ap (λ (ds : List Made). own.declared ++ ds) none ∙ append-nil own.declared)) ∙ there),
          )

      pub own_array : number < length own.declared → found_from 0 (simple_cells sc (block_numbered sc.blocks x.block)) name ≡ None → OwnArray i x own name number declared
      own_array low apart =
          made_here i x own name number declared there low (past_unfound (simple_cells sc (block_numbered sc.blocks x.block)) own.simple own.values 0 name own.simple_are apart)

    -- the same of what is known to be an array of the instance
    pub known_array : (name : List ℕ) (declared : DeclaredArray) (cell : ArrayCell) (a : Allotted) (of : IsArrayOf sc w lay i name declared cell a) →
        (found : OwnArray i x own name of.number declared) × (found.cell ≡ cell) × (found.allotted ≡ a)
    known_array name declared cell a of =
        (found, (let same : array found.cell ≡ array cell = sym found.of.is ∙ of.is in cc), some_same (sym found.has.allotted ∙ of.allotted))
      where
        is_array : cell_in (own.simple ++ own.arrays) name ≡ array cell
        is_array = ap (λ (cells : List NamedCell). cell_in cells name) (sym own.has) ∙ ap (λ (y : Instance). cell_in y.cells name) (sym here) ∙ of.is

        past : IsPast own.simple name
        past = past_values (simple_cells sc (block_numbered sc.blocks x.block)) own.simple own.values own.arrays name cell own.simple_are is_array

        there : made_from 0 (made_of (block_numbered sc.blocks x.block).decls) name ≡ Some (record { number = of.number; made = an_array declared })
        there = ap (λ (y : Instance). made_from 0 (made_of (block_numbered sc.blocks y.block).decls) name) (sym here) ∙ of.found

        low : of.number < length own.declared
        low =
            omega (
              arith,
              made_low 0 own.declared own.later own.arrays (lay.rows i) own.descriptors name of.number (an_array declared) (array cell) (λ (e : cell_in [] name ≡ array cell). cc) own.made (sym (past.found own.arrays) ∙ is_array)
                  (ap (λ (ds : List Made). made_from 0 ds name) (sym own.order) ∙ there),
            )

        found : OwnArray i x own name of.number declared
        found = made_here i x own name of.number declared there low past

    -- so it is one by its number
    pub known_has : (name : List ℕ) (declared : DeclaredArray) (cell : ArrayCell) (a : Allotted) (of : IsArrayOf sc w lay i name declared cell a) → HasArray sc w lay i of.number declared cell a
    known_has name declared cell a of =
        let known = known_array name declared cell a of in
        subst (λ (b : Allotted). HasArray sc w lay i of.number declared cell b) known.2
        (subst (λ (c : ArrayCell). HasArray sc w lay i of.number declared c known.0.allotted) known.1 known.0.has)

    -- its descriptor lies after the control words
    pub descriptor_lies : (name : List ℕ) (number : ℕ) (declared : DeclaredArray) (found : OwnArray i x own name number declared) (pcws : List Pcw) →
        slice_get (own.values ++ (control_words pcws ++ own.descriptors)) (length (simple_cells sc (block_numbered sc.blocks x.block)) + length pcws + number) ≡ Some found.word
    descriptor_lies name number declared found pcws =
        get_behind own.values (control_words pcws ++ own.descriptors) (length pcws + number) (length (simple_cells sc (block_numbered sc.blocks x.block)) + length pcws + number)
        (omega (
          arith,
          as_many_values (simple_cells sc (block_numbered sc.blocks x.block)) own.simple own.values own.simple_are,
        ))
        ∙ get_behind (control_words pcws) own.descriptors number (length pcws + number) (ap (λ (n : ℕ). n + number) (sym (as_many_controls pcws)))
        ∙ found.lies
