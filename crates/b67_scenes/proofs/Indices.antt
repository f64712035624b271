-- What NXLV, NXLN and INDX find on top: the descriptor of an array, by its couple, or that of a row, and under it the index of a subscript.
use Rattle.std.proofs.Common.{◌≡◌, refl, sym, ap, ◌∙◌, subst, ℕ, ◌+◌, ◌<◌, ◌≤◌, List, [], ◌∷◌, ◌++◌, length, Some, Bool, true, false, Ok, ℤ, arith}
use Rattle.b67_scenes.proofs.Prelude.{slice_get, PProgram, Scopes, scopes_of, use_of, Sort, Named, number, Reference, Bounds, ArrayCell, array, followed, Word, as_whole, as_irw, Descriptor, Couple, Code, look_seen, frame, AreNested, Texts, Slot, operand, descriptor, number_read, Known, newest, SlotsAre, CoreAt, some_same, Top, top_slot, reference_read, OneSized, one_sized, TwoSized, two_sized, CountsBy, Allotted, DescriptorIs, AreSized, IsArrayOf, named_from, ElementIsIn, IsInReach}
use Rattle.algol_meaning.specs.Arrays.{size_of, subscript_place}
use Rattle.algol_paths.specs.Arrays.{Shape}
use Rattle.b67_control.specs.Control.{as_descriptor}
use Rattle.b67_store.specs.Store.{row_limit}
use Rattle.b67_table.specs.Arrays.{is_array_descriptor, array_of, array_word, index_in}
use Rattle.b67_templates.specs.Cells.{FoundMade}
use Rattle.b67_templates.specs.Fragments.{moved_number}
use Rattle.b67_standing.specs.Stepping.{row, reference}
use Rattle.b67_standing.specs.Standing.{IsLastSubscript}
use Rattle.b67_rows.proofs.Described.{IsDescriptor, is_descriptor, whole_array, is_whole_array, IsFound, itself, in_cell, through_cell}
use Rattle.b67_rows.proofs.IndexRows.{with_one, array_itself, array_reached, array_through}
use Rattle.b67_frames.specs.Arrays.{row_copy, IsRow}
use Rattle.b67_frames.proofs.ElementRows.{array_read, row_copy_read}
use Rattle.b67_frames.proofs.Knowing.{known_is}
use Rattle.b67_frames.proofs.Subscripts.{one_bound, two_bounds, only_index, first_index, second_index}
use Rattle.b67_scenes.proofs.ArrayHomes.{Reaches, directly, by_reference, MeantArray}
use Rattle.b67_scenes.proofs.Scene.{Actor}
use Rattle.b67_scenes.proofs.Staying.{text_in, level_in, most_in}

same_array : (a b : ArrayCell) → array a ≡ array b → a ≡ b
same_array a b e = cc

module _ (tree : PProgram) (code : Code) (texts : Texts) (nested : AreNested (scopes_of tree)) (actor : Actor tree code texts) where
  open actor use {w, lay, img, p, part, outer, core, s}

  abbrev sc : Scopes
  sc = scopes_of tree

  abbrev level : ℕ
  level = level_in tree w part

  abbrev Are : List Slot → List Word → Type 0
  Are slots words = SlotsAre sc s.stands.held level (frame core.registers) (length core.below) slots words

  -- On top lies the descriptor of an array, or a reference to it, and under it a whole number.
  pub record Finds (mother : Bool) (z : ℤ) (d : Descriptor) (below : List Slot) : Type 0 where
    pub first : Word
    pub second : Word
    pub words : List Word
    pub top : core.words ≡ first ∷ second ∷ words
    pub left_are : Are below words
    pub is_whole : as_whole second ≡ Some z
    pub array_is : look_seen img.stacks (array_of core.registers mother first) ≡ Ok d
    pub found : IsFound p img core.registers first
    -- neither is a mark
    pub marks : core.registers.f ≡ newest (frame core.registers) (length core.below) below
    pub many : length s.stands.slots ≡ length below + 2

  -- a word in place of the two leaves a core at the operator after
  pub in_place : (mother : Bool) (z : ℤ) (d : Descriptor) (below : List Slot) (f : Finds mother z d below) (known : List Known) (slot : Slot) (word : Word) (next : ℕ) →
      SlotsAre sc known level (frame core.registers) (length core.below) (slot ∷ below) (word ∷ f.words) →
      newest (frame core.registers) (length core.below) (slot ∷ below) ≡ newest (frame core.registers) (length core.below) below →
      CoreAt sc known code (text_in tree texts w part) level next (slot ∷ below) (with_one core word f.words next)
  in_place mother z d below f known slot word next are mark =
      record {
        segment = s.stands.there.segment;
        there = s.stands.there.there;
        spells = s.stands.there.spells;
        level_is = s.stands.there.level_is;
        place_is = refl;
        is = record { bottom = s.has.is.bottom; top = omega (arith, s.has.is.top, ap length f.top) };
        mark_is = f.marks ∙ sym mark;
        words_are = are;
      }

  -- .. which has room
  pub has_room : (mother : Bool) (z : ℤ) (d : Descriptor) (below : List Slot) (f : Finds mother z d below) (slot : Slot) → length (slot ∷ below) ≤ most_in tree w part
  has_room mother z d below f slot = omega (arith, f.many, s.stands.few)

  -- the two words
  record Two_slots (slot : Slot) (z : ℤ) (below : List Slot) : Type 0 where
    upper : Top sc s.stands.held level (frame core.registers) (length core.below) slot (operand (number z) ∷ below) core.words
    lower : Top sc s.stands.held level (frame core.registers) (length core.below) (operand (number z)) below upper.words_below

  two_slots : (slot : Slot) (z : ℤ) (below : List Slot) → s.stands.slots ≡ slot ∷ operand (number z) ∷ below → Two_slots slot z below
  two_slots slot z below lies =
      let upper : Top sc s.stands.held level (frame core.registers) (length core.below) slot (operand (number z) ∷ below) core.words =
      top_slot sc s.stands.held level (frame core.registers) (length core.below) s.stands.slots slot (operand (number z) ∷ below) core.words s.stands.there.words_are lies in
      record {
        upper = upper;
        lower = top_slot sc s.stands.held level (frame core.registers) (length core.below) (operand (number z) ∷ below) (operand (number z)) below upper.words_below upper.are refl;
      }

  module _ (n : Named) (shape : Shape) (couple : Couple) (h : MeantArray tree code texts nested actor n shape couple) where
    -- what a name means there
    abbrev home : Reference
    home = followed w (named_from sc w lay part.instance n)

    abbrev sort : Sort
    sort = (use_of sc n).sort

    -- by a reference to the array
    module _ (mother : Bool) (x : Word) (d : Descriptor) (x_is : as_irw x ≡ Some (record { level = couple.level; index = couple.index })) (fits : is_array_descriptor mother d ≡ true) (is : IsDescriptor h.word d) where
      array_found : Reaches tree code texts nested actor couple h.word → look_seen img.stacks (array_of core.registers mother x) ≡ Ok d
      array_found (directly at shown near lies) =
          array_reached img core.registers mother x d fits couple.level couple.index at h.word x_is shown lies is.no_sirw is.reads
      array_found (by_reference at first r shown near lies refers further there) =
          array_through img core.registers mother x d fits couple.level couple.index at first r h.word x_is shown lies refers there is.no_sirw is.reads

      is_found : Reaches tree code texts nested actor couple h.word → IsFound p img core.registers x
      is_found (directly at shown near lies) = in_cell (record { level = couple.level; index = couple.index }) at h.word x_is shown near lies is.no_sirw
      is_found (by_reference at first r shown near lies refers further there) =
          through_cell (record { level = couple.level; index = couple.index }) at first r h.word x_is shown near lies refers further there is.no_sirw

    referred : (mother : Bool) (size m : ℕ) (z : ℤ) (below : List Slot) → s.stands.slots ≡ reference couple ∷ operand (number z) ∷ below → h.word ≡ array_word mother size m → size ≤ 1048576 → m < row_limit →
        Finds mother z (whole_array false mother size m) below
    referred mother size m z below lies word_is few low =
        let two : Two_slots (reference couple) z below = two_slots (reference couple) z below lies in
        let is : IsDescriptor h.word (whole_array false mother size m) = is_descriptor h.word (whole_array false mother size m) (ap as_descriptor word_is ∙ array_read mother size m few low) in
        let x_is : as_irw two.upper.word ≡ Some (record { level = couple.level; index = couple.index }) = ap as_irw two.upper.slot_is ∙ reference_read couple h.fits.0 h.fits.1 in
        record {
          first = two.upper.word;
          second = two.lower.word;
          words = two.lower.words_below;
          top = two.upper.is ∙ ap (λ (ws : List Word). two.upper.word ∷ ws) two.lower.is;
          left_are = two.lower.are;
          is_whole = number_read z two.lower.word two.lower.slot_is;
          marks = s.stands.there.mark_is ∙ ap (newest (frame core.registers) (length core.below)) lies;
          many = ap length lies ∙ omega arith;
          array_is = array_found mother two.upper.word (whole_array false mother size m) x_is (is_whole_array false mother size m) is h.reaches;
          found = is_found mother two.upper.word (whole_array false mother size m) x_is (is_whole_array false mother size m) is h.reaches;
        }

    -- ---- the last subscript

    -- The last of its subscripts has been moved: what lies there names the row in which the element lies.
    pub record LastIndex (ks : List ℕ) (subscript : ℤ) (below : List Slot) : Type 0 where
      -- how many elements the row has, which of the array's it is, and its number
      pub size : ℕ
      pub index : ℕ
      pub number : ℕ
      -- the descriptor is a copy, that of a row
      pub copied : Bool
      pub moved_subscript : ℤ
      pub few : size ≤ 1048576
      pub low : number < row_limit
      pub row_there : slice_get h.allotted.parts index ≡ Some number
      pub within : (k : ℕ) → k < size → ElementIsIn sc w lay h.cell.bounds (ks ++ k ∷ []) index k
      pub place_is : index_in moved_subscript size ≡ subscript_place sort h.cell ks subscript
      pub finds : Finds false moved_subscript (whole_array copied false size number) below

    -- of one dimension
    only : (subscript : ℤ) (below : List Slot) (b : Bounds) (low : ℤ) → CountsBy sort h.cell.bounds (low ∷ []) → h.cell.bounds ≡ b ∷ [] → s.stands.slots ≡ reference couple ∷ operand (number (moved_number low subscript)) ∷ below →
        LastIndex [] subscript below
    only subscript below b low counts is lies =
        let d : DescriptorIs (b ∷ []) h.allotted h.word = subst (λ (bs : List Bounds). DescriptorIs bs h.allotted h.word) is h.descriptor in
        let sized : OneSized b = one_sized b (subst (λ (bs : List Bounds). AreSized bs) is h.sized) in
        record {
          size = size_of b;
          index = 0;
          number = d.0;
          copied = false;
          moved_subscript = moved_number low subscript;
          few = sized.few;
          low = d.1;
          row_there = ap (λ (a : Allotted). slice_get a.parts 0) d.2;
          within = λ k under. subst (λ (bs : List Bounds). ElementIsIn sc w lay bs (k ∷ []) 0 k) (sym is) (refl, refl, under);
          place_is = only_index sort h.cell h.sized b low subscript counts is;
          finds = referred false (size_of b) d.0 (moved_number low subscript) below lies d.3 sized.few d.1;
        }

    -- .. of two, by the descriptor of a row
    -- The second subscript of an element, after the first.
    pub record SecondIndex : Type 0 where
      pub j : ℕ
      pub subscript : ℤ
      pub below : List Slot
      pub first : Bounds
      pub second : Bounds
      pub first_low : ℤ
      pub second_low : ℤ
      pub counts : CountsBy sort h.cell.bounds (first_low ∷ second_low ∷ [])
      pub is : h.cell.bounds ≡ first ∷ second ∷ []
      pub lies : s.stands.slots ≡ descriptor (row n (j ∷ [])) ∷ operand (number (moved_number second_low subscript)) ∷ below

    module _ (last : SecondIndex) where
      open last use {j, subscript, below, first as b, second as c, first_low, second_low, counts, is, lies}

      two : Two_slots (descriptor (row n (j ∷ []))) (moved_number second_low subscript) below
      two = two_slots (descriptor (row n (j ∷ []))) (moved_number second_low subscript) below lies

      of_row : IsRow sc w lay (IsInReach w (part ∷ outer)) part.instance n (j ∷ []) two.upper.word
      of_row = known_is sc w lay (IsInReach w (part ∷ outer)) part.instance s.stands.held s.stands.held_are (row n (j ∷ [])) two.upper.word two.upper.slot_is

      -- it is of this array
      of_home : IsArrayOf sc w lay home.instance home.name of_row.declared of_row.cell of_row.allotted
      of_home = subst (λ (r : Reference). IsArrayOf sc w lay r.instance r.name of_row.declared of_row.cell of_row.allotted) of_row.home_is of_row.array

      cell_is : of_row.cell ≡ h.cell
      cell_is = same_array of_row.cell h.cell (sym of_home.is ∙ h.of.is)

      allotted_is : of_row.allotted ≡ h.allotted
      allotted_is =
          let found = some_same (sym of_home.found ∙ h.of.found) in
          some_same (sym of_home.allotted ∙ ap (λ (f : FoundMade). slice_get (lay.rows home.instance) f.number) found ∙ h.of.allotted)

      bounds_are : of_row.first ∷ of_row.second ∷ [] ≡ b ∷ c ∷ []
      bounds_are = sym of_row.bounds ∙ ap (λ (a : ArrayCell). a.bounds) cell_is ∙ is

      first_is : of_row.first ≡ b
      first_is = let e : of_row.first ∷ of_row.second ∷ [] ≡ b ∷ c ∷ [] = bounds_are in cc

      second_is : of_row.second ≡ c
      second_is = let e : of_row.first ∷ of_row.second ∷ [] ≡ b ∷ c ∷ [] = bounds_are in cc

      index_is : of_row.index ≡ j
      index_is = let e : j ∷ [] ≡ of_row.index ∷ [] = of_row.subscripts in cc

      sized : TwoSized b c
      sized = two_sized b c (subst (λ (bs : List Bounds). AreSized bs) is h.sized)

      word_reads : IsDescriptor two.upper.word (whole_array true false (size_of c) of_row.number)
      word_reads =
          is_descriptor two.upper.word (whole_array true false (size_of c) of_row.number)
          (ap as_descriptor (of_row.word_is ∙ ap (λ (bs : Bounds). row_copy sc w lay (size_of bs) of_row.number) second_is) ∙ row_copy_read sc w lay (size_of c) of_row.number sized.second.few of_row.few)

      behind_one : LastIndex (j ∷ []) subscript below
      behind_one =
          record {
            size = size_of c;
            index = j;
            number = of_row.number;
            copied = true;
            moved_subscript = moved_number second_low subscript;
            few = sized.second.few;
            low = of_row.few;
            row_there = ap (λ (a : Allotted). slice_get a.parts j) (sym allotted_is) ∙ ap (λ (k : ℕ). slice_get of_row.allotted.parts k) (sym index_is) ∙ of_row.part;
            within = λ k under. subst (λ (bs : List Bounds). ElementIsIn sc w lay bs (j ∷ k ∷ []) j k) (sym is)
                (refl, refl, omega (arith, of_row.within, index_is, ap size_of first_is), under);
            place_is = second_index sort h.cell h.sized b c first_low second_low counts is j subscript;
            finds =
                record {
                  first = two.upper.word;
                  second = two.lower.word;
                  words = two.lower.words_below;
                  top = two.upper.is ∙ ap (λ (ws : List Word). two.upper.word ∷ ws) two.lower.is;
                  left_are = two.lower.are;
                  is_whole = number_read (moved_number second_low subscript) two.lower.word two.lower.slot_is;
                  marks = s.stands.there.mark_is ∙ ap (newest (frame core.registers) (length core.below)) lies;
                  many = ap length lies ∙ omega arith;
                  array_is =
                      array_itself img core.registers false two.upper.word (whole_array true false (size_of c) of_row.number) (is_whole_array true false (size_of c) of_row.number)
                      word_reads.no_irw word_reads.no_sirw word_reads.reads;
                  found = itself word_reads.no_irw word_reads.no_sirw;
                };
          }

    by_lows : (ks : List ℕ) (subscript : ℤ) (below : List Slot) (lows : List ℤ) → CountsBy sort h.cell.bounds lows → IsLastSubscript n couple lows ks subscript s.stands.slots below → LastIndex ks subscript below
    by_lows ks subscript below [] counts lies = absurd lies
    by_lows [] subscript below (low ∷ []) counts lies =
        let one = one_bound sort h.cell.bounds low counts in
        only subscript below one.0 low counts one.1 lies
    by_lows (j ∷ ks) subscript below (low ∷ []) counts lies = absurd lies
    by_lows [] subscript below (low ∷ second ∷ []) counts lies = absurd lies
    by_lows (j ∷ []) subscript below (low ∷ second ∷ []) counts lies =
        let both = two_bounds sort h.cell.bounds low second counts in
        behind_one (record { j = j; subscript = subscript; below = below; first = both.0; second = both.1; first_low = low; second_low = second; counts = counts; is = both.2; lies = lies })
    by_lows (j ∷ k ∷ ks) subscript below (low ∷ second ∷ []) counts lies = absurd lies
    by_lows ks subscript below (low ∷ second ∷ third ∷ lows) counts lies = absurd lies

    pub last_index : (ks : List ℕ) (subscript : ℤ) (below : List Slot) → IsLastSubscript n couple shape.lows ks subscript s.stands.slots below → LastIndex ks subscript below
    last_index ks subscript below lies = by_lows ks subscript below shape.lows h.counts lies

    -- ---- the first of two subscripts

    -- The first one has been moved: what lies there names the row of the rows' descriptors.
    pub record FirstIndex (subscript : ℤ) (below : List Slot) : Type 0 where
      pub first : Bounds
      pub second : Bounds
      pub bounds : h.cell.bounds ≡ first ∷ second ∷ []
      pub mother : ℕ
      pub few : size_of second ≤ 1048576
      pub mother_is : h.allotted.mother ≡ Some mother
      pub many : length h.allotted.parts ≡ size_of first
      pub moved_subscript : ℤ
      pub place_is : index_in moved_subscript (size_of first) ≡ subscript_place sort h.cell [] subscript
      pub finds : Finds true moved_subscript (whole_array false true (size_of first) mother) below

    pub first_of_two : (subscript low second : ℤ) (below : List Slot) → shape.lows ≡ low ∷ second ∷ [] → s.stands.slots ≡ reference couple ∷ operand (number (moved_number low subscript)) ∷ below → FirstIndex subscript below
    first_of_two subscript low second below lows lies =
        let counts : CountsBy sort h.cell.bounds (low ∷ second ∷ []) = subst (λ (ls : List ℤ). CountsBy sort h.cell.bounds ls) lows h.counts in
        let both = two_bounds sort h.cell.bounds low second counts in
        let is : h.cell.bounds ≡ both.0 ∷ both.1 ∷ [] = both.2 in
        let d : DescriptorIs (both.0 ∷ both.1 ∷ []) h.allotted h.word = subst (λ (bs : List Bounds). DescriptorIs bs h.allotted h.word) is h.descriptor in
        let sized : TwoSized both.0 both.1 = two_sized both.0 both.1 (subst (λ (bs : List Bounds). AreSized bs) is h.sized) in
        record {
          first = both.0;
          second = both.1;
          bounds = is;
          mother = d.0;
          few = sized.second.few;
          mother_is = d.2;
          many = d.3;
          moved_subscript = moved_number low subscript;
          place_is = first_index sort h.cell h.sized both.0 both.1 low second counts is subscript;
          finds = referred true (size_of both.0) d.0 (moved_number low subscript) below lies d.4 sized.first.few d.1;
        }
