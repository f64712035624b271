-- Where a process finds what an action reads: the operand in the cell of a variable or a result, and the control word of a procedure.
use Rattle.std.proofs.Common.{◌≡◌, refl, sym, ap, ◌∙◌, subst, ℕ, suc, ◌+◌, ◌≤◌, List, [], ◌∷◌, ◌++◌, length, Option, Some, None, false, arith, lit<, ◌<◌}
use Rattle.b67_list.proofs.Lists.{get_front, get_within}
use Rattle.b67_scenes.proofs.Prelude.{slice_get, reverse, Block, block_numbered, number_at, level_of, PProgram, Scopes, scopes_of, use_of, Kind, Named, is_evaluation, NamedCell, Instance, instance_at, or_no_instance, ancestor, BlockIsSeen, procedures_before, segment_of, Word, Place, as_pcw_pcw_word, Fits_pcw, as_pcw, as_sirw, pcw_word, Pcw, Couple, Code, words_of, word_at, place, display_at, Simple, result_cells_of, variables, parameter_cells, simple_cells, procedures, made_base, IsVariable, code_at, AreNested, Texts, control_words, length_around, words_are, get_behind, NearCell, value_tag, owned_frame, as_many_values, Holds_value, value_of_cell, CellsAre, block_controls, Framed, Owned}
use Rattle.b67_control.proofs.ControlLaws.{as_sirw_other}
use Rattle.b67_templates.specs.Cells as wants
use Rattle.b67_templates.specs.Cells.{IsProcedure}
use Rattle.b67_templates.specs.Nested.{IsDeclared}
use Rattle.b67_rows.proofs.Segmented.{procedure_segment, get_mapped}
use Rattle.b67_rows.proofs.Touching.{own_cell}
use Rattle.b67_rows.proofs.Words.{pcw_kind}
use Rattle.b67_frames.proofs.FreshCells.{cells_joined}
use Rattle.b67_scenes.proofs.Finding.{Found, frame_near, place_near}
use Rattle.b67_scenes.proofs.Led.{named_parent, named_seen, named_shown}
use Rattle.b67_scenes.proofs.Sights.{Seen, cell_below, cell_lies}
use Rattle.b67_frames.proofs.ControlWords.{get_control}
use Rattle.b67_scenes.proofs.Homes.{Home, home}
use Rattle.b67_scenes.proofs.Scene.{shown_frame, Actor}
use Rattle.b67_scenes.proofs.Staying.{names_in, level_in}

-- ---- words

abbrev pub IsOperand : Word → Type 0
IsOperand w = w.tag ≡ 0

-- the control word of a procedure
pub record IsEntry (w : Word) : Type 0 where
  pub control : Pcw
  pub reads : as_pcw w ≡ Some control
  pub no_intrinsic : control.intrinsic ≡ false
  pub no_sirw : as_sirw w ≡ None

-- ---- cells

record First (far : ℕ) (words : List Word) : Type 0 where
  word : Word
  lies : slice_get words far ≡ Some word
  is : IsOperand word

-- the result and what lies after it
abbrev from_result : Block → Kind → List Simple
from_result b kind = record { name = b.name; wanted = wants.value kind } ∷ variables b.decls

-- the cell after those of the parameters is that of the result
first_value : (sc : Scopes) (b : Block) (kind : Kind) → b.result ≡ Some kind → (cells : List NamedCell) (words : List Word) → CellsAre (simple_cells sc b) cells words → First (length (parameter_cells sc b)) words
first_value sc b kind typed cells words are = behind (parameter_cells sc b) cells words (subst (λ (ss : List Simple). CellsAre ss cells words) (cells_joined sc b ∙ ap (λ (o : Option Kind). parameter_cells sc b ++ (result_cells_of o b.name ++ variables b.decls)) typed) are)
  where
    behind : (ss : List Simple) (cs : List NamedCell) (ws : List Word) → CellsAre (ss ++ from_result b kind) cs ws → First (length ss) ws
    behind [] [] ws a = absurd a
    behind [] (c ∷ cs) [] a = absurd a
    behind [] (c ∷ cs) (w ∷ ws) a =
        let held : Holds_value kind c.cell w = value_of_cell kind c.cell w a.1 in
        record { word = w; lies = refl; is = value_tag held.value w held.word }
    behind (s ∷ ss) [] ws a = absurd a
    behind (s ∷ ss) (c ∷ cs) [] a = absurd a
    behind (s ∷ ss) (c ∷ cs) (w ∷ ws) a =
        let later = behind ss cs ws a.2 in
        record { word = later.word; lies = later.lies; is = later.is }

-- ---- where a process stands

module _ (tree : PProgram) (code : Code) (texts : Texts) (nested : AreNested (scopes_of tree)) (actor : Actor tree code texts) where
  open actor use {w, lay, img, p, part, outer, core, s}

  abbrev sc : Scopes
  sc = scopes_of tree

  abbrev level : ℕ
  level = names_in tree w part

  abbrev block : ℕ
  block = (instance_at w part.instance).block

  -- a couple names a near cell, in which lies such a word
  pub record Names (couple : Couple) (Is : Word → Type 0) : Type 0 where
    pub home : Place
    pub shown : display_at core.registers couple.level ≡ Some home
    pub near : NearCell p img (record { frame = home; index = couple.index })
    pub word : Word
    pub lies : word_at img.stacks (place home.stack (home.at + couple.index)) ≡ Some word
    pub is : Is word

  -- what lies below the floor lies in the stack
  pub below_there : (n : ℕ) (x : Word) → slice_get core.below n ≡ Some x → word_at img.stacks (place p n) ≡ Some x
  below_there n x e =
      ap (λ (k : ℕ). slice_get (words_of img.stacks k) n) (sym s.has.own)
      ∙ ap (λ (ws : List Word). slice_get ws n) (words_are img p core s.has)
      ∙ get_front core.below (reverse core.words) n x e

  pub variable_there : (n : Named) (kind : Kind) (couple : Couple) → BlockIsSeen sc block n → IsVariable sc level n kind couple → Names couple IsOperand
  variable_there n kind couple seen_it v =
      let h : Home tree code texts actor n kind couple = home tree code texts actor n kind couple seen_it v in
      let f : Found tree code texts w lay img (ancestor w ((use_of sc n).up) part.instance) = h.at.seen_there.found in
      record {
        home = place f.number (length f.lies.frame.lower);
        shown = h.shown;
        near = (
          frame_near tree code texts w lay img (ancestor w ((use_of sc n).up) part.instance) f p h.at.seen_there.near,
          place_near tree code texts w lay img (ancestor w ((use_of sc n).up) part.instance) f p (length f.lies.frame.lower + couple.index) h.at.seen_there.near (omega (arith, h.at.below, h.index)),
        );
        word = h.at.word;
        lies = h.lies;
        is = value_tag h.at.value h.at.word h.at.word_is;
      }

  -- ---- the own result

  module _ (owns : is_evaluation part.purpose ≡ false) (kind : Kind) (typed : (block_numbered sc.blocks block).result ≡ Some kind) (couple : Couple) (level_is : couple.level ≡ level_in tree w part)
      (index_is : couple.index ≡ 2 + length (parameter_cells sc (block_numbered sc.blocks block))) where
    abbrev own_frame : Owned tree code texts w lay p part outer (length s.stands.frame.lower) s.stands.frame.mark s.stands.frame.control s.stands.frame.cells
    own_frame = owned_frame tree code texts w lay p part outer core.below s.stands.frame owns

    abbrev own : Instance
    own = own_frame.framed.instance

    own_block : own.block ≡ block
    own_block = sym (ap (λ (o : Option Instance). (or_no_instance o).block) own_frame.framed.is)

    abbrev many : ℕ
    many = length (parameter_cells sc (block_numbered sc.blocks own.block))

    first : First many own_frame.framed.values
    first =
        first_value sc (block_numbered sc.blocks own.block) kind (ap (λ (j : ℕ). (block_numbered sc.blocks j).result) own_block ∙ typed) own_frame.framed.simple own_frame.framed.values
        own_frame.framed.simple_are

    third : couple.index ≡ 2 + many
    third = index_is ∙ ap (λ (j : ℕ). 2 + length (parameter_cells sc (block_numbered sc.blocks j))) (sym own_block)

    result_lies : slice_get core.below (length s.stands.frame.lower + couple.index) ≡ Some first.word
    result_lies =
        ap (λ (ws : List Word). slice_get ws (length s.stands.frame.lower + couple.index)) s.stands.frame.words_are
        ∙ get_behind s.stands.frame.lower (s.stands.frame.mark ∷ s.stands.frame.control ∷ s.stands.frame.cells) (suc (suc many)) (length s.stands.frame.lower + couple.index) (omega (arith, third))
        ∙ ap (λ (ws : List Word). slice_get ws many) own_frame.framed.cells_is
        ∙ get_front own_frame.framed.values _ many first.word first.lies

    pub result_there : Names couple IsOperand
    result_there =
        record {
          home = place p (length s.stands.frame.lower);
          near = own_cell p img (record { frame = place p (length s.stands.frame.lower); index = couple.index }) refl;
          shown = ap (λ (k : ℕ). display_at core.registers k) (level_is ∙ sym s.stands.there.level_is) ∙ shown_frame tree code texts actor;
          word = first.word;
          lies = below_there (length s.stands.frame.lower + couple.index) first.word result_lies;
          is = first.is;
        }

  -- ---- the control word of a procedure

  module _ (n : Named) (callee : ℕ) (couple : Couple) (is_seen : BlockIsSeen sc block n) (c : IsProcedure sc level n callee couple) where
    abbrev home_at : ℕ
    home_at = ancestor w ((use_of sc n).up) part.instance

    module _ (h : Seen tree code texts actor home_at) where
      abbrev framed_there : Framed sc w lay h.found.number h.found.lies.part.instance h.found.lies.outer (length h.found.lies.frame.lower) h.found.lies.frame.mark h.found.lies.frame.control h.found.lies.frame.cells
      framed_there = h.found.lies.owned.framed

      abbrev here : Instance
      here = framed_there.instance

      abbrev declaring : Block
      declaring = block_numbered sc.blocks here.block

      abbrev called : ℕ
      called = number_at sc.blocks c.declared.spot

      abbrev segment : ℕ
      segment = segment_of sc.blocks called

      abbrev control : Pcw
      control = code_at segment 0 (level_of declaring + 1)

      instance_here : instance_at w home_at ≡ here
      instance_here = ap (instance_at w) (sym h.found.lies.instance_is) ∙ ap or_no_instance framed_there.is

      block_here : here.block ≡ (use_of sc n).block
      block_here = sym (ap (λ (x : Instance). x.block) instance_here) ∙ (named_parent tree code texts actor n is_seen).block

      declared_there : slice_get (procedures declaring.decls) c.number ≡ Some c.declared
      declared_there = ap (λ (j : ℕ). slice_get (procedures ((block_numbered sc.blocks j).decls)) c.number) block_here ∙ c.there

      is_declared : IsDeclared sc here.block c.declared
      is_declared = (nested.each here.block framed_there.known).procedure c.number c.declared declared_there

      -- a control word can hold its segment and its level
      fits : Fits_pcw control
      fits =
          let few : procedures_before sc.blocks (suc called) ≤ 1023 = nested.procedures_few (suc called) in
          let deep : level_of (block_numbered sc.blocks called) ≤ 31 = (nested.each called is_declared.known).low in
          let further : level_of (block_numbered sc.blocks called) ≡ level_of declaring + 1 =
          omega (arith, length_around sc.blocks called, ap length is_declared.around_is, length_around sc.blocks here.block) in
          (omega (arith, procedure_segment sc.blocks called is_declared.procedure, few), (lit< tt, (lit< tt, (omega (arith, further, deep), (lit< tt, tt)))))

      abbrev controls_there : List Word
      controls_there = control_words (block_controls sc here.block framed_there.ats)

      abbrev cell_number : ℕ
      cell_number = length (simple_cells sc declaring) + c.number

      cells_lie : slice_get h.found.lies.frame.cells cell_number ≡ Some (pcw_word control)
      cells_lie =
          ap (λ (ws : List Word). slice_get ws cell_number) framed_there.cells_is
          ∙ get_behind framed_there.values (controls_there ++ framed_there.descriptors) c.number cell_number
          (omega (arith, as_many_values (simple_cells sc declaring) framed_there.simple framed_there.values framed_there.simple_are))
          ∙ get_front controls_there framed_there.descriptors c.number (pcw_word control)
          (get_control sc here.block framed_there.ats c.number segment
          (get_mapped (λ (m : Named). segment_of sc.blocks (number_at sc.blocks m.spot)) (procedures declaring.decls) c.number c.declared declared_there))

      index_is : couple.index ≡ 2 + cell_number
      index_is = omega (arith, c.index_is, ap (λ (j : ℕ). length (simple_cells sc (block_numbered sc.blocks j))) block_here)

      below : length h.found.lies.frame.lower + (2 + cell_number) < length h.found.core.below
      below =
          cell_below tree code texts actor home_at h cell_number (get_within h.found.lies.frame.cells cell_number (pcw_word control) cells_lie)
          (omega (
            arith,
            get_within (procedures declaring.decls) c.number c.declared declared_there,
            ap (λ (x : Instance). made_base sc (block_numbered sc.blocks x.block)) instance_here,
          ))

      entry_there : Names couple IsEntry
      entry_there =
          record {
            home = place h.found.number (length h.found.lies.frame.lower);
            near = (
              frame_near tree code texts w lay img home_at h.found p h.near,
              place_near tree code texts w lay img home_at h.found p (length h.found.lies.frame.lower + couple.index) h.near (omega (arith, below, index_is)),
            );
            shown = named_shown tree code texts actor n is_seen couple.level c.level_is h;
            word = pcw_word control;
            lies =
                ap (λ (k : ℕ). word_at img.stacks (place h.found.number (length h.found.lies.frame.lower + k))) index_is
                ∙ cell_lies tree code texts actor home_at h cell_number (pcw_word control) cells_lie below;
            is =
                record {
                  control = control;
                  reads = as_pcw_pcw_word control fits;
                  no_intrinsic = refl;
                  no_sirw = as_sirw_other (pcw_word control) (λ k. let is = sym (pcw_kind control) ∙ k in cc);
                };
          }

    pub procedure_there : Names couple IsEntry
    procedure_there = entry_there (named_seen tree code texts actor n is_seen)
