-- The read of a procedure's result, at its end.
use Rattle.std.proofs.Common.{◌≡◌, refl, sym, ap, ◌∙◌, subst, ℕ, suc, ◌+◌, List, [], ◌∷◌, ◌++◌, length, Option, Some, None, Bool, true, false, Ok, arith}
use Rattle.algol_tree.proofs.Names.{same_name_itself}
use Rattle.b67_list.proofs.Lists.{get_front}
use Rattle.b67_pictures.proofs.Prelude.{if◌then◌else◌, slice_get, Read, Block, block_numbered, PProgram, Scopes, scopes_of, same_name, Kind, Ask, reads_result, choice_of, goes, is_evaluation, value, Cell, simple, NamedCell, Instance, instance_at, or_no_instance, cell_at, cell_in, value_in, Word, Code, word_at, place, display_at, operator_at, Simple, parameter_cells, result_cells_of, variables, simple_cells, yields_of, AreNested, Texts, operand, Core, IsCore, with_core, CoreAt, at_operator, with_top, action_not_plain, action_is, get_behind, makes, unmade, value_tag, no_sirw, no_pcw, result_given, begins_core, owned_frame, asks_as_own, frame_gives, Owned, operator_there, shown_frame, AbleActor, actor_of, choice_is, text_in, level_in, context_in, TheLaws, Does}
use Rattle.b67_ops.specs.declared.Operator.TheVariants as ops
use Rattle.b67_table.specs.Effect as effects
use Rattle.b67_table.specs.Outcome as outcomes
use Rattle.b67_templates.specs.Contexts as yielding
use Rattle.b67_templates.specs.Cells as wants
use Rattle.b67_templates.specs.Cells.{Found, found_from}
use Rattle.b67_templates.specs.Code.{ResultAt}
use Rattle.b67_rows.proofs.ValueRow.{reads_value, value_raw, value_class}
use Rattle.b67_frames.proofs.FreshCells.{cells_joined}
use Rattle.b67_frames.proofs.Variables.{Cell_of, variable_cell, cell_front, Holds_value, value_of_cell}
use Rattle.b67_pictures.proofs.InFrame.{does_in_frame}
use Rattle.b67_pictures.proofs.Head.{Head}

-- what is not found among the first cells is found after them
found_behind : (from : ℕ) (ss others : List Simple) (name : List ℕ) (f : Found) → found_from from ss name ≡ None → found_from (from + length ss) others name ≡ Some f → found_from from (ss ++ others) name ≡ Some f
found_behind from [] others name f none e = subst (λ (n : ℕ). found_from n others name ≡ Some f) (omega arith) e
found_behind from (s ∷ ss) others name f none e = by_name (same_name s.name name) none (λ h. found_behind (from + 1) ss others name f h (subst (λ (n : ℕ). found_from n others name ≡ Some f) (omega arith) e))
  where
    by_name : (t : Bool) → (if t then Some (record { number = from; cell = s }) else found_from (from + 1) ss name) ≡ None → (found_from (from + 1) ss name ≡ None → found_from (from + 1) (ss ++ others) name ≡ Some f) →
        (if t then Some (record { number = from; cell = s }) else found_from (from + 1) (ss ++ others) name) ≡ Some f
    by_name true h later = cc
    by_name false h later = later h

-- the result comes first after the cells of the parameters
result_found : (sc : Scopes) (b : Block) (kind : Kind) → found_from 0 (parameter_cells sc b) b.name ≡ None → b.result ≡ Some kind →
    found_from 0 (simple_cells sc b) b.name ≡ Some (record { number = length (parameter_cells sc b); cell = record { name = b.name; wanted = wants.value kind } })
result_found sc b kind apart typed =
    let far = length (parameter_cells sc b) in
    ap (λ (ss : List Simple). found_from 0 ss b.name) (cells_joined sc b)
    ∙ found_behind 0 (parameter_cells sc b) (result_cells_of b.result b.name ++ variables b.decls) b.name (record { number = far; cell = record { name = b.name; wanted = wants.value kind } }) apart
    (ap (λ (n : ℕ). found_from n (result_cells_of b.result b.name ++ variables b.decls) b.name) (let same : 0 + far ≡ far = omega arith in same)
    ∙ ap (λ (o : Option Kind). found_from far (result_cells_of o b.name ++ variables b.decls) b.name) typed
    ∙ ap (λ (t : Bool). if t then Some (record { number = far; cell = record { name = b.name; wanted = wants.value kind } }) else found_from (far + 1) (variables b.decls) b.name) (same_name_itself b.name))

module _ (tree : PProgram) (code : Code) (texts : Texts) (nested : AreNested (scopes_of tree)) (laws : TheLaws) (actor : AbleActor tree code texts) where
  open actor use {w, lay, img, p, q, part, outer, core, s}

  module _ (name : List ℕ) (head : Head tree code texts actor (reads_result name)) where
    open head use {asks, action as a, answered}

    abbrev sc : Scopes
    sc = scopes_of tree

    -- the part has its frame's instance for its own
    pub owns : is_evaluation part.purpose ≡ false
    owns = asks_as_own tree code texts w lay p part outer core.below s.stands.frame (reads_result name) asks (λ e. e)

    abbrev own_frame : Owned tree code texts w lay p part outer (length s.stands.frame.lower) s.stands.frame.mark s.stands.frame.control s.stands.frame.cells
    own_frame = owned_frame tree code texts w lay p part outer core.below s.stands.frame owns

    abbrev at : ResultAt sc (context_in tree code texts w part s.stands.frame.gives) (text_in tree texts w part) (level_in tree w part) name s.stands.pc
    at = a.0

    abbrev next : ℕ
    next = at.valued

    there : operator_at code core.registers ≡ Ok (ops.Valc at.couple, next)
    there = operator_there sc s.stands.held code (text_in tree texts w part) (level_in tree w part) s.stands.pc s.stands.slots core (ops.Valc at.couple) next s.stands.there at.read

    -- ---- its cell

    abbrev own : Instance
    own = own_frame.framed.instance

    own_is : instance_at w part.instance ≡ own
    own_is = ap or_no_instance own_frame.framed.is

    abbrev b : Block
    b = block_numbered sc.blocks own.block

    typed : b.result ≡ Some at.kind
    typed = result_given b.result at.kind (subst (λ (x : Instance). yields_of (block_numbered sc.blocks x.block).result ≡ yielding.value at.kind) own_is (sym (frame_gives tree code texts w lay p part outer core.below s.stands.frame owns) ∙ at.is))

    named : b.name ≡ name
    named = subst (λ (x : Instance). (block_numbered sc.blocks x.block).name ≡ name) own_is at.named

    apart : found_from 0 (parameter_cells sc b) b.name ≡ None
    apart = (nested.each own.block own_frame.framed.known).parameters.apart at.kind typed

    index_is : at.couple.index ≡ 2 + length (parameter_cells sc b)
    index_is = at.index_is ∙ ap (λ (x : Instance). 2 + length (parameter_cells sc (block_numbered sc.blocks x.block))) own_is

    abbrev found : Found
    found = record { number = length (parameter_cells sc b); cell = record { name = b.name; wanted = wants.value at.kind } }

    abbrev first_cells : List NamedCell
    first_cells = own_frame.framed.simple

    abbrev Cell_there : Type 0
    Cell_there = Cell_of found 0 b.name first_cells own_frame.framed.values

    c : Cell_there
    c = variable_cell (simple_cells sc b) first_cells own_frame.framed.values 0 b.name found own_frame.framed.simple_are (result_found sc b at.kind apart typed)

    module _ (c : Cell_there) where
      held : Holds_value at.kind (cell_in first_cells b.name) c.word
      held = value_of_cell at.kind (cell_in first_cells b.name) c.word c.is

      module _ (held : Holds_value at.kind (cell_in first_cells b.name) c.word) where
        tag : c.word.tag ≡ 0
        tag = value_tag held.value c.word held.word

        abbrev base : ℕ
        base = length s.stands.frame.lower

        cells_lie : slice_get s.stands.frame.cells c.far ≡ Some c.word
        cells_lie = ap (λ (ws : List Word). slice_get ws c.far) own_frame.framed.cells_is ∙ get_front own_frame.framed.values _ c.far c.word c.lies

        below_lies : slice_get core.below (base + at.couple.index) ≡ Some c.word
        below_lies =
            ap (λ (ws : List Word). slice_get ws (base + at.couple.index)) s.stands.frame.words_are
            ∙ get_behind s.stands.frame.lower (s.stands.frame.mark ∷ s.stands.frame.control ∷ s.stands.frame.cells) (suc (suc c.far)) (base + at.couple.index) (omega (arith, index_is, c.number))
            ∙ cells_lie

        lies : word_at img.stacks (record { stack = p; at = base + at.couple.index }) ≡ Some c.word
        lies = begins_core img p core s.has (base + at.couple.index) c.word below_lies

        shown : display_at core.registers at.couple.level ≡ Some (place p base)
        shown = ap (λ (k : ℕ). display_at core.registers k) (at.level_is ∙ sym s.stands.there.level_is) ∙ shown_frame tree code texts (actor_of s)

        abbrev new : Core
        new = with_top core c.word next

        is_new : IsCore new
        is_new = record { bottom = s.has.is.bottom; top = omega (arith, s.has.is.top) }

        core_at : CoreAt sc s.stands.held code (text_in tree texts w part) (level_in tree w part) next (operand held.value ∷ s.stands.slots) new
        core_at =
            record {
              segment = s.stands.there.segment;
              there = s.stands.there.there;
              spells = s.stands.there.spells;
              level_is = s.stands.there.level_is;
              place_is = refl;
              is = is_new;
              mark_is = s.stands.there.mark_is;
              words_are = (held.word, s.stands.there.words_are);
            }

        -- it lies before the arrays
        cell_here : cell_in own.cells b.name ≡ cell_in first_cells b.name
        cell_here =
            ap (λ (cells : List NamedCell). cell_in cells b.name) own_frame.framed.has
            ∙ cell_front (simple_cells sc b) first_cells own_frame.framed.arrays own_frame.framed.values 0 b.name found own_frame.framed.simple_are (result_found sc b at.kind apart typed)

        cell_is : cell_at w (record { instance = part.instance; name = name }) ≡ simple held.value
        cell_is = ap (λ (x : Instance). cell_in x.cells name) own_is ∙ ap (cell_in own.cells) (sym named) ∙ cell_here ∙ held.is

        pub result_read : Does tree code texts w img p
        result_read =
            does_in_frame tree code texts laws actor (record {
              unmade = unmade part.rest (ap makes asks);
              answer = value held.value;
              nameless = tt;
              new = new;
              below = refl;
              frame_is = record { is = refl };
              known = s.stands.held;
              known_are = s.stands.held_are;
              pc = next;
              slots = operand held.value ∷ s.stands.slots;
              there = core_at;
              few = omega (arith, ap length a.1, a.2);
              comes = answered (value held.value) next (operand held.value ∷ s.stands.slots) (refl, refl, held.kind);
            }) w.output Read
            (action_not_plain code (ops.Valc at.couple) (at_operator s.has there)
            (value_class code at.couple (at_operator s.has there) (place p base) shown c.word lies tag (no_sirw c.word tag) (no_pcw c.word tag)))
            (value_raw code at.couple (at_operator s.has there) (place p base) shown c.word lies tag (no_sirw c.word tag) (no_pcw c.word tag)
            ∙ ap (λ (o : List (List ℕ)). effects.gives (record (with_core img p new) { output = o })) s.by.output)
            (choice_is sc w p q part outer s.at s.todo
            ∙ ap (λ (k : Ask). choice_of sc w p q part outer k) asks
            ∙ ap (λ (x : Cell). goes sc w p q part outer Read w (value (value_in x))) cell_is)
            (λ t. action_is code (ops.Valc at.couple) (at_operator s.has there) (outcomes.gives (record (with_core img p new) { output = w.output })) t
            ∙ (reads_value code at.couple (at_operator s.has there) (place p base) shown c.word lies tag (no_sirw c.word tag) (no_pcw c.word tag)))

    pub reading_result : Does tree code texts w img p
    reading_result = result_read c (held c)
