-- What the operators reach that read an element, index an array, store an element, pass an array on or make arrays.
use Rattle.std.proofs.Common.{◌≡◌, refl, ap, ◌∙◌, ℕ, ◌-◌, List, [], ◌∷◌, length, Some}
use Rattle.b67_pictures.proofs.Prelude.{PProgram, PPair, Scopes, scopes_of, Kind, Named, Ask, reads_element, indexes, stores, passes, makes_arrays, ask, element_of, Value, Reference, Shape, Word, Couple, Arrays, Placed, Code, word_at, place, frame, Has, AreNested, Texts, ActionAt, of_row, of_element, ElementReadAt, element, operand, descriptor, array_asked, Top, top_slot, cell_named, StandsNear, known_is, call_names, over_top, IsElement, IsInReach, MeantArray, array_home, arrays_given, given_lie, at_element, ElementHome, element_home, LastIndex, last_index, FirstIndex, first_of_two, Actor, text_in, level_in, context_in, most_in, by_names}
use Rattle.b67_ops.specs.declared.Operator.TheVariants as ops
use Rattle.b67_ops.specs.declared.PlainKind.{PlainKind}
use Rattle.b67_ops.specs.declared.PlainKind.TheVariants as kinds
use Rattle.b67_footprints.specs.Reaching.{TakesBy}
use Rattle.b67_footprints.proofs.Operators.{indexed_is}
use Rattle.b67_rows.proofs.Described.{IsDescriptor, is_descriptor, IsFound, itself}
use Rattle.b67_rows.proofs.IndexRows.{top_word, under_word}
use Rattle.b67_rows.proofs.TouchingNames.{found_named}
use Rattle.b67_pictures.proofs.Passing.{FindsFormal, finds_formal}

module _ (tree : PProgram) (code : Code) (texts : Texts) (nested : AreNested (scopes_of tree)) where
  abbrev sc : Scopes
  sc = scopes_of tree

  module _ (actor : Actor tree code texts) where
    open actor use {w, lay, img, p, part, outer, core, s}

    abbrev level : ℕ
    level = level_in tree w part

    abbrev text : List Placed
    text = text_in tree texts w part

    abbrev At : Ask → Type 0
    At k = ActionAt sc (context_in tree code texts w part s.stands.frame.gives) text level (most_in tree w part) k s.stands.pc s.stands.slots

    -- an operator that takes the word at one place of its stack, where that word is found to be or to reach a descriptor
    by_found : (kind : PlainKind) → (ops.Plain kind ≡ ops.Plain kinds.Entr → ⊥) → (n next : ℕ) → ((m : ℕ) → TakesBy kind core.registers m → m ≡ n) → Has text level s.stands.pc (ops.Plain kind) next →
        (first : Word) → word_at img.stacks (place core.registers.stack n) ≡ Some first → IsFound p img core.registers first → StandsNear code p img core.registers
    by_found kind enters n next only has_it first lies found =
        by_names tree code texts nested actor (ops.Plain kind) next has_it (found_named p img core.registers kind enters n only first lies found)

    -- the array that a name means there
    abbrev IsHome : Named → Shape → Couple → Type 0
    IsHome n shape couple = MeantArray tree code texts nested actor n shape couple

    module _ (n : Named) (ks : List ℕ) (v : Value) where
      pub element_read_near : ask part.rest ≡ reads_element n ks v → At (reads_element n ks v) → StandsNear code p img core.registers
      element_read_near asks a =
          let found : ElementReadAt sc (context_in tree code texts w part s.stands.frame.gives) text level (most_in tree w part) n ks v s.stands.pc a.0 s.stands.slots a.1 = a.2 in
          let h : IsHome n a.2.array a.2.couple = array_home tree code texts nested actor n a.2.array a.2.couple (ap array_asked asks) a.2.is_array in
          let l : LastIndex tree code texts nested actor n a.2.array a.2.couple h ks a.2.subscript a.1 =
          last_index tree code texts nested actor n a.2.array a.2.couple h ks a.2.subscript a.1 a.2.lies in
          by_found kinds.Nxlv (λ e. cc) (core.registers.s - 1) a.0 (λ m e. e) a.2.stands l.finds.first (top_word img p core s.has l.finds.first l.finds.second l.finds.words l.finds.top) l.finds.found

      pub indexed_near : ask part.rest ≡ indexes n ks v → At (indexes n ks v) → StandsNear code p img core.registers
      indexed_near asks (of_row low second next below found) =
          let h : IsHome n found.array found.couple = array_home tree code texts nested actor n found.array found.couple (ap array_asked asks) found.is_array in
          let l : FirstIndex tree code texts nested actor n found.array found.couple h found.subscript below =
          first_of_two tree code texts nested actor n found.array found.couple h found.subscript low second below found.lows_are found.lies in
          by_found kinds.Nxln (λ e. cc) (core.registers.s - 1) next (λ m e. e) found.stands l.finds.first (top_word img p core s.has l.finds.first l.finds.second l.finds.words l.finds.top) l.finds.found
      indexed_near asks (of_element kind next below found) =
          let h : IsHome n found.array found.couple = array_home tree code texts nested actor n found.array found.couple (ap array_asked asks) found.is_array in
          let l : LastIndex tree code texts nested actor n found.array found.couple h ks found.subscript below =
          last_index tree code texts nested actor n found.array found.couple h ks found.subscript below found.lies in
          by_found kinds.Indx (λ e. cc) (core.registers.s - 1) next (λ m e. e) found.stands l.finds.first (top_word img p core s.has l.finds.first l.finds.second l.finds.words l.finds.top) l.finds.found

    -- the word under the value is the descriptor of an element
    pub element_stored_near : (r : Reference) (ks : List ℕ) (v : Value) → At (stores (element_of r ks) v) → StandsNear code p img core.registers
    element_stored_near r ks v a =
        let first : Top sc s.stands.held level (frame core.registers) (length core.below) (operand v) (descriptor (element r ks a.2.kind) ∷ a.1) core.words =
        top_slot sc s.stands.held level (frame core.registers) (length core.below) s.stands.slots (operand v) (descriptor (element r ks a.2.kind) ∷ a.1) core.words s.stands.there.words_are a.2.lies in
        let second : Top sc s.stands.held level (frame core.registers) (length core.below) (descriptor (element r ks a.2.kind)) a.1 first.words_below =
        top_slot sc s.stands.held level (frame core.registers) (length core.below) (descriptor (element r ks a.2.kind) ∷ a.1) (descriptor (element r ks a.2.kind)) a.1 first.words_below first.are refl in
        let e : IsElement sc w lay (IsInReach w (part ∷ outer)) r ks a.2.kind second.word =
        known_is sc w lay (IsInReach w (part ∷ outer)) part.instance s.stands.held s.stands.held_are (element r ks a.2.kind) second.word second.slot_is in
        let h : ElementHome tree code texts actor r ks a.2.kind second.word e = element_home tree code texts actor r ks a.2.kind second.word e in
        let d : IsDescriptor second.word (at_element e.at e.number) = is_descriptor second.word (at_element e.at e.number) (indexed_is second.word (at_element e.at e.number) h.reads) in
        by_found kinds.Stod (λ f. cc) (core.registers.s - 2) a.0 (λ m f. f) a.2.stands second.word
        (under_word img p core s.has first.word second.word second.words_below (first.is ∙ ap (λ (ws : List Word). first.word ∷ ws) second.is)) (itself d.no_irw d.no_sirw)

    -- LODT takes the cell of a parameter and looks no further
    pub passed_near : (n : Named) → ask part.rest ≡ passes n → At (passes n) → StandsNear code p img core.registers
    passed_near n asks a =
        let f : FindsFormal tree code texts nested actor n asks a.0 a.1 a.2 a.3 = finds_formal tree code texts nested actor n asks a.0 a.1 a.2 a.3 in
        by_names tree code texts nested actor (ops.Plain kinds.Lodt) a.1 a.3.stands
        (cell_named p img core.registers kinds.Lodt (λ e. cc) (core.registers.s - 1) (λ m e. e) f.top.word
        (over_top img p core s.has f.top.word f.top.words_below f.top.is) (λ follows. follows)
        (record { level = a.3.couple.level; index = a.3.couple.index }) f.at f.names f.shown f.near)

    pub made_near : (kind : Kind) (ns : List Named) (pairs : List PPair) (vs : List Value) → At (makes_arrays kind ns pairs vs) → StandsNear code p img core.registers
    made_near kind ns pairs vs a =
        by_names tree code texts nested actor (ops.Plain kinds.Entr) a.1.made a.1.stands
        (call_names img p core s.has s.by.system s.sees sc s.stands.held level (frame core.registers) s.stands.slots s.stands.there.mark_is s.stands.there.words_are Arrays
        (arrays_given (length ns) pairs vs) [] (a.1.lies ∙ given_lie (length ns) pairs vs))
