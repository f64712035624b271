-- A store into the variable to whose cell the reference under the top leads.
use Rattle.std.proofs.Common.{◌≡◌, refl, sym, ap, ◌∙◌, ◌+◌, List, ◌∷◌, length, Option, Some, None, Ok}
use Rattle.b67_pictures.proofs.Prelude.{PProgram, Scopes, scopes_of, Kind, stores, done, there, Value, Reference, Word, Place, irw_laws, sirw_laws, as_irw, as_sirw, Irw, Sirw, Code, as_indexed, place, frame, irw_or_sirw, cell_of, operator_at, AreNested, Texts, Slot, operand, descriptor, variable, Top, top_slot, known_is, LeadsToVariable, IsInReach, operator_there, names_variable, AbleActor, Actor, actor_of, text_in, level_in, TheLaws, VariableHome, Does}
use Rattle.b67_ops.specs.declared.Operator.TheVariants as ops
use Rattle.b67_ops.specs.declared.PlainKind.TheVariants as kinds
use Rattle.b67_table.specs.Arrays.{indexed_in}
use Rattle.b67_rows.proofs.Words.{cell_describes_nothing}
use Rattle.b67_scenes.proofs.NamedVariables.{NamesVariable}
use Rattle.b67_pictures.proofs.Storing.{two_words}
use Rattle.b67_pictures.proofs.StoringVariable.{variable_stored}
use Rattle.b67_pictures.proofs.Head.{Head}

-- a reference that is read alike everywhere is read in no other way
pub no_other_reference : (w : Word) (s : Sirw) → as_sirw w ≡ Some s → as_irw w ≡ None
no_other_reference w s e = irw_laws.other w (λ k. let is = sym (sirw_laws.kind w s e) ∙ k in cc)

-- ---- what a process finds under the top

module _ (tree : PProgram) (code : Code) (texts : Texts) (nested : AreNested (scopes_of tree)) (actor : Actor tree code texts) where
  open actor use {w, lay, part, outer, core, s}

  abbrev sc : Scopes
  sc = scopes_of tree

  -- the words of a value on the reference to a variable
  pub record FindsVariable (r : Reference) (kind : Kind) (v : Value) (below : List Slot) : Type 0 where
    pub first : Top sc s.stands.held (level_in tree w part) (frame core.registers) (length core.below) (operand v) (descriptor (variable r kind) ∷ below) core.words
    pub second : Top sc s.stands.held (level_in tree w part) (frame core.registers) (length core.below) (descriptor (variable r kind)) below first.words_below
    pub leads : LeadsToVariable sc w lay (IsInReach w (part ∷ outer)) kind r second.word
    pub named : NamesVariable tree code texts nested actor r kind second.word leads

  pub finds_variable : (r : Reference) (kind : Kind) (v : Value) (below : List Slot) → s.stands.slots ≡ operand v ∷ descriptor (variable r kind) ∷ below → FindsVariable r kind v below
  finds_variable r kind v below lies =
      let under : List Slot = descriptor (variable r kind) ∷ below in
      let first : Top sc s.stands.held (level_in tree w part) (frame core.registers) (length core.below) (operand v) under core.words =
      top_slot sc s.stands.held (level_in tree w part) (frame core.registers) (length core.below) s.stands.slots (operand v) under core.words s.stands.there.words_are lies in
      let second : Top sc s.stands.held (level_in tree w part) (frame core.registers) (length core.below) (descriptor (variable r kind)) below first.words_below =
      top_slot sc s.stands.held (level_in tree w part) (frame core.registers) (length core.below) under (descriptor (variable r kind)) below first.words_below first.are refl in
      let leads : LeadsToVariable sc w lay (IsInReach w (part ∷ outer)) kind r second.word =
      known_is sc w lay (IsInReach w (part ∷ outer)) part.instance s.stands.held s.stands.held_are (variable r kind) second.word second.slot_is in
      record { first = first; second = second; leads = leads; named = names_variable tree code texts nested actor r kind second.word leads }

-- ---- the action

module _ (tree : PProgram) (code : Code) (texts : Texts) (nested : AreNested (scopes_of tree)) (laws : TheLaws) (actor : AbleActor tree code texts) where
  open actor use {w, img, p, part, core, s}

  module _ (r : Reference) (v : Value) (head : Head tree code texts actor (stores (there r) v)) where
    open head use {asks, action as a, answered}

    at_store : operator_at code core.registers ≡ Ok (ops.Plain kinds.Stod, a.0)
    at_store = operator_there (scopes_of tree) s.stands.held code (text_in tree texts w part) (level_in tree w part) s.stands.pc s.stands.slots core (ops.Plain kinds.Stod) a.0 s.stands.there a.2.stands

    does : FindsVariable tree code texts nested (actor_of s) r a.2.kind v a.1 → Does tree code texts w img p
    does f =
        let h : VariableHome tree code texts (actor_of s) r a.2.kind f.leads.found = f.named.home in
        let at_frame : Place = place h.seen_there.found.number (length h.seen_there.found.lies.frame.lower) in
        let names : cell_of core.registers f.second.word ≡ Some (record { frame = at_frame; index = 2 + h.number }) =
        ap (λ (o : Option Irw). irw_or_sirw core.registers o (as_sirw f.second.word)) (no_other_reference f.second.word _ f.named.reads)
        ∙ ap (λ (o : Option Sirw). irw_or_sirw core.registers None o) f.named.reads in
        let plain_word : as_indexed f.second.word ≡ None = ap as_indexed f.leads.word_is ∙ ap indexed_in (cell_describes_nothing _) in
        variable_stored tree code texts laws actor (record {
          reference = r;
          kind = a.2.kind;
          found = f.leads.found;
          home = h;
          to = there r;
          value = v;
          fits = a.2.fits;
          asks = asks;
          stores_so = refl;
          next = a.0;
          below = a.1;
          answered = answered done a.0 a.1 (refl, refl);
          there = at_store;
          under = descriptor (variable r a.2.kind);
          top_lies = a.2.lies;
          unmarked = refl;
          x = f.first.word;
          y = f.second.word;
          words = f.second.words_below;
          top = two_words core.words f.first.words_below f.first.word f.second.word f.second.words_below f.first.is f.second.is;
          x_is = f.first.slot_is;
          names = names;
          plain_word = plain_word;
          left_are = f.second.are;
        })

    pub storing_there : Does tree code texts w img p
    storing_there = does (finds_variable tree code texts nested (actor_of s) r a.2.kind v a.1 a.2.lies)
