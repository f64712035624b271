-- A read of a variable, or of the variable that a parameter by name stands for.
use Rattle.std.proofs.Common.{◌≡◌, refl, ap, ◌∙◌, ℕ, ◌+◌, List, ◌∷◌, length, Option, Some, Ok, arith}
use Rattle.b67_pictures.proofs.Prelude.{Read, PProgram, Scopes, scopes_of, Named, Ask, reads, choice_of, read_of, goes, value, Value, Cell, instance_at, cell_at, value_in, BlockIsSeen, IsSeenAround, IsInner, Word, Place, Code, place, couple_cell, operator_at, IsVariable, HasKind, AreNested, Texts, operand, Core, IsCore, with_core, ValueIs, CoreAt, reads_seen, at_operator, Reaches, reached_through, with_top, value_reached_class, action_not_plain, action_is, makes, unmade, value_tag, no_sirw, no_pcw, named_from, Found, operator_there, NameHome, ActualNamed, NameStands, for_variable, for_actual, name_stands, AbleActor, actor_of, choice_is, text_in, level_in, names_in, TheLaws, VariableHome, Does}
use Rattle.b67_ops.specs.declared.Operator.TheVariants as ops
use Rattle.b67_templates.specs.Cells.{IsFormalName}
use Rattle.b67_table.specs.declared.Cell as cells
use Rattle.b67_table.specs.References.{cell_in}
use Rattle.b67_table.specs.Effect as effects
use Rattle.b67_table.specs.Outcome as outcomes
use Rattle.b67_scenes.proofs.Homes.{named_at, Home, home}
use Rattle.b67_pictures.proofs.InFrame.{does_in_frame}
use Rattle.b67_rows.proofs.Reaching.{reached_there}
use Rattle.b67_rows.proofs.ReachingRows.{value_read_raw, value_read_letter}
use Rattle.b67_pictures.proofs.Head.{Head}

module _ (tree : PProgram) (code : Code) (texts : Texts) (laws : TheLaws) (actor : AbleActor tree code texts) where
  open actor use {w, lay, img, p, q, part, outer, core, s}

  abbrev sc : Scopes
  sc = scopes_of tree

  module _ (n : Named) (head : Head tree code texts actor (reads n)) where
    open head use {asks, action as a, answered}

    -- the operator
    there : operator_at code core.registers ≡ Ok (ops.Valc a.2.0, a.1)
    there = operator_there sc s.stands.held code (text_in tree texts w part) (level_in tree w part) s.stands.pc s.stands.slots core (ops.Valc a.2.0) a.1 s.stands.there a.2.2

    seen : BlockIsSeen sc ((instance_at w part.instance).block) n
    seen =
        reads_seen (BlockIsSeen sc ((instance_at w part.instance).block)) n (IsInner sc ((instance_at w part.instance).block)) (IsSeenAround sc ((instance_at w part.instance).block))
        (λ (is : IsSeenAround sc ((instance_at w part.instance).block) n). is.0) part.rest asks s.stands.frame.text

    abbrev meant : Cell
    meant = cell_at w (named_from sc w lay part.instance n)

    -- the word of a value is reached from the cell that the couple names
    module _ (from to : cells.Cell) (shown : couple_cell core.registers a.2.0.level a.2.0.index ≡ Some from) (x : Word) (reaches : Reaches img.stacks from x to)
        (v : Value) (x_is : ValueIs v x) (fits : HasKind a.0 v) (reads_so : read_of sc w p q part outer meant ≡ goes sc w p q part outer Read w (value v)) where
      tag : x.tag ≡ 0
      tag = value_tag v x x_is

      abbrev new : Core
      new = with_top core x a.1

      is_new : IsCore new
      is_new = record { bottom = s.has.is.bottom; top = omega (arith, s.has.is.top) }

      core_at : CoreAt sc s.stands.held code (text_in tree texts w part) (level_in tree w part) a.1 (operand v ∷ s.stands.slots) new
      core_at =
          record {
            segment = s.stands.there.segment;
            there = s.stands.there.there;
            spells = s.stands.there.spells;
            level_is = s.stands.there.level_is;
            place_is = refl;
            is = is_new;
            mark_is = s.stands.there.mark_is;
            words_are = (x_is, s.stands.there.words_are);
          }

      read_does : Does tree code texts w img p
      read_does =
          does_in_frame tree code texts laws actor (record {
            unmade = unmade part.rest (ap makes asks);
            answer = value v;
            nameless = tt;
            new = new;
            below = refl;
            frame_is = record { is = refl };
            known = s.stands.held;
            known_are = s.stands.held_are;
            pc = a.1;
            slots = operand v ∷ s.stands.slots;
            there = core_at;
            few = omega (arith, a.3);
            comes = answered (value v) a.1 (operand v ∷ s.stands.slots) (refl, refl, fits);
          }) w.output Read
          (action_not_plain code (ops.Valc a.2.0) (at_operator s.has there) (value_reached_class code a.2.0 (at_operator s.has there) from to shown x reaches))
          (value_read_raw code a.2.0 (at_operator s.has there) from to shown x reaches tag (no_pcw x tag)
          ∙ ap (λ (o : List (List ℕ)). effects.gives (record (with_core img p new) { output = o })) s.by.output)
          (choice_is sc w p q part outer s.at s.todo
          ∙ ap (λ (k : Ask). choice_of sc w p q part outer k) asks
          ∙ reads_so)
          (λ t. action_is code (ops.Valc a.2.0) (at_operator s.has there) (outcomes.gives (record (with_core img p new) { output = w.output })) t
          ∙ (value_read_letter code a.2.0 (at_operator s.has there) from to shown x reaches (no_pcw x tag)))

    -- ---- a variable

    abbrev IsHome : Type 0
    IsHome = Home tree code texts (actor_of s) n a.0 a.2.0

    variable_read : IsHome → Does tree code texts w img p
    variable_read f =
        let there : Found tree code texts w lay img (named_at tree code texts (actor_of s) n).instance = f.at.seen_there.found in
        let from : cells.Cell = record { frame = place there.number (length there.lies.frame.lower); index = a.2.0.index } in
        read_does from from (ap (λ (o : Option Place). cell_in o a.2.0.index) f.shown) f.at.word
        (reached_there img.stacks from f.at.word f.lies (no_sirw f.at.word (value_tag f.at.value f.at.word f.at.word_is)))
        f.at.value f.at.word_is f.at.fits (ap (λ (c : Cell). read_of sc w p q part outer c) f.at.cell_is)

    pub reading : IsVariable sc (names_in tree w part) n a.0 a.2.0 → Does tree code texts w img p
    reading v = variable_read (home tree code texts (actor_of s) n a.0 a.2.0 seen v)

    -- ---- a parameter by name

    module _ (nested : AreNested (scopes_of tree)) where
      abbrev IsNameHome : Type 0
      IsNameHome = NameHome tree code texts nested (actor_of s) n a.0 a.2.0

      abbrev IsActualNamed : Type 0
      IsActualNamed = ActualNamed tree code texts nested (actor_of s) n a.0 a.2.0

      -- its cell has a reference to a variable
      name_read : IsNameHome → Does tree code texts w img p
      name_read f =
          let v : VariableHome tree code texts (actor_of s) f.r a.0 f.denotes.found = f.named.home in
          let there : Found tree code texts w lay img f.r.instance = v.seen_there.found in
          let at : ℕ = length there.lies.frame.lower in
          let from : cells.Cell = record { frame = f.home.at; index = a.2.0.index } in
          let to : cells.Cell = record { frame = place there.number at; index = 2 + v.number } in
          read_does from to (ap (λ (o : Option Place). cell_in o a.2.0.index) f.home.shown) v.word
          (reached_through img.stacks from f.home.word (record { stack = there.number; displacement = at; index = 2 + v.number }) v.word f.home.lies f.named.reads v.word_lies
          (no_sirw v.word (value_tag v.value v.word v.word_is)))
          v.value v.word_is v.fits
          (ap (λ (c : Cell). read_of sc w p q part outer c) f.cell_is ∙ ap (λ (c : Cell). goes sc w p q part outer Read w (value (value_in c))) v.cell_is)

      -- that variable is read, or the actual is evaluated that the cell names
      pub reading_name : (IsActualNamed → Does tree code texts w img p) → IsFormalName sc (names_in tree w part) n a.0 a.2.0 → Does tree code texts w img p
      reading_name evaluated v = by_name (name_stands tree code texts nested (actor_of s) n a.0 a.2.0 seen v)
        where
          by_name : NameStands tree code texts nested (actor_of s) n a.0 a.2.0 → Does tree code texts w img p
          by_name (for_variable f) = name_read f
          by_name (for_actual f) = evaluated f
