-- A store into a variable that the part names.
use Rattle.std.proofs.Common.{◌≡◌, refl, ap, ◌∙◌, ℕ, ◌+◌, ◌<◌, ◌^◌, List, ◌∷◌, length, Option, Some, Ok}
use Rattle.b67_pictures.proofs.Prelude.{block_numbered, level_of, PProgram, Scopes, scopes_of, use_of, Named, stores, is_evaluation, done, own, Value, instance_at, ancestor, BlockIsSeen, IsSeenAround, IsInner, segment_of, Word, Place, as_irw, as_sirw, Irw, Couple, Placed, Code, as_indexed, place, frame, irw_or_sirw, cell_of, operator_at, Texts, operand, reference, ValueIs, SlotsAre, stores_seen, Top, top_slot, reference_read, FrameStands, run_level, operator_there, AbleActor, actor_of, TheLaws, Does}
use Rattle.b67_table.specs.References.{cell_in}
use Rattle.b67_ops.specs.declared.Operator.TheVariants as ops
use Rattle.b67_ops.specs.declared.PlainKind.TheVariants as kinds
use Rattle.b67_table.specs.PrivateRows as rows
use Rattle.b67_rows.proofs.Words.{reference_unindexed}
use Rattle.b67_scenes.proofs.Homes.{Home, home}
use Rattle.b67_pictures.proofs.StoringVariable.{variable_stored}
use Rattle.b67_pictures.proofs.Head.{Head}

-- the two topmost words, one after another
pub two_words : (words left : List Word) (x y : Word) (rest : List Word) → words ≡ x ∷ left → left ≡ y ∷ rest → words ≡ x ∷ y ∷ rest
two_words words left x y rest e f = e ∙ ap (λ (ws : List Word). x ∷ ws) f

module _ (tree : PProgram) (code : Code) (texts : Texts) (laws : TheLaws) (actor : AbleActor tree code texts) where
  open actor use {w, lay, img, p, part, outer, core, s}

  module _ (n : Named) (v : Value) (head : Head tree code texts actor (stores (own n) v)) where
    open head use {asks, action as a, answered}

    abbrev sc : Scopes
    sc = scopes_of tree

    abbrev b : ℕ
    b = (instance_at w part.instance).block

    abbrev level : ℕ
    level = run_level (is_evaluation part.purpose) (level_of (block_numbered sc.blocks b))

    abbrev text : List Placed
    text = texts.placed (segment_of sc.blocks b)

    abbrev couple : Couple
    couple = a.2.couple

    abbrev st : FrameStands tree code texts w lay p part outer core
    st = s.stands

    abbrev i : ℕ
    i = ancestor w ((use_of sc n).up) part.instance

    there : operator_at code core.registers ≡ Ok (ops.Plain kinds.Stod, a.0)
    there = operator_there sc st.held code text level st.pc st.slots core (ops.Plain kinds.Stod) a.0 st.there a.2.stands

    abbrev IsHome : Type 0
    IsHome = Home tree code texts (actor_of s) n a.2.kind couple

    found : IsHome
    found = home tree code texts (actor_of s) n a.2.kind couple (stores_seen (BlockIsSeen sc b) n (IsInner sc b) (IsSeenAround sc b) (λ (seen : IsSeenAround sc b n). seen.0) part.rest v asks st.frame.text) a.2.variable

    module _ (f : IsHome) (low : couple.level < 32) (little : couple.index < 2 ^ 14) (x y : Word) (words : List Word) (top : core.words ≡ x ∷ y ∷ words) (x_is : ValueIs v x) (y_is : y ≡ rows.reference couple)
        (left_are : SlotsAre sc st.held level (frame core.registers) (length core.below) a.1 words) where
      reads : as_irw y ≡ Some (record { level = couple.level; index = couple.index })
      reads = ap as_irw y_is ∙ reference_read couple low little

      -- so the reference names its cell
      named : cell_of core.registers y ≡ Some (record { frame = place f.at.seen_there.found.number (length f.at.seen_there.found.lies.frame.lower); index = 2 + f.at.number })
      named =
          ap (λ (o : Option Irw). irw_or_sirw core.registers o (as_sirw y)) reads
          ∙ ap (λ (o : Option Place). cell_in o couple.index) f.shown
          ∙ ap (λ (k : ℕ). Some (record { frame = place f.at.seen_there.found.number (length f.at.seen_there.found.lies.frame.lower); index = k })) f.index

      does : Does tree code texts w img p
      does =
          variable_stored tree code texts laws actor (record {
            reference = record { instance = i; name = n.name };
            kind = a.2.kind;
            found = f.found;
            home = f.at;
            to = own n;
            value = v;
            fits = a.2.fits;
            asks = asks;
            stores_so = refl;
            next = a.0;
            below = a.1;
            answered = answered done a.0 a.1 (refl, refl);
            there = there;
            under = reference couple;
            top_lies = a.2.lies;
            unmarked = refl;
            x = x;
            y = y;
            words = words;
            top = top;
            x_is = x_is;
            names = named;
            plain_word = ap as_indexed y_is ∙ reference_unindexed couple low little;
            left_are = left_are;
          })

    pub storing : a.2.couple.level < 32 → a.2.couple.index < 2 ^ 14 → Does tree code texts w img p
    storing low little =
        let first : Top sc st.held level (frame core.registers) (length core.below) (operand v) (reference couple ∷ a.1) core.words =
        top_slot sc st.held level (frame core.registers) (length core.below) st.slots (operand v) (reference couple ∷ a.1) core.words st.there.words_are a.2.lies in
        let second : Top sc st.held level (frame core.registers) (length core.below) (reference couple) a.1 first.words_below =
        top_slot sc st.held level (frame core.registers) (length core.below) (reference couple ∷ a.1) (reference couple) a.1 first.words_below first.are refl in
        let top : core.words ≡ first.word ∷ second.word ∷ second.words_below =
        two_words core.words first.words_below first.word second.word second.words_below first.is second.is in
        does found low little first.word second.word second.words_below top first.slot_is second.slot_is second.are
