-- WRITE: a line of the output.
use Rattle.std.proofs.Common.{◌≡◌, refl, sym, ap, ◌∙◌, subst, ℕ, List, [], ◌∷◌, ◌++◌, length, Option, Some, Ok, Bool, true, false, arith}
use Rattle.b67_pictures.proofs.Prelude.{pos, replicate, if◌then◌else◌, ◌==◌, PProgram, Scopes, scopes_of, PhraseText, Ask, writes, choice_of, done, Value, number, whole_of, instance_at, Placed, Code, operator_at, in_routine, Yields, Texts, context_of, Core, with_core, at_operator, without_call, enter_class, action_not_plain, action_is, makes, unmade, wholes_of, IsCall, call, operator_there, AbleActor, actor_of, choice_is, text_in, level_in, TheLaws, Does}
use Rattle.b67_list.specs.Lines.{justified}
use Rattle.algol_tree.specs.Spelling.{value_of}
use Rattle.algol_meaning.specs.Lines.{line_of, number_first}
use Rattle.b67_deeds.specs.declared.Letter.TheVariants.{Line}
use Rattle.b67_ops.specs.declared.Operator.TheVariants as ops
use Rattle.b67_ops.specs.declared.PlainKind.TheVariants as kinds
use Rattle.b67_ops.specs.declared.intrinsic.Intrinsic.TheVariants.{Write}
use Rattle.b67_segment.specs.declared.code.Format.{Format}
use Rattle.b67_segment.specs.declared.code.Phrase.{Phrase}
use Rattle.b67_segment.specs.declared.code.Phrase.TheVariants as parts
use Rattle.b67_table.specs.Effect as effects
use Rattle.b67_table.specs.Lines.{before, format_line, line_by, line_for}
use Rattle.b67_table.specs.Outcome as outcomes
use Rattle.b67_templates.specs.Code.{IsCodePart, text, word, AreParts, numbers_in, FormatIs}
use Rattle.b67_rows.proofs.IntrinsicRows.{write_raw}
use Rattle.b67_pictures.proofs.InFrame.{does_in_frame}
use Rattle.b67_pictures.proofs.Head.{Head}

-- ---- the line

-- what a format with as many numbers as there are values makes of them
abbrev Shows : List PhraseText → List Phrase → Type 0
Shows ts list = (vs : List Value) → numbers_in list ≡ length vs → format_line list (wholes_of vs) ≡ Some (line_of ts vs)

shows_word : (b : Bool) (width : ℕ) (ts : List PhraseText) (more : List Phrase) → Shows ts more → (vs : List Value) →
    numbers_in ((if b then parts.Number width else parts.Blanks width) ∷ more) ≡ length vs →
    format_line ((if b then parts.Number width else parts.Blanks width) ∷ more) (wholes_of vs) ≡ Some (if b then number_first width vs (line_of ts) else replicate width 32 ++ line_of ts vs)
shows_word true width ts more shows [] e = absurd (omega (arith, e))
shows_word true width ts more shows (v ∷ vs) e = ap (before (justified width (whole_of v))) (shows vs (omega (arith, e)))
shows_word false width ts more shows vs e = ap (before (replicate width 32)) (shows vs e)

shows_part : (t : PhraseText) (part : Phrase) (ts : List PhraseText) (more : List Phrase) → IsCodePart t part → Shows ts more → Shows (t ∷ ts) (part ∷ more)
shows_part t part ts more (text bytes) shows vs e = ap (before bytes) (shows vs e)
shows_part t part ts more (word []) shows vs e = ap (before []) (shows vs e)
shows_part t part ts more (word (first ∷ digits)) shows vs e = shows_word (first == 73) (value_of digits) ts more shows vs e

shows_none : (vs : List Value) → 0 ≡ length vs → format_line [] (wholes_of vs) ≡ Some (line_of [] vs)
shows_none [] e = refl
shows_none (v ∷ vs) e = absurd (omega (arith, e))

shows_all : (ts : List PhraseText) (list : List Phrase) → AreParts ts list → Shows ts list
shows_all [] list are = subst (λ (l : List Phrase). Shows [] l) (sym are) shows_none
shows_all (t ∷ ts) list are =
    subst (λ (l : List Phrase). Shows (t ∷ ts) l) (sym are.2) (shows_part t are.0 ts are.1 are.3 (shows_all ts are.1 are.4))

-- the machine's line is that of the source
pub line_is : (sc : Scopes) (code : Code) (texts : Texts) (j : ℕ) (gives : Yields) (ps : List Placed) (level format : ℕ) (ts : List PhraseText) (vs : List Value) → FormatIs sc (in_routine gives (context_of code texts sc j)) ps level format ts (length vs) →
    line_for code (pos format ∷ wholes_of vs) ≡ Some (line_of ts vs)
line_is sc code texts j gives ps level format ts vs f =
    ap (λ (o : Option Format). line_by o (wholes_of vs)) f.is ∙ shows_all ts f.list f.parts vs f.numbers

-- ---- the action

module _ (tree : PProgram) (code : Code) (texts : Texts) (laws : TheLaws) (actor : AbleActor tree code texts) where
  open actor use {w, img, p, q, part, outer, core, s}

  module _ (ts : List PhraseText) (vs : List Value) (head : Head tree code texts actor (writes ts vs)) where
    open head use {asks, action as a, answered}

    abbrev sc : Scopes
    sc = scopes_of tree

    -- the arguments are the number of the format and the items
    abbrev given : List Value
    given = number (pos a.2.format) ∷ vs

    there : operator_at code core.registers ≡ Ok (ops.Plain kinds.Entr, a.0)
    there = operator_there sc s.stands.held code (text_in tree texts w part) (level_in tree w part) s.stands.pc s.stands.slots core (ops.Plain kinds.Entr) a.0 s.stands.there a.2.stands

    abbrev Called : Type 0
    Called = IsCall tree code texts (actor_of s) Write given a.1 (a.2.whole, a.2.fits) a.2.lies

    module _ (c : Called) where
      abbrev new : Core
      new = without_call core c.others c.calls.m.df a.0

      abbrev out : List (List ℕ)
      out = w.output ++ line_of ts vs ∷ []

      does : Does tree code texts w img p
      does =
          does_in_frame tree code texts laws actor (record {
            unmade = unmade part.rest (ap makes asks);
            answer = done;
            nameless = tt;
            new = new;
            below = refl;
            frame_is = record { is = refl };
            known = s.stands.held;
            known_are = s.stands.held_are;
            pc = a.0;
            slots = a.1;
            there = c.after_at a.0;
            few = c.few;
            comes = answered done a.0 a.1 (refl, refl);
          }) out Line
          (action_not_plain code (ops.Plain kinds.Entr) (at_operator s.has there)
          (enter_class code (at_operator s.has there) Write c.arguments c.reference c.marked c.others c.calls))
          (write_raw code (at_operator s.has there) Write c.arguments c.reference c.marked c.others c.calls (wholes_of given) c.wholes refl (line_of ts vs)
          (line_is sc code texts ((instance_at w part.instance).block) s.stands.frame.gives (text_in tree texts w part) (level_in tree w part) a.2.format ts vs a.2.is)
          ∙ ap (λ (o : List (List ℕ)). effects.gives (record (with_core img p new) { output = o ++ line_of ts vs ∷ [] })) s.by.output)
          (choice_is sc w p q part outer s.at s.todo ∙ ap (λ (k : Ask). choice_of sc w p q part outer k) asks)
          (λ t. action_is code (ops.Plain kinds.Entr) (at_operator s.has there) (outcomes.gives (record (with_core img p new) { output = out })) t ∙ c.action)

    pub writing : Does tree code texts w img p
    writing = does (call tree code texts (actor_of s) Write given a.1 (a.2.whole, a.2.fits) a.2.lies)
