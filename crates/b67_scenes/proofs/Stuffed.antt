-- The references that STFF made are known: each display register names the frame of a static parent, that of its level the part's own.
use Rattle.std.proofs.Common.{◌≡◌, refl, sym, ap, ◌∙◌, subst, ℕ, ◌+◌, ◌-◌, ◌≤◌, List, [], ◌∷◌, ◌++◌, Option, Some, arith}
use Rattle.b67_scenes.proofs.Prelude.{PProgram, Scopes, scopes_of, use_of, Part, World, ancestor, IsStanding, newest_own, Word, Place, place_at, Couple, OUTER_LEVEL, Code, cell_word, Context, Texts, Core, Known, Layout, AreKnown, IsInReach, IsChained, Frame, Around}
use Rattle.std.specs.Prelude.{IsSome}
use Rattle.b67_standing.specs.Stepping.{HeldWord, Stuffable, of_array, of_variable, of_event, of_actual}
use Rattle.b67_cores.specs.Stretches.{Sees, IsStuffed, AreStuffed}
use Rattle.b67_frames.specs.Arrays.{an_array_named, an_event_named, a_variable_named, HeldIs}
use Rattle.b67_frames.proofs.Lying.{part_stands}
use Rattle.b67_scenes.proofs.Ancestors.{AreLaid}
use Rattle.b67_scenes.proofs.Paths.{on_further, CanClimb, part_in_reach}
use Rattle.b67_scenes.proofs.Staying.{names_in, context_in}

-- what is known of each is so of both
pub known_both : (sc : Scopes) (w : World) (lay : Layout) (Stand : ℕ → Type 0) (i : ℕ) (added known : List Known) → AreKnown sc w lay Stand i added → AreKnown sc w lay Stand i known →
    AreKnown sc w lay Stand i (added ++ known)
known_both sc w lay Stand i [] known more are = are
known_both sc w lay Stand i (x ∷ added) known more are = (more.0, known_both sc w lay Stand i added known more.1 are)

-- The frame of a part, and the core whose display shows it.
pub record FrameShown (tree : PProgram) (code : Code) (texts : Texts) (w : World) (lay : Layout) (p : ℕ) : Type 0 where
  pub part : Part
  pub outer : List Part
  pub words : List Word
  pub frame : Frame tree code texts w lay p part outer words
  pub around : Around tree code texts w lay p outer frame.lower frame.mark frame.control frame.gives
  pub core : Core
  pub chained : IsChained (scopes_of tree) w lay part.instance (names_in tree w part) core.registers.display

module _ (tree : PProgram) (code : Code) (texts : Texts) (w : World) (climb : CanClimb (scopes_of tree) w) (lay : Layout) (laid : AreLaid w lay) (p : ℕ) (frame_there : FrameShown tree code texts w lay p) where
  open frame_there use {part, outer, words, frame as f, around as a, core, chained}

  abbrev sc : Scopes
  sc = scopes_of tree

  abbrev level : ℕ
  level = names_in tree w part

  stands : IsStanding w part.instance
  stands = part_stands tree code texts w lay p climb.facts part outer words f a

  -- its static parents are in reach, and the display names a frame at the level of each
  in_reach : (up : ℕ) → up + OUTER_LEVEL ≤ level → IsInReach w (part ∷ outer) (ancestor w up part.instance)
  in_reach up near =
      on_further w (newest_own (part ∷ outer)) part.instance (ancestor w up part.instance) (part_in_reach tree code texts w lay p part outer words f) (climb.up part.instance up stands near)

  pub sees : Sees (names_in tree w part) core
  sees l low high =
      let up : ℕ = level - l in
      let near : up + OUTER_LEVEL ≤ level = omega (arith, low, high) in
      let there : IsStanding w (ancestor w up part.instance) = climb.facts.on_path part.instance (ancestor w up part.instance) stands (climb.up part.instance up stands near) in
      let here : l ≡ level - up = omega (arith, high) in
      subst (λ (o : Option Place). IsSome o)
      (sym (ap (place_at core.registers.display) here ∙ chained up near ∙ (laid (ancestor w up part.instance) there).1)) refl

  abbrev context : Context
  context = context_in tree code texts w part f.gives

  named_stuffed : (held : HeldWord) (couple : Couple) (word : Word) (frame : Place) → Stuffable sc context held couple → place_at core.registers.display couple.level ≡ Some frame →
      word ≡ cell_word (record { frame = frame; index = couple.index }) → HeldIs sc w lay (IsInReach w (part ∷ outer)) part.instance held word
  named_stuffed held couple word frame (of_array n d c is) shown word_is =
      let up : ℕ = (use_of sc n).up in
      let near : up + OUTER_LEVEL ≤ level = omega (arith, is.made.level_is, is.made.outer) in
      let up_level : level - up ≡ c.level = omega (arith, is.made.level_is) in
      record {
        own = in_reach up near;
        level = level;
        couple = c;
        names = an_array_named d is;
        frame = frame;
        laid = sym (chained up near) ∙ ap (place_at core.registers.display) up_level ∙ shown;
        word_is = word_is;
      }
  named_stuffed held couple word frame (of_event n c is) shown word_is =
      let up : ℕ = (use_of sc n).up in
      let near : up + OUTER_LEVEL ≤ level = omega (arith, is.made.level_is, is.made.outer) in
      let up_level : level - up ≡ c.level = omega (arith, is.made.level_is) in
      record {
        own = in_reach up near;
        level = level;
        couple = c;
        names = an_event_named is;
        frame = frame;
        laid = sym (chained up near) ∙ ap (place_at core.registers.display) up_level ∙ shown;
        word_is = word_is;
      }
  named_stuffed held couple word frame (of_variable n kind c is outer_level) shown word_is =
      let up : ℕ = (use_of sc n).up in
      let near : up + OUTER_LEVEL ≤ level = omega (arith, is.level_is, outer_level) in
      let up_level : level - up ≡ c.level = omega (arith, is.level_is) in
      record {
        own = in_reach up near;
        level = level;
        couple = c;
        names = a_variable_named kind is;
        frame = frame;
        laid = sym (chained up near) ∙ ap (place_at core.registers.display) up_level ∙ shown;
        word_is = word_is;
      }
  named_stuffed held couple word frame (of_actual e kind c is) shown word_is =
      let near : 0 + OUTER_LEVEL ≤ level = omega (arith, is.level_is, is.outer) in
      let own_level : level - 0 ≡ c.level = omega (arith, is.level_is) in
      record {
        own = part_in_reach tree code texts w lay p part outer words f;
        level = level;
        couple = c;
        stands = is;
        frame = frame;
        laid = sym (chained 0 near) ∙ ap (place_at core.registers.display) own_level ∙ shown;
        word_is = word_is;
      }

  one_stuffed : (x : Known) → IsStuffed sc context core x → HeldIs sc w lay (IsInReach w (part ∷ outer)) part.instance x.held x.word
  one_stuffed x s =
      subst (λ (h : HeldWord). HeldIs sc w lay (IsInReach w (part ∷ outer)) part.instance h x.word) (sym s.held_is) (named_stuffed s.held s.couple x.word s.frame s.stuffable s.shown s.word_is)

  -- all of them are known
  pub stuffed_known : (known : List Known) → AreStuffed (scopes_of tree) (context_in tree code texts w part f.gives) core known → AreKnown (scopes_of tree) w lay (IsInReach w (part ∷ outer)) part.instance known
  stuffed_known [] are = tt
  stuffed_known (x ∷ known) are = (one_stuffed x are.0, stuffed_known known are.1)
