-- The processes of a picture: each has its own stack, and the marks below its floor lead to frames below floors.
use Rattle.std.proofs.Common.{◌≡◌, refl, sym, ap, ◌∙◌, ℕ, ◌+◌, ◌<◌, ◌≤◌, List, [], ◌∷◌, length, Option, Some, None, true, arith}
use Rattle.b67_list.proofs.Lists.{get_front}
use Rattle.b67_list.proofs.Truths.{true_false}
use Rattle.b67_scenes.proofs.Prelude.{slice_get, reverse, numbered, PProgram, scopes_of, Process, Part, lives, World, IsOk, IsWholeInstance, Word, Place, place_at, Registers, Code, words_of, word_at, numbered_within, place, Image, is_live, display_at, at_or, frame, floor, Lives, AreNested, Texts, steps_stay_above, Above, some_same, numbered_beyond, words_are, FrameAt, system_frame, IsNearStack, facts_of, AllLead, lead_at, Layout, FrameStands, Around, Frames, Living, Pictured, living, dead, PicturesBy}
use Rattle.b67_table.specs.Privacy.{RegistersStay}
use Rattle.b67_cores.specs.Cores.{stack_of}
use Rattle.b67_cores.proofs.Performing.{steps_keep}
use Rattle.b67_footprints.specs.Laws.{HaveOwnStacks}
use Rattle.b67_rows.proofs.Numbers.{get_within}
use Rattle.b67_scenes.proofs.Depended.{Has, own_has, path_has, up_path, frames_near}
use Rattle.b67_scenes.proofs.Worlds.{placed_of}
use Rattle.b67_frames.proofs.TouchingWords.{LinksTo, below_leads}

module _ (tree : PProgram) (code : Code) (texts : Texts) (w : World) (lay : Layout) (img : Image) (by : PicturesBy tree code texts w lay img) where
  -- ---- a process that lives

  pub record LivesThere (q : ℕ) (r : Registers) : Type 0 where
    pub process : Process
    pub is : numbered w.processes q ≡ Some process
    pub alive : lives process.state ≡ true
    pub living_is : Living tree code texts w lay img q process
    pub has : r ≡ living_is.core.registers

  pub lives_there : (q : ℕ) (r : Registers) → Lives img q r → LivesThere q r
  lives_there q r there = by_number (numbered w.processes q) refl
    where
      by_picture : (o : Process) → numbered w.processes q ≡ Some o → Pictured tree code texts w lay img q o → LivesThere q r
      by_picture o e (living able_is able_q l) = record { process = o; is = e; alive = able_is; living_is = l; has = some_same (sym there.is ∙ l.has.registers) }
      by_picture o e (dead ended_is ended_q) = true_false there.live (ap is_live ended_q)

      by_number : (o : Option Process) → numbered w.processes q ≡ o → LivesThere q r
      by_number (Some o) e = by_picture o e (by.each q o e)
      by_number None e = true_false there.live (ap is_live (numbered_beyond w.processes img.states q by.states e))

  pub own_stacks : HaveOwnStacks img
  own_stacks q r alive =
      let l : LivesThere q r = lives_there q r alive in
      (ap (λ (o : Registers). o.stack) l.has ∙ l.living_is.has.own, omega (arith, numbered_within w.processes q l.process l.is, by.started))

  -- ---- below its floor, as near to process p, whose stack it is, or where somebody depends on it

  module _ (nested : AreNested (scopes_of tree)) (ok : IsOk (scopes_of tree) IsWholeInstance w) (p q : ℕ) (near : IsNearStack p img q) (o : Process) (l : Living tree code texts w lay img q o) where
    there : Lives img q l.core.registers
    there = record { live = l.has.live; is = l.has.registers }

    -- its words there are those that it has where it settles
    lower_word : (n : ℕ) (x : Word) → n < floor l.core.registers → slice_get (stack_of l.core) n ≡ Some x → slice_get l.settled.below n ≡ Some x
    lower_word n x low e =
        let found : (y : Word) × (slice_get l.core.below n ≡ Some y) = get_within l.core.below n (omega (arith, low, l.has.is.bottom)) in
        let same : found.0 ≡ x = some_same (sym (get_front l.core.below (reverse l.core.words) n found.0 found.1) ∙ e) in
        let above : Above code l.bound l.count l.core l.settled = steps_stay_above code l.bound l.count l.core l.settled l.has.is l.steps in
        ap (λ (ws : List Word). slice_get ws n) above.below
        ∙ get_front l.core.below above.cells n x (found.1 ∙ ap (λ (y : Word). Some y) same)

    module _ (part : Part) (outer : List Part) (s : FrameStands tree code texts w lay q part outer l.settled)
        (a : Around tree code texts w lay q outer s.frame.lower s.frame.mark s.frame.control s.frame.gives) where
      -- the innermost frame is where it was
      settled_frame : frame l.settled.registers ≡ length s.frame.lower
      settled_frame = ap at_or (ap (λ (n : ℕ). display_at l.settled.registers n) s.there.level_is ∙ s.top)

      own_frame : frame l.core.registers ≡ length s.frame.lower
      own_frame =
          let kept : RegistersStay l.core.registers l.settled.registers = steps_keep l.steps in
          ap (λ (d : List (Option Place)). at_or (place_at d l.core.registers.ll)) (sym kept.2)
          ∙ ap (λ (n : ℕ). at_or (place_at l.settled.registers.display n)) (sym kept.1)
          ∙ settled_frame

      pub ends_low : length s.frame.lower + 2 ≤ floor l.core.registers
      ends_low = omega (arith, own_frame)

      lower_lead : AllLead (FrameAt p img) (system_frame p img) l.settled.below
      lower_lead =
          below_leads tree code texts nested w lay q (facts_of (scopes_of tree) w ok) (placed_of tree code texts w lay img by ok) (FrameAt p img) (system_frame p img)
          (Has tree code texts w lay img by ok p q near) (own_has tree code texts w lay img by ok p q near) (path_has tree code texts w lay img by ok p q near)
          (up_path tree code texts w lay img by ok p q near) (frames_near tree code texts w lay img by ok p q near) part outer l.settled s a (omega (arith, ends_low, l.has.is.bottom, l.small))

    -- the marks there lead to near frames
    pub lower_links : (n : ℕ) (x : Word) → n < floor l.core.registers → word_at img.stacks (place q n) ≡ Some x → LinksTo (FrameAt p img) x
    lower_links n x low e = by_parts o.todo l.frames
      where
        words_there : words_of img.stacks q ≡ stack_of l.core
        words_there = ap (words_of img.stacks) (sym l.has.own) ∙ words_are img q l.core l.has

        by_parts : (parts : List Part) → Frames tree code texts w lay q parts l.settled → LinksTo (FrameAt p img) x
        by_parts [] f = absurd f
        by_parts (part ∷ outer) f =
            lead_at (FrameAt p img) (system_frame p img) l.settled.below n x (lower_lead part outer f.0 f.1)
            (lower_word n x low (sym (ap (λ (ws : List Word). slice_get ws n) words_there) ∙ e))
