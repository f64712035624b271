-- A process that stands at its action.
use Rattle.std.proofs.Common.{true, ◌≡◌, refl, sym, ap, ◌∙◌, subst, ℕ, ◌+◌, ◌≤◌, List, [], ◌∷◌, length, Some, arith}
use Rattle.b67_scenes.proofs.Prelude.{numbered, PProgram, scopes_of, Process, Part, World, lives, IsOk, IsWholeInstance, place_at, Registers, Code, stack_limit, place, Image, frame, display_at, at_or, Texts, Core, size, HasCore, some_same, weight, Layout, IsNarrow, FrameStands, Around, Frames, CriticalIs, TaskIs, innermost_most, Living, PicturesBy, StateIs}
use Rattle.b67_scenes.proofs.Staying.{most_in}

module _ (tree : PProgram) (code : Code) (texts : Texts) (w : World) (lay : Layout) (img : Image) where
  -- process p, whose innermost part stands at its head: there its core is
  pub record Scene (p : ℕ) (q : Process) (part : Part) (outer : List Part) (bound : ℕ) (core : Core) : Type 0 where
    pub by : PicturesBy tree code texts w lay img
    pub at : numbered w.processes p ≡ Some q
    pub todo : q.todo ≡ part ∷ outer
    pub has : HasCore img p core
    pub critical : CriticalIs lay q.critical core.registers.critical
    pub task : TaskIs (scopes_of tree) w lay q.task core.registers.task
    pub sees : place_at core.registers.display 0 ≡ Some (place 0 0)
    pub small : size core ≤ stack_limit
    -- the world is as worlds are
    pub ok : IsOk (scopes_of tree) IsWholeInstance w
    pub narrow : IsNarrow (scopes_of tree) w lay part
    pub stands : FrameStands tree code texts w lay p part outer core
    pub around : Around tree code texts w lay p outer stands.frame.lower stands.frame.mark stands.frame.control stands.frame.gives
    pub room : length core.below + most_in tree w part ≤ bound
    pub light : bound + 3 ≤ weight tree w p

  -- the innermost part of a process that stands, and its scene; where an evaluation is in an instance that has not made all, it keeps to what is around
  pub scene_of : (p : ℕ) (q : Process) → ((part : Part) (outer : List Part) → q.todo ≡ part ∷ outer → IsNarrow (scopes_of tree) w lay part) → IsOk (scopes_of tree) IsWholeInstance w → PicturesBy tree code texts w lay img → numbered w.processes p ≡ Some q → (l : Living tree code texts w lay img p q) → HasCore img p l.settled →
      (part : Part) × (outer : List Part) × Scene p q part outer l.bound l.settled
  scene_of p q narrow ok by at l has = by_parts q.todo refl l.frames l.room
    where
      same : l.settled.registers ≡ l.core.registers
      same = some_same (sym has.registers ∙ l.has.registers)

      by_parts : (parts : List Part) → q.todo ≡ parts → Frames tree code texts w lay p parts l.settled → length l.settled.below + innermost_most tree w parts ≤ l.bound → (part : Part) × (outer : List Part) × Scene p q part outer l.bound l.settled
      by_parts [] todo f room = absurd f
      by_parts (part ∷ outer) todo f room = (
        part,
        outer,
        record {
          by = by;
          at = at;
          todo = todo;
          has = has;
          critical = subst (λ (r : Registers). CriticalIs lay q.critical r.critical) (sym same) l.critical;
          task = subst (λ (r : Registers). TaskIs (scopes_of tree) w lay q.task r.task) (sym same) l.task;
          sees = ap (λ (r : Registers). place_at r.display 0) same ∙ l.sees;
          small = omega (arith, has.is.top, l.has.is.top, ap (λ (r : Registers). r.s) same, l.small);
          ok = ok;
          narrow = narrow part outer todo;
          stands = f.0;
          around = f.1;
          room = room;
          light = l.light;
        },
      )

-- a process that stands at its action, in a world and an image of it: all that a lemma on an action speaks of
pub record Actor (tree : PProgram) (code : Code) (texts : Texts) : Type 0 where
  pub w : World
  pub lay : Layout
  pub img : Image
  pub p : ℕ
  pub q : Process
  pub part : Part
  pub outer : List Part
  pub bound : ℕ
  pub core : Core
  pub s : Scene tree code texts w lay img p q part outer bound core

-- of a scene
abbrev pub actor_of : {tree : PProgram} {code : Code} {texts : Texts} {w : World} {lay : Layout} {img : Image} {p : ℕ} {q : Process} {part : Part} {outer : List Part} {bound : ℕ} {core : Core} →
    Scene tree code texts w lay img p q part outer bound core → Actor tree code texts
actor_of {w = w} {lay = lay} {img = img} {p = p} {q = q} {part = part} {outer = outer} {bound = bound} {core = core} s =
    record { w = w; lay = lay; img = img; p = p; q = q; part = part; outer = outer; bound = bound; core = core; s = s }

-- .. that may act
pub record AbleActor (tree : PProgram) (code : Code) (texts : Texts) : Type 0 where
  pub w : World
  pub lay : Layout
  pub img : Image
  pub p : ℕ
  pub q : Process
  pub part : Part
  pub outer : List Part
  pub bound : ℕ
  pub core : Core
  pub s : Scene tree code texts w lay img p q part outer bound core
  pub able_is : lives q.state ≡ true
  pub able_p : StateIs (scopes_of tree) w lay q.state (numbered img.states p)

abbrev pub able_actor : {tree : PProgram} {code : Code} {texts : Texts} {w : World} {lay : Layout} {img : Image} {p : ℕ} {q : Process} {part : Part} {outer : List Part} {bound : ℕ} {core : Core} →
    Scene tree code texts w lay img p q part outer bound core → lives q.state ≡ true → StateIs (scopes_of tree) w lay q.state (numbered img.states p) → AbleActor tree code texts
able_actor {w = w} {lay = lay} {img = img} {p = p} {q = q} {part = part} {outer = outer} {bound = bound} {core = core} s able_is able_p =
    record { w = w; lay = lay; img = img; p = p; q = q; part = part; outer = outer; bound = bound; core = core; s = s; able_is = able_is; able_p = able_p }

-- .. in its outermost part
pub record OutmostActor (tree : PProgram) (code : Code) (texts : Texts) : Type 0 where
  pub w : World
  pub lay : Layout
  pub img : Image
  pub p : ℕ
  pub q : Process
  pub part : Part
  pub bound : ℕ
  pub core : Core
  pub s : Scene tree code texts w lay img p q part [] bound core

abbrev pub outmost_actor : {tree : PProgram} {code : Code} {texts : Texts} {w : World} {lay : Layout} {img : Image} {p : ℕ} {q : Process} {part : Part} {bound : ℕ} {core : Core} →
    Scene tree code texts w lay img p q part [] bound core → OutmostActor tree code texts
outmost_actor {w = w} {lay = lay} {img = img} {p = p} {q = q} {part = part} {bound = bound} {core = core} s =
    record { w = w; lay = lay; img = img; p = p; q = q; part = part; bound = bound; core = core; s = s }

-- .. in a part with parts around it, which next is the innermost of
pub record InnerActor (tree : PProgram) (code : Code) (texts : Texts) : Type 0 where
  pub w : World
  pub lay : Layout
  pub img : Image
  pub p : ℕ
  pub q : Process
  pub part : Part
  pub next : Part
  pub parts : List Part
  pub bound : ℕ
  pub core : Core
  pub s : Scene tree code texts w lay img p q part (next ∷ parts) bound core

abbrev pub inner_actor : {tree : PProgram} {code : Code} {texts : Texts} {w : World} {lay : Layout} {img : Image} {p : ℕ} {q : Process} {part next : Part} {parts : List Part} {bound : ℕ} {core : Core} →
    Scene tree code texts w lay img p q part (next ∷ parts) bound core → InnerActor tree code texts
inner_actor {w = w} {lay = lay} {img = img} {p = p} {q = q} {part = part} {next = next} {parts = parts} {bound = bound} {core = core} s =
    record { w = w; lay = lay; img = img; p = p; q = q; part = part; next = next; parts = parts; bound = bound; core = core; s = s }

module _ (tree : PProgram) (code : Code) (texts : Texts) (actor : Actor tree code texts) where
  open actor use {p, core, s}

  -- the display register of its level names its frame
  pub shown_frame : display_at core.registers core.registers.ll ≡ Some (place p (length s.stands.frame.lower))
  shown_frame = ap (λ (l : ℕ). display_at core.registers l) s.stands.there.level_is ∙ s.stands.top

  pub frame_is : frame core.registers ≡ length s.stands.frame.lower
  frame_is = ap at_or shown_frame
