-- The code of events: how they are made, named, acted on and given to procedures, and the task of a process.
use Rattle.std.specs.Prelude.{ℕ, ◌≤◌, pos, if◌then◌else◌, List, [], ◌∷◌, length, map, ◌≡◌, Option, Some, None}
use Rattle.b67_limits.specs.declared.TheConstants.{MOST_EVENTS}
use Rattle.b67_deeds.specs.Deeds.{EventDeed, is_of_several}
use Rattle.algol_tree.specs.declared.tree.EventName.{EventName}
use Rattle.algol_tree.specs.declared.tree.Named.{Named}
use Rattle.algol_tree.specs.Scopes.{Scopes}
use Rattle.b67_ops.specs.declared.Couple.{Couple}
use Rattle.b67_ops.specs.declared.Operator.TheVariants as ops
use Rattle.b67_ops.specs.declared.PlainKind.TheVariants as kinds
use Rattle.b67_ops.specs.declared.intrinsic.Intrinsic.{Intrinsic}
use Rattle.b67_ops.specs.declared.intrinsic.Intrinsic.TheVariants.{Event}
use Rattle.b67_segment.specs.Operators.{Placed}
use Rattle.b67_templates.specs.Contexts.{Context}
use Rattle.b67_templates.specs.Fragments.{Has, NumberAt, IntrinsicAt, ReferencesAt}
use Rattle.b67_templates.specs.Cells.{IsDeclaredEvent, IsFormalEvent, AreEvents}

-- the most events that are named where this is done: one, or, where it is done with several, as many as a process can wait for
abbrev pub most_named : EventDeed → ℕ
most_named x = if is_of_several x then MOST_EVENTS else 1

abbrev pub names_of : List EventName → List Named
names_of es = map (λ (e : EventName). e.name) es

-- so many may be named
abbrev pub AreSoMany : EventDeed → List Named → Type 0
AreSoMany x ns = (1 ≤ length ns) × (length ns ≤ most_named x)

module _ (sc : Scopes) (context : Context) (ps : List Placed) (level : ℕ) where
  -- an intrinsic on events: a mark, the reference of the intrinsic, those of the events' cells or of the parameters that stand for them, in the
  -- order in which they are named, the entry
  pub record OnEventsAt (name : Intrinsic) (ns : List Named) (f t : ℕ) : Type 0 where
    pub couples : List Couple
    pub are_events : AreEvents sc context.level ns couples
    pub named : ℕ
    pub referred : ℕ
    pub intrinsic : IntrinsicAt ps level name f named
    pub references : ReferencesAt ps level couples named referred
    pub enter : Has ps level referred (ops.Plain kinds.Entr) t

  -- The actual of an event parameter: of a declared event the reference to its cell, wherever it is read; of an event parameter the reference
  -- that its cell has.
  pub data EventActualAt (n : Named) (f t : ℕ) : Type 0 where
    refers : (c : Couple) (m : ℕ) → IsDeclaredEvent sc context.level n c → Has ps level f (ops.Namc c) m → Has ps level m (ops.Plain kinds.Stff) t →
        EventActualAt n f t
    passes : (c : Couple) (m : ℕ) → IsFormalEvent sc context.level n c → Has ps level f (ops.Namc c) m → Has ps level m (ops.Plain kinds.Lodt) t →
        EventActualAt n f t

  -- an event is made: a mark, the reference of the intrinsic, the entry, and PUSH, which makes a cell of the event's word
  pub record EventMadeAt (f t : ℕ) : Type 0 where
    pub named : ℕ
    pub made : ℕ
    pub intrinsic : IntrinsicAt ps level Event f named
    pub enter : Has ps level named (ops.Plain kinds.Entr) made
    pub push : Has ps level made (ops.Plain kinds.Push) t

  -- one for each of these names
  abbrev pub EventsMadeAt : List Named → ℕ → ℕ → Type 0
  EventsMadeAt [] f t = f ≡ t
  EventsMadeAt (n ∷ ns) f t = (m : ℕ) × EventMadeAt f m × EventsMadeAt ns m t

  -- the task of a process: the reference of its event's cell, or 0 where it has none
  abbrev pub TaskAt : Option Named → ℕ → ℕ → Type 0
  TaskAt None f t = NumberAt ps level (pos 0) f t
  TaskAt (Some n) f t = (c : Couple) × IsDeclaredEvent sc context.level n c × Has ps level f (ops.Namc c) t
