-- The references of events: how they come to lie there, how many they are, and what that is where one event is named.
use Rattle.std.proofs.Common.{◌≡◌, refl, ap, subst, ℕ, ◌+◌, arith, Bool, false, if◌then◌else◌, List, [], ◌∷◌, length}
use Rattle.b67_limits.specs.declared.TheConstants.{MOST_EVENTS}
use Rattle.b67_deeds.specs.Deeds.{EventDeed, is_of_several}
use Rattle.algol_tree.specs.declared.tree.Named.{Named}
use Rattle.algol_tree.specs.Scopes.{Scopes}
use Rattle.b67_ops.specs.declared.Couple.{Couple}
use Rattle.b67_ops.specs.declared.Operator.TheVariants as ops
use Rattle.b67_ops.specs.declared.PlainKind.TheVariants as kinds
use Rattle.b67_ops.specs.declared.intrinsic.Intrinsic.{Intrinsic}
use Rattle.b67_ops.specs.Intrinsics.{intrinsic_of}
use Rattle.b67_segment.specs.Operators.{Placed}
use Rattle.b67_templates.specs.Contexts.{Context}
use Rattle.b67_templates.specs.Cells.{IsEvent, AreEvents}
use Rattle.b67_templates.specs.Fragments.{Has, ReferencesAt}
use Rattle.b67_templates.specs.Events.{OnEventsAt, AreSoMany}
use Rattle.b67_standing.specs.Stepping.{Slot, reference, intrinsic, mark, SlotsHaveRoom, push_reference, call, StepsLead, there, first}
use Rattle.b67_standing.specs.Standing.{references, ActsOnAt}

pub references_length : (cs : List Couple) (below : List Slot) → length (references cs below) ≡ length cs + length below
references_length [] below = omega arith
references_length (c ∷ cs) below = omega (arith, references_length cs (reference c ∷ below))

-- each event has its couple
pub couples_length : (sc : Scopes) (level : ℕ) (ns : List Named) (cs : List Couple) → AreEvents sc level ns cs → length cs ≡ length ns
couples_length sc level [] [] h = refl
couples_length sc level (n ∷ ns) (c ∷ cs) h = omega (arith, couples_length sc level ns cs h.1)
couples_length sc level [] (c ∷ cs) h = absurd h
couples_length sc level (n ∷ ns) [] h = absurd h

module _ (sc : Scopes) (context : Context) (ps : List Placed) (level most : ℕ) where
  references_lead : (cs : List Couple) (f t : ℕ) (below : List Slot) → ReferencesAt ps level cs f t → SlotsHaveRoom most below (length cs) →
      StepsLead sc context ps level most f below t (references cs below)
  references_lead [] f t below h room = subst (λ z. StepsLead sc context ps level most f below z below) h there
  references_lead (c ∷ cs) f t below h room =
      first (push_reference c h.1 (omega (arith, room))) (references_lead cs h.0 t (reference c ∷ below) h.2 (omega (arith, room)))

  module _ (x : EventDeed) (ns : List Named) (f t : ℕ) (h : OnEventsAt sc context ps level (intrinsic_of x) ns f t) (below : List Slot) where
    abbrev pub all_named : List Slot
    all_named = references h.couples (intrinsic (intrinsic_of x) ∷ mark ∷ below)

    -- from the start of its code to where the entry stands
    pub events_named : SlotsHaveRoom most below (2 + length ns) → StepsLead sc context ps level most f below h.referred all_named
    events_named room =
        first (call (intrinsic_of x) h.intrinsic (omega (arith, room)))
        (references_lead h.couples h.named h.referred (intrinsic (intrinsic_of x) ∷ mark ∷ below) h.references
        (omega (arith, room, couples_length sc context.level ns h.couples h.are_events)))

    pub events_there : AreSoMany x ns → ActsOnAt sc context ps level most x ns h.referred t all_named below
    events_there many = record { many = many; couples = h.couples; are_events = h.are_events; lies = refl; stands = h.enter }

  -- the words that an action on events finds there
  pub acted_on_length : (x : EventDeed) (ns : List Named) (pc next : ℕ) (slots below : List Slot) → (r : ActsOnAt sc context ps level most x ns pc next slots below) →
      length slots ≡ length r.couples + 2 + length below
  acted_on_length x ns pc next slots below r =
      omega (arith, ap length r.lies, references_length r.couples (intrinsic (intrinsic_of x) ∷ mark ∷ below))

  -- ---- where one event is named

  -- the reference of its cell, or of a parameter that stands for it, lies on that of the intrinsic, and that on a mark
  pub record ActsAt (name : Intrinsic) (n : Named) (pc next : ℕ) (slots below : List Slot) : Type 0 where
    pub couple : Couple
    pub is_event : IsEvent sc context.level n couple
    pub lies : slots ≡ reference couple ∷ intrinsic name ∷ mark ∷ below
    pub stands : Has ps level pc (ops.Plain kinds.Entr) next

  pub acts_on_one : (x : EventDeed) (n : Named) (pc next : ℕ) (slots below : List Slot) → ActsOnAt sc context ps level most x (n ∷ []) pc next slots below →
      ActsAt (intrinsic_of x) n pc next slots below
  acts_on_one x n pc next slots below r = by r.couples r.are_events r.lies
    where
      by : (cs : List Couple) → AreEvents sc context.level (n ∷ []) cs → slots ≡ references cs (intrinsic (intrinsic_of x) ∷ mark ∷ below) → ActsAt (intrinsic_of x) n pc next slots below
      by (c ∷ []) h e = record { couple = c; is_event = h.0; lies = e; stands = r.stands }
      by (c ∷ d ∷ cs) h e = absurd h.1
      by [] h e = absurd h

  pub nobody_named : (x : EventDeed) (pc next : ℕ) (slots below : List Slot) → ActsOnAt sc context ps level most x [] pc next slots below → ⊥
  nobody_named x pc next slots below r = omega (arith, (r.many).0)

  pub one_named : (x : EventDeed) (n m : Named) (ns : List Named) (pc next : ℕ) (slots below : List Slot) → is_of_several x ≡ false →
      ActsOnAt sc context ps level most x (n ∷ m ∷ ns) pc next slots below → ⊥
  one_named x n m ns pc next slots below one r = omega (arith, (r.many).1, ap (λ (b : Bool). if b then MOST_EVENTS else 1) one)
