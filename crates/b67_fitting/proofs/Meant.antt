-- What a name means where it is of a class: a variable, a parameter by name, an array, an event, a label or a procedure whose declaration is
-- known.
use Rattle.std.proofs.Common.{◌≡◌, inl, inr, ℕ, List, length, Option, Some, None, refl, sym, ◌∙◌, subst}
use Rattle.algol_tree.specs.declared.tree.Heading.{Heading}
use Rattle.algol_tree.specs.declared.tree.Kind.{Kind}
use Rattle.algol_tree.specs.declared.tree.Named.{Named}
use Rattle.algol_tree.specs.Blocks.{Block}
use Rattle.algol_tree.specs.Classes as class
use Rattle.algol_tree.specs.Classes.{Class}
use Rattle.algol_tree.specs.Sorts.{Declared}
use Rattle.algol_tree.specs.Surroundings.{Surroundings, class_of, class_of_declared, declared_as}
use Rattle.algol_paths.specs.Arrays.{Shape}
use Rattle.b67_fitting.specs.Typing.{IsEventful, IsOf}
use Rattle.b67_fitting.proofs.Known.{IsHeld, IsName, IsRowed, IsFormal, IsEvented, IsFormalEvent, IsLabelled, IsOwned, IsKnown, known_file, known_variable, known_name, known_array, known_formal, known_event, known_formal_event, known_label, known_procedure}

pub record IsDeclared (a : Surroundings) (c : Class) (n : Named) : Type 0 where
  pub as_one : Declared
  pub is : declared_as a n ≡ Some as_one
  pub class_is : as_one.class ≡ c

declared_of : (a : Surroundings) (c : Class) (n : Named) (o : Option Declared) → (class.unknown ≡ c → ⊥) → declared_as a n ≡ o → class_of_declared o ≡ c → IsDeclared a c n
declared_of a c n None never e h = absurd (never h)
declared_of a c n (Some d) never e h = record { as_one = d; is = e; class_is = h }

pub declared_simple : (a : Surroundings) (k : Kind) (n : Named) → IsOf a k n → IsDeclared a (class.simple k) n
declared_simple a k n h = declared_of a (class.simple k) n (declared_as a n) (λ e. let clash : class.unknown ≡ class.simple k = e in cc) refl h

pub declared_procedure : (a : Surroundings) (g : Heading) (n : Named) → class_of a n ≡ class.procedure g → IsDeclared a (class.procedure g) n
declared_procedure a g n h = declared_of a (class.procedure g) n (declared_as a n) (λ e. let clash : class.unknown ≡ class.procedure g = e in cc) refl h

pub declared_array : (a : Surroundings) (k : Kind) (rank : ℕ) (n : Named) → class_of a n ≡ class.array k rank → IsDeclared a (class.array k rank) n
declared_array a k rank n h = declared_of a (class.array k rank) n (declared_as a n) (λ e. let clash : class.unknown ≡ class.array k rank = e in cc) refl h

pub declared_label : (a : Surroundings) (n : Named) → class_of a n ≡ class.label → IsDeclared a class.label n
declared_label a n h = declared_of a class.label n (declared_as a n) (λ e. let clash : class.unknown ≡ class.label = e in cc) refl h

pub declared_event : (a : Surroundings) (c : Class) (n : Named) → IsEventful c → class_of a n ≡ c → IsDeclared a c n
declared_event a c n (inl e) h = declared_of a c n (declared_as a n) (λ f. let clash : class.unknown ≡ class.event = f ∙ e in cc) refl h
declared_event a c n (inr e) h = declared_of a c n (declared_as a n) (λ f. let clash : class.unknown ≡ class.task = f ∙ e in cc) refl h

-- what is of one class is of no other
not_eventful : (c k : Class) → c ≡ k → IsEventful c → (class.event ≡ k → ⊥) → (class.task ≡ k → ⊥) → ⊥
not_eventful c k e (inl f) never_event never_task = never_event (sym f ∙ e)
not_eventful c k e (inr f) never_event never_task = never_task (sym f ∙ e)

module _ (blocks : List Block) where
  -- a variable, or a parameter by name
  pub data IsSimpleAs (depth : ℕ) (name : List ℕ) (d : Declared) (k : Kind) : Type 0 where
    held : IsHeld blocks depth name d k → IsSimpleAs depth name d k
    given : IsName blocks depth name d k → IsSimpleAs depth name d k

  pub held_of : (depth : ℕ) (name : List ℕ) (d : Declared) (k : Kind) → d.class ≡ class.simple k → IsKnown blocks depth name d → IsSimpleAs depth name d k
  held_of depth name d k c (known_file f s) = absurd (let clash : class.simple k ≡ class.file = sym c ∙ f in cc)
  held_of depth name d k c (known_label h) = absurd (let clash : class.simple k ≡ class.label = sym c ∙ h.class_is in cc)
  held_of depth name d k c (known_formal_event h) = absurd (let clash : class.simple k ≡ class.event = sym c ∙ h.class_is in cc)
  held_of depth name d k c (known_event h) =
      absurd (not_eventful d.class (class.simple k) c h.class_is (λ e. let clash : class.event ≡ class.simple k = e in cc) (λ e. let clash : class.task ≡ class.simple k = e in cc))
  held_of depth name d k c (known_array m rank h) = absurd (let clash : class.simple k ≡ class.array m rank = sym c ∙ h.class_is in cc)
  held_of depth name d k c (known_formal shape h) = absurd (let clash : class.simple k ≡ class.array shape.kind (length shape.lows) = sym c ∙ h.class_is in cc)
  held_of depth name d k c (known_procedure g h) = absurd (let clash : class.simple k ≡ class.procedure g = sym c ∙ h.class_is in cc)
  held_of depth name d k c (known_variable kind h) =
      let same : kind ≡ k = (let e : class.simple kind ≡ class.simple k = sym h.class_is ∙ c in cc) in
      held (subst (λ (z : Kind). IsHeld blocks depth name d z) same h)
  held_of depth name d k c (known_name kind h) =
      let same : kind ≡ k = (let e : class.simple kind ≡ class.simple k = sym h.class_is ∙ c in cc) in
      given (subst (λ (z : Kind). IsName blocks depth name d z) same h)

  pub owned_of : (depth : ℕ) (name : List ℕ) (d : Declared) (g : Heading) → d.class ≡ class.procedure g → IsKnown blocks depth name d → IsOwned blocks depth name d g
  owned_of depth name d g c (known_file f s) = absurd (let clash : class.procedure g ≡ class.file = sym c ∙ f in cc)
  owned_of depth name d g c (known_label h) = absurd (let clash : class.procedure g ≡ class.label = sym c ∙ h.class_is in cc)
  owned_of depth name d g c (known_formal_event h) = absurd (let clash : class.procedure g ≡ class.event = sym c ∙ h.class_is in cc)
  owned_of depth name d g c (known_event h) =
      absurd (not_eventful d.class (class.procedure g) c h.class_is (λ e. let clash : class.event ≡ class.procedure g = e in cc) (λ e. let clash : class.task ≡ class.procedure g = e in cc))
  owned_of depth name d g c (known_variable kind h) = absurd (let clash : class.procedure g ≡ class.simple kind = sym c ∙ h.class_is in cc)
  owned_of depth name d g c (known_name kind h) = absurd (let clash : class.procedure g ≡ class.simple kind = sym c ∙ h.class_is in cc)
  owned_of depth name d g c (known_array m rank h) = absurd (let clash : class.procedure g ≡ class.array m rank = sym c ∙ h.class_is in cc)
  owned_of depth name d g c (known_formal shape h) = absurd (let clash : class.procedure g ≡ class.array shape.kind (length shape.lows) = sym c ∙ h.class_is in cc)
  owned_of depth name d g c (known_procedure f h) =
      let same : f ≡ g = (let e : class.procedure f ≡ class.procedure g = sym h.class_is ∙ c in cc) in
      subst (λ (z : Heading). IsOwned blocks depth name d z) same h

  -- an array that a block declares, or a parameter that stands for one
  pub data IsArrayAs (depth : ℕ) (name : List ℕ) (d : Declared) (k : Kind) (rank : ℕ) : Type 0 where
    of_block : IsRowed blocks depth name d k rank → IsArrayAs depth name d k rank
    of_parameter : (shape : Shape) → IsFormal blocks depth name d shape → shape.kind ≡ k → length shape.lows ≡ rank → IsArrayAs depth name d k rank

  pub arrayed_of : (depth : ℕ) (name : List ℕ) (d : Declared) (k : Kind) (rank : ℕ) → d.class ≡ class.array k rank → IsKnown blocks depth name d → IsArrayAs depth name d k rank
  arrayed_of depth name d k rank c (known_file f s) = absurd (let clash : class.array k rank ≡ class.file = sym c ∙ f in cc)
  arrayed_of depth name d k rank c (known_label h) = absurd (let clash : class.array k rank ≡ class.label = sym c ∙ h.class_is in cc)
  arrayed_of depth name d k rank c (known_formal_event h) = absurd (let clash : class.array k rank ≡ class.event = sym c ∙ h.class_is in cc)
  arrayed_of depth name d k rank c (known_event h) =
      absurd (not_eventful d.class (class.array k rank) c h.class_is (λ e. let clash : class.event ≡ class.array k rank = e in cc) (λ e. let clash : class.task ≡ class.array k rank = e in cc))
  arrayed_of depth name d k rank c (known_variable kind h) = absurd (let clash : class.array k rank ≡ class.simple kind = sym c ∙ h.class_is in cc)
  arrayed_of depth name d k rank c (known_name kind h) = absurd (let clash : class.array k rank ≡ class.simple kind = sym c ∙ h.class_is in cc)
  arrayed_of depth name d k rank c (known_procedure g h) = absurd (let clash : class.array k rank ≡ class.procedure g = sym c ∙ h.class_is in cc)
  arrayed_of depth name d k rank c (known_array kind many h) =
      let same : class.array kind many ≡ class.array k rank = sym h.class_is ∙ c in
      let kinds : kind ≡ k = cc in
      let ranks : many ≡ rank = cc in
      of_block (subst (λ (z : Kind). IsRowed blocks depth name d z rank) kinds (subst (λ (r : ℕ). IsRowed blocks depth name d kind r) ranks h))
  arrayed_of depth name d k rank c (known_formal shape h) =
      let same : class.array shape.kind (length shape.lows) ≡ class.array k rank = sym h.class_is ∙ c in
      let kinds : shape.kind ≡ k = cc in
      let ranks : length shape.lows ≡ rank = cc in
      of_parameter shape h kinds ranks

  -- an event or a task that a block declares, or a parameter that stands for one
  pub data IsEventAs (depth : ℕ) (name : List ℕ) (d : Declared) : Type 0 where
    made : IsEvented blocks depth name d → IsEventAs depth name d
    given_for : IsFormalEvent blocks depth name d → IsEventAs depth name d

  pub event_of : (depth : ℕ) (name : List ℕ) (d : Declared) (c : Class) → IsEventful c → d.class ≡ c → IsKnown blocks depth name d → IsEventAs depth name d
  event_of depth name d c v e (known_event h) = made h
  event_of depth name d c v e (known_formal_event h) = given_for h
  event_of depth name d c v e (known_file f s) =
      absurd (not_eventful c class.file (sym e ∙ f) v (λ e. let clash : class.event ≡ class.file = e in cc) (λ e. let clash : class.task ≡ class.file = e in cc))
  event_of depth name d c v e (known_label h) =
      absurd (not_eventful c class.label (sym e ∙ h.class_is) v (λ e. let clash : class.event ≡ class.label = e in cc) (λ e. let clash : class.task ≡ class.label = e in cc))
  event_of depth name d c v e (known_variable k h) =
      absurd (not_eventful c (class.simple k) (sym e ∙ h.class_is) v (λ e. let clash : class.event ≡ class.simple k = e in cc) (λ e. let clash : class.task ≡ class.simple k = e in cc))
  event_of depth name d c v e (known_name k h) =
      absurd (not_eventful c (class.simple k) (sym e ∙ h.class_is) v (λ e. let clash : class.event ≡ class.simple k = e in cc) (λ e. let clash : class.task ≡ class.simple k = e in cc))
  event_of depth name d c v e (known_array k rank h) =
      absurd (not_eventful c (class.array k rank) (sym e ∙ h.class_is) v (λ e. let clash : class.event ≡ class.array k rank = e in cc) (λ e. let clash : class.task ≡ class.array k rank = e in cc))
  event_of depth name d c v e (known_formal s h) =
      absurd (not_eventful c (class.array s.kind (length s.lows)) (sym e ∙ h.class_is) v (λ e. let clash : class.event ≡ class.array s.kind (length s.lows) = e in cc)
      (λ e. let clash : class.task ≡ class.array s.kind (length s.lows) = e in cc))
  event_of depth name d c v e (known_procedure g h) =
      absurd (not_eventful c (class.procedure g) (sym e ∙ h.class_is) v (λ e. let clash : class.event ≡ class.procedure g = e in cc) (λ e. let clash : class.task ≡ class.procedure g = e in cc))

  -- a task is one that a block declares
  pub task_of : (depth : ℕ) (name : List ℕ) (d : Declared) → d.class ≡ class.task → IsKnown blocks depth name d → IsEvented blocks depth name d
  task_of depth name d c (known_event h) = h
  task_of depth name d c (known_file f s) = absurd (let clash : class.task ≡ class.file = sym c ∙ f in cc)
  task_of depth name d c (known_label h) = absurd (let clash : class.task ≡ class.label = sym c ∙ h.class_is in cc)
  task_of depth name d c (known_variable k h) = absurd (let clash : class.task ≡ class.simple k = sym c ∙ h.class_is in cc)
  task_of depth name d c (known_name k h) = absurd (let clash : class.task ≡ class.simple k = sym c ∙ h.class_is in cc)
  task_of depth name d c (known_array k rank h) = absurd (let clash : class.task ≡ class.array k rank = sym c ∙ h.class_is in cc)
  task_of depth name d c (known_formal s h) = absurd (let clash : class.task ≡ class.array s.kind (length s.lows) = sym c ∙ h.class_is in cc)
  task_of depth name d c (known_formal_event h) = absurd (let clash : class.task ≡ class.event = sym c ∙ h.class_is in cc)
  task_of depth name d c (known_procedure g h) = absurd (let clash : class.task ≡ class.procedure g = sym c ∙ h.class_is in cc)

  pub labelled_of : (depth : ℕ) (name : List ℕ) (d : Declared) → d.class ≡ class.label → IsKnown blocks depth name d → IsLabelled blocks depth name d
  labelled_of depth name d c (known_label h) = h
  labelled_of depth name d c (known_file f s) = absurd (let clash : class.label ≡ class.file = sym c ∙ f in cc)
  labelled_of depth name d c (known_variable k h) = absurd (let clash : class.label ≡ class.simple k = sym c ∙ h.class_is in cc)
  labelled_of depth name d c (known_name k h) = absurd (let clash : class.label ≡ class.simple k = sym c ∙ h.class_is in cc)
  labelled_of depth name d c (known_array k rank h) = absurd (let clash : class.label ≡ class.array k rank = sym c ∙ h.class_is in cc)
  labelled_of depth name d c (known_formal s h) = absurd (let clash : class.label ≡ class.array s.kind (length s.lows) = sym c ∙ h.class_is in cc)
  labelled_of depth name d c (known_formal_event h) = absurd (let clash : class.label ≡ class.event = sym c ∙ h.class_is in cc)
  labelled_of depth name d c (known_event h) =
      absurd (not_eventful d.class class.label c h.class_is (λ e. let clash : class.event ≡ class.label = e in cc) (λ e. let clash : class.task ≡ class.label = e in cc))
  labelled_of depth name d c (known_procedure g h) = absurd (let clash : class.label ≡ class.procedure g = sym c ∙ h.class_is in cc)
