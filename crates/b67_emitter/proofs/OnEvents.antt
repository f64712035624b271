-- An intrinsic on events: its beginning, the references of the events' cells, the entry. And the task of a process.
use Rattle.std.proofs.Common.{◌≡◌, ℕ, zero, suc, ◌+◌, ◌*◌, ◌<◌, ◌≤◌, pos, List, [], ◌∷◌, ◌++◌, length, take, get_or, None, Some, ◌∙◌, refl, sym, ap, subst, arith, length-append}
use Rattle.std.proofs.lemmas.List.{take_more, take_all}
use Rattle.std.specs.List.{AllByRecursion}
use Rattle.std.specs.Prelude.{IsSome, Option}
use Rattle.algol_tree.specs.declared.tree.EventName.{EventName}
use Rattle.algol_tree.specs.declared.tree.Named.{Named}
use Rattle.algol_tree.specs.Scopes.{Scopes, use_of}
use Rattle.b67_ops.specs.declared.Couple.{Couple}
use Rattle.b67_ops.specs.declared.Operator.TheVariants as ops
use Rattle.b67_ops.specs.declared.PlainKind.TheVariants as kinds
use Rattle.b67_ops.specs.declared.intrinsic.Intrinsic.{Intrinsic}
use Rattle.b67_ops.specs.Spelling.{CoupleIsSeen}
use Rattle.b67_segment.specs.Operators.{Placed, size}
use Rattle.b67_segment.specs.Building.{Built, level_set}
use Rattle.b67_templates.specs.Cells.{IsEvent, AreEvents, IsDeclaredEvent, declared_event, formal_event}
use Rattle.b67_templates.specs.Events.{names_of, OnEventsAt, TaskAt}
use Rattle.b67_templates.specs.Fragments.{Has, NumberAt, IntrinsicAt, ReferencesAt}
use Rattle.b67_templates.specs.Emitting.{Emitted}
use Rattle.b67_templates.specs.Fitting.{EventFits, its_own, its_actual, TaskFits}
use Rattle.b67_emitter.specs.declared.names.Names.{Names}
use Rattle.b67_emitter.specs.Values.{couples, meanings, AreNear, HasEvents, EventsEmitted, HasTask, TaskEmitted}
use Rattle.b67_emitter.proofs.Appends.{same_level}
use Rattle.b67_emitter.proofs.Composing.{then, weaker}
use Rattle.b67_emitter.proofs.Seen.{some, seen_up, seen_further}

module _ (s : Names) (scopes : Scopes) (level : ℕ) (n : Named) where
  -- the event is that of a cell
  pub event_there : EventFits scopes (meanings s) level n → (c : Couple) × (couples s n.spot ≡ Some c) × IsEvent scopes level n c
  event_there (its_own c known meant is) = (c, known, declared_event is)
  event_there (its_actual c known meant is) = (c, known, formal_event is)

  -- .. of the couple that was found
  pub event_found : (c : Couple) → couples s n.spot ≡ Some c → EventFits scopes (meanings s) level n → IsEvent scopes level n c
  event_found c known fits =
      let own = event_there fits in
      let same : own.0 ≡ c = cc (own.1, known) in
      let E : Couple → Type 0 = λ x. IsEvent scopes level n x in
      subst E same own.2

  -- .. which is of a level that many up
  level_up : (c : Couple) → IsEvent scopes level n c → c.level + (use_of scopes n).up ≡ level
  level_up c (declared_event is) = is.made.level_is
  level_up c (formal_event is) = is.level_is

  pub event_seen : (c : Couple) → AreNear s → couples s n.spot ≡ Some c → EventFits scopes (meanings s) level n → CoupleIsSeen level c
  event_seen c near known fits = seen_up level c (use_of scopes n).up (near.own n.spot c known) (level_up c (event_found c known fits))

-- the event has code at that level: the name fits there or further out
pub record HasEvent (s : Names) (level : ℕ) (n : Named) : Type 0 where
  pub scopes : Scopes
  pub own : ℕ
  pub outer : own ≤ level
  pub fits : EventFits scopes (meanings s) own n

module _ (s : Names) (level : ℕ) (n : Named) where
  pub known_event : HasEvent s level n → IsSome (couples s n.spot)
  known_event h =
      let own = event_there s h.scopes h.own n h.fits in
      some (couples s n.spot) own.0 own.1

  pub seen_event : (c : Couple) → AreNear s → couples s n.spot ≡ Some c → HasEvent s level n → CoupleIsSeen level c
  seen_event c near known h = seen_further level h.own c h.outer (near.own n.spot c known) (event_seen s h.scopes h.own n c near known h.fits)

-- ---- each event of a list

-- each of them fits
fits_at : (F : Named → Type 0) (es : List EventName) (i : ℕ) (d : EventName) → i < length es → AllByRecursion F (names_of es) → F (get_or es i d).name
fits_at F [] i d within h = absurd (omega (arith, within))
fits_at F (e ∷ es) zero d within h = h.0
fits_at F (e ∷ es) (suc i) d within h = fits_at F es i d (omega (arith, within)) h.1

pub has_at : (s : Names) (level : ℕ) (es : List EventName) (i : ℕ) (e d : EventName) → i < length es → e ≡ get_or es i d → HasEvents s level es → HasEvent s level e.name
has_at s level es i e d within is h = record {
  scopes = h.scopes;
  own = h.own;
  outer = h.outer;
  fits = subst (λ (x : EventName). EventFits h.scopes (meanings s) h.own x.name) (sym is) (fits_at (EventFits h.scopes (meanings s) h.own) es i d within h.fits);
}

abbrev couple_there : Option Couple → Couple
couple_there (Some c) = c
couple_there None = record { level = 0; index = 0 }

-- the couples of their cells
abbrev pub couples_of : Names → List EventName → List Couple
couples_of s [] = []
couples_of s (e ∷ es) = couple_there (couples s e.name.spot) ∷ couples_of s es

events_found : (s : Names) (scopes : Scopes) (level : ℕ) (es : List EventName) → AllByRecursion (EventFits scopes (meanings s) level) (names_of es) →
    AreEvents scopes level (names_of es) (couples_of s es)
events_found s scopes level [] h = tt
events_found s scopes level (e ∷ es) h =
    let own = event_there s scopes level e.name h.0 in
    let E : Couple → Type 0 = λ c. IsEvent scopes level e.name c in
    (subst E (sym (ap couple_there own.1)) own.2, events_found s scopes level es h.1)

references_append : (qs : List Placed) (level : ℕ) (s : Names) (es : List EventName) (e : EventName) (c : Couple) (from middle to : ℕ) → couples s e.name.spot ≡ Some c →
    ReferencesAt qs level (couples_of s es) from middle → Has qs level middle (ops.Namc c) to → ReferencesAt qs level (couples_of s (es ++ e ∷ [])) from to
references_append qs level s [] e c from middle to known same h =
    let H : ℕ → Couple → Type 0 = λ f d. Has qs level f (ops.Namc d) to in
    (to, subst (H from) (sym (ap couple_there known)) (subst (λ f. H f c) (sym same) h), refl)
references_append qs level s (x ∷ es) e c from middle to known (m, here, rest) h = (m, here, references_append qs level s es e c m middle to known rest h)

-- From the first builder to the second the references of these events were appended.
pub record Referred (s : Names) (es : List EventName) (before after : Built) : Type 0 where
  pub code : Emitted before after (λ qs. ReferencesAt qs (level_set before) (couples_of s es) (size before.operators) (size after.operators))
  pub level : after.level ≡ before.level
  pub wide : size after.operators ≡ size before.operators + 2 * length es

pub referred_first : (s : Names) (b : Built) → Referred s [] b b
referred_first s b = record {
  code = record { level = refl; grown = omega arith; kept = λ at level next op lo hi h. h; claimed = λ qs k. refl };
  level = refl;
  wide = omega arith;
}

-- one more of them
referred_next : (s : Names) (es : List EventName) (e : EventName) (x : Couple) (a b c : Built) → couples s e.name.spot ≡ Some x → Referred s es a b →
    Emitted b c (λ qs. Has qs (level_set b) (size b.operators) (ops.Namc x) (size c.operators)) → c.level ≡ b.level → size c.operators ≡ size b.operators + 2 →
    Referred s (es ++ e ∷ []) a c
referred_next s es e x a b c known r h l w =
    let H : ℕ → Type 0 = λ n. Emitted b c (λ qs. Has qs n (size b.operators) (ops.Namc x) (size c.operators)) in
    record {
      code = weaker (λ qs. ReferencesAt qs (level_set a) (couples_of s (es ++ e ∷ [])) (size a.operators) (size c.operators)) (then r.code (subst H (same_level a b r.level) h))
          (λ qs both. references_append qs (level_set a) s es e x (size a.operators) (size b.operators) (size c.operators) known both.0 both.1);
      level = l ∙ r.level;
      wide = omega (arith, r.wide, w, length-append es (e ∷ []));
    }

pub referred_more : (s : Names) (es : List EventName) (i : ℕ) (e : EventName) (x : Couple) (a b c : Built) → i < length es → e ≡ get_or es i e → couples s e.name.spot ≡ Some x →
    Referred s (take i es) a b → Emitted b c (λ qs. Has qs (level_set b) (size b.operators) (ops.Namc x) (size c.operators)) → c.level ≡ b.level →
    size c.operators ≡ size b.operators + 2 → Referred s (take (i + 1) es) a c
referred_more s es i e x a b c within is known r h l w =
    let R : List EventName → Type 0 = λ zs. Referred s zs a c in
    subst R (sym (take_more es i e within ∙ ap (λ (z : EventName). take i es ++ z ∷ []) (sym is))) (referred_next s (take i es) e x a b c known r h l w)

-- all of them, where the loop ends
pub referred_whole : (s : Names) (es : List EventName) (i : ℕ) (a b : Built) → length es ≤ i → Referred s (take i es) a b → Referred s es a b
referred_whole s es i a b end r = let R : List EventName → Type 0 = λ zs. Referred s zs a b in subst R (take_all i es end) r

pub events_form : (s : Names) (name : Intrinsic) (es : List EventName) (a b d e : Built) → b.level ≡ a.level →
    Emitted a b (λ qs. IntrinsicAt qs (level_set a) name (size a.operators) (size b.operators)) → Referred s es b d →
    Emitted d e (λ qs. Has qs (level_set d) (size d.operators) (ops.Plain kinds.Entr) (size e.operators)) → EventsEmitted s (level_set a) a e name es
events_form s name es a b d e l begun r enter = record {
  code = λ scopes context fits.
      let R : ℕ → Type 0 = λ i. Emitted b d (λ qs. ReferencesAt qs i (couples_of s es) (size b.operators) (size d.operators)) in
      let E : ℕ → Type 0 = λ i. Emitted d e (λ qs. Has qs i (size d.operators) (ops.Plain kinds.Entr) (size e.operators)) in
      weaker (λ qs. OnEventsAt scopes context qs (level_set a) name (names_of es) (size a.operators) (size e.operators))
      (then begun (then (subst R (same_level a b l) r.code) (subst E (same_level a d (r.level ∙ l)) enter)))
      (λ qs p. record {
        couples = couples_of s es;
        are_events = events_found s scopes context.level es fits;
        named = size b.operators;
        referred = size d.operators;
        intrinsic = p.0;
        references = p.1.0;
        enter = p.1.1;
      });
}

-- ---- tasks

-- the task's name is that of an event
pub task_event : (s : Names) (level : ℕ) (task : Option Named) (n : Named) → task ≡ Some n → HasTask s level task → HasEvent s level n
task_event s level task n is h =
    let F : Option Named → Type 0 = λ o. TaskFits h.scopes (meanings s) h.own o in
    let own : F (Some n) = subst F is h.fits in
    record { scopes = h.scopes; own = h.own; outer = h.outer; fits = its_own own.0 own.1 own.2 own.3 }

pub task_named : (s : Names) (level : ℕ) (task : Option Named) (n : Named) (c : Couple) (a b : Built) → task ≡ Some n → couples s n.spot ≡ Some c →
    Emitted a b (λ qs. Has qs level (size a.operators) (ops.Namc c) (size b.operators)) → TaskEmitted s level a b task
task_named s level task n c a b is known named = record {
  code = λ scopes context fits.
      let F : Option Named → Type 0 = λ o. TaskFits scopes (meanings s) context.level o in
      let T : Option Named → Type 0 = λ o. Emitted a b (λ qs. TaskAt scopes context qs level o (size a.operators) (size b.operators)) in
      let own : F (Some n) = subst F is fits in
      let same : own.0 ≡ c = cc (own.1, known) in
      let E : Couple → Type 0 = λ x. IsDeclaredEvent scopes context.level n x in
      let there : E c = subst E same own.3 in
      subst T (sym is) (weaker (λ qs. TaskAt scopes context qs level (Some n) (size a.operators) (size b.operators)) named (λ qs p. (c, there, p)));
}

pub task_none : (s : Names) (level : ℕ) (task : Option Named) (a b : Built) → task ≡ None →
    Emitted a b (λ qs. NumberAt qs level (pos 0) (size a.operators) (size b.operators)) → TaskEmitted s level a b task
task_none s level task a b is nothing = record {
  code = λ scopes context fits.
      let T : Option Named → Type 0 = λ o. Emitted a b (λ qs. TaskAt scopes context qs level o (size a.operators) (size b.operators)) in
      subst T (sym is) nothing;
}
