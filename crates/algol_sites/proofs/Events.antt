-- The events of a wait, as the walk notes them.
use Rattle.std.proofs.Common.{◌≡◌, ℕ, ◌+◌, ◌<◌, List, [], length, drop, get_or, Option, sym, ap, subst, ◌∙◌}
use Rattle.algol_tree.specs.declared.refusal.Fault.{Fault}
use Rattle.algol_tree.specs.declared.tree.EventName.{EventName}
use Rattle.algol_tree.specs.Accepted.{noted_all}
use Rattle.algol_tree.specs.Surroundings.{Surroundings}
use Rattle.algol_frames.specs.declared.scopes.Scopes.{Scopes}
use Rattle.algol_told.specs.Telling.{ScopesTell}
use Rattle.algol_rules.proofs.Order.{noted_all_append}
use Rattle.b67_list.proofs.Lists.{drop_read}
use Rattle.algol_sites.specs.Seeing.{TellsEvents}
use Rattle.algol_sites.specs.Wanting.{unfit_event, unfit_events}

pub each_event : (s : Scopes) (a : Surroundings) (es : List EventName) (i : ℕ) (e : EventName) → i < length es → e ≡ get_or es i e → TellsEvents s a (drop i es) →
    ScopesTell s a e.name × TellsEvents s a (drop (i + 1) es)
each_event s a es i e h p t = let P : List EventName → Type 0 = TellsEvents s a in subst P (drop_read es i e h p) t

pub events_step : (es : List EventName) (i : ℕ) (e : EventName) (a : Surroundings) (f g : Option Fault) → i < length es → e ≡ get_or es i e →
    g ≡ noted_all f (unfit_event e a) → noted_all g (unfit_events (drop (i + 1) es) a) ≡ noted_all f (unfit_events (drop i es) a)
events_step es i e a f g h p q =
    ap (λ o. noted_all o (unfit_events (drop (i + 1) es) a)) q
    ∙ sym (noted_all_append f (unfit_event e a) (unfit_events (drop (i + 1) es) a))
    ∙ sym (ap (λ xs. noted_all f (unfit_events xs a)) (drop_read es i e h p))

pub events_end : (es : List EventName) (i : ℕ) (a : Surroundings) (f g : Option Fault) → drop i es ≡ [] →
    noted_all f (unfit_events (drop i es) a) ≡ g → f ≡ g
events_end es i a f g e h = sym (ap (λ xs. noted_all f (unfit_events xs a)) e) ∙ h
