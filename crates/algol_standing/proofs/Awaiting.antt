-- What is not so of a state in which a process waits for an event.
use Rattle.std.proofs.Common.{◌≡◌, [], ◌∷◌, true, refl, sym, ◌∙◌}
use Rattle.algol_meaning.specs.Value.{Reference}
use Rattle.algol_meaning.specs.World.{State, able, waits_for, procures, waits_any, ended, lives}
use Rattle.algol_meaning.specs.Events.{reference_is_among, list_in}
use Rattle.algol_standing.specs.Worlds.{Awaits, IsAwaited}
use Rattle.algol_standing.proofs.EventCells.{same_self, among_first}

pub awaits_able : (s : State) (r : Reference) → Awaits s r → s ≡ able → ⊥
awaits_able (waits_for t) r n e = cc
awaits_able (waits_any rs) r n e = cc
awaits_able able r n e = n
awaits_able (procures t) r n e = n
awaits_able ended r n e = n

pub awaits_ended : (s : State) (r : Reference) → Awaits s r → s ≡ ended → ⊥
awaits_ended (waits_for t) r n e = cc
awaits_ended (waits_any rs) r n e = cc
awaits_ended able r n e = n
awaits_ended (procures t) r n e = n
awaits_ended ended r n e = n

pub awaits_procures : (s : State) (r t : Reference) → Awaits s r → s ≡ procures t → ⊥
awaits_procures (waits_for u) r t n e = cc
awaits_procures (waits_any rs) r t n e = cc
awaits_procures able r t n e = n
awaits_procures (procures u) r t n e = n
awaits_procures ended r t n e = n

pub awaits_lives : (s : State) (r : Reference) → Awaits s r → lives s ≡ true
awaits_lives (waits_for t) r n = refl
awaits_lives (waits_any rs) r n = refl
awaits_lives able r n = absurd n
awaits_lives (procures t) r n = absurd n
awaits_lives ended r n = absurd n

-- two events: both are of its list
pub awaits_two : (s : State) (r t : Reference) → (r ≡ t → ⊥) → Awaits s r → Awaits s t → reference_is_among (list_in s) t ≡ true
awaits_two (waits_for u) r t other m n = absurd (other (sym m ∙ n))
awaits_two (waits_any rs) r t other m n = n
awaits_two able r t other m n = absurd m
awaits_two (procures u) r t other m n = absurd m
awaits_two ended r t other m n = absurd m

-- who waits for nothing has no list
pub no_list : (s : State) → ((r : Reference) → IsAwaited s r → ⊥) → list_in s ≡ []
no_list (waits_any []) f = refl
no_list (waits_any (r ∷ rs)) f = absurd (f r (among_first r rs r (same_self r)))
no_list (waits_for t) f = refl
no_list able f = refl
no_list (procures t) f = refl
no_list ended f = refl
