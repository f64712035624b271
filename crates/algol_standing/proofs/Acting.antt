-- Whatever a part has still to do, its head asks for an action, also after an answer to what it asked for.
use Rattle.std.proofs.Common.{◌≡◌, true, false, List, refl, subst}
use Rattle.algol_tree.specs.Scopes.{Scopes}
use Rattle.algol_meaning.specs.Rest.{Item, Rest, Answer, done, value, cell, place, entered}
use Rattle.algol_meaning.specs.Statements.{settle_items}
use Rattle.algol_meaning.specs.Asks as asks
use Rattle.algol_meaning.specs.Asks.{Ask, nothing, ask, resume}
use Rattle.algol_laws.specs.Heads.{asks_action}
use Rattle.algol_laws.proofs.Heads.{is_answer, is_place, items_act, resume_acts}
use Rattle.algol_laws.proofs.Standing.{asks_place, awaiting_asks}
use Rattle.algol_standing.proofs.Asking.{Suits}

pub acting : (x : Ask) → asks_action x ≡ true → x ≡ nothing → ⊥
acting x e f = let g : false ≡ true = subst (λ y. asks_action y ≡ true) f e in cc

none_enters : (x : Ask) → Suits x entered → ⊥
none_enters asks.nothing s = s
none_enters (asks.indexes n ks v) s = s
none_enters (asks.resolves n) s = s
none_enters _ s = s

suits_answer : (x : Ask) (a : Answer) → Suits x a → is_answer a ≡ true
suits_answer x done s = refl
suits_answer x (value v) s = refl
suits_answer x (cell c) s = refl
suits_answer x (place p) s = refl
suits_answer x entered s = absurd (none_enters x s)

suits_place : (x : Ask) (a : Answer) → Suits x a → asks_place x ≡ true → is_place a ≡ true
suits_place asks.nothing a s e = absurd s
suits_place (asks.indexes n ks v) (place p) s e = refl
suits_place (asks.indexes n ks v) done s e = absurd s
suits_place (asks.indexes n ks v) (value u) s e = absurd s
suits_place (asks.indexes n ks v) (cell c) s e = absurd s
suits_place (asks.indexes n ks v) entered s e = absurd s
suits_place (asks.resolves n) (place p) s e = refl
suits_place (asks.resolves n) done s e = absurd s
suits_place (asks.resolves n) (value u) s e = absurd s
suits_place (asks.resolves n) (cell c) s e = absurd s
suits_place (asks.resolves n) entered s e = absurd s
suits_place _ a s e = cc

pub heads_act : (sc : Scopes) (r : Rest) (a : Answer) → Suits (ask r) a → ask (resume sc r a) ≡ nothing → ⊥
heads_act sc r a s =
    acting (ask (resume sc r a)) (resume_acts sc r a (suits_answer (ask r) a s) (λ f. suits_place (ask r) a s (awaiting_asks r f)))

pub first_acts : (sc : Scopes) (k : List Item) → ask (settle_items sc k) ≡ nothing → ⊥
first_acts sc k = acting (ask (settle_items sc k)) (items_act sc k)
