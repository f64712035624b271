-- Parts whose innermost goes on with an answer; and a process with such parts, in a world whose instances and other processes stay as they are but for
-- cells and states.
use Rattle.std.proofs.Common.{◌≡◌, ◌⊎◌, ℕ, List, [], ◌∷◌, ◌++◌, Some, true, refl, sym, ap, ◌∙◌, subst}
use Rattle.b67_list.specs.Numbered.{numbered}
use Rattle.algol_tree.specs.declared.tree.Named.{Named}
use Rattle.algol_tree.specs.Scopes.{Scopes}
use Rattle.algol_meaning.specs.Value.{Value, Reference, Cell, simple, event}
use Rattle.b67_deeds.specs.Events.{EventState}
use Rattle.algol_meaning.specs.Rest as rests
use Rattle.algol_meaning.specs.Rest.{own, there, element_of, HalfPlace, at, aims, Rest, Answer, done, value, cell, place, entered}
use Rattle.algol_meaning.specs.Settle.{put_place}
use Rattle.algol_meaning.specs.World.{instance_at, cell_at, Part, Process, State, lives, World}
use Rattle.algol_meaning.specs.Critical.{is_evaluation, own_instances, referred_by}
use Rattle.algol_meaning.specs.Asks.{located_of, nothing, ask, resume}
use Rattle.algol_paths.specs.Blocks.{BlockIsSeen, IsSeenAround, IsInner}
use Rattle.algol_paths.specs.Texts.{InAnswer, InRest}
use Rattle.algol_paths.specs.Arrays.{Made, made_in, to_come, all_to_make, all_left_to_make}
use Rattle.algol_paths.proofs.Rests.{resumed_keeps}
use Rattle.algol_paths.proofs.Making.{all_is_made_in_order}
use Rattle.algol_standing.specs.Skeleton.{Evaluation, IsEvaluated, IsInSkeleton}
use Rattle.algol_standing.specs.Worlds.{held_in_rest, held_in_answer, newest_own, held_by, IsStanding, IsOnPath, IsOwn, IsAmongParts, WaitersAreListed, IsAwaited, IsFew, IsNoBlock, GivesNoOwn, GivesPlace, PartsAreGiven, HasHead, IsWholeInstance, PartOk, ProcessOk, IsSound}
use Rattle.algol_standing.proofs.Holding.{AreAll, IsForeign, RestHolds, PlaceGivable, put_place_givable, resumed_holds}
use Rattle.algol_standing.proofs.Pairs.{AllPairs}
use Rattle.algol_standing.proofs.Alike.{InstanceAlike, ProcessAlike}
use Rattle.algol_standing.proofs.Seen.{CellOk, all_by, all_refs, all_names, evaluated_front, evaluated_back, evaluated_either}
use Rattle.algol_standing.proofs.Fine.{Fine, fine_of}
use Rattle.algol_standing.proofs.Unmoved.{Unmoved}
use Rattle.algol_standing.proofs.Acted.{AreStillMade, acted_ok}

-- ---- the answer

pub answer_in : (P : Named → Type 0) (a : Answer) → IsForeign a → InAnswer P a
answer_in P (place (own n)) f = absurd f
answer_in P (place (there r)) f = tt
answer_in P (place (element_of r ks)) f = tt
answer_in P done f = tt
answer_in P (value v) f = tt
answer_in P (cell c) f = tt
answer_in P entered f = tt

located_gives : (C : Cell → Type 0) (plain : (v : Value) → C (simple v)) (y : HalfPlace) → PlaceGivable C plain true y → GivesPlace (located_of y)
located_gives C plain (at p) f = f
located_gives C plain (aims x) f = tt

-- what comes to give a place still does
pub place_then : (C : Cell → Type 0) (plain : (v : Value) → C (simple v)) (sc : Scopes) (r : Rest) (a : Answer) → IsForeign a → GivesPlace r → GivesPlace (resume sc r a)
place_then C plain sc (rests.giving_place p) a f g = g
place_then C plain sc (rests.locating x) a f g = located_gives C plain (put_place sc x a) (put_place_givable C plain true sc x a f)
place_then C plain sc _ a f g = absurd g

nothing_after : (xs ys : List Made) → xs ++ ys ≡ [] → ys ≡ []
nothing_after [] ys e = e
nothing_after (x ∷ xs) ys e = cc

-- where nothing is left to make, nothing is after the action of the head
pub nothing_left : (r : Rest) → all_to_make r ≡ [] → all_left_to_make r ≡ []
nothing_left (rests.bounding kind ns pairs vs h ps k) e = e
nothing_left (rests.arrays kind ns pairs vs k) e = nothing_after (made_in kind ns pairs) (to_come k) e
nothing_left (rests.event n k) e = cc
nothing_left _ e = refl

tail_same : (x y : Part) (xs ys : List Part) → x ∷ xs ≡ y ∷ ys → xs ≡ ys
tail_same x y xs ys e = cc

-- only the innermost part of a live process asks for an action
pub others_wait : (q : Process) (part : Part) (outer : List Part) → HasHead q.todo → q.todo ≡ part ∷ outer → (x : Part) → IsAmongParts outer x → ask x.rest ≡ nothing
others_wait q part outer head todo x n = head.wait x (subst (λ ps. IsAmongParts ps x) (tail_same part head.part outer head.outer (sym todo ∙ head.is)) n)

pub no_own : (part : Part) (outer : List Part) → PartsAreGiven (part ∷ outer) → GivesNoOwn (is_evaluation part.purpose) part.rest
no_own part [] g = g
no_own part (next ∷ parts) g = g.0

-- ---- parts

module _ (sc : Scopes) (w : World) (ok : IsSound sc IsWholeInstance w) (part : Part) (outer : List Part) (fine : Fine sc w (part ∷ outer)) where
  abbrev pub top : ℕ
  top = newest_own (part ∷ outer)

  abbrev pub Held : Cell → Type 0
  Held = CellOk sc IsWholeInstance w ok top

  pub plain_held : (v : Value) → Held (simple v)
  plain_held v = (λ i n. absurd n, λ m n. absurd n)

  pub fine_holds : AreAll Held (held_in_rest part.rest)
  fine_holds =
      all_by sc IsWholeInstance w ok top (held_in_rest part.rest)
      (λ i n. (fine.holds (record { over = top; within = i }) (evaluated_front top (part.instance ∷ referred_by (held_in_rest part.rest)) (held_by outer) i (◌⊎◌.inr n))).1)
      (λ m n. (fine.each part (◌⊎◌.inl refl)).names m n)

  here_holds : IsInSkeleton (own_instances (part ∷ outer)) top × IsOnPath w top part.instance
  here_holds =
      fine.holds (record { over = top; within = part.instance })
      (evaluated_front top (part.instance ∷ referred_by (held_in_rest part.rest)) (held_by outer) part.instance (◌⊎◌.inl refl))

  -- other things to do of the innermost part
  module _ (r : Rest) (part_then : PartOk sc IsWholeInstance w (record part { rest = r })) (holds_then : RestHolds Held plain_held (is_evaluation part.purpose) r)
      (gives_then : GivesPlace part.rest → GivesPlace r) where
    abbrev pub changed : Part
    changed = record part { rest = r }

    given_then : (parts : List Part) → PartsAreGiven (part ∷ parts) → PartsAreGiven (changed ∷ parts)
    given_then [] g = holds_then.1
    given_then (next ∷ parts) g = (holds_then.1, λ n. gives_then (g.1 n), g.2)

    each_then : (x : Part) → IsAmongParts (changed ∷ outer) x → PartOk sc IsWholeInstance w x
    each_then x (◌⊎◌.inl e) = subst (λ y. PartOk sc IsWholeInstance w y) e part_then
    each_then x (◌⊎◌.inr n) = fine.each x (◌⊎◌.inr n)

    on_path : (e : Evaluation) → IsEvaluated (held_by (changed ∷ outer)) e → IsInSkeleton (own_instances (changed ∷ outer)) e.over × IsOnPath w e.over e.within
    on_path e n = by (evaluated_either top (part.instance ∷ referred_by (held_in_rest r)) (held_by outer) e n)
      where
        path : IsInSkeleton (part.instance ∷ referred_by (held_in_rest r)) e.within → IsOnPath w top e.within
        path (◌⊎◌.inl f) = subst (λ i. IsOnPath w top i) f here_holds.1
        path (◌⊎◌.inr m) = all_refs sc IsWholeInstance w ok top (held_in_rest r) holds_then.0 e.within m

        by : ((e.over ≡ top) × IsInSkeleton (part.instance ∷ referred_by (held_in_rest r)) e.within) ⊎ IsEvaluated (held_by outer) e →
            IsInSkeleton (own_instances (changed ∷ outer)) e.over × IsOnPath w e.over e.within
        by (◌⊎◌.inl f) = (
          subst (λ i. IsInSkeleton (own_instances (changed ∷ outer)) i) (sym f.0) here_holds.0,
          subst (λ i. IsOnPath w i e.within) (sym f.0) (path f.1),
        )
        by (◌⊎◌.inr m) = fine.holds e (evaluated_back top (part.instance ∷ referred_by (held_in_rest part.rest)) (held_by outer) e m)

    pub changed_fine : Fine sc w (changed ∷ outer)
    changed_fine = record { each = each_then; given = given_then outer fine.given; holds = on_path; some = λ n. fine.some n }

  module _ (a : Answer) (foreign : IsForeign a) (brings : AreAll Held (held_in_answer a)) where
    abbrev pub answered : Part
    answered = record part { rest = resume sc part.rest a }

    holds_then : RestHolds Held plain_held (is_evaluation part.purpose) answered.rest
    holds_then = resumed_holds Held plain_held (is_evaluation part.purpose) sc part.rest a (fine_holds, no_own part outer fine.given) brings foreign

    old : PartOk sc IsWholeInstance w part
    old = fine.each part (◌⊎◌.inl refl)

    part_then : PartOk sc IsWholeInstance w answered
    part_then =
        record {
          text = resumed_keeps (BlockIsSeen sc j) (IsInner sc j) (IsSeenAround sc j) sc part.rest a old.text (answer_in (BlockIsSeen sc j) a foreign);
          narrow = λ e. by (old.narrow e);
          names = λ m n. all_names sc IsWholeInstance w ok top (held_in_rest answered.rest) holds_then.0 m n;
        }
      where
        j : ℕ
        j = (instance_at w part.instance).block

        by : IsWholeInstance w part.instance ⊎ InRest (IsSeenAround sc j) IsNoBlock (IsSeenAround sc j) part.rest →
            IsWholeInstance w part.instance ⊎ InRest (IsSeenAround sc j) IsNoBlock (IsSeenAround sc j) (resume sc part.rest a)
        by (◌⊎◌.inl f) = ◌⊎◌.inl f
        by (◌⊎◌.inr f) = ◌⊎◌.inr (resumed_keeps (IsSeenAround sc j) IsNoBlock (IsSeenAround sc j) sc part.rest a f (answer_in (IsSeenAround sc j) a foreign))

    pub answered_fine : Fine sc w (answered ∷ outer)
    answered_fine = changed_fine answered.rest part_then holds_then (λ g. place_then Held plain_held sc part.rest a foreign g)

    still_none : all_to_make part.rest ≡ [] → all_to_make answered.rest ≡ []
    still_none e = all_is_made_in_order.resumed sc ((instance_at w part.instance).block) part.rest a old.text ∙ nothing_left part.rest e

    pub answered_still : AreStillMade (part ∷ outer) (answered ∷ outer)
    answered_still x (◌⊎◌.inl f) o m =
        record {
          part = answered;
          among = ◌⊎◌.inl refl;
          owns = ap (λ (y : Part). is_evaluation y.purpose) f ∙ o;
          instance_is = ap (λ (y : Part). y.instance) f;
          made = still_none (ap (λ (y : Part). all_to_make y.rest) f ∙ m);
        }
    answered_still x (◌⊎◌.inr n) o m = record { part = x; among = ◌⊎◌.inr n; owns = o; instance_is = refl; made = m }

-- ---- the process

module _ (sc : Scopes) (w : World) (ok : IsSound sc IsWholeInstance w) (p : ℕ) (q : Process) (part : Part) (outer : List Part) (is : numbered w.processes p ≡ Some q) (todo : q.todo ≡ part ∷ outer)
    (live : lives q.state ≡ true) (a : Answer) (foreign : IsForeign a) (brings : AreAll (CellOk sc IsWholeInstance w ok (newest_own (part ∷ outer))) (held_in_answer a))
    (acts : ask (resume sc part.rest a) ≡ nothing → ⊥) (s : State) (lives_on : lives s ≡ true) (awaits : (r : Reference) → IsAwaited s r → IsOnPath w (newest_own (part ∷ outer)) r.instance)
    (woken : ℕ) (few : IsFew woken s) where
  fine_here : Fine sc w (part ∷ outer)
  fine_here = subst (λ ps. Fine sc w ps) todo (fine_of sc w ok p q is)

  abbrev acted : Part
  acted = record part { rest = resume sc part.rest a }

  -- the process after the answer
  abbrev pub resumed : Process
  resumed = record q { todo = acted ∷ outer; state = s; woken = woken }

  fine_then : Fine sc w (acted ∷ outer)
  fine_then = answered_fine sc w ok part outer fine_here a foreign brings

  head_then : HasHead (acted ∷ outer)
  head_then = record { part = acted; outer = outer; is = refl; acts = acts; wait = λ x n. others_wait q part outer ((ok.processes p q is).heads live) todo x n }

  process_then : ProcessOk sc IsWholeInstance w resumed
  process_then = record { parts = fine_then.each; heads = λ l. head_then; gives = fine_then.given; awaited = awaits; few = few }

  alike_then : ProcessAlike q resumed
  alike_then =
      record {
        own = sym (ap own_instances todo);
        owned = λ i n. subst (λ ps. IsOwn ps i) (sym todo) (owned i n);
        critical = refl;
        task = refl;
        lives = lives_on ∙ sym live;
      }
    where
      owned : (i : ℕ) → IsOwn (acted ∷ outer) i → IsOwn (part ∷ outer) i
      owned i n = n

  still_then : AreStillMade q.todo (acted ∷ outer)
  still_then = subst (λ ps. AreStillMade ps (acted ∷ outer)) (sym todo) (answered_still sc w ok part outer fine_here a foreign brings)

  -- each process is the one that acts, or it does not move
  abbrev pub Moved : Process → Process → Type 0
  Moved x y = ((x ≡ q) × (y ≡ resumed)) ⊎ Unmoved x y

  pub resumed_ok : (v : World) → AllPairs InstanceAlike w.instances v.instances → AllPairs Moved w.processes v.processes →
      ((r : Reference) (e : EventState) → IsStanding w r.instance → cell_at v r ≡ event e → WaitersAreListed v r e) → IsSound sc IsWholeInstance v
  resumed_ok v instances processes listed = acted_ok sc w ok p q is resumed alike_then process_then fine_then.holds still_then v instances processes listed
