-- The Enter of a name's evaluation keeps what worlds are: it has no instance of its own.
use Rattle.std.proofs.Common.{◌≡◌, ◌⊎◌, ℕ, List, [], ◌∷◌, Some, true, refl, sym, ap, ◌∙◌, subst}
use Rattle.std.specs.Prelude.{if◌then◌else◌}
use Rattle.b67_list.specs.Numbered.{numbered}
use Rattle.algol_tree.specs.declared.tree.Named.{Named}
use Rattle.algol_tree.specs.Plain as tree
use Rattle.algol_tree.specs.Plain.{PExpr, PExprs, PBody}
use Rattle.algol_tree.specs.Scopes.{Scopes}
use Rattle.algol_meaning.specs.Value.{Value, NameCell, Cell, simple, named, Reference}
use Rattle.algol_meaning.specs.Rest as rests
use Rattle.algol_meaning.specs.Rest.{Half, val, busy, HalfPlace, at, aims, Rest, entered}
use Rattle.algol_meaning.specs.Settle.{aimed_of, settle, settle_place, settle_actual_place}
use Rattle.algol_meaning.specs.World.{instance_at, Purpose, name_read, name_place, Part, Process, able, lives, with_process, World}
use Rattle.algol_meaning.specs.Critical.{is_evaluation, own_instances, referred_by}
use Rattle.algol_meaning.specs.Asks as asks
use Rattle.algol_meaning.specs.Asks.{Ask, nothing, ask, resume, evaluated_of, located_of}
use Rattle.algol_meaning.specs.Choice.{is_subscripted, opens}
use Rattle.algol_laws.proofs.Heads.{awaits_place_in, settle_acts, evaluated_acts, place_acts, located_acts}
use Rattle.algol_laws.proofs.Standing.{opens_plain, opened}
use Rattle.algol_paths.specs.Blocks.{BlockIsSeen, IsSeenAround, IsInner}
use Rattle.algol_paths.specs.Texts.{InExpr, InRest}
use Rattle.algol_paths.proofs.Expressions.{InHalf, InHalfPlace, settle_in, settle_place_in}
use Rattle.algol_standing.specs.Skeleton.{Evaluation, IsEvaluated, IsInSkeleton}
use Rattle.algol_standing.specs.Worlds.{held_in_rest, newest_own, held_by, IsOnPath, IsOwn, IsAmongParts, IsAwaited, IsNoBlock, GivesNoOwn, GivesPlace, WaitsForPlace, PartsAreGiven, IsWholeInstance, KeepsActual, PartOk, ProcessOk, IsSound}
use Rattle.algol_standing.proofs.Lists.{false_true, some_same}
use Rattle.algol_standing.proofs.Holding.{HalfHolds, RestHolds, settle_holds, evaluated_holds}
use Rattle.algol_standing.proofs.Pairs.{pairs_self, pairs_then_set}
use Rattle.algol_standing.proofs.Alike.{InstanceAlike, ProcessAlike, instance_self}
use Rattle.algol_standing.proofs.Seen.{CellOk, all_refs, all_names, evaluated_either, top_inside}
use Rattle.algol_standing.proofs.Fine.{Fine, fine_of}
use Rattle.algol_standing.proofs.Unmoved.{Unmoved, unmoved_self}
use Rattle.algol_standing.proofs.Acted.{AreStillMade, Moved, acted_ok}
use Rattle.algol_standing.proofs.Resumed.{others_wait, Held, plain_held, answered, answered_fine, answered_still}
use Rattle.algol_standing.proofs.Changed.{listed_still}
use Rattle.algol_standing.proofs.Acting.{acting}
use Rattle.algol_standing.proofs.Inside.{Opens, opened_waits}

waits_awaits : (r : Rest) → WaitsForPlace r → awaits_place_in r ≡ true
waits_awaits (rests.locating rests.inside_place) f = refl
waits_awaits (rests.aiming rests.inside_place e k) f = refl
waits_awaits _ f = absurd f

-- what is opened without a place being asked for leaves no part that waits for one
pub no_place_awaited : (sc : Scopes) (r : Rest) → opens_plain (ask r) ≡ true → WaitsForPlace (resume sc r entered) → ⊥
no_place_awaited sc r e f = false_true (sym (opened sc r e) ∙ waits_awaits (resume sc r entered) f)

module _ (P : Named → Type 0) (Q : PBody → Type 0) (R : Named → Type 0) where
  pub evaluated_text : (x : Half) → InHalf P x → InRest P Q R (evaluated_of x)
  evaluated_text (val v) i = tt
  evaluated_text (busy h) i = i

  located_text : (x : HalfPlace) → InHalfPlace P x → InRest P Q R (located_of x)
  located_text (at p) i = i
  located_text (aims x) i = i

  pub subscripted_text : (sc : Scopes) (e : PExpr) → is_subscripted e ≡ true → InExpr P e → InRest P Q R (located_of (settle_actual_place sc e))
  subscripted_text sc (tree.variable (tree.subscripted n (tree.more e es))) s i =
      located_text (settle_place sc (tree.subscripted n (tree.more e es))) (settle_place_in P sc n (tree.more e es) i.0 i.1)
  subscripted_text sc _ s i = false_true s

module _ (C : Cell → Type 0) (plain : (v : Value) → C (simple v)) (sc : Scopes) where
  aimed_rest : (n : Named) (x : Half) (es : PExprs) → HalfHolds C plain x → RestHolds C plain true (located_of (aimed_of n [] x es)) × GivesPlace (located_of (aimed_of n [] x es))
  aimed_rest n (busy h) es i = ((i, refl), tt)
  aimed_rest n (val v) es i = ((tt, refl), tt)

  pub subscripted_holds : (e : PExpr) → is_subscripted e ≡ true → RestHolds C plain true (located_of (settle_actual_place sc e)) × GivesPlace (located_of (settle_actual_place sc e))
  subscripted_holds (tree.variable (tree.subscripted n (tree.more e es))) s = aimed_rest n (settle sc e) es (settle_holds C plain sc e)
  subscripted_holds _ s = false_true s

subscripted_acts : (sc : Scopes) (e : PExpr) → is_subscripted e ≡ true → ask (located_of (settle_actual_place sc e)) ≡ nothing → ⊥
subscripted_acts sc (tree.variable v) s =
    acting (ask (located_of (settle_place sc v))) (located_acts (settle_place sc v) (place_acts sc v))
subscripted_acts sc _ s = false_true s

module _ (sc : Scopes) (w : World) (ok : IsSound sc IsWholeInstance w) (p : ℕ) (q : Process) (part : Part) (outer : List Part) (is : numbered w.processes p ≡ Some q) (todo : q.todo ≡ part ∷ outer)
    (able_is : q.state ≡ able) (c : NameCell) (held : CellOk sc IsWholeInstance w ok (newest_own (part ∷ outer)) (named c)) where
  fine : Fine sc w (part ∷ outer)
  fine = subst (λ ps. Fine sc w ps) todo (fine_of sc w ok p q is)

  abbrev around : Part
  around = answered sc w ok part outer fine entered tt tt

  fine_around : Fine sc w (around ∷ outer)
  fine_around = answered_fine sc w ok part outer fine entered tt tt

  module _ (purpose : Purpose) (r : Rest) (evaluates : is_evaluation purpose ≡ true)
      (text : (P : Named → Type 0) (Q : PBody → Type 0) (R : Named → Type 0) → InExpr P c.actual → InRest P Q R r)
      (holds : RestHolds (Held sc w ok part outer fine) (plain_held sc w ok part outer fine) true r) (acts : ask r ≡ nothing → ⊥) (opens_it : Opens (ask part.rest))
      (gives : WaitsForPlace (resume sc part.rest entered) → GivesPlace r) where
    abbrev inner : Part
    inner = record { instance = c.instance; purpose = purpose; rest = r }

    abbrev after : Process
    after = record q { todo = inner ∷ around ∷ outer }

    abbrev top : ℕ
    top = newest_own (part ∷ outer)

    actual : KeepsActual sc IsWholeInstance w c
    actual = held.1 c refl

    inner_ok : PartOk sc IsWholeInstance w inner
    inner_ok =
        record {
          text = text (BlockIsSeen sc j) (IsInner sc j) (IsSeenAround sc j) actual.seen;
          narrow = λ e. by actual.narrow;
          names = λ m n. all_names sc IsWholeInstance w ok top (held_in_rest r) holds.0 m n;
        }
      where
        j : ℕ
        j = (instance_at w c.instance).block

        by : IsWholeInstance w c.instance ⊎ InExpr (IsSeenAround sc j) c.actual → IsWholeInstance w c.instance ⊎ InRest (IsSeenAround sc j) IsNoBlock (IsSeenAround sc j) r
        by (◌⊎◌.inl f) = ◌⊎◌.inl f
        by (◌⊎◌.inr f) = ◌⊎◌.inr (text (IsSeenAround sc j) IsNoBlock (IsSeenAround sc j) f)

    parts : (x : Part) → IsAmongParts (inner ∷ around ∷ outer) x → PartOk sc IsWholeInstance w x
    parts x (◌⊎◌.inl e) = subst (λ y. PartOk sc IsWholeInstance w y) e inner_ok
    parts x (◌⊎◌.inr n) = fine_around.each x n

    wait : (x : Part) → IsAmongParts (around ∷ outer) x → ask x.rest ≡ nothing
    wait x (◌⊎◌.inl e) = subst (λ (y : Part). ask y.rest ≡ nothing) e (opened_waits sc part.rest opens_it)
    wait x (◌⊎◌.inr n) = others_wait q part outer ((ok.processes p q is).heads (ap lives able_is)) todo x n

    given : PartsAreGiven (inner ∷ around ∷ outer)
    given = (subst (λ b. GivesNoOwn b r) (sym evaluates) holds.1, gives, fine_around.given)

    own_same : own_instances (inner ∷ around ∷ outer) ≡ own_instances (around ∷ outer)
    own_same = ap (λ b. if b then own_instances (around ∷ outer) else c.instance ∷ own_instances (around ∷ outer)) evaluates

    top_same : newest_own (inner ∷ around ∷ outer) ≡ top
    top_same = ap (λ b. if b then newest_own (around ∷ outer) else c.instance) evaluates

    on_path : (e : Evaluation) → IsEvaluated (held_by (inner ∷ around ∷ outer)) e → IsInSkeleton (own_instances (inner ∷ around ∷ outer)) e.over × IsOnPath w e.over e.within
    on_path e n = by (evaluated_either (newest_own (inner ∷ around ∷ outer)) (c.instance ∷ referred_by (held_in_rest r)) (held_by (around ∷ outer)) e n)
      where
        path : IsInSkeleton (c.instance ∷ referred_by (held_in_rest r)) e.within → IsOnPath w top e.within
        path (◌⊎◌.inl f) = subst (λ i. IsOnPath w top i) f (held.0 c.instance (◌⊎◌.inl refl))
        path (◌⊎◌.inr m) = all_refs sc IsWholeInstance w ok top (held_in_rest r) holds.0 e.within m

        inside : IsInSkeleton (own_instances (around ∷ outer)) top
        inside = top_inside sc IsWholeInstance w ok p q part outer is todo

        by : ((e.over ≡ newest_own (inner ∷ around ∷ outer)) × IsInSkeleton (c.instance ∷ referred_by (held_in_rest r)) e.within) ⊎ IsEvaluated (held_by (around ∷ outer)) e →
            IsInSkeleton (own_instances (inner ∷ around ∷ outer)) e.over × IsOnPath w e.over e.within
        by (◌⊎◌.inl f) =
            let over : e.over ≡ top = f.0 ∙ top_same in (
              subst (λ is. IsInSkeleton is e.over) (sym own_same) (subst (λ i. IsInSkeleton (own_instances (around ∷ outer)) i) (sym over) inside),
              subst (λ i. IsOnPath w i e.within) (sym over) (path f.1),
            )
        by (◌⊎◌.inr m) = let o = fine_around.holds e m in (subst (λ is. IsInSkeleton is e.over) (sym own_same) o.0, o.1)

    process_then : ProcessOk sc IsWholeInstance w after
    process_then =
        record {
          parts = parts;
          heads = λ l. record { part = inner; outer = around ∷ outer; is = refl; acts = acts; wait = wait };
          gives = given;
          awaited = λ t n. absurd (not_awaited t n);
          few = (ok.processes p q is).few;
        }
      where
        not_awaited : (t : Reference) → IsAwaited q.state t → ⊥
        not_awaited t n = subst (λ s. IsAwaited s t) able_is n

    alike : ProcessAlike q after
    alike =
        record {
          own = own_same ∙ sym (ap own_instances todo);
          owned = λ i n. subst (λ ps. IsOwn ps i) (sym todo) (owned i n);
          critical = refl;
          task = refl;
          lives = refl;
        }
      where
        owned : (i : ℕ) → IsOwn (inner ∷ around ∷ outer) i → IsOwn (part ∷ outer) i
        owned i (◌⊎◌.inl f) = false_true (sym f.0 ∙ evaluates)
        owned i (◌⊎◌.inr n) = n

    still : AreStillMade q.todo (inner ∷ around ∷ outer)
    still x n o m =
        let k = answered_still sc w ok part outer fine entered tt tt x (subst (λ ps. IsAmongParts ps x) todo n) o m in
        record { part = k.part; among = ◌⊎◌.inr k.among; owns = k.owns; instance_is = k.instance_is; made = k.made }

    abbrev MovedHere : Process → Process → Type 0
    MovedHere = Moved sc w ok p q is after alike process_then on_path still

    evaluation_ok : IsSound sc IsWholeInstance (opens sc w p q part outer w inner).world
    evaluation_ok =
        acted_ok sc w ok p q is after alike process_then on_path still (with_process w p after) (pairs_self InstanceAlike instance_self w.instances)
        (pairs_then_set Unmoved MovedHere (λ x y f. ◌⊎◌.inr f) w.processes w.processes p after (pairs_self Unmoved unmoved_self w.processes) (λ x e. ◌⊎◌.inl (some_same e is, refl)))
        (λ t e st f. listed_still w (with_process w p after) p q after is able_is refl t e (ok.listed t e st f))

  pub read_enters : (n : Named) → ask part.rest ≡ asks.reads n →
      IsSound sc IsWholeInstance (opens sc w p q part outer w (record { instance = c.instance; purpose = name_read; rest = evaluated_of (settle sc c.actual) })).world
  read_enters n e =
      evaluation_ok name_read (evaluated_of (settle sc c.actual)) refl (λ P Q R i. evaluated_text P Q R (settle sc c.actual) (settle_in P sc c.actual i))
      (evaluated_holds (Held sc w ok part outer fine) (plain_held sc w ok part outer fine) true (settle sc c.actual)
      (settle_holds (Held sc w ok part outer fine) (plain_held sc w ok part outer fine) sc c.actual))
      (acting (ask (evaluated_of (settle sc c.actual))) (evaluated_acts (settle sc c.actual) (settle_acts sc c.actual))) (subst (λ x. Opens x) (sym e) tt)
      (λ f. absurd (no_place_awaited sc part.rest (ap opens_plain e) f))

  pub place_enters : (n : Named) → ask part.rest ≡ asks.resolves n → is_subscripted c.actual ≡ true →
      IsSound sc IsWholeInstance (opens sc w p q part outer w (record { instance = c.instance; purpose = name_place; rest = located_of (settle_actual_place sc c.actual) })).world
  place_enters n e s =
      evaluation_ok name_place (located_of (settle_actual_place sc c.actual)) refl (λ P Q R i. subscripted_text P Q R sc c.actual s i)
      (subscripted_holds (Held sc w ok part outer fine) (plain_held sc w ok part outer fine) sc c.actual s).0 (subscripted_acts sc c.actual s) (subst (λ x. Opens x) (sym e) tt)
      (λ f. (subscripted_holds (Held sc w ok part outer fine) (plain_held sc w ok part outer fine) sc c.actual s).1)
