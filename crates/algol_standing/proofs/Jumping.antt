-- GO TO keeps what worlds are: the newer parts go, and the label's part goes on from there.
use Rattle.std.proofs.Common.{◌≡◌, ◌⊎◌, ℕ, ◌<◌, List, [], ◌∷◌, ◌++◌, length, Some, Bool, true, false, refl, sym, ap, ◌∙◌, subst, append_assoc}
use Rattle.std.specs.Prelude.{if◌then◌else◌, ◌==◌}
use Rattle.b67_list.specs.Numbered.{numbered}
use Rattle.b67_list.proofs.Numbers.{same_number}
use Rattle.b67_num.specs.declared.FaultKind.TheVariants as fault
use Rattle.algol_tree.specs.declared.tree.Named.{Named}
use Rattle.algol_tree.specs.Blocks.{block_numbered}
use Rattle.algol_tree.specs.Scopes.{Scopes}
use Rattle.algol_meaning.specs.Rest as rests
use Rattle.algol_meaning.specs.Rest.{Item, Rest}
use Rattle.algol_meaning.specs.Statements.{items_from, settle_items}
use Rattle.algol_meaning.specs.World.{Instance, instance_at, Part, Process, able, lives, World}
use Rattle.algol_meaning.specs.Critical.{some_depends_on_any, is_evaluation, own_instances}
use Rattle.algol_meaning.specs.Instances.{Cut, is_part_of, cut_at}
use Rattle.algol_meaning.specs.Asks.{nothing, ask}
use Rattle.algol_meaning.specs.Choice.{fails, gone, gone_to, goes_to}
use Rattle.algol_paths.specs.Blocks.{BlockIsSeen, IsSeenAround, IsInner}
use Rattle.algol_paths.specs.Arrays.{all_to_make}
use Rattle.algol_paths.specs.Laws.{KeepsToText, ItemsKeepToText}
use Rattle.algol_paths.proofs.Statements.{declared_keeps}
use Rattle.algol_paths.proofs.Jumps.{jumps_keep_to_their_text}
use Rattle.algol_standing.specs.Skeleton.{IsInSkeleton}
use Rattle.algol_standing.specs.Worlds.{held_in_rest, newest_own, IsOwn, IsAmongParts, IsAwaited, GivesNoOwn, GivesPlace, HasHead, IsWholeInstance, PartOk, IsSound}
use Rattle.algol_calls.specs.Texts.{KeepToTexts}
use Rattle.algol_standing.proofs.Lists.{false_true}
use Rattle.algol_standing.proofs.Holding.{RestHolds, items_hold}
use Rattle.algol_standing.proofs.Seen.{all_names, there, instance_is}
use Rattle.algol_standing.proofs.Fine.{Fine, fine_of, fine_back, part_stands_in}
use Rattle.algol_standing.proofs.Acted.{IsStillMade}
use Rattle.algol_standing.proofs.Resumed.{no_own, Held, plain_held, changed_fine}
use Rattle.algol_standing.proofs.Acting.{first_acts}
use Rattle.algol_standing.proofs.Quiet.{same_ok}
use Rattle.algol_standing.proofs.Leaving.{left_ok}

-- ---- the cut

pub cut_all : (newer parts : List Part) (i : ℕ) → newer ++ parts ≡ (cut_at newer parts i).newer ++ (cut_at newer parts i).from
cut_all newer [] i = refl
cut_all newer (part ∷ parts) i = by (is_part_of part i) (sym (append_assoc newer (part ∷ []) parts) ∙ cut_all (newer ++ part ∷ []) parts i)
  where
    by : (b : Bool) → newer ++ part ∷ parts ≡ (cut_at (newer ++ part ∷ []) parts i).newer ++ (cut_at (newer ++ part ∷ []) parts i).from →
        newer ++ part ∷ parts
        ≡ (if b then record { newer = newer; from = part ∷ parts } else cut_at (newer ++ part ∷ []) parts i).newer
        ++ (if b then record { newer = newer; from = part ∷ parts } else cut_at (newer ++ part ∷ []) parts i).from
    by true e = refl
    by false e = e

pub cut_target : (newer parts : List Part) (i : ℕ) (target : Part) (rest : List Part) → (cut_at newer parts i).from ≡ target ∷ rest → is_part_of target i ≡ true
cut_target newer [] i target rest e = cc
cut_target newer (part ∷ parts) i target rest e = by (is_part_of part i) refl (λ f. cut_target (newer ++ part ∷ []) parts i target rest f) e
  where
    by : (b : Bool) → is_part_of part i ≡ b → ((cut_at (newer ++ part ∷ []) parts i).from ≡ target ∷ rest → is_part_of target i ≡ true) →
        (if b then record { newer = newer; from = part ∷ parts } else cut_at (newer ++ part ∷ []) parts i).from ≡ target ∷ rest → is_part_of target i ≡ true
    by true f g h = let same : part ≡ target = cc in subst (λ (x : Part). is_part_of x i ≡ true) same f
    by false f g h = g h

pub target_is : (x : Part) (i : ℕ) → is_part_of x i ≡ true → (is_evaluation x.purpose ≡ false) × (x.instance ≡ i)
target_is x i e = by (is_evaluation x.purpose) refl e
  where
    by : (b : Bool) → is_evaluation x.purpose ≡ b → (if b then false else x.instance == i) ≡ true → (is_evaluation x.purpose ≡ false) × (x.instance ≡ i)
    by true f g = cc
    by false f g = (f, same_number x.instance i g)

-- ---- lists of parts

pub own_both : (xs ys : List Part) → own_instances (xs ++ ys) ≡ own_instances xs ++ own_instances ys
own_both [] ys = refl
own_both (x ∷ xs) ys = by (is_evaluation x.purpose) (own_both xs ys)
  where
    by : (b : Bool) → own_instances (xs ++ ys) ≡ own_instances xs ++ own_instances ys →
        (if b then own_instances (xs ++ ys) else x.instance ∷ own_instances (xs ++ ys)) ≡ (if b then own_instances xs else x.instance ∷ own_instances xs) ++ own_instances ys
    by true e = e
    by false e = ap (λ is. x.instance ∷ is) e

own_back : (xs ys : List Part) (i : ℕ) → IsOwn ys i → IsOwn (xs ++ ys) i
own_back [] ys i n = n
own_back (x ∷ xs) ys i n = ◌⊎◌.inr (own_back xs ys i n)

among_either : (xs ys : List Part) (x : Part) → IsAmongParts (xs ++ ys) x → IsAmongParts xs x ⊎ IsAmongParts ys x
among_either [] ys x n = ◌⊎◌.inr n
among_either (y ∷ xs) ys x (◌⊎◌.inl e) = ◌⊎◌.inl (◌⊎◌.inl e)
among_either (y ∷ xs) ys x (◌⊎◌.inr n) = by (among_either xs ys x n)
  where
    by : IsAmongParts xs x ⊎ IsAmongParts ys x → IsAmongParts (y ∷ xs) x ⊎ IsAmongParts ys x
    by (◌⊎◌.inl m) = ◌⊎◌.inl (◌⊎◌.inr m)
    by (◌⊎◌.inr m) = ◌⊎◌.inr m

pub own_among : (xs : List Part) (x : Part) → IsAmongParts xs x → is_evaluation x.purpose ≡ false → IsInSkeleton (own_instances xs) x.instance
own_among [] x n o = absurd n
own_among (y ∷ xs) x (◌⊎◌.inl e) o = by (is_evaluation y.purpose) (ap (λ (z : Part). is_evaluation z.purpose) e ∙ o)
  where
    by : (b : Bool) → b ≡ false → IsInSkeleton (if b then own_instances xs else y.instance ∷ own_instances xs) x.instance
    by true f = cc
    by false f = ◌⊎◌.inl (ap (λ (z : Part). z.instance) e)
own_among (y ∷ xs) x (◌⊎◌.inr n) o = by (is_evaluation y.purpose) (own_among xs x n o)
  where
    by : (b : Bool) → IsInSkeleton (own_instances xs) x.instance → IsInSkeleton (if b then own_instances xs else y.instance ∷ own_instances xs) x.instance
    by true m = m
    by false m = ◌⊎◌.inr m

behind : (xs : List Part) (y : Part) (ys : List Part) → HasHead (xs ++ y ∷ ys) → (x : Part) → IsAmongParts ys x → ask x.rest ≡ nothing
behind xs y ys head x n = head.wait x (by xs head.part head.outer head.is)
  where
    tail : (a b : Part) (as' bs : List Part) → a ∷ as' ≡ b ∷ bs → as' ≡ bs
    tail a b as' bs e = cc

    back : (zs : List Part) → IsAmongParts (zs ++ y ∷ ys) x
    back [] = ◌⊎◌.inr n
    back (z ∷ zs) = ◌⊎◌.inr (back zs)

    by : (zs : List Part) (b : Part) (bs : List Part) → zs ++ y ∷ ys ≡ b ∷ bs → IsAmongParts bs x
    by [] b bs e = subst (λ ps. IsAmongParts ps x) (tail y b ys bs e) n
    by (z ∷ zs) b bs e = subst (λ ps. IsAmongParts ps x) (tail z b (zs ++ y ∷ ys) bs e) (back zs)

module _ (sc : Scopes) (texts : KeepToTexts sc) (w : World) (ok : IsSound sc IsWholeInstance w) (p : ℕ) (q : Process) (part : Part) (outer : List Part) (is : numbered w.processes p ≡ Some q)
    (todo : q.todo ≡ part ∷ outer) (able_is : q.state ≡ able) (n : Named) (i : ℕ) where
  module _ (newer : List Part) (target : Part) (parts : List Part) (all_is : q.todo ≡ newer ++ target ∷ parts) (target_of : is_part_of target i ≡ true)
      (none : some_depends_on_any w.processes (own_instances newer) ≡ false) where
    owns : is_evaluation target.purpose ≡ false
    owns = (target_is target i target_of).0

    at_i : target.instance ≡ i
    at_i = (target_is target i target_of).1

    fine : Fine sc w (target ∷ parts)
    fine = fine_back sc w newer (target ∷ parts) (subst (λ ps. Fine sc w ps) all_is (fine_of sc w ok p q is))

    head : HasHead (newer ++ target ∷ parts)
    head = subst (λ ps. HasHead ps) all_is ((ok.processes p q is).heads (ap lives able_is))

    abbrev j : ℕ
    j = (instance_at w i).block

    abbrev from_here : List Item
    from_here = items_from (block_numbered sc.blocks j) n.name

    abbrev r : Rest
    r = settle_items sc from_here

    known : j < length sc.blocks
    known =
        let st = part_stands_in w ok.skeleton_ok p q target target.instance is (subst (λ ps. IsAmongParts ps target) (sym all_is) (among newer)) (◌⊎◌.inl refl) in
        let x = there sc IsWholeInstance w ok target.instance st in
        subst (λ k. (instance_at w k).block < length sc.blocks) at_i
        (subst (λ (y : Instance). y.block < length sc.blocks) (sym (instance_is sc IsWholeInstance w ok target.instance x.0 x.1)) ((ok.instances target.instance x.0 x.1).known))
      where
        among : (xs : List Part) → IsAmongParts (xs ++ target ∷ parts) target
        among [] = ◌⊎◌.inl refl
        among (x ∷ xs) = ◌⊎◌.inr (among xs)

    in_text : ItemsKeepToText sc j from_here
    in_text = jumps_keep_to_their_text.text sc j (block_numbered sc.blocks j) n.name (texts j known)

    made : all_to_make r ≡ []
    made = jumps_keep_to_their_text.none sc j (block_numbered sc.blocks j) n.name (texts j known)

    holds_none : RestHolds (Held sc w ok target parts fine) (plain_held sc w ok target parts fine) (is_evaluation target.purpose) r
    holds_none = items_hold (Held sc w ok target parts fine) (plain_held sc w ok target parts fine) (is_evaluation target.purpose) sc from_here

    part_then : PartOk sc IsWholeInstance w (record target { rest = r })
    part_then =
        record {
          text = subst (λ k. KeepsToText sc ((instance_at w k).block) r) (sym at_i) (declared_keeps (BlockIsSeen sc j) (IsInner sc j) (IsSeenAround sc j) sc from_here in_text);
          narrow = λ e. false_true (sym owns ∙ e);
          names = λ m k. all_names sc IsWholeInstance w ok (newest_own (target ∷ parts)) (held_in_rest r) holds_none.0 m k;
        }

    no_place_before : GivesPlace target.rest → GivesPlace r
    no_place_before g = absurd (never target.rest (subst (λ b. GivesNoOwn b target.rest) owns (no_own target parts fine.given)) g)
      where
        never : (x : Rest) → GivesNoOwn false x → GivesPlace x → ⊥
        never (rests.giving_place y) f h = false_true f.0
        never (rests.locating y) f h = false_true f
        never _ f h = h

    abbrev there_on : Part
    there_on = record target { rest = r }

    head_then : HasHead (there_on ∷ parts)
    head_then = record { part = there_on; outer = parts; is = refl; acts = first_acts sc from_here; wait = λ x m. behind newer target parts head x m }

    still : (x : Part) → IsAmongParts q.todo x → is_evaluation x.purpose ≡ false → all_to_make x.rest ≡ [] → IsInSkeleton (own_instances newer) x.instance ⊎ IsStillMade (there_on ∷ parts) x
    still x m o d = by (among_either newer (target ∷ parts) x (subst (λ ps. IsAmongParts ps x) all_is m))
      where
        in_target : IsAmongParts (target ∷ parts) x → IsStillMade (there_on ∷ parts) x
        in_target (◌⊎◌.inl e) = record { part = there_on; among = ◌⊎◌.inl refl; owns = owns; instance_is = ap (λ (z : Part). z.instance) e; made = made }
        in_target (◌⊎◌.inr k) = record { part = x; among = ◌⊎◌.inr k; owns = o; instance_is = refl; made = d }

        by : IsAmongParts newer x ⊎ IsAmongParts (target ∷ parts) x → IsInSkeleton (own_instances newer) x.instance ⊎ IsStillMade (there_on ∷ parts) x
        by (◌⊎◌.inl k) = ◌⊎◌.inl (own_among newer x k o)
        by (◌⊎◌.inr k) = ◌⊎◌.inr (in_target k)

    owned : (k : ℕ) → IsOwn (there_on ∷ parts) k → IsOwn q.todo k
    owned k m = subst (λ ps. IsOwn ps k) (sym all_is) (own_back newer (target ∷ parts) k (same m))
      where
        same : IsOwn (there_on ∷ parts) k → IsOwn (target ∷ parts) k
        same l = l

    gone_ok : IsSound sc IsWholeInstance (gone sc w p q part outer (own_instances newer) (block_numbered sc.blocks j) n (target ∷ parts)).world
    gone_ok =
        left_ok sc w ok p q is able_is (own_instances newer) (there_on ∷ parts) q.state (ap own_instances all_is ∙ own_both newer (target ∷ parts))
        (changed_fine sc w ok target parts fine r part_then holds_none no_place_before) (λ l. head_then) (λ t m. subst (λ s. IsAwaited s t) able_is m) owned still none
        (◌⊎◌.inl (ap lives able_is))

  -- ---- by the cut

  abbrev cut : Cut
  cut = cut_at [] (part ∷ outer) i

  by_parts : (parts : List Part) → cut.from ≡ parts → some_depends_on_any w.processes (own_instances cut.newer) ≡ false →
      IsSound sc IsWholeInstance (gone sc w p q part outer (own_instances cut.newer) (block_numbered sc.blocks ((instance_at w i).block)) n parts).world
  by_parts [] e none = ok
  by_parts (target ∷ parts) e none =
      gone_ok cut.newer target parts (todo ∙ (cut_all [] (part ∷ outer) i ∙ ap (λ ps. cut.newer ++ ps) e)) (cut_target [] (part ∷ outer) i target parts e) none

  by_dependants : (b : Bool) → some_depends_on_any w.processes (own_instances cut.newer) ≡ b →
      IsSound sc IsWholeInstance
      (if b then fails sc w p q part outer fault.CriticalBlockExit
      else gone sc w p q part outer (own_instances cut.newer) (block_numbered sc.blocks ((instance_at w i).block)) n cut.from).world
  by_dependants true e = same_ok sc w (fails sc w p q part outer fault.CriticalBlockExit).world ok refl refl
  by_dependants false e = by_parts cut.from refl e

  by_process : (b : Bool) → IsSound sc IsWholeInstance (if b then gone_to sc w p q part outer n i cut else fails sc w p q part outer fault.BadGoTo).world
  by_process true = by_dependants (some_depends_on_any w.processes (own_instances cut.newer)) refl
  by_process false = same_ok sc w (fails sc w p q part outer fault.BadGoTo).world ok refl refl

  pub jump_keeps : IsSound sc IsWholeInstance (goes_to sc w p q part outer n i).world
  jump_keeps = by_process ((instance_at w i).process == p)
