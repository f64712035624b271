-- Where a walk stands that notes what the entries store.
use Rattle.std.proofs.Common.{arith, ◌≡◌, refl, ap, sym, ◌∙◌, subst, ℕ, suc, ◌+◌, ◌-◌, ◌<◌, List, [], ◌∷◌, ◌++◌, length, replicate, get_or, drop, Option, Some, None, append_assoc, length-append}
use Rattle.algol_tree.specs.Scopes.{Scopes}
use Rattle.algol_meaning.specs.World.{World}
use Rattle.algol_meaning.specs.Choice.{choice}
use Rattle.algol_meaning.specs.Run.{after_entry, run_from}
use Rattle.algol_meaning.proofs.Cited.{after_is, entry_is, no_world, run_none, stays_none}
use Rattle.algol_seen.specs.Accesses.{next_access}
use Rattle.algol_seen.specs.Seen.{access, ProcessIsSeen}
use Rattle.algol_seen.specs.declared.seen.Seen.{Seen}
use Rattle.algol_lean.specs.Beside.{SeenBeside}
use Rattle.b67_race.specs.Entries.{Access, Done}
use Rattle.b67_schedule.specs.declared.Run.{Run}
use Rattle.b67_schedule.specs.Schedules.{entries}
use Rattle.b67_schedule.proofs.Cited.{entries_drop}
use Rattle.b67_commands.specs.declared.command.Command.{Command}
use Rattle.b67_commands.specs.declared.noting.Note.{Note}
use Rattle.b67_commands.specs.Positions.{Stored}
use Rattle.b67_commands.specs.Noting.{looked_for_by, note_added, notes_of}
use Rattle.b67_storing.specs.Stores.{stored_name, stored_from}
use Rattle.b67_storing.specs.Walking.{StandsNoted}
use Rattle.b67_storing.proofs.Noting.{notes_more}

run_append : (sc : Scopes) (a b : List ℕ) (o : Option World) → run_from sc (a ++ b) o ≡ run_from sc b (run_from sc a o)
run_append sc [] b None = refl
run_append sc [] b (Some w) = refl
run_append sc (p ∷ a) b None = sym (run_none sc b)
run_append sc (p ∷ a) b (Some w) = run_append sc a b (after_entry sc w p)

stored_more : (sc : Scopes) (h : List ℕ) (p : ℕ) (w v : World) → run_from sc h (Some w) ≡ Some v
    → stored_from sc w (h ++ p ∷ []) ≡ stored_from sc w h ++ stored_name (next_access sc v p) ∷ []
stored_more sc [] p w v e = let same : w ≡ v = value e in ap (λ (u : World). stored_name (next_access sc u p) ∷ []) same
  where
    value : Some w ≡ Some v → w ≡ v
    value f = cc
stored_more sc (q ∷ h) p w v e =
    ap (λ (xs : Stored). stored_name (next_access sc w q) ∷ xs) (stored_more sc h p ((choice sc w q).world) v (after_is sc w q h v e))

pub length_stored : (sc : Scopes) (w : World) (h : List ℕ) → length (stored_from sc w h) ≡ length h
length_stored sc w [] = refl
length_stored sc w (p ∷ h) = ap suc (length_stored sc ((choice sc w p).world) h)

module _
    (sc : Scopes) (commands : List Command) (w : World) (given : List ℕ) (now after : World) (notes more : List Note) (before p : ℕ) (left : List ℕ)
    (s : StandsNoted sc commands w given now notes before (p ∷ left)) where
  -- an entry that goes is noted
  pub goes_more : (seen : Seen) → SeenBeside sc s.world p after (Some seen) → more ≡ notes ++ note_added (before + 1) (looked_for_by commands (stored_name (access seen.access))) []
      → StandsNoted sc commands w given after more (before + 1) left
  goes_more seen b is_noted =
      record {
        done = s.done ++ p ∷ [];
        split = s.split ∙ sym (append_assoc s.done (p ∷ []) left);
        world = b.after;
        legal = run_append sc s.done (p ∷ []) (Some w) ∙ ap (λ (o : Option World). run_from sc (p ∷ []) o) s.legal
            ∙ last (after_entry sc s.world p) (entry_is sc s.world b.after p is.may is.world);
        beside = b.beside;
        noted =
            is_noted
            ∙ ap (λ (a : Option Access). notes ++ note_added (before + 1) (looked_for_by commands (stored_name a)) []) accessed
            ∙ ap (λ (ns : List Note). ns ++ note_added (before + 1) (looked_for_by commands (stored_name (next_access sc s.world p))) []) s.noted
            ∙ sym (notes_more commands (stored_from sc w s.done) (stored_name (next_access sc s.world p)) before (s.counts ∙ sym (length_stored sc w s.done)))
            ∙ ap (λ (xs : Stored). notes_of commands xs) (sym (stored_more sc s.done p w s.world s.legal));
        counts = omega (arith, s.counts, length-append s.done (p ∷ []));
      }
    where
      is : ProcessIsSeen sc s.world p b.after seen
      is = b.step

      accessed : access seen.access ≡ next_access sc s.world p
      accessed = ap (λ (d : Done). d.access) is.done

      last : (o : Option World) → o ≡ Some b.after → run_from sc [] o ≡ Some b.after
      last None q = q
      last (Some x) q = q

  -- in a legal schedule each may go
  pub goes_none : (end : World) → run_from sc given (Some w) ≡ Some end → SeenBeside sc s.world p after None → StandsNoted sc commands w given after more (before + 1) left
  goes_none end legal b =
      absurd (no_world
      (sym (ap (λ (h : List ℕ). run_from sc h (Some w)) s.split
      ∙ run_append sc s.done (p ∷ left) (Some w)
      ∙ ap (λ (o : Option World). run_from sc (p ∷ left) o) s.legal
      ∙ ap (λ (o : Option World). run_from sc left o) (stays_none sc s.world p b.step.0)
      ∙ run_none sc left) ∙ legal))

-- ---- runs

pub split_one : (count made p : ℕ) (left : List ℕ) → made < count → replicate (count - made) p ++ left ≡ p ∷ (replicate (count - (made + 1)) p ++ left)
split_one count made p left l = let r : count - made ≡ suc (count - (made + 1)) = omega (arith, l) in ap (λ (k : ℕ). replicate k p ++ left) r

module _
    (sc sc' : Scopes) (commands : List Command) (w end : World) (given : List ℕ) (now after : World) (notes more : List Note) (before made here count p : ℕ) (left : List ℕ) (same : sc' ≡ sc)
    (is : here ≡ before + made) (less : made < count) (legal : run_from sc given (Some w) ≡ Some end) (s : StandsNoted sc commands w given now notes (before + made) (replicate (count - made) p ++ left))
    (goes : (w end : World) (given rest : List ℕ) → run_from sc' given (Some w) ≡ Some end → StandsNoted sc' commands w given now notes here (p ∷ rest)
    → StandsNoted sc' commands w given after more (here + 1) rest) where
  pub one_goes : StandsNoted sc commands w given after more (before + (made + 1)) (replicate (count - (made + 1)) p ++ left)
  one_goes =
      let one : here + 1 ≡ before + (made + 1) = omega (arith, is) in
      subst (λ (n : ℕ). StandsNoted sc commands w given after more n (replicate (count - (made + 1)) p ++ left)) one
      (subst (λ (k : Scopes). StandsNoted k commands w given after more (here + 1) (replicate (count - (made + 1)) p ++ left)) same
      (goes w end given (replicate (count - (made + 1)) p ++ left)
      (subst (λ (k : Scopes). run_from k given (Some w) ≡ Some end) (sym same) legal)
      (subst (λ (k : Scopes). StandsNoted k commands w given now notes here (p ∷ (replicate (count - (made + 1)) p ++ left))) (sym same)
      (subst (λ (n : ℕ). StandsNoted sc commands w given now notes n (p ∷ (replicate (count - (made + 1)) p ++ left))) (sym is)
      (subst (λ (xs : List ℕ). StandsNoted sc commands w given now notes (before + made) xs) (split_one count made p left less) s)))))

module _
    (sc sc' : Scopes) (commands : List Command) (w end : World) (given : List ℕ) (now after : World) (notes more : List Note) (before next i : ℕ) (runs : List Run) (d : Run) (same : sc' ≡ sc)
    (is : next ≡ before + (get_or runs i d).times) (less : i < length runs) (legal : run_from sc given (Some w) ≡ Some end) (s : StandsNoted sc commands w given now notes before (entries (drop i runs)))
    (goes : (w end : World) (given rest : List ℕ) → run_from sc' given (Some w) ≡ Some end
    → StandsNoted sc' commands w given now notes before (replicate ((get_or runs i d).times) ((get_or runs i d).process) ++ rest)
    → StandsNoted sc' commands w given after more (before + (get_or runs i d).times) rest) where
  pub run_goes : StandsNoted sc commands w given after more next (entries (drop (i + 1) runs))
  run_goes =
      subst (λ (n : ℕ). StandsNoted sc commands w given after more n (entries (drop (i + 1) runs))) (sym is)
      (subst (λ (k : Scopes). StandsNoted k commands w given after more (before + (get_or runs i d).times) (entries (drop (i + 1) runs))) same
      (goes w end given (entries (drop (i + 1) runs))
      (subst (λ (k : Scopes). run_from k given (Some w) ≡ Some end) (sym same) legal)
      (subst (λ (k : Scopes). StandsNoted k commands w given now notes before (replicate ((get_or runs i d).times) ((get_or runs i d).process) ++ entries (drop (i + 1) runs))) (sym same)
      (subst (λ (xs : List ℕ). StandsNoted sc commands w given now notes before xs) (entries_drop runs i d less) s))))

-- ---- the ends of loops

pub none_made : (sc : Scopes) (commands : List Command) (w : World) (given : List ℕ) (now : World) (notes : List Note) (before count p : ℕ) (left : List ℕ)
    → StandsNoted sc commands w given now notes before (replicate count p ++ left) → StandsNoted sc commands w given now notes (before + 0) (replicate (count - 0) p ++ left)
none_made sc commands w given now notes before count p left s =
    let here : before ≡ before + 0 = omega arith in
    let all : count ≡ count - 0 = omega arith in
    subst (λ (n : ℕ). StandsNoted sc commands w given now notes n (replicate (count - 0) p ++ left)) here
    (subst (λ (n : ℕ). StandsNoted sc commands w given now notes before (replicate n p ++ left)) all s)

pub all_made : (sc : Scopes) (commands : List Command) (w : World) (given : List ℕ) (now : World) (notes : List Note) (before made count p : ℕ) (left : List ℕ) → made ≡ count
    → StandsNoted sc commands w given now notes (before + made) (replicate (count - made) p ++ left) → StandsNoted sc commands w given now notes (before + count) left
all_made sc commands w given now notes before made count p left e s =
    let none : count - made ≡ 0 = omega (arith, e) in
    subst (λ (n : ℕ). StandsNoted sc commands w given now notes (before + n) left) e
    (subst (λ (n : ℕ). StandsNoted sc commands w given now notes (before + made) (replicate n p ++ left)) none s)
