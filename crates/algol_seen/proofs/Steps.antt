-- What a step of the code tells is what the meaning's next action does.
use Rattle.std.proofs.Common.{◌≡◌, refl, sym, ap, ◌∙◌, ℕ, Bool, true, false, List, Option, Some, None}
use Rattle.algol_tree.specs.Scopes.{Scopes}
use Rattle.algol_meaning.specs.World.{World, process_at}
use Rattle.algol_meaning.specs.Choice.{Choice, choice}
use Rattle.algol_meaning.specs.Run.{End, end_of, may_go}
use Rattle.algol_run.specs.Stepping.{RunStep, ended, not_able, went, chosen_by, step_by, step_of, told_step, is_kept}
use Rattle.algol_run.specs.declared.stepping.Stepped.{Stepped}
use Rattle.algol_run.specs.declared.stepping.Stepped.TheVariants as stepped
use Rattle.b67_race.specs.Entries.{Signal, Access, Done}
use Rattle.b67_list.proofs.Numbers.{absurd_truth}
use Rattle.algol_seen.specs.Accesses.{access_in, acting_in, signal_after, next_access, next_signal, done_of}
use Rattle.algol_seen.specs.Seen as seen
use Rattle.algol_seen.specs.Seen.{told_done, SeenStep, ProcessIsSeen}
use Rattle.algol_seen.specs.declared.seen.Seen.{Seen}

-- ---- a step that goes, and one that does not

abbrev pub is_step : RunStep → Bool
is_step not_able = false
is_step (went c) = true
is_step (ended c) = true

abbrev pub has_ended : RunStep → Bool
has_ended (ended c) = true
has_ended s = false

abbrev pub chosen_in : Choice → RunStep → Choice
chosen_in d not_able = d
chosen_in d (went c) = c
chosen_in d (ended c) = c

chosen_goes : (o : Option End) (c : Choice) → is_step (chosen_by o c) ≡ true
chosen_goes None c = refl
chosen_goes (Some e) c = refl

chosen_ends : (o : Option End) (c : Choice) → has_ended (chosen_by o c) ≡ is_kept o
chosen_ends None c = refl
chosen_ends (Some e) c = refl

chosen_is : (d : Choice) (o : Option End) (c : Choice) → chosen_in d (chosen_by o c) ≡ c
chosen_is d None c = refl
chosen_is d (Some e) c = refl

-- a process that may not go stays, and the world with it
pub stays_so : (sc : Scopes) (v after : World) (p : ℕ) (s : Stepped) → told_step s after ≡ step_of sc v p → s ≡ stepped.NotAble → after ≡ v → SeenStep sc v p after None
stays_so sc v after p s e is same = (by (may_go v p) (sym (ap (λ (t : Stepped). is_step (told_step t after)) is) ∙ ap is_step e), same)
  where
    by : (may : Bool) → false ≡ is_step (step_by may (choice sc v p)) → may ≡ false
    by false f = refl
    by true f = sym (f ∙ chosen_goes (end_of (choice sc v p).world) (choice sc v p))

-- ---- what is told

abbrev as_done : ℕ → Option Access → Signal → List ℕ → Option ℕ → Done
as_done p a s r x = record { process = p; access = a; signal = s; released = r; started = x }

same_done : (p : ℕ) (a b : Option Access) (s t : Signal) (r q : List ℕ) (x y : Option ℕ) → a ≡ b → s ≡ t → r ≡ q → x ≡ y → as_done p a s r x ≡ as_done p b t q y
same_done p a b s t r q x y ea es er ex i = record { process = p; access = ea i; signal = es i; released = er i; started = ex i }

module _
    (sc : Scopes) (v : World) (p : ℕ) (s : Seen) (x : Choice) (letter : s.letter ≡ x.action)
    (access : seen.access s.access ≡ access_in sc v (process_at v p).todo)
    (signal : seen.signal s.signal ≡ signal_after x.action (process_at v p).task (acting_in sc v (process_at v p).woken (process_at v p).todo))
    (released : s.released ≡ x.released) (started : s.started ≡ x.started) where
  told_so : x ≡ choice sc v p → told_done p s ≡ done_of sc v p
  unfolding next_access next_signal
  told_so same =
      same_done p (seen.access s.access) (next_access sc v p) (seen.signal s.signal) (next_signal sc v p) s.released (choice sc v p).released
      s.started (choice sc v p).started
      access
      (signal
      ∙ ap (λ (c : Choice). signal_after c.action (process_at v p).task (acting_in sc v (process_at v p).woken (process_at v p).todo)) same)
      (released ∙ ap (λ (c : Choice). c.released) same)
      (started ∙ ap (λ (c : Choice). c.started) same)

  -- a step that goes on, or after which the world has an end
  pub goes_so : (t : RunStep) → t ≡ step_of sc v p → is_step t ≡ true → chosen_in x t ≡ x → s.ended ≡ has_ended t → ProcessIsSeen sc v p x.world s
  goes_so t e some is end = by (may_go v p) refl e
    where
      by : (may : Bool) → may_go v p ≡ may → t ≡ step_by may (choice sc v p) → ProcessIsSeen sc v p x.world s
      by false m f = absurd_truth (sym some ∙ ap is_step f)
      by true m f =
          record {
            may = m;
            world = ap (λ (c : Choice). c.world) same;
            done = told_so same;
            letter = letter ∙ ap (λ (c : Choice). c.action) same;
            ended = kept;
          }
        where
          same : x ≡ choice sc v p
          same = sym is ∙ ap (chosen_in x) f ∙ chosen_is x (end_of (choice sc v p).world) (choice sc v p)

          kept : s.ended ≡ is_kept (end_of x.world)
          kept =
              end ∙ ap has_ended f ∙ chosen_ends (end_of (choice sc v p).world) (choice sc v p)
              ∙ ap (λ (c : Choice). is_kept (end_of c.world)) (sym same)
