-- The world and the machine stand after the same entries.
use Rattle.std.proofs.Common.{arith, ◌≡◌, refl, ap, sym, ◌∙◌, subst, ℕ, ◌+◌, ◌≤◌, List, [], ◌++◌, length, length-append, replicate, Some, inr}
use Rattle.std.specs.Prelude.{codes}
use Rattle.std.proofs.lemmas.List.{length-replicate}
use Rattle.algol_tree.specs.Plain.{PProgram}
use Rattle.algol_tree.specs.Scopes.{Scopes, scopes_of}
use Rattle.algol_meaning.specs.World.{World}
use Rattle.algol_meaning.specs.Run.{run, run_from, start}
use Rattle.algol_lean.specs.Lean.{Lean}
use Rattle.b67_segment.specs.declared.code.Code.{Code}
use Rattle.b67_table.specs.Image.{Image}
use Rattle.b67_table.specs.Runs.{Tails}
use Rattle.b67_table.specs.Sound.{Sound}
use Rattle.b67_schedule.specs.Schedules.{entries, ScheduleModel}
use Rattle.algol_lean.specs.Beside.{RunsBeside}
use Rattle.algol_lean.proofs.InUse.{run_is}
use Rattle.b67_deeds.specs.declared.Letter.{Letter}
use Rattle.b67_machine.specs.Beginning.{IsFresh}
use Rattle.b67_machine.proofs.Finishing.{begins}
use Rattle.b67_stops.specs.Answering.{AreAnswers}
use Rattle.b67_machine.specs.Kept.{MachineModel}
use Rattle.b67_machine.specs.Replaying.{Between}
use Rattle.b67_fronts.specs.Fronts.{GoesThrough}
use Rattle.b67_report.specs.Texts.{lines_text}
use Rattle.b67_dump.proofs.Lean.{snapshots_lean}
use Rattle.b67_commands.specs.declared.command.Command.{Command}
use Rattle.b67_commands.specs.declared.command.Command.TheVariants.{Go, Store, Show, Stack, Regs}
use Rattle.b67_console.specs.Telling.{RunsWhole, answer_text}
use Rattle.b67_console.specs.Moments.{most_operators, WorldAfter, StandsAt, MayBeMade, CommandIsTold}

-- what is told of the same source and code is the same
pub told_alike : (sc other : Scopes) (code its : Code) → other ≡ sc → its ≡ code → (h : List ℕ) (c : Command) (t : List ℕ) → CommandIsTold sc code h c t → CommandIsTold other its h c t
told_alike sc other code its same is h c t x =
    subst (λ (k : Scopes). CommandIsTold k its h c t) (sym same) (subst (λ (k : Code). CommandIsTold sc k h c t) (sym is) x)

pub may_alike : (sc other : Scopes) (code its : Code) (room more : ℕ) → other ≡ sc → its ≡ code → room ≤ more → (h : List ℕ) → MayBeMade sc code room h → MayBeMade other its more h
may_alike sc other code its room more same is le h x =
    record {
      through = subst (λ (k : Code). GoesThrough k h most_operators) (sym is) x.through;
      world = x.world;
      legal = subst (λ (k : Scopes). run_from k h (Some (start k)) ≡ Some x.world) (sym same) x.legal;
      fits = omega (arith, x.fits, le);
    }

-- so many entries more have room
pub has_room : (sc : Scopes) (code : Code) (room p times : ℕ) (done more : List ℕ) → MayBeMade sc code room (done ++ (replicate times p ++ more)) → length done + times ≤ room
has_room sc code room p times done more x =
    omega (arith, x.fits, length-append done (replicate times p ++ more), length-append (replicate times p) more, length-replicate times p)

-- both went on
pub stands_on :
    (sc other : Scopes) (now then : World) (m new : MachineModel) (done later : ScheduleModel) (spent then_spent p times : ℕ) → other ≡ sc → StandsAt sc now m done spent
    → WorldAfter sc (entries done.runs ++ replicate times p) then → entries later.runs ≡ entries done.runs ++ replicate times p
    → Between m.code (entries later.runs) later.letters then_spent new → then_spent ≤ most_operators → StandsAt other then new later then_spent
stands_on sc other now then m new done later spent then_spent p times same s w more b le =
    record {
      world = subst (λ (k : Scopes). WorldAfter k (entries later.runs) then) (sym same) (subst (λ (xs : List ℕ). WorldAfter sc xs then) (sym more) w);
      sound = subst Sound (sym b.same) s.sound;
      between = subst (λ (k : Code). Between k (entries later.runs) later.letters then_spent new) (sym b.same) b;
      within = le;
    }

-- instances that are left are not shown
answer_lean : (sc : Scopes) (k : ℕ) (w v : World) (img : Image) → Lean w v → (c : Command) → answer_text sc k v img c ≡ answer_text sc k w img c
answer_lean sc k w v img l (Go n) = refl
answer_lean sc k w v img l (Store name) = refl
answer_lean sc k w v img l Show = ap (λ (lines : List (List ℕ)). lines_text (codes "DUMP ") lines) (snapshots_lean sc w v l)
answer_lean sc k w v img l (Stack p) = refl
answer_lean sc k w v img l (Regs p) = refl

-- what is told where both stand
pub told_here :
    (sc : Scopes) (now : World) (m : MachineModel) (done : ScheduleModel) (spent k : ℕ) (command : Command) (text front all : List ℕ) → (s : StandsAt sc now m done spent)
    → k ≡ length (entries done.runs) → text ≡ all → all ≡ front ++ answer_text sc k now m.image command → front ≡ [] → CommandIsTold sc m.code (entries done.runs) command text
told_here sc now m done spent k command text front all s e whole more none =
    record {
      world = s.world.world;
      legal = s.world.legal;
      image = m.image;
      ran = record { history = s.between.history; counts = s.between.numbers; before_tails = m.image; order = s.between.order; runs = s.between.runs; after = Tails.none };
      is =
          whole ∙ more ∙ ap (λ (xs : List ℕ). xs ++ answer_text sc k now m.image command) none ∙ answer_lean sc k s.world.world now m.image s.world.beside.lean command ∙ ap (λ (n : ℕ). answer_text sc n s.world.world m.image command) e;
    }

-- ---- before the first entry

pub goes_through : (code : Code) (h : List ℕ) → RunsWhole code h → GoesThrough code h most_operators
goes_through code h w =
    let le = w.few in
    record { image = w.image; run = w.run; within = omega (arith, le); leaves = inr (omega (arith, le)) }

pub stands_first :
    (sc root : Scopes) (now : World) (m : MachineModel) (done : ScheduleModel) → sc ≡ root → RunsBeside sc (start root) now → done.runs ≡ [] → done.letters ≡ [] → Sound m.code → IsFresh m
    → StandsAt sc now m done 0
stands_first sc root now m done same beside no_runs no_letters sound fresh =
    record {
      world = subst (λ (xs : List ℕ). WorldAfter sc xs now) (sym none)
          (record { world = start sc; legal = refl; beside = subst (λ (k : Scopes). RunsBeside sc (start k) now) (sym same) beside });
      sound = sound;
      between =
          subst (λ (xs : List ℕ). Between m.code xs done.letters 0 m) (sym none)
          (subst (λ (ls : List Letter). Between m.code [] ls 0 m) (sym no_letters) (begins m fresh));
      within = omega arith;
    }
  where
    none : entries done.runs ≡ []
    none = ap entries no_runs

pub may_first :
    (tree : PProgram) (sc : Scopes) (code : Code) (room : ℕ) (h given : List ℕ) (after : World) → sc ≡ scopes_of tree → h ≡ given → GoesThrough code given most_operators
    → run tree given ≡ Some after → room ≡ length given → MayBeMade sc code room h
may_first tree sc code room h given after same is through legal fits =
    record {
      through = subst (λ (xs : List ℕ). GoesThrough code xs most_operators) (sym is) through;
      world = after;
      legal =
          ap (λ (k : Scopes). run_from k h (Some (start k))) same ∙ ap (λ (xs : List ℕ). run_from (scopes_of tree) xs (Some (start (scopes_of tree)))) is
          ∙ sym (run_is tree given) ∙ legal;
      fits = omega (arith, fits, ap length is);
    }

-- all is told of the source
pub are_told :
    (tree : PProgram) (sc : Scopes) (code : Code) (h given : List ℕ) (commands : List Command) (at : List ℕ) (texts : List (List ℕ)) → sc ≡ scopes_of tree → h ≡ given
    → AreAnswers (CommandIsTold sc code) h commands at texts → AreAnswers (CommandIsTold (scopes_of tree) code) given commands at texts
are_told tree sc code h given commands at texts same is a =
    subst (λ (xs : List ℕ). AreAnswers (CommandIsTold (scopes_of tree) code) xs commands at texts) is
    (subst (λ (k : Scopes). AreAnswers (CommandIsTold k code) h commands at texts) same a)
