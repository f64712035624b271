-- What is given has one answer.
use Rattle.std.proofs.Common.{◌≡◌, ap, sym, ◌∙◌, ℕ, List, take}
use Rattle.algol_tree.specs.Plain.{PProgram}
use Rattle.algol_tree.specs.Scopes.{scopes_of}
use Rattle.algol_meaning.specs.World.{World}
use Rattle.b67_judge.proofs.Once.{illegal_no_run, illegal_once, same_world}
use Rattle.b67_dump.specs.declared.Answer.{Answer}
use Rattle.b67_dump.specs.declared.Answer.TheVariants.{Shown, Illegal}
use Rattle.b67_dump.specs.Snapshots.{snapshot}
use Rattle.b67_dump.specs.Dumps.{ShownAfter}
use Rattle.b67_dump.specs.Laws.{DumpsHaveOneAnswer}

once : (tree : PProgram) (done : List ℕ) (a b : Answer) → ShownAfter tree done a → ShownAfter tree done b → a ≡ b
once tree done (Shown lines) (Shown others) a b =
    ap (λ (ls : List (List ℕ)). Shown ls)
    (a.shows ∙ ap (λ (w : World). snapshot (scopes_of tree) w) (same_world tree done a.world b.world a.legal b.legal) ∙ sym b.shows)
once tree done (Shown lines) (Illegal j) a b = absurd (illegal_no_run tree done j a.world b a.legal)
once tree done (Illegal k) (Shown others) a b = absurd (illegal_no_run tree done k b.world a b.legal)
once tree done (Illegal k) (Illegal j) a b = ap (λ (n : ℕ). Illegal n) (illegal_once tree done k j a b)

pub one_answer : DumpsHaveOneAnswer
one_answer tree given most a b left right = once tree (take most given) a b left right
