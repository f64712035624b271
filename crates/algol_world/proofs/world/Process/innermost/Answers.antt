use Rattle.algol_world.proofs.Innermosts.{no_innermost, first_part}
use Rattle.algol_world.proofs.world.Process.innermost.Goals as goal

pub returns-in-None : goal.returns-in-None
returns-in-None c = λ sc. no_innermost sc c.args.self.now.todo c.in-None.ensures

pub returns-in-Some : goal.returns-in-Some
returns-in-Some c = λ sc. rw (c.is_evaluation.ensures, c.is_alone.ensures) (first_part sc c.args.self.now.todo c.in-Some.part.now c.in-Some.ensures)
