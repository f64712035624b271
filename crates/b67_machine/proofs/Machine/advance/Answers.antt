use Rattle.std.specs.Prelude.{IfSome}
use Rattle.std.proofs.Common.{List, [], Option, Some, None}
use Rattle.b67_deeds.specs.declared.Letter.{Letter}
use Rattle.b67_machine.specs.declared.replay.Replayed.{Replayed}
use Rattle.b67_machine.specs.Replaying.{LettersAgree, NoneDiffers}
use Rattle.b67_machine.proofs.Machine.advance.Goals as goal

none_differs : (before noted : List Letter) (r : Option Replayed) → LettersAgree None before noted r → IfSome r NoneDiffers
none_differs before noted None h = tt
none_differs before noted (Some answer) h = h []

pub returns-clause-agrees : goal.returns-clause-agrees
returns-clause-agrees g c = none_differs c.args.done.now.letters c.replay_run.new.done.letters c.replay_run.result c.replay_run.ensures.letters
