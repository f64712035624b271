use Rattle.algol_tree.specs.Due as due
use Rattle.algol_tree.specs.Image as image
use Rattle.algol_part.proofs.Openings.{brings_as, refuses_verb}
use Rattle.algol_part.proofs.opening.read_simple.Goals as goal

pub returns-in-Go-clause-found : goal.returns-in-Go-clause-found
returns-in-Go-clause-found c = brings_as c.read_go.result (λ x. due.stmt (image.stmt x.0)) (λ x. x.1.now) c.in-Go.is _ c.read_go.ensures.found

pub returns-in-Go-clause-refused : goal.returns-in-Go-clause-refused
returns-in-Go-clause-refused c = refuses_verb c.read_go.result c.in-Go.is _ c.read_go.ensures.refused

pub returns-in-Process-clause-found : goal.returns-in-Process-clause-found
returns-in-Process-clause-found c = brings_as c.read_process.result (λ x. due.stmt (image.stmt x.0)) (λ x. x.1.now) c.in-Process.is _ c.read_process.ensures.found

pub returns-in-Process-clause-refused : goal.returns-in-Process-clause-refused
returns-in-Process-clause-refused c = refuses_verb c.read_process.result c.in-Process.is _ c.read_process.ensures.refused

pub returns-in-Write-clause-found : goal.returns-in-Write-clause-found
returns-in-Write-clause-found c = brings_as c.read_write.result (λ x. due.stmt (image.stmt x.0)) (λ x. x.1.now) c.in-Write.is _ c.read_write.ensures.found

pub returns-in-Write-clause-refused : goal.returns-in-Write-clause-refused
returns-in-Write-clause-refused c = refuses_verb c.read_write.result c.in-Write.is _ c.read_write.ensures.refused

pub returns-in-Act-clause-found : goal.returns-in-Act-clause-found
returns-in-Act-clause-found c = brings_as c.read_act.result (λ x. due.stmt (image.stmt x.0)) (λ x. x.1.now) c.in-Act.is _ c.read_act.ensures.found

pub returns-in-Act-clause-refused : goal.returns-in-Act-clause-refused
returns-in-Act-clause-refused c = refuses_verb c.read_act.result c.in-Act.is _ c.read_act.ensures.refused
