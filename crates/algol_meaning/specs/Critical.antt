-- The path of a process, and which instances live processes depend on: no instance is left while a live process has it as its critical
-- instance, which is the first instance on its starter's path that it refers to.
use Rattle.std.specs.Prelude.{ℕ, ◌+◌, ◌==◌, ◌&&◌, ◌||◌, not, if◌then◌else◌, Bool, true, false, List, [], ◌∷◌, ◌++◌, Option, Some, None}
use Rattle.algol_meaning.specs.Value.{Reference, Cell, named, reference}
use Rattle.algol_meaning.specs.World.{Instance, Part, Purpose, name_read, name_place, Process, lives, World, process_at}

abbrev pub is_this : Option ℕ → ℕ → Bool
is_this None i = false
is_this (Some c) i = c == i

-- some live process has this instance as its critical instance
abbrev pub some_depends : List Process → ℕ → Bool
some_depends [] i = false
some_depends (q ∷ qs) i = (lives q.state && is_this q.critical i) || some_depends qs i

-- .. one of these
abbrev pub some_depends_on_any : List Process → List ℕ → Bool
some_depends_on_any qs [] = false
some_depends_on_any qs (i ∷ is) = some_depends qs i || some_depends_on_any qs is

-- the evaluation of a name has no instance of its own
abbrev pub is_evaluation : Purpose → Bool
is_evaluation name_read = true
is_evaluation name_place = true
is_evaluation _ = false

-- the instances of a process's stack, the newest first
abbrev pub own_instances : List Part → List ℕ
own_instances [] = []
own_instances (part ∷ parts) = if is_evaluation part.purpose then own_instances parts else part.instance ∷ own_instances parts

-- ---- the path

pub record NumberedInstance : Type 0 where
  pub number : ℕ
  pub of : Instance

-- the newest first
abbrev pub newest_first : ℕ → List Instance → List NumberedInstance → List NumberedInstance
newest_first next [] older = older
newest_first next (x ∷ xs) older = newest_first (next + 1) xs (record { number = next; of = x } ∷ older)

abbrev pub process_is_one_of : List ℕ → ℕ → Bool
process_is_one_of [] i = false
process_is_one_of (j ∷ js) i = (j == i) || process_is_one_of js i

-- The first of these that lies on the path of process p: the path goes down p's stack, which is older the lower it is, and on from
-- p's critical instance in the stack that holds it. A critical instance is older than each instance of a stack that depends on it.
abbrev pub first_on_path : World → List NumberedInstance → ℕ → List ℕ → ℕ
first_on_path w [] p wanted = 0
first_on_path w (x ∷ older) p wanted =
    let on_path = if process_is_one_of wanted x.number then x.number else first_on_path w older x.of.process wanted in
    let off_path = first_on_path w older p wanted in
    if is_on then on_path else off_path
  where
    is_on : Bool
    is_on = ((x.of.process == p) && not x.of.left) || is_this ((process_at w p).critical) x.number

-- what a cell refers to
abbrev pub referred_in : Cell → List ℕ
referred_in (named n) = n.instance ∷ []
referred_in (reference r) = r.instance ∷ []
referred_in _ = []

abbrev pub referred_by : List Cell → List ℕ
referred_by [] = []
referred_by (c ∷ cs) = referred_in c ++ referred_by cs

abbrev pub referred_by_task : Option Reference → List ℕ
referred_by_task None = []
referred_by_task (Some r) = r.instance ∷ []
