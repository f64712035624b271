-- Statements of which the beginning is read.
use Rattle.std.specs.Prelude.{◌≡◌, ◌≤◌, ℕ, List, [], ◌∷◌, ◌++◌, length}
use Rattle.algol_tree.specs.declared.token.Spot.{Spot}
use Rattle.algol_tree.specs.declared.token.Token.{Token}
use Rattle.algol_tree.specs.declared.token.Reserved.TheVariants as reserved
use Rattle.algol_tree.specs.declared.token.Symbol.TheVariants as symbols
use Rattle.algol_tree.specs.Plain as trees
use Rattle.algol_tree.specs.Plain.{PStmt}
use Rattle.algol_tree.specs.Image as image
use Rattle.algol_tree.specs.Ended.{EndsOnce}
use Rattle.algol_tree.specs.Reading.{read}
use Rattle.algol_tree.specs.Found.{IsRest, Completes}
use Rattle.algol_tree.specs.Due.{Value, one, name_is, stmt, Make, Due, make, word, symbol, named, whole, actuals_part, task_part, to_part, statement, else_part}
use Rattle.algol_tree.specs.DueStmt.{labelled, looping, so_often, counting, compound, repeating, choosing, going, processing, write_due, body_in, stmts_in}
use Rattle.algol_part.specs.Phrases.{acted}
use Rattle.algol_part.specs.declared.start.Opener.{Opener}
use Rattle.algol_part.specs.declared.start.Opener.TheVariants as openers
use Rattle.algol_part.specs.declared.start.Verb.{Verb}
use Rattle.algol_part.specs.declared.start.Verb.TheVariants as verbs
use Rattle.algol_part.specs.declared.opening.Lead.{Lead}
use Rattle.algol_part.specs.declared.opening.Lead.TheVariants as leads
use Rattle.algol_part.specs.declared.opening.Opening.{Opening}
use Rattle.algol_part.specs.declared.opening.Opening.TheVariants as openings
use Rattle.algol_part.specs.declared.opening.Beginning.{Beginning}
use Rattle.algol_part.specs.declared.opening.Beginning.TheVariants as beginnings

-- what is due after FOR, where i levels are open
abbrev pub behind_for : ℕ → List Due
behind_for i = named ∷ symbol symbols.Becomes ∷ whole 0 ∷ word reserved.Step ∷ whole 0 ∷ word reserved.Until ∷ whole 0 ∷ word reserved.Do ∷ statement i
    ∷ make counting ∷ []

-- what is due after such a word at that place
abbrev pub behind_word : Opener → Spot → ℕ → List Due
behind_word openers.Begin spot i = body_in i (compound spot)
behind_word openers.If spot i = whole 0 ∷ word reserved.Then ∷ statement i ∷ else_part i ∷ []
behind_word openers.While spot i = whole 0 ∷ word reserved.Do ∷ statement i ∷ make looping ∷ []
behind_word openers.Do spot i = statement i ∷ word reserved.Until ∷ whole 0 ∷ make repeating ∷ []
behind_word openers.For spot i = behind_for i
behind_word openers.Thru spot i = whole 0 ∷ word reserved.Do ∷ statement i ∷ make so_often ∷ []
behind_word openers.Case spot i = whole 0 ∷ word reserved.Of ∷ word reserved.Begin ∷ stmts_in i choosing

abbrev pub behind_verb : Verb → List Due
behind_verb verbs.Go = to_part ∷ named ∷ make going ∷ []
behind_verb verbs.Process = named ∷ actuals_part ∷ task_part ∷ make processing ∷ []
behind_verb verbs.Write = write_due
behind_verb (verbs.Act act) = acted act

-- what the lead of a statement makes of it, and of which values
abbrev pub led : Lead → PStmt → PStmt
led (leads.Label n) s = trees.label n s
led (leads.While c) s = trees.while (image.expr c) s
led (leads.Thru c) s = trees.thru (image.expr c) s
led (leads.For n from step limit) s = trees.for n (image.expr from) (image.expr step) (image.expr limit) s

abbrev pub leading : Lead → Make
leading (leads.Label n) = labelled n
leading (leads.While c) = looping
leading (leads.Thru c) = so_often
leading (leads.For n from step limit) = counting

abbrev pub led_by : Lead → List Value
led_by (leads.Label n) = []
led_by (leads.While c) = one (image.expr c) ∷ []
led_by (leads.Thru c) = one (image.expr c) ∷ []
led_by (leads.For n from step limit) = one (image.expr limit) ∷ one (image.expr step) ∷ one (image.expr from) ∷ name_is n ∷ []

-- what is still due of a statement that is opened so, where i levels are open, and the values that are made of it so far
abbrev pub still_due : Opening → ℕ → List Due
still_due (openings.Led lead) i = statement i ∷ make (leading lead) ∷ []
still_due (openings.Begin spot) i = body_in i (compound spot)
still_due (openings.If c) i = statement i ∷ else_part i ∷ []
still_due openings.Do i = statement i ∷ word reserved.Until ∷ whole 0 ∷ make repeating ∷ []
still_due (openings.Case c) i = stmts_in i choosing

abbrev pub so_far : Opening → List Value
so_far (openings.Led lead) = led_by lead
so_far (openings.Begin spot) = []
so_far (openings.If c) = one (image.expr c) ∷ []
so_far openings.Do = []
so_far (openings.Case c) = one (image.expr c) ∷ []

-- From these tokens, with that due and the values us made, the reader comes to `rest`, where ds is still due and the values ws are made.
pub record ReaderComesTo (from : List Due) (us : List Value) (tokens : List Token) (ds : List Due) (ws : List Value) (rest : List Token) : Type 0 where
  pub run : (due : List Due) (vs : List Value) → read 0 tokens (from ++ due) (us ++ vs) ≡ read 0 rest (ds ++ due) (ws ++ vs)
  pub ended : EndsOnce rest
  pub no_longer : length rest ≤ length tokens

-- The tokens open a statement so, with i levels after it, and `rest` is what follows.
pub record StatementOpens (s : Due) (tokens : List Token) (opening : Opening) (i : ℕ) (rest : List Token) : Type 0 where
  pub run : (due : List Due) (vs : List Value) → read 0 tokens (s ∷ due) vs ≡ read 0 rest (still_due opening i ++ due) (so_far opening ++ vs)
  pub behind : IsRest tokens rest

-- They begin one so: all of it is read, or they open it.
abbrev pub PartBegins : Due → List Token → Beginning → List Token → Type 0
PartBegins s tokens (beginnings.Whole x) rest = Completes s tokens (stmt (image.stmt x)) rest
PartBegins s tokens (beginnings.Open opening i) rest = StatementOpens s tokens opening i rest
