-- What comes of an image, and images that settle by local entries.
use Rattle.std.specs.Prelude.{◌≡◌, ℕ, true, List, [], ◌∷◌, Some}
use Rattle.b67_list.specs.Numbered.{numbered}
use Rattle.b67_segment.specs.declared.code.Code.{Code}
use Rattle.b67_table.specs.Ending.{ImageEnd, image_end, may_act}
use Rattle.b67_table.specs.Image.{Image}
use Rattle.b67_table.specs.Outcome.{limit}
use Rattle.b67_table.specs.Runs.{Plains, RunEntry}
use Rattle.b67_table.specs.Table.{table, length_in}
use Rattle.b67_settling.specs.Local.{IsLocal}

-- the process has an entry that may come before all others: no other may act, or it is local
pub data ComesFirst (code : Code) (a : Image) (p : ℕ) : Type 0 where
  alone : ((q : ℕ) → may_act a q ≡ true → q ≡ p) → ComesFirst code a p
  local : IsLocal code a p → ComesFirst code a p

-- such entries lead from the image to another, the newest first
pub data Settles (code : Code) (a : Image) : List ℕ → Image → Type 0 where
  here : Settles code a [] a
  further : {l : List ℕ} {b c : Image} {p n : ℕ} → Settles code a l b → ComesFirst code b p → RunEntry code p b n c → Settles code a (p ∷ l) c

-- ---- results

-- an end, with the output; or a process that comes to the stack limit, with the output and the length of its stack there
pub data Result : Type 0 where
  ended : List (List ℕ) → ImageEnd → Result
  limited : List (List ℕ) → ℕ → ℕ → Result

-- it is the image's own
pub data ResultIsAt (code : Code) (a : Image) : Result → Type 0 where
  ends : {e : ImageEnd} → image_end a ≡ Some e → ResultIsAt code a (ended a.output e)
  stops : {p n : ℕ} {quiet : Image} → may_act a p ≡ true → Plains code p a n quiet → table code quiet p ≡ limit
      → ResultIsAt code a (limited a.output p (length_in (numbered quiet.regs p)))

-- entries of these processes, in this order, lead from the image to one of which it is
pub data ImageComesTo (code : Code) (o : Result) : Image → List ℕ → Type 0 where
  now : {a : Image} → ResultIsAt code a o → ImageComesTo code o a []
  entry : {a b : Image} {p n : ℕ} {s : List ℕ} → RunEntry code p a n b → ImageComesTo code o b s → ImageComesTo code o a (p ∷ s)
