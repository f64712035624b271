-- Entries that can be performed at once, since no outcome is lost by it.
use Rattle.std.specs.Prelude.{◌≡◌, ◌≢◌, ◌⊎◌, ℕ, suc, true, List, [], ◌∷◌, Some}
use Rattle.b67_segment.specs.declared.code.Code.{Code}
use Rattle.b67_table.specs.Image.{Image}
use Rattle.b67_table.specs.Ending.{ImageEnd, image_end, may_act}
use Rattle.b67_table.specs.Table.{stack_length}
use Rattle.b67_table.specs.Runs.{RunEntry}
use Rattle.b67_outcomes.specs.Entering.{Stops, IsReached}

-- ---- what a run comes to

-- an end of the image, or that a process with so many words on its stack comes to the limit
pub data Last : Type 0 where
  ended : ImageEnd → Last
  stopped : ℕ → ℕ → Last

-- after so many entries from this image, with this output
pub data LastComes (code : Code) : Image → ℕ → List (List ℕ) → Last → Type 0 where
  at_end : {a : Image} {e : ImageEnd} → image_end a ≡ Some e → LastComes code a 0 a.output (ended e)
  at_limit : {a quiet : Image} {p : ℕ} → may_act a p ≡ true → Stops code p a quiet → LastComes code a 0 a.output (stopped p (stack_length p quiet))
  after : {a b : Image} {p n k : ℕ} {output : List (List ℕ)} {last : Last} → RunEntry code p a n b → LastComes code b k output last → LastComes code a (suc k) output last

-- ---- entries that pass others

module _ (code : Code) (Local : Image → ℕ → Type 0) where
  -- An entry of p, from a to b, and one of q, from a to c: q has its entry after that of p too, and p its own after that of q, which leads to the
  -- same image and is local there; or the entry of q ends the run, with the same output before that of p and after it.
  pub data EntryPassesBy (p q : ℕ) (b c : Image) : Type 0 where
    both : {d : Image} {n m : ℕ} → RunEntry code q b m d → RunEntry code p c n d → Local c p → EntryPassesBy p q b c
    ends : {d : Image} {m : ℕ} {e : ImageEnd} → RunEntry code q b m d → image_end c ≡ Some e → image_end d ≡ Some e → d.output ≡ c.output → EntryPassesBy p q b c

  -- q comes to the stack limit after an entry as before it, with as many words, and nothing was written
  pub record StopsAlike (q : ℕ) (a quiet b : Image) : Type 0 where
    pub may : may_act b q ≡ true
    pub later : Image
    pub stops : Stops code q b later
    pub words : stack_length q later ≡ stack_length q quiet
    pub output : b.output ≡ a.output

  -- So it is with each entry that is local, in each image to which a run leads, and with each other process
  pub record LocalsPass : Type 0 where
    pub entries : (a b c : Image) (p q n m : ℕ) → IsReached code a → Local a p → p ≢ q → RunEntry code p a n b → RunEntry code q a m c → EntryPassesBy p q b c
    pub stops : (a b quiet : Image) (p q n : ℕ) → IsReached code a → Local a p → p ≢ q → RunEntry code p a n b → may_act a q ≡ true → Stops code q a quiet
        → StopsAlike q a quiet b

-- ---- entries that are performed at once

-- the process may act, and no other may
pub record IsOnly (img : Image) (p : ℕ) : Type 0 where
  pub may : may_act img p ≡ true
  pub only : (q : ℕ) → may_act img q ≡ true → q ≡ p

-- so it is, or its next entry is local
abbrev pub CanSettle : (Image → ℕ → Type 0) → Image → ℕ → Type 0
CanSettle Local img p = IsOnly img p ⊎ ((may_act img p ≡ true) × Local img p)

-- one image leads to the other by such entries, of these processes, the last first
pub data ImageSettles (code : Code) (Local : Image → ℕ → Type 0) : Image → List ℕ → Image → Type 0 where
  rest : {a : Image} → ImageSettles code Local a [] a
  settle : {a b c : Image} {p n : ℕ} {settled : List ℕ} → ImageSettles code Local a settled b → CanSettle Local b p → RunEntry code p b n c
      → ImageSettles code Local a (p ∷ settled) c
