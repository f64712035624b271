-- What operators that load and store perform, step by step.
use Rattle.std.specs.Result.{IsErrAnd}
use Rattle.std.specs.Prelude.{if◌then◌else◌, ◌==◌}
use Rattle.std.proofs.Common.{◌≡◌, refl, sym, ap, ℕ, Bool, true, Result, Ok, Err}
use Rattle.b67_word.specs.Word.{Word}
use Rattle.b67_table.specs.Arrays.{as_indexed}
use Rattle.b67_table.specs.declared.InterruptKind.{InterruptKind}
use Rattle.b67_table.specs.Look.{found, look_seen}
use Rattle.b67_table.specs.Program.{Program, see, ◌>>=◌}
use Rattle.b67_table.specs.References.{popped, Two, popped_two, operand_in, invalid}
use Rattle.b67_table.specs.Rows.{loaded, load_value, store, store_by}
use Rattle.b67_reach.specs.declared.Stop.{Stop}
use Rattle.b67_reach.specs.Images.{Own}
use Rattle.b67_reach.specs.Answers.{looked, both, ProgramPerforms, TestTells}
use Rattle.b67_reach.proofs.Looking.{tells_look, performs_then, performs_stop, exits}
use Rattle.b67_operators.specs.Stages.{operand_replaces}
use Rattle.b67_operators.proofs.Lettering.{two_of}

module _ {A : Type 0} (old : Own) (next : ℕ) (x : Word) (x_is : Ok x ≡ looked (look_seen old.stacks (popped old.regs))) (r : Result A Stop) where
  abbrev rest : Word → Program
  rest y = loaded old.regs y (as_indexed y) >>= operand_replaces old.regs next 1

  pub load_goes : (new : Own) (w : Word) → TestTells (loaded old.regs x (as_indexed x)) old.stacks old.rows (Ok w)
      → ProgramPerforms (operand_replaces old.regs next 1 w) old new r → ProgramPerforms (load_value old.regs next) old new r
  load_goes new w t q =
      performs_then (see (popped old.regs)) rest x old new r (tells_look (popped old.regs) old.stacks old.rows (Ok x) x_is)
      (performs_then (loaded old.regs x (as_indexed x)) (operand_replaces old.regs next 1) w old new r t q)

  pub load_stops : (stop : Stop) → TestTells (loaded old.regs x (as_indexed x)) old.stacks old.rows (Err stop) → IsErrAnd r (λ e. e ≡ stop)
      → ProgramPerforms (load_value old.regs next) old old r
  load_stops stop t e =
      exits (load_value old.regs next) old old r stop e
      (performs_then (see (popped old.regs)) rest x old old (Err stop) (tells_look (popped old.regs) old.stacks old.rows (Ok x) x_is)
      (performs_stop (loaded old.regs x (as_indexed x)) (operand_replaces old.regs next 1) stop old old t refl))

-- ---- STOD and STON

two_found : (s : Result Two InterruptKind) (x y : Word) → Ok (x, y) ≡ looked (both s) → Ok (two_of (x, y)) ≡ looked s
two_found (Ok t) x y e =
    let same : (x, y) ≡ (t.x, t.y) = cc in
    ap (λ (p : Word × Word). Ok (two_of p)) same
two_found (Err kind) x y e = cc

pub store_goes : {A : Type 0} (old new : Own) (keeps : Bool) (next : ℕ) (x y : Word) (r : Result A Stop) → Ok (x, y) ≡ looked (both (look_seen old.stacks (popped_two old.regs)))
    → (x.tag == 0) ≡ true → ProgramPerforms (store_by keeps old.regs next x y (as_indexed y)) old new r → ProgramPerforms (store keeps old.regs next) old new r
store_goes old new keeps next x y r two operand q =
    performs_then (see (popped_two old.regs)) (λ (t : Two). see (operand_in t.x) >>= (λ (v : Word). store_by keeps old.regs next v t.y (as_indexed t.y))) (two_of (x, y)) old new r
    (tells_look (popped_two old.regs) old.stacks old.rows (Ok (two_of (x, y))) (two_found (look_seen old.stacks (popped_two old.regs)) x y two))
    (performs_then (see (operand_in x)) (λ (v : Word). store_by keeps old.regs next v y (as_indexed y)) x old new r
    (tells_look (operand_in x) old.stacks old.rows (Ok x) (sym (ap (λ (b : Bool). looked (look_seen old.stacks (if b then found x else invalid))) operand))) q)
