-- What operators of others leave of a stack on which nobody depends.
use Rattle.std.specs.Prelude.{reverse}
use Rattle.std.proofs.Common.{◌≡◌, ◌≢◌, refl, sym, ap, ◌∙◌, ℕ, List, Some, arith}
use Rattle.std.proofs.lemmas.List.{reverse-reverse}
use Rattle.b67_control.specs.declared.Registers.{Registers}
use Rattle.b67_segment.specs.declared.code.Code.{Code}
use Rattle.b67_store.specs.Store.{stack_at, words_of}
use Rattle.b67_table.specs.declared.Private.{Private}
use Rattle.b67_table.specs.Image.{Image}
use Rattle.b67_table.specs.Outcome.{gives}
use Rattle.b67_table.specs.Runs.{TableRun}
use Rattle.b67_table.specs.Sound.{Lives}
use Rattle.b67_table.specs.Table.{table}
use Rattle.b67_table.specs.Valid.{IsValid}
use Rattle.b67_table.proofs.Limit.{limit_comes_last}
use Rattle.b67_table.proofs.OwnValid.{opened}
use Rattle.b67_settling.specs.Own.{StackReaches, own_of}
use Rattle.b67_settling.specs.Local.{NobodyDepends, StacksStayOwn}
use Rattle.b67_settling.specs.Laws.{LeavesStack, OthersLeaveStacks}
use Rattle.b67_settling.proofs.Others.{Left, Apartly, raw_apart}
use Rattle.b67_settling.proofs.Stacks.{nobody_still}

module _ (code : Code) (schedule tails : List ℕ) (a b : Image) (p q : ℕ) (r : Registers) (stay_own : StacksStayOwn code) (run : TableRun code schedule tails a) (valid : IsValid code a)
    (lives : Lives a p r) (nobody : NobodyDepends a r.stack) (differs : q ≢ p) (given : table code a q ≡ gives b) where
  here : StackReaches a p r 0
  here =
      let stack : r.stack ≡ p = (valid.processes p r lives.live lives.is).stack in
      record {
        live = lives.live;
        has = lives.is;
        words = words_of a.stacks r.stack;
        opened = ap (λ (n : ℕ). stack_at a.stacks n) stack ∙ opened code a p r valid lives.live lives.is ∙ ap (λ (n : ℕ). Some (words_of a.stacks n)) (sym stack);
        high = omega arith;
      }

  apart : Apartly code q p r 0 (own_of a r 0) a differs here (refl, refl)
  unfolding Apartly
  apart x touches same low = differs (stay_own schedule tails a run p q r x lives nobody touches same)

  left : Left p r 0 a b
  left = (raw_apart code q p r 0 (own_of a r 0) a differs here (refl, refl) apart).after b ((limit_comes_last.new code a b q).0 given).0

  leaves_stack : LeavesStack p r a b
  leaves_stack = record {
    registers = left.reaches.has;
    words = sym (reverse-reverse (words_of b.stacks r.stack)) ∙ ap (λ (m : Private). reverse m.words) left.same ∙ reverse-reverse (words_of a.stacks r.stack);
    nobody = nobody_still code schedule tails a b p q r run differs lives.is nobody given;
  }

pub others_leave_stacks : OthersLeaveStacks
others_leave_stacks = leaves_stack
