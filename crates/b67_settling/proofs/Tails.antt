-- Plain operators of a process after a run are tails of it.
use Rattle.std.proofs.Common.{◌≡◌, refl, subst, ℕ, zero, suc, ◌+◌, ◌-◌, ◌≤◌, true, List, [], ◌∷◌, ◌++◌, reverse, replicate, arith}
use Rattle.b67_segment.specs.declared.code.Code.{Code}
use Rattle.b67_table.specs.Image.{Image}
use Rattle.b67_table.specs.Outcome.{gives}
use Rattle.b67_table.specs.Runs.{Plains, stay, go, Runs, Tails, TableRun}
use Rattle.b67_table.specs.Runs as runs
use Rattle.b67_table.specs.Table.{table, plain}

-- a run leads to the image
pub record IsRun (code : Code) (img : Image) : Type 0 where
  pub schedule : List ℕ
  pub tails : List ℕ
  pub run : TableRun code schedule tails img

up : (code : Code) (m k n : ℕ) (a b : Image) → Plains code (k + m) a n b → Tails code k a (replicate m 0 ++ n ∷ []) b
up code zero k n a b p = runs.next (subst (λ (j : ℕ). Plains code j a n b) here p) runs.none
  where
    here : k + 0 ≡ k
    here = omega arith
up code (suc m) k n a b p = runs.next stay (up code m (k + 1) n a b (subst (λ (j : ℕ). Plains code j a n b) there p))
  where
    there : k + suc m ≡ k + 1 + m
    there = omega arith

pub is_run : (code : Code) (h counts : List ℕ) (q n : ℕ) (a b : Image) → Runs code h counts a → 1 ≤ q → Plains code q a n b → IsRun code b
is_run code h counts q n a b r one p =
    record {
      schedule = reverse h;
      tails = replicate (q - 1) 0 ++ n ∷ [];
      run = record {
        history = h;
        counts = counts;
        before_tails = a;
        order = refl;
        runs = r;
        after = up code (q - 1) 1 n a b (subst (λ (j : ℕ). Plains code j a n b) here p);
      };
    }
  where
    here : q ≡ 1 + (q - 1)
    here = omega (arith, one)

-- one plain operator more
pub one_more : (code : Code) (q n : ℕ) (a b c : Image) → Plains code q a n b → plain code b q ≡ true → table code b q ≡ gives c → Plains code q a (n + 1) c
one_more code q n a b c stay e t = go e t stay
one_more code q n a b c (go {b = x} {n = k} f u more) e t = go f u (one_more code q k x b c more e t)
