-- What SELECT performs, step by step.
use Rattle.std.specs.Result.{IsErrAnd}
use Rattle.std.proofs.Common.{◌≡◌, refl, ap, ◌∙◌, ℕ, ℤ, Option, Result, Ok, Err, List, to_z, of_z, unsigned_abs, ◌≤◌, ◌<◌, ◌^◌, arith}
use Rattle.std.specs.Int.{w64}
use Rattle.std.proofs.lemmas.Int.{to_z-of_z, fits_signed_from_abs}
use Rattle.b67_word.specs.Word.{Word, most_mantissa}
use Rattle.b67_control.specs.declared.Mscw.{Mscw}
use Rattle.b67_segment.specs.declared.code.Code.{Code}
use Rattle.b67_store.specs.Store.{Stacks}
use Rattle.b67_table.specs.declared.InterruptKind.{InterruptKind}
use Rattle.b67_table.specs.Arguments.{IntrinsicRow, Three, three}
use Rattle.b67_table.specs.Intrinsics.{select, case_in, case_place, gone_to_case}
use Rattle.b67_table.specs.Look.{look_seen}
use Rattle.b67_table.specs.Outcome.{limited}
use Rattle.b67_table.specs.Program.{Program, does, see, ◌>>=◌}
use Rattle.b67_table.specs.Table.{stack_length}
use Rattle.b67_reach.specs.declared.Stop.{Stop}
use Rattle.b67_reach.specs.Images.{Own}
use Rattle.b67_reach.specs.Answers.{looked, ProgramPerforms}
use Rattle.b67_reach.proofs.Looking.{tells_look, performs_then, performs_stop, exits}
use Rattle.b67_intrinsics.specs.Called.{arguments, as_triple, intrinsic_called, mark_below}

-- what the row does with the arguments, the intrinsic does
pub performs_called : {A : Type 0} (row : IntrinsicRow) (code : Code) (next : ℕ) (m : Mscw) (old new : Own) (res : Result A Stop)
    → ProgramPerforms (row code old.regs next m (arguments old.stacks old.regs)) old new res → ProgramPerforms (intrinsic_called row code old.regs next m) old new res
performs_called row code next m old new res x = record {
  outcome = λ p img s t u. ap (λ (st : Stacks). limited (stack_length p) (does p (row code old.regs next m (arguments st old.regs)) img)) s ∙ x.outcome p img s t u;
  stays = x.stays;
}

pub back : (z : ℤ) → unsigned_abs z ≤ most_mantissa → to_z w64 (of_z w64 z) ≡ z
back z h = let bound : unsigned_abs z < 2 ^ 63 = omega (arith, h) in to_z-of_z w64 z (fits_signed_from_abs w64 z bound)

pub placed_case : (st : Stacks) (x y z : ℤ) (o : Option ℕ) (r : Result (Option ℕ) Stop) → unsigned_abs x ≤ most_mantissa → unsigned_abs y ≤ most_mantissa → unsigned_abs z ≤ most_mantissa
    → o ≡ case_in (to_z w64 (of_z w64 x)) (to_z w64 (of_z w64 y)) → r ≡ looked (look_seen st (case_place (to_z w64 (of_z w64 z)) o))
    → r ≡ looked (look_seen st (case_place z (case_in x y)))
placed_case st x y z o r p q s e f =
    f ∙ ap (λ (v : ℤ). looked (look_seen st (case_place v o))) (back z s)
    ∙ ap (λ (v : Option ℕ). looked (look_seen st (case_place z v)))
    (e ∙ ap (λ (v : ℤ). case_in v (to_z w64 (of_z w64 y))) (back x p) ∙ ap (λ (v : ℤ). case_in x v) (back y q))

triple_is : (q : Result Three InterruptKind) (x y z : ℤ) → Ok (x, y, z) ≡ looked (as_triple q) → Ok (record { first = x; second = y; third = z }) ≡ looked q
triple_is (Ok t) x y z e =
    let p : (x, y, z) ≡ (t.first, t.second, t.third) = cc in ap (λ (q : ℤ × ℤ × ℤ). Ok (record { first = q.0; second = q.1; third = q.2 })) p
triple_is (Err kind) x y z e = cc

module _ (code : Code) (next : ℕ) (m : Mscw) (old : Own) (res : Result (Unit {0}) Stop) where
  abbrev words : List Word
  words = arguments old.stacks old.regs

  abbrev chain : Option ℕ → Program
  chain to = see (mark_below old.regs m) >>= (λ (lower : Mscw). gone_to_case old.regs m to)

  abbrev cases : Three → Program
  cases z = see (case_place z.third (case_in z.first z.second)) >>= chain

  module _ (x y z : ℤ) (e : Ok (x, y, z) ≡ looked (as_triple (look_seen old.stacks (three words)))) where
    abbrev case : Three
    case = record { first = x; second = y; third = z }

    given : (new : Own) (r : Result (Unit {0}) Stop) → ProgramPerforms (cases case) old new r → ProgramPerforms (intrinsic_called select code old.regs next m) old new r
    given new r q =
        performs_called select code next m old new r
        (performs_then (see (three words)) cases case old new r
        (tells_look (three words) old.stacks old.rows (Ok case) (triple_is (look_seen old.stacks (three words)) x y z e)) q)

    pub no_place : (stop : Stop) → ◌≡◌ {A = Result (Option ℕ) Stop} (Err stop) (looked (look_seen old.stacks (case_place z (case_in x y)))) → IsErrAnd res (λ e. e ≡ stop)
        → ProgramPerforms (intrinsic_called select code old.regs next m) old old res
    no_place stop f i =
        exits (intrinsic_called select code old.regs next m) old old res stop i (given old (Err stop)
        (performs_stop (see (case_place z (case_in x y))) chain stop old old (tells_look (case_place z (case_in x y)) old.stacks old.rows (Err stop) f) refl))

    module _ (to : Option ℕ) (f : Ok to ≡ looked (look_seen old.stacks (case_place z (case_in x y)))) where
      placed : (new : Own) (r : Result (Unit {0}) Stop) → ProgramPerforms (chain to) old new r → ProgramPerforms (intrinsic_called select code old.regs next m) old new r
      placed new r q =
          given new r (performs_then (see (case_place z (case_in x y))) chain to old new r (tells_look (case_place z (case_in x y)) old.stacks old.rows (Ok to) f) q)

      pub no_chain : (stop : Stop) → ◌≡◌ {A = Result Mscw Stop} (Err stop) (looked (look_seen old.stacks (mark_below old.regs m))) → IsErrAnd res (λ e. e ≡ stop)
          → ProgramPerforms (intrinsic_called select code old.regs next m) old old res
      no_chain stop h i =
          exits (intrinsic_called select code old.regs next m) old old res stop i (placed old (Err stop)
          (performs_stop (see (mark_below old.regs m)) (λ (lower : Mscw). gone_to_case old.regs m to) stop old old (tells_look (mark_below old.regs m) old.stacks old.rows (Err stop) h) refl))

      pub select_goes : (new : Own) (lower : Mscw) → Ok lower ≡ looked (look_seen old.stacks (mark_below old.regs m)) → ProgramPerforms (gone_to_case old.regs m to) old new res
          → ProgramPerforms (intrinsic_called select code old.regs next m) old new res
      select_goes new lower h q =
          placed new res (performs_then (see (mark_below old.regs m)) (λ (lower : Mscw). gone_to_case old.regs m to) lower old new res
          (tells_look (mark_below old.regs m) old.stacks old.rows (Ok lower) h) q)
