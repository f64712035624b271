-- By an entry that can be performed at once no outcome is lost.
use Rattle.std.proofs.Common.{◌≡◌, refl, sym, ap, subst, ◌∙◌, ℕ, suc, ◌≤◌, true, true≢false, List, [], ◌∷◌, Option, Some, inl, inr, arith}
use Rattle.std.specs.Prelude.{◌⊎◌}
use Rattle.std.proofs.lemmas.Bool.{cases_eq}
use Rattle.std.proofs.lemmas.Option.{same_Some}
use Rattle.b67_list.specs.Numbered.{numbered}
use Rattle.b67_segment.specs.declared.code.Code.{Code}
use Rattle.b67_table.specs.Image.{Image, is_able}
use Rattle.b67_table.specs.Beginning.{first_image}
use Rattle.b67_table.specs.Ending.{ImageEnd, image_end, goes_on, may_act}
use Rattle.b67_table.specs.Table.{stack_length}
use Rattle.b67_table.specs.Runs.{RunEntry, Runs, begin, entry}
use Rattle.b67_outcomes.specs.Entering.{Stops, IsReached}
use Rattle.b67_outcomes.specs.Settling.{Last, ended, stopped, LastComes, at_end, at_limit, after, EntryPassesBy, both, ends, LocalsPass, IsOnly, CanSettle, ImageSettles, rest, settle}
use Rattle.b67_outcomes.proofs.Determined.{entry_one, no_entry}
use Rattle.b67_outcomes.proofs.Histories.{led_more}

-- ---- ends

-- no process may act in an image with an end
pub not_ended : (img : Image) (p : ℕ) (e : ImageEnd) (A : Type 0) → may_act img p ≡ true → image_end img ≡ Some e → A
unfolding may_act
not_ended img p e A may is = absurd (true≢false (sym may ∙ ap (λ (o : Option ImageEnd). goes_on o (is_able (numbered img.states p))) is))

-- no entry comes after it
pub only_end : (code : Code) (c d : Image) (k : ℕ) (output : List (List ℕ)) (last : Last) (e : ImageEnd) → LastComes code c k output last → image_end c ≡ Some e
    → image_end d ≡ Some e → d.output ≡ c.output → (k ≡ 0) × LastComes code d 0 output last
only_end code c d k output last e (at_end {e = f} is) here there same =
    let one : f ≡ e = same_Some f e (sym is ∙ here) in
    (refl, subst (λ (o : List (List ℕ)). LastComes code d 0 o (ended f)) same (at_end (subst (λ (x : ImageEnd). image_end d ≡ Some x) (sym one) there)))
only_end code c d k output last e (at_limit {p = p} may s) here there same = not_ended c p e _ may here
only_end code c d k output last e (after {p = p} x more) here there same = not_ended c p e _ x.may here

-- ---- reached images

pub reached_next : (code : Code) (a b : Image) (p n : ℕ) → IsReached code a → RunEntry code p a n b → IsReached code b
reached_next code a b p n r e = (p ∷ r.0, led_more code r.0 p a b n r.1 e)

-- ---- the same comes after an entry more

-- after not more entries
pub record Sooner (code : Code) (b : Image) (k : ℕ) (output : List (List ℕ)) (last : Last) : Type 0 where
  pub count : ℕ
  pub less : count ≤ k
  pub comes : LastComes code b count output last

one_more : (code : Code) (b d : Image) (q m k : ℕ) (output : List (List ℕ)) (last : Last) → RunEntry code q b m d → Sooner code d k output last
    → Sooner code b (suc k) output last
one_more code b d q m k output last e s = let less = s.less in record { count = suc s.count; less = omega (arith, less); comes = after e s.comes }

module _ (code : Code) (Local : Image → ℕ → Type 0) (laws : LocalsPass code Local) where
  -- a local entry passes that of another, and so the rest
  past_other : (a b c : Image) (p q n m k : ℕ) (output : List (List ℕ)) (last : Last) → IsReached code a → Local a p → RunEntry code p a n b → RunEntry code q a m c
      → LastComes code c k output last → ((d : Image) (i : ℕ) → Local c p → RunEntry code p c i d → Sooner code d k output last) → Sooner code b (suc k) output last
  past_other a b c p q n m k output last r local x y more again = by (cases_eq p q)
    where
      passed : EntryPassesBy code Local p q b c → Sooner code b (suc k) output last
      passed (both {d = d} {n = i} {m = l} there own goes) = one_more code b d q l k output last there (again d i goes own)
      passed (ends {d = d} {m = l} {e = e} there here also same) =
          let one = only_end code c d k output last e more here also same in
          record { count = 1; less = omega arith; comes = after there one.1 }

      by : (p ≡ q) ⊎ (p ≡ q → ⊥) → Sooner code b (suc k) output last
      by (inl same) =
          record {
            count = k;
            less = omega arith;
            comes = subst (λ (z : Image). LastComes code z k output last) (entry_one code q a c b m n y (subst (λ (z : ℕ). RunEntry code z a n b) same x)) more;
          }
      by (inr other) = passed (laws.entries a b c p q n m r local other x y)

  -- where another comes to the stack limit, it does so after a local entry too
  past_limit : (a b quiet : Image) (p q n : ℕ) → IsReached code a → Local a p → RunEntry code p a n b → may_act a q ≡ true → Stops code q a quiet
      → Sooner code b 0 a.output (stopped q (stack_length q quiet))
  past_limit a b quiet p q n r local x may s = by (cases_eq p q)
    where
      by : (p ≡ q) ⊎ (p ≡ q → ⊥) → Sooner code b 0 a.output (stopped q (stack_length q quiet))
      by (inl same) = no_entry code p a quiet b n _ (subst (λ (z : ℕ). Stops code z a quiet) (sym same) s) x
      by (inr other) =
          let alike = laws.stops a b quiet p q n r local other x may s in
          record {
            count = 0;
            less = omega arith;
            comes = subst (λ (w : ℕ). LastComes code b 0 a.output (stopped q w)) alike.words
                (subst (λ (o : List (List ℕ)). LastComes code b 0 o (stopped q (stack_length q alike.later))) alike.output (at_limit alike.may alike.stops));
          }

  -- a local entry
  by_local : (a b : Image) (p n k : ℕ) (output : List (List ℕ)) (last : Last) → IsReached code a → Local a p → RunEntry code p a n b → LastComes code a k output last
      → Sooner code b k output last
  by_local a b p n k output last r local x (at_end {e = e} is) = not_ended a p e _ x.may is
  by_local a b p n k output last r local x (at_limit {quiet = quiet} {p = q} may s) = past_limit a b quiet p q n r local x may s
  by_local a b p n k output last r local x (after {b = c} {p = q} {n = m} {k = j} y more) =
      past_other a b c p q n m j output last r local x y more
      (λ d i goes own. by_local c d p i j output last (reached_next code a c q m r y) goes own more)

  -- the entry of the only one that may act
  by_only : (a b : Image) (p n k : ℕ) (output : List (List ℕ)) (last : Last) → IsOnly a p → RunEntry code p a n b → LastComes code a k output last
      → Sooner code b k output last
  by_only a b p n k output last only x (at_end {e = e} is) = not_ended a p e _ x.may is
  by_only a b p n k output last only x (at_limit {quiet = quiet} {p = q} may s) =
      no_entry code p a quiet b n _ (subst (λ (z : ℕ). Stops code z a quiet) (only.only q may) s) x
  by_only a b p n k output last only x (after {b = c} {p = q} {n = m} {k = j} y more) =
      record {
        count = j;
        less = omega arith;
        comes = subst (λ (z : Image). LastComes code z j output last)
            (entry_one code p a c b m n (subst (λ (z : ℕ). RunEntry code z a m c) (only.only q y.may) y) x) more;
      }

  by_settled : (a b : Image) (p n k : ℕ) (output : List (List ℕ)) (last : Last) → IsReached code a → CanSettle Local a p → RunEntry code p a n b
      → LastComes code a k output last → Sooner code b k output last
  by_settled a b p n k output last r (inl only) x c = by_only a b p n k output last only x c
  by_settled a b p n k output last r (inr local) x c = by_local a b p n k output last r local.1 x c

  reached_settled : (a b : Image) (h : List ℕ) → IsReached code a → ImageSettles code Local a h b → IsReached code b
  reached_settled a b h r rest = r
  reached_settled a b h r (settle {b = x} {p = p} {n = n} {settled = g} s can e) = reached_next code x b p n (reached_settled a x g r s) e

  -- all of them
  pub settled : (a b : Image) (h : List ℕ) (k : ℕ) (output : List (List ℕ)) (last : Last) → IsReached code a → ImageSettles code Local a h b
      → LastComes code a k output last → Sooner code b k output last
  settled a b h k output last r rest c = record { count = k; less = omega arith; comes = c }
  settled a b h k output last r (settle {b = x} {p = p} {n = n} {settled = g} s can e) c =
      let first = settled a x g k output last r s c in
      let less = first.less in
      let next = by_settled x b p n first.count output last (reached_settled a x g r s) can e first.comes in
      let also = next.less in
      record { count = next.count; less = omega (arith, less, also); comes = next.comes }

-- ---- from the first image

pub from_first : (code : Code) (h counts : List ℕ) (img : Image) (k : ℕ) (output : List (List ℕ)) (last : Last) → Runs code h counts img
    → LastComes code img k output last → (j : ℕ) × LastComes code first_image j output last
from_first code [] counts img k output last begin c = (k, c)
from_first code (p ∷ h) counts img k output last (entry {counts = d} {a = a} r e) c = from_first code h d a (suc k) output last r (after e c)
