-- A history leads to one image only, by one number of operators for each entry.
use Rattle.std.specs.Prelude.{◌&&◌}
use Rattle.std.proofs.Common.{arith, ◌≡◌, refl, sym, ap, subst, ◌∙◌, ℕ, ◌+◌, ◌≤◌, Bool, false, List, [], ◌∷◌, true≢false}
use Rattle.b67_num.specs.declared.FaultKind.{FaultKind}
use Rattle.b67_segment.specs.declared.code.Code.{Code}
use Rattle.b67_table.specs.Image.{Image}
use Rattle.b67_table.specs.Outcome.{Outcome, gives, faults, limit}
use Rattle.b67_table.specs.Table.{table, plain, private_next, is_new}
use Rattle.b67_table.specs.Runs.{Plains, stay, go, ProcessActs, acts, fails, RunEntry, Runs, begin, entry}
use Rattle.b67_table.proofs.Cited.{differ_fault, gives_same, kept_kind}
use Rattle.b67_list.proofs.Truths.{and_false}

-- where the table gives no new image the operator is not plain
no_plain : (code : Code) (img : Image) (p : ℕ) → is_new (table code img p) ≡ false → plain code img p ≡ false
unfolding plain
no_plain code img p e = ap (λ (x : Bool). private_next code img p && x) e ∙ and_false (private_next code img p)

stuck : (code : Code) (p : ℕ) (a b : Image) → ProcessActs code p a b → plain code a p ≡ false
stuck code p a b (acts e t) = e
stuck code p a b (fails kind t) = no_plain code a p (ap is_new t)

-- the plain operators before an action
record SamePlains (b c : Image) (n m : ℕ) : Type 0 where
  image : b ≡ c
  count : n ≡ m

plains_one : (code : Code) (p : ℕ) (a b c : Image) (n m : ℕ) → Plains code p a n b → plain code b p ≡ false → Plains code p a m c → plain code c p ≡ false → SamePlains b c n m
plains_one code p a b c n m stay e stay f = record { image = refl; count = refl }
plains_one code p a b c n m stay e (go h t rest) f = absurd (true≢false (sym h ∙ e))
plains_one code p a b c n m (go h t rest) e stay f = absurd (true≢false (sym h ∙ f))
plains_one code p a b c n m (go {b = x} {n = k} h t rest) e (go {b = y} {n = l} i u more) f =
    let s = plains_one code p x b c k l rest e (subst (λ (z : Image). Plains code p z l c) (gives_same y x (sym u ∙ t)) more) f in
    record { image = s.image; count = ap (λ (j : ℕ). j + 1) s.count }

differ_limit : (x : Image) → gives x ≡ limit → ⊥
differ_limit x e = cc

fault_limit : (o : Outcome Image) (k : FaultKind) → o ≡ faults k → o ≡ limit → ⊥
fault_limit o k e f = cc

acts_one : (code : Code) (p : ℕ) (a b c : Image) → ProcessActs code p a b → ProcessActs code p a c → b ≡ c
acts_one code p a b c (acts e t) (acts f u) = gives_same b c (sym t ∙ u)
acts_one code p a b c (acts e t) (fails kind u) = differ_fault b kind _ (sym t ∙ u)
acts_one code p a b c (fails kind t) (acts f u) = differ_fault c kind _ (sym u ∙ t)
acts_one code p a b c (fails k t) (fails l u) = kept_kind a p (table code a p) k l t u

acts_not_limit : (code : Code) (p : ℕ) (a b : Image) → ProcessActs code p a b → table code a p ≡ limit → ⊥
acts_not_limit code p a b (acts e t) l = differ_limit b (sym t ∙ l)
acts_not_limit code p a b (fails kind t) l = fault_limit (table code a p) kind t l

entry_one : (code : Code) (p : ℕ) (a b c : Image) (n m : ℕ) → RunEntry code p a n b → RunEntry code p a m c → SamePlains b c n m
entry_one code p a b c n m x y =
    let s = plains_one code p a x.quiet y.quiet n m x.plains (stuck code p x.quiet b x.action) y.plains (stuck code p y.quiet c y.action) in
    record {
      image = acts_one code p x.quiet b c x.action (subst (λ (z : Image). ProcessActs code p z c) (sym s.image) y.action);
      count = s.count;
    }

pub record SameRuns (a b : Image) (c d : List ℕ) : Type 0 where
  pub image : a ≡ b
  pub counts : c ≡ d

pub runs_same : (code : Code) (h c d : List ℕ) (a b : Image) → Runs code h c a → Runs code h d b → SameRuns a b c d
runs_same code [] c d a b begin begin = record { image = refl; counts = refl }
runs_same code (p ∷ h) c d a b (entry {counts = c2} {a = x} {n = n} r e) (entry {counts = d2} {a = y} {n = m} s f) =
    let same = runs_same code h c2 d2 x y r s in
    let one = entry_one code p x a b n m e (subst (λ (z : Image). RunEntry code p z m b) (sym same.image) f) in
    record {
      image = one.image;
      counts = ap (λ (j : ℕ). (j + 1) ∷ c2) one.count ∙ ap (λ (xs : List ℕ). (m + 1) ∷ xs) same.counts;
    }

-- ---- plain operators before an action are on the way to it

pub not_past : (code : Code) (p : ℕ) (a quiet b img : Image) (n m : ℕ) → Plains code p a n quiet → ProcessActs code p quiet b → Plains code p a m img → m ≤ n
not_past code p a quiet b img n m stay x stay = omega arith
not_past code p a quiet b img n m stay x (go h t rest) = absurd (true≢false (sym h ∙ stuck code p a b x))
not_past code p a quiet b img n m (go h t rest) x stay = omega arith
not_past code p a quiet b img n m (go {b = u} {n = k} h t rest) x (go {b = v} {n = l} i s more) =
    let le : l ≤ k = not_past code p u quiet b img k l rest x (subst (λ (z : Image). Plains code p z l img) (gives_same v u (sym s ∙ t)) more) in omega (arith, le)

pub no_limit : (code : Code) (p : ℕ) (a quiet b img : Image) (n m : ℕ) → Plains code p a n quiet → ProcessActs code p quiet b → Plains code p a m img → table code img p ≡ limit → ⊥
no_limit code p a quiet b img n m stay x stay e = acts_not_limit code p a b x e
no_limit code p a quiet b img n m stay x (go h t rest) e = true≢false (sym h ∙ stuck code p a b x)
no_limit code p a quiet b img n m (go {b = u} h t rest) x stay e = differ_limit u (sym t ∙ e)
no_limit code p a quiet b img n m (go {b = u} {n = k} h t rest) x (go {b = v} {n = l} i s more) e =
    no_limit code p u quiet b img k l rest x (subst (λ (z : Image). Plains code p z l img) (gives_same v u (sym s ∙ t)) more) e
